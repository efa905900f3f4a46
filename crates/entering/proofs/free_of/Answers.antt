-- `entering::free_of` meets its contract: the least of the two, less the count. Assumes nothing.
use Prim.Native.Nat.{◌/◌, ◌≤◌, ◌<◌}
use native.Mathlib.Omega.{arith}
use lib.Dec.{leb}
use lib.ListN.{length}
use borrow.Author.Tests.{leb-true, leb-false}
use Rattle.table.proofs.KindLaws.{split}
use Rattle.table.specs.Enter.{free}
use Rattle.entering.proofs.free_of.Goals as goal

pub returns : goal.returns
unfolding free
returns c =
    let w = length c.args.words.now / 4 in
    split (leb 256 w)
    (λ b. let h : 256 ≤ w = leb-true 256 w b in rw b (omega arith))
    (λ b. let h : w < 256 = leb-false 256 w b in rw b (omega arith))
