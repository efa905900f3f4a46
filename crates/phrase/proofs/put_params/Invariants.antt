use Prim.Native.Nat.{◌≤◌, ◌+◌, ◌*◌}
use lib.ListN.{take}
use Rattle.text.specs.Text.{ascii, Put}
use Rattle.phrase.specs.Phrase.{apart}
use Rattle.phrase.proofs.Phrasing.{spelled}
use Rattle.phrase.proofs.put_params.Given as goal

abbrev pub invariant-loop-i : goal.invariant-loop-i
invariant-loop-i l = Put l.initial.out l.at (apart (ascii ", ") (take l.i (spelled l.ps))) l.a l.out × (l.a ≤ l.at + l.i * 100)
