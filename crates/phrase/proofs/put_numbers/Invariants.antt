use Prim.Native.Nat.{◌≤◌, ◌+◌, ◌*◌}
use lib.ListN.{take}
use Rattle.text.specs.Text.{ascii, Put}
use Rattle.phrase.specs.Phrase.{apart}
use Rattle.phrase.proofs.Phrasing.{ranked}
use Rattle.phrase.proofs.put_numbers.Given as goal

abbrev pub invariant-loop-i : goal.invariant-loop-i
invariant-loop-i l = Put l.initial.out l.at (apart (ascii " ") (take l.i (ranked l.ps l.xs))) l.a l.out × (l.a ≤ l.at + l.i * 30)
