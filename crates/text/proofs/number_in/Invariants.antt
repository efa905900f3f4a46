use Rattle.text.proofs.Numbers.{Read}
use Rattle.text.proofs.number_in.Given as goal

abbrev pub invariant-loop-b : goal.invariant-loop-b
invariant-loop-b l = Read l.text l.b-index l.n
