use Rattle.overload.proofs.Resolving.{Passed}
use Rattle.overload.proofs.resolve.Given as goal

abbrev pub invariant-loop-j : goal.invariant-loop-j
invariant-loop-j l = Passed l.row l.running l.xs l.k l.j
