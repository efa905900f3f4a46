use Rattle.overload.proofs.Narrow.{Narrowed}
use Rattle.overload.proofs.fit.Given as goal

abbrev pub invariant-loop-k : goal.invariant-loop-k
invariant-loop-k l = Narrowed l.f.no l.z.no l.xs l.joined l.m l.v l.k
