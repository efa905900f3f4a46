use Rattle.vectors.proofs.FillLaws.{Below}
use Rattle.vectors.proofs.fill.Given as goal

abbrev pub invariant-loop-i : goal.invariant-loop-i
invariant-loop-i l = Below l.initial.words l.i l.used l.words
