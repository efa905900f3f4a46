use Rattle.why.specs.inner.Asks.{asked_pieces}
use Rattle.why.proofs.Texts.{Run}
use Rattle.why.proofs.put_all.Given as goal

abbrev pub invariant-loop-j : goal.invariant-loop-j
invariant-loop-j l = Run (asked_pieces l.words l.args l.asked) l.initial.out l.j l.at l.out
