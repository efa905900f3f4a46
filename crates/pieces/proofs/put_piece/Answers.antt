-- `pieces::put_piece` meets its contract. Assumes nothing.
use mathlib.Core.Path.{subst}
use mathlib.Core.Bool.{Bool}
use Rattle.text.proofs.Puts.{put_as}
use Rattle.call_ty.specs.Calls.{marks_of}
use Rattle.reasons.specs.inner.Told.{types_of, Told}
use Rattle.pieces.proofs.Pieces.{broken-only}
use Rattle.pieces.proofs.put_piece.Goals as goal

pub broken_line-requires : goal.broken_line-requires
broken_line-requires c = let a = c.args in let q = broken-only a.rule c.if-rule-lt-RULE_BITCAST.false a.accepted (types_of a.words.now a.args.now) (marks_of a.args.now) a.j c.requires.1 in (subst (λ (b : Bool). Told a.words.now a.n a.rule b a.args.now) q.0 c.requires.0, c.if-rule-lt-RULE_BITCAST.false, c.requires.2)

pub returns : goal.returns
returns c = let a = c.args in let q = broken-only a.rule c.if-rule-lt-RULE_BITCAST.false a.accepted (types_of a.words.now a.args.now) (marks_of a.args.now) a.j c.requires.1 in record { put = put_as q.1 c.broken_line.ensures.put; upper_bound = c.broken_line.ensures.upper_bound }
