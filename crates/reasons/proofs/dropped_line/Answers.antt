-- `reasons::dropped_line` meets its contract. Assumes nothing.
use mathlib.Core.Path.{◌≡◌, ◌∙◌, ap}
use mathlib.Core.List.{List, map}
use native.Mathlib.Omega.{arith}
use lib.ListN.{length, length-map}
use Rattle.conv.specs.Types.{abstract_ty}
use Rattle.held.specs.Held.{mark_of}
use Rattle.text.specs.Text.{ascii}
use Rattle.text.proofs.Puts.{put-put, put_as}
use Rattle.overload.specs.inner.Code.{operand}
use Rattle.call_ty.specs.Calls.{marks_of}
use Rattle.phrase.specs.Phrase.{operand_at}
use Rattle.reasons.specs.Reasons.{is_true, dropped_line}
use Rattle.reasons.proofs.Marked.{first-most, first-running}
use Rattle.weigh.specs.Weigh.{first_by}
use Rattle.std.proofs.Common.{Option}
use Rattle.std.specs.Option.{unwrap_or}
use Rattle.std.specs.List.{position}
use Prim.Native.Nat.{ℕ}
use Rattle.weigh.proofs.Weighing.{placed-or}
use Rattle.reasons.proofs.dropped_line.Goals as goal

running : (args : List ℕ) (o : Option ℕ) (k : ℕ) → o ≡ position mark_of args → k ≡ unwrap_or o (length args) → k ≡ first_by is_true (marks_of args)
running args o k e f = f ∙ ap (λ (x : Option ℕ). unwrap_or x (length args)) e ∙ first-running args

pub put_signature-a-requires : goal.put_signature-a-requires
put_signature-a-requires c = (omega (arith, c.requires.3, c.requires.1), c.requires.0)

pub put_operand-c-requires : goal.put_operand-c-requires
unfolding ascii
put_operand-c-requires c = let p = c.requires in (omega (arith, p.3, p.1, c.put_signature-a.ensures.upper_bound, c.put_text-b.ensures.place), omega (arith, p.1, (c.unwrap_or.ensures ∙ placed-or _ _ _ c.first_abstract.ensures (omega (arith, first-most abstract_ty (map operand c.args.ps.now), length-map c.args.ps.now operand))), first-most abstract_ty (map operand c.args.ps.now), length-map c.args.ps.now operand))

pub put_operand-e-requires : goal.put_operand-e-requires
unfolding ascii
put_operand-e-requires c = let p = c.requires in (omega (arith, p.3, p.1, c.put_signature-a.ensures.upper_bound, c.put_text-b.ensures.place, c.put_operand-c.ensures.upper_bound, c.put_text-d.ensures.place), omega (arith, p.2, running c.args.args.now _ _ c.first_running.ensures c.unwrap_or-2.ensures, first-most is_true (marks_of c.args.args.now), length-map c.args.args.now mark_of))

pub put_byte-requires : goal.put_byte-requires
unfolding ascii
put_byte-requires c = let p = c.requires in omega (arith, p.3, p.1, c.put_signature-a.ensures.upper_bound, c.put_text-b.ensures.place, c.put_operand-c.ensures.upper_bound, c.put_text-d.ensures.place, c.put_operand-e.ensures.upper_bound, c.put_text-f.ensures.place)

pub returns : goal.returns
unfolding ascii dropped_line
returns c = let p = c.requires in record { put = put-put (put-put (put-put (put-put (put-put (put-put c.put_signature-a.ensures.put c.put_text-b.ensures) (put_as (ap operand_at (c.unwrap_or.ensures ∙ placed-or _ _ _ c.first_abstract.ensures (omega (arith, first-most abstract_ty (map operand c.args.ps.now), length-map c.args.ps.now operand)))) c.put_operand-c.ensures.put)) c.put_text-d.ensures) (put_as (ap operand_at (running c.args.args.now _ _ c.first_running.ensures c.unwrap_or-2.ensures)) c.put_operand-e.ensures.put)) c.put_text-f.ensures) c.put_byte.ensures; upper_bound = omega (arith, p.1, c.put_signature-a.ensures.upper_bound, c.put_text-b.ensures.place, c.put_operand-c.ensures.upper_bound, c.put_text-d.ensures.place, c.put_operand-e.ensures.upper_bound, c.put_text-f.ensures.place, c.put_byte.ensures.place) }
