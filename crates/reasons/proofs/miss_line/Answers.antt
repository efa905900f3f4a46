-- `reasons::miss_line` meets its contract. Assumes nothing.
use mathlib.Core.Path.{sym, ◌∙◌, ap, subst}
use mathlib.Core.List.{List, map, ◌++◌, append_assoc}
use native.Mathlib.Omega.{arith}
use Prim.Native.Nat.{ℕ, ◌<◌}
use lib.ListN.{length, length-map}
use Rattle.conv.specs.Types.{Ty}
use Rattle.held.specs.Held.{number_of}
use Rattle.text.specs.Text.{ascii}
use Rattle.text.proofs.Puts.{put-put, put_as}
use Rattle.spell.specs.Spell.{spelling}
use Rattle.overload.specs.inner.Code.{code_of, operand}
use Rattle.table.specs.Denote.{type_at}
use Rattle.call_ty.specs.Calls.{numbers}
use Rattle.call_ty.proofs.Lists.{number_at, types-formed}
use Rattle.weigh.specs.Weigh.{first_miss}
use Rattle.phrase.specs.Phrase.{signature, operand_at}
use Rattle.reasons.specs.Reasons.{miss_line, line_end, type_in}
use Rattle.reasons.specs.inner.Told.{types_of}
use Rattle.reasons.proofs.Marked.{type-in}
use Rattle.reasons.proofs.Coded.{miss-coded, all_made}
use Rattle.weigh.proofs.Weighing.{place-at, placed-at}
use Rattle.reasons.proofs.miss_line.Goals as goal

pub unwrap-k-requires : goal.unwrap-k-requires
unwrap-k-requires c = rw (c.first_miss.ensures ∙ place-at _ _ c.requires.6)

pub bounds-args-k : goal.bounds-args-k
bounds-args-k c = let p = c.requires in omega (arith, (sym (placed-at _ _ c.first_miss.result c.first_miss.ensures c.unwrap-k.result c.unwrap-k.ensures).1), p.6, ap length p.2, length-map (types_of c.args.words.now c.args.args.now) code_of, length-map (numbers c.args.args.now) (type_at c.args.words.now), length-map c.args.args.now number_of)

pub put_is-c-requires : goal.put_is-c-requires
unfolding ascii
put_is-c-requires c = let p = c.requires in let a = c.args in let k = c.unwrap-k.result in let l : k < length a.args.now = omega (arith, (sym (placed-at _ _ c.first_miss.result c.first_miss.ensures c.unwrap-k.result c.unwrap-k.ensures).1), p.6, ap length p.2, length-map (types_of a.words.now a.args.now) code_of, length-map (numbers a.args.now) (type_at a.words.now), length-map a.args.now number_of) in (p.0, subst (λ (i : ℕ). i < a.n) (number_at a.args.now k) (p.1 k (omega (arith, l, length-map a.args.now number_of))), omega (arith, (sym (placed-at _ _ c.first_miss.result c.first_miss.ensures c.unwrap-k.result c.unwrap-k.ensures).1), p.6, p.4, p.5), omega (arith, p.7, p.5, c.put_signature-a.ensures.upper_bound, c.put_text-b.ensures.place))

pub put_byte-requires : goal.put_byte-requires
unfolding ascii
put_byte-requires c = let p = c.requires in omega (arith, p.7, p.5, c.put_signature-a.ensures.upper_bound, c.put_text-b.ensures.place, c.put_is-c.ensures.upper_bound)

pub returns : goal.returns
unfolding ascii miss_line
returns c = let p = c.requires in let a = c.args in let k = c.unwrap-k.result in let ts = types_of a.words.now a.args.now in let m = (sym (placed-at _ _ c.first_miss.result c.first_miss.ensures c.unwrap-k.result c.unwrap-k.ensures).1) ∙ ap (λ (xs : List ℕ). first_miss (map operand a.ps.now) (map operand xs)) p.2 ∙ sym (miss-coded (map operand a.ps.now) ts (all_made a.ps.now p.3) (types-formed a.words.now a.n p.0 (numbers a.args.now) p.1)) in let l : k < length a.args.now = omega (arith, (sym (placed-at _ _ c.first_miss.result c.first_miss.ensures c.unwrap-k.result c.unwrap-k.ensures).1), p.6, ap length p.2, length-map ts code_of, length-map (numbers a.args.now) (type_at a.words.now), length-map a.args.now number_of) in record { put = put_as (ap (λ (t : List ℕ). signature (map operand a.ps.now) ++ ascii ": " ++ t ++ line_end) (ap (λ (t : Ty). operand_at k ++ spelling t) (sym (type-in a.words.now a.args.now k l)) ∙ ap (λ (i : ℕ). operand_at i ++ spelling (type_in ts i)) m) ∙ ap (λ (t : List ℕ). t ++ line_end) (sym (append_assoc (signature (map operand a.ps.now) ++ ascii ": ") (operand_at (first_miss (map operand a.ps.now) ts)) (spelling (type_in ts (first_miss (map operand a.ps.now) ts)))))) (put-put (put-put (put-put c.put_signature-a.ensures.put c.put_text-b.ensures) c.put_is-c.ensures.put) c.put_byte.ensures); upper_bound = omega (arith, p.5, c.put_signature-a.ensures.upper_bound, c.put_text-b.ensures.place, c.put_is-c.ensures.upper_bound, c.put_byte.ensures.place) }
