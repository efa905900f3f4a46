-- `broken::value_line` meets its contract. Assumes nothing.
use Prim.Native.Nat.{ℕ, suc, ◌+◌, ◌<◌}
use mathlib.Core.Path.{◌≡◌, sym, ◌∙◌, ap}
use mathlib.Core.List.{List}
use native.Mathlib.Numerals.{add-one}
use native.Mathlib.Omega.{arith}
use lib.ListN.{length}
use Rattle.conv.specs.Types.{Ty}
use Rattle.conv.specs.Types.Ty.{scalar}
use Rattle.text.proofs.Puts.{put_as}
use Rattle.ruled.specs.Call.{operand_ty, operand_tys}
use Rattle.conv.specs.Rank.{converts}
use Rattle.std.proofs.Common.{Option, Some, not}
use Rattle.std.specs.List.{position}
use Rattle.overload.specs.Rows.{values}
use Rattle.weigh.specs.Weigh.{first_miss}
use Rattle.reasons.specs.Reasons.{type_in, wanted_line, value_line}
use Rattle.reasons.proofs.Marked.{type-in}
use Rattle.broken.proofs.Rules.{breaks-at}
use Rattle.broken.proofs.value_line.Goals as goal

pub unwrap-k-requires : goal.unwrap-k-requires
unwrap-k-requires c = let a = c.args in rw (c.first_value.ensures ∙ breaks-at a.words.now a.s a.rest.now c.requires.4)

-- the place that is found is that of the first value that does not convert
place : (w rest : List ℕ) (s k : ℕ) (o : Option ℕ) → o ≡ position (λ v. not (converts (operand_ty w v) (scalar s))) rest → o ≡ Some k → first_miss (values (length rest) s) (operand_tys w rest) < length rest
    → k ≡ first_miss (values (length rest) s) (operand_tys w rest)
place w rest s k o e f h = let q : Some k ≡ Some (first_miss (values (length rest) s) (operand_tys w rest)) = sym f ∙ e ∙ breaks-at w s rest h in cc

pub wanted_line-requires : goal.wanted_line-requires
wanted_line-requires c = let a = c.args in
    let p = c.requires in
    let l = place a.words.now a.rest.now a.s _ _ c.first_value.ensures c.unwrap-k.ensures p.4 in
    (p.0, p.1 c.unwrap-k.result (omega (arith, l, p.4)), omega (arith, l, p.4, p.2), c.component.ensures.short, p.5)

pub returns : goal.returns
unfolding value_line
returns c = let a = c.args in
    let p = c.requires in
    let k = c.unwrap-k.result in
    let us = operand_tys a.words.now a.rest.now in
    let l = place a.words.now a.rest.now a.s _ _ c.first_value.ensures c.unwrap-k.ensures p.4 in
    let h : k < length a.rest.now = omega (arith, l, p.4) in
    let e = ap (λ (t : Ty). wanted_line (k + 1) t c.component.result.now) (sym (type-in a.words.now a.rest.now k h))
    ∙ ap (λ (i : ℕ). wanted_line i (type_in us k) c.component.result.now) (add-one k)
    ∙ ap (λ (i : ℕ). wanted_line (suc i) (type_in us i) c.component.result.now) l
    ∙ ap (λ (s : List ℕ). wanted_line (suc (first_miss (values (length a.rest.now) a.s) us)) (type_in us (first_miss (values (length a.rest.now) a.s) us)) s) c.component.ensures.spelled in
    record { put = put_as e c.wanted_line.ensures.put; upper_bound = c.wanted_line.ensures.upper_bound }
