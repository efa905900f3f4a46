-- What each call on memory comes to, by its component or by what it loads. Assumes nothing.
use Prim.Native.Nat.{ℕ, ◌<◌}
use native.Mathlib.Omega.{arith}
use mathlib.Core.Path.{◌≡◌, refl, sym, ◌∙◌, ap}
use mathlib.Core.Bool.{true}
use mathlib.Core.List.{List, ◌∷◌}
use lib.ListN.{length}
use Rattle.conv.specs.Types.{Ty, formed}
use Rattle.conv.specs.Types.Ty.{scalar, atomic, exchange}
use Rattle.held.specs.Held.{number_of}
use Rattle.overload.specs.Overload.{Judged}
use Rattle.overload.specs.Overload.Judged.{gives, none_fits}
use Rattle.overload.specs.Rows.{judge_atomic}
use Rattle.overload.proofs.Memory.{integer-small, exchange-formed}
use Rattle.answer.specs.Answer.{accept}
use Rattle.answer.specs.declared.Reason.TheVariants.{NoOverload}
use Rattle.table.specs.Table.{kind_exchange, Sound}
use Rattle.table.specs.Denote.{type_at}
use Rattle.table.specs.Enter.{entry_answer, EnterDone}
use Rattle.table.specs.Placing.{turned_down, entering}
use Rattle.table.specs.declared.Entry.{Entry}
use Rattle.std.specs.Prelude.{Option, Some, None, Result}
use Rattle.table.specs.declared.Entered.{Entered}
use Rattle.table.specs.declared.Lacks.{Lacks}
use Rattle.table.proofs.TypeLaws.{made-exchange, type-scalar}
use Rattle.table.proofs.FormedLaws.{clean, formed-at}
use Rattle.table.proofs.EnterLaws.{ty-made, allow}
use Rattle.table.proofs.PlacingLaws.{enter-outcome, standing-outcome}
use Rattle.ruled.specs.Call.{operand_ty, operand_tys, judged_outcome, without_value, silent_outcome}
use Rattle.memory.specs.inner.Component.{atomic_component}
use Rattle.memory.proofs.Fitting.{component-formed, none_here, some-here}

module _ (place : ℕ) (w : List ℕ) (n : ℕ) (s : Sound w n) where
  pub nothing-fits : (j : Judged) → none_fits ≡ j → turned_down NoOverload place w n ≡ judged_outcome place w n j
  unfolding judged_outcome
  nothing-fits j e = ap (judged_outcome place w n) e

  -- a type that stands in the table
  pub standing : (j : Judged) (t : ℕ) → t < n → gives (type_at w t) ≡ j → record { answer = accept t n; words = w } ≡ judged_outcome place w n j
  unfolding judged_outcome
  standing j t l e = sym (standing-outcome place w n s t (type_at w t) l refl) ∙ ap (judged_outcome place w n) e

  -- a scalar
  pub standing-scalar : (j : Judged) (t : ℕ) → t < 7 → gives (scalar t) ≡ j → record { answer = accept t n; words = w } ≡ judged_outcome place w n j
  standing-scalar j t l e = let b = s.low in standing j t (omega arith) (ap gives (type-scalar w t l) ∙ e)

  -- A CALL ON ATOMICS: its first operand, the others, and the component that was found

  module _ (a : ℕ) (below : number_of a < n) (vs : List ℕ) (found : Option ℕ) (is : found ≡ atomic_component (operand_ty w a) (operand_tys w vs)) where
    first-formed : formed (operand_ty w a) ≡ true
    first-formed = formed-at w n s (number_of a) below

    abbrev judged : (ℕ → Ty) → Judged
    judged out = judge_atomic (length vs) out (operand_ty w a ∷ operand_tys w vs)

    component-here : (c : ℕ) → found ≡ Some c → formed (atomic c) ≡ true
    component-here c h = component-formed (operand_ty w a) (operand_tys w vs) first-formed c (sym is ∙ h)

    pub component-low : (c : ℕ) → found ≡ Some c → c < 7
    component-low c h = integer-small c (component-here c h)

    pub no-component : (out : ℕ → Ty) → found ≡ None → turned_down NoOverload place w n ≡ judged_outcome place w n (judged out)
    no-component out h = nothing-fits (judged out) (none_here w (operand_ty w a) vs out (sym is ∙ h))

    pub gives-component : (c : ℕ) → found ≡ Some c → record { answer = accept c n; words = w } ≡ judged_outcome place w n (judged scalar)
    gives-component c h = standing-scalar (judged scalar) c (component-low c h) (some-here w (operand_ty w a) vs scalar c (sym is ∙ h))

    pub silent-none : found ≡ None → turned_down NoOverload place w n ≡ silent_outcome place w n (judged scalar)
    unfolding silent_outcome
    silent-none h = ap (silent_outcome place w n) (none_here w (operand_ty w a) vs scalar (sym is ∙ h))

    pub silent-some : (c : ℕ) → found ≡ Some c → without_value w n ≡ silent_outcome place w n (judged scalar)
    unfolding silent_outcome
    silent-some c h = ap (silent_outcome place w n) (some-here w (operand_ty w a) vs scalar c (sym is ∙ h))

    -- the result of a compare is entered
    pub gives-exchange : (c : ℕ) → found ≡ Some c → (r : Result Entered Lacks) (v : List ℕ) → EnterDone w n (record { kind = kind_exchange; p = 0; q = 0; elem = c }) r v
        → record { answer = entry_answer place r n; words = v } ≡ judged_outcome place w n (judged exchange)
    unfolding judged_outcome clean
    gives-exchange c h r v d =
        let e : Entry = record { kind = kind_exchange; p = 0; q = 0; elem = c } in
        let f = component-here c h in
        let l = integer-small c f in
        let b = s.low in
        let m = made-exchange e (type_at w c) refl in
        enter-outcome place w n s e (allow w n s e refl (omega arith) (ap formed m ∙ exchange-formed c f)) r v d
        ∙ ap (entering place w n) (ty-made w e (omega arith) ∙ m)
        ∙ ap (judged_outcome place w n) (some-here w (operand_ty w a) vs exchange c (sym is ∙ h))
