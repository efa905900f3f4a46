-- The line of a call that a rule that is not listed refuses, from its first operand and the others. Assumes nothing.
use Prim.Native.Nat.{ℕ, suc, ◌≤◌, ◌<◌}
use mathlib.Core.Path.{◌≡◌, refl, sym, ◌∙◌, ap, subst}
use mathlib.Core.Bool.{Bool, true, false, cond}
use mathlib.Core.List.{List, ◌∷◌, map}
use native.Mathlib.Omega.{arith}
use lib.ListN.{length, get_or, length-map}
use Rattle.conv.specs.Types.{Ty, formed}
use Rattle.held.specs.Held.{number_of}
use Rattle.text.specs.Text.{ascii}
use Rattle.table.specs.Denote.{type_at}
use Rattle.table.proofs.FormedLaws.{formed-at}
use Rattle.overload.specs.Overload.Judged.{none_fits}
use Rattle.overload.specs.Rows.{values, takes_atomic, atomic_in, judge_by}
use Rattle.call_ty.specs.Calls.{marks_of, operands_by}
use Rattle.call_ty.proofs.Lists.{number_at, others, others-count, types-by}
use Rattle.weigh.specs.Weigh.{first_miss}
use Rattle.reasons.specs.Reasons.{type_in, first_wanted, wanted_line, value_line, broken_line}
use Rattle.reasons.specs.inner.Told.{ruling_of, types_of, Told}
use Rattle.broken.specs.inner.Alone.{alone}
use Rattle.broken.proofs.Rules.{some-operand, not-alone, broken-alone, broken-atomic, value-breaks, breaks-place}

module _ (w : List ℕ) (n rule : ℕ) (args : List ℕ) (told : Told w n rule false args) (h : 100 ≤ rule) where
  abbrev pub first_ty : Ty
  first_ty = type_at w (number_of (get_or args 0 0))

  abbrev pub other_tys : List Ty
  other_tys = map (type_at w) (map number_of (others args))

  pub some : 1 ≤ length args
  some = omega (arith, told.count, (some-operand rule h).0)

  pub first_under : number_of (get_or args 0 0) < n
  first_under = subst (λ (i : ℕ). i < n) (number_at args 0) (told.under 0 (omega (arith, some, length-map args number_of)))

  pub first-formed : formed first_ty ≡ true
  first-formed = formed-at w n told.sound (number_of (get_or args 0 0)) first_under

  pub few : length (others args) ≤ 2
  few = omega (arith, others-count args some, told.count, (some-operand rule h).1)

  counted : length other_tys ≡ length (others args)
  counted = length-map (map number_of (others args)) (type_at w) ∙ length-map (others args) number_of

  wanted : suc (length other_tys) ≡ operands_by (ruling_of rule)
  wanted = omega (arith, counted, others-count args some, told.count)

  apart : types_of w args ≡ first_ty ∷ other_tys
  apart = sym (types-by args some w)

  pub line-alone : alone rule ≡ true → wanted_line 0 first_ty (ascii (first_wanted (ruling_of rule))) ≡ broken_line (ruling_of rule) (types_of w args)
  line-alone a = sym (broken-alone rule a (types_of w args) ∙ ap (λ (ts : List Ty). wanted_line 0 (type_in ts 0) (ascii (first_wanted (ruling_of rule)))) apart)

  module _ (a : alone rule ≡ false) where
    line : broken_line (ruling_of rule) (types_of w args) ≡ cond (takes_atomic first_ty) (value_line (length other_tys) (atomic_in first_ty) other_tys) (wanted_line 0 first_ty (ascii (first_wanted (ruling_of rule))))
    line = let m = not-alone rule a in ap (broken_line (ruling_of rule)) apart ∙ broken-atomic rule h m.0 m.1 m.2 m.3 first_ty other_tys wanted

    pub line_first : takes_atomic first_ty ≡ false → wanted_line 0 first_ty (ascii (first_wanted (ruling_of rule))) ≡ broken_line (ruling_of rule) (types_of w args)
    line_first e = sym (line ∙ ap (λ (b : Bool). cond b (value_line (length other_tys) (atomic_in first_ty) other_tys) (wanted_line 0 first_ty (ascii (first_wanted (ruling_of rule))))) e)

    pub line-value : takes_atomic first_ty ≡ true → value_line (length (others args)) (atomic_in first_ty) other_tys ≡ broken_line (ruling_of rule) (types_of w args)
    line-value e =
        ap (λ (k : ℕ). value_line k (atomic_in first_ty) other_tys) (sym counted)
        ∙ sym (line ∙ ap (λ (b : Bool). cond b (value_line (length other_tys) (atomic_in first_ty) other_tys) (wanted_line 0 first_ty (ascii (first_wanted (ruling_of rule))))) e)

    pub value-place : takes_atomic first_ty ≡ true → first_miss (values (length (others args)) (atomic_in first_ty)) other_tys < length (others args)
    value-place e =
        let m = not-alone rule a in
        let j : judge_by (ruling_of rule) (first_ty ∷ other_tys) (marks_of args) ≡ none_fits = ap (λ (ts : List Ty). judge_by (ruling_of rule) ts (marks_of args)) (sym apart) ∙ told.none refl in
        let f = value-breaks rule h m.0 m.1 m.2 m.3 first_ty other_tys (marks_of args) wanted j e in
        let b = breaks-place (length other_tys) (atomic_in first_ty) other_tys refl f in
        subst (λ (k : ℕ). first_miss (values k (atomic_in first_ty)) other_tys < k) counted b
