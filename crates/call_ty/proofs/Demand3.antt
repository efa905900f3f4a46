-- DEMANDS 2 AND 3 for builtins: "For .. ruled builtins, loaded operands in a sound table with room". `Demand3` says the demand in the customer's words over the overloads
-- that a name has, written from the standard, less those that K3 drops by the operands' marks; what is answered stands for the preferred overload's result. Assumes nothing.
use Prim.Native.Nat.{ℕ}
use mathlib.Core.Path.{◌≡◌, refl, sym, ◌∙◌, ap, subst}
use mathlib.Core.Logic.{◌≢◌}
use mathlib.Core.Bool.{Bool, true, false}
use mathlib.Core.List.{List, []}
use native.Mathlib.Omega.{arith}
use lib.Dec.{T, eqb}
use lib.ListN.{length}
use borrow.Author.Tests.{eqb-true, eqb-false}
use Rattle.overload.specs.Overload.{Overload, fits}
use Rattle.overload.specs.Marks.{remaining, running_abstract}
use Rattle.overload.specs.Rows.{Ruling, overloads_by, judge_by, Known}
use Rattle.overload.specs.Rows.Ruling.{on_atomic}
use Rattle.overload.proofs.Operands.{all_formed}
use Rattle.overload.proofs.Preference.{one-preferred}
use Rattle.overload.proofs.Rulings.{ruling-resolved, ruling-formed}
use Rattle.names.specs.Names.{Named, rule_of}
use Rattle.names.specs.Names.Rule.{ruling, storing}
use Rattle.names.specs.Names.Named.{rule}
use Rattle.names.proofs.Rules.{ruling-known}
use Rattle.table.specs.Table.{Sound}
use Rattle.table.specs.Placing.{Outcome, turned_down}
use Rattle.answer.specs.declared.Reason.TheVariants.{NoOverload, Operands}
use Rattle.table.proofs.SoundLaws.{of-sound}
use Rattle.table.proofs.KindLaws.{split}
use Rattle.ruled.specs.Call.{any_reference, judged_outcome, silent_outcome}
use Rattle.ruled.specs.Demand3.{Accepts, HasRoom, Demand3, SilentDemand3}
use Rattle.ruled.proofs.Demands.{demand-3, silent-demand-3, judged-nothing}
use Rattle.call_ty.specs.Calls.{operands_of, given_by, given_outcome, by_rule, template_right, numbers, marks_of, types, type_builtin_fn}
use Rattle.call_ty.specs.inner.Codes.{Under}
use Rattle.call_ty.proofs.Lists.{types-formed, under_all}
use Rattle.call_ty.proofs.Counts.{wrong-count}
use Rattle.call_ty.proofs.Ways.{by_count, by_call, single-call}

-- the demand's own hypotheses: a sound table, a ruled name, no template list, operands below n of which none is a reference,
-- and none both running and abstract at any depth

module _ (profile : ℕ) (w : List ℕ) (n : ℕ) (s : Sound w n) (name args : List ℕ) (r : Ruling) (runs : Bool) (ruled : rule_of profile name ≡ rule (ruling r) runs)
    (under : Under n (numbers args)) (loaded : any_reference (types w (numbers args)) ≡ false) (apart : running_abstract (types w (numbers args)) (marks_of args) ≡ false) where
  formed-args : all_formed (types w (numbers args)) ≡ true
  formed-args = types-formed w n s (numbers args) under

  no-template : template_right (ruling r) [] ≡ true
  unfolding template_right
  no-template = refl

  single : by_rule 0 w n (rule (ruling r) runs) [] (types w (numbers args)) (marks_of args) ≡ type_builtin_fn profile w n name [] args
  single =
      ap (λ (k : Named). by_rule 0 w n k [] (types w (numbers args)) (marks_of args)) (sym ruled)
      ∙ single-call profile w n name [] args (of-sound w n s) (under_all n [] (λ i l. absurd (omega arith))) (under_all n (numbers args) under)

  -- as many operands as the name's overloads have parameters: judged by those overloads
  judged : length (types w (numbers args)) ≡ operands_of (ruling r) → judged_outcome 0 w n (judge_by r (types w (numbers args)) (marks_of args)) ≡ type_builtin_fn profile w n name [] args
  unfolding given_outcome given_by
  judged k = by_call 0 w n (ruling r) runs [] (types w (numbers args)) (marks_of args) no-template k loaded apart ∙ single

  -- any other count is refused with 7, and no overload fits
  pub counted : length (types w (numbers args)) ≢ operands_of (ruling r) → type_builtin_fn profile w n name [] args ≡ turned_down Operands 0 w n
  counted k = sym (by_count 0 w n (ruling r) runs [] (types w (numbers args)) (marks_of args) no-template k ∙ single)

  miscounted : length (types w (numbers args)) ≢ operands_of (ruling r) → Demand3 (remaining (marks_of args) (overloads_by r)) (types w (numbers args)) (type_builtin_fn profile w n name [] args)
  miscounted k =
      let none : (p : Overload) → remaining (marks_of args) (overloads_by r) p → T (fits p.params (types w (numbers args))) → ⊥ = λ p m f. wrong-count r (ruling-known profile name r ruled) (types w (numbers args)) k p m.0 f in
      let no : Accepts (type_builtin_fn profile w n name [] args) → ⊥ = λ a. refused-not (type_builtin_fn profile w n name [] args) (counted k) a in
      record {
        accepted = λ p m f. absurd (none p m f);
        fitting = λ a. absurd (no a);
        result = λ t m e. absurd (no (t, m, e));
        alone = one-preferred (remaining (marks_of args) (overloads_by r)) (types w (numbers args));
      }
    where
      refused-not : (o : Outcome) → o ≡ turned_down Operands 0 w n → Accepts o → ⊥
      refused-not o e a =
          let q = sym a.2 ∙ ap (λ (x : Outcome). x.answer) e in
          let z : ◌≡◌ {A = ℕ} 0 1 = cc in
          omega arith

  -- DEMAND 3
  pub builtin-demand-3 : HasRoom (remaining (marks_of args) (overloads_by r)) w n (types w (numbers args)) → Demand3 (remaining (marks_of args) (overloads_by r)) (types w (numbers args)) (type_builtin_fn profile w n name [] args)
  builtin-demand-3 room =
      let known = ruling-known profile name r ruled in
      split (eqb (length (types w (numbers args))) (operands_of (ruling r)))
      (λ b.
      subst (Demand3 (remaining (marks_of args) (overloads_by r)) (types w (numbers args))) (judged (eqb-true _ _ b))
      (demand-3 0 w n s (remaining (marks_of args) (overloads_by r)) (types w (numbers args)) (judge_by r (types w (numbers args)) (marks_of args)) (ruling-resolved (types w (numbers args)) formed-args (marks_of args) r known)
      (ruling-formed (types w (numbers args)) formed-args (marks_of args) r known) room))
      (λ b. miscounted (eqb-false _ _ b))

  -- and where none fits the right count: refused with 8
  pub builtin-none : length (types w (numbers args)) ≡ operands_of (ruling r) → ((p : Overload) → remaining (marks_of args) (overloads_by r) p → T (fits p.params (types w (numbers args))) → ⊥)
      → type_builtin_fn profile w n name [] args ≡ turned_down NoOverload 0 w n
  builtin-none k h =
      let known = ruling-known profile name r ruled in
      sym (judged k)
      ∙ judged-nothing 0 w n s (remaining (marks_of args) (overloads_by r)) (types w (numbers args)) (judge_by r (types w (numbers args)) (marks_of args)) (ruling-resolved (types w (numbers args)) formed-args (marks_of args) r known) h

-- ATOMICSTORE, with the same hypotheses, over the overloads of a call on atomics with one value: accepted, with no value, exactly when one fits. It needs no room

module _ (profile : ℕ) (w : List ℕ) (n : ℕ) (s : Sound w n) (name args : List ℕ) (runs : Bool) (stores : rule_of profile name ≡ rule storing runs)
    (under : Under n (numbers args)) (loaded : any_reference (types w (numbers args)) ≡ false) (apart : running_abstract (types w (numbers args)) (marks_of args) ≡ false) where
  abbrev stored : Overload → Type 0
  stored = remaining (marks_of args) (overloads_by (on_atomic 1))

  no-list : template_right storing [] ≡ true
  unfolding template_right
  no-list = refl

  store-single : by_rule 0 w n (rule storing runs) [] (types w (numbers args)) (marks_of args) ≡ type_builtin_fn profile w n name [] args
  store-single =
      ap (λ (k : Named). by_rule 0 w n k [] (types w (numbers args)) (marks_of args)) (sym stores)
      ∙ single-call profile w n name [] args (of-sound w n s) (under_all n [] (λ i l. absurd (omega arith))) (under_all n (numbers args) under)

  store-judged : length (types w (numbers args)) ≡ operands_of storing → silent_outcome 0 w n (judge_by (on_atomic 1) (types w (numbers args)) (marks_of args)) ≡ type_builtin_fn profile w n name [] args
  unfolding given_outcome given_by
  store-judged k = by_call 0 w n storing runs [] (types w (numbers args)) (marks_of args) no-list k loaded apart ∙ store-single

  store-counted : length (types w (numbers args)) ≢ operands_of storing → turned_down Operands 0 w n ≡ type_builtin_fn profile w n name [] args
  store-counted k = by_count 0 w n storing runs [] (types w (numbers args)) (marks_of args) no-list k ∙ store-single

  store-miscounted : length (types w (numbers args)) ≢ operands_of storing → SilentDemand3 stored (types w (numbers args)) (turned_down Operands 0 w n)
  unfolding Known operands_of
  store-miscounted k =
      record {
        accepted = λ p m f. absurd (wrong-count (on_atomic 1) tt (types w (numbers args)) k p m.0 f);
        fitting = λ a. let e = a.1 in absurd (let z : ◌≡◌ {A = ℕ} 0 1 = cc in omega arith);
        result = λ t m e. absurd (let z : ◌≡◌ {A = ℕ} 0 1 = cc in omega arith);
        alone = one-preferred stored (types w (numbers args));
      }

  pub store-demand-3 : SilentDemand3 stored (types w (numbers args)) (type_builtin_fn profile w n name [] args)
  unfolding Known
  store-demand-3 =
      let f = types-formed w n s (numbers args) under in
      split (eqb (length (types w (numbers args))) (operands_of storing))
      (λ b.
      subst (SilentDemand3 stored (types w (numbers args))) (store-judged (eqb-true _ _ b))
      (silent-demand-3 0 w n s stored (types w (numbers args)) _ (ruling-resolved (types w (numbers args)) f (marks_of args) (on_atomic 1) tt)))
      (λ b. subst (SilentDemand3 stored (types w (numbers args))) (store-counted (eqb-false _ _ b)) (store-miscounted (eqb-false _ _ b)))
