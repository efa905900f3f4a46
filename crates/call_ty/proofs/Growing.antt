-- How much room is missing (document 02, K2), of calls of builtins, on loaded operands and as single calls. Assumes nothing.
use Prim.Native.Nat.{ℕ, suc}
use mathlib.Core.Path.{◌≡◌, refl}
use mathlib.Core.Bool.{Bool}
use mathlib.Core.List.{List, [], ◌∷◌}
use native.Mathlib.Omega.{arith}
use lib.Dec.{eqb}
use lib.ListN.{length}
use Rattle.conv.specs.Types.{Ty}
use Rattle.names.specs.Names.{Named, rule_of}
use Rattle.names.specs.Names.Named.{rule, unknown}
use Rattle.table.specs.Table.{Sound}
use Rattle.table.specs.Lacking.{Longer, Grown}
use Rattle.answer.specs.declared.Reason.TheVariants.{NoSuchType, Reference, Unknown, Template, Operands, RunningAbstract}
use Rattle.table.proofs.Growing.{grown-refused, grown-silent, grown-test, grown-passed, grown-as, grown-sound, type-longer}
use Rattle.overload.specs.Marks.{running_abstract}
use Rattle.ruled.specs.Call.{any_reference}
use Rattle.ruled.proofs.Growing.{grown-judged, grown-silently}
use Rattle.call_ty.specs.Calls.{template_right, operands_of, Given, given_by, given_outcome, by_rule, call_outcome, all_under, numbers, marks_of, types, type_builtin_fn}
use Rattle.call_ty.specs.Calls.Given.{judgment, silently, nothing}
use Rattle.call_ty.specs.inner.Codes.{Under}
use Rattle.call_ty.proofs.Lists.{all_under_lem}

module _ (w v : List ℕ) (n k : ℕ) (l : Longer w v n k) where
  -- numbers of the table stand for the same types
  pub types-longer : (ts : List ℕ) → Under n ts → types v ts ≡ types w ts
  types-longer [] u = refl
  types-longer (t ∷ ts) u = λ i. type-longer w v n k l t (u 0 (omega arith)) i ∷ types-longer ts (λ j h. u (suc j) (omega arith)) i

  module _ (s : Sound w n) (place : ℕ) where
    given-grown : (g : Given) → Grown w n k (given_outcome place w n g) (given_outcome place v n g)
    unfolding given_outcome
    given-grown (judgment j) = grown-judged w v n k l s place j
    given-grown (silently j) = grown-silently w v n k l s place j
    given-grown nothing = grown-silent w n k n w _

    rule-grown : (named : Named) (ts us : List Ty) (ms : List Bool) → Grown w n k (by_rule place w n named ts us ms) (by_rule place v n named ts us ms)
    unfolding by_rule
    rule-grown unknown ts us ms = grown-refused w n k Unknown refl place _
    rule-grown (rule r runs) ts us ms =
        grown-passed w n k (template_right r ts) Template refl place _ _ _
        (λ _. grown-passed w n k (eqb (length us) (operands_of r)) Operands refl place _ _ _
        (λ _. grown-test w n k (any_reference us) _ _ _ _ (grown-refused w n k Reference refl place _)
        (grown-test w n k (running_abstract us ms) _ _ _ _ (grown-refused w n k RunningAbstract refl place _) (given-grown (given_by r ts us ms)))))

    pub call-at-grown : (profile : ℕ) (name : List ℕ) (ts us : List Ty) (ms : List Bool)
        → Grown w n k (call_outcome profile place w n name ts us ms) (call_outcome profile place v n name ts us ms)
    call-at-grown profile name ts us ms = rule-grown (rule_of profile name) ts us ms

  pub call-grown : (profile : ℕ) (name tplt args : List ℕ) → Grown w n k (type_builtin_fn profile w n name tplt args) (type_builtin_fn profile v n name tplt args)
  unfolding type_builtin_fn
  call-grown profile name tplt args =
      grown-sound w v n k l _ _ _
      (λ s. grown-passed w n k (all_under n tplt) NoSuchType refl 0 _ _ _
      (λ p. grown-passed w n k (all_under n (numbers args)) NoSuchType refl 0 _ _ _
      (λ q.
      grown-as w n k refl
      (λ i. call_outcome profile 0 v n name (types-longer tplt (all_under_lem n tplt p) i) (types-longer (numbers args) (all_under_lem n (numbers args) q) i) (marks_of args))
      (call-at-grown s 0 profile name (types w tplt) (types w (numbers args)) (marks_of args)))))
