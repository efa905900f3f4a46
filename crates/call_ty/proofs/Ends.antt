-- How a call of a builtin can end: refused, with no value, or with the type that its rule gives. The demands are read off this. Assumes nothing.
use Prim.Native.Nat.{ℕ}
use mathlib.Core.Path.{◌≡◌, refl, sym}
use mathlib.Core.Bool.{Bool, true, false, cond}
use mathlib.Core.List.{List, [], ◌∷◌}
use lib.Dec.{eqb}
use lib.ListN.{length}
use Rattle.conv.specs.Types.{Ty, formed}
use Rattle.overload.specs.Overload.{Judged}
use Rattle.overload.specs.Overload.Judged.{gives, none_fits}
use Rattle.overload.specs.Marks.{running_abstract}
use Rattle.overload.specs.Rows.{Ruling, judge_by, Known}
use Rattle.overload.specs.Rows.Ruling.{on_atomic}
use Rattle.overload.proofs.Operands.{and_left, all_formed}
use Rattle.overload.proofs.Rulings.{ruling-formed}
use Rattle.names.specs.Names.{Rule, Named, rule_of}
use Rattle.names.specs.Names.Rule.{ruling, storing, bitcast, barrier}
use Rattle.names.specs.Names.Named.{rule, unknown}
use Rattle.names.proofs.Rules.{ruling-known}
use Rattle.table.specs.Table.{soundb, Sound}
use Rattle.table.specs.Placing.{Outcome, turned_down, entering}
use Rattle.answer.specs.declared.Reason.{Reason}
use Rattle.answer.specs.declared.Reason.TheVariants.{Unsound, NoSuchType, Reference, Unknown, Template, Operands, NoOverload, RunningAbstract}
use Rattle.table.proofs.SoundLaws.{sound-of}
use Rattle.ruled.specs.Call.{any_reference, judged_outcome, without_value, silent_outcome}
use Rattle.call_ty.specs.Calls.{first_in, template_right, operands_of, given_by, given_outcome, by_rule, all_under, numbers, marks_of, types, type_builtin_fn}
use Rattle.call_ty.specs.Calls.Given.{judgment}
use Rattle.call_ty.proofs.Lists.{types-formed, all_under_lem}
use Rattle.call_ty.proofs.Ways.{by-unknown}

module _ (place : ℕ) (w : List ℕ) (n : ℕ) (named : Named) (ts us : List Ty) (ms : List Bool) where
  pub data Ends (o : Outcome) : Type 0 where
    refused : (reason : Reason) → o ≡ turned_down reason place w n → Ends o
    silent : o ≡ without_value w n → Ends o
    valued : (R : Ty) (r : Rule) (runs : Bool) → formed R ≡ true → named ≡ rule r runs → given_by r ts us ms ≡ judgment (gives R) → o ≡ entering place w n R → Ends o

-- a ruling among what a name can have is known
abbrev pub KnownIn : Named → Type 0
KnownIn named = (r : Ruling) (runs : Bool) → named ≡ rule (ruling r) runs → Known r

-- the two sides of a test
choose : (P : Outcome → Type 0) (b : Bool) (x y : Outcome) → (b ≡ true → P x) → (b ≡ false → P y) → P (cond b x y)
choose P true x y f g = f refl
choose P false x y f g = g refl

first-formed : (ts : List Ty) → all_formed ts ≡ true → formed (first_in ts) ≡ true
unfolding all_formed formed
first-formed [] f = refl
first-formed (t ∷ ts) f = and_left (formed t) _ f

module _ (place : ℕ) (w : List ℕ) (n : ℕ) (runs : Bool) (ts us : List Ty) (ms : List Bool) (ft : all_formed ts ≡ true) (fu : all_formed us ≡ true) where
  -- a rule that gives a judgment
  judged : (r : Rule) → (j : Judged) → ((R : Ty) → j ≡ gives R → formed R ≡ true) → given_by r ts us ms ≡ judgment j
      → Ends place w n (rule r runs) ts us ms (judged_outcome place w n j)
  unfolding judged_outcome
  judged r (gives R) f g = valued R r runs (f R refl) refl g refl
  judged r none_fits f g = refused NoOverload refl

  ruling-ends : (r : Ruling) → Known r → given_by (ruling r) ts us ms ≡ judgment (judge_by r us ms) → Ends place w n (rule (ruling r) runs) ts us ms (judged_outcome place w n (judge_by r us ms))
  ruling-ends r k g = judged (ruling r) (judge_by r us ms) (ruling-formed us fu ms r k) g

  -- one that gives no value
  silent-ends : (r : Rule) (j : Judged) → Ends place w n (rule r runs) ts us ms (silent_outcome place w n j)
  unfolding silent_outcome
  silent-ends r (gives R) = silent refl
  silent-ends r none_fits = refused NoOverload refl

  type-ends : (r : Rule) (R : Ty) → formed R ≡ true → given_by r ts us ms ≡ judgment (gives R) → Ends place w n (rule r runs) ts us ms (judged_outcome place w n (gives R))
  unfolding judged_outcome
  type-ends r R f g = valued R r runs f refl g refl

  rule-ends : (r : Rule) → KnownIn (rule r runs) → Ends place w n (rule r runs) ts us ms (given_outcome place w n (given_by r ts us ms))
  unfolding given_outcome given_by formed Known
  rule-ends (ruling r) k = ruling-ends r (k r runs refl) refl
  rule-ends storing k = silent-ends storing (judge_by (on_atomic 1) us ms)
  rule-ends bitcast k = type-ends bitcast (first_in ts) (first-formed ts ft) refl
  rule-ends barrier k = silent refl

  named-ends : (r : Rule) → KnownIn (rule r runs) → Ends place w n (rule r runs) ts us ms (by_rule place w n (rule r runs) ts us ms)
  unfolding by_rule
  named-ends r k =
      choose (Ends place w n (rule r runs) ts us ms) (template_right r ts) _ _
      (λ b. choose (Ends place w n (rule r runs) ts us ms) (eqb (length us) (operands_of r)) _ _
      (λ d. choose (Ends place w n (rule r runs) ts us ms) (any_reference us) _ _ (λ e. refused Reference refl)
      (λ e. choose (Ends place w n (rule r runs) ts us ms) (running_abstract us ms) _ _ (λ c. refused RunningAbstract refl) (λ c. rule-ends r k)))
      (λ d. refused Operands refl))
      (λ b. refused Template refl)

-- A CALL ON LOADED OPERANDS
pub rule-call-ends : (place : ℕ) (w : List ℕ) (n : ℕ) (ts us : List Ty) (ms : List Bool) → all_formed ts ≡ true → all_formed us ≡ true → (named : Named) → KnownIn named
    → Ends place w n named ts us ms (by_rule place w n named ts us ms)
rule-call-ends place w n ts us ms ft fu (rule r runs) k = named-ends place w n runs ts us ms ft fu r k
rule-call-ends place w n ts us ms ft fu unknown k = refused Unknown (sym (by-unknown place w n ts us ms))

-- by a name of a profile
pub name-call-ends : (profile place : ℕ) (w : List ℕ) (n : ℕ) (ts us : List Ty) (ms : List Bool) → all_formed ts ≡ true → all_formed us ≡ true → (name : List ℕ)
    → Ends place w n (rule_of profile name) ts us ms (by_rule place w n (rule_of profile name) ts us ms)
name-call-ends profile place w n ts us ms ft fu name = rule-call-ends place w n ts us ms ft fu (rule_of profile name) (λ r runs e. ruling-known profile name r e)

-- A SINGLE CALL: of a table that is not sound, or of a number not below n, nothing is said but the refusal
module _ (profile : ℕ) (w : List ℕ) (n : ℕ) (name tplt args : List ℕ) where
  pub data Single (o : Outcome) : Type 0 where
    early : (reason : Reason) → o ≡ turned_down reason 0 w n → Single o
    late : Sound w n → Ends 0 w n (rule_of profile name) (types w tplt) (types w (numbers args)) (marks_of args) o → Single o

  pub single-ends : Single (type_builtin_fn profile w n name tplt args)
  unfolding type_builtin_fn
  single-ends =
      choose Single (soundb w n) _ _
      (λ b. choose Single (all_under n tplt) _ _
      (λ d. choose Single (all_under n (numbers args)) _ _
      (λ e.
      let s = sound-of w n b in
      late s (name-call-ends profile 0 w n (types w tplt) (types w (numbers args)) (marks_of args) (types-formed w n s tplt (all_under_lem n tplt d)) (types-formed w n s (numbers args) (all_under_lem n (numbers args) e)) name))
      (λ e. early NoSuchType refl))
      (λ d. early NoSuchType refl))
      (λ b. early Unsound refl)
