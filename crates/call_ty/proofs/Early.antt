-- DOCUMENT 02, K3: "a candidate is dropped when some operand has an abstract type after conversion and another operand is not a const-expression"; so of the builtins, "single
-- calls on const operands reply as before but for the mark (a derivative's result is running)". One record, `ConstCalls`, says it, in every profile; what they replied before
-- there were marks stands here as definitions of its own. Assumes nothing.
use Prim.Native.Nat.{ℕ}
use mathlib.Core.Path.{◌≡◌, refl, ap, subst}
use mathlib.Core.Bool.{Bool, true, false, cond}
use mathlib.Core.List.{List, [], ◌∷◌}
use lib.Dec.{T, eqb}
use lib.ListN.{length}
use Rattle.held.specs.Held.{mark_of}
use Rattle.conv.specs.Types.{Ty}
use Rattle.overload.specs.Overload.{or}
use Rattle.overload.specs.Overload.Judged.{gives}
use Rattle.overload.specs.Marks.{any_running}
use Rattle.overload.specs.Rows.Ruling.{on_atomic}
use Rattle.names.specs.Names.{Rule, Named, rule_of}
use Rattle.names.specs.Names.Rule.{ruling, storing, bitcast, barrier}
use Rattle.names.specs.Names.Named.{rule, unknown}
use Rattle.table.specs.Table.{soundb}
use Rattle.table.specs.Placing.{Outcome, turned_down}
use Rattle.answer.specs.declared.Reason.TheVariants.{Unsound, NoSuchType, Reference, Unknown, Template, Operands}
use Rattle.ruled.specs.Call.{any_reference}
use Rattle.ruled.proofs.Early.{base_judge, const-number, const-clash, const-judge}
use Rattle.call_ty.specs.Calls.{first_in, template_right, operands_of, Given, given_by, given_outcome, by_rule, runs_by, all_under, numbers, marks_of, types, type_builtin_fn, builtin_runs}
use Rattle.call_ty.specs.Calls.Given.{judgment, silently, nothing}

-- THE BASE. What a rule gave
unfoldable pub base_given : Rule → List Ty → List Ty → Given
base_given (ruling r) ts us = judgment (base_judge r us)
base_given storing ts us = silently (base_judge (on_atomic 1) us)
base_given bitcast ts us = judgment (gives (first_in ts))
base_given barrier ts us = nothing

-- on loaded operands, by their types, at a place: 4, 5, 7, 3, then its rule
unfoldable pub base_by_rule : ℕ → List ℕ → ℕ → Named → List Ty → List Ty → Outcome
base_by_rule place w n unknown ts us = turned_down Unknown place w n
base_by_rule place w n (rule r runs) ts us =
    cond (template_right r ts)
    (cond (eqb (length us) (operands_of r))
    (cond (any_reference us) (turned_down Reference place w n) (given_outcome place w n (base_given r ts us)))
    (turned_down Operands place w n))
    (turned_down Template place w n)

-- a single call, at place 0: 1, then 2 over the template list and over the operands, before these; args are types' numbers
unfoldable pub base_builtin_fn : ℕ → List ℕ → ℕ → List ℕ → List ℕ → List ℕ → Outcome
base_builtin_fn profile w n name tplt args =
    cond (soundb w n)
    (cond (all_under n tplt)
    (cond (all_under n args)
    (base_by_rule 0 w n (rule_of profile name) (types w tplt) (types w args))
    (turned_down NoSuchType 0 w n))
    (turned_down NoSuchType 0 w n))
    (turned_down Unsound 0 w n)

-- THE MARK OF A NAME ALONE: "Derivatives, barriers, arrayLength and subgroup or quad calls give running results even so"; these and no other (`names/proofs/Document.antt`,
-- `running-names`)
abbrev pub runs_even_so : Named → Bool
runs_even_so unknown = false
runs_even_so (rule r runs) = runs

-- THE THEOREM
pub record ConstCalls : Type 0 where
  -- on loaded operands, at any place
  pub call_at : (place : ℕ) (w : List ℕ) (n : ℕ) (named : Named) (ts us : List Ty) (ms : List Bool) → any_running ms ≡ false
      → by_rule place w n named ts us ms ≡ base_by_rule place w n named ts us
  pub mark_at : (named : Named) (ms : List Bool) → any_running ms ≡ false → runs_by named ms ≡ runs_even_so named
  -- a single call, refused or not, and the mark of its result
  pub call : (profile : ℕ) (w : List ℕ) (n : ℕ) (name tplt args : List ℕ) → any_running (marks_of args) ≡ false
      → type_builtin_fn profile w n name tplt args ≡ base_builtin_fn profile w n name tplt args
  pub mark : (profile : ℕ) (name args : List ℕ) → any_running (marks_of args) ≡ false → builtin_runs profile name args ≡ runs_even_so (rule_of profile name)

-- ON LOADED OPERANDS

const-given : (r : Rule) (ts us : List Ty) (ms : List Bool) → any_running ms ≡ false → given_by r ts us ms ≡ base_given r ts us
unfolding given_by base_given
const-given (ruling r) ts us ms e = ap judgment (const-judge r us ms e)
const-given storing ts us ms e = ap silently (const-judge (on_atomic 1) us ms e)
const-given bitcast ts us ms e = refl
const-given barrier ts us ms e = refl

call-at : (place : ℕ) (w : List ℕ) (n : ℕ) (named : Named) (ts us : List Ty) (ms : List Bool) → any_running ms ≡ false
    → by_rule place w n named ts us ms ≡ base_by_rule place w n named ts us
unfolding by_rule base_by_rule
call-at place w n unknown ts us ms e = refl
call-at place w n (rule r runs) ts us ms e = rw (const-clash us ms e, const-given r ts us ms e)

mark-at : (named : Named) (ms : List Bool) → any_running ms ≡ false → runs_by named ms ≡ runs_even_so named
unfolding runs_by or
mark-at unknown ms e = refl
mark-at (rule r true) ms e = refl
mark-at (rule r false) ms e = e

-- A SINGLE CALL: const operands are their numbers

neither : (a b : Bool) → or a b ≡ false → (a ≡ false) × (b ≡ false)
unfolding or
neither true b e = absurd (subst T e tt)
neither false b e = (refl, e)

const-numbers : (vs : List ℕ) → any_running (marks_of vs) ≡ false → numbers vs ≡ vs
unfolding any_running
const-numbers [] e = refl
const-numbers (v ∷ vs) e =
    let h = neither (mark_of v) (any_running (marks_of vs)) e in
    λ i. const-number v h.0 i ∷ const-numbers vs h.1 i

call-single : (profile : ℕ) (w : List ℕ) (n : ℕ) (name tplt args : List ℕ) → any_running (marks_of args) ≡ false
    → type_builtin_fn profile w n name tplt args ≡ base_builtin_fn profile w n name tplt args
unfolding type_builtin_fn base_builtin_fn
call-single profile w n name tplt args e =
    rw (const-numbers args e, call-at 0 w n (rule_of profile name) (types w tplt) (types w args) (marks_of args) e)

-- THE THEOREM HOLDS
pub const-calls : ConstCalls
const-calls = record { call_at = call-at; mark_at = mark-at; call = call-single; mark = λ profile name args e. mark-at (rule_of profile name) (marks_of args) e }
