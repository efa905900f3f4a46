-- What the place does: the outcome of a call at a place is that at place 0, with the place in its refusal. Assumes nothing.
use Prim.Native.Nat.{ℕ, ◌-◌}
use mathlib.Core.Path.{◌≡◌, refl}
use mathlib.Core.Bool.{Bool, true, false, cond}
use mathlib.Core.List.{List, [], ◌∷◌}
use lib.Dec.{eqb, ltb, leb}
use lib.ListN.{length}
use Rattle.conv.specs.Types.{Ty}
use Rattle.overload.specs.Overload.{Judged}
use Rattle.overload.specs.Overload.Judged.{gives, none_fits}
use Rattle.overload.specs.Marks.{running_abstract}
use Rattle.overload.specs.Rows.{Ruling, judge_by}
use Rattle.overload.specs.Rows.Ruling.{by_row}
use Rattle.names.specs.Names.{Named, rule_of}
use Rattle.names.specs.Names.Named.{rule, unknown}
use Rattle.table.specs.Enter.{free}
use Rattle.table.specs.Placing.{Outcome, placed, entering}
use Rattle.ruled.specs.Call.{any_reference, judged_outcome, silent_outcome, offends, ruled_outcome}
use Rattle.ops_ty.specs.Ops.{unary_ops, unary_ruling, binary_ops, binary_row, unary_outcome, binary_outcome}
use Rattle.call_ty.specs.Calls.{template_right, operands_of, Given, given_by, given_outcome, by_rule, call_outcome}
use Rattle.call_ty.specs.Calls.Given.{judgment, silently, nothing}
use Rattle.sheet.specs.Single.{moved}

module _ (place : ℕ) (w : List ℕ) (n : ℕ) where
  -- the two sides of a test
  either : (b : Bool) (x y x₀ y₀ : Outcome) → x ≡ moved place x₀ → y ≡ moved place y₀ → cond b x y ≡ moved place (cond b x₀ y₀)
  either true x y x₀ y₀ p q = p
  either false x y x₀ y₀ p q = q

  pub entering-moved : (R : Ty) → entering place w n R ≡ moved place (entering 0 w n R)
  unfolding entering
  entering-moved R = either (leb ((placed w n R).used - n) (free w n)) _ _ _ _ refl refl

  judged-moved : (j : Judged) → judged_outcome place w n j ≡ moved place (judged_outcome 0 w n j)
  unfolding judged_outcome
  judged-moved (gives R) = entering-moved R
  judged-moved none_fits = refl

  silent-moved : (j : Judged) → silent_outcome place w n j ≡ moved place (silent_outcome 0 w n j)
  unfolding silent_outcome
  silent-moved (gives R) = refl
  silent-moved none_fits = refl

  ruled-moved : (r : Ruling) (ts : List Ty) (ms : List Bool) → ruled_outcome place w n r ts ms ≡ moved place (ruled_outcome 0 w n r ts ms)
  unfolding ruled_outcome
  ruled-moved r ts ms = either (offends r ts) _ _ _ _ refl (either (running_abstract ts ms) _ _ _ _ refl (judged-moved (judge_by r ts ms)))

  pub unary-moved : (op : ℕ) (t : Ty) (m : Bool) → unary_outcome place w n op t m ≡ moved place (unary_outcome 0 w n op t m)
  unfolding unary_outcome
  unary-moved op t m = either (ltb op unary_ops) _ _ _ _ (ruled-moved (unary_ruling op) (t ∷ []) (m ∷ [])) refl

  pub binary-moved : (op : ℕ) (t u : Ty) (m k : Bool) → binary_outcome place w n op t u m k ≡ moved place (binary_outcome 0 w n op t u m k)
  unfolding binary_outcome
  binary-moved op t u m k = either (ltb op binary_ops) _ _ _ _ (ruled-moved (by_row (binary_row op)) (t ∷ u ∷ []) (m ∷ k ∷ [])) refl

  given-moved : (g : Given) → given_outcome place w n g ≡ moved place (given_outcome 0 w n g)
  unfolding given_outcome
  given-moved (judgment j) = judged-moved j
  given-moved (silently j) = silent-moved j
  given-moved nothing = refl

  rule_moved : (r : Named) (ts us : List Ty) (ms : List Bool) → by_rule place w n r ts us ms ≡ moved place (by_rule 0 w n r ts us ms)
  unfolding by_rule
  rule_moved unknown ts us ms = refl
  rule_moved (rule k runs) ts us ms =
      either (template_right k ts) _ _ _ _
      (either (eqb (length us) (operands_of k)) _ _ _ _ (either (any_reference us) _ _ _ _ refl (either (running_abstract us ms) _ _ _ _ refl (given-moved (given_by k ts us ms)))) refl)
      refl

  pub call-moved : (profile : ℕ) (name : List ℕ) (ts us : List Ty) (ms : List Bool) → call_outcome profile place w n name ts us ms ≡ moved place (call_outcome profile 0 w n name ts us ms)
  call-moved profile name ts us ms = rule_moved (rule_of profile name) ts us ms
