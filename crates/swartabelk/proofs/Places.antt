-- The place and the used count of a refusal are those of the call. Assumes nothing.
use Prim.Native.Nat.{ℕ, ◌-◌}
use mathlib.Core.Path.{◌≡◌, refl}
use mathlib.Core.Bool.{Bool, true, false, cond}
use mathlib.Core.List.{List, [], ◌∷◌}
use lib.Dec.{eqb, ltb, leb}
use lib.ListN.{length}
use lib.IntN.{ℤ}
use Rattle.conv.specs.Types.{Ty}
use Rattle.held.specs.Held.{number_of, mark_of}
use Rattle.overload.specs.Overload.{Judged}
use Rattle.overload.specs.Overload.Judged.{gives, none_fits}
use Rattle.overload.specs.Marks.{running_abstract}
use Rattle.overload.specs.Rows.{Ruling, judge_by}
use Rattle.overload.specs.Rows.Ruling.{by_row}
use Rattle.names.specs.Names.{Named, rule_of}
use Rattle.names.specs.Names.Named.{rule, unknown}
use Rattle.table.specs.Table.{soundb, allowedb}
use Rattle.table.specs.Enter.{free, entered, entry_answer, enter_type_reply}
use Rattle.table.specs.Placing.{Outcome, placed, entering, enter_type}
use Rattle.table.specs.declared.Entry.{Entry}
use Rattle.std.specs.Prelude.{Result, Ok, Err}
use Rattle.answer.specs.declared.Reason.{Reason}
use Rattle.table.specs.declared.Entered.{Entered}
use Rattle.table.specs.declared.Lacks.{Lacks}
use Rattle.answer.specs.declared.Answer.{Answer}
use Rattle.answer.specs.declared.Answer.TheVariants.{Value, NoValue, Refused}
use Rattle.ruled.specs.Call.{operand_ty, any_reference, judged_outcome, silent_outcome, offends, ruled_outcome}
use Rattle.ops_ty.specs.Ops.{unary_ops, unary_ruling, binary_ops, binary_row, unary_outcome, binary_outcome, type_unary_op, type_binary_op}
use Rattle.call_ty.specs.Calls.{Given, template_right, operands_of, given_by, given_outcome, by_rule, call_outcome, all_under, numbers, marks_of, types, type_builtin_fn}
use Rattle.call_ty.specs.Calls.Given.{judgment, silently, nothing}
use Rattle.tplt.specs.Heads.{head_of}
use Rattle.tplt.specs.Params.{params_of, types_known, arguments_of}
use Rattle.tplt.specs.Templates.{parsed_of, type_of, outcome_of, template_outcome}
use Rattle.tplt.specs.declared.Parsed.{Parsed}

-- an answer is no refusal, or one at this place with this count
abbrev pub At : ℕ → ℕ → Answer → Type 0
At place n (Value t m) = Unit {0}
At place n (NoValue m) = Unit {0}
At place n (Refused r) = (r.place.0 ≡ place) × (r.used ≡ n)

module _ (place : ℕ) (w : List ℕ) (n : ℕ) where
  pub at-by : (b : Bool) (x y : Outcome) → At place n x.answer → At place n y.answer → At place n (cond b x y).answer
  at-by true x y p q = p
  at-by false x y p q = q

  pub entering-at : (R : Ty) → At place n (entering place w n R).answer
  unfolding entering
  entering-at R = at-by (leb ((placed w n R).used - n) (free w n)) _ _ tt (refl, refl)

  judged-at : (j : Judged) → At place n (judged_outcome place w n j).answer
  unfolding judged_outcome
  judged-at (gives R) = entering-at R
  judged-at none_fits = (refl, refl)

  silent-at : (j : Judged) → At place n (silent_outcome place w n j).answer
  unfolding silent_outcome
  silent-at (gives R) = tt
  silent-at none_fits = (refl, refl)

  ruled-at : (r : Ruling) (ts : List Ty) (ms : List Bool) → At place n (ruled_outcome place w n r ts ms).answer
  unfolding ruled_outcome
  ruled-at r ts ms = at-by (offends r ts) _ _ (refl, refl) (at-by (running_abstract ts ms) _ _ (refl, refl) (judged-at (judge_by r ts ms)))

  pub unary-at : (op : ℕ) (t : Ty) (m : Bool) → At place n (unary_outcome place w n op t m).answer
  unfolding unary_outcome
  unary-at op t m = at-by (ltb op unary_ops) _ _ (ruled-at (unary_ruling op) (t ∷ []) (m ∷ [])) (refl, refl)

  pub binary-at : (op : ℕ) (t u : Ty) (m k : Bool) → At place n (binary_outcome place w n op t u m k).answer
  unfolding binary_outcome
  binary-at op t u m k = at-by (ltb op binary_ops) _ _ (ruled-at (by_row (binary_row op)) (t ∷ u ∷ []) (m ∷ k ∷ [])) (refl, refl)

  given-at : (g : Given) → At place n (given_outcome place w n g).answer
  unfolding given_outcome
  given-at (judgment j) = judged-at j
  given-at (silently j) = silent-at j
  given-at nothing = tt

  rule-at : (k : Named) (ts us : List Ty) (ms : List Bool) → At place n (by_rule place w n k ts us ms).answer
  unfolding by_rule
  rule-at unknown ts us ms = (refl, refl)
  rule-at (rule r runs) ts us ms =
      at-by (template_right r ts) _ _
      (at-by (eqb (length us) (operands_of r)) _ _
      (at-by (any_reference us) _ _ (refl, refl) (at-by (running_abstract us ms) _ _ (refl, refl) (given-at (given_by r ts us ms))))
      (refl, refl))
      (refl, refl)

  pub call-at : (profile : ℕ) (name : List ℕ) (ts us : List Ty) (ms : List Bool) → At place n (call_outcome profile place w n name ts us ms).answer
  call-at profile name ts us ms = rule-at (rule_of profile name) ts us ms

-- a single call is at place 0
module _ (w : List ℕ) (n : ℕ) where
  entry-at : (r : Result Entered Lacks) → At 0 n (entry_answer 0 r n)
  entry-at (Ok e) = tt
  entry-at (Err e) = (refl, refl)

  pub enter-type-at : (e : Entry) → At 0 n (enter_type w n e).answer
  unfolding enter_type_reply
  enter-type-at e = by (soundb w n) _ _ (by (allowedb w n e) _ _ (entry-at (entered w n e)) (refl, refl)) (refl, refl)
    where
      by : (b : Bool) (x y : Answer) → At 0 n x → At 0 n y → At 0 n (cond b x y)
      by true x y p q = p
      by false x y p q = q

  pub type-unary-at : (op a : ℕ) → At 0 n (type_unary_op w n op a).answer
  unfolding type_unary_op
  type-unary-at op a = at-by 0 w n (soundb w n) _ _ (at-by 0 w n (ltb (number_of a) n) _ _ (unary-at 0 w n op (operand_ty w a) (mark_of a)) (refl, refl)) (refl, refl)

  pub type-binary-at : (op a b : ℕ) → At 0 n (type_binary_op w n op a b).answer
  unfolding type_binary_op
  type-binary-at op a b =
      at-by 0 w n (soundb w n) _ _
      (at-by 0 w n (ltb (number_of a) n) _ _
      (at-by 0 w n (ltb (number_of b) n) _ _ (binary-at 0 w n op (operand_ty w a) (operand_ty w b) (mark_of a) (mark_of b)) (refl, refl))
      (refl, refl))
      (refl, refl)

  pub type-builtin-at : (profile : ℕ) (name tplt args : List ℕ) → At 0 n (type_builtin_fn profile w n name tplt args).answer
  unfolding type_builtin_fn
  type-builtin-at profile name tplt args =
      at-by 0 w n (soundb w n) _ _
      (at-by 0 w n (all_under n tplt) _ _
      (at-by 0 w n (all_under n (numbers args)) _ _ (call-at 0 w n profile name (types w tplt) (types w (numbers args)) (marks_of args)) (refl, refl))
      (refl, refl))
      (refl, refl)

  parsed-at : (x : Result Parsed Reason) → At 0 n (outcome_of w n x).answer
  unfolding outcome_of
  parsed-at (Ok p) = entering-at 0 w n (type_of w p)
  parsed-at (Err r) = (refl, refl)

  pub type-template-at : (head : List ℕ) (args : List ℤ) → At 0 n (template_outcome w n head args).answer
  unfolding template_outcome
  type-template-at head args =
      at-by 0 w n (soundb w n) _ _
      (at-by 0 w n (types_known (params_of n args)) _ _ (parsed-at (parsed_of w (head_of head) (arguments_of n args))) (refl, refl))
      (refl, refl)
