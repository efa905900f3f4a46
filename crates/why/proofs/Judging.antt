-- What the answer of a call tells of the tests before it. Where it is accepted or refused with 8, it passed every test but its rule, and that gives a type or has no overload that
-- fits: each earlier test refuses with another number, and so does want of room. Assumes nothing.
use Prim.Native.Nat.{ℕ, zero, suc, ◌-◌, ◌<◌}
use native.Mathlib.Omega.{arith}
use mathlib.Core.Path.{◌≡◌, refl, sym, ◌∙◌, ap, subst}
use mathlib.Core.Bool.{Bool, true, false, cond}
use mathlib.Core.List.{List, [], ◌∷◌}
use lib.Dec.{eqb, ltb, leb}
use lib.ListN.{length, length-map}
use borrow.Author.Tests.{ltb-true, eqb-true}
use Rattle.held.specs.Held.{number_of, mark_of}
use Rattle.conv.specs.Types.{Ty}
use Rattle.overload.specs.Overload.{Judged}
use Rattle.overload.specs.Overload.Judged.{gives, none_fits}
use Rattle.overload.specs.Marks.{running_abstract}
use Rattle.overload.specs.Rows.{Ruling, head_count, judge_by}
use Rattle.overload.specs.Rows.Ruling.{by_row, on_atomic}
use Rattle.names.specs.Names.{Rule, Named}
use Rattle.names.specs.Names.Rule.{ruling, storing, bitcast, barrier}
use Rattle.names.specs.Names.Named.{rule}
use Rattle.names.specs.Names.{rule_of}
use Rattle.answer.specs.Answer.{reason_no}
use Rattle.answer.specs.declared.Reason.TheVariants.{NoRoom}
use Rattle.answer.specs.declared.Answer.{Answer}
use Rattle.answer.specs.declared.Answer.TheVariants.{Value, NoValue, Refused}
use Rattle.table.specs.Table.{soundb, Sound}
use Rattle.table.specs.Enter.{free, lacking}
use Rattle.table.specs.Denote.{type_at}
use Rattle.table.specs.Placing.{Outcome, turned_down, placed, entering}
use Rattle.table.proofs.SoundLaws.{sound-of}
use Rattle.answer.specs.Answer.{accept}
use Rattle.ruled.specs.Call.{operand_ty, any_reference, judged_outcome, silent_outcome, offends, ruled_outcome}
use Rattle.ops_ty.specs.Ops.{unary_ops, unary_ruling, binary_ops, binary_row, unary_outcome, binary_outcome, type_unary_op, type_binary_op}
use Rattle.call_ty.specs.Calls.{template_right, operands_by, operands_of, given_by, given_outcome, by_rule, all_under, numbers, marks_of, types, type_builtin_fn}
use Rattle.call_ty.specs.inner.Codes.{Under}
use Rattle.call_ty.proofs.Lists.{all_under_lem}
use Rattle.why.proofs.Rules.{binary-count, JudgedBy}

-- an answer that is told about, and one that is accepted
unfoldable pub telling : Answer → Bool
telling (Value t m) = true
telling (NoValue m) = true
telling (Refused r) = eqb (reason_no r.reason) 8

unfoldable pub accepting : Answer → Bool
accepting (Value t m) = true
accepting (NoValue m) = true
accepting (Refused r) = false

-- the judgment behind such an answer
pub record Judging (j : Judged) (a : Answer) : Type 0 where
  pub gave : accepting a ≡ true → (R : Ty) × (j ≡ gives R)
  pub none : accepting a ≡ false → j ≡ none_fits

no : {P : Type 0} → false ≡ true → P
no e = let z : ◌≡◌ {A = ℕ} 0 1 = cc in absurd (omega arith)

-- A TEST whose failing, or whose passing, is refused with another number

passes : (b : Bool) (x y : Outcome) (P : Outcome → Type 0) → telling y.answer ≡ false → telling (cond b x y).answer ≡ true → (b ≡ true → telling x.answer ≡ true → P x) → P (cond b x y)
passes true x y P f h k = k refl h
passes false x y P f h k = no (sym f ∙ h)

fails : (b : Bool) (x y : Outcome) (P : Outcome → Type 0) → telling x.answer ≡ false → telling (cond b x y).answer ≡ true → (b ≡ false → telling y.answer ≡ true → P y) → P (cond b x y)
fails true x y P f h k = no (sym f ∙ h)
fails false x y P f h k = k refl h

-- A JUDGMENT

module _ (place : ℕ) (w : List ℕ) (n : ℕ) where
  entered : (R : Ty) → telling (entering place w n R).answer ≡ true → accepting (entering place w n R).answer ≡ true
  unfolding entering telling accepting
  entered R h =
      passes (leb ((placed w n R).used - n) (free w n)) (record { answer = accept (placed w n R).number (placed w n R).used; words = (placed w n R).words })
      (turned_down (NoRoom (lacking w n ((placed w n R).used - n))) place w n) (λ (o : Outcome). accepting o.answer ≡ true) refl h (λ b t. refl)

  judged-tells : (j : Judged) → telling (judged_outcome place w n j).answer ≡ true → Judging j (judged_outcome place w n j).answer
  unfolding judged_outcome telling accepting
  judged-tells (gives R) h = record { gave = λ e. (R, refl); none = λ e. no (sym e ∙ entered R h) }
  judged-tells none_fits h = record { gave = λ e. no e; none = λ e. refl }

  silent-tells : (j : Judged) → telling (silent_outcome place w n j).answer ≡ true → Judging j (silent_outcome place w n j).answer
  unfolding silent_outcome telling accepting
  silent-tells (gives R) h = record { gave = λ e. (R, refl); none = λ e. no (sym e) }
  silent-tells none_fits h = record { gave = λ e. no e; none = λ e. refl }

  -- A RULED CALL on loaded operands: none is both running and abstract

  abbrev Passed : Ruling → List Ty → List Bool → Outcome → Type 0
  Passed r ts ms o = (running_abstract ts ms ≡ false) × Judging (judge_by r ts ms) o.answer

  ruled-tells : (r : Ruling) (ts : List Ty) (ms : List Bool) → telling (ruled_outcome place w n r ts ms).answer ≡ true → Passed r ts ms (ruled_outcome place w n r ts ms)
  unfolding ruled_outcome telling
  ruled-tells r ts ms h =
      fails (offends r ts) _ _ (Passed r ts ms) refl h (λ a t.
      fails (running_abstract ts ms) _ _ (Passed r ts ms) refl t (λ b u. (b, judged-tells (judge_by r ts ms) u)))

  given-tells : (R : Rule) (q : Ruling) → JudgedBy R q → (ts us : List Ty) (ms : List Bool) → telling (given_outcome place w n (given_by R ts us ms)).answer ≡ true
      → Judging (judge_by q us ms) (given_outcome place w n (given_by R ts us ms)).answer
  unfolding given_outcome given_by JudgedBy
  given-tells (ruling r) q e ts us ms h = subst (λ (x : Ruling). Judging (judge_by x us ms) (judged_outcome place w n (judge_by r us ms)).answer) e (judged-tells (judge_by r us ms) h)
  given-tells storing q e ts us ms h = subst (λ (x : Ruling). Judging (judge_by x us ms) (silent_outcome place w n (judge_by (on_atomic 1) us ms)).answer) e (silent-tells (judge_by (on_atomic 1) us ms) h)
  given-tells bitcast q e ts us ms h = absurd e
  given-tells barrier q e ts us ms h = absurd e

  counted : (R : Rule) (q : Ruling) → JudgedBy R q → operands_of R ≡ operands_by q
  unfolding operands_of JudgedBy
  counted (ruling r) q e = ap operands_by e
  counted storing q e = ap operands_by e
  counted bitcast q e = absurd e
  counted barrier q e = absurd e

  -- A CALL BY ITS RULE

  abbrev Called : Ruling → List Ty → List Bool → Outcome → Type 0
  Called q us ms o = (length us ≡ operands_by q) × (running_abstract us ms ≡ false) × Judging (judge_by q us ms) o.answer

  rule-tells : (R : Rule) (q : Ruling) → JudgedBy R q → (runs : Bool) (ts us : List Ty) (ms : List Bool) → telling (by_rule place w n (rule R runs) ts us ms).answer ≡ true
      → Called q us ms (by_rule place w n (rule R runs) ts us ms)
  unfolding by_rule telling
  rule-tells R q e runs ts us ms h =
      passes (template_right R ts) _ _ (Called q us ms) refl h (λ a t.
      passes (eqb (length us) (operands_of R)) _ _ (Called q us ms) refl t (λ b u.
      fails (any_reference us) _ _ (Called q us ms) refl u (λ c v.
      fails (running_abstract us ms) _ _ (Called q us ms) refl v (λ d x. (eqb-true (length us) (operands_of R) b ∙ counted R q e, d, given-tells R q e ts us ms x)))))

-- A SINGLE CALL: what is known of it, where its answer is told about

pub record Known (w : List ℕ) (n : ℕ) (r : Ruling) (args : List ℕ) (o : Outcome) : Type 0 where
  pub sound : Sound w n
  pub under : Under n (numbers args)
  pub count : length args ≡ operands_by r
  pub clash : running_abstract (types w (numbers args)) (marks_of args) ≡ false
  pub judging : Judging (judge_by r (types w (numbers args)) (marks_of args)) o.answer

module _ (w : List ℕ) (n : ℕ) where
  one-under : (a : ℕ) → number_of a < n → Under n (numbers (a ∷ []))
  one-under a h zero l = h
  one-under a h (suc i) l = absurd (omega arith)

  two-under : (a b : ℕ) → number_of a < n → number_of b < n → Under n (numbers (a ∷ b ∷ []))
  two-under a b h k zero l = h
  two-under a b h k (suc zero) l = k
  two-under a b h k (suc (suc i)) l = absurd (omega arith)

  abbrev UnaryKnown : ℕ → ℕ → Outcome → Type 0
  UnaryKnown op a o = (op < unary_ops) × Known w n (unary_ruling op) (a ∷ []) o

  unary-count : (op : ℕ) → op < unary_ops → 1 ≡ operands_by (unary_ruling op)
  unfolding unary_ruling operands_by head_count
  unary-count zero h = refl
  unary-count (suc zero) h = refl
  unary-count (suc (suc zero)) h = refl
  unary-count (suc (suc (suc zero))) h = refl
  unary-count (suc (suc (suc (suc zero)))) h = refl
  unary-count (suc (suc (suc (suc (suc op))))) h = absurd (omega arith)

  pub unary-tells : (op a : ℕ) → telling (type_unary_op w n op a).answer ≡ true → UnaryKnown op a (type_unary_op w n op a)
  unfolding type_unary_op unary_outcome telling
  unary-tells op a h =
      passes (soundb w n) _ _ (UnaryKnown op a) refl h (λ s t.
      passes (ltb (number_of a) n) _ _ (UnaryKnown op a) refl t (λ l u.
      passes (ltb op unary_ops) _ _ (UnaryKnown op a) refl u (λ k v.
      let q = ruled-tells 0 w n (unary_ruling op) (operand_ty w a ∷ []) (mark_of a ∷ []) v in
      let m = ltb-true op unary_ops k in
      (m, record { sound = sound-of w n s; under = one-under a (ltb-true (number_of a) n l); count = unary-count op m; clash = q.0; judging = q.1 }))))

  abbrev BinaryKnown : ℕ → ℕ → ℕ → Outcome → Type 0
  BinaryKnown op a b o = (op < binary_ops) × Known w n (by_row (binary_row op)) (a ∷ b ∷ []) o

  pub binary-tells : (op a b : ℕ) → telling (type_binary_op w n op a b).answer ≡ true → BinaryKnown op a b (type_binary_op w n op a b)
  unfolding type_binary_op binary_outcome telling
  binary-tells op a b h =
      passes (soundb w n) _ _ (BinaryKnown op a b) refl h (λ s t.
      passes (ltb (number_of a) n) _ _ (BinaryKnown op a b) refl t (λ l u.
      passes (ltb (number_of b) n) _ _ (BinaryKnown op a b) refl u (λ k v.
      passes (ltb op binary_ops) _ _ (BinaryKnown op a b) refl v (λ j x.
      let q = ruled-tells 0 w n (by_row (binary_row op)) (operand_ty w a ∷ operand_ty w b ∷ []) (mark_of a ∷ mark_of b ∷ []) x in
      let m = ltb-true op binary_ops j in
      (m, record { sound = sound-of w n s; under = two-under a b (ltb-true (number_of a) n l) (ltb-true (number_of b) n k); count = binary-count op m; clash = q.0; judging = q.1 })))))

  pub call-tells : (profile : ℕ) (name tplt args : List ℕ) (R : Rule) (q : Ruling) → JudgedBy R q → (runs : Bool) → rule_of profile name ≡ rule R runs
      → telling (type_builtin_fn profile w n name tplt args).answer ≡ true → Known w n q args (type_builtin_fn profile w n name tplt args)
  unfolding type_builtin_fn telling
  call-tells profile name tplt args R q e runs p h =
      let us = types w (numbers args) in
      passes (soundb w n) _ _ (Known w n q args) refl h (λ s t.
      passes (all_under n tplt) _ _ (Known w n q args) refl t (λ l u.
      passes (all_under n (numbers args)) _ _ (Known w n q args) refl u (λ k v.
      subst (λ (x : Named). Known w n q args (by_rule 0 w n x (types w tplt) us (marks_of args))) (sym p)
      (let z = rule-tells 0 w n R q e runs (types w tplt) us (marks_of args) (subst (λ (x : Named). telling (by_rule 0 w n x (types w tplt) us (marks_of args)).answer ≡ true) p v) in
      record { sound = sound-of w n s; under = all_under_lem n (numbers args) k; count = sym (length-map args number_of) ∙ sym (length-map (numbers args) (type_at w)) ∙ z.0; clash = z.1; judging = z.2 }))))
