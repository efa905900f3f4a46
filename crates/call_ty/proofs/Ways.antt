-- The ways out of a call of a builtin, each as the outcome that its definition gives. Assumes nothing.
use Prim.Native.Nat.{ℕ, ◌≤◌, ◌<◌}
use mathlib.Core.Path.{◌≡◌, refl, sym, ◌∙◌, ap, subst}
use mathlib.Core.Logic.{◌≢◌, ◌⊎◌, inl, inr}
use mathlib.Core.Bool.{Bool, true, false, ◌||◌}
use mathlib.Core.List.{List, [], ◌∷◌, map}
use native.Mathlib.Omega.{arith}
use lib.Dec.{eqb}
use lib.ListN.{length, get_or, length-map}
use borrow.Author.Tests.{eq-eqb, ne_eqb, eqb-true}
use Rattle.conv.specs.Types.{Ty}
use Rattle.conv.specs.Types.Ty.{scalar, exchange}
use Rattle.overload.specs.Overload.{Judged, or}
use Rattle.overload.specs.Marks.{any_running, running_abstract}
use Rattle.overload.specs.Rows.{row_at, judge_atomic, judge_load, judge_length, alone, judge_by}
use Rattle.overload.proofs.Marks.{judge-kept}
use Rattle.overload.specs.Rows.Ruling.{by_row, array_length}
use Rattle.overload.proofs.Counts.{count-few}
use Rattle.overload.specs.inner.Code.{operand, code_of, judge_kept}
use Rattle.overload.proofs.Operands.{and_left, all_formed, codes_of, judge-types}
use Rattle.names.specs.Names.{Rule, loading, updating, exchanging, uniform_loading}
use Rattle.names.specs.Names.Rule.{ruling, storing, bitcast, barrier}
use Rattle.names.specs.Names.Named.{rule, unknown}
use Rattle.names.specs.inner.Table.{meant}
use Rattle.names.specs.declared.Rule.TheVariants as code
use Rattle.answer.specs.Answer.{accept, refuse, marked_by, Accepted, WithoutValue}
use Rattle.answer.specs.declared.Reason.{Reason}
use Rattle.answer.specs.declared.Typed.{Typed}
use Rattle.table.specs.Table.{soundb, Sound}
use Rattle.table.specs.Denote.{type_at}
use Rattle.table.specs.Placing.{Outcome, Gave, GaveMarked, turned_down}
use Rattle.answer.specs.declared.Answer.{Answer}
use Rattle.answer.specs.declared.TypeNo.{TypeNo}
use Rattle.answer.specs.declared.Reason.TheVariants.{Unsound, NoSuchType, Reference, Unknown, Template, Operands, RunningAbstract}
use Rattle.table.proofs.FormedLaws.{formed-at}
use Rattle.table.proofs.PlacingLaws.{standing-outcome}
use Rattle.table.proofs.Giving.{gave, gave-marked}
use Rattle.ruled.specs.Call.{any_reference, judged_outcome, without_value, silent_outcome}
use Rattle.call_ty.specs.Calls.{first_in, wide_numeric, template_right, operands_by, operands_of, given_by, given_outcome, by_rule, runs_by, call_outcome, all_under, numbers, marks_of, types, type_builtin_fn}
use Rattle.call_ty.specs.Calls.Given.{judgment}
use Rattle.call_ty.specs.inner.Codes.{Under, numeric_code}
use Rattle.call_ty.proofs.Parts.{numeric-by}
use Rattle.call_ty.proofs.Lists.{type-in}

-- what the two makers of an accepted answer give
pub gave-accepted : (t : TypeNo) {r : Answer} (w : List ℕ) (n : ℕ) → Accepted t n r → Gave (record { answer = accept t.0 n; words = w }) r w
gave-accepted t w n a = gave a.made refl

pub gave-none : {r : Answer} (w : List ℕ) (n : ℕ) → WithoutValue n r → Gave (without_value w n) r w
gave-none w n a = gave a.made refl

-- a refusal has no mark
pub gave-unmarked : (reason : Reason) (place : ℕ) (w : List ℕ) (n : ℕ) (m : Bool) (r : Typed) → r ≡ marked_by false (refuse reason place n) → GaveMarked (turned_down reason place w n) m r w
gave-unmarked reason place w n m r e = gave-marked (gave refl refl) e

-- the same outcome
pub gave-as-marked : {o p : Outcome} {m : Bool} {r : Typed} {v : List ℕ} → o ≡ p → GaveMarked o m r v → GaveMarked p m r v
gave-as-marked {m = m} {r = r} {v = v} e g = subst (λ (x : Outcome). GaveMarked x m r v) e g

-- THE TEMPLATE LIST

-- no rule but `bitcast` wants a list
no-list : (r : code.the_data) (ts : List Ty) → (r ≡ code.Bitcast → ⊥) → template_right (meant r) ts ≡ eqb (length ts) 0
unfolding template_right meant
no-list (code.Row k) ts h = refl
no-list code.Bitcast ts h = absurd (h refl)
no-list code.ArrayLength ts h = refl
no-list code.Barrier ts h = refl
no-list code.AtomicLoad ts h = refl
no-list code.AtomicUpdate ts h = refl
no-list code.AtomicStore ts h = refl
no-list code.AtomicCompare ts h = refl
no-list code.UniformLoad ts h = refl

module _ (w : List ℕ) (ts : List ℕ) where
  pub template-none : (r : code.the_data) → (r ≡ code.Bitcast → ⊥) → eqb (length ts) 0 ≡ template_right (meant r) (types w ts)
  template-none r h = sym (no-list r (types w ts) h ∙ ap (λ (l : ℕ). eqb l 0) (length-map ts (type_at w)))

  pub template-count : length ts ≢ 1 → false ≡ template_right bitcast (types w ts)
  unfolding template_right
  template-count l = sym (rw (ne_eqb (length (types w ts)) 1 (λ e. l (sym (length-map ts (type_at w)) ∙ e))))

  pub template-one : (n : ℕ) → Sound w n → Under n ts → length ts ≡ 1 → (x : ℕ) → x ≡ code_of (type_at w (get_or ts 0 0)) → numeric_code x ≡ template_right bitcast (types w ts)
  unfolding template_right
  template-one n s u o x e =
      let l : 0 < length ts = omega arith in
      ap numeric_code e
      ∙ sym (numeric-by (type_at w (get_or ts 0 0)) (formed-at w n s (get_or ts 0 0) (u 0 l)))
      ∙ sym (ap wide_numeric (type-in w ts 0 l))
      ∙ sym (rw (eq-eqb (length (types w ts)) 1 (length-map ts (type_at w) ∙ o)))

  pub template-some : template_right bitcast (types w ts) ≡ true → length ts ≡ 1
  unfolding template_right
  template-some o =
      sym (length-map ts (type_at w))
      ∙ eqb-true (length (types w ts)) 1 (and_left (eqb (length (types w ts)) 1) (wide_numeric (first_in (types w ts))) o)

-- A RULED NAME, AND `bitcast`

module _ (place : ℕ) (w : List ℕ) (n : ℕ) (s : Sound w n) where
  -- a ruled name, by the numbers of its operands
  pub rule-row : (k : ℕ) (ts us : List Ty) (ms : List Bool) → all_formed us ≡ true → running_abstract us ms ≡ false → (running : Bool) → running ≡ any_running ms → (row : ℕ) → row ≡ k → (codes : List ℕ) → codes ≡ codes_of us
      → judged_outcome place w n (judge_kept running (row_at row) (map operand codes)) ≡ given_outcome place w n (given_by (ruling (by_row (row_at k))) ts us ms)
  unfolding given_outcome given_by judge_by
  rule-row k ts us ms f c running a row q codes e =
      (λ i. judged_outcome place w n (judge_kept (a i) (row_at (q i)) (map operand (e i))))
      ∙ ap (judged_outcome place w n) (judge-types us f k (any_running ms) ∙ judge-kept k us ms c)

  pub rule-bitcast : (tplt : List ℕ) (us : List Ty) (ms : List Bool) → Under n tplt → length tplt ≡ 1
      → record { answer = accept (get_or tplt 0 0) n; words = w } ≡ given_outcome place w n (given_by bitcast (types w tplt) us ms)
  unfolding given_outcome given_by judged_outcome
  rule-bitcast tplt us ms u o =
      let l : 0 < length tplt = omega arith in
      sym (standing-outcome place w n s (get_or tplt 0 0) (first_in (types w tplt)) (u 0 l) (sym (type-in w tplt 0 l)))

-- CALLS ON MEMORY, by the first operand a and the others, vs

module _ (place : ℕ) (w : List ℕ) (n : ℕ) (ts us : List Ty) (ms : List Bool) where
  pub rule-barrier : without_value w n ≡ given_outcome place w n (given_by barrier ts us ms)
  unfolding given_outcome given_by
  rule-barrier = refl

  module _ (a : Ty) (vs : List Ty) (is : a ∷ vs ≡ us) where
    -- of one operand
    module _ (e : vs ≡ []) where
      rule-alone : (j : Ty → Judged) (r : Rule) → given_by r ts us ms ≡ judgment (alone j us) → judged_outcome place w n (j a) ≡ given_outcome place w n (given_by r ts us ms)
      unfolding given_outcome alone
      rule-alone j r g = ap (λ (l : List Ty). judged_outcome place w n (alone j l)) ((λ i. a ∷ sym e i) ∙ is) ∙ ap (given_outcome place w n) (sym g)

      pub rule-uniform : judged_outcome place w n (judge_load a) ≡ given_outcome place w n (given_by uniform_loading ts us ms)
      unfolding given_by judge_by
      rule-uniform = rule-alone judge_load uniform_loading refl

      pub rule-length : judged_outcome place w n (judge_length a) ≡ given_outcome place w n (given_by (ruling array_length) ts us ms)
      unfolding given_by judge_by
      rule-length = rule-alone judge_length (ruling array_length) refl

    module _ (j : ℕ) where
      pub rule-compare : j ≡ 2 → judged_outcome place w n (judge_atomic j exchange (a ∷ vs)) ≡ given_outcome place w n (given_by exchanging ts us ms)
      unfolding given_outcome given_by judge_by
      rule-compare e = λ i. judged_outcome place w n (judge_atomic (e i) exchange (is i))

      pub rule-store : j ≡ 1 → silent_outcome place w n (judge_atomic j scalar (a ∷ vs)) ≡ given_outcome place w n (given_by storing ts us ms)
      unfolding given_outcome given_by judge_by
      rule-store e = λ i. silent_outcome place w n (judge_atomic (e i) scalar (is i))

      pub rule-update : j ≡ 1 → judged_outcome place w n (judge_atomic j scalar (a ∷ vs)) ≡ given_outcome place w n (given_by updating ts us ms)
      unfolding given_outcome given_by judge_by
      rule-update e = λ i. judged_outcome place w n (judge_atomic (e i) scalar (is i))

      pub rule-load : j ≡ 0 → judged_outcome place w n (judge_atomic j scalar (a ∷ vs)) ≡ given_outcome place w n (given_by loading ts us ms)
      unfolding given_outcome given_by judge_by
      rule-load e = λ i. judged_outcome place w n (judge_atomic (e i) scalar (is i))

-- HOW MANY OPERANDS: four at most
pub at_most : (r : code.the_data) → operands_of (meant r) ≤ 4
unfolding operands_of operands_by meant
at_most (code.Row k) = count-few k
at_most code.Bitcast = omega arith
at_most code.ArrayLength = omega arith
at_most code.Barrier = omega arith
at_most code.AtomicLoad = omega arith
at_most code.AtomicUpdate = omega arith
at_most code.AtomicStore = omega arith
at_most code.AtomicCompare = omega arith
at_most code.UniformLoad = omega arith

-- as many operands as a rule wants
pub wants : (k : ℕ) (r s : code.the_data) → k ≡ operands_of (meant r) → r ≡ s → k ≡ operands_of (meant s)
wants k r s q e = q ∙ ap (λ (x : code.the_data). operands_of (meant x)) e

pub atomic-some : (k : ℕ) (r : code.the_data) → k ≡ operands_of (meant r) → (r ≡ code.AtomicLoad) ⊎ (r ≡ code.AtomicUpdate) → 1 ≤ k
unfolding operands_of operands_by meant
atomic-some k r q (inl e) = let m : k ≡ 1 = wants k r code.AtomicLoad q e in omega arith
atomic-some k r q (inr e) = let m : k ≡ 2 = wants k r code.AtomicUpdate q e in omega arith

-- what a rule gives, by what it means
pub given-as : (place : ℕ) (w : List ℕ) (n : ℕ) (ts us : List Ty) (ms : List Bool) (r s : code.the_data) → r ≡ s → given_outcome place w n (given_by (meant s) ts us ms) ≡ given_outcome place w n (given_by (meant r) ts us ms)
given-as place w n ts us ms r s e = ap (λ (x : code.the_data). given_outcome place w n (given_by (meant x) ts us ms)) (sym e)

-- A CALL BY ITS RULE

module _ (place : ℕ) (w : List ℕ) (n : ℕ) (r : Rule) (runs : Bool) (ts us : List Ty) (ms : List Bool) where
  pub by-template : template_right r ts ≡ false → turned_down Template place w n ≡ by_rule place w n (rule r runs) ts us ms
  unfolding by_rule
  by-template h = sym (rw h)

  module _ (t : template_right r ts ≡ true) where
    pub by_count : length us ≢ operands_of r → turned_down Operands place w n ≡ by_rule place w n (rule r runs) ts us ms
    unfolding by_rule
    by_count h = sym (rw (t, ne_eqb (length us) (operands_of r) h))

    module _ (k : length us ≡ operands_of r) where
      pub by-reference : any_reference us ≡ true → turned_down Reference place w n ≡ by_rule place w n (rule r runs) ts us ms
      unfolding by_rule
      by-reference h = sym (rw (t, eq-eqb (length us) (operands_of r) k, h))

      pub by-clash : any_reference us ≡ false → running_abstract us ms ≡ true → turned_down RunningAbstract place w n ≡ by_rule place w n (rule r runs) ts us ms
      unfolding by_rule
      by-clash h c = sym (rw (t, eq-eqb (length us) (operands_of r) k, h, c))

      pub by_call : any_reference us ≡ false → running_abstract us ms ≡ false → given_outcome place w n (given_by r ts us ms) ≡ by_rule place w n (rule r runs) ts us ms
      unfolding by_rule
      by_call h c = sym (rw (t, eq-eqb (length us) (operands_of r) k, h, c))

-- whether the result is running plays no part in the outcome
pub by_runs : (place : ℕ) (w : List ℕ) (n : ℕ) (r : Rule) (a b : Bool) (ts us : List Ty) (ms : List Bool) → by_rule place w n (rule r a) ts us ms ≡ by_rule place w n (rule r b) ts us ms
unfolding by_rule
by_runs place w n r a b ts us ms = refl

pub by-unknown : (place : ℕ) (w : List ℕ) (n : ℕ) (ts us : List Ty) (ms : List Bool) → turned_down Unknown place w n ≡ by_rule place w n unknown ts us ms
unfolding by_rule
by-unknown place w n ts us ms = refl

-- the mark of a result, as the code has it
pub runs_by_lem : (r : Rule) (runs : Bool) (ms : List Bool) → (runs || any_running ms) ≡ runs_by (rule r runs) ms
unfolding runs_by or
runs_by_lem r true ms = refl
runs_by_lem r false ms = refl

-- A SINGLE CALL

module _ (profile : ℕ) (w : List ℕ) (n : ℕ) (name tplt args : List ℕ) where
  pub single-unsound : soundb w n ≡ false → turned_down Unsound 0 w n ≡ type_builtin_fn profile w n name tplt args
  unfolding type_builtin_fn
  single-unsound h = sym (rw h)

  module _ (s : soundb w n ≡ true) where
    pub single-template : all_under n tplt ≡ false → turned_down NoSuchType 0 w n ≡ type_builtin_fn profile w n name tplt args
    unfolding type_builtin_fn
    single-template h = sym (rw (s, h))

    module _ (t : all_under n tplt ≡ true) where
      pub single-operand : all_under n (numbers args) ≡ false → turned_down NoSuchType 0 w n ≡ type_builtin_fn profile w n name tplt args
      unfolding type_builtin_fn
      single-operand h = sym (rw (s, t, h))

      pub single-call : all_under n (numbers args) ≡ true → call_outcome profile 0 w n name (types w tplt) (types w (numbers args)) (marks_of args) ≡ type_builtin_fn profile w n name tplt args
      unfolding type_builtin_fn
      single-call h = sym (rw (s, t, h))
