-- The numbers of every answer to a single call fit into 32 bits: a type is below the used count, which is at most 256; a refusal has the place 0 and the
-- count that was given. Assumes nothing.
use Prim.Native.Nat.{ℕ, ◌<◌, ◌≤◌, ◌^◌}
use mathlib.Core.Path.{◌≡◌, refl, sym, ◌∙◌, ap}
use mathlib.Core.Bool.{Bool, true, false}
use mathlib.Core.List.{List}
use native.Mathlib.Omega.{arith}
use lib.IntN.{ℤ}
use Rattle.answer.specs.Answer.{refuse, marked_by}
use Rattle.table.specs.Table.{soundb}
use Rattle.table.specs.Placing.{Outcome, Gave, GaveMarked, enter_type}
use Rattle.table.specs.declared.Entry.{Entry}
use Rattle.table.proofs.Keeping.{enter-type-kept}
use Rattle.answer.specs.declared.TypeNo.{TypeNo}
use Rattle.answer.specs.declared.Reason.TheVariants.{Unsound}
use Rattle.answer.specs.declared.Answer.{Answer}
use Rattle.answer.specs.declared.Answer.TheVariants.{Value, NoValue, Refused}
use Rattle.answer.specs.declared.Typed.{Typed}
use Rattle.table.specs.Kept.{Kept}
use Rattle.ops_ty.specs.Ops.{type_unary_op, type_binary_op, unary_runs, binary_runs}
use Rattle.ops_ty.proofs.Demand1.{unary_kept, binary-kept}
use Rattle.call_ty.specs.Calls.{type_builtin_fn, builtin_runs}
use Rattle.call_ty.proofs.Demand1.{call_kept}
use Rattle.tplt.specs.Templates.{template_outcome}
use Rattle.tplt.proofs.Demand1.{template-kept}
use Rattle.swartabelk.specs.Reply.{reply_of, Replied, check_answer}
use Rattle.swartabelk.specs.inner.Code.{Fits}
use Rattle.swartabelk.specs.declared.Reply.{Reply}
use Rattle.swartabelk.proofs.Places.{At, enter-type-at, type-unary-at, type-binary-at, type-builtin-at, type-template-at}

-- a type of a sound table
value-fits : (t : TypeNo) (m : ℕ) → t.0 < m → m ≤ 256 → Fits (Value t m)
unfolding Fits
value-fits t m h k = (omega arith, omega arith)

-- the three cases of an answer: a type below the count of a table, which is at most 256; no value, with the count that was given; a refusal
pub case-fits : (place n : ℕ) → place < 2 ^ 32 → n < 2 ^ 32 → (a : Answer)
    → ((t : TypeNo) (m : ℕ) → a ≡ Value t m → (t.0 < m) × (m ≤ 256)) → ((m : ℕ) → a ≡ NoValue m → m ≡ n) → At place n a → Fits a
unfolding Fits
case-fits place n p l (Value t m) v e at = let s = v t m refl in value-fits t m s.0 s.1
case-fits place n p l (NoValue m) v e at = let q = e m refl in omega arith
case-fits place n p l (Refused r) v e at = (omega (arith, at.0), omega (arith, at.1))

-- a call keeps what `Kept` says
kept-fits : (w : List ℕ) (n : ℕ) (o : Outcome) → n < 2 ^ 32 → Kept w n o → At 0 n o.answer → (a : Answer) → a ≡ o.answer → Fits a
kept-fits w n o l k at a e =
    case-fits 0 n (omega arith) l a
    (λ t m q. let s = (k.accepted t m (sym e ∙ q)).1 in (s.below, s.sound.high)) (λ m q. (k.without m (sym e ∙ q)).1)
    (rw e at)

-- the answer that an outcome gave with a mark
pub answer-of : {o : Outcome} {m : Bool} {d : Typed} {v : List ℕ} → GaveMarked o m d v → d.answer ≡ o.answer
answer-of g = ap (λ (x : Typed). x.answer) g.reply

module _ (w : List ℕ) (n : ℕ) (l : n < 2 ^ 32) (v : List ℕ) where
  module _ (d : Typed) where
    pub unary-fits : (op a : ℕ) → GaveMarked (type_unary_op w n op a) (unary_runs a) d v → Fits d.answer
    unary-fits op a g = kept-fits w n _ l (unary_kept w n op a) (type-unary-at w n op a) d.answer (answer-of g)

    pub binary-fits : (op a b : ℕ) → GaveMarked (type_binary_op w n op a b) (binary_runs a b) d v → Fits d.answer
    binary-fits op a b g = kept-fits w n _ l (binary-kept w n op a b) (type-binary-at w n op a b) d.answer (answer-of g)

    pub call_fits : (profile : ℕ) (name tplt args : List ℕ) → GaveMarked (type_builtin_fn profile w n name tplt args) (builtin_runs profile name args) d v → Fits d.answer
    call_fits profile name tplt args g =
        kept-fits w n _ l (call_kept profile w n name tplt args) (type-builtin-at w n profile name tplt args) d.answer (answer-of g)

  pub enter-fits : (r : Answer) (e : Entry) → Gave (enter_type w n e) r v → Fits r
  enter-fits r e g = kept-fits w n _ l (enter-type-kept w n e) (enter-type-at w n e) r g.reply

  pub template-fits : (r : Answer) (head : List ℕ) (args : List ℤ) → Gave (template_outcome w n head args) r v → Fits r
  template-fits r head args g = kept-fits w n _ l (template-kept w n head args) (type-template-at w n head args) r g.reply

-- an outcome's answer, told in numbers, is the reply of the same outcome: with a mark, and without
pub replied : {o p : Outcome} {m k : Bool} {d : Typed} {r : Reply} {v : List ℕ} → o ≡ p → m ≡ k → GaveMarked o m d v → r ≡ reply_of d → Replied p k r v
replied q f g e =
    record { reply = e ∙ ap reply_of g.reply ∙ (λ i. reply_of (marked_by (f i) (q i).answer)); words = g.words ∙ ap (λ (x : Outcome). x.words) q }

pub replied-const : {o p : Outcome} {a : Answer} {r : Reply} {v : List ℕ} → o ≡ p → Gave o a v → r ≡ reply_of (marked_by false a) → Replied p false r v
replied-const q g e =
    record { reply = e ∙ (λ i. reply_of (marked_by false (g.reply i))) ∙ (λ i. reply_of (marked_by false (q i).answer)); words = g.words ∙ ap (λ (x : Outcome). x.words) q }

-- the answer of a check: no value, or refusal 1
module _ (w : List ℕ) (n m : ℕ) (same : m ≡ n) (a : Answer) where
  pub sound-fits : n < 2 ^ 32 → a ≡ NoValue m → Fits a
  unfolding Fits
  sound-fits l e = rw (e, same) l

  pub unsound-fits : n < 2 ^ 32 → a ≡ refuse Unsound 0 m → Fits a
  unfolding Fits
  unsound-fits l e = rw (e, same) (omega arith, l)

  pub sound-check : soundb w m ≡ true → a ≡ NoValue m → a ≡ check_answer w n
  unfolding check_answer
  sound-check h e = let k : soundb w n ≡ true = rw same at h in rw k (e ∙ ap NoValue same)

  pub unsound-check : soundb w m ≡ false → a ≡ refuse Unsound 0 m → a ≡ check_answer w n
  unfolding check_answer
  unsound-check h e = let k : soundb w n ≡ false = rw same at h in rw k (e ∙ ap (refuse Unsound 0) same)
