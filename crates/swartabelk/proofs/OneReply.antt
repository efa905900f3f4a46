-- For each export: no second reply, and no other words or bytes afterwards, meet its promise; and where the numbers of answers fit, two answers have two
-- replies. Assumes nothing.
use Prim.Native.Nat.{ℕ, ◌<◌}
use mathlib.Core.Path.{◌≡◌, refl, sym, ◌∙◌, ap}
use mathlib.Core.Bool.{Bool, true, false}
use mathlib.Core.List.{List}
use native.Mathlib.Omega.{arith}
use lib.IntN.{ℤ}
use Rattle.answer.specs.Answer.{reason_no, marked_by}
use Rattle.table.specs.Placing.{Outcome, enter_type}
use Rattle.table.specs.declared.Entry.{Entry}
use Rattle.answer.specs.declared.Reason.{Reason}
use Rattle.answer.specs.declared.Reason.TheVariants.{Unsound, NoSuchType, Reference, Unknown, Template, Count, Operands, NoOverload, NoRoom, Framing, Stack, TooLong, RunningAbstract}
use Rattle.answer.specs.declared.Answer.{Answer}
use Rattle.answer.specs.declared.Answer.TheVariants.{Value, NoValue, Refused}
use Rattle.answer.specs.declared.Typed.{Typed}
use Rattle.answer.proofs.AnswerLaws.{reason-injective}
use Rattle.frame.specs.Frame.{name_part}
use Rattle.ops_ty.specs.Ops.{type_unary_op, type_binary_op, unary_runs, binary_runs}
use Rattle.call_ty.specs.Calls.{type_builtin_fn, builtin_runs}
use Rattle.tplt.specs.Templates.{template_outcome}
use Rattle.sheet.specs.Machine.{type_sheet, sheet_runs}
use Rattle.swartabelk.specs.Reply.{no_value, mark_bit, reply_to, reply_of, Replied, check_answer, SpelledOut, ToldOut, part_of}
use Rattle.swartabelk.specs.inner.Code.{Fits}
use Rattle.swartabelk.specs.declared.Reply.{Reply}
use Rattle.swartabelk.specs.declared.SpelledReply.{SpelledReply}
use Rattle.swartabelk.specs.declared.NamePart.{NamePart}

replied-one : (o : Outcome) (m : Bool) (r q : Reply) (v u : List ℕ) → Replied o m r v → Replied o m q u → (r ≡ q) × (v ≡ u)
replied-one o m r q v u a b = (a.reply ∙ sym b.reply, a.words ∙ sym b.words)

module _ (w : List ℕ) (n : ℕ) (r q : Reply) where
  pub check-one : r ≡ reply_of (marked_by false (check_answer w n)) → q ≡ reply_of (marked_by false (check_answer w n)) → r ≡ q
  check-one a b = a ∙ sym b

  module _ (v u : List ℕ) where
    pub enter_one : (e : Entry) → Replied (enter_type w n e) false r v → Replied (enter_type w n e) false q u → (r ≡ q) × (v ≡ u)
    enter_one e = replied-one (enter_type w n e) false r q v u

    pub unary-one : (op a : ℕ) → Replied (type_unary_op w n op a) (unary_runs a) r v → Replied (type_unary_op w n op a) (unary_runs a) q u → (r ≡ q) × (v ≡ u)
    unary-one op a = replied-one (type_unary_op w n op a) (unary_runs a) r q v u

    pub binary-one : (op a b : ℕ) → Replied (type_binary_op w n op a b) (binary_runs a b) r v → Replied (type_binary_op w n op a b) (binary_runs a b) q u → (r ≡ q) × (v ≡ u)
    binary-one op a b = replied-one (type_binary_op w n op a b) (binary_runs a b) r q v u

    pub call-one : (profile : ℕ) (name tplt args : List ℕ) → Replied (type_builtin_fn profile w n name tplt args) (builtin_runs profile name args) r v
        → Replied (type_builtin_fn profile w n name tplt args) (builtin_runs profile name args) q u → (r ≡ q) × (v ≡ u)
    call-one profile name tplt args = replied-one (type_builtin_fn profile w n name tplt args) (builtin_runs profile name args) r q v u

    pub template-one : (head : List ℕ) (args : List ℤ) → Replied (template_outcome w n head args) false r v → Replied (template_outcome w n head args) false q u → (r ≡ q) × (v ≡ u)
    template-one head args = replied-one (template_outcome w n head args) false r q v u

    pub sheet-one : (profile : ℕ) (s : List ℕ) → Replied (type_sheet profile w n s) (sheet_runs profile w n s) r v → Replied (type_sheet profile w n s) (sheet_runs profile w n s) q u → (r ≡ q) × (v ≡ u)
    sheet-one profile s = replied-one (type_sheet profile w n s) (sheet_runs profile w n s) r q v u

pub spell_one : (w : List ℕ) (n t : ℕ) (out : List ℕ) (r q : SpelledReply) (v u : List ℕ) → SpelledOut w n t out r v → SpelledOut w n t out q u → (r ≡ q) × (v ≡ u)
spell_one w n t out r q v u a b = (a.reply ∙ sym b.reply, a.bytes ∙ sym b.bytes)

pub why-one : (n : ℕ) (a : Answer) (ps : List (List ℕ)) (out : List ℕ) (r q : SpelledReply) (v u : List ℕ) → ToldOut n a ps out r v → ToldOut n a ps out q u → (r ≡ q) × (v ≡ u)
why-one n a ps out r q v u x y = (x.reply ∙ sym y.reply, x.bytes ∙ sym y.bytes)

pub call-name-one : (s : List ℕ) (place : ℕ) (r q : NamePart) → r ≡ part_of (name_part s place) → q ≡ part_of (name_part s place) → r ≡ q
call-name-one s place r q a b = a ∙ sym b

-- THE NUMBERS tell answers apart, and marks: no refusal has the number 0, and no type that fits is the one that stands for none

some : (r : Reason) → reason_no r ≡ 0 → ⊥
some Unsound e = omega arith
some NoSuchType e = omega arith
some Reference e = omega arith
some Unknown e = omega arith
some Template e = omega arith
some Count e = omega arith
some Operands e = omega arith
some NoOverload e = omega arith
some (NoRoom k) e = omega arith
some Framing e = omega arith
some Stack e = omega arith
some TooLong e = omega arith
some RunningAbstract e = omega arith

valued : {P : Type 0} (t : ℕ) → t < no_value → t ≡ no_value → P
valued t h e = absurd (omega arith)

bit-injective : (m k : Bool) → mark_bit m ≡ mark_bit k → m ≡ k
bit-injective true true e = refl
bit-injective true false e = absurd (omega arith)
bit-injective false true e = absurd (omega arith)
bit-injective false false e = refl

-- the answers, whatever their marks
answer-injective : (a b : Answer) (m k : Bool) → Fits a → Fits b → reply_of (record { answer = a; running = m }) ≡ reply_of (record { answer = b; running = k }) → a ≡ b
unfolding Fits reply_of reply_to
answer-injective (Value t m) (Value u k) x y f g e =
    let p : t.0 ≡ u.0 = ap (λ (x : Reply). x.ty) e in
    let q : m ≡ k = ap (λ (x : Reply). x.used) e in
    λ i. Value (record { 0 = p i }) (q i)
answer-injective (Value t m) (NoValue k) x y f g e = valued t.0 f.0 (ap (λ (x : Reply). x.ty) e)
answer-injective (Value t m) (Refused r) x y f g e = valued t.0 f.0 (ap (λ (x : Reply). x.ty) e)
answer-injective (NoValue m) (Value u k) x y f g e = valued u.0 g.0 (sym (ap (λ (x : Reply). x.ty) e))
answer-injective (NoValue m) (NoValue k) x y f g e = ap NoValue (ap (λ (x : Reply). x.used) e)
answer-injective (NoValue m) (Refused r) x y f g e = absurd (some r.reason (sym (ap (λ (x : Reply). x.refusal) e)))
answer-injective (Refused r) (Value u k) x y f g e = valued u.0 g.0 (sym (ap (λ (x : Reply). x.ty) e))
answer-injective (Refused r) (NoValue k) x y f g e = absurd (some r.reason (ap (λ (x : Reply). x.refusal) e))
answer-injective (Refused r) (Refused q) x y f g e =
    let why : r.reason ≡ q.reason = reason-injective _ _ (ap (λ (x : Reply). x.refusal) e) (ap (λ (x : Reply). x.lacking) e) in
    let place : r.place.0 ≡ q.place.0 = ap (λ (x : Reply). x.place) e in
    let used : r.used ≡ q.used = ap (λ (x : Reply). x.used) e in
    λ i. Refused (record { reason = why i; place = record { 0 = place i }; used = used i })

pub reply-injective : (a b : Typed) → Fits a.answer → Fits b.answer → reply_of a ≡ reply_of b → a ≡ b
unfolding reply_of reply_to
reply-injective a b f g e =
    let p : a.answer ≡ b.answer = answer-injective a.answer b.answer a.running b.running f g e in
    let q : a.running ≡ b.running = bit-injective a.running b.running (ap (λ (x : Reply). x.mark) e) in
    λ i. record { answer = p i; running = q i }
