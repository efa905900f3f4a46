-- For each public function: no second reply, and no other words afterwards, meet its promise. Assumes nothing.
use Prim.Native.Nat.{ℕ}
use mathlib.Core.Path.{◌≡◌, sym, ◌∙◌}
use mathlib.Core.Bool.{Bool}
use mathlib.Core.List.{List}
use Rattle.table.specs.Table.{scalars, entry_at, find_in, soundb, allowedb}
use Rattle.conv.specs.Types.{abstract_ty}
use Rattle.table.specs.Denote.{type_at}
use Rattle.table.specs.Placing.{Outcome, Gave, GaveMarked}
use Rattle.table.specs.Enter.{with_scalars, EnterDone, EnterTwoDone, entry_answer}
use Rattle.table.specs.declared.Entry.{Entry}
use Rattle.std.specs.Prelude.{Option, Result}
use Rattle.table.specs.declared.Entered.{Entered}
use Rattle.table.specs.declared.Lacks.{Lacks}
use Rattle.answer.specs.declared.TypeNo.{TypeNo}
use Rattle.answer.specs.declared.Answer.{Answer}
use Rattle.answer.specs.declared.Typed.{Typed}

-- what equals one thing is one thing
one : {A : Type 0} {x a b : A} → a ≡ x → b ≡ x → a ≡ b
one p q = p ∙ sym q

pub entry-at-one : (w : List ℕ) (i : ℕ) {a b : Entry} → a ≡ entry_at w i → b ≡ entry_at w i → a ≡ b
entry-at-one w i x y = one x y

pub find-one : (w : List ℕ) (n : ℕ) (e : Entry) {a b : Option TypeNo} → a ≡ find_in w n e → b ≡ find_in w n e → a ≡ b
find-one w n e x y = one x y

pub sound-one : (w : List ℕ) (n : ℕ) {a b : Bool} → a ≡ soundb w n → b ≡ soundb w n → a ≡ b
sound-one w n x y = one x y

pub allowed-one : (w : List ℕ) (n : ℕ) (e : Entry) {a b : Bool} → a ≡ allowedb w n e → b ≡ allowedb w n e → a ≡ b
allowed-one w n e x y = one x y

pub abstract-at-one : (w : List ℕ) (t : ℕ) {a b : Bool} → a ≡ abstract_ty (type_at w t) → b ≡ abstract_ty (type_at w t) → a ≡ b
abstract-at-one w t x y = one x y

pub put-scalars-one : (w : List ℕ) {u v : List ℕ} → u ≡ with_scalars scalars w → v ≡ with_scalars scalars w → u ≡ v
put-scalars-one w p q = one p q

pub enter_one : {w : List ℕ} {n : ℕ} {e : Entry} {a b : Result Entered Lacks} {u v : List ℕ} → EnterDone w n e a u → EnterDone w n e b v → (a ≡ b) × (u ≡ v)
enter_one x y = (one x.reply y.reply, one x.words y.words)

pub enter-two-one : {w : List ℕ} {n : ℕ} {inner outer : Entry} {a b : Result Entered Lacks} {u v : List ℕ} →
    EnterTwoDone w n inner outer a u → EnterTwoDone w n inner outer b v → (a ≡ b) × (u ≡ v)
enter-two-one x y = (one x.reply y.reply, one x.words y.words)

pub answer-of-one : (place n : ℕ) (r : Result Entered Lacks) {a b : Answer} → a ≡ entry_answer place r n → b ≡ entry_answer place r n → a ≡ b
answer-of-one place n r x y = one x y

-- what meets a call's promise is one; so of `enter_type`
pub gave_one : (o : Outcome) (r s : Answer) (v u : List ℕ) → Gave o r v → Gave o s u → (r ≡ s) × (v ≡ u)
gave_one o r s v u a b = (a.reply ∙ sym b.reply, a.words ∙ sym b.words)

pub gave-marked-one : (o : Outcome) (m : Bool) (r s : Typed) (v u : List ℕ) → GaveMarked o m r v → GaveMarked o m s u → (r ≡ s) × (v ≡ u)
gave-marked-one o m r s v u a b = (a.reply ∙ sym b.reply, a.words ∙ sym b.words)
