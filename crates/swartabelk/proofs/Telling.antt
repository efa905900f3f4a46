-- A reply from an answer or a spelling that is told in numbers, case by case. Assumes nothing.
use Prim.Native.Nat.{ℕ, ◌<◌, ◌^◌}
use mathlib.Core.Path.{◌≡◌, sym, ◌∙◌, ap}
use mathlib.Core.List.{List}
use native.Mathlib.Omega.{arith}
use Rattle.answer.specs.Answer.{reason_no, lacking_of}
use Rattle.answer.specs.declared.TypeNo.{TypeNo}
use Rattle.answer.specs.declared.Refusal.{Refusal}
use Rattle.answer.specs.declared.Answer.{Answer}
use Rattle.answer.specs.declared.Answer.TheVariants.{Value, NoValue, Refused}
use Rattle.answer.specs.declared.Typed.{Typed}
use Rattle.spell.specs.Reply.{spell_reply, spell_bytes, SpellDone}
use Rattle.spell.specs.Reply.{Spelled}
use Rattle.std.specs.Prelude.{Ok, Err}
use Rattle.swartabelk.specs.Reply.{no_value, mark_bit, tell, reply_to, reply_of, spelled_of, SpelledOut}
use Rattle.swartabelk.specs.declared.Reply.{Reply}
use Rattle.swartabelk.specs.declared.SpelledReply.{SpelledReply}
use Rattle.swartabelk.specs.inner.Code.{Fits, SpelledFits}

module _ (a : Answer) (f : Fits a) where
  pub value-fits : (t : TypeNo) (m : ℕ) → a ≡ Value t m → (t.0 < 2 ^ 32) × (m < 2 ^ 32)
  unfolding Fits
  value-fits t m e = let g = rw e at f in (omega (arith, g.0), g.1)

  pub none-fits : (m : ℕ) → a ≡ NoValue m → m < 2 ^ 32
  unfolding Fits
  none-fits m e = rw e at f

  pub refused-fits : (r : Refusal) → a ≡ Refused r → (r.place.0 < 2 ^ 32) × (r.used < 2 ^ 32)
  unfolding Fits
  refused-fits r e = rw e at f

-- what is told of an answer, with its mark, is its reply
module _ (d : Typed) (k : ℕ) (b : k ≡ mark_bit d.running) where
  -- the reply of an answer with the mark of d
  abbrev like : Answer → Reply
  like a = reply_of (record { answer = a; running = d.running })

  pub value-told : (t : TypeNo) (m x z : ℕ) → d.answer ≡ Value t m → x ≡ t.0 → z ≡ m → tell 0 x k 0 z 0 ≡ reply_of d
  unfolding reply_of reply_to
  value-told t m x z e p q = (λ i. tell 0 (p i) (b i) 0 (q i) 0) ∙ ap like (sym e)

  pub none_told : (m z : ℕ) → d.answer ≡ NoValue m → z ≡ m → tell 0 no_value k 0 z 0 ≡ reply_of d
  unfolding reply_of reply_to
  none_told m z e q = (λ i. tell 0 no_value (b i) 0 (q i) 0) ∙ ap like (sym e)

  pub refused-told : (q : Refusal) (x y u v : ℕ) → d.answer ≡ Refused q → x ≡ reason_no q.reason → y ≡ lacking_of q.reason → u ≡ q.place.0 → v ≡ q.used → tell x no_value k u v y ≡ reply_of d
  unfolding reply_of reply_to
  refused-told q x y u v e p l s t = (λ i. tell (p i) no_value (b i) (s i) (t i) (l i)) ∙ ap like (sym e)

module _ (s : Spelled) (f : SpelledFits s) where
  pub length-fits : (k : ℕ) → s ≡ Ok k → k < 2 ^ 32
  unfolding SpelledFits
  length-fits k e = rw e at f

  pub long-fits : (r : Refusal) → s ≡ Err r → (r.place.0 < 2 ^ 32) × (r.used < 2 ^ 32)
  unfolding SpelledFits
  long-fits r e = rw e at f

module _ (n : ℕ) (s : Spelled) (x y z : ℕ) where
  pub length-told : (k : ℕ) → s ≡ Ok k → x ≡ k → record { refusal = 0; length = x; place = 0; used = n } ≡ spelled_of n s
  unfolding spelled_of
  length-told k e p = (λ i. record { refusal = 0; length = p i; place = 0; used = n }) ∙ ap (spelled_of n) (sym e)

  pub long-told : (r : Refusal) → s ≡ Err r → x ≡ reason_no r.reason → y ≡ r.place.0 → z ≡ r.used
      → record { refusal = x; length = 0; place = y; used = z } ≡ spelled_of n s
  unfolding spelled_of
  long-told r e p q u = (λ i. record { refusal = p i; length = 0; place = q i; used = u i }) ∙ ap (spelled_of n) (sym e)

-- a spelling's reply, told in numbers, is the reply of the same spelling
pub spelled_out : {w : List ℕ} {n m t u : ℕ} {out : List ℕ} {s : Spelled} {r : SpelledReply} {v : List ℕ}
    → n ≡ m → t ≡ u → SpellDone w n (record { 0 = t }) out s v → r ≡ spelled_of m s → SpelledOut w m u out r v
spelled_out {w} {n} {m} {t} {u} {out} {s} {r} {v} p q d e =
    record {
      reply = e ∙ ap (spelled_of m) (d.reply ∙ (λ i. spell_reply w (p i) (record { 0 = q i }) out));
      bytes = d.bytes ∙ (λ i. spell_bytes w (p i) (record { 0 = q i }) out);
    }
