-- The reply of a call that tells why fits into 32 bits, and is told in numbers. Assumes nothing.
use Prim.Native.Nat.{ℕ, ◌<◌, ◌^◌}
use mathlib.Core.Path.{◌≡◌, sym, ◌∙◌, ap}
use mathlib.Core.Bool.{Bool, true, false, cond}
use mathlib.Core.List.{List}
use native.Mathlib.Omega.{arith}
use lib.Dec.{eqb, leb}
use lib.ListN.{length}
use Rattle.answer.specs.Answer.{reason_no}
use Rattle.answer.specs.declared.Reason.TheVariants.{TooLong}
use Rattle.answer.specs.declared.Refusal.{Refusal}
use Rattle.answer.specs.declared.Answer.{Answer}
use Rattle.answer.specs.declared.Answer.TheVariants.{Value, NoValue, Refused}
use Rattle.spell.specs.Reply.{refuse_spelling}
use Rattle.spell.specs.Reply.{Spelled}
use Rattle.std.specs.Prelude.{Ok, Err}
use Rattle.reasons.specs.Reasons.{together}
use Rattle.why.specs.Why.{by_answer, written_reply, why_reply, why_bytes, WhyDone}
use Rattle.why.specs.inner.Asks.{Short}
use Rattle.swartabelk.specs.Reply.{spelled_of, ToldOut}
use Rattle.swartabelk.specs.declared.SpelledReply.{SpelledReply}
use Rattle.swartabelk.specs.inner.Code.{SpelledFits}
use Rattle.swartabelk.proofs.Places.{At}

-- a text's length is short; a refusal has the place 0 and the count that was given

module _ (n : ℕ) (l : n < 2 ^ 32) where
  refused-at : Spelled → Type 0
  refused-at s = (r : Refusal) → s ≡ Err r → (r.place.0 ≡ 0) × (r.used ≡ n)

  written_at : (text out : List ℕ) → refused-at (written_reply n text out)
  unfolding written_reply refused-at
  written_at text out = go (leb (length text) (length out))
    where
      go : (b : Bool) → (r : Refusal) → cond b (Ok (length text)) (refuse_spelling TooLong n) ≡ Err r → (r.place.0 ≡ 0) × (r.used ≡ n)
      go true r e = absurd (let z : ◌≡◌ {A = ℕ} 0 1 = cc in omega arith)
      go false r e =
          let z : record { reason = TooLong; place = record { 0 = 0 }; used = n } ≡ r = cc in
          (ap (λ (x : Refusal). x.place.0) (sym z), ap (λ (x : Refusal). x.used) (sym z))

  why-at : (a : Answer) → At 0 n a → (text out : List ℕ) → refused-at (why_reply n a text out)
  unfolding why_reply by_answer refused-at
  why-at (Value t m) at text out = written_at text out
  why-at (NoValue m) at text out = written_at text out
  why-at (Refused q) at text out = go (eqb (reason_no q.reason) 8)
    where
      go : (b : Bool) → (r : Refusal) → cond b (written_reply n text out) (Err q) ≡ Err r → (r.place.0 ≡ 0) × (r.used ≡ n)
      go true r e = written_at text out r e
      go false r e = let z : q ≡ r = cc in (ap (λ (x : Refusal). x.place.0) (sym z) ∙ at.0, ap (λ (x : Refusal). x.used) (sym z) ∙ at.1)

  pub why-fits : (a : Answer) → At 0 n a → (ps : List (List ℕ)) (out : List ℕ) (s : Spelled) (v : List ℕ) → WhyDone n a ps out s v → Short s → SpelledFits s
  unfolding Short SpelledFits refused-at
  why-fits a at ps out (Ok k) v d h = omega arith
  why-fits a at ps out (Err r) v d h = let q = why-at a at (together ps) out r (sym d.reply) in (omega (arith, q.0), omega (arith, q.1))

-- told in numbers, over the same count, answer and pieces
pub told-out : {n m : ℕ} {a b : Answer} {ps qs : List (List ℕ)} {out : List ℕ} {s : Spelled} {r : SpelledReply} {v : List ℕ}
    → n ≡ m → a ≡ b → ps ≡ qs → WhyDone n a ps out s v → r ≡ spelled_of m s → ToldOut m b qs out r v
told-out {n} {m} {a} {b} {ps} {qs} {out} {s} {r} {v} e f g d h =
    record {
      reply = h ∙ ap (spelled_of m) (d.reply ∙ (λ i. why_reply (e i) (f i) (together (g i)) out));
      bytes = d.bytes ∙ (λ i. why_bytes (together (g i)) out);
    }
