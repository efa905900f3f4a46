-- No second reply, and no other bytes afterwards, meet the promise of `spell` and `spell_in` (of `spell_type`: `one-put` of `text`); and document 01's
-- numbers tell replies apart. Assumes nothing.
use Prim.Native.Nat.{ℕ}
use mathlib.Core.Path.{◌≡◌, refl, sym, ◌∙◌, ap}
use mathlib.Core.Bool.{Bool, true, false, cond}
use mathlib.Core.List.{List, [], ◌∷◌}
use native.Mathlib.Omega.{arith}
use lib.Dec.{ltb, leb}
use lib.ListN.{length}
use Rattle.answer.specs.Answer.{lacking_of}
use Rattle.table.specs.Table.{soundb}
use Rattle.answer.specs.declared.TypeNo.{TypeNo}
use Rattle.answer.specs.declared.Reason.TheVariants.{Unsound, NoSuchType, TooLong}
use Rattle.answer.proofs.AnswerLaws.{reason-injective}
use Rattle.std.specs.Prelude.{Ok, Err}
use Rattle.spell.specs.Reply.{Spelled, ReplyNumbers, spelled_numbers, spelling_at, in_order, refuse_spelling, spell_reply, SpellDone}

pub one-reply : {w : List ℕ} {n : ℕ} {t : TypeNo} {out : List ℕ} {r s : Spelled} {u v : List ℕ} →
    SpellDone w n t out r u → SpellDone w n t out s v → (r ≡ s) × (u ≡ v)
one-reply a b = (a.reply ∙ sym b.reply, a.bytes ∙ sym b.bytes)

one-two : {P : Type 0} (a b c : ℕ) → a ∷ [] ≡ b ∷ c ∷ [] → P
one-two a b c h = let z : ◌≡◌ {A = ℕ} 0 1 = cc in absurd (omega arith)

-- how many entries a reply says to lack: a spelling none, since it enters nothing

abbrev lacking_in : Spelled → ℕ
lacking_in (Ok k) = 0
lacking_in (Err r) = lacking_of r.reason

pub lacks-none : (w : List ℕ) (n : ℕ) (t : TypeNo) (out : List ℕ) → lacking_in (spell_reply w n t out) ≡ 0
unfolding spell_reply in_order
lacks-none w n t out = go (soundb w n) (ltb t.0 n) (leb (length (spelling_at w t)) (length out))
  where
    go : (a b c : Bool)
        → lacking_in (cond a (cond b (cond c (Ok (length (spelling_at w t))) (refuse_spelling TooLong n)) (refuse_spelling NoSuchType n)) (refuse_spelling Unsound n)) ≡ 0
    go true true true = refl
    go true true false = refl
    go true false c = refl
    go false b c = refl

-- replies of the same numbers, in which as many entries lack, are the same
pub numbers-injective : (a b : Spelled) → lacking_in a ≡ lacking_in b → spelled_numbers a ≡ spelled_numbers b → a ≡ b
numbers-injective (Ok k) (Ok m) l h = let z : k ∷ [] ≡ m ∷ [] = ap (λ (x : ReplyNumbers). x.values) h in cc
numbers-injective (Ok k) (Err r) l h = one-two k _ _ (ap (λ (x : ReplyNumbers). x.values) h)
numbers-injective (Err r) (Ok k) l h = one-two k _ _ (sym (ap (λ (x : ReplyNumbers). x.values) h))
numbers-injective (Err r) (Err s) l h =
    let v : r.place.0 ∷ r.used ∷ [] ≡ s.place.0 ∷ s.used ∷ [] = ap (λ (x : ReplyNumbers). x.values) h in
    let why : r.reason ≡ s.reason = reason-injective _ _ (ap (λ (x : ReplyNumbers). x.refusal) h) l in
    let place : r.place.0 ≡ s.place.0 = cc in
    let used : r.used ≡ s.used = cc in
    λ i. Err (record { reason = why i; place = record { 0 = place i }; used = used i })
