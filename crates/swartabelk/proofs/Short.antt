-- The reply of a spelling fits into 32 bits: no spelling is longer than 80 bytes for each entry. Assumes nothing.
use Prim.Native.Nat.{ℕ, ◌<◌, ◌^◌}
use mathlib.Core.Path.{◌≡◌, refl}
use mathlib.Core.Bool.{Bool, true, false, cond}
use mathlib.Core.List.{List}
use native.Mathlib.Omega.{arith}
use lib.ListN.{length, get_or}
use lib.Dec.{leb, ltb}
use borrow.Author.Tests.{ltb-true}
use Rattle.table.specs.Table.{soundb}
use Rattle.answer.specs.declared.TypeNo.{TypeNo}
use Rattle.table.proofs.SoundLaws.{sound-of}
use Rattle.spell.specs.Reply.{spelling_at, in_order, spell_reply}
use Rattle.spell.specs.Reply.{Spelled}
use Rattle.spell.proofs.Short.{type-slim}
use Rattle.swartabelk.specs.inner.Code.{SpelledFits}

by-test : (b : Bool) (x y : Spelled) → (b ≡ true → SpelledFits x) → (b ≡ false → SpelledFits y) → SpelledFits (cond b x y)
by-test true x y f g = f refl
by-test false x y f g = g refl

module _ (w : List ℕ) (words : (i : ℕ) → get_or w i 0 < 2 ^ 32) where
  spelling-fits : (n : ℕ) (t : TypeNo) → soundb w n ≡ true → ltb t.0 n ≡ true → length (spelling_at w t) < 2 ^ 32
  spelling-fits n t s h = omega (arith, type-slim w words t.0, (sound-of w n s).high, ltb-true t.0 n h)

  -- the reply of a spelling fits
  pub spelled-fits : (n : ℕ) (t : TypeNo) (out : List ℕ) (r : Spelled) → n < 2 ^ 32 → r ≡ spell_reply w n t out → SpelledFits r
  unfolding spell_reply in_order SpelledFits
  spelled-fits n t out r l e =
      rw e
      (by-test (soundb w n) _ _
      (λ s.
      by-test (ltb t.0 n) _ _
      (λ h. by-test (leb (length (spelling_at w t)) (length out)) _ _ (λ k. spelling-fits n t s h) (λ k. (omega arith, l)))
      (λ h. (omega arith, l)))
      (λ s. (omega arith, l)))
