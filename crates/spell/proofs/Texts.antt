-- How long the texts are. Assumes nothing.
use Prim.Native.Nat.{ℕ, zero, suc, ◌≤◌, ◌<◌}
use Prim.Native.String.{String}
use mathlib.Core.Path.{◌≡◌, refl, ap}
use mathlib.Core.Bool.{Bool, true, false, ◌&&◌}
use mathlib.Core.List.{List, [], ◌∷◌}
use native.Mathlib.Nat.{le_of_suc-le-suc, not-suc-le-zero}
use native.Mathlib.Omega.{arith}
use lib.ListN.{length, get_or, get_or-eq_default}
use lib.Dec.{leb, ltb}
use borrow.Author.Tests.{ltb-true, ltb-false, leb-true}
use Rattle.text.specs.Text.{ascii}
use Rattle.spell.specs.Spell.{named}
use Rattle.spell.specs.inner.Parts.{texts, text_of}
use Rattle.table.proofs.SoundLaws.{and_left, and_right}

-- past the texts there is none
pub text-none : (k : ℕ) → 27 ≤ k → text_of k ≡ []
unfolding text_of named ascii
text-none k h = ap ascii (get_or-eq_default texts "" h)

-- each text has at most 32 bytes
every : List String → Bool
every [] = true
every (s ∷ names) = leb (length (ascii s)) 32 && every names

every-at : (names : List String) (k : ℕ) → every names ≡ true → k < length names → length (ascii (get_or names k "")) ≤ 32
unfolding every
every-at [] k t h = absurd (not-suc-le-zero h)
every-at (s ∷ names) zero t h = leb-true _ _ (and_left _ (every names) t)
every-at (s ∷ names) (suc k) t h = every-at names k (and_right (leb (length (ascii s)) 32) _ t) (le_of_suc-le-suc h)

texts-short : every texts ≡ true
unfolding every ascii
texts-short = refl

pub text-long : (k : ℕ) → length (text_of k) ≤ 32
unfolding text_of named
text-long k = go (ltb k 27) refl
  where
    go : (b : Bool) → ltb k 27 ≡ b → length (ascii (get_or texts k "")) ≤ 32
    go true e = every-at texts k texts-short (ltb-true _ _ e)
    go false e = omega (arith, ap length (text-none k (ltb-false k 27 e)))
