-- No second number meets the promise of a cast. Assumes nothing.
use Prim.Native.Nat.{ℕ}
use mathlib.Core.Path.{◌≡◌, sym, ◌∙◌}

pub cast-one : (x : ℕ) {a b : ℕ} → a ≡ x → b ≡ x → a ≡ b
cast-one x p q = p ∙ sym q
