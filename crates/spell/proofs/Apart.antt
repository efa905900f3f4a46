-- Two numbers of a sound table never share a spelling. Assumes nothing.
use Prim.Native.Nat.{ℕ, ◌<◌}
use mathlib.Core.Path.{◌≡◌}
use mathlib.Core.List.{List}
use Rattle.table.specs.Table.{Sound}
use Rattle.table.specs.Denote.{type_at}
use Rattle.table.proofs.TypeLaws.{type-injective}
use Rattle.table.proofs.FormedLaws.{formed-at}
use Rattle.spell.specs.Spell.{spelling}
use Rattle.spell.proofs.Reading.{spelling-injective}

pub numbers_apart : (w : List ℕ) (n : ℕ) → Sound w n → (i j : ℕ) → i < n → j < n → spelling (type_at w i) ≡ spelling (type_at w j) → i ≡ j
numbers_apart w n s i j k l h = type-injective w n s i j k l (spelling-injective _ _ (formed-at w n s i k) (formed-at w n s j l) h)
