-- No second place, and no other bytes afterwards, meet the promise of `put_byte` and of `put_number`; no second number meets that of `number_in`. Assumes
-- nothing.
use Prim.Native.Nat.{ℕ}
use mathlib.Core.Path.{◌≡◌, sym, ◌∙◌}
use mathlib.Core.List.{List}
use Rattle.text.specs.Text.{number_in, Put}
use Rattle.std.specs.Prelude.{Option}

pub one-put : {d : List ℕ} {at : ℕ} {s : List ℕ} {r q : ℕ} {u v : List ℕ} → Put d at s r u → Put d at s q v → (r ≡ q) × (u ≡ v)
one-put a b = (a.place ∙ sym b.place, a.bytes ∙ sym b.bytes)

pub one_number : (s : List ℕ) {r q : Option ℕ} → r ≡ number_in s → q ≡ number_in s → r ≡ q
one_number s a b = a ∙ sym b
