-- No second reply meets the promises of `value`, `number` and `running`; and a type's number and a mark are read back from their value. Assumes nothing.
use Prim.Native.Nat.{ℕ, ◌+◌, ◌<◌}
use native.Mathlib.Omega.{arith}
use mathlib.Core.Path.{◌≡◌, sym, ◌∙◌, ap}
use mathlib.Core.Bool.{Bool, true, false}
use borrow.Author.Tests.{le-leb, lt-leb}
use Rattle.answer.specs.declared.TypeNo.{TypeNo}
use Rattle.held.specs.Held.{running_bit, value_of, number_of, mark_of}

pub value-one : (t : ℕ) (m : Bool) {a b : ℕ} → a ≡ value_of t m → b ≡ value_of t m → a ≡ b
value-one t m p q = p ∙ sym q

pub number-one : (v : ℕ) {a b : TypeNo} → a.0 ≡ number_of v → b.0 ≡ number_of v → a ≡ b
number-one v p q = ap (λ (n : ℕ). record { 0 = n }) (p ∙ sym q)

pub running-one : (v : ℕ) {a b : Bool} → a ≡ mark_of v → b ≡ mark_of v → a ≡ b
running-one v p q = p ∙ sym q

-- READ BACK

pub held : (t : ℕ) (m : Bool) → t < running_bit → number_of (value_of t m) ≡ t
held t true h = omega arith
held t false h = omega arith

pub held-mark : (t : ℕ) (m : Bool) → t < running_bit → mark_of (value_of t m) ≡ m
held-mark t true h = le-leb running_bit (t + running_bit) (omega arith)
held-mark t false h = lt-leb running_bit (t + 0) (omega arith)
