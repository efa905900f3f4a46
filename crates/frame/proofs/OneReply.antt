-- For each public function: no second reply meets its promise. Of a part that is handed on, what can be seen is where it begins and its bytes.
-- Assumes nothing.
use Prim.Native.Nat.{ℕ}
use mathlib.Core.Path.{◌≡◌, sym, ◌∙◌}
use mathlib.Core.List.{List}
use mathlib.Core.Bool.{Bool}
use Rattle.std.proofs.Common.{Option}
use denote.Ref.{Bor}
use Rattle.frame.specs.declared.Part.{Part}
use Rattle.frame.specs.declared.Placed.{Placed}
use Rattle.frame.specs.declared.Short.{Short}
use Rattle.frame.specs.Frame.{header_ok, item_at, name_part, IsPart}
use Rattle.frame.specs.inner.Items.{sheet_of, short_of, in_items}

-- what equals one thing is one thing
one : {A : Type 0} {x a b : A} → a ≡ x → b ≡ x → a ≡ b
one p q = p ∙ sym q

pub header-one : (s : List ℕ) {a b : Bool} → a ≡ header_ok s → b ≡ header_ok s → a ≡ b
header-one s p q = one p q

pub item-at-one : (s : List ℕ) (at : ℕ) {a b : Placed} → a ≡ item_at s at → b ≡ item_at s at → a ≡ b
item-at-one s at p q = one p q

pub item-in-one : (v : ℕ) (items : List ℕ) (at : ℕ) {a b : Placed} → a ≡ item_at (sheet_of v items) at → b ≡ item_at (sheet_of v items) at → a ≡ b
item-in-one v items at p q = one p q

pub short-in-one : (v : ℕ) (items : List ℕ) (at : ℕ) {a b : Option Short} → a ≡ short_of (item_at (sheet_of v items) at) → b ≡ short_of (item_at (sheet_of v items) at) → a ≡ b
short-in-one v items at p q = one p q

pub call-part-one : (s : List ℕ) (at : ℕ) {a b : Part} → a ≡ name_part s at → b ≡ name_part s at → a ≡ b
call-part-one s at p q = one p q

pub part-of-one : {s : Bor (List ℕ)} {p : Part} {a b : Bor (List ℕ)} → IsPart s p a → IsPart s p b → (a.ref_ptr ≡ b.ref_ptr) × (a.now ≡ b.now)
part-of-one x y = (one x.begins y.begins, one x.bytes y.bytes)

pub name-in-one : {items : Bor (List ℕ)} (p : Part) {a b : Bor (List ℕ)} → IsPart items (in_items p) a → IsPart items (in_items p) b → (a.ref_ptr ≡ b.ref_ptr) × (a.now ≡ b.now)
name-in-one p x y = part-of-one x y

pub call-name-one : (s : Bor (List ℕ)) (at : ℕ) {a b : Bor (List ℕ)} → IsPart s (name_part s.now at) a → IsPart s (name_part s.now at) b → (a.ref_ptr ≡ b.ref_ptr) × (a.now ≡ b.now)
call-name-one s at x y = part-of-one x y
