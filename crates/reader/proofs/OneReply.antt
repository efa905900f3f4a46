-- For each public function: no second reply meets its promise. Of a part that is handed on, what can be seen is where it begins and its bytes.
-- Assumes nothing.
use Prim.Native.Nat.{ℕ}
use mathlib.Core.Path.{◌≡◌, sym, ◌∙◌}
use mathlib.Core.List.{List}
use denote.Ref.{Bor}
use Rattle.answer.specs.declared.Place.{Place}
use Rattle.frame.specs.declared.Placed.{Placed}
use Rattle.frame.specs.Frame.{item_at, name_part, IsPart}
use Rattle.frame.proofs.OneReply.{call-name-one as frame-name-one}
use Rattle.reader.specs.declared.Reader.{Reader}
use Rattle.reader.specs.declared.Step.{Step}
use Rattle.reader.specs.Read.{start_of, step_of}

-- what equals one thing is one thing
one : {A : Type 0} {x a b : A} → a ≡ x → b ≡ x → a ≡ b
one p q = p ∙ sym q

pub start-one : (s : Bor (List ℕ)) {a b : Reader} → a ≡ start_of s → b ≡ start_of s → a ≡ b
start-one s p q = one p q

pub at_one : (r : Reader) {a b : Place} → a ≡ r.at → b ≡ r.at → a ≡ b
at_one r p q = one p q

pub next_one : (r : Reader) {a b : Step} → a ≡ step_of r → b ≡ step_of r → a ≡ b
next_one r p q = one p q

pub call-name-one : (r : Reader) {a b : Bor (List ℕ)} → IsPart r.sheet (name_part r.sheet.now r.at.0) a → IsPart r.sheet (name_part r.sheet.now r.at.0) b → (a.ref_ptr ≡ b.ref_ptr) × (a.now ≡ b.now)
call-name-one r x y = frame-name-one r.sheet r.at.0 x y

pub read_one : (s : List ℕ) (at : ℕ) {a b : Placed} → a ≡ item_at s at → b ≡ item_at s at → a ≡ b
read_one s at p q = one p q
