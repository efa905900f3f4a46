-- `frame::call_part` meets its contract: the item is the one of the definition, and shows what its case says. Assumes nothing.
use Prim.Native.Nat.{ℕ}
use mathlib.Core.Path.{◌≡◌, refl}
use mathlib.Core.Logic.{◌⊎◌, inl, inr}
use Rattle.answer.specs.declared.TypeNo.{TypeNo}
use Rattle.frame.specs.Frame.{part, name_part, name_of}
use Rattle.frame.specs.declared.Part.{Part}
use Rattle.frame.specs.declared.Item.{Item}
use Rattle.frame.specs.declared.Item.TheVariants.{Push, Unary, Binary, Call, CallTemplate, Take, End, Bad}
use Rattle.frame.proofs.call_part.Goals as goal

-- what is neither of the two calls shows no name
nameless : (i : Item) → ((count : ℕ) (name : Part) → i ≡ Call count name → ⊥) → ((t : TypeNo) (count : ℕ) (name : Part) → i ≡ CallTemplate t count name → ⊥) → part 0 0 ≡ name_of i
nameless (Push t r) f g = refl
nameless (Unary o) f g = refl
nameless (Binary o) f g = refl
nameless (Call count name) f g = absurd (f count name refl)
nameless (CallTemplate t count name) f g = absurd (g t count name refl)
nameless (Take kind p q elem r) f g = refl
nameless End f g = refl
nameless Bad f g = refl

-- and a call its own
shown : (i : Item) (n : Part) → ((count : ℕ) × (i ≡ Call count n)) ⊎ ((t : TypeNo) × (count : ℕ) × (i ≡ CallTemplate t count n)) → n ≡ name_of i
shown i n (inl e) = rw e.1 refl
shown i n (inr e) = rw e.2 refl

pub returns-in-Call : goal.returns-in-Call
unfolding name_part
returns-in-Call c = rw (← c.item_at.ensures) (shown c.item_at.result.item c.in-Call.name c.in-Call.is)

pub returns-in-Call-2 : goal.returns-in-Call-2
unfolding name_part
returns-in-Call-2 c = rw (← c.item_at.ensures) (shown c.item_at.result.item c.in-Call.name c.in-Call.is)

pub returns-in_default : goal.returns-in_default
unfolding name_part
returns-in_default c = rw (← c.item_at.ensures) (nameless c.item_at.result.item c.in_default.not-Call c.in_default.not-CallTemplate)
