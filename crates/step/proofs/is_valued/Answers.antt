-- `step::is_valued` meets its contract: case by case. Assumes nothing.
use Prim.Native.Nat.{ℕ}
use mathlib.Core.Path.{◌≡◌, refl}
use mathlib.Core.Bool.{false}
use lib.Dec.{eqb}
use Rattle.answer.specs.Answer.{reason_no}
use Rattle.answer.specs.declared.Reason.{Reason}
use Rattle.answer.specs.declared.Reason.TheVariants.{Unsound, NoSuchType, Reference, Unknown, Template, Count, Operands, NoOverload, NoRoom, Framing, Stack, TooLong, RunningAbstract}
use Rattle.step.specs.Effect.{is_valued}
use Rattle.step.proofs.is_valued.Goals as goal

pub returns-in-Value : goal.returns-in-Value
unfolding is_valued
returns-in-Value c = rw c.in-Value.is refl

pub returns-in-NoValue : goal.returns-in-NoValue
unfolding is_valued
returns-in-NoValue c = rw c.in-NoValue.is refl

pub returns-in-NoRoom : goal.returns-in-NoRoom
unfolding is_valued
returns-in-NoRoom c = rw (c.in-Refused.is, c.in-NoRoom.is) refl

-- no other reason has the number of that for want of room
unroomed : (r : Reason) → ((k : ℕ) → r ≡ NoRoom k → ⊥) → false ≡ eqb (reason_no r) 9
unroomed Unsound h = refl
unroomed NoSuchType h = refl
unroomed Reference h = refl
unroomed Unknown h = refl
unroomed Template h = refl
unroomed Count h = refl
unroomed Operands h = refl
unroomed NoOverload h = refl
unroomed (NoRoom k) h = absurd (h k refl)
unroomed Framing h = refl
unroomed Stack h = refl
unroomed TooLong h = refl
unroomed RunningAbstract h = refl

pub returns-in_default : goal.returns-in_default
unfolding is_valued
returns-in_default c = rw c.in-Refused.is (unroomed c.in-Refused.r.reason c.in_default.not-NoRoom)
