-- `desk::is_told` meets its contract: a case for each answer. Assumes nothing.
use Prim.Native.Nat.{ℕ}
use mathlib.Core.Bool.{◌&&◌}
use mathlib.Core.Path.{◌≡◌}
use mathlib.Core.Logic.{◌⊎◌, ⊎_elim}
use lib.Dec.{eqb}
use Rattle.answer.specs.declared.TypeNo.{TypeNo}
use Rattle.answer.specs.declared.Answer.{Answer}
use Rattle.answer.specs.declared.Answer.TheVariants.{Value, NoValue}
use Rattle.frame.specs.Frame.{is_item}
use Rattle.frame.specs.declared.Placed.{Placed}
use Rattle.desk.specs.Told.{is_told}
use Rattle.desk.proofs.is_told.Goals as goal

accepted : (a : Answer) (size : ℕ) (x : Placed) → ((t : TypeNo) × (m : ℕ) × (a ≡ Value t m)) ⊎ ((m : ℕ) × (a ≡ NoValue m)) → (is_item x.item && eqb x.next.0 size) ≡ is_told a size x
unfolding is_told
accepted a size x h = ⊎_elim (λ (v : (t : TypeNo) × (m : ℕ) × (a ≡ Value t m)). rw v.2) (λ (v : (m : ℕ) × (a ≡ NoValue m)). rw v.1) h

pub returns-in-Value : goal.returns-in-Value
returns-in-Value c = let a = c.args in rw c.is_item.ensures (accepted a.a a.size a.x c.in-Value.is)

pub returns-in-Refused : goal.returns-in-Refused
unfolding is_told
returns-in-Refused c = rw (c.in-Refused.is, c.none_fits.ensures)
