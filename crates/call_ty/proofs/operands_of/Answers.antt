-- `call_ty::operands_of` meets its contract. Assumes nothing.
use mathlib.Core.Logic.{⊎_elim}
use mathlib.Core.Path.{◌≡◌, sym, ◌∙◌, ap}
use Prim.Native.Nat.{ℕ}
use Rattle.overload.specs.Rows.{row_at, operand_count}
use Rattle.names.specs.inner.Table.{meant}
use Rattle.names.specs.declared.Rule.TheVariants as code
use Rattle.call_ty.specs.Calls.{operands_by, operands_of}
use Rattle.call_ty.proofs.operands_of.Goals as goal

by : (r s : code.the_data) → r ≡ s → operands_of (meant s) ≡ operands_of (meant r)
by r s e = sym (ap (λ (x : code.the_data). operands_of (meant x)) e)

pub returns-in-Row : goal.returns-in-Row
unfolding operands_of operands_by meant
returns-in-Row c = c.operand_count.ensures ∙ ap (λ (k : ℕ). operand_count (row_at k)) c.wide.ensures ∙ by _ _ c.in-Row.is

pub returns-in-Barrier : goal.returns-in-Barrier
unfolding operands_of meant
returns-in-Barrier c = by _ _ c.in-Barrier.is

pub returns-in-Bitcast : goal.returns-in-Bitcast
unfolding operands_of operands_by meant
returns-in-Bitcast c = ⊎_elim (λ e. by _ _ e) (λ f. ⊎_elim (λ e. by _ _ e) (λ g. ⊎_elim (λ e. by _ _ e) (λ e. by _ _ e) g) f) c.in-Bitcast.is

pub returns-in-AtomicUpdate : goal.returns-in-AtomicUpdate
unfolding operands_of operands_by meant
returns-in-AtomicUpdate c = ⊎_elim (λ e. by _ _ e) (λ e. by _ _ e) c.in-AtomicUpdate.is

pub returns-in-AtomicCompare : goal.returns-in-AtomicCompare
unfolding operands_of operands_by meant
returns-in-AtomicCompare c = by _ _ c.in-AtomicCompare.is
