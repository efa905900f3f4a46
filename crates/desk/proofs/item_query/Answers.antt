-- `desk::item_query` meets its contract: each item by the function of its kind. Assumes nothing.
use Prim.Native.Nat.{ℕ}
use mathlib.Core.Bool.{Bool}
use mathlib.Core.List.{List, []}
use mathlib.Core.Path.{◌≡◌}
use mathlib.Core.Logic.{◌⊎◌, ⊎_elim}
use Rattle.answer.specs.declared.TypeNo.{TypeNo}
use Rattle.frame.specs.declared.Item.{Item}
use Rattle.frame.specs.declared.Item.TheVariants.{Push, Take, End, Bad}
use Rattle.step.specs.Effect.{State}
use Rattle.desk.specs.inner.Code.{state_at}
use Rattle.desk.specs.Desk.{item_lines}
use Rattle.desk.proofs.Queried.{none}
use Rattle.desk.proofs.item_query.Goals as goal

-- a push and a take have no lines, nor has what is no item
silent : (profile : ℕ) (s : List ℕ) (st : State) (i : Item)
    → ((t : TypeNo) × (m : Bool) × (i ≡ Push t m)) ⊎ (((kind : ℕ) × (p : ℕ) × (q : ℕ) × (elem : ℕ) × (m : Bool) × (i ≡ Take kind p q elem m)) ⊎ ((i ≡ End) ⊎ (i ≡ Bad))) → item_lines profile s st i ≡ []
unfolding item_lines
silent profile s st i h =
    ⊎_elim (λ (x : (t : TypeNo) × (m : Bool) × (i ≡ Push t m)). rw x.2)
    (⊎_elim (λ (x : (kind : ℕ) × (p : ℕ) × (q : ℕ) × (elem : ℕ) × (m : Bool) × (i ≡ Take kind p q elem m)). rw x.5) (⊎_elim (λ (e : i ≡ End). rw e) (λ (e : i ≡ Bad). rw e))) h

pub part_of-bytes-requires : goal.part_of-bytes-requires
part_of-bytes-requires c = rw c.in-Call.is at c.requires

pub part_of-bytes-requires-in-CallTemplate : goal.part_of-bytes-requires-in-CallTemplate
part_of-bytes-requires-in-CallTemplate c = rw c.in-CallTemplate.is at c.requires

pub returns-in-Unary : goal.returns-in-Unary
unfolding item_lines
returns-in-Unary c = rw c.in-Unary.is c.unary_query.ensures

pub returns-in-Binary : goal.returns-in-Binary
unfolding item_lines
returns-in-Binary c = rw c.in-Binary.is c.binary_query.ensures

pub returns-in-Call : goal.returns-in-Call
unfolding item_lines
returns-in-Call c = rw c.in-Call.is (rw c.part_of-bytes.ensures.bytes at c.call_query.ensures)

pub returns-in-CallTemplate : goal.returns-in-CallTemplate
unfolding item_lines
returns-in-CallTemplate c = rw c.in-CallTemplate.is (rw c.part_of-bytes-in-CallTemplate.ensures.bytes at c.template_query.ensures)

pub returns-in-Push : goal.returns-in-Push
returns-in-Push c = let a = c.args in let b = a.before in rw (silent a.profile a.sheet.now (state_at b) a.item c.in-Push.is) (none b.count b.stack.now b.used b.words.now b.ready)
