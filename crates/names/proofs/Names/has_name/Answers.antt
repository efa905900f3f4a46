-- `names::Names::has_name` meets its contract: a name that is longer than a line, or ends with a blank, stands in no row. Assumes nothing.
use mathlib.Core.Path.{◌≡◌, sym, ◌∙◌, ap}
use mathlib.Core.Bool.{false}
use mathlib.Core.List.{List}
use native.Mathlib.Omega.{arith}
use Prim.Native.Nat.{ℕ, ◌≤◌, ◌<◌}
use lib.ListN.{length}
use Rattle.std.proofs.Common.{is_eq}
use Rattle.std.specs.declared.cmp.Ordering.{Ordering}
use Rattle.std.specs.declared.cmp.Ordering.TheVariants.{Less, Equal, Greater}
use Rattle.names.specs.Names.{name_at, count}
use Rattle.names.specs.inner.Table.{name_width, ends_blank, Ordered, has_name}
use Rattle.names.proofs.Letters.{counted}
use Rattle.names.proofs.Found.{too_long, blank-end, past-last, has-not, has-by}
use Rattle.names.proofs.Names.has_name.Goals.{then-row-ge-COUNT-via-then-row-ge-COUNT, then-row-ge-COUNT-via-else-row-ge-COUNT+then-name-gt-NAME_WIDTH, then-row-ge-COUNT-via-else-row-ge-COUNT+else-name-gt-NAME_WIDTH+then-ends_blank}
use Rattle.names.proofs.Names.has_name.Goals as goal

pub returns-then-row-ge-COUNT : goal.returns-then-row-ge-COUNT
returns-then-row-ge-COUNT c = let a = c.args in
    elim c.then-row-ge-COUNT.branch [
      | then-row-ge-COUNT-via-then-row-ge-COUNT w ↦ sym (past-last a.row a.name.now (omega (arith, counted, w.if-row-ge-COUNT.true)))
      | then-row-ge-COUNT-via-else-row-ge-COUNT+then-name-gt-NAME_WIDTH w ↦
          let l : a.row < count = omega (arith, counted, w.if-row-ge-COUNT.false) in
          sym (has-not a.row a.name.now l (too_long a.name.now w.if-name-gt-NAME_WIDTH.true a.row l))
      | then-row-ge-COUNT-via-else-row-ge-COUNT+else-name-gt-NAME_WIDTH+then-ends_blank w ↦
          let l : a.row < count = omega (arith, counted, w.if-row-ge-COUNT.false) in
          sym (has-not a.row a.name.now l (blank-end a.name.now (sym w.ends_blank.ensures ∙ w.if-ends_blank.true) a.row l))
    ]

pub compared-requires : goal.compared-requires
compared-requires c = (omega (arith, counted, c.if-row-ge-COUNT.false), c.if-name-gt-NAME_WIDTH.false)

-- what a line says of a name by how it stands to it
module _ (row : ℕ) (l : row < count) (name : List ℕ) (w : length name ≤ name_width) (b : ends_blank name ≡ false) (r : Ordering) (o : Ordered r (name_at row) name) where
  says : (s : Ordering) → r ≡ s → is_eq s ≡ has_name row name
  says s e = ap is_eq (sym e) ∙ has-by row name l w b r o

pub returns-in-Less : goal.returns-in-Less
returns-in-Less c = let a = c.args in
    says a.row (omega (arith, counted, c.if-row-ge-COUNT.false)) a.name.now c.if-name-gt-NAME_WIDTH.false (sym c.ends_blank.ensures ∙ c.if-ends_blank.false) _ c.compared.ensures Less c.in-Less.is

pub returns-in-Equal : goal.returns-in-Equal
returns-in-Equal c = let a = c.args in
    says a.row (omega (arith, counted, c.if-row-ge-COUNT.false)) a.name.now c.if-name-gt-NAME_WIDTH.false (sym c.ends_blank.ensures ∙ c.if-ends_blank.false) _ c.compared.ensures Equal c.in-Equal.is

pub returns-in-Greater : goal.returns-in-Greater
returns-in-Greater c = let a = c.args in
    says a.row (omega (arith, counted, c.if-row-ge-COUNT.false)) a.name.now c.if-name-gt-NAME_WIDTH.false (sym c.ends_blank.ensures ∙ c.if-ends_blank.false) _ c.compared.ensures Greater c.in-Greater.is
