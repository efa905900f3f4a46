-- "L = 0: 11 at 3". Assumes nothing.
use Prim.Native.Nat.{ℕ, ◌<◌}
use mathlib.Core.Path.{◌≡◌, sym, ◌∙◌, ap}
use mathlib.Core.Bool.{true}
use mathlib.Core.List.{List}
use native.Mathlib.Omega.{arith}
use lib.ListN.{length}
use borrow.Author.Tests.{le-leb}
use Rattle.table.specs.Table.{soundb}
use Rattle.table.specs.Placing.{turned_down}
use Rattle.answer.specs.declared.Reason.TheVariants.{Stack}
use Rattle.frame.specs.declared.Item.TheVariants.{End}
use Rattle.frame.specs.declared.Placed.{Placed}
use Rattle.frame.specs.Frame.{item_at, still, header_size, header_ok}
use Rattle.names.specs.Names.{profiles}
use Rattle.step.specs.Effect.{effect_of}
use Rattle.sheet.specs.Machine.{after, done, turn_of, begun, type_sheet}
use Rattle.sheet.proofs.Running.{run-done, sheet-runs}

module _ (profile : ℕ) (w : List ℕ) (n : ℕ) (s : List ℕ) (e : length s ≡ header_size) where
  no_item : item_at s header_size ≡ still End header_size
  unfolding item_at
  no_item = rw (le-leb (length s) header_size (omega (arith, e)))

  at_once : turn_of profile s (still End header_size) (begun w n) ≡ done (turned_down Stack header_size w n)
  unfolding turn_of after effect_of
  at_once = ap (λ (k : ℕ). done (turned_down Stack k w n)) e

  pub sheet-empty : soundb w n ≡ true → header_ok s ≡ true → profile < profiles → type_sheet profile w n s ≡ turned_down Stack header_size w n
  sheet-empty h k p =
      sym (sheet-runs profile w n s h k p)
      ∙ run-done profile s header_size (begun w n) (turned_down Stack header_size w n) (ap (λ (x : Placed). turn_of profile s x (begun w n)) no_item ∙ at_once)
