-- DEMAND 1 for operators: "A refused call changes no lent byte or word." "An accepted call leaves every earlier entry at its number and adds
-- only the missing entries its result needs." Of any table, count, operator and operands. Assumes nothing.
use Prim.Native.Nat.{ℕ, ◌<◌}
use mathlib.Core.Bool.{Bool}
use mathlib.Core.List.{List, [], ◌∷◌}
use lib.Dec.{ltb}
use borrow.Author.Tests.{ltb-true}
use Rattle.held.specs.Held.{number_of, mark_of}
use Rattle.conv.specs.Types.{Ty}
use Rattle.overload.specs.Rows.Ruling.{by_row}
use Rattle.overload.proofs.Rulings.{row-formed, ruling-formed}
use Rattle.table.specs.Table.{soundb, Sound}
use Rattle.table.specs.Denote.{type_at}
use Rattle.table.specs.Kept.{Kept}
use Rattle.table.proofs.SoundLaws.{sound-of}
use Rattle.table.proofs.Keeping.{kept-refused, kept_by}
use Rattle.ruled.specs.Call.{operand_ty}
use Rattle.ruled.proofs.Demands.{kept-ruled}
use Rattle.ops_ty.specs.Ops.{unary_ops, unary_ruling, binary_ops, binary_row, unary_outcome, binary_outcome, type_unary_op, type_binary_op}
use Rattle.ops_ty.proofs.Ways.{unary-known, binary-known, one-formed}

-- on loaded operands, at any place
module _ (place : ℕ) (w : List ℕ) (n : ℕ) (s : Sound w n) (op : ℕ) where
  pub unary-at-kept : (a : ℕ) → a < n → (m : Bool) → Kept w n (unary_outcome place w n op (type_at w a) m)
  unfolding unary_outcome
  unary-at-kept a u m =
      kept_by w n (ltb op unary_ops) _ _ (λ k. kept-ruled w n s place (unary_ruling op) (type_at w a ∷ []) (m ∷ []) (ruling-formed (type_at w a ∷ []) (one-formed w n s a u) (m ∷ []) (unary_ruling op) (unary-known op))) (λ k. kept-refused w n _ place)

  pub binary-at-kept : (t u : Ty) (m k : Bool) → Kept w n (binary_outcome place w n op t u m k)
  unfolding binary_outcome
  binary-at-kept t u m k =
      kept_by w n (ltb op binary_ops) _ _ (λ h. kept-ruled w n s place (by_row (binary_row op)) (t ∷ u ∷ []) (m ∷ k ∷ []) (row-formed (binary_row op) (binary-known op) (t ∷ u ∷ []) (m ∷ k ∷ []))) (λ h. kept-refused w n _ place)

-- of any table and any numbers, at place 0
pub unary_kept : (w : List ℕ) (n op a : ℕ) → Kept w n (type_unary_op w n op a)
unfolding type_unary_op
unary_kept w n op a =
    kept_by w n (soundb w n) _ _
    (λ e. kept_by w n (ltb (number_of a) n) _ _ (λ l. unary-at-kept 0 w n (sound-of w n e) op (number_of a) (ltb-true (number_of a) n l) (mark_of a)) (λ l. kept-refused w n _ 0))
    (λ e. kept-refused w n _ 0)

pub binary-kept : (w : List ℕ) (n op a b : ℕ) → Kept w n (type_binary_op w n op a b)
unfolding type_binary_op
binary-kept w n op a b =
    kept_by w n (soundb w n) _ _
    (λ e.
    kept_by w n (ltb (number_of a) n) _ _
    (λ l. kept_by w n (ltb (number_of b) n) _ _ (λ k. binary-at-kept 0 w n (sound-of w n e) op (operand_ty w a) (operand_ty w b) (mark_of a) (mark_of b)) (λ k. kept-refused w n _ 0))
    (λ l. kept-refused w n _ 0))
    (λ e. kept-refused w n _ 0)
