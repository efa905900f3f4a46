-- How much room is missing (document 02, K2), of operators, on loaded operands and as single calls. Assumes nothing.
use Prim.Native.Nat.{ℕ}
use mathlib.Core.Path.{refl, ap}
use mathlib.Core.Bool.{Bool}
use mathlib.Core.List.{List, [], ◌∷◌}
use lib.Dec.{ltb}
use borrow.Author.Tests.{ltb-true}
use Rattle.held.specs.Held.{number_of, mark_of}
use Rattle.conv.specs.Types.{Ty}
use Rattle.overload.specs.Rows.Ruling.{by_row}
use Rattle.table.specs.Table.{Sound}
use Rattle.table.specs.Lacking.{Longer, Grown}
use Rattle.answer.specs.declared.Reason.TheVariants.{NoSuchType, Unknown}
use Rattle.table.proofs.Growing.{grown-passed, grown-as, grown-sound, type-longer}
use Rattle.ruled.specs.Call.{operand_ty}
use Rattle.ruled.proofs.Growing.{grown-ruled}
use Rattle.ops_ty.specs.Ops.{unary_ops, unary_ruling, binary_ops, binary_row, unary_outcome, binary_outcome, type_unary_op, type_binary_op}

module _ (w v : List ℕ) (n k : ℕ) (l : Longer w v n k) where
  module _ (s : Sound w n) (place op : ℕ) where
    pub unary-at-grown : (t : Ty) (m : Bool) → Grown w n k (unary_outcome place w n op t m) (unary_outcome place v n op t m)
    unfolding unary_outcome
    unary-at-grown t m = grown-passed w n k (ltb op unary_ops) Unknown refl place _ _ _ (λ _. grown-ruled w v n k l s place (unary_ruling op) (t ∷ []) (m ∷ []))

    pub binary-at-grown : (t u : Ty) (m j : Bool) → Grown w n k (binary_outcome place w n op t u m j) (binary_outcome place v n op t u m j)
    unfolding binary_outcome
    binary-at-grown t u m j = grown-passed w n k (ltb op binary_ops) Unknown refl place _ _ _ (λ _. grown-ruled w v n k l s place (by_row (binary_row op)) (t ∷ u ∷ []) (m ∷ j ∷ []))

  pub unary-grown : (op a : ℕ) → Grown w n k (type_unary_op w n op a) (type_unary_op v n op a)
  unfolding type_unary_op
  unary-grown op a =
      grown-sound w v n k l _ _ _
      (λ s. grown-passed w n k (ltb (number_of a) n) NoSuchType refl 0 _ _ _
      (λ b.
      grown-as w n k refl (ap (λ (t : Ty). unary_outcome 0 v n op t (mark_of a)) (type-longer w v n k l (number_of a) (ltb-true (number_of a) n b)))
      (unary-at-grown s 0 op (operand_ty w a) (mark_of a))))

  pub binary-grown : (op a b : ℕ) → Grown w n k (type_binary_op w n op a b) (type_binary_op v n op a b)
  unfolding type_binary_op
  binary-grown op a b =
      grown-sound w v n k l _ _ _
      (λ s. grown-passed w n k (ltb (number_of a) n) NoSuchType refl 0 _ _ _
      (λ p. grown-passed w n k (ltb (number_of b) n) NoSuchType refl 0 _ _ _
      (λ q.
      grown-as w n k refl
      (λ i. binary_outcome 0 v n op (type-longer w v n k l (number_of a) (ltb-true (number_of a) n p) i) (type-longer w v n k l (number_of b) (ltb-true (number_of b) n q) i) (mark_of a) (mark_of b))
      (binary-at-grown s 0 op (operand_ty w a) (operand_ty w b) (mark_of a) (mark_of b)))))
