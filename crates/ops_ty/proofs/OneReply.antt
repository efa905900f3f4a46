-- No second answer, and no other words afterwards, meet the promise of a call of an operator: it names both. Assumes nothing.
use Prim.Native.Nat.{ℕ}
use mathlib.Core.Path.{◌≡◌}
use mathlib.Core.Bool.{Bool}
use mathlib.Core.List.{List}
use Rattle.conv.specs.Types.{Ty}
use Rattle.table.specs.Placing.{Gave, GaveMarked}
use Rattle.answer.specs.declared.Answer.{Answer}
use Rattle.answer.specs.declared.Typed.{Typed}
use Rattle.table.proofs.OneReply.{gave_one, gave-marked-one}
use Rattle.ops_ty.specs.Ops.{unary_outcome, binary_outcome, type_unary_op, type_binary_op, unary_runs, binary_runs}

module _ (w : List ℕ) (n op : ℕ) (r s : Typed) (v u : List ℕ) where
  pub unary-one : (a : ℕ) → GaveMarked (type_unary_op w n op a) (unary_runs a) r v → GaveMarked (type_unary_op w n op a) (unary_runs a) s u → (r ≡ s) × (v ≡ u)
  unary-one a = gave-marked-one (type_unary_op w n op a) (unary_runs a) r s v u

  pub binary-one : (a b : ℕ) → GaveMarked (type_binary_op w n op a b) (binary_runs a b) r v → GaveMarked (type_binary_op w n op a b) (binary_runs a b) s u → (r ≡ s) × (v ≡ u)
  binary-one a b = gave-marked-one (type_binary_op w n op a b) (binary_runs a b) r s v u

module _ (w : List ℕ) (n op : ℕ) (r s : Answer) (v u : List ℕ) where
  pub unary-at-one : (place : ℕ) (t : Ty) (m : Bool) → Gave (unary_outcome place w n op t m) r v → Gave (unary_outcome place w n op t m) s u → (r ≡ s) × (v ≡ u)
  unary-at-one place t m = gave_one (unary_outcome place w n op t m) r s v u

  pub binary-at-one : (place : ℕ) (t x : Ty) (m k : Bool) → Gave (binary_outcome place w n op t x m k) r v → Gave (binary_outcome place w n op t x m k) s u → (r ≡ s) × (v ≡ u)
  binary-at-one place t x m k = gave_one (binary_outcome place w n op t x m k) r s v u
