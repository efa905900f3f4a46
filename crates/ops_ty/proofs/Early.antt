-- DOCUMENT 02, K3: "a candidate is dropped when some operand has an abstract type after conversion and another operand is not a const-expression", and "a result is const when
-- all operands are"; so of the operators, "single calls on const operands reply as before but for the mark". One record, `ConstOps`, says it; what they replied before there were
-- marks stands here as definitions of its own. Assumes nothing.
use Prim.Native.Nat.{ℕ}
use mathlib.Core.Path.{◌≡◌, refl, ap}
use mathlib.Core.Bool.{false, cond}
use mathlib.Core.List.{List, [], ◌∷◌}
use lib.Dec.{ltb}
use Rattle.held.specs.Held.{mark_of}
use Rattle.conv.specs.Types.{Ty}
use Rattle.overload.specs.Overload.{or}
use Rattle.overload.specs.Marks.{any_running}
use Rattle.overload.specs.Rows.Ruling.{by_row}
use Rattle.table.specs.Table.{soundb}
use Rattle.table.specs.Denote.{type_at}
use Rattle.table.specs.Placing.{Outcome, turned_down}
use Rattle.answer.specs.declared.Reason.TheVariants.{Unsound, NoSuchType, Unknown}
use Rattle.ruled.proofs.Early.{base_ruled, const-number, const-ruled}
use Rattle.ops_ty.specs.Ops.{unary_ops, unary_ruling, binary_ops, binary_row, unary_outcome, binary_outcome, type_unary_op, type_binary_op, unary_runs, binary_runs}

-- THE BASE. On loaded operands, by their types, at a place: 4, 3, 8, 9

unfoldable pub base_unary : ℕ → List ℕ → ℕ → ℕ → Ty → Outcome
base_unary place w n op t = cond (ltb op unary_ops) (base_ruled place w n (unary_ruling op) (t ∷ [])) (turned_down Unknown place w n)

unfoldable pub base_binary : ℕ → List ℕ → ℕ → ℕ → Ty → Ty → Outcome
base_binary place w n op t u = cond (ltb op binary_ops) (base_ruled place w n (by_row (binary_row op)) (t ∷ u ∷ [])) (turned_down Unknown place w n)

-- a single call, at place 0: 1, then 2 from left to right, before these; a and b are types' numbers

unfoldable pub base_unary_op : List ℕ → ℕ → ℕ → ℕ → Outcome
base_unary_op w n op a =
    cond (soundb w n) (cond (ltb a n) (base_unary 0 w n op (type_at w a)) (turned_down NoSuchType 0 w n)) (turned_down Unsound 0 w n)

unfoldable pub base_binary_op : List ℕ → ℕ → ℕ → ℕ → ℕ → Outcome
base_binary_op w n op a b =
    cond (soundb w n)
    (cond (ltb a n) (cond (ltb b n) (base_binary 0 w n op (type_at w a) (type_at w b)) (turned_down NoSuchType 0 w n)) (turned_down NoSuchType 0 w n))
    (turned_down Unsound 0 w n)

-- THE THEOREM
pub record ConstOps : Type 0 where
  -- on loaded operands, at any place
  pub unary_at : (place : ℕ) (w : List ℕ) (n op : ℕ) (t : Ty) → unary_outcome place w n op t false ≡ base_unary place w n op t
  pub binary_at : (place : ℕ) (w : List ℕ) (n op : ℕ) (t u : Ty) → binary_outcome place w n op t u false false ≡ base_binary place w n op t u
  -- a single call, refused or not
  pub unary : (w : List ℕ) (n op a : ℕ) → mark_of a ≡ false → type_unary_op w n op a ≡ base_unary_op w n op a
  pub binary : (w : List ℕ) (n op a b : ℕ) → mark_of a ≡ false → mark_of b ≡ false → type_binary_op w n op a b ≡ base_binary_op w n op a b
  -- the mark of its result
  pub unary_mark : (a : ℕ) → mark_of a ≡ false → unary_runs a ≡ false
  pub binary_mark : (a b : ℕ) → mark_of a ≡ false → mark_of b ≡ false → binary_runs a b ≡ false

-- ON LOADED OPERANDS

module _ (place : ℕ) (w : List ℕ) (n op : ℕ) where
  unary-at : (t : Ty) → unary_outcome place w n op t false ≡ base_unary place w n op t
  unfolding unary_outcome base_unary any_running or
  unary-at t = ap (λ (o : Outcome). cond (ltb op unary_ops) o (turned_down Unknown place w n)) (const-ruled place w n (unary_ruling op) (t ∷ []) (false ∷ []) refl)

  binary-at : (t u : Ty) → binary_outcome place w n op t u false false ≡ base_binary place w n op t u
  unfolding binary_outcome base_binary any_running or
  binary-at t u =
      ap (λ (o : Outcome). cond (ltb op binary_ops) o (turned_down Unknown place w n)) (const-ruled place w n (by_row (binary_row op)) (t ∷ u ∷ []) (false ∷ false ∷ []) refl)

-- A SINGLE CALL: a const operand is its number

module _ (w : List ℕ) (n op : ℕ) where
  unary-single : (a : ℕ) → mark_of a ≡ false → type_unary_op w n op a ≡ base_unary_op w n op a
  unfolding type_unary_op base_unary_op
  unary-single a e = rw (e, const-number a e, unary-at 0 w n op (type_at w a))

  binary-single : (a b : ℕ) → mark_of a ≡ false → mark_of b ≡ false → type_binary_op w n op a b ≡ base_binary_op w n op a b
  unfolding type_binary_op base_binary_op
  binary-single a b e f = rw (e, f, const-number a e, const-number b f, binary-at 0 w n op (type_at w a) (type_at w b))

-- THE MARK

unary-mark : (a : ℕ) → mark_of a ≡ false → unary_runs a ≡ false
unfolding any_running or
unary-mark a e = rw e

binary-mark : (a b : ℕ) → mark_of a ≡ false → mark_of b ≡ false → binary_runs a b ≡ false
unfolding any_running or
binary-mark a b e f = rw (e, f)

-- THE THEOREM HOLDS
pub const-ops : ConstOps
const-ops = record { unary_at = unary-at; binary_at = binary-at; unary = unary-single; binary = binary-single; unary_mark = unary-mark; binary_mark = binary-mark }
