-- What the code goes by: rulings by a number, and what is known of a call that is told about. Assumes nothing.
use Rattle.std.specs.Prelude.{ℕ, ◌≡◌, Bool, true, false, cond, List, eqb, ltb, length}
use Rattle.conv.specs.Types.{Ty}
use Rattle.overload.specs.Overload.Judged.{gives, none_fits}
use Rattle.overload.specs.Marks.{running_abstract}
use Rattle.overload.specs.Rows.{row_at, Ruling, judge_by}
use Rattle.overload.specs.Rows.Ruling.{by_row, address, indirection, on_atomic, comparing, uniform_load, array_length}
use Rattle.table.specs.Table.{Sound}
use Rattle.call_ty.specs.Calls.{operands_by, numbers, marks_of, types}
use Rattle.call_ty.specs.inner.Codes.{Under}

-- the rulings by the numbers that names give their rules; behind them those of unary `&` and `*`. atomicStore, 106, has that of the other calls on atomics with one value
unfoldable pub ruling_of : ℕ → Ruling
ruling_of k =
    cond (ltb k 100) (by_row (row_at k))
    (cond (eqb k 101) array_length
    (cond (eqb k 104) (on_atomic 0)
    (cond (eqb k 107) comparing
    (cond (eqb k 108) uniform_load
    (cond (eqb k 109) address
    (cond (eqb k 110) indirection (on_atomic 1)))))))

-- the types of operands
abbrev pub types_of : List ℕ → List ℕ → List Ty
types_of w args = types w (numbers args)

-- a call on loaded operands that passed every test but its rule, and was accepted by that, or not
pub record Told (w : List ℕ) (n rule : ℕ) (accepted : Bool) (args : List ℕ) : Type 0 where
  pub sound : Sound w n
  pub under : Under n (numbers args)
  pub count : length args ≡ operands_by (ruling_of rule)
  pub clash : running_abstract (types_of w args) (marks_of args) ≡ false
  pub gave : accepted ≡ true → (R : Ty) × (judge_by (ruling_of rule) (types_of w args) (marks_of args) ≡ gives R)
  pub none : accepted ≡ false → judge_by (ruling_of rule) (types_of w args) (marks_of args) ≡ none_fits

-- no piece of a text has more bytes
abbrev pub piece_room : ℕ
piece_room = 32768
