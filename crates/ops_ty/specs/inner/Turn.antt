-- What the code of the operators goes by. Unary `&` and `*` turn a type of one kind into that of the other: a reference into the pointer, a pointer into the reference. Assumes nothing.
use Rattle.std.specs.Prelude.{ℕ, ◌≡◌, ◌⊎◌, Bool, ◌&&◌, not, cond, eqb}
use Rattle.conv.specs.Types.{Ty}
use Rattle.overload.specs.Overload.{Judged}
use Rattle.overload.specs.Rows.{judge_address, judge_indirection}
use Rattle.table.specs.Table.{kind_ptr, kind_ref}
use Rattle.ops_ty.specs.Ops.{address_op}

-- the kinds that are turned into each other
abbrev pub Turns : ℕ → ℕ → Type 0
Turns from to = ((from ≡ kind_ref) × (to ≡ kind_ptr)) ⊎ ((from ≡ kind_ptr) × (to ≡ kind_ref))

-- the judgment of the operator that takes types of a kind
unfoldable pub judge_from : ℕ → Ty → Judged
judge_from from t = cond (eqb from kind_ref) (judge_address t) (judge_indirection t)

-- 3: a reference, by an operand's number, offered to another operator than unary `&`
abbrev pub offered : ℕ → ℕ → Bool
offered op x = not (eqb op address_op) && eqb x 98
