-- The operators of document 01, by their numbers, and what a call of one does. Assumes nothing.
use Rattle.std.specs.Prelude.{ℕ, Bool, cond, List, [], ◌∷◌, ltb, get_or}
use Rattle.held.specs.Held.{number_of, mark_of}
use Rattle.conv.specs.Types.{Ty}
use Rattle.overload.specs.Marks.{any_running}
use Rattle.overload.specs.Rows.{Row, no_row, Ruling, negating_bool, negating, complementing, logical, additive, multiplicative, dividing, equality, ordering, bitwise, exclusive, shifting}
use Rattle.overload.specs.Rows.Ruling.{by_row, address, indirection}
use Rattle.table.specs.Table.{soundb}
use Rattle.table.specs.Placing.{Outcome, turned_down}
use Rattle.answer.specs.declared.Reason.TheVariants.{Unsound, NoSuchType, Unknown}
use Rattle.ruled.specs.Call.{operand_ty, ruled_outcome}

-- "Unary 0 to 4: `!` `-` `~` `&` `*`"
abbrev pub unary_ops : ℕ
unary_ops = 5

abbrev pub address_op : ℕ
address_op = 3

abbrev pub indirection_op : ℕ
indirection_op = 4

unfoldable pub unary_ruling : ℕ → Ruling
unary_ruling op = get_or (by_row negating_bool ∷ by_row negating ∷ by_row complementing ∷ address ∷ indirection ∷ []) op (by_row no_row)

-- "Binary 0 to 17: `||` `&&` `+` `-` `*` `/` `%` `==` `!=` `<` `<=` `>` `>=` `|` `&` `^` `<<` `>>`"
abbrev pub binary_ops : ℕ
binary_ops = 18

abbrev pub binary_rows : List Row
binary_rows =
    logical ∷ logical
    ∷ additive ∷ additive ∷ multiplicative ∷ dividing ∷ dividing
    ∷ equality ∷ equality ∷ ordering ∷ ordering ∷ ordering ∷ ordering
    ∷ bitwise ∷ bitwise ∷ exclusive ∷ shifting ∷ shifting
    ∷ []

unfoldable pub binary_row : ℕ → Row
binary_row op = get_or binary_rows op no_row

-- a call on loaded operands, by their types and their marks, at a place: 4, then 3, which unary `&` alone does not give, then 14, 8, 9

unfoldable pub unary_outcome : ℕ → List ℕ → ℕ → ℕ → Ty → Bool → Outcome
unary_outcome place w n op t m = cond (ltb op unary_ops) (ruled_outcome place w n (unary_ruling op) (t ∷ []) (m ∷ [])) (turned_down Unknown place w n)

unfoldable pub binary_outcome : ℕ → List ℕ → ℕ → ℕ → Ty → Ty → Bool → Bool → Outcome
binary_outcome place w n op t u m k =
    cond (ltb op binary_ops) (ruled_outcome place w n (by_row (binary_row op)) (t ∷ u ∷ []) (m ∷ k ∷ [])) (turned_down Unknown place w n)

-- a single call, at place 0: 1, then 2 from left to right, before these; a and b are operands, a type's number with its mark

unfoldable pub type_unary_op : List ℕ → ℕ → ℕ → ℕ → Outcome
type_unary_op w n op a =
    cond (soundb w n)
    (cond (ltb (number_of a) n) (unary_outcome 0 w n op (operand_ty w a) (mark_of a)) (turned_down NoSuchType 0 w n))
    (turned_down Unsound 0 w n)

unfoldable pub type_binary_op : List ℕ → ℕ → ℕ → ℕ → ℕ → Outcome
type_binary_op w n op a b =
    cond (soundb w n)
    (cond (ltb (number_of a) n)
    (cond (ltb (number_of b) n) (binary_outcome 0 w n op (operand_ty w a) (operand_ty w b) (mark_of a) (mark_of b)) (turned_down NoSuchType 0 w n))
    (turned_down NoSuchType 0 w n))
    (turned_down Unsound 0 w n)

-- "a result is const when all operands are"

abbrev pub unary_runs : ℕ → Bool
unary_runs a = any_running (mark_of a ∷ [])

abbrev pub binary_runs : ℕ → ℕ → Bool
binary_runs a b = any_running (mark_of a ∷ mark_of b ∷ [])
