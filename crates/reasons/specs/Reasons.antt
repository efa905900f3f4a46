-- Document 02, K7, "Tell me why": the text of a call, line by line, over the types and the marks of its operands. Operands are counted from 1 in the text, and from 0 here.
-- That what it says is true stands in `proofs/True.antt`. Assumes nothing.
use Rattle.std.specs.Prelude.{ℕ, suc, Bool, true, false, cond, List, [], ◌∷◌, ◌++◌, map, get_or}
use Prim.Native.String.{String}
use Rattle.text.specs.Text.{ascii}
use Rattle.conv.specs.Types.{Ty, bool, abstract_ty}
use Rattle.conv.specs.Types.Ty.{scalar}
use Rattle.conv.specs.Rank.{both}
use Rattle.overload.specs.Overload.{Overload, fits, is_preferred}
use Rattle.overload.specs.Marks.{dropped, remains, remaining_in}
use Rattle.overload.specs.Rows.{Row, overloads_of, Ruling, values, takes_atomic, atomic_in}
use Rattle.overload.specs.Rows.Ruling.{by_row, address, indirection, on_atomic, comparing, uniform_load, array_length}
use Rattle.listing.specs.Listing.{no_overload}
use Rattle.weigh.specs.Weigh.{first_by, first_miss}
use Rattle.phrase.specs.Phrase.{signature, operand_at, ranks_of, ranks_text}
use Rattle.spell.specs.Spell.{spelling}

abbrev pub line_end : List ℕ
line_end = 10 ∷ []

-- texts one after the other
unfoldable pub together : List (List ℕ) → List ℕ
together [] = []
together (s ∷ ss) = s ++ together ss

-- the type at a place of a list
abbrev pub type_in : List Ty → ℕ → Ty
type_in ts k = get_or ts k (scalar bool)

-- LINES OF OVERLOADS

-- "an overload that does not fit": `(vec2<f32>, f32): operand 1 is bool`, "the first operand that does not convert, with its spelling"
unfoldable pub miss_line : List Ty → List Ty → List ℕ
miss_line ps ts = signature ps ++ ascii ": " ++ operand_at (first_miss ps ts) ++ spelling (type_in ts (first_miss ps ts)) ++ line_end

-- "a fitting overload that K3 dropped": `(AbstractInt, AbstractInt, bool): dropped, operand 1 is abstract and operand 3 is running`, "first parameter that is abstract, first operand
-- that is running"
abbrev pub is_true : Bool → Bool
is_true b = b

unfoldable pub dropped_line : List Ty → List Bool → List ℕ
dropped_line ps ms =
    signature ps ++ ascii ": dropped, " ++ operand_at (first_by abstract_ty ps) ++ ascii "abstract and " ++ operand_at (first_by is_true ms) ++ ascii "running" ++ line_end

-- "the chosen overload": `(i32, i32, bool): chosen, ranks 3 3 0`; "with one operand `rank 3`; without `(): chosen`"
unfoldable pub chosen_line : List Ty → List Ty → List ℕ
chosen_line ps ts = signature ps ++ ascii ": chosen" ++ ranks_text (ranks_of ps ts) ++ line_end

-- THE CHOSEN OVERLOAD of a row: that one of the overloads that K3 leaves which is preferred to every other left
unfoldable pub first_over : (Overload → Bool) → List Overload → Overload
first_over g [] = no_overload
first_over g (o ∷ os) = cond (g o) o (first_over g os)

abbrev pub is_chosen : Row → List Ty → List Bool → Overload → Bool
is_chosen r ts ms o = both (remains ms o) (is_preferred (remaining_in ms (overloads_of r)) ts o)

unfoldable pub chosen_of : Row → List Ty → List Bool → Overload
chosen_of r ts ms = first_over (is_chosen r ts ms) (overloads_of r)

-- LINES OF RULES THAT ARE NOT LISTED: `operand 1 is f32, wanted is a pointer`, "the first operand that breaks the rule"

unfoldable pub wanted_line : ℕ → Ty → List ℕ → List ℕ
wanted_line k t wanted = operand_at k ++ spelling t ++ ascii ", wanted is " ++ wanted ++ line_end

-- what is wanted of the first operand
abbrev pub an_atomic : String
an_atomic = "a read_write pointer in space storage or workgroup to an atomic"

unfoldable pub first_wanted : Ruling → String
first_wanted (by_row r) = ""
first_wanted address = "a reference, not in space handle"
first_wanted indirection = "a pointer"
first_wanted (on_atomic k) = an_atomic
first_wanted comparing = an_atomic
first_wanted uniform_load = "a read_write pointer in space workgroup to an atomic, or to a type of fixed size with no atomic in it"
first_wanted array_length = "a pointer in space storage, read or read_write, to an array without count"

-- a rule of one operand; and one of a pointer to an atomic and values: where the pointer is right, the first value that does not convert to the component
abbrev pub first_line : Ruling → List Ty → List ℕ
first_line r ts = wanted_line 0 (type_in ts 0) (ascii (first_wanted r))

unfoldable pub value_line : ℕ → ℕ → List Ty → List ℕ
value_line k s us = wanted_line (suc (first_miss (values k s) us)) (type_in us (first_miss (values k s) us)) (spelling (scalar s))

unfoldable pub atomic_line : Ruling → ℕ → List Ty → List ℕ
atomic_line r k [] = []
atomic_line r k (t ∷ us) = cond (takes_atomic t) (value_line k (atomic_in t) us) (first_line r (t ∷ us))

unfoldable pub broken_line : Ruling → List Ty → List ℕ
broken_line (by_row r) ts = []
broken_line address ts = first_line address ts
broken_line indirection ts = first_line indirection ts
broken_line (on_atomic k) ts = atomic_line (on_atomic k) k ts
broken_line comparing ts = atomic_line comparing 2 ts
broken_line uniform_load ts = first_line uniform_load ts
broken_line array_length ts = first_line array_length ts

-- THE TEXT of a call, piece by piece: what stands first, then what each overload of its row has, which may be nothing

-- "A call refused with 8, listed row: a line for each overload, each once, in that order. Not listed: the one line."
unfoldable pub refused_pieces : Ruling → List Ty → List (List ℕ)
refused_pieces (by_row r) ts = [] ∷ map (λ o. miss_line o.params ts) (overloads_of r)
refused_pieces address ts = broken_line address ts ∷ []
refused_pieces indirection ts = broken_line indirection ts ∷ []
refused_pieces (on_atomic k) ts = broken_line (on_atomic k) ts ∷ []
refused_pieces comparing ts = broken_line comparing ts ∷ []
refused_pieces uniform_load ts = broken_line uniform_load ts ∷ []
refused_pieces array_length ts = broken_line array_length ts ∷ []

-- "An accepted call, listed row: the chosen overload's line, then a line for each fitting overload that K3 dropped, in the listing's order. Not listed: no line"
unfoldable pub lost_line : List Ty → List Bool → Overload → List ℕ
lost_line ts ms o = cond (both (fits o.params ts) (dropped o.params ms)) (dropped_line o.params ms) []

unfoldable pub accepted_pieces : Ruling → List Ty → List Bool → List (List ℕ)
accepted_pieces (by_row r) ts ms = chosen_line (chosen_of r ts ms).params ts ∷ map (lost_line ts ms) (overloads_of r)
accepted_pieces address ts ms = []
accepted_pieces indirection ts ms = []
accepted_pieces (on_atomic k) ts ms = []
accepted_pieces comparing ts ms = []
accepted_pieces uniform_load ts ms = []
accepted_pieces array_length ts ms = []

unfoldable pub pieces : Bool → Ruling → List Ty → List Bool → List (List ℕ)
pieces true r ts ms = accepted_pieces r ts ms
pieces false r ts ms = refused_pieces r ts

abbrev pub why_text : Bool → Ruling → List Ty → List Bool → List ℕ
why_text accepted r ts ms = together (pieces accepted r ts ms)
