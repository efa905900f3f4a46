-- The character of an answer, on the table of the 55 types and on one of some more. Assumes nothing.
use Rattle.std.specs.Prelude.{ℕ, ◌+◌, ◌-◌, ◌*◌, ◌/◌, ◌%◌, cond, not, ◌&&◌, ◌||◌, List, length, Option, None, Some, ◌==◌, nat_le, nat_lt}
use Rattle.conv.specs.Types.{abstract_float, f32, f16}
use Rattle.answer.specs.Answer.{reason_no}
use Rattle.answer.specs.declared.Refusal.{Refusal}
use Rattle.answer.specs.declared.Answer.{Answer}
use Rattle.answer.specs.declared.Answer.TheVariants.{Value, NoValue, Refused}
use Rattle.table.specs.Table.{entry_at, kind_frexp, kind_modf}
use Rattle.table.specs.declared.Entry.{Entry}

-- `0` for type 0, `!` for an answer that no row expects
abbrev pub first_char : ℕ
first_char = 48

abbrev pub other_char : ℕ
other_char = 33

-- how many types there are, and the words of one entry more
abbrev pub types : ℕ
types = 55

-- the most types of a table that have characters
abbrev pub most_types : ℕ
most_types = 79

abbrev pub words_of_more : ℕ
words_of_more = 224

-- the numbers of the first result of frexp and of the first of modf
abbrev pub frexps : ℕ
frexps = 55

abbrev pub modfs : ℕ
modfs = 67

-- the place of a float's width among the results, and then of the float; a type that is no float scalar or vector has none
abbrev pub float_place : ℕ → Option ℕ
float_place t =
    cond (nat_le 4 (t / 7)) None
    (cond (t % 7 == abstract_float) (Some (t / 7 * 3))
    (cond (t % 7 == f32) (Some (t / 7 * 3 + 1))
    (cond (t % 7 == f16) (Some (t / 7 * 3 + 2)) None)))

-- of the twelve results, the one at a place
abbrev pub result_char : ℕ → Option ℕ → ℕ
result_char first None = other_char
result_char first (Some place) = cond (nat_le 12 place) other_char (first_char + first + place)

-- an entry that is a result of frexp or of modf
abbrev pub entry_char : Entry → ℕ
entry_char e =
    cond (not (e.p == 0) || not (e.q == 0)) other_char
    (cond (e.kind == kind_frexp) (result_char frexps (float_place e.elem))
    (cond (e.kind == kind_modf) (result_char modfs (float_place e.elem)) other_char))

-- the entry after the 55
unfoldable pub new_char : List ℕ → ℕ
new_char w = cond (nat_lt (length w) words_of_more) other_char (entry_char (entry_at w types))

-- one of the n types before the call, and nothing entered; or the entry after them, and it alone entered
abbrev pub value_char : ℕ → ℕ → ℕ → ℕ → ℕ
value_char n new t used =
    cond (nat_lt t n) (cond (used == n) (first_char + t) other_char)
    (cond (t == n && used == n + 1) new other_char)

-- no value, and nothing entered: `%`
abbrev pub silent_char : ℕ → ℕ → ℕ
silent_char n used = cond (used == n) 37 other_char

-- the refusals that rows have: `.` for 8, `$` for 4, `'` for 7, `,` for 14, `&` for 3
abbrev pub reason_char : ℕ → ℕ
reason_char n = cond (n == 8) 46 (cond (n == 4) 36 (cond (n == 7) 39 (cond (n == 14) 44 (cond (n == 3) 38 other_char))))

-- a refusal at place 0, and nothing entered
abbrev pub refusal_char : ℕ → Refusal → ℕ
refusal_char n r = cond (r.place.0 == 0 && r.used == n) (reason_char (reason_no r.reason)) other_char

-- an answer on a table of n types, where `new` is the character of the entry after them
unfoldable pub char_of : ℕ → ℕ → Answer → ℕ
char_of n new (Value t used) = value_char n new t.0 used
char_of n new (NoValue used) = silent_char n used
char_of n new (Refused r) = refusal_char n r

-- on the table of the 55
abbrev pub answer_char : List ℕ → Answer → ℕ
answer_char w r = char_of types (new_char w) r

-- the number of a type's character; below `0`, one that no type has
abbrev pub type_no : ℕ → ℕ
type_no c = cond (nat_lt c first_char) types (c - first_char)
