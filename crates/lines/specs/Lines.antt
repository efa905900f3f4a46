-- Document 01, "What is answered", and document 02, K2: the two lines that the program writes for a sheet, byte by byte. Assumes nothing.
use Rattle.std.specs.Prelude.{ℕ, ◌<◌, List, [], ◌∷◌, ◌++◌, cond, eqb, replicate}
use Rattle.answer.specs.Answer.{reason_no, lacking_of, used_of}
use Rattle.table.specs.Table.{scalars, Sound}
use Rattle.table.specs.Denote.{type_at}
use Rattle.table.specs.Placing.{Outcome}
use Rattle.answer.specs.declared.Refusal.{Refusal}
use Rattle.answer.specs.declared.Answer.{Answer}
use Rattle.answer.specs.declared.Answer.TheVariants.{Value, NoValue, Refused}
use Rattle.text.specs.Text.{ascii, decimal}
use Rattle.spell.specs.Spell.{spelling}
use Rattle.sheet.specs.Machine.{type_sheet}

-- `type 5 f32`: the type's number and its spelling
unfoldable pub type_line : List ℕ → ℕ → List ℕ
type_line w t = ascii "type " ++ decimal t ++ ascii " " ++ spelling (type_at w t)

-- `refused 8 at 9`: the refusal's number and its place; `refused 9 at 12 lacking 1`: and how many entries lack
unfoldable pub lacking_part : Refusal → List ℕ
lacking_part r = cond (eqb (reason_no r.reason) 9) (ascii " lacking " ++ decimal (lacking_of r.reason)) []

unfoldable pub refused_line : Refusal → List ℕ
refused_line r = (ascii "refused " ++ decimal (reason_no r.reason) ++ (ascii " at " ++ decimal r.place.0)) ++ lacking_part r

-- "No value: first line `none`"
unfoldable pub first_line : List ℕ → Answer → List ℕ
first_line w (Value t used) = type_line w t.0
first_line w (NoValue used) = ascii "none"
first_line w (Refused r) = refused_line r

-- `entries 7`: the used count
unfoldable pub second_line : Answer → List ℕ
second_line a = ascii "entries " ++ decimal (used_of a)

abbrev pub line_end : List ℕ
line_end = 10 ∷ []

unfoldable pub lines_of : List ℕ → Answer → List ℕ
lines_of w a = first_line w a ++ line_end ++ second_line a ++ line_end

-- the two lines of an answer have no more bytes: a type has at most 80 for each of 256 entries
abbrev pub lines_room : ℕ
lines_room = 32768

-- "The program starts from the seven scalars": their entries, and room for 256
abbrev pub start : List ℕ
start =
    0 ∷ 0 ∷ 0 ∷ 0 ∷ 1 ∷ 0 ∷ 0 ∷ 0 ∷ 2 ∷ 0 ∷ 0 ∷ 0 ∷ 3 ∷ 0 ∷ 0 ∷ 0 ∷ 4 ∷ 0 ∷ 0 ∷ 0 ∷ 5 ∷ 0 ∷ 0 ∷ 0 ∷ 6 ∷ 0 ∷ 0 ∷ 0 ∷ replicate 996 0

-- the outcome of a sheet over them, in a profile
abbrev pub outcome : ℕ → List ℕ → Outcome
outcome profile s = type_sheet profile start scalars s

-- what the program writes for the bytes that it reads
unfoldable pub report : ℕ → List ℕ → List ℕ
report profile s = lines_of (outcome profile s).words (outcome profile s).answer

-- an answer whose type can be spelled: the table is sound, and the number is one of it
abbrev pub Spellable : List ℕ → Answer → Type 0
Spellable w (Value t used) = Sound w used × (t.0 < used)
Spellable w (NoValue used) = Unit {0}
Spellable w (Refused r) = Unit {0}
