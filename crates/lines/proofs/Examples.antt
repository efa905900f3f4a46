-- The lines that document 01 writes out, and one that document 02 does, byte by byte: all compute. Assumes nothing.
use mathlib.Core.Path.{◌≡◌, refl}
use mathlib.Core.List.{◌++◌}
use Rattle.answer.specs.Answer.{accept, refuse}
use Rattle.table.specs.Table.{chain_by, chain}
use Rattle.table.specs.Denote.{type_at}
use Rattle.answer.specs.declared.Reason.TheVariants.{NoOverload, NoRoom}
use Rattle.answer.specs.declared.Answer.TheVariants.{NoValue}
use Rattle.text.specs.Text.{ascii, decimal_by, decimal}
use Rattle.spell.specs.Spell.{named, spelling}
use Rattle.lines.specs.Lines.{type_line, lacking_part, refused_line, first_line, second_line, line_end, lines_of, start}

pub written_out :
    (lines_of start (accept 5 7) ≡ ascii "type 5 f32" ++ line_end ++ ascii "entries 7" ++ line_end) ×
    (lines_of start (refuse NoOverload 9 7) ≡ ascii "refused 8 at 9" ++ line_end ++ ascii "entries 7" ++ line_end) ×
    (lines_of start (refuse (NoRoom 2) 212 256) ≡ ascii "refused 9 at 212 lacking 2" ++ line_end ++ ascii "entries 256" ++ line_end) ×
    (lines_of start (NoValue 7) ≡ ascii "none" ++ line_end ++ ascii "entries 7" ++ line_end)
unfolding ascii named decimal_by decimal spelling type_at chain chain_by type_line lacking_part refused_line first_line second_line lines_of
written_out = (refl, refl, refl, refl)
