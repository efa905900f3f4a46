-- `lines::type_line` meets its contract: each call puts the next part of the line. Assumes nothing.
use native.Mathlib.Omega.{arith}
use Rattle.text.specs.Text.{ascii}
use Rattle.text.proofs.Puts.{put-put}
use Rattle.spell.proofs.Short.{type-slim}
use Rattle.lines.specs.Lines.{type_line}
use Rattle.text.proofs.Lengths.{after-near}
use Rattle.lines.proofs.type_line.Goals as goal

pub put_byte-b-requires : goal.put_byte-b-requires
unfolding ascii
put_byte-b-requires c =
    omega (arith, after-near (ascii "type ") c.args.t.0 (omega (arith, c.requires.0.high, c.requires.1)) c.put_after-a.ensures)

pub spell_type-requires : goal.spell_type-requires
unfolding ascii
spell_type-requires c =
    record { sound = c.requires.0; i_lt_n = c.requires.1; span_bound = omega (arith, after-near (ascii "type ") c.args.t.0 (omega (arith, c.requires.0.high, c.requires.1)) c.put_after-a.ensures, c.put_byte-b.ensures.place, c.requires.0.high, c.requires.1) }

pub returns : goal.returns
unfolding ascii type_line
returns c =
    record { put = put-put (put-put c.put_after-a.ensures c.put_byte-b.ensures) c.spell_type.ensures.put; result_bound = omega (arith, after-near (ascii "type ") c.args.t.0 (omega (arith, c.requires.0.high, c.requires.1)) c.put_after-a.ensures, c.put_byte-b.ensures.place, c.spell_type.ensures.put.place, type-slim c.args.words.now (λ i. omega (arith, c.shared_slice_known-1.given i)) c.args.t.0, c.requires.0.high, c.requires.1) }
