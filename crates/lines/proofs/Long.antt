-- What follows the first 60,004 bytes of an input changes no answer: such an input has no right header. So the program reads 65,536 bytes at most.
-- Assumes nothing.
use Prim.Native.Nat.{ℕ, ◌+◌, ◌<◌}
use mathlib.Core.Path.{◌≡◌, refl, sym, ◌∙◌, ap}
use mathlib.Core.Bool.{Bool, true, false}
use mathlib.Core.List.{List, ◌++◌}
use native.Mathlib.Omega.{arith}
use lib.Dec.{ltb}
use lib.ListN.{length, take, length-take}
use lib.Seq.{take_all}
use borrow.Author.Tests.{ltb-true, ltb-false}
use Rattle.table.specs.Table.{scalars}
use Rattle.table.specs.Placing.{Outcome}
use Rattle.text.specs.Text.{ascii, decimal_by, decimal}
use Rattle.frame.specs.Frame.{header_size, longest, header_ok}
use Rattle.frame.proofs.FrameLaws.{headed}
use Rattle.sheet.proofs.Demand1.{sheet-header}
use Rattle.lines.specs.Lines.{lacking_part, refused_line, first_line, second_line, line_end, lines_of, start, report}
use Rattle.lines.proofs.Valued.{start-sound}

-- under a right header there are at most 60,003 bytes
no_header : (s : List ℕ) → header_size + longest < length s → header_ok s ≡ false
no_header s l = go (header_ok s) refl
  where
    go : (b : Bool) → header_ok s ≡ b → header_ok s ≡ false
    go true e = let h = headed s e in absurd (omega arith)
    go false e = e

-- the lines of every longer input
pub too_long : (profile : ℕ) (s : List ℕ) → header_size + longest < length s → report profile s ≡ ascii "refused 10 at 0" ++ line_end ++ ascii "entries 7" ++ line_end
unfolding report ascii decimal_by decimal lacking_part refused_line first_line second_line lines_of
too_long profile s h = ap (λ (o : Outcome). lines_of o.words o.answer) (sheet-header profile start scalars s start-sound (no_header s h))

-- so what is cut off behind more than 60,003 bytes is not missed
pub report-cut : (profile n : ℕ) (s : List ℕ) → header_size + longest < n → report profile (take n s) ≡ report profile s
report-cut profile n s h = go (ltb n (length s)) refl
  where
    go : (b : Bool) → ltb n (length s) ≡ b → report profile (take n s) ≡ report profile s
    go true e =
        let l = ltb-true n (length s) e in
        too_long profile (take n s) (omega (arith, length-take n s)) ∙ sym (too_long profile s (omega arith))
    go false e = ap (report profile) (take_all n s (ltb-false n (length s) e))
