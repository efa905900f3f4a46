-- `phrase::put_ranks` meets its contract. Assumes nothing.
use mathlib.Core.Path.{sym, ◌∙◌, ap}
use mathlib.Core.List.{map}
use native.Mathlib.Omega.{arith}
use lib.ListN.{length-map}
use Rattle.text.specs.Text.{decimal}
use Rattle.text.proofs.Puts.{put-put, put_as}
use Rattle.overload.specs.inner.Code.{operand}
use Rattle.phrase.specs.Phrase.{ranks_of, ranks_word, ranks_text}
use Rattle.phrase.proofs.Phrasing.{ranked-long}
use Rattle.phrase.proofs.put_ranks.Goals as goal

pub returns : goal.returns
unfolding ranks_text
returns c = let a = c.args in let rs = ranks_of (map operand a.ps.now) (map operand a.xs.now) in record { put = put-put (put_as (ap ranks_word (sym (sym (length-map rs decimal) ∙ ranked-long a.ps.now a.xs.now c.requires.2))) c.put_word-a.ensures.put) c.put_numbers.ensures.put; upper_bound = omega (arith, c.put_word-a.ensures.upper_bound, c.put_numbers.ensures.upper_bound) }
