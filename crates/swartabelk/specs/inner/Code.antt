-- What the code goes by: an answer's numbers fit into 32 bits. The promise of an export is read without it. Assumes nothing.
use Rattle.std.specs.Prelude.{◌<◌, ◌^◌}
use Rattle.answer.specs.declared.Answer.{Answer}
use Rattle.answer.specs.declared.Answer.TheVariants.{Value, NoValue, Refused}
use Rattle.spell.specs.Reply.{Spelled}
use Rattle.std.specs.Prelude.{Ok, Err}
use Rattle.swartabelk.specs.Reply.{no_value}

-- and a type's number is not the one that stands for none
unfoldable pub Fits : Answer → Type 0
Fits (Value t n) = (t.0 < no_value) × (n < 2 ^ 32)
Fits (NoValue n) = n < 2 ^ 32
Fits (Refused r) = (r.place.0 < 2 ^ 32) × (r.used < 2 ^ 32)

unfoldable pub SpelledFits : Spelled → Type 0
SpelledFits (Ok k) = k < 2 ^ 32
SpelledFits (Err r) = (r.place.0 < 2 ^ 32) × (r.used < 2 ^ 32)
