-- `text::put_byte` meets its contract: a byte past the end changes nothing. Assumes nothing.
use mathlib.Core.Path.{refl, sym}
use lib.Seq.{set_out}
use Rattle.text.proofs.put_byte.Goals as goal

pub returns-then-out-at : goal.returns-then-out-at
returns-then-out-at c = record { place = refl; bytes = sym (set_out _ _ _ c.if-out-at.true) }
