-- `spell::put_text` meets its contract: no text is long. Assumes nothing.
use Rattle.text.proofs.Puts.{put_as}
use Rattle.spell.proofs.Texts.{text-long}
use Rattle.std.proofs.Common.{ap, length, arith}
use Rattle.spell.proofs.put_text.Goals as goal

pub put_text-requires : goal.put_text-requires
put_text-requires c = omega (arith, text-long c.args.k, ap length c.text_at.ensures)

pub returns : goal.returns
returns c = put_as c.text_at.ensures c.put_text.ensures
