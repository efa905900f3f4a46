-- `text::put_after` meets its contract: the number is put after the text. Assumes nothing.
use Rattle.text.proofs.Puts.{put-put}
use Rattle.text.proofs.put_after.Goals as goal

pub returns : goal.returns
returns c = put-put c.put_text-a.ensures c.put_number.ensures
