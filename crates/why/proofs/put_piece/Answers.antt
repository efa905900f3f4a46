-- `why::put_piece` meets its contract: where there is a piece, there is a rule that tells it. Assumes nothing.
use Rattle.why.proofs.Asking.{put-needs, put-told, none-nothing, none-refused}
use Rattle.why.proofs.put_piece.Goals as goal

pub put_piece-requires : goal.put_piece-requires
put_piece-requires c = let h = c.in-Ok-Some in let q = put-needs h.is c.args.words.now c.args.args.now c.args.j (rw h.is at h.field-0-is) c.requires.0 c.requires.1 in (q.0, q.1, c.requires.2)

pub returns-in-Ok-Some-clause-put : goal.returns-in-Ok-Some-clause-put
returns-in-Ok-Some-clause-put c = let h = c.in-Ok-Some in put-told h.is c.args.words.now c.args.args.now c.args.j (rw h.is at h.field-0-is) c.put_piece.ensures.put

pub returns-in-Ok-None-clause-put : goal.returns-in-Ok-None-clause-put
returns-in-Ok-None-clause-put c = let h = c.in-Ok-None in none-nothing h.is c.args.words.now c.args.args.now c.args.j (rw h.is at h.field-0-is) c.requires.1

pub returns-in-Err-clause-put : goal.returns-in-Err-clause-put
returns-in-Err-clause-put c = none-refused c.args.words.now c.args.args.now c.args.j c.in-Err.is c.requires.1
