-- `desk::piece_count` meets its contract. Assumes nothing.
use Rattle.desk.proofs.piece_count.Goals as goal

pub returns : goal.returns
returns c = λ vals words. c.piece_count.ensures.by_index words _
