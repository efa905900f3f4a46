-- `memo::Memo::new` meets its contract: every slot is empty. Assumes nothing.
use mathlib.Core.Path.{refl}
use Rattle.table.proofs.SlotLaws.{zeros}
use Rattle.memo.proofs.MemoLaws.{recalls-none}
use Rattle.memo.proofs.Memo.new.Goals as goal

pub returns : goal.returns
unfolding zeros
returns c = λ w n. recalls-none _ w n refl refl
