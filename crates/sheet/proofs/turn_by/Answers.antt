-- `sheet::turn_by` meets its contract: each turn is what comes after the effect. Assumes nothing.
use mathlib.Core.Path.{refl}
use Rattle.sheet.proofs.Turning.{turn-goes, turn-silent, counted-end, turn-ends, turn-stops}
use Rattle.sheet.proofs.turn_by.Goals as goal

pub finish-requires : goal.finish-requires
finish-requires c = (c.requires.0, counted-end c.args.size c.args.at.0 c.args.next.0 c.args.stack.now c.in-Ended.count c.in-Ended.used (rw c.in-Ended.is at c.requires.1))

pub returns-in-Went : goal.returns-in-Went
returns-in-Went c = rw c.in-Went.is (turn-goes c.args.size c.args.at.0 c.args.next.0 c.args.stack.now c.in-Went.count c.in-Went.used c.args.next refl (rw c.in-Went.is at c.requires.1))

pub returns-in-Silent : goal.returns-in-Silent
returns-in-Silent c = rw c.in-Silent.is (turn-silent c.args.size c.args.at.0 c.args.next.0 c.args.stack.now c.in-Silent.count c.in-Silent.used c.requires.0 (rw c.in-Silent.is at c.requires.1) c.unmarked.result c.leave.result c.unmarked.ensures c.leave.ensures)

pub returns-in-Ended : goal.returns-in-Ended
returns-in-Ended c = rw c.in-Ended.is (turn-ends c.args.size c.args.at.0 c.args.next.0 c.args.stack.now c.in-Ended.count c.in-Ended.used c.finish.result c.finish.ensures)

pub returns-in-Refused : goal.returns-in-Refused
returns-in-Refused c = rw c.in-Refused.is (turn-stops c.args.size c.args.at.0 c.args.next.0 c.args.stack.now c.in-Refused.r c.unmarked-in-Refused.result c.unmarked-in-Refused.ensures)
