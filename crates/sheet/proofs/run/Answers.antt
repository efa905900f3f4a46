-- `sheet::run` meets its contract: the names, a stack of 64 values and a memo that has met nothing. Assumes nothing.
use borrow.Author.Rules.{rules}
use Rattle.sheet.proofs.run.Goals as goal

pub run_on-requires : goal.run_on-requires
run_on-requires c = (c.requires, search rules, c.new-memo.ensures c.args.table.now c.args.used)
