-- `why::put_all` meets its contract. The loop's invariant: the first j pieces are put. Assumes nothing.
use native.Mathlib.Omega.{arith}
use Rattle.why.proofs.Texts.{run-first, run-next, run-all}
use Rattle.why.proofs.put_all.Goals as goal

pub loop-j-init : goal.loop-j-init
loop-j-init c = run-first _ _

pub put_piece-at-requires : goal.put_piece-at-requires
put_piece-at-requires c = let a = c.args in let p = c.piece_count-j-end.ensures in (c.requires, omega (arith, p.by_index a.words.now a.args.now), omega (arith, p.upper_bound))

pub loop-j-preserved : goal.loop-j-preserved
loop-j-preserved c = let a = c.args in run-next (omega (arith, c.piece_count-j-end.ensures.by_index a.words.now a.args.now)) c.loop-j.invariant c.put_piece-at.ensures.put c.put_piece-at.ensures.upper_bound

pub returns : goal.returns
returns c = let a = c.args in let i = c.loop-j.invariant in let p = c.piece_count-j-end.ensures in let e = p.by_index a.words.now a.args.now in record { put = run-all (omega (arith, e)) i; upper_bound = omega (arith, e, i.near, i.within, p.upper_bound) }
