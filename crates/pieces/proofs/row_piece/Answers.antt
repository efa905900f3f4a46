-- `pieces::row_piece` meets its contract. Assumes nothing.
use mathlib.Core.Path.{refl, sym}
use native.Mathlib.Omega.{arith}
use Rattle.text.proofs.Puts.{put-nothing, put_as}
use Rattle.pieces.proofs.Pieces.{args-few, codes-are, first-refused, chosen-needs, chosen-text, later-needs, lost-text, missed-needs, missed-text}
use Rattle.pieces.proofs.row_piece.Goals as goal

pub load-requires : goal.load-requires
load-requires c = let k = args-few c.args.words.now c.args.n c.args.rule c.args.accepted c.args.args.now c.requires.0 c.requires.1 in (c.requires.0.sound, c.requires.0.under, omega arith)

pub slice_bounds-xs-end : goal.slice_bounds-xs-end
slice_bounds-xs-end c = let k = args-few c.args.words.now c.args.n c.args.rule c.args.accepted c.args.args.now c.requires.0 c.requires.1 in omega arith

pub chosen_piece-requires : goal.chosen_piece-requires
chosen_piece-requires c = let a = c.args in let w = c.wide-row in let ec = codes-are a.words.now a.args.now _ c.load.ensures in let q = chosen-needs a.words.now a.n a.rule a.accepted a.args.now c.requires.0 c.requires.1 w.result w.ensures c.any_running.result c.any_running.ensures _ ec c.in-0-true.is-1 in (q.0, q.1, c.requires.3)

pub returns-in-0-true : goal.returns-in-0-true
returns-in-0-true c = let a = c.args in let w = c.wide-row in let ec = codes-are a.words.now a.args.now _ c.load.ensures in record { put = put_as (chosen-text a.words.now a.n a.rule a.accepted a.args.now c.requires.0 c.requires.1 w.result w.ensures c.any_running.result c.any_running.ensures _ ec c.in-0-true.is-1 a.j c.in-0-true.is-0) c.chosen_piece.ensures.put; upper_bound = c.chosen_piece.ensures.upper_bound }

pub returns-in-0-false : goal.returns-in-0-false
returns-in-0-false c = let a = c.args in record { put = put_as (sym (first-refused a.words.now a.n a.rule a.accepted a.args.now c.requires.0 c.requires.1 c.in-0-false.is-1 a.j c.in-0-false.is-0)) (put-nothing _ _); upper_bound = omega arith }

pub lost_piece-requires : goal.lost_piece-requires
lost_piece-requires c = let a = c.args in let w = c.wide-row in let ec = codes-are a.words.now a.args.now _ c.load.ensures in let q = later-needs a.words.now a.n a.rule a.accepted a.args.now c.requires.0 c.requires.1 w.result w.ensures c.any_running-in_default-true.result c.any_running-in_default-true.ensures _ ec a.j c.requires.2 c.in_default-true.is-0.1 in (q.0, args-few c.args.words.now c.args.n c.args.rule c.args.accepted c.args.args.now c.requires.0 c.requires.1, q.1, c.requires.3)

pub returns-in_default-true : goal.returns-in_default-true
returns-in_default-true c = let a = c.args in let w = c.wide-row in let ec = codes-are a.words.now a.args.now _ c.load.ensures in record { put = put_as (lost-text a.words.now a.n a.rule a.accepted a.args.now c.requires.0 c.requires.1 w.result w.ensures c.any_running-in_default-true.result c.any_running-in_default-true.ensures _ ec c.in_default-true.is-1 a.j c.requires.2 c.in_default-true.is-0.1) c.lost_piece.ensures.put; upper_bound = c.lost_piece.ensures.upper_bound }

pub missed_piece-requires : goal.missed_piece-requires
missed_piece-requires c = let a = c.args in let w = c.wide-row in let ec = codes-are a.words.now a.args.now _ c.load.ensures in let q = later-needs a.words.now a.n a.rule a.accepted a.args.now c.requires.0 c.requires.1 w.result w.ensures _ refl _ ec a.j c.requires.2 c.in_default-false.is-0.1 in (c.requires.0.sound, c.requires.0.under, ec, q.0, q.1, missed-needs a.words.now a.n a.rule a.accepted a.args.now c.requires.0 c.requires.1 w.result w.ensures _ refl _ ec c.in_default-false.is-1 a.j c.requires.2 c.in_default-false.is-0.1, c.requires.3)

pub returns-in_default-false : goal.returns-in_default-false
returns-in_default-false c = let a = c.args in let w = c.wide-row in let ec = codes-are a.words.now a.args.now _ c.load.ensures in record { put = put_as (missed-text a.words.now a.n a.rule a.accepted a.args.now c.requires.0 c.requires.1 w.result w.ensures _ refl _ ec c.in_default-false.is-1 a.j c.requires.2 c.in_default-false.is-0.1) c.missed_piece.ensures.put; upper_bound = c.missed_piece.ensures.upper_bound }
