-- `table::sound` meets its contract: the scalars, then the entries above them. Assumes nothing.
use Prim.Native.Nat.{ℕ, ◌≤◌, ◌*◌}
use mathlib.Core.Path.{◌≡◌, sym, ◌∙◌, ap}
use mathlib.Core.List.{List}
use lib.ListN.{length}
use borrow.Author.Tests.{le-leb, lt-leb}
use Rattle.table.specs.Tools.{all_below}
use Rattle.table.specs.Table.{stride, scalars, ceiling, soundb, good_at}
use Rattle.table.proofs.SlotLaws.{scalars-good, scalars-bad}
use Rattle.table.proofs.sound.Goals as goal

-- in range, the entries decide
by_entries : (w : List ℕ) (n : ℕ) → scalars ≤ n → n ≤ ceiling → n * stride ≤ length w → all_below (good_at w) n ≡ soundb w n
unfolding soundb
by_entries w n low high room = rw (le-leb 7 n low, le-leb n 256 high, le-leb (n * stride) (length w) room)

pub returns-then-n-lt-SCALARS : goal.returns-then-n-lt-SCALARS
unfolding soundb
returns-then-n-lt-SCALARS c = rw (lt-leb 7 _ c.if-n-lt-SCALARS.true)

pub returns-then-n-gt-CEILING : goal.returns-then-n-gt-CEILING
unfolding soundb
returns-then-n-gt-CEILING c = rw (le-leb 7 _ c.if-n-lt-SCALARS.false, lt-leb _ 256 c.if-n-gt-CEILING.true)

pub returns-then-words-n : goal.returns-then-words-n
unfolding soundb
returns-then-words-n c = rw (le-leb 7 _ c.if-n-lt-SCALARS.false, le-leb _ 256 c.if-n-gt-CEILING.false, lt-leb _ _ c.if-words-n.true)

pub returns-then-not-scalars_stand : goal.returns-then-not-scalars_stand
returns-then-not-scalars_stand c =
    let a = c.args in
    let w = a.words.now in
    sym (scalars-bad w a.n c.if-n-lt-SCALARS.false (sym c.scalars_stand.ensures ∙ c.if-not-scalars_stand.true))
    ∙ by_entries w a.n c.if-n-lt-SCALARS.false c.if-n-gt-CEILING.false c.if-words-n.false

pub returns-then-n-eq-SCALARS : goal.returns-then-n-eq-SCALARS
returns-then-n-eq-SCALARS c =
    let a = c.args in
    let w = a.words.now in
    sym (ap (all_below (good_at w)) c.if-n-eq-SCALARS.true ∙ scalars-good w (sym c.scalars_stand.ensures ∙ c.if-not-scalars_stand.false))
    ∙ by_entries w a.n c.if-n-lt-SCALARS.false c.if-n-gt-CEILING.false c.if-words-n.false

pub rest_good-requires : goal.rest_good-requires
rest_good-requires c = (c.if-words-n.false, c.if-n-lt-SCALARS.false, c.if-n-gt-CEILING.false, sym c.scalars_stand.ensures ∙ c.if-not-scalars_stand.false)

pub returns : goal.returns
returns c =
    let a = c.args in
    c.rest_good.ensures ∙ by_entries a.words.now a.n c.if-n-lt-SCALARS.false c.if-n-gt-CEILING.false c.if-words-n.false
