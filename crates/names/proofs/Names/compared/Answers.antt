-- `names::Names::compared` meets its contract. The loop's invariant: the letters passed are the same. Assumes nothing.
use Prim.Native.Nat.{ℕ, ◌<◌}
use mathlib.Core.List.{List, []}
use mathlib.Core.Path.{◌≡◌, sym, ◌∙◌, ap}
use native.Mathlib.Omega.{arith}
use lib.ListN.{length, get_or}
use borrow.Author.Count.{below_more}
use Rattle.names.specs.Names.{name_at, count}
use Rattle.names.specs.inner.Table.{name_table, name_width, blank}
use Rattle.names.proofs.Lines.{at, line_at, letter_in, get_or-in}
use Rattle.names.proofs.Sides.{by-letter, by-next, by-width}
use Rattle.names.proofs.Letters.{counted}
use Rattle.names.proofs.Names.compared.Goals as goal

pub offset_bounds-self-row : goal.offset_bounds-self-row
offset_bounds-self-row c = let l = c.requires.0 in record { fits = omega (arith, counted) }

pub bounds-self-row : goal.bounds-self-row
bounds-self-row c = omega (arith, counted, c.requires.0)

-- a letter of the line that is lent
module _ (rows : List (List ℕ)) (lent : rows ≡ name_table) (row : ℕ) (h : row < count) (i : ℕ) where
  lent_at : i < name_width → get_or (get_or rows row []) i 0 ≡ get_or (name_at row) i blank
  unfolding name_at
  lent_at m = ap (λ (l : List ℕ). get_or l i 0) (line_at rows lent row [] h) ∙ letter_in (at row) i m

pub returns-then-line-i : goal.returns-then-line-i
returns-then-line-i c =
    let a = c.args in
    let i = c.loop-i.i in
    let m : i < name_width = omega (arith, c.loop-i-test.true, c.requires.1) in
    by-letter a.row c.requires.0 a.name.now i c.loop-i.invariant m _ _
    (lent_at a.self.now.rows a.self.now.stand a.row c.requires.0 i m)
    (get_or-in a.name.now i 0 blank c.loop-i-test.true)
    c.if-line-i.true _ c.cmp.ensures

pub loop-i-preserved : goal.loop-i-preserved
loop-i-preserved c =
    let a = c.args in
    let i = c.loop-i.i in
    let m : i < name_width = omega (arith, c.loop-i-test.true, c.requires.1) in
    below_more (λ (k : ℕ). get_or (name_at a.row) k blank ≡ get_or a.name.now k blank) i c.loop-i.invariant
    (sym (lent_at a.self.now.rows a.self.now.stand a.row c.requires.0 i m) ∙ c.if-line-i.false ∙ get_or-in a.name.now i 0 blank c.loop-i-test.true)

pub returns-then-end-lt-NAME_WIDTH : goal.returns-then-end-lt-NAME_WIDTH
returns-then-end-lt-NAME_WIDTH c =
    let a = c.args in
    let n = length a.name.now in
    by-next a.row c.requires.0 a.name.now n (λ j l. c.loop-i.invariant j (omega (arith, c.loop-i-test.false)))
    c.if-end-lt-NAME_WIDTH.true (omega arith) _
    (lent_at a.self.now.rows a.self.now.stand a.row c.requires.0 n c.if-end-lt-NAME_WIDTH.true)
    _ c.cmp-then-end-lt-NAME_WIDTH.ensures

pub returns : goal.returns
returns c =
    let a = c.args in
    let n = length a.name.now in
    by-width a.row c.requires.0 a.name.now n (λ j l. c.loop-i.invariant j (omega (arith, c.loop-i-test.false))) c.if-end-lt-NAME_WIDTH.false
