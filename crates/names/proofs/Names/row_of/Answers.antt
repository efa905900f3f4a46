-- `names::Names::row_of` meets its contract. The loop's invariant: no row before the low end of what is left has the name, and none from the high end on: a probe leaves out the
-- rows on the other side of its line, since the names are sorted. The measure is how often a row is still looked at, at most eight times in all. Assumes nothing.
use Prim.Native.Nat.{ℕ, ◌+◌, ◌/◌, ◌≤◌, ◌<◌}
use mathlib.Core.Path.{◌≡◌, refl, subst}
use mathlib.Core.Bool.{Bool, true, false}
use mathlib.Core.List.{List}
use native.Mathlib.Omega.{arith}
use lib.Dec.{ltb}
use borrow.Author.Rules.{rules}
use borrow.Author.Tests.{ltb-true, ltb-false}
use Rattle.names.specs.Names.{name_at, count}
use Rattle.names.specs.inner.Table.{Ordered, StandsAt}
use Rattle.std.specs.declared.cmp.Ordering.{Ordering}
use Rattle.names.proofs.Halving.{looks-fall}
use Rattle.names.proofs.Letters.{few, counted, row_named, none-earlier, none-later}
use Rattle.names.proofs.Names.row_of.Goals as goal

pub loop-low-init : goal.loop-low-init
loop-low-init c = let e = counted in (search rules, λ k h. absurd (omega arith), λ k h l. absurd (omega arith))

pub overflow_add-middle : goal.overflow_add-middle
overflow_add-middle c = let f = few in let e = counted in record { fits = omega arith }

pub compared-requires : goal.compared-requires
compared-requires c = (omega (arith, c.loop-low.invariant.0, c.loop-low-test.true), c.requires.0)

pub overflow_add-low : goal.overflow_add-low
overflow_add-low c = let f = few in let e = counted in record { fits = omega arith }

pub loop-low-smaller-in-Less : goal.loop-low-smaller-in-Less
loop-low-smaller-in-Less c = looks-fall _ _ (omega (arith, c.loop-low-test.true)) (omega arith)

pub loop-low-preserved-in-Less : goal.loop-low-preserved-in-Less
unfolding Ordered
loop-low-preserved-in-Less c =
    let a = c.args in
    let g = c.loop-low in
    let m = (g.low + g.high) / 2 in
    let h : m < count = omega (arith, c.loop-low.invariant.0, c.loop-low-test.true) in
    let b = subst (λ (x : Ordering). Ordered x (name_at m) a.name.now) c.in-Less.is c.compared.ensures in
    (g.invariant.0, λ k l. none-earlier m h a.name.now b k (omega arith), g.invariant.2)

pub returns-in-Equal : goal.returns-in-Equal
unfolding Ordered StandsAt
returns-in-Equal c =
    let a = c.args in
    let g = c.loop-low in
    let m = (g.low + g.high) / 2 in
    let l : m < count = omega (arith, c.loop-low.invariant.0, c.loop-low-test.true) in
    let b = subst (λ (x : Ordering). Ordered x (name_at m) a.name.now) c.in-Equal.is c.compared.ensures in
    (l, row_named m l a.name.now c.requires.0 c.requires.1 b)

pub loop-low-smaller : goal.loop-low-smaller
loop-low-smaller c = looks-fall _ _ (omega (arith, c.loop-low-test.true)) (omega arith)

pub loop-low-preserved : goal.loop-low-preserved
unfolding Ordered
loop-low-preserved c =
    let a = c.args in
    let g = c.loop-low in
    let m = (g.low + g.high) / 2 in
    let h : m < count = omega (arith, c.loop-low.invariant.0, c.loop-low-test.true) in
    let b = subst (λ (x : Ordering). Ordered x (name_at m) a.name.now) c.in-Greater.is c.compared.ensures in
    (omega arith, g.invariant.1, λ k l. none-later m h a.name.now b k l)

-- where nothing is left no row has the name
gone : (low high : ℕ) (s : List ℕ) → high ≤ low → ((k : ℕ) → k < low → name_at k ≡ s → ⊥) → ((k : ℕ) → high ≤ k → k < count → name_at k ≡ s → ⊥) → (k : ℕ) → k < count → name_at k ≡ s → ⊥
gone low high s h f t k l e = go (ltb k low) refl
  where
    go : (b : Bool) → ltb k low ≡ b → ⊥
    go true p = f k (ltb-true k low p) e
    go false p = t k (let n = ltb-false k low p in omega arith) l e

pub returns : goal.returns
unfolding StandsAt
returns c =
    let g = c.loop-low in
    λ k l. gone g.low g.high c.args.name.now c.loop-low-test.false g.invariant.1 g.invariant.2 k l
