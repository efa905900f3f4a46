-- `listing::params` meets its contract. The loop carries `Left`: the overload stands in one of the families that are left, at the place that is left. Assumes nothing.
use native.Mathlib.Omega.{arith}
use Prim.Native.Nat.{ℕ, ◌+◌, ◌<◌}
use mathlib.Core.Path.{◌≡◌, sym, ◌∙◌, ap, subst}
use lib.ListN.{length}
use Rattle.overload.specs.Rows.{Family, of_family, row_at}
use Rattle.overload.specs.inner.Code.{family_of}
use Rattle.overload.proofs.Apart.{family_at}
use Rattle.listing.proofs.Places.{count-is}
use Rattle.listing.proofs.Walk.{few-families, at-start, more, stands-behind, found}
use Rattle.listing.proofs.params.Goals.{At-loop-left, After-at-f}
use Rattle.listing.proofs.params.Goals as goal

pub loop-left-init : goal.loop-left-init
loop-left-init c = at-start c.args.row c.args.j c.requires

-- the row has a family at the place, and it is the one that is read
there : (c : At-loop-left) → c.loop-left.k < length (row_at c.args.row).families
there c = more c.args.row c.args.j c.loop-left.k c.loop-left.left c.loop-left.invariant

module _ (c : After-at-f) (there : c.loop-left.k < length (row_at c.args.row).families) where
  family-is : family_of c.at-f.result.no ≡ family_at c.args.row c.loop-left.k
  family-is =
      let k = c.loop-left.k in
      ap family_of (c.at-f.ensures ∙ ap (λ (s : ℕ). s + k) c.start.ensures)
      ∙ c.at-r.result.read.family k (subst (λ (r : ℕ). k < length (row_at r).families) (sym c.at-r.ensures) there)
      ∙ ap (λ (r : ℕ). family_at r k) c.at-r.ensures

pub overflow_add-start : goal.overflow_add-start
overflow_add-start c = omega (arith, there (goal.at.overflow_add-start c).At-loop-left, few-families c.args.row)

pub in_family-requires : goal.in_family-requires
in_family-requires c = subst (λ (m : ℕ). c.loop-left.left < m) c.count_in-here.ensures c.if-left-here.true

pub returns-then-left-here : goal.returns-then-left-here
returns-then-left-here c =
    let l = c.loop-left in
    let at = goal.at.returns-then-left-here c in
    found c.args.row c.args.j l.k l.left c.at-f.result.no l.invariant (family-is at.After-at-f (there at.At-loop-left)) (subst (λ (m : ℕ). l.left < m) c.count_in-here.ensures c.if-left-here.true) c.in_family.result c.in_family.ensures

pub overflow_add-k : goal.overflow_add-k
overflow_add-k c = omega (arith, there (goal.at.overflow_add-k c).At-loop-left, few-families c.args.row)

pub loop-left-smaller : goal.loop-left-smaller
loop-left-smaller c = omega (arith, there (goal.at.loop-left-smaller c).At-loop-left)

pub loop-left-preserved : goal.loop-left-preserved
loop-left-preserved c =
    let l = c.loop-left in
    let at = goal.at.loop-left-preserved c in
    let e = ap (λ (g : Family). length (of_family g)) (sym (family-is at.After-at-f (there at.At-loop-left))) ∙ count-is c.at-f.result.no ∙ sym c.count_in-here.ensures in
    stands-behind c.args.row c.args.j l.k l.left l.invariant c.count_in-here.result e c.if-left-here.false
