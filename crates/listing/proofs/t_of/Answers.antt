-- `listing::t_of` meets its contract. Assumes nothing.
use native.Mathlib.Omega.{arith}
use Prim.Native.Nat.{ℕ, ◌/◌, ◌%◌, ◌<◌}
use mathlib.Core.Path.{sym, subst, transport}
use Rattle.listing.proofs.Lines.{set-count, sizes-count}
use Rattle.listing.proofs.Places.{at_place}
use Rattle.listing.proofs.t_of.Goals.{After-set_line-2}
use Rattle.listing.proofs.t_of.Goals as goal

-- there is a T at the place
within : (c : After-set_line-2) → c.args.j / (c.set_line.result % 8) / (c.sizes_line-sizes.result % 256) < c.set_line-2.result % 8
within c =
    let e = set-count c.second.ensures.0 c.set_line.ensures in
    let z = sizes-count c.sizes.ensures.0 c.sizes_line-sizes.ensures in
    let s = set-count c.set-k.ensures.0 c.set_line-2.ensures in
    transport (λ i. c.args.j / sym e i / sym z i < sym s i) (at_place c.args.f.no c.args.j c.requires).t

pub scalar_in-requires : goal.scalar_in-requires
scalar_in-requires c = let q = within (goal.at.scalar_in-requires c).After-set_line-2 in (
  c.set_line-2.ensures,
  subst (λ (m : ℕ). c.args.j / (c.set_line.result % 8) / (c.sizes_line-sizes.result % 256) < m) c.set_line-2.ensures.count q,
  omega (arith, q),
)
