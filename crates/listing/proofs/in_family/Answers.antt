-- `listing::in_family` meets its contract: the four parameters at the T, the size and the I of the place. Assumes nothing.
use native.Mathlib.Omega.{arith}
use Prim.Native.Nat.{ℕ, ◌<◌}
use mathlib.Core.Path.{sym, ◌∙◌, subst}
use Rattle.overload.specs.inner.Code.{family_of}
use Rattle.listing.specs.inner.Places.{Asked}
use Rattle.listing.proofs.Places.{at_place}
use Rattle.listing.proofs.in_family.Goals.{After-second_of-i}
use Rattle.listing.proofs.in_family.Goals as goal

-- at the size of the place every parameter has a shape
asks : (c : After-second_of-i) (k : ℕ) → k < 4 → Asked (family_of c.args.f.no) c.at-z.result.no k
asks c k h =
    subst (λ (n : ℕ). Asked (family_of c.args.f.no) n k) (sym (c.at-z.ensures ∙ c.size_of.ensures.0)) ((at_place c.args.f.no c.args.j c.requires).asked k h)

pub param-a-requires : goal.param-a-requires
param-a-requires c = (asks (goal.at.param-a-requires c).After-second_of-i 0 (omega arith), c.t_of-t.ensures.1, c.second_of-i.ensures.1, omega arith)

pub param-b-requires : goal.param-b-requires
param-b-requires c = (asks (goal.at.param-b-requires c).After-second_of-i 1 (omega arith), c.t_of-t.ensures.1, c.second_of-i.ensures.1, omega arith)

pub param-c-requires : goal.param-c-requires
param-c-requires c = (asks (goal.at.param-c-requires c).After-second_of-i 2 (omega arith), c.t_of-t.ensures.1, c.second_of-i.ensures.1, omega arith)

pub param-d-requires : goal.param-d-requires
param-d-requires c = (asks (goal.at.param-d-requires c).After-second_of-i 3 (omega arith), c.t_of-t.ensures.1, c.second_of-i.ensures.1, omega arith)
