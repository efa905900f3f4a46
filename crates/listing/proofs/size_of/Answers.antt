-- `listing::size_of` meets its contract. Assumes nothing.
use native.Mathlib.Omega.{arith}
use Prim.Native.Nat.{ℕ, ◌/◌, ◌%◌, ◌<◌}
use mathlib.Core.Path.{◌≡◌, sym, ◌∙◌, subst}
use Rattle.overload.specs.inner.Code.{family_of}
use Rattle.listing.specs.inner.Places.{size_in, n_at}
use Rattle.listing.proofs.Lines.{set-count, sizes-count}
use Rattle.listing.proofs.Places.{at_place}
use Rattle.listing.proofs.size_of.Goals.{After-size_in, After-sizes_line-line}
use Rattle.listing.proofs.size_of.Goals as goal

-- its number
size_is : (c : After-size_in) → c.size_in.result ≡ n_at (family_of c.args.f.no) c.args.j
size_is c =
    let e = set-count c.second.ensures.0 c.set_line.ensures in
    let z = sizes-count c.sizes-k.ensures.0 c.sizes_line-line.ensures in
    c.size_in.ensures ∙ (λ i. size_in (c.sizes-k.ensures.0 i) (c.args.j / e i % z i))

small : (c : After-size_in) → c.size_in.result < 41
small c = subst (λ (m : ℕ). m < 41) (sym (size_is c)) (at_place c.args.f.no c.args.j c.requires).small

pub overflow_cast-result : goal.overflow_cast-result
overflow_cast-result c = let e = size_is (goal.at.overflow_cast-result c).After-size_in in let l = small (goal.at.overflow_cast-result c).After-size_in in omega (arith, e, l)

pub returns : goal.returns
returns c = (size_is (goal.at.returns c).After-size_in, small (goal.at.returns c).After-size_in)
