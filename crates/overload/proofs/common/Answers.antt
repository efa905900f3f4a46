-- `overload::common` meets its contract: the join of two plain numbers of a width, by the table of common types. Assumes nothing.
use Rattle.std.proofs.Common.{◌≡◌, ℕ, ◌+◌, ◌-◌, ◌/◌, ◌<◌, sym, ap, ◌∙◌, ⊎_elim, arith}
use Rattle.conv.specs.Rank.{common_of, accepts}
use Rattle.conv.proofs.Ranks.{common-width}
use Rattle.conv.proofs.Answered.{found-nothing, found-it, found-some}
use Rattle.overload.proofs.Slots.{plain-accepts, none-accepts, common-reaches}
use Rattle.overload.proofs.common.Goals.{In_ok-r}
use Rattle.overload.proofs.common.Goals as goal

pub returns-in_err-r : goal.returns-in_err-r
returns-in_err-r c =
    let b = c.base_of-base.ensures in
    rw c.from_residual.ensures
    (λ t h.
    sym (common-reaches _ c.args.j c.args.s t b.0 b.1 c.requires.0 c.requires.1 h)
    ∙ ap (λ (k : ℕ). accepts k t) (found-nothing _ (sym c.convert_ty.ensures ∙ c.in_err-r.was))
    ∙ none-accepts t)

-- the common type that is found
it_is : (c : In_ok-r) → common_of (c.base_of-base.result + c.args.j) (c.base_of-base.result + c.args.s) ≡ c.in_ok-r.r
it_is c = found-it _ _ (sym c.convert_ty.ensures ∙ c.in_ok-r.was)

-- a common type is of the width
plain : (c : In_ok-r) → (c.in_ok-r.r < 28) × (c.in_ok-r.r / 7 ≡ (c.base_of-base.result + c.args.j) / 7)
plain c =
    let base = c.base_of-base.result in
    let b = c.base_of-base.ensures in
    let r = sym (it_is c) in
    ⊎_elim (λ e. absurd (found-some _ _ (sym c.convert_ty.ensures ∙ c.in_ok-r.was) (r ∙ e))) (λ q. (rw r q.0, rw r q.1))
    (common-width (base + c.args.j) (base + c.args.s) (omega arith) (omega arith) (omega arith))

pub overflow_sub-result : goal.overflow_sub-result
overflow_sub-result c = let q = (plain (goal.at.overflow_sub-result c).In_ok-r).1 in let b = c.base_of-base.ensures.1 in omega arith

pub returns : goal.returns
returns c =
    let b = c.base_of-base.ensures in
    let l = (plain (goal.at.returns c).In_ok-r).0 in
    let q = (plain (goal.at.returns c).In_ok-r).1 in
    let r = c.in_ok-r.r in
    let base = c.base_of-base.result in (
      omega arith,
      λ t h.
          sym (plain-accepts r (r - base) t l (omega arith))
          ∙ ap (λ (k : ℕ). accepts k t) (sym (it_is (goal.at.returns c).In_ok-r))
          ∙ common-reaches _ c.args.j c.args.s t b.0 b.1 c.requires.0 c.requires.1 h,
    )
