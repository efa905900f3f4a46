-- `overload::join` meets its contract. Assumes nothing.
use Rattle.std.proofs.Common.{◌≡◌, ℕ, sym, refl, subst, arith}
use Rattle.conv.specs.Rank.{both}
use Rattle.overload.specs.inner.Code.{reaches}
use Rattle.overload.proofs.Slots.{both-same}
use Rattle.overload.proofs.join.Goals as goal

pub returns-then-j-s : goal.returns-then-j-s
returns-then-j-s c =
    let s = c.requires.1 in
    let j = c.in-Some.j in
    (omega arith, λ t h. rw c.in-Some.is (subst (λ (k : ℕ). reaches j t ≡ both (reaches j t) (reaches k t)) c.if-j-s.true (sym (both-same (reaches j t)))))

pub returns-in-None : goal.returns-in-None
unfolding both
returns-in-None c = (c.requires.1, λ t h. rw c.in-None.is refl)
