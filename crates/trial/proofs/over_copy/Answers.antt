-- `trial::over_copy` meets its contract: the part of the room that is handed on is the copy. Assumes nothing.
use Rattle.std.proofs.Common.{ℕ, ◌≡◌, ◌-◌, ◌∙◌, ap, arith, refl, take}
use Rattle.trial.proofs.Alike.{filled}
use Rattle.trial.proofs.over_copy.Goals as goal

pub returns : goal.returns
returns g c =
    let e : c.copied-k.result - 0 ≡ c.copied-k.result = omega arith in
    let shows = filled c.args.words.now _ _ _ c.copied-k.ensures (c.copy_from_slice.ensures.after ∙ ap (λ (j : ℕ). take j c.args.words.now) e) in
    (c.call.result, c.call.new.arg2, record { shown = _; shows = shows; left = _; met = c.call.ensures; leaves = refl }, refl)
