-- `entering::enter_two` meets its contract: the container alone, or both. Assumes nothing.
use mathlib.Core.Path.{◌≡◌, sym, ◌∙◌}
use native.Mathlib.Omega.{arith}
use Rattle.table.specs.Enter.{container}
use Rattle.table.proofs.SoundLaws.{find_at}
use Rattle.table.proofs.EnterCases.{two-found}
use Rattle.entering.proofs.enter_two.Goals as goal

pub container_of-requires : goal.container_of-requires
container_of-requires c =
    let a = c.args in
    let t = find_at a.words.now a.inner a.n _ (sym c.find.ensures ∙ c.in-Some.is) in
    omega (arith, t.0, c.requires.high)

pub returns-in-Some : goal.returns-in-Some
returns-in-Some c =
    let a = c.args in
    let o : c.container_of.result ≡ container a.outer c.in-Some.t.0 = c.container_of.ensures in
    two-found a.words.now a.n a.inner a.outer _ (sym c.find.ensures ∙ c.in-Some.is) _ _ (rw o at c.enter.ensures)
