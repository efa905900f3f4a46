-- `broken::first_wanted` meets its contract, rule by rule. Assumes nothing.
use native.Mathlib.Omega.{arith}
use Rattle.text.specs.Text.{ascii}
use Rattle.reasons.specs.Reasons.{first_wanted}
use Rattle.broken.proofs.Rules.{ruling-length, ruling-load, ruling-address, ruling-indirection, wants-atomic}
use Rattle.broken.proofs.first_wanted.Goals as goal

pub returns-in-109-clause-wanted : goal.returns-in-109-clause-wanted
unfolding ascii first_wanted
returns-in-109-clause-wanted c = λ h. rw (ruling-address c.args.rule c.in-109.is)

pub returns-in-110-clause-wanted : goal.returns-in-110-clause-wanted
unfolding ascii first_wanted
returns-in-110-clause-wanted c = λ h. rw (ruling-indirection c.args.rule c.in-110.is)

pub returns-in-101-clause-wanted : goal.returns-in-101-clause-wanted
unfolding ascii first_wanted
returns-in-101-clause-wanted c = λ h. rw (ruling-length c.args.rule c.in-101.is)

pub returns-in-108-clause-wanted : goal.returns-in-108-clause-wanted
unfolding ascii first_wanted
returns-in-108-clause-wanted c = λ h. rw (ruling-load c.args.rule c.in-108.is)

pub returns-in_default-clause-wanted : goal.returns-in_default-clause-wanted
unfolding ascii
returns-in_default-clause-wanted c = λ h. let d = c.in_default in rw (wants-atomic c.args.rule h (λ e. omega (arith, e, d)) (λ e. omega (arith, e, d)) (λ e. omega (arith, e, d)) (λ e. omega (arith, e, d)))
