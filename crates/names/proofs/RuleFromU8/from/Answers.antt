-- `names::Rule::from` meets its contract: each number is that of its rule. Assumes nothing.
use mathlib.Core.Path.{sym}
use native.Mathlib.Omega.{arith}
use Rattle.names.specs.inner.Table.{meant}
use Rattle.names.proofs.Rules.{numbered-row, numbered-bitcast, numbered-length, numbered-load, numbered-update, numbered-store, numbered-compare, numbered-uniform, numbered-barrier}
use Rattle.names.proofs.RuleFromU8.from.Goals as goal

pub returns-in-100 : goal.returns-in-100
unfolding meant
returns-in-100 c = sym (numbered-bitcast c.args.number c.in-100.is)

pub returns-in-101 : goal.returns-in-101
unfolding meant
returns-in-101 c = sym (numbered-length c.args.number c.in-101.is)

pub returns-in-104 : goal.returns-in-104
unfolding meant
returns-in-104 c = sym (numbered-load c.args.number c.in-104.is)

pub returns-in-105 : goal.returns-in-105
unfolding meant
returns-in-105 c = sym (numbered-update c.args.number c.in-105.is)

pub returns-in-106 : goal.returns-in-106
unfolding meant
returns-in-106 c = sym (numbered-store c.args.number c.in-106.is)

pub returns-in-107 : goal.returns-in-107
unfolding meant
returns-in-107 c = sym (numbered-compare c.args.number c.in-107.is)

pub returns-in-108 : goal.returns-in-108
unfolding meant
returns-in-108 c = sym (numbered-uniform c.args.number c.in-108.is)

pub returns-in_default : goal.returns-in_default
unfolding meant
returns-in_default c = sym (numbered-row c.args.number c.if-row-lt-RULE_BITCAST.true)

pub returns-in_default-2 : goal.returns-in_default-2
unfolding meant
returns-in_default-2 c = let n = c.in_default in sym (numbered-barrier c.args.number c.if-row-lt-RULE_BITCAST.false (λ e. omega arith) (λ e. omega arith) (λ e. omega arith) (λ e. omega arith) (λ e. omega arith) (λ e. omega arith) (λ e. omega arith))
