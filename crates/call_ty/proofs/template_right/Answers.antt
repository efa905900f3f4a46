-- `call_ty::template_right` meets its contract: the laws of Ways on the template list. Assumes nothing.
use Prim.Native.Nat.{ℕ}
use mathlib.Core.List.{List}
use mathlib.Core.Path.{◌≡◌, sym, ◌∙◌, ap}
use native.Mathlib.Omega.{arith}
use Rattle.conv.specs.Types.{Ty}
use Rattle.overload.specs.inner.Code.{code_of}
use Rattle.table.specs.Denote.{type_at}
use Rattle.names.specs.inner.Table.{meant}
use Rattle.names.specs.declared.Rule.TheVariants as code
use Rattle.call_ty.specs.Calls.{template_right}
use Rattle.call_ty.proofs.Ways.{template-none, template-count, template-one}
use Rattle.call_ty.proofs.template_right.Goals as goal

by : (r s : code.the_data) (ts : List Ty) → r ≡ s → template_right (meant s) ts ≡ template_right (meant r) ts
by r s ts e = sym (ap (λ (x : code.the_data). template_right (meant x) ts) e)

pub code_at-requires : goal.code_at-requires
code_at-requires c = let e = c.word.ensures in let k = c.in-Bitcast-len1.len_at_least in let l = c.requires.1 0 (omega arith) in (c.requires.0, omega arith)

pub returns-in-Bitcast-len1 : goal.returns-in-Bitcast-len1
unfolding meant
returns-in-Bitcast-len1 c = let a = c.args in
    let i = c.in-Bitcast-len1 in
    c.numeric_code.ensures
    ∙ template-one a.words.now a.tplt.now a.n c.requires.0 c.requires.1 (omega (arith, i.len_at_least, i.len_below)) _ (c.code_at.ensures ∙ ap (λ (k : ℕ). code_of (type_at a.words.now k)) c.word.ensures)
    ∙ by _ _ _ i.is-0

pub returns-in-Bitcast-default : goal.returns-in-Bitcast-default
unfolding meant
returns-in-Bitcast-default c = let a = c.args in template-count a.words.now a.tplt.now (λ e. omega (arith, c.in-Bitcast-default.len_below)) ∙ by _ _ _ c.in-Bitcast-default.is-0

pub returns-in-Bitcast-default-2 : goal.returns-in-Bitcast-default-2
unfolding meant
returns-in-Bitcast-default-2 c = let a = c.args in template-count a.words.now a.tplt.now (λ e. omega (arith, c.in-Bitcast-default.len_at_least)) ∙ by _ _ _ c.in-Bitcast-default.is-0

pub returns-in_default : goal.returns-in_default
returns-in_default c = let a = c.args in c.is_empty.ensures ∙ template-none a.words.now a.tplt.now a.rule c.in_default.not-Bitcast-0
