-- `tplt::param::types_known` meets its contract: what is left is known where the whole is. Assumes nothing.
use mathlib.Core.Path.{◌≡◌, sym, ◌∙◌, ap}
use native.Mathlib.Omega.{arith}
use mathlib.Core.List.{List}
use Prim.Native.Nat.{◌-◌}
use lib.ListN.{length, get_or, take, drop, length-drop}
use lib.Seq.{take_all}
use lib.IntN.{ℤ, pos}
use Rattle.tplt.specs.Params.{is_known, params_of, types_known}
use Rattle.tplt.specs.inner.Steps.{param_at}
use Rattle.tplt.proofs.SignedLaws.{pair-back}
use Rattle.tplt.proofs.ParamLaws.{known-other, known-fails, known_next, known-end}
use borrow.Enum.Refused.{opened}
use Rattle.tplt.proofs.param.types_known.Goals as goal

pub returns-in-NoType : goal.returns-in-NoType
returns-in-NoType c =
    let n = c.args.n in
    let s = c.loop-left.left.now in
    let q : c.param_of-p.result ≡ param_at n s 0 = c.param_of-p.ensures ∙ pair-back n (get_or s 0 (pos 0)) (get_or s 1 (pos 0)) c.param_of-arg-1.given c.param_of-arg-in-len2-up-1.given in
    sym (c.loop-left.invariant ∙ known-fails n s 0 (omega (arith, c.in-len2-up.len_at_least)) (ap is_known (sym q ∙ c.in-NoType.is)))

pub loop-left-preserved : goal.loop-left-preserved
loop-left-preserved c =
    let n = c.args.n in
    let s = c.loop-left.left.now in
    let q : c.param_of-p.result ≡ param_at n s 0 = c.param_of-p.ensures ∙ pair-back n (get_or s 0 (pos 0)) (get_or s 1 (pos 0)) c.param_of-arg-1.given c.param_of-arg-in-len2-up-1.given in
    let rest : take (length s - 2) (drop 2 s) ≡ drop 2 s = take_all (length s - 2) (drop 2 s) (simp length-drop (omega arith)) in
    c.loop-left.invariant ∙ known_next n s 0 (omega (arith, c.in-len2-up.len_at_least)) (ap is_known (sym q) ∙ sym (known-other c.param_of-p.result (opened c.in_default-p.in_default-p-own.keys2)))
    ∙ ap (λ (r : List ℤ). types_known (params_of n r)) (sym rest)

pub returns : goal.returns
returns c = sym (c.loop-left.invariant ∙ known-end c.args.n c.loop-left.left.now 0 (omega (arith, c.in_default.len_below)))
