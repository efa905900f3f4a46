-- `broken::broken_line` meets its contract. Assumes nothing.
use Prim.Native.Nat.{ℕ, ◌<◌}
use mathlib.Core.Path.{sym, ◌∙◌, ap, subst}
use native.Mathlib.Omega.{arith}
use lib.ListN.{length}
use Rattle.text.proofs.Puts.{put_as}
use Rattle.table.specs.Denote.{type_at}
use Rattle.overload.specs.Rows.{values}
use Rattle.call_ty.proofs.Lists.{others, others_below}
use Rattle.memory.proofs.Fitting.{pointed_by, pointed-none}
use Rattle.weigh.specs.Weigh.{first_miss}
use Rattle.reasons.specs.Reasons.{value_line}
use Rattle.broken.proofs.Rules.{points}
use Rattle.broken.proofs.Refused.{first_ty, other_tys, some, first_under, first-formed, few, line-alone, line_first, line-value, value-place}
use Rattle.broken.proofs.broken_line.Goals as goal

pub bounds-args-0 : goal.bounds-args-0
bounds-args-0 c = let a = c.args in let p = c.requires in omega (arith, some a.words.now a.n a.rule a.args.now p.0 p.1)

pub first_line-requires : goal.first_line-requires
first_line-requires c = let a = c.args in let p = c.requires in (p.0.sound, first_under a.words.now a.n a.rule a.args.now p.0 p.1, p.1, p.2)

pub returns-then-is_alone : goal.returns-then-is_alone
returns-then-is_alone c = let a = c.args in let p = c.requires in record { put = put_as (line-alone a.words.now a.n a.rule a.args.now p.0 p.1 (sym c.is_alone.ensures ∙ c.if-is_alone.true)) c.first_line.ensures.put; upper_bound = c.first_line.ensures.upper_bound }

pub pointed-requires : goal.pointed-requires
pointed-requires c = let a = c.args in let p = c.requires in (p.0.sound, omega (arith, c.number.ensures, first_under a.words.now a.n a.rule a.args.now p.0 p.1))

pub slice_bounds-value_line-count : goal.slice_bounds-value_line-count
slice_bounds-value_line-count c = let a = c.args in let p = c.requires in omega (arith, some a.words.now a.n a.rule a.args.now p.0 p.1)

pub slice_bounds-value_line-start : goal.slice_bounds-value_line-start
slice_bounds-value_line-start c = let a = c.args in let p = c.requires in omega (arith, some a.words.now a.n a.rule a.args.now p.0 p.1)

pub value_line-requires : goal.value_line-requires
value_line-requires c =
    let a = c.args in
    let p = c.requires in
    let e = c.pointed.ensures ∙ ap (λ (i : ℕ). pointed_by (type_at a.words.now i)) c.number.ensures in
    let q = points (first_ty a.words.now a.n a.rule a.args.now p.0 p.1) (first-formed a.words.now a.n a.rule a.args.now p.0 p.1) c.in-Some.s (sym e ∙ c.in-Some.is) in (
      p.0.sound,
      others_below a.args.now (some a.words.now a.n a.rule a.args.now p.0 p.1) a.n p.0.under,
      few a.words.now a.n a.rule a.args.now p.0 p.1,
      q.2,
      subst (λ (s : ℕ). first_miss (values (length (others a.args.now)) s) (other_tys a.words.now a.n a.rule a.args.now p.0 p.1) < length (others a.args.now)) (sym q.1) (value-place a.words.now a.n a.rule a.args.now p.0 p.1 (sym c.is_alone.ensures ∙ c.if-is_alone.false) q.0),
      p.2,
    )

pub first_line-requires-in-None : goal.first_line-requires-in-None
first_line-requires-in-None c = let a = c.args in let p = c.requires in (p.0.sound, first_under a.words.now a.n a.rule a.args.now p.0 p.1, p.1, p.2)

pub returns-in-Some-clause-put : goal.returns-in-Some-clause-put
returns-in-Some-clause-put c =
    let a = c.args in
    let p = c.requires in
    let e = c.pointed.ensures ∙ ap (λ (i : ℕ). pointed_by (type_at a.words.now i)) c.number.ensures in
    let q = points (first_ty a.words.now a.n a.rule a.args.now p.0 p.1) (first-formed a.words.now a.n a.rule a.args.now p.0 p.1) c.in-Some.s (sym e ∙ c.in-Some.is) in
    put_as
    (ap (λ (s : ℕ). value_line (length (others a.args.now)) s (other_tys a.words.now a.n a.rule a.args.now p.0 p.1)) q.1 ∙ line-value a.words.now a.n a.rule a.args.now p.0 p.1 (sym c.is_alone.ensures ∙ c.if-is_alone.false) q.0)
    c.value_line.ensures.put

pub returns-in-None-clause-put : goal.returns-in-None-clause-put
returns-in-None-clause-put c =
    let a = c.args in
    let p = c.requires in
    let e = c.pointed.ensures ∙ ap (λ (i : ℕ). pointed_by (type_at a.words.now i)) c.number.ensures in
    put_as
    (line_first a.words.now a.n a.rule a.args.now p.0 p.1 (sym c.is_alone.ensures ∙ c.if-is_alone.false) (pointed-none (first_ty a.words.now a.n a.rule a.args.now p.0 p.1) (sym e ∙ c.in-None.is)))
    c.first_line-in-None.ensures.put
