-- `overload::resolve` meets its contract: its judgment meets demand 3, and so is the one that the definition gives. The loop carries `Passed`: the families that are tried so far do not fit.
-- Assumes nothing.
use Rattle.std.proofs.Common.{◌≡◌, ℕ, ◌+◌, ◌*◌, ◌/◌, ◌<◌, ◌≤◌, length, map, List, sym, refl, ⊎_elim, ◌≢◌, ap, ◌∙◌, subst, arith}
use Rattle.std.specs.Prelude.{Option, unwrap_or, slice_get, slice_index}
use Rattle.std.proofs.lemmas.Option.{unwrap_or-slice_get}
use Rattle.conv.specs.Rank.{form_of}
use Rattle.overload.specs.Overload.{Resolved, listed}
use Rattle.overload.specs.Marks.{passing}
use Rattle.overload.specs.Rows.{Family, of_family, row_at}
use Rattle.overload.specs.inner.Code.{shape_of_no, operand, place_of, placed, no_place, forms_of, stop_of, family_of, kept, judged_of}
use Rattle.overload.specs.declared.Out.{Out}
use Rattle.overload.proofs.Apart.{family_at}
use Rattle.overload.proofs.Marks.{kept-is}
use Rattle.overload.proofs.Resolving.{first-apart, last_apart, no_place_lem, stop-there, pass, all-tried, family-judges, placed-nothing, placed-it, placed-some}
use Rattle.overload.proofs.resolve.Goals.{After-place, In_ok-k, After-try_family}
use Rattle.overload.proofs.resolve.Goals as goal

-- the shapes of the operands at the ends
end_is : (xs : List ℕ) (i : ℕ) (x : Option ℕ) (r : ℕ) → r ≡ unwrap_or x 0 / 7 → x ≡ slice_get xs i → r ≡ slice_index xs i / 7
end_is xs i x r e g = e ∙ ap (λ (x : Option ℕ). unwrap_or x 0 / 7) g ∙ ap (λ (x : ℕ). x / 7) (unwrap_or-slice_get xs i 0)

pub returns-then-a-ge-SHAPES : goal.returns-then-a-ge-SHAPES
returns-then-a-ge-SHAPES c =
    let a = c.args in
    let s = end_is a.xs.now 0 _ _ c.shape_or_scalar-a.ensures (c.copied.ensures ∙ c.first.ensures.value) in
    let t = end_is a.xs.now _ _ _ c.shape_or_scalar-b.ensures (c.copied-2.ensures ∙ c.last.ensures.value) in
    kept-is a.row a.running _ _
    (⊎_elim (λ l. first-apart a.row a.running a.xs.now (subst (λ (n : ℕ). 13 ≤ n) s l)) (λ l. last_apart a.row a.running a.xs.now (subst (λ (n : ℕ). 13 ≤ n) t l.1)) c.then-a-ge-SHAPES.either)

-- where the first family that may fit is, at the forms of the operands
place_is : (c : After-place) → c.place.result ≡ placed (place_of (forms_of c.args.xs.now) (row_at c.args.row).families 0)
place_is c =
    let xs = c.args.xs.now in
    let s = c.form_of.ensures.0 ∙ ap (λ (k : ℕ). form_of (shape_of_no k)) (end_is xs 0 _ _ c.shape_or_scalar-a.ensures (c.copied.ensures ∙ c.first.ensures.value)) in
    let t = c.form_of-2.ensures.0 ∙ ap (λ (k : ℕ). form_of (shape_of_no k)) (end_is xs _ _ _ c.shape_or_scalar-b.ensures (c.copied-2.ensures ∙ c.last.ensures.value)) in
    c.place.ensures.value ∙ (λ i. placed (place_of (3 * s i + t i) (row_at (c.at-r.ensures i)).families 0))

pub returns-in_err-k : goal.returns-in_err-k
returns-in_err-k c =
    let a = c.args in
    let e = placed-nothing _ (sym (place_is (goal.at.returns-in_err-k c).After-place) ∙ c.in_err-k.was) in
    rw c.from_residual.ensures (kept-is a.row a.running _ _ (no_place_lem a.row a.running a.xs.now _ refl e))

-- the families that are tried
module _ (c : After-try_family) (place : c.place.result ≡ placed (place_of (forms_of c.args.xs.now) (row_at c.args.row).families 0)) where
  k_is : c.in_ok-k.k ≡ place_of (forms_of c.args.xs.now) (row_at c.args.row).families 0
  k_is = sym (placed-it _ _ (sym place ∙ c.in_ok-k.was))

  k-some : c.in_ok-k.k ≢ no_place
  k-some = placed-some _ _ (sym place ∙ c.in_ok-k.was)

  within : c.loop-j.j < length (row_at c.args.row).families
  within =
      let a = c.args in
      stop-there a.row a.running a.xs.now c.in_ok-k.k k_is k-some c.stop.result (c.stop.ensures ∙ ap (λ (r : ℕ). stop_of (row_at r).families) c.at-r.ensures) c.loop-j.j
      (subst (λ (n : ℕ). c.loop-j.j < n) c.max-j-end.ensures c.loop-j-test.true)

  -- the family at a place of the row
  family_is : family_of c.at.result.no ≡ family_at c.args.row c.loop-j.j
  family_is =
      let j = c.loop-j.j in
      ap family_of (c.at.ensures ∙ ap (λ (s : ℕ). s + j) c.start.ensures)
      ∙ c.at-r.result.read.family j (subst (λ (r : ℕ). j < length (row_at r).families) (sym c.at-r.ensures) within)
      ∙ ap (λ (r : ℕ). family_at r j) c.at-r.ensures

  judged : Resolved (passing (kept c.args.running) (listed (of_family (family_at c.args.row c.loop-j.j)))) (map operand c.args.xs.now) (judged_of c.try_family.result)
  judged =
      subst (λ (f : Family). Resolved (passing (kept c.args.running) (listed (of_family f))) (map operand c.args.xs.now) (judged_of c.try_family.result)) family_is
      c.try_family.ensures

pub returns-in-Some : goal.returns-in-Some
returns-in-Some c =
    let a = c.args in
    let at = goal.at.returns-in-Some c in
    let place = place_is at.After-place in
    let j = c.loop-j.j in
    kept-is a.row a.running _ _
    (family-judges a.row a.running a.xs.now j (within at.After-try_family place) c.in-Some.out
    (subst (λ (r : Option Out). Resolved (passing (kept a.running) (listed (of_family (family_at a.row j)))) (map operand a.xs.now) (judged_of r)) c.in-Some.is (judged at.After-try_family place)))

pub loop-j-preserved : goal.loop-j-preserved
unfolding judged_of
loop-j-preserved c =
    let a = c.args in
    let at = goal.at.loop-j-preserved c in
    let place = place_is at.After-place in
    let j = c.loop-j.j in
    pass a.row a.running a.xs.now c.in_ok-k.k (k_is at.After-try_family place) j c.loop-j.invariant
    (subst (λ (r : Option Out). Resolved (passing (kept a.running) (listed (of_family (family_at a.row j)))) (map operand a.xs.now) (judged_of r)) c.in_default.is (judged at.After-try_family place))

pub returns : goal.returns
returns c =
    let a = c.args in
    let p = sym (place_is (goal.at.returns c).After-place) ∙ c.in_ok-k.was in
    kept-is a.row a.running _ _
    (all-tried a.row a.running a.xs.now c.in_ok-k.k (sym (placed-it _ _ p)) (placed-some _ _ p) c.stop.result (c.stop.ensures ∙ ap (λ (r : ℕ). stop_of (row_at r).families) c.at-r.ensures)
    (λ l b h. c.loop-j.invariant l b (omega (arith, c.max-j-end.ensures, c.loop-j-test.false))))
