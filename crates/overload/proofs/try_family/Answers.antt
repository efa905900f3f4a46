-- `overload::try_family` meets its contract: each way out is a judgment of the family. Assumes nothing.
use Rattle.std.proofs.Common.{◌≡◌, ℕ, ◌<◌, Bool, T, map, length, sym, ap, ◌∙◌, subst, eq-eqb, ne_eqb}
use Rattle.conv.specs.Rank.{both}
use Rattle.conv.proofs.Answered.{found-nothing, found-it, found-some}
use Rattle.overload.specs.inner.Code.{operand, size_of_no, mem_size, family_of, size_at, bit, has, member, left_t}
use Rattle.overload.proofs.Fitting.{size_of_xs}
use Rattle.overload.proofs.Sieve.{left_set, left-member}
use Rattle.overload.proofs.Resolving.{size_is, count-digit, not-so-many, not-that-size, nowhere, not-at-T, not-at-I, T-small, I-small, it-fits}
use Rattle.overload.proofs.try_family.Goals.{After-at-z, After-left_of-left, After-set_line-2, After-size_at-n, After-sizes_line, Else-wide-xs}
use Rattle.overload.proofs.try_family.Goals as goal

pub returns-then-wide-xs : goal.returns-then-wide-xs
returns-then-wide-xs c = let a = c.args in not-so-many a.f.no a.running a.xs.now (λ e. c.if-wide-xs.true (c.wide.ensures ∙ c.digit.ensures ∙ e))

-- as many operands as parameters
count : (c : Else-wide-xs) → length c.args.xs.now ≡ length (family_of c.args.f.no).params
count c = sym c.if-wide-xs.false ∙ c.wide.ensures ∙ c.digit.ensures ∙ count-digit c.args.f.no

-- the size is that of the operands
size : (c : After-size_at-n) → size_of_no c.size_at-n.result ≡ size_of_xs (family_of c.args.f.no) (map operand c.args.xs.now)
size c =
    let a = c.args in
    let p = c.requires in
    let k = c.sizes-k in
    size_is a.f.no k.result k.ensures.1 k.ensures.0 a.xs.now (subst (λ (k : ℕ). k < 13) p.2 p.0) (subst (λ (k : ℕ). k < 13) p.3 p.1) c.size_at-n.result
    (c.size_at-n.ensures.0 ∙ (λ j. size_at (c.digit-2.ensures j) k.result (p.2 j) (p.3 j)))

-- whether it is one of the family's
listed : (c : After-sizes_line) → bit c.sizes_line.result c.size_at-n.result ≡ mem_size (size_of_no c.size_at-n.result) (family_of c.args.f.no).sizes
listed c =
    c.sizes_line.ensures.within c.size_at-n.result c.size_at-n.ensures.1
    ∙ ap (mem_size (size_of_no c.size_at-n.result)) c.sizes-k.ensures.0

pub returns-then-sizes_line-n-ne1 : goal.returns-then-sizes_line-n-ne1
unfolding bit
returns-then-sizes_line-n-ne1 c =
    let a = c.args in
    let at = goal.at.returns-then-sizes_line-n-ne1 c in
    not-that-size a.f.no a.running a.xs.now c.size_at-n.result (size at.After-size_at-n) (sym (listed at.After-sizes_line) ∙ ne_eqb _ 1 c.if-sizes_line-n-ne1.true)

-- the size that is found, and that it is one of the family's
module _ (c : After-at-z) where
  size-found : size_of_no c.at-z.result.no ≡ size_of_xs (family_of c.args.f.no) (map operand c.args.xs.now)
  size-found =
      let a = c.args in
      let p = c.requires in
      let k = c.sizes-k in
      size_is a.f.no k.result k.ensures.1 k.ensures.0 a.xs.now (subst (λ (k : ℕ). k < 13) p.2 p.0) (subst (λ (k : ℕ). k < 13) p.3 p.1) c.at-z.result.no
      (c.at-z.ensures ∙ c.size_at-n.ensures.0 ∙ (λ j. size_at (c.digit-2.ensures j) k.result (p.2 j) (p.3 j)))

  inside : T (mem_size (size_of_no c.at-z.result.no) (family_of c.args.f.no).sizes)
  unfolding bit
  inside =
      subst (λ (n : ℕ). T (mem_size (size_of_no n) (family_of c.args.f.no).sizes)) (sym c.at-z.ensures)
      (subst T
      (c.sizes_line.ensures.within c.size_at-n.result c.size_at-n.ensures.1
      ∙ ap (mem_size (size_of_no c.size_at-n.result)) c.sizes-k.ensures.0)
      (rw (eq-eqb _ 1 c.if-sizes_line-n-ne1.false) tt))

pub fit-requires : goal.fit-requires
fit-requires c = let at = goal.at.fit-requires c in (inside at.After-at-z, count at.Else-wide-xs)

pub returns-in_err-sets : goal.returns-in_err-sets
returns-in_err-sets c =
    let a = c.args in
    let z = (goal.at.returns-in_err-sets c).After-at-z in
    rw c.from_residual.ensures (nowhere a.f.no a.running a.xs.now c.at-z.result.no (size-found z) (inside z) (λ t i ht hi. c.in_err-sets.ensures t i ht hi))

-- the T that are left
set_is : (c : After-left_of-left) → (t : ℕ) → t < 7 → has c.left_of-left.result t ≡ member t (left_set c.args.running (family_of c.args.f.no).set)
set_is c t h =
    let a = c.args in
    c.left_of-left.ensures.1 t h
    ∙ ap (λ (b : Bool). both b (left_t a.running t)) (c.set_line.ensures.within t h ∙ ap (member t) c.set.ensures.0)
    ∙ sym (left-member a.running t (family_of a.f.no).set)

pub returns-in_err-t : goal.returns-in_err-t
returns-in_err-t c =
    let a = c.args in
    let at = goal.at.returns-in_err-t c in
    rw c.from_residual-in_err-t.ensures
    (not-at-T a.f.no a.running a.xs.now c.at-z.result.no (size-found at.After-at-z) (inside at.After-at-z) _ _ c.in_ok-sets.ensures c.left_of-left.result (set_is at.After-left_of-left)
    (found-nothing _ (sym c.first_of.ensures ∙ c.in_err-t.was)))

second_is : (c : After-set_line-2) → (i : ℕ) → i < 7 → has c.set_line-2.result i ≡ member i (family_of c.args.f.no).second
second_is c i h = c.set_line-2.ensures.within i h ∙ ap (member i) c.second.ensures.0

pub returns-in_err-i : goal.returns-in_err-i
returns-in_err-i c =
    let a = c.args in
    let at = goal.at.returns-in_err-i c in
    rw c.from_residual-in_err-i.ensures
    (not-at-I a.f.no a.running a.xs.now c.at-z.result.no (size-found at.After-at-z) (inside at.After-at-z) _ _ c.in_ok-sets.ensures c.set_line-2.result (second_is at.After-set_line-2)
    (found-nothing _ (sym c.first_of-2.ensures ∙ c.in_err-i.was)))

pub out_of-requires : goal.out_of-requires
out_of-requires c =
    let a = c.args in
    let at = goal.at.out_of-requires c in
    let t = sym c.first_of.ensures ∙ c.in_ok-t.was in
    let i = sym c.first_of-2.ensures ∙ c.in_ok-i.was in (
      inside at.After-at-z,
      T-small a.f.no a.running a.xs.now c.at-z.result.no (size-found at.After-at-z) (inside at.After-at-z) _ _ c.in_ok-sets.ensures c.left_of-left.result c.set_line-2.result (set_is at.After-left_of-left) (second_is at.After-set_line-2) _ _ (sym (found-it _ _ t)) (sym (found-it _ _ i)) (found-some _ _ t) (found-some _ _ i),
      I-small a.f.no a.running a.xs.now c.at-z.result.no (size-found at.After-at-z) (inside at.After-at-z) _ _ c.in_ok-sets.ensures c.left_of-left.result c.set_line-2.result (set_is at.After-left_of-left) (second_is at.After-set_line-2) _ _ (sym (found-it _ _ t)) (sym (found-it _ _ i)) (found-some _ _ t) (found-some _ _ i),
    )

pub returns : goal.returns
returns c =
    let a = c.args in
    let at = goal.at.returns c in
    let t = sym c.first_of.ensures ∙ c.in_ok-t.was in
    let i = sym c.first_of-2.ensures ∙ c.in_ok-i.was in
    it-fits a.f.no a.running a.xs.now c.at-z.result.no (size-found at.After-at-z) (inside at.After-at-z) _ _ c.in_ok-sets.ensures c.left_of-left.result c.set_line-2.result (set_is at.After-left_of-left) (second_is at.After-set_line-2) _ _ (sym (found-it _ _ t)) (sym (found-it _ _ i)) (found-some _ _ t) (found-some _ _ i)
    _ c.out_of.ensures
