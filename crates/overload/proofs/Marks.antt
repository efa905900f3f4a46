-- K3 over the rows. At an overload of a family its parameters are abstract exactly where they follow T and T is abstract, so what K3 drops goes by T. Where an operand is running,
-- and none is both running and abstract, the fitting overloads that remain are those without an abstract parameter: what the engine looks for. With const operands nothing is
-- dropped. What is dropped never leaves a call without a fitting overload that had one. Assumes nothing.
use Rattle.std.proofs.Common.{◌≡◌, ℕ, ◌<◌, Bool, true, false, cond, not, T, eqb, ltb, List, [], ◌∷◌, map, length, sym, refl, ap, ◌∙◌, subst, ap₂, ⊎_elim, arith, T_not, ltb-false, ltb-true}
use mathlib.Core.List.{Memᴰ}
use Rattle.conv.specs.Types.{Ty, is_abstract, abstract_ty, exponent}
use Rattle.conv.specs.Types.Ty.{scalar, vec, mat, array, runtime, atomic, ptr, ref, frexp, modf, exchange}
use Rattle.conv.specs.Rank.{pick, both, none, rank_of, Shape, form_of, shape_of, component_of, same_shape, by_component, same_ty, conversion_rank, converts, made}
use Rattle.conv.specs.Rank.Shape.{one, vector, matrix, other}
use Rattle.conv.proofs.Finite.{both_left, both_right, both-pair, implies, modus, below₂}
use Rattle.conv.proofs.Ranks.{rank-to}
use Rattle.conv.proofs.Made.{same-ty}
use Rattle.overload.specs.Overload.{Overload, or, fits, listed, Judged, Resolved, judge}
use Rattle.overload.specs.Marks.{any_running, any_abstract, dropped, remains, passing, sifted, remaining, remaining_in, running_abstract}
use Rattle.overload.specs.Rows.{Size, Component, Pattern, Family, Row, form_at, component_at, pattern_ty, overload, of_family, rows, no_row, row_at, overloads_of, of_row, judge_row}
use Rattle.overload.specs.Rows.Component.{of_t, of_i, exp_t, just}
use Rattle.overload.specs.inner.Code.{member, reaches, no_family, family_of, families, kept, judge_kept}
use Rattle.overload.proofs.Preference.{Sized, fine, all_fine, some, or_cases, or_left, or_right, Settled, same-resolved, same-settled, slot-cost, pick-test, pick-rank, from-small}
use Rattle.overload.proofs.Families.{Good, good-in, every, every-at, every-member, joined-every}
use Rattle.overload.proofs.Listing.{Of, of-family, to-family, listed_of, to-listed}
use Rattle.overload.proofs.Sieve.{ByT, to-sifted, of-sifted, all-sifted}
use Rattle.overload.proofs.Apart.{family_at, some-preferred}
use Rattle.overload.proofs.Judge.{judge-resolved, judge-is}

-- WHERE A PARAMETER IS ABSTRACT

-- it follows T; it is abstract at no T, or follows it
follows : Component → Bool
follows of_t = true
follows of_i = false
follows exp_t = true
follows (just s) = false

steady : Component → Bool
steady of_t = true
steady of_i = true
steady exp_t = true
steady (just s) = not (is_abstract s)

made-abstract : (q : Shape) (s : ℕ) → abstract_ty (made q s) ≡ is_abstract s
unfolding abstract_ty made
made-abstract one s = refl
made-abstract (vector n) s = refl
made-abstract (matrix c r) s = refl
made-abstract other s = refl

exponent-abstract : (t : ℕ) → is_abstract (exponent t) ≡ is_abstract t
exponent-abstract t = go (is_abstract t)
  where
    go : (b : Bool) → is_abstract (cond b 1 3) ≡ b
    go true = refl
    go false = refl

not-false : (b : Bool) → T (not b) → b ≡ false
not-false true h = absurd h
not-false false h = refl

component-abstract : (c : Component) (t i : ℕ) → T (steady c) → is_abstract i ≡ false → is_abstract (component_at c t i) ≡ both (follows c) (is_abstract t)
unfolding component_at steady follows both
component-abstract of_t t i h e = refl
component-abstract of_i t i h e = e
component-abstract exp_t t i h e = exponent-abstract t
component-abstract (just s) t i h e = not-false (is_abstract s) h

-- of a list of parameters

abbrev steady_p : Pattern → Bool
steady_p p = steady p.of

both-none : (a : Bool) → false ≡ both a false
unfolding both
both-none true = refl
both-none false = refl

either : (a f r : Bool) → or (both f a) (both a r) ≡ both a (or f r)
unfolding both or
either true true r = refl
either true false r = refl
either false true r = refl
either false false r = refl

module _ (z : Size) (t i : ℕ) (e : is_abstract i ≡ false) where
  param-abstract : (p : Pattern) → T (steady_p p) → abstract_ty (pattern_ty z t i p) ≡ both (follows p.of) (is_abstract t)
  param-abstract p h = made-abstract (form_at p.form z) (component_at p.of t i) ∙ component-abstract p.of t i h e

  any-abstract : (ps : List Pattern) → T (every steady_p ps) → any_abstract (map (pattern_ty z t i) ps) ≡ both (is_abstract t) (some follows ps)
  unfolding any_abstract every
  any-abstract [] h = both-none (is_abstract t)
  any-abstract (p ∷ ps) h =
      ap₂ or (param-abstract p (both_left _ _ h)) (any-abstract ps (both_right (steady_p p) _ h)) ∙ either (is_abstract t) (follows p.of) (some follows ps)

-- so what is dropped goes by T

unfoldable dropped_at : List Pattern → List Bool → Bool
dropped_at [] ms = false
dropped_at (p ∷ ps) [] = false
dropped_at (p ∷ ps) (m ∷ ms) = or (both (follows p.of) (any_running ms)) (or (both m (some follows ps)) (dropped_at ps ms))

gathered : (a f r m s d : Bool) → or (both (both f a) r) (or (both m (both a s)) (both a d)) ≡ both a (or (both f r) (or (both m s) d))
unfolding both or
gathered true true r m s d = refl
gathered true false r m s d = refl
gathered false true r true s d = refl
gathered false true r false s d = refl
gathered false false r true s d = refl
gathered false false r false s d = refl

dropped-at : (z : Size) (t i : ℕ) (e : is_abstract i ≡ false) (ps : List Pattern) (ms : List Bool) → T (every steady_p ps) → dropped (map (pattern_ty z t i) ps) ms ≡ both (is_abstract t) (dropped_at ps ms)
unfolding dropped dropped_at every
dropped-at z t i e [] ms h = both-none (is_abstract t)
dropped-at z t i e (p ∷ ps) [] h = both-none (is_abstract t)
dropped-at z t i e (p ∷ ps) (m ∷ ms) h =
    let k = both_right (steady_p p) _ h in
    (λ j. or (both (param-abstract z t i e p (both_left _ _ h) j) (any_running ms)) (or (both m (any-abstract z t i e ps k j)) (dropped-at z t i e ps ms k j)))
    ∙ gathered (is_abstract t) (follows p.of) (any_running ms) m (some follows ps) (dropped_at ps ms)

-- EVERY FAMILY: computed over all rows. Its I and its fixed parameters are concrete; a parameter follows T, or every T is concrete; and beside an abstract T stands the concrete one
-- that all that converts to it converts to first

concrete_s : ℕ → Bool
concrete_s s = not (is_abstract s)

stand_in : ℕ → ℕ
stand_in t = pick (eqb t 1) 3 5

stood : List ℕ → ℕ → Bool
stood set t = implies (is_abstract t) (member (stand_in t) set)

mark_test : Family → Bool
mark_test f =
    both (every concrete_s f.second)
    (both (every steady_p f.params) (both (or (some follows f.params) (every concrete_s f.set)) (every (stood f.set) f.set)))

row_test : Row → Bool
row_test r = every mark_test r.families

computed : T (every row_test rows)
unfolding row_test mark_test concrete_s steady follows stood stand_in member every implies both or rows row_at
computed = tt

none-there : T (mark_test no_family)
unfolding mark_test every both or
none-there = tt

no_rows : T (row_test no_row)
unfolding row_test every
no_rows = tt

record Marked (f : Family) : Type 0 where
  second : (i : ℕ) → T (member i f.second) → is_abstract i ≡ false
  fixed : T (every steady_p f.params)
  following : T (or (some follows f.params) (every concrete_s f.set))
  beside : (t : ℕ) → T (member t f.set) → T (is_abstract t) → T (member (stand_in t) f.set)

marked-of : (f : Family) → T (mark_test f) → Marked f
unfolding mark_test concrete_s stood
marked-of f h =
    let h₁ = both_right (every concrete_s f.second) _ h in
    let h₂ = both_right (every steady_p f.params) _ h₁ in
    let h₃ = both_right (or (some follows f.params) (every concrete_s f.set)) _ h₂ in
    record {
      second = λ i m. not-false (is_abstract i) (every-member concrete_s f.second (both_left _ _ h) i m);
      fixed = both_left _ _ h₁;
      following = both_left _ _ h₂;
      beside = λ t m a. modus _ _ (every-member (stood f.set) f.set h₃ t m) a;
    }

marked-in : (row k : ℕ) → Marked (family_at row k)
unfolding row_at row_test
marked-in row k =
    marked-of (family_at row k) (every-at mark_test no_family (row_at row).families none-there (every-at row_test no_row rows no_rows computed row) k)

marked : (f : ℕ) → Marked (family_of f)
unfolding family_of families row_test
marked f = marked-of (family_of f) (every-at mark_test no_family families none-there (joined-every mark_test rows computed) f)

-- BOTH TESTS GO BY T

sure : (a s : Bool) → T s → both a s ≡ a
unfolding both
sure true true h = refl
sure false true h = refl
sure a false h = absurd h

unsure : (a s : Bool) → a ≡ false → both a s ≡ a
unfolding both
unsure a s e = ap (λ (x : Bool). both x s) e ∙ sym e

not-both : (a d : Bool) → not (both a d) ≡ or (not d) (not a)
unfolding both or
not-both true true = refl
not-both true false = refl
not-both false true = refl
not-both false false = refl

module _ (f : Family) (k : Marked f) where
  kept-T : (running : Bool) → ByT (kept running) f running
  unfolding concrete_s
  kept-T running t i z mt mi mz =
      ap (λ (a : Bool). or (not running) (not a))
      (any-abstract z t i (k.second i mi) f.params k.fixed
      ∙ ⊎_elim (λ s. sure (is_abstract t) (some follows f.params) s) (λ c. unsure (is_abstract t) (some follows f.params) (not-false (is_abstract t) (every-member concrete_s f.set c t mt)))
      (or_cases (some follows f.params) _ k.following))

  remains-T : (ms : List Bool) → ByT (remains ms) f (dropped_at f.params ms)
  remains-T ms t i z mt mi mz =
      ap not (dropped-at z t i (k.second i mi) f.params ms k.fixed) ∙ not-both (is_abstract t) (dropped_at f.params ms)

pub kept_of : (running : Bool) (f : ℕ) → ByT (kept running) (family_of f) running
kept_of running f = kept-T (family_of f) (marked f) running

pub kept_in : (running : Bool) (row k : ℕ) → ByT (kept running) (family_at row k) running
kept_in running row k = kept-T (family_at row k) (marked-in row k) running

-- the judgment that the engine gives is the one over what it looks at

module _ (g : Overload → Bool) (os : List Overload) (ts : List Ty) where
  pub sifted-resolved : Settled (passing g (listed os)) ts → Resolved (passing g (listed os)) ts (judge (sifted g os) ts)
  sifted-resolved s =
      same-resolved (listed (sifted g os)) (passing g (listed os)) ts (λ p f m. of-sifted g os p m) (λ p f m. to-sifted g os p m) (judge (sifted g os) ts)
      (judge-resolved (sifted g os) ts (same-settled (passing g (listed os)) (listed (sifted g os)) ts (λ p f m. to-sifted g os p m) (λ p f m. of-sifted g os p m) s))

  pub sifted-is : (j : Judged) → Resolved (passing g (listed os)) ts j → j ≡ judge (sifted g os) ts
  sifted-is j q =
      judge-is (sifted g os) ts j
      (same-resolved (passing g (listed os)) (listed (sifted g os)) ts (λ p f m. to-sifted g os p m) (λ p f m. of-sifted g os p m) j q)

pub kept-resolved : (row : ℕ) (running : Bool) (ts : List Ty) → Resolved (passing (kept running) (of_row (row_at row))) ts (judge_kept running (row_at row) ts)
kept-resolved row running ts = sifted-resolved (kept running) (overloads_of (row_at row)) ts (some-preferred row ts (kept running) (λ k. running) (kept_in running row))

pub kept-is : (row : ℕ) (running : Bool) (ts : List Ty) (j : Judged) → Resolved (passing (kept running) (of_row (row_at row))) ts j → j ≡ judge_kept running (row_at row) ts
kept-is row running ts j q = sifted-is (kept running) (overloads_of (row_at row)) ts j q

-- WHEREVER K3 LEAVES A FITTING OVERLOAD OF A ROW one is preferred to every other left
module _ (row : ℕ) (ms : List Bool) (ts : List Ty) where
  flag : ℕ → Bool
  flag k = dropped_at (family_at row k).params ms

  law : (k : ℕ) → ByT (remains ms) (family_at row k) (flag k)
  unfolding flag
  law k = remains-T (family_at row k) (marked-in row k) ms

  pub left-preferred : Settled (remaining ms (of_row (row_at row))) ts
  left-preferred = some-preferred row ts (remains ms) flag law

-- WHAT K3 DROPS

-- nothing without an abstract parameter, and nothing without a running operand
drop-abstract : (ps : List Ty) (ms : List Bool) → T (dropped ps ms) → T (any_abstract ps)
unfolding dropped any_abstract
drop-abstract [] ms h = h
drop-abstract (p ∷ ps) [] h = absurd h
drop-abstract (p ∷ ps) (m ∷ ms) h =
    ⊎_elim (λ a. or_left _ _ (both_left _ _ a))
    (λ b. or_right (abstract_ty p) _ (⊎_elim (λ c. both_right m _ c) (λ d. drop-abstract ps ms d) (or_cases (both m (any_abstract ps)) _ b)))
    (or_cases (both (abstract_ty p) (any_running ms)) _ h)

drop-running : (ps : List Ty) (ms : List Bool) → T (dropped ps ms) → T (any_running ms)
unfolding dropped any_running
drop-running [] ms h = absurd h
drop-running (p ∷ ps) [] h = h
drop-running (p ∷ ps) (m ∷ ms) h =
    ⊎_elim (λ a. or_right m _ (both_right (abstract_ty p) _ a))
    (λ b. ⊎_elim (λ c. or_left _ _ (both_left _ _ c)) (λ d. or_right m _ (drop-running ps ms d)) (or_cases (both m (any_abstract ps)) _ b))
    (or_cases (both (abstract_ty p) (any_running ms)) _ h)

refuted : (b : Bool) → (T b → ⊥) → T (not b)
refuted true h = absurd (h tt)
refuted false h = tt

-- so a set without abstract parameters keeps all of its overloads
pub concrete-remains : (o : Overload) (ms : List Bool) → (T (any_abstract o.params) → ⊥) → T (remains ms o)
concrete-remains o ms h = refuted (dropped o.params ms) (λ d. h (drop-abstract o.params ms d))

-- WITH CONST OPERANDS nothing is dropped
false_of : (b : Bool) → (T b → ⊥) → b ≡ false
false_of true h = absurd (h tt)
false_of false h = refl

pub const-remains : (o : Overload) (ms : List Bool) → any_running ms ≡ false → remains ms o ≡ true
const-remains o ms e = ap not (false_of (dropped o.params ms) (λ d. subst T e (drop-running o.params ms d)))

pub const-all : (os : List Overload) (ms : List Bool) → any_running ms ≡ false → remaining_in ms os ≡ os
const-all os ms e = all-sifted (remains ms) os (λ o m. const-remains o ms e)

-- WHAT CONVERTS TO AN ABSTRACT TYPE is abstract

shape-abstract : (p : Ty) → T (ltb (form_of (shape_of p)) 3) → abstract_ty p ≡ is_abstract (component_of p)
unfolding shape_of component_of abstract_ty
shape-abstract (scalar s) h = refl
shape-abstract (vec n s) h = refl
shape-abstract (mat c r s) h = refl
shape-abstract (array k t) h = absurd h
shape-abstract (runtime t) h = absurd h
shape-abstract (atomic s) h = absurd h
shape-abstract (ptr a b t) h = absurd h
shape-abstract (ref a b t) h = absurd h
shape-abstract (frexp t) h = absurd h
shape-abstract (modf t) h = absurd h
shape-abstract (exchange s) h = absurd h

to-small : (a b : ℕ) → T (reaches a b) → b < 7
to-small a b h = go (ltb b 7) refl
  where
    go : (x : Bool) → ltb b 7 ≡ x → b < 7
    go true e = ltb-true b 7 e
    go false e = absurd (subst (λ (r : ℕ). T (ltb r none)) (rank-to a b (ltb-false b 7 e)) h)

reach_test : ℕ → ℕ → Bool
reach_test a b = implies (reaches a b) (implies (is_abstract b) (is_abstract a))

reach-tests : (a b : ℕ) → a < 7 → b < 7 → T (reach_test a b)
unfolding reach_test implies rank_of both
reach-tests a b ha hb = below₂ 7 7 reach_test tt a b ha hb

reach-abstract : (a b : ℕ) → T (reaches a b) → T (is_abstract b) → T (is_abstract a)
unfolding reach_test
reach-abstract a b h k = modus _ _ (modus _ _ (reach-tests a b (from-small a b h) (to-small a b h)) h) k

same-form : (a b : Shape) → T (same_shape a b) → T (ltb (form_of b) 3)
same-form a b h = subst (λ (n : ℕ). T (ltb n 3)) (eq (form_of a) (form_of b) (both_left _ _ (both_right (ltb (form_of a) 3) _ h))) (both_left _ _ h)
  where
    eq : (m n : ℕ) → T (eqb m n) → m ≡ n
    eq m n q = lib.Dec.eqb→eq m n q

converts-abstract : (x p : Ty) → T (converts x p) → T (abstract_ty p) → T (abstract_ty x)
unfolding conversion_rank
converts-abstract x p h a = go (same_ty x p) refl
  where
    by : T (ltb (by_component x p) none) → T (abstract_ty x)
    by k =
        let s = pick-test (same_shape (shape_of x) (shape_of p)) _ k in
        let r = pick-rank (same_shape (shape_of x) (shape_of p)) _ k in
        subst T (sym (shape-abstract x (both_left _ _ s)))
        (reach-abstract (component_of x) (component_of p) r (subst T (shape-abstract p (same-form (shape_of x) (shape_of p) s)) a))

    go : (b : Bool) → same_ty x p ≡ b → T (abstract_ty x)
    go true e = subst (λ (q : Ty). T (abstract_ty q)) (sym (same-ty x p (subst T (sym e) tt))) a
    go false e = by (rw e at h)

-- WHERE AN OPERAND IS RUNNING, and none is both running and abstract, every fitting overload with an abstract parameter is dropped
all-dropped : (ps ts : List Ty) (ms : List Bool) → T (fits ps ts) → (T (running_abstract ts ms) → ⊥) → T (any_abstract ps) → T (any_running ms) → T (dropped ps ms)
unfolding fits running_abstract any_abstract any_running dropped
all-dropped [] ts ms f u a r = a
all-dropped (p ∷ ps) [] ms f u a r = absurd f
all-dropped (p ∷ ps) (t ∷ ts) [] f u a r = r
all-dropped (p ∷ ps) (t ∷ ts) (m ∷ ms) f u a r =
    ⊎_elim (λ ah. ⊎_elim (λ rh. absurd (u (or_left _ _ (both-pair _ _ rh (converts-abstract t p (both_left _ _ f) ah))))) (λ rt. or_left _ _ (both-pair _ _ ah rt)) (or_cases m _ r))
    (λ at.
    or_right (both (abstract_ty p) (any_running ms)) _
    (⊎_elim (λ rh. or_left _ _ (both-pair _ _ rh at))
    (λ rt. or_right (both m (any_abstract ps)) _ (all-dropped ps ts ms (both_right (converts t p) _ f) (λ q. u (or_right (both m (abstract_ty t)) _ q)) at rt))
    (or_cases m _ r)))
    (or_cases (abstract_ty p) _ a)

module _ (ts : List Ty) (ms : List Bool) (u : running_abstract ts ms ≡ false) (o : Overload) (f : T (fits o.params ts)) where
  pub to-kept : T (remains ms o) → T (kept (any_running ms) o)
  unfolding or
  to-kept h = go (any_running ms) refl (any_abstract o.params) refl
    where
      go : (r : Bool) → any_running ms ≡ r → (a : Bool) → any_abstract o.params ≡ a → T (or (not r) (not a))
      go false er a ea = tt
      go true er false ea = tt
      go true er true ea =
          absurd (T_not (dropped o.params ms) h (all-dropped o.params ts ms f (λ q. subst T u q) (subst T (sym ea) tt) (subst T (sym er) tt)))

  pub from-kept : T (kept (any_running ms) o) → T (remains ms o)
  from-kept h =
      refuted (dropped o.params ms)
      (λ d.
      ⊎_elim (λ n. T_not (any_running ms) n (drop-running o.params ms d)) (λ n. T_not (any_abstract o.params) n (drop-abstract o.params ms d))
      (or_cases (not (any_running ms)) _ h))

-- so the engine's judgment is the one by the marks
pub judge-kept : (row : ℕ) (ts : List Ty) (ms : List Bool) → running_abstract ts ms ≡ false → judge_kept (any_running ms) (row_at row) ts ≡ judge_row (row_at row) ts ms
judge-kept row ts ms u =
    sifted-is (remains ms) (overloads_of (row_at row)) ts (judge_kept (any_running ms) (row_at row) ts)
    (same-resolved (passing (kept (any_running ms)) (of_row (row_at row))) (remaining ms (of_row (row_at row))) ts (λ p f m. (m.0, from-kept ts ms u p f m.1)) (λ p f m. (m.0, to-kept ts ms u p f m.1))
    (judge_kept (any_running ms) (row_at row) ts)
    (kept-resolved row (any_running ms) ts))

-- K3 NEVER EMPTIES the fitting overloads: beside an overload at an abstract T stands the one at i32 or f32, which takes all that it takes and is never dropped

stand_test : ℕ → ℕ → Bool
stand_test s t =
    implies (is_abstract t)
    (both (not (is_abstract (stand_in t))) (both (implies (reaches s t) (reaches s (stand_in t))) (implies (reaches s (exponent t)) (reaches s (exponent (stand_in t))))))

stand-tests : (s t : ℕ) → s < 7 → t < 7 → T (stand_test s t)
unfolding stand_test stand_in implies rank_of both
stand-tests s t hs ht = below₂ 7 7 stand_test tt s t hs ht

module _ (set : List ℕ) (z : Size) (t i : ℕ) (hz : Sized z) (ht : t < 7) (hu : stand_in t < 7) (hi : i < 7) (a : T (is_abstract t)) where
  reaches-stand : (s : ℕ) (c : Component) → s < 7 → T (reaches s (component_at c t i)) → T (reaches s (component_at c (stand_in t) i))
  unfolding component_at stand_test
  reaches-stand s of_t hs h = modus _ _ (both_left _ _ (both_right (not (is_abstract (stand_in t))) _ (modus _ _ (stand-tests s t hs ht) a))) h
  reaches-stand s of_i hs h = h
  reaches-stand s exp_t hs h =
      modus _ _ (both_right (implies (reaches s t) (reaches s (stand_in t))) _ (both_right (not (is_abstract (stand_in t))) _ (modus _ _ (stand-tests s t hs ht) a))) h
  reaches-stand s (just k) hs h = h

  pick-both : (b : Bool) (r s : ℕ) → T (ltb (pick b r none) none) → (T (ltb r none) → T (ltb s none)) → T (ltb (pick b s none) none)
  pick-both true r s h k = k h
  pick-both false r s h k = h

  converts-stand : (x : Ty) (p : Pattern) → T (fine set p.of) → T (converts x (pattern_ty z t i p)) → T (converts x (pattern_ty z (stand_in t) i p))
  converts-stand x p f h =
      let k = rw (slot-cost set x z t i p hz ht hi f) at h in
      rw (slot-cost set x z (stand_in t) i p hz hu hi f)
      (pick-both (same_shape (shape_of x) (form_at p.form z)) (rank_of (component_of x) (component_at p.of t i)) (rank_of (component_of x) (component_at p.of (stand_in t) i)) k
      (λ r. reaches-stand (component_of x) p.of (from-small (component_of x) (component_at p.of t i) r) r))

  fits-stand : (ps : List Pattern) (xs : List Ty) → T (all_fine set ps) → T (fits (map (pattern_ty z t i) ps) xs) → T (fits (map (pattern_ty z (stand_in t) i) ps) xs)
  unfolding fits
  fits-stand [] [] f h = h
  fits-stand [] (x ∷ xs) f h = h
  fits-stand (p ∷ ps) [] f h = h
  fits-stand (p ∷ ps) (x ∷ xs) f h = both-pair _ _ (converts-stand x p (both_left _ _ f) (both_left _ _ h)) (fits-stand ps xs (both_right (fine set p.of) _ f) (both_right _ _ h))

-- an overload at a concrete T
concrete-T : (f : Family) → Marked f → (t i : ℕ) (z : Size) → T (member i f.second) → is_abstract t ≡ false → T (any_abstract (overload f t i z).params) → ⊥
unfolding both
concrete-T f k t i z mi e h = subst T (any-abstract z t i (k.second i mi) f.params k.fixed ∙ ap (λ (x : Bool). both x (some follows f.params)) e) h

pub never-empties : (row : ℕ) (ms : List Bool) (ts : List Ty) (p : Overload) → of_row (row_at row) p → T (fits p.params ts)
    → (o : Overload) × remaining ms (of_row (row_at row)) o × T (fits o.params ts)
unfolding stand_test
never-empties row ms ts p m h = go (is_abstract q.t) refl
  where
    r : (k : ℕ) × (k < length (row_at row).families) × Memᴰ p (of_family (family_at row k))
    r = listed_of (row_at row).families p m

    f : Family
    f = family_at row r.0

    q : Of f p
    q = of-family f p r.2

    g : Good f
    g = good-in row r.0

    k : Marked f
    k = marked-in row r.0

    -- the overload at another T
    at : (t : ℕ) → T (member t f.set) → is_abstract t ≡ false → T (fits (map (pattern_ty q.z t q.i) f.params) ts) → (o : Overload) × remaining ms (of_row (row_at row)) o × T (fits o.params ts)
    at t mt e fit = (
      overload f t q.i q.z,
      (to-listed (row_at row).families r.0 (overload f t q.i q.z) r.1 (to-family f t q.i q.z mt q.in_second q.in_sizes), concrete-remains (overload f t q.i q.z) ms (concrete-T f k t q.i q.z q.in_second e)),
      fit,
    )

    own : T (fits (map (pattern_ty q.z q.t q.i) f.params) ts)
    own = subst (λ (o : Overload). T (fits o.params ts)) q.is h

    go : (b : Bool) → is_abstract q.t ≡ b → (o : Overload) × remaining ms (of_row (row_at row)) o × T (fits o.params ts)
    go false e = at q.t q.in_set e own
    go true e =
        let a = subst T (sym e) tt in
        let mu = k.beside q.t q.in_set a in
        let ht = g.set q.t q.in_set in
        let hu = g.set (stand_in q.t) mu in
        at (stand_in q.t) mu (not-false (is_abstract (stand_in q.t)) (both_left _ _ (modus _ _ (stand-tests 0 q.t (omega arith) ht) a)))
        (fits-stand f.set q.z q.t q.i (g.fair q.z q.in_sizes).sized ht hu (g.second q.i q.in_second) a f.params ts g.small own)
