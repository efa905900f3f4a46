-- Demand 3, over any set of overloads: no two are preferred, so no second judgment meets `Resolved`. And within a family at one size the
-- overload of the earlier choices, in the order of preference, beats that of the later ones wherever both fit. Assumes nothing.
use Rattle.std.proofs.Common.{◌≡◌, ℕ, ◌<◌, Bool, true, false, cond, T, eqb, ltb, leb, ◌⊎◌, List, [], ◌∷◌, map, length, sym, refl, ap, ◌∙◌, subst, inl, inr, ⊎_elim, arith, le→leb, eqb→eq, ltb→lt, leb→le, ltb-false, ltb-true}
use Rattle.conv.specs.Types.{Ty, is_float, is_abstract, exponent}
use Rattle.conv.specs.Rank.{pick, both, none, rank_of, form_of, shape_of, component_of, same_shape, conversion_rank, converts}
use Rattle.conv.proofs.Finite.{both_left, both_right, both-pair, implies, modus, below₃}
use Rattle.conv.proofs.Ranks.{rank-from, order, rises}
use Rattle.conv.proofs.Made.{made-rank}
use Rattle.overload.specs.Overload.{Overload, fits, no_more, less, or, Preferred, Judged, Resolved}
use Rattle.overload.specs.Overload.Judged.{gives, none_fits}
use Rattle.overload.specs.Rows.{Size, Form, Component, Pattern, form_at, component_at, pattern_ty}
use Rattle.overload.specs.Rows.Form.{sized, single, vec_c, vec_r, left, right, turned}
use Rattle.overload.specs.Rows.Component.{of_t, of_i, exp_t, just}
use Rattle.overload.specs.inner.Code.{member, reaches}

-- ANY SET

pub or_cases : (a b : Bool) → T (or a b) → T a ⊎ T b
unfolding or
or_cases true b t = inl tt
or_cases false b t = inr t

pub or_left : (a b : Bool) → T a → T (or a b)
unfolding or
or_left true b t = tt
or_left false b t = absurd t

pub or_right : (a b : Bool) → T b → T (or a b)
unfolding or
or_right true b t = tt
or_right false b t = t

abbrev pub Beats : List Ty → List Ty → List Ty → Type 0
Beats xs ps qs = T (no_more xs ps qs) × T (less xs ps qs)

-- what costs less somewhere does not cost no less everywhere
never : (xs ps qs : List Ty) → T (less xs ps qs) → T (no_more xs qs ps) → ⊥
unfolding less no_more
never [] ps qs l n = l
never (x ∷ xs) [] qs l n = l
never (x ∷ xs) (p ∷ ps) [] l n = l
never (x ∷ xs) (p ∷ ps) (q ∷ qs) l n =
    ⊎_elim
    (λ c. let a = ltb→lt (conversion_rank x p) (conversion_rank x q) c in let b = leb→le (conversion_rank x q) (conversion_rank x p) (both_left _ _ n) in omega arith)
    (λ d. never xs ps qs d (both_right _ _ n))
    (or_cases _ _ l)

module _ (set : Overload → Type 0) (xs : List Ty) where
  pub one-preferred : (o p : Overload) → Preferred set xs o → Preferred set xs p → o ≡ p
  one-preferred o p a b =
      ⊎_elim (λ e. e) (λ l. other l (a.over p b.among b.fitting)) (b.over o a.among a.fitting)
    where
      other : Beats xs p.params o.params → (p ≡ o) ⊎ Beats xs o.params p.params → o ≡ p
      other l (inl e) = sym e
      other l (inr m) = absurd (never xs o.params p.params m.1 l.0)

  -- no second judgment
  pub one-judgment : (r s : Judged) → Resolved set xs r → Resolved set xs s → r ≡ s
  unfolding Resolved
  one-judgment (gives t) (gives u) a b = ap gives (a.2 ∙ ap (λ (o : Overload). o.result) (one-preferred a.0 b.0 a.1 b.1) ∙ sym b.2)
  one-judgment (gives t) none_fits a b = absurd (b a.0 a.1.among a.1.fitting)
  one-judgment none_fits (gives u) a b = absurd (a b.0 b.1.among b.1.fitting)
  one-judgment none_fits none_fits a b = refl

-- wherever an overload of the set fits one is preferred to every other that does
abbrev pub Settled : (Overload → Type 0) → List Ty → Type 0
Settled set xs = (p : Overload) → set p → T (fits p.params xs) → (o : Overload) × Preferred set xs o

-- so it is where there is a judgment
pub settled-by : (set : Overload → Type 0) (xs : List Ty) (r : Judged) → Resolved set xs r → Settled set xs
unfolding Resolved
settled-by set xs (gives t) q = λ p m h. (q.0, q.1)
settled-by set xs none_fits q = λ p m h. absurd (q p m h)

-- two sets that have the same fitting overloads have one judgment
module _ (set other : Overload → Type 0) (xs : List Ty) (to : (p : Overload) → T (fits p.params xs) → set p → other p) (back : (p : Overload) → T (fits p.params xs) → other p → set p) where
  pub same-preferred : (o : Overload) → Preferred set xs o → Preferred other xs o
  same-preferred o q = record { among = to o q.fitting q.among; fitting = q.fitting; over = λ p m h. q.over p (back p h m) h }

module _ (set other : Overload → Type 0) (xs : List Ty) (to : (p : Overload) → T (fits p.params xs) → set p → other p) (back : (p : Overload) → T (fits p.params xs) → other p → set p) where
  pub same-resolved : (r : Judged) → Resolved set xs r → Resolved other xs r
  unfolding Resolved
  same-resolved (gives t) q = (q.0, same-preferred set other xs to back q.0 q.1, q.2)
  same-resolved none_fits q = λ p m h. q p (back p h m) h

  pub same-settled : Settled set xs → Settled other xs
  same-settled s = λ p m h. let q = s p (back p h m) h in (q.0, same-preferred set other xs to back q.0 q.1)

-- ONE PARAMETER

pub pick-test : (b : Bool) (r : ℕ) → T (ltb (pick b r none) none) → T b
pick-test true r h = tt
pick-test false r h = h

pub pick-rank : (b : Bool) (r : ℕ) → T (ltb (pick b r none) none) → T (ltb r none)
pick-rank true r h = h
pick-rank false r h = absurd h

-- a size whose shape is a scalar, a vector or a matrix
abbrev pub Sized : Size → Type 0
Sized z = T (ltb (form_of z.shape) 3)

unfoldable pub all_float : List ℕ → Bool
all_float [] = true
all_float (t ∷ ts) = both (is_float t) (all_float ts)

-- a component that is a scalar at every T of a set; one that follows T does so where every T is a float
abbrev pub fine : List ℕ → Component → Bool
fine set of_t = true
fine set of_i = true
fine set exp_t = all_float set
fine set (just s) = ltb s 7

abbrev pub all_fine : List ℕ → List Pattern → Bool
all_fine set [] = true
all_fine set (p ∷ ps) = both (fine set p.of) (all_fine set ps)

-- a parameter of T, one of I, and a list that has one
abbrev pub is_t : Component → Bool
is_t of_t = true
is_t of_i = false
is_t exp_t = false
is_t (just s) = false

abbrev pub is_i : Component → Bool
is_i of_t = false
is_i of_i = true
is_i exp_t = false
is_i (just s) = false

abbrev pub some : (Component → Bool) → List Pattern → Bool
some g [] = false
some g (p ∷ ps) = or (g p.of) (some g ps)

pub form_small : (f : Form) (z : Size) → Sized z → T (ltb (form_of (form_at f z)) 3)
unfolding form_at
form_small sized z h = h
form_small single z h = tt
form_small vec_c z h = tt
form_small vec_r z h = tt
form_small left z h = tt
form_small right z h = tt
form_small turned z h = tt

pub exponent_small : (t : ℕ) → exponent t < 7
exponent_small t = go (is_abstract t)
  where
    go : (b : Bool) → cond b 1 3 < 7
    go true = omega arith
    go false = omega arith

pub component-small : (set : List ℕ) (c : Component) (t i : ℕ) → t < 7 → i < 7 → T (fine set c) → component_at c t i < 7
unfolding component_at
component-small set of_t t i h k s = h
component-small set of_i t i h k s = k
component-small set exp_t t i h k s = exponent_small t
component-small set (just c) t i h k s = ltb→lt c 7 s

-- what an operand costs at a parameter
pub slot-cost : (set : List ℕ) (x : Ty) (z : Size) (t i : ℕ) (p : Pattern) → Sized z → t < 7 → i < 7 → T (fine set p.of)
    → conversion_rank x (pattern_ty z t i p) ≡ pick (same_shape (shape_of x) (form_at p.form z)) (rank_of (component_of x) (component_at p.of t i)) none
slot-cost set x z t i p hz ht hi hs =
    made-rank x (form_at p.form z) (component_at p.of t i) (form_small p.form z hz) (component-small set p.of t i ht hi hs)

-- a scalar that converts is a scalar
pub from-small : (a b : ℕ) → T (reaches a b) → a < 7
from-small a b h = go (ltb a 7) refl
  where
    go : (x : Bool) → ltb a 7 ≡ x → a < 7
    go true e = ltb-true a 7 e
    go false e = absurd (subst (λ (r : ℕ). T (ltb r none)) (rank-from a b (ltb-false a 7 e)) h)

-- THE ORDER OF PREFERENCE

-- t is u, or stands before it
abbrev pub Upto : ℕ → ℕ → Type 0
Upto t u = (t ≡ u) ⊎ T (ltb (order t) (order u))

weaken : (a b : ℕ) → T (ltb a b) → T (leb a b)
weaken a b h = let l = ltb→lt a b h in le→leb a b (omega arith)

self : (a : ℕ) → T (leb a a)
self a = le→leb a a (omega arith)

pub not-before : (t u : ℕ) → t ≡ u → T (ltb (order t) (order u)) → ⊥
not-before t u e h = let l = ltb→lt (order t) (order u) h in let q = ap order e in omega arith

-- to the earlier of two a scalar costs no more
rank-upto : (s t u : ℕ) → t < 7 → u < 7 → Upto t u → T (reaches s t) → T (reaches s u) → T (leb (rank_of s t) (rank_of s u))
rank-upto s t u ht hu (inl e) a b = subst (λ (k : ℕ). T (leb (rank_of s t) (rank_of s k))) e (self (rank_of s t))
rank-upto s t u ht hu (inr l) a b = weaken (rank_of s t) (rank_of s u) (rises s t u (from-small s t a) ht hu a b l)

-- and so to what follows them
exp_test : ℕ → ℕ → ℕ → Bool
exp_test s t u =
    implies (is_float t)
    (implies (is_float u) (implies (ltb (order t) (order u)) (implies (reaches s (exponent t)) (implies (reaches s (exponent u)) (leb (rank_of s (exponent t)) (rank_of s (exponent u)))))))

exp-tests : (s t u : ℕ) → s < 7 → t < 7 → u < 7 → T (exp_test s t u)
unfolding exp_test implies rank_of both
exp-tests s t u hs ht hu = below₃ 7 7 7 exp_test tt s t u hs ht hu

exp-upto : (s t u : ℕ) → t < 7 → u < 7 → T (is_float t) → T (is_float u) → Upto t u → T (reaches s (exponent t)) → T (reaches s (exponent u))
    → T (leb (rank_of s (exponent t)) (rank_of s (exponent u)))
unfolding exp_test
exp-upto s t u ht hu ft fu (inl e) a b = subst (λ (k : ℕ). T (leb (rank_of s (exponent t)) (rank_of s (exponent k)))) e (self (rank_of s (exponent t)))
exp-upto s t u ht hu ft fu (inr l) a b =
    modus _ _ (modus _ _ (modus _ _ (modus _ _ (modus _ _ (exp-tests s t u (from-small s (exponent t) a) ht hu) ft) fu) l) a) b

float_in : (set : List ℕ) → T (all_float set) → (t : ℕ) → T (member t set) → T (is_float t)
unfolding all_float member
float_in [] h t m = absurd m
float_in (u ∷ us) h t m =
    ⊎_elim (λ e. subst (λ (k : ℕ). T (is_float k)) (sym (eqb→eq t u e)) (both_left _ _ h)) (λ n. float_in us (both_right (is_float u) _ h) t n)
    (or_cases (eqb t u) (member t us) m)

-- two of a set of one are one
pub one_only : (set : List ℕ) → T (leb (length set) 1) → (t u : ℕ) → T (member t set) → T (member u set) → t ≡ u
unfolding member
one_only [] h t u a b = absurd a
one_only (v ∷ []) h t u a b =
    ⊎_elim (λ e. ⊎_elim (λ d. eqb→eq t v e ∙ sym (eqb→eq u v d)) (λ n. absurd n) (or_cases (eqb u v) _ b)) (λ n. absurd n) (or_cases (eqb t v) _ a)
one_only (v ∷ w ∷ ws) h t u a b = absurd (let l = leb→le (length (v ∷ w ∷ ws)) 1 h in omega arith)

picked : (b : Bool) (r s : ℕ) (g : ℕ → ℕ → Bool) → T (ltb (pick b r none) none) → T (ltb (pick b s none) none) → (T (ltb r none) → T (ltb s none) → T (g r s))
    → T (g (pick b r none) (pick b s none))
picked true r s g h k f = f h k
picked false r s g h k f = absurd h

module _ (z : Size) (set : List ℕ) (t u i j : ℕ) (hz : Sized z) (mt : T (member t set)) (mu : T (member u set)) (ht : t < 7) (hu : u < 7) (hi : i < 7) (hj : j < 7) (a : Upto t u) (b : Upto i j) where
  -- at every component the earlier choices cost no more
  ranks : (s : ℕ) (c : Component) → T (fine set c) → T (reaches s (component_at c t i)) → T (reaches s (component_at c u j)) → T (leb (rank_of s (component_at c t i)) (rank_of s (component_at c u j)))
  unfolding component_at
  ranks s of_t f p q = rank-upto s t u ht hu a p q
  ranks s of_i f p q = rank-upto s i j hi hj b p q
  ranks s exp_t f p q = exp-upto s t u ht hu (float_in set f t mt) (float_in set f u mu) a p q
  ranks s (just k) f p q = self (rank_of s k)

  -- and at one of T, or of I, less where they are earlier
  ranks-T : (s : ℕ) (c : Component) → T (ltb (order t) (order u)) → T (is_t c) → T (reaches s (component_at c t i)) → T (reaches s (component_at c u j)) → T (ltb (rank_of s (component_at c t i)) (rank_of s (component_at c u j)))
  unfolding component_at
  ranks-T s of_t l f p q = rises s t u (from-small s t p) ht hu p q l
  ranks-T s of_i l f p q = absurd f
  ranks-T s exp_t l f p q = absurd f
  ranks-T s (just k) l f p q = absurd f

  ranks-I : (s : ℕ) (c : Component) → T (ltb (order i) (order j)) → T (is_i c) → T (reaches s (component_at c t i)) → T (reaches s (component_at c u j)) → T (ltb (rank_of s (component_at c t i)) (rank_of s (component_at c u j)))
  unfolding component_at
  ranks-I s of_t l f p q = absurd f
  ranks-I s of_i l f p q = rises s i j (from-small s i p) hi hj p q l
  ranks-I s exp_t l f p q = absurd f
  ranks-I s (just k) l f p q = absurd f

  -- a test of two costs, from one of two ranks
  at : (g : ℕ → ℕ → Bool) (x : Ty) (p : Pattern) → T (fine set p.of) → T (converts x (pattern_ty z t i p)) → T (converts x (pattern_ty z u j p))
      → (T (reaches (component_of x) (component_at p.of t i)) → T (reaches (component_of x) (component_at p.of u j)) → T (g (rank_of (component_of x) (component_at p.of t i)) (rank_of (component_of x) (component_at p.of u j))))
      → T (g (conversion_rank x (pattern_ty z t i p)) (conversion_rank x (pattern_ty z u j p)))
  at g x p f c d k =
      let et = slot-cost set x z t i p hz ht hi f in
      let eu = slot-cost set x z u j p hz hu hj f in
      rw (et, eu) (picked (same_shape (shape_of x) (form_at p.form z)) (rank_of (component_of x) (component_at p.of t i)) (rank_of (component_of x) (component_at p.of u j)) g (rw et at c) (rw eu at d) k)

  no-more : (xs : List Ty) (ps : List Pattern) → T (all_fine set ps) → T (fits (map (pattern_ty z t i) ps) xs) → T (fits (map (pattern_ty z u j) ps) xs)
      → T (no_more xs (map (pattern_ty z t i) ps) (map (pattern_ty z u j) ps))
  unfolding fits no_more
  no-more [] [] s c d = tt
  no-more [] (p ∷ ps) s c d = tt
  no-more (x ∷ xs) [] s c d = absurd c
  no-more (x ∷ xs) (p ∷ ps) s c d =
      both-pair _ _ (at leb x p (both_left _ _ s) (both_left _ _ c) (both_left _ _ d) (ranks (component_of x) p.of (both_left _ _ s)))
      (no-more xs ps (both_right (fine set p.of) _ s) (both_right _ _ c) (both_right _ _ d))

  module _ (g : Component → Bool) (r : (s : ℕ) (c : Component) → T (g c) → T (reaches s (component_at c t i)) → T (reaches s (component_at c u j)) → T (ltb (rank_of s (component_at c t i)) (rank_of s (component_at c u j)))) where
    less-some : (xs : List Ty) (ps : List Pattern) → T (all_fine set ps) → T (some g ps) → T (fits (map (pattern_ty z t i) ps) xs) → T (fits (map (pattern_ty z u j) ps) xs)
        → T (less xs (map (pattern_ty z t i) ps) (map (pattern_ty z u j) ps))
    unfolding fits less
    less-some [] [] s m c d = m
    less-some [] (p ∷ ps) s m c d = absurd c
    less-some (x ∷ xs) [] s m c d = absurd c
    less-some (x ∷ xs) (p ∷ ps) s m c d =
        ⊎_elim (λ h. or_left _ _ (at ltb x p (both_left _ _ s) (both_left _ _ c) (both_left _ _ d) (r (component_of x) p.of h)))
        (λ h. or_right _ _ (less-some xs ps (both_right (fine set p.of) _ s) h (both_right _ _ c) (both_right _ _ d)))
        (or_cases (g p.of) (some g ps) m)

  -- the overload of the earlier choices beats that of the later ones
  module _ (xs : List Ty) (ps : List Pattern) (s : T (all_fine set ps)) (c : T (fits (map (pattern_ty z t i) ps) xs)) (d : T (fits (map (pattern_ty z u j) ps) xs)) where
    pub beats-T : T (ltb (order t) (order u)) → T (some is_t ps) → Beats xs (map (pattern_ty z t i) ps) (map (pattern_ty z u j) ps)
    beats-T l m = (no-more xs ps s c d, less-some is_t (λ k e. ranks-T k e l) xs ps s m c d)

    pub beats-I : T (ltb (order i) (order j)) → T (some is_i ps) → Beats xs (map (pattern_ty z t i) ps) (map (pattern_ty z u j) ps)
    beats-I l m = (no-more xs ps s c d, less-some is_i (λ k e. ranks-I k e l) xs ps s m c d)
