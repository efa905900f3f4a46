-- The first of a list, in the order of preference, that passes a test. Assumes nothing.
use Rattle.std.proofs.Common.{◌≡◌, ℕ, ◌<◌, Bool, true, false, T, eqb, ltb, ◌≢◌, ◌⊎◌, List, [], ◌∷◌, sym, refl, ap, ◌∙◌, subst, ap₂, inl, inr, ⊎_elim, arith, eqb→eq, ltb→lt}
use lib.Dec.{eqb_refl}
use Rattle.conv.specs.Rank.{pick, both, none}
use Rattle.conv.proofs.Finite.{both_left, both_right, below}
use Rattle.conv.proofs.Ranks.{order}
use Rattle.overload.specs.Overload.{or}
use Rattle.overload.specs.inner.Code.{member, first_with, preference}
use Rattle.overload.proofs.Preference.{Upto, or_cases, or_left, or_right}

later : ℕ → List ℕ → Bool
later t [] = true
later t (u ∷ us) = both (ltb (order t) (order u)) (later t us)

rising : List ℕ → Bool
rising [] = true
rising (t ∷ ts) = both (both (ltb t 7) (later t ts)) (rising ts)

later-at : (t : ℕ) (us : List ℕ) → T (later t us) → (u : ℕ) → T (member u us) → T (ltb (order t) (order u))
unfolding later member
later-at t [] h u m = absurd m
later-at t (v ∷ vs) h u m =
    ⊎_elim (λ e. subst (λ (w : ℕ). T (ltb (order t) (order w))) (sym (eqb→eq u v e)) (both_left _ _ h))
    (λ n. later-at t vs (both_right (ltb (order t) (order v)) _ h) u n)
    (or_cases (eqb u v) (member u vs) m)

module _ (g : ℕ → Bool) where
  pub first_some : (ts : List ℕ) → first_with ts g ≢ none → T (g (first_with ts g))
  unfolding first_with
  first_some [] h = absurd (h refl)
  first_some (t ∷ ts) h = go (g t) refl (first_some ts)
    where
      go : (b : Bool) → g t ≡ b → (first_with ts g ≢ none → T (g (first_with ts g))) → T (g (pick (g t) t (first_with ts g)))
      go true e ih = rw (e, e) tt
      go false e ih = rw e (ih (λ q. h (rw e q)))

  first-none : (ts : List ℕ) → T (rising ts) → first_with ts g ≡ none → (u : ℕ) → T (member u ts) → T (g u) → ⊥
  unfolding first_with rising member
  first-none [] r e u m h = m
  first-none (t ∷ ts) r e u m h = go (g t) refl (first-none ts (both_right (both (ltb t 7) (later t ts)) _ r))
    where
      go : (b : Bool) → g t ≡ b → (first_with ts g ≡ none → (u : ℕ) → T (member u ts) → T (g u) → ⊥) → ⊥
      go true q ih =
          let l = ltb→lt t 7 (both_left _ _ (both_left _ _ r)) in
          let z : t ≡ none = rw q at e in omega arith
      go false q ih =
          ⊎_elim (λ s. subst T (ap g (eqb→eq u t s) ∙ q) h) (λ n. ih (rw q at e) u n h) (or_cases (eqb u t) (member u ts) m)

  first-least : (ts : List ℕ) → T (rising ts) → (u : ℕ) → T (member u ts) → T (g u) → (first_with ts g ≡ u) ⊎ T (ltb (order (first_with ts g)) (order u))
  unfolding first_with rising member
  first-least [] r u m h = absurd m
  first-least (t ∷ ts) r u m h = go (g t) refl (first-least ts (both_right (both (ltb t 7) (later t ts)) _ r) u)
    where
      go : (b : Bool) → g t ≡ b → (T (member u ts) → T (g u) → (first_with ts g ≡ u) ⊎ T (ltb (order (first_with ts g)) (order u)))
          → (pick (g t) t (first_with ts g) ≡ u) ⊎ T (ltb (order (pick (g t) t (first_with ts g))) (order u))
      go true q ih =
          ⊎_elim (λ s. inl (rw q (sym (eqb→eq u t s)))) (λ n. inr (rw q (later-at t ts (both_right (ltb t 7) _ (both_left _ _ r)) u n))) (or_cases (eqb u t) (member u ts) m)
      go false q ih = ⊎_elim (λ s. absurd (subst T (ap g (eqb→eq u t s) ∙ q) h)) (λ n. rw q (ih n h)) (or_cases (eqb u t) (member u ts) m)

small-in : (ts : List ℕ) → T (rising ts) → (t : ℕ) → T (member t ts) → t < 7
unfolding rising member
small-in [] r t m = absurd m
small-in (u ∷ us) r t m =
    ⊎_elim (λ e. let q = eqb→eq t u e in let l = ltb→lt u 7 (both_left _ _ (both_left _ _ r)) in omega arith)
    (λ n. small-in us (both_right (both (ltb u 7) (later u us)) _ r) t n)
    (or_cases (eqb t u) (member t us) m)

rising-preference : T (rising preference)
unfolding rising later both
rising-preference = tt

in-preference : (u : ℕ) → u < 7 → T (member u preference)
unfolding both member or
in-preference u h = below 7 (λ u. member u preference) tt u h

pub preference-small : (t : ℕ) → T (member t preference) → t < 7
preference-small t m = small-in preference rising-preference t m

-- THE FIRST IN THE ORDER OF PREFERENCE

module _ (g : ℕ → Bool) where
  pub none_passes : first_with preference g ≡ none → (u : ℕ) → u < 7 → T (g u) → ⊥
  none_passes e u h = first-none g preference rising-preference e u (in-preference u h)

  pub first_passes : first_with preference g ≢ none → T (g (first_with preference g))
  first_passes h = first_some g preference h

  pub first-upto : (u : ℕ) → u < 7 → T (g u) → Upto (first_with preference g) u
  first-upto u h = first-least g preference rising-preference u (in-preference u h)

-- of tests that agree on scalars the first is the same
first-same : (g h : ℕ → Bool) (ts : List ℕ) → ((t : ℕ) → T (member t ts) → g t ≡ h t) → first_with ts g ≡ first_with ts h
unfolding first_with member
first-same g h [] e = refl
first-same g h (t ∷ ts) e =
    ap₂ (λ (b : Bool) (r : ℕ). pick b t r) (e t (or_left (eqb t t) (member t ts) (eqb_refl t))) (first-same g h ts (λ u m. e u (or_right (eqb u t) (member u ts) m)))

pub same_first : (g h : ℕ → Bool) → ((t : ℕ) → t < 7 → g t ≡ h t) → first_with preference g ≡ first_with preference h
same_first g h e = first-same g h preference (λ t m. e t (preference-small t m))
