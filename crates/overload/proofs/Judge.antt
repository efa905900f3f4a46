-- DEMAND 3 over any list of overloads: what the function `judge` gives is the preferred overload's result; wherever one that fits is preferred it gives the judgment that
-- `Resolved` describes; and no other judgment meets that. Assumes nothing.
use Rattle.std.proofs.Common.{◌≡◌, ℕ, Bool, true, false, cond, not, T, ◌⊎◌, List, [], ◌∷◌, sym, refl, ap, ◌∙◌, subst, inl, inr, ⊎_elim, arith, T_not}
use mathlib.Core.List.Memᴰ
use mathlib.Core.List.{Memᴰ}
use Rattle.conv.specs.Types.{Ty}
use Rattle.conv.specs.Rank.{both, same_ty}
use Rattle.conv.proofs.Finite.{both_left, both_right, both-pair}
use Rattle.conv.proofs.Made.{same-ty, self-ty}
use Rattle.overload.specs.Overload.{Overload, fits, no_more, less, or, listed, Preferred, Judged, Resolved, same_tys, same_overload, yields, all_yield, is_preferred, chosen, judge}
use Rattle.overload.specs.Overload.Judged.{gives, none_fits}
use Rattle.overload.proofs.Preference.{or_cases, or_left, or_right, one-judgment, Settled, settled-by}

-- the test of one overload

pub same_tys_lem : (ps qs : List Ty) → T (same_tys ps qs) → ps ≡ qs
unfolding same_tys
same_tys_lem [] [] h = refl
same_tys_lem [] (q ∷ qs) h = absurd h
same_tys_lem (p ∷ ps) [] h = absurd h
same_tys_lem (p ∷ ps) (q ∷ qs) h = λ i. same-ty p q (both_left _ _ h) i ∷ same_tys_lem ps qs (both_right (same_ty p q) _ h) i

self-tys : (ps : List Ty) → T (same_tys ps ps)
unfolding same_tys
self-tys [] = tt
self-tys (p ∷ ps) = both-pair _ _ (self-ty p) (self-tys ps)

pub same-overload : (p o : Overload) → T (same_overload p o) → p ≡ o
same-overload p o h =
    let a = same_tys_lem p.params o.params (both_left _ _ h) in
    let b = same-ty p.result o.result (both_right (same_tys p.params o.params) _ h) in
    λ i. record { params = a i; result = b i }

pub self-overload : (o : Overload) → T (same_overload o o)
self-overload o = both-pair _ _ (self-tys o.params) (self-ty o.result)

pub clash : {R : Ty} → none_fits ≡ gives R → ⊥
clash e = let z : ◌≡◌ {A = ℕ} 0 1 = cc in omega arith

pub inner : {R Q : Ty} → gives R ≡ gives Q → R ≡ Q
inner e = cc

not-not : (b : Bool) → (T b → ⊥) → T (not b)
not-not true h = absurd (h tt)
not-not false h = tt

-- the test of being preferred

module _ (xs : List Ty) (o : Overload) where
  yield-at : (ps : List Overload) → T (all_yield xs o ps) → (p : Overload) → Memᴰ p ps → T (yields xs o p)
  unfolding all_yield
  yield-at [] h p m = absurd (Memᴰ.not-nil m)
  yield-at (q ∷ qs) h p m =
      ⊎_elim (λ e. subst (λ (r : Overload). T (yields xs o r)) (sym e) (both_left _ _ h)) (λ n. yield-at qs (both_right (yields xs o q) _ h) p n) (Memᴰ.cases_cons m)

  all-yield : (ps : List Overload) → ((p : Overload) → Memᴰ p ps → T (yields xs o p)) → T (all_yield xs o ps)
  unfolding all_yield
  all-yield [] h = tt
  all-yield (q ∷ qs) h = both-pair _ _ (h q (Memᴰ.head refl)) (all-yield qs (λ p m. h p (Memᴰ.tail m)))

module _ (os : List Overload) (xs : List Ty) where
  pub preferred-of : (o : Overload) → Memᴰ o os → T (is_preferred os xs o) → Preferred (listed os) xs o
  unfolding is_preferred
  preferred-of o m h =
      record {
        among = m;
        fitting = both_left _ _ h;
        over = λ p n k.
            ⊎_elim (λ a. absurd (T_not (fits p.params xs) a k))
            (λ b. ⊎_elim (λ s. inl (same-overload p o s)) (λ c. inr (both_left _ _ c, both_right (no_more xs o.params p.params) _ c)) (or_cases (same_overload p o) _ b))
            (or_cases (not (fits p.params xs)) _ (yield-at xs o os (both_right (fits o.params xs) _ h) p n));
      }

  of-preferred : (o : Overload) → Preferred (listed os) xs o → T (is_preferred os xs o)
  unfolding is_preferred
  of-preferred o q = both-pair _ _ q.fitting (all-yield xs o os (λ p m. go p m (fits p.params xs) refl))
    where
      beaten : (p : Overload) → (p ≡ o) ⊎ (T (no_more xs o.params p.params) × T (less xs o.params p.params)) → T (or (same_overload p o) (both (no_more xs o.params p.params) (less xs o.params p.params)))
      beaten p (inl e) = or_left _ _ (subst (λ (r : Overload). T (same_overload r o)) (sym e) (self-overload o))
      beaten p (inr l) = or_right (same_overload p o) _ (both-pair _ _ l.0 l.1)

      go : (p : Overload) → Memᴰ p os → (b : Bool) → fits p.params xs ≡ b → T (yields xs o p)
      go p m true e = or_right (not (fits p.params xs)) _ (beaten p (q.over p m (rw e tt)))
      go p m false e = or_left (not (fits p.params xs)) _ (rw e tt)

  -- what is chosen from a part of the list
  chosen-gives : (rest : List Overload) → ((o : Overload) → Memᴰ o rest → Memᴰ o os) → (R : Ty) → chosen os xs rest ≡ gives R → Resolved (listed os) xs (gives R)
  unfolding Resolved chosen
  chosen-gives [] sub R e = absurd (clash e)
  chosen-gives (o ∷ rest) sub R e = go (is_preferred os xs o) refl e (λ k. chosen-gives rest (λ p m. sub p (Memᴰ.tail m)) R k)
    where
      go : (b : Bool) → is_preferred os xs o ≡ b → cond b (gives o.result) (chosen os xs rest) ≡ gives R → (chosen os xs rest ≡ gives R → Resolved (listed os) xs (gives R)) → Resolved (listed os) xs (gives R)
      go true q k ih = (o, preferred-of o (sub o (Memᴰ.head refl)) (rw q tt), sym (inner k))
      go false q k ih = ih k

  chosen_none : (rest : List Overload) → chosen os xs rest ≡ none_fits → (o : Overload) → Memᴰ o rest → T (is_preferred os xs o) → ⊥
  unfolding chosen
  chosen_none [] e o m h = Memᴰ.not-nil m
  chosen_none (p ∷ rest) e o m h = go (is_preferred os xs p) refl e (λ k n. chosen_none rest k o n h)
    where
      go : (b : Bool) → is_preferred os xs p ≡ b → cond b (gives p.result) (chosen os xs rest) ≡ none_fits → (chosen os xs rest ≡ none_fits → Memᴰ o rest → ⊥) → ⊥
      go true q k ih = clash (sym k)
      go false q k ih = ⊎_elim (λ d. subst T (ap (is_preferred os xs) d ∙ q) h) (λ n. ih k n) (Memᴰ.cases_cons m)

  -- what is given is the preferred overload's, of any list
  pub judge-gives : (R : Ty) → judge os xs ≡ gives R → Resolved (listed os) xs (gives R)
  unfolding judge
  judge-gives R e = chosen-gives os (λ p m. m) R e

  judge-none : Settled (listed os) xs → judge os xs ≡ none_fits → Resolved (listed os) xs none_fits
  unfolding Resolved judge
  judge-none s e p m h = let q = s p m h in chosen_none os e q.0 q.1.among (of-preferred q.0 q.1)

  -- THE LAW
  pub judge-resolved : Settled (listed os) xs → Resolved (listed os) xs (judge os xs)
  judge-resolved s = go (judge os xs) refl
    where
      go : (j : Judged) → judge os xs ≡ j → Resolved (listed os) xs j
      go (gives R) e = judge-gives R e
      go none_fits e = judge-none s e

  -- the only judgment that meets demand 3
  pub judge-is : (r : Judged) → Resolved (listed os) xs r → r ≡ judge os xs
  judge-is r q = one-judgment (listed os) xs r (judge os xs) q (judge-resolved (settled-by (listed os) xs r q))
