-- What remains of a family by a test that goes by T is a family again, whose set has the concrete T alone where the test asks for them. So what is proved of families holds
-- of what K3 leaves of them. Assumes nothing.
use Rattle.std.proofs.Common.{◌≡◌, ℕ, ◌≤◌, Bool, true, false, cond, not, T, eqb, leb, List, [], ◌∷◌, length, sym, refl, ap, ◌∙◌, subst, ⊎_elim, arith, le→leb, eqb→eq, leb→le}
use mathlib.Core.List.Memᴰ
use mathlib.Core.List.{Memᴰ}
use Rattle.conv.specs.Types.{Ty, is_float, is_abstract}
use Rattle.conv.specs.Rank.{both}
use Rattle.conv.proofs.Finite.{both_left, both_right, both-pair}
use Rattle.overload.specs.Overload.{Overload, or, listed, Preferred, Judged, Resolved}
use Rattle.overload.specs.Marks.{passing, sifted}
use Rattle.overload.specs.Rows.{Size, Pattern, Family, overload, of_family}
use Rattle.overload.specs.Rows.Component.{of_t, of_i, exp_t, just}
use Rattle.overload.specs.inner.Code.{member, pivot_no, left_t}
use Rattle.overload.proofs.Preference.{all_float, fine, all_fine, is_t, some, or_cases, or_left, or_right, same-preferred, same-resolved}
use Rattle.overload.proofs.Families.{Good, Fair}
use Rattle.overload.proofs.Listing.{of-family, to-family}

-- WHAT PASSES A TEST, of a list

module _ (g : Overload → Bool) where
  pub to-sifted : (os : List Overload) (o : Overload) → passing g (listed os) o → Memᴰ o (sifted g os)
  unfolding sifted
  to-sifted [] o m = absurd (Memᴰ.not-nil m.0)
  to-sifted (p ∷ ps) o m =
      ⊎_elim (λ e. here (g p) refl e) (λ n. there (g p) (to-sifted ps o (n, m.1))) (Memᴰ.cases_cons m.0)
    where
      here : (b : Bool) → g p ≡ b → o ≡ p → Memᴰ o (cond b (p ∷ sifted g ps) (sifted g ps))
      here true e q = Memᴰ.head q
      here false e q = absurd (subst T (ap g q ∙ e) m.1)

      there : (b : Bool) → Memᴰ o (sifted g ps) → Memᴰ o (cond b (p ∷ sifted g ps) (sifted g ps))
      there true n = Memᴰ.tail n
      there false n = n

  pub of-sifted : (os : List Overload) (o : Overload) → Memᴰ o (sifted g os) → passing g (listed os) o
  unfolding sifted
  of-sifted [] o m = absurd (Memᴰ.not-nil m)
  of-sifted (p ∷ ps) o m = go (g p) refl (λ n. let r = of-sifted ps o n in (Memᴰ.tail r.0, r.1)) m
    where
      go : (b : Bool) → g p ≡ b → (Memᴰ o (sifted g ps) → passing g (listed (p ∷ ps)) o) → Memᴰ o (cond b (p ∷ sifted g ps) (sifted g ps)) → passing g (listed (p ∷ ps)) o
      go true e later n = ⊎_elim (λ q. (Memᴰ.head q, subst T (sym (ap g q ∙ e)) tt)) later (Memᴰ.cases_cons n)
      go false e later n = later n

  -- where all pass, all remain
  pub all-sifted : (os : List Overload) → ((o : Overload) → Memᴰ o os → g o ≡ true) → sifted g os ≡ os
  unfolding sifted
  all-sifted [] h = refl
  all-sifted (p ∷ ps) h =
      ap (λ (b : Bool). cond b (p ∷ sifted g ps) (sifted g ps)) (h p (Memᴰ.head refl)) ∙ ap (λ (l : List Overload). p ∷ l) (all-sifted ps (λ o m. h o (Memᴰ.tail m)))

-- A SET OF T, less the abstract ones where a flag is set

unfoldable pub concretes : List ℕ → List ℕ
concretes [] = []
concretes (t ∷ ts) = cond (is_abstract t) (concretes ts) (t ∷ concretes ts)

unfoldable pub left_set : Bool → List ℕ → List ℕ
left_set true ts = concretes ts
left_set false ts = ts

both_yes : (a : Bool) → both a true ≡ a
unfolding both
both_yes true = refl
both_yes false = refl

both-no : (a : Bool) → both a false ≡ false
unfolding both
both-no true = refl
both-no false = refl

concrete-member : (t : ℕ) (ts : List ℕ) → member t (concretes ts) ≡ both (member t ts) (not (is_abstract t))
unfolding concretes member both or
concrete-member t [] = refl
concrete-member t (u ∷ us) = go (is_abstract u) refl (eqb t u) refl (concrete-member t us)
  where
    at : (b : Bool) → eqb t u ≡ b → b ≡ true → is_abstract t ≡ is_abstract u
    at b e q = ap is_abstract (eqb→eq t u (subst T (sym (e ∙ q)) tt))

    go : (b : Bool) → is_abstract u ≡ b → (c : Bool) → eqb t u ≡ c → member t (concretes us) ≡ both (member t us) (not (is_abstract t))
        → member t (cond b (concretes us) (u ∷ concretes us)) ≡ both (or c (member t us)) (not (is_abstract t))
    go true e true d ih =
        let q = at true d refl ∙ e in
        ih ∙ ap (λ (x : Bool). both (member t us) (not x)) q ∙ both-no (member t us) ∙ sym (ap not q)
    go true e false d ih = ih
    go false e true d ih = let q = at true d refl ∙ e in ap (λ (x : Bool). or x (member t (concretes us))) d ∙ sym (ap not q)
    go false e false d ih = ap (λ (x : Bool). or x (member t (concretes us))) d ∙ ih

pub left-member : (b : Bool) (t : ℕ) (ts : List ℕ) → member t (left_set b ts) ≡ both (member t ts) (left_t b t)
unfolding left_set or
left-member true t ts = concrete-member t ts
left-member false t ts = sym (both_yes (member t ts))

concrete-few : (ts : List ℕ) → length (concretes ts) ≤ length ts
unfolding concretes
concrete-few [] = omega arith
concrete-few (t ∷ ts) = go (is_abstract t) (concrete-few ts)
  where
    go : (b : Bool) → length (concretes ts) ≤ length ts → length (cond b (concretes ts) (t ∷ concretes ts)) ≤ length (t ∷ ts)
    go true l = omega arith
    go false l = omega arith

left-few : (b : Bool) (ts : List ℕ) → T (leb (length ts) 1) → T (leb (length (left_set b ts)) 1)
unfolding left_set
left-few true ts h = let l = leb→le (length ts) 1 h in let k = concrete-few ts in le→leb (length (concretes ts)) 1 (omega arith)
left-few false ts h = h

concrete-float : (ts : List ℕ) → T (all_float ts) → T (all_float (concretes ts))
unfolding concretes all_float
concrete-float [] h = tt
concrete-float (t ∷ ts) h = go (is_abstract t) (concrete-float ts (both_right (is_float t) _ h))
  where
    go : (b : Bool) → T (all_float (concretes ts)) → T (all_float (cond b (concretes ts) (t ∷ concretes ts)))
    go true k = k
    go false k = both-pair _ _ (both_left _ _ h) k

left-float : (b : Bool) (ts : List ℕ) → T (all_float ts) → T (all_float (left_set b ts))
unfolding left_set
left-float true ts h = concrete-float ts h
left-float false ts h = h

left-fine : (b : Bool) (set : List ℕ) (ps : List Pattern) → T (all_fine set ps) → T (all_fine (left_set b set) ps)
left-fine b set [] h = tt
left-fine b set (p ∷ ps) h = both-pair _ _ (one p.of (both_left _ _ h)) (left-fine b set ps (both_right (fine set p.of) _ h))
  where
    one : (c : _) → T (fine set c) → T (fine (left_set b set) c)
    one of_t k = tt
    one of_i k = tt
    one exp_t k = left-float b set k
    one (just s) k = k

-- A FAMILY, so narrowed
abbrev pub narrow : Bool → Family → Family
narrow b f =
    record { set = left_set b f.set; second = f.second; sizes = f.sizes; params = f.params; wrap = f.wrap; result = f.result }

module _ (b : Bool) (f : Family) (g : Good f) where
  narrow-fair : (z : Size) → Fair f z → Fair (narrow b f) z
  unfolding pivot_no
  narrow-fair z q =
      record { by = q.by; back = q.back; small = q.small; sized = q.sized; params = q.params; result = q.result; nothing = q.nothing }

  pub narrow_good : Good (narrow b f)
  unfolding pivot_no
  narrow_good =
      record {
        few = g.few;
        small = left-fine b f.set f.params g.small;
        of_some_t = ⊎_elim (λ h. or_left _ _ (left-few b f.set h)) (λ h. or_right (leb (length (left_set b f.set)) 1) _ h) (or_cases _ (some is_t f.params) g.of_some_t);
        of_some_i = g.of_some_i;
        result = g.result;
        set = λ t m. g.set t (both_left _ _ (subst T (left-member b t f.set) m));
        second = g.second;
        single = g.single;
        fair = λ z m. narrow-fair z (g.fair z m);
      }

-- A TEST THAT GOES BY T: at every overload of the family it asks whether T is left
abbrev pub ByT : (Overload → Bool) → Family → Bool → Type 0
ByT test f b = (t i : ℕ) (z : Size) → T (member t f.set) → T (member i f.second) → Memᴰ z f.sizes → test (overload f t i z) ≡ left_t b t

module _ (test : Overload → Bool) (f : Family) (b : Bool) (law : ByT test f b) where
  pub to_narrow : (o : Overload) → passing test (listed (of_family f)) o → Memᴰ o (of_family (narrow b f))
  to_narrow o m =
      let q = of-family f o m.0 in
      let h : T (left_t b q.t) = subst T (ap test q.is ∙ law q.t q.i q.z q.in_set q.in_second q.in_sizes) m.1 in
      subst (λ (p : Overload). Memᴰ p (of_family (narrow b f))) (sym q.is)
      (to-family (narrow b f) q.t q.i q.z (subst T (sym (left-member b q.t f.set)) (both-pair _ _ q.in_set h)) q.in_second q.in_sizes)

  pub of_narrow : (o : Overload) → Memᴰ o (of_family (narrow b f)) → passing test (listed (of_family f)) o
  of_narrow o m =
      let q = of-family (narrow b f) o m in
      let k = subst T (left-member b q.t f.set) q.in_set in
      let in_set = both_left (member q.t f.set) _ k in
      let left = both_right (member q.t f.set) _ k in (
        subst (λ (p : Overload). Memᴰ p (of_family f)) (sym q.is) (to-family f q.t q.i q.z in_set q.in_second q.in_sizes),
        subst T (sym (ap test q.is ∙ law q.t q.i q.z in_set q.in_second q.in_sizes)) left,
      )

  -- so what is judged of the narrowed family is judged of what passes
  pub narrow-resolved : (xs : List Ty) (j : Judged) → Resolved (listed (of_family (narrow b f))) xs j → Resolved (passing test (listed (of_family f))) xs j
  narrow-resolved xs j q = same-resolved (listed (of_family (narrow b f))) (passing test (listed (of_family f))) xs (λ p h m. of_narrow p m) (λ p h m. to_narrow p m) j q

  pub narrow-preferred : (xs : List Ty) (o : Overload) → Preferred (listed (of_family (narrow b f))) xs o → Preferred (passing test (listed (of_family f))) xs o
  narrow-preferred xs o q = same-preferred (listed (of_family (narrow b f))) (passing test (listed (of_family f))) xs (λ p h m. of_narrow p m) (λ p h m. to_narrow p m) o q
