-- DEMAND 3: "a call is accepted exactly when an overload fits, all operands converting to its parameters. The result is that of one fitting
-- overload under which no operand costs more, by WGSL's conversion ranks, than under any other fitting overload; every other costs more at
-- some operand." Proved of any family that passes the test, and of any row: where an overload fits the one of the first T and the first I, in the order
-- of preference, at which the operands fit is preferred to every other, and no other family of the row fits. Assumes nothing.
use Rattle.std.proofs.Common.{◌≡◌, ℕ, ◌<◌, Bool, true, false, not, T, eqb, ltb, leb, ◌≢◌, ◌⊎◌, List, [], ◌∷◌, map, length, sym, refl, ap, ◌∙◌, subst, ap₂, inl, inr, ⊎_elim, eqb-true}
use mathlib.Core.List.{Memᴰ}
use borrow.Author.Tests.{eqb-false}
use Rattle.conv.specs.Types.{Ty}
use Rattle.conv.specs.Rank.{both, none, converts}
use Rattle.conv.proofs.Finite.{both_left, both_right, both-pair}
use Rattle.conv.proofs.Ranks.{order}
use Rattle.overload.specs.Overload.{Overload, or, fits, listed, Preferred, Resolved}
use Rattle.overload.specs.Overload.Judged.{none_fits}
use Rattle.overload.specs.Rows.{Size, Component, Pattern, Family, component_at, pattern_ty, overload, of_family}
use Rattle.overload.specs.Rows.Component.{of_t, of_i, exp_t, just}
use Rattle.overload.specs.inner.Code.{member, first_with, preference}
use Rattle.overload.proofs.Preference.{Sized, Upto, Beats, beats-T, beats-I, is_i, some, is_t, one_only, not-before, or_cases}
use Rattle.overload.proofs.First.{none_passes, first_passes, first-upto}
use Rattle.overload.proofs.Families.{Good}
use Rattle.overload.proofs.Fitting.{size_of_xs, size-of-fit, count-of-fit}
use Rattle.overload.proofs.Listing.{Of, of-family, to-family}

-- A FAMILY at operands

-- the operands' sets of T and of I: P and Q say where they fit
abbrev pub Fitted : Family → Size → List Ty → (ℕ → Bool) → (ℕ → Bool) → Type 0
Fitted f z xs P Q = (t i : ℕ) → t < 7 → i < 7 → fits (map (pattern_ty z t i) f.params) xs ≡ both (P t) (Q i)

-- those of the family's sets
abbrev pub takes : List ℕ → (ℕ → Bool) → ℕ → Bool
takes set P t = both (member t set) (P t)

module _ (f : Family) (g : Good f) (xs : List Ty) where
  -- another count, or a size that is none of the family's
  pub count-apart : length xs ≢ length f.params → Resolved (listed (of_family f)) xs none_fits
  unfolding Resolved
  count-apart n p m h = n (count-of-fit f g p (of-family f p m) xs h)

  pub size-apart : (Memᴰ (size_of_xs f xs) f.sizes → ⊥) → Resolved (listed (of_family f)) xs none_fits
  unfolding Resolved
  size-apart n p m h =
      let q = of-family f p m in
      n (subst (λ (z : Size). Memᴰ z f.sizes) (size-of-fit f g p q xs h) q.in_sizes)

  module _ (z : Size) (e : z ≡ size_of_xs f xs) (mz : Memᴰ z f.sizes) (P Q : ℕ → Bool) (law : Fitted f z xs P Q) where
    -- every fitting overload is of this size, at a T and an I of the operands' sets
    record Here (p : Overload) : Type 0 where
      t : ℕ
      i : ℕ
      ht : t < 7
      hi : i < 7
      in_t : T (takes f.set P t)
      in_i : T (takes f.second Q i)
      is : p ≡ overload f t i z

    here : (p : Overload) → Memᴰ p (of_family f) → T (fits p.params xs) → Here p
    here p m h =
        let q = of-family f p m in
        let is : p ≡ overload f q.t q.i z = q.is ∙ ap (overload f q.t q.i) (size-of-fit f g p q xs h ∙ sym e) in
        let a = g.set q.t q.in_set in
        let b = g.second q.i q.in_second in
        let k = subst T (law q.t q.i a b) (subst (λ (o : Overload). T (fits o.params xs)) is h) in
        record {
          t = q.t;
          i = q.i;
          ht = a;
          hi = b;
          in_t = both-pair _ _ q.in_set (both_left _ _ k);
          in_i = both-pair _ _ q.in_second (both_right (P q.t) _ k);
          is = is;
        }

    -- no T, or no I
    pub no-T : first_with preference (takes f.set P) ≡ none → Resolved (listed (of_family f)) xs none_fits
    unfolding Resolved
    no-T n p m h = let q = here p m h in none_passes (takes f.set P) n q.t q.ht q.in_t

    pub no-I : first_with preference (takes f.second Q) ≡ none → Resolved (listed (of_family f)) xs none_fits
    unfolding Resolved
    no-I n p m h = let q = here p m h in none_passes (takes f.second Q) n q.i q.hi q.in_i

    -- the overload of the first T and the first I
    module _ (t i : ℕ) (et : first_with preference (takes f.set P) ≡ t) (ei : first_with preference (takes f.second Q) ≡ i) (nt : t ≢ none) (ni : i ≢ none) where
      in_t : T (takes f.set P t)
      in_t = subst (λ (k : ℕ). T (takes f.set P k)) et (first_passes (takes f.set P) (λ q. nt (sym et ∙ q)))

      in_i : T (takes f.second Q i)
      in_i = subst (λ (k : ℕ). T (takes f.second Q k)) ei (first_passes (takes f.second Q) (λ q. ni (sym ei ∙ q)))

      pub small-T : t < 7
      small-T = g.set t (both_left _ _ in_t)

      pub small-I : i < 7
      small-I = g.second i (both_left _ _ in_i)

      fit : T (fits (map (pattern_ty z t i) f.params) xs)
      fit = subst T (sym (law t i small-T small-I)) (both-pair _ _ (both_right (member t f.set) _ in_t) (both_right (member i f.second) _ in_i))

      over : (p : Overload) → Here p → T (fits p.params xs) → (p ≡ overload f t i z) ⊎ Beats xs (overload f t i z).params p.params
      over p q h = go up_t up_i
        where
          up_t : Upto t q.t
          up_t = subst (λ (k : ℕ). Upto k q.t) et (first-upto (takes f.set P) q.t q.ht q.in_t)

          up_i : Upto i q.i
          up_i = subst (λ (k : ℕ). Upto k q.i) ei (first-upto (takes f.second Q) q.i q.hi q.in_i)

          other : T (fits (map (pattern_ty z q.t q.i) f.params) xs)
          other = subst (λ (o : Overload). T (fits o.params xs)) q.is h

          won : Beats xs (map (pattern_ty z t i) f.params) (map (pattern_ty z q.t q.i) f.params) → (p ≡ overload f t i z) ⊎ Beats xs (overload f t i z).params p.params
          won b = inr (subst (λ (o : Overload). Beats xs (overload f t i z).params o.params) (sym q.is) b)

          sized : Sized z
          sized = (g.fair z mz).sized

          by_t : T (ltb (order t) (order q.t)) → Beats xs (map (pattern_ty z t i) f.params) (map (pattern_ty z q.t q.i) f.params)
          by_t l =
              ⊎_elim (λ o. absurd (not-before t q.t (one_only f.set o t q.t (both_left _ _ in_t) (both_left _ _ q.in_t)) l))
              (λ o. beats-T z f.set t q.t i q.i sized (both_left _ _ in_t) (both_left _ _ q.in_t) small-T q.ht small-I q.hi up_t up_i xs f.params g.small fit other l o)
              (or_cases (leb (length f.set) 1) (some is_t f.params) g.of_some_t)

          by_i : T (ltb (order i) (order q.i)) → Beats xs (map (pattern_ty z t i) f.params) (map (pattern_ty z q.t q.i) f.params)
          by_i l =
              ⊎_elim (λ o. absurd (not-before i q.i (one_only f.second o i q.i (both_left _ _ in_i) (both_left _ _ q.in_i)) l))
              (λ o. beats-I z f.set t q.t i q.i sized (both_left _ _ in_t) (both_left _ _ q.in_t) small-T q.ht small-I q.hi up_t up_i xs f.params g.small fit other l o)
              (or_cases (leb (length f.second) 1) (some is_i f.params) g.of_some_i)

          go : Upto t q.t → Upto i q.i → (p ≡ overload f t i z) ⊎ Beats xs (overload f t i z).params p.params
          go (inr l) b = won (by_t l)
          go (inl a) (inr l) = won (by_i l)
          go (inl a) (inl b) = inl (q.is ∙ (λ j. overload f (sym a j) (sym b j) z))

      pub first-preferred : Preferred (listed (of_family f)) xs (overload f t i z)
      first-preferred =
          record {
            among = to-family f t i z (both_left _ _ in_t) (both_left _ _ in_i) mz;
            fitting = fit;
            over = λ p m h. over p (here p m h) h;
          }

-- the sets of any operands: those at which the parameters that are not of I fit, and those that are
unfoldable part_t : Size → ℕ → List Pattern → List Ty → Bool
part_t z t [] [] = true
part_t z t [] (x ∷ xs) = false
part_t z t (p ∷ ps) [] = false
part_t z t (p ∷ ps) (x ∷ xs) = both (or (is_i p.of) (converts x (pattern_ty z t 0 p))) (part_t z t ps xs)

unfoldable part_i : Size → ℕ → List Pattern → List Ty → Bool
part_i z i [] [] = true
part_i z i [] (x ∷ xs) = true
part_i z i (p ∷ ps) [] = true
part_i z i (p ∷ ps) (x ∷ xs) = both (or (not (is_i p.of)) (converts x (pattern_ty z 0 i p))) (part_i z i ps xs)

both_yes : (a : Bool) → a ≡ both a true
unfolding both
both_yes true = refl
both_yes false = refl

-- no operand depends on both
slot-parts : (x : Ty) (z : Size) (t i : ℕ) (fm : _) (c : Component)
    → converts x (pattern_ty z t i (record { form = fm; of = c })) ≡ both (or (is_i c) (converts x (pattern_ty z t 0 (record { form = fm; of = c })))) (or (not (is_i c)) (converts x (pattern_ty z 0 i (record { form = fm; of = c }))))
unfolding component_at or both
slot-parts x z t i fm of_t = both_yes _
slot-parts x z t i fm of_i = refl
slot-parts x z t i fm exp_t = both_yes _
slot-parts x z t i fm (just s) = both_yes _

shuffle : (a b c d : Bool) → both (both a b) (both c d) ≡ both (both a c) (both b d)
unfolding both
shuffle true true c d = refl
shuffle true false true d = refl
shuffle true false false d = refl
shuffle false b c d = refl

parts : (z : Size) (t i : ℕ) (ps : List Pattern) (xs : List Ty) → fits (map (pattern_ty z t i) ps) xs ≡ both (part_t z t ps xs) (part_i z i ps xs)
unfolding fits part_t part_i both
parts z t i [] [] = refl
parts z t i [] (x ∷ xs) = refl
parts z t i (p ∷ ps) [] = refl
parts z t i (p ∷ ps) (x ∷ xs) =
    ap₂ both (slot-parts x z t i p.form p.of) (parts z t i ps xs)
    ∙ shuffle (or (is_i p.of) (converts x (pattern_ty z t 0 p))) (or (not (is_i p.of)) (converts x (pattern_ty z 0 i p))) (part_t z t ps xs) (part_i z i ps xs)

-- so where an overload of a family fits one is preferred
pub family-preferred : (f : Family) → Good f → (xs : List Ty) (p : Overload) → Memᴰ p (of_family f) → T (fits p.params xs) → (o : Overload) × Preferred (listed (of_family f)) xs o
unfolding Resolved
family-preferred f g xs p m h = go (eqb t none) refl (eqb i none) refl
  where
    q : Of f p
    q = of-family f p m

    z : Size
    z = q.z

    P : ℕ → Bool
    P t = part_t z t f.params xs

    Q : ℕ → Bool
    Q i = part_i z i f.params xs

    e : z ≡ size_of_xs f xs
    e = size-of-fit f g p q xs h

    law : Fitted f z xs P Q
    law t i a b = parts z t i f.params xs

    t : ℕ
    t = first_with preference (takes f.set P)

    i : ℕ
    i = first_with preference (takes f.second Q)

    go : (a : Bool) → eqb t none ≡ a → (b : Bool) → eqb i none ≡ b → (o : Overload) × Preferred (listed (of_family f)) xs o
    go true a b c = absurd (no-T f g xs z e q.in_sizes P Q law (eqb-true t none a) p m h)
    go false a true c = absurd (no-I f g xs z e q.in_sizes P Q law (eqb-true i none c) p m h)
    go false a false c = (overload f t i z, first-preferred f g xs z e q.in_sizes P Q law t i refl refl (eqb-false t none a) (eqb-false i none c))
