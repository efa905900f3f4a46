-- What an operand costs at a parameter, both by their numbers; and a list of operands at a list of parameters, from a place on. Assumes nothing.
use Prim.Native.Nat.{ℕ, suc, ◌+◌, ◌/◌, ◌%◌, ◌≤◌, ◌<◌}
use mathlib.Core.Path.{◌≡◌, refl, sym, ◌∙◌, ap}
use mathlib.Core.Logic.{◌≢◌}
use mathlib.Core.Bool.{Bool, true, false, ◌||◌, cond}
use mathlib.Core.List.{List, map}
use native.Mathlib.Numerals.{add-one}
use native.Mathlib.Omega.{arith}
use lib.Dec.{T, eqb, ltb, leb}
use lib.ListN.{length, get_or, drop, drop_of_length-le}
use lib.Seq.{drop-cons}
use borrow.Author.Tests.{eq-eqb, ne_eqb, lt-ltb, le-ltb, le-leb, lt-leb, ltb-true, ltb-false}
use Rattle.conv.specs.Types.{abstract_ty, is_abstract}
use Rattle.conv.specs.Rank.{pick, both, none, rank_of, form_of, same_shape, component_of, conversion_rank, made, found}
use Rattle.overload.specs.Overload.{or, no_more, less}
use Rattle.overload.specs.inner.Code.{shape_of_no, operand}
use Rattle.overload.proofs.Slots.{by_shape}
use Rattle.weigh.specs.Weigh.{first_by, first_miss, place_in}
use Rattle.std.specs.Prelude.{Option, Some, None, is_some, unwrap_or}
use Rattle.conv.proofs.Answered.{rank-found}
use Rattle.conv.proofs.Finite.{both_left, both_right, same, same-eq, below, below₂}
use Rattle.conv.proofs.Made.{made-rank, shape-made}

-- two shapes by their numbers are one exactly where the numbers are
shape_test : ℕ → ℕ → Bool
shape_test n k = both (ltb (form_of (shape_of_no n)) 3) (same (same_shape (shape_of_no k) (shape_of_no n)) (eqb k n))

shape-tests : (n k : ℕ) → n < 13 → k < 37 → T (shape_test n k)
unfolding shape_test same both shape_of_no
shape-tests n k hn hk = below₂ 13 37 shape_test tt n k hn hk

module _ (x p : ℕ) (hx : x < 256) (hp : p < 91) where
  pub cost : conversion_rank (operand x) (operand p) ≡ pick (eqb (x / 7) (p / 7)) (rank_of (x % 7) (p % 7)) none
  unfolding shape_test
  cost =
      let t = shape-tests (p / 7) (x / 7) (omega arith) (omega arith) in
      made-rank (operand x) (shape_of_no (p / 7)) (p % 7) (both_left _ _ t) (omega arith)
      ∙ (λ j. pick (same_shape (shape-made (shape_of_no (x / 7)) (x % 7) j) (shape_of_no (p / 7))) (rank_of (component_of (operand x)) (p % 7)) none)
      ∙ by_shape (shape_of_no (x / 7)) (x % 7) (shape_of_no (p / 7)) (p % 7)
      ∙ ap (λ (b : Bool). pick b (rank_of (x % 7) (p % 7)) none) (same-eq _ _ (both_right (ltb (form_of (shape_of_no (p / 7))) 3) _ t))

  pub cost-same : x / 7 ≡ p / 7 → rank_of (x % 7) (p % 7) ≡ conversion_rank (operand x) (operand p)
  cost-same e = sym (cost ∙ ap (λ (b : Bool). pick b (rank_of (x % 7) (p % 7)) none) (eq-eqb (x / 7) (p / 7) e))

  pub cost-other : x / 7 ≢ p / 7 → 255 ≡ conversion_rank (operand x) (operand p)
  cost-other e = sym (cost ∙ ap (λ (b : Bool). pick b (rank_of (x % 7) (p % 7)) none) (ne_eqb (x / 7) (p / 7) e))

  -- an operand has a rank exactly where it converts
  pub cost-found : is_some (found (conversion_rank (operand x) (operand p))) ≡ ltb (conversion_rank (operand x) (operand p)) none
  cost-found = ap (λ (r : ℕ). is_some (found r)) cost ∙ go (eqb (x / 7) (p / 7)) ∙ sym (ap (λ (r : ℕ). ltb r none) cost)
    where
      go : (b : Bool) → is_some (found (pick b (rank_of (x % 7) (p % 7)) none)) ≡ ltb (pick b (rank_of (x % 7) (p % 7)) none) none
      go true = rank-found (x % 7) (p % 7)
      go false = refl

-- A PLACE as the code answers it

pub place-at : (n k : ℕ) → k < n → place_in n k ≡ Some k
place-at n k h = rw (lt-ltb k n h)

pub place-past : (n k : ℕ) → n ≤ k → place_in n k ≡ None
place-past n k h = rw (le-ltb k n h)

pub place-there : (n k : ℕ) → is_some (place_in n k) ≡ ltb k n
place-there n k = go (ltb k n)
  where
    go : (b : Bool) → is_some (cond b (Some k) None) ≡ b
    go true = refl
    go false = refl

-- whether there is one
module _ (n k : ℕ) (r : Option ℕ) (e : r ≡ place_in n k) where
  pub placed : is_some r ≡ true → k < n
  placed h = ltb-true k n (sym (ap is_some e ∙ place-there n k) ∙ h)

  pub not-placed : is_some r ≡ false → n ≤ k
  not-placed h = ltb-false k n (sym (ap is_some e ∙ place-there n k) ∙ h)

  pub placed-at : (i : ℕ) → r ≡ Some i → (k < n) × (k ≡ i)
  placed-at i q =
      let l : k < n = placed (ap is_some q) in
      let same : Some k ≡ Some i = sym (e ∙ place-at n k l) ∙ q in
      (l, cc)

  pub placed-or : (k ≤ n) → unwrap_or r n ≡ k
  placed-or h = ap (λ (s : Option ℕ). unwrap_or s n) e ∙ go (ltb k n) refl
    where
      go : (b : Bool) → ltb k n ≡ b → unwrap_or (cond b (Some k) None) n ≡ k
      go true q = refl
      go false q = let l = ltb-false k n q in omega arith

-- THE FIRST THAT DOES NOT CONVERT: how many were passed, and the first of those that are left

abbrev miss_from : List ℕ → List ℕ → ℕ → ℕ
miss_from ps xs i = first_miss (map operand (drop i ps)) (map operand (drop i xs))

module _ (ps xs : List ℕ) (i : ℕ) (hp : i < length ps) (hx : i < length xs) where
  abbrev fee : ℕ
  fee = conversion_rank (operand (get_or xs i 0)) (operand (get_or ps i 0))

  miss-at : miss_from ps xs i ≡ cond (ltb fee none) (suc (miss_from ps xs (i + 1))) 0
  unfolding first_miss
  miss-at = rw (add-one, drop-cons ps i 0 hp, drop-cons xs i 0 hx)

  -- by whether it has a rank
  module _ (small : get_or xs i 0 < 256) (shaped : get_or ps i 0 < 91) where
    ranked : is_some (found fee) ≡ ltb fee none
    ranked = cost-found (get_or xs i 0) (get_or ps i 0) small shaped

    pub miss-here : is_some (found fee) ≡ false → miss_from ps xs i ≡ 0
    miss-here e = miss-at ∙ ap (λ (b : Bool). cond b (suc (miss_from ps xs (i + 1))) 0) (sym ranked ∙ e)

    pub miss_later : is_some (found fee) ≡ true → miss_from ps xs i ≡ suc (miss_from ps xs (i + 1))
    miss_later e = miss-at ∙ ap (λ (b : Bool). cond b (suc (miss_from ps xs (i + 1))) 0) (sym ranked ∙ e)

pub miss-end : (ps xs : List ℕ) (i : ℕ) → length ps ≤ i → miss_from ps xs i ≡ 0
unfolding first_miss
miss-end ps xs i h = rw (drop_of_length-le ps h)

-- THE FIRST THAT IS ABSTRACT

abstract-made : (x : ℕ) → x < 91 → abstract_ty (operand x) ≡ is_abstract (x % 7)
unfolding abstract_ty made shape_of_no both same
abstract-made x h = same-eq _ _ (below 91 (λ y. same (abstract_ty (operand y)) (is_abstract (y % 7))) tt x h)

abbrev abstract_from : List ℕ → ℕ → ℕ
abstract_from ps i = first_by abstract_ty (map operand (drop i ps))

module _ (ps : List ℕ) (i : ℕ) (hp : i < length ps) (small : get_or ps i 0 < 91) where
  abstract-at : abstract_from ps i ≡ cond (is_abstract (get_or ps i 0 % 7)) 0 (suc (abstract_from ps (i + 1)))
  unfolding first_by
  abstract-at = rw (add-one, drop-cons ps i 0 hp, abstract-made (get_or ps i 0) small)

  pub abstract-here : is_abstract (get_or ps i 0 % 7) ≡ true → abstract_from ps i ≡ 0
  abstract-here e = abstract-at ∙ ap (λ (b : Bool). cond b 0 (suc (abstract_from ps (i + 1)))) e

  pub abstract-later : is_abstract (get_or ps i 0 % 7) ≡ false → abstract_from ps i ≡ suc (abstract_from ps (i + 1))
  abstract-later e = abstract-at ∙ ap (λ (b : Bool). cond b 0 (suc (abstract_from ps (i + 1)))) e

pub abstract-end : (ps : List ℕ) (i : ℕ) → length ps ≤ i → abstract_from ps i ≡ 0
unfolding first_by
abstract-end ps i h = rw (drop_of_length-le ps h)

-- WHICH IS PREFERRED: of the operands that are left, and whether one of those passed costs less

abbrev beats_from : List ℕ → List ℕ → List ℕ → ℕ → Bool → Bool
beats_from xs ps qs i l =
    both (no_more (map operand (drop i xs)) (map operand (drop i ps)) (map operand (drop i qs))) (or l (less (map operand (drop i xs)) (map operand (drop i ps)) (map operand (drop i qs))))

or-more : (l b m : Bool) → or l (or b m) ≡ or (l || b) m
unfolding or
or-more true b m = refl
or-more false true m = refl
or-more false false m = refl

or-none : (l : Bool) → or l false ≡ l
unfolding or
or-none true = refl
or-none false = refl

module _ (xs ps qs : List ℕ) (i : ℕ) (hx : i < length xs) (hp : i < length ps) (hq : i < length qs) where
  abbrev a : ℕ
  a = conversion_rank (operand (get_or xs i 0)) (operand (get_or ps i 0))

  abbrev b : ℕ
  b = conversion_rank (operand (get_or xs i 0)) (operand (get_or qs i 0))

  abbrev no_more_left : Bool
  no_more_left = no_more (map operand (drop (i + 1) xs)) (map operand (drop (i + 1) ps)) (map operand (drop (i + 1) qs))

  abbrev less_left : Bool
  less_left = less (map operand (drop (i + 1) xs)) (map operand (drop (i + 1) ps)) (map operand (drop (i + 1) qs))

  beats-at : (l : Bool) → beats_from xs ps qs i l ≡ both (both (leb a b) no_more_left) (or l (or (ltb a b) less_left))
  unfolding no_more less
  beats-at l = rw (add-one, drop-cons xs i 0 hx, drop-cons ps i 0 hp, drop-cons qs i 0 hq)

  pub beats-not : (l : Bool) → b < a → beats_from xs ps qs i l ≡ false
  unfolding both
  beats-not l h = beats-at l ∙ ap (λ (t : Bool). both (both t no_more_left) (or l (or (ltb a b) less_left))) (lt-leb a b h)

  pub beats-on : (l : Bool) → a ≤ b → beats_from xs ps qs i l ≡ beats_from xs ps qs (i + 1) (l || ltb a b)
  unfolding both
  beats-on l h = beats-at l ∙ ap (λ (t : Bool). both (both t no_more_left) (or l (or (ltb a b) less_left))) (le-leb a b h) ∙ ap (both no_more_left) (or-more l (ltb a b) less_left)

pub beats-end : (xs ps qs : List ℕ) (i : ℕ) (l : Bool) → length xs ≤ i → beats_from xs ps qs i l ≡ l
unfolding no_more less both
beats-end xs ps qs i l h = rw (drop_of_length-le xs h, or-none l)
