-- The laws of ranks that everything above uses: numbers outside the domain, the rank of plain numbers by width and component, the
-- preference order of scalars, and the join. Each test over the domain is computed. Assumes nothing.
use Prim.Native.Nat.{ℕ, ◌/◌, ◌%◌, ◌<◌, ◌≤◌}
use native.Mathlib.Omega.{arith}
use mathlib.Core.Path.{◌≡◌, refl}
use mathlib.Core.Bool.{Bool, true, false, not}
use mathlib.Core.List.{[], ◌∷◌}
use mathlib.Core.Logic.{◌≢◌, ◌⊎◌, inl, inr}
use lib.Dec.{T, eqb, ltb, eqb→eq, ltb→lt}
use lib.ListN.{get_or}
use borrow.Author.Tests.{lt-ltb, le-ltb, ltb-true, ltb-false, eqb-true, eq-eqb, ne_eqb}
use Rattle.conv.specs.Rank.{pick, both, none, rank_of, shape_of, component_of, tag_of, first_of, second_of, element_of, same_ty, conversion_rank, made, plain, common_of, plain_rank, accepts}
use Rattle.conv.proofs.Finite.{both_left, both_right, same, same-eq, implies, modus, all, below, below₂, below₃}

-- numbers outside the domain convert to nothing, and nothing converts to them

pub rank-from : (a b : ℕ) → 7 ≤ a → rank_of a b ≡ none
unfolding rank_of both
rank-from a b h =
    let p : a ≢ 1 = omega arith in
    let q : a ≢ 2 = omega arith in
    simp (le-ltb a 7 h, ne_eqb a 1 p, ne_eqb a 2 q)

both-no : (x : Bool) → both x false ≡ false
unfolding both
both-no true = refl
both-no false = refl

inside : (a b : ℕ) → a < 7 → 7 ≤ b → rank_of a b ≡ none
unfolding rank_of
inside a b l h =
    let p : a ≢ b = omega arith in
    let p2 : b ≢ 2 = omega arith in
    let p3 : b ≢ 3 = omega arith in
    let p4 : b ≢ 4 = omega arith in
    let p5 : b ≢ 5 = omega arith in
    let p6 : b ≢ 6 = omega arith in
    simp (ne_eqb a b p, ne_eqb b 2 p2, ne_eqb b 3 p3, ne_eqb b 4 p4, ne_eqb b 5 p5, ne_eqb b 6 p6, both-no)

pub rank-to : (a b : ℕ) → 7 ≤ b → rank_of a b ≡ none
rank-to a b h = go (ltb a 7) refl
  where
    go : (x : Bool) → ltb a 7 ≡ x → rank_of a b ≡ none
    go true e = inside a b (ltb-true a 7 e) h
    go false e = rank-from a b (ltb-false a 7 e)

-- plain numbers convert where their widths are equal, by component

by_width : ℕ → ℕ → Bool
by_width a b = eqb (plain_rank a b) (pick (eqb (a / 7) (b / 7)) (rank_of (a % 7) (b % 7)) none)

pub plain-rank : (a b : ℕ) → a < 28 → b < 28 → plain_rank a b ≡ pick (eqb (a / 7) (b / 7)) (rank_of (a % 7) (b % 7)) none
unfolding by_width both rank_of shape_of component_of tag_of first_of second_of element_of same_ty conversion_rank made plain plain_rank
plain-rank a b ha hb = eqb→eq _ _ (below₂ 28 28 by_width tt a b ha hb)

pub plain-from : (a b : ℕ) → 28 ≤ a → plain_rank a b ≡ none
unfolding plain_rank both
plain-from a b h = rw (le-ltb a 28 h)

pub plain-to : (a b : ℕ) → a < 28 → 28 ≤ b → plain_rank a b ≡ none
unfolding plain_rank both
plain-to a b l h = rw (lt-ltb a 28 l, le-ltb b 28 h)

pub common-from : (a b : ℕ) → 28 ≤ a → common_of a b ≡ none
unfolding common_of both
common-from a b h = rw (le-ltb a 28 h)

pub common-to : (a b : ℕ) → a < 28 → 28 ≤ b → common_of a b ≡ none
unfolding common_of both
common-to a b l h = rw (lt-ltb a 28 l, le-ltb b 28 h)

-- THE PREFERENCE ORDER: along bool, AbstractInt, i32, u32, AbstractFloat, f32, f16 every row of the board rises strictly where it converts

abbrev pub order : ℕ → ℕ
order s = get_or (0 ∷ 1 ∷ 4 ∷ 2 ∷ 3 ∷ 5 ∷ 6 ∷ []) s 0

rises_at : ℕ → ℕ → ℕ → Bool
rises_at a b c =
    implies (ltb (rank_of a b) none) (implies (ltb (rank_of a c) none) (implies (ltb (order b) (order c)) (ltb (rank_of a b) (rank_of a c))))

rises-all : (a b c : ℕ) → a < 7 → b < 7 → c < 7 → T (rises_at a b c)
unfolding rises_at rank_of both implies
rises-all a b c ha hb hc = below₃ 7 7 7 rises_at tt a b c ha hb hc

pub rises : (a b c : ℕ) → a < 7 → b < 7 → c < 7 → T (ltb (rank_of a b) none) → T (ltb (rank_of a c) none) → T (ltb (order b) (order c))
    → T (ltb (rank_of a b) (rank_of a c))
unfolding rises_at
rises a b c ha hb hc p q r = modus _ _ (modus _ _ (modus _ _ (rises-all a b c ha hb hc) p) q) r

-- the common type of two of one width is none, or of that width

width_kept : ℕ → ℕ → Bool
width_kept j b =
    implies (eqb (j / 7) (b / 7)) (implies (not (eqb (common_of j b) none)) (both (ltb (common_of j b) 28) (eqb (common_of j b / 7) (j / 7))))

width-kept : (j b : ℕ) → j < 28 → b < 28 → T (width_kept j b)
unfolding width_kept implies both rank_of shape_of component_of tag_of first_of second_of element_of same_ty conversion_rank made plain common_of
width-kept j b hj hb = below₂ 28 28 width_kept tt j b hj hb

pub common-width : (j b : ℕ) → j < 28 → b < 28 → j / 7 ≡ b / 7 → (common_of j b ≡ none) ⊎ ((common_of j b < 28) × (common_of j b / 7 ≡ j / 7))
unfolding width_kept
common-width j b hj hb e = go (eqb (common_of j b) none) refl
  where
    h : T (implies (not (eqb (common_of j b) none)) (both (ltb (common_of j b) 28) (eqb (common_of j b / 7) (j / 7))))
    h = modus _ _ (width-kept j b hj hb) (rw (eq-eqb (j / 7) (b / 7) e) tt)

    go : (x : Bool) → eqb (common_of j b) none ≡ x → (common_of j b ≡ none) ⊎ ((common_of j b < 28) × (common_of j b / 7 ≡ j / 7))
    go true q = inl (eqb-true _ _ q)
    go false q =
        let k = modus _ _ h (rw q tt) in
        inr (ltb→lt (common_of j b) 28 (both_left _ _ k), eqb→eq (common_of j b / 7) (j / 7) (both_right (ltb (common_of j b) 28) _ k))

-- THE JOIN: two plain types of one width both convert to that width of t exactly when their common type is there and converts to it

join_at : ℕ → ℕ → ℕ → Bool
join_at j b t = same (accepts (common_of j b) t) (both (accepts j t) (accepts b t))

joins : ℕ → ℕ → Bool
joins j b = implies (eqb (j / 7) (b / 7)) (all 7 (join_at j b))

joins-all : (j b : ℕ) → j < 28 → b < 28 → T (joins j b)
unfolding joins join_at implies same both rank_of shape_of component_of tag_of first_of second_of element_of same_ty conversion_rank made plain common_of
joins-all j b hj hb = below₂ 28 28 joins tt j b hj hb

pub join : (j b : ℕ) → j < 28 → b < 28 → j / 7 ≡ b / 7 → (t : ℕ) → t < 7 → accepts (common_of j b) t ≡ both (accepts j t) (accepts b t)
unfolding joins join_at
join j b hj hb e t ht = same-eq _ _ (below 7 (join_at j b) (modus _ _ (joins-all j b hj hb) (rw (eq-eqb (j / 7) (b / 7) e) tt)) t ht)
