-- A test at every number below a bound, which antt computes, and the laws that turn it into a fact at each: so a table's rule is proved.
-- Assumes nothing.
use mathlib.Core.Path.{◌≡◌, refl, ◌∙◌, ap}
use mathlib.Core.Logic.{◌⊎◌, inl, inr}
use mathlib.Core.Bool.{Bool, true, false}
use mathlib.Core.List.{List, []}
use Prim.Native.Nat.{ℕ, zero, suc, ◌<◌, ◌≤◌}
use native.Mathlib.Omega.{arith}
use native.Mathlib.Nat.{eq-or-lt_of_le, le_of_suc-le-suc, not-suc-le-zero}
use lib.Dec.{T, eqb, eqb→eq}
use lib.ListN.{get_or}
use Rattle.conv.specs.Rank.{both}

pub both_left : (a b : Bool) → T (both a b) → T a
unfolding both
both_left true b t = tt
both_left false b t = t

pub both_right : (a b : Bool) → T (both a b) → T b
unfolding both
both_right true b t = t
both_right false b t = absurd t

pub both-pair : (a b : Bool) → T a → T b → T (both a b)
unfolding both
both-pair true b s t = t
both-pair false b s t = absurd s

-- where the one test passes the other does
unfoldable pub implies : Bool → Bool → Bool
implies true b = b
implies false b = true

pub modus : (a b : Bool) → T (implies a b) → T a → T b
unfolding implies
modus true b h t = h
modus false b h t = absurd t

-- the two tests agree
unfoldable pub same : Bool → Bool → Bool
same true y = y
same false true = false
same false false = true

pub same-eq : (x y : Bool) → T (same x y) → x ≡ y
unfolding same
same-eq true true t = refl
same-eq true false t = absurd t
same-eq false true t = absurd t
same-eq false false t = refl

-- a test at every number below n

abbrev pub all : ℕ → (ℕ → Bool) → Bool
all zero f = true
all (suc n) f = both (f zero) (all n (λ k. f (suc k)))

pub below : (n : ℕ) (f : ℕ → Bool) → T (all n f) → (k : ℕ) → k < n → T (f k)
below zero f t k h = absurd (not-suc-le-zero h)
below (suc n) f t zero h = both_left (f zero) (all n (λ k. f (suc k))) t
below (suc n) f t (suc k) h = below n (λ k. f (suc k)) (both_right (f zero) (all n (λ k. f (suc k))) t) k (le_of_suc-le-suc h)

pub below₂ : (m n : ℕ) (f : ℕ → ℕ → Bool) → T (all m (λ a. all n (λ b. f a b))) → (a b : ℕ) → a < m → b < n → T (f a b)
below₂ m n f t a b ha hb = below n (λ b. f a b) (below m (λ a. all n (λ b. f a b)) t a ha) b hb

pub below₃ : (m n o : ℕ) (f : ℕ → ℕ → ℕ → Bool) → T (all m (λ a. all n (λ b. all o (λ c. f a b c)))) → (a b c : ℕ) → a < m → b < n → c < o → T (f a b c)
below₃ m n o f t a b c ha hb hc = below o (λ c. f a b c) (below₂ m n (λ a b. all o (λ c. f a b c)) t a b ha hb) c hc

-- A TABLE'S RULE: an entry is what g says of its place, where antt has computed that at every place

pub table : (g : ℕ → ℕ) (n : ℕ) (xs : List ℕ) → T (all n (λ k. eqb (get_or xs k 0) (g k))) → (k : ℕ) → k < n → get_or xs k 0 ≡ g k
table g n xs t k h = eqb→eq (get_or xs k 0) (g k) (below n (λ k. eqb (get_or xs k 0) (g k)) t k h)

-- an array of arrays
pub board : (g : ℕ → ℕ → ℕ) (m n : ℕ) (xs : List (List ℕ)) → T (all m (λ a. all n (λ b. eqb (get_or (get_or xs a []) b 0) (g a b)))) → (a b : ℕ) → a < m → b < n
    → get_or (get_or xs a []) b 0 ≡ g a b
board g m n xs t a b ha hb = eqb→eq (get_or (get_or xs a []) b 0) (g a b) (below₂ m n (λ a b. eqb (get_or (get_or xs a []) b 0) (g a b)) t a b ha hb)

-- WHAT THE `_` OF A `match` KNOWS: of an arm for each of s 0 to s (n - 1), that the number is none of them

abbrev pub Others : (ℕ → ℕ) → ℕ → ℕ → Type 0
Others s zero h = Unit
Others s (suc n) h = Others s n h × (h ≡ s n → ⊥)

pub others : (s : ℕ → ℕ) (n h : ℕ) → Others s n h → (k : ℕ) → k < n → h ≡ s k → ⊥
others s zero h o k l = absurd (not-suc-le-zero l)
others s (suc n) h o k l = go (eq-or-lt_of_le (le_of_suc-le-suc l)) (others s n h o.0 k)
  where
    go : (k ≡ n) ⊎ (k < n) → (k < n → h ≡ s k → ⊥) → h ≡ s k → ⊥
    go (inl e) later q = o.1 (q ∙ ap s e)
    go (inr m) later q = later m q

-- of an arm for each of the first n numbers
pub above : (n k : ℕ) → Others (λ i. i) n k → n ≤ k
above zero k h = omega arith
above (suc n) k h = let l = above n k h.0 in let q = h.1 in omega arith
