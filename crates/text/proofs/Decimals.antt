-- Numbers in decimal: one digit or the digits of a tenth and a last one, how long they get, no zero in front. Assumes nothing.
use Prim.Native.Nat.{ℕ, zero, suc, ◌+◌, ◌*◌, ◌/◌, ◌%◌, ◌≤◌, ◌<◌, ◌^◌}
use mathlib.Core.Path.{◌≡◌, refl, ◌∙◌, subst}
use mathlib.Core.Bool.{Bool, true, false, cond}
use mathlib.Core.List.{List, [], ◌∷◌, ◌++◌}
use native.Mathlib.Omega.{arith}
use native.Mathlib.Nat.{pow-suc}
use lib.ListN.{length, get_or, length-append}
use lib.Dec.{ltb}
use borrow.Author.Tests.{le-ltb, lt-ltb, ltb-false}
use Rattle.text.specs.Text.{digit, decimal_by, decimal}

fuel : (f g n : ℕ) → n ≤ f → n ≤ g → decimal_by f n ≡ decimal_by g n
unfolding decimal_by
fuel zero zero n p q = refl
fuel zero (suc g) n p q = rw (lt-ltb n 10 (omega arith))
fuel (suc f) zero n p q = rw (lt-ltb n 10 (omega arith))
fuel (suc f) (suc g) n p q = go (ltb n 10) refl (fuel f g (n / 10))
  where
    go : (b : Bool) → ltb n 10 ≡ b → (n / 10 ≤ f → n / 10 ≤ g → decimal_by f (n / 10) ≡ decimal_by g (n / 10)) →
        cond b (digit n) (decimal_by f (n / 10) ++ digit (n % 10)) ≡ cond b (digit n) (decimal_by g (n / 10) ++ digit (n % 10))
    go true e ih = refl
    go false e ih = let h : 10 ≤ n = ltb-false n 10 e in rw (ih (omega arith) (omega arith))

more : (n : ℕ) → decimal n ≡ decimal_by (suc n) n
unfolding decimal
more n = fuel n (suc n) n (omega arith) (omega arith)

pub dec-one : (n : ℕ) → n < 10 → decimal n ≡ digit n
unfolding decimal_by
dec-one n h = more n ∙ rw (lt-ltb n 10 h)

step : (n : ℕ) → 10 ≤ n → decimal_by (suc n) n ≡ decimal_by n (n / 10) ++ digit (n % 10)
unfolding decimal_by
step n h = rw (le-ltb n 10 h)

pub dec-more : (n : ℕ) → 10 ≤ n → decimal n ≡ decimal (n / 10) ++ digit (n % 10)
unfolding decimal
dec-more n h = more n ∙ step n h ∙ rw (fuel n (n / 10) (n / 10) (omega arith) (omega arith))

long : (f n : ℕ) → length (decimal_by f n) ≤ f + 1
unfolding decimal_by
long zero n = omega arith
long (suc f) n = go (ltb n 10) (long f (n / 10))
  where
    go : (b : Bool) → length (decimal_by f (n / 10)) ≤ f + 1 → length (cond b (digit n) (decimal_by f (n / 10) ++ digit (n % 10))) ≤ suc f + 1
    go true ih = omega arith
    go false ih = omega (arith, length-append (decimal_by f (n / 10)) (digit (n % 10)))

pub dec-long : (n : ℕ) → length (decimal n) ≤ n + 1
unfolding decimal
dec-long n = long n n

-- no leading zero: the first digit of a number that is not 0 is not `0`
first : (l x : List ℕ) (z : ℕ) → (get_or l 0 z ≡ z → ⊥) → get_or (l ++ x) 0 z ≡ z → ⊥
first [] x z h q = h refl
first (b ∷ l) x z h q = h q

leading : (f n : ℕ) → n ≤ f → 1 ≤ n → get_or (decimal_by f n) 0 48 ≡ 48 → ⊥
unfolding decimal_by
leading zero n h k = omega arith
leading (suc f) n h k = go (ltb n 10) refl (leading f (n / 10))
  where
    go : (b : Bool) → ltb n 10 ≡ b → (n / 10 ≤ f → 1 ≤ n / 10 → get_or (decimal_by f (n / 10)) 0 48 ≡ 48 → ⊥) →
        get_or (cond b (digit n) (decimal_by f (n / 10) ++ digit (n % 10))) 0 48 ≡ 48 → ⊥
    go true e ih = λ q. omega arith
    go false e ih = let m : 10 ≤ n = ltb-false n 10 e in first (decimal_by f (n / 10)) (digit (n % 10)) 48 (ih (omega arith) (omega arith))

pub no-leading-zero : (n : ℕ) → 1 ≤ n → get_or (decimal n) 0 48 ≡ 48 → ⊥
unfolding decimal
no-leading-zero n h = leading n n (omega arith) h

-- HOW MANY DIGITS: below 10 to the k, at most k

few : (f n : ℕ) → n < 10 → length (decimal_by f n) ≤ 1
unfolding decimal_by
few zero n h = omega arith
few (suc f) n h = rw (lt-ltb n 10 h) (omega arith)

more-digits : (m d : ℕ) → ((f n : ℕ) → n < m → length (decimal_by f n) ≤ d) → (f n : ℕ) → n < m * 10 → length (decimal_by f n) ≤ suc d
unfolding decimal_by
more-digits m d less zero n h = omega arith
more-digits m d less (suc f) n h = go (ltb n 10) (less f (n / 10) (omega arith))
  where
    go : (b : Bool) → length (decimal_by f (n / 10)) ≤ d → length (cond b (digit n) (decimal_by f (n / 10) ++ digit (n % 10))) ≤ suc d
    go true ih = omega arith
    go false ih = omega (arith, length-append (decimal_by f (n / 10)) (digit (n % 10)))

digits : (k f n : ℕ) → n < 10 ^ suc k → length (decimal_by f n) ≤ suc k
digits zero f n h = few f n h
digits (suc k) f n h = more-digits (10 ^ suc k) (suc k) (digits k) f n (subst (λ (x : ℕ). n < x) (pow-suc 10 (suc k)) h)

-- a number of 32 bits, and one of 64
pub dec-ten : (n : ℕ) → n < 2 ^ 32 → length (decimal n) ≤ 10
unfolding decimal
dec-ten n h = digits 9 n n (omega arith)

pub dec-twenty : (n : ℕ) → n < 2 ^ 64 → length (decimal n) ≤ 20
unfolding decimal
dec-twenty n h = digits 19 n n (omega arith)
