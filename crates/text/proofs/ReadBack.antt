-- What `decimal` writes is read back, with any zeros in front: the two definitions mean the same digits. Assumes nothing.
use Prim.Native.Nat.{ℕ, zero, suc, ◌+◌, ◌-◌, ◌*◌, ◌/◌, ◌%◌, ◌≤◌, ◌<◌, ◌^◌}
use mathlib.Core.Path.{◌≡◌, refl, ◌∙◌}
use mathlib.Core.Bool.{Bool, true, false, ◌&&◌, cond}
use mathlib.Core.List.{List, [], ◌∷◌, ◌++◌}
use native.Mathlib.Omega.{arith}
use lib.Dec.{ltb}
use lib.ListN.{length, length-append}
use borrow.Author.Tests.{lt-ltb, le-leb, ltb-true, ltb-false}
use Rattle.text.specs.Text.{digit, decimal_by, decimal, is_digit, all_digits, value_after, value_of, number_in}
use Rattle.std.specs.Prelude.{Some}

-- digits after digits
digits_append : (s t : List ℕ) → all_digits s ≡ true → all_digits (s ++ t) ≡ all_digits t
unfolding all_digits
digits_append [] t h = refl
digits_append (b ∷ s) t h = go (is_digit b) h (digits_append s t)
  where
    go : (d : Bool) → d && all_digits s ≡ true → (all_digits s ≡ true → all_digits (s ++ t) ≡ all_digits t) → d && all_digits (s ++ t) ≡ all_digits t
    go true e ih = ih e
    go false e ih = let z : ◌≡◌ {A = ℕ} 0 1 = cc in let f : ⊥ = omega arith in elim f [ ]

value-append : (n : ℕ) (s t : List ℕ) → value_after n (s ++ t) ≡ value_after (value_after n s) t
unfolding value_after
value-append n [] t = refl
value-append n (b ∷ s) t = value-append (n * 10 + (b - 48)) s t

-- one digit
one-digit : (d : ℕ) → d < 10 → all_digits (digit d) ≡ true
unfolding all_digits
one-digit d h = rw (le-leb 48 (48 + d) (omega arith), le-leb (48 + d) 57 (omega arith))

one_value : (n d : ℕ) → value_after n (digit d) ≡ n * 10 + d
unfolding value_after
one_value n d = omega arith

-- all that `decimal` writes are digits, of which there is one, and they make the number
pub record Digits (n : ℕ) (s : List ℕ) : Type 0 where
  pub some : 1 ≤ length s
  pub digits : all_digits s ≡ true
  pub value : value_of s ≡ n

written-by : (f n : ℕ) → n ≤ f → Digits n (decimal_by f n)
unfolding decimal_by
written-by zero n h = let e : n < 10 = omega arith in record { some = omega arith; digits = one-digit n e; value = one_value 0 n ∙ omega arith }
written-by (suc f) n h = go (ltb n 10) refl (written-by f (n / 10))
  where
    go : (b : Bool) → ltb n 10 ≡ b → (n / 10 ≤ f → Digits (n / 10) (decimal_by f (n / 10))) → Digits n (cond b (digit n) (decimal_by f (n / 10) ++ digit (n % 10)))
    go true e ih =
        let l : n < 10 = ltb-true n 10 e in
        record { some = omega arith; digits = one-digit n l; value = one_value 0 n ∙ omega arith }
    go false e ih =
        let l : 10 ≤ n = ltb-false n 10 e in
        let r = ih (omega arith) in
        let s = decimal_by f (n / 10) in
        record {
          some = omega (arith, length-append s (digit (n % 10)));
          digits = digits_append s (digit (n % 10)) r.digits ∙ one-digit (n % 10) (omega arith);
          value = value-append 0 s (digit (n % 10)) ∙ one_value (value_of s) (n % 10) ∙ omega (arith, r.value);
        }

pub written : (n : ℕ) → Digits n (decimal n)
unfolding decimal
written n = written-by n n (omega arith)

-- zeros in front
unfoldable pub zeros : ℕ → List ℕ → List ℕ
zeros zero s = s
zeros (suc k) s = 48 ∷ zeros k s

padded : (k n : ℕ) (s : List ℕ) → Digits n s → Digits n (zeros k s)
unfolding zeros all_digits value_after
padded zero n s d = d
padded (suc k) n s d = let r = padded k n s d in record { some = omega arith; digits = r.digits; value = r.value }

read : (n : ℕ) (s : List ℕ) → Digits n s → n < 2 ^ 32 → number_in s ≡ Some n
unfolding number_in
read n s d h = rw (lt-ltb 0 (length s) d.some, d.digits, d.value, lt-ltb n (2 ^ 32) h)

pub read_back : (k n : ℕ) → n < 2 ^ 32 → number_in (zeros k (decimal n)) ≡ Some n
read_back k n h = read n (zeros k (decimal n)) (padded k n (decimal n) (written n)) h
