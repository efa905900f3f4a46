-- A text's number, read digit by digit: what is read so far, and what is left. Assumes nothing.
use Prim.Native.Nat.{ℕ, ◌+◌, ◌-◌, ◌*◌, ◌≤◌, ◌<◌, ◌^◌}
use mathlib.Core.Path.{◌≡◌, refl, sym, ◌∙◌, ap}
use mathlib.Core.Bool.{Bool, true, false, ◌&&◌, cond}
use mathlib.Core.List.{List, [], ◌∷◌}
use native.Mathlib.Numerals.{add-one}
use native.Mathlib.Omega.{arith}
use lib.Dec.{ltb}
use lib.ListN.{length, get_or, drop, drop_of_length-le}
use lib.Seq.{drop-cons}
use borrow.Author.Tests.{lt-ltb, le-ltb}
use Rattle.text.specs.Text.{is_digit, all_digits, value_after, value_of, number_in}
use Rattle.std.specs.Prelude.{Some, None}

-- the digits before place i make n, which is small enough so far; the rest decides
pub record Read (s : List ℕ) (i n : ℕ) : Type 0 where
  pub within : i ≤ length s
  pub small : n < 2 ^ 32
  pub digits : all_digits s ≡ all_digits (drop i s)
  pub value : value_of s ≡ value_after n (drop i s)

-- a number does not get smaller by a digit more
grows : (n : ℕ) (s : List ℕ) → n ≤ value_after n s
unfolding value_after
grows n [] = omega arith
grows n (b ∷ s) = omega (arith, grows (n * 10 + (b - 48)) s)

no-digits : (s : List ℕ) → all_digits s ≡ false → None ≡ number_in s
unfolding number_in
no-digits s h = go (ltb 0 (length s)) ∙ sym (ap (λ (d : Bool). cond (ltb 0 (length s) && d && ltb (value_of s) (2 ^ 32)) (Some (value_of s)) None) h)
  where
    go : (b : Bool) → None ≡ cond (b && false && ltb (value_of s) (2 ^ 32)) (Some (value_of s)) None
    go true = refl
    go false = refl

large : (s : List ℕ) → 2 ^ 32 ≤ value_of s → None ≡ number_in s
unfolding number_in
large s h = go (ltb 0 (length s)) (all_digits s) ∙ sym (ap (λ (d : Bool). cond (ltb 0 (length s) && all_digits s && d) (Some (value_of s)) None) (le-ltb (value_of s) (2 ^ 32) h))
  where
    go : (a b : Bool) → None ≡ cond (a && b && false) (Some (value_of s)) None
    go true true = refl
    go true false = refl
    go false b = refl

pub nothing : (s : List ℕ) → length s ≡ 0 → None ≡ number_in s
unfolding number_in
nothing s h = rw h

pub none_read : (s : List ℕ) → Read s 0 0
none_read s = record { within = omega arith; small = omega arith; digits = refl; value = refl }

module _ (s : List ℕ) (i n : ℕ) (r : Read s i n) where
  pub all_read : length s ≤ i → (length s ≡ 0 → ⊥) → Some n ≡ number_in s
  unfolding number_in all_digits value_after
  all_read h e =
      let d : all_digits s ≡ true = r.digits ∙ ap all_digits (drop_of_length-le s h) in
      let v : value_of s ≡ n = r.value ∙ ap (value_after n) (drop_of_length-le s h) in
      rw (lt-ltb 0 (length s) (omega arith), d, v, lt-ltb n (2 ^ 32) r.small)

  module _ (l : i < length s) where
    abbrev b : ℕ
    b = get_or s i 0

    here : drop i s ≡ b ∷ drop (i + 1) s
    here = rw (add-one, drop-cons s i 0)

    pub no_digit : is_digit b ≡ false → None ≡ number_in s
    unfolding all_digits
    no_digit h = no-digits s (r.digits ∙ rw (here, h))

    pub too_large : 2 ^ 32 ≤ n * 10 + (b - 48) → None ≡ number_in s
    unfolding value_after
    too_large h =
        let v : value_of s ≡ value_after (n * 10 + (b - 48)) (drop (i + 1) s) = r.value ∙ rw here in
        large s (omega (arith, v, grows (n * 10 + (b - 48)) (drop (i + 1) s)))

    pub digit-read : is_digit b ≡ true → n * 10 + (b - 48) < 2 ^ 32 → Read s (i + 1) (n * 10 + (b - 48))
    unfolding all_digits value_after
    digit-read h m =
        record {
          within = omega arith;
          small = m;
          digits = r.digits ∙ rw (here, h);
          value = r.value ∙ rw here;
        }
