-- The words that a spelling is made of, read back: names, and numbers in decimal. Assumes nothing.
use Prim.Native.Nat.{ℕ, zero, suc, ◌+◌, ◌-◌, ◌*◌, ◌/◌, ◌%◌, ◌≤◌, ◌<◌}
use Prim.Native.String.{String}
use mathlib.Core.Path.{◌≡◌, refl, ◌∙◌}
use mathlib.Core.Bool.{Bool, true, false, ◌&&◌, ◌||◌, not, cond}
use mathlib.Core.List.{List, [], ◌∷◌, ◌++◌}
use native.Mathlib.Nat.{not-suc-le-zero}
use native.Mathlib.Omega.{arith}
use lib.Dec.{ltb, leb, eqb}
use borrow.Author.Tests.{not-true, le-leb, eqb-true, eqb-false, ltb-true, ltb-false}
use Rattle.table.proofs.SoundLaws.{and_left, and_right}
use Rattle.text.specs.Text.{ascii, digit, decimal_by, decimal}
use Rattle.spell.specs.Spell.{scalar_names, space_names, access_names, named, fract_scalar}

-- what a word of a spelling has: any byte but `,` `<` `>`; and what a number has
abbrev pub in_word : ℕ → Bool
in_word b = not (eqb b 44 || eqb b 60 || eqb b 62)

abbrev pub in_number : ℕ → Bool
in_number b = leb 48 b && leb b 57

-- the bytes in front that pass a test, and the rest
unfoldable pub front : (ℕ → Bool) → List ℕ → List ℕ
front p [] = []
front p (b ∷ l) = cond (p b) (b ∷ front p l) []

unfoldable pub rest : (ℕ → Bool) → List ℕ → List ℕ
rest p [] = []
rest p (b ∷ l) = cond (p b) (rest p l) (b ∷ l)

-- every byte passes; the first byte, where there is one, fails
unfoldable pub all : (ℕ → Bool) → List ℕ → Bool
all p [] = true
all p (b ∷ l) = p b && all p l

abbrev pub stops : (ℕ → Bool) → List ℕ → Bool
stops p [] = true
stops p (b ∷ l) = not (p b)

module _ (p : ℕ → Bool) where
  pub front-split : (a x : List ℕ) → all p a ≡ true → stops p x ≡ true → front p (a ++ x) ≡ a
  unfolding front all
  front-split [] [] h k = refl
  front-split [] (b ∷ x) h k = rw (not-true (p b) k)
  front-split (b ∷ a) x h k = rw (and_left (p b) (all p a) h, front-split a x (and_right (p b) (all p a) h) k)

  pub rest-split : (a x : List ℕ) → all p a ≡ true → stops p x ≡ true → rest p (a ++ x) ≡ x
  unfolding rest all
  rest-split [] [] h k = refl
  rest-split [] (b ∷ x) h k = rw (not-true (p b) k)
  rest-split (b ∷ a) x h k = rw (and_left (p b) (all p a) h, rest-split a x (and_right (p b) (all p a) h) k)

  all_append : (a b : List ℕ) → all p a ≡ true → all p b ≡ true → all p (a ++ b) ≡ true
  unfolding all
  all_append [] b h k = k
  all_append (d ∷ a) b h k = rw (and_left (p d) (all p a) h) (all_append a b (and_right (p d) (all p a) h) k)

-- numbers

unfoldable pub number_by : ℕ → List ℕ → ℕ
number_by n [] = n
number_by n (b ∷ l) = number_by (n * 10 + (b - 48)) l

abbrev pub number : List ℕ → ℕ
number l = number_by 0 l

number-snoc : (n : ℕ) (l : List ℕ) (d : ℕ) → number_by n (l ++ digit d) ≡ number_by n l * 10 + d
unfolding number_by
number-snoc n [] d = omega arith
number-snoc n (b ∷ l) d = number-snoc (n * 10 + (b - 48)) l d

number-digit : (d : ℕ) → number (digit d) ≡ d
unfolding number_by
number-digit d = number-snoc 0 [] d ∙ omega arith

digit-right : (d : ℕ) → d < 10 → all in_number (digit d) ≡ true
unfolding all
digit-right d h = rw (le-leb 48 (48 + d) (omega arith), le-leb (48 + d) 57 (omega arith))

number_by_lem : (f n : ℕ) → n ≤ f → (number (decimal_by f n) ≡ n) × (all in_number (decimal_by f n) ≡ true)
unfolding decimal_by
number_by_lem zero n h = (number-digit n, digit-right n (omega arith))
number_by_lem (suc f) n h = go (ltb n 10) refl (number_by_lem f (n / 10))
  where
    go : (b : Bool) → ltb n 10 ≡ b → (n / 10 ≤ f → (number (decimal_by f (n / 10)) ≡ n / 10) × (all in_number (decimal_by f (n / 10)) ≡ true)) →
        (number (cond b (digit n) (decimal_by f (n / 10) ++ digit (n % 10))) ≡ n) × (all in_number (cond b (digit n) (decimal_by f (n / 10) ++ digit (n % 10))) ≡ true)
    go true q ih = (number-digit n, digit-right n (ltb-true _ _ q))
    go false q ih =
        let k : 10 ≤ n = ltb-false _ _ q in
        let z = ih (omega arith) in
        (number-snoc 0 (decimal_by f (n / 10)) (n % 10) ∙ omega (arith, z.0), all_append in_number (decimal_by f (n / 10)) (digit (n % 10)) z.1 (digit-right (n % 10) (omega arith)))

-- a number in front of what no number goes on with
module _ (n : ℕ) (x : List ℕ) (h : stops in_number x ≡ true) where
  pub number-front : number (front in_number (decimal n ++ x)) ≡ n
  unfolding decimal
  number-front = rw (front-split in_number (decimal_by n n) x (number_by_lem n n (omega arith)).1 h) (number_by_lem n n (omega arith)).0

  pub number-rest : rest in_number (decimal n ++ x) ≡ x
  unfolding decimal
  number-rest = rest-split in_number (decimal_by n n) x (number_by_lem n n (omega arith)).1 h

-- names

unfoldable pub same : List ℕ → List ℕ → Bool
same [] [] = true
same [] (b ∷ m) = false
same (a ∷ l) [] = false
same (a ∷ l) (b ∷ m) = eqb a b && same l m

-- the number of the first of the names that is l
unfoldable pub name_no : List String → List ℕ → ℕ
name_no [] l = 0
name_no (s ∷ names) l = cond (same (ascii s) l) 0 (suc (name_no names l))

-- each name is a word, and has its own number
unfoldable pub tell_apart : List String → ℕ → Bool
tell_apart names zero = true
tell_apart names (suc k) = tell_apart names k && (all in_word (named names k) && eqb (name_no names (named names k)) k)

tell : (names : List String) (n : ℕ) → tell_apart names n ≡ true → (k : ℕ) → k < n → (all in_word (named names k) ≡ true) × (name_no names (named names k) ≡ k)
unfolding tell_apart
tell names zero t k h = absurd (not-suc-le-zero h)
tell names (suc n) t k h = go (eqb k n) refl (tell names n (and_left _ _ t) k)
  where
    last : (all in_word (named names n) && eqb (name_no names (named names n)) n) ≡ true
    last = and_right (tell_apart names n) _ t

    go : (b : Bool) → eqb k n ≡ b → (k < n → (all in_word (named names k) ≡ true) × (name_no names (named names k) ≡ k)) →
        (all in_word (named names k) ≡ true) × (name_no names (named names k) ≡ k)
    go true q ih = rw (eqb-true k n q) (and_left _ _ last, eqb-true _ _ (and_right (all in_word (named names n)) _ last))
    go false q ih = ih (omega (arith, eqb-false k n q))

-- a name in front of what no word goes on with
module _ (names : List String) (n : ℕ) (t : tell_apart names n ≡ true) (k : ℕ) (l : k < n) (x : List ℕ) (h : stops in_word x ≡ true) where
  pub name-front : name_no names (front in_word (named names k ++ x)) ≡ k
  name-front = rw (front-split in_word (named names k) x (tell names n t k l).0 h) (tell names n t k l).1

  pub name-rest : rest in_word (named names k ++ x) ≡ x
  name-rest = rest-split in_word (named names k) x (tell names n t k l).0 h

pub scalars-apart : tell_apart scalar_names 7 ≡ true
unfolding tell_apart all name_no same named ascii
scalars-apart = refl

pub spaces-apart : tell_apart space_names 6 ≡ true
unfolding tell_apart all name_no same named ascii
spaces-apart = refl

pub accesses-apart : tell_apart access_names 3 ≡ true
unfolding tell_apart all name_no same named ascii
accesses-apart = refl

-- the scalars as a result type's name calls them
abbrev pub fracts : List String
fracts = "bool" ∷ "AbstractInt" ∷ "abstract" ∷ "i32" ∷ "u32" ∷ "f32" ∷ "f16" ∷ []

pub fracts-apart : tell_apart fracts 7 ≡ true
unfolding tell_apart all name_no same named ascii
fracts-apart = refl

pub fract-named : (s : ℕ) → s < 7 → fract_scalar s ≡ named fracts s
unfolding fract_scalar named
fract-named zero h = refl
fract-named (suc zero) h = refl
fract-named (suc (suc zero)) h = refl
fract-named (suc (suc (suc zero))) h = refl
fract-named (suc (suc (suc (suc zero)))) h = refl
fract-named (suc (suc (suc (suc (suc zero))))) h = refl
fract-named (suc (suc (suc (suc (suc (suc zero)))))) h = refl
fract-named (suc (suc (suc (suc (suc (suc (suc s))))))) h = absurd (omega arith)
