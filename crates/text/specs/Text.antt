-- Texts as bytes, numbers in decimal, the number that a text is, and what it is to put bytes into an output. Assumes nothing.
use Rattle.std.specs.Prelude.{ℕ, zero, suc, ◌+◌, ◌-◌, ◌*◌, ◌/◌, ◌%◌, ◌^◌, ◌≡◌, Bool, true, ◌&&◌, cond, List, [], ◌∷◌, ◌++◌, ltb, leb, length, Option, Some, None}
use Prim.Native.Char.{code}
use Prim.Native.String.{String}
use Rattle.std.proofs.lemmas.List.Edits.{sets}

-- a text as its bytes: every letter that we write is one byte
unfoldable pub ascii : String → List ℕ
ascii String.[] = []
ascii (String.◌∷◌ c s) = code c ∷ ascii s

-- "in decimal without leading zeros": the one digit that a number below ten has, or the digits of a tenth of it and then its last. A number n
-- has at most n + 1 digits
abbrev pub digit : ℕ → List ℕ
digit d = (48 + d) ∷ []

unfoldable pub decimal_by : ℕ → ℕ → List ℕ
decimal_by zero n = digit n
decimal_by (suc f) n = let longer = decimal_by f (n / 10) ++ digit (n % 10) in cond (ltb n 10) (digit n) longer

unfoldable pub decimal : ℕ → List ℕ
decimal n = decimal_by n n

-- THE NUMBER THAT A TEXT IS: "one or more decimal digits, leading zeros allowed"

-- `0` to `9`
abbrev pub is_digit : ℕ → Bool
is_digit b = leb 48 b && leb b 57

unfoldable pub all_digits : List ℕ → Bool
all_digits [] = true
all_digits (b ∷ s) = is_digit b && all_digits s

-- the digits of s read after those of n: each makes ten times what stands before it, and itself
unfoldable pub value_after : ℕ → List ℕ → ℕ
value_after n [] = n
value_after n (b ∷ s) = value_after (n * 10 + (b - 48)) s

abbrev pub value_of : List ℕ → ℕ
value_of s = value_after 0 s

-- any other text is none, and so is one of 2 to the 32 or more
unfoldable pub number_in : List ℕ → Option ℕ
number_in s = cond (ltb 0 (length s) && all_digits s && ltb (value_of s) (2 ^ 32)) (Some (value_of s)) None

-- s put into d from place at on, as far as d goes: the place after it, and the bytes
pub record Put (d : List ℕ) (at : ℕ) (s : List ℕ) (r : ℕ) (after : List ℕ) : Type 0 where
  pub place : r ≡ at + length s
  pub bytes : after ≡ sets d at s

-- no place at which bytes are put is beyond four times this
abbrev pub far : ℕ
far = 2 ^ 60
