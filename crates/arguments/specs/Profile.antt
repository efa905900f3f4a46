-- The profile that a program is started with. Assumes nothing.
use Rattle.std.specs.Prelude.{ℕ, cond, List, ltb, unwrap_or}
use Rattle.text.specs.Text.{number_in}

-- what stands for an argument that is no number, or one of 2 to the 32 or more: the largest of 32 bits, which no profile has
abbrev pub no_profile : ℕ
no_profile = 4294967295

-- "without an argument it is 0", else the number that the first argument is. The program's own name is the first of the words that it was started with
abbrev pub profile_of : ℕ → List ℕ → ℕ
profile_of words argument = cond (ltb words 2) 0 (unwrap_or (number_in argument) no_profile)
