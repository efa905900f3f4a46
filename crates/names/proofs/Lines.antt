-- The table line by line: what stands at a place of a line. Assumes nothing.
use Prim.Native.Nat.{ℕ, zero, suc, ◌+◌, ◌≤◌, ◌<◌}
use native.Mathlib.Nat.{not-suc-le-zero, le_of_suc-le-suc}
use native.Mathlib.Omega.{arith}
use mathlib.Core.Path.{◌≡◌, refl, ◌∙◌, ap}
use mathlib.Core.Bool.{Bool, true, false}
use mathlib.Core.List.{List, [], ◌∷◌}
use lib.Dec.{eqb}
use lib.ListN.{length, get_or, take, length-append, length-map, get_or-append}
use lib.Seq.{get_or-append-add}
use Rattle.std.proofs.lemmas.List.{get_or-map, take-append-le}
use Rattle.names.specs.Names.{Name, names, no_name, count}
use Rattle.names.specs.inner.Table.{rule_number, name_width, line_width, blank, filled, mark_byte, line, name_table}

-- inside of a list it does not matter what stands past its end
pub get_or-in : (s : List ℕ) (i d e : ℕ) → i < length s → get_or s i d ≡ get_or s i e
get_or-in [] i d e l = absurd (not-suc-le-zero l)
get_or-in (x ∷ xs) zero d e l = refl
get_or-in (x ∷ xs) (suc i) d e l = get_or-in xs i d e (le_of_suc-le-suc l)

pub filled-length : (w : ℕ) (s : List ℕ) → length (filled w s) ≡ w
unfolding filled
filled-length zero s = refl
filled-length (suc w) [] = ap suc (filled-length w [])
filled-length (suc w) (x ∷ xs) = ap suc (filled-length w xs)

pub filled_at : (w : ℕ) (s : List ℕ) (i : ℕ) → i < w → get_or (filled w s) i 0 ≡ get_or s i blank
unfolding filled
filled_at zero s i l = absurd (not-suc-le-zero l)
filled_at (suc w) [] zero l = refl
filled_at (suc w) [] (suc i) l = filled_at w [] i (le_of_suc-le-suc l)
filled_at (suc w) (x ∷ xs) zero l = refl
filled_at (suc w) (x ∷ xs) (suc i) l = filled_at w xs i (le_of_suc-le-suc l)

line-length : (r : Name) → length (line r) ≡ line_width
unfolding line
line-length r = length-append (filled name_width r.text) _ ∙ ap (λ (k : ℕ). k + 3) (filled-length name_width r.text)

-- A LINE: the letters of its name

module _ (r : Name) where
  abbrev columns : List ℕ
  columns = rule_number r.rule ∷ r.profile ∷ mark_byte r.running ∷ []

  pub letter_in : (i : ℕ) → i < name_width → get_or (line r) i 0 ≡ get_or r.text i blank
  unfolding line
  letter_in i l =
      let a = filled-length name_width r.text in
      get_or-append (filled name_width r.text) columns 0 i (omega arith) ∙ filled_at name_width r.text i l

  -- so its first letters are those of its name filled up
  pub letters_in : (n : ℕ) → n ≤ name_width → take n (line r) ≡ take n (filled name_width r.text)
  unfolding line
  letters_in n l = let a = filled-length name_width r.text in take-append-le n (filled name_width r.text) columns (omega arith)

  -- and its columns
  column-in : (j : ℕ) → j < 3 → get_or (line r) (name_width + j) 0 ≡ get_or columns j 0
  unfolding line
  column-in j l =
      let a = filled-length name_width r.text in
      let q : name_width + j ≡ length (filled name_width r.text) + j = omega arith in
      ap (λ (i : ℕ). get_or (line r) i 0) q ∙ get_or-append-add (filled name_width r.text) columns j 0

  pub number_in : get_or (line r) 32 0 ≡ rule_number r.rule
  number_in = column-in 0 (omega arith)

  pub profile-in : get_or (line r) 33 0 ≡ r.profile
  profile-in = column-in 1 (omega arith)

  pub mark-in : eqb (get_or (line r) 34 0) 1 ≡ r.running
  mark-in = ap (λ (b : ℕ). eqb b 1) (column-in 2 (omega arith)) ∙ of-byte r.running
    where
      of-byte : (running : Bool) → eqb (mark_byte running) 1 ≡ running
      of-byte true = refl
      of-byte false = refl

-- THE TABLE: line k is that of name k

abbrev pub at : ℕ → Name
at k = get_or names k no_name

pub rows-length : (rows : List (List ℕ)) → rows ≡ name_table → length rows ≡ count
unfolding name_table
rows-length rows e = ap length e ∙ length-map names line

pub line_at : (rows : List (List ℕ)) → rows ≡ name_table → (k : ℕ) (d : List ℕ) → k < count → get_or rows k d ≡ line (at k)
unfolding name_table
line_at rows e k d h = ap (λ (r : List (List ℕ)). get_or r k d) e ∙ get_or-map line names k no_name d h
