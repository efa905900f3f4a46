-- What the inner functions promise: entering a result by its number, the reply and the words. The promise of a call is read without it. Assumes nothing.
use Rattle.std.specs.Prelude.{ℕ, ◌+◌, ◌-◌, ◌/◌, ◌%◌, ◌≡◌, cond, List, ltb, Result}
use Rattle.table.specs.Table.{kind_vec, kind_mat}
use Rattle.table.specs.Enter.{entered, enter_words, entered_two, enter_two_words}
use Rattle.table.specs.declared.Entry.{Entry}
use Rattle.table.specs.declared.Entered.{Entered}
use Rattle.table.specs.declared.Lacks.{Lacks}
use Rattle.table.specs.Enter.{there}

-- the entries of a vector's and of a matrix's number, and of a result type over an element
abbrev pub vec_entry : ℕ → Entry
vec_entry x = record { kind = kind_vec; p = x / 7 + 1; q = 0; elem = x % 7 }

abbrev pub mat_entry : ℕ → Entry
mat_entry x = record { kind = kind_mat; p = (x / 7 - 4) / 3 + 2; q = (x / 7 - 4) % 3 + 2; elem = x % 7 }

abbrev pub result_entry : ℕ → ℕ → Entry
result_entry kind elem = record { kind = kind; p = 0; q = 0; elem = elem }

pub record ResultDone (w : List ℕ) (n kind x : ℕ) (r : Result Entered Lacks) (after : List ℕ) : Type 0 where
  pub reply : r ≡ cond (ltb x 7) (entered w n (result_entry kind x)) (entered_two w n (vec_entry x) (result_entry kind 0))
  pub words : after ≡ cond (ltb x 7) (enter_words w n (result_entry kind x)) (enter_two_words w n (vec_entry x) (result_entry kind 0))

pub record PlainDone (w : List ℕ) (n x : ℕ) (r : Result Entered Lacks) (after : List ℕ) : Type 0 where
  pub reply : r ≡ cond (ltb x 7) (there (record { 0 = x }) n) (cond (ltb x 28) (entered w n (vec_entry x)) (entered w n (mat_entry x)))
  pub words : after ≡ cond (ltb x 7) w (cond (ltb x 28) (enter_words w n (vec_entry x)) (enter_words w n (mat_entry x)))
