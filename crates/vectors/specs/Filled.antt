-- The table of the 55 types: the scalars, the vectors and the matrices, by their numbers. Assumes nothing.
use Rattle.std.specs.Prelude.{◌≡◌, ℕ, zero, suc, ◌+◌, ◌-◌, ◌/◌, ◌%◌, cond, List, ◌==◌, nat_lt}
use Rattle.conv.specs.Types.{abstract_float, f32, f16}
use Rattle.answer.specs.Answer.{numbers_of}
use Rattle.table.specs.Table.{scalars, kind_vec, kind_mat}
use Rattle.table.specs.Enter.{enter_type_reply, enter_type_words}
use Rattle.table.specs.declared.Entry.{Entry}

-- the three floats, in order
abbrev pub float_no : ℕ → ℕ
float_no k = cond (k == 0) abstract_float (cond (k == 1) f32 f16)

-- the entry of a vector, by its plain number, and of the matrix m: by columns, then rows, then float
abbrev pub vec_entry : ℕ → Entry
vec_entry i = record { kind = kind_vec; p = i / 7 + 1; q = 0; elem = i % 7 }

abbrev pub mat_entry : ℕ → Entry
mat_entry m = record { kind = kind_mat; p = m / 9 + 2; q = m / 3 % 3 + 2; elem = float_no (m % 3) }

abbrev pub entry_of : ℕ → Entry
entry_of i = cond (nat_lt i 28) (vec_entry i) (mat_entry (i - 28))

-- a used count and the words of a table
pub record Filled : Type 0 where
  pub used : ℕ
  pub words : List ℕ

-- type i entered, as a host enters it
abbrev pub with_type : ℕ → Filled → Filled
with_type i f =
    record {
      used = (numbers_of (enter_type_reply f.words f.used (entry_of i))).used;
      words = enter_type_words f.words f.used (entry_of i);
    }

-- the words w, with the first k types after the scalars entered one after another
unfoldable pub filled : List ℕ → ℕ → Filled
filled w zero = record { used = scalars; words = w }
filled w (suc k) = with_type (scalars + k) (filled w k)

-- the vectors and matrices
abbrev pub containers : ℕ
containers = 48

pub record FillDone (w : List ℕ) (r : ℕ) (after : List ℕ) : Type 0 where
  pub used : r ≡ (filled w containers).used
  pub words : after ≡ (filled w containers).words
