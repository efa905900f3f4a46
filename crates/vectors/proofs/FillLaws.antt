-- The table of the 55 types, type by type. Assumes nothing.
use Rattle.std.proofs.Common.{◌≡◌, ℕ, suc, ◌+◌, ◌-◌, ◌≤◌, List, refl, ap, ◌∙◌, arith}
use Rattle.answer.specs.Answer.{Numbers, numbers_of}
use Rattle.answer.specs.declared.Answer.{Answer}
use Rattle.table.specs.Table.{scalars}
use Rattle.table.specs.Placing.{enter_type, Gave}
use Rattle.table.specs.declared.Entry.{Entry}
use Rattle.vectors.specs.Filled.{entry_of, filled, containers, FillDone}

-- the types below i are entered
pub record Below (w : List ℕ) (i used : ℕ) (words : List ℕ) : Type 0 where
  pub low : scalars ≤ i
  pub counts : used ≡ (filled w (i - scalars)).used
  pub holds : words ≡ (filled w (i - scalars)).words

pub none_yet : (w : List ℕ) → Below w scalars scalars w
unfolding filled
none_yet w = record { low = omega arith; counts = refl; holds = refl }

pub one_more : (w : List ℕ) (i used : ℕ) (words : List ℕ) → Below w i used words → (e : Entry) → e ≡ entry_of i → (a : Answer) (v : List ℕ) → Gave (enter_type words used e) a v
    → (n : ℕ) → n ≡ (numbers_of a).used → Below w (i + 1) n v
unfolding filled
one_more w i used words b e q a v d n m =
    let k : (i + 1) - scalars ≡ suc (i - scalars) = let l = b.low in omega arith in
    let j : scalars + (i - scalars) ≡ i = let l = b.low in omega arith in
    record {
      low = let l = b.low in omega arith;
      counts = rw (k, j, ← b.counts, ← b.holds, ← q) (m ∙ ap (λ (x : Numbers). x.used) d.numbers);
      holds = rw (k, j, ← b.counts, ← b.holds, ← q) d.words;
    }

pub all_in : (w : List ℕ) (i used : ℕ) (words : List ℕ) → Below w i used words → i ≡ scalars + containers → FillDone w used words
all_in w i used words b h =
    let k : i - scalars ≡ containers = omega arith in
    record { used = b.counts ∙ ap (λ (x : ℕ). (filled w x).used) k; words = b.holds ∙ ap (λ (x : ℕ). (filled w x).words) k }
