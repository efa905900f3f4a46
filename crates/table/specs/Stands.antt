-- What an accepted entering comes to, in types. Assumes nothing.
use Rattle.std.specs.Prelude.{ℕ, ◌*◌, ◌≤◌, ◌<◌, ◌≡◌, List, length, get_or}
use Rattle.conv.specs.Types.{Ty}
use Rattle.conv.specs.Rank.{element_of}
use Rattle.table.specs.Table.{stride, Sound, Keeps}
use Rattle.table.specs.Denote.{type_at}

-- no entry of the table stands for R
abbrev pub Absent : List ℕ → ℕ → Ty → Type 0
Absent w n R = (i : ℕ) → i < n → type_at w i ≡ R → ⊥

-- t is R, or an element of R at any depth
pub data Part (t : Ty) : Ty → Type 0 where
  whole : Part t t
  inside : {R : Ty} → Part t (element_of R) → Part t R

-- the type R stands at t in the table v of m entries, which grew from the table w of n entries by R and parts of R alone
pub record Stands (w : List ℕ) (n : ℕ) (R : Ty) (t m : ℕ) (v : List ℕ) : Type 0 where
  pub sound : Sound v m
  pub below : t < m
  pub stands : type_at v t ≡ R
  pub grows : n ≤ m
  pub keeps : Keeps w v n
  pub long : length v ≡ length w
  pub beyond : (k : ℕ) → m * stride ≤ k → get_or v k 0 ≡ get_or w k 0
  pub added : (i : ℕ) → n ≤ i → i < m → Part (type_at v i) R
