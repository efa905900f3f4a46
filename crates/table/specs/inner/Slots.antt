-- How the soundness test looks for equal entries. Each entry has a way through places, which begins at its slot; an entry stands at the first place of its way that was free.
-- So equal entries stand on one way. Assumes nothing.
use Rattle.std.specs.Prelude.{ℕ, ◌+◌, ◌*◌, ◌/◌, ◌%◌, ◌≤◌, ◌<◌, ◌≡◌, Bool, true, false, List, length, get_or, set, Option, Some, None}
use Rattle.table.specs.Table.{scalars, ceiling, entry_at, base_of, scalar_ok, find_in, is_nothing}
use Rattle.table.specs.declared.Entry.{Entry}

-- entry i is scalar i
abbrev pub scalar_at : List ℕ → ℕ → Bool
scalar_at w i = scalar_ok i (entry_at w i)

-- the slots, and the places: the slots, then two for each entry
abbrev pub slots : ℕ
slots = 512

abbrev pub places : ℕ
places = 1024

-- how many numbers a word can be
abbrev pub word_end : ℕ
word_end = 4294967296

-- and how many of them one slot has
abbrev pub slot_width : ℕ
slot_width = 8388608

-- the slot of an entry: any number below `slots` that its four words give. All their bits are mixed, and squared, so that counts in even steps fall apart
unfoldable pub mixed : Entry → ℕ
mixed e = (e.p + (e.elem * 64 + e.kind * 4 + e.q) % word_end * 2654435761) % word_end

unfoldable pub folded : ℕ → ℕ
folded x = x * x / word_end + x * x % word_end

unfoldable pub entry_slot : Entry → ℕ
entry_slot e = folded (mixed e) * 1181783497 % word_end / slot_width

-- the turns of its way behind the slot, lowest first: any number that the words give
unfoldable pub turns_of : Entry → ℕ
turns_of e = e.p + e.elem * word_end

-- the place to which a way goes on behind entry k
abbrev pub fork : ℕ → ℕ → ℕ
fork k turns = slots + 2 * k + turns % 2

-- `links` has at each place the number of the entry there, or 0. Entry k stands on the way that begins at a place
pub data Way (links : List ℕ) : ℕ → ℕ → ℕ → Type 0 where
  here : {place turns k : ℕ} → 0 < k → get_or links place 0 ≡ k → Way links place turns k
  on : {place turns k : ℕ} → 0 < get_or links place 0 → Way links (fork (get_or links place 0) turns) (turns / 2) k → Way links place turns k

-- the first n entries stand on their ways, the scalars left out
pub record Linked (w : List ℕ) (n : ℕ) (links : List ℕ) : Type 0 where
  pub wide : length links ≡ places
  pub low : (place : ℕ) → get_or links place 0 < n
  pub rising : (place : ℕ) → 0 < get_or links place 0 → place < slots + 2 * get_or links place 0
  pub standing : (k : ℕ) → scalars ≤ k → k < n → Way links (entry_slot (entry_at w k)) (turns_of (entry_at w k)) k

-- none of the first i entries is e, and the place is free and the next one on e's way
pub record Free (w : List ℕ) (i : ℕ) (links : List ℕ) (e : Entry) (place : ℕ) : Type 0 where
  pub new : is_nothing (find_in w i e) ≡ true
  pub below : place < slots + 2 * i
  pub empty : get_or links place 0 ≡ 0
  pub reached : (k : ℕ) → 0 < k → Way (set links place k) (entry_slot e) (turns_of e) k

-- where looking along e's way ends: at a free place, or at none if e is found
abbrev pub Ended : List ℕ → ℕ → List ℕ → Entry → Option ℕ → Type 0
Ended w i links e (Some place) = Free w i links e place
Ended w i links e None = is_nothing (find_in w i e) ≡ false

-- `bases` has the innermost scalar of each of the first n entries
pub record Based (w : List ℕ) (n : ℕ) (bases : List ℕ) : Type 0 where
  pub long : length bases ≡ ceiling
  pub base : (k : ℕ) → k < n → get_or bases k 0 ≡ base_of w k

-- what the test knows of the first n entries
pub record Knows (w : List ℕ) (n : ℕ) (links bases : List ℕ) : Type 0 where
  pub linked : Linked w n links
  pub based : Based w n bases
