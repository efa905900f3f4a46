-- Quick items: a push, and an operator or a call that the memo has. They change the stack and nothing else, so a run of them needs no table. Assumes nothing.
use Rattle.std.specs.Prelude.{ℕ, ◌+◌, ◌≤◌, ◌≡◌, Bool, List, Option, Some, None, length}
use Rattle.frame.specs.Frame.{marked, item_at}
use Rattle.frame.specs.inner.Items.{item_of}
use Rattle.frame.specs.declared.Item.{Item}
use Rattle.frame.specs.declared.ShortItem.{ShortItem}
use Rattle.step.specs.Effect.{most, goes, effect_of}
use Rattle.step.specs.inner.Code.{state_of}
use Rattle.memo.specs.declared.key.Ask.{Ask}
use Rattle.memo.specs.declared.Went.{Went}
use Rattle.memo.specs.inner.Asking.{Asks}

-- every item that asks so, in a sheet that keeps marks, or keeps none, went, and r values stand
pub record AnswersBy (keeps : Bool) (a : Ask) (count : ℕ) (vals : List ℕ) (used : ℕ) (w : List ℕ) (r : ℕ) (after : List ℕ) : Type 0 where
  pub some : 1 ≤ r
  pub high : r ≤ most
  pub effect : (profile at : ℕ) (s : List ℕ) (i : Item) → Asks profile s i (Some a) → marked s ≡ keeps → effect_of profile at (state_of count vals used w) s i ≡ goes (state_of r after used w)

-- or nothing was done
abbrev pub Answers : Bool → Ask → ℕ → List ℕ → ℕ → List ℕ → Option ℕ → List ℕ → Type 0
Answers keeps a count vals used w None after = after ≡ vals
Answers keeps a count vals used w (Some r) after = AnswersBy keeps a count vals used w r after

-- the item of a sheet that keeps marks, or keeps none, went, and r values stand
pub record QuickBy (keeps : Bool) (x : ShortItem) (count : ℕ) (vals : List ℕ) (used : ℕ) (w : List ℕ) (r : ℕ) (after : List ℕ) : Type 0 where
  pub some : 1 ≤ r
  pub high : r ≤ most
  pub effect : (profile at : ℕ) (s : List ℕ) → marked s ≡ keeps → effect_of profile at (state_of count vals used w) s (item_of x) ≡ goes (state_of r after used w)

-- or nothing was done
abbrev pub Quick : Bool → ShortItem → ℕ → List ℕ → ℕ → List ℕ → Option ℕ → List ℕ → Type 0
Quick keeps x count vals used w None after = after ≡ vals
Quick keeps x count vals used w (Some r) after = QuickBy keeps x count vals used w r after

-- a push does the same whether marks of results are kept or not
abbrev pub QuickEver : ShortItem → ℕ → List ℕ → ℕ → List ℕ → Option ℕ → List ℕ → Type 0
QuickEver x count vals used w r after = (keeps : Bool) → Quick keeps x count vals used w r after

-- the item that stands at a place went in a profile: it has so many bytes, and changed the stack alone
pub record WentIn (profile : ℕ) (s : List ℕ) (at count : ℕ) (vals : List ℕ) (used : ℕ) (w : List ℕ) (x : Went) (after : List ℕ) : Type 0 where
  pub some : 1 ≤ x.count
  pub high : x.count ≤ most
  pub within : at + x.bytes ≤ length s
  pub next : (item_at s at).next.0 ≡ at + x.bytes
  pub effect : effect_of profile at (state_of count vals used w) s (item_at s at).item ≡ goes (state_of x.count after used w)

-- a call that the memo has, or nothing was done
abbrev pub CallAt : ℕ → List ℕ → ℕ → ℕ → List ℕ → ℕ → List ℕ → Option Went → List ℕ → Type 0
CallAt profile s at count vals used w None after = after ≡ vals
CallAt profile s at count vals used w (Some x) after = WentIn profile s at count vals used w x after

-- a push or an operator, in every profile
abbrev pub WentAt : List ℕ → ℕ → ℕ → List ℕ → ℕ → List ℕ → Went → List ℕ → Type 0
WentAt s at count vals used w x after = (profile : ℕ) → WentIn profile s at count vals used w x after

abbrev pub QuickAt : List ℕ → ℕ → ℕ → List ℕ → ℕ → List ℕ → Option Went → List ℕ → Type 0
QuickAt s at count vals used w None after = after ≡ vals
QuickAt s at count vals used w (Some x) after = WentAt s at count vals used w x after
