-- What the code of a turn goes by. Assumes nothing.
use Rattle.std.specs.Prelude.{ℕ, ◌≤◌, ◌≡◌, Bool, List, length}
use Rattle.step.specs.declared.Did.{Did}
use Rattle.step.specs.Effect.{most}
use Rattle.step.specs.inner.Code.{state_of, effect_by, Ready}
use Rattle.memo.specs.inner.Memo.{Recalls}
use Rattle.frame.specs.Frame.{items_from}
use Rattle.std.specs.declared.ops.ControlFlow.{ControlFlow}
use Rattle.std.specs.declared.ops.ControlFlow.TheVariants.{Continue, Break}
use Rattle.answer.specs.declared.Typed.{Typed}
use Rattle.sheet.specs.declared.Here.{Here}
use Rattle.answer.specs.Answer.{marked_by}
use Rattle.sheet.specs.Machine.{after, Turned, more, done, run_items, end_mark, runs_items}

-- what a turn comes to: the run goes on here, or the sheet is answered
abbrev pub Turn : Type 0
Turn = ControlFlow Typed Here

-- a turn, by the code's answer
unfoldable pub turn_by : Turn → List ℕ → List ℕ → Turned
turn_by (Continue x) vals words = more (state_of x.count vals x.used words)
turn_by (Break a) vals words = done (record { answer = a.answer; words = words })

-- the sheet's answer has the mark m, where it has a value
unfoldable pub DoneMarked : Bool → Turn → Type 0
DoneMarked m (Continue x) = Unit {0}
DoneMarked m (Break a) = a ≡ marked_by m a.answer

-- the counted values lie within the slice, and the turn goes on at the next place
unfoldable pub TurnCounted : ℕ → Turn → Type 0
TurnCounted n (Continue x) = (x.count ≤ most) × (x.at.0 ≡ n)
TurnCounted n (Break a) = Unit {0}

-- what the turn after an item promises, whatever words stand in the table
pub record TurnsBy (size place next : ℕ) (d : Did) (vals : List ℕ) (r : Turn) : Type 0 where
  pub turned : (s words : List ℕ) → length s ≡ size → turn_by r vals words ≡ after s place next (effect_by d vals words)
  pub counted : TurnCounted next r
  pub marked : (words : List ℕ) → DoneMarked (end_mark (effect_by d vals words)) r

pub record Turns (t : Turned) (m : Bool) (next : ℕ) (r : Turn) (vals words : List ℕ) : Type 0 where
  pub turned : turn_by r vals words ≡ t
  pub counted : TurnCounted next r
  pub marked : DoneMarked m r

-- the memo after a turn that goes on
unfoldable pub AfterTurn : Turn → List ℕ → List ℕ → Type 0
AfterTurn (Continue x) memo w = Recalls memo w x.used
AfterTurn (Break a) memo w = Unit {0}

-- what is left of the items gives what they gave from the first place, in a profile
pub record RushesIn (profile : ℕ) (s : List ℕ) (from count : ℕ) (vals : List ℕ) (used : ℕ) (w : List ℕ) (r : Here) (after : List ℕ) : Type 0 where
  pub ready : Ready r.count after r.used w
  pub rest : run_items profile s (items_from s r.at.0) (state_of r.count after r.used w) ≡ run_items profile s (items_from s from) (state_of count vals used w)
  pub mark : runs_items profile s (items_from s r.at.0) (state_of r.count after r.used w) ≡ runs_items profile s (items_from s from) (state_of count vals used w)
  pub onward : from ≤ r.at.0
  pub same : r.used ≡ used

-- and in every one
abbrev pub Rushes : List ℕ → ℕ → ℕ → List ℕ → ℕ → List ℕ → Here → List ℕ → Type 0
Rushes s from count vals used w r after = (profile : ℕ) → RushesIn profile s from count vals used w r after
