-- The state that a sheet's accepted items reach, which of them added an entry, and the items that a run looks at. Assumes nothing.
use Rattle.std.specs.Prelude.{ℕ, ◌≤◌, ◌<◌, ◌≡◌, List, [], ◌∷◌}
use Rattle.frame.specs.declared.Placed.{Placed}
use Rattle.table.specs.Denote.{type_at}
use Rattle.table.specs.Stands.{Absent, Part}
use Rattle.step.specs.Effect.{State}
use Rattle.step.specs.Kept.{result_of}
use Rattle.sheet.specs.Machine.{Turned, more, done, turn_of}

-- the state after the items that are accepted, one after the other
unfoldable pub further : Turned → State → (State → State) → State
further (more st') st go = go st'
further (done o) st go = st

unfoldable pub reached : ℕ → List ℕ → List Placed → State → State
reached profile s [] st = st
reached profile s (x ∷ xs) st = further (turn_of profile s x st) st (reached profile s xs)

-- an accepted item of a run, the state before it and the state after it
pub data Accepted (profile : ℕ) (s : List ℕ) : List Placed → State → Placed → State → State → Type 0 where
  first : {x : Placed} {xs : List Placed} {st st' : State} → turn_of profile s x st ≡ more st' → Accepted profile s (x ∷ xs) st x st st'
  later : {x y : Placed} {xs : List Placed} {st st' a b : State} → turn_of profile s x st ≡ more st' → Accepted profile s xs st' y a b → Accepted profile s (x ∷ xs) st y a b

-- entry i of the table that a run reached was added by an accepted item: it was missing before that item, and is the item's result or a part of it
pub record AddedBy (profile : ℕ) (s : List ℕ) (xs : List Placed) (st : State) (i : ℕ) : Type 0 where
  pub item : Placed
  pub earlier : State
  pub later : State
  pub accepted : Accepted profile s xs st item earlier later
  pub from : earlier.used ≤ i
  pub to : i < later.used
  pub missing : Absent earlier.words earlier.used (type_at (reached profile s xs st).words i)
  pub needed : Part (type_at (reached profile s xs st).words i) (result_of later)

-- what a run looks at: what stands first, and, after an item that is accepted, what it looks at of the rest
unfoldable pub beyond : Turned → (State → List Placed) → List Placed
beyond (more st') go = go st'
beyond (done o) go = []

unfoldable pub visited : ℕ → List ℕ → List Placed → State → List Placed
visited profile s [] st = []
visited profile s (x ∷ xs) st = x ∷ beyond (turn_of profile s x st) (visited profile s xs)
