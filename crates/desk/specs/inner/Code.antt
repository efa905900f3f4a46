-- What the code goes by: the item that is told stands over the first values of a lent slice and the words of a lent table. Assumes nothing.
use Rattle.std.specs.Prelude.{ℕ, ◌-◌, ◌≤◌, ◌≡◌, List, [], Option, Some, None, length, take, drop}
use Rattle.frame.specs.Frame.{item_at}
use Rattle.step.specs.inner.Code.{state_of, Ready}
use Rattle.why.specs.inner.Asks.{Asked, Tells, asked_pieces}
use Rattle.step.specs.Effect.{State}
use Rattle.desk.specs.declared.Query.{Query}
use Rattle.desk.specs.declared.before.Before.{Before}
use Rattle.desk.specs.Told.{Told, nothing, before}
use Rattle.desk.specs.declared.Stand.{Stand}

-- the item that is told, by the code's answer, the values and the words
unfoldable pub told_by : Option Stand → List ℕ → List ℕ → Told
told_by None vals words = nothing
told_by (Some r) vals words = before (state_of r.count vals r.used words) r.placed.item

-- its state is one that a run reaches, and it stands in the sheet
unfoldable pub Standing : List ℕ → Option Stand → List ℕ → List ℕ → Type 0
Standing s None vals words = Unit {0}
Standing s (Some r) vals words = Ready r.count vals r.used words × (r.placed ≡ item_at s r.placed.at.0)

pub record Finds (s : List ℕ) (t : Told) (r : Option Stand) (vals words : List ℕ) : Type 0 where
  pub told : told_by r vals words ≡ t
  pub standing : Standing s r vals words

-- the operands of the single call that is asked about are the values from the first to the end; and its pieces
abbrev pub args_of : Query → List ℕ → List ℕ
args_of q vals = take (q.end - q.first) (drop q.first vals)

abbrev pub pieces_of : Query → List ℕ → List ℕ → List (List ℕ)
pieces_of q vals words = asked_pieces words (args_of q vals) q.asked

-- what has to be known before a piece is put
pub record Asking (q : Query) (vals words : List ℕ) : Type 0 where
  pub tells : Tells words q.used (args_of q vals) q.asked
  pub order : q.first ≤ q.end
  pub fits : q.end ≤ length vals

-- where nothing is asked there is nothing to know, and no piece
abbrev pub AllAsking : Option Query → List ℕ → List ℕ → Type 0
AllAsking None vals words = Unit {0}
AllAsking (Some q) vals words = Asking q vals words

abbrev pub all_pieces : Option Query → List ℕ → List ℕ → List (List ℕ)
all_pieces None vals words = []
all_pieces (Some q) vals words = pieces_of q vals words

-- these pieces are asked for
pub record Queries (ps : List (List ℕ)) (q : Option Query) (vals words : List ℕ) : Type 0 where
  pub asking : AllAsking q vals words
  pub pieces : all_pieces q vals words ≡ ps

-- the last k of the values before an item, and what is asked on them
abbrev pub last_of : ℕ → Before → List ℕ
last_of k b = take (b.count - (b.count - k)) (drop (b.count - k) b.stack.now)

abbrev pub asking : Asked → ℕ → Before → Query
asking a k b = record { asked = a; used = b.used; first = b.count - k; end = b.count }

-- the state before an item, and what is asked over it
abbrev pub state_at : Before → State
state_at b = state_of b.count b.stack.now b.used b.words.now

abbrev pub QueriesAt : List (List ℕ) → Option Query → Before → Type 0
QueriesAt ps q b = Queries ps q b.stack.now b.words.now

-- how many pieces a query has, over whatever stack and table
abbrev pub Counted : Query → ℕ → Type 0
Counted q r = (vals words : List ℕ) → r ≡ length (pieces_of q vals words)
