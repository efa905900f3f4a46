-- What the code goes by: which item asks what, and the key of what is asked on the last values of the stack. Assumes nothing.
use Rattle.std.specs.Prelude.{ℕ, ◌-◌, ◌<◌, ◌≤◌, ◌≡◌, Bool, ◌&&◌, List, Option, Some, None, length, get_or, take, drop}
use Rattle.overload.specs.Overload.{or}
use Rattle.overload.specs.Marks.{any_running}
use Rattle.held.specs.Held.{number_of}
use Rattle.call_ty.specs.Calls.{numbers, marks_of, types}
use Rattle.frame.specs.Frame.{marked}
use Rattle.frame.specs.declared.Part.{Part}
use Rattle.frame.specs.declared.Item.{Item}
use Rattle.frame.specs.declared.Item.TheVariants.{Call}
use Rattle.names.specs.inner.Table.{StandsAt}
use Rattle.step.specs.Effect.{most, State, height, operands, below, onto, bytes_of, effect_of}
use Rattle.memo.specs.declared.key.Ask.{Ask}
use Rattle.memo.specs.declared.key.Key.{Key}
use Rattle.memo.specs.inner.Memo.{Question, code_of, On, typed, digits, key_of}

-- the numbers of the stack's values are bytes, as those of a table of 256 entries are
pub record Small (count : ℕ) (vals : List ℕ) : Type 0 where
  pub fits : count ≤ length vals
  pub size : length vals ≡ most
  pub bytes : (i : ℕ) → i < count → number_of (get_or vals i 0) < 256

-- the mark of what is asked on these operands: whether a result is running even where all operands are const, or an operand is; a sheet of version 1 keeps none
abbrev pub runs_on : Bool → Bool → List ℕ → Bool
runs_on keeps runs vs = keeps && or runs (any_running (marks_of vs))

-- an item asks by a code: its effect in a profile is what typing gives, in the place of its operands
pub record AskedBy (profile : ℕ) (s : List ℕ) (i : Item) (code k : ℕ) (runs : Bool) : Type 0 where
  pub question : Question
  pub on : On question k
  pub number : code ≡ code_of question
  pub effect : (place : ℕ) (st : State) → k ≤ height st → height st ≤ most
      → effect_of profile place st s i
      ≡ onto (below k st) (runs_on (marked s) runs (operands k st)) (typed place st.words st.used question (types st.words (numbers (operands k st))) (marks_of (operands k st)))

-- or it asks nothing
abbrev pub Asks : ℕ → List ℕ → Item → Option Ask → Type 0
Asks profile s i None = Unit {0}
Asks profile s i (Some a) = AskedBy profile s i a.code a.operands a.runs

-- in whatever sheet and profile
abbrev pub AsksEver : Item → Option Ask → Type 0
AsksEver i o = (profile : ℕ) (s : List ℕ) → Asks profile s i o

-- a row of the names asks on k operands: every call of the name that stands there
abbrev pub AsksRow : ℕ → ℕ → ℕ → Option Ask → Type 0
AsksRow profile row k o = (s : List ℕ) (name : Part) → StandsAt (bytes_of s name) (Some row) → Asks profile s (Call k name) o

-- the last k of `count` values; their key under a code, and the mark of what it asks
abbrev pub last_of : ℕ → ℕ → List ℕ → List ℕ
last_of k count vals = take (count - (count - k)) (drop (count - k) vals)

pub record KeyedBy (a : Ask) (keeps : Bool) (count : ℕ) (vals : List ℕ) (key : Key) : Type 0 where
  pub enough : a.operands ≤ count
  pub is : key.number ≡ key_of a.code (digits (last_of a.operands count vals))
  pub mark : key.running ≡ runs_on keeps a.runs (last_of a.operands count vals)
  pub start : key.base ≡ count - a.operands

-- or values lack
abbrev pub Keyed : Ask → Bool → ℕ → List ℕ → Option Key → Type 0
Keyed a keeps count vals None = Unit {0}
Keyed a keeps count vals (Some key) = KeyedBy a keeps count vals key

-- the key of what an item asks
pub record ItemKey (profile : ℕ) (s : List ℕ) (i : Item) (count : ℕ) (vals : List ℕ) (key : Key) : Type 0 where
  pub ask : Ask
  pub asks : AskedBy profile s i ask.code ask.operands ask.runs
  pub keyed : KeyedBy ask (marked s) count vals key

abbrev pub ItemKeyed : ℕ → List ℕ → Item → ℕ → List ℕ → Option Key → Type 0
ItemKeyed profile s i count vals None = Unit {0}
ItemKeyed profile s i count vals (Some key) = ItemKey profile s i count vals key
