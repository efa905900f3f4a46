-- Document 01, "The sheet" and "What is answered", and document 02, K1: a sheet typed item by item, in a profile. Assumes nothing.
use Rattle.std.specs.Prelude.{ℕ, Bool, false, ◌&&◌, cond, List, [], ◌∷◌, length, get_or, eqb, ltb}
use Rattle.answer.specs.Answer.{accept, refuse}
use Rattle.table.specs.Table.{soundb}
use Rattle.table.specs.Placing.{Outcome, turned_down}
use Rattle.answer.specs.declared.Reason.TheVariants.{Unsound, Unknown, Framing, Stack}
use Rattle.answer.specs.declared.Answer.{Answer}
use Rattle.answer.specs.declared.Answer.TheVariants.{NoValue, Refused}
use Rattle.frame.specs.Frame.{header_size, header_ok, items_from}
use Rattle.frame.specs.declared.Placed.{Placed}
use Rattle.held.specs.Held.{number_of, mark_of}
use Rattle.names.specs.Names.{profiles}
use Rattle.step.specs.Effect.{State, height, Effect, goes, silent, ends, stops, effect_of}

-- what a turn of the machine comes to: the state in which it goes on, or the sheet's outcome
pub data Turned : Type 0 where
  more : State → Turned
  done : Outcome → Turned

-- "At the end one value stands"; a wrong end is 11 at 3 + L, which is the length of the sheet
abbrev pub end_answer : ℕ → List ℕ → ℕ → Answer
end_answer size vs used = cond (eqb (length vs) 1) (accept (number_of (get_or vs 0 0)) used) (refuse Stack size used)

-- ".. or the last item was a call without value on an otherwise empty stack"; "a misplaced no-value call gives 11 last", at its place.
-- Bytes that follow it, of whatever kind, make it not the last
abbrev pub left_answer : ℕ → ℕ → ℕ → ℕ → ℕ → Answer
left_answer size place next count used = cond (eqb count 0 && eqb next size) (NoValue used) (refuse Stack place used)

unfoldable pub after : List ℕ → ℕ → ℕ → Effect → Turned
after s place next (goes st) = more st
after s place next (silent st) = done (record { answer = left_answer (length s) place next (height st) st.used; words = st.words })
after s place next (ends st) = done (record { answer = end_answer (length s) st.stack st.used; words = st.words })
after s place next (stops r w) = done (record { answer = Refused r; words = w })

-- the turn at what stands at a place
unfoldable pub turn_of : ℕ → List ℕ → Placed → State → Turned
turn_of profile s x st = after s x.at.0 x.next.0 (effect_of profile x.at.0 st s x.item)

unfoldable pub onward : Turned → (State → Outcome) → Outcome
onward (more st) go = go st
onward (done o) go = o

-- the items one after the other, to the first that is refused or to the end. A list of items always has its end, or bad framing, as its last
unfoldable pub run_items : ℕ → List ℕ → List Placed → State → Outcome
run_items profile s [] st = record { answer = end_answer (length s) st.stack st.used; words = st.words }
run_items profile s (x ∷ xs) st = onward (turn_of profile s x st) (run_items profile s xs)

-- the mark that the value of a sheet has: that of the one value that stands where the items end
unfoldable pub end_mark : Effect → Bool
end_mark (goes st) = false
end_mark (silent st) = false
end_mark (ends st) = mark_of (get_or st.stack 0 0)
end_mark (stops r w) = false

unfoldable pub onward_mark : Turned → Bool → (State → Bool) → Bool
onward_mark (more st) m go = go st
onward_mark (done o) m go = m

unfoldable pub runs_items : ℕ → List ℕ → List Placed → State → Bool
runs_items profile s [] st = mark_of (get_or st.stack 0 0)
runs_items profile s (x ∷ xs) st = onward_mark (turn_of profile s x st) (end_mark (effect_of profile x.at.0 st s x.item)) (runs_items profile s xs)

-- the machine starts with an empty stack
abbrev pub begun : List ℕ → ℕ → State
begun w n = record { stack = []; used = n; words = w }

-- "In a sheet: 1, header 10, then by item"; "4 for .. an unknown profile (a sheet's: after header 10, place 0)": all three at place 0
unfoldable pub type_sheet : ℕ → List ℕ → ℕ → List ℕ → Outcome
type_sheet profile w n s =
    cond (soundb w n)
    (cond (header_ok s)
    (cond (ltb profile profiles) (run_items profile s (items_from s header_size) (begun w n)) (turned_down Unknown 0 w n))
    (turned_down Framing 0 w n))
    (turned_down Unsound 0 w n)

-- document 02, K3: "`type_sheet` .. answer[s] with the mark": it shows where the sheet has a value
abbrev pub sheet_runs : ℕ → List ℕ → ℕ → List ℕ → Bool
sheet_runs profile w n s = runs_items profile s (items_from s header_size) (begun w n)
