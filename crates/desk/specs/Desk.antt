-- Document 02, K7, "the tool for a desk": the lines of the one item of a sheet that is told, piece by piece. Assumes nothing.
use Rattle.std.specs.Prelude.{ℕ, cond, List, [], ◌∷◌, ◌++◌, get_or, leb, ltb}
use Rattle.table.specs.Table.{scalars}
use Rattle.frame.specs.declared.Item.{Item}
use Rattle.frame.specs.declared.Item.TheVariants.{Push, Unary, Binary, Call, CallTemplate, Take, End, Bad}
use Rattle.step.specs.Effect.{State, height, operands, bytes_of}
use Rattle.lines.specs.Lines.{start, outcome, report}
use Rattle.reasons.specs.Reasons.{together}
use Rattle.why.specs.Why.{unary_pieces, binary_pieces, call_pieces}
use Rattle.desk.specs.Told.{Told, nothing, before, told_of}

-- AN ITEM stands for a single call on the operands that the stack holds before it: its lines are those of that call

module _ (st : State) where
  -- no call is made where the stack has fewer than k values
  abbrev pub having : ℕ → List (List ℕ) → List (List ℕ)
  having k ps = cond (leb k (height st)) ps []

  unfoldable pub unary_lines : ℕ → List (List ℕ)
  unary_lines op = having 1 (unary_pieces st.words st.used op (get_or (operands 1 st) 0 0))

  unfoldable pub binary_lines : ℕ → List (List ℕ)
  binary_lines op = having 2 (binary_pieces st.words st.used op (get_or (operands 2 st) 0 0) (get_or (operands 2 st) 1 0))

  unfoldable pub call_lines : ℕ → List ℕ → List ℕ → ℕ → List (List ℕ)
  call_lines profile name tplt k = having k (call_pieces profile st.words st.used name tplt (operands k st))

  -- nor where the template is no type of the table
  unfoldable pub template_lines : ℕ → List ℕ → ℕ → ℕ → List (List ℕ)
  template_lines profile name t k = cond (ltb t st.used) (call_lines profile name (t ∷ []) k) []

-- "if that is an operator or a call": a push and a take have no lines
unfoldable pub item_lines : ℕ → List ℕ → State → Item → List (List ℕ)
item_lines profile s st (Push t m) = []
item_lines profile s st (Unary op) = unary_lines st op
item_lines profile s st (Binary op) = binary_lines st op
item_lines profile s st (Call k name) = call_lines st profile (bytes_of s name) [] k
item_lines profile s st (CallTemplate t k name) = template_lines st profile (bytes_of s name) t.0 k
item_lines profile s st (Take kind p q elem m) = []
item_lines profile s st End = []
item_lines profile s st Bad = []

-- A SHEET

unfoldable pub lines_of : ℕ → List ℕ → Told → List (List ℕ)
lines_of profile s nothing = []
lines_of profile s (before st i) = item_lines profile s st i

-- over the seven scalars, by the answer that the sheet has over them
unfoldable pub desk_pieces : ℕ → List ℕ → List (List ℕ)
desk_pieces profile s = lines_of profile s (told_of profile start scalars s (outcome profile s).answer)

-- what the program writes: "it writes typesheet's two lines, and after them the lines of one item"
unfoldable pub desk_report : ℕ → List ℕ → List ℕ
desk_report profile s = report profile s ++ together (desk_pieces profile s)
