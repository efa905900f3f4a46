-- DOCUMENT 02, K3: "a version 1 sheet replies as before K3, mark 0 included". One record, `VersionOneKeeps`, says it, in every profile and over every table, refused sheets
-- included; the machine as it was before there were marks stands here as definitions of its own: a value of its stack is a type's number. Assumes nothing.
use Prim.Native.Nat.{ℕ, zero, suc, ◌-◌}
use mathlib.Core.Path.{◌≡◌, refl, sym, ◌∙◌, ap}
use mathlib.Core.Bool.{Bool, true, false, ◌&&◌, cond}
use mathlib.Core.List.{List, [], ◌∷◌, ◌++◌}
use native.Mathlib.Omega.{arith}
use lib.Dec.{eqb, ltb, leb}
use lib.ListN.{length, get_or, drop}
use Rattle.held.specs.Held.{value_of, number_of, mark_of}
use Rattle.conv.specs.Types.{Ty}
use Rattle.overload.specs.Overload.{or}
use Rattle.overload.specs.Marks.{any_running}
use Rattle.names.specs.Names.{profiles, rule_of}
use Rattle.answer.specs.Answer.{accept, refuse}
use Rattle.answer.specs.declared.Answer.{Answer}
use Rattle.answer.specs.declared.Answer.TheVariants.{Value, NoValue, Refused}
use Rattle.answer.specs.declared.Reason.TheVariants.{Unsound, NoSuchType, Unknown, Template, Framing, Stack}
use Rattle.answer.specs.declared.Typed.{Typed}
use Rattle.table.specs.Table.{soundb, allowedb}
use Rattle.table.specs.Denote.{type_at, ty_of}
use Rattle.table.specs.Placing.{Outcome, GaveMarked, turned_down, entering}
use Rattle.table.specs.declared.Entry.{Entry}
use Rattle.table.proofs.KindLaws.{split}
use Rattle.table.proofs.SoundLaws.{sound-of}
use Rattle.frame.specs.Frame.{version1, marked, header_size, header_ok, item_at, is_item, is_running, items_within, items_from}
use Rattle.frame.specs.declared.Item.{Item}
use Rattle.frame.specs.declared.Item.TheVariants.{Push, Unary, Binary, Call, CallTemplate, Take, End, Bad}
use Rattle.frame.specs.declared.Placed.{Placed}
use Rattle.frame.proofs.Marks.{unmarked-const}
use Rattle.ruled.proofs.Early.{const-number}
use Rattle.ops_ty.specs.Ops.{unary_outcome, binary_outcome}
use Rattle.ops_ty.proofs.Early.{base_unary, base_binary, const-ops}
use Rattle.call_ty.specs.Calls.{numbers, marks_of, types, by_rule}
use Rattle.call_ty.proofs.Early.{base_by_rule, const-calls}
use Rattle.step.specs.Effect.{most, State, height, operands, below, Effect, goes, silent, ends, stops, stop, answered, onto, is_valued, having, holding, landing, calling, bytes_of, entry_of, push_effect, unary_effect, binary_effect, call_effect, template_effect, take_effect, effect_of}
use Rattle.step.specs.inner.Code.{Good}
use Rattle.sheet.specs.Machine.{Turned, more, done, end_answer, left_answer, after, turn_of, onward, run_items, begun, type_sheet, sheet_runs}
use Rattle.sheet.proofs.Running.{turn-goes-on, turn-kept}
use Rattle.sheet.proofs.Demand1.{begun-good}
use Rattle.sheet.proofs.Early.{AllConst, ConstAfter, const-none, const-item, early-const}

-- THE BASE. A type's number as one value more, and a call's outcome over the values that stand below its operands

abbrev pub base_pushed : List ℕ → ℕ → List ℕ
base_pushed vs t = vs ++ (t ∷ [])

abbrev pub base_answered : List ℕ → Answer → List ℕ → Effect
base_answered vs (Value t used) w = goes (record { stack = base_pushed vs t.0; used = used; words = w })
base_answered vs (NoValue used) w = silent (record { stack = vs; used = used; words = w })
base_answered vs (Refused r) w = stops r w

unfoldable pub base_onto : List ℕ → Outcome → Effect
base_onto vs o = base_answered vs o.answer o.words

-- an item at a place of the sheet

module _ (place : ℕ) (st : State) where
  unfoldable pub base_push : ℕ → Effect
  base_push t =
      cond (ltb t st.used)
      (holding place st (goes (record { stack = base_pushed st.stack t; used = st.used; words = st.words })))
      (stop NoSuchType place st)

  unfoldable pub base_take : Entry → Effect
  base_take e =
      cond (allowedb st.words st.used e)
      (holding place st (base_onto st.stack (entering place st.words st.used (ty_of st.words e))))
      (stop Template place st)

  unfoldable pub base_unary_item : ℕ → Effect
  base_unary_item op =
      having place st 1 (base_onto (below 1 st) (base_unary place st.words st.used op (type_at st.words (get_or (operands 1 st) 0 0))))

  unfoldable pub base_binary_item : ℕ → Effect
  base_binary_item op =
      having place st 2
      (base_onto (below 2 st)
      (base_binary place st.words st.used op (type_at st.words (get_or (operands 2 st) 0 0)) (type_at st.words (get_or (operands 2 st) 1 0))))

  -- "11 for that 65th value, before 9"
  abbrev pub base_landing : ℕ → Outcome → Effect
  base_landing k o = cond (leb most (height st - k) && is_valued o.answer) (stop Stack place st) (base_onto (below k st) o)

module _ (profile place : ℕ) (st : State) where
  abbrev pub base_calling : List ℕ → List Ty → ℕ → Effect
  base_calling name ts k = base_landing place st k (base_by_rule place st.words st.used (rule_of profile name) ts (types st.words (operands k st)))

  unfoldable pub base_effect : List ℕ → Item → Effect
  base_effect s (Push t m) = base_push place st t.0
  base_effect s (Unary op) = base_unary_item place st op
  base_effect s (Binary op) = base_binary_item place st op
  base_effect s (Call k name) = having place st k (base_calling (bytes_of s name) [] k)
  base_effect s (CallTemplate t k name) =
      having place st k (cond (ltb t.0 st.used) (base_calling (bytes_of s name) (type_at st.words t.0 ∷ []) k) (stop NoSuchType place st))
  base_effect s (Take kind p q elem m) = base_take place st (entry_of kind p q elem)
  base_effect s End = ends st
  base_effect s Bad = stop Framing place st

-- a sheet: the value that stands at its end is the type's number

abbrev pub base_end : ℕ → List ℕ → ℕ → Answer
base_end size vs used = cond (eqb (length vs) 1) (accept (get_or vs 0 0) used) (refuse Stack size used)

unfoldable pub base_after : List ℕ → ℕ → ℕ → Effect → Turned
base_after s place next (goes st) = more st
base_after s place next (silent st) = done (record { answer = left_answer (length s) place next (height st) st.used; words = st.words })
base_after s place next (ends st) = done (record { answer = base_end (length s) st.stack st.used; words = st.words })
base_after s place next (stops r w) = done (record { answer = Refused r; words = w })

unfoldable pub base_turn : ℕ → List ℕ → Placed → State → Turned
base_turn profile s x st = base_after s x.at.0 x.next.0 (base_effect profile x.at.0 st s x.item)

unfoldable pub base_run : ℕ → List ℕ → List Placed → State → Outcome
base_run profile s [] st = record { answer = base_end (length s) st.stack st.used; words = st.words }
base_run profile s (x ∷ xs) st = onward (base_turn profile s x st) (base_run profile s xs)

unfoldable pub base_sheet : ℕ → List ℕ → ℕ → List ℕ → Outcome
base_sheet profile w n s =
    cond (soundb w n)
    (cond (header_ok s)
    (cond (ltb profile profiles) (base_run profile s (items_from s header_size) (begun w n)) (turned_down Unknown 0 w n))
    (turned_down Framing 0 w n))
    (turned_down Unsound 0 w n)

-- THE THEOREM
pub record VersionOneKeeps : Type 0 where
  -- a sheet of version 1, refused or not, has the outcome that it had: its answer and every word of the table
  pub replies : (profile : ℕ) (w : List ℕ) (n : ℕ) (s : List ℕ) → get_or s 0 0 ≡ version1 → type_sheet profile w n s ≡ base_sheet profile w n s
  -- and mark 0
  pub mark : (profile : ℕ) (w : List ℕ) (n : ℕ) (s : List ℕ) → get_or s 0 0 ≡ version1 → (r : Typed) (v : List ℕ)
      → GaveMarked (type_sheet profile w n s) (sheet_runs profile w n s) r v → r.running ≡ false

-- CONST VALUES are their numbers

plain_value : (t : ℕ) → value_of t false ≡ t
plain_value t = omega arith

const-drop : (k : ℕ) (vs : List ℕ) → AllConst vs → AllConst (drop k vs)
const-drop zero vs c i = c i
const-drop (suc k) [] c i = refl
const-drop (suc k) (v ∷ vs) c i = const-drop k vs (λ j. c (suc j)) i

none-running : (vs : List ℕ) → AllConst vs → any_running (marks_of vs) ≡ false
unfolding any_running or
none-running [] c = refl
none-running (v ∷ vs) c = rw (c 0) (none-running vs (λ i. c (suc i)))

const-numbers : (vs : List ℕ) → AllConst vs → numbers vs ≡ vs
const-numbers [] c = refl
const-numbers (v ∷ vs) c = λ i. const-number v (c 0) i ∷ const-numbers vs (λ j. c (suc j)) i

plain-answered : (vs : List ℕ) (a : Answer) (w : List ℕ) → answered vs false a w ≡ base_answered vs a w
plain-answered vs (Value t used) w = ap (λ (x : ℕ). goes (record { stack = vs ++ (x ∷ []); used = used; words = w })) (plain_value t.0)
plain-answered vs (NoValue used) w = refl
plain-answered vs (Refused r) w = refl

plain-onto : (vs : List ℕ) (o : Outcome) → onto vs false o ≡ base_onto vs o
unfolding onto base_onto
plain-onto vs o = plain-answered vs o.answer o.words

-- AN ITEM of a sheet without marks does what it did

module _ (place : ℕ) (st : State) (c : AllConst st.stack) where
  abbrev w : List ℕ
  w = st.words

  abbrev n : ℕ
  n = st.used

  operands-const : (k : ℕ) → AllConst (operands k st)
  operands-const k = const-drop (height st - k) st.stack c

  as-push : (t : ℕ) → push_effect place st t false ≡ base_push place st t
  unfolding push_effect base_push
  as-push t =
      ap (λ (x : ℕ). cond (ltb t n) (holding place st (goes (record { stack = st.stack ++ (x ∷ []); used = n; words = w }))) (stop NoSuchType place st)) (plain_value t)

  as-take : (e : Entry) → take_effect place st e false ≡ base_take place st e
  unfolding take_effect base_take
  as-take e = ap (λ (x : Effect). cond (allowedb w n e) (holding place st x) (stop Template place st)) (plain-onto st.stack (entering place w n (ty_of w e)))

  unary-const : (op a : ℕ) → mark_of a ≡ false → unary_outcome place w n op (type_at w (number_of a)) (mark_of a) ≡ base_unary place w n op (type_at w a)
  unary-const op a e = rw (e, const-number a e, const-ops.unary_at place w n op (type_at w a))

  binary-const : (op a b : ℕ) → mark_of a ≡ false → mark_of b ≡ false
      → binary_outcome place w n op (type_at w (number_of a)) (type_at w (number_of b)) (mark_of a) (mark_of b) ≡ base_binary place w n op (type_at w a) (type_at w b)
  binary-const op a b e f = rw (e, f, const-number a e, const-number b f, const-ops.binary_at place w n op (type_at w a) (type_at w b))

  as-unary : (op : ℕ) → unary_effect false place st op ≡ base_unary_item place st op
  unfolding unary_effect base_unary_item
  as-unary op =
      ap (having place st 1)
      (plain-onto (below 1 st) _ ∙ ap (base_onto (below 1 st)) (unary-const op (get_or (operands 1 st) 0 0) (operands-const 1 0)))

  as-binary : (op : ℕ) → binary_effect false place st op ≡ base_binary_item place st op
  unfolding binary_effect base_binary_item
  as-binary op =
      ap (having place st 2)
      (plain-onto (below 2 st) _
      ∙ ap (base_onto (below 2 st)) (binary-const op (get_or (operands 2 st) 0 0) (get_or (operands 2 st) 1 0) (operands-const 2 0) (operands-const 2 1)))

  call-const : (profile : ℕ) (name : List ℕ) (ts : List Ty) (vs : List ℕ) → AllConst vs
      → by_rule place w n (rule_of profile name) ts (types w (numbers vs)) (marks_of vs) ≡ base_by_rule place w n (rule_of profile name) ts (types w vs)
  call-const profile name ts vs a =
      const-calls.call_at place w n (rule_of profile name) ts (types w (numbers vs)) (marks_of vs) (none-running vs a)
      ∙ ap (λ (us : List ℕ). base_by_rule place w n (rule_of profile name) ts (types w us)) (const-numbers vs a)

  as-landing : (k : ℕ) (o : Outcome) → landing place st k false o ≡ base_landing place st k o
  as-landing k o = ap (λ (e : Effect). cond (leb most (height st - k) && is_valued o.answer) (stop Stack place st) e) (plain-onto (below k st) o)

  as-calling : (profile : ℕ) (name : List ℕ) (ts : List Ty) (k : ℕ) → calling false profile place st name ts k ≡ base_calling profile place st name ts k
  as-calling profile name ts k =
      as-landing k (by_rule place w n (rule_of profile name) ts (types w (numbers (operands k st))) (marks_of (operands k st)))
      ∙ ap (base_landing place st k) (call-const profile name ts (operands k st) (operands-const k))

  as_call : (profile : ℕ) (name : List ℕ) (k : ℕ) → call_effect false profile place st name k ≡ having place st k (base_calling profile place st name [] k)
  unfolding call_effect
  as_call profile name k = ap (having place st k) (as-calling profile name [] k)

  as-template : (profile : ℕ) (name : List ℕ) (t k : ℕ)
      → template_effect false profile place st name t k
      ≡ having place st k (cond (ltb t n) (base_calling profile place st name (type_at w t ∷ []) k) (stop NoSuchType place st))
  unfolding template_effect
  as-template profile name t k =
      ap (λ (e : Effect). having place st k (cond (ltb t n) e (stop NoSuchType place st))) (as-calling profile name (type_at w t ∷ []) k)

  as-item : (profile : ℕ) (s : List ℕ) → marked s ≡ false → (i : Item) → is_running i ≡ false → effect_of profile place st s i ≡ base_effect profile place st s i
  unfolding effect_of base_effect
  as-item profile s m (Push t r) h = ap (push_effect place st t.0) h ∙ as-push t.0
  as-item profile s m (Unary op) h = ap (λ (b : Bool). unary_effect b place st op) m ∙ as-unary op
  as-item profile s m (Binary op) h = ap (λ (b : Bool). binary_effect b place st op) m ∙ as-binary op
  as-item profile s m (Call k name) h = ap (λ (b : Bool). call_effect b profile place st (bytes_of s name) k) m ∙ as_call profile (bytes_of s name) k
  as-item profile s m (CallTemplate t k name) h =
      ap (λ (b : Bool). template_effect b profile place st (bytes_of s name) t.0 k) m ∙ as-template profile (bytes_of s name) t.0 k
  as-item profile s m (Take kind p q elem r) h = ap (take_effect place st (entry_of kind p q elem)) h ∙ as-take (entry_of kind p q elem)
  as-item profile s m End h = refl
  as-item profile s m Bad h = refl

-- A RUN of it

as-end : (size : ℕ) (vs : List ℕ) (used : ℕ) → AllConst vs → end_answer size vs used ≡ base_end size vs used
as-end size vs used c = ap (λ (x : ℕ). cond (eqb (length vs) 1) (accept x used) (refuse Stack size used)) (const-number (get_or vs 0 0) (c 0))

as-after : (s : List ℕ) (place next : ℕ) (e : Effect) → ConstAfter e → after s place next e ≡ base_after s place next e
unfolding after base_after
as-after s place next (goes st) h = refl
as-after s place next (silent st) h = refl
as-after s place next (ends st) h = ap (λ (a : Answer). done (record { answer = a; words = st.words })) (as-end (length s) st.stack st.used h)
as-after s place next (stops r w) h = refl

module _ (profile : ℕ) (s : List ℕ) (m : marked s ≡ false) where
  -- whatever a good stack of const values stands for, what is left of the items replies as it did
  AsFrom : List Placed → Type 0
  AsFrom l = (st : State) → Good st → AllConst st.stack → run_items profile s l st ≡ base_run profile s l st

  as_none : AsFrom []
  unfolding AsFrom run_items base_run
  as_none st g c = ap (λ (a : Answer). record { answer = a; words = st.words }) (as-end (length s) st.stack st.used c)

  after-item : (at : ℕ) (st : State) → Good st → AllConst st.stack → ConstAfter (effect_of profile (item_at s at).at.0 st s (item_at s at).item)
  after-item at st g c = const-item (item_at s at).at.0 st g c profile s m (item_at s at).item (unmarked-const s at m)

  as-turn : (at : ℕ) (st : State) → Good st → AllConst st.stack → turn_of profile s (item_at s at) st ≡ base_turn profile s (item_at s at) st
  unfolding turn_of base_turn
  as-turn at st g c =
      let x = item_at s at in
      as-after s x.at.0 x.next.0 (effect_of profile x.at.0 st s x.item) (after-item at st g c)
      ∙ ap (base_after s x.at.0 x.next.0) (as-item x.at.0 st c profile s m x.item (unmarked-const s at m))

  as_one : (at : ℕ) (l : List Placed) → AsFrom l → AsFrom (item_at s at ∷ l)
  unfolding AsFrom run_items base_run onward
  as_one at l f st g c = go (turn_of profile s (item_at s at) st) refl (after-item at st g c)
    where
      go : (t : Turned) → turn_of profile s (item_at s at) st ≡ t → ConstAfter (effect_of profile (item_at s at).at.0 st s (item_at s at).item)
          → onward (turn_of profile s (item_at s at) st) (run_items profile s l) ≡ onward (base_turn profile s (item_at s at) st) (base_run profile s l)
      go (more st') e k =
          rw (sym (as-turn at st g c) ∙ e, e)
          (f st' (turn-kept profile s (item_at s at) st st' e g).0 (rw (turn-goes-on profile s (item_at s at) st st' e) at k))
      go (done o) e k = rw (sym (as-turn at st g c) ∙ e, e) refl

  as-within : (n at : ℕ) → AsFrom (items_within n s at)
  unfolding items_within
  as-within zero at = as_one at [] as_none
  as-within (suc n) at =
      as_one at (cond (is_item (item_at s at).item) (items_within n s (item_at s at).next.0) []) (rest (is_item (item_at s at).item) (as-within n (item_at s at).next.0))
    where
      rest : (b : Bool) → AsFrom (items_within n s (item_at s at).next.0) → AsFrom (cond b (items_within n s (item_at s at).next.0) [])
      rest true f = f
      rest false f = as_none

  -- a sheet whose version has no marks
  unmarked-as-before : (w : List ℕ) (n : ℕ) → type_sheet profile w n s ≡ base_sheet profile w n s
  unfolding AsFrom items_from type_sheet base_sheet
  unmarked-as-before w n =
      split (soundb w n)
      (λ h.
      rw h
      (ap (λ (o : Outcome). cond (header_ok s) (cond (ltb profile profiles) o (turned_down Unknown 0 w n)) (turned_down Framing 0 w n))
      (as-within (length s) header_size (begun w n) (begun-good profile w n s (sound-of w n h)) const-none)))
      (λ h. rw h)

pub version-1-as-before : (profile : ℕ) (w : List ℕ) (n : ℕ) (s : List ℕ) → get_or s 0 0 ≡ version1 → type_sheet profile w n s ≡ base_sheet profile w n s
version-1-as-before profile w n s e = unmarked-as-before profile s (rw e) w n

-- THE THEOREM HOLDS
pub version-one-keeps : VersionOneKeeps
version-one-keeps = record { replies = version-1-as-before; mark = early-const }
