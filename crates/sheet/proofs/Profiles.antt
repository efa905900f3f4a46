-- DOCUMENT 02, K1: "Prove once over both profiles that a profile 0 reply stays what it was." One record, `ProfilesKeep`, says it of calls and of sheets, refused ones
-- included; the base, as it was before there were profiles, stands here as definitions of its own. Assumes nothing.
use Prim.Native.Nat.{ℕ, zero, suc, ◌-◌, ◌<◌}
use mathlib.Core.Path.{◌≡◌, refl, sym, ◌∙◌, ap}
use mathlib.Core.Logic.{◌⊎◌, inl, inr}
use mathlib.Core.Bool.{Bool, true, false, ◌&&◌, cond}
use mathlib.Core.List.{List, [], ◌∷◌}
use native.Mathlib.Omega.{arith}
use lib.Dec.{ltb, leb}
use lib.ListN.{length, get_or, drop_of_length-le}
use borrow.Author.Tests.{lt-leb}
use Rattle.conv.specs.Types.{Ty}
use Rattle.names.specs.Names.{count, name_at, profiles, Named, rule_in, rule_of}
use Rattle.names.specs.Names.Named.{rule, unknown}
use Rattle.names.proofs.Lines.{at as line_at}
use Rattle.names.proofs.Document.{older_names, as-older}
use Rattle.names.proofs.Profiles.{of-both, not-of-0, SameOrNewer, same-or-newer}
use Rattle.held.specs.Held.{mark_of}
use Rattle.answer.specs.Answer.{refuse, marked_by}
use Rattle.answer.specs.declared.Typed.{Typed}
use Rattle.table.specs.Table.{soundb}
use Rattle.table.specs.Denote.{type_at}
use Rattle.table.specs.Placing.{Outcome, turned_down}
use Rattle.answer.specs.declared.Place.{Place}
use Rattle.answer.specs.declared.Reason.TheVariants.{Unsound, NoSuchType, Unknown, Framing}
use Rattle.table.proofs.SoundLaws.{sound-of}
use Rattle.table.proofs.KindLaws.{split, and-false}
use Rattle.frame.specs.Frame.{marked, header_size, header_ok, is_item, item_at, items_within, items_from, name_part, name_of}
use Rattle.frame.specs.declared.Item.{Item}
use Rattle.frame.specs.declared.Item.TheVariants.{Push, Unary, Binary, Call, CallTemplate, Take, End, Bad}
use Rattle.frame.specs.declared.Placed.{Placed}
use Rattle.frame.proofs.FrameLaws.{own-place}
use Rattle.call_ty.specs.Calls.{numbers, marks_of, types, by_rule, call_outcome, runs_by, all_under, type_builtin_fn, builtin_runs}
use Rattle.call_ty.proofs.Ways.{by-unknown, single-call}
use Rattle.step.specs.Effect.{most, State, height, operands, below, Effect, stop, onto, is_valued, having, landing, bytes_of, entry_of, push_effect, unary_effect, binary_effect, take_effect, calling, call_effect, template_effect, effect_of}
use Rattle.step.specs.inner.Code.{Good}
use Rattle.step.proofs.Answers.{bare-unvalued}
use Rattle.sheet.specs.Machine.{end_answer, after, Turned, more, done, turn_of, onward, run_items, end_mark, onward_mark, runs_items, begun, type_sheet, sheet_runs}
use Rattle.sheet.proofs.Running.{turn-kept, sheet-unsound}
use Rattle.sheet.proofs.Demand1.{begun-good}

-- THE BASE: its names are those that both profiles have, the 94 as document 01 lists them and the 12 that document 02, K5, adds to both; and what a call answers is put on the
-- stack as it comes

abbrev pub base_rule : List ℕ → Named
base_rule name = rule_in 0 older_names name

unfoldable pub base_call : List ℕ → ℕ → List ℕ → List ℕ → List ℕ → Outcome
base_call w n name tplt args =
    cond (soundb w n)
    (cond (all_under n tplt)
    (cond (all_under n (numbers args))
    (by_rule 0 w n (base_rule name) (types w tplt) (types w (numbers args)) (marks_of args))
    (turned_down NoSuchType 0 w n))
    (turned_down NoSuchType 0 w n))
    (turned_down Unsound 0 w n)

-- the mark of its value
abbrev pub base_runs : List ℕ → List ℕ → Bool
base_runs name args = runs_by (base_rule name) (marks_of args)

module _ (keeps : Bool) (place : ℕ) (st : State) where
  abbrev pub base_calling : List ℕ → List Ty → ℕ → Effect
  base_calling name ts k =
      onto (below k st) (keeps && base_runs name (operands k st))
      (by_rule place st.words st.used (base_rule name) ts (types st.words (numbers (operands k st))) (marks_of (operands k st)))

module _ (place : ℕ) (st : State) where
  unfoldable pub base_effect : List ℕ → Item → Effect
  base_effect s (Push t m) = push_effect place st t.0 m
  base_effect s (Unary op) = unary_effect (marked s) place st op
  base_effect s (Binary op) = binary_effect (marked s) place st op
  base_effect s (Call k name) = having place st k (base_calling (marked s) place st (bytes_of s name) [] k)
  base_effect s (CallTemplate t k name) =
      having place st k (cond (ltb t.0 st.used) (base_calling (marked s) place st (bytes_of s name) (type_at st.words t.0 ∷ []) k) (stop NoSuchType place st))
  base_effect s (Take kind p q elem m) = take_effect place st (entry_of kind p q elem) m
  base_effect s End = effect_of 0 place st s End
  base_effect s Bad = effect_of 0 place st s Bad

unfoldable pub base_turn : List ℕ → Placed → State → Turned
base_turn s x st = after s x.at.0 x.next.0 (base_effect x.at.0 st s x.item)

unfoldable pub base_run : List ℕ → List Placed → State → Outcome
base_run s [] st = record { answer = end_answer (length s) st.stack st.used; words = st.words }
base_run s (x ∷ xs) st = onward (base_turn s x st) (base_run s xs)

unfoldable pub base_sheet : List ℕ → ℕ → List ℕ → Outcome
base_sheet w n s =
    cond (soundb w n)
    (cond (header_ok s) (base_run s (items_from s header_size) (begun w n)) (turned_down Framing 0 w n))
    (turned_down Unsound 0 w n)

-- the mark of its value, and the reply
unfoldable pub base_runs_on : List ℕ → List Placed → State → Bool
base_runs_on s [] st = mark_of (get_or st.stack 0 0)
base_runs_on s (x ∷ xs) st = onward_mark (base_turn s x st) (end_mark (base_effect x.at.0 st s x.item)) (base_runs_on s xs)

abbrev pub base_reply : List ℕ → ℕ → List ℕ → Typed
base_reply w n s = marked_by (base_runs_on s (items_from s header_size) (begun w n)) (base_sheet w n s).answer

-- the reply that `type_sheet` promises
abbrev pub reply_of : ℕ → List ℕ → ℕ → List ℕ → Typed
reply_of profile w n s = marked_by (sheet_runs profile w n s) (type_sheet profile w n s).answer

-- A SHEET REFUSED with 4 at a call whose name is of profile 1
pub record RefusedAtNewer (s : List ℕ) (o : Outcome) : Type 0 where
  pub place : ℕ
  pub used : ℕ
  pub refused : o.answer ≡ refuse Unknown place used
  pub row : ℕ
  pub there : row < count
  pub name : name_at row ≡ bytes_of s (name_part s place)
  pub newer : (line_at row).profile ≡ 1

-- THE THEOREM
pub record ProfilesKeep : Type 0 where
  -- a name whose profile is 0 gets the reply of its row, and the reply that it had, in either profile
  pub row : (profile : ℕ) → profile < profiles → (k : ℕ) → k < count → (line_at k).profile ≡ 0 → rule_of profile (name_at k) ≡ rule (line_at k).rule (line_at k).running
  pub same : (profile : ℕ) → profile < profiles → (k : ℕ) → k < count → (line_at k).profile ≡ 0 → (w : List ℕ) (n : ℕ) (tplt args : List ℕ)
      → (type_builtin_fn profile w n (name_at k) tplt args ≡ base_call w n (name_at k) tplt args) × (builtin_runs profile (name_at k) args ≡ base_runs (name_at k) args)
  -- any other name gets 4 in profile 0
  pub other : (name : List ℕ) → ((k : ℕ) → k < count → (line_at k).profile ≡ 0 → name_at k ≡ name → ⊥) → (w : List ℕ) (n : ℕ) (tplt args : List ℕ)
      → soundb w n ≡ true → all_under n tplt ≡ true → all_under n (numbers args) ≡ true → type_builtin_fn 0 w n name tplt args ≡ turned_down Unknown 0 w n
  -- every call and every sheet, refused or not, has in profile 0 the reply that it had, with its mark
  pub call : (w : List ℕ) (n : ℕ) (name tplt args : List ℕ) → type_builtin_fn 0 w n name tplt args ≡ base_call w n name tplt args
  pub mark : (name args : List ℕ) → builtin_runs 0 name args ≡ base_runs name args
  pub sheet : (w : List ℕ) (n : ℕ) (s : List ℕ) → (type_sheet 0 w n s ≡ base_sheet w n s) × (reply_of 0 w n s ≡ base_reply w n s)
  -- profile 1 answers a sheet the same, unless profile 0 refused it with 4 at a name of profile 1
  pub newer : (w : List ℕ) (n : ℕ) (s : List ℕ) → ((type_sheet 1 w n s ≡ type_sheet 0 w n s) × (reply_of 1 w n s ≡ reply_of 0 w n s)) ⊎ RefusedAtNewer s (type_sheet 0 w n s)

-- CALLS

base-call : (w : List ℕ) (n : ℕ) (name tplt args : List ℕ) → type_builtin_fn 0 w n name tplt args ≡ base_call w n name tplt args
unfolding type_builtin_fn base_call
base-call w n name tplt args = rw (as-older name)

base-mark : (name args : List ℕ) → builtin_runs 0 name args ≡ base_runs name args
base-mark name args = ap (λ (r : Named). runs_by r (marks_of args)) (as-older name)

either-mark : (profile : ℕ) → profile < profiles → (k : ℕ) → k < count → (line_at k).profile ≡ 0 → (args : List ℕ) → builtin_runs profile (name_at k) args ≡ builtin_runs 0 (name_at k) args
either-mark profile p k h z args = ap (λ (r : Named). runs_by r (marks_of args)) (of-both profile p k h z ∙ sym (of-both 0 (omega arith) k h z))

either-call : (profile : ℕ) → profile < profiles → (k : ℕ) → k < count → (line_at k).profile ≡ 0 → (w : List ℕ) (n : ℕ) (tplt args : List ℕ)
    → type_builtin_fn profile w n (name_at k) tplt args ≡ type_builtin_fn 0 w n (name_at k) tplt args
unfolding type_builtin_fn
either-call profile p k h z w n tplt args = rw (of-both profile p k h z, of-both 0 (omega arith) k h z)

other-call : (name : List ℕ) → ((k : ℕ) → k < count → (line_at k).profile ≡ 0 → name_at k ≡ name → ⊥) → (w : List ℕ) (n : ℕ) (tplt args : List ℕ)
    → soundb w n ≡ true → all_under n tplt ≡ true → all_under n (numbers args) ≡ true → type_builtin_fn 0 w n name tplt args ≡ turned_down Unknown 0 w n
other-call name none w n tplt args s t u =
    sym (single-call 0 w n name tplt args s t u)
    ∙ ap (λ (r : Named). by_rule 0 w n r (types w tplt) (types w (numbers args)) (marks_of args)) (not-of-0 name none)
    ∙ sym (by-unknown 0 w n (types w tplt) (types w (numbers args)) (marks_of args))

-- AN ITEM in profile 0 does what it did: a call without operands gave no value there, so no 65th

module _ (place : ℕ) (st : State) (good : Good st) where
  no-65th : (name : List ℕ) (ts : List Ty) (k : ℕ)
      → (leb most (height st - k) && is_valued (call_outcome 0 place st.words st.used name ts (types st.words (numbers (operands k st))) (marks_of (operands k st))).answer) ≡ false
  no-65th name ts zero =
      let none : operands 0 st ≡ [] = drop_of_length-le st.stack {i = height st - 0} (omega arith) in
      ap (λ (vs : List ℕ). leb most (height st - 0) && is_valued (call_outcome 0 place st.words st.used name ts (types st.words (numbers vs)) (marks_of vs)).answer) none
      ∙ ap (λ (b : Bool). leb most (height st - 0) && b) (bare-unvalued place st.words st.used ts name)
      ∙ and-false (leb most (height st - 0))
  no-65th name ts (suc k) = rw (lt-leb most (height st - suc k) (omega (arith, good.high)))

  base-calling : (keeps : Bool) (name : List ℕ) (ts : List Ty) (k : ℕ) → calling keeps 0 place st name ts k ≡ base_calling keeps place st name ts k
  base-calling keeps name ts k =
      rw (no-65th name ts k)
      (ap (λ (r : Named). onto (below k st) (keeps && runs_by r (marks_of (operands k st))) (by_rule place st.words st.used r ts (types st.words (numbers (operands k st))) (marks_of (operands k st)))) (as-older name))

  base-effect : (s : List ℕ) (i : Item) → effect_of 0 place st s i ≡ base_effect place st s i
  unfolding effect_of call_effect template_effect base_effect
  base-effect s (Push t m) = refl
  base-effect s (Unary op) = refl
  base-effect s (Binary op) = refl
  base-effect s (Call k name) = ap (having place st k) (base-calling (marked s) (bytes_of s name) [] k)
  base-effect s (CallTemplate t k name) =
      ap (λ (e : Effect). having place st k (cond (ltb t.0 st.used) e (stop NoSuchType place st))) (base-calling (marked s) (bytes_of s name) (type_at st.words t.0 ∷ []) k)
  base-effect s (Take kind p q elem m) = refl
  base-effect s End = refl
  base-effect s Bad = refl

base-turn : (s : List ℕ) (x : Placed) (st : State) → Good st → turn_of 0 s x st ≡ base_turn s x st
unfolding turn_of base_turn
base-turn s x st g = ap (after s x.at.0 x.next.0) (base-effect x.at.0 st g s x.item)

base-run : (s : List ℕ) (xs : List Placed) (st : State) → Good st → run_items 0 s xs st ≡ base_run s xs st
unfolding run_items base_run onward
base-run s [] st g = refl
base-run s (x ∷ xs) st g = go (turn_of 0 s x st) refl (λ st' g'. base-run s xs st' g')
  where
    go : (t : Turned) → turn_of 0 s x st ≡ t → ((st' : State) → Good st' → run_items 0 s xs st' ≡ base_run s xs st')
        → onward (turn_of 0 s x st) (run_items 0 s xs) ≡ onward (base_turn s x st) (base_run s xs)
    go (more st') e ih = rw (sym (base-turn s x st g) ∙ e, e) (ih st' (turn-kept 0 s x st st' e g).0)
    go (done o) e ih = rw (sym (base-turn s x st g) ∙ e, e) refl

base-runs : (s : List ℕ) (xs : List Placed) (st : State) → Good st → runs_items 0 s xs st ≡ base_runs_on s xs st
unfolding runs_items base_runs_on onward_mark
base-runs s [] st g = refl
base-runs s (x ∷ xs) st g = go (turn_of 0 s x st) refl (λ st' g'. base-runs s xs st' g')
  where
    go : (t : Turned) → turn_of 0 s x st ≡ t → ((st' : State) → Good st' → runs_items 0 s xs st' ≡ base_runs_on s xs st')
        → onward_mark (turn_of 0 s x st) (end_mark (effect_of 0 x.at.0 st s x.item)) (runs_items 0 s xs)
        ≡ onward_mark (base_turn s x st) (end_mark (base_effect x.at.0 st s x.item)) (base_runs_on s xs)
    go (more st') e ih = rw (sym (base-turn s x st g) ∙ e, e) (ih st' (turn-kept 0 s x st st' e g).0)
    go (done o) e ih = rw (sym (base-turn s x st g) ∙ e, e) (ap end_mark (base-effect x.at.0 st g s x.item))

base-sheet : (w : List ℕ) (n : ℕ) (s : List ℕ) → type_sheet 0 w n s ≡ base_sheet w n s
unfolding type_sheet base_sheet
base-sheet w n s =
    split (soundb w n)
    (λ h. rw h (ap (λ (o : Outcome). cond (header_ok s) o (turned_down Framing 0 w n)) (base-run s (items_from s header_size) (begun w n) (begun-good 0 w n s (sound-of w n h)))))
    (λ h. rw h)

base-reply : (w : List ℕ) (n : ℕ) (s : List ℕ) → reply_of 0 w n s ≡ base_reply w n s
base-reply w n s =
    split (soundb w n)
    (λ h.
    ap (λ (b : Bool). marked_by b (type_sheet 0 w n s).answer) (base-runs s (items_from s header_size) (begun w n) (begun-good 0 w n s (sound-of w n h)))
    ∙ ap (λ (o : Outcome). marked_by (base_runs_on s (items_from s header_size) (begun w n)) o.answer) (base-sheet w n s))
    (λ h. no-mark _ (type_sheet 0 w n s) w n (sym (sheet-unsound 0 w n s h)) ∙ sym (no-mark _ (base_sheet w n s) w n (sym (base-sheet w n s) ∙ sym (sheet-unsound 0 w n s h))))
  where
    no-mark : (b : Bool) (o : Outcome) (w : List ℕ) (n : ℕ) → o ≡ turned_down Unsound 0 w n → marked_by b o.answer ≡ marked_by false (refuse Unsound 0 n)
    no-mark b o w n e = ap (λ (p : Outcome). marked_by b p.answer) e

-- A SHEET in profile 1: item by item it is the same, to the first call of a name of profile 1

-- the mark at the end, if a place is that
abbrev end_of : ℕ → List ℕ → ℕ → State → Bool
end_of profile s at st = end_mark (effect_of profile (item_at s at).at.0 st s (item_at s at).item)

-- the turn at a place is the same in both, or in profile 0 it is refused with 4 there
Turning : List ℕ → ℕ → State → Type 0
Turning s at st =
    ((turn_of 1 s (item_at s at) st ≡ turn_of 0 s (item_at s at) st) × (end_of 1 s at st ≡ end_of 0 s at st))
    ⊎ ((o : Outcome) × (turn_of 0 s (item_at s at) st ≡ done o) × RefusedAtNewer s o)

module _ (s : List ℕ) (at : ℕ) (st : State) where
  -- a call whose name is of profile 1
  refused-call : (keeps : Bool) (name : List ℕ) (ts : List Ty) (k : ℕ) → rule_of 0 name ≡ unknown → calling keeps 0 at st name ts k ≡ stop Unknown at st
  unfolding onto is_valued
  refused-call keeps name ts k u =
      ap (λ (r : Named). landing at st k (keeps && runs_by r (marks_of (operands k st))) (by_rule at st.words st.used r ts (types st.words (numbers (operands k st))) (marks_of (operands k st)))) u
      ∙ ap (landing at st k (keeps && runs_by unknown (marks_of (operands k st)))) (sym (by-unknown at st.words st.used ts (types st.words (numbers (operands k st))) (marks_of (operands k st))))
      ∙ rw (and-false (leb most (height st - k)))

  same-call : (keeps : Bool) (name : List ℕ) (ts : List Ty) (k : ℕ) → rule_of 1 name ≡ rule_of 0 name → calling keeps 1 at st name ts k ≡ calling keeps 0 at st name ts k
  same-call keeps name ts k e = ap (λ (r : Named). landing at st k (keeps && runs_by r (marks_of (operands k st))) (by_rule at st.words st.used r ts (types st.words (numbers (operands k st))) (marks_of (operands k st)))) e

  -- what the item does is the same in both, or it stops with 4 in profile 0 and its name is of profile 1
  Doing : Item → Type 0
  Doing i =
      (effect_of 1 at st s i ≡ effect_of 0 at st s i)
      ⊎ ((effect_of 0 at st s i ≡ stop Unknown at st) × ((k : ℕ) × (k < count) × (name_at k ≡ bytes_of s (name_of i)) × ((line_at k).profile ≡ 1)))

  doing : (i : Item) → Doing i
  unfolding effect_of call_effect template_effect Doing
  doing (Push t m) = inl refl
  doing (Unary op) = inl refl
  doing (Binary op) = inl refl
  doing (Call k name) = go (same-or-newer (bytes_of s name))
    where
      go : SameOrNewer (bytes_of s name) → Doing (Call k name)
      go (inl e) = inl (ap (having at st k) (same-call (marked s) (bytes_of s name) [] k e))
      go (inr n) =
          split (leb k (height st))
          (λ b. inr (rw b (refused-call (marked s) (bytes_of s name) [] k n.0), n.1))
          (λ b. inl (rw b))
  doing (CallTemplate t k name) = go (same-or-newer (bytes_of s name))
    where
      go : SameOrNewer (bytes_of s name) → Doing (CallTemplate t k name)
      go (inl e) =
          inl (ap (λ (x : Effect). having at st k (cond (ltb t.0 st.used) x (stop NoSuchType at st))) (same-call (marked s) (bytes_of s name) (type_at st.words t.0 ∷ []) k e))
      go (inr n) =
          split (leb k (height st))
          (λ b.
          split (ltb t.0 st.used)
          (λ d. inr (rw (b, d) (refused-call (marked s) (bytes_of s name) (type_at st.words t.0 ∷ []) k n.0), n.1))
          (λ d. inl (rw (b, d))))
          (λ b. inl (rw b))
  doing (Take kind p q elem m) = inl refl
  doing End = inl refl
  doing Bad = inl refl

-- the turn at a place, by the item that stands there
turning : (s : List ℕ) (at : ℕ) (st : State) → Turning s at st
unfolding Turning Doing turn_of after name_part
turning s at st = go (doing s at st (item_at s at).item)
  where
    placed : (item_at s at).at.0 ≡ at
    placed = ap (λ (p : Place). p.0) (own-place s at)

    go : Doing s at st (item_at s at).item → Turning s at st
    go (inl e) = inl (rw placed (ap (after s at (item_at s at).next.0) e), rw placed (ap end_mark e))
    go (inr n) =
        inr (
          turned_down Unknown at st.words st.used,
          rw placed (ap (after s at (item_at s at).next.0) n.0),
          record { place = at; used = st.used; refused = refl; row = n.1.0; there = n.1.1; name = n.1.2; newer = n.1.3 },
        )

-- the items from a place on
Running : List ℕ → List Placed → State → Type 0
Running s xs st = ((run_items 1 s xs st ≡ run_items 0 s xs st) × (runs_items 1 s xs st ≡ runs_items 0 s xs st)) ⊎ RefusedAtNewer s (run_items 0 s xs st)

module _ (s : List ℕ) where
  one_more : (at : ℕ) (l : List Placed) → ((st : State) → Running s l st) → (st : State) → Running s (item_at s at ∷ l) st
  unfolding Turning Running run_items onward runs_items onward_mark
  one_more at l later st = go (turning s at st)
    where
      follow : (t : Turned) → turn_of 0 s (item_at s at) st ≡ t → turn_of 1 s (item_at s at) st ≡ t → end_of 1 s at st ≡ end_of 0 s at st → Running s (item_at s at ∷ l) st
      follow (more st') e f m = on (later st')
        where
          on : Running s l st' → Running s (item_at s at ∷ l) st
          on (inl q) = inl (rw (e, f) q.0, rw (e, f) q.1)
          on (inr r) = inr (rw e r)
      follow (done o) e f m = inl (rw (e, f) refl, rw (e, f) m)

      go : Turning s at st → Running s (item_at s at ∷ l) st
      go (inl e) = follow (turn_of 0 s (item_at s at) st) refl e.0 e.1
      go (inr n) = inr (rw n.1 n.2)

  no-more : (st : State) → Running s [] st
  unfolding Running run_items runs_items
  no-more st = inl (refl, refl)

  within-newer : (n at : ℕ) (st : State) → Running s (items_within n s at) st
  unfolding items_within
  within-newer zero at st = one_more at [] no-more st
  within-newer (suc n) at st =
      one_more at (cond (is_item (item_at s at).item) (items_within n s (item_at s at).next.0) [])
      (λ st'. rest (is_item (item_at s at).item) st' (within-newer n (item_at s at).next.0 st')) st
    where
      rest : (b : Bool) (st' : State) → Running s (items_within n s (item_at s at).next.0) st' → Running s (cond b (items_within n s (item_at s at).next.0) []) st'
      rest true st' r = r
      rest false st' r = no-more st'

newer-sheet : (w : List ℕ) (n : ℕ) (s : List ℕ) → ((type_sheet 1 w n s ≡ type_sheet 0 w n s) × (reply_of 1 w n s ≡ reply_of 0 w n s)) ⊎ RefusedAtNewer s (type_sheet 0 w n s)
unfolding Running type_sheet items_from
newer-sheet w n s =
    split (soundb w n)
    (λ h.
    split (header_ok s)
    (λ k. run h k (within-newer s (length s) header_size (begun w n)))
    (λ k. inl (rw (h, k), rw (h, k))))
    (λ h. inl (rw h, rw h))
  where
    run : soundb w n ≡ true → header_ok s ≡ true → Running s (items_within (length s) s header_size) (begun w n)
        → ((type_sheet 1 w n s ≡ type_sheet 0 w n s) × (reply_of 1 w n s ≡ reply_of 0 w n s)) ⊎ RefusedAtNewer s (type_sheet 0 w n s)
    run h k (inl e) = inl (rw (h, k) e.0, rw (h, k, e.0, e.1) refl)
    run h k (inr r) = inr (rw (h, k) r)

-- THE THEOREM HOLDS
pub profiles-keep : ProfilesKeep
profiles-keep =
    record {
      row = of-both;
      same = λ profile p k h z w n tplt args. (either-call profile p k h z w n tplt args ∙ base-call w n (name_at k) tplt args, either-mark profile p k h z args ∙ base-mark (name_at k) args);
      other = other-call;
      call = base-call;
      mark = base-mark;
      sheet = λ w n s. (base-sheet w n s, base-reply w n s);
      newer = newer-sheet;
    }
