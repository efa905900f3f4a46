-- DOCUMENT 02, K3: "version 1 means all const". A sheet whose version has no marks answers with a value that is not running: no value of its stack ever is. Assumes nothing.
use Prim.Native.Nat.{ℕ, zero, suc, ◌-◌, ◌<◌, ◌≤◌}
use mathlib.Core.Path.{◌≡◌, refl, sym, ◌∙◌, ap, subst}
use mathlib.Core.Bool.{Bool, true, false, ◌&&◌, cond}
use mathlib.Core.List.{List, [], ◌∷◌}
use native.Mathlib.Omega.{arith}
use lib.Dec.{ltb, leb}
use lib.ListN.{length, get_or, take, length-drop}
use borrow.Author.Tests.{ltb-true, leb-true}
use Rattle.held.specs.Held.{running_bit, number_of, mark_of}
use Rattle.held.proofs.OneReply.{held-mark}
use Rattle.answer.specs.Answer.{has_value}
use Rattle.answer.specs.declared.Answer.{Answer}
use Rattle.answer.specs.declared.Answer.TheVariants.{Value, NoValue, Refused}
use Rattle.answer.specs.declared.Typed.{Typed}
use Rattle.table.specs.Table.{soundb, allowedb}
use Rattle.table.specs.Denote.{ty_of}
use Rattle.table.specs.Kept.{Kept}
use Rattle.table.specs.Placing.{Outcome, GaveMarked}
use Rattle.table.specs.declared.Entry.{Entry}
use Rattle.table.proofs.FormedLaws.{allowed-type}
use Rattle.table.proofs.Keeping.{kept-entering}
use Rattle.table.proofs.KindLaws.{split, and-false}
use Rattle.table.proofs.SoundLaws.{sound-of}
use Rattle.frame.specs.Frame.{version1, marked, header_size, item_at, is_item, is_running, items_within, items_from}
use Rattle.frame.specs.declared.Item.{Item}
use Rattle.frame.specs.declared.Item.TheVariants.{Push, Unary, Binary, Call, CallTemplate, Take, End, Bad}
use Rattle.frame.specs.declared.Placed.{Placed}
use Rattle.frame.proofs.Marks.{unmarked-const}
use Rattle.ops_ty.proofs.Demand1.{unary-at-kept, binary-at-kept}
use Rattle.call_ty.specs.Calls.{types}
use Rattle.call_ty.specs.inner.Codes.{Under}
use Rattle.call_ty.proofs.Demand1.{call-at-kept}
use Rattle.step.specs.Effect.{most, State, height, operands, below, Effect, goes, silent, ends, stops, pushed, onto, is_valued, landing, calling, bytes_of, entry_of, push_effect, unary_effect, binary_effect, call_effect, template_effect, take_effect, effect_of}
use Rattle.step.specs.inner.Code.{Good}
use Rattle.step.proofs.StackLaws.{value-under, under_drop}
use Rattle.sheet.specs.Machine.{Turned, more, done, turn_of, end_mark, onward_mark, runs_items, begun, type_sheet, sheet_runs}
use Rattle.sheet.proofs.Running.{turn-goes-on, turn-kept, sheet-unsound}
use Rattle.sheet.proofs.Demand1.{begun-good}

-- no value of a stack is running
abbrev pub AllConst : List ℕ → Type 0
AllConst vs = (i : ℕ) → mark_of (get_or vs i 0) ≡ false

pub const-none : AllConst []
const-none i = refl

const-take : (k : ℕ) (vs : List ℕ) → AllConst vs → AllConst (take k vs)
const-take zero vs c i = refl
const-take (suc k) [] c i = refl
const-take (suc k) (v ∷ vs) c zero = c 0
const-take (suc k) (v ∷ vs) c (suc i) = const-take k vs (λ j. c (suc j)) i

const-pushed : (vs : List ℕ) (t : ℕ) → t < running_bit → AllConst vs → AllConst (pushed vs t false)
const-pushed [] t h c zero = held-mark t false h
const-pushed [] t h c (suc i) = refl
const-pushed (v ∷ vs) t h c zero = c 0
const-pushed (v ∷ vs) t h c (suc i) = const-pushed vs t h (λ j. c (suc j)) i

-- AN ITEM of such a sheet leaves such a stack

abbrev pub ConstAfter : Effect → Type 0
ConstAfter (goes st) = AllConst st.stack
ConstAfter (silent st) = Unit {0}
ConstAfter (ends st) = AllConst st.stack
ConstAfter (stops r w) = Unit {0}

either : (P : Effect → Type 0) (b : Bool) {x y : Effect} → (b ≡ true → P x) → (b ≡ false → P y) → P (cond b x y)
either P true f g = f refl
either P false f g = g refl

module _ (place : ℕ) (st : State) (good : Good st) (c : AllConst st.stack) where
  abbrev w : List ℕ
  w = st.words

  abbrev n : ℕ
  n = st.used

  const-onto : (vs : List ℕ) (o : Outcome) → AllConst vs → Kept w n o → ConstAfter (onto vs false o)
  unfolding onto
  const-onto vs o a k = go o.answer refl
    where
      go : (r : Answer) → o.answer ≡ r → ConstAfter (onto vs false o)
      go (Value t m) e =
          let s = (k.accepted t m e).1 in
          rw e (const-pushed vs t.0 (omega (arith, s.below, s.sound.high)) a)
      go (NoValue m) e = rw e tt
      go (Refused r) e = rw e tt

  const-below : (k : ℕ) → AllConst (below k st)
  const-below k = const-take (height st - k) st.stack c

  operand-under : (k i : ℕ) → k ≤ height st → i < k → number_of (get_or (operands k st) i 0) < n
  operand-under k i l h = value-under n (operands k st) (under_drop n (height st - k) st.stack good.under) i (omega (arith, length-drop (height st - k) st.stack))

  const-push : (t : ℕ) → ConstAfter (push_effect place st t false)
  unfolding push_effect
  const-push t =
      either ConstAfter (ltb t n)
      (λ b. either ConstAfter (ltb (height st) most) (λ h. const-pushed st.stack t (let l = ltb-true t n b in omega (arith, good.sound.high)) c) (λ h. tt))
      (λ b. tt)

  const-unary : (op : ℕ) → ConstAfter (unary_effect false place st op)
  unfolding unary_effect
  const-unary op =
      either ConstAfter (leb 1 (height st))
      (λ b. const-onto (below 1 st) _ (const-below 1) (unary-at-kept place w n good.sound op _ (operand-under 1 0 (leb-true 1 (height st) b) (omega arith)) _))
      (λ b. tt)

  const-binary : (op : ℕ) → ConstAfter (binary_effect false place st op)
  unfolding binary_effect
  const-binary op = either ConstAfter (leb 2 (height st)) (λ b. const-onto (below 2 st) _ (const-below 2) (binary-at-kept place w n good.sound op _ _ _ _)) (λ b. tt)

  const-landing : (k : ℕ) (o : Outcome) → Kept w n o → ConstAfter (landing place st k false o)
  const-landing k o kept = either ConstAfter (leb most (height st - k) && is_valued o.answer) (λ b. tt) (λ b. const-onto (below k st) o (const-below k) kept)

  const-calling : (profile : ℕ) (name tplt : List ℕ) (k : ℕ) → Under n tplt → ConstAfter (calling false profile place st name (types w tplt) k)
  const-calling profile name tplt k u =
      const-landing k _ (call-at-kept profile place w n good.sound name tplt (operands k st) u (under_drop n (height st - k) st.stack good.under))

  const-call : (profile : ℕ) (name : List ℕ) (k : ℕ) → ConstAfter (call_effect false profile place st name k)
  unfolding call_effect
  const-call profile name k = either ConstAfter (leb k (height st)) (λ b. const-calling profile name [] k (λ i h. absurd (omega arith))) (λ b. tt)

  one : (t : ℕ) → t < n → Under n (t ∷ [])
  one t h zero l = h
  one t h (suc i) l = absurd (omega arith)

  const-template : (profile : ℕ) (name : List ℕ) (t k : ℕ) → ConstAfter (template_effect false profile place st name t k)
  unfolding template_effect
  const-template profile name t k =
      either ConstAfter (leb k (height st)) (λ b. either ConstAfter (ltb t n) (λ d. const-calling profile name (t ∷ []) k (one t (ltb-true t n d))) (λ d. tt)) (λ b. tt)

  const-taken : (e : Entry) → ConstAfter (take_effect place st e false)
  unfolding take_effect
  const-taken e =
      either ConstAfter (allowedb w n e)
      (λ b. either ConstAfter (ltb (height st) most) (λ h. const-onto st.stack _ c (kept-entering w n good.sound place (ty_of w e) (allowed-type w n good.sound e b))) (λ h. tt))
      (λ b. tt)

  pub const-item : (profile : ℕ) (s : List ℕ) → marked s ≡ false → (i : Item) → is_running i ≡ false → ConstAfter (effect_of profile place st s i)
  unfolding effect_of
  const-item profile s m (Push t r) h = subst (λ (b : Bool). ConstAfter (push_effect place st t.0 b)) (sym h) (const-push t.0)
  const-item profile s m (Unary op) h = subst (λ (b : Bool). ConstAfter (unary_effect b place st op)) (sym m) (const-unary op)
  const-item profile s m (Binary op) h = subst (λ (b : Bool). ConstAfter (binary_effect b place st op)) (sym m) (const-binary op)
  const-item profile s m (Call k name) h = subst (λ (b : Bool). ConstAfter (call_effect b profile place st (bytes_of s name) k)) (sym m) (const-call profile (bytes_of s name) k)
  const-item profile s m (CallTemplate t k name) h =
      subst (λ (b : Bool). ConstAfter (template_effect b profile place st (bytes_of s name) t.0 k)) (sym m) (const-template profile (bytes_of s name) t.0 k)
  const-item profile s m (Take kind p q elem r) h = subst (λ (b : Bool). ConstAfter (take_effect place st (entry_of kind p q elem) b)) (sym h) (const-taken (entry_of kind p q elem))
  const-item profile s m End h = c
  const-item profile s m Bad h = tt

-- A RUN of such a sheet ends without a running value

end-const : (e : Effect) → ConstAfter e → end_mark e ≡ false
unfolding end_mark
end-const (goes st) h = refl
end-const (silent st) h = refl
end-const (ends st) h = h 0
end-const (stops r w) h = refl

module _ (profile : ℕ) (s : List ℕ) (m : marked s ≡ false) where
  -- whatever a good stack of const values stands for, what is left of the items gives no running value
  ConstFrom : List Placed → Type 0
  ConstFrom l = (st : State) → Good st → AllConst st.stack → runs_items profile s l st ≡ false

  const-end : ConstFrom []
  unfolding ConstFrom runs_items
  const-end st g c = c 0

  const-one : (at : ℕ) (l : List Placed) → ConstFrom l → ConstFrom (item_at s at ∷ l)
  unfolding ConstFrom runs_items onward_mark
  const-one at l f st g c =
      let x = item_at s at in
      let k = const-item x.at.0 st g c profile s m x.item (unmarked-const s at m) in
      go (turn_of profile s x st) refl k
    where
      go : (t : Turned) → turn_of profile s (item_at s at) st ≡ t → ConstAfter (effect_of profile (item_at s at).at.0 st s (item_at s at).item) → runs_items profile s (item_at s at ∷ l) st ≡ false
      go (more st') e k = rw e (f st' (turn-kept profile s (item_at s at) st st' e g).0 (rw (turn-goes-on profile s (item_at s at) st st' e) at k))
      go (done o) e k = rw e (end-const (effect_of profile (item_at s at).at.0 st s (item_at s at).item) k)

  const-within : (n at : ℕ) → ConstFrom (items_within n s at)
  unfolding items_within
  const-within zero at = const-one at [] const-end
  const-within (suc n) at =
      const-one at (cond (is_item (item_at s at).item) (items_within n s (item_at s at).next.0) []) (rest (is_item (item_at s at).item) (const-within n (item_at s at).next.0))
    where
      rest : (b : Bool) → ConstFrom (items_within n s (item_at s at).next.0) → ConstFrom (cond b (items_within n s (item_at s at).next.0) [])
      rest true f = f
      rest false f = const-end

  -- over a sound table
  pub unmarked-runs : (w : List ℕ) (n : ℕ) → soundb w n ≡ true → sheet_runs profile w n s ≡ false
  unfolding ConstFrom items_from
  unmarked-runs w n h = const-within (length s) header_size (begun w n) (begun-good profile w n s (sound-of w n h)) const-none

  -- THE THEOREM: whatever the table, no reply to such a sheet is marked as running
  pub unmarked-reply : (w : List ℕ) (n : ℕ) (r : Typed) (v : List ℕ) → GaveMarked (type_sheet profile w n s) (sheet_runs profile w n s) r v → r.running ≡ false
  unmarked-reply w n r v g =
      ap (λ (t : Typed). t.running) g.reply
      ∙ split (soundb w n)
      (λ h. ap (λ (b : Bool). has_value (type_sheet profile w n s).answer && b) (unmarked-runs w n h) ∙ and-false (has_value (type_sheet profile w n s).answer))
      (λ h. ap (λ (o : Outcome). has_value o.answer && sheet_runs profile w n s) (sym (sheet-unsound profile w n s h)))

-- and so of a sheet of version 1
pub early-const : (profile : ℕ) (w : List ℕ) (n : ℕ) (s : List ℕ) → get_or s 0 0 ≡ version1 → (r : Typed) (v : List ℕ) → GaveMarked (type_sheet profile w n s) (sheet_runs profile w n s) r v → r.running ≡ false
early-const profile w n s e = unmarked-reply profile s (rw e) w n
