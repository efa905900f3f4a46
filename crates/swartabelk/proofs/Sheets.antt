-- The numbers of a sheet's answer fit: the place of an item lies within the sheet, which has at most 60,003 bytes, and the count is that of a sound
-- table. Assumes nothing.
use Prim.Native.Nat.{ℕ, zero, suc, ◌-◌, ◌≤◌, ◌<◌, ◌^◌}
use mathlib.Core.Path.{◌≡◌, refl, ap}
use mathlib.Core.Bool.{Bool, true, false, ◌&&◌, cond}
use mathlib.Core.List.{List, [], ◌∷◌}
use native.Mathlib.Omega.{arith}
use lib.Dec.{ltb, leb, eqb}
use lib.ListN.{length, get_or}
use borrow.Author.Tests.{eqb-true, ltb-true, ltb-false}
use Rattle.conv.specs.Types.{Ty}
use Rattle.held.specs.Held.{number_of, mark_of}
use Rattle.call_ty.specs.Calls.{numbers, marks_of, types}
use Rattle.answer.specs.Answer.{accept, refuse}
use Rattle.table.specs.Table.{soundb, allowedb}
use Rattle.table.specs.Denote.{type_at, ty_of}
use Rattle.table.specs.Placing.{Outcome, GaveMarked}
use Rattle.answer.specs.declared.Reason.TheVariants.{Stack}
use Rattle.answer.specs.declared.Answer.{Answer}
use Rattle.answer.specs.declared.Answer.TheVariants.{Value, NoValue, Refused}
use Rattle.answer.specs.declared.Typed.{Typed}
use Rattle.table.proofs.SoundLaws.{sound-of}
use Rattle.table.proofs.KindLaws.{split}
use Rattle.frame.specs.Frame.{header_size, header_ok, marked, item_at, items_within, items_from}
use Rattle.frame.specs.declared.Item.{Item}
use Rattle.frame.specs.declared.Item.TheVariants.{Push, Unary, Binary, Call, CallTemplate, Take, End, Bad}
use Rattle.frame.proofs.FrameLaws.{framed, own-place, headed}
use Rattle.names.specs.Names.{profiles}
use Rattle.step.specs.Effect.{most, State, height, operands, below, type_of, Effect, goes, silent, ends, stops, stop, onto, having, holding, is_valued, landing, calling, push_effect, unary_effect, binary_effect, call_effect, template_effect, take_effect, effect_of, entry_of, bytes_of}
use Rattle.sheet.specs.Machine.{end_answer, left_answer, after, Turned, more, done, turn_of, onward, run_items, begun, type_sheet, sheet_runs}
use Rattle.step.specs.inner.Code.{Good}
use Rattle.step.proofs.StackLaws.{value-under}
use Rattle.step.proofs.Keeping.{EffectKept, item-kept}
use Rattle.sheet.proofs.Running.{turn-item, turn-kept, sheet-unsound, sheet-unheaded, sheet-unprofiled, sheet-runs}
use Rattle.swartabelk.specs.inner.Code.{Fits}
use Rattle.swartabelk.proofs.Places.{At, entering-at, unary-at, binary-at, call-at}
use Rattle.swartabelk.proofs.Fitting.{answer-of}

-- AN ITEM refuses at its own place

abbrev EffectAt : ℕ → Effect → Type 0
EffectAt place (goes st) = Unit {0}
EffectAt place (silent st) = Unit {0}
EffectAt place (ends st) = Unit {0}
EffectAt place (stops r w) = r.place.0 ≡ place

module _ (place : ℕ) (st : State) where
  either : (b : Bool) (x y : Effect) → EffectAt place x → EffectAt place y → EffectAt place (cond b x y)
  either true x y p q = p
  either false x y p q = q

  onto-at : (vs : List ℕ) (m : Bool) (n : ℕ) (o : Outcome) → At place n o.answer → EffectAt place (onto vs m o)
  unfolding onto
  onto-at vs m n o at = go o.answer refl
    where
      go : (a : Answer) → o.answer ≡ a → EffectAt place (onto vs m o)
      go (Value t u) e = rw e tt
      go (NoValue u) e = rw e tt
      go (Refused r) e = let z = rw e at at in rw e z.0

  landing-at : (k : ℕ) (m : Bool) (o : Outcome) → EffectAt place (onto (below k st) m o) → EffectAt place (landing place st k m o)
  landing-at k m o p = either (leb most (height st - k) && is_valued o.answer) (stop Stack place st) (onto (below k st) m o) refl p

  calling-at : (keeps : Bool) (profile : ℕ) (name : List ℕ) (ts : List Ty) (k : ℕ) → EffectAt place (calling keeps profile place st name ts k)
  calling-at keeps profile name ts k =
      landing-at k _ _
      (onto-at (below k st) _ st.used _
      (call-at place st.words st.used profile name ts (types st.words (numbers (operands k st))) (marks_of (operands k st))))

  having-at : (k : ℕ) (e : Effect) → EffectAt place e → EffectAt place (having place st k e)
  having-at k e p = either (leb k (height st)) e _ p refl

  holding-at : (e : Effect) → EffectAt place e → EffectAt place (holding place st e)
  holding-at e p = either (ltb (height st) 64) e _ p refl

  item-at : (profile : ℕ) (s : List ℕ) (i : Item) → EffectAt place (effect_of profile place st s i)
  unfolding effect_of push_effect unary_effect binary_effect call_effect template_effect take_effect
  item-at profile s (Push t m) = either (ltb t.0 st.used) _ _ (holding-at _ tt) refl
  item-at profile s (Unary op) =
      having-at 1 _
      (onto-at (below 1 st) _ st.used _ (unary-at place st.words st.used op (type_of st (get_or (operands 1 st) 0 0)) (mark_of (get_or (operands 1 st) 0 0))))
  item-at profile s (Binary op) =
      having-at 2 _
      (onto-at (below 2 st) _ st.used _
      (binary-at place st.words st.used op (type_of st (get_or (operands 2 st) 0 0)) (type_of st (get_or (operands 2 st) 1 0)) (mark_of (get_or (operands 2 st) 0 0)) (mark_of (get_or (operands 2 st) 1 0))))
  item-at profile s (Call k name) = having-at k _ (calling-at (marked s) profile (bytes_of s name) [] k)
  item-at profile s (CallTemplate t k name) =
      having-at k _ (either (ltb t.0 st.used) _ _ (calling-at (marked s) profile (bytes_of s name) (type_at st.words t.0 ∷ []) k) refl)
  item-at profile s (Take kind p q elem m) =
      either (allowedb st.words st.used (entry_of kind p q elem)) _ _
      (holding-at _ (onto-at st.stack _ st.used _ (entering-at place st.words st.used (ty_of st.words (entry_of kind p q elem))))) refl
  item-at profile s End = tt
  item-at profile s Bad = refl

-- AN ANSWER of a run over a sheet of so many bytes

abbrev Told : ℕ → Answer → Type 0
Told size (Value t m) = (t.0 < m) × (m ≤ 256)
Told size (NoValue m) = m ≤ 256
Told size (Refused r) = (r.place.0 ≤ size) × (r.used ≤ 256)

told-fits : (size : ℕ) → size ≤ 60003 → (a : Answer) → Told size a → Fits a
unfolding Fits
told-fits size h (Value t m) k = (omega (arith, k.0, k.1), omega (arith, k.1))
told-fits size h (NoValue m) k = omega arith
told-fits size h (Refused r) k = (omega (arith, k.0), omega (arith, k.1))

end-told : (size : ℕ) (st : State) → Good st → Told size (end_answer size st.stack st.used)
end-told size st g = go (eqb (length st.stack) 1) refl
  where
    go : (b : Bool) → eqb (length st.stack) 1 ≡ b → Told size (cond b (accept (number_of (get_or st.stack 0 0)) st.used) (refuse Stack size st.used))
    go true e = (value-under st.used st.stack g.under 0 (omega (arith, eqb-true (length st.stack) 1 e)), g.sound.high)
    go false e = (omega arith, g.sound.high)

left-told : (size place next high used : ℕ) → place ≤ size → used ≤ 256 → Told size (left_answer size place next high used)
left-told size place next high used p h = go (eqb high 0 && eqb next size)
  where
    go : (b : Bool) → Told size (cond b (NoValue used) (refuse Stack place used))
    go true = h
    go false = (p, h)

-- what a turn answers
abbrev Over : ℕ → Turned → Type 0
Over size (more st) = Unit {0}
Over size (done o) = Told size o.answer

after-told : (s : List ℕ) (place next : ℕ) (st : State) → Good st → place ≤ length s → (e : Effect) → EffectKept st e → EffectAt place e → Over (length s) (after s place next e)
unfolding after
after-told s place next st g p (goes st') k at = tt
after-told s place next st g p (silent st') k at = left-told (length s) place next (height st') st'.used p k.0.sound.high
after-told s place next st g p (ends st') k at = end-told (length s) st' (rw k g)
after-told s place next st g p (stops r w) k at = (omega arith, omega (arith, k.1, g.sound.high))

turn-told : (profile : ℕ) (s : List ℕ) (at : ℕ) (st : State) → Good st → at ≤ length s → Over (length s) (turn_of profile s (item_at s at) st)
unfolding turn_of
turn-told profile s at st g p =
    let x = item_at s at in
    let own : x.at.0 ≡ at = ap (λ (q : _). q.0) (own-place s at) in
    after-told s x.at.0 x.next.0 st g (omega arith) (effect_of profile x.at.0 st s x.item) (item-kept x.at.0 st g profile s x.item) (item-at x.at.0 st profile s x.item)

-- A RUN, in so many steps and no more

run-told : (profile n : ℕ) (s : List ℕ) (at : ℕ) (st : State) → Good st → at ≤ length s → Told (length s) (run_items profile s (items_within n s at) st).answer
unfolding run_items items_within onward
run-told profile zero s at st g p = go (turn_of profile s (item_at s at) st) refl (turn-told profile s at st g p)
  where
    go : (t : Turned) → turn_of profile s (item_at s at) st ≡ t → Over (length s) t → Told (length s) (onward (turn_of profile s (item_at s at) st) (run_items profile s [])).answer
    go (more st') e k = rw e (end-told (length s) st' (turn-kept profile s (item_at s at) st st' e g).0)
    go (done o) e k = rw e k
run-told profile (suc n) s at st g p = go (turn_of profile s (item_at s at) st) refl (turn-told profile s at st g p) (λ at' st' h l. run-told profile n s at' st' h l)
  where
    go : (t : Turned) → turn_of profile s (item_at s at) st ≡ t → Over (length s) t
        → ((at' : ℕ) (st' : State) → Good st' → at' ≤ length s → Told (length s) (run_items profile s (items_within n s at') st').answer)
        → Told (length s) (run_items profile s (items_within (suc n) s at) st).answer
    go (more st') e k ih =
        let i = turn-item profile s (item_at s at) st st' e in
        rw (e, i) (ih (item_at s at).next.0 st' (turn-kept profile s (item_at s at) st st' e g).0 (framed s at i).within)
    go (done o) e k ih = rw e k

-- A SHEET

begun-good : (w : List ℕ) (n : ℕ) → soundb w n ≡ true → Good (begun w n)
begun-good w n h = record { sound = sound-of w n h; under = λ i k. absurd (omega arith); high = omega arith }

from_told : (profile : ℕ) (s : List ℕ) (st : State) → Good st → header_size ≤ length s → Told (length s) (run_items profile s (items_from s header_size) st).answer
unfolding items_from
from_told profile s st g h = run-told profile (length s) s header_size st g h

pub sheet-fits : (profile : ℕ) (w : List ℕ) (n : ℕ) (s : List ℕ) → n < 2 ^ 32 → (d : Typed) (v : List ℕ) → GaveMarked (type_sheet profile w n s) (sheet_runs profile w n s) d v → Fits d.answer
unfolding Fits
sheet-fits profile w n s l d v g =
    rw (answer-of g)
    (split (soundb w n)
    (λ h.
    split (header_ok s)
    (λ k.
    let z = headed s k in
    split (ltb profile profiles)
    (λ b.
    rw (← sheet-runs profile w n s h k (ltb-true profile profiles b)) (told-fits (length s) (omega (arith, z.whole, z.short)) (run_items profile s (items_from s header_size) (begun w n)).answer (from_told profile s (begun w n) (begun-good w n h) (omega (arith, z.whole)))))
    (λ b. rw (← sheet-unprofiled profile w n s h k (ltb-false profile profiles b)) (omega arith, l)))
    (λ k. rw (← sheet-unheaded profile w n s h k) (omega arith, l)))
    (λ h. rw (← sheet-unsound profile w n s h) (omega arith, l)))
