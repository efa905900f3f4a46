-- Where a sheet is refused with 8, the item that is told is the one that was refused, in the state in which it was refused. Assumes nothing.
use Prim.Native.Nat.{ℕ, zero, suc, ◌-◌, ◌≤◌}
use mathlib.Core.Path.{◌≡◌, refl, sym, ◌∙◌, ap, subst}
use mathlib.Core.Bool.{Bool, true, false, cond, ◌&&◌}
use mathlib.Core.List.{List, [], ◌∷◌}
use native.Mathlib.Omega.{arith}
use lib.ListN.{length, get_or}
use lib.Dec.{eqb, ltb, leb}
use borrow.Author.Tests.{eq-eqb, ne_eqb}
use Rattle.answer.specs.Answer.{reason_no, accept, refuse}
use Rattle.answer.specs.declared.Place.{Place}
use Rattle.answer.specs.declared.Reason.{Reason}
use Rattle.answer.specs.declared.Reason.TheVariants.{NoSuchType, Unknown, Template, Framing, Stack}
use Rattle.answer.specs.declared.Refusal.{Refusal}
use Rattle.answer.specs.declared.Answer.{Answer}
use Rattle.answer.specs.declared.Answer.TheVariants.{Value, NoValue, Refused}
use Rattle.conv.specs.Types.{Ty}
use Rattle.table.specs.Table.{scalars, allowedb}
use Rattle.table.specs.Denote.{type_at, ty_of}
use Rattle.table.specs.Placing.{Outcome, entering}
use Rattle.held.specs.Held.{number_of, mark_of}
use Rattle.ops_ty.specs.Ops.{unary_outcome, binary_outcome}
use Rattle.call_ty.specs.Calls.{numbers, marks_of, types, call_outcome}
use Rattle.names.specs.Names.{profiles}
use Rattle.frame.specs.Frame.{header_size, header_ok, item_at, is_item, items_within, items_from}
use Rattle.frame.specs.declared.Item.{Item}
use Rattle.frame.specs.declared.Item.TheVariants.{Push, Unary, Binary, Call, CallTemplate, Take, End, Bad}
use Rattle.frame.specs.declared.Placed.{Placed}
use Rattle.frame.proofs.FrameLaws.{own-place}
use Rattle.step.specs.Effect.{most, State, height, operands, below, type_of, bytes_of, entry_of, is_valued, landing, Effect, goes, silent, ends, stops, stop, answered, onto, push_effect, take_effect, unary_effect, binary_effect, call_effect, template_effect, effect_of}
use Rattle.sheet.specs.Machine.{Turned, more, done, end_answer, left_answer, after, turn_of, onward, run_items, begun, type_sheet}
use Rattle.sheet.specs.Single.{placing, moved}
use Rattle.sheet.proofs.Moving.{entering-moved, unary-moved, binary-moved, call-moved}
use Rattle.sheet.proofs.Running.{turn-item, run-forward}
use Rattle.lines.specs.Lines.{start, outcome}
use Rattle.lines.proofs.Valued.{start-sound}
use Rattle.desk.specs.Told.{before, is_told, going_on, told_in}
use Rattle.desk.specs.Desk.{item_lines, lines_of, desk_pieces}

impossible : {P : Type 0} → ◌≡◌ {A = ℕ} 0 1 → P
impossible e = absurd (omega arith)

-- THE PLACE of an item's refusal is the item's own

abbrev PlacedAt : ℕ → Effect → Type 0
PlacedAt place e = (r : Refusal) (w : List ℕ) → e ≡ stops r w → r.place.0 ≡ place

module _ (place : ℕ) where
  stop-placed : (reason : Reason) (st : State) → PlacedAt place (stop reason place st)
  stop-placed reason st r w e =
      let q : record { reason = reason; place = record { 0 = place }; used = st.used } ≡ r = cc in
      sym (ap (λ (x : Refusal). x.place.0) q)

  goes-placed : (st : State) → PlacedAt place (goes st)
  goes-placed st r w e = impossible (cc)

  either-placed : (b : Bool) (e f : Effect) → PlacedAt place e → PlacedAt place f → PlacedAt place (cond b e f)
  either-placed true e f p q = p
  either-placed false e f p q = q

  answer-placed : (vs : List ℕ) (m : Bool) (a : Answer) (v : List ℕ) → PlacedAt place (answered vs m (placing place a) v)
  answer-placed vs m (Value t used) v r w e = impossible (cc)
  answer-placed vs m (NoValue used) v r w e = impossible (cc)
  answer-placed vs m (Refused x) v r w e =
      let q : record { reason = x.reason; place = record { 0 = place }; used = x.used } ≡ r = cc in
      sym (ap (λ (x : Refusal). x.place.0) q)

  onto-placed : (vs : List ℕ) (m : Bool) (o o' : Outcome) → o ≡ moved place o' → PlacedAt place (onto vs m o)
  unfolding onto
  onto-placed vs m o o' e = subst (λ (x : Outcome). PlacedAt place (answered vs m x.answer x.words)) (sym e) (answer-placed vs m o'.answer o'.words)

  calling-placed : (profile : ℕ) (st : State) (name : List ℕ) (ts : List Ty) (k : ℕ) (m : Bool) → PlacedAt place (landing place st k m (call_outcome profile place st.words st.used name ts (types st.words (numbers (operands k st))) (marks_of (operands k st))))
  calling-placed profile st name ts k m =
      let us = types st.words (numbers (operands k st)) in
      let ms = marks_of (operands k st) in
      either-placed (leb most (height st - k) && is_valued (call_outcome profile place st.words st.used name ts us ms).answer) _ _ (stop-placed Stack st)
      (onto-placed (below k st) m _ (call_outcome profile 0 st.words st.used name ts us ms) (call-moved place st.words st.used profile name ts us ms))

  effect-placed : (profile : ℕ) (st : State) (s : List ℕ) (i : Item) → PlacedAt place (effect_of profile place st s i)
  unfolding effect_of push_effect take_effect unary_effect binary_effect call_effect template_effect
  effect-placed profile st s (Push t m) = either-placed (ltb t.0 st.used) _ _ (either-placed (ltb (height st) most) _ _ (goes-placed _) (stop-placed Stack st)) (stop-placed NoSuchType st)
  effect-placed profile st s (Unary op) =
      let v = get_or (operands 1 st) 0 0 in
      either-placed (leb 1 (height st)) _ _
      (onto-placed _ _ _ (unary_outcome 0 st.words st.used op (type_of st v) (mark_of v)) (unary-moved place st.words st.used op (type_of st v) (mark_of v))) (stop-placed Stack st)
  effect-placed profile st s (Binary op) =
      let v = get_or (operands 2 st) 0 0 in
      let u = get_or (operands 2 st) 1 0 in
      either-placed (leb 2 (height st)) _ _
      (onto-placed _ _ _ (binary_outcome 0 st.words st.used op (type_of st v) (type_of st u) (mark_of v) (mark_of u)) (binary-moved place st.words st.used op (type_of st v) (type_of st u) (mark_of v) (mark_of u)))
      (stop-placed Stack st)
  effect-placed profile st s (Call k name) = either-placed (leb k (height st)) _ _ (calling-placed profile st (bytes_of s name) [] k _) (stop-placed Stack st)
  effect-placed profile st s (CallTemplate t k name) =
      either-placed (leb k (height st)) _ _ (either-placed (ltb t.0 st.used) _ _ (calling-placed profile st (bytes_of s name) (type_at st.words t.0 ∷ []) k _) (stop-placed NoSuchType st)) (stop-placed Stack st)
  effect-placed profile st s (Take kind p q elem m) =
      let R = ty_of st.words (entry_of kind p q elem) in
      either-placed (allowedb st.words st.used (entry_of kind p q elem)) _ _
      (either-placed (ltb (height st) most) _ _ (onto-placed _ _ _ (entering 0 st.words st.used R) (entering-moved place st.words st.used R)) (stop-placed Stack st)) (stop-placed Template st)
  effect-placed profile st s End = λ r w e. impossible (cc)
  effect-placed profile st s Bad = stop-placed Framing st

-- A TURN that is refused with 8 is an item's refusal

abbrev Eight : Refusal → Type 0
Eight r = reason_no r.reason ≡ 8

no-eight : {P : Type 0} (r r' : Refusal) → Refused r' ≡ Refused r → Eight r → reason_no r'.reason ≡ 11 → P
no-eight r r' e h k =
    let q : r' ≡ r = cc in
    let z : reason_no r'.reason ≡ 8 = ap (λ (x : Refusal). reason_no x.reason) q ∙ h in
    absurd (omega (arith, z, k))

left_not : {P : Type 0} (b : Bool) (place used : ℕ) (r : Refusal) → Eight r → cond b (NoValue used) (refuse Stack place used) ≡ Refused r → P
left_not true place used r h e = impossible (cc)
left_not false place used r h e = no-eight r _ e h refl

end-not : {P : Type 0} (b : Bool) (t size used : ℕ) (r : Refusal) → Eight r → cond b (accept t used) (refuse Stack size used) ≡ Refused r → P
end-not true t size used r h e = impossible (cc)
end-not false t size used r h e = no-eight r _ e h refl

turn-eight : (s : List ℕ) (place next : ℕ) (e : Effect) (o : Outcome) (r : Refusal) → Eight r → after s place next e ≡ done o → o.answer ≡ Refused r → (w : List ℕ) × (e ≡ stops r w)
unfolding after
turn-eight s place next (goes st) o r h d a = impossible (cc)
turn-eight s place next (silent st) o r h d a =
    let q : record { answer = left_answer (length s) place next (height st) st.used; words = st.words } ≡ o = cc in
    left_not (eqb (height st) 0 && eqb next (length s)) place st.used r h (ap (λ (x : Outcome). x.answer) q ∙ a)
turn-eight s place next (ends st) o r h d a =
    let q : record { answer = end_answer (length s) st.stack st.used; words = st.words } ≡ o = cc in
    end-not (eqb (length st.stack) 1) (number_of (get_or st.stack 0 0)) (length s) st.used r h (ap (λ (x : Outcome). x.answer) q ∙ a)
turn-eight s place next (stops r' w) o r h d a =
    let q : record { answer = Refused r'; words = w } ≡ o = cc in
    let z : Refused r' ≡ Refused r = ap (λ (x : Outcome). x.answer) q ∙ a in
    let y : r' ≡ r = cc in
    (w, ap (λ (x : Refusal). stops x w) y)

-- THE ITEMS from a place on

-- an item that stands at the place of the refusal is told, and it is refused so in the state before it
pub record ToldRefused (profile : ℕ) (s : List ℕ) (xs : List Placed) (st : State) (r : Refusal) (from : ℕ) : Type 0 where
  pub earlier : State
  pub words : List ℕ
  pub told : told_in profile s (Refused r) xs st ≡ before earlier (item_at s r.place.0).item
  pub stopped : effect_of profile r.place.0 earlier s (item_at s r.place.0).item ≡ stops r words
  pub onward : from ≤ r.place.0

module _ (profile : ℕ) (s : List ℕ) (r : Refusal) (h : Eight r) where
  module _ (at : ℕ) (xs : List Placed) (st : State) where
    abbrev x : Placed
    x = item_at s at

    here-refused : (o : Outcome) → turn_of profile s (item_at s at) st ≡ done o → o.answer ≡ Refused r → ToldRefused profile s (item_at s at ∷ xs) st r at
    unfolding turn_of told_in is_told
    here-refused o d a =
        let p : x.at.0 ≡ at = ap (λ (y : Place). y.0) (own-place s at) in
        let t = turn-eight s x.at.0 x.next.0 (effect_of profile x.at.0 st s x.item) o r h d a in
        let q : r.place.0 ≡ x.at.0 = effect-placed x.at.0 profile st s x.item r t.0 t.1 in
        let k : r.place.0 ≡ at = q ∙ p in
        record {
          earlier = st;
          words = t.0;
          told = rw (eq-eqb (reason_no r.reason) 8 h, eq-eqb x.at.0 r.place.0 (sym q)) (ap (λ (n : ℕ). before st (item_at s n).item) (sym k));
          stopped = subst (λ (n : ℕ). effect_of profile n st s (item_at s n).item ≡ stops r t.0) (sym k) (subst (λ (n : ℕ). effect_of profile n st s x.item ≡ stops r t.0) p t.1);
          onward = omega (arith, k);
        }

    later-refused : (st' : State) → turn_of profile s (item_at s at) st ≡ more st' → ToldRefused profile s xs st' r (item_at s at).next.0 → ToldRefused profile s (item_at s at ∷ xs) st r at
    unfolding told_in is_told going_on
    later-refused st' e g =
        let p : x.at.0 ≡ at = ap (λ (y : Place). y.0) (own-place s at) in
        let f = (run-forward profile s at st st' e).0 in
        let b = g.onward in
        let n : eqb x.at.0 r.place.0 ≡ false = ne_eqb x.at.0 r.place.0 (λ z. omega (arith, z, p, f, b)) in
        record {
          earlier = g.earlier;
          words = g.words;
          told = rw (eq-eqb (reason_no r.reason) 8 h, n, e) g.told;
          stopped = g.stopped;
          onward = omega (arith, f, b);
        }

  none-refused : {P : Type 0} (st : State) → (run_items profile s [] st).answer ≡ Refused r → P
  unfolding run_items
  none-refused st a = end-not (eqb (length st.stack) 1) (number_of (get_or st.stack 0 0)) (length s) st.used r h a

  pub told-within : (n at : ℕ) (st : State) → (run_items profile s (items_within n s at) st).answer ≡ Refused r → ToldRefused profile s (items_within n s at) st r at
  unfolding items_within run_items onward
  told-within zero at st a = go (turn_of profile s (item_at s at) st) refl
    where
      go : (u : Turned) → turn_of profile s (item_at s at) st ≡ u → ToldRefused profile s (item_at s at ∷ []) st r at
      go (more st') e = none-refused st' (rw e at a)
      go (done o) e = here-refused at [] st o e (rw e at a)
  told-within (suc n) at st a = go (turn_of profile s (item_at s at) st) refl (told-within n (item_at s at).next.0)
    where
      go : (u : Turned) → turn_of profile s (item_at s at) st ≡ u
          → ((st' : State) → (run_items profile s (items_within n s (item_at s at).next.0) st').answer ≡ Refused r → ToldRefused profile s (items_within n s (item_at s at).next.0) st' r (item_at s at).next.0)
          → ToldRefused profile s (item_at s at ∷ cond (is_item (item_at s at).item) (items_within n s (item_at s at).next.0) []) st r at
      go (more st') e f =
          let i = turn-item profile s (item_at s at) st st' e in
          later-refused at _ st st' e (rw i (f st' (rw (e, i) at a)))
      go (done o) e f = here-refused at _ st o e (rw e at a)

-- THE SHEET
module _ (profile : ℕ) (s : List ℕ) (r : Refusal) (h : Eight r) where
  other : {P : Type 0} (reason : Reason) (n : ℕ) → (reason_no reason ≡ 8 → ⊥) → refuse reason 0 n ≡ Refused r → P
  other reason n k e =
      let q : record { reason = reason; place = record { 0 = 0 }; used = n } ≡ r = cc in
      absurd (k (ap (λ (x : Refusal). reason_no x.reason) q ∙ h))

  pub refused-told : (outcome profile s).answer ≡ Refused r
      → (st : State) × (w : List ℕ) × (effect_of profile r.place.0 st s (item_at s r.place.0).item ≡ stops r w) × (desk_pieces profile s ≡ item_lines profile s st (item_at s r.place.0).item)
  unfolding type_sheet desk_pieces lines_of items_from
  refused-told a = go (header_ok s) (ltb profile profiles) refl refl
    where
      go : (b c : Bool) → header_ok s ≡ b → ltb profile profiles ≡ c
          → (st : State) × (w : List ℕ) × (effect_of profile r.place.0 st s (item_at s r.place.0).item ≡ stops r w) × (desk_pieces profile s ≡ item_lines profile s st (item_at s r.place.0).item)
      go false c e f = other Framing scalars (λ z. omega arith) (rw (start-sound, e) at a)
      go true false e f = other Unknown scalars (λ z. omega arith) (rw (start-sound, e, f) at a)
      go true true e f =
          let t = told-within profile s r h (length s) header_size (begun start scalars) (rw (start-sound, e, f) at a) in
          (t.earlier, t.words, t.stopped, rw (a, t.told) refl)
