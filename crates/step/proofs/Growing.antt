-- How much room is missing (document 02, K2), of an item of a sheet: what lacks is what its call lacks, or its take. Assumes nothing.
use Prim.Native.Nat.{ℕ, zero, suc, ◌-◌, ◌<◌, ◌≤◌}
use mathlib.Core.Path.{◌≡◌, refl, sym, ◌∙◌, ap}
use mathlib.Core.Bool.{Bool, true, false, cond}
use mathlib.Core.List.{List, [], ◌∷◌}
use native.Mathlib.Omega.{arith}
use lib.Dec.{eqb, ltb, leb}
use lib.ListN.{get_or, length-drop}
use borrow.Author.Tests.{eq-eqb, ltb-true, leb-true}
use Rattle.held.specs.Held.{number_of, mark_of}
use Rattle.frame.specs.Frame.{marked}
use Rattle.conv.specs.Types.{Ty}
use Rattle.answer.specs.Answer.{reason_no}
use Rattle.table.specs.Table.{allowedb}
use Rattle.table.specs.Denote.{type_at, ty_of}
use Rattle.table.specs.Placing.{Outcome, entering}
use Rattle.table.specs.Lacking.{Longer, Lacks, Grown}
use Rattle.table.specs.declared.Entry.{Entry}
use Rattle.answer.specs.declared.Reason.{Reason}
use Rattle.answer.specs.declared.Reason.TheVariants.{NoSuchType, Template, NoRoom, Framing, Stack}
use Rattle.answer.specs.declared.Refusal.{Refusal}
use Rattle.answer.specs.declared.Answer.{Answer}
use Rattle.answer.specs.declared.Answer.TheVariants.{Value, NoValue, Refused}
use Rattle.table.proofs.KindLaws.{split}
use Rattle.table.proofs.EnterLaws.{ty-keeps}
use Rattle.table.proofs.Growing.{grown-as, grown-entering, type-longer, allowed-longer}
use Rattle.frame.specs.declared.Item.{Item}
use Rattle.frame.specs.declared.Item.TheVariants.{Push, Unary, Binary, Call, CallTemplate, Take, End, Bad}
use Rattle.ops_ty.specs.Ops.{unary_outcome, binary_outcome}
use Rattle.ops_ty.proofs.Growing.{unary-at-grown, binary-at-grown}
use Rattle.call_ty.specs.Calls.{numbers, marks_of, types, call_outcome}
use Rattle.call_ty.specs.inner.Codes.{Under}
use Rattle.call_ty.proofs.Growing.{types-longer, call-at-grown}
use Rattle.step.specs.Effect.{most, State, height, operands, below, type_of, Effect, goes, ends, stops, stop, onto, is_valued, landing, push_effect, unary_effect, binary_effect, take_effect, calling, call_effect, template_effect, effect_of, entry_of, bytes_of}
use Rattle.step.specs.Lacking.{over, StopsLacking, GrownItem}
use Rattle.step.specs.inner.Code.{Good}
use Rattle.step.proofs.StackLaws.{value-under, under_drop}

impossible : {P : Type 0} → ◌≡◌ {A = ℕ} 0 1 → P
impossible e = absurd (omega arith)

-- ANY EFFECTS

-- a stop that lacks is a 9
stop-number : (reason : Reason) (place : ℕ) (st : State) (K : ℕ) → StopsLacking (stop reason place st) K → reason_no reason ≡ 9
stop-number reason place st K l =
    let q = l.3 in
    let y : ◌≡◌ {A = Refusal} (record { reason = reason; place = record { 0 = place }; used = st.used }) (record { reason = NoRoom K; place = record { 0 = l.0 }; used = l.1 }) = cc in
    ap (λ (x : Refusal). reason_no x.reason) y

module _ (w : List ℕ) (n k : ℕ) where
  item-not : (e e' : Effect) → ((K : ℕ) → StopsLacking e K → ⊥) → GrownItem w n k e e'
  item-not e e' f = record { enough = λ K l _ _. absurd (f K l); short = λ K l _ _. absurd (f K l) }

  item-stop : (reason : Reason) → eqb (reason_no reason) 9 ≡ false → (place : ℕ) (st : State) (e' : Effect) → GrownItem w n k (stop reason place st) e'
  item-stop reason f place st e' =
      item-not (stop reason place st) e' (λ K l. impossible (let z : true ≡ false = sym (eq-eqb (reason_no reason) 9 (stop-number reason place st K l)) ∙ f in cc))

  item-goes : (st : State) (e' : Effect) → GrownItem w n k (goes st) e'
  item-goes st e' = item-not (goes st) e' (λ K l. let q = l.3 in impossible (cc))

  item-ends : (st : State) (e' : Effect) → GrownItem w n k (ends st) e'
  item-ends st e' = item-not (ends st) e' (λ K l. let q = l.3 in impossible (cc))

  -- a test that stops with another number where it is not passed
  item-passed : (b : Bool) (x x' : Effect) (reason : Reason) → eqb (reason_no reason) 9 ≡ false → (place : ℕ) (st st' : State) → (b ≡ true → GrownItem w n k x x')
      → GrownItem w n k (cond b x (stop reason place st)) (cond b x' (stop reason place st'))
  item-passed true x x' reason f place st st' g = g refl
  item-passed false x x' reason f place st st' g = item-stop reason f place st (stop reason place st')

  -- AN OUTCOME on the stack lacks what it lacks

  lacks-of : (vs : List ℕ) (b : Bool) (o : Outcome) (K : ℕ) → StopsLacking (onto vs b o) K → Lacks o K
  unfolding onto
  lacks-of vs b o K (p, u, x, q) = go o.answer refl
    where
      go : (a : Answer) → o.answer ≡ a → Lacks o K
      go (Value t m) e = let z = rw e at q in impossible (cc)
      go (NoValue m) e = let z = rw e at q in impossible (cc)
      go (Refused r) e =
          let z : stops r o.words ≡ stops (record { reason = NoRoom K; place = record { 0 = p }; used = u }) x = rw e at q in
          let y : r ≡ record { reason = NoRoom K; place = record { 0 = p }; used = u } = cc in
          (p, u, e ∙ ap Refused y)

  stops-of : (vs : List ℕ) (b : Bool) (o : Outcome) (K : ℕ) → Lacks o K → StopsLacking (onto vs b o) K
  unfolding onto
  stops-of vs b o K (p, u, e) = (p, u, o.words, rw e)

  item-onto : (vs : List ℕ) (b : Bool) (o o' : Outcome) → Grown w n k o o' → GrownItem w n k (onto vs b o) (onto vs b o')
  item-onto vs b o o' g =
      record {
        enough = λ K x few m J y. g.enough K (lacks-of vs b o K x) few m J (lacks-of vs b o' J y);
        short = λ K x few m. let z = g.short K (lacks-of vs b o K x) few m in (z.0, stops-of vs b o' z.0 z.1);
      }

  -- a call's outcome in the place of its operands: where it lacks room its value has a place
  item-landing : (place : ℕ) (st : State) (v : List ℕ) (j : ℕ) (m : Bool) (o o' : Outcome) → Grown w n k o o' → GrownItem w n k (landing place st j m o) (landing place (over st v) j m o')
  unfolding is_valued
  item-landing place st v j m o o' g =
      split (leb most (height st - j))
      (λ b. rw b (item-not (cond (is_valued o.answer) (stop Stack place st) (onto (below j st) m o)) _ none))
      (λ b. rw b (item-onto (below j st) m o o' g))
    where
      -- what lacks room is valued
      lacks-valued : (K : ℕ) → Lacks o K → is_valued o.answer ≡ true
      lacks-valued K (p, u, e) = ap is_valued e

      none : (K : ℕ) → StopsLacking (cond (is_valued o.answer) (stop Stack place st) (onto (below j st) m o)) K → ⊥
      none K x =
          split (is_valued o.answer)
          (λ b. let y : StopsLacking (stop Stack place st) K = rw b at x in let z = stop-number Stack place st K y in omega arith)
          (λ b.
          let y : StopsLacking (onto (below j st) m o) K = rw b at x in
          impossible (let c : true ≡ false = sym (lacks-valued K (lacks-of (below j st) m o K y)) ∙ b in cc))

-- AN ITEM over a state and over the same in a longer slice

module _ (profile place : ℕ) (st : State) (good : Good st) (v : List ℕ) (k : ℕ) (l : Longer st.words v st.used k) where
  abbrev w : List ℕ
  w = st.words

  abbrev n : ℕ
  n = st.used

  under : (j : ℕ) → Under n (numbers (operands j st))
  under j = under_drop n (height st - j) st.stack good.under

  operand_type : (j i : ℕ) → j ≤ height st → i < j → type_at v (number_of (get_or (operands j st) i 0)) ≡ type_at w (number_of (get_or (operands j st) i 0))
  operand_type j i h m = type-longer w v n k l (number_of (get_or (operands j st) i 0)) (value-under n (operands j st) (under j) i (omega (arith, length-drop (height st - j) st.stack)))

  calling-grown : (keeps : Bool) (name tplt : List ℕ) (j : ℕ) → Under n tplt
      → GrownItem w n k (calling keeps profile place st name (types w tplt) j) (calling keeps profile place (over st v) name (types v tplt) j)
  calling-grown keeps name tplt j ut =
      item-landing w n k place st v j _ _ _
      (grown-as w n k refl
      (λ i. call_outcome profile place v n name (types-longer w v n k l tplt ut i) (types-longer w v n k l (numbers (operands j st)) (under j) i) (marks_of (operands j st)))
      (call-at-grown w v n k l good.sound place profile name (types w tplt) (types w (numbers (operands j st))) (marks_of (operands j st))))

  one : (t : ℕ) → t < n → Under n (t ∷ [])
  one t h zero m = h
  one t h (suc i) m = absurd (omega arith)

  take-grown : (e : Entry) (m : Bool) → GrownItem w n k (take_effect place st e m) (take_effect place (over st v) e m)
  unfolding take_effect
  take-grown e m =
      split (allowedb w n e)
      (λ b.
      rw (b, allowed-longer w v n k l e ∙ b)
      (item-passed w n k (ltb (height st) most) _ _ Stack refl place st (over st v)
      (λ _. item-onto w n k st.stack _ _ _ (grown-as w n k refl (ap (entering place v n) (ty-keeps w n good.sound e b v l.keeps)) (grown-entering w v n k l good.sound place (ty_of w e))))))
      (λ b. rw (b, allowed-longer w v n k l e ∙ b) (item-stop w n k Template refl place st _))

  pub item-grown : (s : List ℕ) (i : Item) → GrownItem w n k (effect_of profile place st s i) (effect_of profile place (over st v) s i)
  unfolding effect_of push_effect unary_effect binary_effect call_effect template_effect
  item-grown s (Push t m) =
      item-passed w n k (ltb t.0 n) _ _ NoSuchType refl place st (over st v)
      (λ _. item-passed w n k (ltb (height st) most) _ _ Stack refl place st (over st v) (λ _. item-goes w n k _ _))
  item-grown s (Unary op) =
      item-passed w n k (leb 1 (height st)) _ _ Stack refl place st (over st v)
      (λ b.
      item-onto w n k (below 1 st) _ _ _
      (grown-as w n k refl (ap (λ (t : Ty). unary_outcome place v n op t (mark_of (get_or (operands 1 st) 0 0))) (operand_type 1 0 (leb-true 1 (height st) b) (omega arith)))
      (unary-at-grown w v n k l good.sound place op (type_of st (get_or (operands 1 st) 0 0)) (mark_of (get_or (operands 1 st) 0 0)))))
  item-grown s (Binary op) =
      item-passed w n k (leb 2 (height st)) _ _ Stack refl place st (over st v)
      (λ b.
      let h = leb-true 2 (height st) b in
      item-onto w n k (below 2 st) _ _ _
      (grown-as w n k refl (λ i. binary_outcome place v n op (operand_type 2 0 h (omega arith) i) (operand_type 2 1 h (omega arith) i) (mark_of (get_or (operands 2 st) 0 0)) (mark_of (get_or (operands 2 st) 1 0)))
      (binary-at-grown w v n k l good.sound place op (type_of st (get_or (operands 2 st) 0 0)) (type_of st (get_or (operands 2 st) 1 0)) (mark_of (get_or (operands 2 st) 0 0)) (mark_of (get_or (operands 2 st) 1 0)))))
  item-grown s (Call j name) =
      item-passed w n k (leb j (height st)) _ _ Stack refl place st (over st v) (λ _. calling-grown (marked s) (bytes_of s name) [] j (λ i h. absurd (omega arith)))
  item-grown s (CallTemplate t j name) =
      item-passed w n k (leb j (height st)) _ _ Stack refl place st (over st v)
      (λ _. item-passed w n k (ltb t.0 n) _ _ NoSuchType refl place st (over st v)
      (λ b. calling-grown (marked s) (bytes_of s name) (t.0 ∷ []) j (one t.0 (ltb-true t.0 n b))))
  item-grown s (Take kind p q elem m) = take-grown (entry_of kind p q elem) m
  item-grown s End = item-ends w n k st _
  item-grown s Bad = item-stop w n k Framing refl place st _
