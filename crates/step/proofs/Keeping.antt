-- What an item keeps. The state after it is good again; the earlier entries stay at their numbers; what it added its result needs; a refusal changes no
-- word and gives the count as it stands. Assumes nothing.
use Prim.Native.Nat.{ℕ, zero, suc, ◌+◌, ◌-◌, ◌<◌, ◌≤◌}
use mathlib.Core.Path.{◌≡◌, refl, sym, ◌∙◌, ap, subst}
use mathlib.Core.Bool.{Bool, true, false, ◌&&◌, cond}
use mathlib.Core.List.{List, [], ◌∷◌}
use native.Mathlib.Omega.{arith}
use lib.Dec.{ltb, leb}
use lib.ListN.{length, get_or, length-append, length-take, length-drop}
use borrow.Author.Tests.{ltb-true, leb-true}
use Rattle.held.specs.Held.{value_of, number_of}
use Rattle.held.proofs.OneReply.{held}
use Rattle.frame.specs.Frame.{marked}
use Rattle.call_ty.specs.Calls.{numbers, types}
use Rattle.table.specs.Table.{allowedb}
use Rattle.table.specs.Denote.{type_at, ty_of}
use Rattle.table.specs.Placing.{Outcome}
use Rattle.table.specs.Stands.{Part}
use Rattle.table.specs.declared.Entry.{Entry}
use Rattle.answer.specs.declared.Reason.{Reason}
use Rattle.answer.specs.declared.Reason.TheVariants.{NoSuchType, Template, Framing, Stack}
use Rattle.answer.specs.declared.TypeNo.{TypeNo}
use Rattle.answer.specs.declared.Answer.{Answer}
use Rattle.answer.specs.declared.Answer.TheVariants.{Value, NoValue, Refused}
use Rattle.table.proofs.FormedLaws.{allowed-type}
use Rattle.table.specs.Kept.{Kept}
use Rattle.table.proofs.Keeping.{kept-entering}
use Rattle.frame.specs.declared.Item.{Item}
use Rattle.frame.specs.declared.Item.TheVariants.{Push, Unary, Binary, Call, CallTemplate, Take, End, Bad}
use Rattle.ops_ty.proofs.Demand1.{unary-at-kept, binary-at-kept}
use Rattle.call_ty.proofs.Demand1.{call-at-kept}
use Rattle.call_ty.specs.inner.Codes.{Under}
use Rattle.step.specs.Effect.{most, State, height, operands, below, Effect, goes, silent, ends, stops, stop, pushed, onto, having, holding, push_effect, unary_effect, binary_effect, is_valued, landing, calling, call_effect, template_effect, take_effect, effect_of, entry_of, bytes_of}
use Rattle.step.specs.inner.Code.{Good}
use Rattle.step.specs.Kept.{Grew, Needed}
use Rattle.step.proofs.StackLaws.{value-under, under-take, under_drop}
use Rattle.step.proofs.Answers.{has-place}

-- what an effect keeps of the state before it
abbrev pub EffectKept : State → Effect → Type 0
EffectKept st (goes st') = Good st' × Grew st.words st.used st'.words st'.used × Needed st st'
EffectKept st (silent st') = Good st' × (st'.words ≡ st.words) × (st'.used ≡ st.used)
EffectKept st (ends st') = st' ≡ st
EffectKept st (stops r w) = (w ≡ st.words) × (r.used ≡ st.used)

-- nothing is added
pub grew_none : (w : List ℕ) (n : ℕ) → Grew w n w n
grew_none w n = record { more = omega arith; keeps = λ k h. refl; long = refl; beyond = λ k h. refl }

-- the stack with one value more

under-pushed : (n : ℕ) (vs : List ℕ) (t : ℕ) (m : Bool) → n ≤ 256 → Under n (numbers vs) → t < n → Under n (numbers (pushed vs t m))
under-pushed n [] t m f u h zero l = subst (λ (k : ℕ). k < n) (sym (held t m (omega arith))) h
under-pushed n [] t m f u h (suc i) l = absurd (omega arith)
under-pushed n (v ∷ vs) t m f u h zero l = u 0 (omega arith)
under-pushed n (v ∷ vs) t m f u h (suc i) l = under-pushed n vs t m f (λ j k. u (suc j) (omega arith)) h i (omega arith)

high-pushed : (vs : List ℕ) (t : ℕ) (m : Bool) → length (pushed vs t m) ≡ length vs + 1
high-pushed vs t m = length-append vs (value_of t m ∷ [])

top-pushed : (vs : List ℕ) (t : ℕ) (m : Bool) → t < 256 → number_of (get_or (pushed vs t m) (length (pushed vs t m) - 1) 0) ≡ t
top-pushed vs t m h =
    let e : length (pushed vs t m) - 1 ≡ length vs = omega (arith, high-pushed vs t m) in
    ap (λ (i : ℕ). number_of (get_or (pushed vs t m) i 0)) e ∙ ap number_of (top-at vs) ∙ held t m (omega arith)
  where
    top-at : (l : List ℕ) → get_or (pushed l t m) (length l) 0 ≡ value_of t m
    top-at [] = refl
    top-at (v ∷ l) = top-at l

under_more : (n m : ℕ) (vs : List ℕ) → n ≤ m → Under n vs → Under m vs
under_more n m vs l u i h = let a = u i h in omega arith

-- the two sides of a test
either : (P : Effect → Type 0) (b : Bool) {x y : Effect} → (b ≡ true → P x) → (b ≡ false → P y) → P (cond b x y)
either P true f g = f refl
either P false f g = g refl

module _ (place : ℕ) (st : State) (good : Good st) where
  abbrev w : List ℕ
  w = st.words

  abbrev n : ℕ
  n = st.used

  kept-stop : (reason : Reason) → EffectKept st (stop reason place st)
  kept-stop reason = (refl, refl)

  kept-having : (k : ℕ) (e : Effect) → (k ≤ height st → EffectKept st e) → EffectKept st (having place st k e)
  kept-having k e f = either (EffectKept st) (leb k (height st)) (λ b. f (leb-true k (height st) b)) (λ b. kept-stop Stack)

  kept-holding : (e : Effect) → (height st < most → EffectKept st e) → EffectKept st (holding place st e)
  kept-holding e f = either (EffectKept st) (ltb (height st) most) (λ b. f (ltb-true (height st) most b)) (λ b. kept-stop Stack)

  -- a single call's outcome, over values that the stack had
  kept-onto : (vs : List ℕ) (b : Bool) (o : Outcome) → Under n (numbers vs) → length vs ≤ most → ((t : TypeNo) (m : ℕ) → o.answer ≡ Value t m → length vs < most) → Kept w n o
      → EffectKept st (onto vs b o)
  unfolding onto
  kept-onto vs b o u h room k = go o.answer refl
    where
      go : (a : Answer) → o.answer ≡ a → EffectKept st (onto vs b o)
      go (Value t m) e =
          let s = (k.accepted t m e).1 in
          let up = s.grows in
          rw e (
            record {
              sound = s.sound;
              under = under-pushed m vs t.0 b s.sound.high (under_more n m (numbers vs) up u) s.below;
              high = let l = room t m e in omega (arith, high-pushed vs t.0 b);
            },
            record { more = up; keeps = s.keeps; long = s.long; beyond = s.beyond },
            record {
              parts = λ i x y. subst (Part (type_at o.words i)) (sym s.stands ∙ ap (type_at o.words) (sym (top-pushed vs t.0 b (omega (arith, s.below, s.sound.high))))) (s.added i x y);
              missing = k.missing t m e;
            },
          )
      go (NoValue m) e =
          let q = k.without m e in
          rw e (record { sound = rw (q.0, q.1) good.sound; under = rw q.1 u; high = h }, q.0, q.1)
      go (Refused r) e = rw e (k.refused r e, k.counted r e)

  -- below k operands

  below-under : (k : ℕ) → Under n (numbers (below k st))
  below-under k = under-take n (height st - k) st.stack good.under

  below-high : (k : ℕ) → length (below k st) ≤ height st - k
  below-high k = omega (arith, length-take (height st - k) st.stack)

  operand-under : (k i : ℕ) → k ≤ height st → i < k → number_of (get_or (operands k st) i 0) < n
  operand-under k i l h = value-under n (operands k st) (under_drop n (height st - k) st.stack good.under) i (omega (arith, length-drop (height st - k) st.stack))

  -- THE ITEMS

  -- a push adds no entry
  needed-none : {vs : List ℕ} → Needed st (record { stack = vs; used = n; words = w })
  needed-none = record { parts = λ i a b. absurd (omega arith); missing = λ i a b. absurd (omega arith) }

  kept_push : (t : ℕ) (m : Bool) → EffectKept st (push_effect place st t m)
  unfolding push_effect
  kept_push t m =
      either (EffectKept st) (ltb t n)
      (λ b. kept-holding _ (λ h.
      (record { sound = good.sound; under = under-pushed n st.stack t m good.sound.high good.under (ltb-true t n b); high = omega (arith, high-pushed st.stack t m) }, grew_none w n, needed-none)))
      (λ b. kept-stop NoSuchType)

  pub kept-unary : (keeps : Bool) (op : ℕ) → EffectKept st (unary_effect keeps place st op)
  unfolding unary_effect
  kept-unary keeps op =
      kept-having 1 _ (λ l.
      kept-onto (below 1 st) _ _ (below-under 1) (omega (arith, below-high 1, good.high)) (λ t m e. omega (arith, below-high 1, good.high))
      (unary-at-kept place w n good.sound op _ (operand-under 1 0 l (omega arith)) _))

  pub kept-binary : (keeps : Bool) (op : ℕ) → EffectKept st (binary_effect keeps place st op)
  unfolding binary_effect
  kept-binary keeps op =
      kept-having 2 _ (λ l.
      kept-onto (below 2 st) _ _ (below-under 2) (omega (arith, below-high 2, good.high)) (λ t m e. omega (arith, below-high 2, good.high))
      (binary-at-kept place w n good.sound op _ _ _ _))

  -- a call's outcome lands only where its value has a place
  kept-landing : (k : ℕ) (b : Bool) (o : Outcome) → Kept w n o → EffectKept st (landing place st k b o)
  kept-landing k mark o kept =
      either (EffectKept st) (leb most (height st - k) && is_valued o.answer) (λ b. kept-stop Stack)
      (λ b. kept-onto (below k st) mark o (below-under k) (omega (arith, below-high k, good.high)) (λ t m e. room b t m e) kept)
    where
      room : (leb most (height st - k) && is_valued o.answer) ≡ false → (t : TypeNo) (m : ℕ) → o.answer ≡ Value t m → length (below k st) < most
      room b t m e =
          let l = has-place (height st - k) o.answer t m b e in
          omega (arith, below-high k)

  kept-calling : (keeps : Bool) (profile : ℕ) (name tplt : List ℕ) (k : ℕ) → Under n tplt → k ≤ height st → EffectKept st (calling keeps profile place st name (types w tplt) k)
  kept-calling keeps profile name tplt k ut l =
      kept-landing k _ _ (call-at-kept profile place w n good.sound name tplt (operands k st) ut (under_drop n (height st - k) st.stack good.under))

  kept-call : (keeps : Bool) (profile : ℕ) (name : List ℕ) (k : ℕ) → EffectKept st (call_effect keeps profile place st name k)
  unfolding call_effect
  kept-call keeps profile name k = kept-having k _ (λ l. kept-calling keeps profile name [] k (λ i h. absurd (omega arith)) l)

  one : (t : ℕ) → t < n → Under n (t ∷ [])
  one t h zero l = h
  one t h (suc i) l = absurd (omega arith)

  kept-template : (keeps : Bool) (profile : ℕ) (name : List ℕ) (t k : ℕ) → EffectKept st (template_effect keeps profile place st name t k)
  unfolding template_effect
  kept-template keeps profile name t k =
      kept-having k _ (λ l. either (EffectKept st) (ltb t n) (λ b. kept-calling keeps profile name (t ∷ []) k (one t (ltb-true t n b)) l) (λ b. kept-stop NoSuchType))

  kept-take : (e : Entry) (m : Bool) → EffectKept st (take_effect place st e m)
  unfolding take_effect
  kept-take e m =
      either (EffectKept st) (allowedb w n e)
      (λ b. kept-holding _ (λ h.
      kept-onto st.stack _ _ good.under good.high (λ t m q. h)
      (kept-entering w n good.sound place (ty_of w e) (allowed-type w n good.sound e b))))
      (λ b. kept-stop Template)

  pub item-kept : (profile : ℕ) (s : List ℕ) (i : Item) → EffectKept st (effect_of profile place st s i)
  unfolding effect_of
  item-kept profile s (Push t m) = kept_push t.0 m
  item-kept profile s (Unary op) = kept-unary (marked s) op
  item-kept profile s (Binary op) = kept-binary (marked s) op
  item-kept profile s (Call k name) = kept-call (marked s) profile (bytes_of s name) k
  item-kept profile s (CallTemplate t k name) = kept-template (marked s) profile (bytes_of s name) t.0 k
  item-kept profile s (Take kind p q elem m) = kept-take (entry_of kind p q elem) m
  item-kept profile s End = refl
  item-kept profile s Bad = kept-stop Framing
