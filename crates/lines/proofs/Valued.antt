-- The type that a sheet is answered with is one of the table, and so can be spelled. Assumes nothing.
use Prim.Native.Nat.{ℕ, ◌<◌}
use mathlib.Core.Path.{◌≡◌, refl, ◌∙◌, ap}
use mathlib.Core.Bool.{Bool, true, false, ◌&&◌, cond}
use mathlib.Core.List.{List, [], ◌∷◌}
use native.Mathlib.Omega.{arith}
use lib.Dec.{eqb, ltb}
use lib.ListN.{length, get_or}
use borrow.Author.Tests.{eqb-true, ltb-true, ltb-false}
use Rattle.answer.specs.Answer.{used_of, accept, refuse}
use Rattle.held.specs.Held.{number_of}
use Rattle.table.specs.Tools.{all_below}
use Rattle.table.specs.Table.{scalars, entry_ok, find_in, soundb, Sound}
use Rattle.table.specs.Placing.{Outcome}
use Rattle.answer.specs.declared.Reason.TheVariants.{Stack}
use Rattle.answer.specs.declared.TypeNo.{TypeNo}
use Rattle.answer.specs.declared.Answer.{Answer}
use Rattle.answer.specs.declared.Answer.TheVariants.{Value, NoValue, Refused}
use Rattle.table.proofs.SoundLaws.{sound-of}
use Rattle.table.proofs.KindLaws.{split}
use Rattle.frame.specs.Frame.{header_size, header_ok, items_from}
use Rattle.frame.specs.declared.Placed.{Placed}
use Rattle.names.specs.Names.{profiles}
use Rattle.step.specs.Effect.{State, height, Effect, goes, silent, ends, stops, effect_of}
use Rattle.sheet.specs.Machine.{end_answer, left_answer, after, Turned, more, done, turn_of, onward, run_items, begun, type_sheet}
use Rattle.step.specs.inner.Code.{Good}
use Rattle.step.proofs.StackLaws.{value-under}
use Rattle.step.proofs.Keeping.{EffectKept, item-kept}
use Rattle.sheet.proofs.Running.{turn-kept, sheet-unheaded, sheet-unprofiled, sheet-runs}
use Rattle.sheet.proofs.Demand1.{sheet-keeps}
use Rattle.lines.specs.Lines.{start, outcome, Spellable}

never : {P : Type 0} → ◌≡◌ {A = ℕ} 0 1 → P
never e = absurd (omega arith)

module _ (profile : ℕ) (t : TypeNo) (m : ℕ) where
  -- at the end: the one value of a good stack
  at-end : (size : ℕ) (st : State) → Good st → end_answer size st.stack st.used ≡ Value t m → t.0 < m
  at-end size st g = go (eqb (length st.stack) 1) refl
    where
      go : (b : Bool) → eqb (length st.stack) 1 ≡ b → cond b (accept (number_of (get_or st.stack 0 0)) st.used) (refuse Stack size st.used) ≡ Value t m → t.0 < m
      go true e h =
          let one = eqb-true (length st.stack) 1 e in
          let x : t ≡ record { 0 = number_of (get_or st.stack 0 0) } = cc in
          let y : m ≡ st.used = cc in
          omega (arith, ap (λ (z : TypeNo). z.0) x, value-under st.used st.stack g.under 0 (omega arith))
      go false e h = never (cc)

  -- a call without value gives none
  at_left : (size place next high used : ℕ) → left_answer size place next high used ≡ Value t m → t.0 < m
  at_left size place next high used = go (eqb high 0 && eqb next size)
    where
      go : (b : Bool) → cond b (NoValue used) (refuse Stack place used) ≡ Value t m → t.0 < m
      go true h = never (cc)
      go false h = never (cc)

  Answers : Turned → Type 0
  Answers (more st) = Unit {0}
  Answers (done o) = o.answer ≡ Value t m → t.0 < m

  answered : (s : List ℕ) (place next : ℕ) (st : State) (e : Effect) → Good st → EffectKept st e → Answers (after s place next e)
  unfolding after Answers
  answered s place next st (goes st') g k = tt
  answered s place next st (silent st') g k = at_left (length s) place next (height st') st'.used
  answered s place next st (ends st') g k = at-end (length s) st' (rw k g)
  answered s place next st (stops r w) g k = λ h. never (cc)

  turn-answers : (s : List ℕ) (x : Placed) (st : State) → Good st → Answers (turn_of profile s x st)
  unfolding turn_of
  turn-answers s x st g = answered s x.at.0 x.next.0 st (effect_of profile x.at.0 st s x.item) g (item-kept x.at.0 st g profile s x.item)

  run-valued : (s : List ℕ) (xs : List Placed) (st : State) → Good st → (run_items profile s xs st).answer ≡ Value t m → t.0 < m
  unfolding run_items onward Answers
  run-valued s [] st g = at-end (length s) st g
  run-valued s (x ∷ xs) st g = go (turn_of profile s x st) refl (turn-answers s x st g) (run-valued s xs)
    where
      go : (u : Turned) → turn_of profile s x st ≡ u → Answers u → ((st' : State) → Good st' → (run_items profile s xs st').answer ≡ Value t m → t.0 < m)
          → (onward u (run_items profile s xs)).answer ≡ Value t m → t.0 < m
      go (more st') e k ih = ih st' (turn-kept profile s x st st' e g).0
      go (done o) e k ih = k

  module _ (w : List ℕ) (n : ℕ) (s : List ℕ) where
    pub sheet-valued : soundb w n ≡ true → (type_sheet profile w n s).answer ≡ Value t m → t.0 < m
    sheet-valued h e =
        split (header_ok s)
        (λ k.
        split (ltb profile profiles)
        (λ b.
        let g : Good (begun w n) = record { sound = sound-of w n h; under = λ i l. absurd (omega arith); high = omega arith } in
        run-valued s (items_from s header_size) (begun w n) g (ap (λ (o : Outcome). o.answer) (sheet-runs profile w n s h k (ltb-true profile profiles b)) ∙ e))
        (λ b. let q = ap (λ (o : Outcome). o.answer) (sheet-unprofiled profile w n s h k (ltb-false profile profiles b)) ∙ e in never (cc)))
        (λ k. let q = ap (λ (o : Outcome). o.answer) (sheet-unheaded profile w n s h k) ∙ e in never (cc))

-- the seven scalars are a sound table
pub start-sound : soundb start scalars ≡ true
unfolding soundb entry_ok find_in all_below
start-sound = refl

-- what is answered over them can be spelled
pub spellable : (profile : ℕ) (s : List ℕ) → Spellable (outcome profile s).words (outcome profile s).answer
spellable profile s = go (outcome profile s).answer refl (sheet-keeps profile start scalars s start-sound).0
  where
    go : (a : Answer) → (outcome profile s).answer ≡ a → Sound (outcome profile s).words (used_of (outcome profile s).answer) → Spellable (outcome profile s).words a
    go (Value t m) e h = (rw e at h, sheet-valued profile t m start scalars s start-sound e)
    go (NoValue m) e h = tt
    go (Refused r) e h = tt
