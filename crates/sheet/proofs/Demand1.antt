-- DEMAND 1 for sheets. "Any table, sheet .. gets one of document 01's replies. A refused sheet keeps only what its accepted items entered. An accepted call
-- leaves every earlier entry at its number and adds only the missing entries its result needs." Soundness is tested once, at the start, and kept by every
-- item. Assumes nothing.
use Prim.Native.Nat.{ℕ, ◌≤◌, ◌<◌}
use mathlib.Core.Path.{◌≡◌, refl, sym, ◌∙◌, ap, subst}
use mathlib.Core.Bool.{Bool, true, false, ◌&&◌, cond}
use mathlib.Core.List.{List, [], ◌∷◌}
use native.Mathlib.Omega.{arith}
use lib.Dec.{eqb, ltb}
use borrow.Author.Tests.{ltb-true, ltb-false}
use lib.ListN.{length, get_or}
use Rattle.held.specs.Held.{number_of}
use Rattle.answer.specs.Answer.{used_of, accept, refuse}
use Rattle.table.specs.Table.{soundb, Sound}
use Rattle.table.specs.Denote.{type_at}
use Rattle.table.specs.Stands.{Absent, Part}
use Rattle.table.specs.Placing.{Outcome, turned_down}
use Rattle.answer.specs.declared.Reason.TheVariants.{Unsound, Unknown, Framing, Stack}
use Rattle.answer.specs.declared.Answer.TheVariants.{NoValue}
use Rattle.table.proofs.SoundLaws.{sound-of}
use Rattle.table.proofs.TypeLaws.{type-keeps}
use Rattle.table.proofs.KindLaws.{split}
use Rattle.frame.specs.Frame.{header_size, header_ok, items_from}
use Rattle.frame.specs.declared.Placed.{Placed}
use Rattle.names.specs.Names.{profiles}
use Rattle.step.specs.Effect.{State, height, Effect, goes, silent, ends, stops, effect_of}
use Rattle.sheet.specs.Machine.{end_answer, left_answer, after, Turned, more, done, turn_of, onward, run_items, begun, type_sheet}
use Rattle.step.specs.inner.Code.{Good}
use Rattle.step.specs.Kept.{Grew, result_of, Needed}
use Rattle.sheet.specs.Kept.{further, reached, AddedBy}
use Rattle.sheet.specs.Kept.Accepted.{first, later}
use Rattle.step.proofs.Keeping.{EffectKept, grew_none, item-kept}
use Rattle.sheet.proofs.Running.{turn-kept, sheet-unsound, sheet-unheaded, sheet-unprofiled, sheet-runs}

-- growing twice is growing
grew-twice : {w v u : List ℕ} {n m l : ℕ} → Grew w n v m → Grew v m u l → Grew w n u l
grew-twice {w} {v} {u} {n} {m} {l} a b =
    let x = a.more in
    let y = b.more in
    record {
      more = omega arith;
      keeps = λ k h. b.keeps k (omega arith) ∙ a.keeps k h;
      long = b.long ∙ a.long;
      beyond = λ k h. b.beyond k h ∙ a.beyond k (omega arith);
    }

-- A TURN that answers gives the words and the count of the state that it began with: what was refused entered nothing

abbrev Closes : State → Turned → Type 0
Closes st (more st') = Unit {0}
Closes st (done o) = (o.words ≡ st.words) × (used_of o.answer ≡ st.used)

count_left : (size place next high used : ℕ) → used_of (left_answer size place next high used) ≡ used
count_left size place next high used = go (eqb high 0 && eqb next size)
  where
    go : (b : Bool) → used_of (cond b (NoValue used) (refuse Stack place used)) ≡ used
    go true = refl
    go false = refl

count-end : (size : ℕ) (vs : List ℕ) (used : ℕ) → used_of (end_answer size vs used) ≡ used
count-end size vs used = go (eqb (length vs) 1)
  where
    go : (b : Bool) → used_of (cond b (accept (number_of (get_or vs 0 0)) used) (refuse Stack size used)) ≡ used
    go true = refl
    go false = refl

closes : (s : List ℕ) (place next : ℕ) (st : State) (e : Effect) → EffectKept st e → Closes st (after s place next e)
unfolding after
closes s place next st (goes st') k = tt
closes s place next st (silent st') k = (k.1, count_left (length s) place next (height st') st'.used ∙ k.2)
closes s place next st (ends st') k = (ap (λ (t : State). t.words) k, count-end (length s) st'.stack st'.used ∙ ap (λ (t : State). t.used) k)
closes s place next st (stops r w) k = k

turn-closes : (profile : ℕ) (s : List ℕ) (x : Placed) (st : State) → Good st → Closes st (turn_of profile s x st)
unfolding turn_of
turn-closes profile s x st g = closes s x.at.0 x.next.0 st (effect_of profile x.at.0 st s x.item) (item-kept x.at.0 st g profile s x.item)

-- A RUN: its words and its count are those of the state that the accepted items reached; that state is good, and every earlier entry stands in it

pub record Ran (profile : ℕ) (s : List ℕ) (xs : List Placed) (st : State) : Type 0 where
  pub words : (run_items profile s xs st).words ≡ (reached profile s xs st).words
  pub count : used_of (run_items profile s xs st).answer ≡ (reached profile s xs st).used
  pub good : Good (reached profile s xs st)
  pub grew : Grew st.words st.used (reached profile s xs st).words (reached profile s xs st).used

pub run_on : (profile : ℕ) (s : List ℕ) (x : Placed) (xs : List Placed) (st st' : State) → turn_of profile s x st ≡ more st'
    → (run_items profile s (x ∷ xs) st ≡ run_items profile s xs st') × (reached profile s (x ∷ xs) st ≡ reached profile s xs st')
unfolding run_items onward reached further
run_on profile s x xs st st' h = (rw h, rw h)

pub run-over : (profile : ℕ) (s : List ℕ) (x : Placed) (xs : List Placed) (st : State) (o : Outcome) → turn_of profile s x st ≡ done o
    → (run_items profile s (x ∷ xs) st ≡ o) × (reached profile s (x ∷ xs) st ≡ st)
unfolding run_items onward reached further
run-over profile s x xs st o h = (rw h, rw h)

pub ran : (profile : ℕ) (s : List ℕ) (xs : List Placed) (st : State) → Good st → Ran profile s xs st
unfolding run_items reached
ran profile s [] st g = record { words = refl; count = count-end (length s) st.stack st.used; good = g; grew = grew_none st.words st.used }
ran profile s (x ∷ xs) st g = go (turn_of profile s x st) refl (turn-closes profile s x st g) (λ st' h. ran profile s xs st' h)
  where
    go : (t : Turned) → turn_of profile s x st ≡ t → Closes st t → ((st' : State) → Good st' → Ran profile s xs st') → Ran profile s (x ∷ xs) st
    go (more st') e k ih =
        let kept = turn-kept profile s x st st' e g in
        let r = ih st' kept.0 in
        let q = run_on profile s x xs st st' e in
        record {
          words = ap (λ (o : Outcome). o.words) q.0 ∙ r.words ∙ ap (λ (t : State). t.words) (sym q.1);
          count = ap (λ (o : Outcome). used_of o.answer) q.0 ∙ r.count ∙ ap (λ (t : State). t.used) (sym q.1);
          good = rw q.1 r.good;
          grew = rw q.1 (grew-twice kept.1 r.grew);
        }
    go (done o) e k ih =
        let q = run-over profile s x xs st o e in
        record {
          words = ap (λ (p : Outcome). p.words) q.0 ∙ k.0 ∙ ap (λ (t : State). t.words) (sym q.1);
          count = ap (λ (p : Outcome). used_of p.answer) q.0 ∙ k.1 ∙ ap (λ (t : State). t.used) (sym q.1);
          good = rw q.1 g;
          grew = rw q.1 (grew_none st.words st.used);
        }

-- WHAT WAS ADDED: by one accepted item, and by a run of them

pub item-adds : (profile : ℕ) (s : List ℕ) (x : Placed) (st st' : State) → Good st → turn_of profile s x st ≡ more st' → Needed st st'
item-adds profile s x st st' g h = (turn-kept profile s x st st' h g).2

added-later : (profile : ℕ) (s : List ℕ) (x : Placed) (xs : List Placed) (st st' : State) (i : ℕ) → turn_of profile s x st ≡ more st' → AddedBy profile s xs st' i → AddedBy profile s (x ∷ xs) st i
added-later profile s x xs st st' i e r =
    let q = (run_on profile s x xs st st' e).1 in
    record {
      item = r.item;
      earlier = r.earlier;
      later = r.later;
      accepted = later e r.accepted;
      from = r.from;
      to = r.to;
      missing = subst (λ (t : State). Absent r.earlier.words r.earlier.used (type_at t.words i)) (sym q) r.missing;
      needed = subst (λ (t : State). Part (type_at t.words i) (result_of r.later)) (sym q) r.needed;
    }

-- every entry that a run added was added by an accepted item whose result needs it
pub run-adds : (profile : ℕ) (s : List ℕ) (xs : List Placed) (st : State) → Good st → (i : ℕ) → st.used ≤ i → i < (reached profile s xs st).used → AddedBy profile s xs st i
unfolding reached
run-adds profile s [] st g i l h = absurd (omega arith)
run-adds profile s (x ∷ xs) st g i l h = go (turn_of profile s x st) refl (λ st' g'. run-adds profile s xs st' g' i)
  where
    go : (t : Turned) → turn_of profile s x st ≡ t → ((st' : State) → Good st' → st'.used ≤ i → i < (reached profile s xs st').used → AddedBy profile s xs st' i) → AddedBy profile s (x ∷ xs) st i
    go (done o) e ih = let q = ap (λ (t : State). t.used) (run-over profile s x xs st o e).1 in absurd (omega (arith, q))
    go (more st') e ih =
        let kept = turn-kept profile s x st st' e g in
        let q = (run_on profile s x xs st st' e).1 in
        let m = ap (λ (t : State). t.used) q in
        split (ltb i st'.used)
        (λ b.
        let k = ltb-true i st'.used b in
        let same : type_at (reached profile s (x ∷ xs) st).words i ≡ type_at st'.words i = ap (λ (t : State). type_at t.words i) q ∙ type-keeps st'.words (reached profile s xs st').words st'.used (ran profile s xs st' kept.0).grew.keeps i k in
        record {
          item = x;
          earlier = st;
          later = st';
          accepted = first e;
          from = l;
          to = k;
          missing = rw same (kept.2.missing i l k);
          needed = rw same (kept.2.parts i l k);
        })
        (λ b. added-later profile s x xs st st' i e (ih st' kept.0 (ltb-false i st'.used b) (omega (arith, m))))

-- A SHEET

module _ (profile : ℕ) (w : List ℕ) (n : ℕ) (s : List ℕ) where
  abbrev o : Outcome
  o = type_sheet profile w n s

  -- the state that the accepted items reached
  abbrev pub last : State
  last = reached profile s (items_from s header_size) (begun w n)

  pub begun-good : Sound w n → Good (begun w n)
  begun-good h = record { sound = h; under = λ i k. absurd (omega arith); high = omega arith }

  -- over a sound table, under a right header and in a known profile, the words and the count afterwards are those of the accepted items, whatever is answered
  pub sheet-reached : soundb w n ≡ true → header_ok s ≡ true → profile < profiles → (o.words ≡ last.words) × (used_of o.answer ≡ last.used)
  sheet-reached h k p =
      let r = ran profile s (items_from s header_size) (begun w n) (begun-good (sound-of w n h)) in
      let q = sheet-runs profile w n s h k p in
      (ap (λ (p : Outcome). p.words) (sym q) ∙ r.words, ap (λ (p : Outcome). used_of p.answer) (sym q) ∙ r.count)

  -- the table stays sound, the count is that of the entries really there, and the earlier entries stay at their numbers with their words
  pub sheet-keeps : soundb w n ≡ true → Sound o.words (used_of o.answer) × Grew w n o.words (used_of o.answer)
  sheet-keeps h =
      split (header_ok s)
      (λ k.
      split (ltb profile profiles)
      (λ b.
      let r = ran profile s (items_from s header_size) (begun w n) (begun-good (sound-of w n h)) in
      let q = sheet-reached h k (ltb-true profile profiles b) in
      (rw (q.0, q.1) r.good.sound, rw (q.0, q.1) r.grew))
      (λ b. let q = sheet-unprofiled profile w n s h k (ltb-false profile profiles b) in (rw (← q) (sound-of w n h), rw (← q) (grew_none w n))))
      (λ k. let q = sheet-unheaded profile w n s h k in (rw (← q) (sound-of w n h), rw (← q) (grew_none w n)))

  -- every entry that the sheet added was added by an accepted item whose result needs it, whatever is answered
  pub sheet-adds : soundb w n ≡ true → header_ok s ≡ true → profile < profiles → (i : ℕ) → n ≤ i → i < used_of o.answer → AddedBy profile s (items_from s header_size) (begun w n) i
  sheet-adds h k p i l m =
      let q = (sheet-reached h k p).1 in
      run-adds profile s (items_from s header_size) (begun w n) (begun-good (sound-of w n h)) i l (omega (arith, q))

  -- a saved number means the same type after the sheet
  pub sheet-types : soundb w n ≡ true → (i : ℕ) → i < n → type_at o.words i ≡ type_at w i
  sheet-types h i l = type-keeps w o.words n (sheet-keeps h).1.keeps i l

  -- a table that is not sound, a wrong header and an unknown profile change no word
  pub sheet-refused : soundb w n ≡ false → o ≡ turned_down Unsound 0 w n
  sheet-refused h = sym (sheet-unsound profile w n s h)

  pub sheet-header : soundb w n ≡ true → header_ok s ≡ false → o ≡ turned_down Framing 0 w n
  sheet-header h k = sym (sheet-unheaded profile w n s h k)

  pub sheet-profile : soundb w n ≡ true → header_ok s ≡ true → profiles ≤ profile → o ≡ turned_down Unknown 0 w n
  sheet-profile h k p = sym (sheet-unprofiled profile w n s h k p)
