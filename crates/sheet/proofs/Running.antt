-- A run, one turn unrolled: what is left of the items gives what the whole gives. Assumes nothing.
use Prim.Native.Nat.{ℕ, ◌+◌, ◌<◌, ◌≤◌}
use mathlib.Core.Path.{◌≡◌, refl, sym, ◌∙◌, ap}
use mathlib.Core.Bool.{Bool, true, false}
use mathlib.Core.List.{List}
use native.Mathlib.Omega.{arith}
use lib.ListN.{length}
use borrow.Author.Tests.{lt-ltb, le-ltb}
use Rattle.table.specs.Table.{soundb, Sound}
use Rattle.table.specs.Placing.{Outcome, GaveMarked, turned_down}
use Rattle.table.proofs.Giving.{gave-whole, gave-marked}
use Rattle.answer.specs.declared.Reason.TheVariants.{Unsound, Unknown, Framing}
use Rattle.names.specs.Names.{profiles}
use Rattle.answer.specs.declared.Place.{Place}
use Rattle.answer.specs.Answer.{marked_by}
use Rattle.answer.specs.declared.Typed.{Typed}
use Rattle.frame.specs.Frame.{item_at, is_item, items_from, header_size, header_ok}
use Rattle.frame.specs.declared.Item.{Item}
use Rattle.frame.specs.declared.Item.TheVariants.{Push, Unary, Binary, Call, CallTemplate, Take, End, Bad}
use Rattle.frame.specs.declared.Placed.{Placed}
use Rattle.frame.proofs.FrameLaws.{framed, own-place}
use Rattle.frame.proofs.ItemsLaws.{items-from}
use Rattle.std.specs.declared.ops.ControlFlow.TheVariants.{Continue, Break}
use Rattle.step.specs.Effect.{most, State, Effect, goes, silent, ends, stops, effect_of}
use Rattle.sheet.specs.Machine.{after, more, done, turn_of, onward, run_items, end_mark, onward_mark, runs_items, begun, type_sheet}
use Rattle.step.specs.inner.Code.{state_of, Good, Ready}
use Rattle.memo.specs.declared.Went.{Went}
use Rattle.memo.specs.inner.Quick.{WentIn}
use Rattle.sheet.specs.inner.Code.{turn_by, DoneMarked, TurnCounted, Turns, RushesIn}
use Rattle.step.specs.Kept.{Grew, Needed}
use Rattle.sheet.specs.declared.Here.{Here}
use Rattle.step.proofs.Keeping.{item-kept}

-- a turn goes on only after an item, not at the end or at bad framing

goes-from : (s : List ℕ) (place next : ℕ) (e : Effect) (st : State) → after s place next e ≡ more st → e ≡ goes st
unfolding after
goes-from s place next (goes st') st h = let q : st' ≡ st = cc in ap goes q
goes-from s place next (silent st') st h = absurd (let z : ◌≡◌ {A = ℕ} 0 1 = cc in omega arith)
goes-from s place next (ends st') st h = absurd (let z : ◌≡◌ {A = ℕ} 0 1 = cc in omega arith)
goes-from s place next (stops r w) st h = absurd (let z : ◌≡◌ {A = ℕ} 0 1 = cc in omega arith)

goes-item : (profile : ℕ) (s : List ℕ) (place : ℕ) (st st' : State) (i : Item) → effect_of profile place st s i ≡ goes st' → is_item i ≡ true
unfolding effect_of
goes-item profile s place st st' (Push t m) h = refl
goes-item profile s place st st' (Unary op) h = refl
goes-item profile s place st st' (Binary op) h = refl
goes-item profile s place st st' (Call k name) h = refl
goes-item profile s place st st' (CallTemplate t k name) h = refl
goes-item profile s place st st' (Take kind p q elem m) h = refl
goes-item profile s place st st' End h = absurd (let z : ◌≡◌ {A = ℕ} 0 1 = cc in omega arith)
goes-item profile s place st st' Bad h = absurd (let z : ◌≡◌ {A = ℕ} 0 1 = cc in omega arith)

module _ (profile : ℕ) (s : List ℕ) (x : Placed) (st st' : State) (h : turn_of profile s x st ≡ more st') where
  pub turn-goes-on : effect_of profile x.at.0 st s x.item ≡ goes st'
  unfolding turn_of
  turn-goes-on = goes-from s x.at.0 x.next.0 (effect_of profile x.at.0 st s x.item) st' h

  pub turn-item : is_item x.item ≡ true
  turn-item = goes-item profile s x.at.0 st st' x.item turn-goes-on

  -- and leaves a good state, in which every earlier entry stands; what it added its result needs
  pub turn-kept : Good st → Good st' × Grew st.words st.used st'.words st'.used × Needed st st'
  turn-kept g = rw turn-goes-on at (item-kept x.at.0 st g profile s x.item)

-- THE RUN from a place on

module _ (profile : ℕ) (s : List ℕ) (at : ℕ) (st : State) where
  abbrev from : ℕ → State → Outcome
  from k t = run_items profile s (items_from s k) t

  pub run_more : (st' : State) → turn_of profile s (item_at s at) st ≡ more st' → from at st ≡ from (item_at s at).next.0 st'
  unfolding run_items onward
  run_more st' h =
      let i = turn-item profile s (item_at s at) st st' h in
      ap (λ (l : List Placed). run_items profile s l st) (items-from s at) ∙ rw (h, i)

  abbrev runs : ℕ → State → Bool
  runs k t = runs_items profile s (items_from s k) t

  pub mark-more : (st' : State) → turn_of profile s (item_at s at) st ≡ more st' → runs at st ≡ runs (item_at s at).next.0 st'
  unfolding runs_items onward_mark
  mark-more st' h =
      let i = turn-item profile s (item_at s at) st st' h in
      ap (λ (l : List Placed). runs_items profile s l st) (items-from s at) ∙ rw (h, i)

  pub mark-done : (o : Outcome) → turn_of profile s (item_at s at) st ≡ done o → runs at st ≡ end_mark (effect_of profile at st s (item_at s at).item)
  unfolding runs_items onward_mark
  mark-done o h =
      ap (λ (l : List Placed). runs_items profile s l st) (items-from s at) ∙ rw h
      (ap (λ (p : Place). end_mark (effect_of profile p.0 st s (item_at s at).item)) (own-place s at))

  pub run-done : (o : Outcome) → turn_of profile s (item_at s at) st ≡ done o → from at st ≡ o
  unfolding run_items onward
  run-done o h = ap (λ (l : List Placed). run_items profile s l st) (items-from s at) ∙ rw h

  -- the next place lies after this one and within the sheet
  pub run-forward : (st' : State) → turn_of profile s (item_at s at) st ≡ more st' → (at < (item_at s at).next.0) × ((item_at s at).next.0 ≤ length s)
  run-forward st' h = let f = framed s at (turn-item profile s (item_at s at) st st' h) in (f.after, f.within)

-- THE LOOP, over the first values of a slice: before every turn, what is left of the items gives what the whole sheet gives

pub record Left (profile : ℕ) (s w₀ : List ℕ) (n₀ : ℕ) (w vals : List ℕ) (count n at : ℕ) : Type 0 where
  pub long : length w ≡ length w₀
  pub ready : Ready count vals n w
  pub rest : run_items profile s (items_from s at) (state_of count vals n w) ≡ run_items profile s (items_from s header_size) (begun w₀ n₀)
  pub mark : runs_items profile s (items_from s at) (state_of count vals n w) ≡ runs_items profile s (items_from s header_size) (begun w₀ n₀)

pub left-start : (profile : ℕ) (s w : List ℕ) (n : ℕ) (vals : List ℕ) → Sound w n → length vals ≡ most → Left profile s w n w vals 0 n header_size
left-start profile s w n vals h l =
    record {
      long = refl;
      ready = record { size = l; fits = omega arith; good = record { sound = h; under = λ i k. absurd (omega arith); high = omega arith } };
      rest = refl;
      mark = refl;
    }

module _ (profile : ℕ) (s w₀ : List ℕ) (n₀ : ℕ) (w vals : List ℕ) (count n at : ℕ) (l : Left profile s w₀ n₀ w vals count n at) (vals' : List ℕ) where
  abbrev st : State
  st = state_of count vals n w

  -- after quick items
  pub left-rushed : (r : Here) → RushesIn profile s at count vals n w r vals' → Left profile s w₀ n₀ w vals' r.count r.used r.at.0
  left-rushed r h = record { long = l.long; ready = h.ready; rest = h.rest ∙ l.rest; mark = h.mark ∙ l.mark }

  module _ (w' : List ℕ) where
    module _ (x : Here) (t : Turns (turn_of profile s (item_at s at) st) (end_mark (effect_of profile at st s (item_at s at).item)) (item_at s at).next.0 (Continue x) vals' w') where
      went_on : turn_of profile s (item_at s at) st ≡ more (state_of x.count vals' x.used w')
      unfolding turn_by
      went_on = sym t.turned

      counted : (x.count ≤ most) × (x.at.0 ≡ (item_at s at).next.0)
      unfolding TurnCounted
      counted = t.counted

      pub left-again : length vals' ≡ length vals → length w' ≡ length w → Left profile s w₀ n₀ w' vals' x.count x.used x.at.0
      left-again a b =
          record {
            long = b ∙ l.long;
            ready = record { size = a ∙ l.ready.size; fits = counted.0; good = (turn-kept profile s (item_at s at) st (state_of x.count vals' x.used w') went_on l.ready.good).0 };
            rest = ap (λ (k : ℕ). run_items profile s (items_from s k) (state_of x.count vals' x.used w')) counted.1 ∙ sym (run_more profile s at st (state_of x.count vals' x.used w') went_on) ∙ l.rest;
            mark = ap (λ (k : ℕ). runs_items profile s (items_from s k) (state_of x.count vals' x.used w')) counted.1 ∙ sym (mark-more profile s at st (state_of x.count vals' x.used w') went_on) ∙ l.mark;
          }

      pub left_less : (at < x.at.0) × (x.at.0 ≤ length s)
      left_less = let f = run-forward profile s at st (state_of x.count vals' x.used w') went_on in let e = counted.1 in (omega (arith, f.0, e), omega (arith, f.1, e))

    pub left-done : (a : Typed) → Turns (turn_of profile s (item_at s at) st) (end_mark (effect_of profile at st s (item_at s at).item)) (item_at s at).next.0 (Break a) vals' w'
        → GaveMarked (run_items profile s (items_from s header_size) (begun w₀ n₀)) (runs_items profile s (items_from s header_size) (begun w₀ n₀)) a w'
    unfolding turn_by DoneMarked
    left-done a t =
        let o : Outcome = record { answer = a.answer; words = w' } in
        let r = sym (run-done profile s at st o (sym t.turned)) ∙ l.rest in
        let m = sym (mark-done profile s at st o (sym t.turned)) ∙ l.mark in
        gave-marked (gave-whole r) (t.marked ∙ ap (λ (b : Bool). marked_by b a.answer) m)

-- QUICK ITEMS: one more leaves the rest as it was

module _ (profile : ℕ) (s : List ℕ) (from high : ℕ) (vals₀ : List ℕ) (used : ℕ) (w : List ℕ) (l : Here) (vals : List ℕ) (h : RushesIn profile s from high vals₀ used w l vals) where
  -- then others
  pub rush-join : (r : Here) (vals' : List ℕ) → RushesIn profile s l.at.0 l.count vals l.used w r vals' → RushesIn profile s from high vals₀ used w r vals'
  rush-join r vals' g =
      let a = h.onward in
      let b = g.onward in
      record { ready = g.ready; rest = g.rest ∙ h.rest; mark = g.mark ∙ h.mark; onward = omega arith; same = g.same ∙ h.same }

  -- then one that went
  module _ (x : Went) (vals' : List ℕ) (g : WentIn profile s l.at.0 l.count vals l.used w x vals') where
    abbrev now : State
    now = state_of l.count vals l.used w

    turns : turn_of profile s (item_at s l.at.0) now ≡ more (state_of x.count vals' l.used w)
    unfolding turn_of after
    turns = ap (λ (p : Place). after s p.0 (item_at s l.at.0).next.0 (effect_of profile p.0 now s (item_at s l.at.0).item)) (own-place s l.at.0) ∙ ap (after s l.at.0 (item_at s l.at.0).next.0) g.effect

    -- it has bytes
    pub rush-further : l.at.0 < l.at.0 + x.bytes
    rush-further = let f = (run-forward profile s l.at.0 now (state_of x.count vals' l.used w) turns).0 in omega (arith, f, g.next)

    pub rush-on : length vals' ≡ length vals → RushesIn profile s from high vals₀ used w (record { at = record { 0 = l.at.0 + x.bytes }; count = x.count; used = l.used }) vals'
    rush-on a =
        let k = turn-kept profile s (item_at s l.at.0) now (state_of x.count vals' l.used w) turns h.ready.good in
        let b = h.onward in
        record {
          ready = record { size = a ∙ h.ready.size; fits = g.high; good = k.0 };
          rest = sym (ap (λ (n : ℕ). run_items profile s (items_from s n) (state_of x.count vals' l.used w)) g.next) ∙ sym (run_more profile s l.at.0 now (state_of x.count vals' l.used w) turns) ∙ h.rest;
          mark = sym (ap (λ (n : ℕ). runs_items profile s (items_from s n) (state_of x.count vals' l.used w)) g.next) ∙ sym (mark-more profile s l.at.0 now (state_of x.count vals' l.used w) turns) ∙ h.mark;
          onward = omega (arith, b);
          same = h.same;
        }

-- A SHEET, test by test

module _ (profile : ℕ) (w : List ℕ) (n : ℕ) (s : List ℕ) where
  pub sheet-unsound : soundb w n ≡ false → turned_down Unsound 0 w n ≡ type_sheet profile w n s
  unfolding type_sheet
  sheet-unsound h = sym (rw h)

  pub sheet-unheaded : soundb w n ≡ true → header_ok s ≡ false → turned_down Framing 0 w n ≡ type_sheet profile w n s
  unfolding type_sheet
  sheet-unheaded h k = sym (rw (h, k))

  pub sheet-unprofiled : soundb w n ≡ true → header_ok s ≡ true → profiles ≤ profile → turned_down Unknown 0 w n ≡ type_sheet profile w n s
  unfolding type_sheet
  sheet-unprofiled h k p = sym (rw (h, k, le-ltb profile profiles p))

  pub sheet-runs : soundb w n ≡ true → header_ok s ≡ true → profile < profiles → run_items profile s (items_from s header_size) (begun w n) ≡ type_sheet profile w n s
  unfolding type_sheet
  sheet-runs h k p = sym (rw (h, k, lt-ltb profile profiles p))
