-- The search for the item that is told, one turn unrolled. Assumes nothing.
use Prim.Native.Nat.{ℕ, ◌<◌, ◌≤◌}
use mathlib.Core.Path.{◌≡◌, refl, sym, ◌∙◌, ap}
use mathlib.Core.Bool.{true, false}
use mathlib.Core.List.{List}
use native.Mathlib.Omega.{arith}
use lib.ListN.{length}
use Rattle.table.specs.Table.{Sound}
use Rattle.table.specs.Placing.{Outcome}
use Rattle.answer.specs.declared.Answer.{Answer}
use Rattle.answer.specs.declared.Place.{Place}
use Rattle.frame.specs.Frame.{item_at, items_from, header_size}
use Rattle.frame.specs.declared.Placed.{Placed}
use Rattle.frame.proofs.FrameLaws.{own-place}
use Rattle.frame.proofs.ItemsLaws.{items-from}
use Rattle.step.specs.Effect.{most, State, Effect, effect_of}
use Rattle.step.specs.declared.Did.{Did}
use Rattle.step.specs.declared.Did.TheVariants as did
use Rattle.step.specs.inner.Code.{state_of, effect_by, Counted, Ready, Does}
use Rattle.sheet.specs.Machine.{more, done, after, turn_of}
use Rattle.sheet.proofs.Running.{turn-item, turn-kept, run-forward}
use Rattle.desk.specs.Told.{Told, nothing, before, is_told, going_on, told_in, told_of}
use Rattle.desk.specs.inner.Code.{told_by, Standing, Finds}
use Rattle.std.proofs.Common.{Some, None}

-- what is told of the items from a place on
abbrev told_from : ℕ → List ℕ → Answer → ℕ → State → Told
told_from profile s a at st = told_in profile s a (items_from s at) st

module _ (profile : ℕ) (s : List ℕ) (a : Answer) (at : ℕ) (st : State) where
  here : is_told a (length s) (item_at s at) ≡ true → told_from profile s a at st ≡ before st (item_at s at).item
  unfolding told_in
  here h = ap (λ (l : List Placed). told_in profile s a l st) (items-from s at) ∙ rw h

  further : is_told a (length s) (item_at s at) ≡ false → (st' : State) → turn_of profile s (item_at s at) st ≡ more st' → told_from profile s a at st ≡ told_from profile s a (item_at s at).next.0 st'
  unfolding told_in going_on
  further h st' e =
      let i = turn-item profile s (item_at s at) st st' e in
      ap (λ (l : List Placed). told_in profile s a l st) (items-from s at) ∙ rw (h, e, i)

  over : is_told a (length s) (item_at s at) ≡ false → (o : Outcome) → turn_of profile s (item_at s at) st ≡ done o → told_from profile s a at st ≡ nothing
  unfolding told_in going_on
  over h o e = ap (λ (l : List Placed). told_in profile s a l st) (items-from s at) ∙ rw (h, e)

  -- the turn at the place, by what the step did there
  turned : (e : Effect) → e ≡ effect_of profile at st s (item_at s at).item → turn_of profile s (item_at s at) st ≡ after s at (item_at s at).next.0 e
  unfolding turn_of
  turned e h = ap (λ (p : Place). after s p.0 (item_at s at).next.0 (effect_of profile p.0 st s (item_at s at).item)) (own-place s at) ∙ ap (after s at (item_at s at).next.0) (sym h)

-- THE LOOP: before every turn, what is left of the items tells what the whole sheet tells

pub record Left (profile : ℕ) (s : List ℕ) (a : Answer) (w₀ : List ℕ) (n₀ : ℕ) (w vals : List ℕ) (count n at : ℕ) : Type 0 where
  pub long : length w ≡ length w₀
  pub ready : Ready count vals n w
  pub rest : told_from profile s a at (state_of count vals n w) ≡ told_of profile w₀ n₀ s a

pub left-start : (profile : ℕ) (s : List ℕ) (a : Answer) (w : List ℕ) (n : ℕ) (vals : List ℕ) → Sound w n → length vals ≡ most → Left profile s a w n w vals 0 n header_size
left-start profile s a w n vals h l =
    record {
      long = refl;
      ready = record { size = l; fits = omega arith; good = record { sound = h; under = λ i k. absurd (omega arith); high = omega arith } };
      rest = refl;
    }

module _ (profile : ℕ) (s : List ℕ) (a : Answer) (w₀ : List ℕ) (n₀ : ℕ) (w vals : List ℕ) (count n at : ℕ) (l : Left profile s a w₀ n₀ w vals count n at)
    (x : Placed) (q : x ≡ item_at s at) where
  abbrev st : State
  st = state_of count vals n w

  pub found : is_told a (length s) x ≡ true → Finds s (told_of profile w₀ n₀ s a) (Some (record { placed = x; count = count; used = n })) vals w
  unfolding told_by Standing
  found h =
      record {
        told = ap (λ (y : Placed). before st y.item) q ∙ sym (here profile s a at st (ap (is_told a (length s)) (sym q) ∙ h)) ∙ l.rest;
        standing = (l.ready, q ∙ ap (λ (p : Place). item_at s p.0) (sym (ap (λ (y : Placed). y.at) q ∙ own-place s at)));
      }

  -- the item is not told, and is run
  module _ (h : is_told a (length s) x ≡ false) (vals' w' : List ℕ) where
    not-here : is_told a (length s) (item_at s at) ≡ false
    not-here = ap (is_told a (length s)) (sym q) ∙ h

    turns : (d : Did) → Does (effect_of profile at st s x.item) d vals' w' → turn_of profile s (item_at s at) st ≡ after s at (item_at s at).next.0 (effect_by d vals' w')
    turns d g = turned profile s a at st (effect_by d vals' w') (g.effect ∙ ap (λ (y : Placed). effect_of profile at st s y.item) q)

    module _ (c u : ℕ) (g : Does (effect_of profile at st s x.item) (did.Went c u) vals' w') where
      went_on : turn_of profile s (item_at s at) st ≡ more (state_of c vals' u w')
      unfolding effect_by after
      went_on = turns (did.Went c u) g

      counted : c ≤ most
      unfolding Counted
      counted = g.counted

      next : x.next.0 ≡ (item_at s at).next.0
      next = ap (λ (y : Placed). y.next.0) q

      pub left-again : length vals' ≡ length vals → length w' ≡ length w → Left profile s a w₀ n₀ w' vals' c u x.next.0
      left-again i j =
          record {
            long = j ∙ l.long;
            ready = record { size = i ∙ l.ready.size; fits = counted; good = (turn-kept profile s (item_at s at) st (state_of c vals' u w') went_on l.ready.good).0 };
            rest = ap (λ (k : ℕ). told_from profile s a k (state_of c vals' u w')) next ∙ sym (further profile s a at st not-here (state_of c vals' u w') went_on) ∙ l.rest;
          }

      pub left_less : (at < x.next.0) × (x.next.0 ≤ length s)
      left_less = let f = run-forward profile s at st (state_of c vals' u w') went_on in (omega (arith, f.0, next), omega (arith, f.1, next))

    -- the run ends before an item is told
    nowhere : (o : Outcome) → turn_of profile s (item_at s at) st ≡ done o → Finds s (told_of profile w₀ n₀ s a) None vals' w'
    unfolding told_by Standing
    nowhere o e = record { told = sym (over profile s a at st not-here o e) ∙ l.rest; standing = tt }

    -- so it is wherever the step did not go on
    pub left_over : (d : Did) → ((c u : ℕ) → d ≡ did.Went c u → ⊥) → Does (effect_of profile at st s x.item) d vals' w' → Finds s (told_of profile w₀ n₀ s a) None vals' w'
    unfolding effect_by after
    left_over (did.Went c u) f g = absurd (f c u refl)
    left_over (did.Silent c u) f g = nowhere _ (turns (did.Silent c u) g)
    left_over (did.Ended c u) f g = nowhere _ (turns (did.Ended c u) g)
    left_over (did.Refused r) f g = nowhere _ (turns (did.Refused r) g)
