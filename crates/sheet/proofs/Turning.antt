-- A turn, from what the step did. Assumes nothing.
use Prim.Native.Nat.{ℕ, ◌≤◌}
use mathlib.Core.Path.{◌≡◌, refl, sym, ◌∙◌, ap, subst}
use mathlib.Core.Logic.{◌≢◌}
use mathlib.Core.Bool.{Bool, false}
use mathlib.Core.List.{List}
use native.Mathlib.Omega.{arith}
use lib.ListN.{length, get_or, take}
use borrow.Author.Tests.{eq-eqb, ne_eqb}
use Rattle.answer.specs.Answer.{refuse, marked_by}
use Rattle.answer.specs.declared.Typed.{Typed}
use Rattle.held.specs.Held.{mark_of}
use Rattle.answer.specs.declared.Reason.TheVariants.{Stack}
use Rattle.answer.specs.declared.Place.{Place}
use Rattle.answer.specs.declared.Refusal.{Refusal}
use Rattle.answer.specs.declared.Answer.{Answer}
use Rattle.answer.specs.declared.Answer.TheVariants.{NoValue, Refused}
use Rattle.frame.specs.Frame.{item_at}
use Rattle.frame.specs.Frame.{place as at_place}
use Rattle.frame.proofs.FrameLaws.{own-place}
use Rattle.frame.specs.declared.Placed.{Placed}
use Rattle.step.specs.declared.Did.{Did}
use Rattle.step.specs.declared.Did.TheVariants as did
use Rattle.std.specs.declared.ops.ControlFlow.TheVariants.{Continue, Break}
use Rattle.step.specs.Effect.{most, State, Effect, effect_of}
use Rattle.memo.specs.inner.Memo.{AfterStep}
use Rattle.sheet.specs.Machine.{end_answer, left_answer, after, more, done, turn_of, end_mark}
use Rattle.step.specs.inner.Code.{state_of, effect_by, Counted, Does}
use Rattle.sheet.specs.inner.Code.{Turn, turn_by, DoneMarked, TurnCounted, TurnsBy, Turns, AfterTurn}
use Rattle.step.proofs.StackLaws.{sized}

-- a call without value, test by test
module _ (size place next high used : ℕ) where
  pub left-high : high ≢ 0 → refuse Stack place used ≡ left_answer size place next high used
  left-high h = sym (rw (ne_eqb high 0 h))

  pub left-early : high ≡ 0 → next ≢ size → refuse Stack place used ≡ left_answer size place next high used
  left-early h k = sym (rw (eq-eqb high 0 h, ne_eqb next size k))

  pub left-last : high ≡ 0 → next ≡ size → NoValue used ≡ left_answer size place next high used
  left-last h k = sym (rw (eq-eqb high 0 h, eq-eqb next size k))

-- an answer with a mark, by its own answer
marks-own : (m : Bool) (a : Typed) (b : Answer) → a ≡ marked_by m b → a ≡ marked_by m a.answer
marks-own m a b e = e ∙ ap (marked_by m) (sym (ap (λ (x : Typed). x.answer) e))

module _ (size place next : ℕ) (vals : List ℕ) where
  module _ (c u : ℕ) where
    pub turn-goes : (n : Place) → n.0 ≡ next → Counted (did.Went c u) → TurnsBy size place next (did.Went c u) vals (Continue (record { at = n; count = c; used = u }))
    unfolding after effect_by turn_by DoneMarked end_mark Counted TurnCounted
    turn-goes n e k = record { turned = λ s words l. refl; counted = (k, e); marked = λ words. tt }

    pub turn-silent : length vals ≡ most → Counted (did.Silent c u) → (a : Typed) (b : Answer) → a ≡ marked_by false b → b ≡ left_answer size place next c u
        → TurnsBy size place next (did.Silent c u) vals (Break a)
    unfolding after effect_by turn_by DoneMarked end_mark Counted TurnCounted
    turn-silent l k a b e f =
        let m : c ≤ most = k in
        let h : length (take c vals) ≡ c = sized c vals (omega arith) in
        record {
          turned = λ s words g. ap (λ (b : Answer). done (record { answer = b; words = words }))
              (ap (λ (x : Typed). x.answer) e ∙ f ∙ ap (λ (n : ℕ). left_answer size place next n u) (sym h) ∙ ap (λ (n : ℕ). left_answer n place next (length (take c vals)) u) (sym g));
          counted = tt;
          marked = λ words. marks-own false a b e;
        }

    pub counted-end : Counted (did.Ended c u) → c ≤ most
    unfolding Counted
    counted-end k = k

    pub turn-ends : (a : Typed) → a ≡ marked_by (mark_of (get_or (take c vals) 0 0)) (end_answer size (take c vals) u) → TurnsBy size place next (did.Ended c u) vals (Break a)
    unfolding after effect_by turn_by DoneMarked end_mark Counted TurnCounted
    turn-ends a e =
        record {
          turned = λ s words g. ap (λ (b : Answer). done (record { answer = b; words = words })) (ap (λ (b : Typed). b.answer) e ∙ ap (λ (n : ℕ). end_answer n (take c vals) u) (sym g));
          counted = tt;
          marked = λ words. marks-own (mark_of (get_or (take c vals) 0 0)) a (end_answer size (take c vals) u) e;
        }

  pub turn-stops : (r : Refusal) (a : Typed) → a ≡ marked_by false (Refused r) → TurnsBy size place next (did.Refused r) vals (Break a)
  unfolding after effect_by turn_by DoneMarked end_mark TurnCounted
  turn-stops r a e =
      record {
        turned = λ s words l. ap (λ (b : Typed). done (record { answer = b.answer; words = words })) e;
        counted = tt;
        marked = λ words. marks-own false a (Refused r) e;
      }

-- the turn at what stands at a place
module _ (profile : ℕ) (s : List ℕ) (at size : ℕ) (l : length s ≡ size) (st : State) (d : Did) (r : Turn) (vals w : List ℕ) where
  turned : (x : Placed) → x.at ≡ at_place at → Does (effect_of profile at st s x.item) d vals w → TurnsBy size at x.next.0 d vals r
      → Turns (turn_of profile s x st) (end_mark (effect_of profile at st s x.item)) x.next.0 r vals w
  unfolding turn_of
  turned x o k t = rw o (record { turned = t.turned s w l ∙ ap (after s at x.next.0) k.effect; counted = t.counted; marked = subst (λ (e : Effect). DoneMarked (end_mark e) r) k.effect (t.marked w) })

  pub turn_at : (x : Placed) → x ≡ item_at s at → Does (effect_of profile at st s x.item) d vals w → TurnsBy size at x.next.0 d vals r
      → Turns (turn_of profile s (item_at s at) st) (end_mark (effect_of profile at st s (item_at s at).item)) (item_at s at).next.0 r vals w
  turn_at x e k t = subst (λ (y : Placed). Turns (turn_of profile s y st) (end_mark (effect_of profile at st s y.item)) y.next.0 r vals w) e (turned x (ap (λ (y : Placed). y.at) e ∙ own-place s at) k t)

-- the memo after the turn is the one after the step
module _ (size place next : ℕ) (vals memo w : List ℕ) where
  impossible : {P : Type 0} → ◌≡◌ {A = ℕ} 0 1 → P
  impossible e = absurd (omega arith)

  pub after_turn : (s : List ℕ) → length s ≡ size → (d : Did) (r : Turn) → TurnsBy size place next d vals r → AfterStep d memo w → AfterTurn r memo w
  unfolding AfterStep AfterTurn after effect_by turn_by
  after_turn s l d (Break a) t m = tt
  after_turn s l (did.Went c u) (Continue x) t m =
      let q : more (state_of x.count vals x.used w) ≡ more (state_of c vals u w) = t.turned s w l in
      let z : ◌≡◌ {A = State} (state_of x.count vals x.used w) (state_of c vals u w) = cc in
      rw (ap (λ (y : State). y.used) z) m
  after_turn s l (did.Silent c u) (Continue x) t m = let q = t.turned s w l in impossible (cc)
  after_turn s l (did.Ended c u) (Continue x) t m = let q = t.turned s w l in impossible (cc)
  after_turn s l (did.Refused r) (Continue x) t m = let q = t.turned s w l in impossible (cc)
