-- Quick items: what they ask, and the stack after them. Assumes nothing.
use Prim.Native.Nat.{ℕ, ◌+◌, ◌-◌, ◌<◌, ◌≤◌}
use mathlib.Core.Path.{◌≡◌, sym, ◌∙◌, ap}
use mathlib.Core.Bool.{Bool}
use mathlib.Core.List.{List}
use native.Mathlib.Omega.{arith}
use lib.ListN.{set}
use Rattle.std.proofs.Common.{Option, Some, None}
use Rattle.answer.specs.declared.TypeNo.{TypeNo}
use Rattle.frame.specs.Frame.{marked, is_item, item_at}
use Rattle.frame.specs.inner.Items.{short_of, item_of}
use Rattle.frame.specs.declared.ShortItem.{ShortItem}
use Rattle.frame.specs.declared.ShortItem.TheVariants as brief
use Rattle.frame.specs.declared.Short.{Short}
use Rattle.frame.proofs.Reading.{short-item}
use Rattle.frame.specs.declared.Item.TheVariants.{Call}
use Rattle.frame.specs.declared.Part.{Part}
use Rattle.frame.specs.declared.Placed.{Placed}
use Rattle.frame.proofs.FrameLaws.{Framed, framed}
use Rattle.held.specs.Held.{value_of}
use Rattle.step.specs.Effect.{most, effect_of}
use Rattle.step.specs.inner.Code.{state_of, Ready, effect_by}
use Rattle.step.proofs.Effects.{push-does}
use Rattle.memo.specs.declared.key.Ask.{Ask}
use Rattle.memo.specs.declared.key.Key.{Key}
use Rattle.memo.specs.inner.Memo.{Recalls, Recalled}
use Rattle.memo.specs.inner.Asking.{Asks, AsksEver, KeyedBy}
use Rattle.memo.specs.inner.Quick.{AnswersBy, Answers, QuickBy, Quick, QuickEver, WentIn, WentAt}
use Rattle.memo.proofs.Asking.{keyed-in, recalled-does}

-- THE STACK AFTER A QUICK ITEM

module _ (count : ℕ) (vals : List ℕ) (used : ℕ) (w : List ℕ) (ready : Ready count vals used w) where
  pub quick-push : (t : TypeNo) (running : Bool) (v : ℕ) → v ≡ value_of t.0 running → t.0 < used → count < most
      → QuickEver (brief.Push t running) count vals used w (Some (count + 1)) (set vals count v)
  unfolding effect_of item_of effect_by
  quick-push t running v e h f keeps =
      record { some = omega arith; high = omega arith; effect = λ profile at s _. sym (push-does (record { 0 = at }) count vals used w ready t.0 running v e h f).effect }

  pub recalled-answers : (memo : List ℕ) → Recalls memo w used → (keeps : Bool) (a : Ask) (key : Key) → KeyedBy a keeps count vals key → (t : TypeNo) (v : ℕ)
      → Recalled memo key.number (Some t) → v ≡ value_of t.0 key.running → AnswersBy keeps a count vals used w (key.base + 1) (set vals key.base v)
  unfolding effect_by
  recalled-answers memo r keeps a key k t v f y =
      record {
        some = omega arith;
        high = let b = key.within in omega arith;
        effect = λ profile at s i asked z. sym (recalled-does profile count vals used w ready s i a key asked (keyed-in a keeps (marked s) count vals key (sym z) k) memo r t f v y at).effect;
      }

-- and so went every item that asks
module _ (keeps : Bool) (a : Ask) (count : ℕ) (vals : List ℕ) (used : ℕ) (w : List ℕ) (r : ℕ) (after : List ℕ) (q : AnswersBy keeps a count vals used w r after) where
  quick-asked : (x : ShortItem) → AsksEver (item_of x) (Some a) → QuickBy keeps x count vals used w r after
  quick-asked x h = record { some = q.some; high = q.high; effect = λ profile at s z. q.effect profile at s (item_of x) (h profile s) z }

  -- a call that stands at a place
  module _ (profile : ℕ) (s : List ℕ) (at n : ℕ) (name : Part) (x : Placed) (h : x ≡ item_at s at) (e : x.item ≡ Call n name) where
    call-framed : Framed s at (item_at s at).item (item_at s at).next.0
    call-framed = framed s at (ap is_item (ap (λ (y : Placed). y.item) (sym h) ∙ e))

    pub call-after : at ≤ x.next.0
    call-after = let f = call-framed.after in let i : x.next.0 ≡ (item_at s at).next.0 = ap (λ (y : Placed). y.next.0) h in omega arith

    pub call-there : Asks profile s (Call n name) (Some a) → marked s ≡ keeps → WentIn profile s at count vals used w (record { count = r; bytes = x.next.0 - at }) after
    call-there asked z =
        let f = call-framed in
        let l = f.after in
        let m = f.within in
        let i : x.next.0 ≡ (item_at s at).next.0 = ap (λ (y : Placed). y.next.0) h in
        record {
          some = q.some;
          high = q.high;
          within = omega arith;
          next = omega arith;
          effect = ap (effect_of profile at (state_of count vals used w) s) (ap (λ (y : Placed). y.item) (sym h) ∙ e) ∙ q.effect profile at s (Call n name) asked z;
        }

-- or nothing was done
pub quick-answered : (keeps : Bool) (a : Ask) (count : ℕ) (vals : List ℕ) (used : ℕ) (w : List ℕ) (o : Option ℕ) (after : List ℕ) (x : ShortItem) → AsksEver (item_of x) (Some a)
    → Answers keeps a count vals used w o after → Quick keeps x count vals used w o after
quick-answered keeps a count vals used w None after x h q = q
quick-answered keeps a count vals used w (Some r) after x h q = quick-asked keeps a count vals used w r after q x h

-- what went is the item at the place
pub quick-there : (s : List ℕ) (at : ℕ) (keeps : Bool) → marked s ≡ keeps → (x : Short) (count : ℕ) (vals : List ℕ) (used : ℕ) (w : List ℕ) (r : ℕ) (after : List ℕ)
    → Some x ≡ short_of (item_at s at) → QuickBy keeps x.item count vals used w r after → WentAt s at count vals used w (record { count = r; bytes = x.bytes }) after
quick-there s at keeps z x count vals used w r after h q =
    let e = short-item s at x h in
    λ profile. record {
      some = q.some;
      high = q.high;
      within = e.0;
      next = e.1;
      effect = ap (effect_of profile at (state_of count vals used w) s) e.2 ∙ q.effect profile at s z;
    }
