-- Items that ask: what the memo has for one is what typing gives, and what typing gave for one may be noted. Assumes nothing.
use Prim.Native.Nat.{ℕ, ◌+◌, ◌-◌, ◌<◌, ◌≤◌}
use mathlib.Core.Path.{◌≡◌, refl, sym, ◌∙◌, ap, subst}
use mathlib.Core.Bool.{Bool, true, false, not, ◌&&◌, ◌||◌}
use mathlib.Core.List.{List, [], ◌∷◌}
use Rattle.std.proofs.Common.{Option, Some, None}
use native.Mathlib.Omega.{arith}
use lib.ListN.{length, get_or, take, drop, set, length-drop, length-append, length-map}
use lib.Seq.{length-take-le, get_or-take, get_or-drop}
use borrow.Author.Tests.{lt-leb, le-leb}
use Rattle.answer.specs.Answer.{accept}
use Rattle.answer.specs.declared.TypeNo.{TypeNo}
use Rattle.answer.specs.declared.Answer.{Answer}
use Rattle.answer.specs.declared.Answer.TheVariants.{Value, NoValue, Refused}
use Rattle.table.specs.Denote.{type_at}
use Rattle.table.specs.Placing.{Outcome, Gave}
use Rattle.table.proofs.PlacingLaws.{standing-outcome}
use Rattle.table.proofs.Giving.{gave-whole}
use Rattle.names.specs.Names.{Named, rule_of}
use Rattle.names.specs.Names.Named.{rule}
use Rattle.names.specs.inner.Table.{numbered, rule_at, replied, StandsAt}
use Rattle.names.specs.declared.NamedRule.{NamedRule}
use Rattle.names.proofs.Found.{stands-rule}
use Rattle.names.proofs.Rules.{said-rule}
use Rattle.conv.specs.Types.{bool}
use Rattle.conv.specs.Types.Ty.{scalar}
use Rattle.held.specs.Held.{number_of, value_of}
use Rattle.held.proofs.OneReply.{held}
use Rattle.overload.specs.Overload.{or}
use Rattle.overload.specs.Marks.{any_running}
use Rattle.call_ty.specs.Calls.{by_rule, runs_by, numbers, marks_of, types}
use Rattle.frame.specs.Frame.{marked}
use Rattle.call_ty.specs.inner.Codes.{Under}
use Rattle.call_ty.proofs.Lists.{type-in, number_at}
use Rattle.ops_ty.specs.Ops.{unary_ops, binary_ops}
use Rattle.frame.specs.declared.Part.{Part}
use Rattle.frame.specs.declared.Item.{Item}
use Rattle.frame.specs.declared.Item.TheVariants.{Unary, Binary, Call}
use Rattle.step.specs.declared.Did.{Did}
use Rattle.step.specs.declared.Did.TheVariants as did
use Rattle.step.specs.Effect.{most, State, height, operands, below, goes, silent, stops, pushed, onto, bytes_of, unary_effect, binary_effect, call_effect, effect_of}
use Rattle.step.specs.inner.Code.{state_of, Ready, effect_by, Counted, Does}
use Rattle.step.specs.Kept.{Grew}
use Rattle.step.proofs.StackLaws.{sized, below-them, operands-lent, value_in, under_drop, under-values, mark-at}
use Rattle.step.proofs.Effects.{settled, settle_value, value-below}
use Rattle.step.proofs.Keeping.{item-kept}
use Rattle.memo.specs.inner.Memo.{Question, code_of, On, typed, digits, numbers_in, marks_in, key_of, slot_of, Holds, Recalls, Recalled, Leaves, NotedStep, AfterStep}
use Rattle.memo.specs.inner.Memo.Question.{binary, unary, builtin}
use Rattle.memo.specs.declared.key.Ask.{Ask}
use Rattle.memo.specs.declared.key.Key.{Key}
use Rattle.memo.specs.inner.Asking.{Small, runs_on, AskedBy, last_of, KeyedBy, Keyed, ItemKeyed}
use Rattle.memo.proofs.MemoLaws.{value-noted, recalls-on, recalls-noted, digits-many, digits-small, digits-numbers, digits-marks}

impossible : {P : Type 0} → ◌≡◌ {A = ℕ} 0 1 → P
impossible e = absurd (omega arith)

-- what an item that did not go left is not noted
pub unnoted : (memo vals : List ℕ) (key : ℕ) (d : Did) → ((c u : ℕ) → d ≡ did.Went c u → ⊥) → NotedStep memo key d vals memo
unfolding NotedStep
unnoted memo vals key (did.Went c u) h = absurd (h c u refl)
unnoted memo vals key (did.Silent c u) h = refl
unnoted memo vals key (did.Ended c u) h = refl
unnoted memo vals key (did.Refused r) h = refl

-- neither of two tests holds
pub neither : (a b : Bool) → (a || b) ≡ false → (a ≡ false) × (b ≡ false)
neither true b h = impossible (cc)
neither false b h = (refl, h)

-- a test that does not fail holds
pub not-false : (b : Bool) → not b ≡ false → b ≡ true
not-false true h = refl
not-false false h = impossible (cc)

pub ready-small : (count : ℕ) (vals : List ℕ) (used : ℕ) (w : List ℕ) → Ready count vals used w → Small count vals
ready-small count vals used w ready =
    record {
      fits = omega (arith, ready.size, ready.fits);
      size = ready.size;
      bytes = λ i h. let u = value-below (record { 0 = 0 }) count vals used w ready i h in let k = ready.good.sound.high in omega arith;
    }

-- a key as a sheet asks for it that keeps marks, or keeps none
pub keyed-in : (a : Ask) (keeps b : Bool) (count : ℕ) (vals : List ℕ) (key : Key) → keeps ≡ b → KeyedBy a keeps count vals key → KeyedBy a b count vals key
keyed-in a keeps b count vals key e = subst (λ (x : Bool). KeyedBy a x count vals key) e

-- the key of what an item asks
pub item-keyed : (profile : ℕ) (s : List ℕ) (i : Item) (count : ℕ) (vals : List ℕ) (a : Ask) → AskedBy profile s i a.code a.operands a.runs → (keeps : Bool) → keeps ≡ marked s → (o : Option Key)
    → Keyed a keeps count vals o → ItemKeyed profile s i count vals o
item-keyed profile s i count vals a q keeps e None k = tt
item-keyed profile s i count vals a q keeps e (Some key) k = record { ask = a; asks = q; keyed = keyed-in a keeps (marked s) count vals key e k }

-- the mark, test by test
module _ (keeps runs : Bool) (vs : List ℕ) where
  pub unkept : not keeps ≡ true → false ≡ runs_on keeps runs vs
  unkept h = go keeps h
    where
      go : (b : Bool) → not b ≡ true → false ≡ runs_on b runs vs
      go true e = impossible (cc)
      go false e = refl

  pub kept : not keeps ≡ false → (r : Bool) → r ≡ any_running (marks_of vs) → (runs || r) ≡ runs_on keeps runs vs
  unfolding or
  kept h r e = go keeps runs h
    where
      go : (b c : Bool) → not b ≡ false → (c || r) ≡ runs_on b c vs
      go true true k = refl
      go true false k = e
      go false c k = impossible (cc)

-- WHICH ITEM ASKS WHAT

-- the operands that the stack has
many : (st : State) (k : ℕ) → k ≤ height st → length (operands k st) ≡ k
many st k h = length-drop (height st - k) st.stack ∙ (let z : height st - (height st - k) ≡ k = omega arith in z)

-- the type of a value
type-value : (w vs : List ℕ) (i : ℕ) → i < length vs → get_or (types w (numbers vs)) i (scalar bool) ≡ type_at w (number_of (get_or vs i 0))
type-value w vs i l = type-in w (numbers vs) i (omega (arith, length-map vs number_of)) ∙ ap (type_at w) (number_at vs i)

pub binary-asks : (profile : ℕ) (s : List ℕ) (op : ℕ) → op < binary_ops → AskedBy profile s (Binary op) (op + 1) 2 false
unfolding effect_of binary_effect or
binary-asks profile s op h =
    record {
      question = binary op;
      on = (h, refl);
      number = refl;
      effect = λ place st l _.
          let n = many st 2 l in
          rw (le-leb 2 (height st) l, type-value st.words (operands 2 st) 0 (omega arith), type-value st.words (operands 2 st) 1 (omega arith), mark-at (operands 2 st) 0, mark-at (operands 2 st) 1);
    }

pub unary-asks : (profile : ℕ) (s : List ℕ) (op : ℕ) → op < unary_ops → AskedBy profile s (Unary op) (op + 19) 1 false
unfolding effect_of unary_effect or
unary-asks profile s op h =
    record {
      question = unary op;
      on = (h, refl);
      number = refl;
      effect = λ place st l _.
          let n = many st 1 l in
          rw (le-leb 1 (height st) l, type-value st.words (operands 1 st) 0 (omega arith), mark-at (operands 1 st) 0);
    }

pub call_asks : (profile : ℕ) (s : List ℕ) (name : Part) (k number : ℕ) (runs : Bool) → 1 ≤ k → k ≤ 3 → number < 128 → rule_of profile (bytes_of s name) ≡ rule (numbered number) runs
    → AskedBy profile s (Call k name) (number + 24) k runs
unfolding effect_of call_effect by_rule runs_by
call_asks profile s name k number runs l m h e =
    record {
      question = builtin number;
      on = (h, l, m);
      number = refl;
      effect = λ place st g u.
          rw (le-leb k (height st) g, lt-leb most (height st - k) (omega arith))
          (ap (λ (r : Named). onto (below k st) (marked s && runs_by r (marks_of (operands k st)))
          (by_rule place st.words st.used r [] (types st.words (numbers (operands k st))) (marks_of (operands k st)))) e);
    }

-- a row asks by its rule, which is that of every name that stands there, with the code and the count as they were made
pub row-asked : (profile row k : ℕ) (n : NamedRule) (code j : ℕ) → 1 ≤ k → k ≤ 3 → n.rule < 128 → replied (rule_at profile row) ≡ Some n → code ≡ 24 + n.rule → j ≡ k
    → (s : List ℕ) (name : Part) → StandsAt (bytes_of s name) (Some row) → AskedBy profile s (Call k name) code j n.running
row-asked profile row k n code j l m h e c d s name stands =
    let z : code ≡ n.rule + 24 = omega arith in
    rw (z, d)
    (call_asks profile s name k n.rule n.running l m h
    (said-rule profile (bytes_of s name) n (ap replied (sym (stands-rule profile (bytes_of s name) row stands)) ∙ e)))

-- THE LAST VALUES of a slice

module _ (k count : ℕ) (vals : List ℕ) (small : Small count vals) (h : k ≤ count) where
  pub last-many : length (last_of k count vals) ≡ k
  last-many =
      length-take-le (count - (count - k)) (drop (count - k) vals) (omega (arith, length-drop (count - k) vals, small.fits))
      ∙ (let z : count - (count - k) ≡ k = omega arith in z)

  pub last-bytes : Under 256 (numbers (last_of k count vals))
  last-bytes =
      under-values 256 (last_of k count vals)
      (λ i l.
      let n : i < k = omega (arith, last-many, l) in
      rw (get_or-take (count - (count - k)) (drop (count - k) vals) i 0 (omega arith), get_or-drop (count - k) vals i 0) (small.bytes (count - k + i) (omega arith)))

-- AN ITEM THAT ASKS, on the last values of a slice

last-pushed : (vs : List ℕ) (t : ℕ) (m : Bool) → get_or (pushed vs t m) (length vs) 0 ≡ value_of t m
last-pushed [] t m = refl
last-pushed (x ∷ vs) t m = last-pushed vs t m

onto-went : (vs : List ℕ) (b : Bool) (o : Outcome) (st : State) → onto vs b o ≡ goes st
    → (t : TypeNo) × (o.answer ≡ Value t st.used) × (o.words ≡ st.words) × (st.stack ≡ pushed vs t.0 b)
unfolding onto
onto-went vs b o st h = go o.answer refl
  where
    go : (a : Answer) → o.answer ≡ a → (t : TypeNo) × (o.answer ≡ Value t st.used) × (o.words ≡ st.words) × (st.stack ≡ pushed vs t.0 b)
    go (Value t m) e =
        let q : goes (record { stack = pushed vs t.0 b; used = m; words = o.words }) ≡ goes st = rw e at h in
        let z : record { stack = pushed vs t.0 b; used = m; words = o.words } ≡ st = cc in
        (t, e ∙ ap (Value t) (ap (λ (x : State). x.used) z), ap (λ (x : State). x.words) z, sym (ap (λ (x : State). x.stack) z))
    go (NoValue m) e =
        let q : silent (record { stack = vs; used = m; words = o.words }) ≡ goes st = rw e at h in
        impossible (cc)
    go (Refused r) e =
        let q : stops r o.words ≡ goes st = rw e at h in
        impossible (cc)

module _ (profile count : ℕ) (vals : List ℕ) (used : ℕ) (w : List ℕ) (ready : Ready count vals used w) (s : List ℕ) (i : Item) where
  abbrev st : State
  st = state_of count vals used w

  -- the memo after an item that did not touch it
  pub recalls-step : (place : ℕ) (d : Did) (vals' v memo : List ℕ) → Does (effect_of profile place st s i) d vals' v → Recalls memo w used → AfterStep d memo v
  unfolding AfterStep effect_by
  recalls-step place (did.Went c u) vals' v memo h r = let k = rw (← h.effect) at (item-kept place st ready.good profile s i) in recalls-on w used v u k.1 memo r
  recalls-step place (did.Silent c u) vals' v memo h r = tt
  recalls-step place (did.Ended c u) vals' v memo h r = tt
  recalls-step place (did.Refused x) vals' v memo h r = tt

  module _ (a : Ask) (key : Key) (asked : AskedBy profile s i a.code a.operands a.runs) (keyed : KeyedBy a (marked s) count vals key) where
    abbrev k : ℕ
    k = a.operands

    fits : count ≤ length vals
    fits = omega (arith, ready.size, ready.fits)

    enough : k ≤ height st
    enough = let e = keyed.enough in omega (arith, sized count vals fits)

    abbrev q : Question
    q = asked.question

    abbrev vs : List ℕ
    vs = operands k st

    abbrev ds : List ℕ
    ds = digits vs

    on : On q (length ds)
    on = subst (On q) (sym (digits-many vs ∙ many st k enough)) asked.on

    under : Under used (numbers vs)
    under = under_drop used (height st - k) st.stack ready.good.under

    bytes : Under 256 (numbers vs)
    bytes j h = let x = under j h in let b = ready.good.sound.high in omega arith

    under-digits : Under used (numbers_in ds)
    under-digits = rw (digits-numbers vs bytes) under

    is : key.number ≡ key_of (code_of q) ds
    is = keyed.is ∙ ap (λ (l : List ℕ). key_of a.code (digits l)) (sym (operands-lent count vals fits k keyed.enough)) ∙ ap (λ (c : ℕ). key_of c ds) asked.number

    mark : key.running ≡ runs_on (marked s) a.runs vs
    mark = keyed.mark ∙ ap (runs_on (marked s) a.runs) (sym (operands-lent count vals fits k keyed.enough))

    abbrev typing : ℕ → Outcome
    typing place = typed place w used q (types w (numbers_in ds)) (marks_in ds)

    effect : (place : ℕ) → effect_of profile place st s i ≡ onto (take (count - k) vals) key.running (typing place)
    effect place =
        let b = take (count - k) vals in
        asked.effect place st enough ready.good.high
        ∙ ap (λ (l : List ℕ). onto l (runs_on (marked s) a.runs vs) (typed place w used q (types w (numbers vs)) (marks_of vs))) (below-them count vals fits k)
        ∙ ap (λ (m : Bool). onto b m (typed place w used q (types w (numbers vs)) (marks_of vs))) (sym mark)
        ∙ ap (λ (l : List ℕ). onto b key.running (typed place w used q (types w l) (marks_of vs))) (sym (digits-numbers vs bytes))
        ∙ ap (λ (l : List Bool). onto b key.running (typed place w used q (types w (numbers_in ds)) l)) (sym (digits-marks vs bytes))

    room : key.base < length vals
    room = let b = key.within in omega (arith, ready.size)

    -- a type that was recalled is the one that typing gives
    pub recalled-does : (memo : List ℕ) → Recalls memo w used → (t : TypeNo) → Recalled memo key.number (Some t) → (v : ℕ) → v ≡ value_of t.0 key.running → (place : ℕ)
        → Does (effect_of profile place st s i) (did.Went (key.base + 1) used) (set vals key.base v) w
    recalled-does memo r t z v y place =
        let x = (r.holds z.1.0 z.1.1).holds q ds t.0 on (digits-small vs bytes) z.0 (z.1.2 ∙ ap (λ (y : ℕ). slot_of y t.0) is) in
        let o = x.2 place w used ∙ standing-outcome place w used ready.good.sound t.0 (type_at w t.0) x.1 refl in
        let g : Gave (typing place) (accept t.0 used) w = gave-whole (sym o) in
        let d = settled (settle_value key.base vals key.running t used v y room key.within) g in
        record { effect = d.effect ∙ ap (λ (b : ℕ). onto (take b vals) key.running (typing place)) keyed.start ∙ sym (effect place); counted = d.counted }

    -- what it left may be noted
    noting : (place c u : ℕ) (vals' v : List ℕ) → c ≤ length vals' → effect_of profile place st s i ≡ goes (state_of c vals' u v)
        → (1 ≤ c) × (number_of (get_or vals' (c - 1) 0) < 256) × Grew w used v u × Holds v u (slot_of key.number (number_of (get_or vals' (c - 1) 0)))
    noting place c u vals' v l h =
        let b = take (count - k) vals in
        let x = onto-went b key.running (typing place) (state_of c vals' u v) (sym (effect place) ∙ h) in
        let t = x.0 in
        let y = value-noted place w used ready.good.sound t u q ds on (digits-small vs bytes) under-digits v x.1 x.2 in
        let n : c ≡ length b + 1 = sym (sized c vals' l) ∙ ap length x.3 ∙ length-append b (value_of t.0 key.running ∷ []) in
        let j : c - 1 ≡ length b = omega arith in
        let f : get_or vals' (c - 1) 0 ≡ value_of t.0 key.running = sym (value_in c vals' l (c - 1) (omega arith)) ∙ ap (λ (y : List ℕ). get_or y (c - 1) 0) x.3
        ∙ ap (λ (m : ℕ). get_or (pushed b t.0 key.running) m 0) j ∙ last-pushed b t.0 key.running in
        let e : number_of (get_or vals' (c - 1) 0) ≡ t.0 = ap number_of f ∙ held t.0 key.running (let n = y.0 in omega arith) in (
          omega arith,
          rw e y.0,
          y.1,
          subst (λ (z : ℕ). Holds v u (slot_of z (number_of (get_or vals' (c - 1) 0)))) (sym is) (subst (λ (z : ℕ). Holds v u (slot_of (key_of (code_of q) ds) z)) (sym e) y.2),
        )

    module _ (place : ℕ) (vals' v : List ℕ) (size : length vals' ≡ most) where
      went : (c u : ℕ) → Does (effect_of profile place st s i) (did.Went c u) vals' v
          → (c ≤ length vals') × ((1 ≤ c) × (number_of (get_or vals' (c - 1) 0) < 256) × Grew w used v u × Holds v u (slot_of key.number (number_of (get_or vals' (c - 1) 0))))
      unfolding effect_by Counted
      went c u h =
          let m : c ≤ most = h.counted in
          let l : c ≤ length vals' = omega (arith, size) in
          (l, noting place c u vals' v l (sym h.effect))

      pub step-leaves : (d : Did) → Does (effect_of profile place st s i) d vals' v → Leaves d vals'
      unfolding Leaves
      step-leaves (did.Went c u) h = let z = went c u h in (z.1.0, z.0, z.1.1)
      step-leaves (did.Silent c u) h = tt
      step-leaves (did.Ended c u) h = tt
      step-leaves (did.Refused x) h = tt

      pub step-noted : (memo memo' : List ℕ) → Recalls memo w used → (d : Did) → Does (effect_of profile place st s i) d vals' v → NotedStep memo key.number d vals' memo' → AfterStep d memo' v
      unfolding NotedStep AfterStep
      step-noted memo memo' r (did.Went c u) h n =
          let z = (went c u h).1 in
          recalls-noted memo v u key.number (number_of (get_or vals' (c - 1) 0)) memo' (recalls-on w used v u z.2 memo r) z.3 n
      step-noted memo memo' r (did.Silent c u) h n = tt
      step-noted memo memo' r (did.Ended c u) h n = tt
      step-noted memo memo' r (did.Refused x) h n = tt
