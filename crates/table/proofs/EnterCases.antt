-- The cases of entering one entry and two, by which the code goes: found, no room, new. Assumes nothing.
use Prim.Native.Nat.{ℕ, ◌+◌, ◌-◌, ◌*◌, ◌/◌, ◌≤◌, ◌<◌}
use mathlib.Core.Path.{◌≡◌, refl, ap}
use mathlib.Core.Bool.{Bool, true, false, ◌&&◌, cond}
use mathlib.Core.List.{List}
use native.Mathlib.Omega.{arith}
use lib.ListN.{length}
use lib.Dec.{leb, ltb, eqb}
use borrow.Author.Tests.{le-leb, lt-leb, leb-true, leb-false, ltb-true, eqb-true}
use Rattle.table.specs.Table.{stride, scalars, ceiling, entry_at, put_entry, Key, scalar_ok, made_ok, entry_ok, find_in, soundb, allowedb, Sound}
use Rattle.table.specs.Enter.{free, missing, entered, enter_words, EnterDone, container, outer_over, missing_two, entered_two, enter_two_words, EnterTwoDone, entry_answer, enter_type_reply, enter_type_words}
use Rattle.table.specs.Placing.{enter_type, Gave}
use Rattle.answer.specs.Answer.{refuse}
use Rattle.answer.specs.declared.Reason.TheVariants.{Unsound, Template}
use Rattle.table.specs.declared.Entry.{Entry}
use Rattle.answer.specs.declared.TypeNo.{TypeNo}
use Rattle.std.specs.Prelude.{Some, None, Result}
use Rattle.table.specs.declared.Entered.{Entered}
use Rattle.table.specs.declared.Lacks.{Lacks}
use Rattle.table.specs.Enter.{there, lacks}
use Rattle.table.proofs.TableLaws.{elem_of}
use Rattle.table.proofs.SoundLaws.{and_left, and_right, find-miss}
use Rattle.table.proofs.Giving.{gave}

-- equal replies of entering say the same
pub there_same : {t u : TypeNo} {m k : ℕ} → there t m ≡ there u k → (t ≡ u) × (m ≡ k)
there_same {t} {u} {m} {k} h =
    let e : ◌≡◌ {A = Entered} (record { ty = t; used = m }) (record { ty = u; used = k }) = cc in
    (ap (λ (x : Entered). x.ty) e, ap (λ (x : Entered). x.used) e)

pub lacks_same : {k j : ℕ} → lacks k ≡ lacks j → k ≡ j
lacks_same {k} {j} h =
    let e : ◌≡◌ {A = Lacks} (record { 0 = k }) (record { 0 = j }) = cc in
    ap (λ (x : Lacks). x.0) e

-- room for k entries more is room under the ceiling and in the slice
pub free-room : (w : List ℕ) (n k : ℕ) → 1 ≤ k → k ≤ free w n → (n + k ≤ ceiling) × ((n + k) * stride ≤ length w)
unfolding free
free-room w n k one h = go (leb ceiling (length w / stride)) refl h
  where
    go : (b : Bool) → leb ceiling (length w / stride) ≡ b → k ≤ cond b ceiling (length w / stride) - n → (n + k ≤ ceiling) × ((n + k) * stride ≤ length w)
    go true t h = let l : ceiling ≤ length w / stride = leb-true _ _ t in (omega arith, omega arith)
    go false t h = let l : length w / stride < ceiling = leb-false _ _ t in (omega arith, omega arith)

module _ (w : List ℕ) (n : ℕ) (e : Entry) where
  pub missing_at : (t : TypeNo) → find_in w n e ≡ Some t → missing w n e ≡ 0
  unfolding missing
  missing_at t h = rw h

  pub missing-none : find_in w n e ≡ None → missing w n e ≡ 1
  unfolding missing
  missing-none h = rw h

  -- the three ways of entering one entry
  pub enter-found : (t : TypeNo) → find_in w n e ≡ Some t → EnterDone w n e (there t n) w
  unfolding entered enter_words
  enter-found t h =
      let m = missing_at t h in
      let z : n ≡ n + 0 = omega arith in
      let k = le-leb 0 (free w n) (omega arith) in
      record { reply = rw (m, k, h) (ap (there t) z); words = rw (m, k, h) }

  pub enter-full : find_in w n e ≡ None → free w n < 1 → EnterDone w n e (lacks (1 - free w n)) w
  unfolding entered enter_words
  enter-full h f =
      let m = missing-none h in
      let k = lt-leb 1 (free w n) f in
      record { reply = rw (m, k); words = rw (m, k) }

  pub enter-new : find_in w n e ≡ None → 1 ≤ free w n → EnterDone w n e (there (record { 0 = n }) (n + 1)) (put_entry w n e)
  unfolding entered enter_words
  enter-new h f =
      let m = missing-none h in
      let k = le-leb 1 (free w n) f in
      record { reply = rw (m, k, h); words = rw (m, k, h) }

-- the elem of entry i is below every number from i on that is no scalar's
pub elem_below : (w : List ℕ) (n : ℕ) → Sound w n → (i : ℕ) → i < n → (k : ℕ) → scalars ≤ k → i ≤ k → elem_of w i < k
unfolding entry_ok made_ok
elem_below w n s i l k low up = go (ltb i scalars) refl (s.rows i l)
  where
    go : (b : Bool) → ltb i scalars ≡ b → cond b (scalar_ok i (entry_at w i)) (made_ok w i (entry_at w i)) ≡ true → elem_of w i < k
    go true t h =
        let e = entry_at w i in
        let z : elem_of w i ≡ 0 = eqb-true _ _ (and_right (eqb e.kind i && eqb e.p 0 && eqb e.q 0) _ h) in
        omega arith
    go false t h =
        let z : elem_of w i < i = ltb-true _ _ (and_left _ _ h) in
        omega arith

-- the next number has no container: an absent element means an absent container
pub outer-absent : (w : List ℕ) (n : ℕ) → Sound w n → (k : ℕ) → scalars ≤ k → n ≤ k + 1 → (outer : Entry) → find_in w n (container outer k) ≡ None
outer-absent w n s k low up outer =
    find-miss w (container outer k) n
    (λ i l q.
    let m : elem_of w i ≡ k = ap (λ (x : Key). x.elem) q in
    let b = elem_below w n s i l k low (omega arith) in
    omega arith)

module _ (w : List ℕ) (n : ℕ) (inner outer : Entry) where
  -- an element that stands already: its container is entered alone
  pub two-found : (t : TypeNo) → find_in w n inner ≡ Some t → (r : Result Entered Lacks) (v : List ℕ) → EnterDone w n (container outer t.0) r v → EnterTwoDone w n inner outer r v
  unfolding entered_two enter_two_words missing_two outer_over entered enter_words
  two-found t h r v d =
      let m = missing_at w n inner t h in
      let x = missing w n (container outer t.0) in
      let z : 0 + x ≡ x = omega arith in
      let y : n + 0 ≡ n = omega arith in
      record { reply = rw (m, h, z, y) d.reply; words = rw (m, h, z, y) d.words }

  module _ (s : Sound w n) (h : find_in w n inner ≡ None) where
    over-next : outer_over w n inner outer ≡ container outer n
    unfolding outer_over
    over-next = rw h

    pub missing-both : missing_two w n inner outer ≡ 2
    unfolding missing_two
    missing-both = rw (over-next, missing-none w n inner h, missing-none w n (container outer n) (outer-absent w n s n s.low (omega arith) outer))

    pub two-full : free w n < 2 → EnterTwoDone w n inner outer (lacks (2 - free w n)) w
    unfolding entered_two enter_two_words
    two-full f =
        let k = lt-leb 2 (free w n) f in
        record { reply = rw (missing-both, k); words = rw (missing-both, k) }

    pub two-new : 2 ≤ free w n →
        EnterTwoDone w n inner outer (there (record { 0 = n + 1 }) (n + 2)) (put_entry (put_entry w n inner) (n + 1) (container outer n))
    unfolding entered_two enter_two_words
    two-new f =
        let k = le-leb 2 (free w n) f in
        let m = missing-none w n inner h in
        let o = outer-absent w n s n s.low (omega arith) outer in
        record { reply = rw (missing-both, k, over-next, m, o); words = rw (missing-both, k, over-next, m, o, h) }

-- the three answers to a host
module _ (w : List ℕ) (n : ℕ) (e : Entry) where
  pub host-unsound : soundb w n ≡ false → Gave (enter_type w n e) (refuse Unsound 0 n) w
  unfolding enter_type_reply enter_type_words
  host-unsound h = gave (rw h) (rw h)

  module _ (h : soundb w n ≡ true) where
    pub host-forbidden : allowedb w n e ≡ false → Gave (enter_type w n e) (refuse Template 0 n) w
    unfolding enter_type_reply enter_type_words
    host-forbidden k = gave (rw (h, k)) (rw (h, k))

    pub host-entered : allowedb w n e ≡ true → (r : Result Entered Lacks) (v : List ℕ) → EnterDone w n e r v → Gave (enter_type w n e) (entry_answer 0 r n) v
    unfolding enter_type_reply enter_type_words
    host-entered k r v d = gave (rw (h, k, ← d.reply)) (rw (h, k) d.words)
