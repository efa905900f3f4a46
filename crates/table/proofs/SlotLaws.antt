-- The ways of the soundness test: looking along an entry's way finds what looking through all entries finds. Assumes nothing.
use Prim.Native.Nat.{ℕ, zero, suc, ◌+◌, ◌*◌, ◌/◌, ◌≤◌, ◌<◌}
use mathlib.Core.Path.{◌≡◌, refl, sym, ◌∙◌, ap, subst}
use mathlib.Core.Bool.{Bool, true, false, ◌&&◌}
use mathlib.Core.List.{List, [], ◌∷◌}
use mathlib.Core.Logic.{◌≢◌}
use native.Mathlib.Omega.{arith}
use native.Mathlib.Nat.{mul-le-mul}
use lib.ListN.{length, get_or, set, length-set}
use lib.Seq.{get_or-set_same, get_or-set_other}
use lib.Dec.{ltb, eqb}
use borrow.Author.Tests.{lt-ltb, le-ltb, ltb-true, ltb-false, eqb-true, eqb-false, ne_eqb}
use Rattle.table.specs.Tools.{all_below}
use Rattle.table.specs.Table.{scalars, ceiling, entry_at, Key, entry_key, sameb, row_ok, base_of, made_ok, entry_ok, find_in, is_nothing, good_at}
use Rattle.table.specs.inner.Slots.{scalar_at, slots, places, word_end, entry_slot, turns_of, fork, Way, Linked, Free, Based}
use Rattle.table.specs.inner.Slots.Way.{here, on}
use Rattle.table.specs.declared.Entry.{Entry}
use Rattle.std.specs.Prelude.{Option, Some, None}
use Rattle.answer.specs.declared.TypeNo.{TypeNo}
use Rattle.table.proofs.TableLaws.{elem_of, base-scalar, base_step}
use Rattle.table.proofs.SoundLaws.{and_left, and_right, and_both, all-at, all_of, sameb-true, sameb-refl, find-hit, find-miss}
use Rattle.table.proofs.KindLaws.{split, clash}

-- THE SCALARS

module _ (w : List ℕ) where
  scalar-kind : all_below (scalar_at w) scalars ≡ true → (i : ℕ) → i < scalars → (entry_at w i).kind ≡ i
  scalar-kind h i l = eqb-true (entry_at w i).kind i (and_left _ _ (and_left _ _ (and_left _ _ (all-at (scalar_at w) scalars h i l))))

  pub scalars-good : all_below (scalar_at w) scalars ≡ true → all_below (good_at w) scalars ≡ true
  unfolding entry_ok
  scalars-good h =
      all_of (good_at w) scalars
      (λ i l.
      and_both (entry_ok w i (entry_at w i)) _
      (rw (lt-ltb i scalars l) (all-at (scalar_at w) scalars h i l))
      (ap is_nothing
      (find-miss w (entry_at w i) i
      (λ j lj q.
      let a = scalar-kind h i l in
      let b = scalar-kind h j (omega arith) in
      let e : (entry_at w j).kind ≡ (entry_at w i).kind = ap (λ (k : Key). k.kind) q in
      omega arith))))

  pub scalars-bad : (n : ℕ) → scalars ≤ n → all_below (scalar_at w) scalars ≡ false → all_below (good_at w) n ≡ false
  unfolding entry_ok
  scalars-bad n l h =
      split (all_below (good_at w) n)
      (λ t. clash (all_of (scalar_at w) scalars (λ i li. rw (lt-ltb i scalars li) at (and_left (entry_ok w i (entry_at w i)) _ (all-at (good_at w) n t i (omega arith))))) h)
      (λ f. f)

-- an entry above the scalars has a kind above theirs
row-kind : (e : Entry) (ek eb : ℕ) → row_ok e ek eb ≡ true → scalars ≤ e.kind
unfolding row_ok
row-kind e ek eb h =
    split (ltb e.kind scalars)
    (λ t.
    let l : e.kind < 7 = ltb-true _ _ t in
    clash h
    (rw (ne_eqb e.kind 7 (omega arith), ne_eqb e.kind 8 (omega arith), ne_eqb e.kind 9 (omega arith), ne_eqb e.kind 10 (omega arith), ne_eqb e.kind 11 (omega arith), ne_eqb e.kind 12 (omega arith), ne_eqb e.kind 13 (omega arith), ne_eqb e.kind 14 (omega arith), ne_eqb e.kind 15 (omega arith), ne_eqb e.kind 16 (omega arith))))
    (λ f. ltb-false _ _ f)

module _ (w : List ℕ) (h : all_below (scalar_at w) scalars ≡ true) (e : Entry) where
  pub made-new : (i : ℕ) → made_ok w i e ≡ true → find_in w scalars e ≡ None
  unfolding made_ok
  made-new i m =
      let k = row-kind e _ _ (and_right (ltb e.elem i) _ m) in
      find-miss w e scalars
      (λ j lj q. let a = scalar-kind w h j lj in let b : (entry_at w j).kind ≡ e.kind = ap (λ (k : Key). k.kind) q in omega arith)

-- an entry above the scalars is good if its row holds and it is new
pub made-good : (w : List ℕ) (i : ℕ) → scalars ≤ i → (e : Entry) → e ≡ entry_at w i → (made_ok w i e && is_nothing (find_in w i e)) ≡ good_at w i
unfolding entry_ok
made-good w i l e q =
    let s : (made_ok w i e && is_nothing (find_in w i e)) ≡ (entry_ok w i e && is_nothing (find_in w i e)) = rw (le-ltb i 7 l) in
    s ∙ ap (λ (z : Entry). entry_ok w i z && is_nothing (find_in w i z)) q

pub made-below : (w : List ℕ) (i : ℕ) (e : Entry) → made_ok w i e ≡ true → e.elem < i
unfolding made_ok
made-below w i e h = ltb-true _ _ (and_left (ltb e.elem i) _ h)

-- THE WAYS

pub square : {x : ℕ} → x < word_end → x * x ≤ 4294967295 * 4294967295
square {x} l = let h : x ≤ 4294967295 = omega arith in mul-le-mul h h

pub slot-below : (e : Entry) → entry_slot e < slots
unfolding entry_slot
slot-below e = omega arith

with_key : Key → Entry
with_key k = record { kind = k.kind; p = k.p; q = k.q; elem = k.elem }

-- equal entries have one way
same_way : (links : List ℕ) (a b : Entry) (k : ℕ) → entry_key a ≡ entry_key b → Way links (entry_slot a) (turns_of a) k → Way links (entry_slot b) (turns_of b) k
unfolding with_key
same_way links a b k q v = subst (λ (x : Key). Way links (entry_slot (with_key x)) (turns_of (with_key x)) k) q v

-- every entry that has a place keeps it
abbrev Grown : List ℕ → List ℕ → Type 0
Grown links more = (place : ℕ) → 0 < get_or links place 0 → get_or more place 0 ≡ get_or links place 0

way_end : {links : List ℕ} {place turns k : ℕ} → get_or links place 0 ≡ 0 → Way links place turns k → ⊥
way_end z (here p q) = omega arith
way_end z (on p r) = omega arith

way_next : {links : List ℕ} {place turns k : ℕ} (at : ℕ) → get_or links place 0 ≡ at → k ≢ at → Way links place turns k → Way links (fork at turns) (turns / 2) k
way_next at q d (here p r) = absurd (d (sym r ∙ q))
way_next {links} {place} {turns} {k} at q d (on p r) = subst (λ x. Way links (fork x turns) (turns / 2) k) q r

way-kept : {links more : List ℕ} {place turns k : ℕ} → Grown links more → Way links place turns k → Way more place turns k
way-kept {links} {more} {place} g (here p q) = here p (g place (omega arith) ∙ q)
way-kept {links} {more} {place} {turns} {k} g (on p r) =
    let m = g place p in
    on {place = place} (omega arith) (subst (λ x. Way more (fork x turns) (turns / 2) k) (sym m) (way-kept g r))

set_grown : (links : List ℕ) (place k : ℕ) → get_or links place 0 ≡ 0 → Grown links (set links place k)
set_grown links place k z j l = get_or-set_other links place j k 0 (λ q. let m : get_or links j 0 ≡ 0 = ap (λ x. get_or links x 0) q ∙ z in omega arith)

-- looking along e's way has come to a place: e stands from there on or nowhere, and what stands from there on stands on e's way
pub record Walk (w : List ℕ) (i : ℕ) (links : List ℕ) (e : Entry) (place turns : ℕ) : Type 0 where
  pub inside : place < slots + 2 * i
  pub left : (k : ℕ) → entry_key (entry_at w k) ≡ entry_key e → Way links (entry_slot e) (turns_of e) k → Way links place turns k
  pub back : (more : List ℕ) → Grown links more → (k : ℕ) → Way more place turns k → Way more (entry_slot e) (turns_of e) k

module _ (w : List ℕ) (i : ℕ) (links : List ℕ) (e : Entry) (low : scalars ≤ i) (high : i ≤ ceiling) (s : Linked w i links) where
  pub walk_start : (place turns : ℕ) → place ≡ entry_slot e → turns ≡ turns_of e → Walk w i links e place turns
  walk_start place turns p q =
      record {
        inside = let b = slot-below e in omega arith;
        left = λ k _ v. rw (p, q) v;
        back = λ more _ k v. rw (p, q) at v;
      }

  module _ (place turns : ℕ) (walk : Walk w i links e place turns) (at : ℕ) (here-at : at ≡ get_or links place 0) where
    pub walk-hit : sameb (entry_at w at) e ≡ true → false ≡ is_nothing (find_in w i e)
    walk-hit h = go (find_in w i e) refl
      where
        go : (f : Option TypeNo) → find_in w i e ≡ f → false ≡ is_nothing f
        go (Some t) q = refl
        go None q = let m = s.low place in absurd (find-hit w e i at (omega arith) (sameb-true (entry_at w at) e h) q)

    pub walk-rise : 0 < at → place < fork at turns
    walk-rise p = let r = s.rising place (omega arith) in omega arith

    pub walk_step : 0 < at → sameb (entry_at w at) e ≡ false → Walk w i links e (fork at turns) (turns / 2)
    walk_step p h =
        record {
          inside = let m = s.low place in omega arith;
          left = λ k q v. way_next at (sym here-at) (λ z. clash (sameb-refl (entry_at w at) e (ap (λ x. entry_key (entry_at w x)) (sym z) ∙ q)) h) (walk.left k q v);
          back = λ more g k v.
              let m : get_or more place 0 ≡ at = g place (omega arith) ∙ sym here-at in
              walk.back more g k (on {place = place} (omega arith) (subst (λ x. Way more (fork x turns) (turns / 2) k) (sym m) v));
        }

    pub walk_end : at ≡ 0 → find_in w scalars e ≡ None → Free w i links e place
    walk_end z none =
        let empty : get_or links place 0 ≡ 0 = sym here-at ∙ z in
        let wide = s.wide in
        let inside = walk.inside in
        record {
          new = ap is_nothing
              (find-miss w e i
              (λ j l q.
              split (ltb j scalars)
              (λ a. find-hit w e scalars j (ltb-true _ _ a) q none)
              (λ a. way_end empty (walk.left j q (same_way links (entry_at w j) e j q (s.standing j (ltb-false _ _ a) l))))));
          below = inside;
          empty = empty;
          reached = λ k p. walk.back (set links place k) (set_grown links place k empty) k (here p (get_or-set_same links place k 0 (omega arith)));
        }

-- the next entry takes the free place on its way
pub linked-next : (w : List ℕ) (i : ℕ) → scalars ≤ i → i < ceiling → (links : List ℕ) → Linked w i links → (e : Entry) → e ≡ entry_at w i → (place : ℕ) → Free w i links e place → Linked w (i + 1) (set links place i)
linked-next w i low high links s e q place f =
    let wide = s.wide in
    let below = f.below in
    let taken : get_or (set links place i) place 0 ≡ i = get_or-set_same links place i 0 (omega arith) in
    let other : (j : ℕ) → j ≢ place → get_or (set links place i) j 0 ≡ get_or links j 0 = λ j d. get_or-set_other links place j i 0 d in
    record {
      wide = length-set links place i ∙ s.wide;
      low = λ j.
          split (eqb j place)
          (λ t. rw (eqb-true j place t, taken) (omega arith))
          (λ t. let m = other j (eqb-false j place t) in let l = s.low j in omega arith);
      rising = λ j p.
          split (eqb j place)
          (λ t. rw (eqb-true j place t, taken) (omega arith))
          (λ t. let m = other j (eqb-false j place t) in let l = s.rising j (omega arith) in omega arith);
      standing = λ k lk l.
          split (eqb k i)
          (λ t. rw (eqb-true k i t) (subst (λ (x : Entry). Way (set links place i) (entry_slot x) (turns_of x) i) q (f.reached i (omega arith))))
          (λ t. let d : k ≢ i = eqb-false k i t in way-kept (set_grown links place i f.empty) (s.standing k lk (omega arith)));
    }

-- THE INNERMOST SCALARS

pub based-next : (w : List ℕ) (i : ℕ) → scalars ≤ i → i < ceiling → (bases : List ℕ) → Based w i bases → (el : ℕ) → el ≡ elem_of w i → el < i → Based w (i + 1) (set bases i (get_or bases el 0))
based-next w i low high bases s el q l =
    let long = s.long in
    record {
      long = length-set bases i (get_or bases el 0) ∙ s.long;
      base = λ k lk.
          split (eqb k i)
          (λ t. rw (eqb-true k i t) (get_or-set_same bases i (get_or bases el 0) 0 (omega arith) ∙ s.base el l ∙ ap (base_of w) q ∙ sym (base_step w i low (omega arith))))
          (λ t. let d : k ≢ i = eqb-false k i t in get_or-set_other bases i k (get_or bases el 0) 0 d ∙ s.base k (omega arith));
    }

pub based-scalars : (w bases : List ℕ) → length bases ≡ ceiling → ((k : ℕ) → k < scalars → get_or bases k 0 ≡ k) → Based w scalars bases
based-scalars w bases h f = record { long = h; base = λ k l. f k l ∙ sym (base-scalar w k l) }

-- free places, which a test finds
unfoldable pub zeros : List ℕ → Bool
zeros [] = true
zeros (x ∷ xs) = eqb x 0 && zeros xs

pub zero-at : (l : List ℕ) → zeros l ≡ true → (i : ℕ) → get_or l i 0 ≡ 0
unfolding zeros
zero-at [] h i = refl
zero-at (x ∷ xs) h zero = eqb-true x 0 (and_left (eqb x 0) _ h)
zero-at (x ∷ xs) h (suc i) = zero-at xs (and_right (eqb x 0) _ h) i

pub linked-none : (w links : List ℕ) → length links ≡ places → zeros links ≡ true → Linked w scalars links
linked-none w links h z =
    record {
      wide = h;
      low = λ j. let m = zero-at links z j in omega arith;
      rising = λ j p. let m = zero-at links z j in omega arith;
      standing = λ k a b. absurd (omega arith);
    }
