-- Soundness, as the test and as facts; what keeps it; and what entering does to it. Assumes nothing.
use Prim.Native.Nat.{ℕ, zero, suc, ◌+◌, ◌*◌, ◌≤◌, ◌<◌}
use mathlib.Core.Path.{◌≡◌, refl, sym, ◌∙◌, ap}
use mathlib.Core.Bool.{Bool, true, false, ◌&&◌, cond}
use mathlib.Core.List.{List}
use mathlib.Core.Logic.{⊎_elim, ◌≢◌}
use native.Mathlib.Nat.{le_of_suc-le-suc, not-suc-le-zero, eq-or-lt_of_le}
use native.Mathlib.Numerals.{add-one}
use native.Mathlib.Omega.{arith}
use lib.ListN.{length, get_or, set, length-set}
use lib.Seq.{get_or-set_same, get_or-set_other}
use lib.Dec.{leb, ltb, eqb}
use borrow.Author.Tests.{le-leb, ltb-true, leb-true, eqb-true, eq-eqb}
use Rattle.table.specs.Tools.{all_below}
use Rattle.table.specs.Table.{stride, ceiling, entry_at, put_entry, Key, entry_key, sameb, chain_by, chain, base_of, entry_ok, or_else, find_in, is_nothing, good_at, soundb, Sound, Keeps, scalar_ok, made_ok}
use Rattle.table.specs.declared.Entry.{Entry}
use Rattle.answer.specs.declared.TypeNo.{TypeNo}
use Rattle.std.specs.Prelude.{Option, Some, None}
use Rattle.table.proofs.TableLaws.{elem_of, find-stop}

-- a conjunction

pub and_left : (a b : Bool) → (a && b) ≡ true → a ≡ true
and_left true b h = refl
and_left false b h = h

pub and_right : (a b : Bool) → (a && b) ≡ true → b ≡ true
and_right true b h = h
and_right false b h = absurd (let z : ◌≡◌ {A = ℕ} 0 1 = cc in omega arith)

pub and_both : (a b : Bool) → a ≡ true → b ≡ true → (a && b) ≡ true
and_both a b p q = rw (p, q)

-- the right side matters only where the left holds
pub and-on : (a : Bool) {b d : Bool} → (a ≡ true → b ≡ d) → (a && b) ≡ (a && d)
and-on true h = h refl
and-on false h = refl

-- what holds of all below n + 1
pub below_split : (P : ℕ → Type 0) (n : ℕ) → ((i : ℕ) → i < n → P i) → P n → (i : ℕ) → i < n + 1 → P i
below_split P n h p i l =
    ⊎_elim (λ e. rw e p) (λ lt. h i lt) (eq-or-lt_of_le (le_of_suc-le-suc (rw add-one at l)))

module _ (f : ℕ → Bool) where
  pub all-at : (n : ℕ) → all_below f n ≡ true → (i : ℕ) → i < n → f i ≡ true
  unfolding all_below
  all-at zero h i l = absurd (not-suc-le-zero l)
  all-at (suc n) h i l = go (all-at n (and_left _ _ h))
    where
      go : ((k : ℕ) → k < n → f k ≡ true) → f i ≡ true
      go ih = ⊎_elim (λ e. rw e (and_right (all_below f n) (f n) h)) (λ lt. ih i lt) (eq-or-lt_of_le (le_of_suc-le-suc l))

  pub all_of : (n : ℕ) → ((i : ℕ) → i < n → f i ≡ true) → all_below f n ≡ true
  unfolding all_below
  all_of zero h = refl
  all_of (suc n) h = and_both (all_below f n) (f n) (all_of n (λ i l. h i (omega arith))) (h n (omega arith))

-- equal entries

pub sameb-true : (a b : Entry) → sameb a b ≡ true → entry_key a ≡ entry_key b
sameb-true a b h =
    λ i. record {
      kind = eqb-true a.kind b.kind (and_left _ _ (and_left _ _ (and_left _ _ h))) i;
      p = eqb-true a.p b.p (and_right (eqb a.kind b.kind) _ (and_left _ _ (and_left _ _ h))) i;
      q = eqb-true a.q b.q (and_right (eqb a.kind b.kind && eqb a.p b.p) _ (and_left _ _ h)) i;
      elem = eqb-true a.elem b.elem (and_right (eqb a.kind b.kind && eqb a.p b.p && eqb a.q b.q) _ h) i;
    }

pub sameb-refl : (a b : Entry) → entry_key a ≡ entry_key b → sameb a b ≡ true
sameb-refl a b h =
    rw (eq-eqb a.kind b.kind (ap (λ (k : Key). k.kind) h), eq-eqb a.p b.p (ap (λ (k : Key). k.p) h), eq-eqb a.q b.q (ap (λ (k : Key). k.q) h), eq-eqb a.elem b.elem (ap (λ (k : Key). k.elem) h))

-- `==` of two entries goes word by word
abbrev pub by_words : Entry → Entry → Bool
by_words a b = eqb a.kind b.kind && (eqb a.p b.p && (eqb a.q b.q && eqb a.elem b.elem))

pub same-words : (a b : Entry) → by_words a b ≡ sameb a b
same-words a b = go (eqb a.kind b.kind) (eqb a.p b.p) (eqb a.q b.q) (eqb a.elem b.elem)
  where
    go : (k p q e : Bool) → (k && (p && (q && e))) ≡ (k && p && q && e)
    go true true q e = refl
    go true false q e = refl
    go false p q e = refl

-- what finding says

module _ (w : List ℕ) (e : Entry) where
  -- an entry that is there is found, at its number or before
  pub find-hit : (n i : ℕ) → i < n → entry_key (entry_at w i) ≡ entry_key e → find_in w n e ≡ None → ⊥
  unfolding find_in
  find-hit zero i l h q = not-suc-le-zero l
  find-hit (suc n) i l h q = go (find_in w n e) refl (find-hit n i)
    where
      go : (r : Option TypeNo) → find_in w n e ≡ r → (i < n → entry_key (entry_at w i) ≡ entry_key e → find_in w n e ≡ None → ⊥) → ⊥
      go (Some t) k ih = let z : ◌≡◌ {A = ℕ} 0 1 = cc in omega arith
      go None k ih =
          ⊎_elim (λ m. let s : sameb (entry_at w n) e ≡ true = sameb-refl (entry_at w n) e (rw (← m) h) in let z : ◌≡◌ {A = ℕ} 0 1 = cc in omega arith)
          (λ lt. ih lt h k) (eq-or-lt_of_le (le_of_suc-le-suc l))

  -- what is found is below n, and equals e
  pub find_at : (n : ℕ) (t : TypeNo) → find_in w n e ≡ Some t → (t.0 < n) × (entry_key (entry_at w t.0) ≡ entry_key e)
  unfolding find_in
  find_at zero t q = absurd (let z : ◌≡◌ {A = ℕ} 0 1 = cc in omega arith)
  find_at (suc n) t q = go (find_in w n e) refl (find_at n t)
    where
      got : (b : Bool) → sameb (entry_at w n) e ≡ b → cond b (Some (record { 0 = n })) None ≡ Some t → (t.0 < suc n) × (entry_key (entry_at w t.0) ≡ entry_key e)
      got true s k = let m : n ≡ t.0 = ap (λ (u : TypeNo). u.0) (cc) in (omega arith, rw (← m) (sameb-true (entry_at w n) e s))
      got false s k = absurd (let z : ◌≡◌ {A = ℕ} 0 1 = cc in omega arith)

      go : (r : Option TypeNo) → find_in w n e ≡ r → (find_in w n e ≡ Some t → (t.0 < n) × (entry_key (entry_at w t.0) ≡ entry_key e)) → (t.0 < suc n) × (entry_key (entry_at w t.0) ≡ entry_key e)
      go (Some u) k ih = let d = ih (cc) in (omega arith, d.1)
      go None k ih = got (sameb (entry_at w n) e) refl (rw k at q)

  -- where none equals e, nothing is found
  pub find-miss : (n : ℕ) → ((i : ℕ) → i < n → entry_key (entry_at w i) ≡ entry_key e → ⊥) → find_in w n e ≡ None
  find-miss n h = go (find_in w n e) refl
    where
      go : (r : Option TypeNo) → find_in w n e ≡ r → find_in w n e ≡ None
      go (Some t) k = let d = find_at n t k in absurd (h t.0 d.0 d.1)
      go None k = k

-- the test is the facts

is_nothing-true : (r : Option TypeNo) → is_nothing r ≡ true → r ≡ None
is_nothing-true (Some t) h = absurd (let z : ◌≡◌ {A = ℕ} 0 1 = cc in omega arith)
is_nothing-true None h = refl

module _ (w : List ℕ) (n : ℕ) where
  pub sound-of : soundb w n ≡ true → Sound w n
  unfolding soundb
  sound-of h =
      let low : leb 7 n ≡ true = and_left _ _ (and_left _ _ (and_left _ _ h)) in
      let high : leb n ceiling ≡ true = and_right (leb 7 n) _ (and_left _ _ (and_left _ _ h)) in
      let room : leb (n * stride) (length w) ≡ true = and_right (leb 7 n && leb n ceiling) _ (and_left _ _ h) in
      let all = all-at (good_at w) n (and_right (leb 7 n && leb n ceiling && leb (n * stride) (length w)) _ h) in
      record {
        low = leb-true 7 n low;
        high = leb-true n ceiling high;
        room = leb-true (n * stride) (length w) room;
        rows = λ i l. and_left (entry_ok w i (entry_at w i)) _ (all i l);
        apart = λ i j lj l q. find-hit w (entry_at w i) i j lj q (is_nothing-true _ (and_right (entry_ok w i (entry_at w i)) _ (all i l)));
      }

  pub of-sound : Sound w n → soundb w n ≡ true
  unfolding soundb
  of-sound s =
      rw
      (le-leb 7 n s.low, le-leb n ceiling s.high, le-leb (n * stride) (length w) s.room)
      (all_of (good_at w) n (λ i l. and_both (entry_ok w i (entry_at w i)) _ (s.rows i l) (ap is_nothing (find-miss w (entry_at w i) i (λ j lj q. s.apart i j lj l q)))))

  -- finding is exact: the number of an entry that is there, and no other
  pub find-unique : Sound w n → (i : ℕ) (e : Entry) → i < n → entry_key (entry_at w i) ≡ entry_key e → find_in w n e ≡ Some (record { 0 = i })
  find-unique s i e l q =
      find-stop w e i n
      (find-miss w e i (λ j lj r. s.apart i j lj l (r ∙ sym q))) (sameb-refl (entry_at w i) e q) l

-- what the first n entries decide

module _ (w v : List ℕ) (n : ℕ) (k : Keeps w v n) where
  pub keeps_entry : (i : ℕ) → i < n → entry_at v i ≡ entry_at w i
  keeps_entry i l =
      λ d. record {
        kind = k (i * stride) (omega arith) d;
        p = k (i * stride + 1) (omega arith) d;
        q = k (i * stride + 2) (omega arith) d;
        elem = k (i * stride + 3) (omega arith) d;
      }

  module _ {A : Type 0} (leaf : ℕ → A) (node : Entry → A → A) where
    keeps-by : (f j : ℕ) → j < n → chain_by leaf node v f j ≡ chain_by leaf node w f j
    unfolding chain_by
    keeps-by zero j l = refl
    keeps-by (suc f) j l =
        ap (λ (e : Entry). cond (ltb j 7) (leaf j) (cond (ltb e.elem j) (node e (chain_by leaf node v f e.elem)) (leaf j))) (keeps_entry j l)
        ∙ ap (λ x. cond (ltb j 7) (leaf j) x) (go (ltb (elem_of w j) j) refl (keeps-by f (elem_of w j)))
      where
        go : (b : Bool) → ltb (elem_of w j) j ≡ b → (elem_of w j < n → chain_by leaf node v f (elem_of w j) ≡ chain_by leaf node w f (elem_of w j)) →
            cond b (node (entry_at w j) (chain_by leaf node v f (elem_of w j))) (leaf j) ≡ cond b (node (entry_at w j) (chain_by leaf node w f (elem_of w j))) (leaf j)
        go true e ih = let h : elem_of w j < j = ltb-true _ _ e in ap (node (entry_at w j)) (ih (omega arith))
        go false e ih = refl

    pub keeps-chain : (j : ℕ) → j < n → chain leaf node v j ≡ chain leaf node w j
    unfolding chain
    keeps-chain j l = keeps-by j j l

  pub keeps-base : (j : ℕ) → j < n → base_of v j ≡ base_of w j
  unfolding base_of
  keeps-base j l = keeps-chain _ _ j l

  pub keeps-made : (i : ℕ) (e : Entry) → i ≤ n → made_ok v i e ≡ made_ok w i e
  unfolding made_ok
  keeps-made i e l =
      and-on (ltb e.elem i) (λ h. let m : e.elem < i = ltb-true _ _ h in rw (k (e.elem * stride) (omega arith), keeps-base e.elem (omega arith)))

  pub keeps-ok : (i : ℕ) (e : Entry) → i ≤ n → entry_ok v i e ≡ entry_ok w i e
  unfolding entry_ok
  keeps-ok i e l = ap (λ x. cond (ltb i 7) (scalar_ok i e) x) (keeps-made i e l)

  pub keeps-find : (e : Entry) (i : ℕ) → i ≤ n → find_in v i e ≡ find_in w i e
  unfolding find_in
  keeps-find e zero l = refl
  keeps-find e (suc i) l = rw (keeps-find e i (omega arith)) (ap (λ (x : Entry). or_else (find_in w i e) (cond (sameb x e) (Some (record { 0 = i })) None)) (keeps_entry i l))

-- writing an entry

module _ (w : List ℕ) (i : ℕ) (e : Entry) where
  pub put-length : length (put_entry w i e) ≡ length w
  put-length = simp length-set

  pub put_keeps : Keeps w (put_entry w i e) i
  put_keeps j l =
      let a : j ≢ i * stride = omega arith in
      let b : j ≢ i * stride + 1 = omega arith in
      let c : j ≢ i * stride + 2 = omega arith in
      let d : j ≢ i * stride + 3 = omega arith in
      simp get_or-set_other

  pub put-entry : (i + 1) * stride ≤ length w → entry_at (put_entry w i e) i ≡ e
  put-entry l =
      let a1 : i * stride ≢ i * stride + 1 = omega arith in
      let a2 : i * stride ≢ i * stride + 2 = omega arith in
      let a3 : i * stride ≢ i * stride + 3 = omega arith in
      let b2 : i * stride + 1 ≢ i * stride + 2 = omega arith in
      let b3 : i * stride + 1 ≢ i * stride + 3 = omega arith in
      let c3 : i * stride + 2 ≢ i * stride + 3 = omega arith in
      let l0 : i * stride < length w = omega arith in
      let l1 : i * stride + 1 < length (set w (i * stride) e.kind) = simp length-set (omega arith) in
      let l2 : i * stride + 2 < length (set (set w (i * stride) e.kind) (i * stride + 1) e.p) = simp length-set (omega arith) in
      let l3 : i * stride + 3 < length (set (set (set w (i * stride) e.kind) (i * stride + 1) e.p) (i * stride + 2) e.q) = simp length-set (omega arith) in
      let k : get_or (put_entry w i e) (i * stride) 0 ≡ e.kind = simp (get_or-set_other, get_or-set_same) in
      let p : get_or (put_entry w i e) (i * stride + 1) 0 ≡ e.p = simp (get_or-set_other, get_or-set_same) in
      let q : get_or (put_entry w i e) (i * stride + 2) 0 ≡ e.q = simp (get_or-set_other, get_or-set_same) in
      let m : get_or (put_entry w i e) (i * stride + 3) 0 ≡ e.elem = simp get_or-set_same in
      λ d. record { kind = k d; p = p d; q = q d; elem = m d }

-- entering keeps soundness: what a sheet's loop carries, with no check anew

module _ (w : List ℕ) (n : ℕ) (e : Entry) (s : Sound w n) (ok : entry_ok w n e ≡ true) where
  -- a new last entry
  pub put-sound : find_in w n e ≡ None → n + 1 ≤ ceiling → (n + 1) * stride ≤ length w → Sound (put_entry w n e) (n + 1)
  put-sound f high room =
      let v = put_entry w n e in
      let old : (i : ℕ) → i < n → entry_at v i ≡ entry_at w i = keeps_entry w v n (put_keeps w n e) in
      let new : entry_at v n ≡ e = put-entry w n e room in
      record {
        low = omega (arith, s.low);
        high = high;
        room = rw (put-length w n e) room;
        rows = below_split (λ i. entry_ok v i (entry_at v i) ≡ true) n
            (λ i l. ap (entry_ok v i) (old i l) ∙ keeps-ok w v n (put_keeps w n e) i (entry_at w i) (omega arith) ∙ s.rows i l)
            (ap (entry_ok v n) new ∙ keeps-ok w v n (put_keeps w n e) n e (omega arith) ∙ ok);
        apart = λ i j lj l q.
            below_split (λ i. (j : ℕ) → j < i → entry_key (entry_at v j) ≡ entry_key (entry_at v i) → ⊥) n
            (λ i l j lj q. s.apart i j lj l (sym (ap entry_key (old j (omega arith))) ∙ q ∙ ap entry_key (old i l)))
            (λ j lj q. find-hit w e n j lj (sym (ap entry_key (old j lj)) ∙ q ∙ ap entry_key new) f) i l j lj q;
      }
