-- "A refused call changes no lent byte or word." "An accepted call leaves every earlier entry at its number and adds only the missing
-- entries its result needs." Both are proved here once for every type: a call that accepts the type R has the outcome `entering`.
-- Proved by recursion over the type, one new entry after another. Assumes nothing.
use Prim.Native.Nat.{ℕ, zero, suc, ◌+◌, ◌-◌, ◌≤◌, ◌<◌}
use mathlib.Core.Path.{◌≡◌, refl, sym, ◌∙◌, ap}
use mathlib.Core.Bool.{Bool, true, false, ◌&&◌, not, cond}
use mathlib.Core.List.{List}
use mathlib.Core.Logic.{◌⊎◌, inl, inr}
use native.Mathlib.Omega.{arith}
use lib.Dec.{leb}
use borrow.Author.Tests.{lt-ltb, ltb-true, leb-true, leb-false}
use Rattle.conv.specs.Types.{Ty, storage, handle, read_write, is_width, is_value, is_runtime, abstract_ty, is_fract, formed}
use Rattle.conv.specs.Types.Ty.{scalar, vec, mat, array, runtime, atomic, ptr, ref, frexp, modf, exchange}
use Rattle.conv.specs.Rank.{same_ty, element_of}
use Rattle.conv.proofs.Made.{same-ty}
use Rattle.answer.specs.Answer.{accept, refuse}
use Rattle.table.specs.Table.{scalars, put_entry, or_else, find_in, allowedb, Sound}
use Rattle.table.specs.Denote.{type_at, ty_of, made, kind_of, p_of, q_of}
use Rattle.table.specs.Enter.{free, lacking}
use Rattle.table.specs.Stands.{Absent, Stands}
use Rattle.table.specs.Stands.Part.{whole, inside}
use Rattle.table.specs.Placing.{stands_in, Standing, stands_at, entry_of, placed, Outcome, turned_down, entering}
use Rattle.table.specs.declared.Entry.{Entry}
use Rattle.answer.specs.declared.TypeNo.{TypeNo}
use Rattle.answer.specs.declared.Refusal.{Refusal}
use Rattle.answer.specs.declared.Reason.TheVariants.{NoRoom}
use Rattle.answer.specs.declared.Answer.TheVariants.{Value, NoValue, Refused}
use Rattle.std.specs.Prelude.{Option, Some, None}
use Rattle.table.proofs.SoundLaws.{and_right}
use Rattle.table.proofs.KindLaws.{split, clash, is_scalar, float-scalar, int-scalar}
use Rattle.table.proofs.TypeLaws.{type-scalar, scalar-number}
use Rattle.table.proofs.FormedLaws.{clean, clean-above}
use Rattle.table.proofs.EnterCases.{free-room, outer-absent}
use Rattle.table.proofs.EnterLaws.{ty-made, allow, absent_none, stands_here, new-stands, added-absent}
use Rattle.table.proofs.EnterTwoLaws.{stands_after}
use Rattle.table.proofs.PlacingLaws.{placed-over, placed-scalar, over-found, over-next, number_of, standing-outcome}

-- THE ENTRY OF A TYPE

-- above the scalars its unused words are 0
entry-clean : (R : Ty) (k : ℕ) → is_scalar R ≡ false → clean (entry_of R k) ≡ true
unfolding is_scalar kind_of p_of q_of clean
entry-clean (scalar s) k h = clash refl h
entry-clean (vec n s) k h = refl
entry-clean (mat c r s) k h = refl
entry-clean (array n t) k h = refl
entry-clean (runtime t) k h = refl
entry-clean (atomic s) k h = refl
entry-clean (ptr a b t) k h = refl
entry-clean (ref a b t) k h = refl
entry-clean (frexp t) k h = refl
entry-clean (modf t) k h = refl
entry-clean (exchange s) k h = refl

-- and it stands for the type, where a component's number is the component
entry-made : (R : Ty) (k : ℕ) → is_scalar R ≡ false → ((s : ℕ) → element_of R ≡ scalar s → k ≡ s) → made (entry_of R k) (element_of R) ≡ R
unfolding is_scalar kind_of p_of q_of element_of made
entry-made (scalar s) k h c = clash refl h
entry-made (vec n s) k h c = ap (vec n) (c s refl)
entry-made (mat a b s) k h c = ap (mat a b) (c s refl)
entry-made (array n t) k h c = refl
entry-made (runtime t) k h c = refl
entry-made (atomic s) k h c = ap atomic (c s refl)
entry-made (ptr a b t) k h c = refl
entry-made (ref a b t) k h c = refl
entry-made (frexp t) k h c = refl
entry-made (modf t) k h c = refl
entry-made (exchange s) k h c = ap exchange (c s refl)

-- the element of a formed type is formed
pub element-formed : (R : Ty) → formed R ≡ true → formed (element_of R) ≡ true
unfolding formed element_of
element-formed (scalar s) f = f
element-formed (vec n s) f = and_right (is_width n) _ f
element-formed (mat c r s) f = lt-ltb s scalars (float-scalar s (and_right (is_width c && is_width r) _ f))
element-formed (array n t) f = and_right (leb 1 n && (is_value t && not (is_runtime t))) _ f
element-formed (runtime t) f = and_right (is_value t && not (is_runtime t)) _ f
element-formed (atomic s) f = lt-ltb s scalars (int-scalar s f)
element-formed (ptr a b t) f = and_right (leb a storage && leb b read_write && is_value t && not (abstract_ty t)) _ f
element-formed (ref a b t) f = and_right (leb a handle && leb b read_write && is_value t && not (abstract_ty t)) _ f
element-formed (frexp t) f = and_right (is_fract t) _ f
element-formed (modf t) f = and_right (is_fract t) _ f
element-formed (exchange s) f = lt-ltb s scalars (int-scalar s f)

-- WHETHER A TYPE STANDS

module _ (w : List ℕ) (R : Ty) where
  in_step : (n : ℕ) → stands_in w (suc n) R ≡ or_else (stands_in w n R) (cond (same_ty (type_at w n) R) (Some (record { 0 = n })) None)
  unfolding stands_in
  in_step n = refl

  in-zero : stands_in w zero R ≡ None
  unfolding stands_in
  in-zero = refl

  pub stands-found : (n : ℕ) (t : TypeNo) → stands_in w n R ≡ Some t → (t.0 < n) × (type_at w t.0 ≡ R)
  stands-found zero t h = absurd (let q = sym in-zero ∙ h in let z : ◌≡◌ {A = ℕ} 0 1 = cc in omega arith)
  stands-found (suc n) t h = go (stands-found n t) (stands_in w n R) refl (same_ty (type_at w n) R) refl
    where
      go : (stands_in w n R ≡ Some t → (t.0 < n) × (type_at w t.0 ≡ R)) → (r : Option TypeNo) → stands_in w n R ≡ r
          → (b : Bool) → same_ty (type_at w n) R ≡ b → (t.0 < suc n) × (type_at w t.0 ≡ R)
      go ih (Some u) q b e =
          let tu : Some u ≡ Some t = rw q at (sym (in_step n) ∙ h) in
          let x = ih (q ∙ tu) in
          let l = x.0 in
          (omega arith, x.1)
      go ih None q true e =
          let tu : Some (record { 0 = n }) ≡ Some t = rw (q, e) at (sym (in_step n) ∙ h) in
          let tn : n ≡ t.0 = cc in
          (omega arith, ap (type_at w) (sym tn) ∙ same-ty (type_at w n) R (rw e tt))
      go ih None q false e = absurd (let tu : None ≡ Some t = rw (q, e) at (sym (in_step n) ∙ h) in let z : ◌≡◌ {A = ℕ} 0 1 = cc in omega arith)

-- PLACING A TYPE

-- R came to stand: nothing was added, or R itself is the newest entry
pub record Grown (w : List ℕ) (n : ℕ) (R : Ty) (a : Standing) : Type 0 where
  pub stands : Stands w n R a.number a.used a.words
  pub newest : ((a.used ≡ n) × (a.words ≡ w)) ⊎ ((n ≤ a.number) × (a.number + 1 ≡ a.used))

abbrev pub Grows : List ℕ → ℕ → Ty → Type 0
Grows w n R = (placed w n R).used - n ≤ free w n → Grown w n R (placed w n R)

module _ (w : List ℕ) (n : ℕ) (s : Sound w n) where
  scalar-grows : (k : ℕ) → k < scalars → Grows w n (scalar k)
  scalar-grows k l room =
      rw (placed-scalar w n k)
      (record { stands = rw (type-scalar w k l) at (stands_here w n s k (omega (arith, s.low))); newest = inl (refl, refl) })

  -- over an element that came to stand, R itself
  module _ (R : Ty) (above : is_scalar R ≡ false) (f : formed R ≡ true) where
    -- R stands already
    found-grows : (t : TypeNo) → stands_in w n R ≡ Some t → Grows w n R
    found-grows t h room =
        let x = stands-found w R n t h in
        rw (placed-over w n R above ∙ over-found w n R _ t h)
        (record { stands = rw x.1 at (stands_here w n s t.0 x.0); newest = inl (refl, refl) })

    -- R is absent, and becomes the newest entry
    module _ (k m : ℕ) (v : List ℕ) (g : Grown w n (element_of R) (stands_at k m v)) where
      abbrev e : Entry
      e = entry_of R k

      made_so : made e (type_at v k) ≡ R
      made_so = ap (made e) g.stands.stands ∙ entry-made R k above (λ c q. scalar-number v m g.stands.sound k g.stands.below c (g.stands.stands ∙ q))

      type-so : ty_of v e ≡ R
      type-so = ty-made v e (clean-above e (entry-clean R k above)) ∙ made_so

      ok : allowedb v m e ≡ true
      ok = allow v m g.stands.sound e (entry-clean R k above) g.stands.below (ap formed made_so ∙ f)

      none : stands_in w n R ≡ None → find_in v m e ≡ None
      none h = go g.newest
        where
          go : ((m ≡ n) × (v ≡ w)) ⊎ ((n ≤ k) × (k + 1 ≡ m)) → find_in v m e ≡ None
          go (inl x) =
              absent_none v m g.stands.sound e ok
              (λ i l q.
              let lw : i < n = let z = x.0 in omega arith in
              let a = number_of w n s i R lw (ap (λ (u : List ℕ). type_at u i) (sym x.1) ∙ q ∙ type-so) in
              absurd (let z : ◌≡◌ {A = ℕ} 0 1 = cc in omega arith))
          go (inr x) = let a = x.0 in let b = x.1 in outer-absent v m g.stands.sound k (omega (arith, s.low)) (omega arith) e

      next_grows : stands_in w n R ≡ None → m + 1 - n ≤ free w n → Grown w n R (stands_at m (m + 1) (put_entry v m e))
      next_grows h room =
          let up = g.stands.grows in
          let z : n + (m + 1 - n) ≡ m + 1 = omega arith in
          let r = free-room w n (m + 1 - n) (omega arith) room in
          let long = g.stands.long in
          let b = new-stands v m g.stands.sound e ok (none h) (rw z at r.0) (rw (z, ← long) at r.1) in
          record { stands = stands_after g.stands (inside whole) (rw type-so at b); newest = inr (up, refl) }

    over-grows : Grows w n (element_of R) → Grows w n R
    over-grows inner room = go (stands_in w n R) refl
      where
        go : (r : Option TypeNo) → stands_in w n R ≡ r → Grown w n R (placed w n R)
        go (Some t) h = found-grows t h room
        go None h =
            let a = placed w n (element_of R) in
            let q = placed-over w n R above ∙ over-next w n R a h in
            let room2 : a.used + 1 - n ≤ free w n = rw q at room in
            rw q (next_grows a.number a.used a.words (inner (omega arith)) h room2)

  -- every formed type comes to stand where there is room
  pub placed-grows : (R : Ty) → formed R ≡ true → Grows w n R
  unfolding is_scalar element_of formed
  placed-grows (scalar k) f = scalar-grows k (ltb-true k scalars f)
  placed-grows (vec k c) f = over-grows (vec k c) refl f (scalar-grows c (ltb-true c scalars (element-formed (vec k c) f)))
  placed-grows (mat a b c) f = over-grows (mat a b c) refl f (scalar-grows c (ltb-true c scalars (element-formed (mat a b c) f)))
  placed-grows (array k t) f = over-grows (array k t) refl f (placed-grows t (element-formed (array k t) f))
  placed-grows (runtime t) f = over-grows (runtime t) refl f (placed-grows t (element-formed (runtime t) f))
  placed-grows (atomic c) f = over-grows (atomic c) refl f (scalar-grows c (ltb-true c scalars (element-formed (atomic c) f)))
  placed-grows (ptr a b t) f = over-grows (ptr a b t) refl f (placed-grows t (element-formed (ptr a b t) f))
  placed-grows (ref a b t) f = over-grows (ref a b t) refl f (placed-grows t (element-formed (ref a b t) f))
  placed-grows (frexp t) f = over-grows (frexp t) refl f (placed-grows t (element-formed (frexp t) f))
  placed-grows (modf t) f = over-grows (modf t) refl f (placed-grows t (element-formed (modf t) f))
  placed-grows (exchange c) f = over-grows (exchange c) refl f (scalar-grows c (ltb-true c scalars (element-formed (exchange c) f)))

-- THE OUTCOME OF AN ACCEPTED TYPE

module _ (place : ℕ) (w : List ℕ) (n : ℕ) (R : Ty) where
  there-is-room : leb ((placed w n R).used - n) (free w n) ≡ true
      → entering place w n R ≡ record { answer = accept (placed w n R).number (placed w n R).used; words = (placed w n R).words }
  unfolding entering
  there-is-room b = rw b

  there-is-none : leb ((placed w n R).used - n) (free w n) ≡ false → entering place w n R ≡ turned_down (NoRoom (lacking w n ((placed w n R).used - n))) place w n
  unfolding entering
  there-is-none b = rw b

module _ (place : ℕ) (w : List ℕ) (n : ℕ) (s : Sound w n) (R : Ty) (f : formed R ≡ true) where
  -- accepted: R stands at the number that is answered, in the table that grew by R and parts of R alone
  pub entering-stands : (t : TypeNo) (m : ℕ) (v : List ℕ) → entering place w n R ≡ record { answer = Value t m; words = v } → Stands w n R t.0 m v
  entering-stands t m v h =
      split (leb ((placed w n R).used - n) (free w n))
      (λ b.
      let g = placed-grows w n s R f (leb-true _ _ b) in
      let q = sym (there-is-room place w n R b) ∙ h in
      let a : accept (placed w n R).number (placed w n R).used ≡ Value t m = ap (λ (o : Outcome). o.answer) q in
      let x : (placed w n R).number ≡ t.0 = cc in
      let y : (placed w n R).used ≡ m = cc in
      let z : (placed w n R).words ≡ v = ap (λ (o : Outcome). o.words) q in
      rw (x, y, z) at g.stands)
      (λ b.
      let a : refuse (NoRoom (lacking w n ((placed w n R).used - n))) place n ≡ Value t m = ap (λ (o : Outcome). o.answer) (sym (there-is-none place w n R b) ∙ h) in
      absurd (let z : ◌≡◌ {A = ℕ} 0 1 = cc in omega arith))

  -- the entries that were added were missing
  pub entering-missing : (t : TypeNo) (m : ℕ) (v : List ℕ) → entering place w n R ≡ record { answer = Value t m; words = v } → (i : ℕ) → n ≤ i → i < m → Absent w n (type_at v i)
  entering-missing t m v h = added-absent (entering-stands t m v h)

  -- refused: no word changes, and R is absent and lacks room
  pub entering-refused : (r : Refusal) (v : List ℕ) → entering place w n R ≡ record { answer = Refused r; words = v }
      → (v ≡ w) × (r ≡ record { reason = NoRoom (lacking w n ((placed w n R).used - n)); place = record { 0 = place }; used = n }) × Absent w n R × (free w n < (placed w n R).used - n)
  entering-refused r v h =
      split (leb ((placed w n R).used - n) (free w n))
      (λ b.
      let a : accept (placed w n R).number (placed w n R).used ≡ Refused r = ap (λ (o : Outcome). o.answer) (sym (there-is-room place w n R b) ∙ h) in
      absurd (let z : ◌≡◌ {A = ℕ} 0 1 = cc in omega arith))
      (λ b.
      let q = sym (there-is-none place w n R b) ∙ h in
      let a : refuse (NoRoom (lacking w n ((placed w n R).used - n))) place n ≡ Refused r = ap (λ (o : Outcome). o.answer) q in (
        sym (ap (λ (o : Outcome). o.words) q),
        cc,
        (λ i l e.
            let a2 : accept i n ≡ Refused r = ap (λ (o : Outcome). o.answer) (sym (standing-outcome place w n s i R l e) ∙ h) in
            let z : ◌≡◌ {A = ℕ} 0 1 = cc in omega arith),
        leb-false _ _ b,
      ))

  -- an accepted type is a value
  pub entering-valued : (m : ℕ) (v : List ℕ) → entering place w n R ≡ record { answer = NoValue m; words = v } → ⊥
  entering-valued m v h =
      split (leb ((placed w n R).used - n) (free w n))
      (λ b.
      let a : accept (placed w n R).number (placed w n R).used ≡ NoValue m = ap (λ (o : Outcome). o.answer) (sym (there-is-room place w n R b) ∙ h) in
      let z : ◌≡◌ {A = ℕ} 0 1 = cc in omega arith)
      (λ b.
      let a : refuse (NoRoom (lacking w n ((placed w n R).used - n))) place n ≡ NoValue m = ap (λ (o : Outcome). o.answer) (sym (there-is-none place w n R b) ∙ h) in
      let z : ◌≡◌ {A = ℕ} 0 1 = cc in omega arith)
