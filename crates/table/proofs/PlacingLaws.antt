-- Entering an entry, and an element with its container, is placing their types; and what an accepted type does to a sound table.
-- Assumes nothing.
use Prim.Native.Nat.{ℕ, zero, suc, ◌+◌, ◌-◌, ◌≤◌, ◌<◌}
use mathlib.Core.Path.{◌≡◌, refl, sym, ◌∙◌, ap, subst}
use mathlib.Core.Bool.{Bool, true, false, cond}
use mathlib.Core.List.{List}
use mathlib.Core.Logic.{⊎_elim}
use native.Mathlib.Nat.{le_of_suc-le-suc, not-suc-le-zero, eq-or-lt_of_le}
use native.Mathlib.Omega.{arith}
use lib.Dec.{T, leb, ltb}
use borrow.Author.Tests.{ltb-true, ltb-false, le-leb, leb-true, leb-false}
use Rattle.conv.specs.Types.{Ty, formed}
use Rattle.conv.specs.Types.Ty.{scalar, vec, mat, array, runtime, atomic, ptr, ref, frexp, modf, exchange}
use Rattle.conv.specs.Rank.{same_ty, element_of}
use Rattle.conv.proofs.Made.{same-ty, self-ty}
use Rattle.answer.specs.Answer.{accept}
use Rattle.table.specs.Table.{scalars, put_entry, or_else, find_in, allowedb, Sound, entry_at}
use Rattle.table.specs.Denote.{type_at, ty_of, made, kind_of, p_of, q_of}
use Rattle.table.specs.Enter.{free, lacking, missing, number_or, add_at, entered, enter_words, EnterDone, entry_answer, container, EnterTwoDone}
use Rattle.table.specs.Stands.{Absent}
use Rattle.table.specs.Placing.{stands_in, Standing, stands_at, entry_of, placed_over, placed, Outcome, turned_down, entering}
use Rattle.table.specs.declared.Entry.{Entry}
use Rattle.answer.specs.declared.TypeNo.{TypeNo}
use Rattle.answer.specs.declared.Reason.TheVariants.{NoRoom}
use Rattle.std.specs.Prelude.{Option, Some, None, Result}
use Rattle.table.specs.declared.Entered.{Entered}
use Rattle.table.specs.declared.Lacks.{Lacks}
use Rattle.table.specs.Enter.{there, lacks}
use Rattle.table.proofs.KindLaws.{split, is_scalar}
use Rattle.table.proofs.TypeLaws.{type-scalar, type-injective, type-words, elem_in, elem-of}
use Rattle.table.proofs.FormedLaws.{allowed-row}
use Rattle.table.proofs.EnterCases.{missing_at, missing-none, two-found, two-full, two-new}
use Rattle.table.proofs.EnterTwoLaws.{holds, holder, over-allowed, over-type}
use Rattle.table.proofs.EnterLaws.{ty-made, ty-scalar, entry-words, at-type, none-absent}

-- A TYPE'S NUMBER

module _ (w : List ℕ) (R : Ty) where
  stands-none : (n : ℕ) → Absent w n R → stands_in w n R ≡ None
  unfolding stands_in
  stands-none zero a = refl
  stands-none (suc n) a = go (same_ty (type_at w n) R) refl (stands-none n (λ i l. a i (omega arith)))
    where
      go : (b : Bool) → same_ty (type_at w n) R ≡ b → stands_in w n R ≡ None → or_else (stands_in w n R) (cond (same_ty (type_at w n) R) (Some (record { 0 = n })) None) ≡ None
      go true e ih = absurd (a n (omega arith) (same-ty (type_at w n) R (rw e tt)))
      go false e ih = rw (ih, e)

  stands-keep : (t : TypeNo) (n : ℕ) → stands_in w n R ≡ Some t → stands_in w (suc n) R ≡ Some t
  unfolding stands_in
  stands-keep t n h = rw h

  stands_here : (n : ℕ) → stands_in w n R ≡ None → type_at w n ≡ R → stands_in w (suc n) R ≡ Some (record { 0 = n })
  unfolding stands_in
  stands_here n h e = rw (h, e) (go (same_ty R R) (self-ty R))
    where
      go : (b : Bool) → T b → cond {A = Option TypeNo} b (Some (record { 0 = n })) None ≡ Some (record { 0 = n })
      go true t = refl
      go false t = absurd t

  stands_at_lem : (n i : ℕ) → i < n → type_at w i ≡ R → ((j : ℕ) → j < n → type_at w j ≡ R → j ≡ i) → stands_in w n R ≡ Some (record { 0 = i })
  stands_at_lem zero i l e u = absurd (not-suc-le-zero l)
  stands_at_lem (suc n) i l e u = go (stands_at_lem n i)
    where
      go : (i < n → type_at w i ≡ R → ((j : ℕ) → j < n → type_at w j ≡ R → j ≡ i) → stands_in w n R ≡ Some (record { 0 = i })) → stands_in w (suc n) R ≡ Some (record { 0 = i })
      go ih =
          ⊎_elim
          (λ q. subst (λ (k : ℕ). stands_in w (suc n) R ≡ Some (record { 0 = k })) (sym q)
          (stands_here n (stands-none n (λ j lj h. let z = u j (omega arith) h in omega arith)) (subst (λ (k : ℕ). type_at w k ≡ R) q e)))
          (λ lt. stands-keep _ n (ih lt e (λ j lj h. u j (omega arith) h)))
          (eq-or-lt_of_le (le_of_suc-le-suc l))

-- a type above the scalars is placed over its element
pub placed-over : (w : List ℕ) (n : ℕ) (R : Ty) → is_scalar R ≡ false → placed w n R ≡ placed_over w n R (placed w n (element_of R))
unfolding placed is_scalar element_of
placed-over w n (scalar s) h = absurd (let z : ◌≡◌ {A = ℕ} 0 1 = cc in omega arith)
placed-over w n (vec k s) h = refl
placed-over w n (mat c r s) h = refl
placed-over w n (array k t) h = refl
placed-over w n (runtime t) h = refl
placed-over w n (atomic s) h = refl
placed-over w n (ptr a b t) h = refl
placed-over w n (ref a b t) h = refl
placed-over w n (frexp t) h = refl
placed-over w n (modf t) h = refl
placed-over w n (exchange s) h = refl

pub placed-scalar : (w : List ℕ) (n s : ℕ) → placed w n (scalar s) ≡ stands_at s n w
unfolding placed
placed-scalar w n s = refl

pub over-found : (w : List ℕ) (n : ℕ) (R : Ty) (inner : Standing) (t : TypeNo) → stands_in w n R ≡ Some t → placed_over w n R inner ≡ stands_at t.0 n w
unfolding placed_over
over-found w n R inner t q = rw q

pub over-next : (w : List ℕ) (n : ℕ) (R : Ty) (inner : Standing) → stands_in w n R ≡ None
    → placed_over w n R inner ≡ stands_at inner.used (inner.used + 1) (put_entry inner.words inner.used (entry_of R inner.number))
unfolding placed_over
over-next w n R inner q = rw q

module _ (w : List ℕ) (n : ℕ) (s : Sound w n) where
  -- the number of a type that stands in the table
  pub number_of : (i : ℕ) (R : Ty) → i < n → type_at w i ≡ R → stands_in w n R ≡ Some (record { 0 = i })
  number_of i R l e = stands_at_lem w R n i l e (λ j lj h. type-injective w n s j i lj l (h ∙ sym e))

  -- PRESENT: it stays at its number, and nothing is added
  pub placed_at : (i : ℕ) (R : Ty) → i < n → type_at w i ≡ R → placed w n R ≡ stands_at i n w
  placed_at i R l e =
      split (ltb i scalars)
      (λ b. let h = ltb-true i scalars b in ap (placed w n) (sym e ∙ type-scalar w i h) ∙ placed-scalar w n i)
      (λ b.
      let h : scalars ≤ i = ltb-false i scalars b in
      let x = type-words w n s i h l in
      placed-over w n R (ap is_scalar (sym e) ∙ x.above) ∙ over-found w n R _ _ (number_of i R l e))

  -- ONE ENTRY that may be taken: placing its type is entering it

  module _ (e : Entry) (ok : allowedb w n e ≡ true) where
    entry-of : scalars ≤ e.kind → entry_of (ty_of w e) e.elem ≡ e
    entry-of k =
        let x = entry-words w n s e ok k in
        let q = ap kind_of (ty-made w e k) ∙ x.kind in
        λ i. record { kind = (ap kind_of (ty-made w e k) ∙ x.kind) i; p = (ap p_of (ty-made w e k) ∙ x.p) i; q = (ap q_of (ty-made w e k) ∙ x.q) i; elem = e.elem }

    above : scalars ≤ e.kind → placed w n (ty_of w e) ≡ placed_over w n (ty_of w e) (stands_at e.elem n w)
    above k =
        let x = entry-words w n s e ok k in
        let m = ty-made w e k in
        placed-over w n (ty_of w e) (ap is_scalar m ∙ x.above)
        ∙ ap (placed_over w n (ty_of w e)) (ap (placed w n) (ap element_of m ∙ x.elem) ∙ placed_at e.elem (type_at w e.elem) (allowed-row w n s e k ok).0 refl)

    found-placed : (t : TypeNo) → find_in w n e ≡ Some t → placed w n (ty_of w e) ≡ stands_at t.0 n w
    found-placed t h = let a = at-type w n s e ok t h in placed_at t.0 (ty_of w e) a.0 a.1

    new-placed : find_in w n e ≡ None → placed w n (ty_of w e) ≡ stands_at n (n + 1) (put_entry w n e)
    new-placed h =
        split (ltb e.kind scalars)
        (λ b.
        let k = ltb-true e.kind scalars b in
        absurd (none-absent w n s e ok h e.kind (omega (arith, s.low)) (type-scalar w e.kind k ∙ sym (ty-scalar w e k))))
        (λ b.
        let k : scalars ≤ e.kind = ltb-false e.kind scalars b in
        above k ∙ over-next w n (ty_of w e) (stands_at e.elem n w) (stands-none w (ty_of w e) n (none-absent w n s e ok h)) ∙ ap (λ (f : Entry). stands_at n (n + 1) (put_entry w n f)) (entry-of k))

    pub placed_one : placed w n (ty_of w e) ≡ stands_at (number_or (find_in w n e) n) (n + missing w n e) (add_at (find_in w n e) w n e)
    placed_one = go (find_in w n e) refl
      where
        go : (r : Option TypeNo) → find_in w n e ≡ r → placed w n (ty_of w e) ≡ stands_at (number_or (find_in w n e) n) (n + missing w n e) (add_at (find_in w n e) w n e)
        go (Some t) h = let z : n + 0 ≡ n = omega arith in found-placed t h ∙ sym (rw (h, missing_at w n e t h, z))
        go None h = new-placed h ∙ sym (rw (h, missing-none w n e h))

-- the outcome by what is missing
outcome-by : (place : ℕ) (w : List ℕ) (n : ℕ) (R : Ty) (k d : ℕ) (v : List ℕ) → placed w n R ≡ stands_at k (n + d) v
    → entering place w n R ≡ cond (leb d (free w n)) (record { answer = accept k (n + d); words = v }) (turned_down (NoRoom (lacking w n d)) place w n)
unfolding entering
outcome-by place w n R k d v e = let z : n + d - n ≡ d = omega arith in rw (e, z)

-- nothing missing always has room
any-room : (k : ℕ) (a b : Outcome) → cond (leb 0 k) a b ≡ a
any-room k a b = rw (le-leb 0 k (omega arith))

module _ (place : ℕ) (w : List ℕ) (n : ℕ) (s : Sound w n) where
  module _ (e : Entry) (ok : allowedb w n e ≡ true) where
    -- what `enter` gives is the outcome of its type
    pub enter-outcome : (r : Result Entered Lacks) (v : List ℕ) → EnterDone w n e r v → record { answer = entry_answer place r n; words = v } ≡ entering place w n (ty_of w e)
    unfolding entered enter_words
    enter-outcome r v d =
        (λ i. record { answer = entry_answer place (d.reply i) n; words = d.words i })
        ∙ go (leb (missing w n e) (free w n))
        ∙ sym (outcome-by place w n (ty_of w e) (number_or (find_in w n e) n) (missing w n e) (add_at (find_in w n e) w n e) (placed_one w n s e ok))
      where
        go : (b : Bool)
            → record { answer = entry_answer place (cond b (there (record { 0 = number_or (find_in w n e) n }) (n + missing w n e)) (lacks (lacking w n (missing w n e)))) n; words = cond b (add_at (find_in w n e) w n e) w }
            ≡ cond b (record { answer = accept (number_or (find_in w n e) n) (n + missing w n e); words = add_at (find_in w n e) w n e }) (turned_down (NoRoom (lacking w n (missing w n e))) place w n)
        go true = refl
        go false = refl

  -- AN ELEMENT AND ITS CONTAINER: what `enter_two` gives is the outcome of the container's type

  module _ (inner outer : Entry) (ok : allowedb w n inner ≡ true) (hold : holder outer ≡ true) (f : formed (made outer (ty_of w inner)) ≡ true)
      (words : (t : Ty) (k : ℕ) → entry_of (made outer t) k ≡ container outer k) where
    element : element_of (made outer (ty_of w inner)) ≡ (ty_of w inner)
    element = (holds outer hold (ty_of w inner)).element

    -- the element stands, and the container is one entry
    found-two : (t : TypeNo) → find_in w n inner ≡ Some t → (r : Result Entered Lacks) (v : List ℕ) → EnterTwoDone w n inner outer r v
        → record { answer = entry_answer place r n; words = v } ≡ entering place w n (made outer (ty_of w inner))
    found-two t h r v d =
        let a = at-type w n s inner ok t h in
        let o = container outer t.0 in
        let g : formed (made outer (type_at w t.0)) ≡ true = rw a.1 f in
        let x = two-found w n inner outer t h (entered w n o) (enter_words w n o) (record { reply = refl; words = refl }) in
        let y : EnterDone w n o r v = record { reply = d.reply ∙ sym x.reply; words = d.words ∙ sym x.words } in
        enter-outcome o (over-allowed outer hold w n s t.0 a.0 g) r v y
        ∙ ap (entering place w n) (over-type outer hold w n s t.0 a.0 g ∙ ap (made outer) a.1)

    -- the element is absent, and so is the container
    both-absent : find_in w n inner ≡ None → Absent w n (made outer (ty_of w inner))
    both-absent h i l q =
        let no : is_scalar (type_at w i) ≡ false = ap is_scalar q ∙ (holds outer hold (ty_of w inner)).above in
        let k = (entry_at w i).elem in
        let under : k < n = let x = elem_in w n s i l no in omega arith in
        none-absent w n s inner ok h k under (elem-of w n s i l no ∙ ap element_of q ∙ element)

    new_two : find_in w n inner ≡ None → placed w n (made outer (ty_of w inner)) ≡ stands_at (n + 1) (n + 2) (put_entry (put_entry w n inner) (n + 1) (container outer n))
    new_two h =
        let z : n + 1 + 1 ≡ n + 2 = omega arith in
        placed-over w n (made outer (ty_of w inner)) (holds outer hold (ty_of w inner)).above
        ∙ ap (placed_over w n (made outer (ty_of w inner))) (ap (placed w n) element ∙ new-placed w n s inner ok h)
        ∙ over-next w n (made outer (ty_of w inner)) (stands_at n (n + 1) (put_entry w n inner)) (stands-none w (made outer (ty_of w inner)) n (both-absent h))
        ∙ (λ i. stands_at (n + 1) (z i) (put_entry (put_entry w n inner) (n + 1) (words (ty_of w inner) n i)))

    absent-two : find_in w n inner ≡ None → (r : Result Entered Lacks) (v : List ℕ) → EnterTwoDone w n inner outer r v
        → record { answer = entry_answer place r n; words = v } ≡ entering place w n (made outer (ty_of w inner))
    absent-two h r v d =
        split (leb 2 (free w n))
        (λ b.
        let x = two-new w n inner outer s h (leb-true 2 (free w n) b) in
        (λ i. record { answer = entry_answer place ((d.reply ∙ sym x.reply) i) n; words = (d.words ∙ sym x.words) i }) ∙ sym (out ∙ rw b))
        (λ b.
        let x = two-full w n inner outer s h (leb-false 2 (free w n) b) in
        (λ i. record { answer = entry_answer place ((d.reply ∙ sym x.reply) i) n; words = (d.words ∙ sym x.words) i }) ∙ sym (out ∙ rw b))
      where
        out : entering place w n (made outer (ty_of w inner))
            ≡ cond (leb 2 (free w n)) (record { answer = accept (n + 1) (n + 2); words = put_entry (put_entry w n inner) (n + 1) (container outer n) }) (turned_down (NoRoom (lacking w n 2)) place w n)
        out = outcome-by place w n (made outer (ty_of w inner)) (n + 1) 2 (put_entry (put_entry w n inner) (n + 1) (container outer n)) (new_two h)

    pub enter-two-outcome : (r : Result Entered Lacks) (v : List ℕ) → EnterTwoDone w n inner outer r v → record { answer = entry_answer place r n; words = v } ≡ entering place w n (made outer (ty_of w inner))
    enter-two-outcome r v d = go (find_in w n inner) refl
      where
        go : (x : Option TypeNo) → find_in w n inner ≡ x → record { answer = entry_answer place r n; words = v } ≡ entering place w n (made outer (ty_of w inner))
        go (Some t) h = found-two t h r v d
        go None h = absent-two h r v d

  -- a type that stands already
  pub standing-outcome : (i : ℕ) (R : Ty) → i < n → type_at w i ≡ R → entering place w n R ≡ record { answer = accept i n; words = w }
  standing-outcome i R l e =
      let z : n ≡ n + 0 = omega arith in
      outcome-by place w n R i 0 w (placed_at w n s i R l e ∙ (λ j. stands_at i (z j) w))
      ∙ any-room (free w n) _ _
      ∙ (λ j. record { answer = accept i (sym z j); words = w })
