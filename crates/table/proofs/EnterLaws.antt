-- Entering one entry, in types: what stands afterwards, when room lacks, and that nothing else changes. Assumes nothing.
use Prim.Native.Nat.{ℕ, ◌+◌, ◌*◌, ◌≤◌, ◌<◌}
use mathlib.Core.Path.{◌≡◌, refl, sym, ◌∙◌, ap}
use mathlib.Core.Bool.{true, ◌&&◌}
use mathlib.Core.List.{List}
use mathlib.Core.Logic.{◌≢◌}
use native.Mathlib.Omega.{arith}
use lib.ListN.{length, get_or}
use lib.Seq.{get_or-set_other}
use lib.Dec.{leb, ltb, eqb}
use borrow.Author.Tests.{le-ltb, lt-ltb, lt-leb, ltb-true, ltb-false, leb-true, leb-false, eqb-true}
use Rattle.conv.specs.Types.{Ty, is_width, is_float, formed}
use Rattle.conv.specs.Types.Ty.{scalar}
use Rattle.table.specs.Table.{stride, scalars, ceiling, kind_vec, kind_mat, entry_at, put_entry, Key, entry_key, scalar_ok, made_ok, entry_ok, find_in, allowedb, Sound, Keeps}
use Rattle.table.specs.Denote.{made, type_at, ty_of}
use Rattle.table.specs.Enter.{free, lacking, missing, entered, enter_words, EnterDone}
use Rattle.table.specs.Stands.{Absent, Part, Stands}
use Rattle.conv.specs.Rank.{element_of}
use Rattle.table.specs.Stands.Part.{whole, inside}
use Rattle.table.specs.declared.Entry.{Entry}
use Rattle.answer.specs.declared.TypeNo.{TypeNo}
use Rattle.std.specs.Prelude.{Option, Some, None}
use Rattle.table.specs.Enter.{there, lacks}
use Rattle.table.proofs.TableLaws.{elem_of}
use Rattle.table.proofs.SoundLaws.{and_left, and_right, find_at, find-unique, put-length, put_keeps, put-entry, put-sound}
use Rattle.table.proofs.KindLaws.{split, is_scalar}
use Rattle.table.proofs.TypeLaws.{Words, same_key, row_words, type-scalar, type-keeps, scalar-key, type-made, type-words, type-above, scalar-number, type-injective}
use Rattle.table.proofs.FormedLaws.{clean, clean-above, allowed-formed, allowed-row}
use Rattle.table.proofs.EnterCases.{there_same, lacks_same, free-room, missing_at, missing-none, enter-found, enter-full, enter-new, elem_below}

-- the type of an entry depends on its key alone
pub ty-key : (w : List ℕ) (a b : Entry) → entry_key a ≡ entry_key b → ty_of w a ≡ ty_of w b
unfolding ty_of made
ty-key w a b h = ap (λ (k : Key). ty_of w (record { kind = k.kind; p = k.p; q = k.q; elem = k.elem })) h

pub ty-made : (w : List ℕ) (e : Entry) → scalars ≤ e.kind → ty_of w e ≡ made e (type_at w e.elem)
unfolding ty_of
ty-made w e h = rw (le-ltb e.kind scalars h)

pub ty-scalar : (w : List ℕ) (e : Entry) → e.kind < scalars → ty_of w e ≡ scalar e.kind
unfolding ty_of
ty-scalar w e h = rw (lt-ltb e.kind scalars h)

-- equal types are parts of each other, and parts of parts are parts
pub part_same : {t R : Ty} → t ≡ R → Part t R
part_same {t} {R} h = rw (← h) whole

pub part-trans : {a b c : Ty} → Part a b → Part b c → Part a c
part-trans x whole = x
part-trans x (inside y) = inside (part-trans x y)

-- writing an entry changes no word behind it
put-beyond : (w : List ℕ) (i : ℕ) (e : Entry) (k : ℕ) → (i + 1) * stride ≤ k → get_or (put_entry w i e) k 0 ≡ get_or w k 0
put-beyond w i e k l =
    let a : k ≢ i * stride = omega arith in
    let b : k ≢ i * stride + 1 = omega arith in
    let c : k ≢ i * stride + 2 = omega arith in
    let d : k ≢ i * stride + 3 = omega arith in
    simp get_or-set_other

-- room is lacking exactly when fewer entries are free than are missing, and then no word changes
pub enter-lacks : (w : List ℕ) (n : ℕ) (e : Entry) (k : ℕ) → entered w n e ≡ lacks k → (free w n < missing w n e) × (k ≡ lacking w n (missing w n e)) × (enter_words w n e ≡ w)
unfolding entered enter_words
enter-lacks w n e k h =
    split (leb (missing w n e) (free w n))
    (λ b. absurd (let q = rw b at h in let z : ◌≡◌ {A = ℕ} 0 1 = cc in omega arith))
    (λ b. (leb-false _ _ b, (let q = rw b at h in lacks_same (sym q)), rw b))

pub lacks-enter : (w : List ℕ) (n : ℕ) (e : Entry) → free w n < missing w n e → entered w n e ≡ lacks (lacking w n (missing w n e))
unfolding entered
lacks-enter w n e h = rw (lt-leb _ _ h)

-- only what is missing is added
pub enter-count : (w : List ℕ) (n : ℕ) (e : Entry) (t : TypeNo) (m : ℕ) → entered w n e ≡ there t m → m ≡ n + missing w n e
unfolding entered
enter-count w n e t m h =
    split (leb (missing w n e) (free w n))
    (λ b. let q = rw b at h in (there_same (sym q)).1)
    (λ b. absurd (let q = rw b at h in let z : ◌≡◌ {A = ℕ} 0 1 = cc in omega arith))

-- an entry of the table stands for the type of its number
pub ty_at : (w : List ℕ) (n : ℕ) → Sound w n → (i : ℕ) → i < n → ty_of w (entry_at w i) ≡ type_at w i
ty_at w n s i l =
    split (ltb i scalars)
    (λ t.
    let h = ltb-true i scalars t in
    let k : (entry_at w i).kind ≡ i = ap (λ (k : Key). k.kind) (scalar-key w n s i h) in
    ty-scalar w (entry_at w i) (omega arith) ∙ ap scalar k ∙ sym (type-scalar w i h))
    (λ t.
    let h : scalars ≤ i = ltb-false _ _ t in
    ty-made w (entry_at w i) (type-words w n s i h l).high ∙ sym (type-made w n s i h l))

-- a number in use stands for its type, with nothing entered
pub stands_here : (w : List ℕ) (n : ℕ) → Sound w n → (i : ℕ) → i < n → Stands w n (type_at w i) i n w
stands_here w n s i l =
    record {
      sound = s;
      below = l;
      stands = refl;
      grows = omega arith;
      keeps = λ k h. refl;
      long = refl;
      beyond = λ k h. refl;
      added = λ j lo hi. absurd (let z : ◌≡◌ {A = ℕ} 0 1 = omega arith in omega arith);
    }

module _ (w : List ℕ) (n : ℕ) (s : Sound w n) where
  -- an entry is allowed where its unused words are 0 and its type is formed
  pub allow : (e : Entry) → clean e ≡ true → e.elem < n → formed (made e (type_at w e.elem)) ≡ true → allowedb w n e ≡ true
  allow e c l f =
      let k = clean-above e c in
      rw (allowed-formed w n s e k l, c, ty-made w e k) f

  pub allow-vec : (k c : ℕ) → is_width k ≡ true → c < scalars → allowedb w n (record { kind = kind_vec; p = k; q = 0; elem = c }) ≡ true
  unfolding clean made formed
  allow-vec k c h l = allow (record { kind = kind_vec; p = k; q = 0; elem = c }) refl (omega (arith, s.low)) (rw (h, lt-ltb c scalars l))

  pub allow-mat : (c r k : ℕ) → is_width c ≡ true → is_width r ≡ true → is_float k ≡ true → k < scalars →
      allowedb w n (record { kind = kind_mat; p = c; q = r; elem = k }) ≡ true
  unfolding clean made formed
  allow-mat c r k h i f l = allow (record { kind = kind_mat; p = c; q = r; elem = k }) refl (omega (arith, s.low)) (rw (h, i, f))

  module _ (e : Entry) (ok : allowedb w n e ≡ true) where
    -- a scalar kind is the scalar's entry
    scalar-there : e.kind < scalars → entry_key (entry_at w e.kind) ≡ entry_key e
    unfolding allowedb
    scalar-there h =
        let r : scalar_ok e.kind e ≡ true = rw (lt-ltb e.kind scalars h) at ok in
        let p : e.p ≡ 0 = eqb-true _ _ (and_right (eqb e.kind e.kind) _ (and_left _ _ (and_left _ _ r))) in
        let q : e.q ≡ 0 = eqb-true _ _ (and_right (eqb e.kind e.kind && eqb e.p 0) _ (and_left _ _ r)) in
        let m : e.elem ≡ 0 = eqb-true _ _ (and_right (eqb e.kind e.kind && eqb e.p 0 && eqb e.q 0) _ r) in
        scalar-key w n s e.kind h ∙ (λ d. record { kind = e.kind; p = sym p d; q = sym q d; elem = sym m d })

    -- the words of an allowed entry, from its type
    pub entry-words : scalars ≤ e.kind → Words e (made e (type_at w e.elem)) (type_at w e.elem)
    unfolding made_ok
    entry-words k =
        row_words e (type_at w e.elem) (λ c. type-scalar w e.elem c) _ _
        (and_right (ltb e.elem n) _ (allowed-row w n s e k ok).1)

    -- the type stands in the table only under the entry's key
    key-of-type : (i : ℕ) → i < n → type_at w i ≡ ty_of w e → entry_key (entry_at w i) ≡ entry_key e
    key-of-type i l h =
        split (ltb e.kind scalars)
        (λ b.
        let k = ltb-true e.kind scalars b in
        let j : i ≡ e.kind = scalar-number w n s i l e.kind (h ∙ ty-scalar w e k) in
        rw j (scalar-there k))
        (λ b.
        let k : scalars ≤ e.kind = ltb-false _ _ b in
        let q : type_at w i ≡ made e (type_at w e.elem) = h ∙ ty-made w e k in
        let y = entry-words k in
        let hi = type-above w n s i l (ap is_scalar q ∙ y.above) in
        let x = type-words w n s i hi l in
        let r : elem_of w i < n = elem_below w n s i l n s.low (omega arith) in
        same_key (entry_at w i) e x y q
        (type-injective w n s (elem_of w i) e.elem r (allowed-row w n s e k ok).0 (sym x.elem ∙ ap element_of q ∙ y.elem)))

    -- finding an entry is finding its type
    pub found_at : (i : ℕ) → i < n → type_at w i ≡ ty_of w e → find_in w n e ≡ Some (record { 0 = i })
    found_at i l h = find-unique w n s i e l (key-of-type i l h)

    pub at-type : (t : TypeNo) → find_in w n e ≡ Some t → (t.0 < n) × (type_at w t.0 ≡ ty_of w e)
    at-type t h =
        let a = find_at w e n t h in
        (a.0, sym (ty_at w n s t.0 a.0) ∙ ty-key w _ _ a.1)

    pub none-absent : find_in w n e ≡ None → Absent w n (ty_of w e)
    none-absent h i l q = let f = found_at i l q in let z : ◌≡◌ {A = ℕ} 0 1 = cc in omega arith

    pub absent_none : Absent w n (ty_of w e) → find_in w n e ≡ None
    absent_none a = go (find_in w n e) refl
      where
        go : (r : Option TypeNo) → find_in w n e ≡ r → find_in w n e ≡ None
        go (Some t) k = let d = at-type t k in absurd (a t.0 d.0 d.1)
        go None k = k

    pub missing-absent : Absent w n (ty_of w e) → missing w n e ≡ 1
    missing-absent a = missing-none w n e (absent_none a)

    pub missing-present : (i : ℕ) → i < n → type_at w i ≡ ty_of w e → missing w n e ≡ 0
    missing-present i l h = missing_at w n e _ (found_at i l h)

    -- the entry's type stays when the table grows
    pub ty-keeps : (v : List ℕ) → Keeps w v n → ty_of v e ≡ ty_of w e
    ty-keeps v k =
        split (ltb e.kind scalars)
        (λ b. let h = ltb-true e.kind scalars b in ty-scalar v e h ∙ sym (ty-scalar w e h))
        (λ b.
        let h : scalars ≤ e.kind = ltb-false _ _ b in
        ty-made v e h ∙ ap (made e) (type-keeps w v n k e.elem (allowed-row w n s e h ok).0) ∙ sym (ty-made w e h))

    -- an absent entry is no scalar, and is as its row says
    next-ok : find_in w n e ≡ None → entry_ok w n e ≡ true
    unfolding entry_ok
    next-ok f =
        split (ltb e.kind scalars)
        (λ b.
        let k = ltb-true e.kind scalars b in
        absurd (none-absent f e.kind (omega (arith, s.low)) (type-scalar w e.kind k ∙ sym (ty-scalar w e k))))
        (λ b. rw (le-ltb n scalars s.low) (allowed-row w n s e (ltb-false _ _ b) ok).1)

    found-stands : (t : TypeNo) → find_in w n e ≡ Some t → Stands w n (ty_of w e) t.0 n w
    found-stands t h = let a = at-type t h in rw (← a.1) (stands_here w n s t.0 a.0)

    pub new-stands : find_in w n e ≡ None → n + 1 ≤ ceiling → (n + 1) * stride ≤ length w → Stands w n (ty_of w e) n (n + 1) (put_entry w n e)
    new-stands f high room =
        let v = put_entry w n e in
        let keeps = put_keeps w n e in
        let sv : Sound v (n + 1) = put-sound w n e s (next-ok f) f high room in
        let at : type_at v n ≡ ty_of w e = sym (ty_at v (n + 1) sv n (omega arith)) ∙ ap (ty_of v) (put-entry w n e room) ∙ ty-keeps v keeps in
        record {
          sound = sv;
          below = omega arith;
          stands = at;
          grows = omega arith;
          keeps = keeps;
          long = put-length w n e;
          beyond = put-beyond w n e;
          added = λ i lo hi. let q : i ≡ n = omega arith in part_same (ap (type_at v) q ∙ at);
        }

    -- an accepted entering
    pub one-stands : (t : TypeNo) (m : ℕ) → entered w n e ≡ there t m → Stands w n (ty_of w e) t.0 m (enter_words w n e)
    one-stands t m q = go (find_in w n e) refl
      where
        go : (r : Option TypeNo) → find_in w n e ≡ r → Stands w n (ty_of w e) t.0 m (enter_words w n e)
        go (Some u) f =
            let d = enter-found w n e u f in
            let tu : t ≡ u = (there_same (sym q ∙ sym d.reply)).0 in
            let mn : m ≡ n = (there_same (sym q ∙ sym d.reply)).1 in
            rw (tu, mn, ← d.words) (found-stands u f)
        go None f =
            split (leb 1 (free w n))
            (λ b.
            let l : 1 ≤ free w n = leb-true _ _ b in
            let d = enter-new w n e f l in
            let tu : t ≡ record { 0 = n } = (there_same (sym q ∙ sym d.reply)).0 in
            let mn : m ≡ n + 1 = (there_same (sym q ∙ sym d.reply)).1 in
            let r = free-room w n 1 (omega arith) l in
            rw (tu, mn, ← d.words) (new-stands f r.0 r.1))
            (λ b.
            let d = enter-full w n e f (leb-false _ _ b) in
            absurd (let z : ◌≡◌ {A = ℕ} 0 1 = cc in omega arith))

    -- a type that stands already is found, and nothing is added
    pub one-present : (t : ℕ) → t < n → type_at w t ≡ ty_of w e → EnterDone w n e (there (record { 0 = t }) n) w
    one-present t l h = enter-found w n e _ (found_at t l h)

    -- room lacks only for a type that is absent
    pub one-full : (k : ℕ) → entered w n e ≡ lacks k → Absent w n (ty_of w e)
    one-full k q i l h =
        let d = one-present i l h in
        let z : ◌≡◌ {A = ℕ} 0 1 = cc in omega arith

    -- the same of what `enter` promises
    pub enter-stands : {t : TypeNo} {m : ℕ} {v : List ℕ} → EnterDone w n e (there t m) v → Stands w n (ty_of w e) t.0 m v
    enter-stands {t} {m} d = rw d.words (one-stands t m (sym d.reply))

    pub enter-refuses : {k : ℕ} {v : List ℕ} → EnterDone w n e (lacks k) v → Absent w n (ty_of w e) × (free w n < missing w n e) × (k ≡ lacking w n (missing w n e)) × (v ≡ w)
    enter-refuses {k} d =
        let f = sym d.reply in
        let x = enter-lacks w n e k f in
        (one-full k f, x.0, x.1, d.words ∙ x.2)

-- what is added was absent
pub added-absent : {w v : List ℕ} {n t m : ℕ} {R : Ty} → Stands w n R t m v → (i : ℕ) → n ≤ i → i < m → Absent w n (type_at v i)
added-absent {w} {v} {n} {t} {m} g i lo hi j l h =
    let q : j ≡ i = type-injective v m g.sound j i (omega (arith, g.grows)) hi (type-keeps w v n g.keeps j l ∙ h) in
    omega arith
