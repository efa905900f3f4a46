-- Entering an element and its container, in types: what stands afterwards, when room lacks, and that nothing else changes. Assumes nothing.
use Prim.Native.Nat.{ℕ, ◌+◌, ◌*◌, ◌≤◌, ◌<◌}
use mathlib.Core.Path.{◌≡◌, refl, sym, ◌∙◌, ap}
use mathlib.Core.Bool.{Bool, true, false, ◌&&◌, ◌||◌, not}
use mathlib.Core.List.{List}
use native.Mathlib.Omega.{arith}
use lib.ListN.{length}
use lib.Dec.{leb, ltb, eqb}
use borrow.Author.Tests.{lt-leb, ltb-true, ltb-false, leb-true, leb-false, not-true}
use Rattle.conv.specs.Types.{Ty, formed}
use Rattle.table.specs.Table.{stride, ceiling, kind_vec, kind_mat, kind_atomic, kind_exchange, entry_at, put_entry, find_in, allowedb, Sound}
use Rattle.table.specs.Denote.{made, type_at, ty_of}
use Rattle.table.specs.Enter.{free, lacking, entered, enter_words, container, missing_two, entered_two, enter_two_words, EnterTwoDone}
use Rattle.table.specs.Stands.{Absent, Part, Stands}
use Rattle.conv.specs.Rank.{element_of}
use Rattle.table.specs.Stands.Part.{inside}
use Rattle.table.specs.declared.Entry.{Entry}
use Rattle.answer.specs.declared.TypeNo.{TypeNo}
use Rattle.std.specs.Prelude.{Option, Some, None}
use Rattle.table.specs.Enter.{there, lacks}
use Rattle.table.proofs.SoundLaws.{and_left, and_right}
use Rattle.table.proofs.KindLaws.{split, clash, by_kind, is_scalar}
use Rattle.table.proofs.TypeLaws.{type-keeps, elem-of, elem_in}
use Rattle.table.proofs.FormedLaws.{clean, clean-above}
use Rattle.table.proofs.EnterCases.{there_same, lacks_same, free-room, outer-absent, two-found, two-full, two-new}
use Rattle.table.proofs.EnterLaws.{ty-made, part_same, part-trans, allow, found_at, at-type, new-stands, one-stands, one-present}

-- a container: its unused words are 0, and its elem may be of any form (no vector, matrix, atomic or result of an exchange)
unfoldable pub holder : Entry → Bool
holder e = clean e && not (eqb e.kind kind_vec || eqb e.kind kind_mat || eqb e.kind kind_atomic || eqb e.kind kind_exchange)

-- over its element t, a container's elem word plays no part, and its element is t
pub record Holds (outer : Entry) (t : Ty) : Type 0 where
  pub any : (k : ℕ) → made (container outer k) t ≡ made outer t
  pub above : is_scalar (made outer t) ≡ false
  pub element : element_of (made outer t) ≡ t

module _ (outer : Entry) (hold : holder outer ≡ true) where
  pub holder-clean : clean outer ≡ true
  unfolding holder
  holder-clean = and_left _ _ hold

  no-component : (eqb outer.kind kind_vec || eqb outer.kind kind_mat || eqb outer.kind kind_atomic || eqb outer.kind kind_exchange) ≡ false
  unfolding holder
  no-component = not-true _ (and_right (clean outer) _ hold)

  pub holds : (t : Ty) → Holds outer t
  unfolding made is_scalar element_of clean
  holds t =
      by_kind outer.kind
      (λ k. clash refl (rw k at no-component))
      (λ k. clash refl (rw k at no-component))
      (λ k. record { any = λ j. rw k refl; above = rw k refl; element = rw k refl })
      (λ k. record { any = λ j. rw k refl; above = rw k refl; element = rw k refl })
      (λ k. clash refl (rw k at no-component))
      (λ k. record { any = λ j. rw k refl; above = rw k refl; element = rw k refl })
      (λ k. record { any = λ j. rw k refl; above = rw k refl; element = rw k refl })
      (λ k. record { any = λ j. rw k refl; above = rw k refl; element = rw k refl })
      (λ k. record { any = λ j. rw k refl; above = rw k refl; element = rw k refl })
      (λ k. clash refl (rw k at no-component))
      (λ n1 n2 n3 n4 n5 n6 n7 n8 n9 n10. clash holder-clean (rw (n1, n2, n3, n4, n5, n6, n7, n8, n9, n10)))

  -- over the number of an element that it may have, the container is allowed, and stands for its type
  module _ (v : List ℕ) (m : ℕ) (s : Sound v m) (k : ℕ) (l : k < m) (f : formed (made outer (type_at v k)) ≡ true) where
    pub over-type : ty_of v (container outer k) ≡ made outer (type_at v k)
    over-type = ty-made v (container outer k) (clean-above outer holder-clean) ∙ (holds (type_at v k)).any k

    over-clean : clean (container outer k) ≡ true
    unfolding clean
    over-clean = holder-clean

    pub over-allowed : allowedb v m (container outer k) ≡ true
    over-allowed = allow v m s (container outer k) over-clean l (ap formed ((holds (type_at v k)).any k) ∙ f)

-- one entering after another
pub stands_after : {w u v : List ℕ} {n k m t j : ℕ} {I R : Ty} → Stands w n I k m u → Part I R → Stands u m R t j v → Stands w n R t j v
stands_after {w} {u} {v} {n} {k} {m} {t} {j} {I} {R} a p b =
    let g1 = a.grows in
    let g2 = b.grows in
    record {
      sound = b.sound;
      below = b.below;
      stands = b.stands;
      grows = omega arith;
      keeps = λ i l. b.keeps i (omega arith) ∙ a.keeps i l;
      long = b.long ∙ a.long;
      beyond = λ i l. b.beyond i l ∙ a.beyond i (omega arith);
      added = λ i lo hi.
          split (ltb i m)
          (λ c. let h = ltb-true i m c in part-trans (part_same (type-keeps u v m b.keeps i h)) (part-trans (a.added i lo h) p))
          (λ c. b.added i (ltb-false _ _ c) hi);
    }

-- room is lacking exactly when fewer entries are free than are missing, and then no word changes
pub two-lacks : (w : List ℕ) (n : ℕ) (inner outer : Entry) (k : ℕ) → entered_two w n inner outer ≡ lacks k
    → (free w n < missing_two w n inner outer) × (k ≡ lacking w n (missing_two w n inner outer)) × (enter_two_words w n inner outer ≡ w)
unfolding entered_two enter_two_words
two-lacks w n inner outer k h =
    split (leb (missing_two w n inner outer) (free w n))
    (λ b. absurd (let q = rw b at h in let z : ◌≡◌ {A = ℕ} 0 1 = cc in omega arith))
    (λ b. (leb-false _ _ b, (let q = rw b at h in lacks_same (sym q)), rw b))

pub lacks-two : (w : List ℕ) (n : ℕ) (inner outer : Entry) → free w n < missing_two w n inner outer → entered_two w n inner outer ≡ lacks (lacking w n (missing_two w n inner outer))
unfolding entered_two
lacks-two w n inner outer h = rw (lt-leb _ _ h)

-- only what is missing is added
pub two-count : (w : List ℕ) (n : ℕ) (inner outer : Entry) (t : TypeNo) (m : ℕ) → entered_two w n inner outer ≡ there t m → m ≡ n + missing_two w n inner outer
unfolding entered_two
two-count w n inner outer t m h =
    split (leb (missing_two w n inner outer) (free w n))
    (λ b. let q = rw b at h in (there_same (sym q)).1)
    (λ b. absurd (let q = rw b at h in let z : ◌≡◌ {A = ℕ} 0 1 = cc in omega arith))

module _ (w : List ℕ) (n : ℕ) (s : Sound w n) (inner outer : Entry) (ok : allowedb w n inner ≡ true) (hold : holder outer ≡ true)
    (f : formed (made outer (ty_of w inner)) ≡ true) where
  -- the element at its number, and the container over it
  module _ (k : ℕ) (l : k < n) (q : type_at w k ≡ ty_of w inner) where
    f-at : formed (made outer (type_at w k)) ≡ true
    f-at = rw q f

    present-allowed : allowedb w n (container outer k) ≡ true
    present-allowed = over-allowed outer hold w n s k l f-at

    present-type : ty_of w (container outer k) ≡ made outer (ty_of w inner)
    present-type = over-type outer hold w n s k l f-at ∙ ap (made outer) q

  -- both are new
  both : find_in w n inner ≡ None → n + 2 ≤ ceiling → (n + 2) * stride ≤ length w →
      Stands w n (made outer (ty_of w inner)) (n + 1) (n + 2) (put_entry (put_entry w n inner) (n + 1) (container outer n))
  both h high room =
      let u = put_entry w n inner in
      let a = new-stands w n s inner ok h (omega arith) (omega arith) in
      let k : n < n + 1 = omega arith in
      let fo : formed (made outer (type_at u n)) ≡ true = rw a.stands f in
      let e : n + 1 + 1 ≡ n + 2 = omega arith in
      let long : length u ≡ length w = a.long in
      let none = outer-absent u (n + 1) a.sound n s.low (omega arith) outer in
      let b = new-stands u (n + 1) a.sound (container outer n) (over-allowed outer hold u (n + 1) a.sound n k fo) none (omega arith) (omega arith) in
      let ty = over-type outer hold u (n + 1) a.sound n k fo ∙ ap (made outer) a.stands in
      stands_after a (inside (part_same (sym (holds outer hold (ty_of w inner)).element))) (rw (ty, e) at b)

  -- an accepted entering
  pub two-stands : (t : TypeNo) (m : ℕ) → entered_two w n inner outer ≡ there t m →
      Stands w n (made outer (ty_of w inner)) t.0 m (enter_two_words w n inner outer)
  two-stands t m q = go (find_in w n inner) refl
    where
      go : (r : Option TypeNo) → find_in w n inner ≡ r → Stands w n (made outer (ty_of w inner)) t.0 m (enter_two_words w n inner outer)
      go (Some u) h =
          let a = at-type w n s inner ok u h in
          let o = container outer u.0 in
          let d = two-found w n inner outer u h (entered w n o) (enter_words w n o) (record { reply = refl; words = refl }) in
          rw (← d.words, ← present-type u.0 a.0 a.1)
          (one-stands w n s o (present-allowed u.0 a.0 a.1) t m (d.reply ∙ q))
      go None h =
          split (leb 2 (free w n))
          (λ b.
          let l : 2 ≤ free w n = leb-true _ _ b in
          let d = two-new w n inner outer s h l in
          let tu : t ≡ record { 0 = n + 1 } = (there_same (sym q ∙ sym d.reply)).0 in
          let mn : m ≡ n + 2 = (there_same (sym q ∙ sym d.reply)).1 in
          let r = free-room w n 2 (omega arith) l in
          rw (tu, mn, ← d.words) (both h r.0 r.1))
          (λ b.
          let d = two-full w n inner outer s h (leb-false _ _ b) in
          absurd (let z : ◌≡◌ {A = ℕ} 0 1 = cc in omega arith))

  -- a container that stands already is found, and nothing is added
  pub two-present : (t : ℕ) → t < n → type_at w t ≡ made outer (ty_of w inner) → EnterTwoDone w n inner outer (there (record { 0 = t }) n) w
  two-present t l q =
      let g = holds outer hold (ty_of w inner) in
      let no : is_scalar (type_at w t) ≡ false = ap is_scalar q ∙ g.above in
      let k = (entry_at w t).elem in
      let under : k < n = let x = elem_in w n s t l no in omega arith in
      let at : type_at w k ≡ ty_of w inner = elem-of w n s t l no ∙ ap element_of q ∙ g.element in
      let o = container outer k in
      two-found w n inner outer _ (found_at w n s inner ok k under at) _ _
      (one-present w n s o (present-allowed k under at) t l (q ∙ sym (present-type k under at)))

  -- room lacks only for a container that is absent
  pub two-full-absent : (k : ℕ) → entered_two w n inner outer ≡ lacks k → Absent w n (made outer (ty_of w inner))
  two-full-absent k q i l h =
      let d = two-present i l h in
      let z : ◌≡◌ {A = ℕ} 0 1 = cc in omega arith

  -- the same of what `enter_two` promises
  pub enter-two-stands : {t : TypeNo} {m : ℕ} {v : List ℕ} → EnterTwoDone w n inner outer (there t m) v → Stands w n (made outer (ty_of w inner)) t.0 m v
  enter-two-stands {t} {m} d = rw d.words (two-stands t m (sym d.reply))

  pub enter-two-refuses : {k : ℕ} {v : List ℕ} → EnterTwoDone w n inner outer (lacks k) v →
      Absent w n (made outer (ty_of w inner)) × (free w n < missing_two w n inner outer) × (k ≡ lacking w n (missing_two w n inner outer)) × (v ≡ w)
  enter-two-refuses {k} d =
      let f = sym d.reply in
      let x = two-lacks w n inner outer k f in
      (two-full-absent k f, x.0, x.1, d.words ∙ x.2)
