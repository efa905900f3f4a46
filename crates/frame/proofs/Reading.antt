-- What is read in the part after the header is what stands at the place of the whole sheet, test by test. Assumes nothing.
use Prim.Native.Nat.{ℕ, zero, suc, ◌+◌, ◌-◌, ◌<◌, ◌≤◌}
use mathlib.Core.Path.{◌≡◌, refl, sym, ◌∙◌, ap}
use mathlib.Core.Logic.{◌≢◌}
use mathlib.Core.Bool.{Bool, true, false, cond}
use mathlib.Core.List.{List}
use native.Mathlib.Omega.{arith}
use native.Mathlib.Nat.{add-zero}
use Rattle.std.proofs.Common.{Option, Some, None}
use lib.Dec.{ltb, leb, eqb}
use lib.ListN.{length, get_or, take, drop, length-take, length-drop}
use lib.Seq.{get_or-drop, get_or-take}
use borrow.Author.Tests.{le-leb, lt-leb, lt-ltb, le-ltb, eq-eqb, ne_eqb, eqb-true, eqb-false, ltb-false, leb-true}
use Rattle.answer.specs.declared.Place.{Place}
use Rattle.frame.specs.declared.Item.{Item}
use Rattle.frame.specs.declared.Item.TheVariants.{Push, Unary, Binary, Call, CallTemplate, Take, End, Bad}
use Rattle.frame.specs.declared.Part.{Part}
use Rattle.frame.specs.declared.Placed.{Placed}
use Rattle.frame.specs.declared.ShortItem.{ShortItem}
use Rattle.frame.specs.declared.ShortItem.TheVariants as brief
use Rattle.frame.specs.declared.Short.{Short}
use Rattle.frame.specs.Frame.{version2, marks, marked, header_size, place, part, type_no, still, follows, mark_bytes, mark_after, exactly, naming, payload_item, payload_at, item_at, is_item}
use Rattle.frame.specs.inner.Items.{sheet_of, short, short_by, short_of, item_of}
use Rattle.frame.specs.inner.Payloads.{placed, number_read, name_read, short_as}
use Rattle.frame.proofs.FrameLaws.{cond-elim, framed, own-place}
use Rattle.frame.proofs.Parts.{whole_length, whole-marked, whole-at, whole_part}

-- equal payloads of equal kinds, in sheets that both have marks or both have none, are one item
alike : (at : ℕ) {p q : List ℕ} {m o : Bool} {k l : ℕ} → p ≡ q → m ≡ o → k ≡ l → payload_item at p m k ≡ payload_item at q o l
alike at e f g = cc

-- below byte 3, and past the last byte, of any sheet
pub in-header : (s : List ℕ) (at : ℕ) → at < header_size → still Bad at ≡ item_at s at
unfolding item_at
in-header s at h = simp (lt-ltb _ _ h)

pub past_end : (s : List ℕ) (at : ℕ) → header_size ≤ at → length s ≤ at → still End at ≡ item_at s at
unfolding item_at
past_end s at u h = simp (le-ltb _ _ u, le-leb _ _ h)

module _ (v : ℕ) (items : List ℕ) (at : ℕ) where
  abbrev s : List ℕ
  s = sheet_of v items

  long : length s ≡ header_size + length items
  long = whole_length v items

  module _ (u : header_size ≤ at) where
    pub in_end : length items ≤ at - header_size → still End at ≡ item_at s at
    in_end h = past_end s at u (omega (arith, long))

    module _ (f : at - header_size < length items) (len : ℕ) (n : len ≡ get_or items (at - header_size) 0) where
      counts : len ≡ get_or s at 0
      counts = n ∙ sym (whole-at v items (at - header_size) at (omega arith))

      more : at < length s
      more = omega (arith, long)

      pub in-empty : len ≡ 0 → still Bad at ≡ item_at s at
      unfolding item_at
      in-empty h = simp (le-ltb _ _ u, lt-leb _ _ more, eq-eqb _ _ (sym counts ∙ h))

      module _ (k : len ≢ 0) where
        some : get_or s at 0 ≢ 0
        some e = k (counts ∙ e)

        pub in-long : length items - (at - header_size) ≤ len → still Bad at ≡ item_at s at
        unfolding item_at
        in-long h =
            let e : length s < at + 1 + get_or s at 0 = omega (arith, long, counts) in
            simp (le-ltb _ _ u, lt-leb _ _ more, ne_eqb _ _ some, lt-ltb _ _ e)

        pub in_item : len < length items - (at - header_size)
            → payload_item at (take (at - header_size + 1 + len - (at - header_size + 2)) (drop (at - header_size + 2) items)) (marks v) (get_or items (at - header_size + 1) 0) ≡ item_at s at
        unfolding item_at
        in_item h =
            let e : at + 1 + get_or s at 0 ≤ length s = omega (arith, long, counts) in
            let p = whole_part v items (at - header_size + 2) (at + 2) (at - header_size + 1 + len - (at - header_size + 2)) (get_or s at 0 - 1) (omega arith) (omega (arith, counts)) in
            let q = sym (whole-at v items (at - header_size + 1) (at + 1) (omega arith)) in
            simp (le-ltb _ _ u, lt-leb _ _ more, ne_eqb _ _ some, le-ltb _ _ e) (alike at p (sym (whole-marked v items)) q)

        -- by what was read of the payload
        module _ (h : len < length items - (at - header_size)) (m : Bool) (e : m ≡ marks v) where
          abbrev p : List ℕ
          p = take (at - header_size + 1 + len - (at - header_size + 2)) (drop (at - header_size + 2) items)

          abbrev kind : ℕ
          kind = get_or items (at - header_size + 1) 0

          pub in-none : still Bad at ≡ payload_item at p m kind → still Bad at ≡ item_at s at
          in-none f = f ∙ ap (λ (b : Bool). payload_item at p b kind) e ∙ in_item h

          pub in-some : (i : Item) → follows at p i ≡ payload_item at p m kind → record { item = i; at = place at; next = place (at + 1 + len) } ≡ item_at s at
          in-some i f =
              let n : at + 1 + len ≡ at + 2 + length p = omega (arith, length-take (at - header_size + 1 + len - (at - header_size + 2)) (drop (at - header_size + 2) items), length-drop (at - header_size + 2) items) in
              rw n (f ∙ ap (λ (b : Bool). payload_item at p b kind) e ∙ in_item h)

-- A PUSH OR AN OPERATOR: three bytes, or a push with a mark four

abbrev Bare : Placed → Type 0
Bare x = short_of x ≡ None

-- a short item with its bytes
abbrev pub sized : ℕ → Option ShortItem → Option Short
sized n (Some i) = Some (short i n)
sized n None = None

-- a kind below or above those three is none
pub as-none : (k n : ℕ) → short_as k n ≡ None → 1 ≤ k → k ≤ 3 → ⊥
as-none zero n e lo hi = omega arith
as-none (suc zero) n e lo hi = cc
as-none (suc (suc zero)) n e lo hi = cc
as-none (suc (suc (suc zero))) n e lo hi = cc
as-none (suc (suc (suc (suc k)))) n e lo hi = omega arith

pub as-some : (k n : ℕ) (i : ShortItem) → short_as k n ≡ Some i → (1 ≤ k) × (k ≤ 3)
as-some k n i =
    let P : Option ShortItem → Type 0 = λ o. o ≡ Some i → (1 ≤ k) × (k ≤ 3) in
    cond-elim P (eqb k 1) (λ a _. let q = eqb-true _ _ a in (omega arith, omega arith)) (λ _.
    cond-elim P (eqb k 2) (λ a _. let q = eqb-true _ _ a in (omega arith, omega arith)) (λ _.
    cond-elim P (eqb k 3) (λ a _. let q = eqb-true _ _ a in (omega arith, omega arith)) (λ _ e. absurd (cc))))

module _ (at : ℕ) (p : List ℕ) (m : Bool) where
  -- a payload of another kind, of another length, or with a byte that is no mark, is none
  no_short_lem : (k : ℕ) → (k ≡ 1 → length p ≡ 1 + mark_bytes m → mark_after m p 1 ≤ 1 → ⊥) → (2 ≤ k → k ≤ 3 → length p ≡ 1 → ⊥) → Bare (payload_item at p m k)
  unfolding payload_item short_of
  no_short_lem k push op =
      cond-elim Bare (eqb k 1) (λ a. cond-elim Bare (eqb (length p) (1 + mark_bytes m)) (λ b. cond-elim Bare (leb (mark_after m p 1) 1) (λ d. absurd (push (eqb-true _ _ a) (eqb-true _ _ b) (leb-true _ _ d))) (λ _. refl)) (λ _. refl)) (λ _.
      cond-elim Bare (eqb k 2) (λ a. operator 2 (Unary (get_or p 0 0)) a (omega arith) (omega arith)) (λ _.
      cond-elim Bare (eqb k 3) (λ a. operator 3 (Binary (get_or p 0 0)) a (omega arith) (omega arith)) (λ _.
      cond-elim Bare (eqb k 4) (λ _. cond-elim Bare (ltb 1 (length p)) (λ _. cond-elim Bare (leb (length p) 33) (λ _. refl) (λ _. refl)) (λ _. refl)) (λ _.
      cond-elim Bare (eqb k 5) (λ _. cond-elim Bare (ltb 2 (length p)) (λ _. cond-elim Bare (leb (length p) 34) (λ _. refl) (λ _. refl)) (λ _. refl)) (λ _.
      cond-elim Bare (eqb k 6) (λ _. cond-elim Bare (eqb (length p) (7 + mark_bytes m)) (λ _. cond-elim Bare (leb (mark_after m p 7) 1) (λ _. refl) (λ _. refl)) (λ _. refl)) (λ _. refl))))))
    where
      operator : (n : ℕ) (i : Item) → eqb k n ≡ true → 2 ≤ n → n ≤ 3 → Bare (cond (eqb (length p) 1) (follows at p i) (still Bad at))
      operator n i a lo hi = let e : k ≡ n = eqb-true _ _ a in cond-elim Bare (eqb (length p) 1) (λ b. absurd (op (omega arith) (omega arith) (eqb-true _ _ b))) (λ _. refl)

  -- one of the three kinds with one number
  plain-payload : (k : ℕ) → 1 ≤ k → k ≤ 3 → (k ≡ 1 → m ≡ false) → length p ≡ 1 → short_of (payload_item at p m k) ≡ sized 3 (short_as k (get_or p 0 0))
  unfolding payload_item short_of
  plain-payload zero lo hi h n = absurd (omega arith)
  plain-payload (suc zero) lo hi h n = rw (h refl) (simp (eq-eqb _ _ n) (ap (λ (n : ℕ). Some (short (brief.Push (type_no (get_or p 0 0)) false) n)) (omega arith)))
  plain-payload (suc (suc zero)) lo hi h n = simp (eq-eqb _ _ n) (ap (λ (n : ℕ). Some (short (brief.Unary (get_or p 0 0)) n)) (omega arith))
  plain-payload (suc (suc (suc zero))) lo hi h n = simp (eq-eqb _ _ n) (ap (λ (n : ℕ). Some (short (brief.Binary (get_or p 0 0)) n)) (omega arith))
  plain-payload (suc (suc (suc (suc k)))) lo hi h n = absurd (omega arith)

  -- a push with a mark
  marked-payload : m ≡ true → length p ≡ 2 → get_or p 1 0 ≤ 1 → short_of (payload_item at p m 1) ≡ Some (short (brief.Push (type_no (get_or p 0 0)) (eqb (get_or p 1 0) 1)) 4)
  unfolding payload_item short_of
  marked-payload h n l = rw h (simp (eq-eqb _ _ n, le-leb _ _ l) (ap (λ (n : ℕ). Some (short (brief.Push (type_no (get_or p 0 0)) (eqb (get_or p 1 0) 1)) n)) (omega arith)))

module _ (s : List ℕ) (at : ℕ) where
  payload-length : get_or s at 0 ≢ 0 → at + 1 + get_or s at 0 ≤ length s → length (payload_at s at) ≡ get_or s at 0 - 1
  payload-length d f = simp (length-take, length-drop) (omega (arith, d))

  payload-at : (i : ℕ) → i < get_or s at 0 - 1 → get_or (payload_at s at) i 0 ≡ get_or s (at + 2 + i) 0
  payload-at i h = get_or-take (get_or s at 0 - 1) (drop (at + 2) s) i 0 h ∙ get_or-drop (at + 2) s i 0

  none-at : (get_or s (at + 1) 0 ≡ 1 → get_or s at 0 ≡ 2 + mark_bytes (marked s) → at + 1 + get_or s at 0 ≤ length s → mark_after (marked s) (payload_at s at) 1 ≤ 1 → ⊥)
      → (2 ≤ get_or s (at + 1) 0 → get_or s (at + 1) 0 ≤ 3 → get_or s at 0 ≡ 2 → at + 1 + get_or s at 0 ≤ length s → ⊥) → Bare (item_at s at)
  unfolding item_at short_of
  none-at push op =
      cond-elim Bare (ltb at header_size) (λ _. refl) (λ _.
      cond-elim Bare (leb (length s) at) (λ _. refl) (λ _.
      cond-elim Bare (eqb (get_or s at 0) 0) (λ _. refl) (λ d.
      cond-elim Bare (ltb (length s) (at + 1 + get_or s at 0)) (λ _. refl) (λ f.
      let z : get_or s at 0 ≢ 0 = eqb-false _ _ d in
      let w : at + 1 + get_or s at 0 ≤ length s = ltb-false _ _ f in
      let n = payload-length z w in
      no_short_lem at (payload_at s at) (marked s) (get_or s (at + 1) 0) (λ k e l. push k (omega (arith, z)) w l) (λ lo hi e. op lo hi (omega (arith, z)) w)))))

  module _ (u : header_size ≤ at) (z : get_or s at 0 ≢ 0) (w : at + 1 + get_or s at 0 ≤ length s) where
    there : item_at s at ≡ payload_item at (payload_at s at) (marked s) (get_or s (at + 1) 0)
    unfolding item_at
    there = simp (le-ltb _ _ u, lt-leb (length s) at (omega (arith, z)), ne_eqb _ _ z, le-ltb _ _ w)

    by_kind : (k : ℕ) {x : Option Short} → get_or s (at + 1) 0 ≡ k → short_of (payload_item at (payload_at s at) (marked s) k) ≡ x → short_of (item_at s at) ≡ x
    by_kind k e h = ap short_of there ∙ ap (λ (n : ℕ). short_of (payload_item at (payload_at s at) (marked s) n)) e ∙ h

  module _ (u : header_size ≤ at) (l : at + 3 ≤ length s) where
    number_at : 2 ≤ get_or s at 0 → get_or (payload_at s at) 0 0 ≡ get_or s (at + 2) 0
    number_at h = payload-at 0 (omega arith) ∙ ap (λ (i : ℕ). get_or s i 0) (add-zero (at + 2))

    plain_at : get_or s at 0 ≡ 2 → (k : ℕ) → get_or s (at + 1) 0 ≡ k → 1 ≤ k → k ≤ 3 → (k ≡ 1 → marked s ≡ false) → short_of (item_at s at) ≡ sized 3 (short_as k (get_or s (at + 2) 0))
    plain_at two k e lo hi h =
        let z : get_or s at 0 ≢ 0 = λ q. omega (arith, q) in
        let n : length (payload_at s at) ≡ 1 = omega (arith, payload-length z (omega arith)) in
        by_kind u z (omega arith) k e (plain-payload at (payload_at s at) (marked s) k lo hi h n ∙ ap (λ (o : ℕ). sized 3 (short_as k o)) (number_at (omega arith)))

    marked-at : at + 4 ≤ length s → get_or s at 0 ≡ 3 → get_or s (at + 1) 0 ≡ 1 → marked s ≡ true → get_or s (at + 3) 0 ≤ 1
        → short_of (item_at s at) ≡ Some (short (brief.Push (type_no (get_or s (at + 2) 0)) (eqb (get_or s (at + 3) 0) 1)) 4)
    marked-at f three e m h =
        let z : get_or s at 0 ≢ 0 = λ q. omega (arith, q) in
        let n : length (payload_at s at) ≡ 2 = omega (arith, payload-length z (omega arith)) in
        let r : get_or (payload_at s at) 1 0 ≡ get_or s (at + 3) 0 = payload-at 1 (omega arith) ∙ ap (λ (i : ℕ). get_or s i 0) (omega arith) in
        by_kind u z (omega arith) 1 e (marked-payload at (payload_at s at) (marked s) m n (omega (arith, r)) ∙ rw (r, number_at (omega arith)))

module _ (v : ℕ) (items : List ℕ) (at : ℕ) where
  abbrev Shows : Option Short → Type 0
  Shows x = x ≡ short_of (item_at (sheet_of v items) at)

  pub short-header : at < header_size → Shows None
  unfolding short_of
  short-header h = ap short_of (in-header (sheet_of v items) at h)

  module _ (u : header_size ≤ at) where
    length_at : get_or (sheet_of v items) at 0 ≡ get_or items (at - header_size) 0
    length_at = whole-at v items (at - header_size) at (omega arith)

    kind_at : get_or (sheet_of v items) (at + 1) 0 ≡ get_or items (at - header_size + 1) 0
    kind_at = whole-at v items (at - header_size + 1) (at + 1) (omega arith)

    pub short-near : length items < at - header_size + 3 → Shows None
    short-near h = sym (none-at (sheet_of v items) at (λ k e w l. omega (arith, whole_length v items)) (λ lo hi e w. omega (arith, whole_length v items)))

    pub short-other : (1 ≤ get_or items (at - header_size + 1) 0 → get_or items (at - header_size + 1) 0 ≤ 3 → ⊥) → Shows None
    short-other h =
        sym (none-at (sheet_of v items) at (λ k e w l. h (omega (arith, kind_at)) (omega (arith, kind_at))) (λ lo hi e w. h (omega (arith, kind_at)) (omega (arith, kind_at))))

    -- a push without a mark, or an operator
    module _ (h : get_or items (at - header_size + 1) 0 ≡ 1 → marks v ≡ false) where
      unmarked : (k : ℕ) → get_or items (at - header_size + 1) 0 ≡ k → k ≡ 1 → marked (sheet_of v items) ≡ false
      unmarked k e f = whole-marked v items ∙ h (e ∙ f)

      pub short-long : get_or items (at - header_size) 0 ≢ 2 → Shows None
      short-long d =
          sym (none-at (sheet_of v items) at
          (λ k e w l. d (sym length_at ∙ e ∙ ap (λ (b : Bool). 2 + mark_bytes b) (unmarked 1 (sym kind_at ∙ k) refl))) (λ lo hi e w. d (sym length_at ∙ e)))

      pub short-is : at - header_size + 3 ≤ length items → get_or items (at - header_size) 0 ≡ 2 → 1 ≤ get_or items (at - header_size + 1) 0 → get_or items (at - header_size + 1) 0 ≤ 3
          → Shows (sized 3 (short_as (get_or items (at - header_size + 1) 0) (get_or items (at - header_size + 2) 0)))
      short-is l two lo hi =
          let k = get_or items (at - header_size + 1) 0 in
          let a = plain_at (sheet_of v items) at u (omega (arith, whole_length v items)) (length_at ∙ two) k kind_at lo hi (unmarked k refl) in
          sym (a ∙ ap (λ (o : ℕ). sized 3 (short_as k o)) (whole-at v items (at - header_size + 2) (at + 2) (omega arith)))

-- a push with a mark, by its first byte in the part after the header
module _ (items : List ℕ) (first : ℕ) where
  abbrev s2 : List ℕ
  s2 = sheet_of version2 items

  abbrev place2 : ℕ
  place2 = header_size + first

  abbrev Shows2 : Option Short → Type 0
  Shows2 x = x ≡ short_of (item_at s2 place2)

  has-marks : marked s2 ≡ true
  has-marks = whole-marked version2 items

  byte_at : (i : ℕ) → get_or s2 (place2 + i) 0 ≡ get_or items (first + i) 0
  byte_at i = whole-at version2 items (first + i) (place2 + i) (omega arith)

  length-there : get_or s2 place2 0 ≡ get_or items first 0
  length-there = whole-at version2 items first place2 refl

  module _ (kind : get_or items (first + 1) 0 ≡ 1) where
    -- no operator stands there, and a push has three bytes after its length byte
    none-marked : (get_or s2 place2 0 ≡ 3 → place2 + 4 ≤ length s2 → mark_after true (payload_at s2 place2) 1 ≤ 1 → ⊥) → Shows2 None
    none-marked push =
        sym (none-at s2 place2 (λ k e w l. let q = rw has-marks at e in push q (omega arith) (rw has-marks at l)) (λ lo hi e w. omega (arith, byte_at 1)))

    pub marked-long : get_or items first 0 ≢ 3 → Shows2 None
    marked-long h = none-marked (λ e w l. h (sym length-there ∙ e))

    pub marked-near : length items - first < 4 → Shows2 None
    marked-near h = none-marked (λ e w l. omega (arith, whole_length version2 items))

    pub marked-above : 1 < get_or items (first + 3) 0 → Shows2 None
    marked-above h =
        none-marked (λ e w l.
        let q : get_or (payload_at s2 place2) 1 0 ≡ get_or s2 (place2 + 2 + 1) 0 = payload-at s2 place2 1 (omega arith) in
        omega (arith, l, q, whole-at version2 items (first + 3) (place2 + 2 + 1) (omega arith)))

    pub marked-is : get_or items first 0 ≡ 3 → 4 ≤ length items - first → get_or items (first + 3) 0 ≤ 1
        → Shows2 (Some (short (brief.Push (type_no (get_or items (first + 2) 0)) (eqb (get_or items (first + 3) 0) 1)) 4))
    marked-is three l h =
        let n = whole_length version2 items in
        let a = marked-at s2 place2 (omega arith) (omega arith) (omega arith) (length-there ∙ three) (byte_at 1 ∙ kind) has-marks (omega (arith, byte_at 3)) in
        sym (a ∙ rw (byte_at 2, byte_at 3))

-- and the item that it stands for is the one at the place, with the next place after its bytes
back : (i : Item) (n : ℕ) (x : Short) → short_by i n ≡ Some x → (is_item i ≡ true) × (x.bytes ≡ n) × (i ≡ item_of x.item)
unfolding item_of
back (Push t r) n x e = let q : short (brief.Push t r) n ≡ x = cc in (refl, sym (ap (λ (y : Short). y.bytes) q), ap (λ (y : Short). item_of y.item) q)
back (Unary o) n x e = let q : short (brief.Unary o) n ≡ x = cc in (refl, sym (ap (λ (y : Short). y.bytes) q), ap (λ (y : Short). item_of y.item) q)
back (Binary o) n x e = let q : short (brief.Binary o) n ≡ x = cc in (refl, sym (ap (λ (y : Short). y.bytes) q), ap (λ (y : Short). item_of y.item) q)
back (Call count name) n x e = absurd (cc)
back (CallTemplate t count name) n x e = absurd (cc)
back (Take kind p q elem r) n x e = absurd (cc)
back End n x e = absurd (cc)
back Bad n x e = absurd (cc)

pub short-item : (s : List ℕ) (at : ℕ) (x : Short) → Some x ≡ short_of (item_at s at)
    → (at + x.bytes ≤ length s) × ((item_at s at).next.0 ≡ at + x.bytes) × ((item_at s at).item ≡ item_of x.item)
unfolding short_of
short-item s at x e =
    let i = item_at s at in
    let n : ℕ = i.next.0 - i.at.0 in
    let b = back i.item n x (sym e) in
    let f = framed s at b.0 in
    let k = b.1 in
    let o : i.at.0 ≡ at = ap (λ (y : Place). y.0) (own-place s at) in
    (omega (arith, f.after, f.within, k, o), omega (arith, f.after, k, o), b.2)

-- WHAT THE CODE READS of a payload is what the definition says of it

-- of a choice between something and nothing: which it was
was-none : {A : Type 0} (b : Bool) (x : A) → None ≡ cond b (Some x) None → b ≡ false
was-none true x e = absurd (cc)
was-none false x e = refl

was-some : {A : Type 0} (b : Bool) (x y : A) → Some y ≡ cond b (Some x) None → (b ≡ true) × (y ≡ x)
was-some true x y e = (refl, cc)
was-some false x y e = absurd (cc)

module _ (at : ℕ) (p : List ℕ) where
  pub no-kind : (m : Bool) (k : ℕ) → k ≢ 1 → k ≢ 2 → k ≢ 3 → k ≢ 4 → k ≢ 5 → k ≢ 6 → still Bad at ≡ payload_item at p m k
  unfolding payload_item
  no-kind m k a b d e f g = simp (ne_eqb _ _ a, ne_eqb _ _ b, ne_eqb _ _ d, ne_eqb _ _ e, ne_eqb _ _ f, ne_eqb _ _ g)

  module _ (i : ℕ → Item) where
    pub no-number : None ≡ number_read p → still Bad at ≡ exactly at p 1 (i (get_or p 0 0))
    no-number e = rw (was-none _ _ e)

    pub a-number : (n : ℕ) → Some n ≡ number_read p → follows at p (i n) ≡ exactly at p 1 (i (get_or p 0 0))
    a-number n e = let z = was-some _ _ _ e in rw (z.0, z.1)

  module _ (k : ℕ) (i : Part → Item) where
    abbrev named : Option Part → Option Item
    named (Some n) = Some (i n)
    named None = None

    by-tests : (b d : Bool) (o : Option Part) → o ≡ cond b (cond d (Some (part (at + 2 + k) (length p - k))) None) None
        → placed at p (named o) ≡ cond b (cond d (follows at p (i (part (at + 2 + k) (length p - k)))) (still Bad at)) (still Bad at)
    by-tests true true o e = rw e
    by-tests true false o e = rw e
    by-tests false d o e = rw e

    pub no-name : None ≡ name_read (at + 2) p k → still Bad at ≡ naming at p k i
    no-name e = by-tests _ _ None e

    pub a-name : (n : Part) → Some n ≡ name_read (at + 2) p k → follows at p (i n) ≡ naming at p k i
    a-name n e = by-tests _ _ (Some n) e
