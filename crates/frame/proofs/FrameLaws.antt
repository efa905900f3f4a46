-- What every well-framed item keeps: its own place, a next place after it and within the sheet, and a name that ends where the item ends.
-- What the header and the end say of the sheet's length. One law goes by the tests of the definitions, and the others follow from it.
-- Assumes nothing.
use Prim.Native.Nat.{ℕ, ◌+◌, ◌-◌, ◌<◌, ◌≤◌}
use mathlib.Core.Path.{◌≡◌, refl, ap}
use mathlib.Core.List.{List}
use mathlib.Core.Logic.{◌⊎◌, inl, inr}
use mathlib.Core.Bool.{Bool, true, false, ◌&&◌, ◌||◌, cond}
use native.Mathlib.Omega.{arith}
use lib.ListN.{length, get_or, length-take, length-drop}
use lib.Dec.{ltb, leb, eqb}
use borrow.Author.Tests.{leb-true, ltb-true, eqb-true, eqb-false, ltb-false, leb-false}
use Rattle.frame.specs.declared.Part.{Part}
use Rattle.frame.specs.declared.Item.{Item}
use Rattle.frame.specs.declared.Item.TheVariants.{Push, Unary, Binary, Call, CallTemplate, Take, End, Bad}
use Rattle.frame.specs.declared.Placed.{Placed}
use Rattle.frame.specs.Frame.{place, type_no, part, still, follows, marking, mark_bytes, mark_after, push_of, take_of, running_mark, payload_item, payload_at, item_at, is_item, name_of, name_part, Within, version1, version2, known_version, marked, header_ok, header_size, longest, length_of}

-- a property of both sides, each where its test holds, is one of the choice
pub cond-elim : {A : Type 0} (P : A → Type 0) (b : Bool) {x y : A} → (b ≡ true → P x) → (b ≡ false → P y) → P (cond b x y)
cond-elim P true h k = h refl
cond-elim P false h k = k refl

-- two truth values are two
absurd : {X : Type 0} → true ≡ false → X
absurd e = let z : ◌≡◌ {A = ℕ} 0 1 = cc in let f : ⊥ = omega arith in elim f [ ]

-- a call's name has 1 to 32 bytes, begins after the item's two first bytes, and ends where the next item begins
abbrev pub Named : Part → ℕ → ℕ → Type 0
Named name at n = (name.start.0 + name.length ≡ n) × (1 ≤ name.length) × (name.length ≤ 32) × (at + 2 < name.start.0)

abbrev pub NameEnds : Item → ℕ → ℕ → Type 0
NameEnds (Push t r) at n = Unit {0}
NameEnds (Unary o) at n = Unit {0}
NameEnds (Binary o) at n = Unit {0}
NameEnds (Call count name) at n = Named name at n
NameEnds (CallTemplate t count name) at n = Named name at n
NameEnds (Take kind p q elem r) at n = Unit {0}
NameEnds End at n = Unit {0}
NameEnds Bad at n = Unit {0}

-- a property that holds of bad framing and of every item with a right name holds of what a kind and a payload give
module _ (at : ℕ) (p : List ℕ) (P : Placed → Type 0) (bad : P (still Bad at)) (item : (i : Item) → is_item i ≡ true → NameEnds i at (at + 2 + length p) → P (follows at p i)) where
  sized : (n : ℕ) (i : Item) → is_item i ≡ true → NameEnds i at (at + 2 + length p) → P (cond (eqb (length p) n) (follows at p i) (still Bad at))
  sized n i e h = cond-elim P (eqb (length p) n) (λ _. item i e h) (λ _. bad)

  with-mark : (m : Bool) (n : ℕ) (i : Bool → Item) → ((r : Bool) → is_item (i r) ≡ true) → ((r : Bool) → NameEnds (i r) at (at + 2 + length p)) → P (marking at p m n i)
  with-mark m n i e h =
      cond-elim P (eqb (length p) (n + mark_bytes m)) (λ _. cond-elim P (leb (mark_after m p n) running_mark)
      (λ _. let r = eqb (mark_after m p n) running_mark in item (i r) (e r) (h r)) (λ _. bad)) (λ _. bad)

  -- a name after k numbers
  abbrev name : ℕ → Part
  name k = part (at + 2 + k) (length p - k)

  named : (k : ℕ) (i : Item) → 1 ≤ k → is_item i ≡ true → (Named (name k) at (at + 2 + length p) → NameEnds i at (at + 2 + length p))
      → P (cond (ltb k (length p)) (cond (leb (length p) (k + 32)) (follows at p i) (still Bad at)) (still Bad at))
  named k i l e h =
      cond-elim P (ltb k (length p)) (λ a. cond-elim P (leb (length p) (k + 32))
      (λ b. item i e (h (omega (arith, ltb-true), omega (arith, ltb-true), omega (arith, leb-true), omega arith))) (λ _. bad)) (λ _. bad)

  payload-elim : (m : Bool) (k : ℕ) → P (payload_item at p m k)
  unfolding payload_item
  payload-elim m k =
      cond-elim P (eqb k 1) (λ _. with-mark m 1 (push_of p) (λ _. refl) (λ _. tt)) (λ _.
      cond-elim P (eqb k 2) (λ _. sized 1 (Unary (get_or p 0 0)) refl tt) (λ _.
      cond-elim P (eqb k 3) (λ _. sized 1 (Binary (get_or p 0 0)) refl tt) (λ _.
      cond-elim P (eqb k 4) (λ _. named 1 (Call (get_or p 0 0) (name 1)) (omega arith) refl (λ h. h)) (λ _.
      cond-elim P (eqb k 5) (λ _. named 2 (CallTemplate (type_no (get_or p 0 0)) (get_or p 1 0) (name 2)) (omega arith) refl (λ h. h)) (λ _.
      cond-elim P (eqb k 6) (λ _. with-mark m 7 (take_of p) (λ _. refl) (λ _. tt)) (λ _. bad))))))

-- an item i that stands at a place of a sheet, with the next place n
pub record Framed (s : List ℕ) (at : ℕ) (i : Item) (n : ℕ) : Type 0 where
  pub begins : header_size ≤ at
  pub after : at < n
  pub within : n ≤ length s
  pub name : NameEnds i at n

-- a property of bad framing, of the end and of every well-framed item holds of what stands at a place
module _ (s : List ℕ) (at : ℕ) (P : Placed → Type 0) (bad : P (still Bad at)) (ending : length s ≤ at → P (still End at))
    (item : (i : Item) (n : ℕ) → is_item i ≡ true → Framed s at i n → P (record { item = i; at = place at; next = place n })) where
  pub item-elim : P (item_at s at)
  unfolding item_at
  item-elim =
      cond-elim P (ltb at header_size) (λ _. bad) (λ a.
      cond-elim P (leb (length s) at) (λ b. ending (leb-true _ _ b)) (λ b.
      cond-elim P (eqb (get_or s at 0) 0) (λ _. bad) (λ d.
      cond-elim P (ltb (length s) (at + 1 + get_or s at 0)) (λ _. bad) (λ f.
      let some : get_or s at 0 ≡ 0 → ⊥ = eqb-false _ _ d in
      let n : length (payload_at s at) ≡ get_or s at 0 - 1 = simp (length-take, length-drop) (omega (arith, ltb-false, leb-false)) in
      payload-elim at (payload_at s at) P bad (λ i e h. item i (at + 2 + length (payload_at s at)) e (record {
        begins = ltb-false _ _ a;
        after = omega arith;
        within = omega (arith, ltb-false, some);
        name = h;
      })) (marked s) (get_or s (at + 1) 0)))))

-- an item stands where the answer is neither the end nor bad framing
pub framed : (s : List ℕ) (at : ℕ) → is_item (item_at s at).item ≡ true → Framed s at (item_at s at).item (item_at s at).next.0
framed s at = item-elim s at (λ x. is_item x.item ≡ true → Framed s at x.item x.next.0) (λ e. absurd (cc)) (λ _ e. absurd (cc)) (λ i n _ f _. f)

-- the place is always the asked one
pub own-place : (s : List ℕ) (at : ℕ) → (item_at s at).at ≡ place at
own-place s at = item-elim s at (λ x. x.at ≡ place at) refl (λ _. refl) (λ i n _ _. refl)

-- where no item stands, the next place is the place
pub stays : (s : List ℕ) (at : ℕ) → is_item (item_at s at).item ≡ false → (item_at s at).next ≡ place at
stays s at = item-elim s at (λ x. is_item x.item ≡ false → x.next ≡ place at) (λ _. refl) (λ _ _. refl) (λ i n e f g. absurd (cc))

-- the end is no place of the sheet
pub at-end : (s : List ℕ) (at : ℕ) → (item_at s at).item ≡ End → length s ≤ at
at-end s at = item-elim s at (λ x. x.item ≡ End → length s ≤ at) (λ e. absurd (cc)) (λ h _. h) (λ i n e f g. absurd (cc (ap (λ (j : Item). is_item j) g)))

-- the part that a call shows lies within the sheet
pub name-within : (s : List ℕ) (at : ℕ) → Within (length s) (name_part s at)
unfolding name_part
name-within s at = item-elim s at (λ x. Within (length s) (name_of x.item)) (omega arith) (λ _. omega arith) (λ i n _ f. go i n f)
  where
    go : (i : Item) (n : ℕ) → Framed s at i n → Within (length s) (name_of i)
    go (Push t r) n f = omega arith
    go (Unary o) n f = omega arith
    go (Binary o) n f = omega arith
    go (Call count name) n f = omega (arith, f.name.0, f.within)
    go (CallTemplate t count name) n f = omega (arith, f.name.0, f.within)
    go (Take kind p q elem r) n f = omega arith
    go End n f = omega arith
    go Bad n f = omega arith

-- what a right header says
pub record Headed (s : List ℕ) : Type 0 where
  pub first : (get_or s 0 0 ≡ version1) ⊎ (get_or s 0 0 ≡ version2)
  pub short : length_of s ≤ longest
  pub whole : length s ≡ header_size + length_of s

pub headed : (s : List ℕ) → header_ok s ≡ true → Headed s
unfolding header_ok
headed s e =
    let a = both (leb header_size (length s)) _ e in
    let b = both (known_version (get_or s 0 0)) _ a.1 in
    let d = both (leb (length_of s) longest) _ b.1 in
    record { first = one_of (eqb (get_or s 0 0) version1) refl b.0; short = leb-true _ _ d.0; whole = eqb-true _ _ d.1 }
  where
    both : (x y : Bool) → x && y ≡ true → (x ≡ true) × (y ≡ true)
    both true y h = (refl, h)
    both false y h = absurd (cc)

    one_of : (x : Bool) → eqb (get_or s 0 0) version1 ≡ x → x || eqb (get_or s 0 0) version2 ≡ true → (get_or s 0 0 ≡ version1) ⊎ (get_or s 0 0 ≡ version2)
    one_of true h k = inl (eqb-true _ _ h)
    one_of false h k = inr (eqb-true _ _ k)

pub headed-long : (s : List ℕ) → header_ok s ≡ true → header_size ≤ length s
headed-long s e = omega (arith, (headed s e).whole)

-- in a sheet with a right header, an item ends after it begins and within 3 + L
pub headed-next : (s : List ℕ) (at : ℕ) → header_ok s ≡ true → is_item (item_at s at).item ≡ true
    → (at < (item_at s at).next.0) × ((item_at s at).next.0 ≤ header_size + length_of s)
headed-next s at h e = ((framed s at e).after, omega (arith, (framed s at e).within, (headed s h).whole))

-- and the end that no item runs past stands at 3 + L
pub headed-end : (s : List ℕ) (at : ℕ) → header_ok s ≡ true → (item_at s at).item ≡ End → at ≤ header_size + length_of s → at ≡ header_size + length_of s
headed-end s at h e k = omega (arith, at-end s at e, (headed s h).whole)
