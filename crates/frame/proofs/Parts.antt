-- The sheet from byte 3 on, read at the places of the whole sheet: of the header, what stands at a place looks only at whether the version has marks. Assumes nothing.
use Prim.Native.Nat.{ℕ, zero, suc, ◌+◌, ◌-◌, ◌≤◌}
use mathlib.Core.Path.{◌≡◌, refl, sym, ap, ◌∙◌}
use mathlib.Core.Bool.{Bool, true, false}
use mathlib.Core.List.{List}
use native.Mathlib.Omega.{arith}
use lib.Dec.{ltb}
use lib.ListN.{length, get_or, take, drop, length-drop}
use lib.Seq.{take_all, get_or-drop, drop-drop}
use borrow.Author.Tests.{ltb-false}
use Rattle.frame.specs.declared.Item.{Item}
use Rattle.frame.specs.declared.Item.TheVariants.{Push, Unary, Binary, Call, CallTemplate, Take, End, Bad}
use Rattle.frame.specs.declared.Part.{Part}
use Rattle.frame.specs.Frame.{marks, marked, header_size, item_at, items_within, items_from}
use Rattle.frame.specs.inner.Items.{sheet_of, NameIn}
use Rattle.frame.proofs.FrameLaws.{Framed, item-elim}

-- two sheets of one length, both with marks or both without, with the same bytes after their headers
pub record Alike (s t : List ℕ) : Type 0 where
  pub marking : marked s ≡ marked t
  pub long : length s ≡ length t
  pub bytes : drop header_size s ≡ drop header_size t

module _ {s t : List ℕ} (a : Alike s t) where
  -- from any place after the header they have the same bytes
  pub alike_from : (at : ℕ) → header_size ≤ at → drop at s ≡ drop at t
  alike_from at h =
      let e : header_size + (at - header_size) ≡ at = omega arith in
      sym (ap (λ (k : ℕ). drop k s) e) ∙ sym (drop-drop (at - header_size) header_size s) ∙ ap (drop (at - header_size)) a.bytes ∙ drop-drop (at - header_size) header_size t ∙ ap (λ (k : ℕ). drop k t) e

  alike_at : (at : ℕ) → header_size ≤ at → get_or s at 0 ≡ get_or t at 0
  alike_at at h =
      let e : at + 0 ≡ at = omega arith in
      sym (ap (λ (k : ℕ). get_or s k 0) e) ∙ sym (get_or-drop at s 0 0) ∙ ap (λ (l : List ℕ). get_or l 0 0) (alike_from at h) ∙ get_or-drop at t 0 0 ∙ ap (λ (k : ℕ). get_or t k 0) e

  item_by : (at : ℕ) (b : Bool) → ltb at header_size ≡ b → item_at s at ≡ item_at t at
  unfolding item_at
  item_by at true h = rw h refl
  item_by at false h =
      let l : header_size ≤ at = ltb-false _ _ h in
      let m = a.marking in
      let n = a.long in
      let x = alike_at at l in
      let y = alike_at (at + 1) (omega arith) in
      let z = alike_from (at + 2) (omega arith) in
      cc

  pub item-alike : (at : ℕ) → item_at s at ≡ item_at t at
  item-alike at = item_by at (ltb at header_size) refl

  within-alike : (n at : ℕ) → items_within n s at ≡ items_within n t at
  unfolding items_within
  within-alike zero at = rw (item-alike at)
  within-alike (suc n) at = rw (item-alike at, within-alike n (item_at t at).next.0)

  pub items_alike : (at : ℕ) → items_from s at ≡ items_from t at
  unfolding items_from
  items_alike at = rw a.long (within-alike (length t) at)

-- THE PART AFTER THE HEADER

module _ (v : ℕ) (items : List ℕ) where
  pub whole_length : length (sheet_of v items) ≡ header_size + length items
  unfolding sheet_of
  whole_length = omega arith

  pub whole-marked : marked (sheet_of v items) ≡ marks v
  unfolding sheet_of
  whole-marked = refl

  pub whole_drop : drop header_size (sheet_of v items) ≡ items
  unfolding sheet_of
  whole_drop = refl

  -- its bytes, and its parts, at the places of the sheet
  pub whole-at : (i at : ℕ) → header_size + i ≡ at → get_or (sheet_of v items) at 0 ≡ get_or items i 0
  whole-at i at e = sym (ap (λ (k : ℕ). get_or (sheet_of v items) k 0) e) ∙ sym (get_or-drop header_size (sheet_of v items) i 0) ∙ ap (λ (l : List ℕ). get_or l i 0) whole_drop

  pub whole_part : (i at n m : ℕ) → header_size + i ≡ at → n ≡ m → take n (drop i items) ≡ take m (drop at (sheet_of v items))
  whole_part i at n m e f =
      ap (λ (l : List ℕ). take n (drop i l)) (sym whole_drop) ∙ ap (take n) (drop-drop i header_size (sheet_of v items)) ∙ ap (λ (k : ℕ). take n (drop k (sheet_of v items))) e ∙ ap (λ (k : ℕ). take k (drop at (sheet_of v items))) f

  -- a name read in it has the bytes that it has in the sheet
  pub name-bytes : (name : Part) → header_size ≤ name.start.0 → {b : List ℕ} → b ≡ take name.length (drop (name.start.0 - header_size) items)
      → b ≡ take name.length (drop name.start.0 (sheet_of v items))
  name-bytes name h e = e ∙ whole_part (name.start.0 - header_size) name.start.0 name.length name.length (omega arith) refl

  -- the name of what stands at a place lies in it
  pub name_in : (at : ℕ) → NameIn (length items) (item_at (sheet_of v items) at).item
  name_in at = item-elim (sheet_of v items) at (λ x. NameIn (length items) x.item) tt (λ _. tt) (λ i n _ f. go i n f)
    where
      go : (i : Item) (n : ℕ) → Framed (sheet_of v items) at i n → NameIn (length items) i
      go (Push t r) n f = tt
      go (Unary o) n f = tt
      go (Binary o) n f = tt
      go (Call count name) n f = (omega (arith, f.name.3, f.begins), omega (arith, f.name.0, f.within, whole_length))
      go (CallTemplate t count name) n f = (omega (arith, f.name.3, f.begins), omega (arith, f.name.0, f.within, whole_length))
      go (Take kind p q elem r) n f = tt
      go End n f = tt
      go Bad n f = tt

-- the part of a sheet from byte 3 on, as the code's `&s[3..]` has it, with its version
pub rest-alike : (s : List ℕ) → header_size ≤ length s → Alike (sheet_of (get_or s 0 0) (take (length s - header_size) (drop header_size s))) s
rest-alike s h =
    let e : take (length s - header_size) (drop header_size s) ≡ drop header_size s = take_all (length s - header_size) (drop header_size s) (omega (arith, length-drop header_size s)) in
    let v = get_or s 0 0 in
    rw e (record {
      marking = whole-marked v (drop header_size s);
      long = omega (arith, whole_length v (drop header_size s), length-drop header_size s);
      bytes = whole_drop v (drop header_size s);
    })
