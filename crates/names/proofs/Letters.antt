-- The letters of the names, filled up with blanks to the width of a line: since every letter is above a blank, filled names stand in the order of the names, and are the same
-- only where the names are; so a line that stands before a name, or after it, leaves out every line on its other side. What holds of every row is computed. Assumes nothing.
use Prim.Native.Nat.{ℕ, zero, suc, ◌-◌, ◌≤◌, ◌<◌}
use native.Mathlib.Nat.{not-suc-le-zero, le_of_suc-le-suc, eq-or-lt_of_le}
use native.Mathlib.Omega.{arith}
use mathlib.Core.Path.{◌≡◌, refl, sym, ◌∙◌, ap}
use mathlib.Core.Logic.{⊎_elim}
use mathlib.Core.Bool.{Bool, true, false}
use mathlib.Core.List.{List, [], ◌∷◌}
use lib.Dec.{T, ltb, leb, ltb→lt, leb→le}
use lib.ListN.{length, get_or, get_or-eq_default}
use lib.Seq.{ext_get_or}
use borrow.Author.Tests.{eqb-false, ltb-true, ltb-false}
use Rattle.conv.specs.Rank.{both}
use Rattle.conv.proofs.Finite.{below, both_left, both_right, same, same-eq}
use Rattle.text.specs.Text.{ascii}
use Rattle.names.specs.Names.{names, name_at, before, count}
use Rattle.names.specs.inner.Table.{name_width, blank, filled, ends_blank}
use Rattle.names.proofs.Order.{before-less, before-rest, before-parts, before_self, before-trans, rises}
use Rattle.names.proofs.Lines.{get_or-in, filled-length, filled_at}

-- OF EVERY NAME: it is no longer than a line is wide, and each letter is above a blank; a bound of their count

pub few : count ≤ 1000
unfolding names
few = leb→le _ _ tt

-- how many lines the constant has
pub counted : 131 ≡ count
unfolding names
counted = refl

pub short : (k : ℕ) → k < count → length (name_at k) ≤ name_width
unfolding ascii names name_at both
short k h = leb→le _ _ (below count (λ k. leb (length (name_at k)) name_width) tt k h)

letters_above : List ℕ → Bool
letters_above [] = true
letters_above (c ∷ cs) = both (ltb blank c) (letters_above cs)

above : (k : ℕ) → k < count → T (letters_above (name_at k))
unfolding ascii names name_at both letters_above
above k h = below count (λ k. letters_above (name_at k)) tt k h

above_at : (s : List ℕ) → T (letters_above s) → (i : ℕ) → i < length s → blank < get_or s i blank
unfolding letters_above
above_at [] t i l = absurd (not-suc-le-zero l)
above_at (c ∷ cs) t zero l = ltb→lt blank c (both_left (ltb blank c) (letters_above cs) t)
above_at (c ∷ cs) t (suc i) l = above_at cs (both_right (ltb blank c) (letters_above cs) t) i (le_of_suc-le-suc l)

-- so it has a blank where it has ended, and only there

module _ (k : ℕ) (h : k < count) (i : ℕ) where
  pub ended : get_or (name_at k) i blank ≡ blank → length (name_at k) ≤ i
  ended e = go (ltb i (length (name_at k))) refl
    where
      go : (b : Bool) → ltb i (length (name_at k)) ≡ b → length (name_at k) ≤ i
      go true p = let l = above_at (name_at k) (above k h) i (ltb-true _ _ p) in absurd (omega arith)
      go false p = ltb-false _ _ p

  pub not-ended : (get_or (name_at k) i blank ≡ blank → ⊥) → blank < get_or (name_at k) i blank
  not-ended n = go (ltb i (length (name_at k))) refl
    where
      go : (b : Bool) → ltb i (length (name_at k)) ≡ b → blank < get_or (name_at k) i blank
      go true p = above_at (name_at k) (above k h) i (ltb-true _ _ p)
      go false p = absurd (n (get_or-eq_default (name_at k) blank (ltb-false _ _ p)))

-- and none ends with one
pub no-blank-end : (k : ℕ) → k < count → ends_blank (name_at k) ≡ false
unfolding ascii names name_at both ends_blank same
no-blank-end k h = same-eq _ _ (below count (λ k. same (ends_blank (name_at k)) false) tt k h)

-- FILLED NAMES in the order of the names

filled-before : (w : ℕ) (s t : List ℕ) → length s ≤ w → length t ≤ w → T (letters_above t) → T (before s t) → T (before (filled w s) (filled w t))
unfolding filled before letters_above
filled-before w s [] hs ht a b = absurd b
filled-before zero s (y ∷ ys) hs ht a b = absurd (not-suc-le-zero ht)
filled-before (suc w) [] (y ∷ ys) hs ht a b = before-less blank y (filled w []) (filled w ys) (ltb→lt blank y (both_left (ltb blank y) (letters_above ys) a))
filled-before (suc w) (x ∷ xs) (y ∷ ys) hs ht a b =
    ⊎_elim
    (λ l. before-less x y (filled w xs) (filled w ys) l)
    (λ l. before-rest x y (filled w xs) (filled w ys) l.0 (filled-before w xs ys (le_of_suc-le-suc hs) (le_of_suc-le-suc ht) (both_right (ltb blank y) (letters_above ys) a) l.1))
    (before-parts x y xs ys b)

abbrev full : List ℕ → List ℕ
full s = filled name_width s

filled-rises : (j k : ℕ) → j < k → k < count → T (before (full (name_at j)) (full (name_at k)))
filled-rises j k l h = filled-before name_width (name_at j) (name_at k) (short j (omega arith)) (short k h) (above k h) (rises j k l h)

-- two filled names, by their letters: at the first that differs, and where none does

first-less : (s t : List ℕ) (i : ℕ) → i < length s → i < length t → ((k : ℕ) → k < i → get_or s k 0 ≡ get_or t k 0) → get_or s i 0 < get_or t i 0 → T (before s t)
first-less [] t i hs ht e l = absurd (not-suc-le-zero hs)
first-less (x ∷ xs) [] i hs ht e l = absurd (not-suc-le-zero ht)
first-less (x ∷ xs) (y ∷ ys) zero hs ht e l = before-less x y xs ys l
first-less (x ∷ xs) (y ∷ ys) (suc i) hs ht e l =
    before-rest x y xs ys (e zero (omega arith)) (first-less xs ys i (le_of_suc-le-suc hs) (le_of_suc-le-suc ht) (λ k h. e (suc k) (omega arith)) l)

module _ (s t : List ℕ) where
  pub letters-less : (i : ℕ) → i < name_width → ((k : ℕ) → k < i → get_or s k blank ≡ get_or t k blank) → get_or s i blank < get_or t i blank → T (before (full s) (full t))
  letters-less i h e l =
      let ls = filled-length name_width s in
      let lt = filled-length name_width t in
      first-less (full s) (full t) i (omega arith) (omega arith)
      (λ k j. filled_at name_width s k (omega arith) ∙ e k j ∙ sym (filled_at name_width t k (omega arith)))
      (omega (arith, filled_at name_width s i h, filled_at name_width t i h))

  pub letters-same : ((i : ℕ) → i < name_width → get_or s i blank ≡ get_or t i blank) → full s ≡ full t
  letters-same e =
      let ls = filled-length name_width s in
      ext_get_or 0 (full s) (full t) (ls ∙ sym (filled-length name_width t))
      (λ i h. filled_at name_width s i (omega arith) ∙ e i (omega arith) ∙ sym (filled_at name_width t i (omega arith)))

  letter-same : full s ≡ full t → (i : ℕ) → i < name_width → get_or s i blank ≡ get_or t i blank
  letter-same e i h = sym (filled_at name_width s i h) ∙ ap (λ (l : List ℕ). get_or l i 0) e ∙ filled_at name_width t i h

-- a line that has ended where a name has, with the same letters so far
pub ended_same : (k : ℕ) → k < count → (i : ℕ) → get_or (name_at k) i blank ≡ blank → (s : List ℕ) → length s ≤ i
    → ((j : ℕ) → j < i → get_or (name_at k) j blank ≡ get_or s j blank) → full (name_at k) ≡ full s
ended_same k h i e s l same = letters-same (name_at k) s (λ j m. go j (ltb j i) refl)
  where
    go : (j : ℕ) (b : Bool) → ltb j i ≡ b → get_or (name_at k) j blank ≡ get_or s j blank
    go j true p = same j (ltb-true j i p)
    go j false p =
        let n = ltb-false j i p in
        let t = ended k h i e in
        get_or-eq_default (name_at k) blank (omega arith) ∙ sym (get_or-eq_default s blank (omega arith))

-- A LINE HAS A NAME that does not end with a blank where both are the same filled up
pub row_named : (k : ℕ) → k < count → (s : List ℕ) → length s ≤ name_width → ends_blank s ≡ false → full (name_at k) ≡ full s → name_at k ≡ s
unfolding ends_blank
row_named k h s l b e = go (ltb (length t) (length s)) refl (ltb (length s) (length t)) refl
  where
    t : List ℕ
    t = name_at k

    letter : (i : ℕ) → i < name_width → get_or t i blank ≡ get_or s i blank
    letter i j = letter-same t s e i j

    go : (longer : Bool) → ltb (length t) (length s) ≡ longer → (shorter : Bool) → ltb (length s) (length t) ≡ shorter → t ≡ s
    go true p shorter q =
        let m = ltb-true (length t) (length s) p in
        let last = get_or-in s (length s - 1) 0 blank (omega arith) in
        absurd (eqb-false _ _ b (last ∙ sym (letter (length s - 1) (omega arith)) ∙ get_or-eq_default t blank (omega arith)))
    go false p true q =
        let m = ltb-true (length s) (length t) q in
        let d = get_or-eq_default s blank {n = length s} (omega arith) in
        let u = above_at t (above k h) (length s) m in
        let v = letter (length s) (omega (arith, short k h)) in
        absurd (omega arith)
    go false p false q =
        let m = ltb-false (length t) (length s) p in
        let n = ltb-false (length s) (length t) q in
        ext_get_or 0 t s (omega arith)
        (λ i j. get_or-in t i 0 blank j ∙ letter i (omega arith) ∙ get_or-in s i blank 0 (omega arith))

-- WHAT A LINE LEAVES OUT: no earlier one has a name that it stands before, and no later one a name that it stands after

module _ (m : ℕ) (h : m < count) (s : List ℕ) where
  pub none-earlier : T (before (full (name_at m)) (full s)) → (k : ℕ) → k ≤ m → name_at k ≡ s → ⊥
  none-earlier b k l e =
      ⊎_elim
      (λ q. before_self (full s) (let d : name_at m ≡ s = rw (← q) e in rw d at b))
      (λ j. before_self (full s) (before-trans (full s) (full (name_at m)) (full s) (rw e at (filled-rises k m j h)) b))
      (eq-or-lt_of_le l)

  pub none-later : T (before (full s) (full (name_at m))) → (k : ℕ) → m ≤ k → k < count → name_at k ≡ s → ⊥
  none-later b k l hk e =
      ⊎_elim
      (λ q. before_self (full s) (let d : name_at m ≡ s = rw q e in rw d at b))
      (λ j. before_self (full s) (before-trans (full s) (full (name_at m)) (full s) b (rw e at (filled-rises m k j hk))))
      (eq-or-lt_of_le l)
