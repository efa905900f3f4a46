-- The lines of the tables: what a number has as its entries, by tests that antt computes. Assumes nothing.
use Rattle.std.proofs.Common.{◌≡◌, ℕ, ◌+◌, ◌*◌, ◌<◌, ◌≤◌, Bool, true, false, T, eqb, ltb, List, [], ◌∷◌, length, get_or, sym, refl, ap, ◌∙◌, subst, not-suc-le-zero, eqb→eq, ltb→lt, lt→ltb}
use borrow.Author.Tests.{ltb-true, ltb-false}
use lib.ListN.{get_or-eq_default}
use Rattle.conv.specs.Rank.{both}
use Rattle.conv.proofs.Finite.{both_left, both_right, implies, modus, same, same-eq, all, below, below₂}
use Rattle.overload.specs.Rows.{Size, Family, Row, rows, row_at, no_row, operand_count}
use Rattle.overload.specs.inner.Code.{no_family, family_of, families, start_of, place_of, stop_of, encode, asked_of, entry, bit, has, member, sets, set_of, size_lists, sizes_of, same_size, mem_size, size_of_no, slot_t, RowLine, Word, Starts, Sizes, Scalars, Reached}
use Rattle.overload.proofs.Listing.{row-family}
use Rattle.overload.proofs.Families.{size-eq}

-- a line whose entries pass the test has them
pub line : (b n : ℕ) (g : ℕ → ℕ) (w : ℕ) → T (all n (λ i. eqb (entry b w i) (g i))) → (i : ℕ) → i < n → entry b w i ≡ g i
line b n g w t i h = eqb→eq _ _ (below n (λ i. eqb (entry b w i) (g i)) t i h)

-- A LINE OF EACH TABLE: of the row k, the family k, the size k, the list of sizes k, the set k

line_of : (r : Row) {w row : ℕ} → T (all 9 (λ i. eqb (entry 4 w i) (place_of i r.families 0))) → entry 4 w 9 ≡ stop_of r.families → entry 4 w 12 ≡ operand_count r
    → ((i : ℕ) → i < length r.families → family_of (entry 8 w 5 + i) ≡ get_or r.families i no_family) → row_at row ≡ r → RowLine row w
line_of r {w} {row} t s c f e =
    record {
      place = λ i h. line 4 9 (λ i. place_of i r.families 0) w t i h ∙ ap (λ (x : Row). place_of i x.families 0) (sym e);
      stop = s ∙ ap (λ (x : Row). stop_of x.families) (sym e);
      family = λ i h. f i (subst (λ (x : Row). i < length x.families) e h) ∙ ap (λ (x : Row). get_or x.families i no_family) (sym e);
      count = c ∙ ap operand_count (sym e);
    }

pub row_line : (k : ℕ) {w row : ℕ} → T (all 9 (λ i. eqb (entry 4 w i) (place_of i (row_at k).families 0))) → entry 4 w 9 ≡ stop_of (row_at k).families → entry 8 w 5 ≡ start_of k
    → entry 4 w 12 ≡ operand_count (row_at k) → row ≡ k → RowLine row w
row_line k t s b c e = line_of (row_at k) t s c (λ i h. ap (λ (n : ℕ). family_of (n + i)) b ∙ row-family k i h) (ap row_at e)

-- past the last row
pub no-row-line : {w row : ℕ} → T (all 9 (λ i. eqb (entry 4 w i) (place_of i [] 0))) → entry 4 w 9 ≡ stop_of [] → entry 4 w 12 ≡ operand_count no_row → length rows ≤ row → RowLine row w
unfolding row_at
no-row-line t s c h = line_of no_row t s c (λ i l. absurd (not-suc-le-zero l)) (get_or-eq_default rows no_row h)

word_of : (g : Family) {w f : ℕ} → T (all 13 (λ i. eqb (entry 4 w i) (get_or (encode g) i 0))) → sizes_of (entry 4 w 13) ≡ g.sizes → set_of (entry 4 w 14) ≡ g.set → set_of (entry 4 w 15) ≡ g.second
    → family_of f ≡ g → Word f w
word_of g {w} t z s v e =
    record {
      digits = λ i h. line 4 13 (λ i. get_or (encode g) i 0) w t i h ∙ ap (λ (g : Family). get_or (encode g) i 0) (sym e);
      sizes = z ∙ ap (λ (g : Family). g.sizes) (sym e);
      set = s ∙ ap (λ (g : Family). g.set) (sym e);
      second = v ∙ ap (λ (g : Family). g.second) (sym e);
    }

pub word_line : (k : ℕ) {w f : ℕ} → T (all 13 (λ i. eqb (entry 4 w i) (get_or (encode (family_of k)) i 0))) → sizes_of (entry 4 w 13) ≡ (family_of k).sizes → set_of (entry 4 w 14) ≡ (family_of k).set
    → set_of (entry 4 w 15) ≡ (family_of k).second → f ≡ k → Word f w
word_line k t z s v e = word_of (family_of k) t z s v (ap family_of e)

-- past the last family
pub no-word-line : {w f : ℕ} → T (all 13 (λ i. eqb (entry 4 w i) (get_or (encode no_family) i 0))) → sizes_of (entry 4 w 13) ≡ [] → set_of (entry 4 w 14) ≡ [] → set_of (entry 4 w 15) ≡ [] → length families ≤ f → Word f w
unfolding family_of
no-word-line t z s v h = word_of no_family t z s v (get_or-eq_default families no_family h)

pub starts-line : (k : ℕ) {w n : ℕ} → T (all 7 (λ i. implies (ltb (asked_of i k) 13) (eqb (entry 8 w i) (7 * asked_of i k)))) → n ≡ k → Starts n w
starts-line k {w} t e =
    subst (λ (n : ℕ). Starts n w) (sym e)
    (record {
      start = λ i h a. eqb→eq _ _ (modus _ _ (below 7 (λ i. implies (ltb (asked_of i k) 13) (eqb (entry 8 w i) (7 * asked_of i k))) t i h) (lt→ltb (asked_of i k) 13 a));
    })

sizes-of : (zs : List Size) {w k : ℕ} → T (all 41 (λ n. same (bit w n) (mem_size (size_of_no n) zs))) → sizes_of k ≡ zs → Sizes k w
sizes-of zs {w} t e =
    record { within = λ n h. same-eq _ _ (below 41 (λ n. same (bit w n) (mem_size (size_of_no n) zs)) t n h) ∙ ap (mem_size (size_of_no n)) (sym e) }

pub sizes-line : (k : ℕ) {w l : ℕ} → T (all 41 (λ n. same (bit w n) (mem_size (size_of_no n) (sizes_of k)))) → l ≡ k → Sizes l w
sizes-line k t e = sizes-of (sizes_of k) t (ap sizes_of e)

pub no-sizes-line : {w l : ℕ} → T (all 41 (λ n. same (bit w n) (mem_size (size_of_no n) []))) → length size_lists ≤ l → Sizes l w
no-sizes-line t h = sizes-of [] t (get_or-eq_default size_lists [] h)

set-of : (us : List ℕ) {w k : ℕ} → T (both (ltb w 128) (all 7 (λ s. same (has w s) (member s us)))) → set_of k ≡ us → Scalars k w
set-of us {w} t e =
    record {
      small = ltb→lt w 128 (both_left _ _ t);
      within = λ s h. same-eq _ _ (below 7 (λ s. same (has w s) (member s us)) (both_right (ltb w 128) _ t) s h) ∙ ap (member s) (sym e);
    }

pub set_line : (k : ℕ) {w l : ℕ} → T (both (ltb w 128) (all 7 (λ s. same (has w s) (member s (set_of k))))) → l ≡ k → Scalars l w
set_line k t e = set-of (set_of k) t (ap set_of e)

pub no-set-line : {w l : ℕ} → T (both (ltb w 128) (all 7 (λ s. same (has w s) (member s [])))) → length sets ≤ l → Scalars l w
no-set-line t h = set-of [] t (get_or-eq_default sets [] h)

pub reached-line : (k : ℕ) {w of : ℕ} → T (all 7 (λ s. all 7 (λ t. same (has (entry 8 w s) t) (slot_t k s t)))) → of ≡ k → Reached of w
reached-line k {w} t e =
    subst (λ (of : ℕ). Reached of w) (sym e) (record { within = λ s u hs hu. same-eq _ _ (below₂ 7 7 (λ s u. same (has (entry 8 w s) u) (slot_t k s u)) t s u hs hu) })

-- A TABLE: what holds of each of its lines, and past the last of what stands there, holds at every number of what is read

pub read : (P : ℕ → ℕ → Type 0) (xs : List ℕ) (d : ℕ) → ((k : ℕ) → k < length xs → P k (get_or xs k d)) → ((k : ℕ) → length xs ≤ k → P k d) → (k r : ℕ) → r ≡ get_or xs k d → P k r
read P xs d here past k r e = go (ltb k (length xs)) refl
  where
    go : (b : Bool) → ltb k (length xs) ≡ b → P k r
    go true q = subst (P k) (sym e) (here k (ltb-true k (length xs) q))
    go false q =
        let l = ltb-false k (length xs) q in
        subst (P k) (sym (e ∙ get_or-eq_default xs d l)) (past k l)

-- all lines of a table at once, by one test that antt computes

unfoldable pub row_test : ℕ → ℕ → Bool
row_test k w =
    both (all 9 (λ i. eqb (entry 4 w i) (place_of i (row_at k).families 0)))
    (both (eqb (entry 4 w 9) (stop_of (row_at k).families)) (both (eqb (entry 8 w 5) (start_of k)) (eqb (entry 4 w 12) (operand_count (row_at k)))))

pub row-lines : (n : ℕ) (g : ℕ → ℕ) → T (all n (λ k. row_test k (g k))) → (k : ℕ) → k < n → RowLine k (g k)
unfolding row_test
row-lines n g t k h =
    let w = g k in
    let a = below n (λ k. row_test k (g k)) t k h in
    let b = both_right (all 9 (λ i. eqb (entry 4 w i) (place_of i (row_at k).families 0))) _ a in
    let c = both_right (eqb (entry 4 w 9) (stop_of (row_at k).families)) _ b in
    row_line k (both_left _ _ a) (eqb→eq _ _ (both_left _ _ b)) (eqb→eq _ _ (both_left _ _ c)) (eqb→eq _ _ (both_right (eqb (entry 8 w 5) (start_of k)) _ c)) refl

-- two lists by a test of their items
unfoldable pub same_lists : {A : Type 0} → (A → A → Bool) → List A → List A → Bool
same_lists g [] [] = true
same_lists g [] (y ∷ ys) = false
same_lists g (x ∷ xs) [] = false
same_lists g (x ∷ xs) (y ∷ ys) = both (g x y) (same_lists g xs ys)

same-lists : {A : Type 0} (g : A → A → Bool) → ((a b : A) → T (g a b) → a ≡ b) → (xs ys : List A) → T (same_lists g xs ys) → xs ≡ ys
unfolding same_lists
same-lists g e [] [] t = refl
same-lists g e [] (y ∷ ys) t = absurd t
same-lists g e (x ∷ xs) [] t = absurd t
same-lists g e (x ∷ xs) (y ∷ ys) t = let p = e x y (both_left _ _ t) in let q = same-lists g e xs ys (both_right (g x y) _ t) in λ i. p i ∷ q i

unfoldable pub word_test : ℕ → ℕ → Bool
word_test k w =
    both (all 13 (λ i. eqb (entry 4 w i) (get_or (encode (family_of k)) i 0)))
    (both (same_lists same_size (sizes_of (entry 4 w 13)) (family_of k).sizes) (both (same_lists eqb (set_of (entry 4 w 14)) (family_of k).set) (same_lists eqb (set_of (entry 4 w 15)) (family_of k).second)))

pub word-lines : (n : ℕ) (g : ℕ → ℕ) → T (all n (λ k. word_test k (g k))) → (k : ℕ) → k < n → Word k (g k)
unfolding word_test
word-lines n g t k h =
    let w = g k in
    let a = below n (λ k. word_test k (g k)) t k h in
    let b = both_right (all 13 (λ i. eqb (entry 4 w i) (get_or (encode (family_of k)) i 0))) _ a in
    let c = both_right (same_lists same_size (sizes_of (entry 4 w 13)) (family_of k).sizes) _ b in
    word_line k (both_left _ _ a) (same-lists same_size size-eq _ _ (both_left _ _ b)) (same-lists eqb eqb→eq _ _ (both_left _ _ c)) (same-lists eqb eqb→eq _ _ (both_right (same_lists eqb (set_of (entry 4 w 14)) (family_of k).set) _ c)) refl

pub starts-lines : (n : ℕ) (g : ℕ → ℕ) → T (all n (λ k. all 7 (λ i. implies (ltb (asked_of i k) 13) (eqb (entry 8 (g k) i) (7 * asked_of i k))))) → (k : ℕ) → k < n → Starts k (g k)
starts-lines n g t k h = starts-line k (below n (λ k. all 7 (λ i. implies (ltb (asked_of i k) 13) (eqb (entry 8 (g k) i) (7 * asked_of i k)))) t k h) refl

pub sizes-lines : (n : ℕ) (g : ℕ → ℕ) → T (all n (λ k. all 41 (λ m. same (bit (g k) m) (mem_size (size_of_no m) (sizes_of k))))) → (k : ℕ) → k < n → Sizes k (g k)
sizes-lines n g t k h = sizes-line k (below n (λ k. all 41 (λ m. same (bit (g k) m) (mem_size (size_of_no m) (sizes_of k)))) t k h) refl

pub set-lines : (n : ℕ) (g : ℕ → ℕ) → T (all n (λ k. both (ltb (g k) 128) (all 7 (λ s. same (has (g k) s) (member s (set_of k)))))) → (k : ℕ) → k < n → Scalars k (g k)
set-lines n g t k h = set_line k (below n (λ k. both (ltb (g k) 128) (all 7 (λ s. same (has (g k) s) (member s (set_of k))))) t k h) refl

pub reached-lines : (n : ℕ) (g : ℕ → ℕ) → T (all n (λ k. all 7 (λ s. all 7 (λ t. same (has (entry 8 (g k) s) t) (slot_t k s t))))) → (k : ℕ) → k < n → Reached k (g k)
reached-lines n g t k h = reached-line k (below n (λ k. all 7 (λ s. all 7 (λ t. same (has (entry 8 (g k) s) t) (slot_t k s t)))) t k h) refl
