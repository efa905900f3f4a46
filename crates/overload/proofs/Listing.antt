-- What stands in the list of a row's overloads: one overload for each family, T of its set, size and I of its second set. Assumes nothing.
use Rattle.std.proofs.Common.{◌≡◌, ℕ, zero, suc, ◌+◌, ◌<◌, T, eqb, List, [], ◌∷◌, ◌++◌, length, get_or, take, refl, ap, ◌∙◌, subst, ⊎_elim, le_of_suc-le-suc, not-suc-le-zero, add_assoc, zero-add, arith, eqb→eq, length-append, get_or-append-add}
use mathlib.Core.List.Memᴰ
use mathlib.Core.List.{Memᴰ}
use lib.Dec.{eqb_refl}
use lib.ListN.{get_or-append}
use Rattle.overload.specs.Overload.{Overload}
use Rattle.overload.specs.Rows.{Size, Family, overload, over_second, at_sizes, over_set, of_family, of_families, Row, no_row, rows, row_at}
use Rattle.overload.specs.inner.Code.{joined, families, family_of, start_of, no_family, member}
use Rattle.overload.proofs.Preference.{or_cases, or_left, or_right}

-- an overload of a family
pub record Of (f : Family) (o : Overload) : Type 0 where
  pub t : ℕ
  pub i : ℕ
  pub z : Size
  pub in_set : T (member t f.set)
  pub in_second : T (member i f.second)
  pub in_sizes : Memᴰ z f.sizes
  pub is : o ≡ overload f t i z

over-second : (f : Family) (t : ℕ) (z : Size) (is : List ℕ) (o : Overload) → Memᴰ o (over_second f t z is) → (i : ℕ) × T (member i is) × (o ≡ overload f t i z)
unfolding over_second member
over-second f t z [] o m = absurd (Memᴰ.not-nil m)
over-second f t z (i ∷ is) o m =
    ⊎_elim (λ e. (i, or_left (eqb i i) (member i is) (eqb_refl i), e))
    (λ n. let r = over-second f t z is o n in (r.0, or_right (eqb r.0 i) (member r.0 is) r.1, r.2))
    (Memᴰ.cases_cons m)

at_size : (f : Family) (t : ℕ) (zs : List Size) (o : Overload) → Memᴰ o (at_sizes f t zs) → (z : Size) × Memᴰ z zs × Memᴰ o (over_second f t z f.second)
unfolding at_sizes
at_size f t [] o m = absurd (Memᴰ.not-nil m)
at_size f t (z ∷ zs) o m =
    ⊎_elim (λ e. (z, Memᴰ.head refl, e)) (λ n. let r = at_size f t zs o n in (r.0, Memᴰ.tail r.1, r.2)) (Memᴰ.append_cases (over_second f t z f.second) m)

over-set : (f : Family) (ts : List ℕ) (o : Overload) → Memᴰ o (over_set f ts) → (t : ℕ) × T (member t ts) × Memᴰ o (at_sizes f t f.sizes)
unfolding over_set member
over-set f [] o m = absurd (Memᴰ.not-nil m)
over-set f (t ∷ ts) o m =
    ⊎_elim (λ a. (t, or_left (eqb t t) (member t ts) (eqb_refl t), a))
    (λ b. let r = over-set f ts o b in (r.0, or_right (eqb r.0 t) (member r.0 ts) r.1, r.2))
    (Memᴰ.append_cases (at_sizes f t f.sizes) m)

pub of-family : (f : Family) (o : Overload) → Memᴰ o (of_family f) → Of f o
of-family f o m =
    let r = over-set f f.set o m in
    let q = at_size f r.0 f.sizes o r.2 in
    let w = over-second f r.0 q.0 f.second o q.2 in
    record { t = r.0; i = w.0; z = q.0; in_set = r.1; in_second = w.1; in_sizes = q.1; is = w.2 }

-- an overload of a list of families is one of the family at some place
pub listed_of : (fs : List Family) (o : Overload) → Memᴰ o (of_families fs) → (k : ℕ) × (k < length fs) × Memᴰ o (of_family (get_or fs k no_family))
unfolding of_families
listed_of [] o m = absurd (Memᴰ.not-nil m)
listed_of (f ∷ fs) o m =
    ⊎_elim (λ a. (0, omega arith, a)) (λ b. let r = listed_of fs o b in let l = r.1 in (suc r.0, omega arith, r.2)) (Memᴰ.append_cases (of_family f) m)

-- and the other way
to-second : (f : Family) (t : ℕ) (z : Size) (is : List ℕ) (i : ℕ) → T (member i is) → Memᴰ (overload f t i z) (over_second f t z is)
unfolding over_second member
to-second f t z [] i m = absurd m
to-second f t z (j ∷ is) i m =
    ⊎_elim (λ e. Memᴰ.head (ap (λ (k : ℕ). overload f t k z) (eqb→eq i j e))) (λ n. Memᴰ.tail (to-second f t z is i n)) (or_cases (eqb i j) (member i is) m)

to-size : (f : Family) (t i : ℕ) (zs : List Size) (z : Size) → T (member i f.second) → Memᴰ z zs → Memᴰ (overload f t i z) (at_sizes f t zs)
unfolding at_sizes
to-size f t i [] z h m = absurd (Memᴰ.not-nil m)
to-size f t i (y ∷ zs) z h m =
    ⊎_elim
    (λ e. Memᴰ.append_left (at_sizes f t zs) (subst (λ (w : Size). Memᴰ (overload f t i z) (over_second f t w f.second)) e (to-second f t z f.second i h)))
    (λ n. Memᴰ.append_right (over_second f t y f.second) (to-size f t i zs z h n))
    (Memᴰ.cases_cons m)

to_set : (f : Family) (ts : List ℕ) (t i : ℕ) (z : Size) → T (member t ts) → T (member i f.second) → Memᴰ z f.sizes → Memᴰ (overload f t i z) (over_set f ts)
unfolding over_set member
to_set f [] t i z h g m = absurd h
to_set f (u ∷ ts) t i z h g m =
    ⊎_elim
    (λ e. Memᴰ.append_left (over_set f ts) (subst (λ (v : ℕ). Memᴰ (overload f t i z) (at_sizes f v f.sizes)) (eqb→eq t u e) (to-size f t i f.sizes z g m)))
    (λ n. Memᴰ.append_right (at_sizes f u f.sizes) (to_set f ts t i z n g m))
    (or_cases (eqb t u) (member t ts) h)

pub to-family : (f : Family) (t i : ℕ) (z : Size) → T (member t f.set) → T (member i f.second) → Memᴰ z f.sizes → Memᴰ (overload f t i z) (of_family f)
to-family f t i z h g m = to_set f f.set t i z h g m

pub to-listed : (fs : List Family) (k : ℕ) (o : Overload) → k < length fs → Memᴰ o (of_family (get_or fs k no_family)) → Memᴰ o (of_families fs)
unfolding of_families
to-listed [] k o h m = absurd (not-suc-le-zero h)
to-listed (f ∷ fs) zero o h m = Memᴰ.append_left (of_families fs) m
to-listed (f ∷ fs) (suc k) o h m = Memᴰ.append_right (of_family f) (to-listed fs k o (le_of_suc-le-suc h) m)

-- the families of a row stand together in the list of all

in-joined : (rs : List Row) (k i : ℕ) → i < length (get_or rs k no_row).families → get_or (joined rs) (length (joined (take k rs)) + i) no_family ≡ get_or (get_or rs k no_row).families i no_family
unfolding joined
in-joined [] k i h = absurd (not-suc-le-zero h)
in-joined (r ∷ rs) zero i h = ap (λ (n : ℕ). get_or (r.families ++ joined rs) n no_family) (zero-add i) ∙ get_or-append r.families (joined rs) no_family i h
in-joined (r ∷ rs) (suc k) i h =
    ap (λ (n : ℕ). get_or (r.families ++ joined rs) n no_family) (ap (λ (n : ℕ). n + i) (length-append r.families (joined (take k rs))) ∙ add_assoc (length r.families) (length (joined (take k rs))) i)
    ∙ get_or-append-add r.families (joined rs) (length (joined (take k rs)) + i) no_family
    ∙ in-joined rs k i h

pub row-family : (row i : ℕ) → i < length (row_at row).families → family_of (start_of row + i) ≡ get_or (row_at row).families i no_family
unfolding family_of families start_of row_at
row-family row i h = in-joined rows row i h
