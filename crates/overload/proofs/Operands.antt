-- A type stands for an operand by its number: it converts to the parameters of every listed row as the type does that the number stands for.
-- So demand 3 and all that goes with it holds of the types themselves. Assumes nothing.
use Rattle.std.proofs.Common.{◌≡◌, ℕ, ◌+◌, ◌-◌, ◌*◌, ◌/◌, ◌%◌, ◌<◌, ◌≤◌, Bool, true, false, ◌&&◌, ◌||◌, T, eqb, ltb, leb, List, [], ◌∷◌, map, sym, refl, ap, ◌∙◌, subst, ap₂, inl, inr, ⊎_elim, arith, ltb-true, le-ltb, lt-ltb, ne_eqb, eqb-true, leb-true}
use mathlib.Core.List.{Memᴰ}
use Rattle.conv.specs.Types.{Ty, is_width, is_float, formed}
use Rattle.conv.specs.Types.Ty.{scalar, vec, mat, array, runtime, atomic, ptr, ref, frexp, modf, exchange}
use Rattle.conv.specs.Rank.{pick, both, none, rank_of, Shape, form_of, shape_of, component_of, same_shape, is_reference, conversion_rank, made}
use Rattle.conv.specs.Rank.Shape.{vector, matrix, other}
use Rattle.conv.proofs.Finite.{both_left, both_right}
use Rattle.conv.proofs.Made.{made-rank, shape-made}
use Rattle.overload.specs.Overload.{Overload, fits, no_more, less, or, Preferred, Judged, Resolved}
use Rattle.overload.specs.Overload.Judged.{gives, none_fits}
use Rattle.overload.specs.Marks.{passing}
use Rattle.overload.specs.Rows.{Size, Pattern, form_at, component_at, pattern_ty, overloads_of, of_row, row_at}
use Rattle.overload.specs.inner.Code.{shape_of_no, shape_no, operand, code_of, kept, judge_kept}
use Rattle.overload.proofs.Preference.{Sized, fine, all_fine, form_small, component-small}
use Rattle.overload.proofs.Slots.{by_shape}
use Rattle.overload.proofs.Families.{good-in}
use Rattle.overload.proofs.Listing.{listed_of, of-family}
use Rattle.overload.proofs.Apart.{family_at}
use Rattle.overload.proofs.Marks.{kept-resolved, kept-is}

-- THE NUMBER OF A TYPE

abbrev pub Alike : Ty → ℕ → Type 0
Alike t x = (p : Shape) (s : ℕ) → T (ltb (form_of p) 3) → s < 7 → conversion_rank t (made p s) ≡ conversion_rank (operand x) (made p s)

no-shape : (b : Bool) (r : ℕ) → pick (both false b) r none ≡ none
unfolding both
no-shape b r = refl

alike_of : (t : Ty) (x : ℕ) → shape_of t ≡ shape_of_no (x / 7) → (T (ltb (form_of (shape_of t)) 3) → component_of t ≡ x % 7) → Alike t x
alike_of t x e k p s hp hs =
    made-rank t p s hp hs
    ∙ ap (λ (a : Shape). pick (same_shape a p) (rank_of (component_of t) s) none) e
    ∙ inner (ltb (form_of (shape_of_no (x / 7))) 3) refl
    ∙ sym
    (made-rank (operand x) p s hp hs
    ∙ ap (λ (a : Shape). pick (same_shape a p) (rank_of (component_of (operand x)) s) none) (shape-made (shape_of_no (x / 7)) (x % 7))
    ∙ by_shape (shape_of_no (x / 7)) (x % 7) p s)
  where
    apart : ltb (form_of (shape_of_no (x / 7))) 3 ≡ false → (r : ℕ) → pick (same_shape (shape_of_no (x / 7)) p) r none ≡ none
    apart q r = rw q (no-shape _ r)

    inner : (b : Bool) → ltb (form_of (shape_of_no (x / 7))) 3 ≡ b
        → pick (same_shape (shape_of_no (x / 7)) p) (rank_of (component_of t) s) none ≡ pick (same_shape (shape_of_no (x / 7)) p) (rank_of (x % 7) s) none
    inner true q = ap (λ (c : ℕ). pick (same_shape (shape_of_no (x / 7)) p) (rank_of c s) none) (k (rw (e, q) tt))
    inner false q = apart q _ ∙ sym (apart q _)

pub and_left : (a b : Bool) → (a && b) ≡ true → a ≡ true
and_left true b h = refl
and_left false b h = h

pub and_right : (a b : Bool) → (a && b) ≡ true → b ≡ true
and_right true b h = h
and_right false b h = absurd (let z : ◌≡◌ {A = ℕ} 0 1 = cc in omega arith)

-- a width is from 2 to 4
pub between : (n : ℕ) → is_width n ≡ true → (2 ≤ n) × (n ≤ 4)
between n h = (leb-true 2 n (and_left _ _ h), leb-true n 4 (and_right (leb 2 n) _ h))

or-true : {P : Type 0} (a b : Bool) → (a ≡ true → P) → (b ≡ true → P) → (a || b) ≡ true → P
or-true true b f g h = f refl
or-true false b f g h = g h

pub float_small : (s : ℕ) → is_float s ≡ true → s < 7
float_small s =
    or-true (eqb s 2 || eqb s 5) (eqb s 6) (or-true (eqb s 2) (eqb s 5) (λ e. let q = eqb-true s 2 e in omega arith) (λ e. let q = eqb-true s 5 e in omega arith))
    (λ e. let q = eqb-true s 6 e in omega arith)

vector-no : (n : ℕ) → is_width n ≡ true → (shape_no (vector n) ≡ n - 1) × (shape_of_no (n - 1) ≡ vector n)
unfolding shape_no shape_of_no both
vector-no n h =
    let b = between n h in
    let l = b.0 in
    let u = b.1 in
    let e : n - 1 + 1 ≡ n = omega arith in
    (rw h, rw (ne_eqb (n - 1) 0 (λ q. omega arith), lt-ltb (n - 1) 4 (omega arith), e))

matrix-no : (c r : ℕ) → is_width c ≡ true → is_width r ≡ true → (shape_no (matrix c r) ≡ 3 * c + r - 4) × (shape_of_no (3 * c + r - 4) ≡ matrix c r) × (3 * c + r - 4 < 13)
unfolding shape_no shape_of_no both
matrix-no c r hc hr =
    let b = between c hc in
    let d = between r hr in
    let l = b.0 in
    let u = b.1 in
    let l' = d.0 in
    let u' = d.1 in
    let k = 3 * c + r - 4 in
    let e : (k - 4) / 3 + 2 ≡ c = omega arith in
    let e' : (k - 4) % 3 + 2 ≡ r = omega arith in
    (rw (hc, hr), rw (ne_eqb k 0 (λ q. omega arith), le-ltb k 4 (omega arith), lt-ltb k 13 (omega arith), e, e'), omega arith)

-- a number that is 7 times a shape below 13 plus a component
pub code-of : (t : Ty) (k s : ℕ) → shape_no (shape_of t) ≡ k → k < 13 → component_of t ≡ s → code_of t ≡ 7 * k + s
unfolding code_of
code-of t k s e h c = rw (e, lt-ltb k 13 h, c)

parted : (t : Ty) (k s : ℕ) → shape_no (shape_of t) ≡ k → k < 13 → component_of t ≡ s → s < 7 → shape_of t ≡ shape_of_no k → Alike t (code_of t)
parted t k s e h c hs q =
    let x = code-of t k s e h c in
    let d : code_of t / 7 ≡ k = omega arith in
    let m : code_of t % 7 ≡ s = omega arith in
    alike_of t (code_of t) (q ∙ ap shape_of_no (sym d)) (λ f. c ∙ sym m)

-- a type of another shape has the number 91 or 98
pub code_other : (t : Ty) → shape_of t ≡ other → code_of t ≡ pick (is_reference t) 98 91
unfolding code_of shape_no both
code_other t e = rw e

others : (t : Ty) → shape_of t ≡ other → Alike t (code_of t)
unfolding shape_of_no
others t e = go (is_reference t) refl
  where
    by : (x : ℕ) → code_of t ≡ x → shape_of_no (x / 7) ≡ other → Alike t (code_of t)
    by x q o = alike_of t (code_of t) (e ∙ sym (ap (λ (k : ℕ). shape_of_no (k / 7)) q ∙ o)) (λ f. absurd (subst (λ (p : Shape). T (ltb (form_of p) 3)) e f))

    go : (b : Bool) → is_reference t ≡ b → Alike t (code_of t)
    go true r = by 98 (code_other t e ∙ rw r) refl
    go false r = by 91 (code_other t e ∙ rw r) refl

-- the numbers of scalars, vectors and matrices
pub code-scalar : (s : ℕ) → code_of (scalar s) ≡ s
unfolding shape_of component_of shape_no
code-scalar s = code-of (scalar s) 0 s refl (omega arith) refl ∙ omega arith

pub code-vec : (n s : ℕ) → is_width n ≡ true → code_of (vec n s) ≡ 7 * (n - 1) + s
unfolding shape_of component_of
code-vec n s h = let b = between n h in let u = b.1 in code-of (vec n s) (n - 1) s (vector-no n h).0 (omega arith) refl

pub code-mat : (c r s : ℕ) → is_width c ≡ true → is_width r ≡ true → code_of (mat c r s) ≡ 7 * (3 * c + r - 4) + s
unfolding shape_of component_of
code-mat c r s hc hr = let m = matrix-no c r hc hr in code-of (mat c r s) (3 * c + r - 4) s m.0 m.2 refl

pub code_alike : (t : Ty) → formed t ≡ true → Alike t (code_of t)
unfolding formed shape_of component_of shape_no shape_of_no
code_alike (scalar s) h = parted (scalar s) 0 s refl (omega arith) refl (ltb-true s 7 h) refl
code_alike (vec n s) h =
    let w = and_left (is_width n) _ h in
    let v = vector-no n w in
    let b = between n w in
    let u = b.1 in
    parted (vec n s) (n - 1) s v.0 (omega arith) refl (ltb-true s 7 (and_right (is_width n) _ h)) (sym v.1)
code_alike (mat c r s) h =
    let hc = and_left (is_width c) _ (and_left (is_width c && is_width r) _ h) in
    let hr = and_right (is_width c) _ (and_left (is_width c && is_width r) _ h) in
    let m = matrix-no c r hc hr in
    parted (mat c r s) (3 * c + r - 4) s m.0 m.2 refl (float_small s (and_right (is_width c && is_width r) _ h)) (sym m.1)
code_alike (array k t) h = others (array k t) refl
code_alike (runtime t) h = others (runtime t) refl
code_alike (atomic s) h = others (atomic s) refl
code_alike (ptr a b t) h = others (ptr a b t) refl
code_alike (ref a b t) h = others (ref a b t) refl
code_alike (frexp t) h = others (frexp t) refl
code_alike (modf t) h = others (modf t) refl
code_alike (exchange s) h = others (exchange s) refl

-- LISTS OF OPERANDS

unfoldable pub all_formed : List Ty → Bool
all_formed [] = true
all_formed (t ∷ ts) = formed t && all_formed ts

abbrev pub codes_of : List Ty → List ℕ
codes_of ts = map code_of ts

-- a parameter that is a scalar, a vector or a matrix
abbrev pub Made : Ty → Type 0
Made p = (q : Shape) × (s : ℕ) × T (ltb (form_of q) 3) × (s < 7) × (p ≡ made q s)

unfoldable pub AllMade : List Ty → Type 0
AllMade [] = Unit {0}
AllMade (p ∷ ps) = Made p × AllMade ps

pub rank-alike : (x p : Ty) → formed x ≡ true → Made p → conversion_rank x p ≡ conversion_rank (operand (code_of x)) p
rank-alike x p f m =
    subst (λ (q : Ty). conversion_rank x q ≡ conversion_rank (operand (code_of x)) q) (sym m.4) (code_alike x f m.0 m.1 m.2 m.3)

-- the parameters of a pattern's list are such
patterns-made : (set : List ℕ) (z : Size) (t i : ℕ) (ps : List Pattern) → Sized z → t < 7 → i < 7 → T (all_fine set ps) → AllMade (map (pattern_ty z t i) ps)
unfolding AllMade
patterns-made set z t i [] hz ht hi s = tt
patterns-made set z t i (p ∷ ps) hz ht hi s =
    ((form_at p.form z, component_at p.of t i, form_small p.form z hz, component-small set p.of t i ht hi (both_left _ _ s), refl), patterns-made set z t i ps hz ht hi (both_right (fine set p.of) _ s))

-- and so are those of an overload of a row
pub params_of : (row : ℕ) (o : Overload) → Memᴰ o (overloads_of (row_at row)) → AllMade o.params
params_of row o m =
    let r = listed_of (row_at row).families o m in
    let f = family_at row r.0 in
    let q = of-family f o r.2 in
    let g = good-in row r.0 in
    subst (λ (p : Overload). AllMade p.params) (sym q.is)
    (patterns-made f.set q.z q.t q.i f.params (g.fair q.z q.in_sizes).sized (g.set q.t q.in_set) (g.second q.i q.in_second) g.small)

pub fits_by : (ps ts : List Ty) → AllMade ps → all_formed ts ≡ true → fits ps ts ≡ fits ps (map operand (codes_of ts))
unfolding fits all_formed AllMade
fits_by [] [] m f = refl
fits_by [] (x ∷ xs) m f = refl
fits_by (p ∷ ps) [] m f = refl
fits_by (p ∷ ps) (x ∷ xs) m f =
    ap₂ (λ (r : ℕ) (b : Bool). both (ltb r none) b) (rank-alike x p (and_left _ _ f) m.0) (fits_by ps xs m.1 (and_right (formed x) _ f))

pub no-more-by : (ts ps qs : List Ty) → AllMade ps → AllMade qs → all_formed ts ≡ true → no_more ts ps qs ≡ no_more (map operand (codes_of ts)) ps qs
unfolding no_more all_formed AllMade
no-more-by [] ps qs m n f = refl
no-more-by (x ∷ xs) [] qs m n f = refl
no-more-by (x ∷ xs) (p ∷ ps) [] m n f = refl
no-more-by (x ∷ xs) (p ∷ ps) (q ∷ qs) m n f =
    (λ i. both (leb (rank-alike x p (and_left _ _ f) m.0 i) (rank-alike x q (and_left _ _ f) n.0 i)) (no-more-by xs ps qs m.1 n.1 (and_right (formed x) _ f) i))

pub less_by : (ts ps qs : List Ty) → AllMade ps → AllMade qs → all_formed ts ≡ true → less ts ps qs ≡ less (map operand (codes_of ts)) ps qs
unfolding less all_formed AllMade
less_by [] ps qs m n f = refl
less_by (x ∷ xs) [] qs m n f = refl
less_by (x ∷ xs) (p ∷ ps) [] m n f = refl
less_by (x ∷ xs) (p ∷ ps) (q ∷ qs) m n f =
    (λ i. or (ltb (rank-alike x p (and_left _ _ f) m.0 i) (rank-alike x q (and_left _ _ f) n.0 i)) (less_by xs ps qs m.1 n.1 (and_right (formed x) _ f) i))

module _ (ts : List Ty) (f : all_formed ts ≡ true) (row : ℕ) (running : Bool) where
  -- the overloads of a row that the engine looks at
  abbrev Looked : Overload → Type 0
  Looked = passing (kept running) (of_row (row_at row))

  -- what is preferred by the numbers is preferred by the types
  pub preferred-types : (o : Overload) → Preferred (passing (kept running) (of_row (row_at row))) (map operand (codes_of ts)) o → Preferred (passing (kept running) (of_row (row_at row))) ts o
  preferred-types o q =
      let a = params_of row o q.among.0 in
      record {
        among = q.among;
        fitting = subst T (sym (fits_by o.params ts a f)) q.fitting;
        over = λ p m h.
            let b = params_of row p m.0 in
            ⊎_elim inl (λ l. inr (subst T (sym (no-more-by ts o.params p.params a b f)) l.0, subst T (sym (less_by ts o.params p.params a b f)) l.1))
            (q.over p m (subst T (fits_by p.params ts b f) h));
      }

  -- and every judgment by the numbers is one by the types
  resolved-types : (r : Judged) → Resolved Looked (map operand (codes_of ts)) r → Resolved Looked ts r
  unfolding Resolved
  resolved-types (gives t) q = (q.0, preferred-types q.0 q.1, q.2)
  resolved-types none_fits q = λ p m h. q p m (subst T (fits_by p.params ts (params_of row p m.0) f) h)

  -- so the definition judges the types as it judges the numbers
  pub judge-types : judge_kept running (row_at row) (map operand (codes_of ts)) ≡ judge_kept running (row_at row) ts
  judge-types =
      kept-is row running ts (judge_kept running (row_at row) (map operand (codes_of ts)))
      (resolved-types (judge_kept running (row_at row) (map operand (codes_of ts))) (kept-resolved row running (map operand (codes_of ts))))
