-- A spelling is read back to its type, whatever follows it, so two types that there are never share a spelling. Assumes nothing.
use Prim.Native.Nat.{ℕ, zero, suc, ◌+◌, ◌<◌}
use Prim.Native.String.{String}
use mathlib.Core.Path.{◌≡◌, refl, sym, ◌∙◌, ap}
use mathlib.Core.Bool.{true, false≢true, ◌&&◌, cond}
use mathlib.Core.List.{List, [], ◌∷◌, ◌++◌, append_assoc}
use native.Mathlib.Nat.{suc-add, add_comm}
use lib.ListN.{get_or, drop}
use lib.Dec.{ltb, eqb}
use borrow.Author.Tests.{lt-ltb}
use Rattle.conv.specs.Types.{Ty, is_float, is_fract, formed}
use Rattle.conv.specs.Types.Ty.{scalar, vec, mat, array, runtime, atomic, ptr, ref, frexp, modf, exchange}
use Rattle.text.specs.Text.{ascii, decimal}
use Rattle.spell.specs.Spell.{scalar_names, space_names, access_names, named, fract_scalar, fract_name, spelling}
use Rattle.table.proofs.SoundLaws.{and_right}
use Rattle.spell.proofs.Rows.{scalar-row, vec-row, mat-row, atomic-row, exchange-row, array_row, runtime-row, ptr-row, ref-row}
use Rattle.spell.proofs.Words.{in_word, in_number, front, rest, stops, number, name_no, same, tell_apart, fracts, number-front, number-rest, name-front, name-rest, scalars-apart, spaces-apart, accesses-apart, fracts-apart, fract-named}

-- what was read, and the bytes after it
pub data Got : Type 0 where
  got : Ty → List ℕ → Got

-- a number or a name in front
abbrev number_at : List ℕ → ℕ
number_at l = number (front in_number l)

abbrev name_at : List String → List ℕ → ℕ
name_at names l = name_no names (front in_word l)

-- `vec`, then its width, a separator and its scalar
abbrev read_vec : List ℕ → Got
read_vec l =
    let a = drop 3 l in
    let s = drop 1 (rest in_number a) in
    got (vec (number_at a) (name_at scalar_names s)) (drop 1 (rest in_word s))

abbrev read_mat : List ℕ → Got
read_mat l =
    let c = drop 3 l in
    let r = drop 1 (rest in_number c) in
    let s = drop 1 (rest in_number r) in
    got (mat (number_at c) (number_at r) (name_at scalar_names s)) (drop 1 (rest in_word s))

-- a head of k bytes, `<` among them, whose argument is a scalar
abbrev read_over : (ℕ → Ty) → ℕ → List ℕ → Got
read_over head k l = let s = drop k l in got (head (name_at scalar_names s)) (drop 1 (rest in_word s))

-- after the element of an array: a count, or none
abbrev close_array : Got → Got
close_array (got t l) =
    let k = drop 1 l in
    cond (eqb (get_or l 0 0) 44) (got (array (number_at k) t) (drop 1 (rest in_number k))) (got (runtime t) k)

-- after the type that a pointer or a reference leads to: the access
abbrev close_ptr : (ℕ → Ty → Ty) → Got → Got
close_ptr head (got t l) = let a = drop 1 l in got (head (name_at access_names a) t) (drop 1 (rest in_word a))

abbrev read_ptr : (ℕ → ℕ → Ty → Ty) → (List ℕ → Got) → List ℕ → Got
read_ptr head inner l = let p = drop 4 l in close_ptr (head (name_at space_names p)) (inner (drop 1 (rest in_word p)))

-- a result type: its head, then what `fract` is
abbrev read_fract : (Ty → Ty) → List ℕ → Got
read_fract head l =
    let n = drop 3 l in
    let s = drop 1 (rest in_number n) in
    cond (ltb (name_at fracts l) 7)
    (got (head (scalar (name_at fracts l))) (rest in_word l))
    (got (head (vec (number_at n) (name_at fracts s))) (rest in_word s))

-- by the first bytes of a head: v, m, ar, at, p, r, __f, __m, __a
abbrev read_head : (List ℕ → Got) → List ℕ → Got
read_head inner l =
    cond (eqb (get_or l 0 0) 118) (read_vec l)
    (cond (eqb (get_or l 0 0) 109) (read_mat l)
    (cond (eqb (get_or l 0 0) 97) (cond (eqb (get_or l 1 0) 114) (close_array (inner (drop 6 l))) (read_over atomic 7 l))
    (cond (eqb (get_or l 0 0) 112) (read_ptr ptr inner l)
    (cond (eqb (get_or l 0 0) 114) (read_ptr ref inner l)
    (cond (eqb (get_or l 2 0) 102) (read_fract frexp (drop 15 l))
    (cond (eqb (get_or l 2 0) 109) (read_fract modf (drop 14 l)) (read_over exchange 33 l)))))))

pub read : ℕ → List ℕ → Got
read zero l = got (scalar 0) l
read (suc f) l = cond (ltb (name_at scalar_names l) 7) (got (scalar (name_at scalar_names l)) (rest in_word l)) (read_head (read f) l)

-- how many arrays, pointers and references stand around a type
pub depth : Ty → ℕ
depth (scalar s) = 0
depth (vec n s) = 0
depth (mat c r s) = 0
depth (array k t) = suc (depth t)
depth (runtime t) = suc (depth t)
depth (atomic s) = 0
depth (ptr space access t) = suc (depth t)
depth (ref space access t) = suc (depth t)
depth (frexp t) = 0
depth (modf t) = 0
depth (exchange s) = 0

-- a spelling may be followed by nothing, or by what ends a word
abbrev pub Ended : List ℕ → Type 0
Ended x = stops in_word x ≡ true

-- no scalar's name begins as a head does
no-scalar : (l : List ℕ) →
    (name_no scalar_names (118 ∷ l) ≡ 7) × (name_no scalar_names (109 ∷ l) ≡ 7) × (name_no scalar_names (97 ∷ l) ≡ 7) ×
    (name_no scalar_names (112 ∷ l) ≡ 7) × (name_no scalar_names (114 ∷ l) ≡ 7) × (name_no scalar_names (95 ∷ l) ≡ 7)
unfolding name_no same ascii
no-scalar l = (refl, refl, refl, refl, refl, refl)

read-head : (f b : ℕ) (l : List ℕ) → in_word b ≡ true → name_no scalar_names (b ∷ front in_word l) ≡ 7 → read (suc f) (b ∷ l) ≡ read_head (read f) (b ∷ l)
unfolding read front
read-head f b l p h = rw (p, h)

no-fract : (l : List ℕ) → name_no fracts (front in_word (118 ∷ l)) ≡ 7
unfolding name_no same ascii front
no-fract l = refl

-- what follows the type that a pointer or a reference leads to
abbrev access : ℕ → List ℕ → List ℕ
access a x = 44 ∷ (named access_names a ++ (62 ∷ x))

module _ (x : List ℕ) (e : Ended x) where
  -- a scalar in front of `>`
  closed : (names : List String) (n : ℕ) → tell_apart names n ≡ true → (s : ℕ) → s < n →
      (name_at names (named names s ++ (62 ∷ x)) ≡ s) × (rest in_word (named names s ++ (62 ∷ x)) ≡ 62 ∷ x)
  closed names n t s h = (name-front names n t s h (62 ∷ x) refl, name-rest names n t s h (62 ∷ x) refl)

  read-scalar : (f s : ℕ) → s < 7 → read (suc f) (spelling (scalar s) ++ x) ≡ got (scalar s) x
  unfolding read spelling
  read-scalar f s h = rw (name-front scalar_names 7 scalars-apart s h x e, name-rest scalar_names 7 scalars-apart s h x e, lt-ltb s 7 h)

  vec-flat : (n s : ℕ) → spelling (vec n s) ++ x ≡ 118 ∷ 101 ∷ 99 ∷ (decimal n ++ (60 ∷ (named scalar_names s ++ (62 ∷ x))))
  unfolding spelling ascii
  vec-flat n s = simp append_assoc

  read-vec : (f n s : ℕ) → s < 7 → read (suc f) (spelling (vec n s) ++ x) ≡ got (vec n s) x
  read-vec f n s h =
      let z = closed scalar_names 7 scalars-apart s h in
      rw (vec-flat n s, read-head f 118 _ refl (no-scalar _).0, number-front n (60 ∷ (named scalar_names s ++ (62 ∷ x))) refl, number-rest n (60 ∷ (named scalar_names s ++ (62 ∷ x))) refl, z.0, z.1)

  mat-flat : (c r s : ℕ) → spelling (mat c r s) ++ x ≡ 109 ∷ 97 ∷ 116 ∷ (decimal c ++ (120 ∷ (decimal r ++ (60 ∷ (named scalar_names s ++ (62 ∷ x))))))
  unfolding spelling ascii
  mat-flat c r s = simp append_assoc

  read-mat : (f c r s : ℕ) → s < 7 → read (suc f) (spelling (mat c r s) ++ x) ≡ got (mat c r s) x
  read-mat f c r s h =
      let z = closed scalar_names 7 scalars-apart s h in
      let l : List ℕ = 60 ∷ (named scalar_names s ++ (62 ∷ x)) in
      rw (mat-flat c r s, read-head f 109 _ refl (no-scalar _).1, number-front c (120 ∷ (decimal r ++ l)) refl, number-rest c (120 ∷ (decimal r ++ l)) refl, number-front r l refl, number-rest r l refl, z.0, z.1)

  atomic-flat : (s : ℕ) → spelling (atomic s) ++ x ≡ 97 ∷ 116 ∷ 111 ∷ 109 ∷ 105 ∷ 99 ∷ 60 ∷ (named scalar_names s ++ (62 ∷ x))
  unfolding spelling ascii
  atomic-flat s = simp append_assoc

  read-atomic : (f s : ℕ) → s < 7 → read (suc f) (spelling (atomic s) ++ x) ≡ got (atomic s) x
  read-atomic f s h =
      let z = closed scalar_names 7 scalars-apart s h in
      rw (atomic-flat s, read-head f 97 _ refl (no-scalar _).2, z.0, z.1)

  exchange-flat : (s : ℕ) → spelling (exchange s) ++ x ≡ ascii "__atomic_compare_exchange_result<" ++ (named scalar_names s ++ (62 ∷ x))
  unfolding spelling ascii
  exchange-flat s = simp append_assoc

  read-exchange : (f s : ℕ) → s < 7 → read (suc f) (spelling (exchange s) ++ x) ≡ got (exchange s) x
  unfolding ascii
  read-exchange f s h =
      let z = closed scalar_names 7 scalars-apart s h in
      rw (exchange-flat s, read-head f 95 _ refl (no-scalar _).5, z.0, z.1)

  array-flat : (k : ℕ) (t : Ty) → spelling (array k t) ++ x ≡ 97 ∷ 114 ∷ 114 ∷ 97 ∷ 121 ∷ 60 ∷ (spelling t ++ (44 ∷ (decimal k ++ (62 ∷ x))))
  unfolding spelling ascii
  array-flat k t = simp append_assoc

  read-array : (f k : ℕ) (t : Ty) → read f (spelling t ++ (44 ∷ (decimal k ++ (62 ∷ x)))) ≡ got t (44 ∷ (decimal k ++ (62 ∷ x))) →
      read (suc f) (spelling (array k t) ++ x) ≡ got (array k t) x
  read-array f k t h =
      rw (array-flat k t, read-head f 97 _ refl (no-scalar _).2, h, number-front k (62 ∷ x) refl, number-rest k (62 ∷ x) refl)

  runtime-flat : (t : Ty) → spelling (runtime t) ++ x ≡ 97 ∷ 114 ∷ 114 ∷ 97 ∷ 121 ∷ 60 ∷ (spelling t ++ (62 ∷ x))
  unfolding spelling ascii
  runtime-flat t = simp append_assoc

  read-runtime : (f : ℕ) (t : Ty) → read f (spelling t ++ (62 ∷ x)) ≡ got t (62 ∷ x) → read (suc f) (spelling (runtime t) ++ x) ≡ got (runtime t) x
  read-runtime f t h = rw (runtime-flat t, read-head f 97 _ refl (no-scalar _).2, h)

  ptr-flat : (p a : ℕ) (t : Ty) → spelling (ptr p a t) ++ x ≡ 112 ∷ 116 ∷ 114 ∷ 60 ∷ (named space_names p ++ (44 ∷ (spelling t ++ access a x)))
  unfolding spelling ascii
  ptr-flat p a t = simp append_assoc

  ref-flat : (p a : ℕ) (t : Ty) → spelling (ref p a t) ++ x ≡ 114 ∷ 101 ∷ 102 ∷ 60 ∷ (named space_names p ++ (44 ∷ (spelling t ++ access a x)))
  unfolding spelling ascii
  ref-flat p a t = simp append_assoc

  read-space : (head : ℕ → ℕ → Ty → Ty) (f p a : ℕ) (t : Ty) (l : List ℕ) → drop 4 l ≡ named space_names p ++ (44 ∷ (spelling t ++ access a x)) → p < 6 → a < 3 →
      read f (spelling t ++ access a x) ≡ got t (access a x) → read_ptr head (read f) l ≡ got (head p a t) x
  read-space head f p a t l d hp ha h =
      let z = closed access_names 3 accesses-apart a ha in
      let y : List ℕ = 44 ∷ (spelling t ++ access a x) in
      rw (d, name-front space_names 6 spaces-apart p hp y refl, name-rest space_names 6 spaces-apart p hp y refl, h, z.0, z.1)

  read-ptr : (f p a : ℕ) (t : Ty) → p < 6 → a < 3 → read f (spelling t ++ access a x) ≡ got t (access a x) → read (suc f) (spelling (ptr p a t) ++ x) ≡ got (ptr p a t) x
  read-ptr f p a t hp ha h = rw (ptr-flat p a t, read-head f 112 _ refl (no-scalar _).3) (read-space ptr f p a t (112 ∷ 116 ∷ 114 ∷ 60 ∷ (named space_names p ++ (44 ∷ (spelling t ++ access a x)))) refl hp ha h)

  read-ref : (f p a : ℕ) (t : Ty) → p < 6 → a < 3 → read f (spelling t ++ access a x) ≡ got t (access a x) → read (suc f) (spelling (ref p a t) ++ x) ≡ got (ref p a t) x
  read-ref f p a t hp ha h = rw (ref-flat p a t, read-head f 114 _ refl (no-scalar _).4) (read-space ref f p a t (114 ∷ 101 ∷ 102 ∷ 60 ∷ (named space_names p ++ (44 ∷ (spelling t ++ access a x)))) refl hp ha h)

  fract-flat : (n s : ℕ) → fract_name (vec n s) ++ x ≡ 118 ∷ 101 ∷ 99 ∷ (decimal n ++ (95 ∷ (fract_scalar s ++ x)))
  unfolding fract_name ascii
  fract-flat n s = simp append_assoc

  fract-scalar : (head : Ty → Ty) (s : ℕ) → s < 7 → read_fract head (fract_name (scalar s) ++ x) ≡ got (head (scalar s)) x
  unfolding fract_name
  fract-scalar head s h =
      rw (fract-named s h, name-front fracts 7 fracts-apart s h x e, name-rest fracts 7 fracts-apart s h x e, lt-ltb s 7 h)

  fract-vec : (head : Ty → Ty) (n s : ℕ) → s < 7 → read_fract head (fract_name (vec n s) ++ x) ≡ got (head (vec n s)) x
  fract-vec head n s h =
      let l : List ℕ = 95 ∷ (named fracts s ++ x) in
      rw (fract-flat n s, fract-named s h, no-fract (101 ∷ 99 ∷ (decimal n ++ l)), number-front n l refl, number-rest n l refl, name-front fracts 7 fracts-apart s h x e, name-rest fracts 7 fracts-apart s h x e)

  read-fract : (head : Ty → Ty) (t : Ty) → (is_fract t && formed t) ≡ true → read_fract head (fract_name t ++ x) ≡ got (head t) x
  unfolding is_fract formed
  read-fract head (scalar s) h = fract-scalar head s (scalar-row s (and_right (is_float s) _ h))
  read-fract head (vec n s) h = fract-vec head n s (vec-row n s (and_right (is_float s) _ h))
  read-fract head (mat c r s) h = absurd (false≢true h)
  read-fract head (array k t) h = absurd (false≢true h)
  read-fract head (runtime t) h = absurd (false≢true h)
  read-fract head (atomic s) h = absurd (false≢true h)
  read-fract head (ptr p a t) h = absurd (false≢true h)
  read-fract head (ref p a t) h = absurd (false≢true h)
  read-fract head (frexp t) h = absurd (false≢true h)
  read-fract head (modf t) h = absurd (false≢true h)
  read-fract head (exchange s) h = absurd (false≢true h)

  read-frexp : (f : ℕ) (t : Ty) → (is_fract t && formed t) ≡ true → read (suc f) (spelling (frexp t) ++ x) ≡ got (frexp t) x
  unfolding spelling ascii
  read-frexp f t h = rw (append_assoc, read-head f 95 _ refl (no-scalar _).5) (read-fract frexp t h)

  read-modf : (f : ℕ) (t : Ty) → (is_fract t && formed t) ≡ true → read (suc f) (spelling (modf t) ++ x) ≡ got (modf t) x
  unfolding spelling ascii
  read-modf f t h = rw (append_assoc, read-head f 95 _ refl (no-scalar _).5) (read-fract modf t h)

-- a type that there is is read back from its spelling
pub read_back : (t : Ty) (g : ℕ) (x : List ℕ) → Ended x → formed t ≡ true → read (suc (depth t + g)) (spelling t ++ x) ≡ got t x
unfolding depth formed
read_back (scalar s) g x e h = read-scalar x e _ s (scalar-row s h)
read_back (vec n s) g x e h = read-vec x e _ n s (vec-row n s h)
read_back (mat c r s) g x e h = read-mat x e _ c r s (mat-row c r s h)
read_back (array k t) g x e h = rw suc-add (read-array x e _ k t (read_back t g (44 ∷ (decimal k ++ (62 ∷ x))) refl (array_row k t h)))
read_back (runtime t) g x e h = rw suc-add (read-runtime x e _ t (read_back t g (62 ∷ x) refl (runtime-row t h)))
read_back (atomic s) g x e h = read-atomic x e _ s (atomic-row s h)
read_back (ptr p a t) g x e h =
    let z = ptr-row p a t h in
    rw suc-add (read-ptr x e _ p a t z.0 z.1 (read_back t g (access a x) refl z.2))
read_back (ref p a t) g x e h =
    let z = ref-row p a t h in
    rw suc-add (read-ref x e _ p a t z.0 z.1 (read_back t g (access a x) refl z.2))
read_back (frexp t) g x e h = read-frexp x e _ t h
read_back (modf t) g x e h = read-modf x e _ t h
read_back (exchange s) g x e h = read-exchange x e _ s (exchange-row s h)

-- spellings of types that there are, followed by what ends them: where the bytes are the same, the types are, and what follows
pub spelling-prefix : (t u : Ty) (x y : List ℕ) → formed t ≡ true → formed u ≡ true → Ended x → Ended y → spelling t ++ x ≡ spelling u ++ y → (t ≡ u) × (x ≡ y)
spelling-prefix t u x y ht hu ex ey q = (cc both, cc both)
  where
    a : read (suc (depth t + depth u)) (spelling t ++ x) ≡ got t x
    a = read_back t (depth u) x ex ht

    b : read (suc (depth t + depth u)) (spelling u ++ y) ≡ got u y
    b = rw (add_comm (depth t) (depth u)) (read_back u (depth t) y ey hu)

    both : got t x ≡ got u y
    both = sym a ∙ ap (read (suc (depth t + depth u))) q ∙ b

-- two types that there are never share a spelling
pub spelling-injective : (t u : Ty) → formed t ≡ true → formed u ≡ true → spelling t ≡ spelling u → t ≡ u
spelling-injective t u ht hu q = (spelling-prefix t u [] [] ht hu refl refl (ap (λ (l : List ℕ). l ++ []) q)).0
