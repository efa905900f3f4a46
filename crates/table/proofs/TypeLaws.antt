-- What the numbers of a sound table stand for: the type of an entry by its kind and back, and that two numbers are two types. Assumes nothing.
use Prim.Native.Nat.{ℕ, zero, suc, ◌≤◌, ◌<◌}
use mathlib.Core.Path.{◌≡◌, refl, sym, ◌∙◌, ap}
use mathlib.Core.Bool.{true, false, ◌&&◌}
use mathlib.Core.List.{List}
use native.Mathlib.Nat.{not-suc-le-zero}
use native.Mathlib.Omega.{arith}
use lib.Dec.{leb, ltb, eqb}
use borrow.Author.Tests.{le-ltb, lt-ltb, ltb-true, ltb-false, eqb-true}
use Rattle.conv.specs.Types.{Ty, is_width}
use Rattle.conv.specs.Types.Ty.{scalar, vec, mat, array, runtime, atomic, ptr, ref, frexp, modf, exchange}
use Rattle.table.specs.Table.{scalars, kind_vec, kind_mat, kind_array, kind_runtime, kind_atomic, kind_ptr, kind_ref, kind_frexp, kind_modf, kind_exchange, entry_at, Key, entry_key, words_unused, row_ok, base_of, scalar_ok, made_ok, entry_ok, Sound, Keeps}
use Rattle.table.specs.Denote.{made, type_at, kind_of, p_of, q_of}
use Rattle.conv.specs.Rank.{element_of}
use Rattle.table.specs.declared.Entry.{Entry}
use Rattle.table.proofs.TableLaws.{elem_of, chain-scalar, chain-step, base-scalar, base_step}
use Rattle.table.proofs.SoundLaws.{and_left, and_right, keeps-chain}
use Rattle.table.proofs.KindLaws.{split, clash, by_kind, float-scalar, int-scalar, innermost, is_scalar, innermost-step}

-- the type of an entry above the scalars, by its kind

module _ (e : Entry) (t : Ty) where
  pub made_vec : e.kind ≡ kind_vec → made e t ≡ vec e.p e.elem
  unfolding made
  made_vec h = rw h

  pub made-mat : e.kind ≡ kind_mat → made e t ≡ mat e.p e.q e.elem
  unfolding made
  made-mat h = rw h

  pub made_array : e.kind ≡ kind_array → made e t ≡ array e.p t
  unfolding made
  made_array h = rw h

  pub made-runtime : e.kind ≡ kind_runtime → made e t ≡ runtime t
  unfolding made
  made-runtime h = rw h

  pub made-atomic : e.kind ≡ kind_atomic → made e t ≡ atomic e.elem
  unfolding made
  made-atomic h = rw h

  pub made-ptr : e.kind ≡ kind_ptr → made e t ≡ ptr e.p e.q t
  unfolding made
  made-ptr h = rw h

  pub made-ref : e.kind ≡ kind_ref → made e t ≡ ref e.p e.q t
  unfolding made
  made-ref h = rw h

  pub made-frexp : e.kind ≡ kind_frexp → made e t ≡ frexp t
  unfolding made
  made-frexp h = rw h

  pub made-modf : e.kind ≡ kind_modf → made e t ≡ modf t
  unfolding made
  made-modf h = rw h

  pub made-exchange : e.kind ≡ kind_exchange → made e t ≡ exchange e.elem
  unfolding made
  made-exchange h = rw h

-- a type T gives the words of its entry back: t is the type of elem
pub record Words (e : Entry) (T t : Ty) : Type 0 where
  pub kind : kind_of T ≡ e.kind
  pub p : p_of T ≡ e.p
  pub q : q_of T ≡ e.q
  pub elem : element_of T ≡ t
  pub above : is_scalar T ≡ false
  pub high : scalars ≤ e.kind

module _ (e : Entry) (t : Ty) (component : e.elem < scalars → t ≡ scalar e.elem) where
  plain-words : words_unused e ≡ true → (0 ≡ e.p) × (0 ≡ e.q)
  plain-words h = (sym (eqb-true _ _ (and_left _ _ h)), sym (eqb-true _ _ (and_right (eqb e.p 0) _ h)))

  pub row_words : (ek eb : ℕ) → row_ok e ek eb ≡ true → Words e (made e t) t
  unfolding row_ok kind_of p_of q_of element_of is_scalar
  row_words ek eb h =
      by_kind e.kind
      (λ k. let r = rw k at h in
      rw (made_vec e t k)
      (record {
        kind = sym k;
        p = refl;
        q = sym (eqb-true _ _ (and_right (is_width e.p) _ (and_left _ _ r)));
        elem = sym (component (ltb-true _ _ (and_right (is_width e.p && eqb e.q 0) _ r)));
        above = refl;
        high = omega arith;
      }))
      (λ k. let r = rw k at h in
      rw (made-mat e t k)
      (record {
        kind = sym k;
        p = refl;
        q = refl;
        elem = sym (component (float-scalar e.elem (and_right (is_width e.p && is_width e.q) _ r)));
        above = refl;
        high = omega arith;
      }))
      (λ k. let r = rw k at h in
      rw (made_array e t k)
      (record { kind = sym k; p = refl; q = sym (eqb-true _ _ (and_right (leb 1 e.p) _ (and_left _ _ r))); elem = refl; above = refl; high = omega arith }))
      (λ k. let r = rw k at h in let z = plain-words (and_left _ _ r) in
      rw (made-runtime e t k) (record { kind = sym k; p = z.0; q = z.1; elem = refl; above = refl; high = omega arith }))
      (λ k. let r = rw k at h in let z = plain-words (and_left _ _ r) in
      rw (made-atomic e t k)
      (record { kind = sym k; p = z.0; q = z.1; elem = sym (component (int-scalar e.elem (and_right (words_unused e) _ r))); above = refl; high = omega arith }))
      (λ k. rw (made-ptr e t k) (record { kind = sym k; p = refl; q = refl; elem = refl; above = refl; high = omega arith }))
      (λ k. rw (made-ref e t k) (record { kind = sym k; p = refl; q = refl; elem = refl; above = refl; high = omega arith }))
      (λ k. let r = rw k at h in let z = plain-words (and_left _ _ (and_left _ _ r)) in
      rw (made-frexp e t k) (record { kind = sym k; p = z.0; q = z.1; elem = refl; above = refl; high = omega arith }))
      (λ k. let r = rw k at h in let z = plain-words (and_left _ _ (and_left _ _ r)) in
      rw (made-modf e t k) (record { kind = sym k; p = z.0; q = z.1; elem = refl; above = refl; high = omega arith }))
      (λ k. let r = rw k at h in let z = plain-words (and_left _ _ r) in
      rw (made-exchange e t k)
      (record { kind = sym k; p = z.0; q = z.1; elem = sym (component (int-scalar e.elem (and_right (words_unused e) _ r))); above = refl; high = omega arith }))
      (λ n1 n2 n3 n4 n5 n6 n7 n8 n9 n10. clash h (rw (n1, n2, n3, n4, n5, n6, n7, n8, n9, n10)))

-- one type and one elem are one key
pub same_key : (a b : Entry) {S T t u : Ty} → Words a S t → Words b T u → S ≡ T → a.elem ≡ b.elem → entry_key a ≡ entry_key b
same_key a b x y h m =
    λ i. record {
      kind = (sym x.kind ∙ ap kind_of h ∙ y.kind) i;
      p = (sym x.p ∙ ap p_of h ∙ y.p) i;
      q = (sym x.q ∙ ap q_of h ∙ y.q) i;
      elem = m i;
    }

-- a scalar's number is its type
pub type-scalar : (w : List ℕ) (i : ℕ) → i < scalars → type_at w i ≡ scalar i
unfolding type_at
type-scalar w i h = chain-scalar _ _ w i h

-- an earlier number keeps its type when the table grows
pub type-keeps : (w v : List ℕ) (n : ℕ) → Keeps w v n → (i : ℕ) → i < n → type_at v i ≡ type_at w i
unfolding type_at
type-keeps w v n k i l = keeps-chain w v n k _ _ i l

module _ (w : List ℕ) (n : ℕ) (s : Sound w n) where
  -- an entry above the scalars has a falling elem, and its row
  pub row_at : (i : ℕ) → scalars ≤ i → i < n → (elem_of w i < i) × (row_ok (entry_at w i) (entry_at w (elem_of w i)).kind (base_of w (elem_of w i)) ≡ true)
  unfolding entry_ok made_ok
  row_at i h l =
      let r = rw (le-ltb i scalars h) at (s.rows i l) in
      (ltb-true _ _ (and_left _ _ r), and_right (ltb (elem_of w i) i) _ r)

  -- the entry of a scalar
  pub scalar-key : (i : ℕ) → i < scalars → entry_key (entry_at w i) ≡ record { kind = i; p = 0; q = 0; elem = 0 }
  unfolding entry_ok
  scalar-key i h =
      let e = entry_at w i in
      let r : scalar_ok i e ≡ true = rw (lt-ltb i scalars h) at (s.rows i (omega (arith, s.low))) in
      let k : e.kind ≡ i = eqb-true _ _ (and_left _ _ (and_left _ _ (and_left _ _ r))) in
      let p : e.p ≡ 0 = eqb-true _ _ (and_right (eqb e.kind i) _ (and_left _ _ (and_left _ _ r))) in
      let q : e.q ≡ 0 = eqb-true _ _ (and_right (eqb e.kind i && eqb e.p 0) _ (and_left _ _ r)) in
      let m : e.elem ≡ 0 = eqb-true _ _ (and_right (eqb e.kind i && eqb e.p 0 && eqb e.q 0) _ r) in
      λ d. record { kind = k d; p = p d; q = q d; elem = m d }

  pub type-made : (i : ℕ) → scalars ≤ i → i < n → type_at w i ≡ made (entry_at w i) (type_at w (elem_of w i))
  unfolding type_at
  type-made i h l = chain-step _ _ w i h (row_at i h l).0

  -- the words of an entry above the scalars, from its type
  pub type-words : (i : ℕ) → scalars ≤ i → i < n → Words (entry_at w i) (type_at w i) (type_at w (elem_of w i))
  type-words i h l =
      rw (type-made i h l)
      (row_words (entry_at w i) (type_at w (elem_of w i)) (λ c. type-scalar w (elem_of w i) c) _ _ (row_at i h l).1)

  -- a kind above the scalars stands above the scalars
  pub kind-above : (i : ℕ) → i < n → scalars ≤ (entry_at w i).kind → scalars ≤ i
  kind-above i l h =
      split (ltb i scalars)
      (λ t. let k = ap (λ (k : Key). k.kind) (scalar-key i (ltb-true _ _ t)) in omega (arith, k, ltb-true i scalars t))
      (λ t. ltb-false _ _ t)

  -- the type of an entry that is read, by its kind
  module _ (i : ℕ) (l : i < n) where
    read : (k : ℕ) → (entry_at w i).kind ≡ k → scalars ≤ k → type_at w i ≡ made (entry_at w i) (type_at w (elem_of w i))
    read k h b = type-made i (kind-above i l (omega arith)) l

    pub type-vec : (entry_at w i).kind ≡ kind_vec → type_at w i ≡ vec (entry_at w i).p (entry_at w i).elem
    type-vec h = read _ h (omega arith) ∙ made_vec _ _ h

    pub type-mat : (entry_at w i).kind ≡ kind_mat → type_at w i ≡ mat (entry_at w i).p (entry_at w i).q (entry_at w i).elem
    type-mat h = read _ h (omega arith) ∙ made-mat _ _ h

    pub type-array : (entry_at w i).kind ≡ kind_array → type_at w i ≡ array (entry_at w i).p (type_at w (entry_at w i).elem)
    type-array h = read _ h (omega arith) ∙ made_array _ _ h

    pub type-runtime : (entry_at w i).kind ≡ kind_runtime → type_at w i ≡ runtime (type_at w (entry_at w i).elem)
    type-runtime h = read _ h (omega arith) ∙ made-runtime _ _ h

    pub type-atomic : (entry_at w i).kind ≡ kind_atomic → type_at w i ≡ atomic (entry_at w i).elem
    type-atomic h = read _ h (omega arith) ∙ made-atomic _ _ h

    pub type-ptr : (entry_at w i).kind ≡ kind_ptr → type_at w i ≡ ptr (entry_at w i).p (entry_at w i).q (type_at w (entry_at w i).elem)
    type-ptr h = read _ h (omega arith) ∙ made-ptr _ _ h

    pub type-ref : (entry_at w i).kind ≡ kind_ref → type_at w i ≡ ref (entry_at w i).p (entry_at w i).q (type_at w (entry_at w i).elem)
    type-ref h = read _ h (omega arith) ∙ made-ref _ _ h

    pub type-frexp : (entry_at w i).kind ≡ kind_frexp → type_at w i ≡ frexp (type_at w (entry_at w i).elem)
    type-frexp h = read _ h (omega arith) ∙ made-frexp _ _ h

    pub type-modf : (entry_at w i).kind ≡ kind_modf → type_at w i ≡ modf (type_at w (entry_at w i).elem)
    type-modf h = read _ h (omega arith) ∙ made-modf _ _ h

    pub type-exchange : (entry_at w i).kind ≡ kind_exchange → type_at w i ≡ exchange (entry_at w i).elem
    type-exchange h = read _ h (omega arith) ∙ made-exchange _ _ h

    -- the words kind, p and q from the type
    pub kind-of : (entry_at w i).kind ≡ kind_of (type_at w i)
    unfolding kind_of
    kind-of =
        split (ltb i scalars)
        (λ t. let h = ltb-true i scalars t in rw (type-scalar w i h) (ap (λ (k : Key). k.kind) (scalar-key i h)))
        (λ t. sym (type-words i (ltb-false _ _ t) l).kind)

    pub p-of : (entry_at w i).p ≡ p_of (type_at w i)
    unfolding p_of
    p-of =
        split (ltb i scalars)
        (λ t. let h = ltb-true i scalars t in rw (type-scalar w i h) (ap (λ (k : Key). k.p) (scalar-key i h)))
        (λ t. sym (type-words i (ltb-false _ _ t) l).p)

    pub q-of : (entry_at w i).q ≡ q_of (type_at w i)
    unfolding q_of
    q-of =
        split (ltb i scalars)
        (λ t. let h = ltb-true i scalars t in rw (type-scalar w i h) (ap (λ (k : Key). k.q) (scalar-key i h)))
        (λ t. sym (type-words i (ltb-false _ _ t) l).q)

    -- a type that is no scalar stands above the scalars, and its elem's type is its element
    pub type-above : is_scalar (type_at w i) ≡ false → scalars ≤ i
    unfolding is_scalar
    type-above h =
        split (ltb i scalars)
        (λ t. clash refl (rw (type-scalar w i (ltb-true _ _ t)) at h))
        (λ t. ltb-false _ _ t)

    pub elem-of : is_scalar (type_at w i) ≡ false → type_at w (entry_at w i).elem ≡ element_of (type_at w i)
    elem-of h = sym (type-words i (type-above h) l).elem

    pub elem_in : is_scalar (type_at w i) ≡ false → (entry_at w i).elem < i
    elem_in h = (row_at i (type-above h) l).0

    -- a number that stands for a scalar is that scalar's
    pub scalar-number : (k : ℕ) → type_at w i ≡ scalar k → i ≡ k
    unfolding is_scalar
    scalar-number k h =
        split (ltb i scalars)
        (λ t. cc (type-scalar w i (ltb-true _ _ t)))
        (λ t. clash (ap is_scalar h) (type-words i (ltb-false _ _ t) l).above)

  apart : (i j : ℕ) → i < n → j < n → entry_key (entry_at w i) ≡ entry_key (entry_at w j) → i ≡ j
  apart i j li lj q =
      split (ltb i j) (λ h. absurd (s.apart j i (ltb-true _ _ h) lj q)) (λ h.
      split (ltb j i) (λ k. absurd (s.apart i j (ltb-true _ _ k) li (sym q))) (λ k.
      omega (arith, ltb-false i j h, ltb-false j i k)))

  inj : (b i j : ℕ) → i < b → i < n → j < n → type_at w i ≡ type_at w j → i ≡ j
  unfolding is_scalar
  inj zero i j h li lj q = absurd (not-suc-le-zero h)
  inj (suc b) i j h li lj q =
      split (ltb i scalars)
      (λ t. sym (scalar-number j lj i (sym q ∙ type-scalar w i (ltb-true _ _ t))))
      (λ t.
      let hi : scalars ≤ i = ltb-false _ _ t in
      let x = type-words i hi li in
      let hj = type-above j lj (ap is_scalar (sym q) ∙ x.above) in
      let y = type-words j hj lj in
      let ri = (row_at i hi li).0 in
      let rj = (row_at j hj lj).0 in
      apart i j li lj
      (same_key (entry_at w i) (entry_at w j) x y q
      (inj b (elem_of w i) (elem_of w j) (omega arith) (omega arith) (omega arith) (sym x.elem ∙ ap element_of q ∙ y.elem))))

  -- two numbers are two types
  pub type-injective : (i j : ℕ) → i < n → j < n → type_at w i ≡ type_at w j → i ≡ j
  type-injective i j li lj q = inj n i j li li lj q

  -- the innermost scalar of an entry is that of its type
  base : (b i : ℕ) → i < b → i < n → base_of w i ≡ innermost (type_at w i)
  unfolding innermost
  base zero i h l = absurd (not-suc-le-zero h)
  base (suc b) i h l =
      split (ltb i scalars)
      (λ t. let k = ltb-true i scalars t in rw (base-scalar w i k, type-scalar w i k))
      (λ t.
      let k : scalars ≤ i = ltb-false _ _ t in
      let r = (row_at i k l).0 in
      base_step w i k r ∙ base b (elem_of w i) (omega arith) (omega arith)
      ∙ ap innermost (sym (type-words i k l).elem) ∙ sym (innermost-step (type_at w i)))

  pub base-of : (i : ℕ) → i < n → base_of w i ≡ innermost (type_at w i)
  base-of i l = base n i l l
