-- The rule of an entry's row is that its unused words are 0 and that its type is formed; every type of a sound table is formed. Assumes nothing.
use Prim.Native.Nat.{ℕ, zero, suc, ◌≤◌, ◌<◌}
use mathlib.Core.Path.{◌≡◌, refl, sym, ◌∙◌, ap}
use mathlib.Core.Bool.{Bool, true, false, ◌&&◌, ◌||◌, not, cond}
use mathlib.Core.List.{List}
use native.Mathlib.Nat.{not-suc-le-zero}
use native.Mathlib.Omega.{arith}
use lib.Dec.{leb, ltb, eqb}
use borrow.Author.Tests.{le-ltb, lt-ltb, ltb-true, ltb-false, ne_eqb}
use Rattle.conv.specs.Types.{Ty, storage, handle, read_write, is_width, is_float, is_abstract, abstract_ty, is_value, is_runtime, is_fract, formed}
use Rattle.table.specs.Table.{scalars, kind_vec, kind_mat, kind_array, kind_runtime, kind_atomic, kind_ptr, kind_ref, kind_frexp, kind_modf, kind_exchange, entry_at, words_unused, stored, sized, row_ok, base_of, made_ok, allowedb, Sound}
use Rattle.table.specs.Denote.{made, type_at, ty_of, kind_of}
use Rattle.table.specs.declared.Entry.{Entry}
use Rattle.table.proofs.TableLaws.{elem_of, base-scalar}
use Rattle.table.proofs.SoundLaws.{and_left, and_right}
use Rattle.table.proofs.KindLaws.{split, clash, by_kind, abstract-innermost, stored-kind, runtime-kind, fract-kind, and-true}
use Rattle.table.proofs.TypeLaws.{type-scalar, row_at, type-made, type-words, kind-of, base-of}

-- "unused words are 0", for every kind above the scalars
unfoldable pub clean : Entry → Bool
clean e =
    cond (eqb e.kind kind_vec) (eqb e.q 0)
    (cond (eqb e.kind kind_mat) true
    (cond (eqb e.kind kind_array) (eqb e.q 0)
    (cond (eqb e.kind kind_runtime) (words_unused e)
    (cond (eqb e.kind kind_atomic) (words_unused e)
    (cond (eqb e.kind kind_ptr) true
    (cond (eqb e.kind kind_ref) true
    (cond (eqb e.kind kind_frexp || eqb e.kind kind_modf) (words_unused e)
    (cond (eqb e.kind kind_exchange) (words_unused e) false))))))))

and-swap : (a b c : Bool) → (a && b && c) ≡ (b && (a && c))
and-swap true true c = refl
and-swap true false c = refl
and-swap false true c = refl
and-swap false false c = refl

and_assoc : (a b c : Bool) → (a && b && c) ≡ (a && (b && c))
and_assoc true b c = refl
and_assoc false b c = refl

-- a row, told of the type t of elem
module _ (e : Entry) (t : Ty) (ek eb : ℕ) (st : stored ek ≡ is_value t) (rt : eqb ek kind_runtime ≡ is_runtime t) (ab : is_abstract eb ≡ abstract_ty t)
    (fr : (is_float eb && (ltb e.elem scalars || eqb ek kind_vec)) ≡ is_fract t) (ft : formed t ≡ true) where
  so : (x : Bool) → x ≡ (x && formed t)
  so x = sym (and-true x) ∙ ap (λ (z : Bool). x && z) (sym ft)

  sz : sized ek ≡ (is_value t && not (is_runtime t))
  sz = ap (λ (z : Bool). z && not (eqb ek kind_runtime)) st ∙ ap (λ (z : Bool). is_value t && not z) rt

  pointer : (x : Bool) → (x && stored ek && not (is_abstract eb)) ≡ (x && is_value t && not (abstract_ty t) && formed t)
  pointer x =
      ap (λ (z : Bool). x && z && not (is_abstract eb)) st ∙ ap (λ (z : Bool). x && is_value t && not z) ab
      ∙ so (x && is_value t && not (abstract_ty t))

  result : (x : Bool) → (x && is_float eb && (ltb e.elem scalars || eqb ek kind_vec)) ≡ (x && (is_fract t && formed t))
  result x = and_assoc x (is_float eb) _ ∙ ap (λ (z : Bool). x && z) (fr ∙ so (is_fract t))

  pub row-formed : row_ok e ek eb ≡ (clean e && formed (made e t))
  unfolding row_ok clean made formed
  row-formed =
      by_kind e.kind
      (λ k. rw k (and-swap (is_width e.p) (eqb e.q 0) (ltb e.elem scalars)))
      (λ k. rw k refl)
      (λ k. rw k
      (and-swap (leb 1 e.p) (eqb e.q 0) (sized ek)
      ∙ ap (λ (z : Bool). eqb e.q 0 && z) (ap (λ (z : Bool). leb 1 e.p && z) sz ∙ so (leb 1 e.p && (is_value t && not (is_runtime t))))))
      (λ k. rw k (ap (λ (z : Bool). words_unused e && z) (sz ∙ so (is_value t && not (is_runtime t)))))
      (λ k. rw k refl)
      (λ k. rw k (pointer (leb e.p storage && leb e.q read_write)))
      (λ k. rw k (pointer (leb e.p handle && leb e.q read_write)))
      (λ k. rw k (result (words_unused e)))
      (λ k. rw k (result (words_unused e)))
      (λ k. rw k refl)
      (λ n1 n2 n3 n4 n5 n6 n7 n8 n9 n10. rw (n1, n2, n3, n4, n5, n6, n7, n8, n9, n10))

module _ (w : List ℕ) (n : ℕ) (s : Sound w n) where
  -- the tests on the kind and the innermost scalar of an entry, told of its type
  module _ (j : ℕ) (l : j < n) where
    stored_at : stored (entry_at w j).kind ≡ is_value (type_at w j)
    unfolding kind_of is_value
    stored_at =
        split (ltb j scalars)
        (λ b. let h = ltb-true j scalars b in let t = type-scalar w j h in let k = kind-of w n s j l in
        rw (k, t, ne_eqb j kind_ptr (omega arith), ne_eqb j kind_ref (omega arith)))
        (λ b. rw (kind-of w n s j l) (stored-kind (type_at w j) (type-words w n s j (ltb-false _ _ b) l).above))

    pub runtime-at : eqb (entry_at w j).kind kind_runtime ≡ is_runtime (type_at w j)
    unfolding kind_of is_runtime
    runtime-at =
        split (ltb j scalars)
        (λ b. let h = ltb-true j scalars b in let t = type-scalar w j h in let k = kind-of w n s j l in rw (k, t, ne_eqb j kind_runtime (omega arith)))
        (λ b. rw (kind-of w n s j l) (runtime-kind (type_at w j) (type-words w n s j (ltb-false _ _ b) l).above))

    pub abstract-at : is_abstract (base_of w j) ≡ abstract_ty (type_at w j)
    abstract-at = rw (base-of w n s j l) (abstract-innermost (type_at w j))

    fract-at : (is_float (base_of w j) && (ltb j scalars || eqb (entry_at w j).kind kind_vec)) ≡ is_fract (type_at w j)
    unfolding is_fract
    fract-at =
        split (ltb j scalars)
        (λ b. let h = ltb-true j scalars b in rw (b, type-scalar w j h, base-scalar w j h) (and-true (is_float j)))
        (λ b. rw (b, kind-of w n s j l, base-of w n s j l) (fract-kind (type_at w j) (type-words w n s j (ltb-false _ _ b) l).above))

  row_type : (e : Entry) → e.elem < n → formed (type_at w e.elem) ≡ true →
      row_ok e (entry_at w e.elem).kind (base_of w e.elem) ≡ (clean e && formed (made e (type_at w e.elem)))
  row_type e l f =
      row-formed e (type_at w e.elem) _ _ (stored_at e.elem l) (runtime-at e.elem l) (abstract-at e.elem l) (fract-at e.elem l) f

  formed-by : (b i : ℕ) → i < b → i < n → formed (type_at w i) ≡ true
  unfolding formed
  formed-by zero i h l = absurd (not-suc-le-zero h)
  formed-by (suc b) i h l =
      split (ltb i scalars)
      (λ t. rw (type-scalar w i (ltb-true _ _ t)) t)
      (λ t.
      let k : scalars ≤ i = ltb-false _ _ t in
      let r = row_at w n s i k l in
      let m = r.0 in
      let e = entry_at w i in
      rw (type-made w n s i k l)
      (and_right (clean e) _ (sym (row_type e (omega arith) (formed-by b (elem_of w i) (omega arith) (omega arith))) ∙ r.1)))

  -- every type of a sound table is formed
  pub formed-at : (i : ℕ) → i < n → formed (type_at w i) ≡ true
  formed-at i l = formed-by n i l l

  -- an entry over the table is allowed exactly when its unused words are 0 and its type is formed
  pub allowed-formed : (e : Entry) → scalars ≤ e.kind → e.elem < n → allowedb w n e ≡ (clean e && formed (ty_of w e))
  unfolding allowedb made_ok ty_of
  allowed-formed e k l = rw (le-ltb e.kind scalars k, lt-ltb e.elem n l) (row_type e l (formed-at e.elem l))

  -- an allowed entry has its elem below n and stands for a formed type
  pub allowed-row : (e : Entry) → scalars ≤ e.kind → allowedb w n e ≡ true → (e.elem < n) × (made_ok w n e ≡ true)
  unfolding allowedb made_ok
  allowed-row e k h = let r = rw (le-ltb e.kind scalars k) at h in (ltb-true _ _ (and_left _ _ r), r)

  pub allowed-type : (e : Entry) → allowedb w n e ≡ true → formed (ty_of w e) ≡ true
  unfolding ty_of formed
  allowed-type e h =
      split (ltb e.kind scalars)
      (λ b. rw b b)
      (λ b.
      let k : scalars ≤ e.kind = ltb-false _ _ b in
      and_right (clean e) _ (sym (allowed-formed e k (allowed-row e k h).0) ∙ h))

pub clean-above : (e : Entry) → clean e ≡ true → scalars ≤ e.kind
unfolding clean
clean-above e h =
    split (ltb e.kind scalars)
    (λ b.
    let l : e.kind < scalars = ltb-true _ _ b in
    clash h
    (rw
    (ne_eqb e.kind 7 (omega arith), ne_eqb e.kind 8 (omega arith), ne_eqb e.kind 9 (omega arith), ne_eqb e.kind 10 (omega arith), ne_eqb e.kind 11 (omega arith), ne_eqb e.kind 12 (omega arith), ne_eqb e.kind 13 (omega arith), ne_eqb e.kind 14 (omega arith), ne_eqb e.kind 15 (omega arith), ne_eqb e.kind 16 (omega arith))))
    (λ b. ltb-false _ _ b)
