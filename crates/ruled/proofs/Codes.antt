-- The operand's number of an entry, by its kind, and the entries of the results. Assumes nothing.
use Prim.Native.Nat.{ℕ, ◌+◌, ◌-◌, ◌*◌, ◌/◌, ◌%◌, ◌≤◌, ◌<◌}
use mathlib.Core.Path.{◌≡◌, refl, sym, ◌∙◌, ap}
use mathlib.Core.Logic.{◌≢◌}
use mathlib.Core.Bool.{Bool, true, false, ◌&&◌}
use mathlib.Core.List.{List}
use native.Mathlib.Omega.{arith}
use lib.Dec.{ltb}
use borrow.Author.Tests.{ltb-true, lt-ltb, le-ltb, ne_eqb}
use Rattle.conv.specs.Types.{Ty, formed, is_width, is_float}
use Rattle.conv.specs.Types.Ty.{scalar, vec, mat, runtime, ref}
use Rattle.conv.specs.Rank.{pick, shape_of, tag_of, is_reference, made}
use Rattle.conv.specs.Rank.Shape.{other}
use Rattle.overload.specs.inner.Code.{shape_of_no, operand, code_of}
use Rattle.overload.proofs.Operands.{code-scalar, code-vec, code-mat, code_other, between, float_small, and_left, and_right}
use Rattle.table.specs.Table.{scalars, kind_vec, kind_mat, kind_ref, entry_at, row_ok, Sound}
use Rattle.table.specs.Denote.{type_at}
use Rattle.table.specs.Denote as denote
use Rattle.table.specs.declared.Entry.{Entry}
use Rattle.table.proofs.KindLaws.{clash, by_kind}
use Rattle.table.proofs.TypeLaws.{type-scalar, row_at, type-made, type-vec, type-mat, type-ref}
use Rattle.table.proofs.FormedLaws.{formed-at}

-- THE NUMBER OF AN ENTRY

module _ (w : List ℕ) (n : ℕ) (s : Sound w n) (t : ℕ) (l : t < n) where
  pub scalar-code : t < scalars → t ≡ code_of (type_at w t)
  scalar-code h = sym (ap code_of (type-scalar w t h) ∙ code-scalar t)

  vec-formed : (entry_at w t).kind ≡ kind_vec → (is_width (entry_at w t).p && ltb (entry_at w t).elem 7) ≡ true
  unfolding formed
  vec-formed k = sym (ap formed (type-vec w n s t l k)) ∙ formed-at w n s t l

  pub vec-bounds : (entry_at w t).kind ≡ kind_vec → (2 ≤ (entry_at w t).p) × ((entry_at w t).p ≤ 4) × ((entry_at w t).elem < 7)
  vec-bounds k =
      let f = vec-formed k in
      let b = between (entry_at w t).p (and_left _ _ f) in
      (b.0, b.1, ltb-true (entry_at w t).elem 7 (and_right (is_width (entry_at w t).p) _ f))

  pub vec-code : (entry_at w t).kind ≡ kind_vec → 7 * ((entry_at w t).p - 1) + (entry_at w t).elem ≡ code_of (type_at w t)
  vec-code k = sym (ap code_of (type-vec w n s t l k) ∙ code-vec (entry_at w t).p (entry_at w t).elem (and_left _ _ (vec-formed k)))

  mat-formed : (entry_at w t).kind ≡ kind_mat → (is_width (entry_at w t).p && is_width (entry_at w t).q && is_float (entry_at w t).elem) ≡ true
  unfolding formed
  mat-formed k = sym (ap formed (type-mat w n s t l k)) ∙ formed-at w n s t l

  pub mat-bounds : (entry_at w t).kind ≡ kind_mat → (2 ≤ (entry_at w t).p) × ((entry_at w t).p ≤ 4) × (2 ≤ (entry_at w t).q) × ((entry_at w t).q ≤ 4) × ((entry_at w t).elem < 7)
  mat-bounds k =
      let f = mat-formed k in
      let g = and_left (is_width (entry_at w t).p && is_width (entry_at w t).q) _ f in
      let b = between (entry_at w t).p (and_left _ _ g) in
      let c = between (entry_at w t).q (and_right (is_width (entry_at w t).p) _ g) in
      (b.0, b.1, c.0, c.1, float_small (entry_at w t).elem (and_right (is_width (entry_at w t).p && is_width (entry_at w t).q) _ f))

  pub mat-code : (entry_at w t).kind ≡ kind_mat → 7 * (3 * (entry_at w t).p + (entry_at w t).q - 4) + (entry_at w t).elem ≡ code_of (type_at w t)
  mat-code k =
      let g = and_left (is_width (entry_at w t).p && is_width (entry_at w t).q) _ (mat-formed k) in
      sym (ap code_of (type-mat w n s t l k) ∙ code-mat (entry_at w t).p (entry_at w t).q (entry_at w t).elem (and_left _ _ g) (and_right (is_width (entry_at w t).p) _ g))

  pub ref-code : (entry_at w t).kind ≡ kind_ref → 98 ≡ code_of (type_at w t)
  unfolding shape_of tag_of
  ref-code k = let e = type-ref w n s t l k in sym (ap code_of e ∙ code_other (ref _ _ _) refl)

  -- any other kind
  elsewhere : (e : Entry) (u : Ty) (ek eb : ℕ) → row_ok e ek eb ≡ true → e.kind ≢ kind_vec → e.kind ≢ kind_mat → e.kind ≢ kind_ref
      → (shape_of (denote.made e u) ≡ other) × (is_reference (denote.made e u) ≡ false)
  unfolding denote.made shape_of tag_of row_ok
  elsewhere e u ek eb h a b c =
      by_kind e.kind (λ k. absurd (a k)) (λ k. absurd (b k)) (λ k. rw k (refl, refl)) (λ k. rw k (refl, refl)) (λ k. rw k (refl, refl)) (λ k. rw k (refl, refl)) (λ k. absurd (c k))
      (λ k. rw k (refl, refl)) (λ k. rw k (refl, refl)) (λ k. rw k (refl, refl))
      (λ n1 n2 n3 n4 n5 n6 n7 n8 n9 n10. clash h (rw (n1, n2, n3, n4, n5, n6, n7, n8, n9, n10)))

  pub other-code : scalars ≤ t → (entry_at w t).kind ≢ kind_vec → (entry_at w t).kind ≢ kind_mat → (entry_at w t).kind ≢ kind_ref → 91 ≡ code_of (type_at w t)
  other-code h a b c =
      let q = elsewhere (entry_at w t) (type_at w (entry_at w t).elem) _ _ (row_at w n s t h l).1 a b c in
      let m = type-made w n s t h l in
      sym (ap code_of m ∙ code_other (denote.made (entry_at w t) (type_at w (entry_at w t).elem)) q.0 ∙ ap (λ (x : Bool). pick x 98 91) q.1)

-- THE TYPE OF A NUMBER

pub operand-scalar : (x : ℕ) → x < 7 → operand x ≡ scalar x
unfolding made shape_of_no
operand-scalar x h =
    let a : x / 7 ≡ 0 = omega arith in
    let b : x % 7 ≡ x = omega arith in
    rw (a, b)

pub operand-vec : (x : ℕ) → 7 ≤ x → x < 28 → operand x ≡ vec (x / 7 + 1) (x % 7)
unfolding made shape_of_no
operand-vec x h k = rw (ne_eqb (x / 7) 0 (λ e. omega arith), lt-ltb (x / 7) 4 (omega arith))

pub operand-mat : (x : ℕ) → 28 ≤ x → x < 91 → operand x ≡ mat ((x / 7 - 4) / 3 + 2) ((x / 7 - 4) % 3 + 2) (x % 7)
unfolding made shape_of_no
operand-mat x h k = rw (ne_eqb (x / 7) 0 (λ e. omega arith), le-ltb (x / 7) 4 (omega arith), lt-ltb (x / 7) 13 (omega arith))

pub operand-other : (x : ℕ) → 91 ≤ x → operand x ≡ runtime (scalar (x % 7))
unfolding made shape_of_no
operand-other x h = rw (ne_eqb (x / 7) 0 (λ e. omega arith), le-ltb (x / 7) 4 (omega arith), le-ltb (x / 7) 13 (omega arith))

-- the same of an entry that has been read
module _ (w : List ℕ) (n : ℕ) (s : Sound w n) (t : ℕ) (l : t < n) (e : Entry) (q : e ≡ entry_at w t) where
  pub vec-read : e.kind ≡ kind_vec → (2 ≤ e.p) × (e.p ≤ 4) × (e.elem < 7) × (7 * (e.p - 1) + e.elem ≡ code_of (type_at w t))
  vec-read k =
      let b = vec-bounds w n s t l (ap (λ (x : Entry). x.kind) (sym q) ∙ k) in
      rw q (b.0, b.1, b.2, vec-code w n s t l (ap (λ (x : Entry). x.kind) (sym q) ∙ k))

  pub mat-read : e.kind ≡ kind_mat → (2 ≤ e.p) × (e.p ≤ 4) × (2 ≤ e.q) × (e.q ≤ 4) × (e.elem < 7) × (7 * (3 * e.p + e.q - 4) + e.elem ≡ code_of (type_at w t))
  mat-read k =
      let b = mat-bounds w n s t l (ap (λ (x : Entry). x.kind) (sym q) ∙ k) in
      rw q (b.0, b.1, b.2, b.3, b.4, mat-code w n s t l (ap (λ (x : Entry). x.kind) (sym q) ∙ k))

  pub ref-read : e.kind ≡ kind_ref → 98 ≡ code_of (type_at w t)
  ref-read k = ref-code w n s t l (ap (λ (x : Entry). x.kind) (sym q) ∙ k)

  pub other-read : scalars ≤ t → e.kind ≢ kind_vec → e.kind ≢ kind_mat → e.kind ≢ kind_ref → 91 ≡ code_of (type_at w t)
  other-read h a b c =
      let k = ap (λ (x : Entry). x.kind) q in
      other-code w n s t l h (λ z. a (k ∙ z)) (λ z. b (k ∙ z)) (λ z. c (k ∙ z))
