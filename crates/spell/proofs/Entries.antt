-- In a sound table the spelling of an entry's type is the entry's head, then its arguments. Assumes nothing.
use Prim.Native.Nat.{ℕ, ◌+◌, ◌≤◌, ◌<◌}
use mathlib.Core.Path.{◌≡◌, refl, sym, ◌∙◌, ap}
use mathlib.Core.Bool.{true, false, ◌||◌}
use mathlib.Core.List.{List, [], ◌∷◌, ◌++◌, append_assoc}
use native.Mathlib.Omega.{arith}
use lib.ListN.{get_or-append}
use lib.Seq.{get_or-append-add}
use lib.Dec.{ltb, eqb}
use borrow.Author.Tests.{ne_eqb, ltb-true, ltb-false, eqb-true}
use Rattle.conv.specs.Types.{Ty, is_float, is_fract, formed}
use Rattle.conv.specs.Types.Ty.{scalar, vec, mat, array, runtime, atomic, ptr, ref, frexp, modf, exchange}
use Rattle.table.specs.Table.{entry_at, Key, row_ok, Sound}
use Rattle.table.specs.Denote.{type_at, kind_of}
use Rattle.table.specs.declared.Entry.{Entry}
use Rattle.table.proofs.SoundLaws.{and_left, and_right}
use Rattle.table.proofs.KindLaws.{split, clash, by_kind, innermost, fract-kind}
use Rattle.table.proofs.TypeLaws.{type-scalar, row_at, scalar-key, kind-above, type-words, kind-of, type-vec, type-mat, type-array, type-runtime, type-atomic, type-ptr, type-ref, type-frexp, type-modf, type-exchange}
use Rattle.table.proofs.FormedLaws.{formed-at}
use Rattle.text.specs.Text.{ascii, decimal}
use Rattle.spell.specs.Spell.{scalar_names, space_names, access_names, named, fract_scalar, fract_name, spelling}
use Rattle.spell.specs.inner.Parts.{head_names, text_of, head_text, opening, last_of, closing, args_of, fract_text, fract_part}
use Rattle.spell.proofs.Rows.{vec-row, mat-row, atomic-row, exchange-row, ptr-row, ref-row}

-- the parts of the table of texts

text-scalar : (s : ℕ) → s < 7 → text_of s ≡ named scalar_names s
unfolding text_of named
text-scalar s h = ap ascii (get_or-append scalar_names (head_names ++ space_names ++ access_names ++ ("abstract" ∷ [])) "" s h)

text-space : (p : ℕ) → p < 6 → text_of (17 + p) ≡ named space_names p
unfolding text_of named
text-space p h =
    ap ascii (get_or-append-add (scalar_names ++ head_names) (space_names ++ access_names ++ ("abstract" ∷ [])) p ""
    ∙ get_or-append space_names (access_names ++ ("abstract" ∷ [])) "" p h)

text-access : (q : ℕ) → q < 3 → text_of (23 + q) ≡ named access_names q
unfolding text_of named
text-access q h =
    ap ascii (get_or-append-add (scalar_names ++ head_names ++ space_names) (access_names ++ ("abstract" ∷ [])) q ""
    ∙ get_or-append access_names ("abstract" ∷ []) "" q h)

fract-text : (s : ℕ) → s < 7 → fract_text s ≡ fract_scalar s
unfolding fract_text fract_scalar text_of named
fract-text s h = rw (text-scalar s h)

-- what is put one after the other is what the head and the arguments are
mat-group : (h c x r o s g : List ℕ) → h ++ c ++ x ++ r ++ o ++ s ++ g ≡ (h ++ c ++ x ++ r) ++ (o ++ s ++ g)
mat-group h c x r o s g = simp append_assoc

space-group : (h o s c t d a g : List ℕ) → h ++ o ++ s ++ c ++ t ++ d ++ a ++ g ≡ h ++ ((o ++ s ++ c) ++ t ++ (d ++ a ++ g))
space-group h o s c t d a g = simp append_assoc

-- the spelling of a type, by the words of its entry; t is the type of the elem

module _ (e : Entry) where
  abbrev Args : Ty → List ℕ
  Args t = head_text e ++ (opening e ++ spelling t ++ closing e)

  on-vec : e.kind ≡ 7 → spelling (vec e.p e.elem) ≡ Args (scalar e.elem)
  unfolding spelling head_text opening last_of closing text_of named ascii
  on-vec h = rw h (simp append_assoc)

  on-mat : e.kind ≡ 8 → spelling (mat e.p e.q e.elem) ≡ Args (scalar e.elem)
  unfolding spelling head_text opening last_of closing text_of named ascii
  on-mat h = rw h (mat-group (ascii "mat") (decimal e.p) (ascii "x") (decimal e.q) (ascii "<") (named scalar_names e.elem) (ascii ">"))

  on-atomic : e.kind ≡ 11 → spelling (atomic e.elem) ≡ Args (scalar e.elem)
  unfolding spelling head_text opening last_of closing text_of named ascii
  on-atomic h = rw h (simp append_assoc)

  on-exchange : e.kind ≡ 16 → spelling (exchange e.elem) ≡ Args (scalar e.elem)
  unfolding spelling head_text opening last_of closing text_of named ascii
  on-exchange h = rw h (simp append_assoc)

  module _ (t : Ty) where
    on-array : e.kind ≡ 9 → spelling (array e.p t) ≡ Args t
    unfolding spelling head_text opening last_of closing text_of named ascii
    on-array h = rw h (simp append_assoc)

    on-runtime : e.kind ≡ 10 → spelling (runtime t) ≡ Args t
    unfolding spelling head_text opening last_of closing text_of named ascii
    on-runtime h = rw h (simp append_assoc)

    on-ptr : e.kind ≡ 12 → e.p < 6 → e.q < 3 → spelling (ptr e.p e.q t) ≡ Args t
    unfolding spelling head_text opening last_of closing text_of named ascii
    on-ptr h p q =
        rw (h, text-space e.p p, text-access e.q q)
        (space-group (ascii "ptr") (ascii "<") (named space_names e.p) (ascii ",") (spelling t) (ascii ",") (named access_names e.q) (ascii ">"))

    on-ref : e.kind ≡ 13 → e.p < 6 → e.q < 3 → spelling (ref e.p e.q t) ≡ Args t
    unfolding spelling head_text opening last_of closing text_of named ascii
    on-ref h p q =
        rw (h, text-space e.p p, text-access e.q q)
        (space-group (ascii "ref") (ascii "<") (named space_names e.p) (ascii ",") (spelling t) (ascii ",") (named access_names e.q) (ascii ">"))

    on-frexp : e.kind ≡ 14 → spelling (frexp t) ≡ head_text e ++ fract_name t
    unfolding spelling head_text text_of named
    on-frexp h = rw h

    on-modf : e.kind ≡ 15 → spelling (modf t) ≡ head_text e ++ fract_name t
    unfolding spelling head_text text_of named
    on-modf h = rw h

  on-scalar : e.kind < 7 → spelling (scalar e.kind) ≡ head_text e
  unfolding spelling head_text
  on-scalar h = rw (ne_eqb e.kind 7 (λ q. omega arith), ne_eqb e.kind 8 (λ q. omega arith), text-scalar e.kind h)

  fract-on-scalar : e.kind < 7 → fract_name (scalar e.kind) ≡ fract_part e
  unfolding fract_name fract_part
  fract-on-scalar h = rw (ne_eqb e.kind 7 (λ q. omega arith), fract-text e.kind h)

  fract-on-vec : e.kind ≡ 7 → e.elem < 7 → fract_name (vec e.p e.elem) ≡ fract_part e
  unfolding fract_name fract_part head_text text_of named
  fract-on-vec h l = rw (h, fract-text e.elem l)

-- any other kind has no row
no-row : (e : Entry) (ek eb : ℕ) →
    eqb e.kind 7 ≡ false → eqb e.kind 8 ≡ false → eqb e.kind 9 ≡ false → eqb e.kind 10 ≡ false → eqb e.kind 11 ≡ false →
    eqb e.kind 12 ≡ false → eqb e.kind 13 ≡ false → eqb e.kind 14 ≡ false → eqb e.kind 15 ≡ false → eqb e.kind 16 ≡ false → row_ok e ek eb ≡ false
unfolding row_ok
no-row e ek eb n1 n2 n3 n4 n5 n6 n7 n8 n9 n10 = rw (n1, n2, n3, n4, n5, n6, n7, n8, n9, n10)

module _ (w : List ℕ) (n : ℕ) (s : Sound w n) where
  -- a kind below 7 stands for its scalar
  scalar_is : (i : ℕ) → i < n → (entry_at w i).kind < 7 → type_at w i ≡ scalar (entry_at w i).kind
  scalar_is i l h =
      split (ltb i 7)
      (λ b. let k = ltb-true i 7 b in type-scalar w i k ∙ ap scalar (sym (ap (λ (x : Key). x.kind) (scalar-key w n s i k))))
      (λ b. absurd (omega (arith, (type-words w n s i (ltb-false i 7 b) l).high)))

  -- what `fract` is, in a result type's name
  fract-is : (i : ℕ) → i < n → is_fract (type_at w i) ≡ true → fract_name (type_at w i) ≡ fract_part (entry_at w i)
  fract-is i l f =
      split (ltb (entry_at w i).kind 7)
      (λ b. let h = ltb-true (entry_at w i).kind 7 b in ap fract_name (scalar_is i l h) ∙ fract-on-scalar (entry_at w i) h)
      (λ b.
      let a = (type-words w n s i (kind-above w n s i l (ltb-false (entry_at w i).kind 7 b)) l).above in
      let k : (entry_at w i).kind ≡ 7 = kind-of w n s i l ∙ eqb-true (kind_of (type_at w i)) 7 (and_right (is_float (innermost (type_at w i))) _ (fract-kind (type_at w i) a ∙ f)) in
      let t = type-vec w n s i l k in
      ap fract_name t ∙ fract-on-vec (entry_at w i) k (vec-row _ _ (rw t at (formed-at w n s i l))))

  -- an entry that is no scalar has its elem below it
  pub under : (i : ℕ) → i < n → 7 ≤ (entry_at w i).kind → (7 ≤ i) × ((entry_at w i).elem < i)
  under i l h = let a = kind-above w n s i l h in (a, (row_at w n s i a l).0)

  -- a scalar: its name alone
  pub alone : (i : ℕ) → i < n → (entry_at w i).kind < 7 → spelling (type_at w i) ≡ head_text (entry_at w i)
  alone i l h = ap spelling (scalar_is i l h) ∙ on-scalar (entry_at w i) h

  -- a head, then its arguments: any kind but the results of frexp and modf
  pub with-args : (i : ℕ) → i < n → 7 ≤ (entry_at w i).kind → (eqb (entry_at w i).kind 14 || eqb (entry_at w i).kind 15) ≡ false → spelling (type_at w i) ≡ head_text (entry_at w i) ++ args_of w i
  with-args i l lo m =
      by_kind e.kind
      (λ h. let t = type-vec w n s i l h in rw (t, type-scalar w e.elem (vec-row _ _ (rw t at f))) (on-vec e h))
      (λ h. let t = type-mat w n s i l h in rw (t, type-scalar w e.elem (mat-row _ _ _ (rw t at f))) (on-mat e h))
      (λ h. rw (type-array w n s i l h) (on-array e _ h))
      (λ h. rw (type-runtime w n s i l h) (on-runtime e _ h))
      (λ h. let t = type-atomic w n s i l h in rw (t, type-scalar w e.elem (atomic-row _ (rw t at f))) (on-atomic e h))
      (λ h. let t = type-ptr w n s i l h in let z = ptr-row _ _ _ (rw t at f) in rw t (on-ptr e _ h z.0 z.1))
      (λ h. let t = type-ref w n s i l h in let z = ref-row _ _ _ (rw t at f) in rw t (on-ref e _ h z.0 z.1))
      (λ h. clash refl (rw h at m))
      (λ h. clash refl (rw h at m))
      (λ h. let t = type-exchange w n s i l h in rw (t, type-scalar w e.elem (exchange-row _ (rw t at f))) (on-exchange e h))
      (λ n1 n2 n3 n4 n5 n6 n7 n8 n9 n10. clash (row_at w n s i (kind-above w n s i l lo) l).1 (no-row e _ _ n1 n2 n3 n4 n5 n6 n7 n8 n9 n10))
    where
      e : Entry
      e = entry_at w i

      f : formed (type_at w i) ≡ true
      f = formed-at w n s i l

  -- a result of frexp or modf: its name alone
  pub with-result : (i : ℕ) → i < n → 7 ≤ (entry_at w i).kind → (eqb (entry_at w i).kind 14 || eqb (entry_at w i).kind 15) ≡ true → spelling (type_at w i) ≡ head_text (entry_at w i) ++ fract_part (entry_at w (entry_at w i).elem)
  unfolding formed
  with-result i l lo m =
      by_kind e.kind
      (λ h. clash (rw h at m) refl)
      (λ h. clash (rw h at m) refl)
      (λ h. clash (rw h at m) refl)
      (λ h. clash (rw h at m) refl)
      (λ h. clash (rw h at m) refl)
      (λ h. clash (rw h at m) refl)
      (λ h. clash (rw h at m) refl)
      (λ h. let t = type-frexp w n s i l h in rw t (on-frexp e _ h ∙ fract (and_left _ _ (rw t at f))))
      (λ h. let t = type-modf w n s i l h in rw t (on-modf e _ h ∙ fract (and_left _ _ (rw t at f))))
      (λ h. clash (rw h at m) refl)
      (λ n1 n2 n3 n4 n5 n6 n7 n8 n9 n10. clash (row_at w n s i z.0 l).1 (no-row e _ _ n1 n2 n3 n4 n5 n6 n7 n8 n9 n10))
    where
      e : Entry
      e = entry_at w i

      z : (7 ≤ i) × (e.elem < i)
      z = under i l lo

      f : formed (type_at w i) ≡ true
      f = formed-at w n s i l

      fract : is_fract (type_at w e.elem) ≡ true → head_text e ++ fract_name (type_at w e.elem) ≡ head_text e ++ fract_part (entry_at w e.elem)
      fract q = ap (λ (x : List ℕ). head_text e ++ x) (fract-is e.elem (omega (arith, z.1)) q)
