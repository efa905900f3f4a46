-- What each part of an entry's spelling is, by the tests that the code makes, and how long it can be. Assumes nothing.
use Prim.Native.Nat.{ℕ, ◌+◌, ◌≤◌}
use mathlib.Core.Path.{◌≡◌}
use mathlib.Core.Bool.{Bool, true, false, ◌||◌, cond}
use mathlib.Core.List.{List, [], ◌∷◌, ◌++◌}
use native.Mathlib.Omega.{arith}
use lib.ListN.{length, length-append}
use lib.Dec.{eqb}
use borrow.Author.Tests.{eq-eqb, ne_eqb}
use Rattle.table.specs.declared.Entry.{Entry}
use Rattle.text.specs.Text.{ascii, decimal}
use Rattle.spell.specs.inner.Parts.{text_of, head_text, opening, last_of, closing, fract_text, fract_part}
use Rattle.text.proofs.Decimals.{dec-long}
use Rattle.spell.proofs.Texts.{text-long}

module _ (e : Entry) where
  pub head-vec : e.kind ≡ 7 → head_text e ≡ text_of e.kind ++ decimal e.p
  unfolding head_text
  head-vec h = rw (eq-eqb _ 7 h)

  pub head-mat : e.kind ≡ 8 → head_text e ≡ text_of e.kind ++ decimal e.p ++ (120 ∷ []) ++ decimal e.q
  unfolding head_text ascii
  head-mat h = rw h

  pub head_plain : (e.kind ≡ 7 → ⊥) → (e.kind ≡ 8 → ⊥) → head_text e ≡ text_of e.kind
  unfolding head_text
  head_plain h k = rw (ne_eqb _ 7 h, ne_eqb _ 8 k)

  pub opening-space : (eqb e.kind 12 || eqb e.kind 13) ≡ true → opening e ≡ (60 ∷ []) ++ text_of (17 + e.p) ++ (44 ∷ [])
  unfolding opening ascii
  opening-space h = rw h

  pub opening-plain : (eqb e.kind 12 || eqb e.kind 13) ≡ false → opening e ≡ 60 ∷ []
  unfolding opening ascii
  opening-plain h = rw h

  pub last-array : e.kind ≡ 9 → last_of e ≡ (44 ∷ []) ++ decimal e.p
  unfolding last_of ascii
  last-array h = rw (eq-eqb _ 9 h)

  pub last-space : (e.kind ≡ 9 → ⊥) → (eqb e.kind 12 || eqb e.kind 13) ≡ true → last_of e ≡ (44 ∷ []) ++ text_of (23 + e.q)
  unfolding last_of ascii
  last-space h k = rw (ne_eqb _ 9 h, k)

  pub last_none : (e.kind ≡ 9 → ⊥) → (eqb e.kind 12 || eqb e.kind 13) ≡ false → last_of e ≡ []
  unfolding last_of
  last_none h k = rw (ne_eqb _ 9 h, k)

  pub fract-vec : e.kind ≡ 7 → fract_part e ≡ head_text e ++ (95 ∷ []) ++ fract_text e.elem
  unfolding fract_part ascii
  fract-vec h = rw (eq-eqb _ 7 h)

  pub fract-scalar : (e.kind ≡ 7 → ⊥) → fract_part e ≡ fract_text e.kind
  unfolding fract_part
  fract-scalar h = rw (ne_eqb _ 7 h)

pub fract-abstract : (s : ℕ) → s ≡ 2 → fract_text s ≡ text_of 26
unfolding fract_text
fract-abstract s h = rw (eq-eqb s 2 h)

pub fract-other : (s : ℕ) → (s ≡ 2 → ⊥) → fract_text s ≡ text_of s
unfolding fract_text
fract-other s h = rw (ne_eqb s 2 h)

-- how long they can be

either : (b : Bool) (x y : List ℕ) (m : ℕ) → length x ≤ m → length y ≤ m → length (cond b x y) ≤ m
either true x y m h k = h
either false x y m h k = k

module _ (e : Entry) where
  pub head-long : length (head_text e) ≤ 40 + e.p + e.q
  unfolding head_text ascii
  head-long =
      either (eqb e.kind 7) _ _ _ (simp length-append (omega (arith, text-long e.kind, dec-long e.p)))
      (either (eqb e.kind 8) _ _ _ (simp length-append (omega (arith, text-long e.kind, dec-long e.p, dec-long e.q))) (omega (arith, text-long e.kind)))

  pub opening-long : length (opening e) ≤ 40
  unfolding opening ascii
  opening-long = either (eqb e.kind 12 || eqb e.kind 13) _ _ _ (simp length-append (omega (arith, text-long (17 + e.p)))) (omega arith)

  pub last-long : length (last_of e) ≤ 39 + e.p
  unfolding last_of ascii
  last-long =
      either (eqb e.kind 9) _ _ _ (simp length-append (omega (arith, dec-long e.p)))
      (either (eqb e.kind 12 || eqb e.kind 13) _ _ _ (simp length-append (omega (arith, text-long (23 + e.q)))) (omega arith))

  pub closing-long : length (closing e) ≤ 40 + e.p
  unfolding closing ascii
  closing-long = simp length-append (omega (arith, last-long))

fract-text-long : (s : ℕ) → length (fract_text s) ≤ 32
unfolding fract_text
fract-text-long s = either (eqb s 2) _ _ _ (text-long 26) (text-long s)

pub fract-long : (e : Entry) → length (fract_part e) ≤ 80 + e.p + e.q
unfolding fract_part ascii
fract-long e =
    either (eqb e.kind 7) _ _ _ (simp length-append (omega (arith, head-long e, fract-text-long e.elem))) (omega (arith, fract-text-long e.kind))
