-- How long a spelling can be: an entry of words of 32 bits adds at most 80 bytes to the spelling of its elem. Assumes nothing.
use Prim.Native.Nat.{ℕ, zero, suc, ◌+◌, ◌*◌, ◌≤◌, ◌<◌, ◌^◌}
use Prim.Native.String.{String}
use mathlib.Core.Path.{◌≡◌, refl}
use mathlib.Core.Bool.{Bool, true, false, ◌&&◌, cond}
use mathlib.Core.List.{List, [], ◌∷◌}
use native.Mathlib.Omega.{arith}
use lib.ListN.{length, get_or, length-append}
use lib.Dec.{leb, ltb, eqb}
use borrow.Author.Tests.{leb-true}
use Rattle.conv.specs.Types.{Ty, abstract_float}
use Rattle.conv.specs.Types.Ty.{scalar, vec, mat, array, runtime, atomic, ptr, ref, frexp, modf, exchange}
use Rattle.table.specs.Table.{entry_at, scalars, chain_by, chain}
use Rattle.table.specs.Denote.{made, type_at}
use Rattle.table.specs.declared.Entry.{Entry}
use Rattle.table.proofs.SoundLaws.{and_left, and_right}
use Rattle.text.specs.Text.{ascii}
use Rattle.text.proofs.Decimals.{dec-ten}
use Rattle.spell.specs.Spell.{scalar_names, space_names, access_names, named, fract_scalar, fract_name, spelling}

-- a name of a list whose names are short
short : List String → Bool
short [] = true
short (s ∷ names) = leb (length (ascii s)) 15 && short names

name-short : (names : List String) → short names ≡ true → (k : ℕ) → length (named names k) ≤ 15
unfolding short named ascii
name-short [] t k = omega arith
name-short (s ∷ names) t zero = leb-true (length (ascii s)) 15 (and_left _ (short names) t)
name-short (s ∷ names) t (suc k) = name-short names (and_right (leb (length (ascii s)) 15) _ t) k

scalar-short : (s : ℕ) → length (named scalar_names s) ≤ 15
unfolding short ascii
scalar-short s = name-short scalar_names refl s

space-short : (s : ℕ) → length (named space_names s) ≤ 15
unfolding short ascii
space-short s = name-short space_names refl s

access-short : (s : ℕ) → length (named access_names s) ≤ 15
unfolding short ascii
access-short s = name-short access_names refl s

fract-short : (s : ℕ) → length (fract_scalar s) ≤ 15
unfolding fract_scalar ascii
fract-short s = go (eqb s abstract_float)
  where
    go : (b : Bool) → length (cond b (ascii "abstract") (named scalar_names s)) ≤ 15
    go true = omega arith
    go false = scalar-short s

-- a type whose spelling has at most b bytes, and its name in a result type's at most 40
record Slim (b : ℕ) (t : Ty) : Type 0 where
  spelled : length (spelling t) ≤ b
  called : length (fract_name t) ≤ 40

slim-by : (b : ℕ) (c : Bool) (x y : Ty) → Slim b x → Slim b y → Slim b (cond c x y)
slim-by b true x y p q = p
slim-by b false x y p q = q

leaf-slim : (b : ℕ) → 80 ≤ b → (s : ℕ) → Slim b (scalar s)
unfolding spelling fract_name
leaf-slim b h s = record { spelled = omega (arith, scalar-short s); called = omega (arith, fract-short s) }

module _ (e : Entry) (hp : e.p < 2 ^ 32) (hq : e.q < 2 ^ 32) (b : ℕ) (t : Ty) (s : Slim b t) where
  vec-slim : Slim (b + 80) (vec e.p e.elem)
  unfolding spelling fract_name ascii
  vec-slim =
      record {
        spelled = simp length-append (omega (arith, scalar-short e.elem, dec-ten e.p hp));
        called = simp length-append (omega (arith, fract-short e.elem, dec-ten e.p hp));
      }

  mat-slim : Slim (b + 80) (mat e.p e.q e.elem)
  unfolding spelling fract_name ascii
  mat-slim = record { spelled = simp length-append (omega (arith, scalar-short e.elem, dec-ten e.p hp, dec-ten e.q hq)); called = omega arith }

  array-slim : Slim (b + 80) (array e.p t)
  unfolding spelling fract_name ascii
  array-slim = record { spelled = simp length-append (omega (arith, dec-ten e.p hp, s.spelled)); called = omega arith }

  runtime-slim : Slim (b + 80) (runtime t)
  unfolding spelling fract_name ascii
  runtime-slim = record { spelled = simp length-append (omega (arith, s.spelled)); called = omega arith }

  atomic-slim : Slim (b + 80) (atomic e.elem)
  unfolding spelling fract_name ascii
  atomic-slim = record { spelled = simp length-append (omega (arith, scalar-short e.elem)); called = omega arith }

  ptr-slim : Slim (b + 80) (ptr e.p e.q t)
  unfolding spelling fract_name ascii
  ptr-slim = record { spelled = simp length-append (omega (arith, space-short e.p, access-short e.q, s.spelled)); called = omega arith }

  ref-slim : Slim (b + 80) (ref e.p e.q t)
  unfolding spelling fract_name ascii
  ref-slim = record { spelled = simp length-append (omega (arith, space-short e.p, access-short e.q, s.spelled)); called = omega arith }

  frexp-slim : Slim (b + 80) (frexp t)
  unfolding spelling fract_name ascii
  frexp-slim = record { spelled = simp length-append (omega (arith, s.called)); called = omega arith }

  modf-slim : Slim (b + 80) (modf t)
  unfolding spelling fract_name ascii
  modf-slim = record { spelled = simp length-append (omega (arith, s.called)); called = omega arith }

  exchange-slim : Slim (b + 80) (exchange e.elem)
  unfolding spelling fract_name ascii
  exchange-slim = record { spelled = simp length-append (omega (arith, scalar-short e.elem)); called = omega arith }

  made-slim : Slim (b + 80) (made e t)
  unfolding made
  made-slim =
      slim-by _ (eqb e.kind 7) _ _ vec-slim
      (slim-by _ (eqb e.kind 8) _ _ mat-slim
      (slim-by _ (eqb e.kind 9) _ _ array-slim
      (slim-by _ (eqb e.kind 10) _ _ runtime-slim
      (slim-by _ (eqb e.kind 11) _ _ atomic-slim
      (slim-by _ (eqb e.kind 12) _ _ ptr-slim
      (slim-by _ (eqb e.kind 13) _ _ ref-slim
      (slim-by _ (eqb e.kind 14) _ _ frexp-slim
      (slim-by _ (eqb e.kind 15) _ _ modf-slim
      (slim-by _ (eqb e.kind 16) _ _ exchange-slim (leaf-slim (b + 80) (omega arith) e.kind))))))))))

module _ (w : List ℕ) (words : (i : ℕ) → get_or w i 0 < 2 ^ 32) where
  chain-slim : (f j : ℕ) → Slim (f * 80 + 80) (chain_by scalar made w f j)
  unfolding chain_by
  chain-slim zero j = leaf-slim 80 (omega arith) j
  chain-slim (suc f) j =
      slim-by _ (ltb j scalars) _ _ (leaf-slim _ (omega arith) j)
      (slim-by _ (ltb (entry_at w j).elem j) _ _ (grown (made-slim (entry_at w j) (words (j * 4 + 1)) (words (j * 4 + 2)) (f * 80 + 80) _ (chain-slim f (entry_at w j).elem))) (leaf-slim _ (omega arith) j))
    where
      grown : {t : Ty} → Slim (f * 80 + 80 + 80) t → Slim (suc f * 80 + 80) t
      grown s = record { spelled = omega (arith, s.spelled); called = s.called }

  pub type-slim : (i : ℕ) → length (spelling (type_at w i)) ≤ i * 80 + 80
  unfolding type_at chain
  type-slim i = (chain-slim i i).spelled
