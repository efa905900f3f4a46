-- The words of an entry, from the type that its number stands for. Assumes nothing.
use Prim.Native.Nat.{ℕ, ◌<◌}
use mathlib.Core.Path.{◌≡◌, refl, ◌∙◌, ap}
use mathlib.Core.Bool.{false}
use mathlib.Core.List.{List}
use native.Mathlib.Omega.{arith}
use Rattle.conv.specs.Types.{Ty}
use Rattle.conv.specs.Types.Ty.{scalar, vec, mat, array, runtime, atomic, ptr, ref, frexp, modf, exchange}
use Rattle.table.specs.Table.{kind_vec, kind_mat, kind_array, kind_runtime, kind_atomic, kind_ptr, kind_ref, kind_frexp, kind_modf, kind_exchange, entry_at, Sound}
use Rattle.table.specs.Denote.{type_at, kind_of, p_of, q_of}
use Rattle.conv.specs.Rank.{element_of}
use Rattle.table.proofs.KindLaws.{is_scalar}
use Rattle.table.proofs.TypeLaws.{kind-of, p-of, q-of, elem-of, elem_in, scalar-number}

-- entry i has these words, and its elem, which is below i, stands for t
pub record Reads (w : List ℕ) (i k x y : ℕ) (t : Ty) : Type 0 where
  pub kind : (entry_at w i).kind ≡ k
  pub p : (entry_at w i).p ≡ x
  pub q : (entry_at w i).q ≡ y
  pub elem : type_at w (entry_at w i).elem ≡ t
  pub under : (entry_at w i).elem < i

module _ (w : List ℕ) (n : ℕ) (s : Sound w n) (i : ℕ) (l : i < n) where
  reads : (T : Ty) → is_scalar T ≡ false → type_at w i ≡ T → Reads w i (kind_of T) (p_of T) (q_of T) (element_of T)
  reads T a h =
      let up : is_scalar (type_at w i) ≡ false = ap is_scalar h ∙ a in
      record {
        kind = kind-of w n s i l ∙ ap kind_of h;
        p = p-of w n s i l ∙ ap p_of h;
        q = q-of w n s i l ∙ ap q_of h;
        elem = elem-of w n s i l up ∙ ap element_of h;
        under = elem_in w n s i l up;
      }

  pub vec-words : {k c : ℕ} → type_at w i ≡ vec k c → Reads w i kind_vec k 0 (scalar c)
  unfolding kind_of p_of q_of element_of is_scalar
  vec-words h = reads _ refl h

  pub mat-words : {c r k : ℕ} → type_at w i ≡ mat c r k → Reads w i kind_mat c r (scalar k)
  unfolding kind_of p_of q_of element_of is_scalar
  mat-words h = reads _ refl h

  pub array-words : {k : ℕ} {t : Ty} → type_at w i ≡ array k t → Reads w i kind_array k 0 t
  unfolding kind_of p_of q_of element_of is_scalar
  array-words h = reads _ refl h

  pub runtime-words : {t : Ty} → type_at w i ≡ runtime t → Reads w i kind_runtime 0 0 t
  unfolding kind_of p_of q_of element_of is_scalar
  runtime-words h = reads _ refl h

  pub atomic-words : {c : ℕ} → type_at w i ≡ atomic c → Reads w i kind_atomic 0 0 (scalar c)
  unfolding kind_of p_of q_of element_of is_scalar
  atomic-words h = reads _ refl h

  pub ptr-words : {space access : ℕ} {t : Ty} → type_at w i ≡ ptr space access t → Reads w i kind_ptr space access t
  unfolding kind_of p_of q_of element_of is_scalar
  ptr-words h = reads _ refl h

  pub ref-words : {space access : ℕ} {t : Ty} → type_at w i ≡ ref space access t → Reads w i kind_ref space access t
  unfolding kind_of p_of q_of element_of is_scalar
  ref-words h = reads _ refl h

  pub frexp-words : {t : Ty} → type_at w i ≡ frexp t → Reads w i kind_frexp 0 0 t
  unfolding kind_of p_of q_of element_of is_scalar
  frexp-words h = reads _ refl h

  pub modf-words : {t : Ty} → type_at w i ≡ modf t → Reads w i kind_modf 0 0 t
  unfolding kind_of p_of q_of element_of is_scalar
  modf-words h = reads _ refl h

  pub exchange-words : {c : ℕ} → type_at w i ≡ exchange c → Reads w i kind_exchange 0 0 (scalar c)
  unfolding kind_of p_of q_of element_of is_scalar
  exchange-words h = reads _ refl h

  -- where the elem is a scalar, it is that scalar's number
  pub component : {k x y c : ℕ} → Reads w i k x y (scalar c) → (entry_at w i).elem ≡ c
  component {k} {x} {y} {c} r = scalar-number w n s (entry_at w i).elem (let u = r.under in omega arith) c r.elem
