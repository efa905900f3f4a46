-- Putting one text after another. Assumes nothing.
use Prim.Native.Nat.{ℕ, suc, ◌+◌, ◌≤◌, ◌<◌}
use mathlib.Core.Path.{◌≡◌, refl, sym, ◌∙◌, ap, subst}
use mathlib.Core.List.{List, [], ◌∷◌, ◌++◌}
use native.Mathlib.Numerals.{add-one}
use native.Mathlib.Nat.{add-zero, zero-add, add-suc, suc-add}
use native.Mathlib.Omega.{arith}
use lib.ListN.{length, get_or, set, take, drop, length-append, length-take}
use lib.Seq.{sets, sets-eq, take-suc, length-sets}
use Rattle.text.specs.Text.{Put}

sets-append : (d : List ℕ) (at : ℕ) (s t : List ℕ) → sets d at (s ++ t) ≡ sets (sets d at s) (at + length s) t
sets-append d at [] t = rw add-zero
sets-append d at (b ∷ s) t =
    sets-append (set d at b) (suc at) s t ∙ ap (λ (k : ℕ). sets (sets (set d at b) (suc at) s) k t) (suc-add at (length s) ∙ sym (add-suc at (length s)))

pub put-nothing : (d : List ℕ) (at : ℕ) → Put d at [] at d
put-nothing d at = record { place = sym (add-zero at); bytes = refl }

pub put-put : {d v u : List ℕ} {at r m : ℕ} {s t : List ℕ} → Put d at s r v → Put v r t m u → Put d at (s ++ t) m u
put-put {d} {v} {u} {at} {r} {m} {s} {t} a b =
    record {
      place = omega (arith, a.place, b.place, length-append s t);
      bytes = b.bytes ∙ ap (λ (l : List ℕ). sets l r t) a.bytes ∙ ap (λ (k : ℕ). sets (sets d at s) k t) a.place ∙ sym (sets-append d at s t);
    }

-- an output stays as long as it was
pub put-long : {d v : List ℕ} {at r : ℕ} {s : List ℕ} → Put d at s r v → length v ≡ length d
put-long {d} {v} {at} {r} {s} p = ap length p.bytes ∙ length-sets d at s

-- a text's first j bytes, and one more
pub put-more : (d v : List ℕ) (at j : ℕ) (s : List ℕ) (z : ℕ) → j < length s → v ≡ sets d at (take j s) → set v (at + j) (get_or s j z) ≡ sets d at (take (j + 1) s)
put-more d v at j s z l h =
    let n : length (take j s) ≡ j = simp length-take (omega arith) in
    ap (λ (x : List ℕ). set x (at + j) (get_or s j z)) h
    ∙ ap (λ (k : ℕ). set (sets d at (take j s)) (at + k) (get_or s j z)) (sym n)
    ∙ sym (sets-append d at (take j s) (get_or s j z ∷ []))
    ∙ ap (sets d at) (sym (take-suc s j z l) ∙ ap (λ (k : ℕ). take k s) (sym (add-one j)))

-- over an output that has room
pub over-room : (s d : List ℕ) → length s ≤ length d → sets d 0 s ≡ s ++ drop (length s) d
over-room s d h = sets-eq s d 0 (omega arith) ∙ ap (λ (k : ℕ). s ++ drop k d) (zero-add (length s))

-- nothing is put into an empty part
pub over_none : (s : List ℕ) (at : ℕ) → sets [] at s ≡ []
over_none [] at = refl
over_none (b ∷ s) at = over_none s (suc at)

-- the same text, written otherwise
pub put_as : {d v : List ℕ} {at r : ℕ} {s t : List ℕ} → s ≡ t → Put d at s r v → Put d at t r v
put_as {d} {v} {at} {r} {s} {t} e p = subst (λ (x : List ℕ). Put d at x r v) e p
