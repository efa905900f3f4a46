-- The stack as the first values of a slice: what a push, the operands and the values below them come to. Assumes nothing.
use Prim.Native.Nat.{ℕ, zero, suc, ◌+◌, ◌-◌, ◌<◌, ◌≤◌}
use mathlib.Core.Path.{◌≡◌, refl, sym, ◌∙◌, subst}
use mathlib.Core.Bool.{false}
use mathlib.Core.List.{List, [], ◌∷◌, ◌++◌}
use native.Mathlib.Omega.{arith}
use native.Mathlib.Numerals.{add-one}
use lib.ListN.{length, get_or, take, drop, set, length-drop, length-map}
use lib.Seq.{take-suc-set, length-take-le, take-take, length-slice, ext_get_or, get_or-drop, get_or-take}
use Rattle.held.specs.Held.{number_of, mark_of}
use Rattle.call_ty.specs.Calls.{numbers, marks_of}
use Rattle.call_ty.specs.inner.Codes.{Under}
use Rattle.call_ty.proofs.Lists.{number_at}

-- a value written behind the first n is the next of them
pub next-value : (vals : List ℕ) (n v : ℕ) → n < length vals → take (n + 1) (set vals n v) ≡ take n vals ++ (v ∷ [])
next-value vals n v h = rw add-one (take-suc-set vals n v h)

module _ (count : ℕ) (vals : List ℕ) (fits : count ≤ length vals) where
  pub sized : length (take count vals) ≡ count
  sized = length-take-le count vals fits

  -- below k operands
  pub below-them : (k : ℕ) → take (length (take count vals) - k) (take count vals) ≡ take (count - k) vals
  below-them k = rw sized (take-take (count - k) count vals (omega arith))

  -- value i of the stack
  pub value_in : (i : ℕ) → i < count → get_or (take count vals) i 0 ≡ get_or vals i 0
  value_in i h = get_or-take count vals i 0 h

  -- the last k values, as the part of the slice that is lent on
  pub operands-lent : (k : ℕ) → k ≤ count → drop (length (take count vals) - k) (take count vals) ≡ take (count - (count - k)) (drop (count - k) vals)
  operands-lent k g =
      rw sized
      (let f = count - k in
      let n : length (drop f (take count vals)) ≡ count - f = length-slice f count vals fits in
      let m : length (take (count - f) (drop f vals)) ≡ count - f = length-take-le (count - f) (drop f vals) (omega (arith, length-drop f vals)) in
      ext_get_or 0 (drop f (take count vals)) (take (count - f) (drop f vals)) (n ∙ sym m)
      (λ i h. get_or-drop f (take count vals) i 0 ∙ get_or-take count vals (f + i) 0 (omega (arith, n)) ∙ sym (get_or-drop f vals i 0)
      ∙ sym (get_or-take (count - f) (drop f vals) i 0 (omega (arith, n)))))

-- THE NUMBERS OF VALUES are below n, by the values themselves

module _ (n : ℕ) (vs : List ℕ) where
  pub value-under : Under n (numbers vs) → (i : ℕ) → i < length vs → number_of (get_or vs i 0) < n
  value-under u i h = subst (λ (k : ℕ). k < n) (number_at vs i) (u i (omega (arith, length-map vs number_of)))

  pub under-values : ((i : ℕ) → i < length vs → number_of (get_or vs i 0) < n) → Under n (numbers vs)
  under-values f i h = subst (λ (k : ℕ). k < n) (sym (number_at vs i)) (f i (omega (arith, length-map vs number_of)))

-- and so in a part of the list

pub under-take : (n k : ℕ) (vs : List ℕ) → Under n (numbers vs) → Under n (numbers (take k vs))
under-take n k vs u =
    under-values n (take k vs)
    (λ i h.
    let m : length (take k vs) ≤ length vs = omega (arith, lib.ListN.length-take k vs) in
    let l : length (take k vs) ≤ k = omega (arith, lib.ListN.length-take k vs) in
    rw (get_or-take k vs i 0 (omega arith)) (value-under n vs u i (omega arith)))

pub under_drop : (n k : ℕ) (vs : List ℕ) → Under n (numbers vs) → Under n (numbers (drop k vs))
under_drop n k vs u = under-values n (drop k vs) (λ i h. rw (get_or-drop k vs i 0) (value-under n vs u (k + i) (omega (arith, length-drop k vs))))

-- the mark of a value
pub mark-at : (vs : List ℕ) (i : ℕ) → get_or (marks_of vs) i false ≡ mark_of (get_or vs i 0)
mark-at [] i = refl
mark-at (v ∷ vs) zero = refl
mark-at (v ∷ vs) (suc i) = mark-at vs i
