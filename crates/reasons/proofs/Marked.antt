-- The marks and the types of operands, by place. Assumes nothing.
use Prim.Native.Nat.{ℕ, zero, suc, ◌≤◌, ◌<◌}
use mathlib.Core.Path.{◌≡◌, refl, sym, ◌∙◌, ap}
use mathlib.Core.Bool.{Bool, true, false, cond}
use mathlib.Core.List.{List, [], ◌∷◌}
use native.Mathlib.Nat.{le_of_suc-le-suc, not-suc-le-zero}
use native.Mathlib.Omega.{arith}
use lib.Dec.{ltb}
use lib.ListN.{length, length-map, get_or}
use borrow.Author.Tests.{ltb-false}
use Rattle.std.proofs.Common.{Some, None}
use Rattle.std.specs.Option.{unwrap_or}
use Rattle.std.specs.List.{position, position_or_len}
use Rattle.std.proofs.lemmas.List.Recursion.{is_position_or_len}
use Rattle.held.specs.Held.{mark_of, number_of}
use Rattle.conv.specs.Types.{bool}
use Rattle.conv.specs.Types.Ty.{scalar}
use Rattle.table.specs.Denote.{type_at}
use Rattle.call_ty.specs.Calls.{marks_of}
use Rattle.weigh.specs.Weigh.{first_by}
use Rattle.reasons.specs.Reasons.{is_true}
use Rattle.reasons.specs.inner.Told.{types_of}

pub mark-in : (args : List ℕ) (k : ℕ) → k < length args → get_or (marks_of args) k false ≡ mark_of (get_or args k 0)
mark-in [] k h = absurd (not-suc-le-zero h)
mark-in (v ∷ vs) zero h = refl
mark-in (v ∷ vs) (suc k) h = mark-in vs k (le_of_suc-le-suc h)

pub type-in : (w args : List ℕ) (k : ℕ) → k < length args → get_or (types_of w args) k (scalar bool) ≡ type_at w (number_of (get_or args k 0))
type-in w [] k h = absurd (not-suc-le-zero h)
type-in w (v ∷ vs) zero h = refl
type-in w (v ∷ vs) (suc k) h = type-in w vs k (le_of_suc-le-suc h)

pub first-most : {A : Type 0} (g : A → Bool) (xs : List A) → first_by g xs ≤ length xs
unfolding first_by
first-most g [] = omega arith
first-most g (x ∷ xs) = go (g x) (first-most g xs)
  where
    go : (b : Bool) → first_by g xs ≤ length xs → cond b 0 (suc (first_by g xs)) ≤ suc (length xs)
    go true ih = omega arith
    go false ih = omega arith

-- the first running operand's place, or how many operands there are
in_place : {A : Type 0} (g : A → Bool) (xs : List A) (k : ℕ) → k ≤ length xs → unwrap_or (cond (ltb k (length xs)) (Some k) None) (length xs) ≡ k
in_place g xs k h = go (ltb k (length xs)) refl
  where
    go : (b : Bool) → ltb k (length xs) ≡ b → unwrap_or (cond b (Some k) None) (length xs) ≡ k
    go true e = refl
    go false e = omega (arith, ltb-false k (length xs) e)

pub first-running : (args : List ℕ) → unwrap_or (position mark_of args) (length args) ≡ first_by is_true (marks_of args)
unfolding first_by
first-running args =
    let e : first_by is_true (marks_of args) ≡ position_or_len mark_of args =
    is_position_or_len (λ vs. first_by is_true (marks_of vs)) mark_of refl (λ v vs. ap (λ (k : ℕ). cond (mark_of v) 0 k) (omega arith)) args in
    in_place mark_of args (position_or_len mark_of args) (omega (arith, e, first-most is_true (marks_of args), length-map args mark_of)) ∙ sym e
