-- The list of the items from a place: what stands there, and, after an item, the list from the next place. Each item ends later than it
-- begins, so as many steps as the sheet has bytes are enough. Assumes nothing.
use Prim.Native.Nat.{ℕ, zero, suc, ◌+◌, ◌≤◌}
use mathlib.Core.Path.{◌≡◌, refl, sym, ap}
use mathlib.Core.List.{List, [], ◌∷◌}
use mathlib.Core.Bool.{Bool, true, false, cond}
use native.Mathlib.Omega.{arith}
use lib.ListN.{length}
use Rattle.frame.specs.declared.Placed.{Placed}
use Rattle.frame.specs.Frame.{item_at, is_item, items_within, items_from}
use Rattle.frame.proofs.FrameLaws.{framed}

-- a choice between equal lists, and one that is never made
same_cond : (b : Bool) {x y : List Placed} → (b ≡ true → x ≡ y) → cond b x [] ≡ cond b y []
same_cond true h = h refl
same_cond false h = refl

no-cond : (b : Bool) (x : List Placed) → (b ≡ true → ⊥) → cond b x [] ≡ []
no-cond true x h = elim (h refl) [ ]
no-cond false x h = refl

-- past the last byte no item stands
none : (s : List ℕ) (at : ℕ) → length s ≤ at + 0 → is_item (item_at s at).item ≡ true → ⊥
none s at h e = omega (arith, (framed s at e).after, (framed s at e).within)

-- with one step more, what is left of the sheet is left from the next place on
left : (s : List ℕ) (at n : ℕ) → length s ≤ at + suc n → is_item (item_at s at).item ≡ true → length s ≤ (item_at s at).next.0 + n
left s at n h e = omega (arith, (framed s at e).after)

pub enough : (n m : ℕ) (s : List ℕ) (at : ℕ) → length s ≤ at + n → length s ≤ at + m → items_within n s at ≡ items_within m s at
unfolding items_within
enough zero zero s at h k = refl
enough zero (suc m) s at h k = ap (λ (l : List Placed). item_at s at ∷ l) (sym (no-cond (is_item (item_at s at).item) _ (none s at h)))
enough (suc n) zero s at h k = ap (λ (l : List Placed). item_at s at ∷ l) (no-cond (is_item (item_at s at).item) _ (none s at k))
enough (suc n) (suc m) s at h k =
    ap (λ (l : List Placed). item_at s at ∷ l)
    (same_cond (is_item (item_at s at).item) (λ e. enough n m s (item_at s at).next.0 (left s at n h e) (left s at m k e)))

-- the list, one step unrolled
pub items-from : (s : List ℕ) (at : ℕ) → items_from s at ≡ item_at s at ∷ cond (is_item (item_at s at).item) (items_from s (item_at s at).next.0) []
unfolding items_from items_within
items-from s at = enough (length s) (suc (length s)) s at (omega arith) (omega arith)
