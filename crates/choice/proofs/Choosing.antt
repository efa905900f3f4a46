-- An overload is chosen exactly where it is left and fits, and each at its place stands back. Assumes nothing.
use Prim.Native.Nat.{ℕ, zero, suc, ◌≤◌, ◌<◌}
use mathlib.Core.Path.{◌≡◌, refl, sym, ◌∙◌, ap, subst}
use mathlib.Core.Logic.{◌≢◌}
use mathlib.Core.Bool.{Bool, true, false, ◌&&◌, not, cond}
use mathlib.Core.List.{List, [], ◌∷◌, map}
use native.Mathlib.Nat.{le_of_suc-le-suc, not-suc-le-zero}
use native.Mathlib.Omega.{arith}
use lib.Dec.{T}
use lib.ListN.{length, get_or, take}
use lib.Seq.{length-take-le, get_or-take}
use Rattle.conv.specs.Types.{Ty}
use Rattle.conv.specs.Rank.{both}
use Rattle.overload.specs.Overload.{Overload, or, fits, no_more, less, same_overload, yields, all_yield, is_preferred}
use Rattle.overload.specs.Marks.{sifted}
use Rattle.overload.specs.Rows.{row_at, overloads_of, operand_count}
use Rattle.overload.specs.inner.Code.{kept, operand}
use Rattle.overload.proofs.Judge.{same-overload, self-overload}
use Rattle.listing.specs.Listing.{no_overload, overload_at, Params}
use Rattle.listing.proofs.EveryOverload.{every-overload, no_other}
use Rattle.weigh.specs.Weigh.{Shaped}
use Rattle.choice.specs.inner.Chosen.{left_by, chosen_by, stands_back}

-- not both running and abstract is not running, or not abstract
pub left_is : (r a : Bool) → not (r && a) ≡ or (not r) (not a)
unfolding or
left_is true a = refl
left_is false a = refl

both_false : (a : Bool) → both a false ≡ false
unfolding both
both_false true = refl
both_false false = refl

module _ (running : Bool) (ts : List Ty) (o : Overload) where
  -- what is not left is not looked at; the rest yields
  step : (p : Overload) (os : List Overload) → all_yield ts o (sifted (kept running) (p ∷ os)) ≡ both (stands_back running ts o p) (all_yield ts o (sifted (kept running) os))
  unfolding sifted all_yield both or
  step p os = go (kept running p)
    where
      go : (b : Bool) → all_yield ts o (cond b (p ∷ sifted (kept running) os) (sifted (kept running) os)) ≡ both (or (not b) (yields ts o p)) (all_yield ts o (sifted (kept running) os))
      go true = refl
      go false = refl

  pub all_back : (os : List Overload) → ((j : ℕ) → j < length os → stands_back running ts o (get_or os j no_overload) ≡ true) → all_yield ts o (sifted (kept running) os) ≡ true
  unfolding sifted all_yield both
  all_back [] h = refl
  all_back (p ∷ os) h =
      step p os
      ∙ ap (λ (b : Bool). both b (all_yield ts o (sifted (kept running) os))) (h 0 (omega arith))
      ∙ all_back os (λ j l. h (suc j) (omega arith))

  pub one-not : (os : List Overload) (j : ℕ) → j < length os → stands_back running ts o (get_or os j no_overload) ≡ false → all_yield ts o (sifted (kept running) os) ≡ false
  unfolding both
  one-not [] j l e = absurd (not-suc-le-zero l)
  one-not (p ∷ os) zero l e = step p os ∙ ap (λ (b : Bool). both b (all_yield ts o (sifted (kept running) os))) e
  one-not (p ∷ os) (suc j) l e = step p os ∙ ap (both (stands_back running ts o p)) (one-not os j (le_of_suc-le-suc l) e) ∙ both_false (stands_back running ts o p)

yes-eq : (b : Bool) → T b → b ≡ true
yes-eq true h = refl
yes-eq false h = absurd h

no_eq : (b : Bool) → (T b → ⊥) → b ≡ false
no_eq true h = absurd (h tt)
no_eq false h = refl

clash : true ≡ false → ⊥
clash e = subst T e tt

-- an overload that is the same one stands back; so does one that does not fit, or is not left; any other does where it is beaten
module _ (running : Bool) (ts : List Ty) (o p : Overload) where
  or_yes : (a : Bool) → or a true ≡ true
  unfolding or
  or_yes true = refl
  or_yes false = refl

  pub back-same : p ≡ o → stands_back running ts o p ≡ true
  unfolding or
  back-same e =
      ap (λ (b : Bool). or (not (kept running p)) (or (not (fits p.params ts)) (or b (both (no_more ts o.params p.params) (less ts o.params p.params)))))
      (yes-eq (same_overload p o) (subst (λ (q : Overload). T (same_overload p q)) e (self-overload p)))
      ∙ ap (or (not (kept running p))) (or_yes (not (fits p.params ts)))
      ∙ or_yes (not (kept running p))

  pub back-away : both (fits p.params ts) (left_by running p.params) ≡ false → stands_back running ts o p ≡ true
  unfolding or both
  back-away e = go (fits p.params ts) refl (left_by running p.params) refl e
    where
      go : (f : Bool) → fits p.params ts ≡ f → (l : Bool) → left_by running p.params ≡ l → both f l ≡ false → stands_back running ts o p ≡ true
      go false ef l el h = rw ef (or_yes (not (kept running p)))
      go true ef false el h = rw el
      go true ef true el h = absurd (clash h)

  pub back-beaten : both (fits p.params ts) (left_by running p.params) ≡ true → same_overload p o ≡ false
      → stands_back running ts o p ≡ both (no_more ts o.params p.params) (less ts o.params p.params)
  unfolding or both
  back-beaten e s = go (fits p.params ts) refl (left_by running p.params) refl e
    where
      go : (f : Bool) → fits p.params ts ≡ f → (l : Bool) → left_by running p.params ≡ l → both f l ≡ true
          → stands_back running ts o p ≡ both (no_more ts o.params p.params) (less ts o.params p.params)
      go true ef true el h = rw (el, ef, s)
      go true ef false el h = absurd (clash (sym h))
      go false ef l el h = absurd (clash (sym h))

-- at another place stands another overload
pub other_place : (row i j : ℕ) → i < length (overloads_of (row_at row)) → j < length (overloads_of (row_at row)) → i ≢ j → same_overload (overload_at (row_at row) j) (overload_at (row_at row) i) ≡ false
other_place row i j hi hj ne =
    no_eq (same_overload (overload_at (row_at row) j) (overload_at (row_at row) i))
    (λ t.
    let o = overload_at (row_at row) i in
    let e = same-overload (overload_at (row_at row) j) o t in
    let at = every-overload row o (no_other row o i (hi, refl)) in
    ne (at.2 i (hi, refl) ∙ sym (at.2 j (hj, e))))

-- THE LOOP: an overload that is left and fits is chosen where all stand back
module _ (row : ℕ) (running : Bool) (ts : List Ty) (o : Overload) where
  pub chosen-all : both (fits o.params ts) (left_by running o.params) ≡ true
      → ((j : ℕ) → j < length (overloads_of (row_at row)) → stands_back running ts o (overload_at (row_at row) j) ≡ true) → chosen_by running (row_at row) ts o ≡ true
  unfolding is_preferred both
  chosen-all e h = go (fits o.params ts) refl (left_by running o.params) refl e
    where
      go : (f : Bool) → fits o.params ts ≡ f → (l : Bool) → left_by running o.params ≡ l → both f l ≡ true → chosen_by running (row_at row) ts o ≡ true
      go true ef true el k = rw (el, ef, all_back running ts o (overloads_of (row_at row)) h)
      go true ef false el k = absurd (clash (sym k))
      go false ef l el k = absurd (clash (sym k))

  pub chosen-not : (j : ℕ) → j < length (overloads_of (row_at row)) → stands_back running ts o (overload_at (row_at row) j) ≡ false → chosen_by running (row_at row) ts o ≡ false
  unfolding is_preferred
  chosen-not j l e =
      ap (λ (b : Bool). both (kept running o) (both (fits o.params ts) b)) (one-not running ts o (overloads_of (row_at row)) j l e)
      ∙ ap (both (kept running o)) (both_false (fits o.params ts))
      ∙ both_false (kept running o)

  pub chosen-away : both (fits o.params ts) (left_by running o.params) ≡ false → chosen_by running (row_at row) ts o ≡ false
  unfolding is_preferred both
  chosen-away e = go (fits o.params ts) refl (left_by running o.params) refl e
    where
      go : (f : Bool) → fits o.params ts ≡ f → (l : Bool) → left_by running o.params ≡ l → both f l ≡ false → chosen_by running (row_at row) ts o ≡ false
      go false ef l el k = rw ef (both_false (kept running o))
      go true ef false el k = rw el
      go true ef true el k = absurd (clash k)

-- the parameters of the overload at a place, as the part of a list of four
pub params-part : (row j : ℕ) (all : List ℕ) → Params row j all → (k : ℕ) → k ≡ operand_count (row_at row) → k ≤ 4
    → Shaped (take k all) × (length (take k all) ≡ k) × (map operand (take k all) ≡ (overload_at (row_at row) j).params)
params-part row j all p k e l =
    let n : length (take k all) ≡ k = length-take-le k all (omega (arith, p.four)) in (
      λ i h. subst (λ (x : ℕ). x < 91) (sym (get_or-take k all i 0 (omega arith))) (p.small i (omega arith)),
      n,
      ap (λ (m : ℕ). map operand (take m all)) e ∙ p.are,
    )
