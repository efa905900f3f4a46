-- What the fitting of operands says of their shapes: they are the parameters'. So they give the size of a family. Assumes nothing.
use Rattle.std.proofs.Common.{◌≡◌, ℕ, zero, suc, ◌+◌, ◌-◌, ◌*◌, ◌<◌, Bool, true, false, T, eqb, ltb, List, [], ◌∷◌, map, length, get_or, sym, refl, ap, ◌∙◌, subst, le_of_suc-le-suc, not-suc-le-zero, arith, eqb-true}
use lib.ListN.{length-map}
use borrow.Author.Tests.{eqb-false}
use Rattle.conv.specs.Types.{Ty}
use Rattle.conv.specs.Types.Ty.{scalar}
use Rattle.conv.specs.Rank.{pick, none, rank_of, form_of, shape_of, component_of, same_shape, converts}
use Rattle.conv.specs.Rank.Shape.{one}
use Rattle.conv.proofs.Finite.{both_left, both_right}
use Rattle.overload.specs.Overload.{Overload, fits}
use Rattle.overload.specs.Rows.{Size, Family, Pattern, form_at, component_at, pattern_ty, N}
use Rattle.overload.specs.inner.Code.{shape_of_no, shape_no, size_of_no, first_param, last_param, forms_at, reaches}
use Rattle.overload.proofs.Preference.{Sized, fine, all_fine, slot-cost, pick-test, pick-rank}
use Rattle.overload.proofs.Families.{Good, Fair, size_by, shape-eq}
use Rattle.overload.proofs.Listing.{Of}

pub fits-length : (ps xs : List Ty) → T (fits ps xs) → length ps ≡ length xs
unfolding fits
fits-length [] [] t = refl
fits-length [] (x ∷ xs) t = absurd t
fits-length (p ∷ ps) [] t = absurd t
fits-length (p ∷ ps) (x ∷ xs) t = ap suc (fits-length ps xs (both_right _ _ t))

-- what stands for an operand that is not there
abbrev pub nobody : Ty
nobody = scalar 0

abbrev pub first_ty : List Ty → Ty
first_ty xs = get_or xs 0 nobody

abbrev pub last_ty : List Ty → Ty
last_ty xs = get_or xs (length xs - 1) nobody

fits-at : (g : Pattern → Ty) (ps : List Pattern) (xs : List Ty) → T (fits (map g ps) xs) → (k : ℕ) → k < length ps → T (converts (get_or xs k nobody) (g (get_or ps k N)))
unfolding fits
fits-at g [] xs h k l = absurd (not-suc-le-zero l)
fits-at g (p ∷ ps) [] h k l = absurd h
fits-at g (p ∷ ps) (x ∷ xs) h zero l = both_left _ _ h
fits-at g (p ∷ ps) (x ∷ xs) h (suc k) l = fits-at g ps xs (both_right (converts x (g p)) _ h) k (le_of_suc-le-suc l)

pub fine-at : (set : List ℕ) (ps : List Pattern) → T (all_fine set ps) → (k : ℕ) → k < length ps → T (fine set (get_or ps k N).of)
fine-at set [] s k h = absurd (not-suc-le-zero h)
fine-at set (p ∷ ps) s zero h = both_left _ _ s
fine-at set (p ∷ ps) s (suc k) h = fine-at set ps (both_right (fine set p.of) _ s) k (le_of_suc-le-suc h)

module _ (set : List ℕ) (x : Ty) (z : Size) (t i : ℕ) (p : Pattern) (hz : Sized z) (ht : t < 7) (hi : i < 7) (hs : T (fine set p.of)) (h : T (converts x (pattern_ty z t i p))) where
  cost : T (ltb (pick (same_shape (shape_of x) (form_at p.form z)) (rank_of (component_of x) (component_at p.of t i)) none) none)
  cost = subst (λ (r : ℕ). T (ltb r none)) (slot-cost set x z t i p hz ht hi hs) h

  -- the shape of an operand that converts is the parameter's
  pub shape-of-fit : shape_of x ≡ form_at p.form z
  shape-of-fit = shape-eq (shape_of x) (form_at p.form z) (pick-test (same_shape (shape_of x) (form_at p.form z)) (rank_of (component_of x) (component_at p.of t i)) cost)

  -- and its component converts
  pub component-of-fit : T (reaches (component_of x) (component_at p.of t i))
  component-of-fit = pick-rank (same_shape (shape_of x) (form_at p.form z)) (rank_of (component_of x) (component_at p.of t i)) cost

-- THE SIZE that operands give a family
abbrev pub size_of_xs : Family → List Ty → Size
size_of_xs f xs = size_of_no (size_by f (shape_no (shape_of (first_ty xs))) (shape_no (shape_of (last_ty xs))))

no-shape : (z : Size) → z ≡ size_of_no 0 → z.shape ≡ one
unfolding size_of_no shape_of_no
no-shape z e = ap (λ (y : Size). y.shape) e

module _ (f : Family) (g : Good f) (o : Overload) (q : Of f o) (xs : List Ty) (h : T (fits o.params xs)) where
  fit : T (fits (map (pattern_ty q.z q.t q.i) f.params) xs)
  fit = subst (λ (p : Overload). T (fits p.params xs)) q.is h

  w : Fair f q.z
  w = g.fair q.z q.in_sizes

  pub count-of-fit : length xs ≡ length f.params
  count-of-fit = sym (sym (length-map f.params (pattern_ty q.z q.t q.i)) ∙ fits-length _ xs fit)

  at : (k : ℕ) → k < length f.params → shape_of (get_or xs k nobody) ≡ form_at (get_or f.params k N).form q.z
  at k l =
      shape-of-fit f.set (get_or xs k nobody) q.z q.t q.i (get_or f.params k N) w.sized (g.set q.t q.in_set) (g.second q.i q.in_second) (fine-at f.set f.params g.small k l)
      (fits-at (pattern_ty q.z q.t q.i) f.params xs fit k l)

  -- where there is no operand the size is a scalar's
  absent : (k : ℕ) → length f.params ≡ 0 → shape_of (get_or xs k nobody) ≡ form_at (get_or f.params k N).form q.z
  unfolding form_at shape_of
  absent k e = nothing f.params xs e (count-of-fit ∙ e)
    where
      nothing : (ps : List Pattern) (ys : List Ty) → length ps ≡ 0 → length ys ≡ 0 → shape_of (get_or ys k nobody) ≡ form_at (get_or ps k N).form q.z
      nothing [] [] a b = sym (no-shape q.z (sym w.back ∙ ap size_of_no (w.nothing e)))
      nothing (p ∷ ps) ys a b = absurd (omega arith)
      nothing [] (y ∷ ys) a b = absurd (omega arith)

  pub first-shape : shape_of (first_ty xs) ≡ form_at (first_param f).form q.z
  first-shape = go (eqb (length f.params) 0) refl
    where
      go : (b : Bool) → eqb (length f.params) 0 ≡ b → shape_of (first_ty xs) ≡ form_at (first_param f).form q.z
      go true e = absent 0 (eqb-true _ 0 e)
      go false e = let n = eqb-false (length f.params) 0 e in at 0 (omega arith)

  pub last-shape : shape_of (last_ty xs) ≡ form_at (last_param f).form q.z
  last-shape = subst (λ (k : ℕ). shape_of (get_or xs (k - 1) nobody) ≡ form_at (last_param f).form q.z) (sym count-of-fit) (go (eqb (length f.params) 0) refl)
    where
      go : (b : Bool) → eqb (length f.params) 0 ≡ b → shape_of (get_or xs (length f.params - 1) nobody) ≡ form_at (last_param f).form q.z
      go true e = absent (length f.params - 1) (eqb-true _ 0 e)
      go false e = let n = eqb-false (length f.params) 0 e in at (length f.params - 1) (omega arith)

  -- the size of a fitting overload is that of the operands
  pub size-of-fit : q.z ≡ size_of_xs f xs
  size-of-fit =
      sym w.back
      ∙ ap size_of_no (sym w.by)
      ∙ (λ j. size_of_no (size_by f (shape_no (sym first-shape j)) (shape_no (sym last-shape j))))

  -- and the forms of its first and last parameters are theirs
  pub forms-of-fit : 3 * form_of (shape_of (first_ty xs)) + form_of (shape_of (last_ty xs)) ≡ forms_at f q.z
  forms-of-fit = λ j. 3 * form_of (first-shape j) + form_of (last-shape j)
