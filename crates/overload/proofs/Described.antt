-- Demand 3 for rules whose overloads are described: one for each reference or pointer type that the rule takes. Unary `&` and `*` are two of them. Assumes nothing.
use Rattle.std.proofs.Common.{◌≡◌, ℕ, Bool, true, false, cond, T, eqb, ◌≢◌, List, [], ◌∷◌, sym, refl, ap, ◌∙◌, subst, inl, arith, eqb-true}
use borrow.Author.Tests.{eqb-false}
use Rattle.conv.specs.Types.{Ty, handle, formed}
use Rattle.conv.specs.Types.Ty.{scalar, vec, mat, array, runtime, atomic, ptr, ref, frexp, modf, exchange}
use Rattle.conv.specs.Rank.{pick, both, none, rank_of, Shape, shape_of, component_of, same_shape, by_component, tag_of, is_pointer, is_reference, first_of, second_of, element_of, same_ty, conversion_rank, converts}
use Rattle.conv.specs.Rank.Shape.{one, vector, matrix, other}
use Rattle.conv.proofs.Finite.{both_left, both_right}
use Rattle.conv.proofs.Made.{same-ty, self-rank}
use Rattle.overload.specs.Overload.{Overload, fits, Preferred, Resolved}
use Rattle.overload.specs.Overload.Judged.{gives, none_fits}
use Rattle.overload.specs.Rows.{address_of, indirection_of, judge_address, judge_indirection}
use Rattle.overload.proofs.Preference.{Settled}

-- what converts to a type that is no scalar, vector or matrix is that type

apart : (s : Shape) → same_shape s other ≡ false
unfolding both
apart one = refl
apart (vector n) = refl
apart (matrix c r) = refl
apart other = refl

pub only-itself : (x p : Ty) → shape_of p ≡ other → T (converts x p) → x ≡ p
unfolding conversion_rank
only-itself x p e h = go (same_ty x p) refl
  where
    far : by_component x p ≡ none
    far =
        ap (λ (s : Shape). pick (same_shape (shape_of x) s) (rank_of (component_of x) (component_of p)) none) e
        ∙ ap (λ (b : Bool). pick b (rank_of (component_of x) (component_of p)) none) (apart (shape_of x))

    go : (b : Bool) → same_ty x p ≡ b → x ≡ p
    go true q = same-ty x p (rw q tt)
    go false q = absurd (rw (q, far) at h)

module _ (x p : Ty) (ps xs : List Ty) where
  fits-first : T (fits (p ∷ ps) (x ∷ xs)) → T (converts x p)
  unfolding fits
  fits-first h = both_left _ _ h

  fits-rest : T (fits (p ∷ ps) (x ∷ xs)) → T (fits ps xs)
  unfolding fits
  fits-rest h = both_right (converts x p) _ h

self-fits : (x : Ty) (ps xs : List Ty) → T (fits ps xs) → T (fits (x ∷ ps) (x ∷ xs))
unfolding fits both
self-fits x ps xs h = rw (self-rank x) h

-- a set whose overloads have a first parameter each, no scalar, vector or matrix, and for it one list of further ones and one result: at such a first operand its own overload is
-- preferred, where the others convert
module _ (set : Overload → Type 0) (takes : Ty → Type 0) (more : Ty → List Ty) (out : Ty → Ty)
    (each : (o : Overload) → set o → (x : Ty) × takes x × (shape_of x ≡ other) × (o ≡ record { params = x ∷ more x; result = out x }))
    (all : (x : Ty) → takes x → set (record { params = x ∷ more x; result = out x })) where
  taken : (x : Ty) (xs : List Ty) (p : Overload) → set p → T (fits p.params (x ∷ xs))
      → takes x × T (fits (more x) xs) × (p ≡ record { params = x ∷ more x; result = out x })
  taken x xs p m h =
      let q = each p m in
      let f = subst (λ (o : Overload). T (fits o.params (x ∷ xs))) q.3 h in
      let e : x ≡ q.0 = only-itself x q.0 q.2 (fits-first x q.0 (more q.0) xs f) in
      (subst takes (sym e) q.1, subst (λ (y : Ty). T (fits (more y) xs)) (sym e) (fits-rest x q.0 (more q.0) xs f), q.3 ∙ ap (λ (y : Ty). record { params = y ∷ more y; result = out y }) (sym e))

  own : (x : Ty) (xs : List Ty) → takes x → T (fits (more x) xs) → Preferred set (x ∷ xs) (record { params = x ∷ more x; result = out x })
  own x xs k f = record { among = all x k; fitting = self-fits x (more x) xs f; over = λ p m h. inl (taken x xs p m h).2 }

  pub described : (x : Ty) (xs : List Ty) → takes x → T (fits (more x) xs) → Resolved set (x ∷ xs) (gives (out x))
  unfolding Resolved
  described x xs k f = (record { params = x ∷ more x; result = out x }, own x xs k f, refl)

  pub undescribed : (x : Ty) (xs : List Ty) → (takes x → T (fits (more x) xs) → ⊥) → Resolved set (x ∷ xs) none_fits
  unfolding Resolved
  undescribed x xs k p m h = let t = taken x xs p m h in k t.0 t.1

  pub described-none : Resolved set [] none_fits
  unfolding Resolved fits
  described-none p m h = let q = each p m in subst (λ (o : Overload). T (fits o.params [])) q.3 h

  -- so wherever one fits one is preferred
  pub described-settled : (ts : List Ty) → Settled set ts
  unfolding Resolved
  described-settled [] p m h = absurd (described-none p m h)
  described-settled (x ∷ xs) p m h = let t = taken x xs p m h in (record { params = x ∷ more x; result = out x }, own x xs t.0 t.1)

-- a rule for one operand has no further parameter
abbrev pub nothing_more : Ty → List Ty
nothing_more x = []

-- UNARY `&`: a reference, not in space handle, to the pointer

abbrev pub Lendable : Ty → Type 0
Lendable x = (space access : ℕ) × (t : Ty) × (space ≢ handle) × T (formed (ref space access t)) × (x ≡ ref space access t)

abbrev pub pointer_to : Ty → Ty
pointer_to x = ptr (first_of x) (second_of x) (element_of x)

-- UNARY `*`: a pointer to the reference

abbrev pub Pointer : Ty → Type 0
Pointer x = (space access : ℕ) × (t : Ty) × T (formed (ptr space access t)) × (x ≡ ptr space access t)

abbrev pub reference_to : Ty → Ty
reference_to x = ref (first_of x) (second_of x) (element_of x)

module _ (o : Overload) where
  each-address : address_of o → (x : Ty) × Lendable x × (shape_of x ≡ other) × (o ≡ record { params = x ∷ []; result = pointer_to x })
  unfolding shape_of first_of second_of element_of
  each-address m = (ref m.0 m.1 m.2, (m.0, m.1, m.2, m.3, m.4, refl), refl, m.5)

  each-indirection : indirection_of o → (x : Ty) × Pointer x × (shape_of x ≡ other) × (o ≡ record { params = x ∷ []; result = reference_to x })
  unfolding shape_of first_of second_of element_of
  each-indirection m = (ptr m.0 m.1 m.2, (m.0, m.1, m.2, m.3, refl), refl, m.4)

module _ (x : Ty) where
  all-address : Lendable x → address_of (record { params = x ∷ []; result = pointer_to x })
  unfolding first_of second_of element_of
  all-address k = (k.0, k.1, k.2, k.3, k.4, ap (λ (y : Ty). record { params = y ∷ []; result = pointer_to y }) k.5)

  all-indirection : Pointer x → indirection_of (record { params = x ∷ []; result = reference_to x })
  unfolding first_of second_of element_of
  all-indirection k = (k.0, k.1, k.2, k.3, ap (λ (y : Ty). record { params = y ∷ []; result = reference_to y }) k.4)

  not-lendable : tag_of x ≢ 7 → Lendable x → ⊥
  unfolding tag_of
  not-lendable h k = h (ap tag_of k.5)

  not-pointer : tag_of x ≢ 6 → Pointer x → ⊥
  unfolding tag_of
  not-pointer h k = h (ap tag_of k.4)

address_gives : (x : Ty) → Lendable x → Resolved address_of (x ∷ []) (gives (pointer_to x))
unfolding fits
address_gives x k = described address_of Lendable nothing_more pointer_to each-address all-address x [] k tt

address-none : (x : Ty) → (Lendable x → ⊥) → Resolved address_of (x ∷ []) none_fits
address-none x h = undescribed address_of Lendable nothing_more pointer_to each-address all-address x [] (λ k f. h k)

pub address-settled : (ts : List Ty) → Settled address_of ts
address-settled = described-settled address_of Lendable nothing_more pointer_to each-address all-address

indirection-gives : (x : Ty) → Pointer x → Resolved indirection_of (x ∷ []) (gives (reference_to x))
unfolding fits
indirection-gives x k = described indirection_of Pointer nothing_more reference_to each-indirection all-indirection x [] k tt

indirection-none : (x : Ty) → (Pointer x → ⊥) → Resolved indirection_of (x ∷ []) none_fits
indirection-none x h = undescribed indirection_of Pointer nothing_more reference_to each-indirection all-indirection x [] (λ k f. h k)

pub indirection-settled : (ts : List Ty) → Settled indirection_of ts
indirection-settled = described-settled indirection_of Pointer nothing_more reference_to each-indirection all-indirection

-- THE RULES AS FUNCTIONS meet demand 3

no_address : (x : Ty) → tag_of x ≢ 7 → Resolved address_of (x ∷ []) none_fits
no_address x h = address-none x (not-lendable x h)

no-indirection : (x : Ty) → tag_of x ≢ 6 → Resolved indirection_of (x ∷ []) none_fits
no-indirection x h = indirection-none x (not-pointer x h)

lent : (space access : ℕ) (t : Ty) → formed (ref space access t) ≡ true → (b : Bool) → eqb space handle ≡ b
    → Resolved address_of (ref space access t ∷ []) (cond b none_fits (gives (ptr space access t)))
unfolding first_of second_of element_of
lent space access t f true e = address-none (ref space access t) (λ k. k.3 (sym (ap first_of k.5) ∙ eqb-true space handle e))
lent space access t f false e = address_gives (ref space access t) (space, access, t, eqb-false space handle e, rw f tt, refl)

pub judge-address : (x : Ty) → formed x ≡ true → Resolved address_of (x ∷ []) (judge_address x)
unfolding judge_address tag_of
judge-address (ref space access t) f = lent space access t f (eqb space handle) refl
judge-address (ptr space access t) f = no_address _ (λ e. omega arith)
judge-address (scalar s) f = no_address _ (λ e. omega arith)
judge-address (vec n s) f = no_address _ (λ e. omega arith)
judge-address (mat c r s) f = no_address _ (λ e. omega arith)
judge-address (array k t) f = no_address _ (λ e. omega arith)
judge-address (runtime t) f = no_address _ (λ e. omega arith)
judge-address (atomic s) f = no_address _ (λ e. omega arith)
judge-address (frexp t) f = no_address _ (λ e. omega arith)
judge-address (modf t) f = no_address _ (λ e. omega arith)
judge-address (exchange s) f = no_address _ (λ e. omega arith)

pub judge-indirection : (x : Ty) → formed x ≡ true → Resolved indirection_of (x ∷ []) (judge_indirection x)
unfolding judge_indirection tag_of first_of second_of element_of
judge-indirection (ptr space access t) f = indirection-gives (ptr space access t) (space, access, t, rw f tt, refl)
judge-indirection (ref space access t) f = no-indirection _ (λ e. omega arith)
judge-indirection (scalar s) f = no-indirection _ (λ e. omega arith)
judge-indirection (vec n s) f = no-indirection _ (λ e. omega arith)
judge-indirection (mat c r s) f = no-indirection _ (λ e. omega arith)
judge-indirection (array k t) f = no-indirection _ (λ e. omega arith)
judge-indirection (runtime t) f = no-indirection _ (λ e. omega arith)
judge-indirection (atomic s) f = no-indirection _ (λ e. omega arith)
judge-indirection (frexp t) f = no-indirection _ (λ e. omega arith)
judge-indirection (modf t) f = no-indirection _ (λ e. omega arith)
judge-indirection (exchange s) f = no-indirection _ (λ e. omega arith)

-- and give nothing where there is no reference, or no pointer

pub address-other : (x : Ty) → is_reference x ≡ false → judge_address x ≡ none_fits
unfolding judge_address tag_of
address-other (ref space access t) f = absurd (subst T f tt)
address-other (ptr space access t) f = refl
address-other (scalar s) f = refl
address-other (vec n s) f = refl
address-other (mat c r s) f = refl
address-other (array k t) f = refl
address-other (runtime t) f = refl
address-other (atomic s) f = refl
address-other (frexp t) f = refl
address-other (modf t) f = refl
address-other (exchange s) f = refl

pub indirection-other : (x : Ty) → is_pointer x ≡ false → judge_indirection x ≡ none_fits
unfolding judge_indirection tag_of
indirection-other (ptr space access t) f = absurd (subst T f tt)
indirection-other (ref space access t) f = refl
indirection-other (scalar s) f = refl
indirection-other (vec n s) f = refl
indirection-other (mat c r s) f = refl
indirection-other (array k t) f = refl
indirection-other (runtime t) f = refl
indirection-other (atomic s) f = refl
indirection-other (frexp t) f = refl
indirection-other (modf t) f = refl
indirection-other (exchange s) f = refl
