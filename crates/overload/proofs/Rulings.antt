-- DEMAND 3 for every ruling: its judgment is the one that its overloads have, since wherever one fits one is preferred (`OnePreferred.antt`), and what it gives is a type that
-- there is. A row by the laws of rows, every other by those of described overloads. Assumes nothing.
use Rattle.std.proofs.Common.{◌≡◌, ℕ, zero, suc, ◌<◌, Bool, true, false, cond, ◌&&◌, T, eqb, leb, ◌≢◌, List, [], ◌∷◌, map, length, get_or, sym, refl, ap, ◌∙◌, subst, arith, eqb→eq, lt-ltb, le-leb, leb-true}
use borrow.Author.Tests.{eqb-false}
use Rattle.conv.specs.Types.{Ty, formed, workgroup, storage, handle, read_write}
use Rattle.conv.specs.Types.Ty.{scalar, vec, mat, array, runtime, atomic, ptr, ref, frexp, modf, exchange}
use Rattle.conv.specs.Rank.{both, converts}
use Rattle.conv.proofs.Finite.{both_right, below}
use Rattle.overload.specs.Overload.{Overload, fits, Judged, Resolved}
use Rattle.overload.specs.Marks.{remains, remaining}
use Rattle.overload.specs.Overload.Judged.{gives, none_fits}
use Rattle.overload.specs.Rows.{Row, rows, no_row, row_at, overloads_of, address_of, indirection_of, atomic_of, uniform_load_of, to_runtime, array_length_of, Ruling, overloads_by, judge_row, judge_address, judge_indirection, judge_load, judge_length, alone, judge_by, Known}
use Rattle.overload.specs.Rows.Ruling.{by_row, address, indirection, on_atomic, comparing, uniform_load, array_length}
use Rattle.overload.proofs.Judge.{clash, inner}
use Rattle.overload.proofs.Marks.{sifted-resolved}
use Rattle.overload.proofs.Operands.{all_formed, and_left, and_right}
use Rattle.overload.proofs.Results.{gives-formed}
use Rattle.overload.proofs.Described.{judge-address, judge-indirection}
use Rattle.overload.proofs.Memory.{integer-small, exchange-formed, judge-atomic, atomic-formed, judge-load, load-formed, judge-length, length-formed}
use Rattle.overload.proofs.Staying.{rest, ref-parts, ptr-parts, to-left, address_stays, indirection-stays, atomic-stays, load-stays, length-stays}
use Rattle.overload.proofs.OnePreferred.{one-is-preferred}

-- ONE OPERAND: an overload of one parameter fits no other count

abbrev OneParam : (Overload → Type 0) → Type 0
OneParam set = (o : Overload) → set o → (x : Ty) × (o.params ≡ x ∷ [])

module _ (set : Overload → Type 0) (one : OneParam set) where
  none-fit : (o : Overload) → set o → T (fits o.params []) → ⊥
  unfolding fits
  none-fit o m h = let q = one o m in subst (λ (ps : List Ty). T (fits ps [])) q.1 h

  many-fit : (t u : Ty) (us : List Ty) (o : Overload) → set o → T (fits o.params (t ∷ u ∷ us)) → ⊥
  unfolding fits both
  many-fit t u us o m h =
      let q = one o m in
      both_right (converts t q.0) _ (subst (λ (ps : List Ty). T (fits ps (t ∷ u ∷ us))) q.1 h)

  module _ (j : Ty → Judged) (resolved : (t : Ty) → formed t ≡ true → Resolved set (t ∷ []) (j t)) where
    alone-resolved : (ts : List Ty) → all_formed ts ≡ true → Resolved set ts (alone j ts)
    unfolding Resolved alone all_formed
    alone-resolved [] f = none-fit
    alone-resolved (t ∷ []) f = resolved t (and_left (formed t) true f)
    alone-resolved (t ∷ u ∷ us) f = many-fit t u us

  module _ (j : Ty → Judged) (gives_one : (t : Ty) → formed t ≡ true → (R : Ty) → j t ≡ gives R → formed R ≡ true) where
    alone-formed : (ts : List Ty) → all_formed ts ≡ true → (R : Ty) → alone j ts ≡ gives R → formed R ≡ true
    unfolding alone all_formed
    alone-formed [] f R e = absurd (clash e)
    alone-formed (t ∷ []) f R e = gives_one t (and_left (formed t) true f) R e
    alone-formed (t ∷ u ∷ us) f R e = absurd (clash e)

address-one : OneParam address_of
address-one o m = (ref m.0 m.1 m.2, ap (λ (p : Overload). p.params) m.5)

indirection-one : OneParam indirection_of
indirection-one o m = (ptr m.0 m.1 m.2, ap (λ (p : Overload). p.params) m.4)

load_one : OneParam uniform_load_of
load_one o m = (ptr workgroup read_write m.0, ap (λ (p : Overload). p.params) m.3)

length-one : OneParam array_length_of
length-one o m = (to_runtime m.0 m.1, ap (λ (p : Overload). p.params) m.4)

-- WHAT `&` AND `*` GIVE is a type that there is: a pointer and a reference ask the same of their element

swap : (a b rest : Bool) → (a && rest) ≡ true → b ≡ true → (b && rest) ≡ true
swap a true rest h e = and_right a rest h
swap a false rest h e = absurd (subst T (sym e) tt)

module _ (space access : ℕ) (t : Ty) where
  pub pointer-formed : formed (ref space access t) ≡ true → space ≢ handle → formed (ptr space access t) ≡ true
  pointer-formed f h =
      let g = sym (ref-parts space access t) ∙ f in
      let u = leb-true space handle (and_left (leb space handle) (rest space access t) g) in
      ptr-parts space access t ∙ swap (leb space handle) (leb space storage) (rest space access t) g (le-leb space storage (omega arith))

  pub reference-formed : formed (ptr space access t) ≡ true → formed (ref space access t) ≡ true
  reference-formed f =
      let g = sym (ptr-parts space access t) ∙ f in
      let u = leb-true space storage (and_left (leb space storage) (rest space access t) g) in
      ref-parts space access t ∙ swap (leb space storage) (leb space handle) (rest space access t) g (le-leb space handle (omega arith))

lent-formed : (space access : ℕ) (t : Ty) → formed (ref space access t) ≡ true → (b : Bool) → eqb space handle ≡ b
    → (R : Ty) → cond b none_fits (gives (ptr space access t)) ≡ gives R → formed R ≡ true
lent-formed space access t f true e R q = absurd (clash q)
lent-formed space access t f false e R q = ap formed (sym (inner q)) ∙ pointer-formed space access t f (eqb-false space handle e)

address-formed : (x : Ty) → formed x ≡ true → (R : Ty) → judge_address x ≡ gives R → formed R ≡ true
unfolding judge_address
address-formed (ref space access t) f R e = lent-formed space access t f (eqb space handle) refl R e
address-formed (ptr space access t) f R e = absurd (clash e)
address-formed (scalar s) f R e = absurd (clash e)
address-formed (vec n s) f R e = absurd (clash e)
address-formed (mat c r s) f R e = absurd (clash e)
address-formed (array k t) f R e = absurd (clash e)
address-formed (runtime t) f R e = absurd (clash e)
address-formed (atomic s) f R e = absurd (clash e)
address-formed (frexp t) f R e = absurd (clash e)
address-formed (modf t) f R e = absurd (clash e)
address-formed (exchange s) f R e = absurd (clash e)

indirection-formed : (x : Ty) → formed x ≡ true → (R : Ty) → judge_indirection x ≡ gives R → formed R ≡ true
unfolding judge_indirection
indirection-formed (ptr space access t) f R e = ap formed (sym (inner e)) ∙ reference-formed space access t f
indirection-formed (ref space access t) f R e = absurd (clash e)
indirection-formed (scalar s) f R e = absurd (clash e)
indirection-formed (vec n s) f R e = absurd (clash e)
indirection-formed (mat c r s) f R e = absurd (clash e)
indirection-formed (array k t) f R e = absurd (clash e)
indirection-formed (runtime t) f R e = absurd (clash e)
indirection-formed (atomic s) f R e = absurd (clash e)
indirection-formed (frexp t) f R e = absurd (clash e)
indirection-formed (modf t) f R e = absurd (clash e)
indirection-formed (exchange s) f R e = absurd (clash e)

-- what a known row gives is a type that there is, on any operands
pub row-formed : (r : Row) → Known (by_row r) → (ts : List Ty) (ms : List Bool) (R : Ty) → judge_by (by_row r) ts ms ≡ gives R → formed R ≡ true
unfolding judge_by Known
row-formed r k ts ms R e = (gives-formed r.number (remains ms) ts R (ap (λ (x : Row). judge_row x ts ms) k ∙ e)).0

scalar-formed : (s : ℕ) → formed (atomic s) ≡ true → formed (scalar s) ≡ true
unfolding formed
scalar-formed s h = lt-ltb s 7 (integer-small s h)

-- EVERY RULING, on operands that are types, whatever their marks

module _ (ts : List Ty) (f : all_formed ts ≡ true) (ms : List Bool) where
  -- the judgment is the one that the overloads have which remain
  pub ruling-resolved : (r : Ruling) → Known r → Resolved (remaining ms (overloads_by r)) ts (judge_by r ts ms)
  unfolding overloads_by judge_by
  ruling-resolved (by_row r) k = sifted-resolved (remains ms) (overloads_of r) ts (one-is-preferred (by_row r) k ms ts)
  ruling-resolved address k = to-left ms address_of (address_stays ms) ts _ (alone-resolved address_of address-one judge_address judge-address ts f)
  ruling-resolved indirection k = to-left ms indirection_of (indirection-stays ms) ts _ (alone-resolved indirection_of indirection-one judge_indirection judge-indirection ts f)
  ruling-resolved (on_atomic j) k = to-left ms (atomic_of j scalar) (atomic-stays ms j scalar) ts _ (judge-atomic j scalar ts f)
  ruling-resolved comparing k = to-left ms (atomic_of 2 exchange) (atomic-stays ms 2 exchange) ts _ (judge-atomic 2 exchange ts f)
  ruling-resolved uniform_load k = to-left ms uniform_load_of (load-stays ms) ts _ (alone-resolved uniform_load_of load_one judge_load judge-load ts f)
  ruling-resolved array_length k = to-left ms array_length_of (length-stays ms) ts _ (alone-resolved array_length_of length-one judge_length judge-length ts f)

  -- what it gives is a type that there is
  pub ruling-formed : (r : Ruling) → Known r → (R : Ty) → judge_by r ts ms ≡ gives R → formed R ≡ true
  unfolding judge_by Known
  ruling-formed (by_row r) k R e = row-formed r k ts ms R e
  ruling-formed address k R e = alone-formed address_of address-one judge_address address-formed ts f R e
  ruling-formed indirection k R e = alone-formed indirection_of indirection-one judge_indirection indirection-formed ts f R e
  ruling-formed (on_atomic j) k R e = atomic-formed j scalar scalar-formed ts f R e
  ruling-formed comparing k R e = atomic-formed 2 exchange exchange-formed ts f R e
  ruling-formed uniform_load k R e = alone-formed uniform_load_of load_one judge_load load-formed ts f R e
  ruling-formed array_length k R e = alone-formed array_length_of length-one judge_length length-formed ts f R e

-- a row of the list is known by its number
row_test : ℕ → Bool
row_test k = eqb (row_at k).number k

pub row-known : (k : ℕ) → k < length rows → Known (by_row (row_at k))
unfolding Known row_test row_at rows both
row-known k h = ap row_at (eqb→eq (row_at k).number k (below (length rows) row_test tt k h))

-- and so is each of a list of rows that are computed to be those of their numbers

get-map : (g : Row → Row) (rs : List Row) (k : ℕ) (d : Row) → get_or (map g rs) k (g d) ≡ g (get_or rs k d)
get-map g [] k d = refl
get-map g (r ∷ rs) zero d = refl
get-map g (r ∷ rs) (suc k) d = get-map g rs k d

numbered : Row → Row
numbered r = row_at r.number

pub known-rows : (rs : List Row) → rs ≡ map (λ (r : Row). row_at r.number) rs → (k : ℕ) → Known (by_row (get_or rs k no_row))
unfolding Known numbered row_at rows
known-rows rs e k = sym (get-map numbered rs k no_row) ∙ ap (λ (l : List Row). get_or l k no_row) (sym e)
