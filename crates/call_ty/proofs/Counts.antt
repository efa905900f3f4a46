-- A count of operands that a ruling does not want fits none of its overloads. Assumes nothing.
use Prim.Native.Nat.{ℕ, zero, suc}
use mathlib.Core.Path.{◌≡◌, refl, sym, ◌∙◌, ap}
use mathlib.Core.Logic.{◌≢◌}
use mathlib.Core.List.{List, [], ◌∷◌}
use lib.Dec.{T}
use lib.ListN.{length}
use Rattle.conv.specs.Types.{Ty}
use Rattle.conv.specs.Rank.{converts}
use Rattle.conv.proofs.Finite.{both_right}
use Rattle.overload.specs.Overload.{Overload, fits}
use Rattle.overload.specs.Rows.{values, Ruling, overloads_by, Known}
use Rattle.overload.specs.Rows.Ruling.{by_row, address, indirection, on_atomic, comparing, uniform_load, array_length}
use Rattle.overload.proofs.Counts.{known-count}
use Rattle.names.specs.Names.Rule.{ruling}
use Rattle.call_ty.specs.Calls.{operands_by, operands_of}

fits_count : (ps ts : List Ty) → T (fits ps ts) → length ps ≡ length ts
unfolding fits
fits_count [] [] h = refl
fits_count [] (t ∷ ts) h = absurd h
fits_count (p ∷ ps) [] h = absurd h
fits_count (p ∷ ps) (t ∷ ts) h = ap suc (fits_count ps ts (both_right (converts t p) _ h))

value-count : (k s : ℕ) → length (values k s) ≡ k
unfolding values
value-count zero s = refl
value-count (suc k) s = ap suc (value-count k s)

param-count : (r : Ruling) → Known r → (o : Overload) → overloads_by r o → length o.params ≡ operands_of (ruling r)
unfolding operands_by operands_of overloads_by
param-count (by_row r) k o m = known-count r k o m
param-count address k o m = ap (λ (p : Overload). length p.params) m.5
param-count indirection k o m = ap (λ (p : Overload). length p.params) m.4
param-count (on_atomic j) k o m = ap (λ (p : Overload). length p.params) m.4 ∙ ap suc (value-count j m.1)
param-count comparing k o m = ap (λ (p : Overload). length p.params) m.4 ∙ ap suc (value-count 2 m.1)
param-count uniform_load k o m = ap (λ (p : Overload). length p.params) m.3
param-count array_length k o m = ap (λ (p : Overload). length p.params) m.4

pub wrong-count : (r : Ruling) → Known r → (ts : List Ty) → length ts ≢ operands_of (ruling r) → (o : Overload) → overloads_by r o → T (fits o.params ts) → ⊥
wrong-count r k ts h o m f = h (sym (fits_count o.params ts f) ∙ param-count r k o m)
