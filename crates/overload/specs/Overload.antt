-- Overloads, and which of a set is preferred at given operands: WGSL "Overload Resolution". Assumes nothing.
use Rattle.std.specs.Prelude.{◌≡◌, Bool, true, false, cond, not, T, ◌⊎◌, List, [], ◌∷◌, nat_le, nat_lt}
use mathlib.Core.List.{Memᴰ}
use Rattle.conv.specs.Types.{Ty}
use Rattle.conv.specs.Rank.{both, same_ty, conversion_rank, converts}

pub record Overload : Type 0 where
  pub params : List Ty
  pub result : Ty

-- as many operands as parameters, and each converts to its own
unfoldable pub fits : List Ty → List Ty → Bool
fits [] [] = true
fits [] (x ∷ xs) = false
fits (p ∷ ps) [] = false
fits (p ∷ ps) (x ∷ xs) = both (converts x p) (fits ps xs)

-- no operand costs more under the parameters ps than under qs
unfoldable pub no_more : List Ty → List Ty → List Ty → Bool
no_more [] ps qs = true
no_more (x ∷ xs) [] qs = false
no_more (x ∷ xs) (p ∷ ps) [] = false
no_more (x ∷ xs) (p ∷ ps) (q ∷ qs) = both (nat_le (conversion_rank x p) (conversion_rank x q)) (no_more xs ps qs)

unfoldable pub or : Bool → Bool → Bool
or true b = true
or false b = b

-- some operand costs less under ps than under qs
unfoldable pub less : List Ty → List Ty → List Ty → Bool
less [] ps qs = false
less (x ∷ xs) [] qs = false
less (x ∷ xs) (p ∷ ps) [] = false
less (x ∷ xs) (p ∷ ps) (q ∷ qs) = or (nat_lt (conversion_rank x p) (conversion_rank x q)) (less xs ps qs)

-- A set of overloads is a property of overloads: that of standing in a list, or one that a rule describes.
abbrev pub listed : List Overload → Overload → Type 0
listed os o = Memᴰ o os

-- o is a fitting overload of the set under which no operand costs more than under any other fitting one, and every other costs more at some operand
pub record Preferred (set : Overload → Type 0) (xs : List Ty) (o : Overload) : Type 0 where
  pub among : set o
  pub fitting : T (fits o.params xs)
  pub over : (p : Overload) → set p → T (fits p.params xs)
      → (p ≡ o) ⊎ (T (no_more xs o.params p.params) × T (less xs o.params p.params))

-- how a call is judged: it gives a type, or no overload fits (refusal 8)
pub data Judged : Type 0 where
  gives : Ty → Judged
  none_fits : Judged

-- DEMAND 3: the judgment of a set of overloads at operands
unfoldable pub Resolved : (Overload → Type 0) → List Ty → Judged → Type 0
Resolved set xs (gives t) = (o : Overload) × Preferred set xs o × (t ≡ o.result)
Resolved set xs none_fits = (p : Overload) → set p → T (fits p.params xs) → ⊥

-- THE JUDGMENT, as a function of a list of overloads and the operands: that of the preferred overload, by the same tests; without one, that none fits. It is the one that
-- `Resolved` describes wherever a fitting overload is preferred to every other, and of every row one is (`proofs/OnePreferred.antt`)

-- one overload
unfoldable pub same_tys : List Ty → List Ty → Bool
same_tys [] [] = true
same_tys [] (q ∷ qs) = false
same_tys (p ∷ ps) [] = false
same_tys (p ∷ ps) (q ∷ qs) = both (same_ty p q) (same_tys ps qs)

abbrev pub same_overload : Overload → Overload → Bool
same_overload p o = both (same_tys p.params o.params) (same_ty p.result o.result)

-- p does not fit, or is o, or is beaten by o
abbrev pub yields : List Ty → Overload → Overload → Bool
yields xs o p =
    or (not (fits p.params xs)) (or (same_overload p o) (both (no_more xs o.params p.params) (less xs o.params p.params)))

unfoldable pub all_yield : List Ty → Overload → List Overload → Bool
all_yield xs o [] = true
all_yield xs o (p ∷ ps) = both (yields xs o p) (all_yield xs o ps)

unfoldable pub is_preferred : List Overload → List Ty → Overload → Bool
is_preferred os xs o = both (fits o.params xs) (all_yield xs o os)

unfoldable pub chosen : List Overload → List Ty → List Overload → Judged
chosen os xs [] = none_fits
chosen os xs (o ∷ rest) = cond (is_preferred os xs o) (gives o.result) (chosen os xs rest)

unfoldable pub judge : List Overload → List Ty → Judged
judge os xs = chosen os xs os
