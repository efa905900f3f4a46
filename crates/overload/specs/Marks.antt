-- Document 02, K3: operands are known early, as const-expressions, or only when running. WGSL "Overload Resolution": "a candidate is dropped when some operand has an
-- abstract type after conversion and another operand is not a const-expression". Assumes nothing.
use Rattle.std.specs.Prelude.{Bool, false, cond, not, T, List, [], ◌∷◌}
use Rattle.conv.specs.Types.{Ty, abstract_ty}
use Rattle.conv.specs.Rank.{both}
use Rattle.overload.specs.Overload.{Overload, or}

-- THE MARKS of operands, in their order: true for one that is known only when running

unfoldable pub any_running : List Bool → Bool
any_running [] = false
any_running (m ∷ ms) = or m (any_running ms)

unfoldable pub any_abstract : List Ty → Bool
any_abstract [] = false
any_abstract (p ∷ ps) = or (abstract_ty p) (any_abstract ps)

-- DROPPED: after conversion an operand has the type of its parameter. One parameter is abstract, and another operand is running: the first and a later one, a later one and
-- the first, or two later ones
unfoldable pub dropped : List Ty → List Bool → Bool
dropped [] ms = false
dropped (p ∷ ps) [] = false
dropped (p ∷ ps) (m ∷ ms) = or (both (abstract_ty p) (any_running ms)) (or (both m (any_abstract ps)) (dropped ps ms))

abbrev pub remains : List Bool → Overload → Bool
remains ms o = not (dropped o.params ms)

-- WHAT REMAINS of a set of overloads by a test, and of a list of them
abbrev pub passing : (Overload → Bool) → (Overload → Type 0) → Overload → Type 0
passing g set o = set o × T (g o)

unfoldable pub sifted : (Overload → Bool) → List Overload → List Overload
sifted g [] = []
sifted g (o ∷ os) = cond (g o) (o ∷ sifted g os) (sifted g os)

abbrev pub remaining : List Bool → (Overload → Type 0) → Overload → Type 0
remaining ms set = passing (remains ms) set

abbrev pub remaining_in : List Bool → List Overload → List Overload
remaining_in ms os = sifted (remains ms) os

-- refusal 14: an operand that is running and abstract at any depth
unfoldable pub running_abstract : List Ty → List Bool → Bool
running_abstract [] ms = false
running_abstract (t ∷ ts) [] = false
running_abstract (t ∷ ts) (m ∷ ms) = or (both m (abstract_ty t)) (running_abstract ts ms)
