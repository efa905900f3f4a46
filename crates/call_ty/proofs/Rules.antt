-- A rule of a name that wants no operand gives no value, or, in a profile above 0, a scalar: computed of every name. Assumes nothing.
use Prim.Native.Nat.{ℕ, ◌≤◌, ◌<◌}
use native.Mathlib.Omega.{arith}
use mathlib.Core.Path.{◌≡◌, refl, ap, subst}
use mathlib.Core.Bool.{Bool, true, false, ◌&&◌, ◌||◌, cond}
use mathlib.Core.List.{List, [], ◌∷◌}
use lib.Dec.{T, leb, ltb}
use borrow.Author.Tests.{leb-true, ltb-true}
use Rattle.overload.proofs.Results.{T_true}
use Rattle.conv.specs.Types.{Ty}
use Rattle.conv.specs.Types.Ty.{scalar, vec, mat, array, runtime, atomic, ptr, ref, frexp, modf, exchange}
use Rattle.conv.specs.Rank.{both, made, tag_of, first_of, second_of, same_ty}
use Rattle.conv.proofs.Finite.{both_left, both_right}
use Rattle.overload.proofs.Operands.{and_left, and_right}
use Rattle.overload.specs.Overload.{Judged, or, fits, no_more, less, same_tys, all_yield, is_preferred, chosen, judge}
use Rattle.overload.specs.Overload.Judged.{gives, none_fits}
use Rattle.overload.specs.Marks.{sifted, dropped}
use Rattle.overload.specs.Rows.{form_at, component_at, wrapped, over_second, at_sizes, over_set, of_families, head_count, judge_by}
use Rattle.names.specs.Names.{Rule, Name, names, same_bytes, within, rule_in, rule_of}
use Rattle.names.specs.Names.Rule.{ruling, storing, bitcast, barrier}
use Rattle.names.specs.Names.Named.{rule, unknown}
use Rattle.call_ty.specs.Calls.{operands_by, operands_of, given_by, Given}
use Rattle.call_ty.specs.Calls.Given.{judgment, nothing}

impossible : {P : Type 0} → ◌≡◌ {A = ℕ} 0 1 → P
impossible e = absurd (omega arith)

-- a scalar is given
gave_scalar : Judged → Bool
gave_scalar (gives (scalar s)) = ltb s 7
gave_scalar (gives (vec n s)) = false
gave_scalar (gives (mat c r s)) = false
gave_scalar (gives (array k t)) = false
gave_scalar (gives (runtime t)) = false
gave_scalar (gives (atomic s)) = false
gave_scalar (gives (ptr space access t)) = false
gave_scalar (gives (ref space access t)) = false
gave_scalar (gives (frexp t)) = false
gave_scalar (gives (modf t)) = false
gave_scalar (gives (exchange s)) = false
gave_scalar none_fits = false

-- an operand is wanted, or none: then there is no value, or the name is of a profile above 0 and a scalar is given
wants : ℕ → Rule → Bool
wants profile (ruling r) = leb 1 (operands_by r) || (leb 1 profile && gave_scalar (judge_by r [] []))
wants profile storing = true
wants profile bitcast = true
wants profile barrier = true

all_want : List Name → Bool
all_want [] = true
all_want (r ∷ rs) = both (wants r.profile r.rule) (all_want rs)

-- what such a rule gives
pub data Bare (profile : ℕ) (g : Given) : Type 0 where
  silent : g ≡ nothing → Bare profile g
  scalarly : (s : ℕ) → s < 7 → 1 ≤ profile → g ≡ judgment (gives (scalar s)) → Bare profile g

gave-scalar : (j : Judged) → gave_scalar j ≡ true → (s : ℕ) × (s < 7) × (j ≡ gives (scalar s))
unfolding gave_scalar
gave-scalar (gives (scalar s)) h = (s, ltb-true s 7 h, refl)
gave-scalar (gives (vec n s)) h = impossible (cc)
gave-scalar (gives (mat c r s)) h = impossible (cc)
gave-scalar (gives (array k t)) h = impossible (cc)
gave-scalar (gives (runtime t)) h = impossible (cc)
gave-scalar (gives (atomic s)) h = impossible (cc)
gave-scalar (gives (ptr space access t)) h = impossible (cc)
gave-scalar (gives (ref space access t)) h = impossible (cc)
gave-scalar (gives (frexp t)) h = impossible (cc)
gave-scalar (gives (modf t)) h = impossible (cc)
gave-scalar (gives (exchange s)) h = impossible (cc)
gave-scalar none_fits h = impossible (cc)

-- the name that has the rule, by its profile
Wanting : ℕ → Rule → Type 0
Wanting profile r = (first : ℕ) × (first ≤ profile) × (wants first r ≡ true)

want-in : (profile : ℕ) (rs : List Name) → T (all_want rs) → (s : List ℕ) (r : Rule) (m : Bool) → rule_in profile rs s ≡ rule r m → Wanting profile r
unfolding all_want rule_in within Wanting
want-in profile [] t s r m e = impossible (cc)
want-in profile (q ∷ qs) t s r m e = go (same_bytes q.text s) (within profile q.profile) refl e (want-in profile qs (both_right (wants q.profile q.rule) _ t) s r m)
  where
    here : wants q.profile q.rule ≡ true
    here = T_true (wants q.profile q.rule) (both_left (wants q.profile q.rule) (all_want qs) t)

    go : (b d : Bool) → within profile q.profile ≡ d → cond b (cond d (rule q.rule q.running) unknown) (rule_in profile qs s) ≡ rule r m → (rule_in profile qs s ≡ rule r m → Wanting profile r)
        → Wanting profile r
    go true true w p later =
        let z : q.rule ≡ r = cc in
        (q.profile, leb-true q.profile profile (and_right (ltb profile 2) _ w), subst (λ (x : Rule). wants q.profile x ≡ true) z here)
    go true false w p later = impossible (cc)
    go false d w p later = later p

name-wants : (profile : ℕ) (name : List ℕ) (r : Rule) (m : Bool) → rule_of profile name ≡ rule r m → Wanting profile r
unfolding names both sifted dropped wants all_want operands_by head_count gave_scalar made tag_of first_of second_of same_ty or fits no_more less same_tys all_yield is_preferred chosen judge form_at component_at wrapped over_second at_sizes over_set of_families judge_by
name-wants profile name r m e = want-in profile names tt name r m e

by-rule : (profile : ℕ) (r : Rule) → Wanting profile r → operands_of r ≡ 0 → (ts : List Ty) → Bare profile (given_by r ts [] [])
unfolding Wanting wants operands_by operands_of given_by
by-rule profile (ruling r) (first, l, t) e ts =
    let u : (leb 1 0 || (leb 1 first && gave_scalar (judge_by r [] []))) ≡ true = rw e at t in
    let g = gave-scalar (judge_by r [] []) (and_right (leb 1 first) _ u) in
    let k = leb-true 1 first (and_left (leb 1 first) _ u) in
    scalarly g.0 g.1 (omega arith) (ap judgment g.2)
by-rule profile storing w e ts = absurd (omega arith)
by-rule profile bitcast w e ts = absurd (omega arith)
by-rule profile barrier w e ts = silent refl

-- A CALL WITHOUT OPERANDS, in a profile
pub wants-none : (profile : ℕ) (name : List ℕ) (r : Rule) (m : Bool) → rule_of profile name ≡ rule r m → operands_of r ≡ 0 → (ts : List Ty) → Bare profile (given_by r ts [] [])
wants-none profile name r m n e ts = by-rule profile r (name-wants profile name r m n) e ts
