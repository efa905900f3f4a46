-- Only one reply meets the promise of each function for the crates above: a name stands at one row, or nowhere. Assumes nothing.
use Prim.Native.Nat.{ℕ}
use mathlib.Core.Path.{◌≡◌, refl, sym, ◌∙◌, ap}
use mathlib.Core.Bool.{Bool}
use mathlib.Core.List.{List}
use Rattle.std.proofs.Common.{Option, Some, None}
use Rattle.names.specs.declared.NamedRule.{NamedRule}
use Rattle.names.specs.Names.{rule_of}
use Rattle.names.specs.inner.Table.{StandsAt, has_name, rule_at, replied}
use Rattle.names.proofs.Order.{once}

pub rule-of-one : (profile : ℕ) (name : List ℕ) (r q : Option NamedRule) → r ≡ replied (rule_of profile name) → q ≡ replied (rule_of profile name) → r ≡ q
rule-of-one profile name r q h k = h ∙ sym k

pub rule-at-one : (profile row : ℕ) (r q : Option NamedRule) → r ≡ replied (rule_at profile row) → q ≡ replied (rule_at profile row) → r ≡ q
rule-at-one profile row r q h k = h ∙ sym k

pub has-name-one : (row : ℕ) (name : List ℕ) (r q : Bool) → r ≡ has_name row name → q ≡ has_name row name → r ≡ q
has-name-one row name r q h k = h ∙ sym k

pub find-one : (name : List ℕ) (r q : Option ℕ) → StandsAt name r → StandsAt name q → r ≡ q
unfolding StandsAt
find-one name (Some j) (Some k) h i = ap Some (once j k h.0 i.0 (h.1 ∙ sym i.1))
find-one name (Some j) None h i = absurd (i j h.0 h.1)
find-one name None (Some k) h i = absurd (h k i.0 i.1)
find-one name None None h i = refl
