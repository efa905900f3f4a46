-- The rules that names have: each is the rule of its number, and a row among them is known by its own. Computed of every name. Assumes nothing.
use Prim.Native.Nat.{ℕ, ◌<◌, ◌≤◌}
use native.Mathlib.Omega.{arith}
use mathlib.Core.Path.{◌≡◌, refl, sym, ◌∙◌, ap, subst}
use mathlib.Core.Logic.{◌≢◌}
use mathlib.Core.Bool.{Bool, true, false, cond}
use mathlib.Core.List.{List, [], ◌∷◌, map}
use lib.Dec.{eqb, ltb}
use lib.ListN.{length, get_or-eq_default}
use borrow.Author.Tests.{lt-ltb, le-ltb, eq-eqb, ne_eqb, ltb-true, ltb-false}
use Rattle.overload.specs.Rows.{Row, rows, no_row, row_at, Ruling, Known}
use Rattle.overload.specs.Rows.Ruling.{by_row, address, indirection, on_atomic, comparing, uniform_load, array_length}
use Rattle.overload.proofs.Rulings.{row-known}
use Rattle.names.specs.Names.{Rule, loading, updating, exchanging, uniform_loading, Name, names, same_bytes, within, Named, rule_in, rule_of}
use Rattle.names.specs.Names.Rule.{ruling, storing, bitcast, barrier}
use Rattle.names.specs.Names.Named.{rule, unknown}
use Rattle.names.specs.inner.Table.{ruling_number, rule_number, numbered, replied}
use Rattle.std.proofs.Common.{Some, None}
use Rattle.names.specs.declared.NamedRule.{NamedRule}

-- what changes no rule of a list changes none that a name has there
abbrev Fixes : (Rule → Rule) → List Name → Type 0
Fixes f rs = map (λ (r : Name). f r.rule) rs ≡ map (λ (r : Name). r.rule) rs

fixed : (f : Rule → Rule) (profile : ℕ) (rs : List Name) → Fixes f rs → (s : List ℕ) (R : Rule) {m : Bool} → rule_in profile rs s ≡ rule R m → f R ≡ R
unfolding rule_in
fixed f profile [] h s R e = absurd (let z : ◌≡◌ {A = ℕ} 0 1 = cc in omega arith)
fixed f profile (r ∷ rs) h s R {m} e = go (same_bytes r.text s) (within profile r.profile) e (fixed f profile rs (cc) s R)
  where
    head : f r.rule ≡ r.rule
    head = cc

    go : (b d : Bool) → cond b (cond d (rule r.rule r.running) unknown) (rule_in profile rs s) ≡ rule R m → (rule_in profile rs s ≡ rule R m → f R ≡ R) → f R ≡ R
    go true true q later = let p : r.rule ≡ R = cc in rw p at head
    go true false q later = absurd (let z : ◌≡◌ {A = ℕ} 0 1 = cc in omega arith)
    go false d q later = later q

-- a rule that a name has is the one of its number
pub rule-numbered : (profile : ℕ) (s : List ℕ) (R : Rule) {m : Bool} → rule_of profile s ≡ rule R m → numbered (rule_number R) ≡ R
unfolding names ruling_number rule_number numbered rows row_at
rule-numbered profile s R e = fixed (λ (R : Rule). numbered (rule_number R)) profile names refl s R e

-- WHAT A REPLY SAYS of a name

impossible : {P : Type 0} → ◌≡◌ {A = ℕ} 0 1 → P
impossible z = absurd (omega arith)

module _ (profile : ℕ) (s : List ℕ) where
  pub said-rule : (k : NamedRule) → replied (rule_of profile s) ≡ Some k → rule_of profile s ≡ rule (numbered k.rule) k.running
  unfolding replied
  said-rule k e = go (rule_of profile s) refl e
    where
      go : (a : Named) → rule_of profile s ≡ a → replied a ≡ Some k → rule_of profile s ≡ rule (numbered k.rule) k.running
      go (rule R d) p q =
          let h : ◌≡◌ {A = NamedRule} (record { rule = rule_number R; running = d }) k = cc in
          let t : R ≡ numbered k.rule = sym (rule-numbered profile s R p) ∙ ap (λ (x : NamedRule). numbered x.rule) h in
          p ∙ (λ x. rule (t x) (h x).running)
      go unknown p q = impossible (cc)

  pub said-unknown : replied (rule_of profile s) ≡ None → rule_of profile s ≡ unknown
  unfolding replied
  said-unknown e = go (rule_of profile s) refl e
    where
      go : (a : Named) → rule_of profile s ≡ a → replied a ≡ None → rule_of profile s ≡ unknown
      go (rule R d) p q = impossible (cc)
      go unknown p q = p

-- a number by the tests that lead to its rule

module _ (k : ℕ) where
  pub numbered-row : k < 100 → numbered k ≡ ruling (by_row (row_at k))
  unfolding numbered
  numbered-row h = rw (lt-ltb k 100 h)

  pub numbered-bitcast : k ≡ 100 → numbered k ≡ bitcast
  unfolding numbered
  numbered-bitcast h = rw (le-ltb k 100 (omega arith), eq-eqb k 100 h)

  pub numbered-length : k ≡ 101 → numbered k ≡ ruling array_length
  unfolding numbered
  numbered-length h = rw (le-ltb k 100 (omega arith), ne_eqb k 100 (λ e. omega arith), eq-eqb k 101 h)

  -- of a literal number
  module _ (j : ℕ) (h : k ≡ j) where
    as-literal : numbered k ≡ numbered j
    as-literal = ap numbered h

  pub numbered-load : k ≡ 104 → numbered k ≡ loading
  unfolding numbered
  numbered-load h = as-literal 104 h

  pub numbered-update : k ≡ 105 → numbered k ≡ updating
  unfolding numbered
  numbered-update h = as-literal 105 h

  pub numbered-store : k ≡ 106 → numbered k ≡ storing
  unfolding numbered
  numbered-store h = as-literal 106 h

  pub numbered-compare : k ≡ 107 → numbered k ≡ exchanging
  unfolding numbered
  numbered-compare h = as-literal 107 h

  pub numbered-uniform : k ≡ 108 → numbered k ≡ uniform_loading
  unfolding numbered
  numbered-uniform h = as-literal 108 h

  -- and every other is a barrier's
  pub numbered-barrier : 100 ≤ k → k ≢ 100 → k ≢ 101 → k ≢ 104 → k ≢ 105 → k ≢ 106 → k ≢ 107 → k ≢ 108 → numbered k ≡ barrier
  unfolding numbered
  numbered-barrier h a b d e f g i =
      rw (le-ltb k 100 h, ne_eqb k 100 a, ne_eqb k 101 b, ne_eqb k 104 d, ne_eqb k 105 e, ne_eqb k 106 f, ne_eqb k 107 g, ne_eqb k 108 i)

-- and a ruling among them is known

again : Rule → Rule
again (ruling (by_row r)) = ruling (by_row (row_at r.number))
again (ruling address) = ruling address
again (ruling indirection) = ruling indirection
again (ruling (on_atomic k)) = ruling (on_atomic k)
again (ruling comparing) = ruling comparing
again (ruling uniform_load) = ruling uniform_load
again (ruling array_length) = ruling array_length
again storing = storing
again bitcast = bitcast
again barrier = barrier

name-again : (profile : ℕ) (s : List ℕ) (R : Rule) {m : Bool} → rule_of profile s ≡ rule R m → again R ≡ R
unfolding names again rows row_at
name-again profile s R e = fixed again profile names refl s R e

pub ruling-known : (profile : ℕ) (s : List ℕ) (r : Ruling) {m : Bool} → rule_of profile s ≡ rule (ruling r) m → Known r
unfolding again Known
ruling-known profile s (by_row r) e = let p : ruling (by_row (row_at r.number)) ≡ ruling (by_row r) = name-again profile s (ruling (by_row r)) e in cc
ruling-known profile s address e = tt
ruling-known profile s indirection e = tt
ruling-known profile s (on_atomic k) e = tt
ruling-known profile s comparing e = tt
ruling-known profile s uniform_load e = tt
ruling-known profile s array_length e = tt

-- so is a ruling that a number has

none : (k : ℕ) → length rows ≤ k → row_at k ≡ no_row
unfolding row_at
none k h = get_or-eq_default rows no_row h

no-row : Known (by_row no_row)
unfolding Known rows row_at
no-row = refl

row_number : (k : ℕ) → Known (by_row (row_at k))
row_number k = go (ltb k (length rows)) refl
  where
    go : (b : Bool) → ltb k (length rows) ≡ b → Known (by_row (row_at k))
    go true e = row-known k (ltb-true k (length rows) e)
    go false e = subst (λ (r : Row). Known (by_row r)) (sym (none k (ltb-false k (length rows) e))) no-row

described : (r : Ruling) → (q : Ruling) → Known q → ruling q ≡ ruling r → Known r
described r q k e = let p : q ≡ r = cc in subst Known p k

pub number-known : (k : ℕ) (r : Ruling) → numbered k ≡ ruling r → Known r
unfolding numbered Known
number-known k r e = go (ltb k 100) (eqb k 100) (eqb k 101) (eqb k 104) (eqb k 105) (eqb k 106) (eqb k 107) (eqb k 108) e
  where
    go : (a b c f g h i j : Bool)
        → cond a (ruling (by_row (row_at k))) (cond b bitcast (cond c (ruling array_length) (cond f loading (cond g updating (cond h storing (cond i exchanging (cond j uniform_loading barrier))))))) ≡ ruling r
        → Known r
    go true b c f g h i j q = described r (by_row (row_at k)) (row_number k) q
    go false true c f g h i j q = impossible (cc)
    go false false true f g h i j q = described r array_length tt q
    go false false false true g h i j q = described r (on_atomic 0) tt q
    go false false false false true h i j q = described r (on_atomic 1) tt q
    go false false false false false true i j q = impossible (cc)
    go false false false false false false true j q = described r comparing tt q
    go false false false false false false false true q = described r uniform_load tt q
    go false false false false false false false false q = impossible (cc)
