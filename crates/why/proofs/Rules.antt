-- The rulings by their numbers: those of operators, and those of the rules that names have. Assumes nothing.
use Prim.Native.Nat.{ℕ, zero, suc, ◌<◌}
use native.Mathlib.Omega.{arith}
use mathlib.Core.Path.{◌≡◌, refl, sym, ◌∙◌, ap, subst}
use mathlib.Core.Bool.{Bool, true, false, ◌&&◌, ◌||◌, cond}
use mathlib.Core.List.{List, [], ◌∷◌}
use lib.Dec.{eqb, ltb}
use lib.ListN.{length, get_or}
use borrow.Author.Tests.{lt-ltb, ltb-true, eqb-true}
use Rattle.overload.specs.Rows.{Row, rows, no_row, row_at, head_count, operand_count, Ruling, Known}
use Rattle.overload.specs.Rows.Ruling.{by_row, on_atomic, array_length}
use Rattle.overload.proofs.Operands.{and_left, and_right}
use Rattle.names.specs.Names.{Rule, loading, updating, exchanging, uniform_loading}
use Rattle.names.specs.Names.Rule.{ruling, storing, bitcast, barrier}
use Rattle.names.specs.inner.Table.{numbered}
use Rattle.names.proofs.Rules.{numbered-row}
use Rattle.ops_ty.specs.Ops.{unary_ruling, binary_rows, binary_row}
use Rattle.ops_ty.proofs.Ways.{binary-known}
use Rattle.call_ty.specs.Calls.{operands_by}
use Rattle.reasons.specs.inner.Told.{ruling_of}
use Rattle.why.specs.inner.Asks.{has_ruling}

-- OPERATORS

module _ (op : ℕ) where
  pub unary-first : op ≡ 0 → op < 5 → ruling_of 0 ≡ unary_ruling op
  unfolding ruling_of unary_ruling row_at rows
  unary-first e h = ap unary_ruling (sym e)

  pub unary-second : op ≡ 1 → op < 5 → ruling_of 1 ≡ unary_ruling op
  unfolding ruling_of unary_ruling row_at rows
  unary-second e h = ap unary_ruling (sym e)

  pub unary-third : op ≡ 2 → ruling_of 2 ≡ unary_ruling op
  unfolding ruling_of unary_ruling row_at rows
  unary-third e = ap unary_ruling (sym e)

  pub unary-address : op ≡ 3 → op < 5 → ruling_of 109 ≡ unary_ruling op
  unfolding ruling_of unary_ruling
  unary-address e h = ap unary_ruling (sym e)

  pub unary-indirection : op ≡ 4 → op < 5 → ruling_of 110 ≡ unary_ruling op
  unfolding ruling_of unary_ruling
  unary-indirection e h = ap unary_ruling (sym e)

-- what a computed test finds of each row of a list is so of the row at a place
all_rows : (Row → Bool) → List Row → Bool
all_rows g [] = true
all_rows g (r ∷ rs) = g r && all_rows g rs

every : (g : Row → Bool) (rs : List Row) → all_rows g rs ≡ true → (k : ℕ) → k < length rs → g (get_or rs k no_row) ≡ true
unfolding all_rows
every g [] h k l = absurd (omega arith)
every g (r ∷ rs) h zero l = and_left (g r) _ h
every g (r ∷ rs) h (suc k) l = every g rs (and_right (g r) _ h) k (omega arith)

pub row-ruling : (k : ℕ) → k < 100 → ruling_of k ≡ by_row (row_at k)
unfolding ruling_of
row-ruling k h = rw (lt-ltb k 100 h)

-- the rows of binary operators have numbers below 100, and two operands
abbrev low_of_two : Row → Bool
low_of_two r = ltb r.number 100 && eqb (operand_count r) 2

binary-computed : (op : ℕ) → op < 18 → low_of_two (binary_row op) ≡ true
unfolding binary_row all_rows head_count
binary-computed op h = every low_of_two binary_rows refl op h

pub binary-ruling : (op : ℕ) → op < 18 → ruling_of (binary_row op).number ≡ by_row (binary_row op)
unfolding Known
binary-ruling op h =
    row-ruling (binary_row op).number (ltb-true (binary_row op).number 100 (and_left (ltb (binary_row op).number 100) _ (binary-computed op h))) ∙ ap by_row (binary-known op)

pub binary-count : (op : ℕ) → op < 18 → 2 ≡ operands_by (by_row (binary_row op))
unfolding operands_by
binary-count op h = sym (eqb-true (operand_count (binary_row op)) 2 (and_right (ltb (binary_row op).number 100) _ (binary-computed op h)))

-- NAMES

-- the rules that are told about, by their numbers
pub has-ruling : (k : ℕ) → (ltb k 100 || eqb k 101 || eqb k 104 || eqb k 105 || eqb k 106 || eqb k 107 || eqb k 108) ≡ has_ruling (numbered k)
unfolding has_ruling numbered
has-ruling k = split (eqb k 100) refl
  where
    go : (a c f g h i j : Bool)
        → (a || c || f || g || h || i || j)
        ≡ has_ruling (cond a (ruling (by_row (row_at k))) (cond c (ruling array_length) (cond f loading (cond g updating (cond h storing (cond i exchanging (cond j uniform_loading barrier)))))))
    go true c f g h i j = refl
    go false true f g h i j = refl
    go false false true g h i j = refl
    go false false false true h i j = refl
    go false false false false true i j = refl
    go false false false false false true j = refl
    go false false false false false false true = refl
    go false false false false false false false = refl

    split : (b : Bool) → eqb k 100 ≡ b → (ltb k 100 || eqb k 101 || eqb k 104 || eqb k 105 || eqb k 106 || eqb k 107 || eqb k 108) ≡ has_ruling (numbered k)
    split true e = subst (λ (x : ℕ). (ltb x 100 || eqb x 101 || eqb x 104 || eqb x 105 || eqb x 106 || eqb x 107 || eqb x 108) ≡ has_ruling (numbered x)) (sym (eqb-true k 100 e)) refl
    split false e = rw e (go (ltb k 100) (eqb k 101) (eqb k 104) (eqb k 105) (eqb k 106) (eqb k 107) (eqb k 108))

-- a rule is judged by a ruling: its own, or, of atomicStore, that of the other calls on atomics with one value
unfoldable pub JudgedBy : Rule → Ruling → Type 0
JudgedBy (ruling r) q = r ≡ q
JudgedBy storing q = on_atomic 1 ≡ q
JudgedBy bitcast q = ⊥
JudgedBy barrier q = ⊥

no : {P : Type 0} → false ≡ true → P
no e = let z : ◌≡◌ {A = ℕ} 0 1 = cc in absurd (omega arith)

split : {P : Type 0} (b : Bool) → (b ≡ true → P) → (b ≡ false → P) → P
split true f g = f refl
split false f g = g refl

module _ (k : ℕ) where
  row-judged : k < 100 → JudgedBy (numbered k) (ruling_of k)
  unfolding JudgedBy
  row-judged h = rw (numbered-row k h) (sym (row-ruling k h))

  -- a literal number
  like : (j : ℕ) → eqb k j ≡ true → JudgedBy (numbered j) (ruling_of j) → JudgedBy (numbered k) (ruling_of k)
  like j e p = subst (λ (x : ℕ). JudgedBy (numbered x) (ruling_of x)) (sym (eqb-true k j e)) p

  pub judged-by : has_ruling (numbered k) ≡ true → JudgedBy (numbered k) (ruling_of k)
  unfolding JudgedBy numbered ruling_of
  judged-by h =
      split (ltb k 100) (λ q. row-judged (ltb-true k 100 q)) (λ a.
      split (eqb k 101) (λ q. like 101 q refl) (λ b.
      split (eqb k 104) (λ q. like 104 q refl) (λ c.
      split (eqb k 105) (λ q. like 105 q refl) (λ d.
      split (eqb k 106) (λ q. like 106 q refl) (λ e.
      split (eqb k 107) (λ q. like 107 q refl) (λ f.
      split (eqb k 108) (λ q. like 108 q refl) (λ g.
      let z : (ltb k 100 || eqb k 101 || eqb k 104 || eqb k 105 || eqb k 106 || eqb k 107 || eqb k 108) ≡ false = rw (a, b, c, d, e, f, g) in
      no (sym z ∙ has-ruling k ∙ h))))))))
