-- The pieces of a call by its rule's number: how many, and what stands at each place. Assumes nothing.
use Prim.Native.Nat.{ℕ, zero, suc, ◌-◌, ◌≤◌, ◌<◌}
use mathlib.Core.Path.{◌≡◌, refl, sym, ◌∙◌, ap, subst}
use mathlib.Core.Bool.{Bool, true, false, cond}
use mathlib.Core.List.{List, [], ◌∷◌, ◌++◌, map}
use native.Mathlib.Nat.{le_of_suc-le-suc, not-suc-le-zero}
use native.Mathlib.Omega.{arith}
use lib.Dec.{eqb}
use lib.ListN.{length, get_or, take, drop, length-map}
use borrow.Author.Tests.{lt-ltb, le-ltb}
use Rattle.held.specs.Held.{number_of}
use Rattle.conv.specs.Types.{Ty}
use Rattle.conv.specs.Rank.{both}
use Rattle.overload.specs.Overload.{Overload, fits}
use Rattle.overload.specs.Marks.{any_running, any_abstract}
use Rattle.overload.specs.Rows.{row_at, overloads_of, of_row, operand_count, Ruling, judge_row, judge_by}
use Rattle.overload.specs.Rows.Ruling.{by_row, address, indirection, on_atomic, comparing, uniform_load, array_length}
use Rattle.overload.specs.inner.Code.{operand, code_of}
use Rattle.overload.proofs.Counts.{count-few}
use Rattle.overload.proofs.Operands.{all_formed, codes_of, params_of}
use Rattle.text.specs.Text.{ascii}
use Rattle.table.specs.Denote.{type_at}
use Rattle.call_ty.specs.Calls.{operands_by, numbers, marks_of}
use Rattle.call_ty.proofs.Lists.{types-formed}
use Rattle.listing.specs.Listing.{no_overload, overload_at}
use Rattle.listing.proofs.EveryOverload.{no_other}
use Rattle.weigh.specs.Weigh.{first_by, first_miss}
use Rattle.phrase.specs.Phrase.{signature, ranks_text}
use Rattle.choice.specs.inner.Chosen.{chosen_by}
use Rattle.reasons.specs.Reasons.{line_end, miss_line, dropped_line, chosen_line, lost_line, broken_line, refused_pieces, accepted_pieces, pieces}
use Rattle.reasons.specs.inner.Told.{ruling_of, types_of, Told}
use Rattle.reasons.proofs.Coded.{ranks-coded}
use Rattle.pieces.proofs.Chosen.{chosen_at, chosen-below, some-miss, lost-coded}

-- RULES BY NUMBER

pub row-ruling : (k : ℕ) → k < 100 → ruling_of k ≡ by_row (row_at k)
unfolding ruling_of
row-ruling k h = rw (lt-ltb k 100 h)

-- a rule that is not listed has no piece where a call is accepted, and one where it is refused
abbrev Described : Ruling → List Ty → List Bool → Type 0
Described r ts ms = (pieces true r ts ms ≡ []) × (pieces false r ts ms ≡ broken_line r ts ∷ [])

pub described : (k : ℕ) → 100 ≤ k → (ts : List Ty) (ms : List Bool) → Described (ruling_of k) ts ms
unfolding ruling_of pieces accepted_pieces refused_pieces
described k h ts ms = rw (le-ltb k 100 h) (go (eqb k 101) (eqb k 104) (eqb k 107) (eqb k 108) (eqb k 109) (eqb k 110))
  where
    go : (a b c d e f : Bool)
        → Described (cond a array_length (cond b (on_atomic 0) (cond c comparing (cond d uniform_load (cond e address (cond f indirection (on_atomic 1))))))) ts ms
    go true b c d e f = (refl, refl)
    go false true c d e f = (refl, refl)
    go false false true d e f = (refl, refl)
    go false false false true e f = (refl, refl)
    go false false false false true f = (refl, refl)
    go false false false false false true = (refl, refl)
    go false false false false false false = (refl, refl)

-- so that one is asked for only where the call is refused
pub broken-only : (k : ℕ) → 100 ≤ k → (accepted : Bool) (ts : List Ty) (ms : List Bool) (j : ℕ) → j < length (pieces accepted (ruling_of k) ts ms)
    → (accepted ≡ false) × (broken_line (ruling_of k) ts ≡ get_or (pieces accepted (ruling_of k) ts ms) j [])
broken-only k h true ts ms j l = let e : length (pieces true (ruling_of k) ts ms) ≡ 0 = ap length (described k h ts ms).0 in absurd (omega arith)
broken-only k h false ts ms j l =
    let e = (described k h ts ms).1 in
    let n : length (pieces false (ruling_of k) ts ms) ≡ 1 = ap length e in
    let z : j ≡ 0 = omega arith in
    (refl, sym (ap (λ (ps : List (List ℕ)). get_or ps j []) e ∙ ap (λ (i : ℕ). get_or (broken_line (ruling_of k) ts ∷ []) i []) z))

-- a listed one has a piece for each overload of its row, and one before them
pub row_count : (k : ℕ) → k < 100 → (accepted : Bool) (ts : List Ty) (ms : List Bool) → length (pieces accepted (ruling_of k) ts ms) ≡ suc (length (overloads_of (row_at k)))
unfolding pieces accepted_pieces refused_pieces
row_count k h accepted ts ms = ap (λ (r : Ruling). length (pieces accepted r ts ms)) (row-ruling k h) ∙ go accepted
  where
    go : (b : Bool) → length (pieces b (by_row (row_at k)) ts ms) ≡ suc (length (overloads_of (row_at k)))
    go true = ap suc (length-map (overloads_of (row_at k)) (lost_line ts ms))
    go false = ap suc (length-map (overloads_of (row_at k)) (λ (o : Overload). miss_line o.params ts))

pub map_at : (g : Overload → List ℕ) (os : List Overload) (j : ℕ) → j < length os → get_or (map g os) j [] ≡ g (get_or os j no_overload)
map_at g [] j h = absurd (not-suc-le-zero h)
map_at g (o ∷ os) zero h = refl
map_at g (o ∷ os) (suc j) h = map_at g os j (le_of_suc-le-suc h)

some : (j : ℕ) → (j ≡ 0 → ⊥) → 1 ≤ j
some zero n = absurd (n refl)
some (suc j) n = omega arith

-- the operands' numbers, as the part of a longer list
pub codes-are : (w args cs : List ℕ) → take (length args) cs ≡ codes_of (types_of w args) → take (length args - 0) (drop 0 cs) ≡ codes_of (types_of w args)
codes-are w args cs h = let z : length args - 0 ≡ length args = omega arith in ap (λ (k : ℕ). take k cs) z ∙ h

-- A CALL OF A LISTED ROW that is told about

module _ (w : List ℕ) (n rule : ℕ) (accepted : Bool) (args : List ℕ) (t : Told w n rule accepted args) (h : rule < 100) where
  abbrev ts : List Ty
  ts = types_of w args

  abbrev ms : List Bool
  ms = marks_of args

  abbrev xs : List Ty
  xs = map operand (codes_of ts)

  abbrev os : List Overload
  os = overloads_of (row_at rule)

  abbrev place : ℕ
  place = first_by (chosen_by (any_running ms) (row_at rule) xs) os

  is-formed : all_formed ts ≡ true
  is-formed = types-formed w n t.sound (numbers args) t.under

  pub args_count : length args ≡ operand_count (row_at rule)
  unfolding operands_by
  args_count = t.count ∙ ap operands_by (row-ruling rule h)

  pub args-few : length args ≤ 4
  args-few = let a = args_count in let b = count-few rule in omega arith

  types-count : length ts ≡ length args
  types-count = length-map (numbers args) (type_at w) ∙ length-map args number_of

  judged : judge_by (ruling_of rule) ts ms ≡ judge_row (row_at rule) ts ms
  unfolding judge_by
  judged = ap (λ (r : Ruling). judge_by r ts ms) (row-ruling rule h)

  pub place-below : accepted ≡ true → place < length os
  place-below e = let g = t.gave e in chosen-below rule ts ms is-formed t.clash g.0 (sym judged ∙ g.1)

  pub in_row : (j : ℕ) → j < length (pieces accepted (ruling_of rule) ts ms) → 1 ≤ j → j - 1 < length os
  in_row j l k = let c = row_count rule h accepted ts ms in omega arith

  at_row : (j : ℕ) → j < length os → of_row (row_at rule) (overload_at (row_at rule) j)
  at_row j l = no_other rule (overload_at (row_at rule) j) j (l, refl)

  pub miss-below : accepted ≡ false → (j : ℕ) → j < length os → first_miss (overload_at (row_at rule) j).params xs < length args
  miss-below e j l =
      subst (λ (k : ℕ). first_miss (overload_at (row_at rule) j).params xs < k) types-count
      (some-miss rule ts ms is-formed t.clash (sym judged ∙ t.none e) (types-count ∙ args_count) (overload_at (row_at rule) j) (at_row j l))

  by-accepted : (b : Bool) → accepted ≡ b → (j : ℕ) → get_or (pieces accepted (ruling_of rule) ts ms) j [] ≡ get_or (pieces b (by_row (row_at rule)) ts ms) j []
  by-accepted b e j = λ i. get_or (pieces (e i) (row-ruling rule h i) ts ms) j []

  -- what stands first
  pub first-accepted : accepted ≡ true → get_or (pieces accepted (ruling_of rule) ts ms) 0 [] ≡ chosen_line (overload_at (row_at rule) place).params xs
  unfolding pieces accepted_pieces chosen_line
  first-accepted e =
      by-accepted true e 0
      ∙ ap (λ (o : Overload). chosen_line o.params ts) (chosen_at rule ts ms is-formed t.clash)
      ∙ ap (λ (rs : List ℕ). signature (overload_at (row_at rule) place).params ++ ascii ": chosen" ++ ranks_text rs ++ line_end)
      (ranks-coded (overload_at (row_at rule) place).params ts (params_of rule (overload_at (row_at rule) place) (at_row place (place-below e))) is-formed)

  pub first-refused : accepted ≡ false → (j : ℕ) → j ≡ 0 → get_or (pieces accepted (ruling_of rule) ts ms) j [] ≡ []
  unfolding pieces refused_pieces
  first-refused e j z = by-accepted false e j ∙ ap (λ (i : ℕ). get_or (pieces false (by_row (row_at rule)) ts ms) i []) z

  -- and then of each overload
  pub later-accepted : accepted ≡ true → (j : ℕ) → 1 ≤ j → j - 1 < length os
      → get_or (pieces accepted (ruling_of rule) ts ms) j [] ≡ cond (both (fits (overload_at (row_at rule) (j - 1)).params xs) (both (any_running ms) (any_abstract (overload_at (row_at rule) (j - 1)).params))) (dropped_line (overload_at (row_at rule) (j - 1)).params ms) []
  unfolding pieces accepted_pieces
  later-accepted e j k l =
      let s : j ≡ suc (j - 1) = omega arith in
      by-accepted true e j
      ∙ ap (λ (i : ℕ). get_or (pieces true (by_row (row_at rule)) ts ms) i []) s
      ∙ map_at (lost_line ts ms) os (j - 1) l
      ∙ lost-coded rule ts ms is-formed t.clash (overload_at (row_at rule) (j - 1)) (at_row (j - 1) l)

  pub later-refused : accepted ≡ false → (j : ℕ) → 1 ≤ j → j - 1 < length os
      → get_or (pieces accepted (ruling_of rule) ts ms) j [] ≡ miss_line (overload_at (row_at rule) (j - 1)).params ts
  unfolding pieces refused_pieces
  later-refused e j k l =
      let s : j ≡ suc (j - 1) = omega arith in
      by-accepted false e j
      ∙ ap (λ (i : ℕ). get_or (pieces false (by_row (row_at rule)) ts ms) i []) s
      ∙ map_at (λ (o : Overload). miss_line o.params ts) os (j - 1) l

  -- the same of what the code has at hand: the row's number, whether some operand is running, and the operands' numbers
  codes-count : length (codes_of ts) ≡ operand_count (row_at rule)
  codes-count = length-map ts code_of ∙ types-count ∙ args_count

  abbrev text : ℕ → List ℕ
  text j = get_or (pieces accepted (ruling_of rule) ts ms) j []

  module _ (row : ℕ) (er : row ≡ rule) (running : Bool) (eb : running ≡ any_running ms) (cs : List ℕ) (ec : cs ≡ codes_of ts) where
    carry : (M : ℕ → Bool → List ℕ → Type 0) → M rule (any_running ms) (codes_of ts) → M row running cs
    carry M x = subst (λ (r : ℕ). M r running cs) (sym er) (subst (λ (b : Bool). M rule b cs) (sym eb) (subst (λ (l : List ℕ). M rule (any_running ms) l) (sym ec) x))

    pub chosen-needs : accepted ≡ true
        → (length cs ≡ operand_count (row_at row)) × (first_by (chosen_by running (row_at row) (map operand cs)) (overloads_of (row_at row)) < length (overloads_of (row_at row)))
    chosen-needs e =
        carry (λ r b l. (length l ≡ operand_count (row_at r)) × (first_by (chosen_by b (row_at r) (map operand l)) (overloads_of (row_at r)) < length (overloads_of (row_at r))))
        (codes-count, place-below e)

    pub chosen-text : accepted ≡ true → (j : ℕ) → j ≡ 0
        → chosen_line (overload_at (row_at row) (first_by (chosen_by running (row_at row) (map operand cs)) (overloads_of (row_at row)))).params (map operand cs) ≡ text j
    chosen-text e j z =
        carry (λ r b l. chosen_line (overload_at (row_at r) (first_by (chosen_by b (row_at r) (map operand l)) (overloads_of (row_at r)))).params (map operand l) ≡ text j)
        (sym (first-accepted e) ∙ ap text (sym z))

    pub later-needs : (j : ℕ) → j < length (pieces accepted (ruling_of rule) ts ms) → (j ≡ 0 → ⊥) → (length cs ≡ operand_count (row_at row)) × (j - 1 < length (overloads_of (row_at row)))
    later-needs j l k = carry (λ r b l. (length l ≡ operand_count (row_at r)) × (j - 1 < length (overloads_of (row_at r)))) (codes-count, in_row j l (some j k))

    pub lost-text : accepted ≡ true → (j : ℕ) → j < length (pieces accepted (ruling_of rule) ts ms) → (j ≡ 0 → ⊥)
        → cond (both (fits (overload_at (row_at row) (j - 1)).params (map operand cs)) (both running (any_abstract (overload_at (row_at row) (j - 1)).params))) (dropped_line (overload_at (row_at row) (j - 1)).params ms) [] ≡ text j
    lost-text e j l k =
        carry
        (λ r b l. cond (both (fits (overload_at (row_at r) (j - 1)).params (map operand l)) (both b (any_abstract (overload_at (row_at r) (j - 1)).params))) (dropped_line (overload_at (row_at r) (j - 1)).params ms) [] ≡ text j)
        (sym (later-accepted e j (some j k) (in_row j l (some j k))))

    pub missed-needs : accepted ≡ false → (j : ℕ) → j < length (pieces accepted (ruling_of rule) ts ms) → (j ≡ 0 → ⊥) → first_miss (overload_at (row_at row) (j - 1)).params (map operand cs) < length cs
    missed-needs e j l k =
        carry (λ r b l. first_miss (overload_at (row_at r) (j - 1)).params (map operand l) < length l)
        (subst (λ (i : ℕ). first_miss (overload_at (row_at rule) (j - 1)).params xs < i) (sym (length-map ts code_of ∙ types-count)) (miss-below e (j - 1) (in_row j l (some j k))))

    pub missed-text : accepted ≡ false → (j : ℕ) → j < length (pieces accepted (ruling_of rule) ts ms) → (j ≡ 0 → ⊥) → miss_line (overload_at (row_at row) (j - 1)).params ts ≡ text j
    missed-text e j l k = carry (λ r b l. miss_line (overload_at (row_at r) (j - 1)).params ts ≡ text j) (sym (later-refused e j (some j k) (in_row j l (some j k))))
