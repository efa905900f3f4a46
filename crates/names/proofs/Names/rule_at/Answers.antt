-- `names::Names::rule_at` meets its contract: the columns behind the letters of a line are its name's. Assumes nothing.
use Prim.Native.Nat.{ℕ, ◌≤◌, ◌<◌}
use mathlib.Core.List.{List, []}
use mathlib.Core.Path.{◌≡◌, sym, ◌∙◌, ap}
use native.Mathlib.Omega.{arith}
use lib.Dec.{eqb}
use lib.ListN.{get_or, length}
use Rattle.std.proofs.Common.{Some}
use Rattle.names.specs.Names.{count}
use Rattle.names.specs.inner.Table.{name_table, line, replied}
use Rattle.names.proofs.Lines.{at, rows-length, line_at, number_in, profile-in, mark-in}
use Rattle.names.proofs.Found.{row-past, row_here, row-later, row-unknown}
use Rattle.names.proofs.Names.rule_at.Goals.{then-profile-ge-PROFILES-via-then-profile-ge-PROFILES, then-profile-ge-PROFILES-via-else-profile-ge-PROFILES+then-profile-wide}
use Rattle.names.proofs.Names.rule_at.Goals as goal

-- the line that is lent
module _ (rows : List (List ℕ)) (lent : rows ≡ name_table) (row : ℕ) (h : row < length rows) (l : List ℕ) (e : l ≡ get_or rows row []) where
  row_in : row < count
  row_in = omega (arith, rows-length rows lent)

  is_line : l ≡ line (at row)
  is_line = e ∙ line_at rows lent row [] row_in

pub returns-in_err-line : goal.returns-in_err-line
unfolding replied
returns-in_err-line c = let a = c.args in
    let n : count ≤ a.row = omega (arith, c.in_err-line.ensures.lookup.3, rows-length a.self.now.rows a.self.now.stand) in
    c.from_residual.ensures ∙ sym (ap replied (row-past a.profile a.row n))

pub returns-then-profile-ge-PROFILES : goal.returns-then-profile-ge-PROFILES
unfolding replied
returns-then-profile-ge-PROFILES c = let a = c.args in
    let f = c.in_ok-line.ensures.lookup.3 in
    let s = is_line a.self.now.rows a.self.now.stand a.row f.0 c.in_ok-line.line.now (f.1 []) in
    let h = row_in a.self.now.rows a.self.now.stand a.row f.0 c.in_ok-line.line.now (f.1 []) in
    elim c.then-profile-ge-PROFILES.branch [
      | then-profile-ge-PROFILES-via-then-profile-ge-PROFILES w ↦ sym (ap replied (row-unknown a.profile a.row w.if-profile-ge-PROFILES.true))
      | then-profile-ge-PROFILES-via-else-profile-ge-PROFILES+then-profile-wide w ↦
          sym (ap replied (row-later a.profile a.row h (omega (arith, w.wide.ensures, w.if-profile-wide.true, ap (λ (l : List ℕ). get_or l 33 0) s, profile-in (at a.row)))))
    ]

pub returns : goal.returns
unfolding replied
returns c = let a = c.args in
    let f = c.in_ok-line.ensures.lookup.3 in
    let s = is_line a.self.now.rows a.self.now.stand a.row f.0 c.in_ok-line.line.now (f.1 []) in
    let h = row_in a.self.now.rows a.self.now.stand a.row f.0 c.in_ok-line.line.now (f.1 []) in
    let n = ap (λ (l : List ℕ). get_or l 32 0) s ∙ number_in (at a.row) in
    let m = ap (λ (l : List ℕ). eqb (get_or l 34 0) 1) s ∙ mark-in (at a.row) in
    (λ i. Some (record { rule = n i; running = m i }))
    ∙ sym (ap replied (row_here a.profile a.row h c.if-profile-ge-PROFILES.false (omega (arith, c.wide.ensures, c.if-profile-wide.false, ap (λ (l : List ℕ). get_or l 33 0) s, profile-in (at a.row)))))
