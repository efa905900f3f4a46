-- All overloads of a row have one count of parameters, that of `operand_count`: computed over the families of all rows. Assumes nothing.
use Rattle.std.proofs.Common.{◌≡◌, ℕ, zero, suc, ◌<◌, ◌≤◌, Bool, true, T, eqb, leb, List, [], ◌∷◌, length, get_or, sym, ap, ◌∙◌, subst, le_of_suc-le-suc, not-suc-le-zero, eqb→eq, leb→le}
use lib.ListN.{length-map}
use Rattle.conv.specs.Rank.{both}
use Rattle.conv.proofs.Finite.{both_left, both_right}
use Rattle.overload.specs.Overload.{Overload}
use Rattle.overload.specs.Rows.{Row, Family, pattern_ty, no_row, rows, row_at, of_row, head_count, operand_count, Known}
use Rattle.overload.specs.Rows.Ruling.{by_row}
use Rattle.overload.specs.inner.Code.{no_family}
use Rattle.overload.proofs.Families.{every, every-at}
use Rattle.overload.proofs.Listing.{listed_of, of-family}

-- all families of a row have one count of parameters, which is four at most
alike : ℕ → List Family → Bool
alike k [] = true
alike k (f ∷ fs) = both (eqb (length f.params) k) (alike k fs)

count_test : Row → Bool
count_test r = both (alike (operand_count r) r.families) (leb (operand_count r) 4)

computed : T (every count_test rows)
unfolding every count_test alike both head_count rows row_at
computed = tt

no-count : T (count_test no_row)
unfolding count_test alike both head_count
no-count = tt

count-tests : (row : ℕ) → T (count_test (row_at row))
unfolding row_at
count-tests row = every-at count_test no_row rows no-count computed row

alike_at : (k : ℕ) (fs : List Family) → T (alike k fs) → (i : ℕ) → i < length fs → length (get_or fs i no_family).params ≡ k
unfolding alike
alike_at k [] h i l = absurd (not-suc-le-zero l)
alike_at k (f ∷ fs) h zero l = eqb→eq (length f.params) k (both_left _ _ h)
alike_at k (f ∷ fs) h (suc i) l = alike_at k fs (both_right (eqb (length f.params) k) _ h) i (le_of_suc-le-suc l)

-- of a family of a row
pub family-count : (row k : ℕ) → k < length (row_at row).families → length (get_or (row_at row).families k no_family).params ≡ operand_count (row_at row)
unfolding count_test
family-count row k h = alike_at (operand_count (row_at row)) (row_at row).families (both_left _ _ (count-tests row)) k h

-- THE LAW
pub one-count : (row : ℕ) (o : Overload) → of_row (row_at row) o → length o.params ≡ operand_count (row_at row)
one-count row o m =
    let r = listed_of (row_at row).families o m in
    let f = get_or (row_at row).families r.0 no_family in
    let q = of-family f o r.2 in
    ap (λ (p : Overload). length p.params) q.is ∙ length-map f.params (pattern_ty q.z q.t q.i) ∙ family-count row r.0 r.1

-- of a row that is known by its number
pub known-count : (r : Row) → Known (by_row r) → (o : Overload) → of_row r o → length o.params ≡ operand_count r
unfolding Known
known-count r k o m =
    subst (λ (x : Row). length o.params ≡ operand_count x) k (one-count r.number o (subst (λ (x : Row). of_row x o) (sym k) m))

-- no row has more than four parameters
pub count-few : (row : ℕ) → operand_count (row_at row) ≤ 4
unfolding count_test
count-few row = leb→le (operand_count (row_at row)) 4 (both_right (alike (operand_count (row_at row)) (row_at row).families) _ (count-tests row))
