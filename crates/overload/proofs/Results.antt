-- The result of every overload of a row is a type that there is; a bare one is a scalar, a vector or a matrix. Computed over all rows.
-- Assumes nothing.
use Rattle.std.proofs.Common.{◌≡◌, ℕ, Bool, true, false, not, T, List, [], ◌∷◌, sym, refl, ap, ◌∙◌, subst, ⊎_elim}
use mathlib.Core.List.Memᴰ
use mathlib.Core.List.{Memᴰ}
use Rattle.conv.specs.Types.{Ty, formed, is_runtime, is_fract}
use Rattle.conv.specs.Rank.{both, made}
use Rattle.conv.proofs.Finite.{both_left, both_right}
use Rattle.overload.specs.Overload.{Overload, or, listed, judge, Resolved}
use Rattle.overload.specs.Marks.{sifted}
use Rattle.overload.specs.Overload.Judged.{gives}
use Rattle.overload.specs.Rows.{Row, no_row, form_at, component_at, wrapped, over_second, at_sizes, over_set, of_families, overloads_of, row_at, rows}
use Rattle.overload.proofs.Families.{every, every-at}
use Rattle.overload.proofs.Judge.{judge-gives}
use Rattle.overload.proofs.Sieve.{of-sifted}

-- a result type is no array without count, which stands for types of another shape
result_test : Overload → Bool
result_test o = both (formed o.result) (not (is_runtime o.result))

all_results : List Overload → Bool
all_results [] = true
all_results (o ∷ os) = both (result_test o) (all_results os)

row_results : Row → Bool
row_results r = all_results (overloads_of r)

computed : T (every row_results rows)
unfolding every row_results all_results result_test both or formed is_runtime is_fract made form_at component_at wrapped over_second at_sizes over_set of_families rows row_at
computed = tt

no-results : T (row_results no_row)
unfolding row_results all_results of_families
no-results = tt

all_results_lem : (row : ℕ) → T (all_results (overloads_of (row_at row)))
unfolding row_at row_results
all_results_lem row = every-at row_results no_row rows no-results computed row

result-at : (os : List Overload) → T (all_results os) → (o : Overload) → Memᴰ o os → T (result_test o)
unfolding all_results
result-at [] h o m = absurd (Memᴰ.not-nil m)
result-at (p ∷ ps) h o m =
    ⊎_elim (λ e. subst (λ (q : Overload). T (result_test q)) (sym e) (both_left _ _ h)) (λ n. result-at ps (both_right (result_test p) _ h) o n) (Memᴰ.cases_cons m)

pub T_true : (b : Bool) → T b → b ≡ true
T_true true t = refl
T_true false t = absurd t

resolved-result : (os : List Overload) (ts : List Ty) (R : Ty) → Resolved (listed os) ts (gives R) → (o : Overload) × Memᴰ o os × (R ≡ o.result)
unfolding Resolved
resolved-result os ts R q = (q.0, q.1.among, q.2)

-- what those overloads of a row give that pass a test
pub gives-formed : (row : ℕ) (g : Overload → Bool) (ts : List Ty) (R : Ty) → judge (sifted g (overloads_of (row_at row))) ts ≡ gives R → (formed R ≡ true) × T (not (is_runtime R))
unfolding result_test
gives-formed row g ts R e =
    let os = sifted g (overloads_of (row_at row)) in
    let q = resolved-result os ts R (judge-gives os ts R e) in
    let t = result-at (overloads_of (row_at row)) (all_results_lem row) q.0 (of-sifted g (overloads_of (row_at row)) q.0 q.1).0 in
    (ap formed q.2 ∙ T_true (formed q.0.result) (both_left _ _ t), subst (λ (r : Ty). T (not (is_runtime r))) (sym q.2) (both_right (formed q.0.result) _ t))
