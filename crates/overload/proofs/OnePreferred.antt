-- Document 02, K8, over all rows, K1, K5 and K6 included, listed and described, with and without marks: WHEREVER K3 LEAVES FITTING OVERLOADS, ONE IS PREFERRED TO EVERY OTHER LEFT.
-- Listed are the rows, K1's and K6's among them; described are the overloads of unary `&` and `*`, of K5's calls and of arrayLength. On any operands, types or not, whatever their
-- marks: nothing is asked of them, so refusal 14 and the refusals before it play no part. `Preferred` is the definition of `specs/Overload.antt`. Assumes nothing.
use Rattle.std.proofs.Common.{ℕ, Bool, T, List, [], sym, refl, subst}
use Rattle.conv.specs.Types.{Ty}
use Rattle.conv.specs.Types.Ty.{scalar, exchange}
use Rattle.overload.specs.Overload.{Overload, fits, Preferred}
use Rattle.overload.specs.Marks.{any_running, remains, remaining}
use Rattle.overload.specs.Rows.{Row, row_at, of_row, address_of, indirection_of, atomic_of, uniform_load_of, array_length_of, Ruling, overloads_by, Known}
use Rattle.overload.specs.Rows.Ruling.{by_row, address, indirection, on_atomic, comparing, uniform_load, array_length}
use Rattle.overload.proofs.Preference.{Settled, same-settled}
use Rattle.overload.proofs.Marks.{left-preferred, const-remains}
use Rattle.overload.proofs.Described.{address-settled, indirection-settled}
use Rattle.overload.proofs.Memory.{atomic-settled, load-settled, length-settled}
use Rattle.overload.proofs.Staying.{settled-left, address_stays, indirection-stays, atomic-stays, load-stays, length-stays}

-- THE THEOREM: where the overload p is left by the marks ms and fits the operands ts there is one that is preferred among all that are left
pub one-is-preferred : (r : Ruling) → Known r → (ms : List Bool) (ts : List Ty) (p : Overload) → remaining ms (overloads_by r) p → T (fits p.params ts)
    → (o : Overload) × Preferred (remaining ms (overloads_by r)) ts o
unfolding overloads_by Known
one-is-preferred (by_row r) k ms ts = subst (λ (x : Row). Settled (remaining ms (of_row x)) ts) k (left-preferred r.number ms ts)
one-is-preferred address k ms ts = settled-left ms address_of (address_stays ms) ts (address-settled ts)
one-is-preferred indirection k ms ts = settled-left ms indirection_of (indirection-stays ms) ts (indirection-settled ts)
one-is-preferred (on_atomic j) k ms ts = settled-left ms (atomic_of j scalar) (atomic-stays ms j scalar) ts (atomic-settled j scalar ts)
one-is-preferred comparing k ms ts = settled-left ms (atomic_of 2 exchange) (atomic-stays ms 2 exchange) ts (atomic-settled 2 exchange ts)
one-is-preferred uniform_load k ms ts = settled-left ms uniform_load_of (load-stays ms) ts (load-settled ts)
one-is-preferred array_length k ms ts = settled-left ms array_length_of (length-stays ms) ts (length-settled ts)

-- of the row of any number
pub row-one-is-preferred : (row : ℕ) (ms : List Bool) (ts : List Ty) (p : Overload) → remaining ms (of_row (row_at row)) p → T (fits p.params ts)
    → (o : Overload) × Preferred (remaining ms (of_row (row_at row))) ts o
row-one-is-preferred row ms ts = left-preferred row ms ts

-- without marks, among all overloads
unmarked : (o : Overload) → T (remains [] o)
unfolding any_running
unmarked o = subst T (sym (const-remains o [] refl)) tt

pub one-is-preferred-unmarked : (r : Ruling) → Known r → (ts : List Ty) (p : Overload) → overloads_by r p → T (fits p.params ts)
    → (o : Overload) × Preferred (overloads_by r) ts o
one-is-preferred-unmarked r k ts = same-settled (remaining [] (overloads_by r)) (overloads_by r) ts (λ p f m. m.0) (λ p f m. (m, unmarked p)) (one-is-preferred r k [] ts)
