-- The type that a number of the table stands for. Assumes nothing.
use Rattle.std.specs.Prelude.{ℕ, cond, List, eqb, ltb}
use Rattle.conv.specs.Types.{Ty}
use Rattle.conv.specs.Types.Ty.{scalar, vec, mat, array, runtime, atomic, ptr, ref, frexp, modf, exchange}
use Rattle.table.specs.Table.{scalars, kind_vec, kind_mat, kind_array, kind_runtime, kind_atomic, kind_ptr, kind_ref, kind_frexp, kind_modf, kind_exchange, chain}
use Rattle.table.specs.declared.Entry.{Entry}

-- an entry above the scalars, over the type t of its elem. A kind that no row has, which no sound table holds, stands for no type that there is
unfoldable pub made : Entry → Ty → Ty
made e t =
    cond (eqb e.kind kind_vec) (vec e.p e.elem)
    (cond (eqb e.kind kind_mat) (mat e.p e.q e.elem)
    (cond (eqb e.kind kind_array) (array e.p t)
    (cond (eqb e.kind kind_runtime) (runtime t)
    (cond (eqb e.kind kind_atomic) (atomic e.elem)
    (cond (eqb e.kind kind_ptr) (ptr e.p e.q t)
    (cond (eqb e.kind kind_ref) (ref e.p e.q t)
    (cond (eqb e.kind kind_frexp) (frexp t)
    (cond (eqb e.kind kind_modf) (modf t)
    (cond (eqb e.kind kind_exchange) (exchange e.elem) (scalar e.kind))))))))))

-- the type of entry i
unfoldable pub type_at : List ℕ → ℕ → Ty
type_at w i = chain scalar made w i

-- the type that an entry stands for over a table: a scalar kind is that scalar
unfoldable pub ty_of : List ℕ → Entry → Ty
ty_of w e = cond (ltb e.kind scalars) (scalar e.kind) (made e (type_at w e.elem))

-- the words kind, p and q of a type's entry
unfoldable pub kind_of : Ty → ℕ
kind_of (scalar s) = s
kind_of (vec n s) = kind_vec
kind_of (mat c r s) = kind_mat
kind_of (array k t) = kind_array
kind_of (runtime t) = kind_runtime
kind_of (atomic s) = kind_atomic
kind_of (ptr space access t) = kind_ptr
kind_of (ref space access t) = kind_ref
kind_of (frexp t) = kind_frexp
kind_of (modf t) = kind_modf
kind_of (exchange s) = kind_exchange

unfoldable pub p_of : Ty → ℕ
p_of (scalar s) = 0
p_of (vec n s) = n
p_of (mat c r s) = c
p_of (array k t) = k
p_of (runtime t) = 0
p_of (atomic s) = 0
p_of (ptr space access t) = space
p_of (ref space access t) = space
p_of (frexp t) = 0
p_of (modf t) = 0
p_of (exchange s) = 0

unfoldable pub q_of : Ty → ℕ
q_of (scalar s) = 0
q_of (vec n s) = 0
q_of (mat c r s) = r
q_of (array k t) = 0
q_of (runtime t) = 0
q_of (atomic s) = 0
q_of (ptr space access t) = access
q_of (ref space access t) = access
q_of (frexp t) = 0
q_of (modf t) = 0
q_of (exchange s) = 0
