-- `ruled::code_at` meets its contract: by the kind of the entry, whose words are those of its type. Assumes nothing.
use native.Mathlib.Omega.{arith}
use Rattle.ruled.proofs.Codes.{scalar-code, vec-read, mat-read, ref-read, other-read}
use Rattle.ruled.proofs.code_at.Goals as goal

pub returns-then-t-lt-SCALARS : goal.returns-then-t-lt-SCALARS
returns-then-t-lt-SCALARS c = scalar-code c.args.words.now c.args.n c.requires.0 c.args.t c.requires.1 c.if-t-lt-SCALARS.true

pub overflow_sub-result : goal.overflow_sub-result
overflow_sub-result c =
    let v = vec-read c.args.words.now c.args.n c.requires.0 c.args.t c.requires.1 c.entry_at-e.result c.entry_at-e.ensures c.if-e-eq-KIND_VEC.true in
    omega (arith, v.0, v.1, v.2)

pub overflow_mul-result : goal.overflow_mul-result
overflow_mul-result c =
    let v = vec-read c.args.words.now c.args.n c.requires.0 c.args.t c.requires.1 c.entry_at-e.result c.entry_at-e.ensures c.if-e-eq-KIND_VEC.true in
    omega (arith, v.0, v.1, v.2)

pub overflow_add-result : goal.overflow_add-result
overflow_add-result c =
    let v = vec-read c.args.words.now c.args.n c.requires.0 c.args.t c.requires.1 c.entry_at-e.result c.entry_at-e.ensures c.if-e-eq-KIND_VEC.true in
    omega (arith, v.0, v.1, v.2)

pub overflow_cast-result-then-e-eq-KIND_VEC : goal.overflow_cast-result-then-e-eq-KIND_VEC
overflow_cast-result-then-e-eq-KIND_VEC c =
    let v = vec-read c.args.words.now c.args.n c.requires.0 c.args.t c.requires.1 c.entry_at-e.result c.entry_at-e.ensures c.if-e-eq-KIND_VEC.true in
    omega (arith, v.0, v.1, v.2)

pub returns-then-e-eq-KIND_VEC : goal.returns-then-e-eq-KIND_VEC
returns-then-e-eq-KIND_VEC c =
    let v = vec-read c.args.words.now c.args.n c.requires.0 c.args.t c.requires.1 c.entry_at-e.result c.entry_at-e.ensures c.if-e-eq-KIND_VEC.true in
    v.3

pub overflow_mul-result-then-e-eq-KIND_MAT : goal.overflow_mul-result-then-e-eq-KIND_MAT
overflow_mul-result-then-e-eq-KIND_MAT c =
    let v = mat-read c.args.words.now c.args.n c.requires.0 c.args.t c.requires.1 c.entry_at-e.result c.entry_at-e.ensures c.if-e-eq-KIND_MAT.true in
    omega (arith, v.0, v.1, v.2, v.3, v.4)

pub overflow_add-result-then-e-eq-KIND_MAT : goal.overflow_add-result-then-e-eq-KIND_MAT
overflow_add-result-then-e-eq-KIND_MAT c =
    let v = mat-read c.args.words.now c.args.n c.requires.0 c.args.t c.requires.1 c.entry_at-e.result c.entry_at-e.ensures c.if-e-eq-KIND_MAT.true in
    omega (arith, v.0, v.1, v.2, v.3, v.4)

pub overflow_sub-result-then-e-eq-KIND_MAT : goal.overflow_sub-result-then-e-eq-KIND_MAT
overflow_sub-result-then-e-eq-KIND_MAT c =
    let v = mat-read c.args.words.now c.args.n c.requires.0 c.args.t c.requires.1 c.entry_at-e.result c.entry_at-e.ensures c.if-e-eq-KIND_MAT.true in
    omega (arith, v.0, v.1, v.2, v.3, v.4)

pub overflow_mul-result-then-e-eq-KIND_MAT-2 : goal.overflow_mul-result-then-e-eq-KIND_MAT-2
overflow_mul-result-then-e-eq-KIND_MAT-2 c =
    let v = mat-read c.args.words.now c.args.n c.requires.0 c.args.t c.requires.1 c.entry_at-e.result c.entry_at-e.ensures c.if-e-eq-KIND_MAT.true in
    omega (arith, v.0, v.1, v.2, v.3, v.4)

pub overflow_add-result-then-e-eq-KIND_MAT-2 : goal.overflow_add-result-then-e-eq-KIND_MAT-2
overflow_add-result-then-e-eq-KIND_MAT-2 c =
    let v = mat-read c.args.words.now c.args.n c.requires.0 c.args.t c.requires.1 c.entry_at-e.result c.entry_at-e.ensures c.if-e-eq-KIND_MAT.true in
    omega (arith, v.0, v.1, v.2, v.3, v.4)

pub overflow_cast-result-then-e-eq-KIND_MAT : goal.overflow_cast-result-then-e-eq-KIND_MAT
overflow_cast-result-then-e-eq-KIND_MAT c =
    let v = mat-read c.args.words.now c.args.n c.requires.0 c.args.t c.requires.1 c.entry_at-e.result c.entry_at-e.ensures c.if-e-eq-KIND_MAT.true in
    omega (arith, v.0, v.1, v.2, v.3, v.4)

pub returns-then-e-eq-KIND_MAT : goal.returns-then-e-eq-KIND_MAT
returns-then-e-eq-KIND_MAT c =
    let v = mat-read c.args.words.now c.args.n c.requires.0 c.args.t c.requires.1 c.entry_at-e.result c.entry_at-e.ensures c.if-e-eq-KIND_MAT.true in
    v.5

pub returns-then-e-eq-KIND_REF : goal.returns-then-e-eq-KIND_REF
returns-then-e-eq-KIND_REF c =
    ref-read c.args.words.now c.args.n c.requires.0 c.args.t c.requires.1 c.entry_at-e.result c.entry_at-e.ensures c.if-e-eq-KIND_REF.true

pub returns : goal.returns
returns c =
    other-read c.args.words.now c.args.n c.requires.0 c.args.t c.requires.1 c.entry_at-e.result c.entry_at-e.ensures c.if-t-lt-SCALARS.false c.if-e-eq-KIND_VEC.false c.if-e-eq-KIND_MAT.false c.if-e-eq-KIND_REF.false
