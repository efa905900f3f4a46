-- Demand 3 for calls on atomics, for workgroupUniformLoad (document 02, K5) and for arrayLength (K6), whose overloads are described: one for each pointer type that the rule takes.
-- Assumes nothing.
use Rattle.std.proofs.Common.{◌≡◌, ℕ, zero, suc, ◌<◌, Bool, true, false, cond, not, ◌&&◌, ◌||◌, T, eqb, leb, ◌≢◌, ◌⊎◌, List, [], ◌∷◌, sym, refl, ap, ◌∙◌, subst, inl, inr, ⊎_elim, arith, lt-ltb, eqb-true}
use Rattle.conv.specs.Types.{Ty, i32, u32, workgroup, storage, read, read_write, is_abstract, abstract_ty, is_value, is_runtime, formed}
use Rattle.conv.specs.Types.Ty.{scalar, vec, mat, array, runtime, atomic, ptr, ref, frexp, modf, exchange}
use Rattle.conv.specs.Rank.{shape_of, component_of, tag_of, is_pointer, first_of, second_of, element_of}
use Rattle.conv.specs.Rank.Shape.{other}
use Rattle.conv.proofs.Made.{remake, remade}
use Rattle.overload.specs.Overload.{Overload, or, fits, Resolved}
use Rattle.overload.specs.Overload.Judged.{gives, none_fits}
use Rattle.overload.specs.Marks.{any_abstract}
use Rattle.overload.specs.Rows.{to_atomic, values, atomic_of, is_atomic, loadable, loaded, uniform_load_of, to_runtime, array_length_of, takes_atomic, atomic_in, judge_atomic, takes_load, judge_load, takes_length, judge_length}
use Rattle.overload.proofs.Operands.{and_left, and_right, all_formed}
use Rattle.overload.proofs.Results.{T_true}
use Rattle.overload.proofs.Preference.{Settled}
use Rattle.overload.proofs.Described.{described, undescribed, described-none, described-settled, nothing_more}

clash : {P : Type 0} {b : Bool} → b ≡ true → b ≡ false → P
clash p q = absurd (let z : ◌≡◌ {A = ℕ} 0 1 = cc in omega arith)

none-gives : {P : Type 0} {R : Ty} → none_fits ≡ gives R → P
none-gives e = absurd (let z : ◌≡◌ {A = ℕ} 0 1 = cc in omega arith)

inner : {R Q : Ty} → gives R ≡ gives Q → R ≡ Q
inner e = cc

either : (a b : Bool) → (a || b) ≡ true → (a ≡ true) ⊎ (b ≡ true)
either true b h = inl refl
either false b h = inr h

pair : (a b : Bool) → a ≡ true → b ≡ true → (a && b) ≡ true
pair true b e h = h
pair false b e h = e

-- A POINTER, AN ATOMIC AND AN ARRAY WITHOUT COUNT, from their tests

pub pointer_is : (x : Ty) → is_pointer x ≡ true → x ≡ ptr (first_of x) (second_of x) (element_of x)
unfolding remake
pointer_is x h = sym (remade x) ∙ ap (λ (k : ℕ). remake k (first_of x) (second_of x) (component_of x) (element_of x)) (eqb-true (tag_of x) 6 h)

pub atomic-is : (t : Ty) → is_atomic t ≡ true → t ≡ atomic (first_of t)
unfolding remake
atomic-is t h = sym (remade t) ∙ ap (λ (k : ℕ). remake k (first_of t) (second_of t) (component_of t) (element_of t)) (eqb-true (tag_of t) 5 h)

runtime-is : (t : Ty) → is_runtime t ≡ true → t ≡ runtime (element_of t)
unfolding is_runtime element_of
runtime-is (runtime t) h = refl
runtime-is (scalar s) h = clash h refl
runtime-is (vec n s) h = clash h refl
runtime-is (mat c r s) h = clash h refl
runtime-is (array k t) h = clash h refl
runtime-is (atomic s) h = clash h refl
runtime-is (ptr space access t) h = clash h refl
runtime-is (ref space access t) h = clash h refl
runtime-is (frexp t) h = clash h refl
runtime-is (modf t) h = clash h refl
runtime-is (exchange s) h = clash h refl

-- the component of an atomic that there is

pub integer-small : (s : ℕ) → formed (atomic s) ≡ true → s < 7
unfolding formed
integer-small s h =
    ⊎_elim (λ e. let q = eqb-true s i32 e in omega arith) (λ e. let q = eqb-true s u32 e in omega arith) (either (eqb s i32) (eqb s u32) h)

pub integer-some : (s : ℕ) → formed (atomic s) ≡ true → s ≢ 0
unfolding formed
integer-some s h z =
    ⊎_elim (λ e. let q = eqb-true s i32 e in omega arith) (λ e. let q = eqb-true s u32 e in omega arith) (either (eqb s i32) (eqb s u32) h)

integer-concrete : (s : ℕ) → formed (atomic s) ≡ true → is_abstract s ≡ false
unfolding formed
integer-concrete s h =
    ⊎_elim (λ e. rw (eqb-true s i32 e)) (λ e. rw (eqb-true s u32 e)) (either (eqb s i32) (eqb s u32) h)

pub exchange-formed : (s : ℕ) → formed (atomic s) ≡ true → formed (exchange s) ≡ true
unfolding formed
exchange-formed s h = h

-- what a pointer that there is points to

pub pointed-formed : (space access : ℕ) (t : Ty) → formed (ptr space access t) ≡ true → formed t ≡ true
unfolding formed
pointed-formed space access t h = and_right (leb space storage && leb access read_write && is_value t && not (abstract_ty t)) _ h

pointed-concrete : (space access : ℕ) (t : Ty) → formed (ptr space access t) ≡ true → abstract_ty t ≡ false
unfolding formed
pointed-concrete space access t h =
    no (abstract_ty t) (and_right (leb space storage && leb access read_write && is_value t) _ (and_left (leb space storage && leb access read_write && is_value t && not (abstract_ty t)) _ h))
  where
    no : (b : Bool) → not b ≡ true → b ≡ false
    no true e = sym e
    no false e = refl

-- CALLS ON ATOMICS

-- a pointer that they take
abbrev Counter : Ty → Type 0
Counter x = (space s : ℕ) × ((space ≡ storage) ⊎ (space ≡ workgroup)) × T (formed (to_atomic space s)) × (x ≡ to_atomic space s)

to-counter : (x : Ty) → formed x ≡ true → takes_atomic x ≡ true → Counter x
to-counter x f h =
    let p = and_left (is_pointer x && (eqb (first_of x) storage || eqb (first_of x) workgroup) && eqb (second_of x) read_write) _ h in
    let a = and_right (is_pointer x && (eqb (first_of x) storage || eqb (first_of x) workgroup) && eqb (second_of x) read_write) (is_atomic (element_of x)) h in
    let q = and_left (is_pointer x && (eqb (first_of x) storage || eqb (first_of x) workgroup)) _ p in
    let w = eqb-true (second_of x) read_write (and_right (is_pointer x && (eqb (first_of x) storage || eqb (first_of x) workgroup)) _ p) in
    let e : x ≡ to_atomic (first_of x) (atomic_in x) = pointer_is x (and_left (is_pointer x) _ q) ∙ (λ i. ptr (first_of x) (w i) (atomic-is (element_of x) a i)) in (
      first_of x,
      atomic_in x,
      ⊎_elim (λ d. inl (eqb-true (first_of x) storage d)) (λ d. inr (eqb-true (first_of x) workgroup d)) (either (eqb (first_of x) storage) (eqb (first_of x) workgroup) (and_right (is_pointer x) _ q)),
      subst T (sym (ap formed (sym e) ∙ f)) tt,
      e,
    )

of-counter : (x : Ty) → Counter x → takes_atomic x ≡ true
unfolding tag_of first_of second_of element_of
of-counter x k = ap takes_atomic k.4 ∙ ⊎_elim (λ e. rw e refl) (λ e. rw e refl) k.2

-- its component
counter-formed : (x : Ty) → Counter x → formed (atomic (atomic_in x)) ≡ true
unfolding first_of element_of
counter-formed x c =
    ap (λ (y : Ty). formed (atomic (atomic_in y))) c.4 ∙ pointed-formed c.0 read_write (atomic c.1) (T_true (formed (to_atomic c.0 c.1)) c.3)

pub taken-formed : (x : Ty) → formed x ≡ true → takes_atomic x ≡ true → formed (atomic (atomic_in x)) ≡ true
taken-formed x f h = counter-formed x (to-counter x f h)

module _ (k : ℕ) (out : ℕ → Ty) where
  abbrev further : Ty → List Ty
  further x = values k (atomic_in x)

  abbrev given : Ty → Ty
  given x = out (atomic_in x)

  each-atomic : (o : Overload) → atomic_of k out o → (x : Ty) × Counter x × (shape_of x ≡ other) × (o ≡ record { params = x ∷ further x; result = given x })
  unfolding shape_of first_of element_of
  each-atomic o m = (to_atomic m.0 m.1, (m.0, m.1, m.2, m.3, refl), refl, m.4)

  all-atomic : (x : Ty) → Counter x → atomic_of k out (record { params = x ∷ further x; result = given x })
  unfolding first_of element_of
  all-atomic x c = (c.0, c.1, c.2, c.3, ap (λ (y : Ty). record { params = y ∷ further y; result = given y }) c.4)

  judge-first : (x : Ty) (xs : List Ty) → formed x ≡ true → (a b : Bool) → takes_atomic x ≡ a → fits (further x) xs ≡ b
      → Resolved (atomic_of k out) (x ∷ xs) (cond (a && b) (gives (given x)) none_fits)
  judge-first x xs f true true e h = described (atomic_of k out) Counter further given each-atomic all-atomic x xs (to-counter x f e) (subst T (sym h) tt)
  judge-first x xs f true false e h = undescribed (atomic_of k out) Counter further given each-atomic all-atomic x xs (λ c t. subst T h t)
  judge-first x xs f false b e h = undescribed (atomic_of k out) Counter further given each-atomic all-atomic x xs (λ c t. clash (of-counter x c) e)

  -- the rule as a function meets demand 3
  pub judge-atomic : (ts : List Ty) → all_formed ts ≡ true → Resolved (atomic_of k out) ts (judge_atomic k out ts)
  unfolding judge_atomic all_formed
  judge-atomic [] f = described-none (atomic_of k out) Counter further given each-atomic all-atomic
  judge-atomic (x ∷ xs) f = judge-first x xs (and_left (formed x) _ f) (takes_atomic x) (fits (further x) xs) refl refl

  pub atomic-settled : (ts : List Ty) → Settled (atomic_of k out) ts
  atomic-settled = described-settled (atomic_of k out) Counter further given each-atomic all-atomic

  -- what it gives is a type that there is
  module _ (good : (s : ℕ) → formed (atomic s) ≡ true → formed (out s) ≡ true) where
    formed-first : (x : Ty) → formed x ≡ true → (a b : Bool) → takes_atomic x ≡ a → (R : Ty) → cond (a && b) (gives (given x)) none_fits ≡ gives R → formed R ≡ true
    formed-first x f true true e R h = ap formed (sym (inner h)) ∙ good (atomic_in x) (counter-formed x (to-counter x f e))
    formed-first x f true false e R h = none-gives h
    formed-first x f false b e R h = none-gives h

    pub atomic-formed : (ts : List Ty) → all_formed ts ≡ true → (R : Ty) → judge_atomic k out ts ≡ gives R → formed R ≡ true
    unfolding judge_atomic all_formed
    atomic-formed [] f R h = none-gives h
    atomic-formed (x ∷ xs) f R h = formed-first x (and_left (formed x) _ f) (takes_atomic x) (fits (further x) xs) refl R h

-- none of their parameters is abstract

values-concrete : (k s : ℕ) → is_abstract s ≡ false → any_abstract (values k s) ≡ false
unfolding any_abstract values abstract_ty or
values-concrete zero s h = refl
values-concrete (suc k) s h = rw (h, values-concrete k s h)

pub atomic-concrete : (k : ℕ) (out : ℕ → Ty) (o : Overload) → atomic_of k out o → T (any_abstract o.params) → ⊥
unfolding any_abstract abstract_ty or
atomic-concrete k out o m h =
    let i = integer-concrete m.1 (pointed-formed m.0 read_write (atomic m.1) (T_true (formed (to_atomic m.0 m.1)) m.3)) in
    let none : any_abstract (to_atomic m.0 m.1 ∷ values k m.1) ≡ false = rw (i, values-concrete k m.1 i) in
    subst T none (subst (λ (p : Overload). T (any_abstract p.params)) m.4 h)

-- ONE OPERAND, by a test that says of a type that there is whether the rule takes it
module _ (set : Overload → Type 0) (takes : Ty → Type 0) (test : Ty → Bool) (out : Ty → Ty)
    (each : (o : Overload) → set o → (x : Ty) × takes x × (shape_of x ≡ other) × (o ≡ record { params = x ∷ []; result = out x }))
    (all : (x : Ty) → takes x → set (record { params = x ∷ []; result = out x }))
    (passed : (x : Ty) → formed x ≡ true → test x ≡ true → takes x) (passes : (x : Ty) → takes x → test x ≡ true) where
  tested : (x : Ty) → formed x ≡ true → (a : Bool) → test x ≡ a → Resolved set (x ∷ []) (cond a (gives (out x)) none_fits)
  unfolding fits
  tested x f true e = described set takes nothing_more out each all x [] (passed x f e) tt
  tested x f false e = undescribed set takes nothing_more out each all x [] (λ c t. clash (passes x c) e)

-- and a pointer has no abstract type
alone-concrete : (space access : ℕ) (t : Ty) (o : Overload) (out : Ty) → T (formed (ptr space access t)) → o ≡ record { params = ptr space access t ∷ []; result = out } → T (any_abstract o.params) → ⊥
unfolding any_abstract abstract_ty or
alone-concrete space access t o out f e h =
    let none : any_abstract (ptr space access t ∷ []) ≡ false = rw (pointed-concrete space access t (T_true (formed (ptr space access t)) f)) in
    subst T none (subst (λ (p : Overload). T (any_abstract p.params)) e h)

-- WORKGROUPUNIFORMLOAD

-- a pointer that it takes
abbrev Shared : Ty → Type 0
Shared x = (t : Ty) × T (loadable t) × T (formed (ptr workgroup read_write t)) × (x ≡ ptr workgroup read_write t)

abbrev loaded_by : Ty → Ty
loaded_by x = loaded (element_of x)

to-shared : (x : Ty) → formed x ≡ true → takes_load x ≡ true → Shared x
to-shared x f h =
    let p = and_left (is_pointer x && eqb (first_of x) workgroup && eqb (second_of x) read_write) _ h in
    let a = and_right (is_pointer x && eqb (first_of x) workgroup && eqb (second_of x) read_write) (loadable (element_of x)) h in
    let q = and_left (is_pointer x && eqb (first_of x) workgroup) _ p in
    let w = eqb-true (second_of x) read_write (and_right (is_pointer x && eqb (first_of x) workgroup) _ p) in
    let g = eqb-true (first_of x) workgroup (and_right (is_pointer x) _ q) in
    let e : x ≡ ptr workgroup read_write (element_of x) = pointer_is x (and_left (is_pointer x) _ q) ∙ (λ i. ptr (g i) (w i) (element_of x)) in
    (element_of x, subst T (sym a) tt, subst T (sym (ap formed (sym e) ∙ f)) tt, e)

of-shared : (x : Ty) → Shared x → takes_load x ≡ true
unfolding tag_of first_of second_of element_of
of-shared x k = ap takes_load k.3 ∙ T_true (loadable k.0) k.1

each-load : (o : Overload) → uniform_load_of o → (x : Ty) × Shared x × (shape_of x ≡ other) × (o ≡ record { params = x ∷ []; result = loaded_by x })
unfolding shape_of element_of
each-load o m = (ptr workgroup read_write m.0, (m.0, m.1, m.2, refl), refl, m.3)

all-load : (x : Ty) → Shared x → uniform_load_of (record { params = x ∷ []; result = loaded_by x })
unfolding element_of
all-load x c = (c.0, c.1, c.2, ap (λ (y : Ty). record { params = y ∷ []; result = loaded_by y }) c.3)

pub judge-load : (x : Ty) → formed x ≡ true → Resolved uniform_load_of (x ∷ []) (judge_load x)
unfolding judge_load
judge-load x f = tested uniform_load_of Shared takes_load loaded_by each-load all-load to-shared of-shared x f (takes_load x) refl

pub load-settled : (ts : List Ty) → Settled uniform_load_of ts
load-settled = described-settled uniform_load_of Shared nothing_more loaded_by each-load all-load

-- what it loads is a type that there is
loaded-formed : (t : Ty) (b : Bool) → is_atomic t ≡ b → formed t ≡ true → formed (cond b (scalar (first_of t)) t) ≡ true
unfolding formed
loaded-formed t true e f = let l = integer-small (first_of t) (ap formed (sym (atomic-is t e)) ∙ f) in lt-ltb (first_of t) 7 l
loaded-formed t false e f = f

shared-formed : (x : Ty) → Shared x → formed (element_of x) ≡ true
unfolding element_of
shared-formed x c = ap (λ (y : Ty). formed (element_of y)) c.3 ∙ pointed-formed workgroup read_write c.0 (T_true (formed (ptr workgroup read_write c.0)) c.2)

load_gives : (x : Ty) → formed x ≡ true → (a : Bool) → takes_load x ≡ a → (R : Ty) → cond a (gives (loaded_by x)) none_fits ≡ gives R → formed R ≡ true
load_gives x f true e R h = ap formed (sym (inner h)) ∙ loaded-formed (element_of x) (is_atomic (element_of x)) refl (shared-formed x (to-shared x f e))
load_gives x f false e R h = none-gives h

pub load-formed : (x : Ty) → formed x ≡ true → (R : Ty) → judge_load x ≡ gives R → formed R ≡ true
unfolding judge_load
load-formed x f R h = load_gives x f (takes_load x) refl R h

pub load-concrete : (o : Overload) → uniform_load_of o → T (any_abstract o.params) → ⊥
load-concrete o m = alone-concrete workgroup read_write m.0 o (loaded m.0) m.2 m.3

-- ARRAYLENGTH

-- a pointer that it takes
abbrev Unsized : Ty → Type 0
Unsized x = (access : ℕ) × (t : Ty) × ((access ≡ read) ⊎ (access ≡ read_write)) × T (formed (to_runtime access t)) × (x ≡ to_runtime access t)

abbrev length_by : Ty → Ty
length_by x = scalar u32

to-unsized : (x : Ty) → formed x ≡ true → takes_length x ≡ true → Unsized x
to-unsized x f h =
    let p = and_left (is_pointer x && eqb (first_of x) storage && (eqb (second_of x) read || eqb (second_of x) read_write)) _ h in
    let a = and_right (is_pointer x && eqb (first_of x) storage && (eqb (second_of x) read || eqb (second_of x) read_write)) (is_runtime (element_of x)) h in
    let q = and_left (is_pointer x && eqb (first_of x) storage) _ p in
    let w = and_right (is_pointer x && eqb (first_of x) storage) _ p in
    let g = eqb-true (first_of x) storage (and_right (is_pointer x) _ q) in
    let e : x ≡ to_runtime (second_of x) (element_of (element_of x)) = pointer_is x (and_left (is_pointer x) _ q) ∙ (λ i. ptr (g i) (second_of x) (runtime-is (element_of x) a i)) in (
      second_of x,
      element_of (element_of x),
      ⊎_elim (λ d. inl (eqb-true (second_of x) read d)) (λ d. inr (eqb-true (second_of x) read_write d)) (either (eqb (second_of x) read) (eqb (second_of x) read_write) w),
      subst T (sym (ap formed (sym e) ∙ f)) tt,
      e,
    )

of-unsized : (x : Ty) → Unsized x → takes_length x ≡ true
unfolding tag_of first_of second_of element_of is_runtime
of-unsized x k = ap takes_length k.4 ∙ ⊎_elim (λ e. rw e refl) (λ e. rw e refl) k.2

each-length : (o : Overload) → array_length_of o → (x : Ty) × Unsized x × (shape_of x ≡ other) × (o ≡ record { params = x ∷ []; result = length_by x })
unfolding shape_of
each-length o m = (to_runtime m.0 m.1, (m.0, m.1, m.2, m.3, refl), refl, m.4)

all-length : (x : Ty) → Unsized x → array_length_of (record { params = x ∷ []; result = length_by x })
all-length x c = (c.0, c.1, c.2, c.3, ap (λ (y : Ty). record { params = y ∷ []; result = length_by y }) c.4)

pub judge-length : (x : Ty) → formed x ≡ true → Resolved array_length_of (x ∷ []) (judge_length x)
unfolding judge_length
judge-length x f = tested array_length_of Unsized takes_length length_by each-length all-length to-unsized of-unsized x f (takes_length x) refl

pub length-settled : (ts : List Ty) → Settled array_length_of ts
length-settled = described-settled array_length_of Unsized nothing_more length_by each-length all-length

-- u32 is a type that there is
pub length-formed : (x : Ty) → formed x ≡ true → (R : Ty) → judge_length x ≡ gives R → formed R ≡ true
unfolding judge_length formed
length-formed x f R h = go (takes_length x) h
  where
    go : (a : Bool) → cond a (gives (scalar u32)) none_fits ≡ gives R → formed R ≡ true
    go true e = ap formed (sym (inner e))
    go false e = none-gives e

pub length-concrete : (o : Overload) → array_length_of o → T (any_abstract o.params) → ⊥
length-concrete o m = alone-concrete storage m.0 (runtime m.1) o (scalar u32) m.3 m.4
