-- What the entries of a pointer and of what it points to say of its type. Assumes nothing.
use Prim.Native.Nat.{ℕ, ◌≤◌, ◌<◌}
use native.Mathlib.Omega.{arith}
use mathlib.Core.Path.{◌≡◌, refl, sym, ◌∙◌, ap}
use mathlib.Core.Logic.{◌≢◌}
use mathlib.Core.Bool.{Bool, true, false, ◌&&◌, ◌||◌, not, cond}
use mathlib.Core.List.{List}
use lib.Dec.{eqb}
use borrow.Author.Tests.{ltb-true, eq-eqb, eqb-true, ne_eqb}
use Rattle.std.specs.Prelude.{Option, Some, None}
use Rattle.conv.specs.Types.{Ty, u32, workgroup, storage, read, read_write, is_runtime, holds_atomic, formed}
use Rattle.conv.specs.Types.Ty.{scalar, vec, mat, array, runtime, atomic, ptr, ref, frexp, modf, exchange}
use Rattle.conv.specs.Rank.{tag_of, is_pointer, first_of, second_of, element_of}
use Rattle.overload.specs.Overload.Judged.{gives, none_fits}
use Rattle.overload.specs.Rows.{is_atomic, loadable, loaded, takes_atomic, atomic_in, takes_load, judge_load, takes_length, judge_length}
use Rattle.overload.proofs.Operands.{and_right}
use Rattle.overload.proofs.Memory.{integer-small}
use Rattle.table.specs.Table.{scalars, kind_runtime, kind_atomic, kind_ptr, entry_at, Sound}
use Rattle.table.specs.Denote.{type_at, kind_of}
use Rattle.table.specs.declared.Entry.{Entry}
use Rattle.table.proofs.TypeLaws.{type-scalar, type-words, type-ptr, type-atomic, kind-of}
use Rattle.table.proofs.ReadLaws.{ptr-words}
use Rattle.table.proofs.FormedLaws.{formed-at, runtime-at}
use Rattle.table.proofs.KindLaws.{is_scalar}
use Rattle.ruled.proofs.Loaded.{is_pointer_lem}

-- the kind word says whether a type is an atomic
atomic-kind : (u : Ty) → formed u ≡ true → is_atomic u ≡ eqb (kind_of u) kind_atomic
unfolding formed tag_of kind_of
atomic-kind (scalar k) h = let b = ltb-true k 7 h in sym (ne_eqb k 11 (λ q. omega arith))
atomic-kind (vec k c) h = refl
atomic-kind (mat c r k) h = refl
atomic-kind (array k u) h = refl
atomic-kind (runtime u) h = refl
atomic-kind (atomic k) h = refl
atomic-kind (ptr a b u) h = refl
atomic-kind (ref a b u) h = refl
atomic-kind (frexp u) h = refl
atomic-kind (modf u) h = refl
atomic-kind (exchange k) h = refl

-- an atomic stands in a type that is none itself exactly where it stands in the element
inner-atomic : (u : Ty) → is_scalar u ≡ false → kind_of u ≢ kind_atomic → holds_atomic u ≡ holds_atomic (element_of u)
unfolding is_scalar kind_of holds_atomic element_of
inner-atomic (scalar k) a h = refl
inner-atomic (vec k c) a h = refl
inner-atomic (mat c r k) a h = refl
inner-atomic (array k u) a h = refl
inner-atomic (runtime u) a h = refl
inner-atomic (atomic k) a h = absurd (h refl)
inner-atomic (ptr p q u) a h = refl
inner-atomic (ref p q u) a h = refl
inner-atomic (frexp u) a h = refl
inner-atomic (modf u) a h = refl
inner-atomic (exchange k) a h = refl

-- three tests that all passed
pub passed : (x y z : Bool) → (not x || not y || not z) ≡ false → (x ≡ true) × (y ≡ true) × (z ≡ true)
passed true true true h = (refl, refl, refl)
passed true true false h = (refl, refl, sym h)
passed true false z h = (refl, sym h, absurd (let q : ◌≡◌ {A = ℕ} 0 1 = cc in omega arith))
passed false y z h = (sym h, absurd (let q : ◌≡◌ {A = ℕ} 0 1 = cc in omega arith), absurd (let q : ◌≡◌ {A = ℕ} 0 1 = cc in omega arith))

module _ (w : List ℕ) (n : ℕ) (s : Sound w n) where
  module _ (t : ℕ) (l : t < n) where
    pub is-atomic : is_atomic (type_at w t) ≡ eqb (entry_at w t).kind kind_atomic
    is-atomic = atomic-kind (type_at w t) (formed-at w n s t l) ∙ ap (λ (k : ℕ). eqb k kind_atomic) (sym (kind-of w n s t l))

    -- AN ATOMIC AT ANY DEPTH

    pub scalar-holds : t < scalars → false ≡ holds_atomic (type_at w t)
    unfolding holds_atomic
    scalar-holds h = sym (ap holds_atomic (type-scalar w t h))

    pub here-holds : (entry_at w t).kind ≡ kind_atomic → holds_atomic (type_at w t) ≡ true
    unfolding holds_atomic
    here-holds k = ap holds_atomic (type-atomic w n s t l k)

    pub deeper-holds : scalars ≤ t → (entry_at w t).kind ≢ kind_atomic → holds_atomic (type_at w t) ≡ holds_atomic (type_at w (entry_at w t).elem)
    deeper-holds h k =
        let x = type-words w n s t h l in
        inner-atomic (type_at w t) x.above (λ e. k (kind-of w n s t l ∙ e)) ∙ ap holds_atomic x.elem

    -- A POINTER

    pub pointed-below : (entry_at w t).kind ≡ kind_ptr → (entry_at w t).elem < t
    pointed-below k = (ptr-words w n s t l (type-ptr w n s t l k)).under

    no_pointer : (entry_at w t).kind ≢ kind_ptr → is_pointer (type_at w t) ≡ false
    no_pointer k = is_pointer_lem w n s t l ∙ ne_eqb (entry_at w t).kind kind_ptr k

  -- e is the entry of a pointer, f that of what it points to
  module _ (t : ℕ) (l : t < n) (e f : Entry) (a : e ≡ entry_at w t) (k : e.kind ≡ kind_ptr) (b : f ≡ entry_at w e.elem) where
    kind-is : (entry_at w t).kind ≡ kind_ptr
    kind-is = ap (λ (x : Entry). x.kind) (sym a) ∙ k

    pub inner_below : e.elem < n
    inner_below =
        let h = pointed-below t l kind-is in
        let q : e.elem ≡ (entry_at w t).elem = ap (λ (x : Entry). x.elem) a in
        omega arith

    pub type-is : type_at w t ≡ ptr e.p e.q (type_at w e.elem)
    type-is = type-ptr w n s t l kind-is ∙ (λ i. ptr (sym a i).p (sym a i).q (type_at w (sym a i).elem))

    inner-atomic-is : is_atomic (type_at w e.elem) ≡ eqb f.kind kind_atomic
    inner-atomic-is = is-atomic e.elem inner_below ∙ ap (λ (x : Entry). eqb x.kind kind_atomic) (sym b)

    inner-runtime-is : is_runtime (type_at w e.elem) ≡ eqb f.kind kind_runtime
    inner-runtime-is = sym (runtime-at w n s e.elem inner_below) ∙ ap (λ (x : Entry). eqb x.kind kind_runtime) (sym b)

    pub atomic-type : f.kind ≡ kind_atomic → type_at w e.elem ≡ atomic f.elem
    atomic-type h = type-atomic w n s e.elem inner_below (ap (λ (x : Entry). x.kind) (sym b) ∙ h) ∙ ap (λ (x : Entry). atomic x.elem) (sym b)

    pub component-small : f.kind ≡ kind_atomic → f.elem < 7
    component-small h = integer-small f.elem (ap formed (sym (atomic-type h)) ∙ formed-at w n s e.elem inner_below)

    -- CALLS ON ATOMICS

    takes-is : takes_atomic (type_at w t) ≡ ((eqb e.p storage || eqb e.p workgroup) && eqb e.q read_write && eqb f.kind kind_atomic)
    unfolding tag_of first_of second_of element_of
    takes-is = ap takes_atomic type-is ∙ ap (λ (x : Bool). (eqb e.p storage || eqb e.p workgroup) && eqb e.q read_write && x) inner-atomic-is

    component-is : f.kind ≡ kind_atomic → atomic_in (type_at w t) ≡ f.elem
    unfolding first_of element_of
    component-is h = ap atomic_in type-is ∙ ap first_of (atomic-type h)

    pub taken : ((eqb e.p storage || eqb e.p workgroup) && eqb e.q read_write && eqb f.kind kind_atomic) ≡ true
        → Some f.elem ≡ cond {A = Option ℕ} (takes_atomic (type_at w t)) (Some (atomic_in (type_at w t))) None
    taken h =
        let k = eqb-true f.kind kind_atomic (and_right ((eqb e.p storage || eqb e.p workgroup) && eqb e.q read_write) _ h) in
        ap Some (sym (component-is k)) ∙ sym (ap (λ (x : Bool). cond {A = Option ℕ} x (Some (atomic_in (type_at w t))) None) (takes-is ∙ h))

    pub not_taken : ((eqb e.p storage || eqb e.p workgroup) && eqb e.q read_write && eqb f.kind kind_atomic) ≡ false
        → None ≡ cond {A = Option ℕ} (takes_atomic (type_at w t)) (Some (atomic_in (type_at w t))) None
    not_taken h = sym (ap (λ (x : Bool). cond {A = Option ℕ} x (Some (atomic_in (type_at w t))) None) (takes-is ∙ h))

    -- ARRAYLENGTH

    length-is : takes_length (type_at w t) ≡ (eqb e.p storage && (eqb e.q read || eqb e.q read_write) && eqb f.kind kind_runtime)
    unfolding tag_of first_of second_of element_of
    length-is = ap takes_length type-is ∙ ap (λ (x : Bool). eqb e.p storage && (eqb e.q read || eqb e.q read_write) && x) inner-runtime-is

    pub length-by : (b : Bool) → (eqb e.p storage && (eqb e.q read || eqb e.q read_write) && eqb f.kind kind_runtime) ≡ b → cond b (gives (scalar u32)) none_fits ≡ judge_length (type_at w t)
    unfolding judge_length
    length-by b h = ap (λ (x : Bool). cond x (gives (scalar u32)) none_fits) (sym (length-is ∙ h))

    -- WORKGROUPUNIFORMLOAD, of a workgroup pointer with read_write access

    module _ (p : e.p ≡ workgroup) (q : e.q ≡ read_write) where
      load_is : takes_load (type_at w t) ≡ loadable (type_at w e.elem)
      unfolding tag_of first_of second_of element_of
      load_is = ap takes_load type-is ∙ rw (p, q)

      loaded-is : loaded (element_of (type_at w t)) ≡ loaded (type_at w e.elem)
      unfolding element_of
      loaded-is = ap (λ (x : Ty). loaded (element_of x)) type-is

      pub load-atomic : f.kind ≡ kind_atomic → judge_load (type_at w t) ≡ gives (scalar f.elem)
      unfolding judge_load first_of tag_of
      load-atomic h =
          ap (λ (x : Bool). cond x (gives (loaded (element_of (type_at w t)))) none_fits) (load_is ∙ ap loadable (atomic-type h))
          ∙ ap gives (loaded-is ∙ ap loaded (atomic-type h))

      module _ (m : f.kind ≢ kind_atomic) where
        no-atomic : is_atomic (type_at w e.elem) ≡ false
        no-atomic = inner-atomic-is ∙ ne_eqb f.kind kind_atomic m

        load-other : judge_load (type_at w t) ≡ cond (not (is_runtime (type_at w e.elem)) && not (holds_atomic (type_at w e.elem))) (gives (type_at w e.elem)) none_fits
        unfolding judge_load
        load-other =
            (λ i. cond (load_is i) (gives (loaded-is i)) none_fits)
            ∙ (λ i. cond (no-atomic i || (not (is_runtime (type_at w e.elem)) && not (holds_atomic (type_at w e.elem)))) (gives (cond (no-atomic i) (scalar (first_of (type_at w e.elem))) (type_at w e.elem))) none_fits)

        pub load-runtime : f.kind ≡ kind_runtime → judge_load (type_at w t) ≡ none_fits
        load-runtime h = load-other ∙ rw (inner-runtime-is, eq-eqb f.kind kind_runtime h)

        module _ (u : f.kind ≢ kind_runtime) where
          pub load-holding : holds_atomic (type_at w e.elem) ≡ true → judge_load (type_at w t) ≡ none_fits
          load-holding h = load-other ∙ rw (inner-runtime-is, ne_eqb f.kind kind_runtime u, h)

          pub load-element : holds_atomic (type_at w e.elem) ≡ false → judge_load (type_at w t) ≡ gives (type_at w e.elem)
          load-element h = load-other ∙ rw (inner-runtime-is, ne_eqb f.kind kind_runtime u, h)

  -- NO SUCH POINTER

  module _ (t : ℕ) (l : t < n) where
    pub no-taken : (entry_at w t).kind ≢ kind_ptr → None ≡ cond {A = Option ℕ} (takes_atomic (type_at w t)) (Some (atomic_in (type_at w t))) None
    no-taken k = sym (rw (no_pointer t l k))

    pub no_length : (entry_at w t).kind ≢ kind_ptr → none_fits ≡ judge_length (type_at w t)
    unfolding judge_length
    no_length k = sym (rw (no_pointer t l k))

    no-load : takes_load (type_at w t) ≡ false → judge_load (type_at w t) ≡ none_fits
    unfolding judge_load
    no-load h = rw h

    -- e is its entry: no pointer, in another space, or of another access
    pub load-none : (e : Entry) → e ≡ entry_at w t → (not (eqb e.kind kind_ptr) || not (eqb e.p workgroup) || not (eqb e.q read_write)) ≡ true → judge_load (type_at w t) ≡ none_fits
    unfolding tag_of first_of second_of element_of
    load-none e a h = no-load (go (eqb e.kind kind_ptr) refl (eqb e.p workgroup) refl (eqb e.q read_write) refl h)
      where
        go : (x : Bool) → eqb e.kind kind_ptr ≡ x → (y : Bool) → eqb e.p workgroup ≡ y → (z : Bool) → eqb e.q read_write ≡ z → (not x || not y || not z) ≡ true → takes_load (type_at w t) ≡ false
        go false i y j z o h = ap (λ (x : Bool). x && eqb (first_of (type_at w t)) workgroup && eqb (second_of (type_at w t)) read_write && loadable (element_of (type_at w t))) (is_pointer_lem w n s t l ∙ ap (λ (x : Entry). eqb x.kind kind_ptr) (sym a) ∙ i)
        go true i false j z o h = ap takes_load (type-is t l e (entry_at w e.elem) a (eqb-true e.kind kind_ptr i) refl) ∙ rw j
        go true i true j false o h = ap takes_load (type-is t l e (entry_at w e.elem) a (eqb-true e.kind kind_ptr i) refl) ∙ rw (j, o)
        go true i true j true o h = absurd (let z : ◌≡◌ {A = ℕ} 0 1 = cc in omega arith)

  -- A POINTER THAT PASSED: e is its entry, f that of what it points to

  module _ (t : ℕ) (l : t < n) (e f : Entry) (a : e ≡ entry_at w t) (pass : (not (eqb e.kind kind_ptr) || not (eqb e.p workgroup) || not (eqb e.q read_write)) ≡ false) (b : f ≡ entry_at w e.elem) where
    tests : (eqb e.kind kind_ptr ≡ true) × (eqb e.p workgroup ≡ true) × (eqb e.q read_write ≡ true)
    tests = passed (eqb e.kind kind_ptr) (eqb e.p workgroup) (eqb e.q read_write) pass

    k : e.kind ≡ kind_ptr
    k = eqb-true e.kind kind_ptr tests.0

    p : e.p ≡ workgroup
    p = eqb-true e.p workgroup tests.1

    q : e.q ≡ read_write
    q = eqb-true e.q read_write tests.2

    pub passed-below : e.elem < n
    passed-below = inner_below t l e f a k b

    pub passed-atomic : f.kind ≡ kind_atomic → (f.elem < 7) × (gives (scalar f.elem) ≡ judge_load (type_at w t))
    passed-atomic h = (
      component-small t l e f a k b h,
      sym (load-atomic t l e f a k b p q h),
    )

    module _ (m : f.kind ≢ kind_atomic) where
      pub passed-runtime : f.kind ≡ kind_runtime → none_fits ≡ judge_load (type_at w t)
      passed-runtime h = sym (load-runtime t l e f a k b p q m h)

      module _ (u : f.kind ≢ kind_runtime) where
        pub passed-holding : holds_atomic (type_at w e.elem) ≡ true → none_fits ≡ judge_load (type_at w t)
        passed-holding h = sym (load-holding t l e f a k b p q m u h)

        pub passed-element : holds_atomic (type_at w e.elem) ≡ false → gives (type_at w e.elem) ≡ judge_load (type_at w t)
        passed-element h = sym (load-element t l e f a k b p q m u h)
