-- The rules that are not listed, by their numbers: what each wants of its first operand; values from a place on. Assumes nothing.
use Prim.Native.Nat.{ℕ, zero, suc, ◌+◌, ◌≤◌, ◌<◌}
use mathlib.Core.Path.{◌≡◌, refl, sym, ◌∙◌, ap, subst}
use mathlib.Core.Logic.{◌≢◌, ◌⊎◌, inl, inr}
use mathlib.Core.Bool.{Bool, true, false, ◌&&◌, ◌||◌, cond}
use mathlib.Core.List.{List, ◌∷◌, map}
use native.Mathlib.Omega.{arith}
use lib.Dec.{T, eqb, ltb}
use lib.ListN.{length}
use Rattle.std.proofs.Common.{Some, not}
use Rattle.std.specs.List.{position, position_or_len}
use Rattle.std.proofs.lemmas.List.Recursion.{is_position_or_len}
use borrow.Author.Tests.{ne_eqb, le-ltb, lt-ltb, eqb-true, eqb-false, ltb-true, ltb-false}
use Rattle.conv.specs.Types.{Ty, i32, u32, formed}
use Rattle.conv.specs.Types.Ty.{scalar, exchange}
use Rattle.conv.specs.Rank.{converts}
use Rattle.held.specs.Held.{number_of}
use Rattle.text.specs.Text.{ascii}
use Rattle.table.specs.Denote.{type_at}
use Rattle.overload.specs.Overload.{fits, Judged}
use Rattle.overload.specs.Overload.Judged.{gives, none_fits}
use Rattle.overload.specs.Rows.{row_at, Ruling, values, takes_atomic, atomic_in, judge_atomic, judge_by}
use Rattle.overload.specs.Rows.Ruling.{by_row, address, indirection, on_atomic, comparing, uniform_load, array_length}
use Rattle.overload.proofs.Memory.{taken-formed}
use Rattle.memory.proofs.Fitting.{pointed_by, pointed-some}
use Rattle.call_ty.specs.Calls.{operands_by}
use Rattle.weigh.specs.Weigh.{first_miss}
use Rattle.weigh.proofs.Firsts.{unmissed}
use Rattle.reasons.specs.Reasons.{type_in, an_atomic, first_wanted, wanted_line, value_line, atomic_line, broken_line}
use Rattle.reasons.specs.inner.Told.{ruling_of}
use Rattle.broken.specs.inner.Alone.{alone}

-- BY NUMBER

pub ruling-length : (k : ℕ) → k ≡ 101 → ruling_of k ≡ array_length
unfolding ruling_of
ruling-length k e = rw e

pub ruling-load : (k : ℕ) → k ≡ 108 → ruling_of k ≡ uniform_load
unfolding ruling_of
ruling-load k e = rw e

pub ruling-address : (k : ℕ) → k ≡ 109 → ruling_of k ≡ address
unfolding ruling_of
ruling-address k e = rw e

pub ruling-indirection : (k : ℕ) → k ≡ 110 → ruling_of k ≡ indirection
unfolding ruling_of
ruling-indirection k e = rw e

-- any other is one of the calls on atomics
data OnAtomic (r : Ruling) : Type 0 where
  with : (k : ℕ) → r ≡ on_atomic k → OnAtomic r
  compares : r ≡ comparing → OnAtomic r

module _ (k : ℕ) (h : 100 ≤ k) (a : k ≢ 101) (b : k ≢ 108) (c : k ≢ 109) (d : k ≢ 110) where
  atomic-of : OnAtomic (ruling_of k)
  unfolding ruling_of
  atomic-of = go (eqb k 104) (eqb k 107)
    where
      go : (x y : Bool) → OnAtomic (cond (ltb k 100) (by_row (row_at k)) (cond (eqb k 101) array_length (cond x (on_atomic 0) (cond y comparing (cond (eqb k 108) uniform_load (cond (eqb k 109) address (cond (eqb k 110) indirection (on_atomic 1))))))))
      go true y = rw (le-ltb k 100 h, ne_eqb k 101 a) (with 0 refl)
      go false true = rw (le-ltb k 100 h, ne_eqb k 101 a) (compares refl)
      go false false = rw (le-ltb k 100 h, ne_eqb k 101 a, ne_eqb k 108 b, ne_eqb k 109 c, ne_eqb k 110 d) (with 1 refl)

  pub wants-atomic : first_wanted (ruling_of k) ≡ an_atomic
  unfolding first_wanted
  wants-atomic = go atomic-of
    where
      go : OnAtomic (ruling_of k) → first_wanted (ruling_of k) ≡ an_atomic
      go (with j e) = ap first_wanted e
      go (compares e) = ap first_wanted e

  pub broken-atomic : (t : Ty) (us : List Ty) → suc (length us) ≡ operands_by (ruling_of k)
      → broken_line (ruling_of k) (t ∷ us) ≡ cond (takes_atomic t) (value_line (length us) (atomic_in t) us) (wanted_line 0 t (ascii (first_wanted (ruling_of k))))
  unfolding broken_line atomic_line operands_by
  broken-atomic t us l = go (ruling_of k) atomic-of l
    where
      go : (r : Ruling) → OnAtomic r → suc (length us) ≡ operands_by r → broken_line r (t ∷ us) ≡ cond (takes_atomic t) (value_line (length us) (atomic_in t) us) (wanted_line 0 t (ascii (first_wanted r)))
      go r (with j e) m =
          subst (λ (q : Ruling). suc (length us) ≡ operands_by q → broken_line q (t ∷ us) ≡ cond (takes_atomic t) (value_line (length us) (atomic_in t) us) (wanted_line 0 t (ascii (first_wanted q)))) (sym e)
          (λ n. let i : length us ≡ j = omega arith in rw i) m
      go r (compares e) m =
          subst (λ (q : Ruling). suc (length us) ≡ operands_by q → broken_line q (t ∷ us) ≡ cond (takes_atomic t) (value_line (length us) (atomic_in t) us) (wanted_line 0 t (ascii (first_wanted q)))) (sym e)
          (λ n. let i : length us ≡ 2 = omega arith in rw i) m

  -- where the pointer is right and the call is refused, a value does not convert
  pub value-breaks : (t : Ty) (us : List Ty) (ms : List Bool) → suc (length us) ≡ operands_by (ruling_of k) → judge_by (ruling_of k) (t ∷ us) ms ≡ none_fits → takes_atomic t ≡ true
      → fits (values (length us) (atomic_in t)) us ≡ false
  unfolding judge_by judge_atomic operands_by
  value-breaks t us ms l j e = go (ruling_of k) atomic-of l j
    where
      refused : (b : Bool) (R : Ty) → cond (takes_atomic t && b) (gives R) none_fits ≡ none_fits → b ≡ false
      refused false R q = refl
      refused true R q = absurd (clash (subst (λ (x : Bool). cond (x && true) (gives R) none_fits ≡ none_fits) e q))
        where
          is_none : Judged → Type 0
          is_none (gives S) = ⊥
          is_none none_fits = Unit {0}

          clash : gives R ≡ none_fits → ⊥
          clash p = subst is_none (sym p) tt

      go : (r : Ruling) → OnAtomic r → suc (length us) ≡ operands_by r → judge_by r (t ∷ us) ms ≡ none_fits → fits (values (length us) (atomic_in t)) us ≡ false
      go r (with i q) m n =
          subst (λ (x : Ruling). suc (length us) ≡ operands_by x → judge_by x (t ∷ us) ms ≡ none_fits → fits (values (length us) (atomic_in t)) us ≡ false) (sym q)
          (λ a b. let z : length us ≡ i = omega arith in rw z (refused (fits (values i (atomic_in t)) us) (scalar (atomic_in t)) b)) m n
      go r (compares q) m n =
          subst (λ (x : Ruling). suc (length us) ≡ operands_by x → judge_by x (t ∷ us) ms ≡ none_fits → fits (values (length us) (atomic_in t)) us ≡ false) (sym q)
          (λ a b. let z : length us ≡ 2 = omega arith in rw z (refused (fits (values 2 (atomic_in t)) us) (exchange (atomic_in t)) b)) m n

-- VALUES, from a place on

pub values-long : (k s : ℕ) → length (values k s) ≡ k
unfolding values
values-long zero s = refl
values-long (suc k) s = ap suc (values-long k s)

pub breaks-place : (k s : ℕ) (us : List Ty) → length us ≡ k → fits (values k s) us ≡ false → first_miss (values k s) us < length us
breaks-place k s us l f = go (ltb (first_miss (values k s) us) (length us)) refl
  where
    go : (b : Bool) → ltb (first_miss (values k s) us) (length us) ≡ b → first_miss (values k s) us < length us
    go true e = ltb-true _ _ e
    go false e =
        absurd (subst T (sym (unmissed (values k s) us (l ∙ sym (values-long k s)) (ltb-false _ _ e)) ∙ f) tt)

module _ (w : List ℕ) (s : ℕ) where
  abbrev goes : ℕ → Bool
  goes v = converts (type_at w (number_of v)) (scalar s)

  abbrev value_tys : List ℕ → List Ty
  value_tys vs = map (type_at w) (map number_of vs)

  first-breaks : (vs : List ℕ) → first_miss (values (length vs) s) (value_tys vs) ≡ position_or_len (λ v. not (goes v)) vs
  unfolding values first_miss
  first-breaks vs = is_position_or_len (λ us. first_miss (values (length us) s) (value_tys us)) (λ v. not (goes v)) refl (λ v us. turned (goes v) (first_miss (values (length us) s) (value_tys us))) vs
    where
      turned : (b : Bool) (k : ℕ) → cond b (suc k) 0 ≡ cond (not b) 0 (1 + k)
      turned true k = omega arith
      turned false k = refl

  -- the first value that does not convert, where one does not
  pub breaks-at : (vs : List ℕ) → first_miss (values (length vs) s) (value_tys vs) < length vs → position (λ v. not (goes v)) vs ≡ Some (first_miss (values (length vs) s) (value_tys vs))
  breaks-at vs h = let e = first-breaks vs in let l : position_or_len (λ v. not (goes v)) vs < length vs = omega arith in rw (lt-ltb (position_or_len (λ v. not (goes v)) vs) (length vs) l, e)

-- HOW MANY OPERANDS: one at least, and at most three

pub some-operand : (k : ℕ) → 100 ≤ k → (1 ≤ operands_by (ruling_of k)) × (operands_by (ruling_of k) ≤ 3)
unfolding ruling_of operands_by
some-operand k h = rw (le-ltb k 100 h) (go (eqb k 101) (eqb k 104) (eqb k 107) (eqb k 108) (eqb k 109) (eqb k 110))
  where
    go : (a b c d e f : Bool) → (1 ≤ operands_by (cond a array_length (cond b (on_atomic 0) (cond c comparing (cond d uniform_load (cond e address (cond f indirection (on_atomic 1))))))))
        × (operands_by (cond a array_length (cond b (on_atomic 0) (cond c comparing (cond d uniform_load (cond e address (cond f indirection (on_atomic 1))))))) ≤ 3)
    go true b c d e f = (omega arith, omega arith)
    go false true c d e f = (omega arith, omega arith)
    go false false true d e f = (omega arith, omega arith)
    go false false false true e f = (omega arith, omega arith)
    go false false false false true f = (omega arith, omega arith)
    go false false false false false true = (omega arith, omega arith)
    go false false false false false false = (omega arith, omega arith)

-- RULES OF ONE OPERAND

or_no : (a b : Bool) → (a || b) ≡ false → (a ≡ false) × (b ≡ false)
or_no true b e = absurd (subst T e tt)
or_no false b e = (refl, e)

pub not-alone : (k : ℕ) → alone k ≡ false → (k ≢ 101) × (k ≢ 108) × (k ≢ 109) × (k ≢ 110)
not-alone k e =
    let p = or_no (eqb k 101 || eqb k 108 || eqb k 109) (eqb k 110) e in
    let q = or_no (eqb k 101 || eqb k 108) (eqb k 109) p.0 in
    let r = or_no (eqb k 101) (eqb k 108) q.0 in
    (eqb-false k 101 r.0, eqb-false k 108 r.1, eqb-false k 109 q.1, eqb-false k 110 p.1)

pub broken-alone : (k : ℕ) → alone k ≡ true → (ts : List Ty) → broken_line (ruling_of k) ts ≡ wanted_line 0 (type_in ts 0) (ascii (first_wanted (ruling_of k)))
unfolding broken_line
broken-alone k e ts = go (eqb k 101) refl (eqb k 108) refl (eqb k 109) refl (eqb k 110) refl e
  where
    Line : Ruling → Type 0
    Line r = broken_line r ts ≡ wanted_line 0 (type_in ts 0) (ascii (first_wanted r))

    go : (a : Bool) → eqb k 101 ≡ a → (b : Bool) → eqb k 108 ≡ b → (c : Bool) → eqb k 109 ≡ c → (d : Bool) → eqb k 110 ≡ d → (a || b || c || d) ≡ true → Line (ruling_of k)
    go true ea b eb c ec d ed h = subst Line (sym (ruling-length k (eqb-true k 101 ea))) refl
    go false ea true eb c ec d ed h = subst Line (sym (ruling-load k (eqb-true k 108 eb))) refl
    go false ea false eb true ec d ed h = subst Line (sym (ruling-address k (eqb-true k 109 ec))) refl
    go false ea false eb false ec true ed h = subst Line (sym (ruling-indirection k (eqb-true k 110 ed))) refl
    go false ea false eb false ec false ed h = absurd (subst T (sym h) tt)

-- THE COMPONENT that a pointer has
module _ (x : Ty) (f : formed x ≡ true) where
  pub points : (s : ℕ) → pointed_by x ≡ Some s → (takes_atomic x ≡ true) × (s ≡ atomic_in x) × ((s ≡ i32) ⊎ (s ≡ u32))
  unfolding formed
  points s h =
      let p = pointed-some x s h in
      (p.0, p.1, subst (λ (t : ℕ). (t ≡ i32) ⊎ (t ≡ u32)) (sym p.1) (kind (atomic_in x) (taken-formed x f p.0)))
    where
      kind : (t : ℕ) → (eqb t i32 || eqb t u32) ≡ true → (t ≡ i32) ⊎ (t ≡ u32)
      kind t h = pick (eqb t i32) refl h
        where
          pick : (b : Bool) → eqb t i32 ≡ b → (b || eqb t u32) ≡ true → (t ≡ i32) ⊎ (t ≡ u32)
          pick true q h = inl (eqb-true t i32 q)
          pick false q h = inr (eqb-true t u32 h)
