-- Lists of numbers of types, and the types that they stand for. Assumes nothing.
use Prim.Native.Nat.{ℕ, zero, suc, ◌-◌, ◌≤◌, ◌<◌}
use mathlib.Core.Path.{◌≡◌, refl, sym, ◌∙◌, ap, subst}
use mathlib.Core.Bool.{Bool, true, false, ◌&&◌, ◌||◌}
use mathlib.Core.List.{List, [], ◌∷◌, map}
use native.Mathlib.Nat.{not-suc-le-zero}
use native.Mathlib.Omega.{arith}
use lib.Dec.{ltb}
use lib.ListN.{length, get_or, take, drop, length-map}
use borrow.Author.Tests.{ltb-true, lt-ltb}
use Rattle.std.specs.List.{list_all, list_any}
use Rattle.held.specs.Held.{number_of, mark_of}
use Rattle.conv.specs.Types.{abstract_ty, bool}
use Rattle.conv.specs.Types.Ty.{scalar}
use Rattle.conv.specs.Rank.{both, is_reference}
use Rattle.overload.specs.Overload.{or}
use Rattle.overload.specs.Marks.{any_running, running_abstract}
use Rattle.overload.specs.inner.Code.{code_of}
use Rattle.overload.proofs.Operands.{and_left, and_right, all_formed, codes_of}
use Rattle.table.specs.Table.{Sound}
use Rattle.table.specs.Denote.{type_at}
use Rattle.table.proofs.FormedLaws.{formed-at}
use Rattle.ruled.specs.Call.{any_reference}
use Rattle.call_ty.specs.Calls.{all_under, numbers, marks_of, types}
use Rattle.call_ty.specs.inner.Codes.{Under}

under_rest : (n t : ℕ) (ts : List ℕ) → Under n (t ∷ ts) → Under n ts
under_rest n t ts u i l = u (suc i) (omega arith)

-- the test of every number, and the fact

pub all_under_lem : (n : ℕ) (ts : List ℕ) → all_under n ts ≡ true → Under n ts
unfolding all_under
all_under_lem n [] h i l = absurd (not-suc-le-zero l)
all_under_lem n (t ∷ ts) h zero l = ltb-true t n (and_left (ltb t n) _ h)
all_under_lem n (t ∷ ts) h (suc i) l = all_under_lem n ts (and_right (ltb t n) _ h) i (omega arith)

pub under_all : (n : ℕ) (ts : List ℕ) → Under n ts → all_under n ts ≡ true
unfolding all_under
under_all n [] u = refl
under_all n (t ∷ ts) u = rw (lt-ltb t n (u 0 (omega arith)), under_all n ts (under_rest n t ts u))

-- the numbers and the marks of operands

pub number_at : (vs : List ℕ) (i : ℕ) → get_or (numbers vs) i 0 ≡ number_of (get_or vs i 0)
number_at [] i = refl
number_at (v ∷ vs) zero = refl
number_at (v ∷ vs) (suc i) = number_at vs i

-- the tests of a list, by std's

pub under-all : (n : ℕ) (ts : List ℕ) → list_all (λ (t : ℕ). ltb t n) ts ≡ all_under n ts
unfolding all_under
under-all n [] = refl
under-all n (t ∷ ts) = ap (λ (b : Bool). ltb t n && b) (under-all n ts)

pub numbers-all : (n : ℕ) (vs : List ℕ) → list_all (λ (v : ℕ). ltb (number_of v) n) vs ≡ all_under n (numbers vs)
unfolding all_under
numbers-all n [] = refl
numbers-all n (v ∷ vs) = ap (λ (b : Bool). ltb (number_of v) n && b) (numbers-all n vs)

pub running-any : (vs : List ℕ) → list_any mark_of vs ≡ any_running (marks_of vs)
unfolding any_running or
running-any [] = refl
running-any (v ∷ vs) = ap (λ (b : Bool). mark_of v || b) (running-any vs)

module _ (w : List ℕ) where
  -- an operand that is both running and abstract
  abbrev pub clashing : ℕ → Bool
  clashing v = both (mark_of v) (abstract_ty (type_at w (number_of v)))

  pub clashes-any : (vs : List ℕ) → list_any clashing vs ≡ running_abstract (types w (numbers vs)) (marks_of vs)
  unfolding running_abstract or
  clashes-any [] = refl
  clashes-any (v ∷ vs) = ap (λ (b : Bool). clashing v || b) (clashes-any vs)

-- the types of a list

or-true : (b : Bool) → (b || true) ≡ true
or-true true = refl
or-true false = refl

module _ (w : List ℕ) where
  pub type-in : (ts : List ℕ) (i : ℕ) → i < length ts → get_or (types w ts) i (scalar bool) ≡ type_at w (get_or ts i 0)
  type-in [] i l = absurd (not-suc-le-zero l)
  type-in (t ∷ ts) zero l = refl
  type-in (t ∷ ts) (suc i) l = type-in ts i (omega arith)

  pub types-formed : (n : ℕ) → Sound w n → (ts : List ℕ) → Under n ts → all_formed (types w ts) ≡ true
  unfolding all_formed
  types-formed n s [] u = refl
  types-formed n s (t ∷ ts) u = rw (formed-at w n s t (u 0 (omega arith)), types-formed n s ts (under_rest n t ts u))

  pub some-reference : (ts : List ℕ) (i : ℕ) → i < length ts → is_reference (type_at w (get_or ts i 0)) ≡ true → any_reference (types w ts) ≡ true
  unfolding any_reference
  some-reference [] i l h = absurd (not-suc-le-zero l)
  some-reference (t ∷ ts) zero l h = ap (λ (b : Bool). b || any_reference (types w ts)) h
  some-reference (t ∷ ts) (suc i) l h = ap (λ (b : Bool). is_reference (type_at w t) || b) (some-reference ts i (omega arith) h) ∙ or-true (is_reference (type_at w t))

  pub no-reference : (ts : List ℕ) → ((i : ℕ) → i < length ts → is_reference (type_at w (get_or ts i 0)) ≡ false) → any_reference (types w ts) ≡ false
  unfolding any_reference
  no-reference [] h = refl
  no-reference (t ∷ ts) h =
      ap (λ (b : Bool). b || any_reference (types w ts)) (h 0 (omega arith)) ∙ no-reference ts (λ i l. h (suc i) (omega arith))

  pub codes-in : (ts cs : List ℕ) → length ts ≤ length cs → ((i : ℕ) → i < length ts → get_or cs i 0 ≡ code_of (type_at w (get_or ts i 0))) → take (length (types w ts)) cs ≡ codes_of (types w ts)
  codes-in [] cs l h = refl
  codes-in (t ∷ ts) [] l h = absurd (not-suc-le-zero l)
  codes-in (t ∷ ts) (c ∷ cs) l h = λ i. h 0 (omega arith) i ∷ codes-in ts cs (omega arith) (λ k m. h (suc k) (omega arith)) i

-- the part of the codes that is handed on
pub codes-front : (w : List ℕ) (vs cs : List ℕ) → take (length (types w (numbers vs))) cs ≡ codes_of (types w (numbers vs)) → take (length vs - 0) (drop 0 cs) ≡ codes_of (types w (numbers vs))
codes-front w vs cs h =
    let z : length vs - 0 ≡ length vs = omega arith in
    ap (λ (k : ℕ). take k cs) (z ∙ sym (length-map vs number_of) ∙ sym (length-map (numbers vs) (type_at w))) ∙ h

-- THE FIRST OPERAND AND THE OTHERS, as the part of a lent list from 1 on

take_all : (vs : List ℕ) → take (length vs) vs ≡ vs
take_all [] = refl
take_all (v ∷ vs) = ap (λ (l : List ℕ). v ∷ l) (take_all vs)

abbrev pub others : List ℕ → List ℕ
others vs = take (length vs - 1) (drop 1 vs)

module _ (vs : List ℕ) (some : 1 ≤ length vs) where
  pub first-and-others : get_or vs 0 0 ∷ others vs ≡ vs
  first-and-others = go vs some
    where
      go : (us : List ℕ) → 1 ≤ length us → get_or us 0 0 ∷ others us ≡ us
      go [] h = absurd (omega arith)
      go (u ∷ us) h =
          let e : suc (length us) - 1 ≡ length us = omega arith in
          (λ i. u ∷ take (e i) us) ∙ ap (λ (l : List ℕ). u ∷ l) (take_all us)

  pub others-count : suc (length (others vs)) ≡ length vs
  others-count = ap length first-and-others

  -- their types
  pub types-by : (w : List ℕ) → type_at w (number_of (get_or vs 0 0)) ∷ map (type_at w) (map number_of (others vs)) ≡ types w (numbers vs)
  types-by w = ap (λ (us : List ℕ). types w (numbers us)) first-and-others

  -- and their numbers are below n
  module _ (n : ℕ) (u : Under n (numbers vs)) where
    pub first_below : number_of (get_or vs 0 0) < n
    first_below = let l = length-map vs number_of in subst (λ (k : ℕ). k < n) (number_at vs 0) (u 0 (omega arith))

    pub others_below : (i : ℕ) → i < length (others vs) → number_of (get_or (others vs) i 0) < n
    others_below i h =
        let l = length-map vs number_of in
        let c = others-count in
        let e : get_or vs (suc i) 0 ≡ get_or (others vs) i 0 = sym (ap (λ (us : List ℕ). get_or us (suc i) 0) first-and-others) in
        subst (λ (k : ℕ). k < n) (number_at vs (suc i) ∙ ap number_of e) (u (suc i) (omega arith))
