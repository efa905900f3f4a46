-- The arguments of a list, by its length, and the loop over its pairs. Assumes nothing.
use Prim.Native.Nat.{ℕ, zero, suc, ◌+◌, ◌%◌, ◌≤◌, ◌<◌}
use mathlib.Core.Path.{◌≡◌, refl}
use mathlib.Core.Bool.{Bool, true, false, cond}
use mathlib.Core.List.{List, [], ◌∷◌}
use native.Mathlib.Omega.{arith}
use lib.ListN.{length, drop}
use lib.Dec.{eqb, leb, ltb}
use lib.IntN.{ℤ, pos, negsuc}
use borrow.Author.Tests.{ltb-true}
use denote.Enum.Declared.{tag_of}
use types.Run.{OneOf, miss}
use Rattle.answer.specs.declared.TypeNo.{TypeNo}
use Rattle.tplt.specs.Params.{type_param, i32_param, u32_param, param_of, params_of, is_known, is_typed, types_known, alone, before, paired, form_of, arguments_of, count_of}
use Rattle.tplt.specs.inner.Steps.{Below, param_at}
use Rattle.tplt.specs.declared.param.TpltParam.{TpltParam}
use Rattle.tplt.specs.declared.param.TpltParam.TheVariants.{Typed, NoType, AbstractInt, I32, U32, Other}
use Rattle.tplt.specs.declared.param.Arguments.{Arguments}
use Rattle.tplt.specs.declared.param.Arguments.TheVariants.{Two}
use Rattle.std.specs.Prelude.{Option, Some, None, Err}
use Rattle.answer.specs.declared.Reason.TheVariants.{Count}
use Rattle.tplt.specs.contracts.param.TpltParam.{the_type}

-- a list of one pair, of two, and of any other length
pub list-one : (n : ℕ) (xs : List ℤ) → length xs ≡ 2 → arguments_of n xs ≡ alone (param_at n xs 0)
unfolding arguments_of params_of
list-one n [] q = absurd (omega arith)
list-one n (a ∷ []) q = absurd (omega arith)
list-one n (a ∷ b ∷ []) q = refl
list-one n (a ∷ b ∷ c ∷ t) q = absurd (omega arith)

pub list-two : (n : ℕ) (xs : List ℤ) → length xs ≡ 4
    → arguments_of n xs ≡ paired (param_at n xs 0) (param_at n xs 2)
unfolding arguments_of params_of
list-two n [] q = absurd (omega arith)
list-two n (a ∷ []) q = absurd (omega arith)
list-two n (a ∷ b ∷ []) q = absurd (omega arith)
list-two n (a ∷ b ∷ c ∷ []) q = absurd (omega arith)
list-two n (a ∷ b ∷ c ∷ d ∷ []) q = refl
list-two n (a ∷ b ∷ c ∷ d ∷ e ∷ t) q = absurd (omega arith)

-- a type comes first, and then another type or a literal
pub two_typed : (p q : TpltParam) → is_typed q ≡ true → paired p q ≡ None
two_typed p q h = rw h

pub two-literal : (t : TypeNo) (q : TpltParam) → is_typed q ≡ false → paired (Typed t) q ≡ Some (Two t q)
two-literal t q h = rw h

either : (b : Bool) → cond {A = Option Arguments} b None None ≡ None
either true = refl
either false = refl

pub list-other : (n : ℕ) (xs : List ℤ) → (length xs ≡ 2 → ⊥) → (length xs ≡ 4 → ⊥) → arguments_of n xs ≡ None
unfolding arguments_of params_of
list-other n [] p q = refl
list-other n (a ∷ []) p q = refl
list-other n (a ∷ b ∷ []) p q = absurd (p refl)
list-other n (a ∷ b ∷ c ∷ []) p q = refl
list-other n (a ∷ b ∷ c ∷ d ∷ []) p q = absurd (q refl)
list-other n (a ∷ b ∷ c ∷ d ∷ e ∷ []) p q = refl
list-other n (a ∷ b ∷ c ∷ d ∷ e ∷ f ∷ t) p q = either (eqb (length (a ∷ b ∷ c ∷ d ∷ e ∷ f ∷ t) % 2) 0)

-- THE CASES THAT A MATCH LEAVES, BY THEIR NUMBERS

pub known-other : (p : TpltParam) → OneOf (0 ∷ 2 ∷ 3 ∷ 4 ∷ 5 ∷ []) (tag_of the_type p) → true ≡ is_known p
known-other (Typed t) h = refl
known-other NoType h = absurd (miss (0 ∷ 2 ∷ 3 ∷ 4 ∷ 5 ∷ []) 1 tt h)
known-other (AbstractInt k) h = refl
known-other (I32 k) h = refl
known-other (U32 k) h = refl
known-other Other h = refl

pub typed-other : (p : TpltParam) → OneOf (2 ∷ 3 ∷ 4 ∷ 5 ∷ []) (tag_of the_type p) → false ≡ is_typed p
typed-other (Typed t) h = absurd (miss (2 ∷ 3 ∷ 4 ∷ 5 ∷ []) 0 tt h)
typed-other NoType h = absurd (miss (2 ∷ 3 ∷ 4 ∷ 5 ∷ []) 1 tt h)
typed-other (AbstractInt k) h = refl
typed-other (I32 k) h = refl
typed-other (U32 k) h = refl
typed-other Other h = refl

pub alone-other : (p : TpltParam) → OneOf (1 ∷ 2 ∷ 3 ∷ 4 ∷ 5 ∷ []) (tag_of the_type p) → alone p ≡ None
alone-other (Typed t) h = absurd (miss (1 ∷ 2 ∷ 3 ∷ 4 ∷ 5 ∷ []) 0 tt h)
alone-other NoType h = refl
alone-other (AbstractInt k) h = refl
alone-other (I32 k) h = refl
alone-other (U32 k) h = refl
alone-other Other h = refl

pub count-other : (p : TpltParam) → OneOf (0 ∷ 1 ∷ 5 ∷ []) (tag_of the_type p) → Err Count ≡ count_of p
unfolding count_of
count-other (Typed t) h = refl
count-other NoType h = refl
count-other (AbstractInt k) h = absurd (miss (0 ∷ 1 ∷ 5 ∷ []) 2 tt h)
count-other (I32 k) h = absurd (miss (0 ∷ 1 ∷ 5 ∷ []) 3 tt h)
count-other (U32 k) h = absurd (miss (0 ∷ 1 ∷ 5 ∷ []) 4 tt h)
count-other Other h = refl

-- A LIST WHOSE FIRST ARGUMENT IS NO TYPE

before-amiss : (p q : TpltParam) → alone p ≡ None → paired p q ≡ None
before-amiss p q h = go (is_typed q) p h
  where
    go : (b : Bool) (p : TpltParam) → alone p ≡ None → cond b None (before p q) ≡ None
    go true p h = refl
    go false (Typed t) h = absurd (let z : ◌≡◌ {A = ℕ} 0 1 = cc in omega arith)
    go false NoType h = refl
    go false (AbstractInt k) h = refl
    go false (I32 k) h = refl
    go false (U32 k) h = refl
    go false Other h = refl

pub list-untyped : (n : ℕ) (xs : List ℤ) → alone (param_at n xs 0) ≡ None → arguments_of n xs ≡ None
unfolding arguments_of params_of
list-untyped n [] h = refl
list-untyped n (a ∷ []) h = refl
list-untyped n (a ∷ b ∷ []) h = h
list-untyped n (a ∷ b ∷ c ∷ []) h = refl
list-untyped n (a ∷ b ∷ c ∷ d ∷ []) h = before-amiss (param_of n a b) (param_of n c d) h
list-untyped n (a ∷ b ∷ c ∷ d ∷ e ∷ []) h = refl
list-untyped n (a ∷ b ∷ c ∷ d ∷ e ∷ f ∷ t) h = either (eqb (length (a ∷ b ∷ c ∷ d ∷ e ∷ f ∷ t) % 2) 0)

-- THE PAIRS, ONE AFTER ANOTHER

-- from a place on
pub rest-pair : (n : ℕ) (xs : List ℤ) (at : ℕ) → at + 1 < length xs
    → params_of n (drop at xs) ≡ param_at n xs at ∷ params_of n (drop (at + 2) xs)
unfolding params_of
rest-pair n [] at l = absurd (omega arith)
rest-pair n (a ∷ []) at l = absurd (omega arith)
rest-pair n (a ∷ b ∷ t) zero l = refl
rest-pair n (a ∷ b ∷ t) (suc at) l =
    let one : suc at + 1 ≡ suc (at + 1) = omega arith in
    let two : suc at + 2 ≡ suc (at + 2) = omega arith in
    rw (one, two) (rest-pair n (b ∷ t) at (omega arith))

pub rest-none : (n : ℕ) (xs : List ℤ) (at : ℕ) → length xs ≤ at + 1 → params_of n (drop at xs) ≡ []
unfolding params_of
rest-none n [] zero l = refl
rest-none n [] (suc at) l = refl
rest-none n (a ∷ []) zero l = refl
rest-none n (a ∷ b ∷ t) zero l = absurd (omega arith)
rest-none n (a ∷ t) (suc at) l = rest-none n t at (omega arith)

-- THE NUMBER OF A TYPE ARGUMENT IS BELOW n

abbrev within : ℕ → TpltParam → Type 0
within n p = Below n (alone p)

type-within : (n : ℕ) → (v : ℤ) → within n (type_param n v)
unfolding type_param
type-within n (pos k) = go (ltb k n) refl
  where
    go : (b : Bool) → ltb k n ≡ b → within n (cond b (Typed (record { 0 = k })) NoType)
    go true e = ltb-true k n e
    go false e = tt
type-within n (negsuc k) = tt

i32-within : (n : ℕ) → (v : ℤ) → within n (i32_param v)
unfolding i32_param
i32-within n (pos k) = go (leb k 2147483647)
  where
    go : (b : Bool) → within n (cond b (I32 (pos k)) Other)
    go true = tt
    go false = tt
i32-within n (negsuc k) = go (leb k 2147483647)
  where
    go : (b : Bool) → within n (cond b (I32 (negsuc k)) Other)
    go true = tt
    go false = tt

u32-within : (n : ℕ) → (v : ℤ) → within n (u32_param v)
unfolding u32_param
u32-within n (pos k) = go (leb k 4294967295)
  where
    go : (b : Bool) → within n (cond b (U32 k) Other)
    go true = tt
    go false = tt
u32-within n (negsuc k) = tt

param-within : (n : ℕ) → (t v : ℤ) → within n (param_of n t v)
unfolding param_of
param-within n (pos t) v = go (eqb t 0) (eqb t 1) (eqb t 2) (eqb t 3)
  where
    go : (a b c d : Bool) → within n (cond a (type_param n v) (cond b (AbstractInt v) (cond c (i32_param v) (cond d (u32_param v) Other))))
    go true b c d = type-within n v
    go false true c d = tt
    go false false true d = i32-within n v
    go false false false true = u32-within n v
    go false false false false = tt
param-within n (negsuc t) v = tt

paired-within : (n : ℕ) → (p q : TpltParam) → within n p → Below n (paired p q)
paired-within n p q h = go (is_typed q) p h
  where
    go : (b : Bool) (p : TpltParam) → within n p → Below n (cond b None (before p q))
    go true p h = tt
    go false (Typed t) h = h
    go false NoType h = h
    go false (AbstractInt k) h = h
    go false (I32 k) h = h
    go false (U32 k) h = h
    go false Other h = h

form-within : (n : ℕ) → (xs : List ℤ) → Below n (form_of (params_of n xs))
unfolding params_of
form-within n [] = tt
form-within n (a ∷ []) = tt
form-within n (a ∷ b ∷ []) = param-within n a b
form-within n (a ∷ b ∷ c ∷ []) = param-within n a b
form-within n (a ∷ b ∷ c ∷ d ∷ []) = paired-within n (param_of n a b) (param_of n c d) (param-within n a b)
form-within n (a ∷ b ∷ c ∷ d ∷ e ∷ []) = paired-within n (param_of n a b) (param_of n c d) (param-within n a b)
form-within n (a ∷ b ∷ c ∷ d ∷ e ∷ f ∷ t) = tt

pub arguments-below : (n : ℕ) → (xs : List ℤ) → Below n (arguments_of n xs)
unfolding arguments_of
arguments-below n xs = go (eqb (length xs % 2) 0)
  where
    go : (b : Bool) → Below n (cond b (form_of (params_of n xs)) None)
    go true = form-within n xs
    go false = tt

-- the loop over the pairs: a number that is no type ends it, any other argument goes on, and no pair is left at the end
module _ (n : ℕ) (xs : List ℤ) (at : ℕ) where
  pub known-fails : at + 1 < length xs → is_known (param_at n xs at) ≡ false → types_known (params_of n (drop at xs)) ≡ false
  unfolding types_known
  known-fails l h = rw (rest-pair n xs at l, h)

  pub known_next : at + 1 < length xs → is_known (param_at n xs at) ≡ true
      → types_known (params_of n (drop at xs)) ≡ types_known (params_of n (drop (at + 2) xs))
  unfolding types_known
  known_next l h = rw (rest-pair n xs at l, h)

  pub known-end : length xs ≤ at + 1 → types_known (params_of n (drop at xs)) ≡ true
  unfolding types_known
  known-end l = rw (rest-none n xs at l)
