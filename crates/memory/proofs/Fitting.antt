-- Value operands of a call on atomics: whether each converts to the component, by its number; and what the judgment of the call comes to. Assumes nothing.
use Prim.Native.Nat.{ℕ, zero, suc, ◌<◌}
use native.Mathlib.Nat.{not-suc-le-zero}
use native.Mathlib.Omega.{arith}
use mathlib.Core.Path.{◌≡◌, refl, sym, ◌∙◌, ap}
use mathlib.Core.Bool.{Bool, true, false, ◌&&◌, cond}
use mathlib.Core.List.{List, [], ◌∷◌, map}
use lib.Dec.{eqb, ltb}
use lib.ListN.{length, get_or, length-map}
use borrow.Author.Tests.{ltb-true, lt-ltb, le-ltb, eqb-true, eq-eqb}
use Rattle.std.specs.Prelude.{Option, Some, None}
use Rattle.std.proofs.lemmas.Option.{none-some, same_Some}
use Rattle.conv.specs.Types.{Ty, formed, is_width}
use Rattle.conv.specs.Types.Ty.{scalar, vec, mat, array, runtime, atomic, ptr, ref, frexp, modf, exchange}
use Rattle.conv.specs.Rank.{pick, both, none, rank_of, shape_of, component_of, tag_of, first_of, second_of, same_ty, conversion_rank, converts}
use Rattle.held.specs.Held.{number_of}
use Rattle.overload.specs.Overload.{fits}
use Rattle.overload.specs.Overload.Judged.{gives, none_fits}
use Rattle.overload.specs.Rows.{values, takes_atomic, atomic_in, judge_atomic}
use Rattle.overload.specs.inner.Code.{code_of}
use Rattle.overload.proofs.Operands.{code-scalar, code-vec, code-mat, code_other, between, and_left, and_right}
use Rattle.overload.proofs.Memory.{integer-small, taken-formed}
use Rattle.table.specs.Denote.{type_at}
use Rattle.memory.specs.inner.Component.{atomic_component}

-- ONE OPERAND

-- from a scalar the rank is the board's
scalar-rank : (k s : ℕ) → k < 7 → conversion_rank (scalar k) (scalar s) ≡ rank_of k s
unfolding conversion_rank same_ty tag_of first_of second_of shape_of component_of both rank_of
scalar-rank k s l = go (eqb s k) refl
  where
    own : s ≡ k → rank_of k s ≡ 0
    own e = rw (lt-ltb k 7 l, e, eq-eqb k k refl)

    go : (b : Bool) → eqb s k ≡ b → pick (both b true) 0 (rank_of k s) ≡ rank_of k s
    go true e = sym (own (eqb-true s k e))
    go false e = refl

-- no other type converts to a scalar
module _ (s : ℕ) where
  pub by_code : (t : Ty) → formed t ≡ true → converts t (scalar s) ≡ (ltb (code_of t) 7 && ltb (rank_of (code_of t) s) none)
  unfolding conversion_rank same_ty tag_of first_of second_of shape_of component_of both formed
  by_code (scalar k) h =
      let l = ltb-true k 7 h in
      ap (λ (r : ℕ). ltb r none) (scalar-rank k s l) ∙ sym (rw (code-scalar k, lt-ltb k 7 l))
  by_code (vec n k) h =
      let e = code-vec n k (and_left (is_width n) _ h) in
      let b = between n (and_left (is_width n) _ h) in
      let lo = b.0 in
      sym (rw (le-ltb (code_of (vec n k)) 7 (omega arith)))
  by_code (mat c r k) h =
      let hc = and_left (is_width c) _ (and_left (is_width c && is_width r) _ h) in
      let hr = and_right (is_width c) _ (and_left (is_width c && is_width r) _ h) in
      let e = code-mat c r k hc hr in
      let b = between c hc in
      let d = between r hr in
      let lo = b.0 in
      let lo2 = d.0 in
      sym (rw (le-ltb (code_of (mat c r k)) 7 (omega arith)))
  by_code (array k t) h = sym (rw (code_other (array k t) refl))
  by_code (runtime t) h = sym (rw (code_other (runtime t) refl))
  by_code (atomic k) h = sym (rw (code_other (atomic k) refl))
  by_code (ptr a b t) h = sym (rw (code_other (ptr a b t) refl))
  by_code (ref a b t) h = sym (rw (code_other (ref a b t) refl))
  by_code (frexp t) h = sym (rw (code_other (frexp t) refl))
  by_code (modf t) h = sym (rw (code_other (modf t) refl))
  by_code (exchange k) h = sym (rw (code_other (exchange k) refl))

-- ALL OF THEM

module _ (w : List ℕ) (s : ℕ) where
  abbrev pub goes : ℕ → Bool
  goes v = converts (type_at w (number_of v)) (scalar s)

  pub all_fit : (vs : List ℕ) → ((i : ℕ) → i < length vs → goes (get_or vs i 0) ≡ true) → fits (values (length vs) s) (map (type_at w) (map number_of vs)) ≡ true
  unfolding fits values both
  all_fit [] h = refl
  all_fit (v ∷ vs) h = rw (h 0 (omega arith), all_fit vs (λ i l. h (suc i) (omega arith)))

  pub one-does-not : (vs : List ℕ) (i : ℕ) → i < length vs → goes (get_or vs i 0) ≡ false → fits (values (length vs) s) (map (type_at w) (map number_of vs)) ≡ false
  unfolding fits values both
  one-does-not [] i l h = absurd (not-suc-le-zero l)
  one-does-not (v ∷ vs) zero l h = ap (λ (b : Bool). both b (fits (values (length vs) s) (map (type_at w) (map number_of vs)))) h
  one-does-not (v ∷ vs) (suc i) l h = ap (both (goes v)) (one-does-not vs i (omega arith) h) ∙ both-no (goes v)
    where
      both-no : (b : Bool) → both b false ≡ false
      both-no true = refl
      both-no false = refl

-- THE COMPONENT, from what the pointer and the values say

module _ (x : Ty) where
  abbrev pub pointed_by : Option ℕ
  pointed_by = cond (takes_atomic x) (Some (atomic_in x)) None

  -- there is none exactly where no call takes the pointer
  pub pointed-none : pointed_by ≡ None → takes_atomic x ≡ false
  pointed-none h = go (takes_atomic x) h
    where
      go : (b : Bool) → cond {A = Option ℕ} b (Some (atomic_in x)) None ≡ None → b ≡ false
      go true e = absurd (none-some _ (sym e))
      go false e = refl

  pub pointed-some : (s : ℕ) → pointed_by ≡ Some s → (takes_atomic x ≡ true) × (s ≡ atomic_in x)
  pointed-some s h = go (takes_atomic x) h
    where
      go : (b : Bool) → cond {A = Option ℕ} b (Some (atomic_in x)) None ≡ Some s → (b ≡ true) × (s ≡ atomic_in x)
      go true e = (refl, sym (same_Some _ _ e))
      go false e = absurd (none-some _ e)

  pub pointed-small : formed x ≡ true → (s : ℕ) → pointed_by ≡ Some s → s < 7
  pointed-small f s h = let p = pointed-some s h in rw p.1 (integer-small (atomic_in x) (taken-formed x f p.0))

  module _ (xs : List Ty) where
    pub no_pointer : pointed_by ≡ None → None ≡ atomic_component x xs
    no_pointer h = sym (rw (pointed-none h) refl)

    -- the values fit the component, or one does not
    pub by_values : (s : ℕ) → pointed_by ≡ Some s → (b : Bool) → fits (values (length xs) s) xs ≡ b → cond {A = Option ℕ} b (Some s) None ≡ atomic_component x xs
    by_values s h b fit =
        let p = pointed-some s h in
        let same : fits (values (length xs) (atomic_in x)) xs ≡ b = rw p.1 at fit in
        sym (rw (p.0, same, p.1) refl)

    -- WHAT THE CALL IS JUDGED BY IT

    module _ (out : ℕ → Ty) where
      pub judged-none : atomic_component x xs ≡ None → judge_atomic (length xs) out (x ∷ xs) ≡ none_fits
      unfolding judge_atomic
      judged-none h = go (takes_atomic x && fits (values (length xs) (atomic_in x)) xs) h
        where
          go : (b : Bool) → cond {A = Option ℕ} b (Some (atomic_in x)) None ≡ None → cond b (gives (out (atomic_in x))) none_fits ≡ none_fits
          go true e = absurd (none-some _ (sym e))
          go false e = refl

      pub judged-some : (s : ℕ) → atomic_component x xs ≡ Some s → judge_atomic (length xs) out (x ∷ xs) ≡ gives (out s)
      unfolding judge_atomic
      judged-some s h = go (takes_atomic x && fits (values (length xs) (atomic_in x)) xs) h
        where
          go : (b : Bool) → cond {A = Option ℕ} b (Some (atomic_in x)) None ≡ Some s → cond b (gives (out (atomic_in x))) none_fits ≡ gives (out s)
          go true e = ap (λ (k : ℕ). gives (out k)) (same_Some _ _ e)
          go false e = absurd (none-some _ e)

    pub component-formed : formed x ≡ true → (s : ℕ) → atomic_component x xs ≡ Some s → formed (atomic s) ≡ true
    component-formed f s h = go (takes_atomic x) refl (fits (values (length xs) (atomic_in x)) xs) h
      where
        go : (a : Bool) → takes_atomic x ≡ a → (b : Bool) → cond {A = Option ℕ} (a && b) (Some (atomic_in x)) None ≡ Some s → formed (atomic s) ≡ true
        go true e true h = ap (λ (k : ℕ). formed (atomic k)) (sym (same_Some _ _ h)) ∙ taken-formed x f e
        go true e false h = absurd (none-some _ h)
        go false e b h = absurd (none-some _ h)

-- THE SAME over a table, of operands by their numbers

module _ (w : List ℕ) (x : Ty) (vs : List ℕ) where
  abbrev types : List Ty
  types = map (type_at w) (map number_of vs)

  pub counted : length types ≡ length vs
  counted = length-map (map number_of vs) (type_at w) ∙ length-map vs number_of

  pub values-here : (s : ℕ) → pointed_by x ≡ Some s → (b : Bool) → fits (values (length vs) s) types ≡ b → cond {A = Option ℕ} b (Some s) None ≡ atomic_component x types
  values-here s h b f = by_values x types s h b (ap (λ (k : ℕ). fits (values k s) types) counted ∙ f)

  module _ (out : ℕ → Ty) where
    as-counted : judge_atomic (length vs) out (x ∷ types) ≡ judge_atomic (length types) out (x ∷ types)
    as-counted = ap (λ (k : ℕ). judge_atomic k out (x ∷ types)) (sym counted)

    pub none_here : atomic_component x types ≡ None → none_fits ≡ judge_atomic (length vs) out (x ∷ types)
    none_here h = sym (as-counted ∙ judged-none x types out h)

    pub some-here : (s : ℕ) → atomic_component x types ≡ Some s → gives (out s) ≡ judge_atomic (length vs) out (x ∷ types)
    some-here s h = sym (as-counted ∙ judged-some x types out s h)
