-- The sets at which operands fit a family, narrowed operand by operand: what is joined and left so far, with the operands that are left, fits as the whole does.
-- Assumes nothing.
use Rattle.std.proofs.Common.{◌≡◌, ℕ, zero, suc, ◌+◌, ◌*◌, ◌/◌, ◌%◌, ◌<◌, ◌≤◌, Bool, true, false, T, eqb, ltb, ◌≢◌, List, [], ◌∷◌, map, length, get_or, drop, sym, refl, ap, ◌∙◌, subst, le_of_suc-le-suc, add-one, arith, ltb→lt, drop_of_length-le, drop-cons, eq-eqb, ne_eqb}
use lib.Bits.{bit_and}
use Rattle.std.specs.Prelude.{Option, Some, None, MatchOption, ⊤}
use Rattle.conv.specs.Rank.{both, converts}
use Rattle.conv.proofs.Finite.{both_left, both_right}
use Rattle.overload.specs.Overload.{fits}
use Rattle.overload.specs.Rows.{Size, Pattern, Form, Component, form_at, component_at, pattern_ty, N}
use Rattle.overload.specs.inner.Code.{shape_no, operand, size_of_no, mem_size, form_of_no, component_of_no, pattern_of, asked_of, family_of, digit_of, has, reaches, allows, slot_t, slot_i, fits_at}
use Rattle.overload.proofs.Preference.{fine}
use Rattle.overload.proofs.Families.{good, Fair, every, mem-size}
use Rattle.overload.proofs.Fitting.{fine-at}
use Rattle.overload.proofs.Sets.{has-and, has_all}
use Rattle.overload.proofs.Slots.{form-back, form-below, component-back, component-below, form-digit, component-digit, slot-no, slot-sets, slot-T-is, slot-I-any}

-- do the operands from k on fit the parameters from k on?
abbrev pub rest_at : ℕ → ℕ → ℕ → ℕ → List ℕ → ℕ → Bool
rest_at f n t i xs k = fits (map (pattern_ty (size_of_no n) t i) (drop k (family_of f).params)) (map operand (drop k xs))

rest-cons : (z : Size) (t i : ℕ) (ps : List Pattern) (xs : List ℕ) (k : ℕ) → k < length ps → k < length xs
    → fits (map (pattern_ty z t i) (drop k ps)) (map operand (drop k xs))
    ≡ both (converts (operand (get_or xs k 0)) (pattern_ty z t i (get_or ps k N))) (fits (map (pattern_ty z t i) (drop (k + 1) ps)) (map operand (drop (k + 1) xs)))
unfolding fits
rest-cons z t i ps xs k hp hx = rw (add-one, drop-cons ps k N hp, drop-cons xs k 0 hx)

rest_end : (f n t i : ℕ) (xs : List ℕ) (k : ℕ) → length (family_of f).params ≤ k → length xs ≤ k → rest_at f n t i xs k ≡ true
unfolding fits
rest_end f n t i xs k hp hx = rw (drop_of_length-le (family_of f).params hp, drop_of_length-le xs hx)

-- what the loop carries
pub record Narrowed (f n : ℕ) (xs : List ℕ) (j : Option ℕ) (m v k : ℕ) : Type 0 where
  pub within : k ≤ length xs
  pub join : MatchOption j ⊤ (λ s. s < 7)
  pub rest : (t i : ℕ) → t < 7 → i < 7 → both (allows j t) (both (has m t) (both (has v i) (rest_at f n t i xs k))) ≡ fits_at (family_of f) n t i xs

pub narrowed-as : {f n : ℕ} {xs : List ℕ} {j j' : Option ℕ} {m m' v v' k : ℕ} → j ≡ j' → m ≡ m' → v ≡ v' → Narrowed f n xs j' m' v' k → Narrowed f n xs j m v k
narrowed-as {f} {n} {xs} {j} {j'} {m} {m'} {v} {v'} {k} a b c g =
    subst (λ (x : Option ℕ). Narrowed f n xs x m v k) (sym a) (subst (λ (x : ℕ). Narrowed f n xs j' x v k) (sym b) (subst (λ (x : ℕ). Narrowed f n xs j' m' x k) (sym c) g))

every-shape : (z : Size) (ps : List Pattern) → T (every (λ p. ltb (shape_no (form_at p.form z)) 13) ps) → (k : ℕ) → k < length ps → shape_no (form_at (get_or ps k N).form z) < 13
unfolding every
every-shape z [] h k l = absurd (omega arith)
every-shape z (p ∷ ps) h zero l = ltb→lt _ 13 (both_left _ _ h)
every-shape z (p ∷ ps) h (suc k) l = every-shape z ps (both_right (ltb (shape_no (form_at p.form z)) 13) _ h) k (le_of_suc-le-suc l)

-- the algebra of one step: at T, and at another component
step-T : (a m v s i r : Bool) → i ≡ true → both (both a s) (both m (both v r)) ≡ both a (both m (both v (both (both s i) r)))
unfolding both
step-T false m v s i r e = refl
step-T true m v true true r e = refl
step-T true true true false i r e = refl
step-T true true false false i r e = refl
step-T true false v false i r e = refl
step-T true m v true false r e = absurd (subst T (sym e) tt)

step_other : (a m v s i r : Bool) → both a (both (both m s) (both (both v i) r)) ≡ both a (both m (both v (both (both s i) r)))
unfolding both
step_other false m v s i r = refl
step_other true false v s i r = refl
step_other true true false true i r = refl
step_other true true false false i r = refl
step_other true true true true i r = refl
step_other true true true false i r = refl

lost : (a m v r : Bool) → both a (both m (both v (both false r))) ≡ false
unfolding both
lost true true true r = refl
lost true true false r = refl
lost true false v r = refl
lost false m v r = refl

ended : (a m v : Bool) → both a (both m (both v true)) ≡ both (both m a) v
unfolding both
ended true true true = refl
ended true true false = refl
ended true false v = refl
ended false true v = refl
ended false false v = refl

module _ (f n : ℕ) (xs : List ℕ) (hn : n < 41) (mn : T (mem_size (size_of_no n) (family_of f).sizes)) (count : length xs ≡ length (family_of f).params) where
  fair : Fair (family_of f) (size_of_no n)
  fair = (good f).fair (size_of_no n) (mem-size (size_of_no n) (family_of f).sizes mn)

  module _ (k : ℕ) (hk : k < length xs) where
    k-few : k < 4
    k-few = let g = (good f).few in omega arith

    hp : k < length (family_of f).params
    hp = omega arith

    fine-here : T (fine (family_of f).set (get_or (family_of f).params k N).of)
    fine-here = fine-at (family_of f).set (family_of f).params (good f).small k hp

    -- the numbers of the parameter
    pub few : k < 4
    few = k-few

    pub form_small : digit_of f (2 * k + 1) < 7
    form_small = rw (form-digit f k k-few) (form-below (get_or (family_of f).params k N).form)

    pub component-small : digit_of f (2 * k + 2) < 10
    component-small = rw (component-digit f k k-few) (component-below (family_of f).set (get_or (family_of f).params k N).of fine-here)

    form-is : form_of_no (digit_of f (2 * k + 1)) ≡ (get_or (family_of f).params k N).form
    form-is = ap form_of_no (form-digit f k k-few) ∙ form-back (get_or (family_of f).params k N).form

    component-is : component_of_no (digit_of f (2 * k + 2)) ≡ (get_or (family_of f).params k N).of
    component-is = ap component_of_no (component-digit f k k-few) ∙ component-back (family_of f).set (get_or (family_of f).params k N).of fine-here

    pattern-is : pattern_of (digit_of f (2 * k + 1)) (digit_of f (2 * k + 2)) ≡ get_or (family_of f).params k N
    pattern-is = λ i. record { form = form-is i; of = component-is i }

    pub shape-small : asked_of (digit_of f (2 * k + 1)) n < 13
    unfolding asked_of
    shape-small = subst (λ (q : Form). shape_no (form_at q (size_of_no n)) < 13) (sym form-is) (every-shape (size_of_no n) (family_of f).params fair.params k hp)

    -- the rest from here: this parameter, and the rest after it
    module _ (hx : get_or xs k 0 < 256) (t i : ℕ) (ht : t < 7) (hi : i < 7) where
      here : rest_at f n t i xs k
          ≡ both (both (eqb (get_or xs k 0 / 7) (asked_of (digit_of f (2 * k + 1)) n)) (reaches (get_or xs k 0 % 7) (component_at (component_of_no (digit_of f (2 * k + 2))) t i))) (rest_at f n t i xs (k + 1))
      here =
          rest-cons (size_of_no n) t i (family_of f).params xs k hp hk
          ∙ ap (λ (b : Bool). both b (rest_at f n t i xs (k + 1)))
          (ap (λ (q : Pattern). converts (operand (get_or xs k 0)) (pattern_ty (size_of_no n) t i q)) (sym pattern-is)
          ∙ slot-no (family_of f).set (get_or xs k 0) n t i (digit_of f (2 * k + 1)) (digit_of f (2 * k + 2)) hx hn fair.sized ht hi form_small
          (subst (λ (c : Component). T (fine (family_of f).set c)) (sym component-is) fine-here))

      -- an operand of another shape
      other : get_or xs k 0 / 7 ≢ asked_of (digit_of f (2 * k + 1)) n → rest_at f n t i xs k ≡ both false (rest_at f n t i xs (k + 1))
      unfolding both
      other h = here ∙ rw (ne_eqb _ _ h)

      -- and of the parameter's
      same : get_or xs k 0 / 7 ≡ asked_of (digit_of f (2 * k + 1)) n
          → rest_at f n t i xs k ≡ both (both (slot_t (digit_of f (2 * k + 2)) (get_or xs k 0 % 7) t) (slot_i (digit_of f (2 * k + 2)) (get_or xs k 0 % 7) i)) (rest_at f n t i xs (k + 1))
      unfolding both
      same h =
          here
          ∙ ap (λ (b : Bool). both (both b (reaches (get_or xs k 0 % 7) (component_at (component_of_no (digit_of f (2 * k + 2))) t i))) (rest_at f n t i xs (k + 1))) (eq-eqb _ _ h)
          ∙ ap (λ (b : Bool). both b (rest_at f n t i xs (k + 1))) (slot-sets (digit_of f (2 * k + 2)) (get_or xs k 0 % 7) t i)

  pub start : Narrowed f n xs None 127 127 0
  unfolding both
  start =
      record {
        within = omega arith;
        join = tt;
        rest = λ t i ht hi. rw (has_all t ht, has_all i hi);
      }

  module _ (j : Option ℕ) (m v k : ℕ) (g : Narrowed f n xs j m v k) (hk : k < length xs) (hx : get_or xs k 0 < 256) where
    pub apart : get_or xs k 0 / 7 ≢ asked_of (digit_of f (2 * k + 1)) n → (t i : ℕ) → t < 7 → i < 7 → fits_at (family_of f) n t i xs ≡ false
    unfolding both
    apart h t i ht hi =
        sym (g.rest t i ht hi)
        ∙ ap (λ (b : Bool). both (allows j t) (both (has m t) (both (has v i) b))) (other k hk hx t i ht hi h)
        ∙ lost (allows j t) (has m t) (has v i) (rest_at f n t i xs (k + 1))

    module _ (h : get_or xs k 0 / 7 ≡ asked_of (digit_of f (2 * k + 1)) n) where
      -- at T
      module _ (e : digit_of f (2 * k + 2) ≡ 9) where
        narrow-T : (t i : ℕ) → t < 7 → i < 7
            → both (both (allows j t) (reaches (get_or xs k 0 % 7) t)) (both (has m t) (both (has v i) (rest_at f n t i xs (k + 1)))) ≡ fits_at (family_of f) n t i xs
        narrow-T t i ht hi =
            ap (λ (c : Bool). both c (both (has m t) (both (has v i) (rest_at f n t i xs (k + 1))))) (ap (both (allows j t)) (sym (slot-T-is (digit_of f (2 * k + 2)) (get_or xs k 0 % 7) t e)))
            ∙ step-T (allows j t) (has m t) (has v i) (slot_t (digit_of f (2 * k + 2)) (get_or xs k 0 % 7) t) (slot_i (digit_of f (2 * k + 2)) (get_or xs k 0 % 7) i) (rest_at f n t i xs (k + 1)) (slot-I-any (digit_of f (2 * k + 2)) (get_or xs k 0 % 7) i (λ q. omega arith))
            ∙ ap (λ (c : Bool). both (allows j t) (both (has m t) (both (has v i) c))) (sym (same k hk hx t i ht hi h))
            ∙ g.rest t i ht hi

        pub next-T : (r : ℕ) → ((t : ℕ) → t < 7 → reaches r t ≡ both (allows j t) (reaches (get_or xs k 0 % 7) t)) → r < 7 → Narrowed f n xs (Some r) m v (k + 1)
        next-T r er hr =
            record {
              within = omega arith;
              join = hr;
              rest = λ t i ht hi. ap (λ (c : Bool). both c (both (has m t) (both (has v i) (rest_at f n t i xs (k + 1))))) (er t ht) ∙ narrow-T t i ht hi;
            }

        -- where nothing joins nothing fits
        pub no_join : ((t : ℕ) → t < 7 → both (allows j t) (reaches (get_or xs k 0 % 7) t) ≡ false) → (t i : ℕ) → t < 7 → i < 7 → fits_at (family_of f) n t i xs ≡ false
        unfolding both
        no_join q t i ht hi = sym (narrow-T t i ht hi) ∙ ap (λ (c : Bool). both c (both (has m t) (both (has v i) (rest_at f n t i xs (k + 1))))) (q t ht)

      -- at another component
      module _ (a b : ℕ) (ea : (t : ℕ) → t < 7 → has a t ≡ slot_t (digit_of f (2 * k + 2)) (get_or xs k 0 % 7) t) (eb : (i : ℕ) → i < 7 → has b i ≡ slot_i (digit_of f (2 * k + 2)) (get_or xs k 0 % 7) i) where
        narrow-other : (t i : ℕ) → t < 7 → i < 7 → both (allows j t) (both (has (bit_and m a) t) (both (has (bit_and v b) i) (rest_at f n t i xs (k + 1)))) ≡ fits_at (family_of f) n t i xs
        narrow-other t i ht hi =
            (λ l. both (allows j t) (both ((has-and m a t ∙ ap (both (has m t)) (ea t ht)) l) (both ((has-and v b i ∙ ap (both (has v i)) (eb i hi)) l) (rest_at f n t i xs (k + 1)))))
            ∙ step_other (allows j t) (has m t) (has v i) (slot_t (digit_of f (2 * k + 2)) (get_or xs k 0 % 7) t) (slot_i (digit_of f (2 * k + 2)) (get_or xs k 0 % 7) i) (rest_at f n t i xs (k + 1))
            ∙ ap (λ (c : Bool). both (allows j t) (both (has m t) (both (has v i) c))) (sym (same k hk hx t i ht hi h))
            ∙ g.rest t i ht hi

        pub next-other : Narrowed f n xs j (bit_and m a) (bit_and v b) (k + 1)
        next-other = record { within = omega arith; join = g.join; rest = narrow-other }

  module _ (j : Option ℕ) (m v k : ℕ) (g : Narrowed f n xs j m v k) (hk : length xs ≤ k) (a : ℕ) (ea : (t : ℕ) → t < 7 → has a t ≡ allows j t) where
    pub finish : (t i : ℕ) → t < 7 → i < 7 → fits_at (family_of f) n t i xs ≡ both (has (bit_and m a) t) (has v i)
    finish t i ht hi =
        sym (g.rest t i ht hi)
        ∙ ap (λ (b : Bool). both (allows j t) (both (has m t) (both (has v i) b))) (rest_end f n t i xs k (omega arith) hk)
        ∙ ended (allows j t) (has m t) (has v i)
        ∙ ap (λ (b : Bool). both b (has v i)) (ap (both (has m t)) (sym (ea t ht)) ∙ sym (has-and m a t))
