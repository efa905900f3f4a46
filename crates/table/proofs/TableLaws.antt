-- The laws of the table's definitions by which the loops go. Assumes nothing.
use Prim.Native.Nat.{ℕ, zero, suc, ◌+◌, ◌*◌, ◌≤◌, ◌<◌}
use mathlib.Core.Path.{◌≡◌, refl, ◌∙◌, ap}
use mathlib.Core.Bool.{Bool, true, false, ◌&&◌, cond}
use mathlib.Core.List.{List}
use mathlib.Core.Logic.{⊎_elim}
use native.Mathlib.Nat.{le_of_suc-le-suc, not-suc-le-zero, eq-or-lt_of_le}
use native.Mathlib.Numerals.{add-one}
use native.Mathlib.Omega.{arith}
use lib.ListN.{get_or}
use lib.Dec.{ltb}
use borrow.Author.Tests.{lt-ltb, le-ltb, ltb-true}
use Rattle.table.specs.Tools.{all_below}
use Rattle.table.specs.Table.{stride, entry_at, sameb, chain_by, chain, base_of, find_in}
use Rattle.table.specs.declared.Entry.{Entry}
use Rattle.answer.specs.declared.TypeNo.{TypeNo}
use Rattle.std.specs.Prelude.{Some, None}

-- the elem of entry j
abbrev pub elem_of : List ℕ → ℕ → ℕ
elem_of w j = get_or w (j * stride + 3) 0

-- the first f at which a test fails decides
module _ (f : ℕ → Bool) where
  pub all_none : all_below f 0 ≡ true
  unfolding all_below
  all_none = refl

  pub all_more : (i : ℕ) → all_below f i ≡ true → f i ≡ true → all_below f (i + 1) ≡ true
  unfolding all_below
  all_more i a h = rw (add-one, a, h)

  pub all-stop : (i n : ℕ) → f i ≡ false → i < n → all_below f n ≡ false
  unfolding all_below
  all-stop i zero h l = absurd (not-suc-le-zero l)
  all-stop i (suc n) h l = go (all-stop i n h)
    where
      no-right : (b : Bool) → (b && false) ≡ false
      no-right true = refl
      no-right false = refl

      go : (i < n → all_below f n ≡ false) → (all_below f n && f n) ≡ false
      go ih =
          ⊎_elim (λ e. rw (← e, h) (no-right (all_below f i))) (λ lt. rw (ih lt)) (eq-or-lt_of_le (le_of_suc-le-suc l))

-- the chain of elems, over whatever is made along it

module _ {A : Type 0} (leaf : ℕ → A) (node : Entry → A → A) (w : List ℕ) where
  -- more fuel than the number changes nothing
  chain-fuel : (f g j : ℕ) → j ≤ f → j ≤ g → chain_by leaf node w f j ≡ chain_by leaf node w g j
  unfolding chain_by
  chain-fuel zero zero j p q = refl
  chain-fuel zero (suc g) j p q = rw (lt-ltb j 7 (omega arith))
  chain-fuel (suc f) zero j p q = rw (lt-ltb j 7 (omega arith))
  chain-fuel (suc f) (suc g) j p q =
      ap (λ x. cond (ltb j 7) (leaf j) x) (go (ltb (elem_of w j) j) refl (chain-fuel f g (elem_of w j)))
    where
      go : (b : Bool) → ltb (elem_of w j) j ≡ b → (elem_of w j ≤ f → elem_of w j ≤ g → chain_by leaf node w f (elem_of w j) ≡ chain_by leaf node w g (elem_of w j)) →
          cond b (node (entry_at w j) (chain_by leaf node w f (elem_of w j))) (leaf j) ≡ cond b (node (entry_at w j) (chain_by leaf node w g (elem_of w j))) (leaf j)
      go true e ih = let h : elem_of w j < j = ltb-true _ _ e in ap (node (entry_at w j)) (ih (omega arith) (omega arith))
      go false e ih = refl

  more : (j : ℕ) → chain leaf node w j ≡ chain_by leaf node w (suc j) j
  unfolding chain
  more j = chain-fuel j (suc j) j (omega arith) (omega arith)

  pub chain-scalar : (j : ℕ) → j < 7 → chain leaf node w j ≡ leaf j
  unfolding chain_by
  chain-scalar j h = more j ∙ rw (lt-ltb j 7 h)

  pub chain-stop : (j : ℕ) → 7 ≤ j → j ≤ elem_of w j → chain leaf node w j ≡ leaf j
  unfolding chain_by
  chain-stop j h k = more j ∙ rw (le-ltb j 7 h, le-ltb (elem_of w j) j k)

  step : (j : ℕ) → 7 ≤ j → elem_of w j < j → chain_by leaf node w (suc j) j ≡ node (entry_at w j) (chain_by leaf node w j (elem_of w j))
  unfolding chain_by
  step j h k = rw (le-ltb j 7 h, lt-ltb (elem_of w j) j k)

  pub chain-step : (j : ℕ) → 7 ≤ j → elem_of w j < j → chain leaf node w j ≡ node (entry_at w j) (chain leaf node w (elem_of w j))
  unfolding chain
  chain-step j h k = more j ∙ step j h k ∙ ap (node (entry_at w j)) (chain-fuel j (elem_of w j) (elem_of w j) (omega arith) (omega arith))

module _ (w : List ℕ) (j : ℕ) where
  pub base-scalar : j < 7 → base_of w j ≡ j
  unfolding base_of
  base-scalar h = chain-scalar _ _ w j h

  pub base-stop : 7 ≤ j → j ≤ elem_of w j → base_of w j ≡ j
  unfolding base_of
  base-stop h k = chain-stop _ _ w j h k

  pub base_step : 7 ≤ j → elem_of w j < j → base_of w j ≡ base_of w (elem_of w j)
  unfolding base_of
  base_step h k = chain-step _ _ w j h k

module _ (w : List ℕ) (e : Entry) where
  pub find_none : find_in w 0 e ≡ None
  unfolding find_in
  find_none = refl

  pub find-more : (i : ℕ) → find_in w i e ≡ None → sameb (entry_at w i) e ≡ false → find_in w (i + 1) e ≡ None
  unfolding find_in
  find-more i a h = rw (add-one, a, h)

  find-here : (i : ℕ) → find_in w i e ≡ None → sameb (entry_at w i) e ≡ true → find_in w (suc i) e ≡ Some (record { 0 = i })
  unfolding find_in
  find-here i a h = rw (a, h)

  find-keep : (t : TypeNo) (n : ℕ) → find_in w n e ≡ Some t → find_in w (suc n) e ≡ Some t
  unfolding find_in
  find-keep t n h = rw h

  pub find-stop : (i n : ℕ) → find_in w i e ≡ None → sameb (entry_at w i) e ≡ true → i < n → find_in w n e ≡ Some (record { 0 = i })
  find-stop i zero a h l = absurd (not-suc-le-zero l)
  find-stop i (suc n) a h l = go (find-stop i n a h)
    where
      go : (i < n → find_in w n e ≡ Some (record { 0 = i })) → find_in w (suc n) e ≡ Some (record { 0 = i })
      go ih = ⊎_elim (λ q. rw (← q) (find-here i a h)) (λ lt. find-keep _ n (ih lt)) (eq-or-lt_of_le (le_of_suc-le-suc l))
