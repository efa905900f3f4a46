-- What a rank or a common type is as the code answers it: nothing exactly where there is no conversion, else the number itself. Assumes nothing.
use Prim.Native.Nat.{ℕ, ◌<◌}
use mathlib.Core.Path.{◌≡◌, refl, sym, ◌∙◌, ap}
use mathlib.Core.Bool.{Bool, true, false, cond, not}
use mathlib.Core.Logic.{◌≢◌}
use lib.Dec.{eqb, ltb}
use borrow.Author.Tests.{eqb-true, eqb-false, ne_eqb, ltb-true, ltb-false}
use Rattle.std.specs.Prelude.{Option, Some, None, is_some, unwrap_or}
use Rattle.conv.specs.Rank.{both, none, rank_of, found}
use Rattle.conv.proofs.Finite.{same, same-eq, below₂}
use Rattle.conv.proofs.Ranks.{rank-from, rank-to}

pub found-nothing : (r : ℕ) → found r ≡ None → r ≡ none
found-nothing r e = go (eqb r none) refl e
  where
    go : (b : Bool) → eqb r none ≡ b → cond b None (Some r) ≡ None → r ≡ none
    go true q p = eqb-true r none q
    go false q p = absurd cc

pub found-it : (r s : ℕ) → found r ≡ Some s → r ≡ s
found-it r s e = go (eqb r none) e
  where
    go : (b : Bool) → cond b None (Some r) ≡ Some s → r ≡ s
    go true p = absurd cc
    go false p = cc

pub found-some : (r s : ℕ) → found r ≡ Some s → s ≢ none
found-some r s e = go (eqb r none) refl e
  where
    go : (b : Bool) → eqb r none ≡ b → cond b None (Some r) ≡ Some s → s ≢ none
    go true q p = absurd cc
    go false q p = λ k. eqb-false r none q (found-it r s e ∙ k)

pub found-there : (r : ℕ) → r ≢ none → found r ≡ Some r
found-there r h = ap (λ (b : Bool). cond {A = Option ℕ} b None (Some r)) (ne_eqb r none h)

-- whether it answers something
pub found-is : (r : ℕ) → is_some (found r) ≡ not (eqb r none)
found-is r = go (eqb r none)
  where
    go : (b : Bool) → is_some (cond b None (Some r)) ≡ not b
    go true = refl
    go false = refl

-- and the number again, none's where it answers nothing
pub found-or : (r : ℕ) → unwrap_or (found r) 255 ≡ r
found-or r = go (eqb r none) refl
  where
    go : (b : Bool) → eqb r none ≡ b → unwrap_or (cond b None (Some r)) 255 ≡ r
    go true q = sym (eqb-true r none q)
    go false q = refl

-- so a scalar converts to another exactly where its rank is answered
abbrev pub rank_found : ℕ → Bool
rank_found r = is_some (found r)

rank-test : (a b : ℕ) → a < 7 → b < 7 → rank_found (rank_of a b) ≡ ltb (rank_of a b) none
unfolding both same rank_of
rank-test a b ha hb = same-eq _ _ (below₂ 7 7 (λ a b. same (rank_found (rank_of a b)) (ltb (rank_of a b) none)) tt a b ha hb)

apart : (r : ℕ) → r ≡ none → rank_found r ≡ ltb r none
apart r e = ap rank_found e ∙ sym (ap (λ (k : ℕ). ltb k none) e)

pub rank-found : (a b : ℕ) → is_some (found (rank_of a b)) ≡ ltb (rank_of a b) none
rank-found a b = go (ltb a 7) refl (ltb b 7) refl
  where
    go : (x : Bool) → ltb a 7 ≡ x → (y : Bool) → ltb b 7 ≡ y → is_some (found (rank_of a b)) ≡ ltb (rank_of a b) none
    go false p y q = apart _ (rank-from a b (ltb-false a 7 p))
    go true p false q = apart _ (rank-to a b (ltb-false b 7 q))
    go true p true q = rank-test a b (ltb-true a 7 p) (ltb-true b 7 q)
