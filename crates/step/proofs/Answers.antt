-- What the answers of single calls keep, as a sheet needs it: a value is a number of the table, and a call without operands enters nothing.
-- Assumes nothing.
use Prim.Native.Nat.{ℕ, ◌<◌}
use mathlib.Core.Path.{◌≡◌, refl, sym, ◌∙◌, ap}
use mathlib.Core.Bool.{Bool, true, false, ◌&&◌, cond}
use mathlib.Core.List.{List, []}
use native.Mathlib.Omega.{arith}
use lib.Dec.{eqb, leb}
use borrow.Author.Tests.{eqb-true, leb-false}
use Rattle.conv.specs.Types.{Ty}
use Rattle.conv.specs.Types.Ty.{scalar}
use Rattle.names.specs.Names.{Rule, Named, rule_of}
use Rattle.names.specs.Names.Named.{rule, unknown}
use Rattle.table.specs.Table.{Sound}
use Rattle.table.specs.Placing.{Outcome, turned_down}
use Rattle.table.proofs.TypeLaws.{type-scalar}
use Rattle.table.proofs.PlacingLaws.{standing-outcome}
use Rattle.answer.specs.Answer.{reason_no}
use Rattle.answer.specs.declared.Reason.{Reason}
use Rattle.answer.specs.declared.Reason.TheVariants.{Reference, Unknown, Template, Operands, RunningAbstract}
use Rattle.answer.specs.declared.TypeNo.{TypeNo}
use Rattle.answer.specs.declared.Answer.{Answer}
use Rattle.answer.specs.declared.Answer.TheVariants.{Value, NoValue, Refused}
use Rattle.overload.specs.Marks.{running_abstract}
use Rattle.ruled.specs.Call.{any_reference, judged_outcome}
use Rattle.table.specs.Kept.{Kept}
use Rattle.call_ty.specs.Calls.{template_right, operands_of, Given, given_by, given_outcome, by_rule, call_outcome}
use Rattle.call_ty.proofs.Rules.{Bare, wants-none}
use Rattle.call_ty.proofs.Rules.Bare.{silent, scalarly}
use Rattle.step.specs.Effect.{most, is_valued}
use Rattle.step.specs.inner.Code.{Pushes}

-- A CALL WITHOUT OPERANDS: it enters nothing, since what it gives is a scalar, and in profile 0 it gives no value

module _ (place : ℕ) (w : List ℕ) (n : ℕ) (ts : List Ty) where
  -- the two sides of a test
  either : (P : Outcome → Type 0) (b : Bool) (x y : Outcome) → (b ≡ true → P x) → (b ≡ false → P y) → P (cond b x y)
  either P true x y f g = f refl
  either P false x y f g = g refl

  -- what holds of every refusal but that for want of room, and of what the rule gives, holds of the call
  by-rule : (P : Outcome → Type 0) → ((reason : Reason) → eqb (reason_no reason) 9 ≡ false → P (turned_down reason place w n))
      → (named : Named) → ((r : Rule) (runs : Bool) → named ≡ rule r runs → operands_of r ≡ 0 → P (given_outcome place w n (given_by r ts [] []))) → P (by_rule place w n named ts [] [])
  unfolding by_rule
  by-rule P refused unknown f = refused Unknown refl
  by-rule P refused (rule r runs) f =
      either P (template_right r ts) _ _
      (λ _. either P (eqb 0 (operands_of r)) _ _
      (λ d. either P (any_reference []) _ _ (λ _. refused Reference refl)
      (λ _. either P (running_abstract [] []) _ _ (λ _. refused RunningAbstract refl) (λ _. f r runs refl (sym (eqb-true 0 (operands_of r) d)))))
      (λ _. refused Operands refl))
      (λ _. refused Template refl)

  given-words : Sound w n → (profile : ℕ) (g : Given) → Bare profile g → (given_outcome place w n g).words ≡ w
  unfolding given_outcome judged_outcome
  given-words s profile g (silent e) = rw e
  given-words s profile g (scalarly t l h e) =
      rw e (ap (λ (o : Outcome). o.words) (standing-outcome place w n s t (scalar t) (let k = s.low in omega arith) (type-scalar w t l)))

  pub bare-words : Sound w n → (profile : ℕ) (name : List ℕ) → (call_outcome profile place w n name ts [] []).words ≡ w
  bare-words s profile name =
      by-rule (λ (o : Outcome). o.words ≡ w) (λ reason _. refl) (rule_of profile name) (λ r m e o. given-words s profile (given_by r ts [] []) (wants-none profile name r m e o ts))

  -- no answer of profile 0 has a value, or lacks the room for one

  given-unvalued : (g : Given) → Bare 0 g → is_valued (given_outcome place w n g).answer ≡ false
  unfolding given_outcome is_valued
  given-unvalued g (silent e) = rw e
  given-unvalued g (scalarly s l k e) = absurd (omega arith)

  pub bare-unvalued : (name : List ℕ) → is_valued (call_outcome 0 place w n name ts [] []).answer ≡ false
  unfolding is_valued
  bare-unvalued name =
      by-rule (λ (o : Outcome). is_valued o.answer ≡ false) (λ reason h. h) (rule_of 0 name)
      (λ r m e o. given-unvalued (given_by r ts [] []) (wants-none 0 name r m e o ts))

-- A VALUE HAS A PLACE on a stack of h values, where not both the stack is full and a value comes
pub has-place : (h : ℕ) (a : Answer) (t : TypeNo) (m : ℕ) → (leb most h && is_valued a) ≡ false → a ≡ Value t m → h < most
unfolding is_valued
has-place h a t m e q = leb-false most h (and-true (leb most h) (ap (λ (x : Answer). leb most h && is_valued x) (sym q) ∙ e))
  where
    and-true : (b : Bool) → (b && true) ≡ false → b ≡ false
    and-true true p = p
    and-true false p = refl

-- AN ANSWER CAN BE PUSHED where its value is a number of the table and the stack has room for it

pub pushes : (w : List ℕ) (n : ℕ) (o : Outcome) → Kept w n o → (base : ℕ) → ((t : TypeNo) (m : ℕ) → o.answer ≡ Value t m → base < most)
    → (a : Answer) → a ≡ o.answer → Pushes base a
pushes w n o k base room (Value t m) e =
    let s = (k.accepted t m (sym e)).1 in
    let low = s.below in
    let high = s.sound.high in
    let z : t.0 < 256 = omega arith in
    (room t m (sym e), z)
pushes w n o k base room (NoValue m) e = tt
pushes w n o k base room (Refused r) e = tt
