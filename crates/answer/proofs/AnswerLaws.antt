-- The numbers tell the answers apart: the reason from its number and what lacks, the answer from its numbers. Assumes nothing.
use Prim.Native.Nat.{ℕ}
use mathlib.Core.Path.{◌≡◌, refl, sym, ◌∙◌, ap}
use mathlib.Core.Bool.{false, cond}
use mathlib.Core.List.{List, [], ◌∷◌}
use lib.Dec.{eqb}
use Rattle.answer.specs.Answer.{reason_no, lacking_of, Numbers, numbers_of}
use Rattle.answer.specs.declared.Reason.{Reason}
use Rattle.answer.specs.declared.Reason.TheVariants.{Unsound, NoSuchType, Reference, Unknown, Template, Count, Operands, NoOverload, NoRoom, Framing, Stack, TooLong, RunningAbstract}
use Rattle.answer.specs.declared.Answer.{Answer}
use Rattle.answer.specs.declared.Answer.TheVariants.{Value, NoValue, Refused}

-- the reason of a number, and of how many entries lack
reason_of : ℕ → ℕ → Reason
reason_of k lacking =
    cond (eqb k 1) Unsound
    (cond (eqb k 2) NoSuchType
    (cond (eqb k 3) Reference
    (cond (eqb k 4) Unknown
    (cond (eqb k 5) Template
    (cond (eqb k 6) Count
    (cond (eqb k 7) Operands
    (cond (eqb k 8) NoOverload
    (cond (eqb k 9) (NoRoom lacking)
    (cond (eqb k 10) Framing
    (cond (eqb k 11) Stack
    (cond (eqb k 12) TooLong RunningAbstract)))))))))))

reason-back : (r : Reason) → reason_of (reason_no r) (lacking_of r) ≡ r
unfolding reason_of
reason-back Unsound = refl
reason-back NoSuchType = refl
reason-back Reference = refl
reason-back Unknown = refl
reason-back Template = refl
reason-back Count = refl
reason-back Operands = refl
reason-back NoOverload = refl
reason-back (NoRoom k) = refl
reason-back Framing = refl
reason-back Stack = refl
reason-back TooLong = refl
reason-back RunningAbstract = refl

-- no refusal has number 0
reason-some : (r : Reason) → eqb (reason_no r) 0 ≡ false
reason-some Unsound = refl
reason-some NoSuchType = refl
reason-some Reference = refl
reason-some Unknown = refl
reason-some Template = refl
reason-some Count = refl
reason-some Operands = refl
reason-some NoOverload = refl
reason-some (NoRoom k) = refl
reason-some Framing = refl
reason-some Stack = refl
reason-some TooLong = refl
reason-some RunningAbstract = refl

-- two reasons have two numbers, or lack another count
pub reason-injective : (a b : Reason) → reason_no a ≡ reason_no b → lacking_of a ≡ lacking_of b → a ≡ b
reason-injective a b h l = sym (reason-back a) ∙ (λ i. reason_of (h i) (l i)) ∙ reason-back b

-- the answer of numbers
value_of : List ℕ → ℕ → Answer
value_of [] used = NoValue used
value_of (t ∷ rest) used = Value (record { 0 = t }) used

answer_of : Numbers → Answer
answer_of x =
    cond (eqb x.refusal 0) (value_of x.value x.used)
    (Refused (record { reason = reason_of x.refusal x.lacking; place = record { 0 = x.place }; used = x.used }))

answer_back : (a : Answer) → answer_of (numbers_of a) ≡ a
unfolding answer_of value_of
answer_back (Value t used) = refl
answer_back (NoValue used) = refl
answer_back (Refused r) =
    rw (reason-some r.reason)
    (ap (λ (x : Reason). Refused (record { reason = x; place = r.place; used = r.used })) (reason-back r.reason))

-- two answers have two sets of numbers
pub numbers-injective : (a b : Answer) → numbers_of a ≡ numbers_of b → a ≡ b
numbers-injective a b h = sym (answer_back a) ∙ ap answer_of h ∙ answer_back b
