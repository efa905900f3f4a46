-- The line of a refusal, from its parts: for want of room it has one more. Assumes nothing.
use Prim.Native.Nat.{ℕ}
use mathlib.Core.Path.{◌≡◌, refl}
use mathlib.Core.Logic.{◌≢◌}
use native.Mathlib.Omega.{arith}
use mathlib.Core.List.{List, ◌++◌}
use borrow.Author.Tests.{eq-eqb, ne_eqb}
use Rattle.answer.specs.Answer.{reason_no, lacking_of}
use Rattle.answer.specs.declared.Reason.{Reason}
use Rattle.answer.specs.declared.Reason.TheVariants.{Unsound, NoSuchType, Reference, Unknown, Template, Count, Operands, NoOverload, NoRoom, Framing, Stack, TooLong, RunningAbstract}
use Rattle.answer.specs.declared.Refusal.{Refusal}
use Rattle.text.specs.Text.{ascii, decimal, Put}
use Rattle.text.proofs.Puts.{put-put, put-nothing}
use Rattle.lines.specs.Lines.{lacking_part, refused_line}

module _ (r : Refusal) where
  -- the number and the place
  abbrev pub told : List ℕ
  told = ascii "refused " ++ decimal (reason_no r.reason) ++ (ascii " at " ++ decimal r.place.0)

  pub refused-short : {d v : List ℕ} {k : ℕ} → reason_no r.reason ≢ 9 → Put d 0 told k v → Put d 0 (refused_line r) k v
  unfolding lacking_part refused_line
  refused-short {d} {v} {k} h p = rw (ne_eqb (reason_no r.reason) 9 h) (put-put p (put-nothing v k))

  pub refused-lacking : {d v u : List ℕ} {j k m : ℕ} → reason_no r.reason ≡ 9 → m ≡ lacking_of r.reason → Put d 0 told j v → Put v j (ascii " lacking " ++ decimal m) k u
      → Put d 0 (refused_line r) k u
  unfolding lacking_part refused_line
  refused-lacking {d} {v} {u} {j} {k} {m} h e p q = rw (eq-eqb (reason_no r.reason) 9 h) (put-put p (rw e at q))

-- 9 is the number of one reason alone
pub not-nine : (r : Reason) → ((k : ℕ) → r ≡ NoRoom k → ⊥) → reason_no r ≢ 9
not-nine (NoRoom k) f = λ e. f k refl
not-nine Unsound f = λ e. omega arith
not-nine NoSuchType f = λ e. omega arith
not-nine Reference f = λ e. omega arith
not-nine Unknown f = λ e. omega arith
not-nine Template f = λ e. omega arith
not-nine Count f = λ e. omega arith
not-nine Operands f = λ e. omega arith
not-nine NoOverload f = λ e. omega arith
not-nine Framing f = λ e. omega arith
not-nine Stack f = λ e. omega arith
not-nine TooLong f = λ e. omega arith
not-nine RunningAbstract f = λ e. omega arith
