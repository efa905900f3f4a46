-- For each public function: no second reply meets its promise. Assumes nothing.
use Prim.Native.Nat.{ℕ}
use mathlib.Core.Bool.{Bool}
use mathlib.Core.Path.{◌≡◌, sym, ◌∙◌}
use Rattle.answer.specs.Answer.{reason_no, lacking_of, used_of, marked_by, Accepted, WithoutValue, RefusedWith}
use Rattle.answer.specs.declared.TypeNo.{TypeNo}
use Rattle.answer.specs.declared.Place.{Place}
use Rattle.answer.specs.declared.Reason.{Reason}
use Rattle.answer.specs.declared.Answer.{Answer}
use Rattle.answer.specs.declared.Typed.{Typed}

pub accepted-one : {t : TypeNo} {used : ℕ} {a b : Answer} → Accepted t used a → Accepted t used b → a ≡ b
accepted-one x y = x.made ∙ sym y.made

pub no-value-one : {used : ℕ} {a b : Answer} → WithoutValue used a → WithoutValue used b → a ≡ b
no-value-one x y = x.made ∙ sym y.made

pub refused-one : {reason : Reason} {place : Place} {used : ℕ} {a b : Answer} → RefusedWith reason place used a → RefusedWith reason place used b → a ≡ b
refused-one x y = x.made ∙ sym y.made

pub reason-no-one : (r : Reason) {a b : ℕ} → a ≡ reason_no r → b ≡ reason_no r → a ≡ b
reason-no-one r x y = x ∙ sym y

pub lacking-of-one : (r : Reason) {a b : ℕ} → a ≡ lacking_of r → b ≡ lacking_of r → a ≡ b
lacking-of-one r x y = x ∙ sym y

pub used-of-one : (x : Answer) {a b : ℕ} → a ≡ used_of x → b ≡ used_of x → a ≡ b
used-of-one x p q = p ∙ sym q

pub marked-one : (m : Bool) (x : Answer) {a b : Typed} → a ≡ marked_by m x → b ≡ marked_by m x → a ≡ b
marked-one m x p q = p ∙ sym q
