-- DEMAND 1 for what calls come to: a refusal, no value, a type that is entered; and for a type that a host enters. Assumes nothing.
use Prim.Native.Nat.{ℕ}
use mathlib.Core.Path.{◌≡◌, refl, sym, ap, subst}
use mathlib.Core.Bool.{Bool, true, false, cond}
use mathlib.Core.List.{List}
use native.Mathlib.Omega.{arith}
use Rattle.conv.specs.Types.{Ty, formed}
use Rattle.table.specs.Table.{soundb, allowedb, Sound}
use Rattle.table.specs.Denote.{ty_of}
use Rattle.table.specs.Enter.{entered, enter_words, enter_type_reply, enter_type_words}
use Rattle.table.specs.Placing.{Outcome, turned_down, entering, enter_type}
use Rattle.table.specs.Kept.{Kept}
use Rattle.table.specs.declared.Entry.{Entry}
use Rattle.answer.specs.declared.Reason.{Reason}
use Rattle.answer.specs.declared.Reason.TheVariants.{Unsound, Template}
use Rattle.answer.specs.declared.Refusal.{Refusal}
use Rattle.answer.specs.declared.Answer.{Answer}
use Rattle.answer.specs.declared.Answer.TheVariants.{NoValue}
use Rattle.table.proofs.KindLaws.{split}
use Rattle.table.proofs.SoundLaws.{sound-of}
use Rattle.table.proofs.FormedLaws.{allowed-type}
use Rattle.table.proofs.PlacingLaws.{enter-outcome}
use Rattle.table.proofs.Demand1.{entering-stands, entering-missing, entering-refused, entering-valued}

impossible : {P : Type 0} → ◌≡◌ {A = ℕ} 0 1 → P
impossible e = absurd (omega arith)

module _ (w : List ℕ) (n : ℕ) where
  pub kept-as : {o p : Outcome} → o ≡ p → Kept w n p → Kept w n o
  kept-as e k = subst (Kept w n) (sym e) k

  pub kept_by : (b : Bool) (x y : Outcome) → (b ≡ true → Kept w n x) → (b ≡ false → Kept w n y) → Kept w n (cond b x y)
  kept_by true x y f g = f refl
  kept_by false x y f g = g refl

  pub kept-refused : (reason : Reason) (place : ℕ) → Kept w n (turned_down reason place w n)
  kept-refused reason place =
      record {
        refused = λ r e. refl;
        counted = λ r e. let q : record { reason = reason; place = record { 0 = place }; used = n } ≡ r = cc in sym (ap (λ (x : Refusal). x.used) q);
        accepted = λ t m e. impossible (cc);
        missing = λ t m e. impossible (cc);
        without = λ m e. impossible (cc);
      }

  pub kept-none : Kept w n (record { answer = NoValue n; words = w })
  kept-none =
      record {
        refused = λ r e. refl;
        counted = λ r e. impossible (cc);
        accepted = λ t m e. impossible (cc);
        missing = λ t m e. impossible (cc);
        without = λ m e. (refl, let q : n ≡ m = cc in sym q);
      }

  pub kept-entering : Sound w n → (place : ℕ) (R : Ty) → formed R ≡ true → Kept w n (entering place w n R)
  kept-entering s place R f =
      record {
        refused = λ r e. (entering-refused place w n s R f r o (told e)).0;
        counted = λ r e. ap (λ (x : Refusal). x.used) (entering-refused place w n s R f r o (told e)).1;
        accepted = λ t m e. (R, entering-stands place w n s R f t m o (told e));
        missing = λ t m e. entering-missing place w n s R f t m o (told e);
        without = λ m e. absurd (entering-valued place w n s R f m o (told e));
      }
    where
      o : List ℕ
      o = (entering place w n R).words

      told : {a : Answer} → (entering place w n R).answer ≡ a → entering place w n R ≡ record { answer = a; words = o }
      told e = λ i. record { answer = e i; words = o }

  -- A TYPE THAT A HOST ENTERS

  pub enter-call : Sound w n → (e : Entry) → soundb w n ≡ true → allowedb w n e ≡ true → enter_type w n e ≡ entering 0 w n (ty_of w e)
  unfolding enter_type_reply enter_type_words
  enter-call s e k h = rw (k, h) (enter-outcome 0 w n s e h (entered w n e) (enter_words w n e) (record { reply = refl; words = refl }))

  pub enter-unsound : (e : Entry) → soundb w n ≡ false → enter_type w n e ≡ turned_down Unsound 0 w n
  unfolding enter_type_reply enter_type_words
  enter-unsound e k = rw k

  pub enter-forbidden : (e : Entry) → soundb w n ≡ true → allowedb w n e ≡ false → enter_type w n e ≡ turned_down Template 0 w n
  unfolding enter_type_reply enter_type_words
  enter-forbidden e k h = rw (k, h)

  pub enter-type-kept : (e : Entry) → Kept w n (enter_type w n e)
  enter-type-kept e =
      split (soundb w n)
      (λ k.
      split (allowedb w n e)
      (λ h. let s = sound-of w n k in kept-as (enter-call s e k h) (kept-entering s 0 (ty_of w e) (allowed-type w n s e h)))
      (λ h. kept-as (enter-forbidden e k h) (kept-refused Template 0)))
      (λ k. kept-as (enter-unsound e k) (kept-refused Unsound 0))
