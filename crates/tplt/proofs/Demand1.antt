-- DEMAND 1 for template types: "A refused call changes no lent byte or word." "An accepted call leaves every earlier entry at its number and adds only the
-- missing entries its result needs." And which type is answered: the one that the head and the list give. The head and the arguments are lent as shared
-- slices, which no call writes. Assumes nothing.
use Prim.Native.Nat.{ℕ}
use mathlib.Core.Path.{◌≡◌, refl, sym, ◌∙◌, ap}
use mathlib.Core.List.{List}
use native.Mathlib.Omega.{arith}
use lib.IntN.{ℤ}
use Rattle.conv.specs.Types.{Ty}
use Rattle.table.specs.Table.{soundb, Sound}
use Rattle.table.specs.Stands.{Stands}
use Rattle.table.specs.Placing.{Outcome, turned_down}
use Rattle.table.specs.Kept.{Kept}
use Rattle.answer.specs.declared.TypeNo.{TypeNo}
use Rattle.answer.specs.declared.Reason.{Reason}
use Rattle.answer.specs.declared.Reason.TheVariants.{Unsound, NoSuchType}
use Rattle.answer.specs.declared.Answer.TheVariants.{Value}
use Rattle.table.proofs.KindLaws.{split}
use Rattle.table.proofs.SoundLaws.{sound-of}
use Rattle.table.proofs.Demand1.{entering-stands}
use Rattle.table.proofs.Keeping.{kept-as, kept-refused, kept-entering}
use Rattle.tplt.specs.Heads.{head_of}
use Rattle.tplt.specs.Params.{params_of, types_known, arguments_of}
use Rattle.tplt.specs.Templates.{parsed_of, type_of, outcome_of, template_outcome}
use Rattle.tplt.proofs.TemplateLaws.{Fits}
use Rattle.tplt.specs.declared.Parsed.{Parsed}
use Rattle.std.specs.Prelude.{Result, Ok, Err}
use Rattle.conv.specs.Types.{bool}
use Rattle.conv.specs.Types.Ty.{scalar}
use Rattle.tplt.proofs.OutcomeLaws.{unsound-outcome, unknown-outcome, parsed-outcome, call-fits}

-- a refusal is no value
refused_none : {P : Type 0} (reason : Reason) (w : List ℕ) (n : ℕ) {t : TypeNo} {m : ℕ} {v : List ℕ} → turned_down reason 0 w n ≡ record { answer = Value t m; words = v } → P
refused_none reason w n h = let e = ap (λ (o : Outcome). o.answer) h in absurd (let z : ◌≡◌ {A = ℕ} 0 1 = cc in omega arith)

-- the type of a template; a refusal has none, and bool stands in
abbrev pub type_given : List ℕ → Result Parsed Reason → Ty
type_given w (Ok p) = type_of w p
type_given w (Err r) = scalar bool

module _ (w : List ℕ) (n : ℕ) (s : Sound w n) where
  parsed-kept : (x : Result Parsed Reason) → Fits w n x → Kept w n (outcome_of w n x)
  unfolding outcome_of
  parsed-kept (Ok p) f = kept-entering w n s 0 (type_of w p) f.good
  parsed-kept (Err r) f = kept-refused w n r 0

  module _ (t : TypeNo) (m : ℕ) (v : List ℕ) where
    parsed-stands : (x : Result Parsed Reason) → Fits w n x → outcome_of w n x ≡ record { answer = Value t m; words = v } → Stands w n (type_given w x) t.0 m v
    unfolding outcome_of
    parsed-stands (Ok p) f h = entering-stands 0 w n s (type_of w p) f.good t m v h
    parsed-stands (Err r) f h = refused_none r w n h

module _ (w : List ℕ) (n : ℕ) (head : List ℕ) (args : List ℤ) where
  -- what the head and the list come to, and the type that they give
  abbrev given : Result Parsed Reason
  given = parsed_of w (head_of head) (arguments_of n args)

  abbrev pub given_type : Ty
  given_type = type_given w given

  fit : Sound w n → Fits w n given
  fit s = call-fits w n head args s (head_of head) refl (arguments_of n args) refl given refl

  -- the three ways of a call
  by_way : {P : Type 0} → (template_outcome w n head args ≡ turned_down Unsound 0 w n → P) → (template_outcome w n head args ≡ turned_down NoSuchType 0 w n → P)
      → (Sound w n → template_outcome w n head args ≡ outcome_of w n given → P) → P
  by_way f g k =
      split (soundb w n)
      (λ a.
      split (types_known (params_of n args))
      (λ b. k (sound-of w n a) (parsed-outcome w n head args a b))
      (λ b. g (unknown-outcome w n head args a b)))
      (λ a. f (unsound-outcome w n head args a))

  pub template-kept : Kept w n (template_outcome w n head args)
  template-kept =
      by_way (λ e. kept-as w n e (kept-refused w n Unsound 0)) (λ e. kept-as w n e (kept-refused w n NoSuchType 0))
      (λ s e. kept-as w n e (parsed-kept w n s given (fit s)))

  -- the type that is answered
  pub template-stands : (t : TypeNo) (m : ℕ) (v : List ℕ) → template_outcome w n head args ≡ record { answer = Value t m; words = v } → Stands w n given_type t.0 m v
  template-stands t m v h =
      by_way (λ e. refused_none Unsound w n (sym e ∙ h)) (λ e. refused_none NoSuchType w n (sym e ∙ h))
      (λ s e. parsed-stands w n s t m v given (fit s) (sym e ∙ h))
