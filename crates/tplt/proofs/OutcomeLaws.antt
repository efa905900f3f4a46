-- The three ways of a call: a table that is not sound, a number that is no type, and what the head and the list come to. Assumes nothing.
use Prim.Native.Nat.{ℕ}
use mathlib.Core.Path.{◌≡◌, sym, ◌∙◌, ap, subst}
use mathlib.Core.Bool.{true, false}
use mathlib.Core.List.{List}
use lib.IntN.{ℤ}
use Rattle.table.specs.Table.{soundb, Sound}
use Rattle.table.specs.Placing.{Outcome, turned_down, Gave}
use Rattle.table.proofs.Giving.{gave-whole}
use Rattle.answer.specs.declared.Reason.TheVariants.{Unsound, NoSuchType}
use Rattle.answer.specs.declared.Answer.{Answer}
use Rattle.tplt.specs.Heads.{head_of}
use Rattle.tplt.specs.Params.{params_of, types_known, arguments_of}
use Rattle.tplt.specs.Templates.{parsed_of, outcome_of, template_outcome}
use Rattle.tplt.specs.inner.Steps.{Below, Fit, Outcomes}
use Rattle.std.specs.Prelude.{Option, Result, Ok, Err}
use Rattle.answer.specs.declared.Reason.{Reason}
use Rattle.tplt.specs.declared.head.Head.{Head}
use Rattle.tplt.specs.declared.param.Arguments.{Arguments}
use Rattle.tplt.specs.declared.Parsed.{Parsed}
use Rattle.tplt.proofs.HeadLaws.{sized, head-sized}
use Rattle.tplt.proofs.ParamLaws.{arguments-below}
use Rattle.tplt.proofs.TemplateLaws.{Fits, parsed-fit}

module _ (w : List ℕ) (n : ℕ) (head : List ℕ) (args : List ℤ) where
  pub unsound-outcome : soundb w n ≡ false → template_outcome w n head args ≡ turned_down Unsound 0 w n
  unfolding template_outcome
  unsound-outcome h = rw h

  module _ (sound : soundb w n ≡ true) where
    pub unknown-outcome : types_known (params_of n args) ≡ false → template_outcome w n head args ≡ turned_down NoSuchType 0 w n
    unfolding template_outcome
    unknown-outcome h = rw (sound, h)

    pub parsed-outcome : types_known (params_of n args) ≡ true → template_outcome w n head args ≡ outcome_of w n (parsed_of w (head_of head) (arguments_of n args))
    unfolding template_outcome
    parsed-outcome h = rw (sound, h)

  -- a refusal with the words unchanged
  pub refusal-done : (o : Outcome) → template_outcome w n head args ≡ o → (r : Answer) → r ≡ o.answer → w ≡ o.words → Gave (template_outcome w n head args) r w
  refusal-done o h r a b = gave-whole ((λ i. record { answer = a i; words = b i }) ∙ sym h)

  module _ (s : Sound w n) where
    -- the list's type number is below n
    pub list-below : (a : Option Arguments) → a ≡ arguments_of n args → Below n a
    list-below a q = subst (λ (x : Option Arguments). Below n x) (sym q) (arguments-below n args)

    -- what the head and the list come to is fit to be entered
    module _ (h : Option Head) (hq : h ≡ head_of head) (a : Option Arguments) (aq : a ≡ arguments_of n args) (x : Result Parsed Reason) (pq : x ≡ parsed_of w h a) where
      pub call-fits : Fits w n x
      call-fits = subst (λ (y : Result Parsed Reason). Fits w n y) (sym pq) (parsed-fit w n s h (ap sized hq ∙ head-sized head) a (list-below a aq))

      pub call-fit : (p : Parsed) → x ≡ Ok p → Fit w n p
      call-fit p e = subst (λ (y : Result Parsed Reason). Fits w n y) e call-fits

      module _ (sound : soundb w n ≡ true) (known : types_known (params_of n args) ≡ true) where
        come-to : outcome_of w n x ≡ template_outcome w n head args
        come-to = ap (outcome_of w n) (pq ∙ (λ i. parsed_of w (hq i) (aq i))) ∙ sym (parsed-outcome sound known)

        pub call-done : (p : Parsed) → x ≡ Ok p → (r : Answer) (v : List ℕ) → Outcomes w n p r v → Gave (template_outcome w n head args) r v
        call-done p e r v o = gave-whole (o.outcome ∙ ap (outcome_of w n) (sym e) ∙ come-to)

        pub call-wrong : (why : Reason) → x ≡ Err why → (r : Answer) → r ≡ (turned_down why 0 w n).answer → Gave (template_outcome w n head args) r w
        unfolding outcome_of
        call-wrong why e r q = gave-whole (ap (λ (y : Answer). record { answer = y; words = w }) q ∙ ap (outcome_of w n) (sym e) ∙ come-to)
