-- What every call that ends in a judgment keeps of demands 1, 2 and 3. Assumes nothing.
use Prim.Native.Nat.{ℕ, ◌-◌}
use mathlib.Core.Path.{◌≡◌, refl, sym, ◌∙◌, ap, subst}
use mathlib.Core.Bool.{Bool, true, false}
use mathlib.Core.List.{List}
use native.Mathlib.Omega.{arith}
use lib.Dec.{T}
use borrow.Author.Tests.{le-leb}
use Rattle.conv.specs.Types.{Ty, formed}
use Rattle.overload.specs.Overload.{Overload, fits, Preferred, Judged, Resolved}
use Rattle.overload.specs.Overload.Judged.{gives, none_fits}
use Rattle.overload.specs.Marks.{remaining, running_abstract}
use Rattle.overload.specs.Rows.{Ruling, overloads_by, judge_by, Known}
use Rattle.overload.proofs.Operands.{all_formed}
use Rattle.overload.proofs.Preference.{one-preferred}
use Rattle.overload.proofs.Rulings.{ruling-resolved, ruling-formed}
use Rattle.answer.specs.Answer.{accept}
use Rattle.table.specs.Table.{Sound}
use Rattle.table.specs.Denote.{type_at}
use Rattle.table.specs.Enter.{free}
use Rattle.table.specs.Placing.{Outcome, turned_down, placed, entering}
use Rattle.answer.specs.declared.TypeNo.{TypeNo}
use Rattle.answer.specs.declared.Reason.TheVariants.{NoOverload}
use Rattle.answer.specs.declared.Answer.TheVariants.{Value}
use Rattle.table.specs.Kept.{Kept}
use Rattle.table.proofs.Demand1.{entering-stands}
use Rattle.table.proofs.Keeping.{kept-refused, kept_by, kept-entering}
use Rattle.ruled.specs.Call.{judged_outcome, silent_outcome, offends, ruled_outcome}
use Rattle.ruled.specs.Demand3.{Accepts, Room, HasRoom, Demand3, SilentDemand3}
use Rattle.ruled.proofs.Loaded.{ruled-judged}

impossible : {P : Type 0} → ◌≡◌ {A = ℕ} 0 1 → P
impossible e = absurd (omega arith)

-- DEMAND 1

module _ (w : List ℕ) (n : ℕ) (s : Sound w n) where
  pub kept-judged : (place : ℕ) (j : Judged) → ((R : Ty) → j ≡ gives R → formed R ≡ true) → Kept w n (judged_outcome place w n j)
  unfolding judged_outcome
  kept-judged place (gives R) f = kept-entering w n s place R (f R refl)
  kept-judged place none_fits f = kept-refused w n _ place

  pub kept-ruled : (place : ℕ) (r : Ruling) (ts : List Ty) (ms : List Bool) → ((R : Ty) → judge_by r ts ms ≡ gives R → formed R ≡ true) → Kept w n (ruled_outcome place w n r ts ms)
  unfolding ruled_outcome
  kept-ruled place r ts ms f =
      kept_by w n (offends r ts) _ _ (λ e. kept-refused w n _ place)
      (λ e. kept_by w n (running_abstract ts ms) _ _ (λ d. kept-refused w n _ place) (λ d. kept-judged place (judge_by r ts ms) f))

unfold-gives : (set : Overload → Type 0) (ts : List Ty) (R : Ty) → Resolved set ts (gives R) → (o : Overload) × Preferred set ts o × (R ≡ o.result)
unfolding Resolved
unfold-gives set ts R q = q

-- a judgment of any set of overloads

module _ (set : Overload → Type 0) (ts : List Ty) where
  fitting-gives : (j : Judged) → Resolved set ts j → (p : Overload) → set p → T (fits p.params ts) → (R : Ty) × (j ≡ gives R)
  unfolding Resolved
  fitting-gives (gives R) q p k h = (R, refl)
  fitting-gives none_fits q p k h = absurd (q p k h)

  nothing-gives : (j : Judged) → Resolved set ts j → ((p : Overload) → set p → T (fits p.params ts) → ⊥) → j ≡ none_fits
  unfolding Resolved
  nothing-gives (gives R) q h = absurd (h q.0 q.1.among q.1.fitting)
  nothing-gives none_fits q h = refl

-- DEMANDS 2 AND 3 for a judged call: the type that is answered is the one that the judgment gives; and what the judgment gives is answered where there is room

module _ (place : ℕ) (w : List ℕ) (n : ℕ) (s : Sound w n) where
  pub judged-type : (j : Judged) → ((R : Ty) → j ≡ gives R → formed R ≡ true) → (t : TypeNo) (m : ℕ) → (judged_outcome place w n j).answer ≡ Value t m
      → (R : Ty) × (j ≡ gives R) × (type_at (judged_outcome place w n j).words t.0 ≡ R)
  unfolding judged_outcome
  judged-type (gives R) f t m e =
      (R, refl, (entering-stands place w n s R (f R refl) t m (entering place w n R).words (λ i. record { answer = e i; words = (entering place w n R).words })).stands)
  judged-type none_fits f t m e = impossible (cc)

  room-answers : (R : Ty) → Room w n R → (entering place w n R).answer ≡ accept (placed w n R).number (placed w n R).used
  unfolding entering
  room-answers R h = rw (le-leb ((placed w n R).used - n) (free w n) h)

  judged-gives : (R : Ty) → judged_outcome place w n (gives R) ≡ entering place w n R
  unfolding judged_outcome
  judged-gives R = refl

  judged-none : judged_outcome place w n none_fits ≡ turned_down NoOverload place w n
  unfolding judged_outcome
  judged-none = refl

  -- an overload fits, and there is room for the result: accepted; none fits: refused with 8
  module _ (set : Overload → Type 0) (ts : List Ty) (j : Judged) (resolved : Resolved set ts j) where
    judged-fits : (p : Overload) → set p → T (fits p.params ts) → ((R : Ty) → j ≡ gives R → Room w n R) → Accepts (judged_outcome place w n j)
    judged-fits p k h room =
        let g = fitting-gives set ts j resolved p k h in
        (record { 0 = (placed w n g.0).number }, (placed w n g.0).used, ap (λ (o : Outcome). o.answer) (ap (judged_outcome place w n) g.1 ∙ judged-gives g.0) ∙ room-answers g.0 (room g.0 g.1))

    pub judged-nothing : ((p : Overload) → set p → T (fits p.params ts) → ⊥) → judged_outcome place w n j ≡ turned_down NoOverload place w n
    judged-nothing h = ap (judged_outcome place w n) (nothing-gives set ts j resolved h) ∙ judged-none

    -- DEMAND 3, where what the judgment gives is a type that there is
    module _ (formed-gives : (R : Ty) → j ≡ gives R → formed R ≡ true) where
      preferred-by : (R : Ty) → j ≡ gives R → (o : Overload) × Preferred set ts o × (R ≡ o.result)
      preferred-by R e = unfold-gives set ts R (subst (Resolved set ts) e resolved)

      result-of : (t : TypeNo) (m : ℕ) → (judged_outcome place w n j).answer ≡ Value t m
          → (p : Overload) × Preferred set ts p × (type_at (judged_outcome place w n j).words t.0 ≡ p.result)
      result-of t m e =
          let q = judged-type j formed-gives t m e in
          let p = preferred-by q.0 q.1 in
          (p.0, p.1, q.2 ∙ p.2)

      pub demand-3 : HasRoom set w n ts → Demand3 set ts (judged_outcome place w n j)
      demand-3 room =
          record {
            accepted = λ p k h. judged-fits p k h (λ R e. let q = preferred-by R e in subst (Room w n) (sym q.2) (room q.0 q.1));
            fitting = λ a. let q = result-of a.0 a.1 a.2 in (q.0, q.1.among, q.1.fitting);
            result = result-of;
            alone = one-preferred set ts;
          }

  -- DEMAND 3 OF A CALL WITHOUT VALUE: accepted exactly when an overload fits, and nothing is entered
  module _ (set : Overload → Type 0) (ts : List Ty) where
    pub silent-demand-3 : (j : Judged) → Resolved set ts j → SilentDemand3 set ts (silent_outcome place w n j)
    unfolding Resolved silent_outcome
    silent-demand-3 (gives R) q =
        record {
          accepted = λ p k h. (n, refl);
          fitting = λ a. (q.0, q.1.among, q.1.fitting);
          result = λ t m e. impossible (cc);
          alone = one-preferred set ts;
        }
    silent-demand-3 none_fits q =
        record { accepted = λ p k h. absurd (q p k h); fitting = λ a. let e = a.1 in impossible (cc); result = λ t m e. impossible (cc); alone = one-preferred set ts }

  -- A RULED CALL on operands that are types, none of them offered where it may not be, and none both running and abstract: over the overloads that remain by the marks

  module _ (r : Ruling) (known : Known r) (ts : List Ty) (f : all_formed ts ≡ true) (ms : List Bool) (loaded : offends r ts ≡ false) (apart : running_abstract ts ms ≡ false) where
    ruled-is : judged_outcome place w n (judge_by r ts ms) ≡ ruled_outcome place w n r ts ms
    ruled-is = ruled-judged place w n r ts ms loaded apart

    pub ruled-demand-3 : HasRoom (remaining ms (overloads_by r)) w n ts → Demand3 (remaining ms (overloads_by r)) ts (ruled_outcome place w n r ts ms)
    ruled-demand-3 room =
        subst (Demand3 (remaining ms (overloads_by r)) ts) ruled-is
        (demand-3 (remaining ms (overloads_by r)) ts (judge_by r ts ms) (ruling-resolved ts f ms r known) (ruling-formed ts f ms r known) room)

    -- no overload that remains fits: refused with 8
    pub ruled-none : ((p : Overload) → remaining ms (overloads_by r) p → T (fits p.params ts) → ⊥) → ruled_outcome place w n r ts ms ≡ turned_down NoOverload place w n
    ruled-none h = sym ruled-is ∙ judged-nothing (remaining ms (overloads_by r)) ts (judge_by r ts ms) (ruling-resolved ts f ms r known) h
