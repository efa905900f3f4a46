-- DEMAND 2 for builtins, "Types are those of the WGSL standard, proved against definitions written from it": the number that a call of a builtin answers
-- stands, in the table afterwards, for the type that the name's rule gives on the types and the marks of the operands. Assumes nothing.
use Prim.Native.Nat.{ℕ}
use mathlib.Core.Path.{◌≡◌, sym, ◌∙◌, ap}
use mathlib.Core.Bool.{Bool}
use mathlib.Core.List.{List}
use native.Mathlib.Omega.{arith}
use Rattle.conv.specs.Types.{Ty}
use Rattle.overload.specs.Overload.Judged.{gives}
use Rattle.names.specs.Names.{Rule, Named, rule_of}
use Rattle.names.specs.Names.Named.{rule}
use Rattle.answer.specs.Answer.{refuse}
use Rattle.table.specs.Table.{Sound}
use Rattle.table.specs.Denote.{type_at}
use Rattle.table.specs.Placing.{Outcome, Gave}
use Rattle.answer.specs.declared.TypeNo.{TypeNo}
use Rattle.answer.specs.declared.Answer.TheVariants.{Value, NoValue}
use Rattle.table.proofs.Demand1.{entering-stands}
use Rattle.call_ty.specs.Calls.{given_by, call_outcome, numbers, marks_of, types, type_builtin_fn}
use Rattle.call_ty.specs.Calls.Given.{judgment}
use Rattle.call_ty.specs.inner.Codes.{Under}
use Rattle.call_ty.proofs.Lists.{types-formed}
use Rattle.call_ty.proofs.Ends.{Ends, Single, name-call-ends, single-ends}
use Rattle.call_ty.proofs.Ends.Ends.{refused, silent, valued}
use Rattle.call_ty.proofs.Ends.Single.{early, late}
use Rattle.table.proofs.Giving.{whole}

-- the name has a rule, and the rule gives the type at the number that is answered
pub record TypedBy (named : Named) (ts us : List Ty) (ms : List Bool) (t : TypeNo) (v : List ℕ) : Type 0 where
  pub by : Rule
  pub runs : Bool
  pub has : named ≡ rule by runs
  pub typed : given_by by ts us ms ≡ judgment (gives (type_at v t.0))

module _ (place : ℕ) (w : List ℕ) (n : ℕ) (s : Sound w n) (named : Named) (ts us : List Ty) (ms : List Bool) (o : Outcome) where
  value-typed : Ends place w n named ts us ms o → (t : TypeNo) (m : ℕ) (v : List ℕ) → o ≡ record { answer = Value t m; words = v } → TypedBy named ts us ms t v
  value-typed (refused reason e) t m v h =
      let a : Value t m ≡ refuse reason place n = ap (λ (x : Outcome). x.answer) (sym h ∙ e) in
      absurd (let z : ◌≡◌ {A = ℕ} 0 1 = cc in omega arith)
  value-typed (silent e) t m v h =
      let a : Value t m ≡ NoValue n = ap (λ (x : Outcome). x.answer) (sym h ∙ e) in
      absurd (let z : ◌≡◌ {A = ℕ} 0 1 = cc in omega arith)
  value-typed (valued R r runs f q g e) t m v h =
      record { by = r; runs = runs; has = q; typed = g ∙ ap (λ (x : Ty). judgment (gives x)) (sym (entering-stands place w n s R f t m v (sym e ∙ h)).stands) }

pub call-typed : (profile place : ℕ) (w : List ℕ) (n : ℕ) (s : Sound w n) (name tplt args : List ℕ) → Under n tplt → Under n (numbers args) → (t : TypeNo) (m : ℕ) (v : List ℕ)
    → Gave (call_outcome profile place w n name (types w tplt) (types w (numbers args)) (marks_of args)) (Value t m) v → TypedBy (rule_of profile name) (types w tplt) (types w (numbers args)) (marks_of args) t v
call-typed profile place w n s name tplt args ut ua t m v g =
    value-typed place w n s (rule_of profile name) (types w tplt) (types w (numbers args)) (marks_of args) _
    (name-call-ends profile place w n (types w tplt) (types w (numbers args)) (marks_of args) (types-formed w n s tplt ut) (types-formed w n s (numbers args) ua) name) t m v (whole _ _ v g)

pub single-typed : (profile : ℕ) (w : List ℕ) (n : ℕ) (name tplt args : List ℕ) (t : TypeNo) (m : ℕ) (v : List ℕ)
    → Gave (type_builtin_fn profile w n name tplt args) (Value t m) v → TypedBy (rule_of profile name) (types w tplt) (types w (numbers args)) (marks_of args) t v
single-typed profile w n name tplt args t m v g = go (single-ends profile w n name tplt args)
  where
    go : Single profile w n name tplt args (type_builtin_fn profile w n name tplt args) → TypedBy (rule_of profile name) (types w tplt) (types w (numbers args)) (marks_of args) t v
    go (early reason e) =
        let a : Value t m ≡ refuse reason 0 n = g.reply ∙ ap (λ (x : Outcome). x.answer) e in
        absurd (let z : ◌≡◌ {A = ℕ} 0 1 = cc in omega arith)
    go (late s x) = value-typed 0 w n s (rule_of profile name) (types w tplt) (types w (numbers args)) (marks_of args) _ x t m v (whole _ _ v g)
