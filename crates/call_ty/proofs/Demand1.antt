-- DEMAND 1 for calls of builtins: "A refused call changes no lent byte or word." "An accepted call leaves every earlier entry at its number and adds only
-- the missing entries its result needs." Of any table, count, name and operands, by the ways in which a call ends. Assumes nothing.
use Prim.Native.Nat.{ℕ}
use mathlib.Core.Bool.{Bool}
use mathlib.Core.List.{List}
use Rattle.conv.specs.Types.{Ty}
use Rattle.names.specs.Names.{Named, rule_of}
use Rattle.table.specs.Table.{Sound}
use Rattle.table.specs.Placing.{Outcome}
use Rattle.table.specs.Kept.{Kept}
use Rattle.table.proofs.Keeping.{kept-as, kept-refused, kept-none, kept-entering}
use Rattle.call_ty.specs.Calls.{call_outcome, numbers, marks_of, types, type_builtin_fn}
use Rattle.call_ty.specs.inner.Codes.{Under}
use Rattle.call_ty.proofs.Lists.{types-formed}
use Rattle.call_ty.proofs.Ends.{Ends, Single, name-call-ends, single-ends}
use Rattle.call_ty.proofs.Ends.Ends.{refused, silent, valued}
use Rattle.call_ty.proofs.Ends.Single.{early, late}

ends-kept : (place : ℕ) (w : List ℕ) (n : ℕ) → Sound w n → (named : Named) (ts us : List Ty) (ms : List Bool) (o : Outcome) → Ends place w n named ts us ms o → Kept w n o
ends-kept place w n s named ts us ms o (refused reason e) = kept-as w n e (kept-refused w n reason place)
ends-kept place w n s named ts us ms o (silent e) = kept-as w n e (kept-none w n)
ends-kept place w n s named ts us ms o (valued R r runs f q g e) = kept-as w n e (kept-entering w n s place R f)

-- on loaded operands, at any place
pub call-at-kept : (profile place : ℕ) (w : List ℕ) (n : ℕ) → Sound w n → (name tplt args : List ℕ) → Under n tplt → Under n (numbers args)
    → Kept w n (call_outcome profile place w n name (types w tplt) (types w (numbers args)) (marks_of args))
call-at-kept profile place w n s name tplt args ut ua =
    ends-kept place w n s (rule_of profile name) (types w tplt) (types w (numbers args)) (marks_of args) _
    (name-call-ends profile place w n (types w tplt) (types w (numbers args)) (marks_of args) (types-formed w n s tplt ut) (types-formed w n s (numbers args) ua) name)

-- of any table, name and numbers, at place 0
pub call_kept : (profile : ℕ) (w : List ℕ) (n : ℕ) (name tplt args : List ℕ) → Kept w n (type_builtin_fn profile w n name tplt args)
call_kept profile w n name tplt args = go (single-ends profile w n name tplt args)
  where
    go : Single profile w n name tplt args (type_builtin_fn profile w n name tplt args) → Kept w n (type_builtin_fn profile w n name tplt args)
    go (early reason e) = kept-as w n e (kept-refused w n reason 0)
    go (late s x) = ends-kept 0 w n s (rule_of profile name) (types w tplt) (types w (numbers args)) (marks_of args) _ x
