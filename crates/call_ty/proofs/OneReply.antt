-- For each public function: no second reply, and no other words afterwards, meet its promise. Assumes nothing.
use Prim.Native.Nat.{ℕ}
use mathlib.Core.Path.{◌≡◌, sym, ◌∙◌}
use mathlib.Core.Bool.{Bool}
use mathlib.Core.List.{List}
use Rattle.overload.specs.Marks.{any_running}
use Rattle.table.specs.Placing.{GaveMarked}
use Rattle.answer.specs.declared.Typed.{Typed}
use Rattle.table.proofs.OneReply.{gave-marked-one}
use Rattle.call_ty.specs.Calls.{call_outcome, numbers, marks_of, types, type_builtin_fn, builtin_runs}

pub call-at-one : (profile place : ℕ) (w : List ℕ) (n : ℕ) (name tplt args : List ℕ) (r q : Typed) (v u : List ℕ)
    → GaveMarked (call_outcome profile place w n name (types w tplt) (types w (numbers args)) (marks_of args)) (builtin_runs profile name args) r v
    → GaveMarked (call_outcome profile place w n name (types w tplt) (types w (numbers args)) (marks_of args)) (builtin_runs profile name args) q u → (r ≡ q) × (v ≡ u)
call-at-one profile place w n name tplt args r q v u =
    gave-marked-one (call_outcome profile place w n name (types w tplt) (types w (numbers args)) (marks_of args)) (builtin_runs profile name args) r q v u

pub type-builtin-fn-one : (profile : ℕ) (w : List ℕ) (n : ℕ) (name tplt args : List ℕ) (r q : Typed) (v u : List ℕ)
    → GaveMarked (type_builtin_fn profile w n name tplt args) (builtin_runs profile name args) r v
    → GaveMarked (type_builtin_fn profile w n name tplt args) (builtin_runs profile name args) q u → (r ≡ q) × (v ≡ u)
type-builtin-fn-one profile w n name tplt args r q v u = gave-marked-one (type_builtin_fn profile w n name tplt args) (builtin_runs profile name args) r q v u

pub any-running-one : (args : List ℕ) {a b : Bool} → a ≡ any_running (marks_of args) → b ≡ any_running (marks_of args) → a ≡ b
any-running-one args p q = p ∙ sym q
