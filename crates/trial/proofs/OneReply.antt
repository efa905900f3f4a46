-- No second answer meets the promise of a trial: it names the answer. Assumes nothing.
use Prim.Native.Nat.{ℕ}
use mathlib.Core.Path.{◌≡◌, sym, ◌∙◌}
use mathlib.Core.List.{List}
use Rattle.answer.specs.declared.Answer.{Answer}
use Rattle.ops_ty.specs.Ops.{type_unary_op, type_binary_op}
use Rattle.call_ty.specs.Calls.{type_builtin_fn}

module _ (w : List ℕ) (n : ℕ) (r s : Answer) where
  pub unary-one : (op a : ℕ) → r ≡ (type_unary_op w n op a).answer → s ≡ (type_unary_op w n op a).answer → r ≡ s
  unary-one op a p q = p ∙ sym q

  pub binary-one : (op a b : ℕ) → r ≡ (type_binary_op w n op a b).answer → s ≡ (type_binary_op w n op a b).answer → r ≡ s
  binary-one op a b p q = p ∙ sym q

  pub builtin-one : (profile : ℕ) (name tplt args : List ℕ) → r ≡ (type_builtin_fn profile w n name tplt args).answer → s ≡ (type_builtin_fn profile w n name tplt args).answer → r ≡ s
  builtin-one profile name tplt args p q = p ∙ sym q
