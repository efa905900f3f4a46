-- `desk::unary_query` meets its contract: nothing where values lack, else the operator on the last of them. Assumes nothing.
use Prim.Native.Nat.{◌≤◌}
use mathlib.Core.List.{[], ◌∷◌}
use lib.ListN.{get_or}
use Rattle.std.proofs.Common.{rules}
use Rattle.ops_ty.specs.Ops.{type_unary_op}
use Rattle.why.specs.Why.{unary_pieces}
use Rattle.why.specs.inner.Asks.{Asks}
use Rattle.desk.specs.inner.Code.{last_of}
use Rattle.desk.proofs.Queried.{unary-on}
use Rattle.desk.proofs.unary_query.Goals as goal

pub returns : goal.returns
returns c = let a = c.args in
    let b = a.before in
    unary-on b.count b.stack.now b.used b.words.now b.ready a.op c.on_last.ensures.short
    (λ (k : 1 ≤ b.count). let h = c.on_last.ensures.asked k in
    let v = get_or (last_of 1 b) 0 0 in
    let w : Asks b.words.now b.used (v ∷ []) (unary_pieces b.words.now b.used a.op v) (type_unary_op b.words.now b.used a.op v).answer h.0 = search rules in
    (h.0, w, h.2))
