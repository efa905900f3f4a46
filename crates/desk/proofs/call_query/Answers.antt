-- `desk::call_query` meets its contract: nothing where values lack, else the call on the last of them. Assumes nothing.
use Prim.Native.Nat.{◌≤◌}
use Rattle.std.proofs.Common.{rules}
use Rattle.call_ty.specs.Calls.{type_builtin_fn}
use Rattle.why.specs.Why.{call_pieces}
use Rattle.why.specs.inner.Asks.{Asks}
use Rattle.desk.specs.inner.Code.{last_of}
use Rattle.desk.proofs.Queried.{call-on}
use Rattle.desk.proofs.call_query.Goals as goal

pub returns : goal.returns
returns c = let a = c.args in
    let b = a.before in
    rw (← c.wide.ensures)
    (call-on b.count b.stack.now b.used b.words.now b.ready a.profile a.name.now a.tplt.now c.wide.result c.on_last.ensures.short
    (λ (k : c.wide.result ≤ b.count). let h = c.on_last.ensures.asked k in
    let xs = last_of c.wide.result b in
    let w : Asks b.words.now b.used xs (call_pieces a.profile b.words.now b.used a.name.now a.tplt.now xs) (type_builtin_fn a.profile b.words.now b.used a.name.now a.tplt.now xs).answer h.0 = search rules in
    (h.0, w, h.2)))
