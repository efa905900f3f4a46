-- `pieces::count` meets its contract. Assumes nothing.
use mathlib.Core.Path.{◌≡◌, sym, ◌∙◌, ap}
use mathlib.Core.Bool.{Bool, true, false, not}
use mathlib.Core.List.{List}
use Prim.Native.Nat.{ℕ, ◌≤◌}
use native.Mathlib.Omega.{arith}
use lib.ListN.{length}
use mir.Val.{bool_byte}
use Rattle.conv.specs.Types.{Ty}
use Rattle.overload.specs.Rows.{row_at, overloads_of}
use Rattle.reasons.specs.Reasons.{pieces}
use Rattle.reasons.specs.inner.Told.{ruling_of}
use Rattle.pieces.proofs.Pieces.{described, row_count}
use Rattle.pieces.proofs.count.Goals as goal

pub returns-then-rule-lt-RULE_BITCAST : goal.returns-then-rule-lt-RULE_BITCAST
returns-then-rule-lt-RULE_BITCAST c = let r = c.args.rule in let k = c.count.ensures.0 ∙ ap (λ (i : ℕ). length (overloads_of (row_at i))) c.wide.ensures in (λ ts ms. omega (arith, k, row_count r c.if-rule-lt-RULE_BITCAST.true c.args.accepted ts ms), omega (arith, c.count.ensures.1))

-- a rule that is not listed has a line where it refuses
unlisted : (accepted : Bool) (rule k : ℕ) → 100 ≤ rule → k ≡ bool_byte (not accepted) → ((ts : List Ty) (ms : List Bool) → k ≡ length (pieces accepted (ruling_of rule) ts ms)) × (k ≤ 256)
unlisted true rule k h e = (λ ts ms. e ∙ sym (ap length (described rule h ts ms).0), omega (arith, e))
unlisted false rule k h e = (λ ts ms. e ∙ sym (ap length (described rule h ts ms).1), omega (arith, e))

pub returns-else-rule-lt-RULE_BITCAST : goal.returns-else-rule-lt-RULE_BITCAST
returns-else-rule-lt-RULE_BITCAST c = unlisted c.args.accepted c.args.rule _ c.if-rule-lt-RULE_BITCAST.false c.from.ensures
