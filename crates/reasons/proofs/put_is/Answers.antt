-- `reasons::put_is` meets its contract. Assumes nothing.
use Prim.Native.Nat.{ℕ}
use mathlib.Core.Path.{ap}
use native.Mathlib.Omega.{arith}
use Rattle.text.proofs.Puts.{put-put, put_as}
use Rattle.table.specs.Denote.{type_at}
use Rattle.spell.specs.Spell.{spelling}
use Rattle.spell.proofs.Short.{type-slim}
use Rattle.reasons.proofs.put_is.Goals as goal

pub put_operand-a-requires : goal.put_operand-a-requires
put_operand-a-requires c = (omega (arith, c.requires.3), c.requires.2)

pub spell_type-requires : goal.spell_type-requires
spell_type-requires c = let p = c.requires in record { sound = p.0; i_lt_n = omega (arith, p.1, c.number.ensures); span_bound = omega (arith, p.1, p.3, p.0.high, c.number.ensures, c.put_operand-a.ensures.upper_bound) }

pub returns : goal.returns
returns c = let a = c.args in let p = c.requires in record { put = put-put c.put_operand-a.ensures.put (put_as (ap (λ (i : ℕ). spelling (type_at a.words.now i)) c.number.ensures) c.spell_type.ensures.put); upper_bound = omega (arith, c.put_operand-a.ensures.upper_bound, c.spell_type.ensures.put.place, type-slim a.words.now (λ i. omega (arith, c.type_inv.words i)) c.number.result.0, p.1, p.0.high, c.number.ensures) }
