-- `spell::spell_in` meets its contract. The first run puts into no bytes, and so gives the length alone. Assumes nothing.
use Prim.Native.Nat.{◌≤◌, ◌<◌}
use mathlib.Core.List.{[]}
use mathlib.Core.Path.{◌≡◌, ◌∙◌}
use native.Mathlib.Nat.{zero-add}
use native.Mathlib.Omega.{arith}
use lib.ListN.{length}
use Rattle.table.specs.Denote.{type_at}
use Rattle.spell.proofs.Outcomes.{at-beyond, at_long, at-fits}
use Rattle.text.proofs.Puts.{over_none}
use Rattle.text.specs.Text.{Put}
use Rattle.spell.specs.Spell.{spelling}
use Rattle.spell.proofs.spell_in.Goals as goal

pub returns-then-n-i : goal.returns-then-n-i
returns-then-n-i c = rw c.refused.ensures (at-beyond _ _ _ _ c.requires c.if-n-i.true)

pub spell_type-len-requires : goal.spell_type-len-requires
spell_type-len-requires c = record { sound = c.requires; i_lt_n = c.if-n-i.false; span_bound = omega arith }

pub returns-then-out-len : goal.returns-then-out-len
returns-then-out-len c =
    let a = c.args in
    let z = c.spell_type-len.ensures.put in
    let e : c.spell_type-len.new.out ≡ [] = z.bytes ∙ over_none (spelling (type_at a.words.now a.t.0)) 0 in
    let l : length a.out.now < c.spell_type-len.result = rw e at c.if-out-len.true in
    rw (c.refused-then-out-len.ensures, e) (at_long a.words.now a.n a.t a.out.now c.requires c.if-n-i.false (omega (arith, z.place)))

pub spell_type-requires : goal.spell_type-requires
spell_type-requires c = record { sound = c.requires; i_lt_n = c.if-n-i.false; span_bound = omega arith }

pub returns : goal.returns
returns c =
    let a = c.args in
    let z = c.spell_type-len.ensures.put in
    let s = spelling (type_at a.words.now a.t.0) in
    let e : c.spell_type-len.new.out ≡ [] = z.bytes ∙ over_none s 0 in
    let l : c.spell_type-len.result ≤ length a.out.now = rw e at c.if-out-len.false in
    let y : Put a.out.now 0 s c.spell_type.result c.spell_type.new.out = rw e at c.spell_type.ensures.put in
    rw (y.place ∙ zero-add _, y.bytes) (at-fits a.words.now a.n a.t a.out.now c.requires c.if-n-i.false (omega (arith, z.place)))
