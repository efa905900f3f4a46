-- `spell::spell_type` and `spell::spell_args` meet their contracts together. A place stays near, since each entry adds fewer bytes than `span`. Assumes nothing.
use Rattle.std.proofs.Common.{◌≡◌, ◌+◌, ◌*◌, ◌≤◌, ◌<◌, ◌∙◌, ap, true, false, ◌||◌, arith}
use lib.Dec.{eqb}
use Rattle.table.proofs.TypeLaws.{row_at}
use Rattle.table.specs.declared.Entry.{Entry}
use Rattle.table.specs.Table.{entry_at}
use Rattle.spell.proofs.Entries.{under, alone, with-args, with-result}
use Rattle.spell.proofs.Heads.{head-long, opening-long, closing-long, fract-long}
use Rattle.spell.specs.inner.Parts.{half}
use Rattle.text.proofs.Puts.{put-put}
use Rattle.spell.proofs.+spell_args_spell_type.Goals as goal

pub spell_args-spell_type-b-requires : goal.spell_args-spell_type-b-requires
spell_args-spell_type-b-requires t c =
    let a = c.args in
    let p = c.requires in
    let e = c.word.ensures ∙ ap (λ (x : Entry). x.elem) c.entry_at-e.ensures in
    let d : c.word.result < a.i = rw e (row_at a.words.now a.n p.sound a.i p.scalars_le_i.0 p.scalars_le_i.1).0 in
    let near : c.put_opening-a.result ≤ a.at + 40 = omega (arith, c.put_opening-a.ensures.place, opening-long c.entry_at-e.result) in
    (omega arith, (p.sound, (omega arith, omega (arith, near))))

pub spell_args-put_closing-requires : goal.spell_args-put_closing-requires
spell_args-put_closing-requires t c =
    let a = c.args in
    let p = c.requires in
    let e = c.word.ensures ∙ ap (λ (x : Entry). x.elem) c.entry_at-e.ensures in
    let d : c.word.result < a.i = rw e (row_at a.words.now a.n p.sound a.i p.scalars_le_i.0 p.scalars_le_i.1).0 in
    let near : c.put_opening-a.result ≤ a.at + 40 = omega (arith, c.put_opening-a.ensures.place, opening-long c.entry_at-e.result) in
    omega (arith, c.spell_type-b.ensures.upper_bound, near, d)

pub spell_args-returns : goal.spell_args-returns
spell_args-returns t c =
    let a = c.args in
    let p = c.requires in
    let e = c.entry_at-e.ensures in
    let f : c.word.result ≡ (entry_at a.words.now a.i).elem = c.word.ensures ∙ ap (λ (x : Entry). x.elem) e in
    let d : c.word.result < a.i = rw f (row_at a.words.now a.n p.sound a.i p.scalars_le_i.0 p.scalars_le_i.1).0 in
    let near : c.put_opening-a.result ≤ a.at + 40 = omega (arith, c.put_opening-a.ensures.place, opening-long c.entry_at-e.result) in
    record {
      put = put-put (put-put (rw e at c.put_opening-a.ensures) (rw f at c.spell_type-b.ensures.put)) (rw e at c.put_closing.ensures);
      upper_bound = omega (arith, c.spell_type-b.ensures.upper_bound, near, d, c.put_closing.ensures.place, closing-long c.entry_at-e.result, ap (λ (x : Entry). x.p) e, c.type_inv.words (a.i * 4 + 1));
    }

pub spell_type-returns-then-e-lt-KIND_VEC : goal.spell_type-returns-then-e-lt-KIND_VEC
spell_type-returns-then-e-lt-KIND_VEC t c =
    let a = c.args in
    let p = c.requires in
    let e = c.entry_at-e.ensures in
    let k : (entry_at a.words.now a.i).kind < 7 = omega (arith, c.if-e-lt-KIND_VEC.true, ap (λ (x : Entry). x.kind) e) in
    record {
      put = rw (alone a.words.now a.n p.sound a.i p.i_lt_n k) (rw e at c.put_head-mid.ensures);
      upper_bound = omega (arith, c.put_head-mid.ensures.place, head-long c.entry_at-e.result, ap (λ (x : Entry). x.p) e, ap (λ (x : Entry). x.q) e, c.type_inv.words (a.i * 4 + 1), c.type_inv.words (a.i * 4 + 2));
    }

pub spell_type-entry_at-requires : goal.spell_type-entry_at-requires
spell_type-entry_at-requires t c =
    let a = c.args in
    let p = c.requires in
    let e = c.entry_at-e.ensures in
    let k : 7 ≤ (entry_at a.words.now a.i).kind = omega (arith, c.if-e-lt-KIND_VEC.false, ap (λ (x : Entry). x.kind) e) in
    omega (arith, c.word.ensures, ap (λ (x : Entry). x.elem) e, (under a.words.now a.n p.sound a.i p.i_lt_n k).1)

pub spell_type-put_fract-requires : goal.spell_type-put_fract-requires
spell_type-put_fract-requires t c =
    let a = c.args in
    let e = c.entry_at-e.ensures in
    omega (arith, c.put_head-mid.ensures.place, head-long c.entry_at-e.result, ap (λ (x : Entry). x.p) e, ap (λ (x : Entry). x.q) e, c.type_inv.words (a.i * 4 + 1), c.type_inv.words (a.i * 4 + 2))

pub spell_type-returns-then-e : goal.spell_type-returns-then-e
spell_type-returns-then-e t c =
    let a = c.args in
    let p = c.requires in
    let e = c.entry_at-e.ensures in
    let k : 7 ≤ (entry_at a.words.now a.i).kind = omega (arith, c.if-e-lt-KIND_VEC.false, ap (λ (x : Entry). x.kind) e) in
    let r : (eqb (entry_at a.words.now a.i).kind 14 || eqb (entry_at a.words.now a.i).kind 15) ≡ true = rw e at c.if-e.true in
    let f = rw (c.word.ensures ∙ ap (λ (x : Entry). x.elem) e) at c.entry_at.ensures in
    let m = (entry_at a.words.now a.i).elem in
    let near : c.put_head-mid.result ≤ a.at + half = omega (arith, c.put_head-mid.ensures.place, head-long c.entry_at-e.result, ap (λ (x : Entry). x.p) e, ap (λ (x : Entry). x.q) e, c.type_inv.words (a.i * 4 + 1), c.type_inv.words (a.i * 4 + 2)) in
    record {
      put = rw (with-result a.words.now a.n p.sound a.i p.i_lt_n k r) (put-put (rw e at c.put_head-mid.ensures) (rw f at c.put_fract.ensures));
      upper_bound = omega (arith, near, c.put_fract.ensures.place, fract-long c.entry_at.result, ap (λ (x : Entry). x.p) f, ap (λ (x : Entry). x.q) f, c.type_inv.words (m * 4 + 1), c.type_inv.words (m * 4 + 2));
    }

pub spell_type-spell_args-requires : goal.spell_type-spell_args-requires
spell_type-spell_args-requires t c =
    let a = c.args in
    let p = c.requires in
    let e = c.entry_at-e.ensures in
    let k : 7 ≤ (entry_at a.words.now a.i).kind = omega (arith, c.if-e-lt-KIND_VEC.false, ap (λ (x : Entry). x.kind) e) in
    let near : c.put_head-mid.result ≤ a.at + half = omega (arith, c.put_head-mid.ensures.place, head-long c.entry_at-e.result, ap (λ (x : Entry). x.p) e, ap (λ (x : Entry). x.q) e, c.type_inv.words (a.i * 4 + 1), c.type_inv.words (a.i * 4 + 2)) in
    (omega arith, (p.sound, (((under a.words.now a.n p.sound a.i p.i_lt_n k).0, p.i_lt_n), omega (arith, near))))

pub spell_type-returns : goal.spell_type-returns
spell_type-returns t c =
    let a = c.args in
    let p = c.requires in
    let e = c.entry_at-e.ensures in
    let k : 7 ≤ (entry_at a.words.now a.i).kind = omega (arith, c.if-e-lt-KIND_VEC.false, ap (λ (x : Entry). x.kind) e) in
    let m : (eqb (entry_at a.words.now a.i).kind 14 || eqb (entry_at a.words.now a.i).kind 15) ≡ false = rw e at c.if-e.false in
    let near : c.put_head-mid.result ≤ a.at + half = omega (arith, c.put_head-mid.ensures.place, head-long c.entry_at-e.result, ap (λ (x : Entry). x.p) e, ap (λ (x : Entry). x.q) e, c.type_inv.words (a.i * 4 + 1), c.type_inv.words (a.i * 4 + 2)) in
    record {
      put = rw (with-args a.words.now a.n p.sound a.i p.i_lt_n k m) (put-put (rw e at c.put_head-mid.ensures) c.spell_args.ensures.put);
      upper_bound = omega (arith, c.spell_args.ensures.upper_bound, near);
    }
