-- `spell::text_at` meets its contract: antt computes each text. Assumes nothing.
use Rattle.std.proofs.Common.{sym, ap, arith}
use Rattle.text.specs.Text.{ascii}
use Rattle.spell.specs.Spell.{named}
use Rattle.spell.specs.inner.Parts.{text_of}
use Rattle.spell.proofs.Texts.{text-none}
use Rattle.spell.proofs.text_at.Goals as goal

pub returns-in-0 : goal.returns-in-0
unfolding text_of named ascii
returns-in-0 c = sym (ap text_of c.in-0.is)

pub returns-in-1 : goal.returns-in-1
unfolding text_of named ascii
returns-in-1 c = sym (ap text_of c.in-1.is)

pub returns-in-2 : goal.returns-in-2
unfolding text_of named ascii
returns-in-2 c = sym (ap text_of c.in-2.is)

pub returns-in-3 : goal.returns-in-3
unfolding text_of named ascii
returns-in-3 c = sym (ap text_of c.in-3.is)

pub returns-in-4 : goal.returns-in-4
unfolding text_of named ascii
returns-in-4 c = sym (ap text_of c.in-4.is)

pub returns-in-5 : goal.returns-in-5
unfolding text_of named ascii
returns-in-5 c = sym (ap text_of c.in-5.is)

pub returns-in-6 : goal.returns-in-6
unfolding text_of named ascii
returns-in-6 c = sym (ap text_of c.in-6.is)

pub returns-in-7 : goal.returns-in-7
unfolding text_of named ascii
returns-in-7 c = sym (ap text_of c.in-7.is)

pub returns-in-8 : goal.returns-in-8
unfolding text_of named ascii
returns-in-8 c = sym (ap text_of c.in-8.is)

pub returns-in-9 : goal.returns-in-9
unfolding text_of named ascii
returns-in-9 c = sym (ap text_of c.in-9.is)

pub returns-in-10 : goal.returns-in-10
unfolding text_of named ascii
returns-in-10 c = sym (ap text_of c.in-10.is)

pub returns-in-11 : goal.returns-in-11
unfolding text_of named ascii
returns-in-11 c = sym (ap text_of c.in-11.is)

pub returns-in-12 : goal.returns-in-12
unfolding text_of named ascii
returns-in-12 c = sym (ap text_of c.in-12.is)

pub returns-in-13 : goal.returns-in-13
unfolding text_of named ascii
returns-in-13 c = sym (ap text_of c.in-13.is)

pub returns-in-14 : goal.returns-in-14
unfolding text_of named ascii
returns-in-14 c = sym (ap text_of c.in-14.is)

pub returns-in-15 : goal.returns-in-15
unfolding text_of named ascii
returns-in-15 c = sym (ap text_of c.in-15.is)

pub returns-in-16 : goal.returns-in-16
unfolding text_of named ascii
returns-in-16 c = sym (ap text_of c.in-16.is)

pub returns-in-17 : goal.returns-in-17
unfolding text_of named ascii
returns-in-17 c = sym (ap text_of c.in-17.is)

pub returns-in-18 : goal.returns-in-18
unfolding text_of named ascii
returns-in-18 c = sym (ap text_of c.in-18.is)

pub returns-in-19 : goal.returns-in-19
unfolding text_of named ascii
returns-in-19 c = sym (ap text_of c.in-19.is)

pub returns-in-20 : goal.returns-in-20
unfolding text_of named ascii
returns-in-20 c = sym (ap text_of c.in-20.is)

pub returns-in-21 : goal.returns-in-21
unfolding text_of named ascii
returns-in-21 c = sym (ap text_of c.in-21.is)

pub returns-in-22 : goal.returns-in-22
unfolding text_of named ascii
returns-in-22 c = sym (ap text_of c.in-22.is)

pub returns-in-23 : goal.returns-in-23
unfolding text_of named ascii
returns-in-23 c = sym (ap text_of c.in-23.is)

pub returns-in-24 : goal.returns-in-24
unfolding text_of named ascii
returns-in-24 c = sym (ap text_of c.in-24.is)

pub returns-in-25 : goal.returns-in-25
unfolding text_of named ascii
returns-in-25 c = sym (ap text_of c.in-25.is)

pub returns-in-26 : goal.returns-in-26
unfolding text_of named ascii
returns-in-26 c = sym (ap text_of c.in-26.is)

pub returns-in_default : goal.returns-in_default
returns-in_default c = let r = c.in_default.in_default-own.rest in sym (text-none c.args.k (omega (arith, r.0.0.0.0.0.0.0.0.0.0.0.0.0.0.0.0.0.0.0.0.0.0.0.0.0.0.1, r.0.0.0.0.0.0.0.0.0.0.0.0.0.0.0.0.0.0.0.0.0.0.0.0.0.1, r.0.0.0.0.0.0.0.0.0.0.0.0.0.0.0.0.0.0.0.0.0.0.0.0.1, r.0.0.0.0.0.0.0.0.0.0.0.0.0.0.0.0.0.0.0.0.0.0.0.1, r.0.0.0.0.0.0.0.0.0.0.0.0.0.0.0.0.0.0.0.0.0.0.1, r.0.0.0.0.0.0.0.0.0.0.0.0.0.0.0.0.0.0.0.0.0.1, r.0.0.0.0.0.0.0.0.0.0.0.0.0.0.0.0.0.0.0.0.1, r.0.0.0.0.0.0.0.0.0.0.0.0.0.0.0.0.0.0.0.1, r.0.0.0.0.0.0.0.0.0.0.0.0.0.0.0.0.0.0.1, r.0.0.0.0.0.0.0.0.0.0.0.0.0.0.0.0.0.1, r.0.0.0.0.0.0.0.0.0.0.0.0.0.0.0.0.1, r.0.0.0.0.0.0.0.0.0.0.0.0.0.0.0.1, r.0.0.0.0.0.0.0.0.0.0.0.0.0.0.1, r.0.0.0.0.0.0.0.0.0.0.0.0.0.1, r.0.0.0.0.0.0.0.0.0.0.0.0.1, r.0.0.0.0.0.0.0.0.0.0.0.1, r.0.0.0.0.0.0.0.0.0.0.1, r.0.0.0.0.0.0.0.0.0.1, r.0.0.0.0.0.0.0.0.1, r.0.0.0.0.0.0.0.1, r.0.0.0.0.0.0.1, r.0.0.0.0.0.1, r.0.0.0.0.1, r.0.0.0.1, r.0.0.1, r.0.1, r.1)))
