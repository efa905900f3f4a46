-- `tplt::head::head_at` meets its contract: antt computes the head of each number. Assumes nothing.
use mathlib.Core.Path.{sym, ap}
use borrow.Author.Tests.{ne_eqb}
use Rattle.text.specs.Text.{ascii}
use Rattle.tplt.specs.Heads.{heads}
use Rattle.tplt.specs.inner.Steps.{key_of, head_at}
use Rattle.tplt.proofs.head.head_at.Goals as goal

pub returns-in-1620837560929 : goal.returns-in-1620837560929
unfolding key_of head_at ascii
returns-in-1620837560929 c = sym (ap (head_at heads) c.in-1620837560929.is)

pub returns-in-390779435447393 : goal.returns-in-390779435447393
unfolding key_of head_at ascii
returns-in-390779435447393 c = sym (ap (head_at heads) c.in-390779435447393.is)

pub returns-in-5140342134 : goal.returns-in-5140342134
unfolding key_of head_at ascii
returns-in-5140342134 c = sym (ap (head_at heads) c.in-5140342134.is)

pub returns-in-5157119350 : goal.returns-in-5157119350
unfolding key_of head_at ascii
returns-in-5157119350 c = sym (ap (head_at heads) c.in-5157119350.is)

pub returns-in-5173896566 : goal.returns-in-5173896566
unfolding key_of head_at ascii
returns-in-5173896566 c = sym (ap (head_at heads) c.in-5173896566.is)

pub returns-in-336966800662893 : goal.returns-in-336966800662893
unfolding key_of head_at ascii
returns-in-336966800662893 c = sym (ap (head_at heads) c.in-336966800662893.is)

pub returns-in-338066312290669 : goal.returns-in-338066312290669
unfolding key_of head_at ascii
returns-in-338066312290669 c = sym (ap (head_at heads) c.in-338066312290669.is)

pub returns-in-339165823918445 : goal.returns-in-339165823918445
unfolding key_of head_at ascii
returns-in-339165823918445 c = sym (ap (head_at heads) c.in-339165823918445.is)

pub returns-in-336966817440109 : goal.returns-in-336966817440109
unfolding key_of head_at ascii
returns-in-336966817440109 c = sym (ap (head_at heads) c.in-336966817440109.is)

pub returns-in-338066329067885 : goal.returns-in-338066329067885
unfolding key_of head_at ascii
returns-in-338066329067885 c = sym (ap (head_at heads) c.in-338066329067885.is)

pub returns-in-339165840695661 : goal.returns-in-339165840695661
unfolding key_of head_at ascii
returns-in-339165840695661 c = sym (ap (head_at heads) c.in-339165840695661.is)

pub returns-in-336966834217325 : goal.returns-in-336966834217325
unfolding key_of head_at ascii
returns-in-336966834217325 c = sym (ap (head_at heads) c.in-336966834217325.is)

pub returns-in-338066345845101 : goal.returns-in-338066345845101
unfolding key_of head_at ascii
returns-in-338066345845101 c = sym (ap (head_at heads) c.in-338066345845101.is)

pub returns-in-339165857472877 : goal.returns-in-339165857472877
unfolding key_of head_at ascii
returns-in-339165857472877 c = sym (ap (head_at heads) c.in-339165857472877.is)

pub returns-in_default : goal.returns-in_default
unfolding key_of head_at ascii
returns-in_default c = simp (ne_eqb _ _ c.in_default.in_default-own.rest.0.0.0.0.0.0.0.0.0.0.0.0.0.1, ne_eqb _ _ c.in_default.in_default-own.rest.0.0.0.0.0.0.0.0.0.0.0.0.1, ne_eqb _ _ c.in_default.in_default-own.rest.0.0.0.0.0.0.0.0.0.0.0.1, ne_eqb _ _ c.in_default.in_default-own.rest.0.0.0.0.0.0.0.0.0.0.1, ne_eqb _ _ c.in_default.in_default-own.rest.0.0.0.0.0.0.0.0.0.1, ne_eqb _ _ c.in_default.in_default-own.rest.0.0.0.0.0.0.0.0.1, ne_eqb _ _ c.in_default.in_default-own.rest.0.0.0.0.0.0.0.1, ne_eqb _ _ c.in_default.in_default-own.rest.0.0.0.0.0.0.1, ne_eqb _ _ c.in_default.in_default-own.rest.0.0.0.0.0.1, ne_eqb _ _ c.in_default.in_default-own.rest.0.0.0.0.1, ne_eqb _ _ c.in_default.in_default-own.rest.0.0.0.1, ne_eqb _ _ c.in_default.in_default-own.rest.0.0.1, ne_eqb _ _ c.in_default.in_default-own.rest.0.1, ne_eqb _ _ c.in_default.in_default-own.rest.1)
