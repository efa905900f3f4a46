-- `overload::form_of` meets its contract: the forms of all shapes, which antt computes. Assumes nothing.
use Rattle.std.proofs.Common.{ltb, ltb→lt}
use Rattle.conv.specs.Rank.{both, form_of}
use Rattle.conv.proofs.Finite.{below}
use Rattle.overload.specs.inner.Code.{shape_of_no, entry}
use Rattle.overload.proofs.Lines.{line}
use Rattle.overload.proofs.form_of.Goals as goal

pub returns : goal.returns
unfolding both shape_of_no
returns c =
    (line 3 13 (λ k. form_of (shape_of_no k)) _ tt c.args.shape c.requires, ltb→lt _ 3 (below 13 (λ k. ltb (entry 3 _ k) 3) tt c.args.shape c.requires))
