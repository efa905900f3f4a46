-- Document 01, "Sixteen cases for the table of proof": "One statement covers all". Ten are of operators, by the operator's number, six of builtins, by the bytes of the
-- name, each through the definition that a host's call uses. Assumes nothing.
use Rattle.ops_ty.proofs.Sixteen.{Ten, ten}
use Rattle.call_ty.proofs.Sixteen.{Six, six}

pub record Sixteen : Type 0 where
  pub operators : Ten
  pub builtins : Six

pub sixteen : Sixteen
sixteen = record { operators = ten; builtins = six }
