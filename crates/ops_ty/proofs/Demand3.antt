-- DEMANDS 2 AND 3 for operators: "For ruled operators .., loaded operands in a sound table with room". `Demand3` says the demand in the customer's words over the overloads
-- that an operator has, written from the standard, less those that K3 drops by the operands' marks; what is answered stands for the preferred overload's result. Assumes nothing.
use Prim.Native.Nat.{ℕ, ◌<◌}
use mathlib.Core.Path.{◌≡◌, sym, ◌∙◌, ap, subst}
use mathlib.Core.Bool.{Bool, false}
use mathlib.Core.List.{List, [], ◌∷◌}
use lib.Dec.{T}
use Rattle.held.specs.Held.{number_of, mark_of}
use Rattle.conv.specs.Types.{Ty, abstract_ty}
use Rattle.conv.specs.Rank.{both, is_reference}
use Rattle.overload.specs.Marks.{remaining, running_abstract}
use Rattle.overload.specs.Overload.{Overload, fits}
use Rattle.overload.specs.Rows.{of_row, overloads_by}
use Rattle.overload.specs.Rows.Ruling.{by_row}
use Rattle.table.specs.Table.{Sound}
use Rattle.table.specs.Placing.{turned_down}
use Rattle.answer.specs.declared.Reason.TheVariants.{NoOverload}
use Rattle.table.proofs.SoundLaws.{of-sound}
use Rattle.ruled.specs.Call.{operand_ty, any_reference, takes_reference, offends, ruled_outcome}
use Rattle.ruled.specs.Demand3.{HasRoom, Demand3}
use Rattle.ruled.proofs.Demands.{ruled-demand-3, ruled-none}
use Rattle.ops_ty.specs.Ops.{unary_ops, unary_ruling, type_unary_op, binary_ops, binary_row, type_binary_op}
use Rattle.ops_ty.proofs.Ways.{unary-known, binary-known, unary-loaded, unary-ruled, binary-ruled, unary-call, binary-call, one-formed, two_formed, one-clashes}

-- UNARY: `!` `-` `~` by their rows, `&` and `*` by the overloads that their rule describes

module _ (w : List ℕ) (n : ℕ) (s : Sound w n) (op a : ℕ) (known : op < unary_ops) (la : number_of a < n) where
  -- the operand's type and its mark
  abbrev ts : List Ty
  ts = operand_ty w a ∷ []

  abbrev ms : List Bool
  ms = mark_of a ∷ []

  unary-is : ruled_outcome 0 w n (unary_ruling op) ts ms ≡ type_unary_op w n op a
  unary-is = unary-ruled 0 w n op (operand_ty w a) (mark_of a) known ∙ unary-call w n op a (of-sound w n s) la

  -- no reference is offered, but to unary `&`; no operand is both running and abstract at any depth
  pub record Loaded : Type 0 where
    pub offered : offends (unary_ruling op) (operand_ty w a ∷ []) ≡ false
    pub apart : running_abstract (operand_ty w a ∷ []) (mark_of a ∷ []) ≡ false

  pub unary-demand-3 : Loaded → HasRoom (remaining (mark_of a ∷ []) (overloads_by (unary_ruling op))) w n (operand_ty w a ∷ [])
      → Demand3 (remaining (mark_of a ∷ []) (overloads_by (unary_ruling op))) (operand_ty w a ∷ []) (type_unary_op w n op a)
  unary-demand-3 l room =
      subst (Demand3 (remaining ms (overloads_by (unary_ruling op))) ts) unary-is
      (ruled-demand-3 0 w n s (unary_ruling op) (unary-known op) ts (one-formed w n s (number_of a) la) ms l.offered l.apart room)

  -- and none fits: refused with 8
  pub unary-none : Loaded → ((p : Overload) → remaining (mark_of a ∷ []) (overloads_by (unary_ruling op)) p → T (fits p.params (operand_ty w a ∷ [])) → ⊥)
      → type_unary_op w n op a ≡ turned_down NoOverload 0 w n
  unary-none l h = sym unary-is ∙ ruled-none 0 w n s (unary_ruling op) (unary-known op) ts (one-formed w n s (number_of a) la) ms l.offered l.apart h

  -- a const operand that is no reference is loaded
  pub loaded-by : is_reference (operand_ty w a) ≡ false → mark_of a ≡ false → Loaded
  unfolding both
  loaded-by h c =
      record { offered = unary-loaded op (operand_ty w a) h; apart = one-clashes (operand_ty w a) (mark_of a) ∙ ap (λ (m : Bool). both m (abstract_ty (operand_ty w a))) c }

-- BINARY

module _ (w : List ℕ) (n : ℕ) (s : Sound w n) (op a b : ℕ) (known : op < binary_ops) (la : number_of a < n) (lb : number_of b < n)
    (left : is_reference (operand_ty w a) ≡ false) (right : is_reference (operand_ty w b) ≡ false)
    (apart : running_abstract (operand_ty w a ∷ operand_ty w b ∷ []) (mark_of a ∷ mark_of b ∷ []) ≡ false) where
  abbrev both-ts : List Ty
  both-ts = operand_ty w a ∷ operand_ty w b ∷ []

  abbrev both-ms : List Bool
  both-ms = mark_of a ∷ mark_of b ∷ []

  binary-is : ruled_outcome 0 w n (by_row (binary_row op)) both-ts both-ms ≡ type_binary_op w n op a b
  binary-is = binary-ruled 0 w n op (operand_ty w a) (operand_ty w b) (mark_of a) (mark_of b) known ∙ binary-call w n op a b (of-sound w n s) la lb

  loaded : offends (by_row (binary_row op)) both-ts ≡ false
  unfolding any_reference takes_reference
  loaded = rw (left, right)

  pub binary-demand-3 : HasRoom (remaining (mark_of a ∷ mark_of b ∷ []) (of_row (binary_row op))) w n (operand_ty w a ∷ operand_ty w b ∷ [])
      → Demand3 (remaining (mark_of a ∷ mark_of b ∷ []) (of_row (binary_row op))) (operand_ty w a ∷ operand_ty w b ∷ []) (type_binary_op w n op a b)
  unfolding overloads_by
  binary-demand-3 room =
      subst (Demand3 (remaining both-ms (of_row (binary_row op))) both-ts) binary-is
      (ruled-demand-3 0 w n s (by_row (binary_row op)) (binary-known op) both-ts (two_formed w n s (number_of a) (number_of b) la lb) both-ms loaded apart room)

  pub binary-none : ((p : Overload) → remaining (mark_of a ∷ mark_of b ∷ []) (of_row (binary_row op)) p → T (fits p.params (operand_ty w a ∷ operand_ty w b ∷ [])) → ⊥)
      → type_binary_op w n op a b ≡ turned_down NoOverload 0 w n
  unfolding overloads_by
  binary-none h = sym binary-is ∙ ruled-none 0 w n s (by_row (binary_row op)) (binary-known op) both-ts (two_formed w n s (number_of a) (number_of b) la lb) both-ms loaded apart h
