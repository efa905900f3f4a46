-- Document 02, K7, "Tell me why": the text of a single call of an operator or a builtin, what asking for it gives, and the output afterwards. Assumes nothing.
use Rattle.std.specs.Prelude.{ℕ, ◌≡◌, Bool, cond, List, [], ◌∷◌, ◌++◌, eqb, leb, length, drop}
use Rattle.conv.specs.Types.{Ty}
use Rattle.held.specs.Held.{mark_of}
use Rattle.overload.specs.Rows.{Ruling}
use Rattle.overload.specs.Rows.Ruling.{by_row, on_atomic}
use Rattle.names.specs.Names.{Named, rule_of}
use Rattle.names.specs.Names.Rule.{ruling, storing, bitcast, barrier}
use Rattle.names.specs.Names.Named.{rule, unknown}
use Rattle.answer.specs.Answer.{reason_no}
use Rattle.answer.specs.declared.Reason.TheVariants.{TooLong}
use Rattle.answer.specs.declared.Refusal.{Refusal}
use Rattle.answer.specs.declared.Answer.{Answer}
use Rattle.answer.specs.declared.Answer.TheVariants.{Value, NoValue, Refused}
use Rattle.ruled.specs.Call.{operand_ty}
use Rattle.ops_ty.specs.Ops.{unary_ruling, binary_row, type_unary_op, type_binary_op}
use Rattle.call_ty.specs.Calls.{numbers, marks_of, types, type_builtin_fn}
use Rattle.spell.specs.Reply.{ReplyNumbers, spelled_numbers, refuse_spelling, refusal_numbers}
use Rattle.spell.specs.Reply.{Spelled}
use Rattle.std.specs.Prelude.{Ok, Err}
use Rattle.reasons.specs.Reasons.{together, refused_pieces, accepted_pieces}

-- what a call answered: it is accepted; it is refused with 8; or it is refused with another number
unfoldable pub by_answer : {A : Type 0} → Answer → A → A → (Refusal → A) → A
by_answer (Value t m) accepted refused other = accepted
by_answer (NoValue m) accepted refused other = accepted
by_answer (Refused r) accepted refused other = cond (eqb (reason_no r.reason) 8) refused (other r)

-- THE TEXT of a call, piece by piece: "A call refused with any other number (9 too): that number, nothing written"

unfoldable pub tell_by : Answer → Ruling → List Ty → List Bool → List (List ℕ)
tell_by a r ts ms = by_answer a (accepted_pieces r ts ms) (refused_pieces r ts) (λ q. [])

unfoldable pub unary_pieces : List ℕ → ℕ → ℕ → ℕ → List (List ℕ)
unary_pieces w n op a = tell_by (type_unary_op w n op a).answer (unary_ruling op) (operand_ty w a ∷ []) (mark_of a ∷ [])

unfoldable pub binary_pieces : List ℕ → ℕ → ℕ → ℕ → ℕ → List (List ℕ)
binary_pieces w n op a b =
    tell_by (type_binary_op w n op a b).answer (by_row (binary_row op)) (operand_ty w a ∷ operand_ty w b ∷ []) (mark_of a ∷ mark_of b ∷ [])

-- atomicStore takes what the other calls on atomics with one value take; of `bitcast` and the barriers, which no operand's type makes 8, nothing is told
unfoldable pub ruled_pieces : Named → Answer → List Ty → List Bool → List (List ℕ)
ruled_pieces (rule (ruling r) runs) a ts ms = tell_by a r ts ms
ruled_pieces (rule storing runs) a ts ms = tell_by a (on_atomic 1) ts ms
ruled_pieces (rule bitcast runs) a ts ms = []
ruled_pieces (rule barrier runs) a ts ms = []
ruled_pieces unknown a ts ms = []

unfoldable pub call_pieces : ℕ → List ℕ → ℕ → List ℕ → List ℕ → List ℕ → List (List ℕ)
call_pieces profile w n name tplt args =
    ruled_pieces (rule_of profile name) (type_builtin_fn profile w n name tplt args).answer (types w (numbers args)) (marks_of args)

-- WHAT ASKING GIVES, over a table of n entries: a refusal other than 8 as the call has it; then 12, a text longer than the output; else the text's length

unfoldable pub written_reply : ℕ → List ℕ → List ℕ → Spelled
written_reply n text out = cond (leb (length text) (length out)) (Ok (length text)) (refuse_spelling TooLong n)

unfoldable pub why_reply : ℕ → Answer → List ℕ → List ℕ → Spelled
why_reply n a text out = by_answer a (written_reply n text out) (written_reply n text out) Err

-- the same in the documents' numbers
unfoldable pub written_numbers : ℕ → List ℕ → List ℕ → ReplyNumbers
written_numbers n text out = cond (leb (length text) (length out)) (record { refusal = 0; values = length text ∷ [] }) (refusal_numbers 12 n)

unfoldable pub why_numbers : ℕ → Answer → List ℕ → List ℕ → ReplyNumbers
why_numbers n a text out =
    by_answer a (written_numbers n text out) (written_numbers n text out) (λ r. record { refusal = reason_no r.reason; values = r.place.0 ∷ r.used ∷ [] })

-- the text at the front of the output, whose later bytes stay as they are; all of them where it is too short. Where another refusal is handed on, the text has no byte
unfoldable pub why_bytes : List ℕ → List ℕ → List ℕ
why_bytes text out = cond (leb (length text) (length out)) (text ++ drop (length text) out) out

-- the promise, of a call that answers a and whose text has these pieces: the reply, in itself and in numbers, and every byte of the output afterwards
pub record WhyDone (n : ℕ) (a : Answer) (ps : List (List ℕ)) (out : List ℕ) (r : Spelled) (after : List ℕ) : Type 0 where
  pub reply : r ≡ why_reply n a (together ps) out
  pub numbers : spelled_numbers r ≡ why_numbers n a (together ps) out
  pub bytes : after ≡ why_bytes (together ps) out
