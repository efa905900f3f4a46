-- What a host gets: the documents' numbers, as a struct of C holds them. Assumes nothing.
use Rattle.std.specs.Prelude.{ℕ, ◌≡◌, Bool, cond, List, [], ◌∷◌}
use Rattle.answer.specs.Answer.{reason_no, Numbers, numbers_of, refuse, marked_by}
use Rattle.held.specs.Held.{running_bit}
use Rattle.table.specs.Table.{soundb}
use Rattle.table.specs.Placing.{Outcome}
use Rattle.answer.specs.declared.Reason.TheVariants.{Unsound}
use Rattle.answer.specs.declared.Answer.{Answer}
use Rattle.answer.specs.declared.Typed.{Typed}
use Rattle.answer.specs.declared.Answer.TheVariants.{NoValue}
use Rattle.spell.specs.Reply.{Spelled}
use Rattle.std.specs.Prelude.{Ok, Err}
use Rattle.spell.specs.Reply.{spell_reply, spell_bytes}
use Rattle.reasons.specs.Reasons.{together}
use Rattle.why.specs.Why.{why_reply, why_bytes}
use Rattle.frame.specs.declared.Part.{Part}
use Rattle.swartabelk.specs.declared.Reply.{Reply}
use Rattle.swartabelk.specs.declared.SpelledReply.{SpelledReply}
use Rattle.swartabelk.specs.declared.NamePart.{NamePart}

-- the number that is no type's: where there is no value, and where the call is refused
abbrev pub no_value : ℕ
no_value = 4294967295

abbrev pub type_or : List ℕ → ℕ
type_or [] = no_value
type_or (t ∷ ts) = t

-- the mark of a value: the bit that an operand has where it is known only when running
abbrev pub mark_bit : Bool → ℕ
mark_bit m = cond m running_bit 0

-- the refusal's number, 0 for none; the type's number or `no_value`; the mark; the place; the used count; how many entries lack
abbrev pub tell : ℕ → ℕ → ℕ → ℕ → ℕ → ℕ → Reply
tell refusal t mark place used lacking = record { refusal = refusal; ty = t; mark = mark; place = place; used = used; lacking = lacking }

unfoldable pub reply_to : Bool → Numbers → Reply
reply_to m k = tell k.refusal (type_or k.value) (mark_bit m) k.place k.used k.lacking

unfoldable pub reply_of : Typed → Reply
reply_of t = reply_to t.running (numbers_of t.answer)

-- what a call promises, where a value of it would have that mark: the reply, whose mark is 0 where there is no value, and every word afterwards
pub record Replied (o : Outcome) (mark : Bool) (r : Reply) (after : List ℕ) : Type 0 where
  pub reply : r ≡ reply_of (marked_by mark o.answer)
  pub words : after ≡ o.words

-- asking whether a table is sound gives no value, or refusal 1
unfoldable pub check_answer : List ℕ → ℕ → Answer
check_answer w n = cond (soundb w n) (NoValue n) (refuse Unsound 0 n)

-- a spelling: the refusal's number, 0 for none; the length, 0 where it is refused; the place; the used count
unfoldable pub spelled_of : ℕ → Spelled → SpelledReply
spelled_of n (Ok k) = record { refusal = 0; length = k; place = 0; used = n }
spelled_of n (Err r) = record { refusal = reason_no r.reason; length = 0; place = r.place.0; used = r.used }

-- what it promises: the reply, and every byte of the output afterwards
pub record SpelledOut (w : List ℕ) (n t : ℕ) (out : List ℕ) (r : SpelledReply) (after : List ℕ) : Type 0 where
  pub reply : r ≡ spelled_of n (spell_reply w n (record { 0 = t }) out)
  pub bytes : after ≡ spell_bytes w n (record { 0 = t }) out

-- a text that tells why, of a call that answers a and whose text has these pieces: the reply in the same numbers, and every byte of the output afterwards
pub record ToldOut (n : ℕ) (a : Answer) (ps : List (List ℕ)) (out : List ℕ) (r : SpelledReply) (after : List ℕ) : Type 0 where
  pub reply : r ≡ spelled_of n (why_reply n a (together ps) out)
  pub bytes : after ≡ why_bytes (together ps) out

-- the part of the sheet that a call shows as its name
abbrev pub part_of : Part → NamePart
part_of p = record { start = p.start.0; length = p.length }
