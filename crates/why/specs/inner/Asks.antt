-- What the code goes by: which rule a call is told by, or what is handed on in place of a text. Assumes nothing.
use Rattle.std.specs.Prelude.{ℕ, ◌*◌, ◌≤◌, ◌≡◌, Bool, true, false, List, [], Option, Some, None, Result, Ok, Err}
use Rattle.names.specs.Names.{Rule}
use Rattle.names.specs.Names.Rule.{ruling, storing, bitcast, barrier}
use Rattle.answer.specs.declared.Refusal.{Refusal}
use Rattle.answer.specs.declared.Answer.{Answer}
use Rattle.call_ty.specs.Calls.{marks_of}
use Rattle.spell.specs.Reply.{Spelled}
use Rattle.reasons.specs.Reasons.{pieces, together}
use Rattle.reasons.specs.inner.Told.{ruling_of, types_of, Told, piece_room}
use Rattle.why.specs.Why.{written_reply, why_reply, why_bytes}
use Rattle.why.specs.declared.Verdict.{Verdict}

-- the rules that have overloads, or take what others of them take
unfoldable pub has_ruling : Rule → Bool
has_ruling (ruling r) = true
has_ruling storing = true
has_ruling bitcast = false
has_ruling barrier = false

-- what there is to tell: what a call's rule said, or nothing; or a refusal that is handed on
abbrev pub Asked : Type 0
Asked = Result (Option Verdict) Refusal

-- what a rule said, where there is one
abbrev pub said : Option ℕ → Bool → Option Verdict
said None accepted = None
said (Some k) accepted = Some (record { rule = k; accepted = accepted })

-- what has to be known of a call before its text is put
unfoldable pub Tells : List ℕ → ℕ → List ℕ → Asked → Type 0
Tells w n args (Ok None) = Unit {0}
Tells w n args (Ok (Some v)) = Told w n v.rule v.accepted args
Tells w n args (Err r) = Unit {0}

-- the pieces of its text
unfoldable pub asked_pieces : List ℕ → List ℕ → Asked → List (List ℕ)
asked_pieces w args (Ok None) = []
asked_pieces w args (Ok (Some v)) = pieces v.accepted (ruling_of v.rule) (types_of w args) (marks_of args)
asked_pieces w args (Err r) = []

-- and the reply
unfoldable pub asked_reply : ℕ → Asked → List ℕ → List ℕ → Spelled
asked_reply n (Ok v) text out = written_reply n text out
asked_reply n (Err r) text out = Err r

-- what asking promises, of a call that answers a and whose text has the pieces ps
pub record Asks (w : List ℕ) (n : ℕ) (args : List ℕ) (ps : List (List ℕ)) (a : Answer) (asked : Asked) : Type 0 where
  pub tells : Tells w n args asked
  pub pieces : asked_pieces w args asked ≡ ps
  pub reply : (text out : List ℕ) → asked_reply n asked text out ≡ why_reply n a text out

-- what putting a text that is known promises: it is put where it fits; and what telling promises
pub record Written (n : ℕ) (text out : List ℕ) (r : Spelled) (after : List ℕ) : Type 0 where
  pub reply : r ≡ written_reply n text out
  pub bytes : after ≡ why_bytes text out

pub record Telling (w : List ℕ) (n : ℕ) (args : List ℕ) (asked : Asked) (out : List ℕ) (r : Spelled) (after : List ℕ) : Type 0 where
  pub reply : r ≡ asked_reply n asked (together (asked_pieces w args asked)) out
  pub bytes : after ≡ why_bytes (together (asked_pieces w args asked)) out

-- no text has more bytes: it has at most 256 pieces
abbrev pub text_room : ℕ
text_room = 256 * piece_room

unfoldable pub Short : Spelled → Type 0
Short (Ok k) = k ≤ text_room
Short (Err r) = Unit {0}
