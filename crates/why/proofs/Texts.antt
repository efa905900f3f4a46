-- A text put piece by piece, and put only where it fits. Assumes nothing.
use Prim.Native.Nat.{ℕ, ◌+◌, ◌*◌, ◌≤◌, ◌<◌}
use native.Mathlib.Omega.{arith}
use native.Mathlib.Numerals.{add-one}
use mathlib.Core.Path.{◌≡◌, refl, sym, ◌∙◌, ap}
use mathlib.Core.List.{List, [], ◌∷◌, ◌++◌, append_assoc, append-nil}
use lib.ListN.{length, get_or, take}
use lib.Seq.{sets, take-suc, take-length}
use borrow.Author.Tests.{le-leb, lt-leb}
use Rattle.answer.specs.declared.Reason.TheVariants.{TooLong}
use Rattle.answer.specs.declared.Refusal.{Refusal}
use Rattle.text.specs.Text.{Put}
use Rattle.text.proofs.Puts.{put-nothing, put-put, put_as, over-room}
use Rattle.spell.specs.Reply.{refuse_spelling}
use Rattle.spell.specs.Reply.{Spelled}
use Rattle.std.specs.Prelude.{Ok, Err}
use Rattle.reasons.specs.Reasons.{together}
use Rattle.reasons.specs.inner.Told.{piece_room}
use Rattle.why.specs.Why.{written_reply, why_bytes}
use Rattle.std.proofs.Common.{Option, Ok, Err}
use Rattle.why.specs.inner.Asks.{Asked, asked_pieces, asked_reply, Written, Telling}
use Rattle.why.specs.declared.Verdict.{Verdict}

together-append : (xs ys : List (List ℕ)) → together (xs ++ ys) ≡ together xs ++ together ys
unfolding together
together-append [] ys = refl
together-append (x ∷ xs) ys = ap (λ (l : List ℕ). x ++ l) (together-append xs ys) ∙ simp append_assoc

together-one : (x : List ℕ) → together (x ∷ []) ≡ x
unfolding together
together-one x = append-nil x

-- THE PIECES so far: the first j, which end at a place
pub record Run (ps : List (List ℕ)) (out : List ℕ) (j at : ℕ) (now : List ℕ) : Type 0 where
  pub within : j ≤ length ps
  pub put : Put out 0 (together (take j ps)) at now
  pub near : at ≤ j * piece_room

pub run-first : (ps : List (List ℕ)) (out : List ℕ) → Run ps out 0 0 out
unfolding together
run-first ps out = record { within = omega arith; put = put-nothing out 0; near = omega arith }

pub run-next : {ps : List (List ℕ)} {out v u : List ℕ} {j at r : ℕ} → j < length ps → Run ps out j at v → Put v at (get_or ps j []) r u → r ≤ at + piece_room → Run ps out (j + 1) r u
run-next {ps} {out} {v} {u} {j} {at} {r} l a p h =
    let e : together (take j ps) ++ get_or ps j [] ≡ together (take (j + 1) ps) =
    ap (λ (x : List ℕ). together (take j ps) ++ x) (sym (together-one (get_or ps j [])))
    ∙ sym (together-append (take j ps) (get_or ps j [] ∷ []))
    ∙ ap together (sym (take-suc ps j [] l) ∙ ap (λ (k : ℕ). take k ps) (sym (add-one j))) in
    record { within = omega arith; put = put_as e (put-put a.put p); near = omega (arith, a.near) }

pub run-all : {ps : List (List ℕ)} {out v : List ℕ} {j at : ℕ} → length ps ≤ j → Run ps out j at v → Put out 0 (together ps) at v
run-all {ps} {out} {v} {j} {at} l a =
    let e : j ≡ length ps = omega (arith, a.within) in
    put_as (ap together (ap (λ (k : ℕ). take k ps) e ∙ take-length ps)) a.put

-- PUT WHERE IT FITS

module _ (n : ℕ) (text out : List ℕ) where
  pub written-long : length out < length text → Written n text out (refuse_spelling TooLong n) out
  unfolding written_reply why_bytes
  written-long l = let z = lt-leb (length text) (length out) l in record { reply = rw z; bytes = rw z }

  pub written-fits : length text ≤ length out → Written n text out (Ok (length text)) (sets out 0 text)
  unfolding written_reply why_bytes
  written-fits l = let z = le-leb (length text) (length out) l in record { reply = rw z; bytes = rw z (over-room text out l) }

-- TOLD by what there is to tell

module _ (w : List ℕ) (n : ℕ) (args : List ℕ) (asked : Asked) (out : List ℕ) where
  pub tell-put : {r : Spelled} {v : List ℕ} {x : Option Verdict} → asked ≡ Ok x → Written n (together (asked_pieces w args asked)) out r v → Telling w n args asked out r v
  unfolding asked_reply
  tell-put {r} {v} e p = record { reply = p.reply ∙ ap (λ (x : Asked). asked_reply n x (together (asked_pieces w args asked)) out) (sym e); bytes = p.bytes }

  pub tell-refused : (q : Refusal) → asked ≡ Err q → Telling w n args asked out (Err q) out
  unfolding asked_reply asked_pieces together why_bytes
  tell-refused q e = rw e (record { reply = refl; bytes = rw (le-leb 0 (length out) (omega arith)) })
