-- What asking for a spelling gives, and the output afterwards. Assumes nothing.
use Rattle.std.specs.Prelude.{ℕ, ◌≡◌, cond, List, [], ◌∷◌, ◌++◌, leb, ltb, length, drop, Result, Ok, Err}
use Rattle.answer.specs.Answer.{reason_no}
use Rattle.table.specs.Table.{soundb}
use Rattle.table.specs.Denote.{type_at}
use Rattle.answer.specs.declared.TypeNo.{TypeNo}
use Rattle.answer.specs.declared.Reason.{Reason}
use Rattle.answer.specs.declared.Refusal.{Refusal}
use Rattle.answer.specs.declared.Reason.TheVariants.{Unsound, NoSuchType, TooLong}
use Rattle.spell.specs.Spell.{spelling}

-- what asking for a spelling gives: its length, or a refusal
abbrev pub Spelled : Type 0
Spelled = Result ℕ Refusal

-- a reply in document 01's numbers: the refusal's number, 0 for none; then the length, or the place and the used count
pub record ReplyNumbers : Type 0 where
  pub refusal : ℕ
  pub values : List ℕ

abbrev pub spelled_numbers : Spelled → ReplyNumbers
spelled_numbers (Ok k) = record { refusal = 0; values = k ∷ [] }
spelled_numbers (Err r) = record { refusal = reason_no r.reason; values = r.place.0 ∷ r.used ∷ [] }

-- the spelling of number t of the table w
abbrev pub spelling_at : List ℕ → TypeNo → List ℕ
spelling_at w t = spelling (type_at w t.0)

-- "Spelling: 1, 2, 12", in this order: table not sound; type number not below n; spelling longer than the output. Then the spelling
unfoldable pub in_order : {A : Type 0} → List ℕ → ℕ → TypeNo → List ℕ → A → A → A → A → A
in_order w n t out unsound beyond long done =
    cond (soundb w n)
    (cond (ltb t.0 n)
    (cond (leb (length (spelling_at w t)) (length out)) done long)
    beyond)
    unsound

-- "Single calls have place 0"; the used count of a refusal is n
abbrev pub refuse_spelling : Reason → ℕ → Spelled
refuse_spelling reason n = Err (record { reason = reason; place = record { 0 = 0 }; used = n })

-- "The reply is its length"
unfoldable pub spell_reply : List ℕ → ℕ → TypeNo → List ℕ → Spelled
spell_reply w n t out = in_order w n t out (refuse_spelling Unsound n) (refuse_spelling NoSuchType n) (refuse_spelling TooLong n) (Ok (length (spelling_at w t)))

-- the same in document 01's numbers
abbrev pub refusal_numbers : ℕ → ℕ → ReplyNumbers
refusal_numbers k n = record { refusal = k; values = 0 ∷ n ∷ [] }

unfoldable pub spell_numbers : List ℕ → ℕ → TypeNo → List ℕ → ReplyNumbers
spell_numbers w n t out =
    in_order w n t out (refusal_numbers 1 n) (refusal_numbers 2 n) (refusal_numbers 12 n) (record { refusal = 0; values = length (spelling_at w t) ∷ [] })

-- the spelling at the front of the output; "later bytes stay unchanged". A refusal leaves every byte
unfoldable pub spell_bytes : List ℕ → ℕ → TypeNo → List ℕ → List ℕ
spell_bytes w n t out = in_order w n t out out out out (spelling_at w t ++ drop (length (spelling_at w t)) out)

-- the promise: the reply, in itself and in numbers, and every byte of the output afterwards
pub record SpellDone (w : List ℕ) (n : ℕ) (t : TypeNo) (out : List ℕ) (r : Spelled) (after : List ℕ) : Type 0 where
  pub reply : r ≡ spell_reply w n t out
  pub numbers : spelled_numbers r ≡ spell_numbers w n t out
  pub bytes : after ≡ spell_bytes w n t out
