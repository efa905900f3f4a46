-- What an accepted type does to the table: "A result not present is entered, an absent element before its container"; "An accepted call leaves
-- every earlier entry at its number and adds only the missing entries its result needs". Assumes nothing.
use Rattle.std.specs.Prelude.{ℕ, zero, suc, ◌+◌, ◌-◌, Bool, cond, List, ◌≡◌, leb, Option, Some, None}
use Rattle.conv.specs.Types.{Ty}
use Rattle.conv.specs.Types.Ty.{scalar, vec, mat, array, runtime, atomic, ptr, ref, frexp, modf, exchange}
use Rattle.conv.specs.Rank.{same_ty}
use Rattle.answer.specs.Answer.{numbers_of, accept, refuse, marked_by}
use Rattle.table.specs.Table.{put_entry, or_else}
use Rattle.table.specs.Denote.{type_at, kind_of, p_of, q_of}
use Rattle.table.specs.Enter.{free, lacking, enter_type_reply, enter_type_words}
use Rattle.table.specs.declared.Entry.{Entry}
use Rattle.answer.specs.declared.TypeNo.{TypeNo}
use Rattle.answer.specs.declared.Reason.{Reason}
use Rattle.answer.specs.declared.Reason.TheVariants.{NoRoom}
use Rattle.answer.specs.declared.Answer.{Answer}
use Rattle.answer.specs.declared.Typed.{Typed}

-- the number of the type R in a table of n entries
unfoldable pub stands_in : List ℕ → ℕ → Ty → Option TypeNo
stands_in w zero R = None
stands_in w (suc n) R = or_else (stands_in w n R) (cond (same_ty (type_at w n) R) (Some (record { 0 = n })) None)

-- where a type comes to stand: its number, the used count and the words, however many entries that takes
pub record Standing : Type 0 where
  pub number : ℕ
  pub used : ℕ
  pub words : List ℕ

abbrev pub stands_at : ℕ → ℕ → List ℕ → Standing
stands_at k n w = record { number = k; used = n; words = w }

-- the entry of R over the number of its element
abbrev pub entry_of : Ty → ℕ → Entry
entry_of R k = record { kind = kind_of R; p = p_of R; q = q_of R; elem = k }

-- R, whose element has its place already: at its number, or as the next entry
abbrev pub or_next : Option TypeNo → ℕ → List ℕ → Ty → Standing → Standing
or_next (Some t) n w R inner = stands_at t.0 n w
or_next None n w R inner = stands_at inner.used (inner.used + 1) (put_entry inner.words inner.used (entry_of R inner.number))

unfoldable pub placed_over : List ℕ → ℕ → Ty → Standing → Standing
placed_over w n R inner = or_next (stands_in w n R) n w R inner

unfoldable pub placed : List ℕ → ℕ → Ty → Standing
placed w n (scalar s) = stands_at s n w
placed w n (vec k s) = placed_over w n (vec k s) (stands_at s n w)
placed w n (mat c r s) = placed_over w n (mat c r s) (stands_at s n w)
placed w n (array k t) = placed_over w n (array k t) (placed w n t)
placed w n (runtime t) = placed_over w n (runtime t) (placed w n t)
placed w n (atomic s) = placed_over w n (atomic s) (stands_at s n w)
placed w n (ptr space access t) = placed_over w n (ptr space access t) (placed w n t)
placed w n (ref space access t) = placed_over w n (ref space access t) (placed w n t)
placed w n (frexp t) = placed_over w n (frexp t) (placed w n t)
placed w n (modf t) = placed_over w n (modf t) (placed w n t)
placed w n (exchange s) = placed_over w n (exchange s) (stands_at s n w)

-- a call's answer, and every word of the table afterwards
pub record Outcome : Type 0 where
  pub answer : Answer
  pub words : List ℕ

-- a refusal at a place, which changes no word
abbrev pub turned_down : Reason → ℕ → List ℕ → ℕ → Outcome
turned_down reason place w n = record { answer = refuse reason place n; words = w }

-- the type R is accepted: it is entered where it is absent, or refused with 9 where the slice or 256 leaves too little room, and with what lacks
unfoldable pub entering : ℕ → List ℕ → ℕ → Ty → Outcome
entering place w n R =
    cond (leb ((placed w n R).used - n) (free w n))
    (record { answer = accept (placed w n R).number (placed w n R).used; words = (placed w n R).words })
    (turned_down (NoRoom (lacking w n ((placed w n R).used - n))) place w n)

-- a host's entering of a type, as `Enter.antt` has it
abbrev pub enter_type : List ℕ → ℕ → Entry → Outcome
enter_type w n e = record { answer = enter_type_reply w n e; words = enter_type_words w n e }

-- what a call promises: its answer, the answer's numbers, and every word afterwards
pub record Gave (o : Outcome) (r : Answer) (after : List ℕ) : Type 0 where
  pub reply : r ≡ o.answer
  pub numbers : numbers_of r ≡ numbers_of o.answer
  pub words : after ≡ o.words

-- and what a call promises whose value has a mark: true where it is known only when running
pub record GaveMarked (o : Outcome) (mark : Bool) (r : Typed) (after : List ℕ) : Type 0 where
  pub reply : r ≡ marked_by mark o.answer
  pub numbers : numbers_of r.answer ≡ numbers_of o.answer
  pub words : after ≡ o.words
