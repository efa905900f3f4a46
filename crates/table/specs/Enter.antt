-- Entering: "A result not present is entered, an absent element before its container"; and document 02, K2: how much room is missing. Assumes nothing.
use Rattle.std.specs.Prelude.{ℕ, zero, suc, ◌+◌, ◌-◌, ◌/◌, cond, ◌≡◌, List, length, leb, Option, Some, None, Result, Ok, Err}
use Rattle.answer.specs.Answer.{refuse}
use Rattle.table.specs.Table.{stride, ceiling, put_entry, find_in, is_nothing, soundb, allowedb}
use Rattle.table.specs.declared.Entry.{Entry}
use Rattle.table.specs.declared.Entered.{Entered}
use Rattle.table.specs.declared.Lacks.{Lacks}
use Rattle.answer.specs.declared.TypeNo.{TypeNo}
use Rattle.answer.specs.declared.Reason.TheVariants.{Unsound, Template, NoRoom}
use Rattle.answer.specs.declared.Answer.{Answer}
use Rattle.answer.specs.declared.Answer.TheVariants.{Value}

-- a table begins with the seven scalars: the first k of them as its first entries, and the words behind as they were
unfoldable pub with_scalars : ℕ → List ℕ → List ℕ
with_scalars zero w = w
with_scalars (suc k) w = put_entry (with_scalars k w) k (record { kind = k; p = 0; q = 0; elem = 0 })

-- "the slice or 256 leaves too little room": the free entries are the least of 256 and the slice's whole entries, less those in use
unfoldable pub free : List ℕ → ℕ → ℕ
free w n = cond (leb ceiling (length w / stride)) ceiling (length w / stride) - n

-- "how many entries lack: the missing ones needed, less the free"
abbrev pub lacking : List ℕ → ℕ → ℕ → ℕ
lacking w n needed = needed - free w n

-- how many entries of e are missing in a table of n: none where it stands there, else one
unfoldable pub missing : List ℕ → ℕ → Entry → ℕ
missing w n e = cond (is_nothing (find_in w n e)) 1 0

-- the number that an entry has, or gets as entry k
abbrev pub number_or : Option TypeNo → ℕ → ℕ
number_or (Some t) k = t.0
number_or None k = k

-- v with e as entry k, where e was not found
abbrev pub add_at : Option TypeNo → List ℕ → ℕ → Entry → List ℕ
add_at (Some t) v k e = v
add_at None v k e = put_entry v k e

-- the reply of entering: the entry's number and the used count afterwards, or how many entries lack
abbrev pub there : TypeNo → ℕ → Result Entered Lacks
there t m = Ok (record { ty = t; used = m })

abbrev pub lacks : ℕ → Result Entered Lacks
lacks k = Err (record { 0 = k })

-- entering e in a table of n entries: the reply, and the words afterwards
unfoldable pub entered : List ℕ → ℕ → Entry → Result Entered Lacks
entered w n e = cond (leb (missing w n e) (free w n)) (there (record { 0 = number_or (find_in w n e) n }) (n + missing w n e)) (lacks (lacking w n (missing w n e)))

unfoldable pub enter_words : List ℕ → ℕ → Entry → List ℕ
enter_words w n e = cond (leb (missing w n e) (free w n)) (add_at (find_in w n e) w n e) w

pub record EnterDone (w : List ℕ) (n : ℕ) (e : Entry) (r : Result Entered Lacks) (after : List ℕ) : Type 0 where
  pub reply : r ≡ entered w n e
  pub words : after ≡ enter_words w n e

-- the container `outer` over entry t
abbrev pub container : Entry → ℕ → Entry
container outer t = record { kind = outer.kind; p = outer.p; q = outer.q; elem = t }

-- the container `outer` over the number that `inner` has or gets
unfoldable pub outer_over : List ℕ → ℕ → Entry → Entry → Entry
outer_over w n inner outer = container outer (number_or (find_in w n inner) n)

unfoldable pub missing_two : List ℕ → ℕ → Entry → Entry → ℕ
missing_two w n inner outer = missing w n inner + missing w n (outer_over w n inner outer)

-- entering an element and its container: both, or neither where room lacks for one of them
unfoldable pub entered_two : List ℕ → ℕ → Entry → Entry → Result Entered Lacks
entered_two w n inner outer =
    cond (leb (missing_two w n inner outer) (free w n))
    (there (record { 0 = number_or (find_in w n (outer_over w n inner outer)) (n + missing w n inner) }) (n + missing_two w n inner outer))
    (lacks (lacking w n (missing_two w n inner outer)))

unfoldable pub enter_two_words : List ℕ → ℕ → Entry → Entry → List ℕ
enter_two_words w n inner outer =
    cond (leb (missing_two w n inner outer) (free w n))
    (add_at (find_in w n (outer_over w n inner outer)) (add_at (find_in w n inner) w n inner) (n + missing w n inner) (outer_over w n inner outer))
    w

pub record EnterTwoDone (w : List ℕ) (n : ℕ) (inner outer : Entry) (r : Result Entered Lacks) (after : List ℕ) : Type 0 where
  pub reply : r ≡ entered_two w n inner outer
  pub words : after ≡ enter_two_words w n inner outer

-- what a call answers by the reply of entering
abbrev pub entry_answer : ℕ → Result Entered Lacks → ℕ → Answer
entry_answer place (Ok e) n = Value e.ty e.used
entry_answer place (Err e) n = refuse (NoRoom e.0) place n

-- a host enters a type: 1 for a table that is not sound, 5 for an entry that is not allowed, 9 for want of room, in this order
-- and at place 0; else its number and the used count
unfoldable pub enter_type_reply : List ℕ → ℕ → Entry → Answer
enter_type_reply w n e =
    cond (soundb w n)
    (cond (allowedb w n e) (entry_answer 0 (entered w n e) n) (refuse Template 0 n))
    (refuse Unsound 0 n)

unfoldable pub enter_type_words : List ℕ → ℕ → Entry → List ℕ
enter_type_words w n e = cond (soundb w n) (cond (allowedb w n e) (enter_words w n e) w) w
