-- Document 01, "The sheet": the header, the items, and the name that a call shows; with sheet version 2 of document 02, K3. Assumes nothing.
use Rattle.std.specs.Prelude.{ℕ, zero, suc, ◌+◌, ◌-◌, ◌*◌, ◌≤◌, ◌≡◌, List, [], ◌∷◌, Bool, true, false, ◌&&◌, ◌||◌, cond, length, get_or, take, drop, ltb, leb, eqb}
use Rattle.std.specs.Borrow.{Bor}
use Rattle.answer.specs.declared.Place.{Place}
use Rattle.answer.specs.declared.TypeNo.{TypeNo}
use Rattle.frame.specs.declared.Part.{Part}
use Rattle.frame.specs.declared.Item.{Item}
use Rattle.frame.specs.declared.Item.TheVariants.{Push, Unary, Binary, Call, CallTemplate, Take, End, Bad}
use Rattle.frame.specs.declared.Placed.{Placed}

-- two and four bytes as a number, big-endian
abbrev pub be16 : ℕ → ℕ → ℕ
be16 a b = a * 256 + b

abbrev pub be32 : ℕ → ℕ → ℕ → ℕ → ℕ
be32 a b c d = ((a * 256 + b) * 256 + c) * 256 + d

-- the versions that are read
abbrev pub version1 : ℕ
version1 = 1

abbrev pub version2 : ℕ
version2 = 2

abbrev pub known_version : ℕ → Bool
known_version v = eqb v version1 || eqb v version2

-- version 2 has marks; every other has none, also where the header is not judged. The version is byte 0
abbrev pub marks : ℕ → Bool
marks v = eqb v version2

abbrev pub marked : List ℕ → Bool
marked s = marks (get_or s 0 0)

-- the bytes of the header, and the most that may follow it
abbrev pub header_size : ℕ
header_size = 3

abbrev pub longest : ℕ
longest = 60000

-- L: the length that the two bytes after the version give
abbrev pub length_of : List ℕ → ℕ
length_of s = be16 (get_or s 1 0) (get_or s 2 0)

-- no header of refusal 10: under three bytes, another version, L too large, or an input not of 3 + L bytes
unfoldable pub header_ok : List ℕ → Bool
header_ok s = leb header_size (length s) && (known_version (get_or s 0 0) && (leb (length_of s) longest && eqb (length s) (header_size + length_of s)))

abbrev pub place : ℕ → Place
place n = record { 0 = n }

abbrev pub type_no : ℕ → TypeNo
type_no n = record { 0 = n }

abbrev pub part : ℕ → ℕ → Part
part start size = record { start = place start; length = size }

-- where no item stands there is no next: the place is given for it
abbrev pub still : Item → ℕ → Placed
still i at = record { item = i; at = place at; next = place at }

-- the kinds
abbrev pub kind_push : ℕ
kind_push = 1

abbrev pub kind_unary : ℕ
kind_unary = 2

abbrev pub kind_binary : ℕ
kind_binary = 3

abbrev pub kind_call : ℕ
kind_call = 4

abbrev pub kind_template : ℕ
kind_template = 5

abbrev pub kind_take : ℕ
kind_take = 6

-- a mark byte is "1 for running", else 0: no byte above 1 is a mark
abbrev pub running_mark : ℕ
running_mark = 1

-- with marks (m) a mark byte stands after the n bytes of a payload; without there is no such byte, and the mark is 0
abbrev pub mark_bytes : Bool → ℕ
mark_bytes m = cond m 1 0

abbrev pub mark_after : Bool → List ℕ → ℕ → ℕ
mark_after m p n = cond m (get_or p n 0) 0

-- a push and a take, by their payload and what their mark says
abbrev pub push_of : List ℕ → Bool → Item
push_of p r = Push (type_no (get_or p 0 0)) r

abbrev pub take_of : List ℕ → Bool → Item
take_of p r = Take (get_or p 0 0) (be32 (get_or p 1 0) (get_or p 2 0) (get_or p 3 0) (get_or p 4 0)) (get_or p 5 0) (get_or p 6 0) r

-- "An item is a length byte (bytes following), a kind and a payload": the payload p begins two bytes after the place, and the next item begins where it ends
module _ (at : ℕ) (p : List ℕ) where
  abbrev pub follows : Item → Placed
  follows i = record { item = i; at = place at; next = place (at + 2 + length p) }

  -- a payload of n bytes and no other
  abbrev pub exactly : ℕ → Item → Placed
  exactly n i = cond (eqb (length p) n) (follows i) (still Bad at)

  -- a payload of k numbers and a name of 1 to 32 bytes, which ends it
  abbrev pub naming : ℕ → (Part → Item) → Placed
  naming k i = cond (ltb k (length p)) (cond (leb (length p) (k + 32)) (follows (i (part (at + 2 + k) (length p - k)))) (still Bad at)) (still Bad at)

  -- a payload of n bytes, and a mark byte where there are marks
  abbrev pub marking : Bool → ℕ → (Bool → Item) → Placed
  marking m n i =
      cond (eqb (length p) (n + mark_bytes m))
      (cond (leb (mark_after m p n) running_mark) (follows (i (eqb (mark_after m p n) running_mark))) (still Bad at)) (still Bad at)

  abbrev pub push_item : Bool → Placed
  push_item m = marking m 1 (push_of p)

  abbrev pub take_item : Bool → Placed
  take_item m = marking m 7 (take_of p)

  -- 1 push (type number); 2 unary and 3 binary (operator); 4 call (operand count, name); 5 call with template (type number, operand
  -- count, name); 6 take (kind, p, q, elem); under version 2 (m) push and take end with a mark. Numbers are one byte, p four, big-endian
  unfoldable pub payload_item : Bool → ℕ → Placed
  payload_item m k =
      cond (eqb k kind_push) (push_item m)
      (cond (eqb k kind_unary) (exactly 1 (Unary (get_or p 0 0)))
      (cond (eqb k kind_binary) (exactly 1 (Binary (get_or p 0 0)))
      (cond (eqb k kind_call) (naming 1 (λ name. Call (get_or p 0 0) name))
      (cond (eqb k kind_template) (naming 2 (λ name. CallTemplate (type_no (get_or p 0 0)) (get_or p 1 0) name))
      (cond (eqb k kind_take) (take_item m)
      (still Bad at))))))

-- the payload of the item at a place: of the bytes that follow its length byte, those after the kind
abbrev pub payload_at : List ℕ → ℕ → List ℕ
payload_at s at = take (get_or s at 0 - 1) (drop (at + 2) s)

-- what stands at a place of the sheet. Below byte 3 no item begins; past the last byte is the end; the length byte is at least 1, for
-- the kind, and does not run past the end
unfoldable pub item_at : List ℕ → ℕ → Placed
item_at s at =
    cond (ltb at header_size) (still Bad at)
    (cond (leb (length s) at) (still End at)
    (cond (eqb (get_or s at 0) 0) (still Bad at)
    (cond (ltb (length s) (at + 1 + get_or s at 0)) (still Bad at)
    (payload_item at (payload_at s at) (marked s) (get_or s (at + 1) 0)))))

-- the part that a call shows as its name; for all else the empty part at the start of the sheet
abbrev pub name_of : Item → Part
name_of (Push t r) = part 0 0
name_of (Unary o) = part 0 0
name_of (Binary o) = part 0 0
name_of (Call count name) = name
name_of (CallTemplate t count name) = name
name_of (Take kind p q elem r) = part 0 0
name_of End = part 0 0
name_of Bad = part 0 0

unfoldable pub name_part : List ℕ → ℕ → Part
name_part s at = name_of (item_at s at).item

-- a part lies within n bytes
abbrev pub Within : ℕ → Part → Type 0
Within n p = p.start.0 + p.length ≤ n

-- r is the part p of the lent sheet: it begins at that byte of it, and has its bytes
pub record IsPart (sheet : Bor (List ℕ)) (p : Part) (r : Bor (List ℕ)) : Type 0 where
  pub begins : r.ref_ptr ≡ (sheet.ref_ptr.0, p.start.0 + sheet.ref_ptr.1)
  pub bytes : r.now ≡ take p.length (drop p.start.0 sheet.now)

-- whether an item stands there, and not the end or bad framing
abbrev pub is_item : Item → Bool
is_item (Push t r) = true
is_item (Unary o) = true
is_item (Binary o) = true
is_item (Call count name) = true
is_item (CallTemplate t count name) = true
is_item (Take kind p q elem r) = true
is_item End = false
is_item Bad = false

-- what the mark of an item says; one that has no mark is not running
abbrev pub is_running : Item → Bool
is_running (Push t r) = r
is_running (Unary o) = false
is_running (Binary o) = false
is_running (Call count name) = false
is_running (CallTemplate t count name) = false
is_running (Take kind p q elem r) = r
is_running End = false
is_running Bad = false

-- what stands from a place on, in n steps and no more: after an item comes what stands from the next place; the end and bad framing are the last
unfoldable pub items_within : ℕ → List ℕ → ℕ → List Placed
items_within zero s at = item_at s at ∷ []
items_within (suc n) s at = item_at s at ∷ cond (is_item (item_at s at).item) (items_within n s (item_at s at).next.0) []

-- an item has at least two bytes, so as many steps as the sheet has bytes reach the last
unfoldable pub items_from : List ℕ → ℕ → List Placed
items_from s at = items_within (length s) s at
