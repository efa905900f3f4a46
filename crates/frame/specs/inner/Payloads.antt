-- What the code reads of a payload, or that it cannot; `Reading.antt` says that this is what the definitions of the sheet say. Assumes nothing.
use Rattle.std.specs.Prelude.{ℕ, ◌+◌, ◌-◌, Bool, false, cond, List, Option, Some, None, length, get_or, eqb, ltb, leb}
use Rattle.frame.specs.declared.Item.{Item}
use Rattle.frame.specs.declared.Item.TheVariants.{Bad}
use Rattle.frame.specs.declared.Part.{Part}
use Rattle.frame.specs.declared.Placed.{Placed}
use Rattle.frame.specs.declared.ShortItem.{ShortItem}
use Rattle.frame.specs.declared.ShortItem.TheVariants as short
use Rattle.frame.specs.Frame.{part, type_no, still, follows, running_mark, mark_bytes, mark_after, kind_push, kind_unary, kind_binary}

-- an item at a place that has this payload, or bad framing
abbrev pub placed : ℕ → List ℕ → Option Item → Placed
placed at p (Some i) = follows at p i
placed at p None = still Bad at

-- what the mark of a payload of n bytes before it says, where the sheet has marks (m), or has none
abbrev pub mark_read : Bool → List ℕ → ℕ → Option Bool
mark_read m p n =
    cond (eqb (length p) (n + mark_bytes m)) (cond (leb (mark_after m p n) running_mark) (Some (eqb (mark_after m p n) running_mark)) None) None

-- the one number of a payload
abbrev pub number_read : List ℕ → Option ℕ
number_read p = cond (eqb (length p) 1) (Some (get_or p 0 0)) None

-- the name of a payload that begins at a byte, behind k numbers
abbrev pub name_read : ℕ → List ℕ → ℕ → Option Part
name_read from p k = cond (ltb k (length p)) (cond (leb (length p) (k + 32)) (Some (part (from + k) (length p - k))) None) None

-- a push without a mark, or an operator
abbrev pub short_as : ℕ → ℕ → Option ShortItem
short_as kind number =
    cond (eqb kind kind_push) (Some (short.Push (type_no number) false))
    (cond (eqb kind kind_unary) (Some (short.Unary number))
    (cond (eqb kind kind_binary) (Some (short.Binary number)) None))
