-- The part of a sheet after its header, in which a run reads the items, with the version; places are counted from the sheet's first byte. Assumes nothing.
use Rattle.std.specs.Prelude.{ℕ, ◌+◌, ◌-◌, ◌≤◌, List, ◌∷◌, Option, Some, None}
use Rattle.frame.specs.declared.Part.{Part}
use Rattle.frame.specs.declared.Item.{Item}
use Rattle.frame.specs.declared.Item.TheVariants.{Push, Unary, Binary, Call, CallTemplate, Take, End, Bad}
use Rattle.frame.specs.declared.Placed.{Placed}
use Rattle.frame.specs.declared.Items.{Items}
use Rattle.frame.specs.declared.ShortItem.{ShortItem}
use Rattle.frame.specs.declared.ShortItem.TheVariants as brief
use Rattle.frame.specs.declared.Short.{Short}
use Rattle.frame.specs.Frame.{header_size, part}

-- a sheet of this version of which these bytes are the part after the header; no item looks at more of the header (`Parts.antt`)
unfoldable pub sheet_of : ℕ → List ℕ → List ℕ
sheet_of v items = v ∷ 0 ∷ 0 ∷ items

abbrev pub sheet_in : Items → List ℕ
sheet_in x = sheet_of x.version x.bytes.now

-- a part of the sheet, as a part of what follows the header
abbrev pub in_items : Part → Part
in_items p = part (p.start.0 - header_size) p.length

-- a part lies in the n bytes after the header
abbrev pub LiesIn : ℕ → Part → Type 0
LiesIn n p = (header_size ≤ p.start.0) × (p.start.0 + p.length ≤ header_size + n)

-- and so does the name that an item shows, if it is a call
abbrev pub NameIn : ℕ → Item → Type 0
NameIn n (Push t r) = Unit {0}
NameIn n (Unary o) = Unit {0}
NameIn n (Binary o) = Unit {0}
NameIn n (Call count name) = LiesIn n name
NameIn n (CallTemplate t count name) = LiesIn n name
NameIn n (Take kind p q elem r) = Unit {0}
NameIn n End = Unit {0}
NameIn n Bad = Unit {0}

-- a push or an operator, and how many bytes it has; nothing else is short
abbrev pub short : ShortItem → ℕ → Short
short i bytes = record { item = i; bytes = bytes }

abbrev pub short_by : Item → ℕ → Option Short
short_by (Push t r) n = Some (short (brief.Push t r) n)
short_by (Unary o) n = Some (short (brief.Unary o) n)
short_by (Binary o) n = Some (short (brief.Binary o) n)
short_by (Call count name) n = None
short_by (CallTemplate t count name) n = None
short_by (Take kind p q elem r) n = None
short_by End n = None
short_by Bad n = None

-- its bytes are those before the next place
unfoldable pub short_of : Placed → Option Short
short_of x = short_by x.item (x.next.0 - x.at.0)

-- the item that it stands for
unfoldable pub item_of : ShortItem → Item
item_of (brief.Push t r) = Push t r
item_of (brief.Unary o) = Unary o
item_of (brief.Binary o) = Binary o
