-- What the code's constant holds: a line for each name. The promise of a call is read without it. Assumes nothing.
use Rattle.std.specs.Prelude.{ℕ, zero, suc, ◌-◌, ◌<◌, ◌≡◌, Bool, ◌&&◌, cond, List, [], ◌∷◌, ◌++◌, map, T, eqb, ltb, length, get_or, Option, Some, None}
use Rattle.overload.specs.Rows.{Ruling, row_at}
use Rattle.overload.specs.Rows.Ruling.{by_row, address, indirection, on_atomic, comparing, uniform_load, array_length}
use Rattle.names.specs.Names.{Rule, loading, updating, exchanging, uniform_loading, Name, names, no_name, before, same_bytes, count, name_at, Named, rule_for}
use Rattle.names.specs.Names.Rule.{ruling, storing, bitcast, barrier}
use Rattle.names.specs.Names.Named.{rule, unknown}
use Rattle.std.specs.declared.cmp.Ordering.{Ordering}
use Rattle.std.specs.declared.cmp.Ordering.TheVariants.{Less, Equal, Greater}
use Rattle.names.specs.declared.NamedRule.{NamedRule}
use Rattle.names.specs.declared.Rule.TheVariants as code

-- THE NUMBER OF A RULE, a byte, which a name put in later does not move: of a row its own, below 100. No name has the rulings of unary `&` and `*`, or one on atomics with more than one value

unfoldable pub ruling_number : Ruling → ℕ
ruling_number (by_row r) = r.number
ruling_number address = 255
ruling_number indirection = 255
ruling_number (on_atomic zero) = 104
ruling_number (on_atomic (suc zero)) = 105
ruling_number (on_atomic (suc (suc k))) = 255
ruling_number comparing = 107
ruling_number uniform_load = 108
ruling_number array_length = 101

unfoldable pub rule_number : Rule → ℕ
rule_number (ruling r) = ruling_number r
rule_number bitcast = 100
rule_number barrier = 103
rule_number storing = 106

-- and the rule of a number
unfoldable pub numbered : ℕ → Rule
numbered k =
    cond (ltb k 100) (ruling (by_row (row_at k)))
    (cond (eqb k 100) bitcast
    (cond (eqb k 101) (ruling array_length)
    (cond (eqb k 104) loading
    (cond (eqb k 105) updating
    (cond (eqb k 106) storing
    (cond (eqb k 107) exchanging
    (cond (eqb k 108) uniform_loading barrier)))))))

-- the rule that the code's enum means
unfoldable pub meant : code.the_data → Rule
meant (code.Row k) = ruling (by_row (row_at k))
meant code.Bitcast = bitcast
meant code.ArrayLength = ruling array_length
meant code.Barrier = barrier
meant code.AtomicLoad = loading
meant code.AtomicUpdate = updating
meant code.AtomicStore = storing
meant code.AtomicCompare = exchanging
meant code.UniformLoad = uniform_loading

-- a reply: the number of the rule that a name has, and whether its result is running even so
unfoldable pub replied : Named → Option NamedRule
replied (rule r running) = Some (record { rule = rule_number r; running = running })
replied unknown = None

-- A LINE: 32 letters, the name filled up with blanks; then the number of its rule, its profile, and 1 where its result is running, else 0

abbrev pub name_width : ℕ
name_width = 32

abbrev pub line_width : ℕ
line_width = 35

abbrev pub blank : ℕ
blank = 32

unfoldable pub filled : ℕ → List ℕ → List ℕ
filled zero s = []
filled (suc k) [] = blank ∷ filled k []
filled (suc k) (c ∷ cs) = c ∷ filled k cs

abbrev pub mark_byte : Bool → ℕ
mark_byte running = cond running 1 0

unfoldable pub line : Name → List ℕ
line r = filled name_width r.text ++ (rule_number r.rule ∷ r.profile ∷ mark_byte r.running ∷ [])

-- THE TABLE, as it is lent
unfoldable pub name_table : List (List ℕ)
name_table = map line names

-- a name that ends with a blank is none of them
unfoldable pub ends_blank : List ℕ → Bool
ends_blank s = eqb (get_or s (length s - 1) 0) blank

-- HOW ONE NAME STANDS TO ANOTHER, both filled up with blanks: since a blank is below every letter and digit, as in the order of the names
unfoldable pub Ordered : Ordering → List ℕ → List ℕ → Type 0
Ordered Less s t = T (before (filled name_width s) (filled name_width t))
Ordered Equal s t = filled name_width s ≡ filled name_width t
Ordered Greater s t = T (before (filled name_width t) (filled name_width s))

-- where a name stands: at the row that has it, or nowhere where none has
unfoldable pub StandsAt : List ℕ → Option ℕ → Type 0
StandsAt s (Some k) = (k < count) × (name_at k ≡ s)
StandsAt s None = (k : ℕ) → k < count → name_at k ≡ s → ⊥

-- whether a row has a name, byte for byte
unfoldable pub has_name : ℕ → List ℕ → Bool
has_name k s = ltb k count && same_bytes (name_at k) s

-- THE RULE OF A ROW: that of its name in a profile; past the last there is none
unfoldable pub rule_at : ℕ → ℕ → Named
rule_at profile k = cond (ltb k count) (rule_for profile (get_or names k no_name)) unknown
