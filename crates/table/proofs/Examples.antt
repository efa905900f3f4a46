-- The definitions at a few tables, computed. Assumes nothing.
use Prim.Native.Nat.{ℕ}
use mathlib.Core.Path.{◌≡◌, refl}
use mathlib.Core.Bool.{true, false}
use mathlib.Core.List.{List, [], ◌∷◌, ◌++◌}
use Rattle.conv.specs.Types.{bool, abstract_int, f32, function, storage, handle, read, read_write}
use Rattle.conv.specs.Types.Ty.{scalar, vec, array, ref}
use Rattle.table.specs.Tools.{all_below}
use Rattle.table.specs.Table.{kind_vec, kind_array, kind_runtime, kind_ptr, kind_ref, kind_frexp, row_ok, chain_by, chain, base_of, made_ok, entry_ok, find_in, soundb, allowedb}
use Rattle.table.specs.Denote.{made, type_at}
use Rattle.table.specs.Enter.{free, missing, entered, outer_over, missing_two, entered_two}
use Rattle.table.specs.declared.Entry.{Entry}
use Rattle.table.specs.Enter.{there, lacks}

entry : ℕ → ℕ → ℕ → ℕ → Entry
entry k p q e = record { kind = k; p = p; q = q; elem = e }

words : ℕ → ℕ → ℕ → ℕ → List ℕ
words k p q e = k ∷ p ∷ q ∷ e ∷ []

-- the seven scalars, and three entries more: an array of two AbstractInt, a vec3 of f32, a reference to that
start : List ℕ
start = words 0 0 0 0 ++ words 1 0 0 0 ++ words 2 0 0 0 ++ words 3 0 0 0 ++ words 4 0 0 0 ++ words 5 0 0 0 ++ words 6 0 0 0

table : List ℕ
table = start ++ words kind_array 2 0 abstract_int ++ words kind_vec 3 0 f32 ++ words kind_ref handle read 8

spare : List ℕ
spare = table ++ words 0 0 0 0 ++ (0 ∷ 0 ∷ 0 ∷ [])

scalars-sound : soundb start 7 ≡ true
unfolding words start soundb all_below entry_ok made_ok find_in
scalars-sound = refl

table-sound : soundb table 10 ≡ true
unfolding words start table soundb all_below entry_ok made_ok row_ok base_of chain chain_by find_in
table-sound = refl

-- fewer than the scalars, and a slice shorter than 4n
six-unsound : soundb start 6 ≡ false
unfolding words start soundb
six-unsound = refl

short-unsound : soundb start 8 ≡ false
unfolding words start soundb
short-unsound = refl

-- two entries equal
twice-unsound : soundb (start ++ words kind_vec 3 0 f32 ++ words kind_vec 3 0 f32) 9 ≡ false
unfolding words start soundb all_below entry_ok made_ok row_ok base_of chain chain_by find_in
twice-unsound = refl

-- the types that numbers stand for
bool-type : type_at table bool ≡ scalar bool
unfolding words start table type_at chain chain_by
bool-type = refl

ref-type : type_at table 9 ≡ ref handle read (vec 3 f32)
unfolding words start table type_at chain chain_by made
ref-type = refl

array-type : type_at table 7 ≡ array 2 (scalar abstract_int)
unfolding words start table type_at chain chain_by made
array-type = refl

-- no pointer to space handle, to a type that is abstract at any depth, or to a reference
handle-pointer : allowedb table 10 (entry kind_ptr handle read 8) ≡ false
unfolding words start table entry allowedb made_ok row_ok base_of chain chain_by
handle-pointer = refl

storage-pointer : allowedb table 10 (entry kind_ptr storage read_write 8) ≡ true
unfolding words start table entry allowedb made_ok row_ok base_of chain chain_by
storage-pointer = refl

abstract-pointer : allowedb table 10 (entry kind_ptr function read_write 7) ≡ false
unfolding words start table entry allowedb made_ok row_ok base_of chain chain_by
abstract-pointer = refl

reference-pointer : allowedb table 10 (entry kind_ptr function read_write 9) ≡ false
unfolding words start table entry allowedb made_ok row_ok base_of chain chain_by
reference-pointer = refl

-- an array of none, an elem that is not below n, a scalar kind with words and with none
no-elements : allowedb table 10 (entry kind_array 0 0 5) ≡ false
unfolding words start table entry allowedb made_ok row_ok base_of chain chain_by
no-elements = refl

elem-not-below : allowedb table 10 (entry kind_runtime 0 0 10) ≡ false
unfolding words start table entry allowedb made_ok
elem-not-below = refl

scalar-words : allowedb table 10 (entry f32 1 0 0) ≡ false
unfolding words start table entry allowedb
scalar-words = refl

scalar-plain : allowedb table 10 (entry f32 0 0 0) ≡ true
unfolding words start table entry allowedb
scalar-plain = refl

-- one entry is free: a vector finds room, a result over a new vector does not, and one over a vector that stands does
one_free : free spare 10 ≡ 1
unfolding words start table spare free
one_free = refl

vector-room : entered spare 10 (entry kind_vec 4 0 f32) ≡ there (record { 0 = 10 }) 11
unfolding words start table spare entry entered missing free find_in
vector-room = refl

vector-stands : entered table 10 (entry kind_vec 3 0 f32) ≡ there (record { 0 = 8 }) 10
unfolding words start table entry entered missing free find_in
vector-stands = refl

result-full : entered_two spare 10 (entry kind_vec 4 0 f32) (entry kind_frexp 0 0 0) ≡ lacks 1
unfolding words start table spare entry entered_two missing_two outer_over missing free find_in
result-full = refl

result-room : entered_two spare 10 (entry kind_vec 3 0 f32) (entry kind_frexp 0 0 0) ≡ there (record { 0 = 10 }) 11
unfolding words start table spare entry entered_two missing_two outer_over missing free find_in
result-room = refl
