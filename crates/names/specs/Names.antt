-- THE BUILTIN NAMES of document 01, "Builtins", and of document 02, K1, K3, K5 and K6: each with its profile, its rule and whether its result is running, and the rule of any bytes
-- that are offered as a name.
-- Assumes nothing.
use Rattle.std.specs.Prelude.{ℕ, ◌+◌, ◌<◌, Bool, true, false, ◌&&◌, cond, List, [], ◌∷◌, T, eqb, ltb, leb, length, get_or}
use Prim.Native.String.{String}
use Rattle.text.specs.Text.{ascii}
use Rattle.conv.specs.Rank.{both}
use Rattle.overload.specs.Rows.{Row, Ruling, negating, one_float, two_floats, three_floats, mixing, one_numeric, two_numerics, three_numerics, one_bits, extracting, inserting, measuring, distancing, dotting, one_float_vector, two_float_vectors, three_float_vectors, refracting, crossing, square_matrix, transposing, one_f32, frexp_of, modf_of, packing4_f32, packing4_i32, packing4_u32, packing2_f32, unpacking4_f32, unpacking4_i32, unpacking4_u32, unpacking2_f32, packed_dot_u32, packed_dot_i32, one_bool, selecting, one_concrete, voting, balloting, electing, of_lane, shuffling, scaling}
use Rattle.overload.specs.Rows.Ruling.{by_row, on_atomic, comparing, uniform_load, array_length}

-- A RULE: which overloads the calls of a name have; that of atomicStore, which takes what the other calls on atomics with one value take, and gives no value; or one of the crate
-- rules, of which the three barriers have one

pub data Rule : Type 0 where
  ruling : Ruling → Rule
  storing : Rule
  bitcast barrier : Rule

-- the rules of the other calls on memory, of document 02, K5

abbrev pub loading : Rule
loading = ruling (on_atomic 0)

abbrev pub updating : Rule
updating = ruling (on_atomic 1)

abbrev pub exchanging : Rule
exchanging = ruling comparing

abbrev pub uniform_loading : Rule
uniform_loading = ruling uniform_load

-- a name: its bytes, the first profile that has it, its rule, and whether its result is running even where all operands are const
pub record Name : Type 0 where
  pub text : List ℕ
  pub profile : ℕ
  pub rule : Rule
  pub running : Bool

-- a ruled name, with its row of `overload/specs/Rows.antt`, or with overloads that are described there; a name with a crate rule; a name of profile 1; and a call on memory, K5: "Add, in both
-- profiles", "Results are running"

abbrev pub ruled : String → Row → Name
ruled text row = record { text = ascii text; profile = 0; rule = ruling (by_row row); running = false }

abbrev pub described : String → Ruling → Name
described text r = record { text = ascii text; profile = 0; rule = ruling r; running = false }

abbrev pub crate_rule : String → Rule → Name
crate_rule text rule = record { text = ascii text; profile = 0; rule = rule; running = false }

abbrev pub lanes : String → Row → Name
lanes text row = record { text = ascii text; profile = 1; rule = ruling (by_row row); running = true }

abbrev pub on_memory : String → Rule → Name
on_memory text rule = record { text = ascii text; profile = 0; rule = rule; running = true }

-- "Derivatives, barriers, arrayLength and subgroup or quad calls give running results even so": the last by their profile, and no barrier has a result
abbrev pub when_running : Name → Name
when_running r = record { text = r.text; profile = r.profile; rule = r.rule; running = true }

-- "The 94 builtin names stand sorted by their bytes", and among them the 25 of subgroups and quads and the 12 of calls on memory
unfoldable pub names : List Name
names =
    ruled "abs" one_numeric
    ∷ ruled "acos" one_float
    ∷ ruled "acosh" one_float
    ∷ ruled "all" one_bool
    ∷ ruled "any" one_bool
    ∷ when_running (described "arrayLength" array_length)
    ∷ ruled "asin" one_float
    ∷ ruled "asinh" one_float
    ∷ ruled "atan" one_float
    ∷ ruled "atan2" two_floats
    ∷ ruled "atanh" one_float
    ∷ on_memory "atomicAdd" updating
    ∷ on_memory "atomicAnd" updating
    ∷ on_memory "atomicCompareExchangeWeak" exchanging
    ∷ on_memory "atomicExchange" updating
    ∷ on_memory "atomicLoad" loading
    ∷ on_memory "atomicMax" updating
    ∷ on_memory "atomicMin" updating
    ∷ on_memory "atomicOr" updating
    ∷ on_memory "atomicStore" storing
    ∷ on_memory "atomicSub" updating
    ∷ on_memory "atomicXor" updating
    ∷ crate_rule "bitcast" bitcast
    ∷ ruled "ceil" one_float
    ∷ ruled "clamp" three_numerics
    ∷ ruled "cos" one_float
    ∷ ruled "cosh" one_float
    ∷ ruled "countLeadingZeros" one_bits
    ∷ ruled "countOneBits" one_bits
    ∷ ruled "countTrailingZeros" one_bits
    ∷ ruled "cross" crossing
    ∷ ruled "degrees" one_float
    ∷ ruled "determinant" square_matrix
    ∷ ruled "distance" distancing
    ∷ ruled "dot" dotting
    ∷ ruled "dot4I8Packed" packed_dot_i32
    ∷ ruled "dot4U8Packed" packed_dot_u32
    ∷ when_running (ruled "dpdx" one_f32)
    ∷ when_running (ruled "dpdxCoarse" one_f32)
    ∷ when_running (ruled "dpdxFine" one_f32)
    ∷ when_running (ruled "dpdy" one_f32)
    ∷ when_running (ruled "dpdyCoarse" one_f32)
    ∷ when_running (ruled "dpdyFine" one_f32)
    ∷ ruled "exp" one_float
    ∷ ruled "exp2" one_float
    ∷ ruled "extractBits" extracting
    ∷ ruled "faceForward" three_float_vectors
    ∷ ruled "firstLeadingBit" one_bits
    ∷ ruled "firstTrailingBit" one_bits
    ∷ ruled "floor" one_float
    ∷ ruled "fma" three_floats
    ∷ ruled "fract" one_float
    ∷ ruled "frexp" frexp_of
    ∷ when_running (ruled "fwidth" one_f32)
    ∷ when_running (ruled "fwidthCoarse" one_f32)
    ∷ when_running (ruled "fwidthFine" one_f32)
    ∷ ruled "insertBits" inserting
    ∷ ruled "inverseSqrt" one_float
    ∷ ruled "ldexp" scaling
    ∷ ruled "length" measuring
    ∷ ruled "log" one_float
    ∷ ruled "log2" one_float
    ∷ ruled "max" two_numerics
    ∷ ruled "min" two_numerics
    ∷ ruled "mix" mixing
    ∷ ruled "modf" modf_of
    ∷ ruled "normalize" one_float_vector
    ∷ ruled "pack2x16float" packing2_f32
    ∷ ruled "pack2x16snorm" packing2_f32
    ∷ ruled "pack2x16unorm" packing2_f32
    ∷ ruled "pack4x8snorm" packing4_f32
    ∷ ruled "pack4x8unorm" packing4_f32
    ∷ ruled "pack4xI8" packing4_i32
    ∷ ruled "pack4xI8Clamp" packing4_i32
    ∷ ruled "pack4xU8" packing4_u32
    ∷ ruled "pack4xU8Clamp" packing4_u32
    ∷ ruled "pow" two_floats
    ∷ lanes "quadBroadcast" of_lane
    ∷ lanes "quadSwapDiagonal" one_concrete
    ∷ lanes "quadSwapX" one_concrete
    ∷ lanes "quadSwapY" one_concrete
    ∷ ruled "quantizeToF16" one_f32
    ∷ ruled "radians" one_float
    ∷ ruled "reflect" two_float_vectors
    ∷ ruled "refract" refracting
    ∷ ruled "reverseBits" one_bits
    ∷ ruled "round" one_float
    ∷ ruled "saturate" one_float
    ∷ ruled "select" selecting
    ∷ ruled "sign" negating
    ∷ ruled "sin" one_float
    ∷ ruled "sinh" one_float
    ∷ ruled "smoothstep" three_floats
    ∷ ruled "sqrt" one_float
    ∷ ruled "step" two_floats
    ∷ crate_rule "storageBarrier" barrier
    ∷ lanes "subgroupAdd" one_concrete
    ∷ lanes "subgroupAll" voting
    ∷ lanes "subgroupAnd" one_bits
    ∷ lanes "subgroupAny" voting
    ∷ lanes "subgroupBallot" balloting
    ∷ lanes "subgroupBroadcast" of_lane
    ∷ lanes "subgroupBroadcastFirst" one_concrete
    ∷ lanes "subgroupElect" electing
    ∷ lanes "subgroupExclusiveAdd" one_concrete
    ∷ lanes "subgroupExclusiveMul" one_concrete
    ∷ lanes "subgroupInclusiveAdd" one_concrete
    ∷ lanes "subgroupInclusiveMul" one_concrete
    ∷ lanes "subgroupMax" one_concrete
    ∷ lanes "subgroupMin" one_concrete
    ∷ lanes "subgroupMul" one_concrete
    ∷ lanes "subgroupOr" one_bits
    ∷ lanes "subgroupShuffle" of_lane
    ∷ lanes "subgroupShuffleDown" shuffling
    ∷ lanes "subgroupShuffleUp" shuffling
    ∷ lanes "subgroupShuffleXor" shuffling
    ∷ lanes "subgroupXor" one_bits
    ∷ ruled "tan" one_float
    ∷ ruled "tanh" one_float
    ∷ crate_rule "textureBarrier" barrier
    ∷ ruled "transpose" transposing
    ∷ ruled "trunc" one_float
    ∷ ruled "unpack2x16float" unpacking2_f32
    ∷ ruled "unpack2x16snorm" unpacking2_f32
    ∷ ruled "unpack2x16unorm" unpacking2_f32
    ∷ ruled "unpack4x8snorm" unpacking4_f32
    ∷ ruled "unpack4x8unorm" unpacking4_f32
    ∷ ruled "unpack4xI8" unpacking4_i32
    ∷ ruled "unpack4xU8" unpacking4_u32
    ∷ crate_rule "workgroupBarrier" barrier
    ∷ on_memory "workgroupUniformLoad" uniform_loading
    ∷ []

-- A PROFILE has the names of its own number and of every smaller one: 0 those of document 01 and the calls on memory, 1 all. There is no other, and a profile that is unknown has none

abbrev pub profiles : ℕ
profiles = 2

unfoldable pub within : ℕ → ℕ → Bool
within profile first = ltb profile profiles && leb first profile

-- THE RULE OF A NAME in a profile: names are compared byte for byte

unfoldable pub same_bytes : List ℕ → List ℕ → Bool
same_bytes [] [] = true
same_bytes [] (y ∷ ys) = false
same_bytes (x ∷ xs) [] = false
same_bytes (x ∷ xs) (y ∷ ys) = both (eqb x y) (same_bytes xs ys)

-- a rule, with whether the result is running even so; or none
pub data Named : Type 0 where
  rule : Rule → Bool → Named
  unknown : Named

abbrev pub rule_for : ℕ → Name → Named
rule_for profile r = cond (within profile r.profile) (rule r.rule r.running) unknown

unfoldable pub rule_in : ℕ → List Name → List ℕ → Named
rule_in profile [] s = unknown
rule_in profile (r ∷ rs) s = cond (same_bytes r.text s) (rule_for profile r) (rule_in profile rs s)

abbrev pub rule_of : ℕ → List ℕ → Named
rule_of profile s = rule_in profile names s

-- SORTED BY THEIR BYTES: at the first byte where two names differ the earlier one has the smaller; a name stands before a longer one that begins with it

unfoldable pub before : List ℕ → List ℕ → Bool
before s [] = false
before [] (y ∷ ys) = true
before (x ∷ xs) (y ∷ ys) = cond (eqb x y) (before xs ys) (ltb x y)

abbrev pub count : ℕ
count = length names

-- past the last stands an empty name
abbrev pub no_name : Name
no_name = record { text = []; profile = 0; rule = barrier; running = false }

unfoldable pub name_at : ℕ → List ℕ
name_at k = (get_or names k no_name).text

abbrev pub Sorted : Type 0
Sorted = (k : ℕ) → k + 1 < count → T (before (name_at k) (name_at (k + 1)))
