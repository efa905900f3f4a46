-- The names as documents 01 and 02 list them, group by group, and those whose results are running even so: the table and these lists give any bytes the same rule and mark,
-- whatever the profile; and profile 0 has those of document 01 and the calls on memory alone. Every name of the one is computed to have its rule in the other, and a law carries that over to
-- all bytes. Assumes nothing.
use Prim.Native.Nat.{ℕ}
use Prim.Native.String.{String}
use mathlib.Core.Path.{◌≡◌, refl, sym, ◌∙◌}
use native.Mathlib.Omega.{arith}
use mathlib.Core.Bool.{Bool, true, false, ◌||◌, cond}
use mathlib.Core.List.{List, [], ◌∷◌, ◌++◌, map}
use lib.Dec.{eqb}
use Rattle.conv.specs.Rank.{both}
use Rattle.text.specs.Text.{ascii}
use Rattle.overload.specs.Rows.{Row, one_float, two_floats, three_floats, mixing, one_numeric, two_numerics, three_numerics, negating, one_bits, extracting, inserting, measuring, distancing, dotting, one_float_vector, two_float_vectors, three_float_vectors, refracting, crossing, square_matrix, transposing, one_f32, frexp_of, modf_of, packing4_f32, packing4_i32, packing4_u32, packing2_f32, unpacking4_f32, unpacking4_i32, unpacking4_u32, unpacking2_f32, packed_dot_u32, packed_dot_i32, one_bool, selecting, one_concrete, voting, balloting, electing, of_lane, shuffling, scaling}
use Rattle.overload.specs.Rows.Ruling.{by_row, array_length}
use Rattle.names.specs.Names.{Rule, loading, updating, exchanging, uniform_loading, Name, names, same_bytes, within, Named, rule_for, rule_in, rule_of}
use Rattle.names.specs.Names.Rule.{ruling, storing, bitcast, barrier}
use Rattle.names.specs.Names.Named.{rule, unknown}
use Rattle.names.proofs.Bytes.{same_bytes_lem}

-- the words of a text, which stand between single blanks

ahead : ℕ → List (List ℕ) → List (List ℕ)
ahead c [] = (c ∷ []) ∷ []
ahead c (w ∷ ws) = (c ∷ w) ∷ ws

words : List ℕ → List (List ℕ)
words [] = [] ∷ []
words (c ∷ cs) = cond (eqb c 32) ([] ∷ words cs) (ahead c (words cs))

pub among : List ℕ → List (List ℕ) → Bool
among s [] = false
among s (w ∷ ws) = same_bytes w s || among s ws

-- document 02, K3: "Derivatives, barriers, arrayLength and subgroup or quad calls give running results even so". These of document 01's names, since a barrier gives none
pub running_even_so : List (List ℕ)
running_even_so = words (ascii "dpdx dpdy fwidth dpdxCoarse dpdyCoarse fwidthCoarse dpdxFine dpdyFine fwidthFine arrayLength")

under : ℕ → (List ℕ → Bool) → Rule → List (List ℕ) → List Name
under profile running r [] = []
under profile running r (w ∷ ws) = record { text = w; profile = profile; rule = r; running = running w } ∷ under profile running r ws

abbrev group : Rule → String → List Name
group r text = under 0 (λ w. among w running_even_so) r (words (ascii text))

abbrev ruled_by : Row → String → List Name
ruled_by r text = group (ruling (by_row r)) text

abbrev lanes_by : Row → String → List Name
lanes_by r text = under 1 (λ w. true) (ruling (by_row r)) (words (ascii text))

-- "Ruled, 88"
pub ruled : List Name
ruled =
    -- "wide float T to T, 26", "Two T", "Three T"
    ruled_by one_float "acos acosh asin asinh atan atanh ceil cos cosh degrees exp exp2 floor fract inverseSqrt log log2 radians round saturate sin sinh sqrt tan tanh trunc"
    ++ (ruled_by two_floats "atan2 pow step"
    ++ (ruled_by three_floats "fma smoothstep"
    ++ (ruled_by mixing "mix"
    -- "wide numeric"
    ++ (ruled_by one_numeric "abs"
    ++ (ruled_by two_numerics "max min"
    ++ (ruled_by three_numerics "clamp"
    ++ (ruled_by negating "sign"
    -- "wide i32 or u32"
    ++ (ruled_by one_bits "countLeadingZeros countOneBits countTrailingZeros firstLeadingBit firstTrailingBit reverseBits"
    ++ (ruled_by extracting "extractBits"
    ++ (ruled_by inserting "insertBits"
    -- "length and distance", "dot", "Float vectors"
    ++ (ruled_by measuring "length"
    ++ (ruled_by distancing "distance"
    ++ (ruled_by dotting "dot"
    ++ (ruled_by one_float_vector "normalize"
    ++ (ruled_by two_float_vectors "reflect"
    ++ (ruled_by three_float_vectors "faceForward"
    ++ (ruled_by refracting "refract"
    ++ (ruled_by crossing "cross"
    -- "determinant", "transpose"
    ++ (ruled_by square_matrix "determinant"
    ++ (ruled_by transposing "transpose"
    -- "wide f32"
    ++ (ruled_by one_f32 "dpdx dpdy fwidth dpdxCoarse dpdyCoarse fwidthCoarse dpdxFine dpdyFine fwidthFine quantizeToF16"
    ++ (ruled_by frexp_of "frexp"
    ++ (ruled_by modf_of "modf"
    -- "to u32", and "the seven unpack names of 000 from u32"
    ++ (ruled_by packing4_f32 "pack4x8snorm pack4x8unorm"
    ++ (ruled_by packing4_i32 "pack4xI8 pack4xI8Clamp"
    ++ (ruled_by packing4_u32 "pack4xU8 pack4xU8Clamp"
    ++ (ruled_by packing2_f32 "pack2x16snorm pack2x16unorm pack2x16float"
    ++ (ruled_by unpacking4_f32 "unpack4x8snorm unpack4x8unorm"
    ++ (ruled_by unpacking4_i32 "unpack4xI8"
    ++ (ruled_by unpacking4_u32 "unpack4xU8"
    ++ (ruled_by unpacking2_f32 "unpack2x16snorm unpack2x16unorm unpack2x16float"
    ++ (ruled_by packed_dot_u32 "dot4U8Packed"
    ++ (ruled_by packed_dot_i32 "dot4I8Packed"
    -- "all, any", "select"
    ++ (ruled_by one_bool "all any"
    ++ ruled_by selecting "select"))))))))))))))))))))))))))))))))))

-- "Crate rules, 6"; of these, document 02, K6, "ldexp and arrayLength by the book. Make both ruled": so 4
pub crate_rules : List Name
crate_rules = group bitcast "bitcast" ++ group barrier "storageBarrier textureBarrier workgroupBarrier"

pub by_the_book : List Name
by_the_book = ruled_by scaling "ldexp" ++ group (ruling array_length) "arrayLength"

-- the 94
abbrev pub document : List Name
document = ruled ++ (crate_rules ++ by_the_book)

-- document 02, K5: "Add, in both profiles, atomicLoad, atomicStore, the seven read-modify-write calls from atomicAdd to atomicXor, atomicExchange, atomicCompareExchangeWeak and
-- workgroupUniformLoad"; "Results are running"

abbrev memory_by : Rule → String → List Name
memory_by r text = under 0 (λ w. true) r (words (ascii text))

pub memory_calls : List Name
memory_calls =
    memory_by loading "atomicLoad"
    ++ (memory_by storing "atomicStore"
    ++ (memory_by updating "atomicAdd atomicSub atomicMax atomicMin atomicAnd atomicOr atomicXor atomicExchange"
    ++ (memory_by exchanging "atomicCompareExchangeWeak"
    ++ memory_by uniform_loading "workgroupUniformLoad")))

-- the names that both profiles have
abbrev pub older_names : List Name
older_names = document ++ memory_calls

-- document 02, K1: "1 adds the subgroup and quad names of source document 000, without the naga form of subgroupBallot", by WGSL's subgroup chapter
pub subgroups : List Name
subgroups =
    -- wide concrete numeric T to T
    lanes_by one_concrete "subgroupAdd subgroupExclusiveAdd subgroupInclusiveAdd subgroupMul subgroupExclusiveMul subgroupInclusiveMul subgroupMax subgroupMin subgroupBroadcastFirst quadSwapDiagonal quadSwapX quadSwapY"
    -- wide i32 or u32
    ++ (lanes_by one_bits "subgroupAnd subgroupOr subgroupXor"
    -- bool to bool, bool to vec4 of u32, nothing to bool
    ++ (lanes_by voting "subgroupAll subgroupAny"
    ++ (lanes_by balloting "subgroupBallot"
    ++ (lanes_by electing "subgroupElect"
    -- T and i32 or u32, T and u32
    ++ (lanes_by of_lane "subgroupBroadcast subgroupShuffle quadBroadcast"
    ++ lanes_by shuffling "subgroupShuffleDown subgroupShuffleUp subgroupShuffleXor")))))

-- every name of a list has its rule, and its mark, in another
abbrev Covers : ℕ → List Name → List Name → Type 0
Covers profile rs other = map (λ (r : Name). rule_in profile other r.text) rs ≡ map (λ (r : Name). rule_for profile r) rs

covered : (profile : ℕ) (rs other : List Name) → Covers profile rs other → (s : List ℕ) (R : Rule) (m : Bool) → rule_in profile rs s ≡ rule R m → rule_in profile other s ≡ rule R m
unfolding rule_in
covered profile [] other c s R m e = absurd (let z : ◌≡◌ {A = ℕ} 0 1 = cc in omega arith)
covered profile (r ∷ rs) other c s R m e = go (same_bytes r.text s) refl e (covered profile rs other (cc) s R m)
  where
    head : rule_in profile other r.text ≡ rule_for profile r
    head = cc

    go : (b : Bool) → same_bytes r.text s ≡ b → cond b (rule_for profile r) (rule_in profile rs s) ≡ rule R m → (rule_in profile rs s ≡ rule R m → rule_in profile other s ≡ rule R m)
        → rule_in profile other s ≡ rule R m
    go true p q later = rw (← same_bytes_lem r.text s p) (head ∙ q)
    go false p q later = later q

same-rules : (profile : ℕ) (rs other : List Name) → Covers profile rs other → Covers profile other rs → (s : List ℕ) → rule_in profile rs s ≡ rule_in profile other s
same-rules profile rs other t u s = go (rule_in profile rs s) refl (rule_in profile other s) refl
  where
    go : (a : Named) → rule_in profile rs s ≡ a → (b : Named) → rule_in profile other s ≡ b → rule_in profile rs s ≡ rule_in profile other s
    go (rule R m) p b q = p ∙ sym (covered profile rs other t s R m p)
    go unknown p (rule R m) q = covered profile other rs u s R m q ∙ sym q
    go unknown p unknown q = p ∙ sym q

-- THE TABLE SAYS WHAT THE DOCUMENTS SAY, of all bytes: in any profile the rule and the mark are those of the lists; in profile 0 those of document 01's and of the calls on memory alone

pub as-documents : (profile : ℕ) (s : List ℕ) → rule_of profile s ≡ rule_in profile (older_names ++ subgroups) s
unfolding ascii words ahead among running_even_so under ruled crate_rules by_the_book memory_calls subgroups names both same_bytes rule_in
as-documents profile s = same-rules profile names (older_names ++ subgroups) refl refl s

pub as-older : (s : List ℕ) → rule_of 0 s ≡ rule_in 0 older_names s
unfolding ascii words ahead among running_even_so under ruled crate_rules by_the_book memory_calls names both same_bytes within rule_in
as-older s = same-rules 0 names older_names refl refl s

-- and each of document 01's names has there the rule that document 01 gives it, and its mark
pub as-document : (s : List ℕ) (R : Rule) (m : Bool) → rule_in 0 document s ≡ rule R m → rule_of 0 s ≡ rule R m
unfolding ascii words ahead among running_even_so under ruled crate_rules by_the_book names both same_bytes within rule_in
as-document s R m e = covered 0 document names refl s R m e

-- RUNNING EVEN SO are the nine derivatives, arrayLength, the subgroup and quad names, the calls on memory, and no other
pub running-names : map (λ (r : Name). r.running) names ≡ map (λ (r : Name). among r.text (running_even_so ++ map (λ (r : Name). r.text) (memory_calls ++ subgroups))) names
unfolding ascii words ahead among running_even_so under memory_calls subgroups names both same_bytes
running-names = refl
