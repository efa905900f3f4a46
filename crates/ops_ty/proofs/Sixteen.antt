-- Document 01, "Sixteen cases for the table of proof", the ten of operators: by the operator's number, over a table of literal words, through the definition that a
-- host's call uses. Assumes nothing.
use Prim.Native.Nat.{ℕ}
use mathlib.Core.Path.{◌≡◌, refl}
use mathlib.Core.List.{List, [], ◌∷◌}
use Rattle.conv.specs.Types.{bool, abstract_int, i32, u32, f32, abstract_ty, is_value, formed}
use Rattle.conv.specs.Rank.{both, rank_of, shape_of, component_of, tag_of, first_of, second_of, element_of, same_ty, conversion_rank, made}
use Rattle.overload.specs.Overload.{or, fits, no_more, less, same_tys, all_yield, is_preferred, chosen, judge}
use Rattle.overload.specs.Marks.{any_running, dropped, sifted, running_abstract}
use Rattle.overload.specs.Rows.{form_at, component_at, wrapped, over_second, at_sizes, over_set, of_families, judge_by}
use Rattle.answer.specs.Answer.{accept}
use Rattle.answer.specs.declared.Reason.TheVariants.{NoOverload}
use Rattle.table.specs.Tools.{all_below}
use Rattle.table.specs.Table.{row_ok, chain_by, chain, base_of, made_ok, entry_ok, find_in, soundb}
use Rattle.table.specs.Denote.{made as madeEntry, type_at, kind_of, p_of, q_of}
use Rattle.table.specs.Enter.{free}
use Rattle.table.specs.Placing.{Outcome, turned_down, stands_in, placed_over, placed, entering}
use Rattle.ruled.specs.Call.{any_reference, judged_outcome, takes_reference, ruled_outcome}
use Rattle.ops_ty.specs.Ops.{binary_row, binary_outcome, type_binary_op}

-- the seven scalars, and after them what the cases speak of
unfoldable pub table : List ℕ
table =
    0 ∷ 0 ∷ 0 ∷ 0
    ∷ 1 ∷ 0 ∷ 0 ∷ 0
    ∷ 2 ∷ 0 ∷ 0 ∷ 0
    ∷ 3 ∷ 0 ∷ 0 ∷ 0
    ∷ 4 ∷ 0 ∷ 0 ∷ 0
    ∷ 5 ∷ 0 ∷ 0 ∷ 0
    ∷ 6 ∷ 0 ∷ 0 ∷ 0
    ∷ 7 ∷ 3 ∷ 0 ∷ 1
    ∷ 7 ∷ 3 ∷ 0 ∷ 5
    ∷ 8 ∷ 4 ∷ 3 ∷ 5
    ∷ 7 ∷ 4 ∷ 0 ∷ 5
    ∷ 8 ∷ 2 ∷ 4 ∷ 5
    ∷ 8 ∷ 2 ∷ 3 ∷ 5
    ∷ 7 ∷ 2 ∷ 0 ∷ 1
    ∷ 7 ∷ 2 ∷ 0 ∷ 6
    ∷ 7 ∷ 2 ∷ 0 ∷ 0
    ∷ []

abbrev pub vec3_int : ℕ
vec3_int = 7

abbrev pub vec3_f32 : ℕ
vec3_f32 = 8

abbrev pub mat4x3 : ℕ
mat4x3 = 9

abbrev pub vec4_f32 : ℕ
vec4_f32 = 10

abbrev pub mat2x4 : ℕ
mat2x4 = 11

abbrev pub mat2x3 : ℕ
mat2x3 = 12

abbrev pub vec2_int : ℕ
vec2_int = 13

abbrev pub vec2_f16 : ℕ
vec2_f16 = 14

abbrev pub vec2_bool : ℕ
vec2_bool = 15

-- the operators by document 01's numbers
abbrev pub plus : ℕ
plus = 2

abbrev pub times : ℕ
times = 4

abbrev pub equals : ℕ
equals = 7

abbrev pub less_than : ℕ
less_than = 9

abbrev pub bar : ℕ
bar = 13

abbrev pub on : ℕ → ℕ → ℕ → Outcome
on op a b = type_binary_op table 16 op a b

-- every result stands there already
abbrev pub gives : ℕ → Outcome
gives t = record { answer = accept t 16; words = table }

-- AbstractInt + f32: f32. vec3 AbstractInt * f32: vec3 f32. mat4x3 f32 + itself: mat4x3. mat4x3 * vec4: vec3. vec3 * mat4x3: vec4. mat4x3 * mat2x4: mat2x3.
-- bool < bool: 8. vec2 AbstractInt < vec2 f16: vec2 bool. i32 == u32: 8. AbstractInt | u32: u32
pub record Ten : Type 0 where
  pub sum : on plus abstract_int f32 ≡ gives f32
  pub scaled : on times vec3_int f32 ≡ gives vec3_f32
  pub matrices : on plus mat4x3 mat4x3 ≡ gives mat4x3
  pub column : on times mat4x3 vec4_f32 ≡ gives vec3_f32
  pub row : on times vec3_f32 mat4x3 ≡ gives vec4_f32
  pub product : on times mat4x3 mat2x4 ≡ gives mat2x3
  pub bool_less : on less_than bool bool ≡ turned_down NoOverload 0 table 16
  pub vector_less : on less_than vec2_int vec2_f16 ≡ gives vec2_bool
  pub equal : on equals i32 u32 ≡ turned_down NoOverload 0 table 16
  pub bit_or : on bar abstract_int u32 ≡ gives u32

pub ten : Ten
unfolding table abstract_ty any_running dropped sifted running_abstract is_value formed both rank_of shape_of component_of tag_of first_of second_of element_of same_ty conversion_rank made or fits no_more less same_tys all_yield is_preferred chosen judge form_at component_at wrapped over_second at_sizes over_set of_families judge_by all_below row_ok chain_by chain base_of made_ok entry_ok find_in soundb madeEntry type_at kind_of p_of q_of free stands_in placed_over placed entering any_reference judged_outcome takes_reference ruled_outcome binary_row binary_outcome type_binary_op
ten =
    record {
      sum = refl;
      scaled = refl;
      matrices = refl;
      column = refl;
      row = refl;
      product = refl;
      bool_less = refl;
      vector_less = refl;
      equal = refl;
      bit_or = refl;
    }
