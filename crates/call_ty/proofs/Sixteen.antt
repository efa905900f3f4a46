-- Document 01, "Sixteen cases for the table of proof", the six of builtins: by the bytes of the name, over a table of literal words. Assumes nothing.
use Prim.Native.Nat.{ℕ}
use Prim.Native.String.{String}
use mathlib.Core.Path.{◌≡◌, refl}
use mathlib.Core.List.{List, [], ◌∷◌}
use Rattle.text.specs.Text.{ascii}
use Rattle.conv.specs.Types.{abstract_int, abstract_float, i32, u32, f16, is_value, formed, exp_of, abstract_ty}
use Rattle.conv.specs.Types.Ty.{vec, frexp}
use Rattle.conv.specs.Rank.{both, rank_of, shape_of, component_of, tag_of, first_of, second_of, element_of, same_ty, conversion_rank, made}
use Rattle.overload.specs.Overload.{or, fits, no_more, less, same_tys, all_yield, is_preferred, chosen, judge}
use Rattle.overload.specs.Marks.{any_running, dropped, sifted, running_abstract}
use Rattle.overload.specs.Rows.{form_at, component_at, wrapped, over_second, at_sizes, over_set, of_families, head_count, judge_by}
use Rattle.names.specs.Names.{names, same_bytes, within, rule_in}
use Rattle.answer.specs.Answer.{accept}
use Rattle.answer.specs.declared.Reason.TheVariants.{NoOverload}
use Rattle.table.specs.Tools.{all_below}
use Rattle.table.specs.Table.{row_ok, chain_by, chain, base_of, made_ok, entry_ok, find_in, soundb}
use Rattle.table.specs.Denote.{made as madeEntry, type_at, kind_of, p_of, q_of}
use Rattle.table.specs.Enter.{free}
use Rattle.table.specs.Placing.{Outcome, turned_down, stands_in, placed_over, placed, entering}
use Rattle.ruled.specs.Call.{any_reference, judged_outcome}
use Rattle.call_ty.specs.Calls.{template_right, operands_by, operands_of, given_by, given_outcome, by_rule, all_under, type_builtin_fn}

-- bool, AbstractInt, AbstractFloat, i32, u32, f32, f16, vec2 of AbstractFloat, which is entry 7; and room for one entry
unfoldable pub table : List ℕ
table =
    0 ∷ 0 ∷ 0 ∷ 0
    ∷ 1 ∷ 0 ∷ 0 ∷ 0
    ∷ 2 ∷ 0 ∷ 0 ∷ 0
    ∷ 3 ∷ 0 ∷ 0 ∷ 0
    ∷ 4 ∷ 0 ∷ 0 ∷ 0
    ∷ 5 ∷ 0 ∷ 0 ∷ 0
    ∷ 6 ∷ 0 ∷ 0 ∷ 0
    ∷ 7 ∷ 2 ∷ 0 ∷ 2
    ∷ 0 ∷ 0 ∷ 0 ∷ 0
    ∷ []

abbrev pub vec2_float : ℕ
vec2_float = 7

abbrev pub call : String → List ℕ → Outcome
call name args = type_builtin_fn 0 table 8 (ascii name) [] args

-- a type that stands there already
abbrev pub gives : ℕ → Outcome
gives t = record { answer = accept t 8; words = table }

-- sqrt(AbstractInt): AbstractFloat. reverseBits(AbstractInt): i32. frexp(vec2 AbstractFloat): `exp` is vec2 AbstractInt.
-- clamp(AbstractInt, AbstractFloat, f16): f16. dpdx(f16): 8. sign(u32): 8
pub record Six : Type 0 where
  pub sqrt : call "sqrt" (abstract_int ∷ []) ≡ gives abstract_float
  pub reverse_bits : call "reverseBits" (abstract_int ∷ []) ≡ gives i32
  pub frexp_entered : (call "frexp" (vec2_float ∷ [])).answer ≡ accept 8 9
  pub frexp_type : type_at (call "frexp" (vec2_float ∷ [])).words 8 ≡ frexp (vec 2 abstract_float)
  pub frexp_exp : exp_of (type_at (call "frexp" (vec2_float ∷ [])).words 8) ≡ vec 2 abstract_int
  pub clamp : call "clamp" (abstract_int ∷ abstract_float ∷ f16 ∷ []) ≡ gives f16
  pub dpdx : call "dpdx" (f16 ∷ []) ≡ turned_down NoOverload 0 table 8
  pub sign : call "sign" (u32 ∷ []) ≡ turned_down NoOverload 0 table 8

pub six : Six
unfolding table ascii abstract_ty any_running dropped sifted running_abstract is_value formed exp_of both rank_of shape_of component_of tag_of first_of second_of element_of same_ty conversion_rank made or fits no_more less same_tys all_yield is_preferred chosen judge form_at component_at wrapped over_second at_sizes over_set of_families head_count judge_by names same_bytes within rule_in all_below row_ok chain_by chain base_of made_ok entry_ok find_in soundb madeEntry type_at kind_of p_of q_of free stands_in placed_over placed entering any_reference judged_outcome template_right operands_by operands_of given_by given_outcome by_rule all_under type_builtin_fn
six =
    record {
      sqrt = refl;
      reverse_bits = refl;
      frexp_entered = refl;
      frexp_type = refl;
      frexp_exp = refl;
      clamp = refl;
      dpdx = refl;
      sign = refl;
    }
