-- DOCUMENT 02, K6, "ldexp and arrayLength by the book. Make both ruled": demand 3 of both, by the bytes of their names, in either profile; and the calls that the request speaks of, over a
-- table of literal words. Assumes nothing.
use Prim.Native.Nat.{ℕ, ◌<◌}
use Prim.Native.String.{String}
use mathlib.Core.Path.{◌≡◌, refl}
use mathlib.Core.Bool.{true, false}
use mathlib.Core.List.{List, [], ◌∷◌}
use native.Mathlib.Omega.{arith}
use borrow.Author.Tests.{lt-ltb, le-leb}
use Rattle.text.specs.Text.{ascii}
use Rattle.held.specs.Held.{value_of}
use Rattle.conv.specs.Types.{abstract_int, abstract_float, i32, u32, f32, f16, is_value, is_runtime, formed, abstract_ty}
use Rattle.conv.specs.Rank.{both, rank_of, shape_of, component_of, tag_of, first_of, second_of, element_of, same_ty, conversion_rank, made}
use Rattle.overload.specs.Overload.{or, fits, no_more, less, same_tys, all_yield, is_preferred, chosen, judge}
use Rattle.overload.specs.Marks.{any_running, any_abstract, dropped, sifted, remaining, running_abstract}
use Rattle.overload.specs.Rows.{form_at, component_at, wrapped, over_second, at_sizes, over_set, of_families, head_count, scaling, of_row, array_length_of, judge_length, alone, overloads_by, judge_by}
use Rattle.overload.specs.Rows.Ruling.{by_row, array_length}
use Rattle.names.specs.Names.{names, profiles, same_bytes, within, rule_in, rule_of}
use Rattle.names.specs.Names.Rule.{ruling}
use Rattle.names.specs.Names.Named.{rule}
use Rattle.answer.specs.Answer.{accept}
use Rattle.answer.specs.declared.Reason.TheVariants.{NoOverload, RunningAbstract}
use Rattle.table.specs.Tools.{all_below}
use Rattle.table.specs.Table.{Sound, row_ok, chain_by, chain, base_of, made_ok, entry_ok, find_in, soundb}
use Rattle.table.specs.Denote.{made as madeEntry, type_at, kind_of, p_of, q_of}
use Rattle.table.specs.Enter.{free}
use Rattle.table.specs.Placing.{Outcome, turned_down, stands_in, placed_over, placed, entering}
use Rattle.ruled.specs.Call.{any_reference, judged_outcome}
use Rattle.ruled.specs.Demand3.{HasRoom, Demand3}
use Rattle.call_ty.specs.Calls.{template_right, operands_by, operands_of, given_by, given_outcome, by_rule, all_under, numbers, marks_of, types, type_builtin_fn}
use Rattle.call_ty.specs.inner.Codes.{Under}
use Rattle.call_ty.proofs.Demand3.{builtin-demand-3}

-- BOTH ARE RULED; the result of arrayLength is running even so

module _ (profile : ℕ) (there : profile < profiles) where
  pub ldexp-ruled : rule_of profile (ascii "ldexp") ≡ rule (ruling (by_row scaling)) false
  unfolding ascii names both same_bytes within rule_in
  ldexp-ruled = rw (lt-ltb profile profiles there, le-leb 0 profile (omega arith))

  pub length-ruled : rule_of profile (ascii "arrayLength") ≡ rule (ruling array_length) true
  unfolding ascii names both same_bytes within rule_in
  length-ruled = rw (lt-ltb profile profiles there, le-leb 0 profile (omega arith))

  -- DEMAND 3, with its own hypotheses
  module _ (w : List ℕ) (n : ℕ) (s : Sound w n) (args : List ℕ) (under : Under n (numbers args)) (loaded : any_reference (types w (numbers args)) ≡ false)
      (apart : running_abstract (types w (numbers args)) (marks_of args) ≡ false) where
    pub ldexp-demand-3 : HasRoom (remaining (marks_of args) (of_row scaling)) w n (types w (numbers args))
        → Demand3 (remaining (marks_of args) (of_row scaling)) (types w (numbers args)) (type_builtin_fn profile w n (ascii "ldexp") [] args)
    unfolding overloads_by
    ldexp-demand-3 = builtin-demand-3 profile w n s (ascii "ldexp") args (by_row scaling) false ldexp-ruled under loaded apart

    pub length-demand-3 : HasRoom (remaining (marks_of args) array_length_of) w n (types w (numbers args))
        → Demand3 (remaining (marks_of args) array_length_of) (types w (numbers args)) (type_builtin_fn profile w n (ascii "arrayLength") [] args)
    unfolding overloads_by
    length-demand-3 = builtin-demand-3 profile w n s (ascii "arrayLength") args array_length true length-ruled under loaded apart

-- THE CALLS, over the seven scalars and eleven types more
unfoldable pub table : List ℕ
table =
    0 ∷ 0 ∷ 0 ∷ 0
    ∷ 1 ∷ 0 ∷ 0 ∷ 0
    ∷ 2 ∷ 0 ∷ 0 ∷ 0
    ∷ 3 ∷ 0 ∷ 0 ∷ 0
    ∷ 4 ∷ 0 ∷ 0 ∷ 0
    ∷ 5 ∷ 0 ∷ 0 ∷ 0
    ∷ 6 ∷ 0 ∷ 0 ∷ 0
    ∷ 7 ∷ 2 ∷ 0 ∷ 2
    ∷ 7 ∷ 2 ∷ 0 ∷ 3
    ∷ 7 ∷ 3 ∷ 0 ∷ 3
    ∷ 7 ∷ 2 ∷ 0 ∷ 5
    ∷ 10 ∷ 0 ∷ 0 ∷ 5
    ∷ 9 ∷ 4 ∷ 0 ∷ 5
    ∷ 12 ∷ 4 ∷ 0 ∷ 11
    ∷ 12 ∷ 4 ∷ 2 ∷ 11
    ∷ 12 ∷ 4 ∷ 1 ∷ 11
    ∷ 12 ∷ 4 ∷ 0 ∷ 12
    ∷ 12 ∷ 2 ∷ 2 ∷ 11
    ∷ []

abbrev pub vec2_float : ℕ
vec2_float = 7

abbrev pub vec2_i32 : ℕ
vec2_i32 = 8

abbrev pub vec3_i32 : ℕ
vec3_i32 = 9

abbrev pub vec2_f32 : ℕ
vec2_f32 = 10

-- pointers to an array without count: in space storage, by its access; and in space workgroup. One in space storage to an array of four

abbrev pub readable : ℕ
readable = 13

abbrev pub changeable : ℕ
changeable = 14

abbrev pub write_only : ℕ
write_only = 15

abbrev pub to_four : ℕ
to_four = 16

abbrev pub in_workgroup : ℕ
in_workgroup = 17

abbrev pub call : String → List ℕ → Outcome
call name args = type_builtin_fn 0 table 18 (ascii name) [] args

-- a type that stands there already; 8
abbrev pub gives : ℕ → Outcome
gives t = record { answer = accept t 18; words = table }

abbrev pub none : Outcome
none = turned_down NoOverload 0 table 18

pub record ByTheBook : Type 0 where
  -- "(f32, AbstractInt) and (AbstractFloat, i32) give f32"
  pub concrete_first : call "ldexp" (f32 ∷ abstract_int ∷ []) ≡ gives f32
  pub concrete_second : call "ldexp" (abstract_float ∷ i32 ∷ []) ≡ gives f32
  -- the same where the concrete one is running; an abstract one that is running is 14
  pub running_second : call "ldexp" (abstract_float ∷ value_of i32 true ∷ []) ≡ gives f32
  pub running_abstract : call "ldexp" (value_of abstract_float true ∷ i32 ∷ []) ≡ turned_down RunningAbstract 0 table 18
  -- both abstract, both concrete
  pub abstracts : call "ldexp" (abstract_int ∷ abstract_int ∷ []) ≡ gives abstract_float
  pub halves : call "ldexp" (f16 ∷ i32 ∷ []) ≡ gives f16
  -- "of T's width"
  pub vectors : call "ldexp" (vec2_float ∷ vec2_i32 ∷ []) ≡ gives vec2_f32
  pub widths_differ : call "ldexp" (vec2_f32 ∷ vec3_i32 ∷ []) ≡ none
  pub scalar_second : call "ldexp" (vec2_f32 ∷ i32 ∷ []) ≡ none
  -- "AbstractInt or i32"
  pub unsigned : call "ldexp" (f32 ∷ u32 ∷ []) ≡ none
  pub float_second : call "ldexp" (f32 ∷ f32 ∷ []) ≡ none
  -- "a pointer in space storage, with read or read_write access, to an array without count"
  pub reads : call "arrayLength" (readable ∷ []) ≡ gives u32
  pub changes : call "arrayLength" (changeable ∷ []) ≡ gives u32
  pub writes : call "arrayLength" (write_only ∷ []) ≡ none
  pub counted : call "arrayLength" (to_four ∷ []) ≡ none
  pub other_space : call "arrayLength" (in_workgroup ∷ []) ≡ none
  pub no_pointer : call "arrayLength" (f32 ∷ []) ≡ none

pub by-the-book : ByTheBook
unfolding table ascii abstract_ty any_running any_abstract dropped sifted running_abstract is_value is_runtime formed both rank_of shape_of component_of tag_of first_of second_of element_of same_ty conversion_rank made or fits no_more less same_tys all_yield is_preferred chosen judge form_at component_at wrapped over_second at_sizes over_set of_families head_count judge_length alone judge_by names same_bytes within rule_in all_below row_ok chain_by chain base_of made_ok entry_ok find_in soundb madeEntry type_at kind_of p_of q_of free stands_in placed_over placed entering any_reference judged_outcome template_right operands_by operands_of given_by given_outcome by_rule all_under type_builtin_fn
by-the-book =
    record {
      concrete_first = refl;
      concrete_second = refl;
      running_second = refl;
      running_abstract = refl;
      abstracts = refl;
      halves = refl;
      vectors = refl;
      widths_differ = refl;
      scalar_second = refl;
      unsigned = refl;
      float_second = refl;
      reads = refl;
      changes = refl;
      writes = refl;
      counted = refl;
      other_space = refl;
      no_pointer = refl;
    }
