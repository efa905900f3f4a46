-- The two sheets that document 01 works out, from their bytes to the bytes that are written: all compute. Assumes nothing.
use Prim.Native.Nat.{ℕ}
use mathlib.Core.Path.{◌≡◌, refl}
use mathlib.Core.List.{List, [], ◌∷◌, ◌++◌}
use Rattle.conv.specs.Types.{abstract_ty}
use Rattle.conv.specs.Rank.{both, rank_of, shape_of, component_of, tag_of, first_of, second_of, element_of, same_ty, conversion_rank}
use Rattle.conv.specs.Rank as ranks
use Rattle.answer.specs.Answer.{accept, refuse}
use Rattle.answer.specs.declared.Reason.TheVariants.{NoOverload}
use Rattle.table.specs.Tools.{all_below}
use Rattle.table.specs.Table.{chain_by, chain, entry_ok, find_in, soundb}
use Rattle.table.specs.Denote.{type_at}
use Rattle.table.specs.Enter.{free}
use Rattle.table.specs.Placing.{placed, entering}
use Rattle.overload.specs.Overload.{or, fits, no_more, less, same_tys, all_yield, is_preferred, chosen, judge}
use Rattle.overload.specs.Marks.{any_running, dropped, sifted, running_abstract}
use Rattle.overload.specs.Rows.{form_at, component_at, wrapped, over_second, at_sizes, over_set, of_families, judge_by}
use Rattle.ruled.specs.Call.{any_reference, judged_outcome, takes_reference, ruled_outcome}
use Rattle.ops_ty.specs.Ops.{binary_row, binary_outcome}
use Rattle.frame.specs.Frame.{header_ok, payload_item, item_at, items_within, items_from}
use Rattle.step.specs.Effect.{onto, push_effect, binary_effect, effect_of}
use Rattle.sheet.specs.Machine.{after, turn_of, onward, run_items, type_sheet}
use Rattle.text.specs.Text.{ascii}
use Rattle.lines.specs.Lines.{line_end, start, outcome, report}
use Rattle.lines.proofs.Examples.{written_out}

-- push AbstractInt, push f32, `+`; and push bool, push bool, `<`
abbrev pub sum : List ℕ
sum = 1 ∷ 0 ∷ 9 ∷ 2 ∷ 1 ∷ 1 ∷ 2 ∷ 1 ∷ 5 ∷ 2 ∷ 3 ∷ 2 ∷ []

abbrev pub bool_less : List ℕ
bool_less = 1 ∷ 0 ∷ 9 ∷ 2 ∷ 1 ∷ 0 ∷ 2 ∷ 1 ∷ 0 ∷ 2 ∷ 3 ∷ 9 ∷ []

-- what each comes to over the seven scalars
pub typed :
    (outcome 0 sum ≡ record { answer = accept 5 7; words = start }) ×
    (outcome 0 bool_less ≡ record { answer = refuse NoOverload 9 7; words = start })
unfolding abstract_ty any_running dropped sifted running_abstract both or rank_of shape_of component_of tag_of first_of second_of element_of same_ty conversion_rank ranks.made all_below chain_by chain entry_ok find_in soundb type_at free placed entering fits no_more less same_tys all_yield is_preferred chosen judge form_at component_at wrapped over_second at_sizes over_set of_families judge_by any_reference judged_outcome takes_reference ruled_outcome binary_row binary_outcome header_ok payload_item item_at items_within items_from onto push_effect binary_effect effect_of after turn_of onward run_items type_sheet
typed = (refl, refl)

-- and what is written for it
pub worked :
    (report 0 sum ≡ ascii "type 5 f32" ++ line_end ++ ascii "entries 7" ++ line_end) ×
    (report 0 bool_less ≡ ascii "refused 8 at 9" ++ line_end ++ ascii "entries 7" ++ line_end)
unfolding report
worked = (rw typed.0 written_out.0, rw typed.1 written_out.1)
