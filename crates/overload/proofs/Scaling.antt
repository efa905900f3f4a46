-- ldexp, document 02, K6: "takes T, wide float, and I, AbstractInt or i32 of T's width, where I is concrete exactly when T is, and gives T". Its row has these twelve overloads, and the judgment
-- of a call is a search through them, less those that the marks drop (`judge` in `specs/Overload.antt`); `overload::resolve` promises that judgment, of all operands. Assumes nothing.
use Rattle.std.proofs.Common.{◌≡◌, ℕ, Bool, true, T, List, [], ◌∷◌, ◌++◌, map, refl}
use Rattle.conv.specs.Types.{Ty, abstract_int, abstract_float, i32, f32, f16}
use Rattle.conv.specs.Types.Ty.{scalar, vec}
use Rattle.conv.specs.Rank.{made}
use Rattle.overload.specs.Overload.{Overload, fits, Preferred, Resolved, judge}
use Rattle.overload.specs.Marks.{remaining, remaining_in}
use Rattle.overload.specs.Rows as rows
use Rattle.overload.specs.Rows.{scaling, overloads_of, of_row, row_at, rows, overloads_by, judge_by, Known}
use Rattle.overload.specs.Rows.Ruling.{by_row}
use Rattle.overload.proofs.Operands.{all_formed}
use Rattle.overload.proofs.OnePreferred.{one-is-preferred}
use Rattle.overload.proofs.Rulings.{ruling-resolved}

-- T with its I, at the four widths
abbrev pub choice : ℕ → ℕ → List Overload
choice t i = map (λ (wide : ℕ → Ty). record { params = wide t ∷ wide i ∷ []; result = wide t }) (scalar ∷ vec 2 ∷ vec 3 ∷ vec 4 ∷ [])

pub twelve : overloads_of scaling ≡ choice abstract_float abstract_int ++ (choice f32 i32 ++ choice f16 i32)
unfolding made rows.form_at rows.component_at rows.wrapped rows.of_families rows.over_set rows.at_sizes rows.over_second
twelve = refl

-- DEMAND 3 "must hold for ldexp with its two choices": the judgment is the one that the overloads have which remain, and one that fits is preferred to every other

scaling-known : Known (by_row scaling)
unfolding Known row_at rows
scaling-known = refl

module _ (ts : List Ty) (f : all_formed ts ≡ true) (ms : List Bool) where
  pub ldexp-resolved : Resolved (remaining ms (of_row scaling)) ts (judge (remaining_in ms (overloads_of scaling)) ts)
  unfolding overloads_by judge_by
  ldexp-resolved = ruling-resolved ts f ms (by_row scaling) scaling-known

  pub ldexp-preferred : (p : Overload) → remaining ms (of_row scaling) p → T (fits p.params ts) → (o : Overload) × Preferred (remaining ms (of_row scaling)) ts o
  unfolding overloads_by
  ldexp-preferred = one-is-preferred (by_row scaling) scaling-known ms ts
