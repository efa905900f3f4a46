-- The six names of document 01's worked cases, by their bytes: each has the row that makes its case so, in either profile, and only the result of the derivative is running
-- even so. Assumes nothing.
use Prim.Native.Nat.{ℕ}
use Prim.Native.String.{String}
use mathlib.Core.Path.{◌≡◌, refl}
use mathlib.Core.Bool.{Bool, true, false}
use mathlib.Core.List.{◌∷◌, [], map}
use Rattle.conv.specs.Rank.{both}
use Rattle.text.specs.Text.{ascii}
use Rattle.overload.specs.Rows.{Row, negating, one_float, three_numerics, one_bits, one_f32, frexp_of}
use Rattle.overload.specs.Rows.Ruling.{by_row}
use Rattle.names.specs.Names.{names, same_bytes, within, rule_in, rule_of}
use Rattle.names.specs.Names.Rule.{ruling}
use Rattle.names.specs.Names.Named.{rule}

abbrev pub Has : String → Row → Bool → Type 0
Has text row running =
    map (λ (profile : ℕ). rule_of profile (ascii text)) (0 ∷ 1 ∷ []) ≡ rule (ruling (by_row row)) running ∷ rule (ruling (by_row row)) running ∷ []

pub sqrt : Has "sqrt" one_float false
unfolding ascii names both same_bytes within rule_in
sqrt = refl

pub reverse_bits : Has "reverseBits" one_bits false
unfolding ascii names both same_bytes within rule_in
reverse_bits = refl

pub frexp : Has "frexp" frexp_of false
unfolding ascii names both same_bytes within rule_in
frexp = refl

pub clamp : Has "clamp" three_numerics false
unfolding ascii names both same_bytes within rule_in
clamp = refl

pub dpdx : Has "dpdx" one_f32 true
unfolding ascii names both same_bytes within rule_in
dpdx = refl

pub sign : Has "sign" negating false
unfolding ascii names both same_bytes within rule_in
sign = refl
