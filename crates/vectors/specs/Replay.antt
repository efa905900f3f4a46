-- A program that goes through the lines of its input. Assumes nothing.
use Rattle.std.specs.Prelude.{◌≡◌, ◌≢◌, ◌⊎◌, ℕ, List, [], ◌∷◌}
use Rattle.vectors.specs.declared.rows.Counts.{Counts}

-- no row yet
abbrev pub no_counts : Counts
no_counts = record { agreed = 0; rows = 0 }

-- `*`, which begins a title
abbrev pub title_byte : ℕ
title_byte = 42

-- from p and counts c the lines lead to q, where `gives` says what a row makes of a program: an empty line leaves all as it is, a title begins the counts anew,
-- and any other line is a row
abbrev pub Replays : {P : Type 0} → (P → List ℕ → Counts → P → Counts → Type 0) → List (List ℕ) → P → Counts → P → Type 0
Replays gives [] p c q = p ≡ q
Replays gives ([] ∷ ls) p c q = Replays gives ls p c q
Replays {P} gives ((b ∷ l) ∷ ls) p c q =
    ((b ≡ title_byte) × Replays gives ls p no_counts q)
    ⊎ ((b ≢ title_byte) × ((m : P) × (d : Counts) × gives p (b ∷ l) c m d × Replays gives ls m d q))
