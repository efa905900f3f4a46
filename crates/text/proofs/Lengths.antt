-- How far a number of 64 bits reaches that is put after a text. Assumes nothing.
use Prim.Native.Nat.{ℕ, ◌+◌, ◌≤◌, ◌<◌, ◌^◌}
use mathlib.Core.List.{List, ◌++◌}
use native.Mathlib.Omega.{arith}
use lib.ListN.{length, length-append}
use Rattle.text.specs.Text.{decimal, Put}
use Rattle.text.proofs.Decimals.{dec-twenty}

pub after-near : {d v : List ℕ} {at r : ℕ} (s : List ℕ) (n : ℕ) → n < 2 ^ 64 → Put d at (s ++ decimal n) r v → r ≤ at + length s + 20
after-near s n h p = omega (arith, p.place, length-append s (decimal n), dec-twenty n h)
