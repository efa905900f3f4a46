-- Lines of bytes: how long the first one is, and what is left after it. Assumes nothing.
use Rattle.std.proofs.Common.{◌≡◌, ℕ, suc, ◌+◌, ◌-◌, true, false, cond, not, List, [], ◌∷◌, length, drop, take, zero-add, ◌==◌, refl, ap, arith, sym, ◌∙◌}
use Rattle.std.specs.Prelude.{min, ◌≤◌, ◌<◌, nat_lt, Some, None}
use Rattle.std.specs.Option.{unwrap_or}
use Rattle.std.specs.List.{prefix_len, position}
use Rattle.std.proofs.lemmas.List.{take_all, drop_min, length-drop}
use Rattle.std.proofs.lemmas.List.Sums.{prefix_len-le-length}
use Rattle.std.proofs.lemmas.Bool.Decides.{nat_tests}
use Rattle.vectors.specs.Lines.{line_end_byte, line_length, line_end, lines_of, with_byte}

-- the bytes before the first line end, counted as the library counts them
pub length_of : (s : List ℕ) → line_length s ≡ prefix_len (λ b. not (b == line_end_byte)) s
unfolding line_length
length_of [] = refl
length_of (b ∷ s) =
    let h = length_of s in
    elim (b == line_end_byte) as (λ v. cond v 0 (suc (line_length s)) ≡ cond (not v) (1 + prefix_len (λ x. not (x == line_end_byte)) s) 0) [
      | true ↦ refl
      | false ↦ omega (arith, h)
    ]

-- a number below another, or else that one
or_end : (p n : ℕ) → p ≤ n → unwrap_or (cond (nat_lt p n) (Some p) None) n ≡ p
or_end p n l = grind (arith, nat_tests)

pub end_of : (s : List ℕ) → unwrap_or (position (λ b. b == line_end_byte) s) (length s) ≡ line_length s
end_of s = or_end _ _ (prefix_len-le-length _ s) ∙ sym (length_of s)

-- the first line, and the lines behind its end
pub first_line : (b : ℕ) (s : List ℕ) → lines_of (b ∷ s) ≡ take (line_length (b ∷ s)) (b ∷ s) ∷ lines_of (drop (line_length (b ∷ s)) s)
unfolding line_length lines_of
first_line b [] =
    elim (b == line_end_byte) as (λ v. cond v ([] ∷ []) (with_byte b []) ≡ take (cond v 0 1) (b ∷ []) ∷ lines_of (drop (cond v 0 1) [])) [
      | true ↦ refl
      | false ↦ refl
    ]
first_line b (c ∷ s) =
    let h = first_line c s in
    elim (b == line_end_byte) as (λ v. cond v ([] ∷ lines_of (c ∷ s)) (with_byte b (lines_of (c ∷ s))) ≡ take (cond v 0 (suc (line_length (c ∷ s)))) (b ∷ c ∷ s) ∷ lines_of (drop (cond v 0 (suc (line_length (c ∷ s)))) (c ∷ s))) [
      | true ↦ refl
      | false ↦ ap (with_byte b) h
    ]

-- what begins at a place, cut off at the end of the bytes
rest_of : (n : ℕ) (t : List ℕ) → take (length t - min n (length t)) (drop (min n (length t)) t) ≡ drop n t
rest_of n t = rw (drop_min n t) (take_all _ _ (omega (arith, length-drop n t)))

pub next_line : (s : List ℕ) (b : ℕ) (t : List ℕ) → s ≡ b ∷ t → (n : ℕ) → n ≡ line_end s 0 → (m : ℕ) → m ≡ min n (length t)
    → lines_of s ≡ take n s ∷ lines_of (take (length t - m) (drop m t))
next_line s b t q n e m f =
    let k : n ≡ line_length (b ∷ t) = rw (← q) (e ∙ zero-add _) in
    rw (q, f, rest_of n t, k) (first_line b t)

pub none_left : (s : List ℕ) → length s ≡ 0 → lines_of s ≡ []
unfolding lines_of
none_left [] q = refl
none_left (b ∷ s) q = absurd (omega arith)

-- a line less is left
pub fewer : {x : List ℕ} {l m : List (List ℕ)} → l ≡ x ∷ m → length m < length l
fewer q = rw q (omega arith)
