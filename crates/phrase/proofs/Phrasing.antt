-- Spellings of scalars, vectors and matrices by their numbers; texts with something between two of them, one more at a time. Assumes nothing.
use Prim.Native.Nat.{ℕ, zero, suc, ◌+◌, ◌-◌, ◌/◌, ◌%◌, ◌≤◌, ◌<◌}
use mathlib.Core.Path.{◌≡◌, refl, ◌∙◌, ap}
use mathlib.Core.List.{List, [], ◌∷◌, ◌++◌, map, append_assoc, append-nil}
use native.Mathlib.Nat.{le_of_suc-le-suc, not-suc-le-zero}
use native.Mathlib.Numerals.{add-one}
use native.Mathlib.Omega.{arith}
use lib.ListN.{length, get_or, take, length-map}
use borrow.Author.Tests.{ne_eqb, lt-ltb, le-ltb}
use Rattle.text.specs.Text.{ascii, decimal}
use Rattle.conv.specs.Rank.{conversion_rank, made}
use Rattle.overload.specs.inner.Code.{shape_of_no, operand}
use Rattle.spell.specs.Spell.{scalar_names, named, spelling}
use Rattle.spell.specs.inner.Parts.{text_of}
use Rattle.phrase.specs.Phrase.{behind, apart, ranks_of}
use Rattle.phrase.specs.inner.Gap.{gap_at}

-- the text of a scalar is its name
pub scalar-text : (s : ℕ) → s < 7 → text_of s ≡ named scalar_names s
unfolding text_of named
scalar-text zero h = refl
scalar-text (suc zero) h = refl
scalar-text (suc (suc zero)) h = refl
scalar-text (suc (suc (suc zero))) h = refl
scalar-text (suc (suc (suc (suc zero)))) h = refl
scalar-text (suc (suc (suc (suc (suc zero))))) h = refl
scalar-text (suc (suc (suc (suc (suc (suc zero)))))) h = refl
scalar-text (suc (suc (suc (suc (suc (suc (suc s))))))) h = absurd (omega arith)

-- SPELLINGS BY NUMBER

pub spelled-scalar : (x : ℕ) → x < 7 → spelling (operand x) ≡ named scalar_names (x % 7)
unfolding shape_of_no made spelling
spelled-scalar x h = let e : x / 7 ≡ 0 = omega arith in rw e

abbrev component : ℕ → List ℕ
component s = ascii "<" ++ named scalar_names s ++ ascii ">"

pub spelled-vec : (x : ℕ) → 7 ≤ x → x < 28 → spelling (operand x) ≡ (ascii "vec" ++ decimal (x / 7 + 1)) ++ (component (x % 7))
unfolding shape_of_no made spelling
spelled-vec x l h = rw (ne_eqb (x / 7) 0 (λ e. omega arith), lt-ltb (x / 7) 4 (omega arith)) (simp append_assoc)

pub spelled-mat : (x : ℕ) → 28 ≤ x → x < 91
    → spelling (operand x) ≡ (ascii "mat" ++ decimal ((x / 7 - 4) / 3 + 2)) ++ (ascii "x" ++ decimal ((x / 7 - 4) % 3 + 2)) ++ (component (x % 7))
unfolding shape_of_no made spelling
spelled-mat x l h =
    rw (ne_eqb (x / 7) 0 (λ e. omega arith), le-ltb (x / 7) 4 (omega arith), lt-ltb (x / 7) 13 (omega arith)) (simp append_assoc)

-- TEXTS SET APART

behind_more : (gap : List ℕ) (ss : List (List ℕ)) (k : ℕ) → k < length ss → behind gap (take (suc k) ss) ≡ behind gap (take k ss) ++ gap ++ get_or ss k []
unfolding behind
behind_more gap [] k h = absurd (not-suc-le-zero h)
behind_more gap (s ∷ ss) zero h = append-nil (gap ++ s)
behind_more gap (s ∷ ss) (suc k) h = ap (λ (t : List ℕ). gap ++ s ++ t) (behind_more gap ss k (le_of_suc-le-suc h)) ∙ simp append_assoc

pub apart_next : (gap : List ℕ) (ss : List (List ℕ)) (k : ℕ) → k < length ss → apart gap (take (k + 1) ss) ≡ apart gap (take k ss) ++ gap_at k gap ++ get_or ss k []
unfolding apart behind gap_at
apart_next gap [] k h = absurd (not-suc-le-zero h)
apart_next gap (s ∷ ss) zero h = append-nil s
apart_next gap (s ∷ ss) (suc k) h =
    ap (λ (n : ℕ). apart gap (take n (s ∷ ss))) (add-one (suc k)) ∙ ap (λ (t : List ℕ). s ++ t) (behind_more gap ss k (le_of_suc-le-suc h)) ∙ simp (append_assoc, ne_eqb (suc k) 0 (λ e. omega arith))

pub gap-long : (k : ℕ) (gap : List ℕ) → length (gap_at k gap) ≤ length gap
unfolding gap_at
gap-long zero gap = omega arith
gap-long (suc k) gap = rw (ne_eqb (suc k) 0 (λ e. omega arith)) (omega arith)

-- the texts of parameters, and those of ranks
abbrev pub spelled : List ℕ → List (List ℕ)
spelled ps = map spelling (map operand ps)

pub spelled_at : (ps : List ℕ) (k : ℕ) → k < length ps → get_or (spelled ps) k [] ≡ spelling (operand (get_or ps k 0))
spelled_at [] k h = absurd (not-suc-le-zero h)
spelled_at (p ∷ ps) zero h = refl
spelled_at (p ∷ ps) (suc k) h = spelled_at ps k (le_of_suc-le-suc h)

pub spelled-long : (ps : List ℕ) → length (spelled ps) ≡ length ps
spelled-long ps = length-map (map operand ps) spelling ∙ length-map ps operand

abbrev pub ranked : List ℕ → List ℕ → List (List ℕ)
ranked ps xs = map decimal (ranks_of (map operand ps) (map operand xs))

pub ranked-at : (ps xs : List ℕ) → length xs ≡ length ps → (k : ℕ) → k < length ps → get_or (ranked ps xs) k [] ≡ decimal (conversion_rank (operand (get_or xs k 0)) (operand (get_or ps k 0)))
unfolding ranks_of
ranked-at [] xs e k h = absurd (not-suc-le-zero h)
ranked-at (p ∷ ps) [] e k h = absurd (omega arith)
ranked-at (p ∷ ps) (x ∷ xs) e zero h = refl
ranked-at (p ∷ ps) (x ∷ xs) e (suc k) h = ranked-at ps xs (omega arith) k (le_of_suc-le-suc h)

pub ranked-long : (ps xs : List ℕ) → length xs ≡ length ps → length (ranked ps xs) ≡ length ps
unfolding ranks_of
ranked-long [] xs e = refl
ranked-long (p ∷ ps) [] e = absurd (omega arith)
ranked-long (p ∷ ps) (x ∷ xs) e = ap suc (ranked-long ps xs (omega arith))
