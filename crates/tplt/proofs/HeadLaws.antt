-- The head of a name, by the name's number. Assumes nothing.
use Prim.Native.Nat.{ℕ, zero, suc, ◌+◌, ◌*◌, ◌-◌, ◌≤◌, ◌<◌}
use mathlib.Core.Path.{◌≡◌, refl, sym, ◌∙◌, ap}
use mathlib.Core.Bool.{Bool, true, false, ◌&&◌, cond}
use mathlib.Core.List.{List, [], ◌∷◌}
use native.Mathlib.Omega.{arith}
use lib.ListN.{length, get_or, drop, length-drop}
use lib.Seq.{drop-cons, get_or-drop}
use lib.Dec.{eqb, leb, ltb}
use mir.Val.{Fits}
use mir.Syntax.{w8}
use borrow.Author.Tests.{eq-eqb, ne_eqb, eqb-true, eqb-false, leb-true, ltb-true}
use Rattle.conv.specs.Types.{is_width}
use Rattle.table.proofs.SoundLaws.{and_left, and_right}
use Rattle.table.proofs.KindLaws.{split}
use Rattle.text.specs.Text.{ascii}
use Rattle.tplt.specs.Heads.{head_name, heads, bytes, named, amongst, head_of}
use Rattle.tplt.specs.inner.Steps.{longest, key_of, head_at}
use Rattle.tplt.specs.declared.head.Head.{Head}
use Rattle.tplt.specs.declared.head.Head.TheVariants.{Vector, Matrix, Atomic, Array}
use Rattle.std.specs.Prelude.{Option, Some, None}

-- THE NUMBER OF A NAME

-- bytes, as they stand in a slice
abbrev pub Bytes : List ℕ → Type 0
Bytes l = (i : ℕ) → Fits w8 (get_or l i 0)

key-positive : (l : List ℕ) → 1 ≤ key_of l
unfolding key_of
key-positive [] = omega arith
key-positive (b ∷ l) = let h = key-positive l in omega arith

-- the number of a name of k bytes is below this
abbrev pub room : ℕ → ℕ
room zero = 2
room (suc k) = room k * 256

room-least : (k : ℕ) → 2 ≤ room k
room-least zero = omega arith
room-least (suc k) = let h = room-least k in omega arith

key_below : (k : ℕ) (l : List ℕ) → Bytes l → length l ≤ k → key_of l < room k
unfolding key_of
key_below k [] h q = let r = room-least k in omega arith
key_below zero (b ∷ l) h q = absurd (omega arith)
key_below (suc k) (b ∷ l) h q =
    let x = key_below k l (λ i. h (suc i)) (omega arith) in
    let y : b < 256 = (h 0).fits in
    omega arith

-- two names are the same where their numbers are
digits : (x y a b : ℕ) → a < 256 → b < 256 → eqb (x * 256 + a) (y * 256 + b) ≡ (eqb x y && eqb a b)
digits x y a b ha hb =
    split (eqb x y)
    (λ p.
    split (eqb a b)
    (λ q. let e = eqb-true x y p in let f = eqb-true a b q in rw (p, q) (eq-eqb (x * 256 + a) (y * 256 + b) (omega arith)))
    (λ q. let e = eqb-true x y p in let f = eqb-false a b q in rw (p, q) (ne_eqb (x * 256 + a) (y * 256 + b) (λ z. f (omega arith)))))
    (λ p. let f = eqb-false x y p in rw p (ne_eqb (x * 256 + a) (y * 256 + b) (λ z. f (omega arith))))

swapped : (n x t : Bool) → (n && (x && t)) ≡ ((n && t) && x)
swapped false x t = refl
swapped true false false = refl
swapped true false true = refl
swapped true true false = refl
swapped true true true = refl

one_more : (m n : ℕ) → eqb (suc m) (suc n) ≡ eqb m n
one_more m n =
    split (eqb m n)
    (λ p. let e = eqb-true m n p in rw p (eq-eqb (suc m) (suc n) (omega arith)))
    (λ p. let f = eqb-false m n p in rw p (ne_eqb (suc m) (suc n) (λ z. f (omega arith))))

same_key : (a b : List ℕ) → Bytes a → Bytes b → named a b ≡ eqb (key_of a) (key_of b)
unfolding key_of
same_key [] [] ha hb = refl
same_key [] (y ∷ b) ha hb = let h = key-positive b in rw (ne_eqb 0 (suc (length b)) (λ z. omega arith), ne_eqb 1 (key_of b * 256 + y) (λ z. omega arith))
same_key (x ∷ a) [] ha hb = let h = key-positive a in rw (ne_eqb (suc (length a)) 0 (λ z. omega arith), ne_eqb (key_of a * 256 + x) 1 (λ z. omega arith))
same_key (x ∷ a) (y ∷ b) ha hb =
    rw (one_more (length a) (length b)) (swapped (eqb (length a) (length b)) (eqb x y) (bytes a b))
    ∙ ap (λ (t : Bool). t && eqb x y) (same_key a b (λ i. ha (suc i)) (λ i. hb (suc i)))
    ∙ sym (digits (key_of a) (key_of b) x y (ha 0).fits (hb 0).fits)

-- the loop over a name, from its end
module _ (name : List ℕ) (b : Bytes name) (left : ℕ) (some : 0 < left) where
  pub key-room : length name ≤ longest → key_of (drop left name) < room 5
  key-room l = key_below 5 (drop left name) (λ i. rw get_or-drop (b (left + i))) (simp length-drop (omega arith))

  pub key-next : left ≤ length name → key_of (drop left name) * 256 + get_or name (left - 1) 0 ≡ key_of (drop (left - 1) name)
  unfolding key_of
  key-next l =
      let q : suc (left - 1) ≡ left = omega arith in
      let e : drop (left - 1) name ≡ get_or name (left - 1) 0 ∷ drop left name = drop-cons name (left - 1) 0 (omega arith) ∙ ap (λ (k : ℕ). get_or name (left - 1) 0 ∷ drop k name) q in
      sym (ap key_of e)

-- THE HEADS

-- the widths of a head are 2 to 4
abbrev pub well_sized : Head → Bool
well_sized (Vector k) = is_width k
well_sized (Matrix c r) = is_width c && is_width r
well_sized Atomic = true
well_sized Array = true

abbrev pub sized : Option Head → Bool
sized (Some h) = well_sized h
sized None = true

all-bytes : List ℕ → Bool
all-bytes [] = true
all-bytes (b ∷ l) = ltb b 256 && all-bytes l

bytes-all : (l : List ℕ) → all-bytes l ≡ true → Bytes l
unfolding all-bytes
bytes-all [] t i = record { fits = omega arith }
bytes-all (b ∷ l) t zero = record { fits = ltb-true b 256 (and_left _ _ t) }
bytes-all (b ∷ l) t (suc i) = bytes-all l (and_right (ltb b 256) _ t) i

-- the test of every head: its widths, and its name's length and bytes
all_right : List Head → Bool
all_right [] = true
all_right (h ∷ hs) = (well_sized h && (leb (length (head_name h)) longest && all-bytes (head_name h))) && all_right hs

heads-right : all_right heads ≡ true
unfolding all_right all-bytes ascii
heads-right = refl

module _ (name : List ℕ) where
  among-sized : (hs : List Head) → all_right hs ≡ true → sized (amongst hs name) ≡ true
  unfolding all_right
  among-sized [] q = refl
  among-sized (h ∷ hs) q = go (named name (head_name h)) (and_left _ _ (and_left _ _ q)) (among-sized hs (and_right (well_sized h && (leb (length (head_name h)) longest && all-bytes (head_name h))) _ q))
    where
      go : (t : Bool) → well_sized h ≡ true → sized (amongst hs name) ≡ true → sized (cond t (Some h) (amongst hs name)) ≡ true
      go true a b = a
      go false a b = b

  pub head-sized : sized (head_of name) ≡ true
  unfolding head_of
  head-sized = among-sized heads heads-right

  -- a name that is longer than any is none
  among-short : longest < length name → (hs : List Head) → all_right hs ≡ true → amongst hs name ≡ None
  unfolding all_right
  among-short l [] q = refl
  among-short l (h ∷ hs) q =
      let s = leb-true (length (head_name h)) longest (and_left _ _ (and_right (well_sized h) _ (and_left _ _ q))) in
      rw (ne_eqb (length name) (length (head_name h)) (λ z. omega arith)) (among-short l hs (and_right (well_sized h && (leb (length (head_name h)) longest && all-bytes (head_name h))) _ q))

  pub long-name : longest < length name → None ≡ head_of name
  unfolding head_of
  long-name l = sym (among-short l heads heads-right)

  -- any other is the head of its number
  among-key : Bytes name → (hs : List Head) → all_right hs ≡ true → amongst hs name ≡ head_at hs (key_of name)
  unfolding all_right head_at
  among-key b [] q = refl
  among-key b (h ∷ hs) q =
      let n = bytes-all (head_name h) (and_right (leb (length (head_name h)) longest) _ (and_right (well_sized h) _ (and_left _ _ q))) in
      rw (same_key name (head_name h) b n, among-key b hs (and_right (well_sized h && (leb (length (head_name h)) longest && all-bytes (head_name h))) _ q))

  pub head-key : Bytes name → head_at heads (key_of name) ≡ head_of name
  unfolding head_of
  head-key b = sym (among-key b heads heads-right)
