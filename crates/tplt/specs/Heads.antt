-- Document 01, "Template types": "A head (vec2 to vec4, mat2x2 to mat4x4, atomic, array; any other 4)". Assumes nothing.
use Rattle.std.specs.Prelude.{ℕ, Bool, true, ◌&&◌, cond, List, [], ◌∷◌, ◌++◌, length, eqb, Option, Some, None}
use Rattle.text.specs.Text.{ascii, digit}
use Rattle.tplt.specs.declared.head.Head.{Head}
use Rattle.tplt.specs.declared.head.Head.TheVariants.{Vector, Matrix, Atomic, Array}

-- the name of a head: vecN, matCxR, atomic, array
abbrev pub head_name : Head → List ℕ
head_name (Vector n) = ascii "vec" ++ digit n
head_name (Matrix c r) = ascii "mat" ++ digit c ++ ascii "x" ++ digit r
head_name Atomic = ascii "atomic"
head_name Array = ascii "array"

-- the heads
abbrev pub heads : List Head
heads =
    Array ∷ Atomic ∷ Vector 2 ∷ Vector 3 ∷ Vector 4
    ∷ Matrix 2 2 ∷ Matrix 2 3 ∷ Matrix 2 4
    ∷ Matrix 3 2 ∷ Matrix 3 3 ∷ Matrix 3 4
    ∷ Matrix 4 2 ∷ Matrix 4 3 ∷ Matrix 4 4 ∷ []

-- two names of one length are the same byte for byte
abbrev pub bytes : List ℕ → List ℕ → Bool
bytes [] b = true
bytes (x ∷ a) [] = true
bytes (x ∷ a) (y ∷ b) = eqb x y && bytes a b

abbrev pub named : List ℕ → List ℕ → Bool
named a b = eqb (length a) (length b) && bytes a b

-- the one of these heads that has the name, if one has it
abbrev pub amongst : List Head → List ℕ → Option Head
amongst [] name = None
amongst (h ∷ hs) name = cond (named name (head_name h)) (Some h) (amongst hs name)

unfoldable pub head_of : List ℕ → Option Head
head_of name = amongst heads name
