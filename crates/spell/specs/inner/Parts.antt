-- What the parts of the speller put, by the words of an entry. Of these only `Put` and the bounds on places stand in public promises. Assumes nothing.
use Rattle.std.specs.Prelude.{ℕ, ◌+◌, ◌^◌, ◌||◌, cond, List, [], ◌∷◌, ◌++◌, eqb}
use Prim.Native.String.{String}
use Rattle.conv.specs.Types.{abstract_float}
use Rattle.table.specs.Table.{kind_vec, kind_mat, kind_array, kind_ptr, kind_ref, entry_at}
use Rattle.table.specs.Denote.{type_at}
use Rattle.table.specs.declared.Entry.{Entry}
use Rattle.text.specs.Text.{ascii, decimal}
use Rattle.spell.specs.Spell.{scalar_names, space_names, access_names, named, spelling}

-- the texts that spellings are made of: by kind, 0 to 16, the scalars and the heads; then the spaces and the accesses; then what a
-- result type's name calls AbstractFloat
abbrev pub head_names : List String
head_names = "vec" ∷ "mat" ∷ "array" ∷ "array" ∷ "atomic" ∷ "ptr" ∷ "ref" ∷ "__frexp_result_" ∷ "__modf_result_" ∷ "__atomic_compare_exchange_result" ∷ []

abbrev pub texts : List String
texts = scalar_names ++ head_names ++ space_names ++ access_names ++ ("abstract" ∷ [])

unfoldable pub text_of : ℕ → List ℕ
text_of k = named texts k

-- where the spaces and the accesses begin among the texts, and where `abstract` stands
abbrev pub text_spaces : ℕ
text_spaces = 17

abbrev pub text_accesses : ℕ
text_accesses = 23

abbrev pub text_abstract : ℕ
text_abstract = 26

-- the head: a name, then a vector's width or a matrix's columns and rows
unfoldable pub head_text : Entry → List ℕ
head_text e =
    cond (eqb e.kind kind_vec) (text_of e.kind ++ decimal e.p)
    (cond (eqb e.kind kind_mat) (text_of e.kind ++ decimal e.p ++ ascii "x" ++ decimal e.q)
    (text_of e.kind))

-- what stands between the head and the elem: `<`, and the space of a pointer or a reference
unfoldable pub opening : Entry → List ℕ
opening e = cond (eqb e.kind kind_ptr || eqb e.kind kind_ref) (ascii "<" ++ text_of (text_spaces + e.p) ++ ascii ",") (ascii "<")

-- what stands after the elem: the count of an array or the access of a pointer or a reference, and `>`
unfoldable pub last_of : Entry → List ℕ
last_of e =
    cond (eqb e.kind kind_array) (ascii "," ++ decimal e.p)
    (cond (eqb e.kind kind_ptr || eqb e.kind kind_ref) (ascii "," ++ text_of (text_accesses + e.q))
    [])

unfoldable pub closing : Entry → List ℕ
closing e = last_of e ++ ascii ">"

-- the arguments of entry i
abbrev pub args_of : List ℕ → ℕ → List ℕ
args_of w i = opening (entry_at w i) ++ spelling (type_at w (entry_at w i).elem) ++ closing (entry_at w i)

-- what a result type's name says of `fract`: a scalar, or a vector's width and scalar
unfoldable pub fract_text : ℕ → List ℕ
fract_text s = cond (eqb s abstract_float) (text_of text_abstract) (text_of s)

unfoldable pub fract_part : Entry → List ℕ
fract_part e = cond (eqb e.kind kind_vec) (head_text e ++ ascii "_" ++ fract_text e.elem) (fract_text e.kind)

-- more bytes than an entry puts before its arguments, and than its arguments have around its elem
abbrev pub half : ℕ
half = 2 ^ 34

abbrev pub span : ℕ
span = 2 ^ 35
