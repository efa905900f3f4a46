-- Document 01, "The type table": a lent slice of words w and a used count n. Assumes nothing.
use Rattle.std.specs.Prelude.{ℕ, zero, suc, ◌+◌, ◌*◌, ◌≤◌, ◌<◌, Bool, true, false, ◌&&◌, ◌||◌, not, cond, ◌≡◌, List, length, get_or, set, leb, ltb, eqb, Option, Some, None}
use Rattle.conv.specs.Types.{i32, u32, storage, handle, read_write, is_float, is_abstract, is_width}
use Rattle.table.specs.Tools.{all_below}
use Rattle.table.specs.declared.Entry.{Entry}
use Rattle.answer.specs.declared.TypeNo.{TypeNo}

-- "Entry i is the four words kind, p, q, elem": how many words an entry has
abbrev pub stride : ℕ
stride = 4

-- "a used count n, from 7 to 256": the scalars, which every table has, and the most entries
abbrev pub scalars : ℕ
scalars = 7

abbrev pub ceiling : ℕ
ceiling = 256

-- the kinds above the scalars
abbrev pub kind_vec : ℕ
kind_vec = 7

abbrev pub kind_mat : ℕ
kind_mat = 8

abbrev pub kind_array : ℕ
kind_array = 9

abbrev pub kind_runtime : ℕ
kind_runtime = 10

abbrev pub kind_atomic : ℕ
kind_atomic = 11

abbrev pub kind_ptr : ℕ
kind_ptr = 12

abbrev pub kind_ref : ℕ
kind_ref = 13

abbrev pub kind_frexp : ℕ
kind_frexp = 14

abbrev pub kind_modf : ℕ
kind_modf = 15

-- document 02, K5: the result of atomicCompareExchangeWeak
abbrev pub kind_exchange : ℕ
kind_exchange = 16

-- entry i
abbrev pub entry_at : List ℕ → ℕ → Entry
entry_at w i =
    record {
      kind = get_or w (i * stride) 0;
      p = get_or w (i * stride + 1) 0;
      q = get_or w (i * stride + 2) 0;
      elem = get_or w (i * stride + 3) 0;
    }

-- w with e as its entry i
abbrev pub put_entry : List ℕ → ℕ → Entry → List ℕ
put_entry w i e =
    set (set (set (set w (i * stride) e.kind) (i * stride + 1) e.p) (i * stride + 2) e.q) (i * stride + 3) e.elem

-- by what entries are compared
pub record Key : Type 0 where
  pub kind : ℕ
  pub p : ℕ
  pub q : ℕ
  pub elem : ℕ

abbrev pub entry_key : Entry → Key
entry_key e = record { kind = e.kind; p = e.p; q = e.q; elem = e.elem }

-- two entries have one key
abbrev pub sameb : Entry → Entry → Bool
sameb a b = eqb a.kind b.kind && eqb a.p b.p && eqb a.q b.q && eqb a.elem b.elem

-- "unused words are 0", where p and q are unused
abbrev pub words_unused : Entry → Bool
words_unused e = eqb e.p 0 && eqb e.q 0

-- a kind of elem: no pointer or reference; and no array without count either
abbrev pub stored : ℕ → Bool
stored ek = not (eqb ek kind_ptr) && not (eqb ek kind_ref)

abbrev pub sized : ℕ → Bool
sized ek = stored ek && not (eqb ek kind_runtime)

-- kinds 0 to 6: "entries 0 to 6, in this order": entry k is scalar k
abbrev pub scalar_ok : ℕ → Entry → Bool
scalar_ok k e = eqb e.kind k && eqb e.p 0 && eqb e.q 0 && eqb e.elem 0

-- kind 7: "vector, p = 2 to 4"; "elem 0 to 6"
abbrev pub vec_row : Entry → Bool
vec_row e = is_width e.p && eqb e.q 0 && ltb e.elem scalars

-- kind 8: "matrix, p columns, q rows, 2 to 4"; "elem 2, 5 or 6"
abbrev pub mat_row : Entry → Bool
mat_row e = is_width e.p && is_width e.q && is_float e.elem

-- kind 9: "array of p (at least 1)"; "elem no pointer, reference or kind 10"
abbrev pub array_row : Entry → ℕ → Bool
array_row e ek = leb 1 e.p && eqb e.q 0 && sized ek

-- kind 10: "array without count"; elem as for kind 9
abbrev pub runtime_row : Entry → ℕ → Bool
runtime_row e ek = words_unused e && sized ek

-- kind 11: "atomic"; "elem 3 or 4"
abbrev pub atomic_row : Entry → Bool
atomic_row e = words_unused e && (eqb e.elem i32 || eqb e.elem u32)

-- kind 12: "pointer, reference: p space, q access"; "elem neither 12 nor 13, nor abstract at any depth"; handle is for references only
abbrev pub ptr_row : Entry → ℕ → ℕ → Bool
ptr_row e ek eb = leb e.p storage && leb e.q read_write && stored ek && not (is_abstract eb)

-- kind 13, likewise; "handle (references only)"
abbrev pub ref_row : Entry → ℕ → ℕ → Bool
ref_row e ek eb = leb e.p handle && leb e.q read_write && stored ek && not (is_abstract eb)

-- kinds 14, 15: "frexp result, modf result"; "elem = type of `fract`: float scalar or float vector"
abbrev pub result_row : Entry → ℕ → ℕ → Bool
result_row e ek eb = words_unused e && is_float eb && (ltb e.elem scalars || eqb ek kind_vec)

-- kind 16: "a new entry kind 16 with elem 3 or 4", as the atomic's
abbrev pub exchange_row : Entry → Bool
exchange_row e = words_unused e && (eqb e.elem i32 || eqb e.elem u32)

-- e is as its row says: ek is the kind of its elem, eb the innermost scalar of its elem
unfoldable pub row_ok : Entry → ℕ → ℕ → Bool
row_ok e ek eb =
    cond (eqb e.kind kind_vec) (vec_row e)
    (cond (eqb e.kind kind_mat) (mat_row e)
    (cond (eqb e.kind kind_array) (array_row e ek)
    (cond (eqb e.kind kind_runtime) (runtime_row e ek)
    (cond (eqb e.kind kind_atomic) (atomic_row e)
    (cond (eqb e.kind kind_ptr) (ptr_row e ek eb)
    (cond (eqb e.kind kind_ref) (ref_row e ek eb)
    (cond (eqb e.kind kind_frexp || eqb e.kind kind_modf) (result_row e ek eb)
    (cond (eqb e.kind kind_exchange) (exchange_row e) false))))))))

-- the fold over elem. What entry j comes to: a scalar by `leaf`, any other entry by `node` from what its elem comes to.
-- Where an elem does not fall, which happens in no sound table, the entry counts as a leaf
unfoldable pub chain_by : {A : Type 0} → (ℕ → A) → (Entry → A → A) → List ℕ → ℕ → ℕ → A
chain_by leaf node w zero j = leaf j
chain_by leaf node w (suc f) j =
    cond (ltb j scalars) (leaf j)
    (cond (ltb (entry_at w j).elem j) (node (entry_at w j) (chain_by leaf node w f (entry_at w j).elem)) (leaf j))

unfoldable pub chain : {A : Type 0} → (ℕ → A) → (Entry → A → A) → List ℕ → ℕ → A
chain leaf node w j = chain_by leaf node w j j

-- "at any depth": the innermost scalar of entry j
unfoldable pub base_of : List ℕ → ℕ → ℕ
base_of w j = chain (λ k. k) (λ e x. x) w j

-- "every elem in use smaller than its own number", and as its row says: an entry above the scalars, standing at number i
unfoldable pub made_ok : List ℕ → ℕ → Entry → Bool
made_ok w i e = ltb e.elem i && row_ok e (entry_at w e.elem).kind (base_of w e.elem)

-- "every entry as its row says": e at number i
unfoldable pub entry_ok : List ℕ → ℕ → Entry → Bool
entry_ok w i e = cond (ltb i scalars) (scalar_ok i e) (made_ok w i e)

abbrev pub or_else : Option TypeNo → Option TypeNo → Option TypeNo
or_else (Some t) g = Some t
or_else None g = g

-- the number of the first of the first n entries that has e's key
unfoldable pub find_in : List ℕ → ℕ → Entry → Option TypeNo
find_in w zero e = None
find_in w (suc n) e = or_else (find_in w n e) (cond (sameb (entry_at w n) e) (Some (record { 0 = n })) None)

abbrev pub is_nothing : Option TypeNo → Bool
is_nothing (Some t) = false
is_nothing None = true

-- entry i is as its row says, and equals no entry before it
abbrev pub good_at : List ℕ → ℕ → Bool
good_at w i = entry_ok w i (entry_at w i) && is_nothing (find_in w i (entry_at w i))

-- "Sound: n in range, every entry as its row says, every elem in use smaller than its own number, no two entries equal"
unfoldable pub soundb : List ℕ → ℕ → Bool
soundb w n = leb scalars n && leb n ceiling && leb (n * stride) (length w) && all_below (good_at w) n

-- the same as facts, which callers carry
pub record Sound (w : List ℕ) (n : ℕ) : Type 0 where
  pub low : scalars ≤ n
  pub high : n ≤ ceiling
  pub room : n * stride ≤ length w
  pub rows : (i : ℕ) → i < n → entry_ok w i (entry_at w i) ≡ true
  pub apart : (i j : ℕ) → j < i → i < n → entry_key (entry_at w j) ≡ entry_key (entry_at w i) → ⊥

-- the first n entries of w stand in v
abbrev pub Keeps : List ℕ → List ℕ → ℕ → Type 0
Keeps w v n = (k : ℕ) → k < n * stride → get_or v k 0 ≡ get_or w k 0

-- "The sheet", take: "a scalar kind with zero words is that scalar"; "A taken elem not below n, an array count of 0 and any
-- broken entry rule" are wrong
unfoldable pub allowedb : List ℕ → ℕ → Entry → Bool
allowedb w n e = cond (ltb e.kind scalars) (scalar_ok e.kind e) (made_ok w n e)
