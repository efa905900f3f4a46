-- What the inner functions promise: a head by its number, the entry of a template, and what is known of a template before it is entered.
-- The promise of a call is read without it. Assumes nothing.
use Rattle.std.specs.Prelude.{ℕ, ◌+◌, ◌*◌, ◌<◌, ◌≡◌, true, cond, List, [], ◌∷◌, eqb, get_or, ℤ, pos, Option, Some, None, Result, Ok, Err}
use Rattle.conv.specs.Types.{formed}
use Rattle.table.specs.Table.{kind_vec, kind_mat, kind_array, kind_runtime, kind_atomic}
use Rattle.table.specs.declared.Entry.{Entry}
use Rattle.answer.specs.declared.TypeNo.{TypeNo}
use Rattle.answer.specs.declared.Answer.{Answer}
use Rattle.answer.specs.declared.Reason.{Reason}
use Rattle.answer.specs.declared.Reason.TheVariants.{Template}
use Rattle.tplt.specs.declared.head.Head.{Head}
use Rattle.tplt.specs.declared.param.TpltParam.{TpltParam}
use Rattle.tplt.specs.declared.param.Arguments.{Arguments}
use Rattle.tplt.specs.declared.param.Arguments.TheVariants.{One, Two}
use Rattle.tplt.specs.declared.VecTemplate.{VecTemplate}
use Rattle.tplt.specs.declared.MatTemplate.{MatTemplate}
use Rattle.tplt.specs.declared.AtomicTemplate.{AtomicTemplate}
use Rattle.tplt.specs.declared.ArrayTemplate.{ArrayTemplate}
use Rattle.tplt.specs.declared.Parsed.{Parsed}
use Rattle.tplt.specs.declared.Parsed.TheVariants.{OfVec, OfMat, OfAtomic, OfArray}
use Rattle.tplt.specs.Heads.{head_name}
use Rattle.tplt.specs.Params.{param_of}
use Rattle.tplt.specs.Templates.{type_of, outcome_of}

-- a name as a number, its bytes from the last to the first after a 1, and the one of these heads whose name has the number
abbrev pub longest : ℕ
longest = 6

unfoldable pub key_of : List ℕ → ℕ
key_of [] = 1
key_of (b ∷ name) = key_of name * 256 + b

unfoldable pub head_at : List Head → ℕ → Option Head
head_at [] key = None
head_at (h ∷ hs) key = cond (eqb key (key_of (head_name h))) (Some h) (head_at hs key)

-- the argument of the pair at a place
abbrev pub param_at : ℕ → List ℤ → ℕ → TpltParam
param_at n args at = param_of n (get_or args at (pos 0)) (get_or args (at + 1) (pos 0))

-- the type of a list that is a type alone
abbrev pub alone_in : Option Arguments → Result TypeNo Reason
alone_in (Some (One t)) = Ok t
alone_in (Some (Two t p)) = Err Template
alone_in None = Err Template

-- the entry of a template
abbrev pub vec_entry : VecTemplate → Entry
vec_entry t = record { kind = kind_vec; p = t.n; q = 0; elem = t.ty.0 }

abbrev pub mat_entry : MatTemplate → Entry
mat_entry t = record { kind = kind_mat; p = t.c; q = t.r; elem = t.ty.0 }

abbrev pub atomic_entry : AtomicTemplate → Entry
atomic_entry t = record { kind = kind_atomic; p = 0; q = 0; elem = t.ty.0 }

abbrev pub count_entry : Option ℕ → ℕ → Entry
count_entry (Some k) t = record { kind = kind_array; p = k; q = 0; elem = t }
count_entry None t = record { kind = kind_runtime; p = 0; q = 0; elem = t }

abbrev pub array_entry : ArrayTemplate → Entry
array_entry t = count_entry t.n t.ty.0

abbrev pub entry_in : Parsed → Entry
entry_in (OfVec t) = vec_entry t
entry_in (OfMat t) = mat_entry t
entry_in (OfAtomic t) = atomic_entry t
entry_in (OfArray t) = array_entry t

-- an argument's number is below n, and so is a template's, whose type is formed
abbrev pub Below : ℕ → Option Arguments → Type 0
Below n (Some (One t)) = t.0 < n
Below n (Some (Two t p)) = t.0 < n
Below n None = Unit {0}

abbrev pub number_in : Parsed → ℕ
number_in (OfVec t) = t.ty.0
number_in (OfMat t) = t.ty.0
number_in (OfAtomic t) = t.ty.0
number_in (OfArray t) = t.ty.0

pub record Fit (w : List ℕ) (n : ℕ) (p : Parsed) : Type 0 where
  pub below : number_in p < n
  pub good : formed (type_of w p) ≡ true

-- the outcome of a template
pub record Outcomes (w : List ℕ) (n : ℕ) (p : Parsed) (r : Answer) (after : List ℕ) : Type 0 where
  pub outcome : record { answer = r; words = after } ≡ outcome_of w n (Ok p)
