-- How much room is missing (document 02, K2), of template types. Assumes nothing.
use Prim.Native.Nat.{ℕ, ◌<◌}
use mathlib.Core.Path.{◌≡◌, refl, ap}
use mathlib.Core.Bool.{Bool, true, false, ◌&&◌, cond}
use mathlib.Core.List.{List}
use lib.Dec.{eqb, leb}
use lib.IntN.{ℤ, pos, negsuc}
use Rattle.conv.specs.Types.{Ty}
use Rattle.answer.specs.Answer.{reason_no}
use Rattle.table.specs.Table.{Sound}
use Rattle.table.specs.Denote.{type_at}
use Rattle.table.specs.Placing.{entering}
use Rattle.table.specs.Lacking.{Longer, Grown}
use Rattle.answer.specs.declared.TypeNo.{TypeNo}
use Rattle.answer.specs.declared.Reason.{Reason}
use Rattle.answer.specs.declared.Reason.TheVariants.{NoSuchType, Count}
use Rattle.std.specs.Prelude.{Option, Some, None, Result, Ok, Err}
use Rattle.table.proofs.Growing.{grown-refused, grown-passed, grown-as, grown-sound, grown-entering, type-longer}
use Rattle.tplt.specs.Heads.{head_of}
use Rattle.tplt.specs.Params.{params_of, types_known, arguments_of, count_z, count_of}
use Rattle.tplt.specs.Templates.{component, is_concrete, vec_parsed, is_matrix_component, mat_parsed, is_atomic_component, atomic_parsed, is_element, of_count, counted, array_of, array_of_type, array_parsed, parsed_of, type_of, outcome_of, template_outcome}
use Rattle.tplt.specs.inner.Steps.{Below, number_in}
use Rattle.tplt.specs.declared.head.Head.{Head}
use Rattle.tplt.specs.declared.head.Head.TheVariants.{Vector, Matrix, Atomic, Array}
use Rattle.tplt.specs.declared.param.Arguments.{Arguments}
use Rattle.tplt.specs.declared.param.Arguments.TheVariants.{One, Two}
use Rattle.tplt.specs.declared.param.TpltParam.{TpltParam}
use Rattle.tplt.specs.declared.param.TpltParam.TheVariants.{Typed, NoType, AbstractInt, I32, U32, Other}
use Rattle.tplt.specs.declared.Parsed.{Parsed}
use Rattle.tplt.specs.declared.Parsed.TheVariants.{OfVec, OfMat, OfAtomic, OfArray}
use Rattle.tplt.proofs.TemplateLaws.{Fits}
use Rattle.tplt.proofs.OutcomeLaws.{list-below, call-fits}

-- A WRONG TEMPLATE is refused with another number than 9

abbrev Apart : Result Parsed Reason → Type 0
Apart (Ok p) = Unit {0}
Apart (Err r) = eqb (reason_no r) 9 ≡ false

either : (b : Bool) (p q : Result Parsed Reason) → Apart p → Apart q → Apart (cond b p q)
either true p q x y = x
either false p q x y = y

component-apart : (test : ℕ → Bool) (make : TypeNo → Parsed) (a : Option Arguments) → Apart (component test make a)
component-apart test make (Some (One t)) = either (test t.0) _ _ tt refl
component-apart test make (Some (Two t p)) = refl
component-apart test make None = refl

-- a count that is none is refused with 6
z-apart : (t : TypeNo) (z : ℤ) → Apart (of_count t (count_z z))
unfolding count_z
z-apart t (pos k) = go (leb 1 k && leb k 4294967295)
  where
    go : (b : Bool) → Apart (of_count t (cond b (Ok k) (Err Count)))
    go true = tt
    go false = refl
z-apart t (negsuc k) = refl

counted-apart : (t : TypeNo) (p : Option TpltParam) → Apart (counted t p)
unfolding count_of
counted-apart t None = tt
counted-apart t (Some (Typed u)) = refl
counted-apart t (Some NoType) = refl
counted-apart t (Some (AbstractInt z)) = z-apart t z
counted-apart t (Some (I32 z)) = z-apart t z
counted-apart t (Some (U32 k)) = z-apart t (pos k)
counted-apart t (Some Other) = refl

array-apart : (w : List ℕ) (t : TypeNo) (p : Option TpltParam) → Apart (array_of_type w t p)
unfolding array_of_type
array-apart w t p = either (is_element (type_at w t.0)) _ _ (counted-apart t p) refl

apart : (w : List ℕ) (h : Option Head) (a : Option Arguments) → Apart (parsed_of w h a)
unfolding parsed_of vec_parsed mat_parsed atomic_parsed array_parsed
apart w (Some (Vector n)) a = component-apart is_concrete _ a
apart w (Some (Matrix c r)) a = component-apart is_matrix_component _ a
apart w (Some Atomic) a = component-apart is_atomic_component _ a
apart w (Some Array) (Some (One t)) = array-apart w t None
apart w (Some Array) (Some (Two t p)) = array-apart w t (Some p)
apart w (Some Array) None = refl
apart w None a = refl

module _ (w v : List ℕ) (n k : ℕ) (l : Longer w v n k) where
  -- the head and the list come to the same
  parsed-longer : (h : Option Head) (a : Option Arguments) → Below n a → parsed_of v h a ≡ parsed_of w h a
  unfolding parsed_of array_parsed array_of_type
  parsed-longer (Some (Vector m)) a b = refl
  parsed-longer (Some (Matrix c r)) a b = refl
  parsed-longer (Some Atomic) a b = refl
  parsed-longer (Some Array) (Some (One t)) b = rw (type-longer w v n k l t.0 b)
  parsed-longer (Some Array) (Some (Two t p)) b = rw (type-longer w v n k l t.0 b)
  parsed-longer (Some Array) None b = refl
  parsed-longer None a b = refl

  -- and so does its outcome
  module _ (s : Sound w n) where
    entered : (R R' : Ty) → R' ≡ R → Grown w n k (entering 0 w n R) (entering 0 v n R')
    entered R R' e = grown-as w n k refl (ap (entering 0 v n) e) (grown-entering w v n k l s 0 R)

    parsed-grown : (p : Parsed) → number_in p < n → Grown w n k (entering 0 w n (type_of w p)) (entering 0 v n (type_of v p))
    unfolding type_of
    parsed-grown (OfVec t) b = entered _ _ refl
    parsed-grown (OfMat t) b = entered _ _ refl
    parsed-grown (OfAtomic t) b = entered _ _ refl
    parsed-grown (OfArray t) b = entered _ _ (ap (array_of t.n) (type-longer w v n k l t.ty.0 b))

    outcome-grown : (x : Result Parsed Reason) → Apart x → Fits w n x → Grown w n k (outcome_of w n x) (outcome_of v n x)
    unfolding outcome_of
    outcome-grown (Ok p) o f = parsed-grown p f.below
    outcome-grown (Err r) o f = grown-refused w n k r o 0 _

  pub template-grown : (head : List ℕ) (args : List ℤ) → Grown w n k (template_outcome w n head args) (template_outcome v n head args)
  unfolding template_outcome
  template-grown head args =
      grown-sound w v n k l _ _ _
      (λ s. grown-passed w n k (types_known (params_of n args)) NoSuchType refl 0 _ _ _
      (λ _.
      let a = arguments_of n args in
      let p = parsed_of w (head_of head) a in
      grown-as w n k refl (ap (outcome_of v n) (parsed-longer (head_of head) a (list-below w n head args s a refl)))
      (outcome-grown s p (apart w (head_of head) a) (call-fits w n head args s (head_of head) refl a refl p refl))))
