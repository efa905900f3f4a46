-- `call_ty::given` meets its contract: each rule is a law of Ways. Assumes nothing.
use Rattle.call_ty.proofs.Ways.{gave-accepted, gave-none, template-some, rule-row, rule-bitcast, rule-barrier, rule-length, rule-uniform, rule-compare, rule-store, rule-load, rule-update, wants, atomic-some, given-as}
use Rattle.call_ty.proofs.Lists.{types-formed, others, others-count, types-by, first_below, others_below}
use Rattle.call_ty.specs.Calls.{template_right, operands_by, operands_of, numbers, marks_of, types}
use Rattle.names.specs.inner.Table.{meant}
use Rattle.names.specs.declared.Rule.TheVariants as code
use Rattle.answer.specs.Answer.{accept}
use Rattle.ruled.proofs.Outcomes.{gave-as}
use Rattle.ruled.specs.Call.{operand_ty, operand_tys}
use mathlib.Core.Bool.{true}
use mathlib.Core.List.{List, [], ◌∷◌}
use mathlib.Core.Logic.{⊎_elim}
use lib.ListN.{length, get_or}
use Prim.Native.Nat.{ℕ}
use native.Mathlib.Omega.{arith}
use mathlib.Core.Path.{◌≡◌, refl, sym, ◌∙◌, ap}
use Rattle.call_ty.proofs.given.Goals as goal

-- a list of none
none : (l : List ℕ) → length l ≡ 0 → l ≡ []
none [] h = refl
none (x ∷ l) h = absurd (omega arith)

-- A RULED NAME, AND `bitcast`

pub returns-in-Row : goal.returns-in-Row
unfolding meant
returns-in-Row c = let a = c.args in
    let w = a.words.now in
    let p = c.requires in
    gave-as
    (rule-row a.place.0 w a.n p.0 c.in-Row.row (types w a.tplt.now) (types w (numbers a.args.now)) (marks_of a.args.now) (types-formed w a.n p.0 (numbers a.args.now) p.2) p.6 _ c.any_running.ensures _ c.wide.ensures _ p.5
    ∙ given-as a.place.0 w a.n _ _ _ _ _ c.in-Row.is)
    c.judge_codes.ensures

one-type : (w : List ℕ) (r : code.the_data) (ts : List ℕ) → template_right (meant r) (types w ts) ≡ true → r ≡ code.Bitcast → length ts ≡ 1
unfolding meant
one-type w r ts h e = template-some w ts (sym (ap (λ (x : code.the_data). template_right (meant x) (types w ts)) e) ∙ h)

pub bounds-tplt-0 : goal.bounds-tplt-0
bounds-tplt-0 c = let a = c.args in let k = one-type a.words.now a.rule a.tplt.now c.requires.3 c.in-Bitcast.is in omega arith

pub returns-in-Bitcast : goal.returns-in-Bitcast
unfolding meant
returns-in-Bitcast c = let a = c.args in
    let w = a.words.now in
    gave-as
    (ap (λ (k : ℕ). record { answer = accept k a.n; words = w }) c.word.ensures
    ∙ rule-bitcast a.place.0 w a.n c.requires.0 a.tplt.now _ _ c.requires.1 (one-type w a.rule a.tplt.now c.requires.3 c.in-Bitcast.is)
    ∙ given-as a.place.0 w a.n _ _ _ _ _ c.in-Bitcast.is)
    (gave-accepted _ w a.n c.accepted.ensures)

-- CALLS ON MEMORY

pub returns-in-Barrier : goal.returns-in-Barrier
unfolding meant
returns-in-Barrier c = let a = c.args in
    let w = a.words.now in
    gave-as (rule-barrier a.place.0 w a.n _ _ _ ∙ given-as a.place.0 w a.n _ _ _ _ _ c.in-Barrier.is) (gave-none w a.n c.no_value.ensures)

pub bounds-args-0 : goal.bounds-args-0
unfolding operands_of operands_by meant
bounds-args-0 c = let m : length c.args.args.now ≡ 1 = wants _ _ code.ArrayLength c.requires.4 c.in-ArrayLength.is in omega arith

pub array_length-requires : goal.array_length-requires
unfolding operands_of operands_by meant
array_length-requires c = let a = c.args in
    let m : length a.args.now ≡ 1 = wants _ _ code.ArrayLength c.requires.4 c.in-ArrayLength.is in
    (c.requires.0, first_below a.args.now (omega arith) a.n c.requires.2)

pub returns-in-ArrayLength : goal.returns-in-ArrayLength
unfolding operands_of operands_by meant
returns-in-ArrayLength c = let a = c.args in
    let w = a.words.now in
    let m : length a.args.now ≡ 1 = wants _ _ code.ArrayLength c.requires.4 c.in-ArrayLength.is in
    let j = others-count a.args.now (omega arith) in
    gave-as
    (rule-length a.place.0 w a.n _ _ _ (operand_ty w (get_or a.args.now 0 0)) (operand_tys w (others a.args.now)) (types-by a.args.now (omega arith) w) (ap (operand_tys w) (none (others a.args.now) (omega arith)))
    ∙ given-as a.place.0 w a.n _ _ _ _ _ c.in-ArrayLength.is)
    c.array_length.ensures

pub bounds-args-0-in-UniformLoad : goal.bounds-args-0-in-UniformLoad
unfolding operands_of operands_by meant
bounds-args-0-in-UniformLoad c = let m : length c.args.args.now ≡ 1 = wants _ _ code.UniformLoad c.requires.4 c.in-UniformLoad.is in omega arith

pub uniform_load-requires : goal.uniform_load-requires
unfolding operands_of operands_by meant
uniform_load-requires c = let a = c.args in
    let m : length a.args.now ≡ 1 = wants _ _ code.UniformLoad c.requires.4 c.in-UniformLoad.is in
    (c.requires.0, first_below a.args.now (omega arith) a.n c.requires.2)

pub returns-in-UniformLoad : goal.returns-in-UniformLoad
unfolding operands_of operands_by meant
returns-in-UniformLoad c = let a = c.args in
    let w = a.words.now in
    let m : length a.args.now ≡ 1 = wants _ _ code.UniformLoad c.requires.4 c.in-UniformLoad.is in
    let j = others-count a.args.now (omega arith) in
    gave-as
    (rule-uniform a.place.0 w a.n _ _ _ (operand_ty w (get_or a.args.now 0 0)) (operand_tys w (others a.args.now)) (types-by a.args.now (omega arith) w) (ap (operand_tys w) (none (others a.args.now) (omega arith)))
    ∙ given-as a.place.0 w a.n _ _ _ _ _ c.in-UniformLoad.is)
    c.uniform_load.ensures

pub bounds-args-0-in-AtomicCompare : goal.bounds-args-0-in-AtomicCompare
unfolding operands_of operands_by meant
bounds-args-0-in-AtomicCompare c = let m : length c.args.args.now ≡ 3 = wants _ _ code.AtomicCompare c.requires.4 c.in-AtomicCompare.is in omega arith

pub slice_bounds-comparing-count : goal.slice_bounds-comparing-count
unfolding operands_of operands_by meant
slice_bounds-comparing-count c = let m : length c.args.args.now ≡ 3 = wants _ _ code.AtomicCompare c.requires.4 c.in-AtomicCompare.is in omega arith

pub slice_bounds-comparing-start : goal.slice_bounds-comparing-start
unfolding operands_of operands_by meant
slice_bounds-comparing-start c = let m : length c.args.args.now ≡ 3 = wants _ _ code.AtomicCompare c.requires.4 c.in-AtomicCompare.is in omega arith

pub comparing-requires : goal.comparing-requires
unfolding operands_of operands_by meant
comparing-requires c = let a = c.args in
    let m : length a.args.now ≡ 3 = wants _ _ code.AtomicCompare c.requires.4 c.in-AtomicCompare.is in
    (c.requires.0, first_below a.args.now (omega arith) a.n c.requires.2, others_below a.args.now (omega arith) a.n c.requires.2)

pub returns-in-AtomicCompare : goal.returns-in-AtomicCompare
unfolding operands_of operands_by meant
returns-in-AtomicCompare c = let a = c.args in
    let w = a.words.now in
    let m : length a.args.now ≡ 3 = wants _ _ code.AtomicCompare c.requires.4 c.in-AtomicCompare.is in
    let j = others-count a.args.now (omega arith) in
    gave-as
    (rule-compare a.place.0 w a.n _ _ _ (operand_ty w (get_or a.args.now 0 0)) (operand_tys w (others a.args.now)) (types-by a.args.now (omega arith) w) (length (others a.args.now)) (omega arith)
    ∙ given-as a.place.0 w a.n _ _ _ _ _ c.in-AtomicCompare.is)
    c.comparing.ensures

pub bounds-args-0-in-AtomicStore : goal.bounds-args-0-in-AtomicStore
unfolding operands_of operands_by meant
bounds-args-0-in-AtomicStore c = let m : length c.args.args.now ≡ 2 = wants _ _ code.AtomicStore c.requires.4 c.in-AtomicStore.is in omega arith

pub slice_bounds-storing-count : goal.slice_bounds-storing-count
unfolding operands_of operands_by meant
slice_bounds-storing-count c = let m : length c.args.args.now ≡ 2 = wants _ _ code.AtomicStore c.requires.4 c.in-AtomicStore.is in omega arith

pub slice_bounds-storing-start : goal.slice_bounds-storing-start
unfolding operands_of operands_by meant
slice_bounds-storing-start c = let m : length c.args.args.now ≡ 2 = wants _ _ code.AtomicStore c.requires.4 c.in-AtomicStore.is in omega arith

pub storing-requires : goal.storing-requires
unfolding operands_of operands_by meant
storing-requires c = let a = c.args in
    let m : length a.args.now ≡ 2 = wants _ _ code.AtomicStore c.requires.4 c.in-AtomicStore.is in
    (c.requires.0, first_below a.args.now (omega arith) a.n c.requires.2, others_below a.args.now (omega arith) a.n c.requires.2)

pub returns-in-AtomicStore : goal.returns-in-AtomicStore
unfolding operands_of operands_by meant
returns-in-AtomicStore c = let a = c.args in
    let w = a.words.now in
    let m : length a.args.now ≡ 2 = wants _ _ code.AtomicStore c.requires.4 c.in-AtomicStore.is in
    let j = others-count a.args.now (omega arith) in
    gave-as
    (rule-store a.place.0 w a.n _ _ _ (operand_ty w (get_or a.args.now 0 0)) (operand_tys w (others a.args.now)) (types-by a.args.now (omega arith) w) (length (others a.args.now)) (omega arith)
    ∙ given-as a.place.0 w a.n _ _ _ _ _ c.in-AtomicStore.is)
    c.storing.ensures

pub bounds-args-0-in-AtomicLoad : goal.bounds-args-0-in-AtomicLoad
bounds-args-0-in-AtomicLoad c = let m = atomic-some _ _ c.requires.4 c.in-AtomicLoad.is in omega arith

pub slice_bounds-on_atomic-count : goal.slice_bounds-on_atomic-count
slice_bounds-on_atomic-count c = atomic-some _ _ c.requires.4 c.in-AtomicLoad.is

pub slice_bounds-on_atomic-start : goal.slice_bounds-on_atomic-start
slice_bounds-on_atomic-start c = let m = atomic-some _ _ c.requires.4 c.in-AtomicLoad.is in omega arith

pub on_atomic-requires : goal.on_atomic-requires
on_atomic-requires c = let a = c.args in
    let m = atomic-some _ _ c.requires.4 c.in-AtomicLoad.is in
    (c.requires.0, first_below a.args.now m a.n c.requires.2, others_below a.args.now m a.n c.requires.2)

pub returns-in-AtomicLoad : goal.returns-in-AtomicLoad
unfolding operands_of operands_by meant
returns-in-AtomicLoad c = let a = c.args in
    let w = a.words.now in
    let some = atomic-some _ _ c.requires.4 c.in-AtomicLoad.is in
    let j = others-count a.args.now some in
    gave-as
    (⊎_elim
    (λ e.
    let m : length a.args.now ≡ 1 = wants _ _ code.AtomicLoad c.requires.4 e in
    rule-load a.place.0 w a.n _ _ _ (operand_ty w (get_or a.args.now 0 0)) (operand_tys w (others a.args.now)) (types-by a.args.now some w) (length (others a.args.now)) (omega arith) ∙ given-as a.place.0 w a.n _ _ _ _ _ e)
    (λ e.
    let m : length a.args.now ≡ 2 = wants _ _ code.AtomicUpdate c.requires.4 e in
    rule-update a.place.0 w a.n _ _ _ (operand_ty w (get_or a.args.now 0 0)) (operand_tys w (others a.args.now)) (types-by a.args.now some w) (length (others a.args.now)) (omega arith) ∙ given-as a.place.0 w a.n _ _ _ _ _ e)
    c.in-AtomicLoad.is)
    c.on_atomic.ensures
