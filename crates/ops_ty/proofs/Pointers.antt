-- Unary `&` and `*` on an entry of the table: their judgment by its words, and the outcome of the type they give. Assumes nothing.
use Prim.Native.Nat.{ℕ, ◌≤◌, ◌<◌}
use mathlib.Core.Path.{◌≡◌, refl, sym, ◌∙◌, ap, subst}
use mathlib.Core.Logic.{◌≢◌, ⊎_elim}
use mathlib.Core.Bool.{Bool, true, false, ◌&&◌, not}
use lib.Dec.{leb}
use mathlib.Core.List.{List}
use native.Mathlib.Omega.{arith}
use borrow.Author.Tests.{ne_eqb, leb-true}
use Rattle.conv.specs.Types.{formed, is_value, abstract_ty, storage, handle, read_write}
use Rattle.conv.specs.Types.Ty.{ptr, ref}
use Rattle.overload.specs.Overload.Judged.{gives, none_fits}
use Rattle.overload.specs.Rows.{judge_address, judge_indirection}
use Rattle.overload.proofs.Described.{address-other, indirection-other}
use Rattle.overload.proofs.Rulings.{pointer-formed, reference-formed}
use Rattle.table.specs.Table.{scalars, kind_ptr, kind_ref, entry_at, Sound}
use Rattle.table.specs.Denote.{type_at}
use Rattle.table.specs.Enter.{EnterDone, entry_answer}
use Rattle.table.specs.Placing.{turned_down, entering}
use Rattle.answer.specs.declared.Reason.TheVariants.{NoOverload}
use Rattle.table.specs.declared.Entry.{Entry}
use Rattle.std.specs.Prelude.{Result}
use Rattle.table.specs.declared.Entered.{Entered}
use Rattle.table.specs.declared.Lacks.{Lacks}
use Rattle.table.proofs.TypeLaws.{type-ptr, type-ref, kind-above, made-ptr, made-ref, row_at}
use Rattle.table.proofs.FormedLaws.{formed-at, clean}
use Rattle.table.proofs.EnterLaws.{allow, ty-made}
use Rattle.table.proofs.PlacingLaws.{enter-outcome}
use Rattle.ruled.specs.Call.{judged_outcome}
use Rattle.ruled.proofs.Loaded.{is_pointer_lem, is-reference}
use Rattle.ops_ty.specs.inner.Turn.{Turns, judge_from}

first_of : (a b c d f : Bool) → (a && b && c && d && f) ≡ true → a ≡ true
first_of true b c d f h = refl
first_of false b c d f h = h

-- the same words under another kind
abbrev pub under : ℕ → Entry → Entry
under kind e = record { kind = kind; p = e.p; q = e.q; elem = e.elem }

module _ (place : ℕ) (w : List ℕ) (n : ℕ) (s : Sound w n) (t : ℕ) (l : t < n) (e : Entry) (q : e ≡ entry_at w t) where
  kind-is : (entry_at w t).kind ≡ e.kind
  kind-is = ap (λ (x : Entry). x.kind) (sym q)

  p-is : (entry_at w t).p ≡ e.p
  p-is = ap (λ (x : Entry). x.p) (sym q)

  elem-low : scalars ≤ e.kind → e.elem < n
  elem-low h =
      let up = kind-above w n s t l (subst (λ (k : ℕ). scalars ≤ k) (sym kind-is) h) in
      let r = (row_at w n s t up l).0 in
      let m = ap (λ (x : Entry). x.elem) q in omega arith

  -- UNARY `&`

  no-reference : e.kind ≢ kind_ref → judge_address (type_at w t) ≡ none_fits
  no-reference h = address-other (type_at w t) (is-reference w n s t l ∙ ne_eqb (entry_at w t).kind kind_ref (λ k. h (sym kind-is ∙ k)))

  ref-no : e.kind ≢ kind_ref → turned_down NoOverload place w n ≡ judged_outcome place w n (judge_address (type_at w t))
  unfolding judged_outcome
  ref-no h = sym (ap (judged_outcome place w n) (no-reference h))

  module _ (k : e.kind ≡ kind_ref) where
    ref-type : type_at w t ≡ ref e.p e.q (type_at w e.elem)
    ref-type = type-ref w n s t l (kind-is ∙ k) ∙ ap (λ (x : Entry). ref x.p x.q (type_at w x.elem)) (sym q)

    handle-none : e.p ≡ handle → judge_address (type_at w t) ≡ none_fits
    unfolding judge_address
    handle-none h = rw (ref-type, h)

    ref-handle : e.p ≡ handle → turned_down NoOverload place w n ≡ judged_outcome place w n (judge_address (type_at w t))
    unfolding judged_outcome
    ref-handle h = sym (ap (judged_outcome place w n) (handle-none h))

    address_is : e.p ≢ handle → judge_address (type_at w t) ≡ gives (ptr e.p e.q (type_at w e.elem))
    unfolding judge_address
    address_is h = ap judge_address ref-type ∙ rw (ne_eqb e.p handle h)

    ptr-formed : e.p ≢ handle → formed (ptr e.p e.q (type_at w e.elem)) ≡ true
    ptr-formed h = pointer-formed e.p e.q (type_at w e.elem) (sym (ap formed ref-type) ∙ formed-at w n s t l) h

    ref-enter : e.p ≢ handle → (r : Result Entered Lacks) (v : List ℕ) → EnterDone w n (under kind_ptr e) r v
        → record { answer = entry_answer place r n; words = v } ≡ judged_outcome place w n (judge_address (type_at w t))
    unfolding judged_outcome clean
    ref-enter h r v d =
        let m = made-ptr (under kind_ptr e) (type_at w e.elem) refl in
        enter-outcome place w n s (under kind_ptr e) (allow w n s (under kind_ptr e) refl (elem-low (omega arith)) (ap formed m ∙ ptr-formed h)) r v d
        ∙ ap (entering place w n) (ty-made w (under kind_ptr e) (omega arith) ∙ m)
        ∙ sym (ap (judged_outcome place w n) (address_is h))

  -- UNARY `*`

  no_pointer : e.kind ≢ kind_ptr → judge_indirection (type_at w t) ≡ none_fits
  no_pointer h = indirection-other (type_at w t) (is_pointer_lem w n s t l ∙ ne_eqb (entry_at w t).kind kind_ptr (λ k. h (sym kind-is ∙ k)))

  ptr_no : e.kind ≢ kind_ptr → turned_down NoOverload place w n ≡ judged_outcome place w n (judge_indirection (type_at w t))
  unfolding judged_outcome
  ptr_no h = sym (ap (judged_outcome place w n) (no_pointer h))

  module _ (k : e.kind ≡ kind_ptr) where
    ptr-type : type_at w t ≡ ptr e.p e.q (type_at w e.elem)
    ptr-type = type-ptr w n s t l (kind-is ∙ k) ∙ ap (λ (x : Entry). ptr x.p x.q (type_at w x.elem)) (sym q)

    indirection-is : judge_indirection (type_at w t) ≡ gives (ref e.p e.q (type_at w e.elem))
    unfolding judge_indirection
    indirection-is = ap judge_indirection ptr-type

    ref-formed : formed (ref e.p e.q (type_at w e.elem)) ≡ true
    ref-formed = reference-formed e.p e.q (type_at w e.elem) (sym (ap formed ptr-type) ∙ formed-at w n s t l)

    ptr-enter : (r : Result Entered Lacks) (v : List ℕ) → EnterDone w n (under kind_ref e) r v
        → record { answer = entry_answer place r n; words = v } ≡ judged_outcome place w n (judge_indirection (type_at w t))
    unfolding judged_outcome clean
    ptr-enter r v d =
        let m = made-ref (under kind_ref e) (type_at w e.elem) refl in
        enter-outcome place w n s (under kind_ref e) (allow w n s (under kind_ref e) refl (elem-low (omega arith)) (ap formed m ∙ ref-formed)) r v d
        ∙ ap (entering place w n) (ty-made w (under kind_ref e) (omega arith) ∙ m)
        ∙ sym (ap (judged_outcome place w n) indirection-is)

    -- a pointer is in no space handle
    ptr-space : e.p ≢ handle
    unfolding formed
    ptr-space h =
        let f = sym (ap formed ptr-type) ∙ formed-at w n s t l in
        let k = leb-true e.p storage (first_of (leb e.p storage) (leb e.q read_write) (is_value (type_at w e.elem)) (not (abstract_ty (type_at w e.elem))) (formed (type_at w e.elem)) f) in
        omega arith

  -- BOTH

  module _ (from to : ℕ) (turns : Turns from to) where
    pub turn-no : e.kind ≢ from → turned_down NoOverload place w n ≡ judged_outcome place w n (judge_from from (type_at w t))
    unfolding judge_from
    turn-no h =
        ⊎_elim (λ q. ref-no (λ k. h (k ∙ sym q.0)) ∙ ap (λ (k : ℕ). judged_outcome place w n (judge_from k (type_at w t))) (sym q.0))
        (λ q. ptr_no (λ k. h (k ∙ sym q.0)) ∙ ap (λ (k : ℕ). judged_outcome place w n (judge_from k (type_at w t))) (sym q.0))
        turns

    pub turn-handle : e.kind ≡ from → e.p ≡ handle → turned_down NoOverload place w n ≡ judged_outcome place w n (judge_from from (type_at w t))
    unfolding judge_from
    turn-handle k h =
        ⊎_elim (λ q. ref-handle (k ∙ q.0) h ∙ ap (λ (j : ℕ). judged_outcome place w n (judge_from j (type_at w t))) (sym q.0)) (λ q. absurd (ptr-space (k ∙ q.0) h)) turns

    pub turn-enter : e.kind ≡ from → e.p ≢ handle → (r : Result Entered Lacks) (v : List ℕ) → EnterDone w n (under to e) r v
        → record { answer = entry_answer place r n; words = v } ≡ judged_outcome place w n (judge_from from (type_at w t))
    unfolding judge_from
    turn-enter k h r v d =
        ⊎_elim
        (λ q. ref-enter (k ∙ q.0) h r v (subst (λ (j : ℕ). EnterDone w n (under j e) r v) q.1 d) ∙ ap (λ (j : ℕ). judged_outcome place w n (judge_from j (type_at w t))) (sym q.0))
        (λ q. ptr-enter (k ∙ q.0) r v (subst (λ (j : ℕ). EnterDone w n (under j e) r v) q.1 d) ∙ ap (λ (j : ℕ). judged_outcome place w n (judge_from j (type_at w t))) (sym q.0))
        turns
