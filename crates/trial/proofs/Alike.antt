-- WHAT A COPY ANSWERS: over two slices that hold the same table and leave the same room every single call answers the same; and the first 1,024 words of a slice are such a copy.
-- Assumes nothing.
use Prim.Native.Nat.{min, ℕ, zero, suc, ◌+◌, ◌-◌, ◌*◌, ◌/◌, ◌≤◌}
use mathlib.Core.Path.{◌≡◌, refl, sym, ◌∙◌, ap}
use mathlib.Core.Bool.{Bool, true, false, cond}
use mathlib.Core.List.{List, [], ◌∷◌, ◌++◌}
use native.Mathlib.Omega.{arith}
use lib.Dec.{leb, ltb, eqb}
use lib.ListN.{length, take, drop}
use lib.Seq.{get_or-take, take_all, length-take-le}
use Rattle.std.proofs.lemmas.List.{take-append-le}
use borrow.Author.Tests.{ltb-true, leb-true, leb-false, le-leb}
use Rattle.held.specs.Held.{number_of, mark_of}
use Rattle.conv.specs.Types.{Ty}
use Rattle.conv.specs.Types.Ty.{scalar, vec, mat, array, runtime, atomic, ptr, ref, frexp, modf, exchange}
use Rattle.conv.specs.Rank.{same_ty}
use Rattle.overload.specs.Overload.{Judged}
use Rattle.overload.specs.Overload.Judged.{gives, none_fits}
use Rattle.overload.specs.Marks.{running_abstract}
use Rattle.overload.specs.Rows.{Ruling, judge_by}
use Rattle.overload.specs.Rows.Ruling.{by_row}
use Rattle.names.specs.Names.{Named, rule_of}
use Rattle.names.specs.Names.Named.{rule, unknown}
use Rattle.answer.specs.declared.Typed.{Typed}
use Rattle.table.specs.Table.{stride, ceiling, or_else, entry_at, entry_key, soundb, Sound, Keeps}
use Rattle.table.specs.Enter.{free}
use Rattle.table.specs.Placing.{stands_in, Standing, or_next, placed_over, placed, Outcome, entering, GaveMarked}
use Rattle.std.specs.Prelude.{Option, Some, None}
use Rattle.answer.specs.declared.TypeNo.{TypeNo}
use Rattle.table.proofs.KindLaws.{split}
use Rattle.table.proofs.SoundLaws.{sound-of, of-sound, keeps_entry, keeps-ok}
use Rattle.table.proofs.TypeLaws.{type-keeps}
use Rattle.ruled.specs.Call.{any_reference, judged_outcome, silent_outcome, offends, ruled_outcome}
use Rattle.ops_ty.specs.Ops.{unary_ops, unary_ruling, binary_ops, binary_row, unary_outcome, binary_outcome, type_unary_op, type_binary_op}
use Rattle.call_ty.specs.Calls.{template_right, operands_of, Given, given_by, given_outcome, by_rule, call_outcome, all_under, numbers, marks_of, types, type_builtin_fn}
use Rattle.call_ty.specs.Calls.Given.{judgment, silently, nothing}
use Rattle.call_ty.specs.inner.Codes.{Under}
use Rattle.call_ty.proofs.Lists.{all_under_lem}

-- v is as sound as w, and then has the n entries of w and as many free ones
record Alike (w v : List ℕ) (n : ℕ) : Type 0 where
  sound : soundb v n ≡ soundb w n
  keeps : Sound w n → Keeps w v n
  room : free v n ≡ free w n

-- ANY OUTCOMES

-- two outcomes answer the same
abbrev Same : Outcome → Outcome → Type 0
Same o' o = o'.answer ≡ o.answer

same_test : (b : Bool) (x y x' y' : Outcome) → (b ≡ true → Same x' x) → Same y' y → Same (cond b x' y') (cond b x y)
same_test true x y x' y' p q = p refl
same_test false x y x' y' p q = q

-- THE SAME TABLE, in another slice

-- a type comes to stand at the same number, with the same used count
abbrev Level : Standing → Standing → Type 0
Level x' x = (x'.number ≡ x.number) × (x'.used ≡ x.used)

module _ (w v : List ℕ) (n : ℕ) (k : Keeps w v n) where
  stands_same : (R : Ty) (m : ℕ) → m ≤ n → stands_in v m R ≡ stands_in w m R
  unfolding stands_in
  stands_same R zero h = refl
  stands_same R (suc m) h =
      rw (stands_same R m (omega arith))
      (ap (λ (t : Ty). or_else (stands_in w m R) (cond (same_ty t R) (Some (record { 0 = m })) None)) (type-keeps w v n k m h))

  over-same : (R : Ty) (x x' : Standing) → Level x' x → Level (placed_over v n R x') (placed_over w n R x)
  unfolding placed_over
  over-same R x x' e = rw (stands_same R n (omega arith)) (go (stands_in w n R))
    where
      go : (f : Option TypeNo) → Level (or_next f n v R x') (or_next f n w R x)
      go (Some t) = (refl, refl)
      go None = (e.1, ap (λ (m : ℕ). m + 1) e.1)

  placed_same : (R : Ty) → Level (placed v n R) (placed w n R)
  unfolding placed
  placed_same (scalar c) = (refl, refl)
  placed_same (vec m c) = over-same (vec m c) _ _ (refl, refl)
  placed_same (mat c r t) = over-same (mat c r t) _ _ (refl, refl)
  placed_same (array m t) = over-same (array m t) _ _ (placed_same t)
  placed_same (runtime t) = over-same (runtime t) _ _ (placed_same t)
  placed_same (atomic c) = over-same (atomic c) _ _ (refl, refl)
  placed_same (ptr a b t) = over-same (ptr a b t) _ _ (placed_same t)
  placed_same (ref a b t) = over-same (ref a b t) _ _ (placed_same t)
  placed_same (frexp t) = over-same (frexp t) _ _ (placed_same t)
  placed_same (modf t) = over-same (modf t) _ _ (placed_same t)
  placed_same (exchange c) = over-same (exchange c) _ _ (refl, refl)

  types_same : (ts : List ℕ) → Under n ts → types v ts ≡ types w ts
  types_same [] u = refl
  types_same (t ∷ ts) u = λ i. type-keeps w v n k t (u 0 (omega arith)) i ∷ types_same ts (λ j h. u (suc j) (omega arith)) i

  -- CALLS ON LOADED OPERANDS, where as much is free
  module _ (f : free v n ≡ free w n) (place : ℕ) where
    entering-same : (R : Ty) → Same (entering place v n R) (entering place w n R)
    unfolding entering
    entering-same R = let p = placed_same R in rw (p.0, p.1, f) (same_test (leb ((placed w n R).used - n) (free w n)) _ _ _ _ (λ _. refl) refl)

    judged-same : (j : Judged) → Same (judged_outcome place v n j) (judged_outcome place w n j)
    unfolding judged_outcome
    judged-same (gives R) = entering-same R
    judged-same none_fits = refl

    silent-same : (j : Judged) → Same (silent_outcome place v n j) (silent_outcome place w n j)
    unfolding silent_outcome
    silent-same (gives R) = refl
    silent-same none_fits = refl

    ruled-same : (r : Ruling) (ts : List Ty) (ms : List Bool) → Same (ruled_outcome place v n r ts ms) (ruled_outcome place w n r ts ms)
    unfolding ruled_outcome
    ruled-same r ts ms = same_test (offends r ts) _ _ _ _ (λ _. refl) (same_test (running_abstract ts ms) _ _ _ _ (λ _. refl) (judged-same (judge_by r ts ms)))

    unary-same : (op : ℕ) (t : Ty) (m : Bool) → Same (unary_outcome place v n op t m) (unary_outcome place w n op t m)
    unfolding unary_outcome
    unary-same op t m = same_test (ltb op unary_ops) _ _ _ _ (λ _. ruled-same (unary_ruling op) (t ∷ []) (m ∷ [])) refl

    binary-same : (op : ℕ) (t u : Ty) (m j : Bool) → Same (binary_outcome place v n op t u m j) (binary_outcome place w n op t u m j)
    unfolding binary_outcome
    binary-same op t u m j = same_test (ltb op binary_ops) _ _ _ _ (λ _. ruled-same (by_row (binary_row op)) (t ∷ u ∷ []) (m ∷ j ∷ [])) refl

    given-same : (g : Given) → Same (given_outcome place v n g) (given_outcome place w n g)
    unfolding given_outcome
    given-same (judgment j) = judged-same j
    given-same (silently j) = silent-same j
    given-same nothing = refl

    rule-same : (named : Named) (ts us : List Ty) (ms : List Bool) → Same (by_rule place v n named ts us ms) (by_rule place w n named ts us ms)
    unfolding by_rule
    rule-same unknown ts us ms = refl
    rule-same (rule r runs) ts us ms =
        same_test (template_right r ts) _ _ _ _
        (λ _. same_test (eqb (length us) (operands_of r)) _ _ _ _
        (λ _. same_test (any_reference us) _ _ _ _ (λ _. refl)
        (same_test (running_abstract us ms) _ _ _ _ (λ _. refl) (given-same (given_by r ts us ms))))
        refl)
        refl

-- SINGLE CALLS

module _ (w v : List ℕ) (n : ℕ) (a : Alike w v n) where
  -- a call that judges the table first
  same-sound : (x y x' y' : Outcome) → (Sound w n → Same x' x) → Same y' y → Same (cond (soundb v n) x' y') (cond (soundb w n) x y)
  same-sound x y x' y' p q = rw a.sound (same_test (soundb w n) x y x' y' (λ b. p (sound-of w n b)) q)

  unary-alike : (op t : ℕ) → Same (type_unary_op v n op t) (type_unary_op w n op t)
  unfolding type_unary_op
  unary-alike op t =
      same-sound _ _ _ _
      (λ s. same_test (ltb (number_of t) n) _ _ _ _
      (λ b.
      let k = a.keeps s in
      ap (λ (x : Ty). (unary_outcome 0 v n op x (mark_of t)).answer) (type-keeps w v n k (number_of t) (ltb-true (number_of t) n b)) ∙ unary-same w v n k a.room 0 op _ (mark_of t))
      refl)
      refl

  binary-alike : (op t u : ℕ) → Same (type_binary_op v n op t u) (type_binary_op w n op t u)
  unfolding type_binary_op
  binary-alike op t u =
      same-sound _ _ _ _
      (λ s. same_test (ltb (number_of t) n) _ _ _ _
      (λ b. same_test (ltb (number_of u) n) _ _ _ _
      (λ d.
      let k = a.keeps s in
      (λ i. (binary_outcome 0 v n op (type-keeps w v n k (number_of t) (ltb-true (number_of t) n b) i) (type-keeps w v n k (number_of u) (ltb-true (number_of u) n d) i) (mark_of t) (mark_of u)).answer)
      ∙ binary-same w v n k a.room 0 op _ _ (mark_of t) (mark_of u))
      refl)
      refl)
      refl

  builtin-alike : (profile : ℕ) (name tplt args : List ℕ) → Same (type_builtin_fn profile v n name tplt args) (type_builtin_fn profile w n name tplt args)
  unfolding type_builtin_fn
  builtin-alike profile name tplt args =
      same-sound _ _ _ _
      (λ s. same_test (all_under n tplt) _ _ _ _
      (λ b. same_test (all_under n (numbers args)) _ _ _ _
      (λ d.
      let k = a.keeps s in
      (λ i. (call_outcome profile 0 v n name (types_same w v n k tplt (all_under_lem n tplt b) i) (types_same w v n k (numbers args) (all_under_lem n (numbers args) d) i) (marks_of args)).answer)
      ∙ rule-same w v n k a.room 0 (rule_of profile name) _ _ (marks_of args))
      refl)
      refl)
      refl

-- THE FIRST 1,024 WORDS

-- soundness goes with the entries, where the slice is long enough
keeps-sound : (w v : List ℕ) (n : ℕ) → Keeps w v n → n * stride ≤ length v → Sound w n → Sound v n
keeps-sound w v n k room s =
    record {
      low = s.low;
      high = s.high;
      room = room;
      rows = λ i h. rw (keeps_entry w v n k i h, keeps-ok w v n k i (entry_at w i) (omega arith)) (s.rows i h);
      apart = λ i j h m q. s.apart i j h m (sym (ap entry_key (keeps_entry w v n k j (omega arith))) ∙ q ∙ ap entry_key (keeps_entry w v n k i m));
    }

-- two tests that come to the same
both : (a b : Bool) → (a ≡ true → b ≡ true) → (b ≡ true → a ≡ true) → b ≡ a
both true b f g = f refl
both false true f g = sym (g refl)
both false false f g = refl

module _ (w : List ℕ) (n : ℕ) where
  abbrev v : List ℕ
  v = take 1024 w

  copied : n ≤ ceiling → Keeps w v n
  copied h k l = get_or-take 1024 w k 0 (omega arith)

  -- a slice of more words
  module _ (l : 1024 ≤ length w) where
    long : length v ≡ 1024
    long = length-take-le 1024 w l

    sound-copied : soundb v n ≡ soundb w n
    sound-copied =
        both (soundb w n) (soundb v n)
        (λ b. let s = sound-of w n b in of-sound v n (keeps-sound w v n (copied s.high) (let h = s.high in let e = long in omega arith) s))
        (λ b. let s = sound-of v n b in of-sound w n (keeps-sound v w n (λ k h. sym (copied s.high k h)) (let h = s.high in omega arith) s))

    room-copied : free v n ≡ free w n
    unfolding free
    room-copied = rw (long, le-leb ceiling (length w / stride) (omega arith))

  alike-copied : Alike w v n
  alike-copied =
      split (leb 1024 (length w))
      (λ b. let l = leb-true 1024 (length w) b in record { sound = sound-copied l; keeps = λ s. copied s.high; room = room-copied l })
      (λ b.
      let e : v ≡ w = take_all 1024 w (let h = leb-false 1024 (length w) b in omega arith) in
      record { sound = ap (λ (x : List ℕ). soundb x n) e; keeps = λ s. copied s.high; room = ap (λ (x : List ℕ). free x n) e })

-- the part of a room that the copy fills, whatever stands behind it
pub filled : (w p y : List ℕ) (k : ℕ) → k ≡ min (length w) 1024 → p ≡ take k w → take k (p ++ y) ≡ take 1024 w
filled w p y k e h =
    let l : length p ≡ k = ap length h ∙ length-take-le k w (omega (arith, e)) in
    let s : take k (p ++ y) ≡ take k w = take-append-le k p y (omega arith) ∙ take_all k p (omega arith) ∙ h in
    s ∙ split (leb 1024 (length w))
    (λ b. let y = leb-true 1024 (length w) b in let q : k ≡ 1024 = omega (arith, e) in ap (λ i. take i w) q)
    (λ b. let y = leb-false 1024 (length w) b in take_all k w (omega (arith, e)) ∙ sym (take_all 1024 w (omega arith)))

-- WHAT A CALL GAVE over the part p, which is the copy
module _ (w p : List ℕ) (n : ℕ) (e : p ≡ take 1024 w) (m : Bool) (r : Typed) (after : List ℕ) where
  told : (f : List ℕ → Outcome) → ((v : List ℕ) → Alike w v n → Same (f v) (f w)) → GaveMarked (f p) m r after → r.answer ≡ (f w).answer
  told f same g = ap (λ (t : Typed). t.answer) g.reply ∙ ap (λ (x : List ℕ). (f x).answer) e ∙ same (take 1024 w) (alike-copied w n)

  pub unary-copied : (op t : ℕ) → GaveMarked (type_unary_op p n op t) m r after → r.answer ≡ (type_unary_op w n op t).answer
  unary-copied op t = told (λ x. type_unary_op x n op t) (λ v a. unary-alike w v n a op t)

  pub binary-copied : (op t u : ℕ) → GaveMarked (type_binary_op p n op t u) m r after → r.answer ≡ (type_binary_op w n op t u).answer
  binary-copied op t u = told (λ x. type_binary_op x n op t u) (λ v a. binary-alike w v n a op t u)

  pub builtin-copied : (profile : ℕ) (name tplt args : List ℕ) → GaveMarked (type_builtin_fn profile p n name tplt args) m r after
      → r.answer ≡ (type_builtin_fn profile w n name tplt args).answer
  builtin-copied profile name tplt args = told (λ x. type_builtin_fn profile x n name tplt args) (λ v a. builtin-alike w v n a profile name tplt args)
