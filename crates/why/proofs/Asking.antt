-- From the answer of a call to what there is to tell of it, and from that to the promise of a host's call. Assumes nothing.
use Prim.Native.Nat.{ℕ, ◌<◌}
use native.Mathlib.Omega.{arith}
use mathlib.Core.Path.{◌≡◌, refl, sym, ◌∙◌, ap, subst}
use mathlib.Core.Bool.{Bool, true, false, cond}
use mathlib.Core.List.{List, [], ◌∷◌}
use lib.Dec.{eqb, leb}
use lib.ListN.{length, get_or}
use Rattle.conv.specs.Types.{Ty}
use Rattle.text.specs.Text.{Put}
use Rattle.overload.specs.Rows.{Ruling}
use Rattle.overload.specs.Rows.Ruling.{by_row}
use Rattle.names.specs.Names.{Rule, Named, rule_of}
use Rattle.names.specs.Names.Rule.{ruling, storing, bitcast, barrier}
use Rattle.names.specs.Names.Named.{rule, unknown}
use Rattle.names.specs.inner.Table.{numbered}
use Rattle.answer.specs.Answer.{reason_no}
use Rattle.answer.specs.declared.Reason.TheVariants.{TooLong}
use Rattle.answer.specs.declared.TypeNo.{TypeNo}
use Rattle.answer.specs.declared.Refusal.{Refusal}
use Rattle.answer.specs.declared.Answer.{Answer}
use Rattle.answer.specs.declared.Answer.TheVariants as answers
use Rattle.table.specs.Placing.{Outcome}
use Rattle.ops_ty.specs.Ops.{unary_ruling, binary_row, type_unary_op, type_binary_op}
use Rattle.call_ty.specs.Calls.{marks_of, type_builtin_fn}
use Rattle.spell.specs.Reply.{spelled_numbers, refuse_spelling, refusal_numbers}
use Rattle.spell.specs.Reply.{Spelled}
use Rattle.std.specs.Prelude.{Ok, Err}
use Rattle.reasons.specs.Reasons.{together, refused_pieces, accepted_pieces, pieces}
use Rattle.reasons.specs.inner.Told.{ruling_of, types_of, Told}
use Rattle.why.specs.Why.{by_answer, tell_by, unary_pieces, binary_pieces, ruled_pieces, call_pieces, written_reply, why_reply, written_numbers, why_numbers, why_bytes, WhyDone}
use Rattle.std.proofs.Common.{Option, Some, None, Ok, Err}
use Rattle.std.specs.Bool.{then_some}
use Rattle.why.specs.declared.Verdict.{Verdict}
use Rattle.why.specs.inner.Asks.{Asked, said, has_ruling, Tells, asked_pieces, asked_reply, Asks, Telling}
use Rattle.why.proofs.Rules.{JudgedBy, judged-by}
use Rattle.why.proofs.Judging.{telling, accepting, Known, unary-tells, binary-tells, call-tells}

-- what a rule said, and where nothing is told
abbrev Tell : ℕ → Bool → Asked
Tell k b = Ok (said (Some k) b)

abbrev Nothing : Asked
Nothing = Ok None

-- what is told by a rule, or without one
abbrev told_by : Answer → Option ℕ → Asked
told_by a k = by_answer a (Ok (said k true)) (Ok (said k false)) (λ r. Err r)

module _ (w : List ℕ) (n : ℕ) (args : List ℕ) where
  -- by a rule whose ruling is r, where the answer is told about
  module _ (k : ℕ) (r : Ruling) where
    abbrev Tellable : Bool → Bool → Type 0
    Tellable b accepted = b ≡ true → (ruling_of k ≡ r) × Told w n k accepted args

    refused-tells : (b : Bool) (q : Refusal) → Tellable b false → Tells w n args (cond b (Tell k false) (Err q))
    unfolding Tells
    refused-tells true q f = (f refl).1
    refused-tells false q f = tt

    refused-pieces : (b : Bool) (q : Refusal) → Tellable b false → asked_pieces w args (cond b (Tell k false) (Err q)) ≡ cond b (refused_pieces r (types_of w args)) []
    unfolding asked_pieces pieces
    refused-pieces true q f = ap (λ (x : Ruling). refused_pieces x (types_of w args)) (f refl).0
    refused-pieces false q f = refl

    refused-reply : (b : Bool) (q : Refusal) (text out : List ℕ) → asked_reply n (cond b (Tell k false) (Err q)) text out ≡ cond b (written_reply n text out) (Err q)
    unfolding asked_reply
    refused-reply true q text out = refl
    refused-reply false q text out = refl

    asks-told : (a : Answer) → Tellable (telling a) (accepting a) → Asks w n args (tell_by a r (types_of w args) (marks_of args)) a (told_by a (Some k))
    unfolding by_answer tell_by Tells asked_pieces asked_reply why_reply pieces telling accepting
    asks-told (answers.Value t m) f = record { tells = (f refl).1; pieces = ap (λ (x : Ruling). accepted_pieces x (types_of w args) (marks_of args)) (f refl).0; reply = λ text out. refl }
    asks-told (answers.NoValue m) f = record { tells = (f refl).1; pieces = ap (λ (x : Ruling). accepted_pieces x (types_of w args) (marks_of args)) (f refl).0; reply = λ text out. refl }
    asks-told (answers.Refused q) f =
        let b = eqb (reason_no q.reason) 8 in
        record { tells = refused-tells b q f; pieces = refused-pieces b q f; reply = λ text out. refused-reply b q text out }

    -- what is known of a call by the ruling is known by its number
    told : (o : Outcome) → ruling_of k ≡ r → Known w n r args o → Told w n k (accepting o.answer) args
    told o e f = subst (λ (x : Ruling). Known w n x args o → Told w n k (accepting o.answer) args) e (λ g. record { sound = g.sound; under = g.under; count = g.count; clash = g.clash; gave = g.judging.gave; none = g.judging.none }) f

  -- nothing
  no_tells : (b : Bool) (q : Refusal) → Tells w n args (cond b Nothing (Err q))
  unfolding Tells
  no_tells true q = tt
  no_tells false q = tt

  no_pieces : (b : Bool) (q : Refusal) → asked_pieces w args (cond b Nothing (Err q)) ≡ []
  unfolding asked_pieces
  no_pieces true q = refl
  no_pieces false q = refl

  no-reply : (b : Bool) (q : Refusal) (text out : List ℕ) → asked_reply n (cond b Nothing (Err q)) text out ≡ cond b (written_reply n text out) (Err q)
  unfolding asked_reply
  no-reply true q text out = refl
  no-reply false q text out = refl

  asks_nothing : (a : Answer) → Asks w n args [] a (told_by a None)
  unfolding by_answer Tells asked_pieces asked_reply why_reply
  asks_nothing (answers.Value t m) = record { tells = tt; pieces = refl; reply = λ text out. refl }
  asks_nothing (answers.NoValue m) = record { tells = tt; pieces = refl; reply = λ text out. refl }
  asks_nothing (answers.Refused q) =
      let b = eqb (reason_no q.reason) 8 in
      record { tells = no_tells b q; pieces = no_pieces b q; reply = λ text out. no-reply b q text out }

-- CASE BY CASE of an answer, and of what is asked

module _ {A : Type 0} (x y : A) (z : Refusal → A) (a : Answer) where
  pub by_value : {t : TypeNo} {m : ℕ} → a ≡ answers.Value t m → x ≡ by_answer a x y z
  unfolding by_answer
  by_value e = sym (ap (λ (b : Answer). by_answer b x y z) e)

  pub by-none : {m : ℕ} → a ≡ answers.NoValue m → x ≡ by_answer a x y z
  unfolding by_answer
  by-none e = sym (ap (λ (b : Answer). by_answer b x y z) e)

  pub by-eight : (q : Refusal) → a ≡ answers.Refused q → eqb (reason_no q.reason) 8 ≡ true → y ≡ by_answer a x y z
  unfolding by_answer
  by-eight q e h = rw (e, h)

  pub by-other : (q : Refusal) → a ≡ answers.Refused q → eqb (reason_no q.reason) 8 ≡ false → z q ≡ by_answer a x y z
  unfolding by_answer
  by-other q e h = rw (e, h)

module _ {asked : Asked} where
  module _ {x : Option Verdict} (d : asked ≡ Ok x) where
    pub count-told : {v : Verdict} {r : ℕ} → x ≡ Some v → ((ts : List Ty) (ms : List Bool) → r ≡ length (pieces v.accepted (ruling_of v.rule) ts ms)) → (w args : List ℕ) → r ≡ length (asked_pieces w args asked)
    unfolding asked_pieces
    count-told e f w args = rw (d, e) (f (types_of w args) (marks_of args))

    pub count-nothing : x ≡ None → (w args : List ℕ) → 0 ≡ length (asked_pieces w args asked)
    unfolding asked_pieces
    count-nothing e w args = rw (d, e)

    module _ (w args : List ℕ) (j : ℕ) where
      pub put-needs : {n : ℕ} {v : Verdict} → x ≡ Some v → Tells w n args asked → j < length (asked_pieces w args asked)
          → Told w n v.rule v.accepted args × (j < length (pieces v.accepted (ruling_of v.rule) (types_of w args) (marks_of args)))
      unfolding Tells asked_pieces
      put-needs e t l = (rw (d, e) at t, rw (d, e) at l)

      pub put-told : {at r : ℕ} {v : Verdict} {o u : List ℕ} → x ≡ Some v → Put o at (get_or (pieces v.accepted (ruling_of v.rule) (types_of w args) (marks_of args)) j []) r u
          → Put o at (get_or (asked_pieces w args asked) j []) r u
      unfolding asked_pieces
      put-told e p = rw (d, e) p

      pub none-nothing : {P : Type 0} → x ≡ None → j < length (asked_pieces w args asked) → P
      none-nothing e l = let z = count-nothing e w args in absurd (omega arith)

  pub count-refused : {q : Refusal} → asked ≡ Err q → (w args : List ℕ) → 0 ≡ length (asked_pieces w args asked)
  unfolding asked_pieces
  count-refused e w args = rw e

  pub none-refused : (w args : List ℕ) (j : ℕ) {P : Type 0} {q : Refusal} → asked ≡ Err q → j < length (asked_pieces w args asked) → P
  none-refused w args j e l = let z = count-refused e w args in absurd (omega arith)

-- THE THREE CALLS, by an answer a that is theirs and what is told of it

module _ (w : List ℕ) (n : ℕ) (a : Answer) (r : Asked) where
  pub unary-asks : (op x k : ℕ) → a ≡ (type_unary_op w n op x).answer → (op < 5 → ruling_of k ≡ unary_ruling op) → r ≡ told_by a (Some k)
      → Asks w n (x ∷ []) (unary_pieces w n op x) (type_unary_op w n op x).answer r
  unfolding unary_pieces
  unary-asks op x k e f h =
      let o = type_unary_op w n op x in
      rw (h, e)
      (asks-told w n (x ∷ []) k (unary_ruling op) o.answer
      (λ t. let q = unary-tells w n op x t in let g = f q.0 in (g, told w n (x ∷ []) k (unary_ruling op) o g q.1)))

  pub binary-asks : (op x y k : ℕ) → a ≡ (type_binary_op w n op x y).answer → (op < 18 → ruling_of k ≡ by_row (binary_row op)) → r ≡ told_by a (Some k)
      → Asks w n (x ∷ y ∷ []) (binary_pieces w n op x y) (type_binary_op w n op x y).answer r
  unfolding binary_pieces
  binary-asks op x y k e f h =
      let o = type_binary_op w n op x y in
      rw (h, e)
      (asks-told w n (x ∷ y ∷ []) k (by_row (binary_row op)) o.answer
      (λ t. let q = binary-tells w n op x y t in let g = f q.0 in (g, told w n (x ∷ y ∷ []) k (by_row (binary_row op)) o g q.1)))

-- the pieces of a call by its rule

no : {P : Type 0} → false ≡ true → P
no e = let z : ◌≡◌ {A = ℕ} 0 1 = cc in absurd (omega arith)

ruled-pieces : (R : Rule) (q : Ruling) → JudgedBy R q → (runs : Bool) (a : Answer) (w args : List ℕ)
    → tell_by a q (types_of w args) (marks_of args) ≡ ruled_pieces (rule R runs) a (types_of w args) (marks_of args)
unfolding JudgedBy ruled_pieces
ruled-pieces (ruling r) q e runs a w args = ap (λ (x : Ruling). tell_by a x (types_of w args) (marks_of args)) (sym e)
ruled-pieces storing q e runs a w args = ap (λ (x : Ruling). tell_by a x (types_of w args) (marks_of args)) (sym e)
ruled-pieces bitcast q e runs a w args = absurd e
ruled-pieces barrier q e runs a w args = absurd e

other-pieces : (R : Rule) → has_ruling R ≡ false → (runs : Bool) (a : Answer) (w args : List ℕ) → [] ≡ ruled_pieces (rule R runs) a (types_of w args) (marks_of args)
unfolding has_ruling ruled_pieces
other-pieces (ruling r) e runs a w args = no (sym e)
other-pieces storing e runs a w args = no (sym e)
other-pieces bitcast e runs a w args = refl
other-pieces barrier e runs a w args = refl

module _ (profile : ℕ) (w : List ℕ) (n : ℕ) (name tplt args : List ℕ) (a : Answer) (r : Asked) (e : a ≡ (type_builtin_fn profile w n name tplt args).answer) where
  abbrev CallAsks : Type 0
  CallAsks = Asks w n args (call_pieces profile w n name tplt args) (type_builtin_fn profile w n name tplt args).answer r

  asks-as : (ps : List (List ℕ)) (s : Named) → rule_of profile name ≡ s → ps ≡ ruled_pieces s (type_builtin_fn profile w n name tplt args).answer (types_of w args) (marks_of args)
      → Asks w n args ps (type_builtin_fn profile w n name tplt args).answer r → CallAsks
  unfolding call_pieces
  asks-as ps s p q k =
      subst (λ (x : List (List ℕ)). Asks w n args x (type_builtin_fn profile w n name tplt args).answer r)
      (q ∙ ap (λ (x : Named). ruled_pieces x (type_builtin_fn profile w n name tplt args).answer (types_of w args) (marks_of args)) (sym p)) k

  module _ (k : ℕ) (runs : Bool) (p : rule_of profile name ≡ rule (numbered k) runs) where
    call_asks : has_ruling (numbered k) ≡ true → r ≡ told_by a (Some k) → CallAsks
    call_asks h q =
        let o = type_builtin_fn profile w n name tplt args in
        let j = judged-by k h in
        asks-as (tell_by o.answer (ruling_of k) (types_of w args) (marks_of args)) (rule (numbered k) runs) p (ruled-pieces (numbered k) (ruling_of k) j runs o.answer w args)
        (rw (q, e)
        (asks-told w n args k (ruling_of k) o.answer
        (λ t. (refl, told w n args k (ruling_of k) o refl (call-tells w n profile name tplt args (numbered k) (ruling_of k) j runs p t)))))

    call-silent : has_ruling (numbered k) ≡ false → r ≡ told_by a None → CallAsks
    call-silent h q =
        asks-as [] (rule (numbered k) runs) p (other-pieces (numbered k) h runs (type_builtin_fn profile w n name tplt args).answer w args) (rw (q, e) (asks_nothing w n args (type_builtin_fn profile w n name tplt args).answer))

    pub call-ruled : (b : Bool) → b ≡ has_ruling (numbered k) → r ≡ told_by a (then_some b k) → CallAsks
    call-ruled true h q = call_asks (sym h) q
    call-ruled false h q = call-silent (sym h) q

  pub call-unknown : rule_of profile name ≡ unknown → r ≡ told_by a None → CallAsks
  unfolding ruled_pieces
  call-unknown p q = asks-as [] unknown p refl (rw (q, e) (asks_nothing w n args (type_builtin_fn profile w n name tplt args).answer))

-- FROM TELLING TO THE PROMISE

written-numbers : (n : ℕ) (text out : List ℕ) → spelled_numbers (written_reply n text out) ≡ written_numbers n text out
unfolding written_reply written_numbers
written-numbers n text out = go (leb (length text) (length out))
  where
    go : (b : Bool) → spelled_numbers (cond b (Ok (length text)) (refuse_spelling TooLong n)) ≡ cond b (record { refusal = 0; values = length text ∷ [] }) (refusal_numbers 12 n)
    go true = refl
    go false = refl

why-numbers : (n : ℕ) (a : Answer) (text out : List ℕ) → spelled_numbers (why_reply n a text out) ≡ why_numbers n a text out
unfolding why_reply why_numbers by_answer
why-numbers n (answers.Value t m) text out = written-numbers n text out
why-numbers n (answers.NoValue m) text out = written-numbers n text out
why-numbers n (answers.Refused r) text out = go (eqb (reason_no r.reason) 8)
  where
    go : (b : Bool) → spelled_numbers (cond b (written_reply n text out) (Err r)) ≡ cond b (written_numbers n text out) (record { refusal = reason_no r.reason; values = r.place.0 ∷ r.used ∷ [] })
    go true = written-numbers n text out
    go false = refl

pub why-done : {w : List ℕ} {n : ℕ} {args : List ℕ} {ps : List (List ℕ)} {a : Answer} {asked : Asked} {out : List ℕ} {r : Spelled} {after : List ℕ}
    → Asks w n args ps a asked → Telling w n args asked out r after → WhyDone n a ps out r after
why-done {w} {n} {args} {ps} {a} {asked} {out} {r} {after} k t =
    let e = t.reply ∙ ap (λ (x : List (List ℕ)). asked_reply n asked (together x) out) k.pieces ∙ k.reply (together ps) out in
    record {
      reply = e;
      numbers = ap spelled_numbers e ∙ why-numbers n a (together ps) out;
      bytes = t.bytes ∙ ap (λ (x : List (List ℕ)). why_bytes (together x) out) k.pieces;
    }
