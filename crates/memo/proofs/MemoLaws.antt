-- The memo: a digit says the number and the mark of an operand, a slot says what it holds, what it holds stays true while the table grows, and a value that typing gave may be noted. Assumes nothing.
use Prim.Native.Nat.{ℕ, zero, suc, ◌+◌, ◌*◌, ◌%◌, ◌<◌, ◌≤◌}
use mathlib.Core.Path.{◌≡◌, refl, sym, ◌∙◌, ap}
use mathlib.Core.Logic.{◌⊎◌, inl, inr}
use mathlib.Core.Bool.{Bool, true, false}
use mathlib.Core.List.{List, [], ◌∷◌}
use native.Mathlib.Omega.{arith}
use lib.Dec.{ltb, eqb}
use lib.ListN.{length, get_or, length-map}
use lib.Seq.{ext_get_or}
use borrow.Author.Tests.{ltb-true, ltb-false, le-leb, lt-leb}
use Rattle.conv.specs.Types.{Ty, formed}
use Rattle.overload.specs.Overload.{Judged}
use Rattle.overload.specs.Overload.Judged.{gives, none_fits}
use Rattle.overload.specs.Rows.{Ruling, judge_by}
use Rattle.overload.specs.Rows.Ruling.{by_row}
use Rattle.overload.specs.Marks.{running_abstract}
use Rattle.overload.proofs.Rulings.{row-formed, ruling-formed}
use Rattle.overload.proofs.Operands.{all_formed}
use Rattle.names.specs.Names.{Rule}
use Rattle.names.specs.Names.Rule.{ruling}
use Rattle.names.specs.Names.Named.{rule}
use Rattle.names.specs.inner.Table.{numbered}
use Rattle.names.proofs.Rules.{number-known}
use Rattle.answer.specs.Answer.{refuse}
use Rattle.answer.specs.declared.TypeNo.{TypeNo}
use Rattle.answer.specs.declared.Answer.TheVariants.{Value, NoValue}
use Rattle.table.specs.Table.{Sound}
use Rattle.table.specs.Denote.{type_at}
use Rattle.table.specs.Stands.{Stands}
use Rattle.table.specs.Placing.{Outcome, entering}
use Rattle.table.proofs.TypeLaws.{type-keeps}
use Rattle.table.proofs.Demand1.{entering-stands}
use Rattle.table.proofs.KindLaws.{split}
use Rattle.table.proofs.SlotLaws.{zeros, zero-at}
use Rattle.held.specs.Held.{number_of, mark_of}
use Rattle.ruled.specs.Call.{any_reference, judged_outcome, offends, ruled_outcome}
use Rattle.ops_ty.specs.Ops.{unary_ops, unary_ruling, binary_ops, binary_row, unary_outcome, binary_outcome}
use Rattle.ops_ty.proofs.Ways.{unary-known, binary-known, one-formed}
use Rattle.call_ty.specs.Calls.{template_right, operands_of, given_by, given_outcome, by_rule, numbers, marks_of, types}
use Rattle.call_ty.specs.Calls.Given.{judgment}
use Rattle.call_ty.specs.inner.Codes.{by_number, Under}
use Rattle.call_ty.proofs.Lists.{types-formed}
use Rattle.call_ty.proofs.Ends.{Ends, rule-call-ends}
use Rattle.call_ty.proofs.Ends.Ends.{refused, silent, valued}
use Rattle.step.specs.Kept.{Grew}
use Rattle.step.proofs.StackLaws.{value-under}
use Rattle.memo.specs.inner.Memo.{room, slots, Question, code_of, On, typed, Gives, digit_of, digits, number_in, numbers_in, mark_in, marks_in, key_up, key_of, slot_of, Holds, Recalls, Hinted, Noted}
use Rattle.memo.specs.inner.Memo.Question.{binary, unary, builtin}

impossible : {P : Type 0} → ◌≡◌ {A = ℕ} 0 1 → P
impossible e = absurd (omega arith)

-- A SLOT SAYS WHAT IT HOLDS: one question, one list of operands and one value

code-byte : (q : Question) (k : ℕ) → On q k → (1 ≤ code_of q) × (code_of q < 256)
code-byte (binary op) k h = let a = h.0 in (omega arith, omega arith)
code-byte (unary op) k h = let a = h.0 in (omega arith, omega arith)
code-byte (builtin number) k h = let a = h.0 in (omega arith, omega arith)

code_one : (q r : Question) (j k : ℕ) → On q j → On r k → code_of q ≡ code_of r → q ≡ r
code_one (binary a) (binary b) j k g h e = let z : a ≡ b = omega arith in ap binary z
code_one (binary a) (unary b) j k g h e = let x = g.0 in absurd (omega arith)
code_one (binary a) (builtin b) j k g h e = let x = g.0 in absurd (omega arith)
code_one (unary a) (binary b) j k g h e = let x = h.0 in absurd (omega arith)
code_one (unary a) (unary b) j k g h e = let z : a ≡ b = omega arith in ap unary z
code_one (unary a) (builtin b) j k g h e = let x = g.0 in absurd (omega arith)
code_one (builtin a) (binary b) j k g h e = let x = h.0 in absurd (omega arith)
code_one (builtin a) (unary b) j k g h e = let x = h.0 in absurd (omega arith)
code_one (builtin a) (builtin b) j k g h e = let z : a ≡ b = omega arith in ap builtin z

-- the key, an operand at a time
pub key-none : (code : ℕ) (vs : List ℕ) → code ≡ key_up code vs 0
unfolding key_up
key-none code vs = refl

key-next : (code : ℕ) (vs : List ℕ) (k key a : ℕ) → key ≡ key_up code vs k → a ≡ get_or vs k 0 → key * 512 + a ≡ key_up code vs (suc k)
unfolding key_up
key-next code vs k key a e f = rw (e, f)

key-least : (code : ℕ) (vs : List ℕ) (k : ℕ) → 1 ≤ code → 1 ≤ key_up code vs k
unfolding key_up
key-least code vs zero h = h
key-least code vs (suc k) h = let q = key-least code vs k h in omega arith

module _ (a b : ℕ) (vs us : List ℕ) (la : 1 ≤ a) (ha : a < 256) (lb : 1 ≤ b) (hb : b < 256) (bv : Under 512 vs) (bu : Under 512 us) where
  key_one : (j k : ℕ) → j ≤ length vs → k ≤ length us → key_up a vs j ≡ key_up b us k → (a ≡ b) × (j ≡ k) × ((i : ℕ) → i < j → get_or vs i 0 ≡ get_or us i 0)
  unfolding key_up
  key_one zero zero l m e = (e, refl, λ i h. absurd (omega arith))
  key_one zero (suc k) l m e = let q = key-least b us k lb in absurd (omega arith)
  key_one (suc j) zero l m e = let q = key-least a vs j la in absurd (omega arith)
  key_one (suc j) (suc k) l m e =
      let x = bv j (omega arith) in
      let y = bu k (omega arith) in
      let q : key_up a vs j ≡ key_up b us k = omega arith in
      let z : get_or vs j 0 ≡ get_or us k 0 = omega arith in
      let r = key_one j k (omega arith) (omega arith) q in (
        r.0,
        ap suc r.1,
        λ i h. split (ltb i j)
            (λ t. r.2 i (ltb-true i j t))
            (λ t.
            let f : j ≤ i = ltb-false i j t in
            let g : i ≡ j = omega arith in
            ap (λ (n : ℕ). get_or vs n 0) g ∙ z ∙ ap (λ (n : ℕ). get_or us n 0) (sym (g ∙ r.1))),
      )

slot-one : (q r : Question) (vs us : List ℕ) (t u : ℕ) → On q (length vs) → On r (length us) → Under 512 vs → Under 512 us → t < 256 → u < 256
    → slot_of (key_of (code_of q) vs) t ≡ slot_of (key_of (code_of r) us) u → (q ≡ r) × (vs ≡ us) × (t ≡ u)
slot-one q r vs us t u oq os bv bu lt lu e =
    let k : key_of (code_of q) vs ≡ key_of (code_of r) us = omega arith in
    let z : t ≡ u = omega arith in
    let a = code-byte q (length vs) oq in
    let b = code-byte r (length us) os in
    let x = key_one (code_of q) (code_of r) vs us a.0 a.1 b.0 b.1 bv bu (length vs) (length us) (omega arith) (omega arith) k in
    (code_one q r (length vs) (length us) oq os x.0, ext_get_or 0 vs us x.1 x.2, z)

-- an empty slot says nothing
pub holds-none : (w : List ℕ) (n : ℕ) → Holds w n 0
holds-none w n = record { holds = λ q vs t o b l e. let k = key-least (code_of q) vs (length vs) (code-byte q (length vs) o).0 in absurd (omega arith) }

-- a new slot
holds-new : (w : List ℕ) (n : ℕ) (q : Question) (vs : List ℕ) (t : ℕ) → On q (length vs) → Under 512 vs → t < 256
    → Under n (numbers_in vs) × (t < n) × Gives q (types w (numbers_in vs)) (marks_in vs) (type_at w t) → Holds w n (slot_of (key_of (code_of q) vs) t)
holds-new w n q vs t o b l x =
    record {
      holds = λ q' vs' t' o' b' l' e.
          let z = slot-one q q' vs vs' t t' o o' b b' l l' e in
          rw (← z.0, ← z.1, ← z.2) x;
    }

-- WHAT A SLOT SAYS STAYS TRUE

module _ (w : List ℕ) (n : ℕ) (v : List ℕ) (m : ℕ) (g : Grew w n v m) where
  types-kept : (vs : List ℕ) → Under n vs → types v vs ≡ types w vs
  types-kept [] u = refl
  types-kept (t ∷ vs) u = λ i. type-keeps w v n g.keeps t (u 0 (omega arith)) i ∷ types-kept vs (λ j h. u (suc j) (omega arith)) i

  under-on : (vs : List ℕ) → Under n vs → Under m vs
  under-on vs u i h = let a = u i h in let b = g.more in omega arith

  pub holds_on : (x : ℕ) → Holds w n x → Holds v m x
  holds_on x h =
      record {
        holds = λ q vs t o b l e.
            let y = h.holds q vs t o b l e in
            let up = g.more in
            let lt = y.1 in
            (under-on (numbers_in vs) y.0, omega arith, rw (types-kept (numbers_in vs) y.0, type-keeps w v n g.keeps t y.1) y.2);
      }

  pub recalls-on : (memo : List ℕ) → Recalls memo w n → Recalls memo v m
  recalls-on memo r = record { size = r.size; holds = λ i h. holds_on (get_or memo i 0) (r.holds i h) }

-- a hint keeps what the slots say

pub unhinted : (memo : List ℕ) → Hinted memo memo
unhinted memo = record { size = refl; each = λ i l. refl }

pub recalls-hinted : (memo w : List ℕ) (n : ℕ) (after : List ℕ) → Recalls memo w n → Hinted memo after → Recalls after w n
recalls-hinted memo w n after r h = record { size = h.size ∙ r.size; holds = λ i l. rw (h.each i l) (r.holds i l) }

-- noting keeps what the slots say
pub recalls-noted : (memo w : List ℕ) (n key t : ℕ) (after : List ℕ) → Recalls memo w n → Holds w n (slot_of key t) → Noted memo key t after → Recalls after w n
recalls-noted memo w n key t after r h d = record { size = d.size ∙ r.size; holds = λ i l. go i (d.each i l) }
  where
    go : (i : ℕ) → (get_or after i 0 ≡ slot_of key t) ⊎ ((j : ℕ) × (j < slots) × (get_or after i 0 ≡ get_or memo j 0)) → Holds w n (get_or after i 0)
    go i (inl e) = rw e h
    go i (inr z) = rw z.2 (r.holds z.0 z.1)

-- a memo of empty slots, which a test finds
pub recalls-none : (memo w : List ℕ) (n : ℕ) → length memo ≡ room → zeros memo ≡ true → Recalls memo w n
recalls-none memo w n l z = record { size = l; holds = λ i h. rw (zero-at memo z i) (holds-none w n) }

-- WHAT GAVE A VALUE gives the same type in every table

judged-gives : (place : ℕ) (w : List ℕ) (n : ℕ) (j : Judged) (t : TypeNo) (m : ℕ) → (judged_outcome place w n j).answer ≡ Value t m
    → (R : Ty) × (j ≡ gives R) × ((place : ℕ) (w : List ℕ) (n : ℕ) → judged_outcome place w n j ≡ entering place w n R)
unfolding judged_outcome
judged-gives place w n (gives R) t m e = (R, refl, λ place w n. refl)
judged-gives place w n none_fits t m e = impossible (cc)

module _ (place : ℕ) (w : List ℕ) (n : ℕ) (t : TypeNo) (m : ℕ) where
  -- a call that ends in a judgment, whatever the table
  by-judgment : (f : ℕ → List ℕ → ℕ → Outcome) (j : Judged) → ((R : Ty) → j ≡ gives R → formed R ≡ true)
      → ((p : ℕ) (v : List ℕ) (k : ℕ) → f p v k ≡ judged_outcome p v k j) → (f place w n).answer ≡ Value t m
      → (R : Ty) × (formed R ≡ true) × ((p : ℕ) (v : List ℕ) (k : ℕ) → f p v k ≡ entering p v k R)
  by-judgment f j g h e =
      let q = judged-gives place w n j t m (ap (λ (o : Outcome). o.answer) (sym (h place w n)) ∙ e) in
      (q.0, g q.0 q.1, λ p v k. h p v k ∙ q.2 p v k)

  -- a ruling that gave a value gives its type
  gives-ruled : (r : Ruling) (us : List Ty) (ms : List Bool) → ((R : Ty) → judge_by r us ms ≡ gives R → formed R ≡ true) → (ruled_outcome place w n r us ms).answer ≡ Value t m
      → (R : Ty) × (formed R ≡ true) × ((p : ℕ) (v : List ℕ) (k : ℕ) → ruled_outcome p v k r us ms ≡ entering p v k R)
  unfolding ruled_outcome
  gives-ruled r us ms f e =
      split (offends r us) (λ a. let q = rw a at e in impossible (cc))
      (λ a.
      split (running_abstract us ms) (λ b. let q = rw (a, b) at e in impossible (cc))
      (λ b. by-judgment (λ p v k. ruled_outcome p v k r us ms) (judge_by r us ms) f (λ p v k. rw (a, b)) e))

  gives-binary : (op : ℕ) (x y : Ty) (j l : Bool) → (binary_outcome place w n op x y j l).answer ≡ Value t m
      → (R : Ty) × (formed R ≡ true) × ((p : ℕ) (v : List ℕ) (k : ℕ) → binary_outcome p v k op x y j l ≡ entering p v k R)
  unfolding binary_outcome
  gives-binary op x y j l e =
      split (ltb op binary_ops)
      (λ a.
      let q = gives-ruled (by_row (binary_row op)) (x ∷ y ∷ []) (j ∷ l ∷ []) (row-formed (binary_row op) (binary-known op) (x ∷ y ∷ []) (j ∷ l ∷ [])) (rw a at e) in
      (q.0, q.1, λ p v k. rw a (q.2 p v k)))
      (λ a. let q = rw a at e in impossible (cc))

  gives-unary : (op : ℕ) → Sound w n → (i : ℕ) → i < n → (j : Bool) → (unary_outcome place w n op (type_at w i) j).answer ≡ Value t m
      → (R : Ty) × (formed R ≡ true) × ((p : ℕ) (v : List ℕ) (k : ℕ) → unary_outcome p v k op (type_at w i) j ≡ entering p v k R)
  unfolding unary_outcome
  gives-unary op s i l j e =
      split (ltb op unary_ops)
      (λ a.
      let us = type_at w i ∷ [] in
      let q = gives-ruled (unary_ruling op) us (j ∷ []) (ruling-formed us (one-formed w n s i l) (j ∷ []) (unary_ruling op) (unary-known op)) (rw a at e) in
      (q.0, q.1, λ p v k. rw a (q.2 p v k)))
      (λ a. let q = rw a at e in impossible (cc))

  -- the rule of a call that gave a value gives its type
  rule-gives : (r : Rule) (us : List Ty) (ms : List Bool) (o : Outcome) → Ends place w n (rule r false) [] us ms o → o.answer ≡ Value t m
      → (R : Ty) × (formed R ≡ true) × (given_by r [] us ms ≡ judgment (gives R))
  rule-gives r us ms o (refused reason e) h =
      let a : Value t m ≡ refuse reason place n = sym h ∙ ap (λ (x : Outcome). x.answer) e in
      impossible (cc)
  rule-gives r us ms o (silent e) h =
      let a : Value t m ≡ NoValue n = sym h ∙ ap (λ (x : Outcome). x.answer) e in
      impossible (cc)
  rule-gives r us ms o (valued R k runs f q g e) h = let z : r ≡ k = cc in (R, f, ap (λ (j : Rule). given_by j [] us ms) z ∙ g)

  rule-typed : (r : Rule) (us : List Ty) (ms : List Bool) (R : Ty) → given_by r [] us ms ≡ judgment (gives R) → (by_rule place w n (rule r false) [] us ms).answer ≡ Value t m
      → (p : ℕ) (v : List ℕ) (k : ℕ) → by_rule p v k (rule r false) [] us ms ≡ entering p v k R
  unfolding by_rule given_outcome judged_outcome
  rule-typed r us ms R g e =
      split (template_right r [])
      (λ a.
      split (eqb (length us) (operands_of r))
      (λ b.
      split (any_reference us) (λ c. let q = rw (a, b, c) at e in impossible (cc))
      (λ c. split (running_abstract us ms) (λ d. let q = rw (a, b, c, d) at e in impossible (cc)) (λ d p v k. rw (a, b, c, d, g))))
      (λ b. let q = rw (a, b) at e in impossible (cc)))
      (λ a. let q = rw a at e in impossible (cc))

  gives-builtin : (number : ℕ) (us : List Ty) (ms : List Bool) → all_formed us ≡ true → (by_number place w n number [] us ms).answer ≡ Value t m
      → (R : Ty) × (formed R ≡ true) × ((p : ℕ) (v : List ℕ) (k : ℕ) → by_number p v k number [] us ms ≡ entering p v k R)
  unfolding all_formed
  gives-builtin number us ms f e =
      let z = rule-gives (numbered number) us ms (by_number place w n number [] us ms)
      (rule-call-ends place w n [] us ms refl f (rule (numbered number) false) (λ r runs q. number-known number r (let z : numbered number ≡ ruling r = cc in z))) e in
      (z.0, z.1, rule-typed (numbered number) us ms z.0 z.2 e)

-- the type that a question on operands of a table gives
module _ (place : ℕ) (w : List ℕ) (n : ℕ) (s : Sound w n) (t : TypeNo) (m : ℕ) where
  gives-value : (q : Question) (ds : List ℕ) → On q (length ds) → Under n (numbers_in ds) → (typed place w n q (types w (numbers_in ds)) (marks_in ds)).answer ≡ Value t m
      → (R : Ty) × (formed R ≡ true) × Gives q (types w (numbers_in ds)) (marks_in ds) R
  gives-value (binary op) ds o u e = gives-binary place w n t m op _ _ _ _ e
  gives-value (unary op) [] o u e = let z = o.1 in absurd (omega arith)
  gives-value (unary op) (a ∷ []) o u e = gives-unary place w n t m op s (number_in a) (u 0 (omega arith)) (mark_in a) e
  gives-value (unary op) (a ∷ b ∷ ds) o u e = let z = o.1 in absurd (omega arith)
  gives-value (builtin number) ds o u e = gives-builtin place w n t m number (types w (numbers_in ds)) (marks_in ds) (types-formed w n s (numbers_in ds) u) e

  -- A VALUE THAT TYPING GAVE may be noted: the table grew, and the new slot is true
  module _ (q : Question) (ds : List ℕ) (o : On q (length ds)) (small : Under 512 ds) (u : Under n (numbers_in ds)) (v : List ℕ)
      (e : (typed place w n q (types w (numbers_in ds)) (marks_in ds)).answer ≡ Value t m) (f : (typed place w n q (types w (numbers_in ds)) (marks_in ds)).words ≡ v) where
    pub value-noted : (t.0 < 256) × Grew w n v m × Holds v m (slot_of (key_of (code_of q) ds) t.0)
    value-noted =
        let x = gives-value q ds o u e in
        let st : Stands w n x.0 t.0 m v = entering-stands place w n s x.0 x.1 t m v (sym (x.2 place w n) ∙ (λ i. record { answer = e i; words = f i })) in
        let g : Grew w n v m = record { more = st.grows; keeps = st.keeps; long = st.long; beyond = st.beyond } in
        let top = s.high in
        let b = st.below in
        let high = st.sound.high in
        let l : t.0 < 256 = omega arith in
        (l, g, holds-new v m q ds t.0 o small l (under-on w n v m g (numbers_in ds) u, b, rw (types-kept w n v m g (numbers_in ds) u, st.stands) x.2))

-- THE DIGITS of values whose numbers are below 256

pub digit-small : (v : ℕ) → number_of v < 256 → digit_of v < 512
digit-small v h = split (mark_of v) (λ m. rw m (let z : number_of v + 256 < 512 = omega arith in z)) (λ m. rw m (let z : number_of v < 512 = omega arith in z))

digit-number : (v : ℕ) → number_of v < 256 → number_in (digit_of v) ≡ number_of v
digit-number v h =
    split (mark_of v)
    (λ m. rw m (let z : (number_of v + 256) % 256 ≡ number_of v = omega arith in z))
    (λ m. rw m (let z : number_of v % 256 ≡ number_of v = omega arith in z))

digit-mark : (v : ℕ) → number_of v < 256 → mark_in (digit_of v) ≡ mark_of v
digit-mark v h =
    split (mark_of v)
    (λ m. rw m (le-leb 256 (number_of v + 256) (omega arith)))
    (λ m. rw m (lt-leb 256 (number_of v) h))

under_tail : (n v : ℕ) (vs : List ℕ) → Under n (numbers (v ∷ vs)) → Under n (numbers vs)
under_tail n v vs u i h = u (suc i) (omega arith)

pub digit_at : (vs : List ℕ) (i : ℕ) → i < length vs → get_or (digits vs) i 0 ≡ digit_of (get_or vs i 0)
digit_at [] i l = absurd (omega arith)
digit_at (v ∷ vs) zero l = refl
digit_at (v ∷ vs) (suc i) l = digit_at vs i (omega arith)

pub digits-many : (vs : List ℕ) → length (digits vs) ≡ length vs
digits-many vs = length-map vs digit_of

-- the key, one operand more
pub key-digit : (code : ℕ) (vs : List ℕ) (k key a : ℕ) → key ≡ key_up code (digits vs) k → k < length vs → a ≡ digit_of (get_or vs k 0) → key * 512 + a ≡ key_up code (digits vs) (suc k)
key-digit code vs k key a e l f = key-next code (digits vs) k key a e (f ∙ sym (digit_at vs k l))

pub key-whole : (code : ℕ) (vs : List ℕ) (k key : ℕ) → length vs ≡ k → key ≡ key_up code (digits vs) k → key ≡ key_of code (digits vs)
key-whole code vs k key n e = e ∙ ap (key_up code (digits vs)) (sym (digits-many vs ∙ n))

pub digits-small : (vs : List ℕ) → Under 256 (numbers vs) → Under 512 (digits vs)
digits-small vs u i h =
    let l : i < length vs = omega (arith, digits-many vs) in
    rw (digit_at vs i l) (digit-small (get_or vs i 0) (value-under 256 vs u i l))

pub digits-numbers : (vs : List ℕ) → Under 256 (numbers vs) → numbers_in (digits vs) ≡ numbers vs
digits-numbers [] u = refl
digits-numbers (v ∷ vs) u = λ i. digit-number v (u 0 (omega arith)) i ∷ digits-numbers vs (under_tail 256 v vs u) i

pub digits-marks : (vs : List ℕ) → Under 256 (numbers vs) → marks_in (digits vs) ≡ marks_of vs
digits-marks [] u = refl
digits-marks (v ∷ vs) u = λ i. digit-mark v (u 0 (omega arith)) i ∷ digits-marks vs (under_tail 256 v vs u) i
