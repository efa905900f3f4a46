-- The ways out of a call of an operator, each as the outcome that its definition gives. Assumes nothing.
use Prim.Native.Nat.{ℕ, zero, suc, ◌≤◌, ◌<◌}
use native.Mathlib.Omega.{arith}
use mathlib.Core.Path.{◌≡◌, refl, sym, ◌∙◌, ap, subst}
use mathlib.Core.Logic.{◌≢◌}
use mathlib.Core.Bool.{Bool, true, false, ◌&&◌, ◌||◌, not}
use mathlib.Core.List.{List, [], ◌∷◌, map}
use lib.Dec.{eqb}
use borrow.Author.Tests.{lt-ltb, le-ltb, ne_eqb}
use Rattle.held.specs.Held.{number_of, mark_of}
use Rattle.conv.specs.Types.{Ty, abstract_ty, formed}
use Rattle.conv.specs.Rank.{both, is_reference}
use Rattle.overload.specs.Overload.{or}
use Rattle.overload.specs.Marks.{any_running, running_abstract}
use Rattle.overload.specs.Rows.{rows, row_at, Ruling, judge_address, judge_indirection, alone, judge_by, Known}
use Rattle.overload.specs.Rows.Ruling.{by_row}
use Rattle.overload.proofs.Rulings.{known-rows}
use Rattle.overload.specs.inner.Code.{operand, code_of, judge_kept}
use Rattle.overload.proofs.Operands.{all_formed}
use Rattle.table.specs.Table.{soundb, Sound}
use Rattle.table.proofs.FormedLaws.{formed-at}
use Rattle.table.specs.Denote.{type_at}
use Rattle.table.specs.Placing.{turned_down}
use Rattle.answer.specs.declared.Reason.TheVariants.{Unsound, NoSuchType, Reference, Unknown, RunningAbstract}
use Rattle.ruled.specs.Call.{operand_ty, any_reference, judged_outcome, takes_reference, offends, ruled_outcome}
use Rattle.ruled.proofs.Loaded.{ruled-reference, ruled-clash, ruled-judged, row-judged}
use Rattle.ops_ty.specs.Ops.{unary_ops, address_op, indirection_op, unary_ruling, binary_ops, binary_rows, binary_row, unary_outcome, binary_outcome, type_unary_op, type_binary_op}
use Rattle.ops_ty.specs.inner.Turn.{offered}

-- THE RULINGS of operators are known; which of the unary ones are rows, and which takes a reference

pub unary-known : (op : ℕ) → Known (unary_ruling op)
unfolding Known unary_ruling row_at rows
unary-known zero = refl
unary-known (suc zero) = refl
unary-known (suc (suc zero)) = refl
unary-known (suc (suc (suc zero))) = tt
unary-known (suc (suc (suc (suc zero)))) = tt
unary-known (suc (suc (suc (suc (suc op))))) = refl

pub binary-known : (op : ℕ) → Known (by_row (binary_row op))
unfolding binary_row row_at rows
binary-known op = known-rows binary_rows refl op

unary-listed : (op : ℕ) → op < address_op → unary_ruling op ≡ by_row (row_at op)
unfolding unary_ruling row_at rows
unary-listed zero h = refl
unary-listed (suc zero) h = refl
unary-listed (suc (suc zero)) h = refl
unary-listed (suc (suc (suc op))) h = absurd (omega arith)

-- an operand that is no reference, or one offered to unary `&`, offends no unary operator
pub unary-loaded : (op : ℕ) (t : Ty) → is_reference t ≡ false → offends (unary_ruling op) (t ∷ []) ≡ false
unfolding any_reference
unary-loaded op t r = go (takes_reference (unary_ruling op))
  where
    go : (b : Bool) → (not b && (is_reference t || false)) ≡ false
    go true = refl
    go false = rw r

-- what the code asks of an operand's number is that
or_no : (b : Bool) → (b || false) ≡ b
or_no true = refl
or_no false = refl

unary-takes : (op : ℕ) → takes_reference (unary_ruling op) ≡ eqb op address_op
unfolding takes_reference unary_ruling
unary-takes zero = refl
unary-takes (suc zero) = refl
unary-takes (suc (suc zero)) = refl
unary-takes (suc (suc (suc zero))) = refl
unary-takes (suc (suc (suc (suc zero)))) = refl
unary-takes (suc (suc (suc (suc (suc op))))) = sym (ne_eqb (suc (suc (suc (suc (suc op))))) address_op (λ e. omega arith))

pub unary-offered : (op : ℕ) (t : Ty) (x : ℕ) → is_reference t ≡ eqb x 98 → offends (unary_ruling op) (t ∷ []) ≡ offered op x
unfolding any_reference
unary-offered op t x e = λ i. not (unary-takes op i) && (or_no (is_reference t) ∙ e) i

-- the marks of one operand and of two

as-or : (a b : Bool) → or a b ≡ (a || b)
unfolding or
as-or true b = refl
as-or false b = refl

or-none : (b : Bool) → or b false ≡ b
unfolding or
or-none true = refl
or-none false = refl

pub one-clashes : (t : Ty) (m : Bool) → running_abstract (t ∷ []) (m ∷ []) ≡ both m (abstract_ty t)
unfolding running_abstract
one-clashes t m = or-none (both m (abstract_ty t))

pub two-clash : (t u : Ty) (m k : Bool) → running_abstract (t ∷ u ∷ []) (m ∷ k ∷ []) ≡ (both m (abstract_ty t) || both k (abstract_ty u))
unfolding running_abstract
two-clash t u m k = ap (or (both m (abstract_ty t))) (or-none (both k (abstract_ty u))) ∙ as-or (both m (abstract_ty t)) (both k (abstract_ty u))

pub one-runs : (m : Bool) → m ≡ any_running (m ∷ [])
unfolding any_running
one-runs m = sym (or-none m)

pub two_run : (m k : Bool) → (m || k) ≡ any_running (m ∷ k ∷ [])
unfolding any_running
two_run m k = sym (ap (or m) (or-none k) ∙ as-or m k)

module _ (place : ℕ) (w : List ℕ) (n op : ℕ) where
  -- UNARY

  module _ (t : Ty) (m : Bool) where
    pub unary-unknown : unary_ops ≤ op → turned_down Unknown place w n ≡ unary_outcome place w n op t m
    unfolding unary_outcome
    unary-unknown h = sym (rw (le-ltb op unary_ops h))

    pub unary-ruled : op < unary_ops → ruled_outcome place w n (unary_ruling op) (t ∷ []) (m ∷ []) ≡ unary_outcome place w n op t m
    unfolding unary_outcome
    unary-ruled h = sym (rw (lt-ltb op unary_ops h))

    pub unary-reference : op < unary_ops → offends (unary_ruling op) (t ∷ []) ≡ true → turned_down Reference place w n ≡ unary_outcome place w n op t m
    unary-reference h r = ruled-reference place w n (unary_ruling op) (t ∷ []) (m ∷ []) r ∙ unary-ruled h

    module _ (h : op < unary_ops) (r : offends (unary_ruling op) (t ∷ []) ≡ false) where
      pub unary-clash : both m (abstract_ty t) ≡ true → turned_down RunningAbstract place w n ≡ unary_outcome place w n op t m
      unary-clash c = ruled-clash place w n (unary_ruling op) (t ∷ []) (m ∷ []) r (one-clashes t m ∙ c) ∙ unary-ruled h

      module _ (c : both m (abstract_ty t) ≡ false) where
        judged : judged_outcome place w n (judge_by (unary_ruling op) (t ∷ []) (m ∷ [])) ≡ unary_outcome place w n op t m
        judged = ruled-judged place w n (unary_ruling op) (t ∷ []) (m ∷ []) r (one-clashes t m ∙ c) ∙ unary-ruled h

        pub unary-address : op ≡ address_op → judged_outcome place w n (judge_address t) ≡ unary_outcome place w n op t m
        unfolding unary_ruling judge_by alone
        unary-address e = subst (λ (k : ℕ). judged_outcome place w n (judge_address t) ≡ judged_outcome place w n (judge_by (unary_ruling k) (t ∷ []) (m ∷ []))) (sym e) refl ∙ judged

        pub unary-indirection : op ≡ indirection_op → judged_outcome place w n (judge_indirection t) ≡ unary_outcome place w n op t m
        unfolding unary_ruling judge_by alone
        unary-indirection e =
            subst (λ (k : ℕ). judged_outcome place w n (judge_indirection t) ≡ judged_outcome place w n (judge_by (unary_ruling k) (t ∷ []) (m ∷ []))) (sym e) refl ∙ judged

        pub unary-row : op ≢ address_op → op ≢ indirection_op → formed t ≡ true → (x : ℕ) → x ≡ code_of t → (running : Bool) → running ≡ m
            → judged_outcome place w n (judge_kept running (row_at op) (map operand (x ∷ []))) ≡ unary_outcome place w n op t m
        unfolding all_formed
        unary-row a i f x e running q =
            let l = unary-listed op (omega arith) in
            ap (λ (k : ℕ). judged_outcome place w n (judge_kept running (row_at op) (map operand (k ∷ [])))) e
            ∙ row-judged place w n op (row_at op) (t ∷ []) (m ∷ []) running refl (rw f) (subst (λ (y : Ruling). offends y (t ∷ []) ≡ false) l r) (one-clashes t m ∙ c) (q ∙ one-runs m)
            ∙ ap (λ (y : Ruling). ruled_outcome place w n y (t ∷ []) (m ∷ [])) (sym l)
            ∙ unary-ruled h

  -- BINARY

  module _ (t u : Ty) (m k : Bool) where
    pub binary-unknown : binary_ops ≤ op → turned_down Unknown place w n ≡ binary_outcome place w n op t u m k
    unfolding binary_outcome
    binary-unknown h = sym (rw (le-ltb op binary_ops h))

    module _ (h : op < binary_ops) where
      pub binary-ruled : ruled_outcome place w n (by_row (binary_row op)) (t ∷ u ∷ []) (m ∷ k ∷ []) ≡ binary_outcome place w n op t u m k
      unfolding binary_outcome
      binary-ruled = sym (rw (lt-ltb op binary_ops h))

      pub binary-left : is_reference t ≡ true → turned_down Reference place w n ≡ binary_outcome place w n op t u m k
      unfolding any_reference takes_reference
      binary-left r = ruled-reference place w n (by_row (binary_row op)) (t ∷ u ∷ []) (m ∷ k ∷ []) (rw r) ∙ binary-ruled

      pub binary-right : is_reference t ≡ false → is_reference u ≡ true → turned_down Reference place w n ≡ binary_outcome place w n op t u m k
      unfolding any_reference takes_reference
      binary-right r s = ruled-reference place w n (by_row (binary_row op)) (t ∷ u ∷ []) (m ∷ k ∷ []) (rw (r, s)) ∙ binary-ruled

      module _ (r : is_reference t ≡ false) (s : is_reference u ≡ false) where
        loaded : offends (by_row (binary_row op)) (t ∷ u ∷ []) ≡ false
        unfolding any_reference takes_reference
        loaded = rw (r, s)

        pub binary-clash : (both m (abstract_ty t) || both k (abstract_ty u)) ≡ true → turned_down RunningAbstract place w n ≡ binary_outcome place w n op t u m k
        binary-clash c = ruled-clash place w n (by_row (binary_row op)) (t ∷ u ∷ []) (m ∷ k ∷ []) loaded (two-clash t u m k ∙ c) ∙ binary-ruled

        pub binary-row : (both m (abstract_ty t) || both k (abstract_ty u)) ≡ false → formed t ≡ true → formed u ≡ true → (row x y : ℕ) → row ≡ (binary_row op).number → x ≡ code_of t → y ≡ code_of u
            → (running : Bool) → running ≡ (m || k)
            → judged_outcome place w n (judge_kept running (row_at row) (map operand (x ∷ y ∷ []))) ≡ binary_outcome place w n op t u m k
        unfolding all_formed Known
        binary-row c f g row x y q d e running a =
            (λ i. judged_outcome place w n (judge_kept running (row_at (q i)) (map operand (d i ∷ e i ∷ []))))
            ∙ row-judged place w n (binary_row op).number (binary_row op) (t ∷ u ∷ []) (m ∷ k ∷ []) running (binary-known op) (rw (f, g)) loaded (two-clash t u m k ∙ c) (a ∙ two_run m k)
            ∙ binary-ruled

-- THE OPERANDS of a sound table are types

pub one-formed : (w : List ℕ) (n : ℕ) → Sound w n → (a : ℕ) → a < n → all_formed (type_at w a ∷ []) ≡ true
unfolding all_formed
one-formed w n s a u = rw (formed-at w n s a u)

pub two_formed : (w : List ℕ) (n : ℕ) → Sound w n → (a b : ℕ) → a < n → b < n → all_formed (type_at w a ∷ type_at w b ∷ []) ≡ true
unfolding all_formed
two_formed w n s a b u v = rw (formed-at w n s a u, formed-at w n s b v)

-- A SINGLE CALL

module _ (w : List ℕ) (n op a : ℕ) where
  pub unary-unsound : soundb w n ≡ false → turned_down Unsound 0 w n ≡ type_unary_op w n op a
  unfolding type_unary_op
  unary-unsound h = sym (rw h)

  pub unary-beyond : soundb w n ≡ true → n ≤ number_of a → turned_down NoSuchType 0 w n ≡ type_unary_op w n op a
  unfolding type_unary_op
  unary-beyond h l = sym (rw (h, le-ltb (number_of a) n l))

  pub unary-call : soundb w n ≡ true → number_of a < n → unary_outcome 0 w n op (operand_ty w a) (mark_of a) ≡ type_unary_op w n op a
  unfolding type_unary_op
  unary-call h l = sym (rw (h, lt-ltb (number_of a) n l))

  module _ (b : ℕ) where
    pub binary-unsound : soundb w n ≡ false → turned_down Unsound 0 w n ≡ type_binary_op w n op a b
    unfolding type_binary_op
    binary-unsound h = sym (rw h)

    pub binary-beyond : soundb w n ≡ true → n ≤ number_of a → turned_down NoSuchType 0 w n ≡ type_binary_op w n op a b
    unfolding type_binary_op
    binary-beyond h l = sym (rw (h, le-ltb (number_of a) n l))

    pub binary-beyond-2 : soundb w n ≡ true → number_of a < n → n ≤ number_of b → turned_down NoSuchType 0 w n ≡ type_binary_op w n op a b
    unfolding type_binary_op
    binary-beyond-2 h l k = sym (rw (h, lt-ltb (number_of a) n l, le-ltb (number_of b) n k))

    pub binary-call : soundb w n ≡ true → number_of a < n → number_of b < n → binary_outcome 0 w n op (operand_ty w a) (operand_ty w b) (mark_of a) (mark_of b) ≡ type_binary_op w n op a b
    unfolding type_binary_op
    binary-call h l k = sym (rw (h, lt-ltb (number_of a) n l, lt-ltb (number_of b) n k))
