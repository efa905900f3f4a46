-- Where the version has no marks, no item is running. Assumes nothing.
use Prim.Native.Nat.{ℕ, ◌+◌, ◌-◌}
use mathlib.Core.Path.{◌≡◌, refl}
use mathlib.Core.Bool.{false, cond}
use mathlib.Core.List.{List}
use lib.Dec.{ltb, leb, eqb}
use lib.ListN.{length, get_or}
use Rattle.frame.specs.declared.Item.{Item}
use Rattle.frame.specs.declared.Item.TheVariants.{Unary, Binary, Call, CallTemplate, Bad}
use Rattle.frame.specs.declared.Placed.{Placed}
use Rattle.frame.specs.Frame.{marked, header_size, type_no, part, still, follows, push_of, take_of, payload_item, payload_at, item_at, is_running}
use Rattle.frame.proofs.FrameLaws.{cond-elim}

-- "version 1 means all const"
abbrev Const : Placed → Type 0
Const x = is_running x.item ≡ false

module _ (at : ℕ) (p : List ℕ) where
  sized : (n : ℕ) (i : Item) → is_running i ≡ false → Const (cond (eqb (length p) n) (follows at p i) (still Bad at))
  sized n i e = cond-elim Const (eqb (length p) n) (λ _. e) (λ _. refl)

  named : (k : ℕ) (i : Item) → is_running i ≡ false → Const (cond (ltb k (length p)) (cond (leb (length p) (k + 32)) (follows at p i) (still Bad at)) (still Bad at))
  named k i e = cond-elim Const (ltb k (length p)) (λ _. cond-elim Const (leb (length p) (k + 32)) (λ _. e) (λ _. refl)) (λ _. refl)

  payload-const : (k : ℕ) → Const (payload_item at p false k)
  unfolding payload_item
  payload-const k =
      cond-elim Const (eqb k 1) (λ _. sized 1 (push_of p false) refl) (λ _.
      cond-elim Const (eqb k 2) (λ _. sized 1 (Unary (get_or p 0 0)) refl) (λ _.
      cond-elim Const (eqb k 3) (λ _. sized 1 (Binary (get_or p 0 0)) refl) (λ _.
      cond-elim Const (eqb k 4) (λ _. named 1 (Call (get_or p 0 0) (part (at + 2 + 1) (length p - 1))) refl) (λ _.
      cond-elim Const (eqb k 5) (λ _. named 2 (CallTemplate (type_no (get_or p 0 0)) (get_or p 1 0) (part (at + 2 + 2) (length p - 2))) refl) (λ _.
      cond-elim Const (eqb k 6) (λ _. sized 7 (take_of p false) refl) (λ _. refl))))))

pub unmarked-const : (s : List ℕ) (at : ℕ) → marked s ≡ false → is_running (item_at s at).item ≡ false
unfolding item_at
unmarked-const s at m =
    rw m
    (cond-elim Const (ltb at header_size) (λ _. refl) (λ _.
    cond-elim Const (leb (length s) at) (λ _. refl) (λ _.
    cond-elim Const (eqb (get_or s at 0) 0) (λ _. refl) (λ _.
    cond-elim Const (ltb (length s) (at + 1 + get_or s at 0)) (λ _. refl) (λ _. payload-const at (payload_at s at) (get_or s (at + 1) 0))))))
