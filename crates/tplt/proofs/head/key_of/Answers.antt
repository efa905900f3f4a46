-- `tplt::head::key_of` meets its contract: the number is that of the bytes behind what is left. Assumes nothing.
use Prim.Native.Nat.{ℕ, ◌+◌, ◌*◌, ◌-◌, ◌<◌, ◌≤◌}
use mathlib.Core.Path.{◌≡◌, sym, ◌∙◌, ap}
use mathlib.Core.List.{List}
use native.Mathlib.Omega.{arith}
use lib.ListN.{length, get_or, take, drop}
use lib.Seq.{drop-length, take-length, get_or-take, length-take-le}
use Rattle.std.proofs.lemmas.List.{take-append-le, take-append-drop}
use Rattle.tplt.specs.inner.Steps.{longest, key_of}
use Rattle.tplt.proofs.HeadLaws.{Bytes, room, key-room, key-next}
use Rattle.tplt.proofs.head.key_of.Goals as goal

pub loop-left-init : goal.loop-left-init
unfolding key_of
loop-left-init c = let s = c.args.name.now in (omega arith, sym (take-length s), sym (ap key_of (drop-length s)))

-- the number is small where a byte is left
small : (s : List ℕ) (n k : ℕ) → Bytes s → 1 ≤ n → length s ≤ longest → k ≡ key_of (drop n s) → k < room 5
small s n k b l h e = omega (arith, e, key-room s b n l h)

pub overflow_mul-key : goal.overflow_mul-key
overflow_mul-key c =
    let l = c.loop-left in
    let h = small c.args.name.now (length l.left.now) l.key c.shared_slice_known-1.given c.in-len1-up.len_at_least c.requires l.invariant.2 in
    record { fits = omega arith }

pub overflow_add-key : goal.overflow_add-key
overflow_add-key c =
    let l = c.loop-left in
    let h = small c.args.name.now (length l.left.now) l.key c.shared_slice_known-1.given c.in-len1-up.len_at_least c.requires l.invariant.2 in
    let n = length l.left.now in
    let b : get_or l.left.now (n - 1) 0 ≡ get_or c.args.name.now (n - 1) 0 = ap (λ (x : List ℕ). get_or x (n - 1) 0) l.invariant.1 ∙ get_or-take n c.args.name.now (n - 1) 0 (omega (arith, c.in-len1-up.len_at_least)) in
    let f = (c.shared_slice_known-1.given (n - 1)).fits in
    record { fits = omega (arith, c.wide.ensures, b) }

pub loop-left-preserved : goal.loop-left-preserved
loop-left-preserved c =
    let l = c.loop-left in
    let s = c.args.name.now in
    let n = length l.left.now in
    let some = c.in-len1-up.len_at_least in
    let t : length (take (n - 1) l.left.now) ≡ n - 1 = length-take-le (n - 1) l.left.now (omega arith) in
    let m : length (take n s) ≡ n = length-take-le n s l.invariant.0 in
    let front : take (n - 1) (take n s) ≡ take (n - 1) s = sym (take-append-le (n - 1) (take n s) (drop n s) (omega (arith, m))) ∙ ap (take (n - 1)) (take-append-drop n s) in
    let b : get_or l.left.now (n - 1) 0 ≡ get_or s (n - 1) 0 = ap (λ (x : List ℕ). get_or x (n - 1) 0) l.invariant.1 ∙ get_or-take n s (n - 1) 0 (omega (arith, some)) in
    rw t (
      omega (arith, l.invariant.0),
      ap (take (n - 1)) l.invariant.1 ∙ front,
      (λ i. l.invariant.2 i * 256 + (c.wide.ensures ∙ b) i) ∙ key-next s c.shared_slice_known-1.given n some l.invariant.0,
    )

pub returns : goal.returns
returns c = let e : length c.loop-left.left.now ≡ 0 = omega (arith, c.in_default.len_below) in c.loop-left.invariant.2 ∙ ap (λ k. key_of (drop k c.args.name.now)) e
