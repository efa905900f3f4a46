-- Stepping from a reader on finds exactly the items of the sheet from its place on, in their order, and no other list; from the start, those from
-- byte 3 on. By the unrolled list of items (`frame`'s `ItemsLaws`), and, for a list to be found at all, by what is left of the sheet. Assumes nothing.
use Prim.Native.Nat.{ℕ, zero, suc, ◌+◌, ◌≤◌}
use mathlib.Core.Path.{◌≡◌, refl, sym, ap, ◌∙◌}
use mathlib.Core.List.{List, [], ◌∷◌}
use mathlib.Core.Bool.{Bool, true, false}
use native.Mathlib.Omega.{arith}
use lib.ListN.{length}
use denote.Ref.{Bor}
use Rattle.frame.specs.declared.Placed.{Placed}
use Rattle.frame.specs.Frame.{is_item, items_from, header_size}
use Rattle.frame.proofs.FrameLaws.{framed}
use Rattle.frame.proofs.ItemsLaws.{items-from}
use Rattle.reader.specs.declared.Reader.{Reader}
use Rattle.reader.specs.Read.{start_of, step_of, Visits, last, more}

-- the items of the reader's sheet from its place on
abbrev ahead : Reader → List Placed
ahead r = items_from r.sheet.now r.at.0

-- the list of items, where the last stands and where one more does
at_last : (r : Reader) → is_item (step_of r).found.item ≡ false → ahead r ≡ (step_of r).found ∷ []
at_last r e = items-from r.sheet.now r.at.0 ∙ rw e refl

one_more : (r : Reader) → is_item (step_of r).found.item ≡ true → ahead r ≡ (step_of r).found ∷ ahead (step_of r).rest
one_more r e = items-from r.sheet.now r.at.0 ∙ rw e refl

pub visited : {r : Reader} {l : List Placed} → Visits r l → l ≡ ahead r
visited (last r e) = sym (at_last r e)
visited (more r l e v) = ap (λ (k : List Placed). (step_of r).found ∷ k) (visited v) ∙ sym (one_more r e)

-- a run is found where no more than n bytes are left: with none left no item stands, and after an item fewer are left
run_none : (r : Reader) → length r.sheet.now ≤ r.at.0 → (b : Bool) → is_item (step_of r).found.item ≡ b → Visits r (ahead r)
run_none r h false e = rw (at_last r e) (last r e)
run_none r h true e =
    let f = framed r.sheet.now r.at.0 e in
    let z : ⊥ = omega (arith, f.after, f.within) in
    elim z [ ]

run_more : (n : ℕ) (r : Reader) → length r.sheet.now ≤ r.at.0 + suc n
    → ((t : Reader) → length t.sheet.now ≤ t.at.0 + n → Visits t (ahead t))
    → (b : Bool) → is_item (step_of r).found.item ≡ b → Visits r (ahead r)
run_more n r h k false e = rw (at_last r e) (last r e)
run_more n r h k true e =
    let f = framed r.sheet.now r.at.0 e in
    rw (one_more r e) (more r (ahead (step_of r).rest) e (k (step_of r).rest (omega (arith, f.after))))

runs : (n : ℕ) (r : Reader) → length r.sheet.now ≤ r.at.0 + n → Visits r (ahead r)
runs zero r h = run_none r (omega arith) (is_item (step_of r).found.item) refl
runs (suc n) r h = run_more n r h (λ t k. runs n t k) (is_item (step_of r).found.item) refl

pub visits : (r : Reader) → Visits r (ahead r)
visits r = runs (length r.sheet.now) r (omega arith)

-- from the start: one list, and it is that of the sheet's items from byte 3 on
pub from_start : (sheet : Bor (List ℕ)) {l : List Placed} → Visits (start_of sheet) l → l ≡ items_from sheet.now header_size
from_start sheet v = visited v
