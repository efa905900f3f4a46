-- Stepping from the start visits exactly the items that a run visits. The run of a sheet goes through the list that the steps find, and looks at the
-- front of it, to the item that is refused; of a sheet that is accepted it looks at every item. Assumes nothing.
use Prim.Native.Nat.{ℕ, ◌≤◌, ◌<◌}
use mathlib.Core.Path.{◌≡◌, sym, ◌∙◌, ap}
use mathlib.Core.Bool.{true}
use mathlib.Core.List.{List, [], ◌∷◌, ◌++◌}
use native.Mathlib.Omega.{arith}
use lib.ListN.{length}
use lib.Dec.{ltb}
use borrow.Author.Tests.{ltb-true, ltb-false, le-ltb, le-leb}
use denote.Ref.{Bor}
use Rattle.table.specs.Table.{soundb}
use Rattle.table.specs.Placing.{Outcome}
use Rattle.answer.specs.declared.TypeNo.{TypeNo}
use Rattle.answer.specs.declared.Refusal.{Refusal}
use Rattle.answer.specs.declared.Answer.{Answer}
use Rattle.answer.specs.declared.Answer.TheVariants.{Value, NoValue, Refused}
use Rattle.table.proofs.KindLaws.{split}
use Rattle.frame.specs.declared.Placed.{Placed}
use Rattle.frame.specs.declared.Item.TheVariants.{End}
use Rattle.frame.specs.Frame.{item_at, still, header_size, header_ok}
use Rattle.frame.proofs.FrameLaws.{framed}
use Rattle.names.specs.Names.{profiles}
use Rattle.step.specs.Effect.{State}
use Rattle.sheet.specs.Machine.{run_items, begun, type_sheet}
use Rattle.sheet.specs.Kept.{visited}
use Rattle.sheet.proofs.Running.{sheet-unsound, sheet-unheaded, sheet-unprofiled, sheet-runs}
use Rattle.sheet.proofs.Visiting.{visited-one, visited-front, last-valued, value_on, silent-on}
use Rattle.reader.specs.declared.Reader.{Reader}
use Rattle.reader.specs.Read.{start_of, step_of, Visits, last, more}
use Rattle.reader.proofs.Visits.{from_start}

-- past the last byte of a sheet stands the end
end-at : (s : List ℕ) → header_size ≤ length s → item_at s (length s) ≡ still End (length s)
unfolding item_at
end-at s h = rw (le-ltb (length s) header_size h, le-leb (length s) (length s) (omega arith))

-- FROM A READER ON, in any state of the machine, over the same sheet

-- a value is answered at the end: what the steps find was looked at, all of it
value-from : (profile : ℕ) → {r : Reader} {l : List Placed} → Visits r l → (st : State) (t : TypeNo) (m : ℕ) → (run_items profile r.sheet.now l st).answer ≡ Value t m → visited profile r.sheet.now l st ≡ l
value-from profile (last r i) st t m e = visited-one profile r.sheet.now (step_of r).found st
value-from profile (more r l i v) st t m e = value_on profile r.sheet.now (step_of r).found l st i t m (λ st' h. value-from profile v st' t m h) e

-- a reader that stands behind the last byte finds the end alone
at-end : {r : Reader} {l : List Placed} → Visits r l → header_size ≤ length r.sheet.now → r.at.0 ≡ length r.sheet.now → l ≡ still End (length r.sheet.now) ∷ []
at-end (last r i) h e = ap (λ (k : ℕ). item_at r.sheet.now k ∷ []) e ∙ ap (λ (x : Placed). x ∷ []) (end-at r.sheet.now h)
at-end (more r l i v) h e = let f = framed r.sheet.now r.at.0 i in absurd (omega (arith, f.after, f.within))

-- "no value" is answered at the last item: everything but the end was looked at
silent-from : (profile : ℕ) → {r : Reader} {l : List Placed} → Visits r l → (st : State) (m : ℕ) → (run_items profile r.sheet.now l st).answer ≡ NoValue m
    → l ≡ visited profile r.sheet.now l st ++ (still End (length r.sheet.now) ∷ [])
silent-from profile (last r i) st m e = absurd (last-valued profile r.sheet.now (step_of r).found st i m e)
silent-from profile (more r l i v) st m e =
    let f = framed r.sheet.now r.at.0 i in
    silent-on profile r.sheet.now (step_of r).found l st i (still End (length r.sheet.now)) m
    (at-end v (omega (arith, f.begins, f.after, f.within))) (λ st' h. silent-from profile v st' m h) e

-- FROM THE START

clash : ◌≡◌ {A = ℕ} 0 1 → ⊥
clash e = omega arith

module _ (profile : ℕ) (w : List ℕ) (n : ℕ) (sheet : Bor (List ℕ)) {l : List Placed} (v : Visits (start_of sheet) l) where
  abbrev s : List ℕ
  s = sheet.now

  -- what the run of the sheet looks at
  abbrev pub looked : List Placed
  looked = visited profile s l (begun w n)

  -- over a sound table, under a right header and in a known profile, the run goes through the list that the steps find
  pub run-visits : soundb w n ≡ true → header_ok s ≡ true → profile < profiles → type_sheet profile w n s ≡ run_items profile s l (begun w n)
  run-visits h k p = sym (sheet-runs profile w n s h k p) ∙ ap (λ (x : List Placed). run_items profile s x (begun w n)) (sym (from_start sheet v))

  -- it looks at the front of that list: every item that it looks at is found by the steps, in the same order and with none between
  pub run-front : (rest : List Placed) × (l ≡ looked ++ rest)
  run-front = visited-front profile s l (begun w n)

  -- an answer that is no refusal is the run's
  accepted : (a : Answer) → ((r : Refusal) → a ≡ Refused r → ⊥) → (type_sheet profile w n s).answer ≡ a → (run_items profile s l (begun w n)).answer ≡ a
  accepted a no-refusal e =
      split (soundb w n)
      (λ h.
      split (header_ok s)
      (λ k.
      split (ltb profile profiles)
      (λ b. ap (λ (o : Outcome). o.answer) (sym (run-visits h k (ltb-true profile profiles b))) ∙ e)
      (λ b. absurd (no-refusal _ (sym e ∙ ap (λ (o : Outcome). o.answer) (sym (sheet-unprofiled profile w n s h k (ltb-false profile profiles b)))))))
      (λ k. absurd (no-refusal _ (sym e ∙ ap (λ (o : Outcome). o.answer) (sym (sheet-unheaded profile w n s h k))))))
      (λ h. absurd (no-refusal _ (sym e ∙ ap (λ (o : Outcome). o.answer) (sym (sheet-unsound profile w n s h)))))

  -- a sheet with a value: it looks at the whole list
  pub run-whole : (t : TypeNo) (m : ℕ) → (type_sheet profile w n s).answer ≡ Value t m → looked ≡ l
  run-whole t m e = value-from profile v (begun w n) t m (accepted (Value t m) (λ r q. clash (cc)) e)

  -- a sheet without a value: it looks at the whole list but its end
  pub run-silent : (m : ℕ) → (type_sheet profile w n s).answer ≡ NoValue m → l ≡ looked ++ (still End (length s) ∷ [])
  run-silent m e = silent-from profile v (begun w n) m (accepted (NoValue m) (λ r q. clash (cc)) e)
