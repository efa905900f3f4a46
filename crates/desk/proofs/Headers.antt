-- Of the header, the search looks only at whether its version has marks; and where the header is not right, nothing is told. Assumes nothing.
use Prim.Native.Nat.{ℕ, zero, suc}
use mathlib.Core.Path.{◌≡◌, refl, sym, ◌∙◌, ap}
use mathlib.Core.Bool.{Bool, true, false, cond}
use mathlib.Core.List.{List, [], ◌∷◌}
use lib.ListN.{length}
use Rattle.answer.specs.Answer.{refuse}
use Rattle.answer.specs.declared.Answer.{Answer}
use Rattle.answer.specs.declared.Reason.TheVariants.{Framing}
use Rattle.table.specs.Table.{scalars}
use Rattle.table.specs.Placing.{Outcome}
use Rattle.frame.specs.Frame.{header_ok, header_size, item_at, is_item, items_within, items_from}
use Rattle.frame.specs.declared.Placed.{Placed}
use Rattle.frame.proofs.Parts.{Alike, item-alike, items_alike}
use Rattle.step.specs.Effect.{State}
use Rattle.sheet.specs.Machine.{Turned, more, done, turn_of, begun}
use Rattle.sheet.proofs.Headers.{turn-alike}
use Rattle.sheet.proofs.Running.{sheet-unheaded}
use Rattle.lines.specs.Lines.{start, outcome}
use Rattle.lines.proofs.Valued.{start-sound}
use Rattle.desk.specs.Told.{Told, nothing, before, is_told, going_on, told_in, told_of}
use Rattle.desk.specs.inner.Code.{told_by, Standing, Finds}
use Rattle.desk.specs.declared.Stand.{Stand}
use Rattle.std.proofs.Common.{Option, Some, None}

-- going on from a turn, to the same
going-alike : (u : Turned) (f g : State → Told) → ((st : State) → f st ≡ g st) → going_on u f ≡ going_on u g
unfolding going_on
going-alike (more st) f g h = h st
going-alike (done o) f g h = refl

module _ (profile : ℕ) (a : Answer) where
  none_in : (s t : List ℕ) (st : State) → told_in profile s a [] st ≡ told_in profile t a [] st
  unfolding told_in
  none_in s t st = refl

  -- TWO SHEETS ALIKE
  module _ (s t : List ℕ) (l : Alike s t) where
    rest-alike : (b : Bool) (xs : List Placed) (st : State) → told_in profile s a xs st ≡ told_in profile t a xs st → told_in profile s a (cond b xs []) st ≡ told_in profile t a (cond b xs []) st
    rest-alike true xs st e = e
    rest-alike false xs st e = none_in s t st

    one_alike : (at : ℕ) (xs : List Placed) (st : State) → ((st' : State) → told_in profile s a xs st' ≡ told_in profile t a xs st') → told_in profile s a (item_at s at ∷ xs) st ≡ told_in profile t a (item_at s at ∷ xs) st
    unfolding told_in
    one_alike at xs st h =
        let x = item_at s at in
        ap (λ (k : ℕ). cond (is_told a k x) (before st x.item) (going_on (turn_of profile s x st) (told_in profile s a xs))) l.long
        ∙ ap (λ (y : Told). cond (is_told a (length t) x) (before st x.item) y)
        (going-alike (turn_of profile s x st) (told_in profile s a xs) (told_in profile t a xs) h ∙ ap (λ (u : Turned). going_on u (told_in profile t a xs)) (turn-alike profile s t l at st))

    within-alike : (n at : ℕ) (st : State) → told_in profile s a (items_within n s at) st ≡ told_in profile t a (items_within n s at) st
    unfolding items_within
    within-alike zero at st = one_alike at [] st (none_in s t)
    within-alike (suc n) at st =
        one_alike at (cond (is_item (item_at s at).item) (items_within n s (item_at s at).next.0) []) st
        (λ st'. rest-alike (is_item (item_at s at).item) (items_within n s (item_at s at).next.0) st' (within-alike n (item_at s at).next.0 st'))

    told-alike : (w : List ℕ) (n : ℕ) → told_of profile w n s a ≡ told_of profile w n t a
    unfolding items_from
    told-alike w n = within-alike (length s) header_size (begun w n) ∙ ap (λ (xs : List Placed). told_in profile t a xs (begun w n)) (items_alike l header_size)

    standing-alike : (r : Option Stand) (vals words : List ℕ) → Standing s r vals words → Standing t r vals words
    unfolding Standing
    standing-alike None vals words h = tt
    standing-alike (Some r) vals words h = (h.0, h.1 ∙ item-alike l r.placed.at.0)

    pub finds-alike : (w : List ℕ) (n : ℕ) (r : Option Stand) (vals words : List ℕ) → Finds s (told_of profile w n s a) r vals words → Finds t (told_of profile w n t a) r vals words
    finds-alike w n r vals words f = record { told = f.told ∙ told-alike w n; standing = standing-alike r vals words f.standing }

-- A REFUSAL FOR THE HEADER tells of no item
still : (u : Turned) → going_on u (λ st. nothing) ≡ nothing
unfolding going_on
still (more st) = refl
still (done o) = refl

none_told : (profile : ℕ) (s : List ℕ) (n : ℕ) (xs : List Placed) (st : State) → told_in profile s (refuse Framing 0 n) xs st ≡ nothing
unfolding told_in is_told
none_told profile s n [] st = refl
none_told profile s n (x ∷ xs) st = going-alike (turn_of profile s x st) (told_in profile s (refuse Framing 0 n) xs) (λ st'. nothing) (none_told profile s n xs) ∙ still (turn_of profile s x st)

pub finds-nothing : (profile : ℕ) (s : List ℕ) → header_ok s ≡ false → (vals words : List ℕ) → Finds s (told_of profile start scalars s (outcome profile s).answer) None vals words
unfolding told_by Standing
finds-nothing profile s h vals words =
    record {
      told = sym (ap (λ (o : Outcome). told_of profile start scalars s o.answer) (sym (sheet-unheaded profile start scalars s start-sound h)) ∙ none_told profile s scalars (items_from s header_size) (begun start scalars));
      standing = tt;
    }
