-- Of the header, an item looks only at whether its version has marks: two such sheets with the same bytes after it run alike. Assumes nothing.
use Prim.Native.Nat.{ℕ, zero, suc, ◌≤◌}
use mathlib.Core.Path.{◌≡◌, refl, ◌∙◌, ap}
use mathlib.Core.Bool.{Bool, true, false, cond}
use mathlib.Core.List.{List, [], ◌∷◌}
use native.Mathlib.Omega.{arith}
use lib.ListN.{length, take}
use Rattle.answer.specs.Answer.{numbers_of, marked_by}
use Rattle.answer.specs.declared.Typed.{Typed}
use Rattle.table.specs.Placing.{Outcome, GaveMarked}
use Rattle.frame.specs.declared.Part.{Part}
use Rattle.frame.specs.declared.Item.{Item}
use Rattle.frame.specs.declared.Item.TheVariants.{Push, Unary, Binary, Call, CallTemplate, Take, End, Bad}
use Rattle.frame.specs.declared.Placed.{Placed}
use Rattle.frame.specs.Frame.{marked, header_size, item_at, is_item, items_within, items_from}
use Rattle.frame.proofs.FrameLaws.{Framed, item-elim}
use Rattle.frame.proofs.Parts.{Alike, alike_from, items_alike}
use Rattle.step.specs.Effect.{State, Effect, goes, silent, ends, stops, bytes_of, unary_effect, binary_effect, call_effect, template_effect, effect_of}
use Rattle.sheet.specs.Machine.{Turned, more, done, after, turn_of, onward, run_items, end_mark, onward_mark, runs_items, begun}

module _ (profile : ℕ) (s t : List ℕ) (a : Alike s t) where
  pub name-alike : (name : Part) → header_size ≤ name.start.0 → bytes_of s name ≡ bytes_of t name
  name-alike name h = ap (take name.length) (alike_from a name.start.0 h)

  effect-alike : (at place : ℕ) (st : State) → effect_of profile place st s (item_at s at).item ≡ effect_of profile place st t (item_at s at).item
  unfolding effect_of
  effect-alike at place st = item-elim s at (λ x. effect_of profile place st s x.item ≡ effect_of profile place st t x.item) refl (λ _. refl) (λ i n _ f. go i n f)
    where
      go : (i : Item) (n : ℕ) → Framed s at i n → effect_of profile place st s i ≡ effect_of profile place st t i
      go (Push x m) n f = refl
      go (Unary o) n f = ap (λ (m : Bool). unary_effect m place st o) a.marking
      go (Binary o) n f = ap (λ (m : Bool). binary_effect m place st o) a.marking
      go (Call k name) n f =
          ap (λ (b : List ℕ). call_effect (marked s) profile place st b k) (name-alike name (omega (arith, f.name.3, f.begins))) ∙ ap (λ (m : Bool). call_effect m profile place st (bytes_of t name) k) a.marking
      go (CallTemplate x k name) n f =
          ap (λ (b : List ℕ). template_effect (marked s) profile place st b x.0 k) (name-alike name (omega (arith, f.name.3, f.begins)))
          ∙ ap (λ (m : Bool). template_effect m profile place st (bytes_of t name) x.0 k) a.marking
      go (Take kind p q elem m) n f = refl
      go End n f = refl
      go Bad n f = refl

  after-alike : (place next : ℕ) (e : Effect) → after s place next e ≡ after t place next e
  unfolding after
  after-alike place next (goes st) = refl
  after-alike place next (silent st) = rw a.long
  after-alike place next (ends st) = rw a.long
  after-alike place next (stops r w) = refl

  pub turn-alike : (at : ℕ) (st : State) → turn_of profile s (item_at s at) st ≡ turn_of profile t (item_at s at) st
  unfolding turn_of
  turn-alike at st =
      let x = item_at s at in
      after-alike x.at.0 x.next.0 (effect_of profile x.at.0 st s x.item) ∙ ap (after t x.at.0 x.next.0) (effect-alike at x.at.0 st)

  onward-alike : (u : Turned) (f g : State → Outcome) → ((st : State) → f st ≡ g st) → onward u f ≡ onward u g
  unfolding onward
  onward-alike (more st) f g h = h st
  onward-alike (done o) f g h = refl

  -- what follows an item
  rest-alike : (b : Bool) (l : List Placed) (st : State) → run_items profile s [] st ≡ run_items profile t [] st → run_items profile s l st ≡ run_items profile t l st → run_items profile s (cond b l []) st ≡ run_items profile t (cond b l []) st
  rest-alike true l st e f = f
  rest-alike false l st e f = e

  none_alike : (st : State) → run_items profile s [] st ≡ run_items profile t [] st
  unfolding run_items
  none_alike st = rw a.long

  one_alike : (at : ℕ) (l : List Placed) (st : State) → ((st' : State) → run_items profile s l st' ≡ run_items profile t l st') → run_items profile s (item_at s at ∷ l) st ≡ run_items profile t (item_at s at ∷ l) st
  unfolding run_items
  one_alike at l st h = onward-alike (turn_of profile s (item_at s at) st) (run_items profile s l) (run_items profile t l) h ∙ ap (λ (u : Turned). onward u (run_items profile t l)) (turn-alike at st)

  within-alike : (n at : ℕ) (st : State) → run_items profile s (items_within n s at) st ≡ run_items profile t (items_within n s at) st
  unfolding items_within
  within-alike zero at st = one_alike at [] st none_alike
  within-alike (suc n) at st =
      one_alike at (cond (is_item (item_at s at).item) (items_within n s (item_at s at).next.0) []) st
      (λ st'. rest-alike (is_item (item_at s at).item) (items_within n s (item_at s at).next.0) st' (none_alike st') (within-alike n (item_at s at).next.0 st'))

  pub run-alike : (at : ℕ) (st : State) → run_items profile s (items_from s at) st ≡ run_items profile t (items_from t at) st
  unfolding items_from
  run-alike at st = within-alike (length s) at st ∙ ap (λ (l : List Placed). run_items profile t l st) (items_alike a at)

  -- AND WITH ONE MARK

  onward-marked : (u : Turned) (m : Bool) (f g : State → Bool) → ((st : State) → f st ≡ g st) → onward_mark u m f ≡ onward_mark u m g
  unfolding onward_mark
  onward-marked (more st) m f g h = h st
  onward-marked (done o) m f g h = refl

  rest-marked : (b : Bool) (l : List Placed) (st : State) → runs_items profile s [] st ≡ runs_items profile t [] st → runs_items profile s l st ≡ runs_items profile t l st → runs_items profile s (cond b l []) st ≡ runs_items profile t (cond b l []) st
  rest-marked true l st e f = f
  rest-marked false l st e f = e

  none-marked : (st : State) → runs_items profile s [] st ≡ runs_items profile t [] st
  unfolding runs_items
  none-marked st = refl

  one-marked : (at : ℕ) (l : List Placed) (st : State) → ((st' : State) → runs_items profile s l st' ≡ runs_items profile t l st') → runs_items profile s (item_at s at ∷ l) st ≡ runs_items profile t (item_at s at ∷ l) st
  unfolding runs_items
  one-marked at l st h =
      let x = item_at s at in
      let m = end_mark (effect_of profile x.at.0 st s x.item) in
      onward-marked (turn_of profile s x st) m (runs_items profile s l) (runs_items profile t l) h
      ∙ ap (λ (u : Turned). onward_mark u m (runs_items profile t l)) (turn-alike at st)
      ∙ ap (λ (e : Effect). onward_mark (turn_of profile t x st) (end_mark e) (runs_items profile t l)) (effect-alike at x.at.0 st)

  within-marked : (n at : ℕ) (st : State) → runs_items profile s (items_within n s at) st ≡ runs_items profile t (items_within n s at) st
  unfolding items_within
  within-marked zero at st = one-marked at [] st none-marked
  within-marked (suc n) at st =
      one-marked at (cond (is_item (item_at s at).item) (items_within n s (item_at s at).next.0) []) st
      (λ st'. rest-marked (is_item (item_at s at).item) (items_within n s (item_at s at).next.0) st' (none-marked st') (within-marked n (item_at s at).next.0 st'))

  pub mark-alike : (at : ℕ) (st : State) → runs_items profile s (items_from s at) st ≡ runs_items profile t (items_from t at) st
  unfolding items_from
  mark-alike at st = within-marked (length s) at st ∙ ap (λ (l : List Placed). runs_items profile t l st) (items_alike a at)

  -- so what was promised of the one is promised of the other
  pub gave-alike : (w : List ℕ) (n : ℕ) {r : Typed} {v : List ℕ}
      → GaveMarked (run_items profile s (items_from s header_size) (begun w n)) (runs_items profile s (items_from s header_size) (begun w n)) r v
      → GaveMarked (run_items profile t (items_from t header_size) (begun w n)) (runs_items profile t (items_from t header_size) (begun w n)) r v
  gave-alike w n g =
      let e = run-alike header_size (begun w n) in
      let f = mark-alike header_size (begun w n) in
      record {
        reply = g.reply ∙ ap (λ (o : Outcome). marked_by (runs_items profile s (items_from s header_size) (begun w n)) o.answer) e ∙ ap (λ (m : Bool). marked_by m (run_items profile t (items_from t header_size) (begun w n)).answer) f;
        numbers = g.numbers ∙ ap (λ (o : Outcome). numbers_of o.answer) e;
        words = g.words ∙ ap (λ (o : Outcome). o.words) e;
      }
