-- What a run looks at: the front of its list; one turn unrolled; and how an item can be the last. Assumes nothing.
use Prim.Native.Nat.{ℕ, ◌-◌}
use mathlib.Core.Path.{◌≡◌, refl, sym, ◌∙◌, ap}
use mathlib.Core.Bool.{Bool, true, false, ◌&&◌, cond}
use mathlib.Core.List.{List, [], ◌∷◌, ◌++◌}
use native.Mathlib.Omega.{arith}
use lib.Dec.{eqb, ltb, leb}
use lib.ListN.{length, get_or}
use borrow.Author.Tests.{eqb-true}
use Rattle.table.specs.Table.{allowedb}
use Rattle.held.specs.Held.{number_of}
use Rattle.answer.specs.Answer.{accept, refuse}
use Rattle.table.specs.Placing.{Outcome}
use Rattle.answer.specs.declared.TypeNo.{TypeNo}
use Rattle.answer.specs.declared.Reason.TheVariants.{Stack}
use Rattle.answer.specs.declared.Answer.{Answer}
use Rattle.answer.specs.declared.Answer.TheVariants.{Value, NoValue, Refused}
use Rattle.frame.specs.Frame.{is_item}
use Rattle.frame.specs.declared.Item.{Item}
use Rattle.frame.specs.declared.Item.TheVariants.{Push, Unary, Binary, Call, CallTemplate, Take, End, Bad}
use Rattle.frame.specs.declared.Placed.{Placed}
use Rattle.step.specs.Effect.{most, State, height, below, Effect, goes, silent, ends, stops, stop, onto, is_valued, landing, push_effect, unary_effect, binary_effect, call_effect, template_effect, take_effect, effect_of}
use Rattle.sheet.specs.Machine.{end_answer, left_answer, after, Turned, more, done, turn_of, run_items}
use Rattle.sheet.specs.Kept.{beyond, visited}
use Rattle.sheet.proofs.Demand1.{run_on, run-over}

-- ONE TURN

module _ (profile : ℕ) (s : List ℕ) (x : Placed) (xs : List Placed) (st : State) where
  pub visited-on : (st' : State) → turn_of profile s x st ≡ more st' → visited profile s (x ∷ xs) st ≡ x ∷ visited profile s xs st'
  unfolding visited beyond
  visited-on st' h = rw h

  pub visited-over : (o : Outcome) → turn_of profile s x st ≡ done o → visited profile s (x ∷ xs) st ≡ x ∷ []
  unfolding visited beyond
  visited-over o h = rw h

-- a list of one is looked at

visited-none : (profile : ℕ) (s : List ℕ) (st : State) → visited profile s [] st ≡ []
unfolding visited
visited-none profile s st = refl

pub visited-one : (profile : ℕ) (s : List ℕ) (x : Placed) (st : State) → visited profile s (x ∷ []) st ≡ x ∷ []
visited-one profile s x st = go (turn_of profile s x st) refl
  where
    go : (t : Turned) → turn_of profile s x st ≡ t → visited profile s (x ∷ []) st ≡ x ∷ []
    go (more st') h = visited-on profile s x [] st st' h ∙ ap (λ (l : List Placed). x ∷ l) (visited-none profile s st')
    go (done o) h = visited-over profile s x [] st o h

-- THE FRONT of the list, and nothing else, is looked at

pub visited-front : (profile : ℕ) (s : List ℕ) (xs : List Placed) (st : State) → (rest : List Placed) × (xs ≡ visited profile s xs st ++ rest)
unfolding visited
visited-front profile s [] st = ([], refl)
visited-front profile s (x ∷ xs) st = go (turn_of profile s x st) refl (λ st'. visited-front profile s xs st')
  where
    go : (t : Turned) → turn_of profile s x st ≡ t → ((st' : State) → (rest : List Placed) × (xs ≡ visited profile s xs st' ++ rest))
        → (rest : List Placed) × (x ∷ xs ≡ visited profile s (x ∷ xs) st ++ rest)
    go (more st') h ih = ((ih st').0, ap (λ (l : List Placed). x ∷ l) (ih st').1 ∙ ap (λ (l : List Placed). l ++ (ih st').0) (sym (visited-on profile s x xs st st' h)))
    go (done o) h ih = (xs, ap (λ (l : List Placed). l ++ xs) (sym (visited-over profile s x xs st o h)))

-- AN ITEM does not end the sheet: it goes on, leaves no value, or is refused

abbrev Item-like : Effect → Type 0
Item-like (goes st) = Unit {0}
Item-like (silent st) = Unit {0}
Item-like (ends st) = ⊥
Item-like (stops r w) = Unit {0}

either : (b : Bool) (x y : Effect) → Item-like x → Item-like y → Item-like (cond b x y)
either true x y p q = p
either false x y p q = q

on_stack : (vs : List ℕ) (b : Bool) (o : Outcome) → Item-like (onto vs b o)
unfolding onto
on_stack vs b o = go o.answer refl
  where
    go : (a : Answer) → o.answer ≡ a → Item-like (onto vs b o)
    go (Value t m) e = rw e tt
    go (NoValue m) e = rw e tt
    go (Refused r) e = rw e tt

landed : (place : ℕ) (st : State) (k : ℕ) (b : Bool) (o : Outcome) → Item-like (landing place st k b o)
landed place st k b o = either (leb most (height st - k) && is_valued o.answer) (stop Stack place st) (onto (below k st) b o) tt (on_stack (below k st) b o)

module _ (profile place : ℕ) (st : State) (s : List ℕ) where
  item-effect : (i : Item) → is_item i ≡ true → Item-like (effect_of profile place st s i)
  unfolding effect_of push_effect unary_effect binary_effect call_effect template_effect take_effect
  item-effect (Push t m) h = either (ltb t.0 st.used) _ _ (either (ltb (height st) most) _ _ tt tt) tt
  item-effect (Unary op) h = either (leb 1 (height st)) _ _ (on_stack _ _ _) tt
  item-effect (Binary op) h = either (leb 2 (height st)) _ _ (on_stack _ _ _) tt
  item-effect (Call k name) h = either (leb k (height st)) _ _ (landed place st k _ _) tt
  item-effect (CallTemplate t k name) h = either (leb k (height st)) _ _ (either (ltb t.0 st.used) _ _ (landed place st k _ _) tt) tt
  item-effect (Take kind p q elem m) h = either (allowedb st.words st.used _) _ _ (either (ltb (height st) most) _ _ (on_stack _ _ _) tt) tt
  item-effect End h = absurd (let z : ◌≡◌ {A = ℕ} 0 1 = cc in omega arith)
  item-effect Bad h = absurd (let z : ◌≡◌ {A = ℕ} 0 1 = cc in omega arith)

-- a turn at an item that answers gives no value; and where it accepts, nothing follows the item

abbrev Closing : ℕ → ℕ → Answer → Type 0
Closing size next (Value t m) = ⊥
Closing size next (NoValue m) = next ≡ size
Closing size next (Refused r) = Unit {0}

left-closing : (size place next high used : ℕ) → Closing size next (left_answer size place next high used)
left-closing size place next high used = go (eqb high 0) (eqb next size) refl
  where
    go : (a b : Bool) → eqb next size ≡ b → Closing size next (cond (a && b) (NoValue used) (refuse Stack place used))
    go true true e = eqb-true next size e
    go true false e = tt
    go false b e = tt

abbrev Closed : ℕ → ℕ → Turned → Type 0
Closed size next (more st) = Unit {0}
Closed size next (done o) = Closing size next o.answer

after-item : (s : List ℕ) (place next : ℕ) (e : Effect) → Item-like e → Closed (length s) next (after s place next e)
unfolding after
after-item s place next (goes st) h = tt
after-item s place next (silent st) h = left-closing (length s) place next (height st) st.used
after-item s place next (ends st) h = absurd h
after-item s place next (stops r w) h = tt

item-closed : (profile : ℕ) (s : List ℕ) (x : Placed) (st : State) → is_item x.item ≡ true → Closed (length s) x.next.0 (turn_of profile s x st)
unfolding turn_of
item-closed profile s x st h = after-item s x.at.0 x.next.0 (effect_of profile x.at.0 st s x.item) (item-effect profile x.at.0 st s x.item h)

module _ (profile : ℕ) (s : List ℕ) (x : Placed) (st : State) (o : Outcome) (i : is_item x.item ≡ true) (h : turn_of profile s x st ≡ done o) where
  closing : Closing (length s) x.next.0 o.answer
  closing = rw h at (item-closed profile s x st i)

  pub item-no-value : (t : TypeNo) (m : ℕ) → o.answer ≡ Value t m → ⊥
  item-no-value t m e = rw e at closing

  pub item-is-last : (m : ℕ) → o.answer ≡ NoValue m → x.next.0 ≡ length s
  item-is-last m e = rw e at closing

-- where no item stands the sheet ends with a value or is refused

abbrev Valued : Turned → Type 0
Valued (more st) = ⊥
Valued (done o) = (m : ℕ) → o.answer ≡ NoValue m → ⊥

no-clash : {P : Type 0} → ◌≡◌ {A = ℕ} 0 1 → P
no-clash e = absurd (omega arith)

end-valued : (size : ℕ) (vs : List ℕ) (used m : ℕ) → end_answer size vs used ≡ NoValue m → ⊥
end-valued size vs used m = go (eqb (length vs) 1)
  where
    go : (b : Bool) → cond b (accept (number_of (get_or vs 0 0)) used) (refuse Stack size used) ≡ NoValue m → ⊥
    go true h = no-clash (cc)
    go false h = no-clash (cc)

no-item-valued : (profile : ℕ) (s : List ℕ) (place next : ℕ) (st : State) (i : Item) → is_item i ≡ false → Valued (after s place next (effect_of profile place st s i))
unfolding after effect_of
no-item-valued profile s place next st (Push t m) h = no-clash (cc)
no-item-valued profile s place next st (Unary op) h = no-clash (cc)
no-item-valued profile s place next st (Binary op) h = no-clash (cc)
no-item-valued profile s place next st (Call k name) h = no-clash (cc)
no-item-valued profile s place next st (CallTemplate t k name) h = no-clash (cc)
no-item-valued profile s place next st (Take kind p q elem m) h = no-clash (cc)
no-item-valued profile s place next st End h = λ m e. end-valued (length s) st.stack st.used m e
no-item-valued profile s place next st Bad h = λ m e. no-clash (cc)

-- THE WHOLE LIST, one item more: over a sheet that is accepted, every item is looked at

-- the last of the list is looked at; where no item stands, the answer is not "no value"
pub last-valued : (profile : ℕ) (s : List ℕ) (x : Placed) (st : State) → is_item x.item ≡ false → (m : ℕ) → (run_items profile s (x ∷ []) st).answer ≡ NoValue m → ⊥
unfolding turn_of
last-valued profile s x st i m e = go (turn_of profile s x st) refl (no-item-valued profile s x.at.0 x.next.0 st x.item i)
  where
    go : (t : Turned) → turn_of profile s x st ≡ t → Valued t → ⊥
    go (more st') h f = f
    go (done o) h f = f m (ap (λ (p : Outcome). p.answer) (sym (run-over profile s x [] st o h).0) ∙ e)

module _ (profile : ℕ) (s : List ℕ) (x : Placed) (xs : List Placed) (st : State) (i : is_item x.item ≡ true) where
  pub value_on : (t : TypeNo) (m : ℕ) → ((st' : State) → (run_items profile s xs st').answer ≡ Value t m → visited profile s xs st' ≡ xs)
      → (run_items profile s (x ∷ xs) st).answer ≡ Value t m → visited profile s (x ∷ xs) st ≡ x ∷ xs
  value_on t m ih e = go (turn_of profile s x st) refl
    where
      go : (u : Turned) → turn_of profile s x st ≡ u → visited profile s (x ∷ xs) st ≡ x ∷ xs
      go (more st') h =
          visited-on profile s x xs st st' h ∙ ap (λ (l : List Placed). x ∷ l) (ih st' (ap (λ (p : Outcome). p.answer) (sym (run_on profile s x xs st st' h).0) ∙ e))
      go (done o) h = absurd (item-no-value profile s x st o i h t m (ap (λ (p : Outcome). p.answer) (sym (run-over profile s x xs st o h).0) ∙ e))

  -- y: the end, which follows the item where that is the last
  pub silent-on : (y : Placed) (m : ℕ) → (x.next.0 ≡ length s → xs ≡ y ∷ []) → ((st' : State) → (run_items profile s xs st').answer ≡ NoValue m → xs ≡ visited profile s xs st' ++ (y ∷ []))
      → (run_items profile s (x ∷ xs) st).answer ≡ NoValue m → x ∷ xs ≡ visited profile s (x ∷ xs) st ++ (y ∷ [])
  silent-on y m end ih e = go (turn_of profile s x st) refl
    where
      go : (u : Turned) → turn_of profile s x st ≡ u → x ∷ xs ≡ visited profile s (x ∷ xs) st ++ (y ∷ [])
      go (more st') h =
          ap (λ (l : List Placed). x ∷ l) (ih st' (ap (λ (p : Outcome). p.answer) (sym (run_on profile s x xs st st' h).0) ∙ e))
          ∙ ap (λ (l : List Placed). l ++ (y ∷ [])) (sym (visited-on profile s x xs st st' h))
      go (done o) h =
          ap (λ (l : List Placed). x ∷ l) (end (item-is-last profile s x st o i h m (ap (λ (p : Outcome). p.answer) (sym (run-over profile s x xs st o h).0) ∙ e)))
          ∙ ap (λ (l : List Placed). l ++ (y ∷ [])) (sym (visited-over profile s x xs st o h))
