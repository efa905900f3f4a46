-- What the code finds by operands' numbers, of which some is running or none, is what the definitions say by types and marks: which overload is chosen, that one is where the call is
-- accepted, that none fits where it is refused, and which fitting ones are dropped. Assumes nothing.
use Prim.Native.Nat.{ℕ, suc, ◌≤◌, ◌<◌}
use mathlib.Core.Path.{◌≡◌, refl, sym, ◌∙◌, ap, ap₂, subst}
use mathlib.Core.Logic.{⊎_elim}
use mathlib.Core.Bool.{Bool, true, false, not, cond}
use mathlib.Core.List.Memᴰ
use mathlib.Core.List.{List, [], ◌∷◌, map, Memᴰ}
use native.Mathlib.Omega.{arith}
use lib.Dec.{T, ltb}
use lib.ListN.{length, get_or, length-map}
use borrow.Author.Tests.{ltb-true, ltb-false, lt-ltb, le-ltb}
use Rattle.conv.specs.Types.{Ty, abstract_ty}
use Rattle.conv.specs.Rank.{both}
use Rattle.conv.proofs.Finite.{both-pair}
use Rattle.overload.specs.Overload.{Overload, or, fits, no_more, less, same_overload, yields, all_yield, is_preferred, Judged, Resolved, chosen, judge}
use Rattle.overload.specs.Overload.Judged.{gives, none_fits}
use Rattle.overload.specs.Marks.{any_running, any_abstract, dropped, remains, sifted, remaining, remaining_in, running_abstract}
use Rattle.overload.specs.Rows.{row_at, overloads_of, of_row, operand_count, judge_row}
use Rattle.overload.specs.inner.Code.{operand, code_of, kept}
use Rattle.overload.proofs.Counts.{one-count}
use Rattle.overload.proofs.Sieve.{of-sifted}
use Rattle.overload.proofs.OnePreferred.{row-one-is-preferred}
use Rattle.overload.proofs.Marks.{to-kept, from-kept, sifted-resolved, never-empties}
use Rattle.overload.proofs.Operands.{all_formed, codes_of, params_of, fits_by, no-more-by, less_by}
use Rattle.listing.specs.Listing.{no_overload, overload_at}
use Rattle.weigh.specs.Weigh.{first_by, first_miss}
use Rattle.weigh.proofs.Firsts.{missed, unmissed, some-abstract}
use Rattle.choice.specs.inner.Chosen.{chosen_by}
use Rattle.reasons.specs.Reasons.{first_over, is_chosen, chosen_of, lost_line, dropped_line}

same_bool : (a b : Bool) → (T a → T b) → (T b → T a) → a ≡ b
same_bool true true f g = refl
same_bool true false f g = absurd (f tt)
same_bool false true f g = absurd (g tt)
same_bool false false f g = refl

pub no_eq : (b : Bool) → (T b → ⊥) → b ≡ false
no_eq true h = absurd (h tt)
no_eq false h = refl

pub clash : true ≡ false → ⊥
clash e = subst T e tt

or_yes : (a : Bool) → or a true ≡ true
unfolding or
or_yes true = refl
or_yes false = refl

both-no : (a : Bool) → both a false ≡ false
unfolding both
both-no true = refl
both-no false = refl

-- THE FIRST OF A LIST that passes a test

first-over : (g h : Overload → Bool) (os : List Overload) → ((o : Overload) → Memᴰ o os → g o ≡ h o) → first_over g os ≡ get_or os (first_by h os) no_overload
unfolding first_over first_by
first-over g h [] e = refl
first-over g h (o ∷ os) e =
    ap (λ (b : Bool). cond b o (first_over g os)) (e o (Memᴰ.head refl)) ∙ go (h o) (first-over g h os (λ p m. e p (Memᴰ.tail m)))
  where
    go : (b : Bool) → first_over g os ≡ get_or os (first_by h os) no_overload → cond b o (first_over g os) ≡ get_or (o ∷ os) (cond b 0 (suc (first_by h os))) no_overload
    go true ih = refl
    go false ih = ih

first_below : (h : Overload → Bool) (os : List Overload) (o : Overload) → Memᴰ o os → T (h o) → first_by h os < length os
unfolding first_by
first_below h [] o m t = absurd (Memᴰ.not-nil m)
first_below h (p ∷ ps) o m t = go (h p) refl (λ n. first_below h ps o n t)
  where
    go : (b : Bool) → h p ≡ b → (Memᴰ o ps → first_by h ps < length ps) → cond b 0 (suc (first_by h ps)) < suc (length ps)
    go true e ih = omega arith
    go false e ih = let l : first_by h ps < length ps = ⊎_elim (λ q. absurd (subst T (ap h q ∙ e) t)) ih (Memᴰ.cases_cons m) in omega arith

-- A CALL THAT GIVES A TYPE has an overload that is preferred

given : Judged → Bool
given (gives t) = true
given none_fits = false

chosen-in : (os : List Overload) (xs : List Ty) (t : Ty) (rest : List Overload) → chosen os xs rest ≡ gives t → (o : Overload) × Memᴰ o rest × T (is_preferred os xs o)
unfolding chosen given
chosen-in os xs t [] e = absurd (clash (sym (ap given e)))
chosen-in os xs t (o ∷ rest) e = go (is_preferred os xs o) refl (chosen-in os xs t rest) e
  where
    go : (b : Bool) → is_preferred os xs o ≡ b → (chosen os xs rest ≡ gives t → (p : Overload) × Memᴰ p rest × T (is_preferred os xs p)) → cond b (gives o.result) (chosen os xs rest) ≡ gives t
        → (p : Overload) × Memᴰ p (o ∷ rest) × T (is_preferred os xs p)
    go true q ih k = (o, Memᴰ.head refl, subst T (sym q) tt)
    go false q ih k = let r = ih k in (r.0, Memᴰ.tail r.1, r.2)

pub judge-in : (os : List Overload) (xs : List Ty) (t : Ty) → judge os xs ≡ gives t → (o : Overload) × Memᴰ o os × T (is_preferred os xs o)
unfolding judge
judge-in os xs t e = chosen-in os xs t os e

-- WHAT DOES NOT PASS is not looked at; the rest yields

abbrev back : (Overload → Bool) → List Ty → Overload → Overload → Bool
back g ts o p = or (not (g p)) (yields ts o p)

step : (g : Overload → Bool) (ts : List Ty) (o p : Overload) (os : List Overload) → all_yield ts o (sifted g (p ∷ os)) ≡ both (back g ts o p) (all_yield ts o (sifted g os))
unfolding sifted all_yield both or
step g ts o p os = go (g p)
  where
    go : (b : Bool) → all_yield ts o (cond b (p ∷ sifted g os) (sifted g os)) ≡ both (or (not b) (yields ts o p)) (all_yield ts o (sifted g os))
    go true = refl
    go false = refl

unkept : (d r a : Bool) → not d ≡ or (not r) (not a) → d ≡ both r a
unfolding or both
unkept true true true e = refl
unkept true true false e = absurd (clash (sym e))
unkept true false a e = absurd (clash (sym e))
unkept false true true e = absurd (clash e)
unkept false true false e = refl
unkept false false a e = refl

-- of operands without one that is both running and abstract: where it fits, an overload is dropped exactly where some operand is running and some parameter abstract
module _ (ts : List Ty) (ms : List Bool) (u : running_abstract ts ms ≡ false) where
  left-kept : (o : Overload) → fits o.params ts ≡ true → remains ms o ≡ kept (any_running ms) o
  left-kept o e = same_bool (remains ms o) (kept (any_running ms) o) (to-kept ts ms u o (subst T (sym e) tt)) (from-kept ts ms u o (subst T (sym e) tt))

  pub dropped-is : (o : Overload) → fits o.params ts ≡ true → dropped o.params ms ≡ both (any_running ms) (any_abstract o.params)
  dropped-is o e = unkept (dropped o.params ms) (any_running ms) (any_abstract o.params) (left-kept o e)

-- A REFUSED CALL: no overload of the row fits, dropped or not
pub none-fits : (row : ℕ) (ts : List Ty) (ms : List Bool) → judge_row (row_at row) ts ms ≡ none_fits → (o : Overload) → of_row (row_at row) o → fits o.params ts ≡ false
unfolding Resolved
none-fits row ts ms e o m =
    no_eq (fits o.params ts)
    (λ h.
    let q = never-empties row ms ts o m h in
    subst (Resolved (remaining ms (of_row (row_at row))) ts) e (sifted-resolved (remains ms) (overloads_of (row_at row)) ts (row-one-is-preferred row ms ts)) q.0 q.1 q.2)

-- OF A ROW, by the operands' numbers
module _ (row : ℕ) (ts : List Ty) (ms : List Bool) (f : all_formed ts ≡ true) (u : running_abstract ts ms ≡ false) where
  abbrev pub coded : List Ty
  coded = map operand (codes_of ts)

  pub fits-coded : (o : Overload) → of_row (row_at row) o → fits o.params ts ≡ fits o.params coded
  fits-coded o m = fits_by o.params ts (params_of row o m) f

  abbrev beaten : List Ty → Overload → Overload → Bool
  beaten xs o p = or (same_overload p o) (both (no_more xs o.params p.params) (less xs o.params p.params))

  back-coded : (o p : Overload) → of_row (row_at row) o → of_row (row_at row) p → back (remains ms) ts o p ≡ back (kept (any_running ms)) coded o p
  unfolding or
  back-coded o p m n = go (fits p.params ts) refl
    where
      go : (b : Bool) → fits p.params ts ≡ b → back (remains ms) ts o p ≡ back (kept (any_running ms)) coded o p
      go true e =
          let a = params_of row o m in
          let b = params_of row p n in
          λ i.
          or (not (left-kept ts ms u p e i))
          (or (not (fits-coded p n i))
          (or (same_overload p o) (both (no-more-by ts o.params p.params a b f i) (less_by ts o.params p.params a b f i))))
      go false e =
          ap (λ (b : Bool). or (not (remains ms p)) (or (not b) (beaten ts o p))) e
          ∙ or_yes (not (remains ms p))
          ∙ sym (ap (λ (b : Bool). or (not (kept (any_running ms) p)) (or (not b) (beaten coded o p))) (sym (fits-coded p n) ∙ e) ∙ or_yes (not (kept (any_running ms) p)))

  all_coded : (o : Overload) → of_row (row_at row) o → (ps : List Overload) → ((p : Overload) → Memᴰ p ps → of_row (row_at row) p)
      → all_yield ts o (sifted (remains ms) ps) ≡ all_yield coded o (sifted (kept (any_running ms)) ps)
  unfolding sifted all_yield
  all_coded o m [] h = refl
  all_coded o m (p ∷ ps) h =
      step (remains ms) ts o p ps
      ∙ ap₂ both (back-coded o p m (h p (Memᴰ.head refl))) (all_coded o m ps (λ q n. h q (Memᴰ.tail n)))
      ∙ sym (step (kept (any_running ms)) coded o p ps)

  -- THE CHOSEN OVERLOAD
  chosen-coded : (o : Overload) → of_row (row_at row) o → is_chosen (row_at row) ts ms o ≡ chosen_by (any_running ms) (row_at row) coded o
  unfolding is_preferred both
  chosen-coded o m = go (fits o.params ts) refl
    where
      yielding : all_yield ts o (remaining_in ms (overloads_of (row_at row))) ≡ all_yield coded o (sifted (kept (any_running ms)) (overloads_of (row_at row)))
      yielding = all_coded o m (overloads_of (row_at row)) (λ p n. n)

      go : (b : Bool) → fits o.params ts ≡ b → is_chosen (row_at row) ts ms o ≡ chosen_by (any_running ms) (row_at row) coded o
      go true e = λ i. both (left-kept ts ms u o e i) (both (fits-coded o m i) (yielding i))
      go false e =
          ap (λ (b : Bool). both (remains ms o) (both b (all_yield ts o (remaining_in ms (overloads_of (row_at row)))))) e
          ∙ both-no (remains ms o)
          ∙ sym
          (ap (λ (b : Bool). both (kept (any_running ms) o) (both b (all_yield coded o (sifted (kept (any_running ms)) (overloads_of (row_at row)))))) (sym (fits-coded o m) ∙ e)
          ∙ both-no (kept (any_running ms) o))

  -- its place
  abbrev pub place_of : ℕ
  place_of = first_by (chosen_by (any_running ms) (row_at row) coded) (overloads_of (row_at row))

  pub chosen_at : chosen_of (row_at row) ts ms ≡ overload_at (row_at row) place_of
  unfolding chosen_of
  chosen_at = first-over (is_chosen (row_at row) ts ms) (chosen_by (any_running ms) (row_at row) coded) (overloads_of (row_at row)) chosen-coded

  pub chosen-below : (t : Ty) → judge_row (row_at row) ts ms ≡ gives t → place_of < length (overloads_of (row_at row))
  chosen-below t e =
      let r = judge-in (remaining_in ms (overloads_of (row_at row))) ts t e in
      let s = of-sifted (remains ms) (overloads_of (row_at row)) r.0 r.1 in
      first_below (chosen_by (any_running ms) (row_at row) coded) (overloads_of (row_at row)) r.0 s.0 (subst T (chosen-coded r.0 s.0) (both-pair _ _ s.1 r.2))

  -- where none fits, some operand does not convert
  coded-count : length coded ≡ length ts
  coded-count = length-map (codes_of ts) operand ∙ length-map ts code_of

  pub some-miss : judge_row (row_at row) ts ms ≡ none_fits → length ts ≡ operand_count (row_at row) → (o : Overload) → of_row (row_at row) o → first_miss o.params coded < length ts
  some-miss e l o m = go (ltb (first_miss o.params coded) (length ts)) refl
    where
      go : (b : Bool) → ltb (first_miss o.params coded) (length ts) ≡ b → first_miss o.params coded < length ts
      go true q = ltb-true (first_miss o.params coded) (length ts) q
      go false q =
          let h = ltb-false (first_miss o.params coded) (length ts) q in
          let c = coded-count in
          let k = one-count row o m in
          absurd (clash (sym (unmissed o.params coded (omega arith) (omega arith)) ∙ sym (fits-coded o m) ∙ none-fits row ts ms e o m))

  -- A DROPPED OVERLOAD that fits
  pub lost-coded : (o : Overload) → of_row (row_at row) o
      → lost_line ts ms o ≡ cond (both (fits o.params coded) (both (any_running ms) (any_abstract o.params))) (dropped_line o.params ms) []
  unfolding lost_line both
  lost-coded o m = go (fits o.params ts) refl
    where
      go : (b : Bool) → fits o.params ts ≡ b → lost_line ts ms o ≡ cond (both (fits o.params coded) (both (any_running ms) (any_abstract o.params))) (dropped_line o.params ms) []
      go true e = λ i. cond (both (fits-coded o m i) (dropped-is ts ms u o e i)) (dropped_line o.params ms) []
      go false e =
          ap (λ (b : Bool). cond (both b (dropped o.params ms)) (dropped_line o.params ms) []) e
          ∙ sym (ap (λ (b : Bool). cond (both b (both (any_running ms) (any_abstract o.params))) (dropped_line o.params ms) []) (sym (fits-coded o m) ∙ e))

-- WHAT THE CODE TESTS of an overload, by its parameters' numbers ps: the first operand that does not convert, some operand running, the first abstract parameter
module _ (ps xs : List ℕ) (qs : List Ty) (e : map operand ps ≡ qs) (l : length xs ≡ length ps) (running : Bool) (s : List ℕ) where
  abbrev pub lost : List ℕ
  lost = cond (both (fits qs (map operand xs)) (both running (any_abstract qs))) s []

  mapped : length (map operand xs) ≡ length (map operand ps)
  mapped = length-map xs operand ∙ l ∙ sym (length-map ps operand)

  pub lost-miss : first_miss (map operand ps) (map operand xs) < length xs → lost ≡ []
  unfolding both
  lost-miss h =
      let m = length-map xs operand in
      ap (λ (b : Bool). cond (both b (both running (any_abstract qs))) s [])
      (ap (λ (q : List Ty). fits q (map operand xs)) (sym e) ∙ missed (map operand ps) (map operand xs) mapped (omega arith))

  pub lost-const : running ≡ false → lost ≡ []
  unfolding both
  lost-const h =
      ap (λ (b : Bool). cond (both (fits qs (map operand xs)) (both b (any_abstract qs))) s []) h ∙ ap (λ (b : Bool). cond b s []) (both-no (fits qs (map operand xs)))

  pub lost-concrete : length xs ≤ first_by abstract_ty (map operand ps) → lost ≡ []
  lost-concrete h =
      let m = length-map ps operand in
      ap (λ (b : Bool). cond (both (fits qs (map operand xs)) (both running b)) s [])
      (ap any_abstract (sym e) ∙ some-abstract (map operand ps) ∙ le-ltb (first_by abstract_ty (map operand ps)) (length (map operand ps)) (omega arith))
      ∙ ap (λ (b : Bool). cond (both (fits qs (map operand xs)) b) s []) (both-no running)
      ∙ ap (λ (b : Bool). cond b s []) (both-no (fits qs (map operand xs)))

  pub lost-is : length xs ≤ first_miss (map operand ps) (map operand xs) → running ≡ true → first_by abstract_ty (map operand ps) < length xs → lost ≡ s
  unfolding both
  lost-is h r a =
      let m = length-map xs operand in
      let n = length-map ps operand in
      let fit = ap (λ (q : List Ty). fits q (map operand xs)) (sym e) ∙ unmissed (map operand ps) (map operand xs) mapped (omega arith) in
      let abs = ap any_abstract (sym e) ∙ some-abstract (map operand ps) ∙ lt-ltb (first_by abstract_ty (map operand ps)) (length (map operand ps)) (omega arith) in
      λ i. cond (both (fit i) (both (r i) (abs i))) s []
