-- WHAT THE TEXT SAYS IS TRUE (document 02, K7), of a call of a listed row, over any types and marks. A refused call: no overload fits, and the operand that a line names is the first
-- that does not convert to its parameter. An accepted call: the overload that its line names is left and preferred to every other left, and gives the call's type; the ranks are
-- those of the operands' conversions. A dropped overload has a line exactly where it fits: the parameter named is the first abstract one, the operand named the first running one,
-- and they are two. Each overload has one place. Assumes nothing.
use Prim.Native.Nat.{ℕ, zero, suc, ◌<◌}
use mathlib.Core.Path.{◌≡◌, refl, sym, ◌∙◌, ap, subst}
use mathlib.Core.Logic.{◌≢◌, ⊎_elim}
use mathlib.Core.Bool.{Bool, true, false, cond}
use mathlib.Core.List.{List, [], ◌∷◌, map, Memᴰ}
use native.Mathlib.Nat.{le_of_suc-le-suc, not-suc-le-zero}
use native.Mathlib.Omega.{arith}
use lib.Dec.{T, ltb, leb-suc-suc}
use lib.ListN.{length, get_or}
use borrow.Author.Tests.{ltb-true, ltb-false, lt-ltb}
use Rattle.conv.specs.Types.{Ty, abstract_ty, bool}
use Rattle.conv.specs.Types.Ty.{scalar}
use Rattle.conv.specs.Rank.{both, conversion_rank, converts}
use Rattle.conv.proofs.Finite.{both_left, both_right, both-pair}
use Rattle.overload.specs.Overload.{Overload, or, fits, Preferred, Resolved, is_preferred}
use Rattle.overload.specs.Overload.Judged.{gives, none_fits}
use Rattle.overload.specs.Marks.{any_running, any_abstract, dropped, remains, remaining, remaining_in, running_abstract}
use Rattle.overload.specs.Rows.{row_at, overloads_of, of_row, operand_count, judge_row}
use Rattle.overload.specs.Rows.Ruling.{by_row}
use Rattle.overload.proofs.Preference.{or_left, or_right, one-preferred}
use Rattle.overload.proofs.Judge.{preferred-of}
use Rattle.overload.proofs.Marks.{sifted-resolved}
use Rattle.overload.proofs.OnePreferred.{row-one-is-preferred}
use Rattle.overload.proofs.Counts.{one-count}
use Rattle.overload.proofs.Sieve.{of-sifted, to-sifted}
use Rattle.listing.proofs.EveryOverload.{StandsAt, every-overload}
use Rattle.weigh.specs.Weigh.{first_by, first_miss}
use Rattle.weigh.proofs.Firsts.{unmissed, some-abstract, first-is, first-before}
use Rattle.phrase.specs.Phrase.{ranks_of}
use Rattle.reasons.specs.Reasons.{type_in, is_true, first_over, is_chosen, chosen_of, miss_line, dropped_line, lost_line, pieces, refused_pieces}
use Rattle.pieces.proofs.Chosen.{clash, judge-in, dropped-is, none-fits}
use Rattle.pieces.proofs.Pieces.{map_at}

-- REFUSED

-- the operand at the place of the first miss does not convert, and those before it do
miss-at : (ps ts : List Ty) → length ts ≡ length ps → first_miss ps ts < length ts → converts (type_in ts (first_miss ps ts)) (type_in ps (first_miss ps ts)) ≡ false
unfolding first_miss
miss-at [] ts e l = absurd (omega arith)
miss-at (p ∷ ps) [] e l = absurd (not-suc-le-zero l)
miss-at (p ∷ ps) (t ∷ ts) e l = go (converts t p) refl (miss-at ps ts (omega arith)) l
  where
    go : (b : Bool) → converts t p ≡ b → (first_miss ps ts < length ts → converts (type_in ts (first_miss ps ts)) (type_in ps (first_miss ps ts)) ≡ false) → cond b (suc (first_miss ps ts)) 0 < suc (length ts)
        → converts (type_in (t ∷ ts) (cond b (suc (first_miss ps ts)) 0)) (type_in (p ∷ ps) (cond b (suc (first_miss ps ts)) 0)) ≡ false
    go true q ih m = ih (le_of_suc-le-suc m)
    go false q ih m = q

miss-before : (ps ts : List Ty) (i : ℕ) → i < first_miss ps ts → converts (type_in ts i) (type_in ps i) ≡ true
unfolding first_miss
miss-before [] ts i l = absurd (not-suc-le-zero l)
miss-before (p ∷ ps) [] i l = absurd (not-suc-le-zero l)
miss-before (p ∷ ps) (t ∷ ts) i l = go (converts t p) refl (miss-before ps ts) i l
  where
    go : (b : Bool) → converts t p ≡ b → ((i : ℕ) → i < first_miss ps ts → converts (type_in ts i) (type_in ps i) ≡ true) → (i : ℕ) → i < cond b (suc (first_miss ps ts)) 0 → converts (type_in (t ∷ ts) i) (type_in (p ∷ ps) i) ≡ true
    go true q ih zero m = q
    go true q ih (suc i) m = ih i (le_of_suc-le-suc m)
    go false q ih i m = absurd (not-suc-le-zero m)

-- of an overload by its parameters: it does not fit, and this operand is the first that does not convert
pub record Missed (ps ts : List Ty) : Type 0 where
  pub unfit : fits ps ts ≡ false
  pub within : first_miss ps ts < length ts
  pub here : converts (type_in ts (first_miss ps ts)) (type_in ps (first_miss ps ts)) ≡ false
  pub before : (i : ℕ) → i < first_miss ps ts → converts (type_in ts i) (type_in ps i) ≡ true

missed-of : (ps ts : List Ty) → length ts ≡ length ps → fits ps ts ≡ false → Missed ps ts
missed-of ps ts e f = go (ltb (first_miss ps ts) (length ts)) refl
  where
    go : (b : Bool) → ltb (first_miss ps ts) (length ts) ≡ b → Missed ps ts
    go true q =
        let l = ltb-true (first_miss ps ts) (length ts) q in
        record { unfit = f; within = l; here = miss-at ps ts e l; before = miss-before ps ts }
    go false q = absurd (clash (sym (unmissed ps ts e (ltb-false (first_miss ps ts) (length ts) q)) ∙ f))

module _ (row : ℕ) (ts : List Ty) (ms : List Bool) where
  -- every overload of the row has its line, at one place, and what it says is so
  pub refused-true : judge_row (row_at row) ts ms ≡ none_fits → length ts ≡ operand_count (row_at row) → (o : Overload) → of_row (row_at row) o
      → Missed o.params ts × ((j : ℕ) × (get_or (pieces false (by_row (row_at row)) ts ms) (suc j) [] ≡ miss_line o.params ts) × StandsAt row o j × ((i : ℕ) → StandsAt row o i → i ≡ j))
  unfolding pieces refused_pieces
  refused-true e l o m =
      let at = every-overload row o m in
      let s = at.1 in (
        missed-of o.params ts (l ∙ sym (one-count row o m)) (none-fits row ts ms e o m),
        (
          at.0,
          map_at (λ (p : Overload). miss_line p.params ts) (overloads_of (row_at row)) at.0 s.0 ∙ ap (λ (p : Overload). miss_line p.params ts) s.1,
          s,
          at.2,
        ),
      )

-- ACCEPTED

over-is : (g : Overload → Bool) (os : List Overload) (o : Overload) → Memᴰ o os → T (g o) → Memᴰ (first_over g os) os × T (g (first_over g os))
unfolding first_over
over-is g [] o m t = absurd (mathlib.Core.List.Memᴰ.not-nil m)
over-is g (p ∷ ps) o m t = go (g p) refl (λ n. over-is g ps o n t)
  where
    go : (b : Bool) → g p ≡ b → (Memᴰ o ps → Memᴰ (first_over g ps) ps × T (g (first_over g ps))) → Memᴰ (cond b p (first_over g ps)) (p ∷ ps) × T (g (cond b p (first_over g ps)))
    go true e ih = (mathlib.Core.List.Memᴰ.head refl, subst T (sym e) tt)
    go false e ih =
        let r : Memᴰ (first_over g ps) ps × T (g (first_over g ps)) = ⊎_elim (λ q. absurd (subst T (ap g q ∙ e) t)) ih (mathlib.Core.List.Memᴰ.cases_cons m) in
        (mathlib.Core.List.Memᴰ.tail r.0, r.1)

module _ (row : ℕ) (ts : List Ty) (ms : List Bool) where
  -- the chosen overload is of the row, is left, fits, and is preferred to every other left
  pub chosen-true : (t : Ty) → judge_row (row_at row) ts ms ≡ gives t
      → of_row (row_at row) (chosen_of (row_at row) ts ms) × T (remains ms (chosen_of (row_at row) ts ms)) × T (is_preferred (remaining_in ms (overloads_of (row_at row))) ts (chosen_of (row_at row) ts ms))
  unfolding chosen_of
  chosen-true t e =
      let os = overloads_of (row_at row) in
      let r = judge-in (remaining_in ms os) ts t e in
      let s = of-sifted (remains ms) os r.0 r.1 in
      let q = over-is (is_chosen (row_at row) ts ms) os r.0 s.0 (both-pair _ _ s.1 r.2) in
      (q.0, both_left _ _ q.1, both_right (remains ms (first_over (is_chosen (row_at row) ts ms) os)) _ q.1)

  -- so it is the preferred one, and the call's type is its result
  pub chosen-preferred : (t : Ty) → judge_row (row_at row) ts ms ≡ gives t
      → Preferred (remaining ms (of_row (row_at row))) ts (chosen_of (row_at row) ts ms) × (t ≡ (chosen_of (row_at row) ts ms).result)
  unfolding Resolved
  chosen-preferred t e =
      let os = overloads_of (row_at row) in
      let c = chosen_of (row_at row) ts ms in
      let q = chosen-true t e in
      let k = preferred-of (remaining_in ms os) ts c (to-sifted (remains ms) os c (q.0, q.1)) q.2 in
      let p : Preferred (remaining ms (of_row (row_at row))) ts c = record { among = (q.0, q.1); fitting = k.fitting; over = λ o m f. k.over o (to-sifted (remains ms) os o m) f } in
      let r = subst (Resolved (remaining ms (of_row (row_at row))) ts) e (sifted-resolved (remains ms) os ts (row-one-is-preferred row ms ts)) in
      (p, r.2 ∙ ap (λ (o : Overload). o.result) (one-preferred (remaining ms (of_row (row_at row))) ts r.0 c r.1 p))

-- and the ranks are those of the operands' conversions
pub ranks-true : (ps ts : List Ty) (i : ℕ) → i < length ps → i < length ts → get_or (ranks_of ps ts) i 0 ≡ conversion_rank (type_in ts i) (type_in ps i)
unfolding ranks_of
ranks-true [] ts i h k = absurd (not-suc-le-zero h)
ranks-true (p ∷ ps) [] i h k = absurd (not-suc-le-zero k)
ranks-true (p ∷ ps) (t ∷ ts) zero h k = refl
ranks-true (p ∷ ps) (t ∷ ts) (suc i) h k = ranks-true ps ts i (le_of_suc-le-suc h) (le_of_suc-le-suc k)

-- DROPPED

some-running : (ms : List Bool) → any_running ms ≡ ltb (first_by is_true ms) (length ms)
unfolding any_running first_by or
some-running [] = refl
some-running (true ∷ ms) = sym (lt-ltb 0 (suc (length ms)) (omega arith))
some-running (false ∷ ms) = some-running ms ∙ sym (leb-suc-suc (suc (first_by is_true ms)) (length ms))

fits-at : (ps ts : List Ty) → T (fits ps ts) → (i : ℕ) → i < length ps → T (converts (type_in ts i) (type_in ps i)) × (i < length ts)
unfolding fits
fits-at [] ts f i l = absurd (not-suc-le-zero l)
fits-at (p ∷ ps) [] f i l = absurd f
fits-at (p ∷ ps) (t ∷ ts) f zero l = (both_left _ _ f, omega arith)
fits-at (p ∷ ps) (t ∷ ts) f (suc i) l = let r = fits-at ps ts (both_right (converts t p) _ f) i (le_of_suc-le-suc l) in let k = r.1 in (r.0, omega arith)

-- what converts to an abstract type is abstract: else, alone and running, it would be dropped beside no other
single : (t p : Ty) → T (converts t p) → abstract_ty t ≡ false → abstract_ty p ≡ false
unfolding fits running_abstract any_running any_abstract dropped or both
single t p h e = go (abstract_ty p) (dropped-is (t ∷ []) (true ∷ []) (ap (λ (b : Bool). or b false) e) (record { params = p ∷ []; result = p }) (yes (converts t p) h))
  where
    yes : (b : Bool) → T b → both b true ≡ true
    yes true k = refl
    yes false k = absurd k

    go : (b : Bool) → or (both b false) false ≡ or b false → b ≡ false
    go true d = absurd (clash (sym d))
    go false d = refl

true_of : (a b : Bool) → (a ≡ false → b ≡ false) → b ≡ true → a ≡ true
true_of true b h e = refl
true_of false b h e = absurd (clash (sym e ∙ h refl))

eq_yes : (b : Bool) → T b → b ≡ true
eq_yes true h = refl
eq_yes false h = absurd h

clash-at : (ts : List Ty) (ms : List Bool) (i : ℕ) → i < length ts → i < length ms → get_or ms i false ≡ true → abstract_ty (type_in ts i) ≡ true → T (running_abstract ts ms)
unfolding running_abstract
clash-at [] ms i h k m a = absurd (not-suc-le-zero h)
clash-at (t ∷ ts) [] i h k m a = absurd (not-suc-le-zero k)
clash-at (t ∷ ts) (m ∷ ms) zero h k e a = or_left _ _ (both-pair _ _ (subst T (sym e) tt) (subst T (sym a) tt))
clash-at (t ∷ ts) (m ∷ ms) (suc i) h k e a = or_right (both m (abstract_ty t)) _ (clash-at ts ms i (le_of_suc-le-suc h) (le_of_suc-le-suc k) e a)

-- of an overload by its parameters: the first abstract parameter, the first running operand, and they are two
pub record Lost (ps : List Ty) (ms : List Bool) : Type 0 where
  pub some : first_by abstract_ty ps < length ps
  pub abstract : abstract_ty (type_in ps (first_by abstract_ty ps)) ≡ true
  pub none-abstract : (i : ℕ) → i < first_by abstract_ty ps → abstract_ty (type_in ps i) ≡ false
  pub one : first_by is_true ms < length ms
  pub running : get_or ms (first_by is_true ms) false ≡ true
  pub none-running : (i : ℕ) → i < first_by is_true ms → get_or ms i false ≡ false
  pub two : first_by abstract_ty ps ≢ first_by is_true ms

pub dropped-true : (ts : List Ty) (ms : List Bool) → running_abstract ts ms ≡ false → (o : Overload) → fits o.params ts ≡ true → dropped o.params ms ≡ true → Lost o.params ms
dropped-true ts ms u o f d =
    let ps = o.params in
    let h : T (both (any_running ms) (any_abstract ps)) = subst T (dropped-is ts ms u o f) (subst T (sym d) tt) in
    let a : first_by abstract_ty ps < length ps = ltb-true (first_by abstract_ty ps) (length ps) (sym (some-abstract ps) ∙ eq_yes (any_abstract ps) (both_right (any_running ms) _ h)) in
    let b : first_by is_true ms < length ms = ltb-true (first_by is_true ms) (length ms) (sym (some-running ms) ∙ eq_yes (any_running ms) (both_left _ _ h)) in
    let at = fits-at ps ts (subst T (sym f) tt) (first_by abstract_ty ps) a in
    let here = first-is abstract_ty (scalar bool) ps a in
    let mark = first-is is_true false ms b in
    record {
      some = a;
      abstract = here;
      none-abstract = λ i l. first-before abstract_ty (scalar bool) ps i l (omega arith);
      one = b;
      running = mark;
      none-running = λ i l. first-before is_true false ms i l (omega arith);
      two = λ e.
          subst T u
          (clash-at ts ms (first_by abstract_ty ps) at.1 (omega arith) (ap (λ (i : ℕ). get_or ms i false) e ∙ mark)
          (true_of (abstract_ty (type_in ts (first_by abstract_ty ps))) (abstract_ty (type_in ps (first_by abstract_ty ps))) (single (type_in ts (first_by abstract_ty ps)) (type_in ps (first_by abstract_ty ps)) at.0) here));
    }

-- its line stands exactly where it fits and is dropped
pub lost-there : (ts : List Ty) (ms : List Bool) (o : Overload) → both (fits o.params ts) (dropped o.params ms) ≡ true → lost_line ts ms o ≡ dropped_line o.params ms
unfolding lost_line
lost-there ts ms o e = ap (λ (b : Bool). cond b (dropped_line o.params ms) []) e

pub lost-nowhere : (ts : List Ty) (ms : List Bool) (o : Overload) → both (fits o.params ts) (dropped o.params ms) ≡ false → lost_line ts ms o ≡ []
unfolding lost_line
lost-nowhere ts ms o e = ap (λ (b : Bool). cond b (dropped_line o.params ms) []) e
