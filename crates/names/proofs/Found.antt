-- A name that stands at a row has the rule of that row, where the profile has it; and a name that no row has, has no rule. Assumes nothing.
use Prim.Native.Nat.{ℕ, zero, suc, ◌≤◌, ◌<◌, zero-le, suc-le-suc}
use native.Mathlib.Nat.{not-suc-le-zero, le_of_suc-le-suc}
use native.Mathlib.Omega.{arith}
use mathlib.Core.Path.{◌≡◌, refl, sym, ◌∙◌, ap}
use mathlib.Core.Bool.{Bool, true, false, ◌&&◌, cond}
use mathlib.Core.List.{List, [], ◌∷◌}
use lib.Dec.{ltb}
use lib.ListN.{length, get_or}
use borrow.Author.Tests.{ltb-true, ltb-false, lt-ltb, le-ltb, lt-leb, le-leb}
use Rattle.std.proofs.Common.{Some, None}
use Rattle.std.specs.declared.cmp.Ordering.{Ordering}
use Rattle.std.specs.declared.cmp.Ordering.TheVariants.{Less, Equal, Greater}
use Rattle.std.proofs.Common.{is_eq}
use Rattle.names.specs.Names.{Name, names, no_name, name_at, count, same_bytes, profiles, within, rule_for, rule_in, rule_of}
use Rattle.names.specs.Names.Named.{rule, unknown}
use Rattle.names.specs.inner.Table.{name_width, ends_blank, Ordered, StandsAt, has_name, rule_at}
use Rattle.names.proofs.Bytes.{differ, same_self, same_bytes_lem}
use Rattle.names.proofs.Order.{once}
use Rattle.names.proofs.Lines.{at}
use Rattle.names.proofs.Letters.{short, no-blank-end, row_named, none-earlier, none-later}

-- THE RULE OF A NAME, by the row that has it: no name stands twice

first-in : (profile : ℕ) (rs : List Name) (s : List ℕ) (k : ℕ) → k < length rs → ((j : ℕ) → j < k → same_bytes (get_or rs j no_name).text s ≡ false)
    → same_bytes (get_or rs k no_name).text s ≡ true → rule_in profile rs s ≡ rule_for profile (get_or rs k no_name)
unfolding rule_in
first-in profile [] s k h n e = absurd (not-suc-le-zero h)
first-in profile (r ∷ rs) s zero h n e = rw e
first-in profile (r ∷ rs) s (suc k) h n e = rw (n zero (suc-le-suc zero-le)) (first-in profile rs s k (le_of_suc-le-suc h) (λ j l. n (suc j) (suc-le-suc l)) e)

absent : (profile : ℕ) (rs : List Name) (s : List ℕ) → ((k : ℕ) → k < length rs → same_bytes (get_or rs k no_name).text s ≡ false) → rule_in profile rs s ≡ unknown
unfolding rule_in
absent profile [] s n = refl
absent profile (r ∷ rs) s n = rw (n zero (suc-le-suc zero-le)) (absent profile rs s (λ k h. n (suc k) (suc-le-suc h)))

pub found : (profile : ℕ) (s : List ℕ) (k : ℕ) → k < count → name_at k ≡ s → rule_of profile s ≡ rule_for profile (at k)
unfolding name_at
found profile s k h e =
    first-in profile names s k h (λ j l. differ (name_at j) s (λ q. let o = once j k (omega arith) h (q ∙ sym e) in omega arith)) (rw e (same_self s))

pub missing : (profile : ℕ) (s : List ℕ) → ((k : ℕ) → k < count → name_at k ≡ s → ⊥) → rule_of profile s ≡ unknown
unfolding name_at
missing profile s n = absent profile names s (λ k h. differ (name_at k) s (n k h))

-- a name longer than a line, or that ends with a blank, stands in no row

pub too_long : (s : List ℕ) → name_width < length s → (k : ℕ) → k < count → name_at k ≡ s → ⊥
too_long s h k l e = let m = short k l in let n : length (name_at k) ≡ length s = ap length e in omega arith

pub blank-end : (s : List ℕ) → ends_blank s ≡ true → (k : ℕ) → k < count → name_at k ≡ s → ⊥
blank-end s h k l e = let z = sym (no-blank-end k l) ∙ ap ends_blank e ∙ h in let y : ◌≡◌ {A = ℕ} 0 1 = cc in omega arith

-- WHETHER A ROW HAS A NAME

module _ (k : ℕ) (s : List ℕ) where
  pub past-last : count ≤ k → has_name k s ≡ false
  unfolding has_name
  past-last h = rw (le-ltb k count h)

  pub has-not : k < count → (name_at k ≡ s → ⊥) → has_name k s ≡ false
  unfolding has_name
  has-not h n = rw (lt-ltb k count h, differ (name_at k) s n)

  pub has : k < count → name_at k ≡ s → has_name k s ≡ true
  unfolding has_name
  has h e = rw (lt-ltb k count h, e, same_self s)

  -- so has one that is the same as a name filled up with blanks, where that is no longer than a line and ends with no blank; and one on either side has not
  pub has-by : k < count → length s ≤ name_width → ends_blank s ≡ false → (o : Ordering) → Ordered o (name_at k) s → is_eq o ≡ has_name k s
  unfolding Ordered
  has-by l w e Less h = sym (has-not l (none-earlier k l s h k (omega arith)))
  has-by l w e Equal h = sym (has l (row_named k l s w e h))
  has-by l w e Greater h = sym (has-not l (none-later k l s h k (omega arith) l))

  same-there : k < count → has_name k s ≡ true → same_bytes (name_at k) s ≡ true
  unfolding has_name
  same-there l h = rw (lt-ltb k count l) at h

  -- a row that has a name is where it stands
  pub has-stands : has_name k s ≡ true → StandsAt s (Some k)
  unfolding StandsAt
  has-stands h = go (ltb k count) refl
    where
      go : (b : Bool) → ltb k count ≡ b → StandsAt s (Some k)
      go true e = let l = ltb-true k count e in (l, same_bytes_lem (name_at k) s (same-there l h))
      go false e = let z = sym (past-last (ltb-false k count e)) ∙ h in absurd (let y : ◌≡◌ {A = ℕ} 0 1 = cc in omega arith)

-- THE PROFILE: a name that it has, and one that it has not; an unknown profile has none

pub has-name : (profile first : ℕ) → profile < profiles → first ≤ profile → within profile first ≡ true
unfolding within
has-name profile first h l = rw (lt-ltb profile profiles h, le-leb first profile l)

pub lacks-name : (profile first : ℕ) → profile < first → within profile first ≡ false
unfolding within
lacks-name profile first l = rw (lt-leb first profile l) (none (ltb profile profiles))
  where
    none : (b : Bool) → (b && false) ≡ false
    none true = refl
    none false = refl

no-profile : (profile first : ℕ) → profiles ≤ profile → within profile first ≡ false
unfolding within
no-profile profile first h = rw (le-ltb profile profiles h)

-- so a name that stands at a row has its rule, or none

module _ (profile : ℕ) (s : List ℕ) (k : ℕ) (h : k < count) (e : name_at k ≡ s) where
  pub found_here : profile < profiles → (at k).profile ≤ profile → rule_of profile s ≡ rule (at k).rule (at k).running
  found_here p l = found profile s k h e ∙ ap (λ (b : Bool). cond b (rule (at k).rule (at k).running) unknown) (has-name profile (at k).profile p l)

  pub found-later : profile < (at k).profile → rule_of profile s ≡ unknown
  found-later l = found profile s k h e ∙ ap (λ (b : Bool). cond b (rule (at k).rule (at k).running) unknown) (lacks-name profile (at k).profile l)

-- THE RULE OF A ROW is that of the name that stands there

pub row-past : (profile k : ℕ) → count ≤ k → rule_at profile k ≡ unknown
unfolding rule_at
row-past profile k h = rw (le-ltb k count h)

module _ (profile k : ℕ) (h : k < count) where
  row_of : rule_at profile k ≡ rule_for profile (at k)
  unfolding rule_at
  row_of = rw (lt-ltb k count h)

  pub row_here : profile < profiles → (at k).profile ≤ profile → rule_at profile k ≡ rule (at k).rule (at k).running
  row_here p l = row_of ∙ ap (λ (b : Bool). cond b (rule (at k).rule (at k).running) unknown) (has-name profile (at k).profile p l)

  pub row-later : profile < (at k).profile → rule_at profile k ≡ unknown
  row-later l = row_of ∙ ap (λ (b : Bool). cond b (rule (at k).rule (at k).running) unknown) (lacks-name profile (at k).profile l)

pub row-unknown : (profile k : ℕ) → profiles ≤ profile → rule_at profile k ≡ unknown
row-unknown profile k h = go (ltb k count) refl
  where
    go : (b : Bool) → ltb k count ≡ b → rule_at profile k ≡ unknown
    go true e = row_of profile k (ltb-true k count e) ∙ ap (λ (b : Bool). cond b (rule (at k).rule (at k).running) unknown) (no-profile profile (at k).profile h)
    go false e = row-past profile k (ltb-false k count e)

pub stands-rule : (profile : ℕ) (s : List ℕ) (k : ℕ) → StandsAt s (Some k) → rule_at profile k ≡ rule_of profile s
unfolding StandsAt
stands-rule profile s k h = row_of profile k h.0 ∙ sym (found profile s k h.0 h.1)

-- and one that stands nowhere has none
pub stands-nowhere : (profile : ℕ) (s : List ℕ) → StandsAt s None → rule_of profile s ≡ unknown
unfolding StandsAt
stands-nowhere profile s h = missing profile s h
