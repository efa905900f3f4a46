-- HOW MUCH ROOM IS MISSING, document 02, K2: the number that lacks is the least by which a slice must grow. Of an accepted type, and of the tests that every call makes;
-- the crates above carry it to their calls. Assumes nothing.
use Prim.Native.Nat.{ℕ, zero, suc, ◌+◌, ◌-◌, ◌*◌, ◌/◌, ◌≤◌, ◌<◌}
use mathlib.Core.Path.{◌≡◌, refl, sym, ◌∙◌, ap, subst}
use mathlib.Core.Bool.{Bool, true, false, cond}
use mathlib.Core.List.{List, ◌++◌}
use native.Mathlib.Omega.{arith}
use lib.Dec.{leb, eqb}
use lib.ListN.{length, length-append, get_or-append}
use borrow.Author.Tests.{le-leb, lt-leb, leb-true, leb-false, eq-eqb}
use Rattle.conv.specs.Types.{Ty}
use Rattle.conv.specs.Types.Ty.{scalar, vec, mat, array, runtime, atomic, ptr, ref, frexp, modf, exchange}
use Rattle.conv.specs.Rank.{same_ty}
use Rattle.answer.specs.Answer.{reason_no, numbers_of, refuse}
use Rattle.answer.specs.declared.Reason.{Reason}
use Rattle.answer.specs.declared.Reason.TheVariants.{NoRoom, Template, Unsound}
use Rattle.answer.specs.declared.Answer.{Answer}
use Rattle.answer.specs.declared.Answer.TheVariants.{NoValue}
use Rattle.table.specs.Table.{stride, ceiling, or_else, entry_at, entry_key, soundb, allowedb, Sound}
use Rattle.table.specs.Denote.{type_at, ty_of}
use Rattle.table.specs.Enter.{free}
use Rattle.table.specs.Placing.{stands_in, Standing, or_next, placed_over, placed, Outcome, turned_down, entering, enter_type}
use Rattle.table.specs.Lacking.{Longer, Lacks, Grown}
use Rattle.table.specs.declared.Entry.{Entry}
use Rattle.std.specs.Prelude.{Option, Some, None}
use Rattle.answer.specs.declared.TypeNo.{TypeNo}
use Rattle.table.proofs.KindLaws.{split}
use Rattle.table.proofs.SoundLaws.{sound-of, of-sound, keeps_entry, keeps-made, keeps-ok}
use Rattle.table.proofs.TypeLaws.{type-keeps}
use Rattle.table.proofs.EnterLaws.{ty-keeps}
use Rattle.table.proofs.Keeping.{enter-call, enter-unsound, enter-forbidden}

impossible : {P : Type 0} → ◌≡◌ {A = ℕ} 0 1 → P
impossible e = absurd (omega arith)

-- words put behind the slice make it longer
pub longer-append : (w x : List ℕ) (n k : ℕ) → Sound w n → length x ≡ k * stride → Longer w (w ++ x) n k
longer-append w x n k s l =
    record {
      keeps = λ i h. get_or-append w x 0 i (let r = s.room in omega arith);
      long = length-append w x ∙ ap (λ (m : ℕ). length w + m) l;
    }

-- ANY OUTCOMES

-- what is not 9 says nothing
grown-not : (w : List ℕ) (n k : ℕ) (o o' : Outcome) → ((K : ℕ) → Lacks o K → ⊥) → Grown w n k o o'
grown-not w n k o o' f = record { enough = λ K l _ _. absurd (f K l); short = λ K l _ _. absurd (f K l) }

pub grown-refused : (w : List ℕ) (n k : ℕ) (reason : Reason) → eqb (reason_no reason) 9 ≡ false → (place : ℕ) (o' : Outcome) → Grown w n k (turned_down reason place w n) o'
grown-refused w n k reason f place o' =
    grown-not w n k (turned_down reason place w n) o'
    (λ K l.
    let e : reason_no reason ≡ 9 = ap (λ (a : Answer). (numbers_of a).refusal) l.2 in
    impossible (let z : true ≡ false = sym (eq-eqb (reason_no reason) 9 e) ∙ f in cc))

pub grown-silent : (w : List ℕ) (n k m : ℕ) (v : List ℕ) (o' : Outcome) → Grown w n k (record { answer = NoValue m; words = v }) o'
grown-silent w n k m v o' = grown-not w n k (record { answer = NoValue m; words = v }) o' (λ K l. let e = l.2 in impossible (cc))

-- the two sides of one test
pub grown-test : (w : List ℕ) (n k : ℕ) (b : Bool) (x y x' y' : Outcome) → Grown w n k x x' → Grown w n k y y' → Grown w n k (cond b x y) (cond b x' y')
grown-test w n k true x y x' y' p q = p
grown-test w n k false x y x' y' p q = q

-- a test that refuses with another number than 9 where it is not passed
pub grown-passed : (w : List ℕ) (n k : ℕ) (b : Bool) (reason : Reason) → eqb (reason_no reason) 9 ≡ false → (place : ℕ) (x x' y' : Outcome) → (b ≡ true → Grown w n k x x')
    → Grown w n k (cond b x (turned_down reason place w n)) (cond b x' y')
grown-passed w n k true reason f place x x' y' g = g refl
grown-passed w n k false reason f place x x' y' g = grown-refused w n k reason f place y'

-- what comes to the same
pub grown-as : (w : List ℕ) (n k : ℕ) {o p o' p' : Outcome} → o ≡ p → o' ≡ p' → Grown w n k p p' → Grown w n k o o'
grown-as w n k {o} {p} {o'} {p'} e f g = subst (λ (x : Outcome). Grown w n k x o') (sym e) (subst (λ (x : Outcome). Grown w n k p x) (sym f) g)

-- THE SAME TABLE in a longer slice

module _ (w v : List ℕ) (n k : ℕ) (l : Longer w v n k) where
  pub type-longer : (i : ℕ) → i < n → type_at v i ≡ type_at w i
  type-longer i h = type-keeps w v n l.keeps i h

  pub allowed-longer : (e : Entry) → allowedb v n e ≡ allowedb w n e
  unfolding allowedb
  allowed-longer e = rw (keeps-made w v n l.keeps n e (omega arith))

  stands-longer : (R : Ty) (m : ℕ) → m ≤ n → stands_in v m R ≡ stands_in w m R
  unfolding stands_in
  stands-longer R zero h = refl
  stands-longer R (suc m) h =
      rw (stands-longer R m (omega arith))
      (ap (λ (t : Ty). or_else (stands_in w m R) (cond (same_ty t R) (Some (record { 0 = m })) None)) (type-longer m h))

  -- a type needs as many entries
  over-longer : (R : Ty) (x x' : Standing) → x'.used ≡ x.used → (placed_over v n R x').used ≡ (placed_over w n R x).used
  unfolding placed_over
  over-longer R x x' e = rw (stands-longer R n (omega arith)) (go (stands_in w n R))
    where
      go : (f : Option TypeNo) → (or_next f n v R x').used ≡ (or_next f n w R x).used
      go (Some t) = refl
      go None = ap (λ (m : ℕ). m + 1) e

  used-longer : (R : Ty) → (placed v n R).used ≡ (placed w n R).used
  unfolding placed
  used-longer (scalar c) = refl
  used-longer (vec m c) = over-longer (vec m c) _ _ refl
  used-longer (mat c r t) = over-longer (mat c r t) _ _ refl
  used-longer (array m t) = over-longer (array m t) _ _ (used-longer t)
  used-longer (runtime t) = over-longer (runtime t) _ _ (used-longer t)
  used-longer (atomic c) = over-longer (atomic c) _ _ refl
  used-longer (ptr a b t) = over-longer (ptr a b t) _ _ (used-longer t)
  used-longer (ref a b t) = over-longer (ref a b t) _ _ (used-longer t)
  used-longer (frexp t) = over-longer (frexp t) _ _ (used-longer t)
  used-longer (modf t) = over-longer (modf t) _ _ (used-longer t)
  used-longer (exchange c) = over-longer (exchange c) _ _ refl

  module _ (s : Sound w n) where
    sound : Sound v n
    sound =
        record {
          low = s.low;
          high = s.high;
          room = let a = s.room in let b = l.long in omega arith;
          rows = λ i h. rw (keeps_entry w v n l.keeps i h, keeps-ok w v n l.keeps i (entry_at w i) (omega arith)) (s.rows i h);
          apart = λ i j h m q. s.apart i j h m (sym (ap entry_key (keeps_entry w v n l.keeps j (omega arith))) ∙ q ∙ ap entry_key (keeps_entry w v n l.keeps i m));
        }

    pub sound-longer : soundb v n ≡ true
    sound-longer = of-sound v n sound

    -- the free entries of both slices, where as many as are used and missing still go under the ceiling

    whole : length v / stride ≡ length w / stride + k
    whole = let a = l.long in omega arith

    -- d entries are missing; they lack in w, and with those used they are at most 256
    module _ (d : ℕ) (lacks : free w n < d) (few : n + d ≤ ceiling) where
      below : length w / stride < ceiling
      unfolding free
      below =
          split (leb ceiling (length w / stride))
          (λ b. let h : 256 - n < d = rw b at lacks in absurd (omega arith))
          (λ b. leb-false ceiling (length w / stride) b)

      free-here : free w n ≡ length w / stride - n
      unfolding free
      free-here = rw (lt-leb ceiling (length w / stride) below)

      fits : d - free w n ≤ k → d ≤ free v n
      unfolding free
      fits h =
          let e = free-here in
          let room = s.room in
          let a = whole in
          split (leb ceiling (length v / stride)) (λ b. rw b (omega arith)) (λ b. rw b (omega arith))

      fits_not : k < d - free w n → free v n < d
      unfolding free
      fits_not h =
          let e = free-here in
          let room = s.room in
          let a = whole in
          split (leb ceiling (length v / stride)) (λ b. rw b (let c = leb-true ceiling (length v / stride) b in omega arith)) (λ b. rw b (omega arith))

    -- AN ACCEPTED TYPE
    module _ (place : ℕ) (R : Ty) where
      abbrev d : ℕ
      d = (placed w n R).used - n

      same-needed : (placed v n R).used - n ≡ d
      same-needed = ap (λ (m : ℕ). m - n) (used-longer R)

      -- 9 over w: what lacks is what is missing less what is free
      lacking-here : (K : ℕ) → Lacks (entering place w n R) K → (free w n < d) × (K ≡ d - free w n)
      unfolding entering
      lacking-here K (p, u, e) =
          split (leb d (free w n))
          (λ b. let q = rw b at e in impossible (cc))
          (λ b.
          let q : refuse (NoRoom (d - free w n)) place n ≡ refuse (NoRoom K) p u = rw b at e in
          (leb-false d (free w n) b, sym (ap (λ (a : Answer). (numbers_of a).lacking) q)))

      room-there : d ≤ free v n → (J : ℕ) → Lacks (entering place v n R) J → ⊥
      unfolding entering
      room-there h J (p, u, e) = let q = rw (same-needed, le-leb d (free v n) h) at e in impossible (cc)

      none-there : free v n < d → (J : ℕ) × Lacks (entering place v n R) J
      unfolding entering
      none-there h = (d - free v n, (place, n, rw (same-needed, lt-leb d (free v n) h) refl))

      pub grown-entering : Grown w n k (entering place w n R) (entering place v n R)
      grown-entering =
          record {
            enough = λ K x few m. let y = lacking-here K x in let e = y.1 in let f = y.0 in room-there (fits d f (omega arith) (omega arith));
            short = λ K x few m. let y = lacking-here K x in let e = y.1 in let f = y.0 in none-there (fits_not d f (omega arith) (omega arith));
          }

  -- a call that judges the table first
  pub grown-sound : (x x' y' : Outcome) → (Sound w n → Grown w n k x x') → Grown w n k (cond (soundb w n) x (turned_down Unsound 0 w n)) (cond (soundb v n) x' y')
  grown-sound x x' y' g =
      split (soundb w n)
      (λ b. let s = sound-of w n b in rw (b, sound-longer s) (g s))
      (λ b. rw b (grown-refused w n k Unsound refl 0 (cond (soundb v n) x' y')))

  -- A TYPE THAT A HOST ENTERS
  pub grown-enter-type : (e : Entry) → Grown w n k (enter_type w n e) (enter_type v n e)
  grown-enter-type e =
      split (soundb w n)
      (λ b.
      let s = sound-of w n b in
      let c = sound-longer s in
      split (allowedb w n e)
      (λ d.
      let d' = allowed-longer e ∙ d in
      grown-as w n k (enter-call w n s e b d) (enter-call v n (sound-of v n c) e c d' ∙ ap (entering 0 v n) (ty-keeps w n s e d v l.keeps)) (grown-entering s 0 (ty_of w e)))
      (λ d. grown-as w n k (forbidden b d) refl (grown-refused w n k Template refl 0 (enter_type v n e))))
      (λ b. grown-as w n k (unsound b) refl (grown-refused w n k Unsound refl 0 (enter_type v n e)))
    where
      unsound : soundb w n ≡ false → enter_type w n e ≡ turned_down Unsound 0 w n
      unsound b = enter-unsound w n e b

      forbidden : soundb w n ≡ true → allowedb w n e ≡ false → enter_type w n e ≡ turned_down Template 0 w n
      forbidden b d = enter-forbidden w n e b d
