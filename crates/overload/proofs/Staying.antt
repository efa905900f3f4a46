-- K3 drops no overload of a described rule: a reference and a pointer are to types that are not abstract, and the component of an atomic is i32 or u32. Assumes nothing.
use Rattle.std.proofs.Common.{◌≡◌, ℕ, Bool, true, false, not, ◌&&◌, T, leb, List, [], ◌∷◌, sym, refl, ◌∙◌, subst, ⊎_elim, T_not}
use Rattle.conv.specs.Types.{Ty, formed, is_value, abstract_ty, storage, handle, read_write}
use Rattle.conv.specs.Types.Ty.{ptr, ref}
use Rattle.overload.specs.Overload.{Overload, or, Judged, Resolved}
use Rattle.overload.specs.Marks.{any_abstract, remains, remaining}
use Rattle.overload.specs.Rows.{address_of, indirection_of, atomic_of, uniform_load_of, array_length_of}
use Rattle.overload.proofs.Preference.{or_cases, Settled, same-resolved, same-settled}
use Rattle.overload.proofs.Marks.{concrete-remains}
use Rattle.overload.proofs.Operands.{and_left, and_right}
use Rattle.overload.proofs.Results.{T_true}
use Rattle.overload.proofs.Memory.{atomic-concrete, load-concrete, length-concrete}

-- a reference and a pointer ask the same of their element

regroup : (a b c d f : Bool) → (a && b && c && d && f) ≡ (a && (b && c && d && f))
regroup true b c d f = refl
regroup false b c d f = refl

module _ (space access : ℕ) (t : Ty) where
  pub rest : Bool
  rest = leb access read_write && is_value t && not (abstract_ty t) && formed t

  pub ref-parts : formed (ref space access t) ≡ (leb space handle && rest)
  unfolding formed rest
  ref-parts = regroup (leb space handle) (leb access read_write) (is_value t) (not (abstract_ty t)) (formed t)

  pub ptr-parts : formed (ptr space access t) ≡ (leb space storage && rest)
  unfolding formed rest
  ptr-parts = regroup (leb space storage) (leb access read_write) (is_value t) (not (abstract_ty t)) (formed t)

deep : (a b c d : Bool) → (a && b && c && d) ≡ true → c ≡ true
deep a b c d h = and_right (a && b) c (and_left (a && b && c) d h)

clear : (b : Bool) → not b ≡ true → T b → ⊥
clear b e h = T_not b (subst T (sym e) tt) h

lent-concrete : (space access : ℕ) (t : Ty) → T (formed (ref space access t)) → T (any_abstract (ref space access t ∷ [])) → ⊥
unfolding any_abstract abstract_ty or rest
lent-concrete space access t f h =
    let g = and_right (leb space handle) (rest space access t) (sym (ref-parts space access t) ∙ T_true (formed (ref space access t)) f) in
    clear (abstract_ty t) (deep (leb access read_write) (is_value t) (not (abstract_ty t)) (formed t) g) (⊎_elim (λ a. a) (λ a. absurd a) (or_cases (abstract_ty t) false h))

pointed-concrete : (space access : ℕ) (t : Ty) → T (formed (ptr space access t)) → T (any_abstract (ptr space access t ∷ [])) → ⊥
unfolding any_abstract abstract_ty or rest
pointed-concrete space access t f h =
    let g = and_right (leb space storage) (rest space access t) (sym (ptr-parts space access t) ∙ T_true (formed (ptr space access t)) f) in
    clear (abstract_ty t) (deep (leb access read_write) (is_value t) (not (abstract_ty t)) (formed t) g) (⊎_elim (λ a. a) (λ a. absurd a) (or_cases (abstract_ty t) false h))

module _ (ms : List Bool) where
  abbrev pub Stays : (Overload → Type 0) → Type 0
  Stays set = (o : Overload) → set o → T (remains ms o)

  pub address_stays : Stays address_of
  address_stays o m = concrete-remains o ms (λ h. lent-concrete m.0 m.1 m.2 m.4 (subst (λ (p : Overload). T (any_abstract p.params)) m.5 h))

  pub indirection-stays : Stays indirection_of
  indirection-stays o m = concrete-remains o ms (λ h. pointed-concrete m.0 m.1 m.2 m.3 (subst (λ (p : Overload). T (any_abstract p.params)) m.4 h))

  pub atomic-stays : (k : ℕ) (out : ℕ → Ty) → Stays (atomic_of k out)
  atomic-stays k out o m = concrete-remains o ms (atomic-concrete k out o m)

  pub load-stays : Stays uniform_load_of
  load-stays o m = concrete-remains o ms (load-concrete o m)

  pub length-stays : Stays array_length_of
  length-stays o m = concrete-remains o ms (length-concrete o m)

  -- so a set of which nothing is dropped has the judgments that it had, and where one that fits is preferred one still is
  module _ (set : Overload → Type 0) (stays : Stays set) (ts : List Ty) where
    pub to-left : (j : Judged) → Resolved set ts j → Resolved (remaining ms set) ts j
    to-left j q = same-resolved set (remaining ms set) ts (λ p f m. (m, stays p m)) (λ p f m. m.0) j q

    pub settled-left : Settled set ts → Settled (remaining ms set) ts
    settled-left s = same-settled set (remaining ms set) ts (λ p f m. (m, stays p m)) (λ p f m. m.0) s
