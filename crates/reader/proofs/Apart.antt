-- A reader passed by value is taken apart for a call on its sheet and its place: a reader is Copy, so what it owns is had twice; one copy is kept whole for
-- the exit, and of the other what sheet owns goes to the callee, beside the lifetime's token and the facts of the place, which are had anew.
-- Assumes nothing.
use mathlib.Core.Path.{◌≡◌}
use mathlib.Core.List.{[], ◌∷◌}
use lib.ListN.{length}
use seplogic.Ra.Ura.{Ura}
use mir.Syntax.{named}
use mir.Val.{Val}
use base.Logic.{SProp, ent, sep}
use base.Fml.{Lft, Share, Fml, ftrue, flft}
use types.Logic.{Logic, sem}
use contract.Lifetimes.{Lfts}
use types.Kit.{‵, raw, ◌⊛◌, given, ⋆, ◌$◌, ◌∵◌, !, qed, move, drop, use1, use2, split, learn, fsplit, fjoin, frame, done}
use denote.RattleType.{RattleType, owns}
use denote.Laws.{Is}
use denote.Builtin.{u8}
use denote.Ref.{NamedLft}
use denote.Signature.{named_lft}
use denote.Slice.{slice_val, ShrSlice}
use denote.Steps.{owned, nothing}
use denote.Struct.Declared.{Declared}
use denote.Struct.Laws as LL
use denote.Struct.Rest.{all_own, field_own, rest, own_open, own_out}
use denote.Struct.Values.{Values}
use Rattle.answer.specs.contracts.Place as P
use Rattle.answer.proofs.Place.TheLaws as P'
use Rattle.reader.specs.declared.Reader.{Reader}
use Rattle.reader.specs.contracts.Reader as T
use Rattle.reader.proofs.Reader.TheLaws as T'

-- the reader's type, over the signature's lifetimes
abbrev pub B : Lfts 1 → RattleType
B κs = T.the_row (named_lft 1 0 tt κs)

module _ {M : Type 1} {𝓤 : Ura M} (𝓛 : Logic 𝓤) (κ : Lft) (q : Share) (d : Reader) where
  abbrev α : NamedLft
  α = named_lft 1 0 tt (κ, tt)

  abbrev mach : Val
  mach = T'.lowered d

  -- the machine value of sheet
  abbrev v : Val
  v = slice_val d.sheet.ref_ptr (length d.sheet.now)

  abbrev Own : Fml
  Own = (B (κ, tt)).own_val d (mach ∷ [])

  -- the struct's type and laws, and d's fields' values
  abbrev D : Declared
  D = T.the_type α

  abbrev L : LL.Laws D
  L = T'.the_laws α

  abbrev vd : Values D.parts
  vd = (d.sheet, (d.at, tt))

  -- what the struct owns gives what a callee asks, and is kept
  pub apart : (asks : SProp 𝓤) → ent 𝓤 (⋆ 𝓛 ((‵ (flft κ q) ⊛ ‵ ftrue) ∷ ‵ (owns (ShrSlice (named 0) κ u8 ∷ P.the_row ∷ []) (d.sheet, (d.at, tt)) (v ∷ [], (P'.lowered d.at ∷ [], tt))) ∷ [])) asks
      → Is (B (κ, tt)) d (mach ∷ []) → ent 𝓤 (⋆ 𝓛 ((‵ (flft κ q) ⊛ ‵ ftrue) ∷ ‵ (owns (B (κ, tt) ∷ []) (d, tt) (mach ∷ [], tt)) ∷ [])) (sep 𝓤 asks (sem 𝓛 Own))
  apart asks asked is-d =
      qed 𝓛 ((‵ (flft κ q) ⊛ ‵ ftrue) ∷ ‵ (owns (B (κ, tt) ∷ []) (d, tt) (mach ∷ [], tt)) ∷ []) ∵
      move ! (1 ∷ []) $ fsplit ! $ move ! (1 ∷ []) $ drop ! $ use1 𝓛 (‵ Own ⊛ ‵ Own) ((LL.copy D (T'.the_copy α) 𝓛).twice d (mach ∷ [])) $ split ! $
      use1 𝓛 (given (mach ∷ [] ≡ mach ∷ []) (‵ (all_own D.parts L vd))) (own_open 𝓛 D L vd mach) $ learn ! (λ _. use1 𝓛 (‵ (field_own D.parts L 0 d.sheet) ⊛ ‵ (rest D.parts L 0 vd)) (own_out 𝓛 D.parts L 0 vd) $ split ! $
      -- [what sheet owns; what at owns; what the struct owns; the token]
      move ! (1 ∷ []) $ drop ! $ nothing ! $ owned ! P.the_row (Is P.the_row) (LL.makes P.the_type P'.the_plain 𝓛) d.at (P'.lowered d.at ∷ []) (LL.owed D L d (mach ∷ []) is-d).1.0 $ fjoin ! $ move ! (1 ∷ 0 ∷ []) $ fjoin ! $
      move ! (2 ∷ 0 ∷ []) $ use2 𝓛 (raw asks) asked $ frame ! $ done !)
