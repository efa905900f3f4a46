-- No second reply, and no other bytes afterwards, meet the promises about the pieces that `tell` asks for: of any query that it may answer with there are as many as the sheet has, and each is the
-- sheet's. Assumes nothing.
use Prim.Native.Nat.{ℕ}
use mathlib.Core.Path.{◌≡◌, sym, ◌∙◌, ap, subst}
use mathlib.Core.List.{List, []}
use lib.ListN.{length, get_or}
use Rattle.text.specs.Text.{Put}
use Rattle.text.proofs.OneReply.{one-put}
use Rattle.desk.specs.declared.Query.{Query}
use Rattle.desk.specs.Desk.{desk_pieces}
use Rattle.desk.specs.inner.Code.{pieces_of, all_pieces, Queries, Counted}
use Rattle.std.specs.Prelude.{Option}
use Rattle.std.proofs.Common.{Some, None}

module _ (profile : ℕ) (s : List ℕ) {q : Query} {vals words : List ℕ} (t : Queries (desk_pieces profile s) (Some q) vals words) where
  unfolded : pieces_of q vals words ≡ desk_pieces profile s
  unfolded = t.pieces

  pub told-count : {r : ℕ} → Counted q r → r ≡ length (desk_pieces profile s)
  told-count h = h vals words ∙ ap length unfolded

  pub told-piece : (j : ℕ) {at r : ℕ} {d v : List ℕ} → Put d at (get_or (pieces_of q vals words) j []) r v → Put d at (get_or (desk_pieces profile s) j []) r v
  told-piece j {at} {r} {d} {v} h = subst (λ (ps : List (List ℕ)). Put d at (get_or ps j []) r v) unfolded h

-- where nothing is asked, nothing is told
pub told-none : (profile : ℕ) (s : List ℕ) {vals words : List ℕ} → Queries (desk_pieces profile s) None vals words → desk_pieces profile s ≡ []
told-none profile s t = sym t.pieces

-- any two answers, none among them, come to the same pieces
pub one-told : (profile : ℕ) (s : List ℕ) {o o' : Option Query} {vals words vals' words' : List ℕ} → Queries (desk_pieces profile s) o vals words → Queries (desk_pieces profile s) o' vals' words' → all_pieces o vals words ≡ all_pieces o' vals' words'
one-told profile s t t' = t.pieces ∙ sym t'.pieces

-- so with two queries
module _ (profile : ℕ) (s : List ℕ) {q q' : Query} {vals words vals' words' : List ℕ} (t : Queries (desk_pieces profile s) (Some q) vals words) (t' : Queries (desk_pieces profile s) (Some q') vals' words') where
  pub one-count : {r r' : ℕ} → Counted q r → Counted q' r' → r ≡ r'
  one-count h h' = told-count profile s t h ∙ sym (told-count profile s t' h')

  pub one_piece : (j : ℕ) {at r r' : ℕ} {d v v' : List ℕ} → Put d at (get_or (pieces_of q vals words) j []) r v → Put d at (get_or (pieces_of q' vals' words') j []) r' v' → (r ≡ r') × (v ≡ v')
  one_piece j h h' = one-put (told-piece profile s t j h) (told-piece profile s t' j h')
