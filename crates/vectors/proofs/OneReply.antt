-- For each public function: no second reply, and no other words afterwards, meet its promise. Assumes nothing.
use Rattle.std.proofs.Common.{◌≡◌, ℕ, Bool, List, sym, ◌∙◌}
use Rattle.answer.specs.declared.Answer.{Answer}
use Rattle.vectors.specs.Filled.{FillDone}
use Rattle.vectors.specs.Chars.{char_of, answer_char, type_no}
use Rattle.vectors.specs.Lines.{counted_of, line_end}

pub fill_one : {w : List ℕ} {a b : ℕ} {u v : List ℕ} → FillDone w a u → FillDone w b v → (a ≡ b) × (u ≡ v)
fill_one x y = (x.used ∙ sym y.used, x.words ∙ sym y.words)

pub char-of-one : (n new : ℕ) (r : Answer) {a b : ℕ} → a ≡ char_of n new r → b ≡ char_of n new r → a ≡ b
char-of-one n new r x y = x ∙ sym y

pub answer-char-one : (w : List ℕ) (r : Answer) {a b : ℕ} → a ≡ answer_char w r → b ≡ answer_char w r → a ≡ b
answer-char-one w r x y = x ∙ sym y

pub type-no-one : (c : ℕ) {a b : ℕ} → a ≡ type_no c → b ≡ type_no c → a ≡ b
type-no-one c x y = x ∙ sym y

pub counted-one : (n : ℕ) (agreed : Bool) {a b : ℕ} → a ≡ counted_of n agreed → b ≡ counted_of n agreed → a ≡ b
counted-one n agreed x y = x ∙ sym y

pub line-end-one : (s : List ℕ) (at : ℕ) {a b : ℕ} → a ≡ line_end s at → b ≡ line_end s at → a ≡ b
line-end-one s at x y = x ∙ sym y
