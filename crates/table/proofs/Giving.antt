-- The promise of a call: an answer and its words meet it where they are the outcome's, and then they are the whole outcome. Assumes nothing.
use mathlib.Core.Path.{◌≡◌, sym, ◌∙◌, ap}
use mathlib.Core.Bool.{Bool}
use mathlib.Core.List.{List}
use Prim.Native.Nat.{ℕ}
use Rattle.answer.specs.Answer.{numbers_of, marked_by}
use Rattle.answer.specs.declared.Answer.{Answer}
use Rattle.answer.specs.declared.Typed.{Typed}
use Rattle.table.specs.Placing.{Outcome, Gave, GaveMarked}

pub gave : {o : Outcome} {r : Answer} {v : List ℕ} → r ≡ o.answer → v ≡ o.words → Gave o r v
gave a b = record { reply = a; numbers = ap numbers_of a; words = b }

pub gave-whole : {o : Outcome} {r : Answer} {v : List ℕ} → record { answer = r; words = v } ≡ o → Gave o r v
gave-whole e = gave (ap (λ (o : Outcome). o.answer) e) (ap (λ (o : Outcome). o.words) e)

pub whole : (o : Outcome) (a : Answer) (v : List ℕ) → Gave o a v → o ≡ record { answer = a; words = v }
whole o a v g = λ i. record { answer = sym g.reply i; words = sym g.words i }

-- with the mark of its value
pub gave-marked : {o : Outcome} {m : Bool} {a : Answer} {r : Typed} {v : List ℕ} → Gave o a v → r ≡ marked_by m a → GaveMarked o m r v
gave-marked {o} {m} g e =
    let q = e ∙ ap (marked_by m) g.reply in
    record { reply = q; numbers = ap (λ (t : Typed). numbers_of t.answer) q; words = g.words }
