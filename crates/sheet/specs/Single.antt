-- The outcome of a single call, taken at an item's place: "Single calls have place 0". Assumes nothing.
use Rattle.std.specs.Prelude.{ℕ}
use Rattle.table.specs.Placing.{Outcome}
use Rattle.answer.specs.declared.Answer.{Answer}
use Rattle.answer.specs.declared.Answer.TheVariants.{Value, NoValue, Refused}

-- an answer with a place put into its refusal, and into nothing else
abbrev pub placing : ℕ → Answer → Answer
placing place (Value t m) = Value t m
placing place (NoValue m) = NoValue m
placing place (Refused r) = Refused (record { reason = r.reason; place = record { 0 = place }; used = r.used })

-- an outcome with its refusal at a place: the words are the same
abbrev pub moved : ℕ → Outcome → Outcome
moved place o = record { answer = placing place o.answer; words = o.words }
