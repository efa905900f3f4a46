-- How much room is missing (document 02, K2), of an item of a sheet. Assumes nothing.
use Rattle.std.specs.Prelude.{ℕ, ◌+◌, ◌≤◌, ◌<◌, ◌≡◌, List}
use Rattle.answer.specs.declared.Reason.TheVariants.{NoRoom}
use Rattle.table.specs.Table.{ceiling}
use Rattle.table.specs.Enter.{free}
use Rattle.step.specs.Effect.{State, Effect, stops}

-- the same state over other words
abbrev pub over : State → List ℕ → State
over st v = record { stack = st.stack; used = st.used; words = v }

-- 9, with K entries lacking
abbrev pub StopsLacking : Effect → ℕ → Type 0
StopsLacking e K = (place used : ℕ) × (x : List ℕ) × (e ≡ stops (record { reason = NoRoom K; place = record { 0 = place }; used = used }) x)

-- e is what an item does over the words w, e' what it does over a slice longer by k entries: as `Grown` of `table/specs/Lacking.antt` says it of a call
pub record GrownItem (w : List ℕ) (n k : ℕ) (e e' : Effect) : Type 0 where
  pub enough : (K : ℕ) → StopsLacking e K → n + (K + free w n) ≤ ceiling → K ≤ k → (J : ℕ) → StopsLacking e' J → ⊥
  pub short : (K : ℕ) → StopsLacking e K → n + (K + free w n) ≤ ceiling → k < K → (J : ℕ) × StopsLacking e' J
