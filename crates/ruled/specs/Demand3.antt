-- DEMAND 3, as the customer states it, of a call that is ruled by a set of overloads: "a call is accepted exactly when an overload fits, all operands converting to its
-- parameters. The result is that of one fitting overload under which no operand costs more, by WGSL's conversion ranks, than under any other fitting overload; every
-- other costs more at some operand." By document 02, K3, the set is what remains of the overloads by the operands' marks. Assumes nothing.
use Rattle.std.specs.Prelude.{ℕ, ◌-◌, ◌≤◌, ◌≡◌, List, T}
use Rattle.conv.specs.Types.{Ty}
use Rattle.overload.specs.Overload.{Overload, fits, Preferred}
use Rattle.table.specs.Denote.{type_at}
use Rattle.table.specs.Enter.{free}
use Rattle.table.specs.Placing.{Outcome, placed}
use Rattle.answer.specs.declared.TypeNo.{TypeNo}
use Rattle.answer.specs.declared.Answer.TheVariants.{Value, NoValue}

-- a call is accepted: it answers a type's number; a call without value, as atomicStore, that it has none
abbrev pub Accepts : Outcome → Type 0
Accepts o = (t : TypeNo) × (m : ℕ) × (o.answer ≡ Value t m)

abbrev pub AcceptsSilently : Outcome → Type 0
AcceptsSilently o = (m : ℕ) × (o.answer ≡ NoValue m)

-- "with room": as many entries are free as the result lacks
abbrev pub Room : List ℕ → ℕ → Ty → Type 0
Room w n R = (placed w n R).used - n ≤ free w n

abbrev pub HasRoom : (Overload → Type 0) → List ℕ → ℕ → List Ty → Type 0
HasRoom set w n ts = (o : Overload) → Preferred set ts o → Room w n o.result

-- ts are the types of the operands, o is what the call comes to, and `accepts` says that it is accepted
pub record DemandBy (accepts : Outcome → Type 0) (set : Overload → Type 0) (ts : List Ty) (o : Outcome) : Type 0 where
  pub accepted : (p : Overload) → set p → T (fits p.params ts) → accepts o
  pub fitting : accepts o → (p : Overload) × set p × T (fits p.params ts)
  pub result : (t : TypeNo) (m : ℕ) → o.answer ≡ Value t m → (p : Overload) × Preferred set ts p × (type_at o.words t.0 ≡ p.result)
  pub alone : (p q : Overload) → Preferred set ts p → Preferred set ts q → p ≡ q

-- of a call that gives a value, and of one that gives none, of which `result` says nothing
abbrev pub Demand3 : (Overload → Type 0) → List Ty → Outcome → Type 0
Demand3 set ts o = DemandBy Accepts set ts o

abbrev pub SilentDemand3 : (Overload → Type 0) → List Ty → Outcome → Type 0
SilentDemand3 set ts o = DemandBy AcceptsSilently set ts o
