-- Steps that end with a value or with the first fault.
use Rattle.std.specs.Prelude.{◌≡◌, ℕ, List, Result, Ok, Err, Option, Some, None, codes}
use Rattle.stp_topology.specs.declared.fault.TopologyFault.{TopologyFault}
use Rattle.stp_topology.specs.declared.fault.TopologyFault.TheVariants.{Word, Unknown, Twice, Cycle, TooDeep, Limit, Empty}
use Rattle.stp_topology.specs.declared.fault.LineRefusal.{LineRefusal}
use Rattle.stp_topology.specs.declared.fault.LineRefusal.TheVariants.{Fault, NoMemory}

-- a fault as it is printed
abbrev pub fault_name : TopologyFault → List ℕ
fault_name Word = codes "Word"
fault_name Unknown = codes "Unknown"
fault_name Twice = codes "Twice"
fault_name Cycle = codes "Cycle"
fault_name TooDeep = codes "TooDeep"
fault_name Limit = codes "Limit"
fault_name Empty = codes "Empty"

-- a step after another: the first fault ends both
infixl 10 ◌>>=◌
abbrev pub ◌>>=◌ : {A B : Type 0} → Result A TopologyFault → (A → Result B TopologyFault) → Result B TopologyFault
(Ok x) >>= f = f x
(Err e) >>= f = Err e

-- the value, or a given fault where there is none
abbrev pub value_or : {A : Type 0} → TopologyFault → Option A → Result A TopologyFault
value_or fault None = Err fault
value_or fault (Some x) = Ok x

-- the refusal is the definition's fault; want of memory says nothing
abbrev pub Refuses : {A : Type 0} → LineRefusal → Result A TopologyFault → Type 0
Refuses (Fault fault) read = read ≡ Err fault
Refuses NoMemory read = Unit {0}

-- what a function returned, by a view, is what the definition gives, unless memory ran out
abbrev pub Gives : {X A : Type 0} → (X → A) → Result X LineRefusal → Result A TopologyFault → Type 0
Gives view (Ok x) read = read ≡ Ok (view x)
Gives view (Err e) read = Refuses e read

-- what a function that changes a value returned is what the definition gives, unless memory ran out
abbrev pub Leaves : {X A : Type 0} → Result X LineRefusal → A → Result A TopologyFault → Type 0
Leaves (Ok x) new read = read ≡ Ok new
Leaves (Err e) new read = Refuses e read
