-- Steps that end with a value or with the first fault.
use Rattle.std.specs.Prelude.{◌≡◌, ℕ, List, Bool, true, false, Result, Ok, Err, Option, Some, None, codes}
use Rattle.nsi_script.specs.declared.fault.ScriptFault.{ScriptFault}
use Rattle.nsi_script.specs.declared.fault.ScriptFault.TheVariants.{Word, Agent, Time, Label, Limit}
use Rattle.nsi_script.specs.declared.fault.LineRefusal.{LineRefusal}
use Rattle.nsi_script.specs.declared.fault.LineRefusal.TheVariants.{Fault, NoMemory}

-- a fault as it is printed
abbrev pub fault_name : ScriptFault → List ℕ
fault_name Word = codes "Word"
fault_name Agent = codes "Agent"
fault_name Time = codes "Time"
fault_name Label = codes "Label"
fault_name Limit = codes "Limit"

-- a step after another: the first fault ends both
infixl 10 ◌>>=◌
abbrev pub ◌>>=◌ : {A B : Type 0} → Result A ScriptFault → (A → Result B ScriptFault) → Result B ScriptFault
(Ok x) >>= f = f x
(Err e) >>= f = Err e

-- the value, or a given fault where there is none
abbrev pub value_or : {A : Type 0} → ScriptFault → Option A → Result A ScriptFault
value_or fault None = Err fault
value_or fault (Some x) = Ok x

-- goes on only where something holds
abbrev pub demand : Bool → ScriptFault → Result Bool ScriptFault
demand true fault = Ok true
demand false fault = Err fault

-- the refusal is the definition's fault; want of memory says nothing
abbrev pub Refuses : {A : Type 0} → LineRefusal → Result A ScriptFault → Type 0
Refuses (Fault fault) read = read ≡ Err fault
Refuses NoMemory read = Unit {0}

-- what a function returned, by a view, is what the definition gives, unless memory ran out
abbrev pub Gives : {X A : Type 0} → (X → A) → Result X LineRefusal → Result A ScriptFault → Type 0
Gives view (Ok x) read = read ≡ Ok (view x)
Gives view (Err e) read = Refuses e read

-- what a function that changes a value returned is what the definition gives, unless memory ran out
abbrev pub Leaves : {X A : Type 0} → Result X LineRefusal → A → Result A ScriptFault → Type 0
Leaves (Ok x) new read = read ≡ Ok new
Leaves (Err e) new read = Refuses e read
