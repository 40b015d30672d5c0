-- What a reader's answer says.
use Rattle.std.specs.Prelude.{◌≡◌, Option, Some, None, Result, Ok, Err}
use Rattle.trace_reader.specs.declared.fault.EventFault.{EventFault}
use Rattle.trace_reader.specs.declared.fault.EventFault.TheVariants.{NotAnEvent, NoMemory}

-- there is nothing of the form, where it isn't want of memory
abbrev pub Refuses : {A : Type 0} → EventFault → Option A → Type 0
Refuses NotAnEvent read = read ≡ None
Refuses NoMemory read = Unit {0}

-- what was returned, by a view, is what reading gives, unless memory ran out
abbrev pub Gives : {X A : Type 0} → (X → A) → Result X EventFault → Option A → Type 0
Gives view (Ok x) read = read ≡ Some (view x)
Gives view (Err fault) read = Refuses fault read
