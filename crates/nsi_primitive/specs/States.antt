-- The names of states and machines.
use Rattle.std.specs.Prelude.{ℕ, List, [], ◌∷◌, codes, if◌then◌else◌, Option, Some, None}
use Rattle.std.specs.Str.{bytes_eq}
use Rattle.nsi_primitive.specs.declared.state.Rsm.{Rsm}
use Rattle.nsi_primitive.specs.declared.state.Psm.{Psm}
use Rattle.nsi_primitive.specs.declared.state.Lsm.{Lsm}
use Rattle.nsi_primitive.specs.declared.state.Machine.{Machine}

unfoldable pub rsm_text : Rsm → List ℕ
rsm_text Rsm.ReserveStart = codes "ReserveStart"
rsm_text Rsm.ReserveChecking = codes "ReserveChecking"
rsm_text Rsm.ReserveFailed = codes "ReserveFailed"
rsm_text Rsm.ReserveHeld = codes "ReserveHeld"
rsm_text Rsm.ReserveCommitting = codes "ReserveCommitting"
rsm_text Rsm.ReserveTimeout = codes "ReserveTimeout"
rsm_text Rsm.ReserveAborting = codes "ReserveAborting"

unfoldable pub psm_text : Psm → List ℕ
psm_text Psm.Released = codes "Released"
psm_text Psm.Provisioning = codes "Provisioning"
psm_text Psm.Provisioned = codes "Provisioned"
psm_text Psm.Releasing = codes "Releasing"

unfoldable pub lsm_text : Lsm → List ℕ
lsm_text Lsm.Created = codes "Created"
lsm_text Lsm.Failed = codes "Failed"
lsm_text Lsm.PassedEndTime = codes "PassedEndTime"
lsm_text Lsm.Terminating = codes "Terminating"
lsm_text Lsm.Terminated = codes "Terminated"

-- the first of some states that has the name
unfoldable pub first_state : {A : Type 0} → (A → List ℕ) → List ℕ → List A → Option A
first_state text name [] = None
first_state text name (state ∷ others) = if bytes_eq name (text state) then Some state else first_state text name others

-- the states of each machine
abbrev pub rsms : List Rsm
rsms = Rsm.ReserveStart ∷ Rsm.ReserveChecking ∷ Rsm.ReserveFailed ∷ Rsm.ReserveHeld ∷ Rsm.ReserveCommitting ∷ Rsm.ReserveTimeout ∷ Rsm.ReserveAborting ∷ []

abbrev pub psms : List Psm
psms = Psm.Released ∷ Psm.Provisioning ∷ Psm.Provisioned ∷ Psm.Releasing ∷ []

abbrev pub lsms : List Lsm
lsms = Lsm.Created ∷ Lsm.Failed ∷ Lsm.PassedEndTime ∷ Lsm.Terminating ∷ Lsm.Terminated ∷ []

-- the state that has the name
unfoldable pub rsm_named : List ℕ → Option Rsm
rsm_named name = first_state rsm_text name rsms

unfoldable pub psm_named : List ℕ → Option Psm
psm_named name = first_state psm_text name psms

unfoldable pub lsm_named : List ℕ → Option Lsm
lsm_named name = first_state lsm_text name lsms

-- a machine's name
unfoldable pub machine_text : Machine → List ℕ
machine_text Machine.Reserve = codes "reserve"
machine_text Machine.Provision = codes "provision"
machine_text Machine.Lifecycle = codes "lifecycle"

abbrev pub machines : List Machine
machines = Machine.Reserve ∷ Machine.Provision ∷ Machine.Lifecycle ∷ []

-- the machine that has the name
unfoldable pub machine_named : List ℕ → Option Machine
machine_named name = first_state machine_text name machines
