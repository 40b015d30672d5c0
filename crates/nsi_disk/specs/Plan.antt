-- What the next call of a disk in memory does.
use Rattle.std.specs.Prelude.{◌≡◌, ℕ, ◌≤◌, ◌<◌, ◌+◌, ◌-◌, min, nat_eq, Bool, true, false, if◌then◌else◌, IsTrue, List, [], ◌∷◌, Option, Some, None, Result, IsErrOf, IfOk, OnOk, IfSome, IfNone}
use Rattle.std.specs.List.{Contains}
use Rattle.nsi_disk.specs.declared.disk.DiskError.{DiskError}
use Rattle.nsi_disk.specs.declared.disk.DiskError.TheVariants.{Failed, Stopped, NoMemory}
use Rattle.nsi_disk.specs.declared.plan.Image.{Image}
use Rattle.nsi_disk.specs.declared.plan.Stop.{Stop}

-- how many calls there were, how many failed and stopped, and which are to fail and to stop, counted from 1
pub record Planned : Type 0 where
  pub calls : ℕ
  pub faults : ℕ
  pub stops : ℕ
  pub failing : List ℕ
  pub stopping : List Stop

-- nothing was called yet, and so much is planned
abbrev pub first_plan : List ℕ → List Stop → Planned
first_plan failing stopping =
    record { calls = 0; faults = 0; stops = 0; failing = failing; stopping = stopping }

-- how many calls can be counted
abbrev pub most_calls : ℕ
most_calls = 18446744073709551615

-- what the first stop that is planned for this call leaves
abbrev pub planned_image : ℕ → List Stop → Option Image
planned_image call [] = None
planned_image call (s ∷ stops) = if nat_eq s.call call then Some s.image else planned_image call stops

-- how many of the stops are planned for calls that are still to come
abbrev pub to_come : (calls : ℕ) → List Stop → ℕ
to_come calls [] = 0
to_come calls (s ∷ stops) = min 1 (s.call - calls) + to_come calls stops

-- one call more: a listed one fails, and no other; one that doesn't fail stops where that is planned, and nowhere else; a
-- call of a stopped disk is refused, and isn't counted
pub record Turn (old new : Planned) (stopped : Bool) (result : Result (Option Image) DiskError) : Type 0 where
  pub faults : old.faults ≤ new.faults
  pub stops : old.stops ≤ new.stops
  pub failed : IsErrOf result Failed → old.faults < new.faults
  pub refused : IsErrOf result Stopped → IsTrue stopped
  pub refuses : IsTrue stopped → IsErrOf result Stopped
  pub given : IsErrOf result NoMemory → ⊥
  pub runs : IfOk result (λ _. stopped ≡ false)
  pub quiet : OnOk result (new.faults ≡ old.faults)
  pub calm : IfOk result (λ turn. IfNone turn (new.stops ≡ old.stops))
  pub stops_now : IfOk result (λ turn. IfSome turn (λ _. old.stops < new.stops))
  pub fails : stopped ≡ false → old.calls < most_calls → Contains old.failing (old.calls + 1) → IsErrOf result Failed
  pub listed : IsErrOf result Failed → Contains old.failing (old.calls + 1)
  pub images : IfOk result (λ turn. old.calls < most_calls → turn ≡ planned_image (old.calls + 1) old.stopping)
  pub called : stopped ≡ false → new.calls ≡ min (old.calls + 1) most_calls
  pub same : stopped ≡ true → new ≡ old
  pub failing : new.failing ≡ old.failing
  pub stopping : new.stopping ≡ old.stopping

-- a call is within the room
pub record Within (calls longest bytes reach spent length : ℕ) : Type 0 where
  pub some : 1 ≤ calls
  pub reaches : reach ≤ longest
  pub few : spent ≤ bytes
  pub long : length ≤ longest
