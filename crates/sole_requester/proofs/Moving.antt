-- A record at its place moves, and tells the change of its data plane.
use Rattle.std.proofs.Common.{◌≡◌, ◌∙◌, ◌≤◌, ◌<◌, ◌+◌, inl, inr, ℕ, suc, Bool, true, false, List, [], ◌∷◌, ◌++◌, Option, Some, None, arith, refl, sym, ap, length, length-append, slice_get}
use Rattle.std.proofs.lemmas.Option.{slice_get-get_or}
use Rattle.nsi_primitive.specs.Ids.{id_of}
use Rattle.nsi_primitive.specs.declared.kind.ErrorName.{ErrorName}
use Rattle.nsi_primitive.specs.declared.plane.Plane.{Plane}
use Rattle.nsi_primitive.specs.declared.state.Rsm.{Rsm}
use Rattle.nsi_primitive.specs.declared.state.Psm.{Psm}
use Rattle.nsi_primitive.specs.declared.state.Lsm.{Lsm}
use Rattle.nsi_primitive.specs.declared.state.Side.{Side}
use Rattle.reserve_machine.specs.Table.{step as reserve_step}
use Rattle.provision_machine.specs.Table.{step as provision_step}
use Rattle.lifecycle_machine.specs.Table.{step as lifecycle_step}
use Rattle.connection_record.specs.declared.record.Record.{Record}
use Rattle.connection_record.specs.declared.life.LifecycleMove.{LifecycleMove}
use Rattle.connection_record.specs.declared.moves.ReservationMove.{ReservationMove}
use Rattle.connection_record.specs.declared.moves.Reply.{Reply}
use Rattle.connection_record.specs.declared.provisioning.ProvisionMove.{ProvisionMove}
use Rattle.connection_record.specs.declared.apply.Move.{Move}
use Rattle.connection_record.specs.Replies.{Moved, addressed, plain}
use Rattle.connection_record.specs.Moves.{event_of, reserves, reserves_if}
use Rattle.connection_record.specs.Lives.{provision_event, lifecycle_event, provisions, provisions_if, lives}
use Rattle.connection_record.specs.Applied.{reservation_closing, provision_closing, closes_reservation, closes_provision, closes, moves, moves_if, status_of, is_told, tells_plane, tells}
use Rattle.connection_record.proofs.Growing.{moves_if_later}
use Rattle.provider_agent.specs.Setting.{Setting}
use Rattle.provider_agent.specs.State.{State, no_record, record_at}
use Rattle.provider_agent.specs.Steps.{keeps}
use Rattle.provider_agent.specs.Working.{works_in, works_among}
use Rattle.provider_agent.proofs.RecordPlaces.{set_cases, sum_beside, sum_with}
use Rattle.provider_agent.proofs.Turning.{told_keeps}
use Rattle.provider_agent.proofs.WaitingWork.{moves_if_works, told_works}
use Rattle.sole_requester.specs.Sole.{AreOwnedBy, WaitsAt}

---- How much is said

reserves_few : (k : Rsm) (move : ReservationMove) (now : ℕ) (r : Record) → length (reserves k move now r).out ≤ 1
unfolding reserves reserve_step event_of
reserves_few k move now r = grind arith

provisions_few : (side : Side) (k : Psm) (move : ProvisionMove) (now : ℕ) (r : Record) → length (provisions side k move now r).out ≤ 1
unfolding provisions provision_step provision_event
provisions_few side k move now r = grind arith

lives_few : (k : Lsm) (move : LifecycleMove) (now : ℕ) (r : Record) → length (lives k move now r).out ≤ 1
unfolding lives lifecycle_step lifecycle_event
lives_few k move now r = grind arith

reserves_if_few : (o : Option ReservationMove) (now : ℕ) (r : Record) → length (reserves_if o now r).out ≤ 1
reserves_if_few None now r = omega arith
reserves_if_few (Some m) now r = reserves_few r.rsm m now r

provisions_if_few : (side : Side) (o : Option ProvisionMove) (now : ℕ) (r : Record) → length (provisions_if side o now r).out ≤ 1
provisions_if_few side None now r = omega arith
provisions_if_few side (Some m) now r = provisions_few side r.psm m now r

closes_few : (agent : List ℕ) (side : Side) (now : ℕ) (r : Record) → length (closes agent side now r).out ≤ 3
unfolding closes
closes_few agent side now r =
    let a : Moved = closes_reservation agent now r in
    let b : Moved = closes_provision agent side now a.rec in
    let c : Moved = lives b.rec.lsm LifecycleMove.Done now b.rec in
    omega (arith, length-append (a.out ++ b.out) c.out, length-append a.out b.out, reserves_if_few (reservation_closing r.rsm (plain agent ErrorName.Gone)) now r, provisions_if_few side (provision_closing a.rec.psm (plain agent ErrorName.Gone)) now a.rec, lives_few b.rec.lsm LifecycleMove.Done now b.rec)

moves_few : (side : Side) (move : Move) (now : ℕ) (r : Record) → length (moves side move now r).out ≤ 3
unfolding moves
moves_few side (Move.Reservation m) now r = omega (arith, reserves_few r.rsm m now r)
moves_few side (Move.Provision m) now r = omega (arith, provisions_few side r.psm m now r)
moves_few side (Move.Lifecycle m) now r = omega (arith, lives_few r.lsm m now r)
moves_few side (Move.Close agent) now r = closes_few agent side now r

moves_if_few : (side : Side) (o : Option Move) (now : ℕ) (r : Record) → length (moves_if side o now r).out ≤ 3
moves_if_few side None now r = omega arith
moves_if_few side (Some move) now r = moves_few side move now r

plane_few : (told : Bool) (p : Plane) (c now : ℕ) (r : Record) → length (tells_plane told p c now r).out ≤ 1
unfolding tells_plane
plane_few true p c now r = omega arith
plane_few false p c now r = omega arith

tells_few : (before : Plane) (c now : ℕ) (x : Moved) → length (tells before c now x).out ≤ length x.out + 1
unfolding tells
tells_few before c now x =
    let y : Moved = tells_plane (is_told before now x.rec) (status_of now x.rec) c now x.rec in
    omega (arith, length-append x.out y.out, plane_few (is_told before now x.rec) (status_of now x.rec) c now x.rec)

addressed_length : (agent owner : List ℕ) (out : List Reply) → length (addressed agent owner out) ≡ length out
addressed_length agent owner [] = refl
addressed_length agent owner (x ∷ out) = ap suc (addressed_length agent owner out)

---- Where work waits

-- one record has no more to do than all
pub works_each : (records : List Record) (n : ℕ) (r : Record) → slice_get records n ≡ Some r → works_in r ≤ works_among records
works_each records n r h = omega (arith, sum_beside works_in records n r h)

pub waits_nowhere : (records : List Record) (at : Option ℕ) → works_among records ≡ 0 → WaitsAt at records
waits_nowhere records at none = λ n r h w. absurd (omega (arith, works_each records n r h, w, none))

---- One record moves

module _ (setting : Setting) (s : State) (n : ℕ) (o : Option Move) (lt : n < length s.records) where
  abbrev r : Record
  r = record_at n s.records

  abbrev x : Moved
  x = moves_if Side.Provider o s.now r

  abbrev c : ℕ
  c = id_of setting.number s.next

  abbrev y : Moved
  y = tells (status_of s.now r) c s.now x

  there : slice_get s.records n ≡ Some r
  there = slice_get-get_or s.records n no_record lt

  pub kept_few : length (keeps setting s n x).out ≤ 4
  kept_few = omega (arith, addressed_length setting.name y.rec.owner y.out, tells_few (status_of s.now r) c s.now x, moves_if_few Side.Provider o s.now r)

  same_owner : y.rec.owner ≡ r.owner
  same_owner = told_keeps (λ z. z.owner ≡ r.owner) (status_of s.now r) c s.now x (λ notices. (moves_if_later Side.Provider o s.now r).owner)

  same_id : y.rec.id ≡ r.id
  same_id = told_keeps (λ z. z.id ≡ r.id) (status_of s.now r) c s.now x (λ notices. (moves_if_later Side.Provider o s.now r).id)

  pub kept_owners : (name : List ℕ) → AreOwnedBy name s.records → AreOwnedBy name (keeps setting s n x).state.records
  kept_owners name own k z h = elim (set_cases s.records n k y.rec z r there h) [
    | inl e ↦ ap (λ (q : Record). q.owner) (sym e.1) ∙ (same_owner ∙ own n r there)
    | inr q ↦ own k z q
  ]

  pub kept_works : works_among (keeps setting s n x).state.records ≤ works_among s.records + 1
  kept_works = omega (arith, sum_beside works_in s.records n r there, sum_with works_in s.records n r y.rec there, told_works (status_of s.now r) c s.now x, moves_if_works Side.Provider o s.now r)

  -- exactly as much more or less as the move makes
  pub kept_exactly : works_among (keeps setting s n x).state.records + works_in r ≡ works_among s.records + works_in x.rec
  kept_exactly = omega (arith, sum_beside works_in s.records n r there, sum_with works_in s.records n r y.rec there, told_works (status_of s.now r) c s.now x)

  pub kept_only : works_among s.records ≡ 0 → WaitsAt (Some r.id) (keeps setting s n x).state.records
  kept_only none k z h w = elim (set_cases s.records n k y.rec z r there h) [
    | inl e ↦ ap Some (ap (λ (q : Record). q.id) (sym e.1) ∙ same_id)
    | inr q ↦ absurd (omega (arith, works_each s.records k z q, w, none))
  ]
