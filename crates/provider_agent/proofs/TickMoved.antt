-- What a tick leaves of a record.
use Rattle.std.proofs.Common.{◌≡◌, ◌<◌, ◌⊎◌, inl, inr, ℕ, Bool, true, false, Some, List, refl, sym, ap, subst, ◌∙◌, arith}
use Rattle.std.proofs.lemmas.Bool.Decides.{nat_tests}
use Rattle.nsi_primitive.specs.declared.message.Notice.{Notice}
use Rattle.nsi_primitive.specs.declared.plane.Plane.{Plane}
use Rattle.nsi_primitive.specs.declared.state.Lsm.{Lsm}
use Rattle.nsi_primitive.specs.declared.state.Rsm.{Rsm}
use Rattle.reserve_machine.specs.Table.{step as reserve_step}
use Rattle.lifecycle_machine.specs.Table.{step as lifecycle_step}
use Rattle.connection_record.specs.declared.record.Record.{Record}
use Rattle.connection_record.specs.declared.moves.Origin.{Origin}
use Rattle.connection_record.specs.Demand.{last, held, holds_pending, is_terminated}
use Rattle.connection_record.specs.Lives.{lifecycle_event, lives, lives_if, passed}
use Rattle.connection_record.specs.Moves.{event_of, reserves, reserves_if, hold_end, is_live, is_over, is_working, lapsed, notified}
use Rattle.connection_record.specs.Replies.{Moved}
use Rattle.connection_record.specs.Applied.{schedule_end, ticks, ticked, status_of, is_told, tells_plane, tells, has_work, first_machine, waits, is_terminating}
use Rattle.provider_agent.specs.declared.agent.Agent.{Agent}
use Rattle.provider_agent.specs.Indexed.{held_until, ends_at, starts_at}
use Rattle.provider_agent.specs.Steps.{told_at, own_origin}
use Rattle.provider_agent.specs.Ticks.{is_ending}

---- The hold, and the schedule

pub hold_over : Bool → ℕ → Record → Record
hold_over true now r = lapsed Rsm.ReserveTimeout (notified now r)
hold_over false now r = r

pub schedule_over : Bool → Record → Record
schedule_over true r = passed Lsm.PassedEndTime r
schedule_over false r = r

hold_as : (origin : Origin) (now : ℕ) (r : Record) → is_live r.lsm ≡ true → (reserves_if (hold_end r.rsm r.deadline now origin) now r).rec ≡ hold_over (is_over now r) now r
unfolding hold_end reserves reserve_step event_of hold_over
hold_as origin now r live = grind (arith, nat_tests)

life_as : (now : ℕ) (r : Record) → (lives_if (schedule_end (last r.committed) now) now r).rec ≡ schedule_over (is_ending now r) r
unfolding lives lifecycle_step lifecycle_event schedule_over
life_as now r = grind arith

ending_still : (b : Bool) (now : ℕ) (r : Record) → is_ending now (hold_over b now r) ≡ is_ending now r
unfolding hold_over
ending_still true now r = refl
ending_still false now r = refl

dead_over : (now : ℕ) (r : Record) → is_live r.lsm ≡ false → is_over now r ≡ false
dead_over now r dead = grind arith

dead_ending : (now : ℕ) (r : Record) → is_live r.lsm ≡ false → is_ending now r ≡ false
unfolding is_live
dead_ending now r dead = grind arith

dead_as : (now : ℕ) (r : Record) → is_over now r ≡ false → is_ending now r ≡ false → r ≡ schedule_over (is_ending now r) (hold_over (is_over now r) now r)
unfolding hold_over schedule_over
dead_as now r e f = sym (ap (λ b. schedule_over b (hold_over (is_over now r) now r)) f ∙ ap (λ b. hold_over b now r) e)

pub tick_as : (origin : Origin) (now : ℕ) (r : Record) → (ticked origin now r).rec ≡ schedule_over (is_ending now r) (hold_over (is_over now r) now r)
unfolding ticks
tick_as origin now r = by_life (is_live r.lsm) refl
  where
    by_life : (b : Bool) → is_live r.lsm ≡ b → (ticks b origin now r).rec ≡ schedule_over (is_ending now r) (hold_over (is_over now r) now r)
    by_life false e = dead_as now r (dead_over now r e) (dead_ending now r e)
    by_life true e =
        ap (λ (x : Record). (lives_if (schedule_end (last x.committed) now) now x).rec) (hold_as origin now r e)
        ∙ (life_as now (hold_over (is_over now r) now r) ∙ ap (λ b. schedule_over b (hold_over (is_over now r) now r)) (ending_still (is_over now r) now r))

---- What is left

-- nothing is committed nor held anew, no work is made, and what still has an end has it after that second
pub record IsAfterTick (now : ℕ) (r moved : Record) : Type 0 where
  pub service : moved.service ≡ r.service
  pub source : moved.source ≡ r.source
  pub dest : moved.dest ≡ r.dest
  pub committed : moved.committed ≡ r.committed
  pub terminated : is_terminated moved.lsm ≡ is_terminated r.lsm
  pub holding : (held moved ≡ held r) ⊎ (holds_pending moved.rsm ≡ false)
  pub works : has_work moved ≡ true → has_work r ≡ true
  pub until : (t : ℕ) → held_until moved ≡ Some t → (held_until r ≡ Some t) × (now < t)
  pub ends : (t : ℕ) → ends_at moved ≡ Some t → (ends_at r ≡ Some t) × (now < t)
  pub starts : (t : ℕ) → starts_at moved ≡ Some t → starts_at r ≡ Some t

terminated_after : (a b : Bool) (now : ℕ) (r : Record) → is_ending now r ≡ b → is_terminated (schedule_over b (hold_over a now r)).lsm ≡ is_terminated r.lsm
unfolding hold_over schedule_over
terminated_after true true now r e = grind arith
terminated_after false true now r e = grind arith
terminated_after true false now r e = refl
terminated_after false false now r e = refl

works_after : (a b : Bool) (now : ℕ) (r : Record) → is_over now r ≡ a → is_ending now r ≡ b → has_work (schedule_over b (hold_over a now r)) ≡ true → has_work r ≡ true
unfolding hold_over schedule_over first_machine waits is_working is_live is_terminating
works_after true true now r e f h = grind arith
works_after false true now r e f h = grind arith
works_after true false now r e f h = grind arith
works_after false false now r e f h = h

until_after : (a b : Bool) (now : ℕ) (r : Record) (t : ℕ) → is_over now r ≡ a → is_ending now r ≡ b → held_until (schedule_over b (hold_over a now r)) ≡ Some t → (held_until r ≡ Some t) × (now < t)
unfolding hold_over schedule_over is_live
until_after true true now r t e f h = grind (arith, nat_tests)
until_after false true now r t e f h = grind (arith, nat_tests)
until_after true false now r t e f h = grind (arith, nat_tests)
until_after false false now r t e f h = grind (arith, nat_tests)

ends_after : (a b : Bool) (now : ℕ) (r : Record) (t : ℕ) → is_ending now r ≡ b → ends_at (schedule_over b (hold_over a now r)) ≡ Some t → (ends_at r ≡ Some t) × (now < t)
unfolding hold_over schedule_over
ends_after true true now r t e h = grind (arith, nat_tests)
ends_after false true now r t e h = grind (arith, nat_tests)
ends_after true false now r t e h = grind (arith, nat_tests)
ends_after false false now r t e h = grind (arith, nat_tests)

starts_after : (a b : Bool) (now : ℕ) (r : Record) (t : ℕ) → starts_at (schedule_over b (hold_over a now r)) ≡ Some t → starts_at r ≡ Some t
unfolding hold_over schedule_over
starts_after true true now r t h = grind arith
starts_after false true now r t h = grind arith
starts_after true false now r t h = h
starts_after false false now r t h = h

service_after : (a b : Bool) (now : ℕ) (r : Record) → (schedule_over b (hold_over a now r)).service ≡ r.service
unfolding hold_over schedule_over
service_after a b now r = grind arith

source_after : (a b : Bool) (now : ℕ) (r : Record) → (schedule_over b (hold_over a now r)).source ≡ r.source
unfolding hold_over schedule_over
source_after a b now r = grind arith

dest_after : (a b : Bool) (now : ℕ) (r : Record) → (schedule_over b (hold_over a now r)).dest ≡ r.dest
unfolding hold_over schedule_over
dest_after a b now r = grind arith

committed_after : (a b : Bool) (now : ℕ) (r : Record) → (schedule_over b (hold_over a now r)).committed ≡ r.committed
unfolding hold_over schedule_over
committed_after a b now r = grind arith

holding_after : (a b : Bool) (now : ℕ) (r : Record) → (held (schedule_over b (hold_over a now r)) ≡ held r) ⊎ (holds_pending (schedule_over b (hold_over a now r)).rsm ≡ false)
unfolding hold_over schedule_over
holding_after true true now r = inr refl
holding_after false true now r = inl refl
holding_after true false now r = inr refl
holding_after false false now r = inl refl

time_after : (now : ℕ) (r : Record) → IsAfterTick now r (schedule_over (is_ending now r) (hold_over (is_over now r) now r))
time_after now r =
    let a = is_over now r in
    let b = is_ending now r in
    record {
      service = service_after a b now r;
      source = source_after a b now r;
      dest = dest_after a b now r;
      committed = committed_after a b now r;
      terminated = terminated_after a b now r refl;
      holding = holding_after a b now r;
      works = works_after a b now r refl refl;
      until = λ t. until_after a b now r t refl refl;
      ends = λ t. ends_after a b now r t refl;
      starts = λ t. starts_after a b now r t;
    }

-- a notice more is nothing to it
noticed_after : (now : ℕ) (r moved : Record) (notices : List Notice) → IsAfterTick now r moved → IsAfterTick now r (record moved { notices = notices })
unfolding first_machine waits
noticed_after now r moved notices is = record {
  service = is.service;
  source = is.source;
  dest = is.dest;
  committed = is.committed;
  terminated = is.terminated;
  holding = is.holding;
  works = is.works;
  until = is.until;
  ends = is.ends;
  starts = is.starts;
}

told_after : (plane : Plane) (c now : ℕ) (r : Record) (x : Moved) → IsAfterTick now r x.rec → IsAfterTick now r (tells plane c now x).rec
unfolding tells tells_plane
told_after plane c now r x is = by_test (is_told plane now x.rec)
  where
    by_test : (b : Bool) → IsAfterTick now r (tells_plane b (status_of now x.rec) c now x.rec).rec
    by_test true = noticed_after now r x.rec (tells_plane true (status_of now x.rec) c now x.rec).rec.notices is
    by_test false = is

pub tick_after : (agent : Agent) (before now c : ℕ) (r : Record) → IsAfterTick now r (told_at agent before now c r).rec
tick_after agent before now c r =
    told_after (status_of before r) c now r (ticked (own_origin agent r) now r) (subst (IsAfterTick now r) (sym (tick_as (own_origin agent r) now r)) (time_after now r))
