-- A record that a tick doesn't touch.
use Rattle.std.proofs.Common.{◌≡◌, ℕ, Bool, true, false, ◌||◌, None, refl, ap, ◌∙◌, arith}
use Rattle.std.proofs.lemmas.Bool.Decides.{nat_tests}
use Rattle.nsi_primitive.specs.declared.plane.Plane.{Plane}
use Rattle.lifecycle_machine.specs.Table.{step as lifecycle_step}
use Rattle.connection_record.specs.declared.record.Record.{Record}
use Rattle.connection_record.specs.declared.moves.Origin.{Origin}
use Rattle.connection_record.specs.Demand.{last}
use Rattle.connection_record.specs.Lives.{lifecycle_event, lives, lives_if}
use Rattle.connection_record.specs.Moves.{hold_end, is_live, is_over, reserves_if}
use Rattle.connection_record.specs.Replies.{Moved, stays, then_moves}
use Rattle.connection_record.specs.Applied.{schedule_end, ticks, ticked, status_of, is_told, tells_plane, tells}
use Rattle.provider_agent.specs.declared.agent.Agent.{Agent}
use Rattle.provider_agent.specs.Steps.{is_told_at, told_at, own_origin}
use Rattle.provider_agent.specs.Ticks.{is_ending, is_touched}

none_of : (a b c : Bool) → a || (b || c) ≡ false → (a ≡ false) × (b ≡ false) × (c ≡ false)
none_of a b c h = grind arith

hold_stays : (origin : Origin) (now : ℕ) (r : Record) → is_live r.lsm ≡ true → is_over now r ≡ false → hold_end r.rsm r.deadline now origin ≡ None
unfolding hold_end
hold_stays origin now r live h = grind (arith, nat_tests)

life_stays : (now : ℕ) (r : Record) → is_ending now r ≡ false → lives_if (schedule_end (last r.committed) now) now r ≡ stays r
unfolding lives lifecycle_step lifecycle_event
life_stays now r h = grind arith

ticks_still : (origin : Origin) (now : ℕ) (r : Record) → is_over now r ≡ false → is_ending now r ≡ false → ticked origin now r ≡ stays r
unfolding ticks
ticks_still origin now r over ending = by_life (is_live r.lsm) refl
  where
    by_life : (b : Bool) → is_live r.lsm ≡ b → ticks b origin now r ≡ stays r
    by_life false e = refl
    by_life true e =
        ap (λ m. then_moves (reserves_if m now r) (λ x. lives_if (schedule_end (last x.committed) now) now x)) (hold_stays origin now r e over)
        ∙ life_stays now r ending

plane_still : (before : Plane) (c now : ℕ) (r : Record) → is_told before now r ≡ false → tells before c now (stays r) ≡ stays r
unfolding tells tells_plane
plane_still before c now r h = ap (λ b. then_moves (stays r) (λ x. tells_plane b (status_of now x) c now x)) h

pub quiet_told : (agent : Agent) (before now c : ℕ) (r : Record) → is_touched before now r ≡ false → told_at agent before now c r ≡ stays r
quiet_told agent before now c r h =
    let none = none_of (is_over now r) (is_ending now r) (is_told (status_of before r) now r) h in
    ap (tells (status_of before r) c now) (ticks_still (own_origin agent r) now r none.0 none.1) ∙ plane_still (status_of before r) c now r none.2

pub quiet_draws : (agent : Agent) (before now : ℕ) (r : Record) → is_touched before now r ≡ false → is_told_at agent before now r ≡ false
quiet_draws agent before now r h =
    let none = none_of (is_over now r) (is_ending now r) (is_told (status_of before r) now r) h in
    ap (λ (x : Moved). is_told (status_of before r) now x.rec) (ticks_still (own_origin agent r) now r none.0 none.1) ∙ none.2
