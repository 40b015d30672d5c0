-- A run of a requester and its provider: two reserves, of which the first is confirmed and committed, and the second is refused.
use Rattle.std.proofs.Common.{◌≡◌, ◌≤◌, ℕ, List, [], ◌∷◌, Some, None, Option, map, length, take, refl, sym, ap, arith}
use Rattle.std.specs.Prelude.{codes}
use Rattle.nsi_primitive.specs.Ids.{id_of}
use Rattle.nsi_primitive.specs.Kinds.{kind_number}
use Rattle.nsi_primitive.specs.Messages.{connection_of, named_connection}
use Rattle.nsi_primitive.specs.declared.ask.Ask.{Ask}
use Rattle.nsi_primitive.specs.declared.ask.AskAnswer.{AskAnswer}
use Rattle.nsi_primitive.specs.declared.ask.What.{What}
use Rattle.nsi_primitive.specs.declared.entry.Event.{Event}
use Rattle.nsi_primitive.specs.declared.entry.Happening.{Happening}
use Rattle.nsi_primitive.specs.declared.entry.Input.{Input}
use Rattle.nsi_primitive.specs.declared.kind.Directionality.{Directionality}
use Rattle.nsi_primitive.specs.declared.message.Body.{Body}
use Rattle.nsi_primitive.specs.declared.message.Message.{Message}
use Rattle.nsi_primitive.specs.declared.state.Machine.{Machine}
use Rattle.reserve_machine.specs.Table.{step as reservation_row}
use Rattle.provision_machine.specs.Table.{step as provision_row}
use Rattle.lifecycle_machine.specs.Table.{step as lifecycle_row}
use Rattle.dataplane_state.specs.Plane.{status, joined, announces}
use Rattle.message_retry.specs.Retry.{is_heard, with_heard, is_old, saw, is_waiting, without}
use Rattle.message_retry.specs.Taken.{is_taken, with_taken}
use Rattle.capacity_calendar.specs.Lack.{lack_at, first_from, first_lack_by}
use Rattle.capacity_calendar.specs.Places.{places}
use Rattle.child_connection.specs.Asks.{asks as asks_child, request_about, reserve_for}
use Rattle.child_connection.specs.Refusals.{ask_refusal, reserve_refusal}
use Rattle.child_connection.specs.Hearing.{hears}
use Rattle.child_connection.specs.Views.{is_kind, open_request}
use Rattle.connection_record.specs.Applied.{reservation_closing, provision_closing, closes, moves, requested, is_provisioning, is_terminating, first_machine, provided, waits as record_waits, work_of as record_work, tells_plane, tells as record_tells, ticks as record_ticks}
use Rattle.connection_record.specs.Demand.{demand, load}
use Rattle.connection_record.specs.Lives.{provision_event, provisions, lifecycle_event, lives}
use Rattle.connection_record.specs.Moves.{event_of, hold_end, is_live, is_working, worked as record_worked, reserves as record_reserves}
use Rattle.connection_record.specs.Refusal.{has_row, is_in_place, unnamed_refusal, modification_refusal, refusal}
use Rattle.stp_topology.specs.declared.network.AgentKind.{AgentKind}
use Rattle.stp_topology.specs.declared.network.PointCapacity.TheVariants.{Shared}
use Rattle.stp_topology.specs.declared.network.Network.{Network}
use Rattle.provider_agent.specs.Others.{lacking}
use Rattle.provider_agent.specs.Setting.{capacities_among}
use Rattle.provider_agent.specs.Steps.{works, forces, ticks_all, ticks as provider_ticks, receives, step as provider_step, after as provider_after}
use Rattle.requester_agent.specs.Steps.{find_view, answers, asks_at, asks_new, asks_found, reserves, asked_of, asked as requester_asked, hears_if, acked, ticks as requester_ticks, step as requester_step, after as requester_after}
use Rattle.requester_agent.specs.Views.{asks_if_free, asks_if_known}
use Rattle.nsi_agent.specs.Homes.{Routes, home_in}
use Rattle.nsi_agent.specs.Steps.{after_as}
use Rattle.nsi_agent.specs.Told.{goes_on}
use Rattle.nsi_base.specs.declared.flow.Flow.{Flow}
use Rattle.nsi_primitive.specs.declared.message.Cause.{Cause}
use Rattle.nsi_primitive.specs.declared.message.Criteria.{Criteria}
use Rattle.connection_record.specs.declared.record.Record.{Record}
use Rattle.stp_topology.specs.Network.{capacity_of}
use Rattle.agent_state.specs.declared.parent.View.{View}
use Rattle.nsi_world.specs.Worlds.{World, empty, said}
use Rattle.nsi_world.specs.Runs.{world_after, AreAllowed}
use Rattle.run_growth.specs.Growth.{HasGrown}
use Rattle.run_growth.specs.Cuts.{IsCutOf, state_of_cut, synced_state}

abbrev t1 : Network
t1 =
    record {
      agents = codes "p1" ∷ codes "r1" ∷ [];
      kinds = AgentKind.Provider 60 ∷ AgentKind.Requester 0 ∷ [];
      stps = codes "A" ∷ codes "B" ∷ [];
      owners = 0 ∷ 0 ∷ [];
      capacities = Shared 1000 ∷ Shared 1000 ∷ [];
      partners = None ∷ None ∷ [];
      children = [];
    }

---- What is asked

abbrev asks : List ℕ → What → Ask
asks label what = record { label = Some label; what = what }

abbrev reserves_between : (start end : ℕ) → What
reserves_between start end = What.Reserve (record { source = codes "A"; dest = codes "B"; capacity = 600; start = start; end = end; version = None; directionality = Directionality.Bidirectional })

---- What is said

abbrev m : ℕ → Body → Message
m n body = record { header = record { correlation = id_of 1 n; requester = codes "r1"; provider = codes "p1" }; body = body }

abbrev reserve : (n start end : ℕ) → Message
reserve n start end =
    m n
    (Body.Reserve (record {
      connection = None;
      source = Some (codes "A");
      dest = Some (codes "B");
      start = Some start;
      end = end;
      capacity = 600;
      version = None;
      directionality = None;
      symmetric = None;
      global = None;
      description = None;
    }))

abbrev confirmed : Message
confirmed =
    m 1
    (Body.ReserveConfirmed (record {
      connection = id_of 0 1;
      source = codes "A";
      dest = codes "B";
      start = 100;
      end = 200;
      capacity = 600;
      version = 0;
      directionality = Directionality.Bidirectional;
      symmetric = None;
      global = None;
      description = None;
    }))

-- at second 150 the first one has 600 of the 1,000 already
abbrev refused : Message
refused = m 2 (Body.ReserveFailed (id_of 0 2) (record { nsa = codes "p1"; cause = Cause.Bandwidth (codes "A") Flow.Both 150 600 1000 }))

abbrev commit : Message
commit = m 3 (Body.ReserveCommit (id_of 0 1))

abbrev commit_confirmed : Message
commit_confirmed = m 3 (Body.ReserveCommitConfirmed (id_of 0 1))

---- What happens

abbrev took : ℕ → Input → Event
took a input = record { agent = a; what = Happening.Entry (record { second = 0; input = input }) None }

abbrev was_asked : ℕ → Ask → Event
was_asked n ask = record { agent = 1; what = Happening.Entry (record { second = 0; input = Input.Ask n ask }) (Some AskAnswer.Sent) }

abbrev synced : ℕ → ℕ → Event
synced a count = record { agent = a; what = Happening.Sync count }

abbrev restarted : ℕ → ℕ → Event
restarted a count = record { agent = a; what = Happening.Restart count }

-- the commit is confirmed by entries that are synced, and heard by one that isn't
abbrev events : List Event
events =
    was_asked 0 (asks (codes "c1") (reserves_between 100 200)) ∷ synced 1 1
    ∷ took 0 (Input.Got (reserve 1 100 200)) ∷ took 0 (Input.Work 0 Machine.Reserve) ∷ synced 0 2
    ∷ was_asked 1 (asks (codes "c2") (reserves_between 150 250)) ∷ synced 1 2
    ∷ took 0 (Input.Got (reserve 2 150 250)) ∷ took 0 (Input.Work 1 Machine.Reserve) ∷ synced 0 4
    ∷ took 1 (Input.Got confirmed) ∷ was_asked 2 (asks (codes "c1") What.Commit) ∷ synced 1 4
    ∷ took 0 (Input.Got commit) ∷ took 0 (Input.Work 0 Machine.Reserve) ∷ synced 0 6
    ∷ took 1 (Input.Got commit_confirmed)
    ∷ []

abbrev last_world : World
last_world = world_after empty events

-- the requester begins again from what is synced
abbrev begun_again : World
begun_again = world_after last_world (restarted 1 4 ∷ [])

abbrev versions : Record → List ℕ
versions r = map (λ (c : Criteria). c.version) r.committed

abbrev versions_of : View → List ℕ
versions_of v = v.child.committed

pub record IsRow (routes : Routes) : Type 0 where
  pub the_first_is_confirmed_and_the_second_refused :
      said (home_in t1 routes) last_world 0
      ≡ m 1 (Body.ReserveResponse (id_of 0 1)) ∷ confirmed ∷ m 2 (Body.ReserveResponse (id_of 0 2)) ∷ refused ∷ commit_confirmed ∷ []
  pub a_point_has_so_much : capacity_of t1 0 Flow.Both ≡ Some 1000
  pub what_is_held_counts : load Flow.Both 0 150 (state_of_cut (home_in t1 routes) last_world 0 2).base.records ≡ 600
  pub what_is_refused_does_not : load Flow.Both 0 150 (state_of_cut (home_in t1 routes) last_world 0 4).base.records ≡ 600
  pub nor_does_what_is_over : load Flow.Both 0 200 (state_of_cut (home_in t1 routes) last_world 0 6).base.records ≡ 0
  pub the_first_has_a_version : map versions (synced_state (home_in t1 routes) last_world 0).base.records ≡ (0 ∷ []) ∷ [] ∷ []
  pub the_view_hears_of_it : map versions_of (state_of_cut (home_in t1 routes) last_world 1 5).views ≡ (0 ∷ []) ∷ [] ∷ []
  pub but_it_is_not_synced : map versions_of (synced_state (home_in t1 routes) last_world 1).views ≡ [] ∷ [] ∷ []
  pub so_it_may_be_lost : map versions_of (state_of_cut (home_in t1 routes) begun_again 1 4).views ≡ [] ∷ [] ∷ []

pub row : (routes : Routes) → IsRow routes
unfolding kind_number connection_of named_connection reservation_row provision_row lifecycle_row status joined announces is_heard with_heard is_old saw is_waiting without is_taken with_taken lack_at first_from first_lack_by places asks_child request_about reserve_for ask_refusal reserve_refusal hears is_kind open_request reservation_closing provision_closing closes moves requested is_provisioning is_terminating first_machine provided record_waits record_work tells_plane record_tells record_ticks demand provision_event provisions lifecycle_event lives event_of hold_end is_live is_working record_worked record_reserves has_row is_in_place unnamed_refusal modification_refusal refusal lacking capacities_among works forces ticks_all provider_ticks receives provider_step provider_after find_view answers asks_at asks_new asks_found reserves asked_of requester_asked hears_if acked requester_ticks requester_step requester_after asks_if_free asks_if_known home_in after_as goes_on world_after
row routes = record {
  the_first_is_confirmed_and_the_second_refused = refl;
  a_point_has_so_much = refl;
  what_is_held_counts = refl;
  what_is_refused_does_not = refl;
  nor_does_what_is_over = refl;
  the_first_has_a_version = refl;
  the_view_hears_of_it = refl;
  but_it_is_not_synced = refl;
  so_it_may_be_lost = refl;
}

-- it is a run
pub row_is_allowed : (routes : Routes) → AreAllowed (home_in t1 routes) empty events
unfolding kind_number connection_of named_connection reservation_row provision_row lifecycle_row status joined announces is_heard with_heard is_old saw is_waiting without is_taken with_taken lack_at first_from first_lack_by places asks_child request_about reserve_for ask_refusal reserve_refusal hears is_kind open_request reservation_closing provision_closing closes moves requested is_provisioning is_terminating first_machine provided record_waits record_work tells_plane record_tells record_ticks demand provision_event provisions lifecycle_event lives event_of hold_end is_live is_working record_worked record_reserves has_row is_in_place unnamed_refusal modification_refusal refusal lacking capacities_among works forces ticks_all provider_ticks receives provider_step provider_after find_view answers asks_at asks_new asks_found reserves asked_of requester_asked hears_if acked requester_ticks requester_step requester_after asks_if_free asks_if_known home_in after_as goes_on world_after AreAllowed
row_is_allowed routes = (
  (refl, (omega arith, record { printable = record { label = λ h. refl; apart = refl }; in_time = refl; comes = refl; answered = refl })),
  (
    (refl, refl),
    (
      (refl, (omega arith, record { printable = record { description = tt; global = tt; apart = refl; complete = (refl, refl) }; in_time = refl; comes = ((1, (refl, (0, omega arith, refl))), refl); answered = refl })),
      (
        (refl, (omega arith, record { printable = tt; in_time = refl; comes = refl; answered = refl })),
        (
          (refl, refl),
          (
            (refl, (omega arith, record { printable = record { label = λ h. refl; apart = refl }; in_time = refl; comes = refl; answered = refl })),
            (
              (refl, refl),
              (
                (refl, (omega arith, record { printable = record { description = tt; global = tt; apart = refl; complete = (refl, refl) }; in_time = refl; comes = ((1, (refl, (1, omega arith, refl))), refl); answered = refl })),
                (
                  (refl, (omega arith, record { printable = tt; in_time = refl; comes = refl; answered = refl })),
                  (
                    (refl, refl),
                    (
                      (refl, (omega arith, record { printable = (tt, tt); in_time = refl; comes = ((0, (refl, (1, omega arith, refl))), refl); answered = refl })),
                      (
                        (refl, (omega arith, record { printable = record { label = λ h. refl; apart = tt }; in_time = refl; comes = refl; answered = refl })),
                        (
                          (refl, refl),
                          (
                            (refl, (omega arith, record { printable = tt; in_time = refl; comes = ((1, (refl, (2, omega arith, refl))), refl); answered = refl })),
                            (
                              (refl, (omega arith, record { printable = tt; in_time = refl; comes = refl; answered = refl })),
                              (
                                (refl, refl),
                                (
                                  (refl, (omega arith, record { printable = tt; in_time = refl; comes = ((0, (refl, (4, omega arith, refl))), refl); answered = refl })),
                                  tt,
                                ),
                              ),
                            ),
                          ),
                        ),
                      ),
                    ),
                  ),
                ),
              ),
            ),
          ),
        ),
      ),
    ),
  ),
)

---- What is no cut

-- what is synced is in every cut
pub none_is_shorter : IsCutOf last_world 0 5 → ⊥
unfolding world_after
none_is_shorter c = let least : 6 ≤ 5 = c.synced in absurd (omega (arith, least))

abbrev committed_of : Option Record → List Criteria
committed_of None = []
committed_of (Some r) = r.committed

-- by fewer entries what was committed may be gone
pub less_is_lost : (routes : Routes) → HasGrown (synced_state (home_in t1 routes) last_world 0) (state_of_cut (home_in t1 routes) last_world 0 5) → ⊥
unfolding kind_number connection_of named_connection reservation_row provision_row lifecycle_row status joined announces is_heard with_heard is_old saw is_waiting without is_taken with_taken lack_at first_from first_lack_by places asks_child request_about reserve_for ask_refusal reserve_refusal hears is_kind open_request reservation_closing provision_closing closes moves requested is_provisioning is_terminating first_machine provided record_waits record_work tells_plane record_tells record_ticks demand provision_event provisions lifecycle_event lives event_of hold_end is_live is_working record_worked record_reserves has_row is_in_place unnamed_refusal modification_refusal refusal lacking capacities_among works forces ticks_all provider_ticks receives provider_step provider_after find_view answers asks_at asks_new asks_found reserves asked_of requester_asked hears_if acked requester_ticks requester_step requester_after asks_if_free asks_if_known home_in after_as goes_on world_after
less_is_lost routes h =
    let later = h.records 0 _ refl in
    let none : [] ≡ later.0.committed = ap (λ (o : Option Record). committed_of o) later.1 in
    let gone : length (take 1 later.0.committed) ≡ 0 = ap (λ cs. length (take 1 cs)) (sym none) in
    let stays : length (take 1 later.0.committed) ≡ 1 = ap length later.2.committed in
    absurd (omega (arith, gone, stays))
