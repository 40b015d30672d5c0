-- A play, computed: a provider of two points, its requester, and one ask.
use Rattle.std.proofs.Common.{◌≡◌, ℕ, true, List, [], ◌∷◌, Some, None, refl}
use Rattle.std.specs.Prelude.{codes}
use Rattle.nsi_primitive.specs.Ids.{id_of}
use Rattle.nsi_primitive.specs.Kinds.{kind_number}
use Rattle.nsi_primitive.specs.Messages.{identity, connection_of, named_connection}
use Rattle.nsi_primitive.specs.declared.ask.AskAnswer.{AskAnswer}
use Rattle.nsi_primitive.specs.declared.ask.What.{What}
use Rattle.nsi_primitive.specs.declared.entry.Event.{Event}
use Rattle.nsi_primitive.specs.declared.entry.Happening.{Happening}
use Rattle.nsi_primitive.specs.declared.entry.Input.{Input}
use Rattle.nsi_primitive.specs.declared.kind.Directionality.{Directionality}
use Rattle.nsi_primitive.specs.declared.kind.Kind.{Kind}
use Rattle.nsi_primitive.specs.declared.message.Body.{Body}
use Rattle.nsi_primitive.specs.declared.message.Message.{Message}
use Rattle.nsi_primitive.specs.declared.state.Machine.{Machine}
use Rattle.reserve_machine.specs.Table.{step as reservation_row}
use Rattle.provision_machine.specs.Table.{step as provision_row}
use Rattle.lifecycle_machine.specs.Table.{step as lifecycle_row}
use Rattle.dataplane_state.specs.Plane.{status, joined, announces}
use Rattle.agent_link.specs.declared.plan.How.{How}
use Rattle.agent_link.specs.declared.plan.ParcelKind.{ParcelKind}
use Rattle.message_retry.specs.Retry.{is_heard, with_heard, is_old, saw, is_waiting, without}
use Rattle.message_retry.specs.Taken.{is_taken, with_taken}
use Rattle.capacity_calendar.specs.Lack.{lack_at, first_from, first_lack_by}
use Rattle.capacity_calendar.specs.Places.{places}
use Rattle.child_connection.specs.Asks.{asks as asks_child, request_about, reserve_for}
use Rattle.child_connection.specs.Refusals.{ask_refusal, reserve_refusal}
use Rattle.child_connection.specs.Hearing.{hears}
use Rattle.child_connection.specs.Views.{is_kind, open_request}
use Rattle.connection_record.specs.Applied.{reservation_closing, provision_closing, closes, moves, requested, is_provisioning, is_terminating, first_machine, provided, waits as record_waits, work_of as record_work, tells_plane, tells as record_tells, ticks as record_ticks}
use Rattle.connection_record.specs.Demand.{demand}
use Rattle.connection_record.specs.Lives.{provision_event, provisions, lifecycle_event, lives}
use Rattle.connection_record.specs.Moves.{event_of, hold_end, is_live, is_working, worked as record_worked, reserves as record_reserves}
use Rattle.connection_record.specs.Refusal.{has_row, is_in_place, unnamed_refusal, modification_refusal, refusal}
use Rattle.stp_topology.specs.declared.network.AgentKind.{AgentKind}
use Rattle.stp_topology.specs.declared.network.PointCapacity.TheVariants.{Shared}
use Rattle.stp_topology.specs.declared.network.Network.{Network}
use Rattle.provider_agent.specs.Others.{lacking}
use Rattle.provider_agent.specs.Setting.{capacities_among}
use Rattle.provider_agent.specs.Steps.{works, forces, ticks_all, ticks as provider_ticks, receives, step as provider_step, after as provider_after}
use Rattle.requester_agent.specs.Steps.{find_view, answers, asks_at, asks_new, asks_found, reserves, asked_of, asked as requester_asked, hears_if, acked, ticks as requester_ticks, step as requester_step, after as requester_after}
use Rattle.requester_agent.specs.Views.{asks_if_free, asks_if_known}
use Rattle.nsi_script.specs.declared.script.Act.{Act}
use Rattle.nsi_script.specs.declared.script.Group.{Group}
use Rattle.nsi_script.specs.declared.script.PlanLine.{PlanLine}
use Rattle.nsi_agent.specs.Homes.{Routes, home_in}
use Rattle.nsi_agent.specs.Steps.{after_as, is_new, waits}
use Rattle.agent_node.specs.Doors.{change_first}
use Rattle.agent_node.specs.Passing.{passes, says_all, let_through}
use Rattle.agent_node.specs.Seat.{enters, enters_if}
use Rattle.agent_node.specs.Turns.{takes, takes_all, works_off, syncs_if, turn_with}
use Rattle.agent_node.specs.Acts.{ticked, is_quiet}
use Rattle.agent_node.specs.Meetings.{met}
use Rattle.nsi_play.specs.Openings.{nothing_planned, plans_of, opening}
use Rattle.nsi_play.specs.Rounds.{meets_each, round}
use Rattle.nsi_play.specs.Play.{Played, settles, asks_among, acts, begins, group, plays}

abbrev t1 : Network
t1 =
    record {
      agents = codes "p1" ∷ codes "r1" ∷ [];
      kinds = AgentKind.Provider 60 ∷ AgentKind.Requester 0 ∷ [];
      stps = codes "A" ∷ codes "B" ∷ [];
      owners = 0 ∷ 0 ∷ [];
      capacities = Shared 1000 ∷ Shared 1000 ∷ [];
      partners = None ∷ None ∷ [];
      children = [];
    }

abbrev between : What
between = What.Reserve (record { source = codes "A"; dest = codes "B"; capacity = 600; start = 100; end = 200; version = None; directionality = Directionality.Bidirectional })

-- at 0 the requester is asked for a connection
abbrev one_ask : List Group
one_ask = record { at = 0; acts = Act.Ask 1 (record { label = Some (codes "c1"); what = between }) ∷ [] } ∷ []

---- Its events

abbrev m : Body → Message
m body = record { header = record { correlation = id_of 1 1; requester = codes "r1"; provider = codes "p1" }; body = body }

abbrev reserve : Message
reserve =
    m (Body.Reserve (record {
      capacity = 600;
      connection = None;
      description = None;
      dest = Some (codes "B");
      directionality = None;
      end = 200;
      global = None;
      source = Some (codes "A");
      start = Some 100;
      symmetric = None;
      version = None;
    }))

abbrev response : Message
response = m (Body.ReserveResponse (id_of 0 1))

abbrev confirmed : Message
confirmed =
    m (Body.ReserveConfirmed (record {
      capacity = 600;
      connection = id_of 0 1;
      description = None;
      dest = codes "B";
      directionality = Directionality.Bidirectional;
      end = 200;
      global = None;
      source = codes "A";
      start = 100;
      symmetric = None;
      version = 0;
    }))

abbrev took : ℕ → Input → Event
took a input = record { agent = a; what = Happening.Entry (record { second = 0; input = input }) None }

abbrev was_asked : Event
was_asked = record { agent = 1; what = Happening.Entry (record { second = 0; input = Input.Ask 0 (record { label = Some (codes "c1"); what = between }) }) (Some AskAnswer.Sent) }

abbrev synced : ℕ → ℕ → Event
synced a count = record { agent = a; what = Happening.Sync count }

abbrev first : List Event
first = took 0 Input.Tick ∷ took 1 Input.Tick ∷ was_asked ∷ synced 0 1 ∷ synced 1 2 ∷ []

abbrev whole : List Event
whole =
    took 0 Input.Tick ∷ took 1 Input.Tick
    ∷ was_asked
    ∷ synced 0 1 ∷ synced 1 2
    ∷ took 0 (Input.Got reserve) ∷ took 0 (Input.Work 0 Machine.Reserve) ∷ synced 0 3
    ∷ took 1 (Input.Acked (identity reserve)) ∷ took 1 (Input.Got response) ∷ took 1 (Input.Got confirmed) ∷ synced 1 5
    ∷ took 0 (Input.Acked (identity response)) ∷ took 0 (Input.Acked (identity confirmed)) ∷ synced 0 5
    ∷ []

-- at 0 nothing is done
abbrev no_act : List Group
no_act = record { at = 0; acts = [] } ∷ []

abbrev ticks_alone : List Event
ticks_alone = took 0 Input.Tick ∷ took 1 Input.Tick ∷ synced 0 1 ∷ synced 1 1 ∷ []

abbrev played : ℕ → List Group → Routes → Played
played most script routes = plays most script 0 (home_in t1 routes) (opening t1 nothing_planned)

-- the requester's first reserve is lost
abbrev loses : List PlanLine
loses = record { from = 1; to = 0; fault = record { of = ParcelKind.Message Kind.Reserve; nth = 1; how = How.Lose } } ∷ []

-- the provider's first confirmation comes twice
abbrev repeats : List PlanLine
repeats = record { from = 0; to = 1; fault = record { of = ParcelKind.Message Kind.ReserveConfirmed; nth = 1; how = How.Repeat } } ∷ []

abbrev played_by : List PlanLine → ℕ → List Group → Routes → Played
played_by lines most script routes = plays most script 0 (home_in t1 routes) (opening t1 (plans_of lines))

pub record IsRow (routes : Routes) : Type 0 where
  pub nothing_is_played : (played 0 [] routes).events ≡ []
  pub ticks_are_synced : (played 1 no_act routes).events ≡ ticks_alone
  pub and_then_all_is_quiet : (played 1 no_act routes).is_over ≡ true
  pub one_round_is_a_front : (played 1 one_ask routes).events ≡ first
  pub four_rounds_are_the_whole : (played 4 one_ask routes).events ≡ whole
  pub and_end_it : (played 4 one_ask routes).is_over ≡ true
  pub a_lost_reserve_is_not_got : (played_by loses 1 one_ask routes).events ≡ first
  pub and_nobody_waits_for_it : (played_by loses 1 one_ask routes).is_over ≡ true
  pub a_repeat_changes_nothing : (played_by repeats 4 one_ask routes).events ≡ whole
  pub and_ends_as_soon : (played_by repeats 4 one_ask routes).is_over ≡ true

pub row : (routes : Routes) → IsRow routes
unfolding kind_number connection_of named_connection reservation_row provision_row lifecycle_row status joined announces is_heard with_heard is_old saw is_waiting without is_taken with_taken lack_at first_from first_lack_by places asks_child request_about reserve_for ask_refusal reserve_refusal hears is_kind open_request reservation_closing provision_closing closes moves requested is_provisioning is_terminating first_machine provided record_waits record_work tells_plane record_tells record_ticks demand provision_event provisions lifecycle_event lives event_of hold_end is_live is_working record_worked record_reserves has_row is_in_place unnamed_refusal modification_refusal refusal lacking capacities_among works forces ticks_all provider_ticks receives provider_step provider_after find_view answers asks_at asks_new asks_found reserves asked_of requester_asked hears_if acked requester_ticks requester_step requester_after asks_if_free asks_if_known home_in after_as is_new waits enters enters_if change_first passes says_all takes takes_all works_off syncs_if turn_with ticked is_quiet let_through met meets_each round settles asks_among acts begins group plays
row routes = record {
  nothing_is_played = refl;
  ticks_are_synced = refl;
  and_then_all_is_quiet = refl;
  one_round_is_a_front = refl;
  four_rounds_are_the_whole = refl;
  and_end_it = refl;
  a_lost_reserve_is_not_got = refl;
  and_nobody_waits_for_it = refl;
  a_repeat_changes_nothing = refl;
  and_ends_as_soon = refl;
}
