-- Plays in which disks stop, computed: a provider of two points, its requester, and a few asks.
use Rattle.std.proofs.Common.{◌≡◌, ℕ, zero, suc, Bool, true, false, List, [], ◌∷◌, ◌++◌, Some, None, refl}
use Rattle.std.specs.Prelude.{codes}
use Rattle.nsi_primitive.specs.Ids.{id_of}
use Rattle.nsi_primitive.specs.Kinds.{kind_number}
use Rattle.nsi_primitive.specs.Messages.{identity, connection_of, named_connection}
use Rattle.nsi_primitive.specs.declared.ask.AskAnswer.{AskAnswer}
use Rattle.nsi_primitive.specs.declared.ask.What.{What}
use Rattle.nsi_primitive.specs.declared.entry.Event.{Event}
use Rattle.nsi_primitive.specs.declared.entry.Happening.{Happening}
use Rattle.nsi_primitive.specs.declared.entry.Input.{Input}
use Rattle.nsi_primitive.specs.declared.kind.Directionality.{Directionality}
use Rattle.nsi_primitive.specs.declared.message.Body.{Body}
use Rattle.nsi_primitive.specs.declared.message.Message.{Message}
use Rattle.nsi_primitive.specs.declared.state.Machine.{Machine}
use Rattle.reserve_machine.specs.Table.{step as reservation_row}
use Rattle.provision_machine.specs.Table.{step as provision_row}
use Rattle.lifecycle_machine.specs.Table.{step as lifecycle_row}
use Rattle.dataplane_state.specs.Plane.{status, joined, announces}
use Rattle.message_retry.specs.Retry.{is_heard, with_heard, is_old, saw, is_waiting, without}
use Rattle.message_retry.specs.Taken.{is_taken, with_taken}
use Rattle.capacity_calendar.specs.Lack.{lack_at, first_from, first_lack_by}
use Rattle.capacity_calendar.specs.Places.{places}
use Rattle.child_connection.specs.Asks.{asks as asks_child, request_about, reserve_for}
use Rattle.child_connection.specs.Refusals.{ask_refusal, reserve_refusal}
use Rattle.child_connection.specs.Hearing.{hears}
use Rattle.child_connection.specs.Views.{is_kind, open_request}
use Rattle.connection_record.specs.Applied.{reservation_closing, provision_closing, closes, moves, requested, is_provisioning, is_terminating, first_machine, provided, waits as record_waits, work_of as record_work, tells_plane, tells as record_tells, ticks as record_ticks}
use Rattle.connection_record.specs.Demand.{demand}
use Rattle.connection_record.specs.Lives.{provision_event, provisions, lifecycle_event, lives}
use Rattle.connection_record.specs.Moves.{event_of, hold_end, is_live, is_working, worked as record_worked, reserves as record_reserves}
use Rattle.connection_record.specs.Refusal.{has_row, is_in_place, unnamed_refusal, modification_refusal, refusal}
use Rattle.stp_topology.specs.declared.network.AgentKind.{AgentKind}
use Rattle.stp_topology.specs.declared.network.PointCapacity.TheVariants.{Shared}
use Rattle.stp_topology.specs.declared.network.Network.{Network}
use Rattle.provider_agent.specs.Others.{lacking}
use Rattle.provider_agent.specs.Setting.{capacities_among}
use Rattle.provider_agent.specs.Steps.{works, forces, ticks_all, ticks as provider_ticks, receives, step as provider_step, after as provider_after}
use Rattle.requester_agent.specs.Steps.{find_view, answers, asks_at, asks_new, asks_found, reserves, asked_of, asked as requester_asked, hears_if, acked, ticks as requester_ticks, step as requester_step, after as requester_after}
use Rattle.requester_agent.specs.Views.{asks_if_free, asks_if_known}
use Rattle.nsi_script.specs.declared.script.Act.{Act}
use Rattle.nsi_script.specs.declared.script.Group.{Group}
use Rattle.nsi_agent.specs.Homes.{Routes, home_in}
use Rattle.nsi_agent.specs.Steps.{after_as, is_new, waits}
use Rattle.agent_node.specs.Doors.{change_first}
use Rattle.agent_node.specs.Passing.{passes, says_all, let_through}
use Rattle.agent_node.specs.Seat.{enters, enters_if}
use Rattle.agent_node.specs.Turns.{takes, takes_all, works_off, syncs_if, turn_with}
use Rattle.agent_node.specs.Acts.{ticked, is_quiet}
use Rattle.agent_node.specs.Meetings.{met}
use Rattle.agent_node.specs.Restarts.{reads}
use Rattle.nsi_agent.specs.Told.{goes_on}
use Rattle.nsi_play.specs.Openings.{nothing_planned, opening}
use Rattle.nsi_play.specs.Rounds.{meets_each}
use Rattle.nsi_play.specs.Play.{Played, asks_among}
use Rattle.stopped_play.specs.Tapes.{Cuts, none_cut, Tape, copies, calm}
use Rattle.stopped_play.specs.Rounds.{round_by, reopens, settles_by}
use Rattle.stopped_play.specs.Play.{acts_by, begins_by, group_by, plays_by, plays_from}

abbrev t1 : Network
t1 =
    record {
      agents = codes "p1" ∷ codes "r1" ∷ [];
      kinds = AgentKind.Provider 60 ∷ AgentKind.Requester 0 ∷ [];
      stps = codes "A" ∷ codes "B" ∷ [];
      owners = 0 ∷ 0 ∷ [];
      capacities = Shared 1000 ∷ Shared 1000 ∷ [];
      partners = None ∷ None ∷ [];
      children = [];
    }

abbrev between : What
between = What.Reserve (record { source = codes "A"; dest = codes "B"; capacity = 600; start = 100; end = 200; version = None; directionality = Directionality.Bidirectional })

-- at 0 the requester is asked for a connection
abbrev one_ask : List Group
one_ask = record { at = 0; acts = Act.Ask 1 (record { label = Some (codes "c1"); what = between }) ∷ [] } ∷ []

---- Its events

abbrev m : Body → Message
m body = record { header = record { correlation = id_of 1 1; requester = codes "r1"; provider = codes "p1" }; body = body }

abbrev reserve : Message
reserve =
    m (Body.Reserve (record {
      capacity = 600;
      connection = None;
      description = None;
      dest = Some (codes "B");
      directionality = None;
      end = 200;
      global = None;
      source = Some (codes "A");
      start = Some 100;
      symmetric = None;
      version = None;
    }))

abbrev response : Message
response = m (Body.ReserveResponse (id_of 0 1))

abbrev confirmed : Message
confirmed =
    m (Body.ReserveConfirmed (record {
      capacity = 600;
      connection = id_of 0 1;
      description = None;
      dest = codes "B";
      directionality = Directionality.Bidirectional;
      end = 200;
      global = None;
      source = codes "A";
      start = 100;
      symmetric = None;
      version = 0;
    }))

abbrev took : ℕ → Input → Event
took a input = record { agent = a; what = Happening.Entry (record { second = 0; input = input }) None }

abbrev was_asked : Event
was_asked = record { agent = 1; what = Happening.Entry (record { second = 0; input = Input.Ask 0 (record { label = Some (codes "c1"); what = between }) }) (Some AskAnswer.Sent) }

abbrev synced : ℕ → ℕ → Event
synced a count = record { agent = a; what = Happening.Sync count }

abbrev restarted : ℕ → ℕ → Event
restarted a count = record { agent = a; what = Happening.Restart count }

---- Which disks stop

-- the provider's, which keeps the batch or not
abbrev provider_cut : Bool → Cuts
provider_cut keeps zero = Some (record { keeps = keeps; again = 0 })
provider_cut keeps (suc a) = None

-- both: the provider's keeps the batch, the requester's doesn't and stops once more while it is read
abbrev both_cut : Cuts
both_cut zero = Some (record { keeps = true; again = 0 })
both_cut (suc a) = Some (record { keeps = false; again = 1 })

abbrev in_round : Cuts → ℕ → Tape
in_round cuts more = record { acts = []; rounds = cuts ∷ copies more none_cut }

abbrev nothing_made : ℕ → ℕ
nothing_made a = 0

-- the requester's disk stops twice while its journal is made
abbrev made_twice : ℕ → ℕ
made_twice zero = 0
made_twice (suc a) = 2

abbrev stopped_by : (ℕ → ℕ) → List Tape → List Group → Routes → Played
stopped_by making tapes script routes = plays_from (record { making = making; groups = tapes }) script (home_in t1 routes) (opening t1 nothing_planned)

---- The first round

-- the provider's disk has stopped, and has nothing: what was let through to it comes all the same
abbrev one_stop : List Event
one_stop =
    took 0 Input.Tick ∷ took 1 Input.Tick
    ∷ was_asked
    ∷ synced 1 2
    ∷ restarted 0 0
    ∷ took 0 (Input.Got reserve) ∷ took 0 (Input.Work 0 Machine.Reserve) ∷ synced 0 2
    ∷ took 1 (Input.Acked (identity reserve)) ∷ took 1 (Input.Got response) ∷ took 1 (Input.Got confirmed) ∷ synced 1 5
    ∷ took 0 (Input.Acked (identity response)) ∷ took 0 (Input.Acked (identity confirmed)) ∷ synced 0 4
    ∷ []

-- both have stopped: the ask is gone, and nobody waits for it
abbrev two_stops : List Event
two_stops = took 0 Input.Tick ∷ took 1 Input.Tick ∷ was_asked ∷ restarted 0 1 ∷ restarted 1 0 ∷ restarted 1 0 ∷ []

abbrev no_act : List Group
no_act = record { at = 0; acts = [] } ∷ []

abbrev made_and_ticked : List Event
made_and_ticked = restarted 1 0 ∷ restarted 1 0 ∷ took 0 Input.Tick ∷ took 1 Input.Tick ∷ synced 0 1 ∷ synced 1 1 ∷ []

---- A commit

-- at 0 the requester is asked for a connection, at 1 to commit it, and at 2 nothing is done
abbrev three_groups : List Group
three_groups =
    record { at = 0; acts = Act.Ask 1 (record { label = Some (codes "c1"); what = between }) ∷ [] }
    ∷ record { at = 1; acts = Act.Ask 1 (record { label = Some (codes "c1"); what = What.Commit }) ∷ [] } ∷ record { at = 2; acts = [] } ∷ []

-- the provider's disk stops in the second round of the second group, in which it takes the commit
abbrev commit_stops : Bool → List Tape
commit_stops keeps = calm 4 ∷ record { acts = []; rounds = none_cut ∷ provider_cut keeps ∷ copies 4 none_cut } ∷ calm 6 ∷ []

-- which agents restarted, and with how many entries
abbrev restart_in : ℕ → Happening → List (ℕ × ℕ)
restart_in a (Happening.Restart count) = (a, count) ∷ []
restart_in a _ = []

abbrev restarts_in : List Event → List (ℕ × ℕ)
restarts_in [] = []
restarts_in (e ∷ es) = restart_in e.agent e.what ++ restarts_in es

pub record IsRow (routes : Routes) : Type 0 where
  pub a_journal_that_is_made_anew_is_told : (stopped_by made_twice (calm 1 ∷ []) no_act routes).events ≡ made_and_ticked
  pub what_was_let_through_comes : (stopped_by nothing_made (in_round (provider_cut false) 3 ∷ []) one_ask routes).events ≡ one_stop
  pub and_all_is_over : (stopped_by nothing_made (in_round (provider_cut false) 3 ∷ []) one_ask routes).is_over ≡ true
  pub two_stop_in_one_round : (stopped_by nothing_made (in_round both_cut 0 ∷ []) one_ask routes).events ≡ two_stops
  pub and_nobody_waits : (stopped_by nothing_made (in_round both_cut 0 ∷ []) one_ask routes).is_over ≡ true
  pub with_the_batch_eight : restarts_in (stopped_by nothing_made (commit_stops true) three_groups routes).events ≡ (0, 8) ∷ []
  pub and_it_goes_on : (stopped_by nothing_made (commit_stops true) three_groups routes).is_over ≡ true
  pub without_it_six : restarts_in (stopped_by nothing_made (commit_stops false) three_groups routes).events ≡ (0, 6) ∷ []
  pub and_so_it_does : (stopped_by nothing_made (commit_stops false) three_groups routes).is_over ≡ true

pub row : (routes : Routes) → IsRow routes
unfolding kind_number connection_of named_connection reservation_row provision_row lifecycle_row status joined announces is_heard with_heard is_old saw is_waiting without is_taken with_taken lack_at first_from first_lack_by places asks_child request_about reserve_for ask_refusal reserve_refusal hears is_kind open_request reservation_closing provision_closing closes moves requested is_provisioning is_terminating first_machine provided record_waits record_work tells_plane record_tells record_ticks demand provision_event provisions lifecycle_event lives event_of hold_end is_live is_working record_worked record_reserves has_row is_in_place unnamed_refusal modification_refusal refusal lacking capacities_among works forces ticks_all provider_ticks receives provider_step provider_after find_view answers asks_at asks_new asks_found reserves asked_of requester_asked hears_if acked requester_ticks requester_step requester_after asks_if_free asks_if_known home_in after_as is_new waits enters enters_if change_first passes says_all takes takes_all works_off syncs_if turn_with ticked is_quiet let_through met meets_each goes_on reads asks_among round_by reopens settles_by acts_by begins_by group_by plays_by
row routes = record {
  a_journal_that_is_made_anew_is_told = refl;
  what_was_let_through_comes = refl;
  and_all_is_over = refl;
  two_stop_in_one_round = refl;
  and_nobody_waits = refl;
  with_the_batch_eight = refl;
  and_it_goes_on = refl;
  without_it_six = refl;
  and_so_it_does = refl;
}
