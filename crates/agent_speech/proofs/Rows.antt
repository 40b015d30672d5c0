-- What a requester asks and a provider answers, counted: who holds what, what is owed, and what was said.
use Rattle.std.proofs.Common.{◌≡◌, false, List, [], ◌∷◌, Some, None, refl}
use Rattle.std.specs.Prelude.{codes}
use Rattle.nsi_primitive.specs.Ids.{id_of}
use Rattle.nsi_primitive.specs.Kinds.{kind_number}
use Rattle.nsi_primitive.specs.Messages.{connection_of, named_connection}
use Rattle.nsi_primitive.specs.declared.ask.Ask.{Ask}
use Rattle.nsi_primitive.specs.declared.ask.What.{What}
use Rattle.nsi_primitive.specs.declared.entry.Entry.{Entry}
use Rattle.nsi_primitive.specs.declared.entry.Input.{Input}
use Rattle.nsi_primitive.specs.declared.kind.Directionality.{Directionality}
use Rattle.nsi_primitive.specs.declared.kind.Kind.{Kind}
use Rattle.nsi_primitive.specs.declared.message.Body.{Body}
use Rattle.nsi_primitive.specs.declared.message.Header.{Header}
use Rattle.nsi_primitive.specs.declared.message.Message.{Message}
use Rattle.nsi_primitive.specs.declared.state.Machine.{Machine}
use Rattle.reserve_machine.specs.Table.{step as reservation_row}
use Rattle.provision_machine.specs.Table.{step as provision_row}
use Rattle.lifecycle_machine.specs.Table.{step as lifecycle_row}
use Rattle.dataplane_state.specs.Plane.{status, announces}
use Rattle.message_retry.specs.Retry.{is_heard, with_heard, is_old, saw}
use Rattle.message_retry.specs.Taken.{is_taken, with_taken}
use Rattle.capacity_calendar.specs.Lack.{lack_at, first_from, first_lack_by}
use Rattle.capacity_calendar.specs.Places.{places}
use Rattle.child_connection.specs.Asks.{asks as asks_child, reserve_for}
use Rattle.child_connection.specs.Hearing.{hears}
use Rattle.child_connection.specs.Holding.{is_reservation, holds, fits_phase, isnt_reserving, fits}
use Rattle.child_connection.specs.Views.{is_kind, open_request}
use Rattle.connection_record.specs.Applied.{moves, requested, provided, waits as record_waits, work_of as record_work, tells_plane, tells as record_tells}
use Rattle.connection_record.specs.Demand.{demand}
use Rattle.connection_record.specs.Lives.{provision_event, provisions, lifecycle_event, lives}
use Rattle.connection_record.specs.Moves.{event_of, is_live, is_working, worked as record_worked, reserves as record_reserves}
use Rattle.connection_record.specs.Refusal.{has_row, is_in_place, unnamed_refusal, modification_refusal, refusal}
use Rattle.connection_record.specs.Speaking.{tally, number_of, is_asking, is_noting, is_answering, owed_reserve, owed_provision, owed_life, owed}
use Rattle.stp_topology.specs.declared.network.AgentKind.{AgentKind}
use Rattle.stp_topology.specs.declared.network.PointCapacity.TheVariants.{Shared}
use Rattle.stp_topology.specs.declared.network.Network.{Network}
use Rattle.agent_state.specs.declared.parent.OpenQuery.{OpenQuery}
use Rattle.agent_state.specs.declared.parent.Part.{Part}
use Rattle.agent_state.specs.State.{no_record}
use Rattle.aggregator_agent.specs.Below.{part_of, Heard, tells_first, hear_below}
use Rattle.provider_agent.specs.Others.{lacking}
use Rattle.provider_agent.specs.Setting.{capacities_among}
use Rattle.provider_agent.specs.Steps.{works, receives, step as provider_step, after as provider_after}
use Rattle.requester_agent.specs.Steps.{find_view, answers, asks_new, reserves, asked_of, asked as requester_asked, hears_if, step as requester_step, after as requester_after}
use Rattle.requester_agent.specs.Views.{asks_if_free}
use Rattle.nsi_agent.specs.Homes.{Routes, home_in}
use Rattle.nsi_agent.specs.Steps.{after_as}
use Rattle.nsi_agent.specs.Told.{Told, goes_on, told}
use Rattle.agent_speech.specs.Owing.{answers_to, owed_under, owed_by, owed_below, has_id, took, before}
use Rattle.agent_speech.specs.Unanswered.{held, unfit, was_answered}

abbrev t1 : Network
t1 =
    record {
      agents = codes "p1" ∷ codes "r1" ∷ [];
      kinds = AgentKind.Provider 60 ∷ AgentKind.Requester 0 ∷ [];
      stps = codes "A" ∷ codes "B" ∷ [];
      owners = 0 ∷ 0 ∷ [];
      capacities = Shared 1000 ∷ Shared 1000 ∷ [];
      partners = None ∷ None ∷ [];
      children = [];
    }

abbrev ask : Ask
ask = record { label = Some (codes "c1"); what = What.Reserve (record { source = codes "A"; dest = codes "B"; capacity = 600; start = 100; end = 200; version = None; directionality = Directionality.Bidirectional }) }

abbrev m : Body → Message
m body = record { header = record { correlation = id_of 1 1; requester = codes "r1"; provider = codes "p1" }; body = body }

abbrev reserve : Message
reserve =
    m (Body.Reserve (record {
      connection = None;
      source = Some (codes "A");
      dest = Some (codes "B");
      start = Some 100;
      end = 200;
      capacity = 600;
      version = None;
      directionality = None;
      symmetric = None;
      global = None;
      description = None;
    }))

abbrev response : Message
response = m (Body.ReserveResponse (id_of 0 1))

abbrev confirmed : Message
confirmed =
    m (Body.ReserveConfirmed (record {
      connection = id_of 0 1;
      source = codes "A";
      dest = codes "B";
      start = 100;
      end = 200;
      capacity = 600;
      version = 0;
      directionality = Directionality.Bidirectional;
      symmetric = None;
      global = None;
      description = None;
    }))

-- a query that waits for one child, and the answer of that child
abbrev open_query : OpenQuery
open_query = record { header = reserve.header; place = 0; parts = Part.Asked (id_of 2 1) ∷ [] }

abbrev child_told : Message
child_told =
    record {
      header = record { correlation = id_of 2 1; requester = codes "p1"; provider = codes "p2" };
      body = Body.QueryRecursiveConfirmed (id_of 0 1) false [];
    }

abbrev heard_below : Heard
heard_below = hear_below (codes "p1") (no_record ∷ []) child_told (open_query ∷ [])

abbrev took_in : Input → Entry
took_in input = record { second = 0; input = input }

abbrev header : Header
header = reserve.header

-- the requester asks, and hears one message after another
abbrev asked_once : List Entry
asked_once = took_in (Input.Ask 0 ask) ∷ []

abbrev heard_once : List Entry
heard_once = took_in (Input.Ask 0 ask) ∷ took_in (Input.Got response) ∷ []

abbrev heard_twice : List Entry
heard_twice = took_in (Input.Ask 0 ask) ∷ took_in (Input.Got response) ∷ took_in (Input.Got confirmed) ∷ []

-- the provider takes the request, and does its work
abbrev taken_once : List Entry
taken_once = took_in (Input.Got reserve) ∷ []

abbrev worked_once : List Entry
worked_once = took_in (Input.Got reserve) ∷ took_in (Input.Work 0 Machine.Reserve) ∷ []

abbrev asker : Routes → List Entry → Told
asker routes es = told (home_in t1 routes 1) es

abbrev provider : Routes → List Entry → Told
provider routes es = told (home_in t1 routes 0) es

pub record IsRow (routes : Routes) : Type 0 where
  pub one_view_holds_it : held (codes "p1") (id_of 1 1) (asker routes asked_once).state ≡ 1
  pub of_that_child_alone : held (codes "p2") (id_of 1 1) (asker routes asked_once).state ≡ 0
  pub a_response_leaves_it : held (codes "p1") (id_of 1 1) (asker routes heard_once).state ≡ 1
  pub the_confirmation_ends_it : held (codes "p1") (id_of 1 1) (asker routes heard_twice).state ≡ 0
  pub its_views_fit : unfit (asker routes heard_twice).state ≡ 0
  pub it_was_taken : took header (provider routes taken_once).state.base.seen ≡ 1
  pub a_confirmation_is_owed : owed_by (codes "p1") header (kind_number Kind.ReserveConfirmed) (provider routes taken_once).state.base.records ≡ 1
  pub or_a_failure : owed_by (codes "p1") header (kind_number Kind.ReserveFailed) (provider routes taken_once).state.base.records ≡ 1
  pub to_nobody_else : owed_by (codes "p1") (record header { requester = codes "r2" }) (kind_number Kind.ReserveConfirmed) (provider routes taken_once).state.base.records ≡ 0
  pub then_it_is_said : tally (answers_to header (kind_number Kind.ReserveConfirmed)) (provider routes worked_once).out ≡ 1
  pub and_owed_no_more : owed_by (codes "p1") header (kind_number Kind.ReserveConfirmed) (provider routes worked_once).state.base.records ≡ 0
  pub nor_is_a_failure : owed_by (codes "p1") header (kind_number Kind.ReserveFailed) (provider routes worked_once).state.base.records ≡ 0
  pub a_hold_may_still_end : owed_by (codes "p1") header (kind_number Kind.ReserveTimeout) (provider routes worked_once).state.base.records ≡ 1
  pub a_query_owes_its_rows : owed_below header (kind_number Kind.QueryRecursiveConfirmed) (open_query ∷ []) ≡ 1
  pub nothing_of_another_kind : owed_below header (kind_number Kind.Error) (open_query ∷ []) ≡ 0
  pub and_nothing_to_another : owed_below (record header { requester = codes "r2" }) (kind_number Kind.QueryRecursiveConfirmed) (open_query ∷ []) ≡ 0
  pub the_child_has_it_said : tally (answers_to header (kind_number Kind.QueryRecursiveConfirmed)) heard_below.out ≡ 1
  pub and_no_longer_owed : owed_below header (kind_number Kind.QueryRecursiveConfirmed) heard_below.queries ≡ 0
  pub one_record_has_the_id : tally (has_id (id_of 0 1)) (provider routes worked_once).state.base.records ≡ 1
  pub which_was_drawn : before 0 (provider routes worked_once).state.base.next (id_of 0 1) ≡ 1

pub row : (routes : Routes) → IsRow routes
unfolding kind_number connection_of named_connection reservation_row provision_row lifecycle_row status announces is_heard with_heard is_old saw is_taken with_taken lack_at first_from first_lack_by places asks_child reserve_for hears is_reservation holds fits_phase isnt_reserving fits is_kind open_request moves requested provided record_waits record_work tells_plane record_tells demand provision_event provisions lifecycle_event lives event_of is_live is_working record_worked record_reserves has_row is_in_place unnamed_refusal modification_refusal refusal tally number_of is_asking is_noting is_answering owed_reserve owed_provision owed_life owed lacking capacities_among works receives provider_step provider_after find_view answers asks_new reserves asked_of requester_asked hears_if requester_step requester_after asks_if_free home_in after_as goes_on owed_under owed_by took before held unfit was_answered part_of tells_first
row routes =
    record {
      one_view_holds_it = refl;
      of_that_child_alone = refl;
      a_response_leaves_it = refl;
      the_confirmation_ends_it = refl;
      its_views_fit = refl;
      it_was_taken = refl;
      a_confirmation_is_owed = refl;
      or_a_failure = refl;
      to_nobody_else = refl;
      then_it_is_said = refl;
      and_owed_no_more = refl;
      nor_is_a_failure = refl;
      a_hold_may_still_end = refl;
      a_query_owes_its_rows = refl;
      nothing_of_another_kind = refl;
      and_nothing_to_another = refl;
      the_child_has_it_said = refl;
      and_no_longer_owed = refl;
      one_record_has_the_id = refl;
      which_was_drawn = refl;
    }
