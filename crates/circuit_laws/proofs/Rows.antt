-- A reservation that is asked, held and committed, as the requester's view and the provider's record have it.
use Rattle.std.proofs.Common.{◌≡◌, ℕ, List, [], ◌∷◌, Some, None, refl}
use Rattle.std.specs.Prelude.{codes}
use Rattle.nsi_primitive.specs.Ids.{id_of}
use Rattle.nsi_primitive.specs.Kinds.{kind_number}
use Rattle.nsi_primitive.specs.Messages.{connection_of, named_connection}
use Rattle.nsi_primitive.specs.declared.ask.Ask.{Ask}
use Rattle.nsi_primitive.specs.declared.ask.What.{What}
use Rattle.nsi_primitive.specs.declared.entry.Entry.{Entry}
use Rattle.nsi_primitive.specs.declared.entry.Input.{Input}
use Rattle.nsi_primitive.specs.declared.kind.Directionality.{Directionality}
use Rattle.nsi_primitive.specs.declared.message.Body.{Body}
use Rattle.nsi_primitive.specs.declared.message.Message.{Message}
use Rattle.nsi_primitive.specs.declared.state.Machine.{Machine}
use Rattle.reserve_machine.specs.Table.{step as reservation_row}
use Rattle.provision_machine.specs.Table.{step as provision_row}
use Rattle.lifecycle_machine.specs.Table.{step as lifecycle_row}
use Rattle.dataplane_state.specs.Plane.{status, announces}
use Rattle.message_retry.specs.Retry.{is_heard, with_heard, is_old, saw}
use Rattle.message_retry.specs.Taken.{is_taken, with_taken}
use Rattle.capacity_calendar.specs.Lack.{lack_at, first_from, first_lack_by}
use Rattle.capacity_calendar.specs.Places.{places}
use Rattle.child_connection.specs.Asks.{asks as asks_child, request_about, reserve_for}
use Rattle.child_connection.specs.Hearing.{hears}
use Rattle.connection_record.specs.Applied.{moves, requested, provided, waits as record_waits, work_of as record_work, tells_plane, tells as record_tells}
use Rattle.connection_record.specs.Demand.{demand}
use Rattle.connection_record.specs.Lives.{provision_event, provisions, lifecycle_event, lives}
use Rattle.connection_record.specs.Moves.{event_of, is_live, is_working, worked as record_worked, reserves as record_reserves}
use Rattle.connection_record.specs.Refusal.{has_row, is_in_place, unnamed_refusal, modification_refusal, refusal}
use Rattle.connection_record.specs.Speaking.{tally, number_of, is_asking, is_noting, is_answering, owed_reserve, owed_provision, owed_life, owed}
use Rattle.stp_topology.specs.declared.network.AgentKind.{AgentKind}
use Rattle.stp_topology.specs.declared.network.PointCapacity.TheVariants.{Shared}
use Rattle.stp_topology.specs.declared.network.Network.{Network}
use Rattle.provider_agent.specs.Others.{lacking}
use Rattle.provider_agent.specs.Setting.{capacities_among}
use Rattle.provider_agent.specs.Steps.{works, receives, step as provider_step, after as provider_after}
use Rattle.requester_agent.specs.Steps.{find_view, answers, asks_at, asks_new, asks_found, reserves, asked_of, asked as requester_asked, hears_if, step as requester_step, after as requester_after}
use Rattle.requester_agent.specs.Views.{asks_if_free, asks_if_known}
use Rattle.nsi_agent.specs.Homes.{Routes, home_in}
use Rattle.nsi_agent.specs.Steps.{after_as}
use Rattle.nsi_agent.specs.Told.{Told, goes_on, told}
use Rattle.nsi_primitive.specs.declared.state.Rsm.{Rsm}
use Rattle.child_connection.specs.Holding.{is_reservation}
use Rattle.child_connection.specs.Views.{is_kind, open_request, ChildConnection}
use Rattle.child_connection.specs.declared.state.Phase.{Phase}
use Rattle.connection_record.specs.declared.record.Record.{Record}
use Rattle.connection_record.specs.Refusal.{place_of}
use Rattle.agent_state.specs.State.{record_at}
use Rattle.nsi_world.specs.Worlds.{IsAgent}
use Rattle.circuit_link.specs.Sides.{standing_of}
use Rattle.circuit_link.specs.Children.{about}
use Rattle.circuit_link.specs.Headers.{header_of}
use Rattle.circuit_pairs.specs.Minding.{view_in}

abbrev t1 : Network
t1 =
    record {
      agents = codes "p1" ∷ codes "r1" ∷ [];
      kinds = AgentKind.Provider 60 ∷ AgentKind.Requester 0 ∷ [];
      stps = codes "A" ∷ codes "B" ∷ [];
      owners = 0 ∷ 0 ∷ [];
      capacities = Shared 1000 ∷ Shared 1000 ∷ [];
      partners = None ∷ None ∷ [];
      children = [];
    }

abbrev ask : Ask
ask = record { label = Some (codes "c1"); what = What.Reserve (record { source = codes "A"; dest = codes "B"; capacity = 600; start = 100; end = 200; version = None; directionality = Directionality.Bidirectional }) }

abbrev commit : Ask
commit = record { label = Some (codes "c1"); what = What.Commit }

-- the message that the requester asks as its nth, or that answers it
abbrev at : ℕ → Body → Message
at n body = record { header = record { correlation = id_of 1 n; requester = codes "r1"; provider = codes "p1" }; body = body }

abbrev reserve : Message
reserve =
    at 1 (Body.Reserve (record {
      connection = None;
      source = Some (codes "A");
      dest = Some (codes "B");
      start = Some 100;
      end = 200;
      capacity = 600;
      version = None;
      directionality = None;
      symmetric = None;
      global = None;
      description = None;
    }))

abbrev response : Message
response = at 1 (Body.ReserveResponse (id_of 0 1))

abbrev confirmed : Message
confirmed =
    at 1 (Body.ReserveConfirmed (record {
      connection = id_of 0 1;
      source = codes "A";
      dest = codes "B";
      start = 100;
      end = 200;
      capacity = 600;
      version = 0;
      directionality = Directionality.Bidirectional;
      symmetric = None;
      global = None;
      description = None;
    }))

abbrev took_in : Input → Entry
took_in input = record { second = 0; input = input }

-- the requester asks, hears that it is held, asks the commit, and hears of it
abbrev asked : List Entry
asked = took_in (Input.Ask 0 ask) ∷ []

abbrev held : List Entry
held = took_in (Input.Ask 0 ask) ∷ took_in (Input.Got response) ∷ took_in (Input.Got confirmed) ∷ []

abbrev committing : List Entry
committing = took_in (Input.Ask 0 ask) ∷ took_in (Input.Got response) ∷ took_in (Input.Got confirmed) ∷ took_in (Input.Ask 1 commit) ∷ []

abbrev committed : List Entry
committed =
    took_in (Input.Ask 0 ask) ∷ took_in (Input.Got response) ∷ took_in (Input.Got confirmed) ∷ took_in (Input.Ask 1 commit)
    ∷ took_in (Input.Got (at 2 (Body.ReserveCommitConfirmed (id_of 0 1)))) ∷ []

-- the provider takes each, and does its work
abbrev took : List Entry
took = took_in (Input.Got reserve) ∷ []

abbrev holds : List Entry
holds = took_in (Input.Got reserve) ∷ took_in (Input.Work 0 Machine.Reserve) ∷ []

abbrev took_commit : List Entry
took_commit = took_in (Input.Got reserve) ∷ took_in (Input.Work 0 Machine.Reserve) ∷ took_in (Input.Got (at 2 (Body.ReserveCommit (id_of 0 1)))) ∷ []

abbrev commits : List Entry
commits =
    took_in (Input.Got reserve) ∷ took_in (Input.Work 0 Machine.Reserve) ∷ took_in (Input.Got (at 2 (Body.ReserveCommit (id_of 0 1))))
    ∷ took_in (Input.Work 0 Machine.Reserve) ∷ []

abbrev view : Routes → List Entry → ChildConnection
view routes es = view_in (codes "p1") (told (home_in t1 routes 1) es).state.views 0

abbrev provider : Routes → List Entry → Told
provider routes es = told (home_in t1 routes 0) es

abbrev its : Routes → List Entry → Record
its routes es = record_at 0 (provider routes es).state.base.records

pub record IsRow (routes : Routes) : Type 0 where
  pub the_provider_is_an_agent : IsAgent (home_in t1 routes) 0
  pub so_is_the_requester : IsAgent (home_in t1 routes) 1
  pub the_view_waits : (view routes asked).phase ≡ Phase.Reserving
  pub from_rest : (view routes asked).before ≡ Phase.Idle
  pub the_record_checks : (its routes took).rsm ≡ Rsm.ReserveChecking
  pub it_holds : (its routes holds).rsm ≡ Rsm.ReserveHeld
  pub so_does_the_view : (view routes held).phase ≡ Phase.Held
  pub which_knows_it : (view routes held).connection ≡ Some (id_of 0 1)
  pub by_its_place : place_of (id_of 0 1) (codes "r1") (provider routes holds).state.base.records ≡ Some 0
  pub the_view_asks_again : (view routes committing).phase ≡ Phase.Committing
  pub what_it_holds : (view routes committing).pending ≡ Some 0
  pub the_record_commits : (its routes took_commit).rsm ≡ Rsm.ReserveCommitting
  pub the_same : (standing_of (its routes took_commit)).pending ≡ Some 0
  pub then_it_is_ahead : (standing_of (its routes commits)).committed ≡ 0 ∷ []
  pub of_the_view : (view routes committing).committed ≡ []
  pub as_it_says : about (header_of (codes "r1") (codes "p1") (id_of 1 2)) (provider routes commits).out ≡ Body.ReserveCommitConfirmed (id_of 0 1) ∷ []
  pub under_no_other_header : about (header_of (codes "r2") (codes "p1") (id_of 1 2)) (provider routes commits).out ≡ []
  pub and_the_view_hears : (view routes committed).committed ≡ 0 ∷ []
  pub both_at_rest : (view routes committed).phase ≡ Phase.Idle
  pub again : (its routes commits).rsm ≡ Rsm.ReserveStart

pub row : (routes : Routes) → IsRow routes
unfolding kind_number connection_of named_connection reservation_row provision_row lifecycle_row status announces is_heard with_heard is_old saw is_taken with_taken lack_at first_from first_lack_by places asks_child reserve_for hears is_reservation is_kind open_request moves requested provided record_waits record_work tells_plane record_tells demand provision_event provisions lifecycle_event lives event_of is_live is_working record_worked record_reserves has_row is_in_place unnamed_refusal modification_refusal refusal tally number_of is_asking is_noting is_answering owed_reserve owed_provision owed_life owed lacking capacities_among works receives provider_step provider_after find_view answers asks_at asks_new asks_found request_about asks_if_known reserves asked_of requester_asked hears_if requester_step requester_after asks_if_free home_in after_as goes_on about
row routes =
    record {
      the_provider_is_an_agent = refl;
      so_is_the_requester = refl;
      the_view_waits = refl;
      from_rest = refl;
      the_record_checks = refl;
      it_holds = refl;
      so_does_the_view = refl;
      which_knows_it = refl;
      by_its_place = refl;
      the_view_asks_again = refl;
      what_it_holds = refl;
      the_record_commits = refl;
      the_same = refl;
      then_it_is_ahead = refl;
      of_the_view = refl;
      as_it_says = refl;
      under_no_other_header = refl;
      and_the_view_hears = refl;
      both_at_rest = refl;
      again = refl;
    }
