-- A run, computed: a provider of two points, its requester, and one ask. And what is no run.
use Rattle.std.proofs.Common.{◌≡◌, ℕ, List, [], ◌∷◌, Some, None, length, refl, ap, arith}
use Rattle.std.specs.Prelude.{codes}
use Rattle.std.specs.List.{Contains}
use Rattle.nsi_primitive.specs.Ids.{id_of}
use Rattle.nsi_primitive.specs.Kinds.{kind_number}
use Rattle.nsi_primitive.specs.Messages.{identity, connection_of, named_connection}
use Rattle.nsi_primitive.specs.declared.ask.Ask.{Ask}
use Rattle.nsi_primitive.specs.declared.ask.AskAnswer.{AskAnswer}
use Rattle.nsi_primitive.specs.declared.ask.What.{What}
use Rattle.nsi_primitive.specs.declared.entry.Event.{Event}
use Rattle.nsi_primitive.specs.declared.entry.Happening.{Happening}
use Rattle.nsi_primitive.specs.declared.entry.Input.{Input}
use Rattle.nsi_primitive.specs.declared.kind.Directionality.{Directionality}
use Rattle.nsi_primitive.specs.declared.message.Body.{Body}
use Rattle.nsi_primitive.specs.declared.message.Message.{Message}
use Rattle.nsi_primitive.specs.declared.state.Machine.{Machine}
use Rattle.reserve_machine.specs.Table.{step as reservation_row}
use Rattle.provision_machine.specs.Table.{step as provision_row}
use Rattle.lifecycle_machine.specs.Table.{step as lifecycle_row}
use Rattle.dataplane_state.specs.Plane.{status, joined, announces}
use Rattle.message_retry.specs.Retry.{is_heard, with_heard, is_old, saw, is_waiting, without}
use Rattle.message_retry.specs.Taken.{is_taken, with_taken}
use Rattle.capacity_calendar.specs.Lack.{lack_at, first_from, first_lack_by}
use Rattle.capacity_calendar.specs.Places.{places}
use Rattle.child_connection.specs.Asks.{asks as asks_child, request_about, reserve_for}
use Rattle.child_connection.specs.Refusals.{ask_refusal, reserve_refusal}
use Rattle.child_connection.specs.Hearing.{hears}
use Rattle.child_connection.specs.Views.{is_kind, open_request}
use Rattle.connection_record.specs.Applied.{reservation_closing, provision_closing, closes, moves, requested, is_provisioning, is_terminating, first_machine, provided, waits as record_waits, work_of as record_work, tells_plane, tells as record_tells, ticks as record_ticks}
use Rattle.connection_record.specs.Demand.{demand}
use Rattle.connection_record.specs.Lives.{provision_event, provisions, lifecycle_event, lives}
use Rattle.connection_record.specs.Moves.{event_of, hold_end, is_live, is_working, worked as record_worked, reserves as record_reserves}
use Rattle.connection_record.specs.Refusal.{has_row, is_in_place, unnamed_refusal, modification_refusal, refusal}
use Rattle.stp_topology.specs.declared.network.AgentKind.{AgentKind}
use Rattle.stp_topology.specs.declared.network.PointCapacity.TheVariants.{Shared}
use Rattle.stp_topology.specs.declared.network.Network.{Network}
use Rattle.provider_agent.specs.Others.{lacking}
use Rattle.provider_agent.specs.Setting.{capacities_among}
use Rattle.provider_agent.specs.Steps.{works, forces, ticks_all, ticks as provider_ticks, receives, step as provider_step, after as provider_after}
use Rattle.requester_agent.specs.Steps.{find_view, answers, asks_at, asks_new, asks_found, reserves, asked_of, asked as requester_asked, hears_if, acked, ticks as requester_ticks, step as requester_step, after as requester_after}
use Rattle.requester_agent.specs.Views.{asks_if_free, asks_if_known}
use Rattle.nsi_agent.specs.Homes.{Routes, home_in}
use Rattle.nsi_agent.specs.Steps.{after_as}
use Rattle.nsi_agent.specs.Told.{goes_on}
use Rattle.nsi_world.specs.Worlds.{Homes, World, empty, said}
use Rattle.nsi_world.specs.Runs.{Asked, world_after, AreAllowed, asks_of, numbered}

abbrev t1 : Network
t1 =
    record {
      agents = codes "p1" ∷ codes "r1" ∷ [];
      kinds = AgentKind.Provider 60 ∷ AgentKind.Requester 0 ∷ [];
      stps = codes "A" ∷ codes "B" ∷ [];
      owners = 0 ∷ 0 ∷ [];
      capacities = Shared 1000 ∷ Shared 1000 ∷ [];
      partners = None ∷ None ∷ [];
      children = [];
    }

abbrev ask : Ask
ask = record { label = Some (codes "c1"); what = What.Reserve (record { source = codes "A"; dest = codes "B"; capacity = 600; start = 100; end = 200; version = None; directionality = Directionality.Bidirectional }) }

abbrev m : Body → Message
m body = record { header = record { correlation = id_of 1 1; requester = codes "r1"; provider = codes "p1" }; body = body }

abbrev reserve : Message
reserve =
    m (Body.Reserve (record {
      connection = None;
      source = Some (codes "A");
      dest = Some (codes "B");
      start = Some 100;
      end = 200;
      capacity = 600;
      version = None;
      directionality = None;
      symmetric = None;
      global = None;
      description = None;
    }))

abbrev response : Message
response = m (Body.ReserveResponse (id_of 0 1))

abbrev confirmed : Message
confirmed =
    m (Body.ReserveConfirmed (record {
      connection = id_of 0 1;
      source = codes "A";
      dest = codes "B";
      start = 100;
      end = 200;
      capacity = 600;
      version = 0;
      directionality = Directionality.Bidirectional;
      symmetric = None;
      global = None;
      description = None;
    }))

abbrev took : ℕ → Input → Event
took a input = record { agent = a; what = Happening.Entry (record { second = 0; input = input }) None }

abbrev was_asked : Event
was_asked = record { agent = 1; what = Happening.Entry (record { second = 0; input = Input.Ask 0 ask }) (Some AskAnswer.Sent) }

abbrev synced : ℕ → ℕ → Event
synced a count = record { agent = a; what = Happening.Sync count }

abbrev whole : List Event
whole =
    took 0 Input.Tick ∷ took 1 Input.Tick
    ∷ was_asked
    ∷ synced 0 1 ∷ synced 1 2
    ∷ took 0 (Input.Got reserve) ∷ took 0 (Input.Work 0 Machine.Reserve) ∷ synced 0 3
    ∷ took 1 (Input.Acked (identity reserve)) ∷ took 1 (Input.Got response) ∷ took 1 (Input.Got confirmed) ∷ synced 1 5
    ∷ took 0 (Input.Acked (identity response)) ∷ took 0 (Input.Acked (identity confirmed)) ∷ synced 0 5
    ∷ []

abbrev last : World
last = world_after empty whole

pub record IsRow (routes : Routes) : Type 0 where
  pub provider_took_five : length (last.journal 0) ≡ 5
  pub requester_took_five : length (last.journal 1) ≡ 5
  pub all_are_synced : (last.synced 0 ≡ 5) × (last.synced 1 ≡ 5)
  pub the_requester_said : said (home_in t1 routes) last 1 ≡ reserve ∷ []
  pub the_provider_said : said (home_in t1 routes) last 0 ≡ response ∷ confirmed ∷ []
  pub nobody_else : said (home_in t1 routes) last 2 ≡ []
  pub one_ask_was_put : asks_of whole ≡ numbered 0 ((1, ask) ∷ [])

pub row : (routes : Routes) → IsRow routes
unfolding kind_number connection_of named_connection reservation_row provision_row lifecycle_row status joined announces is_heard with_heard is_old saw is_waiting without is_taken with_taken lack_at first_from first_lack_by places asks_child request_about reserve_for ask_refusal reserve_refusal hears is_kind open_request reservation_closing provision_closing closes moves requested is_provisioning is_terminating first_machine provided record_waits record_work tells_plane record_tells record_ticks demand provision_event provisions lifecycle_event lives event_of hold_end is_live is_working record_worked record_reserves has_row is_in_place unnamed_refusal modification_refusal refusal lacking capacities_among works forces ticks_all provider_ticks receives provider_step provider_after find_view answers asks_at asks_new asks_found reserves asked_of requester_asked hears_if acked requester_ticks requester_step requester_after asks_if_free asks_if_known home_in after_as goes_on world_after asks_of numbered
row routes = record {
  provider_took_five = refl;
  requester_took_five = refl;
  all_are_synced = (refl, refl);
  the_requester_said = refl;
  the_provider_said = refl;
  nobody_else = refl;
  one_ask_was_put = refl;
}

---- What is no run

nothing_said : (homes : Homes) (a : ℕ) (x : Message) → Contains (said homes empty a) x → ⊥
unfolding goes_on
nothing_said homes a x c = let lt = c.1 in absurd (omega (arith, lt))

-- a message is heard only after it was said
pub none_is_heard_before : (homes : Homes) (a : ℕ) (x : Message) → AreAllowed homes empty (took a (Input.Got x) ∷ []) → ⊥
unfolding AreAllowed
none_is_heard_before homes a x h = nothing_said homes h.0.1.1.comes.0.0 x h.0.1.1.comes.0.1.1

-- a sync is of all entries
pub none_is_synced_before : (homes : Homes) (a : ℕ) → AreAllowed homes empty (synced a 1 ∷ []) → ⊥
unfolding AreAllowed
none_is_synced_before homes a h = absurd (omega (arith, h.0.1))

abbrev first_number : List Asked → ℕ
first_number [] = 0
first_number (x ∷ xs) = x.number

-- asks are numbered from 0
pub none_is_first : asks_of (record { agent = 1; what = Happening.Entry (record { second = 0; input = Input.Ask 1 ask }) None } ∷ []) ≡ numbered 0 ((1, ask) ∷ []) → ⊥
unfolding asks_of numbered
none_is_first e = let same : 1 ≡ 0 = ap first_number e in absurd (omega (arith, same))
