-- Requests and answers, computed: at the provider p1, and at the aggregator a1 over the provider p1.
use Rattle.std.proofs.Common.{◌≡◌, ◌<◌, ◌∙◌, ℕ, zero, suc, false, List, [], ◌∷◌, Option, Some, None, refl, sym, ap, subst, arith, if◌then◌else◌, get_or, slice_get}
use Rattle.std.specs.List.{Contains}
use Rattle.std.specs.Prelude.{bytes_eq, codes}
use Rattle.std.proofs.lemmas.Bool.{false≢true}
use Rattle.std.proofs.lemmas.Option.{same_Some, slice_get-get_or}
use Rattle.nsi_base.specs.declared.flow.Flow.{Flow}
use Rattle.nsi_primitive.specs.Ids.{id_of}
use Rattle.nsi_primitive.specs.Kinds.{kind_number}
use Rattle.nsi_primitive.specs.Messages.{connection_of, named_connection, kind_of}
use Rattle.nsi_primitive.specs.declared.entry.Entry.{Entry}
use Rattle.nsi_primitive.specs.declared.entry.Input.{Input}
use Rattle.nsi_primitive.specs.declared.kind.Directionality.{Directionality}
use Rattle.nsi_primitive.specs.declared.kind.Kind.{Kind}
use Rattle.nsi_primitive.specs.declared.message.Body.{Body}
use Rattle.nsi_primitive.specs.declared.message.Message.{Message}
use Rattle.nsi_primitive.specs.declared.state.Machine.{Machine}
use Rattle.reserve_machine.specs.Table.{step as reservation_row}
use Rattle.provision_machine.specs.Table.{step as provision_row}
use Rattle.lifecycle_machine.specs.Table.{step as lifecycle_row}
use Rattle.dataplane_state.specs.Plane.{status, joined, announces}
use Rattle.message_retry.specs.Retry.{is_heard, with_heard, is_old, saw}
use Rattle.message_retry.specs.Taken.{is_taken, with_taken}
use Rattle.capacity_calendar.specs.Lack.{lack_at, first_from, first_lack_by}
use Rattle.capacity_calendar.specs.Places.{places}
use Rattle.child_connection.specs.Asks.{asks as asks_child, request_about, reserve_for}
use Rattle.child_connection.specs.Hearing.{hears as child_hears}
use Rattle.child_connection.specs.Views.{is_kind, open_request, new_view}
use Rattle.connection_record.specs.Applied.{moves, requested, provided, is_provisioning, is_terminating, waits as record_waits, work_of as record_work, tells_plane, tells as record_tells}
use Rattle.connection_record.specs.Demand.{demand}
use Rattle.connection_record.specs.Lives.{provision_event, provisions, lifecycle_event, lives}
use Rattle.connection_record.specs.Moves.{event_of, is_live, is_working, worked as record_worked, reserves as record_reserves}
use Rattle.connection_record.specs.Refusal.{has_row, is_in_place, unnamed_refusal, modification_refusal, refusal}
use Rattle.agent_state.specs.State.{record_at, children_at}
use Rattle.provider_agent.specs.Others.{lacking}
use Rattle.provider_agent.specs.Setting.{Setting as ProviderSetting}
use Rattle.provider_agent.specs.Steps.{works, receives, step as provider_step, after as provider_after}
use Rattle.aggregator_agent.specs.Asking.{next_after, asked_view, next_behind, each, request_if, reserve_if, passed_on, views_of, with_path}
use Rattle.aggregator_agent.specs.Below.{part_of, tells_first}
use Rattle.aggregator_agent.specs.Clock.{due_for}
use Rattle.aggregator_agent.specs.Setting.{Setting as AggregatorSetting}
use Rattle.aggregator_agent.specs.Settling.{is_held, checked, reservation_verdict, reservation_due, provision_verdict, provision_due, settles_reservation, settles_provision, closes_unless, settles, settle}
use Rattle.aggregator_agent.specs.Steps.{request_at, answers, pass_then, hear_all, hears, receives as aggregator_receives, step as aggregator_step, after as aggregator_after}
use Rattle.aggregator_agent.specs.Turns.{tell_joined, pass_on, takes, turn_by_request, request_turn, is_timed_out, is_ended, hold_end_by, force_by, hold_ends, force_ends, heard_by, turn_by_answer, answer_turn, spoken}
use Rattle.nsi_agent.specs.Homes.{Role, provides, aggregates, Home}
use Rattle.nsi_agent.specs.Steps.{after_as, is_new}
use Rattle.nsi_agent.specs.Told.{goes_on, told}
use Rattle.request_answers.specs.Answers.{is_answer, IsAnswered}
use Rattle.request_answers.specs.Open.{works_on, IsWorkedOn}
use Rattle.request_answers.specs.Taken.{HasTaken}
use Rattle.request_answers.specs.Waiting.{WaitsForChild}

---- Which kinds answer

-- that a reserve came is no answer, nor is anything that is told without being asked
pub notices_answer_nothing : (k : Kind) →
    (is_answer k Kind.ReserveResponse ≡ false) × (is_answer k Kind.ReserveTimeout ≡ false) × (is_answer k Kind.ErrorEvent ≡ false) × (is_answer k Kind.DataPlaneStateChange ≡ false) × (is_answer k Kind.MessageDeliveryTimeout ≡ false)
unfolding is_answer
notices_answer_nothing k = (grind arith, grind arith, grind arith, grind arith, grind arith)

-- no request answers one
pub requests_answer_nothing : (k : Kind) → (is_answer k Kind.Reserve ≡ false) × (is_answer k Kind.Terminate ≡ false) × (is_answer k Kind.QuerySummary ≡ false)
unfolding is_answer
requests_answer_nothing k = (grind arith, grind arith, grind arith)

---- The agents

abbrev stp_of : List ℕ → Option ℕ
stp_of name = if bytes_eq name (codes "A") then Some 0 else if bytes_eq name (codes "B") then Some 1 else None

abbrev home_of : ℕ → List ℕ → Role → Home
home_of n name role = record { number = n; name = name; agent_of = λ x. None; role = role }

abbrev points : ProviderSetting
points =
    record {
      name = codes "p1";
      number = 0;
      hold = 60;
      capacities = record { stp = 0; flow = Flow.Both; mbps = 1000 } ∷ record { stp = 1; flow = Flow.Both; mbps = 1000 } ∷ [];
    }

abbrev provider : Home
provider = home_of 0 (codes "p1") (provides points stp_of)

-- over one child, between the same two points
abbrev over_one : AggregatorSetting
over_one = record { agent = record { name = codes "a1"; number = 3 }; stp_of = stp_of; route = λ source dest. record { child = codes "p1"; source = codes "A"; dest = codes "B" } ∷ [] }

abbrev aggregator : Home
aggregator = home_of 3 (codes "a1") (aggregates over_one)

---- What comes, and what is said

abbrev between : (requester provider : List ℕ) → ℕ → Body → Message
between requester provider c body = record { header = record { correlation = c; requester = requester; provider = provider }; body = body }

abbrev reserve : Option ℕ → Body
reserve version =
    Body.Reserve (record {
      capacity = 600;
      connection = None;
      description = None;
      dest = Some (codes "B");
      directionality = None;
      end = 200;
      global = None;
      source = Some (codes "A");
      start = Some 100;
      symmetric = None;
      version = version;
    })

abbrev confirmed : ℕ → Body
confirmed id =
    Body.ReserveConfirmed (record {
      capacity = 600;
      connection = id;
      description = None;
      dest = codes "B";
      directionality = Directionality.Bidirectional;
      end = 200;
      global = None;
      source = codes "A";
      start = 100;
      symmetric = None;
      version = 0;
    })

abbrev now : Input → Entry
now input = record { second = 0; input = input }

-- r1 reserves at p1
abbrev asks_p1 : Message
asks_p1 = between (codes "r1") (codes "p1") (id_of 4 1) (reserve None)

abbrev responds : Message
responds = between (codes "r1") (codes "p1") (id_of 4 1) (Body.ReserveResponse (id_of 0 1))

abbrev confirms : Message
confirms = between (codes "r1") (codes "p1") (id_of 4 1) (confirmed (id_of 0 1))

-- the request is taken, and its work isn't done
abbrev begun : List Entry
begun = now (Input.Got asks_p1) ∷ []

abbrev done : List Entry
done = now (Input.Got asks_p1) ∷ now (Input.Work 0 Machine.Reserve) ∷ []

-- r1 reserves at a1, which asks p1
abbrev asks_a1 : Message
asks_a1 = between (codes "r1") (codes "a1") (id_of 4 1) (reserve None)

abbrev asked_below : Message
asked_below = between (codes "a1") (codes "p1") (id_of 3 2) (reserve (Some 0))

abbrev answered_below : Message
answered_below = between (codes "a1") (codes "p1") (id_of 3 2) (confirmed (id_of 0 1))

abbrev begun_above : List Entry
begun_above = now (Input.Got asks_a1) ∷ []

abbrev done_above : List Entry
done_above = now (Input.Got asks_a1) ∷ now (Input.Got answered_below) ∷ []

---- A provider

pub record IsRow : Type 0 where
  pub it_responds : (told provider begun).out ≡ responds ∷ []
  pub it_confirms : (told provider done).out ≡ responds ∷ confirms ∷ []
  pub above_it_asks : (told aggregator begun_above).out ≡ between (codes "r1") (codes "a1") (id_of 4 1) (Body.ReserveResponse (id_of 3 1)) ∷ asked_below ∷ []
  pub above_it_confirms : (told aggregator done_above).out
      ≡ between (codes "r1") (codes "a1") (id_of 4 1) (Body.ReserveResponse (id_of 3 1)) ∷ asked_below ∷ between (codes "r1") (codes "a1") (id_of 4 1) (confirmed (id_of 3 1)) ∷ []

pub row : IsRow
unfolding kind_number connection_of named_connection reservation_row provision_row lifecycle_row status joined announces is_heard with_heard is_old saw is_taken with_taken lack_at first_from first_lack_by places asks_child request_about reserve_for child_hears is_kind open_request moves requested provided is_provisioning is_terminating record_waits record_work tells_plane record_tells demand provision_event provisions lifecycle_event lives event_of is_live is_working record_worked record_reserves has_row is_in_place unnamed_refusal modification_refusal refusal lacking works receives provider_step provider_after next_after asked_view next_behind each request_if reserve_if passed_on views_of with_path part_of tells_first due_for is_held checked reservation_verdict reservation_due provision_verdict provision_due settles_reservation settles_provision closes_unless settles settle request_at answers pass_then hear_all hears aggregator_receives aggregator_step aggregator_after tell_joined pass_on takes turn_by_request request_turn is_timed_out is_ended hold_end_by force_by hold_ends force_ends heard_by turn_by_answer answer_turn spoken after_as goes_on
row = record { it_responds = refl; it_confirms = refl; above_it_asks = refl; above_it_confirms = refl }

-- the request is taken by the first entry
pub it_is_taken : HasTaken provider done asks_p1
unfolding kind_number connection_of named_connection reservation_row provision_row lifecycle_row status joined announces is_heard with_heard is_old saw is_taken with_taken lack_at first_from first_lack_by places asks_child request_about reserve_for child_hears is_kind open_request moves requested provided is_provisioning is_terminating record_waits record_work tells_plane record_tells demand provision_event provisions lifecycle_event lives event_of is_live is_working record_worked record_reserves has_row is_in_place unnamed_refusal modification_refusal refusal lacking works receives provider_step provider_after next_after asked_view next_behind each request_if reserve_if passed_on views_of with_path part_of tells_first due_for is_held checked reservation_verdict reservation_due provision_verdict provision_due settles_reservation settles_provision closes_unless settles settle request_at answers pass_then hear_all hears aggregator_receives aggregator_step aggregator_after tell_joined pass_on takes turn_by_request request_turn is_timed_out is_ended hold_end_by force_by hold_ends force_ends heard_by turn_by_answer answer_turn spoken after_as goes_on is_new
it_is_taken = record { earlier = []; entry = now (Input.Got asks_p1); later = now (Input.Work 0 Machine.Reserve) ∷ []; parts = refl; takes = record { got = refl; asks = refl; may = refl; new = refl } }

-- what is confirmed is answered
pub it_is_answered : IsAnswered asks_p1 (told provider done).out
unfolding is_answer
it_is_answered = subst (IsAnswered asks_p1) (sym row.it_confirms) (confirms, (1, omega arith, refl), record { header = refl; kind = refl })

-- what is only responded to isn't: a record works on it
alone : (x y : Message) → Contains (x ∷ []) y → x ≡ y
alone x y c = by c.0 (slice_get-get_or (x ∷ []) c.0 y c.1 ∙ ap (λ z. Some z) c.2) c.1
  where
    by : (n : ℕ) → slice_get (x ∷ []) n ≡ Some y → n < 1 → x ≡ y
    by zero e lt = same_Some x y e
    by (suc n) e lt = absurd (omega (arith, lt))

pub it_is_not_answered : IsAnswered asks_p1 (told provider begun).out → ⊥
unfolding is_answer
it_is_not_answered a =
    let b : IsAnswered asks_p1 (responds ∷ []) = subst (IsAnswered asks_p1) row.it_responds a in
    false≢true (ap (λ (z : Message). is_answer Kind.Reserve (kind_of z.body)) (alone responds b.0 b.1) ∙ b.2.kind)

pub it_is_worked_on : IsWorkedOn (codes "p1") (told provider begun).state.base.records asks_p1
unfolding kind_number connection_of named_connection reservation_row provision_row lifecycle_row status joined announces is_heard with_heard is_old saw is_taken with_taken lack_at first_from first_lack_by places asks_child request_about reserve_for child_hears is_kind open_request moves requested provided is_provisioning is_terminating record_waits record_work tells_plane record_tells demand provision_event provisions lifecycle_event lives event_of is_live is_working record_worked record_reserves has_row is_in_place unnamed_refusal modification_refusal refusal lacking works receives provider_step provider_after next_after asked_view next_behind each request_if reserve_if passed_on views_of with_path part_of tells_first due_for is_held checked reservation_verdict reservation_due provision_verdict provision_due settles_reservation settles_provision closes_unless settles settle request_at answers pass_then hear_all hears aggregator_receives aggregator_step aggregator_after tell_joined pass_on takes turn_by_request request_turn is_timed_out is_ended hold_end_by force_by hold_ends force_ends heard_by turn_by_answer answer_turn spoken after_as goes_on works_on
it_is_worked_on = record { place = 0; own = record_at 0 (told provider begun).state.base.records; there = refl; owner = refl; agent = refl; opens = refl }

---- An aggregator

pub it_waits : WaitsForChild (codes "a1") (told aggregator begun_above).state asks_a1
unfolding kind_number connection_of named_connection reservation_row provision_row lifecycle_row status joined announces is_heard with_heard is_old saw is_taken with_taken lack_at first_from first_lack_by places asks_child request_about reserve_for child_hears is_kind open_request moves requested provided is_provisioning is_terminating record_waits record_work tells_plane record_tells demand provision_event provisions lifecycle_event lives event_of is_live is_working record_worked record_reserves has_row is_in_place unnamed_refusal modification_refusal refusal lacking works receives provider_step provider_after next_after asked_view next_behind each request_if reserve_if passed_on views_of with_path part_of tells_first due_for is_held checked reservation_verdict reservation_due provision_verdict provision_due settles_reservation settles_provision closes_unless settles settle request_at answers pass_then hear_all hears aggregator_receives aggregator_step aggregator_after tell_joined pass_on takes turn_by_request request_turn is_timed_out is_ended hold_end_by force_by hold_ends force_ends heard_by turn_by_answer answer_turn spoken after_as goes_on works_on
it_waits =
    record {
      work = record { place = 0; own = record_at 0 (told aggregator begun_above).state.base.records; there = refl; owner = refl; agent = refl; opens = refl };
      child = get_or (children_at 0 (told aggregator begun_above).state.children) 0 (new_view [] [] []);
      below = (0, omega arith, refl);
      missing = refl;
    }
