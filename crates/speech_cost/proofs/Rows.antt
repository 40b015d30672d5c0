-- Changes of the data plane at an aggregator of one child, computed.
use Rattle.std.proofs.Common.{◌≡◌, ℕ, Bool, true, false, List, [], ◌∷◌, ◌++◌, map, sum_by, Option, Some, None, refl, if◌then◌else◌}
use Rattle.std.specs.Prelude.{bytes_eq, codes}
use Rattle.nsi_primitive.specs.Ids.{id_of}
use Rattle.nsi_primitive.specs.Kinds.{kind_number}
use Rattle.nsi_primitive.specs.Messages.{connection_of}
use Rattle.nsi_primitive.specs.declared.entry.Entry.{Entry}
use Rattle.nsi_primitive.specs.declared.entry.Input.{Input}
use Rattle.nsi_primitive.specs.declared.kind.Directionality.{Directionality}
use Rattle.nsi_primitive.specs.declared.message.Body.{Body}
use Rattle.nsi_primitive.specs.declared.message.Message.{Message}
use Rattle.reserve_machine.specs.Table.{step as row_of}
use Rattle.provision_machine.specs.Table.{step as provision_row_of}
use Rattle.lifecycle_machine.specs.Table.{step as lifecycle_row_of}
use Rattle.dataplane_state.specs.Plane.{announces, joined}
use Rattle.message_retry.specs.Retry.{is_heard, with_heard, is_old, saw}
use Rattle.message_retry.specs.Taken.{is_taken, with_taken}
use Rattle.connection_record.specs.Applied.{moves, requested, is_terminating, tells_plane}
use Rattle.connection_record.specs.Lives.{provision_event, lifecycle_event, provisions, lives}
use Rattle.connection_record.specs.Moves.{event_of, reserves, is_live}
use Rattle.connection_record.specs.Refusal.{has_row, is_in_place, unnamed_refusal, modification_refusal, refusal}
use Rattle.connection_record.specs.Speaking.{tally}
use Rattle.child_connection.specs.Asks.{asks, reserve_for}
use Rattle.child_connection.specs.Hearing.{hears as child_hears}
use Rattle.child_connection.specs.Views.{ChildConnection, is_kind, open_request}
use Rattle.agent_state.specs.declared.parent.Leg.{Leg}
use Rattle.agent_state.specs.State.{children_at}
use Rattle.aggregator_agent.specs.Asking.{next_after, asked_view, next_behind, each, request_if, reserve_if, passed_on, views_of, with_path}
use Rattle.aggregator_agent.specs.Below.{part_of}
use Rattle.aggregator_agent.specs.Clock.{due_for}
use Rattle.aggregator_agent.specs.Setting.{Setting}
use Rattle.aggregator_agent.specs.Settling.{is_held, checked, reservation_verdict, reservation_due, provision_verdict, provision_due, settles_reservation, settles_provision, settles, settle}
use Rattle.aggregator_agent.specs.Steps.{request_at, answers, pass_then, hear_all, hears, receives, step, after}
use Rattle.aggregator_agent.specs.Turns.{tell_joined, pass_on, takes, turn_by_request, request_turn, is_timed_out, is_ended, hold_end_by, force_by, hold_ends, force_ends, heard_by, turn_by_answer, answer_turn, spoken}
use Rattle.nsi_agent.specs.Homes.{Home, aggregates}
use Rattle.nsi_agent.specs.Steps.{after_as}
use Rattle.nsi_agent.specs.Told.{goes_on, told}
use Rattle.speech_cost.specs.Changes.{says_change, is_of_change, hears_change, hearers_from, all_hearers}

---- The aggregator and its child

abbrev stp_of : List ℕ → Option ℕ
stp_of name = if bytes_eq name (codes "A") then Some 0 else if bytes_eq name (codes "B") then Some 1 else None

abbrev leg : Leg
leg = record { child = codes "p1"; source = codes "A"; dest = codes "B" }

abbrev setting : Setting
setting = record { agent = record { name = codes "a1"; number = 3 }; stp_of = stp_of; route = λ source dest. leg ∷ [] }

abbrev home : Home
home = record { number = 3; name = codes "a1"; agent_of = λ name. None; role = aggregates setting }

abbrev got : Message → Entry
got m = record { second = 0; input = Input.Got m }

-- of the child, under its n-th id
abbrev told_by : ℕ → Body → Message
told_by n body = record { header = record { correlation = id_of 0 n; requester = codes "a1"; provider = codes "p1" }; body = body }

abbrev answered : Body → Message
answered body = record { header = record { correlation = id_of 3 2; requester = codes "a1"; provider = codes "p1" }; body = body }

abbrev reserve : Message
reserve =
    record {
      header = record { correlation = id_of 4 1; requester = codes "r1"; provider = codes "a1" };
      body =
          Body.Reserve (record {
            capacity = 100;
            connection = None;
            description = None;
            dest = Some (codes "B");
            directionality = None;
            end = 20;
            global = None;
            source = Some (codes "A");
            start = Some 10;
            symmetric = None;
            version = None;
          });
    }

abbrev confirmed : ℕ → Body
confirmed id =
    Body.ReserveConfirmed (record {
      capacity = 100;
      connection = id;
      description = None;
      dest = codes "B";
      directionality = Directionality.Bidirectional;
      end = 20;
      global = None;
      source = codes "A";
      start = 10;
      symmetric = None;
      version = 0;
    })

abbrev plane : (id notification : ℕ) → Bool → Body
plane id notification active = Body.DataPlaneStateChange (record { active = active; connection = id; notification = notification; time = 0; version = 0; consistent = true })

---- Runs: the child's connection is its first, and another one its second

abbrev learnt : List Entry
learnt = got reserve ∷ got (answered (Body.ReserveResponse (id_of 0 1))) ∷ []

abbrev up : Entry
up = got (told_by 3 (plane (id_of 0 1) 1 true))

abbrev another : Entry
another = got (told_by 3 (plane (id_of 0 2) 1 true))

abbrev changed : List Entry
changed = learnt ++ up ∷ []

-- a confirmation names another connection than the response did
abbrev renamed : List Entry
renamed = changed ++ got (answered (confirmed (id_of 0 2))) ∷ []

abbrev views : List Entry → List ChildConnection
views es = children_at 0 (told home es).state.children

-- how many of the entries are of a change that names the connection which a view knows at the end
abbrev brings : ChildConnection → Input → Bool
brings x (Input.Got m) = hears_change m x
brings x input = false

abbrev at_last : List Entry → ℕ
at_last es = sum_by (λ x. tally (λ (e : Entry). brings x e.input) es) (views es)

pub record AreHeard : Type 0 where
  a_change_is_told : tally says_change (told home changed).out ≡ 1
  and_has_a_hearer : all_hearers home changed ≡ 1
  which_heard_it : tally is_of_change (told home changed).state.base.heard ≡ 1
  so_it_is_known_at_the_end : at_last changed ≡ 1
  when_it_comes_again_nobody_hears : all_hearers home (changed ++ up ∷ []) ≡ 1
  of_another_connection_nobody_hears : all_hearers home (learnt ++ another ∷ []) ≡ 0
  and_none_is_told : tally says_change (told home (learnt ++ another ∷ [])).out ≡ 0
  a_view_may_learn_anew : map (λ (x : ChildConnection). x.connection) (views renamed) ≡ Some (id_of 0 2) ∷ []
  what_was_told_stays : tally says_change (told home renamed).out ≡ 1
  and_so_does_its_hearer : all_hearers home renamed ≡ 1
  which_no_view_shows_at_the_end : at_last renamed ≡ 0

pub are_heard : AreHeard
unfolding kind_number connection_of row_of provision_row_of lifecycle_row_of announces joined is_heard with_heard is_old saw is_taken with_taken moves requested is_terminating tells_plane provision_event lifecycle_event provisions lives event_of reserves is_live has_row is_in_place unnamed_refusal modification_refusal refusal tally asks reserve_for child_hears is_kind open_request next_after asked_view next_behind each request_if reserve_if passed_on views_of with_path part_of due_for is_held checked reservation_verdict reservation_due provision_verdict provision_due settles_reservation settles_provision settles settle request_at answers pass_then hear_all hears receives step after tell_joined pass_on takes turn_by_request request_turn is_timed_out is_ended hold_end_by force_by hold_ends force_ends heard_by turn_by_answer answer_turn spoken after_as goes_on hearers_from
are_heard =
    record {
      a_change_is_told = refl;
      and_has_a_hearer = refl;
      which_heard_it = refl;
      so_it_is_known_at_the_end = refl;
      when_it_comes_again_nobody_hears = refl;
      of_another_connection_nobody_hears = refl;
      and_none_is_told = refl;
      a_view_may_learn_anew = refl;
      what_was_told_stays = refl;
      and_so_does_its_hearer = refl;
      which_no_view_shows_at_the_end = refl;
    }
