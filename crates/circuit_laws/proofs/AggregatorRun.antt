-- A circuit, computed: a requester reserves and commits a connection through an aggregator over two providers, over the legs of the least paths;
-- it is a run. And what is no circuit: the same where one provider didn't take its commit.
use Rattle.std.proofs.Common.{ℕ, zero, suc, ◌≡◌, ◌<◌, ◌∙◌, inl, inr, ◌&&◌, ◌==◌, Bool, true, List, [], ◌∷◌, ◌++◌, length, map, get_or, bytes_eq, Contains, Option, Some, None, slice_get, refl, sym, ap, subst, arith}
use Rattle.std.specs.Prelude.{codes}
use Rattle.std.proofs.lemmas.List.{get_or_default}
use Rattle.std.proofs.lemmas.List.Elements.{Contains-get_or}
use Rattle.std.proofs.lemmas.List.Quantifiers.{position-Some}
use Rattle.std.proofs.lemmas.Option.{get_or_from_slice_get, slice_get_within}
use Rattle.nsi_primitive.specs.Ids.{id_of}
use Rattle.nsi_primitive.specs.Kinds.{kind_number}
use Rattle.nsi_primitive.specs.Messages.{connection_of, named_connection}
use Rattle.nsi_primitive.specs.declared.ask.AskAnswer.{AskAnswer}
use Rattle.nsi_primitive.specs.declared.ask.What.{What}
use Rattle.nsi_primitive.specs.declared.entry.Event.{Event}
use Rattle.nsi_primitive.specs.declared.entry.Happening.{Happening}
use Rattle.nsi_primitive.specs.declared.entry.Input.{Input}
use Rattle.nsi_primitive.specs.declared.kind.Directionality.{Directionality}
use Rattle.nsi_primitive.specs.declared.message.Body.{Body}
use Rattle.nsi_primitive.specs.declared.message.Criteria.{Criteria}
use Rattle.nsi_primitive.specs.declared.message.Message.{Message}
use Rattle.nsi_primitive.specs.declared.state.Machine.{Machine}
use Rattle.reserve_machine.specs.Table.{step as reservation_row}
use Rattle.provision_machine.specs.Table.{step as provision_row}
use Rattle.lifecycle_machine.specs.Table.{step as lifecycle_row}
use Rattle.dataplane_state.specs.Plane.{status, joined, announces}
use Rattle.message_retry.specs.Retry.{is_heard, with_heard, is_old, saw}
use Rattle.message_retry.specs.Taken.{is_taken, with_taken}
use Rattle.capacity_calendar.specs.Lack.{lack_at, first_from, first_lack_by}
use Rattle.capacity_calendar.specs.Places.{places}
use Rattle.child_connection.specs.Asks.{asks as asks_child, request_about, reserve_for}
use Rattle.child_connection.specs.Hearing.{hears as child_hears}
use Rattle.child_connection.specs.Views.{is_kind, open_request, new_view, ChildConnection}
use Rattle.connection_record.specs.declared.record.Record.{Record}
use Rattle.connection_record.specs.Applied.{reservation_closing, provision_closing, closes, moves, requested, provided, is_terminating, waits as record_waits, work_of as record_work, tells_plane, tells as record_tells}
use Rattle.connection_record.specs.Demand.{demand}
use Rattle.connection_record.specs.Lives.{provision_event, provisions, lifecycle_event, lives}
use Rattle.connection_record.specs.Moves.{event_of, is_live, is_working, worked as record_worked, reserves as record_reserves}
use Rattle.connection_record.specs.Refusal.{has_row, is_in_place, unnamed_refusal, modification_refusal, refusal}
use Rattle.stp_topology.specs.Network.{agent_of}
use Rattle.agent_state.specs.declared.parent.Leg.{Leg}
use Rattle.agent_state.specs.State.{AgentState, no_record, record_at, children_at}
use Rattle.provider_agent.specs.Others.{lacking as lacks_among}
use Rattle.provider_agent.specs.Setting.{capacities_among}
use Rattle.provider_agent.specs.Steps.{works, receives as provider_receives, step as provider_step, after as provider_after}
use Rattle.requester_agent.specs.Steps.{find_view, answers as requester_answers, asks_at, asks_new, asks_found, reserves, asked_of, asked as requester_asked, hears_if, step as requester_step, after as requester_after}
use Rattle.requester_agent.specs.Views.{asks_if_free, asks_if_known}
use Rattle.aggregator_agent.specs.Asking.{next_after, asked_view, next_behind, each, request_if, may_abort, reserve_if, passed_on, views_of, with_path}
use Rattle.aggregator_agent.specs.Settling.{is_held, checked, reservation_verdict, reservation_due, provision_verdict, provision_due, settles_reservation, settles_provision, closes_unless, settles, settle}
use Rattle.aggregator_agent.specs.Turns.{tell_joined, pass_on, takes, turn_by_request, request_turn, is_timed_out, is_ended, hold_end_by, force_by, hold_ends, force_ends, heard_by, turn_by_answer, answer_turn, spoken}
use Rattle.aggregator_agent.specs.Below.{part_of}
use Rattle.aggregator_agent.specs.Clock.{due_for}
use Rattle.aggregator_agent.specs.Setting.{Setting, setting_of, agent_in}
use Rattle.aggregator_agent.specs.Steps.{request_at, answers, pass_then, hear_all, hears, receives, step, after}
use Rattle.nsi_agent.specs.Homes.{Role, aggregates, Routes, AreRoutes, home_in}
use Rattle.nsi_agent.specs.Steps.{after_as}
use Rattle.nsi_agent.specs.Told.{goes_on}
use Rattle.nsi_world.specs.Worlds.{Homes, IsAgent, World, empty, said}
use Rattle.nsi_world.specs.Runs.{world_after, happens, AreAllowed, Wish, IsRun, asks_of, numbered}
use Rattle.run_growth.specs.Cuts.{IsCutOf, state_of_cut, synced_state}
use Rattle.run_growth.specs.InStep.{versions_of}
use Rattle.circuit_pairs.specs.Minding.{view_in}
use Rattle.circuit_laws.specs.Backed.{leg_in, IsLeastWay, IsChildOf, IsBackedIn, HasView, EachViewIsBacked, LivesIn, IsBetweenIn, HasCriteriaIn, IsCircuit, EachCircuitStands}
use Rattle.least_routes.specs.Laws.{LeastPathOrNone}
use Rattle.circuit_laws.specs.Laws.{IsCircuitRun}
use Rattle.circuit_laws.proofs.Leading.{got_at}
use Rattle.circuit_laws.proofs.OneWay.{topology, legs, way_of, it_is_sound, it_is_well_formed, least_is_it, are_routes}

---- Messages

abbrev between : (requester provider : List ℕ) → ℕ → Body → Message
between requester provider c body = record { header = record { correlation = c; requester = requester; provider = provider }; body = body }

-- the requester's nth to the aggregator, and the aggregator's to a provider
abbrev to_joint : ℕ → Body → Message
to_joint n body = between (codes "lab") (codes "joint") (id_of 3 n) body

abbrev to_west : ℕ → Body → Message
to_west n body = between (codes "joint") (codes "west") (id_of 2 n) body

abbrev to_east : ℕ → Body → Message
to_east n body = between (codes "joint") (codes "east") (id_of 2 n) body

abbrev reserve : (source dest : List ℕ) → Option ℕ → Body
reserve source dest version =
    Body.Reserve (record {
      connection = None;
      source = Some source;
      dest = Some dest;
      start = Some 100;
      end = 200;
      capacity = 600;
      version = version;
      directionality = None;
      symmetric = None;
      global = None;
      description = None;
    })

abbrev confirmed : ℕ → (source dest : List ℕ) → Body
confirmed id source dest =
    Body.ReserveConfirmed (record {
      connection = id;
      source = source;
      dest = dest;
      start = 100;
      end = 200;
      capacity = 600;
      version = 0;
      directionality = Directionality.Bidirectional;
      symmetric = None;
      global = None;
      description = None;
    })

-- the first connection of each
abbrev of_west : ℕ
of_west = id_of 0 1

abbrev of_east : ℕ
of_east = id_of 1 1

abbrev of_joint : ℕ
of_joint = id_of 2 1

---- Events

abbrev took : ℕ → Input → Event
took a input = record { agent = a; what = Happening.Entry (record { second = 0; input = input }) None }

abbrev got : ℕ → Message → Event
got a m = took a (Input.Got m)

abbrev was_asked : ℕ → What → Event
was_asked number what =
    record { agent = 3; what = Happening.Entry (record { second = 0; input = Input.Ask number (record { label = Some (codes "c1"); what = what }) }) (Some AskAnswer.Sent) }

abbrev synced : ℕ → ℕ → Event
synced a count = record { agent = a; what = Happening.Sync count }

-- both providers hold it
abbrev asked_of_both : List Event
asked_of_both =
    was_asked 0 (What.Reserve (record { source = codes "w:lab"; dest = codes "e:store"; capacity = 600; start = 100; end = 200; version = None; directionality = Directionality.Bidirectional })) ∷ synced 3 1
    ∷ got 2 (to_joint 1 (reserve (codes "w:lab") (codes "e:store") None)) ∷ synced 2 1
    ∷ got 0 (to_west 2 (reserve (codes "w:lab") (codes "w:east") (Some 0))) ∷ took 0 (Input.Work 0 Machine.Reserve) ∷ synced 0 2
    ∷ got 1 (to_east 3 (reserve (codes "e:west") (codes "e:store") (Some 0))) ∷ took 1 (Input.Work 0 Machine.Reserve) ∷ synced 1 2 ∷ []

-- the aggregator and the requester hear of it, and the requester commits
abbrev heard_by_all : List Event
heard_by_all =
    got 2 (to_west 2 (Body.ReserveResponse of_west)) ∷ got 2 (to_west 2 (confirmed of_west (codes "w:lab") (codes "w:east")))
    ∷ got 2 (to_east 3 (Body.ReserveResponse of_east)) ∷ got 2 (to_east 3 (confirmed of_east (codes "e:west") (codes "e:store"))) ∷ synced 2 5
    ∷ got 3 (to_joint 1 (Body.ReserveResponse of_joint)) ∷ got 3 (to_joint 1 (confirmed of_joint (codes "w:lab") (codes "e:store")))
    ∷ was_asked 1 What.Commit ∷ synced 3 4 ∷ []

-- the first provider commits it
abbrev first_commits : List Event
first_commits =
    got 2 (to_joint 2 (Body.ReserveCommit of_joint)) ∷ synced 2 6
    ∷ got 0 (to_west 4 (Body.ReserveCommit of_west)) ∷ took 0 (Input.Work 0 Machine.Reserve) ∷ synced 0 4 ∷ []

abbrev first : List Event
first = asked_of_both ++ (heard_by_all ++ first_commits)

-- the second provider commits it too
abbrev commits : List Event
commits = got 1 (to_east 5 (Body.ReserveCommit of_east)) ∷ took 1 (Input.Work 0 Machine.Reserve) ∷ synced 1 4 ∷ []

-- the aggregator hears of both commits, and the requester of the aggregator's
abbrev last : List Event
last =
    got 2 (to_west 4 (Body.ReserveCommitConfirmed of_west)) ∷ got 2 (to_east 5 (Body.ReserveCommitConfirmed of_east)) ∷ synced 2 8
    ∷ got 3 (to_joint 2 (Body.ReserveCommitConfirmed of_joint)) ∷ synced 3 5 ∷ []

abbrev pub events : List Event
events = first ++ (commits ++ last)

abbrev wishes : List Wish
wishes =
    (3, record { label = Some (codes "c1"); what = What.Reserve (record { source = codes "w:lab"; dest = codes "e:store"; capacity = 600; start = 100; end = 200; version = None; directionality = Directionality.Bidirectional }) })
    ∷ (3, record { label = Some (codes "c1"); what = What.Commit }) ∷ []

asked_so : asks_of events ≡ numbered 0 wishes
unfolding asks_of numbered
asked_so = refl

abbrev whole : World
whole = world_after empty events

abbrev without : World
without = world_after empty (first ++ last)

---- Lists

-- so it stands at a place of a list whose length is known
there_at : {X : Type 0} (xs : List X) (k n : ℕ) (x : X) → length xs ≡ n → k < n → get_or xs k x ≡ x → Contains xs x
there_at xs k n x e l is = (k, omega (arith, e, l), is)

has_first : (v : ℕ) (vs : List ℕ) → vs ≡ v ∷ [] → Contains vs v
has_first v vs e = subst (λ (us : List ℕ). Contains us v) (sym e) (0, omega arith, refl)

-- of two items what holds of both holds of each
each_of_two : {X : Type 0} (P : X → Type 0) (xs : List X) (d : X) → length xs ≡ 2 → P (get_or xs 0 d) → P (get_or xs 1 d) → (x : X) → Contains xs x → P x
each_of_two P xs d two p q x (zero, l, e) = subst P (get_or_default xs 0 d x l ∙ e) p
each_of_two P xs d two p q x (suc zero, l, e) = subst P (get_or_default xs 1 d x l ∙ e) q
each_of_two P xs d two p q x (suc (suc i), l, e) = absurd (omega (arith, l, two))

both_have_it : (xs : List ChildConnection) (d : ChildConnection) → map (λ (x : ChildConnection). x.committed) xs ≡ (0 ∷ []) ∷ (0 ∷ []) ∷ [] → Contains (get_or xs 0 d).committed 0 × Contains (get_or xs 1 d).committed 0
both_have_it [] d e = absurd (cc)
both_have_it (x ∷ []) d e = absurd (cc)
both_have_it (x ∷ (y ∷ xs)) d e = (has_first 0 x.committed (cc), has_first 0 y.committed (cc))

has_none : (rs : List Record) → map versions_of rs ≡ [] ∷ [] → (n : ℕ) → versions_of (record_at n rs) ≡ []
has_none [] e n = absurd (cc)
has_none (r ∷ []) e zero = cc
has_none (r ∷ []) e (suc n) = refl
has_none (r ∷ (q ∷ rs)) e n = absurd (cc)

abbrev source_of : Record → List ℕ
source_of r = r.service.source

abbrev dest_of : Record → List ℕ
dest_of r = r.service.dest

-- the one record is between these points
abbrev AreBetween : List ℕ → List ℕ → List Record → Type 0
AreBetween source dest rs = (map source_of rs ≡ source ∷ []) × (map dest_of rs ≡ dest ∷ [])

abbrev AreEnds : ChildConnection → List ℕ → List ℕ → Type 0
AreEnds x source dest = (x.source ≡ source) × (x.dest ≡ dest)

abbrev no_leg : Leg
no_leg = record { child = []; source = []; dest = [] }

ends_of : (xs : List ChildConnection) (d : ChildConnection) → map leg_in xs ≡ legs → AreEnds (get_or xs 0 d) (codes "w:lab") (codes "w:east") × AreEnds (get_or xs 1 d) (codes "e:west") (codes "e:store")
ends_of [] d e = absurd (cc)
ends_of (x ∷ []) d e = absurd (cc)
ends_of (x ∷ (y ∷ xs)) d e = (
  (ap (λ (ls : List Leg). (get_or ls 0 no_leg).source) e, ap (λ (ls : List Leg). (get_or ls 0 no_leg).dest) e),
  (ap (λ (ls : List Leg). (get_or ls 1 no_leg).source) e, ap (λ (ls : List Leg). (get_or ls 1 no_leg).dest) e),
)

abbrev criteria_of : Record → List Criteria
criteria_of r = r.committed

-- what is asked of all
abbrev agreed : Criteria
agreed = record { version = 0; interval = record { start = 100; end = 200 }; capacity = 600 }

all_same : {X : Type 0} (f : Record → X) (rs : List Record) (p : X) → map f rs ≡ p ∷ [] → (n : ℕ) → n < length rs → f (record_at n rs) ≡ p
all_same f [] p e n l = absurd (cc)
all_same f (r ∷ []) p e zero l = cc
all_same f (r ∷ []) p e (suc n) l = absurd (omega (arith, l))
all_same f (r ∷ (q ∷ rs)) p e n l = absurd (cc)

abbrev lives_still : Record → Bool
lives_still r = is_live r.lsm

all_live : (rs : List Record) → map lives_still rs ≡ true ∷ [] → (n : ℕ) → is_live (record_at n rs).lsm ≡ true
unfolding is_live
all_live [] e n = absurd (cc)
all_live (r ∷ []) e zero = cc
all_live (r ∷ []) e (suc n) = refl
all_live (r ∷ (q ∷ rs)) e n = absurd (cc)

names_apart : codes "west" ≡ codes "east" → ⊥
names_apart e = let n : 119 ≡ 101 = ap (λ (s : List ℕ). get_or s 0 0) e in absurd (omega (arith, n))

-- two views of two children stand apart
two_apart : (xs : List ChildConnection) (d : ChildConnection) → length xs ≡ 2 → (get_or xs 0 d).child ≡ codes "west" → (get_or xs 1 d).child ≡ codes "east" → (i j : ℕ) (x y : ChildConnection) →
    slice_get xs i ≡ Some x → slice_get xs j ≡ Some y → x.child ≡ y.child → i ≡ j
two_apart xs d two w e zero zero x y f g same = refl
two_apart xs d two w e (suc zero) (suc zero) x y f g same = refl
two_apart xs d two w e zero (suc zero) x y f g same =
    absurd (names_apart (sym w ∙ (ap (λ (z : ChildConnection). z.child) (get_or_from_slice_get xs 0 x d f) ∙ (same ∙ (sym (ap (λ (z : ChildConnection). z.child) (get_or_from_slice_get xs 1 y d g)) ∙ e)))))
two_apart xs d two w e (suc zero) zero x y f g same =
    absurd (names_apart (sym w ∙ (ap (λ (z : ChildConnection). z.child) (get_or_from_slice_get xs 0 y d g) ∙ (sym same ∙ (sym (ap (λ (z : ChildConnection). z.child) (get_or_from_slice_get xs 1 x d f)) ∙ e)))))
two_apart xs d two w e (suc (suc i)) j x y f g same = absurd (omega (arith, slice_get_within xs (suc (suc i)) x f, two))
two_apart xs d two w e i (suc (suc j)) x y f g same = absurd (omega (arith, slice_get_within xs (suc (suc j)) y g, two))

allowed_append : (homes : Homes) (w : World) (es fs : List Event) → AreAllowed homes w es → AreAllowed homes (world_after w es) fs → AreAllowed homes w (es ++ fs)
unfolding AreAllowed world_after
allowed_append homes w [] fs p q = q
allowed_append homes w (e ∷ es) fs p q = (p.0, allowed_append homes (happens w e) es fs p.1 q)

module _ (given : Routes) (search : LeastPathOrNone) where
  abbrev homes : Homes
  homes = home_in topology (way_of given)

  abbrev its_setting : Setting
  its_setting = setting_of topology (agent_in topology 2) (way_of given 2)

  abbrev joint : World → AgentState
  joint w = state_of_cut homes w 2 8

  abbrev own : World → Record
  own w = record_at 0 (joint w).base.records

  abbrev views : World → List ChildConnection
  views w = children_at 0 (joint w).children

  abbrev view : World → ℕ → ChildConnection
  view w n = get_or (views w) n (new_view [] [] [])

  pub record IsRow : Type 0 where
    pub the_aggregator_is_an_agent : IsAgent homes 2
    pub it_aggregates : (homes 2).role ≡ aggregates its_setting
    pub it_has_committed : versions_of (own whole) ≡ 0 ∷ []
    pub it_has_two_views : length (views whole) ≡ 2
    pub of_these_legs : map leg_in (views whole) ≡ legs
    pub the_first_is_of : (view whole 0).child ≡ codes "west"
    pub the_second_is_of : (view whole 1).child ≡ codes "east"
    pub its_points : ((own whole).source ≡ 0) × ((own whole).dest ≡ 3)
    pub that_have_it_too : map (λ (x : ChildConnection). x.committed) (views whole) ≡ (0 ∷ []) ∷ (0 ∷ []) ∷ []
    pub of_the_first_provider : IsChildOf topology homes 2 (view whole 0).child 0
    pub which_has_it : IsBackedIn homes whole 2 0 (view whole 0) 0 (id_of 2 4)
    pub its_record_lives : map lives_still (synced_state homes whole 0).base.records ≡ true ∷ []
    pub which_is_between : AreBetween (codes "w:lab") (codes "w:east") (synced_state homes whole 0).base.records
    pub it_has_a_record : length (joint whole).base.records ≡ 1
    pub by_all_that_is_synced : IsCutOf whole 2 8

  pub row : IsRow
  unfolding kind_number connection_of named_connection reservation_row provision_row lifecycle_row status joined announces is_heard with_heard is_old saw is_taken with_taken lack_at first_from first_lack_by places asks_child request_about reserve_for child_hears is_kind open_request reservation_closing provision_closing closes moves requested provided is_terminating record_waits record_work tells_plane record_tells demand provision_event provisions lifecycle_event lives event_of is_live is_working record_worked record_reserves has_row is_in_place unnamed_refusal modification_refusal refusal lacks_among capacities_among works provider_receives provider_step provider_after find_view requester_answers asks_at asks_new asks_found reserves asked_of requester_asked hears_if requester_step requester_after asks_if_free asks_if_known next_after asked_view next_behind each request_if may_abort reserve_if passed_on views_of with_path is_held checked reservation_verdict reservation_due provision_verdict provision_due settles_reservation settles_provision closes_unless settles settle tell_joined pass_on takes turn_by_request request_turn is_timed_out is_ended hold_end_by force_by hold_ends force_ends heard_by turn_by_answer answer_turn spoken due_for request_at answers pass_then hear_all part_of hears receives step after home_in after_as goes_on world_after
  row =
      record {
        the_aggregator_is_an_agent = refl;
        it_aggregates = refl;
        it_has_committed = refl;
        it_has_two_views = refl;
        of_these_legs = refl;
        the_first_is_of = refl;
        the_second_is_of = refl;
        its_points = (refl, refl);
        that_have_it_too = refl;
        of_the_first_provider = record { agent = refl; named = refl; below = inr (0, omega arith, refl); other = λ e. cc; asked = refl };
        which_has_it = record {
          connection = of_west;
          known = refl;
          commit = (2, (refl, there_at (said homes whole 2) 4 7 (to_west 4 (Body.ReserveCommit of_west)) refl (omega arith) refl));
          id = of_west;
          confirmed = (0, (refl, there_at (said homes whole 0) 2 3 (to_west 4 (Body.ReserveCommitConfirmed of_west)) refl (omega arith) refl));
          place = 0;
          there = refl;
          stands = there_at (versions_of (record_at 0 (synced_state homes whole 0).base.records)) 0 1 0 refl (omega arith) refl;
        };
        its_record_lives = refl;
        which_is_between = (refl, refl);
        it_has_a_record = refl;
        by_all_that_is_synced = record { synced = let e : whole.synced 2 ≡ 8 = refl in omega (arith, e); within = let e : length (whole.journal 2) ≡ 8 = refl in omega (arith, e) };
      }

  pub record IsSecondRow : Type 0 where
    pub the_second_provider : IsChildOf topology homes 2 (view whole 1).child 1
    pub has_it_by_another_commit : IsBackedIn homes whole 2 1 (view whole 1) 0 (id_of 2 5)
    pub its_record_lives : map lives_still (synced_state homes whole 1).base.records ≡ true ∷ []
    pub which_is_between : AreBetween (codes "e:west") (codes "e:store") (synced_state homes whole 1).base.records

  pub second_row : IsSecondRow
  unfolding kind_number connection_of named_connection reservation_row provision_row lifecycle_row status joined announces is_heard with_heard is_old saw is_taken with_taken lack_at first_from first_lack_by places asks_child request_about reserve_for child_hears is_kind open_request reservation_closing provision_closing closes moves requested provided is_terminating record_waits record_work tells_plane record_tells demand provision_event provisions lifecycle_event lives event_of is_live is_working record_worked record_reserves has_row is_in_place unnamed_refusal modification_refusal refusal lacks_among capacities_among works provider_receives provider_step provider_after find_view requester_answers asks_at asks_new asks_found reserves asked_of requester_asked hears_if requester_step requester_after asks_if_free asks_if_known next_after asked_view next_behind each request_if may_abort reserve_if passed_on views_of with_path is_held checked reservation_verdict reservation_due provision_verdict provision_due settles_reservation settles_provision closes_unless settles settle tell_joined pass_on takes turn_by_request request_turn is_timed_out is_ended hold_end_by force_by hold_ends force_ends heard_by turn_by_answer answer_turn spoken due_for request_at answers pass_then hear_all part_of hears receives step after home_in after_as goes_on world_after
  second_row =
      record {
        the_second_provider = record { agent = refl; named = refl; below = inr (1, omega arith, refl); other = λ e. cc; asked = refl };
        has_it_by_another_commit = record {
          connection = of_east;
          known = refl;
          commit = (2, (refl, there_at (said homes whole 2) 5 7 (to_east 5 (Body.ReserveCommit of_east)) refl (omega arith) refl));
          id = of_east;
          confirmed = (1, (refl, there_at (said homes whole 1) 2 3 (to_east 5 (Body.ReserveCommitConfirmed of_east)) refl (omega arith) refl));
          place = 0;
          there = refl;
          stands = there_at (versions_of (record_at 0 (synced_state homes whole 1).base.records)) 0 1 0 refl (omega arith) refl;
        };
        its_record_lives = refl;
        which_is_between = (refl, refl);
      }

  -- the criteria of all three records
  pub record IsCriteriaRow : Type 0 where
    pub of_the_aggregator : (own whole).committed ≡ agreed ∷ []
    pub of_the_first : map criteria_of (synced_state homes whole 0).base.records ≡ (agreed ∷ []) ∷ []
    pub of_the_second : map criteria_of (synced_state homes whole 1).base.records ≡ (agreed ∷ []) ∷ []

  pub criteria_row : IsCriteriaRow
  unfolding kind_number connection_of named_connection reservation_row provision_row lifecycle_row status joined announces is_heard with_heard is_old saw is_taken with_taken lack_at first_from first_lack_by places asks_child request_about reserve_for child_hears is_kind open_request reservation_closing provision_closing closes moves requested provided is_terminating record_waits record_work tells_plane record_tells demand provision_event provisions lifecycle_event lives event_of is_live is_working record_worked record_reserves has_row is_in_place unnamed_refusal modification_refusal refusal lacks_among capacities_among works provider_receives provider_step provider_after find_view requester_answers asks_at asks_new asks_found reserves asked_of requester_asked hears_if requester_step requester_after asks_if_free asks_if_known next_after asked_view next_behind each request_if may_abort reserve_if passed_on views_of with_path is_held checked reservation_verdict reservation_due provision_verdict provision_due settles_reservation settles_provision closes_unless settles settle tell_joined pass_on takes turn_by_request request_turn is_timed_out is_ended hold_end_by force_by hold_ends force_ends heard_by turn_by_answer answer_turn spoken due_for request_at answers pass_then hear_all part_of hears receives step after home_in after_as goes_on world_after
  criteria_row = record { of_the_aggregator = refl; of_the_first = refl; of_the_second = refl }

  -- the requester's view of the aggregator
  abbrev lab_view : ChildConnection
  lab_view = view_in (codes "joint") (state_of_cut homes whole 3 5).views 0

  pub record IsUpperRow : Type 0 where
    pub the_requester_knows_its_provider : IsChildOf topology homes 3 lab_view.child 2
    pub and_has_it_committed : lab_view.committed ≡ 0 ∷ []
    pub as_the_aggregator_has : IsBackedIn homes whole 3 2 lab_view 0 (id_of 3 2)

  pub upper_row : IsUpperRow
  unfolding kind_number connection_of named_connection reservation_row provision_row lifecycle_row status joined announces is_heard with_heard is_old saw is_taken with_taken lack_at first_from first_lack_by places asks_child request_about reserve_for child_hears is_kind open_request reservation_closing provision_closing closes moves requested provided is_terminating record_waits record_work tells_plane record_tells demand provision_event provisions lifecycle_event lives event_of is_live is_working record_worked record_reserves has_row is_in_place unnamed_refusal modification_refusal refusal lacks_among capacities_among works provider_receives provider_step provider_after find_view requester_answers asks_at asks_new asks_found reserves asked_of requester_asked hears_if requester_step requester_after asks_if_free asks_if_known next_after asked_view next_behind each request_if may_abort reserve_if passed_on views_of with_path is_held checked reservation_verdict reservation_due provision_verdict provision_due settles_reservation settles_provision closes_unless settles settle tell_joined pass_on takes turn_by_request request_turn is_timed_out is_ended hold_end_by force_by hold_ends force_ends heard_by turn_by_answer answer_turn spoken due_for request_at answers pass_then hear_all part_of hears receives step after home_in after_as goes_on world_after
  upper_row =
      record {
        the_requester_knows_its_provider = record { agent = refl; named = refl; below = inl refl; other = λ e. cc; asked = refl };
        and_has_it_committed = refl;
        as_the_aggregator_has = record {
          connection = of_joint;
          known = refl;
          commit = (3, (refl, there_at (said homes whole 3) 1 2 (to_joint 2 (Body.ReserveCommit of_joint)) refl (omega arith) refl));
          id = of_joint;
          confirmed = (2, (refl, there_at (said homes whole 2) 6 7 (to_joint 2 (Body.ReserveCommitConfirmed of_joint)) refl (omega arith) refl));
          place = 0;
          there = refl;
          stands = there_at (versions_of (record_at 0 (synced_state homes whole 2).base.records)) 0 1 0 refl (omega arith) refl;
        };
      }

  pub record IsRowWithout : Type 0 where
    pub the_second_provider_has_none : map versions_of (synced_state homes without 1).base.records ≡ [] ∷ []
    pub the_aggregator_has_a_record : length (joint without).base.records ≡ 1
    pub that_has_it : versions_of (own without) ≡ 0 ∷ []
    pub with_two_views : length (views without) ≡ 2
    pub of_which_the_second : (view without 1).child ≡ codes "east"
    pub has_it_as_well : (view without 1).committed ≡ 0 ∷ []
    pub by_all_that_is_synced : IsCutOf without 2 8

  pub row_without : IsRowWithout
  unfolding kind_number connection_of named_connection reservation_row provision_row lifecycle_row status joined announces is_heard with_heard is_old saw is_taken with_taken lack_at first_from first_lack_by places asks_child request_about reserve_for child_hears is_kind open_request reservation_closing provision_closing closes moves requested provided is_terminating record_waits record_work tells_plane record_tells demand provision_event provisions lifecycle_event lives event_of is_live is_working record_worked record_reserves has_row is_in_place unnamed_refusal modification_refusal refusal lacks_among capacities_among works provider_receives provider_step provider_after find_view requester_answers asks_at asks_new asks_found reserves asked_of requester_asked hears_if requester_step requester_after asks_if_free asks_if_known next_after asked_view next_behind each request_if may_abort reserve_if passed_on views_of with_path is_held checked reservation_verdict reservation_due provision_verdict provision_due settles_reservation settles_provision closes_unless settles settle tell_joined pass_on takes turn_by_request request_turn is_timed_out is_ended hold_end_by force_by hold_ends force_ends heard_by turn_by_answer answer_turn spoken due_for request_at answers pass_then hear_all part_of hears receives step after home_in after_as goes_on world_after
  row_without =
      record {
        the_second_provider_has_none = refl;
        the_aggregator_has_a_record = refl;
        that_has_it = refl;
        with_two_views = refl;
        of_which_the_second = refl;
        has_it_as_well = refl;
        by_all_that_is_synced = record { synced = let e : without.synced 2 ≡ 8 = refl in omega (arith, e); within = let e : length (without.journal 2) ≡ 8 = refl in omega (arith, e) };
      }

  ---- A circuit

  abbrev StandsBelow : ChildConnection → Type 0
  StandsBelow x = Contains x.committed 0 × (b : ℕ) × (c : ℕ) × IsChildOf topology homes 2 x.child b × IsBackedIn homes whole 2 b x 0 c × LivesIn homes whole 2 b (own whole) x 0 × IsBetweenIn homes whole 2 b x 0 ×
      HasCriteriaIn homes whole 2 b (own whole) x 0

  lives_in : (b : ℕ) (x : ChildConnection) → map lives_still (synced_state homes whole b).base.records ≡ true ∷ [] → LivesIn homes whole 2 b (own whole) x 0
  lives_in b x e c backed live = all_live (synced_state homes whole b).base.records e backed.place

  between_in : (b : ℕ) (x : ChildConnection) (source dest : List ℕ) → AreEnds x source dest → AreBetween source dest (synced_state homes whole b).base.records → IsBetweenIn homes whole 2 b x 0
  between_in b x source dest ends are c backed =
      let rs : List Record = (synced_state homes whole b).base.records in
      let within = (position-Some (λ (r : Record). (backed.connection == r.id) && bytes_eq (homes 2).name r.owner) rs backed.place no_record backed.there).0 in
      record { source = all_same source_of rs source are.0 backed.place within ∙ sym ends.0; dest = all_same dest_of rs dest are.1 backed.place within ∙ sym ends.1 }

  criteria_in : (b c : ℕ) (x : ChildConnection) → IsBackedIn homes whole 2 b x 0 c → map criteria_of (synced_state homes whole b).base.records ≡ (agreed ∷ []) ∷ [] → HasCriteriaIn homes whole 2 b (own whole) x 0
  criteria_in b c x backed theirs k i of =
      let rs : List Record = (synced_state homes whole b).base.records in
      let within = (position-Some (λ (r : Record). (backed.connection == r.id) && bytes_eq (homes 2).name r.owner) rs backed.place no_record backed.there).0 in
      record {
        connection = backed.connection;
        known = backed.known;
        place = backed.place;
        there = backed.there;
        has = subst (λ (ks : List Criteria). Contains ks k) (criteria_row.of_the_aggregator ∙ sym (all_same criteria_of rs (agreed ∷ []) theirs backed.place within)) i;
      }

  this_way : (s d : ℕ) (ls : List Leg) → s ≡ 0 → d ≡ 3 → ls ≡ legs → IsLeastWay topology 2 s d ls
  this_way s d ls e f g = rw (e, f, g) (least_is_it search)

  pub the_connection_is_a_circuit : IsCircuit topology homes whole 2 (own whole) (views whole) 0
  the_connection_is_a_circuit =
      let has = both_have_it (views whole) (new_view [] [] []) row.that_have_it_too in
      let ends = ends_of (views whole) (new_view [] [] []) row.of_these_legs in
      record {
        some = λ e. absurd (let n = ap length e in omega (arith, n, row.it_has_two_views));
        way = this_way (own whole).source (own whole).dest (map leg_in (views whole)) row.its_points.0 row.its_points.1 row.of_these_legs;
        each = each_of_two StandsBelow (views whole) (new_view [] [] []) row.it_has_two_views
            (has.0, 0, id_of 2 4, row.of_the_first_provider, row.which_has_it, lives_in 0 (view whole 0) row.its_record_lives, between_in 0 (view whole 0) (codes "w:lab") (codes "w:east") ends.0 row.which_is_between, criteria_in 0 (id_of 2 4) (view whole 0) row.which_has_it criteria_row.of_the_first)
            (has.1, 1, id_of 2 5, second_row.the_second_provider, second_row.has_it_by_another_commit, lives_in 1 (view whole 1) second_row.its_record_lives, between_in 1 (view whole 1) (codes "e:west") (codes "e:store") ends.1 second_row.which_is_between, criteria_in 1 (id_of 2 5) (view whole 1) second_row.has_it_by_another_commit criteria_row.of_the_second);
        apart = λ i j b c d x y e f its other p q same. two_apart (views whole) (new_view [] [] []) row.it_has_two_views row.the_first_is_of row.the_second_is_of i j x y e f (its.named ∙ sym other.named);
      }

  ---- It is a run

  allowed_1 : AreAllowed homes empty asked_of_both
  unfolding kind_number connection_of named_connection reservation_row provision_row lifecycle_row status joined announces is_heard with_heard is_old saw is_taken with_taken lack_at first_from first_lack_by places asks_child request_about reserve_for child_hears is_kind open_request reservation_closing provision_closing closes moves requested provided is_terminating record_waits record_work tells_plane record_tells demand provision_event provisions lifecycle_event lives event_of is_live is_working record_worked record_reserves has_row is_in_place unnamed_refusal modification_refusal refusal lacks_among capacities_among works provider_receives provider_step provider_after find_view requester_answers asks_at asks_new asks_found reserves asked_of requester_asked hears_if requester_step requester_after asks_if_free asks_if_known next_after asked_view next_behind each request_if may_abort reserve_if passed_on views_of with_path is_held checked reservation_verdict reservation_due provision_verdict provision_due settles_reservation settles_provision closes_unless settles settle tell_joined pass_on takes turn_by_request request_turn is_timed_out is_ended hold_end_by force_by hold_ends force_ends heard_by turn_by_answer answer_turn spoken due_for request_at answers pass_then hear_all part_of hears receives step after home_in after_as goes_on world_after AreAllowed
  allowed_1 = (
    (refl, (omega arith, record { printable = record { label = λ h. refl; apart = refl }; in_time = refl; comes = refl; answered = refl })),
    (
      (refl, refl),
      (
        (refl, (omega arith, record { printable = record { description = tt; global = tt; apart = refl; complete = (refl, refl) }; in_time = refl; comes = ((3, (refl, (0, omega arith, refl))), refl); answered = refl })),
        (
          (refl, refl),
          (
            (refl, (omega arith, record { printable = record { description = tt; global = tt; apart = refl; complete = (refl, refl) }; in_time = refl; comes = ((2, (refl, (1, omega arith, refl))), refl); answered = refl })),
            (
              (refl, (omega arith, record { printable = tt; in_time = refl; comes = refl; answered = refl })),
              (
                (refl, refl),
                (
                  (refl, (omega arith, record { printable = record { description = tt; global = tt; apart = refl; complete = (refl, refl) }; in_time = refl; comes = ((2, (refl, (2, omega arith, refl))), refl); answered = refl })),
                  (
                    (refl, (omega arith, record { printable = tt; in_time = refl; comes = refl; answered = refl })),
                    (
                      (refl, refl),
                      tt,
                    ),
                  ),
                ),
              ),
            ),
          ),
        ),
      ),
    ),
  )

  allowed_2 : AreAllowed homes (world_after empty asked_of_both) heard_by_all
  unfolding kind_number connection_of named_connection reservation_row provision_row lifecycle_row status joined announces is_heard with_heard is_old saw is_taken with_taken lack_at first_from first_lack_by places asks_child request_about reserve_for child_hears is_kind open_request reservation_closing provision_closing closes moves requested provided is_terminating record_waits record_work tells_plane record_tells demand provision_event provisions lifecycle_event lives event_of is_live is_working record_worked record_reserves has_row is_in_place unnamed_refusal modification_refusal refusal lacks_among capacities_among works provider_receives provider_step provider_after find_view requester_answers asks_at asks_new asks_found reserves asked_of requester_asked hears_if requester_step requester_after asks_if_free asks_if_known next_after asked_view next_behind each request_if may_abort reserve_if passed_on views_of with_path is_held checked reservation_verdict reservation_due provision_verdict provision_due settles_reservation settles_provision closes_unless settles settle tell_joined pass_on takes turn_by_request request_turn is_timed_out is_ended hold_end_by force_by hold_ends force_ends heard_by turn_by_answer answer_turn spoken due_for request_at answers pass_then hear_all part_of hears receives step after home_in after_as goes_on world_after AreAllowed
  allowed_2 = (
    (refl, (omega arith, record { printable = tt; in_time = refl; comes = ((0, (refl, (0, omega arith, refl))), refl); answered = refl })),
    (
      (refl, (omega arith, record { printable = (tt, tt); in_time = refl; comes = ((0, (refl, (1, omega arith, refl))), refl); answered = refl })),
      (
        (refl, (omega arith, record { printable = tt; in_time = refl; comes = ((1, (refl, (0, omega arith, refl))), refl); answered = refl })),
        (
          (refl, (omega arith, record { printable = (tt, tt); in_time = refl; comes = ((1, (refl, (1, omega arith, refl))), refl); answered = refl })),
          (
            (refl, refl),
            (
              (refl, (omega arith, record { printable = tt; in_time = refl; comes = ((2, (refl, (0, omega arith, refl))), refl); answered = refl })),
              (
                (refl, (omega arith, record { printable = (tt, tt); in_time = refl; comes = ((2, (refl, (3, omega arith, refl))), refl); answered = refl })),
                (
                  (refl, (omega arith, record { printable = record { label = λ h. refl; apart = tt }; in_time = refl; comes = refl; answered = refl })),
                  (
                    (refl, refl),
                    tt,
                  ),
                ),
              ),
            ),
          ),
        ),
      ),
    ),
  )

  allowed_3 : AreAllowed homes (world_after (world_after empty asked_of_both) heard_by_all) first_commits
  unfolding kind_number connection_of named_connection reservation_row provision_row lifecycle_row status joined announces is_heard with_heard is_old saw is_taken with_taken lack_at first_from first_lack_by places asks_child request_about reserve_for child_hears is_kind open_request reservation_closing provision_closing closes moves requested provided is_terminating record_waits record_work tells_plane record_tells demand provision_event provisions lifecycle_event lives event_of is_live is_working record_worked record_reserves has_row is_in_place unnamed_refusal modification_refusal refusal lacks_among capacities_among works provider_receives provider_step provider_after find_view requester_answers asks_at asks_new asks_found reserves asked_of requester_asked hears_if requester_step requester_after asks_if_free asks_if_known next_after asked_view next_behind each request_if may_abort reserve_if passed_on views_of with_path is_held checked reservation_verdict reservation_due provision_verdict provision_due settles_reservation settles_provision closes_unless settles settle tell_joined pass_on takes turn_by_request request_turn is_timed_out is_ended hold_end_by force_by hold_ends force_ends heard_by turn_by_answer answer_turn spoken due_for request_at answers pass_then hear_all part_of hears receives step after home_in after_as goes_on world_after AreAllowed
  allowed_3 = (
    (refl, (omega arith, record { printable = tt; in_time = refl; comes = ((3, (refl, (1, omega arith, refl))), refl); answered = refl })),
    (
      (refl, refl),
      (
        (refl, (omega arith, record { printable = tt; in_time = refl; comes = ((2, (refl, (4, omega arith, refl))), refl); answered = refl })),
        (
          (refl, (omega arith, record { printable = tt; in_time = refl; comes = refl; answered = refl })),
          (
            (refl, refl),
            tt,
          ),
        ),
      ),
    ),
  )

  allowed_4 : AreAllowed homes (world_after empty first) commits
  unfolding kind_number connection_of named_connection reservation_row provision_row lifecycle_row status joined announces is_heard with_heard is_old saw is_taken with_taken lack_at first_from first_lack_by places asks_child request_about reserve_for child_hears is_kind open_request reservation_closing provision_closing closes moves requested provided is_terminating record_waits record_work tells_plane record_tells demand provision_event provisions lifecycle_event lives event_of is_live is_working record_worked record_reserves has_row is_in_place unnamed_refusal modification_refusal refusal lacks_among capacities_among works provider_receives provider_step provider_after find_view requester_answers asks_at asks_new asks_found reserves asked_of requester_asked hears_if requester_step requester_after asks_if_free asks_if_known next_after asked_view next_behind each request_if may_abort reserve_if passed_on views_of with_path is_held checked reservation_verdict reservation_due provision_verdict provision_due settles_reservation settles_provision closes_unless settles settle tell_joined pass_on takes turn_by_request request_turn is_timed_out is_ended hold_end_by force_by hold_ends force_ends heard_by turn_by_answer answer_turn spoken due_for request_at answers pass_then hear_all part_of hears receives step after home_in after_as goes_on world_after AreAllowed
  allowed_4 = (
    (refl, (omega arith, record { printable = tt; in_time = refl; comes = ((2, (refl, (5, omega arith, refl))), refl); answered = refl })),
    (
      (refl, (omega arith, record { printable = tt; in_time = refl; comes = refl; answered = refl })),
      (
        (refl, refl),
        tt,
      ),
    ),
  )

  allowed_5 : AreAllowed homes (world_after (world_after empty first) commits) last
  unfolding kind_number connection_of named_connection reservation_row provision_row lifecycle_row status joined announces is_heard with_heard is_old saw is_taken with_taken lack_at first_from first_lack_by places asks_child request_about reserve_for child_hears is_kind open_request reservation_closing provision_closing closes moves requested provided is_terminating record_waits record_work tells_plane record_tells demand provision_event provisions lifecycle_event lives event_of is_live is_working record_worked record_reserves has_row is_in_place unnamed_refusal modification_refusal refusal lacks_among capacities_among works provider_receives provider_step provider_after find_view requester_answers asks_at asks_new asks_found reserves asked_of requester_asked hears_if requester_step requester_after asks_if_free asks_if_known next_after asked_view next_behind each request_if may_abort reserve_if passed_on views_of with_path is_held checked reservation_verdict reservation_due provision_verdict provision_due settles_reservation settles_provision closes_unless settles settle tell_joined pass_on takes turn_by_request request_turn is_timed_out is_ended hold_end_by force_by hold_ends force_ends heard_by turn_by_answer answer_turn spoken due_for request_at answers pass_then hear_all part_of hears receives step after home_in after_as goes_on world_after AreAllowed
  allowed_5 = (
    (refl, (omega arith, record { printable = tt; in_time = refl; comes = ((0, (refl, (2, omega arith, refl))), refl); answered = refl })),
    (
      (refl, (omega arith, record { printable = tt; in_time = refl; comes = ((1, (refl, (2, omega arith, refl))), refl); answered = refl })),
      (
        (refl, refl),
        (
          (refl, (omega arith, record { printable = tt; in_time = refl; comes = ((2, (refl, (6, omega arith, refl))), refl); answered = refl })),
          (
            (refl, refl),
            tt,
          ),
        ),
      ),
    ),
  )

  all_allowed : AreAllowed homes empty events
  all_allowed =
      allowed_append homes empty first (commits ++ last)
      (allowed_append homes empty asked_of_both (heard_by_all ++ first_commits) allowed_1 (allowed_append homes (world_after empty asked_of_both) heard_by_all first_commits allowed_2 allowed_3))
      (allowed_append homes (world_after empty first) commits last allowed_4 allowed_5)

  pub the_run : IsRun homes events
  the_run = record { allowed = all_allowed; wishes = wishes; asked = asked_so }

  pub it_reaches_a_circuit : AreRoutes topology given → IsCircuitRun topology (way_of given) events
  it_reaches_a_circuit are =
      record {
        sound = it_is_sound;
        formed = it_is_well_formed;
        routed = are_routes given are;
        run = the_run;
        agent = 2;
        cut = 8;
        place = 0;
        version = 0;
        setting = its_setting;
        own = own whole;
        is_agent = row.the_aggregator_is_an_agent;
        role = row.it_aggregates;
        is_cut = row.by_all_that_is_synced;
        there = got_at (joint whole).base.records 0 no_record (own whole) (omega (arith, row.it_has_a_record)) refl;
        committed = has_first 0 (versions_of (own whole)) row.it_has_committed;
        two = row.it_has_two_views;
        circuit = the_connection_is_a_circuit;
      }

  ---- And none

  named_once : (b : ℕ) → IsChildOf topology homes 2 (codes "east") b → b ≡ 1
  unfolding home_in
  named_once b child =
      let e : agent_of topology (codes "east") ≡ Some b = ap (agent_of topology) child.named ∙ child.agent in
      let f : agent_of topology (codes "east") ≡ Some 1 = refl in
      let g : Some b ≡ Some 1 = sym e ∙ f in
      cc

  unbacked : (b c : ℕ) (x : ChildConnection) → IsChildOf topology homes 2 (codes "east") b → IsBackedIn homes without 2 b x 0 c → ⊥
  unbacked b c x child backed =
      let at_east : Contains (versions_of (record_at backed.place (synced_state homes without 1).base.records)) 0 =
      subst (λ (z : ℕ). Contains (versions_of (record_at backed.place (synced_state homes without z).base.records)) 0) (named_once b child) backed.stands
      in
      let (i, l, e) = subst (λ (vs : List ℕ). Contains vs 0) (has_none (synced_state homes without 1).base.records row_without.the_second_provider_has_none backed.place) at_east in
      absurd (omega (arith, l))

  second_there : Contains (views without) (view without 1)
  second_there = Contains-get_or (views without) 1 (new_view [] [] []) (omega (arith, row_without.with_two_views))

  pub the_view_is_not_backed : EachViewIsBacked topology homes without → ⊥
  the_view_is_not_backed h =
      let (b, child, all) = h 2 8 (view without 1) row.the_aggregator_is_an_agent row_without.by_all_that_is_synced (subst (λ (r : Role). HasView r (joint without) (view without 1)) (sym row.it_aggregates) (0, second_there)) in
      let version : get_or (view without 1).committed 0 0 ≡ 0 = ap (λ (vs : List ℕ). get_or vs 0 0) row_without.has_it_as_well in
      let first : IsBackedIn homes without 2 b (view without 1) (get_or (view without 1).committed 0 0) (get_or all.own 0 0) =
      all.each 0 (let n = ap length row_without.has_it_as_well in omega (arith, n, all.long))
      in
      unbacked b (get_or all.own 0 0) (view without 1) (subst (λ (n : List ℕ). IsChildOf topology homes 2 n b) row_without.of_which_the_second child)
      (subst (λ (v : ℕ). IsBackedIn homes without 2 b (view without 1) v (get_or all.own 0 0)) version first)

  pub the_connection_is_no_circuit : EachCircuitStands topology homes without → ⊥
  the_connection_is_no_circuit h =
      let c : IsCircuit topology homes without 2 (own without) (views without) 0 =
      h 2 8 0 0 its_setting (own without) row.the_aggregator_is_an_agent row.it_aggregates row_without.by_all_that_is_synced
      (got_at (joint without).base.records 0 no_record (own without) (omega (arith, row_without.the_aggregator_has_a_record)) refl) (has_first 0 (versions_of (own without)) row_without.that_has_it)
      in
      let (has, b, n, child, backed, lives, between, criteria) = c.each (view without 1) second_there in
      unbacked b n (view without 1) (subst (λ (z : List ℕ). IsChildOf topology homes 2 z b) row_without.of_which_the_second child) backed
