-- The stories of two requesters, computed: what they ask, what they are answered, and what their views come to.
use Rattle.std.proofs.Common.{◌≡◌, ℕ, Bool, true, false, List, [], ◌∷◌, Option, Some, None, refl, map}
use Rattle.std.specs.Prelude.{codes}
use Rattle.nsi_primitive.specs.Ids.{id_of}
use Rattle.nsi_primitive.specs.Kinds.{kind_number}
use Rattle.nsi_primitive.specs.Messages.{identity}
use Rattle.nsi_primitive.specs.declared.ask.AskAnswer.{AskAnswer}
use Rattle.nsi_primitive.specs.declared.ask.What.{What}
use Rattle.nsi_primitive.specs.declared.entry.Entry.{Entry}
use Rattle.nsi_primitive.specs.declared.entry.Input.{Input}
use Rattle.nsi_primitive.specs.declared.kind.Directionality.{Directionality}
use Rattle.nsi_primitive.specs.declared.message.Body.{Body}
use Rattle.nsi_primitive.specs.declared.message.Message.{Message}
use Rattle.nsi_primitive.specs.declared.state.Lsm.{Lsm}
use Rattle.nsi_primitive.specs.declared.state.Psm.{Psm}
use Rattle.nsi_primitive.specs.declared.state.Rsm.{Rsm}
use Rattle.message_retry.specs.Taken.{is_taken, with_taken}
use Rattle.message_retry.specs.Retry.{is_old, saw, is_heard, with_heard, without}
use Rattle.child_connection.specs.declared.state.Phase.{Phase}
use Rattle.child_connection.specs.Views.{new_view, is_kind, open_request}
use Rattle.child_connection.specs.Asks.{asks, request_about, reserve_for}
use Rattle.child_connection.specs.Hearing.{hears}
use Rattle.agent_state.specs.declared.parent.View.{View}
use Rattle.agent_state.specs.State.{AgentState, blank_agent}
use Rattle.requester_agent.specs.Queries.{query_about}
use Rattle.requester_agent.specs.Setting.{Setting}
use Rattle.requester_agent.specs.Views.{asks_if_free, asks_if_known}
use Rattle.requester_agent.specs.Steps.{find_view, answers, asks_at, asks_new, asks_found, reserves, sends_query, asked_of, asked, hears_if, acked, ticks, step, after}

---- The requesters, and what they take

-- requester n of the provider p1
abbrev asker : List ℕ → ℕ → Setting
asker name n = record { name = name; number = n; provider = codes "p1" }

abbrev r1 : Setting
r1 = asker (codes "r1") 1

abbrev r2 : Setting
r2 = asker (codes "r2") 2

abbrev ask : ℕ → ℕ → List ℕ → What → Entry
ask second n label what = record { second = second; input = Input.Ask n (record { label = Some label; what = what }) }

abbrev between : What
between = What.Reserve (record { source = codes "A"; dest = codes "B"; capacity = 600; start = 100; end = 200; version = None; directionality = Directionality.Bidirectional })

abbrev tick : ℕ → Entry
tick second = record { second = second; input = Input.Tick }

-- a message under the n-th id of requester r1
abbrev m : ℕ → Body → Message
m n body = record { header = record { correlation = id_of 1 n; requester = codes "r1"; provider = codes "p1" }; body = body }

abbrev got : ℕ → ℕ → Body → Entry
got second n body = record { second = second; input = Input.Got (m n body) }

abbrev acknowledged : ℕ → ℕ → Body → Entry
acknowledged second n body = record { second = second; input = Input.Acked (identity (m n body)) }

-- the connection at p1
abbrev connection : ℕ
connection = id_of 0 1

abbrev reserve : Body
reserve =
    Body.Reserve (record {
      capacity = 600;
      connection = None;
      description = None;
      dest = Some (codes "B");
      directionality = None;
      end = 200;
      global = None;
      source = Some (codes "A");
      start = Some 100;
      symmetric = None;
      version = None;
    })

abbrev modification : Body
modification =
    Body.Reserve (record {
      capacity = 600;
      connection = Some connection;
      description = None;
      dest = None;
      directionality = None;
      end = 200;
      global = None;
      source = None;
      start = Some 100;
      symmetric = None;
      version = None;
    })

abbrev response : Body
response = Body.ReserveResponse connection

abbrev confirmed : ℕ → Body
confirmed version =
    Body.ReserveConfirmed (record {
      capacity = 600;
      connection = connection;
      description = None;
      dest = codes "B";
      directionality = Directionality.Bidirectional;
      end = 200;
      global = None;
      source = codes "A";
      start = 100;
      symmetric = None;
      version = version;
    })

-- the hold has ended
abbrev timed_out : Body
timed_out =
    Body.ReserveTimeout (record { connection = connection; notification = 1; originating_connection = connection; originating_nsa = codes "p1"; time = 0; value = 60 })

-- traffic flows
abbrev active : Body
active = Body.DataPlaneStateChange (record { active = true; connection = connection; notification = 1; time = 0; version = 0; consistent = true })

-- the connection alone, with nothing below it
abbrev nested : Body
nested =
    Body.QueryRecursiveConfirmed connection false (record {
      connection = connection;
      depth = 0;
      lifecycle = Lsm.Created;
      provider = codes "p1";
      provision = Psm.Released;
      reservation = Rsm.ReserveHeld;
      version = None;
    } ∷ [])

---- What it comes to

abbrev after_all : Setting → AgentState → List Entry → AgentState
after_all set s [] = s
after_all set s (e ∷ es) = after_all set (after set s e).state es

abbrev all : Setting → List Entry → AgentState
all set es = after_all set blank_agent es

-- the answer to an ask behind other entries, and what is sent
abbrev answer_after : Setting → List Entry → Entry → Option AskAnswer
answer_after set es e = (after set (all set es) e).answer

abbrev sent_after : Setting → List Entry → Entry → List Message
sent_after set es e = (after set (all set es) e).out

abbrev phases : AgentState → List Phase
phases s = map {B = Phase} (λ v. v.child.phase) s.views

abbrev connections : AgentState → List (Option ℕ)
connections s = map {B = Option ℕ} (λ v. v.child.connection) s.views

-- the first reserve of c1, which is confirmed
abbrev first : List Entry
first = tick 0 ∷ ask 0 0 (codes "c1") between ∷ []

abbrev held : List Entry
held = tick 0 ∷ ask 0 0 (codes "c1") between ∷ acknowledged 0 1 reserve ∷ got 0 1 response ∷ got 0 1 (confirmed 0) ∷ []

-- the view of a connection that holds version 0
abbrev held_view : View
held_view =
    record {
      label = codes "c1";
      child =
          record (new_view (codes "p1") (codes "A") (codes "B")) {
            connection = Some connection;
            phase = Phase.Held;
            attempt = Some (id_of 1 1);
            pending = Some 0;
          };
    }

abbrev held_state : AgentState
held_state =
    record blank_agent {
      base =
          record {
            records = [];
            seen = [];
            heard = identity (m 1 response) ∷ identity (m 1 (confirmed 0)) ∷ [];
            waiting = [];
            next = 2;
            now = 0;
            taken = 5;
          };
      views = held_view ∷ [];
    }

pub record AreStories : Type 0 where
  pub first_ask_is_sent : answer_after r1 (tick 0 ∷ []) (ask 0 0 (codes "c1") between) ≡ Some AskAnswer.Sent
  pub first_request : sent_after r1 (tick 0 ∷ []) (ask 0 0 (codes "c1") between) ≡ m 1 reserve ∷ []
  pub it_waits : (all r1 first).base.waiting ≡ m 1 reserve ∷ []
  pub its_view_is_reserving : phases (all r1 first) ≡ Phase.Reserving ∷ []
  pub it_is_held : all r1 held ≡ held_state
  pub confirmation_before_response : (all r1 (tick 0 ∷ ask 0 0 (codes "c1") between ∷ got 0 1 (confirmed 0) ∷ got 0 1 response ∷ [])).views ≡ held_view ∷ []
  pub confirmation_again : (all r1 (tick 0 ∷ ask 0 0 (codes "c1") between ∷ got 0 1 (confirmed 0) ∷ got 0 1 response ∷ got 0 1 (confirmed 0) ∷ [])).views ≡ held_view ∷ []
  pub another_draws_its_own : sent_after r2 (tick 0 ∷ []) (ask 0 0 (codes "c1") between) ≡
      record { header = record { correlation = id_of 2 1; requester = codes "r2"; provider = codes "p1" }; body = reserve } ∷ []

pub are_stories : AreStories
unfolding kind_number is_taken with_taken is_old saw is_heard with_heard without is_kind open_request asks request_about reserve_for hears asks_if_free asks_if_known find_view answers asks_at asks_new query_about asks_found reserves sends_query asked_of asked hears_if acked ticks step after
are_stories =
    record {
      first_ask_is_sent = refl;
      first_request = refl;
      it_waits = refl;
      its_view_is_reserving = refl;
      it_is_held = refl;
      confirmation_before_response = refl;
      confirmation_again = refl;
      another_draws_its_own = refl;
    }

---- Asks that are refused

-- the commit is asked in the same second, and again once the reserve is confirmed
abbrev commit : ℕ → ℕ → Entry
commit second n = ask second n (codes "c1") What.Commit

abbrev abort : ℕ → ℕ → Entry
abort second n = ask second n (codes "c1") What.Abort

abbrev refused : List Entry
refused = tick 0 ∷ ask 0 0 (codes "c1") between ∷ commit 0 1 ∷ got 0 1 response ∷ got 0 1 (confirmed 0) ∷ tick 1 ∷ []

abbrev committing : List Entry
committing = tick 0 ∷ ask 0 0 (codes "c1") between ∷ commit 0 1 ∷ got 0 1 response ∷ got 0 1 (confirmed 0) ∷ tick 1 ∷ commit 1 2 ∷ []

abbrev committed : List Entry
committed = tick 0 ∷ ask 0 0 (codes "c1") between ∷ commit 0 1 ∷ got 0 1 response ∷ got 0 1 (confirmed 0) ∷ tick 1 ∷ commit 1 2 ∷ got 1 2 (Body.ReserveCommitConfirmed connection) ∷ []

pub record AreRefused : Type 0 where
  pub unknown_label : answer_after r1 (tick 0 ∷ []) (commit 0 0) ≡ Some AskAnswer.NoId
  pub id_is_unknown : answer_after r1 first (commit 0 1) ≡ Some AskAnswer.NoId
  pub id_is_unknown_before_it_is_outstanding : answer_after r1 first (abort 0 1) ≡ Some AskAnswer.NoId
  pub reserve_is_outstanding : answer_after r1 first (ask 0 1 (codes "c1") between) ≡ Some (AskAnswer.Outstanding (id_of 1 1))
  pub refused_ask_sends_nothing : sent_after r1 first (commit 0 1) ≡ []
  pub commit_is_sent : sent_after r1 refused (commit 1 2) ≡ m 2 (Body.ReserveCommit connection) ∷ []
  pub commit_is_answered : answer_after r1 refused (commit 1 2) ≡ Some AskAnswer.Sent
  pub commit_is_outstanding : answer_after r1 committing (abort 1 3) ≡ Some (AskAnswer.Outstanding (id_of 1 2))
  pub other_machine_is_free : answer_after r1 committing (ask 1 3 (codes "c1") What.Provision) ≡ Some AskAnswer.Sent
  pub version_is_committed : map {B = List ℕ} (λ v. v.child.committed) (all r1 committed).views ≡ (0 ∷ []) ∷ []
  pub known_connection_is_modified : sent_after r1 committed (ask 1 3 (codes "c1") between) ≡ m 3 modification ∷ []
  pub another_label_has_a_view_of_its_own : connections (after r1 (all r1 committed) (ask 1 3 (codes "c2") between)).state ≡ Some connection ∷ None ∷ []
  pub labels_draw_from_one_count : sent_after r1 committed (ask 1 3 (codes "c2") between) ≡ m 3 reserve ∷ []

pub are_refused : AreRefused
unfolding kind_number is_taken with_taken is_old saw is_heard with_heard without is_kind open_request asks request_about reserve_for hears asks_if_free asks_if_known find_view answers asks_at asks_new query_about asks_found reserves sends_query asked_of asked hears_if acked ticks step after
are_refused =
    record {
      unknown_label = refl;
      id_is_unknown = refl;
      id_is_unknown_before_it_is_outstanding = refl;
      reserve_is_outstanding = refl;
      refused_ask_sends_nothing = refl;
      commit_is_sent = refl;
      commit_is_answered = refl;
      commit_is_outstanding = refl;
      other_machine_is_free = refl;
      version_is_committed = refl;
      known_connection_is_modified = refl;
      another_label_has_a_view_of_its_own = refl;
      labels_draw_from_one_count = refl;
    }

---- What else is taken

-- two labels are reserved
abbrev both : List Entry
both = tick 0 ∷ ask 0 0 (codes "c1") between ∷ ask 0 1 (codes "c2") between ∷ []

abbrev are_active : AgentState → List Bool
are_active s = map {B = Bool} (λ v. v.child.plane.active) s.views

pub record AreElse : Type 0 where
  pub request_is_counted : (all r1 (tick 0 ∷ got 0 1 reserve ∷ [])).base.seen ≡ (m 1 reserve).header ∷ []
  pub request_causes_nothing : sent_after r1 held (got 0 7 (Body.Terminate connection)) ≡ []
  pub request_is_heard_by_none : (all r1 (tick 0 ∷ ask 0 0 (codes "c1") between ∷ got 0 1 (confirmed 0) ∷ got 0 7 (Body.Terminate connection) ∷ [])).views ≡ held_view ∷ []
  pub forced_end_changes_no_view : (after r1 (all r1 held) (record { second = 0; input = Input.Force 0 })).state.views ≡ held_view ∷ []
  pub late_entry_changes_nothing : after_all r1 (all r1 held) (tick 9 ∷ got 8 1 response ∷ []) ≡ after_all r1 (all r1 held) (tick 9 ∷ [])
  pub confirmation_behind_the_end_of_its_hold : phases (after_all r1 (all r1 held) (got 0 1 timed_out ∷ got 0 1 (confirmed 0) ∷ [])) ≡ Phase.TimedOut ∷ []
  pub answer_is_heard_by_its_own_view : phases (after_all r1 (all r1 both) (got 0 2 (confirmed 0) ∷ [])) ≡ Phase.Reserving ∷ Phase.Held ∷ []
  pub notice_is_heard_by_the_view_of_its_connection : are_active (after_all r1 (all r1 both) (got 0 2 response ∷ got 0 40 active ∷ [])) ≡ false ∷ true ∷ []

pub are_else : AreElse
unfolding kind_number is_taken with_taken is_old saw is_heard with_heard without is_kind open_request asks request_about reserve_for hears asks_if_free asks_if_known find_view answers asks_at asks_new query_about asks_found reserves sends_query asked_of asked hears_if acked ticks step after
are_else =
    record {
      request_is_counted = refl;
      request_causes_nothing = refl;
      request_is_heard_by_none = refl;
      forced_end_changes_no_view = refl;
      late_entry_changes_nothing = refl;
      confirmation_behind_the_end_of_its_hold = refl;
      answer_is_heard_by_its_own_view = refl;
      notice_is_heard_by_the_view_of_its_connection = refl;
    }

---- Queries

-- an ask without a label
abbrev ask_all : What → Entry
ask_all what = record { second = 0; input = Input.Ask 1 (record { label = None; what = what }) }

abbrev query : What → Entry
query what = ask 0 1 (codes "c1") what

abbrev numbers : What
numbers = What.Results (Some (record { from = 2; to = 5 }))

pub record AreQueries : Type 0 where
  pub summary_names_the_connection : sent_after r1 held (query What.Summary) ≡ m 2 (Body.QuerySummary (Some connection)) ∷ []
  pub notifications_without_a_range : sent_after r1 held (query (What.Notifications None)) ≡ m 2 (Body.QueryNotification (record { connection = connection; end = None; start = None })) ∷ []
  pub results_of_a_range : sent_after r1 held (query numbers) ≡ m 2 (Body.QueryResult (record { connection = connection; end = Some 5; start = Some 2 })) ∷ []
  pub query_is_answered : answer_after r1 held (query What.Summary) ≡ Some AskAnswer.Sent
  pub query_waits : (after r1 (all r1 held) (query What.Summary)).state.base.waiting ≡ m 2 (Body.QuerySummary (Some connection)) ∷ []
  pub query_changes_no_view : (after r1 (all r1 held) (query What.Summary)).state.views ≡ held_view ∷ []
  pub query_draws_an_id : (after r1 (all r1 held) (query What.Summary)).state.base.next ≡ 3
  pub two_queries_are_sent : sent_after r1 (tick 0 ∷ ask_all What.Summary ∷ []) (ask_all What.Summary) ≡ m 2 (Body.QuerySummary None) ∷ []
  pub summary_of_all : sent_after r1 (tick 0 ∷ []) (ask_all What.Summary) ≡ m 1 (Body.QuerySummary None) ∷ []
  pub unknown_label : answer_after r1 held (ask 0 1 (codes "c2") What.Summary) ≡ Some AskAnswer.NoId
  pub id_is_unknown : answer_after r1 first (query (What.Notifications None)) ≡ Some AskAnswer.NoId
  pub refused_query_sends_nothing : sent_after r1 first (query (What.Notifications None)) ≡ []
  pub refused_query_draws_no_id : (after r1 (all r1 first) (query (What.Notifications None))).state.base.next ≡ 2
  pub only_a_summary_is_of_all : answer_after r1 held (ask_all numbers) ≡ Some AskAnswer.NoId
  pub all_that_is_below : sent_after r1 held (query What.Recursive) ≡ m 2 (Body.QueryRecursive connection) ∷ []
  pub its_rows_change_no_view : (after_all r1 (all r1 held) (query What.Recursive ∷ got 0 2 nested ∷ [])).views ≡ held_view ∷ []
  pub below_an_unknown_id : answer_after r1 first (query What.Recursive) ≡ Some AskAnswer.NoId
  pub below_an_unknown_label : answer_after r1 held (ask 0 1 (codes "c2") What.Recursive) ≡ Some AskAnswer.NoId

pub are_queries : AreQueries
unfolding kind_number is_taken with_taken is_old saw is_heard with_heard without is_kind open_request asks request_about reserve_for hears asks_if_free asks_if_known find_view answers asks_at asks_new query_about asks_found reserves sends_query asked_of asked hears_if acked ticks step after
are_queries =
    record {
      summary_names_the_connection = refl;
      notifications_without_a_range = refl;
      results_of_a_range = refl;
      query_is_answered = refl;
      query_waits = refl;
      query_changes_no_view = refl;
      query_draws_an_id = refl;
      two_queries_are_sent = refl;
      summary_of_all = refl;
      unknown_label = refl;
      id_is_unknown = refl;
      refused_query_sends_nothing = refl;
      refused_query_draws_no_id = refl;
      only_a_summary_is_of_all = refl;
      all_that_is_below = refl;
      its_rows_change_no_view = refl;
      below_an_unknown_id = refl;
      below_an_unknown_label = refl;
    }
