-- A turn of an aggregator's connection tells a change of the data plane where one of its views hears of one.
use Rattle.std.proofs.Common.{ℕ, ◌+◌, ◌≤◌, ◌≡◌, Bool, true, false, ◌||◌, List, [], ◌∷◌, ◌++◌, Some, None, zero, suc, refl, ap, arith, map, ◌∙◌}
use Rattle.nsi_primitive.specs.Ids.{id_of}
use Rattle.nsi_primitive.specs.Messages.{kind_of}
use Rattle.nsi_primitive.specs.declared.kind.Kind.{Kind}
use Rattle.nsi_primitive.specs.declared.message.Body.{Body}
use Rattle.nsi_primitive.specs.declared.message.Message.{Message}
use Rattle.nsi_primitive.specs.declared.plane.Plane.{Plane}
use Rattle.dataplane_state.specs.Plane.{announces}
use Rattle.connection_record.specs.declared.record.Record.{Record}
use Rattle.connection_record.specs.declared.moves.Reply.{Reply}
use Rattle.connection_record.specs.Applied.{is_terminating, tells_plane}
use Rattle.connection_record.specs.Replies.{Moved, addressed}
use Rattle.connection_record.specs.Speaking.{one, tally, is_asking}
use Rattle.connection_record.proofs.Saying.{tally_append}
use Rattle.child_connection.specs.Views.{ChildConnection}
use Rattle.child_connection.specs.Hearing.{hear}
use Rattle.aggregator_agent.specs.declared.agent.Agent.{Agent}
use Rattle.aggregator_agent.specs.Asking.{Turn, begin, passed_on, pass_one}
use Rattle.aggregator_agent.specs.Settling.{settle}
use Rattle.aggregator_agent.specs.Turns.{plane_of, joined_of, tell_joined, pass_on, takes, turn_by_request, request_turn, late_terminate, hear_one, hold_ends, force_ends, heard_by, turn_by_answer, answer_turn, spoken}
use Rattle.agent_speech.proofs.Counting.{tally_less}
use Rattle.agent_speech.proofs.Asking.{Any, Unless, is_strange}
use Rattle.agent_speech.proofs.Turning.{IsTurning, request_turning, answer_turning}
use Rattle.speech_cost.specs.Costs.{is_late_notice}
use Rattle.speech_cost.specs.Changes.{is_change, says_change, hears_change}
use Rattle.speech_cost.proofs.Planes.{asked_plane, hear_plane, each_plane, unannounced}
use Rattle.speech_cost.proofs.Silent.{of_below, IsSilentTurn, request_silent, answer_silent, says_below}

abbrev pub change_reply : Reply → Bool
change_reply x = is_change x.body

---- What is said

change_below : (b : Body) → one (is_change b) ≤ one (is_change b || is_late_notice b)
change_below b = grind arith

pub changes_within : (out : List Reply) → tally change_reply out ≤ tally of_below out
changes_within out = tally_less change_reply of_below (λ x. change_below x.body) out

pub change_messages : (ms : List Message) → tally says_change ms ≤ tally says_below ms
change_messages ms = tally_less says_change says_below (λ m. change_below m.body) ms

pub addressed_changes : (name owner : List ℕ) (out : List Reply) → tally says_change (addressed name owner out) ≡ tally change_reply out
unfolding tally
addressed_changes name owner [] = refl
addressed_changes name owner (x ∷ xs) = omega (arith, addressed_changes name owner xs)

asked_change : (name : List ℕ) (m : Message) → one (says_change m) ≤ one (is_strange name m)
unfolding is_asking
asked_change name m = grind arith

-- a request tells none
asked_changes : (name : List ℕ) (ms : List Message) → tally says_change ms ≤ tally (is_strange name) ms
asked_changes name ms = tally_less says_change (is_strange name) (asked_change name) ms

spoken_changes : (agent : Agent) (t : Turn) → tally (is_strange agent.name) t.asked ≡ 0 → tally says_change (spoken agent t) ≤ tally change_reply t.replies + tally change_reply t.notices
unfolding spoken
spoken_changes agent t s =
    let ms : List Message = addressed agent.name t.own.owner t.replies in
    let notes : List Message = addressed agent.name t.own.owner t.notices in
    omega (
      arith,
      tally_append says_change ms (t.asked ++ notes),
      tally_append says_change t.asked notes,
      addressed_changes agent.name t.own.owner t.replies,
      addressed_changes agent.name t.own.owner t.notices,
      asked_changes agent.name t.asked,
      s,
    )

plane_changes : (told : Bool) (p : Plane) (c now : ℕ) (r : Record) → tally change_reply (tells_plane told p c now r).out ≡ one told
unfolding tells_plane tally
plane_changes true p c now r = refl
plane_changes false p c now r = refl

-- behind a turn that tells none, the change that it made is told
tell_changes : (before : Plane) (agent : Agent) (now : ℕ) (t : Turn) → IsSilentTurn t →
    let u : Turn = tell_joined before agent now t in tally change_reply u.replies + tally change_reply u.notices ≤ one (announces before (joined_of t.children))
unfolding tell_joined
tell_changes before agent now t h =
    let told : Bool = announces before (joined_of t.children) in
    let x : Moved = tells_plane told (joined_of t.children) (id_of agent.number t.next) now t.own in
    omega (
      arith,
      h,
      changes_within t.replies,
      changes_within t.notices,
      tally_append change_reply t.notices x.out,
      plane_changes told (joined_of t.children) (id_of agent.number t.next) now t.own,
    )

---- A request

none_pass : (xs : List ChildConnection) → tally (λ (x : ChildConnection). false) xs ≡ 0
unfolding tally
none_pass [] = refl
none_pass (x ∷ xs) = omega (arith, none_pass xs)

request_planes : (agent : Agent) (now : ℕ) (m : Message) (own : Record) (xs : List ChildConnection) (next : ℕ) →
    map plane_of (turn_by_request agent now m (begin own xs next)).children ≡ map plane_of xs
unfolding turn_by_request settle pass_on
request_planes agent now m own xs next =
    let r : Record = (takes m now own).rec in
    each_plane (λ x. false) (λ n x. pass_one m agent r n x) (λ n x e. asked_plane (passed_on m.body r x) (kind_of m.body) (id_of agent.number n) x) next xs (none_pass xs)

request_turned : (agent : Agent) (now : ℕ) (m : Message) (own : Record) (xs : List ChildConnection) (next : ℕ) →
    let t : Turn = request_turn agent now m own xs next in tally change_reply t.replies + tally change_reply t.notices ≤ 0
unfolding request_turn
request_turned agent now m own xs next =
    let t : Turn = turn_by_request agent now m (begin own xs next) in
    omega (arith, tell_changes (joined_of xs) agent now t (request_silent agent now m own xs next), ap one (unannounced xs t.children (request_planes agent now m own xs next)))

pub request_tells_none : (agent : Agent) (now : ℕ) (m : Message) (own : Record) (xs : List ChildConnection) (next : ℕ) → tally says_change (spoken agent (request_turn agent now m own xs next)) ≡ 0
request_tells_none agent now m own xs next =
    let t : Turn = request_turn agent now m own xs next in
    let u : IsTurning Any agent (Some m.header.correlation) own xs next t = request_turning agent now m own xs next in
    omega (arith, spoken_changes agent t u.strange, request_turned agent now m own xs next)

---- A message of a child

answer_planes : (agent : Agent) (now : ℕ) (m : Message) (own : Record) (xs : List ChildConnection) (next : ℕ) → tally (hears_change m) xs ≡ 0 →
    map plane_of (turn_by_answer agent now m (begin own xs next)).children ≡ map plane_of xs
unfolding turn_by_answer settle force_ends hold_ends heard_by
answer_planes agent now m own xs next none =
    let is_ending : Bool = is_terminating own.lsm in
    each_plane (hears_change m) (λ n x. hear_one is_ending m agent n x)
    (λ n x e. asked_plane (late_terminate is_ending m x) Kind.Terminate (id_of agent.number n) (hear m x).view ∙ hear_plane m x e) next xs none

at_most : (b : Bool) (n : ℕ) → (n ≡ 0 → b ≡ false) → one b ≤ n
at_most false n h = omega arith
at_most true zero h = absurd (let e : true ≡ false = h refl in cc)
at_most true (suc n) h = omega arith

answer_turned : (agent : Agent) (now : ℕ) (m : Message) (own : Record) (xs : List ChildConnection) (next : ℕ) →
    let t : Turn = answer_turn agent now m own xs next in tally change_reply t.replies + tally change_reply t.notices ≤ tally (hears_change m) xs
unfolding answer_turn
answer_turned agent now m own xs next =
    let t : Turn = turn_by_answer agent now m (begin own xs next) in
    omega (
      arith,
      tell_changes (joined_of xs) agent now t (answer_silent agent now m own xs next),
      at_most (announces (joined_of xs) (joined_of t.children)) (tally (hears_change m) xs) (λ none. unannounced xs t.children (answer_planes agent now m own xs next none)),
    )

-- it tells no more changes than there are views that hear of one
pub answer_tells : (agent : Agent) (now : ℕ) (m : Message) (own : Record) (xs : List ChildConnection) (next : ℕ) → tally says_change (spoken agent (answer_turn agent now m own xs next)) ≤ tally (hears_change m) xs
answer_tells agent now m own xs next =
    let t : Turn = answer_turn agent now m own xs next in
    let u : IsTurning (Unless m) agent None own xs next t = answer_turning agent now m own xs next in
    omega (arith, spoken_changes agent t u.strange, answer_turned agent now m own xs next)
