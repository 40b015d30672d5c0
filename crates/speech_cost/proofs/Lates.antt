-- An aggregator tells of a late request once, and of none that it hasn't asked.
use Rattle.std.proofs.Common.{ℕ, ◌+◌, ◌≤◌, ◌≡◌, Bool, true, false, ◌||◌, List, [], ◌∷◌, ◌++◌, Option, Some, None, refl, arith}
use Rattle.nsi_primitive.specs.Ids.{id_of}
use Rattle.nsi_primitive.specs.declared.message.Body.{Body}
use Rattle.nsi_primitive.specs.declared.message.Message.{Message}
use Rattle.nsi_primitive.specs.declared.plane.Plane.{Plane}
use Rattle.dataplane_state.specs.Plane.{announces}
use Rattle.connection_record.specs.declared.record.Record.{Record}
use Rattle.connection_record.specs.declared.moves.Reply.{Reply}
use Rattle.connection_record.specs.declared.life.LifecycleMove.{LifecycleMove}
use Rattle.connection_record.specs.Replies.{Moved, stays as leaves, addressed}
use Rattle.connection_record.specs.Lives.{lives_if}
use Rattle.connection_record.specs.Applied.{tells_plane}
use Rattle.connection_record.specs.Speaking.{one, tally, is_asking}
use Rattle.connection_record.proofs.Saying.{tally_append}
use Rattle.child_connection.specs.Views.{ChildConnection}
use Rattle.aggregator_agent.specs.declared.agent.Agent.{Agent}
use Rattle.aggregator_agent.specs.Asking.{Turn, begin, notices_under}
use Rattle.aggregator_agent.specs.Clock.{due_for}
use Rattle.aggregator_agent.specs.Turns.{joined_of, tell_joined, turn_by_request, request_turn, turn_by_answer, answer_turn, spoken}
use Rattle.agent_speech.proofs.Counting.{tally_less}
use Rattle.agent_speech.proofs.Asking.{Any, Unless, is_strange}
use Rattle.agent_speech.proofs.Turning.{IsTurning, request_turning, answer_turning}
use Rattle.speech_cost.specs.Costs.{is_late_notice, says_late, asks, is_untold}
use Rattle.speech_cost.specs.Changes.{is_change}
use Rattle.speech_cost.proofs.Silent.{of_below, lives_if_silent, IsSilentTurn, request_silent, answer_silent, says_below}

abbrev pub late_reply : Reply → Bool
late_reply x = is_late_notice x.body

pub none_late : tally says_late [] ≡ 0
unfolding tally
none_late = refl

pub addressed_late : (name owner : List ℕ) (out : List Reply) → tally says_late (addressed name owner out) ≡ tally late_reply out
unfolding tally
addressed_late name owner [] = refl
addressed_late name owner (x ∷ xs) = omega (arith, addressed_late name owner xs)

asked_late : (name : List ℕ) (m : Message) → one (says_late m) ≤ one (is_strange name m)
unfolding is_asking
asked_late name m = grind arith

-- what isn't strange isn't late, and is asked
all_asked_late : (name : List ℕ) (ms : List Message) → tally says_late ms ≤ tally (is_strange name) ms
unfolding tally
all_asked_late name [] = omega arith
all_asked_late name (m ∷ ms) = omega (arith, all_asked_late name ms, asked_late name m)

asked_asks : (name : List ℕ) (m : Message) → 1 ≤ one (asks m) + one (is_strange name m)
asked_asks name m = grind arith

due_untold : (name : List ℕ) (number now : ℕ) (ms : List Message) → tally is_untold (due_for number now ms) ≤ tally asks ms + tally (is_strange name) ms
unfolding due_for tally
due_untold name number now [] = omega arith
due_untold name number now (m ∷ ms) = omega (arith, due_untold name number now ms, asked_asks name m)

---- Moves

abbrev pub NoLate : Moved → Type 0
NoLate x = tally late_reply x.out ≡ 0

late_below : (b : Body) → one (is_late_notice b) ≤ one (is_change b || is_late_notice b)
late_below b = grind arith

late_within : (out : List Reply) → tally late_reply out ≤ tally of_below out
late_within out = tally_less late_reply of_below (λ x. late_below x.body) out

pub late_messages : (ms : List Message) → tally says_late ms ≤ tally says_below ms
late_messages ms = tally_less says_late says_below (λ m. late_below m.body) ms

pub leaves_late : (r : Record) → NoLate (leaves r)
unfolding tally
leaves_late r = refl

pub lives_if_late : (o : Option LifecycleMove) (now : ℕ) (r : Record) → NoLate (lives_if o now r)
lives_if_late o now r = omega (arith, lives_if_silent o now r, late_within (lives_if o now r).out)

plane_late : (told : Bool) (p : Plane) (c now : ℕ) (r : Record) → NoLate (tells_plane told p c now r)
unfolding tells_plane tally
plane_late true p c now r = refl
plane_late false p c now r = refl

---- A turn

abbrev pub TellsNoLate : Turn → Type 0
TellsNoLate t = tally late_reply t.replies + tally late_reply t.notices ≡ 0

silent_late : (t : Turn) → IsSilentTurn t → TellsNoLate t
silent_late t h = omega (arith, h, late_within t.replies, late_within t.notices)

under_late : (t : Turn) (x : Moved) → TellsNoLate t → NoLate x → TellsNoLate (notices_under t x)
under_late t x h a = omega (arith, h, a, tally_append late_reply t.notices x.out)

tell_late : (p : Plane) (agent : Agent) (now : ℕ) (t : Turn) → TellsNoLate t → TellsNoLate (tell_joined p agent now t)
unfolding tell_joined
tell_late p agent now t h =
    let b : Bool = announces p (joined_of t.children) in
    let id : ℕ = id_of agent.number t.next in
    under_late t (tells_plane b (joined_of t.children) id now t.own) h (plane_late b (joined_of t.children) id now t.own)

request_late : (agent : Agent) (now : ℕ) (m : Message) (own : Record) (xs : List ChildConnection) (next : ℕ) → TellsNoLate (request_turn agent now m own xs next)
unfolding request_turn
request_late agent now m own xs next =
    let t : Turn = turn_by_request agent now m (begin own xs next) in tell_late (joined_of xs) agent now t (silent_late t (request_silent agent now m own xs next))

answer_late : (agent : Agent) (now : ℕ) (m : Message) (own : Record) (xs : List ChildConnection) (next : ℕ) → TellsNoLate (answer_turn agent now m own xs next)
unfolding answer_turn
answer_late agent now m own xs next =
    let t : Turn = turn_by_answer agent now m (begin own xs next) in tell_late (joined_of xs) agent now t (silent_late t (answer_silent agent now m own xs next))

-- what it says, and the requests that may be late then
spoken_late : (agent : Agent) (number now : ℕ) (t : Turn) → tally (is_strange agent.name) t.asked ≡ 0 → TellsNoLate t → tally says_late (spoken agent t) + tally is_untold (due_for number now t.asked) ≤ tally asks (spoken agent t)
unfolding spoken
spoken_late agent number now t s h =
    let ms : List Message = addressed agent.name t.own.owner t.replies in
    let notes : List Message = addressed agent.name t.own.owner t.notices in
    omega (
      arith,
      tally_append says_late ms (t.asked ++ notes),
      tally_append says_late t.asked notes,
      tally_append asks ms (t.asked ++ notes),
      tally_append asks t.asked notes,
      addressed_late agent.name t.own.owner t.replies,
      addressed_late agent.name t.own.owner t.notices,
      all_asked_late agent.name t.asked,
      due_untold agent.name number now t.asked,
      s,
      h,
    )

pub request_spoken : (agent : Agent) (number now : ℕ) (m : Message) (own : Record) (xs : List ChildConnection) (next : ℕ) →
    let t : Turn = request_turn agent now m own xs next in tally says_late (spoken agent t) + tally is_untold (due_for number now t.asked) ≤ tally asks (spoken agent t)
request_spoken agent number now m own xs next =
    let t : Turn = request_turn agent now m own xs next in
    let u : IsTurning Any agent (Some m.header.correlation) own xs next t = request_turning agent now m own xs next in
    spoken_late agent number now t u.strange (request_late agent now m own xs next)

pub answer_spoken : (agent : Agent) (number now : ℕ) (m : Message) (own : Record) (xs : List ChildConnection) (next : ℕ) →
    let t : Turn = answer_turn agent now m own xs next in tally says_late (spoken agent t) + tally is_untold (due_for number now t.asked) ≤ tally asks (spoken agent t)
answer_spoken agent number now m own xs next =
    let t : Turn = answer_turn agent now m own xs next in
    let u : IsTurning (Unless m) agent None own xs next t = answer_turning agent now m own xs next in
    spoken_late agent number now t u.strange (answer_late agent now m own xs next)
