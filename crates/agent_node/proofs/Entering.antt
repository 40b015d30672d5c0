-- An entry that was taken, as the agent and its lists tell of it.
use Rattle.std.proofs.Common.{ℕ, ◌≡◌, ◌↔◌, List, Option, None, IsTrue, IsSome, true, refl, sym, ap, ◌∙◌, subst}
use Rattle.nsi_primitive.specs.Printable.{is_ask}
use Rattle.nsi_primitive.specs.declared.ask.AskAnswer.{AskAnswer}
use Rattle.nsi_primitive.specs.declared.entry.Entry.{Entry}
use Rattle.nsi_primitive.specs.declared.entry.Event.{Event}
use Rattle.nsi_primitive.specs.declared.message.Message.{Message}
use Rattle.stp_topology.specs.Network.{kind_of}
use Rattle.agent_state.specs.State.{AgentState, AgentStepped}
use Rattle.nsi_agent.specs.Homes.{Home}
use Rattle.nsi_agent.specs.Standing.{Standing, IsAfterBySome}
use Rattle.nsi_agent.specs.Steps.{after, may_take}
use Rattle.agent_node.specs.Doors.{Door}
use Rattle.agent_node.specs.Seat.{Seat, enters, enters_with}
use Rattle.agent_node.specs.Seated.{stepped}
use Rattle.agent_node.proofs.Answered.{answered}

-- the agent's part of a seat, with the rest
abbrev pub seat_by : ℕ → List Entry → List Message → List Event → List Door → Standing → Seat
seat_by synced fresh unsaid events doors a =
    record { number = a.number; state = a.state; past = None; synced = synced; fresh = fresh; unsaid = unsaid; events = events; doors = doors }

whole : (x : AgentStepped) (s : AgentState) (out : List Message) (answer : Option AskAnswer) → s ≡ x.state → out ≡ x.out → answer ≡ x.answer → stepped s out answer ≡ x
whole x s out answer p q r = ap (λ z. stepped z out answer) p ∙ (ap (λ z. stepped x.state z answer) q ∙ ap (stepped x.state x.out) r)

enters_is : (h : Home) (e : Entry) (s : Seat) → enters h e s ≡ enters_with e (after h s.state e) s
unfolding enters
enters_is h e s = refl

pub entered_by : (h : Home) (e : Entry) (f : Standing → Seat) (old new : Standing) (out : List Message) (answer : Option AskAnswer)
    → ((s : AgentState) (x : AgentStepped) → enters_with e x (f (record old { state = s })) ≡ enters_with e x (f old)) → (f old).state ≡ old.state → (f new).state ≡ new.state
    → new ≡ record old { state = (after h old.state e).state } → out ≡ (after h old.state e).out → answer ≡ (after h old.state e).answer
    → enters_with e (stepped (f new).state out answer) (f new) ≡ enters h e (f old)
entered_by h e f old new out answer same at_old at_new p q r =
    let x = after h old.state e in
    ap (λ z. enters_with e z (f new)) (whole x (f new).state out answer (at_new ∙ ap (λ (n : Standing). n.state) p) q r)
    ∙ (ap (λ z. enters_with e x (f z)) p ∙ (same x.state x ∙ sym (enters_is h e (f old) ∙ ap (λ z. enters_with e (after h z e) (f old)) at_old)))

-- an ask is answered, and nothing else is
pub answered_by : (old new : Standing) (answer : Option AskAnswer) (out : List Message) (e : Entry) → may_take (kind_of old.network old.number) old.state e ≡ true → IsAfterBySome old new answer out e
    → IsTrue (is_ask e.input) ↔ IsSome answer
answered_by old new answer out e may by =
    subst (λ z. IsTrue (is_ask e.input) ↔ IsSome z) (sym by.answered) (answered old.network by.routes old.number old.state e may)
