-- Whose the views of an agent are: of those whom it asks.
use Rattle.std.proofs.Common.{ℕ, ◌≡◌, ◌∙◌, Bool, true, false, cond, List, [], ◌∷◌, take, refl, sym, ap, subst}
use Rattle.std.specs.List.{All}
use Rattle.std.proofs.lemmas.List.Elements.{All-nil, All-head, All-tail, All-take, All-weaker, Contains-get_or}
use Rattle.nsi_primitive.specs.declared.entry.Entry.{Entry}
use Rattle.nsi_primitive.specs.declared.entry.Input.{Input}
use Rattle.child_connection.specs.Views.{ChildConnection}
use Rattle.agent_state.specs.State.{AgentState, AgentStepped, blank_agent}
use Rattle.aggregator_agent.proofs.Entries.{after_is as aggregator_takes}
use Rattle.requester_agent.proofs.Entries.{after_is as requester_takes}
use Rattle.nsi_agent.specs.Homes.{Role, provides, aggregates, requests, Home}
use Rattle.nsi_agent.specs.Steps.{after, after_as, may_take_as}
use Rattle.nsi_agent.specs.Told.{goes_on, told}
use Rattle.nsi_agent.specs.Said.{name_in, Asks, IsFor, IsForIn}
use Rattle.nsi_agent.proofs.ProviderSays.{CameFor, IsOwed}
use Rattle.nsi_agent.proofs.RequesterSays.{AreLaws, IsOf, step_saying as requester_says}
use Rattle.nsi_agent.proofs.Below.{IsChild, IsOpen}
use Rattle.nsi_agent.proofs.AggregatorSays.{IsHeld, step_saying as aggregator_says}
use Rattle.nsi_agent.proofs.Staying.{left_out_by}
use Rattle.nsi_world.specs.Worlds.{Homes, World}
use Rattle.nsi_world.specs.Heard.{WasSent, IsHeard, IsFair}
use Rattle.run_growth.proofs.Sent.{Given}

---- One entry

-- nothing is asked of an owner
abbrev pub Any : List ℕ → Type 0
Any name = Unit {0}

abbrev pub AreOf : Role → AgentState → Type 0
AreOf (provides setting stp_of) s = Unit {0}
AreOf (aggregates setting) s = IsHeld setting.agent.name (Asks (aggregates setting)) Any s
AreOf (requests setting) s = All (IsOf setting.provider) s.views

came : (name : List ℕ) (input : Input) → IsFor name input → CameFor name Any input
came name (Input.Got m) for = λ asks. (sym (ap (λ (b : Bool). cond b m.header.provider m.header.requester) asks) ∙ for, tt)
came name Input.Tick for = tt
came name (Input.Acked i) for = tt
came name (Input.Work n machine) for = tt
came name (Input.Force n) for = tt
came name (Input.Ask n ask) for = tt

taken_of : AreLaws → (role : Role) (s : AgentState) (e : Entry) → may_take_as role s e ≡ true → IsForIn (name_in role) e → AreOf role s → AreOf role (after_as role s e).state
unfolding after_as
taken_of laws (provides setting stp_of) s e may for of = tt
taken_of laws (aggregates setting) s e may for of =
    subst (λ (y : AgentStepped). AreOf (aggregates setting) y.state) (sym (aggregator_takes setting s e may))
    (aggregator_says laws setting (Asks (aggregates setting)) Any (λ source dest k d l. (source, dest, _, Contains-get_or (setting.route source dest) k d l, refl)) e.input e.second s of (came setting.agent.name e.input for)).held
taken_of laws (requests setting) s e may for of =
    subst (λ (y : AgentStepped). AreOf (requests setting) y.state) (sym (requester_takes setting s e may)) (requester_says laws setting s of e.input e.second).views

entry_of : AreLaws → (role : Role) (s : AgentState) (e : Entry) → IsForIn (name_in role) e → AreOf role s → AreOf role (after_as role s e).state
entry_of laws role s e for of = by (may_take_as role s e) refl
  where
    by : (b : Bool) → may_take_as role s e ≡ b → AreOf role (after_as role s e).state
    by true may = taken_of laws role s e may for of
    by false may = subst (λ (y : AgentStepped). AreOf role y.state) (sym (left_out_by role s e may)) of

---- Entries

of_from : AreLaws → (h : Home) (es : List Entry) (s : AgentState) → All (IsForIn (name_in h.role)) es → AreOf h.role s → AreOf h.role (goes_on h s es).state
unfolding goes_on
of_from laws h [] s for of = of
of_from laws h (e ∷ es) s for of =
    of_from laws h es (after h s e).state (All-tail (IsForIn (name_in h.role)) e es for) (entry_of laws h.role s e (All-head (IsForIn (name_in h.role)) e es for) of)

blank_of : (role : Role) → AreOf role blank_agent
blank_of (provides setting stp_of) = tt
blank_of (aggregates setting) =
    record {
      owners = All-nil (IsOwed Any);
      children = All-nil (λ (xs : List ChildConnection). All (IsChild (Asks (aggregates setting))) xs);
      queries = All-nil (IsOpen setting.agent.name Any);
    }
blank_of (requests setting) = All-nil (IsOf setting.provider)

---- In a world

pub for_input : (homes : Homes) (given : Given homes) (w : World) (a : ℕ) (i : Input) → WasSent homes w a i → IsFor (name_in (homes a).role) i
for_input homes given w a (Input.Got m) s = s.1 ∙ sym (given.named a)
for_input homes given w a Input.Tick s = tt
for_input homes given w a (Input.Acked i) s = tt
for_input homes given w a (Input.Work n machine) s = tt
for_input homes given w a (Input.Force n) s = tt
for_input homes given w a (Input.Ask n ask) s = tt

-- in any cut of a world in which what was heard was sent
pub views_are_of : AreLaws → (homes : Homes) → Given homes → (w : World) → IsFair homes w → (a k : ℕ) → AreOf (homes a).role (told (homes a) (take k (w.journal a))).state
views_are_of laws homes given w fair a k =
    of_from laws (homes a) (take k (w.journal a)) blank_agent
    (All-take (IsForIn (name_in (homes a).role)) k (w.journal a)
    (All-weaker (IsHeard homes w a) (IsForIn (name_in (homes a).role)) (λ e h. for_input homes given w a e.input h.sent) (w.journal a) (fair.heard a)))
    (blank_of (homes a).role)
