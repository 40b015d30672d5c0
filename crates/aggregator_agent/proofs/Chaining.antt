-- A step by a route, from the step of a call.
use Rattle.std.proofs.Common.{◌≡◌, ◌+◌, ◌∙◌, [], ℕ, List, Result, Ok, Err, ap, sym, subst}
use Rattle.std.specs.Prelude.{OnErr, IfOk}
use Rattle.std.specs.Result.{IsErr}
use Rattle.std.proofs.lemmas.Bool.{false≢true}
use Rattle.std.specs.Global.{Vec}
use Rattle.nsi_primitive.specs.declared.message.Message.{Message}
use Rattle.stp_topology.specs.declared.network.Network.{Network}
use Rattle.agent_state.specs.declared.parent.Leg.{Leg}
use Rattle.agent_state.specs.State.{AgentState, AgentStepped, stays}
use Rattle.aggregator_agent.specs.declared.agent.Agent.{Agent}
use Rattle.aggregator_agent.specs.declared.aggregator_core.Core.{Core}
use Rattle.aggregator_agent.specs.Core.{state_at}
use Rattle.aggregator_agent.specs.Setting.{Setting, IsRoute, setting_of}
use Rattle.aggregator_agent.proofs.Stepping.{made_none}
use Rattle.aggregator_agent.specs.Step.{Answer, IsMade, IsStep, IsStepBy, IsTakenBy}

if_ok : {A E : Type 0} (r : Result A E) {P Q : A → Type 0} → ((x : A) → P x → Q x) → IfOk r P → IfOk r Q
if_ok (Ok x) f p = f x p
if_ok (Err e) f p = tt

-- what is done by every route
pub by_all : (t : Network) (old new : Core) (r : Answer) (makes : Setting → AgentState → AgentStepped) → IsStep old new r makes → IsStepBy t old new r makes
by_all t old new r makes p = record { by = λ route h. p.all t route; some = if_ok r (λ v q. ((λ a b. []), q)) (p.all t (λ a b. [])); agent = p.agent; err = p.err }

-- the definition makes the same of the state
pub same_step : (t : Network) (old new : Core) (r : Answer) (makes others : Setting → AgentState → AgentStepped)
    → ((route : ℕ → ℕ → List Leg) → makes (setting_of t old.agent route) (state_at old) ≡ others (setting_of t old.agent route) (state_at old)) → IsStepBy t old new r makes → IsStepBy t old new r others
same_step t old new r makes others e p = record {
  by = λ route h. if_ok r (λ v q. subst (IsMade (state_at new) v.items) (e route) q) (p.by route h);
  some = if_ok r (λ v q. (q.0, subst (IsMade (state_at new) v.items) (e q.0) q.1)) p.some;
  agent = p.agent;
  err = p.err;
}

pub same_all : (old new : Core) (r : Answer) (makes others : Setting → AgentState → AgentStepped)
    → ((t : Network) (route : ℕ → ℕ → List Leg) → makes (setting_of t old.agent route) (state_at old) ≡ others (setting_of t old.agent route) (state_at old)) → IsStep old new r makes → IsStep old new r others
same_all old new r makes others e p = record { all = λ t route. if_ok r (λ v q. subst (IsMade (state_at new) v.items) (e t route) q) (p.all t route); agent = p.agent; err = p.err }

-- a step from a state that was begun with: where memory is wanting, that state is there again
pub step_from : (t : Network) (old mid new : Core) (r : Answer) (makes others : Setting → AgentState → AgentStepped) → mid.agent ≡ old.agent → OnErr r (state_at new ≡ state_at old)
    → ((route : ℕ → ℕ → List Leg) → makes (setting_of t old.agent route) (state_at mid) ≡ others (setting_of t old.agent route) (state_at old)) → IsStepBy t mid new r makes → IsStepBy t old new r others
step_from t old mid new r makes others agent back e p = record {
  by = λ route h. if_ok r (λ v q. whole v route q) (p.by route (subst (λ (a : Agent). IsRoute t a.number route) (sym agent) h));
  some = if_ok r (λ v q. (q.0, whole v q.0 q.1)) p.some;
  agent = p.agent ∙ agent;
  err = back;
}
  where
    whole : (v : Vec Message) (route : ℕ → ℕ → List Leg) → IsMade (state_at new) v.items (makes (setting_of t mid.agent route) (state_at mid)) → IsMade (state_at new) v.items (others (setting_of t old.agent route) (state_at old))
    whole v route q = subst (IsMade (state_at new) v.items) (ap (λ (a : Agent). makes (setting_of t a route) (state_at mid)) agent ∙ e route) q

-- where memory is wanting
pub err_step : (t : Network) (old new : Core) (r : Answer) (makes : Setting → AgentState → AgentStepped) → IsErr r → new.agent ≡ old.agent → state_at new ≡ state_at old → IsStepBy t old new r makes
err_step t old new (Ok v) makes h agent back = absurd (false≢true h)
err_step t old new (Err e) makes h agent back = record { by = λ route g. tt; some = tt; agent = agent; err = back }

-- where nothing is said
pub quiet_step : (t : Network) (old new : Core) (v : Vec Message) → v.items ≡ [] → new.agent ≡ old.agent → state_at new ≡ state_at old → IsStepBy t old new (Ok v) (λ setting s. stays s)
quiet_step t old new v none agent same =
    let made : IsMade (state_at new) v.items (stays (state_at old)) = record { state = same ∙ (made_none (state_at old) v.items none).state; said = none } in
    record { by = λ route h. made; some = ((λ a b. []), made); agent = agent; err = tt }

---- An entry is counted

abbrev pub one_taken : AgentState → AgentState
one_taken s = record s { base = record s.base { taken = s.base.taken + 1 } }

pub taken_ok : (t : Network) (old mid new : Core) (v : Vec Message) (makes : Setting → AgentState → AgentStepped) → state_at new ≡ one_taken (state_at mid) → new.agent ≡ mid.agent → IsStepBy t old mid (Ok v) makes → IsTakenBy t old new (Ok v) makes
taken_ok t old mid new v makes is agent p = record {
  by = λ route h. record { state = is ∙ ap one_taken (p.by route h).state; said = (p.by route h).said };
  some = (p.some.0, record { state = is ∙ ap one_taken p.some.1.state; said = p.some.1.said });
  agent = agent ∙ p.agent;
  err = tt;
}
