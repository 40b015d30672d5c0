-- A call that takes an entry, by what it leaves.
use Rattle.std.proofs.Common.{ℕ, ◌≡◌, ◌∙◌, true, List, Ok, Err, ap, sym, subst}
use Rattle.std.specs.Prelude.{OnOk, OnErr, IfOk}
use Rattle.std.specs.List.{All}
use Rattle.nsi_primitive.specs.Printable.{IsPrintable, IsPrintableInput}
use Rattle.nsi_primitive.specs.declared.entry.Entry.{Entry}
use Rattle.nsi_primitive.specs.declared.message.Message.{Message}
use Rattle.agent_state.specs.State.{AgentState, AgentStepped}
use Rattle.stp_topology.specs.declared.network.Network.{Network}
use Rattle.agent_state.specs.declared.parent.Leg.{Leg}
use Rattle.aggregator_agent.specs.declared.aggregator_core.Core.{Core}
use Rattle.aggregator_agent.specs.Core.{state_at, standing_at}
use Rattle.aggregator_agent.specs.Setting.{Setting, IsRoute, setting_of}
use Rattle.aggregator_agent.specs.Steps.{may_take, step, after}
use Rattle.aggregator_agent.specs.Good.{IsGood}
use Rattle.aggregator_agent.specs.Step.{Answer, IsCounted, IsTakenBy}
use Rattle.aggregator_agent.specs.Entering.{IsStepBySome}
use Rattle.aggregator_agent.specs.Laws.{EntriesKeepGood, CausedIsPrintable}
use Rattle.aggregator_agent.proofs.Entries.{after_is}

-- the entry of a setting, that may be taken
counted_state : (setting : Setting) (s t : AgentState) (out : List Message) (e : Entry) → may_take s e ≡ true → IsCounted t out (step e.input e.second setting s) → t ≡ (after setting s e).state
counted_state setting s t out e may c = c.state ∙ ap (λ (y : AgentStepped). y.state) (sym (after_is setting s e may))

counted_out : (setting : Setting) (s t : AgentState) (out : List Message) (e : Entry) → may_take s e ≡ true → IsCounted t out (step e.input e.second setting s) → out ≡ (after setting s e).out
counted_out setting s t out e may c = c.said ∙ ap (λ (y : AgentStepped). y.out) (sym (after_is setting s e may))

pub good_taken : EntriesKeepGood → (t : Network) (old new : Core) (r : Answer) (e : Entry) → may_take (state_at old) e ≡ true → IsPrintableInput e.input → IsGood (state_at old)
    → IsTakenBy t old new r (λ setting s. step e.input e.second setting s) → IsGood (state_at new)
good_taken law t old new (Ok v) e may p g k =
    let setting = setting_of t old.agent k.some.0 in
    subst IsGood (sym (counted_state setting (state_at old) (state_at new) v.items e may k.some.1)) (law setting (state_at old) e p g)
good_taken law t old new (Err x) e may p g k = subst IsGood (sym k.err) g

pub prints_taken : CausedIsPrintable → (t : Network) (old new : Core) (r : Answer) (e : Entry) → may_take (state_at old) e ≡ true → IsPrintableInput e.input → IsGood (state_at old)
    → IsTakenBy t old new r (λ setting s. step e.input e.second setting s) → IfOk r (λ out. All IsPrintable out.items)
prints_taken law t old new (Ok v) e may p g k =
    let setting = setting_of t old.agent k.some.0 in
    subst (λ ms. All IsPrintable ms) (sym (counted_out setting (state_at old) (state_at new) v.items e may k.some.1)) (law setting (state_at old) e p g)
prints_taken law t old new (Err x) e may p g k = tt

pub state_taken : (t : Network) (old new : Core) (r : Answer) (e : Entry) → may_take (state_at old) e ≡ true → IsTakenBy t old new r (λ setting s. step e.input e.second setting s)
    → (route : ℕ → ℕ → List Leg) → IsRoute t old.agent.number route → OnOk r (standing_at new ≡ record (standing_at old) { state = (after (setting_of t old.agent route) (state_at old) e).state })
state_taken t old new (Ok v) e may k route h =
    ap (λ a. record { agent = a; state = state_at new }) k.agent
    ∙ ap (λ s. record { agent = old.agent; state = s }) (counted_state (setting_of t old.agent route) (state_at old) (state_at new) v.items e may (k.by route h))
state_taken t old new (Err x) e may k route h = tt

pub out_taken : (t : Network) (old new : Core) (r : Answer) (e : Entry) → may_take (state_at old) e ≡ true → IsTakenBy t old new r (λ setting s. step e.input e.second setting s)
    → (route : ℕ → ℕ → List Leg) → IsRoute t old.agent.number route → IfOk r (λ out. out.items ≡ (after (setting_of t old.agent route) (state_at old) e).out)
out_taken t old new (Ok v) e may k route h = counted_out (setting_of t old.agent route) (state_at old) (state_at new) v.items e may (k.by route h)
out_taken t old new (Err x) e may k route h = tt

-- by some route it is so in any case
pub some_taken : (t : Network) (old new : Core) (r : Answer) (e : Entry) → may_take (state_at old) e ≡ true → IsTakenBy t old new r (λ setting s. step e.input e.second setting s)
    → IfOk r (λ out. IsStepBySome t (standing_at old) (standing_at new) out.items e)
some_taken t old new (Ok v) e may k =
    let setting = setting_of t old.agent k.some.0 in
    record {
      route = k.some.0;
      state = ap (λ a. record { agent = a; state = state_at new }) k.agent ∙ ap (λ s. record { agent = old.agent; state = s }) (counted_state setting (state_at old) (state_at new) v.items e may k.some.1);
      said = counted_out setting (state_at old) (state_at new) v.items e may k.some.1;
    }
some_taken t old new (Err x) e may k = tt

pub err_taken : (t : Network) (old new : Core) (r : Answer) (makes : Setting → AgentState → AgentStepped) → IsTakenBy t old new r makes → OnErr r (standing_at new ≡ standing_at old)
err_taken t old new (Ok v) makes k = tt
err_taken t old new (Err x) makes k = ap (λ a. record { agent = a; state = state_at new }) k.agent ∙ ap (λ s. record { agent = old.agent; state = s }) k.err
