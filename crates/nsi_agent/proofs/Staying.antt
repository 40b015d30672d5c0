-- What is true of an agent of each kind stays true, and an entry that may not be taken changes nothing.
use Rattle.std.proofs.Common.{◌≡◌, Bool, true, false, refl, sym, ap, subst}
use Rattle.nsi_primitive.specs.Printable.{IsPrintableInput}
use Rattle.nsi_primitive.specs.declared.entry.Entry.{Entry}
use Rattle.agent_state.specs.State.{AgentState, AgentStepped, blank, blank_agent, stays}
use Rattle.provider_agent.specs.Setting.{Setting as ProviderSetting}
use Rattle.provider_agent.specs.Steps.{after as provider_after, after_if as provider_if}
use Rattle.provider_agent.specs.Good.{IsGood as IsGoodProvider}
use Rattle.provider_agent.proofs.GoodAfter.{good_after}
use Rattle.aggregator_agent.specs.Steps.{after as aggregator_after, after_if as aggregator_if}
use Rattle.aggregator_agent.specs.Laws.{BlankIsGood as AggregatorBegins, EntriesKeepGood as AggregatorGoesOn}
use Rattle.requester_agent.specs.Setting.{Setting as RequesterSetting}
use Rattle.requester_agent.specs.Steps.{after as requester_after, after_if as requester_if, may_take as requester_may}
use Rattle.requester_agent.specs.Good.{IsGood as IsGoodRequester}
use Rattle.requester_agent.specs.Laws.{BlankIsGood as RequesterBegins, EntriesKeepGood as RequesterGoesOn}
use Rattle.nsi_agent.specs.Homes.{Role, provides, aggregates, requests}
use Rattle.nsi_agent.specs.Steps.{after_as, may_take_as, with_base}
use Rattle.nsi_agent.specs.Laws.{IsGood, BlankIsGood, EntriesKeepGood, EntriesAreTaken, OthersAreLeftOut}
use Rattle.nsi_agent.proofs.Entering.{entered}

pub entries_are_taken : EntriesAreTaken
entries_are_taken h s e may = entered h.role s e may

pub left_out_by : (role : Role) (s : AgentState) (e : Entry) → may_take_as role s e ≡ false → after_as role s e ≡ stays s
unfolding after_as provider_after aggregator_after requester_after
left_out_by (provides setting stp_of) s e not = ap (λ b. with_base s (provider_if b setting stp_of s.base e)) not
left_out_by (aggregates setting) s e not = ap (λ b. aggregator_if b setting s e) not
left_out_by (requests setting) s e not = ap (λ b. requester_if b setting s e) not

pub others_are_left_out : OthersAreLeftOut
others_are_left_out h s e not = left_out_by h.role s e not

---- Good

-- the laws of the three kinds
pub record AreLaws : Type 0 where
  pub first : (setting : ProviderSetting) → IsGoodProvider setting blank
  pub aggregator_begins : AggregatorBegins
  pub aggregator_goes_on : AggregatorGoesOn
  pub requester_begins : RequesterBegins
  pub requester_goes_on : RequesterGoesOn

blank_by : AreLaws → (role : Role) → IsGood role blank_agent
blank_by laws (provides setting stp_of) = laws.first setting
blank_by laws (aggregates setting) = laws.aggregator_begins
blank_by laws (requests setting) = laws.requester_begins

pub blank_is_good : AreLaws → BlankIsGood
blank_is_good laws h = blank_by laws h.role

requester_by : AreLaws → (setting : RequesterSetting) (s : AgentState) (e : Entry) (b : Bool) → requester_may s e ≡ b → IsPrintableInput e.input → IsGoodRequester s → IsGoodRequester (requester_after setting s e).state
unfolding requester_after
requester_by laws setting s e true may p good = laws.requester_goes_on setting s e may p good
requester_by laws setting s e false may p good = subst (λ (x : AgentStepped). IsGoodRequester x.state) (sym (ap (λ b. requester_if b setting s e) may)) good

good_by : AreLaws → (role : Role) (s : AgentState) (e : Entry) → IsPrintableInput e.input → IsGood role s → IsGood role (after_as role s e).state
unfolding after_as
good_by laws (provides setting stp_of) s e p good = good_after setting stp_of s.base e good p
good_by laws (aggregates setting) s e p good = laws.aggregator_goes_on setting s e p good
good_by laws (requests setting) s e p good = requester_by laws setting s e (requester_may s e) refl p good

pub good_stays : AreLaws → EntriesKeepGood
good_stays laws h s e p good = good_by laws h.role s e p good
