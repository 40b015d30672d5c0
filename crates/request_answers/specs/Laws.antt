-- The laws of requests and answers.
use Rattle.std.specs.Prelude.{ℕ, ◌≡◌, ◌⊎◌, List, Option, None}
use Rattle.nsi_primitive.specs.declared.entry.Entry.{Entry}
use Rattle.nsi_primitive.specs.declared.message.Message.{Message}
use Rattle.provider_agent.specs.Setting.{Setting as ProviderSetting}
use Rattle.aggregator_agent.specs.Setting.{Setting as AggregatorSetting}
use Rattle.nsi_agent.specs.Homes.{provides, aggregates, Home}
use Rattle.nsi_agent.specs.Steps.{work_of}
use Rattle.nsi_agent.specs.Told.{told}
use Rattle.request_answers.specs.Answers.{IsAnswered}
use Rattle.request_answers.specs.Open.{IsWorkedOn}
use Rattle.request_answers.specs.Taken.{HasTaken}
use Rattle.request_answers.specs.Waiting.{WaitsForChild, WaitsForPart}

-- Whatever entries a provider takes: each request that it has taken is answered, or one of its records works on it.
abbrev pub ProvidersAnswerOrWork : Type 0
ProvidersAnswerOrWork =
    (h : Home) (setting : ProviderSetting) (stp_of : List ℕ → Option ℕ) (es : List Entry) (request : Message) → h.role ≡ provides setting stp_of → HasTaken h es request →
    IsAnswered request (told h es).out ⊎ IsWorkedOn setting.name (told h es).state.base.records request

-- So where no work waits each is answered.
abbrev pub IdleProvidersHaveAnswered : Type 0
IdleProvidersHaveAnswered =
    (h : Home) (setting : ProviderSetting) (stp_of : List ℕ → Option ℕ) (es : List Entry) (request : Message) → h.role ≡ provides setting stp_of → HasTaken h es request →
    work_of h.role (told h es).state ≡ None → IsAnswered request (told h es).out

-- Whatever entries an aggregator takes, and at any time: each request that it has taken is answered, or an answer of a child is missing.
abbrev pub AggregatorsAnswerOrWait : Type 0
AggregatorsAnswerOrWait =
    (h : Home) (setting : AggregatorSetting) (es : List Entry) (request : Message) → h.role ≡ aggregates setting → HasTaken h es request →
    IsAnswered request (told h es).out ⊎ WaitsForChild setting.agent.name (told h es).state request ⊎ WaitsForPart (told h es).state.queries request
