-- One entry at an agent of any kind.
use Rattle.std.specs.Prelude.{ℕ, Bool, not, Option, Some, None}
use Rattle.nsi_primitive.specs.declared.entry.Entry.{Entry}
use Rattle.nsi_primitive.specs.declared.message.Identity.{Identity}
use Rattle.nsi_primitive.specs.declared.message.Message.{Message}
use Rattle.nsi_primitive.specs.declared.state.Machine.{Machine}
use Rattle.stp_topology.specs.declared.network.AgentKind.{AgentKind}
use Rattle.message_retry.specs.Retry.{is_old, is_waiting}
use Rattle.agent_state.specs.Entries.{retry_of}
use Rattle.agent_state.specs.State.{AgentState, AgentStepped, Stepped}
use Rattle.provider_agent.specs.Working.{works_among}
use Rattle.provider_agent.specs.Steps.{after as provider_after, may_take as provider_may, is_seen as provider_saw, waiting_work}
use Rattle.aggregator_agent.specs.Steps.{after as aggregator_after, may_take as aggregator_may}
use Rattle.requester_agent.specs.Steps.{after as requester_after, may_take as requester_may}
use Rattle.nsi_agent.specs.Homes.{Role, provides, aggregates, requests, Home}

-- a provider's step, where its state is the front of every agent's
abbrev pub with_base : AgentState → Stepped → AgentStepped
with_base s x = record { state = record s { base = x.state }; out = x.out; answer = None }

unfoldable pub after_as : Role → AgentState → Entry → AgentStepped
after_as (provides setting stp_of) s e = with_base s (provider_after setting stp_of s.base e)
after_as (aggregates setting) s e = aggregator_after setting s e
after_as (requests setting) s e = requester_after setting s e

-- the state after an entry, the messages that it causes, and the answer to an ask
abbrev pub after : Home → AgentState → Entry → AgentStepped
after h s e = after_as h.role s e

-- whether an agent of that kind takes the entry
abbrev pub may_take : Option AgentKind → AgentState → Entry → Bool
may_take (Some (AgentKind.Provider hold)) s e = provider_may s.base e
may_take (Some (AgentKind.Requester provider)) s e = requester_may s e
may_take _ s e = aggregator_may s e

-- the same by its role
abbrev pub may_take_as : Role → AgentState → Entry → Bool
may_take_as (provides setting stp_of) s e = provider_may s.base e
may_take_as (aggregates setting) s e = aggregator_may s e
may_take_as (requests setting) s e = requester_may s e

-- whether a message was taken before
abbrev pub is_seen : Role → AgentState → Message → Bool
is_seen (provides setting stp_of) s m = provider_saw s.base m
is_seen _ s m = is_old m (retry_of s.base)

-- whether a message makes an entry: it comes for the first time
unfoldable pub is_new : Home → AgentState → Message → Bool
is_new h s m = not (is_seen h.role s m)

-- whether a message of this identity waits for its acknowledgement
unfoldable pub waits : Identity → AgentState → Bool
waits i s = is_waiting i s.base.waiting

-- the first record that has work to do, and the machine: at a provider
abbrev pub work_of : Role → AgentState → Option (ℕ × Machine)
work_of (provides setting stp_of) s = waiting_work s.base
work_of _ s = None

-- how much work waits
abbrev pub works_left : Role → AgentState → ℕ
works_left (provides setting stp_of) s = works_among s.base.records
works_left _ s = 0
