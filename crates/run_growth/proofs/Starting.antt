-- Each reserve that an agent sends says its start.
use Rattle.std.proofs.Common.{ℕ, ◌≡◌, ◌∙◌, Bool, true, false, is_none, List, [], ◌∷◌, Option, Some, None, refl, sym, ap}
use Rattle.std.specs.List.{All}
use Rattle.std.proofs.lemmas.Bool.{true≢false}
use Rattle.std.proofs.lemmas.List.Elements.{All-nil, All-cons, All-head, All-tail, All-append, All-contains}
use Rattle.nsi_primitive.specs.Messages.{is_request}
use Rattle.nsi_primitive.specs.declared.entry.Entry.{Entry}
use Rattle.nsi_primitive.specs.declared.message.Body.{Body}
use Rattle.nsi_primitive.specs.declared.message.Message.{Message}
use Rattle.nsi_primitive.specs.declared.message.ReserveRequest.{ReserveRequest}
use Rattle.agent_state.specs.State.{State, AgentState, blank_agent}
use Rattle.provider_agent.specs.Setting.{Setting}
use Rattle.provider_agent.specs.Steps.{after as provider_after, after_if as provider_after_if}
use Rattle.aggregator_agent.specs.Steps.{after as aggregator_after}
use Rattle.requester_agent.specs.Steps.{after as requester_after}
use Rattle.nsi_agent.specs.Homes.{Role, Home, provides, aggregates, requests}
use Rattle.nsi_agent.specs.Steps.{after, after_as}
use Rattle.nsi_agent.specs.Told.{goes_on}
use Rattle.nsi_agent.proofs.ProviderSays.{AsksNothing, step_answers}
use Rattle.nsi_world.specs.Worlds.{said, synced_part}
use Rattle.run_growth.specs.SentLaws.{SaysItsStart, EachReserveSaysItsStart}
use Rattle.run_growth.proofs.Mild.{is_rough, IsMildMessage, aggregator_mild, requester_mild}

---- One message

start_of : (o : Option ℕ) → is_none o ≡ false → (start : ℕ) × (o ≡ Some start)
start_of (Some start) h = (start, refl)
start_of None h = absurd (true≢false h)

mild_starts : (m : Message) → IsMildMessage m → SaysItsStart m.body
unfolding is_rough
mild_starts m h q e = start_of q.start (ap is_rough (sym e) ∙ h)

no_reserve_starts : (m : Message) → AsksNothing m.body → SaysItsStart m.body
no_reserve_starts m h q e = absurd (true≢false (ap is_request (sym e) ∙ h))

abbrev AllStart : List Message → Type 0
AllStart ms = All (λ (m : Message). SaysItsStart m.body) ms

each_starts : (P : Message → Type 0) → ((m : Message) → P m → SaysItsStart m.body) → (ms : List Message) → All P ms → AllStart ms
each_starts P f [] h = All-nil (λ (m : Message). SaysItsStart m.body)
each_starts P f (m ∷ ms) h = All-cons (λ (m : Message). SaysItsStart m.body) m ms (f m (All-head P m ms h)) (each_starts P f ms (All-tail P m ms h))

---- One entry

provider_starts : (setting : Setting) (stp_of : List ℕ → Option ℕ) (s : State) (e : Entry) → AllStart (provider_after setting stp_of s e).out
unfolding provider_after
provider_starts setting stp_of s e = by_test _
  where
    by_test : (b : Bool) → AllStart (provider_after_if b setting stp_of s e).out
    by_test true = each_starts (λ (m : Message). AsksNothing m.body) no_reserve_starts _ (step_answers e.input e.second setting stp_of s)
    by_test false = All-nil (λ (m : Message). SaysItsStart m.body)

role_starts : (role : Role) (s : AgentState) (e : Entry) → AllStart (after_as role s e).out
unfolding after_as
role_starts (provides setting stp_of) s e = provider_starts setting stp_of s.base e
role_starts (aggregates setting) s e = each_starts IsMildMessage mild_starts (aggregator_after setting s e).out (aggregator_mild setting s e)
role_starts (requests setting) s e = each_starts IsMildMessage mild_starts (requester_after setting s e).out (requester_mild setting s e)

---- All entries

told_starts : (h : Home) (es : List Entry) (s : AgentState) → AllStart (goes_on h s es).out
unfolding goes_on
told_starts h [] s = All-nil (λ (m : Message). SaysItsStart m.body)
told_starts h (e ∷ es) s =
    All-append (λ (m : Message). SaysItsStart m.body) (after h s e).out (goes_on h (after h s e).state es).out (role_starts h.role s e) (told_starts h es (after h s e).state)

pub each_reserve_says_its_start : EachReserveSaysItsStart
each_reserve_says_its_start homes w m (a, by) =
    All-contains (λ (m : Message). SaysItsStart m.body) (said homes w a) m (told_starts (homes a) (synced_part w a) blank_agent) by.1
