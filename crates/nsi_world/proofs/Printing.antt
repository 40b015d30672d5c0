-- What an agent says can be written.
use Rattle.std.proofs.Common.{◌≡◌, Bool, true, false, List, [], ◌∷◌, refl, sym, subst}
use Rattle.std.specs.List.{All}
use Rattle.std.proofs.lemmas.List.Elements.{All-nil, All-append, All-head, All-tail}
use Rattle.nsi_primitive.specs.Printable.{IsPrintable, IsPrintableEntry}
use Rattle.nsi_primitive.specs.declared.entry.Entry.{Entry}
use Rattle.agent_state.specs.State.{AgentState, AgentStepped, blank_agent}
use Rattle.provider_agent.proofs.PrintableAfter.{printable_after}
use Rattle.aggregator_agent.specs.Laws.{CausedIsPrintable as AggregatorPrints}
use Rattle.requester_agent.specs.Laws.{CausedIsPrintable as RequesterPrints}
use Rattle.nsi_agent.specs.Homes.{Role, provides, aggregates, requests, Home}
use Rattle.nsi_agent.specs.Steps.{after, after_as, may_take_as}
use Rattle.nsi_agent.specs.Told.{goes_on}
use Rattle.nsi_agent.specs.Laws.{IsGood, BlankIsGood, EntriesKeepGood}
use Rattle.nsi_agent.proofs.Staying.{left_out_by}
use Rattle.nsi_world.specs.Agents.{CausedIsPrintable}

pub record Prints : Type 0 where
  pub aggregator : AggregatorPrints
  pub requester : RequesterPrints
  pub blank : BlankIsGood
  pub good : EntriesKeepGood

entry_prints : Prints → (role : Role) (s : AgentState) (e : Entry) → IsPrintableEntry e → IsGood role s → All IsPrintable (after_as role s e).out
unfolding after_as
entry_prints laws (provides setting stp_of) s e p good = printable_after setting stp_of s.base e good p
entry_prints laws (aggregates setting) s e p good = laws.aggregator setting s e p good
entry_prints laws (requests setting) s e p good = by (may_take_as (requests setting) s e) refl
  where
    by : (b : Bool) → may_take_as (requests setting) s e ≡ b → All IsPrintable (after_as (requests setting) s e).out
    by true may = laws.requester setting s e may p good
    by false may = subst (λ (x : AgentStepped). All IsPrintable x.out) (sym (left_out_by (requests setting) s e may)) (All-nil IsPrintable)

prints_from : Prints → (h : Home) (es : List Entry) (s : AgentState) → All IsPrintableEntry es → IsGood h.role s → All IsPrintable (goes_on h s es).out
unfolding goes_on
prints_from laws h [] s all good = All-nil IsPrintable
prints_from laws h (e ∷ es) s all good =
    let x = after h s e in
    let p = All-head IsPrintableEntry e es all in
    All-append IsPrintable x.out (goes_on h x.state es).out (entry_prints laws h.role s e p good) (prints_from laws h es x.state (All-tail IsPrintableEntry e es all) (laws.good h s e p good))

pub caused_is_printable : Prints → CausedIsPrintable
caused_is_printable laws h es all = prints_from laws h es blank_agent all (laws.blank h)
