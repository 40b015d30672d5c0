-- So each request is answered, or an answer of a child is missing.
use Rattle.std.proofs.Common.{ℕ, ◌≡◌, ◌<◌, ◌⊎◌, ◌∙◌, List, Option, sym, ap, subst, arith, length, take}
use Rattle.std.proofs.lemmas.List.{take_all}
use Rattle.std.proofs.lemmas.Option.{slice_get_within}
use Rattle.nsi_primitive.specs.declared.entry.Entry.{Entry}
use Rattle.stp_topology.specs.Sound.{IsSound, IsProvider, IsAggregator}
use Rattle.stp_topology.specs.declared.network.AgentKind.{AgentKind}
use Rattle.stp_topology.specs.declared.network.Network.{Network}
use Rattle.provider_agent.specs.Setting.{setting_of, own_stp}
use Rattle.aggregator_agent.specs.Setting.{setting_of as aggregator_of, agent_in}
use Rattle.nsi_agent.specs.Homes.{aggregates, Routes, role_in, home_in}
use Rattle.nsi_agent.specs.Told.{told}
use Rattle.nsi_world.specs.Laws.{PlayIsRun, PlayRests}
use Rattle.nsi_world.specs.Rest.{IsAtRest}
use Rattle.nsi_world.specs.Runs.{world_after, AreAllowed}
use Rattle.nsi_world.specs.Worlds.{Homes, World, empty, synced_part, said}
use Rattle.run_growth.proofs.Honest.{role_is}
use Rattle.request_answers.specs.Answers.{IsAnswered}
use Rattle.request_answers.specs.Laws.{ProvidersAnswerOrWork, IdleProvidersHaveAnswered, AggregatorsAnswerOrWait}
use Rattle.answered_play.specs.Answered.{caused_in, IsWaitedFor}
use Rattle.answered_play.specs.Laws.{GotWasTaken, RunsAnswer, AnswersAtRest, PlayAnswers}

---- The agents of a topology

aggregator_is : (t : Network) (routes : Routes) (a : ℕ) → IsAggregator t a → (home_in t routes a).role ≡ aggregates (aggregator_of t (agent_in t a) (routes a))
unfolding home_in
aggregator_is t routes a is = ap (λ (o : Option AgentKind). role_in o t routes a) is

pub provider_within : (t : Network) (a : ℕ) → IsSound t → IsProvider t a → a < length t.agents
provider_within t a sound p = let lt = slice_get_within t.kinds a (AgentKind.Provider p.0) p.1 in omega (arith, lt, sound.fit.kinds)

aggregator_within : (t : Network) (a : ℕ) → IsSound t → IsAggregator t a → a < length t.agents
aggregator_within t a sound is = let lt = slice_get_within t.kinds a AgentKind.Aggregator is in omega (arith, lt, sound.fit.kinds)

-- the laws of agents, each with its journal
pub record AgentLaws : Type 0 where
  pub works : ProvidersAnswerOrWork
  pub idle : IdleProvidersHaveAnswered
  pub waits : AggregatorsAnswerOrWait

---- Runs

pub runs_answer : GotWasTaken → AgentLaws → RunsAnswer
runs_answer taken laws t routes events run =
    let homes : Homes = home_in t routes in
    let w : World = world_after empty events in
    record {
      providers = λ a m is got asks. laws.works (homes a) (setting_of t a) (own_stp t a) (w.journal a) m (role_is t routes a is) (taken t routes events a m run got asks);
      aggregators = λ a m is got asks.
          laws.waits (homes a) (aggregator_of t (agent_in t a) (routes a)) (w.journal a) m (aggregator_is t routes a is) (taken t routes events a m run got asks);
    }

---- At rest

-- where all is synced, what is caused is said
said_whole : (homes : Homes) (w : World) (a : ℕ) → IsAtRest homes w a → said homes w a ≡ caused_in homes w a
said_whole homes w a rest =
    let whole : synced_part w a ≡ w.journal a = ap (λ k. take k (w.journal a)) rest.synced ∙ take_all (length (w.journal a)) (w.journal a) (omega arith) in
    ap (λ (es : List Entry). (told (homes a) es).out) whole

pub answers_at_rest : GotWasTaken → AgentLaws → AnswersAtRest
answers_at_rest taken laws t routes events sound run rests =
    record {
      providers = λ a m is got asks.
          let rest : IsAtRest homes w a = rests a (provider_within t a sound is) in
          subst (λ out. IsAnswered m out) (sym (said_whole homes w a rest))
          (laws.idle (homes a) (setting_of t a) (own_stp t a) (w.journal a) m (role_is t routes a is) (taken t routes events a m run got asks) rest.idle);
      aggregators = λ a m is got asks.
          subst (λ out. IsAnswered m out ⊎ IsWaitedFor t homes w a m) (sym (said_whole homes w a (rests a (aggregator_within t a sound is))))
          ((runs_answer taken laws t routes events run).aggregators a m is got asks);
    }
  where
    homes : Homes
    homes = home_in t routes

    w : World
    w = world_after empty events

pub play_answers : AnswersAtRest → PlayIsRun → PlayRests → PlayAnswers
play_answers answers is_run rests t routes plans groups events last sound well rising acts play few =
    answers t routes events sound (is_run t routes plans groups events last well rising acts play few).allowed (rests t routes plans groups events last well rising acts play)
