-- Where nothing is lost the answer of a provider comes to the agent that asked.
use Rattle.std.proofs.Common.{ℕ, ◌≡◌, ◌<◌, ◌∙◌, true, false, List, sym, ap, subst, arith, length}
use Rattle.std.specs.List.{All, Contains}
use Rattle.std.proofs.lemmas.List.Elements.{All-contains}
use Rattle.nsi_primitive.specs.Kinds.{is_request_kind}
use Rattle.nsi_primitive.specs.Messages.{kind_of, is_request}
use Rattle.nsi_primitive.specs.declared.entry.Entry.{Entry}
use Rattle.nsi_primitive.specs.declared.entry.Event.{Event}
use Rattle.nsi_primitive.specs.declared.entry.Input.{Input}
use Rattle.nsi_primitive.specs.declared.kind.Kind.{Kind}
use Rattle.nsi_primitive.specs.declared.message.Header.{Header}
use Rattle.nsi_primitive.specs.declared.message.Message.{Message}
use Rattle.stp_topology.specs.Laws.{IsWellFormed}
use Rattle.stp_topology.specs.Sound.{IsSound}
use Rattle.stp_topology.specs.declared.network.Network.{Network}
use Rattle.nsi_agent.specs.Homes.{Routes, home_in}
use Rattle.nsi_agent.specs.Told.{WasGot}
use Rattle.nsi_world.specs.Heard.{IsFair}
use Rattle.nsi_world.specs.Laws.{HeardWasSent, RequestsAreOne, PlayIsRun}
use Rattle.nsi_world.specs.Runs.{world_after, AreAllowed}
use Rattle.nsi_world.specs.Worlds.{Homes, IsAgent, World, empty, said, IsSaidBy, IsTo, IsGot}
use Rattle.run_growth.proofs.Sent.{Given, given_in, request_asks, agents_same, got_sent, to_requester, request_by}
use Rattle.settled_play.specs.Settled.{IsDone, PlayLeavesNone}
use Rattle.request_answers.specs.Answers.{is_answer, IsAnswered}
use Rattle.answered_play.specs.Answered.{AnswersAll, AnswersCome}
use Rattle.answered_play.specs.Laws.{PlayAnswers, PlayBringsAnswers}
use Rattle.answered_play.proofs.Plays.{provider_within}
use Rattle.answered_play.proofs.Taking.{bringing, IsEarlier, earlier_is}

-- no request is an answer
answer_asks_nothing : (k l : Kind) → is_answer k l ≡ true → is_request_kind l ≡ false
unfolding is_answer
answer_asks_nothing k l h = grind (arith, h)

is_agent : (t : Network) (routes : Routes) → IsWellFormed t → (a : ℕ) → a < length t.agents → IsAgent (home_in t routes) a
unfolding home_in
is_agent t routes well a lt = well.agents a lt

-- in a world of a run in which all that is said is got, and providers have answered
module _ (one : RequestsAreOne) (t : Network) (routes : Routes) (events : List Event) (run : AreAllowed (home_in t routes) empty events) (fair : IsFair (home_in t routes) (world_after empty events)) where
  abbrev homes : Homes
  homes = home_in t routes

  abbrev w : World
  w = world_after empty events

  abbrev given : Given homes
  given = given_in t routes

  abbrev AllDone : Type 0
  AllDone = (a : ℕ) → a < length t.agents → All (IsDone t homes w a) (said homes w a)

  module _ (well : IsWellFormed t) (all : AllDone) where
    -- what is said to an agent it has got
    got_by : (a b : ℕ) (m : Message) → a < length t.agents → b < length t.agents → Contains (said homes w a) m → IsTo homes b m → WasGot m (w.journal b)
    got_by a b m la lb c to =
        let done : IsDone t homes w a m = All-contains (IsDone t homes w a) (said homes w a) m (all a la) c in
        let same : done.0 ≡ b = agents_same homes given w fair done.0 b (is_agent t routes well done.0 done.1) (is_agent t routes well b lb) (sym done.2 ∙ to) in
        subst (λ z. WasGot m (w.journal z)) same done.3

    -- a request that is got is the one that was said
    request_got : (a b : ℕ) (m : Message) → IsSaidBy homes w a m → is_request m.body ≡ true → WasGot m (w.journal b) → IsGot m (w.journal b)
    request_got a b m s asks got =
        let x : Entry = got.0 in
        let e : IsEarlier m x = earlier_is m x asks got.2 in
        let is : x ≡ bringing x.second e.message = ap (λ (i : Input). record { second = x.second; input = i }) e.input in
        let there : IsGot e.message (w.journal b) = record { second = x.second; there = subst (Contains (w.journal b)) is got.1 } in
        let same : e.message ≡ m = one t routes events m e.message run (a, s) (got_sent homes given w fair b e.message there).0 asks e.asks e.header in
        subst (λ (z : Message). IsGot z (w.journal b)) same there

    come : AnswersAll t homes w → IsSound t → AnswersCome t homes w
    come answered sound a b m la is c asks to =
        let lb : b < length t.agents = provider_within t b sound is in
        let s : IsSaidBy homes w a m = (is_agent t routes well a la, c) in
        let ans : IsAnswered m (said homes w b) = answered.providers b m is (request_got a b m s asks (got_by a b m la lb c to)) asks in
        let n : Message = ans.0 in
        let done : IsDone t homes w b n = All-contains (IsDone t homes w b) (said homes w b) n (all b lb) ans.1 in
        let requester : n.header.requester ≡ (homes done.0).name = to_requester homes given w fair done.0 n (answer_asks_nothing (kind_of m.body) (kind_of n.body) ans.2.kind) done.2 in
        let asker : (homes a).name ≡ m.header.requester = request_by homes given w fair a m s (request_asks m asks) in
        let same : done.0 ≡ a = agents_same homes given w fair done.0 a (is_agent t routes well done.0 done.1) (is_agent t routes well a la)
        (sym requester ∙ (ap (λ (h : Header). h.requester) ans.2.header ∙ sym asker)) in
        (n, ans.2, subst (λ z. WasGot n (w.journal z)) same done.3)

pub play_brings_answers : HeardWasSent → RequestsAreOne → PlayIsRun → PlayLeavesNone → PlayAnswers → PlayBringsAnswers
play_brings_answers sent one is_run leaves answers t routes plans groups events last none sound well routed rising acts play on few =
    let run : AreAllowed (home_in t routes) empty events = (is_run t routes plans groups events last well rising acts play few).allowed in
    come one t routes events run (sent (home_in t routes) events run) well (leaves t routes plans groups events last none sound well routed rising acts play on)
    (answers t routes plans groups events last sound well rising acts play few) sound
