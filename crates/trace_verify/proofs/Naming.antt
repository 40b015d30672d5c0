-- Each message is said by the agent in whose name it is.
use Rattle.std.proofs.Common.{ℕ, ◌<◌, ◌≡◌, ◌↔◌, ◌∙◌, Bool, true, false, cond, List, [], length, Some, None, sym, ap, subst}
use Rattle.std.specs.List.{All, Contains}
use Rattle.std.proofs.lemmas.List.Elements.{All-contains, All-take, All-weaker}
use Rattle.std.proofs.lemmas.Option.{slice_get-get_or}
use Rattle.nsi_primitive.specs.Messages.{identity, is_request, sender}
use Rattle.nsi_primitive.specs.declared.entry.Input.{Input}
use Rattle.nsi_primitive.specs.declared.message.Message.{Message}
use Rattle.stp_topology.specs.Network.{agent_of, name_of}
use Rattle.stp_topology.specs.Sound.{IsSound}
use Rattle.stp_topology.specs.declared.network.Network.{Network}
use Rattle.nsi_agent.specs.Homes.{Routes, home_in}
use Rattle.nsi_agent.specs.Laws.{IsNamedAsDeclared, WhatIsSaidIsItsOwn}
use Rattle.nsi_agent.specs.Said.{Asks, HasAsked, IsFor, IsForIn, IsSaid, IsSaidAs, name_in}
use Rattle.nsi_world.specs.Heard.{IsFair, IsHeard, WasSent}
use Rattle.nsi_world.specs.Worlds.{Homes, IsSent, World, said, synced_part}
use Rattle.nsi_world.proofs.Names.{home_name}
use Rattle.run_text.proofs.Places.{agent_within}
use Rattle.trace_verify.proofs.Coming.{both_ways, sent_by}

one_some : {X : Type 0} {p q : X} → Some p ≡ Some q → p ≡ q
one_some e = cc

sender_as : (asks : Bool) (name : List ℕ) (to owed : List ℕ → Type 0) (m : Message) → IsSaidAs asks name to owed m → cond asks m.header.requester m.header.provider ≡ name
sender_as true name to owed m h = h.0
sender_as false name to owed m h = h.0

-- what is given: the laws of what an agent says, and a world in which what was heard was sent
module _ (own : WhatIsSaidIsItsOwn) (named : IsNamedAsDeclared) (t : Network) (routes : Routes) (w : World) (fair : IsFair (home_in t routes) w) where
  abbrev homes : Homes
  homes = home_in t routes

  input_for : (a : ℕ) (i : Input) → WasSent homes w a i → IsFor (name_in (homes a).role) i
  input_for a (Input.Got m) s = s.1 ∙ sym (named t routes a).0
  input_for a (Input.Ask n ask) s = tt
  input_for a (Input.Work n machine) s = tt
  input_for a (Input.Force n) s = tt
  input_for a Input.Tick s = tt
  input_for a (Input.Acked i) s = tt

  all_for : (a : ℕ) → All (IsForIn (name_in (homes a).role)) (synced_part w a)
  all_for a =
      All-weaker (IsHeard homes w a) (IsForIn (name_in (homes a).role)) (λ e h. input_for a e.input h.sent) (synced_part w a) (All-take (IsHeard homes w a) (w.synced a) (w.journal a) (fair.heard a))

  -- what an agent says, it says in its name
  pub speaks : (a : ℕ) (m : Message) → Contains (said homes w a) m → sender (identity m) ≡ name_of t a
  speaks a m its =
      let P : Message → Type 0 = IsSaid (name_in (homes a).role) (Asks (homes a).role) (HasAsked (synced_part w a)) in
      sender_as (is_request m.body) (name_in (homes a).role) (Asks (homes a).role) (HasAsked (synced_part w a)) m (All-contains P (said homes w a) m (own (homes a) (synced_part w a) (all_for a)) its)
      ∙ ((named t routes a).0 ∙ home_name t routes a)

  module _ (sound : IsSound t) where
    -- who has sent a message is the agent of that name
    pub sent_by_agent : (m : Message) (sent : IsSent homes w m) → agent_of t (sender (identity m)) ≡ Some sent.0
    sent_by_agent m sent =
        let within = agent_within t routes sent.0 sent.1.0 in
        ap (agent_of t) (speaks sent.0 m sent.1.1) ∙ sound.agents sent.0 (name_of t sent.0) (slice_get-get_or t.agents sent.0 [] within)

    pub sent_of_nobody : (m : Message) (name : List ℕ) → name ≡ sender (identity m) → agent_of t name ≡ None → (false ≡ true) ↔ IsSent homes w m
    sent_of_nobody m name is none = (
      λ e. absurd (cc),
      λ sent. let both = sym none ∙ (ap (agent_of t) is ∙ sent_by_agent m sent) in absurd (cc),
    )

    -- that agent has said it
    pub said_by_that : (m : Message) (b : ℕ) → agent_of t (sender (identity m)) ≡ Some b → IsSent homes w m → Contains (said homes w b) m
    said_by_that m b found sent = subst (λ k. Contains (said homes w k) m) (one_some (sym (sent_by_agent m sent) ∙ found)) sent.1.1

    pub sent_of : (m : Message) (name : List ℕ) (b : ℕ) (is : Bool) → name ≡ sender (identity m) → agent_of t name ≡ Some b → b < length t.agents → (is ≡ true) ↔ Contains (said homes w b) m → (is ≡ true) ↔ IsSent homes w m
    sent_of m name b is name_is found within tells = both_ways tells (sent_by t routes w b m sound within) (said_by_that m b (ap (agent_of t) (sym name_is) ∙ found))
