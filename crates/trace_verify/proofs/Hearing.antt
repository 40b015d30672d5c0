-- Which acknowledgements may come to an agent.
use Rattle.std.proofs.Common.{ℕ, zero, suc, ◌≤◌, ◌<◌, ◌≡◌, ◌↔◌, ◌⊎◌, inl, inr, ◌∙◌, Bool, true, false, List, [], length, take, bytes_eq, Some, None, refl, sym, ap, subst, arith}
use Rattle.std.specs.List.{Contains}
use Rattle.std.proofs.lemmas.Bool.{cases_lt}
use Rattle.std.proofs.lemmas.List.Elements.{All-contains, All-take}
use Rattle.std.proofs.lemmas.Option.{slice_get-get_or}
use Rattle.std.proofs.lemmas.Slice.Eq.{bytes_eq-Decides}
use Rattle.nsi_primitive.specs.Messages.{addressee, identity, sender}
use Rattle.nsi_primitive.specs.declared.entry.Entry.{Entry}
use Rattle.nsi_primitive.specs.declared.entry.Input.{Input}
use Rattle.nsi_primitive.specs.declared.message.Identity.{Identity}
use Rattle.nsi_primitive.specs.declared.message.Message.{Message}
use Rattle.stp_topology.specs.Network.{agent_of, name_of}
use Rattle.stp_topology.specs.Sound.{IsSound}
use Rattle.stp_topology.specs.declared.network.Network.{Network}
use Rattle.nsi_agent.specs.Homes.{Routes, home_in}
use Rattle.nsi_agent.specs.Laws.{IsNamedAsDeclared, WhatIsSaidIsItsOwn}
use Rattle.followed_agent.specs.Kept.{HasTaken, seen, taking}
use Rattle.followed_agent.specs.declared.agent.Followed.{Followed}
use Rattle.nsi_world.specs.Heard.{IsFair, IsHeard}
use Rattle.nsi_world.specs.Worlds.{IsGot, IsSent, World, synced_part}
use Rattle.nsi_world.specs.Runs.{MayCome}
use Rattle.nsi_world.proofs.Names.{home_name}
use Rattle.trace_verify.specs.Standing.{IsFollower, Shows}
use Rattle.trace_verify.specs.declared.follower.Follower.{Follower}
use Rattle.trace_verify.proofs.Coming.{IsPlaced, both_ways, known, part_same}
use Rattle.trace_verify.proofs.Naming.{said_by_that, speaks}

take_none : (n : ℕ) → take {A = Entry} n [] ≡ []
take_none zero = refl
take_none (suc n) = refl

one_some : {X : Type 0} {p q : X} → Some p ≡ Some q → p ≡ q
one_some e = cc

-- an agent that has taken something is one of the topology
taken_within : (t : Network) (x : Follower) (w : World) (b : ℕ) (m : Message) → IsFollower t x → Shows x w → IsGot m (synced_part w b) → b < length t.agents
taken_within t x w b m is shows got = by (cases_lt b (length t.agents))
  where
    by : (b < length t.agents) ⊎ (length t.agents ≤ b) → b < length t.agents
    by (inl lt) = lt
    by (inr past) =
        let none : synced_part w b ≡ [] = ap (take (w.synced b)) (shows.others b (omega (arith, past, is.many))) ∙ take_none (w.synced b) in
        let its = subst (λ es. Contains es (taking got.second m)) none got.there in
        absurd (omega (arith, its.1))

pub heard_of_nobody : (t : Network) (routes : Routes) (x : Follower) (w : World) (a : ℕ) (i : Identity) (to : List ℕ) → IsSound t → IsFollower t x → Shows x w → to ≡ addressee i → agent_of t to ≡ None
    → (false ≡ true) ↔ MayCome (home_in t routes) w a (Input.Acked i)
heard_of_nobody t routes x w a i to sound is shows to_is none = (
  λ e. absurd (cc),
  λ may.
      let m = may.0 in
      let b = may.1 in
      let taken = may.3 in
      let within = taken_within t x w b m is shows taken.got in
      let name : name_of t b ≡ to = sym (home_name t routes b) ∙ (sym taken.addressed ∙ (ap addressee may.2 ∙ sym to_is)) in
      let found = ap (agent_of t) (sym name) ∙ sound.agents b (name_of t b) (slice_get-get_or t.agents b [] within) in
      absurd (cc),
)

-- what is given: the laws of what an agent says, and a world in which what was heard was sent
module _ (own : WhatIsSaidIsItsOwn) (named : IsNamedAsDeclared) (t : Network) (routes : Routes) (w : World) (fair : IsFair (home_in t routes) w) where
  -- an agent hears nothing of what is in another's name
  pub heard_by_another : (a : ℕ) (i : Identity) (from name : List ℕ) (is : Bool) → from ≡ sender i → name ≡ name_of t a → is ≡ bytes_eq from name → is ≡ false → (false ≡ true) ↔ MayCome (home_in t routes) w a (Input.Acked i)
  heard_by_another a i from name is from_is name_is value other = (
    λ e. absurd (cc),
    λ may.
        let same : from ≡ name = from_is ∙ (ap sender (sym may.2) ∙ (speaks own named t routes w fair a may.0 may.3.said.1 ∙ sym name_is)) in
        let equal = (bytes_eq-Decides from name).1 same in
        absurd (cc),
  )

  -- what an agent has heard was sent
  sent_to : (b : ℕ) (m : Message) → IsGot m (synced_part w b) → IsSent (home_in t routes) w m
  sent_to b m got =
      let h = All-contains (IsHeard (home_in t routes) w b) (synced_part w b) (taking got.second m) (All-take (IsHeard (home_in t routes) w b) (w.synced b) (w.journal b) (fair.heard b)) got.there in
      h.sent.0

  pub heard_of : (x : Follower) (a b : ℕ) (g : Followed) (i : Identity) (from name to : List ℕ) (its is : Bool) → IsSound t → IsFollower t x → Shows x w → IsPlaced t w b g → a < length t.agents
      → from ≡ sender i → name ≡ name_of t a → its ≡ bytes_eq from name → its ≡ true
      → to ≡ addressee i → agent_of t to ≡ Some b → name_of t b ≡ to → (is ≡ true) ↔ HasTaken (seen g) i → (is ≡ true) ↔ MayCome (home_in t routes) w a (Input.Acked i)
  heard_of x a b g i from name to its is sound follower shows other within from_is name_is value own_name to_is found back taken = both_ways taken one two
    where
      of_this : name_of t a ≡ sender i
      of_this = sym name_is ∙ (sym ((bytes_eq-Decides from name).0 (sym value ∙ own_name)) ∙ from_is)

      one : HasTaken (seen g) i → MayCome (home_in t routes) w a (Input.Acked i)
      one p =
          let m = p.0 in
          let got : IsGot m (synced_part w b) = record { second = p.2.0; there = subst (λ es. Contains es (taking p.2.0 m)) (part_same t w b g other) p.2.1 } in
          let this : agent_of t (sender (identity m)) ≡ Some a = ap (agent_of t) (ap sender p.1 ∙ sym of_this) ∙ sound.agents a (name_of t a) (slice_get-get_or t.agents a [] within) in (
            m,
            b,
            p.1,
            record {
              said = (known t routes a sound within, said_by_that own named t routes w fair sound m a this (sent_to b m got));
              addressed = ap addressee p.1 ∙ (sym to_is ∙ (sym back ∙ sym (home_name t routes b)));
              got = got;
            },
          )

      two : MayCome (home_in t routes) w a (Input.Acked i) → HasTaken (seen g) i
      two may =
          let m = may.0 in
          let c = may.1 in
          let taken = may.3 in
          let there_within = taken_within t x w c m follower shows taken.got in
          let name : name_of t c ≡ to = sym (home_name t routes c) ∙ (sym taken.addressed ∙ (ap addressee may.2 ∙ sym to_is)) in
          let at_c : agent_of t to ≡ Some c = ap (agent_of t) (sym name) ∙ sound.agents c (name_of t c) (slice_get-get_or t.agents c [] there_within) in
          let same : c ≡ b = one_some (sym at_c ∙ found) in
          let there = subst (λ k. Contains (synced_part w k) (taking taken.got.second m)) same taken.got.there in (
            m,
            may.2,
            (taken.got.second, subst (λ es. Contains es (taking taken.got.second m)) (sym (part_same t w b g other)) there),
          )
