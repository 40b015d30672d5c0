-- All messages together: requests, notices that they are late, what is paid by requests that were taken, and changes of the data plane.
use Rattle.std.proofs.Common.{◌≡◌, ◌≤◌, ◌+◌, ◌*◌, ◌∙◌, ℕ, Bool, true, false, List, [], ◌∷◌, refl, ap, arith, length, if◌then◌else◌}
use Rattle.std.specs.List.{All, Contains, sum_by}
use Rattle.std.proofs.lemmas.List.Elements.{All-head, All-tail, All-weaker, All-contains_itself}
use Rattle.std.proofs.lemmas.List.Sums.{sum_by-cons}
use Rattle.nsi_primitive.specs.Messages.{is_request}
use Rattle.nsi_primitive.specs.declared.entry.Event.{Event}
use Rattle.nsi_primitive.specs.declared.message.Body.{Body}
use Rattle.nsi_primitive.specs.declared.message.Message.{Message}
use Rattle.stp_topology.specs.Laws.{IsWellFormed}
use Rattle.stp_topology.specs.Sound.{IsSound}
use Rattle.stp_topology.specs.declared.network.Network.{Network}
use Rattle.connection_record.specs.Speaking.{one, tally, is_asking, is_noting, is_answering}
use Rattle.agent_node.specs.Openings.{agents}
use Rattle.nsi_agent.specs.Homes.{Role, provides, aggregates, requests, Routes, AreRoutes, home_in}
use Rattle.nsi_agent.specs.Laws.{WhatIsSaidIsItsOwn}
use Rattle.nsi_agent.specs.Told.{told}
use Rattle.nsi_world.specs.Worlds.{Homes, World, empty, IsAgent}
use Rattle.nsi_world.specs.Runs.{is_provider, is_requester, world_after, AreAllowed}
use Rattle.nsi_world.specs.Laws.{HeardWasSent}
use Rattle.speech_cost.specs.Changes.{is_change, says_change}
use Rattle.speech_cost.specs.Costs.{cost, messages_cost, is_own, says_own, is_late_notice, says_late, asks}
use Rattle.speech_cost.specs.Laws.{ProvidersSayLittle, AggregatorsSayLittle, LatesAreFew}
use Rattle.heard_changes.specs.Laws.{ChangesAreHeard}
use Rattle.run_changes.specs.Told.{changes_by, provider_changes_by}
use Rattle.run_changes.specs.Laws.{MessagesAreFew}
use Rattle.run_changes.proofs.Children.{HasParent, parent_of}
use Rattle.run_changes.proofs.Few.{all_agents, changes_are_few}

---- Of which kind a message is

-- a request, an answer or a forced end, a late one's notice, or a change
some_kind : (b : Body) → 1 ≤ one (is_asking b) + (one (is_own b) + (one (is_late_notice b) + one (is_change b)))
unfolding is_asking is_noting is_answering
some_kind b = grind arith

all_kinds : (ms : List Message) → length ms ≤ tally asks ms + (tally says_own ms + (tally says_late ms + tally says_change ms))
unfolding tally
all_kinds [] = omega arith
all_kinds (m ∷ ms) = omega (arith, some_kind m.body, all_kinds ms)

-- a change costs four more than another message
cost_is : (b : Body) → cost b ≡ 1 + 4 * one (is_change b)
cost_is b = grind arith

costs_are : (ms : List Message) → messages_cost ms ≡ length ms + 4 * tally says_change ms
unfolding messages_cost tally
costs_are [] = refl
costs_are (m ∷ ms) = omega (arith, cost_is m.body, costs_are ms)

-- where each asks, all do
all_asks : (ms : List Message) → All (λ m. is_asking m.body ≡ true) ms → length ms ≤ tally asks ms
unfolding tally
all_asks [] all = omega arith
all_asks (m ∷ ms) all = omega (arith, ap one (All-head (λ (x : Message). is_asking x.body ≡ true) m ms all), all_asks ms (All-tail (λ (x : Message). is_asking x.body ≡ true) m ms all))

asking_is : (b : Body) → is_asking b ≡ is_request b
unfolding is_asking
asking_is b = refl

---- Sums

-- what holds of each holds of the sums
sums_paid : (l q n r c : ℕ → ℕ) (ns : List ℕ) → All (λ a. l a + 5 * q a ≤ 30 * n a + 2 * r a + c a) ns → sum_by l ns + 5 * sum_by q ns ≤ 30 * sum_by n ns + 2 * sum_by r ns + sum_by c ns
sums_paid l q n r c [] all = omega arith
sums_paid l q n r c (a ∷ ns) all =
    omega (
      arith,
      All-head (λ k. l k + 5 * q k ≤ 30 * n k + 2 * r k + c k) a ns all,
      sums_paid l q n r c ns (All-tail (λ k. l k + 5 * q k ≤ 30 * n k + 2 * r k + c k) a ns all),
      sum_by-cons l a ns,
      sum_by-cons q a ns,
      sum_by-cons n a ns,
      sum_by-cons r a ns,
      sum_by-cons c a ns,
    )

module _ (own : WhatIsSaidIsItsOwn) (sent : HeardWasSent) (once : ChangesAreHeard) (providers : ProvidersSayLittle) (aggregators : AggregatorsSayLittle) (lates : LatesAreFew) (t : Network) (routes : Routes)
    (events : List Event) (sound : IsSound t) (formed : IsWellFormed t) (routed : AreRoutes t routes) (run : AreAllowed (home_in t routes) empty events) where
  abbrev homes : Homes
  homes = home_in t routes

  abbrev w : World
  w = world_after empty events

  abbrev out : ℕ → List Message
  out a = (told (homes a) (w.journal a)).out

  abbrev taken : ℕ → ℕ
  taken a = length (told (homes a) (w.journal a)).state.base.seen

  -- a requester tells nothing but requests, since nobody asks it
  requester_asks : (a : ℕ) → IsAgent homes a → is_requester (homes a).role ≡ true → length (out a) ≤ tally asks (out a)
  requester_asks a is asks = all_asks (out a) (All-weaker (Contains (out a)) (λ m. is_asking m.body ≡ true) (λ m c. by m c (is_request m.body) refl) (out a) (All-contains_itself (out a)))
    where
      never : (x : Bool) → x ≡ true → x ≡ false → ⊥
      never x p q = absurd (cc)

      by : (m : Message) → Contains (out a) m → (b : Bool) → is_request m.body ≡ b → is_asking m.body ≡ true
      by m c true e = asking_is m.body ∙ e
      by m c false e = let p : HasParent t homes a m = parent_of own sent t routes events sound formed routed run a m is c e in absurd (never (is_requester (homes a).role) asks p.child.asked)

  paid_here : (a : ℕ) → IsAgent homes a → length (out a) + 5 * provider_changes_by homes w a ≤ 30 * taken a + 2 * tally asks (out a) + changes_by homes w a
  paid_here a is = by (homes a).role refl
    where
      by : (role : Role) → (homes a).role ≡ role → length (out a) + 5 * (if is_provider role then changes_by homes w a else 0) ≤ 30 * taken a + 2 * tally asks (out a) + changes_by homes w a
      by (provides setting stp_of) e = omega (arith, providers (homes a) setting stp_of (w.journal a) e, costs_are (out a))
      by (aggregates setting) e = omega (arith, all_kinds (out a), aggregators (homes a) setting (w.journal a) e, lates (homes a) setting (w.journal a) e)
      by (requests setting) e = omega (arith, requester_asks a is (ap is_requester e))

pub messages_are_few : WhatIsSaidIsItsOwn → HeardWasSent → ChangesAreHeard → ProvidersSayLittle → AggregatorsSayLittle → LatesAreFew → MessagesAreFew
messages_are_few own sent once providers aggregators lates t routes events sound formed routed run =
    let homes : Homes = home_in t routes in
    let w : World = world_after empty events in
    let ns : List ℕ = agents t in
    omega (
      arith,
      changes_are_few own sent once t routes events sound formed routed run,
      sums_paid (λ a. length (told (homes a) (w.journal a)).out) (provider_changes_by homes w) (λ a. length (told (homes a) (w.journal a)).state.base.seen) (λ a. tally asks (told (homes a) (w.journal a)).out)
          (changes_by homes w) ns
          (All-weaker (IsAgent homes)
          (λ a. length (told (homes a) (w.journal a)).out + 5 * provider_changes_by homes w a ≤ 30 * length (told (homes a) (w.journal a)).state.base.seen + 2 * tally asks (told (homes a) (w.journal a)).out + changes_by homes w a)
          (paid_here own sent once providers aggregators lates t routes events sound formed routed run) ns (all_agents t routes formed)),
    )
