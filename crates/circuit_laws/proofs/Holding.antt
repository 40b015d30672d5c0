-- A child's record that checks, holds or commits does so for the attempt of the view that knows it, in any two cuts of a run.
use Rattle.std.proofs.Common.{ℕ, ◌≡◌, ◌<◌, true, false, List, [], Contains, arith}
use Rattle.nsi_primitive.specs.Messages.{is_request}
use Rattle.nsi_primitive.specs.declared.entry.Entry.{Entry}
use Rattle.nsi_primitive.specs.declared.entry.Input.{Input}
use Rattle.nsi_primitive.specs.declared.message.Message.{Message}
use Rattle.stp_topology.specs.declared.network.Network.{Network}
use Rattle.connection_record.specs.Speaking.{is_answering}
use Rattle.agent_state.specs.State.{blank_agent}
use Rattle.aggregator_agent.specs.Setting.{Setting}
use Rattle.agent_speech.proofs.Every.{blank_is_even}
use Rattle.nsi_agent.specs.Homes.{aggregates}
use Rattle.nsi_agent.specs.Laws.{WhatIsSaidIsItsOwn}
use Rattle.nsi_agent.specs.Steps.{after}
use Rattle.nsi_agent.specs.Told.{Told, told}
use Rattle.nsi_agent.specs.Said.{name_in}
use Rattle.nsi_world.specs.Runs.{is_requester}
use Rattle.nsi_world.specs.Worlds.{Homes, IsAgent}
use Rattle.run_growth.specs.WorldCuts.{IsGrown}
use Rattle.run_growth.proofs.Sent.{Given}
use Rattle.circuit_link.specs.Children.{MayReach, IsFair}
use Rattle.circuit_link.specs.Headers.{header_of}
use Rattle.circuit_link.specs.Serving.{child_of}
use Rattle.circuit_pairs.specs.Pairs.{IsPair}
use Rattle.circuit_pairs.proofs.Parenting.{dec_pair}
use Rattle.circuit_laws.proofs.Aggregators.{blank_slot}
use Rattle.circuit_laws.proofs.Circuits.{grown_fits}
use Rattle.circuit_laws.proofs.Facts.{told_fair, told_once, request_said, answer_reaches}
use Rattle.circuit_laws.proofs.Induct.{told_then, CameTo, grown_by}
use Rattle.circuit_laws.proofs.Leading.{AsksOthers}
use Rattle.circuit_laws.proofs.Learnt.{role_turns}
use Rattle.circuit_laws.proofs.Pairs.{grown_pair}
use Rattle.circuit_laws.proofs.Roles.{views_of, aggregates_keep, serves_as, even_from}
use Rattle.circuit_laws.proofs.Tried.{AllTried, busy_within, served_tried}
use Rattle.circuit_laws.proofs.Trying.{turned_tried}

module _ (own_law : WhatIsSaidIsItsOwn) (t : Network) (homes : Homes) (given : Given homes) (a b : ℕ) (agent : IsAgent homes a) (other : IsAgent homes b) (apart : b ≡ a → ⊥) (asked : is_requester (homes b).role ≡ false)
    (setting : Setting) (role : (homes a).role ≡ aggregates setting) (leads : AsksOthers t homes a) where
  abbrev parent : List ℕ
  parent = name_in (homes a).role

  abbrev child : List ℕ
  child = name_in (homes b).role

  abbrev pub PairOf : Told → Told → Type 0
  PairOf x y = IsPair (ℕ × ℕ) (name_in (homes a).role) (name_in (homes b).role) (views_of (name_in (homes b).role) x.state) x.out (child_of y.state.base y.out)

  pub pair_of : (journal : ℕ → List Entry) → IsGrown homes journal → PairOf (told (homes a) (journal a)) (told (homes b) (journal b))
  pair_of journal grown = grown_pair homes given a b agent other apart asked (ℕ × ℕ) dec_pair (views_of child) (aggregates_keep (homes a).role setting child role) (blank_slot child) journal grown

  pub fair_of : (journal : ℕ → List Entry) → IsFair parent child (child_of (told (homes b) (journal b)).state.base (told (homes b) (journal b)).out)
  fair_of journal = told_fair (homes b) (journal b) parent

  -- what comes of the child to the parent may have been said
  pub reaches : (journal : ℕ → List Entry) → IsGrown homes journal → (e : Entry) → CameTo homes journal a e → (m : Message) → e.input ≡ Input.Got m → is_answering m.body ≡ true → m.header.provider ≡ child →
      MayReach (header_of parent child m.header.correlation) (told (homes b) (journal b)).out m.body
  reaches journal grown e came m got answers from = let c = came m got in answer_reaches homes given a b agent other journal grown m c.0 c.1 answers from

  -- what comes to the child in the parent's name was asked
  pub were_asked : (journal : ℕ → List Entry) → IsGrown homes journal → (e : Entry) → CameTo homes journal b e → (m : Message) → e.input ≡ Input.Got m → is_request m.body ≡ true → m.header.requester ≡ parent →
      Contains (told (homes a) (journal a)).out m
  were_asked journal grown e came m got asks from = request_said homes given a b agent other journal grown m (came m got).0 asks from

  abbrev pub TriedBoth : Told → Told → Type 0
  TriedBoth x y = AllTried (ℕ × ℕ) (name_in (homes a).role) (views_of (name_in (homes b).role) x.state) y.state.base.records

  by_parent : (journal : ℕ → List Entry) → IsGrown homes journal → (e : Entry) → CameTo homes journal a e → TriedBoth (told (homes a) (journal a)) (told (homes b) (journal b)) →
      TriedBoth (told_then (homes a) (told (homes a) (journal a)) e) (told (homes b) (journal b))
  by_parent journal grown e came tried =
      let x : Told = told (homes a) (journal a) in
      let y : Told = told (homes b) (journal b) in
      turned_tried setting.agent e.input parent child x.out (child_of y.state.base y.out) (fair_of journal) x.state (after (homes a) x.state e).state (after (homes a) x.state e).out
      (role_turns (homes a).role setting role x.state e (even_from (homes a) (journal a) blank_agent (blank_is_even (homes a)))) (grown_fits own_law t homes given a agent setting role leads journal grown).0
      (λ m got answers from. reaches journal grown e came m got answers from) (pair_of journal grown) tried

  by_child : (journal : ℕ → List Entry) → IsGrown homes journal → (e : Entry) → CameTo homes journal b e → TriedBoth (told (homes a) (journal a)) (told (homes b) (journal b)) →
      TriedBoth (told (homes a) (journal a)) (told_then (homes b) (told (homes b) (journal b)) e)
  by_child journal grown e came tried =
      let x : Told = told (homes a) (journal a) in
      let y : Told = told (homes b) (journal b) in
      served_tried (ℕ × ℕ) parent child (views_of child x.state) x.out (child_of y.state.base y.out) (pair_of journal grown) (fair_of journal) (told_once (homes a) (journal a)) tried e.input
      (after (homes b) y.state e).state.base.records (after (homes b) y.state e).state.base.seen (after (homes b) y.state e).out (were_asked journal grown e came) (serves_as (homes b).role asked y.state e y.out)

  pub grown_tried : (journal : ℕ → List Entry) → IsGrown homes journal → TriedBoth (told (homes a) (journal a)) (told (homes b) (journal b))
  grown_tried journal grown = grown_by homes a b apart TriedBoth (λ n owned busy. absurd (let l : n < 0 = busy_within [] n busy in omega (arith, l))) by_parent by_child journal grown
