-- What is held behind a run reads as the journals of the agents in the world that its events make.
use Rattle.std.proofs.Common.{ℕ, zero, suc, ◌+◌, ◌<◌, ◌≤◌, ◌≡◌, Bool, true, false, List, [], ◌∷◌, ◌++◌, inl, inr, Option, Some, refl, sym, ap, ap₂, ◌∙◌, subst, arith, length, map, take}
use Rattle.std.specs.Prelude.{Result, Ok, Err, OnOk, IfSome, is_some, bytes_eq}
use Rattle.std.specs.List.{All, range_with_len}
use Rattle.std.proofs.lemmas.Bool.{cases_eq, false_from_ne_true}
use Rattle.std.proofs.lemmas.List.{take_all}
use Rattle.std.proofs.lemmas.List.Elements.{All-head, All-tail}
use Rattle.std.proofs.lemmas.Slice.Eq.{bytes_eq-Decides}
use Rattle.nsi_primitive.specs.declared.entry.Entry.{Entry}
use Rattle.nsi_primitive.specs.declared.entry.Event.{Event}
use Rattle.journal_entry.specs.Journal.{Kept as Journaled}
use Rattle.journal_entry.specs.Journals.{recovers}
use Rattle.journal_entry.specs.Payloads.{batch_of}
use Rattle.stp_topology.specs.declared.network.Network.{Network}
use Rattle.stp_topology.specs.Network.{agent_of, name_of}
use Rattle.stp_topology.specs.Laws.{IsWellFormed}
use Rattle.nsi_script.specs.declared.script.Group.{Group}
use Rattle.nsi_script.specs.Fits.{IsActOf, IsRising}
use Rattle.nsi_script.specs.Scripts.{acts_of, seconds_of}
use Rattle.nsi_agent.specs.Homes.{Home, home_in}
use Rattle.agent_node.specs.Openings.{Plans, seat_of}
use Rattle.agent_node.specs.Kept.{Kept, IsSameAgent}
use Rattle.nsi_play.specs.Rounds.{Net}
use Rattle.nsi_play.specs.Play.{untold_net}
use Rattle.nsi_play.specs.Openings.{opening}
use Rattle.least_routes.specs.Laws.{RoutesExist}
use Rattle.nsi_world.specs.Worlds.{World, empty, synced_part}
use Rattle.nsi_world.specs.Runs.{world_after}
use Rattle.nsi_world.specs.Seats.{Stands}
use Rattle.nsi_world.specs.Rest.{IsAtRest}
use Rattle.stopped_play.specs.Laws.{StoppedPlayStands, StoppedPlayRests}
use Rattle.stopped_play.specs.Tapes.{Stops}
use Rattle.run_totals.specs.declared.totals.Totals.{Totals}
use Rattle.agent_threads.specs.declared.fault.RunFault.{RunFault}
use Rattle.agent_threads.specs.Nets.{seats, seats_by, seen, synced_in, numbers, EachIs, IsAsPlanned, AreUsable, IsAbsent, AreApart, AreOwned, AreSame}
use Rattle.agent_threads.specs.Leaving.{StayOwned}
use Rattle.agent_threads.specs.Promise.{PlaysTo}
use Rattle.agent_threads.specs.Stopping.{more_stops, NoneStopped, IsPlayByTapes}
use Rattle.agent_threads.proofs.Same.{same_agents}
use Rattle.nsi_script.specs.declared.script.StopLine.{StopLine}
use Rattle.stopped_play.specs.Play.{IsPlayBy}
use Rattle.net_run.specs.Begun.{AreListed, restarts_from}
use Rattle.net_run.proofs.Remaking.{stops_by, plays_behind}
use Rattle.net_run.specs.Journals.{AllTell, IsUnnamed, AreNamedApart, AreToReturn, AreRead}
use Rattle.net_run.specs.Worlds.{KeepsJournals}
use Rattle.net_run.proofs.Beginning.{listed_same}
use Rattle.net_run.proofs.Running.{AreFresh, all_told}

---- Before anything has happened

numbers_are : (t : Network) (plans : Plans) (ns : List ℕ) → numbers (untold_net (map (seat_of t plans) ns)) ≡ ns
numbers_are t plans [] = refl
numbers_are t plans (n ∷ ns) = ap (λ (xs : List ℕ). n ∷ xs) (numbers_are t plans ns)

---- What their journals tell

owned_tell : (homes : ℕ → Home) (ks : List Kept) → AreOwned homes ks → AllTell ks
owned_tell homes [] w = tt
owned_tell homes (k ∷ ks) w = (ap (λ (o : Option Journaled). is_some o) w.0.1, owned_tell homes ks w.1)

---- Names

module _ (t : Network) (formed : IsWellFormed t) where
  -- different agents have different names
  other_name : (a b : ℕ) → a < length t.agents → b < length t.agents → (a ≡ b → ⊥) → bytes_eq (name_of t b) (name_of t a) ≡ false
  other_name a b h l n = false_from_ne_true (bytes_eq (name_of t b) (name_of t a)) (λ e.
      let same : name_of t b ≡ name_of t a = (bytes_eq-Decides (name_of t b) (name_of t a)).0 e in
      let found : Some a ≡ Some b = sym (formed.agents a h) ∙ (ap (agent_of t) (sym same) ∙ formed.agents b l) in
      n (cc))

  unnamed : (listed : List ℕ → Bool) (a : ℕ) (xs ys : List Kept) → a < length t.agents → AreListed listed t xs → EachIs IsSameAgent xs ys → IsAbsent a (numbers (seats xs)) → IsUnnamed t (name_of t a) ys
  unnamed listed a [] [] h l s n = tt
  unnamed listed a [] (y ∷ ys) h l s n = absurd s
  unnamed listed a (x ∷ xs) [] h l s n = absurd s
  unnamed listed a (x ∷ xs) (y ∷ ys) h l s n = (
    subst (λ (b : ℕ). bytes_eq (name_of t b) (name_of t a) ≡ false) (sym s.0.number) (other_name a x.seat.number h l.0.0 n.0),
    unnamed listed a xs ys h l.1 s.1 n.1,
  )

  named_apart : (listed : List ℕ → Bool) (xs ys : List Kept) → AreListed listed t xs → EachIs IsSameAgent xs ys → AreApart (seats xs) → AreNamedApart t ys
  named_apart listed [] [] l s a = tt
  named_apart listed [] (y ∷ ys) l s a = absurd s
  named_apart listed (x ∷ xs) [] l s a = absurd s
  named_apart listed (x ∷ xs) (y ∷ ys) l s a = (
    subst (λ (n : ℕ). IsUnnamed t (name_of t n) ys) (sym s.0.number) (unnamed listed x.seat.number xs ys l.0.0 l.1 s.1 a.0),
    named_apart listed xs ys l.1 s.1 a.1.1,
  )

---- What is held

-- what is held under an agent's name reads as its journal in a world
abbrev HoldsAt : Network → (List ℕ → Option (List ℕ)) → World → ℕ → Type 0
HoldsAt t holds w a = (file : List ℕ) × (holds (name_of t a) ≡ Some file) × (recovers batch_of file ≡ Ok (w.journal a))

abbrev AllHeld : Network → (List ℕ → Option (List ℕ)) → World → List ℕ → Type 0
AllHeld t holds w [] = Unit {0}
AllHeld t holds w (n ∷ ns) = HoldsAt t holds w n × AllHeld t holds w ns

-- what an agent's journal tells is its journal, where all is synced
journal_is : (homes : ℕ → Home) (clock : ℕ) (w : World) (k : Kept) (j : Journaled) → k.kept ≡ Some j → Stands homes clock w (seen true k) → IsAtRest homes w k.seat.number → j.synced ≡ w.journal k.seat.number
journal_is homes clock w k j e stands rests =
    let a : ℕ = k.seat.number in
    let part : j.synced ≡ synced_part w a = subst (λ (o : Option Journaled). IfSome (synced_in o) (λ es. es ≡ synced_part w a)) e stands.past in
    part ∙ (ap (λ (n : ℕ). take n (w.journal a)) rests.synced ∙ take_all (length (w.journal a)) (w.journal a) (omega arith))

one_held : (t : Network) (holds : List ℕ → Option (List ℕ)) (w : World) (k : Kept) (j : Journaled) → k.kept ≡ Some j → j.synced ≡ w.journal k.seat.number
    → IfSome k.kept (λ i. (file : List ℕ) × (holds (name_of t k.seat.number) ≡ Some file) × (recovers batch_of file ≡ Ok i.synced)) → HoldsAt t holds w k.seat.number
one_held t holds w k j e is read =
    let r : IfSome (Some j) (λ i. (file : List ℕ) × (holds (name_of t k.seat.number) ≡ Some file) × (recovers batch_of file ≡ Ok i.synced)) =
    subst (λ (o : Option Journaled). IfSome o (λ i. (file : List ℕ) × (holds (name_of t k.seat.number) ≡ Some file) × (recovers batch_of file ≡ Ok i.synced))) e read in
    (r.0, r.1, r.2 ∙ ap (λ (es : List Entry). Ok es) is)

all_held : (t : Network) (holds : List ℕ → Option (List ℕ)) (listed : List ℕ → Bool) (homes : ℕ → Home) (clock : ℕ) (w : World) (ks : List Kept) → AreListed listed t ks → AreOwned homes ks → All (Stands homes clock w) (seats_by true ks)
    → ((a : ℕ) → a < length t.agents → IsAtRest homes w a) → AreRead t holds ks → AllHeld t holds w (numbers (seats ks))
all_held t holds listed homes clock w [] l own stands rests read = tt
all_held t holds listed homes clock w (k ∷ ks) l own stands rests read = (
  one_held t holds w k own.0.0 own.0.1 (journal_is homes clock w k own.0.0 own.0.1 (All-head (Stands homes clock w) (seen true k) (seats_by true ks) stands) (rests k.seat.number l.0.0)) read.0,
  all_held t holds listed homes clock w ks l.1 own.1 (All-tail (Stands homes clock w) (seen true k) (seats_by true ks) stands) rests read.1,
)

held_at : (t : Network) (holds : List ℕ → Option (List ℕ)) (w : World) (n m a : ℕ) → AllHeld t holds w (range_with_len m n) → m ≤ a → a < m + n → HoldsAt t holds w a
held_at t holds w zero m a h l u = absurd (omega arith)
held_at t holds w (suc n) m a h l u = elim (cases_eq m a) [
  | inl e ↦ subst (HoldsAt t holds w) e h.0
  | inr d ↦ held_at t holds w n (m + 1) a h.1 (later m a l d) (omega arith)
]
  where
    later : (m a : ℕ) → m ≤ a → (m ≡ a → ⊥) → m + 1 ≤ a
    later m a l d = omega arith

same_numbers : (xs ys : List Kept) → EachIs IsSameAgent xs ys → numbers (seats ys) ≡ numbers (seats xs)
same_numbers [] [] s = refl
same_numbers [] (y ∷ ys) s = absurd s
same_numbers (x ∷ xs) [] s = absurd s
same_numbers (x ∷ xs) (y ∷ ys) s = ap₂ ◌∷◌ s.0.number (same_numbers xs ys s.1)

---- A run

alike : (xs ys : List Kept) → EachIs IsAsPlanned xs ys → EachIs IsSameAgent xs ys
alike [] [] s = tt
alike [] (y ∷ ys) s = absurd s
alike (x ∷ xs) [] s = absurd s
alike (x ∷ xs) (y ∷ ys) s = (s.0.same, alike xs ys s.1)

-- what laws say of plays in which disks stop
pub record PlayLaws : Type 0 where
  pub stands : StoppedPlayStands
  pub rests : StoppedPlayRests
  pub exist : RoutesExist

-- a script that fits
pub record IsFit (t : Network) (script : List Group) : Type 0 where
  pub formed : IsWellFormed t
  pub rising : IsRising (seconds_of script)
  pub acts : All (IsActOf t) (acts_of script)

module _ (laws : PlayLaws) (t : Network) (plans : Plans) (lines : List StopLine) (tries : List ℕ) (old new : List ℕ → Option (List ℕ)) (listed : List ℕ → Bool) (script : List Group) (olds news : List Kept) (fit : IsFit t script) (fresh : AreFresh t plans lines tries old olds) (named : AreListed listed t olds)
    (usable : AreUsable news) (same : EachIs IsSameAgent olds news) (returned : AreToReturn t news → AreRead t new news) where
  pub keeps_journals : StayOwned olds news → (own : List Event) → PlaysTo (NoneStopped olds news [] own) (more_stops olds news) olds script own news → KeepsJournals t old new (restarts_from 0 tries ++ own)
  keeps_journals stay own_events p = λ told a h.
      let events : List Event = restarts_from 0 tries ++ own_events in
      let r = laws.exist t in
      let homes = home_in t r.0 in
      let own : AreOwned homes olds = fresh.owned told r.0 in
      let last : Net = seats_by true news in
      let most : ℕ = more_stops olds news in
      let made : IsPlayByTapes most script homes (opening t plans) own_events last = subst (λ (net : Net). IsPlayByTapes most script homes net own_events last) (fresh.seats told) ((p t fresh.opened.of r.0 r.1 true (λ e. own) (all_told (acts_of script))).told refl) in
      let stops : Stops = stops_by tries made.0 in
      let plays : IsPlayBy stops script homes (opening t plans) events last = plays_behind t plans tries fresh.opened.all made.0 script homes own_events last made.2 in
      let stands = laws.stands t r.0 plans stops script events last fit.formed fit.rising fit.acts plays in
      let rests = laws.rests t r.0 plans stops script events last fit.formed fit.rising fit.acts plays in
      let now : AreOwned homes news = stay t fresh.opened.of r.0 r.1 own in
      let names : AreListed listed t news = listed_same listed t olds news same named in
      let read : AreRead t new news = returned (record { usable = usable; tell = owned_tell homes news now; apart = named_apart t fit.formed listed olds news named same fresh.opened.net.apart }) in
      let are : numbers (seats news) ≡ range_with_len 0 (length t.agents) = same_numbers olds news same ∙ (ap numbers fresh.opened.seats ∙ numbers_are t plans (range_with_len 0 (length t.agents))) in
      let w : World = world_after empty events in
      held_at t new w (length t.agents) 0 a (subst (AllHeld t new w) are (all_held t new listed homes stands.clock w news names now stands.stand.stand rests read)) (omega arith) (omega (arith, h))

pub run_keeps : PlayLaws → (t : Network) (plans : Plans) (lines : List StopLine) (tries : List ℕ) (old new : List ℕ → Option (List ℕ)) (listed : List ℕ → Bool) (script : List Group) (olds news : List Kept) (r : Result Totals RunFault) → IsFit t script → AreFresh t plans lines tries old olds → AreListed listed t olds
    → (AreToReturn t news → AreRead t new news) → OnOk r (AreSame olds news) → OnOk r (AreUsable news) → OnOk r (StayOwned olds news)
    → OnOk r ((own : List Event) → PlaysTo (NoneStopped olds news [] own) (more_stops olds news) olds script own news → KeepsJournals t old new (restarts_from 0 tries ++ own))
run_keeps laws t plans lines tries old new listed script olds news (Ok n) fit fresh named returned same usable own = keeps_journals laws t plans lines tries old new listed script olds news fit fresh named usable (alike olds news (same_agents olds news same)) returned own
run_keeps laws t plans lines tries old new listed script olds news (Err f) fit fresh named returned same usable own = tt
