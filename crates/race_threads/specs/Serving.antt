-- How far the requesters of a provider are served, of whom one alone is asked.
use Rattle.std.specs.Prelude.{◌≡◌, ◌⊎◌, ◌≤◌, ◌<◌, ◌==◌, ℕ, false, List, [], length, Option, Some, None}
use Rattle.std.specs.List.{All}
use Rattle.stp_topology.specs.declared.network.Network.{Network}
use Rattle.provider_agent.specs.State.{blank}
use Rattle.provider_agent.specs.Steps.{waiting_work}
use Rattle.shared_provider.specs.Book.{Book}
use Rattle.race_run.specs.Found.{ticks, strays, state_gone, is_caller}
use Rattle.race_judging.specs.declared.judging.Own.{Own}
use Rattle.race_judging.specs.Pairs.{second_of, first_ticks, found_of}
use Rattle.race_caller.specs.Alone.{EndsOwn}
use Rattle.race_run.specs.declared.item.Item.{Item}
use Rattle.nsi_script.specs.declared.script.Act.{Act}
use Rattle.race_threads.specs.Alone.{AreKeptBelow}
use Rattle.race_threads.specs.Raced.{AllSame, begun_book, call_of}

-- what an agent kept is what the history has of it
abbrev pub IsFoundOf : Network → ℕ → Option ℕ → Book → Own → Type 0
IsFoundOf t p start d o = o.items ≡ found_of t p (second_of start) d.events o.agent

-- of one that isn't asked nothing was kept
pub record IsIdle (n : ℕ) (o : Own) : Type 0 where
  pub items : o.items ≡ []
  pub below : o.agent < n

-- the one that is asked wasn't served yet
pub record IsBefore (t : Network) (p : ℕ) (start : Option ℕ) (asked n : ℕ) (d : Book) (owns : List Own) : Type 0 where
  pub book : d ≡ begun_book t p start
  pub none : All (IsIdle n) owns
  pub apart : asked < n → is_caller t p (Some asked) ≡ false

-- the history is its own, and nobody else's
pub record IsItsAlone (t : Network) (p : ℕ) (start : Option ℕ) (asked : ℕ) (d : Book) (owns : List Own) : Type 0 where
  pub others : (o : ℕ) → (asked == o) ≡ false → found_of t p (second_of start) d.events o ≡ []
  pub owned : strays t p blank 0 d.events ≡ []
  pub begins : ticks t p blank 0 d.events ≡ first_ticks p start
  pub idle : waiting_work (state_gone t p blank d.events) ≡ None
  pub found : All (IsFoundOf t p start d) owns

-- it was served
pub record IsBehind (t : Network) (p : ℕ) (start : Option ℕ) (asked n : ℕ) (d : Book) (owns : List Own) : Type 0 where
  pub late : asked < n
  pub is : d.faults ≡ 0 → IsItsAlone t p start asked d owns

-- so many agents were served
pub record IsServedTo (t : Network) (p : ℕ) (start : Option ℕ) (asked n : ℕ) (new : Option Book) (owns : List Own) : Type 0 where
  pub now : Book
  pub told : new ≡ Some now
  pub stage : IsBefore t p start asked n now owns ⊎ IsBehind t p start asked n now owns

-- and what they hand over, where the book began so
pub record IsServing (t : Network) (p : ℕ) (start : Option ℕ) (acts : List Act) (asked n : ℕ) (old new : Option Book) (owns : List Own) : Type 0 where
  pub kept : AreKeptBelow t p start acts n owns
  pub served : length acts ≤ 100000 → old ≡ Some (begun_book t p start) → IsServedTo t p start asked n new owns

-- One requester was served: the one that is asked, of a book to which nothing happened yet but the tick of the script; any other keeps nothing, and nothing happens.
pub record IsServedOne (t : Network) (p : ℕ) (start : Option ℕ) (asked a : ℕ) (old new : Option Book) (items : List Item) : Type 0 where
  pub one : a ≡ asked → old ≡ Some (begun_book t p start) → EndsOwn t (first_ticks p start) (call_of p a (second_of start)) new items
  pub other : (asked == a) ≡ false → (new ≡ old) × (items ≡ [])

-- an agent was served, where it is a requester of the provider
abbrev pub IsServedAgent : Network → ℕ → Option ℕ → ℕ → ℕ → Option Book → Option Book → Option Own → Type 0
IsServedAgent t p start asked a old new None = new ≡ old
IsServedAgent t p start asked a old new (Some o) = IsServedOne t p start asked a old new o.items

-- all were served
pub record EndsSame (t : Network) (p : ℕ) (start : Option ℕ) (new : Option Book) (owns : List Own) : Type 0 where
  pub now : Book
  pub told : new ≡ Some now
  pub same : now.faults ≡ 0 → AllSame t p start now.events owns
