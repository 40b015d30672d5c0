-- What callers kept, and what a history has of them.
use Rattle.std.specs.Prelude.{◌≡◌, ℕ, ◌==◌, not, Bool, List, [], ◌∷◌, ◌++◌, map, length, count_by, Option, Some, None}
use Rattle.nsi_primitive.specs.declared.entry.Entry.{Entry}
use Rattle.nsi_primitive.specs.declared.entry.Event.{Event}
use Rattle.nsi_primitive.specs.declared.entry.Input.{Input}
use Rattle.connection_record.specs.declared.record.Record.{Record}
use Rattle.stp_topology.specs.declared.network.Network.{Network}
use Rattle.provider_agent.specs.State.{blank}
use Rattle.race_run.specs.declared.item.Item.{Item}
use Rattle.race_run.specs.Found.{item, entered, found, ticks, strays, waits, state_gone}
use Rattle.race_judging.specs.declared.judging.Own.{Own}

-- a list that was kept, and the one that was found
pub record Pair : Type 0 where
  pub kept : List Item
  pub found : List Item

abbrev pub pair : List Item → List Item → Pair
pair kept found = record { kept = kept; found = found }

abbrev pub AreSame : Pair → Type 0
AreSame x = x.kept ≡ x.found

-- the second of the clocks: the script's, or 0
abbrev pub second_of : Option ℕ → ℕ
second_of None = 0
second_of (Some second) = second

abbrev pub tick_of : ℕ → Entry
tick_of second = record { second = second; input = Input.Tick }

-- the tick that a history begins with
abbrev pub first_ticks : ℕ → Option ℕ → List Item
first_ticks p None = []
first_ticks p (Some second) = item 0 (entered p (tick_of second)) ∷ []

-- what the history has of an agent
abbrev pub found_of : Network → (p second : ℕ) → List Event → ℕ → List Item
found_of t p second events a = found t p a second blank 0 events

-- what a caller kept, and what the history has of it
abbrev pub own_pair : Network → (p second : ℕ) → List Event → Own → Pair
own_pair t p second events o = pair o.items (found_of t p second events o.agent)

-- in order: the ticks; the callers; events that are nobody's, of which there are to be none; work that waits at the end, of which there is to be none
abbrev pub pairs_of : Network → ℕ → Option ℕ → List Event → List Own → List Pair
pairs_of t p start events owns =
    pair (first_ticks p start) (ticks t p blank 0 events) ∷
    (map (own_pair t p (second_of start) events) owns ++ pair [] (strays t p blank 0 events) ∷ pair [] (waits p (length events) (state_gone t p blank events)) ∷ [])

-- whether something was committed
abbrev pub has_committed : Record → Bool
has_committed r = not (length r.committed == 0)

abbrev pub committed_of : List Record → ℕ
committed_of records = count_by has_committed records
