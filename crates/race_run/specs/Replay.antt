-- What a provider finds that takes the entries of a history again.
use Rattle.std.specs.Prelude.{◌≡◌, ◌<◌, ◌+◌, ℕ, Bool, true, false, ◌||◌, not, List, [], ◌∷◌, ◌++◌, map, length, Option, Some, None, get_or, if◌then◌else◌}
use Rattle.nsi_primitive.specs.Printable.{IsPrintableEntry}
use Rattle.nsi_primitive.specs.declared.entry.Entry.{Entry}
use Rattle.nsi_primitive.specs.declared.entry.Event.{Event}
use Rattle.nsi_primitive.specs.declared.entry.Happening.{Happening}
use Rattle.nsi_primitive.specs.declared.message.Message.{Message}
use Rattle.stp_topology.specs.declared.network.Network.{Network}
use Rattle.provider_agent.specs.State.{State, blank}
use Rattle.provider_agent.specs.Steps.{may_take}
use Rattle.race_run.specs.declared.item.Item.{Item}
use Rattle.race_run.specs.declared.replayed.Call.{Call}
use Rattle.race_run.specs.declared.replayed.Lists.{Lists}
use Rattle.race_run.specs.Found.{item, entered, heard_item, is_tick, is_one, owner, is_caller, state_by, state_gone, found_at, tick_at, stray_at, found, ticks, strays}

---- What may be taken again

abbrev pub MayBeAt : State → Happening → Type 0
MayBeAt s (Happening.Entry e answer) = (may_take s e ≡ true) × IsPrintableEntry e
MayBeAt s _ = Unit {0}

-- a provider may take the entries, one after another
unfoldable pub MayAll : Network → ℕ → State → List Event → Type 0
MayAll t p s [] = Unit {0}
MayAll t p s (x ∷ xs) = MayBeAt s x.what × MayAll t p (state_by t p s x.what) xs

---- One entry more

abbrev pub tick_items : ℕ → ℕ → Entry → List Item
tick_items p place e = if is_tick e.input then item place (entered p e) ∷ [] else []

abbrev pub stray_items : ℕ → ℕ → Bool → Entry → List Item
stray_items p place is_asked e = if is_tick e.input || is_asked then [] else item place (entered p e) ∷ []

abbrev pub own_items : Call → ℕ → Entry → List Message → List Item
own_items c place e out = item place (entered c.provider e) ∷ map (heard_item c.agent c.second place) out

abbrev pub owned_items : (p a second place : ℕ) → Option ℕ → Entry → List Message → List Item
owned_items p a second place owner e out =
    if is_one a owner then item place (entered p e) ∷ map (heard_item a second place) out else []

abbrev pub items_at : List (List Item) → ℕ → List Item
items_at all a = get_or all a []

-- what an entry adds, by its owner and what it causes
pub record Added (p second place : ℕ) (e : Entry) (o : Option ℕ) (is_asked : Bool) (out : List Message) (old new : Lists) : Type 0 where
  pub ticks : new.ticks ≡ old.ticks ++ tick_items p place e
  pub found : (a : ℕ) → items_at new.found.items a ≡ items_at old.found.items a ++ owned_items p a second place o e out
  pub strays : new.strays ≡ old.strays ++ stray_items p place is_asked e
  pub all : length new.found.items ≡ length old.found.items

-- what an event adds to each list
pub record Adds (t : Network) (p second place : ℕ) (s : State) (x : Option Entry) (old new : Lists) : Type 0 where
  pub ticks : new.ticks ≡ old.ticks ++ tick_at p place s x
  pub found : (a : ℕ) → items_at new.found.items a ≡ items_at old.found.items a ++ found_at t p a second place s x
  pub strays : new.strays ≡ old.strays ++ stray_at t p place s x
  pub all : length new.found.items ≡ length old.found.items

-- the lists are those of the events
pub record AreOf (t : Network) (p second : ℕ) (events : List Event) (lists : Lists) : Type 0 where
  pub ticks : lists.ticks ≡ ticks t p blank 0 events
  pub found : (a : ℕ) → items_at lists.found.items a ≡ found t p a second blank 0 events
  pub strays : lists.strays ≡ strays t p blank 0 events
  pub all : length lists.found.items ≡ length t.agents

-- a history is gone through up to a place: what was found before it is followed by what is found from there on
pub record IsAt (t : Network) (p second : ℕ) (events : List Event) (s : State) (place : ℕ) (rest : List Event) (lists : Lists) : Type 0 where
  pub ticks : lists.ticks ++ ticks t p s place rest ≡ ticks t p blank 0 events
  pub found : (a : ℕ) → items_at lists.found.items a ++ found t p a second s place rest ≡ found t p a second blank 0 events
  pub strays : lists.strays ++ strays t p s place rest ≡ strays t p blank 0 events
  pub all : length lists.found.items ≡ length t.agents
  pub may : MayAll t p s rest
  pub ends : state_gone t p s rest ≡ state_gone t p blank events
