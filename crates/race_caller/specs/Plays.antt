-- A caller's own list, as its requester makes it.
use Rattle.std.specs.Prelude.{◌≡◌, ◌⊎◌, ◌==◌, ◌&&◌, ℕ, Bool, true, false, List, [], ◌∷◌, ◌++◌, Option, Some, None}
use Rattle.std.specs.List.{list_any}
use Rattle.nsi_primitive.specs.declared.ask.Ask.{Ask}
use Rattle.nsi_primitive.specs.declared.entry.Entry.{Entry}
use Rattle.nsi_primitive.specs.declared.entry.Event.{Event}
use Rattle.nsi_primitive.specs.declared.entry.Happening.{Happening}
use Rattle.nsi_primitive.specs.declared.entry.Input.{Input}
use Rattle.nsi_primitive.specs.declared.message.Message.{Message}
use Rattle.agent_state.specs.State.{AgentState, AgentStepped, blank_agent}
use Rattle.stp_topology.specs.declared.network.Network.{Network}
use Rattle.requester_agent.specs.Setting.{setting_of}
use Rattle.requester_agent.specs.Steps.{after, may_take}
use Rattle.shared_provider.specs.Asked.{is_work_input, tick_entry}
use Rattle.race_run.specs.declared.item.Item.{Item}
use Rattle.race_run.specs.declared.replayed.Call.{Call}
use Rattle.race_run.specs.Found.{item, entered, got}

-- what an entry makes of a requester of the network
abbrev pub asker_after : Network → ℕ → AgentState → Entry → AgentStepped
asker_after t a s e = after (setting_of t a) s e

-- it begins with the second of the script, where there is one
abbrev pub begun : Network → ℕ → Option ℕ → AgentState
begun t a None = blank_agent
begun t a (Some second) = (asker_after t a blank_agent (tick_entry second)).state

---- Behind a request

-- work of an agent
abbrev pub is_plain_work : Happening → Bool
is_plain_work (Happening.Entry e None) = is_work_input e.input
is_plain_work _ = false

abbrev pub is_work_by : ℕ → Event → Bool
is_work_by p v = (v.agent == p) && is_plain_work v.what

-- a message that reaches it now
abbrev pub heard_now : AgentState → Message → Entry
heard_now s m = got s.base.now m

-- the requester takes a message
pub record HearsMessage (t : Network) (c : Call) (s : AgentState) (x : Item) (v : AgentState) : Type 0 where
  pub message : Message
  pub is : x.event ≡ entered c.agent (heard_now s message)
  pub may : may_take s (heard_now s message) ≡ true
  pub ends : v ≡ (asker_after t c.agent s (heard_now s message)).state

-- the provider works, which is nothing to the requester
pub record SeesWork (c : Call) (s : AgentState) (x : Item) (v : AgentState) : Type 0 where
  pub work : is_work_by c.provider x.event ≡ true
  pub ends : v ≡ s

abbrev pub HearsOne : Network → Call → AgentState → Item → AgentState → Type 0
HearsOne t c s x v = HearsMessage t c s x v ⊎ SeesWork c s x v

-- it takes messages, and the provider works in between
unfoldable pub Hears : Network → Call → AgentState → List Item → AgentState → Type 0
Hears t c s [] u = u ≡ s
Hears t c s (x ∷ xs) u = (v : AgentState) × HearsOne t c s x v × Hears t c v xs u

---- Asks

-- an ask now; its number says nothing to a requester
abbrev pub ask_entry : AgentState → Ask → Entry
ask_entry s ask = record { second = s.base.now; input = Input.Ask 0 ask }

abbrev pub asked : Network → ℕ → AgentState → Ask → AgentStepped
asked t a s ask = asker_after t a s (ask_entry s ask)

-- an ask sends nothing
pub record IsSilent (t : Network) (a : ℕ) (s : AgentState) (ask : Ask) (u : AgentState) : Type 0 where
  pub may : may_take s (ask_entry s ask) ≡ true
  pub none : (asked t a s ask).out ≡ []
  pub state : u ≡ (asked t a s ask).state

-- an ask sends one request
pub record IsRequestOf (t : Network) (a : ℕ) (s : AgentState) (ask : Ask) (m : Message) (u : AgentState) : Type 0 where
  pub may : may_take s (ask_entry s ask) ≡ true
  pub one : (asked t a s ask).out ≡ m ∷ []
  pub state : u ≡ (asked t a s ask).state

-- the provider takes a request, and so it goes on behind that
pub record Sends (t : Network) (c : Call) (m : Message) (s : AgentState) (xs : List Item) (u : AgentState) : Type 0 where
  pub place : ℕ
  pub heard : List Item
  pub items : xs ≡ item place (entered c.provider (got c.second m)) ∷ heard
  pub hears : Hears t c s heard u

pub record PlaysRequest (t : Network) (c : Call) (s : AgentState) (ask : Ask) (xs : List Item) (u : AgentState) : Type 0 where
  pub request : Message
  pub then_at : AgentState
  pub is : IsRequestOf t c.agent s ask request then_at
  pub sends : Sends t c request then_at xs u

pub record PlaysNothing (t : Network) (c : Call) (s : AgentState) (ask : Ask) (xs : List Item) (u : AgentState) : Type 0 where
  pub is : IsSilent t c.agent s ask u
  pub items : xs ≡ []

-- one ask
abbrev pub PlaysOne : Network → Call → AgentState → Ask → List Item → AgentState → Type 0
PlaysOne t c s ask xs u = PlaysRequest t c s ask xs u ⊎ PlaysNothing t c s ask xs u

-- the asks one after another, from here to there
unfoldable pub Plays : Network → Call → AgentState → List Ask → List Item → AgentState → Type 0
Plays t c s [] xs u = (xs ≡ []) × (u ≡ s)
Plays t c s (ask ∷ more) xs u = (v : AgentState) × (front : List Item) × (rest : List Item) × (xs ≡ front ++ rest) × PlaysOne t c s ask front v × Plays t c v more rest u

-- Its requester takes the second of the script, and the asks in order; behind each request that it sends, the messages of these items. The requests, these
-- messages and the work in between are all that the list has.
abbrev pub IsPlay : Network → Call → Option ℕ → List Ask → List Item → Type 0
IsPlay t c start asks xs = (u : AgentState) × Plays t c (begun t c.agent start) asks xs u

-- no history has an event at that place
abbrev pub no_place : ℕ
no_place = 8388608

abbrev pub HasEnd : List Item → Type 0
HasEnd xs = list_any (λ x. x.place == no_place) xs ≡ true

-- what a caller hands over: it played, or ended early
abbrev pub IsOwn : Network → Call → Option ℕ → List Ask → List Item → Type 0
IsOwn t c start asks xs = IsPlay t c start asks xs ⊎ HasEnd xs

---- Steps of a caller

pub record HearsMore (t : Network) (c : Call) (s : AgentState) (old : List Item) (u : AgentState) (new : List Item) : Type 0 where
  pub more : List Item
  pub is : new ≡ old ++ more
  pub hears : Hears t c s more u

pub record AsksMore (t : Network) (c : Call) (s : AgentState) (ask : Ask) (old : List Item) (u : AgentState) (new : List Item) : Type 0 where
  pub more : List Item
  pub is : new ≡ old ++ more
  pub plays : PlaysOne t c s ask more u

pub record FollowsMore (t : Network) (c : Call) (m : Message) (s : AgentState) (old : List Item) (u : AgentState) (new : List Item) : Type 0 where
  pub more : List Item
  pub is : new ≡ old ++ more
  pub sends : Sends t c m s more u

pub record PlaysMore (t : Network) (c : Call) (s : AgentState) (asks : List Ask) (old : List Item) (u : AgentState) (new : List Item) : Type 0 where
  pub more : List Item
  pub is : new ≡ old ++ more
  pub plays : Plays t c s asks more u
