-- What a play leaves open: of the messages that one agent has said to another one, how many weren't got, and how many weren't acknowledged.
use Rattle.std.specs.Prelude.{◌≡◌, ◌≤◌, ◌<◌, ◌+◌, ◌⊎◌, ◌==◌, ◌&&◌, ◌||◌, ℕ, Bool, true, false, not, List, [], ◌∷◌, length, filter, get_or}
use Rattle.std.specs.List.{All, Contains}
use Rattle.nsi_primitive.specs.Messages.{identity, kind_of}
use Rattle.nsi_primitive.specs.declared.entry.Entry.{Entry}
use Rattle.nsi_primitive.specs.declared.entry.Event.{Event}
use Rattle.nsi_primitive.specs.declared.entry.Happening.{Happening}
use Rattle.nsi_primitive.specs.declared.entry.Input.{Input}
use Rattle.nsi_primitive.specs.declared.kind.Kind.{Kind}
use Rattle.nsi_primitive.specs.declared.message.Identity.{Identity}
use Rattle.nsi_primitive.specs.declared.message.Message.{Message}
use Rattle.agent_link.specs.Plans.{Plan, parcel_number}
use Rattle.agent_link.specs.declared.plan.How.{How}
use Rattle.agent_link.specs.declared.plan.LinkFault.{LinkFault}
use Rattle.agent_link.specs.declared.plan.ParcelKind.{ParcelKind}
use Rattle.stp_topology.specs.Laws.{IsWellFormed}
use Rattle.stp_topology.specs.Sound.{IsSound}
use Rattle.stp_topology.specs.declared.network.Network.{Network}
use Rattle.nsi_script.specs.Fits.{IsActOf, IsRising}
use Rattle.nsi_script.specs.Scripts.{acts_of, seconds_of}
use Rattle.nsi_script.specs.declared.script.Group.{Group}
use Rattle.nsi_agent.specs.Homes.{Routes, AreRoutes, home_in}
use Rattle.nsi_agent.specs.Told.{WasGot}
use Rattle.nsi_play.specs.Openings.{Plans, opening}
use Rattle.nsi_play.specs.Rounds.{Net}
use Rattle.nsi_play.specs.Play.{IsPlayFrom}
use Rattle.nsi_world.specs.Worlds.{Homes, World, empty, IsTo, said}
use Rattle.nsi_world.specs.Runs.{world_after}

-- it is so of all of them but at most so many
abbrev pub AllBut : {X : Type 0} → ℕ → (X → Type 0) → List X → Type 0
AllBut {X} few P xs = (places : List ℕ) × (length places ≤ few) × ((k : ℕ) (d : X) → k < length xs → P (get_or xs k d) ⊎ Contains places k)

-- one of the entries takes the acknowledgement of a message of this identity
abbrev pub WasAcked : Identity → List Entry → Type 0
WasAcked i es = (e : Entry) × Contains es e × (e.input ≡ Input.Acked i)

-- it is of that kind and for that agent
abbrev pub IsOf : Homes → ℕ → Kind → Message → Type 0
IsOf homes to kind m = IsTo homes to m × (kind_of m.body ≡ kind)

-- its addressee got it, a request by its header
abbrev pub IsHeard : Homes → World → (to : ℕ) → Kind → Message → Type 0
IsHeard homes w to kind m = IsOf homes to kind m → WasGot m (w.journal to)

-- so it did, and the one that said it took the acknowledgement
abbrev pub IsOver : Homes → World → (from to : ℕ) → Kind → Message → Type 0
IsOver homes w from to kind m = IsOf homes to kind m → WasGot m (w.journal to) × WasAcked (identity m) (w.journal from)

-- it is for an agent of the topology
abbrev pub HasAddressee : Network → Homes → Message → Type 0
HasAddressee t homes m = (b : ℕ) × (b < length t.agents) × IsTo homes b m

---- What is planned

abbrev pub is_loss : How → Bool
is_loss How.Lose = true
is_loss How.Repeat = false

-- the line loses a parcel of that kind
abbrev pub loses : ParcelKind → LinkFault → Bool
loses kind f = is_loss f.how && (parcel_number f.of == parcel_number kind)

-- how many lines of a plan lose a parcel of that kind
abbrev pub losses : ParcelKind → Plan → ℕ
losses kind plan = length (filter (loses kind) plan)

---- Which pairs are cut off

abbrev pub cuts_by_entry : Input → (is_one was : Bool) → Bool
cuts_by_entry Input.Tick is_one was = not is_one && was
cuts_by_entry _ is_one was = was

-- what an event at an agent makes of a pair of which it is the one, or the other one
abbrev pub cuts_by : Happening → (is_one is_other was : Bool) → Bool
cuts_by (Happening.Restart count) is_one is_other was = is_other || (not is_one && was)
cuts_by (Happening.Entry e answer) is_one is_other was = cuts_by_entry e.input is_one was
cuts_by (Happening.Sync count) is_one is_other was = was

-- after these events
unfoldable pub cut_after : (a b : ℕ) (was : Bool) → List Event → Bool
cut_after a b was [] = was
cut_after a b was (x ∷ xs) = cut_after a b (cuts_by x.what (x.agent == a) (x.agent == b) was) xs

-- the other one has restarted since the one has last ticked or restarted
abbrev pub cut_off : (a b : ℕ) → List Event → Bool
cut_off a b events = cut_after a b false events

---- What is left open

-- In the world after these events each message that an agent has said is for an agent. Of those of a kind that it has said to one that it isn't
-- cut off from, no more weren't got than lines of the link's plan lose one of that kind; and no more than those and the lines of the link back
-- that lose an acknowledgement weren't got or weren't acknowledged.
pub record LeavesOnlyLost (t : Network) (homes : Homes) (plans : Plans) (events : List Event) : Type 0 where
  pub addressed : (a : ℕ) → a < length t.agents → All (HasAddressee t homes) (said homes (world_after empty events) a)
  pub heard : (a b : ℕ) (kind : Kind) → a < length t.agents → b < length t.agents → cut_off a b events ≡ false →
      AllBut (losses (ParcelKind.Message kind) (plans a b)) (IsHeard homes (world_after empty events) b kind) (said homes (world_after empty events) a)
  pub acknowledged : (a b : ℕ) (kind : Kind) → a < length t.agents → b < length t.agents → cut_off a b events ≡ false →
      AllBut (losses (ParcelKind.Message kind) (plans a b) + losses ParcelKind.Ack (plans b a)) (IsOver homes (world_after empty events) a b kind) (said homes (world_after empty events) a)

-- so it is at the end of a play, whatever is lost and whatever comes twice
abbrev pub PlaySettles : Type 0
PlaySettles =
    (t : Network) (routes : Routes) (plans : Plans) (groups : List Group) (events : List Event) (last : Net) → IsSound t → IsWellFormed t → AreRoutes t routes →
    IsRising (seconds_of groups) → All (IsActOf t) (acts_of groups) → IsPlayFrom groups (home_in t routes) (opening t plans) events last → LeavesOnlyLost t (home_in t routes) plans events

---- Where nothing is lost

-- a parcel that comes twice, and none that is lost
abbrev pub IsRepeat : LinkFault → Type 0
IsRepeat f = f.how ≡ How.Repeat

-- what is planned for a link loses nothing
abbrev pub LosesNone : Plan → Type 0
LosesNone plan = All IsRepeat plan

-- so it is for each link
abbrev pub LoseNothing : Plans → Type 0
LoseNothing plans = (from to : ℕ) → LosesNone (plans from to)

-- no agent restarts
abbrev pub IsNoRestart : Happening → Type 0
IsNoRestart (Happening.Restart count) = ⊥
IsNoRestart _ = Unit {0}

abbrev pub GoesOn : Event → Type 0
GoesOn e = IsNoRestart e.what

-- its addressee got it, and the one that said it took the acknowledgement
abbrev pub IsDone : Network → Homes → World → ℕ → Message → Type 0
IsDone t homes w from m = (b : ℕ) × (b < length t.agents) × IsTo homes b m × WasGot m (w.journal b) × WasAcked (identity m) (w.journal from)

-- at the end of a play in which nothing is lost and no agent restarts so it is of each message that an agent has said
abbrev pub PlayLeavesNone : Type 0
PlayLeavesNone =
    (t : Network) (routes : Routes) (plans : Plans) (groups : List Group) (events : List Event) (last : Net) → LoseNothing plans → IsSound t → IsWellFormed t → AreRoutes t routes →
    IsRising (seconds_of groups) → All (IsActOf t) (acts_of groups) → IsPlayFrom groups (home_in t routes) (opening t plans) events last → All GoesOn events →
    (a : ℕ) → a < length t.agents → All (IsDone t (home_in t routes) (world_after empty events) a) (said (home_in t routes) (world_after empty events) a)
