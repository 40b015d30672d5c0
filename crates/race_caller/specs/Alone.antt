-- One caller of a book that nobody shares.
use Rattle.std.specs.Prelude.{◌≡◌, ◌⊎◌, ◌≤◌, ◌<◌, ◌+◌, ◌*◌, ◌==◌, ℕ, Bool, true, false, List, [], ◌∷◌, ◌++◌, map, length, Option, Some, None, IsSome}
use Rattle.std.specs.List.{All}
use Rattle.std.specs.Global.{Vec}
use Rattle.nsi_primitive.specs.Ids.{id_of}
use Rattle.nsi_primitive.specs.Messages.{is_request}
use Rattle.nsi_primitive.specs.declared.entry.Entry.{Entry}
use Rattle.nsi_primitive.specs.declared.entry.Event.{Event}
use Rattle.nsi_primitive.specs.declared.message.Message.{Message}
use Rattle.stp_topology.specs.declared.network.Network.{Network}
use Rattle.stp_topology.specs.Network.{name_of, agent_of}
use Rattle.message_retry.specs.Taken.{is_taken}
use Rattle.agent_state.specs.Entries.{most_entries}
use Rattle.provider_agent.specs.Setting.{setting_of}
use Rattle.provider_agent.specs.State.{blank}
use Rattle.provider_agent.specs.Good.{IsGood}
use Rattle.provider_agent.specs.Steps.{waiting_work}
use Rattle.provider_agent.specs.Working.{works_among}
use Rattle.sole_requester.specs.Sole.{AreOwnedBy, WaitsAt}
use Rattle.shared_provider.specs.declared.reply.BookFault.{BookFault}
use Rattle.shared_provider.specs.Asked.{took_entry, work_entry}
use Rattle.shared_provider.specs.Book.{Book, steps, entered, enter}
use Rattle.race_run.specs.declared.item.Item.{Item}
use Rattle.race_run.specs.declared.replayed.Call.{Call}
use Rattle.race_run.specs.Found.{item, heard_item, found, ticks, strays, state_gone, is_caller}
use Rattle.race_caller.specs.Plays.{begun}
use Rattle.race_caller.specs.declared.asker.Asker.{Asker}
use Rattle.race_caller.specs.declared.desk.Answer.{Answer}
use Rattle.race_caller.specs.declared.desk.Work.{Work}
use Rattle.race_caller.specs.declared.desk.DoneWork.{DoneWork}

---- What a book makes of a call

-- the request was taken: the book has it, and all that it causes is told
pub record HasTakenIn (b : Book) (m : Message) (d : Book) (answer : Answer) : Type 0 where
  pub entry : Entry
  pub asked : took_entry b.state m ≡ Some entry
  pub book : d ≡ entered entry b
  pub place : answer.place ≡ length b.events
  pub messages : answer.messages.items ≡ (steps b entry).out

-- it wasn't, or the book is closed
pub record HasNotTaken (b : Book) (m : Message) (d : Book) : Type 0 where
  pub why : (0 < d.faults) ⊎ ((is_request m.body ≡ false) ⊎ ((took_entry b.state m ≡ None) ⊎ (b.state.taken ≡ most_entries)))

abbrev pub Hands : Book → Message → Book → Option Answer → Type 0
Hands b m d (Some answer) = HasTakenIn b m d answer
Hands b m d None = HasNotTaken b m d

-- the first work that waits on the connection was done
pub record HasDoneIn (b : Book) (id : ℕ) (d : Book) (done : DoneWork) : Type 0 where
  pub entry : Entry
  pub asked : work_entry b.state id ≡ Some entry
  pub book : d ≡ entered entry b
  pub place : done.place ≡ length b.events
  pub event : done.event ≡ enter b.agent entry
  pub messages : done.messages.items ≡ (steps b entry).out

pub record HasNoWork (b : Book) (id : ℕ) (d : Book) : Type 0 where
  pub none : work_entry b.state id ≡ None
  pub book : d ≡ b

pub record HasRefusedWork (b d : Book) : Type 0 where
  pub why : (0 < d.faults) ⊎ (b.state.taken ≡ most_entries)

abbrev pub Works : Book → ℕ → Book → Work → Type 0
Works b id d Work.Idle = HasNoWork b id d
Works b id d (Work.Done done) = HasDoneIn b id d done
Works b id d Work.Refused = HasRefusedWork b d

-- where a desk's book is told, it is told behind the call too
pub record IsHanded (b : Book) (m : Message) (new : Option Book) (o : Option Answer) : Type 0 where
  pub now : Book
  pub told : new ≡ Some now
  pub hands : Hands b m now o

pub record IsDone (b : Book) (id : ℕ) (new : Option Book) (work : Work) : Type 0 where
  pub now : Book
  pub told : new ≡ Some now
  pub works : Works b id now work

-- memory was wanting, and it wasn't the book that refused
abbrev pub lacks_memory : BookFault → Bool
lacks_memory (BookFault.DiskFault n) = false
lacks_memory (BookFault.Closed n) = false
lacks_memory BookFault.Full = false
lacks_memory BookFault.NoMemory = true

---- Parts of an answer

pub record HasParts (place : Option ℕ) (messages : Option (Vec Message)) (answer : Answer) : Type 0 where
  pub place_is : place ≡ Some answer.place
  pub messages_are : messages ≡ Some answer.messages

abbrev pub LacksPart : Option ℕ → Option (Vec Message) → Type 0
LacksPart place messages = (place ≡ None) ⊎ (messages ≡ None)

abbrev pub done_of : Answer → Event → Work
done_of answer event = Work.Done (record { place = answer.place; event = event; messages = answer.messages })

-- work that was done has an event, a place and messages; where there is no event, none was; where it isn't known, there is an event
abbrev pub IsWorkOf : Option ℕ → Option Event → Option (Vec Message) → Work → Type 0
IsWorkOf place event messages Work.Idle = event ≡ None
IsWorkOf place event messages (Work.Done done) = (event ≡ Some done.event) × ((place ≡ Some done.place) × (messages ≡ Some done.messages))
IsWorkOf place event messages Work.Refused = IsSome event × LacksPart place messages

---- What a caller hears

abbrev pub HasRoomFor : ℕ → Asker → Type 0
HasRoomFor n x = x.requester.state.base.taken + n ≤ most_entries

-- it took all these messages, and kept each at the place
pub record HasHeardThese (place : ℕ) (messages : List Message) (old new : Asker) (on : Bool) : Type 0 where
  pub goes : on ≡ true
  pub call : new.call ≡ old.call
  pub kept : new.kept ≡ old.kept ++ map (heard_item old.call.agent old.requester.state.base.now place) messages
  pub next : new.requester.state.base.next ≡ old.requester.state.base.next
  pub now : new.requester.state.base.now ≡ old.requester.state.base.now
  pub taken : new.requester.state.base.taken ≡ old.requester.state.base.taken + length messages

---- The caller and the book

-- what the caller has still to keep, how much work waits and where, and for how many entries each of the two has room
pub record Rest : Type 0 where
  pub items : List Item
  pub works : ℕ
  pub at : Option ℕ
  pub room : ℕ
  pub own_room : ℕ

abbrev pub rest : List Item → ℕ → Option ℕ → ℕ → ℕ → Rest
rest items works at room own_room = record { items = items; works = works; at = at; room = room; own_room = own_room }

-- behind an ask, where so many are still to come
abbrev pub idle : ℕ → Rest
idle j = rest [] 0 None (3 * j) (11 * j)

-- a request was sent
abbrev pub sending : ℕ → Rest
sending j = rest [] 0 None (3 * j + 3) (11 * j + 10)

-- so much work waits on a connection
abbrev pub waiting : ℕ → ℕ → Option ℕ → Rest
waiting j works at = rest [] works at (3 * j + works + 1) (11 * j + 5 * works)

-- what of a caller counts here
pub record Side : Type 0 where
  pub call : Call
  pub kept : List Item
  pub next : ℕ
  pub now : ℕ
  pub taken : ℕ

abbrev pub side_of : Asker → Side
side_of x =
    record { call = x.call; kept = x.kept; next = x.requester.state.base.next; now = x.requester.state.base.now; taken = x.requester.state.base.taken }

-- What the caller kept, and has still to keep, is what the book's history has of it; and all that the history has is its own but these ticks. The requests
-- that the provider has seen are older than the caller's next.
pub record IsAt (t : Network) (first : List Item) (w : Rest) (b : Book) (x : Side) : Type 0 where
  pub network : b.network ≡ t
  pub agent : b.agent ≡ x.call.provider
  pub running : b.faults ≡ 0
  pub caller : is_caller b.network b.agent (Some x.call.agent) ≡ true
  pub known : agent_of b.network (name_of b.network x.call.agent) ≡ Some x.call.agent
  pub good : IsGood (setting_of b.network b.agent) b.state
  pub gone : state_gone b.network b.agent blank b.events ≡ b.state
  pub clock : b.state.now ≡ x.call.second
  pub own_clock : x.now ≡ x.call.second
  pub owners : AreOwnedBy (name_of b.network x.call.agent) b.state.records
  pub ids : All (λ h. h.correlation < id_of x.call.agent x.next) b.state.seen
  pub kept : x.kept ++ w.items ≡ found b.network b.agent x.call.agent x.call.second blank 0 b.events
  pub others : (o : ℕ) → (x.call.agent == o) ≡ false → found b.network b.agent o x.call.second blank 0 b.events ≡ []
  pub owned : strays b.network b.agent blank 0 b.events ≡ []
  pub begins : ticks b.network b.agent blank 0 b.events ≡ first
  pub works : works_among b.state.records ≤ w.works
  pub only : WaitsAt w.at b.state.records
  pub room : b.state.taken + w.room ≤ most_entries
  pub own_room : x.taken + w.own_room ≤ most_entries
  pub few : length w.items ≤ 5

abbrev pub IsAlone : Network → List Item → Rest → Book → Asker → Type 0
IsAlone t first w b x = IsAt t first w b (side_of x)

-- a request that the caller has just sent
pub record IsNewRequest (b : Book) (x : Asker) (m : Message) : Type 0 where
  pub requester : m.header.requester ≡ name_of b.network x.call.agent
  pub earlier : m.header.correlation < id_of x.call.agent x.requester.state.base.next
  pub request : is_request m.body ≡ true
  pub new : is_taken m.header b.state.seen ≡ false

-- what a request comes to: itself, and the messages that it causes
abbrev pub heard_items : Asker → ℕ → List Message → List Item
heard_items x place messages = map (heard_item x.call.agent x.call.second place) messages

abbrev pub done_items : Asker → DoneWork → List Item
done_items x done = item done.place done.event ∷ heard_items x done.place done.messages.items

-- the request was kept, and its answers weren't heard yet
abbrev pub answered : ℕ → Option ℕ → List Item → Rest
answered j at items = rest items 1 at (3 * j + 2) (11 * j + 10)

-- work was done, and nothing of it was kept yet
abbrev pub worked : ℕ → ℕ → Option ℕ → List Item → Rest
worked j works at items = rest items works at (3 * j + works + 1) (11 * j + 5 * works + 5)

-- the caller goes on, or the book is closed
abbrev pub EndsTo : Network → List Item → Rest → Book → Asker → Bool → Type 0
EndsTo t first w d x true = IsAlone t first w d x
EndsTo t first w d x false = 0 < d.faults

pub record EndsAlone (t : Network) (first : List Item) (w : Rest) (new : Option Book) (x : Asker) (on : Bool) : Type 0 where
  pub now : Book
  pub told : new ≡ Some now
  pub ends : EndsTo t first w now x on

---- Before and behind all asks

-- a book to which nothing happened but these ticks, whose clock stands at the caller's
pub record IsReadyFor (t : Network) (first : List Item) (c : Call) (start : Option ℕ) (count : ℕ) (b : Book) : Type 0 where
  pub network : b.network ≡ t
  pub agent : b.agent ≡ c.provider
  pub running : b.faults ≡ 0
  pub known : agent_of t (name_of t c.agent) ≡ Some c.agent
  pub own_clock : (begun t c.agent start).base.now ≡ c.second
  pub caller : is_caller t c.provider (Some c.agent) ≡ true
  pub good : IsGood (setting_of b.network b.agent) b.state
  pub gone : state_gone b.network b.agent blank b.events ≡ b.state
  pub clock : b.state.now ≡ c.second
  pub records : b.state.records ≡ []
  pub seen : b.state.seen ≡ []
  pub nothing : (o : ℕ) → found b.network b.agent o c.second blank 0 b.events ≡ []
  pub owned : strays b.network b.agent blank 0 b.events ≡ []
  pub begins : ticks b.network b.agent blank 0 b.events ≡ first
  pub taken : b.state.taken ≤ 1
  pub few : count ≤ 100000

-- the history is the caller's alone, as the caller kept it, and no work waits
pub record IsItsOwn (t : Network) (first : List Item) (c : Call) (kept : List Item) (b : Book) : Type 0 where
  pub kept_is : kept ≡ found t c.provider c.agent c.second blank 0 b.events
  pub others : (o : ℕ) → (c.agent == o) ≡ false → found t c.provider o c.second blank 0 b.events ≡ []
  pub owned : strays t c.provider blank 0 b.events ≡ []
  pub begins : ticks t c.provider blank 0 b.events ≡ first
  pub idle : waiting_work (state_gone t c.provider blank b.events) ≡ None

pub record EndsOwn (t : Network) (first : List Item) (c : Call) (new : Option Book) (kept : List Item) : Type 0 where
  pub now : Book
  pub told : new ≡ Some now
  pub is : now.faults ≡ 0 → IsItsOwn t first c kept now
