-- A caller at work.
use Rattle.std.specs.List.{All}
use Rattle.std.specs.Global.{Vec}
use Rattle.std.specs.Prelude.{◌≡◌, ◌<◌, ◌≤◌, ◌==◌, Bool, true, false, List, [], ◌∷◌, length, IfSome}
use Rattle.nsi_primitive.specs.Printable.{IsPrintable}
use Rattle.nsi_primitive.specs.declared.ask.Ask.{Ask}
use Rattle.nsi_primitive.specs.declared.entry.Entry.{Entry}
use Rattle.nsi_primitive.specs.declared.message.Message.{Message}
use Rattle.stp_topology.specs.declared.network.Network.{Network}
use Rattle.agent_state.specs.Entries.{most_entries}
use Rattle.requester_agent.specs.Setting.{setting_of}
use Rattle.requester_agent.specs.Steps.{may_take}
use Rattle.race_run.specs.Compared.{AllStand}
use Rattle.race_caller.specs.declared.asker.Asker.{Asker}
use Rattle.race_caller.specs.declared.asker.Sent.{Sent}
use Rattle.race_caller.specs.declared.desk.Answer.{Answer}
use Rattle.race_caller.specs.declared.desk.Work.{Work}
use Rattle.race_caller.specs.Plays.{asker_after, IsSilent, IsRequestOf, HearsMore, AsksMore, FollowsMore, PlaysMore}

-- its requester is the agent's of the network, and all that it kept can be told
pub record IsAsker (t : Network) (x : Asker) : Type 0 where
  pub setting : x.requester.setting ≡ setting_of t x.call.agent
  pub agent : x.call.agent < length t.agents
  pub provider : x.call.provider < length t.agents
  pub apart : (x.call.provider == x.call.agent) ≡ false
  pub last : IfSome x.last IsPrintable
  pub stand : AllStand t x.kept

-- its requester took an entry
pub record HasTaken (t : Network) (e : Entry) (old new : Asker) (said : Vec Message) : Type 0 where
  pub is : IsAsker t new
  pub call : new.call ≡ old.call
  pub kept : new.kept ≡ old.kept
  pub may : may_take old.requester.state e ≡ true
  pub state : new.requester.state ≡ (asker_after t old.call.agent old.requester.state e).state
  pub out : said.items ≡ (asker_after t old.call.agent old.requester.state e).out
  pub printable : All IsPrintable said.items

pub record IsFirst (m : Message) (out : List Message) : Type 0 where
  pub more : List Message
  pub one : out ≡ m ∷ more
  pub printable : IsPrintable m

-- the first message, where there is one
abbrev pub IsPick : List Message → Sent → Type 0
IsPick out Sent.Full = ⊥
IsPick out Sent.Nothing = out ≡ []
IsPick out (Sent.Request m) = IsFirst m out

pub record HasPicked (t : Network) (out : List Message) (old new : Asker) (sent : Sent) : Type 0 where
  pub is : IsAsker t new
  pub call : new.call ≡ old.call
  pub kept : new.kept ≡ old.kept
  pub requester : new.requester ≡ old.requester
  pub pick : IsPick out sent

-- what an ask makes it send
abbrev pub SendsBy : Network → Ask → Asker → Asker → Sent → Type 0
SendsBy t ask old new Sent.Full = most_entries ≤ old.requester.state.base.taken
SendsBy t ask old new Sent.Nothing = IsSilent t old.call.agent old.requester.state ask new.requester.state
SendsBy t ask old new (Sent.Request m) = IsRequestOf t old.call.agent old.requester.state ask m new.requester.state × IsPrintable m

pub record HasSent (t : Network) (ask : Ask) (old new : Asker) (sent : Sent) : Type 0 where
  pub is : IsAsker t new
  pub call : new.call ≡ old.call
  pub kept : new.kept ≡ old.kept
  pub sends : SendsBy t ask old new sent

-- where it goes on, it took what is its own among these items
pub record HasHeard (t : Network) (old new : Asker) (on : Bool) : Type 0 where
  pub is : IsAsker t new
  pub call : new.call ≡ old.call
  pub heard : on ≡ true → HearsMore t old.call old.requester.state old.kept new.requester.state new.kept

-- where it goes on, it kept its request and took what is its own behind that
pub record HasFollowed (t : Network) (m : Message) (old new : Asker) (on : Bool) : Type 0 where
  pub is : IsAsker t new
  pub call : new.call ≡ old.call
  pub followed : on ≡ true → FollowsMore t old.call m old.requester.state old.kept new.requester.state new.kept

-- where it goes on, it asked this
pub record HasAsked (t : Network) (ask : Ask) (old new : Asker) (on : Bool) : Type 0 where
  pub is : IsAsker t new
  pub call : new.call ≡ old.call
  pub asked : on ≡ true → AsksMore t old.call old.requester.state ask old.kept new.requester.state new.kept

-- where it goes on, it asked all that
pub record HasPlayed (t : Network) (asks : List Ask) (old new : Asker) (on : Bool) : Type 0 where
  pub is : IsAsker t new
  pub call : new.call ≡ old.call
  pub plays : on ≡ true → PlaysMore t old.call old.requester.state asks old.kept new.requester.state new.kept

-- each message of an answer can be printed
abbrev pub IsAnswer : Answer → Type 0
IsAnswer a = All IsPrintable a.messages.items

-- each message that work causes can be printed
abbrev pub IsWork : Work → Type 0
IsWork (Work.Done d) = All IsPrintable d.messages.items
IsWork _ = Unit {0}
