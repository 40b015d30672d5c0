-- Lines by which an agent takes a parcel.
use Rattle.std.specs.Prelude.{◌≡◌, ◌<◌, ◌++◌, ◌∷◌, ℕ, List, length, Option, Some, None, Ok}
use Rattle.nsi_primitive.specs.Printable.{IsPrintableParcel}
use Rattle.nsi_primitive.specs.declared.entry.Event.{Event}
use Rattle.nsi_primitive.specs.declared.entry.Happening.{Happening}
use Rattle.nsi_primitive.specs.declared.entry.Input.{Input}
use Rattle.nsi_primitive.specs.declared.message.Message.{Message}
use Rattle.nsi_primitive.specs.declared.message.Parcel.{Parcel}
use Rattle.json_primitives.specs.Lines.{object_of}
use Rattle.json_primitives.specs.Spelling.{parcel_spelling}
use Rattle.stp_topology.specs.Network.{name_of}
use Rattle.stp_topology.specs.declared.network.Network.{Network}
use Rattle.trace_text.specs.Lines.{input_verb}
use Rattle.agent_state.specs.Entries.{most_entries}
use Rattle.nsi_world.specs.Worlds.{Homes, World, IsSent, IsTo}
use Rattle.trace_verify.specs.Traces.{seconds_in}
use Rattle.trace_verify.specs.declared.parcels.Delivery.{Delivery}

-- what an agent takes of a parcel
abbrev pub input_of : Parcel → Input
input_of (Parcel.Message m) = Input.Got m
input_of (Parcel.Ack i) = Input.Acked i

-- a first word, the name of an agent, and a text behind it
pub record IsNamed (t : Network) (verb line : List ℕ) (agent : ℕ) (text : List ℕ) : Type 0 where
  pub within : agent < length t.agents
  pub whole : line ≡ verb ++ 32 ∷ (name_of t agent ++ 32 ∷ text)

-- the text is the print of the parcel, and is read as it
pub record IsParcelIn (text : List ℕ) (p : Parcel) : Type 0 where
  pub printable : IsPrintableParcel p
  pub spelled : parcel_spelling p ≡ text
  pub again : object_of text ≡ Ok p

-- a parcel, and the first word of lines by which an agent takes such
pub record IsParcelBehind (verb text : List ℕ) (p : Parcel) : Type 0 where
  pub verb_is : input_verb (input_of p) ≡ verb
  pub parcel : IsParcelIn text p

abbrev pub delivery_of : ℕ → Option Parcel → Option Delivery
delivery_of a (Some p) = Some (record { agent = a; parcel = p })
delivery_of a None = None

-- the line is that of the delivery
pub record IsDelivery (t : Network) (line : List ℕ) (d : Delivery) : Type 0 where
  pub text : List ℕ
  pub named : IsNamed t (input_verb (input_of d.parcel)) line d.agent text
  pub parcel : IsParcelIn text d.parcel

-- a message was said by some agent
abbrev pub WasSaid : Homes → World → Parcel → Type 0
WasSaid homes w (Parcel.Message m) = IsSent homes w m
WasSaid homes w (Parcel.Ack i) = Unit {0}

-- an agent takes it
abbrev pub takes : ℕ → Parcel → Happening
takes second p = Happening.Entry (record { second = second; input = input_of p }) None

abbrev pub event_at : (second agent : ℕ) → Parcel → Event
event_at second a p = record { agent = a; what = takes second p }

abbrev pub taken_now : Homes → World → ℕ → Parcel → Happening
taken_now homes w a p = takes (seconds_in homes w a) p

-- there is room for one entry more at the agent, and the message is for it
pub record HasRoomFor (homes : Homes) (w : World) (a : ℕ) (m : Message) : Type 0 where
  pub room : length (w.journal a) < most_entries
  pub addressed : IsTo homes a m
