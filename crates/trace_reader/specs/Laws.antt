-- What is true of events and of their lines.
use Rattle.std.specs.Prelude.{◌≡◌, ◌<◌, ℕ, List, [], ◌∷◌, ◌++◌, length, Some, Ok}
use Rattle.nsi_primitive.specs.Ranges.{IsName, IsRangedEvent, IsRangedIdentity, IsSpellable, IsSpellableAsk}
use Rattle.nsi_primitive.specs.declared.ask.Ask.{Ask}
use Rattle.nsi_primitive.specs.declared.entry.Event.{Event}
use Rattle.nsi_primitive.specs.declared.message.Identity.{Identity}
use Rattle.nsi_primitive.specs.declared.message.Message.{Message}
use Rattle.nsi_primitive.specs.declared.message.Parcel.{Parcel}
use Rattle.ask_text.specs.Asks.{ask_text}
use Rattle.ask_text.specs.Reading.{ask_of}
use Rattle.json_primitives.specs.Lines.{object_of}
use Rattle.json_primitives.specs.Spelling.{spelling, parcel_spelling}
use Rattle.stp_topology.specs.Network.{agent_of, name_of}
use Rattle.stp_topology.specs.declared.network.Network.{Network}
use Rattle.stp_topology.specs.Text.{topology_of}
use Rattle.trace_text.specs.Lines.{HasLine, line_of, text_of}
use Rattle.trace_reader.specs.Moments.{IsOfMoment}
use Rattle.trace_reader.specs.Pasts.{Past, clocks, past_behind}

-- the texts of asks, messages and acknowledgements are read as what they are written for
pub record AreTextsReadAgain : Type 0 where
  pub asks : (a : Ask) → IsSpellableAsk a → ask_of (ask_text a) ≡ Some a
  pub messages : (m : Message) → IsSpellable m → object_of (spelling m) ≡ Ok (Parcel.Message m)
  pub acks : (i : Identity) → IsRangedIdentity i → object_of (parcel_spelling (Parcel.Ack i)) ≡ Ok (Parcel.Ack i)

-- each agent has a name, by which it is found
pub record HasNames (t : Network) : Type 0 where
  pub named : (a : ℕ) → a < length t.agents → IsName (name_of t a)
  pub found : (a : ℕ) → a < length t.agents → agent_of t (name_of t a) ≡ Some a

-- so it is with each topology that a text gives
abbrev pub TopologiesHaveNames : Type 0
TopologiesHaveNames = (text : List ℕ) (t : Network) (place : ℕ) → topology_of text ≡ Ok (t, place) → HasNames t

-- what may stand in a trace at a moment: it has a line, is of the moment, and its numbers, names and texts are such
pub record MayStand (t : Network) (seconds : ℕ → ℕ) (asks : ℕ) (e : Event) : Type 0 where
  pub has_line : HasLine t e
  pub ranged : IsRangedEvent e
  pub of_moment : IsOfMoment seconds asks e

-- each event may stand at its moment: the seconds and the number of asks of a state, which each event leads on
unfoldable pub GoOnBy : {S : Type 0} → (seconds : S → ℕ → ℕ) (asks : S → ℕ) (behind : S → Event → S) → Network → S → List Event → Type 0
GoOnBy seconds asks behind t s [] = Unit {0}
GoOnBy seconds asks behind t s (e ∷ es) = MayStand t (seconds s) (asks s) e × GoOnBy seconds asks behind t (behind s e) es

-- events that go on from a past, by the journals that they make
abbrev pub GoOn : Network → Past → List Event → Type 0
GoOn t p es = GoOnBy clocks (λ (q : Past). q.asks) (λ q e. past_behind q e.agent e.what) t p es

-- events whose seconds and numbers of asks are given functions of the events before them
abbrev pub AreTimedBy : (seconds : List Event → ℕ → ℕ) (asks : List Event → ℕ) → Network → List Event → Type 0
AreTimedBy seconds asks t es = GoOnBy seconds asks (λ before e. before ++ e ∷ []) t [] es

-- two events of one moment that have one line are one event
abbrev pub LinesAreApart : Type 0
LinesAreApart =
    (t : Network) (seconds : ℕ → ℕ) (asks : ℕ) (e f : Event) → HasNames t → MayStand t seconds asks e → MayStand t seconds asks f
    → line_of t e ≡ line_of t f → e ≡ f

-- two lists of events that go on from one past and have one text are one list
abbrev pub TextsAreApart : Type 0
TextsAreApart =
    (t : Network) (p : Past) (es fs : List Event) → HasNames t → GoOn t p es → GoOn t p fs
    → text_of t es ≡ text_of t fs → es ≡ fs

-- the same whatever gives the seconds and the numbers of asks by the events before
abbrev pub TimedTextsAreApart : Type 0
TimedTextsAreApart =
    (t : Network) (seconds : List Event → ℕ → ℕ) (asks : List Event → ℕ) (es fs : List Event) → HasNames t
    → AreTimedBy seconds asks t es → AreTimedBy seconds asks t fs → text_of t es ≡ text_of t fs → es ≡ fs
