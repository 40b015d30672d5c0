-- Runs of a provider over events: entries, syncs and restarts. What is promised of them.
use Rattle.std.specs.Prelude.{◌≡◌, ◌<◌, ℕ, Bool, true, false, List, [], ◌∷◌, ◌++◌, Option, None, length}
use Rattle.std.specs.List.{All}
use Rattle.nsi_primitive.specs.Messages.{is_request}
use Rattle.nsi_primitive.specs.Printable.{IsPrintableEntry}
use Rattle.nsi_primitive.specs.declared.ask.AskAnswer.{AskAnswer}
use Rattle.nsi_primitive.specs.declared.message.Message.{Message}
use Rattle.nsi_primitive.specs.declared.entry.Entry.{Entry}
use Rattle.nsi_primitive.specs.declared.entry.Happening.{Happening}
use Rattle.nsi_primitive.specs.declared.entry.Input.{Input}
use Rattle.provider_agent.specs.Setting.{Setting}
use Rattle.agent_state.specs.Entries.{is_on_time, most_entries}
use Rattle.provider_agent.specs.Steps.{is_for_provider, after}
use Rattle.provider_agent.specs.Safety.{IsCapped, IsRising, Keeps, IsHonest}
use Rattle.provider_agent.specs.Events.{all_synced, synced_part, happens, journal_after}
use Rattle.provider_agent.specs.Cuts.{Journal, IsCut, cut}
use Rattle.provider_agent.specs.Replay.{replay, replayed, AreFirstOf}

---- Events that are allowed

-- an entry that a provider takes behind a journal: there is room, it can be printed, it is a provider's, and its second fits the clock
pub record MayEnter (setting : Setting) (stp_of : List ℕ → Option ℕ) (j : Journal) (e : Entry) : Type 0 where
  pub room : length j.entries < most_entries
  pub printable : IsPrintableEntry e
  pub own : is_for_provider e.input ≡ true
  pub on_time : is_on_time e.input e.second (replayed setting stp_of j.entries).now ≡ true

-- an entry is appended without an answer, since only asks have one; a sync is of all entries; a restart leaves a cut
abbrev pub IsAllowed : Setting → (List ℕ → Option ℕ) → Journal → Happening → Type 0
IsAllowed setting stp_of j (Happening.Entry e answer) = MayEnter setting stp_of j e × (answer ≡ None)
IsAllowed setting stp_of j (Happening.Sync count) = count ≡ length j.entries
IsAllowed setting stp_of j (Happening.Restart count) = IsCut j count

-- each event is allowed in the journal that those before it make
abbrev pub AreAllowed : Setting → (List ℕ → Option ℕ) → Journal → List Happening → Type 0
AreAllowed setting stp_of j [] = Unit {0}
AreAllowed setting stp_of j (x ∷ xs) = IsAllowed setting stp_of j x × AreAllowed setting stp_of (happens j x) xs

-- a request of anybody, the provider's own work, or its clock
abbrev pub is_of_agent_run : Input → Bool
is_of_agent_run (Input.Got m) = is_request m.body
is_of_agent_run (Input.Work _ _) = true
is_of_agent_run Input.Tick = true
is_of_agent_run _ = false

abbrev pub IsOfAgentRun : Happening → Type 0
IsOfAgentRun (Happening.Entry e answer) = is_of_agent_run e.input ≡ true
IsOfAgentRun _ = Unit {0}

-- A run of one provider, from a journal of any entries that can be printed, all synced: requests, work, ticks, syncs and restarts.
pub record IsAgentRun (setting : Setting) (stp_of : List ℕ → Option ℕ) (stated : List Entry) (events : List Happening) : Type 0 where
  pub printable : All IsPrintableEntry stated
  pub allowed : AreAllowed setting stp_of (all_synced stated) events
  pub inputs : All IsOfAgentRun events

---- What they cause

-- the messages of one event: those of its entry
abbrev pub caused_by : Setting → (List ℕ → Option ℕ) → Journal → Happening → List Message
caused_by setting stp_of j (Happening.Entry e answer) = (after setting stp_of (replayed setting stp_of j.entries) e).out
caused_by setting stp_of j _ = []

-- the messages of events, in order
unfoldable pub caused : Setting → (List ℕ → Option ℕ) → Journal → List Happening → List Message
caused setting stp_of j [] = []
caused setting stp_of j (x ∷ xs) = caused_by setting stp_of j x ++ caused setting stp_of (happens j x) xs

---- What is promised

-- In every cut of every state no load passes a capacity and versions rise. What was committed by entries that were synced at an earlier moment stays
-- in every cut of every later one. Each entry is honest in the state before it.
pub record AreSafe (setting : Setting) (stp_of : List ℕ → Option ℕ) (start : Journal) (events : List Happening) : Type 0 where
  pub capped : (earlier later : List Happening) → events ≡ earlier ++ later → (k : ℕ) → IsCut (journal_after start earlier) k
      → IsCapped setting (replayed setting stp_of (cut (journal_after start earlier) k))
  pub rising : (earlier later : List Happening) → events ≡ earlier ++ later → (k : ℕ) → IsCut (journal_after start earlier) k
      → IsRising (replayed setting stp_of (cut (journal_after start earlier) k))
  pub keeps : (earlier middle later : List Happening) → events ≡ earlier ++ (middle ++ later) → (k : ℕ) → IsCut (journal_after start (earlier ++ middle)) k
      → Keeps (replayed setting stp_of (synced_part (journal_after start earlier))) (replayed setting stp_of (cut (journal_after start (earlier ++ middle)) k))
  pub honest : (earlier later : List Happening) (e : Entry) (answer : Option AskAnswer) → events ≡ earlier ++ Happening.Entry e answer ∷ later
      → IsHonest setting stp_of (replayed setting stp_of (journal_after start earlier).entries) e

-- What the entries that were synced at an earlier moment cause, every cut of every later one causes first.
abbrev pub StaysCaused : Setting → (List ℕ → Option ℕ) → Journal → List Happening → Type 0
StaysCaused setting stp_of start events =
    (earlier middle later : List Happening) → events ≡ earlier ++ (middle ++ later) → (k : ℕ) → IsCut (journal_after start (earlier ++ middle)) k
    → AreFirstOf (replay setting stp_of (synced_part (journal_after start earlier))).out (replay setting stp_of (cut (journal_after start (earlier ++ middle)) k)).out
