-- An agent that has read entries, out of its steps.
use Rattle.std.proofs.Common.{ℕ, zero, suc, refl, ◌≡◌, ◌∙◌, ◌++◌, ◌∷◌, [], List, Option, None, length, map, sym, ap}
use Rattle.nsi_primitive.specs.declared.entry.Entry.{Entry}
use Rattle.nsi_primitive.specs.declared.entry.Event.{Event}
use Rattle.nsi_primitive.specs.declared.message.Message.{Message}
use Rattle.agent_state.specs.State.{AgentState}
use Rattle.nsi_agent.specs.Homes.{Home}
use Rattle.nsi_agent.specs.Told.{told}
use Rattle.agent_node.specs.Doors.{Door}
use Rattle.agent_node.specs.Passing.{says_all}
use Rattle.agent_node.specs.Seat.{Seat}
use Rattle.agent_node.specs.Restarts.{restart_event, restart_events, drops, instead, reads, begun_again, tells_restart}

-- one restart more may be told first or last
pub more_restarts : (times n count : ℕ) → restart_events times n count ++ restart_event n count ∷ [] ≡ restart_event n count ∷ restart_events times n count
more_restarts zero n count = refl
more_restarts (suc times) n count = ap (λ (es : List Event). restart_event n count ∷ es) (more_restarts times n count)

abbrev with_told : Seat → List Event → List Door → Seat
with_told s events doors = record { number = s.number; state = s.state; past = s.past; synced = s.synced; fresh = s.fresh; unsaid = s.unsaid; events = events; doors = doors }

-- events and doors are those of a restart that is told
pub tells_is : (h : Home) (s : Seat) (ms : List Message) (tries : ℕ) (events : List Event) (doors : List Door) → events ≡ s.events ++ restart_event s.number s.synced ∷ restart_events tries s.number s.synced → doors ≡ says_all h.agent_of ms s.doors
    → record { number = s.number; state = s.state; past = s.past; synced = s.synced; fresh = s.fresh; unsaid = s.unsaid; events = events; doors = doors } ≡ tells_restart h ms tries s
tells_is h s ms tries events doors p q =
    ap (λ (es : List Event). with_told s es doors) p
    ∙ ap (λ (ds : List Door). with_told s (s.events ++ restart_event s.number s.synced ∷ restart_events tries s.number s.synced) ds) q

abbrev reads_by : Home → (tries : ℕ) → List Entry → Seat → AgentState → Option (List Entry) → Seat
reads_by h tries es s state past =
    record {
      number = s.number;
      state = state;
      past = past;
      synced = length es;
      fresh = [];
      unsaid = [];
      events = s.events ++ restart_event s.number (length es) ∷ restart_events tries s.number (length es);
      doors = says_all h.agent_of state.base.waiting (map drops s.doors);
    }

-- it has begun again in the state that the entries make, and this is told
pub reads_is : (h : Home) (tries : ℕ) (es : List Entry) (s a b : Seat) (state : AgentState) (ms : List Message) → s.past ≡ None → state ≡ (told h es).state → ms ≡ state.base.waiting → a ≡ begun_again state (length es) s
    → b ≡ tells_restart h ms tries a → b ≡ reads h tries es s
unfolding reads
reads_is h tries es s a b state ms none is waits begun tells =
    tells
    ∙ (ap (λ (x : Seat). tells_restart h ms tries x) begun
    ∙ (ap (λ (xs : List Message). tells_restart h xs tries (begun_again state (length es) s)) waits
    ∙ (ap (λ (x : AgentState). reads_by h tries es s x s.past) is
    ∙ ap (λ (p : Option (List Entry)). reads_by h tries es s (told h es).state p) (none ∙ sym (ap (instead es) none)))))
