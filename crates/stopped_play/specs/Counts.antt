-- How many restarts there are, and how many stops made them.
use Rattle.std.specs.Prelude.{ℕ, ◌+◌, ◌==◌, List, [], ◌∷◌, sum, sum_by, if◌then◌else◌, Option, Some, None}
use Rattle.nsi_primitive.specs.declared.entry.Event.{Event}
use Rattle.nsi_primitive.specs.declared.entry.Happening.{Happening}
use Rattle.stopped_play.specs.Tapes.{Cut, Cuts, Tape, Stops}

abbrev pub one_restart : Happening → ℕ
one_restart (Happening.Restart count) = 1
one_restart _ = 0

-- how many of these events are restarts
abbrev pub restarts_in : List Event → ℕ
restarts_in [] = 0
restarts_in (e ∷ es) = one_restart e.what + restarts_in es

-- how often a disk stopped
abbrev pub stops_of : Option Cut → ℕ
stops_of None = 0
stops_of (Some c) = c.again + 1

-- how often the disks of these agents did
abbrev pub stops_among : Cuts → (agents : List ℕ) → ℕ
stops_among cuts [] = 0
stops_among cuts (a ∷ rest) = stops_of (cuts a) + stops_among cuts rest

-- the same in these rounds
abbrev pub round_stops : (agents : List ℕ) → List Cuts → ℕ
round_stops agents [] = 0
round_stops agents (cuts ∷ rest) = stops_among cuts agents + round_stops agents rest

-- in a group, and while its acts read journals again
abbrev pub tape_stops : (agents : List ℕ) → Tape → ℕ
tape_stops agents tape = sum tape.acts + round_stops agents tape.rounds

-- in a play
abbrev pub play_stops : (agents : List ℕ) → List Tape → ℕ
play_stops agents [] = 0
play_stops agents (tape ∷ rest) = tape_stops agents tape + play_stops agents rest

-- and in a whole play: while journals were first made, and in its groups
abbrev pub all_stops : (agents : List ℕ) → Stops → ℕ
all_stops agents stops = sum_by stops.making agents + play_stops agents stops.groups

-- cuts that are told one by one, the first of each agent
abbrev pub cuts_of : List (ℕ × Cut) → Cuts
cuts_of [] a = None
cuts_of (x ∷ xs) a = if a == x.0 then Some x.1 else cuts_of xs a
