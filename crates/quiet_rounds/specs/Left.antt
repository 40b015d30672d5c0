-- How much is left to do for a net in which nothing happens any more.
use Rattle.std.specs.Prelude.{ℕ, zero, suc, ◌+◌, ◌*◌, max, List, [], ◌∷◌, length}
use Rattle.nsi_primitive.specs.declared.message.Parcel.{Parcel}
use Rattle.agent_node.specs.Doors.{Door}
use Rattle.nsi_play.specs.Rounds.{Net}

-- a place behind one parcel more, where there is one
abbrev pub behind_one : ℕ → ℕ
behind_one zero = 0
behind_one (suc place) = suc (suc place)

-- the place of the last message, where the first is 1; 0 where there is none
abbrev pub last_message : List Parcel → ℕ
last_message [] = 0
last_message (Parcel.Message m ∷ ps) = suc (last_message ps)
last_message (Parcel.Ack i ∷ ps) = behind_one (last_message ps)

abbrev pub last_queued : Door → ℕ
last_queued d = last_message d.queue

abbrev pub last_come : Door → ℕ
last_come d = last_message d.inc

abbrev pub queued : Door → ℕ
queued d = length d.queue

abbrev pub come : Door → ℕ
come d = length d.inc

-- the greatest of these numbers at an agent's doors
abbrev pub greatest_at : (Door → ℕ) → List Door → ℕ
greatest_at f [] = 0
greatest_at f (d ∷ ds) = max (f d) (greatest_at f ds)

-- and at the doors of all agents
abbrev pub greatest : (Door → ℕ) → Net → ℕ
greatest f [] = 0
greatest f (s ∷ ss) = max (greatest_at f s.doors) (greatest f ss)

-- whether there is anything, as a number
abbrev pub one_if_any : ℕ → ℕ
one_if_any zero = 0
one_if_any (suc n) = 1

-- by these four numbers
abbrev pub weight : ℕ → ℕ → ℕ → ℕ → ℕ
weight last_queued last_come queued come = 2060 * last_queued + 1028 * one_if_any last_come + 2 * queued + one_if_any come

-- What is left falls with every round in which nothing happens: the last message of a queue comes nearer to its front, since only
-- acknowledgements are queued behind it; then no message lies at a door, and every queue gets shorter; then all queues are empty, and nothing
-- comes. Until then a queue grows by 512 acknowledgements in a round at most, as a link whose parcels all come twice takes 512 of those that may come.
abbrev pub left : Net → ℕ
left net = weight (greatest last_queued net) (greatest last_come net) (greatest queued net) (greatest come net)
