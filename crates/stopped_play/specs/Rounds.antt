-- Rounds in which disks stop: such an agent ends its turn there, meets the others all the same, and goes on behind the round from what its disk
-- has.
use Rattle.std.specs.Prelude.{List, [], ◌∷◌, map, if◌then◌else◌, Option, Some, None}
use Rattle.nsi_agent.specs.Homes.{Home}
use Rattle.agent_node.specs.Seat.{Seat}
use Rattle.agent_node.specs.Turns.{turned, halted}
use Rattle.agent_node.specs.Restarts.{reads_past, cut_past}
use Rattle.nsi_play.specs.Rounds.{Net, Homes, met_all, all_quiet}
use Rattle.nsi_play.specs.Play.{Played, stopped, over, after_round}
use Rattle.stopped_play.specs.Tapes.{Cut, Cuts}

---- Turns

-- a turn, or as much of it as comes before its sync
abbrev pub turned_or : Option Cut → Home → Seat → Seat
turned_or None h s = turned h s
turned_or (Some c) h s = halted h s

abbrev pub turned_by : Cuts → Homes → Seat → Seat
turned_by cuts homes s = turned_or (cuts s.number) (homes s.number) s

-- each takes its turn as far as its disk goes, and then each learns what was let through to it
unfoldable pub round_by : Cuts → Homes → Net → Net
round_by cuts homes net = met_all (map (turned_by cuts homes) net)

---- Behind a round

-- it reads what the stop has left, where it tells of it
abbrev pub reopened : Option Cut → Home → Seat → Seat
reopened None h s = s
reopened (Some c) h s = reads_past (cut_past c.keeps s) h c.again s

abbrev pub reopened_by : Cuts → Homes → Seat → Seat
reopened_by cuts homes s = reopened (cuts s.number) (homes s.number) s

-- those whose disks stopped go on from what these have, in the agents' order
unfoldable pub reopens : Cuts → Homes → Net → Net
reopens cuts homes net = map (reopened_by cuts homes) net

-- a round, behind it its restarts, and then the rest
abbrev pub after_cuts : Cuts → Homes → Net → (Net → Played) → Played
after_cuts cuts homes net rest = after_round (round_by cuts homes net) (λ (x : Net). after_round (reopens cuts homes x) rest)

-- rounds until all are quiet, no more than these
unfoldable pub settles_by : List Cuts → Homes → Net → Played
settles_by [] homes net = if all_quiet homes net then over net else stopped net
settles_by (c ∷ cs) homes net = if all_quiet homes net then over net else after_cuts c homes net (settles_by cs homes)
