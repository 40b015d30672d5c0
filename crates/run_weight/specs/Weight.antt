-- How many events a play makes at most: a number that topology and script tell.
use Rattle.std.specs.Prelude.{ℕ, ◌+◌, ◌*◌, ◌==◌, ◌&&◌, List, length, map, sum_by, Option, Some, None, if◌then◌else◌}
use Rattle.nsi_primitive.specs.declared.ask.What.{What}
use Rattle.stp_topology.specs.declared.network.Network.{Network}
use Rattle.stp_topology.specs.Rank.{greatest}
use Rattle.requester_agent.specs.Setting.{setting_of}
use Rattle.nsi_agent.specs.Homes.{Routes}
use Rattle.nsi_script.specs.declared.script.Act.{Act}
use Rattle.nsi_script.specs.declared.script.Group.{Group}
use Rattle.nsi_script.specs.Scripts.{acts_of, asks_of, has_label}
use Rattle.way_reach.specs.Reach.{reach}
use Rattle.due_events.specs.Counts.{act_worth, script_forces}
use Rattle.run_requests.specs.Requests.{by_label}

---- Asks

-- how many agents a reserve of the requester comes to; what else is asked is no reserve
abbrev pub reserve_reach : Network → Routes → (requester : ℕ) → What → ℕ
reserve_reach t routes a (What.Reserve q) = reach t routes (record { child = (setting_of t a).provider; source = q.source; dest = q.dest })
reserve_reach t routes a what = 0

-- the same of an act, where it asks that requester under that label
abbrev pub label_reach : Network → Routes → (requester : ℕ) → (label : List ℕ) → Act → ℕ
label_reach t routes a label (Act.Ask own ask) = if (a == own) && has_label label ask.label then reserve_reach t routes a ask.what else 0
label_reach t routes a label act = 0

-- how many agents an ask under a label comes to at most, as many as any reserve of it; and one without a label, to one
abbrev pub label_most : Network → Routes → List Group → (requester : ℕ) → Option (List ℕ) → ℕ
label_most t routes script a None = 1
label_most t routes script a (Some label) = greatest (map (label_reach t routes a label) (acts_of script))

-- all asks together
abbrev pub asks_reach : Network → Routes → List Group → ℕ
asks_reach t routes script = sum_by (act_worth (by_label (label_most t routes script))) (acts_of script)

---- The script

-- how many messages there are at most for each agent that an ask comes to
abbrev pub messages_each : ℕ
messages_each = 32

-- How many entries there are at most at once: a tick of each agent in each group, each forced end and each ask; and of each message one entry in
-- which it is got, one in which its acknowledgement is, and one of work on it.
unfoldable pub most_held : Network → Routes → List Group → ℕ
most_held t routes script = length t.agents * length script + (script_forces script + (asks_of script + 3 * (messages_each * asks_reach t routes script)))

-- All of these may be made once more behind each restart. Each may be synced alone, and each restart is an event itself.
unfoldable pub weight : Network → Routes → List Group → (restarts : ℕ) → ℕ
weight t routes script restarts = 2 * ((1 + restarts) * most_held t routes script) + restarts
