-- The laws of runs, by the laws of the agents.
use Rattle.std.proofs.Common.{◌≤◌, sym, ap, ◌∙◌, subst, arith, length}
use Rattle.std.specs.List.{All}
use Rattle.std.proofs.lemmas.List.Elements.{All-contains}
use Rattle.agent_state.specs.Entries.{most_entries}
use Rattle.nsi_agent.specs.Homes.{home_in}
use Rattle.agent_node.specs.Openings.{agents}
use Rattle.nsi_play.specs.Openings.{opening}
use Rattle.nsi_play.specs.Rounds.{all_quiet}
use Rattle.nsi_play.specs.Play.{Played, plays}
use Rattle.nsi_world.specs.Worlds.{empty}
use Rattle.nsi_world.specs.Rest.{IsAtRest}
use Rattle.nsi_world.specs.Runs.{world_after, IsRun, asks_of, numbered}
use Rattle.nsi_world.specs.Laws.{RequestsAreOne, TurnRuns, RoundRuns, PlayRuns, PlayIsRun, StandInTheEnd, PlayStands, PlayRests, AsksWhole}
use Rattle.nsi_world.proofs.ScriptLemmas.{rise_from, groups_of}
use Rattle.nsi_world.proofs.Given.{AreLaws}
use Rattle.nsi_world.proofs.Names.{given_in}
use Rattle.nsi_world.proofs.Receipts.{requests_same}
use Rattle.nsi_world.proofs.Sending.{heard_was_sent}
use Rattle.nsi_world.proofs.TurnSteps.{goes_turned}
use Rattle.nsi_world.proofs.NetSteps.{round_goes}
use Rattle.nsi_world.proofs.PlaySteps.{plays_come}
use Rattle.nsi_world.proofs.Opening.{numbers_of, opening_stands, may_act_all}
use Rattle.nsi_world.proofs.PlayAsks.{plays_ask, range_here, all_here}
use Rattle.nsi_world.proofs.Resting.{plays_quiet, opening_quiet, all_rest}
use Rattle.nsi_world.proofs.Room.{allowed_of_free}

pub requests_are_one : AreLaws → RequestsAreOne
requests_are_one laws t routes events m n h p q rm rn e = requests_same (home_in t routes) (given_in laws t routes) (world_after empty events) (heard_was_sent (home_in t routes) events h) p.0 q.0 m n p.1 q.1 rm rn e

pub turn_runs : AreLaws → TurnRuns
turn_runs laws t routes clock w s fair h = goes_turned (home_in t routes) (given_in laws t routes) clock w s h fair

pub round_runs : AreLaws → RoundRuns
round_runs laws t routes clock w net h = round_goes (home_in t routes) (given_in laws t routes) clock w net h

pub play_runs : AreLaws → PlayRuns
play_runs laws t routes plans most groups wf rising acts few =
    let homes = home_in t routes in
    let given = given_in laws t routes in
    let rise = rise_from groups rising in
    let of = groups_of t groups acts in
    let may = may_act_all t routes groups of in
    let stand = opening_stands t routes plans wf in
    let p = plays_come homes given empty most groups 0 0 (opening t plans) rise may stand in
    let q = plays_ask homes given empty most groups 0 0 (opening t plans) rise may (all_here t plans groups of) stand in
    record {
      allowed = allowed_of_free homes empty (plays most groups 0 homes (opening t plans)).events (λ a. omega (arith, few)) p.goes.free;
      wishes = q.wishes;
      asked = q.asked;
    }

pub play_is_run : AreLaws → PlayIsRun
play_is_run laws t routes plans groups events last wf rising acts play few =
    subst (λ (p : Played). length p.events ≤ most_entries → IsRun (home_in t routes) p.events) play.1 (play_runs laws t routes plans play.0 groups wf rising acts) few

pub play_stands : AreLaws → PlayStands
play_stands laws t routes plans groups events last wf rising acts play =
    let homes = home_in t routes in
    let p = plays_come homes (given_in laws t routes) empty play.0 groups 0 0 (opening t plans) (rise_from groups rising) (may_act_all t routes groups (groups_of t groups acts)) (opening_stands t routes plans wf) in
    let end : StandInTheEnd t routes (plays play.0 groups 0 homes (opening t plans)).events (plays play.0 groups 0 homes (opening t plans)).net = record {
      clock = p.clock;
      free = p.goes.free;
      numbers = p.goes.numbers ∙ numbers_of t plans (agents t);
      stand = p.goes.stand;
    } in
    subst (λ (x : Played). StandInTheEnd t routes x.events x.net) play.1 end

pub play_rests : AreLaws → PlayRests
play_rests laws t routes plans groups events last wf rising acts play a lt =
    let homes = home_in t routes in
    let end = play_stands laws t routes plans groups events last wf rising acts play in
    let over = ap (λ (p : Played). p.is_over) play.1 in
    let quiet = plays_quiet play.0 groups 0 homes (opening t plans) (opening_quiet t routes plans) over in
    let rest = all_rest homes end.clock (world_after empty events) last end.stand (ap (λ (p : Played). all_quiet homes p.net) (sym play.1) ∙ quiet) in
    All-contains (IsAtRest homes (world_after empty events)) (agents t) a (subst (All (IsAtRest homes (world_after empty events))) end.numbers rest) (range_here (length t.agents) a lt)

pub asks_whole : AreLaws → AsksWhole
asks_whole laws t routes plans groups events last wf rising acts play =
    let homes = home_in t routes in
    let of = groups_of t groups acts in
    let q = plays_ask homes (given_in laws t routes) empty play.0 groups 0 0 (opening t plans) (rise_from groups rising) (may_act_all t routes groups of) (all_here t plans groups of) (opening_stands t routes plans wf) in
    sym (ap (λ (p : Played). asks_of p.events) play.1) ∙ (q.asked ∙ ap (numbered 0) (q.whole (ap (λ (p : Played). p.is_over) play.1)))
