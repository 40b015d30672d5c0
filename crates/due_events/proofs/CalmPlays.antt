-- A play in which no disk stops is short where few messages are caused.
use Rattle.std.proofs.Common.{◌≡◌, ◌≤◌, ◌+◌, ◌*◌, ◌-◌, ℕ, zero, suc, List, [], ◌∷◌, refl, sym, ap, ◌∙◌, subst, arith, length}
use Rattle.std.specs.List.{sum_by}
use Rattle.std.proofs.lemmas.List.Sums.{sum_by-cons}
use Rattle.nsi_primitive.specs.declared.entry.Event.{Event}
use Rattle.stp_topology.specs.declared.network.Network.{Network}
use Rattle.nsi_agent.specs.Homes.{Routes, home_in}
use Rattle.nsi_agent.specs.Laws.{BlankIsGood, EntriesKeepGood}
use Rattle.nsi_script.specs.Scripts.{asks_of}
use Rattle.nsi_script.specs.declared.script.Group.{Group}
use Rattle.agent_node.specs.Openings.{agents}
use Rattle.nsi_play.specs.Openings.{Plans, opening}
use Rattle.nsi_play.specs.Play.{Played, behind, plays}
use Rattle.nsi_play.specs.Rounds.{Net}
use Rattle.nsi_world.specs.Laws.{HeardWasSent}
use Rattle.nsi_world.proofs.Given.{AreLaws}
use Rattle.stopped_play.specs.Counts.{restarts_in, stops_among, round_stops, play_stops, all_stops}
use Rattle.stopped_play.specs.Laws.{played}
use Rattle.stopped_play.specs.Play.{plays_by, remade}
use Rattle.stopped_play.specs.Tapes.{none_cut, Stops, copies, calm, calm_stops}
use Rattle.stopped_play.proofs.Calm.{calm_tapes}
use Rattle.due_events.specs.Counts.{script_forces, script_restarts}
use Rattle.due_events.specs.Laws.{IsScripted, RunsCauseNoMore, CalmPlaysAreShort}
use Rattle.due_events.proofs.Scripted.{plays_are_scripted}
use Rattle.due_events.proofs.ShortPlays.{plays_are_short}

---- No disk stops

nobody_stops : (ns : List ℕ) → stops_among none_cut ns ≡ 0
nobody_stops [] = refl
nobody_stops (n ∷ ns) = omega (arith, nobody_stops ns)

no_round_stops : (ns : List ℕ) (rounds : ℕ) → round_stops ns (copies rounds none_cut) ≡ 0
no_round_stops ns zero = refl
no_round_stops ns (suc rounds) = omega (arith, nobody_stops ns, no_round_stops ns rounds)

no_play_stops : (ns : List ℕ) (groups rounds : ℕ) → play_stops ns (copies groups (calm rounds)) ≡ 0
no_play_stops ns zero rounds = refl
no_play_stops ns (suc groups) rounds = omega (arith, no_round_stops ns rounds, no_play_stops ns groups rounds)

pub none_first : (ns : List ℕ) → sum_by (λ (n : ℕ). 0) ns ≡ 0
none_first [] = refl
none_first (n ∷ ns) = omega (arith, sum_by-cons (λ (m : ℕ). 0) n ns, none_first ns)

pub none_stops : (ns : List ℕ) (groups rounds : ℕ) → all_stops ns (calm_stops groups rounds) ≡ 0
none_stops ns groups rounds = omega (arith, none_first ns, no_play_stops ns groups rounds)

---- So the play is one by tapes

remade_none : (net : Net) → remade (λ a. 0) net ≡ []
remade_none [] = refl
remade_none (s ∷ ss) = remade_none ss

pub calm_is : (t : Network) (routes : Routes) (plans : Plans) (rounds : ℕ) (script : List Group) → played t routes plans (calm_stops (length script) rounds) script ≡ plays rounds script 0 (home_in t routes) (opening t plans)
calm_is t routes plans rounds script =
    let x : Net = opening t plans in
    ap (λ (es : List Event). behind es (plays_by (copies (length script) (calm rounds)) script 0 (home_in t routes) x)) (remade_none x) ∙ calm_tapes rounds script 0 (home_in t routes) x

-- with more restarts there may be more events
more_restarts : (r more most n : ℕ) → r ≤ more → n ≤ 2 * ((1 + r) * most) + r → n ≤ 2 * ((1 + more) * most) + more
more_restarts r more most n low few =
    let rest : ℕ = more - r in
    let parts : more ≡ r + rest = omega (arith, low) in
    let product : more * most ≡ r * most + rest * most = ap (λ (z : ℕ). z * most) parts ∙ omega arith in
    omega (arith, few, parts, product)

pub calm_plays_are_short : AreLaws → HeardWasSent → BlankIsGood → EntriesKeepGood → CalmPlaysAreShort
calm_plays_are_short laws heard first keep t routes plans rounds script messages formed rising acts few room =
    let stops : Stops = calm_stops (length script) rounds in
    let most : ℕ = length t.agents * length script + (script_forces script + (asks_of script + 3 * messages)) in
    let same : played t routes plans stops script ≡ plays rounds script 0 (home_in t routes) (opening t plans) = calm_is t routes plans rounds script in
    let events : List Event = (played t routes plans stops script).events in
    let is : IsScripted t stops script events = plays_are_scripted t routes plans stops script formed in
    let low : restarts_in events ≤ script_restarts script = omega (arith, is.restarts, none_stops (agents t) (length script) rounds) in
    let cause : RunsCauseNoMore (home_in t routes) (agents t) events messages = subst (λ (p : Played). RunsCauseNoMore (home_in t routes) (agents t) p.events messages) (sym same) few in
    let short = plays_are_short laws heard first keep t routes plans stops script messages formed rising acts cause room in
    subst (λ (p : Played). length p.events ≤ 2 * ((1 + script_restarts script) * most) + script_restarts script) same
    (more_restarts (restarts_in events) (script_restarts script) most (length events) low short)
