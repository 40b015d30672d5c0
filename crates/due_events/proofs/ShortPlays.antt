-- A play is short where few messages are caused.
use Rattle.std.proofs.Common.{◌≡◌, ◌≤◌, ◌<◌, ◌+◌, ◌*◌, ℕ, List, [], ◌∷◌, ◌++◌, Some, refl, sym, ap, ◌∙◌, subst, arith, length, bytes_eq}
use Rattle.std.specs.List.{Contains}
use Rattle.std.proofs.lemmas.Iterator.Adapters.{position_from-zero}
use Rattle.std.proofs.lemmas.List.Quantifiers.{position-Some}
use Rattle.std.proofs.lemmas.List.Sums.{get_or-le-sum_by}
use Rattle.nsi_primitive.specs.declared.entry.Event.{Event}
use Rattle.nsi_primitive.specs.declared.entry.Happening.{Happening}
use Rattle.stp_topology.specs.declared.network.Network.{Network}
use Rattle.stp_topology.specs.Network.{agent_of}
use Rattle.agent_state.specs.Entries.{most_entries}
use Rattle.nsi_agent.specs.Homes.{Routes, home_in}
use Rattle.nsi_agent.specs.Laws.{BlankIsGood, EntriesKeepGood}
use Rattle.nsi_script.specs.Scripts.{asks_of}
use Rattle.agent_node.specs.Openings.{agents}
use Rattle.nsi_world.specs.Worlds.{Homes, World, empty, IsAgent}
use Rattle.nsi_world.specs.Runs.{MayHappen, happens, world_after, AreAllowed}
use Rattle.nsi_world.specs.Seats.{MayBe, AreFree}
use Rattle.nsi_world.specs.Nets.{AreDistinct}
use Rattle.nsi_world.specs.Laws.{HeardWasSent}
use Rattle.nsi_world.proofs.Given.{AreLaws}
use Rattle.nsi_world.proofs.Names.{home_leads}
use Rattle.nsi_world.proofs.Opening.{numbers_of, opening_stands}
use Rattle.nsi_world.proofs.PlayAsks.{range_here}
use Rattle.run_growth.proofs.Worlds.{allowed_front}
use Rattle.stopped_play.specs.Laws.{played}
use Rattle.stopped_play.proofs.Runs.{played_comes}
use Rattle.due_events.specs.Counts.{is_tick, is_ask, is_force, held, script_forces}
use Rattle.due_events.specs.Due.{AreDue}
use Rattle.due_events.specs.Laws.{PlaysAreShort, IsScripted}
use Rattle.due_events.proofs.Bounding.{front_few}
use Rattle.due_events.proofs.Counting.{events_are_few}
use Rattle.due_events.proofs.Fronts.{fronts_are_due}
use Rattle.due_events.proofs.Plays.{plays_are_due}
use Rattle.due_events.proofs.Scripted.{plays_are_scripted}
use Rattle.due_events.proofs.Short.{journals_are_short}

---- Where journals are short there is room

one_allowed : (homes : Homes) (w : World) (a : ℕ) (what : Happening) → length (w.journal a) < most_entries → MayBe homes w a what → MayHappen homes w a what
one_allowed homes w a (Happening.Entry e answer) few may = (few, may)
one_allowed homes w a (Happening.Sync count) few may = may
one_allowed homes w a (Happening.Restart count) few may = may

-- each holds no more than all together
one_held : (w : World) (ns : List ℕ) (a : ℕ) → Contains ns a → length (w.journal a) ≤ held w ns
one_held w ns a c = let low = get_or-le-sum_by (λ b. length (w.journal b)) ns c.0 a c.1 in omega (arith, low, ap (λ b. length (w.journal b)) c.2)

allowed_short : (homes : Homes) (ns : List ℕ) (most : ℕ) → ((a : ℕ) → IsAgent homes a → Contains ns a) → most < most_entries → (w : World) (es : List Event) → AreFree homes w es
    → ((front rest : List Event) → es ≡ front ++ rest → AreAllowed homes w front → held (world_after w front) ns ≤ most) → AreAllowed homes w es
unfolding world_after AreFree AreAllowed
allowed_short homes ns most all room w [] free few = tt
allowed_short homes ns most all room w (e ∷ es) free few =
    let now : held w ns ≤ most = few [] (e ∷ es) refl tt in
    let one : MayHappen homes w e.agent e.what = one_allowed homes w e.agent e.what (omega (arith, now, room, one_held w ns e.agent (all e.agent free.0.0))) free.0.1 in
    ((free.0.0, one), allowed_short homes ns most all room (happens w e) es free.1 (λ front rest q run. few (e ∷ front) rest (ap (λ zs. e ∷ zs) q) ((free.0.0, one), run)))

---- The agents of a topology

within_agents : (t : Network) (routes : Routes) (a : ℕ) → IsAgent (home_in t routes) a → a < length t.agents
within_agents t routes a is =
    let name : List ℕ = (home_in t routes a).name in
    let leads : agent_of t name ≡ Some a = ap (λ f. f name) (sym (home_leads t routes a)) ∙ is in
    (position-Some (bytes_eq name) t.agents a [] (position_from-zero (bytes_eq name) t.agents ∙ leads)).0

every_agent : (t : Network) (routes : Routes) (a : ℕ) → IsAgent (home_in t routes) a → Contains (agents t) a
every_agent t routes a is = range_here (length t.agents) a (within_agents t routes a is)

---- Plays

pub plays_are_short : AreLaws → HeardWasSent → BlankIsGood → EntriesKeepGood → PlaysAreShort
plays_are_short laws heard first keep t routes plans stops script messages formed rising acts few room =
    let homes : Homes = home_in t routes in
    let events : List Event = (played t routes plans stops script).events in
    let ns : List ℕ = agents t in
    let most : ℕ = length t.agents * length script + (script_forces script + (asks_of script + 3 * messages)) in
    let all : (a : ℕ) → IsAgent homes a → Contains ns a = every_agent t routes in
    let distinct : AreDistinct ns = subst AreDistinct (numbers_of t plans ns) (opening_stands t routes plans formed).distinct in
    let free : AreFree homes empty events = (played_comes laws t routes plans stops script formed rising acts).goes.free in
    let due : AreDue homes empty events = plays_are_due t routes plans stops script formed in
    let is : IsScripted t stops script events = plays_are_scripted t routes plans stops script formed in
    let low : (front rest : List Event) → events ≡ front ++ rest → AreAllowed homes empty front → held (world_after empty front) ns ≤ most = λ front rest e run.
    omega (
      arith,
      journals_are_short laws.own heard first keep t routes front ns run (fronts_are_due homes empty front rest (subst (AreDue homes empty) e due)) distinct all,
      few front rest e run,
      front_few is_tick events front rest e,
      front_few is_ask events front rest e,
      front_few is_force events front rest e,
      is.ticks,
      is.asks,
      is.forces,
    )
    in
    let run : AreAllowed homes empty events = allowed_short homes ns most all room empty events free low in
    events_are_few homes events ns most free due all (λ front rest e. low front rest e (allowed_front homes empty front rest (subst (AreAllowed homes empty) e run)))
