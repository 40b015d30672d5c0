-- The play of a script in which disks stop is a run, and comes to rest.
use Rattle.std.proofs.Common.{ℕ, ◌+◌, ◌≤◌, ◌≡◌, Bool, true, false, cond, List, [], ◌∷◌, inl, inr, refl, sym, ap, ◌∙◌, subst, arith, length}
use Rattle.std.specs.List.{All}
use Rattle.std.proofs.lemmas.Bool.{cases_Bool}
use Rattle.std.proofs.lemmas.List.Elements.{All-contains}
use Rattle.nsi_primitive.specs.declared.entry.Event.{Event}
use Rattle.stp_topology.specs.Laws.{IsWellFormed}
use Rattle.stp_topology.specs.declared.network.Network.{Network}
use Rattle.agent_state.specs.Entries.{most_entries}
use Rattle.nsi_agent.specs.Homes.{Routes, home_in}
use Rattle.nsi_script.specs.declared.script.Group.{Group}
use Rattle.nsi_script.specs.Fits.{IsActOf, IsRising}
use Rattle.nsi_script.specs.Scripts.{acts_of, seconds_of}
use Rattle.agent_node.specs.Openings.{agents}
use Rattle.nsi_play.specs.Openings.{Plans, opening}
use Rattle.nsi_play.specs.Rounds.{Net, Homes, all_quiet}
use Rattle.nsi_play.specs.Play.{Played, over, stopped, asks_among, then_on}
use Rattle.nsi_play.proofs.Settling.{then_over, then_stopped}
use Rattle.nsi_world.specs.Worlds.{World, empty}
use Rattle.nsi_world.specs.Rest.{IsAtRest}
use Rattle.nsi_world.specs.Runs.{world_after, AreAllowed}
use Rattle.nsi_world.specs.Laws.{StandInTheEnd}
use Rattle.nsi_world.proofs.ScriptLemmas.{rise_from, groups_of}
use Rattle.nsi_world.proofs.Given.{AreLaws}
use Rattle.nsi_world.proofs.Names.{given_in}
use Rattle.nsi_world.proofs.PlaySteps.{PlayComes, net_twice, goes_longer}
use Rattle.nsi_world.proofs.Opening.{numbers_of, may_act_all}
use Rattle.nsi_world.proofs.PlayAsks.{range_here}
use Rattle.nsi_world.proofs.Resting.{opening_quiet, all_rest}
use Rattle.nsi_world.proofs.Room.{allowed_of_free}
use Rattle.stopped_play.specs.Tapes.{Cuts, Tape, no_tape, Stops}
use Rattle.stopped_play.specs.Rounds.{after_cuts, settles_by}
use Rattle.stopped_play.specs.Play.{begins_by, group_by, plays_by, remade}
use Rattle.stopped_play.specs.Laws.{played, StoppedPlayStands, StoppedPlayRests}
use Rattle.stopped_play.proofs.Calm.{settle_by_none, settle_by_one, group_by_is}
use Rattle.stopped_play.proofs.Steps.{plays_come}
use Rattle.stopped_play.proofs.Making.{making_goes}

---- Its events are allowed

pub played_comes : AreLaws → (t : Network) (routes : Routes) (plans : Plans) (stops : Stops) (script : List Group) → IsWellFormed t → IsRising (seconds_of script) → All (IsActOf t) (acts_of script)
    → PlayComes (home_in t routes) 0 empty (opening t plans) (played t routes plans stops script)
played_comes laws t routes plans stops script formed rising acts =
    let homes : Homes = home_in t routes in
    let given = given_in laws t routes in
    let x : Net = opening t plans in
    let es : List Event = remade stops.making x in
    let r = making_goes t routes plans stops.making given formed in
    let p : Played = plays_by stops.groups script 0 homes x in
    let q = plays_come homes given (world_after empty es) stops.groups script 0 0 x (rise_from script rising) (may_act_all t routes script (groups_of t script acts)) r.stand in
    record { clock = q.clock; later = q.later; goes = net_twice homes q.clock empty x x p.net es p.events (goes_longer homes 0 q.clock empty x x es q.later r) q.goes }

pub stopped_allowed : AreLaws → (t : Network) (routes : Routes) (plans : Plans) (stops : Stops) (script : List Group) → IsWellFormed t → IsRising (seconds_of script) → All (IsActOf t) (acts_of script)
    → length (played t routes plans stops script).events ≤ most_entries → AreAllowed (home_in t routes) empty (played t routes plans stops script).events
stopped_allowed laws t routes plans stops script formed rising acts few =
    allowed_of_free (home_in t routes) empty (played t routes plans stops script).events (λ a. omega (arith, few)) (played_comes laws t routes plans stops script formed rising acts).goes.free

pub stopped_stands : AreLaws → StoppedPlayStands
stopped_stands laws t routes plans stops script events last formed rising acts play =
    let p = played_comes laws t routes plans stops script formed rising acts in
    let x : Played = played t routes plans stops script in
    let end : StandInTheEnd t routes x.events x.net = record { clock = p.clock; free = p.goes.free; numbers = p.goes.numbers ∙ numbers_of t plans (agents t); stand = p.goes.stand } in
    subst (λ (z : Played). StandInTheEnd t routes z.events z.net) play end

---- It comes to rest

never : {X : Type 0} (b : Bool) → b ≡ false → b ≡ true → X
never b p q = absurd (cc)

ends_quiet : (homes : Homes) (x : Net) (b : Bool) (p : Played) → all_quiet homes x ≡ b → (p.is_over ≡ true → all_quiet homes p.net ≡ true) → (cond b (over x) p).is_over ≡ true → all_quiet homes (cond b (over x) p).net ≡ true
ends_quiet homes x true p q more o = q
ends_quiet homes x false p q more o = more o

pub settles_quiet : (rounds : List Cuts) (homes : Homes) (x : Net) → (settles_by rounds homes x).is_over ≡ true → all_quiet homes (settles_by rounds homes x).net ≡ true
settles_quiet [] homes x o =
    let e = settle_by_none homes x in
    subst (λ (p : Played). p.is_over ≡ true → all_quiet homes p.net ≡ true) (sym e) (ends_quiet homes x (all_quiet homes x) (stopped x) refl (λ z. never false refl z)) o
settles_quiet (c ∷ cs) homes x o =
    let e = settle_by_one c cs homes x in
    subst (λ (p : Played). p.is_over ≡ true → all_quiet homes p.net ≡ true) (sym e) (ends_quiet homes x (all_quiet homes x) (after_cuts c homes x (settles_by cs homes)) refl (λ z. settles_quiet cs homes _ z)) o

group_quiet : (tape : Tape) (g : Group) (count : ℕ) (homes : Homes) (x : Net) → (group_by tape g count homes x).is_over ≡ true → all_quiet homes (group_by tape g count homes x).net ≡ true
group_quiet tape g count homes x o =
    subst (λ (p : Played). p.is_over ≡ true → all_quiet homes p.net ≡ true) (sym (group_by_is tape g count homes x)) (settles_quiet tape.rounds homes (begins_by tape g count homes x).net) o

then_quiet : (homes : Homes) (p : Played) (rest : Net → Played) → (p.is_over ≡ true → all_quiet homes p.net ≡ true) → (all_quiet homes p.net ≡ true → (rest p.net).is_over ≡ true → all_quiet homes (rest p.net).net ≡ true)
    → (then_on p rest).is_over ≡ true → all_quiet homes (then_on p rest).net ≡ true
then_quiet homes p rest first more o = elim (cases_Bool p.is_over) [
  | inl q ↦ subst (λ (z : Played). z.is_over ≡ true → all_quiet homes z.net ≡ true) (sym (then_over p rest q)) (more (first q)) o
  | inr q ↦ never p.is_over q (sym (ap (λ (z : Played). z.is_over) (then_stopped p rest q)) ∙ o)
]

plays_quiet : (tapes : List Tape) (gs : List Group) (count : ℕ) (homes : Homes) (x : Net) → all_quiet homes x ≡ true → (plays_by tapes gs count homes x).is_over ≡ true → all_quiet homes (plays_by tapes gs count homes x).net ≡ true
unfolding plays_by
plays_quiet tapes [] count homes x quiet o = quiet
plays_quiet [] (g ∷ gs) count homes x quiet o =
    then_quiet homes (group_by no_tape g count homes x) (plays_by [] gs (count + asks_among g.acts) homes) (group_quiet no_tape g count homes x)
    (λ q z. plays_quiet [] gs (count + asks_among g.acts) homes (group_by no_tape g count homes x).net q z) o
plays_quiet (t ∷ ts) (g ∷ gs) count homes x quiet o =
    then_quiet homes (group_by t g count homes x) (plays_by ts gs (count + asks_among g.acts) homes) (group_quiet t g count homes x)
    (λ q z. plays_quiet ts gs (count + asks_among g.acts) homes (group_by t g count homes x).net q z) o

pub played_quiet : (t : Network) (routes : Routes) (plans : Plans) (stops : Stops) (script : List Group) → (played t routes plans stops script).is_over ≡ true → all_quiet (home_in t routes) (played t routes plans stops script).net ≡ true
played_quiet t routes plans stops script o = plays_quiet stops.groups script 0 (home_in t routes) (opening t plans) (opening_quiet t routes plans) o

pub stopped_rests : AreLaws → StoppedPlayRests
stopped_rests laws t routes plans stops script events last formed rising acts play a lt =
    let homes : Homes = home_in t routes in
    let w : World = world_after empty events in
    let end = stopped_stands laws t routes plans stops script events last formed rising acts play in
    let quiet : all_quiet homes last ≡ true = ap (λ (p : Played). all_quiet homes p.net) (sym play) ∙ played_quiet t routes plans stops script (ap (λ (p : Played). p.is_over) play) in
    let rest = all_rest homes end.clock w last end.stand quiet in
    All-contains (IsAtRest homes w) (agents t) a (subst (All (IsAtRest homes w)) end.numbers rest) (range_here (length t.agents) a lt)
