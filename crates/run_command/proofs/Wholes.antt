-- A play is a safe run that asks the whole script, and comes to rest, wherever disks stop; so is each front of it a safe run.
use Rattle.std.proofs.Common.{ℕ, zero, suc, ◌≡◌, ◌≤◌, ◌⊎◌, inl, inr, List, [], ◌∷◌, ◌++◌, ◌+◌, ◌<◌, length, take, drop, refl, sym, ap, subst, arith}
use Rattle.std.specs.List.{All}
use Rattle.std.proofs.lemmas.List.{take-append-drop}
use Rattle.std.proofs.lemmas.List.Elements.{All-nil, All-cons, All-head, All-tail, All-append}
use Rattle.nsi_primitive.specs.declared.entry.Event.{Event}
use Rattle.nsi_primitive.specs.declared.entry.Happening.{Happening}
use Rattle.stp_topology.specs.declared.network.Network.{Network}
use Rattle.stp_topology.specs.Laws.{IsWellFormed}
use Rattle.stp_topology.specs.Sound.{IsSound}
use Rattle.nsi_script.specs.declared.script.Act.{Act}
use Rattle.nsi_script.specs.declared.script.Group.{Group}
use Rattle.nsi_script.specs.declared.script.Script.{Script}
use Rattle.nsi_script.specs.Fits.{Fits, IsActOf, IsRising}
use Rattle.nsi_script.specs.Scripts.{acts_of, seconds_of}
use Rattle.nsi_agent.specs.Homes.{Routes, AreRoutes, home_in}
use Rattle.nsi_play.specs.Openings.{Plans, plans_of, opening}
use Rattle.nsi_play.specs.Play.{Played}
use Rattle.nsi_play.specs.Rounds.{Net}
use Rattle.nsi_world.specs.Runs.{IsRun}
use Rattle.circuit_laws.specs.SafeLaws.{EveryRunIsSafe}
use Rattle.settled_play.specs.Settled.{PlayLeavesNone, GoesOn, IsNoRestart}
use Rattle.end_to_end.specs.Laws.{EveryRunStands}
use Rattle.answered_play.specs.Laws.{AnswersAtRest}
use Rattle.stopped_play.specs.Tapes.{Stops, calm_stops}
use Rattle.stopped_play.specs.Counts.{one_restart, restarts_in}
use Rattle.stopped_play.specs.Play.{IsPlayBy}
use Rattle.stopped_play.specs.Laws.{CalmPlays, played, StoppedPlayRuns, StoppedPlayRests, StoppedPlayAsks, StoppedPlaySettles}
use Rattle.agent_threads.specs.Promise.{NoRestart}
use Rattle.net_run.specs.Held.{IsShown}
use Rattle.net_run.specs.Worlds.{Holds, PlaysPart, PartPasses}
use Rattle.due_events.specs.Counts.{script_restarts}
use Rattle.run_weight.specs.Laws.{IsPlayable, StoppedLongIsOver, LongIsOver}
use Rattle.run_weight.specs.Weight.{weight}
use Rattle.run_command.specs.Runs.{Disks, NoneStops, IsKnown, IsSafeThroughout, IsWholeRun, IsBelowWeight}

-- these are the events of a play of a script in which some disks stop, or none does
pub record IsSomePlay (t : Network) (routes : Routes) (plans : Plans) (script : List Group) (events : List Event) : Type 0 where
  pub stops : Stops
  pub last : Net
  pub is : IsPlayBy stops script (home_in t routes) (opening t plans) events last

-- the laws of plays
pub record PlayLaws : Type 0 where
  pub calm : CalmPlays
  pub is_run : StoppedPlayRuns
  pub rests : StoppedPlayRests
  pub asks : StoppedPlayAsks
  pub left : StoppedPlaySettles
  pub safe : EveryRunIsSafe
  pub stands : EveryRunStands
  pub answers : AnswersAtRest
  pub over : PlayLeavesNone
  pub stopped_long : StoppedLongIsOver
  pub calm_long : LongIsOver

---- Which play it is

-- a play that is known is one in which some disks stop, or none does
some_play : {Calm : Type 0} → CalmPlays → (t : Network) (plans : Plans) (holds : Holds) (s q : ℕ) (whole part : List Group) (events : List Event) → PlaysPart t plans holds s q Calm whole part events → IsKnown t whole holds Calm
    → (routes : Routes) → AreRoutes t routes → IsSomePlay t routes plans part events
some_play {Calm} calm t plans holds s q whole part events p (inl told) routes r =
    let play = (p.told told).2 routes r in
    record { stops = play.1; last = play.0; is = play.3 }
some_play {Calm} calm t plans holds s q whole part events p (inr known) routes r =
    let play = p.calm known.0 (inr known.1) routes r in
    let tapes = calm part (home_in t routes) (opening t plans) events play.0 play.1 in
    record { stops = calm_stops (length part) tapes.0; last = play.0; is = tapes.1 }

is_shown : {Calm : Type 0} (t : Network) (holds : Holds) (script : List Group) → IsKnown t script holds Calm → IsShown t script holds
is_shown {Calm} t holds script (inl told) = inl told
is_shown {Calm} t holds script (inr known) = inr known.1

---- Its laws

run_of : PlayLaws → (t : Network) (routes : Routes) (plans : Plans) (script : List Group) (events : List Event) → IsWellFormed t → IsRising (seconds_of script) → All (IsActOf t) (acts_of script) → IsSomePlay t routes plans script events
    → length events ≤ 2000000 → IsRun (home_in t routes) events
run_of laws t routes plans script events well rising acts p few =
    let same : (played t routes plans p.stops script).events ≡ events = ap (λ (z : Played). z.events) p.is in
    let short : length (played t routes plans p.stops script).events ≤ 2000000 = subst (λ (es : List Event). length es ≤ 2000000) (sym same) few in
    subst (λ (es : List Event). IsRun (home_in t routes) es) same (laws.is_run t routes plans p.stops script well rising acts (omega (arith, short)))

safe_throughout : PlayLaws → (t : Network) (routes : Routes) (events : List Event) → IsSound t → IsWellFormed t → AreRoutes t routes → IsRun (home_in t routes) events → IsSafeThroughout t routes events
safe_throughout laws t routes events sound well r run = record { safe = laws.safe t routes events sound well r run; stands = laws.stands t routes events sound well r run }

-- where no agent restarts, no restart is told
none_of : (what : Happening) → IsNoRestart what → one_restart what ≡ 0
none_of (Happening.Entry x answer) h = refl
none_of (Happening.Sync count) h = refl
none_of (Happening.Restart count) h = absurd h

none_told : (events : List Event) → All GoesOn events → restarts_in events ≡ 0
none_told [] on = refl
none_told (e ∷ es) on = omega (arith, none_of e.what (All-head GoesOn e es on), none_told es (All-tail GoesOn e es on))

---- The whole play

-- The laws of plays hold for a script that fits a topology which a text gives, and a run of no more events than an agent takes entries.
pub record CanRun (limit : ℕ) (t : Network) (s : Script) : Type 0 where
  pub laws : PlayLaws
  pub few : limit ≤ 2000000
  pub sound : IsSound t
  pub well : IsWellFormed t
  pub fits : Fits t s

pub whole_run : {Calm : Type 0} (limit : ℕ) (t : Network) (s : Script) (holds : Holds) (b q : ℕ) (events : List Event) → CanRun limit t s
    → PlaysPart t (plans_of s.lose) holds b q (Calm ⊎ NoRestart events) s.groups s.groups events → length events ≤ limit → IsKnown t s.groups holds (Calm ⊎ NoRestart events)
    → (routes : Routes) → AreRoutes t routes → IsWholeRun t routes s events
whole_run {Calm} limit t s holds b q events can play within known routes r =
    let laws = can.laws in
    let p = some_play laws.calm t (plans_of s.lose) holds b q s.groups s.groups events play known routes r in
    let run = run_of laws t routes (plans_of s.lose) s.groups events can.well can.fits.rising can.fits.acts p (omega (arith, can.few, within)) in
    let rests = laws.rests t routes (plans_of s.lose) p.stops s.groups events p.last can.well can.fits.rising can.fits.acts p.is in
    record {
      run = safe_throughout laws t routes events can.sound can.well r run;
      asks = laws.asks t routes (plans_of s.lose) p.stops s.groups events p.last can.well can.fits.rising can.fits.acts p.is;
      rests = rests;
      answered = laws.answers t routes events can.sound run.allowed rests;
      left = laws.left t routes (plans_of s.lose) p.stops s.groups events p.last can.sound can.well r can.fits.rising can.fits.acts p.is;
      over = λ none on.
          let plain = play.calm (inr (none_told events on)) (is_shown t holds s.groups known) routes r in
          laws.over t routes (plans_of s.lose) s.groups events plain.0 none can.sound can.well r can.fits.rising can.fits.acts plain.1 on;
    }

---- Some first groups

rising_take : (n : ℕ) (gs : List Group) → IsRising (seconds_of gs) → IsRising (seconds_of (take n gs))
rising_take zero gs r = tt
rising_take (suc n) [] r = tt
rising_take (suc zero) (g ∷ gs) r = tt
rising_take (suc (suc n)) (g ∷ []) r = tt
rising_take (suc (suc n)) (g ∷ (h ∷ gs)) r = (r.0, rising_take (suc n) (h ∷ gs) r.1)

module _ (P : Act → Type 0) where
  parts : (xs ys : List Act) → All P (xs ++ ys) → All P xs × All P ys
  parts [] ys h = (All-nil P, h)
  parts (x ∷ xs) ys h = let rest = parts xs ys (All-tail P x (xs ++ ys) h) in (All-cons P x xs (All-head P x (xs ++ ys) h) rest.0, rest.1)

  acts_take : (n : ℕ) (gs : List Group) → All P (acts_of gs) → All P (acts_of (take n gs))
  acts_take zero gs h = All-nil P
  acts_take (suc n) [] h = All-nil P
  acts_take (suc n) (g ∷ gs) h = let p = parts g.acts (acts_of gs) h in All-append P g.acts (acts_of (take n gs)) p.0 (acts_take n gs p.1)

-- the play of some first groups is a safe run
pub front_run : {Calm : Type 0} (limit : ℕ) (t : Network) (s : Script) (holds : Holds) (b q groups : ℕ) (events : List Event) → CanRun limit t s
    → PlaysPart t (plans_of s.lose) holds b q Calm s.groups (take groups s.groups) events → length events ≤ limit → IsKnown t s.groups holds Calm
    → (routes : Routes) → AreRoutes t routes → IsSafeThroughout t routes events
front_run {Calm} limit t s holds b q groups events can play within known routes r =
    let p = some_play can.laws.calm t (plans_of s.lose) holds b q s.groups (take groups s.groups) events play known routes r in
    let rising = rising_take groups s.groups can.fits.rising in
    let acts = acts_take (IsActOf t) groups s.groups can.fits.acts in
    safe_throughout can.laws t routes events can.sound can.well r
    (run_of can.laws t routes (plans_of s.lose) (take groups s.groups) events can.well rising acts p (omega (arith, can.few, within)))

---- The limit is passed

-- where some first groups pass the limit, it is below the weight of the script
pub below_weight : (limit : ℕ) (t : Network) (s : Script) (d : Disks) (groups : ℕ) → CanRun limit t s → PartPasses t (plans_of s.lose) (length s.stops) d.held d.before d.after (NoneStops d) limit s.groups (take groups s.groups)
    → IsBelowWeight limit d t s
below_weight limit t s d groups can passes =
    let part : List Group = take groups s.groups in
    let rest : List Group = drop groups s.groups in
    let plans : Plans = plans_of s.lose in
    let whole : part ++ rest ≡ s.groups = take-append-drop groups s.groups in
    let playable : (routes : Routes) → AreRoutes t routes → IsPlayable t routes part = λ routes r.
    record { sound = can.sound; formed = can.well; routed = r; rising = rising_take groups s.groups can.fits.rising; acts = acts_take (IsActOf t) groups s.groups can.fits.acts }
    in
    record {
      told = λ told routes r.
          let p = passes.told told in
          let q = p.3 routes r in
          let over = can.laws.stopped_long t routes plans q.0 limit (length s.stops) part rest (playable routes r) (omega (arith, can.few)) (omega (arith, q.1, p.2)) q.2 in
          subst (λ (gs : List Group). limit < weight t routes gs (script_restarts gs + length s.stops)) whole over;
      calm = λ none shown routes r.
          let over = can.laws.calm_long t routes plans limit part rest (playable routes r) (omega (arith, can.few)) (passes.calm none shown routes r) in
          subst (λ (gs : List Group). limit < weight t routes gs (script_restarts gs)) whole over;
    }
