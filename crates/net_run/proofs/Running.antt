-- A run of agents that were begun is the play of the script.
use Rattle.std.proofs.Common.{ℕ, ◌+◌, ◌-◌, ◌<◌, ◌≡◌, List, [], ◌∷◌, ◌++◌, inl, inr, refl, ◌≤◌, ◌⊎◌, Bool, true, false, Option, Some, None, Result, Ok, Err, IfOk, IfErr, OnOk, sym, ap, ◌∙◌, subst, arith, length, take, append-nil, zero, suc}
use Rattle.std.specs.List.{All}
use Rattle.std.specs.Result.{OnErr}
use Rattle.std.proofs.lemmas.List.Elements.{All-head, All-tail, All-nil, All-cons}
use Rattle.nsi_disk.specs.ShelfCounts.{Raised}
use Rattle.nsi_outside.specs.Stream.{WritesFront}
use Rattle.nsi_primitive.specs.declared.entry.Event.{Event}
use Rattle.stp_topology.specs.declared.network.Network.{Network}
use Rattle.stp_topology.specs.Network.{name_of}
use Rattle.run_totals.specs.declared.totals.Totals.{Totals}
use Rattle.nsi_script.specs.declared.script.Act.{Act}
use Rattle.nsi_script.specs.declared.script.Group.{Group}
use Rattle.nsi_script.specs.Fits.{IsActOf}
use Rattle.nsi_script.specs.Scripts.{acts_of}
use Rattle.nsi_agent.specs.Homes.{Routes, AreRoutes, home_in}
use Rattle.least_routes.specs.Laws.{RoutesExist}
use Rattle.agent_node.specs.Kept.{Kept}
use Rattle.nsi_play.specs.Openings.{Plans, opening}
use Rattle.nsi_play.specs.Rounds.{Net}
use Rattle.nsi_play.specs.Play.{IsPlay, IsPlayFrom, PassesFrom, Passes, RestartsNone, RestartNobody}
use Rattle.nsi_play.proofs.Settling.{plays_nil}
use Rattle.std.proofs.lemmas.Bool.{false≢true}
use Rattle.agent_threads.specs.declared.fault.RunFault.{RunFault}
use Rattle.agent_threads.specs.Reports.{written}
use Rattle.run_totals.specs.declared.report.Report.{Report}
use Rattle.agent_threads.specs.declared.report.RunOptions.{RunOptions}
use Rattle.agent_threads.proofs.Told.{writes_none}
use Rattle.agent_threads.specs.Nets.{seats, seats_by, numbers, IsOneOf, AreOf, AreAmong, AreOwned, AreCalm, AreListed as AreListedBy}
use Rattle.agent_threads.specs.Made.{HasFailed, HasSettleCause, HaveRisen, IsOfAgent, AreUntold, AreLeft, ShelfCounts, counted}
use Rattle.agent_threads.specs.Stopping.{AtOwned, more_stops, NoneCounted, NoneStopped, IsPlayByTapes, PassesByTapes, on_tapes}
use Rattle.agent_threads.proofs.Playing.{are_played_none, all_played}
use Rattle.agent_threads.specs.Promise.{CanBeDone, AllCanBeDone, CanBePlayed, Shows, NoRestart, Plays, PlaysTo, PlaysPast}
use Rattle.nsi_script.specs.declared.script.StopLine.{StopLine}
use Rattle.std.specs.Prelude.{sum}
use Rattle.net_run.specs.Begun.{AreOpened, AreListed, restarts_from, faults_among, stops_among, planned_among}
use Rattle.net_run.specs.Behind.{PlaysSome, LosesNone, WritesBehind, IsTooLongBehind, WritesGroupsBehind, WritesSomeBehind}
use Rattle.net_run.specs.Shelves.{HasRisen, HasFaultOf, IsStartFault, HasNoStop, IsQuiet}
use Rattle.net_run.specs.Held.{AreTold, IsShown}
use Rattle.net_run.specs.Worlds.{PlaysPart, PartPasses, KeepsJournals, WritesPlay, WritesTooLong, WritesGroups, WritesSomeOfPlay}
use Rattle.net_run.proofs.Counting.{risen_then, risen_after, raised_up, some_failed, calm_faults}
use Rattle.net_run.proofs.Remaking.{stops_by, all_are, plays_behind, passes_behind, passes_alone, few_alone, none_remade, none_told, counts_append}
use Rattle.agent_threads.proofs.Left.{raised_twice}
use Rattle.nsi_play.specs.Laws.{PlayNeedsNoPast, FrontNeedsNoPast}

---- What is asked of the script

can_one : (t : Network) (a : Act) → IsActOf t a → CanBeDone t a
can_one t (Act.Ask agent ask) (within, requester, printable) = (requester, printable)
can_one t (Act.Force agent n) i = tt
can_one t (Act.Restart agent) i = tt

can_all : (t : Network) (acts bs : List Act) → All (IsActOf t) (acts ++ bs) → AllCanBeDone t acts
can_all t [] bs i = tt
can_all t (a ∷ acts) bs i = (can_one t a (All-head (IsActOf t) a (acts ++ bs) i), can_all t acts bs (All-tail (IsActOf t) a (acts ++ bs) i))

behind_all : (P : Act → Type 0) (acts bs : List Act) → All P (acts ++ bs) → All P bs
behind_all P [] bs i = i
behind_all P (a ∷ acts) bs i = behind_all P acts bs (All-tail P a (acts ++ bs) i)

pub can_be_played : (t : Network) (gs : List Group) → All (IsActOf t) (acts_of gs) → CanBePlayed t gs
can_be_played t [] i = tt
can_be_played t (g ∷ gs) i = (can_all t g.acts (acts_of gs) i, can_be_played t gs (behind_all (IsActOf t) g.acts (acts_of gs) i))

nobody_in_front : (n : ℕ) (gs : List Group) → RestartNobody gs → RestartNobody (take n gs)
nobody_in_front zero gs s = tt
nobody_in_front (suc n) [] s = tt
nobody_in_front (suc n) (g ∷ gs) s = (s.0, nobody_in_front n gs s.1)

---- What is seen of it

shows_told : (a : Act) → Shows true a
shows_told (Act.Ask agent ask) = tt
shows_told (Act.Force agent n) = tt
shows_told (Act.Restart agent) = refl

pub all_told : (acts : List Act) → All (Shows true) acts
all_told [] = All-nil (Shows true)
all_told (a ∷ acts) = All-cons (Shows true) a acts (shows_told a) (all_told acts)

shows_plain : (a : Act) → RestartsNone a → Shows false a
shows_plain (Act.Ask agent ask) none = tt
shows_plain (Act.Force agent n) none = tt
shows_plain (Act.Restart agent) none = absurd none

plain_acts : (acts bs : List Act) → All RestartsNone acts → All (Shows false) bs → All (Shows false) (acts ++ bs)
plain_acts [] bs none rest = rest
plain_acts (a ∷ acts) bs none rest = All-cons (Shows false) a (acts ++ bs) (shows_plain a (All-head RestartsNone a acts none)) (plain_acts acts bs (All-tail RestartsNone a acts none) rest)

all_plain : (gs : List Group) → RestartNobody gs → All (Shows false) (acts_of gs)
all_plain [] none = All-nil (Shows false)
all_plain (g ∷ gs) none = plain_acts g.acts (acts_of gs) none.0 (all_plain gs none.1)

---- What is written

-- agents that were begun tell the synced entries of agents that have taken nothing, where the shelf tells what it holds
pub record AreFresh (t : Network) (plans : Plans) (lines : List StopLine) (tries : List ℕ) (holds : List ℕ → Option (List ℕ)) (ks : List Kept) : Type 0 where
  pub opened : AreOpened t plans lines tries ks
  pub seats : AreTold t holds → seats_by true ks ≡ opening t plans
  pub owned : AreTold t holds → (routes : Routes) → AreOwned (home_in t routes) ks

module _ (needs : PlayNeedsNoPast) (front : FrontNeedsNoPast) (t : Network) (plans : Plans) (lines : List StopLine) (tries : List ℕ) (holds : List ℕ → Option (List ℕ)) (ks : List Kept) (fresh : AreFresh t plans lines tries holds ks) (whole : List Group) where
  plain_from : (Calm : Type 0) (most : ℕ) (part : List Group) (events : List Event) → (RestartNobody whole → RestartNobody part) → Plays Calm most ks whole part events → Calm → IsShown t whole holds → IsPlay t plans part events
  plain_from Calm most part events nobody p calm (inl told) = λ routes r.
      let q = p t fresh.opened.of routes r true (λ e. fresh.owned told routes) (all_told (acts_of whole)) in
      (q.0, subst (λ (net : Net). IsPlayFrom part (home_in t routes) net events q.0) (fresh.seats told) (q.1.calm calm))
  plain_from Calm most part events nobody p calm (inr none) = λ routes r.
      let q = p t fresh.opened.of routes r false (λ e. absurd (false≢true e)) (all_plain whole none) in
      needs part (home_in t routes) (opening t plans) events q.0 (nobody none) (subst (λ (net : Net). IsPlayFrom part (home_in t routes) net events q.0) fresh.opened.seats (q.1.calm calm))

  -- the restarts come first, and there are none where no disk has stopped
  play_from : (Calm Later : Type 0) (most by s r : ℕ) → (Later → Calm) → (Later → restarts_from 0 tries ≡ []) → sum tries + most ≤ by → Raised s by r → (part : List Group) (own : List Event) → (RestartNobody whole → RestartNobody part) → Plays Calm most ks whole part own
      → PlaysPart t plans holds s r Later whole part (restarts_from 0 tries ++ own)
  play_from Calm Later most by s r f none le raised part own nobody p = record {
    told = λ told. (
      by,
      raised,
      λ routes are.
          let q = p t fresh.opened.of routes are true (λ e. fresh.owned told routes) (all_told (acts_of whole)) in
          let made : IsPlayByTapes most part (home_in t routes) (opening t plans) own q.0 = subst (λ (net : Net). IsPlayByTapes most part (home_in t routes) net own q.0) (fresh.seats told) (q.1.told refl) in
          (q.0, stops_by tries made.0, all_are t plans tries fresh.opened.all made.0 most by made.1 le, plays_behind t plans tries fresh.opened.all made.0 part (home_in t routes) own q.0 made.2),
    );
    calm = λ later shown. subst (λ (es : List Event). IsPlay t plans part (es ++ own)) (sym (none later)) (plain_from Calm most part own nobody p (f later) shown);
  }

  plain_passes : (Calm : Type 0) (most limit : ℕ) (part : List Group) → (RestartNobody whole → RestartNobody part) → PlaysPast Calm most limit ks whole part → Calm → IsShown t whole holds → Passes limit t plans part
  plain_passes Calm most limit part nobody p calm (inl told) = λ routes r.
      subst (λ (net : Net). PassesFrom limit part (home_in t routes) net) (fresh.seats told) ((p t fresh.opened.of routes r true (λ e. fresh.owned told routes) (all_told (acts_of whole))).calm calm)
  plain_passes Calm most limit part nobody p calm (inr none) = λ routes r.
      front limit part (home_in t routes) (opening t plans) (nobody none)
      (subst (λ (net : Net). PassesFrom limit part (home_in t routes) net) fresh.opened.seats ((p t fresh.opened.of routes r false (λ e. absurd (false≢true e)) (all_plain whole none)).calm calm))

  -- how many events are left where nothing is told first
  all_left : (limit : ℕ) → restarts_from 0 tries ≡ [] → limit - length (restarts_from 0 tries) ≡ limit
  all_left limit none = omega (arith, ap (λ (es : List Event). length es) none)

  passes_from : (Calm Later : Type 0) (most by most_lines s r : ℕ) → (Later → Calm) → (Later → restarts_from 0 tries ≡ []) → sum tries + most ≤ by → by ≤ most_lines → Raised s by r → (limit : ℕ) (part : List Group) → length (restarts_from 0 tries) ≤ limit
      → (RestartNobody whole → RestartNobody part) → PlaysPast Calm most (limit - length (restarts_from 0 tries)) ks whole part → PartPasses t plans most_lines holds s r Later limit whole part
  passes_from Calm Later most by most_lines s r f none le within raised limit part few nobody p = record {
    told = λ told. (
      by,
      raised,
      within,
      λ routes are.
          let q = p t fresh.opened.of routes are true (λ e. fresh.owned told routes) (all_told (acts_of whole)) in
          let made : PassesByTapes most (limit - length (restarts_from 0 tries)) part (home_in t routes) (opening t plans) = subst (λ (net : Net). PassesByTapes most (limit - length (restarts_from 0 tries)) part (home_in t routes) net) (fresh.seats told) (q.told refl) in
          (stops_by tries made.0, all_are t plans tries fresh.opened.all made.0 most by made.1 le, passes_behind t plans tries fresh.opened.all made.0 limit part (home_in t routes) few made.2),
    );
    calm = λ later shown. subst (λ (n : ℕ). Passes n t plans part) (all_left limit (none later)) (plain_passes Calm most (limit - length (restarts_from 0 tries)) part nobody p (f later) shown);
  }

  -- the restarts alone are too many
  passes_first : (Later : Type 0) (by most_lines s r : ℕ) → (Later → restarts_from 0 tries ≡ []) → sum tries ≤ by → by ≤ most_lines → Raised s by r → (limit : ℕ) (part : List Group) → limit < length (restarts_from 0 tries) → PartPasses t plans most_lines holds s r Later limit whole part
  passes_first Later by most_lines s r none le within raised limit part long = record {
    told = λ told. (by, raised, within, λ routes are. (stops_by tries [], all_are t plans tries fresh.opened.all [] 0 by (omega arith) (omega (arith, le)), passes_alone t plans tries fresh.opened.all limit part (home_in t routes) long));
    calm = λ later shown. absurd (omega (arith, long, ap (λ (es : List Event). length es) (none later)));
  }

-- the count of a shelf rose by no less than so
abbrev pub RoseFrom : (s r least : ℕ) → Type 0
RoseFrom s r least = (by : ℕ) × Raised s by r × (least ≤ by)

-- and by no more than so
abbrev pub RoseWithin : (s r least most : ℕ) → Type 0
RoseWithin s r least most = (by : ℕ) × Raised s by r × (least ≤ by) × (by ≤ most)

front_none : (r : Report) (t : Network) (old : Option (List ℕ)) → WritesFront old old (written r t [])
front_none r t None = tt
front_none r t (Some c) = (0, ap (λ z. Some z) (sym (append-nil c)))

-- nothing of a play
none_played : (t : Network) (plans : Plans) (holds : List ℕ → Option (List ℕ)) (s r : ℕ) (Calm : Type 0) (whole : List Group) → s ≤ r → PlaysPart t plans holds s r Calm whole [] []
none_played t plans holds s r Calm whole le = record {
  told = λ told. (
    r - s,
    inl (omega (arith, le)),
    λ routes are.
        let made : IsPlayByTapes (r - s) [] (home_in t routes) (opening t plans) [] (opening t plans) =
        (all_played (home_in t routes) true (Unit {0}) (Unit {0}) 0 (r - s) (λ u. u) (omega arith) [] (opening t plans) [] 0 (opening t plans) (are_played_none (home_in t routes) true (Unit {0}) 0 (opening t plans))).told refl
        in
        (opening t plans, on_tapes made.0, few_alone t plans made.0 (r - s) made.1, made.2),
  );
  calm = λ calm shown routes are. (opening t plans, (0, plays_nil 0 0 (home_in t routes) (opening t plans)));
}

pub no_groups : (t : Network) (options : RunOptions) (plans : Plans) (holds : List ℕ → Option (List ℕ)) (s r : ℕ) (gs : List Group) (old : Option (List ℕ)) → s ≤ r → WritesGroups t options plans holds s r gs old old
no_groups t options plans holds s r gs old le = (0, [], none_played t plans holds s r (HasNoStop s r ⊎ NoRestart []) gs le, omega arith, writes_none options.report t old)

pub nothing_of : (t : Network) (options : RunOptions) (plans : Plans) (holds : List ℕ → Option (List ℕ)) (s r : ℕ) (gs : List Group) (old : Option (List ℕ)) → s ≤ r → WritesSomeOfPlay t options plans holds s r gs old old
nothing_of t options plans holds s r gs old le = (0, [], none_played t plans holds s r (HasNoStop s r ⊎ NoRestart []) gs le, omega arith, front_none options.report t old)

module _ (t : Network) (options : RunOptions) (plans : Plans) (lines : List StopLine) (tries : List ℕ) (held holds : List ℕ → Option (List ℕ)) (s r : ℕ) (gs hs : List Group) (ks ls : List Kept) (old new : Option (List ℕ)) (fresh : AreFresh t plans lines tries held ks) (e : hs ≡ gs) (needs : PlayNeedsNoPast)
    (front : FrontNeedsNoPast) (calm : HasNoStop s r → stops_among ks ≡ 0) where
  abbrev Still : Type 0
  Still = HasNoStop s r

  -- the restarts, and what stands behind them
  abbrev With : List Event → List Event
  With own = restarts_from 0 tries ++ own

  none_still : Still → restarts_from 0 tries ≡ []
  none_still still = none_remade tries (let none = calm still in let few = fresh.opened.stops in omega (arith, none, few))

  -- where no disk has stopped, or no restart was told, none was made
  none_first : (own : List Event) → Still ⊎ NoRestart (With own) → restarts_from 0 tries ≡ []
  none_first own (inl still) = none_still still
  none_first own (inr none) = none_told tries (omega (arith, none, counts_append (restarts_from 0 tries) own))

  -- what a shelf's count tells of those that were lent, or the events
  none_of : (Still → stops_among ls ≡ stops_among ks) → (own : List Event) → Still ⊎ NoRestart (With own) → NoneStopped ks ls [] own
  none_of f own (inl still) = inl (f still)
  none_of f own (inr none) = inr (omega (arith, none, counts_append (restarts_from 0 tries) own))

  pub done_of : (Still → stops_among ls ≡ stops_among ks) → RoseFrom s r (sum tries + more_stops ks ls) → (x : Result Totals RunFault) → OnOk x ((own : List Event) → PlaysTo (NoneStopped ks ls [] own) (more_stops ks ls) ks gs own ls → KeepsJournals t held holds (With own))
      → IfOk x (λ n. WritesBehind t options (restarts_from 0 tries) hs ks ls old new n) → IfOk x (λ n. WritesPlay t options plans held holds s r gs old new n)
  done_of f rose (Ok n) keeps w =
      let v : WritesBehind t options (restarts_from 0 tries) gs ks ls old new n = subst (λ (xs : List Group). WritesBehind t options (restarts_from 0 tries) xs ks ls old new n) e w in
      let own : List Event = v.0 in (
        With own,
        play_from needs front t plans lines tries held ks fresh gs (NoneStopped ks ls [] own) (Still ⊎ NoRestart (With own)) (more_stops ks ls) rose.0 s r (none_of f own) (none_first own) rose.2 rose.1 gs own (λ none. none) (λ u o routes r b q shows. (seats_by b ls, v.1 u o routes r b q shows)),
        keeps own v.1,
        v.2,
        v.3,
        v.4,
      )
  done_of f rose (Err x) keeps w = tt

  pub long_of : s ≤ r → (Still → stops_among ls ≡ stops_among ks) → RoseWithin s r (sum tries + more_stops ks ls) (length lines) → IsTooLongBehind t options (restarts_from 0 tries) hs ks ls old new → WritesTooLong t options plans (length lines) held s r gs old new
  long_of up f rose (inl (long, same)) =
      subst (λ (xs : List Group). WritesTooLong t options plans (length lines) held s r xs old new) e
      (subst (λ (now : Option (List ℕ)). WritesTooLong t options plans (length lines) held s r hs old now) (sym same) (
        0,
        [],
        none_played t plans held s r (Still ⊎ NoRestart []) hs up,
        omega arith,
        passes_first needs front t plans lines tries held ks fresh hs Still rose.0 (length lines) s r none_still (let low = rose.2 in omega (arith, low)) rose.3 rose.1 options.limit (take (0 + 1) hs) long,
        writes_none options.report t old,
      ))
  long_of up f rose (inr (groups, own, p, q, few, within, w)) =
      let most : ℕ = more_stops ks ls in
      subst (λ (xs : List Group). WritesTooLong t options plans (length lines) held s r xs old new) e (
        groups,
        With own,
        play_from needs front t plans lines tries held ks fresh hs (NoneStopped ks ls [] own) (Still ⊎ NoRestart (With own)) most rose.0 s r (none_of f own) (none_first own) rose.2 rose.1 (take groups hs) own (nobody_in_front groups hs) p,
        within,
        passes_from needs front t plans lines tries held ks fresh hs (stops_among ls ≡ stops_among ks) Still most rose.0 (length lines) s r f none_still rose.2 rose.3 rose.1 options.limit (take (groups + 1) hs) few (nobody_in_front (groups + 1) hs) q,
        w,
      )

  -- a fault, behind which these are left, and the counts of the shelf go from m to n before disks come back
  module _ (before after : ShelfCounts) (none : Still → NoneCounted ks ls before after) (rose : (by : ℕ) → Raised before.stops by after.stops → Raised s (by + stops_among ls) r) where
    none_by : (own : List Event) → Still ⊎ NoRestart (With own) → NoneCounted ks ls before after ⊎ NoRestart own
    none_by own (inl still) = inl (none still)
    none_by own (inr told) = inr (omega (arith, told, counts_append (restarts_from 0 tries) own))

    first_of : (groups : ℕ) (own : List Event) → PlaysSome hs ks ls before after groups own → PlaysPart t plans held s r (Still ⊎ NoRestart (With own)) hs (take groups hs) (With own)
    first_of groups own (by, raised, low, p) =
        let begun = fresh.opened.stops in
        play_from needs front t plans lines tries held ks fresh hs (NoneCounted ks ls before after ⊎ NoRestart own) (Still ⊎ NoRestart (With own)) ((by + stops_among ls) - stops_among ks) (by + stops_among ls) s r (none_by own) (none_first own)
        (omega (arith, begun, low)) (rose by raised) (take groups hs) own (nobody_in_front groups hs) p

    groups_of : WritesGroupsBehind t options (restarts_from 0 tries) hs ks ls before after old new → WritesGroups t options plans held s r gs old new
    groups_of (groups, own, p, few, w) = subst (λ (xs : List Group). WritesGroups t options plans held s r xs old new) e (groups, With own, first_of groups own p, few, w)

    pub whole_of : (x : Result Totals RunFault) → IfErr x (λ f. IsOfAgent f → WritesGroupsBehind t options (restarts_from 0 tries) hs ks ls before after old new) → IfErr x (λ f. IsOfAgent f → WritesGroups t options plans held s r gs old new)
    whole_of (Ok n) w = tt
    whole_of (Err f) w = λ of. groups_of (w of)

    pub some_of : s ≤ r → (x : Result Totals RunFault) → OnErr x (WritesSomeBehind t options (restarts_from 0 tries) hs ks ls before after old new) → OnErr x (WritesSomeOfPlay t options plans held s r gs old new)
    some_of up (Ok n) w = tt
    some_of up (Err f) (inl same) = subst (λ (now : Option (List ℕ)). WritesSomeOfPlay t options plans held s r gs old now) (sym same) (nothing_of t options plans held s r gs old up)
    some_of up (Err f) (inr (groups, own, p, few, w)) = subst (λ (xs : List Group). WritesSomeOfPlay t options plans held s r xs old new) e (groups, With own, first_of groups own p, few, w)

---- Faults

one_within : (a : ℕ) (listed : List ℕ → Bool) (t : Network) (ks : List Kept) → AreListed listed t ks → IsOneOf a (numbers (seats ks)) → a < length t.agents
one_within a listed t [] l h = absurd h
one_within a listed t (k ∷ ks) l (inl e) = let w = l.0.0 in omega (arith, w, e)
one_within a listed t (k ∷ ks) l (inr h) = one_within a listed t ks l.1 h

failed_one : (a : ℕ) (ks : List Kept) → HasFailed a ks → IsOneOf a (numbers (seats ks))
failed_one a [] h = absurd h
failed_one a (k ∷ ks) (inl p) = inl (sym p.0)
failed_one a (k ∷ ks) (inr p) = inr (failed_one a ks p)

-- the journals of agents that were begun tell what made them, where the shelf tells what it holds
owned_of : (t : Network) (plans : Plans) (lines : List StopLine) (tries : List ℕ) (holds : List ℕ → Option (List ℕ)) (olds : List Kept) → AreFresh t plans lines tries holds olds → ((routes : Routes) × AreRoutes t routes) → AtOwned olds (λ homes. ⊥) → AreTold t holds → ⊥
owned_of t plans lines tries holds olds fresh r none told = none t fresh.opened.of r.0 r.1 (fresh.owned told r.0)

-- a disk of one of them has failed, or where it went
risen_within : (t : Network) (listed : List ℕ → Bool) (olds news : List Kept) (f g h r a m n : ℕ) → AreListed listed t olds → AreAmong olds news → g ≡ f → HasFailed a news ⊎ (IsOneOf a (numbers (seats olds)) × HaveRisen (counted g r) (counted m n)) → Raised m (faults_among news) h → g ≤ m
    → (a < length t.agents) × HasRisen f h
risen_within t listed olds news f g h r a m n named among e (inl failed) p up = (
  one_within a listed t olds named (among a (failed_one a news failed)),
  risen_after f m h (omega (arith, e, up)) (faults_among news, some_failed a news failed, p),
)
risen_within t listed olds news f g h r a m n named among e (inr (one, risen)) p up = (one_within a listed t olds named one, risen_then f m h (subst (λ (x : ℕ). HasRisen x m) e risen) (raised_up m (faults_among news) h p))

-- nobody is restarted where the play is shown, but where journals tell what made their agents
shown_of : (t : Network) (plans : Plans) (lines : List StopLine) (tries : List ℕ) (holds : List ℕ → Option (List ℕ)) (gs : List Group) (olds : List Kept) → AreFresh t plans lines tries holds olds → ((routes : Routes) × AreRoutes t routes) → AreUntold (acts_of gs) olds → IsShown t gs holds → ⊥
shown_of t plans lines tries holds gs olds fresh r none (inl told) = none t fresh.opened.of r.0 r.1 true (λ e. fresh.owned told r.0) (all_told (acts_of gs))
shown_of t plans lines tries holds gs olds fresh r none (inr nobody) = none t fresh.opened.of r.0 r.1 false (λ e. absurd (false≢true e)) (all_plain gs nobody)

-- where the shelf's count says that no disk has stopped, none was counted of those that were lent
pub none_of_count : (f g s r n q : ℕ) (olds news : List Kept) → r ≡ s → Raised n (stops_among news) q → HasNoStop s q → NoneCounted olds news (counted f r) (counted g n)
none_of_count f g s r n q olds news e o still by raised =
    let none = still (by + stops_among news) (raised_twice s by n (stops_among news) q (subst (λ (x : ℕ). Raised x by n) e raised) o) in
    omega (arith, none)

-- why a run has failed, as its shelf tells
fault_of : RoutesExist → (t : Network) (plans : Plans) (lines : List StopLine) (tries : List ℕ) (holds : List ℕ → Option (List ℕ)) (listed : List ℕ → Bool) (gs : List Group) (olds news : List Kept) (f g m h s r n q : ℕ) → AreFresh t plans lines tries holds olds → AreListed listed t olds → AreAmong olds news → g ≡ f → r ≡ s → g ≤ m
    → Raised m (faults_among news) h → Raised n (stops_among news) q → (e : RunFault) → HasSettleCause (acts_of gs) olds news (counted g r) (counted m n) e → HasFaultOf t (AreTold t holds) (IsShown t gs holds) f h s q e
fault_of exist t plans lines tries holds listed gs olds news f g m h s r n q fresh named among e d up p o RunFault.Long c = tt
fault_of exist t plans lines tries holds listed gs olds news f g m h s r n q fresh named among e d up p o RunFault.WriteFault c = tt
fault_of exist t plans lines tries holds listed gs olds news f g m h s r n q fresh named among e d up p o (RunFault.DiskFault a) c = risen_within t listed olds news f g h r a m n named among e c p up
fault_of exist t plans lines tries holds listed gs olds news f g m h s r n q fresh named among e d up p o (RunFault.NotAJournal a place) c = (
  one_within a listed t olds named c.0,
  record {
    untold = owned_of t plans lines tries holds olds fresh (exist t) c.1.untold;
    restarts = λ still. shown_of t plans lines tries holds gs olds fresh (exist t) (c.1.restarted (none_of_count g m s r n q olds news d o still));
  },
)
fault_of exist t plans lines tries holds listed gs olds news f g m h s r n q fresh named among e d up p o RunFault.NoMemory c = tt

pub fault_if : RoutesExist → (t : Network) (plans : Plans) (lines : List StopLine) (tries : List ℕ) (holds : List ℕ → Option (List ℕ)) (listed : List ℕ → Bool) (gs hs : List Group) (olds news : List Kept) (f g m h s r n q : ℕ) → hs ≡ gs → AreFresh t plans lines tries holds olds → AreListed listed t olds → AreAmong olds news
    → g ≡ f → r ≡ s → g ≤ m → Raised m (faults_among news) h → Raised n (stops_among news) q → (x : Result Totals RunFault) → IfErr x (HasSettleCause (acts_of hs) olds news (counted g r) (counted m n)) → IfErr x (HasFaultOf t (AreTold t holds) (IsShown t gs holds) f h s q)
fault_if exist t plans lines tries holds listed gs hs olds news f g m h s r n q same fresh named among e d up p o (Ok x) c = tt
fault_if exist t plans lines tries holds listed gs hs olds news f g m h s r n q same fresh named among e d up p o (Err x) c =
    fault_of exist t plans lines tries holds listed gs olds news f g m h s r n q fresh named among e d up p o x (subst (λ (zs : List Group). HasSettleCause (acts_of zs) olds news (counted g r) (counted m n) x) same c)

-- why agents weren't begun
pub start_cause : (t : Network) (Told Shown : Type 0) (f g s r : ℕ) (e : RunFault) → IsStartFault (length t.agents) f g s r e → HasFaultOf t Told Shown f g s r e
start_cause t Told Shown f g s r RunFault.Long c = tt
start_cause t Told Shown f g s r RunFault.WriteFault c = tt
start_cause t Told Shown f g s r (RunFault.DiskFault a) c = (c.0, c.1)
start_cause t Told Shown f g s r (RunFault.NotAJournal a place) c = absurd c
start_cause t Told Shown f g s r RunFault.NoMemory c = tt

---- The shelf's count of stops, from s before agents were begun and r behind it, over n behind the play, to q when disks are back

module _ (t : Network) (plans : Plans) (lines : List StopLine) (tries : List ℕ) (olds news : List Kept) (f g s r n q : ℕ) (opened : AreOpened t plans lines tries olds) (e : r ≡ s) (left : AreLeft olds news (counted f r) (counted g n)) (o : Raised n (stops_among news) q) where
  -- also where some went another way before
  pub rose_by_count : (by : ℕ) → Raised r by n → Raised s (by + stops_among news) q
  rose_by_count by raised = raised_twice s by n (stops_among news) q (subst (λ (x : ℕ). Raised x by n) e raised) o

  -- it rose by no less than the stops while journals were made and since
  pub rose_of_count : RoseFrom s q (sum tries + more_stops olds news)
  rose_of_count =
      let begun = opened.stops in
      let low = left.stops in
      (left.by + stops_among news, rose_by_count left.by left.raised, omega (arith, begun, low))

  -- where the count says that no disk has stopped, there were no stops before
  pub none_before : HasNoStop s q → stops_among olds ≡ 0
  none_before still =
      let none = still (left.by + stops_among news) (rose_by_count left.by left.raised) in
      let low = left.stops in
      omega (arith, none, low)

  -- and those that come back have no more than those that were lent
  pub still_of_count : HasNoStop s q → stops_among news ≡ stops_among olds
  still_of_count still =
      let none = still (left.by + stops_among news) (rose_by_count left.by left.raised) in
      let low = left.stops in
      omega (arith, none, low)

  pub up_of_count : s ≤ q
  up_of_count = raised_up s (left.by + stops_among news) q (rose_by_count left.by left.raised)

  -- where no agent was lost, it rose by no more than lines plan
  pub rose_within : stops_among news ≤ planned_among news → LosesNone olds news (counted f r) (counted g n) → RoseWithin s q (sum tries + more_stops olds news) (length lines)
  rose_within few none =
      let begun = opened.stops in
      let most = opened.planned in
      let planned = left.planned in
      let rises = none.rises in (
        stops_among news,
        subst (λ (x : ℕ). Raised x (stops_among news) q) (none.still ∙ e) o,
        omega (arith, begun, rises),
        omega (arith, few, planned, most),
      )

pub calm_of : (x : Result Totals RunFault) (t : Network) (plans : Plans) (lines : List StopLine) (tries : List ℕ) (f g m h s r n q : ℕ) (olds news : List Kept) → AreOpened t plans lines tries olds → g ≡ f → r ≡ s → OnOk x (m ≡ g) → r ≤ n → OnOk x (AreCalm olds news)
    → Raised m (faults_among news) h → Raised n (stops_among news) q → OnOk x (IsQuiet f h s q)
calm_of (Ok _) t plans lines tries f g m h s r n q olds news a e d u up c p o = (
  (let more = raised_up n (stops_among news) q o in omega (arith, d, up, more)),
  (subst (λ (x : ℕ). Raised x 0 h) (u ∙ e) (subst (λ (x : ℕ). Raised m x h) (calm_faults olds news c ∙ a.faults) p)),
)
calm_of (Err x) t plans lines tries f g m h s r n q olds news a e d u up c p o = tt

---- Names

-- agents of whom all are among these are listed as they are
listed_at : (f : List ℕ → Bool) (t : Network) (ks : List Kept) (a : ℕ) → AreListed f t ks → IsOneOf a (numbers (seats ks)) → (a < length t.agents) × (f (name_of t a) ≡ true)
listed_at f t [] a l h = absurd h
listed_at f t (k ∷ ks) a l (inl e) = subst (λ (n : ℕ). (n < length t.agents) × (f (name_of t n) ≡ true)) (sym e) l.0
listed_at f t (k ∷ ks) a l (inr h) = listed_at f t ks a l.1 h

listed_each : (g : List ℕ → Bool) (t : Network) (ks : List Kept) → ((a : ℕ) → IsOneOf a (numbers (seats ks)) → (a < length t.agents) × (g (name_of t a) ≡ true)) → AreListed g t ks
listed_each g t [] f = tt
listed_each g t (k ∷ ks) f = (f k.seat.number (inl refl), listed_each g t ks (λ a h. f a (inr h)))

pub listed_among : (f g : List ℕ → Bool) (t : Network) (olds news : List Kept) → ((n : List ℕ) → f n ≡ true → g n ≡ true) → AreAmong olds news → AreListed f t olds → AreListed g t news
listed_among f g t olds news stays among l = listed_each g t news (λ a h. let one = listed_at f t olds a l (among a h) in (one.0, stays (name_of t a) one.1))

-- by their names in the topology that they stand in
pub listed_of : (f : List ℕ → Bool) (t : Network) (ks : List Kept) → AreOf t ks → AreListed f t ks → AreListedBy f ks
listed_of f t [] o l = tt
listed_of f t (k ∷ ks) o l = (ap (λ (u : Network). f (name_of u k.seat.number)) o.0 ∙ l.0.1, listed_of f t ks o.1 l.1)
