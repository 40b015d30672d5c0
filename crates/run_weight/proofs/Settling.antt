-- A play has no more events than the weight of its script.
use Rattle.std.proofs.Common.{◌≡◌, ◌≤◌, ◌<◌, ◌+◌, ◌*◌, ◌-◌, ◌++◌, ◌∙◌, ℕ, List, [], ◌∷◌, refl, sym, ap, subst, arith, length, length-append, append_assoc, append-nil, cond, inl, inr}
use Rattle.std.specs.List.{sum_by}
use Rattle.std.proofs.lemmas.Bool.{cases_lt}
use Rattle.std.proofs.lemmas.List.Sums.{sum_by-append}
use Rattle.nsi_primitive.specs.declared.entry.Event.{Event}
use Rattle.stp_topology.specs.declared.network.Network.{Network}
use Rattle.agent_state.specs.Entries.{most_entries}
use Rattle.nsi_agent.specs.Homes.{Routes, home_in}
use Rattle.nsi_script.specs.Scripts.{acts_of, asks_of, is_ask}
use Rattle.nsi_script.specs.declared.script.Act.{Act}
use Rattle.nsi_script.specs.declared.script.Group.{Group}
use Rattle.agent_node.specs.Openings.{agents}
use Rattle.nsi_play.specs.Openings.{Plans}
use Rattle.nsi_play.specs.Play.{Played}
use Rattle.stopped_play.specs.Tapes.{Stops, calm_stops}
use Rattle.stopped_play.specs.Counts.{restarts_in, all_stops}
use Rattle.stopped_play.specs.Laws.{played}
use Rattle.due_events.specs.Counts.{act_worth, is_forcing, is_restarting, script_forces, script_restarts}
use Rattle.due_events.specs.Laws.{PlaysAreScripted, PlaysAreShort, RunsCauseNoMore}
use Rattle.due_events.proofs.CalmPlays.{calm_is, none_stops}
use Rattle.run_changes.specs.Laws.{MessagesAreFew}
use Rattle.run_requests.specs.Laws.{PlaysAskFew}
use Rattle.run_requests.specs.Requests.{by_label}
use Rattle.run_weight.specs.Laws.{IsPlayable, StoppedPlaysSettle, PlaysSettle, StoppedLongIsOver, LongIsOver}
use Rattle.run_weight.specs.Weight.{label_most, asks_reach, messages_each, most_held, weight}
use Rattle.run_weight.proofs.Labels.{labels_fit}

---- Numbers

-- with more restarts, and more that may be held, there may be more events
more_events : (r more held most n : ℕ) → r ≤ more → held ≤ most → n ≤ 2 * ((1 + r) * held) + r → n ≤ 2 * ((1 + more) * most) + more
more_events r more held most n low less few =
    let rest : ℕ = more - r in
    let other : ℕ = most - held in
    let parts : more ≡ r + rest = omega (arith, low) in
    let others : most ≡ held + other = omega (arith, less) in
    let first : more * most ≡ r * most + rest * most = ap (λ (z : ℕ). z * most) parts ∙ omega arith in
    let second : r * most ≡ r * held + r * other = ap (λ (z : ℕ). r * z) others ∙ omega arith in
    omega (arith, few, parts, others, first, second)

-- what is held is less than all that may be
held_less : (r held : ℕ) → 2 * ((1 + r) * held) + r ≤ most_entries → held < most_entries
held_less r held low = let more : (1 + r) * held ≡ held + r * held = omega arith in omega (arith, low, more)

acts_append : (xs ys : List Group) → acts_of (xs ++ ys) ≡ acts_of xs ++ acts_of ys
acts_append [] ys = refl
acts_append (g ∷ gs) ys = ap (λ (zs : List Act). g.acts ++ zs) (acts_append gs ys) ∙ sym (append_assoc g.acts (acts_of gs) (acts_of ys))

---- Messages

module _ (messages_few : MessagesAreFew) (ask_few : PlaysAskFew) (t : Network) (routes : Routes) (plans : Plans) (part rest : List Group) (is : IsPlayable t routes part) where
  abbrev whole : List Group
  whole = part ++ rest

  acts_are : acts_of whole ≡ acts_of part ++ acts_of rest
  acts_are = acts_append part rest

  reach_less : sum_by (act_worth (by_label (label_most t routes whole))) (acts_of part) ≤ asks_reach t routes whole
  reach_less =
      let worth = act_worth (by_label (label_most t routes whole)) in
      omega (arith, sum_by-append worth (acts_of part) (acts_of rest), ap (sum_by worth) acts_are)

  causes : (stops : Stops) → RunsCauseNoMore (home_in t routes) (agents t) (played t routes plans stops part).events (messages_each * asks_reach t routes whole)
  causes stops front after e run =
      let told = messages_few t routes front is.sound is.formed is.routed run in
      let few = ask_few t routes plans stops part (label_most t routes whole) front after is.sound is.formed is.routed (labels_fit t routes part whole (acts_of rest) acts_are) e run in
      omega (arith, told, few.asked, few.taken, reach_less)

  -- what the first groups have, the whole has too
  counted : (kind : Act → ℕ) → sum_by kind (acts_of part) ≤ sum_by kind (acts_of whole)
  counted kind = omega (arith, sum_by-append kind (acts_of part) (acts_of rest), ap (sum_by kind) acts_are)

  ---- Plays

  -- what the first groups let be held, the whole lets too
  abbrev held_in : List Group → ℕ
  held_in script = length t.agents * length script + (script_forces script + (asks_of script + 3 * (messages_each * asks_reach t routes whole)))

  held_more : held_in part ≤ held_in whole
  held_more =
      let parts : length t.agents * length whole ≡ length t.agents * length part + length t.agents * length rest = ap (λ (n : ℕ). length t.agents * n) (length-append part rest) ∙ omega arith in
      omega (arith, parts, counted (λ (a : Act). cond (is_forcing a) 1 0), counted (λ (a : Act). cond (is_ask a) 1 0))

  held_is : most_held t routes whole ≡ held_in whole
  unfolding most_held
  held_is = refl

  weight_is : (r : ℕ) → weight t routes whole r ≡ 2 * ((1 + r) * most_held t routes whole) + r
  unfolding weight
  weight_is r = refl

  room : (r : ℕ) → weight t routes whole r ≤ most_entries → held_in part < most_entries
  room r low = let few = held_less r (most_held t routes whole) (omega (arith, low, weight_is r)) in omega (arith, few, held_more, held_is)

  within : (r had n : ℕ) → had ≤ r → n ≤ 2 * ((1 + had) * held_in part) + had → n ≤ weight t routes whole r
  within r had n low few = let n_few = more_events had r (held_in part) (most_held t routes whole) n low (omega (arith, held_more, held_is)) few in omega (arith, n_few, weight_is r)

  settles : PlaysAreShort → (stops : Stops) (r : ℕ) → let events : List Event = (played t routes plans stops part).events in
      restarts_in events ≤ r → weight t routes whole r ≤ most_entries → length events ≤ weight t routes whole r
  settles short stops r low fits =
      let events : List Event = (played t routes plans stops part).events in
      within r (restarts_in events) (length events) low (short t routes plans stops part (messages_each * asks_reach t routes whole) is.formed is.rising is.acts (causes stops) (room r fits))

  restarts_less : PlaysAreScripted → (stops : Stops) → restarts_in (played t routes plans stops part).events ≤ script_restarts whole + all_stops (agents t) stops
  restarts_less scripted stops =
      let made = scripted t routes plans stops part is.formed in
      omega (arith, made.restarts, counted (λ (a : Act). cond (is_restarting a) 1 0))

  -- a limit that is passed
  over : PlaysAreShort → PlaysAreScripted → (stops : Stops) (limit most : ℕ) → limit ≤ most_entries → all_stops (agents t) stops ≤ most → limit < length (played t routes plans stops part).events →
      limit < weight t routes whole (script_restarts whole + most)
  over short scripted stops limit most low few passed = elim (cases_lt most_entries (weight t routes whole (script_restarts whole + most))) [
    | inl more ↦ omega (arith, low, more)
    | inr less ↦ let settled = settles short stops (script_restarts whole + most) (omega (arith, restarts_less scripted stops, few)) (omega (arith, less)) in omega (arith, settled, passed)
  ]

---- Where no disk stops

-- so many calm rounds for each group
abbrev calm_for : List Group → ℕ → Stops
calm_for script rounds = calm_stops (length script) rounds

pub stopped_plays_settle : MessagesAreFew → PlaysAskFew → PlaysAreShort → StoppedPlaysSettle
stopped_plays_settle told asked short t routes plans stops script is =
    let events : List Event = (played t routes plans stops script).events in
    subst (λ (whole : List Group). weight t routes whole (restarts_in events) ≤ most_entries → length events ≤ weight t routes whole (restarts_in events)) (append-nil script)
    (settles told asked t routes plans script [] is short stops (restarts_in events) (omega arith))

pub stopped_long_is_over : MessagesAreFew → PlaysAskFew → PlaysAreShort → PlaysAreScripted → StoppedLongIsOver
stopped_long_is_over told asked short scripted t routes plans stops limit most part rest is low few passed = over told asked t routes plans part rest is short scripted stops limit most low few passed

pub long_is_over : MessagesAreFew → PlaysAskFew → PlaysAreShort → PlaysAreScripted → LongIsOver
long_is_over told asked short scripted t routes plans limit part rest is low passed =
    let rounds : ℕ = passed.0 in
    let more : limit < length (played t routes plans (calm_for part rounds) part).events =
    subst (λ (p : Played). limit < length p.events) (sym (calm_is t routes plans rounds part)) passed.1
    in
    let none = none_stops (agents t) (length part) rounds in
    let is_over = over told asked t routes plans part rest is short scripted (calm_for part rounds) limit 0 low (omega (arith, none)) more in
    subst (λ (n : ℕ). limit < weight t routes (part ++ rest) n) (omega arith) is_over

pub plays_settle : MessagesAreFew → PlaysAskFew → PlaysAreShort → PlaysAreScripted → PlaysSettle
plays_settle told asked short scripted t routes plans rounds script is =
    let stops : Stops = calm_for script rounds in
    let low : restarts_in (played t routes plans stops script).events ≤ script_restarts (script ++ []) =
    omega (arith, restarts_less told asked t routes plans script [] is scripted stops, none_stops (agents t) (length script) rounds)
    in
    subst (λ (p : Played). weight t routes script (script_restarts script) ≤ most_entries → length p.events ≤ weight t routes script (script_restarts script)) (calm_is t routes plans rounds script)
    (subst (λ (whole : List Group). weight t routes whole (script_restarts whole) ≤ most_entries → length (played t routes plans stops script).events ≤ weight t routes whole (script_restarts whole)) (append-nil script)
    (settles told asked t routes plans script [] is short stops (script_restarts (script ++ [])) low))
