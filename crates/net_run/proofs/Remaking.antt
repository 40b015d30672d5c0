-- The restarts that come while journals are made.
use Rattle.std.proofs.Common.{ℕ, zero, suc, ◌+◌, ◌-◌, ◌<◌, ◌≤◌, ◌≡◌, List, [], ◌∷◌, ◌++◌, refl, sym, ap, ap₂, ◌∙◌, arith, length, map, take, get_or, add-one, append_assoc, append-nil, length-append}
use Rattle.std.specs.Prelude.{sum, sum_by}
use Rattle.std.specs.List.{All, range_with_len}
use Rattle.std.proofs.lemmas.List.{take_more}
use Rattle.std.proofs.lemmas.List.Sums.{sum_by-cons}
use Rattle.std.proofs.lemmas.List.Elements.{All-nil, All-cons, All-append}
use Rattle.nsi_primitive.specs.declared.entry.Event.{Event}
use Rattle.stp_topology.specs.declared.network.Network.{Network}
use Rattle.nsi_script.specs.declared.script.Group.{Group}
use Rattle.agent_node.specs.Openings.{Plans, agents, seat_of}
use Rattle.agent_node.specs.Restarts.{restart_event, restart_events}
use Rattle.nsi_play.specs.Openings.{opening}
use Rattle.nsi_play.specs.Rounds.{Net, Homes}
use Rattle.nsi_play.specs.Play.{Played, behind, ended}
use Rattle.nsi_world.proofs.Opening.{numbers_of}
use Rattle.stopped_play.specs.Tapes.{Tape, Stops}
use Rattle.stopped_play.specs.Play.{remade, plays_by, plays_from, IsPlayBy}
use Rattle.stopped_play.specs.Counts.{restarts_in, play_stops, all_stops}
use Rattle.agent_threads.specs.Nets.{numbers}
use Rattle.agent_threads.specs.Stopping.{none_making, on_tapes}
use Rattle.net_run.specs.Begun.{making_by, restarts_from}

---- One after another

taken : (xs : List ℕ) (n : ℕ) → n ≤ length xs → length (take n xs) ≡ n
taken xs zero h = refl
taken [] (suc n) h = absurd (omega (arith, h))
taken (x ∷ xs) (suc n) h = omega (arith, taken xs n (omega (arith, h)))

from_behind : (a : ℕ) (ns : List ℕ) (n : ℕ) → restarts_from a (ns ++ n ∷ []) ≡ restarts_from a ns ++ restart_events n (a + length ns) 0
from_behind a [] n = append-nil (restart_events n a 0) ∙ ap (λ i. restart_events n i 0) (let e : a ≡ a + 0 = omega arith in e)
from_behind a (m ∷ ns) n =
    ap (λ (es : List Event). restart_events m a 0 ++ es) (from_behind (suc a) ns n ∙ ap (λ i. restarts_from (suc a) ns ++ restart_events n i 0) (let e : suc a + length ns ≡ a + suc (length ns) = omega arith in e))
    ∙ sym (append_assoc (restart_events m a 0) (restarts_from (suc a) ns) (restart_events n (a + suc (length ns)) 0))

-- those of one agent more
pub one_more : (tries : List ℕ) (place d : ℕ) → place < length tries → restarts_from 0 (take (place + 1) tries) ≡ restarts_from 0 (take place tries) ++ restart_events (get_or tries place d) place 0
one_more tries place d h =
    ap (restarts_from 0) (take_more tries place d h)
    ∙ (from_behind 0 (take place tries) (get_or tries place d)
    ∙ ap (λ i. restarts_from 0 (take place tries) ++ restart_events (get_or tries place d) i 0) (let e = taken tries place (omega (arith, h)) in omega (arith, e)))

---- What they are

-- each is a restart of one of these agents
events_each : (P : Event → Type 0) (times n : ℕ) → P (restart_event n 0) → All P (restart_events times n 0)
events_each P zero n p = All-nil P
events_each P (suc times) n p = All-cons P (restart_event n 0) (restart_events times n 0) p (events_each P times n p)

pub from_each : (P : Event → Type 0) (most a : ℕ) (ns : List ℕ) → a + length ns ≤ most → ((n : ℕ) → n < most → P (restart_event n 0)) → All P (restarts_from a ns)
from_each P most a [] h p = All-nil P
from_each P most a (n ∷ ns) h p =
    All-append P (restart_events n a 0) (restarts_from (suc a) ns) (events_each P n a (p a (omega (arith, h)))) (from_each P most (suc a) ns (omega (arith, h)) p)

pub counts_append : (es fs : List Event) → restarts_in (es ++ fs) ≡ restarts_in es + restarts_in fs
counts_append [] fs = omega arith
counts_append (e ∷ es) fs = omega (arith, counts_append es fs)

counts_one : (times n : ℕ) → restarts_in (restart_events times n 0) ≡ times
counts_one zero n = refl
counts_one (suc times) n = omega (arith, counts_one times n)

counts_from : (a : ℕ) (ns : List ℕ) → restarts_in (restarts_from a ns) ≡ sum ns
counts_from a [] = refl
counts_from a (n ∷ ns) =
    let all = sum_by-cons (λ (m : ℕ). m) n ns in
    omega (arith, counts_append (restart_events n a 0) (restarts_from (suc a) ns), counts_one n a, counts_from (suc a) ns, all)

none_from : (a : ℕ) (ns : List ℕ) → sum ns ≡ 0 → restarts_from a ns ≡ []
none_from a [] e = refl
none_from a (zero ∷ ns) e = none_from (suc a) ns (let all = sum_by-cons (λ (m : ℕ). m) zero ns in omega (arith, e, all))
none_from a (suc n ∷ ns) e = absurd (let all = sum_by-cons (λ (m : ℕ). m) (suc n) ns in omega (arith, e, all))

-- where no journal was made anew there are none
pub none_remade : (tries : List ℕ) → sum tries ≡ 0 → restarts_from 0 tries ≡ []
none_remade tries e = none_from 0 tries e

pub none_told : (tries : List ℕ) → restarts_in (restarts_from 0 tries) ≡ 0 → restarts_from 0 tries ≡ []
none_told tries e = none_from 0 tries (omega (arith, counts_from 0 tries, e))

---- In a play

none_making_any : (ns : List ℕ) → sum_by none_making ns ≡ 0
none_making_any [] = refl
none_making_any (n ∷ ns) = omega (arith, sum_by-cons none_making n ns, none_making_any ns)

-- the stops of a play before which no disk has stopped
pub few_alone : (t : Network) (plans : Plans) (tapes : List Tape) (by : ℕ) → play_stops (numbers (opening t plans)) tapes ≤ by → all_stops (agents t) (on_tapes tapes) ≤ by
few_alone t plans tapes by low = omega (arith, low, ap (λ (ns : List ℕ). play_stops ns tapes) (numbers_of t plans (agents t)), none_making_any (agents t))

sum_from : (f : ℕ → ℕ) (m : ℕ) (ns : List ℕ) → ((i : ℕ) → f (m + i) ≡ get_or ns i 0) → sum_by f (range_with_len m (length ns)) ≡ sum ns
sum_from f m [] e = refl
sum_from f m (n ∷ ns) e =
    let all = sum_by-cons (λ (m : ℕ). m) n ns in
    let one : f m ≡ n = ap f (let z : m ≡ m + 0 = omega arith in z) ∙ e 0 in
    let rest = sum_from f (m + 1) ns (λ i. ap f (let z : (m + 1) + i ≡ m + suc i = omega arith in z) ∙ e (suc i)) in
    let whole : sum_by f (range_with_len m (suc (length ns))) ≡ f m + sum_by f (range_with_len (m + 1) (length ns)) = sum_by-cons f m (range_with_len (m + 1) (length ns)) in
    omega (arith, all, one, rest, whole)

remade_from : (t : Network) (plans : Plans) (f : ℕ → ℕ) (m : ℕ) (ns : List ℕ) → ((i : ℕ) → f (m + i) ≡ get_or ns i 0) → remade f (map (seat_of t plans) (range_with_len m (length ns))) ≡ restarts_from m ns
remade_from t plans f m [] e = refl
remade_from t plans f m (n ∷ ns) e =
    let one : f m ≡ n = ap f (let z : m ≡ m + 0 = omega arith in z) ∙ e 0 in
    let rest = remade_from t plans f (m + 1) ns (λ i. ap f (let z : (m + 1) + i ≡ m + suc i = omega arith in z) ∙ e (suc i)) in
    ap₂ (λ (es fs : List Event). es ++ fs) (ap (λ i. restart_events i m 0) one) (rest ∙ ap (λ i. restarts_from i ns) (add-one m))

zero_more : (tries : List ℕ) (i : ℕ) → making_by tries (0 + i) ≡ get_or tries i 0
zero_more tries i = ap (λ j. get_or tries j 0) (let e : 0 + i ≡ i = omega arith in e)

abbrev pub stops_by : List ℕ → List Tape → Stops
stops_by tries tapes = record { making = making_by tries; groups = tapes }

module _ (t : Network) (plans : Plans) (tries : List ℕ) (all : length tries ≡ length t.agents) where
  remade_is : remade (making_by tries) (opening t plans) ≡ restarts_from 0 tries
  remade_is = ap (λ n. remade (making_by tries) (map (seat_of t plans) (range_with_len 0 n))) (sym all) ∙ remade_from t plans (making_by tries) 0 tries (zero_more tries)

  making_is : sum_by (making_by tries) (agents t) ≡ sum tries
  making_is = ap (λ n. sum_by (making_by tries) (range_with_len 0 n)) (sym all) ∙ sum_from (making_by tries) 0 tries (zero_more tries)

  -- the stops of a play behind the restarts
  pub all_are : (tapes : List Tape) (most by : ℕ) → play_stops (numbers (opening t plans)) tapes ≤ most → sum tries + most ≤ by → all_stops (agents t) (stops_by tries tapes) ≤ by
  all_are tapes most by low le = omega (arith, low, le, making_is, ap (λ (ns : List ℕ). play_stops ns tapes) (numbers_of t plans (agents t)))

  none_remade_here : (net : Net) → remade none_making net ≡ []
  none_remade_here [] = refl
  none_remade_here (s ∷ ss) = none_remade_here ss

  -- with the restarts in front it is a play
  pub plays_behind : (tapes : List Tape) (script : List Group) (homes : Homes) (own : List Event) (last : Net) → IsPlayBy (on_tapes tapes) script homes (opening t plans) own last
      → IsPlayBy (stops_by tries tapes) script homes (opening t plans) (restarts_from 0 tries ++ own) last
  plays_behind tapes script homes own last p =
      let x : Played = plays_by tapes script 0 homes (opening t plans) in
      let plain : behind [] x ≡ ended own last = ap (λ (es : List Event). behind es x) (sym (none_remade_here (opening t plans))) ∙ p in
      ap (λ (es : List Event). behind es x) remade_is ∙ ap (λ (y : Played). behind (restarts_from 0 tries) y) plain

  -- and it has more events
  pub passes_behind : (tapes : List Tape) (limit : ℕ) (script : List Group) (homes : Homes) → length (restarts_from 0 tries) ≤ limit → limit - length (restarts_from 0 tries) < length (plays_from (on_tapes tapes) script homes (opening t plans)).events
      → limit < length (plays_from (stops_by tries tapes) script homes (opening t plans)).events
  passes_behind tapes limit script homes few long =
      let x : Played = plays_by tapes script 0 homes (opening t plans) in
      let plain = ap (λ (es : List Event). length (es ++ x.events)) (none_remade_here (opening t plans)) in
      let whole = ap (λ (es : List Event). length (es ++ x.events)) remade_is in
      let parts = length-append (restarts_from 0 tries) x.events in
      omega (arith, few, long, plain, whole, parts)

  -- the restarts alone may be too many
  pub passes_alone : (limit : ℕ) (script : List Group) (homes : Homes) → limit < length (restarts_from 0 tries) → limit < length (plays_from (stops_by tries []) script homes (opening t plans)).events
  passes_alone limit script homes long =
      let x : Played = plays_by [] script 0 homes (opening t plans) in
      let whole = ap (λ (es : List Event). length (es ++ x.events)) remade_is in
      let parts = length-append (restarts_from 0 tries) x.events in
      omega (arith, long, whole, parts)
