-- Nets stay bounded.
use Rattle.std.proofs.Common.{ℕ, ◌≡◌, ◌≢◌, ◌≤◌, List, [], ◌∷◌, refl, sym, ap, ◌∙◌, subst, arith, length, map}
use Rattle.std.specs.List.{All, AllPairs}
use Rattle.std.proofs.lemmas.List.Elements.{All-nil, All-cons, All-head, All-tail, All-weaker, All-map}
use Rattle.nsi_agent.specs.Homes.{Home}
use Rattle.nsi_primitive.specs.declared.message.Parcel.{Parcel}
use Rattle.agent_link.specs.Link.{most_parcels}
use Rattle.agent_node.specs.Doors.{Door}
use Rattle.agent_node.specs.Passing.{HasMet, others, pushes, clears, lying}
use Rattle.agent_node.proofs.Passing.{pushes_front}
use Rattle.agent_node.specs.Seat.{Seat}
use Rattle.agent_node.specs.Turns.{cleared, synced_all, turn_entered, turn_with}
use Rattle.nsi_play.specs.Rounds.{Net, Homes, turned_in, turned_all, meets_each, meets_all, met_all, round}
use Rattle.quiet_rounds.specs.Bounded.{numbers, IsFew, LeadsTo, IsBoundedIn, IsBounded}
use Rattle.quiet_rounds.proofs.Greatest.{HasAll}
use Rattle.quiet_rounds.proofs.Ends.{bare, kept, same_others, same_worked}
use Rattle.quiet_rounds.proofs.Meeting.{each_others, each_keeps, each_knows, each_met, all_numbers}

---- A turn

-- behind a turn, before the agents meet
abbrev pub IsTaken : Door → Type 0
IsTaken d = d.inc ≡ []

abbrev pub LetsFew : Door → Type 0
LetsFew d = length d.out ≤ most_parcels

pub record IsTurnedIn (ns : List ℕ) (s : Seat) : Type 0 where
  pub taken : All IsTaken s.doors
  pub few : All LetsFew s.doors
  pub apart : AllPairs (λ a b. b ≢ a) (others s.doors)
  pub lead : All (LeadsTo ns) s.doors

pub cleared_taken : (ds : List Door) → All IsTaken (map clears ds)
cleared_taken [] = All-nil IsTaken
cleared_taken (d ∷ ds) = All-cons IsTaken (clears d) (map clears ds) refl (cleared_taken ds)

pub mapped_others : (f : Door → Door) → ((d : Door) → (f d).other ≡ d.other) → (ds : List Door) → others (map f ds) ≡ others ds
mapped_others f same [] = refl
mapped_others f same (d ∷ ds) = ap (λ n. n ∷ others (map f ds)) (same d) ∙ ap (λ ns. d.other ∷ ns) (mapped_others f same ds)

-- what stands before it pushes
turned_by : (ns : List ℕ) (s : Seat) (ds : List Door) → IsBoundedIn ns s → map bare ds ≡ map bare (map clears s.doors) → IsTurnedIn ns (record s { doors = map pushes ds })
turned_by ns s ds h e =
    let met : All HasMet ds = kept HasMet (map clears s.doors) ds (λ d k. k) (λ d k. k) e (All-map HasMet clears s.doors h.met) in
    record {
      taken = All-map IsTaken pushes ds (kept IsTaken (map clears s.doors) ds (λ d k. k) (λ d k. k) e (cleared_taken s.doors));
      few = All-map LetsFew pushes ds (All-weaker HasMet (λ d. LetsFew (pushes d)) (λ d k. (pushes_front d k).few) ds met);
      apart = subst (AllPairs (λ a b. b ≢ a)) (sym (mapped_others pushes (λ d. refl) ds ∙ (same_others (map clears s.doors) ds e ∙ mapped_others clears (λ d. refl) s.doors))) h.apart;
      lead = All-map (LeadsTo ns) pushes ds (kept (LeadsTo ns) (map clears s.doors) ds (λ d k. k) (λ d k. k) e (All-map (LeadsTo ns) clears s.doors h.lead));
    }

turn_doors : (h : Home) (xs : List (ℕ × Parcel)) (s : Seat) → (turn_with h xs s).doors ≡ map pushes (synced_all h (turn_entered h xs s)).doors
unfolding turn_with
turn_doors h xs s = refl

turn_number : (h : Home) (xs : List (ℕ × Parcel)) (s : Seat) → (turn_with h xs s).number ≡ (synced_all h (turn_entered h xs s)).number
unfolding turn_with
turn_number h xs s = refl

pub number_turned : (homes : Homes) (s : Seat) → (turned_in homes s).number ≡ s.number
number_turned homes s = turn_number (homes s.number) (lying s.doors) (cleared s) ∙ (same_worked (homes s.number) (lying s.doors) (cleared s)).number

-- by its doors alone
by_doors : (ns : List ℕ) (s u : Seat) → u.doors ≡ s.doors → IsTurnedIn ns s → IsTurnedIn ns u
by_doors ns s u e h = record {
  taken = subst (All IsTaken) (sym e) h.taken;
  few = subst (All LetsFew) (sym e) h.few;
  apart = subst (λ ds. AllPairs (λ a b. b ≢ a) (others ds)) (sym e) h.apart;
  lead = subst (All (LeadsTo ns)) (sym e) h.lead;
}

pub turned_bounded : (ns : List ℕ) (homes : Homes) (s : Seat) → IsBoundedIn ns s → IsTurnedIn ns (turned_in homes s)
turned_bounded ns homes s h =
    let u : Seat = synced_all (homes s.number) (turn_entered (homes s.number) (lying s.doors) (cleared s)) in
    by_doors ns (record s { doors = map pushes u.doors }) (turned_in homes s) (turn_doors (homes s.number) (lying s.doors) (cleared s))
    (turned_by ns s u.doors h (same_worked (homes s.number) (lying s.doors) (cleared s)).ends)

---- A round

numbers_turned : (homes : Homes) (net : Net) → numbers (turned_all homes net) ≡ numbers net
numbers_turned homes [] = refl
numbers_turned homes (s ∷ ss) = ap (λ n. n ∷ numbers (turned_all homes ss)) (number_turned homes s) ∙ ap (λ ns. s.number ∷ ns) (numbers_turned homes ss)

all_turned : (ns : List ℕ) (homes : Homes) (net : Net) → All (IsBoundedIn ns) net → All (IsTurnedIn ns) (turned_all homes net)
all_turned ns homes [] h = All-nil (IsTurnedIn ns)
all_turned ns homes (s ∷ ss) h =
    All-cons (IsTurnedIn ns) (turned_in homes s) (turned_all homes ss) (turned_bounded ns homes s (All-head (IsBoundedIn ns) s ss h)) (all_turned ns homes ss (All-tail (IsBoundedIn ns) s ss h))

taken_few : (d : Door) → IsTaken d → IsFew d
taken_few d e = omega (arith, ap length e)

meets_bounded : (ns : List ℕ) (os : Net) (s : Seat) → numbers os ≡ ns → All (IsTurnedIn ns) os → IsTurnedIn ns s → IsBoundedIn ns (meets_each s os)
meets_bounded ns os s e all h = record {
  met = each_met s os h.apart (subst (λ ms. All (LeadsTo ms) s.doors) (sym e) h.lead);
  few = each_knows (λ ps. length ps ≤ most_parcels) (omega arith) s os (All-weaker (IsTurnedIn ns) (HasAll LetsFew) (λ u k. k.few) os all) (All-weaker IsTaken IsFew taken_few s.doors h.taken);
  apart = subst (AllPairs (λ a b. b ≢ a)) (sym (each_others s os)) h.apart;
  lead = each_keeps (LeadsTo ns) s os (λ ps d k. k) h.lead;
}

pub all_meet : (ns : List ℕ) (os net : Net) → numbers os ≡ ns → All (IsTurnedIn ns) os → All (IsTurnedIn ns) net → All (IsBoundedIn ns) (map (meets_all os) net)
all_meet ns os [] e all h = All-nil (IsBoundedIn ns)
all_meet ns os (s ∷ ss) e all h =
    All-cons (IsBoundedIn ns) (meets_each s os) (map (meets_all os) ss) (meets_bounded ns os s e all (All-head (IsTurnedIn ns) s ss h)) (all_meet ns os ss e all (All-tail (IsTurnedIn ns) s ss h))

pub round_is : (homes : Homes) (net : Net) → round homes net ≡ met_all (turned_all homes net)
unfolding round
round_is homes net = refl

pub round_bounded : (homes : Homes) (net : Net) → IsBounded net → IsBounded (round homes net)
round_bounded homes net h =
    let os : Net = turned_all homes net in
    let ns : List ℕ = numbers net in
    let all : All (IsTurnedIn ns) os = all_turned ns homes net h in
    subst IsBounded (sym (round_is homes net))
    (subst (λ ms. All (IsBoundedIn ms) (met_all os)) (sym (all_numbers os os ∙ numbers_turned homes net)) (all_meet ns os os (numbers_turned homes net) all all))
