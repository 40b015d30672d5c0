-- Agents that were begun have taken nothing.
use Rattle.std.proofs.Common.{ℕ, ◌≡◌, Bool, true, Option, Some, None, List, [], ◌∷◌, ◌++◌, refl, sym, ap, ap₂, subst, arith, map}
use Rattle.nsi_primitive.specs.declared.entry.Event.{Event}
use Rattle.stp_topology.specs.declared.network.Network.{Network}
use Rattle.agent_node.specs.Seat.{Seat}
use Rattle.agent_node.specs.Openings.{Plans, agents, seat_of}
use Rattle.agent_node.specs.Kept.{Kept}
use Rattle.nsi_play.specs.Rounds.{Net, events_of}
use Rattle.quiet_rounds.specs.Bounded.{IsBoundedIn, IsBounded, numbers as bounded_numbers}
use Rattle.quiet_rounds.specs.Laws.{OpeningsAreBounded}
use Rattle.agent_threads.specs.Nets.{seats, seats_by, seen, synced_in, IsOwned, AreOwned}
use Rattle.agent_threads.specs.Bounds.{AreUpTo, AreUnder, AreNumbered, AreReady}
use Rattle.std.specs.Prelude.{IfSome, is_some}
use Rattle.journal_entry.specs.Journal.{Kept as Journaled}
use Rattle.agent_state.specs.State.{blank_agent}
use Rattle.stp_topology.specs.Network.{name_of}
use Rattle.nsi_agent.specs.Homes.{Home, home_in}
use Rattle.nsi_agent.specs.Told.{told, goes_on}
use Rattle.nsi_script.specs.declared.script.StopLine.{StopLine}
use Rattle.net_run.specs.Begun.{AreOpened, AreListed}
use Rattle.net_run.specs.Held.{AreTold}
use Rattle.net_run.specs.Journals.{no_entries, AreEmpty}
use Rattle.net_run.proofs.Running.{AreFresh}
use Rattle.nsi_play.specs.Play.{untold_net}
use Rattle.agent_node.specs.Restarts.{untold}
use Rattle.nsi_play.specs.Openings.{opening}
use Rattle.std.specs.List.{All}
use Rattle.std.proofs.lemmas.List.Elements.{All-map, All-weaker}

record AreBlank (ks : List Kept) : Type 0 where
  none : AreUnder 0 ks
  clocks : AreUpTo 0 ks
  told : events_of (seats ks) ≡ []

blank_seats : (t : Network) (plans : Plans) (ns : List ℕ) (ks : List Kept) → seats ks ≡ untold_net (map (seat_of t plans) ns) → AreBlank ks
blank_seats t plans ns [] e = record { none = tt; clocks = tt; told = refl }
blank_seats t plans [] (k ∷ ks) e = absurd (cc)
blank_seats t plans (n ∷ ns) (k ∷ ks) e =
    let is : k.seat ≡ untold (seat_of t plans n) = cc in
    let rest = blank_seats t plans ns ks (cc) in
    let taken : k.seat.state.base.taken ≡ 0 = ap (λ (s : Seat). s.state.base.taken) is in
    let now : k.seat.state.base.now ≡ 0 = ap (λ (s : Seat). s.state.base.now) is in
    record {
      none = (omega (arith, taken), rest.none);
      clocks = (omega (arith, now), rest.clocks);
      told = ap₂ (λ (es fs : List Event). es ++ fs) (ap (λ (s : Seat). s.events) is) rest.told;
    }

numbered : (listed : List ℕ → Bool) (t : Network) (ks : List Kept) → AreListed listed t ks → AreNumbered t ks
numbered listed t [] l = tt
numbered listed t (k ∷ ks) l = (l.0.0, numbered listed t ks l.1)

bounded_in : (ns : List ℕ) (net : Net) → All (IsBoundedIn ns) net → All (IsBoundedIn ns) (untold_net net)
bounded_in ns net h = All-map (IsBoundedIn ns) untold net (All-weaker (IsBoundedIn ns) (λ s. IsBoundedIn ns (untold s)) (λ s b. record { met = b.met; few = b.few; apart = b.apart; lead = b.lead }) net h)

same_numbers : (net : Net) → bounded_numbers (untold_net net) ≡ bounded_numbers net
same_numbers [] = refl
same_numbers (s ∷ ss) = ap (λ (ns : List ℕ). s.number ∷ ns) (same_numbers ss)

untold_bounded : (net : Net) → IsBounded net → IsBounded (untold_net net)
untold_bounded net h = subst (λ (ns : List ℕ). All (IsBoundedIn ns) (untold_net net)) (sym (same_numbers net)) (bounded_in (bounded_numbers net) net h)

---- What their journals tell

told_empty : {A : Type 0} (o : Option A) (P : Type 0) → is_some o ≡ true → IfSome o (λ x. P) → P
told_empty None P e p = absurd (cc)
told_empty (Some x) P e p = p

seen_one : (t : Network) (plans : Plans) (n : ℕ) (k : Kept) → k.seat ≡ untold (seat_of t plans n) → k.kept ≡ Some no_entries → seen true k ≡ seat_of t plans n
seen_one t plans n k is kept = ap₂ (λ (s : Seat) (o : Option Journaled). record s { past = synced_in o }) is kept

nothing_told : (h : Home) → (told h []).state ≡ blank_agent
unfolding goes_on
nothing_told h = refl

owned_one : (t : Network) (plans : Plans) (homes : ℕ → Home) (n : ℕ) (k : Kept) → k.seat ≡ untold (seat_of t plans n) → k.kept ≡ Some no_entries → IsOwned homes k
owned_one t plans homes n k is kept =
    (no_entries, kept, subst (λ (s : Seat). (told (homes k.seat.number) ([] ++ s.fresh)).state ≡ s.state) (sym is) (nothing_told (homes k.seat.number)))

module _ (t : Network) (plans : Plans) (held : List ℕ → Option (List ℕ)) (listed : List ℕ → Bool) (tells : AreTold t held) where
  fresh_seats : (ns : List ℕ) (ks : List Kept) → AreListed listed t ks → AreEmpty t held ks → seats ks ≡ untold_net (map (seat_of t plans) ns) → seats_by true ks ≡ map (seat_of t plans) ns
  fresh_seats [] [] l none e = refl
  fresh_seats (n ∷ ns) [] l none e = absurd (cc)
  fresh_seats [] (k ∷ ks) l none e = absurd (cc)
  fresh_seats (n ∷ ns) (k ∷ ks) l none e =
      let is : k.seat ≡ untold (seat_of t plans n) = cc in
      ap₂ ◌∷◌ (seen_one t plans n k is (told_empty (held (name_of t k.seat.number)) (k.kept ≡ Some no_entries) (tells k.seat.number l.0.0) none.0)) (fresh_seats ns ks l.1 none.1 (cc))

  fresh_owned : (homes : ℕ → Home) (ns : List ℕ) (ks : List Kept) → AreListed listed t ks → AreEmpty t held ks → seats ks ≡ untold_net (map (seat_of t plans) ns) → AreOwned homes ks
  fresh_owned homes ns [] l none e = tt
  fresh_owned homes [] (k ∷ ks) l none e = absurd (cc)
  fresh_owned homes (n ∷ ns) (k ∷ ks) l none e =
      let is : k.seat ≡ untold (seat_of t plans n) = cc in
      (owned_one t plans homes n k is (told_empty (held (name_of t k.seat.number)) (k.kept ≡ Some no_entries) (tells k.seat.number l.0.0) none.0), fresh_owned homes ns ks l.1 none.1 (cc))

pub fresh_of : (t : Network) (plans : Plans) (lines : List StopLine) (tries : List ℕ) (held : List ℕ → Option (List ℕ)) (listed : List ℕ → Bool) (ks : List Kept) → AreOpened t plans lines tries ks → AreListed listed t ks → AreEmpty t held ks → AreFresh t plans lines tries held ks
fresh_of t plans lines tries held listed ks o l none = record {
  opened = o;
  seats = λ tells. fresh_seats t plans held listed tells (agents t) ks l none o.seats;
  owned = λ tells routes. fresh_owned t plans held listed tells (home_in t routes) (agents t) ks l none o.seats;
}

---- What a run asks of them

pub ready_of : OpeningsAreBounded → (listed : List ℕ → Bool) (t : Network) (plans : Plans) (lines : List StopLine) (tries : List ℕ) (ks : List Kept) → AreOpened t plans lines tries ks → AreListed listed t ks → AreReady t ks
ready_of bounded listed t plans lines tries ks o l =
    let blank = blank_seats t plans (agents t) ks o.seats in
    let few : IsBounded (seats ks) = subst (λ (net : Net). IsBounded net) (sym o.seats) (untold_bounded (opening t plans) (bounded t plans)) in
    record { numbers = numbered listed t ks l; none = blank.none; clocks = blank.clocks; told = blank.told; bounded = few }
