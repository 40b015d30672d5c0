-- What steps of a net leave, one after another.
use Rattle.std.proofs.Common.{ℕ, ◌≡◌, ◌++◌, false, List, [], sym, subst}
use Rattle.std.specs.List.{All}
use Rattle.nsi_primitive.specs.Printable.{IsPrintableEvent}
use Rattle.nsi_primitive.specs.declared.entry.Event.{Event}
use Rattle.agent_node.specs.Kept.{Kept}
use Rattle.nsi_play.specs.Rounds.{Net, Homes, events_of}
use Rattle.quiet_rounds.specs.Bounded.{IsBounded}
use Rattle.quiet_rounds.specs.Laws.{StepsKeepBounds}
use Rattle.agent_threads.specs.Nets.{seats, EachIs, AreNet, AreSame}
use Rattle.agent_threads.specs.Made.{Drained}
use Rattle.agent_threads.specs.Bounds.{MovesOn}
use Rattle.agent_threads.specs.Leaving.{StayOwned, LeavesNet}
use Rattle.agent_threads.proofs.Same.{all_same, same_twice, still_of}
use Rattle.agent_threads.proofs.Draining.{drained_net, drained_same, drained_seen, drained_told}
use Rattle.agent_threads.proofs.Owning.{drained_owned}
use Rattle.agent_threads.proofs.Going.{go_on, go_none, go_then}

pub leaves_none : (to : ℕ) (ks : List Kept) (events : List Event) → AreNet ks → events_of (seats ks) ≡ [] → All IsPrintableEvent events → LeavesNet to ks ks events events
leaves_none to ks events net told printable = record {
  net = net;
  same = all_same ks;
  told = told;
  printable = printable;
  further = go_none to ks events;
  bounded = λ h. h;
  owned = λ t o routes r w. w;
}

pub leaves_then : (to : ℕ) (xs ys zs : List Kept) (before mids events : List Event) → LeavesNet to xs ys before mids → LeavesNet 0 ys zs mids events → LeavesNet to xs zs before events
leaves_then to xs ys zs before mids events a b = record {
  net = b.net;
  same = same_twice xs ys zs a.same b.same;
  told = b.told;
  printable = b.printable;
  further = go_then to xs ys zs before mids events a.same a.further b.further;
  bounded = λ h. b.bounded (a.bounded h);
  owned = λ t o routes r w. b.owned t (still_of t xs ys a.same o) routes r (a.owned t o routes r w);
}

-- what was made is told, and taken away
pub leaves_drained : (to : ℕ) (xs ys zs : List Kept) (before events : List Event) → AreNet xs → AreNet ys → AreSame xs ys → EachIs (MovesOn to) xs ys → (IsBounded (seats xs) → IsBounded (seats ys)) → StayOwned xs ys → StepsKeepBounds → Homes → EachIs Drained ys zs → events_of (seats xs) ≡ []
    → events ≡ before ++ events_of (seats ys) → All IsPrintableEvent events → LeavesNet to xs zs before events
leaves_drained to xs ys zs before events old net same moves bounded owned keep homes drained none told printable = record {
  net = drained_net ys zs drained net;
  same = same_twice xs ys zs same (drained_same ys zs drained);
  told = drained_told ys zs drained;
  printable = printable;
  further = go_on to xs ys zs before events moves (drained_seen false ys zs drained) none told;
  bounded = λ h. subst (λ (net : Net). IsBounded net) (sym (drained_seen false ys zs drained)) ((keep homes (seats ys) (bounded h)).told);
  owned = λ t o routes r w. drained_owned ys zs drained t (still_of t xs ys same o) routes r (owned t o routes r w);
}
