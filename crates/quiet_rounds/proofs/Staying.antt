-- What happens to the agents of a play keeps their net bounded, and it begins so.
use Rattle.std.proofs.Common.{ℕ, ◌+◌, ◌≡◌, ◌≢◌, ◌==◌, Bool, true, false, cond, List, [], ◌∷◌, Option, Some, None, refl, sym, ap, ◌∙◌, subst, arith, length, map, zero-le}
use Rattle.std.specs.List.{All, AllPairs, Contains, range_with_len}
use Rattle.std.proofs.lemmas.List.Elements.{All-nil, All-cons, All-head, All-tail, All-map, All-filter, All-contains_itself}
use Rattle.std.proofs.lemmas.List.FromFn.{get_or-range_with_len, length-range_with_len}
use Rattle.std.proofs.lemmas.List.Kept.{AllPairs-filter}
use Rattle.nsi_primitive.specs.declared.entry.Entry.{Entry}
use Rattle.nsi_primitive.specs.declared.entry.Input.{Input}
use Rattle.stp_topology.specs.declared.network.Network.{Network}
use Rattle.nsi_script.specs.declared.script.Act.{Act}
use Rattle.nsi_agent.specs.Homes.{Home}
use Rattle.nsi_agent.specs.Told.{told}
use Rattle.agent_node.specs.Doors.{Door}
use Rattle.agent_node.specs.Passing.{HasMet, others}
use Rattle.agent_node.specs.Seat.{Seat, now_at, enters}
use Rattle.agent_node.specs.Acts.{overdue, ticked, asked, forced}
use Rattle.agent_node.specs.Restarts.{drops, reads, reads_past, restarted}
use Rattle.agent_link.specs.Plans.{Plan}
use Rattle.agent_node.specs.Openings.{agents, are_linked, others_of, opened, seat_of}
use Rattle.nsi_play.specs.Openings.{Plans, opening}
use Rattle.nsi_play.specs.Play.{does, acted, ticked_in}
use Rattle.nsi_play.specs.Rounds.{Net, Homes, tells, emptied}
use Rattle.quiet_rounds.specs.Bounded.{numbers, IsFew, LeadsTo, IsBoundedIn, IsBounded}
use Rattle.quiet_rounds.specs.Laws.{StepsKeepBounds, OpeningsAreBounded}
use Rattle.quiet_rounds.proofs.Bounding.{round_bounded}
use Rattle.quiet_rounds.proofs.Ends.{HasSameEnds, bare, same_ends, same_enters, bare_said, bounded_same}

---- Ticks and acts

same_ticked : (h : Home) (second : ℕ) (s : Seat) → HasSameEnds s (ticked h second s)
unfolding ticked enters
same_ticked h second s = record { number = refl; ends = bare_said h.agent_of (overdue s) s.doors }

pub same_if : (b : Bool) (s u : Seat) → HasSameEnds s u → HasSameEnds s (cond b u s)
same_if true s u h = h
same_if false s u h = same_ends s

bare_dropped : (ds : List Door) → map bare (map drops ds) ≡ map bare ds
bare_dropped [] = refl
bare_dropped (d ∷ ds) = ap (λ (es : List Door). bare d ∷ es) (bare_dropped ds)

same_reads : (h : Home) (tries : ℕ) (es : List Entry) (s : Seat) → HasSameEnds s (reads h tries es s)
unfolding reads
same_reads h tries es s = record { number = refl; ends = bare_said h.agent_of (told h es).state.base.waiting (map drops s.doors) ∙ bare_dropped s.doors }

pub same_past : (o : Option (List Entry)) (h : Home) (tries : ℕ) (s : Seat) → HasSameEnds s (reads_past o h tries s)
same_past None h tries s = same_ends s
same_past (Some es) h tries s = same_reads h tries es s

pub same_does : (act : Act) (count : ℕ) (homes : Homes) (s : Seat) → HasSameEnds s (does act count homes s)
same_does (Act.Ask a ask) count homes s = same_if (s.number == a) s (asked (homes a) count ask s) (same_enters (homes a) (now_at s (Input.Ask count ask)) s)
same_does (Act.Force a n) count homes s = same_if (s.number == a) s (forced (homes a) n s) (same_enters (homes a) (now_at s (Input.Force n)) s)
same_does (Act.Restart a) count homes s = same_if (s.number == a) s (restarted (homes a) s) (same_past s.past (homes a) 0 s)

same_tells : (s : Seat) → HasSameEnds s (tells s)
same_tells s = record { number = refl; ends = refl }

---- All agents

same_numbers : (f : Seat → Seat) → ((s : Seat) → HasSameEnds s (f s)) → (net : Net) → numbers (map f net) ≡ numbers net
same_numbers f same [] = refl
same_numbers f same (s ∷ ss) = ap (λ n. n ∷ numbers (map f ss)) (same s).number ∙ ap (λ ns. s.number ∷ ns) (same_numbers f same ss)

all_same : (ns : List ℕ) (f : Seat → Seat) → ((s : Seat) → HasSameEnds s (f s)) → (net : Net) → All (IsBoundedIn ns) net → All (IsBoundedIn ns) (map f net)
all_same ns f same [] h = All-nil (IsBoundedIn ns)
all_same ns f same (s ∷ ss) h =
    All-cons (IsBoundedIn ns) (f s) (map f ss) (bounded_same ns s (f s) (same s) (All-head (IsBoundedIn ns) s ss h)) (all_same ns f same ss (All-tail (IsBoundedIn ns) s ss h))

pub bounded_by : (f : Seat → Seat) → ((s : Seat) → HasSameEnds s (f s)) → (net : Net) → IsBounded net → IsBounded (map f net)
bounded_by f same net h = subst (λ ns. All (IsBoundedIn ns) (map f net)) (sym (same_numbers f same net)) (all_same (numbers net) f same net h)

pub ticks_bounded : (second : ℕ) (homes : Homes) (net : Net) → IsBounded net → IsBounded (map (ticked_in second homes) net)
ticks_bounded second homes net h = bounded_by (ticked_in second homes) (λ s. same_ticked (homes s.number) second s) net h

pub act_bounded : (act : Act) (count : ℕ) (homes : Homes) (net : Net) → IsBounded net → IsBounded (acted act count homes net)
act_bounded act count homes net h = bounded_by (does act count homes) (same_does act count homes) net h

pub told_bounded : (net : Net) → IsBounded net → IsBounded (emptied net)
told_bounded net h = bounded_by tells same_tells net h

pub steps_keep_bounds : StepsKeepBounds
steps_keep_bounds homes net h = record {
  ticks = λ second. ticks_bounded second homes net h;
  acts = λ act count. act_bounded act count homes net h;
  round = round_bounded homes net h;
  told = told_bounded net h;
}

---- Before anything has happened

opened_others : (plans : ℕ → Plan) (bs : List ℕ) → others (map (opened plans) bs) ≡ bs
opened_others plans [] = refl
opened_others plans (b ∷ bs) = ap (λ ns. b ∷ ns) (opened_others plans bs)

opened_met : (plans : ℕ → Plan) (bs : List ℕ) → All HasMet (map (opened plans) bs)
opened_met plans [] = All-nil HasMet
opened_met plans (b ∷ bs) = All-cons HasMet (opened plans b) (map (opened plans) bs) refl (opened_met plans bs)

opened_few : (plans : ℕ → Plan) (bs : List ℕ) → All IsFew (map (opened plans) bs)
opened_few plans [] = All-nil IsFew
opened_few plans (b ∷ bs) = All-cons IsFew (opened plans b) (map (opened plans) bs) zero-le (opened_few plans bs)

all_apart : (n : ℕ) → AllPairs (λ a b. b ≢ a) (range_with_len 0 n)
all_apart n i j d lt inside e =
    let in_j = inside in
    let size = length-range_with_len 0 n in
    let at_i = get_or-range_with_len 0 n i d (omega (arith, lt, in_j, size)) in
    let at_j = get_or-range_with_len 0 n j d (omega (arith, in_j, size)) in
    let same : 0 + j ≡ 0 + i = sym at_j ∙ (e ∙ at_i) in
    omega (arith, lt, same)

seat_opened : (t : Network) (plans : Plans) (a : ℕ) → IsBoundedIn (agents t) (seat_of t plans a)
seat_opened t plans a = record {
  met = opened_met (plans a) (others_of t a);
  few = opened_few (plans a) (others_of t a);
  apart = subst (AllPairs (λ a b. b ≢ a)) (sym (opened_others (plans a) (others_of t a))) (AllPairs-filter (λ a b. b ≢ a) (are_linked t a) (agents t) (all_apart (length t.agents)));
  lead = All-map (LeadsTo (agents t)) (opened (plans a)) (others_of t a) (All-filter (are_linked t a) (Contains (agents t)) (agents t) (All-contains_itself (agents t)));
}

all_opened : (t : Network) (plans : Plans) (ns : List ℕ) → All (IsBoundedIn (agents t)) (map (seat_of t plans) ns)
all_opened t plans [] = All-nil (IsBoundedIn (agents t))
all_opened t plans (n ∷ ns) = All-cons (IsBoundedIn (agents t)) (seat_of t plans n) (map (seat_of t plans) ns) (seat_opened t plans n) (all_opened t plans ns)

opened_numbers : (t : Network) (plans : Plans) (ns : List ℕ) → numbers (map (seat_of t plans) ns) ≡ ns
opened_numbers t plans [] = refl
opened_numbers t plans (n ∷ ns) = ap (λ ms. n ∷ ms) (opened_numbers t plans ns)

pub openings_are_bounded : OpeningsAreBounded
openings_are_bounded t plans = subst (λ ns. All (IsBoundedIn ns) (opening t plans)) (sym (opened_numbers t plans (agents t))) (all_opened t plans (agents t))
