-- Agents that were begun one after another.
use Rattle.std.proofs.Common.{ℕ, suc, ◌+◌, ◌<◌, ◌≤◌, ◌≡◌, ◌==◌, Bool, true, false, cond, nat_lt, filter, List, [], ◌∷◌, ◌++◌, refl, sym, ap, ap₂, ◌∙◌, subst, arith, length, map, add-one}
use Rattle.std.specs.Prelude.{sum}
use Rattle.std.proofs.lemmas.List.Sums.{sum_by-cons}
use Rattle.std.specs.List.{All, range_with_len}
use Rattle.stp_topology.specs.declared.network.Network.{Network}
use Rattle.stp_topology.specs.Network.{name_of}
use Rattle.agent_link.specs.Link.{Half, OutHalf}
use Rattle.agent_node.specs.Passing.{Plug, others, plug_to, crossed}
use Rattle.agent_node.specs.Seat.{Seat}
use Rattle.agent_link.specs.Plans.{Plan}
use Rattle.agent_node.specs.Openings.{Plans, opened, others_of, seat_of}
use Rattle.agent_node.specs.Kept.{Kept, plug, plugs_of, AreLinked, IsSameAgent}
use Rattle.agent_threads.specs.Nets.{seats, numbers, AreOf, AreUsable, IsAbsent, AreApart, IsLinkedToAll, AreWired, EachIs}
use Rattle.net_run.specs.declared.joints.Joint.{Joint}
use Rattle.net_run.specs.Joints.{wires, ArePaired, IsPlannedJoint, ArePlannable, AreOwn}
use Rattle.nsi_script.specs.declared.script.StopLine.{StopLine}
use Rattle.net_run.specs.Begun.{IsBegun, IsFresh, AreBegun, AreListed, AreOpened, faults_among, stops_among, planned_among, stops_of, is_of, stop_in}
use Rattle.nsi_play.specs.Play.{untold_net}

pub begun_of : (t : Network) (lines : List StopLine) (a most n : ℕ) (outs : List OutHalf) (incs : List Half) (rest left all : List Joint) (k : Kept) → AreOwn t a outs incs rest left → ((b : ℕ) → wires a b left ≡ wires a b all)
    → ((plans : Plans) → All (IsPlannedJoint plans) all → All (IsPlannedJoint plans) left) → ArePlannable all → most ≤ length (stops_of lines a)
    → IsFresh t a outs (plugs_of (others_of t a) outs incs) most n k → IsBegun t all lines a n k
begun_of t lines a most n outs incs rest left all k o w behind some few f = record {
  number = ap (λ (s : Seat). s.number) (f.seat some.0 (o.planned some.0 (behind some.0 some.1)));
  seat = λ plans p. f.seat plans (o.planned plans (behind plans p));
  network = f.network;
  plugs = λ b. ap (λ (ps : List Plug). plug_to b ps) f.plugs ∙ (o.own b ∙ w b);
  fault = f.fault;
  faults = f.faults;
  stops = f.stops;
  planned = let low = f.planned in omega (arith, low, few);
  alone = o.alone;
}

pub begun_more : (t : Network) (all : List Joint) (lines : List StopLine) (a : ℕ) (ns : List ℕ) (ks : List Kept) (n : ℕ) (k : Kept) → AreBegun t all lines a ns ks → IsBegun t all lines (a + length ks) n k → AreBegun t all lines a (ns ++ n ∷ []) (ks ++ k ∷ [])
begun_more t all lines a [] [] n k bs b = (subst (λ (m : ℕ). IsBegun t all lines m n k) (let e : a + 0 ≡ a = omega arith in e) b, tt)
begun_more t all lines a [] (x ∷ xs) n k bs b = absurd bs
begun_more t all lines a (m ∷ ms) [] n k bs b = absurd bs
begun_more t all lines a (m ∷ ms) (x ∷ xs) n k bs b = (
  bs.0,
  begun_more t all lines (suc a) ms xs n k bs.1 (subst (λ (i : ℕ). IsBegun t all lines i n k) (let e : a + suc (length xs) ≡ suc a + length xs = omega arith in e) b),
)

pub number_is : (t : Network) (all : List Joint) (lines : List StopLine) (a n : ℕ) (k : Kept) → IsBegun t all lines a n k → k.seat.number ≡ a
number_is t all lines a n k b = b.number

---- How many stops are planned

-- how many lines are of agents from a number on
abbrev above : List StopLine → ℕ → ℕ
above [] a = 0
above (l ∷ ls) a = cond (nat_lt l.agent a) 0 1 + above ls a

above_few : (lines : List StopLine) (a : ℕ) → above lines a ≤ length lines
above_few [] a = omega arith
above_few (l ∷ ls) a = by (nat_lt l.agent a) (above_few ls a)
  where
    by : (z : Bool) → above ls a ≤ length ls → cond z 0 1 + above ls a ≤ suc (length ls)
    by true h = omega (arith, h)
    by false h = omega (arith, h)

own_line : (l : StopLine) (ls : List StopLine) (a : ℕ) → length (stops_of (l ∷ ls) a) ≡ cond (l.agent == a) 1 0 + length (stops_of ls a)
own_line l ls a = by (l.agent == a)
  where
    by : (z : Bool) → length (map stop_in (cond z (l ∷ filter (is_of a) ls) (filter (is_of a) ls))) ≡ cond z 1 0 + length (stops_of ls a)
    by true = omega arith
    by false = omega arith

one_line : (n a : ℕ) → cond (n == a) 1 0 + cond (nat_lt n (suc a)) 0 1 ≤ cond (nat_lt n a) 0 1
one_line n a = grind arith

own_lines : (lines : List StopLine) (a : ℕ) → length (stops_of lines a) + above lines (suc a) ≤ above lines a
own_lines [] a = omega arith
own_lines (l ∷ ls) a = let rest = own_lines ls a in let one = one_line l.agent a in let own = own_line l ls a in omega (arith, rest, one, own)

planned_few : (t : Network) (all : List Joint) (lines : List StopLine) (a : ℕ) (ns : List ℕ) (ks : List Kept) → AreBegun t all lines a ns ks → planned_among ks ≤ above lines a
planned_few t all lines a [] [] bs = omega arith
planned_few t all lines a [] (k ∷ ks) bs = absurd bs
planned_few t all lines a (n ∷ ns) [] bs = absurd bs
planned_few t all lines a (n ∷ ns) (k ∷ ks) bs =
    let rest = planned_few t all lines (suc a) ns ks bs.1 in
    let one = bs.0.planned in
    let own = own_lines lines a in
    omega (arith, rest, one, own)

---- All of them

module _ (t : Network) (all : List Joint) (lines : List StopLine) where
  seats_are : (plans : Plans) (a : ℕ) (ns : List ℕ) (ks : List Kept) → All (IsPlannedJoint plans) all → AreBegun t all lines a ns ks → seats ks ≡ untold_net (map (seat_of t plans) (range_with_len a (length ks)))
  seats_are plans a [] [] p bs = refl
  seats_are plans a [] (k ∷ ks) p bs = absurd bs
  seats_are plans a (n ∷ ns) [] p bs = absurd bs
  seats_are plans a (n ∷ ns) (k ∷ ks) p bs = ap₂ (λ (s : Seat) (ss : List Seat). s ∷ ss) (bs.0.seat plans p) (seats_are plans (suc a) ns ks p bs.1 ∙ ap (λ i. untold_net (map (seat_of t plans) (range_with_len i (length ks)))) (sym (add-one a)))

  of_are : (a : ℕ) (ns : List ℕ) (ks : List Kept) → AreBegun t all lines a ns ks → AreOf t ks
  of_are a [] [] bs = tt
  of_are a [] (k ∷ ks) bs = absurd bs
  of_are a (n ∷ ns) [] bs = absurd bs
  of_are a (n ∷ ns) (k ∷ ks) bs = (bs.0.network, of_are (suc a) ns ks bs.1)

  usable_are : (a : ℕ) (ns : List ℕ) (ks : List Kept) → AreBegun t all lines a ns ks → AreUsable ks
  usable_are a [] [] bs = tt
  usable_are a [] (k ∷ ks) bs = absurd bs
  usable_are a (n ∷ ns) [] bs = absurd bs
  usable_are a (n ∷ ns) (k ∷ ks) bs = (bs.0.fault, usable_are (suc a) ns ks bs.1)

  none_failed : (a : ℕ) (ns : List ℕ) (ks : List Kept) → AreBegun t all lines a ns ks → faults_among ks ≡ 0
  none_failed a [] [] bs = refl
  none_failed a [] (k ∷ ks) bs = absurd bs
  none_failed a (n ∷ ns) [] bs = absurd bs
  none_failed a (n ∷ ns) (k ∷ ks) bs = omega (arith, bs.0.faults, none_failed (suc a) ns ks bs.1)

  have_stopped : (a : ℕ) (ns : List ℕ) (ks : List Kept) → AreBegun t all lines a ns ks → sum ns ≤ stops_among ks
  have_stopped a [] [] bs = omega arith
  have_stopped a [] (k ∷ ks) bs = absurd bs
  have_stopped a (n ∷ ns) [] bs = absurd bs
  have_stopped a (n ∷ ns) (k ∷ ks) bs = let one = bs.0.stops in let all = sum_by-cons (λ (m : ℕ). m) n ns in omega (arith, one, all, have_stopped (suc a) ns ks bs.1)

  later : (m a : ℕ) (ns : List ℕ) (ks : List Kept) → m < a → AreBegun t all lines a ns ks → IsAbsent m (numbers (seats ks))
  later m a [] [] h bs = tt
  later m a [] (k ∷ ks) h bs = absurd bs
  later m a (n ∷ ns) [] h bs = absurd bs
  later m a (n ∷ ns) (k ∷ ks) h bs = (λ q. absurd (omega (arith, h, q, number_is t all lines a n k bs.0)), later m (suc a) ns ks (omega (arith, h)) bs.1)

  others_are : (plans : ℕ → Plan) (ns : List ℕ) → others (map (opened plans) ns) ≡ ns
  others_are plans [] = refl
  others_are plans (n ∷ ns) = ap (λ ms. n ∷ ms) (others_are plans ns)

  apart_are : (plans : Plans) (a : ℕ) (ns : List ℕ) (ks : List Kept) → All (IsPlannedJoint plans) all → AreBegun t all lines a ns ks → AreApart (seats ks)
  apart_are plans a [] [] p bs = tt
  apart_are plans a [] (k ∷ ks) p bs = absurd bs
  apart_are plans a (n ∷ ns) [] p bs = absurd bs
  apart_are plans a (n ∷ ns) (k ∷ ks) p bs = (
    subst (λ (i : ℕ). IsAbsent i (numbers (seats ks))) (sym (number_is t all lines a n k bs.0)) (later a (suc a) ns ks (omega arith) bs.1),
    (
      subst (λ (s : Seat). IsAbsent s.number (others s.doors)) (sym (bs.0.seat plans p)) (subst (λ (is : List ℕ). IsAbsent a is) (sym (others_are (plans a) (others_of t a))) bs.0.alone),
      apart_are plans (suc a) ns ks p bs.1,
    ),
  )

  linked : (a m b n : ℕ) (j k : Kept) → ArePaired all → IsBegun t all lines a m j → IsBegun t all lines b n k → AreLinked j k
  linked a m b n j k p x y =
      ap (plug j) (number_is t all lines b n k y)
      ∙ (x.plugs b ∙ (p a b ∙ ap crossed (sym (y.plugs a) ∙ ap (plug k) (sym (number_is t all lines a m j x)))))

  linked_all : (a m b : ℕ) (ns : List ℕ) (j : Kept) (ks : List Kept) → ArePaired all → IsBegun t all lines a m j → AreBegun t all lines b ns ks → IsLinkedToAll j ks
  linked_all a m b [] j [] p x bs = tt
  linked_all a m b [] j (k ∷ ks) p x bs = absurd bs
  linked_all a m b (n ∷ ns) j [] p x bs = absurd bs
  linked_all a m b (n ∷ ns) j (k ∷ ks) p x bs = (linked a m b n j k p x bs.0, linked_all a m (suc b) ns j ks p x bs.1)

  wired_are : (a : ℕ) (ns : List ℕ) (ks : List Kept) → ArePaired all → AreBegun t all lines a ns ks → AreWired ks
  wired_are a [] [] p bs = tt
  wired_are a [] (k ∷ ks) p bs = absurd bs
  wired_are a (n ∷ ns) [] p bs = absurd bs
  wired_are a (n ∷ ns) (k ∷ ks) p bs = (linked_all a n (suc a) ns k ks p bs.0 bs.1, wired_are (suc a) ns ks p bs.1)

  as_many : (a : ℕ) (ns : List ℕ) (ks : List Kept) → AreBegun t all lines a ns ks → length ks ≡ length ns
  as_many a [] [] bs = refl
  as_many a [] (k ∷ ks) bs = absurd bs
  as_many a (n ∷ ns) [] bs = absurd bs
  as_many a (n ∷ ns) (k ∷ ks) bs = omega (arith, as_many (suc a) ns ks bs.1)

  pub opened_are : (plans : Plans) (ns : List ℕ) (ks : List Kept) → ArePaired all → All (IsPlannedJoint plans) all → AreBegun t all lines 0 ns ks → length ns ≡ length t.agents → AreOpened t plans lines ns ks
  opened_are plans ns ks p q bs e = record {
    seats = seats_are plans 0 ns ks q bs ∙ ap (λ i. untold_net (map (seat_of t plans) (range_with_len 0 i))) (as_many 0 ns ks bs ∙ e);
    net = record { usable = usable_are 0 ns ks bs; apart = apart_are plans 0 ns ks q bs; wired = wired_are 0 ns ks p bs };
    of = of_are 0 ns ks bs;
    all = e;
    faults = none_failed 0 ns ks bs;
    stops = have_stopped 0 ns ks bs;
    planned = let few = planned_few t all lines 0 ns ks bs in let most = above_few lines 0 in omega (arith, few, most);
  }

---- Names

pub listed_still : (old new : List ℕ → Bool) (t : Network) (ks : List Kept) → ((n : List ℕ) → old n ≡ true → new n ≡ true) → AreListed old t ks → AreListed new t ks
listed_still old new t [] s l = tt
listed_still old new t (k ∷ ks) s l = ((l.0.0, s (name_of t k.seat.number) l.0.1), listed_still old new t ks s l.1)

pub listed_more : (listed : List ℕ → Bool) (t : Network) (ks : List Kept) (k : Kept) → AreListed listed t ks → k.seat.number < length t.agents → listed (name_of t k.seat.number) ≡ true → AreListed listed t (ks ++ k ∷ [])
listed_more listed t [] k l h e = ((h, e), tt)
listed_more listed t (x ∷ xs) k l h e = (l.0, listed_more listed t xs k l.1 h e)

pub listed_same : (listed : List ℕ → Bool) (t : Network) (xs ys : List Kept) → EachIs IsSameAgent xs ys → AreListed listed t xs → AreListed listed t ys
listed_same listed t [] [] s l = tt
listed_same listed t [] (y ∷ ys) s l = absurd s
listed_same listed t (x ∷ xs) [] s l = absurd s
listed_same listed t (x ∷ xs) (y ∷ ys) s l = (
  subst (λ (n : ℕ). (n < length t.agents) × (listed (name_of t n) ≡ true)) (sym s.0.number) l.0,
  listed_same listed t xs ys s.1 l.1,
)
