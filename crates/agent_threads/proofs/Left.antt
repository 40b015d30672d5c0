-- Who is left, and that no stop which was counted is lost.
use Rattle.std.proofs.Common.{ℕ, ◌≡◌, ◌≤◌, ◌+◌, ◌++◌, inl, inr, List, [], ◌∷◌, sym, ap, ap₂, subst, arith}
use Rattle.std.specs.Prelude.{Result, Ok, Err, OnOk, OnErr}
use Rattle.nsi_disk.specs.ShelfCounts.{Raised}
use Rattle.agent_node.specs.Kept.{Kept, IsSameAgent}
use Rattle.agent_node.specs.Reopening.{HasStopped}
use Rattle.agent_threads.specs.declared.fault.RunFault.{RunFault}
use Rattle.agent_threads.specs.Nets.{seats, numbers, EachIs, IsOneOf, IsAsPlanned, HasAsMany, IsUnstopped, AreSame}
use Rattle.agent_threads.specs.Made.{IsRestarted, PutsBack, LosesOne, ShelfCounts, AreLeft}
use Rattle.agent_threads.specs.Stopping.{GoesOnAgain, stops_among, planned_among, NoneCounted}
use Rattle.agent_threads.proofs.Places.{each_map}
use Rattle.agent_threads.proofs.Same.{same_agents, stops_up}
use Rattle.agent_threads.proofs.Causes.{among_same, among_twice}
use Rattle.agent_threads.proofs.Restarting.{one_front, among_put, among_more}

---- Counts

pub raised_none : (a : ℕ) → Raised a 0 a
raised_none a = inl (omega arith)

pub raised_twice : (a x b y c : ℕ) → Raised a x b → Raised b y c → Raised a (x + y) c
raised_twice a x b y c (inl p) (inl q) = inl (omega (arith, p, q))
raised_twice a x b y c (inl p) (inr q) = inr (omega (arith, p, q.0), omega (arith, p, q.1))
raised_twice a x b y c (inr p) (inl q) = inr (omega (arith, p.0), omega (arith, p.1, q))
raised_twice a x b y c (inr p) (inr q) = inr (omega (arith, p.0), omega (arith, p.1, q.1))

raised_still : (a b : ℕ) → b ≡ a → Raised a 0 b
raised_still a b e = inl (omega (arith, e))

stops_behind : (ks : List Kept) (k : Kept) → stops_among (ks ++ k ∷ []) ≡ stops_among ks + k.meter.stops
stops_behind [] k = omega arith
stops_behind (x ∷ xs) k = let rest = stops_behind xs k in omega (arith, rest)

planned_behind : (ks : List Kept) (k : Kept) → planned_among (ks ++ k ∷ []) ≡ planned_among ks + k.meter.planned
planned_behind [] k = omega arith
planned_behind (x ∷ xs) k = let rest = planned_behind xs k in omega (arith, rest)

as_planned : (xs ys : List Kept) → EachIs IsAsPlanned xs ys → planned_among ys ≡ planned_among xs
as_planned [] [] e = omega arith
as_planned [] (y ∷ ys) e = absurd e
as_planned (x ∷ xs) [] e = absurd e
as_planned (x ∷ xs) (y ∷ ys) e = ap₂ ◌+◌ e.0.planned (as_planned xs ys e.1)

unstopped_stops : (xs ys : List Kept) → EachIs IsUnstopped xs ys → stops_among ys ≡ stops_among xs
unstopped_stops [] [] e = omega arith
unstopped_stops [] (y ∷ ys) e = absurd e
unstopped_stops (x ∷ xs) [] e = absurd e
unstopped_stops (x ∷ xs) (y ∷ ys) e = ap₂ ◌+◌ e.0.stops (unstopped_stops xs ys e.1)

---- Calls

-- the same agents, with no fewer stops
pub left_agents : (xs ys : List Kept) (b c : ShelfCounts) → EachIs IsAsPlanned xs ys → stops_among xs ≤ stops_among ys → c.stops ≡ b.stops → AreLeft xs ys b c
left_agents xs ys b c p up e = record {
  among = among_same xs ys p;
  by = 0;
  raised = raised_still b.stops c.stops e;
  stops = omega (arith, up);
  planned = omega (arith, as_planned xs ys p);
}

pub left_same : (xs ys : List Kept) (b c : ShelfCounts) → AreSame xs ys → c.stops ≡ b.stops → AreLeft xs ys b c
left_same xs ys b c p e = left_agents xs ys b c (same_agents xs ys p) (stops_up xs ys p) e

unstopped_agent : (a b : Kept) → IsUnstopped a b → IsAsPlanned a b
unstopped_agent a b s = record { same = s.same; planned = s.planned }

pub left_unstopped : (xs ys : List Kept) (b c : ShelfCounts) → EachIs IsUnstopped xs ys → c.stops ≡ b.stops → AreLeft xs ys b c
left_unstopped xs ys b c p e = left_agents xs ys b c (each_map IsUnstopped IsAsPlanned xs ys unstopped_agent p) (omega (arith, unstopped_stops xs ys p)) e

-- nobody stands there
pub left_none : (xs ys : List Kept) (b c : ShelfCounts) → xs ≡ [] → ys ≡ [] → c.stops ≡ b.stops → AreLeft xs ys b c
left_none xs ys b c p q e = subst (λ (ks : List Kept). AreLeft ks ys b c) (sym p) (subst (λ (ks : List Kept). AreLeft [] ks b c) (sym q) (left_agents [] [] b c tt (omega arith) e))

pub left_twice : (xs ys zs : List Kept) (b c d : ShelfCounts) → AreLeft xs ys b c → AreLeft ys zs c d → AreLeft xs zs b d
left_twice xs ys zs b c d p q = record {
  among = among_twice xs ys zs p.among q.among;
  by = p.by + q.by;
  raised = raised_twice b.stops p.by c.stops q.by d.stops p.raised q.raised;
  stops = let m = p.stops in let n = q.stops in omega (arith, m, n);
  planned = let m = p.planned in let n = q.planned in omega (arith, m, n);
}

---- Restarts

-- one more stands behind them
pub left_more : (ks ms : List Kept) (k : Kept) (olds news : List Kept) (b c : ShelfCounts) → olds ≡ ks ++ k ∷ [] → news ≡ ms ++ k ∷ [] → AreLeft ks ms b c → AreLeft olds news b c
left_more ks ms k olds news b c e f p = record {
  among = among_more ks ms k olds news e f p.among;
  by = p.by;
  raised = p.raised;
  stops = let m = p.stops in omega (arith, m, ap stops_among e, ap stops_among f, stops_behind ks k, stops_behind ms k);
  planned = let m = p.planned in omega (arith, m, ap planned_among e, ap planned_among f, planned_behind ks k, planned_behind ms k);
}

-- it was put back with no fewer stops than it had
left_put : (R : Kept → Kept → Type 0) (ks : List Kept) (k : Kept) (olds news : List Kept) (b c : ShelfCounts) → olds ≡ ks ++ k ∷ [] → ((n : Kept) → R k n → HasAsMany k n) → PutsBack R k ks news → c.stops ≡ b.stops → AreLeft olds news b c
left_put R ks k olds news b c e many p same = record {
  among = among_put R ks k olds news e (λ n r. (many n r).same.number) p;
  by = 0;
  raised = raised_still b.stops c.stops same;
  stops = let m = (many p.0 p.2).stops in omega (arith, m, ap stops_among e, ap stops_among p.1, stops_behind ks k, stops_behind ks p.0);
  planned = let m = (many p.0 p.2).planned in omega (arith, m, ap planned_among e, ap planned_among p.1, planned_behind ks k, planned_behind ks p.0);
}

left_lost : (ks : List Kept) (k : Kept) (olds news : List Kept) (b c : ShelfCounts) → olds ≡ ks ++ k ∷ [] → LosesOne k ks news b c → AreLeft olds news b c
left_lost ks k olds news b c e (inr p) = left_put HasAsMany ks k olds news b c e (λ n s. s) p.0 p.1
left_lost ks k olds news b c e (inl p) = record {
  among = λ a h. subst (λ (xs : List Kept). IsOneOf a (numbers (seats xs))) (sym e) (one_front a ks k (subst (λ (ys : List Kept). IsOneOf a (numbers (seats ys))) p.0 h));
  by = p.1.0;
  raised = p.1.2;
  stops = let least = p.1.1 in omega (arith, least, ap stops_among e, ap stops_among p.0, stops_behind ks k);
  planned = omega (arith, ap planned_among e, ap planned_among p.0, planned_behind ks k);
}

read_many : (k n : Kept) (tries : ℕ) → IsSameAgent k n → HasStopped tries k.meter n.meter → HasAsMany k n
read_many k n tries s c = let more = c.stops in record { same = s; stops = omega (arith, more); planned = c.planned }

-- whether it was restarted or not
pub left_restarted : {T : Type 0} (r : Result T RunFault) (ks : List Kept) (k : Kept) (olds news : List Kept) (b c : ShelfCounts) → olds ≡ ks ++ k ∷ [] → OnOk r (c.stops ≡ b.stops) → OnOk r (PutsBack IsRestarted k ks news) → OnErr r (LosesOne k ks news b c) → AreLeft olds news b c
left_restarted (Ok x) ks k olds news b c e same p q = left_put IsRestarted ks k olds news b c e (λ n s. read_many k n s.reread.tries s.reread.same s.reread.counts) p same
left_restarted (Err x) ks k olds news b c e same p q = left_lost ks k olds news b c e q

-- or goes on behind a stop or not
pub left_again : {T : Type 0} (r : Result T RunFault) (ks : List Kept) (k : Kept) (olds news : List Kept) (b c : ShelfCounts) → olds ≡ ks ++ k ∷ [] → OnOk r (c.stops ≡ b.stops) → OnOk r (PutsBack GoesOnAgain k ks news) → OnErr r (LosesOne k ks news b c) → AreLeft olds news b c
left_again (Ok x) ks k olds news b c e same p q = left_put GoesOnAgain ks k olds news b c e (λ n s. read_many k n s.reopened.tries s.reopened.same s.reopened.counts) p same
left_again (Err x) ks k olds news b c e same p q = left_lost ks k olds news b c e q

---- Where none was counted

-- none was before what failed
pub none_counted : (olds mids news : List Kept) (b c d : ShelfCounts) → AreSame olds mids → c.stops ≡ b.stops → AreLeft mids news c d → NoneCounted olds news b d → stops_among mids ≡ stops_among olds
none_counted olds mids news b c d same e left none =
    let up = stops_up olds mids same in
    let more = left.stops in
    let all = none left.by (subst (λ (n : ℕ). Raised n left.by d.stops) e left.raised) in
    omega (arith, up, more, all)

-- nor in what failed
pub none_later : (olds mids news : List Kept) (b c d : ShelfCounts) → AreSame olds mids → c.stops ≡ b.stops → NoneCounted olds news b d → NoneCounted mids news c d
none_later olds mids news b c d same e none by raised =
    let up = stops_up olds mids same in
    let all = none by (subst (λ (n : ℕ). Raised n by d.stops) e raised) in
    omega (arith, up, all)

-- nor behind what was done
pub none_still : (olds news : List Kept) (b d : ShelfCounts) → AreSame olds news → d.stops ≡ b.stops → NoneCounted olds news b d → stops_among news ≡ stops_among olds
none_still olds news b d same e none = let up = stops_up olds news same in let all = none 0 (raised_still b.stops d.stops e) in omega (arith, up, all)
