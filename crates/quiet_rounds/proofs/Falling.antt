-- Less is left to do behind a round in which nothing happens.
use Rattle.std.proofs.Common.{ℕ, ◌*◌, ◌+◌, zero, suc, ◌-◌, ◌<◌, ◌≤◌, ◌≡◌, ◌==◌, ◌&&◌, true, false, List, [], ◌∷◌, ◌++◌, is_none, refl, sym, ap, ◌∙◌, subst, arith, length, get_or, map, eq-eqb, zero-le, le_refl}
use Rattle.std.specs.List.{All}
use Rattle.std.proofs.lemmas.List.Elements.{All-nil, All-cons, All-head, All-tail, All-map}
use Rattle.nsi_primitive.specs.declared.entry.Event.{Event}
use Rattle.nsi_primitive.specs.declared.message.Parcel.{Parcel}
use Rattle.nsi_agent.specs.Steps.{work_of}
use Rattle.agent_node.specs.Doors.{Door}
use Rattle.agent_node.specs.Passing.{HasMet, is_idle, all_idle, lying}
use Rattle.agent_node.specs.Seat.{Seat}
use Rattle.agent_node.specs.Acts.{is_quiet}
use Rattle.agent_node.specs.Turns.{cleared}
use Rattle.agent_node.proofs.Growing.{count}
use Rattle.nsi_play.specs.Rounds.{Net, Homes, turned_in, turned_all, meets_each, meets_all, round, events_of, is_quiet_in, all_quiet}
use Rattle.quiet_rounds.specs.Bounded.{numbers, IsFew, IsBoundedIn, IsBounded}
use Rattle.quiet_rounds.specs.Left.{last_message, last_queued, last_come, queued, come, greatest, one_if_any, weight}
use Rattle.quiet_rounds.specs.Laws.{LeftFalls}
use Rattle.quiet_rounds.proofs.Greatest.{HasAll, AtDoors, IsAtMost, covers, least}
use Rattle.quiet_rounds.proofs.Meeting.{each_events, all_keep, all_know}
use Rattle.quiet_rounds.proofs.Bounding.{round_is}
use Rattle.quiet_rounds.proofs.Calm.{passes, IsCalm, turn_calm, doors_calm}
use Rattle.quiet_rounds.proofs.Parcels.{last_falls, last_out, queue_grows, queue_falls, out_few}

---- Nothing happens to any agent

abbrev Rests : Homes → Seat → Type 0
Rests homes s = count (turned_in homes s) ≡ 0

none_apart : (es fs : List Event) → es ++ fs ≡ [] → (length es ≡ 0) × (fs ≡ [])
none_apart [] fs e = (refl, e)
none_apart (x ∷ es) fs e = absurd (let n = ap length e in omega (arith, n))

none_happens : (homes : Homes) (os net : Net) → events_of (map (meets_all os) (turned_all homes net)) ≡ [] → All (Rests homes) net
none_happens homes os [] e = All-nil (Rests homes)
none_happens homes os (s ∷ ss) e =
    let u : Seat = turned_in homes s in
    let p = none_apart (meets_each u os).events (events_of (map (meets_all os) (turned_all homes ss))) e in
    All-cons (Rests homes) s ss (sym (ap length (each_events u os)) ∙ p.0) (none_happens homes os ss p.1)

calm_at : (homes : Homes) (s : Seat) → Rests homes s → IsCalm (homes s.number) (lying s.doors) (cleared s)
calm_at homes s e = turn_calm (homes s.number) (lying s.doors) (cleared s) e

seat_passed : (P : Door → Type 0) (homes : Homes) (ns : List ℕ) (s : Seat) → IsBoundedIn ns s → Rests homes s → All (λ d. P (passes d)) s.doors → All P (turned_in homes s).doors
seat_passed P homes ns s b r h = subst (All P) (sym (doors_calm (homes s.number) s b.apart (calm_at homes s r))) (All-map P passes s.doors h)

passed : (P : Door → Type 0) (homes : Homes) (ns : List ℕ) (net : Net) → All (IsBoundedIn ns) net → All (Rests homes) net → AtDoors (λ d. P (passes d)) net → AtDoors P (turned_all homes net)
passed P homes ns [] b r h = All-nil (HasAll P)
passed P homes ns (s ∷ ss) b r h =
    All-cons (HasAll P) (turned_in homes s) (turned_all homes ss)
    (seat_passed P homes ns s (All-head (IsBoundedIn ns) s ss b) (All-head (Rests homes) s ss r) (All-head (HasAll (λ d. P (passes d))) s ss h))
    (passed P homes ns ss (All-tail (IsBoundedIn ns) s ss b) (All-tail (Rests homes) s ss r) (All-tail (HasAll (λ d. P (passes d))) s ss h))

at_each : (P Q : Door → Type 0) (ns : List ℕ) (net : Net) → ((d : Door) → HasMet d → IsFew d → P d → Q d) → All (IsBoundedIn ns) net → AtDoors P net → AtDoors Q net
at_each P Q ns net step b h = λ i s lt k d inside. step (get_or (get_or net i s).doors k d) ((b i s lt).met k d inside) ((b i s lt).few k d inside) (h i s lt k d inside)

---- What is queued and what lies at the doors then

-- a round in which nothing happens
pub record CalmRound (homes : Homes) (net : Net) : Type 0 where
  pub bounded : IsBounded net
  pub rests : All (Rests homes) net

queues_then : (P : List Parcel → Type 0) (homes : Homes) (net : Net) → CalmRound homes net → AtDoors (λ d. P (passes d).queue) net → AtDoors (λ d. P d.queue) (round homes net)
queues_then P homes net c h =
    subst (AtDoors (λ d. P d.queue)) (sym (round_is homes net))
    (all_keep (λ d. P d.queue) (turned_all homes net) (turned_all homes net) (λ ps d k. k) (passed (λ d. P d.queue) homes (numbers net) net c.bounded c.rests h))

known_then : (P : List Parcel → Type 0) → P [] → (homes : Homes) (net : Net) → CalmRound homes net → AtDoors (λ d. P (passes d).out) net → AtDoors (λ d. P d.inc) (round homes net)
known_then P none homes net c h =
    subst (AtDoors (λ d. P d.inc)) (sym (round_is homes net))
    (all_know P none (turned_all homes net) (turned_all homes net) (passed (λ d. P d.out) homes (numbers net) net c.bounded c.rests h)
    (passed (λ d. P d.inc) homes (numbers net) net c.bounded c.rests (λ i s lt k d inside. none)))

-- two facts at each door
abbrev BothAtMost : (Door → ℕ) → ℕ → (Door → ℕ) → ℕ → Door → Type 0
BothAtMost f n g m d = (f d ≤ n) × (g d ≤ m)

both : (f g : Door → ℕ) (n m : ℕ) (net : Net) → AtDoors (IsAtMost f n) net → AtDoors (IsAtMost g m) net → AtDoors (BothAtMost f n g m) net
both f g n m net a b = λ i s lt k d inside. (a i s lt k d inside, b i s lt k d inside)

none_of : (n : ℕ) → n ≤ 0 → n ≡ 0
none_of n h = omega (arith, h)

last_then : (homes : Homes) (net : Net) → CalmRound homes net → greatest last_queued (round homes net) ≤ greatest last_queued net - 512
last_then homes net c =
    let p : ℕ = greatest last_queued net in
    least last_queued (p - 512) (round homes net)
    (queues_then (λ ps. last_message ps ≤ p - 512) homes net c
    (at_each (IsAtMost last_queued p) (λ d. last_message (passes d).queue ≤ p - 512) (numbers net) net (λ d met few h. let a = last_falls d met in omega (arith, a, h)) c.bounded (covers last_queued net)))

queues_grow : (homes : Homes) (net : Net) → CalmRound homes net → greatest queued (round homes net) ≤ greatest queued net + 512
queues_grow homes net c =
    let l : ℕ = greatest queued net in
    least queued (l + 512) (round homes net)
    (queues_then (λ ps. length ps ≤ l + 512) homes net c
    (at_each (IsAtMost queued l) (λ d. length (passes d).queue ≤ l + 512) (numbers net) net (λ d met few h. let a = queue_grows d met few in omega (arith, a, h)) c.bounded (covers queued net)))

-- where no message comes
no_message : (net : Net) → greatest last_come net ≡ 0 → AtDoors (IsAtMost last_come 0) net
no_message net e = subst (λ n. AtDoors (IsAtMost last_come n) net) e (covers last_come net)

queues_fall : (homes : Homes) (net : Net) → CalmRound homes net → greatest last_come net ≡ 0 → greatest queued (round homes net) ≤ greatest queued net - 512
queues_fall homes net c e =
    let l : ℕ = greatest queued net in
    least queued (l - 512) (round homes net)
    (queues_then (λ ps. length ps ≤ l - 512) homes net c
    (at_each (BothAtMost queued l last_come 0) (λ d. length (passes d).queue ≤ l - 512) (numbers net) net
    (λ d met few h. let a = queue_falls d met (none_of (last_come d) h.1) in let b = h.0 in omega (arith, a, b))
    c.bounded (both queued last_come l 0 net (covers queued net) (no_message net e))))

messages_then : (homes : Homes) (net : Net) → CalmRound homes net → greatest last_come (round homes net) ≤ 2 * greatest last_queued net
messages_then homes net c =
    let p : ℕ = greatest last_queued net in
    least last_come (2 * p) (round homes net)
    (known_then (λ ps. last_message ps ≤ 2 * p) zero-le homes net c
    (at_each (IsAtMost last_queued p) (λ d. last_message (passes d).out ≤ 2 * p) (numbers net) net (λ d met few h. let a = last_out d met in omega (arith, a, h)) c.bounded (covers last_queued net)))

known_few : (homes : Homes) (net : Net) → CalmRound homes net → greatest last_come net ≡ 0 → greatest come (round homes net) ≤ 2 * greatest queued net
known_few homes net c e =
    let l : ℕ = greatest queued net in
    least come (2 * l) (round homes net)
    (known_then (λ ps. length ps ≤ 2 * l) zero-le homes net c
    (at_each (BothAtMost queued l last_come 0) (λ d. length (passes d).out ≤ 2 * l) (numbers net) net
    (λ d met few h. let a = out_few d met (none_of (last_come d) h.1) in let b = h.0 in omega (arith, a, b))
    c.bounded (both queued last_come l 0 net (covers queued net) (no_message net e))))

---- Quiet

door_idle : (d : Door) → length d.queue ≤ 0 → length d.inc ≤ 0 → is_idle d ≡ true
door_idle d p q =
    let a : (length d.queue == 0) ≡ true = eq-eqb (length d.queue) 0 (none_of (length d.queue) p) in
    let b : (length d.inc == 0) ≡ true = eq-eqb (length d.inc) 0 (none_of (length d.inc) q) in
    ap (λ x. x && (length d.inc == 0)) a ∙ b

doors_idle : (ds : List Door) → All (BothAtMost queued 0 come 0) ds → all_idle ds ≡ true
doors_idle [] h = refl
doors_idle (d ∷ ds) h =
    let k = All-head (BothAtMost queued 0 come 0) d ds h in
    ap (λ x. x && all_idle ds) (door_idle d k.0 k.1) ∙ doors_idle ds (All-tail (BothAtMost queued 0 come 0) d ds h)

seat_quiet : (homes : Homes) (s : Seat) → Rests homes s → All (BothAtMost queued 0 come 0) s.doors → is_quiet_in homes s ≡ true
unfolding is_quiet
seat_quiet homes s r h =
    let calm = calm_at homes s r in
    ap (λ x. x && (is_none (work_of (homes s.number).role s.state) && all_idle s.doors)) (eq-eqb (length s.fresh) 0 calm.synced)
    ∙ (ap (λ o. is_none o && all_idle s.doors) calm.idle ∙ doors_idle s.doors h)

net_quiet : (homes : Homes) (net : Net) → All (Rests homes) net → AtDoors (BothAtMost queued 0 come 0) net → all_quiet homes net ≡ true
net_quiet homes [] r h = refl
net_quiet homes (s ∷ ss) r h =
    ap (λ x. x && all_quiet homes ss) (seat_quiet homes s (All-head (Rests homes) s ss r) (All-head (HasAll (BothAtMost queued 0 come 0)) s ss h))
    ∙ net_quiet homes ss (All-tail (Rests homes) s ss r) (All-tail (HasAll (BothAtMost queued 0 come 0)) s ss h)

none_left : (homes : Homes) (net : Net) → CalmRound homes net → greatest queued net ≡ 0 → greatest come net ≡ 0 → all_quiet homes net ≡ true
none_left homes net c p q =
    net_quiet homes net c.rests
    (both queued come 0 0 net (subst (λ n. AtDoors (IsAtMost queued n) net) p (covers queued net)) (subst (λ n. AtDoors (IsAtMost come n) net) q (covers come net)))

---- The four numbers

pub any_few : (n : ℕ) → one_if_any n ≤ 1
any_few zero = zero-le
any_few (suc n) = le_refl 1

any_none : (n : ℕ) → n ≤ 0 → one_if_any n ≡ 0
any_none zero h = refl
any_none (suc n) h = absurd (omega (arith, h))

falls : (p f l g q e k c : ℕ) → q ≤ p - 512 → k ≤ l + 512 → (f ≡ 0 → k ≤ l - 512) → e ≤ 2 * p → (f ≡ 0 → c ≤ 2 * l) → (l ≡ 0 → g ≡ 0 → ⊥) → weight q e k c < weight p f l g
falls (suc p) f l g q e k c a b s m t n = let x = any_few e in let y = any_few c in omega (arith, a, b, x, y)
falls zero (suc f) l g q e k c a b s m t n = let x = any_none e m in let y = any_few c in omega (arith, a, b, x, y)
falls zero zero (suc l) g q e k c a b s m t n = let x = any_none e m in let y = any_few c in let z = s refl in omega (arith, a, z, x, y)
falls zero zero zero (suc g) q e k c a b s m t n = let x = any_none e m in let y = any_none c (t refl) in omega (arith, a, b, x, y)
falls zero zero zero zero q e k c a b s m t n = absurd (n refl refl)

pub left_falls : LeftFalls
left_falls homes net bounded busy none =
    let c : CalmRound homes net = record { bounded = bounded; rests = none_happens homes (turned_all homes net) net (sym (ap events_of (round_is homes net)) ∙ none) } in
    let r : Net = round homes net in
    falls (greatest last_queued net) (greatest last_come net) (greatest queued net) (greatest come net) (greatest last_queued r) (greatest last_come r) (greatest queued r) (greatest come r)
    (last_then homes net c) (queues_grow homes net c) (queues_fall homes net c) (messages_then homes net c) (known_few homes net c)
    (λ p q. absurd (let quiet : true ≡ false = sym (none_left homes net c p q) ∙ busy in cc))
