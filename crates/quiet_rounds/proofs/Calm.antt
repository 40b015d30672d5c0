-- A turn in which nothing happens: what came is answered, and what is queued is let through.
use Rattle.std.proofs.Common.{ℕ, zero, suc, ◌+◌, ◌≡◌, ◌≢◌, ◌==◌, Bool, true, false, List, [], ◌∷◌, ◌++◌, Option, Some, None, refl, sym, ap, ◌∙◌, arith, length, map, append_assoc, append-nil, length-append, eqb-true}
use Rattle.std.specs.List.{All, AllPairs}
use Rattle.std.proofs.lemmas.List.Elements.{All-nil, All-cons, All-head, All-tail, All-append}
use Rattle.nsi_primitive.specs.Messages.{identity}
use Rattle.nsi_primitive.specs.declared.entry.Input.{Input}
use Rattle.nsi_primitive.specs.declared.message.Parcel.{Parcel}
use Rattle.nsi_primitive.specs.declared.state.Machine.{Machine}
use Rattle.nsi_agent.specs.Homes.{Home}
use Rattle.nsi_agent.specs.Steps.{is_new, waits, work_of, works_left}
use Rattle.nsi_agent.proofs.Works.{none_is_left}
use Rattle.agent_node.specs.Doors.{Door, with_parcel, queue_at}
use Rattle.agent_node.specs.Passing.{others, pushes, come_through, lying, clears}
use Rattle.agent_node.specs.Seat.{Seat, now_at, enters_now, enters_if, queues}
use Rattle.agent_node.specs.Turns.{cleared, takes, takes_all, work_then, works_off, worked, syncs_if, synced_all, pushed, turn_entered, turn_with, sync_event}
use Rattle.agent_node.proofs.Growing.{count, entered_one, takes_all_grow, works_off_grow, worked_grow, worked_none, synced_grow}
use Rattle.agent_node.proofs.Joints.{change_here, change_there}
use Rattle.quiet_rounds.proofs.Meeting.{apart_head, apart_tail}

---- Answers

-- the acknowledgements of the messages among these
abbrev pub answers : List Parcel → List Parcel
answers [] = []
answers (Parcel.Message m ∷ ps) = Parcel.Ack (identity m) ∷ answers ps
answers (Parcel.Ack i ∷ ps) = answers ps

-- what came through a door is answered
abbrev pub heard : Door → Door
heard d = record d { queue = d.queue ++ answers d.inc; inc = [] }

-- a door behind a turn in which nothing happens
abbrev pub passes : Door → Door
passes d = pushes (heard d)

abbrev queue_answer : ℕ → Parcel → List Door → List Door
queue_answer from (Parcel.Message m) ds = queue_at from (Parcel.Ack (identity m)) ds
queue_answer from (Parcel.Ack i) ds = ds

abbrev queue_answers : List (ℕ × Parcel) → List Door → List Door
queue_answers [] ds = ds
queue_answers (x ∷ xs) ds = queue_answers xs (queue_answer x.0 x.1 ds)

---- No entry is made

due_calm : (b : Bool) (h : Home) (input : Input) (s : Seat) → count (enters_if b h input s) ≡ 0 → enters_if b h input s ≡ s
unfolding enters_if
due_calm true h input s e = absurd (omega (arith, e, entered_one h (now_at s input) s))
due_calm false h input s e = refl

takes_calm : (h : Home) (from : ℕ) (p : Parcel) (s : Seat) → count (takes h from p s) ≡ 0 → takes h from p s ≡ record s { doors = queue_answer from p s.doors }
unfolding takes
takes_calm h from (Parcel.Message m) s e = ap (queues from (Parcel.Ack (identity m))) (due_calm (is_new h s.state m) h (Input.Got m) s e)
takes_calm h from (Parcel.Ack i) s e = due_calm (waits i s.state) h (Input.Acked i) s e

takes_all_calm : (h : Home) (xs : List (ℕ × Parcel)) (s : Seat) → count (takes_all h xs s) ≡ 0 → takes_all h xs s ≡ record s { doors = queue_answers xs s.doors }
unfolding takes_all
takes_all_calm h [] s e = refl
takes_all_calm h (x ∷ xs) s e =
    let u : Seat = takes h x.0 x.1 s in
    takes_all_calm h xs u e
    ∙ ap (λ (v : Seat). record v { doors = queue_answers xs v.doors }) (takes_calm h x.0 x.1 s (omega (arith, e, takes_all_grow h xs u)))

work_calm : (o : Option (ℕ × Machine)) (n : ℕ) (h : Home) (s : Seat) → count (work_then o h (works_off n h) s) ≡ 0 → o ≡ None
work_calm None n h s e = refl
work_calm (Some w) n h s e =
    absurd (omega (arith, e, works_off_grow n h (enters_now h (Input.Work w.0 w.1) s), entered_one h (now_at s (Input.Work w.0 w.1)) s))

works_calm : (n : ℕ) (h : Home) (s : Seat) → works_left h.role s.state ≡ n → count (works_off n h s) ≡ 0 → work_of h.role s.state ≡ None
unfolding works_off
works_calm zero h s l e = (none_is_left h s.state).1 l
works_calm (suc n) h s l e = work_calm (work_of h.role s.state) n h s e

synced_calm : (b : Bool) (h : Home) (s : Seat) → count (syncs_if b h s) ≡ 0 → b ≡ true
unfolding syncs_if
synced_calm true h s e = refl
synced_calm false h s e = absurd (omega (arith, e, length-append s.events (sync_event s.number (s.synced + length s.fresh) ∷ [])))

syncs_none : (b : Bool) (h : Home) (s : Seat) → b ≡ true → syncs_if b h s ≡ s
unfolding syncs_if
syncs_none true h s e = refl
syncs_none false h s e = absurd (cc)

turn_is : (h : Home) (xs : List (ℕ × Parcel)) (s : Seat) → turn_with h xs s ≡ pushed (synced_all h (turn_entered h xs s))
unfolding turn_with
turn_is h xs s = refl

-- nothing is unsynced, no work waits, and only links change
pub record IsCalm (h : Home) (xs : List (ℕ × Parcel)) (s : Seat) : Type 0 where
  pub synced : length s.fresh ≡ 0
  pub idle : work_of h.role s.state ≡ None
  pub turn : turn_with h xs s ≡ record s { doors = map pushes (queue_answers xs s.doors) }

pub turn_calm : (h : Home) (xs : List (ℕ × Parcel)) (s : Seat) → count (turn_with h xs s) ≡ 0 → IsCalm h xs s
turn_calm h xs s e =
    let a : Seat = takes_all h xs s in
    let b : Seat = worked h a in
    let c : Seat = synced_all h b in
    let none_c : count c ≡ 0 = sym (ap count (turn_is h xs s)) ∙ e in
    let none_b : count b ≡ 0 = omega (arith, none_c, synced_grow h b) in
    let none_a : count a ≡ 0 = omega (arith, none_b, worked_grow h a) in
    let taken : a ≡ record s { doors = queue_answers xs s.doors } = takes_all_calm h xs s none_a in
    let idle : work_of h.role a.state ≡ None = works_calm (works_left h.role a.state) h a refl none_b in
    let same : b ≡ a = worked_none h a idle in
    let all : (length b.fresh == 0) ≡ true = synced_calm (length b.fresh == 0) h b none_c in
    record {
      synced = sym (ap (λ (u : Seat). length u.fresh) (same ∙ taken)) ∙ eqb-true (length b.fresh) 0 all;
      idle = sym (ap (λ (u : Seat). work_of h.role u.state) taken) ∙ idle;
      turn = turn_is h xs s ∙ ap pushed (syncs_none (length b.fresh == 0) h b all ∙ (same ∙ taken));
    }

---- What is answered, door by door

answer_past : (from : ℕ) (p : Parcel) (d : Door) (ds : List Door) → from ≢ d.other → queue_answer from p (d ∷ ds) ≡ d ∷ queue_answer from p ds
answer_past from (Parcel.Message m) d ds far = change_there from (with_parcel (Parcel.Ack (identity m))) d ds (λ e. far (sym e))
answer_past from (Parcel.Ack i) d ds far = refl

-- it comes from others
abbrev IsFrom : ℕ → ℕ × Parcel → Type 0
IsFrom n x = x.0 ≢ n

answers_past : (xs : List (ℕ × Parcel)) (d : Door) (ds : List Door) → All (IsFrom d.other) xs → queue_answers xs (d ∷ ds) ≡ d ∷ queue_answers xs ds
answers_past [] d ds h = refl
answers_past (x ∷ xs) d ds h =
    ap (queue_answers xs) (answer_past x.0 x.1 d ds (All-head (IsFrom d.other) x xs h)) ∙ answers_past xs d (queue_answer x.0 x.1 ds) (All-tail (IsFrom d.other) x xs h)

answers_here : (ps : List Parcel) (d : Door) (ds : List Door) → queue_answers (map (λ p. (d.other, p)) ps) (d ∷ ds) ≡ record d { queue = d.queue ++ answers ps } ∷ ds
answers_here [] d ds = ap (λ qs. record d { queue = qs } ∷ ds) (sym (append-nil d.queue))
answers_here (Parcel.Message m ∷ ps) d ds =
    let q : Parcel = Parcel.Ack (identity m) in
    ap (queue_answers (map (λ p. (d.other, p)) ps)) (change_here d.other (with_parcel q) d ds refl)
    ∙ (answers_here ps (with_parcel q d) ds ∙ ap (λ qs. record d { queue = qs } ∷ ds) (append_assoc d.queue (q ∷ []) (answers ps)))
answers_here (Parcel.Ack i ∷ ps) d ds = answers_here ps d ds

answers_append : (xs ys : List (ℕ × Parcel)) (ds : List Door) → queue_answers (xs ++ ys) ds ≡ queue_answers ys (queue_answers xs ds)
answers_append [] ys ds = refl
answers_append (x ∷ xs) ys ds = answers_append xs ys (queue_answer x.0 x.1 ds)

all_from : (n m : ℕ) (ps : List Parcel) → m ≢ n → All (IsFrom n) (map (λ p. (m, p)) ps)
all_from n m [] far = All-nil (IsFrom n)
all_from n m (p ∷ ps) far = All-cons (IsFrom n) (m, p) (map (λ p. (m, p)) ps) far (all_from n m ps far)

lying_from : (n : ℕ) (ds : List Door) → All (λ m. m ≢ n) (others ds) → All (IsFrom n) (lying ds)
lying_from n [] h = All-nil (IsFrom n)
lying_from n (d ∷ ds) h =
    All-append (IsFrom n) (come_through d) (lying ds) (all_from n d.other d.inc (All-head (λ m. m ≢ n) d.other (others ds) h))
    (lying_from n ds (All-tail (λ m. m ≢ n) d.other (others ds) h))

answered : (ds : List Door) → AllPairs (λ a b. b ≢ a) (others ds) → queue_answers (lying ds) (map clears ds) ≡ map heard ds
answered [] apart = refl
answered (d ∷ ds) apart =
    answers_append (come_through d) (lying ds) (clears d ∷ map clears ds)
    ∙ (ap (queue_answers (lying ds)) (answers_here d.inc (clears d) (map clears ds))
    ∙ (answers_past (lying ds) (heard d) (map clears ds) (lying_from d.other ds (apart_head d.other (others ds) apart))
    ∙ ap (λ (es : List Door). heard d ∷ es) (answered ds (apart_tail d.other (others ds) apart))))

both : (ds : List Door) → map pushes (map heard ds) ≡ map passes ds
both [] = refl
both (d ∷ ds) = ap (λ (es : List Door). passes d ∷ es) (both ds)

-- so each door passes on what it has
pub doors_calm : (h : Home) (s : Seat) → AllPairs (λ a b. b ≢ a) (others s.doors) → IsCalm h (lying s.doors) (cleared s) → (turn_with h (lying s.doors) (cleared s)).doors ≡ map passes s.doors
doors_calm h s apart calm = ap (λ (u : Seat). u.doors) calm.turn ∙ (ap (map pushes) (answered s.doors apart) ∙ both s.doors)
