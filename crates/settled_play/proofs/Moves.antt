-- The steps of a turn, of a tick and of an act.
use Rattle.std.proofs.Common.{ℕ, zero, suc, ◌+◌, ◌<◌, ◌≤◌, ◌≡◌, arith, ◌==◌, Bool, true, false, cond, List, [], ◌∷◌, ◌++◌, Option, Some, None, ◌⊎◌, inl, inr, refl, sym, ap, ◌∙◌, subst, length, map, get_or, append-nil, eq-eqb, ne_eqb}
use Rattle.std.specs.List.{All, Contains}
use Rattle.std.proofs.lemmas.Bool.{cases_eq}
use Rattle.std.proofs.lemmas.List.Elements.{All-nil, All-head, All-tail, All-append, All-push, All-filter, All-weaker, All-map, All-contains, Contains-append_left, Contains-push}
use Rattle.nsi_primitive.specs.Messages.{identity, addressee, is_request}
use Rattle.nsi_primitive.specs.declared.entry.Entry.{Entry}
use Rattle.nsi_primitive.specs.declared.entry.Input.{Input}
use Rattle.nsi_primitive.specs.declared.message.Identity.{Identity}
use Rattle.nsi_primitive.specs.declared.message.Message.{Message}
use Rattle.nsi_primitive.specs.declared.message.Parcel.{Parcel}
use Rattle.nsi_primitive.specs.declared.state.Machine.{Machine}
use Rattle.stp_topology.specs.Network.{agent_of}
use Rattle.stp_topology.specs.declared.network.Network.{Network}
use Rattle.agent_state.specs.State.{AgentState}
use Rattle.nsi_agent.specs.Homes.{Home, Routes, home_in}
use Rattle.nsi_agent.specs.Steps.{is_new, waits, work_of, works_left}
use Rattle.nsi_agent.specs.Told.{told, IsSame, IsSameTo, WasGot}
use Rattle.nsi_agent.proofs.SeenGot.{seen_was_got}
use Rattle.nsi_agent.proofs.Telling.{waiting_was_caused}
use Rattle.nsi_script.specs.declared.script.Act.{Act}
use Rattle.agent_node.specs.Doors.{Door, with_parcel, queue_at}
use Rattle.agent_node.specs.Passing.{others, queue_if, says, says_all, passes, pushes, come_through, lying, clears}
use Rattle.agent_node.proofs.Passing.{passes_out, passes_queue}
use Rattle.agent_node.specs.Openings.{empty_door, others_of}
use Rattle.agent_node.specs.Seat.{Seat, now_at, enters, enters_if, queues}
use Rattle.agent_node.specs.Turns.{cleared, takes, takes_all, work_then, works_off, worked, sync_event, syncs, syncs_if, synced_all, pushed, turn_entered, turn_with, turned}
use Rattle.agent_node.specs.Acts.{asked, forced, is_overdue, overdue, tick_at, ticked}
use Rattle.nsi_play.specs.Play.{changes, does, RestartsNone}
use Rattle.settled_play.proofs.Finding.{door_to, none_there, first_there, later_there, first_or_later, change_doors, map_door, others_map, lies_there, with_leads, queued_there, queue_keeps, says_keeps, said_there, others_change}
use Rattle.settled_play.proofs.Putting.{counted, counted_none, ahead, lost_in, passes_keep, passes_count}
use Rattle.settled_play.proofs.Waiting.{acked_before}
use Rattle.nsi_world.proofs.Names.{home_leads}
use Rattle.settled_play.proofs.Links.{Given, Goes, IsLinked, Way, said_goes}
use Rattle.settled_play.proofs.Steps.{entered_append, IsOwn, IsDoor, IsInHand, AreDoors, Sits, nothing_lost, both_lost, IsPlanned, none_planned, planned_twice, put_twice, Step, step_none, step_twice, step_entry, Keeps, step_doors, step_taken}

---- What the doors keep

-- where nothing is lost and each plan stays
same_plans : (ds es : List Door) → ((b : ℕ) → (door_to b es).plan ≡ (door_to b ds).plan) → IsPlanned nothing_lost ds es
same_plans ds es e b n = let z = counted_none n in let same : ahead n (door_to b es).plan ≡ ahead n (door_to b ds).plan = ap (ahead n) (e b) in omega (arith, z, same)

pub keeps_queue : (t : Network) (a c : ℕ) (p : Parcel) (hs : List (ℕ × Parcel)) (ds : List Door) → Goes t a c p → Keeps t a hs hs ds (queue_at c p ds)
keeps_queue t a c p hs ds g = record {
  others = others_change c (with_parcel p) (with_leads p) ds;
  doors = λ h. change_doors (IsDoor t a) c (with_parcel p) with_one ds h;
  held = λ d h. h;
  lost = nothing_lost;
  planned = same_plans ds (queue_at c p ds) (λ b. queue_keeps (λ d. d.plan ≡ (door_to b ds).plan) (λ x d z. z) b c p ds refl);
  put = λ b q k. inl (queue_keeps (λ d. Contains d.queue q ⊎ Contains d.out q) (more q) b c p ds k);
  came = λ b q k. elim k [
    | inl i ↦ inl (queue_keeps (λ d. Contains d.inc q) (λ x d z. z) b c p ds i)
    | inr i ↦ inr i
  ];
  fewer = λ b q k. subst (λ xs. Contains xs q) (queue_keeps (λ d. d.inc ≡ (door_to b ds).inc) (λ x d z. z) b c p ds refl) k;
}
  where
    with_one : (d : Door) → d.other ≡ c → IsDoor t a d → IsDoor t a (with_parcel p d)
    with_one d e k = record { link = k.link; queue = All-push (Goes t a d.other) d.queue p k.queue (subst (λ n. Goes t a n p) (sym e) g); out = k.out; inc = k.inc }

    more : (q x : Parcel) (d : Door) → Contains d.queue q ⊎ Contains d.out q → Contains (d.queue ++ x ∷ []) q ⊎ Contains d.out q
    more q x d (inl c) = inl (Contains-append_left d.queue (x ∷ []) q c)
    more q x d (inr c) = inr c

keeps_none : (t : Network) (a : ℕ) (hs : List (ℕ × Parcel)) (ds : List Door) → Keeps t a hs hs ds ds
keeps_none t a hs ds = record { others = refl; doors = λ h. h; held = λ d h. h; lost = nothing_lost; planned = none_planned ds; put = λ b p k. inl k; came = λ b p k. k; fewer = λ b p k. k }

keeps_twice : (t : Network) (a : ℕ) (hs hu hv : List (ℕ × Parcel)) (ds es fs : List Door) → Keeps t a hs hu ds es → Keeps t a hu hv es fs → Keeps t a hs hv ds fs
keeps_twice t a hs hu hv ds es fs p q = record {
  others = q.others ∙ p.others;
  doors = λ h. q.doors (p.doors h);
  held = λ d h. q.held (p.doors d) (p.held d h);
  lost = both_lost p.lost q.lost;
  planned = planned_twice p.lost q.lost ds es fs p.planned q.planned;
  put = λ b x k. put_twice b es fs p.lost q.lost x (λ z. q.put b z) (p.put b x k);
  came = λ b x k. q.came b x (p.came b x k);
  fewer = λ b x k. p.fewer b x (q.fewer b x k);
}

keeps_if : (t : Network) (a : ℕ) (o : Option ℕ) (m : Message) (hs : List (ℕ × Parcel)) (ds : List Door) → agent_of t (addressee (identity m)) ≡ o → Way t a m → Keeps t a hs hs ds (queue_if o (Parcel.Message m) ds)
keeps_if t a None m hs ds e w = keeps_none t a hs ds
keeps_if t a (Some c) m hs ds e w = keeps_queue t a c (Parcel.Message m) hs ds (subst (λ n. Goes t a n (Parcel.Message m)) (some_same w.to c (sym w.goes.0 ∙ e)) w.goes)
  where
    some_same : (x y : ℕ) → Some x ≡ Some y → x ≡ y
    some_same x y q = cc

keeps_says : (t : Network) (a : ℕ) (ms : List Message) (hs : List (ℕ × Parcel)) (ds : List Door) → All (Way t a) ms → Keeps t a hs hs ds (says_all (agent_of t) ms ds)
unfolding says_all
keeps_says t a [] hs ds all = keeps_none t a hs ds
keeps_says t a (m ∷ ms) hs ds all =
    keeps_twice t a hs hs hs ds (says (agent_of t) m ds) (says_all (agent_of t) ms (says (agent_of t) m ds))
    (keeps_if t a (agent_of t (addressee (identity m))) m hs ds refl (All-head (Way t a) m ms all)) (keeps_says t a ms hs (says (agent_of t) m ds) (All-tail (Way t a) m ms all))

pub keeps_said : (t : Network) (routes : Routes) (a : ℕ) (ms : List Message) (hs : List (ℕ × Parcel)) (ds : List Door) → All (Way t a) ms → Keeps t a hs hs ds (says_all (home_in t routes a).agent_of ms ds)
keeps_said t routes a ms hs ds all = subst (λ (f : List ℕ → Option ℕ). Keeps t a hs hs ds (says_all f ms ds)) (sym (home_leads t routes a)) (keeps_says t a ms hs ds all)

pub mapped_from : {X Y : Type 0} (f : X → Y) → (xs : List X) (y : Y) → Contains (map f xs) y → (x : X) × Contains xs x × (f x ≡ y)
mapped_from f [] y c = absurd (none_there y c)
mapped_from f (x ∷ xs) y c = elim (first_or_later (f x) (map f xs) y c) [
  | inl e ↦ (x, first_there x xs, e)
  | inr d ↦ let r = mapped_from f xs y d in (r.0, later_there x xs r.0 r.1, r.2)
]

pub keeps_clear : (t : Network) (a : ℕ) (ds : List Door) → Keeps t a [] (lying ds) ds (map clears ds)
keeps_clear t a ds = record {
  others = others_map clears (λ d. refl) ds;
  doors = λ h d c. let r = mapped_from clears ds d c in subst (IsDoor t a) r.2 (let k = h r.0 r.1 in record { link = k.link; queue = k.queue; out = k.out; inc = All-nil (Goes t r.0.other a) });
  held = λ h z. held ds h;
  lost = nothing_lost;
  planned = same_plans ds (map clears ds) (λ b. ap (λ (d : Door). d.plan) (map_door b clears (λ d. refl) refl ds));
  put = λ b p k. inl (subst (λ (d : Door). Contains d.queue p ⊎ Contains d.out p) (sym (map_door b clears (λ d. refl) refl ds)) k);
  came = λ b p k. elim k [
    | inl i ↦ inr (lies_there b ds p i)
    | inr i ↦ absurd (none_there (b, p) i)
  ];
  fewer = λ b p k. absurd (none_there p (subst (λ (d : Door). Contains d.inc p) (map_door b clears (λ d. refl) refl ds) k));
}
  where
    through : (d : Door) (ps : List Parcel) → Contains (others_of t a) d.other → All (Goes t d.other a) ps → All (IsInHand t a) (map (λ (p : Parcel). (d.other, p)) ps)
    through d ps link all = All-map (IsInHand t a) (λ (p : Parcel). (d.other, p)) ps (All-weaker (Goes t d.other a) (λ p. IsInHand t a (d.other, p)) (λ p g. (link, g)) ps all)

    held : (es : List Door) → AreDoors t a es → All (IsInHand t a) (lying es)
    held [] h = All-nil (IsInHand t a)
    held (e ∷ es) h = All-append (IsInHand t a) (come_through e) (lying es) (let k = h e (first_there e es) in through e e.inc k.link k.inc) (held es (λ d c. h d (later_there e es d c)))

pub cleared_none : (b : ℕ) (ds : List Door) (p : Parcel) → Contains (door_to b (map clears ds)).inc p → ⊥
cleared_none b ds p k = none_there p (subst (λ (d : Door). Contains d.inc p) (map_door b clears (λ d. refl) refl ds) k)

pushes_none : (b : ℕ) → pushes (empty_door b) ≡ empty_door b
unfolding passes
pushes_none b = refl

-- what the push to an agent loses
abbrev lost_at : Door → List Parcel
lost_at d = lost_in d.queue d.plan d.out

pub keeps_push : (t : Network) (a : ℕ) (ds : List Door) → Keeps t a [] [] ds (map pushes ds)
keeps_push t a ds = record {
  others = others_map pushes (λ d. refl) ds;
  doors = λ h d c. let r = mapped_from pushes ds d c in subst (IsDoor t a) r.2 (pushed_door r.0 (h r.0 r.1));
  held = λ d h. h;
  lost = λ b. lost_at (door_to b ds);
  planned = λ b n.
      let d : Door = door_to b ds in
      subst (λ (x : Door). counted n (lost_at d) + ahead n x.plan ≤ ahead n d.plan) (sym (map_door b pushes (λ d. refl) (pushes_none b) ds)) (passes_count n d.queue d.plan d.out);
  put = λ b p k.
      let d : Door = door_to b ds in
      subst (λ (x : Door). (Contains x.queue p ⊎ Contains x.out p) ⊎ Contains (lost_at d) p) (sym (map_door b pushes (λ d. refl) (pushes_none b) ds)) (passes_keep p d.queue d.plan d.out k);
  came = λ b p k. elim k [
    | inl i ↦ inl (subst (λ (d : Door). Contains d.inc p) (sym (map_door b pushes (λ d. refl) (pushes_none b) ds)) i)
    | inr i ↦ inr i
  ];
  fewer = λ b p k. subst (λ (d : Door). Contains d.inc p) (map_door b pushes (λ d. refl) (pushes_none b) ds) k;
}
  where
    pushed_door : (d : Door) → IsDoor t a d → IsDoor t a (pushes d)
    pushed_door d k = record {
      link = k.link;
      queue = passes_queue (Goes t a d.other) d.queue d.plan d.out k.queue;
      out = passes_out (Goes t a d.other) d.queue d.plan d.out k.queue k.out;
      inc = k.inc;
    }

---- What came is taken

-- a step to some journal
pub record Moves (t : Network) (routes : Routes) (a : ℕ) (js : List Entry) (hs hu : List (ℕ × Parcel)) (s u : Seat) : Type 0 where
  pub journal : List Entry
  pub step : Step t routes a js journal hs hu s u

move_none : (t : Network) (routes : Routes) (a : ℕ) (js : List Entry) (hs : List (ℕ × Parcel)) (s : Seat) → Sits t routes a js hs s → Moves t routes a js hs hs s s
move_none t routes a js hs s h = record { journal = js; step = step_none t routes a js hs s h }

move_entry : (t : Network) (routes : Routes) (a : ℕ) (js : List Entry) (hs : List (ℕ × Parcel)) (e : Entry) (s : Seat) → IsLinked t a e → Sits t routes a js hs s → Moves t routes a js hs hs s (enters (home_in t routes a) e s)
move_entry t routes a js hs e s link h = record { journal = js ++ e ∷ []; step = step_entry t routes a js hs e s link h }

move_twice : (t : Network) (routes : Routes) (a : ℕ) (js : List Entry) (hs hu hv : List (ℕ × Parcel)) (s u v : Seat) → (p : Moves t routes a js hs hu s u) → Moves t routes a p.journal hu hv u v → Moves t routes a js hs hv s v
move_twice t routes a js hs hu hv s u v p q = record { journal = q.journal; step = step_twice t routes a js p.journal q.journal hs hu hv s u v p.step q.step }

-- the message was got, and its acknowledgement is queued
acks : (t : Network) (routes : Routes) (a from : ℕ) (m : Message) (js ks : List Entry) (xs : List (ℕ × Parcel)) (s u : Seat) → Contains (others_of t a) from → Step t routes a js ks ((from, Parcel.Message m) ∷ xs) ((from, Parcel.Message m) ∷ xs) s u → WasGot m ks
    → Moves t routes a js ((from, Parcel.Message m) ∷ xs) xs s (queues from (Parcel.Ack (identity m)) u)
acks t routes a from m js ks xs s u link p got =
    let x : ℕ × Parcel = (from, Parcel.Message m) in
    let ack : Parcel = Parcel.Ack (identity m) in
    let ds : List Door = queue_at from ack u.doors in
    let q = step_doors t routes a ks (x ∷ xs) (x ∷ xs) u ds (keeps_queue t a from ack (x ∷ xs) u.doors tt) p.sits in
    let there : Contains (door_to from ds).queue ack = queued_there from ack u.doors (subst (λ ns. Contains ns from) (sym p.sits.others) link) in
    record {
      journal = ks;
      step = step_taken t routes a js ks x xs s (queues from ack u) (step_twice t routes a js ks ks (x ∷ xs) (x ∷ xs) (x ∷ xs) s u (queues from ack u) p q) (got, inl (inl there));
    }

same_gets : (m : Message) → IsSame m m
same_gets m = by (is_request m.body) refl
  where
    by : (b : Bool) → is_request m.body ≡ b → IsSameTo b m m
    by true e = (e, refl)
    by false e = refl

pub move_message : (t : Network) (routes : Routes) (a from : ℕ) (m : Message) (js : List Entry) (xs : List (ℕ × Parcel)) (s : Seat) → Sits t routes a js ((from, Parcel.Message m) ∷ xs) s
    → Moves t routes a js ((from, Parcel.Message m) ∷ xs) xs s (takes (home_in t routes a) from (Parcel.Message m) s)
unfolding takes enters_if
move_message t routes a from m js xs s h = by (is_new (home_in t routes a) s.state m) refl
  where
    by : (b : Bool) → is_new (home_in t routes a) s.state m ≡ b
        → Moves t routes a js ((from, Parcel.Message m) ∷ xs) xs s (queues from (Parcel.Ack (identity m)) (enters_if b (home_in t routes a) (Input.Got m) s))
    by true e =
        let x : ℕ × Parcel = (from, Parcel.Message m) in
        let home : Home = home_in t routes a in
        let entry : Entry = now_at s (Input.Got m) in
        let hand = All-head (IsInHand t a) x xs h.held in
        let p = step_entry t routes a js (x ∷ xs) entry s (hand.1.1, λ r. (from, hand.0, hand.1.2 r)) h in
        acks t routes a from m js (js ++ entry ∷ []) xs s (enters home entry s) hand.0 p (entry, Contains-push js entry, same_gets m)
    by false e =
        let x : ℕ × Parcel = (from, Parcel.Message m) in
        let home : Home = home_in t routes a in
        let hand = All-head (IsInHand t a) x xs h.held in
        let got : WasGot m js = seen_was_got home js m (ap (λ (z : AgentState). is_new home z m) h.state ∙ e) in
        acks t routes a from m js js xs s s hand.0 (step_none t routes a js (x ∷ xs) s h) got

-- an acknowledgement is taken where its message waits, or was taken before
move_ack : (t : Network) (routes : Routes) (a from : ℕ) (i : Identity) (js : List Entry) (xs : List (ℕ × Parcel)) (s : Seat) → Sits t routes a js ((from, Parcel.Ack i) ∷ xs) s
    → Moves t routes a js ((from, Parcel.Ack i) ∷ xs) xs s (takes (home_in t routes a) from (Parcel.Ack i) s)
unfolding takes enters_if
move_ack t routes a from i js xs s h = by (waits i s.state) refl
  where
    by : (b : Bool) → waits i s.state ≡ b → Moves t routes a js ((from, Parcel.Ack i) ∷ xs) xs s (enters_if b (home_in t routes a) (Input.Acked i) s)
    by true e =
        let x : ℕ × Parcel = (from, Parcel.Ack i) in
        let home : Home = home_in t routes a in
        let entry : Entry = now_at s (Input.Acked i) in
        record {
          journal = js ++ entry ∷ [];
          step = step_taken t routes a js (js ++ entry ∷ []) x xs s (enters home entry s) (step_entry t routes a js (x ∷ xs) entry s tt h)
              (λ m c q. (entry, Contains-push js entry, ap (λ (j : Identity). Input.Acked j) (sym q)));
        }
    by false e =
        let x : ℕ × Parcel = (from, Parcel.Ack i) in
        record {
          journal = js;
          step = step_taken t routes a js js x xs s s (step_none t routes a js (x ∷ xs) s h)
              (λ m c q. acked_before (home_in t routes a) js s.state m h.state (ap (λ (j : Identity). waits j s.state) q ∙ e) c);
        }

move_takes : (t : Network) (routes : Routes) (a from : ℕ) (p : Parcel) (js : List Entry) (xs : List (ℕ × Parcel)) (s : Seat) → Sits t routes a js ((from, p) ∷ xs) s → Moves t routes a js ((from, p) ∷ xs) xs s (takes (home_in t routes a) from p s)
move_takes t routes a from (Parcel.Message m) js xs s h = move_message t routes a from m js xs s h
move_takes t routes a from (Parcel.Ack i) js xs s h = move_ack t routes a from i js xs s h

move_all : (t : Network) (routes : Routes) (a : ℕ) (xs : List (ℕ × Parcel)) (js : List Entry) (s : Seat) → Sits t routes a js xs s → Moves t routes a js xs [] s (takes_all (home_in t routes a) xs s)
unfolding takes_all
move_all t routes a [] js s h = move_none t routes a js [] s h
move_all t routes a (x ∷ xs) js s h =
    let home : Home = home_in t routes a in
    let p = move_takes t routes a x.0 x.1 js xs s h in
    move_twice t routes a js (x ∷ xs) xs [] s (takes home x.0 x.1 s) (takes_all home xs (takes home x.0 x.1 s)) p (move_all t routes a xs p.journal (takes home x.0 x.1 s) p.step.sits)

---- Work

move_work : (t : Network) (routes : Routes) (a : ℕ) (n : ℕ) (js : List Entry) (s : Seat) → Sits t routes a js [] s → Moves t routes a js [] [] s (works_off n (home_in t routes a) s)
unfolding works_off
move_work t routes a zero js s h = move_none t routes a js [] s h
move_work t routes a (suc n) js s h = by (work_of (home_in t routes a).role s.state) (move_work t routes a n)
  where
    by : (o : Option (ℕ × Machine)) → ((ks : List Entry) (u : Seat) → Sits t routes a ks [] u → Moves t routes a ks [] [] u (works_off n (home_in t routes a) u))
        → Moves t routes a js [] [] s (work_then o (home_in t routes a) (works_off n (home_in t routes a)) s)
    by None f = move_none t routes a js [] s h
    by (Some w) f =
        let home : Home = home_in t routes a in
        let u : Seat = enters home (now_at s (Input.Work w.0 w.1)) s in
        let p = move_entry t routes a js [] (now_at s (Input.Work w.0 w.1)) s tt h in
        move_twice t routes a js [] [] [] s u (works_off n home u) p (f p.journal u p.step.sits)

---- A sync

-- what isn't said yet goes along a link
pub ways : (t : Network) (routes : Routes) → Given t routes → (a : ℕ) (js : List Entry) (ms : List Message) → a < length t.agents → All (IsLinked t a) js → All (Contains (told (home_in t routes a) js).out) ms → All (Way t a) ms
ways t routes given a js ms lt heard all = λ k d within. said_goes t routes given a js (get_or ms k d) lt heard (all k d within)

move_sync : (t : Network) (routes : Routes) → Given t routes → (a : ℕ) (js : List Entry) (s : Seat) → Sits t routes a js [] s → Moves t routes a js [] [] s (syncs (home_in t routes a) s)
move_sync t routes given a js s h =
    let home : Home = home_in t routes a in
    let way : All (Way t a) s.unsaid = ways t routes given a js s.unsaid h.within h.heard h.unsaid in
    let k = keeps_said t routes a s.unsaid [] s.doors way in
    record {
      journal = js;
      step = record {
        made = [];
        grows = sym (append-nil js);
        events = entered_append s.events (sync_event s.number (s.synced + length s.fresh) ∷ []);
        own = λ o. All-push (IsOwn a) s.events (sync_event s.number (s.synced + length s.fresh)) o (h.number, tt);
        sits = record {
          number = h.number;
          within = h.within;
          state = h.state;
          clear = λ q. refl;
          unsaid = All-nil (Contains (told home js).out);
          others = k.others ∙ h.others;
          doors = k.doors h.doors;
          heard = h.heard;
          held = h.held;
        };
        spoken = λ m b e c. inl c;
        unsaid = λ m b e c.
            let w = All-contains (Way t a) s.unsaid m way c in
            let same : w.to ≡ b = some_same w.to b (sym w.goes.0 ∙ e) in
            let link : Contains (others s.doors) b = subst (λ ns. Contains ns b) (sym h.others) (subst (Contains (others_of t a)) same w.link) in
            inl (inr (inl (said_there home.agent_of b m s.unsaid s.doors c (ap (λ (f : List ℕ → Option ℕ). f (addressee (identity m))) (home_leads t routes a) ∙ e) link)));
        lost = k.lost;
        planned = k.planned;
        put = k.put;
        came = λ b p c. inl (k.came b p c);
        fewer = k.fewer;
      };
    }
  where
    some_same : (x y : ℕ) → Some x ≡ Some y → x ≡ y
    some_same x y q = cc

move_synced : (t : Network) (routes : Routes) → Given t routes → (a : ℕ) (b : Bool) (js : List Entry) (s : Seat) → Sits t routes a js [] s → Moves t routes a js [] [] s (syncs_if b (home_in t routes a) s)
unfolding syncs_if
move_synced t routes given a true js s h = move_none t routes a js [] s h
move_synced t routes given a false js s h = move_sync t routes given a js s h

---- A turn

-- a turn, and nothing lies at a door behind it
pub record Turns (t : Network) (routes : Routes) (a : ℕ) (js : List Entry) (s u : Seat) : Type 0 where
  pub moves : Moves t routes a js [] [] s u
  pub taken : (b : ℕ) (p : Parcel) → Contains (door_to b u.doors).inc p → ⊥

pub move_turned : (t : Network) (routes : Routes) → Given t routes → (a : ℕ) (js : List Entry) (s : Seat) → Sits t routes a js [] s → Turns t routes a js s (turned (home_in t routes a) s)
unfolding turn_with
move_turned t routes given a js s h =
    let home : Home = home_in t routes a in
    let u : Seat = cleared s in
    let p = step_doors t routes a js [] (lying s.doors) s (map clears s.doors) (keeps_clear t a s.doors) h in
    let v : Seat = takes_all home (lying s.doors) u in
    let q = move_all t routes a (lying s.doors) js u p.sits in
    let x : Seat = worked home v in
    let r = move_work t routes a (works_left home.role v.state) q.journal v q.step.sits in
    let y : Seat = synced_all home x in
    let o = move_synced t routes given a (length x.fresh == 0) r.journal x r.step.sits in
    let z : Seat = pushed y in
    let l = step_doors t routes a o.journal [] [] y (map pushes y.doors) (keeps_push t a y.doors) o.step.sits in
    let rest : Moves t routes a js (lying s.doors) [] u z = move_twice t routes a js (lying s.doors) [] [] u v z q (move_twice t routes a q.journal [] [] [] v x z r (move_twice t routes a r.journal [] [] [] x y z o (record { journal = o.journal; step = l }))) in
    record {
      moves = record { journal = rest.journal; step = step_twice t routes a js js rest.journal [] (lying s.doors) [] s u z p rest.step };
      taken = λ b k c. cleared_none b s.doors k (rest.step.fewer b k c);
    }

-- so is what is left of one where the disk stops at its sync
pub move_halted : (t : Network) (routes : Routes) (a : ℕ) (js : List Entry) (s : Seat) → Sits t routes a js [] s → Turns t routes a js s (turn_entered (home_in t routes a) (lying s.doors) (cleared s))
move_halted t routes a js s h =
    let home : Home = home_in t routes a in
    let u : Seat = cleared s in
    let p = step_doors t routes a js [] (lying s.doors) s (map clears s.doors) (keeps_clear t a s.doors) h in
    let v : Seat = takes_all home (lying s.doors) u in
    let q = move_all t routes a (lying s.doors) js u p.sits in
    let x : Seat = worked home v in
    let r = move_work t routes a (works_left home.role v.state) q.journal v q.step.sits in
    let rest : Moves t routes a js (lying s.doors) [] u x = move_twice t routes a js (lying s.doors) [] [] u v x q r in
    record {
      moves = record { journal = rest.journal; step = step_twice t routes a js js rest.journal [] (lying s.doors) [] s u x p rest.step };
      taken = λ b k c. cleared_none b s.doors k (rest.step.fewer b k c);
    }

---- A tick, and an act

-- it lets nothing through, and no parcel comes to it
pub record Stays (t : Network) (routes : Routes) (a : ℕ) (js : List Entry) (s u : Seat) : Type 0 where
  pub moves : Moves t routes a js [] [] s u
  pub out : (b : ℕ) → (door_to b u.doors).out ≡ (door_to b s.doors).out

stays_entry : (t : Network) (routes : Routes) (a : ℕ) (js : List Entry) (e : Entry) (s : Seat) → IsLinked t a e → Sits t routes a js [] s → Stays t routes a js s (enters (home_in t routes a) e s)
unfolding enters
stays_entry t routes a js e s link h = record { moves = move_entry t routes a js [] e s link h; out = λ b. refl }

pub move_ticked : (t : Network) (routes : Routes) → Given t routes → (a second : ℕ) (js : List Entry) (s : Seat) → Sits t routes a js [] s → Stays t routes a js s (ticked (home_in t routes a) second s)
unfolding ticked enters
move_ticked t routes given a second js s h =
    let home : Home = home_in t routes a in
    let u : Seat = enters home (tick_at second) s in
    let p = move_entry t routes a js [] (tick_at second) s tt h in
    let late : All (Contains (told home js).out) (overdue s) =
    All-filter (is_overdue s.unsaid s.doors) (Contains (told home js).out) s.state.base.waiting (subst (λ (z : AgentState). All (Contains (told home js).out) z.base.waiting) h.state (waiting_was_caused home js)) in
    let k = keeps_said t routes a (overdue s) [] s.doors (ways t routes given a js (overdue s) h.within h.heard late) in
    let q = step_doors t routes a p.journal [] [] u (says_all home.agent_of (overdue s) s.doors) k p.step.sits in
    record {
      moves = move_twice t routes a js [] [] [] s u (ticked home second s) p (record { journal = p.journal; step = q });
      out = λ b. says_keeps (λ d. d.out ≡ (door_to b s.doors).out) (λ x d z. z) b home.agent_of (overdue s) s.doors refl;
    }

stays_changed : (t : Network) (routes : Routes) (a c : ℕ) (f : Seat → Seat) (js : List Entry) (s : Seat) → Sits t routes a js [] s → (a ≡ c → Stays t routes a js s (f s)) → Stays t routes a js s (changes c f s)
stays_changed t routes a c f js s h g = elim (cases_eq s.number c) [
  | inl e ↦ subst (Stays t routes a js s) (sym (ap (λ b. cond b (f s) s) (eq-eqb s.number c e))) (g (sym h.number ∙ e))
  | inr n ↦ subst (Stays t routes a js s) (sym (ap (λ b. cond b (f s) s) (ne_eqb s.number c n))) (record { moves = move_none t routes a js [] s h; out = λ b. refl })
]

pub move_does : (t : Network) (routes : Routes) (a : ℕ) (act : Act) → RestartsNone act → (count : ℕ) (js : List Entry) (s : Seat) → Sits t routes a js [] s → Stays t routes a js s (does act count (home_in t routes) s)
move_does t routes a (Act.Ask c ask) none count js s h = stays_changed t routes a c (asked (home_in t routes c) count ask) js s h
    (λ e. subst (λ n. Stays t routes a js s (asked (home_in t routes n) count ask s)) e (stays_entry t routes a js (now_at s (Input.Ask count ask)) s tt h))
move_does t routes a (Act.Force c n) none count js s h = stays_changed t routes a c (forced (home_in t routes c) n) js s h
    (λ e. subst (λ k. Stays t routes a js s (forced (home_in t routes k) n s)) e (stays_entry t routes a js (now_at s (Input.Force n)) s tt h))
move_does t routes a (Act.Restart c) none count js s h = absurd none
