-- A pair of agents is made afresh where the one has queued all that waits: behind a tick, and behind a restart.
use Rattle.std.proofs.Common.{ℕ, ◌<◌, ◌≡◌, ◌==◌, ◌&&◌, ◌||◌, Bool, true, false, cond, not, List, [], ◌∷◌, Option, Some, ◌⊎◌, inl, inr, refl, sym, ap, ◌∙◌, subst, arith, length, drop, take-append-drop, eqb-true}
use Rattle.std.specs.List.{All, Contains, filter, list_any}
use Rattle.std.proofs.lemmas.Bool.{and_parts}
use Rattle.std.proofs.lemmas.List.Elements.{All-contains, Contains-append_left, Contains-append_right, Contains-append_cases}
use Rattle.nsi_primitive.specs.Kinds.{is_request_kind}
use Rattle.nsi_primitive.specs.Messages.{identity, addressee, is_request}
use Rattle.nsi_primitive.specs.declared.entry.Entry.{Entry}
use Rattle.nsi_primitive.specs.declared.entry.Input.{Input}
use Rattle.nsi_primitive.specs.declared.message.Identity.{Identity}
use Rattle.nsi_primitive.specs.declared.message.Message.{Message}
use Rattle.nsi_primitive.specs.declared.message.Parcel.{Parcel}
use Rattle.message_retry.specs.Retry.{is_waiting}
use Rattle.stp_topology.specs.Network.{agent_of}
use Rattle.stp_topology.specs.declared.network.Network.{Network}
use Rattle.agent_state.specs.State.{AgentState, AgentStepped}
use Rattle.nsi_agent.specs.Homes.{Home, Routes, home_in}
use Rattle.nsi_agent.specs.Steps.{after, may_take_as}
use Rattle.nsi_agent.specs.Told.{told, IsSame, IsSameTo, WasGot}
use Rattle.nsi_agent.proofs.Entering.{entered}
use Rattle.nsi_agent.proofs.Staying.{left_out_by}
use Rattle.nsi_agent.proofs.Telling.{waiting_was_caused}
use Rattle.agent_node.specs.Acts.{is_overdue, overdue, tick_at, ticked}
use Rattle.agent_node.specs.Doors.{Door}
use Rattle.agent_node.specs.Passing.{others, says_all, is_queued, is_message, is_idle, all_idle}
use Rattle.agent_node.specs.Seat.{Seat, enters}
use Rattle.agent_node.specs.Openings.{others_of}
use Rattle.nsi_play.specs.Openings.{Plans}
use Rattle.nsi_world.specs.Worlds.{Homes, World, synced_part}
use Rattle.nsi_world.proofs.Acked.{IsGotOf, AcksGot, AcksAreOfGot}
use Rattle.nsi_world.proofs.Names.{home_leads}
use Rattle.settled_play.specs.Settled.{WasAcked}
use Rattle.settled_play.proofs.Finding.{door_to, first_there, later_there, first_or_later, said_there}
use Rattle.settled_play.proofs.Links.{Given, IsLinked, Way, said_goes}
use Rattle.settled_play.proofs.Pairs.{IsFor, IsWithin, Pair}
use Rattle.settled_play.proofs.Steps.{IsSpoken, Sits}
use Rattle.settled_play.proofs.Waiting.{waits_or_acked}

---- A pair afresh

-- all that waits at an agent for another one isn't said yet, or is to be pushed
abbrev pub AllSpoken : Network → ℕ → Seat → Type 0
AllSpoken t b s = (m : Message) → IsFor t b m → Contains s.state.base.waiting m → IsSpoken b s m

-- what the one has taken the acknowledgement of, the other one got
abbrev pub AckedWasGot : Network → Routes → (a b : ℕ) → (js ks : List Entry) → Type 0
AckedWasGot t routes a b js ks = (m : Message) → IsFor t b m → Contains (told (home_in t routes a) js).out m → WasAcked (identity m) js → WasGot m ks

-- whatever was on the way before, and whatever was lost
pub pair_afresh : {plans : Plans} (t : Network) (routes : Routes) (a b : ℕ) (js ks : List Entry) (s u : Seat) → (told (home_in t routes a) js).state ≡ s.state → AllSpoken t b s → AckedWasGot t routes a b js ks
    → IsWithin (plans a b) b [] s → IsWithin (plans b a) a [] u → Pair t routes plans a b js ks [] [] s u
pair_afresh {plans} t routes a b js ks s u state spoken got within within_back = record {
  there = [];
  back = [];
  within = within;
  within_back = within_back;
  heard = λ m e c. elim (waits_or_acked (home_in t routes a) js m c) [
    | inl w ↦ inl (inl (inl (spoken m e (subst (λ (z : AgentState). Contains z.base.waiting m) state w))))
    | inr k ↦ inr (got m e c k)
  ];
  acked = λ m e c. elim (waits_or_acked (home_in t routes a) js m c) [
    | inl w ↦ inl (inl (inl (spoken m e (subst (λ (z : AgentState). Contains z.base.waiting m) state w))))
    | inr k ↦ inr (inr k)
  ];
}

---- What waits is queued

some_same : (x y : ℕ) → Some x ≡ Some y → x ≡ y
some_same x y q = cc

-- what waits at an agent that has taken these entries goes along one of its links
way_of : (t : Network) (routes : Routes) → Given t routes → (a b : ℕ) (js : List Entry) (m : Message) → a < length t.agents → All (IsLinked t a) js → IsFor t b m → Contains (told (home_in t routes a) js).state.base.waiting m
    → Contains (others_of t a) b
way_of t routes given a b js m lt heard e c =
    let caused = All-contains (Contains (told (home_in t routes a) js).out) (told (home_in t routes a) js).state.base.waiting m (waiting_was_caused (home_in t routes a) js) c in
    let w : Way t a m = said_goes t routes given a js m lt heard caused in
    subst (Contains (others_of t a)) (some_same w.to b (sym w.goes.0 ∙ e)) w.link

leads : (t : Network) (routes : Routes) (a b : ℕ) (m : Message) → IsFor t b m → (home_in t routes a).agent_of (addressee (identity m)) ≡ Some b
leads t routes a b m e = ap (λ (f : List ℕ → Option ℕ). f (addressee (identity m))) (home_leads t routes a) ∙ e

---- A restart

-- an agent that has read these entries, and whose doors these were
pub read_spoken : (t : Network) (routes : Routes) → Given t routes → (a b : ℕ) (es : List Entry) (ds : List Door) (s : Seat) → a < length t.agents → All (IsLinked t a) es → others ds ≡ others_of t a → s.state ≡ (told (home_in t routes a) es).state
    → s.doors ≡ says_all (home_in t routes a).agent_of (told (home_in t routes a) es).state.base.waiting ds → AllSpoken t b s
read_spoken t routes given a b es ds s lt heard same state doors m e c =
    let home : Home = home_in t routes a in
    let waits : Contains (told home es).state.base.waiting m = subst (λ (z : AgentState). Contains z.base.waiting m) state c in
    let link : Contains (others ds) b = subst (λ ns. Contains ns b) (sym same) (way_of t routes given a b es m lt heard e waits) in
    inr (inl (subst (λ (z : List Door). Contains (door_to b z).queue (Parcel.Message m)) (sym doors) (said_there home.agent_of b m (told home es).state.base.waiting ds waits (leads t routes a b m e) link)))

---- A tick

waits_more : (h : Home) (s : AgentState) (second : ℕ) (m : Message) → Contains (after h s (tick_at second)).state.base.waiting m → Contains s.base.waiting m ⊎ Contains (after h s (tick_at second)).out m
waits_more h s second m c = by (may_take_as h.role s (tick_at second)) refl
  where
    by : (b : Bool) → may_take_as h.role s (tick_at second) ≡ b → Contains s.base.waiting m ⊎ Contains (after h s (tick_at second)).out m
    by true may = Contains-append_cases s.base.waiting (after h s (tick_at second)).out m (subst (λ ms. Contains ms m) (entered h.role s (tick_at second) may).waiting c)
    by false not = inl (subst (λ (x : AgentStepped). Contains x.state.base.waiting m) (left_out_by h.role s (tick_at second) not) c)

filtered : (f : Message → Bool) (ms : List Message) (m : Message) → f m ≡ true → Contains ms m → Contains (filter f ms) m
filtered f [] m e c = c
filtered f (x ∷ xs) m e c = by (f x) refl (first_or_later x xs m c) (filtered f xs m e)
  where
    never : (b : Bool) → b ≡ false → b ≡ true → ⊥
    never b p q = absurd (cc)

    by : (b : Bool) → f x ≡ b → (x ≡ m) ⊎ Contains xs m → (Contains xs m → Contains (filter f xs) m) → Contains (cond b (x ∷ filter f xs) (filter f xs)) m
    by true q (inl same) more = subst (λ z. Contains (x ∷ filter f xs) z) same (first_there x (filter f xs))
    by true q (inr later) more = later_there x (filter f xs) m (more later)
    by false q (inl same) more = absurd (never (f x) q (ap f same ∙ e))
    by false q (inr later) more = more later

none_waits : (i : Identity) (ms : List Message) → ms ≡ [] → is_waiting i ms ≡ false
unfolding is_waiting
none_waits i [] e = refl
none_waits i (m ∷ ms) e = absurd (cc)

no_parcels : (i : Identity) (ps : List Parcel) → length ps ≡ 0 → list_any (is_message i) ps ≡ false
no_parcels i [] e = refl
no_parcels i (p ∷ ps) e = absurd (omega (arith, e))

idle_queues : (i : Identity) (ds : List Door) → all_idle ds ≡ true → is_queued i ds ≡ false
idle_queues i [] q = refl
idle_queues i (d ∷ ds) q =
    let p = and_parts (is_idle d) (all_idle ds) q in
    let r = and_parts (length d.queue == 0) (length d.inc == 0) p.0 in
    ap (λ (b : Bool). b || is_queued i ds) (no_parcels i d.queue (eqb-true (length d.queue) 0 r.0)) ∙ idle_queues i ds p.1

late : (unsaid : List Message) (ds : List Door) (m : Message) → unsaid ≡ [] → all_idle ds ≡ true → is_overdue unsaid ds m ≡ true
late unsaid ds m e q = ap (λ (b : Bool). not b && not (is_queued (identity m) ds)) (none_waits (identity m) unsaid e) ∙ ap (λ (b : Bool). not b) (idle_queues (identity m) ds q)

-- behind its tick, of an agent that has nothing to say and to push
pub ticked_spoken : (t : Network) (routes : Routes) → Given t routes → (a second b : ℕ) (js : List Entry) (s : Seat) → Sits t routes a js [] s → s.unsaid ≡ [] → all_idle s.doors ≡ true → AllSpoken t b (ticked (home_in t routes a) second s)
unfolding ticked enters
ticked_spoken t routes given a second b js s h none idle m e c =
    let home : Home = home_in t routes a in
    elim (waits_more home s.state second m c) [
      | inl w ↦
          let waits : Contains (told home js).state.base.waiting m = subst (λ (z : AgentState). Contains z.base.waiting m) (sym h.state) w in
          let link : Contains (others s.doors) b = subst (λ ns. Contains ns b) (sym h.others) (way_of t routes given a b js m h.within h.heard e waits) in
          inr (inl (said_there home.agent_of b m (overdue s) s.doors (filtered (is_overdue s.unsaid s.doors) s.state.base.waiting m (late s.unsaid s.doors m none idle) w) (leads t routes a b m e) link))
      | inr o ↦ inl (Contains-append_right s.unsaid (after home s.state (tick_at second)).out m o)
    ]

---- What was acknowledged was got

request_as : (m n : Message) → identity n ≡ identity m → is_request n.body ≡ is_request m.body
request_as m n e = ap (λ (i : Identity). is_request_kind i.kind) e

header_as : (m n : Message) → identity n ≡ identity m → n.header ≡ m.header
header_as m n e = ap (λ (i : Identity). record { correlation = i.correlation; requester = i.requester; provider = i.provider }) e

same_as : (m n : Message) → identity n ≡ identity m → IsSame m n
same_as m n e = by (is_request m.body) refl
  where
    by : (b : Bool) → is_request m.body ≡ b → IsSameTo b m n
    by true q = (request_as m n e ∙ q, header_as m n e)
    by false q = e

-- what an agent has taken the acknowledgement of was got by the one that it is for, by synced entries, which stay
pub acked_was_got : (t : Network) (routes : Routes) (w : World) (a b : ℕ) → AcksAreOfGot (home_in t routes) w → AckedWasGot t routes a b (w.journal a) (w.journal b)
acked_was_got t routes w a b all m e c acked =
    let homes : Homes = home_in t routes in
    let g : IsGotOf homes w (identity m) = subst (AcksGot homes w) acked.2 (all.acks a acked.0 acked.1) in
    let n : Message = g.message in
    let entry : Entry = record { second = g.got.second; input = Input.Got n } in
    let there : Contains (w.journal g.by) entry =
    subst (λ (es : List Entry). Contains es entry) (take-append-drop (w.synced g.by) (w.journal g.by)) (Contains-append_left (synced_part w g.by) (drop (w.synced g.by) (w.journal g.by)) entry g.got.there) in
    let named : addressee (identity m) ≡ (homes g.by).name = ap addressee (sym g.same) ∙ g.addressed in
    let here : Some g.by ≡ Some b = sym (all.agents g.by entry there) ∙ (ap (λ (f : List ℕ → Option ℕ). f (homes g.by).name) (home_leads t routes g.by) ∙ (ap (agent_of t) (sym named) ∙ e)) in
    subst (λ x. WasGot m (w.journal x)) (some_same g.by b here) (entry, there, same_as m n g.same)
