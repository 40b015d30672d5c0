-- At the end of a play all is synced, and no work waits.
use Rattle.std.proofs.Common.{ℕ, zero, suc, ◌+◌, ◌≡◌, ◌==◌, ◌&&◌, Bool, true, false, List, [], ◌∷◌, Option, Some, None, is_none, inl, inr, refl, sym, ap, ◌∙◌, arith, length, map, eqb-true, length-append}
use Rattle.std.specs.List.{All}
use Rattle.std.proofs.lemmas.Bool.{cases_Bool, and_parts}
use Rattle.std.proofs.lemmas.List.{length-take-le}
use Rattle.std.proofs.lemmas.List.Elements.{All-nil, All-cons, All-head, All-tail}
use Rattle.nsi_primitive.specs.declared.entry.Entry.{Entry}
use Rattle.stp_topology.specs.declared.network.Network.{Network}
use Rattle.agent_state.specs.State.{AgentState, blank_agent}
use Rattle.nsi_agent.specs.Homes.{Role, provides, aggregates, requests, Home, Routes, home_in}
use Rattle.nsi_agent.specs.Steps.{work_of}
use Rattle.nsi_script.specs.declared.script.Group.{Group}
use Rattle.agent_node.specs.Passing.{all_idle}
use Rattle.agent_node.specs.Seat.{Seat}
use Rattle.agent_node.specs.Acts.{is_quiet}
use Rattle.agent_link.specs.Plans.{Plan}
use Rattle.agent_node.specs.Openings.{agents, others_of, opened, seat_of}
use Rattle.nsi_play.specs.Openings.{Plans, opening}
use Rattle.nsi_play.specs.Rounds.{Net, round, emptied, is_quiet_in, all_quiet}
use Rattle.nsi_play.specs.Play.{Played, settles, asks_among, begins, group, plays}
use Rattle.nsi_play.proofs.Settling.{settle_quiet, settle_more, settle_stop, group_is, plays_cons, plays_nil, then_over, then_stopped}
use Rattle.nsi_world.specs.Worlds.{Homes, World, synced_part}
use Rattle.nsi_world.specs.Heard.{IsFair}
use Rattle.nsi_world.specs.Seats.{Stands}
use Rattle.nsi_world.specs.Nets.{numbers, AllStand}
use Rattle.nsi_world.specs.Rest.{IsAtRest}

never : {X : Type 0} (b : Bool) → b ≡ false → b ≡ true → X
never b p q = absurd (cc)

---- Quiet at the end

settles_quiet : (most : ℕ) (homes : Homes) (x : Net) → (settles most homes x).is_over ≡ true → all_quiet homes (settles most homes x).net ≡ true
settles_quiet zero homes x over = elim (cases_Bool (all_quiet homes x)) [
  | inl q ↦ ap (λ (p : Played). all_quiet homes p.net) (settle_quiet 0 homes x q) ∙ q
  | inr q ↦ never false refl (sym (ap (λ (p : Played). p.is_over) (settle_stop homes x q)) ∙ over)
]
settles_quiet (suc most) homes x over = elim (cases_Bool (all_quiet homes x)) [
  | inl q ↦ ap (λ (p : Played). all_quiet homes p.net) (settle_quiet (suc most) homes x q) ∙ q
  | inr q ↦
      let more = settle_more most homes x q in
      ap (λ (p : Played). all_quiet homes p.net) more ∙ settles_quiet most homes (emptied (round homes x)) (sym (ap (λ (p : Played). p.is_over) more) ∙ over)
]

group_quiet : (most : ℕ) (g : Group) (count : ℕ) (homes : Homes) (x : Net) → (group most g count homes x).is_over ≡ true → all_quiet homes (group most g count homes x).net ≡ true
group_quiet most g count homes x over =
    let same = group_is most g count homes x in
    ap (λ (p : Played). all_quiet homes p.net) same ∙ settles_quiet most homes (begins g count homes x).net (sym (ap (λ (p : Played). p.is_over) same) ∙ over)

pub plays_quiet : (most : ℕ) (gs : List Group) (count : ℕ) (homes : Homes) (x : Net) → all_quiet homes x ≡ true → (plays most gs count homes x).is_over ≡ true → all_quiet homes (plays most gs count homes x).net ≡ true
plays_quiet most [] count homes x quiet over = ap (λ (p : Played). all_quiet homes p.net) (plays_nil most count homes x) ∙ quiet
plays_quiet most (g ∷ gs) count homes x quiet over =
    let p : Played = group most g count homes x in
    let n : ℕ = count + asks_among g.acts in
    let first = plays_cons most g gs count homes x in
    elim (cases_Bool p.is_over) [
      | inl o ↦
          let whole = first ∙ then_over p (plays most gs n homes) o in
          ap (λ (z : Played). all_quiet homes z.net) whole ∙ plays_quiet most gs n homes p.net (group_quiet most g count homes x o) (sym (ap (λ (z : Played). z.is_over) whole) ∙ over)
      | inr o ↦ never p.is_over o (sym (ap (λ (z : Played). z.is_over) (first ∙ then_stopped p (plays most gs n homes) o)) ∙ over)
    ]

---- Before anything has happened

no_work : (role : Role) → is_none (work_of role blank_agent) ≡ true
no_work (provides setting stp_of) = refl
no_work (aggregates setting) = refl
no_work (requests setting) = refl

no_parcels : (plans : ℕ → Plan) (bs : List ℕ) → all_idle (map (opened plans) bs) ≡ true
no_parcels plans [] = refl
no_parcels plans (b ∷ bs) = no_parcels plans bs

seat_quiet : (homes : Homes) (t : Network) (plans : Plans) (a : ℕ) → is_quiet_in homes (seat_of t plans a) ≡ true
unfolding is_quiet
seat_quiet homes t plans a = ap (λ b. b && all_idle (map (opened (plans a)) (others_of t a))) (no_work (homes a).role) ∙ no_parcels (plans a) (others_of t a)

seats_quiet : (homes : Homes) (t : Network) (plans : Plans) (ns : List ℕ) → all_quiet homes (map (seat_of t plans) ns) ≡ true
seats_quiet homes t plans [] = refl
seats_quiet homes t plans (n ∷ ns) = ap (λ b. b && all_quiet homes (map (seat_of t plans) ns)) (seat_quiet homes t plans n) ∙ seats_quiet homes t plans ns

pub opening_quiet : (t : Network) (routes : Routes) (plans : Plans) → all_quiet (home_in t routes) (opening t plans) ≡ true
opening_quiet t routes plans = seats_quiet (home_in t routes) t plans (agents t)

---- What that says of a world

none_left : {X : Type 0} (o : Option X) → is_none o ≡ true → o ≡ None
none_left None e = refl
none_left (Some x) e = absurd (cc)

quiet_parts : (h : Home) (s : Seat) → is_quiet h s ≡ true → (length s.fresh ≡ 0) × (work_of h.role s.state ≡ None)
unfolding is_quiet
quiet_parts h s q =
    let p = and_parts (length s.fresh == 0) (is_none (work_of h.role s.state) && all_idle s.doors) q in
    let r = and_parts (is_none (work_of h.role s.state)) (all_idle s.doors) p.1 in
    (eqb-true (length s.fresh) 0 p.0, none_left (work_of h.role s.state) r.0)

seat_rests : (homes : Homes) (clock : ℕ) (w : World) (s : Seat) → IsFair homes w → Stands homes clock w s → is_quiet_in homes s ≡ true → IsAtRest homes w s.number
seat_rests homes clock w s fair h q =
    let a : ℕ = s.number in
    let parts = quiet_parts (homes a) s q in
    let js : List Entry = w.journal a in
    let none = parts.0 in
    record {
      synced = omega (arith, none, ap length h.journal, length-append (synced_part w a) s.fresh, length-take-le (w.synced a) js (fair.within a));
      idle = ap (λ (z : AgentState). work_of (homes a).role z) h.state ∙ parts.1;
    }

rest_from : (homes : Homes) (clock : ℕ) (w : World) (net : Net) → IsFair homes w → All (Stands homes clock w) net → all_quiet homes net ≡ true → All (IsAtRest homes w) (numbers net)
rest_from homes clock w [] fair h q = All-nil (IsAtRest homes w)
rest_from homes clock w (s ∷ ss) fair h q =
    let p = and_parts (is_quiet_in homes s) (all_quiet homes ss) q in
    All-cons (IsAtRest homes w) s.number (numbers ss) (seat_rests homes clock w s fair (All-head (Stands homes clock w) s ss h) p.0) (rest_from homes clock w ss fair (All-tail (Stands homes clock w) s ss h) p.1)

pub all_rest : (homes : Homes) (clock : ℕ) (w : World) (net : Net) → AllStand homes clock w net → all_quiet homes net ≡ true → All (IsAtRest homes w) (numbers net)
all_rest homes clock w net h q = rest_from homes clock w net h.fair h.stand q
