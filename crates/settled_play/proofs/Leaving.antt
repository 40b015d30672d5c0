-- What a play leaves: nothing but what was lost.
use Rattle.std.proofs.Common.{ℕ, ◌<◌, ◌≤◌, ◌+◌, ◌≡◌, ◌⊎◌, true, false, List, [], ◌++◌, Option, Some, None, inl, inr, refl, sym, ap, ◌∙◌, subst, arith, length, get_or, length-append}
use Rattle.std.specs.List.{All, Contains}
use Rattle.std.proofs.lemmas.Bool.{cases_eq}
use Rattle.std.proofs.lemmas.List.{take_all}
use Rattle.std.proofs.lemmas.List.Elements.{Contains-get_or, Contains-append_left, Contains-append_right}
use Rattle.nsi_primitive.specs.Kinds.{kind_number}
use Rattle.nsi_primitive.specs.Messages.{identity, addressee, kind_of}
use Rattle.nsi_primitive.specs.declared.entry.Entry.{Entry}
use Rattle.nsi_primitive.specs.declared.entry.Event.{Event}
use Rattle.nsi_primitive.specs.declared.kind.Kind.{Kind}
use Rattle.nsi_primitive.specs.declared.message.Message.{Message}
use Rattle.nsi_primitive.specs.declared.message.Parcel.{Parcel}
use Rattle.stp_topology.specs.Network.{agent_of}
use Rattle.stp_topology.specs.declared.network.Network.{Network}
use Rattle.nsi_agent.specs.Homes.{Routes, home_in}
use Rattle.nsi_agent.specs.Told.{told, WasGot}
use Rattle.agent_link.specs.Plans.{parcel_number}
use Rattle.agent_link.specs.declared.plan.ParcelKind.{ParcelKind}
use Rattle.agent_speech.specs.Laws.{NothingIsSaidTwice}
use Rattle.agent_node.specs.Seat.{Seat}
use Rattle.nsi_play.specs.Openings.{Plans, opening}
use Rattle.nsi_play.specs.Rounds.{Net, Homes, is_quiet_in, all_quiet}
use Rattle.nsi_play.specs.Play.{Played, plays}
use Rattle.nsi_world.specs.Worlds.{World, empty, IsTo, said}
use Rattle.nsi_world.specs.Runs.{world_after}
use Rattle.nsi_world.specs.Laws.{PlayStands, PlayRests}
use Rattle.nsi_world.specs.Seats.{AreFree}
use Rattle.nsi_world.specs.Nets.{AllStand}
use Rattle.settled_play.specs.Settled.{AllBut, WasAcked, IsOf, IsHeard, IsOver, losses, cut_off, GoesOn, LeavesOnlyLost, PlaySettles, LoseNothing, IsDone, PlayLeavesNone}
use Rattle.settled_play.proofs.Finding.{idle_door}
use Rattle.nsi_world.proofs.Names.{home_name}
use Rattle.nsi_world.proofs.Given.{AreLaws}
use Rattle.nsi_world.proofs.Names.{given_in}
use Rattle.nsi_world.proofs.ScriptLemmas.{rise_from, groups_of}
use Rattle.nsi_world.proofs.Opening.{opening_stands, may_act_all}
use Rattle.nsi_world.proofs.Resting.{opening_quiet}
use Rattle.settled_play.proofs.Links.{Given, IsLinked, Way, agent_there, others_within, said_goes}
use Rattle.settled_play.proofs.Pairs.{IsFor, IsEmpty, Pair, pair_heard, pair_acked}
use Rattle.settled_play.proofs.Putting.{counted, ahead}
use Rattle.settled_play.proofs.Places.{places_of, as_many, place_there, said_once, ahead_within, losses_none}
use Rattle.settled_play.proofs.Journals.{journal_at}
use Rattle.settled_play.proofs.Cuts.{none_cut}
use Rattle.settled_play.proofs.Quiet.{no_entries, quiet_one, quiet_parts}
use Rattle.settled_play.proofs.Rounds.{SitsIn, HasMetAll, Rests, numbered}
use Rattle.settled_play.proofs.Plays.{Ends, plays_end, opening_rests}

quiet_empty : (t : Network) (routes : Routes) (past : List Event) (s : Seat) → SitsIn t routes past s → HasMetAll s → is_quiet_in (home_in t routes) s ≡ true → IsEmpty s
quiet_empty t routes past s h met q =
    let p = quiet_parts (home_in t routes s.number) s q in
    record { unsaid = h.clear (no_entries s.fresh p.0); queue = λ b. (idle_door b s.doors p.1).0; out = met; inc = λ b. (idle_door b s.doors p.1).1 }

---- What an agent has said

-- what two agents leave between them: what the one has caused for the other one was got, or was lost; and its acknowledgement was taken, or one
-- of the two was lost
record Left (t : Network) (routes : Routes) (plans : Plans) (past : List Event) (a b : ℕ) : Type 0 where
  pub there : List Parcel
  pub back : List Parcel
  pub few : (n : ℕ) → counted n there ≤ ahead n (plans a b)
  pub few_back : (n : ℕ) → counted n back ≤ ahead n (plans b a)
  pub heard : (m : Message) → IsFor t b m → Contains (told (home_in t routes a) (journal_at a past)).out m → WasGot m (journal_at b past) ⊎ Contains there (Parcel.Message m)
  pub acked : (m : Message) → IsFor t b m → Contains (told (home_in t routes a) (journal_at a past)).out m
      → WasAcked (identity m) (journal_at a past) ⊎ (Contains there (Parcel.Message m) ⊎ Contains back (Parcel.Ack (identity m)))

left_between : (t : Network) (routes : Routes) (plans : Plans) (past : List Event) (net : Net) → Rests t routes plans past net → all_quiet (home_in t routes) net ≡ true → (a b : ℕ) → a < length t.agents → b < length t.agents → cut_off a b past ≡ false → Left t routes plans past a b
left_between t routes plans past net r quiet a b la lb cut =
    let homes : Homes = home_in t routes in
    let x = numbered net a (subst (λ ns. Contains ns a) (sym r.numbers) (agent_there t a la)) in
    let y = numbered net b (subst (λ ns. Contains ns b) (sym r.numbers) (agent_there t b lb)) in
    let none = λ (s : Seat) (k : Contains net s). quiet_empty t routes past s (r.sits s k) (r.met s k) (quiet_one homes net s quiet k) in
    let q : Pair t routes plans x.0.number y.0.number (journal_at x.0.number past) (journal_at y.0.number past) [] [] x.0 y.0 = r.pairs x.0 y.0 x.1 y.1 (subst (λ n. cut_off n y.0.number past ≡ false) (sym x.2) (subst (λ n. cut_off a n past ≡ false) (sym y.2) cut)) in
    let left : Left t routes plans past x.0.number y.0.number = record {
      there = q.there;
      back = q.back;
      few = λ n. let h = q.within n in omega (arith, h);
      few_back = λ n. let h = q.within_back n in omega (arith, h);
      heard = λ m e c. pair_heard t routes x.0.number y.0.number (journal_at x.0.number past) (journal_at y.0.number past) x.0 y.0 m (none x.0 x.1) (none y.0 y.1) q e c;
      acked = λ m e c. pair_acked t routes x.0.number y.0.number (journal_at x.0.number past) (journal_at y.0.number past) x.0 y.0 m (none x.0 x.1) (none y.0 y.1) q e c;
    } in
    subst (λ n. Left t routes plans past n b) x.2 (subst (λ n. Left t routes plans past x.0.number n) y.2 left)

---- Whether it is for an agent

some_same : (c b : ℕ) → Some c ≡ Some b → c ≡ b
some_same c b q = cc

whether : (o : Option ℕ) (b : ℕ) → (o ≡ Some b) ⊎ (o ≡ Some b → ⊥)
whether None b = inr (λ q. absurd (cc))
whether (Some c) b = elim (cases_eq c b) [ inl e ↦ inl (ap (λ z. Some z) e) | inr n ↦ inr (λ q. n (some_same c b q)) ]

---- The world at the end

-- the world that these events make, in which all is synced
pub record IsWorld (t : Network) (routes : Routes) (past : List Event) (w : World) : Type 0 where
  pub journal : (a : ℕ) → w.journal a ≡ journal_at a past
  pub synced : (a : ℕ) → a < length t.agents → w.synced a ≡ length (w.journal a)

said_is : (t : Network) (routes : Routes) (past : List Event) (w : World) (a : ℕ) → IsWorld t routes past w → a < length t.agents → said (home_in t routes) w a ≡ (told (home_in t routes a) (journal_at a past)).out
said_is t routes past w a is lt =
    let s = is.synced a lt in
    ap (λ (es : List Entry). (told (home_in t routes a) es).out) (take_all (w.synced a) (w.journal a) (omega (arith, s)) ∙ is.journal a)

for_it : (t : Network) (routes : Routes) → Given t routes → (b : ℕ) (m : Message) → b < length t.agents → IsTo (home_in t routes) b m → IsFor t b m
for_it t routes given b m lb to = ap (agent_of t) (to ∙ home_name t routes b) ∙ given.formed.agents b lb

-- what one agent has said to another one
module _ (t : Network) (routes : Routes) (given : Given t routes) (law : NothingIsSaidTwice) (plans : Plans) (past : List Event) (w : World) (is : IsWorld t routes past w) (a b : ℕ) (kind : Kind) (lb : b < length t.agents) (l : Left t routes plans past a b) where
  abbrev out : List Message
  out = (told (home_in t routes a) (journal_at a past)).out

  abbrev number : ℕ
  number = parcel_number (ParcelKind.Message kind)

  abbrev lost : List ℕ
  lost = places_of number l.there out

  abbrev lost_back : List ℕ
  lost_back = places_of (parcel_number ParcelKind.Ack) l.back out

  few_lost : length lost ≤ losses (ParcelKind.Message kind) (plans a b)
  few_lost =
      let many = as_many number l.there out in
      let few = l.few number in
      let within = ahead_within (ParcelKind.Message kind) (plans a b) in
      omega (arith, many, few, within)

  few_lost_back : length lost_back ≤ losses ParcelKind.Ack (plans b a)
  few_lost_back =
      let many = as_many (parcel_number ParcelKind.Ack) l.back out in
      let few = l.few_back (parcel_number ParcelKind.Ack) in
      let within = ahead_within ParcelKind.Ack (plans b a) in
      omega (arith, many, few, within)

  -- its place, where it was lost and is of that kind
  place_lost : (k : ℕ) (d : Message) → k < length out → Contains l.there (Parcel.Message (get_or out k d)) → (IsOf (home_in t routes) b kind (get_or out k d) → ⊥) ⊎ Contains lost k
  place_lost k d within c =
      let m : Message = get_or out k d in
      elim (cases_eq (kind_number (kind_of m.body)) (kind_number kind)) [
        | inl e ↦ inr (subst (λ n. Contains lost n) (said_once law (home_in t routes a) (journal_at a past) k d within) (place_there number l.there (Parcel.Message m) out c e))
        | inr n ↦ inl (λ of. n (ap (λ z. kind_number z) of.1))
      ]

  place_back : (k : ℕ) (d : Message) → k < length out → Contains l.back (Parcel.Ack (identity (get_or out k d))) → Contains lost_back k
  place_back k d within c =
      subst (λ n. Contains lost_back n) (said_once law (home_in t routes a) (journal_at a past) k d within) (place_there (parcel_number ParcelKind.Ack) l.back (Parcel.Ack (identity (get_or out k d))) out c refl)

  heard_but : AllBut (losses (ParcelKind.Message kind) (plans a b)) (IsHeard (home_in t routes) w b kind) out
  heard_but = (lost, few_lost, λ k d within. by k d within (whether (agent_of t (addressee (identity (get_or out k d)))) b))
    where
      by : (k : ℕ) (d : Message) → k < length out → IsFor t b (get_or out k d) ⊎ (IsFor t b (get_or out k d) → ⊥) → IsHeard (home_in t routes) w b kind (get_or out k d) ⊎ Contains lost k
      by k d within (inr not) = inl (λ of. absurd (not (for_it t routes given b (get_or out k d) lb of.0)))
      by k d within (inl to) = elim (l.heard (get_or out k d) to (Contains-get_or out k d within)) [
        | inl got ↦ inl (λ of. subst (WasGot (get_or out k d)) (sym (is.journal b)) got)
        | inr gone ↦ elim (place_lost k d within gone) [ inl not ↦ inl (λ of. absurd (not of)) | inr c ↦ inr c ]
      ]

  over_but : AllBut (losses (ParcelKind.Message kind) (plans a b) + losses ParcelKind.Ack (plans b a)) (IsOver (home_in t routes) w a b kind) out
  over_but = (lost ++ lost_back, few, λ k d within. by k d within (whether (agent_of t (addressee (identity (get_or out k d)))) b))
    where
      few : length (lost ++ lost_back) ≤ losses (ParcelKind.Message kind) (plans a b) + losses ParcelKind.Ack (plans b a)
      few = let split = length-append lost lost_back in let x = few_lost in let y = few_lost_back in omega (arith, split, x, y)

      gone_there : (k : ℕ) (d : Message) → k < length out → Contains l.there (Parcel.Message (get_or out k d)) → IsOver (home_in t routes) w a b kind (get_or out k d) ⊎ Contains (lost ++ lost_back) k
      gone_there k d within gone = elim (place_lost k d within gone) [ inl not ↦ inl (λ of. absurd (not of)) | inr c ↦ inr (Contains-append_left lost lost_back k c) ]

      by : (k : ℕ) (d : Message) → k < length out → IsFor t b (get_or out k d) ⊎ (IsFor t b (get_or out k d) → ⊥) → IsOver (home_in t routes) w a b kind (get_or out k d) ⊎ Contains (lost ++ lost_back) k
      by k d within (inr not) = inl (λ of. absurd (not (for_it t routes given b (get_or out k d) lb of.0)))
      by k d within (inl to) = elim (l.heard (get_or out k d) to (Contains-get_or out k d within)) [
        | inl got ↦ elim (l.acked (get_or out k d) to (Contains-get_or out k d within)) [
          | inl acked ↦ inl (λ of. (subst (WasGot (get_or out k d)) (sym (is.journal b)) got, subst (WasAcked (identity (get_or out k d))) (sym (is.journal a)) acked))
          | inr gone ↦ elim gone [ inl c ↦ gone_there k d within c | inr c ↦ inr (Contains-append_right lost lost_back k (place_back k d within c)) ]
        ]
        | inr gone ↦ gone_there k d within gone
      ]

pub settled_in : (t : Network) (routes : Routes) → Given t routes → NothingIsSaidTwice → (plans : Plans) (past : List Event) (net : Net) → Rests t routes plans past net → all_quiet (home_in t routes) net ≡ true → IsWorld t routes past (world_after empty past)
    → LeavesOnlyLost t (home_in t routes) plans past
settled_in t routes given law plans past net r quiet is =
    let homes : Homes = home_in t routes in
    let w : World = world_after empty past in
    let left = left_between t routes plans past net r quiet in
    record {
      addressed = λ a la k d within.
          let m : Message = get_or (said homes w a) k d in
          let x = numbered net a (subst (λ ns. Contains ns a) (sym r.numbers) (agent_there t a la)) in
          let heard = subst (λ n. All (IsLinked t n) (journal_at n past)) x.2 (r.sits x.0 x.1).heard in
          let c : Contains (told (homes a) (journal_at a past)).out m = subst (λ ms. Contains ms m) (said_is t routes past w a is la) (Contains-get_or (said homes w a) k d within) in
          let way : Way t a m = said_goes t routes given a (journal_at a past) m la heard c in
          (way.to, others_within t a way.to way.link, way.goes.1 ∙ sym (home_name t routes way.to));
      heard = λ a b kind la lb cut.
          subst (AllBut (losses (ParcelKind.Message kind) (plans a b)) (IsHeard homes w b kind)) (sym (said_is t routes past w a is la)) (heard_but t routes given law plans past w is a b kind lb (left a b la lb cut));
      acknowledged = λ a b kind la lb cut.
          subst (AllBut (losses (ParcelKind.Message kind) (plans a b) + losses ParcelKind.Ack (plans b a)) (IsOver homes w a b kind)) (sym (said_is t routes past w a is la)) (over_but t routes given law plans past w is a b kind lb (left a b la lb cut));
    }

pub nothing_yet : world_after empty [] ≡ empty
unfolding world_after
nothing_yet = refl

pub play_settles : AreLaws → NothingIsSaidTwice → PlayStands → PlayRests → PlaySettles
play_settles laws once stands rests t routes plans groups events last sound formed routed rise may p =
    let given : Given t routes = record { own = laws.own; sound = sound; formed = formed; routed = routed } in
    let homes : Homes = home_in t routes in
    let free : AreFree homes empty (plays p.0 groups 0 homes (opening t plans)).events = subst (λ (z : Played). AreFree homes empty z.events) (sym p.1) (stands t routes plans groups events last formed rise may p).free in
    let e : Ends t routes plans [] (plays p.0 groups 0 homes (opening t plans)) =
    plays_end t routes given (given_in laws t routes) [] p.0 groups 0 0 (opening t plans) (rise_from groups rise) (may_act_all t routes groups (groups_of t groups may))
    (subst (λ (w : World). AllStand homes 0 w (opening t plans)) (sym nothing_yet) (opening_stands t routes plans formed)) (opening_rests t routes plans) (opening_quiet t routes plans) free (ap (λ (z : Played). z.is_over) p.1) in
    let end = subst (Ends t routes plans []) p.1 e in
    settled_in t routes given once plans events last end.rests end.quiet (record {
      journal = λ a. refl;
      synced = λ a lt. (rests t routes plans groups events last formed rise may p a lt).synced;
    })

---- Where nothing is lost

-- where it is so of all but none, it is so of each
none_but : {X : Type 0} (few : ℕ) (P : X → Type 0) (xs : List X) → few ≡ 0 → AllBut few P xs → All P xs
none_but few P xs none h k d within = elim (h.2 k d within) [
  | inl p ↦ p
  | inr c ↦ let most = h.1 in let there = c.1 in absurd (omega (arith, none, most, there))
]

-- then each message is got and acknowledged
each_done : (t : Network) (homes : Homes) (plans : Plans) (events : List Event) → LoseNothing plans → All GoesOn events → LeavesOnlyLost t homes plans events → (a : ℕ) → a < length t.agents
    → All (IsDone t homes (world_after empty events) a) (said homes (world_after empty events) a)
each_done t homes plans events nothing on h a lt k d within =
    let w : World = world_after empty events in
    let m : Message = get_or (said homes w a) k d in
    let to = h.addressed a lt k d within in
    let kind : ParcelKind = ParcelKind.Message (kind_of m.body) in
    let none : losses kind (plans a to.0) + losses ParcelKind.Ack (plans to.0 a) ≡ 0 = let x = losses_none kind (plans a to.0) (nothing a to.0) in let y = losses_none ParcelKind.Ack (plans to.0 a) (nothing to.0 a) in omega (arith, x, y) in
    let both = none_but (losses kind (plans a to.0) + losses ParcelKind.Ack (plans to.0 a)) (IsOver homes w a to.0 (kind_of m.body)) (said homes w a) none (h.acknowledged a to.0 (kind_of m.body) lt to.1 (none_cut a to.0 events on)) k d within (to.2, refl) in
    (to.0, to.1, to.2, both.0, both.1)

pub play_leaves_none : AreLaws → NothingIsSaidTwice → PlayStands → PlayRests → PlayLeavesNone
play_leaves_none laws once stands rests t routes plans groups events last none sound formed routed rise may p on a lt =
    each_done t (home_in t routes) plans events none on (play_settles laws once stands rests t routes plans groups events last sound formed routed rise may p) a lt
