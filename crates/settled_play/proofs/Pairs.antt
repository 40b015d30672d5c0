-- What one agent has caused for another one isn't said yet, is on the way, was lost, or was got; and then its acknowledgement is on the way back, was lost, or was taken.
use Rattle.std.proofs.Common.{ℕ, ◌+◌, ◌≤◌, ◌≡◌, List, [], ◌++◌, Some, ◌⊎◌, inl, inr, refl, sym, subst, arith}
use Rattle.std.specs.List.{Contains}
use Rattle.std.proofs.lemmas.List.Elements.{Contains-append_left, Contains-append_right}
use Rattle.nsi_primitive.specs.Messages.{identity, addressee}
use Rattle.nsi_primitive.specs.declared.entry.Entry.{Entry}
use Rattle.nsi_primitive.specs.declared.message.Message.{Message}
use Rattle.nsi_primitive.specs.declared.message.Parcel.{Parcel}
use Rattle.stp_topology.specs.Network.{agent_of}
use Rattle.stp_topology.specs.declared.network.Network.{Network}
use Rattle.nsi_agent.specs.Homes.{Routes, home_in}
use Rattle.nsi_agent.specs.Told.{told, WasGot}
use Rattle.agent_link.specs.Plans.{Plan}
use Rattle.agent_node.specs.Doors.{Door}
use Rattle.agent_node.specs.Seat.{Seat}
use Rattle.settled_play.specs.Settled.{WasAcked}
use Rattle.settled_play.proofs.Finding.{door_to, none_there}
use Rattle.nsi_play.specs.Openings.{Plans}
use Rattle.settled_play.proofs.Putting.{counted, counted_append, ahead}
use Rattle.settled_play.proofs.Steps.{more_got, more_acked, IsPut, IsSpoken, IsSpokenOrLost, Comes, Step}

-- it is for that agent
abbrev pub IsFor : Network → ℕ → Message → Type 0
IsFor t b m = agent_of t (addressee (identity m)) ≡ Some b

-- it isn't taken yet: the one has it to say or to push, or it came to the other one
abbrev pub IsOnWay : (a b : ℕ) → List (ℕ × Parcel) → Seat → Seat → Message → Type 0
IsOnWay a b hu s u m = IsSpoken b s m ⊎ Comes a (Parcel.Message m) hu u.doors

-- its acknowledgement isn't taken yet
abbrev pub IsOnWayBack : (a b : ℕ) → List (ℕ × Parcel) → Seat → Seat → Message → Type 0
IsOnWayBack a b hs s u m = IsPut a u.doors (Parcel.Ack (identity m)) ⊎ Comes b (Parcel.Ack (identity m)) hs s.doors

-- it isn't taken yet, or was lost
abbrev pub IsAway : (a b : ℕ) → List Parcel → List (ℕ × Parcel) → Seat → Seat → Message → Type 0
IsAway a b gone hu s u m = IsOnWay a b hu s u m ⊎ Contains gone (Parcel.Message m)

abbrev pub IsAwayBack : (a b : ℕ) → List Parcel → List (ℕ × Parcel) → Seat → Seat → Message → Type 0
IsAwayBack a b gone hs s u m = IsOnWayBack a b hs s u m ⊎ Contains gone (Parcel.Ack (identity m))

-- no more was lost on the way to an agent than its plan says
abbrev pub IsWithin : Plan → ℕ → List Parcel → Seat → Type 0
IsWithin plan b gone s = (n : ℕ) → counted n gone + ahead n (door_to b s.doors).plan ≤ ahead n plan

-- two agents that have taken these entries, and have these parcels in hand
pub record Pair (t : Network) (routes : Routes) (plans : Plans) (a b : ℕ) (js ks : List Entry) (hs hu : List (ℕ × Parcel)) (s u : Seat) : Type 0 where
  pub there : List Parcel
  pub back : List Parcel
  pub within : IsWithin (plans a b) b there s
  pub within_back : IsWithin (plans b a) a back u
  pub heard : (m : Message) → IsFor t b m → Contains (told (home_in t routes a) js).out m → IsAway a b there hu s u m ⊎ WasGot m ks
  pub acked : (m : Message) → IsFor t b m → Contains (told (home_in t routes a) js).out m → IsAway a b there hu s u m ⊎ (IsAwayBack a b back hs s u m ⊎ WasAcked (identity m) js)

within_step : (plan : Plan) (b : ℕ) (old new : List Parcel) (s v : Seat) → ((n : ℕ) → counted n new + ahead n (door_to b v.doors).plan ≤ ahead n (door_to b s.doors).plan) → IsWithin plan b old s → IsWithin plan b (old ++ new) v
within_step plan b old new s v p h n = let split = counted_append n old new in let x = p n in let y = h n in omega (arith, split, x, y)

-- the one makes a step
pub pair_first : {plans : Plans} (t : Network) (routes : Routes) (a b : ℕ) (js ls ks : List Entry) (hs hv hu : List (ℕ × Parcel)) (s v u : Seat) → Step t routes a js ls hs hv s v → Pair t routes plans a b js ks hs hu s u
    → Pair t routes plans a b ls ks hv hu v u
pair_first {plans} t routes a b js ls ks hs hv hu s v u p q = record {
  there = q.there ++ p.lost b;
  back = q.back;
  within = within_step (plans a b) b q.there (p.lost b) s v (p.planned b) q.within;
  within_back = q.within_back;
  heard = λ m e c. elim (p.spoken m b e c) [
    | inl old ↦ elim (q.heard m e old) [
      | inl way ↦ inl (away_on m e way)
      | inr got ↦ inr got
    ]
    | inr new ↦ inl (new_away m new)
  ];
  acked = λ m e c. elim (p.spoken m b e c) [
    | inl old ↦ elim (q.acked m e old) [
      | inl way ↦ inl (away_on m e way)
      | inr back ↦ elim back [
        | inl k ↦ inr (back_on m old k)
        | inr k ↦ inr (inr (subst (WasAcked (identity m)) (sym p.grows) (more_acked m js p.made k)))
      ]
    ]
    | inr new ↦ inl (new_away m new)
  ];
}
  where
    new_away : (m : Message) → IsSpokenOrLost b v p.lost m → IsAway a b (q.there ++ p.lost b) hu v u m
    new_away m (inl k) = inl (inl k)
    new_away m (inr k) = inr (Contains-append_right q.there (p.lost b) (Parcel.Message m) k)

    away_on : (m : Message) → IsFor t b m → IsAway a b q.there hu s u m → IsAway a b (q.there ++ p.lost b) hu v u m
    away_on m e (inl (inl (inl c))) = new_away m (p.unsaid m b e c)
    away_on m e (inl (inl (inr c))) = elim (p.put b (Parcel.Message m) c) [ inl k ↦ inl (inl (inr k)) | inr k ↦ new_away m (inr k) ]
    away_on m e (inl (inr c)) = inl (inr c)
    away_on m e (inr c) = inr (Contains-append_left q.there (p.lost b) (Parcel.Message m) c)

    back_on : (m : Message) → Contains (told (home_in t routes a) js).out m → IsAwayBack a b q.back hs s u m → IsAwayBack a b q.back hv v u m ⊎ WasAcked (identity m) ls
    back_on m old (inl (inl put)) = inl (inl (inl put))
    back_on m old (inl (inr come)) = elim (p.came b (Parcel.Ack (identity m)) come) [
      | inl l ↦ inl (inl (inr l))
      | inr took ↦ inr (took m old refl)
    ]
    back_on m old (inr c) = inl (inr c)

-- the other one makes a step
pub pair_second : {plans : Plans} (t : Network) (routes : Routes) (a b : ℕ) (js ks ls : List Entry) (hs hu hv : List (ℕ × Parcel)) (s u v : Seat) → Step t routes b ks ls hu hv u v → Pair t routes plans a b js ks hs hu s u
    → Pair t routes plans a b js ls hs hv s v
pair_second {plans} t routes a b js ks ls hs hu hv s u v p q = record {
  there = q.there;
  back = q.back ++ p.lost a;
  within = q.within;
  within_back = within_step (plans b a) a q.back (p.lost a) u v (p.planned a) q.within_back;
  heard = λ m e c. elim (q.heard m e c) [
    | inl way ↦ elim (away_on m way) [ inl k ↦ inl k | inr took ↦ inr took.0 ]
    | inr got ↦ inr (subst (WasGot m) (sym p.grows) (more_got m ks p.made got))
  ];
  acked = λ m e c. elim (q.acked m e c) [
    | inl way ↦ elim (away_on m way) [ inl k ↦ inl k | inr took ↦ inr (inl took.1) ]
    | inr back ↦ elim back [
      | inl k ↦ inr (inl (back_on m k))
      | inr k ↦ inr (inr k)
    ]
  ];
}
  where
    acks : (m : Message) → (IsPut a v.doors (Parcel.Ack (identity m)) ⊎ Contains (p.lost a) (Parcel.Ack (identity m))) → IsAwayBack a b (q.back ++ p.lost a) hs s v m
    acks m (inl k) = inl (inl k)
    acks m (inr k) = inr (Contains-append_right q.back (p.lost a) (Parcel.Ack (identity m)) k)

    away_on : (m : Message) → IsAway a b q.there hu s u m → IsAway a b q.there hv s v m ⊎ (WasGot m ls × IsAwayBack a b (q.back ++ p.lost a) hs s v m)
    away_on m (inl (inl k)) = inl (inl (inl k))
    away_on m (inl (inr come)) = elim (p.came a (Parcel.Message m) come) [
      | inl l ↦ inl (inl (inr l))
      | inr took ↦ inr (took.0, acks m took.1)
    ]
    away_on m (inr c) = inl (inr c)

    back_on : (m : Message) → IsAwayBack a b q.back hs s u m → IsAwayBack a b (q.back ++ p.lost a) hs s v m
    back_on m (inl (inl put)) = acks m (p.put a (Parcel.Ack (identity m)) put)
    back_on m (inl (inr come)) = inl (inr come)
    back_on m (inr c) = inr (Contains-append_left q.back (p.lost a) (Parcel.Ack (identity m)) c)

---- A meeting

-- nothing lies at its doors
abbrev pub HasNone : List Door → Type 0
HasNone ds = (b : ℕ) (p : Parcel) → Contains (door_to b ds).inc p → ⊥

-- what the one had to push, or let through, is still to be pushed, or came to the other one
abbrev pub Crosses : (a b : ℕ) → (s v u : Seat) → Type 0
Crosses a b s v u = (p : Parcel) → IsPut b s.doors p → IsPut b v.doors p ⊎ Comes a p [] u.doors

-- the plan for what goes to an agent is as it was
abbrev pub HasSamePlan : ℕ → (s v : Seat) → Type 0
HasSamePlan b s v = (door_to b v.doors).plan ≡ (door_to b s.doors).plan

pub within_met : (plan : Plan) (b : ℕ) (gone : List Parcel) (s v : Seat) → HasSamePlan b s v → IsWithin plan b gone s → IsWithin plan b gone v
within_met plan b gone s v e h n = subst (λ x. counted n gone + ahead n x ≤ ahead n plan) (sym e) (h n)

pub pair_meets : {plans : Plans} (t : Network) (routes : Routes) (a b : ℕ) (js ks : List Entry) (s u v x : Seat) → HasNone s.doors → HasNone u.doors → v.unsaid ≡ s.unsaid → HasSamePlan b s v → HasSamePlan a u x → Crosses a b s v x → Crosses b a u x v
    → Pair t routes plans a b js ks [] [] s u → Pair t routes plans a b js ks [] [] v x
pair_meets {plans} t routes a b js ks s u v x none_s none_u same plan plan_back there back q = record {
  there = q.there;
  back = q.back;
  within = within_met (plans a b) b q.there s v plan q.within;
  within_back = within_met (plans b a) a q.back u x plan_back q.within_back;
  heard = λ m e c. elim (q.heard m e c) [
    | inl way ↦ inl (away_on m way)
    | inr got ↦ inr got
  ];
  acked = λ m e c. elim (q.acked m e c) [
    | inl way ↦ inl (away_on m way)
    | inr k ↦ elim k [
      | inl l ↦ inr (inl (back_on m l))
      | inr l ↦ inr (inr l)
    ]
  ];
}
  where
    no_more : {X : Type 0} (c : ℕ) (p : Parcel) (ds : List Door) → HasNone ds → Comes c p [] ds → X
    no_more c p ds none (inl i) = absurd (none c p i)
    no_more c p ds none (inr i) = absurd (none_there (c, p) i)

    said_on : (m : Message) → IsSpoken b s m → IsOnWay a b [] v x m
    said_on m (inl c) = inl (inl (subst (λ ms. Contains ms m) (sym same) c))
    said_on m (inr c) = elim (there (Parcel.Message m) c) [ inl k ↦ inl (inr k) | inr k ↦ inr k ]

    away_on : (m : Message) → IsAway a b q.there [] s u m → IsAway a b q.there [] v x m
    away_on m (inl (inl c)) = inl (said_on m c)
    away_on m (inl (inr c)) = no_more a (Parcel.Message m) u.doors none_u c
    away_on m (inr c) = inr c

    back_on : (m : Message) → IsAwayBack a b q.back [] s u m → IsAwayBack a b q.back [] v x m
    back_on m (inl (inl c)) = elim (back (Parcel.Ack (identity m)) c) [ inl k ↦ inl (inl k) | inr k ↦ inl (inr k) ]
    back_on m (inl (inr c)) = no_more b (Parcel.Ack (identity m)) s.doors none_s c
    back_on m (inr c) = inr c

---- Nothing is on the way

-- nothing is to be said or pushed, was let through, or came
pub record IsEmpty (s : Seat) : Type 0 where
  pub unsaid : s.unsaid ≡ []
  pub queue : (b : ℕ) → (door_to b s.doors).queue ≡ []
  pub out : (b : ℕ) → (door_to b s.doors).out ≡ []
  pub inc : (b : ℕ) → (door_to b s.doors).inc ≡ []

none_put : (b : ℕ) (s : Seat) (p : Parcel) → IsEmpty s → IsPut b s.doors p → ⊥
none_put b s p h (inl c) = none_there p (subst (λ ps. Contains ps p) (h.queue b) c)
none_put b s p h (inr c) = none_there p (subst (λ ps. Contains ps p) (h.out b) c)

none_comes : (b : ℕ) (s : Seat) (p : Parcel) → IsEmpty s → Comes b p [] s.doors → ⊥
none_comes b s p h (inl c) = none_there p (subst (λ ps. Contains ps p) (h.inc b) c)
none_comes b s p h (inr c) = none_there (b, p) c

none_spoken : (b : ℕ) (s : Seat) (m : Message) → IsEmpty s → IsSpoken b s m → ⊥
none_spoken b s m h (inl c) = none_there m (subst (λ ms. Contains ms m) h.unsaid c)
none_spoken b s m h (inr c) = none_put b s (Parcel.Message m) h c

none_way : (a b : ℕ) (s u : Seat) (m : Message) → IsEmpty s → IsEmpty u → IsOnWay a b [] s u m → ⊥
none_way a b s u m h k (inl c) = none_spoken b s m h c
none_way a b s u m h k (inr c) = none_comes a u (Parcel.Message m) k c

none_back : (a b : ℕ) (s u : Seat) (m : Message) → IsEmpty s → IsEmpty u → IsOnWayBack a b [] s u m → ⊥
none_back a b s u m h k (inl c) = none_put a u (Parcel.Ack (identity m)) k c
none_back a b s u m h k (inr c) = none_comes b s (Parcel.Ack (identity m)) h c

-- then what was caused was got, or was lost; and its acknowledgement was taken, or one of the two was lost
pub pair_heard : {plans : Plans} (t : Network) (routes : Routes) (a b : ℕ) (js ks : List Entry) (s u : Seat) (m : Message) → IsEmpty s → IsEmpty u → (q : Pair t routes plans a b js ks [] [] s u) → IsFor t b m
    → Contains (told (home_in t routes a) js).out m → WasGot m ks ⊎ Contains q.there (Parcel.Message m)
pair_heard t routes a b js ks s u m h k q e c = elim (q.heard m e c) [
  | inl away ↦ elim away [ inl way ↦ absurd (none_way a b s u m h k way) | inr gone ↦ inr gone ]
  | inr got ↦ inl got
]

pub pair_acked : {plans : Plans} (t : Network) (routes : Routes) (a b : ℕ) (js ks : List Entry) (s u : Seat) (m : Message) → IsEmpty s → IsEmpty u → (q : Pair t routes plans a b js ks [] [] s u) → IsFor t b m
    → Contains (told (home_in t routes a) js).out m → WasAcked (identity m) js ⊎ (Contains q.there (Parcel.Message m) ⊎ Contains q.back (Parcel.Ack (identity m)))
pair_acked t routes a b js ks s u m h k q e c = elim (q.acked m e c) [
  | inl away ↦ elim away [ inl way ↦ absurd (none_way a b s u m h k way) | inr gone ↦ inr (inl gone) ]
  | inr l ↦ elim l [
    | inl back ↦ elim back [ inl way ↦ absurd (none_back a b s u m h k way) | inr gone ↦ inr (inr gone) ]
    | inr acked ↦ inl acked
  ]
]
