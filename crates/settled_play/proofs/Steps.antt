-- What one step makes of an agent: nothing that it has to say, that it has said or that has come is forgotten, but for what a plan loses.
use Rattle.std.proofs.Common.{ℕ, ◌+◌, ◌<◌, ◌≤◌, ◌≡◌, arith, List, [], ◌∷◌, ◌++◌, Some, ◌⊎◌, inl, inr, refl, sym, ap, ◌∙◌, subst, length, append_assoc, append-nil}
use Rattle.std.specs.List.{All, Contains}
use Rattle.std.proofs.lemmas.List.Elements.{All-append, All-push, All-tail, All-weaker, All-contains_itself, Contains-append_left, Contains-append_right, Contains-append_cases}
use Rattle.nsi_primitive.specs.Messages.{identity, addressee}
use Rattle.nsi_primitive.specs.declared.entry.Entry.{Entry}
use Rattle.nsi_primitive.specs.declared.entry.Event.{Event}
use Rattle.nsi_primitive.specs.declared.entry.Happening.{Happening}
use Rattle.nsi_primitive.specs.declared.message.Message.{Message}
use Rattle.nsi_primitive.specs.declared.message.Parcel.{Parcel}
use Rattle.stp_topology.specs.Network.{agent_of}
use Rattle.stp_topology.specs.declared.network.Network.{Network}
use Rattle.agent_state.specs.State.{AgentState, AgentStepped, blank_agent}
use Rattle.nsi_agent.specs.Homes.{Home, Routes, home_in}
use Rattle.nsi_agent.specs.Steps.{after}
use Rattle.nsi_agent.specs.Told.{Told, goes_on, told, WasGot}
use Rattle.nsi_agent.proofs.Telling.{telling_is_in_parts}
use Rattle.agent_node.specs.Doors.{Door}
use Rattle.agent_node.specs.Passing.{others}
use Rattle.agent_node.specs.Seat.{Seat, enters}
use Rattle.agent_node.specs.Openings.{others_of}
use Rattle.settled_play.specs.Settled.{WasAcked, IsNoRestart}
use Rattle.settled_play.proofs.Finding.{door_to, first_or_later}
use Rattle.settled_play.proofs.Links.{Goes, IsLinked}
use Rattle.settled_play.proofs.Putting.{counted, counted_append, counted_none, ahead}

---- What was entered

abbrev pub entry_in : Happening → List Entry
entry_in (Happening.Entry e answer) = e ∷ []
entry_in _ = []

-- what is entered by events of one agent
abbrev pub entered_in : List Event → List Entry
entered_in [] = []
entered_in (e ∷ es) = entry_in e.what ++ entered_in es

pub entered_append : (es fs : List Event) → entered_in (es ++ fs) ≡ entered_in es ++ entered_in fs
entered_append [] fs = refl
entered_append (e ∷ es) fs = ap (λ xs. entry_in e.what ++ xs) (entered_append es fs) ∙ sym (append_assoc (entry_in e.what) (entered_in es) (entered_in fs))

abbrev pub IsOwn : ℕ → Event → Type 0
IsOwn a e = (e.agent ≡ a) × IsNoRestart e.what

---- One entry more

told_one : (h : Home) (es : List Entry) (e : Entry) → told h (es ++ e ∷ []) ≡ record { state = (after h (told h es).state e).state; out = (told h es).out ++ (after h (told h es).state e).out }
unfolding goes_on
told_one h es e =
    telling_is_in_parts h blank_agent es (e ∷ [])
    ∙ ap (λ (ms : List Message). record { state = (after h (told h es).state e).state; out = (told h es).out ++ ms }) (append-nil (after h (told h es).state e).out)

pub more_told : (h : Home) (es fs : List Entry) (m : Message) → Contains (told h es).out m → Contains (told h (es ++ fs)).out m
more_told h es fs m c =
    subst (λ (x : Told). Contains x.out m) (sym (telling_is_in_parts h blank_agent es fs)) (Contains-append_left (told h es).out (goes_on h (told h es).state fs).out m c)

pub more_got : (m : Message) (es fs : List Entry) → WasGot m es → WasGot m (es ++ fs)
more_got m es fs g = (g.0, Contains-append_left es fs g.0 g.1, g.2)

pub more_acked : (m : Message) (es fs : List Entry) → WasAcked (identity m) es → WasAcked (identity m) (es ++ fs)
more_acked m es fs g = (g.0, Contains-append_left es fs g.0 g.1, g.2)

---- An agent between two steps

-- what goes and comes through a door is what may
pub record IsDoor (t : Network) (a : ℕ) (d : Door) : Type 0 where
  pub link : Contains (others_of t a) d.other
  pub queue : All (Goes t a d.other) d.queue
  pub out : All (Goes t a d.other) d.out
  pub inc : All (Goes t d.other a) d.inc

-- it came through a link
abbrev pub IsInHand : Network → ℕ → ℕ × Parcel → Type 0
IsInHand t a x = Contains (others_of t a) x.0 × Goes t x.0 a x.1

abbrev pub AreDoors : Network → ℕ → List Door → Type 0
AreDoors t a ds = (d : Door) → Contains ds d → IsDoor t a d

-- an agent that has taken these entries, and has these parcels in hand
pub record Sits (t : Network) (routes : Routes) (a : ℕ) (js : List Entry) (hand : List (ℕ × Parcel)) (s : Seat) : Type 0 where
  pub number : s.number ≡ a
  pub within : a < length t.agents
  pub state : (told (home_in t routes a) js).state ≡ s.state
  pub clear : s.fresh ≡ [] → s.unsaid ≡ []
  pub unsaid : All (Contains (told (home_in t routes a) js).out) s.unsaid
  pub others : others s.doors ≡ others_of t a
  pub doors : AreDoors t a s.doors
  pub heard : All (IsLinked t a) js
  pub held : All (IsInHand t a) hand

-- it is to be pushed to an agent, or was let through
abbrev pub IsPut : ℕ → List Door → Parcel → Type 0
IsPut b ds p = Contains (door_to b ds).queue p ⊎ Contains (door_to b ds).out p

-- it isn't said yet, or is to be pushed or was let through
abbrev pub IsSpoken : ℕ → Seat → Message → Type 0
IsSpoken b s m = Contains s.unsaid m ⊎ IsPut b s.doors (Parcel.Message m)

-- what was lost on the way to each agent
abbrev pub Lost : Type 0
Lost = ℕ → List Parcel

abbrev pub nothing_lost : Lost
nothing_lost b = []

abbrev pub both_lost : Lost → Lost → Lost
both_lost one two b = one b ++ two b

-- so it is, or it was lost
abbrev pub IsPutOrLost : ℕ → List Door → Lost → Parcel → Type 0
IsPutOrLost b ds lost p = IsPut b ds p ⊎ Contains (lost b) p

abbrev pub IsSpokenOrLost : ℕ → Seat → Lost → Message → Type 0
IsSpokenOrLost b s lost m = IsSpoken b s m ⊎ Contains (lost b) (Parcel.Message m)

-- what was lost is no more than what so many lines less lose
abbrev pub IsPlanned : Lost → (ds es : List Door) → Type 0
IsPlanned lost ds es = (b n : ℕ) → counted n (lost b) + ahead n (door_to b es).plan ≤ ahead n (door_to b ds).plan

-- it came from an agent, and isn't taken
abbrev pub Comes : ℕ → Parcel → List (ℕ × Parcel) → List Door → Type 0
Comes b p hand ds = Contains (door_to b ds).inc p ⊎ Contains hand (b, p)

-- it was taken: a message was got and its acknowledgement is to be pushed, or an acknowledgement was taken
abbrev pub IsTakenIn : Network → Routes → ℕ → (js ks : List Entry) → List Door → Lost → ℕ → Parcel → Type 0
IsTakenIn t routes a js ks ds lost b (Parcel.Message m) = WasGot m ks × IsPutOrLost b ds lost (Parcel.Ack (identity m))
IsTakenIn t routes a js ks ds lost b (Parcel.Ack i) = (m : Message) → Contains (told (home_in t routes a) js).out m → identity m ≡ i → WasAcked (identity m) ks

---- A step

pub record Step (t : Network) (routes : Routes) (a : ℕ) (js ks : List Entry) (hs hu : List (ℕ × Parcel)) (s u : Seat) : Type 0 where
  pub made : List Entry
  pub grows : ks ≡ js ++ made
  pub events : entered_in u.events ≡ entered_in s.events ++ made
  pub own : All (IsOwn a) s.events → All (IsOwn a) u.events
  pub sits : Sits t routes a ks hu u
  pub lost : Lost
  pub planned : IsPlanned lost s.doors u.doors
  pub spoken : (m : Message) (b : ℕ) → agent_of t (addressee (identity m)) ≡ Some b → Contains (told (home_in t routes a) ks).out m → Contains (told (home_in t routes a) js).out m ⊎ IsSpokenOrLost b u lost m
  pub unsaid : (m : Message) (b : ℕ) → agent_of t (addressee (identity m)) ≡ Some b → Contains s.unsaid m → IsSpokenOrLost b u lost m
  pub put : (b : ℕ) (p : Parcel) → IsPut b s.doors p → IsPutOrLost b u.doors lost p
  pub came : (b : ℕ) (p : Parcel) → Comes b p hs s.doors → Comes b p hu u.doors ⊎ IsTakenIn t routes a js ks u.doors lost b p
  pub fewer : (b : ℕ) (p : Parcel) → Contains (door_to b u.doors).inc p → Contains (door_to b s.doors).inc p

-- where nothing is lost and no plan changes
pub none_planned : (ds : List Door) → IsPlanned nothing_lost ds ds
none_planned ds b n = let z = counted_none n in omega (arith, z)

pub step_none : (t : Network) (routes : Routes) (a : ℕ) (js : List Entry) (hs : List (ℕ × Parcel)) (s : Seat) → Sits t routes a js hs s → Step t routes a js js hs hs s s
step_none t routes a js hs s h = record {
  made = [];
  grows = sym (append-nil js);
  events = sym (append-nil (entered_in s.events));
  own = λ o. o;
  sits = h;
  lost = nothing_lost;
  planned = none_planned s.doors;
  spoken = λ m b e c. inl c;
  unsaid = λ m b e c. inl (inl c);
  put = λ b p c. inl c;
  came = λ b p c. inl c;
  fewer = λ b p c. c;
}

-- it was put, or lost, by the first of two steps or by the second
pub put_twice : (b : ℕ) (ds es : List Door) (one two : Lost) (p : Parcel) → ((q : Parcel) → IsPut b ds q → IsPutOrLost b es two q) → IsPutOrLost b ds one p → IsPutOrLost b es (both_lost one two) p
put_twice b ds es one two p put (inl k) = elim (put p k) [ inl z ↦ inl z | inr z ↦ inr (Contains-append_right (one b) (two b) p z) ]
put_twice b ds es one two p put (inr k) = inr (Contains-append_left (one b) (two b) p k)

put_second : (b : ℕ) (ds : List Door) (one two : Lost) (p : Parcel) → IsPutOrLost b ds two p → IsPutOrLost b ds (both_lost one two) p
put_second b ds one two p (inl k) = inl k
put_second b ds one two p (inr k) = inr (Contains-append_right (one b) (two b) p k)

pub planned_twice : (one two : Lost) (ds es fs : List Door) → IsPlanned one ds es → IsPlanned two es fs → IsPlanned (both_lost one two) ds fs
planned_twice one two ds es fs p q b n = let split = counted_append n (one b) (two b) in let x = p b n in let y = q b n in omega (arith, split, x, y)

taken_later : (t : Network) (routes : Routes) (a : ℕ) (js ks ls : List Entry) (ds es : List Door) (one two : Lost) (b : ℕ) (p : Parcel) → (made : List Entry) × (ls ≡ ks ++ made) → ((q : Parcel) → IsPut b ds q → IsPutOrLost b es two q)
    → IsTakenIn t routes a js ks ds one b p → IsTakenIn t routes a js ls es (both_lost one two) b p
taken_later t routes a js ks ls ds es one two b (Parcel.Message m) g put k = (subst (WasGot m) (sym g.1) (more_got m ks g.0 k.0), put_twice b ds es one two (Parcel.Ack (identity m)) put k.1)
taken_later t routes a js ks ls ds es one two b (Parcel.Ack i) g put k = λ m c e. subst (WasAcked (identity m)) (sym g.1) (more_acked m ks g.0 (k m c e))

taken_sooner : (t : Network) (routes : Routes) (a : ℕ) (js ks ls : List Entry) (ds : List Door) (one two : Lost) (b : ℕ) (p : Parcel) → (made : List Entry) × (ks ≡ js ++ made) → IsTakenIn t routes a ks ls ds two b p
    → IsTakenIn t routes a js ls ds (both_lost one two) b p
taken_sooner t routes a js ks ls ds one two b (Parcel.Message m) g k = (k.0, put_second b ds one two (Parcel.Ack (identity m)) k.1)
taken_sooner t routes a js ks ls ds one two b (Parcel.Ack i) g k = λ m c e.
    k m (subst (λ (es : List Entry). Contains (told (home_in t routes a) es).out m) (sym g.1) (more_told (home_in t routes a) js g.0 m c)) e

pub step_twice : (t : Network) (routes : Routes) (a : ℕ) (js ks ls : List Entry) (hs hu hv : List (ℕ × Parcel)) (s u v : Seat) → Step t routes a js ks hs hu s u → Step t routes a ks ls hu hv u v → Step t routes a js ls hs hv s v
step_twice t routes a js ks ls hs hu hv s u v p q = record {
  made = p.made ++ q.made;
  grows = q.grows ∙ (ap (λ xs. xs ++ q.made) p.grows ∙ append_assoc js p.made q.made);
  events = q.events ∙ (ap (λ xs. xs ++ q.made) p.events ∙ append_assoc (entered_in s.events) p.made q.made);
  own = λ o. q.own (p.own o);
  sits = q.sits;
  lost = both_lost p.lost q.lost;
  planned = planned_twice p.lost q.lost s.doors u.doors v.doors p.planned q.planned;
  spoken = λ m b e c. elim (q.spoken m b e c) [
    | inl k ↦ elim (p.spoken m b e k) [
      | inl l ↦ inl l
      | inr l ↦ inr (spoken_later m b e l)
    ]
    | inr k ↦ inr (spoken_second m b k)
  ];
  unsaid = λ m b e c. spoken_later m b e (p.unsaid m b e c);
  put = λ b x c. put_twice b u.doors v.doors p.lost q.lost x (λ z. q.put b z) (p.put b x c);
  came = λ b x c. elim (p.came b x c) [
    | inl k ↦ elim (q.came b x k) [
      | inl l ↦ inl l
      | inr l ↦ inr (taken_sooner t routes a js ks ls v.doors p.lost q.lost b x (p.made, p.grows) l)
    ]
    | inr k ↦ inr (taken_later t routes a js ks ls u.doors v.doors p.lost q.lost b x (q.made, q.grows) (λ y z. q.put b y z) k)
  ];
  fewer = λ b x c. p.fewer b x (q.fewer b x c);
}
  where
    spoken_second : (m : Message) (b : ℕ) → IsSpokenOrLost b v q.lost m → IsSpokenOrLost b v (both_lost p.lost q.lost) m
    spoken_second m b (inl k) = inl k
    spoken_second m b (inr k) = inr (Contains-append_right (p.lost b) (q.lost b) (Parcel.Message m) k)

    spoken_later : (m : Message) (b : ℕ) → agent_of t (addressee (identity m)) ≡ Some b → IsSpokenOrLost b u p.lost m → IsSpokenOrLost b v (both_lost p.lost q.lost) m
    spoken_later m b e (inl (inl k)) = spoken_second m b (q.unsaid m b e k)
    spoken_later m b e (inl (inr k)) = elim (q.put b (Parcel.Message m) k) [ inl z ↦ inl (inr z) | inr z ↦ spoken_second m b (inr z) ]
    spoken_later m b e (inr k) = inr (Contains-append_left (p.lost b) (q.lost b) (Parcel.Message m) k)

---- An entry

push_some : {X : Type 0} (xs : List X) (x : X) → xs ++ x ∷ [] ≡ [] → ⊥
push_some [] x e = absurd (cc)
push_some (y ∷ ys) x e = absurd (cc)

pub step_entry : (t : Network) (routes : Routes) (a : ℕ) (js : List Entry) (hs : List (ℕ × Parcel)) (e : Entry) (s : Seat) → IsLinked t a e → Sits t routes a js hs s → Step t routes a js (js ++ e ∷ []) hs hs s (enters (home_in t routes a) e s)
unfolding enters
step_entry t routes a js hs e s link h =
    let home : Home = home_in t routes a in
    let x : AgentStepped = after home s.state e in
    let state : (told home (js ++ e ∷ [])).state ≡ x.state = ap (λ (z : Told). z.state) (told_one home js e) ∙ ap (λ (z : AgentState). (after home z e).state) h.state in
    let out : (told home (js ++ e ∷ [])).out ≡ (told home js).out ++ x.out = ap (λ (z : Told). z.out) (told_one home js e) ∙ ap (λ (z : AgentState). (told home js).out ++ (after home z e).out) h.state in
    record {
      made = e ∷ [];
      grows = refl;
      events = entered_append s.events _;
      own = λ o. All-push (IsOwn a) s.events _ o (h.number, tt);
      sits = record {
        number = h.number;
        within = h.within;
        state = state;
        clear = λ q. absurd (push_some s.fresh e q);
        unsaid = All-append (Contains (told home (js ++ e ∷ [])).out) s.unsaid x.out
            (All-weaker (Contains (told home js).out) (Contains (told home (js ++ e ∷ [])).out) (λ m c. more_told home js (e ∷ []) m c) s.unsaid h.unsaid)
            (All-weaker (Contains x.out) (Contains (told home (js ++ e ∷ [])).out) (λ m c. subst (λ ms. Contains ms m) (sym out) (Contains-append_right (told home js).out x.out m c)) x.out (All-contains_itself x.out));
        others = h.others;
        doors = h.doors;
        heard = All-push (IsLinked t a) js e h.heard link;
        held = h.held;
      };
      spoken = λ m b q c. elim (Contains-append_cases (told home js).out x.out m (subst (λ ms. Contains ms m) out c)) [
        | inl k ↦ inl k
        | inr k ↦ inr (inl (inl (Contains-append_right s.unsaid x.out m k)))
      ];
      lost = nothing_lost;
      planned = none_planned s.doors;
      unsaid = λ m b q c. inl (inl (Contains-append_left s.unsaid x.out m c));
      put = λ b p c. inl c;
      came = λ b p c. inl c;
      fewer = λ b p c. c;
    }

---- The doors alone

-- what the doors keep
pub record Keeps (t : Network) (a : ℕ) (hs hu : List (ℕ × Parcel)) (ds es : List Door) : Type 0 where
  pub others : others es ≡ others ds
  pub doors : AreDoors t a ds → AreDoors t a es
  pub held : AreDoors t a ds → All (IsInHand t a) hs → All (IsInHand t a) hu
  pub lost : Lost
  pub planned : IsPlanned lost ds es
  pub put : (b : ℕ) (p : Parcel) → IsPut b ds p → IsPutOrLost b es lost p
  pub came : (b : ℕ) (p : Parcel) → Comes b p hs ds → Comes b p hu es
  pub fewer : (b : ℕ) (p : Parcel) → Contains (door_to b es).inc p → Contains (door_to b ds).inc p

pub step_doors : (t : Network) (routes : Routes) (a : ℕ) (js : List Entry) (hs hu : List (ℕ × Parcel)) (s : Seat) (ds : List Door) → Keeps t a hs hu s.doors ds → Sits t routes a js hs s → Step t routes a js js hs hu s (record s { doors = ds })
step_doors t routes a js hs hu s ds k h = record {
  made = [];
  grows = sym (append-nil js);
  events = sym (append-nil (entered_in s.events));
  own = λ o. o;
  sits = record {
    number = h.number;
    within = h.within;
    state = h.state;
    clear = h.clear;
    unsaid = h.unsaid;
    others = k.others ∙ h.others;
    doors = k.doors h.doors;
    heard = h.heard;
    held = k.held h.doors h.held;
  };
  lost = k.lost;
  planned = k.planned;
  spoken = λ m b e c. inl c;
  unsaid = λ m b e c. inl (inl c);
  put = k.put;
  came = λ b p c. inl (k.came b p c);
  fewer = k.fewer;
}

---- What was in hand

-- the first parcel in hand was taken
pub step_taken : (t : Network) (routes : Routes) (a : ℕ) (js ks : List Entry) (x : ℕ × Parcel) (xs : List (ℕ × Parcel)) (s u : Seat) → (p : Step t routes a js ks (x ∷ xs) (x ∷ xs) s u) → IsTakenIn t routes a js ks u.doors p.lost x.0 x.1
    → Step t routes a js ks (x ∷ xs) xs s u
step_taken t routes a js ks x xs s u p took = record {
  made = p.made;
  grows = p.grows;
  events = p.events;
  own = p.own;
  sits = let h = p.sits in record {
    number = h.number;
    within = h.within;
    state = h.state;
    clear = h.clear;
    unsaid = h.unsaid;
    others = h.others;
    doors = h.doors;
    heard = h.heard;
    held = All-tail (IsInHand t a) x xs h.held;
  };
  lost = p.lost;
  planned = p.planned;
  spoken = p.spoken;
  unsaid = p.unsaid;
  put = p.put;
  came = λ b q c. elim (p.came b q c) [
    | inl k ↦ elim k [
      | inl l ↦ inl (inl l)
      | inr l ↦ elim (first_or_later x xs (b, q) l) [
        | inl e ↦ inr (subst (λ (z : ℕ × Parcel). IsTakenIn t routes a js ks u.doors p.lost z.0 z.1) e took)
        | inr r ↦ inl (inr r)
      ]
    ]
    | inr k ↦ inr k
  ];
  fewer = p.fewer;
}
