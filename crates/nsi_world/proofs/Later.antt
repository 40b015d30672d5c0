-- Later worlds: what was said stays said, and what was got stays got.
use Rattle.std.proofs.Common.{ℕ, ◌≤◌, ◌≡◌, List, [], ◌∷◌, ◌++◌, Option, inl, inr, refl, sym, ap, ◌∙◌, subst, arith, length, take, drop, append_assoc, append-nil, length-append, eq-eqb, ne_eqb, take-append-drop, Some, None, IfSome}
use Rattle.std.specs.List.{All, Contains}
use Rattle.std.proofs.lemmas.Bool.{cases_eq}
use Rattle.std.proofs.lemmas.List.{take-append-le, take_all}
use Rattle.std.proofs.lemmas.List.Elements.{All-weaker, All-push, Contains-append_left}
use Rattle.nsi_primitive.specs.declared.ask.AskAnswer.{AskAnswer}
use Rattle.nsi_primitive.specs.declared.entry.Entry.{Entry}
use Rattle.nsi_primitive.specs.declared.entry.Event.{Event}
use Rattle.nsi_primitive.specs.declared.entry.Happening.{Happening}
use Rattle.nsi_primitive.specs.declared.entry.Input.{Input}
use Rattle.nsi_primitive.specs.declared.message.Message.{Message}
use Rattle.nsi_primitive.specs.declared.message.Parcel.{Parcel}
use Rattle.agent_state.specs.State.{AgentState, blank_agent}
use Rattle.nsi_agent.specs.Homes.{Home}
use Rattle.nsi_agent.specs.Steps.{after}
use Rattle.nsi_agent.specs.Told.{Told, behind, goes_on, told}
use Rattle.nsi_agent.proofs.Telling.{telling_is_in_parts}
use Rattle.agent_node.specs.Doors.{Door}
use Rattle.agent_node.specs.Seat.{Seat}
use Rattle.nsi_world.specs.Worlds.{Homes, World, synced_part, IsSaidBy, IsSent, IsGot, IsTaken}
use Rattle.nsi_world.specs.Runs.{at, happens_at, happens, world_after}
use Rattle.nsi_world.specs.Heard.{WasSent, IsHeard, IsFair}
use Rattle.nsi_world.specs.Seats.{MayGo, IsDoor, Stands, AreFree, Not, Follows, Later}

---- One entry more

one_alone : (h : Home) (s : AgentState) (e : Entry) → goes_on h s (e ∷ []) ≡ record { state = (after h s e).state; out = (after h s e).out }
unfolding goes_on
one_alone h s e = ap (λ (ms : List Message). record { state = (after h s e).state; out = ms }) (append-nil (after h s e).out)

told_one : (h : Home) (es : List Entry) (e : Entry) → told h (es ++ e ∷ []) ≡ record { state = (after h (told h es).state e).state; out = (told h es).out ++ (after h (told h es).state e).out }
told_one h es e = telling_is_in_parts h blank_agent es (e ∷ []) ∙ ap (behind (told h es).out) (one_alone h (told h es).state e)

pub told_state : (h : Home) (es : List Entry) (e : Entry) → (told h (es ++ e ∷ [])).state ≡ (after h (told h es).state e).state
told_state h es e = ap (λ (x : Told). x.state) (told_one h es e)

pub told_out : (h : Home) (es : List Entry) (e : Entry) → (told h (es ++ e ∷ [])).out ≡ (told h es).out ++ (after h (told h es).state e).out
told_out h es e = ap (λ (x : Told). x.out) (told_one h es e)

pub out_grows : (h : Home) (es fs : List Entry) (m : Message) → Contains (told h es).out m → Contains (told h (es ++ fs)).out m
out_grows h es fs m c =
    subst (λ (x : Told). Contains x.out m) (sym (telling_is_in_parts h blank_agent es fs))
    (Contains-append_left (told h es).out (goes_on h (told h es).state fs).out m c)

---- At one place

pub at_same : {X : Type 0} (a : ℕ) (x : X) (f : ℕ → X) → at a x f a ≡ x
at_same a x f = rw (eq-eqb a a refl) refl

pub at_other : {X : Type 0} (a b : ℕ) (x : X) (f : ℕ → X) → (b ≡ a → ⊥) → at a x f b ≡ f b
at_other a b x f h = rw (ne_eqb b a h) refl

---- One world after another

pub follows_none : (rests : ℕ → Type 0) (w : World) → Follows rests w w
follows_none rests w = record {
  grows = λ a. ([], sym (append-nil (synced_part w a)));
  enters = λ a. ([], sym (append-nil (w.journal a)));
  others = λ a n. (refl, refl);
}

pub follows_twice : (rests : ℕ → Type 0) (w v u : World) → Follows rests w v → Follows rests v u → Follows rests w u
follows_twice rests w v u p q = record {
  grows = λ b. ((p.grows b).0 ++ (q.grows b).0, (q.grows b).1 ∙ (ap (λ xs. xs ++ (q.grows b).0) (p.grows b).1 ∙ append_assoc (synced_part w b) (p.grows b).0 (q.grows b).0));
  enters = λ b. ((p.enters b).0 ++ (q.enters b).0, (q.enters b).1 ∙ (ap (λ xs. xs ++ (q.enters b).0) (p.enters b).1 ∙ append_assoc (w.journal b) (p.enters b).0 (q.enters b).0));
  others = λ b n. ((q.others b n).0 ∙ (p.others b n).0, (q.others b n).1 ∙ (p.others b n).1);
}

-- where nothing happened at more agents, nothing happened at fewer
pub follows_fewer : (p q : ℕ → Type 0) (w v : World) → ((b : ℕ) → q b → p b) → Follows p w v → Follows q w v
follows_fewer p q w v f h = record { grows = h.grows; enters = h.enters; others = λ b n. h.others b (f b n) }

pub follows_entry : (a : ℕ) (e : Entry) (answer : Option AskAnswer) (w : World) → w.synced a ≤ length (w.journal a) → Follows (Not a) w (happens_at w a (Happening.Entry e answer))
follows_entry a e answer w within = record {
  grows = λ b. elim (cases_eq b a) [
    | inl q ↦ (
      [],
      subst (λ c. take (w.synced c) (at a (w.journal a ++ e ∷ []) w.journal c) ≡ take (w.synced c) (w.journal c) ++ []) (sym q)
          (ap (take (w.synced a)) (at_same a (w.journal a ++ e ∷ []) w.journal) ∙ (take-append-le (w.synced a) (w.journal a) (e ∷ []) within ∙ sym (append-nil (take (w.synced a) (w.journal a))))),
    )
    | inr n ↦ ([], ap (take (w.synced b)) (at_other a b (w.journal a ++ e ∷ []) w.journal n) ∙ sym (append-nil (synced_part w b)))
  ];
  enters = λ b. elim (cases_eq b a) [
    | inl q ↦ (e ∷ [], subst (λ c. at a (w.journal a ++ e ∷ []) w.journal c ≡ w.journal c ++ e ∷ []) (sym q) (at_same a (w.journal a ++ e ∷ []) w.journal))
    | inr n ↦ ([], at_other a b (w.journal a ++ e ∷ []) w.journal n ∙ sym (append-nil (w.journal b)))
  ];
  others = λ b n. (at_other a b (w.journal a ++ e ∷ []) w.journal n, refl);
}

pub follows_sync : (a n : ℕ) (w : World) → n ≡ length (w.journal a) → Follows (Not a) w (happens_at w a (Happening.Sync n))
follows_sync a n w e = record {
  grows = λ b. elim (cases_eq b a) [
    | inl q ↦ (
      drop (w.synced a) (w.journal a),
      subst (λ c. take (at a n w.synced c) (w.journal c) ≡ take (w.synced c) (w.journal c) ++ drop (w.synced a) (w.journal a)) (sym q)
          (ap (λ k. take k (w.journal a)) (at_same a n w.synced ∙ e) ∙ (take_all (length (w.journal a)) (w.journal a) (omega arith) ∙ sym (take-append-drop (w.synced a) (w.journal a)))),
    )
    | inr m ↦ ([], ap (λ k. take k (w.journal b)) (at_other a b n w.synced m) ∙ sym (append-nil (synced_part w b)))
  ];
  enters = λ b. ([], sym (append-nil (w.journal b)));
  others = λ b m. (refl, at_other a b n w.synced m);
}

---- What stays

-- so much more stands behind entries
abbrev pub Extends : (ℕ → List Entry) → (ℕ → List Entry) → Type 0
Extends old new = (a : ℕ) → (more : List Entry) × (new a ≡ old a ++ more)

pub said_later : (homes : Homes) (w v : World) (a : ℕ) (m : Message) → Extends (synced_part w) (synced_part v) → IsSaidBy homes w a m → IsSaidBy homes v a m
said_later homes w v a m g s = (s.0, subst (λ (es : List Entry). Contains (told (homes a) es).out m) (sym (g a).1) (out_grows (homes a) (synced_part w a) (g a).0 m s.1))

pub sent_later : (homes : Homes) (w v : World) (m : Message) → Extends (synced_part w) (synced_part v) → IsSent homes w m → IsSent homes v m
sent_later homes w v m g s = (s.0, said_later homes w v s.0 m g s.1)

got_later : (m : Message) (es fs more : List Entry) → fs ≡ es ++ more → IsGot m es → IsGot m fs
got_later m es fs more e g = record { second = g.second; there = subst (λ (xs : List Entry). Contains xs (record { second = g.second; input = Input.Got m })) (sym e) (Contains-append_left es more _ g.there) }

pub taken_later : (homes : Homes) (w v : World) (old new : ℕ → List Entry) (from to : ℕ) (m : Message) → Extends (synced_part w) (synced_part v) → Extends old new → IsTaken homes w old from to m → IsTaken homes v new from to m
taken_later homes w v old new from to m g x h = record { said = said_later homes w v from m g h.said; addressed = h.addressed; got = got_later m (old to) (new to) (x to).0 (x to).1 h.got }

pub go_later : (homes : Homes) (w v : World) (old new : ℕ → List Entry) (from to : ℕ) (p : Parcel) → Extends (synced_part w) (synced_part v) → Extends old new → MayGo homes w old from to p → MayGo homes v new from to p
go_later homes w v old new from to (Parcel.Message m) g x h = (said_later homes w v from m g h.0, h.1)
go_later homes w v old new from to (Parcel.Ack i) g x h = (h.0, h.1, taken_later homes w v old new to from h.0 g x h.2)

pub all_later : (homes : Homes) (w v : World) (old new : ℕ → List Entry) (from to : ℕ) (ps : List Parcel) → Extends (synced_part w) (synced_part v) → Extends old new → All (MayGo homes w old from to) ps → All (MayGo homes v new from to) ps
all_later homes w v old new from to ps g x h = All-weaker (MayGo homes w old from to) (MayGo homes v new from to) (λ p. go_later homes w v old new from to p g x) ps h

pub doors_later : (homes : Homes) (rests : ℕ → Type 0) (w v : World) (a : ℕ) (ds : List Door) → Follows rests w v → All (IsDoor homes w a) ds → All (IsDoor homes v a) ds
doors_later homes rests w v a ds f h = All-weaker (IsDoor homes w a) (IsDoor homes v a) door ds h
  where
    door : (d : Door) → IsDoor homes w a d → IsDoor homes v a d
    door d k = record {
      inc = all_later homes w v (synced_part w) (synced_part v) d.other a d.inc f.grows f.grows k.inc;
      out = all_later homes w v (synced_part w) (synced_part v) a d.other d.out f.grows f.grows k.out;
      queue = all_later homes w v w.journal v.journal a d.other d.queue f.grows f.enters k.queue;
    }

---- Where entries may be gone elsewhere

pub later_follows : (rests : ℕ → Type 0) (w v : World) → Follows rests w v → Later rests w v
later_follows rests w v f = record { grows = f.grows; others = f.others }

pub later_none : (rests : ℕ → Type 0) (w : World) → Later rests w w
later_none rests w = later_follows rests w w (follows_none rests w)

pub later_twice : (rests : ℕ → Type 0) (w v u : World) → Later rests w v → Later rests v u → Later rests w u
later_twice rests w v u p q = record {
  grows = λ b. ((p.grows b).0 ++ (q.grows b).0, (q.grows b).1 ∙ (ap (λ xs. xs ++ (q.grows b).0) (p.grows b).1 ∙ append_assoc (synced_part w b) (p.grows b).0 (q.grows b).0));
  others = λ b n. ((q.others b n).0 ∙ (p.others b n).0, (q.others b n).1 ∙ (p.others b n).1);
}

pub later_fewer : (p q : ℕ → Type 0) (w v : World) → ((b : ℕ) → q b → p b) → Later p w v → Later q w v
later_fewer p q w v f h = record { grows = h.grows; others = λ b n. h.others b (f b n) }

-- what an agent has queued acknowledges what it has taken itself
go_still : (homes : Homes) (w v : World) (from to : ℕ) (p : Parcel) → Extends (synced_part w) (synced_part v) → v.journal from ≡ w.journal from → MayGo homes w w.journal from to p → MayGo homes v v.journal from to p
go_still homes w v from to (Parcel.Message m) g e h = (said_later homes w v from m g h.0, h.1)
go_still homes w v from to (Parcel.Ack i) g e h = (h.0, h.1, record { said = said_later homes w v to h.0 g h.2.said; addressed = h.2.addressed; got = subst (IsGot h.0) (sym e) h.2.got })

doors_still : (homes : Homes) (w v : World) (a : ℕ) (ds : List Door) → Extends (synced_part w) (synced_part v) → v.journal a ≡ w.journal a → All (IsDoor homes w a) ds → All (IsDoor homes v a) ds
doors_still homes w v a ds g e h = All-weaker (IsDoor homes w a) (IsDoor homes v a) door ds h
  where
    door : (d : Door) → IsDoor homes w a d → IsDoor homes v a d
    door d k = record {
      inc = all_later homes w v (synced_part w) (synced_part v) d.other a d.inc g g k.inc;
      out = all_later homes w v (synced_part w) (synced_part v) a d.other d.out g g k.out;
      queue = All-weaker (MayGo homes w w.journal a d.other) (MayGo homes v v.journal a d.other) (λ p. go_still homes w v a d.other p g e) d.queue k.queue;
    }

-- what is told of synced entries
pub past_as : (o : Option (List Entry)) (xs ys : List Entry) → ys ≡ xs → IfSome o (λ es. es ≡ xs) → IfSome o (λ es. es ≡ ys)
past_as None xs ys e h = tt
past_as (Some es) xs ys e h = h ∙ sym e

-- another agent's seat stands as before
pub stands_later : (homes : Homes) (clock : ℕ) (rests : ℕ → Type 0) (w v : World) (s : Seat) → rests s.number → Later rests w v → Stands homes clock w s → Stands homes clock v s
stands_later homes clock rests w v s n f h =
    let a : ℕ = s.number in
    let same : synced_part v a ≡ synced_part w a = ap (λ k. take k (v.journal a)) (f.others a n).1 ∙ ap (take (w.synced a)) (f.others a n).0 in
    record {
      agent = h.agent;
      journal = (f.others a n).0 ∙ (h.journal ∙ ap (λ es. es ++ s.fresh) (sym same));
      synced = (f.others a n).1 ∙ h.synced;
      past = past_as s.past (synced_part w a) (synced_part v a) same h.past;
      state = ap (λ (es : List Entry). (told (homes a) es).state) (f.others a n).0 ∙ h.state;
      unsaid = ap (λ (es : List Entry). (told (homes a) es).out) (f.others a n).0 ∙ (h.unsaid ∙ ap (λ (es : List Entry). (told (homes a) es).out ++ s.unsaid) (sym same));
      doors = doors_still homes w v a s.doors f.grows (f.others a n).0 h.doors;
      in_time = h.in_time;
    }

---- What is heard

sent_input : (homes : Homes) (w v : World) (a : ℕ) (i : Input) → Extends (synced_part w) (synced_part v) → WasSent homes w a i → WasSent homes v a i
sent_input homes w v a (Input.Got m) g h = (sent_later homes w v m g h.0, h.1)
sent_input homes w v a (Input.Work n machine) g h = tt
sent_input homes w v a (Input.Force n) g h = tt
sent_input homes w v a (Input.Acked i) g h = tt
sent_input homes w v a Input.Tick g h = tt
sent_input homes w v a (Input.Ask n ask) g h = tt

pub heard_later : (homes : Homes) (w v : World) (a : ℕ) (es : List Entry) → Extends (synced_part w) (synced_part v) → All (IsHeard homes w a) es → All (IsHeard homes v a) es
heard_later homes w v a es g h = All-weaker (IsHeard homes w a) (IsHeard homes v a) (λ e k. record { printable = k.printable; sent = sent_input homes w v a e.input g k.sent }) es h

pub fair_entry : (homes : Homes) (w : World) (a : ℕ) (e : Entry) (answer : Option AskAnswer) → IsFair homes w → IsHeard homes w a e → IsFair homes (happens_at w a (Happening.Entry e answer))
fair_entry homes w a e answer fair heard =
    let v : World = happens_at w a (Happening.Entry e answer) in
    let js : List Entry = w.journal a ++ e ∷ [] in
    let f : Follows (Not a) w v = follows_entry a e answer w (fair.within a) in
    record {
      within = λ b. elim (cases_eq b a) [
        | inl q ↦ subst (λ c. w.synced c ≤ length (at a js w.journal c)) (sym q) (omega (arith, fair.within a, ap length (at_same a js w.journal), length-append (w.journal a) (e ∷ [])))
        | inr n ↦ omega (arith, fair.within b, ap length (at_other a b js w.journal n))
      ];
      heard = λ b. elim (cases_eq b a) [
        | inl q ↦ subst (λ c. All (IsHeard homes v c) (at a js w.journal c)) (sym q)
            (subst (All (IsHeard homes v a)) (sym (at_same a js w.journal))
            (heard_later homes w v a js f.grows (All-push (IsHeard homes w a) (w.journal a) e (fair.heard a) heard)))
        | inr n ↦ subst (All (IsHeard homes v b)) (sym (at_other a b js w.journal n)) (heard_later homes w v b (w.journal b) f.grows (fair.heard b))
      ];
    }

pub fair_sync : (homes : Homes) (w : World) (a n : ℕ) → n ≡ length (w.journal a) → IsFair homes w → IsFair homes (happens_at w a (Happening.Sync n))
fair_sync homes w a n e fair =
    let v : World = happens_at w a (Happening.Sync n) in
    let f : Follows (Not a) w v = follows_sync a n w e in
    record {
      within = λ b. elim (cases_eq b a) [
        | inl q ↦ subst (λ c. at a n w.synced c ≤ length (w.journal c)) (sym q) (omega (arith, e, at_same a n w.synced))
        | inr m ↦ omega (arith, fair.within b, at_other a b n w.synced m)
      ];
      heard = λ b. heard_later homes w v b (w.journal b) f.grows (fair.heard b);
    }

---- Events one after another

pub free_append : (homes : Homes) (w : World) (es fs : List Event) → AreFree homes w es → AreFree homes (world_after w es) fs → AreFree homes w (es ++ fs)
unfolding world_after AreFree
free_append homes w [] fs p q = q
free_append homes w (e ∷ es) fs p q = (p.0, free_append homes (happens w e) es fs p.1 q)

pub after_append : (w : World) (es fs : List Event) → world_after w (es ++ fs) ≡ world_after (world_after w es) fs
unfolding world_after
after_append w [] fs = refl
after_append w (e ∷ es) fs = after_append (happens w e) es fs
