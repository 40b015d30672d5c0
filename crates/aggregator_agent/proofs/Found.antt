-- What is named stays found.
use Rattle.std.proofs.Common.{◌≡◌, ◌∙◌, ◌<◌, ◌+◌, ◌⊎◌, ◌↔◌, inl, inr, ℕ, zero, suc, Bool, true, false, List, [], ◌∷◌, ◌++◌, length, set, get_or, Option, Some, None, Result, Ok, Err, IfSome, refl, sym, ap, subst, arith}
use Rattle.std.specs.List.{All, Contains}
use Rattle.std.proofs.lemmas.List.{length-set, length-map, length_push, get_or-map, get_or_push, get_or_append_left, set-get_or, set_at}
use Rattle.std.proofs.lemmas.Bool.Decides.{nat_tests}
use Rattle.connection_record.specs.Demand.{last}
use Rattle.connection_record.specs.Applied.{end_of}
use Rattle.agent_state.specs.declared.parent.Leg.{Leg}
use Rattle.child_connection.specs.Views.{ChildConnection}
use Rattle.nsi_primitive.specs.declared.message.Message.{Message}
use Rattle.agent_state.specs.declared.parent.Due.{Due}
use Rattle.id_index.specs.declared.IdPlace.{IdPlace}
use Rattle.record_index.specs.declared.deadlines.Deadline.{Deadline}
use Rattle.aggregator_agent.specs.declared.agent.Agent.{Agent}
use Rattle.aggregator_agent.specs.declared.said.Said.{Said}
use Rattle.aggregator_agent.specs.declared.connection.Connection.{Connection}
use Rattle.aggregator_agent.specs.declared.entering.Entering.{Entering}
use Rattle.aggregator_agent.specs.declared.outbox.Outbox.{Outbox}
use Rattle.aggregator_agent.specs.declared.requesting.Start.{Start}
use Rattle.aggregator_agent.specs.Finding.{AreOwned}
use Rattle.aggregator_agent.specs.Requesting.{request_with, IsRequested, IsRequestedAt}
use Rattle.aggregator_agent.specs.Step.{IsEntered}
use Rattle.aggregator_agent.specs.declared.connection_index.ConnectionIndex.{ConnectionIndex}
use Rattle.aggregator_agent.specs.Bonds.{Bond, bond, bonds, no_bond, bond_at, is_owned, Done, IsDone, each_bond, answered, requested_bond, clocked_bond, with_children}
use Rattle.aggregator_agent.specs.Indexed.{id_at, end_at, StaysIn, Grows, IsViewNamed, IsNamed, IsEndNamed, IsEndNamedBut, IsFound, IsNamedAgain, IsNamedAgainAt, AreFound, schedule_end_of, is_created, end_while, MayHear, MayChange}
use Rattle.aggregator_agent.specs.Rounds.{AreTouched}
use Rattle.aggregator_agent.specs.Settled.{IsSettled, AreSettled, IsTable}
use Rattle.aggregator_agent.proofs.Undo.{by_place, set_here, set_elsewhere}
use Rattle.aggregator_agent.proofs.Quiet.{quiet_answer}
use Rattle.aggregator_agent.proofs.QuietTicks.{quiet_tick, tick_ends_later, tick_id, settled_tick}
use Rattle.std.specs.List.Sorted.{IsStrictlyIncreasing}
use Rattle.std.specs.List.{list_any}
use Rattle.std.specs.Prelude.{OnOk, OnErr, IfOk}
use Rattle.std.specs.declared.alloc.AllocError.{AllocError}
use Rattle.aggregator_agent.specs.Asking.{begin, replies_by}
use Rattle.aggregator_agent.specs.Turns.{joined_of, loses, breaks, hold_ends, force_ends, heard_by, pass_on, takes, turn_by_answer, answer_turn, turn_by_request, request_turn}
use Rattle.aggregator_agent.proofs.Settles.{settled_turn}

pub some_more : {X : Type 0} (P Q : X → Type 0) (o : Option X) → IfSome o P → ((x : X) → P x → Q x) → IfSome o Q
some_more P Q None h f = tt
some_more P Q (Some x) h f = f x h

---- More is named

pub view_grown : (old new : List IdPlace) (place : ℕ) (x : ChildConnection) → StaysIn old new → IsViewNamed old place x → IsViewNamed new place x
view_grown old new place x more h = record {
  connection = some_more _ _ x.connection h.connection (λ id has. more (id_at id place) has);
  attempt = some_more _ _ x.attempt h.attempt (λ c has. more (id_at c place) has);
  reserve = some_more _ _ x.reserve_request h.reserve (λ q has. more (id_at q.correlation place) has);
  provision = some_more _ _ x.provision_request h.provision (λ q has. more (id_at q.correlation place) has);
  lifecycle = some_more _ _ x.lifecycle_request h.lifecycle (λ q has. more (id_at q.correlation place) has);
}

pub named_grown : (old new : List IdPlace) (place : ℕ) (b : Bond) → StaysIn old new → IsNamed old place b → IsNamed new place b
named_grown old new place b more h = record { own = more (id_at b.own.id place) h.own; views = λ k d l. view_grown old new place _ more (h.views k d l) }

found_grown : (old new : ConnectionIndex) (place : ℕ) (b : Bond) → Grows old new → IsFound old place b → IsFound new place b
found_grown old new place b more h = record {
  named = named_grown old.ids new.ids place b more.ids h.named;
  end = some_more _ _ (schedule_end_of b) h.end (λ e has. more.ends (end_at e place) has);
}

pub all_grown : (old new : ConnectionIndex) (bs : List Bond) → Grows old new → AreFound old bs → AreFound new bs
all_grown old new bs more h = λ n l. found_grown old new n (bond_at n bs) more (h n l)

---- One is named again

end_again : (old new : List Deadline) (place : ℕ) (before after : Option ℕ) → StaysIn old new → IsEndNamed old place before → IsEndNamedBut before new place after → IsEndNamed new place after
end_again old new place before None more was h = tt
end_again old new place before (Some e) more was (inl is) = more (end_at e place) (subst (λ o. IsEndNamed old place o) is was)
end_again old new place before (Some e) more was (inr has) = has

found_again : (old new : ConnectionIndex) (place : ℕ) (before after : Bond) → Grows old new → IsFound old place before → IsNamedAgain new place before after → IsFound new place after
found_again old new place before after more was h = record {
  named = h.named;
  end = end_again old.ends new.ends place (schedule_end_of before) (schedule_end_of after) more.ends was.end h.end;
}

pub found_set : (old new : ConnectionIndex) (bs : List Bond) (place : ℕ) (b : Bond) → Grows old new → AreFound old bs → place < length bs → IsNamedAgain new place (bond_at place bs) b → AreFound new (set bs place b)
found_set old new bs place b more was within h n l = by_place n place
    (λ e. subst (λ k. IsFound new k (bond_at k (set bs place b))) (sym e) (subst (IsFound new place) (sym (set_here bs place b within)) (found_again old new place (bond_at place bs) b more (was place within) h)))
    (λ d. subst (IsFound new n) (sym (set_elsewhere bs place n b d)) (found_grown old new n (bond_at n bs) more (was n (let long = length-set bs place b in omega (arith, l, long)))))

-- the same of what a call leaves
pub found_more : (old new : ConnectionIndex) (bs cs : List Bond) (place : ℕ) (b : Bond) → Grows old new → AreFound old bs → place < length bs → cs ≡ set bs place b → IsNamedAgainAt new place bs cs → AreFound new cs
found_more old new bs cs place b more was within is h =
    let at : bond_at place cs ≡ b = ap (bond_at place) is ∙ set_here bs place b within in
    subst (AreFound new) (sym is) (found_set old new bs place b more was within (subst (IsNamedAgain new place (bond_at place bs)) at h))

---- One more connection

pub found_push : (old new : ConnectionIndex) (bs : List Bond) (before b : Bond) → Grows old new → AreFound old bs → schedule_end_of before ≡ None → IsNamedAgain new (length bs) before b → AreFound new (bs ++ b ∷ [])
found_push old new bs before b more was none h n l = by_place n (length bs)
    (λ e. subst (λ k. IsFound new k (bond_at k (bs ++ b ∷ []))) (sym e) (subst (IsFound new (length bs)) (sym (get_or_push bs b no_bond (length bs) refl)) here))
    (λ d.
    let inside : n < length bs = (let long = length_push bs b in omega (arith, l, long, d)) in
    subst (IsFound new n) (sym (get_or_append_left bs (b ∷ []) no_bond n inside)) (found_grown old new n (bond_at n bs) more (was n inside)))
  where
    here : IsFound new (length bs) b
    here = record { named = h.named; end = end_again new.ends new.ends (length bs) (schedule_end_of before) (schedule_end_of b) (λ x has. has) (subst (λ o. IsEndNamed new.ends (length bs) o) (sym none) tt) h.end }

pub settled_set : (bs : List Bond) (place : ℕ) (b : Bond) → AreSettled bs → place < length bs → IsSettled b → AreSettled (set bs place b)
settled_set bs place b was within h n l = by_place n place
    (λ e. subst (λ k. IsSettled (bond_at k (set bs place b))) (sym e) (subst IsSettled (sym (set_here bs place b within)) h))
    (λ d. subst IsSettled (sym (set_elsewhere bs place n b d)) (was n (let long = length-set bs place b in omega (arith, l, long))))

pub settled_push : (bs : List Bond) (b : Bond) → AreSettled bs → IsSettled b → AreSettled (bs ++ b ∷ [])
settled_push bs b was h n l = by_place n (length bs)
    (λ e. subst (λ k. IsSettled (bond_at k (bs ++ b ∷ []))) (sym e) (subst IsSettled (sym (get_or_push bs b no_bond (length bs) refl)) h))
    (λ d.
    let inside : n < length bs = (let long = length_push bs b in omega (arith, l, long, d)) in
    subst IsSettled (sym (get_or_append_left bs (b ∷ []) no_bond n inside)) (was n inside))

---- All connections

pub long_each : (does : (number next : ℕ) → Bond → Done) (number next : ℕ) (bs : List Bond) → length (each_bond does number next bs).bonds ≡ length bs
unfolding each_bond
long_each does number next [] = refl
long_each does number next (b ∷ bs) = let rest = long_each does (number + 1) (does number next b).next bs in omega (arith, rest)

-- what is made of each is so of the one at a place
pub each_at : (R : ℕ → Bond → Bond → Type 0) (does : (number next : ℕ) → Bond → Done) → ((number next : ℕ) (b : Bond) → R number b (does number next b).bond) → (number next : ℕ) (bs : List Bond) (n : ℕ) → n < length bs
    → R (number + n) (bond_at n bs) (bond_at n (each_bond does number next bs).bonds)
unfolding each_bond
each_at R does h number next [] n l = absurd (omega (arith, l))
each_at R does h number next (b ∷ bs) zero l = let e : number ≡ number + 0 = omega arith in subst (λ k. R k b (does number next b).bond) e (h number next b)
each_at R does h number next (b ∷ bs) (suc n) l =
    let e : number + 1 + n ≡ number + suc n = omega arith in
    let rest = each_bond does (number + 1) (does number next b).next bs in
    subst (λ k. R k (bond_at n bs) (bond_at n rest.bonds)) e (each_at R does h (number + 1) (does number next b).next bs n (omega (arith, l)))

pub settled_each : (does : (number next : ℕ) → Bond → Done) → ((number next : ℕ) (b : Bond) → IsSettled b → IsSettled (does number next b).bond) → (number next : ℕ) (bs : List Bond) → AreSettled bs → AreSettled (each_bond does number next bs).bonds
settled_each does h number next bs was n l =
    let long = long_each does number next bs in
    let inside : n < length bs = omega (arith, l, long) in
    each_at (λ k b c. IsSettled b → IsSettled c) does h number next bs n inside (was n inside)

---- A message and a tick

pub heard_touches : (index : ConnectionIndex) (bs : List Bond) (agent : Agent) (now : ℕ) (m : Message) (places : List ℕ) → AreFound index bs → AreSettled bs → IsStrictlyIncreasing places → ((p : ℕ) → Contains places p ↔ (MayHear index.ids m p × (p < length bs)))
    → AreTouched (answered agent now m) bs places
heard_touches index bs agent now m places found settled rising h = record {
  rising = rising;
  within = λ n has. ((h n).0 has).1;
  others = λ n l never next. quiet_answer index.ids n agent now m n next (bond_at n bs) (settled n l) (found n l).named.views (λ may. never ((h n).1 (may, l)));
}

pub clocked_touches : (index : ConnectionIndex) (bs : List Bond) (agent : Agent) (now : ℕ) (late : List Due) (places : List ℕ) → AreFound index bs → IsStrictlyIncreasing places → ((p : ℕ) → Contains places p ↔ (MayChange index.ends now late p × (p < length bs)))
    → AreTouched (clocked_bond agent now late) bs places
clocked_touches index bs agent now late places found rising h = record {
  rising = rising;
  within = λ n has. ((h n).0 has).1;
  others = λ n l never next. quiet_tick index.ends n agent now late next (bond_at n bs) (found n l).end (λ may. never ((h n).1 (may, l)));
}

views_kept : (ids : List IdPlace) (place : ℕ) (agent : Agent) (now : ℕ) (late : List Due) (number next : ℕ) (b : Bond) → IsNamed ids place b → IsNamed ids place (clocked_bond agent now late number next b).bond
views_kept ids place agent now late number next b h = record { own = subst (λ id. Contains ids (id_at id place)) (sym (tick_id agent now late number next b)) h.own; views = h.views }

end_kept : (old new : List Deadline) (place now : ℕ) (before after : Option ℕ) → ((d : Deadline) → Contains new d ↔ ((now < d.second) × Contains old d)) → ((e : ℕ) → after ≡ Some e → (before ≡ Some e) × (now < e)) → IsEndNamed old place before
    → IsEndNamed new place after
end_kept old new place now before None left later h = tt
end_kept old new place now before (Some e) left later h =
    let was = later e refl in
    (left (end_at e place)).1 (was.1, subst (λ o. IsEndNamed old place o) was.0 h)

-- the ends that have passed are forgotten
pub clocked_found : (ids : List IdPlace) (old new : List Deadline) (agent : Agent) (now : ℕ) (late : List Due) (next : ℕ) (bs : List Bond) → ((d : Deadline) → Contains new d ↔ ((now < d.second) × Contains old d)) → AreFound (record { ids = ids; ends = old }) bs
    → AreFound (record { ids = ids; ends = new }) (each_bond (clocked_bond agent now late) 0 next bs).bonds
clocked_found ids old new agent now late next bs left was n l =
    let does = clocked_bond agent now late in
    let long = long_each does 0 next bs in
    let inside : n < length bs = omega (arith, l, long) in
    let e : 0 + n ≡ n = omega arith in
    let one = each_at (λ k b c. IsNamed ids n b → IsEndNamed old n (schedule_end_of b) → IsFound (record { ids = ids; ends = new }) n c) does
    (λ number nx b named end. record {
      named = views_kept ids n agent now late number nx b named;
      end = end_kept old new n now (schedule_end_of b) (schedule_end_of (does number nx b).bond) left (tick_ends_later agent now late number nx b) end;
    }) 0 next bs n inside in
    one (was n inside).named (was n inside).end

---- What stands behind a call

pub settled_answer : (agent : Agent) (now : ℕ) (m : Message) (number next : ℕ) (b : Bond) → IsSettled (answered agent now m number next b).bond
unfolding answer_turn turn_by_answer
settled_answer agent now m number next b =
    let t = begin b.own b.children next in
    settled_turn (joined_of b.children) agent now (force_ends (list_any (breaks m) b.children) m agent now (hold_ends (list_any (loses m) b.children) m now (heard_by m agent t)))

pub settled_request : (agent : Agent) (now : ℕ) (m : Message) (number next : ℕ) (b : Bond) → IsSettled (requested_bond agent now m number next b).bond
unfolding request_turn turn_by_request
settled_request agent now m number next b =
    let t = begin b.own b.children next in
    settled_turn (joined_of b.children) agent now (pass_on m agent (replies_by t (takes m now t.own)))

pub heard_settled : (agent : Agent) (now : ℕ) (m : Message) (next : ℕ) (bs cs : List Bond) (o p : Outbox) (out : List Message) (r : Result Said AllocError) → AreSettled bs →
    (let all = each_bond (answered agent now m) 0 next bs in IfOk r (λ said. IsEntered cs o p said all.bonds out all.dues all.next)) → OnErr r (cs ≡ bs) → AreSettled cs
heard_settled agent now m next bs cs o p out (Ok x) was done back = subst AreSettled (sym done.bonds) (settled_each (answered agent now m) (λ number nx b h. settled_answer agent now m number nx b) 0 next bs was)
heard_settled agent now m next bs cs o p out (Err e) was done back = subst AreSettled (sym back) was

pub clocked_settled : (agent : Agent) (now : ℕ) (late : List Due) (next : ℕ) (bs cs : List Bond) → AreSettled bs → cs ≡ (each_bond (clocked_bond agent now late) 0 next bs).bonds → AreSettled cs
clocked_settled agent now late next bs cs was done = subst AreSettled (sym done) (settled_each (clocked_bond agent now late) (λ number nx b h. settled_tick agent now late number nx b h) 0 next bs was)

pub on_ok : {X : Type 0} (P : Type 0) (r : Result X AllocError) → P → OnOk r P
on_ok P (Ok x) h = h
on_ok P (Err e) h = tt

pub done_on : {X Y : Type 0} (old new : Said) (b : Bond) (u : X) (r : Result Y AllocError) (one : Done) → IsDone old new b (Ok u) one → IsDone old new b r one
done_on old new b u r one d = record { bond = on_ok _ r d.bond; out = on_ok _ r d.out; dues = on_ok _ r d.dues; next = on_ok _ r d.next }

pub named_again : {X : Type 0} (r : Result X AllocError) (before : Option ℕ) (index : ConnectionIndex) (place : ℕ) (b c : Bond) → before ≡ schedule_end_of b → OnOk r (IsNamed index.ids place c) → OnOk r (IsEndNamedBut before index.ends place (schedule_end_of c))
    → OnOk r (IsNamedAgain index place b c)
named_again (Ok x) before index place b c e named end = record { named = named; end = subst (λ o. IsEndNamedBut o index.ends place (schedule_end_of c)) e end }
named_again (Err x) before index place b c e named end = tt

---- Places that are looked up

pub heard_places : (index : ConnectionIndex) (bs : List Bond) (agent : Agent) (now : ℕ) (m : Message) (places items : List ℕ) (count : ℕ) → items ≡ places → count ≡ length bs → AreFound index bs → AreSettled bs → IsStrictlyIncreasing places
    → ((p : ℕ) → Contains places p ↔ (MayHear index.ids m p × (p < count))) → AreTouched (answered agent now m) bs items
heard_places index bs agent now m places items count e f found settled rising h =
    subst (AreTouched (answered agent now m) bs) (sym e) (heard_touches index bs agent now m places found settled rising (λ p. subst (λ n. Contains places p ↔ (MayHear index.ids m p × (p < n))) f (h p)))

pub clocked_places : (index : ConnectionIndex) (bs : List Bond) (agent : Agent) (now : ℕ) (late : List Due) (places items : List ℕ) (count : ℕ) → items ≡ places → count ≡ length bs → AreFound index bs → IsStrictlyIncreasing places
    → ((p : ℕ) → Contains places p ↔ (MayChange index.ends now late p × (p < count))) → AreTouched (clocked_bond agent now late) bs items
clocked_places index bs agent now late places items count e f found rising h =
    subst (AreTouched (clocked_bond agent now late) bs) (sym e) (clocked_touches index bs agent now late places found rising (λ p. subst (λ n. Contains places p ↔ (MayChange index.ends now late p × (p < n))) f (h p)))

owned_id : (id : ℕ) (owner : List ℕ) (x : Connection) → is_owned id owner x ≡ true → id ≡ x.own.id
owned_id id owner x h = grind (arith, nat_tests)

pub owned_places : (index : ConnectionIndex) (xs : List Connection) (id : ℕ) (owner : List ℕ) (places items : List ℕ) (count : ℕ) → items ≡ places → count ≡ length xs → AreFound index (bonds xs) → IsStrictlyIncreasing places
    → ((p : ℕ) → Contains places p ↔ (Contains index.ids (id_at id p) × (p < count))) → AreOwned id owner xs items
owned_places index xs id owner places items count e f found rising h = subst (AreOwned id owner xs) (sym e) (record {
  rising = rising;
  within = λ n has. let l = ((h n).0 has).1 in omega (arith, l, f);
  all = λ n x l mine.
      let long = length-map xs bond in
      let named = (found n (omega (arith, l, long))).named.own in
      let at : bond_at n (bonds xs) ≡ bond (get_or xs n x) = get_or-map bond xs n x no_bond l in
      let is : (bond_at n (bonds xs)).own.id ≡ id = ap (λ (b : Bond). b.own.id) at ∙ sym (owned_id id owner (get_or xs n x) mine) in
      (h n).1 (subst (λ i. Contains index.ids (id_at i n)) is named, omega (arith, l, f));
})

---- A request

same_request : (agent : Agent) (now : ℕ) (m : Message) (number next : ℕ) (route : ℕ → ℕ → List Leg) (n : ℕ) (b c : Bond) → number ≡ n → b ≡ c → request_with agent now m number next route b ≡ request_with agent now m n next route c
same_request agent now m number next route n b c f g = rw (f, g) refl

-- a request at what stands at a place
pub requested_in : (bs cs : List Bond) (n : ℕ) (b c : Bond) (o p : Outbox) (said : Said) (e : Entering) (start : Start) (route : ℕ → ℕ → List Leg) → b ≡ bond_at n bs → cs ≡ set bs n c → start.number ≡ n → IsRequested b c o p said e start route
    → IsRequestedAt n bs cs o p said e start.next route
requested_in bs cs n b c o p said e start route at put same_number r =
    let same = same_request e.agent.now e.second e.message.now start.number start.next route n b (bond_at n bs) same_number at in
    record {
      bonds = put ∙ ap (set bs n) (r.bonds ∙ ap (λ (d : Done). d.bond) same);
      out = r.out ∙ ap (λ (d : Done). d.out) same;
      next = r.next ∙ ap (λ (d : Done). d.next) same;
      waits = r.waits ∙ ap (λ (d : Done). record o.retry { waiting = o.retry.waiting ++ d.out }) same;
      dues = r.dues ∙ ap (λ (d : Done). o.dues ++ d.dues) same;
    }

pub requested_settled : (b c : Bond) (o p : Outbox) (said : Said) (e : Entering) (start : Start) (route : ℕ → ℕ → List Leg) → IsRequested b c o p said e start route → IsSettled c
requested_settled b c o p said e start route r = subst IsSettled (sym r.bonds) (settled_request e.agent.now e.second e.message.now start.number start.next (with_children route e.message.now b))

-- the table behind a request at a place
pub requested_table : (old new : ConnectionIndex) (bs cs : List Bond) (n : ℕ) (b c : Bond) (o p : Outbox) (e : Entering) (start : Start) (r : Result Said AllocError) → IsTable old bs → n < length bs → start.place ≡ n → b ≡ bond_at n bs → cs ≡ set bs n c → Grows old new
    → OnOk r (IsNamedAgain new start.place b c) → IfOk r (λ said. (route : ℕ → ℕ → List Leg) × IsRequested b c o p said e start route) → OnErr r (c ≡ b) → IsTable new cs
requested_table old new bs cs n b c o p e start (Ok said) was l place at put more named some back =
    let again = subst (λ k. IsNamedAgain new k b c) place named in (
      subst (AreFound new) (sym put) (found_set old new bs n c more was.0 l (subst (λ z. IsNamedAgain new n z c) at again)),
      subst AreSettled (sym put) (settled_set bs n c was.1 l (requested_settled b c o p said e start some.0 some.1)),
    )
requested_table old new bs cs n b c o p e start (Err x) was l place at put more named some back =
    let same : cs ≡ bs = put ∙ (ap (set bs n) (back ∙ at) ∙ set-get_or bs n no_bond) in
    (subst (AreFound new) (sym same) (all_grown old new bs more was.0), subst AreSettled (sym same) was.1)

-- where memory is wanting, all is as it was
pub requested_back : (bs cs : List Bond) (n : ℕ) (b c : Bond) (r : Result Said AllocError) → b ≡ bond_at n bs → cs ≡ set bs n c → OnErr r (c ≡ b) → OnErr r (cs ≡ bs)
requested_back bs cs n b c (Ok said) at put back = tt
requested_back bs cs n b c (Err x) at put back = put ∙ (ap (set bs n) (back ∙ at) ∙ set-get_or bs n no_bond)

-- the same of one that is opened
pub opened_end : (b : Bond) → b.own.committed ≡ [] → schedule_end_of b ≡ None
unfolding end_while
opened_end b e = by_created (is_created b.own.lsm)
  where
    by_created : (t : Bool) → end_while t (end_of (last b.own.committed)) ≡ None
    by_created true = ap (λ xs. end_of (last xs)) e
    by_created false = refl

pub opened_table : (old new : ConnectionIndex) (bs cs : List Bond) (n : ℕ) (b c : Bond) (o p : Outbox) (said : Said) (e : Entering) (start : Start) → IsTable old bs → n ≡ length bs → start.place ≡ n → b.own.committed ≡ [] → cs ≡ bs ++ c ∷ [] → Grows old new
    → IsNamedAgain new start.place b c → (route : ℕ → ℕ → List Leg) × IsRequested b c o p said e start route → IsTable new cs
opened_table old new bs cs n b c o p said e start was long place none put more named some =
    let again = subst (λ k. IsNamedAgain new k b c) (place ∙ long) named in (
      subst (AreFound new) (sym put) (found_push old new bs b c more was.0 (opened_end b none) again),
      subst AreSettled (sym put) (settled_push bs c was.1 (requested_settled b c o p said e start some.0 some.1)),
    )

pub opened_in : (bs cs : List Bond) (n : ℕ) (b c : Bond) (o p : Outbox) (said : Said) (e : Entering) (start : Start) (route : ℕ → ℕ → List Leg) → n ≡ length bs → cs ≡ bs ++ c ∷ [] → start.number ≡ n → IsRequested b c o p said e start route
    → IsRequestedAt (length bs) (bs ++ b ∷ []) cs o p said e start.next route
opened_in bs cs n b c o p said e start route long put same_number r =
    requested_in (bs ++ b ∷ []) cs (length bs) b c o p said e start route (sym (get_or_push bs b no_bond (length bs) refl)) (put ∙ sym (set_at bs b [] c (length bs) refl)) (same_number ∙ long) r

-- the table behind a tick
pub clocked_table : (ids : List IdPlace) (old new : List Deadline) (agent : Agent) (now : ℕ) (late : List Due) (next : ℕ) (bs cs : List Bond) (o p : Outbox) (r : Result Said AllocError) → IsTable (record { ids = ids; ends = old }) bs
    → OnOk r ((d : Deadline) → Contains new d ↔ ((now < d.second) × Contains old d)) → OnErr r (new ≡ old) →
    (let all = each_bond (clocked_bond agent now late) 0 next bs in IfOk r (λ said. IsEntered cs o p said all.bonds all.out all.dues all.next)) → OnErr r (cs ≡ bs) → IsTable (record { ids = ids; ends = new }) cs
clocked_table ids old new agent now late next bs cs o p (Ok said) was passed left done back =
    (subst (AreFound (record { ids = ids; ends = new })) (sym done.bonds) (clocked_found ids old new agent now late next bs passed was.0), clocked_settled agent now late next bs cs was.1 done.bonds)
clocked_table ids old new agent now late next bs cs o p (Err e) was passed left done back =
    subst (λ es. IsTable (record { ids = ids; ends = es }) cs) (sym left) (subst (IsTable (record { ids = ids; ends = old })) (sym back) was)

---- What is said of a request, at its place

pub requested_by : (bs cs : List Bond) (n : ℕ) (b c : Bond) (o p : Outbox) (e : Entering) (start : Start) (route : ℕ → ℕ → List Leg) (r : Result Said AllocError) → b ≡ bond_at n bs → cs ≡ set bs n c → start.number ≡ n
    → IfOk r (λ said. IsRequested b c o p said e start route) → IfOk r (λ said. IsRequestedAt n bs cs o p said e start.next route)
requested_by bs cs n b c o p e start route (Ok said) at put same h = requested_in bs cs n b c o p said e start route at put same h
requested_by bs cs n b c o p e start route (Err x) at put same h = tt

pub requested_some : (bs cs : List Bond) (n : ℕ) (b c : Bond) (o p : Outbox) (e : Entering) (start : Start) (r : Result Said AllocError) → b ≡ bond_at n bs → cs ≡ set bs n c → start.number ≡ n
    → IfOk r (λ said. (route : ℕ → ℕ → List Leg) × IsRequested b c o p said e start route) → IfOk r (λ said. (route : ℕ → ℕ → List Leg) × IsRequestedAt n bs cs o p said e start.next route)
requested_some bs cs n b c o p e start (Ok said) at put same h = (h.0, requested_in bs cs n b c o p said e start h.0 at put same h.1)
requested_some bs cs n b c o p e start (Err x) at put same h = tt

pub on_err : {X : Type 0} (P : Type 0) (r : Result X AllocError) → P → OnErr r P
on_err P (Ok x) h = tt
on_err P (Err e) h = h

-- a view is named by one after another
pub view_named : {X : Type 0} (r : Result X AllocError) (place : ℕ) (x : ChildConnection) (a b c d e : List IdPlace) → StaysIn a b → StaysIn b c → StaysIn c d → StaysIn d e → IfSome x.connection (λ id. Contains a (id_at id place)) → IfSome x.attempt (λ i. Contains b (id_at i place))
    → IfSome x.reserve_request (λ q. Contains c (id_at q.correlation place)) → IfSome x.provision_request (λ q. Contains d (id_at q.correlation place)) → OnOk r (IfSome x.lifecycle_request (λ q. Contains e (id_at q.correlation place))) → OnOk r (IsViewNamed e place x)
view_named (Ok y) place x a b c d e ab bc cd de connection attempt reserve provision lifecycle = record {
  connection = some_more _ _ x.connection connection (λ id has. de (id_at id place) (cd (id_at id place) (bc (id_at id place) (ab (id_at id place) has))));
  attempt = some_more _ _ x.attempt attempt (λ i has. de (id_at i place) (cd (id_at i place) (bc (id_at i place) has)));
  reserve = some_more _ _ x.reserve_request reserve (λ q has. de (id_at q.correlation place) (cd (id_at q.correlation place) has));
  provision = some_more _ _ x.provision_request provision (λ q has. de (id_at q.correlation place) has);
  lifecycle = lifecycle;
}
view_named (Err y) place x a b c d e ab bc cd de connection attempt reserve provision lifecycle = tt

pub name_of_all : {X : Type 0} (r : Result X AllocError) (place : ℕ) (b : Bond) (old new : List IdPlace) → StaysIn old new → Contains old (id_at b.own.id place) → OnOk r (All (IsViewNamed new place) b.children) → OnOk r (IsNamed new place b)
name_of_all (Ok y) place b old new more own views = record { own = more (id_at b.own.id place) own; views = views }
name_of_all (Err y) place b old new more own views = tt

-- adding leaves what is there, and puts one there
pub added_stays : {X R : Type 0} (r : Result R AllocError) (old new : List X) (x : X) → OnOk r ((y : X) → Contains new y ↔ ((y ≡ x) ⊎ Contains old y)) → OnErr r (new ≡ old) → StaysIn old new
added_stays (Ok u) old new x h back y has = (h y).1 (inr has)
added_stays (Err e) old new x h back y has = subst (λ zs. Contains zs y) (sym back) has

pub added_there : {X R : Type 0} (r : Result R AllocError) (old new : List X) (x : X) → OnOk r ((y : X) → Contains new y ↔ ((y ≡ x) ⊎ Contains old y)) → OnOk r (Contains new x)
added_there (Ok u) old new x h = (h x).1 (inl refl)
added_there (Err e) old new x h = tt

pub ok_more : {R : Type 0} (P Q : Type 0) (r : Result R AllocError) → (P → Q) → OnOk r P → OnOk r Q
ok_more P Q (Ok u) f h = f h
ok_more P Q (Err e) f h = tt
