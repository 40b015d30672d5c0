-- An aggregator's connections are settled behind each entry; so where a record works on a request, an answer of a child is missing.
use Rattle.std.proofs.Common.{ℕ, zero, suc, ◌+◌, ◌<◌, ◌≡◌, ◌≢◌, ◌∙◌, ◌⊎◌, inl, inr, Bool, true, false, not, ◌&&◌, ◌||◌, List, [], ◌∷◌, ◌++◌, Option, Some, None, refl, sym, ap, subst, arith, length, length-append, bytes_eq, eqb, get_or, slice_get, slice_set}
use Rattle.std.specs.List.{Contains, find, list_any}
use Rattle.std.proofs.lemmas.Bool.{and_parts, cases_eq}
use Rattle.std.proofs.lemmas.List.Elements.{Contains-get_or, Contains-append_right}
use Rattle.std.proofs.lemmas.List.Quantifiers.{position-Some}
use Rattle.std.proofs.lemmas.Option.{same_Some, get_or_from_slice_get, slice_get_within}
use Rattle.nsi_primitive.specs.Ids.{id_of}
use Rattle.nsi_primitive.specs.Messages.{is_request, is_query, connection_of}
use Rattle.nsi_primitive.specs.declared.entry.Entry.{Entry}
use Rattle.nsi_primitive.specs.declared.entry.Input.{Input}
use Rattle.nsi_primitive.specs.declared.kind.ErrorName.{ErrorName}
use Rattle.nsi_primitive.specs.declared.kind.Kind.{Kind}
use Rattle.nsi_primitive.specs.declared.message.Body.{Body}
use Rattle.nsi_primitive.specs.declared.message.Message.{Message}
use Rattle.nsi_primitive.specs.declared.message.ReserveRequest.{ReserveRequest}
use Rattle.nsi_primitive.specs.declared.state.Lsm.{Lsm}
use Rattle.connection_record.specs.declared.record.Record.{Record}
use Rattle.connection_record.specs.Applied.{is_terminating}
use Rattle.connection_record.specs.Demand.{is_terminated}
use Rattle.connection_record.specs.Moves.{is_live}
use Rattle.connection_record.specs.Refusal.{points_of, place_of, refusal}
use Rattle.child_connection.specs.Views.{ChildConnection, open_request}
use Rattle.agent_state.specs.declared.parent.Due.{Due}
use Rattle.agent_state.specs.Entries.{is_recursive}
use Rattle.agent_state.specs.State.{AgentState, no_record, record_at, children_at}
use Rattle.aggregator_agent.specs.declared.agent.Agent.{Agent}
use Rattle.aggregator_agent.specs.Asking.{Turn, begin, replies_by}
use Rattle.aggregator_agent.specs.Below.{Sought, is_asked, seek}
use Rattle.aggregator_agent.specs.Clock.{Told, tells_late, tell_one, is_late_of, tell_all, ends, clocked, clock_then, clock_all}
use Rattle.aggregator_agent.specs.Setting.{Setting}
use Rattle.aggregator_agent.specs.Settled.{rests, AreAtRest, IsSettledIn}
use Rattle.aggregator_agent.specs.Settling.{is_waiting, is_lacking, has_error, checked, reservation_verdict, reservation_due, provision_verdict, provision_due, is_there}
use Rattle.aggregator_agent.specs.Steps.{is_seen, sees, children_for, request_at, with_new, opens_between, opens, request_to, accepts, answers, Passed, pass_then, hear_all, hears, opens_query, asks_below, asks_if_own, place_named, queries, serves, receives, ticks, step, may_take, after_if, after}
use Rattle.aggregator_agent.specs.Turns.{joined_of, takes, pass_on, turn_by_request, request_turn, turn_by_answer, answer_turn}
use Rattle.aggregator_agent.proofs.Settles.{noted_settled, settled_turn, settled_ends}
use Rattle.provider_agent.proofs.EachTicked.{AreEach, each_new}
use Rattle.provider_agent.proofs.RecordPlaces.{set_here, set_elsewhere, push_cases}
use Rattle.request_answers.specs.Open.{works_on, is_open}
use Rattle.request_answers.specs.Waiting.{is_missing}
use Rattle.request_answers.proofs.Aggregating.{new_in}

-- each connection has nothing left to do as its children stand
abbrev pub AreSettled : List Record → List (List ChildConnection) → Type 0
AreSettled rs xss = (n : ℕ) (own : Record) → slice_get rs n ≡ Some own → IsSettledIn own.lsm own (children_at n xss)

abbrev pub IsSettled : AgentState → Type 0
IsSettled s = AreSettled s.base.records s.children

-- the records and the views of their children stand side by side
abbrev pub IsEven : AgentState → Type 0
IsEven s = length s.children ≡ length s.base.records

---- One connection

request_settled : (agent : Agent) (now : ℕ) (m : Message) (r : Record) (xs : List ChildConnection) (next : ℕ) → let t : Turn = request_turn agent now m r xs next in IsSettledIn t.own.lsm t.own t.children
unfolding request_turn turn_by_request
request_settled agent now m r xs next = settled_turn (joined_of xs) agent now (pass_on m agent (replies_by (begin r xs next) (takes m now r)))

answer_settled : (agent : Agent) (now : ℕ) (m : Message) (r : Record) (xs : List ChildConnection) (next : ℕ) → let t : Turn = answer_turn agent now m r xs next in IsSettledIn t.own.lsm t.own t.children
unfolding answer_turn turn_by_answer
answer_settled agent now m r xs next = settled_turn (joined_of xs) agent now _

one_settled : (b : Bool) (agent : Agent) (now next : ℕ) (r : Record) (d : Due) (rest : Record → ℕ → Told) (xs : List ChildConnection) → IsSettledIn r.lsm r xs →
    ((q : Record) (n : ℕ) → IsSettledIn q.lsm q xs → IsSettledIn (rest q n).own.lsm (rest q n).own xs) → IsSettledIn (tell_one b agent now next r d rest).own.lsm (tell_one b agent now next r d rest).own xs
unfolding tell_one tells_late
one_settled true agent now next r d rest xs h p = let q : Record = (tells_late d.correlation (id_of agent.number next) now r).rec in p q (next + 1) (noted_settled r.lsm r q.notices xs h)
one_settled false agent now next r d rest xs h p = p r next h

all_settled : (ds : List Due) (agent : Agent) (now number : ℕ) (waiting : List Message) (r : Record) (next : ℕ) (xs : List ChildConnection) → IsSettledIn r.lsm r xs →
    let t : Told = tell_all ds agent now number waiting r next in IsSettledIn t.own.lsm t.own xs
unfolding tell_all
all_settled [] agent now number waiting r next xs h = h
all_settled (d ∷ ds) agent now number waiting r next xs h =
    one_settled (is_late_of number now waiting d) agent now next r d (λ q n. tell_all ds agent now number waiting q n) xs h (λ q n g. all_settled ds agent now number waiting q n xs g)

clocked_settled : (agent : Agent) (now number : ℕ) (ds : List Due) (waiting : List Message) (r : Record) (next : ℕ) (xs : List ChildConnection) → IsSettledIn r.lsm r xs →
    let t : Told = clocked agent now number ds waiting r next in IsSettledIn t.own.lsm t.own xs
unfolding clocked
clocked_settled agent now number ds waiting r next xs h = all_settled ds agent now number waiting (ends (is_live r.lsm) now r).rec next xs (settled_ends (is_live r.lsm) now r xs refl h)

---- All connections

heard_settled : (agent : Agent) (now number : ℕ) (m : Message) (next : ℕ) (rs : List Record) (xss : List (List ChildConnection)) → AreSettled rs xss →
    AreSettled (hear_all agent now number m next rs xss).records (hear_all agent now number m next rs xss).children
unfolding hear_all pass_then
heard_settled agent now number m next [] xss h = h
heard_settled agent now number m next (r ∷ rs) [] h = h
heard_settled agent now number m next (r ∷ rs) (xs ∷ xss) h = by (heard_settled agent now (number + 1) m t.next rs xss (λ k own at. h (suc k) own at))
  where
    t : Turn
    t = answer_turn agent now m r xs next

    rest : Passed
    rest = hear_all agent now (number + 1) m t.next rs xss

    by : AreSettled rest.records rest.children → AreSettled (t.own ∷ rest.records) (t.children ∷ rest.children)
    by more zero own at = subst (λ (z : Record). IsSettledIn z.lsm z t.children) (same_Some t.own own at) (answer_settled agent now m r xs next)
    by more (suc k) own at = more k own at

-- whatever its children are
abbrev StaysSettled : Record → Record → Type 0
StaysSettled r q = (xs : List ChildConnection) → IsSettledIn r.lsm r xs → IsSettledIn q.lsm q xs

each_clocked : (agent : Agent) (now number : ℕ) (ds : List Due) (waiting : List Message) (next : ℕ) (rs : List Record) → AreEach StaysSettled rs (clock_all agent now number ds waiting next rs).records
unfolding clock_all clock_then
each_clocked agent now number ds waiting next [] = tt
each_clocked agent now number ds waiting next (r ∷ rs) =
    (λ xs h. clocked_settled agent now number ds waiting r next xs h, each_clocked agent now (number + 1) ds waiting (clocked agent now number ds waiting r next).next rs)

ticked_settled : (agent : Agent) (now number : ℕ) (ds : List Due) (waiting : List Message) (next : ℕ) (rs : List Record) (xss : List (List ChildConnection)) → AreSettled rs xss →
    AreSettled (clock_all agent now number ds waiting next rs).records xss
ticked_settled agent now number ds waiting next rs xss h n own at =
    let old = each_new StaysSettled rs (clock_all agent now number ds waiting next rs).records n own (each_clocked agent now number ds waiting next rs) at in
    old.2 (children_at n xss) (h n old.0 old.1)

---- A request

other_or : {X : Type 0} (xs : List X) (n k : ℕ) (x d : X) → k ≢ n → get_or (slice_set xs n x) k d ≡ get_or xs k d
other_or [] n k x d h = refl
other_or (y ∷ ys) zero zero x d h = absurd (h refl)
other_or (y ∷ ys) zero (suc k) x d h = refl
other_or (y ∷ ys) (suc n) zero x d h = refl
other_or (y ∷ ys) (suc n) (suc k) x d h = other_or ys n k x d (λ e. h (ap suc e))

here_or : {X : Type 0} (xs : List X) (n : ℕ) (x d : X) → n < length xs → get_or (slice_set xs n x) n d ≡ x
here_or xs n x d lt = get_or_from_slice_get (slice_set xs n x) n x d (set_here xs n x lt)

pushed_or : {X : Type 0} (xs : List X) (k : ℕ) (x d : X) → k < length xs → get_or (xs ++ x ∷ []) k d ≡ get_or xs k d
pushed_or [] k x d lt = absurd (omega (arith, lt))
pushed_or (y ∷ ys) zero x d lt = refl
pushed_or (y ∷ ys) (suc k) x d lt = pushed_or ys k x d (omega (arith, lt))

-- all but the one at a place
abbrev AreOthersSettled : ℕ → AgentState → Type 0
AreOthersSettled n s = (k : ℕ) (own : Record) → k ≢ n → slice_get s.base.records k ≡ Some own → IsSettledIn own.lsm own (children_at k s.children)

turned_settled : (setting : Setting) (s : AgentState) (n : ℕ) (m : Message) → n < length s.base.records → n < length s.children → AreOthersSettled n s → IsSettled (request_at setting s n m).state
unfolding request_at
turned_settled setting s n m lt le others k own at = elim (cases_eq k n) [
  | inl e ↦
      let r : Record = record_at n s.base.records in
      let t : Turn = request_turn setting.agent s.base.now m r (children_for setting s n m) s.base.next in
      let same : t.own ≡ own = same_Some t.own own (sym (set_here s.base.records n t.own lt) ∙ (ap (slice_get (slice_set s.base.records n t.own)) (sym e) ∙ at)) in
      let views : children_at k (slice_set s.children n t.children) ≡ t.children = ap (λ j. children_at j (slice_set s.children n t.children)) e ∙ here_or s.children n t.children [] le in
      subst (λ (z : Record). IsSettledIn z.lsm z (children_at k (slice_set s.children n t.children))) same
      (subst (λ xs. IsSettledIn t.own.lsm t.own xs) (sym views) (request_settled setting.agent s.base.now m r (children_for setting s n m) s.base.next))
  | inr d ↦
      let t : Turn = request_turn setting.agent s.base.now m (record_at n s.base.records) (children_for setting s n m) s.base.next in
      subst (λ xs. IsSettledIn own.lsm own xs) (sym (other_or s.children n k t.children [] d)) (others k own d (sym (set_elsewhere s.base.records n k t.own d) ∙ at))
]

opened_settled : (o : Option (ℕ × ℕ)) (setting : Setting) (s : AgentState) (m : Message) (q : ReserveRequest) → IsEven s → IsSettled s → IsSettled (opens_between o setting s m q).state
opened_settled None setting s m q even h = h
opened_settled (Some points) setting s m q even h =
    let new : AgentState = with_new setting s m q points in
    turned_settled setting new (length s.base.records) m (omega (arith, length-append s.base.records (new_in setting s m q points ∷ []))) (omega (arith, even, length-append s.children ([] ∷ []))) others
  where
    others : AreOthersSettled (length s.base.records) (with_new setting s m q points)
    others k own d at = by (push_cases s.base.records k (new_in setting s m q points) own at)
      where
        by : ((k ≡ length s.base.records) × (new_in setting s m q points ≡ own)) ⊎ (slice_get s.base.records k ≡ Some own) → IsSettledIn own.lsm own (children_at k (s.children ++ [] ∷ []))
        by (inl e) = absurd (d e.0)
        by (inr old) =
            let lt : k < length s.base.records = slice_get_within s.base.records k own old in
            subst (λ xs. IsSettledIn own.lsm own xs) (sym (pushed_or s.children k [] [] (omega (arith, even, lt)))) (h k own old)

opens_settled : (body : Body) (setting : Setting) (s : AgentState) (m : Message) → IsEven s → IsSettled s → IsSettled (opens body setting s m).state
opens_settled (Body.Reserve q) setting s m even h = opened_settled (points_of setting.stp_of q) setting s m q even h
opens_settled _ setting s m even h = h

placed_settled : (id : ℕ) (o : Option ℕ) (setting : Setting) (s : AgentState) (m : Message) → place_of id m.header.requester s.base.records ≡ o → IsEven s → IsSettled s → IsSettled (request_to o setting s m).state
placed_settled id None setting s m e even h = h
placed_settled id (Some n) setting s m e even h =
    let lt : n < length s.base.records = (position-Some (λ r. eqb id r.id && bytes_eq m.header.requester r.owner) s.base.records n no_record e).0 in
    turned_settled setting s n m lt (omega (arith, even, lt)) (λ k own d at. h k own at)

accepts_settled : (o : Option ℕ) (setting : Setting) (s : AgentState) (m : Message) → IsEven s → IsSettled s → IsSettled (accepts o setting s m).state
accepts_settled None setting s m even h = opens_settled m.body setting s m even h
accepts_settled (Some id) setting s m even h = placed_settled id (place_of id m.header.requester s.base.records) setting s m refl even h

answers_settled : (o : Option ErrorName) (setting : Setting) (s : AgentState) (m : Message) → IsEven s → IsSettled s → IsSettled (answers o setting s m).state
unfolding answers
answers_settled (Some error) setting s m even h = h
answers_settled None setting s m even h = accepts_settled (connection_of m.body) setting s m even h

sought_settled : (waits : Bool) (setting : Setting) (s : AgentState) (n : ℕ) (m : Message) (x : Sought) → IsSettled s → IsSettled (opens_query waits setting s n m x).state
sought_settled true setting s n m x h = h
sought_settled false setting s n m x h = h

asks_settled : (own : Bool) (o : Option ℕ) (setting : Setting) (s : AgentState) (m : Message) → IsSettled s → IsSettled (asks_if_own own o setting s m).state
unfolding asks_below
asks_settled true (Some n) setting s m h = let x : Sought = seek setting.agent s.base.next (children_at n s.children) in sought_settled (list_any is_asked x.parts) setting s n m x h
asks_settled true None setting s m h = h
asks_settled false o setting s m h = h

queries_settled : (recursive : Bool) (setting : Setting) (s : AgentState) (m : Message) → IsSettled s → IsSettled (queries recursive setting s m).state
queries_settled true setting s m h = asks_settled (bytes_eq m.header.provider setting.agent.name) (place_named m s.base.records) setting s m h
queries_settled false setting s m h = h

serves_settled : (query : Bool) (setting : Setting) (s : AgentState) (m : Message) → IsEven s → IsSettled s → IsSettled (serves query setting s m).state
serves_settled true setting s m even h = queries_settled (is_recursive m.body) setting s m h
serves_settled false setting s m even h = answers_settled (refusal s.base.now setting.agent.name setting.stp_of s.base.records m) setting s m even h

receives_settled : (asks old : Bool) (setting : Setting) (s : AgentState) (m : Message) → IsEven s → IsSettled s → IsSettled (receives asks old setting s m).state
unfolding receives hears
receives_settled true false setting s m even h = serves_settled (is_query m.body) setting (sees m s) m even h
receives_settled false false setting s m even h = heard_settled setting.agent s.base.now 0 m s.base.next s.base.records s.children h
receives_settled true true setting s m even h = h
receives_settled false true setting s m even h = h

---- One entry

step_settled : (i : Input) (second : ℕ) (setting : Setting) (s : AgentState) → IsEven s → IsSettled s → IsSettled (step i second setting s).state
unfolding step ticks
step_settled (Input.Got m) second setting s even h = receives_settled (is_request m.body) (is_seen s m) setting s m even h
step_settled Input.Tick second setting s even h = ticked_settled setting.agent second 0 s.dues s.base.waiting s.base.next s.base.records s.children h
step_settled (Input.Acked i) second setting s even h = h
step_settled (Input.Work n machine) second setting s even h = h
step_settled (Input.Force n) second setting s even h = h
step_settled (Input.Ask n ask) second setting s even h = h

pub entry_settled : (setting : Setting) (s : AgentState) (e : Entry) → IsEven s → IsSettled s → IsSettled (after setting s e).state
unfolding after
entry_settled setting s e even h = by (may_take s e)
  where
    by : (b : Bool) → IsSettled (after_if b setting s e).state
    by true = step_settled e.input e.second setting s even h
    by false = h

---- What is missing

is_reserving_kind : Kind → Bool
is_reserving_kind Kind.Reserve = true
is_reserving_kind Kind.ReserveCommit = true
is_reserving_kind Kind.ReserveAbort = true
is_reserving_kind _ = false

is_provision_kind : Kind → Bool
is_provision_kind Kind.Provision = true
is_provision_kind Kind.Release = true
is_provision_kind _ = false

any_found : (p : ChildConnection → Bool) (xs : List ChildConnection) → list_any p xs ≡ true → (x : ChildConnection) × Contains xs x × (p x ≡ true)
any_found p [] h = absurd (cc)
any_found p (x ∷ xs) h = by (p x) refl h (any_found p xs)
  where
    by : (b : Bool) → p x ≡ b → (b || list_any p xs) ≡ true → (list_any p xs ≡ true → (y : ChildConnection) × Contains xs y × (p y ≡ true)) → (y : ChildConnection) × Contains (x ∷ xs) y × (p y ≡ true)
    by true e h rest = (x, Contains-get_or (x ∷ xs) 0 x (omega arith), e)
    by false e h rest = let found = rest h in (found.0, Contains-append_right (x ∷ []) xs found.0 found.1, found.2)

-- a reservation that works on a request has something to do as soon as no child has one of its machine unanswered
busy_reservation : (k : Kind) (c : ℕ) (own : Record) (xs : List ChildConnection) → is_reserving_kind k ≡ true → works_on k c own ≡ true → rests (reservation_due true own.rsm [] xs) own.pending ≡ true → ⊥
unfolding is_reserving_kind works_on rests reservation_due reservation_verdict checked
busy_reservation k c own [] b w h = grind (arith, b, w, h)
busy_reservation k c own (x ∷ xs) b w h = by_found (find is_lacking (x ∷ xs)) (find has_error (x ∷ xs)) refl refl
  where
    by_found : (o p : Option ChildConnection) → find is_lacking (x ∷ xs) ≡ o → find has_error (x ∷ xs) ≡ p → ⊥
    by_found o p e f = grind (arith, b, w, h, e, f)

busy_provision : (k : Kind) (c : ℕ) (own : Record) (xs : List ChildConnection) → is_provision_kind k ≡ true → works_on k c own ≡ true → provision_due true own.psm [] xs ≡ None → ⊥
unfolding is_provision_kind works_on provision_due provision_verdict
busy_provision k c own xs b w h = grind (arith, b, w, h)

child_waits : (k : Kind) (x : ChildConnection) → is_reserving_kind k ≡ true → is_waiting Kind.Reserve x ≡ true → is_waiting k x ≡ true
unfolding is_reserving_kind open_request
child_waits Kind.Reserve x b h = h
child_waits Kind.ReserveCommit x b h = h
child_waits Kind.ReserveAbort x b h = h
child_waits _ x b h = absurd (cc)

child_provides : (k : Kind) (x : ChildConnection) → is_provision_kind k ≡ true → is_waiting Kind.Provision x ≡ true → is_waiting k x ≡ true
unfolding is_provision_kind open_request
child_provides Kind.Provision x b h = h
child_provides Kind.Release x b h = h
child_provides _ x b h = absurd (cc)

-- the machine that works on a request, where the connection doesn't end
machine_of : (k : Kind) (c : ℕ) (own : Record) → is_terminating own.lsm ≡ false → works_on k c own ≡ true → (is_reserving_kind k ≡ true) ⊎ (is_provision_kind k ≡ true)
unfolding works_on is_reserving_kind is_provision_kind
machine_of Kind.Reserve c own l w = inl refl
machine_of Kind.ReserveCommit c own l w = inl refl
machine_of Kind.ReserveAbort c own l w = inl refl
machine_of Kind.Provision c own l w = inr refl
machine_of Kind.Release c own l w = inr refl
machine_of Kind.Terminate c own l w = absurd (grind (arith, l, w))
machine_of _ c own l w = absurd (cc)

-- a child of whom an answer is missing
abbrev pub Misses : Kind → Record → List ChildConnection → Type 0
Misses k own xs = (x : ChildConnection) × Contains xs x × (is_missing (is_terminating own.lsm) k x ≡ true)

-- where the connection doesn't end
module _ (k : Kind) (c : ℕ) (own : Record) (xs : List ChildConnection) (live : is_terminating own.lsm ≡ false) (works : works_on k c own ≡ true) (rest : AreAtRest own xs) where
  found_missing : (p : Kind) → ((x : ChildConnection) → is_waiting p x ≡ true → is_waiting k x ≡ true) → list_any (is_waiting p) xs ≡ true → Misses k own xs
  found_missing p same h = let found = any_found (is_waiting p) xs h in (found.0, found.1, ap (λ b. is_missing b k found.0) live ∙ same found.0 found.2)

  reserve_missing : is_reserving_kind k ≡ true → Misses k own xs
  reserve_missing b = by (list_any (is_waiting Kind.Reserve) xs) refl
    where
      by : (a : Bool) → list_any (is_waiting Kind.Reserve) xs ≡ a → Misses k own xs
      by true e = found_missing Kind.Reserve (λ x h. child_waits k x b h) e
      by false e = absurd (busy_reservation k c own xs b works (sym (ap (λ q. rests (reservation_due (not q) own.rsm [] xs) own.pending) e) ∙ rest.reservation []))

  provision_missing : is_provision_kind k ≡ true → Misses k own xs
  provision_missing b = by (list_any (is_waiting Kind.Provision) xs) refl
    where
      by : (a : Bool) → list_any (is_waiting Kind.Provision) xs ≡ a → Misses k own xs
      by true e = found_missing Kind.Provision (λ x h. child_provides k x b h) e
      by false e = absurd (busy_provision k c own xs b works (sym (ap (λ q. provision_due (not q) own.psm [] xs) e) ∙ rest.provision []))

  rest_misses : Misses k own xs
  rest_misses = by (machine_of k c own live works)
    where
      by : (is_reserving_kind k ≡ true) ⊎ (is_provision_kind k ≡ true) → Misses k own xs
      by (inl b) = reserve_missing b
      by (inr b) = provision_missing b

-- Where a settled connection's record works on a request, an answer of a child is missing.
pub open_misses : (k : Kind) (c : ℕ) (own : Record) (xs : List ChildConnection) → IsSettledIn own.lsm own xs → is_open k c own ≡ true → Misses k own xs
unfolding IsSettledIn is_terminating
open_misses k c own xs settled opens = by own.lsm refl settled
  where
    parts : (works_on k c own ≡ true) × (not (is_terminated own.lsm) ≡ true)
    parts = and_parts (works_on k c own) (not (is_terminated own.lsm)) opens

    by : (l : Lsm) → own.lsm ≡ l → IsSettledIn l own xs → Misses k own xs
    by Lsm.Terminating e h = let found = any_found is_there xs h in (found.0, found.1, ap (λ z. is_missing (is_terminating z) k found.0) e ∙ found.2)
    by Lsm.Terminated e h = absurd (let ended : not (is_terminated Lsm.Terminated) ≡ true = sym (ap (λ z. not (is_terminated z)) e) ∙ parts.1 in cc)
    by Lsm.Created e h = rest_misses k c own xs (ap is_terminating e) parts.0 h
    by Lsm.Failed e h = rest_misses k c own xs (ap is_terminating e) parts.0 h
    by Lsm.PassedEndTime e h = rest_misses k c own xs (ap is_terminating e) parts.0 h
