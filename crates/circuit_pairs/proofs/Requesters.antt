-- What each entry of a requester does, as its views are concerned.
use Rattle.std.proofs.Common.{ℕ, zero, suc, ◌≡◌, Bool, true, false, List, [], ◌∷◌, ◌++◌, length, get_or, map, Contains, Option, Some, None, ◌⊎◌, inl, inr, refl, sym, ap, ◌∙◌, subst, arith, bytes_eq, slice_get, slice_set, position, option_map, option_and_then, get_or-set_same, get_or-set_other, true≢false}
use Rattle.std.proofs.lemmas.Bool.{cases_eq}
use Rattle.std.proofs.lemmas.Option.{get_or_from_slice_get, slice_get_within}
use Rattle.std.specs.Prelude.{IfSome}
use Rattle.nsi_primitive.specs.Ids.{id_of}
use Rattle.nsi_primitive.specs.Messages.{kind_of, connection_of}
use Rattle.nsi_primitive.specs.declared.ask.ReserveAsk.{ReserveAsk}
use Rattle.nsi_primitive.specs.declared.ask.What.{What}
use Rattle.nsi_primitive.specs.declared.entry.Entry.{Entry}
use Rattle.nsi_primitive.specs.declared.entry.Input.{Input}
use Rattle.nsi_primitive.specs.declared.kind.Kind.{Kind}
use Rattle.nsi_primitive.specs.declared.message.Body.{Body}
use Rattle.nsi_primitive.specs.declared.message.Message.{Message}
use Rattle.message_retry.specs.Retry.{is_old}
use Rattle.record_index.proofs.Members.{nothing_in}
use Rattle.child_connection.specs.declared.state.Sent.{Sent}
use Rattle.child_connection.specs.Views.{ChildConnection, new_view, open_request}
use Rattle.child_connection.specs.Asks.{asks, request_about, reserve_for, to_child}
use Rattle.child_connection.specs.Refusals.{is_about}
use Rattle.child_connection.specs.Hearing.{hear}
use Rattle.child_connection.specs.Holding.{is_reservation, IsAlike}
use Rattle.child_connection.proofs.Places.{new_hears_nothing}
use Rattle.child_connection.proofs.Saying.{about_names, first_names, modification_names}
use Rattle.agent_state.specs.declared.parent.View.{View}
use Rattle.agent_state.specs.Entries.{retry_of}
use Rattle.agent_state.specs.State.{AgentState, AgentStepped, stays}
use Rattle.requester_agent.proofs.Queries.{query_is}
use Rattle.requester_agent.specs.Queries.{query_for, query_under}
use Rattle.requester_agent.specs.Setting.{Setting}
use Rattle.requester_agent.specs.Steps.{view_at, find_view, next_id, answers, refuses, asks_at, asks_new, asks_found, reserves, sends_query, asked_of, asked, view_hears, hears_if, acked, ticks, step, after_if, after, may_take}
use Rattle.requester_agent.specs.Views.{Asked, asks_if_free, asks_if_known, asks_about, service_if, reserve_of, asks_reserve}
use Rattle.connection_record.specs.Speaking.{is_answering}
use Rattle.circuit_link.specs.Children.{Child, MayReach, IsFair}
use Rattle.circuit_link.specs.Headers.{header_of}
use Rattle.circuit_link.proofs.Answering.{only_one}
use Rattle.circuit_link.proofs.Opening.{last_here, last_there}
use Rattle.circuit_pairs.specs.Pairs.{IsPair, IsOnce, IsFresh}
use Rattle.circuit_pairs.specs.Minding.{Minds, no_view_of, view_in}
use Rattle.circuit_pairs.proofs.Minding.{alike_self, alike_same, alike_then, asks_alike, asks_rests, minding_pair}

alike_back : (x y : ChildConnection) → IsAlike x y → IsAlike y x
alike_back x y a =
    record {
      reservation =
          record {
            request = sym a.reservation.request;
            phase = sym a.reservation.phase;
            before = sym a.reservation.before;
            attempt = sym a.reservation.attempt;
            pending = sym a.reservation.pending;
            committed = sym a.reservation.committed;
          };
      connection = sym a.connection;
      child = sym a.child;
    }

---- One view is asked

-- it rests, or a request of its machine goes out that names its connection
pub data IsAsk (name : List ℕ) (c : ℕ) (x : ChildConnection) (a : Asked) : Type 0 where
  still : a.child ≡ x → a.out ≡ [] → IsAsk name c x a
  goes : (k : Kind) (body : Body) → a.child ≡ asks k c x → a.out ≡ to_child name c x body ∷ [] → kind_of body ≡ k → connection_of body ≡ x.connection → open_request k x ≡ None → IsAsk name c x a

free_ask : (name : List ℕ) (c : ℕ) (k : Kind) (body : Body) (x : ChildConnection) (o : Option Sent) → open_request k x ≡ o → kind_of body ≡ k → connection_of body ≡ x.connection → IsAsk name c x (asks_if_free o name c k body x)
unfolding asks_if_free
free_ask name c k body x None e kind named = IsAsk.goes k body refl refl kind named e
free_ask name c k body x (Some q) e kind named = IsAsk.still refl refl

known_ask : (name : List ℕ) (c : ℕ) (k : Kind) (x : ChildConnection) → is_about k ≡ true → (o : Option ℕ) → x.connection ≡ o → IsAsk name c x (asks_if_known o name c k x)
unfolding asks_if_known
known_ask name c k x about None e = IsAsk.still refl refl
known_ask name c k x about (Some id) e = let w = about_names k id about in free_ask name c k (request_about k id) x (open_request k x) refl w.0 (w.1 ∙ sym e)

about_ask : (name : List ℕ) (c : ℕ) (k : Kind) (x : ChildConnection) → is_about k ≡ true → IsAsk name c x (asks_about name c k x)
about_ask name c k x about = known_ask name c k x about x.connection refl

reserve_kind : (q : ReserveAsk) (x : ChildConnection) → kind_of (reserve_of q x) ≡ Kind.Reserve
reserve_kind q x = refl

reserve_connection : (q : ReserveAsk) (x : ChildConnection) → connection_of (reserve_of q x) ≡ x.connection
reserve_connection q x = by_known x.connection refl
  where
    by_known : (o : Option ℕ) → x.connection ≡ o → connection_of (Body.Reserve (reserve_for (service_if o q.directionality x) q.version q.start q.end q.capacity x)) ≡ x.connection
    by_known None e = first_names _ q.version q.start q.end q.capacity x ∙ sym e
    by_known (Some id) e = modification_names q.version q.start q.end q.capacity x

reserve_ask : (name : List ℕ) (c : ℕ) (q : ReserveAsk) (x : ChildConnection) → IsAsk name c x (asks_reserve name c q x)
reserve_ask name c q x = free_ask name c Kind.Reserve (reserve_of q x) x (open_request Kind.Reserve x) refl (reserve_kind q x) (reserve_connection q x)

pub open_reservation : (k : Kind) (x : ChildConnection) → is_reservation k ≡ true → open_request k x ≡ x.reserve_request
unfolding open_request is_reservation
open_reservation k x e = grind arith

-- of views by any index, one is asked
pub ask_minds : (I : Type 0) (name child : List ℕ) (c : ℕ) (input : Input) (xs ys : I → ChildConnection) (i : I) (x : ChildConnection) (a : Asked) → ((j : I) → (j ≡ i) ⊎ (j ≡ i → ⊥)) → x.child ≡ child → IsAlike (xs i) x → ys i ≡ a.child →
    ((j : I) → (j ≡ i → ⊥) → ys j ≡ xs j) → IsAsk name c x a → Minds I name child c input xs ys a.out
ask_minds I name child c input xs ys i x a at its alike here there (IsAsk.still e n) = Minds.rests (λ j. each j (at j)) (λ m j r p. nothing_in m (subst (λ z. Contains z m) n j))
  where
    each : (j : I) → (j ≡ i) ⊎ (j ≡ i → ⊥) → IsAlike (xs j) (ys j)
    each j (inl q) = subst (λ j. IsAlike (xs j) (ys j)) (sym q) (subst (λ z. IsAlike (xs i) z) (sym (here ∙ e)) alike)
    each j (inr q) = alike_same (xs j) (ys j) (there j q)
ask_minds I name child c input xs ys i x a at its alike here there (IsAsk.goes k body e n kind named free) = by_kind (is_reservation k) refl
  where
    m : Message
    m = to_child name c x body

    by_kind : (b : Bool) → is_reservation k ≡ b → Minds I name child c input xs ys a.out
    by_kind true r =
        Minds.asked i k m n r kind (ap (λ z. header_of name z c) its) (named ∙ alike.connection) (sym alike.reservation.request ∙ sym (open_reservation k x r) ∙ free)
        (subst (λ z. IsAlike (asks k c (xs i)) z) (sym (here ∙ e)) (asks_alike k c (xs i) x alike)) there
    by_kind false r = Minds.rests (λ j. each j (at j)) (λ z j q p. none z (subst (λ w. Contains w z) n j) q)
      where
        each : (j : I) → (j ≡ i) ⊎ (j ≡ i → ⊥) → IsAlike (xs j) (ys j)
        each j (inl q) = subst (λ j. IsAlike (xs j) (ys j)) (sym q) (subst (λ z. IsAlike (xs i) z) (sym (here ∙ e)) (alike_then (xs i) x (asks k c x) alike (asks_rests k c x r)))
        each j (inr q) = alike_same (xs j) (ys j) (there j q)

        none : (z : Message) → Contains (m ∷ []) z → is_reservation (kind_of z.body) ≡ true → ⊥
        none z j q = true≢false (sym q ∙ ap (λ (w : Message). is_reservation (kind_of w.body)) (only_one m z j) ∙ ap is_reservation kind ∙ r)

---- The view of a label

abbrev found_at : ℕ → View → Option (ℕ × View)
found_at n v = Some (n, v)

found_there : (label : List ℕ) (vs : List View) (n : ℕ) (v : View) → find_view label vs ≡ found_at n v → slice_get vs n ≡ Some v
unfolding find_view
found_there label vs n v e = by_place (position (λ w. bytes_eq label w.label) vs) e
  where
    same_pair : (a : ℕ) (b : View) (c : ℕ) (w : View) → found_at a b ≡ found_at c w → (a ≡ c) × (b ≡ w)
    same_pair a b c w q = let z : (let p : ℕ × View = (a, b) in p) ≡ (c, w) = cc in (ap (λ (y : ℕ × View). y.0) z, ap (λ (y : ℕ × View). y.1) z)

    by_view : (k : ℕ) (o : Option View) → slice_get vs k ≡ o → option_map (λ w. (k, w)) o ≡ found_at n v → slice_get vs n ≡ Some v
    by_view k None s q = absurd (cc)
    by_view k (Some w) s q = let z = same_pair k w n v q in ap (slice_get vs) (sym z.0) ∙ s ∙ ap Some z.1

    by_place : (o : Option ℕ) → option_and_then (view_at vs) o ≡ found_at n v → slice_get vs n ≡ Some v
    by_place None q = absurd (cc)
    by_place (Some k) q = by_view k (slice_get vs k) refl q

beyond : {X : Type 0} (xs : List X) (d : X) → get_or xs (length xs) d ≡ d
beyond [] d = refl
beyond (y ∷ ys) d = beyond ys d

---- An entry

module _ (set : Setting) (s : AgentState) (input : Input) (children : (i : ℕ) → (view_in set.provider s.views i).child ≡ set.provider) where
  abbrev Does : AgentStepped → Type 0
  Does x = Minds ℕ set.name set.provider (id_of set.number s.base.next) input (view_in set.provider s.views) (view_in set.provider x.state.views) x.out

  rests : (x : AgentStepped) → x.state.views ≡ s.views → x.out ≡ [] → Does x
  rests x e n =
      Minds.rests (λ i. alike_same (view_in set.provider s.views i) (view_in set.provider x.state.views i) (ap (λ z. view_in set.provider z i) e)) (λ m i r p. nothing_in m (subst (λ z. Contains z m) n i))

  -- the view at a place is asked
  at_place : (n : ℕ) (v : View) (a : Asked) → slice_get s.views n ≡ Some v → IsAsk set.name (id_of set.number s.base.next) v.child a → Does (asks_at (n, v) a s)
  unfolding asks_at answers
  at_place n v a h ask =
      ask_minds ℕ set.name set.provider (id_of set.number s.base.next) input (view_in set.provider s.views) (view_in set.provider (slice_set s.views n (record v { child = a.child }))) n v.child a (λ j. cases_eq j n)
      (sym (ap (λ (z : View). z.child.child) is) ∙ children n) (alike_same (view_in set.provider s.views n) v.child (ap (λ (z : View). z.child) (sym is)))
      (ap (λ (z : View). z.child) (get_or-set_same s.views n (record v { child = a.child }) (no_view_of set.provider) (slice_get_within s.views n v h)))
      (λ j q. ap (λ (z : View). z.child) (get_or-set_other s.views n j (record v { child = a.child }) (no_view_of set.provider) q)) ask
    where
      is : get_or s.views n (no_view_of set.provider) ≡ v
      is = get_or_from_slice_get s.views n v (no_view_of set.provider) h

  -- a new view is asked
  at_end : (label source dest : List ℕ) (a : Asked) → IsAsk set.name (id_of set.number s.base.next) (new_view set.provider source dest) a → Does (asks_new label a s)
  unfolding asks_new answers
  at_end label source dest a ask =
      ask_minds ℕ set.name set.provider (id_of set.number s.base.next) input (view_in set.provider s.views) (view_in set.provider (s.views ++ v ∷ [])) (length s.views) (new_view set.provider source dest) a (λ j. cases_eq j (length s.views)) refl
      (subst (λ z. IsAlike z (new_view set.provider source dest)) (sym (ap (λ (z : View). z.child) (beyond s.views (no_view_of set.provider)))) (new_alike source dest))
      (ap (λ (z : View). z.child) (last_here s.views v (no_view_of set.provider))) (λ j q. ap (λ (z : View). z.child) (last_there s.views v (no_view_of set.provider) j q)) ask
    where
      v : View
      v = record { label = label; child = a.child }

      new_alike : (source dest : List ℕ) → IsAlike (new_view set.provider [] []) (new_view set.provider source dest)
      new_alike source dest = record { reservation = record { request = refl; phase = refl; before = refl; attempt = refl; pending = refl; committed = refl }; connection = refl; child = refl }

  found_asks : (o : Option (ℕ × View)) (label : List ℕ) (k : Kind) → find_view label s.views ≡ o → is_about k ≡ true → Does (asks_found o k set s)
  unfolding asks_found
  found_asks None label k e about = rests (refuses s) refl refl
  found_asks (Some (n, v)) label k e about = at_place n v _ (found_there label s.views n v e) (about_ask set.name (id_of set.number s.base.next) k v.child about)

  found_reserves : (o : Option (ℕ × View)) (label : List ℕ) (q : ReserveAsk) → find_view label s.views ≡ o → Does (reserves o q label set s)
  unfolding reserves
  found_reserves None label q e = at_end label q.source q.dest _ (reserve_ask set.name (id_of set.number s.base.next) q (new_view set.provider q.source q.dest))
  found_reserves (Some (n, v)) label q e = at_place n v _ (found_there label s.views n v e) (reserve_ask set.name (id_of set.number s.base.next) q v.child)

  -- a query goes out beside the views
  query_sent : (query : Option Body) → IfSome query (λ body. is_reservation (kind_of body) ≡ false) → Does (sends_query query set s)
  unfolding sends_query
  query_sent None q = rests (refuses s) refl refl
  query_sent (Some body) q =
      let m : Message = query_under set (next_id set s) body in
      Minds.rests (λ i. alike_self (view_in set.provider s.views i)) (λ z i r p. true≢false (sym r ∙ ap (λ (w : Message). is_reservation (kind_of w.body)) (only_one m z i) ∙ q))

  query_minds : (what : What) (found : Option (ℕ × View)) → Does (sends_query (query_for what found) set s)
  unfolding is_reservation
  query_minds what found =
      query_sent (query_for what found)
      (query_is (λ body. is_reservation (kind_of body) ≡ false) (record { summary = λ connection. refl; notifications = λ range. refl; results = λ range. refl; recursive = λ connection. refl }) what found)

  asked_minds : (what : What) (label : List ℕ) → Does (asked_of what label (find_view label s.views) set s)
  unfolding asked_of
  asked_minds (What.Reserve q) label = found_reserves (find_view label s.views) label q refl
  asked_minds What.Commit label = found_asks (find_view label s.views) label Kind.ReserveCommit refl refl
  asked_minds What.Abort label = found_asks (find_view label s.views) label Kind.ReserveAbort refl refl
  asked_minds What.Provision label = found_asks (find_view label s.views) label Kind.Provision refl refl
  asked_minds What.Release label = found_asks (find_view label s.views) label Kind.Release refl refl
  asked_minds What.Terminate label = found_asks (find_view label s.views) label Kind.Terminate refl refl
  asked_minds what label = query_minds what (find_view label s.views)

  label_minds : (o : Option (List ℕ)) (what : What) → Does (asked o what set s)
  unfolding asked is_reservation
  label_minds None What.Summary = query_sent (Some (Body.QuerySummary None)) refl
  label_minds None what = rests (refuses s) refl refl
  label_minds (Some label) what = asked_minds what label

  mapped : (m : Message) (vs : List View) (i : ℕ) → IsAlike (hear m (view_in set.provider vs i)).view (view_in set.provider (map (view_hears m) vs) i)
  mapped m [] i = alike_back (new_view set.provider [] []) (hear m (new_view set.provider [] [])).view (new_hears_nothing m set.provider [] [])
  mapped m (v ∷ vs) zero = alike_self (hear m v.child).view
  mapped m (v ∷ vs) (suc i) = mapped m vs i

  hears_minds : (b : Bool) (m : Message) → input ≡ Input.Got m → Does (hears_if b m s)
  unfolding hears_if
  hears_minds true m e = rests (stays s) refl refl
  hears_minds false m e = Minds.heard m e refl (λ i. mapped m s.views i)

step_minds : (set : Setting) (s : AgentState) (input : Input) (second : ℕ) → ((i : ℕ) → (view_in set.provider s.views i).child ≡ set.provider) →
    Minds ℕ set.name set.provider (id_of set.number s.base.next) input (view_in set.provider s.views) (view_in set.provider (step input second set s).state.views) (step input second set s).out
unfolding step acked ticks
step_minds set s (Input.Ask n ask) second children = label_minds set s (Input.Ask n ask) children ask.label ask.what
step_minds set s (Input.Got m) second children = hears_minds set s (Input.Got m) children (is_old m (retry_of s.base)) m refl
step_minds set s Input.Tick second children = rests set s Input.Tick children (step Input.Tick second set s) refl refl
step_minds set s (Input.Acked i) second children = rests set s (Input.Acked i) children (step (Input.Acked i) second set s) refl refl
step_minds set s (Input.Work n machine) second children = rests set s (Input.Work n machine) children (step (Input.Work n machine) second set s) refl refl
step_minds set s (Input.Force n) second children = rests set s (Input.Force n) children (step (Input.Force n) second set s) refl refl

pub requester_minds : (set : Setting) (s : AgentState) (e : Entry) → ((i : ℕ) → (view_in set.provider s.views i).child ≡ set.provider) →
    Minds ℕ set.name set.provider (id_of set.number s.base.next) e.input (view_in set.provider s.views) (view_in set.provider (after set s e).state.views) (after set s e).out
unfolding after
requester_minds set s e children = by_test (may_take s e)
  where
    by_test : (b : Bool) → Minds ℕ set.name set.provider (id_of set.number s.base.next) e.input (view_in set.provider s.views) (view_in set.provider (after_if b set s e).state.views) (after_if b set s e).out
    by_test true = step_minds set s e.input e.second children
    by_test false = rests set s e.input children (stays s) refl refl

-- an entry of a requester keeps the pair of its views and the agent that it asks
pub requester_pair : (set : Setting) (d : Child) (asked : List Message) (s : AgentState) (e : Entry) → IsFair set.name set.provider d → IsOnce set.name asked → IsFresh set.name set.provider set.number d s.base.next asked →
    ((m : Message) → e.input ≡ Input.Got m → is_answering m.body ≡ true → m.header.provider ≡ set.provider → MayReach (header_of set.name set.provider m.header.correlation) d.said m.body) →
    IsPair ℕ set.name set.provider (view_in set.provider s.views) asked d → IsPair ℕ set.name set.provider (view_in set.provider (after set s e).state.views) (asked ++ (after set s e).out) d
requester_pair set d asked s e fair once fresh said pair =
    minding_pair ℕ cases_eq set.name set.provider asked d fair once (id_of set.number s.base.next) e.input (view_in set.provider s.views) (view_in set.provider (after set s e).state.views) (after set s e).out (fresh.untaken s.base.next (omega arith))
    (λ m i a q. fresh.unasked s.base.next (omega arith) m i a q) said (requester_minds set s e pair.children) pair
