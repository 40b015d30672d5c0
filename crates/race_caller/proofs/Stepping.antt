-- One caller of a book that nobody shares, step by step.
use Rattle.std.proofs.Common.{◌≡◌, ◌∙◌, ◌≤◌, ◌<◌, ◌+◌, ◌*◌, ℕ, Bool, true, false, ◌&&◌, ◌||◌, List, [], ◌∷◌, ◌++◌, map, length, All, Option, Some, None, refl, sym, ap, subst, arith, option_map, option_and_then, slice_get}
use Rattle.std.specs.Prelude.{◌==◌, if◌then◌else◌}
use Rattle.std.specs.List.{list_any}
use Rattle.std.specs.Str.{bytes_eq}
use Rattle.std.proofs.lemmas.Bool.{ne_eqb}
use Rattle.std.proofs.lemmas.Bool.Decides.{nat_tests}
use Rattle.std.proofs.lemmas.List.{append-nil, append_assoc, length-map}
use Rattle.std.proofs.lemmas.List.Elements.{All-head, All-tail, All-push, All-weaker}
use Rattle.std.proofs.lemmas.Option.{slice_get-get_or, none-some, same_Some}
use Rattle.nsi_primitive.specs.Ids.{id_of}
use Rattle.nsi_primitive.specs.Messages.{is_request}
use Rattle.nsi_primitive.specs.Printable.{IsPrintable}
use Rattle.nsi_primitive.specs.declared.ask.Ask.{Ask}
use Rattle.nsi_primitive.specs.declared.entry.Entry.{Entry}
use Rattle.nsi_primitive.specs.declared.entry.Input.{Input}
use Rattle.nsi_primitive.specs.declared.message.Header.{Header}
use Rattle.nsi_primitive.specs.declared.message.Message.{Message}
use Rattle.nsi_primitive.specs.declared.state.Machine.{Machine}
use Rattle.stp_topology.specs.declared.network.Network.{Network}
use Rattle.stp_topology.specs.Network.{name_of, agent_of}
use Rattle.message_retry.specs.Taken.{is_taken, is_same_request, with_taken}
use Rattle.agent_state.specs.Entries.{most_entries}
use Rattle.agent_state.specs.State.{AgentState}
use Rattle.provider_agent.specs.Setting.{Setting, setting_of, own_stp}
use Rattle.provider_agent.specs.State.{State, blank, no_record, record_at}
use Rattle.provider_agent.specs.Steps.{may_take, is_seen}
use Rattle.provider_agent.specs.Working.{works_among}
use Rattle.provider_agent.proofs.GoodAfter.{good_after}
use Rattle.requester_agent.specs.Setting.{Setting as RequesterSetting, setting_of as requester_of_net}
use Rattle.requester_agent.specs.Steps.{may_take as may_hear}
use Rattle.sole_requester.specs.Sole.{named_by, IsReceived, IsWorked, IsOwnRequest, AreOwnRequests, HasAskedAs}
use Rattle.sole_requester.proofs.Counted.{got_received, work_done, ask_sends}
use Rattle.sole_requester.proofs.Moving.{waits_nowhere}
use Rattle.sole_requester.proofs.Working.{work_on, IsAtWork, work_found, none_named, none_left}
use Rattle.shared_provider.specs.Asked.{now_at, took_entry, work_entry, work_then}
use Rattle.shared_provider.specs.Book.{Book, steps, enter, entered}
use Rattle.shared_provider.proofs.Histories.{taken_more}
use Rattle.race_run.specs.declared.item.Item.{Item}
use Rattle.race_run.specs.declared.replayed.Call.{Call}
use Rattle.race_run.specs.Found.{item, got, heard_item, found, owner, owner_name}
use Rattle.race_caller.specs.declared.asker.Asker.{Asker}
use Rattle.race_caller.specs.Plays.{asked, ask_entry, IsSilent, IsRequestOf}
use Rattle.race_caller.specs.Alone.{HasHeardThese, Rest, rest, idle, sending, waiting, answered, worked, Side, side_of, IsAt, IsAlone, IsNewRequest}
use Rattle.race_caller.proofs.Along.{gone_then, found_then, others_then, strays_then, ticks_then}

---- What is kept

-- one item more
pub kept_one : (t : Network) (first : List Item) (w : Rest) (b : Book) (x y : Side) (i : Item) (is : List Item) → w.items ≡ i ∷ is → y ≡ record x { kept = x.kept ++ i ∷ [] } → IsAt t first w b x → IsAt t first (record w { items = is }) b y
kept_one t first w b x y i is items same h = subst (IsAt t first (record w { items = is }) b) (sym same) (record {
  network = h.network;
  agent = h.agent;
  running = h.running;
  caller = h.caller;
  known = h.known;
  good = h.good;
  gone = h.gone;
  clock = h.clock;
  own_clock = h.own_clock;
  owners = h.owners;
  ids = h.ids;
  kept = append_assoc x.kept (i ∷ []) is ∙ (ap (λ (l : List Item). x.kept ++ l) (sym items) ∙ h.kept);
  others = h.others;
  owned = h.owned;
  begins = h.begins;
  works = h.works;
  only = h.only;
  room = h.room;
  own_room = h.own_room;
  few = omega (arith, h.few, ap length items);
})

-- all that is left to hear
pub kept_all : (t : Network) (first : List Item) (ms : List Message) (works : ℕ) (at : Option ℕ) (room own_room place : ℕ) (b : Book) (x y : Side) → length ms ≤ 5
    → y ≡ record x { kept = x.kept ++ map (heard_item x.call.agent x.now place) ms; taken = x.taken + length ms } → IsAt t first (rest (map (heard_item x.call.agent x.call.second place) ms) works at room (own_room + 5)) b x
    → IsAt t first (rest [] works at room own_room) b y
kept_all t first ms works at room own_room place b x y some same h = subst (IsAt t first (rest [] works at room own_room) b) (sym same) (record {
  network = h.network;
  agent = h.agent;
  running = h.running;
  caller = h.caller;
  known = h.known;
  good = h.good;
  gone = h.gone;
  clock = h.clock;
  own_clock = h.own_clock;
  owners = h.owners;
  ids = h.ids;
  kept = append-nil (x.kept ++ map (heard_item x.call.agent x.now place) ms) ∙ (ap (λ n. x.kept ++ map (heard_item x.call.agent n place) ms) h.own_clock ∙ h.kept);
  others = h.others;
  owned = h.owned;
  begins = h.begins;
  works = h.works;
  only = h.only;
  room = h.room;
  own_room = omega (arith, h.own_room, some);
  few = omega arith;
})

pub side_heard : (place : ℕ) (ms : List Message) (x y : Asker) (on : Bool) → HasHeardThese place ms x y on
    → side_of y ≡ record (side_of x) { kept = x.kept ++ map (heard_item x.call.agent x.requester.state.base.now place) ms; taken = x.requester.state.base.taken + length ms }
side_heard place ms x y on h = λ i. record { call = h.call i; kept = h.kept i; next = h.next i; now = h.now i; taken = h.taken i }

-- where nothing waits any more
pub idle_at : (t : Network) (first : List Item) (j works : ℕ) (at : Option ℕ) (b : Book) (x : Side) → works_among b.state.records ≡ 0 → IsAt t first (waiting j works at) b x → IsAt t first (idle j) b x
idle_at t first j works at b x none h = record {
  network = h.network;
  agent = h.agent;
  running = h.running;
  caller = h.caller;
  known = h.known;
  good = h.good;
  gone = h.gone;
  clock = h.clock;
  own_clock = h.own_clock;
  owners = h.owners;
  ids = h.ids;
  kept = h.kept;
  others = h.others;
  owned = h.owned;
  begins = h.begins;
  works = omega (arith, none);
  only = waits_nowhere b.state.records None none;
  room = omega (arith, h.room);
  own_room = omega (arith, h.own_room);
  few = omega arith;
}

pub idle_unnamed : (t : Network) (first : List Item) (j : ℕ) (b : Book) (x : Side) → IsAt t first (waiting j 1 None) b x → IsAt t first (idle j) b x
idle_unnamed t first j b x h = idle_at t first j 1 None b x (none_named b.state.records h.only) h

no_entry : (s : State) (o : Option (ℕ × Machine)) → work_then s o ≡ None → o ≡ None
no_entry s None e = refl
no_entry s (Some w) e = absurd (none-some (now_at s (Input.Work w.0 w.1)) (sym e))

pub idle_done : (t : Network) (first : List Item) (j works id : ℕ) (b : Book) (x : Side) → work_entry b.state id ≡ None → IsAt t first (waiting j works (Some id)) b x → IsAt t first (idle j) b x
unfolding work_entry
idle_done t first j works id b x none h =
    idle_at t first j works (Some id) b x (none_left b.agent b.state.next id b.state.records h.good.ordered h.only (no_entry b.state (work_on id b.state.records) none)) h

---- A request

may_got : (s : State) (m : Message) → s.taken < 4194304 → may_take s (got s.now m) ≡ true
may_got s m few = grind (arith, nat_tests)

may_work : (s : State) (n : ℕ) (machine : Machine) → s.taken < 4194304 → may_take s (now_at s (Input.Work n machine)) ≡ true
may_work s n machine few = grind (arith, nat_tests)

pub taken_is_got : (s : State) (m : Message) (e : Entry) → is_request m.body ≡ true → is_taken m.header s.seen ≡ false → took_entry s m ≡ Some e → got s.now m ≡ e
unfolding took_entry
taken_is_got s m e asks new is =
    let seen : is_seen s m ≡ false = ap (λ b. b && is_taken m.header s.seen) asks ∙ new in
    same_Some (got s.now m) e (sym (ap (λ b. if b then None else Some (now_at s (Input.Got m))) seen) ∙ is)

pub is_not_taken : (s : State) (m : Message) → is_request m.body ≡ true → is_taken m.header s.seen ≡ false → took_entry s m ≡ None → ⊥
unfolding took_entry
is_not_taken s m asks new is =
    let seen : is_seen s m ≡ false = ap (λ b. b && is_taken m.header s.seen) asks ∙ new in
    none-some (now_at s (Input.Got m)) (sym is ∙ ap (λ b. if b then None else Some (now_at s (Input.Got m))) seen)

request_owner : (t : Network) (s : State) (m : Message) (name : List ℕ) (a : ℕ) → is_request m.body ≡ true → m.header.requester ≡ name → agent_of t name ≡ Some a → owner t s (Input.Got m) ≡ Some a
request_owner t s m name a asks is known =
    ap (λ b. option_and_then (agent_of t) (if b then Some m.header.requester else None)) asks ∙ (ap (agent_of t) is ∙ known)

all_taken : (n : ℕ) (h : Header) (taken : List Header) → is_taken h taken ≡ false → h.correlation < n → All (λ (x : Header). x.correlation < n) taken → All (λ (x : Header). x.correlation < n) (with_taken h taken)
unfolding with_taken
all_taken n h taken new below all =
    subst (λ b. All (λ (x : Header). x.correlation < n) (if b then taken else taken ++ h ∷ [])) (sym new) (All-push (λ (x : Header). x.correlation < n) taken h all below)

module _ (t : Network) (first : List Item) (j : ℕ) (b : Book) (x : Asker) (m : Message) (h : IsAlone t first (sending j) b x) (k : IsNewRequest b x m) (printable : IsPrintable m) where
  abbrev set : Setting
  set = setting_of b.network b.agent

  abbrev points : List ℕ → Option ℕ
  points = own_stp b.network b.agent

  abbrev e : Entry
  e = got b.state.now m

  abbrev d : Book
  d = entered e b

  abbrev out : List Message
  out = (steps b e).out

  may : may_take b.state e ≡ true
  may = may_got b.state m (omega (arith, h.room))

  received : IsReceived b.state m (steps b e).state out
  received = got_received set points b.state b.state.now m may k.request k.new

  own : owner b.network b.state e.input ≡ Some x.call.agent
  own = request_owner b.network b.state m (name_of b.network x.call.agent) x.call.agent k.request k.requester h.known

  none : works_among b.state.records ≡ 0
  none = omega (arith, h.works)

  pub request_taken : IsAt t first (answered j (named_by m.body out) (item (length b.events) (enter b.agent (got x.call.second m)) ∷ map (heard_item x.call.agent x.call.second (length b.events)) out)) d (side_of x)
  request_taken = record {
    network = h.network;
    agent = h.agent;
    running = h.running;
    caller = h.caller;
    known = h.known;
    good = good_after set points b.state e h.good printable;
    gone = gone_then b.network b.agent x.call.agent x.call.second b.events b.state e (b.state.taken + 1) h.gone own refl h.caller;
    clock = received.now ∙ h.clock;
    own_clock = h.own_clock;
    owners = received.owners (name_of b.network x.call.agent) k.requester h.owners;
    ids = subst (All (λ (y : Header). y.correlation < id_of x.call.agent x.requester.state.base.next)) (sym received.seen)
        (all_taken (id_of x.call.agent x.requester.state.base.next) m.header b.state.seen k.new k.earlier h.ids);
    kept =
        ap (λ (l : List Item). l ++ item (length b.events) (enter b.agent (got x.call.second m)) ∷ map (heard_item x.call.agent x.call.second (length b.events)) out) (sym (append-nil x.kept) ∙ h.kept)
        ∙ (ap (λ n. found b.network b.agent x.call.agent x.call.second blank 0 b.events ++ item (length b.events) (enter b.agent (got n m)) ∷ map (heard_item x.call.agent x.call.second (length b.events)) out) (sym h.clock)
        ∙ sym (found_then b.network b.agent x.call.agent x.call.second b.events b.state e (b.state.taken + 1) h.gone own refl h.caller));
    others = λ o apart. others_then b.network b.agent x.call.agent x.call.second b.events b.state e (b.state.taken + 1) h.gone own refl h.caller o apart (h.others o apart);
    owned = strays_then b.network b.agent x.call.agent x.call.second b.events b.state e (b.state.taken + 1) h.gone own refl h.caller h.owned;
    begins = ticks_then b.network b.agent x.call.agent x.call.second b.events b.state e (b.state.taken + 1) h.gone own refl h.caller ∙ h.begins;
    works = omega (arith, received.works, none);
    only = received.only none;
    room = omega (arith, h.room, taken_more set points b.state e may);
    own_room = h.own_room;
    few = omega (arith, received.few, length-map out (heard_item x.call.agent x.call.second (length b.events)));
  }

---- Work

module _ (t : Network) (first : List Item) (j works id : ℕ) (b : Book) (x : Asker) (one : works ≤ 1) (h : IsAlone t first (waiting j works (Some id)) b x) (n : ℕ) (machine : Machine) (at : work_on id b.state.records ≡ Some (n, machine)) where
  abbrev w_set : Setting
  w_set = setting_of b.network b.agent

  abbrev w_points : List ℕ → Option ℕ
  w_points = own_stp b.network b.agent

  abbrev w_entry : Entry
  w_entry = now_at b.state (Input.Work n machine)

  abbrev w_book : Book
  w_book = entered w_entry b

  abbrev w_out : List Message
  w_out = (steps b w_entry).out

  is_there : IsAtWork id b.state.records n machine
  is_there = work_found id b.state.records n machine at

  w_may : may_take b.state w_entry ≡ true
  w_may = may_work b.state n machine (omega (arith, h.room))

  w_done : IsWorked b.state (steps b w_entry).state w_out
  w_done = work_done w_set w_points b.state b.state.now n machine h.good w_may is_there.within is_there.waits

  w_own : owner b.network b.state w_entry.input ≡ Some x.call.agent
  w_own =
      let there : slice_get b.state.records n ≡ Some (record_at n b.state.records) = slice_get-get_or b.state.records n no_record is_there.within in
      ap (λ o. option_and_then (agent_of b.network) (option_map owner_name o)) there ∙ (ap (agent_of b.network) (h.owners n (record_at n b.state.records) there) ∙ h.known)

  w_none : works_among (steps b w_entry).state.records ≡ 0
  w_none = omega (arith, w_done.works, h.works, one)

  pub work_is : works ≡ 1
  work_is = omega (arith, w_done.works, h.works, one)

  pub work_taken : IsAt t first (worked j 0 (Some id) (item (length b.events) (enter b.agent w_entry) ∷ map (heard_item x.call.agent x.call.second (length b.events)) w_out)) w_book (side_of x)
  work_taken = record {
    network = h.network;
    agent = h.agent;
    running = h.running;
    caller = h.caller;
    known = h.known;
    good = good_after w_set w_points b.state w_entry h.good tt;
    gone = gone_then b.network b.agent x.call.agent x.call.second b.events b.state w_entry (b.state.taken + 1) h.gone w_own refl h.caller;
    clock = w_done.now ∙ h.clock;
    own_clock = h.own_clock;
    owners = w_done.owners (name_of b.network x.call.agent) h.owners;
    ids = subst (All (λ (y : Header). y.correlation < id_of x.call.agent x.requester.state.base.next)) (sym w_done.seen) h.ids;
    kept =
        ap (λ (l : List Item). l ++ item (length b.events) (enter b.agent w_entry) ∷ map (heard_item x.call.agent x.call.second (length b.events)) w_out) (sym (append-nil x.kept) ∙ h.kept)
        ∙ sym (found_then b.network b.agent x.call.agent x.call.second b.events b.state w_entry (b.state.taken + 1) h.gone w_own refl h.caller);
    others = λ o apart. others_then b.network b.agent x.call.agent x.call.second b.events b.state w_entry (b.state.taken + 1) h.gone w_own refl h.caller o apart (h.others o apart);
    owned = strays_then b.network b.agent x.call.agent x.call.second b.events b.state w_entry (b.state.taken + 1) h.gone w_own refl h.caller h.owned;
    begins = ticks_then b.network b.agent x.call.agent x.call.second b.events b.state w_entry (b.state.taken + 1) h.gone w_own refl h.caller ∙ h.begins;
    works = omega (arith, w_none);
    only = waits_nowhere (steps b w_entry).state.records (Some id) w_none;
    room = omega (arith, h.room, taken_more w_set w_points b.state w_entry w_may, work_is);
    own_room = omega (arith, h.own_room, work_is);
    few = omega (arith, w_done.few, length-map w_out (heard_item x.call.agent x.call.second (length b.events)));
  }

-- which work an entry is
pub record IsWorkAt (s : State) (id : ℕ) (e : Entry) : Type 0 where
  pub place : ℕ
  pub machine : Machine
  pub at : work_on id s.records ≡ Some (place, machine)
  pub is : now_at s (Input.Work place machine) ≡ e

pub work_at_of : (s : State) (id : ℕ) (e : Entry) → work_entry s id ≡ Some e → IsWorkAt s id e
unfolding work_entry
work_at_of s id e is = by (work_on id s.records) refl is
  where
    by : (o : Option (ℕ × Machine)) → work_on id s.records ≡ o → work_then s o ≡ Some e → IsWorkAt s id e
    by None p q = absurd (none-some e q)
    by (Some w) p q = record { place = w.0; machine = w.1; at = p; is = same_Some (now_at s (Input.Work w.0 w.1)) e q }

---- Asks

never_same : (h x : Header) → (h.correlation == x.correlation) ≡ false → is_same_request h x ≡ false
never_same h x apart = by (bytes_eq h.requester x.requester) (bytes_eq h.provider x.provider) (h.correlation == x.correlation) apart
  where
    by : (a b c : Bool) → c ≡ false → (a && (b && c)) ≡ false
    by false b c e = refl
    by true false c e = refl
    by true true c e = e

not_yet : (n : ℕ) (h : Header) (taken : List Header) → h.correlation ≡ n → All (λ (x : Header). x.correlation < n) taken → is_taken h taken ≡ false
unfolding is_taken
not_yet n h [] is all = refl
not_yet n h (x ∷ taken) is all =
    let below : x.correlation < n = All-head (λ (x : Header). x.correlation < n) x taken all in
    ap (λ c. c || list_any (is_same_request h) taken) (never_same h x (ne_eqb h.correlation x.correlation (λ e. omega (arith, e, is, below)))) ∙ not_yet n h taken is (All-tail (λ (x : Header). x.correlation < n) x taken all)

only_one : (set : RequesterSetting) (next : ℕ) (out : List Message) (m : Message) → out ≡ m ∷ [] → AreOwnRequests set next out → IsOwnRequest set next m
unfolding AreOwnRequests
only_one set next out m is h = (subst (AreOwnRequests set next) is h).0

id_later : (a n k : ℕ) → n ≤ k → id_of a n ≤ id_of a k
id_later a n k le = omega (arith, le)

id_next : (a n : ℕ) → id_of a n < id_of a (n + 1)
id_next a n = omega arith

module _ (t : Network) (first : List Item) (j : ℕ) (b : Book) (x y : Asker) (ask : Ask) (h : IsAlone t first (idle (j + 1)) b x) (call : y.call ≡ x.call) (kept : y.kept ≡ x.kept) where
  abbrev s : AgentState
  s = x.requester.state

  asks : may_hear s (ask_entry s ask) ≡ true → HasAskedAs 1 (requester_of_net t x.call.agent) s (asked t x.call.agent s ask)
  asks may = ask_sends (requester_of_net t x.call.agent) s s.base.now 0 ask may

  -- it has drawn so many ids
  went_on : (w : Rest) (count : ℕ) → w.items ≡ [] → w.works ≡ 0 → w.at ≡ None → w.room ≤ 3 * j + 3 → w.own_room ≤ 11 * j + 10 → y.requester.state.base.next ≡ s.base.next + count → y.requester.state.base.now ≡ s.base.now
      → y.requester.state.base.taken ≡ s.base.taken + 1 → IsAlone t first w b y
  went_on w count items works at room own_room next now taken = subst (IsAt t first w b) (sym same) (record {
    network = h.network;
    agent = h.agent;
    running = h.running;
    caller = h.caller;
    known = h.known;
    good = h.good;
    gone = h.gone;
    clock = h.clock;
    own_clock = h.own_clock;
    owners = h.owners;
    ids = All-weaker (λ (z : Header). z.correlation < id_of x.call.agent s.base.next) (λ (z : Header). z.correlation < id_of x.call.agent (s.base.next + count)) (λ z e. omega (arith, e)) b.state.seen h.ids;
    kept = ap (λ (l : List Item). x.kept ++ l) items ∙ h.kept;
    others = h.others;
    owned = h.owned;
    begins = h.begins;
    works = omega (arith, h.works, works);
    only = waits_nowhere b.state.records w.at (omega (arith, h.works));
    room = omega (arith, h.room, room);
    own_room = omega (arith, h.own_room, own_room);
    few = omega (arith, ap length items);
  })
    where
      same : side_of y ≡ record { call = x.call; kept = x.kept; next = s.base.next + count; now = s.base.now; taken = s.base.taken + 1 }
      same = λ i. record { call = call i; kept = kept i; next = next i; now = now i; taken = taken i }

  pub silent_idle : IsSilent t x.call.agent s ask y.requester.state → IsAlone t first (idle j) b y
  silent_idle q =
      let a = asks q.may in
      went_on (idle j) (length (asked t x.call.agent s ask).out) refl refl refl (omega arith) (omega arith) (ap (λ (u : AgentState). u.base.next) q.state ∙ a.next) (ap (λ (u : AgentState). u.base.now) q.state ∙ a.now) (ap (λ (u : AgentState). u.base.taken) q.state ∙ a.taken)

  module _ (m : Message) (q : IsRequestOf t x.call.agent s ask m y.requester.state) where
    pub sent_alone : IsAlone t first (sending j) b y
    sent_alone =
        let a = asks q.may in
        went_on (sending j) (length (asked t x.call.agent s ask).out) refl refl refl (omega arith) (omega arith) (ap (λ (u : AgentState). u.base.next) q.state ∙ a.next) (ap (λ (u : AgentState). u.base.now) q.state ∙ a.now)
        (ap (λ (u : AgentState). u.base.taken) q.state ∙ a.taken)

    pub sent_new : IsNewRequest b y m
    sent_new =
        let a = asks q.may in
        let own = only_one (requester_of_net t x.call.agent) s.base.next (asked t x.call.agent s ask).out m q.one a.own in
        let next : y.requester.state.base.next ≡ s.base.next + 1 = ap (λ (u : AgentState). u.base.next) q.state ∙ (a.next ∙ ap (λ (l : List Message). s.base.next + length l) q.one) in
        record {
          requester = own.requester ∙ (λ i. name_of (sym h.network i) (sym (ap (λ (c : Call). c.agent) call) i));
          earlier = subst (λ (c : ℕ). m.header.correlation < c) (λ i. id_of (sym (ap (λ (c : Call). c.agent) call) i) (sym next i)) (omega (arith, own.correlation));
          request = own.request;
          new = not_yet (id_of x.call.agent s.base.next) m.header b.state.seen own.correlation h.ids;
        }

  pub never_full : most_entries ≤ s.base.taken → ⊥
  never_full full = omega (arith, full, h.own_room)
