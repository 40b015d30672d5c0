-- In every run an agent has taken each request that it got.
use Rattle.std.proofs.Common.{ℕ, zero, suc, ◌≡◌, ◌<◌, ◌∙◌, Bool, true, false, ◌&&◌, nat_lt, List, [], ◌∷◌, ◌++◌, Some, refl, ap, subst, arith, length, take, drop, slice_get}
use Rattle.std.specs.List.{Contains}
use Rattle.std.proofs.lemmas.Bool.{and_from, lt-ltb}
use Rattle.std.proofs.lemmas.List.{length-take}
use Rattle.std.proofs.lemmas.Option.{none-some, same_Some, slice_get_within, slice_get-get_or, get_or_from_slice_get}
use Rattle.nsi_primitive.specs.Messages.{is_request}
use Rattle.nsi_primitive.specs.declared.entry.Entry.{Entry}
use Rattle.nsi_primitive.specs.declared.entry.Event.{Event}
use Rattle.nsi_primitive.specs.declared.entry.Input.{Input}
use Rattle.nsi_primitive.specs.declared.message.Message.{Message}
use Rattle.stp_topology.specs.declared.network.Network.{Network}
use Rattle.agent_state.specs.Entries.{is_on_time, most_entries}
use Rattle.agent_state.specs.State.{AgentState}
use Rattle.nsi_agent.specs.Homes.{Role, provides, aggregates, requests, Routes, home_in}
use Rattle.nsi_agent.specs.Steps.{may_take_as, is_new}
use Rattle.nsi_agent.specs.Told.{told, IsSameTo, Gets, WasGot}
use Rattle.nsi_agent.proofs.SeenGot.{seen_was_got}
use Rattle.nsi_world.specs.Heard.{IsHeard, IsFair}
use Rattle.nsi_world.specs.Laws.{HeardWasSent, RequestsAreOne}
use Rattle.nsi_world.specs.Runs.{world_after, AreAllowed}
use Rattle.nsi_world.specs.Worlds.{Homes, World, empty, IsGot, IsSent}
use Rattle.run_growth.proofs.Entered.{IsEntry, entries_of}
use Rattle.request_answers.specs.Taken.{HasTaken}
use Rattle.answered_play.specs.Laws.{GotWasTaken}

---- Entries at their places

parts_at : (es : List Entry) (n : ℕ) (e : Entry) → slice_get es n ≡ Some e → es ≡ take n es ++ e ∷ drop (suc n) es
parts_at [] n e h = absurd (none-some e h)
parts_at (x ∷ xs) zero e h = ap (λ (z : Entry). z ∷ xs) (same_Some x e h)
parts_at (x ∷ xs) (suc n) e h = ap (λ (zs : List Entry). x ∷ zs) (parts_at xs n e h)

front_at : (es : List Entry) (n k : ℕ) (e : Entry) → slice_get (take n es) k ≡ Some e → slice_get es k ≡ Some e
front_at es zero k e h = absurd (none-some e h)
front_at [] (suc n) k e h = absurd (none-some e h)
front_at (x ∷ xs) (suc n) zero e h = h
front_at (x ∷ xs) (suc n) (suc k) e h = front_at xs n k e h

contained_at : (es : List Entry) (e : Entry) (c : Contains es e) → slice_get es c.0 ≡ Some e
contained_at es e c = slice_get-get_or es c.0 e c.1 ∙ ap (λ z. Some z) c.2

abbrev pub bringing : ℕ → Message → Entry
bringing second m = record { second = second; input = Input.Got m }

-- there is room, and it is in time
may_got : (role : Role) (s : AgentState) (second : ℕ) (m : Message) → s.base.taken < most_entries → is_on_time (Input.Got m) second s.base.now ≡ true → may_take_as role s (bringing second m) ≡ true
may_got (provides setting stp_of) s second m few timely = and_from (nat_lt s.base.taken most_entries) (true && is_on_time (Input.Got m) second s.base.now) (lt-ltb s.base.taken most_entries few) timely
may_got (aggregates setting) s second m few timely = and_from (nat_lt s.base.taken most_entries) (true && is_on_time (Input.Got m) second s.base.now) (lt-ltb s.base.taken most_entries few) timely
may_got (requests setting) s second m few timely = and_from (nat_lt s.base.taken most_entries) (is_on_time (Input.Got m) second s.base.now) (lt-ltb s.base.taken most_entries few) timely

---- What came before

-- an entry that gets what is a request with that header
pub record IsEarlier (m : Message) (e : Entry) : Type 0 where
  pub message : Message
  pub input : e.input ≡ Input.Got message
  pub asks : is_request message.body ≡ true
  pub header : message.header ≡ m.header

pub earlier_is : (m : Message) (e : Entry) → is_request m.body ≡ true → Gets m e.input → IsEarlier m e
earlier_is m e asks g = by e.input refl g
  where
    by : (i : Input) → e.input ≡ i → Gets m i → IsEarlier m e
    by (Input.Got n) is g =
        let same : IsSameTo true m n = subst (λ b. IsSameTo b m n) asks g in
        record { message = n; input = is; asks = same.0; header = same.1 }
    by (Input.Ask n a) is g = absurd g
    by (Input.Work n machine) is g = absurd g
    by (Input.Force n) is g = absurd g
    by (Input.Acked i) is g = absurd g
    by Input.Tick is g = absurd g

module _ (sent : HeardWasSent) (one : RequestsAreOne) (t : Network) (routes : Routes) (events : List Event) (run : AreAllowed (home_in t routes) empty events) where
  abbrev homes : Homes
  homes = home_in t routes

  abbrev w : World
  w = world_after empty events

  sent_at : (a n second : ℕ) (m : Message) → slice_get (w.journal a) n ≡ Some (bringing second m) → IsSent homes w m
  sent_at a n second m h =
      let fair : IsFair homes w = sent homes events run in
      let e : Entry = bringing second m in
      let heard : IsHeard homes w a e = subst (IsHeard homes w a) (get_or_from_slice_get (w.journal a) n e e h) (fair.heard a n e (slice_get_within (w.journal a) n e h)) in
      heard.sent.0

  -- the first of the entries that bring it takes it
  first_takes : (a : ℕ) (m : Message) → is_request m.body ≡ true → (k n second : ℕ) → n < k → slice_get (w.journal a) n ≡ Some (bringing second m) → HasTaken (homes a) (w.journal a) m
  first_takes a m asks zero n second lt h = absurd (omega (arith, lt))
  first_takes a m asks (suc k) n second lt h = by (is_new (homes a) (told (homes a) (take n (w.journal a))).state m) refl (λ j other l g. first_takes a m asks k j other l g)
    where
      es : List Entry
      es = w.journal a

      e : Entry
      e = bringing second m

      before : AgentState
      before = (told (homes a) (take n es)).state

      seen_before : WasGot m (take n es) → ((j other : ℕ) → j < k → slice_get (w.journal a) j ≡ Some (bringing other m) → HasTaken (homes a) (w.journal a) m) → HasTaken (homes a) (w.journal a) m
      seen_before got rest =
          let x : Entry = got.0 in
          let earlier : IsEarlier m x = earlier_is m x asks got.2 in
          let at : slice_get es got.1.0 ≡ Some x = front_at es n got.1.0 x (contained_at (take n es) x got.1) in
          let is : x ≡ bringing x.second earlier.message = ap (λ (i : Input). record { second = x.second; input = i }) earlier.input in
          let there : slice_get es got.1.0 ≡ Some (bringing x.second earlier.message) = at ∙ ap (λ z. Some z) is in
          let same : earlier.message ≡ m = one t routes events m earlier.message run (sent_at a n second m h) (sent_at a got.1.0 x.second earlier.message there) asks earlier.asks earlier.header in
          let less : got.1.0 < length (take n es) = got.1.1 in
          rest got.1.0 x.second (omega (arith, lt, less, length-take n es)) (there ∙ ap (λ z. Some (bringing x.second z)) same)

      by : (b : Bool) → is_new (homes a) before m ≡ b → ((j other : ℕ) → j < k → slice_get (w.journal a) j ≡ Some (bringing other m) → HasTaken (homes a) (w.journal a) m) → HasTaken (homes a) (w.journal a) m
      by true new rest =
          let entry : IsEntry homes a (take n es) e = (entries_of homes events run a).entered n e h in
          record {
            earlier = take n es;
            entry = e;
            later = drop (suc n) es;
            parts = parts_at es n e h;
            takes = record { got = refl; asks = asks; may = may_got (homes a).role before second m entry.few entry.on_time; new = new };
          }
      by false old rest = seen_before (seen_was_got (homes a) (take n es) m old) rest

  got_taken : (a : ℕ) (m : Message) → IsGot m (w.journal a) → is_request m.body ≡ true → HasTaken (homes a) (w.journal a) m
  got_taken a m got asks = first_takes a m asks (suc got.there.0) got.there.0 got.second (omega arith) (contained_at (w.journal a) (bringing got.second m) got.there)

pub got_was_taken : HeardWasSent → RequestsAreOne → GotWasTaken
got_was_taken sent one t routes events a m run got asks = got_taken sent one t routes events run a m got asks
