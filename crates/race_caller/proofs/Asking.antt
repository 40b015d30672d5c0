-- A caller at work, step by step.
use Rattle.std.proofs.Common.{◌≡◌, ℕ, ◌<◌, List, [], ◌∷◌, ◌++◌, length, Bool, true, false, All, Option, Some, None, refl, sym, ap, ◌∙◌, subst, inl, inr}
use Rattle.std.specs.Global.{Vec}
use Rattle.std.specs.Prelude.{◌==◌, slice_get, IfSome, IsTrue}
use Rattle.std.proofs.lemmas.Option.{none-some}
use Rattle.std.proofs.lemmas.Bool.{eqb-true, and_parts}
use Rattle.std.proofs.lemmas.List.{append-nil, append_assoc}
use Rattle.std.proofs.lemmas.List.Elements.{All-head, All-push}
use Rattle.nsi_primitive.specs.Printable.{IsPrintable, IsPrintableInput, is_ask}
use Rattle.nsi_primitive.specs.declared.ask.Ask.{Ask}
use Rattle.nsi_primitive.specs.declared.entry.Entry.{Entry}
use Rattle.nsi_primitive.specs.declared.entry.Event.{Event}
use Rattle.nsi_primitive.specs.declared.entry.Happening.{Happening}
use Rattle.nsi_primitive.specs.declared.entry.Input.{Input}
use Rattle.nsi_primitive.specs.declared.message.Message.{Message}
use Rattle.agent_state.specs.State.{AgentState}
use Rattle.stp_topology.specs.declared.network.Network.{Network}
use Rattle.trace_text.specs.Lines.{HasLine}
use Rattle.nsi_script.specs.declared.script.Act.{Act}
use Rattle.requester_agent.specs.State.{Standing}
use Rattle.requester_agent.specs.Setting.{setting_of}
use Rattle.requester_agent.specs.Steps.{may_take}
use Rattle.shared_provider.specs.Asked.{is_work_input}
use Rattle.race_run.specs.declared.item.Item.{Item}
use Rattle.race_run.specs.declared.replayed.Call.{Call}
use Rattle.race_run.specs.Found.{item, entered, got}
use Rattle.race_run.specs.Compared.{Stands, AllStand}
use Rattle.race_run.specs.Scripts.{ask_by, asks_by}
use Rattle.race_caller.specs.declared.asker.Asker.{Asker}
use Rattle.race_caller.specs.declared.asker.Sent.{Sent}
use Rattle.race_caller.specs.Plays.{asker_after, heard_now, ask_entry, asked, is_plain_work, is_work_by, IsSilent, IsRequestOf, HearsMore, FollowsMore, PlaysMore}
use Rattle.race_caller.specs.Askers.{IsAsker, HasTaken, HasPicked, IsFirst, IsPick, SendsBy, HasHeard, HasAsked, HasPlayed, HasSent, HasFollowed}
use Rattle.race_caller.proofs.Hearing.{hears_twice, hears_nothing, hears_message, hears_work, plays_then, plays_one, plays_none, asks_push}
use Rattle.race_caller.proofs.OneRequest.{one_at_most, all_sent}

-- what is known of a caller that differs in its requester's state alone, and in what it kept
asker_like : (t : Network) (x y : Asker) → IsAsker t x → y.requester.setting ≡ x.requester.setting → y.call ≡ x.call → IfSome y.last IsPrintable → AllStand t y.kept → IsAsker t y
asker_like t x y is setting call last stand = record {
  setting = setting ∙ is.setting ∙ ap (λ (c : Call). setting_of t c.agent) (sym call);
  agent = subst (λ (c : Call). c.agent < length t.agents) (sym call) is.agent;
  provider = subst (λ (c : Call). c.provider < length t.agents) (sym call) is.provider;
  apart = ap (λ (c : Call). c.provider == c.agent) call ∙ is.apart;
  last = last;
  stand = stand;
}

got_stands : (t : Network) (a place second : ℕ) (m : Message) → a < length t.agents → IsPrintable m → Stands t (item place (entered a (got second m)))
got_stands t a place second m within p = record { agent = within; printable = record { entry = p; answered = (λ h. absurd (cc), λ h. absurd (cc)) } }

---- Hearing

pub nothing_heard : (t : Network) (x : Asker) (on : Bool) → IsAsker t x → HasHeard t x x on
nothing_heard t x on is = record { is = is; call = refl; heard = λ e. hears_nothing t x.call x.requester.state x.kept }

pub not_heard : (t : Network) (x y : Asker) → IsAsker t y → y.call ≡ x.call → HasHeard t x y false
not_heard t x y is call = record { is = is; call = call; heard = λ e. absurd (cc) }

pub heard_twice : (t : Network) (x y z : Asker) (on : Bool) → HasHeard t x y true → HasHeard t y z on → HasHeard t x z on
heard_twice t x y z on h k = record {
  is = k.is;
  call = k.call ∙ h.call;
  heard = λ e. hears_twice t x.call x.requester.state y.requester.state z.requester.state x.kept y.kept z.kept (h.heard refl)
      (subst (λ (c : Call). HearsMore t c y.requester.state y.kept z.requester.state z.kept) h.call (k.heard e));
}

pub heard_on : (t : Network) (x y z : Asker) (on b : Bool) → HasHeard t x y true → HasHeard t y z on → on ≡ b → HasHeard t x z b
heard_on t x y z on b h k e = subst (HasHeard t x z) e (heard_twice t x y z on h k)

pub heard_as : (t : Network) (x y : Asker) (on b : Bool) → HasHeard t x y on → b ≡ on → HasHeard t x y b
heard_as t x y on b h e = subst (HasHeard t x y) (sym e) h

-- a message was taken, and kept
pub heard_taken : (t : Network) (x y z : Asker) (place second : ℕ) (m : Message) (out : Vec Message) → IsPrintable m → second ≡ x.requester.state.base.now → HasTaken t (got second m) x y out
    → z.kept ≡ y.kept ++ item place (entered y.call.agent (got second m)) ∷ [] → z.requester ≡ y.requester → z.call ≡ y.call → z.last ≡ y.last → HasHeard t x z true
heard_taken t x y z place second m out p now h kept requester call last =
    let e = heard_now x.requester.state m in
    let same : got second m ≡ e = ap (λ n. got n m) now in
    let here : z.kept ≡ x.kept ++ item place (entered x.call.agent e) ∷ [] = kept ∙ (λ i. h.kept i ++ item place (entered (ap (λ (c : Call). c.agent) h.call i) (same i)) ∷ []) in
    let state : z.requester.state ≡ (asker_after t x.call.agent x.requester.state e).state =
    ap (λ (r : Standing). r.state) requester ∙ h.state ∙ ap (λ (f : Entry). (asker_after t x.call.agent x.requester.state f).state) same in
    record {
      is = asker_like t y z h.is (ap (λ (r : Standing). r.setting) requester) call (subst (λ (l : Option Message). IfSome l IsPrintable) (sym last) h.is.last)
          (subst (AllStand t) (sym kept) (All-push (Stands t) y.kept (item place (entered y.call.agent (got second m))) h.is.stand (got_stands t y.call.agent place second m h.is.agent p)));
      call = call ∙ h.call;
      heard = λ _.
          subst (λ (l : List Item). HearsMore t x.call x.requester.state x.kept z.requester.state l) (sym here)
          (subst (λ (s : AgentState). HearsMore t x.call x.requester.state x.kept s (x.kept ++ item place (entered x.call.agent e) ∷ [])) (sym state)
          (hears_message t x.call place x.requester.state m x.kept (subst (λ (f : Entry). may_take x.requester.state f ≡ true) same h.may)));
    }

-- a message was taken, and the entry was kept
pub heard_kept : (t : Network) (x y z : Asker) (place second : ℕ) (m : Message) (said : Vec Message) → IsPrintable m → second ≡ x.requester.state.base.now → HasTaken t (got second m) x y said
    → z ≡ record y { kept = y.kept ++ item place (entered y.call.agent (got second m)) ∷ [] } → HasHeard t x z true
heard_kept t x y z place second m said p now h is =
    heard_taken t x y z place second m said p now h (ap (λ (w : Asker). w.kept) is) (ap (λ (w : Asker). w.requester) is) (ap (λ (w : Asker). w.call) is) (ap (λ (w : Asker). w.last) is)

work_printable : (i : Input) → is_work_input i ≡ true → IsPrintableInput i
work_printable (Input.Work n machine) e = tt
work_printable (Input.Ask n ask) e = absurd (cc)
work_printable (Input.Got m) e = absurd (cc)
work_printable Input.Tick e = tt
work_printable (Input.Force n) e = tt
work_printable (Input.Acked i) e = tt

no_ask : (i : Input) → is_work_input i ≡ true → IsTrue (is_ask i) → ⊥
no_ask (Input.Ask n ask) e h = absurd (cc)
no_ask (Input.Work n machine) e h = absurd (cc)
no_ask (Input.Got m) e h = absurd (cc)
no_ask Input.Tick e h = absurd (cc)
no_ask (Input.Force n) e h = absurd (cc)
no_ask (Input.Acked i) e h = absurd (cc)

plain_line : (t : Network) (agent : ℕ) (w : Happening) → agent < length t.agents → is_plain_work w ≡ true → HasLine t (record { agent = agent; what = w })
plain_line t agent (Happening.Entry e None) within work = record { agent = within; printable = record { entry = work_printable e.input work; answered = (λ h. absurd (no_ask e.input work h), λ h. absurd (cc)) } }
plain_line t agent (Happening.Entry e (Some a)) within work = absurd (cc)
plain_line t agent (Happening.Sync n) within work = absurd (cc)
plain_line t agent (Happening.Restart n) within work = absurd (cc)

work_line : (t : Network) (p : ℕ) (v : Event) → p < length t.agents → is_work_by p v ≡ true → HasLine t v
work_line t p v within work =
    let parts = and_parts (v.agent == p) (is_plain_work v.what) work in
    plain_line t v.agent v.what (subst (λ n. n < length t.agents) (sym (eqb-true v.agent p parts.0)) within) parts.1

-- work of the provider was kept
pub heard_work : (t : Network) (x y : Asker) (place : ℕ) (v : Event) → IsAsker t x → is_work_by x.call.provider v ≡ true
    → y.kept ≡ x.kept ++ item place v ∷ [] → y.requester ≡ x.requester → y.call ≡ x.call → y.last ≡ x.last → HasHeard t x y true
heard_work t x y place v is work kept requester call last =
    record {
      is = asker_like t x y is (ap (λ (r : Standing). r.setting) requester) call (subst (λ (l : Option Message). IfSome l IsPrintable) (sym last) is.last)
          (subst (AllStand t) (sym kept) (All-push (Stands t) x.kept (item place v) is.stand (work_line t x.call.provider v is.provider work)));
      call = call;
      heard = λ _.
          subst (λ (l : List Item). HearsMore t x.call x.requester.state x.kept y.requester.state l) (sym kept)
          (subst (λ (s : AgentState). HearsMore t x.call x.requester.state x.kept s (x.kept ++ item place v ∷ [])) (sym (ap (λ (r : Standing). r.state) requester))
          (hears_work t x.call x.requester.state (item place v) x.kept work));
    }

---- Requests

-- the request that an ask makes it send
pub sent_of : (t : Network) (ask : Ask) (x y z : Asker) (second : ℕ) (out : Vec Message) (sent : Sent) → second ≡ x.requester.state.base.now
    → HasTaken t (record { second = second; input = Input.Ask 0 ask }) x y out → HasPicked t out.items y z sent → HasSent t ask x z sent
sent_of t ask x y z second out sent now h k = record { is = k.is; call = k.call ∙ h.call; kept = k.kept ∙ h.kept; sends = go sent k.pick }
  where
    e : Entry
    e = ask_entry x.requester.state ask

    same : record { second = second; input = Input.Ask 0 ask } ≡ e
    same = ap (λ n. record { second = n; input = Input.Ask 0 ask }) now

    state : z.requester.state ≡ (asked t x.call.agent x.requester.state ask).state
    state = ap (λ (r : Standing). r.state) k.requester ∙ h.state ∙ ap (λ (f : Entry). (asker_after t x.call.agent x.requester.state f).state) same

    said : (asked t x.call.agent x.requester.state ask).out ≡ out.items
    said = sym (h.out ∙ ap (λ (f : Entry). (asker_after t x.call.agent x.requester.state f).out) same)

    may : may_take x.requester.state e ≡ true
    may = subst (λ (f : Entry). may_take x.requester.state f ≡ true) same h.may

    go : (sent : Sent) → IsPick out.items sent → SendsBy t ask x z sent
    go Sent.Full p = absurd p
    go Sent.Nothing p = record { may = may; none = said ∙ p; state = state }
    go (Sent.Request m) p = (
      record { may = may; one = all_sent (asked t x.call.agent x.requester.state ask).out p.more m (said ∙ p.one) (one_at_most t x.call.agent x.requester.state ask); state = state },
      p.printable,
    )

-- the ask was copied
pub sent_copy : (t : Network) (ask copied : Ask) (x y z : Asker) (second : ℕ) (out : Vec Message) (items : List Message) (sent : Sent) → copied ≡ ask → second ≡ x.requester.state.base.now → items ≡ out.items
    → HasTaken t (record { second = second; input = Input.Ask 0 copied }) x y out → HasPicked t items y z sent → HasSent t ask x z sent
sent_copy t ask copied x y z second out items sent same now are h k =
    sent_of t ask x y z second out sent now (subst (λ (a : Ask). HasTaken t (record { second = second; input = Input.Ask 0 a }) x y out) same h) (subst (λ (l : List Message). HasPicked t l y z sent) are k)

first_of : (out : List Message) (m : Message) → slice_get out 0 ≡ Some m → All IsPrintable out → IsFirst m out
first_of [] m e h = absurd (none-some m e)
first_of (x ∷ out) m e h =
    let same : x ≡ m = cc in
    record { more = out; one = ap (λ (n : Message). n ∷ out) same; printable = subst IsPrintable same (All-head IsPrintable x out h) }

-- the first message was picked
pub picked : (t : Network) (x y : Asker) (out : List Message) (request m last : Message) → IsAsker t x → All IsPrintable out → slice_get out 0 ≡ Some request → m ≡ request → last ≡ request
    → y ≡ record x { last = Some last } → HasPicked t out x y (Sent.Request m)
picked t x y out request m last is all at same kept as_is =
    let first : IsFirst m out = first_of out m (at ∙ ap (λ (n : Message). Some n) (sym same)) all in
    let printable : IsPrintable last = subst IsPrintable (same ∙ sym kept) first.printable in
    record {
      is = subst (IsAsker t) (sym as_is) (record { setting = is.setting; agent = is.agent; provider = is.provider; apart = is.apart; last = printable; stand = is.stand });
      call = ap (λ (w : Asker). w.call) as_is;
      kept = ap (λ (w : Asker). w.kept) as_is;
      requester = ap (λ (w : Asker). w.requester) as_is;
      pick = first;
    }

-- its request was kept
pub kept_request : (t : Network) (x : Asker) (place : ℕ) (m : Message) → IsAsker t x → IsPrintable m
    → IsAsker t (record x { kept = x.kept ++ item place (entered x.call.provider (got x.call.second m)) ∷ [] })
kept_request t x place m is p = record {
  setting = is.setting;
  agent = is.agent;
  provider = is.provider;
  apart = is.apart;
  last = is.last;
  stand = All-push (Stands t) x.kept (item place (entered x.call.provider (got x.call.second m))) is.stand (got_stands t x.call.provider place x.call.second m is.provider p);
}

-- a request, and what is taken behind it
pub followed : (t : Network) (x y z : Asker) (place : ℕ) (m : Message) (on : Bool) → y ≡ record x { kept = x.kept ++ item place (entered x.call.provider (got x.call.second m)) ∷ [] } → HasHeard t y z on → HasFollowed t m x z on
followed t x y z place m on is k = go (subst (λ (w : Asker). HasHeard t w z on) is k)
  where
    go : HasHeard t (record x { kept = x.kept ++ item place (entered x.call.provider (got x.call.second m)) ∷ [] }) z on → HasFollowed t m x z on
    go k = record {
      is = k.is;
      call = k.call;
      followed = λ e. let h = k.heard e in record {
        more = item place (entered x.call.provider (got x.call.second m)) ∷ h.more;
        is = h.is ∙ append_assoc x.kept (item place (entered x.call.provider (got x.call.second m)) ∷ []) h.more;
        sends = record { place = place; heard = h.more; items = refl; hears = h.hears };
      };
    }

pub not_followed : (t : Network) (m : Message) (x y : Asker) → IsAsker t y → y.call ≡ x.call → HasFollowed t m x y false
not_followed t m x y is call = record { is = is; call = call; followed = λ e. absurd (cc) }

---- Asks

-- an ask that sends a request
pub asked_by : (t : Network) (ask : Ask) (x y z : Asker) (m : Message) (on : Bool) → IsRequestOf t x.call.agent x.requester.state ask m y.requester.state → y.call ≡ x.call → y.kept ≡ x.kept → HasFollowed t m y z on
    → HasAsked t ask x z on
asked_by t ask x y z m on r call kept f = record {
  is = f.is;
  call = f.call ∙ call;
  asked = λ e.
      let h = subst (λ (l : List Item). FollowsMore t x.call m y.requester.state l z.requester.state z.kept) kept
      (subst (λ (c : Call). FollowsMore t c m y.requester.state y.kept z.requester.state z.kept) call (f.followed e)) in
      record { more = h.more; is = h.is; plays = inl (record { request = m; then_at = y.requester.state; is = r; sends = h.sends }) };
}

-- an ask that sends nothing
pub asked_silent : (t : Network) (ask : Ask) (x y : Asker) (on : Bool) → IsAsker t y → y.call ≡ x.call → y.kept ≡ x.kept → IsSilent t x.call.agent x.requester.state ask y.requester.state → HasAsked t ask x y on
asked_silent t ask x y on is call kept s = record {
  is = is;
  call = call;
  asked = λ e. record { more = []; is = kept ∙ sym (append-nil x.kept); plays = inr (record { is = s; items = refl }) };
}

pub not_asked : (t : Network) (ask : Ask) (x y : Asker) → IsAsker t y → y.call ≡ x.call → HasAsked t ask x y false
not_asked t ask x y is call = record { is = is; call = call; asked = λ e. absurd (cc) }

---- All asks

pub played_one : (t : Network) (ask : Ask) (x y : Asker) (on : Bool) → HasAsked t ask x y on → HasPlayed t (ask ∷ []) x y on
played_one t ask x y on h = record {
  is = h.is;
  call = h.call;
  plays = λ e. let k = h.asked e in record { more = k.more; is = k.is; plays = plays_one t x.call x.requester.state y.requester.state ask k.more k.plays };
}

pub played_none : (t : Network) (x : Asker) (on : Bool) → IsAsker t x → HasPlayed t [] x x on
played_none t x on is = record { is = is; call = refl; plays = λ e. record { more = []; is = sym (append-nil x.kept); plays = plays_none t x.call x.requester.state } }

pub played_twice : (t : Network) (asks more : List Ask) (x y z : Asker) (on : Bool) → HasPlayed t asks x y true → HasPlayed t more y z on → HasPlayed t (asks ++ more) x z on
played_twice t asks more x y z on h k = record {
  is = k.is;
  call = k.call ∙ h.call;
  plays = λ e.
      let a = h.plays refl in
      let b = subst (λ (c : Call). PlaysMore t c y.requester.state more y.kept z.requester.state z.kept) h.call (k.plays e) in
      record {
        more = a.more ++ b.more;
        is = b.is ∙ ap (λ (l : List Item). l ++ b.more) a.is ∙ append_assoc x.kept a.more b.more;
        plays = plays_then t x.call x.requester.state y.requester.state z.requester.state asks more a.more b.more a.plays b.plays;
      };
}

-- the acts so far, and one more
pub played_more : (t : Network) (a : ℕ) (acts all : List Act) (act : Act) (x y z : Asker) (on : Bool) → all ≡ acts ++ act ∷ [] → y.call.agent ≡ a → HasPlayed t (asks_by a acts) x y true → HasPlayed t (ask_by y.call.agent act) y z on → HasPlayed t (asks_by a all) x z on
played_more t a acts all act x y z on is own h k =
    subst (λ (l : List Ask). HasPlayed t l x z on) (sym (ap (asks_by a) is ∙ asks_push a acts act))
    (played_twice t (asks_by a acts) (ask_by a act) x y z on h (subst (λ n. HasPlayed t (ask_by n act) y z on) own k))
