-- A caller of a book that nobody shares, before all asks and behind them.
use Rattle.std.proofs.Common.{◌≡◌, ◌∙◌, ◌≤◌, ◌<◌, ℕ, Bool, true, false, List, [], All, length, Option, Some, None, Result, Ok, Err, sym, ap, subst, arith, slice_get}
use Rattle.std.specs.Prelude.{◌==◌, IfOk}
use Rattle.std.specs.declared.alloc.AllocError.{AllocError}
use Rattle.std.proofs.lemmas.Bool.{le-leb}
use Rattle.std.proofs.lemmas.List.{append-nil}
use Rattle.std.proofs.lemmas.List.Elements.{All-nil}
use Rattle.std.proofs.lemmas.Option.{none-some}
use Rattle.nsi_primitive.specs.Ids.{id_of}
use Rattle.nsi_primitive.specs.declared.ask.Ask.{Ask}
use Rattle.nsi_primitive.specs.declared.message.Header.{Header}
use Rattle.stp_topology.specs.declared.network.Network.{Network}
use Rattle.stp_topology.specs.Network.{name_of, agent_of}
use Rattle.connection_record.specs.declared.record.Record.{Record}
use Rattle.agent_state.specs.State.{AgentState, blank_agent}
use Rattle.provider_agent.specs.State.{blank}
use Rattle.provider_agent.specs.Steps.{waiting_work}
use Rattle.provider_agent.specs.Working.{works_among}
use Rattle.requester_agent.specs.Steps.{after as hears, step as hear_step, ticks as hear_ticks, after_if as hears_if}
use Rattle.requester_agent.specs.Setting.{setting_of as requester_of_net}
use Rattle.sole_requester.specs.Sole.{AreOwnedBy}
use Rattle.sole_requester.proofs.Moving.{waits_nowhere}
use Rattle.sole_requester.proofs.Working.{none_found}
use Rattle.shared_provider.specs.Asked.{tick_entry}
use Rattle.shared_provider.specs.Book.{Book}
use Rattle.nsi_script.specs.declared.script.Act.{Act}
use Rattle.race_run.specs.Scripts.{asks_by}
use Rattle.race_run.specs.declared.item.Item.{Item}
use Rattle.race_run.specs.declared.replayed.Call.{Call}
use Rattle.race_run.specs.Found.{found, ticks, strays, state_gone, is_caller}
use Rattle.race_caller.specs.declared.asker.Asker.{Asker}
use Rattle.race_caller.specs.Plays.{begun}
use Rattle.race_caller.specs.Askers.{HasPlayed}
use Rattle.race_caller.specs.Handed.{HandsOver}
use Rattle.race_caller.specs.Alone.{idle, IsAlone, EndsAlone, IsReadyFor, IsItsOwn, EndsOwn}

---- Before all asks

begun_one : (t : Network) (a second : ℕ) → (begun t a (Some second)).base.taken ≡ 1
unfolding hears hear_step hear_ticks
begun_one t a second = ap (λ b. (hears_if b (requester_of_net t a) blank_agent (tick_entry second)).state.base.taken) (le-leb 0 second (omega arith))

-- a requester that begins has taken the tick at most
begun_few : (t : Network) (a : ℕ) (start : Option ℕ) → (begun t a start).base.taken ≤ 1
begun_few t a None = omega arith
begun_few t a (Some second) = omega (arith, begun_one t a second)

owns_none : (name : List ℕ) (records : List Record) → records ≡ [] → AreOwnedBy name records
owns_none name records none = λ n r e. absurd (none-some r (sym (ap (λ (l : List Record). slice_get l n) none) ∙ e))

begins_alone : (t : Network) (first : List Item) (c : Call) (start : Option ℕ) (count : ℕ) (b : Book) (x : Asker) → x.call ≡ c → x.requester.state ≡ begun t c.agent start → x.kept ≡ [] → IsReadyFor t first c start count b
    → IsAlone t first (idle count) b x
begins_alone t first c start count b x call state none h =
    let agent : x.call.agent ≡ c.agent = ap (λ (d : Call). d.agent) call in
    let second : x.call.second ≡ c.second = ap (λ (d : Call). d.second) call in
    let nothing : works_among b.state.records ≡ 0 = ap works_among h.records in
    record {
      network = h.network;
      agent = h.agent ∙ sym (ap (λ (d : Call). d.provider) call);
      running = h.running;
      caller = (λ i. is_caller (h.network i) (h.agent i) (Some (agent i))) ∙ h.caller;
      known = (λ i. agent_of (h.network i) (name_of (h.network i) (agent i))) ∙ (h.known ∙ ap Some (sym agent));
      good = h.good;
      gone = h.gone;
      clock = h.clock ∙ sym second;
      own_clock = ap (λ (s : AgentState). s.base.now) state ∙ (h.own_clock ∙ sym second);
      owners = owns_none (name_of b.network x.call.agent) b.state.records h.records;
      ids = subst (All (λ (z : Header). z.correlation < id_of x.call.agent x.requester.state.base.next)) (sym h.seen) (All-nil (λ (z : Header). z.correlation < id_of x.call.agent x.requester.state.base.next));
      kept = append-nil x.kept ∙ (none ∙ sym ((λ i. found b.network b.agent x.call.agent (second i) blank 0 b.events) ∙ h.nothing x.call.agent));
      others = λ o apart. (λ i. found b.network b.agent o (second i) blank 0 b.events) ∙ h.nothing o;
      owned = h.owned;
      begins = h.begins;
      works = omega (arith, nothing);
      only = waits_nowhere b.state.records None nothing;
      room = omega (arith, h.taken, h.few);
      own_room = omega (arith, h.few, begun_few t c.agent start, ap (λ (s : AgentState). s.base.taken) state);
      few = omega arith;
    }

-- it is to ask this
pub begins_asked : (t : Network) (first : List Item) (c : Call) (start : Option ℕ) (acts : List Act) (b : Book) (x : Asker) → x.call ≡ c → x.requester.state ≡ begun t c.agent start → x.kept ≡ [] → IsReadyFor t first c start (length (asks_by c.agent acts)) b
    → IsAlone t first (idle (length (asks_by x.call.agent acts))) b x
begins_asked t first c start acts b x call state none h =
    subst (λ (k : Call). IsAlone t first (idle (length (asks_by k.agent acts))) b x) (sym call) (begins_alone t first c start (length (asks_by c.agent acts)) b x call state none h)

---- Behind all asks

pub its_own : (t : Network) (first : List Item) (c : Call) (kept : List Item) (d : Book) (y : Asker) → y.call ≡ c → kept ≡ y.kept → IsAlone t first (idle 0) d y → IsItsOwn t first c kept d
its_own t first c kept d y call same h =
    let p : d.agent ≡ c.provider = h.agent ∙ ap (λ (k : Call). k.provider) call in
    let agent : y.call.agent ≡ c.agent = ap (λ (k : Call). k.agent) call in
    let second : y.call.second ≡ c.second = ap (λ (k : Call). k.second) call in
    record {
      kept_is = same ∙ (sym (append-nil y.kept) ∙ (h.kept ∙ (λ i. found (h.network i) (p i) (agent i) (second i) blank 0 d.events)));
      others = λ o apart. sym (λ i. found (h.network i) (p i) o (second i) blank 0 d.events) ∙ h.others o (ap (λ n. n == o) agent ∙ apart);
      owned = sym (λ i. strays (h.network i) (p i) blank 0 d.events) ∙ h.owned;
      begins = sym (λ i. ticks (h.network i) (p i) blank 0 d.events) ∙ h.begins;
      idle = ap waiting_work (sym (λ i. state_gone (h.network i) (p i) blank d.events) ∙ h.gone) ∙ none_found d.state (omega (arith, h.works));
    }

ends_own : (t : Network) (first : List Item) (c : Call) (kept : List Item) (asks : List Ask) (new : Option Book) (x y : Asker) (r : Result Bool AllocError) → x.call ≡ c → IfOk r (HasPlayed t asks x y) → IfOk r (EndsAlone t first (idle 0) new y)
    → HandsOver y r kept → EndsOwn t first c new kept
ends_own t first c kept asks new x y (Ok true) call played h same = record { now = h.now; told = h.told; is = λ _. its_own t first c kept h.now y (played.call ∙ call) same h.ends }
ends_own t first c kept asks new x y (Ok false) call played h same = record { now = h.now; told = h.told; is = λ running. absurd (omega (arith, running, h.ends)) }
ends_own t first c kept asks new x y (Err e) call played h same = absurd same

-- what is handed over is what the history has, where the book took no harm
pub ends_own_if : (t : Network) (first : List Item) (c : Call) (asks : List Ask) (new : Option Book) (x y : Asker) (r : Result Bool AllocError) (o : Result (List Item) AllocError) → x.call ≡ c → IfOk r (HasPlayed t asks x y)
    → IfOk r (EndsAlone t first (idle 0) new y) → IfOk o (HandsOver y r) → IfOk o (EndsOwn t first c new)
ends_own_if t first c asks new x y r (Ok kept) call played h hands = ends_own t first c kept asks new x y r call played h hands
ends_own_if t first c asks new x y r (Err e) call played h hands = tt
