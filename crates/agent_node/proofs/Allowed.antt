-- Which entries an agent takes.
use Rattle.std.proofs.Common.{ℕ, ◌<◌, ◌≤◌, ◌≡◌, Bool, true, false, ◌&&◌, Option, Some, None, refl, sym, ap, ◌∙◌, subst, eq-eqb, nat_lt}
use Rattle.std.proofs.lemmas.Bool.{lt-ltb, le-leb}
use Rattle.nsi_primitive.specs.declared.ask.Ask.{Ask}
use Rattle.nsi_primitive.specs.declared.message.Identity.{Identity}
use Rattle.nsi_primitive.specs.declared.entry.Entry.{Entry}
use Rattle.nsi_primitive.specs.declared.entry.Input.{Input}
use Rattle.nsi_primitive.specs.declared.message.Message.{Message}
use Rattle.stp_topology.specs.declared.network.AgentKind.{AgentKind}
use Rattle.stp_topology.specs.declared.network.Network.{Network}
use Rattle.stp_topology.specs.Network.{kind_of}
use Rattle.agent_state.specs.State.{AgentState, AgentStepped}
use Rattle.agent_state.specs.Entries.{most_entries, is_on_time}
use Rattle.requester_agent.specs.Setting.{IsRequester}
use Rattle.nsi_primitive.specs.declared.state.Machine.{Machine}
use Rattle.nsi_agent.specs.Homes.{Routes, home_in, role_in}
use Rattle.nsi_agent.specs.Laws.{OthersAreLeftOut}
use Rattle.nsi_agent.specs.Steps.{after, may_take, may_take_as}
use Rattle.agent_node.specs.Seated.{entry_at, is_for, is_tick}

all : (a b c : Bool) → a ≡ true → b ≡ true → c ≡ true → (a && (b && c)) ≡ true
all a b c p q r = cc

both : (a b : Bool) → a ≡ true → b ≡ true → (a && b) ≡ true
both a b p q = cc

pub allowed : (o : Option AgentKind) (s : AgentState) (second : ℕ) (input : Input) → s.base.taken < most_entries → is_for o input ≡ true → is_on_time input second s.base.now ≡ true → may_take o s (entry_at second input) ≡ true
allowed (Some (AgentKind.Provider hold)) s second input h f t = all _ _ _ (lt-ltb s.base.taken most_entries h) f t
allowed (Some (AgentKind.Requester provider)) s second input h f t = both _ _ (lt-ltb s.base.taken most_entries h) t
allowed (Some AgentKind.Aggregator) s second input h f t = all _ _ _ (lt-ltb s.base.taken most_entries h) f t
allowed None s second input h f t = all _ _ _ (lt-ltb s.base.taken most_entries h) f t

-- whether an entry may be taken, by its parts
pub may_by_parts : (o : Option AgentKind) (s : AgentState) (e : Entry) → may_take o s e ≡ (nat_lt s.base.taken most_entries && (is_for o e.input && is_on_time e.input e.second s.base.now))
may_by_parts (Some (AgentKind.Provider hold)) s e = refl
may_by_parts (Some (AgentKind.Requester provider)) s e = refl
may_by_parts (Some AgentKind.Aggregator) s e = refl
may_by_parts None s e = refl

may_as : (o : Option AgentKind) (t : Network) (routes : Routes) (a : ℕ) (s : AgentState) (e : Entry) → may_take_as (role_in o t routes a) s e ≡ may_take o s e
may_as (Some (AgentKind.Provider hold)) t routes a s e = refl
may_as (Some (AgentKind.Requester provider)) t routes a s e = refl
may_as (Some AgentKind.Aggregator) t routes a s e = refl
may_as None t routes a s e = refl

-- one that may not be taken changes nothing
pub left_out : OthersAreLeftOut → (t : Network) (routes : Routes) (a : ℕ) (s : AgentState) (e : Entry) → may_take (kind_of t a) s e ≡ false → (after (home_in t routes a) s e).state ≡ s
unfolding home_in
left_out law t routes a s e may = ap (λ (x : AgentStepped). x.state) (law (home_in t routes a) s e (may_as (kind_of t a) t routes a s e ∙ may))

-- the same by its kind
pub left_out_by : OthersAreLeftOut → (t u : Network) (routes : Routes) (a b : ℕ) (kind : AgentKind) (s : AgentState) (e : Entry) (may : Bool) → u ≡ t → b ≡ a → kind_of u b ≡ Some kind → may ≡ may_take (Some kind) s e
    → may ≡ false → (after (home_in t routes a) s e).state ≡ s
left_out_by law t u routes a b kind s e may p q k m out =
    let is : kind_of t a ≡ Some kind = sym (ap (λ v. kind_of v b) p ∙ ap (kind_of t) q) ∙ k in
    left_out law t routes a s e (ap (λ o. may_take o s e) is ∙ (sym m ∙ out))

-- all but a tick happens now
pub now_on_time : (input : Input) (now : ℕ) → is_tick input ≡ false → is_on_time input now now ≡ true
now_on_time (Input.Ask n ask) now e = eq-eqb now now refl
now_on_time (Input.Got m) now e = eq-eqb now now refl
now_on_time (Input.Work n machine) now e = eq-eqb now now refl
now_on_time Input.Tick now e = absurd (cc)
now_on_time (Input.Force n) now e = eq-eqb now now refl
now_on_time (Input.Acked i) now e = eq-eqb now now refl

pub tick_on_time : (second now : ℕ) → now ≤ second → is_on_time Input.Tick second now ≡ true
tick_on_time second now h = le-leb now second h

---- Which inputs each kind takes

pub work_for : (o : Option AgentKind) (n : ℕ) (machine : Machine) → is_for o (Input.Work n machine) ≡ true
work_for (Some (AgentKind.Provider hold)) n machine = refl
work_for (Some (AgentKind.Requester provider)) n machine = refl
work_for (Some AgentKind.Aggregator) n machine = refl
work_for None n machine = refl

pub force_for : (o : Option AgentKind) (n : ℕ) → is_for o (Input.Force n) ≡ true
force_for (Some (AgentKind.Provider hold)) n = refl
force_for (Some (AgentKind.Requester provider)) n = refl
force_for (Some AgentKind.Aggregator) n = refl
force_for None n = refl

pub tick_for : (o : Option AgentKind) → is_for o Input.Tick ≡ true
tick_for (Some (AgentKind.Provider hold)) = refl
tick_for (Some (AgentKind.Requester provider)) = refl
tick_for (Some AgentKind.Aggregator) = refl
tick_for None = refl

pub acked_for : (o : Option AgentKind) (i : Identity) → is_for o (Input.Acked i) ≡ true
acked_for (Some (AgentKind.Provider hold)) i = refl
acked_for (Some (AgentKind.Requester provider)) i = refl
acked_for (Some AgentKind.Aggregator) i = refl
acked_for None i = refl

pub ask_for : (t : Network) (a n : ℕ) (ask : Ask) → IsRequester t a → is_for (kind_of t a) (Input.Ask n ask) ≡ true
ask_for t a n ask r = subst (λ o. is_for o (Input.Ask n ask) ≡ true) (sym r.1) refl

pub got_for : (o : Option AgentKind) (m : Message) → is_for o (Input.Got m) ≡ true
got_for (Some (AgentKind.Provider hold)) m = refl
got_for (Some (AgentKind.Requester provider)) m = refl
got_for (Some AgentKind.Aggregator) m = refl
got_for None m = refl
