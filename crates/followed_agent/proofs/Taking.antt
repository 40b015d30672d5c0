-- Which entries an agent takes.
use Rattle.std.proofs.Common.{ℕ, zero, suc, ◌+◌, ◌<◌, ◌≡◌, ◌∙◌, ◌&&◌, Bool, true, false, not, List, [], ◌∷◌, ◌++◌, length, drop, get_or, append_assoc, Option, Some, None, refl, sym, ap, subst, arith, nat_lt}
use Rattle.std.proofs.lemmas.List.{append-nil}
use Rattle.nsi_primitive.specs.Printable.{is_ask}
use Rattle.nsi_primitive.specs.declared.entry.Entry.{Entry}
use Rattle.nsi_primitive.specs.declared.entry.Input.{Input}
use Rattle.nsi_primitive.specs.declared.message.Message.{Message}
use Rattle.stp_topology.specs.Network.{kind_of}
use Rattle.stp_topology.specs.declared.network.AgentKind.{AgentKind}
use Rattle.stp_topology.specs.declared.network.Network.{Network}
use Rattle.agent_state.specs.Entries.{is_on_time, most_entries}
use Rattle.agent_state.specs.State.{AgentState, stays}
use Rattle.provider_agent.specs.Steps.{is_for_provider}
use Rattle.aggregator_agent.specs.Steps.{is_for_aggregator}
use Rattle.nsi_agent.specs.Homes.{Home, Routes, home_in, role_in}
use Rattle.nsi_agent.specs.Laws.{OthersAreLeftOut}
use Rattle.nsi_agent.specs.Steps.{after, may_take, may_take_as}
use Rattle.nsi_agent.specs.Told.{Told, behind, goes_on}
use Rattle.followed_agent.specs.Kept.{At, telling}

abbrev pub is_served : AgentKind → Input → Bool
is_served (AgentKind.Requester provider) input = true
is_served _ input = not (is_ask input)

served_as : (input : Input) → (is_for_provider input ≡ not (is_ask input)) × (is_for_aggregator input ≡ not (is_ask input))
served_as (Input.Ask n a) = (refl, refl)
served_as (Input.Got m) = (refl, refl)
served_as (Input.Work n machine) = (refl, refl)
served_as Input.Tick = (refl, refl)
served_as (Input.Force n) = (refl, refl)
served_as (Input.Acked i) = (refl, refl)

pub may_by_parts : (kind : AgentKind) (s : AgentState) (e : Entry) → may_take (Some kind) s e ≡ (nat_lt s.base.taken most_entries && (is_served kind e.input && is_on_time e.input e.second s.base.now))
may_by_parts (AgentKind.Requester provider) s e = refl
may_by_parts (AgentKind.Provider hold) s e = ap (λ b. nat_lt s.base.taken most_entries && (b && is_on_time e.input e.second s.base.now)) (served_as e.input).0
may_by_parts AgentKind.Aggregator s e = ap (λ b. nat_lt s.base.taken most_entries && (b && is_on_time e.input e.second s.base.now)) (served_as e.input).1

---- An entry that isn't taken

may_as : (o : Option AgentKind) (t : Network) (routes : Routes) (a : ℕ) (s : AgentState) (e : Entry) → may_take_as (role_in o t routes a) s e ≡ may_take o s e
may_as (Some (AgentKind.Provider hold)) t routes a s e = refl
may_as (Some (AgentKind.Requester provider)) t routes a s e = refl
may_as (Some AgentKind.Aggregator) t routes a s e = refl
may_as None t routes a s e = refl

left_out : OthersAreLeftOut → (t : Network) (routes : Routes) (a : ℕ) (s : AgentState) (e : Entry) → may_take (kind_of t a) s e ≡ false → after (home_in t routes a) s e ≡ stays s
unfolding home_in
left_out law t routes a s e may = law (home_in t routes a) s e (may_as (kind_of t a) t routes a s e ∙ may)

-- the same by its kind
pub left_out_by : OthersAreLeftOut → (t u : Network) (routes : Routes) (a b : ℕ) (kind : AgentKind) (s : AgentState) (e : Entry) (may : Bool) → u ≡ t → b ≡ a → kind_of u b ≡ Some kind → may ≡ may_take (Some kind) s e
    → may ≡ false → after (home_in t routes a) s e ≡ stays s
left_out_by law t u routes a b kind s e may p q k m out =
    let is : kind_of t a ≡ Some kind = sym (ap (λ v. kind_of v b) p ∙ ap (kind_of t) q) ∙ k in
    left_out law t routes a s e (ap (λ o. may_take o s e) is ∙ (sym m ∙ out))

---- Entries, one after another

pub item_left : (xs : List Entry) (i : ℕ) (e : Entry) → i < length xs → e ≡ get_or xs i e → drop i xs ≡ e ∷ drop (i + 1) xs
item_left [] i e lt is = absurd (omega (arith, lt))
item_left (x ∷ xs) zero e lt is = ap (λ (y : Entry). y ∷ xs) (sym is)
item_left (x ∷ xs) (suc i) e lt is =
    let next : suc i + 1 ≡ suc (i + 1) = omega arith in
    item_left xs i e (omega (arith, lt)) is ∙ ap (λ k. e ∷ drop k (x ∷ xs)) (sym next)

one_step : (h : Home) (s : AgentState) (e : Entry) (es : List Entry) → goes_on h s (e ∷ es) ≡ behind (after h s e).out (goes_on h (after h s e).state es)
unfolding goes_on
one_step h s e es = refl

-- one more
pub take_more : (h : Home) (s u : AgentState) (e : Entry) (before new : List Message) (es rest : List Entry) (whole : Told) → u ≡ (after h s e).state → new ≡ before ++ (after h s e).out → es ≡ e ∷ rest
    → behind before (goes_on h s es) ≡ whole → behind new (goes_on h u rest) ≡ whole
take_more h s u e before new es rest whole state said cut all =
    let x = after h s e in
    let next = goes_on h x.state rest in
    ap (λ v. behind new (goes_on h v rest)) state
    ∙ (ap (λ ms. telling next.state (ms ++ next.out)) said
    ∙ (ap (telling next.state) (append_assoc before x.out next.out)
    ∙ (sym (ap (behind before) (ap (goes_on h s) cut ∙ one_step h s e rest)) ∙ all)))

-- none is left
pub none_left : (h : Home) (s : AgentState) (out : List Message) (es : List Entry) (whole : Told) → es ≡ [] → behind out (goes_on h s es) ≡ whole → telling s out ≡ whole
unfolding goes_on
none_left h s out es whole e all = ap (telling s) (sym (append-nil out)) ∙ (sym (ap (λ xs. behind out (goes_on h s xs)) e) ∙ all)

-- the same agent of the same topology
pub moved : (t u : Network) (a b : ℕ) (P : Home → Type 0) → u ≡ t → b ≡ a → At u b P → At t a P
moved t u a b P p q x = subst (λ v. At v a P) p (subst (λ n. At u n P) q x)
