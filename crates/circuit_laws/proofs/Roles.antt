-- What agents of each kind do, as their parents and their children see it.
use Rattle.std.proofs.Common.{ℕ, ◌≡◌, Bool, true, false, not, List, [], ◌∷◌, ◌++◌, ◌&&◌, if◌then◌else◌, Contains, sym, ap, subst, inl, inr}
use Rattle.record_index.proofs.Members.{nothing_in, contains_first}
use Rattle.nsi_primitive.specs.Messages.{has_rows}
use Rattle.nsi_primitive.specs.declared.entry.Entry.{Entry}
use Rattle.nsi_primitive.specs.declared.entry.Input.{Input}
use Rattle.nsi_primitive.specs.declared.message.Body.{Body}
use Rattle.nsi_primitive.specs.declared.message.Header.{Header}
use Rattle.nsi_primitive.specs.declared.message.Message.{Message}
use Rattle.message_retry.specs.Taken.{is_same_request}
use Rattle.connection_record.specs.Speaking.{is_answering}
use Rattle.agent_state.specs.State.{AgentState}
use Rattle.child_connection.specs.Views.{ChildConnection}
use Rattle.requester_agent.specs.Setting.{Setting as RequesterSetting}
use Rattle.aggregator_agent.specs.Setting.{Setting as AggregatorSetting}
use Rattle.nsi_agent.specs.Homes.{Role, provides, aggregates, requests, Home}
use Rattle.nsi_agent.specs.Steps.{after, after_as}
use Rattle.nsi_agent.specs.Told.{goes_on}
use Rattle.nsi_agent.specs.Said.{name_in, drawer_of}
use Rattle.nsi_world.specs.Runs.{is_requester}
use Rattle.agent_speech.specs.Laws.{IsEven}
use Rattle.agent_speech.proofs.Every.{entries_keep_even}
use Rattle.circuit_link.specs.Children.{Child, is_for_views, about, MayReach, IsFair}
use Rattle.circuit_link.specs.Headers.{header_of}
use Rattle.circuit_link.specs.Serving.{child_of, Serves}
use Rattle.circuit_link.proofs.Answering.{first_there, later_there}
use Rattle.circuit_link.proofs.Providers.{provider_serves}
use Rattle.circuit_link.proofs.Aggregators.{aggregator_serves}
use Rattle.circuit_pairs.specs.Pairs.{IsPair, IsOnce, IsFresh}
use Rattle.circuit_pairs.specs.Minding.{view_in, slot}
use Rattle.circuit_pairs.proofs.Requesters.{requester_pair}
use Rattle.circuit_pairs.proofs.Aggregators.{aggregator_pair}

---- Who is asked

pub serves_as : (role : Role) → is_requester role ≡ false → (s : AgentState) (e : Entry) (said : List Message) →
    Serves (name_in role) e.input (child_of s.base said) (after_as role s e).state.base.records (after_as role s e).state.base.seen (after_as role s e).out
unfolding after_as
serves_as (provides setting stp_of) h s e said = provider_serves setting stp_of e said s.base
serves_as (aggregates setting) h s e said = aggregator_serves setting e said s
serves_as (requests setting) h s e said = absurd (cc)

---- Who asks

-- an entry of an agent that asks keeps its views of a child a pair with it
abbrev pub Keeps : (I : Type 0) → Role → List ℕ → (AgentState → I → ChildConnection) → Type 0
Keeps I role child views =
    (d : Child) (asked : List Message) (s : AgentState) (e : Entry) → IsEven role s → IsFair (name_in role) child d → IsOnce (name_in role) asked →
    IsFresh (name_in role) child (drawer_of role) d s.base.next asked →
    ((m : Message) → e.input ≡ Input.Got m → is_answering m.body ≡ true → m.header.provider ≡ child → MayReach (header_of (name_in role) child m.header.correlation) d.said m.body) →
    IsPair I (name_in role) child (views s) asked d → IsPair I (name_in role) child (views (after_as role s e).state) (asked ++ (after_as role s e).out) d

abbrev pub views_to : List ℕ → AgentState → ℕ → ChildConnection
views_to child s = view_in child s.views

abbrev pub views_of : List ℕ → AgentState → ℕ × ℕ → ChildConnection
views_of child s = slot child s.children

requester_keeps : (setting : RequesterSetting) → Keeps ℕ (requests setting) setting.provider (views_to setting.provider)
unfolding after_as
requester_keeps setting d asked s e even fair once fresh said pair = requester_pair setting d asked s e fair once fresh said pair

pub requests_keep : (role : Role) (setting : RequesterSetting) (child : List ℕ) → role ≡ requests setting → setting.provider ≡ child → Keeps ℕ role child (views_to child)
requests_keep role setting child e p = subst (λ (r : Role). Keeps ℕ r child (views_to child)) (sym e) (subst (λ (n : List ℕ). Keeps ℕ (requests setting) n (views_to n)) p (requester_keeps setting))

aggregator_keeps : (setting : AggregatorSetting) (child : List ℕ) → Keeps (ℕ × ℕ) (aggregates setting) child (views_of child)
unfolding after_as
aggregator_keeps setting child d asked s e even fair once fresh said pair = aggregator_pair setting child d fair asked s e even fresh once said pair

pub aggregates_keep : (role : Role) (setting : AggregatorSetting) (child : List ℕ) → role ≡ aggregates setting → Keeps (ℕ × ℕ) role child (views_of child)
aggregates_keep role setting child e = subst (λ (r : Role). Keeps (ℕ × ℕ) r child (views_of child)) (sym e) (aggregator_keeps setting child)

-- records and views stand side by side
pub even_from : (h : Home) (es : List Entry) (s : AgentState) → IsEven h.role s → IsEven h.role (goes_on h s es).state
unfolding goes_on
even_from h [] s v = v
even_from h (e ∷ es) s v = even_from h es (after h s e).state (entries_keep_even h s e v)

---- What was said under a header

pub about_in : (h : Header) (m : Message) (out : List Message) → Contains out m → is_answering m.body ≡ true → has_rows m.body ≡ false → is_same_request h m.header ≡ true → Contains (about h out) m.body
unfolding about
about_in h m [] c a w r = absurd (nothing_in m c)
about_in h m (n ∷ ns) c a w r = elim (contains_first n m ns c) [
  | inl e ↦
      first (is_answering n.body) (has_rows n.body) (is_same_request h n.header) (subst (λ (z : Message). is_answering z.body ≡ true) e a) (subst (λ (z : Message). has_rows z.body ≡ false) e w)
      (subst (λ (z : Message). is_same_request h z.header ≡ true) e r) e
  | inr k ↦ later (is_for_views n.body && is_same_request h n.header) (about_in h m ns k a w r)
]
  where
    first : (x y z : Bool) → x ≡ true → y ≡ false → z ≡ true → m ≡ n → Contains (if (x && not y) && z then n.body ∷ about h ns else about h ns) m.body
    first true false true p q r e = subst (λ (b : Body). Contains (n.body ∷ about h ns) b) (sym (ap (λ (z : Message). z.body) e)) (first_there n.body (about h ns))
    first true false false p q r e = absurd (cc)
    first true true z p q r e = absurd (cc)
    first false y z p q r e = absurd (cc)

    later : (x : Bool) → Contains (about h ns) m.body → Contains (if x then n.body ∷ about h ns else about h ns) m.body
    later true j = later_there n.body m.body (about h ns) j
    later false j = j
