-- Whether an agent may take an entry, by what is asked of the agents that are followed.
use Rattle.std.proofs.Common.{ℕ, ◌+◌, ◌<◌, ◌≡◌, ◌↔◌, ◌⊎◌, inl, inr, ◌∙◌, Bool, true, List, [], ◌∷◌, ◌++◌, length, Some, slice_get, sym, ap, subst, arith}
use Rattle.std.proofs.lemmas.Bool.{cases_order}
use Rattle.std.proofs.lemmas.List.{get_or_append_left, get_or_push}
use Rattle.nsi_primitive.specs.declared.entry.Entry.{Entry}
use Rattle.nsi_primitive.specs.declared.entry.Input.{Input}
use Rattle.nsi_primitive.specs.declared.state.Machine.{Machine}
use Rattle.stp_topology.specs.Network.{kind_of}
use Rattle.stp_topology.specs.declared.network.AgentKind.{AgentKind}
use Rattle.stp_topology.specs.declared.network.Network.{Network}
use Rattle.trace_reader.specs.Pasts.{seconds_of}
use Rattle.agent_state.specs.Entries.{most_entries}
use Rattle.nsi_agent.specs.Homes.{Routes, AreRoutes, home_in, role_in}
use Rattle.nsi_agent.specs.Told.{told}
use Rattle.followed_agent.specs.Kept.{AtSeen, seen}
use Rattle.followed_agent.specs.declared.agent.Followed.{Followed}
use Rattle.nsi_world.specs.Worlds.{Homes, World}
use Rattle.nsi_world.specs.Runs.{IsInTime, MayCome, is_provider, is_requester}
use Rattle.trace_verify.specs.Standing.{MayTake}
use Rattle.trace_verify.specs.Traces.{seconds_in}
use Rattle.trace_verify.proofs.Coming.{IsPlaced, at_home}

pub at_number : (xs : List Followed) (a place : ℕ) (f : Followed) → slice_get xs place ≡ Some f → place ≡ a → slice_get xs a ≡ Some f
at_number xs a place f stands same = subst (λ k. slice_get xs k ≡ Some f) same stands

---- The clock

-- the second that a followed agent tells is that of the agent in the world
pub clock_of : (t : Network) (routes : Routes) (w : World) (a : ℕ) (f : Followed) (now : ℕ) → AreRoutes t routes → IsPlaced t w a f → AtSeen (seen f) (λ h. now ≡ (told h f.journal.items).state.base.now)
    → now ≡ seconds_in (home_in t routes) w a
clock_of t routes w a f now are is tells =
    at_home t w a f (λ h. now ≡ (told h f.journal.items).state.base.now) is tells routes are ∙ ap (λ es. (told (home_in t routes a) es).state.base.now) is.journal

-- the seconds of the first agents, and of one more
pub second_more : (seconds : List ℕ) (n second : ℕ) (of : ℕ → ℕ) → length seconds ≡ n → ((a : ℕ) → a < n → seconds_of seconds a ≡ of a) → second ≡ of n → (a : ℕ) → a < n + 1 → seconds_of (seconds ++ second ∷ []) a ≡ of a
second_more seconds n second of many are is a lt = by (cases_order a n)
  where
    by : (a ≡ n) ⊎ ((a < n) ⊎ (n < a)) → seconds_of (seconds ++ second ∷ []) a ≡ of a
    by (inr (inl front)) = get_or_append_left seconds (second ∷ []) 0 a (omega (arith, front, many)) ∙ are a front
    by (inl last) = get_or_push seconds second 0 a (many ∙ sym last) ∙ (is ∙ ap of (sym last))
    by (inr (inr past)) = absurd (omega (arith, past, lt))

---- The kind of the agent

pub of_requester : (t : Network) (routes : Routes) (a : ℕ) (kind : AgentKind) (is : Bool) → kind_of t a ≡ Some kind → is ≡ is_requester (role_in (Some kind) t routes a)
    → (is ≡ true) ↔ (is_requester (home_in t routes a).role ≡ true)
unfolding home_in
of_requester t routes a kind is kind_is value =
    let same : is ≡ is_requester (home_in t routes a).role = value ∙ ap (λ k. is_requester (role_in k t routes a)) (sym kind_is) in
    (λ e. sym same ∙ e, λ e. same ∙ e)

pub of_provider : (t : Network) (routes : Routes) (a : ℕ) (kind : AgentKind) (is : Bool) → kind_of t a ≡ Some kind → is ≡ is_provider (role_in (Some kind) t routes a)
    → (is ≡ true) ↔ (is_provider (home_in t routes a).role ≡ true)
unfolding home_in
of_provider t routes a kind is kind_is value =
    let same : is ≡ is_provider (home_in t routes a).role = value ∙ ap (λ k. is_provider (role_in k t routes a)) (sym kind_is) in
    (λ e. sym same ∙ e, λ e. same ∙ e)

pub of_work_or_force : (homes : Homes) (w : World) (a : ℕ) (input : Input) (is : Bool) → ((n : ℕ) × (machine : Machine) × (input ≡ Input.Work n machine)) ⊎ ((n : ℕ) × (input ≡ Input.Force n))
    → (is ≡ true) ↔ (is_provider (homes a).role ≡ true) → (is ≡ true) ↔ MayCome homes w a input
of_work_or_force homes w a input is (inl (n, machine, e)) tells = subst (λ i. (is ≡ true) ↔ MayCome homes w a i) (sym e) tells
of_work_or_force homes w a input is (inr (n, e)) tells = subst (λ i. (is ≡ true) ↔ MayCome homes w a i) (sym e) tells

---- The whole entry

pub in_time_and_room : (homes : Homes) (w : World) (a now : ℕ) (e : Entry) (f : Followed) (is found : Bool) → f.journal.items ≡ w.journal a → length f.journal.items < most_entries → now ≡ seconds_in homes w a
    → (is ≡ true) ↔ IsInTime e.input e.second now → is ≡ true → (found ≡ true) ↔ MayCome homes w a e.input → (found ≡ true) ↔ MayTake homes w a e
in_time_and_room homes w a now e f is found journal room clock tells right comes = (
  λ t. record {
    room = omega (arith, room, ap length journal);
    in_time = subst (IsInTime e.input e.second) clock (tells.0 right);
    comes = comes.0 t;
  },
  λ may. comes.1 may.comes,
)
