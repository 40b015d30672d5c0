-- What an aggregator asks below a connection goes to its children, and what it answers then goes under the header of a query that
-- came.
use Rattle.std.proofs.Common.{◌≡◌, ◌∷◌, ℕ, Bool, true, false, List, [], slice_get, Option, Some, None, refl}
use Rattle.std.specs.List.{All, list_any}
use Rattle.std.proofs.lemmas.List.Elements.{All-nil, All-cons, All-append, All-head, All-tail}
use Rattle.nsi_primitive.specs.Ids.{id_of}
use Rattle.nsi_primitive.specs.Messages.{is_request}
use Rattle.nsi_primitive.specs.declared.message.Body.{Body}
use Rattle.nsi_primitive.specs.declared.message.Message.{Message}
use Rattle.connection_record.specs.declared.record.Record.{Record}
use Rattle.child_connection.specs.Views.{ChildConnection}
use Rattle.child_connection.specs.Asks.{to_child}
use Rattle.agent_state.specs.declared.parent.OpenQuery.{OpenQuery}
use Rattle.agent_state.specs.declared.parent.Part.{Part}
use Rattle.aggregator_agent.specs.declared.agent.Agent.{Agent}
use Rattle.aggregator_agent.specs.Below.{is_asked, nested_reply, seek_of, seek_one, seek, part_of, Heard, told_at, closes_unless, tells_query, asked_place, tells_first, tells_if, hear_below}
use Rattle.nsi_agent.proofs.ProviderSays.{IsAnswer}

---- What is asked

-- a view of a child that is asked
abbrev pub IsChild : (List ℕ → Type 0) → ChildConnection → Type 0
IsChild to x = to x.child

-- a request in a name, to a child
abbrev pub IsRequestTo : List ℕ → (List ℕ → Type 0) → Message → Type 0
IsRequestTo name to m = (is_request m.body ≡ true) × (m.header.requester ≡ name) × to m.header.provider

of_asked : (o : Option ℕ) (to : List ℕ → Type 0) (agent : Agent) (next : ℕ) (x : ChildConnection) → to x.child → All (IsRequestTo agent.name to) (seek_of o agent next x).asked
of_asked None to agent next x c = All-nil (IsRequestTo agent.name to)
of_asked (Some id) to agent next x c =
    All-cons (IsRequestTo agent.name to) (to_child agent.name (id_of agent.number next) x (Body.QueryRecursive id)) [] (refl, refl, c) (All-nil (IsRequestTo agent.name to))

pub sought_asked : (to : List ℕ → Type 0) (agent : Agent) (next : ℕ) (xs : List ChildConnection) → All (IsChild to) xs → All (IsRequestTo agent.name to) (seek agent next xs).asked
unfolding seek
sought_asked to agent next [] all = All-nil (IsRequestTo agent.name to)
sought_asked to agent next (x ∷ xs) all =
    let one = seek_one agent next x in
    All-append (IsRequestTo agent.name to) one.asked (seek agent one.next xs).asked (of_asked x.connection to agent next x (All-head (IsChild to) x xs all))
    (sought_asked to agent one.next xs (All-tail (IsChild to) x xs all))

---- What is heard

-- a query that waits has the header of a request that came
abbrev pub IsOpen : List ℕ → (List ℕ → Type 0) → OpenQuery → Type 0
IsOpen name owed q = (q.header.provider ≡ name) × owed q.header.requester

pub record IsHeard (name : List ℕ) (owed : List ℕ → Type 0) (h : Heard) : Type 0 where
  pub queries : All (IsOpen name owed) h.queries
  pub says : All (IsAnswer name owed) h.out

module _ (name : List ℕ) (owed : List ℕ → Type 0) where
  nothing_heard : (qs : List OpenQuery) → All (IsOpen name owed) qs → IsHeard name owed (record { queries = qs; out = [] })
  nothing_heard qs all = record { queries = all; says = All-nil (IsAnswer name owed) }

  closed_heard : (waits : Bool) (own : Record) (q : OpenQuery) (qs : List OpenQuery) → IsOpen name owed q → All (IsOpen name owed) qs → IsHeard name owed (closes_unless waits name own q qs)
  closed_heard true own q qs p all = nothing_heard (q ∷ qs) (All-cons (IsOpen name owed) q qs p all)
  closed_heard false own q qs p all =
      record { queries = all; says = All-cons (IsAnswer name owed) (nested_reply name own q) [] (refl, p) (All-nil (IsAnswer name owed)) }

  told_heard : (own : Option Record) (n : Option ℕ) (p : Part) (q : OpenQuery) (qs : List OpenQuery) (rest : Heard) → IsOpen name owed q → All (IsOpen name owed) qs → IsHeard name owed rest
      → IsHeard name owed (tells_query own n name p q qs rest)
  told_heard (Some own) (Some n) p q qs rest one all h = closed_heard (list_any is_asked (told_at n p q).parts) own (told_at n p q) qs one all
  told_heard (Some own) None p q qs rest one all h = record { queries = All-cons (IsOpen name owed) q rest.queries one h.queries; says = h.says }
  told_heard None n p q qs rest one all h = record { queries = All-cons (IsOpen name owed) q rest.queries one h.queries; says = h.says }

  first_heard : (records : List Record) (c : ℕ) (p : Part) (qs : List OpenQuery) → All (IsOpen name owed) qs → IsHeard name owed (tells_first name records c p qs)
  unfolding tells_first
  first_heard records c p [] all = nothing_heard [] all
  first_heard records c p (q ∷ qs) all =
      let others = All-tail (IsOpen name owed) q qs all in
      told_heard (slice_get records q.place) (asked_place c q) p q qs (tells_first name records c p qs) (All-head (IsOpen name owed) q qs all) others (first_heard records c p qs others)

  if_heard : (o : Option Part) (records : List Record) (c : ℕ) (qs : List OpenQuery) → All (IsOpen name owed) qs → IsHeard name owed (tells_if o name records c qs)
  if_heard None records c qs all = nothing_heard qs all
  if_heard (Some p) records c qs all = first_heard records c p qs all

  pub below_heard : (records : List Record) (m : Message) (qs : List OpenQuery) → All (IsOpen name owed) qs → IsHeard name owed (hear_below name records m qs)
  below_heard records m qs all = if_heard (part_of m.body) records m.header.correlation qs all
