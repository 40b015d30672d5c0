-- What an aggregator asks of its children for a query, and what it says when they have answered.
use Rattle.std.proofs.Common.{ℕ, Bool, true, false, List, [], ◌∷◌, Contains, Option, Some, None, inl, inr, sym, subst, slice_get}
use Rattle.std.specs.List.{list_any}
use Rattle.std.proofs.lemmas.List.Elements.{Contains-append_cases}
use Rattle.nsi_primitive.specs.Ids.{id_of}
use Rattle.nsi_primitive.specs.declared.message.Body.{Body}
use Rattle.nsi_primitive.specs.declared.message.Message.{Message}
use Rattle.record_index.proofs.Members.{nothing_in}
use Rattle.child_connection.specs.Asks.{to_child}
use Rattle.child_connection.specs.Views.{ChildConnection}
use Rattle.connection_record.specs.declared.record.Record.{Record}
use Rattle.agent_state.specs.declared.parent.OpenQuery.{OpenQuery}
use Rattle.agent_state.specs.declared.parent.Part.{Part}
use Rattle.aggregator_agent.specs.declared.agent.Agent.{Agent}
use Rattle.aggregator_agent.specs.Below.{is_asked, nested_reply, seek_of, seek_one, seek, part_of, Heard, told_at, closes_unless, tells_query, asked_place, tells_first, tells_if, hear_below}
use Rattle.circuit_link.proofs.Answering.{only_one}

---- Requests

-- what holds of each query that goes to a child holds of all that is asked
module _ (P : Message → Type 0) (agent : Agent) (each : (c id : ℕ) (x : ChildConnection) → P (to_child agent.name c x (Body.QueryRecursive id))) where
  one_asked : (o : Option ℕ) (next : ℕ) (x : ChildConnection) (m : Message) → Contains (seek_of o agent next x).asked m → P m
  one_asked None next x m i = absurd (nothing_in m i)
  one_asked (Some id) next x m i =
      subst P (sym (only_one (to_child agent.name (id_of agent.number next) x (Body.QueryRecursive id)) m i)) (each (id_of agent.number next) id x)

  pub all_asked_below : (next : ℕ) (xs : List ChildConnection) (m : Message) → Contains (seek agent next xs).asked m → P m
  unfolding seek
  all_asked_below next [] m i = absurd (nothing_in m i)
  all_asked_below next (x ∷ xs) m i = elim (Contains-append_cases (seek_one agent next x).asked (seek agent (seek_one agent next x).next xs).asked m i) [
    | inl j ↦ one_asked x.connection next x m j
    | inr j ↦ all_asked_below (seek_one agent next x).next xs m j
  ]

---- Answers

-- what holds of each answer to such a query holds of all that is said when a message is heard
module _ (P : Message → Type 0) (agent : List ℕ) (each : (own : Record) (q : OpenQuery) → P (nested_reply agent own q)) where
  closing : (waits : Bool) (own : Record) (q : OpenQuery) (qs : List OpenQuery) (m : Message) → Contains (closes_unless waits agent own q qs).out m → P m
  closing true own q qs m i = absurd (nothing_in m i)
  closing false own q qs m i = subst P (sym (only_one (nested_reply agent own q) m i)) (each own q)

  telling : (own : Option Record) (place : Option ℕ) (p : Part) (q : OpenQuery) (qs : List OpenQuery) (rest : Heard) (m : Message) → (Contains rest.out m → P m) → Contains (tells_query own place agent p q qs rest).out m → P m
  telling (Some own) (Some n) p q qs rest m h i = closing (list_any is_asked (told_at n p q).parts) own (told_at n p q) qs m i
  telling (Some own) None p q qs rest m h i = h i
  telling None place p q qs rest m h i = h i

  first_told : (records : List Record) (c : ℕ) (p : Part) (qs : List OpenQuery) (m : Message) → Contains (tells_first agent records c p qs).out m → P m
  unfolding tells_first
  first_told records c p [] m i = absurd (nothing_in m i)
  first_told records c p (q ∷ qs) m i =
      telling (slice_get records q.place) (asked_place c q) p q qs (tells_first agent records c p qs) m (λ j. first_told records c p qs m j) i

  told_if : (o : Option Part) (records : List Record) (c : ℕ) (qs : List OpenQuery) (m : Message) → Contains (tells_if o agent records c qs).out m → P m
  told_if None records c qs m i = absurd (nothing_in m i)
  told_if (Some p) records c qs m i = first_told records c p qs m i

  pub all_said_below : (records : List Record) (a : Message) (qs : List OpenQuery) (m : Message) → Contains (hear_below agent records a qs).out m → P m
  all_said_below records a qs m i = told_if (part_of a.body) records a.header.correlation qs m i
