-- What each entry of an aggregator does, as its views of one child are concerned.
use Rattle.std.proofs.Common.{ℕ, zero, suc, ◌≡◌, ◌+◌, Bool, true, false, List, [], ◌∷◌, ◌++◌, length, get_or, map, Option, Some, None, ◌&&◌, refl, sym, ap, ◌∙◌, subst, arith, bytes_eq, is_none, true≢false}
use Rattle.std.proofs.lemmas.Slice.Eq.{bytes_eq-Decides}
use Rattle.nsi_primitive.specs.Ids.{id_of}
use Rattle.nsi_primitive.specs.Messages.{kind_of}
use Rattle.nsi_primitive.specs.declared.kind.Kind.{Kind}
use Rattle.nsi_primitive.specs.declared.message.Body.{Body}
use Rattle.nsi_primitive.specs.declared.message.Message.{Message}
use Rattle.record_index.proofs.Members.{nothing_in}
use Rattle.child_connection.specs.Views.{ChildConnection, new_view}
use Rattle.child_connection.specs.Asks.{to_child}
use Rattle.child_connection.specs.Hearing.{hear}
use Rattle.child_connection.specs.Holding.{is_reservation, IsAlike}
use Rattle.child_connection.proofs.Places.{hear_place, new_hears_nothing}
use Rattle.connection_record.specs.declared.record.Record.{Record}
use Rattle.connection_record.specs.Applied.{is_terminating}
use Rattle.connection_record.specs.Replies.{Moved, stays as rests_as, addressed}
use Rattle.connection_record.specs.Speaking.{tally, asks_for}
use Rattle.connection_record.proofs.Saying.{tally_append}
use Rattle.agent_state.specs.declared.parent.Due.{Due}
use Rattle.agent_state.specs.declared.parent.Leg.{Leg}
use Rattle.aggregator_agent.specs.declared.agent.Agent.{Agent}
use Rattle.aggregator_agent.specs.Asking.{Turn, ask_one, asked_view, each, pass_each, view_of, views_of, with_path}
use Rattle.aggregator_agent.specs.Clock.{Told, clocked, clock_then, clock_all}
use Rattle.aggregator_agent.specs.Settling.{settle}
use Rattle.aggregator_agent.specs.Steps.{pass_then, hear_all}
use Rattle.aggregator_agent.specs.Turns.{tell_joined, pass_on, takes, turn_by_request, request_turn, late_terminate, hear_each, hold_ends, force_ends, heard_by, turn_by_answer, answer_turn, spoken}
use Rattle.circuit_link.proofs.Aggregators.{From, answer_from, clocked_course}
use Rattle.circuit_link.proofs.Answering.{only_one}
use Rattle.circuit_pairs.specs.Minding.{ReservesNothing, no_child, mine, slot}
use Rattle.circuit_pairs.proofs.Minding.{alike_self, asks_rests}
use Rattle.circuit_pairs.proofs.Parenting.{mine_own, mine_other, request_may}
use Rattle.circuit_pairs.proofs.Plain.{none_reserves, both_reserve, course_asks, addressed_reserves, split_asks}

---- What is said besides requests

-- what a turn says but its requests to children asks for nothing
pub turn_asks : (y : Moved) (t : Turn) → From y t → tally asks_for y.out ≡ 0 → (tally asks_for t.replies ≡ 0) × (tally asks_for t.notices ≡ 0)
turn_asks y t f e =
    let w = split_asks f.rest t.notices (course_asks y.rec t.own (f.rest ++ t.notices) f.course) in
    (ap (tally asks_for) f.replies ∙ omega (arith, tally_append asks_for y.out f.rest, e, w.0), w.1)

nothing_tallied : tally asks_for [] ≡ 0
unfolding tally
nothing_tallied = refl

pub clock_reserves : (child : List ℕ) (agent : Agent) (now number : ℕ) (ds : List Due) (waiting : List Message) (next : ℕ) (rs : List Record) → ReservesNothing child (clock_all agent now number ds waiting next rs).out
unfolding clock_all clock_then
clock_reserves child agent now number ds waiting next [] = none_reserves child
clock_reserves child agent now number ds waiting next (r ∷ rs) =
    let t : Told = clocked agent now number ds waiting r next in
    both_reserve child (addressed agent.name t.own.owner t.out) (clock_all agent now (number + 1) ds waiting t.next rs).out
    (addressed_reserves child agent.name t.own.owner t.out (course_asks r t.own t.out (clocked_course agent now number ds waiting r next))) (clock_reserves child agent now (number + 1) ds waiting t.next rs)

---- What the views hear

late_terminates : (b : Bool) (m : Message) (x : ChildConnection) (body : Body) → late_terminate b m x ≡ Some body → kind_of body ≡ Kind.Terminate
late_terminates b m x body e = (request_may (b && is_none x.connection) Kind.Terminate (hear m x).view body refl e).kind

terminate_reserves : (child : List ℕ) (agent : Agent) (o : Option Body) (next : ℕ) (x : ChildConnection) → ((b : Body) → o ≡ Some b → kind_of b ≡ Kind.Terminate) → ReservesNothing child (ask_one o Kind.Terminate agent next x).asked
unfolding is_reservation
terminate_reserves child agent None next x h m i r p = nothing_in m i
terminate_reserves child agent (Some b) next x h m i r p =
    true≢false (sym r ∙ ap (λ (z : Message). is_reservation (kind_of z.body)) (only_one (to_child agent.name (id_of agent.number next) x b) m i) ∙ ap is_reservation (h b refl))

hear_reserves : (child : List ℕ) (ending : Bool) (m : Message) (agent : Agent) (next : ℕ) (cs : List ChildConnection) → ReservesNothing child (hear_each ending m agent next cs).asked
unfolding each
hear_reserves child ending m agent next [] = none_reserves child
hear_reserves child ending m agent next (x ∷ cs) =
    let o : Option Body = late_terminate ending m x in
    both_reserve child (ask_one o Kind.Terminate agent next (hear m x).view).asked (hear_each ending m agent (ask_one o Kind.Terminate agent next (hear m x).view).next cs).asked
    (terminate_reserves child agent o next (hear m x).view (late_terminates ending m x)) (hear_reserves child ending m agent (ask_one o Kind.Terminate agent next (hear m x).view).next cs)

alike_back : (x y : ChildConnection) → IsAlike x y → IsAlike y x
alike_back x y a =
    record {
      reservation =
          record {
            request = sym a.reservation.request;
            phase = sym a.reservation.phase;
            before = sym a.reservation.before;
            attempt = sym a.reservation.attempt;
            pending = sym a.reservation.pending;
            committed = sym a.reservation.committed;
          };
      connection = sym a.connection;
      child = sym a.child;
    }

deaf_child : (child : List ℕ) (m : Message) → IsAlike (hear m (no_child child)).view (no_child child)
deaf_child child m = alike_back (no_child child) (hear m (no_child child)).view (new_hears_nothing m child [] [])

pub no_mine : (child : List ℕ) → mine child (no_child child) ≡ no_child child
no_mine child = mine_own child (no_child child) ((bytes_eq-Decides child child).1 refl)

heard_mine : (child : List ℕ) (m : Message) (x y : ChildConnection) → IsAlike (hear m x).view y → IsAlike (hear m (mine child x)).view (mine child y)
heard_mine child m x y a = by_name (bytes_eq child x.child) refl
  where
    same_child : y.child ≡ x.child
    same_child = a.child ∙ (hear_place m x).child

    by_name : (b : Bool) → bytes_eq child x.child ≡ b → IsAlike (hear m (mine child x)).view (mine child y)
    by_name true e =
        subst (λ z. IsAlike (hear m z).view (mine child y)) (sym (mine_own child x e)) (subst (λ z. IsAlike (hear m x).view z) (sym (mine_own child y (ap (bytes_eq child) same_child ∙ e))) a)
    by_name false e =
        subst (λ z. IsAlike (hear m z).view (mine child y)) (sym (mine_other child x e))
        (subst (λ z. IsAlike (hear m (no_child child)).view z) (sym (mine_other child y (ap (bytes_eq child) same_child ∙ e))) (deaf_child child m))

terminated_alike : (o : Option Body) (agent : Agent) (next : ℕ) (x : ChildConnection) → IsAlike x (ask_one o Kind.Terminate agent next x).child
unfolding asked_view is_reservation
terminated_alike None agent next x = alike_self x
terminated_alike (Some b) agent next x = asks_rests Kind.Terminate (id_of agent.number next) x refl

hear_slot : (child : List ℕ) (ending : Bool) (m : Message) (agent : Agent) (next : ℕ) (cs : List ChildConnection) (i : ℕ) →
    IsAlike (hear m (mine child (get_or cs i (no_child child)))).view (mine child (get_or (hear_each ending m agent next cs).children i (no_child child)))
unfolding each
hear_slot child ending m agent next [] i = heard_mine child m (no_child child) (no_child child) (deaf_child child m)
hear_slot child ending m agent next (x ∷ cs) zero =
    heard_mine child m x (ask_one (late_terminate ending m x) Kind.Terminate agent next (hear m x).view).child (terminated_alike (late_terminate ending m x) agent next (hear m x).view)
hear_slot child ending m agent next (x ∷ cs) (suc j) = hear_slot child ending m agent (ask_one (late_terminate ending m x) Kind.Terminate agent next (hear m x).view).next cs j

-- a turn by a child's message: its views and its requests
answer_children : (agent : Agent) (now : ℕ) (m : Message) (own : Record) (cs : List ChildConnection) (next : ℕ) →
    ((answer_turn agent now m own cs next).children ≡ (hear_each (is_terminating own.lsm) m agent next cs).children) × ((answer_turn agent now m own cs next).asked ≡ (hear_each (is_terminating own.lsm) m agent next cs).asked)
unfolding answer_turn turn_by_answer tell_joined settle force_ends hold_ends heard_by
answer_children agent now m own cs next = (refl, refl)

pub request_children : (agent : Agent) (now : ℕ) (m : Message) (own : Record) (cs : List ChildConnection) (next : ℕ) →
    ((request_turn agent now m own cs next).children ≡ (pass_each m agent (takes m now own).rec next cs).children) × ((request_turn agent now m own cs next).asked ≡ (pass_each m agent (takes m now own).rec next cs).asked)
unfolding request_turn turn_by_request tell_joined settle pass_on
request_children agent now m own cs next = (refl, refl)

-- every view hears
pub all_hear : (child : List ℕ) (agent : Agent) (now k : ℕ) (m : Message) (next : ℕ) (rs : List Record) (css : List (List ChildConnection)) → length css ≡ length rs → (n i : ℕ) →
    IsAlike (hear m (slot child css (n, i))).view (slot child (hear_all agent now k m next rs css).children (n, i))
unfolding hear_all pass_then
all_hear child agent now k m next [] [] e n i = heard_mine child m (no_child child) (no_child child) (deaf_child child m)
all_hear child agent now k m next [] (cs ∷ css) e n i = absurd (omega (arith, e))
all_hear child agent now k m next (r ∷ rs) [] e n i = absurd (omega (arith, e))
all_hear child agent now k m next (r ∷ rs) (cs ∷ css) e zero i =
    subst (λ z. IsAlike (hear m (mine child (get_or cs i (no_child child)))).view (mine child (get_or z i (no_child child)))) (sym (answer_children agent now m r cs next).0) (hear_slot child (is_terminating r.lsm) m agent next cs i)
all_hear child agent now k m next (r ∷ rs) (cs ∷ css) e (suc n) i = all_hear child agent now (k + 1) m (answer_turn agent now m r cs next).next rs css (omega (arith, e)) n i

spoken_reserves : (agent : Agent) (child : List ℕ) (t : Turn) → ReservesNothing child (addressed agent.name t.own.owner t.replies) → ReservesNothing child t.asked → ReservesNothing child (addressed agent.name t.own.owner t.notices) → ReservesNothing child (spoken agent t)
unfolding spoken
spoken_reserves agent child t a b c =
    both_reserve child (addressed agent.name t.own.owner t.replies) (t.asked ++ addressed agent.name t.own.owner t.notices) a (both_reserve child t.asked (addressed agent.name t.own.owner t.notices) b c)

pub hear_all_reserves : (child : List ℕ) (agent : Agent) (now k : ℕ) (m : Message) (next : ℕ) (rs : List Record) (css : List (List ChildConnection)) → ReservesNothing child (hear_all agent now k m next rs css).out
unfolding hear_all pass_then
hear_all_reserves child agent now k m next [] css = none_reserves child
hear_all_reserves child agent now k m next (r ∷ rs) [] = none_reserves child
hear_all_reserves child agent now k m next (r ∷ rs) (cs ∷ css) =
    let t : Turn = answer_turn agent now m r cs next in
    let w = turn_asks (rests_as r) t (answer_from agent now m r cs next) nothing_tallied in
    both_reserve child (spoken agent t) (hear_all agent now (k + 1) m t.next rs css).out
    (spoken_reserves agent child t (addressed_reserves child agent.name t.own.owner t.replies w.0) (subst (λ z. ReservesNothing child z) (sym (answer_children agent now m r cs next).1) (hear_reserves child (is_terminating r.lsm) m agent next cs)) (addressed_reserves child agent.name t.own.owner t.notices w.1))
    (hear_all_reserves child agent now (k + 1) m t.next rs css)

---- A path's new views

new_like : (child : List ℕ) (x : Leg) → bytes_eq child x.child ≡ true → IsAlike (no_child child) (new_view x.child x.source x.dest)
new_like child x e =
    record { reservation = record { request = refl; phase = refl; before = refl; attempt = refl; pending = refl; committed = refl }; connection = refl; child = sym ((bytes_eq-Decides child x.child).0 e) }

legs_slot : (child : List ℕ) (ls : List Leg) (i : ℕ) → IsAlike (no_child child) (mine child (get_or (map view_of ls) i (no_child child)))
legs_slot child [] i = subst (λ z. IsAlike (no_child child) z) (sym (no_mine child)) (alike_self (no_child child))
legs_slot child (x ∷ ls) zero = by_name (bytes_eq child x.child) refl
  where
    by_name : (b : Bool) → bytes_eq child x.child ≡ b → IsAlike (no_child child) (mine child (new_view x.child x.source x.dest))
    by_name true e = subst (λ z. IsAlike (no_child child) z) (sym (mine_own child (new_view x.child x.source x.dest) e)) (new_like child x e)
    by_name false e = subst (λ z. IsAlike (no_child child) z) (sym (mine_other child (new_view x.child x.source x.dest) e)) (alike_self (no_child child))
legs_slot child (x ∷ ls) (suc i) = legs_slot child ls i

pub path_slot : (child : List ℕ) (body : Body) (cs : List ChildConnection) (ls : List Leg) (i : ℕ) → IsAlike (mine child (get_or cs i (no_child child))) (mine child (get_or (with_path body cs ls) i (no_child child)))
unfolding with_path views_of
path_slot child (Body.Reserve q) [] ls i = subst (λ z. IsAlike z (mine child (get_or (map view_of ls) i (no_child child)))) (sym (no_mine child)) (legs_slot child ls i)
path_slot child (Body.Reserve q) (x ∷ cs) ls i = alike_self (mine child (get_or (x ∷ cs) i (no_child child)))
path_slot child _ cs ls i = alike_self (mine child (get_or cs i (no_child child)))
