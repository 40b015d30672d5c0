-- The definition's ways through all connections are rounds.
use Rattle.std.proofs.Common.{ℕ, ◌+◌, ◌≡◌, ◌∙◌, Bool, true, false, ◌==◌, List, [], ◌∷◌, filter, refl, sym, ap}
use Rattle.nsi_primitive.specs.Ids.{id_of}
use Rattle.nsi_primitive.specs.declared.message.Message.{Message}
use Rattle.connection_record.specs.declared.record.Record.{Record}
use Rattle.connection_record.specs.Moves.{is_live}
use Rattle.agent_state.specs.declared.parent.Due.{Due}
use Rattle.aggregator_agent.specs.declared.agent.Agent.{Agent}
use Rattle.aggregator_agent.specs.Turns.{answer_turn}
use Rattle.aggregator_agent.specs.Clock.{Told, Clocked, tell_one, tells_late, tell_all, tells_more, is_late, ends, clocked, clock_then, clock_more, clock_all}
use Rattle.aggregator_agent.specs.Steps.{Passed, pass_more, pass_then, hear_all}
use Rattle.aggregator_agent.specs.Bonds.{Bond, records_of, children_of, AllDone, each_bond, answered, tell_those, clocked_by, clocked_bond}

---- A message

abbrev pub passed_by : AllDone → Passed
passed_by x = record { records = records_of x.bonds; children = children_of x.bonds; out = x.out; dues = x.dues; next = x.next }

pub hear_as_round : (agent : Agent) (now : ℕ) (m : Message) (number next : ℕ) (bs : List Bond) → hear_all agent now number m next (records_of bs) (children_of bs) ≡ passed_by (each_bond (answered agent now m) number next bs)
unfolding hear_all pass_then each_bond
hear_as_round agent now m number next [] = refl
hear_as_round agent now m number next (b ∷ bs) =
    let t = answer_turn agent now m b.own b.children next in
    ap (λ (rest : Passed). pass_more agent number now t rest) (hear_as_round agent now m (number + 1) t.next bs)

---- Late requests

-- those that are late, among requests that are
pub told_as : (agent : Agent) (now number : ℕ) (waiting : List Message) (dues : List Due) (own : Record) (next : ℕ)
    → tell_those (filter (is_late now waiting) dues) agent now number own next ≡ tell_all dues agent now number waiting own next
unfolding tell_those tell_all tell_one
told_as agent now number waiting [] own next = refl
told_as agent now number waiting (d ∷ ds) own next = by_tests (is_late now waiting d) (d.number == number) refl refl (λ r n. told_as agent now number waiting ds r n)
  where
    by_tests : (l k : Bool) → is_late now waiting d ≡ l → (d.number == number) ≡ k
        → ((r : Record) (n : ℕ) → tell_those (filter (is_late now waiting) ds) agent now number r n ≡ tell_all ds agent now number waiting r n)
        → tell_those (filter (is_late now waiting) (d ∷ ds)) agent now number own next ≡ tell_all (d ∷ ds) agent now number waiting own next
    by_tests true true e f rest = rw (e, f) (ap (λ (t : Told). tells_more (tells_late d.correlation (id_of agent.number next) now own) t) (rest (tells_late d.correlation (id_of agent.number next) now own).rec (next + 1)))
    by_tests true false e f rest = rw (e, f) (rest own next)
    by_tests false true e f rest = rw (e, f) (rest own next)
    by_tests false false e f rest = rw (e, f) (rest own next)

pub clocked_as : (agent : Agent) (now number : ℕ) (waiting : List Message) (dues : List Due) (own : Record) (next : ℕ)
    → clocked_by agent now (filter (is_late now waiting) dues) number next own ≡ clocked agent now number dues waiting own next
unfolding clocked clocked_by
clocked_as agent now number waiting dues own next =
    let x = ends (is_live own.lsm) now own in
    ap (λ (t : Told). tells_more x t) (told_as agent now number waiting dues x.rec next)

---- A tick

abbrev pub clocked_all : AllDone → Clocked
clocked_all x = record { records = records_of x.bonds; out = x.out; next = x.next }

pub clock_as_round : (agent : Agent) (now : ℕ) (dues : List Due) (waiting : List Message) (number next : ℕ) (bs : List Bond)
    → clock_all agent now number dues waiting next (records_of bs) ≡ clocked_all (each_bond (clocked_bond agent now (filter (is_late now waiting) dues)) number next bs)
unfolding clock_all clock_then each_bond
clock_as_round agent now dues waiting number next [] = refl
clock_as_round agent now dues waiting number next (b ∷ bs) =
    let late = filter (is_late now waiting) dues in
    let t = clocked_by agent now late number next b.own in
    ap (λ (x : Told). clock_more agent x (clock_all agent now (number + 1) dues waiting x.next (records_of bs))) (sym (clocked_as agent now number waiting dues b.own next))
    ∙ ap (λ (rest : Clocked). clock_more agent t rest) (clock_as_round agent now dues waiting (number + 1) t.next bs)

-- the views stay, and nothing is asked
pub clock_keeps_children : (agent : Agent) (now : ℕ) (late : List Due) (number next : ℕ) (bs : List Bond) → children_of (each_bond (clocked_bond agent now late) number next bs).bonds ≡ children_of bs
unfolding each_bond
clock_keeps_children agent now late number next [] = refl
clock_keeps_children agent now late number next (b ∷ bs) =
    ap (λ rest. b.children ∷ rest) (clock_keeps_children agent now late (number + 1) (clocked_by agent now late number next b.own).next bs)

pub clock_asks_nothing : (agent : Agent) (now : ℕ) (late : List Due) (number next : ℕ) (bs : List Bond) → (each_bond (clocked_bond agent now late) number next bs).dues ≡ []
unfolding each_bond
clock_asks_nothing agent now late number next [] = refl
clock_asks_nothing agent now late number next (b ∷ bs) = clock_asks_nothing agent now late (number + 1) (clocked_by agent now late number next b.own).next bs
