-- Scripts and what they say, computed by the definitions.
use Rattle.std.proofs.Common.{ℕ, ◌≡◌, [], ◌∷◌, ◌++◌, None, Some, Ok, Err, true, false, refl, codes}
use Rattle.nsi_base.specs.Lines.{lines_to}
use Rattle.nsi_base.specs.Digits.{value_from, number_of}
use Rattle.nsi_base.specs.Words.{words_of}
use Rattle.nsi_primitive.specs.Kinds.{kind_name, kind_named, kind_number, first_named}
use Rattle.agent_link.specs.declared.plan.How.TheVariants.{Lose, Repeat}
use Rattle.agent_link.specs.declared.plan.ParcelKind.{ParcelKind}
use Rattle.agent_link.specs.declared.plan.ParcelKind.TheVariants.{Message, Ack}
use Rattle.nsi_disk.specs.declared.plan.Image.{Image}
use Rattle.nsi_disk.specs.declared.plan.Image.TheVariants.{Old, New}
use Rattle.nsi_primitive.specs.declared.kind.Kind.TheVariants.{Reserve}
use Rattle.nsi_primitive.specs.declared.ask.Ask.{Ask}
use Rattle.nsi_primitive.specs.declared.ask.What.{What}
use Rattle.nsi_primitive.specs.declared.kind.Directionality.{Directionality}
use Rattle.stp_topology.specs.declared.network.Network.{Network}
use Rattle.stp_topology.specs.declared.network.AgentKind.TheVariants.{Provider, Aggregator, Requester}
use Rattle.stp_topology.specs.Network.{nothing as no_network}
use Rattle.ask_text.specs.Reading.{labelled_in, summary_in, numbers_in, version_in, way_in, reserve_in, plain_named, by_verb as ask_by_verb}
use Rattle.nsi_script.specs.declared.fault.ScriptFault.TheVariants.{Word, Agent, Time, Label}
use Rattle.nsi_script.specs.declared.script.Act.{Act}
use Rattle.nsi_script.specs.declared.script.Script.{Script}
use Rattle.nsi_script.specs.Load.{stepped, after, drawn_request}
use Rattle.nsi_script.specs.Scripts.{nothing}
use Rattle.nsi_script.specs.Lines.{known_agent, add_at, put_act, put_ask, ask_of, add_force, add_restart, add_plan, add_stop, by_verb, is_linked}
use Rattle.nsi_script.specs.Text.{of_line, read_lines, script_of}

-- a provider and its requester
abbrev pair : Network
pair = record no_network { agents = codes "p1" ∷ codes "r1" ∷ []; kinds = Provider 60 ∷ Requester 0 ∷ [] }

abbrev reserve_ask : Ask
reserve_ask = record {
  label = Some (codes "c1");
  what = What.Reserve (record { source = codes "A"; dest = codes "B"; capacity = 600; start = 100; end = 200; version = None; directionality = Directionality.Bidirectional });
}

abbrev commit_ask : Ask
commit_ask = record { label = Some (codes "c1"); what = What.Commit }

-- comments and empty lines are skipped, words may be parted by tabs, and a carriage return belongs to a line's end
whole : script_of pair 6 (codes "# first\r\n\r\nat 000\r\nask\tr1 reserve c1 A B 0600 100 200\r\nask r1 commit c1\nat 0\nforce p1 4194303")
    ≡ Ok (record nothing {
      groups =
          record { at = 0; acts = Act.Ask 1 reserve_ask ∷ (Act.Ask 1 commit_ask ∷ []) }
          ∷ (record { at = 0; acts = Act.Force 0 4194303 ∷ [] } ∷ []);
    })
unfolding lines_to value_from number_of words_of kind_name kind_named first_named labelled_in summary_in numbers_in version_in way_in reserve_in plain_named ask_by_verb known_agent add_at put_act put_ask ask_of add_force add_restart add_plan add_stop by_verb of_line read_lines
whole = refl

-- a script that says nothing, and one whose seconds fall
small :
    (script_of pair 6 [] ≡ Ok nothing)
    × (script_of pair 6 (codes "at 5\nat 4\n") ≡ Err (7, Time))
unfolding lines_to value_from number_of words_of kind_name kind_named first_named labelled_in summary_in numbers_in version_in way_in reserve_in plain_named ask_by_verb known_agent add_at put_act put_ask ask_of add_force add_restart add_plan add_stop by_verb of_line read_lines
small = (refl, refl)

-- lines without a form, numbers out of range, and plans in the wrong place
words :
    (script_of pair 6 (codes " ") ≡ Err (6, Word))
    × (script_of pair 6 (codes "at") ≡ Err (6, Word))
    × (script_of pair 6 (codes "at  5") ≡ Err (6, Word))
    × (script_of pair 6 (codes "at 5 ") ≡ Err (6, Word))
    × (script_of pair 6 (codes "AT 5") ≡ Err (6, Word))
    × (script_of pair 6 (codes "at 253370764800") ≡ Err (6, Word))
    × (script_of pair 6 (codes "ask") ≡ Err (6, Word))
    × (script_of pair 6 (codes "ask r1") ≡ Err (6, Word))
    × (script_of pair 6 (codes "ask r1 commit") ≡ Err (6, Word))
    × (script_of pair 6 (codes "ask r1 reserve c1 A A 1 0 1") ≡ Err (6, Word))
    × (script_of pair 6 (codes "force p1 4194304") ≡ Err (6, Word))
    × (script_of pair 6 (codes "restart") ≡ Err (6, Word))
    × (script_of pair 6 (codes "lose r1 p1 reserve 0") ≡ Err (6, Word))
    × (script_of pair 6 (codes "lose r1 p1 none 1") ≡ Err (6, Word))
    × (script_of pair 6 (codes "repeat r1 p1 ack 18446744073709551616") ≡ Err (6, Word))
    × (script_of pair 6 (codes "stop p1 0 old") ≡ Err (6, Word))
    × (script_of pair 6 (codes "stop p1 1 worn") ≡ Err (6, Word))
    × (script_of pair 6 (codes "at 0\nlose r1 p1 reserve 1") ≡ Err (7, Word))
    × (script_of pair 6 (codes "at 0\nstop p1 1 old") ≡ Err (7, Word))
unfolding lines_to value_from number_of words_of kind_name kind_named first_named labelled_in summary_in numbers_in version_in way_in reserve_in plain_named ask_by_verb known_agent add_at put_act put_ask ask_of add_force add_restart add_plan add_stop by_verb of_line read_lines
words = (refl, refl, refl, refl, refl, refl, refl, refl, refl, refl, refl, refl, refl, refl, refl, refl, refl, refl, refl)

-- a disk that stops is an agent's
stopped_alone : script_of pair 6 (codes "stop p9 1 torn") ≡ Err (6, Agent)
unfolding lines_to value_from number_of words_of kind_name kind_named first_named labelled_in summary_in numbers_in version_in way_in reserve_in plain_named ask_by_verb known_agent add_at put_act put_ask ask_of add_force add_restart add_plan add_stop by_verb of_line read_lines
stopped_alone = refl

-- an agent of any kind is restarted
restarts :
    (script_of pair 6 (codes "at 0\nrestart p1\nrestart r1") ≡ Ok (record nothing { groups = record { at = 0; acts = Act.Restart 0 ∷ (Act.Restart 1 ∷ []) } ∷ [] }))
    × (script_of pair 6 (codes "restart") ≡ Err (6, Word))
    × (script_of pair 6 (codes "restart p1 1") ≡ Err (6, Word))
    × (script_of pair 6 (codes "restart p9") ≡ Err (6, Agent))
    × (script_of pair 6 (codes "restart p1") ≡ Err (6, Time))
unfolding lines_to value_from number_of words_of kind_name kind_named first_named labelled_in summary_in numbers_in version_in way_in reserve_in plain_named ask_by_verb known_agent add_at put_act put_ask ask_of add_force add_restart add_plan add_stop by_verb of_line read_lines
restarts = (refl, refl, refl, refl, refl)

-- an ask under the label c1
abbrev about : What → Act
about what = Act.Ask 1 (record { label = Some (codes "c1"); what = what })

-- queries: only a summary may be of all connections, and a range has both ends
queries :
    (script_of pair 6 (codes "at 0\nask r1 summary") ≡ Ok (record nothing { groups = record { at = 0; acts = Act.Ask 1 (record { label = None; what = What.Summary }) ∷ [] } ∷ [] }))
    × (script_of pair 6 (codes "at 0\nask r1 reserve c1 A B 600 100 200\nask r1 summary c1\nask r1 notifications c1\nask r1 results c1 1 2\nask r1 recursive c1")
    ≡ Ok (record nothing {
      groups =
          record {
            at = 0;
            acts =
                Act.Ask 1 reserve_ask
                ∷ (about What.Summary
                ∷ (about (What.Notifications None)
                ∷ (about (What.Results (Some (record { from = 1; to = 2 })))
                ∷ (about What.Recursive
                ∷ []))));
          }
          ∷ [];
    }))
    × (script_of pair 6 (codes "ask r1 results c1 1") ≡ Err (6, Word))
    × (script_of pair 6 (codes "ask r1 results") ≡ Err (6, Word))
    × (script_of pair 6 (codes "ask r1 recursive") ≡ Err (6, Word))
    × (script_of pair 6 (codes "ask r1 recursive c1 1") ≡ Err (6, Word))
    × (script_of pair 6 (codes "ask r9 recursive c1") ≡ Err (6, Agent))
    × (script_of pair 6 (codes "ask r1 recursive c1") ≡ Err (6, Time))
    × (script_of pair 6 (codes "at 0\nask r1 recursive c1") ≡ Err (7, Label))
    × (script_of pair 6 (codes "ask r9 summary") ≡ Err (6, Agent))
    × (script_of pair 6 (codes "ask p1 results c1") ≡ Err (6, Agent))
    × (script_of pair 6 (codes "ask r1 summary") ≡ Err (6, Time))
    × (script_of pair 6 (codes "at 0\nask r1 summary c1") ≡ Err (7, Label))
unfolding lines_to value_from number_of words_of kind_name kind_named first_named labelled_in summary_in numbers_in version_in way_in reserve_in plain_named ask_by_verb known_agent add_at put_act put_ask ask_of add_force add_restart add_plan add_stop by_verb of_line read_lines
queries = (refl, refl, refl, refl, refl, refl, refl, refl, refl, refl, refl, refl, refl)

-- the agent first, then the time, then the label
agents_and_times :
    (script_of pair 6 (codes "ask p1 commit c1") ≡ Err (6, Agent))
    × (script_of pair 6 (codes "repeat r9 p9 ack 1") ≡ Err (6, Agent))
    × (script_of pair 6 (codes "lose p1 p1 reserve 1") ≡ Err (6, Agent))
    × (script_of pair 6 (codes "ask r9 commit c1") ≡ Err (6, Agent))
    × (script_of pair 6 (codes "force r1 0") ≡ Err (6, Agent))
    × (script_of pair 6 (codes "force p9 0") ≡ Err (6, Agent))
    × (script_of pair 6 (codes "ask r1 commit c1") ≡ Err (6, Time))
    × (script_of pair 6 (codes "force p1 0") ≡ Err (6, Time))
    × (script_of pair 6 (codes "at 0\n# more\nask r1 commit c1") ≡ Err (8, Label))
    × (script_of pair 6 (codes "at 0\nask r1 reserve c1 A B 1 0 1\nask r1 commit c2") ≡ Err (8, Label))
unfolding lines_to value_from number_of words_of kind_name kind_named first_named labelled_in summary_in numbers_in version_in way_in reserve_in plain_named ask_by_verb known_agent add_at put_act put_ask ask_of add_force add_restart add_plan add_stop by_verb of_line read_lines
agents_and_times = (refl, refl, refl, refl, refl, refl, refl, refl, refl, refl)

-- an aggregator with its requester and its child
abbrev tree : Network
tree = record no_network {
  agents = codes "p1" ∷ codes "a1" ∷ codes "r1" ∷ codes "r2" ∷ [];
  kinds = Provider 60 ∷ Aggregator ∷ Requester 1 ∷ Requester 0 ∷ [];
  children = (1, 0) ∷ [];
}

-- a label is the requester's own
labels :
    (script_of tree 9 (codes "at 0\nask r1 reserve c A B 1 0 1\nask r2 commit c") ≡ Err (11, Label))
    × (script_of tree 9 (codes "at 0\nask r2 reserve c A B 1 0 1\nat 1\nask r2 abort c\nask r1 abort c") ≡ Err (13, Label))
unfolding lines_to value_from number_of words_of kind_name kind_named first_named labelled_in summary_in numbers_in version_in way_in reserve_in plain_named ask_by_verb known_agent add_at put_act put_ask ask_of add_force add_restart add_plan add_stop by_verb of_line read_lines
labels = (refl, refl)

-- who has a link
links :
    (is_linked tree 2 1 ≡ true) × (is_linked tree 1 2 ≡ true) × (is_linked tree 1 0 ≡ true) × (is_linked tree 0 1 ≡ true)
    × (is_linked tree 3 0 ≡ true) × (is_linked tree 2 0 ≡ false) × (is_linked tree 3 1 ≡ false) × (is_linked tree 0 0 ≡ false)
links = (refl, refl, refl, refl, refl, refl, refl, refl)

-- the first push of a reserve from r2 to p1, and the third call of p1's disk
abbrev planned : Script
planned = record {
  lose = record { from = 3; to = 0; fault = record { of = Message Reserve; nth = 1; how = Lose } } ∷ [];
  stops = record { agent = 0; stop = record { call = 3; image = Old } } ∷ [];
  groups = [];
}

-- a further line of a plan
abbrev and_repeat : (from to : ℕ) → ParcelKind → ℕ → Script
and_repeat from to of nth = record planned { lose = planned.lose ++ record { from = from; to = to; fault = record { of = of; nth = nth; how = Repeat } } ∷ [] }

-- a further stop
abbrev and_stop : (agent call : ℕ) → Image → Script
and_stop agent call image = record planned { stops = planned.stops ++ record { agent = agent; stop = record { call = call; image = image } } ∷ [] }

-- a line may not plan what an earlier one plans
repeated :
    (of_line tree planned (codes "repeat r2 p1 reserve 1") ≡ Err Word)
    × (of_line tree planned (codes "repeat r2 p1 reserve 2") ≡ Ok (and_repeat 3 0 (Message Reserve) 2))
    × (of_line tree planned (codes "repeat p1 r2 reserve 1") ≡ Ok (and_repeat 0 3 (Message Reserve) 1))
    × (of_line tree planned (codes "repeat r2 p1 ack 1") ≡ Ok (and_repeat 3 0 Ack 1))
    × (of_line tree planned (codes "repeat r2 a1 ack 1") ≡ Err Agent)
    × (of_line tree planned (codes "stop p1 3 new") ≡ Err Word)
    × (of_line tree planned (codes "stop p1 4 new") ≡ Ok (and_stop 0 4 New))
    × (of_line tree planned (codes "stop a1 3 new") ≡ Ok (and_stop 1 3 New))
unfolding lines_to value_from number_of words_of kind_name kind_named first_named labelled_in summary_in numbers_in version_in way_in reserve_in plain_named ask_by_verb known_agent add_at put_act put_ask ask_of add_force add_restart add_plan add_stop by_verb of_line read_lines kind_number
repeated = (refl, refl, refl, refl, refl, refl, refl, refl)

-- the first pair of the load of number 0
first_pair :
    (after 5 0 ≡ 7076646890315895283)
    × (drawn_request 0 ≡ record { source = 3; dest = 0; capacity = 438; start = 1000360; end = 1000420 })
unfolding stepped
first_pair = (refl, refl)
