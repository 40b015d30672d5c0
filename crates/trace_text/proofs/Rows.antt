-- Lines that the definitions themselves compute.
use Rattle.std.proofs.Common.{◌≡◌, ℕ, [], ◌∷◌, Option, Some, None, codes, refl}
use Rattle.std.specs.Fmt.{digits}
use Rattle.serde_json.proofs.OnLiterals.{serde_json_on_literals}
use Rattle.uuid.specs.Text.{by_index}
use Rattle.nsi_primitive.specs.Ids.{id_of, bytes_of, id_text}
use Rattle.nsi_primitive.specs.Kinds.{kind_name}
use Rattle.nsi_primitive.specs.States.{machine_text}
use Rattle.nsi_primitive.specs.declared.ask.Ask.{Ask}
use Rattle.nsi_primitive.specs.declared.ask.AskAnswer.{AskAnswer}
use Rattle.nsi_primitive.specs.declared.ask.What.{What}
use Rattle.nsi_primitive.specs.declared.kind.Directionality.{Directionality}
use Rattle.nsi_primitive.specs.declared.entry.Event.{Event}
use Rattle.nsi_primitive.specs.declared.entry.Happening.{Happening}
use Rattle.nsi_primitive.specs.declared.entry.Input.{Input}
use Rattle.nsi_primitive.specs.declared.kind.Kind.{Kind}
use Rattle.nsi_primitive.specs.declared.message.Body.{Body}
use Rattle.nsi_primitive.specs.declared.message.Identity.{Identity}
use Rattle.nsi_primitive.specs.declared.message.Message.{Message}
use Rattle.nsi_primitive.specs.declared.state.Machine.{Machine}
use Rattle.ask_text.specs.Asks.{verb_of}
use Rattle.json_fields.specs.Keys.{name_of}
use Rattle.json_fields.specs.Objects.{with_fields}
use Rattle.json_primitives.specs.Rows.{rows_in}
use Rattle.json_primitives.specs.Spelling.{data_of, ack_data}
use Rattle.stp_topology.specs.Network.{nothing}
use Rattle.stp_topology.specs.declared.network.Network.{Network}
use Rattle.trace_text.specs.Lines.{answer_text, line_of, text_of}

-- a provider and a requester
abbrev two_agents : Network
two_agents = record nothing { agents = codes "p1" ∷ codes "r1" ∷ [] }

-- what p1 or r1 takes
abbrev takes : ℕ → ℕ → Input → Option AskAnswer → Event
takes agent second input answer = record { agent = agent; what = Happening.Entry (record { second = second; input = input }) answer }

abbrev reserve : Ask
reserve = record { label = Some (codes "c1"); what = What.Reserve (record { source = codes "A"; dest = codes "B"; capacity = 600; start = 100; end = 200; version = None; directionality = Directionality.Bidirectional }) }

abbrev response : Message
response = record { header = record { correlation = id_of 1 1; requester = codes "r1"; provider = codes "p1" }; body = Body.ReserveResponse (id_of 0 1) }

abbrev of_reserve : Identity
of_reserve = record { requester = codes "r1"; provider = codes "p1"; correlation = id_of 1 1; kind = Kind.Reserve }

run : text_of two_agents (takes 0 0 Input.Tick None ∷ takes 1 7 (Input.Ask 0 reserve) (Some AskAnswer.Sent) ∷ record { agent = 1; what = Happening.Sync 2 } ∷ takes 0 7 (Input.Work 12 Machine.Reserve) None ∷ record { agent = 0; what = Happening.Restart 3 } ∷ takes 0 7 (Input.Force 4194303) None ∷ [])
    ≡ codes "tick p1 0\nask r1 sent reserve c1 A B 600 100 200\nsync r1 2\nwork p1 12 reserve\nrestart p1 3\nforce p1 4194303\n"
unfolding digits verb_of machine_text answer_text line_of
run = refl

outstanding : line_of two_agents (takes 1 7 (Input.Ask 1 (record { label = Some (codes "c1"); what = What.Commit })) (Some (AskAnswer.Outstanding (id_of 1 1)))) ≡ codes "ask r1 outstanding=urn:uuid:00000000-0001-8000-8000-000000000001 commit c1\n"
unfolding digits verb_of answer_text line_of id_text bytes_of by_index
outstanding = refl

got : line_of two_agents (takes 1 0 (Input.Got response) None) ≡ codes "got r1 {\"connectionId\":\"urn:uuid:00000000-0000-8000-8000-000000000001\",\"correlationId\":\"urn:uuid:00000000-0001-8000-8000-000000000001\",\"kind\":\"reserveResponse\",\"providerNSA\":\"p1\",\"requesterNSA\":\"r1\"}\n"
unfolding serde_json_on_literals digits name_of kind_name data_of rows_in with_fields id_text bytes_of by_index line_of
got = refl

acked : line_of two_agents (takes 1 0 (Input.Acked of_reserve) None) ≡ codes "acked r1 {\"correlationId\":\"urn:uuid:00000000-0001-8000-8000-000000000001\",\"kind\":\"ack\",\"of\":\"reserve\",\"providerNSA\":\"p1\",\"requesterNSA\":\"r1\"}\n"
unfolding serde_json_on_literals digits name_of kind_name ack_data with_fields id_text bytes_of by_index line_of
acked = refl
