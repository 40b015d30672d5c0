-- Entries, payloads and journals that the definitions themselves compute.
use Rattle.std.proofs.Common.{◌≡◌, List, [], ◌∷◌, ◌++◌, codes, refl, ℕ, Some, None, Ok, Err}
use Rattle.std.specs.Fmt.{digits}
use Rattle.serde_json.proofs.OnLiterals.{serde_json_on_literals}
use Rattle.uuid.specs.Text.{by_index}
use Rattle.nsi_primitive.specs.Ids.{id_of, bytes_of, id_text}
use Rattle.nsi_primitive.specs.Kinds.{kind_name}
use Rattle.nsi_primitive.specs.declared.ask.What.{What}
use Rattle.nsi_primitive.specs.declared.entry.Entry.{Entry}
use Rattle.nsi_primitive.specs.declared.entry.Input.{Input}
use Rattle.nsi_primitive.specs.declared.kind.Directionality.{Directionality}
use Rattle.nsi_primitive.specs.declared.kind.Kind.{Kind}
use Rattle.nsi_primitive.specs.declared.message.Body.{Body}
use Rattle.nsi_primitive.specs.declared.message.Identity.{Identity}
use Rattle.nsi_primitive.specs.declared.message.Message.{Message}
use Rattle.nsi_primitive.specs.declared.state.Machine.{Machine}
use Rattle.nsi_base.specs.Digits.{value_from, number_of}
use Rattle.nsi_base.specs.Words.{words_of}
use Rattle.ask_text.specs.Asks.{verb_of}
use Rattle.ask_text.specs.Reading.{labelled_in, version_in, way_in, reserve_in, plain_named, by_verb, ask_of}
use Rattle.json_fields.specs.Keys.{name_of}
use Rattle.json_fields.specs.Objects.{with_fields}
use Rattle.json_primitives.specs.Rows.{rows_in}
use Rattle.json_primitives.specs.Spelling.{data_of, ack_data}
use Rattle.journal_entry.specs.declared.form.Form.{Form}
use Rattle.journal_entry.specs.Fields.{number_at, bounded_at, text_at}
use Rattle.journal_entry.specs.Entries.{held_ask_in, ask_at, machine_at, work_at, force_at, input_at, entry_at}
use Rattle.journal_entry.specs.Spelling.{entry_spelling, entry_of}
use Rattle.journal_entry.specs.Payloads.{entries_in, payload_of, batch_of}
use Rattle.journal_entry.specs.Journals.{recovers}

-- ---- inputs, at second 258

abbrev at_7 : Input → Entry
at_7 input = record { second = 7; input = input }

abbrev at_258 : Input → Entry
at_258 input = record { second = 258; input = input }

-- the second ask commits c1
ask_row : entry_spelling Form.Two (at_258 (Input.Ask 1 (record { label = Some (codes "c1"); what = What.Commit }))) ≡ 1 ∷ 0 ∷ 0 ∷ 0 ∷ 0 ∷ 0 ∷ 0 ∷ 1 ∷ 2 ∷ 0 ∷ 0 ∷ 0 ∷ 1 ∷ 0 ∷ 0 ∷ 0 ∷ 0 ∷ 0 ∷ 0 ∷ 0 ∷ 9 ∷ codes "commit c1"
unfolding verb_of
ask_row = refl

work_row : entry_spelling Form.Two (at_258 (Input.Work 259 Machine.Lifecycle)) ≡ 3 ∷ 0 ∷ 0 ∷ 0 ∷ 0 ∷ 0 ∷ 0 ∷ 1 ∷ 2 ∷ 0 ∷ 0 ∷ 1 ∷ 3 ∷ 2 ∷ []
work_row = refl

tick_row : entry_spelling Form.Two (at_258 Input.Tick) ≡ 4 ∷ 0 ∷ 0 ∷ 0 ∷ 0 ∷ 0 ∷ 0 ∷ 1 ∷ 2 ∷ []
tick_row = refl

force_row : entry_spelling Form.Two (at_258 (Input.Force 4194303)) ≡ 5 ∷ 0 ∷ 0 ∷ 0 ∷ 0 ∷ 0 ∷ 0 ∷ 1 ∷ 2 ∷ 0 ∷ 63 ∷ 255 ∷ 255 ∷ []
force_row = refl

-- r1 asks p1 about all connections
abbrev query : Message
query = record { header = record { correlation = id_of 1 1; requester = codes "r1"; provider = codes "p1" }; body = Body.QuerySummary None }

got_row : entry_spelling Form.Two (at_258 (Input.Got query)) ≡ 2 ∷ 0 ∷ 0 ∷ 0 ∷ 0 ∷ 0 ∷ 0 ∷ 1 ∷ 2 ∷ 0 ∷ 0 ∷ 0 ∷ 0 ∷ 0 ∷ 0 ∷ 0 ∷ 126 ∷ codes "{\"correlationId\":\"urn:uuid:00000000-0001-8000-8000-000000000001\",\"kind\":\"querySummary\",\"providerNSA\":\"p1\",\"requesterNSA\":\"r1\"}"
unfolding serde_json_on_literals digits name_of kind_name data_of rows_in with_fields id_text bytes_of by_index
got_row = refl

abbrev commit : Identity
commit = record { requester = codes "r1"; provider = codes "p1"; correlation = id_of 1 1; kind = Kind.ReserveCommit }

acked_row : entry_spelling Form.Two (at_258 (Input.Acked commit)) ≡ 6 ∷ 0 ∷ 0 ∷ 0 ∷ 0 ∷ 0 ∷ 0 ∷ 1 ∷ 2 ∷ 0 ∷ 0 ∷ 0 ∷ 0 ∷ 0 ∷ 0 ∷ 0 ∷ 138 ∷ codes "{\"correlationId\":\"urn:uuid:00000000-0001-8000-8000-000000000001\",\"kind\":\"ack\",\"of\":\"reserveCommit\",\"providerNSA\":\"p1\",\"requesterNSA\":\"r1\"}"
unfolding serde_json_on_literals digits name_of kind_name ack_data with_fields id_text bytes_of by_index
acked_row = refl

-- ---- bytes that are entries, and bytes that aren't

-- a tick at second 7, and a byte behind it
tick_read : entry_of Form.Two (4 ∷ 0 ∷ 0 ∷ 0 ∷ 0 ∷ 0 ∷ 0 ∷ 0 ∷ 7 ∷ 255 ∷ []) ≡ Some (record { second = 7; input = Input.Tick }, 9)
unfolding entry_at input_at bounded_at number_at
tick_read = refl

work_read : entry_of Form.Two (3 ∷ 0 ∷ 0 ∷ 0 ∷ 0 ∷ 0 ∷ 0 ∷ 0 ∷ 7 ∷ 0 ∷ 0 ∷ 1 ∷ 3 ∷ 1 ∷ []) ≡ Some (record { second = 7; input = Input.Work 259 Machine.Provision }, 14)
unfolding entry_at input_at work_at machine_at bounded_at number_at
work_read = refl

force_read : entry_of Form.Two (5 ∷ 0 ∷ 0 ∷ 0 ∷ 0 ∷ 0 ∷ 0 ∷ 0 ∷ 7 ∷ 0 ∷ 0 ∷ 0 ∷ 5 ∷ []) ≡ Some (record { second = 7; input = Input.Force 5 }, 13)
unfolding entry_at input_at force_at bounded_at number_at
force_read = refl

ask_read : entry_of Form.Two (1 ∷ 0 ∷ 0 ∷ 0 ∷ 0 ∷ 0 ∷ 0 ∷ 0 ∷ 7 ∷ 0 ∷ 0 ∷ 0 ∷ 1 ∷ 0 ∷ 0 ∷ 0 ∷ 0 ∷ 0 ∷ 0 ∷ 0 ∷ 9 ∷ codes "commit c1") ≡ Some (record { second = 7; input = Input.Ask 1 (record { label = Some (codes "c1"); what = What.Commit }) }, 30)
unfolding entry_at input_at held_ask_in ask_at text_at bounded_at number_at ask_of words_of by_verb plain_named labelled_in verb_of
ask_read = refl

-- an ask for one way is an entry of the second form alone
abbrev one_way_bytes : List ℕ
one_way_bytes = 1 ∷ 0 ∷ 0 ∷ 0 ∷ 0 ∷ 0 ∷ 0 ∷ 0 ∷ 7 ∷ 0 ∷ 0 ∷ 0 ∷ 1 ∷ 0 ∷ 0 ∷ 0 ∷ 0 ∷ 0 ∷ 0 ∷ 0 ∷ 30 ∷ codes "reserve c1 A B 600 100 200 one"

abbrev one_way : Entry
one_way =
    at_7 (Input.Ask 1 (record {
      label = Some (codes "c1");
      what = What.Reserve (record { source = codes "A"; dest = codes "B"; capacity = 600; start = 100; end = 200; version = None; directionality = Directionality.Unidirectional });
    }))

one_way_read : (entry_of Form.Two one_way_bytes ≡ Some (one_way, 51)) × (entry_of Form.One one_way_bytes ≡ None)
unfolding entry_at input_at held_ask_in ask_at text_at bounded_at number_at ask_of words_of by_verb reserve_in version_in way_in value_from number_of verb_of digits
one_way_read = (refl, refl)

-- a blank behind an ask
blank_behind : entry_of Form.Two (1 ∷ 0 ∷ 0 ∷ 0 ∷ 0 ∷ 0 ∷ 0 ∷ 0 ∷ 7 ∷ 0 ∷ 0 ∷ 0 ∷ 1 ∷ 0 ∷ 0 ∷ 0 ∷ 0 ∷ 0 ∷ 0 ∷ 0 ∷ 10 ∷ codes "commit c1 ") ≡ None
unfolding entry_at input_at held_ask_in ask_at text_at bounded_at number_at ask_of words_of by_verb plain_named labelled_in
blank_behind = refl

-- the second behind the last one
late : entry_of Form.Two (4 ∷ 0 ∷ 0 ∷ 0 ∷ 58 ∷ 254 ∷ 19 ∷ 14 ∷ 0 ∷ []) ≡ None
unfolding entry_at input_at bounded_at number_at
late = refl

-- a record behind the last one
no_record : entry_of Form.Two (5 ∷ 0 ∷ 0 ∷ 0 ∷ 0 ∷ 0 ∷ 0 ∷ 0 ∷ 7 ∷ 0 ∷ 64 ∷ 0 ∷ 0 ∷ []) ≡ None
unfolding entry_at input_at force_at bounded_at number_at
no_record = refl

no_machine : entry_of Form.Two (3 ∷ 0 ∷ 0 ∷ 0 ∷ 0 ∷ 0 ∷ 0 ∷ 0 ∷ 7 ∷ 0 ∷ 0 ∷ 0 ∷ 5 ∷ 3 ∷ []) ≡ None
unfolding entry_at input_at work_at machine_at bounded_at number_at
no_machine = refl

no_tag : entry_of Form.Two (7 ∷ 0 ∷ 0 ∷ 0 ∷ 0 ∷ 0 ∷ 0 ∷ 0 ∷ 7 ∷ []) ≡ None
unfolding entry_at input_at bounded_at number_at
no_tag = refl

-- nothing, a second of seven bytes, and work without its machine
cut_short :
    (entry_of Form.Two [] ≡ None)
    × (entry_of Form.Two (4 ∷ 0 ∷ 0 ∷ 0 ∷ 0 ∷ 0 ∷ 0 ∷ 0 ∷ []) ≡ None)
    × (entry_of Form.Two (3 ∷ 0 ∷ 0 ∷ 0 ∷ 0 ∷ 0 ∷ 0 ∷ 0 ∷ 7 ∷ 0 ∷ 0 ∷ 0 ∷ 5 ∷ []) ≡ None)
unfolding entry_at input_at work_at machine_at bounded_at number_at
cut_short = (refl, refl, refl)

-- the tag before the first one, work on a record behind the last one, and an ask whose length passes every text
out_of_range :
    (entry_of Form.Two (0 ∷ 0 ∷ 0 ∷ 0 ∷ 0 ∷ 0 ∷ 0 ∷ 0 ∷ 7 ∷ []) ≡ None)
    × (entry_of Form.Two (3 ∷ 0 ∷ 0 ∷ 0 ∷ 0 ∷ 0 ∷ 0 ∷ 0 ∷ 7 ∷ 0 ∷ 64 ∷ 0 ∷ 0 ∷ 0 ∷ []) ≡ None)
    × (entry_of Form.Two (1 ∷ 0 ∷ 0 ∷ 0 ∷ 0 ∷ 0 ∷ 0 ∷ 0 ∷ 7 ∷ 0 ∷ 0 ∷ 0 ∷ 2 ∷ 255 ∷ 255 ∷ 255 ∷ 255 ∷ 255 ∷ 255 ∷ 255 ∷ 255 ∷ codes "commit c1") ≡ None)
unfolding entry_at input_at work_at ask_at text_at bounded_at number_at
out_of_range = (refl, refl, refl)

-- the last second, and a byte behind it
last_tick : entry_of Form.Two (4 ∷ 0 ∷ 0 ∷ 0 ∷ 58 ∷ 254 ∷ 19 ∷ 13 ∷ 255 ∷ 0 ∷ []) ≡ Some (record { second = 253370764799; input = Input.Tick }, 9)
unfolding entry_at input_at bounded_at number_at
last_tick = refl

-- a text of ten bytes, of which nine are there
short_text : text_at (0 ∷ 0 ∷ 0 ∷ 0 ∷ 0 ∷ 0 ∷ 0 ∷ 10 ∷ codes "commit c1") ≡ None
unfolding text_at number_at
short_text = refl

-- ---- payloads

abbrev tick_7 : List ℕ
tick_7 = 4 ∷ 0 ∷ 0 ∷ 0 ∷ 0 ∷ 0 ∷ 0 ∷ 0 ∷ 7 ∷ []

abbrev ticks : List Entry
ticks = record { second = 7; input = Input.Tick } ∷ []

one_tick : (payload_of (2 ∷ tick_7) ≡ Some ticks) × (payload_of (1 ∷ tick_7) ≡ Some ticks)
unfolding payload_of entries_in entry_at input_at bounded_at number_at
one_tick = (refl, refl)

none : (payload_of (2 ∷ []) ≡ Some []) × (payload_of (1 ∷ []) ≡ Some [])
unfolding payload_of entries_in
none = (refl, refl)

other_form : payload_of (3 ∷ tick_7) ≡ None
unfolding payload_of
other_form = refl

-- nothing, a form before the first one, no form, a byte less, and an unknown tag behind an entry
other_payloads :
    (payload_of [] ≡ None)
    × (payload_of (0 ∷ tick_7) ≡ None)
    × (payload_of tick_7 ≡ None)
    × (payload_of (2 ∷ 4 ∷ 0 ∷ 0 ∷ 0 ∷ 0 ∷ 0 ∷ 0 ∷ 0 ∷ []) ≡ None)
    × (payload_of (2 ∷ (tick_7 ++ 7 ∷ 0 ∷ 0 ∷ 0 ∷ 0 ∷ 0 ∷ 0 ∷ 0 ∷ 7 ∷ [])) ≡ None)
unfolding payload_of entries_in entry_at input_at bounded_at number_at
other_payloads = (refl, refl, refl, refl, refl)

-- a tick, work on the end of a connection, and a forced end
three_inputs : payload_of (2 ∷ (tick_7 ++ 3 ∷ 0 ∷ 0 ∷ 0 ∷ 0 ∷ 0 ∷ 0 ∷ 0 ∷ 7 ∷ 0 ∷ 0 ∷ 0 ∷ 5 ∷ 2 ∷ 5 ∷ 0 ∷ 0 ∷ 0 ∷ 0 ∷ 0 ∷ 0 ∷ 0 ∷ 7 ∷ 0 ∷ 0 ∷ 0 ∷ 5 ∷ []))
    ≡ Some (record { second = 7; input = Input.Tick } ∷ (record { second = 7; input = Input.Work 5 Machine.Lifecycle } ∷ (record { second = 7; input = Input.Force 5 } ∷ [])))
unfolding payload_of entries_in entry_at input_at work_at machine_at force_at bounded_at number_at
three_inputs = refl

one_byte_more : payload_of (2 ∷ (tick_7 ++ 0 ∷ [])) ≡ None
unfolding payload_of entries_in entry_at input_at bounded_at number_at
one_byte_more = refl

-- ---- journals

abbrev batch : List ℕ
batch = 1 ∷ 0 ∷ 0 ∷ 0 ∷ 0 ∷ 0 ∷ 0 ∷ 0 ∷ 10 ∷ 2 ∷ tick_7

-- the same in the first form
abbrev old_batch : List ℕ
old_batch = 1 ∷ 0 ∷ 0 ∷ 0 ∷ 0 ∷ 0 ∷ 0 ∷ 0 ∷ 10 ∷ 1 ∷ tick_7

-- less than a gate and a length
short_file : recovers batch_of (1 ∷ 0 ∷ 0 ∷ 0 ∷ 0 ∷ 0 ∷ 0 ∷ 0 ∷ []) ≡ Ok []
short_file = refl

-- a batch, and what stands behind a closed gate
one_batch : recovers batch_of (batch ++ 0 ∷ 1 ∷ []) ≡ Ok ticks
unfolding payload_of entries_in entry_at input_at bounded_at number_at
one_batch = refl

-- the file ends before the next gate
no_gate : recovers batch_of batch ≡ Err 0
unfolding payload_of entries_in entry_at input_at bounded_at number_at
no_gate = refl

-- the second batch passes the end of the file
long_batch : recovers batch_of (batch ++ 1 ∷ 0 ∷ 0 ∷ 0 ∷ 0 ∷ 0 ∷ 0 ∷ 0 ∷ 10 ∷ 2 ∷ 4 ∷ []) ≡ Err 19
unfolding payload_of entries_in entry_at input_at bounded_at number_at
long_batch = refl

-- a batch without entries
empty_batch : recovers batch_of (1 ∷ 0 ∷ 0 ∷ 0 ∷ 0 ∷ 0 ∷ 0 ∷ 0 ∷ 1 ∷ 2 ∷ 0 ∷ []) ≡ Err 0
unfolding payload_of entries_in
empty_batch = refl

-- nine bytes with an open gate have no batch
nine_bytes : recovers batch_of (1 ∷ 0 ∷ 0 ∷ 0 ∷ 0 ∷ 0 ∷ 0 ∷ 0 ∷ 0 ∷ []) ≡ Err 0
nine_bytes = refl

-- a payload without bytes
no_bytes : recovers batch_of (1 ∷ 0 ∷ 0 ∷ 0 ∷ 0 ∷ 0 ∷ 0 ∷ 0 ∷ 0 ∷ 0 ∷ []) ≡ Err 0
unfolding payload_of
no_bytes = refl

-- the greatest length
past_the_end : recovers batch_of (1 ∷ 255 ∷ 255 ∷ 255 ∷ 255 ∷ 255 ∷ 255 ∷ 255 ∷ 255 ∷ 0 ∷ []) ≡ Err 0
past_the_end = refl

-- the length itself is cut off
cut_length : recovers batch_of (batch ++ 1 ∷ 0 ∷ 0 ∷ []) ≡ Err 19
unfolding payload_of entries_in entry_at input_at bounded_at number_at
cut_length = refl

-- behind the entry of the second batch stands one byte more
longer_batch : recovers batch_of (batch ++ 1 ∷ 0 ∷ 0 ∷ 0 ∷ 0 ∷ 0 ∷ 0 ∷ 0 ∷ 11 ∷ 2 ∷ (tick_7 ++ 0 ∷ 0 ∷ [])) ≡ Err 19
unfolding payload_of entries_in entry_at input_at bounded_at number_at
longer_batch = refl

-- a gate of another byte is closed
other_gate : recovers batch_of (batch ++ 165 ∷ 1 ∷ []) ≡ Ok ticks
unfolding payload_of entries_in entry_at input_at bounded_at number_at
other_gate = refl

-- batches of both forms
two_batches : recovers batch_of (old_batch ++ batch ++ 0 ∷ []) ≡ Ok (ticks ++ ticks)
unfolding payload_of entries_in entry_at input_at bounded_at number_at
two_batches = refl
