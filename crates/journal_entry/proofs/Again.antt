-- What is written is read again.
use Rattle.std.proofs.Common.{true, ◌≡◌, ℕ, zero, suc, ◌+◌, ◌-◌, ◌^◌, ◌<◌, ◌≤◌, cond, List, [], ◌∷◌, ◌++◌, length, take, get_or, Some, None, option_map, Ok, refl, sym, ap, ◌∙◌, append_assoc, arith, All}
use Rattle.std.specs.Int.{w32, w64, to_be_bytes}
use Rattle.std.specs.List.{flat_map, AllByRecursion}
use Rattle.std.proofs.lemmas.List.{length-append, append-nil, take_more, take_all}
use Rattle.std.proofs.lemmas.List.Concat.{flat_map-append}
use Rattle.std.proofs.lemmas.List.Elements.{All-same, All-push, recursion_from_All}
use Rattle.std.proofs.lemmas.Slice.Eq.{bytes_eq-Decides}
use Rattle.nsi_primitive.specs.declared.ask.Ask.{Ask}
use Rattle.nsi_primitive.specs.declared.entry.Entry.{Entry}
use Rattle.nsi_primitive.specs.declared.entry.Input.{Input}
use Rattle.nsi_primitive.specs.declared.message.Message.{Message}
use Rattle.nsi_primitive.specs.declared.message.Parcel.{Parcel}
use Rattle.nsi_primitive.specs.declared.state.Machine.{Machine}
use Rattle.ask_text.specs.Asks.{ask_text}
use Rattle.ask_text.specs.Reading.{ask_of}
use Rattle.json_primitives.specs.Lines.{object_of}
use Rattle.json_primitives.specs.Spelling.{spelling_in, parcel_spelling_in, parcel_spelling}
use Rattle.nsi_base.specs.Options.{◌>>=◌}
use Rattle.nsi_base.specs.Range.{greatest_second, greatest_record}
use Rattle.journal_entry.specs.Forms.{times_of, holds_ask, holds_message, form_byte, form_of}
use Rattle.journal_entry.specs.declared.form.Form.{Form}
use Rattle.journal_entry.specs.Fields.{number_at, bounded_at, text_at, text_field}
use Rattle.journal_entry.specs.Lines.{what_is_read, as_spelled, parcel_in, message_in, ack_in}
use Rattle.journal_entry.specs.Entries.{machine_of, if_held as ask_held, held_ask_in, ask_at, got_at, machine_at, work_at, force_at, acked_at, input_at, entry_at}
use Rattle.journal_entry.specs.Spelling.{machine_byte, tag_of, body_of, entry_spelling, entry_of, IsReadAgain, HasParts}
use Rattle.journal_entry.specs.Payloads.{entries_in, payload_of, payload_spelling, not_empty, batch_of}
use Rattle.journal_entry.proofs.Parts.{wide32, wide64, number_again, bounded_again, text_again}
use Rattle.journal_entry.proofs.Taken.{some_bytes}

parcel_again : (form : Form) (p : Parcel) → object_of (parcel_spelling_in (times_of form) p) ≡ Ok p → parcel_in form (parcel_spelling_in (times_of form) p) ≡ Some p
unfolding parcel_in
parcel_again form p e =
    ap (λ r. what_is_read r >>= as_spelled form (parcel_spelling_in (times_of form) p)) e
    ∙ ap (λ t. cond t (Some p) None) ((bytes_eq-Decides (parcel_spelling_in (times_of form) p) (parcel_spelling_in (times_of form) p)).1 refl)

message_again : (form : Form) (m : Message) → object_of (spelling_in (times_of form) m) ≡ Ok (Parcel.Message m) → holds_message form m ≡ true → message_in form (spelling_in (times_of form) m) ≡ Some m
unfolding message_in
message_again form m e h = rw (parcel_again form (Parcel.Message m) e) (ap (λ t. cond t (Some m) None) h)

ask_again : (form : Form) (a : Ask) → ask_of (ask_text a) ≡ Some a → holds_ask form a ≡ true → held_ask_in form (ask_text a) ≡ Some a
unfolding held_ask_in
ask_again form a e h = ap (λ o. o >>= ask_held form) e ∙ ap (λ t. cond t (Some a) None) h

-- ---- inputs

machine_again : (m : Machine) → machine_of (machine_byte m) ≡ Some m
machine_again Machine.Reserve = refl
machine_again Machine.Provision = refl
machine_again Machine.Lifecycle = refl

input_again : (form : Form) (i : Input) (rest : List ℕ) → HasParts form i → input_at form (tag_of i) (body_of form i ++ rest) ≡ Some (i, rest)
unfolding input_at ask_at got_at work_at force_at acked_at machine_at ack_in
input_again form (Input.Ask number ask) rest h =
    ap (λ bytes. number_at w32 bytes >>= λ n. text_at n.1 >>= λ text. held_ask_in form text.0 >>= λ a. Some (Input.Ask n.0 a, text.1)) (append_assoc (to_be_bytes w32 number) (text_field (ask_text ask)) rest)
    ∙ rw (number_again w32 (2 ^ 32) wide32 number (text_field (ask_text ask) ++ rest) h.0, text_again (ask_text ask) rest h.2, ask_again form ask h.1 h.3) refl
input_again form (Input.Got message) rest h =
    rw (text_again (spelling_in (times_of form) message) rest h.1, message_again form message h.0 h.2) refl
input_again form (Input.Work number machine) rest h =
    ap (λ bytes. bounded_at w32 greatest_record bytes >>= λ n. machine_at n.1 >>= λ m. Some (Input.Work n.0 m.0, m.1)) (append_assoc (to_be_bytes w32 number) (machine_byte machine ∷ []) rest)
    ∙ rw (bounded_again w32 (2 ^ 32) wide32 greatest_record number (machine_byte machine ∷ rest) (omega (arith, h)) h, machine_again machine) refl
input_again form Input.Tick rest h = refl
input_again form (Input.Force number) rest h = rw (bounded_again w32 (2 ^ 32) wide32 greatest_record number rest (omega (arith, h)) h) refl
input_again form (Input.Acked identity) rest h =
    rw (text_again (parcel_spelling (Parcel.Ack identity)) rest h.1, parcel_again form (Parcel.Ack identity) h.0) refl

-- ---- entries

pub entry_again : (form : Form) (e : Entry) → e.second ≤ greatest_second → HasParts form e.input → IsReadAgain form e
unfolding entry_at
entry_again form e s h rest =
    ap (λ bytes. bounded_at w64 greatest_second bytes >>= λ second. input_at form (tag_of e.input) second.1 >>= λ input. Some (record { second = second.0; input = input.0 }, input.1)) (append_assoc (to_be_bytes w64 e.second) (body_of form e.input) rest)
    ∙ rw (bounded_again w64 (2 ^ 64) wide64 greatest_second e.second (body_of form e.input ++ rest) (omega (arith, s)) s, input_again form e.input rest h) refl

pub of_again : (form : Form) (e : Entry) (bytes : List ℕ) → IsReadAgain form e → bytes ≡ entry_spelling form e → (rest : List ℕ) → entry_of form (bytes ++ rest) ≡ Some (e, length bytes)
of_again form e bytes h b rest =
    let found : entry_at form (bytes ++ rest) ≡ Some (e, rest) = ap (λ t. entry_at form (t ++ rest)) b ∙ h rest in
    let l : length (bytes ++ rest) - length rest ≡ length bytes = omega (arith, length-append bytes rest) in
    ap (option_map (λ (x : Entry × List ℕ). (x.0, length (bytes ++ rest) - length x.1))) found ∙ ap (λ n. Some (e, n)) l

-- ---- payloads

entries_again : (form : Form) (es : List Entry) (fuel : ℕ) → AllByRecursion (IsReadAgain form) es → length (flat_map (entry_spelling form) es) ≤ fuel → entries_in form fuel (flat_map (entry_spelling form) es) ≡ Some es
unfolding entries_in
entries_again form [] fuel h l = refl
entries_again form (e ∷ es) zero h l = absurd (omega (arith, l, some_bytes form e, length-append (entry_spelling form e) (flat_map (entry_spelling form) es)))
entries_again form (e ∷ es) (suc fuel) h l =
    rw (h.0 (flat_map (entry_spelling form) es), entries_again form es fuel h.1 (omega (arith, l, some_bytes form e, length-append (entry_spelling form e) (flat_map (entry_spelling form) es)))) refl

-- the byte of a form says the form
form_again : (form : Form) → form_of (form_byte form) ≡ Some form
form_again Form.One = refl
form_again Form.Two = refl

pub payload_again : (form : Form) (es : List Entry) → AllByRecursion (IsReadAgain form) es → payload_of (payload_spelling form es) ≡ Some es
unfolding payload_of
payload_again form es h =
    ap (λ o. o >>= λ f. entries_in f (length (flat_map (entry_spelling form) es)) (flat_map (entry_spelling form) es)) (form_again form)
    ∙ entries_again form es (length (flat_map (entry_spelling form) es)) h (omega arith)

-- a payload with an entry is a batch's
pub batch_again : (payload : List ℕ) (es : List Entry) → 0 < length es → payload_of payload ≡ Some es → batch_of payload ≡ Some es
batch_again payload [] n h = absurd (omega (arith, n))
batch_again payload (e ∷ es) n h = ap (λ o. o >>= not_empty) h
