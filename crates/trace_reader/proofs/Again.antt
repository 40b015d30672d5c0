-- What is printed is read.
use Rattle.std.proofs.Common.{◌≡◌, ℕ, ◌^◌, ◌<◌, ◌≤◌, List, [], ◌∷◌, ◌++◌, Option, Some, None, option_map, decimal, refl, sym, ap, ◌∙◌, append_assoc, arith}
use Rattle.std.specs.Prelude.{IfSome}
use Rattle.std.proofs.lemmas.Bool.{false≢true}
use Rattle.std.proofs.lemmas.List.{append-nil, append_cancel_right}
use Rattle.nsi_base.specs.Range.{greatest_second, greatest_record}
use Rattle.nsi_base.specs.Words.{behind}
use Rattle.nsi_base.specs.declared.words.Blanks.TheVariants.{Space}
use Rattle.nsi_base.proofs.Joined.{word_from_name, word_from_decimal}
use Rattle.nsi_base.proofs.Written.{number_again}
use Rattle.nsi_primitive.specs.Printable.{IsPrintableTaken, IsPrintableHappening}
use Rattle.nsi_primitive.specs.Ranges.{IsSecond, IsRangedAnswer, IsRangedEntry, IsRangedEvent, IsRangedHappening, IsRangedIdentity, IsSpellable, IsSpellableAsk}
use Rattle.nsi_primitive.specs.States.{first_state, machine_text, machine_named}
use Rattle.nsi_primitive.specs.declared.ask.Ask.{Ask}
use Rattle.nsi_primitive.specs.declared.ask.AskAnswer.{AskAnswer}
use Rattle.nsi_primitive.specs.declared.entry.Entry.{Entry}
use Rattle.nsi_primitive.specs.declared.entry.Event.{Event}
use Rattle.nsi_primitive.specs.declared.entry.Happening.{Happening}
use Rattle.nsi_primitive.specs.declared.entry.Input.{Input}
use Rattle.nsi_primitive.specs.declared.message.Identity.{Identity}
use Rattle.nsi_primitive.specs.declared.message.Message.{Message}
use Rattle.nsi_primitive.specs.declared.message.Parcel.{Parcel}
use Rattle.nsi_primitive.specs.declared.state.Machine.{Machine}
use Rattle.nsi_primitive.proofs.IdTexts.{id_text_again}
use Rattle.ask_text.specs.Asks.{ask_text}
use Rattle.json_primitives.specs.Spelling.{spelling, parcel_spelling}
use Rattle.stp_topology.specs.Network.{name_of}
use Rattle.stp_topology.specs.declared.network.Network.{Network}
use Rattle.trace_text.specs.Lines.{HasLine, answer_text, input_verb, input_words, line_of, verb_of, what_words}
use Rattle.trace_reader.specs.Laws.{AreTextsReadAgain, HasNames, MayStand}
use Rattle.trace_reader.specs.Moments.{HappensNow, IsTakenNow, IsOfMoment, IsEventOf}
use Rattle.trace_reader.specs.Reading.{taken, outstanding_in, answer_in, asked_in, got_in, acked_in, worked_in, forced_in, ticked_in, count_in, what_in, event_in}
use Rattle.trace_reader.proofs.Cuts.{word_cut, answer_is_word, verb_is_word}

---- What stands behind an agent's name

-- words with a space between them
abbrev pub joined : List (List ℕ) → List ℕ
joined [] = []
joined (word ∷ words) = word ++ behind words

alone : {A : Type 0} (f : List ℕ → A) (w : List ℕ) → f (w ++ []) ≡ f w
alone f w = ap f (append-nil w)

tick_again : (second : ℕ) → IsSecond second → ticked_in (decimal second ++ []) ≡ Some (taken second Input.Tick None)
unfolding ticked_in
tick_again second h = rw (append-nil (decimal second), number_again 0 greatest_second second (omega (arith, h)) (omega arith) h) refl

record_again : (n : ℕ) → n ≤ greatest_record → (n < 2 ^ 64) × (0 ≤ n)
record_again n h = (omega (arith, h), omega arith)

machine_again : (m : Machine) → machine_named (machine_text m) ≡ Some m
unfolding machine_named first_state machine_text
machine_again Machine.Reserve = refl
machine_again Machine.Provision = refl
machine_again Machine.Lifecycle = refl

force_again : (now n : ℕ) → n ≤ greatest_record → forced_in now (decimal n ++ []) ≡ Some (taken now (Input.Force n) None)
unfolding forced_in
force_again now n h = rw (append-nil (decimal n), number_again 0 greatest_record n (omega (arith, h)) (omega arith) h) refl

work_again : (now n : ℕ) (m : Machine) → n ≤ greatest_record → worked_in now (decimal n ++ 32 ∷ (machine_text m ++ [])) ≡ Some (taken now (Input.Work n m) None)
unfolding worked_in
work_again now n m h =
    rw (append-nil (machine_text m), word_cut (decimal n) (machine_text m) (word_from_decimal Space n (omega (arith, h))), number_again 0 greatest_record n (omega (arith, h)) (omega arith) h, machine_again m) refl

got_again : AreTextsReadAgain → (now : ℕ) (m : Message) → IsSpellable m → got_in now (spelling m ++ []) ≡ Some (taken now (Input.Got m) None)
unfolding got_in
got_again texts now m h = rw (append-nil (spelling m), texts.messages m h) refl

acked_again : AreTextsReadAgain → (now : ℕ) (i : Identity) → IsRangedIdentity i → acked_in now (parcel_spelling (Parcel.Ack i) ++ []) ≡ Some (taken now (Input.Acked i) None)
unfolding acked_in
acked_again texts now i h = rw (append-nil (parcel_spelling (Parcel.Ack i)), texts.acks i h) refl

answer_again : (a : AskAnswer) → IsRangedAnswer a → answer_in (answer_text a) ≡ Some a
unfolding answer_in outstanding_in answer_text
answer_again AskAnswer.Sent h = refl
answer_again AskAnswer.NoId h = refl
answer_again (AskAnswer.Outstanding id) h = ap (option_map AskAnswer.Outstanding) (id_text_again id h)

ask_again : AreTextsReadAgain → (now asks : ℕ) (ask : Ask) (a : AskAnswer) → IsSpellableAsk ask → IsRangedAnswer a
    → asked_in now asks (answer_text a ++ 32 ∷ (ask_text ask ++ [])) ≡ Some (taken now (Input.Ask asks ask) (Some a))
unfolding asked_in
ask_again texts now asks ask a h r =
    rw (append-nil (ask_text ask), word_cut (answer_text a) (ask_text ask) (answer_is_word a), answer_again a r, texts.asks ask h) refl

---- By the first word

-- an entry, by its parts
abbrev entry_of : ℕ → Input → Entry
entry_of second input = record { second = second; input = input }

taken_again : AreTextsReadAgain → (now asks second : ℕ) (input : Input) (answer : Option AskAnswer)
    → IsTakenNow now asks (entry_of second input) → IsPrintableTaken (entry_of second input) answer → IsRangedEntry (entry_of second input) → IfSome answer IsRangedAnswer
    → what_in (input_verb input) now asks (joined (input_words second input answer)) ≡ Some (taken second input answer)
unfolding what_in
taken_again texts now asks second (Input.Ask number ask) None n p r a = absurd (false≢true (p.answered.0 refl))
taken_again texts now asks second (Input.Ask number ask) (Some answer) n p r a =
    rw (n.timely, n.numbered) (ask_again texts now asks ask answer (record { ranged = r.input.1; printable = p.entry }) a)
taken_again texts now asks second (Input.Got m) None n p r a = rw n.timely (got_again texts now m (record { ranged = r.input; printable = p.entry }))
taken_again texts now asks second (Input.Got m) (Some answer) n p r a = absurd (false≢true (p.answered.1 refl))
taken_again texts now asks second (Input.Work number machine) None n p r a = rw n.timely (work_again now number machine r.input)
taken_again texts now asks second (Input.Work number machine) (Some answer) n p r a = absurd (false≢true (p.answered.1 refl))
taken_again texts now asks second Input.Tick None n p r a = tick_again second r.second
taken_again texts now asks second Input.Tick (Some answer) n p r a = absurd (false≢true (p.answered.1 refl))
taken_again texts now asks second (Input.Force number) None n p r a = rw n.timely (force_again now number r.input)
taken_again texts now asks second (Input.Force number) (Some answer) n p r a = absurd (false≢true (p.answered.1 refl))
taken_again texts now asks second (Input.Acked i) None n p r a = rw n.timely (acked_again texts now i r.input)
taken_again texts now asks second (Input.Acked i) (Some answer) n p r a = absurd (false≢true (p.answered.1 refl))

count_again : (n : ℕ) (make : ℕ → Happening) → n < 2 ^ 64 → option_map make (count_in (decimal n ++ [])) ≡ Some (make n)
count_again n make h = rw (append-nil (decimal n), number_again 0 18446744073709551615 n h (omega arith) (omega (arith, h))) refl

what_again : AreTextsReadAgain → (now asks : ℕ) (w : Happening) → HappensNow now asks w → IsPrintableHappening w → IsRangedHappening w
    → what_in (verb_of w) now asks (joined (what_words w)) ≡ Some w
unfolding what_in
what_again texts now asks (Happening.Entry entry answer) n p r = taken_again texts now asks entry.second entry.input answer n p r.0 r.1
what_again texts now asks (Happening.Sync count) n p r = count_again count Happening.Sync r
what_again texts now asks (Happening.Restart count) n p r = count_again count Happening.Restart r

---- Events

-- something stands behind the name
input_behind : (second : ℕ) (i : Input) (answer : Option AskAnswer) → behind (input_words second i answer) ≡ 32 ∷ joined (input_words second i answer)
input_behind second (Input.Ask number ask) None = refl
input_behind second (Input.Ask number ask) (Some answer) = refl
input_behind second (Input.Got message) answer = refl
input_behind second (Input.Work number machine) answer = refl
input_behind second Input.Tick answer = refl
input_behind second (Input.Force number) answer = refl
input_behind second (Input.Acked identity) answer = refl

what_behind : (w : Happening) → behind (what_words w) ≡ 32 ∷ joined (what_words w)
what_behind (Happening.Entry entry answer) = input_behind entry.second entry.input answer
what_behind (Happening.Sync count) = refl
what_behind (Happening.Restart count) = refl

-- the line of an event, without its line feed
abbrev pub front_of : Network → Event → List ℕ
front_of t e = verb_of e.what ++ 32 ∷ (name_of t e.agent ++ 32 ∷ joined (what_words e.what))

pub line_is_front : (t : Network) (e : Event) → line_of t e ≡ front_of t e ++ 10 ∷ []
unfolding line_of
line_is_front t e =
    ap (λ x. verb_of e.what ++ (32 ∷ (name_of t e.agent ++ x) ++ 10 ∷ [])) (what_behind e.what)
    ∙ sym (append_assoc (verb_of e.what) (32 ∷ (name_of t e.agent ++ 32 ∷ joined (what_words e.what))) (10 ∷ []))

front_again : AreTextsReadAgain → (t : Network) (seconds : ℕ → ℕ) (asks : ℕ) (e : Event) → HasNames t → HasLine t e → IsOfMoment seconds asks e → IsRangedEvent e
    → event_in t seconds asks (front_of t e) ≡ Some e
unfolding event_in
front_again texts t seconds asks e names l m r =
    rw (
      word_cut (verb_of e.what) (name_of t e.agent ++ 32 ∷ joined (what_words e.what)) (verb_is_word e.what),
      word_cut (name_of t e.agent) (joined (what_words e.what)) (word_from_name Space (name_of t e.agent) (names.named e.agent l.agent)),
      names.found e.agent l.agent,
      what_again texts (seconds e.agent) asks e.what m l.printable r.what,
    ) refl

-- the print of an event is read as it
pub event_again : AreTextsReadAgain → (t : Network) (seconds : ℕ → ℕ) (asks : ℕ) (line : List ℕ) (e : Event) → HasNames t → IsEventOf t seconds asks line e → IsRangedEvent e
    → event_in t seconds asks line ≡ Some e
event_again texts t seconds asks line e names h r =
    let same : line ≡ front_of t e = append_cancel_right line (front_of t e) (10 ∷ []) (sym h.printed ∙ line_is_front t e) in
    ap (event_in t seconds asks) same ∙ front_again texts t seconds asks e names h.has_line h.of_moment r

pub same_some : {X : Type 0} (x y : X) (o : Option X) → o ≡ Some x → o ≡ Some y → x ≡ y
same_some x y o h g = cc

-- two events of one moment that have one line
pub apart : AreTextsReadAgain → (t : Network) (seconds : ℕ → ℕ) (asks : ℕ) (e f : Event) → HasNames t → MayStand t seconds asks e → MayStand t seconds asks f → line_of t e ≡ line_of t f → e ≡ f
apart texts t seconds asks e f names he hf same =
    let fronts : front_of t e ≡ front_of t f = append_cancel_right (front_of t e) (front_of t f) (10 ∷ []) (sym (line_is_front t e) ∙ (same ∙ line_is_front t f)) in
    same_some e f (event_in t seconds asks (front_of t e)) (front_again texts t seconds asks e names he.has_line he.of_moment he.ranged)
    (ap (event_in t seconds asks) fronts ∙ front_again texts t seconds asks f names hf.has_line hf.of_moment hf.ranged)
