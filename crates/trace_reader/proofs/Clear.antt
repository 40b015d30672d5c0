-- The line of an event has no line feed but the one at its end.
use Rattle.std.proofs.Common.{◌≡◌, ℕ, zero, suc, ◌+◌, ◌/◌, ◌%◌, List, [], ◌∷◌, ◌++◌, Bool, true, false, not, ◌&&◌, cond, eqb, ltb, pos, negsuc, Option, Some, None, decimal, refl, ap, ◌∙◌, arith}
use Rattle.std.specs.Prelude.{IfSome}
use Rattle.std.specs.Char.{digit_char}
use Rattle.std.specs.Fmt.{digits, digits_onto}
use Rattle.std.specs.List.{list_all, flat_map, AllByRecursion}
use Rattle.std.proofs.lemmas.Bool.{false≢true}
use Rattle.std.proofs.lemmas.Bool.Decides.{nat_tests}
use Rattle.json.specs.Print.{escape_letter, escape_byte, quoted}
use Rattle.serde_json.specs.Data.{Num, unsigned, negative, float, Data, null, boolean, number, string, array, object, Items, no_items, item, Members, no_members, member}
use Rattle.serde_json.specs.Written.{number_text, comma_if, compact_text, items_text, members_text}
use Rattle.uuid.specs.Text.{by_index, lower, is_hyphen_place, hex_digit, nibble, digit_place}
use Rattle.nsi_base.specs.Bytes.{is_name_byte}
use Rattle.nsi_base.specs.Words.{behind}
use Rattle.nsi_primitive.specs.Ids.{bytes_of, id_text}
use Rattle.nsi_primitive.specs.Ranges.{IsName, IsRangedAsk, IsRangedEvent, IsRangedHappening, IsRangedInput, IsRangedWhat}
use Rattle.nsi_primitive.specs.States.{machine_text}
use Rattle.nsi_primitive.specs.declared.ask.Ask.{Ask}
use Rattle.nsi_primitive.specs.declared.ask.AskAnswer.{AskAnswer}
use Rattle.nsi_primitive.specs.declared.ask.NumbersAsked.{NumbersAsked}
use Rattle.nsi_primitive.specs.declared.ask.What.{What}
use Rattle.nsi_primitive.specs.declared.kind.Directionality.{Directionality}
use Rattle.nsi_primitive.specs.declared.entry.Event.{Event}
use Rattle.nsi_primitive.specs.declared.entry.Happening.{Happening}
use Rattle.nsi_primitive.specs.declared.entry.Input.{Input}
use Rattle.nsi_primitive.specs.declared.state.Machine.{Machine}
use Rattle.ask_text.specs.Asks as asks
use Rattle.json_fields.specs.declared.time_form.TimeForm.{TimeForm}
use Rattle.json_primitives.specs.Spelling.{data_of, ack_data}
use Rattle.stp_topology.specs.Network.{name_of}
use Rattle.stp_topology.specs.declared.network.Network.{Network}
use Rattle.trace_text.specs.Lines.{answer_text, input_verb, input_words, verb_of, what_words}
use Rattle.trace_reader.proofs.Again.{front_of, joined}

-- none of the bytes is a line feed
abbrev pub IsClear : List ℕ → Type 0
IsClear bytes = list_all (λ b. not (eqb b 10)) bytes ≡ true

both : (a b : Bool) → (a && b) ≡ true → (a ≡ true) × (b ≡ true)
both a b h = grind arith

clear_front : (b : ℕ) (bs : List ℕ) → eqb b 10 ≡ false → IsClear bs → IsClear (b ∷ bs)
clear_front b bs h g = rw (h, g) refl

clear_then : (v w : List ℕ) → IsClear v → IsClear w → IsClear (v ++ w)
clear_then [] w h g = g
clear_then (b ∷ bs) w h g =
    let p = both (not (eqb b 10)) (list_all (λ b. not (eqb b 10)) bs) h in
    rw (p.0, clear_then bs w p.1 g) refl

clear_either : (t : Bool) (v w : List ℕ) → (t ≡ true → IsClear v) → (t ≡ false → IsClear w) → IsClear (cond t v w)
clear_either true v w h g = h refl
clear_either false v w h g = g refl

---- Numbers, names and ids

glyph_clear : (d : ℕ) → eqb (cond (ltb d 10) (48 + d) (87 + d)) 10 ≡ false
glyph_clear d = grind (arith, nat_tests)

digits_clear : (k n : ℕ) (bs : List ℕ) → IsClear bs → IsClear (digits_onto k 10 false n bs)
digits_clear zero n bs h = h
digits_clear (suc k) n bs h =
    let more = clear_front (cond (ltb (n % 10) 10) (48 + n % 10) (87 + n % 10)) bs (glyph_clear (n % 10)) h in
    clear_either (eqb (n / 10) 0) _ _ (λ _. more) (λ _. digits_clear k (n / 10) _ more)

decimal_clear : (n : ℕ) → IsClear (decimal n)
unfolding digits
decimal_clear n = digits_clear 64 n [] refl

name_byte : (b : ℕ) → is_name_byte b ≡ true → eqb b 10 ≡ false
name_byte b h = grind (arith, nat_tests)

name_bytes : (bs : List ℕ) → list_all is_name_byte bs ≡ true → IsClear bs
name_bytes [] h = refl
name_bytes (b ∷ bs) h =
    let p = both (is_name_byte b) (list_all is_name_byte bs) h in
    clear_front b bs (name_byte b p.0) (name_bytes bs p.1)

name_clear : (bs : List ℕ) → IsName bs → IsClear bs
name_clear bs h = name_bytes bs (both _ (list_all is_name_byte bs) h).1

places_clear : (n : ℕ) (f : ℕ → ℕ) → ((k : ℕ) → eqb (f k) 10 ≡ false) → IsClear (by_index n f)
unfolding by_index
places_clear zero f h = refl
places_clear (suc n) f h = clear_then (by_index n f) (f n ∷ []) (places_clear n f h) (clear_front (f n) [] (h n) refl)

digit_or_hyphen : (hyphen : Bool) (d : ℕ) → eqb (cond hyphen 45 (hex_digit lower d)) 10 ≡ false
digit_or_hyphen hyphen d = grind (arith, nat_tests)

id_clear : (n : ℕ) → IsClear (id_text n)
unfolding id_text
id_clear n =
    places_clear 36 (λ k. cond (is_hyphen_place k) 45 (hex_digit lower (nibble (bytes_of n) (digit_place k))))
    (λ k. digit_or_hyphen (is_hyphen_place k) (nibble (bytes_of n) (digit_place k)))

---- JSON

letter_clear : (x : ℕ) → eqb (escape_letter x) 10 ≡ false
letter_clear x = grind (arith, nat_tests)

high_clear : (x : ℕ) → ltb x 32 ≡ false → eqb x 10 ≡ false
high_clear x h = grind (arith, nat_tests)

byte_clear : (x : ℕ) → IsClear (escape_byte x)
unfolding escape_byte
byte_clear x =
    clear_either (ltb 0 (escape_letter x)) _ _ (λ _. clear_front 92 (escape_letter x ∷ []) refl (clear_front (escape_letter x) [] (letter_clear x) refl))
    (λ _. clear_either (ltb x 32) _ _
    (λ _. clear_front (digit_char (x / 16)) (digit_char (x % 16) ∷ []) (glyph_clear (x / 16)) (clear_front (digit_char (x % 16)) [] (glyph_clear (x % 16)) refl))
    (λ h. clear_front x [] (high_clear x h) refl))

escaped_clear : (bs : List ℕ) → IsClear (flat_map escape_byte bs)
escaped_clear [] = refl
escaped_clear (b ∷ bs) = clear_then (escape_byte b) (flat_map escape_byte bs) (byte_clear b) (escaped_clear bs)

quoted_clear : (bs : List ℕ) → IsClear (quoted bs)
quoted_clear bs = clear_then (flat_map escape_byte bs) (34 ∷ []) (escaped_clear bs) refl

number_clear : (n : Num) → IsClear (number_text n)
number_clear (unsigned n) = decimal_clear n
number_clear (negative (pos n)) = decimal_clear n
number_clear (negative (negsuc n)) = decimal_clear (suc n)
number_clear (float x) = refl

boolean_clear : (b : Bool) → IsClear (compact_text (boolean b))
boolean_clear true = refl
boolean_clear false = refl

comma_clear : (later : Bool) (bs : List ℕ) → IsClear bs → IsClear (comma_if later ++ bs)
comma_clear true bs h = h
comma_clear false bs h = h

mutual
  data_clear : (d : Data) → IsClear (compact_text d)
  data_clear null = refl
  data_clear (boolean b) = boolean_clear b
  data_clear (number n) = number_clear n
  data_clear (string s) = quoted_clear s
  data_clear (array ds) = items_clear false ds
  data_clear (object ms) = members_clear false ms

  items_clear : (later : Bool) (ds : Items) → IsClear (items_text later ds)
  items_clear later no_items = refl
  items_clear later (item d ds) = comma_clear later _ (clear_then (compact_text d) (items_text true ds) (data_clear d) (items_clear true ds))

  members_clear : (later : Bool) (ms : Members) → IsClear (members_text later ms)
  members_clear later no_members = refl
  members_clear later (member k d ms) =
      comma_clear later _ (clear_then (quoted k) (58 ∷ (compact_text d ++ members_text true ms)) (quoted_clear k) (clear_then (compact_text d) (members_text true ms) (data_clear d) (members_clear true ms)))

---- Asks

abbrev AreClear : List (List ℕ) → Type 0
AreClear ws = AllByRecursion IsClear ws

behind_clear : (ws : List (List ℕ)) → AreClear ws → IsClear (behind ws)
behind_clear [] h = refl
behind_clear (w ∷ ws) h = clear_then w (behind ws) h.0 (behind_clear ws h.1)

asked_verb_clear : (w : What) → IsClear (asks.verb_of w)
unfolding asks.verb_of
asked_verb_clear (What.Reserve r) = refl
asked_verb_clear What.Commit = refl
asked_verb_clear What.Abort = refl
asked_verb_clear What.Provision = refl
asked_verb_clear What.Release = refl
asked_verb_clear What.Terminate = refl
asked_verb_clear What.Summary = refl
asked_verb_clear (What.Notifications numbers) = refl
asked_verb_clear (What.Results numbers) = refl
asked_verb_clear What.Recursive = refl

label_clear : (label : Option (List ℕ)) → IfSome label IsName → AreClear (asks.label_words label)
label_clear None h = tt
label_clear (Some l) h = (name_clear l h, tt)

version_clear : (version : Option ℕ) → AreClear (asks.version_words version)
version_clear None = tt
version_clear (Some v) = (decimal_clear v, tt)

way_clear : (d : Directionality) → AreClear (asks.way_words d)
way_clear Directionality.Bidirectional = tt
way_clear Directionality.Unidirectional = (refl, tt)

both_clear : (vs ws : List (List ℕ)) → AreClear vs → AreClear ws → AreClear (vs ++ ws)
both_clear [] ws h i = i
both_clear (v ∷ vs) ws h i = (h.0, both_clear vs ws h.1 i)

numbers_clear : (numbers : Option NumbersAsked) → AreClear (asks.numbers_words numbers)
numbers_clear None = tt
numbers_clear (Some n) = (decimal_clear n.from, (decimal_clear n.to, tt))

asked_clear : (w : What) → IsRangedWhat w → AreClear (asks.what_words w)
asked_clear (What.Reserve r) h = (name_clear r.source h.source, (name_clear r.dest h.dest, (decimal_clear r.capacity, (decimal_clear r.start, (decimal_clear r.end, both_clear (asks.version_words r.version) (asks.way_words r.directionality) (version_clear r.version) (way_clear r.directionality))))))
asked_clear What.Commit h = tt
asked_clear What.Abort h = tt
asked_clear What.Provision h = tt
asked_clear What.Release h = tt
asked_clear What.Terminate h = tt
asked_clear What.Summary h = tt
asked_clear (What.Notifications numbers) h = numbers_clear numbers
asked_clear (What.Results numbers) h = numbers_clear numbers
asked_clear What.Recursive h = tt

ask_clear : (a : Ask) → IsRangedAsk a → IsClear (asks.ask_text a)
ask_clear a h =
    clear_then (asks.verb_of a.what) (behind (asks.label_words a.label) ++ behind (asks.what_words a.what)) (asked_verb_clear a.what)
    (clear_then (behind (asks.label_words a.label)) (behind (asks.what_words a.what)) (behind_clear (asks.label_words a.label) (label_clear a.label h.label))
    (behind_clear (asks.what_words a.what) (asked_clear a.what h.what)))

---- Events

answer_clear : (a : AskAnswer) → IsClear (answer_text a)
unfolding answer_text
answer_clear AskAnswer.Sent = refl
answer_clear AskAnswer.NoId = refl
answer_clear (AskAnswer.Outstanding id) = id_clear id

machine_clear : (m : Machine) → IsClear (machine_text m)
unfolding machine_text
machine_clear Machine.Reserve = refl
machine_clear Machine.Provision = refl
machine_clear Machine.Lifecycle = refl

input_clear : (second : ℕ) (i : Input) (answer : Option AskAnswer) → IsRangedInput i → AreClear (input_words second i answer)
input_clear second (Input.Ask n ask) None h = (ask_clear ask h.1, tt)
input_clear second (Input.Ask n ask) (Some answer) h = (answer_clear answer, (ask_clear ask h.1, tt))
input_clear second (Input.Got m) answer h = (data_clear (data_of TimeForm.DateTime m), tt)
input_clear second (Input.Work n machine) answer h = (decimal_clear n, (machine_clear machine, tt))
input_clear second Input.Tick answer h = (decimal_clear second, tt)
input_clear second (Input.Force n) answer h = (decimal_clear n, tt)
input_clear second (Input.Acked i) answer h = (data_clear (ack_data i), tt)

words_clear : (w : Happening) → IsRangedHappening w → AreClear (what_words w)
words_clear (Happening.Entry entry answer) h = input_clear entry.second entry.input answer h.0.input
words_clear (Happening.Sync count) h = (decimal_clear count, tt)
words_clear (Happening.Restart count) h = (decimal_clear count, tt)

joined_clear : (ws : List (List ℕ)) → AreClear ws → IsClear (joined ws)
joined_clear [] h = refl
joined_clear (w ∷ ws) h = clear_then w (behind ws) h.0 (behind_clear ws h.1)

input_verb_clear : (i : Input) → IsClear (input_verb i)
input_verb_clear (Input.Ask n ask) = refl
input_verb_clear (Input.Got message) = refl
input_verb_clear (Input.Work n machine) = refl
input_verb_clear Input.Tick = refl
input_verb_clear (Input.Force n) = refl
input_verb_clear (Input.Acked identity) = refl

verb_clear : (w : Happening) → IsClear (verb_of w)
verb_clear (Happening.Entry entry answer) = input_verb_clear entry.input
verb_clear (Happening.Sync count) = refl
verb_clear (Happening.Restart count) = refl

pub event_clear : (t : Network) (e : Event) → IsName (name_of t e.agent) → IsRangedEvent e → IsClear (front_of t e)
event_clear t e n h =
    clear_then (verb_of e.what) (32 ∷ (name_of t e.agent ++ 32 ∷ joined (what_words e.what))) (verb_clear e.what)
    (clear_then (name_of t e.agent) (32 ∷ joined (what_words e.what)) (name_clear (name_of t e.agent) n) (joined_clear (what_words e.what) (words_clear e.what h.what)))

---- The first line of a text

-- what stands before the first line feed, and what behind it
pub one_feed : (v w r s : List ℕ) → IsClear v → IsClear w → v ++ 10 ∷ r ≡ w ++ 10 ∷ s → (v ≡ w) × (r ≡ s)
one_feed [] [] r s h g e = (refl, cc)
one_feed [] (c ∷ cs) r s h g e = let first : 10 ≡ c = cc in let p = both (not (eqb c 10)) (list_all (λ b. not (eqb b 10)) cs) g in absurd (false≢true (rw (← first) at p.0))
one_feed (b ∷ bs) [] r s h g e = let first : b ≡ 10 = cc in let p = both (not (eqb b 10)) (list_all (λ b. not (eqb b 10)) bs) h in absurd (false≢true (rw first at p.0))
one_feed (b ∷ bs) (c ∷ cs) r s h g e =
    let first : b ≡ c = cc in
    let more : bs ++ 10 ∷ r ≡ cs ++ 10 ∷ s = cc in
    let p = both (not (eqb b 10)) (list_all (λ b. not (eqb b 10)) bs) h in
    let q = both (not (eqb c 10)) (list_all (λ b. not (eqb b 10)) cs) g in
    let rest = one_feed bs cs r s p.1 q.1 more in
    (ap (λ x. x ∷ bs) first ∙ ap (λ x. c ∷ x) rest.0, rest.1)
