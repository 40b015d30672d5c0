-- What is read is spelled so, each byte of it.
use Rattle.std.proofs.Common.{◌≡◌, ℕ, zero, suc, ◌-◌, ◌^◌, ◌<◌, Bool, true, false, cond, eqb, List, [], ◌∷◌, ◌++◌, length, take, Option, Some, None, option_map, Result, Ok, Err, bytes_eq, refl, sym, ap, subst, ◌∙◌, arith, Bor, All}
use Rattle.std.specs.Prelude.{IfOk}
use Rattle.std.specs.Global.{Vec}
use Rattle.std.specs.Int.{w32, w64, to_be_bytes}
use Rattle.std.specs.List.{flat_map, AllByRecursion}
use Rattle.std.proofs.lemmas.Bool.{eqb-true}
use Rattle.std.proofs.lemmas.List.{take_at, length-append}
use Rattle.std.proofs.lemmas.List.Elements.{recursion_from_All}
use Rattle.std.proofs.lemmas.Slice.Eq.{bytes_eq-Decides}
use Rattle.nsi_primitive.specs.declared.ask.Ask.{Ask}
use Rattle.nsi_primitive.specs.declared.entry.Entry.{Entry}
use Rattle.nsi_primitive.specs.declared.entry.Input.{Input}
use Rattle.nsi_primitive.specs.declared.message.Identity.{Identity}
use Rattle.nsi_primitive.specs.declared.message.Message.{Message}
use Rattle.nsi_primitive.specs.declared.message.Parcel.{Parcel}
use Rattle.nsi_primitive.specs.declared.state.Machine.{Machine}
use Rattle.nsi_base.specs.Range.{greatest_second, greatest_record}
use Rattle.nsi_base.specs.Words.{words_of}
use Rattle.nsi_base.specs.declared.words.Blanks.TheVariants.{Space}
use Rattle.ask_text.specs.Asks.{ask_text}
use Rattle.ask_text.specs.Reading.{ask_in, as_spelled as ask_spelled, ask_of}
use Rattle.json_primitives.specs.Lines.{object_of}
use Rattle.json_primitives.specs.Spelling.{spelling_in, parcel_spelling_in, parcel_spelling}
use Rattle.nsi_base.specs.Options.{◌>>=◌}
use Rattle.journal_entry.specs.declared.fault.EntryFault.{EntryFault}
use Rattle.journal_entry.specs.declared.fault.PayloadFault.{PayloadFault}
use Rattle.journal_entry.specs.Faults.{Gives, GivesAll}
use Rattle.journal_entry.specs.Forms.{times_of, holds_ask, holds_message, form_byte, form_of}
use Rattle.journal_entry.specs.declared.form.Form.{Form}
use Rattle.journal_entry.specs.Fields.{IsByte, number_at, bounded_at, text_at, text_field}
use Rattle.journal_entry.specs.Lines.{what_is_read, as_spelled, parcel_in, if_message, if_ack, if_held as message_held, message_in, ack_in}
use Rattle.journal_entry.specs.Entries.{machine_of, if_held as ask_held, held_ask_in, ask_at, got_at, machine_at, work_at, force_at, acked_at, input_at, entry_at}
use Rattle.journal_entry.specs.Spelling.{machine_byte, tag_of, body_of, entry_spelling}
use Rattle.journal_entry.specs.Payloads.{onto, entries_in, payload_of, IsSpelledPayload}
use Rattle.journal_entry.proofs.Parts.{IsBytes, IsBytes-rest, bind_some, test_some, some_is, Takes, Takes-then, wide32, wide64, number_takes, bounded_takes, text_takes}

-- ---- lines and asks

-- the text that was read as an ask is the ask's text
pub ask_is_spelled : (text : List ℕ) (a : Ask) → ask_of text ≡ Some a → ask_text a ≡ text
unfolding ask_of
ask_is_spelled text a e =
    let b = bind_some (ask_in (words_of Space text)) (ask_spelled text) a e in
    let t = test_some (bytes_eq (ask_text b.0) text) b.0 a b.2 in
    ap ask_text (sym t.1) ∙ (bytes_eq-Decides (ask_text b.0) text).0 t.0

parcel_is_spelled : (form : Form) (text : List ℕ) (p : Parcel) → parcel_in form text ≡ Some p → parcel_spelling_in (times_of form) p ≡ text
unfolding parcel_in
parcel_is_spelled form text p e =
    let b = bind_some (what_is_read (object_of text)) (as_spelled form text) p e in
    let t = test_some (bytes_eq (parcel_spelling_in (times_of form) b.0) text) b.0 p b.2 in
    ap (parcel_spelling_in (times_of form)) (sym t.1) ∙ (bytes_eq-Decides (parcel_spelling_in (times_of form) b.0) text).0 t.0

from_message : (p : Parcel) (m : Message) → if_message p ≡ Some m → p ≡ Parcel.Message m
from_message (Parcel.Message n) m e = ap (λ k. Parcel.Message k) (some_is n m e)
from_message (Parcel.Ack i) m e = absurd cc

from_ack : (p : Parcel) (i : Identity) → if_ack p ≡ Some i → p ≡ Parcel.Ack i
from_ack (Parcel.Message n) i e = absurd cc
from_ack (Parcel.Ack j) i e = ap (λ k. Parcel.Ack k) (some_is j i e)

-- a test of what was read
held_some : {A : Type 0} (b : Bool) (x y : A) → cond b (Some x) None ≡ Some y → x ≡ y
held_some b x y e = (test_some b x y e).1

message_is_spelled : (form : Form) (text : List ℕ) (m : Message) → message_in form text ≡ Some m → spelling_in (times_of form) m ≡ text
unfolding message_in
message_is_spelled form text m e =
    let b = bind_some (parcel_in form text) (λ parcel. if_message parcel >>= λ message. message_held form message) m e in
    let c = bind_some (if_message b.0) (λ message. message_held form message) m b.2 in
    let same : c.0 ≡ m = held_some (holds_message form c.0) c.0 m c.2 in
    let is : b.0 ≡ Parcel.Message m = from_message b.0 c.0 c.1 ∙ ap (λ k. Parcel.Message k) same in
    ap (parcel_spelling_in (times_of form)) (sym is) ∙ parcel_is_spelled form text b.0 b.1

held_ask_is_spelled : (form : Form) (text : List ℕ) (a : Ask) → held_ask_in form text ≡ Some a → ask_text a ≡ text
unfolding held_ask_in
held_ask_is_spelled form text a e =
    let b = bind_some (ask_of text) (ask_held form) a e in
    ask_is_spelled text a (b.1 ∙ ap (λ x. Some x) (held_some (holds_ask form b.0) b.0 a b.2))

ack_is_spelled : (form : Form) (text : List ℕ) (i : Identity) → ack_in form text ≡ Some i → parcel_spelling (Parcel.Ack i) ≡ text
unfolding ack_in
ack_is_spelled form text i e =
    let b = bind_some (parcel_in form text) if_ack i e in
    ap (parcel_spelling_in (times_of form)) (sym (from_ack b.0 i b.2)) ∙ parcel_is_spelled form text b.0 b.1

-- ---- inputs

-- an input of this tag stands at the front
abbrev Stands : Form → ℕ → List ℕ → Input × List ℕ → Type 0
Stands form tag bytes x = (tag_of x.0 ≡ tag) × Takes bytes (body_of form x.0) x.1

stands_in : (form : Form) (bytes : List ℕ) (i : Input) (rest : List ℕ) (x : Input × List ℕ) → Some (i, rest) ≡ Some x → Takes bytes (body_of form i) rest → Stands form (tag_of i) bytes x
stands_in form bytes i rest x e t = subst (Stands form (tag_of i) bytes) (some_is (i, rest) x e) (refl, t)

-- a text that is a spelling
spelled_field : (bytes text spelled rest : List ℕ) → IsBytes bytes → text_at bytes ≡ Some (text, rest) → spelled ≡ text → Takes bytes (text_field spelled) rest
spelled_field bytes text spelled rest fits e s = subst (λ t. Takes bytes (text_field t) rest) (sym s) (text_takes bytes text rest fits e)

ask_takes : (form : Form) (bytes : List ℕ) (x : Input × List ℕ) → IsBytes bytes → ask_at form bytes ≡ Some x → Stands form 1 bytes x
unfolding ask_at
ask_takes form bytes x fits e =
    let a = bind_some (number_at w32 bytes) (λ number. text_at number.1 >>= λ text. held_ask_in form text.0 >>= λ ask. Some (Input.Ask number.0 ask, text.1)) x e in
    let b = bind_some (text_at a.0.1) (λ text. held_ask_in form text.0 >>= λ ask. Some (Input.Ask a.0.0 ask, text.1)) x a.2 in
    let c = bind_some (held_ask_in form b.0.0) (λ ask. Some (Input.Ask a.0.0 ask, b.0.1)) x b.2 in
    let t0 = number_takes w32 (2 ^ 32) wide32 bytes a.0.0 a.0.1 fits a.1 in
    let t1 = spelled_field a.0.1 b.0.0 (ask_text c.0) b.0.1 t0.rest_fits b.1 (held_ask_is_spelled form b.0.0 c.0 c.1) in
    stands_in form bytes (Input.Ask a.0.0 c.0) b.0.1 x c.2 (Takes-then bytes (to_be_bytes w32 a.0.0) a.0.1 (text_field (ask_text c.0)) b.0.1 t0 t1)

got_takes : (form : Form) (bytes : List ℕ) (x : Input × List ℕ) → IsBytes bytes → got_at form bytes ≡ Some x → Stands form 2 bytes x
unfolding got_at
got_takes form bytes x fits e =
    let a = bind_some (text_at bytes) (λ text. message_in form text.0 >>= λ message. Some (Input.Got message, text.1)) x e in
    let b = bind_some (message_in form a.0.0) (λ message. Some (Input.Got message, a.0.1)) x a.2 in
    stands_in form bytes (Input.Got b.0) a.0.1 x b.2 (spelled_field bytes a.0.0 (spelling_in (times_of form) b.0) a.0.1 fits a.1 (message_is_spelled form a.0.0 b.0 b.1))

acked_takes : (form : Form) (bytes : List ℕ) (x : Input × List ℕ) → IsBytes bytes → acked_at form bytes ≡ Some x → Stands form 6 bytes x
unfolding acked_at
acked_takes form bytes x fits e =
    let a = bind_some (text_at bytes) (λ text. ack_in form text.0 >>= λ identity. Some (Input.Acked identity, text.1)) x e in
    let b = bind_some (ack_in form a.0.0) (λ identity. Some (Input.Acked identity, a.0.1)) x a.2 in
    stands_in form bytes (Input.Acked b.0) a.0.1 x b.2 (spelled_field bytes a.0.0 (parcel_spelling (Parcel.Ack b.0)) a.0.1 fits a.1 (ack_is_spelled form a.0.0 b.0 b.1))

force_takes : (form : Form) (bytes : List ℕ) (x : Input × List ℕ) → IsBytes bytes → force_at bytes ≡ Some x → Stands form 5 bytes x
unfolding force_at
force_takes form bytes x fits e =
    let a = bind_some (bounded_at w32 greatest_record bytes) (λ number. Some (Input.Force number.0, number.1)) x e in
    let t = bounded_takes w32 (2 ^ 32) wide32 greatest_record bytes a.0.0 a.0.1 fits a.1 in
    stands_in form bytes (Input.Force a.0.0) a.0.1 x a.2 t

by_tag : {A : Type 0} (tag n : ℕ) (a b : Option A) (x : A) (P : ℕ → Type 0) → cond (eqb tag n) a b ≡ Some x → (a ≡ Some x → P n) → (b ≡ Some x → P tag) → P tag
by_tag tag n a b x P e f g = by_test (eqb tag n) refl e
  where
    by_test : (t : Bool) → eqb tag n ≡ t → cond t a b ≡ Some x → P tag
    by_test true q h = subst P (sym (eqb-true tag n q)) (f h)
    by_test false q h = g h

-- the byte of the machine that it names
named_byte : (b : ℕ) (m : Machine) → machine_of b ≡ Some m → machine_byte m ≡ b
named_byte b m e =
    by_tag b 0 (Some Machine.Reserve) _ m (λ t. machine_byte m ≡ t) e (λ q. ap machine_byte (sym (some_is Machine.Reserve m q)))
    (λ e2. by_tag b 1 (Some Machine.Provision) _ m (λ t. machine_byte m ≡ t) e2 (λ q. ap machine_byte (sym (some_is Machine.Provision m q)))
    (λ e3. by_tag b 2 (Some Machine.Lifecycle) None m (λ t. machine_byte m ≡ t) e3 (λ q. ap machine_byte (sym (some_is Machine.Lifecycle m q))) (λ e4. absurd cc)))

mapped : (o : Option Machine) (bytes : List ℕ) (x : Machine × List ℕ) → option_map (λ machine. (machine, bytes)) o ≡ Some x → (o ≡ Some x.0) × (bytes ≡ x.1)
mapped None bytes x e = absurd cc
mapped (Some m) bytes x e =
    let s = some_is (m, bytes) x e in
    (ap (λ (p : Machine × List ℕ). Some p.0) s, ap (λ (p : Machine × List ℕ). p.1) s)

machine_takes : (bytes : List ℕ) (x : Machine × List ℕ) → IsBytes bytes → machine_at bytes ≡ Some x → Takes bytes (machine_byte x.0 ∷ []) x.1
unfolding machine_at
machine_takes [] x fits e = absurd cc
machine_takes (b ∷ bytes) x fits e =
    let m = mapped (machine_of b) bytes x e in
    record { parts = ap (λ k. k ∷ bytes) (sym (named_byte b x.0 m.0)) ∙ ap (λ r. machine_byte x.0 ∷ r) m.1; rest_fits = subst IsBytes m.1 (IsBytes-rest b bytes fits) }

work_takes : (form : Form) (bytes : List ℕ) (x : Input × List ℕ) → IsBytes bytes → work_at bytes ≡ Some x → Stands form 3 bytes x
unfolding work_at
work_takes form bytes x fits e =
    let a = bind_some (bounded_at w32 greatest_record bytes) (λ number. machine_at number.1 >>= λ machine. Some (Input.Work number.0 machine.0, machine.1)) x e in
    let b = bind_some (machine_at a.0.1) (λ machine. Some (Input.Work a.0.0 machine.0, machine.1)) x a.2 in
    let t0 = bounded_takes w32 (2 ^ 32) wide32 greatest_record bytes a.0.0 a.0.1 fits a.1 in
    let t1 = machine_takes a.0.1 b.0 t0.rest_fits b.1 in
    stands_in form bytes (Input.Work a.0.0 b.0.0) b.0.1 x b.2 (Takes-then bytes (to_be_bytes w32 a.0.0) a.0.1 (machine_byte b.0.0 ∷ []) b.0.1 t0 t1)

tick_takes : (form : Form) (bytes : List ℕ) (x : Input × List ℕ) → IsBytes bytes → Some (Input.Tick, bytes) ≡ Some x → Stands form 4 bytes x
tick_takes form bytes x fits e = stands_in form bytes Input.Tick bytes x e (record { parts = refl; rest_fits = fits })

input_takes : (form : Form) (tag : ℕ) (bytes : List ℕ) (x : Input × List ℕ) → IsBytes bytes → input_at form tag bytes ≡ Some x → Stands form tag bytes x
unfolding input_at
input_takes form tag bytes x fits e =
    by_tag tag 1 (ask_at form bytes) _ x (λ t. Stands form t bytes x) e (ask_takes form bytes x fits)
    (λ e2. by_tag tag 2 (got_at form bytes) _ x (λ t. Stands form t bytes x) e2 (got_takes form bytes x fits)
    (λ e3. by_tag tag 3 (work_at bytes) _ x (λ t. Stands form t bytes x) e3 (work_takes form bytes x fits)
    (λ e4. by_tag tag 4 (Some (Input.Tick, bytes)) _ x (λ t. Stands form t bytes x) e4 (tick_takes form bytes x fits)
    (λ e5. by_tag tag 5 (force_at bytes) _ x (λ t. Stands form t bytes x) e5 (force_takes form bytes x fits)
    (λ e6. by_tag tag 6 (acked_at form bytes) None x (λ t. Stands form t bytes x) e6 (acked_takes form bytes x fits) (λ e7. absurd cc))))))

-- ---- entries

pub entry_takes : (form : Form) (bytes : List ℕ) (x : Entry × List ℕ) → IsBytes bytes → entry_at form bytes ≡ Some x → Takes bytes (entry_spelling form x.0) x.1
unfolding entry_at
entry_takes form [] x fits e = absurd cc
entry_takes form (tag ∷ bytes) x fits e =
    let a = bind_some (bounded_at w64 greatest_second bytes) (λ second. input_at form tag second.1 >>= λ input. Some (record { second = second.0; input = input.0 }, input.1)) x e in
    let b = bind_some (input_at form tag a.0.1) (λ input. Some (record { second = a.0.0; input = input.0 }, input.1)) x a.2 in
    let t0 = bounded_takes w64 (2 ^ 64) wide64 greatest_second bytes a.0.0 a.0.1 (IsBytes-rest tag bytes fits) a.1 in
    let t1 = input_takes form tag a.0.1 b.0 t0.rest_fits b.1 in
    let t2 = Takes-then bytes (to_be_bytes w64 a.0.0) a.0.1 (body_of form b.0.0) b.0.1 t0 t1.1 in
    let made : Entry × List ℕ = (record { second = a.0.0; input = b.0.0 }, b.0.1) in
    subst (λ (y : Entry × List ℕ). Takes (tag ∷ bytes) (entry_spelling form y.0) y.1) (some_is made x b.2)
    (record { parts = ap (λ (t : List ℕ). tag ∷ t) t2.parts ∙ ap (λ k. k ∷ ((to_be_bytes w64 a.0.0 ++ body_of form b.0.0) ++ b.0.1)) (sym t1.0); rest_fits = t2.rest_fits })

-- the front of the bytes, as long as what was read
pub front_is : (bytes text rest : List ℕ) → bytes ≡ text ++ rest → take (length bytes - length rest) bytes ≡ text
front_is bytes text rest e =
    let l : length bytes - length rest ≡ length text = omega (arith, ap length e, length-append text rest) in
    ap (λ n. take n bytes) l ∙ (ap (take (length text)) e ∙ take_at text rest (length text) refl)

pub some_bytes : (form : Form) (e : Entry) → 0 < length (entry_spelling form e)
some_bytes form e = omega arith

-- ---- payloads

onto_some : (e : Entry) (o : Option (List Entry)) (es : List Entry) → onto e o ≡ Some es → (more : List Entry) × (o ≡ Some more) × (e ∷ more ≡ es)
onto_some e None es h = absurd cc
onto_some e (Some more) es h = (more, refl, some_is (e ∷ more) es h)

entries_take : (form : Form) (fuel : ℕ) (bytes : List ℕ) (es : List Entry) → IsBytes bytes → entries_in form fuel bytes ≡ Some es → bytes ≡ flat_map (entry_spelling form) es
unfolding entries_in
entries_take form fuel [] es fits e = ap (flat_map (entry_spelling form)) (some_is [] es e)
entries_take form zero (b ∷ bytes) es fits e = absurd cc
entries_take form (suc fuel) (b ∷ bytes) es fits e =
    let a = bind_some (entry_at form (b ∷ bytes)) (λ x. onto x.0 (entries_in form fuel x.1)) es e in
    let o = onto_some a.0.0 (entries_in form fuel a.0.1) es a.2 in
    let t = entry_takes form (b ∷ bytes) a.0 fits a.1 in
    t.parts ∙ (ap (λ r. entry_spelling form a.0.0 ++ r) (entries_take form fuel a.0.1 o.0 t.rest_fits o.1) ∙ ap (flat_map (entry_spelling form)) o.2)

-- the byte of the form that it says
said_byte : (b : ℕ) (form : Form) → form_of b ≡ Some form → form_byte form ≡ b
said_byte b form e =
    by_tag b 1 (Some Form.One) _ form (λ t. form_byte form ≡ t) e (λ q. ap form_byte (sym (some_is Form.One form q)))
    (λ e2. by_tag b 2 (Some Form.Two) None form (λ t. form_byte form ≡ t) e2 (λ q. ap form_byte (sym (some_is Form.Two form q))) (λ e3. absurd cc))

pub payload_takes : (bytes : List ℕ) (es : List Entry) → IsBytes bytes → payload_of bytes ≡ Some es → IsSpelledPayload bytes es
unfolding payload_of
payload_takes [] es fits e = absurd cc
payload_takes (b ∷ bytes) es fits e =
    let a = bind_some (form_of b) (λ form. entries_in form (length bytes) bytes) es e in
    let taken = entries_take a.0 (length bytes) bytes es (IsBytes-rest b bytes fits) a.2 in
    record { form = a.0; spelled = ap (λ k. k ∷ bytes) (sym (said_byte b a.0 a.1)) ∙ ap (λ (t : List ℕ). form_byte a.0 ∷ t) taken }

-- ---- bytes, each by itself

each_fits : (bytes : List ℕ) → AllByRecursion IsByte bytes → IsBytes bytes
each_fits [] h i = omega arith
each_fits (b ∷ bytes) h zero = h.0
each_fits (b ∷ bytes) h (suc i) = each_fits bytes h.1 i

pub entry_spelled : (form : Form) (bytes rest : List ℕ) (e : Entry) → All IsByte bytes → entry_at form bytes ≡ Some (e, rest) → bytes ≡ entry_spelling form e ++ rest
entry_spelled form bytes rest e fits h = (entry_takes form bytes (e, rest) (each_fits bytes (recursion_from_All IsByte bytes fits)) h).parts

pub payload_spelled : (bytes : List ℕ) (es : List Entry) → All IsByte bytes → payload_of bytes ≡ Some es → IsSpelledPayload bytes es
payload_spelled bytes es fits h = payload_takes bytes es (each_fits bytes (recursion_from_All IsByte bytes fits)) h

-- ---- what a reader returned

pub entry_found : (form : Form) (bytes : List ℕ) (r : Result (Entry × Bor (List ℕ)) EntryFault) → IsBytes bytes → Gives (λ x. (x.0, x.1.now)) r (entry_at form bytes) → IfOk r (λ x. bytes ≡ entry_spelling form x.0 ++ x.1.now)
entry_found form bytes (Ok x) fits g = (entry_takes form bytes (x.0, x.1.now) fits g).parts
entry_found form bytes (Err fault) fits g = tt

pub payload_found : (bytes : List ℕ) (r : Result (Vec Entry) PayloadFault) → IsBytes bytes → GivesAll (λ v. v.items) r (payload_of bytes) → IfOk r (λ v. IsSpelledPayload bytes v.items)
payload_found bytes (Ok v) fits g = payload_takes bytes v.items fits g
payload_found bytes (Err fault) fits g = tt
