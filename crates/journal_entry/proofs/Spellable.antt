-- Each entry that has a spelling is read again.
use Rattle.std.proofs.Common.{true, ◌≡◌, ℕ, ◌^◌, ◌<◌, List, [], ◌∷◌, ◌++◌, length, All, Some, Ok, refl, arith}
use Rattle.std.specs.List.{AllByRecursion}
use Rattle.std.proofs.lemmas.List.Elements.{recursion_from_All}
use Rattle.nsi_primitive.specs.Printable.{IsPrintableInput}
use Rattle.nsi_primitive.specs.Ranges.{IsSpellable, IsSpellableAsk, IsRangedIdentity, IsRangedInput}
use Rattle.nsi_primitive.specs.declared.ask.Ask.{Ask}
use Rattle.nsi_primitive.specs.declared.entry.Entry.{Entry}
use Rattle.nsi_primitive.specs.declared.entry.Input.{Input}
use Rattle.nsi_primitive.specs.declared.message.Identity.{Identity}
use Rattle.nsi_primitive.specs.declared.message.Message.{Message}
use Rattle.nsi_primitive.specs.declared.message.Parcel.{Parcel}
use Rattle.ask_text.specs.Asks.{ask_text}
use Rattle.ask_text.specs.Reading.{ask_of}
use Rattle.json_primitives.specs.Lines.{object_of}
use Rattle.json_primitives.specs.Spelling.{spelling_in, parcel_spelling}
use Rattle.json_fields.specs.declared.time_form.TimeForm.{TimeForm}
use Rattle.journal_entry.specs.Forms.{times_of, holds}
use Rattle.journal_entry.specs.declared.form.Form.{Form}
use Rattle.journal_entry.specs.Spelling.{body_of, entry_spelling, entry_of, HasSpelling, HasParts, IsReadAgain}
use Rattle.journal_entry.specs.Payloads.{payload_of, payload_spelling}
use Rattle.journal_entry.proofs.Again.{entry_again, of_again, payload_again}

-- the laws of texts
pub record AreTextsReadAgain : Type 0 where
  pub asks : (a : Ask) → IsSpellableAsk a → ask_of (ask_text a) ≡ Some a
  pub messages : (form : TimeForm) (m : Message) → IsSpellable m → object_of (spelling_in form m) ≡ Ok (Parcel.Message m)
  pub acks : (i : Identity) → IsRangedIdentity i → object_of (parcel_spelling (Parcel.Ack i)) ≡ Ok (Parcel.Ack i)

parts_of : AreTextsReadAgain → (form : Form) (i : Input) → IsRangedInput i → IsPrintableInput i → holds form i ≡ true → length (body_of form i) < 2 ^ 64 → HasParts form i
parts_of texts form (Input.Ask number ask) r p h l = (r.0, texts.asks ask (record { ranged = r.1; printable = p }), omega (arith, l), h)
parts_of texts form (Input.Got m) r p h l = (texts.messages (times_of form) m (record { ranged = r; printable = p }), omega (arith, l), h)
parts_of texts form (Input.Work number machine) r p h l = r
parts_of texts form Input.Tick r p h l = tt
parts_of texts form (Input.Force number) r p h l = r
parts_of texts form (Input.Acked identity) r p h l = (texts.acks identity r, omega (arith, l))

again : AreTextsReadAgain → (form : Form) (e : Entry) → HasSpelling form e → IsReadAgain form e
again texts form e h = entry_again form e h.spellable.ranged.second (parts_of texts form e.input h.spellable.ranged.input h.spellable.printable h.held (omega (arith, h.short)))

pub spelled_again : AreTextsReadAgain → (form : Form) (e : Entry) (rest : List ℕ) → HasSpelling form e → entry_of form (entry_spelling form e ++ rest) ≡ Some (e, length (entry_spelling form e))
spelled_again texts form e rest h = of_again form e (entry_spelling form e) (again texts form e h) refl rest

each_again : AreTextsReadAgain → (form : Form) (es : List Entry) → AllByRecursion (HasSpelling form) es → AllByRecursion (IsReadAgain form) es
each_again texts form [] h = tt
each_again texts form (e ∷ es) h = (again texts form e h.0, each_again texts form es h.1)

pub all_spelled_again : AreTextsReadAgain → (form : Form) (es : List Entry) → All (HasSpelling form) es → payload_of (payload_spelling form es) ≡ Some es
all_spelled_again texts form es h = payload_again form es (each_again texts form es (recursion_from_All (HasSpelling form) es h))
