-- An event is read exactly where a line is the print of one.
use Rattle.std.proofs.Common.{◌≡◌, ℕ, List, [], ◌∷◌, ◌++◌, Bool, true, false, Option, Some, None, Result, Err, bytes_eq, refl, sym, ap, ◌∙◌, subst}
use Rattle.std.proofs.lemmas.Bool.{false≢true}
use Rattle.std.proofs.lemmas.List.{same_from_push}
use Rattle.std.proofs.lemmas.Slice.Eq.{bytes_eq-Decides}
use Rattle.nsi_primitive.specs.Ranges.{IsRangedEvent}
use Rattle.nsi_primitive.specs.declared.entry.Event.{Event}
use Rattle.stp_topology.specs.declared.network.Network.{Network}
use Rattle.trace_text.specs.Lines.{line_of}
use Rattle.trace_reader.specs.Faults.{Refuses}
use Rattle.trace_reader.specs.Laws.{AreTextsReadAgain, HasNames}
use Rattle.trace_reader.specs.Moments.{IsEventOf}
use Rattle.trace_reader.specs.Reading.{event_in}
use Rattle.trace_reader.specs.declared.fault.EventFault.{EventFault}
use Rattle.trace_reader.specs.declared.fault.EventFault.TheVariants.{NotAnEvent}
use Rattle.trace_reader.proofs.Again.{event_again, same_some}

---- A line and a line feed

same_tests : (a b : Bool) → (a ≡ true → b ≡ true) → (b ≡ true → a ≡ true) → a ≡ b
same_tests true b f g = sym (f refl)
same_tests false true f g = absurd (false≢true (g refl))
same_tests false false f g = refl

pub with_feed : (same : Bool) (text front line : List ℕ) (last : ℕ) → same ≡ bytes_eq front line → text ≡ front ++ last ∷ [] → last ≡ 10 → same ≡ bytes_eq text (line ++ 10 ∷ [])
with_feed same text front line last s e f =
    let whole : text ≡ front ++ 10 ∷ [] = e ∙ ap (λ b. front ++ b ∷ []) f in
    s ∙ same_tests (bytes_eq front line) (bytes_eq text (line ++ 10 ∷ []))
    (λ h. (bytes_eq-Decides text (line ++ 10 ∷ [])).1 (whole ∙ ap (λ x. x ++ 10 ∷ []) ((bytes_eq-Decides front line).0 h)))
    (λ h. (bytes_eq-Decides front line).1 (same_from_push front line 10 10 (sym whole ∙ (bytes_eq-Decides text (line ++ 10 ∷ [])).0 h)).0)

pub other_end : (text front line : List ℕ) (last : ℕ) → text ≡ front ++ last ∷ [] → (last ≡ 10 → ⊥) → false ≡ bytes_eq text (line ++ 10 ∷ [])
other_end text front line last e f =
    same_tests false (bytes_eq text (line ++ 10 ∷ []))
    (λ h. absurd (false≢true h))
    (λ h. absurd (f (same_from_push front line last 10 (sym e ∙ (bytes_eq-Decides text (line ++ 10 ∷ [])).0 h)).1))

---- Events

-- what was refused, where it isn't want of memory
pub none_read : (r : Result Event EventFault) (given fault : EventFault) (read : Option Event) → r ≡ Err given → given ≡ fault → Refuses fault read → r ≡ Err NotAnEvent → read ≡ None
none_read r given fault read e f h n = let same : fault ≡ NotAnEvent = cc in subst (λ x. Refuses x read) same h

pub nothing_printed : AreTextsReadAgain → (t : Network) (seconds : ℕ → ℕ) (asks : ℕ) (line : List ℕ) → HasNames t → event_in t seconds asks line ≡ None
    → (e : Event) → IsRangedEvent e → IsEventOf t seconds asks line e → ⊥
nothing_printed texts t seconds asks line names none e r h = let some = event_again texts t seconds asks line e names h r in cc

pub one_printed : AreTextsReadAgain → (t : Network) (seconds : ℕ → ℕ) (asks : ℕ) (line : List ℕ) (read : Event) → HasNames t → event_in t seconds asks line ≡ Some read
    → (e : Event) → IsRangedEvent e → IsEventOf t seconds asks line e → e ≡ read
one_printed texts t seconds asks line read names some e r h = same_some e read (event_in t seconds asks line) (event_again texts t seconds asks line e names h r) some

pub other_printed : AreTextsReadAgain → (t : Network) (seconds : ℕ → ℕ) (asks : ℕ) (line : List ℕ) (read : Event) → HasNames t → event_in t seconds asks line ≡ Some read
    → (text : List ℕ) → text ≡ line_of t read → bytes_eq text (line ++ 10 ∷ []) ≡ false → (e : Event) → IsRangedEvent e → IsEventOf t seconds asks line e → ⊥
other_printed texts t seconds asks line read names some text p f e r h =
    let same = one_printed texts t seconds asks line read names some e r h in
    let print : text ≡ line ++ 10 ∷ [] = p ∙ (ap (line_of t) (sym same) ∙ h.printed) in
    false≢true (sym f ∙ (bytes_eq-Decides text (line ++ 10 ∷ [])).1 print)
