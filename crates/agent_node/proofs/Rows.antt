-- One more that can be written.
use Rattle.std.proofs.Common.{List, [], ◌∷◌, ◌++◌}
use Rattle.std.specs.List.{All}
use Rattle.std.proofs.lemmas.List.Elements.{All-append, All-cons, All-nil}
use Rattle.nsi_primitive.specs.Printable.{IsPrintableEvent}
use Rattle.nsi_primitive.specs.declared.entry.Event.{Event}

one_more : {A : Type 0} (P : A → Type 0) (xs : List A) (x : A) → All P xs → P x → All P (xs ++ x ∷ [])
one_more P xs x h p = All-append P xs (x ∷ []) h (All-cons P x [] p (All-nil P))

pub one_event_more : (xs : List Event) (x : Event) → All IsPrintableEvent xs → IsPrintableEvent x → All IsPrintableEvent (xs ++ x ∷ [])
one_event_more xs x h p = one_more IsPrintableEvent xs x h p
