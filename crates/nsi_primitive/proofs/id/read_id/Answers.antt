use Rattle.std.proofs.Common.{◌≡◌, ◌∙◌, ap, sym, refl, Option, Some, None, option_map}
use Rattle.std.proofs.lemmas.Bool.{false≢true}
use Rattle.nsi_primitive.specs.Ids.{from_bytes, id_from_text}
use Rattle.nsi_primitive.proofs.id.read_id.Goals as goal

none_unless : {X : Type 0} (o : Option X) → ((x : X) → o ≡ Some x → ⊥) → o ≡ None
none_unless None h = refl
none_unless (Some x) h = absurd (h x refl)

pub returns-in-Ok-clause-read : goal.returns-in-Ok-clause-read
unfolding id_from_text
returns-in-Ok-clause-read c = ap (option_map from_bytes) (sym c.in-Ok.ensures.bytes) ∙ ap (λ n. Some n) (sym c.from_uuid.ensures)

pub returns-in-Err-clause-refused : goal.returns-in-Err-clause-refused
unfolding id_from_text
returns-in-Err-clause-refused c = ap (option_map from_bytes) (none_unless _ (λ x e. false≢true (c.in-Err.ensures.ok.1 (x, e))))
