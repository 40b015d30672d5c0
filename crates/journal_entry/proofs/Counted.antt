-- Each entry takes a byte of its payload at least.
use Rattle.std.proofs.Common.{◌≡◌, ℕ, zero, suc, ◌≤◌, List, [], ◌∷◌, length, Option, Some, None, refl, ap, arith}
use Rattle.nsi_base.specs.Options.{◌>>=◌}
use Rattle.nsi_primitive.specs.declared.entry.Entry.{Entry}
use Rattle.journal_entry.specs.Forms.{form_of}
use Rattle.journal_entry.specs.declared.form.Form.{Form}
use Rattle.journal_entry.specs.Entries.{entry_at}
use Rattle.journal_entry.specs.Payloads.{onto, entries_in, payload_of, not_empty, batch_of}

some_is : (xs ys : List Entry) (o : Option (List Entry)) → o ≡ Some xs → o ≡ Some ys → xs ≡ ys
some_is xs ys o p q = cc

onto_few : (e : Entry) (o : Option (List Entry)) (fuel : ℕ) (es : List Entry) → ((more : List Entry) → o ≡ Some more → length more ≤ fuel) → onto e o ≡ Some es → length es ≤ suc fuel
onto_few e None fuel es few is = absurd cc
onto_few e (Some more) fuel es few is = omega (arith, few more refl, ap length (some_is es (e ∷ more) (Some (e ∷ more)) is refl))

step_few : (form : Form) (o : Option (Entry × List ℕ)) (fuel : ℕ) (es : List Entry) → ((rest : List ℕ) (more : List Entry) → entries_in form fuel rest ≡ Some more → length more ≤ fuel) → (o >>= λ x. onto x.0 (entries_in form fuel x.1)) ≡ Some es → length es ≤ suc fuel
step_few form None fuel es few is = absurd cc
step_few form (Some x) fuel es few is = onto_few x.0 (entries_in form fuel x.1) fuel es (few x.1) is

entries_few : (form : Form) (fuel : ℕ) (bytes : List ℕ) (es : List Entry) → entries_in form fuel bytes ≡ Some es → length es ≤ fuel
unfolding entries_in
entries_few form fuel [] es is = omega (arith, ap length (some_is es [] (Some []) is refl))
entries_few form zero (b ∷ bytes) es is = absurd cc
entries_few form (suc fuel) (b ∷ bytes) es is = step_few form (entry_at form (b ∷ bytes)) fuel es (λ rest more f. entries_few form fuel rest more f) is

by_form : (o : Option Form) (bytes : List ℕ) (es : List Entry) → (o >>= λ form. entries_in form (length bytes) bytes) ≡ Some es → length es ≤ length bytes
by_form None bytes es is = absurd cc
by_form (Some form) bytes es is = entries_few form (length bytes) bytes es is

payload_few : (p : List ℕ) (es : List Entry) → payload_of p ≡ Some es → length es ≤ length p
unfolding payload_of
payload_few [] es is = absurd cc
payload_few (b ∷ bytes) es is = omega (arith, by_form (form_of b) bytes es is)

not_empty_is : (o : Option (List Entry)) (es : List Entry) → (o >>= not_empty) ≡ Some es → o ≡ Some es
not_empty_is None es is = absurd cc
not_empty_is (Some []) es is = absurd cc
not_empty_is (Some (e ∷ more)) es is = is

pub batch_few : (p : List ℕ) (es : List Entry) → batch_of p ≡ Some es → length es ≤ length p
batch_few p es is = payload_few p es (not_empty_is (payload_of p) es is)
