-- Reading entries one after another, as the loop does.
use Rattle.std.proofs.Common.{◌≡◌, ℕ, zero, suc, ◌<◌, ◌≤◌, List, [], ◌∷◌, ◌++◌, length, All, Option, Some, None, refl, sym, ap, ◌∙◌, append_assoc, arith}
use Rattle.std.proofs.lemmas.List.{append-nil, length-append}
use Rattle.std.proofs.lemmas.List.Elements.{All-nil, All-push}
use Rattle.nsi_primitive.specs.declared.entry.Entry.{Entry}
use Rattle.nsi_base.specs.Options.{◌>>=◌}
use Rattle.nsi_primitive.specs.Printable.{IsPrintableEntry}
use Rattle.journal_entry.specs.declared.form.Form.{Form}
use Rattle.journal_entry.specs.Entries.{entry_at}
use Rattle.journal_entry.specs.Spelling.{entry_spelling}
use Rattle.journal_entry.specs.Payloads.{onto, entries_in}
use Rattle.journal_entry.proofs.Taken.{some_bytes}

-- what was read before, and what is still read
abbrev pub with_front : List Entry → Option (List Entry) → Option (List Entry)
with_front front None = None
with_front front (Some es) = Some (front ++ es)

pub record Goes (form : Form) (bytes rest : List ℕ) (front : List Entry) : Type 0 where
  pub fuel : ℕ
  pub enough : length rest ≤ fuel
  pub same : with_front front (entries_in form fuel rest) ≡ entries_in form (length bytes) bytes
  pub each : All IsPrintableEntry front

none_before : (o : Option (List Entry)) → with_front [] o ≡ o
none_before None = refl
none_before (Some es) = refl

pub begins : (form : Form) (bytes : List ℕ) → Goes form bytes bytes []
begins form bytes = record { fuel = length bytes; enough = omega arith; same = none_before (entries_in form (length bytes) bytes); each = All-nil IsPrintableEntry }

regroup : (front : List Entry) (e : Entry) (o : Option (List Entry)) → with_front front (onto e o) ≡ with_front (front ++ e ∷ []) o
regroup front e None = refl
regroup front e (Some es) = ap (λ (t : List Entry). Some t) (sym (append_assoc front (e ∷ []) es))

pub went_on : (form : Form) (bytes rest after : List ℕ) (front : List Entry) (e : Entry) → Goes form bytes rest front → entry_at form rest ≡ Some (e, after) → rest ≡ entry_spelling form e ++ after → IsPrintableEntry e → Goes form bytes after (front ++ e ∷ [])
unfolding entries_in
went_on form bytes [] after front e g f s p = absurd (omega (arith, ap length s, length-append (entry_spelling form e) after, some_bytes form e))
went_on form bytes (b ∷ bs) after front e g f s p = by_fuel g.fuel g.enough g.same
  where
    shorter : length after < length (b ∷ bs)
    shorter = omega (arith, ap length s, length-append (entry_spelling form e) after, some_bytes form e)

    by_fuel : (k : ℕ) → length (b ∷ bs) ≤ k → with_front front (entries_in form k (b ∷ bs)) ≡ entries_in form (length bytes) bytes → Goes form bytes after (front ++ e ∷ [])
    by_fuel zero l h = absurd (omega (arith, l))
    by_fuel (suc k) l h =
        let one : with_front front (entries_in form (suc k) (b ∷ bs)) ≡ with_front (front ++ e ∷ []) (entries_in form k after) = ap (λ o. with_front front (o >>= λ x. onto x.0 (entries_in form k x.1))) f ∙ regroup front e (entries_in form k after) in
        record { fuel = k; enough = omega (arith, l, shorter); same = sym one ∙ h; each = All-push IsPrintableEntry front e g.each p }

pub stopped : (form : Form) (bytes rest : List ℕ) (front : List Entry) → Goes form bytes rest front → 0 < length rest → entry_at form rest ≡ None → entries_in form (length bytes) bytes ≡ None
unfolding entries_in
stopped form bytes [] front g n f = absurd (omega (arith, n))
stopped form bytes (b ∷ bs) front g n f = by_fuel g.fuel g.enough g.same
  where
    by_fuel : (k : ℕ) → length (b ∷ bs) ≤ k → with_front front (entries_in form k (b ∷ bs)) ≡ entries_in form (length bytes) bytes → entries_in form (length bytes) bytes ≡ None
    by_fuel zero l h = absurd (omega (arith, l))
    by_fuel (suc k) l h = sym h ∙ ap (λ o. with_front front (o >>= λ x. onto x.0 (entries_in form k x.1))) f

pub ended : (form : Form) (bytes rest : List ℕ) (front : List Entry) → Goes form bytes rest front → length rest ≡ 0 → entries_in form (length bytes) bytes ≡ Some front
unfolding entries_in
ended form bytes [] front g n = sym g.same ∙ ap (λ (t : List Entry). Some t) (append-nil front)
ended form bytes (b ∷ bs) front g n = absurd (omega (arith, n))
