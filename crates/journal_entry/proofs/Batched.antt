-- Entries of a batch, one after another.
use Rattle.std.proofs.Common.{◌≡◌, ◌<◌, ◌+◌, ◌∙◌, ℕ, List, [], ◌∷◌, ◌++◌, length, length-append, append-nil, Some, All, refl, sym, ap, arith}
use Rattle.std.specs.List.{flat_map}
use Rattle.std.proofs.lemmas.List.Concat.{flat_map-append}
use Rattle.std.proofs.lemmas.List.Elements.{All-nil, All-same, All-push, recursion_from_All}
use Rattle.nsi_primitive.specs.declared.entry.Entry.{Entry}
use Rattle.journal_entry.specs.declared.form.Form.{Form}
use Rattle.journal_entry.specs.Spelling.{entry_spelling, IsReadAgain}
use Rattle.journal_entry.specs.Payloads.{payload_of, payload_spelling}
use Rattle.journal_entry.specs.Batches.{or_none, entries_of, batch_spelling, IsBatch}
use Rattle.journal_entry.proofs.Again.{payload_again}

---- One more

spelled_push : (es : List Entry) (e : Entry) → batch_spelling (es ++ e ∷ []) ≡ payload_spelling Form.Two (es ++ e ∷ [])
spelled_push [] e = refl
spelled_push (x ∷ xs) e = refl

push_is : (es : List Entry) (e : Entry) → payload_spelling Form.Two (es ++ e ∷ []) ≡ payload_spelling Form.Two es ++ entry_spelling Form.Two e
push_is es e =
    ap (λ (x : List ℕ). 2 ∷ x) (flat_map-append (entry_spelling Form.Two) es (e ∷ [])
    ∙ ap (λ (x : List ℕ). flat_map (entry_spelling Form.Two) es ++ x) (append-nil (entry_spelling Form.Two e)))

-- what a batch has, and how it stands then
pub record HasOneMore (bytes new : List ℕ) (count : ℕ) (e : Entry) : Type 0 where
  pub entries : entries_of new ≡ entries_of bytes ++ e ∷ []
  pub batch : IsBatch new (count + 1)

pub one_more : (bytes front new : List ℕ) (count : ℕ) (e : Entry) → IsBatch bytes count → front ≡ payload_spelling Form.Two (entries_of bytes) → new ≡ front ++ entry_spelling Form.Two e → IsReadAgain Form.Two e → HasOneMore bytes new count e
one_more bytes front new count e b f n h =
    let es : List Entry = entries_of bytes in
    let all : All (IsReadAgain Form.Two) (es ++ e ∷ []) = All-push (IsReadAgain Form.Two) es e b.again h in
    let spelled : new ≡ payload_spelling Form.Two (es ++ e ∷ []) = n ∙ (ap (λ (x : List ℕ). x ++ entry_spelling Form.Two e) f ∙ sym (push_is es e)) in
    let entries : entries_of new ≡ es ++ e ∷ [] = ap entries_of spelled ∙ ap or_none (payload_again Form.Two (es ++ e ∷ []) (recursion_from_All (IsReadAgain Form.Two) (es ++ e ∷ []) all)) in
    record {
      entries = entries;
      batch = record {
        spelled = spelled ∙ (sym (spelled_push es e) ∙ ap batch_spelling (sym entries));
        again = All-same (IsReadAgain Form.Two) (entries_of new) (es ++ e ∷ []) entries all;
        counted = omega (arith, b.counted, ap length entries, length-append es (e ∷ []));
      };
    }

---- What stands before it

none_front : (es : List Entry) (bytes : List ℕ) → bytes ≡ batch_spelling es → length es ≡ 0 → bytes ++ 2 ∷ [] ≡ payload_spelling Form.Two es
none_front [] bytes b l = ap (λ (x : List ℕ). x ++ 2 ∷ []) b
none_front (e ∷ es) bytes b l = absurd (omega (arith, l))

some_front : (es : List Entry) (bytes : List ℕ) → bytes ≡ batch_spelling es → (length es ≡ 0 → ⊥) → bytes ≡ payload_spelling Form.Two es
some_front [] bytes b l = absurd (l refl)
some_front (e ∷ es) bytes b l = b

-- the byte of the form, where there are no entries
pub first_front : (bytes : List ℕ) (count : ℕ) → IsBatch bytes count → count ≡ 0 → bytes ++ 2 ∷ [] ≡ payload_spelling Form.Two (entries_of bytes)
first_front bytes count b z = none_front (entries_of bytes) bytes b.spelled (omega (arith, z, b.counted))

pub later_front : (bytes : List ℕ) (count : ℕ) → IsBatch bytes count → (count ≡ 0 → ⊥) → bytes ≡ payload_spelling Form.Two (entries_of bytes)
later_front bytes count b z = some_front (entries_of bytes) bytes b.spelled (λ l. z (omega (arith, l, b.counted)))

---- Its payload

pub spelled_is : (bytes : List ℕ) (count : ℕ) → IsBatch bytes count → 0 < length (entries_of bytes) → bytes ≡ payload_spelling Form.Two (entries_of bytes)
spelled_is bytes count b some = some_front (entries_of bytes) bytes b.spelled (λ l. omega (arith, l, some))

pub read_is : (bytes : List ℕ) (count : ℕ) → IsBatch bytes count → 0 < length (entries_of bytes) → payload_of bytes ≡ Some (entries_of bytes)
read_is bytes count b some =
    ap payload_of (spelled_is bytes count b some) ∙ payload_again Form.Two (entries_of bytes) (recursion_from_All (IsReadAgain Form.Two) (entries_of bytes) b.again)

---- Without entries

pub no_batch : IsBatch [] 0
unfolding payload_of
no_batch = record { spelled = refl; again = All-nil (IsReadAgain Form.Two); counted = refl }

pub no_entries : entries_of [] ≡ []
unfolding payload_of
no_entries = refl

pub empty_is : (bytes : List ℕ) (count : ℕ) → bytes ≡ [] → count ≡ 0 → IsBatch bytes count
empty_is bytes count b n = rw (b, n) no_batch
