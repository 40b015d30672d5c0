-- One batch more of a file that is read.
use Rattle.std.proofs.Common.{◌≡◌, ◌≢◌, ℕ, zero, suc, ◌+◌, ◌<◌, ◌≤◌, ◌^◌, List, [], ◌∷◌, ◌++◌, length, take, drop, get_or, Some, None, Result, Ok, Err, refl, sym, ◌∙◌, ap, subst, arith, length-append, take-append-drop, All}
use Rattle.std.proofs.lemmas.List.{append-nil}
use Rattle.std.proofs.lemmas.List.Elements.{All-nil, All-append}
use Rattle.std.proofs.lemmas.Nat.{be_bytes_8}
use Rattle.std.specs.Int.{w64, from_be_bytes, to_be_bytes}
use Rattle.nsi_primitive.specs.declared.entry.Entry.{Entry}
use Rattle.nsi_primitive.specs.Printable.{IsPrintableEntry}
use Rattle.journal_entry.specs.Payloads.{batch_of}
use Rattle.journal_entry.specs.Journals.{followed_by, entries_from, ReadAll}
use Rattle.journal_entry.proofs.Recovered.{one_more}
use Rattle.journal_entry.specs.Journals.{whole}
use Rattle.disk_journal.specs.Batches.{batches}
use Rattle.disk_journal.specs.Opening.{ReadsAs, all_of}
use Rattle.disk_journal.specs.Files.{entries_of}
use Rattle.disk_journal.specs.Fronts.{one_batch, entries-closed, bad_short, bad_long, onto, onto_more, batches_more, small-more}

abbrev from : ℕ → ℕ → List ℕ → Result (List Entry) ℕ
from f place bytes = entries_from batch_of f place bytes

-- what the loop keeps
pub record Reading (file rest : List ℕ) (place : ℕ) (es : List Entry) : Type 0 where
  pub reads : (f : ℕ) × (length rest ≤ f) × (all_of file ≡ onto batch_of es (from f place rest))
  pub payloads : (ps : List (List ℕ)) × (file ≡ batches ps ++ rest) × (place ≡ length (batches ps)) × ReadAll batch_of ps es
  pub some : 0 < length rest
  pub each : All IsPrintableEntry es

pub begun : (file : List ℕ) → 0 < length file → Reading file file 0 []
begun file some = record { reads = (length file, omega arith, keeps (all_of file)); payloads = ([], refl, refl, refl); some = some; each = All-nil IsPrintableEntry }
  where
    keeps : (r : Result (List Entry) ℕ) → r ≡ onto batch_of [] r
    keeps (Ok later) = refl
    keeps (Err e) = refl

-- a batch stands at the front of the rest
pub record Batch (rest head p more : List ℕ) (n : ℕ) : Type 0 where
  pub shape : rest ≡ 1 ∷ (head ++ (p ++ more))
  pub eight : length head ≡ 8
  pub bytes : (i : ℕ) → get_or head i 0 < 256
  pub value : n ≡ from_be_bytes w64 head
  pub size : n ≡ length p
  pub some : 0 < length more

opened : (f : ℕ) (rest head p more : List ℕ) (place n : ℕ) → Batch rest head p more n → from (suc f) place rest ≡ followed_by batch_of place (batch_of p) (from f (place + 9 + length p) more)
opened f rest head p more place n b = ap (from (suc f) place) b.shape ∙ one_batch batch_of f place head p more b.eight (sym b.value ∙ b.size) b.some

pub went_on : (file rest head p more : List ℕ) (place n : ℕ) (es new : List Entry) → Reading file rest place es → Batch rest head p more n → batch_of p ≡ Some new → All IsPrintableEntry new → Reading file more (place + 9 + n) (es ++ new)
went_on file rest head p more place n es new r b h printable = by_fuel r.reads.0 r.reads.1 r.reads.2
  where
    by_fuel : (f : ℕ) → length rest ≤ f → all_of file ≡ onto batch_of es (from f place rest) → Reading file more (place + 9 + n) (es ++ new)
    by_fuel zero long is = absurd (omega (arith, long, ap length b.shape))
    by_fuel (suc f) long is =
        let ps = r.payloads.0 in
        let written : to_be_bytes w64 (length p) ≡ head = ap (to_be_bytes w64) (sym b.size) ∙ be_bytes_8 head n b.eight b.bytes b.value in
        record {
          reads = (
            f,
            omega (arith, long, ap length b.shape, length-append head (p ++ more), length-append p more),
            is
                ∙ ap (onto batch_of es) (opened f rest head p more place n b)
                ∙ ap (λ o. onto batch_of es (followed_by batch_of place o (from f (place + 9 + length p) more))) h
                ∙ onto_more batch_of es new place (from f (place + 9 + length p) more)
                ∙ ap (λ (m : ℕ). onto batch_of (es ++ new) (from f (place + 9 + m) more)) (sym b.size),
          );
          payloads = (
            ps ++ p ∷ [],
            r.payloads.1 ∙ ap (λ (l : List ℕ). batches ps ++ l) (b.shape ∙ ap (λ (h : List ℕ). 1 ∷ (h ++ (p ++ more))) (sym written)) ∙ sym (batches_more ps p more),
            omega (arith, r.payloads.2, b.size, small-more ps p),
            one_more batch_of ps p es new r.payloads.3 h,
          );
          some = b.some;
          each = All-append IsPrintableEntry es new r.each printable;
        }

-- its payload holds no entries
pub ends_bad : (file rest head p more : List ℕ) (place n : ℕ) (es : List Entry) → Reading file rest place es → Batch rest head p more n → batch_of p ≡ None → all_of file ≡ Err place
ends_bad file rest head p more place n es r b h = by_fuel r.reads.0 r.reads.1 r.reads.2
  where
    by_fuel : (f : ℕ) → length rest ≤ f → all_of file ≡ onto batch_of es (from f place rest) → all_of file ≡ Err place
    by_fuel zero long is = absurd (omega (arith, long, ap length b.shape))
    by_fuel (suc f) long is =
        is ∙ ap (onto batch_of es) (opened f rest head p more place n b)
        ∙ ap (λ o. onto batch_of es (followed_by batch_of place o (from f (place + 9 + length p) more))) h

pub closed : (file rest behind : List ℕ) (place gate : ℕ) (es : List Entry) → place < 2 ^ 64 → Reading file rest place es → rest ≡ gate ∷ behind → gate ≢ 1 → ReadsAs file place es
closed file rest behind place gate es fits r shape_is shut = by_fuel r.reads.0 r.reads.1 r.reads.2
  where
    by_fuel : (f : ℕ) → length rest ≤ f → all_of file ≡ onto batch_of es (from f place rest) → ReadsAs file place es
    by_fuel zero long is = absurd (omega (arith, long, ap length shape_is))
    by_fuel (suc f) long is = record {
      is = is ∙ ap (λ (l : List ℕ). onto batch_of es (from (suc f) place l)) shape_is ∙ ap (onto batch_of es) (entries-closed batch_of f place gate behind shut) ∙ ap (λ (l : List Entry). Ok l) (append-nil es);
      payloads = r.payloads.0;
      parts =
          ap (entries_from whole (length file) 0) (r.payloads.1 ∙ ap (λ (l : List ℕ). batches r.payloads.0 ++ l) shape_is)
          ∙ entries_of r.payloads.0 (length file) 0 gate behind shut (omega (arith, r.payloads.2, fits)) (omega (arith, ap length r.payloads.1, length-append (batches r.payloads.0) rest, ap length shape_is));
      begins = record { gate = gate; rest = behind; shut = shut; is = r.payloads.1 ∙ ap (λ (l : List ℕ). batches r.payloads.0 ++ l) shape_is };
      at = r.payloads.2;
      read = r.payloads.3;
    }

pub ends_short : (file rest behind : List ℕ) (place : ℕ) (es : List Entry) → Reading file rest place es → rest ≡ 1 ∷ behind → length behind < 8 → all_of file ≡ Err place
ends_short file rest behind place es r shape_is short = by_fuel r.reads.0 r.reads.1 r.reads.2
  where
    by_fuel : (f : ℕ) → length rest ≤ f → all_of file ≡ onto batch_of es (from f place rest) → all_of file ≡ Err place
    by_fuel zero long is = absurd (omega (arith, long, ap length shape_is))
    by_fuel (suc f) long is = is ∙ ap (λ (l : List ℕ). onto batch_of es (from (suc f) place l)) shape_is ∙ ap (onto batch_of es) (bad_short batch_of f place behind short)

pub ends_past : (file rest behind : List ℕ) (place : ℕ) (es : List Entry) → Reading file rest place es → rest ≡ 1 ∷ behind → 8 ≤ length behind → length (drop 8 behind) ≤ from_be_bytes w64 (take 8 behind) → all_of file ≡ Err place
ends_past file rest behind place es r shape_is enough past = by_fuel r.reads.0 r.reads.1 r.reads.2
  where
    by_fuel : (f : ℕ) → length rest ≤ f → all_of file ≡ onto batch_of es (from f place rest) → all_of file ≡ Err place
    by_fuel zero long is = absurd (omega (arith, long, ap length shape_is))
    by_fuel (suc f) long is = is ∙ ap (λ (l : List ℕ). onto batch_of es (from (suc f) place l)) shape_is ∙ ap (onto batch_of es) (bad_long batch_of f place behind enough past)

-- the first of what is left
pub first_of : (rest : List ℕ) (gate : ℕ) → 0 < length rest → get_or rest 0 0 ≡ gate → rest ≡ gate ∷ drop 1 rest
first_of (x ∷ rest) gate some is = ap (λ (y : ℕ). y ∷ rest) is
first_of [] gate some is = absurd (omega arith)

pub split_is : (n : ℕ) (xs a b : List ℕ) → a ≡ take n xs → b ≡ drop n xs → xs ≡ a ++ b
split_is n xs a b f g = sym (take-append-drop n xs) ∙ ap (λ (l : List ℕ). l ++ drop n xs) (sym f) ∙ ap (λ (l : List ℕ). a ++ l) (sym g)

pub le_along : (a b c d : ℕ) → a ≤ b → a ≡ c → b ≡ d → c ≤ d
le_along a b c d le l r = omega (arith, le, l, r)

pub at_sum : (file more : List ℕ) (place n place' : ℕ) (es es' : List Entry) → place + 9 + n ≡ place' → es ≡ es' → Reading file more (place + 9 + n) es → Reading file more place' es'
at_sum file more place n place' es es' is same r = subst (λ (q : ℕ). Reading file more q es') is (subst (Reading file more (place + 9 + n)) same r)

-- the parts into which the rest was cut
pub cut_batch : (rest behind tail head p more : List ℕ) (n : ℕ) → rest ≡ 1 ∷ behind → head ≡ take 8 behind → tail ≡ drop 8 behind → length head ≡ 8 → ((i : ℕ) → get_or head i 0 < 256) → n ≡ from_be_bytes w64 head
    → p ≡ take n tail → more ≡ drop n tail → n ≡ length p → 0 < length more → Batch rest head p more n
cut_batch rest behind tail head p more n s h t e b v f m z l = record {
  shape = s ∙ ap (λ (x : List ℕ). 1 ∷ x) (split_is 8 behind head tail h t ∙ ap (λ (x : List ℕ). head ++ x) (split_is n tail p more f m));
  eight = e;
  bytes = b;
  value = v;
  size = z;
  some = l;
}
