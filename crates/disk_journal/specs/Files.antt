-- What files of batches stand for.
use Rattle.std.proofs.Common.{◌≡◌, ◌≢◌, ◌⊎◌, inl, inr, ℕ, zero, suc, ◌+◌, ◌^◌, ◌<◌, ◌≤◌, false, true, List, [], ◌∷◌, ◌++◌, length, take, drop, get_or, Some, Ok, nat_lt, refl, sym, ◌∙◌, ap, subst, arith, append_assoc, length-append, take-append-drop}
use Rattle.std.proofs.lemmas.List.{take_at, drop_at, drop_more}
use Rattle.std.proofs.lemmas.Bool.{cases_eq}
use Rattle.std.proofs.lemmas.Bool.Decides.{nat_tests}
use Rattle.std.proofs.lemmas.Nat.{from_be_bytes-to_be_bytes_8}
use Rattle.std.specs.Int.{w64, to_be_bytes}
use Rattle.nsi_disk.specs.Disk.{IsTornWrite, written}
use Rattle.journal_entry.specs.Journals.{followed_by, entries_from, recovers, whole}
use Rattle.disk_journal.specs.Fronts.{length-head, one_batch, entries-closed, shape, size, small-more}
use Rattle.disk_journal.specs.Batches.{batches, framed, Begins, BeginsWith, Means, MeansOneOf}

-- open batches and then a gate that isn't open
pub entries_of : (ps : List (List ℕ)) (fuel place gate : ℕ) (rest : List ℕ) → gate ≢ 1 → length (batches ps) < 2 ^ 64 → length (batches ps) < fuel → entries_from whole fuel place (batches ps ++ gate ∷ rest) ≡ Ok ps
entries_of ps zero place gate rest shut small enough = absurd (omega (arith, enough))
entries_of [] (suc fuel) place gate rest shut small enough = entries-closed whole fuel place gate rest shut
entries_of (p ∷ ps) (suc fuel) place gate rest shut small enough =
    let is = size p ps in
    let value = from_be_bytes-to_be_bytes_8 (length p) (omega (arith, is, small)) in
    let some : 0 < length (batches ps ++ gate ∷ rest) = omega (arith, length-append (batches ps) (gate ∷ rest)) in
    ap (entries_from whole (suc fuel) place) (shape p ps (gate ∷ rest))
    ∙ one_batch whole fuel place (to_be_bytes w64 (length p)) p (batches ps ++ gate ∷ rest) (length-head (length p)) value some
    ∙ ap (followed_by whole place (Some (p ∷ []))) (entries_of ps fuel (place + 9 + length p) gate rest shut (omega (arith, is, small)) (omega (arith, is, enough)))

pub not_nine : (n : ℕ) → 9 ≤ n → nat_lt n 9 ≡ false
not_nine n le = grind (arith, nat_tests)

pub long_file : (bytes : List ℕ) → 9 ≤ length bytes → recovers whole bytes ≡ entries_from whole (length bytes) 0 bytes
long_file bytes le = rw (not_nine (length bytes) le)

-- so a whole file, a short one too
pub means : (ps : List (List ℕ)) (gate : ℕ) (rest : List ℕ) → gate ≢ 1 → length (batches ps) < 2 ^ 64 → Means ps (batches ps ++ gate ∷ rest)
means [] gate rest shut small = by_length (cases_lt (length (gate ∷ rest)))
  where
    cases_lt : (n : ℕ) → (nat_lt n 9 ≡ true) ⊎ (nat_lt n 9 ≡ false)
    cases_lt n = grind (arith, nat_tests)

    by_length : (nat_lt (length (gate ∷ rest)) 9 ≡ true) ⊎ (nat_lt (length (gate ∷ rest)) 9 ≡ false) → Means [] (gate ∷ rest)
    by_length (inl short) = rw short
    by_length (inr long) = rw (long, entries-closed whole (length rest) 0 gate rest shut)
means (p ∷ ps) gate rest shut small =
    let n = length-append (batches (p ∷ ps)) (gate ∷ rest) in
    let is = size p ps in
    long_file (batches (p ∷ ps) ++ gate ∷ rest) (omega (arith, n, is)) ∙ entries_of (p ∷ ps) (length (batches (p ∷ ps) ++ gate ∷ rest)) 0 gate rest shut small (omega (arith, n))

pub begins-means : (ps : List (List ℕ)) (file : List ℕ) → length (batches ps) < 2 ^ 64 → Begins ps file → Means ps file
begins-means ps file small begins = ap (recovers whole) begins.is ∙ means ps begins.gate begins.rest begins.shut small

-- one more batch at the end
pub batches-push : (ps : List (List ℕ)) (p rest : List ℕ) → batches (ps ++ p ∷ []) ++ 0 ∷ rest ≡ batches ps ++ 1 ∷ (framed p ++ rest)
batches-push [] p rest =
    shape p [] (0 ∷ rest) ∙ ap (λ (l : List ℕ). 1 ∷ l) (ap (λ (l : List ℕ). to_be_bytes w64 (length p) ++ l) (sym (append_assoc p (0 ∷ []) rest)) ∙ sym (append_assoc (to_be_bytes w64 (length p)) (p ++ 0 ∷ []) rest))
batches-push (q ∷ ps) p rest =
    shape q (ps ++ p ∷ []) (0 ∷ rest) ∙ ap (λ (l : List ℕ). 1 ∷ (to_be_bytes w64 (length q) ++ (q ++ l))) (batches-push ps p rest) ∙ sym (shape q ps (1 ∷ (framed p ++ rest)))

front : (front : List ℕ) (gate : ℕ) (rest : List ℕ) → take (length front + 1) (front ++ gate ∷ rest) ≡ front ++ gate ∷ []
front f gate rest = ap (take (length f + 1)) (sym (append_assoc f (gate ∷ []) rest)) ∙ take_at (f ++ gate ∷ []) rest (length f + 1) (length-append f (gate ∷ []))

back : (f : List ℕ) (gate : ℕ) (rest : List ℕ) → drop (length f + 1) (f ++ gate ∷ rest) ≡ rest
back f gate rest = ap (drop (length f + 1)) (sym (append_assoc f (gate ∷ []) rest)) ∙ drop_at (f ++ gate ∷ []) rest (length f + 1) (length-append f (gate ∷ []))

-- the closed gate stands in each outcome of a write behind it
pub torn_behind : (ps : List (List ℕ)) (n : ℕ) (d c : List ℕ) → Begins ps d → IsTornWrite (length (batches ps) + 1) n d c → Begins ps c
torn_behind ps n d c begins torn =
    let b = batches ps in
    let at = length b + 1 in
    record {
      gate = begins.gate;
      rest = drop at c;
      shut = begins.shut;
      is = sym (take-append-drop at c) ∙ ap (λ (l : List ℕ). l ++ drop at c) (torn.before ∙ ap (take at) begins.is ∙ front b begins.gate begins.rest) ∙ append_assoc b (begins.gate ∷ []) (drop at c);
    }

-- the batch stands whole in each outcome of a write to the gate
pub torn_gate : (ps : List (List ℕ)) (p d c : List ℕ) → length (batches ps) + 9 + length p < 2 ^ 64 → BeginsWith ps p d → IsTornWrite (length (batches ps)) 1 d c → MeansOneOf ps p c
torn_gate ps p d c small begins torn =
    let b = batches ps in
    let at = length b in
    let gate = get_or c at 0 in
    let behind = framed p ++ begins.rest in
    let d_long : length d ≡ at + 1 + length behind = omega (arith, ap length begins.is, length-append b (begins.gate ∷ behind)) in
    let rest : drop at c ≡ gate ∷ behind = drop_more c at 0 (omega (arith, torn.no_shorter, d_long)) ∙ ap (λ (l : List ℕ). gate ∷ l) (torn.after ∙ ap (drop (at + 1)) begins.is ∙ back b begins.gate behind) in
    let is : c ≡ b ++ gate ∷ behind = sym (take-append-drop at c) ∙ ap (λ (l : List ℕ). l ++ drop at c) (torn.before ∙ ap (take at) begins.is ∙ take_at b (begins.gate ∷ behind) at refl) ∙ ap (λ (l : List ℕ). b ++ l) rest in
    subst (MeansOneOf ps p) (sym is) (elim (cases_eq gate 1) [
      | inl is_open ↦ inr (ap (λ (g : ℕ). recovers whole (b ++ g ∷ behind)) is_open ∙ ap (recovers whole) (sym (batches-push ps p begins.rest)) ∙ means (ps ++ p ∷ []) 0 begins.rest (omega arith) (omega (arith, small, small-more ps p)))
      | inr shut ↦ inl (means ps gate behind shut (omega (arith, small)))
    ])

-- the batch is written behind the closed gate
pub written_behind : (ps : List (List ℕ)) (p d : List ℕ) → Begins ps d → BeginsWith ps p (written (length (batches ps) + 1) (framed p) d)
written_behind ps p d begins =
    let b = batches ps in
    let at = length b + 1 in
    let rest = drop (at + length (framed p)) d in
    record {
      gate = begins.gate;
      rest = rest;
      shut = begins.shut;
      is = ap (λ (l : List ℕ). l ++ framed p ++ rest) (ap (take at) begins.is ∙ front b begins.gate begins.rest) ∙ append_assoc (b ++ begins.gate ∷ []) (framed p) rest ∙ append_assoc b (begins.gate ∷ []) (framed p ++ rest);
    }

-- and the gate is opened
pub written_gate : (ps : List (List ℕ)) (p d : List ℕ) → BeginsWith ps p d → Begins (ps ++ p ∷ []) (written (length (batches ps)) (1 ∷ []) d)
written_gate ps p d begins =
    let b = batches ps in
    let behind = framed p ++ begins.rest in
    record {
      gate = 0;
      rest = begins.rest;
      shut = omega arith;
      is = ap (λ (l : List ℕ). l ++ (1 ∷ []) ++ drop (length b + 1) d) (ap (take (length b)) begins.is ∙ take_at b (begins.gate ∷ behind) (length b) refl)
          ∙ append_assoc b (1 ∷ []) (drop (length b + 1) d)
          ∙ ap (λ (l : List ℕ). b ++ 1 ∷ l) (ap (drop (length b + 1)) begins.is ∙ back b begins.gate behind)
          ∙ sym (batches-push ps p begins.rest);
    }

-- a file with a batch behind the closed gate begins as before
pub begins-with : (ps : List (List ℕ)) (p d : List ℕ) → BeginsWith ps p d → Begins ps d
begins-with ps p d begins = record { gate = begins.gate; rest = framed p ++ begins.rest; shut = begins.shut; is = begins.is }
