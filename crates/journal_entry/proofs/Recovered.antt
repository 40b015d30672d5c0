-- A journal of payloads, read as entries.
use Rattle.std.proofs.Common.{◌≡◌, ℕ, zero, suc, ◌+◌, Bool, true, false, cond, eqb, ltb, leb, List, [], ◌∷◌, ◌++◌, length, take, drop, Option, Some, None, Result, Ok, Err, refl, sym, ap, subst, ◌∙◌, append_assoc}
use Rattle.std.specs.Int.{w64, from_be_bytes}
use Rattle.std.proofs.lemmas.List.{append-nil}
use Rattle.journal_entry.specs.Journals.{followed_by, entries_from, recovers, joined, read_all, ReadAll, whole}

some_is : {A : Type 0} (x y : A) → (o : Option A) → o ≡ Some x → o ≡ Some y → x ≡ y
some_is x y o p q = cc

ok_is : (xs ys : List (List ℕ)) → (r : Result (List (List ℕ)) ℕ) → r ≡ Ok xs → r ≡ Ok ys → xs ≡ ys
ok_is xs ys r p q = cc

-- the parts of payloads that hold entries
pub cons_parts : {E : Type 0} (read : List ℕ → Option (List E)) (p : List ℕ) (ps : List (List ℕ)) (es : List E) → ReadAll read (p ∷ ps) es
    → (first : List E) × (more : List E) × (read p ≡ Some first) × (read_all read ps ≡ Some more) × (first ++ more ≡ es)
cons_parts {E = E} read p ps es h = by_parts (read p) (read_all read ps) refl refl h
  where
    by_parts : (a b : Option (List E)) → read p ≡ a → read_all read ps ≡ b → joined read a b ≡ Some es
        → (first : List E) × (more : List E) × (read p ≡ Some first) × (read_all read ps ≡ Some more) × (first ++ more ≡ es)
    by_parts None b q r e = absurd cc
    by_parts (Some first) None q r e = absurd cc
    by_parts (Some first) (Some more) q r e = (first, more, q, r, cc)

-- batches of payloads behind each other
followed_parts : (place : ℕ) (p : List ℕ) (later : Result (List (List ℕ)) ℕ) (ps : List (List ℕ)) → followed_by whole place (whole p) later ≡ Ok ps
    → (more : List (List ℕ)) × (later ≡ Ok more) × (p ∷ more ≡ ps)
followed_parts place p (Ok more) ps e = (more, refl, cc)
followed_parts place p (Err k) ps e = absurd cc

pub entries_of_payloads : {E : Type 0} (read : List ℕ → Option (List E)) (fuel place : ℕ) (bytes : List ℕ) (ps : List (List ℕ)) (es : List E)
    → entries_from whole fuel place bytes ≡ Ok ps → ReadAll read ps es → entries_from read fuel place bytes ≡ Ok es
entries_of_payloads read zero place bytes ps es h r = absurd cc
entries_of_payloads read (suc fuel) place [] ps es h r = absurd cc
entries_of_payloads {E = E} read (suc fuel) place (gate ∷ rest) ps es h r =
    by_tests (eqb gate 1) (ltb (length rest) 8) (leb (length (drop 8 rest)) (from_be_bytes w64 (take 8 rest)))
    (take (from_be_bytes w64 (take 8 rest)) (drop 8 rest))
    (entries_from whole fuel (place + 9 + from_be_bytes w64 (take 8 rest)) (drop (from_be_bytes w64 (take 8 rest)) (drop 8 rest)))
    (entries_from read fuel (place + 9 + from_be_bytes w64 (take 8 rest)) (drop (from_be_bytes w64 (take 8 rest)) (drop 8 rest)))
    (λ more later e f. entries_of_payloads read fuel (place + 9 + from_be_bytes w64 (take 8 rest)) (drop (from_be_bytes w64 (take 8 rest)) (drop 8 rest)) more later e f) h r
  where
    by_tests : (a b c : Bool) (p : List ℕ) (payloads : Result (List (List ℕ)) ℕ) (entries : Result (List E) ℕ)
        → ((more : List (List ℕ)) (later : List E) → payloads ≡ Ok more → ReadAll read more later → entries ≡ Ok later)
        → cond a (cond b (Err place) (cond c (Err place) (followed_by whole place (whole p) payloads))) (Ok []) ≡ Ok ps → ReadAll read ps es
        → cond a (cond b (Err place) (cond c (Err place) (followed_by read place (read p) entries))) (Ok []) ≡ Ok es
    by_tests false b c p payloads entries next e f =
        let none : [] ≡ ps = cc in
        let f0 : ReadAll read [] es = subst (λ x. ReadAll read x es) (sym none) f in
        ap (λ (t : List E). Ok t) (some_is [] es (Some []) refl f0)
    by_tests true true c p payloads entries next e f = absurd cc
    by_tests true false true p payloads entries next e f = absurd cc
    by_tests true false false p payloads entries next e f =
        let t = followed_parts place p payloads ps e in
        let f1 : ReadAll read (p ∷ t.0) es = subst (λ x. ReadAll read x es) (sym t.2) f in
        let q = cons_parts read p t.0 es f1 in
        ap (λ o. followed_by read place o entries) q.2 ∙ (ap (followed_by read place (Some q.0)) (next t.0 q.1 t.1 q.3) ∙ ap (λ (x : List E). Ok x) q.4)

pub recovered : {E : Type 0} (read : List ℕ → Option (List E)) (file : List ℕ) (ps : List (List ℕ)) (es : List E) → recovers whole file ≡ Ok ps → ReadAll read ps es → recovers read file ≡ Ok es
recovered {E = E} read file ps es h r = by_test (ltb (length file) 9) h r
  where
    by_test : (t : Bool) → cond t (Ok []) (entries_from whole (length file) 0 file) ≡ Ok ps → ReadAll read ps es → cond t (Ok []) (entries_from read (length file) 0 file) ≡ Ok es
    by_test true e f =
        let none : [] ≡ ps = cc in
        let f0 : ReadAll read [] es = subst (λ x. ReadAll read x es) (sym none) f in
        ap (λ (x : List E). Ok x) (some_is [] es (Some []) refl f0)
    by_test false e f = entries_of_payloads read (length file) 0 file ps es e f

-- one more payload
pub one_more : {E : Type 0} (read : List ℕ → Option (List E)) (ps : List (List ℕ)) (p : List ℕ) (es more : List E) → ReadAll read ps es → read p ≡ Some more → ReadAll read (ps ++ p ∷ []) (es ++ more)
one_more read [] p es more h r =
    let none : [] ≡ es = cc in
    ap (λ o. joined read o (Some [])) r ∙ ap (λ x. Some x) (append-nil more ∙ ap (λ t. t ++ more) none)
one_more read (q ∷ qs) p es more h r =
    let c = cons_parts read q qs es h in
    ap (λ o. joined read o (read_all read (qs ++ p ∷ []))) c.2 ∙ (ap (joined read (Some c.0)) (one_more read qs p c.1 more c.3 r) ∙ ap (λ x. Some x) (sym (append_assoc c.0 c.1 more) ∙ ap (λ t. t ++ more) c.4))

---- The other way: what reads as entries

followed_read : {E : Type 0} (read : List ℕ → Option (List E)) (place : ℕ) (o : Option (List E)) (later : Result (List E) ℕ) (es : List E) → followed_by read place o later ≡ Ok es
    → (first : List E) × (more : List E) × (o ≡ Some first) × (later ≡ Ok more) × (first ++ more ≡ es)
followed_read read place None later es e = absurd cc
followed_read read place (Some first) (Err k) es e = absurd cc
followed_read read place (Some first) (Ok more) es e = (first, more, refl, refl, cc)

pub payloads_of_entries : {E : Type 0} (read : List ℕ → Option (List E)) (fuel place : ℕ) (bytes : List ℕ) (es : List E) → entries_from read fuel place bytes ≡ Ok es
    → (ps : List (List ℕ)) × (entries_from whole fuel place bytes ≡ Ok ps) × ReadAll read ps es
payloads_of_entries read zero place bytes es h = absurd cc
payloads_of_entries read (suc fuel) place [] es h = absurd cc
payloads_of_entries {E = E} read (suc fuel) place (gate ∷ rest) es h =
    by_tests (eqb gate 1) (ltb (length rest) 8) (leb (length (drop 8 rest)) (from_be_bytes w64 (take 8 rest)))
    (take (from_be_bytes w64 (take 8 rest)) (drop 8 rest))
    (entries_from whole fuel (place + 9 + from_be_bytes w64 (take 8 rest)) (drop (from_be_bytes w64 (take 8 rest)) (drop 8 rest)))
    (entries_from read fuel (place + 9 + from_be_bytes w64 (take 8 rest)) (drop (from_be_bytes w64 (take 8 rest)) (drop 8 rest)))
    (λ later e. payloads_of_entries read fuel (place + 9 + from_be_bytes w64 (take 8 rest)) (drop (from_be_bytes w64 (take 8 rest)) (drop 8 rest)) later e) h
  where
    by_tests : (a b c : Bool) (p : List ℕ) (payloads : Result (List (List ℕ)) ℕ) (entries : Result (List E) ℕ)
        → ((later : List E) → entries ≡ Ok later → (more : List (List ℕ)) × (payloads ≡ Ok more) × ReadAll read more later)
        → cond a (cond b (Err place) (cond c (Err place) (followed_by read place (read p) entries))) (Ok []) ≡ Ok es
        → (ps : List (List ℕ)) × (cond a (cond b (Err place) (cond c (Err place) (followed_by whole place (whole p) payloads))) (Ok []) ≡ Ok ps) × ReadAll read ps es
    by_tests false b c p payloads entries next e =
        let none : [] ≡ es = cc in
        ([], refl, ap (λ (x : List E). Some x) none)
    by_tests true true c p payloads entries next e = absurd cc
    by_tests true false true p payloads entries next e = absurd cc
    by_tests true false false p payloads entries next e =
        let q = followed_read read place (read p) entries es e in
        let n = next q.1 q.3 in (
          p ∷ n.0,
          ap (followed_by whole place (whole p)) n.1,
          ap (λ o. joined read o (read_all read n.0)) q.2 ∙ (ap (joined read (Some q.0)) n.2 ∙ ap (λ (x : List E). Some x) q.4),
        )

pub payloads_recovered : {E : Type 0} (read : List ℕ → Option (List E)) (file : List ℕ) (es : List E) → recovers read file ≡ Ok es
    → (ps : List (List ℕ)) × (recovers whole file ≡ Ok ps) × ReadAll read ps es
payloads_recovered {E = E} read file es h = by_test (ltb (length file) 9) h
  where
    by_test : (t : Bool) → cond t (Ok []) (entries_from read (length file) 0 file) ≡ Ok es
        → (ps : List (List ℕ)) × (cond t (Ok []) (entries_from whole (length file) 0 file) ≡ Ok ps) × ReadAll read ps es
    by_test true e =
        let none : [] ≡ es = cc in
        ([], refl, ap (λ (x : List E). Some x) none)
    by_test false e = payloads_of_entries read (length file) 0 file es e
