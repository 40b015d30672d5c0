-- The bookings go on to be those of the records.
use Rattle.std.proofs.Common.{◌≡◌, ◌≢◌, ◌<◌, ◌⊎◌, inl, inr, ℕ, Bool, eqb, true, false, cond, None, List, [], ◌∷◌, ◌++◌, length, set, refl, sym, ap, subst, ◌∙◌, arith, option_and_then}
use Rattle.std.proofs.lemmas.List.{length-set, length_push, get_or-set_same, get_or-set_other, get_or_push, get_or_append_left}
use Rattle.std.proofs.lemmas.Bool.Decides.{nat_tests}
use Rattle.capacity_calendar.specs.declared.booking.Booking.{Booking}
use Rattle.capacity_calendar.specs.Plan.{committed_of, pending_of, pending_set, HasNoneFrom}
use Rattle.capacity_calendar.proofs.SlotsByNumber.{pending_of-unset_same, committed_of-pending_set_same, pending_of-pending_set_other, committed_of-pending_set_other}
use Rattle.capacity_calendar.proofs.ByNumber.{none_from_pending_set}
use Rattle.connection_record.specs.declared.record.Record.{Record}
use Rattle.connection_record.specs.Demand.{last, held, holds_pending}
use Rattle.provider_agent.specs.State.{no_record, record_at}
use Rattle.provider_agent.specs.Kept.{booked, AreKept}
use Rattle.provider_agent.proofs.Moved.{IsPlain, booked_same}

-- the record that was put in a place stands there
pub at_set : (records : List Record) (n : ℕ) (r : Record) → n < length records → record_at n (set records n r) ≡ r
at_set records n r l = get_or-set_same records n r no_record l

-- and the others as before
pub at_other : (records : List Record) (n k : ℕ) (r : Record) → k ≢ n → record_at k (set records n r) ≡ record_at k records
at_other records n k r differ = get_or-set_other records n k r no_record differ

pub same_or_not : (k n : ℕ) → (k ≡ n) ⊎ (k ≢ n)
same_or_not k n = by_test (eqb k n) refl
  where
    by_test : (b : Bool) → eqb k n ≡ b → (k ≡ n) ⊎ (k ≢ n)
    by_test true e = inl (grind (arith, nat_tests))
    by_test false e = inr (λ s. grind (arith, nat_tests))

pub by_number : {A : Type 0} (k n : ℕ) → (k ≡ n → A) → (k ≢ n → A) → A
by_number {A} k n same differ = by_cases (same_or_not k n)
  where
    by_cases : (k ≡ n) ⊎ (k ≢ n) → A
    by_cases (inl e) = same e
    by_cases (inr d) = differ d

-- Bookings that are the new record's at its number, and as before at all others, are kept.
pub kept_set : (records : List Record) (bs new : List Booking) (n : ℕ) (moved : Record) → AreKept records bs → n < length records
    → committed_of n new ≡ booked moved (last moved.committed) → pending_of n new ≡ booked moved (held moved)
    → ((k : ℕ) → k ≢ n → (committed_of k new ≡ committed_of k bs) × (pending_of k new ≡ pending_of k bs))
    → HasNoneFrom (length records) new → AreKept (set records n moved) new
kept_set records bs new n moved kept l committed pending others none =
    record {
      committed = λ k m. by_number k n
          (λ e. ap (λ x. committed_of x new) e ∙ (committed ∙ ap (λ r. booked r (last r.committed)) (sym (ap (λ x. record_at x (set records n moved)) e ∙ at_set records n moved l))))
          (λ d. (others k d).0 ∙ (kept.committed k (within k m) ∙ ap (λ r. booked r (last r.committed)) (sym (at_other records n k moved d))));
      held = λ k m. by_number k n
          (λ e. ap (λ x. pending_of x new) e ∙ (pending ∙ ap (λ r. booked r (held r)) (sym (ap (λ x. record_at x (set records n moved)) e ∙ at_set records n moved l))))
          (λ d. (others k d).1 ∙ (kept.held k (within k m) ∙ ap (λ r. booked r (held r)) (sym (at_other records n k moved d))));
      none = subst (λ m. HasNoneFrom m new) (sym (length-set records n moved)) none;
    }
  where
    within : (k : ℕ) → k < length (set records n moved) → k < length records
    within k m = subst (λ x. k < x) (length-set records n moved) m

-- no criteria book nothing
pub nothing : (r : Record) → None ≡ booked r None
nothing r = grind arith

-- A record that neither puts nor commits: what it doesn't hold any more is taken out.
pub kept_plain : (records : List Record) (bs : List Booking) (n : ℕ) (moved : Record) → AreKept records bs → n < length records → IsPlain (record_at n records) moved
    → AreKept (set records n moved) (cond (holds_pending moved.rsm) bs (pending_set n None bs))
kept_plain records bs n moved kept l plain = by_state (holds_pending moved.rsm) plain.holds
  where
    r : Record
    r = record_at n records

    committed_is : booked r (last r.committed) ≡ booked moved (last moved.committed)
    committed_is = ap (λ cs. booked r (last cs)) (sym plain.committed) ∙ sym (booked_same r moved (last moved.committed) plain.place)

    by_state : (b : Bool) → held moved ≡ cond b (held r) None → AreKept (set records n moved) (cond b bs (pending_set n None bs))
    by_state true e =
        kept_set records bs bs n moved kept l (kept.committed n l ∙ committed_is)
        (kept.held n l ∙ (ap (booked r) (sym e) ∙ sym (booked_same r moved (held moved) plain.place))) (λ k d. (refl, refl)) kept.none
    by_state false e =
        kept_set records bs (pending_set n None bs) n moved kept l (committed_of-pending_set_same n None bs ∙ (kept.committed n l ∙ committed_is))
        (pending_of-unset_same n bs ∙ (nothing moved ∙ ap (booked moved) (sym e)))
        (λ k d. (committed_of-pending_set_other k n None bs d, pending_of-pending_set_other k n None bs d))
        (none_from_pending_set (length records) n None bs kept.none)

-- A record more that has nothing committed nor held.
pub kept_more : (records : List Record) (bs : List Booking) (r : Record) → AreKept records bs → booked r (last r.committed) ≡ None → booked r (held r) ≡ None → AreKept (records ++ r ∷ []) bs
kept_more records bs r kept committed holds =
    record {
      committed = λ k l. by_number k (length records)
          (λ e. ap (option_and_then (λ (b : Booking). b.committed)) (kept.none k (omega (arith, e))) ∙ (sym committed ∙ ap (λ x. booked x (last x.committed)) (sym (at_end k e))))
          (λ d. kept.committed k (before k l d) ∙ ap (λ x. booked x (last x.committed)) (sym (in_front k (before k l d))));
      held = λ k l. by_number k (length records)
          (λ e. ap (option_and_then (λ (b : Booking). b.pending)) (kept.none k (omega (arith, e))) ∙ (sym holds ∙ ap (λ x. booked x (held x)) (sym (at_end k e))))
          (λ d. kept.held k (before k l d) ∙ ap (λ x. booked x (held x)) (sym (in_front k (before k l d))));
      none = λ k l. kept.none k (omega (arith, length_push records r));
    }
  where
    at_end : (k : ℕ) → k ≡ length records → record_at k (records ++ r ∷ []) ≡ r
    at_end k e = get_or_push records r no_record k (sym e)

    before : (k : ℕ) → k < length (records ++ r ∷ []) → k ≢ length records → k < length records
    before k l d = grind (arith, length_push records r)

    in_front : (k : ℕ) → k < length records → record_at k (records ++ r ∷ []) ≡ record_at k records
    in_front k l = get_or_append_left records (r ∷ []) no_record k l

-- The same, where the state is looked up in the new list.
pub kept_taken : (records new : List Record) (bs : List Booking) (n : ℕ) (moved : Record) → AreKept records bs → n < length records → IsPlain (record_at n records) moved → new ≡ set records n moved
    → AreKept new (cond (holds_pending (record_at n new).rsm) bs (pending_set n None bs))
kept_taken records new bs n moved kept l plain is =
    let state_is : record_at n new ≡ moved = ap (record_at n) is ∙ at_set records n moved l in
    subst (λ rs. AreKept rs (cond (holds_pending (record_at n new).rsm) bs (pending_set n None bs))) (sym is)
    (subst (λ (r : Record). AreKept (set records n moved) (cond (holds_pending r.rsm) bs (pending_set n None bs))) (sym state_is) (kept_plain records bs n moved kept l plain))
