-- The calendar's loads are those of the records.
use Rattle.std.proofs.Common.{◌≡◌, ◌<◌, ℕ, List, Option, IfSome, length, sym, ap, subst, ◌∙◌, arith}
use Rattle.std.specs.Prelude.{Some, None}
use Rattle.std.specs.Option.{option_map_or}
use Rattle.std.proofs.lemmas.Option.{slice_get-get_or}
use Rattle.nsi_base.specs.declared.flow.Flow.{Flow}
use Rattle.nsi_primitive.specs.Kinds.{is_both_ways}
use Rattle.nsi_primitive.specs.declared.message.Criteria.{Criteria}
use Rattle.capacity_calendar.specs.declared.booking.Booking.{Booking}
use Rattle.capacity_calendar.specs.Load.{larger_taken, load as booked_load}
use Rattle.capacity_calendar.specs.Plan.{Plan, pending_of, claim_of, HasOneEach}
use Rattle.capacity_calendar.specs.Places.{places}
use Rattle.capacity_calendar.specs.Sums.{sum_upto, sum_but}
use Rattle.capacity_calendar.proofs.Sums.{sum_upto-same, sum_but-same, sum_upto-one_out, sum_by-places}
use Rattle.capacity_calendar.proofs.LoadByNumber.{load_by_number, first_lack_by_number}
use Rattle.capacity_calendar.proofs.FirstLack.{first_lack_by-same}
use Rattle.connection_record.specs.declared.record.Record.{Record}
use Rattle.connection_record.specs.Demand.{last, held, demand, load}
use Rattle.provider_agent.specs.Others.{others, lack_among}
use Rattle.provider_agent.specs.State.{no_record, record_at}
use Rattle.provider_agent.specs.Kept.{booked, AreKept, plan_lack}
use Rattle.provider_agent.proofs.RecordPlaces.{sum_beside}

-- what is booked for a record is what it claims
record_claims : (flow : Flow) (stp t : ℕ) (r : Record) → larger_taken flow stp t (booked r (last r.committed)) (booked r (held r)) ≡ demand flow stp t r
unfolding larger_taken demand
record_claims flow stp t r = grind arith

claim_is_demand : (records : List Record) (bs : List Booking) → AreKept records bs → (flow : Flow) (stp t k : ℕ) → k < length records → claim_of flow stp t k bs ≡ demand flow stp t (record_at k records)
claim_is_demand records bs kept flow stp t k l =
    ap (λ c. larger_taken flow stp t c (pending_of k bs)) (kept.committed k l)
    ∙ (ap (λ p. larger_taken flow stp t (booked (record_at k records) (last (record_at k records).committed)) p) (kept.held k l) ∙ record_claims flow stp t (record_at k records))

load_at_places : (flow : Flow) (stp t : ℕ) (records : List Record) → load flow stp t records ≡ sum_upto (length records) (λ k. demand flow stp t (record_at k records))
load_at_places flow stp t records =
    sum_by-places (demand flow stp t) records ∙ sum_upto-same (length records) _ _ (λ k l. ap (λ o. option_map_or (demand flow stp t) o 0) (slice_get-get_or records k no_record l))

others_at_places : (flow : Flow) (stp t n : ℕ) (records : List Record) → n < length records → load flow stp t (others n records) ≡ sum_but n (length records) (λ k. demand flow stp t (record_at k records))
others_at_places flow stp t n records l =
    let own = sum_beside (demand flow stp t) records n (record_at n records) (slice_get-get_or records n no_record l) in
    let one = sum_upto-one_out n (length records) (λ k. demand flow stp t (record_at k records)) l in
    omega (arith, own, one, load_at_places flow stp t records)

-- The load of the bookings is that of the records.
pub same_load : (flow : Flow) (stp t : ℕ) (records : List Record) (bs : List Booking) → AreKept records bs → HasOneEach bs → booked_load flow stp t bs ≡ load flow stp t records
same_load flow stp t records bs kept one =
    load_by_number flow stp t (length records) bs one kept.none
    ∙ (sum_upto-same (length records) _ _ (λ k l. claim_is_demand records bs kept flow stp t k l) ∙ sym (load_at_places flow stp t records))

-- What is lacking first by the calendar is what is lacking first by the records.
pub same_lack : (plan : Plan) (records : List Record) (n : ℕ) (c : Criteria) → AreKept records plan.bookings → HasOneEach plan.bookings → n < length records
    → plan_lack plan n (is_both_ways (record_at n records).service.directionality) (record_at n records).source (record_at n records).dest c ≡ lack_among plan.capacities records n c
same_lack plan records n c kept one l =
    let r = record_at n records in
    first_lack_by_number plan n r.source r.dest (is_both_ways r.service.directionality) c.interval c.capacity (length records) one kept.none
    ∙ first_lack_by-same _ _ (places plan.capacities r.source r.dest (is_both_ways r.service.directionality)) c.interval c.capacity
    (λ flow stp t. sum_but-same n (length records) _ _ (λ k m d. claim_is_demand records plan.bookings kept flow stp t k m) ∙ sym (others_at_places flow stp t n records l))

-- what is answered is that sum too, where there is such a flow
pub sums_by : (capacity other : Option ℕ) (n a b : ℕ) → capacity ≡ other → a ≡ b → IfSome capacity (λ _. n ≡ a) → IfSome other (λ _. n ≡ b)
sums_by capacity other n a b same e sum = subst (λ o. IfSome o (λ _. n ≡ b)) same (by_capacity capacity sum)
  where
    by_capacity : (o : Option ℕ) → IfSome o (λ _. n ≡ a) → IfSome o (λ _. n ≡ b)
    by_capacity (Some c) is = is ∙ e
    by_capacity None is = tt
