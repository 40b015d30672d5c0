-- What the definitions say of a few plans.
use Rattle.std.proofs.Common.{◌≡◌, ℕ, List, [], ◌∷◌, map, Bool, true, false, Option, Some, None, refl}
use Rattle.nsi_base.specs.declared.flow.Flow.TheVariants.{Both, In, Out}
use Rattle.capacity_calendar.specs.declared.booking.Booking.{Booking}
use Rattle.capacity_calendar.specs.declared.booking.Lack.{Lack}
use Rattle.capacity_calendar.specs.declared.booking.Slot.{Slot}
use Rattle.capacity_calendar.specs.Load.{larger_taken, load, others}
use Rattle.capacity_calendar.specs.Lack.{lack_at, first_from, first_lack_by}
use Rattle.capacity_calendar.specs.Plan.{Plan, first_lack, with_pending, settled, pending_set}
use Rattle.capacity_calendar.specs.Places.{places}

-- between two points, both ways or one
abbrev slot : (source dest : ℕ) → Bool → ℕ → ℕ → ℕ → Slot
slot source dest both_ways mbps start end = record { source = source; dest = dest; both_ways = both_ways; interval = record { start = start; end = end }; mbps = mbps }

abbrev asked : Plan → ℕ → Slot → Option Lack
asked plan number s = first_lack plan number s.source s.dest s.both_ways s.interval s.mbps

-- the points 0 and 1, each with one capacity
abbrev shared : List Booking → Plan
shared bookings = record { capacities = record { stp = 0; flow = Both; mbps = 1000 } ∷ record { stp = 1; flow = Both; mbps = 1000 } ∷ []; bookings = bookings }

abbrev one_booked : List Booking
one_booked = with_pending 0 (slot 0 1 true 600 100 200) []

pub a_booking_on_an_empty_plan_fits : asked (shared []) 0 (slot 0 1 true 600 100 200) ≡ None
unfolding first_lack_by first_from lack_at larger_taken places
a_booking_on_an_empty_plan_fits = refl

pub more_than_the_capacity_lacks_at_once : asked (shared []) 0 (slot 0 1 true 1001 100 200) ≡ Some (record { stp = 0; flow = Both; second = 100; load = 0; capacity = 1000 })
unfolding first_lack_by first_from lack_at larger_taken places
more_than_the_capacity_lacks_at_once = refl

pub too_much_beside_another_lacks_where_they_meet : asked (shared one_booked) 1 (slot 0 1 true 500 150 300) ≡ Some (record { stp = 0; flow = Both; second = 150; load = 600; capacity = 1000 })
unfolding first_lack_by first_from lack_at larger_taken places
too_much_beside_another_lacks_where_they_meet = refl

pub what_fills_the_capacity_fits : asked (shared one_booked) 1 (slot 0 1 true 400 150 300) ≡ None
unfolding first_lack_by first_from lack_at larger_taken places
what_fills_the_capacity_fits = refl

pub then_the_load_is_the_capacity : load Both 0 150 (with_pending 1 (slot 0 1 true 400 150 300) one_booked) ≡ 1000
unfolding larger_taken
then_the_load_is_the_capacity = refl

pub touching_intervals_do_not_meet : asked (shared one_booked) 1 (slot 0 1 true 1000 200 300) ≡ None
unfolding first_lack_by first_from lack_at larger_taken places
touching_intervals_do_not_meet = refl

-- a committed booking with a modification held beside it
abbrev modified : List Booking
modified = with_pending 0 (slot 0 1 true 300 100 400) (settled 0 one_booked)

pub a_record_is_not_in_its_own_way : asked (shared (settled 0 one_booked)) 0 (slot 0 1 true 1000 100 400) ≡ None
unfolding first_lack_by first_from lack_at larger_taken places
a_record_is_not_in_its_own_way = refl

pub the_larger_slot_counts : load Both 0 150 modified ≡ 600
unfolding larger_taken
the_larger_slot_counts = refl

pub the_pending_slot_counts_alone_later : load Both 1 250 modified ≡ 300
unfolding larger_taken
the_pending_slot_counts_alone_later = refl

pub settling_frees_the_rest : load Both 0 150 (settled 0 modified) ≡ 300
unfolding larger_taken
settling_frees_the_rest = refl

pub settling_keeps_the_pending : load Both 0 250 (settled 0 modified) ≡ 300
unfolding larger_taken
settling_keeps_the_pending = refl

pub taking_the_pending_keeps_the_committed : load Both 0 150 (pending_set 0 None modified) ≡ 600
unfolding larger_taken
taking_the_pending_keeps_the_committed = refl

pub taking_the_pending_frees_its_seconds : load Both 0 250 (pending_set 0 None modified) ≡ 0
unfolding larger_taken
taking_the_pending_frees_its_seconds = refl

pub taking_all_frees_all : load Both 0 150 (others 0 modified) ≡ 0
unfolding larger_taken
taking_all_frees_all = refl

-- the points 0 and 1, each with a capacity in and one out
abbrev split : List Booking → Plan
split bookings = record {
  capacities = record { stp = 0; flow = In; mbps = 1000 } ∷ record { stp = 0; flow = Out; mbps = 400 } ∷ record { stp = 1; flow = In; mbps = 500 } ∷ record { stp = 1; flow = Out; mbps = 1000 } ∷ [];
  bookings = bookings;
}

pub one_way_books_in_at_the_source : asked (split []) 0 (slot 0 1 false 600 100 200) ≡ None
unfolding first_lack_by first_from lack_at larger_taken places
one_way_books_in_at_the_source = refl

abbrev one_way : List Booking
one_way = with_pending 0 (slot 0 1 false 600 100 200) []

pub one_way_loads_in_at_the_source : load In 0 150 one_way ≡ 600
unfolding larger_taken
one_way_loads_in_at_the_source = refl

pub one_way_loads_out_at_the_destination : load Out 1 150 one_way ≡ 600
unfolding larger_taken
one_way_loads_out_at_the_destination = refl

pub one_way_leaves_out_at_the_source : load Out 0 150 one_way ≡ 0
unfolding larger_taken
one_way_leaves_out_at_the_source = refl

pub one_way_leaves_in_at_the_destination : load In 1 150 one_way ≡ 0
unfolding larger_taken
one_way_leaves_in_at_the_destination = refl

pub both_ways_beside_it_fits : asked (split one_way) 1 (slot 0 1 true 300 100 200) ≡ None
unfolding first_lack_by first_from lack_at larger_taken places
both_ways_beside_it_fits = refl

abbrev two_booked : List Booking
two_booked = with_pending 1 (slot 0 1 true 300 100 200) one_way

pub both_ways_again_lacks_in_at_the_source : asked (split two_booked) 2 (slot 0 1 true 150 150 160) ≡ Some (record { stp = 0; flow = In; second = 150; load = 900; capacity = 1000 })
unfolding first_lack_by first_from lack_at larger_taken places
both_ways_again_lacks_in_at_the_source = refl

pub the_other_way_fits : asked (split two_booked) 2 (slot 1 0 false 100 150 160) ≡ None
unfolding first_lack_by first_from lack_at larger_taken places
the_other_way_fits = refl

pub then_out_is_full_at_its_destination : load Out 0 150 (with_pending 2 (slot 1 0 false 100 150 160) two_booked) ≡ 400
unfolding larger_taken
then_out_is_full_at_its_destination = refl

-- the points 0, 1 and 2, each with one capacity
abbrev three : List Booking → Plan
three bookings = record {
  capacities = record { stp = 0; flow = Both; mbps = 1000 } ∷ record { stp = 1; flow = Both; mbps = 1000 } ∷ record { stp = 2; flow = Both; mbps = 1000 } ∷ [];
  bookings = bookings;
}

-- committed between 0 and 1, and held between 1 and 2
abbrev moved : List Booking
moved = with_pending 0 (slot 1 2 true 300 100 400) (settled 0 (with_pending 0 (slot 0 1 true 600 100 200) []))

pub the_committed_slot_keeps_its_points : load Both 0 150 moved ≡ 600
unfolding larger_taken
the_committed_slot_keeps_its_points = refl

pub where_both_slots_book_the_larger_counts : load Both 1 150 moved ≡ 600
unfolding larger_taken
where_both_slots_book_the_larger_counts = refl

pub the_pending_slot_counts_at_its_points : load Both 2 150 moved ≡ 300
unfolding larger_taken
the_pending_slot_counts_at_its_points = refl

pub another_lacks_beside_the_committed_slot : asked (three moved) 1 (slot 0 2 true 500 150 160) ≡ Some (record { stp = 0; flow = Both; second = 150; load = 600; capacity = 1000 })
unfolding first_lack_by first_from lack_at larger_taken places
another_lacks_beside_the_committed_slot = refl

pub settling_frees_the_former_point : load Both 0 150 (settled 0 moved) ≡ 0
unfolding larger_taken
settling_frees_the_former_point = refl

pub settling_keeps_the_new_point : load Both 2 150 (settled 0 moved) ≡ 300
unfolding larger_taken
settling_keeps_the_new_point = refl

abbrev numbers : List Booking → List ℕ
numbers bookings = map (λ b. b.number) bookings

pub bookings_stand_by_number : numbers (with_pending 1 (slot 0 1 true 300 100 400) (with_pending 3 (slot 0 1 true 300 100 400) (with_pending 0 (slot 0 1 true 300 100 400) []))) ≡ 0 ∷ 1 ∷ 3 ∷ []
bookings_stand_by_number = refl
