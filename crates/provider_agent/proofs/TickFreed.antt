-- What isn't held any more is taken out of the bookings, place by place.
use Rattle.std.proofs.Common.{◌≡◌, ◌≢◌, ◌≤◌, ◌<◌, ◌+◌, ◌⊎◌, inl, inr, ℕ, Bool, true, false, cond, None, List, [], ◌∷◌, length, get_or, drop, refl, sym, ap, subst, ◌∙◌, arith, Contains}
use Rattle.std.proofs.lemmas.Bool.{false≢true}
use Rattle.std.proofs.lemmas.List.{drop_more, drop_all}
use Rattle.std.proofs.lemmas.List.Elements.{Contains-append_cases, Contains-push_cases}
use Rattle.capacity_calendar.specs.declared.booking.Booking.{Booking}
use Rattle.capacity_calendar.specs.Plan.{committed_of, pending_of, pending_set}
use Rattle.capacity_calendar.proofs.SlotsByNumber.{pending_of-unset_same, committed_of-pending_set_same, pending_of-pending_set_other, committed_of-pending_set_other}
use Rattle.capacity_calendar.proofs.ByNumber.{none_from_pending_set}
use Rattle.connection_record.specs.declared.record.Record.{Record}
use Rattle.connection_record.specs.Demand.{last, held, holds_pending}
use Rattle.provider_agent.specs.State.{record_at}
use Rattle.provider_agent.specs.Kept.{booked, AreKept}
use Rattle.provider_agent.specs.Ticks.{IsFreedBut}
use Rattle.provider_agent.proofs.TickUndo.{by_place}

-- a place among the last ones is the first of them or behind it
first_or_later : (due : List ℕ) (i n : ℕ) → i < length due → Contains (drop i due) n → (get_or due i 0 ≡ n) ⊎ Contains (drop (i + 1) due) n
first_or_later due i n l has = elim (Contains-append_cases (get_or due i 0 ∷ []) (drop (i + 1) due) n (subst (λ xs. Contains xs n) (drop_more due i 0 l) has)) [
  | inl first ↦ elim (Contains-push_cases [] (get_or due i 0) n first) [
    | inl none ↦ absurd (omega (arith, none.1))
    | inr e ↦ inl e
  ]
  | inr rest ↦ inr rest
]

-- what isn't held books nothing
books_nothing : (r : Record) → holds_pending r.rsm ≡ false → None ≡ booked r (held r)
books_nothing r none = grind arith

abbrev pub freed_at : Bool → ℕ → List Booking → List Booking
freed_at holds n bookings = cond holds bookings (pending_set n None bookings)

pub freed_less : (records : List Record) (bs : List Booking) (due : List ℕ) (i : ℕ) → IsFreedBut records bs (drop i due) → i < length due
    → IsFreedBut records (freed_at (holds_pending (record_at (get_or due i 0) records).rsm) (get_or due i 0) bs) (drop (i + 1) due)
freed_less records bs due i but l = by_state (holds_pending (record_at p records).rsm) refl
  where
    p : ℕ
    p = get_or due i 0

    -- behind it, where it isn't that place
    rest : (n : ℕ) → n ≢ p → Contains (drop i due) n → Contains (drop (i + 1) due) n
    rest n differ has = elim (first_or_later due i n l has) [
      | inl e ↦ absurd (differ (sym e))
      | inr later ↦ later
    ]

    by_state : (b : Bool) → holds_pending (record_at p records).rsm ≡ b → IsFreedBut records (freed_at b p bs) (drop (i + 1) due)
    by_state true e = record {
      committed = but.committed;
      held = λ n m. elim (but.held n m) [
        | inl is ↦ inl is
        | inr due_then ↦ inr (rest n (λ same. false≢true (sym due_then.1 ∙ (ap (λ k. holds_pending (record_at k records).rsm) same ∙ e))) due_then.0, due_then.1)
      ];
      none = but.none;
    }
    by_state false e = record {
      committed = λ n m. by_place n p
          (λ same. subst (λ k. committed_of k (pending_set p None bs) ≡ booked (record_at k records) (last (record_at k records).committed)) (sym same)
          (committed_of-pending_set_same p None bs ∙ but.committed p (subst (λ k. k < length records) same m)))
          (λ differ. committed_of-pending_set_other n p None bs differ ∙ but.committed n m);
      held = λ n m. by_place n p
          (λ same. inl (subst (λ k. pending_of k (pending_set p None bs) ≡ booked (record_at k records) (held (record_at k records))) (sym same)
          (pending_of-unset_same p bs ∙ books_nothing (record_at p records) e)))
          (λ differ. elim (but.held n m) [
            | inl is ↦ inl (pending_of-pending_set_other n p None bs differ ∙ is)
            | inr due_then ↦ inr (rest n differ due_then.0, due_then.1)
          ]);
      none = none_from_pending_set (length records) p None bs but.none;
    }

pub all_freed : (records : List Record) (bs : List Booking) (due : List ℕ) (i : ℕ) → length due ≤ i → IsFreedBut records bs (drop i due) → AreKept records bs
all_freed records bs due i le but = record {
  committed = but.committed;
  held = λ n l. elim (but.held n l) [
    | inl is ↦ is
    | inr due_then ↦ let has : Contains [] n = subst (λ xs. Contains xs n) (drop_all i due le) due_then.0 in absurd (omega (arith, has.1))
  ];
  none = but.none;
}
