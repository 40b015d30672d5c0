-- What stands behind a tick: the indexes name the records, and what is freed of them is all that is to be freed.
use Rattle.std.proofs.Common.{◌≡◌, ◌↔◌, ◌<◌, ◌≤◌, ◌+◌, ◌∙◌, ◌⊎◌, inl, inr, ℕ, zero, suc, Bool, true, false, Option, List, [], ◌∷◌, length, refl, sym, ap, subst, arith, Contains}
use Rattle.nsi_primitive.specs.Ids.{id_of}
use Rattle.nsi_primitive.specs.declared.message.Criteria.{Criteria}
use Rattle.capacity_calendar.specs.declared.booking.Booking.{Booking}
use Rattle.capacity_calendar.specs.Plan.{pending_of, HasNoneFrom}
use Rattle.record_index.specs.declared.deadlines.Deadline.{Deadline}
use Rattle.connection_record.specs.declared.record.Record.{Record}
use Rattle.connection_record.specs.Demand.{last, held, holds_pending}
use Rattle.connection_record.specs.Replies.{Moved}
use Rattle.provider_agent.specs.declared.agent.Agent.{Agent}
use Rattle.provider_agent.specs.Indexed.{deadline_of, AreIndexed}
use Rattle.provider_agent.specs.Kept.{booked, AreKept}
use Rattle.provider_agent.specs.State.{record_at}
use Rattle.provider_agent.specs.Steps.{ticks_all, told_at, is_told_at, drawn}
use Rattle.provider_agent.specs.Ticks.{AreDue, IsFreedBut, is_touched}
use Rattle.provider_agent.proofs.TickMoved.{IsAfterTick, tick_after}
use Rattle.provider_agent.proofs.TickQuiet.{quiet_told}
use Rattle.provider_agent.proofs.TickSeams.{length_ticked}

-- each record is ticked under some id
ticked_at : (agent : Agent) (before now next : ℕ) (xs : List Record) (n : ℕ) → n < length xs → (c : ℕ) × (record_at n (ticks_all agent before now next xs).records ≡ (told_at agent before now c (record_at n xs)).rec)
unfolding ticks_all
ticked_at agent before now next [] n l = absurd (omega arith)
ticked_at agent before now next (x ∷ xs) zero l = (id_of agent.number next, refl)
ticked_at agent before now next (x ∷ xs) (suc n) l = ticked_at agent before now (next + drawn (is_told_at agent before now x)) xs n (omega arith)

booked_after : (now : ℕ) (r moved : Record) (c : Option Criteria) → IsAfterTick now r moved → booked moved c ≡ booked r c
booked_after now r moved c is = grind (arith, is.service, is.source, is.dest, is.terminated)

module _ (agent : Agent) (before now next : ℕ) (xs : List Record) where
  after_at : (n : ℕ) → n < length xs → IsAfterTick now (record_at n xs) (record_at n (ticks_all agent before now next xs).records)
  after_at n l = let at = ticked_at agent before now next xs n l in subst (IsAfterTick now (record_at n xs)) (sym at.1) (tick_after agent before now at.0 (record_at n xs))

  still_at : (n : ℕ) → n < length xs → is_touched before now (record_at n xs) ≡ false → record_at n (ticks_all agent before now next xs).records ≡ record_at n xs
  still_at n l quiet =
      let at = ticked_at agent before now next xs n l in
      at.1 ∙ ap (λ (x : Moved). x.rec) (quiet_told agent before now at.0 (record_at n xs) quiet)

  as_long : (n : ℕ) → n < length (ticks_all agent before now next xs).records → n < length xs
  as_long n l = omega (arith, length_ticked agent before now next xs, l)

  pub indexed_ticked : (waiting : List ℕ) (deadlines left : List Deadline) → AreIndexed before xs waiting deadlines → before ≤ now → ((x : Deadline) → Contains left x ↔ ((now < x.second) × Contains deadlines x))
      → AreIndexed now (ticks_all agent before now next xs).records waiting left
  indexed_ticked waiting deadlines left ix le is = record {
    works = λ n l h. ix.works n (as_long n l) ((after_at n (as_long n l)).works h);
    holds = λ n t l h. let held = (after_at n (as_long n l)).until t h in (is (deadline_of t n)).1 (held.1, ix.holds n t (as_long n l) held.0);
    ends = λ n t l h. let end = (after_at n (as_long n l)).ends t h in (is (deadline_of t n)).1 (end.1, ix.ends n t (as_long n l) end.0);
    starts = λ n t l h later.
        (is (deadline_of t n)).1 (later, ix.starts n t (as_long n l) ((after_at n (as_long n l)).starts t h) (omega (arith, le, later)));
    within = λ x has. let inside = ix.within x ((is x).0 has).1 in omega (arith, length_ticked agent before now next xs, inside);
  }

  pub kept_ticked : (bs : List Booking) (due : List ℕ) → AreKept xs bs → AreDue before now xs due → IsFreedBut (ticks_all agent before now next xs).records bs due
  kept_ticked bs due kept d = record {
    committed = λ n l. kept.committed n (as_long n l) ∙ sym (same_booked n (as_long n l));
    held = λ n l. held_at n (as_long n l) (is_touched before now (record_at n xs)) refl;
    none = subst (λ m. HasNoneFrom m bs) (sym (length_ticked agent before now next xs)) kept.none;
  }
    where
      same_booked : (n : ℕ) → n < length xs → booked (record_at n (ticks_all agent before now next xs).records) (last (record_at n (ticks_all agent before now next xs).records).committed) ≡ booked (record_at n xs) (last (record_at n xs).committed)
      same_booked n l =
          let r = record_at n xs in
          let moved = record_at n (ticks_all agent before now next xs).records in
          booked_after now r moved (last moved.committed) (after_at n l) ∙ ap (λ cs. booked r (last cs)) (after_at n l).committed

      held_at : (n : ℕ) → n < length xs → (b : Bool) → is_touched before now (record_at n xs) ≡ b
          → (pending_of n bs ≡ booked (record_at n (ticks_all agent before now next xs).records) (held (record_at n (ticks_all agent before now next xs).records))) ⊎ (Contains due n × (holds_pending (record_at n (ticks_all agent before now next xs).records).rsm ≡ false))
      held_at n l false e = inl (kept.held n l ∙ ap (λ r. booked r (held r)) (sym (still_at n l e)))
      held_at n l true e = elim (after_at n l).holding [
        | inl same ↦
            let r = record_at n xs in
            let moved = record_at n (ticks_all agent before now next xs).records in
            inl (kept.held n l ∙ sym (booked_after now r moved (held moved) (after_at n l) ∙ ap (booked r) same))
        | inr none ↦ inr (d.all n l e, none)
      ]
