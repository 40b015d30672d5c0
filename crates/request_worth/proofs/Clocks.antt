-- What connections, and queries that wait, say as time goes on and as messages come asks for nothing.
use Rattle.std.proofs.Common.{ℕ, ◌+◌, ◌≤◌, ◌≡◌, Bool, true, false, List, [], ◌∷◌, Option, Some, None, refl, arith, slice_get, if◌then◌else◌}
use Rattle.std.specs.List.{list_any}
use Rattle.std.proofs.Math.Seq.{take-append_seam, take-length}
use Rattle.nsi_primitive.specs.Ids.{id_of}
use Rattle.nsi_primitive.specs.declared.message.Message.{Message}
use Rattle.connection_record.specs.declared.life.LifecycleMove.{LifecycleMove}
use Rattle.connection_record.specs.declared.record.Record.{Record}
use Rattle.connection_record.specs.Applied.{end_of, schedule_end}
use Rattle.connection_record.specs.Demand.{last}
use Rattle.connection_record.specs.Lives.{lives_if}
use Rattle.connection_record.specs.Moves.{is_live, is_due}
use Rattle.connection_record.specs.Replies.{Moved, addressed}
use Rattle.connection_record.specs.Speaking.{tally, is_asking, asks_for}
use Rattle.connection_record.proofs.Saying.{tally_append}
use Rattle.child_connection.specs.Views.{ChildConnection}
use Rattle.agent_state.specs.declared.parent.Due.{Due}
use Rattle.agent_state.specs.declared.parent.Leg.{Leg}
use Rattle.agent_state.specs.declared.parent.OpenQuery.{OpenQuery}
use Rattle.agent_state.specs.declared.parent.Part.{Part}
use Rattle.aggregator_agent.specs.declared.agent.Agent.{Agent}
use Rattle.aggregator_agent.specs.Below.{is_asked, nested_reply, Heard, part_of, closes_unless, told_at, tells_query, tells_first, tells_if, asked_place, hear_below}
use Rattle.aggregator_agent.specs.Clock.{is_late_of, tells_late, Told as Tell, tell_one, tell_all, ends, clocked, Clocked, clock_then, clock_all}
use Rattle.aggregator_agent.specs.Setting.{Setting}
use Rattle.agent_speech.proofs.Turning.{lives_if_speaks, ending_own}
use Rattle.request_worth.specs.Worth.{worth_of, owed_ends}
use Rattle.request_worth.proofs.Fees.{worth_none, worth_append, worth_other, addressed_worth}
use Rattle.request_worth.proofs.Lasting.{Lasts, lasts_same, lasts_then, lives_last}
use Rattle.request_worth.proofs.Sides.{ArePaid, paid_later, owed_lasts}

---- Queries that wait

module _ (fee : Message → ℕ) where
  closed_quiet : (waits : Bool) (agent : List ℕ) (own : Record) (q : OpenQuery) (qs : List OpenQuery) → worth_of fee (closes_unless waits agent own q qs).out ≡ 0
  closed_quiet true agent own q qs = worth_none fee
  closed_quiet false agent own q qs = worth_other fee (nested_reply agent own q) refl

  query_quiet : (own : Option Record) (place : Option ℕ) (agent : List ℕ) (p : Part) (q : OpenQuery) (qs : List OpenQuery) (rest : Heard) → worth_of fee rest.out ≡ 0 → worth_of fee (tells_query own place agent p q qs rest).out ≡ 0
  query_quiet (Some own) (Some n) agent p q qs rest h = closed_quiet (list_any is_asked (told_at n p q).parts) agent own (told_at n p q) qs
  query_quiet None place agent p q qs rest h = h
  query_quiet (Some own) None agent p q qs rest h = h

  first_quiet : (agent : List ℕ) (records : List Record) (c : ℕ) (p : Part) (qs : List OpenQuery) → worth_of fee (tells_first agent records c p qs).out ≡ 0
  unfolding tells_first
  first_quiet agent records c p [] = worth_none fee
  first_quiet agent records c p (q ∷ qs) = query_quiet (slice_get records q.place) (asked_place c q) agent p q qs (tells_first agent records c p qs) (first_quiet agent records c p qs)

  pub below_quiet : (agent : List ℕ) (records : List Record) (m : Message) (qs : List OpenQuery) → worth_of fee (hear_below agent records m qs).out ≡ 0
  below_quiet agent records m qs = by (part_of m.body)
    where
      by : (o : Option Part) → worth_of fee (tells_if o agent records m.header.correlation qs).out ≡ 0
      by None = worth_none fee
      by (Some p) = first_quiet agent records m.header.correlation p qs

---- A record in the course of a tick

record IsTolled (own : Record) (t : Tell) : Type 0 where
  lasts : Lasts own t.own
  asks : tally asks_for t.out ≡ 0

late_lasts : (delivery c now : ℕ) (r : Record) → Lasts r (tells_late delivery c now r).rec
unfolding tells_late
late_lasts delivery c now r =
    record {
      later = record {
        id = refl;
        owner = refl;
        service = refl;
        source = refl;
        dest = refl;
        committed = take-length r.committed;
        notices = take-append_seam r.notices _;
        results = take-length r.results;
      };
      lives = λ h. h;
    }

late_asks : (delivery c now : ℕ) (r : Record) → tally asks_for (tells_late delivery c now r).out ≡ 0
unfolding tells_late tally is_asking
late_asks delivery c now r = refl

one_tolled : (b : Bool) (agent : Agent) (now next : ℕ) (own : Record) (d : Due) (rest : Record → ℕ → Tell) → ((r : Record) (k : ℕ) → IsTolled r (rest r k)) → IsTolled own (tell_one b agent now next own d rest)
unfolding tell_one
one_tolled false agent now next own d rest h = h own next
one_tolled true agent now next own d rest h =
    let id : ℕ = id_of agent.number next in
    let x : Moved = tells_late d.correlation id now own in
    let t : Tell = rest x.rec (next + 1) in
    let a : IsTolled x.rec t = h x.rec (next + 1) in
    record { lasts = lasts_then own x.rec t.own (late_lasts d.correlation id now own) a.lasts; asks = omega (arith, tally_append asks_for x.out t.out, late_asks d.correlation id now own, a.asks) }

all_tolled : (ds : List Due) (agent : Agent) (now number : ℕ) (waiting : List Message) (own : Record) (next : ℕ) → IsTolled own (tell_all ds agent now number waiting own next)
unfolding tell_all tally
all_tolled [] agent now number waiting own next = record { lasts = lasts_same own; asks = refl }
all_tolled (d ∷ ds) agent now number waiting own next =
    one_tolled (is_late_of number now waiting d) agent now next own d (λ r n. tell_all ds agent now number waiting r n) (λ r n. all_tolled ds agent now number waiting r n)

end_time : (b : Bool) (now : ℕ) (r : Record) → Lasts r (lives_if (if b then Some LifecycleMove.EndTime else None) now r).rec
end_time true now r = lives_last (Some LifecycleMove.EndTime) now r (λ move e. let same : LifecycleMove.EndTime ≡ move = cc in rw (← same) refl)
end_time false now r = lasts_same r

ends_last : (b : Bool) (now : ℕ) (r : Record) → Lasts r (ends b now r).rec
unfolding ends
ends_last false now r = lasts_same r
ends_last true now r = end_time (is_due (end_of (last r.committed)) now) now r

ends_ask : (b : Bool) (now : ℕ) (r : Record) → tally asks_for (ends b now r).out ≡ 0
unfolding ends tally
ends_ask false now r = refl
ends_ask true now r = (lives_if_speaks (schedule_end (last r.committed) now) now r (ending_own (last r.committed) now).0).asks

clocked_tolled : (agent : Agent) (now number : ℕ) (ds : List Due) (waiting : List Message) (own : Record) (next : ℕ) → IsTolled own (clocked agent now number ds waiting own next)
unfolding clocked
clocked_tolled agent now number ds waiting own next =
    let x : Moved = ends (is_live own.lsm) now own in
    let t : Tell = tell_all ds agent now number waiting x.rec next in
    let a : IsTolled x.rec t = all_tolled ds agent now number waiting x.rec next in
    record { lasts = lasts_then own x.rec t.own (ends_last (is_live own.lsm) now own) a.lasts; asks = omega (arith, tally_append asks_for x.out t.out, ends_ask (is_live own.lsm) now own, a.asks) }

---- A tick

module _ (price : Leg → ℕ) (fee : Message → ℕ) (setting : Setting) where
  -- records beside the views of their children, which stay as they are
  pub record IsClocked (rs : List Record) (xss : List (List ChildConnection)) (x : Clocked) : Type 0 where
    pub kept : ArePaid price fee setting x.records xss
    pub paid : worth_of fee x.out + owed_ends price x.records xss ≤ owed_ends price rs xss

  pub all_clocked : (agent : Agent) (now number : ℕ) (ds : List Due) (waiting : List Message) (next : ℕ) (rs : List Record) (xss : List (List ChildConnection)) → ArePaid price fee setting rs xss →
      IsClocked rs xss (clock_all agent now number ds waiting next rs)
  unfolding clock_all clock_then owed_ends
  all_clocked agent now number ds waiting next [] [] ok = record { kept = tt; paid = omega (arith, worth_none fee) }
  all_clocked agent now number ds waiting next [] (xs ∷ xss) ok = absurd ok
  all_clocked agent now number ds waiting next (r ∷ rs) [] ok = absurd ok
  all_clocked agent now number ds waiting next (r ∷ rs) (xs ∷ xss) ok =
      let t : Tell = clocked agent now number ds waiting r next in
      let a : IsTolled r t = clocked_tolled agent now number ds waiting r next in
      let rest : Clocked = clock_all agent now (number + 1) ds waiting t.next rs in
      let b : IsClocked rs xss rest = all_clocked agent now (number + 1) ds waiting t.next rs xss ok.1 in
      record {
        kept = (paid_later price fee setting r t.own xs xs a.lasts.later ok.0 ok.0.views, b.kept);
        paid = omega (
          arith,
          worth_append fee (addressed agent.name t.own.owner t.out) rest.out,
          addressed_worth fee agent.name t.own.owner t.out a.asks,
          owed_lasts price fee r t.own xs a.lasts,
          b.paid,
        );
      }
