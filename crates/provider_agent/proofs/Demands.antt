-- What is done to a record makes of its demand: only what fits raises it.
use Rattle.std.proofs.Common.{◌≡◌, ◌≤◌, ◌⊎◌, inl, inr, ◌∙◌, ℕ, Bool, true, false, not, ◌&&◌, cond, eqb, List, Option, Some, None, IfSome, arith, refl, sym, ap, append-nil}
use Rattle.std.proofs.lemmas.Bool.Decides.{nat_tests}
use Rattle.nsi_base.specs.Range.{is_covered}
use Rattle.nsi_base.specs.declared.flow.Flow.{Flow}
use Rattle.nsi_base.specs.Flows.{books}
use Rattle.nsi_primitive.specs.Kinds.{is_both_ways}
use Rattle.nsi_primitive.specs.declared.kind.ErrorName.{ErrorName}
use Rattle.nsi_primitive.specs.declared.plane.Plane.{Plane}
use Rattle.nsi_primitive.specs.declared.state.Lsm.{Lsm}
use Rattle.nsi_primitive.specs.declared.state.Psm.{Psm}
use Rattle.nsi_primitive.specs.declared.state.Rsm.{Rsm}
use Rattle.nsi_primitive.specs.declared.state.Side.{Side}
use Rattle.nsi_primitive.specs.declared.message.Criteria.{Criteria}
use Rattle.nsi_primitive.specs.declared.message.Exception.{Exception}
use Rattle.nsi_primitive.specs.declared.message.Service.{Service}
use Rattle.reserve_machine.specs.Table.{step as reserve_step}
use Rattle.provision_machine.specs.Table.{step as provision_step}
use Rattle.lifecycle_machine.specs.Table.{step as lifecycle_step}
use Rattle.connection_record.specs.declared.record.Record.{Record}
use Rattle.connection_record.specs.declared.life.LifecycleMove.{LifecycleMove}
use Rattle.connection_record.specs.declared.moves.Origin.{Origin}
use Rattle.connection_record.specs.declared.moves.ReservationMove.{ReservationMove}
use Rattle.connection_record.specs.declared.provisioning.ProvisionMove.{ProvisionMove}
use Rattle.connection_record.specs.declared.apply.Move.{Move}
use Rattle.connection_record.specs.Demand.{last, held, claim, claims, is_booked, is_terminated, demand}
use Rattle.connection_record.specs.Lives.{provision_event, lifecycle_event, provisions, provisions_if, lives, lives_if}
use Rattle.connection_record.specs.Moves.{event_of, reserves, reserves_if, committed_with, hold_end, is_live}
use Rattle.connection_record.specs.Replies.{Moved, plain}
use Rattle.connection_record.specs.Applied.{closes_reservation, closes_provision, reservation_closing, provision_closing, closes, moves, moves_if, schedule_end, ticks, ticked, tells}
use Rattle.provider_agent.proofs.RecordPlaces.{last_pushed}
use Rattle.provider_agent.proofs.Turning.{told_keeps}

-- what is committed claims what was pending, or what was committed before
claim_committed : (cs : List Criteria) (pending : Option Criteria) (t : ℕ) → (claim (last (committed_with cs pending)) t ≡ claim pending t) ⊎ (claim (last (committed_with cs pending)) t ≡ claim (last cs) t)
claim_committed cs None t = inr (ap (λ xs. claim (last xs) t) (append-nil cs))
claim_committed cs (Some c) t = inl (ap (λ o. claim o t) (last_pushed cs c))

-- the same points and direction, and not from an end back to a life
pub record IsClaimant (a b : Record) : Type 0 where
  pub service : a.service ≡ b.service
  pub source : a.source ≡ b.source
  pub dest : a.dest ≡ b.dest
  pub ended : is_terminated b.lsm ≡ true → is_terminated a.lsm ≡ true

cond_le : (b c : Bool) (m n : ℕ) → (b ≡ true → c ≡ true) → m ≤ n → cond b m 0 ≤ cond c n 0
cond_le true true m n e le = le
cond_le true false m n e le = absurd (let clash : false ≡ true = e refl in cc)
cond_le false c m n e le = omega arith

not_ended : (x a b : Bool) → (b ≡ true → a ≡ true) → (x && not a) ≡ true → (x && not b) ≡ true
not_ended true true true h e = e
not_ended true true false h e = refl
not_ended true false true h e = absurd (let clash : false ≡ true = h refl in cc)
not_ended true false false h e = refl
not_ended false a b h e = absurd (cc)

demand_le : (a b : Record) (flow : Flow) (stp t : ℕ) → IsClaimant a b → claims a t ≤ claims b t → demand flow stp t a ≤ demand flow stp t b
unfolding demand
demand_le a b flow stp t same le =
    cond_le (is_booked flow stp a && not (is_terminated a.lsm)) (is_booked flow stp b && not (is_terminated b.lsm)) (claims a t) (claims b t) counted le
  where
    books_by : Service → ℕ → ℕ → Bool
    books_by service source dest = books flow (is_both_ways service.directionality) (eqb source stp) (eqb dest stp)

    equal : is_booked flow stp a ≡ is_booked flow stp b
    equal = ap (λ x. books_by x a.source a.dest) same.service ∙ ap (λ x. books_by b.service x a.dest) same.source ∙ ap (λ x. books_by b.service b.source x) same.dest

    counted : (is_booked flow stp a && not (is_terminated a.lsm)) ≡ true → (is_booked flow stp b && not (is_terminated b.lsm)) ≡ true
    counted h = not_ended (is_booked flow stp b) (is_terminated a.lsm) (is_terminated b.lsm) same.ended (sym (ap (λ x. x && not (is_terminated a.lsm)) equal) ∙ h)

---- The reservation machine

-- a move that lets nothing be held
abbrev pub IsNoFitReservation : ReservationMove → Type 0
IsNoFitReservation (ReservationMove.Fit deadline) = ⊥
IsNoFitReservation _ = Unit {0}

reserves_claimant : (k : Rsm) (move : ReservationMove) (now : ℕ) (r : Record) → IsClaimant (reserves k move now r).rec r
unfolding reserves reserve_step event_of
reserves_claimant k move now r = grind arith

reserves_claims : (k : Rsm) (move : ReservationMove) (now : ℕ) (r : Record) (t : ℕ) → r.rsm ≡ k → IsNoFitReservation move → claims (reserves k move now r).rec t ≤ claims r t
unfolding reserves reserve_step event_of
reserves_claims k move now r t e f = grind (arith, nat_tests, claim_committed)

-- but for a fit no move raises a demand
pub reserves_demand : (k : Rsm) (move : ReservationMove) (now : ℕ) (r : Record) (flow : Flow) (stp t : ℕ) → r.rsm ≡ k → IsNoFitReservation move → demand flow stp t (reserves k move now r).rec ≤ demand flow stp t r
reserves_demand k move now r flow stp t e f = demand_le (reserves k move now r).rec r flow stp t (reserves_claimant k move now r) (reserves_claims k move now r t e f)

-- what fits claims no more than before, or what was asked
pub fit_demand : (deadline : Option ℕ) (now : ℕ) (r : Record) (c : Criteria) (flow : Flow) (stp t : ℕ) → r.rsm ≡ Rsm.ReserveChecking → r.pending ≡ Some c
    → (demand flow stp t (reserves Rsm.ReserveChecking (ReservationMove.Fit deadline) now r).rec ≤ demand flow stp t r)
    ⊎ ((is_booked flow stp r ≡ true) × (is_covered c.interval t ≡ true) × (demand flow stp t (reserves Rsm.ReserveChecking (ReservationMove.Fit deadline) now r).rec ≤ c.capacity))
unfolding reserves reserve_step event_of demand
fit_demand deadline now r c flow stp t e p = grind (arith, nat_tests)

reserves_if_demand : (o : Option ReservationMove) (now : ℕ) (r : Record) (flow : Flow) (stp t : ℕ) → IfSome o IsNoFitReservation → demand flow stp t (reserves_if o now r).rec ≤ demand flow stp t r
reserves_if_demand None now r flow stp t f = omega arith
reserves_if_demand (Some move) now r flow stp t f = reserves_demand r.rsm move now r flow stp t refl f

---- The other machines

abbrev IsSameClaim : Record → Record → Type 0
IsSameClaim a b = (a.committed ≡ b.committed) × (held a ≡ held b)

claims_same : (a b : Record) (t : ℕ) → IsSameClaim a b → claims a t ≤ claims b t
claims_same a b t same =
    let committed = ap (λ cs. claim (last cs) t) same.0 in
    let pending = ap (λ o. claim o t) same.1 in
    grind (arith, committed, pending)

provisions_claimant : (side : Side) (k : Psm) (move : ProvisionMove) (now : ℕ) (r : Record) → IsClaimant (provisions side k move now r).rec r
unfolding provisions provision_step provision_event
provisions_claimant side k move now r = grind arith

provisions_claim : (side : Side) (k : Psm) (move : ProvisionMove) (now : ℕ) (r : Record) → IsSameClaim (provisions side k move now r).rec r
unfolding provisions provision_step provision_event
provisions_claim side k move now r = grind arith

lives_claimant : (k : Lsm) (move : LifecycleMove) (now : ℕ) (r : Record) → r.lsm ≡ k → IsClaimant (lives k move now r).rec r
unfolding lives lifecycle_step lifecycle_event
lives_claimant k move now r e = grind arith

lives_claim : (k : Lsm) (move : LifecycleMove) (now : ℕ) (r : Record) → IsSameClaim (lives k move now r).rec r
unfolding lives lifecycle_step lifecycle_event
lives_claim k move now r = grind arith

provisions_if_demand : (side : Side) (o : Option ProvisionMove) (now : ℕ) (r : Record) (flow : Flow) (stp t : ℕ) → demand flow stp t (provisions_if side o now r).rec ≤ demand flow stp t r
provisions_if_demand side None now r flow stp t = omega arith
provisions_if_demand side (Some move) now r flow stp t =
    let x : Record = (provisions side r.psm move now r).rec in
    demand_le x r flow stp t (provisions_claimant side r.psm move now r) (claims_same x r t (provisions_claim side r.psm move now r))

lives_if_demand : (o : Option LifecycleMove) (now : ℕ) (r : Record) (flow : Flow) (stp t : ℕ) → demand flow stp t (lives_if o now r).rec ≤ demand flow stp t r
lives_if_demand None now r flow stp t = omega arith
lives_if_demand (Some move) now r flow stp t =
    let x : Record = (lives r.lsm move now r).rec in
    demand_le x r flow stp t (lives_claimant r.lsm move now r refl) (claims_same x r t (lives_claim r.lsm move now r))

---- All of them

closing_no_fit : (k : Rsm) (gone : Exception) → IfSome (reservation_closing k gone) IsNoFitReservation
unfolding reservation_closing
closing_no_fit k gone = grind arith

closes_demand : (agent : List ℕ) (side : Side) (now : ℕ) (r : Record) (flow : Flow) (stp t : ℕ) → demand flow stp t (closes agent side now r).rec ≤ demand flow stp t r
unfolding closes
closes_demand agent side now r flow stp t =
    let gone : Exception = plain agent ErrorName.Gone in
    let a : Moved = closes_reservation agent now r in
    let b : Moved = closes_provision agent side now a.rec in
    omega (arith, reserves_if_demand (reservation_closing r.rsm gone) now r flow stp t (closing_no_fit r.rsm gone), provisions_if_demand side (provision_closing a.rec.psm gone) now a.rec flow stp t, lives_if_demand (Some LifecycleMove.Done) now b.rec flow stp t)

abbrev pub IsNoFit : Move → Type 0
IsNoFit (Move.Reservation m) = IsNoFitReservation m
IsNoFit _ = Unit {0}

-- A move that lets nothing be held raises no demand,
pub moves_demand : (side : Side) (move : Move) (now : ℕ) (r : Record) (flow : Flow) (stp t : ℕ) → IsNoFit move → demand flow stp t (moves side move now r).rec ≤ demand flow stp t r
unfolding moves
moves_demand side (Move.Reservation m) now r flow stp t f = reserves_demand r.rsm m now r flow stp t refl f
moves_demand side (Move.Provision m) now r flow stp t f = provisions_if_demand side (Some m) now r flow stp t
moves_demand side (Move.Lifecycle m) now r flow stp t f = lives_if_demand (Some m) now r flow stp t
moves_demand side (Move.Close agent) now r flow stp t f = closes_demand agent side now r flow stp t

pub moves_if_demand : (side : Side) (o : Option Move) (now : ℕ) (r : Record) (flow : Flow) (stp t : ℕ) → IfSome o IsNoFit → demand flow stp t (moves_if side o now r).rec ≤ demand flow stp t r
moves_if_demand side None now r flow stp t f = omega arith
moves_if_demand side (Some move) now r flow stp t f = moves_demand side move now r flow stp t f

hold_end_no_fit : (k : Rsm) (deadline : Option ℕ) (now : ℕ) (origin : Origin) → IfSome (hold_end k deadline now origin) IsNoFitReservation
unfolding hold_end
hold_end_no_fit k deadline now origin = grind arith

-- a tick raises none,
pub ticked_demand : (origin : Origin) (now : ℕ) (r : Record) (flow : Flow) (stp t : ℕ) → demand flow stp t (ticked origin now r).rec ≤ demand flow stp t r
unfolding ticks
ticked_demand origin now r flow stp t = by_life (is_live r.lsm)
  where
    ended : Record
    ended = (reserves_if (hold_end r.rsm r.deadline now origin) now r).rec

    by_life : (b : Bool) → demand flow stp t (ticks b origin now r).rec ≤ demand flow stp t r
    by_life false = omega arith
    by_life true = omega (arith, reserves_if_demand (hold_end r.rsm r.deadline now origin) now r flow stp t (hold_end_no_fit r.rsm r.deadline now origin), lives_if_demand (schedule_end (last ended.committed) now) now ended flow stp t)

-- and what is told of the data plane changes none.
pub told_demand : (p : Plane) (c now : ℕ) (x : Moved) (flow : Flow) (stp t : ℕ) → demand flow stp t (tells p c now x).rec ≡ demand flow stp t x.rec
unfolding demand
told_demand p c now x flow stp t = told_keeps (λ r. demand flow stp t r ≡ demand flow stp t x.rec) p c now x (λ notices. refl)
