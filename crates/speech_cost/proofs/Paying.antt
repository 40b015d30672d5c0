-- What a record's moves say is paid by what was left to say, and by requests.
use Rattle.std.proofs.Common.{ℕ, ◌+◌, ◌*◌, ◌≤◌, ◌≡◌, Bool, true, false, List, [], ◌∷◌, ◌++◌, Option, refl, ap, arith}
use Rattle.nsi_primitive.specs.declared.state.Rsm.{Rsm}
use Rattle.nsi_primitive.specs.declared.state.Psm.{Psm}
use Rattle.nsi_primitive.specs.declared.state.Lsm.{Lsm}
use Rattle.nsi_primitive.specs.declared.state.Side.{Side}
use Rattle.nsi_primitive.specs.declared.message.Body.{Body}
use Rattle.nsi_primitive.specs.declared.message.Criteria.{Criteria}
use Rattle.nsi_primitive.specs.declared.message.Message.{Message}
use Rattle.nsi_primitive.specs.declared.plane.Plane.{Plane}
use Rattle.reserve_machine.specs.Table.{step as reserve_step}
use Rattle.provision_machine.specs.Table.{step as provision_step}
use Rattle.lifecycle_machine.specs.Table.{step as lifecycle_step}
use Rattle.dataplane_state.specs.Plane.{announces}
use Rattle.connection_record.specs.declared.record.Record.{Record}
use Rattle.connection_record.specs.declared.moves.Reply.{Reply}
use Rattle.connection_record.specs.declared.moves.ReservationMove.{ReservationMove}
use Rattle.connection_record.specs.declared.provisioning.ProvisionMove.{ProvisionMove}
use Rattle.connection_record.specs.declared.life.LifecycleMove.{LifecycleMove}
use Rattle.connection_record.specs.Demand.{last}
use Rattle.connection_record.specs.Replies.{Moved, stays, addressed}
use Rattle.connection_record.specs.Moves.{event_of, reserves}
use Rattle.connection_record.specs.Lives.{provision_event, lifecycle_event, provisions, lives}
use Rattle.connection_record.specs.Applied.{tells_plane, tells, is_told, status_of}
use Rattle.connection_record.specs.Speaking.{one}
use Rattle.speech_cost.specs.Costs.{cost, replies_cost, messages_cost, left_reserve, left_provision, left_life, changes, left}

---- What is said

pub cost_few : (b : Body) → cost b ≤ 5
cost_few b = grind arith

pub replies_append : (xs ys : List Reply) → replies_cost (xs ++ ys) ≡ replies_cost xs + replies_cost ys
unfolding replies_cost
replies_append [] ys = omega arith
replies_append (x ∷ xs) ys = omega (arith, replies_append xs ys)

pub messages_append : (xs ys : List Message) → messages_cost (xs ++ ys) ≡ messages_cost xs + messages_cost ys
unfolding messages_cost
messages_append [] ys = omega arith
messages_append (x ∷ xs) ys = omega (arith, messages_append xs ys)

pub one_message : (m : Message) → messages_cost (m ∷ []) ≤ 5
unfolding messages_cost
one_message m = omega (arith, cost_few m.body)

pub addressed_cost : (name owner : List ℕ) (out : List Reply) → messages_cost (addressed name owner out) ≡ replies_cost out
unfolding messages_cost replies_cost
addressed_cost name owner [] = refl
addressed_cost name owner (x ∷ xs) = omega (arith, addressed_cost name owner xs)

---- The reservation machine

-- what a move of it is worth, where it is a request
abbrev pub reserve_worth : ReservationMove → ℕ
reserve_worth (ReservationMove.Reserve c criteria) = 3
reserve_worth (ReservationMove.Commit c) = 16
reserve_worth (ReservationMove.Abort c) = 1
reserve_worth _ = 0

abbrev pub is_done : ReservationMove → Bool
is_done ReservationMove.Done = true
is_done _ = false

pub reserves_paid : (k : Rsm) (move : ReservationMove) (now : ℕ) (r : Record) → r.rsm ≡ k →
    replies_cost (reserves k move now r).out + left_reserve (reserves k move now r).rec.rsm ≤ left_reserve k + reserve_worth move
unfolding reserves reserve_step event_of left_reserve replies_cost
reserves_paid k move now r e = grind arith

pub reserves_psm : (k : Rsm) (move : ReservationMove) (now : ℕ) (r : Record) → (reserves k move now r).rec.psm ≡ r.psm
unfolding reserves reserve_step event_of
reserves_psm k move now r = grind arith

pub reserves_lsm : (k : Rsm) (move : ReservationMove) (now : ℕ) (r : Record) → (reserves k move now r).rec.lsm ≡ r.lsm
unfolding reserves reserve_step event_of
reserves_lsm k move now r = grind arith

pub reserves_committed : (k : Rsm) (move : ReservationMove) (now : ℕ) (r : Record) → is_done move ≡ false → (reserves k move now r).rec.committed ≡ r.committed
unfolding reserves reserve_step event_of
reserves_committed k move now r e = grind (arith, e)

---- The provision machine

abbrev pub provision_worth : ProvisionMove → ℕ
provision_worth (ProvisionMove.Provision c) = 6
provision_worth (ProvisionMove.Release c) = 6
provision_worth _ = 0

pub provisions_paid : (side : Side) (k : Psm) (move : ProvisionMove) (now : ℕ) (r : Record) → r.psm ≡ k →
    replies_cost (provisions side k move now r).out + left_provision (provisions side k move now r).rec.psm ≤ left_provision k + provision_worth move
unfolding provisions provision_step provision_event left_provision replies_cost
provisions_paid side k move now r e = grind arith

pub provisions_rsm : (side : Side) (k : Psm) (move : ProvisionMove) (now : ℕ) (r : Record) → (provisions side k move now r).rec.rsm ≡ r.rsm
unfolding provisions provision_step provision_event
provisions_rsm side k move now r = grind arith

pub provisions_lsm : (side : Side) (k : Psm) (move : ProvisionMove) (now : ℕ) (r : Record) → (provisions side k move now r).rec.lsm ≡ r.lsm
unfolding provisions provision_step provision_event
provisions_lsm side k move now r = grind arith

pub provisions_committed : (side : Side) (k : Psm) (move : ProvisionMove) (now : ℕ) (r : Record) → (provisions side k move now r).rec.committed ≡ r.committed
unfolding provisions provision_step provision_event
provisions_committed side k move now r = grind arith

---- The lifecycle machine

abbrev pub life_worth : LifecycleMove → ℕ
life_worth (LifecycleMove.Terminate c) = 6
life_worth _ = 0

pub lives_paid : (k : Lsm) (move : LifecycleMove) (now : ℕ) (r : Record) → r.lsm ≡ k →
    replies_cost (lives k move now r).out + left_life (lives k move now r).rec.lsm ≤ left_life k + life_worth move
unfolding lives lifecycle_step lifecycle_event left_life replies_cost
lives_paid k move now r e = grind arith

pub lives_rsm : (k : Lsm) (move : LifecycleMove) (now : ℕ) (r : Record) → (lives k move now r).rec.rsm ≡ r.rsm
unfolding lives lifecycle_step lifecycle_event
lives_rsm k move now r = grind arith

pub lives_psm : (k : Lsm) (move : LifecycleMove) (now : ℕ) (r : Record) → (lives k move now r).rec.psm ≡ r.psm
unfolding lives lifecycle_step lifecycle_event
lives_psm k move now r = grind arith

pub lives_committed : (k : Lsm) (move : LifecycleMove) (now : ℕ) (r : Record) → (lives k move now r).rec.committed ≡ r.committed
unfolding lives lifecycle_step lifecycle_event
lives_committed k move now r = grind arith

---- The data plane

pub few_changes : (c : Option Criteria) (now : ℕ) → changes c now ≤ 2
unfolding changes
few_changes c now = grind arith

announces_self : (p : Plane) → announces p p ≡ false
unfolding announces
announces_self p = grind arith

-- where nothing changes on which it depends, no change of it is told
pub untold : (now : ℕ) (r q : Record) → q.psm ≡ r.psm → q.lsm ≡ r.lsm → q.committed ≡ r.committed → is_told (status_of now r) now q ≡ false
untold now r q e f g = rw (e, f, g) (announces_self (status_of now r))

pub plane_cost : (told : Bool) (p : Plane) (c now : ℕ) (r : Record) → replies_cost (tells_plane told p c now r).out ≡ 5 * one told
unfolding tells_plane replies_cost
plane_cost true p c now r = refl
plane_cost false p c now r = refl

pub plane_left : (told : Bool) (p : Plane) (c now n : ℕ) (r : Record) → left n (tells_plane told p c now r).rec ≡ left n r
unfolding tells_plane left
plane_left true p c now n r = refl
plane_left false p c now n r = refl

---- A record's move, and the change of its data plane

-- all that it says is paid: by what was left at one second, of which so much is left at another one, and by a gift
pub record PaysBy (gift was now : ℕ) (r : Record) (x : Moved) (told : Bool) : Type 0 where
  pub paid : replies_cost x.out + (5 * one told + left now x.rec) ≤ left was r + gift

pub tells_paid : (gift was now : ℕ) (before : Plane) (c : ℕ) (r : Record) (x : Moved) → PaysBy gift was now r x (is_told before now x.rec) →
    replies_cost (tells before c now x).out + left now (tells before c now x).rec ≤ left was r + gift
unfolding tells
tells_paid gift was now before c r x h =
    let told : Bool = is_told before now x.rec in
    let p : Plane = status_of now x.rec in
    omega (arith, replies_append x.out (tells_plane told p c now x.rec).out, plane_cost told p c now x.rec, plane_left told p c now now x.rec, h.paid)

one_few : (b : Bool) → one b ≤ 1
one_few b = grind arith

-- a gift of five more pays for whatever is told
pub pays_told : (gift was now : ℕ) (r : Record) (x : Moved) (told : Bool) → replies_cost x.out + left now x.rec ≤ left was r + gift → PaysBy (gift + 5) was now r x told
pays_told gift was now r x told h = record { paid = omega (arith, h, one_few told) }

-- nothing is told
pub pays_untold : (gift was now : ℕ) (r : Record) (x : Moved) (told : Bool) → told ≡ false → replies_cost x.out + left now x.rec ≤ left was r + gift → PaysBy gift was now r x told
pays_untold gift was now r x told e h = record { paid = omega (arith, h, ap one e) }

---- Requests

-- the parts of what is left, of a move of one machine
left_reserves : (gift now : ℕ) (r q : Record) (n : ℕ) → q.psm ≡ r.psm → q.lsm ≡ r.lsm → q.committed ≡ r.committed → n + left_reserve q.rsm ≤ left_reserve r.rsm + gift → n + left now q ≤ left now r + gift
unfolding left
left_reserves gift now r q n e f g h = omega (arith, ap left_provision e, ap left_life f, ap (λ cs. changes (last cs) now) g, h)

pub left_provisions : (gift now : ℕ) (r q : Record) (n : ℕ) → q.rsm ≡ r.rsm → q.lsm ≡ r.lsm → q.committed ≡ r.committed → n + left_provision q.psm ≤ left_provision r.psm + gift → n + left now q ≤ left now r + gift
unfolding left
left_provisions gift now r q n e f g h = omega (arith, ap left_reserve e, ap left_life f, ap (λ cs. changes (last cs) now) g, h)

pub left_lives : (gift now : ℕ) (r q : Record) (n : ℕ) → q.rsm ≡ r.rsm → q.psm ≡ r.psm → q.committed ≡ r.committed → n + left_life q.lsm ≤ left_life r.lsm + gift → n + left now q ≤ left now r + gift
unfolding left
left_lives gift now r q n e f g h = omega (arith, ap left_reserve e, ap left_provision f, ap (λ cs. changes (last cs) now) g, h)

pub reserves_left : (move : ReservationMove) (n now : ℕ) (r : Record) → is_done move ≡ false →
    replies_cost (reserves r.rsm move now r).out + left n (reserves r.rsm move now r).rec ≤ left n r + reserve_worth move
reserves_left move n now r e =
    let x : Moved = reserves r.rsm move now r in
    left_reserves (reserve_worth move) n r x.rec (replies_cost x.out) (reserves_psm r.rsm move now r) (reserves_lsm r.rsm move now r) (reserves_committed r.rsm move now r e)
    (reserves_paid r.rsm move now r refl)

pub provisions_left : (side : Side) (move : ProvisionMove) (now : ℕ) (r : Record) →
    replies_cost (provisions side r.psm move now r).out + left now (provisions side r.psm move now r).rec ≤ left now r + provision_worth move
provisions_left side move now r =
    let x : Moved = provisions side r.psm move now r in
    left_provisions (provision_worth move) now r x.rec (replies_cost x.out) (provisions_rsm side r.psm move now r) (provisions_lsm side r.psm move now r) (provisions_committed side r.psm move now r)
    (provisions_paid side r.psm move now r refl)

pub lives_left : (move : LifecycleMove) (now : ℕ) (r : Record) → replies_cost (lives r.lsm move now r).out + left now (lives r.lsm move now r).rec ≤ left now r + life_worth move
lives_left move now r =
    let x : Moved = lives r.lsm move now r in
    left_lives (life_worth move) now r x.rec (replies_cost x.out) (lives_rsm r.lsm move now r) (lives_psm r.lsm move now r) (lives_committed r.lsm move now r) (lives_paid r.lsm move now r refl)

pub stays_left : (gift now : ℕ) (r : Record) → replies_cost (stays r).out + left now (stays r).rec ≤ left now r + gift
unfolding replies_cost
stays_left gift now r = omega arith
