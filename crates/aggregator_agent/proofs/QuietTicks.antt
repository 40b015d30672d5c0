-- A tick at which a connection has nothing to do leaves it alone, and no tick makes more of a connection than its end and its notices.
use Rattle.std.proofs.Common.{◌≡◌, ◌∙◌, ◌==◌, ◌<◌, ◌+◌, ◌⊎◌, inl, inr, if◌then◌else◌, nat_le, ℕ, Bool, true, false, List, [], ◌∷◌, map, Option, Some, None, refl, ap, subst, arith}
use Rattle.std.specs.List.{Contains}
use Rattle.std.proofs.lemmas.Bool.Decides.{nat_tests}
use Rattle.nsi_primitive.specs.Ids.{id_of}
use Rattle.nsi_primitive.specs.declared.kind.Kind.{Kind}
use Rattle.nsi_primitive.specs.declared.message.Notice.{Notice}
use Rattle.nsi_primitive.specs.declared.state.Lsm.{Lsm}
use Rattle.lifecycle_machine.specs.Table.{step as lifecycle_step}
use Rattle.connection_record.specs.declared.record.Record.{Record}
use Rattle.connection_record.specs.declared.life.LifecycleMove.{LifecycleMove}
use Rattle.connection_record.specs.Demand.{last}
use Rattle.connection_record.specs.Replies.{Moved, stays, noted}
use Rattle.connection_record.specs.Moves.{is_live, is_due}
use Rattle.connection_record.specs.Lives.{lifecycle_event, lives, lives_if}
use Rattle.connection_record.specs.Applied.{schedule_end, end_of}
use Rattle.record_index.specs.declared.deadlines.Deadline.{Deadline}
use Rattle.record_index.proofs.Members.{contains_more}
use Rattle.agent_state.specs.declared.parent.Due.{Due}
use Rattle.aggregator_agent.specs.declared.agent.Agent.{Agent}
use Rattle.aggregator_agent.specs.Clock.{Told, tell_one, tells_late, tells_more, ends}
use Rattle.aggregator_agent.specs.Bonds.{Bond, tell_those, clocked_by, clocked_bond, tick_done}
use Rattle.aggregator_agent.specs.Indexed.{end_at, is_created, end_while, record_end, schedule_end_of, IsEndNamed, MayChange, numbers_of}
use Rattle.aggregator_agent.specs.Rounds.{still, told_so}
use Rattle.aggregator_agent.specs.Settled.{IsSettled, IsSettledIn}
use Rattle.aggregator_agent.proofs.Settles.{settled_ends, noted_settled, over_or_not}
use Rattle.aggregator_agent.proofs.Quiet.{unless}

---- Its end

not_over : (k : Lsm) (now : ℕ) (r : Record) → is_created k ≡ false → lives k LifecycleMove.EndTime now r ≡ stays r
unfolding lives lifecycle_step lifecycle_event is_created
not_over k now r e = grind arith

nothing_over : (move : Option LifecycleMove) (now : ℕ) (r : Record) → is_created r.lsm ≡ false → (move ≡ None) ⊎ (move ≡ Some LifecycleMove.EndTime) → lives_if move now r ≡ stays r
nothing_over move now r e (inl f) = ap (λ m. lives_if m now r) f
nothing_over move now r e (inr f) = ap (λ m. lives_if m now r) f ∙ not_over r.lsm now r e

before_end : (end : Option ℕ) (now : ℕ) → ((e : ℕ) → end ≡ Some e → now < e) → is_due end now ≡ false
before_end None now h = refl
before_end (Some e) now h = let l = h e refl in grind (arith, nat_tests, l)

pub no_end : (lsm : Lsm) (now : ℕ) (own : Record) → own.lsm ≡ lsm → ((e : ℕ) → end_while (is_created lsm) (end_of (last own.committed)) ≡ Some e → now < e) → ends (is_live lsm) now own ≡ stays own
unfolding ends is_live is_created end_while
no_end Lsm.Created now own is h = ap (λ b. lives_if (if b then Some LifecycleMove.EndTime else None) now own) (before_end (end_of (last own.committed)) now h)
no_end Lsm.Failed now own is h = nothing_over (schedule_end (last own.committed) now) now own (ap is_created is) (over_or_not (last own.committed) now)
no_end Lsm.PassedEndTime now own is h = nothing_over (schedule_end (last own.committed) now) now own (ap is_created is) (over_or_not (last own.committed) now)
no_end Lsm.Terminating now own is h = refl
no_end Lsm.Terminated now own is h = refl

---- Its late requests

number_differs : (d : Due) (ds : List Due) (number : ℕ) → (Contains (numbers_of (d ∷ ds)) number → ⊥) → (d.number == number) ≡ false
unfolding numbers_of
number_differs d ds number never = unless (d.number == number) (λ h. never (contains_more d.number number (map (λ (x : Due). x.number) ds) (inl (same d.number number h))))
  where
    same : (a b : ℕ) → (a == b) ≡ true → b ≡ a
    same a b h = grind (arith, nat_tests)

others_differ : (d : Due) (ds : List Due) (number : ℕ) → (Contains (numbers_of (d ∷ ds)) number → ⊥) → Contains (numbers_of ds) number → ⊥
unfolding numbers_of
others_differ d ds number never has = never (contains_more d.number number (map (λ (x : Due). x.number) ds) (inr has))

tells_nothing : (late : List Due) (agent : Agent) (now number : ℕ) (own : Record) (next : ℕ) → (Contains (numbers_of late) number → ⊥) → tell_those late agent now number own next ≡ told_so own next
unfolding tell_those tell_one
tells_nothing [] agent now number own next never = refl
tells_nothing (d ∷ ds) agent now number own next never =
    ap (λ b. tell_one b agent now next own d (λ r n. tell_those ds agent now number r n)) (number_differs d ds number never) ∙ tells_nothing ds agent now number own next (others_differ d ds number never)

---- The whole tick

named_later : (ends_named : List Deadline) (now : ℕ) (late : List Due) (place : ℕ) (end : Option ℕ) → IsEndNamed ends_named place end → (MayChange ends_named now late place → ⊥) → (e : ℕ) → end ≡ Some e → now < e
named_later ends_named now late place end named never e is = later (nat_le e now) refl
  where
    has : Contains ends_named (end_at e place)
    has = subst (λ o. IsEndNamed ends_named place o) is named

    later : (b : Bool) → nat_le e now ≡ b → now < e
    later true h = absurd (never (inl (end_at e place, has, refl, grind (arith, nat_tests))))
    later false h = grind (arith, nat_tests)

pub quiet_tick : (ends_named : List Deadline) (place : ℕ) (agent : Agent) (now : ℕ) (late : List Due) (next : ℕ) (b : Bond) → IsEndNamed ends_named place (schedule_end_of b) → (MayChange ends_named now late place → ⊥)
    → clocked_bond agent now late place next b ≡ still b next
unfolding clocked_by
quiet_tick ends_named place agent now late next b named never =
    let ended = no_end b.own.lsm now b.own refl (named_later ends_named now late place (schedule_end_of b) named never) in
    ap (λ (x : Moved). tick_done agent b (tells_more x (tell_those late agent now place x.rec next))) ended
    ∙ ap (λ (t : Told). tick_done agent b (tells_more (stays b.own) t)) (tells_nothing late agent now place b.own next (λ has. never (inr has)))

---- What a tick makes

-- what notices don't change
told_keeps : (P : Record → Type 0) → ((r : Record) (notices : List Notice) → P r → P (record r { notices = notices })) → (late : List Due) (agent : Agent) (now number : ℕ) (own : Record) (next : ℕ) → P own
    → P (tell_those late agent now number own next).own
unfolding tell_those tell_one tells_late
told_keeps P keeps [] agent now number own next h = h
told_keeps P keeps (d ∷ ds) agent now number own next h = by_test (d.number == number) (told_keeps P keeps ds agent now number own next h)
    (told_keeps P keeps ds agent now number (record own { notices = noted Kind.MessageDeliveryTimeout (id_of agent.number next) now own.notices }) (next + 1) (keeps own (noted Kind.MessageDeliveryTimeout (id_of agent.number next) now own.notices) h))
  where
    by_test : (b : Bool) → P (tell_those ds agent now number own next).own → P (tell_those ds agent now number (record own { notices = noted Kind.MessageDeliveryTimeout (id_of agent.number next) now own.notices }) (next + 1)).own
        → P (tell_one b agent now next own d (λ r n. tell_those ds agent now number r n)).own
    by_test true no_more more = more
    by_test false no_more more = no_more

pub settled_tick : (agent : Agent) (now : ℕ) (late : List Due) (number next : ℕ) (b : Bond) → IsSettled b → IsSettled (clocked_bond agent now late number next b).bond
unfolding clocked_by
settled_tick agent now late number next b h =
    told_keeps (λ r. IsSettledIn r.lsm r b.children) (λ r notices s. noted_settled r.lsm r notices b.children s) late agent now number (ends (is_live b.own.lsm) now b.own).rec next (settled_ends (is_live b.own.lsm) now b.own b.children refl h)

-- a schedule that is to end then ended so before, and later than now
abbrev pub EndsLater : ℕ → (old new : Record) → Type 0
EndsLater now old new = (e : ℕ) → record_end new ≡ Some e → (record_end old ≡ Some e) × (now < e)

over_ended : (k : Lsm) (now : ℕ) (r : Record) → r.lsm ≡ k → record_end (lives k LifecycleMove.EndTime now r).rec ≡ None
unfolding lives lifecycle_step lifecycle_event is_created end_while
over_ended k now r e = grind arith

not_due : (end : Option ℕ) (now e : ℕ) → is_due end now ≡ false → end ≡ Some e → now < e
not_due None now e h is = absurd (cc)
not_due (Some d) now e h is = grind (arith, nat_tests)

while_true : (b : Bool) (end : Option ℕ) (e : ℕ) → end_while b end ≡ Some e → end ≡ Some e
unfolding end_while
while_true true end e h = h
while_true false end e h = absurd (cc)

live_created : (k : Lsm) → is_live k ≡ false → is_created k ≡ false
unfolding is_live is_created
live_created Lsm.Created h = absurd (cc)
live_created _ h = refl

ends_later : (live : Bool) (now : ℕ) (own : Record) → is_live own.lsm ≡ live → EndsLater now own (ends live now own).rec
unfolding ends end_while
ends_later false now own l = λ e is. absurd (none e is)
  where
    none : (e : ℕ) → record_end own ≡ Some e → ⊥
    none e is = by_created (is_created own.lsm) (live_created own.lsm l) is
      where
        by_created : (b : Bool) → b ≡ false → end_while b (end_of (last own.committed)) ≡ Some e → ⊥
        by_created true f g = cc
        by_created false f g = cc
ends_later true now own l = by_due (is_due (end_of (last own.committed)) now) refl
  where
    by_due : (b : Bool) → is_due (end_of (last own.committed)) now ≡ b → EndsLater now own (lives_if (if b then Some LifecycleMove.EndTime else None) now own).rec
    by_due true f = λ e is. absurd (let none = over_ended own.lsm now own refl in cc)
    by_due false f = λ e is. (is, not_due (end_of (last own.committed)) now e f (while_true (is_created own.lsm) (end_of (last own.committed)) e is))

pub tick_ends_later : (agent : Agent) (now : ℕ) (late : List Due) (number next : ℕ) (b : Bond) → EndsLater now b.own (clocked_bond agent now late number next b).bond.own
unfolding clocked_by
tick_ends_later agent now late number next b =
    told_keeps (EndsLater now b.own) (λ r notices h. h) late agent now number (ends (is_live b.own.lsm) now b.own).rec next (ends_later (is_live b.own.lsm) now b.own refl)

lives_id : (k : Lsm) (now : ℕ) (r : Record) → (lives k LifecycleMove.EndTime now r).rec.id ≡ r.id
unfolding lives lifecycle_step lifecycle_event
lives_id k now r = grind arith

ends_id : (live : Bool) (now : ℕ) (own : Record) → (ends live now own).rec.id ≡ own.id
unfolding ends
ends_id false now own = refl
ends_id true now own = by_move (schedule_end (last own.committed) now) (over_or_not (last own.committed) now)
  where
    by_move : (move : Option LifecycleMove) → (move ≡ None) ⊎ (move ≡ Some LifecycleMove.EndTime) → (lives_if move now own).rec.id ≡ own.id
    by_move move (inl e) = ap (λ m. (lives_if m now own).rec.id) e
    by_move move (inr e) = ap (λ m. (lives_if m now own).rec.id) e ∙ lives_id own.lsm now own

pub tick_id : (agent : Agent) (now : ℕ) (late : List Due) (number next : ℕ) (b : Bond) → (clocked_bond agent now late number next b).bond.own.id ≡ b.own.id
unfolding clocked_by
tick_id agent now late number next b = told_keeps (λ r. r.id ≡ b.own.id) (λ r notices h. h) late agent now number (ends (is_live b.own.lsm) now b.own).rec next (ends_id (is_live b.own.lsm) now b.own)
