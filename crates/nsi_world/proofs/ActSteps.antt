-- Ticks, asks and forced ends are allowed.
use Rattle.std.proofs.Common.{ℕ, ◌≡◌, ◌||◌, Bool, true, false, not, cond, List, [], ◌∷◌, ◌++◌, inl, inr, refl, sym, ap, ◌∙◌, subst, arith, eq-eqb, ne_eqb}
use Rattle.std.specs.List.{All, Contains, list_any}
use Rattle.std.proofs.lemmas.Bool.{cases_eq, and_parts}
use Rattle.std.proofs.lemmas.Bool.Decides.{Decides-eqb}
use Rattle.std.proofs.lemmas.Slice.Eq.{bytes_eq-Decides}
use Rattle.std.proofs.lemmas.List.Elements.{All-filter, filter_passes, Contains-append_cases}
use Rattle.nsi_primitive.specs.Kinds.{kind_number}
use Rattle.nsi_primitive.specs.Messages.{identity}
use Rattle.nsi_primitive.specs.Printable.{IsPrintableAsk}
use Rattle.nsi_primitive.specs.declared.entry.Entry.{Entry}
use Rattle.nsi_primitive.specs.declared.entry.Input.{Input}
use Rattle.nsi_primitive.specs.declared.message.Identity.{Identity}
use Rattle.nsi_primitive.specs.declared.message.Message.{Message}
use Rattle.message_retry.specs.Retry.{is_same_identity, is_waiting}
use Rattle.agent_state.specs.State.{AgentState}
use Rattle.nsi_agent.specs.Told.{told}
use Rattle.nsi_agent.proofs.Telling.{waiting_was_caused}
use Rattle.nsi_script.specs.declared.script.Act.{Act}
use Rattle.agent_node.specs.Doors.{Door}
use Rattle.agent_node.specs.Passing.{says_all, is_queued}
use Rattle.agent_node.specs.Seat.{Seat, now_at, enters}
use Rattle.agent_node.specs.Acts.{asked, forced, is_overdue, overdue, tick_at, ticked}
use Rattle.agent_node.specs.Restarts.{restarted}
use Rattle.nsi_play.specs.Play.{changes, does}
use Rattle.nsi_world.specs.Worlds.{Homes, World, said, IsSaidBy}
use Rattle.nsi_world.specs.Runs.{is_provider, is_requester, world_after}
use Rattle.nsi_world.specs.Heard.{IsFair}
use Rattle.nsi_world.specs.Seats.{IsDoor, Stands, Not, GoesOn, GoesLater}
use Rattle.nsi_world.proofs.Given.{Given}
use Rattle.nsi_world.proofs.Later.{said_later, doors_later}
use Rattle.nsi_world.proofs.DoorSteps.{doors_say}
use Rattle.nsi_world.proofs.Steps.{later_goes, goes_none, goes_twice, goes_enters, goes_doors}
use Rattle.nsi_world.proofs.RestartSteps.{goes_restarted}
use Rattle.nsi_world.proofs.Receipts.{none_contained, head_or_tail}

---- What is overdue was said

identity_same : (i : Identity) → is_same_identity i i ≡ true
identity_same i = rw ((bytes_eq-Decides i.requester i.requester).1 refl, (bytes_eq-Decides i.provider i.provider).1 refl, (Decides-eqb i.correlation i.correlation).1 refl, (Decides-eqb (kind_number i.kind) (kind_number i.kind)).1 refl) refl

or_right : (b : Bool) → (b || true) ≡ true
or_right true = refl
or_right false = refl

waits_there : (m : Message) (ms : List Message) → Contains ms m → is_waiting (identity m) ms ≡ true
unfolding is_waiting
waits_there m [] c = absurd (none_contained m c)
waits_there m (x ∷ xs) c = elim (head_or_tail x xs m c) [
  | inl e ↦ ap (λ b. b || list_any (λ (y : Message). is_same_identity (identity m) (identity y)) xs) (subst (λ (y : Message). is_same_identity (identity m) (identity y) ≡ true) (sym e) (identity_same (identity m)))
  | inr d ↦ ap (λ b. is_same_identity (identity m) (identity x) || b) (waits_there m xs d) ∙ or_right (is_same_identity (identity m) (identity x))
]

never : {X : Type 0} (b : Bool) → not b ≡ true → b ≡ true → X
never true p q = absurd (cc)
never false p q = absurd (cc)

overdue_contained : (unsaid spoken out : List Message) (ds : List Door) (m : Message) → out ≡ spoken ++ unsaid → Contains out m → is_overdue unsaid ds m ≡ true → Contains spoken m
overdue_contained unsaid spoken out ds m e c late = elim (Contains-append_cases spoken unsaid m (subst (λ ms. Contains ms m) e c)) [
  | inl a ↦ a
  | inr b ↦ never (is_waiting (identity m) unsaid) (and_parts (not (is_waiting (identity m) unsaid)) (not (is_queued (identity m) ds)) late).0 (waits_there m unsaid b)
]

overdue_said : (homes : Homes) (clock : ℕ) (w : World) (s : Seat) → Stands homes clock w s → All (IsSaidBy homes w s.number) (overdue s)
overdue_said homes clock w s h =
    let a : ℕ = s.number in
    let out : List Message = (told (homes a) (w.journal a)).out in
    let late = is_overdue s.unsaid s.doors in
    let caused : All (Contains out) s.state.base.waiting = subst (λ (z : AgentState). All (Contains out) z.base.waiting) h.state (waiting_was_caused (homes a) (w.journal a)) in
    let inside : All (Contains out) (overdue s) = All-filter late (Contains out) s.state.base.waiting caused in
    let passes : All (λ m. late m ≡ true) (overdue s) = filter_passes late s.state.base.waiting in
    λ k d within. (h.agent, overdue_contained s.unsaid (said homes w a) out s.doors _ h.unsaid (inside k d within) (passes k d within))

---- Ticks

pub goes_ticked : (homes : Homes) → Given homes → (clock : ℕ) (w : World) (s : Seat) → Stands homes clock w s → IsFair homes w → GoesOn homes clock w s (ticked (homes s.number) clock s)
unfolding ticked enters
goes_ticked homes given clock w s h fair =
    let a : ℕ = s.number in
    let e : Entry = tick_at clock in
    let u : Seat = enters (homes a) e s in
    let p = goes_enters homes clock w e a s refl h fair (record { printable = tt; in_time = h.in_time; comes = tt; soon = omega arith }) in
    let v : World = world_after w p.own in
    let late : All (IsSaidBy homes v a) (overdue s) = λ k d within. said_later homes w v a _ p.follows.grows (overdue_said homes clock w s h k d within) in
    let doors : All (IsDoor homes v a) (says_all (homes a).agent_of (overdue s) s.doors) = doors_say homes given v a (overdue s) s.doors late (doors_later homes (Not a) w v a s.doors p.follows h.doors) in
    goes_twice homes clock w s u (ticked (homes a) clock s) p (goes_doors homes clock v u (says_all (homes a).agent_of (overdue s) s.doors) p.stands p.fair doors)

---- Acts

-- what may be done to an agent
abbrev pub MayAct : Homes → Act → Type 0
MayAct homes (Act.Ask a ask) = (is_requester (homes a).role ≡ true) × IsPrintableAsk ask
MayAct homes (Act.Force a n) = is_provider (homes a).role ≡ true
MayAct homes (Act.Restart a) = Unit {0}

pub changed_here : (a : ℕ) (f : Seat → Seat) (s : Seat) → s.number ≡ a → changes a f s ≡ f s
changed_here a f s e = ap (λ b. cond b (f s) s) (eq-eqb s.number a e)

pub changed_there : (a : ℕ) (f : Seat → Seat) (s : Seat) → (s.number ≡ a → ⊥) → changes a f s ≡ s
changed_there a f s n = ap (λ b. cond b (f s) s) (ne_eqb s.number a n)

goes_changed : (homes : Homes) (clock : ℕ) (w : World) (a : ℕ) (f : Seat → Seat) (s : Seat) → Stands homes clock w s → IsFair homes w → (s.number ≡ a → GoesLater homes clock w s (f s)) → GoesLater homes clock w s (changes a f s)
goes_changed homes clock w a f s h fair g = elim (cases_eq s.number a) [
  | inl e ↦ subst (GoesLater homes clock w s) (sym (changed_here a f s e)) (g e)
  | inr n ↦ subst (GoesLater homes clock w s) (sym (changed_there a f s n)) (later_goes homes clock w s s (goes_none homes clock w s h fair))
]

pub goes_does : (homes : Homes) → Given homes → (clock : ℕ) (act : Act) (count : ℕ) (w : World) (s : Seat) → MayAct homes act → Stands homes clock w s → IsFair homes w → GoesLater homes clock w s (does act count homes s)
goes_does homes given clock (Act.Ask a ask) count w s may h fair =
    goes_changed homes clock w a (asked (homes a) count ask) s h fair (λ is.
    later_goes homes clock w s (asked (homes a) count ask s)
    (goes_enters homes clock w (now_at s (Input.Ask count ask)) a s is h fair
    (record { printable = may.1; in_time = refl; comes = subst (λ k. is_requester (homes k).role ≡ true) (sym is) may.0; soon = h.in_time })))
goes_does homes given clock (Act.Force a n) count w s may h fair =
    goes_changed homes clock w a (forced (homes a) n) s h fair (λ is.
    later_goes homes clock w s (forced (homes a) n s)
    (goes_enters homes clock w (now_at s (Input.Force n)) a s is h fair
    (record { printable = tt; in_time = refl; comes = subst (λ k. is_provider (homes k).role ≡ true) (sym is) may; soon = h.in_time })))
goes_does homes given clock (Act.Restart a) count w s may h fair =
    goes_changed homes clock w a (restarted (homes a)) s h fair (λ is. subst (λ k. GoesLater homes clock w s (restarted (homes k) s)) is (goes_restarted homes given clock w s h fair))
