-- A message that a connection isn't named by leaves it alone.
use Rattle.std.proofs.Common.{◌≡◌, ◌∙◌, ◌==◌, ◌&&◌, ◌||◌, inl, inr, ℕ, suc, Bool, true, false, List, [], ◌∷◌, Option, Some, None, IfSome, refl, ap, subst, arith, is_none, bytes_eq}
use Rattle.std.specs.List.{All, Contains, list_any}
use Rattle.std.specs.Option.{option_map}
use Rattle.std.proofs.lemmas.Bool.Decides.{nat_tests}
use Rattle.nsi_primitive.specs.Messages.{named_connection, error_of}
use Rattle.nsi_primitive.specs.declared.kind.Kind.{Kind}
use Rattle.nsi_primitive.specs.declared.plane.Plane.{Plane}
use Rattle.nsi_primitive.specs.declared.message.Body.{Body}
use Rattle.nsi_primitive.specs.declared.message.Message.{Message}
use Rattle.dataplane_state.specs.Plane.{announces}
use Rattle.connection_record.specs.declared.record.Record.{Record}
use Rattle.connection_record.specs.Replies.{Moved}
use Rattle.connection_record.specs.Applied.{is_terminating, tells_plane}
use Rattle.child_connection.specs.declared.state.Sent.{Sent}
use Rattle.child_connection.specs.declared.state.Taken.{Taken}
use Rattle.child_connection.specs.Views.{ChildConnection, is_id, is_open, is_open_of, is_kind, open_request}
use Rattle.child_connection.specs.Asks.{request_about}
use Rattle.child_connection.specs.Hearing.{Heard, ignored, heard_if, refused, hears, hear_from, hear}
use Rattle.id_index.specs.declared.IdPlace.{IdPlace}
use Rattle.aggregator_agent.specs.declared.agent.Agent.{Agent}
use Rattle.aggregator_agent.specs.Asking.{Turn, Asked, Asking, asked_before, begin, next_after, ask_one, asked_view, next_behind, each, asks_by, if_free, request_if, replies_by}
use Rattle.aggregator_agent.specs.Settling.{settle}
use Rattle.aggregator_agent.specs.Turns.{joined_of, tell_joined, is_timed_out, is_ended, loses, breaks, hear_one, hear_each, hold_end_by, force_by, hold_ends, force_ends, heard_by, turn_by_answer, answer_turn, spoken}
use Rattle.aggregator_agent.specs.Clock.{due_for}
use Rattle.aggregator_agent.specs.Bonds.{Bond, answered, turn_done}
use Rattle.aggregator_agent.specs.Indexed.{id_at, IsViewNamed, MayHear}
use Rattle.aggregator_agent.specs.Rounds.{still}
use Rattle.aggregator_agent.specs.Settled.{IsSettled}
use Rattle.aggregator_agent.proofs.Settles.{settled_stays}

pub unless : (b : Bool) → (b ≡ true → ⊥) → b ≡ false
unless true h = absurd (h refl)
unless false h = refl

same_by : (c d : ℕ) → (c == d) ≡ true → d ≡ c
same_by c d h = grind (arith, nat_tests)

---- A view

-- an id by which a view isn't named is none of its own
module _ (ids : List IdPlace) (place c : ℕ) (never : Contains ids (id_at c place) → ⊥) where
  differs : (d : ℕ) → Contains ids (id_at d place) → (c == d) ≡ false
  differs d named = unless (c == d) (λ h. never (subst (λ e. Contains ids (id_at e place)) (same_by c d h) named))

  no_id : (o : Option ℕ) → IfSome o (λ d. Contains ids (id_at d place)) → is_id o c ≡ false
  no_id None named = refl
  no_id (Some d) named = differs d named

  no_open : (o : Option Sent) → IfSome o (λ q. Contains ids (id_at q.correlation place)) → is_open o c ≡ false
  no_open None named = refl
  no_open (Some q) named = differs q.correlation named

  no_open_of : (o : Option Sent) (k : Kind) → IfSome o (λ q. Contains ids (id_at q.correlation place)) → is_open_of o k c ≡ false
  no_open_of None k named = refl
  no_open_of (Some q) k named = ap (λ b. b && is_kind k q.kind) (differs q.correlation named)

not_heard : (b : Bool) (taken : Taken) (new old : ChildConnection) → b ≡ false → heard_if b taken new old ≡ ignored old
not_heard b taken new old e = ap (λ t. heard_if t taken new old) e

and_false : (a b : Bool) → a ≡ false → (a && b) ≡ false
and_false a b e = ap (λ t. t && b) e

hears_nothing : (ids : List IdPlace) (place c : ℕ) (x : ChildConnection) → IsViewNamed ids place x → (Contains ids (id_at c place) → ⊥) → (b : Body) → ((id : ℕ) → named_connection b ≡ Some id → Contains ids (id_at id place) → ⊥)
    → hears b c x ≡ ignored x
unfolding hears named_connection
hears_nothing ids place c x named never (Body.ReserveResponse id) about = not_heard _ _ _ x (and_false _ _ (no_id ids place c never x.attempt named.attempt))
hears_nothing ids place c x named never (Body.ReserveConfirmed f) about = not_heard _ _ _ x (no_open_of ids place c never x.reserve_request Kind.Reserve named.reserve)
hears_nothing ids place c x named never (Body.ReserveFailed id e) about = not_heard _ _ _ x (no_open_of ids place c never x.reserve_request Kind.Reserve named.reserve)
hears_nothing ids place c x named never (Body.ReserveTimeout t) about = not_heard _ _ _ x (and_false _ _ (no_id ids place c never x.attempt named.attempt))
hears_nothing ids place c x named never (Body.ReserveCommitConfirmed id) about = not_heard _ _ _ x (no_open_of ids place c never x.reserve_request Kind.ReserveCommit named.reserve)
hears_nothing ids place c x named never (Body.ReserveCommitFailed id e) about = not_heard _ _ _ x (no_open_of ids place c never x.reserve_request Kind.ReserveCommit named.reserve)
hears_nothing ids place c x named never (Body.ReserveAbortConfirmed id) about = not_heard _ _ _ x (no_open_of ids place c never x.reserve_request Kind.ReserveAbort named.reserve)
hears_nothing ids place c x named never (Body.Error id e) about =
    ap (λ b. refused b (is_open x.provision_request c) (is_open x.lifecycle_request c) (error_of e.cause) x) (no_open ids place c never x.reserve_request named.reserve)
    ∙ (ap (λ b. refused false b (is_open x.lifecycle_request c) (error_of e.cause) x) (no_open ids place c never x.provision_request named.provision)
    ∙ ap (λ b. refused false false b (error_of e.cause) x) (no_open ids place c never x.lifecycle_request named.lifecycle))
hears_nothing ids place c x named never (Body.ProvisionConfirmed id) about = not_heard _ _ _ x (no_open_of ids place c never x.provision_request Kind.Provision named.provision)
hears_nothing ids place c x named never (Body.ReleaseConfirmed id) about = not_heard _ _ _ x (no_open_of ids place c never x.provision_request Kind.Release named.provision)
hears_nothing ids place c x named never (Body.TerminateConfirmed id) about = not_heard _ _ _ x (no_open_of ids place c never x.lifecycle_request Kind.Terminate named.lifecycle)
hears_nothing ids place c x named never (Body.ErrorEvent f) about = not_heard _ _ _ x (no_id ids place f.connection (about f.connection refl) x.connection named.connection)
hears_nothing ids place c x named never (Body.DataPlaneStateChange n) about = not_heard _ _ _ x (and_false _ _ (no_id ids place n.connection (about n.connection refl) x.connection named.connection))
hears_nothing ids place c x named never _ about = refl

from_nobody : (b : Bool) (m : Message) (x : ChildConnection) → hears m.body m.header.correlation x ≡ ignored x → hear_from b m x ≡ ignored x
from_nobody true m x e = e
from_nobody false m x e = refl

-- no view hears the message
pub hear_nothing : (ids : List IdPlace) (place : ℕ) (m : Message) (x : ChildConnection) → IsViewNamed ids place x → (MayHear ids m place → ⊥) → hear m x ≡ ignored x
hear_nothing ids place m x named never =
    from_nobody (bytes_eq m.header.provider x.child) m x
    (hears_nothing ids place m.header.correlation x named (λ has. never (inl has)) m.body (λ id e has. never (inr (record { id = id; is_about = e; is_named = has }))))

---- A turn

abbrev pub HearNothing : Message → List ChildConnection → Type 0
HearNothing m xs = All (λ x. hear m x ≡ ignored x) xs

first_of : (m : Message) (x : ChildConnection) (xs : List ChildConnection) → HearNothing m (x ∷ xs) → hear m x ≡ ignored x
first_of m x xs h = h 0 x (omega arith)

rest_of : (m : Message) (x : ChildConnection) (xs : List ChildConnection) → HearNothing m (x ∷ xs) → HearNothing m xs
rest_of m x xs h = λ k d l. h (suc k) d (omega (arith, l))

free_none : (o : Option Sent) → if_free o None ≡ None
free_none None = refl
free_none (Some q) = refl

asks_nothing : (ending : Bool) (x : ChildConnection) (o : Option ℕ) → x.connection ≡ o → request_if (ending && is_none o) Kind.Terminate x ≡ None
unfolding request_if
asks_nothing false x o e = refl
asks_nothing true x (Some id) e = refl
asks_nothing true x None e = ap (λ o. if_free (open_request Kind.Terminate x) (option_map (λ id. request_about Kind.Terminate id) o)) e ∙ free_none (open_request Kind.Terminate x)

hears_alone : (ending : Bool) (m : Message) (agent : Agent) (next : ℕ) (x : ChildConnection) → hear m x ≡ ignored x → hear_one ending m agent next x ≡ record { child = x; asked = []; next = next }
unfolding asked_view next_behind
hears_alone ending m agent next x e =
    ap (λ (h : Heard). ask_one (request_if (ending && is_none x.connection) Kind.Terminate h.view) Kind.Terminate agent next h.view) e
    ∙ ap (λ b. ask_one b Kind.Terminate agent next x) (asks_nothing ending x x.connection refl)

all_alone : (ending : Bool) (m : Message) (agent : Agent) (next : ℕ) (xs : List ChildConnection) → HearNothing m xs → hear_each ending m agent next xs ≡ record { children = xs; asked = []; next = next }
unfolding each
all_alone ending m agent next [] h = refl
all_alone ending m agent next (x ∷ xs) h =
    ap (λ (a : Asked). asked_before a (each (λ n y. hear_one ending m agent n y) a.next xs)) (hears_alone ending m agent next x (first_of m x xs h))
    ∙ ap (λ (a : Asking). asked_before (record { child = x; asked = []; next = next }) a) (all_alone ending m agent next xs (rest_of m x xs h))

none_lost : (m : Message) (xs : List ChildConnection) → HearNothing m xs → list_any (loses m) xs ≡ false
unfolding is_timed_out
none_lost m [] h = refl
none_lost m (x ∷ xs) h =
    ap (λ (y : Heard). is_timed_out y.taken || list_any (loses m) xs) (first_of m x xs h) ∙ none_lost m xs (rest_of m x xs h)

none_broken : (m : Message) (xs : List ChildConnection) → HearNothing m xs → list_any (breaks m) xs ≡ false
unfolding is_ended
none_broken m [] h = refl
none_broken m (x ∷ xs) h =
    ap (λ (y : Heard). is_ended y.taken || list_any (breaks m) xs) (first_of m x xs h) ∙ none_broken m xs (rest_of m x xs h)

announces_same : (p : Plane) → announces p p ≡ false
unfolding announces
announces_same p = grind (arith, nat_tests)

no_hold_ends : (lost : Bool) (m : Message) (now : ℕ) (own : Record) (children : List ChildConnection) (next : ℕ) → lost ≡ false → hold_ends lost m now (begin own children next) ≡ begin own children next
unfolding hold_ends hold_end_by
no_hold_ends true m now own children next e = absurd (cc)
no_hold_ends false m now own children next e = refl

no_force_ends : (broken : Bool) (m : Message) (agent : Agent) (now : ℕ) (own : Record) (children : List ChildConnection) (next : ℕ) → broken ≡ false → force_ends broken m agent now (begin own children next) ≡ begin own children next
unfolding force_ends force_by next_after
no_force_ends true m agent now own children next e = absurd (cc)
no_force_ends false m agent now own children next e = refl

heard_alone : (m : Message) (agent : Agent) (own : Record) (children : List ChildConnection) (next : ℕ) → HearNothing m children → heard_by m agent (begin own children next) ≡ begin own children next
unfolding heard_by
heard_alone m agent own children next h = ap (λ a. asks_by (begin own children next) a) (all_alone (is_terminating own.lsm) m agent next children h)

settle_alone : (agent : Agent) (now : ℕ) (b : Bond) (next : ℕ) → IsSettled b → settle agent now (begin b.own b.children next) ≡ begin b.own b.children next
unfolding settle
settle_alone agent now b next h = ap (λ (x : Moved). replies_by (begin b.own b.children next) x) (settled_stays b.own.lsm agent now b.children b.own h)

told_alone : (before : Plane) (agent : Agent) (now : ℕ) (own : Record) (children : List ChildConnection) (next : ℕ) → joined_of children ≡ before → tell_joined before agent now (begin own children next) ≡ begin own children next
unfolding tell_joined tells_plane next_after
told_alone before agent now own children next e = rw (← e, announces_same (joined_of children)) refl

turned_alone : (agent : Agent) (now : ℕ) (m : Message) (b : Bond) (next : ℕ) → IsSettled b → HearNothing m b.children → turn_by_answer agent now m (begin b.own b.children next) ≡ begin b.own b.children next
unfolding turn_by_answer
turned_alone agent now m b next settled h =
    let t = begin b.own b.children next in
    let lost = list_any (loses m) b.children in
    let broken = list_any (breaks m) b.children in
    ap (λ (u : Turn). settle agent now (force_ends broken m agent now (hold_ends lost m now u))) (heard_alone m agent b.own b.children next h)
    ∙ (ap (λ (u : Turn). settle agent now (force_ends broken m agent now u)) (no_hold_ends lost m now b.own b.children next (none_lost m b.children h))
    ∙ (ap (λ (u : Turn). settle agent now u) (no_force_ends broken m agent now b.own b.children next (none_broken m b.children h)) ∙ settle_alone agent now b next settled))

answered_alone : (agent : Agent) (now : ℕ) (m : Message) (b : Bond) (next : ℕ) → IsSettled b → HearNothing m b.children → answer_turn agent now m b.own b.children next ≡ begin b.own b.children next
unfolding answer_turn
answered_alone agent now m b next settled h =
    ap (λ (u : Turn). tell_joined (joined_of b.children) agent now u) (turned_alone agent now m b next settled h) ∙ told_alone (joined_of b.children) agent now b.own b.children next refl

nothing_done : (agent : Agent) (now number : ℕ) (b : Bond) (next : ℕ) → turn_done agent now number (begin b.own b.children next) ≡ still b next
unfolding spoken due_for
nothing_done agent now number b next = refl

-- a connection that isn't named stays
pub quiet_answer : (ids : List IdPlace) (place : ℕ) (agent : Agent) (now : ℕ) (m : Message) (number next : ℕ) (b : Bond) → IsSettled b → All (IsViewNamed ids place) b.children → (MayHear ids m place → ⊥)
    → answered agent now m number next b ≡ still b next
quiet_answer ids place agent now m number next b settled named never =
    ap (λ (t : Turn). turn_done agent now number t) (answered_alone agent now m b next settled (λ k d l. hear_nothing ids place m _ (named k d l) never)) ∙ nothing_done agent now number b next
