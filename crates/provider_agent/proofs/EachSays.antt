-- What holds of each body that a move says, and of each change of a data plane, holds of each message.
use Rattle.std.proofs.Common.{◌+◌, ℕ, Bool, true, false, List, [], ◌∷◌, ◌++◌}
use Rattle.std.specs.List.{All, AllByRecursion}
use Rattle.std.proofs.lemmas.List.Elements.{All-from_recursion, All-append}
use Rattle.nsi_primitive.specs.Ids.{id_of}
use Rattle.nsi_primitive.specs.declared.plane.Plane.{Plane}
use Rattle.nsi_primitive.specs.declared.state.Side.{Side}
use Rattle.nsi_primitive.specs.declared.message.Body.{Body}
use Rattle.nsi_primitive.specs.declared.message.Message.{Message}
use Rattle.nsi_primitive.specs.declared.message.PlaneNotice.{PlaneNotice}
use Rattle.connection_record.specs.declared.record.Record.{Record}
use Rattle.connection_record.specs.declared.life.LifecycleMove.{LifecycleMove}
use Rattle.connection_record.specs.declared.moves.Origin.{Origin}
use Rattle.connection_record.specs.declared.moves.Reply.{Reply}
use Rattle.connection_record.specs.Demand.{last}
use Rattle.connection_record.specs.Lives.{lives, lives_if}
use Rattle.connection_record.specs.Moves.{reserves_if, hold_end, is_live}
use Rattle.connection_record.specs.Replies.{Moved, addressed}
use Rattle.connection_record.specs.Applied.{closes_reservation, closes_provision, closes, schedule_end, ticks, ticked, status_of, is_told, tells_plane, tells}
use Rattle.provider_agent.specs.declared.agent.Agent.{Agent}
use Rattle.provider_agent.specs.Setting.{Setting}
use Rattle.provider_agent.specs.State.{State, record_at}
use Rattle.provider_agent.specs.Steps.{messages_by, keeps, drawn, is_told_at, told_at, ticks_at, ticks_all}

-- each reply's body is such
abbrev pub EachReply : (Body → Type 0) → List Reply → Type 0
EachReply P replies = AllByRecursion (λ x. P x.body) replies

-- each message's body is such
abbrev pub EachMessage : (Body → Type 0) → List Message → Type 0
EachMessage P messages = All (λ m. P m.body) messages

-- each change of a data plane is such
abbrev pub EachPlane : (Body → Type 0) → Type 0
EachPlane P = (notice : PlaneNotice) → P (Body.DataPlaneStateChange notice)

pub nothing_said : (P : Body → Type 0) → EachMessage P []
nothing_said P = All-from_recursion (λ m. P m.body) [] tt

pub one_said : (P : Body → Type 0) (m : Message) → P m.body → EachMessage P (m ∷ [])
one_said P m p = All-from_recursion (λ x. P x.body) (m ∷ []) (p, tt)

---- Moves

pub both_said : (P : Body → Type 0) (a b : List Reply) → EachReply P a → EachReply P b → EachReply P (a ++ b)
both_said P [] b p q = q
both_said P (x ∷ xs) b p q = (p.0, both_said P xs b p.1 q)

pub closes_each : (P : Body → Type 0) (agent : List ℕ) (side : Side) (now : ℕ) (r : Record) → ((x : Record) → EachReply P (closes_reservation agent now x).out) → ((x : Record) → EachReply P (closes_provision agent side now x).out)
    → ((x : Record) → EachReply P (lives x.lsm LifecycleMove.Done now x).out) → EachReply P (closes agent side now r).out
unfolding closes
closes_each P agent side now r p q l =
    let a : Moved = closes_reservation agent now r in
    let b : Moved = closes_provision agent side now a.rec in
    both_said P (a.out ++ b.out) (lives b.rec.lsm LifecycleMove.Done now b.rec).out (both_said P a.out b.out (p r) (q a.rec)) (l b.rec)

pub ticked_each : (P : Body → Type 0) (origin : Origin) (now : ℕ) (r : Record) → EachReply P (reserves_if (hold_end r.rsm r.deadline now origin) now r).out → ((x : Record) → EachReply P (lives_if (schedule_end (last x.committed) now) now x).out)
    → EachReply P (ticked origin now r).out
unfolding ticks
ticked_each P origin now r p l = by_life (is_live r.lsm)
  where
    ended : Moved
    ended = reserves_if (hold_end r.rsm r.deadline now origin) now r

    by_life : (b : Bool) → EachReply P (ticks b origin now r).out
    by_life false = tt
    by_life true = both_said P ended.out (lives_if (schedule_end (last ended.rec.committed) now) now ended.rec).out p (l ended.rec)

told_each : (P : Body → Type 0) (p : Plane) (c now : ℕ) (x : Moved) → EachPlane P → EachReply P x.out → EachReply P (tells p c now x).out
unfolding tells tells_plane
told_each P p c now x plane said = both_said P x.out (tells_plane (is_told p now x.rec) (status_of now x.rec) c now x.rec).out said (by_told (is_told p now x.rec))
  where
    by_told : (b : Bool) → EachReply P (tells_plane b (status_of now x.rec) c now x.rec).out
    by_told true = (plane _, tt)
    by_told false = tt

---- Messages

addressed_each : (P : Body → Type 0) (agent owner : List ℕ) (replies : List Reply) → EachReply P replies → AllByRecursion (λ m. P m.body) (addressed agent owner replies)
addressed_each P agent owner [] p = tt
addressed_each P agent owner (x ∷ xs) p = (p.0, addressed_each P agent owner xs p.1)

moved_each : (P : Body → Type 0) (name : List ℕ) (x : Moved) → EachReply P x.out → EachMessage P (messages_by name x)
moved_each P name x p = All-from_recursion (λ m. P m.body) (messages_by name x) (addressed_each P name x.rec.owner x.out p)

pub kept_each : (P : Body → Type 0) (setting : Setting) (s : State) (n : ℕ) (x : Moved) → EachPlane P → EachReply P x.out → EachMessage P (keeps setting s n x).out
kept_each P setting s n x plane said =
    let before : Plane = status_of s.now (record_at n s.records) in
    moved_each P setting.name (tells before (id_of setting.number s.next) s.now x) (told_each P before (id_of setting.number s.next) s.now x plane said)

pub ticks_each : (P : Body → Type 0) (agent : Agent) (before now next : ℕ) (records : List Record) → EachPlane P → ((r : Record) → EachReply P (ticks_at agent now r).out) → EachMessage P (ticks_all agent before now next records).out
unfolding ticks_all
ticks_each P agent before now next [] plane each = nothing_said P
ticks_each P agent before now next (r ∷ rs) plane each =
    let x : Moved = told_at agent before now (id_of agent.number next) r in
    let later : ℕ = next + drawn (is_told_at agent before now r) in
    All-append (λ m. P m.body) (messages_by agent.name x) (ticks_all agent before now later rs).out
    (moved_each P agent.name x (told_each P (status_of before r) (id_of agent.number next) now (ticks_at agent now r) plane (each r))) (ticks_each P agent before now later rs plane each)
