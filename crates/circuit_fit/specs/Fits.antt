-- How an aggregator's own record and the views of its children stand together.
use Rattle.std.specs.Prelude.{ℕ, ◌≡◌, Bool, true, false, List, [], map, Contains, Option, Some, None, IfSome, option_map, is_some, ◌||◌}
use Rattle.std.specs.List.{All}
use Rattle.nsi_primitive.specs.declared.kind.Kind.{Kind}
use Rattle.nsi_primitive.specs.declared.state.Rsm.{Rsm}
use Rattle.nsi_primitive.specs.declared.message.Body.{Body}
use Rattle.nsi_primitive.specs.declared.message.Message.{Message}
use Rattle.nsi_primitive.specs.declared.message.Exception.{Exception}
use Rattle.nsi_primitive.specs.declared.message.ReserveConfirmation.{ReserveConfirmation}
use Rattle.nsi_primitive.specs.declared.message.ReserveRequest.{ReserveRequest}
use Rattle.connection_record.specs.declared.record.Record.{Record}
use Rattle.connection_record.specs.Demand.{holds_pending}
use Rattle.connection_record.specs.Moves.{is_live}
use Rattle.child_connection.specs.declared.state.Sent.{Sent}
use Rattle.child_connection.specs.Views.{ChildConnection, sent}
use Rattle.child_connection.specs.Hearing.{hears}
use Rattle.aggregator_agent.specs.Asking.{may_abort}
use Rattle.aggregator_agent.specs.Settling.{is_held}
use Rattle.agent_state.specs.State.{AgentState, record_at, children_at}
use Rattle.circuit_link.specs.Sides.{version_of}
use Rattle.circuit_pairs.specs.Pairs.{IsAsked}

---- What a record has

-- the version that it has pending, and those that it has committed
abbrev pub pending_of : Record → Option ℕ
pending_of own = option_map version_of own.pending

abbrev pub committed_of : Record → List ℕ
committed_of own = map version_of own.committed

-- a version is committed at one child at least, and at each
pub record IsCommittedBelow (v : ℕ) (children : List ChildConnection) : Type 0 where
  pub some : children ≡ [] → ⊥
  pub each : All (λ x. Contains x.committed v) children

---- What was asked

-- a request that a view's child was asked under a correlation, of which P holds
abbrev pub WasAsked : (parent : List ℕ) → List Message → ChildConnection → ℕ → (Body → Type 0) → Type 0
WasAsked parent asked x c P = IsAsked parent x.child c asked (λ m. P m.body)

-- a reserve of that version
abbrev pub IsReserveFor : Option ℕ → Body → Type 0
IsReserveFor version b = (q : ReserveRequest) × (n : ℕ) × (version ≡ Some n) × (b ≡ Body.Reserve q) × (q.version ≡ Some n)

-- an abort of that connection
abbrev pub IsAbortOf : Option ℕ → Body → Type 0
IsAbortOf connection b = (id : ℕ) × (connection ≡ Some id) × (b ≡ Body.ReserveAbort id)

---- A view, by the state of the own record and the version that it has pending

-- nothing is asked of the child: it holds nothing but what the own record asks, and has committed that version unless it told an error
abbrev pub Rests : Rsm → Option ℕ → ChildConnection → Type 0
Rests Rsm.ReserveStart v x = is_held x.phase ≡ false
Rests Rsm.ReserveChecking v x = is_held x.phase ≡ true → x.pending ≡ v
Rests Rsm.ReserveHeld v x = (is_held x.phase ≡ true) × (x.pending ≡ v)
Rests Rsm.ReserveCommitting v x = x.error ≡ None → (is_held x.phase ≡ false) × IfSome v (λ n. Contains x.committed n)
Rests Rsm.ReserveAborting v x = is_held x.phase ≡ false
Rests _ v x = Unit {0}

-- a request isn't answered: it is what the own record works on
abbrev pub Waits : (parent : List ℕ) → List Message → Rsm → Option ℕ → ChildConnection → Sent → Type 0
Waits parent asked Rsm.ReserveChecking v x q = (q.kind ≡ Kind.Reserve) × (is_held x.before ≡ false) × WasAsked parent asked x q.correlation (IsReserveFor v)
Waits parent asked Rsm.ReserveCommitting v x q = (q.kind ≡ Kind.ReserveCommit) × (x.pending ≡ v)
Waits parent asked Rsm.ReserveAborting v x q = (q.kind ≡ Kind.ReserveAbort) × (may_abort x.before ≡ true) × WasAsked parent asked x q.correlation (IsAbortOf x.connection)
Waits parent asked _ v x q = ⊥

pub record IsFitting (parent : List ℕ) (asked : List Message) (k : Rsm) (v : Option ℕ) (x : ChildConnection) : Type 0 where
  pub rests : x.reserve_request ≡ None → Rests k v x
  pub waits : (q : Sent) → x.reserve_request ≡ Some q → Waits parent asked k v x q

-- a child that holds, or held before its unanswered request, is known by its connection's id
abbrev pub IsKnown : ChildConnection → Type 0
IsKnown x = (is_held x.phase || is_held x.before) ≡ true → is_some x.connection ≡ true

-- What a message of the child is to a view, as far as its fit is concerned: it changes no connection that is known; a hold is confirmed of the
-- version that was asked; and while the own record lives no abort is refused.
pub record IsHonest (parent : List ℕ) (asked : List Message) (lives : Bool) (b : Body) (c : ℕ) (x : ChildConnection) : Type 0 where
  pub stays : (id : ℕ) → x.connection ≡ Some id → (hears b c x).view.connection ≡ Some id
  pub confirms : (f : ReserveConfirmation) (v : Option ℕ) → b ≡ Body.ReserveConfirmed f → x.reserve_request ≡ Some (sent c Kind.Reserve) →
      WasAsked parent asked x c (IsReserveFor v) → Some f.version ≡ v
  pub refuses : (o : Option ℕ) (e : Exception) → lives ≡ true → b ≡ Body.Error o e → x.reserve_request ≡ Some (sent c Kind.ReserveAbort) →
      may_abort x.before ≡ true → WasAsked parent asked x c (IsAbortOf x.connection) → ⊥

---- A connection

-- Each committed version is committed below. A mixed one isn't asked again. What is held or being committed has children. And while the
-- connection lives, and isn't mixed, each child fits it.
pub record Fits (parent : List ℕ) (asked : List Message) (own : Record) (children : List ChildConnection) : Type 0 where
  pub committed : (v : ℕ) → Contains (committed_of own) v → IsCommittedBelow v children
  pub known : All IsKnown children
  pub mixed : own.mixed ≡ true → own.rsm ≡ Rsm.ReserveStart
  pub some : holds_pending own.rsm ≡ true → children ≡ [] → ⊥
  pub fits : is_live own.lsm ≡ true → own.mixed ≡ false → All (IsFitting parent asked own.rsm (pending_of own)) children

---- An aggregator

-- each of its connections does
abbrev pub AllFit : List ℕ → List Message → AgentState → Type 0
AllFit parent asked s = (n : ℕ) → Fits parent asked (record_at n s.base.records) (children_at n s.children)

-- what comes is honest to each view of the child that it comes of
abbrev pub AllHonest : List ℕ → List Message → AgentState → Message → Type 0
AllHonest parent asked s m =
    (n : ℕ) →
    All (λ x. m.header.provider ≡ x.child → IsHonest parent asked (is_live (record_at n s.base.records).lsm) m.body m.header.correlation x)
    (children_at n s.children)

-- a request to terminate a child's connection: one of the connections that know it doesn't live
pub record IsEnding (s : AgentState) (m : Message) (id : ℕ) : Type 0 where
  pub place : ℕ
  pub view : ChildConnection
  pub there : Contains (children_at place s.children) view
  pub child : view.child ≡ m.header.provider
  pub connection : view.connection ≡ Some id
  pub dead : is_live (record_at place s.base.records).lsm ≡ false

abbrev pub AllEnd : List Message → AgentState → Type 0
AllEnd asked s = (m : Message) (id : ℕ) → Contains asked m → m.body ≡ Body.Terminate id → IsEnding s m id
