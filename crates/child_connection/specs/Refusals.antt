-- Why a view refuses an ask.
use Rattle.std.specs.Prelude.{ℕ, Bool, true, false, Option, Some, None}
use Rattle.nsi_primitive.specs.declared.kind.Kind.{Kind}
use Rattle.child_connection.specs.declared.state.AskFault.{AskFault}
use Rattle.child_connection.specs.declared.state.Sent.{Sent}
use Rattle.child_connection.specs.Views.{ChildConnection, open_request}

-- the kinds that are asked of a connection whose id is known
abbrev pub is_about : Kind → Bool
is_about Kind.ReserveCommit = true
is_about Kind.ReserveAbort = true
is_about Kind.Provision = true
is_about Kind.Release = true
is_about Kind.Terminate = true
is_about _ = false

-- a machine has one request at a time
abbrev pub outstanding : Option Sent → Option AskFault
outstanding None = None
outstanding (Some q) = Some (AskFault.Outstanding q.correlation)

-- first comes that the child's id isn't known
abbrev pub unknown_or : Option ℕ → Option AskFault → Option AskFault
unknown_or None fault = Some AskFault.NoId
unknown_or (Some id) fault = fault

-- why a request about a connection isn't asked
unfoldable pub ask_refusal : Kind → ChildConnection → Option AskFault
ask_refusal k x = unknown_or x.connection (outstanding (open_request k x))

-- why a reserve isn't asked
unfoldable pub reserve_refusal : ChildConnection → Option AskFault
reserve_refusal x = outstanding x.reserve_request
