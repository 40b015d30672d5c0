-- What an ask makes of a view.
use Rattle.std.specs.Prelude.{ℕ, List, [], ◌∷◌, Option, Some, None}
use Rattle.nsi_primitive.specs.declared.ask.AskAnswer.{AskAnswer}
use Rattle.nsi_primitive.specs.declared.ask.ReserveAsk.{ReserveAsk}
use Rattle.nsi_primitive.specs.declared.kind.Directionality.{Directionality}
use Rattle.nsi_primitive.specs.declared.kind.Kind.{Kind}
use Rattle.nsi_primitive.specs.declared.message.Body.{Body}
use Rattle.nsi_primitive.specs.declared.message.Message.{Message}
use Rattle.nsi_primitive.specs.declared.message.Service.{Service}
use Rattle.child_connection.specs.declared.state.AskFault.{AskFault}
use Rattle.child_connection.specs.declared.state.Sent.{Sent}
use Rattle.child_connection.specs.Views.{ChildConnection, open_request}
use Rattle.child_connection.specs.Asks.{asks, request_about, reserve_for, to_child}

-- the view then, the request that is sent, and the answer
pub record Asked : Type 0 where
  pub child : ChildConnection
  pub out : List Message
  pub answer : AskAnswer

-- the answer to an ask that a view refuses; want of memory is none
abbrev pub answer_to : AskFault → Option AskAnswer
answer_to AskFault.NoId = Some AskAnswer.NoId
answer_to (AskFault.Outstanding id) = Some (AskAnswer.Outstanding id)
answer_to AskFault.NoMemory = None

abbrev pub refused : AskAnswer → ChildConnection → Asked
refused answer x = record { child = x; out = []; answer = answer }

-- the parent sends a request under a correlation
abbrev pub sent_as : List ℕ → ℕ → Kind → Body → ChildConnection → Asked
sent_as parent c k body x = record { child = asks k c x; out = to_child parent c x body ∷ []; answer = AskAnswer.Sent }

-- a request is sent where its machine has none that isn't answered
unfoldable pub asks_if_free : Option Sent → List ℕ → ℕ → Kind → Body → ChildConnection → Asked
asks_if_free (Some q) parent c k body x = refused (AskAnswer.Outstanding q.correlation) x
asks_if_free None parent c k body x = sent_as parent c k body x

-- what isn't a reserve is asked of a connection whose id is known
unfoldable pub asks_if_known : Option ℕ → List ℕ → ℕ → Kind → ChildConnection → Asked
asks_if_known None parent c k x = refused AskAnswer.NoId x
asks_if_known (Some id) parent c k x = asks_if_free (open_request k x) parent c k (request_about k id) x

abbrev pub asks_about : List ℕ → ℕ → Kind → ChildConnection → Asked
asks_about parent c k x = asks_if_known x.connection parent c k x

-- a requester asks between the view's points, in the directions that its user asks for
abbrev pub service_between : Directionality → ChildConnection → Service
service_between d x = record { source = x.source; dest = x.dest; directionality = d; symmetric = None; global = None; description = None }

-- a reserve of a connection that is known is a modification, which has no service
abbrev pub service_if : Option ℕ → Directionality → ChildConnection → Option Service
service_if None d x = Some (service_between d x)
service_if (Some id) d x = None

abbrev pub reserve_of : ReserveAsk → ChildConnection → Body
reserve_of q x = Body.Reserve (reserve_for (service_if x.connection q.directionality x) q.version q.start q.end q.capacity x)

abbrev pub asks_reserve : List ℕ → ℕ → ReserveAsk → ChildConnection → Asked
asks_reserve parent c q x = asks_if_free (open_request Kind.Reserve x) parent c Kind.Reserve (reserve_of q x) x
