-- A record that an agent has for an aggregator is between the points of a view that the aggregator has of that agent.
use Rattle.std.proofs.Common.{ℕ, ◌≡◌, ◌∙◌, true, if◌then◌else◌, sym, ap, subst}
use Rattle.nsi_primitive.specs.declared.message.Body.{Body}
use Rattle.nsi_primitive.specs.declared.message.Message.{Message}
use Rattle.nsi_primitive.specs.declared.message.ReserveRequest.{ReserveRequest}
use Rattle.nsi_primitive.specs.declared.message.Service.{Service}
use Rattle.nsi_primitive.specs.Messages.{is_request, kind_of}
use Rattle.nsi_primitive.specs.Kinds.{is_request_kind}
use Rattle.agent_state.specs.State.{name_or}
use Rattle.nsi_agent.specs.Homes.{home_in}
use Rattle.nsi_world.specs.Worlds.{Homes, World, empty, synced_part, IsSaidBy, IsTo}
use Rattle.nsi_world.specs.Runs.{world_after}
use Rattle.nsi_world.specs.Laws.{HeardWasSent}
use Rattle.run_growth.proofs.Sent.{Given, given_in, agents_same, request_by, request_asks}
use Rattle.circuit_laws.specs.Opened.{WasOpenedBy}
use Rattle.circuit_laws.specs.Laws.{RecordsHaveThePoints}
use Rattle.circuit_laws.proofs.Opened.{records_were_opened}
use Rattle.circuit_laws.proofs.Pointed.{told_points}

reserve_asks : (m : Message) (q : ReserveRequest) → m.body ≡ Body.Reserve q → is_request m.body ≡ true
reserve_asks m q e = ap is_request e

-- a reserve is for the provider that it names
reserve_to : (homes : Homes) (b : ℕ) (m : Message) (q : ReserveRequest) → m.body ≡ Body.Reserve q → IsTo homes b m → m.header.provider ≡ (homes b).name
reserve_to homes b m q e to = sym (ap (λ (z : Body). if is_request_kind (kind_of z) then m.header.provider else m.header.requester) e) ∙ to

pub records_have_the_points : HeardWasSent → RecordsHaveThePoints
records_have_the_points heard t routes events sound formed routed allowed a b j n setting r agent role other asked cut there owned =
    let homes : Homes = home_in t routes in
    let w : World = world_after empty events in
    let given : Given homes = given_in t routes in
    let o : WasOpenedBy homes w b r = records_were_opened heard homes events allowed b j n r other asked cut there in
    let named : (homes o.sent.0).name ≡ (homes a).name = request_by homes given w (heard homes events allowed) o.sent.0 o.message o.sent.1 (request_asks o.message (reserve_asks o.message o.reserve o.body)) ∙ (o.from ∙ owned) in
    let by_a : IsSaidBy homes w a o.message = subst (λ (y : ℕ). IsSaidBy homes w y o.message) (agents_same homes given w (heard homes events allowed) o.sent.0 a o.sent.1.0 agent named) o.sent.1 in
    let (i, one) = told_points (homes a) setting role (synced_part w a) o.message o.reserve by_a.1 o.body o.unnamed in (
      i,
      one.view,
      one.there,
      sym one.child ∙ reserve_to homes b o.message o.reserve o.body o.to,
      ap (λ (s : Service). s.source) o.service ∙ ap name_or one.points.source,
      ap (λ (s : Service). s.dest) o.service ∙ ap name_or one.points.dest,
    )
