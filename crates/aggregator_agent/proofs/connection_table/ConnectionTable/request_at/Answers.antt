use Rattle.std.proofs.Common.{◌≡◌, ◌<◌, length, set, refl, sym, subst, arith}
use Rattle.std.proofs.lemmas.List.{length-map}
use Rattle.aggregator_agent.specs.declared.requesting.Start.{Start}
use Rattle.aggregator_agent.specs.Bonds.{bond, bonds, bond_at}
use Rattle.aggregator_agent.proofs.Touching.{read_at, put_at}
use Rattle.aggregator_agent.proofs.Found.{requested_table, requested_back, requested_by, requested_some}
use Rattle.aggregator_agent.proofs.connection_table.ConnectionTable.request_at.Goals as goal

pub invariant_of-self : goal.invariant_of-self
invariant_of-self c =
    let xs = c.self.inside.items.items in
    let bs = bonds xs in
    let n = c.args.place in
    let x = c.index_mut-connection.result.now in
    let y = c.request.new.connection in
    let within : n < length bs = subst (λ zs. n < length zs) (sym c.self.view_is) c.requires in
    let long = length-map xs bond in
    let at : bond x ≡ bond_at n bs = read_at xs n x (omega (arith, within, long)) c.index_mut-connection.ensures.value in
    let put : bonds (set xs n y) ≡ set bs n (bond y) = put_at xs n y in
    let start : Start = record { number = c.in_ok-number_of.field-0; place = n; next = c.args.next } in
    requested_table c.self.inside.index c.request.new.index bs (bonds (set xs n y)) n (bond x) (bond y) c.args.outbox.now c.request.new.outbox c.args.entering.now start c.request.result c.self.invariant within refl at put c.request.ensures.grows c.request.ensures.named c.request.ensures.some c.request.ensures.back

pub returns-clause-by : goal.returns-clause-by
returns-clause-by c route h =
    let xs = c.self.inside.items.items in
    let bs = bonds xs in
    let n = c.args.place in
    let x = c.index_mut-connection.result.now in
    let y = c.request.new.connection in
    let within : n < length bs = subst (λ zs. n < length zs) (sym c.self.view_is) c.requires in
    let long = length-map xs bond in
    let at : bond x ≡ bond_at n bs = read_at xs n x (omega (arith, within, long)) c.index_mut-connection.ensures.value in
    let put : bonds (set xs n y) ≡ set bs n (bond y) = put_at xs n y in
    let start : Start = record { number = c.in_ok-number_of.field-0; place = n; next = c.args.next } in
    rw (← c.self.view_is) (requested_by bs (bonds (set xs n y)) n (bond x) (bond y) c.args.outbox.now c.request.new.outbox c.args.entering.now start route c.request.result at put c.in_ok-number_of.ensures (c.request.ensures.by route h))

pub returns-clause-some : goal.returns-clause-some
returns-clause-some c =
    let xs = c.self.inside.items.items in
    let bs = bonds xs in
    let n = c.args.place in
    let x = c.index_mut-connection.result.now in
    let y = c.request.new.connection in
    let within : n < length bs = subst (λ zs. n < length zs) (sym c.self.view_is) c.requires in
    let long = length-map xs bond in
    let at : bond x ≡ bond_at n bs = read_at xs n x (omega (arith, within, long)) c.index_mut-connection.ensures.value in
    let put : bonds (set xs n y) ≡ set bs n (bond y) = put_at xs n y in
    let start : Start = record { number = c.in_ok-number_of.field-0; place = n; next = c.args.next } in
    rw (← c.self.view_is) (requested_some bs (bonds (set xs n y)) n (bond x) (bond y) c.args.outbox.now c.request.new.outbox c.args.entering.now start c.request.result at put c.in_ok-number_of.ensures c.request.ensures.some)

pub returns-clause-back : goal.returns-clause-back
returns-clause-back c =
    let xs = c.self.inside.items.items in
    let bs = bonds xs in
    let n = c.args.place in
    let x = c.index_mut-connection.result.now in
    let y = c.request.new.connection in
    let within : n < length bs = subst (λ zs. n < length zs) (sym c.self.view_is) c.requires in
    let long = length-map xs bond in
    let at : bond x ≡ bond_at n bs = read_at xs n x (omega (arith, within, long)) c.index_mut-connection.ensures.value in
    let put : bonds (set xs n y) ≡ set bs n (bond y) = put_at xs n y in
    let start : Start = record { number = c.in_ok-number_of.field-0; place = n; next = c.args.next } in
    rw (← c.self.view_is) (requested_back bs (bonds (set xs n y)) n (bond x) (bond y) c.request.result at put c.request.ensures.back)
