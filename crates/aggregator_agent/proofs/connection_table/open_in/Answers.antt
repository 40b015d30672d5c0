use Rattle.std.proofs.Common.{◌≡◌, ◌∙◌, ◌++◌, ◌∷◌, [], length, refl, ap, sym, subst, rules}
use Rattle.std.proofs.lemmas.List.{length-map, map_push}
use Rattle.aggregator_agent.specs.declared.requesting.Start.{Start}
use Rattle.aggregator_agent.specs.Bonds.{bond, bonds}
use Rattle.aggregator_agent.specs.Settled.{IsTable}
use Rattle.aggregator_agent.proofs.Found.{all_grown, opened_table, opened_in}
use Rattle.aggregator_agent.proofs.connection_table.open_in.Goals as goal

pub returns-in_err-reserve-clause-table : goal.returns-in_err-reserve-clause-table
returns-in_err-reserve-clause-table c = subst (λ zs. IsTable c.args.index.now (bonds zs)) (sym c.in_err-reserve.ensures.items) c.requires.table

pub returns-in_err-number_of-clause-table : goal.returns-in_err-number_of-clause-table
returns-in_err-number_of-clause-table c = subst (λ zs. IsTable c.args.index.now (bonds zs)) (sym c.in_ok-reserve.ensures.items) c.requires.table

pub returns-in_err-said-clause-table : goal.returns-in_err-said-clause-table
returns-in_err-said-clause-table c =
    let new = c.request.new.index in
    subst (λ zs. IsTable new (bonds zs)) (sym c.in_ok-reserve.ensures.items) (all_grown c.args.index.now new (bonds c.args.items.now.items) c.request.ensures.grows c.requires.table.0, c.requires.table.1)

pub returns-clause-table : goal.returns-clause-table
returns-clause-table c =
    let xs = c.args.items.now.items in
    let bs = bonds xs in
    let n = c.len-place.result in
    let x = c.args.opening.connection in
    let y = c.request.new.connection in
    let counted : n ≡ length c.reserve.new.self.items = search rules in
    let long : n ≡ length bs = counted ∙ (ap length c.in_ok-reserve.ensures.items ∙ sym (length-map xs bond)) in
    let start : Start = record { number = c.in_ok-number_of.field-0; place = n; next = c.args.opening.next } in
    let put : bonds c.push_in_room.new.connections.items ≡ bs ++ bond y ∷ [] = ap bonds (c.push_in_room.ensures ∙ ap (λ zs. zs ++ y ∷ []) c.in_ok-reserve.ensures.items) ∙ map_push bond xs y in
    let said = c.in_ok-said.said in
    opened_table c.args.index.now c.request.new.index bs (bonds c.push_in_room.new.connections.items) n (bond x) (bond y) c.args.outbox.now c.request.new.outbox said c.args.entering.now start c.requires.table long refl c.requires.uncommitted put c.request.ensures.grows c.in_ok-said.ensures.named c.in_ok-said.ensures.some

pub returns-clause-by : goal.returns-clause-by
returns-clause-by c route h =
    let xs = c.args.items.now.items in
    let bs = bonds xs in
    let n = c.len-place.result in
    let x = c.args.opening.connection in
    let y = c.request.new.connection in
    let counted : n ≡ length c.reserve.new.self.items = search rules in
    let long : n ≡ length bs = counted ∙ (ap length c.in_ok-reserve.ensures.items ∙ sym (length-map xs bond)) in
    let start : Start = record { number = c.in_ok-number_of.field-0; place = n; next = c.args.opening.next } in
    let put : bonds c.push_in_room.new.connections.items ≡ bs ++ bond y ∷ [] = ap bonds (c.push_in_room.ensures ∙ ap (λ zs. zs ++ y ∷ []) c.in_ok-reserve.ensures.items) ∙ map_push bond xs y in
    let said = c.in_ok-said.said in
    opened_in bs (bonds c.push_in_room.new.connections.items) n (bond x) (bond y) c.args.outbox.now c.request.new.outbox said c.args.entering.now start route long put c.in_ok-number_of.ensures (c.in_ok-said.ensures.by route h)

pub returns-clause-some : goal.returns-clause-some
returns-clause-some c =
    let xs = c.args.items.now.items in
    let bs = bonds xs in
    let n = c.len-place.result in
    let x = c.args.opening.connection in
    let y = c.request.new.connection in
    let counted : n ≡ length c.reserve.new.self.items = search rules in
    let long : n ≡ length bs = counted ∙ (ap length c.in_ok-reserve.ensures.items ∙ sym (length-map xs bond)) in
    let start : Start = record { number = c.in_ok-number_of.field-0; place = n; next = c.args.opening.next } in
    let put : bonds c.push_in_room.new.connections.items ≡ bs ++ bond y ∷ [] = ap bonds (c.push_in_room.ensures ∙ ap (λ zs. zs ++ y ∷ []) c.in_ok-reserve.ensures.items) ∙ map_push bond xs y in
    let said = c.in_ok-said.said in
    let some = c.in_ok-said.ensures.some in
    (some.0, opened_in bs (bonds c.push_in_room.new.connections.items) n (bond x) (bond y) c.args.outbox.now c.request.new.outbox said c.args.entering.now start some.0 long put c.in_ok-number_of.ensures some.1)
