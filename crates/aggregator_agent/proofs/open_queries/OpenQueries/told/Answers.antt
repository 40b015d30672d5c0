use Rattle.std.proofs.Common.{◌≡◌, ◌∙◌, Some, None, ap, sym, subst}
use Rattle.std.specs.List.{list_any}
use Rattle.std.specs.Map.{values_of}
use Rattle.std.specs.Option.{option_copied}
use Rattle.aggregator_agent.specs.declared.open_queries.Told.{Told}
use Rattle.aggregator_agent.specs.Below.{is_asked, tells_first}
use Rattle.aggregator_agent.specs.Bonds.{bonds, records_of}
use Rattle.aggregator_agent.specs.Open.{IsTold}
use Rattle.aggregator_agent.specs.OpenTable.{first_awaited}
use Rattle.aggregator_agent.proofs.OpenTable.{found_first, first_there, part_within}
use Rattle.aggregator_agent.proofs.OpenTold.{told_none, told_one}
use Rattle.aggregator_agent.proofs.open_queries.OpenQueries.told.Goals as goal

pub returns-in_default : goal.returns-in_default
returns-in_default c =
    let o = c.self.inside in
    let records = records_of (bonds c.args.connections.now) in
    let first : first_awaited c.args.correlation records o.queries.entries ≡ None =
    found_first o.ids c.args.correlation records o.queries.entries c.new-numbers.result.items c.note_places.new.places.items c.deref.result.now c.find_least-found.result _ c.len-count.ensures.ordered c.self.invariant c.in_ok-note_places.ensures
    c.deref.ensures.value c.find_least-found.ensures c.in_default.is
    in
    subst (λ es. IsTold records es (λ agent. tells_first agent records c.args.correlation c.args.part (values_of es)) None) c.self.view_is (told_none records c.args.correlation c.args.part o.queries.entries first)

pub unreachable-requires : goal.unreachable-requires
unreachable-requires c =
    let o = c.self.inside in
    let records = records_of (bonds c.args.connections.now) in
    let first : first_awaited c.args.correlation records o.queries.entries ≡ Some c.in-Some.field-0 =
    found_first o.ids c.args.correlation records o.queries.entries c.new-numbers.result.items c.note_places.new.places.items c.deref.result.now c.find_least-found.result _ c.len-count.ensures.ordered c.self.invariant c.in_ok-note_places.ensures
    c.deref.ensures.value c.find_least-found.ensures c.in-Some.is
    in
    first_there c.args.correlation records o.queries.entries c.in-Some.field-0 c.len-count.ensures.ordered first (sym c.get.ensures.value ∙ ap option_copied c.in_default-get.is)

pub told_at-requires : goal.told_at-requires
told_at-requires c =
    let o = c.self.inside in
    let records = records_of (bonds c.args.connections.now) in
    let first : first_awaited c.args.correlation records o.queries.entries ≡ Some c.in-Some.field-0 =
    found_first o.ids c.args.correlation records o.queries.entries c.new-numbers.result.items c.note_places.new.places.items c.deref.result.now c.find_least-found.result _ c.len-count.ensures.ordered c.self.invariant c.in_ok-note_places.ensures
    c.deref.ensures.value c.find_least-found.ensures c.in-Some.is
    in
    part_within c.args.correlation records o.queries.entries c.in-Some.field-0 c.in-Some-get.query.now c.len-count.ensures.ordered first (sym c.get.ensures.value ∙ ap option_copied c.in-Some-get.is)

pub returns : goal.returns
returns c =
    let o = c.self.inside in
    let records = records_of (bonds c.args.connections.now) in
    let first : first_awaited c.args.correlation records o.queries.entries ≡ Some c.in-Some.field-0 =
    found_first o.ids c.args.correlation records o.queries.entries c.new-numbers.result.items c.note_places.new.places.items c.deref.result.now c.find_least-found.result _ c.len-count.ensures.ordered c.self.invariant c.in_ok-note_places.ensures
    c.deref.ensures.value c.find_least-found.ensures c.in-Some.is
    in
    let t : Told = record { number = c.in-Some.field-0.number; query = c.in_ok-query.query; waits = c.waits-waits.result } in
    subst (λ es. IsTold records es (λ agent. tells_first agent records c.args.correlation c.args.part (values_of es)) (Some t)) c.self.view_is
    (told_one records c.args.correlation c.args.part o.queries.entries c.in-Some.field-0 c.in-Some-get.query.now c.in_ok-query.query c.waits-waits.result c.requires c.len-count.ensures.ordered first
    (sym c.get.ensures.value ∙ ap option_copied c.in-Some-get.is) c.in_ok-query.ensures (c.waits-waits.ensures ∙ ap (list_any is_asked) c.items.ensures))
