use Rattle.std.proofs.Common.{◌<◌, ◌^◌, arith}
use Rattle.std.proofs.lemmas.Map.Views.{All-insert_key}
use Rattle.id_index.specs.declared.IdPlace.{IdPlace}
use Rattle.id_index.proofs.Order.{place_cmp, place_added}
use Rattle.id_index.proofs.IdIndex.add.Goals as goal

pub invariant_of-self-2 : goal.invariant_of-self-2
invariant_of-self-2 c =
    let x : IdPlace = record { id = c.args.id; place = c.args.place } in
    rw c.in_ok-insert.ensures.keys (All-insert_key place_cmp x (λ (e : IdPlace). e.place < 2 ^ 64) c.self.inside.entries.keys c.self.invariant (omega (arith, c.ranges.place.fits)))

pub returns-clause-ok : goal.returns-clause-ok
returns-clause-ok c e =
    let x : IdPlace = record { id = c.args.id; place = c.args.place } in
    rw (← c.self.view_is) (place_added c.self.inside.entries c.insert.new.self x c.in_ok-insert.ensures.updates e)
