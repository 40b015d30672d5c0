use Rattle.std.proofs.Common.{◌∷◌, [], ◌++◌, ◌∙◌, sym, ap}
use Rattle.stp_topology.specs.Names.{place_of, texts}
use Rattle.stp_topology.proofs.NamePlaces.{insert_new}
use Rattle.stp_topology.proofs.names.Names.declare.Goals as goal

pub invariant_of-self-in-Ok-insert : goal.invariant_of-self-in-Ok-insert
invariant_of-self-in-Ok-insert c =
    let key = c.in_ok-key.key in
    let keys = c.self.inside.places.keys in
    let same = c.self.invariant ∙ c.self.view_is in
    let absent = ap (λ t. place_of t key.items) same ∙ ap (λ b. place_of c.args.self.now b) c.in_ok-key.ensures.items ∙ c.requires.is_new in
    ap texts c.in-Ok-insert.ensures.keys ∙ insert_new key keys absent
    ∙ ap (λ b. texts keys ++ b ∷ []) (c.in_ok-key.ensures.items ∙ sym c.in-Ok.ensures.ok) ∙ ap (λ t. t ++ c.in-Ok.copy ∷ []) c.self.invariant ∙ sym c.in_ok-push.ensures.items
