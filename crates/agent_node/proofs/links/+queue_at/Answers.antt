use Rattle.std.proofs.Common.{rules, ◌≡◌, ◌∷◌, ◌∙◌, ap, sym, List}
use Rattle.nsi_primitive.specs.declared.message.Parcel.{Parcel}
use Rattle.agent_node.specs.declared.links.Link.{Link}
use Rattle.agent_node.specs.Doors.{queue_at, with_parcel}
use Rattle.agent_node.specs.Linked.{door_of, doors}
use Rattle.agent_node.proofs.Joints.{change_here}
use Rattle.agent_node.proofs.links.+queue_at.Goals as goal

pub returns-in_ok-put-clause-doors : goal.returns-in_ok-put-clause-doors
returns-in_ok-put-clause-doors t c =
    let l = c.in-Some.first.now in
    let ls = c.in-Some.rest.now in
    let e : c.args.links.now ≡ l ∷ ls = search rules in
    let h : l.other ≡ c.args.to = search rules in
    ap (λ (q : List Parcel). record { other = l.other; queue = q; out = l.out.parcels; plan = l.out.plan; inc = l.inc.parcels } ∷ doors ls) c.in_ok-put.ensures
    ∙ sym (ap (λ (ks : List Link). queue_at c.args.to c.args.parcel (doors ks)) e ∙ change_here c.args.to (with_parcel c.args.parcel) (door_of l) (doors ls) h)
