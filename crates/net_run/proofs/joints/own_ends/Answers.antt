use Rattle.std.proofs.Common.{◌≡◌, ◌∙◌, List, sym, subst, append-nil}
use Rattle.agent_link.specs.Link.{Half, OutHalf}
use Rattle.agent_node.specs.Openings.{others_of}
use Rattle.net_run.specs.Joints.{AreOwn}
use Rattle.net_run.proofs.Ends.{alone}
use Rattle.net_run.proofs.Splitting.{own_of}
use Rattle.net_run.proofs.joints.own_ends.Goals as goal

pub returns : goal.returns
returns c =
    let t = c.args.topology.now in
    let a = c.args.agent in
    let s = c.in_ok-split.split in
    let is : s.others.items ≡ others_of t a = sym (append-nil s.others.items) ∙ (c.in_ok-split.ensures.to ∙ c.requires.ends) in
    subst (λ (hs : List OutHalf). AreOwn t a hs c.from_items-2.result s.rest.items c.args.joints.items) (sym c.from_items.ensures)
    (subst (λ (hs : List Half). AreOwn t a s.outgoing.items hs s.rest.items c.args.joints.items) (sym c.from_items-2.ensures)
    (own_of t a s.others.items s.outgoing.items s.incoming.items s.rest.items c.args.joints.items c.in_ok-split.ensures is (alone t a c.laws.ensures)))
