use Rattle.std.proofs.Common.{rules, ◌≡◌, ◌∷◌, ◌∙◌, ap, sym, subst, List}
use Rattle.std.specs.List.{All}
use Rattle.std.proofs.lemmas.List.Elements.{All-tail}
use Rattle.nsi_primitive.specs.Printable.{IsPrintable}
use Rattle.nsi_primitive.specs.declared.message.Message.{Message}
use Rattle.stp_topology.specs.Network.{agent_of}
use Rattle.agent_node.specs.Doors.{Door}
use Rattle.agent_node.specs.Passing.{says_all}
use Rattle.agent_node.proofs.Joints.{says_next, same_links_twice}
use Rattle.agent_node.proofs.links.Links.say_all.Goals as goal

pub loop-message-preserved : goal.loop-message-preserved
loop-message-preserved c =
    let t = agent_of c.args.topology.now in
    let l = c.loop-message in
    let m = c.in-Some.message in
    let rest = c.next.new.self.rest.items in
    let e : l.message-iterator.rest.items ≡ m ∷ rest = search rules in
    record {
      way = ap (λ (ds : List Door). says_all t rest ds) c.in_ok-say.ensures.doors
          ∙ (sym (ap (λ (ms : List Message). says_all t ms l.self.doors) e ∙ says_next t m rest l.self.doors) ∙ l.invariant.way);
      printable = All-tail IsPrintable m rest (subst (λ (ms : List Message). All IsPrintable ms) e l.invariant.printable);
      links = same_links_twice c.args.self.now l.self c.say.new.self l.invariant.links c.in_ok-say.ensures.links;
    }
