use Rattle.std.proofs.Common.{rules, ◌≡◌, ◌+◌, ◌++◌, ◌∷◌, [], ◌∙◌, ap, sym, subst, refl, arith, length, map, List, ℕ, vec_len, vec_capacity}
use Rattle.agent_link.specs.Link.{Half, OutHalf}
use Rattle.agent_link.specs.Plans.{Plan}
use Rattle.agent_node.specs.declared.links.Link.{Link}
use Rattle.agent_node.specs.Kept.{AreEnds, ArePlanned, plugs_of}
use Rattle.agent_node.specs.Linked.{doors, plugs}
use Rattle.agent_node.specs.Openings.{opened}
use Rattle.agent_node.proofs.Beginning.{doors_next, plan_first, plan_rest, plugs_next, ends_next, first_shut, first_knows_none}
use Rattle.agent_node.proofs.opening.links_to.Goals as goal

pub loop-other-preserved : goal.loop-other-preserved
loop-other-preserved c =
    let l = c.loop-other in
    let b = c.in-Some.other in
    let bs = c.next.new.self.rest.items in
    let o = c.in-Some-Some.out in
    let os = c.next-in-loop-other.new.self.rest.items in
    let i = c.in-Some-Some.inc in
    let is = c.next-in-loop-other-2.new.self.rest.items in
    let eb : l.other-iterator.rest.items ≡ b ∷ bs = search rules in
    let eo : l.outs.rest.items ≡ o ∷ os = search rules in
    let ei : l.incs.rest.items ≡ i ∷ is = search rules in
    let ends : AreEnds (b ∷ bs) (o ∷ os) (i ∷ is) =
    subst (λ (ns : List ℕ). AreEnds ns (o ∷ os) (i ∷ is)) eb
    (subst (λ (hs : List OutHalf). AreEnds l.other-iterator.rest.items hs (i ∷ is)) eo (subst (λ (hs : List Half). AreEnds l.other-iterator.rest.items l.outs.rest.items hs) ei l.invariant.ends)) in
    let here : (plans : ℕ → Plan) → ArePlanned plans c.args.others.items c.args.outgoing → ArePlanned plans (b ∷ bs) (o ∷ os) = λ plans h.
    subst (λ (ns : List ℕ). ArePlanned plans ns (o ∷ os)) eb
    (subst (λ (hs : List OutHalf). ArePlanned plans l.other-iterator.rest.items hs) eo (l.invariant.planned plans h)) in
    let link : Link = record { other = b; queue = c.new.result; out = o; inc = i } in
    let new : c.push_reserved.new.self.items ≡ l.links.items ++ link ∷ [] = search rules in
    let queue : c.new.result ≡ [] = search rules in
    let rooms = l.invariant.room in
    let more = ap (λ (ns : List ℕ). length ns) eb in
    let len : vec_len c.push_reserved.new.self ≡ vec_len l.links + 1 = search rules in
    let capacity : vec_capacity c.push_reserved.new.self ≡ vec_capacity l.links = search rules in
    record {
      planned = λ plans h. plan_rest plans b bs o os (here plans h);
      doors = λ plans h. ap (λ (ls : List Link). doors ls ++ map (opened plans) bs) new
          ∙ (doors_next plans l.links.items link b bs refl queue (first_shut o os ends.shut) (first_knows_none i is ends.known) (plan_first plans b bs o os (here plans h))
          ∙ (sym (ap (λ (ns : List ℕ). doors l.links.items ++ map (opened plans) ns) eb) ∙ l.invariant.doors plans h));
      plugs = ap (λ (ls : List Link). plugs ls ++ plugs_of bs os is) new
          ∙ (plugs_next l.links.items link b bs o i os is refl
          ∙ (sym
          (ap (λ (ns : List ℕ). plugs l.links.items ++ plugs_of ns l.outs.rest.items l.incs.rest.items) eb
          ∙ (ap (λ (hs : List OutHalf). plugs l.links.items ++ plugs_of (b ∷ bs) hs l.incs.rest.items) eo
          ∙ ap (λ (hs : List Half). plugs l.links.items ++ plugs_of (b ∷ bs) (o ∷ os) hs) ei))
          ∙ l.invariant.plugs));
      ends = ends_next b bs o i os is ends;
      room = omega (arith, rooms, more, len, capacity);
    }
