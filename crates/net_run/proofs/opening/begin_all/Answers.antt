use Rattle.std.proofs.Common.{rules, ◌≡◌, ◌<◌, ◌+◌, ◌++◌, ◌∷◌, ◌∙◌, [], true, ℕ, List, length, length-append, sym, ap, subst, arith}
use Rattle.stp_topology.specs.Network.{name_of}
use Rattle.agent_node.specs.Kept.{Kept}
use Rattle.net_run.specs.Begun.{IsBegun, AreBegun, AreListed, stops_of}
use Rattle.net_run.specs.Shelves.{IsStartFault}
use Rattle.net_run.proofs.Beginning.{begun_of, begun_more, number_is, listed_still, listed_more}
use Rattle.net_run.proofs.Ends.{joined_all}
use Rattle.net_run.specs.Journals.{AreEmpty}
use Rattle.net_run.proofs.Returning.{empty_before, empty_more}
use Rattle.net_run.proofs.opening.begin_all.Goals as goal

pub returns-in_err-node-clause-listed : goal.returns-in_err-node-clause-listed
returns-in_err-node-clause-listed g c =
    listed_still (g.H.Shelf.listed c.loop-place.shelf) (g.H.Shelf.listed c.begin_one.new.shelf) c.args.topology.now c.loop-place.nodes.items c.begin_one.ensures.stays c.loop-place.invariant.listed

pub returns-in_err-node-clause-cause : goal.returns-in_err-node-clause-cause
returns-in_err-node-clause-cause g c =
    let l = c.loop-place in
    let most = length c.args.topology.now.agents in
    let faults = g.H.Shelf.faults c.begin_one.new.shelf in
    let stops = g.H.Shelf.stops c.begin_one.new.shelf in
    let e = c.in_err-node.field-0.0 in
    let one = subst (λ (f : ℕ). IsStartFault most f faults (g.H.Shelf.stops l.shelf) stops e) l.invariant.faults c.in_err-node.ensures.cause in
    let both : IsStartFault most (g.H.Shelf.faults c.args.shelf.now) faults (g.H.Shelf.stops c.args.shelf.now) stops e =
    subst (λ (s : ℕ). IsStartFault most (g.H.Shelf.faults c.args.shelf.now) faults s stops e) l.invariant.stops one in
    search rules

pub own_ends-requires-clause-ends : goal.own_ends-requires-clause-ends
own_ends-requires-clause-ends g c =
    let l = c.loop-place in
    let t = c.args.topology.now in
    let agent = c.agent_at-agent.result in
    let at : agent ≡ l.place = c.agent_at-agent.ensures in
    let within : agent < length t.agents = search rules in
    l.invariant.ends agent (omega (arith, at)) ∙ joined_all t c.args.joints.items agent c.requires.joined within

pub loop-place-preserved : goal.loop-place-preserved
loop-place-preserved g c =
    let l = c.loop-place in
    let i = l.invariant in
    let t = c.args.topology.now in
    let all = c.args.joints.items in
    let own = c.in_ok-own.own in
    let o = c.in_ok-own.ensures in
    let node = c.in_ok-node.node in
    let stopped = c.in_ok-node.stopped in
    let lines = c.args.lines.now in
    let agent = c.agent_at-agent.result in
    let at : agent ≡ l.place = c.agent_at-agent.ensures in
    let within : agent < length t.agents = search rules in
    let items : c.push_reserved.new.self.items ≡ l.nodes.items ++ node ∷ [] = search rules in
    let tries : c.push_reserved-in-loop-place.new.self.items ≡ l.tries.items ++ stopped ∷ [] = search rules in
    let planned : c.deref.result.now ≡ stops_of lines agent = search rules in
    let many : length c.deref.result.now ≡ length (stops_of lines agent) = ap length planned in
    let listed = g.H.Shelf.listed c.begin_one.new.shelf in
    let one : IsBegun t all lines agent stopped node =
    begun_of t lines agent (length c.deref.result.now) stopped own.outgoing own.incoming own.rest.items l.left.items all node o (λ b. i.left agent b (omega (arith, at))) i.planned c.requires.planned (omega (arith, many)) c.in_ok-node.ensures.fresh in
    let number = number_is t all lines agent stopped node one in
    let place : agent ≡ 0 + length l.nodes.items = omega (arith, at, i.count) in
    let still = listed_still (g.H.Shelf.listed l.shelf) listed t l.nodes.items c.begin_one.ensures.stays i.listed in
    let name = subst (λ (n : ℕ). listed (name_of t n) ≡ true) (sym number) c.in_ok-node.ensures.listed in
    record {
      begun = subst (λ (ns : List ℕ). AreBegun t all lines 0 ns c.push_reserved.new.self.items) (sym tries) (subst (λ (ks : List Kept). AreBegun t all lines 0 (l.tries.items ++ stopped ∷ []) ks) (sym items)
          (begun_more t all lines 0 l.tries.items l.nodes.items stopped node i.begun (subst (λ (n : ℕ). IsBegun t all lines n stopped node) place one)));
      told = omega (arith, ap length tries, length-append l.tries.items (stopped ∷ []), i.told);
      space = omega (arith, i.space, c.push_reserved-in-loop-place.ensures.capacity);
      count = omega (arith, ap length items, length-append l.nodes.items (node ∷ []), i.count);
      listed = subst (λ (ks : List Kept). AreListed listed t ks) (sym items) (listed_more listed t l.nodes.items node still (omega (arith, number, within)) name);
      empty = subst (λ (ks : List Kept). AreEmpty t (g.H.Shelf.holds c.args.shelf.now) ks) (sym items)
          (empty_more t (g.H.Shelf.holds c.args.shelf.now) l.nodes.items node i.empty
          (empty_before t agent node (g.H.Shelf.holds c.args.shelf.now) (g.H.Shelf.holds l.shelf) number i.holds c.in_ok-node.ensures.empty));
      holds = λ n. c.in_ok-node.ensures.holds n ∙ i.holds n;
      faults = c.in_ok-node.ensures.faults ∙ i.faults;
      stops = c.in_ok-node.ensures.stops ∙ i.stops;
      shut = o.shut;
      planned = λ plans p. o.left_planned plans (i.planned plans p);
      left = λ a b h. o.left a b (λ q. absurd (omega (arith, q, at, h))) ∙ i.left a b (omega (arith, h));
      ends = λ b h. o.of_others b (λ q. absurd (omega (arith, q, at, h))) ∙ i.ends b (omega (arith, h));
      room = omega (arith, i.room, c.push_reserved.ensures.capacity);
    }
