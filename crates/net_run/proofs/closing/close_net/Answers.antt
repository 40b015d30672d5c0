use Rattle.std.proofs.Common.{rules, ◌≡◌, ◌≤◌, ◌∷◌, ◌∙◌, ◌+◌, ℕ, List, ap, sym, subst, arith}
use Rattle.nsi_disk.specs.Disk.{Meter}
use Rattle.nsi_disk.specs.ShelfCounts.{Raised}
use Rattle.agent_node.specs.Kept.{Kept}
use Rattle.net_run.specs.Begun.{AreListed, faults_among, stops_among, planned_among}
use Rattle.net_run.proofs.Beginning.{listed_still}
use Rattle.agent_threads.proofs.Left.{raised_none, raised_twice}
use Rattle.stp_topology.specs.Network.{name_of}
use Rattle.net_run.proofs.Ends.{none_left}
use Rattle.net_run.proofs.Returning.{Returns, IsReturned, returns_none, returns_all, is_returned, returns_more}
use Rattle.net_run.proofs.closing.close_net.Goals as goal

pub loop-node-init : goal.loop-node-init
loop-node-init g c =
    let e : c.into_iter-node-iterator.result.rest.items ≡ c.args.nodes.items = search rules in
    let faults : faults_among c.into_iter-node-iterator.result.rest.items ≡ faults_among c.args.nodes.items = ap faults_among e in
    let stops : stops_among c.into_iter-node-iterator.result.rest.items ≡ stops_among c.args.nodes.items = ap stops_among e in
    record {
      listed = subst (λ (ks : List Kept). AreListed (g.H.Shelf.listed c.args.shelf.now) c.args.topology.now ks) (sym e) c.requires.listed;
      back = subst (λ (ks : List Kept). Returns c.args.topology.now c.args.nodes.items ks (g.H.Shelf.holds c.args.shelf.now)) (sym e) (returns_none c.args.topology.now c.args.nodes.items (g.H.Shelf.holds c.args.shelf.now));
      faults = (0, raised_none (g.H.Shelf.faults c.args.shelf.now), omega (arith, faults));
      stops = (0, raised_none (g.H.Shelf.stops c.args.shelf.now), omega (arith, stops));
      few = subst (λ (ks : List Kept). stops_among ks ≤ planned_among ks → stops_among c.args.nodes.items ≤ planned_among c.args.nodes.items) (sym e) (λ few. few);
    }

pub loop-node-preserved : goal.loop-node-preserved
loop-node-preserved g c =
    let l = c.loop-node in
    let node = c.in-Some.node in
    let rest = c.next.new.self.rest.items in
    let e : l.node-iterator.rest.items ≡ node ∷ rest = search rules in
    let listed = subst (λ (ks : List Kept). AreListed (g.H.Shelf.listed l.shelf) c.args.topology.now ks) e l.invariant.listed in
    let faults : Raised (g.H.Shelf.faults l.shelf) node.meter.faults (g.H.Shelf.faults c.give_back.new.self) =
    subst (λ (m : Meter). Raised (g.H.Shelf.faults l.shelf) m.faults (g.H.Shelf.faults c.give_back.new.self)) c.into_disk-disk.ensures.meter c.give_back.ensures.faults in
    let stops : Raised (g.H.Shelf.stops l.shelf) node.meter.stops (g.H.Shelf.stops c.give_back.new.self) =
    subst (λ (m : Meter). Raised (g.H.Shelf.stops l.shelf) m.stops (g.H.Shelf.stops c.give_back.new.self)) c.into_disk-disk.ensures.meter c.give_back.ensures.stops in
    let more_faults : faults_among l.node-iterator.rest.items ≡ node.meter.faults + faults_among rest = ap faults_among e in
    let more_stops : stops_among l.node-iterator.rest.items ≡ node.meter.stops + stops_among rest = ap stops_among e in
    let more_planned : planned_among l.node-iterator.rest.items ≡ node.meter.planned + planned_among rest = ap planned_among e in
    let few : node.meter.stops ≤ node.meter.planned = subst (λ (m : Meter). m.stops ≤ m.planned) c.into_disk-disk.ensures.meter (g.met.H.Disk.Disk.few_stops c.into_disk-disk.result) in
    let t = c.args.topology.now in
    let now = g.H.Shelf.holds l.shelf in
    let later = g.H.Shelf.holds c.give_back.new.self in
    let disk = c.into_disk-disk.result in
    let name : c.name.result.now ≡ name_of t node.seat.number = c.name.ensures ∙ ap (name_of t) c.number-agent.ensures in
    let f = l.invariant.faults in
    let s = l.invariant.stops in
    record {
      listed = listed_still (g.H.Shelf.listed l.shelf) (g.H.Shelf.listed c.give_back.new.self) c.args.topology.now rest c.give_back.ensures.stays listed.1;
      back = returns_more t c.args.nodes.items node rest now later (subst (λ (ks : List Kept). Returns t c.args.nodes.items ks now) e l.invariant.back)
          (λ usable told. subst (λ (n : List ℕ). IsReturned node n now later) name
          (is_returned node c.name.result.now (g.H.Disk.Disk.meter disk).stopped (g.H.Disk.Disk.history disk) now later told c.into_disk-disk.ensures.tells (c.into_disk-disk.ensures.left usable) c.give_back.ensures.held));
      faults = (f.0 + node.meter.faults, raised_twice (g.H.Shelf.faults c.args.shelf.now) f.0 (g.H.Shelf.faults l.shelf) node.meter.faults (g.H.Shelf.faults c.give_back.new.self) f.1 faults, omega (arith, f.2, more_faults));
      stops = (s.0 + node.meter.stops, raised_twice (g.H.Shelf.stops c.args.shelf.now) s.0 (g.H.Shelf.stops l.shelf) node.meter.stops (g.H.Shelf.stops c.give_back.new.self) s.1 stops, omega (arith, s.2, more_stops));
      few = λ low. l.invariant.few (omega (arith, low, few, more_stops, more_planned));
    }

pub returns-clause-faults : goal.returns-clause-faults
returns-clause-faults g c =
    let rest = c.loop-node.node-iterator.rest in
    let f = c.loop-node.invariant.faults in
    let e : faults_among rest.items ≡ 0 = ap faults_among (none_left rest.items (sym rest.ok.0 ∙ c.in-None.ensures.steps.0)) in
    subst (λ (n : ℕ). Raised (g.H.Shelf.faults c.args.shelf.now) n (g.H.Shelf.faults c.loop-node.shelf)) (omega (arith, f.2, e)) f.1

pub returns-clause-stops : goal.returns-clause-stops
returns-clause-stops g c =
    let rest = c.loop-node.node-iterator.rest in
    let s = c.loop-node.invariant.stops in
    let e : stops_among rest.items ≡ 0 = ap stops_among (none_left rest.items (sym rest.ok.0 ∙ c.in-None.ensures.steps.0)) in
    subst (λ (n : ℕ). Raised (g.H.Shelf.stops c.args.shelf.now) n (g.H.Shelf.stops c.loop-node.shelf)) (omega (arith, s.2, e)) s.1

pub returns-clause-few : goal.returns-clause-few
returns-clause-few g c =
    let rest = c.loop-node.node-iterator.rest in
    let none = none_left rest.items (sym rest.ok.0 ∙ c.in-None.ensures.steps.0) in
    c.loop-node.invariant.few (subst (λ (ks : List Kept). stops_among ks ≤ planned_among ks) (sym none) (omega arith))

pub returns-clause-held : goal.returns-clause-held
returns-clause-held g c =
    let t = c.args.topology.now in
    let now = g.H.Shelf.holds c.loop-node.shelf in
    let rest = c.loop-node.node-iterator.rest in
    returns_all t c.args.nodes.items now (subst (λ (ks : List Kept). Returns t c.args.nodes.items ks now) (none_left rest.items (sym rest.ok.0 ∙ c.in-None.ensures.steps.0)) c.loop-node.invariant.back)
