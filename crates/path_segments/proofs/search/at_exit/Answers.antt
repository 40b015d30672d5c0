use Rattle.std.proofs.Common.{◌≡◌, subst, length, false, true, arith, rules}
use Rattle.stp_topology.specs.Network.{partner_of}
use Rattle.path_segments.specs.Steps.{at, Way, HoldsFor}
use Rattle.path_segments.proofs.Marks.{mark_holds, hop_kept, next_exit, pass_exit}
use Rattle.path_segments.proofs.Flat.{place_within}
use Rattle.path_segments.proofs.search.at_exit.Goals as goal

pub loop-place-preserved : goal.loop-place-preserved
loop-place-preserved c = record {
  grows = search rules;
  hop = hop_kept (λ p. Way c.args.search.now.topology.now c.args.search.now.depth c.args.search.now.children.now c.loop-place.place p c.args.exit) (record { rest = c.args.rest; exit = c.args.exit; place = c.loop-place.place }) (at c.loop-place.steps.items)
      (at c.at_child.new.steps.items) c.in_ok-grew.ensures.changes (partner_of c.args.search.now.topology.now) c.args.search.now.dest c.args.rest c.args.exit c.loop-place.invariant.hop;
  holds = mark_holds (partner_of c.args.search.now.topology.now) (Way c.args.search.now.topology.now c.args.search.now.depth c.args.search.now.children.now) c.args.search.now.dest
      (record { rest = c.args.rest; exit = c.args.exit; place = c.loop-place.place }) (at c.loop-place.steps.items) (at c.at_child.new.steps.items)
      c.in_ok-grew.ensures.changes c.in_ok-grew.ensures.noted c.loop-place.invariant.hop c.loop-place.invariant.holds;
  searches = search rules;
}

pub returns-then-not-is_hop-clause-holds : goal.returns-then-not-is_hop-clause-holds
returns-then-not-is_hop-clause-holds c =
    pass_exit (partner_of c.args.search.now.topology.now) (Way c.args.search.now.topology.now c.args.search.now.depth c.args.search.now.children.now) c.args.search.now.dest c.args.rest c.args.exit (at c.args.steps.now.items)
    (λ h. let yes_hop : c.is_hop.result ≡ true = c.is_hop.ensures.1 (rw c.deref.ensures.value h) in let not_hop : c.is_hop.result ≡ false = c.if-not-is_hop.true in cc) c.requires.holds

pub returns-clause-holds : goal.returns-clause-holds
returns-clause-holds c =
    next_exit (partner_of c.args.search.now.topology.now) (Way c.args.search.now.topology.now c.args.search.now.depth c.args.search.now.children.now) c.args.search.now.dest c.args.rest c.args.exit (length c.args.search.now.children.now) (at c.loop-place.steps.items)
    (λ b p y s. place_within c.args.search.now.topology.now c.args.search.now.depth c.args.search.now.children.now b p y s)
    (subst (λ z. HoldsFor (partner_of c.args.search.now.topology.now) (Way c.args.search.now.topology.now c.args.search.now.depth c.args.search.now.children.now) c.args.search.now.dest c.args.rest c.args.exit z (at c.loop-place.steps.items))
    (omega (arith, c.loop-place-test.false, c.loop-place.auto)) c.loop-place.invariant.holds)
