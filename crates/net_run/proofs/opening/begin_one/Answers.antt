use Rattle.std.proofs.Common.{arith, length, sym, subst}
use Rattle.net_run.specs.Shelves.{IsStartFault}
use Rattle.agent_threads.specs.declared.fault.RunFault.{RunFault}
use Rattle.net_run.proofs.Counting.{refused, raised_up}
use Rattle.net_run.proofs.opening.begin_one.Goals as goal

pub returns-in-Err-clause-cause : goal.returns-in-Err-clause-cause
returns-in-Err-clause-cause g c =
    let most = length c.args.topology.now.agents in
    let f = g.H.Shelf.faults c.args.shelf.now in
    let h = g.H.Shelf.faults c.fetch.new.self in
    let s = g.H.Shelf.stops c.args.shelf.now in
    let r = g.H.Shelf.stops c.fetch.new.self in
    let is = c.in-Err.is in
    subst (λ (e : RunFault). IsStartFault most f h s r e) (sym c.refusal_of.ensures)
    (refused most c.args.agent f h s r c.in-Err.error c.requires.within (λ e. c.in-Err.ensures.failed (cc)) c.fetch.ensures.faults (omega (arith, c.fetch.ensures.stops)))

pub returns-in-Err-fetch_again-clause-cause : goal.returns-in-Err-fetch_again-clause-cause
returns-in-Err-fetch_again-clause-cause g c =
    let most = length c.args.topology.now.agents in
    let i = c.loop-node.invariant in
    let f = g.H.Shelf.faults c.args.shelf.now in
    let h = g.H.Shelf.faults c.fetch_again.new.self in
    let s = g.H.Shelf.stops c.args.shelf.now in
    let r = g.H.Shelf.stops c.fetch_again.new.self in
    let is = c.in-Err-fetch_again.is in
    let low = c.fetch_again.ensures.faults in
    let by = c.in-Err-fetch_again.ensures.lost in
    let up = raised_up (g.H.Shelf.stops c.loop-node.shelf) by.0 r by.2 in
    subst (λ (e : RunFault). IsStartFault most f h s r e) (sym c.refusal_of-in-Err-fetch_again.ensures)
    (refused most c.args.agent f h s r c.in-Err-fetch_again.error c.requires.within
    (λ e. let over = c.in-Err-fetch_again.ensures.failed (cc) in omega (arith, over, i.faults)) (omega (arith, low, i.faults)) (omega (arith, up, i.stops)))
