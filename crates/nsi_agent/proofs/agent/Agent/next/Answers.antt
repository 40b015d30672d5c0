use Rattle.std.proofs.Common.{◌≡◌, ◌∙◌, ap, true}
use Rattle.stp_topology.specs.Network.{kind_of}
use Rattle.nsi_agent.specs.Kinds.{state_in}
use Rattle.nsi_agent.specs.Standing.{Standing}
use Rattle.nsi_agent.specs.Steps.{may_take}
use Rattle.nsi_agent.proofs.Roles.{may_own, kept_agent, state_by, answer_by, out_by, some_by, taken_by, now_by}
use Rattle.nsi_agent.proofs.agent.Agent.next.Goals as goal

pub next-requires-clause-may_take : goal.next-requires-clause-may_take
next-requires-clause-may_take c =
    let d = c.self.inside in
    let e = c.args.entry.now in
    let may : may_take (kind_of d.topology.now d.number) (state_in d.kind) e ≡ true = ap (λ (x : Standing). may_take (kind_of x.network x.number) x.state e) c.self.view_is ∙ c.requires.may_take in
    may_own d.topology.now d.number d.kind d.kind e c.self.invariant may

pub invariant_of-self : goal.invariant_of-self
invariant_of-self c =
    let d = c.self.inside in
    let e = c.args.entry.now in
    let may : may_take (kind_of d.topology.now d.number) (state_in d.kind) e ≡ true = ap (λ (x : Standing). may_take (kind_of x.network x.number) x.state e) c.self.view_is ∙ c.requires.may_take in
    kept_agent d.topology.now d.number d.kind c.next.new.self e c.self.invariant may c.next.result c.next.ensures.some c.next.ensures.err c.next.ensures.printable

pub returns-clause-state : goal.returns-clause-state
returns-clause-state c =
    let d = c.self.inside in
    rw (← c.self.view_is) (state_by d.topology.now d.number d.kind c.next.new.self c.args.entry.now c.self.invariant c.next.result c.next.ensures.by)

pub returns-clause-answer : goal.returns-clause-answer
returns-clause-answer c =
    let d = c.self.inside in
    rw (← c.self.view_is) (answer_by d.topology.now d.number d.kind c.next.new.self c.args.entry.now c.self.invariant c.next.result c.next.ensures.by)

pub returns-clause-out : goal.returns-clause-out
returns-clause-out c =
    let d = c.self.inside in
    rw (← c.self.view_is) (out_by d.topology.now d.number d.kind c.next.new.self c.args.entry.now c.self.invariant c.next.result c.next.ensures.by)

pub returns-clause-some : goal.returns-clause-some
returns-clause-some c =
    let d = c.self.inside in
    rw (← c.self.view_is) (some_by d.topology.now d.number d.kind c.next.new.self c.args.entry.now c.self.invariant c.next.result c.next.ensures.some)

pub returns-clause-taken : goal.returns-clause-taken
returns-clause-taken c =
    let d = c.self.inside in
    let e = c.args.entry.now in
    let may : may_take (kind_of d.topology.now d.number) (state_in d.kind) e ≡ true = ap (λ (x : Standing). may_take (kind_of x.network x.number) x.state e) c.self.view_is ∙ c.requires.may_take in
    rw (← c.self.view_is) (taken_by d.topology.now d.number d.kind c.next.new.self e c.self.invariant may c.next.result c.next.ensures.some)

pub returns-clause-now : goal.returns-clause-now
returns-clause-now c =
    let d = c.self.inside in
    let e = c.args.entry.now in
    let may : may_take (kind_of d.topology.now d.number) (state_in d.kind) e ≡ true = ap (λ (x : Standing). may_take (kind_of x.network x.number) x.state e) c.self.view_is ∙ c.requires.may_take in
    now_by d.topology.now d.number d.kind c.next.new.self e c.self.invariant may c.next.result c.next.ensures.some
