use Rattle.std.proofs.Common.{◌≡◌, ◌∙◌, set, ap, subst}
use Rattle.std.specs.Global.{Vec}
use Rattle.child_connection.specs.Views.{ChildConnection}
use Rattle.connection_record.specs.Later.{IsLater}
use Rattle.connection_record.specs.Saved.{saved_of}
use Rattle.aggregator_agent.specs.Bonds.{Bond, bond, bonds, bond_at, clocked_bond, IsDoneAt}
use Rattle.aggregator_agent.specs.Undo.{IsFormer}
use Rattle.aggregator_agent.proofs.Touching.{read_at, kept_at, done_at}
use Rattle.aggregator_agent.proofs.Undo.{former_own}
use Rattle.aggregator_agent.proofs.rounds.Round.clock_at.Goals as goal

pub returns-clause-done : goal.returns-clause-done
returns-clause-done c =
    let e = c.args.clocking.now in
    let xs = c.args.connections.now.items in
    let n = c.args.place in
    let old = c.args.self.now.said in
    let x = c.index_mut-connection.result.now in
    let y = c.clock.new.self in
    subst (λ k. IsDoneAt old c.clock.new.said n (bonds xs) (bonds (set xs n y)) c.clock.result (clocked_bond e.agent.now e.second e.late.now k old.next (bond_at n (bonds xs)))) c.in_ok-number.ensures
    (done_at xs n x y old c.clock.new.said c.clock.result (λ b. clocked_bond e.agent.now e.second e.late.now c.in_ok-number.number old.next b) c.requires.within c.index_mut-connection.ensures.value c.clock.ensures.done)

pub returns-clause-undo : goal.returns-clause-undo
returns-clause-undo c was undo =
    let xs = c.args.connections.now.items in
    let n = c.args.place in
    let x = c.index_mut-connection.result.now in
    let y = c.clock.new.self in
    let z = c.index.result.now in
    let b = bond_at n (bonds xs) in
    let before : bond z ≡ b = read_at xs n z c.requires.within c.index.ensures in
    let at : bond x ≡ b = read_at xs n x c.requires.within c.index_mut-connection.ensures.value in
    let later : IsLater b.own y.own = subst (λ (o : Bond). IsLater o.own y.own) at c.clock.ensures.later in
    let k = c.keep_own-kept.result in
    let former : IsFormer k b (bond y) =
    former_own k b (bond y) (c.keep_own-kept.ensures.own ∙ ap (λ (o : Bond). saved_of o.own) before) c.keep_own-kept.ensures.children later (ap (λ (v : Vec ChildConnection). v.items) c.clock.ensures.children ∙ ap (λ (o : Bond). o.children) at) in
    let place : k.place ≡ n = c.keep_own-kept.ensures.place in
    kept_at was xs n y c.args.self.now.kept.items _ k c.requires.within place c.requires.new former c.in_ok-push.ensures.items undo
