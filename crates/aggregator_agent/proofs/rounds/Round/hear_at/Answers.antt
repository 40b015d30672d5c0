use Rattle.std.proofs.Common.{◌≡◌, ◌∙◌, set, sym, ap, subst, arith}
use Rattle.std.proofs.lemmas.List.{length-map}
use Rattle.connection_record.specs.Later.{IsLater}
use Rattle.aggregator_agent.specs.Bonds.{Bond, bond, bonds, bond_at, answered, IsDoneAt}
use Rattle.aggregator_agent.specs.Undo.{Keeps, IsFormer}
use Rattle.aggregator_agent.proofs.Touching.{read_at, put_at, kept_at, done_at}
use Rattle.aggregator_agent.specs.Indexed.{IsNamedAgain}
use Rattle.aggregator_agent.proofs.Found.{ok_more}
use Rattle.aggregator_agent.proofs.Undo.{former_by, set_here}
use Rattle.aggregator_agent.proofs.rounds.Round.hear_at.Goals as goal

pub returns-clause-done : goal.returns-clause-done
returns-clause-done c =
    let e = c.args.entering.now in
    let xs = c.args.connections.now.items in
    let n = c.args.place in
    let old = c.args.self.now.said in
    let x = c.index_mut-connection.result.now in
    let y = c.hear_and_name.new.connection in
    subst (λ k. IsDoneAt old c.hear_and_name.new.said n (bonds xs) (bonds (set xs n y)) c.hear_and_name.result (answered e.agent.now e.second e.message.now k old.next (bond_at n (bonds xs)))) c.in_ok-number.ensures
    (done_at xs n x y old c.hear_and_name.new.said c.hear_and_name.result (λ b. answered e.agent.now e.second e.message.now c.in_ok-number.number old.next b) c.requires.within c.index_mut-connection.ensures.value c.hear_and_name.ensures.done)

pub returns-clause-undo : goal.returns-clause-undo
returns-clause-undo c was undo =
    let xs = c.args.connections.now.items in
    let n = c.args.place in
    let x = c.index_mut-connection.result.now in
    let y = c.hear_and_name.new.connection in
    let z = c.index.result.now in
    let b = bond_at n (bonds xs) in
    let before : bond z ≡ b = read_at xs n z c.requires.within c.index.ensures in
    let at : bond x ≡ b = read_at xs n x c.requires.within c.index_mut-connection.ensures.value in
    let later : IsLater b.own y.own = subst (λ (o : Bond). IsLater o.own y.own) at c.hear_and_name.ensures.later in
    let k = c.in_ok-kept.kept in
    let keeps : Keeps k b = subst (Keeps k) before c.in_ok-kept.ensures.keeps in
    let former : IsFormer k b (bond y) = former_by k b (bond y) keeps later in
    let place : k.place ≡ n = c.in_ok-kept.ensures.place in
    kept_at was xs n y c.args.self.now.kept.items _ k c.requires.within place c.requires.new former c.in_ok-push.ensures.items undo

pub returns-clause-named : goal.returns-clause-named
returns-clause-named c =
    let xs = c.args.connections.now.items in
    let n = c.args.place in
    let x = c.index_mut-connection.result.now in
    let y = c.hear_and_name.new.connection in
    let bs = bonds xs in
    let index = c.hear_and_name.new.index in
    let long = length-map xs bond in
    let at : bond x ≡ bond_at n bs = read_at xs n x c.requires.within c.index_mut-connection.ensures.value in
    let there : bond_at n (bonds (set xs n y)) ≡ bond y = ap (bond_at n) (put_at xs n y) ∙ set_here bs n (bond y) (omega (arith, long, c.requires.within)) in
    ok_more _ _ c.hear_and_name.result (λ h. subst (λ b. IsNamedAgain index n b (bond_at n (bonds (set xs n y)))) at (subst (λ a. IsNamedAgain index n (bond x) a) (sym there) h)) c.hear_and_name.ensures.named
