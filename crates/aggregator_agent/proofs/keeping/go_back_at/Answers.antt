use Rattle.std.proofs.Common.{◌≡◌, ◌∙◌, set, ap, sym, subst}
use Rattle.aggregator_agent.specs.Bonds.{bond, bonds, bond_at}
use Rattle.aggregator_agent.specs.Undo.{IsFormer}
use Rattle.aggregator_agent.proofs.Touching.{read_at, put_at}
use Rattle.aggregator_agent.proofs.keeping.go_back_at.Goals as goal

pub returns-clause-back : goal.returns-clause-back
returns-clause-back c was former =
    let xs = c.args.connections.now.items in
    let n = c.args.kept.place in
    let x = c.index_mut.result.now in
    let y = c.go_back.new.self in
    let at : bond x ≡ bond_at n (bonds xs) = read_at xs n x c.requires c.index_mut.ensures.value in
    let back : bond y ≡ was = c.go_back.ensures was (subst (IsFormer c.args.kept was) (sym at) former) in
    put_at xs n y ∙ ap (λ b. set (bonds xs) n b) back
