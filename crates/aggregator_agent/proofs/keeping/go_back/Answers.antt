use Rattle.std.proofs.Common.{◌∷◌, ◌++◌, [], sym, subst, arith, rules}
use Rattle.std.specs.List.{Contains}
use Rattle.std.proofs.lemmas.List.Elements.{Contains-append_left, Contains-push}
use Rattle.aggregator_agent.specs.Bonds.{bonds, bond_at}
use Rattle.aggregator_agent.specs.Undo.{CanUndo, IsFormer}
use Rattle.aggregator_agent.proofs.Undo.{former_last, undo_less, all_back}
use Rattle.aggregator_agent.proofs.keeping.go_back.Goals as goal

pub go_back_at-requires : goal.go_back_at-requires
go_back_at-requires c = c.loop-one.invariant.within c.in-Some.one (subst (λ ks. Contains ks c.in-Some.one) (sym c.in-Some.ensures.items) (Contains-push c.pop.new.self.items c.in-Some.one))

pub loop-one-preserved : goal.loop-one-preserved
loop-one-preserved c =
    let ks = c.pop.new.self.items in
    let k = c.in-Some.one in
    let now = bonds c.loop-one.connections.items in
    let after = bonds c.go_back_at.new.connections.items in
    record {
      undo = λ was h.
          let before : CanUndo was now (ks ++ k ∷ []) = subst (CanUndo was now) c.in-Some.ensures.items (c.loop-one.invariant.undo was h) in
          let former : IsFormer k (bond_at k.place was) (bond_at k.place now) = former_last was now ks k before in
          undo_less was now after ks k before (c.go_back_at.ensures.back (bond_at k.place was) former);
      within = λ x has.
          let there = c.loop-one.invariant.within x (subst (λ xs. Contains xs x) (sym c.in-Some.ensures.items) (Contains-append_left ks (k ∷ []) x has)) in
          omega (arith, there, c.go_back_at.ensures.long);
    }

pub returns : goal.returns
returns c was h = all_back was (bonds c.loop-one.connections.items) c.loop-one.kept.items (search rules) (c.loop-one.invariant.undo was h)
