use Rattle.std.proofs.Common.{refl, ◌∙◌, sym, ap, subst, drop}
use Rattle.std.specs.List.{All}
use Rattle.std.proofs.lemmas.List.Elements.{All-drop}
use Rattle.nsi_primitive.specs.Printable.{IsPrintable}
use Rattle.nsi_agent.specs.Standing.{Standing}
use Rattle.followed_agent.proofs.Growing.{kept_cut, refolded}
use Rattle.followed_agent.proofs.agent.Followed.begin_again.Goals as goal

pub returns-clause-kept : goal.returns-clause-kept
returns-clause-kept c =
    let x = c.args.self.now in
    let agent = c.in_ok-agent.ensures in
    let out = c.fold.new.out.items in
    let left = c.in_ok-leave_out.ensures in
    kept_cut x _ c.args.count out c.requires.kept c.requires.from c.requires.to (ap (λ (a : Standing). a.network) c.put.ensures ∙ (agent.network ∙ c.requires.network))
    (ap (λ (a : Standing). a.number) c.put.ensures ∙ (agent.number ∙ c.number-number.ensures))
    (refolded x.agent.network c.args.topology.now x.agent.number c.number-number.result c.in_ok-agent.agent c.put.new.place out c.clear.new.self.items c.deref.result.now _ c.requires.network c.number-number.ensures c.put.ensures
    c.clear.ensures.items (c.deref.ensures.value ∙ c.truncate.ensures.items) agent.told)
    c.truncate.ensures.items (left ∙ ap (λ n. drop n out) c.len.ensures) refl refl refl (subst (All IsPrintable) (sym left) (All-drop IsPrintable c.len.result out agent.printable))
