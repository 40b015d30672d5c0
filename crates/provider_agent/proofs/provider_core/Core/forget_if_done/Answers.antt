use Rattle.std.proofs.Common.{◌≡◌, ◌∙◌, false, ap, sym, refl, length, is_some, arith}
use Rattle.std.proofs.lemmas.List.{get_or_read_under}
use Rattle.connection_record.specs.Applied.{first_machine, has_work}
use Rattle.provider_agent.specs.State.{no_record, record_at}
use Rattle.provider_agent.proofs.Indexing.{indexed_removed}
use Rattle.provider_agent.proofs.provider_core.Core.forget_if_done.Goals as goal

pub returns-then-is_none-clause-consistent : goal.returns-then-is_none-clause-consistent
returns-then-is_none-clause-consistent c =
    let d = c.args.self.now in
    let xs = d.records.items in
    let n = c.args.place in
    let own_is : c.index.result.now ≡ record_at n xs = get_or_read_under xs n (length xs) c.index.result.now no_record c.index.ensures c.requires.within refl in
    let machine_is = c.first_machine.ensures ∙ ap first_machine own_is in
    let none : is_some c.first_machine.result ≡ false = grind (arith, c.is_none.ensures, c.if-is_none.true) in
    let idle : has_work (record_at n xs) ≡ false = ap is_some (sym machine_is) ∙ none in
    record { kept = c.requires.consistent.kept; indexed = indexed_removed d.now xs d.waiting c.remove.new.self d.deadlines n c.requires.consistent.indexed idle c.remove.ensures }
