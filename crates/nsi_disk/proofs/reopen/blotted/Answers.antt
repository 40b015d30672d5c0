use Rattle.std.proofs.Common.{List, ap, sym, ◌∙◌}
use Rattle.nsi_disk.specs.Again.{blotted}
use Rattle.nsi_disk.specs.declared.content.Past.{Past}
use Rattle.nsi_disk.proofs.Undone.{blotted_push}
use Rattle.nsi_disk.proofs.reopen.blotted.Goals as goal

pub loop-past-preserved : goal.loop-past-preserved
loop-past-preserved c =
    ap (blotted c.pop.new.self.items) c.in_ok-bytes.ensures
    ∙ sym (blotted_push c.pop.new.self.items c.in-Some.past c.loop-past.bytes.items)
    ∙ sym (ap (λ (x : List Past). blotted x c.loop-past.bytes.items) c.in-Some.ensures.items)
    ∙ c.loop-past.invariant
