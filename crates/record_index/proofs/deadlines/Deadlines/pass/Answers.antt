use Rattle.record_index.proofs.deadlines.Deadlines.pass.Goals as goal

pub returns : goal.returns
returns c d = rw (← c.self.view_is, ← c.get.ensures.value) (c.drop_by.ensures.left d)
