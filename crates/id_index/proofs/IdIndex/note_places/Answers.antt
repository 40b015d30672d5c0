use Rattle.id_index.proofs.Found.{noted_by}
use Rattle.id_index.proofs.IdIndex.note_places.Goals as goal

pub returns : goal.returns
returns c p =
    rw (← c.self.view_is) (noted_by c.args.id c.new.result.start c.new.result.end c.new.ensures.start c.new.ensures.end c.self.inside.entries.keys c.range.result c.args.places.now.items c.note_all.new.places.items
    (c.range.ensures.between c.new.ensures.exhausted) c.in_ok-note_all.ensures c.self.invariant p)
