use Rattle.std.proofs.Common.{◌∙◌, ap}
use Rattle.message_retry.specs.Names.{place_of}
use Rattle.message_retry.proofs.NameLemmas.{place_texts}
use Rattle.message_retry.proofs.names.Names.place.Goals as goal

pub returns : goal.returns
returns c = record { place = c.get_index_of.ensures.index ∙ place_texts c.args.name.now c.self.inside.names.keys ∙ ap (λ names. place_of names c.args.name.now) c.self.view_is }
