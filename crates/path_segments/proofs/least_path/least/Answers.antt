use Rattle.std.proofs.Common.{length, ◌∙◌, arith, None, refl}
use Rattle.std.proofs.lemmas.List.{get_or_read_under}
use Rattle.stp_topology.specs.Network.{partner_of}
use Rattle.path_segments.specs.Steps.{at, Way}
use Rattle.path_segments.proofs.Least.{follows_chain}
use Rattle.path_segments.proofs.Flat.{exit_within}
use Rattle.path_segments.proofs.Follow.{no_path, none_less}
use Rattle.path_segments.proofs.least_path.least.Goals as goal

pub returns-in_default-index-clause-none : goal.returns-in_default-index-clause-none
returns-in_default-index-clause-none c = λ _ ys h.
    let complete = c.in-Ok.ensures.complete in
    no_path (at c.in-Ok.steps.items) (partner_of c.args.topology.now) (Way c.args.topology.now c.args.depth c.args.children.now) c.args.dest c.args.source complete
    (λ e n. c.in_default-index.not-Some e (get_or_read_under c.in-Ok.steps.items c.args.source (length c.in-Ok.steps.items) c.index.result.now None c.index.ensures (omega (arith, c.requires.source, c.in-Ok.ensures.same_length)) refl ∙ n)) ys h

pub follow-requires-clause-sound : goal.follow-requires-clause-sound
follow-requires-clause-sound c = rw c.deref.ensures.value (λ p e n.
    let s = c.in-Ok.ensures.sound p e n in
    (exit_within c.args.topology.now c.args.depth c.args.children.now e.place p e.exit s.0, s.1))

pub returns-in-Ok-follow-clause-path : goal.returns-in-Ok-follow-clause-path
returns-in-Ok-follow-clause-path c =
    let sound = c.in-Ok.ensures.sound in
    follows_chain (at c.in-Ok.steps.items) (partner_of c.args.topology.now) (Way c.args.topology.now c.args.depth c.args.children.now) c.args.dest sound c.args.source c.in-Ok-follow.segments.items
    (rw c.deref.ensures.value at c.in-Ok-follow.ensures)

pub returns-in-Ok-follow-clause-least : goal.returns-in-Ok-follow-clause-least
returns-in-Ok-follow-clause-least c = λ ys h l.
    let complete = c.in-Ok.ensures.complete in
    none_less (at c.in-Ok.steps.items) (partner_of c.args.topology.now) (Way c.args.topology.now c.args.depth c.args.children.now) c.args.dest c.args.source complete
    c.in-Ok-follow.segments.items (rw c.deref.ensures.value at c.in-Ok-follow.ensures) ys h l
