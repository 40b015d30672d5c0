use Rattle.std.proofs.Common.{refl, subst, sym}
use Rattle.std.proofs.lemmas.List.Elements.{All-get_or}
use Rattle.std.proofs.lemmas.Option.{slice_get_read}
use Rattle.followed_agent.specs.Kept.{IsKept}
use Rattle.trace_verify.proofs.follower.Follower.agent.Goals as goal

pub returns-clause-stands : goal.returns-clause-stands
returns-clause-stands c = slice_get_read c.args.self.now.agents.items _ c.args.place c.index.result.now refl c.requires.within c.index.ensures

pub returns-clause-kept : goal.returns-clause-kept
returns-clause-kept c = subst IsKept (sym c.index.ensures) (All-get_or IsKept c.args.self.now.agents.items c.args.place c.index.result.now c.requires.within c.requires.kept)
