use Rattle.std.proofs.Common.{[], refl, ap}
use Rattle.provider_agent.specs.Setting.{setting_of}
use Rattle.provider_agent.specs.State.{Standing, blank}
use Rattle.shared_provider.specs.Book.{fresh}
use Rattle.shared_provider.proofs.Opening.{fresh_sound}
use Rattle.shared_provider.proofs.Exits.{moved, book_is}
use Rattle.shared_provider.proofs.book.Book.over.Goals as goal

pub invariant_of-result : goal.invariant_of-result
invariant_of-result g c =
    let t = c.args.topology in
    let a = c.args.agent in
    moved _ _ _ _ _ (setting_of t a) _ (fresh t a) _ _ (ap (λ (p : Standing). p.setting) c.in-Ok.ensures) (book_is t a c.in-Ok.provider.state blank c.new-in-Ok.result.items [] 0 0 (ap (λ (p : Standing). p.state) c.in-Ok.ensures) c.new-in-Ok.ensures.items refl)
    (fresh_sound _ _ _ _ _ (setting_of t a) t a _ refl c.requires.within c.requires.provider c.requires.ready c.requires.none (g.met.J.Journal.tells c.args.journal) c.requires.empty (g.met.J.Journal.none_waits c.args.journal c.requires.none) c.requires.counts)
