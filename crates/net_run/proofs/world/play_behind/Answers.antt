use Rattle.std.proofs.Common.{rules, ◌≡◌, ◌∙◌, ℕ, List, length, sym, ap, subst, arith}
use Rattle.std.specs.List.{All}
use Rattle.nsi_primitive.specs.declared.entry.Event.{Event}
use Rattle.run_totals.specs.Totals.{IsOf, plus, totals_of}
use Rattle.agent_threads.specs.Made.{counted}
use Rattle.agent_threads.specs.Promise.{WritesPlay, WritesTooLong, WritesGroups, WritesSomeOfPlay}
use Rattle.net_run.specs.Begun.{restarts_from}
use Rattle.net_run.proofs.Remaking.{from_each}
use Rattle.net_run.proofs.Telling.{untold_behind, lessened, done_behind, long_behind, some_behind, groups_behind}
use Rattle.net_run.proofs.world.play_behind.Goals as goal

pub returns-in-Err-clause-behind : goal.returns-in-Err-clause-behind
returns-in-Err-clause-behind g c =
    let is = c.in-Err.is in
    untold_behind c.args.play.now.topology.now c.args.play.now.options (restarts_from 0 c.args.tries.now) c.args.play.now.groups.now c.args.nodes.now.items (counted (g.B.Reopen.faults c.args.shelf.now) (g.B.Reopen.stops c.args.shelf.now))
    (g.K.Sink.content c.args.out.now) (g.K.Sink.content c.tell_restarts.new.out) (g.K.Sink.faults c.args.out.now) (g.K.Sink.faults c.tell_restarts.new.out) c.in-Err.fault c.in-Err.ensures.front (λ q. c.in-Err.ensures.long (cc)) c.in-Err.ensures.cause
    (λ q. c.in-Err.ensures.write (cc)) (λ q. c.in-Err.ensures.quiet (λ r. q (cc)))

pub and_more-requires-clause-agents : goal.and_more-requires-clause-agents
and_more-requires-clause-agents g c =
    let t = c.args.play.now.topology.now in
    let tries = c.args.tries.now in
    let same : c.deref.result.now ≡ restarts_from 0 tries = search rules in
    let all = c.requires.tries in
    subst (λ (es : List Event). All (IsOf t) es) (sym same) (from_each (IsOf t) (length t.agents) 0 tries (omega (arith, all)) (λ n h. h))

pub returns-in-Ok-play_all-clause-behind : goal.returns-in-Ok-play_all-clause-behind
returns-in-Ok-play_all-clause-behind g c =
    let t = c.args.play.now.topology.now in
    let o = c.args.play.now.options in
    let gs = c.args.play.now.groups.now in
    let made = restarts_from 0 c.args.tries.now in
    let ks = c.args.nodes.now.items in
    let ls = c.play_all.new.nodes.items in
    let before = counted (g.B.Reopen.faults c.args.shelf.now) (g.B.Reopen.stops c.args.shelf.now) in
    let after = counted (g.B.Reopen.faults c.play_all.new.shelf) (g.B.Reopen.stops c.play_all.new.shelf) in
    let old = g.K.Sink.content c.args.out.now in
    let mid = g.K.Sink.content c.tell_restarts.new.out in
    let new = g.K.Sink.content c.play_all.new.out in
    let own = c.in-Ok-play_all.own in
    let is = c.in-Ok-play_all.is in
    let told = c.in-Ok.is in
    let same : c.deref.result.now ≡ made = search rules in
    let size : c.len.result ≡ length made = search (rules, ap length c.in-Ok.ensures.made) in
    let done = subst (λ (n : ℕ). WritesPlay t (lessened o n) gs ks ls mid new own) size c.in-Ok-play_all.ensures.done in
    let totals : c.and_more.result ≡ plus own (totals_of t made) = c.and_more.ensures.totals ∙ ap (λ (es : List Event). plus own (totals_of t es)) same in
    let shelf = c.in-Ok-play_all.ensures.shelf in
    record {
      done = done_behind t o made gs ks ls before after old mid new c.in-Ok.ensures.few c.in-Ok.ensures.all own c.and_more.result done totals;
      long = λ q. absurd (cc);
      front = tt;
      whole = tt;
      cause = tt;
      write = λ q. absurd (cc);
      quiet = λ q. c.in-Ok-play_all.ensures.quiet (λ r. absurd (cc)) ∙ c.in-Ok.ensures.quiet (λ r. absurd (cc));
      same = c.in-Ok-play_all.ensures.same;
      calm = c.in-Ok-play_all.ensures.calm;
      shelf = record { faults = shelf.faults; stops = shelf.stops; quiet = shelf.quiet; calm = shelf.calm };
      level = λ q. absurd (cc);
      agents = c.play_all.ensures.agents;
      usable = c.in-Ok-play_all.ensures.usable;
      owned = c.in-Ok-play_all.ensures.owned;
    }

pub returns-clause-behind : goal.returns-clause-behind
returns-clause-behind g c =
    let t = c.args.play.now.topology.now in
    let o = c.args.play.now.options in
    let gs = c.args.play.now.groups.now in
    let made = restarts_from 0 c.args.tries.now in
    let ks = c.args.nodes.now.items in
    let ls = c.play_all.new.nodes.items in
    let before = counted (g.B.Reopen.faults c.args.shelf.now) (g.B.Reopen.stops c.args.shelf.now) in
    let after = counted (g.B.Reopen.faults c.play_all.new.shelf) (g.B.Reopen.stops c.play_all.new.shelf) in
    let old = g.K.Sink.content c.args.out.now in
    let mid = g.K.Sink.content c.tell_restarts.new.out in
    let new = g.K.Sink.content c.play_all.new.out in
    let fault = c.in-Err-play_all.fault in
    let is = c.in-Err-play_all.is in
    let told = c.in-Ok.is in
    let size : c.len.result ≡ length made = search (rules, ap length c.in-Ok.ensures.made) in
    let few = c.in-Ok.ensures.few in
    let all = c.in-Ok.ensures.all in
    let left = c.play_all.ensures.agents in
    let shelf = c.in-Err-play_all.ensures.shelf in
    let still : g.K.Sink.faults c.tell_restarts.new.out ≡ g.K.Sink.faults c.args.out.now = c.in-Ok.ensures.quiet (λ r. absurd (cc)) in
    record {
      done = tt;
      long = λ q. long_behind t o made gs ks ls before after old mid new few all (subst (λ (n : ℕ). WritesTooLong t (lessened o n) gs ks ls mid new) size (c.in-Err-play_all.ensures.long (cc)));
      front = some_behind t o made gs ks ls before after old mid new few all left (subst (λ (n : ℕ). WritesSomeOfPlay t (lessened o n) gs ks ls before after mid new) size c.in-Err-play_all.ensures.front);
      whole = λ of. groups_behind t o made gs ks ls before after old mid new few all left (subst (λ (n : ℕ). WritesGroups t (lessened o n) gs ks ls before after mid new) size (c.in-Err-play_all.ensures.whole of));
      cause = c.in-Err-play_all.ensures.cause;
      write = λ q. let over = c.in-Err-play_all.ensures.write (cc) in omega (arith, over, still);
      quiet = λ q. c.in-Err-play_all.ensures.quiet (λ r. q (cc)) ∙ still;
      same = tt;
      calm = tt;
      shelf = record { faults = shelf.faults; stops = shelf.stops; quiet = tt; calm = tt };
      level = λ q. record { still = c.in-Err-play_all.ensures.level (cc); rises = c.in-Err-play_all.ensures.rises (cc) };
      agents = left;
      usable = tt;
      owned = tt;
    }
