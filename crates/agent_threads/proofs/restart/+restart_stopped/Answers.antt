use Rattle.std.proofs.Common.{◌≡◌, ◌++◌, [], ◌∷◌, ◌∙◌, List, Option, option_to_list, rules, refl, sym, ap, subst, arith}
use Rattle.std.proofs.lemmas.Result.{on_ok_weaker}
use Rattle.agent_node.specs.Kept.{Kept}
use Rattle.agent_threads.specs.Nets.{EachIs, AreListed}
use Rattle.agent_threads.specs.Stopping.{MayAllGoOn, RestartsStopped}
use Rattle.agent_threads.specs.Made.{counted}
use Rattle.agent_threads.proofs.Restarting.{listed_front, listed_last}
use Rattle.agent_threads.proofs.Left.{left_more, left_none, left_again, left_twice}
use Rattle.agent_threads.proofs.Reopening.{going_front, going_last, has_stopped, stays_behind, goes_behind, few_again, few_more, shelf_again, cause_again, cause_front}
use Rattle.agent_threads.proofs.restart.+restart_stopped.Goals as goal

pub restart_stopped-requires : goal.restart_stopped-requires
restart_stopped-requires g t c κs within =
    let ks = c.pop.new.self.items in
    let k = c.in-Some.last in (
      omega (arith, c.in-Some.ensures.len),
      (
        within.0,
        (
          within.1,
          (
            going_front ks k (subst MayAllGoOn c.in-Some.ensures.items c.requires.going),
            listed_front (g.B.Reopen.listed c.args.shelf.now) ks k (subst (AreListed (g.B.Reopen.listed c.args.shelf.now)) c.in-Some.ensures.items c.requires.listed),
          ),
        ),
      ),
    )

pub restart_one-requires-clause-going : goal.restart_one-requires-clause-going
restart_one-requires-clause-going g t c = going_last c.pop.new.self.items c.in-Some.last (subst MayAllGoOn c.in-Some.ensures.items c.requires.going)

pub restart_one-requires-clause-listed : goal.restart_one-requires-clause-listed
restart_one-requires-clause-listed g t c =
    c.restart_stopped.ensures.stays _ (listed_last (g.B.Reopen.listed c.args.shelf.now) c.pop.new.self.items c.in-Some.last (subst (AreListed (g.B.Reopen.listed c.args.shelf.now)) c.in-Some.ensures.items c.requires.listed))

pub returns-in_default-clause-done : goal.returns-in_default-clause-done
returns-in_default-clause-done g t c =
    let now : c.pop.new.self.items ≡ [] = search rules in
    let was : c.args.nodes.now.items ≡ [] = c.pop.ensures.items ∙ (ap (λ (ks : List Kept). ks ++ option_to_list c.pop.result) now ∙ ap (λ (o : Option Kept). option_to_list o) c.in_default.is) in
    subst (λ (ks : List Kept). EachIs RestartsStopped ks c.pop.new.self.items) (sym was) (subst (λ (ks : List Kept). EachIs RestartsStopped [] ks) (sym now) tt)

pub returns-in-Err-clause-agents : goal.returns-in-Err-clause-agents
returns-in-Err-clause-agents g t c =
    left_more c.pop.new.self.items c.restart_stopped.new.nodes.items c.in-Some.last c.args.nodes.now.items c.push_reserved.new.self.items _ _ c.in-Some.ensures.items c.push_reserved.ensures.items c.restart_stopped.ensures.agents

pub returns-in-Err-clause-few : goal.returns-in-Err-clause-few
returns-in-Err-clause-few g t c =
    few_more c.pop.new.self.items c.restart_stopped.new.nodes.items c.in-Some.last c.args.nodes.now.items c.push_reserved.new.self.items c.in-Some.ensures.items c.push_reserved.ensures.items c.restart_stopped.ensures.few

pub returns-in-Err-clause-cause : goal.returns-in-Err-clause-cause
returns-in-Err-clause-cause g t c =
    let before = counted (g.B.Reopen.faults c.args.shelf.now) (g.B.Reopen.stops c.args.shelf.now) in
    let after = counted (g.B.Reopen.faults c.restart_stopped.new.shelf) (g.B.Reopen.stops c.restart_stopped.new.shelf) in
    cause_front c.pop.new.self.items c.in-Some.last c.args.nodes.now.items before after c.in-Err.fault c.in-Some.ensures.items c.in-Err.ensures.cause

pub returns-then-has_stopped-clause-done : goal.returns-then-has_stopped-clause-done
returns-then-has_stopped-clause-done g t c =
    let ks = c.pop.new.self.items in
    let ms = c.restart_stopped.new.nodes.items in
    let k = c.in-Some.last in
    let e = c.in-Some.ensures.items in
    let stopped = has_stopped k (going_last ks k (subst MayAllGoOn e c.requires.going)) (sym c.has_stopped.ensures ∙ c.if-has_stopped.true) in
    on_ok_weaker c.restart_one.result (goes_behind ks ms k c.args.nodes.now.items c.restart_one.new.nodes.items e stopped c.in-Ok.ensures.done) (c.restart_one.ensures.again stopped)

pub returns-then-has_stopped-clause-agents : goal.returns-then-has_stopped-clause-agents
returns-then-has_stopped-clause-agents g t c =
    let ks = c.pop.new.self.items in
    let k = c.in-Some.last in
    let e = c.in-Some.ensures.items in
    let stopped = has_stopped k (going_last ks k (subst MayAllGoOn e c.requires.going)) (sym c.has_stopped.ensures ∙ c.if-has_stopped.true) in
    let ms = c.restart_stopped.new.nodes.items in
    let before = counted (g.B.Reopen.faults c.args.shelf.now) (g.B.Reopen.stops c.args.shelf.now) in
    let mid = counted (g.B.Reopen.faults c.restart_stopped.new.shelf) (g.B.Reopen.stops c.restart_stopped.new.shelf) in
    let after = counted (g.B.Reopen.faults c.restart_one.new.shelf) (g.B.Reopen.stops c.restart_one.new.shelf) in
    left_twice c.args.nodes.now.items (ms ++ k ∷ []) c.restart_one.new.nodes.items before mid after (left_more ks ms k c.args.nodes.now.items (ms ++ k ∷ []) before mid e refl c.restart_stopped.ensures.agents)
    (left_again c.restart_one.result ms k (ms ++ k ∷ []) c.restart_one.new.nodes.items mid after refl c.restart_one.ensures.shelf.calm (c.restart_one.ensures.again stopped) c.restart_one.ensures.failed)

pub returns-then-has_stopped-clause-few : goal.returns-then-has_stopped-clause-few
returns-then-has_stopped-clause-few g t c =
    let ks = c.pop.new.self.items in
    let k = c.in-Some.last in
    let e = c.in-Some.ensures.items in
    let stopped = has_stopped k (going_last ks k (subst MayAllGoOn e c.requires.going)) (sym c.has_stopped.ensures ∙ c.if-has_stopped.true) in
    few_again c.restart_one.result ks c.restart_stopped.new.nodes.items k c.args.nodes.now.items c.restart_one.new.nodes.items (counted (g.B.Reopen.faults c.restart_stopped.new.shelf) (g.B.Reopen.stops c.restart_stopped.new.shelf)) (counted (g.B.Reopen.faults c.restart_one.new.shelf) (g.B.Reopen.stops c.restart_one.new.shelf)) e c.restart_stopped.ensures.few (c.restart_one.ensures.again stopped) c.restart_one.ensures.failed

pub returns-then-has_stopped-clause-shelf : goal.returns-then-has_stopped-clause-shelf
returns-then-has_stopped-clause-shelf g t c =
    let before = counted (g.B.Reopen.faults c.args.shelf.now) (g.B.Reopen.stops c.args.shelf.now) in
    let mid = counted (g.B.Reopen.faults c.restart_stopped.new.shelf) (g.B.Reopen.stops c.restart_stopped.new.shelf) in
    let after = counted (g.B.Reopen.faults c.restart_one.new.shelf) (g.B.Reopen.stops c.restart_one.new.shelf) in
    shelf_again c.restart_one.result before mid after c.in-Ok.ensures.shelf.quiet c.in-Ok.ensures.shelf.calm c.restart_one.ensures.shelf

pub returns-then-has_stopped-clause-cause : goal.returns-then-has_stopped-clause-cause
returns-then-has_stopped-clause-cause g t c =
    let before = counted (g.B.Reopen.faults c.args.shelf.now) (g.B.Reopen.stops c.args.shelf.now) in
    let mid = counted (g.B.Reopen.faults c.restart_stopped.new.shelf) (g.B.Reopen.stops c.restart_stopped.new.shelf) in
    let after = counted (g.B.Reopen.faults c.restart_one.new.shelf) (g.B.Reopen.stops c.restart_one.new.shelf) in
    cause_again c.restart_one.result c.pop.new.self.items c.in-Some.last c.args.nodes.now.items before mid after c.in-Some.ensures.items c.in-Ok.ensures.shelf.quiet c.in-Ok.ensures.shelf.calm c.restart_one.ensures.cause

pub returns-clause-done : goal.returns-clause-done
returns-clause-done g t c =
    let e = c.in-Some.ensures.items in
    stays_behind c.pop.new.self.items c.restart_stopped.new.nodes.items c.in-Some.last c.args.nodes.now.items c.push_reserved-2.new.self.items e c.push_reserved-2.ensures.items c.requires.going (sym c.has_stopped.ensures ∙ c.if-has_stopped.false) c.in-Ok.ensures.done

pub returns-clause-agents : goal.returns-clause-agents
returns-clause-agents g t c =
    left_more c.pop.new.self.items c.restart_stopped.new.nodes.items c.in-Some.last c.args.nodes.now.items c.push_reserved-2.new.self.items _ _ c.in-Some.ensures.items c.push_reserved-2.ensures.items c.restart_stopped.ensures.agents

pub returns-clause-few : goal.returns-clause-few
returns-clause-few g t c =
    few_more c.pop.new.self.items c.restart_stopped.new.nodes.items c.in-Some.last c.args.nodes.now.items c.push_reserved-2.new.self.items c.in-Some.ensures.items c.push_reserved-2.ensures.items c.restart_stopped.ensures.few

pub returns-in_default-clause-agents : goal.returns-in_default-clause-agents
returns-in_default-clause-agents g t c =
    let now : c.pop.new.self.items ≡ [] = search rules in
    left_none c.args.nodes.now.items c.pop.new.self.items (counted (g.B.Reopen.faults c.args.shelf.now) (g.B.Reopen.stops c.args.shelf.now)) (counted (g.B.Reopen.faults c.args.shelf.now) (g.B.Reopen.stops c.args.shelf.now)) (c.pop.ensures.items ∙ (ap (λ (ks : List Kept). ks ++ option_to_list c.pop.result) now ∙ ap (λ (o : Option Kept). option_to_list o) c.in_default.is)) now refl
