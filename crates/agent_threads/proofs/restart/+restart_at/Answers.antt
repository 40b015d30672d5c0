use Rattle.std.proofs.Common.{◌≡◌, ◌++◌, ◌∷◌, [], ◌∙◌, List, Option, option_to_list, rules, inl, refl, sym, ap, subst, arith}
use Rattle.std.proofs.lemmas.Bool.Decides.{nat_tests}
use Rattle.std.proofs.lemmas.Result.{on_ok_weaker, IfErr-weaker}
use Rattle.nsi_script.specs.declared.script.Act.{Act}
use Rattle.agent_node.specs.Kept.{Kept}
use Rattle.agent_threads.specs.Nets.{seats, EachIs, AreUsable, AreApart, AreListed}
use Rattle.agent_threads.specs.Made.{RestartsAt, counted, HasRestartCause, HasRunCause}
use Rattle.agent_threads.proofs.Restarting.{last_restarted, front_restarted, few_either, restart_cause, front_cause, usable_front, usable_last, listed_front, listed_last}
use Rattle.agent_threads.proofs.Left.{left_more, left_none, left_restarted}
use Rattle.agent_threads.proofs.Wires.{apart_front, apart_last}
use Rattle.agent_threads.proofs.restart.+restart_at.Goals as goal

pub restart_one-requires-clause-going : goal.restart_one-requires-clause-going
restart_one-requires-clause-going g t c = inl (usable_last c.pop.new.self.items c.in-Some.last (subst AreUsable c.in-Some.ensures.items c.requires.usable))

pub restart_one-requires-clause-listed : goal.restart_one-requires-clause-listed
restart_one-requires-clause-listed g t c = listed_last (g.B.Reopen.listed c.args.shelf.now) c.pop.new.self.items c.in-Some.last (subst (AreListed (g.B.Reopen.listed c.args.shelf.now)) c.in-Some.ensures.items c.requires.listed)

pub restart_at-done-requires : goal.restart_at-done-requires
restart_at-done-requires g t c κs within =
    let ks = c.pop.new.self.items in
    let k = c.in-Some.last in (
      omega (arith, c.in-Some.ensures.len),
      (
        within.0,
        (
          within.1,
          (
            usable_front ks k (subst AreUsable c.in-Some.ensures.items c.requires.usable),
            (
              apart_front ks k (subst (λ (xs : List Kept). AreApart (seats xs)) c.in-Some.ensures.items c.requires.apart),
              listed_front (g.B.Reopen.listed c.args.shelf.now) ks k (subst (AreListed (g.B.Reopen.listed c.args.shelf.now)) c.in-Some.ensures.items c.requires.listed),
            ),
          ),
        ),
      ),
    )

pub returns-then-eq-clause-done : goal.returns-then-eq-clause-done
returns-then-eq-clause-done g t c =
    let ks = c.pop.new.self.items in
    let k = c.in-Some.last in
    let e = c.in-Some.ensures.items in
    let absent = apart_last ks k (subst (λ (xs : List Kept). AreApart (seats xs)) e c.requires.apart) in
    let usable = usable_last ks k (subst AreUsable e c.requires.usable) in
    on_ok_weaker c.restart_one.result (last_restarted c.args.agent ks k c.args.nodes.now.items c.restart_one.new.nodes.items e (grind (arith, nat_tests, c.number.ensures, c.eq.ensures, c.if-eq.true)) absent c.requires.usable) (c.restart_one.ensures.done usable)

pub returns-then-eq-clause-agents : goal.returns-then-eq-clause-agents
returns-then-eq-clause-agents g t c =
    let usable = usable_last c.pop.new.self.items c.in-Some.last (subst AreUsable c.in-Some.ensures.items c.requires.usable) in
    let before = counted (g.B.Reopen.faults c.args.shelf.now) (g.B.Reopen.stops c.args.shelf.now) in
    let after = counted (g.B.Reopen.faults c.restart_one.new.shelf) (g.B.Reopen.stops c.restart_one.new.shelf) in
    left_restarted c.restart_one.result c.pop.new.self.items c.in-Some.last c.args.nodes.now.items c.restart_one.new.nodes.items before after c.in-Some.ensures.items c.restart_one.ensures.shelf.calm (c.restart_one.ensures.done usable) c.restart_one.ensures.failed

pub returns-then-eq-clause-few : goal.returns-then-eq-clause-few
returns-then-eq-clause-few g t c =
    let usable = usable_last c.pop.new.self.items c.in-Some.last (subst AreUsable c.in-Some.ensures.items c.requires.usable) in
    few_either c.restart_one.result c.pop.new.self.items c.in-Some.last c.args.nodes.now.items c.restart_one.new.nodes.items (counted (g.B.Reopen.faults c.args.shelf.now) (g.B.Reopen.stops c.args.shelf.now)) (counted (g.B.Reopen.faults c.restart_one.new.shelf) (g.B.Reopen.stops c.restart_one.new.shelf)) c.in-Some.ensures.items (c.restart_one.ensures.done usable) c.restart_one.ensures.failed

pub returns-then-eq-clause-cause : goal.returns-then-eq-clause-cause
returns-then-eq-clause-cause g t c =
    let olds = c.args.nodes.now.items in
    let news = c.restart_one.new.nodes.items in
    let k = c.in-Some.last in
    let usable = usable_last c.pop.new.self.items k (subst AreUsable c.in-Some.ensures.items c.requires.usable) in
    let before = counted (g.B.Reopen.faults c.args.shelf.now) (g.B.Reopen.stops c.args.shelf.now) in
    let after = counted (g.B.Reopen.faults c.restart_one.new.shelf) (g.B.Reopen.stops c.restart_one.new.shelf) in
    IfErr-weaker c.restart_one.result (HasRestartCause k before after) (HasRunCause (Act.Restart c.args.agent ∷ []) olds news before after)
    (λ e h. restart_cause c.args.agent c.pop.new.self.items k olds news before after e c.in-Some.ensures.items usable h) c.restart_one.ensures.cause

pub returns-clause-done : goal.returns-clause-done
returns-clause-done g t c =
    let ks = c.pop.new.self.items in
    let ms = c.restart_at-done.new.nodes.items in
    on_ok_weaker c.restart_at-done.result
    (front_restarted c.args.agent ks ms c.in-Some.last c.args.nodes.now.items c.push_reserved.new.self.items c.in-Some.ensures.items c.push_reserved.ensures.items (λ q. grind (arith, nat_tests, q, c.number.ensures, c.eq.ensures, c.if-eq.false)) c.requires.usable)
    c.restart_at-done.ensures.done

pub returns-clause-agents : goal.returns-clause-agents
returns-clause-agents g t c = left_more c.pop.new.self.items c.restart_at-done.new.nodes.items c.in-Some.last c.args.nodes.now.items c.push_reserved.new.self.items _ _ c.in-Some.ensures.items c.push_reserved.ensures.items c.restart_at-done.ensures.agents

pub returns-clause-cause : goal.returns-clause-cause
returns-clause-cause g t c =
    let olds = c.args.nodes.now.items in
    let news = c.push_reserved.new.self.items in
    let ks = c.pop.new.self.items in
    let ms = c.restart_at-done.new.nodes.items in
    let k = c.in-Some.last in
    let acts = Act.Restart c.args.agent ∷ [] in
    let before = counted (g.B.Reopen.faults c.args.shelf.now) (g.B.Reopen.stops c.args.shelf.now) in
    let after = counted (g.B.Reopen.faults c.restart_at-done.new.shelf) (g.B.Reopen.stops c.restart_at-done.new.shelf) in
    IfErr-weaker c.restart_at-done.result (HasRunCause acts ks ms before after) (HasRunCause acts olds news before after)
    (λ e h. front_cause c.args.agent ks ms k olds news before after e c.in-Some.ensures.items c.push_reserved.ensures.items h) c.restart_at-done.ensures.cause

pub returns-in_default-clause-done : goal.returns-in_default-clause-done
returns-in_default-clause-done g t c =
    let now : c.pop.new.self.items ≡ [] = search rules in
    let was : c.args.nodes.now.items ≡ [] = c.pop.ensures.items ∙ (ap (λ (ks : List Kept). ks ++ option_to_list c.pop.result) now ∙ ap (λ (o : Option Kept). option_to_list o) c.in_default.is) in
    subst (λ (ks : List Kept). EachIs (RestartsAt c.args.agent) ks c.pop.new.self.items) (sym was) (subst (λ (ks : List Kept). EachIs (RestartsAt c.args.agent) [] ks) (sym now) tt)

pub returns-in_default-clause-agents : goal.returns-in_default-clause-agents
returns-in_default-clause-agents g t c =
    let now : c.pop.new.self.items ≡ [] = search rules in
    left_none c.args.nodes.now.items c.pop.new.self.items (counted (g.B.Reopen.faults c.args.shelf.now) (g.B.Reopen.stops c.args.shelf.now)) (counted (g.B.Reopen.faults c.args.shelf.now) (g.B.Reopen.stops c.args.shelf.now)) (c.pop.ensures.items ∙ (ap (λ (ks : List Kept). ks ++ option_to_list c.pop.result) now ∙ ap (λ (o : Option Kept). option_to_list o) c.in_default.is)) now refl
