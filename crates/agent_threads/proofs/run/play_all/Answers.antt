use Rattle.std.proofs.Common.{ℕ, ◌≡◌, ◌<◌, ◌≤◌, ◌+◌, ◌++◌, ◌∙◌, inl, sym, refl, ap, subst, arith, length, get_or, [], List, take, Err}
use Rattle.std.proofs.lemmas.List.{take_all}
use Rattle.std.proofs.lemmas.Result.{err_from_is_err_and}
use Rattle.nsi_outside.specs.Stream.{WritesAll, WritesFront}
use Rattle.nsi_agent.specs.Homes.{home_in}
use Rattle.agent_threads.specs.Reports.{written}
use Rattle.nsi_script.specs.declared.script.Group.{Group}
use Rattle.nsi_play.specs.Play.{asks_among}
use Rattle.agent_threads.specs.declared.fault.RunFault.{RunFault}
use Rattle.agent_threads.specs.Made.{HasSettleCause, IsOfAgent, counted}
use Rattle.agent_threads.specs.Nets.{seats_by}
use Rattle.agent_threads.specs.Stopping.{stops_among, more_stops, NoneStopped, ArePlayed, IsOver, Passes}
use Rattle.agent_threads.specs.Promise.{AllCanBeDone, Shows, AtShown}
use Rattle.agent_threads.proofs.Same.{all_same, still_of, same_twice, stops_up, are_calm}
use Rattle.agent_threads.proofs.Stepping.{numbers_by}
use Rattle.agent_threads.proofs.Coming.{asks_later}
use Rattle.agent_threads.proofs.Playing.{are_played_none, all_played, none_split, none_front, same_split, rises_behind}
use Rattle.agent_threads.proofs.Told.{shows_at, on_err, how_many, more_totals, writes_none, writes_more, script_passes, front_passes, group_more, front_of_play, some_of_groups, some_of_play, can_at}
use Rattle.agent_threads.proofs.Causes.{same_error, if_err, write_settle, not_long, no_agent, if_writing, settle_before, shelf_failed, shelf_still, listed_same, listed_stays}
use Rattle.agent_threads.proofs.Left.{left_same, left_twice, none_later}
use Rattle.agent_threads.proofs.Owning.{still_seen}
use Rattle.agent_threads.specs.Bounds.{AreUpTo, AreUnder}
use Rattle.nsi_script.specs.Scripts.{acts_of}
use Rattle.std.specs.List.{All}
use Rattle.agent_threads.proofs.Going.{up_to_later, still_numbered, rising_at}
use Rattle.agent_threads.proofs.run.play_all.Goals as goal

pub loop-group-init : goal.loop-group-init
loop-group-init g c = record {
  way = ([], (λ t o routes r b v shows. are_played_none (home_in t routes) b _ _ (seats_by b c.args.nodes.now.items)), c.none.ensures.totals c.args.play.now.topology.now, writes_none c.args.play.now.options.report c.args.play.now.topology.now (g.K.Sink.content c.args.out.now));
  net = c.requires.net;
  same = all_same c.args.nodes.now.items;
  owned = λ t o routes r w. w;
  bounded = c.requires.ready.bounded;
  stays = λ n h. h;
  faults = refl;
  stops = refl;
  told = λ none. none;
  few = subst (λ (n : ℕ). AreUnder n c.args.nodes.now.items) (sym (how_many (c.none.ensures.totals c.args.play.now.topology.now))) c.requires.ready.none;
  asks = omega arith;
  clocks = λ d h. up_to_later 0 (get_or c.args.play.now.groups.now 0 d).at c.args.nodes.now.items (omega arith) c.requires.ready.clocks;
  within = omega (arith, how_many (c.none.ensures.totals c.args.play.now.topology.now));
  counts = c.none.ensures.within;
  counted = refl;
}

pub play_group-requires-clause-can : goal.play_group-requires-clause-can
play_group-requires-clause-can g c κs within =
    let l = c.loop-group in
    let h : l.group-index < length c.args.play.now.groups.now = omega (arith, c.loop-group-test.true) in
    record {
      network = c.args.play.now.topology.now;
      of = still_of c.args.play.now.topology.now c.args.nodes.now.items l.nodes.items l.invariant.same c.requires.of;
      can = subst (λ (z : Group). AllCanBeDone c.args.play.now.topology.now z.acts) (sym c.group-item.is) (can_at c.args.play.now.topology.now c.args.play.now.groups.now l.group-index c.group-item.result h c.requires.can);
    }

pub play_group-requires-clause-asks : goal.play_group-requires-clause-asks
play_group-requires-clause-asks g c κs within =
    let l = c.loop-group in
    let h : l.group-index < length c.args.play.now.groups.now = omega (arith, c.loop-group-test.true) in
    let d = c.group-item.result in
    omega (arith, ap (λ (z : Group). asks_among z.acts) c.group-item.is, asks_later c.args.play.now.groups.now l.group-index d h, l.invariant.asks, c.requires.asks)

pub play_group-requires-clause-numbers : goal.play_group-requires-clause-numbers
play_group-requires-clause-numbers g c κs within = still_numbered c.args.play.now.topology.now c.args.nodes.now.items c.loop-group.nodes.items c.loop-group.invariant.same c.requires.ready.numbers

pub play_group-requires-clause-told : goal.play_group-requires-clause-told
play_group-requires-clause-told g c κs within = c.loop-group.invariant.told c.requires.ready.told

pub play_group-requires-clause-later : goal.play_group-requires-clause-later
play_group-requires-clause-later g c κs within =
    let l = c.loop-group in
    let h : l.group-index < length c.args.play.now.groups.now = omega (arith, c.loop-group-test.true) in
    subst (λ (z : Group). AreUpTo z.at l.nodes.items) (sym c.group-item.is) (l.invariant.clocks c.group-item.result h)

pub play_group-requires-clause-bounded : goal.play_group-requires-clause-bounded
play_group-requires-clause-bounded g c κs within = c.loop-group.invariant.bounded

pub play_group-requires-clause-listed : goal.play_group-requires-clause-listed
play_group-requires-clause-listed g c κs within =
    let l = c.loop-group in
    listed_stays (g.B.Reopen.listed c.args.shelf.now) (g.B.Reopen.listed l.shelf) l.invariant.stays l.nodes.items (listed_same (g.B.Reopen.listed c.args.shelf.now) c.args.nodes.now.items l.nodes.items l.invariant.same c.requires.listed)

pub loop-group-preserved : goal.loop-group-preserved
loop-group-preserved g c =
    let l = c.loop-group in
    let w = l.invariant.way in
    let u = c.in_ok-text.ensures.ok in
    let d = c.group-item.result in
    let olds = c.args.nodes.now.items in
    let mids = l.nodes.items in
    let news = c.play_group.new.nodes.items in
    let h : l.group-index < length c.args.play.now.groups.now = omega (arith, c.loop-group-test.true) in
    let next = c.in_ok-text.ensures.next ∙ ap (λ (z : Group). l.progress.asks + asks_among z.acts) c.group-item.is in
    let wrote : WritesAll (g.K.Sink.content l.out) (g.K.Sink.content c.write_text.new.out) (written c.args.play.now.options.report c.args.play.now.topology.now u.0) =
    subst (λ (bytes : List ℕ). WritesAll (g.K.Sink.content l.out) (g.K.Sink.content c.write_text.new.out) bytes) (c.deref.ensures.value ∙ u.3) c.in_ok-write_text.ensures.all in
    record {
      way = (
        w.0 ++ u.0,
        (λ t o routes r b v shows.
            let now = still_of t olds mids l.invariant.same o in
            let seen = still_seen t olds mids l.invariant.owned o routes r b v in
            let shown = subst (λ (z : Group). All (Shows b) z.acts) (sym c.group-item.is) (shows_at b c.args.play.now.groups.now l.group-index d h shows) in
            let Calm : Type 0 = NoneStopped olds mids [] w.0 in
            let Here : Type 0 = NoneStopped mids news [] u.0 in
            let Later : Type 0 = NoneStopped olds news [] (w.0 ++ u.0) in
            subst (λ n. ArePlayed (home_in t routes) b Later (more_stops olds news) (take (l.group-index + 1) c.args.play.now.groups.now) (seats_by b olds) (w.0 ++ u.0) n (seats_by b news)) (sym next)
            (group_more (home_in t routes) b Calm Here Later (more_stops olds mids) (more_stops mids news) (more_stops olds news) (none_split olds mids news w.0 u.0 l.invariant.same c.in_ok-text.ensures.same)
            (let a = stops_up olds mids l.invariant.same in let e = stops_up mids news c.in_ok-text.ensures.same in omega (arith, a, e)) c.args.play.now.groups.now l.group-index d (seats_by b olds) w.0 l.progress.asks (seats_by b mids) u.0 (seats_by b news) h
            (numbers_by b olds mids l.invariant.same) (w.1 t o routes r b v shows)
            (subst (λ (z : Group). IsOver (home_in t routes) b Here (more_stops mids news) z l.progress.asks (seats_by b mids) u.0 (seats_by b news)) c.group-item.is (u.2 t now routes r b seen shown)))),
        more_totals c.args.play.now.topology.now w.0 u.0 l.progress.totals _ w.2 u.1,
        writes_more c.args.play.now.options.report c.args.play.now.topology.now w.0 u.0 (g.K.Sink.content c.args.out.now) (g.K.Sink.content l.out) (g.K.Sink.content c.write_text.new.out) w.3 wrote,
      );
      net = c.in_ok-text.ensures.net;
      same = same_twice c.args.nodes.now.items l.nodes.items c.play_group.new.nodes.items l.invariant.same c.in_ok-text.ensures.same;
      owned = λ t o routes r w. c.in_ok-text.ensures.owned t (still_of t olds mids l.invariant.same o) routes r (l.invariant.owned t o routes r w);
      bounded = c.in_ok-text.ensures.bounded;
      stays = λ n h. c.in_ok-text.ensures.stays n (l.invariant.stays n h);
      faults = c.in_ok-text.ensures.shelf.quiet ∙ l.invariant.faults;
      stops = c.in_ok-text.ensures.shelf.calm ∙ l.invariant.stops;
      told = λ none. c.in_ok-text.ensures.told;
      few = c.in_ok-text.ensures.few;
      asks = omega (arith, next, asks_later c.args.play.now.groups.now l.group-index d h, l.invariant.asks);
      clocks = λ e next.
          let later : d.at ≤ (get_or c.args.play.now.groups.now (l.group-index + 1) e).at =
          subst (λ (z : Group). z.at ≤ (get_or c.args.play.now.groups.now (l.group-index + 1) e).at) (sym c.group-item.is) (rising_at c.args.play.now.groups.now l.group-index d e next c.requires.rising) in
          up_to_later d.at (get_or c.args.play.now.groups.now (l.group-index + 1) e).at c.play_group.new.nodes.items later c.in_ok-text.ensures.clocks;
      within = c.in_ok-text.ensures.within;
      counts = c.in_ok-text.ensures.counted;
      counted = c.in_ok-write_text.ensures.quiet ∙ l.invariant.counted;
    }

pub returns-in_err-text-clause-rises : goal.returns-in_err-text-clause-rises
returns-in_err-text-clause-rises g c = λ e.
    let p = err_from_is_err_and c.from_residual.result c.from_residual.ensures.1 in
    rises_behind c.args.nodes.now.items c.loop-group.nodes.items c.play_group.new.nodes.items c.loop-group.invariant.same
    (c.in_err-text.ensures.rises (ap (λ x. Err x) (same_error c.from_residual.result p.0 c.in_err-text.field-0.0 _ p.1 p.2 e)))

pub returns-in_err-text-clause-long : goal.returns-in_err-text-clause-long
returns-in_err-text-clause-long g c = λ e.
    let l = c.loop-group in
    let w = l.invariant.way in
    let d = c.group-item.result in
    let olds = c.args.nodes.now.items in
    let mids = l.nodes.items in
    let groups = c.args.play.now.groups.now in
    let h : l.group-index < length groups = omega (arith, c.loop-group-test.true) in
    let p = err_from_is_err_and c.from_residual.result c.from_residual.ensures.1 in
    let is_long = ap (λ x. Err x) (same_error c.from_residual.result p.0 c.in_err-text.field-0.0 _ p.1 p.2 e) in
    let news = c.play_group.new.nodes.items in
    let up = c.in_err-text.ensures.rises is_long in
    let Here : Type 0 = stops_among news ≡ stops_among mids in
    let Later : Type 0 = stops_among news ≡ stops_among olds in
    let Calm : Type 0 = NoneStopped olds mids [] w.0 in
    let most = more_stops olds mids in
    let here = more_stops mids news in
    let all = more_stops olds news in
    let le : most + here ≤ all = let a = stops_up olds mids l.invariant.same in omega (arith, a, up) in
    let split : Later → Calm × Here = λ e. let q = same_split olds mids news l.invariant.same up e in (inl q.0, q.1) in
    let passes : AtShown olds (acts_of groups) (λ homes tells. Passes homes tells Here here c.args.play.now.options.limit l.progress.totals.events (get_or groups l.group-index d) l.progress.asks (seats_by tells mids)) =
    λ t o routes r b v shows. subst (λ (z : Group). Passes (home_in t routes) b Here here c.args.play.now.options.limit l.progress.totals.events z l.progress.asks (seats_by b mids)) c.group-item.is
    (c.in_err-text.ensures.long t (still_of t olds mids l.invariant.same o) routes r b (still_seen t olds mids l.invariant.owned o routes r b v)
    (subst (λ (z : Group). All (Shows b) z.acts) (sym c.group-item.is) (shows_at b groups l.group-index d h shows)) is_long) in (
      l.group-index,
      w.0,
      (λ t o routes r b v shows. (
        seats_by b mids,
        all_played (home_in t routes) b Calm (NoneStopped olds news [] w.0) most all (none_front olds mids news w.0 l.invariant.same up) (omega (arith, le)) (take l.group-index groups) (seats_by b olds) w.0 l.progress.asks (seats_by b mids) (w.1 t o routes r b v shows),
      )),
      (λ t o routes r b v shows.
          front_passes (home_in t routes) b Calm Here Later most here all split le groups l.group-index d (seats_by b olds) w.0 l.progress.asks (seats_by b mids) c.args.play.now.options.limit l.progress.totals.events h (numbers_by b olds mids l.invariant.same) (w.1 t o routes r b v shows) (how_many w.2) (passes t o routes r b v shows)),
      (λ t o routes r b v shows.
          script_passes (home_in t routes) b Calm Here Later most here all split le groups l.group-index d (seats_by b olds) w.0 l.progress.asks (seats_by b mids) c.args.play.now.options.limit l.progress.totals.events h (numbers_by b olds mids l.invariant.same) (w.1 t o routes r b v shows) (how_many w.2) (passes t o routes r b v shows)),
      omega (arith, how_many w.2, l.invariant.within),
      w.3,
    )

pub returns-in_err-text-clause-front : goal.returns-in_err-text-clause-front
returns-in_err-text-clause-front g c =
    let l = c.loop-group in
    let w = l.invariant.way in
    let olds = c.args.nodes.now.items in
    let mids = l.nodes.items in
    let news = c.play_group.new.nodes.items in
    let play = c.args.play.now in
    let before = counted (g.B.Reopen.faults c.args.shelf.now) (g.B.Reopen.stops c.args.shelf.now) in
    let mid = counted (g.B.Reopen.faults l.shelf) (g.B.Reopen.stops l.shelf) in
    let after = counted (g.B.Reopen.faults c.play_group.new.shelf) (g.B.Reopen.stops c.play_group.new.shelf) in
    on_err c.from_residual.result _
    (some_of_groups play.topology.now play.options play.groups.now olds news before after (g.K.Sink.content c.args.out.now) (g.K.Sink.content l.out)
    (front_of_play play.topology.now play.groups.now l.group-index olds mids news before mid after w.0 l.progress.asks play.options (g.K.Sink.content c.args.out.now) (g.K.Sink.content l.out) w.1 (omega (arith, how_many w.2, l.invariant.within)) w.3
    l.invariant.same l.invariant.stops c.in_err-text.ensures.agents))

pub returns-in_err-write_text-clause-long : goal.returns-in_err-write_text-clause-long
returns-in_err-write_text-clause-long g c = λ e.
    let p = err_from_is_err_and c.from_residual-in_err-write_text.result c.from_residual-in_err-write_text.ensures.1 in
    absurd (not_long c.in_err-write_text.field-0.0 c.in_err-write_text.ensures.cause (same_error c.from_residual-in_err-write_text.result p.0 c.in_err-write_text.field-0.0 _ p.1 p.2 e))

pub returns-in_err-write_text-clause-cause : goal.returns-in_err-write_text-clause-cause
returns-in_err-write_text-clause-cause g c =
    let olds = c.args.nodes.now.items in
    let news = c.play_group.new.nodes.items in
    let before = counted (g.B.Reopen.faults c.args.shelf.now) (g.B.Reopen.stops c.args.shelf.now) in
    let after = counted (g.B.Reopen.faults c.play_group.new.shelf) (g.B.Reopen.stops c.play_group.new.shelf) in
    let p = err_from_is_err_and c.from_residual-in_err-write_text.result c.from_residual-in_err-write_text.ensures.1 in
    let acts = acts_of c.args.play.now.groups.now in
    if_err c.from_residual-in_err-write_text.result (HasSettleCause acts olds news before after) p.0 p.1
    (subst (λ (e : RunFault). HasSettleCause acts olds news before after e) (sym p.2) (write_settle acts c.in_err-write_text.field-0.0 olds news before after c.in_err-write_text.ensures.cause))

pub returns-in_err-write_text-clause-front : goal.returns-in_err-write_text-clause-front
returns-in_err-write_text-clause-front g c =
    let l = c.loop-group in
    let w = l.invariant.way in
    let u = c.in_ok-text.ensures.ok in
    let mids = l.nodes.items in
    let news = c.play_group.new.nodes.items in
    let d = c.group-item.result in
    let groups = c.args.play.now.groups.now in
    let h : l.group-index < length groups = omega (arith, c.loop-group-test.true) in
    let front : WritesFront (g.K.Sink.content l.out) (g.K.Sink.content c.write_text.new.out) (written c.args.play.now.options.report c.args.play.now.topology.now u.0) =
    subst (λ (bytes : List ℕ). WritesFront (g.K.Sink.content l.out) (g.K.Sink.content c.write_text.new.out) bytes) (c.deref.ensures.value ∙ u.3) c.in_err-write_text.ensures.front in
    let whole : AtShown mids (get_or groups l.group-index d).acts (λ homes tells. IsOver homes tells (NoneStopped mids news [] u.0) (more_stops mids news) (get_or groups l.group-index d) l.progress.asks (seats_by tells mids) u.0 (seats_by tells news)) =
    subst (λ (z : Group). AtShown mids z.acts (λ homes tells. IsOver homes tells (NoneStopped mids news [] u.0) (more_stops mids news) z l.progress.asks (seats_by tells mids) u.0 (seats_by tells news))) c.group-item.is u.2 in
    let few : length w.0 + length u.0 ≤ c.args.play.now.options.limit = omega (arith, how_many w.2, how_many u.1, c.in_ok-text.ensures.within) in
    let olds = c.args.nodes.now.items in
    let before = counted (g.B.Reopen.faults c.args.shelf.now) (g.B.Reopen.stops c.args.shelf.now) in
    let mid = counted (g.B.Reopen.faults l.shelf) (g.B.Reopen.stops l.shelf) in
    let after = counted (g.B.Reopen.faults c.play_group.new.shelf) (g.B.Reopen.stops c.play_group.new.shelf) in
    on_err c.from_residual-in_err-write_text.result _ (some_of_play c.args.play.now.topology.now groups l.group-index d olds mids news before mid after w.0 u.0 l.progress.asks c.args.play.now.options
    (g.K.Sink.content c.args.out.now) (g.K.Sink.content l.out) (g.K.Sink.content c.write_text.new.out) h l.invariant.same l.invariant.owned w.1 few whole w.3 front
    c.in_ok-text.ensures.same l.invariant.stops (c.in_ok-text.ensures.shelf.calm ∙ l.invariant.stops))

pub returns-clause-done : goal.returns-clause-done
returns-clause-done g c =
    let l = c.loop-group in
    let w = l.invariant.way in
    let olds = c.args.nodes.now.items in
    let last = l.nodes.items in
    let groups = c.args.play.now.groups.now in (
      w.0,
      (λ t o routes r b v shows.
          all_played (home_in t routes) b (NoneStopped olds last [] w.0) (NoneStopped olds last [] w.0) (more_stops olds last) (more_stops olds last) (λ none. none) (omega arith) groups (seats_by b olds) w.0 l.progress.asks (seats_by b last)
          (subst (λ (gs : List Group). ArePlayed (home_in t routes) b (NoneStopped olds last [] w.0) (more_stops olds last) gs (seats_by b olds) w.0 l.progress.asks (seats_by b last)) (take_all l.group-index groups (omega (arith, c.loop-group-test.false))) (w.1 t o routes r b v shows))),
      w.2,
      omega (arith, how_many w.2, l.invariant.within),
      w.3,
    )

pub returns-clause-owned : goal.returns-clause-owned
returns-clause-owned g c = c.loop-group.invariant.owned

pub returns-in_err-text-clause-whole : goal.returns-in_err-text-clause-whole
returns-in_err-text-clause-whole g c =
    let l = c.loop-group in
    let w = l.invariant.way in
    let olds = c.args.nodes.now.items in
    let mids = l.nodes.items in
    let news = c.play_group.new.nodes.items in
    let play = c.args.play.now in
    let before = counted (g.B.Reopen.faults c.args.shelf.now) (g.B.Reopen.stops c.args.shelf.now) in
    let mid = counted (g.B.Reopen.faults l.shelf) (g.B.Reopen.stops l.shelf) in
    let after = counted (g.B.Reopen.faults c.play_group.new.shelf) (g.B.Reopen.stops c.play_group.new.shelf) in
    let p = err_from_is_err_and c.from_residual.result c.from_residual.ensures.1 in
    if_err c.from_residual.result _ p.0 p.1
    (λ of. front_of_play play.topology.now play.groups.now l.group-index olds mids news before mid after w.0 l.progress.asks play.options (g.K.Sink.content c.args.out.now) (g.K.Sink.content l.out) w.1 (omega (arith, how_many w.2, l.invariant.within)) w.3
    l.invariant.same l.invariant.stops c.in_err-text.ensures.agents)

pub returns-in_err-write_text-clause-whole : goal.returns-in_err-write_text-clause-whole
returns-in_err-write_text-clause-whole g c =
    let p = err_from_is_err_and c.from_residual-in_err-write_text.result c.from_residual-in_err-write_text.ensures.1 in
    if_err c.from_residual-in_err-write_text.result _ p.0 p.1 (λ of. absurd (no_agent c.in_err-write_text.field-0.0 c.in_err-write_text.ensures.cause (subst IsOfAgent p.2 of)))

pub returns-in_err-write_text-clause-quiet : goal.returns-in_err-write_text-clause-quiet
returns-in_err-write_text-clause-quiet g c = λ n.
    let p = err_from_is_err_and c.from_residual-in_err-write_text.result c.from_residual-in_err-write_text.ensures.1 in
    if_writing c.in_err-write_text.field-0.0 _ c.in_err-write_text.ensures.cause (λ q. n (p.1 ∙ ap (λ (x : RunFault). Err x) (p.2 ∙ q)))
    (λ q. c.in_err-write_text.ensures.memory (ap (λ (x : RunFault). Err x) q) ∙ c.loop-group.invariant.counted)

pub returns-clause-calm : goal.returns-clause-calm
returns-clause-calm g c = are_calm c.args.nodes.now.items c.loop-group.nodes.items c.loop-group.invariant.same

pub returns-in_err-text-clause-agents : goal.returns-in_err-text-clause-agents
returns-in_err-text-clause-agents g c =
    let l = c.loop-group in
    left_twice c.args.nodes.now.items l.nodes.items c.play_group.new.nodes.items _ _ _ (left_same c.args.nodes.now.items l.nodes.items (counted (g.B.Reopen.faults c.args.shelf.now) (g.B.Reopen.stops c.args.shelf.now)) (counted (g.B.Reopen.faults l.shelf) (g.B.Reopen.stops l.shelf)) l.invariant.same l.invariant.stops)
    c.in_err-text.ensures.agents

pub returns-in_err-write_text-clause-agents : goal.returns-in_err-write_text-clause-agents
returns-in_err-write_text-clause-agents g c =
    let l = c.loop-group in
    left_twice c.args.nodes.now.items l.nodes.items c.play_group.new.nodes.items _ _ _ (left_same c.args.nodes.now.items l.nodes.items (counted (g.B.Reopen.faults c.args.shelf.now) (g.B.Reopen.stops c.args.shelf.now)) (counted (g.B.Reopen.faults l.shelf) (g.B.Reopen.stops l.shelf)) l.invariant.same l.invariant.stops)
    c.in_ok-text.ensures.agents

pub returns-clause-agents : goal.returns-clause-agents
returns-clause-agents g c = left_same c.args.nodes.now.items c.loop-group.nodes.items _ _ c.loop-group.invariant.same c.loop-group.invariant.stops

pub returns-clause-usable : goal.returns-clause-usable
returns-clause-usable g c = c.loop-group.invariant.net.usable

---- Where a group has failed

pub returns-in_err-text-clause-shelf : goal.returns-in_err-text-clause-shelf
returns-in_err-text-clause-shelf g c =
    let l = c.loop-group in
    let p = err_from_is_err_and c.from_residual.result c.from_residual.ensures.1 in
    shelf_failed _ _ _ _ _ p.0 p.1 l.invariant.faults l.invariant.stops c.in_err-text.ensures.shelf

pub returns-in_err-text-clause-stays : goal.returns-in_err-text-clause-stays
returns-in_err-text-clause-stays g c = λ n h. c.in_err-text.ensures.stays n (c.loop-group.invariant.stays n h)

pub returns-in_err-text-clause-cause : goal.returns-in_err-text-clause-cause
returns-in_err-text-clause-cause g c =
    let l = c.loop-group in
    let d = c.group-item.result in
    let olds = c.args.nodes.now.items in
    let mids = l.nodes.items in
    let news = c.play_group.new.nodes.items in
    let groups = c.args.play.now.groups.now in
    let h : l.group-index < length groups = omega (arith, c.loop-group-test.true) in
    let acts = acts_of groups in
    let before = counted (g.B.Reopen.faults c.args.shelf.now) (g.B.Reopen.stops c.args.shelf.now) in
    let mid = counted (g.B.Reopen.faults l.shelf) (g.B.Reopen.stops l.shelf) in
    let after = counted (g.B.Reopen.faults c.play_group.new.shelf) (g.B.Reopen.stops c.play_group.new.shelf) in
    let p = err_from_is_err_and c.from_residual.result c.from_residual.ensures.1 in
    if_err c.from_residual.result (HasSettleCause acts olds news before after) p.0 p.1
    (subst (λ (e : RunFault). HasSettleCause acts olds news before after e) (sym p.2)
    (settle_before acts d.acts olds mids news before mid after c.in_err-text.field-0.0 l.invariant.same l.invariant.owned
    (λ b shows. subst (λ (z : Group). All (Shows b) z.acts) (sym c.group-item.is) (shows_at b groups l.group-index d h shows)) (none_later olds mids news before mid after l.invariant.same l.invariant.stops)
    l.invariant.faults l.invariant.stops c.in_err-text.ensures.cause))

pub returns-in_err-write_text-clause-shelf : goal.returns-in_err-write_text-clause-shelf
returns-in_err-write_text-clause-shelf g c = shelf_still _ _ _ (c.in_ok-text.ensures.shelf.quiet ∙ c.loop-group.invariant.faults) (c.in_ok-text.ensures.shelf.calm ∙ c.loop-group.invariant.stops)

pub returns-in_err-write_text-clause-stays : goal.returns-in_err-write_text-clause-stays
returns-in_err-write_text-clause-stays g c = λ n h. c.in_ok-text.ensures.stays n (c.loop-group.invariant.stays n h)

pub returns-clause-shelf : goal.returns-clause-shelf
returns-clause-shelf g c = shelf_still _ _ _ c.loop-group.invariant.faults c.loop-group.invariant.stops
