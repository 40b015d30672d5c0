use Rattle.std.proofs.Common.{◌≡◌, ◌+◌, ◌-◌, ◌∙◌, Some, None, arith, ap, sym, subst, length, length-append}
use Rattle.provider_agent.specs.Setting.{own_stp}
use Rattle.provider_agent.specs.State.{Standing}
use Rattle.provider_agent.specs.Steps.{waiting_work}
use Rattle.provider_agent.specs.Good.{IsGood}
use Rattle.provider_agent.specs.Working.{works_among}
use Rattle.provider_run.proofs.Idle.{one_less}
use Rattle.provider_run.proofs.UnderWay.{IsDone, done_where_none, under_way_more, moved, standing_is}
use Rattle.provider_run.proofs.Entries.{entries_done, entries_more}
use Rattle.provider_run.proofs.works.Taken.take_works.Goals as goal

-- where none waits, all is done
done : (c : goal.In_default) → IsDone c.args.provider.now.setting (own_stp c.args.topology.now c.args.provider.now.setting.number) c.args.provider.now.state c.loop-work.provider.state
    c.args.self.now.messages.items c.loop-work.self.messages.items 0 (length c.loop-work.self.entries.items - length c.args.self.now.entries.items)
done c =
    let p = c.args.provider.now in
    let now = c.loop-work.provider.state in
    let none : waiting_work now ≡ None = sym c.waiting_work.ensures.work ∙ c.in_default.is in
    done_where_none p.setting (own_stp c.args.topology.now p.setting.number) p.state now c.args.self.now.messages.items c.loop-work.self.messages.items 0 (length c.loop-work.self.entries.items - length c.args.self.now.entries.items) c.loop-work.invariant.way none

pub returns-clause-state : goal.returns-clause-state
returns-clause-state c = standing_is c.loop-work.provider c.args.provider.now.setting _ c.loop-work.invariant.setting (done c).state_is

pub returns-clause-messages : goal.returns-clause-messages
returns-clause-messages c = (done c).out_is

pub returns-clause-entries : goal.returns-clause-entries
returns-clause-entries c =
    let p = c.args.provider.now in
    entries_done p.setting (own_stp c.args.topology.now p.setting.number) c.loop-work.provider.state c.loop-work.self.entries.items _ (sym c.waiting_work.ensures.work ∙ c.in_default.is) c.loop-work.invariant.entries

pub loop-work-smaller : goal.loop-work-smaller
loop-work-smaller c =
    let l = c.loop-work in
    let old = l.provider in
    let n = c.in-Some.work.0 in
    let machine = c.in-Some.work.1 in
    let found : waiting_work old.state ≡ Some (n, machine) = sym c.waiting_work.ensures.work ∙ c.in-Some.is in
    let good : IsGood old.setting old.state = subst (λ h. IsGood h old.state) (sym l.invariant.setting) l.invariant.way.good in
    let less = one_less old.setting (own_stp c.args.topology.now old.setting.number) old.state n machine good (omega (arith, l.invariant.way.fits)) found in
    omega (arith, less, ap (λ (x : Standing). works_among x.state.records) c.in_ok-take_work.ensures.state)

pub loop-work-preserved : goal.loop-work-preserved
loop-work-preserved c =
    let p = c.args.provider.now in
    let t = c.args.topology.now in
    let l = c.loop-work in
    let n = c.in-Some.work.0 in
    let machine = c.in-Some.work.1 in
    let first = length c.args.self.now.entries.items in
    let counted = length l.self.entries.items - first in
    let found : waiting_work l.provider.state ≡ Some (n, machine) = sym c.waiting_work.ensures.work ∙ c.in-Some.is in
    let longer = ap length c.in_ok-take_work.ensures.entries ∙ length-append l.self.entries.items _ in
    let more = under_way_more p.setting (own_stp t p.setting.number) p.state l.provider.state c.args.self.now.messages.items l.self.messages.items 0 counted l.invariant.way n machine found in
    record {
      setting = ap (λ (x : Standing). x.setting) c.in_ok-take_work.ensures.state ∙ l.invariant.setting;
      way = moved p.setting (own_stp t) p.state l.provider c.take_work.new.provider.state c.args.self.now.messages.items l.self.messages.items c.take_work.new.self.messages.items 0 (counted + 1) (length c.take_work.new.self.entries.items - first)
          n machine l.invariant.setting (ap (λ (x : Standing). x.state) c.in_ok-take_work.ensures.state) c.in_ok-take_work.ensures.messages (omega (arith, longer, l.invariant.longer)) more;
      longer = omega (arith, longer, l.invariant.longer);
      entries = entries_more p.setting (own_stp t) l.provider c.take_work.new.provider.state l.self.entries.items c.take_work.new.self.entries.items _ n machine l.invariant.setting l.invariant.way.good (omega (arith, l.invariant.way.fits)) found
          (ap (λ (x : Standing). x.state) c.in_ok-take_work.ensures.state) c.in_ok-take_work.ensures.entries l.invariant.entries;
      printable = λ q. c.in_ok-take_work.ensures.printable (l.invariant.printable q);
      entries_printable = λ q. c.in_ok-take_work.ensures.entries_printable (l.invariant.entries_printable q);
    }
