use Rattle.std.proofs.Common.{◌++◌, ◌∙◌, arith, ap, sym}
use Rattle.nsi_primitive.specs.declared.entry.Entry.{Entry}
use Rattle.provider_agent.specs.Setting.{own_stp}
use Rattle.provider_agent.specs.State.{Standing}
use Rattle.provider_agent.specs.Steps.{after, may_take}
use Rattle.provider_agent.specs.Runs.{after_all}
use Rattle.provider_run.specs.Works.{all_works, with_works}
use Rattle.provider_run.proofs.Working.{taken_after, first_state, first_out}
use Rattle.provider_run.proofs.works.take_with_works.Goals as goal

pub take_works-requires : goal.take_works-requires
take_works-requires c =
    let p = c.args.provider.now in
    record {
      few = omega (
        arith,
        c.requires.few,
        ap (λ (x : Standing). x.state.taken) c.in_ok-take.ensures.state,
        taken_after p.setting (own_stp c.args.topology.now p.setting.number) p.state c.in_ok-entry.entry (ap (may_take p.state) c.in_ok-entry.ensures ∙ c.requires.may_take),
      );
    }

pub returns-clause-state : goal.returns-clause-state
returns-clause-state c =
    let p = c.args.provider.now in
    let t = c.args.topology.now in
    let stp_of = own_stp t p.setting.number in
    let next = (after p.setting stp_of p.state c.in_ok-entry.entry).state in
    c.in_ok-take_works.ensures.state
    ∙ (ap (λ (x : Standing). record x { state = (after_all x.setting (own_stp t x.setting.number) x.state (all_works x.setting (own_stp t x.setting.number) x.state)).state }) c.in_ok-take.ensures.state
    ∙ (ap (λ s. record p { state = s }) (sym (first_state p.setting stp_of p.state c.in_ok-entry.entry (all_works p.setting stp_of next)))
    ∙ ap (λ (e : Entry). record p { state = (after_all p.setting stp_of p.state (with_works p.setting stp_of p.state e)).state }) c.in_ok-entry.ensures))

pub returns-clause-messages : goal.returns-clause-messages
returns-clause-messages c =
    let p = c.args.provider.now in
    let t = c.args.topology.now in
    let stp_of = own_stp t p.setting.number in
    let e = c.in_ok-entry.entry in
    let next = (after p.setting stp_of p.state e).state in
    let own = c.in_ok-take.ensures.messages ∙ ap (λ xs. xs ++ (after p.setting stp_of p.state e).out) c.new-2.ensures.items in
    c.in_ok-take_works.ensures.messages
    ∙ (ap (λ xs. xs ++ (after_all c.take.new.provider.setting (own_stp t c.take.new.provider.setting.number) c.take.new.provider.state (all_works c.take.new.provider.setting (own_stp t c.take.new.provider.setting.number) c.take.new.provider.state)).out) own
    ∙ (ap (λ (x : Standing). (after p.setting stp_of p.state e).out ++ (after_all x.setting (own_stp t x.setting.number) x.state (all_works x.setting (own_stp t x.setting.number) x.state)).out) c.in_ok-take.ensures.state
    ∙ (sym (first_out p.setting stp_of p.state e (all_works p.setting stp_of next))
    ∙ ap (λ (y : Entry). (after_all p.setting stp_of p.state (with_works p.setting stp_of p.state y)).out) c.in_ok-entry.ensures)))
