use Rattle.std.proofs.Common.{◌≡◌, ℕ, List, length, arith, sym, ap, ◌∙◌, subst, cond, not, ◌==◌}
use Rattle.nsi_script.specs.declared.fault.ScriptFault.TheVariants.{Time}
use Rattle.nsi_script.specs.declared.script.Group.{Group}
use Rattle.nsi_script.specs.Drafts.{script_in}
use Rattle.nsi_script.specs.Fits.{Fits}
use Rattle.nsi_script.specs.Scripts.{is_ask}
use Rattle.nsi_script.proofs.ActLemmas.{fits_act}
use Rattle.nsi_script.proofs.DraftLemmas.{begun, reserved_plain, asks_plain}
use Rattle.nsi_script.proofs.draft.Draft.put_act.Goals as goal

pub returns-clause-indexed : goal.returns-clause-indexed
returns-clause-indexed c =
    let old = c.args.self.now.groups.items in
    let new = c.push_act.new.groups.items in
    let there = begun old c.is_begun.result Time (c.is_begun.ensures ∙ ap (λ (gs : List Group). not (length gs == 0)) c.deref.ensures.value) c.in_ok-demand.ensures in
    record {
      labels = λ agent label. c.requires.indexed.labels agent label ∙ reserved_plain old new c.args.act there c.requires.is_no_ask c.in_ok-push_act.ensures agent label;
      asks = c.requires.indexed.asks ∙ asks_plain old new c.args.act there c.requires.is_no_ask c.in_ok-push_act.ensures;
    }

pub returns-clause-fits : goal.returns-clause-fits
returns-clause-fits c = λ t of f.
    let s = script_in c.args.self.now in
    let there = begun s.groups c.is_begun.result Time (c.is_begun.ensures ∙ ap (λ (gs : List Group). not (length gs == 0)) c.deref.ensures.value) c.in_ok-demand.ensures in
    let none : ◌≡◌ {A = ℕ} (cond (is_ask c.args.act) 1 0) 0 = ap (λ b. cond {A = ℕ} b 1 0) c.requires.is_no_ask in
    subst (λ (gs : List Group). Fits t (record s { groups = gs })) (sym c.in_ok-push_act.ensures)
    (fits_act t s c.args.act f there of (omega (arith, f.few_asks, none)))
