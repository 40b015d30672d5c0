use Rattle.std.proofs.Common.{◌≡◌, ◌+◌, List, ◌||◌, arith, sym, ap, ◌∙◌, subst}
use Rattle.nsi_script.specs.declared.script.Act.{Act}
use Rattle.nsi_script.specs.declared.script.Group.{Group}
use Rattle.nsi_script.specs.Drafts.{script_in}
use Rattle.nsi_script.specs.Fits.{Fits}
use Rattle.nsi_script.specs.Scripts.{asks_of, is_reserved, reserves}
use Rattle.nsi_script.proofs.ActLemmas.{asks_push, fits_act, reserved_push}
use Rattle.nsi_script.proofs.draft.Draft.put_ask.Goals as goal

pub returns-clause-indexed : goal.returns-clause-indexed
returns-clause-indexed c =
    let old = c.args.self.now.groups.items in
    let act = Act.Ask c.args.agent c.args.ask in
    let is = c.in_ok-push_act.ensures in
    let there = c.in_ok-accept.ensures.begun in
    let more : asks_of c.push_act.new.groups.items ≡ asks_of old + 1 = ap asks_of is ∙ asks_push old act there in
    record {
      labels = λ agent label.
          c.in_ok-note.ensures agent label
          ∙ (ap (λ b. reserves agent label act || b) (c.requires.labels agent label)
          ∙ sym (ap (λ (gs : List Group). is_reserved gs agent label) is ∙ reserved_push old act there agent label));
      asks = omega (arith, c.requires.asks, more);
    }

pub returns-clause-fits : goal.returns-clause-fits
returns-clause-fits c = λ t of f.
    let s = script_in c.args.self.now in
    let act = Act.Ask c.args.agent c.args.ask in
    subst (λ (gs : List Group). Fits t (record s { groups = gs })) (sym c.in_ok-push_act.ensures)
    (fits_act t s act f c.in_ok-accept.ensures.begun of (omega (arith, c.in_ok-accept.ensures.few, c.requires.asks)))
