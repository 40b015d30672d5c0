use Rattle.std.proofs.Common.{◌≡◌, ◌≤◌, List, nat_le, arith, sym, ap, ◌∙◌, subst}
use Rattle.nsi_script.specs.declared.fault.ScriptFault.TheVariants.{Time}
use Rattle.nsi_script.specs.declared.script.Group.{Group}
use Rattle.nsi_script.specs.Drafts.{script_in}
use Rattle.nsi_script.specs.Fits.{Fits}
use Rattle.nsi_script.specs.Scripts.{asks_of, is_reserved, last_second}
use Rattle.nsi_script.proofs.ActLemmas.{asks_same, fits_group, reserved_same}
use Rattle.nsi_script.proofs.DraftLemmas.{demanded}
use Rattle.nsi_script.proofs.draft.Draft.add_at.Goals as goal

pub returns-clause-indexed : goal.returns-clause-indexed
returns-clause-indexed c =
    let old = c.args.self.now.groups.items in
    let is = c.in_ok-push_group.ensures in
    record {
      labels = λ agent label. c.requires.labels agent label ∙ sym (ap (λ (gs : List Group). is_reserved gs agent label) is ∙ reserved_same old c.in_ok-at.at agent label);
      asks = c.requires.asks ∙ sym (ap asks_of is ∙ asks_same old c.in_ok-at.at);
    }

pub returns-clause-fits : goal.returns-clause-fits
returns-clause-fits c = λ t f.
    let s = script_in c.args.self.now in
    let rises = demanded c.is_rising.result Time c.in_ok-demand-2.ensures in
    let is : c.is_rising.result ≡ nat_le (last_second s.groups) c.in_ok-at.at = c.is_rising.ensures ∙ ap (λ (gs : List Group). nat_le (last_second gs) c.in_ok-at.at) c.deref.ensures.value in
    let under : last_second s.groups ≤ c.in_ok-at.at = grind (arith, rises, is) in
    subst (λ (gs : List Group). Fits t (record s { groups = gs })) (sym c.in_ok-push_group.ensures) (fits_group t s c.in_ok-at.at f under)
