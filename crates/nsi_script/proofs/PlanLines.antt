-- Lines of plans and stops, whose agents are known.
use Rattle.std.proofs.Common.{◌≡◌, ℕ, List, [], ◌∷◌, ◌++◌, Bool, true, false, not, if◌then◌else◌, Option, Some, None, Result, Ok, Err, refl, sym, ap, ◌∙◌, subst}
use Rattle.std.specs.List.{All}
use Rattle.std.proofs.lemmas.List.Elements.{All-push}
use Rattle.nsi_disk.specs.declared.plan.Stop.{Stop}
use Rattle.agent_link.specs.declared.plan.LinkFault.{LinkFault}
use Rattle.stp_topology.specs.declared.network.Network.{Network}
use Rattle.stp_topology.specs.Network.{agent_of, kind_of}
use Rattle.nsi_script.specs.declared.fault.ScriptFault.{ScriptFault}
use Rattle.nsi_script.specs.declared.fault.ScriptFault.TheVariants as faults
use Rattle.nsi_script.specs.declared.form.Sort.{Sort}
use Rattle.nsi_script.specs.declared.script.PlanLine.{PlanLine}
use Rattle.nsi_script.specs.declared.script.StopLine.{StopLine}
use Rattle.nsi_script.specs.declared.script.Script.{Script}
use Rattle.nsi_script.specs.Faults.{◌>>=◌, value_or, demand}
use Rattle.nsi_script.specs.Fits.{IsPlanOf, IsStopOf, Fits}
use Rattle.nsi_script.specs.Lines.{is_of, known_agent, plan_line, is_planned_for, stop_line, is_stopped_for}
use Rattle.nsi_script.specs.Plans.{is_planned, is_stopped}

abbrev or_zero : Result ℕ ScriptFault → ℕ
or_zero (Ok x) = x
or_zero (Err e) = 0

agent_if : (b : Bool) (x a : ℕ) → (if b then Ok x else Err faults.Agent) ≡ Ok a → x ≡ a
agent_if true x a e = ap or_zero e
agent_if false x a e = absurd (cc)

agent_there : (o : Option ℕ) (t : Network) (sort : Sort) (a : ℕ) → (value_or faults.Agent o >>= λ x. if is_of sort (kind_of t x) then Ok x else Err faults.Agent) ≡ Ok a → o ≡ Some a
agent_there None t sort a e = absurd (cc)
agent_there (Some x) t sort a e = ap Some (agent_if (is_of sort (kind_of t x)) x a e)

-- an agent that is known has that name
pub known_name : (t : Network) (sort : Sort) (name : List ℕ) (a : ℕ) → known_agent t sort name ≡ Ok a → agent_of t name ≡ Some a
unfolding known_agent
known_name t sort name a e = agent_there (agent_of t name) t sort a e

-- what was demanded not to be isn't
pub demanded_not : (b : Bool) (fault : ScriptFault) → demand (not b) fault ≡ Ok (not b) → b ≡ false
demanded_not true fault e = absurd (cc)
demanded_not false fault e = refl

-- nothing is planned for a parcel between known agents
pub not_planned : (lines : List PlanLine) (fault : LinkFault) (o p : Option ℕ) (from to : ℕ) → o ≡ Some from → p ≡ Some to → is_planned_for lines fault o p ≡ false → is_planned lines (plan_line fault from to) ≡ false
not_planned lines fault o p from to e f h = sym (ap (λ z. is_planned_for lines fault z p) e ∙ ap (is_planned_for lines fault (Some from)) f) ∙ h

-- a script fits with one more line of a plan
pub fits_plan : (t : Network) (s : Script) (line : PlanLine) (lines : List PlanLine) → lines ≡ s.lose ++ line ∷ [] → IsPlanOf t line → Fits t s → Fits t (record s { lose = lines })
fits_plan t s line lines e is f = record {
  planned = subst (All (IsPlanOf t)) (sym e) (All-push (IsPlanOf t) s.lose line f.planned is);
  stopped = f.stopped;
  rising = f.rising;
  acts = f.acts;
  few_asks = f.few_asks;
}

-- a disk doesn't stop at the call yet
pub not_stopped : (lines : List StopLine) (stop : Stop) (o : Option ℕ) (agent : ℕ) → o ≡ Some agent → is_stopped_for lines stop o ≡ false → is_stopped lines (stop_line stop agent) ≡ false
not_stopped lines stop o agent e h = sym (ap (is_stopped_for lines stop) e) ∙ h

-- a script fits with one more stop of a disk
pub fits_stop : (t : Network) (s : Script) (line : StopLine) (lines : List StopLine) → lines ≡ s.stops ++ line ∷ [] → IsStopOf t line → Fits t s → Fits t (record s { stops = lines })
fits_stop t s line lines e is f = record {
  planned = f.planned;
  stopped = subst (All (IsStopOf t)) (sym e) (All-push (IsStopOf t) s.stops line f.stopped is);
  rising = f.rising;
  acts = f.acts;
  few_asks = f.few_asks;
}
