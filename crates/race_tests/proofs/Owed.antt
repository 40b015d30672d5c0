-- What a race of one network and one script owes.
use Rattle.std.proofs.Common.{◌≡◌, ℕ, List, Result, Ok, ap, sym, ◌∙◌}
use Rattle.std.proofs.lemmas.List.Elements.{All-weaker}
use Rattle.nsi_script.specs.declared.script.Act.{Act}
use Rattle.nsi_script.specs.declared.script.Script.{Script}
use Rattle.nsi_script.specs.Fits.{Fits, IsActOf}
use Rattle.nsi_script.specs.Scripts.{acts_of}
use Rattle.stp_topology.specs.declared.network.Network.{Network}
use Rattle.stp_topology.specs.declared.fault.TopologyFault.{TopologyFault}
use Rattle.race_run.specs.Scripts.{IsPrintableAct, AreAsks}
use Rattle.race_tests.specs.Networks.{IsNetworkOf}

abbrev read_as : Network × ℕ → Result (Network × ℕ) (ℕ × TopologyFault)
read_as x = Ok x

same_read : (x y : Network × ℕ) → read_as x ≡ read_as y → x ≡ y
same_read x y e = cc

-- a text begins with one network
pub same_network : (text : List ℕ) (t u : Network) → IsNetworkOf text t → IsNetworkOf text u → u ≡ t
same_network text t u h k = ap (λ (x : Network × ℕ). x.0) (same_read (u, k.behind) (t, h.behind) (sym k.read ∙ h.read))

printable_act : (t : Network) (x : Act) → IsActOf t x → IsPrintableAct x
printable_act t (Act.Ask agent ask) k = k.2
printable_act t (Act.Force agent number) k = tt
printable_act t (Act.Restart agent) k = tt

-- what is asked can be printed
pub fit_printable : (t : Network) (s : Script) → Fits t s → AreAsks (acts_of s.groups)
fit_printable t s h = All-weaker (IsActOf t) IsPrintableAct (printable_act t) (acts_of s.groups) h.acts
