-- Agents of a sort.
use Rattle.std.proofs.Common.{◌≡◌, ℕ, true, Some}
use Rattle.stp_topology.specs.declared.network.Network.{Network}
use Rattle.stp_topology.specs.declared.network.AgentKind.{AgentKind}
use Rattle.stp_topology.specs.declared.network.AgentKind.TheVariants.{Provider, Aggregator, Requester}
use Rattle.stp_topology.specs.Network.{kind_of}
use Rattle.nsi_script.specs.declared.form.Sort.{Sort}
use Rattle.nsi_script.specs.declared.form.Sort.TheVariants.{OneRequester, OneProvider, Any}
use Rattle.nsi_script.specs.Fits.{IsOfSort}
use Rattle.nsi_script.specs.Lines.{is_of}

pub of_sort : (t : Network) (sort : Sort) (a : ℕ) (kind : AgentKind) → kind_of t a ≡ Some kind → is_of sort (Some kind) ≡ true → IsOfSort t sort a
of_sort t OneRequester a (Requester provider) k h = (provider, k)
of_sort t OneRequester a (Provider hold) k h = absurd (cc)
of_sort t OneRequester a Aggregator k h = absurd (cc)
of_sort t OneProvider a (Provider hold) k h = (hold, k)
of_sort t OneProvider a (Requester provider) k h = absurd (cc)
of_sort t OneProvider a Aggregator k h = absurd (cc)
of_sort t Any a kind k h = tt
