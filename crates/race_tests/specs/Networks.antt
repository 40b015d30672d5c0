-- A network as a text.
use Rattle.std.specs.Prelude.{◌≡◌, ℕ, List, Ok}
use Rattle.stp_topology.specs.declared.network.Network.{Network}
use Rattle.stp_topology.specs.Text.{topology_of}

-- the text begins with that network
pub record IsNetworkOf (text : List ℕ) (t : Network) : Type 0 where
  pub behind : ℕ
  pub read : topology_of text ≡ Ok (t, behind)
