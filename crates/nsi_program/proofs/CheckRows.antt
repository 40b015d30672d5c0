-- What `check` makes of a small topology, computed: two joined providers below an aggregator, and a requester.
use Rattle.std.proofs.Common.{◌≡◌, [], ◌∷◌, Some, None, refl}
use Rattle.std.specs.Prelude.{codes}
use Rattle.stp_topology.specs.declared.network.Network.{Network}
use Rattle.stp_topology.specs.declared.network.AgentKind.{AgentKind}
use Rattle.stp_topology.specs.declared.network.PointCapacity.TheVariants.{Shared}
use Rattle.stp_topology.specs.Network.{sdps_of}
use Rattle.nsi_base.specs.Words.{words_of}
use Rattle.nsi_program.specs.declared.asked.Ask.{Ask}
use Rattle.nsi_program.specs.Asked.{ask_of, wanted_of}
use Rattle.nsi_program.specs.Check.{path_line}
use Rattle.fault_lines.specs.Lines.{as_line}

abbrev joined : Network
joined =
    record {
      agents = codes "p1" ∷ codes "p2" ∷ codes "a1" ∷ codes "r1" ∷ [];
      kinds = AgentKind.Provider 60 ∷ AgentKind.Provider 60 ∷ AgentKind.Aggregator ∷ AgentKind.Requester 2 ∷ [];
      stps = codes "A" ∷ codes "B" ∷ codes "C" ∷ codes "D" ∷ [];
      owners = 0 ∷ 0 ∷ 1 ∷ 1 ∷ [];
      capacities = Shared 1000 ∷ Shared 1000 ∷ Shared 1000 ∷ Shared 1000 ∷ [];
      partners = None ∷ Some 2 ∷ Some 1 ∷ None ∷ [];
      children = (2, 0) ∷ (2, 1) ∷ [];
    }

pub one_sdp : sdps_of joined ≡ 1
one_sdp = refl

pub two_segments : path_line joined (record { child = 0; entry = 0; exit = 1 } ∷ record { child = 1; entry = 2; exit = 3 } ∷ []) ≡ as_line (codes "path p1 A B p2 C D")
two_segments = refl

pub a_path_is_asked_for : ask_of joined (codes "path a1 A D") ≡ Ask.Path (record { aggregator = 2; source = 0; dest = 3 })
unfolding ask_of wanted_of words_of
a_path_is_asked_for = refl

pub an_unknown_point_is_bad : ask_of joined (codes "path a1 A Z") ≡ Ask.Bad
unfolding ask_of wanted_of words_of
an_unknown_point_is_bad = refl

pub a_provider_is_bad : ask_of joined (codes "path p1 A B") ≡ Ask.Bad
unfolding ask_of wanted_of words_of
a_provider_is_bad = refl

pub two_spaces_are_bad : ask_of joined (codes "path  a1 A D") ≡ Ask.Bad
unfolding ask_of wanted_of words_of
two_spaces_are_bad = refl

-- the byte 9 is a tab
pub a_tab_is_bad : ask_of joined (112 ∷ 97 ∷ 116 ∷ 104 ∷ 9 ∷ codes "a1 A D") ≡ Ask.Bad
unfolding ask_of wanted_of words_of
a_tab_is_bad = refl

pub an_empty_line_asks_for_nothing : ask_of joined [] ≡ Ask.Nothing
unfolding ask_of wanted_of words_of
an_empty_line_asks_for_nothing = refl
