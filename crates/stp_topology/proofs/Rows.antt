-- Texts and what they declare, computed by the definitions.
use Rattle.std.proofs.Common.{◌≡◌, [], ◌∷◌, None, Ok, Err, refl, codes}
use Rattle.nsi_base.specs.Lines.{lines_to, feed_at}
use Rattle.nsi_base.specs.Digits.{value_from, number_of}
use Rattle.stp_topology.specs.declared.fault.TopologyFault.TheVariants.{Word, Unknown, Twice, Cycle, TooDeep, Empty}
use Rattle.stp_topology.specs.declared.network.AgentKind.TheVariants.{Provider, Requester}
use Rattle.stp_topology.specs.declared.network.PointCapacity.TheVariants.{Shared, Each}
use Rattle.stp_topology.specs.Network.{Network, nothing}
use Rattle.nsi_base.specs.Words.{words_of}
use Rattle.stp_topology.specs.Lines.{known_agent, with_agent, add_provider, add_aggregator, add_requester, with_stp, add_stp, add_directed_stp, with_sdp, add_sdp, leads_down, stands_over, with_child, add_child, line_of}
use Rattle.stp_topology.specs.Text.{of_line, read_lines, behind_lines, topology_of}

-- a provider, its requester and two points
abbrev two_points : Network
two_points = record {
  agents = codes "p1" ∷ codes "r1" ∷ [];
  kinds = Provider 60 ∷ Requester 0 ∷ [];
  stps = codes "A" ∷ codes "B" ∷ [];
  owners = 0 ∷ 0 ∷ [];
  capacities = Shared 1000 ∷ Shared 1000 ∷ [];
  partners = None ∷ None ∷ [];
  children = [];
}

five_lines : topology_of (codes "agent p1 provider 60\nagent r1 requester p1\nstp p1 A 1000\nstp p1 B 1000\n---\nmore") ≡ Ok (two_points, 75)
unfolding lines_to feed_at value_from number_of words_of known_agent with_agent add_provider add_aggregator add_requester with_stp add_stp add_directed_stp with_sdp add_sdp leads_down stands_over with_child add_child line_of of_line read_lines behind_lines
five_lines = refl

-- a capacity for each direction of one point, and one for both of another
directed_lines : topology_of (codes "agent p1 provider 60\nagent r1 requester p1\nstp p1 A 1000 400\nstp p1 B 1000\n---") ≡ Ok (record two_points { capacities = Each 1000 400 ∷ Shared 1000 ∷ [] }, 78)
unfolding lines_to feed_at value_from number_of words_of known_agent with_agent add_provider add_aggregator add_requester with_stp add_stp add_directed_stp with_sdp add_sdp leads_down stands_over with_child add_child line_of of_line read_lines behind_lines
directed_lines = refl

-- comments and empty lines are skipped, and a carriage return belongs to a line's end
skips : topology_of (codes "# agent\r\n\r\nagent p provider 86400\r\n---\r\n") ≡ Ok (record nothing { agents = codes "p" ∷ []; kinds = Provider 86400 ∷ [] }, 40)
unfolding lines_to feed_at value_from number_of words_of known_agent with_agent add_provider add_aggregator add_requester with_stp add_stp add_directed_stp with_sdp add_sdp leads_down stands_over with_child add_child line_of of_line read_lines behind_lines
skips = refl

-- the first fault of a text, and on a line the first in the order of the faults
faults :
    (topology_of [] ≡ Err (1, Word))
    × (topology_of (codes "---") ≡ Err (1, Empty))
    × (topology_of (codes "agent p1 provider 60") ≡ Err (2, Word))
    × (topology_of (codes "agent p1  provider 60") ≡ Err (1, Word))
    × (topology_of (codes "agent p1 provider 60 ") ≡ Err (1, Word))
    × (topology_of (codes "agent r1 requester p1\n---") ≡ Err (1, Unknown))
    × (topology_of (codes "agent p provider 1\nagent p provider 0") ≡ Err (2, Word))
    × (topology_of (codes "agent p provider 1\nagent p requester q") ≡ Err (2, Unknown))
    × (topology_of (codes "agent p provider 1\nagent p aggregator") ≡ Err (2, Twice))
    × (topology_of (codes "agent p provider 1\nstp p A 1\nsdp A A") ≡ Err (3, Twice))
    × (topology_of (codes "agent p provider 1\nstp p A 1 0") ≡ Err (2, Word))
    × (topology_of (codes "agent p provider 1\nstp p A 1 1 1") ≡ Err (2, Word))
    × (topology_of (codes "agent p provider 1\nstp p A 1 2\nstp p A 1") ≡ Err (3, Twice))
    × (topology_of (codes "agent a aggregator\nchild a a") ≡ Err (2, Cycle))
    × (topology_of (codes "agent p provider 1\nagent r requester p\nagent a aggregator\nchild a r") ≡ Err (4, Unknown))
unfolding lines_to feed_at value_from number_of words_of known_agent with_agent add_provider add_aggregator add_requester with_stp add_stp add_directed_stp with_sdp add_sdp leads_down stands_over with_child add_child line_of of_line read_lines behind_lines
faults = (refl, refl, refl, refl, refl, refl, refl, refl, refl, refl, refl, refl, refl, refl, refl)

-- an aggregator below itself, over two, three and four agents
cycles :
    (topology_of (codes "agent a aggregator\nagent b aggregator\nchild a b\nchild b a") ≡ Err (4, Cycle))
    × (topology_of (codes "agent a aggregator\nagent b aggregator\nagent c aggregator\nchild a b\nchild b c\nchild c a") ≡ Err (6, Cycle))
    × (topology_of (codes "agent a aggregator\nagent b aggregator\nagent c aggregator\nagent d aggregator\nchild c d\nchild a b\nchild b c\nchild d a") ≡ Err (8, Cycle))
unfolding lines_to feed_at value_from number_of words_of known_agent with_agent add_provider add_aggregator add_requester with_stp add_stp add_directed_stp with_sdp add_sdp leads_down stands_over with_child add_child line_of of_line read_lines behind_lines
cycles = (refl, refl, refl)

-- two chains of two and three aggregators joined, and a pair that stands there already
deep_between :
    (topology_of (codes "agent a aggregator\nagent b aggregator\nagent c aggregator\nagent d aggregator\nagent e aggregator\nchild a b\nchild c d\nchild d e\nchild b c") ≡ Err (9, TooDeep))
    × (topology_of (codes "agent a aggregator\nagent b aggregator\nchild a b\nchild a b") ≡ Err (4, Twice))
unfolding lines_to feed_at value_from number_of words_of known_agent with_agent add_provider add_aggregator add_requester with_stp add_stp add_directed_stp with_sdp add_sdp leads_down stands_over with_child add_child line_of of_line read_lines behind_lines
deep_between = (refl, refl)

-- the fifth aggregator one over the other
depths : topology_of (codes "agent p provider 1\nagent a aggregator\nagent b aggregator\nagent c aggregator\nagent d aggregator\nagent e aggregator\nchild a p\nchild b a\nchild c b\nchild d c\nchild e d") ≡ Err (11, TooDeep)
unfolding lines_to feed_at value_from number_of words_of known_agent with_agent add_provider add_aggregator add_requester with_stp add_stp add_directed_stp with_sdp add_sdp leads_down stands_over with_child add_child line_of of_line read_lines behind_lines
depths = refl
