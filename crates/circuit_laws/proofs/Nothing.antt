-- Where nothing has happened no view is kept, and no record.
use Rattle.std.proofs.Common.{ℕ, zero, suc, ◌≡◌, [], Contains, Some, slice_get, arith}
use Rattle.stp_topology.specs.declared.network.Network.{Network}
use Rattle.agent_state.specs.State.{blank_agent, children_at}
use Rattle.child_connection.specs.Views.{ChildConnection}
use Rattle.nsi_agent.specs.Homes.{Role, provides, aggregates, requests}
use Rattle.nsi_agent.specs.Told.{goes_on}
use Rattle.nsi_world.specs.Worlds.{Homes, empty}
use Rattle.circuit_laws.specs.Backed.{HasView, EachViewIsBacked, EachViewRises, EachCircuitStands, EachChildLives, NoRecordIsShared, EachCriteriaWasAskedFor}

no_view : (role : Role) (x : ChildConnection) → HasView role blank_agent x → ⊥
no_view (provides setting stp_of) x has = has
no_view (aggregates setting) x (n, its) = by n its
  where
    by : (n : ℕ) → Contains (children_at n blank_agent.children) x → ⊥
    by zero its = absurd (omega (arith, its.1))
    by (suc n) its = absurd (omega (arith, its.1))
no_view (requests setting) x (v, its, is) = absurd (omega (arith, its.1))

pub nothing_is_unbacked : (t : Network) (homes : Homes) → EachViewIsBacked t homes empty
unfolding goes_on
nothing_is_unbacked t homes a zero x agent cut has = absurd (no_view (homes a).role x has)
nothing_is_unbacked t homes a (suc k) x agent cut has = absurd (let w = cut.within in omega (arith, w))

pub nothing_falls : (homes : Homes) → EachViewRises homes empty
unfolding goes_on
nothing_falls homes a zero x agent cut has = absurd (no_view (homes a).role x has)
nothing_falls homes a (suc k) x agent cut has = absurd (let w = cut.within in omega (arith, w))

none_there : {X : Type 0} (n : ℕ) (x : X) → slice_get [] n ≡ Some x → ⊥
none_there n x e = cc

pub no_circuit_lacks : (t : Network) (homes : Homes) → EachCircuitStands t homes empty
unfolding goes_on
no_circuit_lacks t homes a zero n v setting own agent role cut here there = absurd (none_there n own here)
no_circuit_lacks t homes a (suc k) n v setting own agent role cut here there = absurd (let w = cut.within in omega (arith, w))

pub no_child_ends : (t : Network) (homes : Homes) → EachChildLives t homes empty
unfolding goes_on
no_child_ends t homes a b zero j n id place setting own x agent role cut here = absurd (none_there n own here)
no_child_ends t homes a b (suc k) j n id place setting own x agent role cut here = absurd (let w = cut.within in omega (arith, w))

pub nothing_is_shared : (t : Network) (homes : Homes) → NoRecordIsShared t homes empty
unfolding goes_on
nothing_is_shared t homes a b zero n i m j u v c d setting x y agent role cut here there its of p q same = absurd (none_there i x here)
nothing_is_shared t homes a b (suc k) n i m j u v c d setting x y agent role cut here there its of p q same = absurd (let w = cut.within in omega (arith, w))

pub nothing_lacks_an_ask : (homes : Homes) → EachCriteriaWasAskedFor homes empty
unfolding goes_on
nothing_lacks_an_ask homes b zero n r k agent asked cut here there = absurd (none_there n r here)
nothing_lacks_an_ask homes b (suc j) n r k agent asked cut here there = absurd (let w = cut.within in omega (arith, w))
