-- Views by the legs of a route.
use Rattle.std.proofs.Common.{◌≡◌, ◌≤◌, ◌∙◌, ℕ, List, [], ◌∷◌, length, sym, ap, arith}
use Rattle.std.proofs.lemmas.List.Elements.{All-head}
use Rattle.stp_topology.specs.Sound.{IsSound}
use Rattle.stp_topology.specs.declared.network.Network.{Network}
use Rattle.path_segments.specs.declared.path.Segment.{Segment}
use Rattle.path_segments.specs.Paths.{IsKnown, IsPath, IsLess}
use Rattle.agent_state.specs.declared.parent.Leg.{Leg}
use Rattle.child_connection.specs.Views.{ChildConnection}
use Rattle.aggregator_agent.specs.Asking.{views_of}
use Rattle.aggregator_agent.specs.Setting.{AreLegs, legs_of}
use Rattle.path_segments.proofs.Known.{path_known}

pub along : (t : Network) (a source dest : ℕ) (xs : List Segment) (views : List ChildConnection) (legs : List Leg) → AreLegs t a source dest legs → IsPath t a source dest xs
    → ((other : List Segment) → IsPath t a source dest other → IsLess t a other xs → ⊥) → views ≡ views_of (legs_of t xs) → views ≡ views_of legs
along t a source dest xs views legs are path least e = e ∙ ap views_of (sym (are.least xs (record { path = path; least = least })))

pub nowhere : (t : Network) (a source dest : ℕ) (views : List ChildConnection) (legs : List Leg) → AreLegs t a source dest legs
    → ((xs : List Segment) → IsPath t a source dest xs → ⊥) → views ≡ [] → views ≡ views_of legs
unfolding views_of
nowhere t a source dest views legs are none e = e ∙ ap views_of (sym (are.none none))

-- no path begins at a point that isn't declared
pub undeclared : (t : Network) (a source dest : ℕ) (views : List ChildConnection) (legs : List Leg) → IsSound t → AreLegs t a source dest legs → length t.stps ≤ source → views ≡ [] → views ≡ views_of legs
undeclared t a source dest views legs sound are beyond e = nowhere t a source dest views legs are (none_from beyond) e
  where
    none_from : length t.stps ≤ source → (xs : List Segment) → IsPath t a source dest xs → ⊥
    none_from beyond [] path = path
    none_from beyond (x ∷ xs) path =
        let known : IsKnown t x = All-head (IsKnown t) x xs (path_known t sound a source dest (x ∷ xs) path) in
        let here : x.entry ≡ source = path.0 in
        omega (arith, known.1, here, beyond)
