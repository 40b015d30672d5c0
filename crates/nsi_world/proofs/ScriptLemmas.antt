-- Scripts whose acts are of the topology, and whose seconds rise, group after group.
use Rattle.std.proofs.Common.{ℕ, ◌≤◌, ◌≡◌, List, [], ◌∷◌, ◌++◌, refl, sym, ap, ◌∙◌, arith, append_assoc}
use Rattle.std.specs.List.{All}
use Rattle.std.proofs.lemmas.List.Elements.{All-nil, All-cons, All-head, All-tail}
use Rattle.stp_topology.specs.declared.network.Network.{Network}
use Rattle.nsi_script.specs.declared.script.Act.{Act}
use Rattle.nsi_script.specs.declared.script.Group.{Group}
use Rattle.nsi_script.specs.Fits.{IsActOf, IsRising}
use Rattle.nsi_script.specs.Scripts.{acts_of, seconds_of}
use Rattle.nsi_world.specs.Scripts.{wish_of, wishes_among, wishes_of}

---- Seconds

-- no group is before this second, nor before the one before it
abbrev pub RiseFrom : ℕ → List Group → Type 0
RiseFrom second [] = Unit {0}
RiseFrom second (g ∷ gs) = (second ≤ g.at) × RiseFrom g.at gs

rise_behind : (g : Group) (gs : List Group) → IsRising (seconds_of (g ∷ gs)) → RiseFrom g.at gs
rise_behind g [] h = tt
rise_behind g (x ∷ xs) h = (h.0, rise_behind x xs h.1)

pub rise_from : (gs : List Group) → IsRising (seconds_of gs) → RiseFrom 0 gs
rise_from [] h = tt
rise_from (g ∷ gs) h = (omega arith, rise_behind g gs h)

---- Acts

abbrev pub IsGroupOf : Network → Group → Type 0
IsGroupOf t g = All (IsActOf t) g.acts

all_parts : {X : Type 0} (P : X → Type 0) (xs ys : List X) → All P (xs ++ ys) → All P xs × All P ys
all_parts P [] ys h = (All-nil P, h)
all_parts P (x ∷ xs) ys h = let rest = all_parts P xs ys (All-tail P x (xs ++ ys) h) in (All-cons P x xs (All-head P x (xs ++ ys) h) rest.0, rest.1)

pub groups_of : (t : Network) (gs : List Group) → All (IsActOf t) (acts_of gs) → All (IsGroupOf t) gs
groups_of t [] h = All-nil (IsGroupOf t)
groups_of t (g ∷ gs) h = let parts = all_parts (IsActOf t) g.acts (acts_of gs) h in All-cons (IsGroupOf t) g gs parts.0 (groups_of t gs parts.1)

---- Wishes

among_append : (xs ys : List Act) → wishes_among (xs ++ ys) ≡ wishes_among xs ++ wishes_among ys
unfolding wishes_among
among_append [] ys = refl
among_append (x ∷ xs) ys = ap (λ zs. wish_of x ++ zs) (among_append xs ys) ∙ sym (append_assoc (wish_of x) (wishes_among xs) (wishes_among ys))

pub whole_none : wishes_of [] ≡ []
unfolding wishes_among
whole_none = refl

pub whole_cons : (g : Group) (gs : List Group) → wishes_of (g ∷ gs) ≡ wishes_among g.acts ++ wishes_of gs
whole_cons g gs = among_append g.acts (acts_of gs)
