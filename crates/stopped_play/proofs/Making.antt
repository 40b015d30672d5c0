-- Journals that are made anew before anything has happened: each time is a Restart that is allowed, and nobody is another one behind it.
use Rattle.std.proofs.Common.{ℕ, zero, suc, ◌≡◌, List, [], ◌∷◌, ◌++◌, refl, ap, ap₂, subst, arith, map}
use Rattle.std.specs.List.{All}
use Rattle.std.proofs.lemmas.List.Elements.{All-nil, All-cons}
use Rattle.nsi_primitive.specs.declared.entry.Event.{Event}
use Rattle.stp_topology.specs.Laws.{IsWellFormed}
use Rattle.stp_topology.specs.declared.network.Network.{Network}
use Rattle.nsi_agent.specs.Homes.{Home, Routes, home_in}
use Rattle.nsi_agent.specs.Told.{goes_on}
use Rattle.agent_link.specs.Plans.{Plan}
use Rattle.agent_node.specs.Openings.{agents, others_of, opened, seat_of}
use Rattle.agent_node.specs.Passing.{says_all}
use Rattle.agent_node.specs.Restarts.{drops, restart_events, reads}
use Rattle.agent_node.specs.Seat.{Door, Seat}
use Rattle.nsi_play.specs.Openings.{Plans, opening}
use Rattle.nsi_play.specs.Rounds.{Net, events_of, tells, emptied}
use Rattle.nsi_world.specs.Worlds.{Homes, World, empty}
use Rattle.nsi_world.specs.Heard.{IsFair}
use Rattle.nsi_world.specs.Seats.{Stands, GoesLater}
use Rattle.nsi_world.specs.Nets.{NetGoesOn}
use Rattle.nsi_world.proofs.Given.{Given}
use Rattle.nsi_world.proofs.Steps.{later_goes, goes_none}
use Rattle.nsi_world.proofs.RestartSteps.{goes_reads}
use Rattle.nsi_world.proofs.NetSteps.{Goes, step_goes}
use Rattle.nsi_world.proofs.Opening.{opening_stands}
use Rattle.stopped_play.specs.Play.{remade}

-- it has read no entry, so often
abbrev pub made : (times : ℕ) → Home → Seat → Seat
made zero h s = s
made (suc tries) h s = reads h tries [] s

abbrev pub made_by : (ℕ → ℕ) → Homes → Seat → Seat
made_by making homes s = made (making s.number) (homes s.number) s

---- It stays as it was

dropped : (plans : ℕ → Plan) (bs : List ℕ) → map drops (map (opened plans) bs) ≡ map (opened plans) bs
dropped plans [] = refl
dropped plans (b ∷ bs) = ap (λ (ds : List Door). opened plans b ∷ ds) (dropped plans bs)

made_events : (t : Network) (plans : Plans) (a times : ℕ) (h : Home) → (made times h (seat_of t plans a)).events ≡ restart_events times a 0
unfolding reads
made_events t plans a zero h = refl
made_events t plans a (suc tries) h = refl

made_told : (t : Network) (plans : Plans) (a times : ℕ) (h : Home) → tells (made times h (seat_of t plans a)) ≡ seat_of t plans a
unfolding reads goes_on says_all
made_told t plans a zero h = refl
made_told t plans a (suc tries) h = ap (λ (ds : List Door). record (seat_of t plans a) { doors = ds }) (dropped (plans a) (others_of t a))

pub all_events : (t : Network) (plans : Plans) (making : ℕ → ℕ) (homes : Homes) (ns : List ℕ) → events_of (map (made_by making homes) (map (seat_of t plans) ns)) ≡ remade making (map (seat_of t plans) ns)
all_events t plans making homes [] = refl
all_events t plans making homes (n ∷ ns) = ap₂ (λ (es fs : List Event). es ++ fs) (made_events t plans n (making n) (homes n)) (all_events t plans making homes ns)

pub all_told : (t : Network) (plans : Plans) (making : ℕ → ℕ) (homes : Homes) (ns : List ℕ) → emptied (map (made_by making homes) (map (seat_of t plans) ns)) ≡ map (seat_of t plans) ns
all_told t plans making homes [] = refl
all_told t plans making homes (n ∷ ns) = ap₂ (λ (s : Seat) (ss : Net). s ∷ ss) (made_told t plans n (making n) (homes n)) (all_told t plans making homes ns)

---- It is allowed

made_goes : (homes : Homes) → Given homes → (clock times : ℕ) (w : World) (s : Seat) → s.synced ≡ 0 → Stands homes clock w s → IsFair homes w → GoesLater homes clock w s (made times (homes s.number) s)
made_goes homes given clock zero w s none h fair = later_goes homes clock w s s (goes_none homes clock w s h fair)
made_goes homes given clock (suc tries) w s none h fair = let e = h.synced in goes_reads homes given clock w tries [] s h fair (omega (arith, e, none)) (omega arith) refl

any_made : (homes : Homes) → Given homes → (clock : ℕ) (t : Network) (plans : Plans) (making : ℕ → ℕ) (ns : List ℕ) → All (Goes homes clock (made_by making homes)) (map (seat_of t plans) ns)
any_made homes given clock t plans making [] = All-nil (Goes homes clock (made_by making homes))
any_made homes given clock t plans making (n ∷ ns) =
    All-cons (Goes homes clock (made_by making homes)) (seat_of t plans n) (map (seat_of t plans) ns) (λ w h fair. made_goes homes given clock (making n) w (seat_of t plans n) refl h fair) (any_made homes given clock t plans making ns)

pub making_goes : (t : Network) (routes : Routes) (plans : Plans) (making : ℕ → ℕ) → Given (home_in t routes) → IsWellFormed t → NetGoesOn (home_in t routes) 0 empty (opening t plans) (remade making (opening t plans)) (opening t plans)
making_goes t routes plans making given formed =
    let homes : Homes = home_in t routes in
    subst (λ (es : List Event). NetGoesOn homes 0 empty (opening t plans) es (opening t plans)) (all_events t plans making homes (agents t))
    (subst (NetGoesOn homes 0 empty (opening t plans) (events_of (map (made_by making homes) (opening t plans)))) (all_told t plans making homes (agents t))
    (step_goes homes 0 (made_by making homes) empty (opening t plans) (any_made homes given 0 t plans making (agents t)) (opening_stands t routes plans formed)))
