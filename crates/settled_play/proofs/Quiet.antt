-- What it is that all agents are quiet.
use Rattle.std.proofs.Common.{◌≡◌, ◌==◌, ◌&&◌, true, List, [], ◌∷◌, is_none, inl, inr, refl, subst, arith, length, eqb-true}
use Rattle.std.specs.List.{Contains}
use Rattle.std.proofs.lemmas.Bool.{and_parts}
use Rattle.nsi_primitive.specs.declared.entry.Entry.{Entry}
use Rattle.nsi_agent.specs.Homes.{Home}
use Rattle.nsi_agent.specs.Steps.{work_of}
use Rattle.agent_node.specs.Acts.{is_quiet}
use Rattle.agent_node.specs.Passing.{all_idle}
use Rattle.agent_node.specs.Seat.{Seat}
use Rattle.nsi_play.specs.Rounds.{Net, Homes, is_quiet_in, all_quiet}
use Rattle.settled_play.proofs.Finding.{none_there, first_or_later}

pub no_entries : (es : List Entry) → length es ≡ 0 → es ≡ []
no_entries [] e = refl
no_entries (x ∷ xs) e = absurd (omega (arith, e))

pub quiet_one : (homes : Homes) (net : Net) (s : Seat) → all_quiet homes net ≡ true → Contains net s → is_quiet_in homes s ≡ true
quiet_one homes [] s q c = absurd (none_there s c)
quiet_one homes (x ∷ xs) s q c =
    let p = and_parts (is_quiet_in homes x) (all_quiet homes xs) q in
    elim (first_or_later x xs s c) [
      | inl e ↦ subst (λ (z : Seat). is_quiet_in homes z ≡ true) e p.0
      | inr r ↦ quiet_one homes xs s p.1 r
    ]

pub quiet_parts : (h : Home) (s : Seat) → is_quiet h s ≡ true → (length s.fresh ≡ 0) × (all_idle s.doors ≡ true)
unfolding is_quiet
quiet_parts h s q =
    let p = and_parts (length s.fresh == 0) (is_none (work_of h.role s.state) && all_idle s.doors) q in
    let r = and_parts (is_none (work_of h.role s.state)) (all_idle s.doors) p.1 in
    (eqb-true (length s.fresh) 0 p.0, r.1)
