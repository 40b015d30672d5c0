-- Messages that are queued again.
use Rattle.std.proofs.Common.{ℕ, ◌≡◌, Bool, true, false, cond, List, [], ◌∷◌, ◌++◌, refl, sym, ap, ◌∙◌, append_assoc, filter}
use Rattle.nsi_primitive.specs.declared.message.Message.{Message}
use Rattle.nsi_agent.specs.Homes.{Home}
use Rattle.agent_node.specs.Acts.{overdue, tick_at, ticked}
use Rattle.agent_node.specs.Doors.{Door}
use Rattle.agent_node.specs.Passing.{says_all}
use Rattle.agent_node.specs.Seat.{Seat, enters}

pub kept_in : (f : Message → Bool) (front rest : List Message) (m : Message) → f m ≡ true → (front ++ m ∷ []) ++ filter f rest ≡ front ++ filter f (m ∷ rest)
kept_in f front rest m e = append_assoc front (m ∷ []) (filter f rest) ∙ ap (λ ms. front ++ ms) (sym (ap (λ b. cond b (m ∷ filter f rest) (filter f rest)) e))

pub left_out : (f : Message → Bool) (front rest : List Message) (m : Message) → f m ≡ false → front ++ filter f rest ≡ front ++ filter f (m ∷ rest)
left_out f front rest m e = ap (λ ms. front ++ ms) (sym (ap (λ b. cond b (m ∷ filter f rest) (filter f rest)) e))

doors_stay : (h : Home) (to : ℕ) (s : Seat) → (enters h (tick_at to) s).doors ≡ s.doors
unfolding enters
doors_stay h to s = refl

pub ticked_is : (h : Home) (to : ℕ) (s new : Seat) (ds : List Door) (again : List Message) → new ≡ enters h (tick_at to) s → again ≡ overdue s → ds ≡ says_all h.agent_of again new.doors
    → record new { doors = ds } ≡ ticked h to s
unfolding ticked
ticked_is h to s new ds again p q u =
    ap (λ (n : Seat). record n { doors = ds }) p
    ∙ ap (λ (d : List Door). record (enters h (tick_at to) s) { doors = d })
    (u ∙ (ap (says_all h.agent_of again) (ap (λ (n : Seat). n.doors) p ∙ doors_stay h to s) ∙ ap (λ (ms : List Message). says_all h.agent_of ms s.doors) q))
