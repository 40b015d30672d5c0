-- All agents meet.
use Rattle.std.proofs.Common.{ℕ, ◌≡◌, ◌≢◌, List, [], ◌∷◌, ◌⊎◌, inl, inr, refl, sym, ap, ◌∙◌, subst}
use Rattle.std.specs.List.{All, Contains}
use Rattle.std.proofs.lemmas.List.Elements.{All-nil, All-head, All-tail, All-contains}
use Rattle.nsi_primitive.specs.declared.message.Parcel.{Parcel}
use Rattle.stp_topology.specs.declared.network.Network.{Network}
use Rattle.agent_node.specs.Doors.{Door}
use Rattle.agent_node.specs.Passing.{others, let_through, learns}
use Rattle.agent_node.specs.Openings.{empty_door}
use Rattle.agent_node.specs.Seat.{Seat}
use Rattle.agent_node.specs.Meetings.{met}
use Rattle.nsi_play.specs.Rounds.{Net, meets_each}
use Rattle.nsi_world.specs.Nets.{number_of, numbers, AreDistinct}
use Rattle.settled_play.proofs.Finding.{door_to, through_door, door_all, door_found, change_at, change_else, change_keeps, others_change, change_doors, none_there, first_there, later_there, first_or_later, mapped_there}
use Rattle.settled_play.proofs.Links.{Goes}
use Rattle.settled_play.proofs.Steps.{IsDoor, AreDoors, IsPut, Comes}
use Rattle.settled_play.proofs.Pairs.{Crosses}

pub first_apart : (n : ℕ) (ns : List ℕ) → AreDistinct (n ∷ ns) → All (λ m. m ≢ n) ns
unfolding AreDistinct
first_apart n ns d = d.0

pub rest_apart : (n : ℕ) (ns : List ℕ) → AreDistinct (n ∷ ns) → AreDistinct ns
unfolding AreDistinct
rest_apart n ns d = d.1

-- only its doors change
pub meets_is : (s : Seat) (os : Net) → meets_each s os ≡ record s { doors = (meets_each s os).doors }
unfolding meets_each met
meets_is s [] = refl
meets_is s (o ∷ os) = meets_is (met o s) os

meets_more : (s o : Seat) (os : Net) → meets_each s (o ∷ os) ≡ meets_each (met o s) os
unfolding meets_each
meets_more s o os = refl

meets_none : (s : Seat) → meets_each s [] ≡ s
unfolding meets_each
meets_none s = refl

met_number : (o s : Seat) → (met o s).number ≡ s.number
unfolding met
met_number o s = refl

met_others : (o s : Seat) → others (met o s).doors ≡ others s.doors
unfolding met
met_others o s = others_change o.number (learns (let_through s.number o.doors)) (λ d. refl) s.doors

met_at : (o s : Seat) → Contains (others s.doors) o.number → door_to o.number (met o s).doors ≡ learns (let_through s.number o.doors) (door_to o.number s.doors)
unfolding met
met_at o s c = change_at o.number (learns (let_through s.number o.doors)) (λ d. refl) s.doors c

met_else : (b : ℕ) (o s : Seat) → (b ≡ o.number → ⊥) → door_to b (met o s).doors ≡ door_to b s.doors
unfolding met
met_else b o s n = change_else b o.number (learns (let_through s.number o.doors)) (λ d. refl) n s.doors

meets_else : (b : ℕ) (s : Seat) (os : Net) → All (λ m. m ≢ b) (numbers os) → door_to b (meets_each s os).doors ≡ door_to b s.doors
meets_else b s [] n = ap (λ (u : Seat). door_to b u.doors) (meets_none s)
meets_else b s (o ∷ os) n =
    ap (λ (u : Seat). door_to b u.doors) (meets_more s o os)
    ∙ (meets_else b (met o s) os (All-tail (λ m. m ≢ b) o.number (numbers os) n) ∙ met_else b o s (λ e. All-head (λ m. m ≢ b) o.number (numbers os) n (sym e)))

pub meets_others : (s : Seat) (os : Net) → others (meets_each s os).doors ≡ others s.doors
meets_others s [] = ap (λ (u : Seat). others u.doors) (meets_none s)
meets_others s (o ∷ os) = ap (λ (u : Seat). others u.doors) (meets_more s o os) ∙ (meets_others (met o s) os ∙ met_others o s)

met_plan : (b : ℕ) (o s : Seat) → (door_to b (met o s).doors).plan ≡ (door_to b s.doors).plan
unfolding met
met_plan b o s = change_keeps (λ d. d.plan ≡ (door_to b s.doors).plan) b o.number (learns (let_through s.number o.doors)) (λ d. refl) (λ d e. e) s.doors refl

-- a meeting leaves what is planned
pub meets_plan : (b : ℕ) (s : Seat) (os : Net) → (door_to b (meets_each s os).doors).plan ≡ (door_to b s.doors).plan
meets_plan b s [] = ap (λ (u : Seat). (door_to b u.doors).plan) (meets_none s)
meets_plan b s (o ∷ os) = ap (λ (u : Seat). (door_to b u.doors).plan) (meets_more s o os) ∙ (meets_plan b (met o s) os ∙ met_plan b o s)

-- each of them is met once
pub meets_at : (o s : Seat) (os : Net) → AreDistinct (numbers os) → Contains os o → Contains (others s.doors) o.number → door_to o.number (meets_each s os).doors ≡ learns (let_through s.number o.doors) (door_to o.number s.doors)
meets_at o s [] d c l = absurd (none_there o c)
meets_at o s (x ∷ xs) d c l =
    ap (λ (u : Seat). door_to o.number u.doors) (meets_more s x xs) ∙ elim (first_or_later x xs o c) [
      | inl e ↦
          subst (λ (z : Seat). door_to z.number (meets_each (met x s) xs).doors ≡ learns (let_through s.number z.doors) (door_to z.number s.doors)) e
          (meets_else x.number (met x s) xs (first_apart x.number (numbers xs) d) ∙ met_at x s (subst (λ (z : Seat). Contains (others s.doors) z.number) (sym e) l))
      | inr r ↦
          let apart : o.number ≢ x.number = All-contains (λ m. m ≢ x.number) (numbers xs) o.number (first_apart x.number (numbers xs) d) (mapped_there number_of xs o r) in
          meets_at o (met x s) xs (rest_apart x.number (numbers xs) d) r (subst (λ ns. Contains ns o.number) (sym (met_others x s)) l)
          ∙ (ap (λ n. learns (let_through n o.doors) (door_to o.number (met x s).doors)) (met_number x s) ∙ ap (learns (let_through s.number o.doors)) (met_else o.number x s apart))
    ]

---- What goes and comes

-- what a door lets through is what may go
lets_through : (t : Network) (a b : ℕ) (ds : List Door) → AreDoors t b ds → All (Goes t b a) (let_through a ds)
lets_through t a b ds h = subst (All (Goes t b a)) (sym (through_door a ds)) (door_all (λ d. All (Goes t b a) d.out) a ds (All-nil (Goes t b a)) (λ d e c. subst (λ n. All (Goes t b n) d.out) e (h d c).out))

met_doors : (t : Network) (a : ℕ) (o s : Seat) → s.number ≡ a → AreDoors t o.number o.doors → AreDoors t a s.doors → AreDoors t a (met o s).doors
unfolding met
met_doors t a o s is ho hs = change_doors (IsDoor t a) o.number (learns (let_through s.number o.doors)) step s.doors hs
  where
    step : (d : Door) → d.other ≡ o.number → IsDoor t a d → IsDoor t a (learns (let_through s.number o.doors) d)
    step d e k = record {
      link = k.link;
      queue = k.queue;
      out = All-nil (Goes t a d.other);
      inc = subst (λ n. All (Goes t n a) (let_through s.number o.doors)) (sym e) (subst (λ n. All (Goes t o.number a) (let_through n o.doors)) (sym is) (lets_through t a o.number o.doors ho));
    }

pub meets_doors : (t : Network) (a : ℕ) (s : Seat) (os : Net) → s.number ≡ a → ((o : Seat) → Contains os o → AreDoors t o.number o.doors) → AreDoors t a s.doors → AreDoors t a (meets_each s os).doors
meets_doors t a s [] is all h = subst (λ (u : Seat). AreDoors t a u.doors) (sym (meets_none s)) h
meets_doors t a s (o ∷ os) is all h =
    subst (λ (u : Seat). AreDoors t a u.doors) (sym (meets_more s o os))
    (meets_doors t a (met o s) os (met_number o s ∙ is) (λ x c. all x (later_there o os x c)) (met_doors t a o s is (all o (first_there o os)) h))

put_found : (b : ℕ) (ds : List Door) (p : Parcel) → IsPut b ds p → Contains (others ds) b
put_found b ds p c = elim (door_found b ds) [
  | inl e ↦ absurd (none c e)
  | inr k ↦ k
]
  where
    none : IsPut b ds p → door_to b ds ≡ empty_door b → ⊥
    none (inl k) e = none_there p (subst (λ (d : Door). Contains d.queue p) e k)
    none (inr k) e = none_there p (subst (λ (d : Door). Contains d.out p) e k)

-- of two of them each learns what the other one let through
pub meets_cross : (s u : Seat) (all : Net) → AreDistinct (numbers all) → Contains all s → Contains all u → (Contains (others s.doors) u.number → Contains (others u.doors) s.number)
    → Crosses s.number u.number s (meets_each s all) (meets_each u all)
meets_cross s u all d cs cu linked p c =
    let there : Contains (others s.doors) u.number = put_found u.number s.doors p c in
    by there (meets_at u s all d cu there) (meets_at s u all d cs (linked there)) c
  where
    by : Contains (others s.doors) u.number → door_to u.number (meets_each s all).doors ≡ learns (let_through s.number u.doors) (door_to u.number s.doors)
        → door_to s.number (meets_each u all).doors ≡ learns (let_through u.number s.doors) (door_to s.number u.doors) → IsPut u.number s.doors p
        → IsPut u.number (meets_each s all).doors p ⊎ Comes s.number p [] (meets_each u all).doors
    by l here back (inl k) = inl (inl (subst (λ (x : Door). Contains x.queue p) (sym here) k))
    by l here back (inr k) = inr (inl (subst (λ (x : Door). Contains x.inc p) (sym back) (subst (λ ps. Contains ps p) (sym (through_door u.number s.doors)) k)))
