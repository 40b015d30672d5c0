-- What may come to an agent, by the agents that are followed.
use Rattle.std.proofs.Common.{ℕ, suc, ◌+◌, ◌<◌, ◌≡◌, ◌↔◌, ◌∙◌, Bool, true, false, cond, List, [], ◌∷◌, length, take, get_or, bytes_eq, Some, slice_get, refl, sym, ap, subst, arith}
use Rattle.std.specs.List.{Contains, position_from}
use Rattle.std.proofs.lemmas.Option.{slice_get-get_or}
use Rattle.std.proofs.lemmas.Slice.Eq.{bytes_eq-Decides}
use Rattle.nsi_primitive.specs.Messages.{addressee, identity}
use Rattle.nsi_primitive.specs.declared.entry.Input.{Input}
use Rattle.nsi_primitive.specs.declared.message.Message.{Message}
use Rattle.stp_topology.specs.Network.{agent_of, name_of}
use Rattle.stp_topology.specs.Sound.{IsSound}
use Rattle.stp_topology.specs.declared.network.Network.{Network}
use Rattle.nsi_agent.specs.Homes.{Home, Routes, home_in}
use Rattle.nsi_agent.specs.Told.{told}
use Rattle.followed_agent.specs.Kept.{At, AtSeen, said_by, seen}
use Rattle.followed_agent.specs.declared.agent.Followed.{Followed}
use Rattle.nsi_world.specs.Worlds.{IsAgent, IsSent, IsTo, World, said, synced_part}
use Rattle.nsi_world.specs.Runs.{MayCome}
use Rattle.nsi_world.proofs.Names.{home_name}
use Rattle.trace_verify.specs.Standing.{IsFollower, Shows}
use Rattle.trace_verify.specs.declared.follower.Follower.{Follower}

---- One agent

-- what is known of the agent at a place, in a world
pub record IsPlaced (t : Network) (w : World) (a : ℕ) (f : Followed) : Type 0 where
  pub network : f.agent.network ≡ t
  pub number : f.agent.number ≡ a
  pub journal : f.journal.items ≡ w.journal a
  pub synced : f.synced ≡ w.synced a

pub placed : (t : Network) (x : Follower) (w : World) (a : ℕ) (f : Followed) → IsFollower t x → Shows x w → slice_get x.agents.items a ≡ Some f → IsPlaced t w a f
placed t x w a f is shows stands = record { network = is.network a f stands; number = is.number a f stands; journal = shows.journal a f stands; synced = shows.synced a f stands }

pub at_home : (t : Network) (w : World) (a : ℕ) (f : Followed) (P : Home → Type 0) → IsPlaced t w a f → AtSeen (seen f) P → At t a P
at_home t w a f P is x = subst (λ v. At v a P) is.network (subst (λ n. At f.agent.network n P) is.number x)

pub part_same : (t : Network) (w : World) (a : ℕ) (f : Followed) → IsPlaced t w a f → take f.synced f.journal.items ≡ synced_part w a
part_same t w a f is = ap (λ n. take n f.journal.items) is.synced ∙ ap (take (w.synced a)) is.journal

pub said_same : (t : Network) (routes : Routes) (w : World) (a : ℕ) (f : Followed) → IsPlaced t w a f → said_by (home_in t routes a) (seen f) ≡ said (home_in t routes) w a
said_same t routes w a f is = ap (λ es. (told (home_in t routes a) es).out) (part_same t w a f is)

pub known : (t : Network) (routes : Routes) (a : ℕ) → IsSound t → a < length t.agents → IsAgent (home_in t routes) a
unfolding home_in
known t routes a sound within = sound.agents a (name_of t a) (slice_get-get_or t.agents a [] within)

pub both_ways : {A B C : Type 0} → A ↔ B → (B → C) → (C → B) → A ↔ C
both_ways e f g = (λ a. f (e.0 a), λ c. e.1 (g c))

---- Messages that were said

-- the agent at the place has said it
pub says : (t : Network) (routes : Routes) (w : World) (a : ℕ) (f : Followed) (m : Message) (is : Bool) → IsPlaced t w a f → (is ≡ true) ↔ Contains (said_by (home_in t routes a) (seen f)) m
    → (is ≡ true) ↔ Contains (said (home_in t routes) w a) m
says t routes w a f m is placed e = subst (λ ms. (is ≡ true) ↔ Contains ms m) (said_same t routes w a f placed) e

pub sent_by : (t : Network) (routes : Routes) (w : World) (a : ℕ) (m : Message) → IsSound t → a < length t.agents → Contains (said (home_in t routes) w a) m → IsSent (home_in t routes) w m
sent_by t routes w a m sound within its = (a, (known t routes a sound within, its))

---- Messages to an agent

pub to_another : (t : Network) (routes : Routes) (w : World) (a : ℕ) (m : Message) (to name : List ℕ) (is : Bool) → to ≡ addressee (identity m) → name ≡ name_of t a → is ≡ bytes_eq to name → is ≡ false
    → (false ≡ true) ↔ MayCome (home_in t routes) w a (Input.Got m)
to_another t routes w a m to name is to_is name_is_so value other = (
  λ e. absurd (cc),
  λ may.
      let same : to ≡ name = to_is ∙ (may.1 ∙ (home_name t routes a ∙ sym name_is_so)) in
      let equal = (bytes_eq-Decides to name).1 same in
      absurd (cc),
)

pub to_this : (t : Network) (routes : Routes) (w : World) (a : ℕ) (m : Message) (to name : List ℕ) (is found : Bool) → to ≡ addressee (identity m) → name ≡ name_of t a → is ≡ bytes_eq to name → is ≡ true
    → (found ≡ true) ↔ IsSent (home_in t routes) w m → (found ≡ true) ↔ MayCome (home_in t routes) w a (Input.Got m)
to_this t routes w a m to name is found to_is name_is_so value its sent =
    let addressed : IsTo (home_in t routes) a m = sym to_is ∙ ((bytes_eq-Decides to name).0 (sym value ∙ its) ∙ (name_is_so ∙ sym (home_name t routes a))) in
    both_ways sent (λ s. (s, addressed)) (λ may. may.0)

---- Names

found_at : {X : Type 0} (p : X → Bool) (xs : List X) (n i : ℕ) (d : X) → position_from p n xs ≡ Some i → (k : ℕ) × (i ≡ n + k) × (p (get_or xs k d) ≡ true)
found_at p [] n i d h = absurd (cc)
found_at p (x ∷ xs) n i d h = by (p x) refl h (found_at p xs (n + 1) i d)
  where
    by : (b : Bool) → p x ≡ b → cond b (Some n) (position_from p (n + 1) xs) ≡ Some i → (position_from p (n + 1) xs ≡ Some i → (k : ℕ) × (i ≡ n + 1 + k) × (p (get_or xs k d) ≡ true))
        → (k : ℕ) × (i ≡ n + k) × (p (get_or (x ∷ xs) k d) ≡ true)
    by true q e f = let same : n ≡ i = cc in (0, omega (arith, same), q)
    by false q e f = let r = f e in (suc r.0, omega (arith, r.1), r.2)

-- an agent that a name leads to has it
pub named_back : (t : Network) (name : List ℕ) (b : ℕ) → agent_of t name ≡ Some b → name_of t b ≡ name
named_back t name b e =
    let r = found_at (bytes_eq name) t.agents 0 b [] e in
    let same : b ≡ r.0 = omega (arith, r.1) in
    sym ((bytes_eq-Decides name (name_of t b)).0 (subst (λ k. bytes_eq name (get_or t.agents k []) ≡ true) (sym same) r.2))
