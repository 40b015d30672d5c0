-- The points that agents know by names.
use Rattle.std.proofs.Common.{ℕ, ◌≡◌, ◌<◌, ◌∙◌, ◌==◌, if◌then◌else◌, Bool, true, false, List, [], length, get_or, slice_get, Option, Some, None, option_and_then, bytes_eq, eqb-true, refl, ap, subst, arith}
use Rattle.std.proofs.lemmas.Iterator.Adapters.{position_from-zero}
use Rattle.std.proofs.lemmas.List.Quantifiers.{position-Some}
use Rattle.std.proofs.lemmas.Option.{slice_get-get_or}
use Rattle.nsi_primitive.specs.declared.entry.Entry.{Entry}
use Rattle.stp_topology.specs.Sound.{IsSound}
use Rattle.stp_topology.specs.declared.network.AgentKind.{AgentKind}
use Rattle.stp_topology.specs.declared.network.Network.{Network}
use Rattle.stp_topology.specs.Network.{kind_of, owner_of, stp_of}
use Rattle.provider_agent.specs.Points.{HavePoints}
use Rattle.provider_agent.specs.Setting.{own_if, own_stp}
use Rattle.nsi_agent.specs.Homes.{Role, provides, aggregates, requests, Home, Routes, role_in, home_in}
use Rattle.nsi_agent.specs.Told.{told}
use Rattle.nsi_world.specs.Runs.{is_provider, is_requester}

-- the point that an agent knows by a name
abbrev pub knows : Role → List ℕ → Option ℕ
knows (provides setting stp_of) name = stp_of name
knows (aggregates setting) name = setting.stp_of name
knows (requests setting) name = None

module _ (t : Network) (sound : IsSound t) (b : ℕ) (name : List ℕ) (s : ℕ) where
  named_within : stp_of t name ≡ Some s → s < length t.stps
  named_within e = (position-Some (bytes_eq name) t.stps s [] (position_from-zero (bytes_eq name) t.stps ∙ e)).0

  -- a provider's own
  own_named : own_stp t b name ≡ Some s → (stp_of t name ≡ Some s) × (slice_get t.owners s ≡ Some b)
  own_named e = by (stp_of t name) refl e
    where
      same_point : (p : ℕ) → Some p ≡ Some s → p ≡ s
      same_point p f = cc

      by_owner : (p : ℕ) → stp_of t name ≡ Some p → (x : Bool) → (owner_of t p == b) ≡ x → (if x then Some p else None) ≡ Some s → (stp_of t name ≡ Some s) × (slice_get t.owners s ≡ Some b)
      by_owner p q true own f =
          let there : stp_of t name ≡ Some s = q ∙ f in
          let owner : get_or t.owners s 0 ≡ b = subst (λ (z : ℕ). owner_of t z ≡ b) (same_point p f) (eqb-true (owner_of t p) b own) in
          (there, slice_get-get_or t.owners s 0 (omega (arith, named_within there, sound.fit.owners)) ∙ ap (λ (z : ℕ). Some z) owner)
      by_owner p q false own f = absurd (cc)

      by : (o : Option ℕ) → stp_of t name ≡ o → option_and_then (own_if t b) o ≡ Some s → (stp_of t name ≡ Some s) × (slice_get t.owners s ≡ Some b)
      by None q f = absurd (cc)
      by (Some p) q f = by_owner p q (owner_of t p == b) refl f

  -- what an agent that is asked knows by a name is the point of that name
  pub known_named : (routes : Routes) → is_requester (home_in t routes b).role ≡ false → knows (home_in t routes b).role name ≡ Some s → stp_of t name ≡ Some s
  unfolding home_in
  known_named routes asked e = by (kind_of t b) asked e
    where
      by : (o : Option AgentKind) → is_requester (role_in o t routes b) ≡ false → knows (role_in o t routes b) name ≡ Some s → stp_of t name ≡ Some s
      by (Some (AgentKind.Provider hold)) a f = (own_named f).0
      by (Some (AgentKind.Requester provider)) a f = absurd (cc)
      by (Some AgentKind.Aggregator) a f = f
      by None a f = f

  -- and what a provider knows is its own
  pub known_own : (routes : Routes) → is_provider (home_in t routes b).role ≡ true → knows (home_in t routes b).role name ≡ Some s → slice_get t.owners s ≡ Some b
  unfolding home_in
  known_own routes is e = by (kind_of t b) is e
    where
      by : (o : Option AgentKind) → is_provider (role_in o t routes b) ≡ true → knows (role_in o t routes b) name ≡ Some s → slice_get t.owners s ≡ Some b
      by (Some (AgentKind.Provider hold)) a f = (own_named f).1
      by (Some (AgentKind.Requester provider)) a f = absurd (cc)
      by (Some AgentKind.Aggregator) a f = absurd (cc)
      by None a f = absurd (cc)

-- the records of each agent that is asked are between the points of the names in their services, whatever it has taken
abbrev pub AllHavePoints : Type 0
AllHavePoints = (h : Home) → is_requester h.role ≡ false → (es : List Entry) → HavePoints (knows h.role) (told h es).state.base.records
