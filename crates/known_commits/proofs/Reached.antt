-- A first confirmation of a commit, computed: a requester gets it of an aggregator, in a run that makes a circuit.
use Rattle.std.proofs.Common.{ℕ, ◌≡◌, ◌∙◌, ◌⊎◌, inl, inr, ◌||◌, Bool, true, false, List, [], ◌∷◌, ◌++◌, Contains, take, drop, take-append-drop, refl, sym, ap, subst}
use Rattle.std.specs.Prelude.{codes}
use Rattle.std.specs.List.{list_any}
use Rattle.nsi_primitive.specs.Ids.{id_of}
use Rattle.nsi_primitive.specs.Messages.{kind_of}
use Rattle.nsi_primitive.specs.declared.entry.Entry.{Entry}
use Rattle.nsi_primitive.specs.declared.entry.Input.{Input}
use Rattle.nsi_primitive.specs.declared.kind.Kind.{Kind}
use Rattle.nsi_primitive.specs.declared.message.Body.{Body}
use Rattle.nsi_primitive.specs.declared.message.Identity.{Identity}
use Rattle.nsi_primitive.specs.declared.message.Message.{Message}
use Rattle.record_index.proofs.Members.{contains_first, nothing_in}
use Rattle.least_routes.specs.Laws.{LeastPathOrNone, RoutesExist}
use Rattle.requester_agent.specs.Setting.{setting_of}
use Rattle.nsi_agent.specs.Homes.{Routes, home_in}
use Rattle.nsi_agent.specs.Told.{Gets, WasGot}
use Rattle.nsi_world.specs.Worlds.{Homes, World, empty}
use Rattle.nsi_world.specs.Runs.{AreAllowed, IsAllowed, world_after}
use Rattle.run_growth.proofs.Worlds.{allowed_front, allowed_rest}
use Rattle.circuit_laws.proofs.AggregatorRun.{events, the_run}
use Rattle.circuit_laws.proofs.OneWay.{are_routes, it_is_sound, it_is_well_formed, topology, way_of}
use Rattle.run_text.specs.Committed.{gets}
use Rattle.known_commits.specs.Awaited.{IsFirstConfirmation}
use Rattle.known_commits.specs.Laws.{ConfirmationsAreReached}

-- before the last two events: the requester gets the confirmation, and syncs
abbrev before : World
before = world_after empty (take 30 events)

abbrev lab : ℕ
lab = 3

abbrev confirmation : Message
confirmation =
    record {
      header = record { correlation = id_of 3 2; requester = codes "lab"; provider = codes "joint" };
      body = Body.ReserveCommitConfirmed (id_of 2 1);
    }

---- It comes for the first time

abbrev is_confirming : Kind → Bool
is_confirming Kind.ReserveCommitConfirmed = true
is_confirming _ = false

abbrev confirms_by : Input → Bool
confirms_by (Input.Got n) = is_confirming (kind_of n.body)
confirms_by _ = false

abbrev confirms : Entry → Bool
confirms e = confirms_by e.input

none_confirms : list_any confirms (before.journal lab) ≡ false
unfolding world_after
none_confirms = refl

none_passes : (p : Entry → Bool) (es : List Entry) → list_any p es ≡ false → (e : Entry) → Contains es e → p e ≡ true → ⊥
none_passes p [] none e i t = nothing_in e i
none_passes p (x ∷ xs) none e i t = by (p x) refl none (contains_first x e xs i) (λ h j. none_passes p xs h e j t)
  where
    by : (b : Bool) → p x ≡ b → (b || list_any p xs) ≡ false → (e ≡ x) ⊎ Contains xs e → (list_any p xs ≡ false → Contains xs e → ⊥) → ⊥
    by true q h j later = absurd (cc)
    by false q h (inl same) later = absurd (let z : true ≡ false = sym t ∙ (ap p same ∙ q) in cc)
    by false q h (inr j) later = later h j

gets_confirms : (i : Input) → Gets confirmation i → confirms_by i ≡ true
gets_confirms (Input.Got n) g = ap (λ (j : Identity). is_confirming j.kind) g
gets_confirms (Input.Work n machine) g = absurd g
gets_confirms (Input.Force n) g = absurd g
gets_confirms (Input.Acked i) g = absurd g
gets_confirms Input.Tick g = absurd g
gets_confirms (Input.Ask n ask) g = absurd g

not_before : WasGot confirmation (before.journal lab) → ⊥
not_before (e, i, g) = none_passes confirms (before.journal lab) none_confirms e i (gets_confirms e.input g)

---- And may come

module _ (given : Routes) (search : LeastPathOrNone) where
  abbrev homes : Homes
  homes = home_in topology (way_of given)

  all_allowed : AreAllowed homes empty (take 30 events ++ drop 30 events)
  all_allowed = subst (AreAllowed homes empty) (sym (take-append-drop 30 events)) (the_run given search).allowed

  it_may : IsAllowed homes before (gets lab 0 confirmation)
  unfolding AreAllowed
  it_may = (allowed_rest homes empty (take 30 events) (drop 30 events) all_allowed).0

  it_is_first : IsFirstConfirmation homes before lab 0 confirmation
  unfolding home_in
  it_is_first = record { setting = setting_of topology lab; role = refl; may = it_may; id = id_of 2 1; body = refl; first = not_before }

  so_far_allowed : AreAllowed homes empty (take 30 events)
  so_far_allowed = allowed_front homes empty (take 30 events) (drop 30 events) all_allowed

pub confirmations_are_reached : LeastPathOrNone → RoutesExist → ConfirmationsAreReached
confirmations_are_reached search exist =
    let (given, are) = exist topology in (
      topology,
      way_of given,
      take 30 events,
      record {
        sound = it_is_sound;
        formed = it_is_well_formed;
        routed = are_routes given are;
        allowed = so_far_allowed given search;
        agent = lab;
        second = 0;
        message = confirmation;
        confirmation = it_is_first given search;
      },
    )
