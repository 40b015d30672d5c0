-- What a requester knows as committed stands from end to end.
use Rattle.std.proofs.Common.{ℕ, ◌≡◌, ◌∙◌, inl, inr, List, [], ◌∷◌, map, get_or, Contains, Some, slice_get, refl, sym, ap, subst, arith}
use Rattle.std.proofs.lemmas.List.{get_or_default}
use Rattle.nsi_primitive.specs.declared.message.Criteria.{Criteria}
use Rattle.record_index.proofs.Members.{nothing_in, contains_first, contains_more}
use Rattle.stp_topology.specs.Network.{stp_of}
use Rattle.connection_record.specs.declared.record.Record.{Record}
use Rattle.connection_record.specs.Order.{HasPoints}
use Rattle.agent_state.specs.State.{record_at}
use Rattle.nsi_agent.specs.Homes.{Role, home_in}
use Rattle.nsi_world.specs.Worlds.{Homes, World, empty, synced_part}
use Rattle.nsi_world.specs.Runs.{world_after}
use Rattle.nsi_world.specs.Laws.{HeardWasSent}
use Rattle.run_growth.specs.Cuts.{IsCutOf, state_of_cut, synced_state}
use Rattle.run_growth.specs.InStep.{version_of}
use Rattle.circuit_laws.specs.Backed.{IsChildOf, IsBackedIn, AreBackedIn, IsBetween, HasView, WasAskedFor}
use Rattle.circuit_laws.specs.Laws.{RunsAreBacked, RecordsAreApart, CriteriaWereAskedFor, CircuitsStand, CircuitsAreReached}
use Rattle.end_to_end.specs.Laws.{ViewsAreBetween, VersionsAreKnown, ItIsReached}
use Rattle.end_to_end.specs.Stands.{StandsEndToEnd}
use Rattle.end_to_end.proofs.Apart.{owned_there}
use Rattle.end_to_end.proofs.Learning.{there_is}
use Rattle.end_to_end.proofs.Naming.{knows, known_named, AllHavePoints}
use Rattle.end_to_end.proofs.Whole.{stands_there, asked_whole, connection_whole}

-- a version is that of some criteria
there_version : (v : ℕ) (ks : List Criteria) → Contains (map version_of ks) v → (k : Criteria) × Contains ks k × (k.version ≡ v)
there_version v [] i = absurd (nothing_in v i)
there_version v (k ∷ ks) i = elim (contains_first (version_of k) v (map version_of ks) i) [
  | inl e ↦ (k, contains_more k k ks (inl refl), sym e)
  | inr j ↦ let (q, there, same) = there_version v ks j in (q, contains_more k q ks (inr there), same)
]

pub versions_are_known : AllHavePoints → ViewsAreBetween → HeardWasSent → RunsAreBacked → RecordsAreApart → CriteriaWereAskedFor → CircuitsStand → VersionsAreKnown
versions_are_known pointed between heard backed separate asked circuits t routes events sound formed routed allowed a k i v setting x agent role cut there has =
    record {
      criteria = criteria;
      version = its.2;
      source = r.source;
      from = named x.child.source r.service.source r.source is_between.source points.source;
      dest = r.dest;
      to = named x.child.dest r.service.dest r.dest is_between.dest points.dest;
      bookings = whole.bookings;
      circuit = whole.circuit;
      provider = b;
      below = below;
      asked = was_asked;
    }
  where
    homes : Homes
    homes = home_in t routes

    w : World
    w = world_after empty events

    all : (b : ℕ) × IsChildOf t homes a x.child.child b × AreBackedIn homes w a b x.child
    all = backed t routes events sound formed routed allowed a k x.child agent cut (subst (λ (z : Role). HasView z (state_of_cut homes w a k) x.child) (sym role) (x, there_is (state_of_cut homes w a k).views i x there, refl))

    b : ℕ
    b = all.0

    below : IsChildOf t homes a x.child.child b
    below = all.1

    rs : List Record
    rs = (synced_state homes w b).base.records

    c : ℕ
    c = get_or all.2.own has.0 0

    one : IsBackedIn homes w a b x.child v c
    one =
        subst (λ (u : ℕ). IsBackedIn homes w a b x.child u c) (get_or_default x.child.committed has.0 0 v has.1 ∙ has.2) (all.2.each has.0 (omega (arith, has.1, all.2.long)))

    r : Record
    r = record_at one.place rs

    here : slice_get rs one.place ≡ Some r
    here = stands_there one.connection one.place (homes a).name rs one.there

    its : (k : Criteria) × Contains r.committed k × (k.version ≡ v)
    its = there_version v r.committed one.stands

    criteria : Criteria
    criteria = its.0

    whole : StandsEndToEnd t homes w r criteria
    whole = asked_whole t routes events sound formed routed allowed pointed heard separate circuits b one.place r criteria below.agent below.asked here its.1

    synced : IsCutOf w b (w.synced b)
    synced = record { synced = omega arith; within = (heard homes events allowed).within b }

    is_between : IsBetween x.child r
    is_between = between t routes events sound formed routed allowed a b k (w.synced b) i one.connection one.place setting x agent role cut there below synced one.known one.there

    points : HasPoints (knows (homes b).role) r
    points = pointed (homes b) below.asked (synced_part w b) one.place r here

    named : (name its_name : List ℕ) (s : ℕ) → its_name ≡ name → knows (homes b).role its_name ≡ Some s → stp_of t name ≡ Some s
    named name its_name s e f = ap (stp_of t) (sym e) ∙ known_named t sound b its_name s routes below.asked f

    was_asked : WasAskedFor homes w b (homes a).name criteria
    was_asked =
        subst (λ (n : List ℕ). WasAskedFor homes w b n criteria) (owned_there one.connection one.place (homes a).name rs one.there)
        (asked homes events allowed b (w.synced b) one.place r criteria below.agent below.asked synced here its.1)

-- the circuit of two children that a run reaches is booked at two places at least
pub it_is_reached : AllHavePoints → HeardWasSent → RecordsAreApart → CircuitsStand → CircuitsAreReached → ItIsReached
it_is_reached pointed heard separate circuits (t, routes, events, c) =
    let (criteria, has, same) = there_version c.version c.own.committed c.committed in
    let (stands, long) =
    connection_whole t routes events c.sound c.formed c.routed c.run.allowed pointed heard separate circuits c.agent c.cut c.place c.setting c.own criteria c.is_agent c.role c.is_cut c.there has
    in (
      t,
      routes,
      events,
      record {
        sound = c.sound;
        formed = c.formed;
        routed = c.routed;
        run = c.run;
        agent = c.agent;
        setting = c.setting;
        is_agent = c.is_agent;
        role = c.role;
        cut = c.cut;
        is_cut = c.is_cut;
        place = c.place;
        own = c.own;
        there = c.there;
        criteria = criteria;
        committed = has;
        stands = stands;
        two = omega (arith, long, c.two);
      },
    )
