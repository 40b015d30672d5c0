-- Bookings of the segments of a path, one behind the other, are bookings of the whole way.
use Rattle.std.proofs.Common.{ℕ, suc, ◌≡◌, ◌≤◌, ◌+◌, ◌∙◌, List, [], ◌∷◌, ◌++◌, map, length, length-append, slice_get, Some, refl, sym, ap, subst, arith}
use Rattle.std.specs.List.{All}
use Rattle.std.proofs.lemmas.List.Elements.{All-nil, All-head, All-tail, All-append, All-weaker}
use Rattle.nsi_primitive.specs.declared.message.Criteria.{Criteria}
use Rattle.stp_topology.specs.declared.network.Network.{Network}
use Rattle.stp_topology.specs.Network.{children_of, partner_of}
use Rattle.path_segments.specs.declared.path.Segment.{Segment}
use Rattle.path_segments.specs.Paths.{IsSegment, Offers, Onward, IsPath, placed, greatest_rank, IsKnown}
use Rattle.child_connection.specs.Views.{ChildConnection}
use Rattle.agent_state.specs.declared.parent.Leg.{Leg}
use Rattle.aggregator_agent.specs.Setting.{leg_of, legs_of}
use Rattle.nsi_world.specs.Worlds.{Homes, World}
use Rattle.circuit_laws.specs.Backed.{leg_in}
use Rattle.end_to_end.specs.EndToEnd.{Booking, IsBooked, JoinOnward, JoinEndToEnd, IsOther, AreApart, IsEndToEnd, IsLiving}

---- Ports

onward_more : (t : Network) (exit middle dest : ℕ) (xs ys : List Booking) → JoinOnward t exit middle xs → JoinOnward t middle dest ys → JoinOnward t exit dest (xs ++ ys)
onward_more t exit middle dest [] ys e h = subst (λ (p : ℕ). JoinOnward t p dest ys) (sym e) h
onward_more t exit middle dest (x ∷ xs) ys g h = (g.0, onward_more t x.connection.dest middle dest xs ys g.1 h)

-- from the source on
pub join_more : (t : Network) (source middle dest : ℕ) (xs ys : List Booking) → JoinEndToEnd t source middle xs → JoinOnward t middle dest ys → JoinEndToEnd t source dest (xs ++ ys)
join_more t source middle dest [] ys g h = absurd g
join_more t source middle dest (x ∷ xs) ys g h = (g.0, onward_more t x.connection.dest middle dest xs ys g.1 h)

-- behind a port that is joined with the source
pub join_behind : (t : Network) (exit source middle dest : ℕ) (xs ys : List Booking) → partner_of t exit ≡ Some source → JoinEndToEnd t source middle xs → JoinOnward t middle dest ys → JoinOnward t exit dest (xs ++ ys)
join_behind t exit source middle dest [] ys e g h = absurd g
join_behind t exit source middle dest (x ∷ xs) ys e g h = (e ∙ ap (λ (p : ℕ). Some p) (sym g.0), onward_more t x.connection.dest middle dest xs ys g.1 h)

-- there is one at least
pub some_join : (t : Network) (source dest : ℕ) (xs : List Booking) → JoinEndToEnd t source dest xs → 1 ≤ length xs
some_join t source dest [] g = absurd g
some_join t source dest (x ∷ xs) g = omega arith

---- Apart

apart_append : (xs ys : List Booking) → AreApart xs → AreApart ys → All (λ (x : Booking). All (IsOther x) ys) xs → AreApart (xs ++ ys)
apart_append [] ys a b c = b
apart_append (x ∷ xs) ys a b c =
    (All-append (IsOther x) xs ys a.0 (All-head (λ (z : Booking). All (IsOther z) ys) x xs c), apart_append xs ys a.1 b (All-tail (λ (z : Booking). All (IsOther z) ys) x xs c))

---- Bookings

-- of a mark for each leg: what is marked for two legs is apart
module _ (t : Network) (homes : Homes) (w : World) (k : Criteria) (live : Type 0) (Marks : ℕ → Booking → Type 0) (cross : (i j : ℕ) (x y : Booking) → Marks i x → Marks j y → (i ≡ j → ⊥) → IsOther x y) where
  -- between two ports there are bookings, marked for a leg, which live where that holds
  pub record IsWhole (i source dest : ℕ) : Type 0 where
    pub bookings : List Booking
    pub circuit : IsEndToEnd t homes w source dest k bookings
    pub living : live → All IsLiving bookings
    pub marked : All (Marks i) bookings

  -- marked for a leg from there on
  abbrev pub IsMarked : ℕ → Booking → Type 0
  IsMarked from z = (j : ℕ) × (from ≤ j) × Marks j z

  -- so many bookings or more between two ports
  pub record IsWay (least source dest : ℕ) : Type 0 where
    pub bookings : List Booking
    pub long : least ≤ length bookings
    pub circuit : IsEndToEnd t homes w source dest k bookings
    pub living : live → All IsLiving bookings
    pub marked : All (IsMarked 0) bookings

  -- behind a port
  record IsBehind (from least exit dest : ℕ) : Type 0 where
    bookings : List Booking
    long : least ≤ length bookings
    each : All (IsBooked t homes w k) bookings
    joined : JoinOnward t exit dest bookings
    apart : AreApart bookings
    living : live → All IsLiving bookings
    marked : All (IsMarked from) bookings

  abbrev segments : ℕ → ℕ → ℕ → ℕ → Type 0
  segments a = IsSegment (Offers t greatest_rank) (children_of t a)

  -- a view of each leg, whose segment is booked
  abbrev EachLegIsWhole : ℕ → List ChildConnection → Type 0
  EachLegIsWhole from ys = (i : ℕ) (x : Segment) (y : ChildConnection) → IsKnown t x → slice_get ys i ≡ Some y → leg_in y ≡ leg_of t x → IsWhole (from + i) x.entry x.exit

  first_leg : (x y : Leg) (xs ys : List Leg) → x ∷ xs ≡ y ∷ ys → (x ≡ y) × (xs ≡ ys)
  first_leg x y xs ys e = (cc, cc)

  later_legs : (from : ℕ) (y : ChildConnection) (ys : List ChildConnection) → EachLegIsWhole from (y ∷ ys) → EachLegIsWhole (suc from) ys
  later_legs from y ys each i x z known there e =
      let same : from + suc i ≡ suc from + i = omega arith in
      subst (λ (n : ℕ). IsWhole n x.entry x.exit) same (each (suc i) x z known there e)

  here_leg : (from : ℕ) (x : Segment) (y : ChildConnection) (ys : List ChildConnection) → IsKnown t x → leg_in y ≡ leg_of t x → EachLegIsWhole from (y ∷ ys) → IsWhole from x.entry x.exit
  here_leg from x y ys known e each =
      let same : from + 0 ≡ from = omega arith in
      subst (λ (n : ℕ). IsWhole n x.entry x.exit) same (each 0 x y known refl e)

  -- a leg, and what is behind it
  both_apart : (from source exit dest least : ℕ) (here : IsWhole from source exit) (more : IsBehind (suc from) least exit dest) → AreApart (here.bookings ++ more.bookings)
  both_apart from source exit dest least here more =
      apart_append here.bookings more.bookings here.circuit.apart more.apart
      (All-weaker (Marks from) (λ (x : Booking). All (IsOther x) more.bookings)
      (λ x m. All-weaker (IsMarked (suc from)) (IsOther x) (λ z q. cross from q.0 x z m q.2 (λ e. no_less from q.0 q.1 e)) more.bookings more.marked) here.bookings here.marked)
    where
      no_less : (i j : ℕ) → suc i ≤ j → i ≡ j → ⊥
      no_less i j l e = omega (arith, l, e)

  both_marked : (from source exit dest least : ℕ) (here : IsWhole from source exit) (more : IsBehind (suc from) least exit dest) → All (IsMarked from) (here.bookings ++ more.bookings)
  both_marked from source exit dest least here more =
      All-append (IsMarked from) here.bookings more.bookings (All-weaker (Marks from) (IsMarked from) (λ z m. (from, omega arith, m)) here.bookings here.marked)
      (All-weaker (IsMarked (suc from)) (IsMarked from) (λ z q. (q.0, omega (arith, q.1), q.2)) more.bookings more.marked)

  onward_whole : (a from exit dest : ℕ) (xs : List Segment) (ys : List ChildConnection) → map leg_in ys ≡ map (leg_of t) xs → All (IsKnown t) xs → Onward (partner_of t) (segments a) exit dest (placed (children_of t a) xs) →
      EachLegIsWhole from ys → IsBehind from (length ys) exit dest
  onward_whole a from exit dest [] (y ∷ ys) same known way each = absurd (cc)
  onward_whole a from exit dest [] [] same known way each =
      record { bookings = []; long = omega arith; each = All-nil (IsBooked t homes w k); joined = way; apart = tt; living = λ l. All-nil IsLiving; marked = All-nil (IsMarked from) }
  onward_whole a from exit dest (x ∷ xs) [] same known way each = absurd (cc)
  onward_whole a from exit dest (x ∷ xs) (y ∷ ys) same known way each =
      let legs = first_leg (leg_in y) (leg_of t x) (map leg_in ys) (map (leg_of t) xs) same in
      let here : IsWhole from x.entry x.exit = here_leg from x y ys (All-head (IsKnown t) x xs known) legs.0 each in
      let more : IsBehind (suc from) (length ys) x.exit dest = onward_whole a (suc from) x.exit dest xs ys legs.1 (All-tail (IsKnown t) x xs known) way.2 (later_legs from y ys each) in
      let one : 1 ≤ length here.bookings = some_join t x.entry x.exit here.bookings here.circuit.joined in
      record {
        bookings = here.bookings ++ more.bookings;
        long = omega (arith, one, more.long, length-append here.bookings more.bookings);
        each = All-append (IsBooked t homes w k) here.bookings more.bookings here.circuit.each more.each;
        joined = join_behind t exit x.entry x.exit dest here.bookings more.bookings way.0 here.circuit.joined more.joined;
        apart = both_apart from x.entry x.exit dest (length ys) here more;
        living = λ l. All-append IsLiving here.bookings more.bookings (here.living l) (more.living l);
        marked = both_marked from x.entry x.exit dest (length ys) here more;
      }

  all_whole : (a source dest : ℕ) (xs : List Segment) (ys : List ChildConnection) → map leg_in ys ≡ legs_of t xs → All (IsKnown t) xs → IsPath t a source dest xs → EachLegIsWhole 0 ys → IsWay (length ys) source dest
  unfolding legs_of
  all_whole a source dest [] ys same known way each = absurd way
  all_whole a source dest (x ∷ xs) [] same known way each = absurd (cc)
  all_whole a source dest (x ∷ xs) (y ∷ ys) same known way each =
      let legs = first_leg (leg_in y) (leg_of t x) (map leg_in ys) (map (leg_of t) xs) same in
      let here : IsWhole 0 x.entry x.exit = here_leg 0 x y ys (All-head (IsKnown t) x xs known) legs.0 each in
      let more : IsBehind 1 (length ys) x.exit dest = onward_whole a 1 x.exit dest xs ys legs.1 (All-tail (IsKnown t) x xs known) way.2 (later_legs 0 y ys each) in
      let one : 1 ≤ length here.bookings = some_join t x.entry x.exit here.bookings here.circuit.joined in
      record {
        bookings = here.bookings ++ more.bookings;
        long = omega (arith, one, more.long, length-append here.bookings more.bookings);
        circuit =
            record {
              each = All-append (IsBooked t homes w k) here.bookings more.bookings here.circuit.each more.each;
              joined = subst (λ (p : ℕ). JoinEndToEnd t p dest (here.bookings ++ more.bookings)) way.0 (join_more t x.entry x.exit dest here.bookings more.bookings here.circuit.joined more.joined);
              apart = both_apart 0 x.entry x.exit dest (length ys) here more;
            };
        living = λ l. All-append IsLiving here.bookings more.bookings (here.living l) (more.living l);
        marked = both_marked 0 x.entry x.exit dest (length ys) here more;
      }

  -- all segments of a path
  pub path_whole : (a source dest : ℕ) (xs : List Segment) (ys : List ChildConnection) → map leg_in ys ≡ legs_of t xs → All (IsKnown t) xs → IsPath t a source dest xs →
      ((i : ℕ) (x : Segment) (y : ChildConnection) → IsKnown t x → slice_get ys i ≡ Some y → leg_in y ≡ leg_of t x → IsWhole i x.entry x.exit) → IsWay (length ys) source dest
  path_whole a source dest xs ys same known way each =
      all_whole a source dest xs ys same known way (λ i x y its at leg. let from_first : i ≡ 0 + i = omega arith in subst (λ (n : ℕ). IsWhole n x.entry x.exit) from_first (each i x y its at leg))
