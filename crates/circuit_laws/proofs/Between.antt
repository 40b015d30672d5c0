-- The record of a view is between the view's two points, in any two cuts of a run.
use Rattle.std.proofs.Common.{ℕ, ◌≡◌, ◌<◌, ◌∙◌, ◌&&◌, ◌==◌, Bool, true, false, List, length, take, Contains, Some, None, bytes_eq, eqb-true, refl, sym, ap, subst, arith}
use Rattle.std.proofs.lemmas.List.Elements.{All-contains}
use Rattle.std.proofs.lemmas.List.Quantifiers.{position-Some}
use Rattle.nsi_primitive.specs.Messages.{has_rows, is_request, connection_of}
use Rattle.nsi_primitive.specs.declared.entry.Entry.{Entry}
use Rattle.nsi_primitive.specs.declared.entry.Input.{Input}
use Rattle.nsi_primitive.specs.declared.message.Body.{Body}
use Rattle.nsi_primitive.specs.declared.message.Message.{Message}
use Rattle.nsi_primitive.specs.declared.message.ReserveRequest.{ReserveRequest}
use Rattle.nsi_primitive.specs.declared.message.Service.{Service}
use Rattle.connection_record.specs.Speaking.{is_answering, is_asking, is_noting}
use Rattle.connection_record.specs.declared.record.Record.{Record}
use Rattle.child_connection.specs.Holding.{teaches}
use Rattle.child_connection.specs.Views.{ChildConnection}
use Rattle.agent_state.specs.State.{no_record, record_at, children_at, name_or}
use Rattle.aggregator_agent.specs.Setting.{Setting as AggregatorSetting}
use Rattle.nsi_agent.specs.Homes.{aggregates, home_in}
use Rattle.nsi_agent.specs.Told.{Told, told}
use Rattle.nsi_agent.specs.Said.{name_in}
use Rattle.nsi_world.specs.Heard.{WasSent, IsHeard, IsFair as IsFairWorld}
use Rattle.nsi_world.specs.Runs.{is_requester, world_after, at}
use Rattle.nsi_world.specs.Worlds.{Homes, IsAgent, World, empty, IsSent, IsTo}
use Rattle.run_growth.specs.WorldCuts.{cut, all_synced, IsGrown}
use Rattle.run_growth.proofs.Grown.{at_same, at_other, AreGrown, run_grown}
use Rattle.run_growth.proofs.Sent.{Given, given_in}
use Rattle.run_growth.proofs.WorldCuts.{grown_fair, synced_cut, cut_at}
use Rattle.circuit_link.specs.Children.{about}
use Rattle.circuit_link.specs.Headers.{header_of}
use Rattle.circuit_laws.specs.Backed.{IsBetween}
use Rattle.circuit_laws.specs.Laws.{ChildrenAreBetween}
use Rattle.circuit_laws.proofs.Facts.{told_fair, told_once, request_said, answer_said}
use Rattle.circuit_laws.proofs.Learnt.{IsTaught, IsReserved, IsFirstBetween, IsModification, IsLearnt, IsKnowing, told_learnt}
use Rattle.circuit_laws.proofs.Taught.{IsOf, CameOf, IsTaughtBy, told_taught}

-- a record of that owner has that id, and is between these points
pub record IsThere (rs : List Record) (owner : List ℕ) (id : ℕ) (from to : List ℕ) : Type 0 where
  pub place : ℕ
  pub within : place < length rs
  pub its_id : (record_at place rs).id ≡ id
  pub source : (record_at place rs).service.source ≡ from
  pub dest : (record_at place rs).service.dest ≡ to

-- what teaches a connection is an answer without rows
teaching_answers : (b : Body) (id : ℕ) → teaches b ≡ Some id → (is_answering b ≡ true) × (has_rows b ≡ false)
unfolding teaches is_answering is_asking is_noting
teaching_answers b id e = grind (arith, e)

reserve_asks : (m : Message) (q : ReserveRequest) → m.body ≡ Body.Reserve q → is_request m.body ≡ true
reserve_asks m q e = ap is_request e

reserve_same : (p q : ReserveRequest) → Body.Reserve p ≡ Body.Reserve q → p ≡ q
reserve_same p q e = cc

same_number : (n k : ℕ) → Some n ≡ Some k → n ≡ k
same_number n k e = cc

module _ (homes : Homes) (given : Given homes) (a b : ℕ) (agent : IsAgent homes a) (other : IsAgent homes b) (asked : is_requester (homes b).role ≡ false) (journal : ℕ → List Entry) (grown : IsGrown homes journal) where
  abbrev w : World
  w = all_synced journal

  abbrev parent : List ℕ
  parent = name_in (homes a).role

  abbrev child : List ℕ
  child = name_in (homes b).role

  abbrev mine : Told
  mine = told (homes a) (journal a)

  abbrev theirs : Told
  theirs = told (homes b) (journal b)

  abbrev rows : List Record
  rows = (told (homes b) (journal b)).state.base.records

  came_sent : (z : ℕ) (e : Entry) (m : Message) → Contains (journal z) e → e.input ≡ Input.Got m → IsSent homes w m × IsTo homes z m
  came_sent z e m i got =
      let fair : IsFairWorld homes w = grown_fair homes journal grown in
      let heard : IsHeard homes w z e = All-contains (IsHeard homes w z) (journal z) e (fair.heard z) i in
      subst (λ (y : Input). WasSent homes w z y) got heard.sent

  -- what taught a view was said of the record that has the id
  taught_by : (c id : ℕ) → IsTaught (journal a) child c id → IsTaughtBy (journal b) rows parent c id
  taught_by c id t =
      let m : Message = t.message in
      let s = came_sent a t.entry m t.there t.got in
      let k = teaching_answers m.body id t.teaches in
      let said : Contains (about (header_of parent child m.header.correlation) theirs.out) m.body = answer_said homes given a b agent other journal grown m s.0 s.1 k.0 k.1 t.from in
      (told_taught (homes b) asked (journal b)).said parent c id m.body (subst (λ (d : ℕ). Contains (about (header_of parent child d) theirs.out) m.body) t.under said) t.teaches

  -- the request that came is the reserve that was asked
  reserve_came : (c : ℕ) (P : ReserveRequest → Type 0) (r : Record) → r.owner ≡ parent → (came : CameOf (journal b) c r) (reserved : IsReserved mine.out child c P) → came.message.body ≡ Body.Reserve reserved.reserve
  reserve_came c P r owned came reserved =
      let m : Message = came.message in
      let s = came_sent b came.entry m came.there came.got in
      let there : Contains mine.out m = request_said homes given a b agent other journal grown m s.0 came.request (came.from ∙ owned) in
      let one : m ≡ reserved.message =
      (told_once (homes a) (journal a)).once m reserved.message there reserved.there came.request (reserve_asks reserved.message reserved.reserve reserved.body) (came.under ∙ sym reserved.under)
      in
      ap (λ (z : Message). z.body) one ∙ reserved.body

  pub learnt_there : (source dest : List ℕ) (id : ℕ) → IsLearnt (journal a) mine.out child source dest id → IsThere rows parent id source dest
  unfolding connection_of
  learnt_there source dest _ (IsLearnt.first c id t reserved) = by (taught_by c id t)
    where
      by : IsTaughtBy (journal b) rows parent c id → IsThere rows parent id source dest
      by taught = by_kind taught.came.of
        where
          r : Record
          r = record_at taught.place rows

          q : ReserveRequest
          q = reserved.reserve

          body : taught.came.message.body ≡ Body.Reserve q
          body = reserve_came c (IsFirstBetween source dest) r taught.owned taught.came reserved

          by_kind : IsOf taught.came.message r → IsThere rows parent id source dest
          by_kind (IsOf.opened p opened) =
              let same : p ≡ q = reserve_same p q (sym opened.body ∙ body) in
              record {
                place = taught.place;
                within = taught.within;
                its_id = taught.its_id;
                source = ap (λ (s : Service). s.source) opened.service ∙ (ap (λ (z : ReserveRequest). name_or z.source) same ∙ ap name_or reserved.is.points.source);
                dest = ap (λ (s : Service). s.dest) opened.service ∙ (ap (λ (z : ReserveRequest). name_or z.dest) same ∙ ap name_or reserved.is.points.dest);
              }
          by_kind (IsOf.named e) = absurd (let z : Some r.id ≡ None = sym e ∙ (ap connection_of body ∙ reserved.is.unnamed) in cc)
  learnt_there source dest _ (IsLearnt.again c id old t reserved before) = by (taught_by c id t) (learnt_there source dest old before)
    where
      by : IsTaughtBy (journal b) rows parent c id → IsThere rows parent old source dest → IsThere rows parent id source dest
      by taught there = by_kind taught.came.of
        where
          r : Record
          r = record_at taught.place rows

          q : ReserveRequest
          q = reserved.reserve

          body : taught.came.message.body ≡ Body.Reserve q
          body = reserve_came c (IsModification old) r taught.owned taught.came reserved

          by_kind : IsOf taught.came.message r → IsThere rows parent id source dest
          by_kind (IsOf.opened p opened) =
              absurd (let z : None ≡ Some old = sym opened.unnamed ∙ (ap (λ (y : ReserveRequest). y.connection) (reserve_same p q (sym opened.body ∙ body)) ∙ reserved.is) in cc)
          by_kind (IsOf.named e) =
              let same : r.id ≡ old = same_number r.id old (sym e ∙ (ap connection_of body ∙ reserved.is)) in
              subst (λ (z : ℕ). IsThere rows parent z source dest) (sym same ∙ taught.its_id) there

-- what each view knows, by the entries of both
abbrev EachIsThere : Homes → ℕ → ℕ → List Entry → List Entry → Type 0
EachIsThere homes a b es fs =
    (n id : ℕ) (x : ChildConnection) → Contains (children_at n (told (homes a) es).state.children) x → x.child ≡ name_in (homes b).role → x.connection ≡ Some id →
    IsThere (told (homes b) fs).state.base.records (name_in (homes a).role) id x.source x.dest

each_there : (homes : Homes) → Given homes → (a b : ℕ) → IsAgent homes a → IsAgent homes b → is_requester (homes b).role ≡ false → (setting : AggregatorSetting) → (homes a).role ≡ aggregates setting →
    (journal : ℕ → List Entry) → IsGrown homes journal → EachIsThere homes a b (journal a) (journal b)
each_there homes given a b agent other asked setting role journal grown n id x i named known =
    let k : IsKnowing (journal a) (told (homes a) (journal a)).out x =
    All-contains (IsKnowing (journal a) (told (homes a) (journal a)).out) (children_at n (told (homes a) (journal a)).state.children) x (told_learnt (homes a) setting role (journal a) n) i
    in
    learnt_there homes given a b agent other asked journal grown x.source x.dest id
    (subst (λ (z : List ℕ). IsLearnt (journal a) (told (homes a) (journal a)).out z x.source x.dest id) named (k.known id known))

pub first_true : (p q : Bool) → (p && q) ≡ true → p ≡ true
first_true true q h = refl
first_true false q h = absurd (cc)

pub children_are_between : ChildrenAreBetween
children_are_between t routes events sound formed routed allowed a b k j n id place setting x agent role here i below there known its = by (cut_there n id x i (below.named ∙ sym (given.named b)) known)
  where
    homes : Homes
    homes = home_in t routes

    w : World
    w = world_after empty events

    given : Given homes
    given = given_in t routes

    rs : List Record
    rs = (told (homes b) (take j (w.journal b))).state.base.records

    c : ℕ → ℕ
    c = at a k (at b j w.synced)

    grown : AreGrown homes w
    grown = run_grown homes events allowed

    cut_there : EachIsThere homes a b (take k (w.journal a)) (take j (w.journal b))
    cut_there =
        subst (λ (es : List Entry). EachIsThere homes a b es (take j (w.journal b))) (ap (λ (z : ℕ). take z (w.journal a)) (at_same a k (at b j w.synced)))
        (subst (λ (fs : List Entry). EachIsThere homes a b (cut w c a) fs) (ap (λ (z : ℕ). take z (w.journal b)) (at_other a b k (at b j w.synced) below.other ∙ at_same b j w.synced))
        (each_there homes given a b agent below.agent below.asked setting role (cut w c)
        (grown.grown c (cut_at w (at b j w.synced) a k (cut_at w w.synced b j (synced_cut w grown.within) (there.synced, there.within)) (here.synced, here.within)))))

    by : IsThere rs (name_in (homes a).role) id x.source x.dest → IsBetween x (record_at place rs)
    by one =
        let (within, test, least) = position-Some (λ (r : Record). (id == r.id) && bytes_eq (homes a).name r.owner) rs place no_record its in
        let its_id : id ≡ (record_at place rs).id = eqb-true id (record_at place rs).id (first_true (id == (record_at place rs).id) (bytes_eq (homes a).name (record_at place rs).owner) test) in
        let same : one.place ≡ place = (told_fair (homes b) (take j (w.journal b)) (name_in (homes a).role)).ids one.place place one.within within (one.its_id ∙ its_id) in
        record {
          source = ap (λ (z : ℕ). (record_at z rs).service.source) (sym same) ∙ one.source;
          dest = ap (λ (z : ℕ). (record_at z rs).service.dest) (sym same) ∙ one.dest;
        }
