-- The record of a requester's view is between the view's two points, in any two cuts of a run.
use Rattle.std.proofs.Common.{ℕ, ◌≡◌, ◌∙◌, ◌&&◌, ◌==◌, false, List, take, Contains, Some, bytes_eq, eqb-true, sym, ap, subst}
use Rattle.std.proofs.lemmas.List.Elements.{All-contains}
use Rattle.std.proofs.lemmas.List.Quantifiers.{position-Some}
use Rattle.nsi_primitive.specs.declared.entry.Entry.{Entry}
use Rattle.connection_record.specs.declared.record.Record.{Record}
use Rattle.child_connection.specs.Views.{ChildConnection}
use Rattle.agent_state.specs.State.{no_record, record_at}
use Rattle.agent_state.specs.declared.parent.View.{View}
use Rattle.requester_agent.specs.Setting.{Setting}
use Rattle.nsi_agent.specs.Homes.{requests, home_in}
use Rattle.nsi_agent.specs.Told.{Told, told}
use Rattle.nsi_agent.specs.Said.{name_in}
use Rattle.nsi_world.specs.Runs.{is_requester, world_after, at}
use Rattle.nsi_world.specs.Worlds.{Homes, IsAgent, World, empty}
use Rattle.run_growth.specs.WorldCuts.{cut, IsGrown}
use Rattle.run_growth.proofs.Grown.{at_same, at_other, AreGrown, run_grown}
use Rattle.run_growth.proofs.Sent.{Given, given_in}
use Rattle.run_growth.proofs.WorldCuts.{synced_cut, cut_at}
use Rattle.circuit_laws.specs.Backed.{IsBetween}
use Rattle.circuit_laws.proofs.Facts.{told_fair}
use Rattle.circuit_laws.proofs.Between.{IsThere, learnt_there, first_true}
use Rattle.circuit_laws.proofs.Learnt.{IsLearnt, IsKnowing}
use Rattle.requester_views.specs.Laws.{ViewsAreBetween}
use Rattle.requester_views.proofs.Learnt.{told_learnt}

-- what teaches a connection is an answer without rows
-- what each view knows, by the entries of both
abbrev EachIsThere : Homes → ℕ → ℕ → List Entry → List Entry → Type 0
EachIsThere homes a b es fs =
    (id : ℕ) (v : View) → Contains (told (homes a) es).state.views v → v.child.child ≡ name_in (homes b).role → v.child.connection ≡ Some id →
    IsThere (told (homes b) fs).state.base.records (name_in (homes a).role) id v.child.source v.child.dest

each_there : (homes : Homes) → Given homes → (a b : ℕ) → IsAgent homes a → IsAgent homes b → is_requester (homes b).role ≡ false → (setting : Setting) → (homes a).role ≡ requests setting →
    (journal : ℕ → List Entry) → IsGrown homes journal → EachIsThere homes a b (journal a) (journal b)
each_there homes given a b agent other asked setting role journal grown id v i named known =
    let mine : Told = told (homes a) (journal a) in
    let x : ChildConnection = v.child in
    let k : IsKnowing (journal a) mine.out x = All-contains (λ (u : View). IsKnowing (journal a) mine.out u.child) mine.state.views v (told_learnt (homes a) setting role (journal a)) i in
    learnt_there homes given a b agent other asked journal grown x.source x.dest id (subst (λ (z : List ℕ). IsLearnt (journal a) mine.out z x.source x.dest id) named (k.known id known))

pub views_are_between : ViewsAreBetween
views_are_between t routes events sound formed routed allowed a b k j id place setting v agent role here i below there known its = by (cut_there id v i (below.named ∙ sym (given.named b)) known)
  where
    homes : Homes
    homes = home_in t routes

    w : World
    w = world_after empty events

    given : Given homes
    given = given_in t routes

    rs : List Record
    rs = (told (homes b) (take j (w.journal b))).state.base.records

    c : ℕ → ℕ
    c = at a k (at b j w.synced)

    grown : AreGrown homes w
    grown = run_grown homes events allowed

    cut_there : EachIsThere homes a b (take k (w.journal a)) (take j (w.journal b))
    cut_there =
        subst (λ (es : List Entry). EachIsThere homes a b es (take j (w.journal b))) (ap (λ (z : ℕ). take z (w.journal a)) (at_same a k (at b j w.synced)))
        (subst (λ (fs : List Entry). EachIsThere homes a b (cut w c a) fs) (ap (λ (z : ℕ). take z (w.journal b)) (at_other a b k (at b j w.synced) below.other ∙ at_same b j w.synced))
        (each_there homes given a b agent below.agent below.asked setting role (cut w c)
        (grown.grown c (cut_at w (at b j w.synced) a k (cut_at w w.synced b j (synced_cut w grown.within) (there.synced, there.within)) (here.synced, here.within)))))

    by : IsThere rs (name_in (homes a).role) id v.child.source v.child.dest → IsBetween v.child (record_at place rs)
    by one =
        let (within, test, least) = position-Some (λ (r : Record). (id == r.id) && bytes_eq (homes a).name r.owner) rs place no_record its in
        let its_id : id ≡ (record_at place rs).id = eqb-true id (record_at place rs).id (first_true (id == (record_at place rs).id) (bytes_eq (homes a).name (record_at place rs).owner) test) in
        let same : one.place ≡ place = (told_fair (homes b) (take j (w.journal b)) (name_in (homes a).role)).ids one.place place one.within within (one.its_id ∙ its_id) in
        record {
          source = ap (λ (z : ℕ). (record_at z rs).service.source) (sym same) ∙ one.source;
          dest = ap (λ (z : ℕ). (record_at z rs).service.dest) (sym same) ∙ one.dest;
        }
