-- What is read off the views of a parent in any cut of a run.
use Rattle.std.proofs.Common.{ℕ, ◌≡◌, ◌∙◌, List, [], ◌∷◌, Contains, Option, Some, None, inl, inr, refl, sym, ap, subst}
use Rattle.std.proofs.lemmas.List.Elements.{Contains-append_left}
use Rattle.nsi_primitive.specs.declared.kind.Kind.{Kind}
use Rattle.nsi_primitive.specs.declared.message.Message.{Message}
use Rattle.child_connection.specs.Views.{ChildConnection, sent}
use Rattle.child_connection.specs.declared.Sent.{Sent}
use Rattle.connection_record.specs.Refusal.{place_of}
use Rattle.agent_state.specs.State.{record_at}
use Rattle.circuit_link.specs.Sides.{standing_of}
use Rattle.circuit_link.specs.Links.{InStep}
use Rattle.circuit_link.specs.Children.{Child, record_of, side_of, IsFair}
use Rattle.circuit_link.proofs.Reading.{link_stands, link_waits, link_in_step, link_commits}
use Rattle.circuit_pairs.specs.Pairs.{IsPair}
use Rattle.circuit_pairs.proofs.Placing.{mate_placed}
use Rattle.circuit_laws.specs.Laws.{IsRecordOf, HasPhases, IsInStep}

---- The record of a view

module _ (I : Type 0) (parent child : List ℕ) (xs : I → ChildConnection) (asked : List Message) (d : Child) (pair : IsPair I parent child xs asked d) (fair : IsFair parent child d) where
  pub placed : (i : I) (id : ℕ) → (xs i).connection ≡ Some id → (n : ℕ) × (pair.place i ≡ Some n) × (place_of id parent d.records ≡ Some n)
  placed i id e = mate_placed parent child (xs i) (pair.place i) d fair (pair.mates i) id e

  record_of_view : (i : I) → IsRecordOf parent (xs i) d.records (pair.place i)
  record_of_view i = record { own = (pair.mates i).seated.seated; known = placed i; unknown = λ e r. by_place (pair.place i) refl e r }
    where
      clash : (q : Sent) → None ≡ Some q → ⊥
      clash q e = cc

      by_place : (o : Option ℕ) → pair.place i ≡ o → (xs i).connection ≡ None → (xs i).reserve_request ≡ None → pair.place i ≡ None
      by_place None p e r = p
      by_place (Some n) p e r = let g = (pair.mates i).opened n p e in absurd (clash (sent g.c Kind.Reserve) (sym r ∙ g.asked))

  pub phases_of : (i : I) → HasPhases parent child d (xs i)
  phases_of i =
      let l = (pair.mates i).linked in
      record {
        place = pair.place i;
        its = record_of_view i;
        quiet = λ e. link_stands (xs i) (side_of parent child (pair.place i) d) l e;
        waiting = λ c k e. link_waits c k (xs i) (side_of parent child (pair.place i) d) l e;
      }

  pub step_of : (i : I) → IsInStep parent d (xs i)
  step_of i =
      let l = (pair.mates i).linked in
      record {
        place = pair.place i;
        its = record_of_view i;
        in_step = link_in_step (xs i) (side_of parent child (pair.place i) d) l;
        commits = λ e. link_commits (xs i) (side_of parent child (pair.place i) d) l e;
      }

  in_longer : (v : ℕ) (vs us : List ℕ) → InStep vs us → Contains vs v → Contains us v
  in_longer v vs us (inl e) i = subst (λ (z : List ℕ). Contains z v) (sym e) i
  in_longer v vs us (inr (u, e)) i = subst (λ (z : List ℕ). Contains z v) (sym e) (Contains-append_left vs (u ∷ []) v i)

  -- a committed version is among the record's
  pub stands_at : (i : I) (n v : ℕ) → pair.place i ≡ Some n → Contains (xs i).committed v → Contains (standing_of (record_at n d.records)).committed v
  unfolding record_of
  stands_at i n v p c =
      subst (λ (o : Option ℕ). Contains (standing_of (record_of o d.records)).committed v) p
      (in_longer v (xs i).committed (standing_of (record_of (pair.place i) d.records)).committed (link_in_step (xs i) (side_of parent child (pair.place i) d) (pair.mates i).linked) c)

  -- two views that know one connection are one
  pub one_knows : (i j : I) (id : ℕ) → (xs i).connection ≡ Some id → (xs j).connection ≡ Some id → i ≡ j
  one_knows i j id e f =
      let (n, p, q) = (pair.mates i).seated.known id e in
      let (k, r, s) = (pair.mates j).seated.known id f in
      let same : k ≡ n = fair.ids k n ((pair.mates j).seated.seated k r).0 ((pair.mates i).seated.seated n p).0 (s ∙ sym q) in
      pair.apart i j n p (r ∙ ap Some same)
