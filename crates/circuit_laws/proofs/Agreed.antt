-- How the criteria of an aggregator's own record stand against those of its children's records, by what the aggregator does.
use Rattle.std.proofs.Common.{ℕ, zero, suc, ◌≡◌, ◌∙◌, ◌<◌, ◌≤◌, ◌⊎◌, inl, inr, Bool, true, false, List, [], ◌∷◌, ◌++◌, length, length-append, map, Contains, Option, Some, None, sym, ap, subst, arith}
use Rattle.std.proofs.lemmas.List.{length-map}
use Rattle.std.proofs.lemmas.List.Elements.{All-contains, Contains-append_cases}
use Rattle.nsi_primitive.specs.Messages.{error_of}
use Rattle.nsi_primitive.specs.declared.kind.ErrorName.{ErrorName}
use Rattle.nsi_primitive.specs.declared.kind.Kind.{Kind}
use Rattle.nsi_primitive.specs.declared.message.Body.{Body}
use Rattle.nsi_primitive.specs.declared.message.Criteria.{Criteria}
use Rattle.nsi_primitive.specs.declared.state.Rsm.{Rsm}
use Rattle.connection_record.specs.declared.record.Record.{Record}
use Rattle.connection_record.specs.Moves.{is_live}
use Rattle.child_connection.specs.declared.state.Sent.{Sent}
use Rattle.child_connection.specs.Hearing.{hears, refused, push_version}
use Rattle.child_connection.specs.Views.{ChildConnection, sent, is_kind, is_open}
use Rattle.agent_state.specs.State.{record_at}
use Rattle.circuit_fit.proofs.Owning.{IsAsBefore}
use Rattle.circuit_link.specs.Children.{Child, record_of, side_of, IsFair}
use Rattle.circuit_link.specs.Links.{InStep}
use Rattle.circuit_link.specs.Mates.{IsMate}
use Rattle.circuit_link.specs.Sides.{version_of, standing_of}
use Rattle.circuit_link.proofs.Reading.{link_in_step}
use Rattle.circuit_link.proofs.Taking.{calm_of}
use Rattle.circuit_laws.proofs.Meant.{IsFree}
use Rattle.circuit_laws.proofs.Settled.{IsDone, CommitsBelow, IsSettled}

---- What is kept

-- the record of the parent at that place is the one that the view knows
pub record IsRowOf (parent : List ℕ) (x : ChildConnection) (rs : List Record) (n : ℕ) : Type 0 where
  pub within : n < length rs
  pub owned : (record_at n rs).owner ≡ parent
  pub known : x.connection ≡ Some (record_at n rs).id

-- and it has these criteria as committed
pub record HasIt (parent : List ℕ) (x : ChildConnection) (rs : List Record) (k : Criteria) : Type 0 where
  pub place : ℕ
  pub row : IsRowOf parent x rs place
  pub has : Contains (record_at place rs).committed k

-- the own record lives, and commits these criteria
pub record Commits (own : Record) (k : Criteria) : Type 0 where
  pub live : is_live own.lsm ≡ true
  pub state : own.rsm ≡ Rsm.ReserveCommitting
  pub pending : own.pending ≡ Some k

-- What the own record has as committed the child's record has. While the own record commits, the child's has what it commits as soon as it has
-- committed more than the view knows of, and so it has where the child has answered without an error.
pub record IsAgreed (parent : List ℕ) (own : Record) (x : ChildConnection) (rs : List Record) : Type 0 where
  pub has : (k : Criteria) → Contains own.committed k → HasIt parent x rs k
  pub joined : (k : Criteria) → Commits own k → (n : ℕ) → IsRowOf parent x rs n → length x.committed < length (record_at n rs).committed → Contains (record_at n rs).committed k
  pub done : (k : Criteria) → Commits own k → IsDone x → HasIt parent x rs k

abbrev KeepsKnown : ChildConnection → ChildConnection → Type 0
KeepsKnown x y = (id : ℕ) → x.connection ≡ Some id → y.connection ≡ Some id

pub row_then : (parent : List ℕ) (x y : ChildConnection) (rs : List Record) (n : ℕ) → KeepsKnown x y → IsRowOf parent x rs n → IsRowOf parent y rs n
row_then parent x y rs n known row = record { within = row.within; owned = row.owned; known = known (record_at n rs).id row.known }

pub has_then : (parent : List ℕ) (x y : ChildConnection) (rs : List Record) (k : Criteria) → KeepsKnown x y → HasIt parent x rs k → HasIt parent y rs k
has_then parent x y rs k known h = record { place = h.place; row = row_then parent x y rs h.place known h.row; has = h.has }

---- The own record settles

in_one : (k : Criteria) (c : Criteria) → Contains (c ∷ []) k → k ≡ c
in_one k c (zero, l, e) = sym e
in_one k c (suc n, l, e) = absurd (omega (arith, l))

pub agreed_then : (parent : List ℕ) (r q : Record) (ys : List ChildConnection) (y : ChildConnection) (rs : List Record) → IsSettled r q ys → Contains ys y → IsAgreed parent r y rs → IsAgreed parent q y rs
agreed_then parent r q ys y rs settled there h =
    record {
      has = λ k i. by k i settled.keeps.committed settled.done;
      joined = λ k c n row longer. h.joined k (before k c) n row longer;
      done = λ k c d. h.done k (before k c) d;
    }
  where
    before : (k : Criteria) → Commits q k → Commits r k
    before k c = record { live = settled.lives c.live; state = settled.keeps.commits c.state; pending = settled.keeps.pending k c.pending }

    by : (k : Criteria) → Contains q.committed k → (q.committed ≡ r.committed) ⊎ ((c : Criteria) × (r.rsm ≡ Rsm.ReserveCommitting) × (r.pending ≡ Some c) × (q.committed ≡ r.committed ++ c ∷ []) × (q.pending ≡ None)) → CommitsBelow r q ys → HasIt parent y rs k
    by k i (inl e) d = h.has k (subst (λ (ks : List Criteria). Contains ks k) e i)
    by k i (inr w) (inl e) = h.has k (subst (λ (ks : List Criteria). Contains ks k) e i)
    by k i (inr (c, state, held, e, gone)) (inr (live, all)) = by_part (Contains-append_cases r.committed (c ∷ []) k (subst (λ (ks : List Criteria). Contains ks k) e i))
      where
        by_part : Contains r.committed k ⊎ Contains (c ∷ []) k → HasIt parent y rs k
        by_part (inl j) = h.has k j
        by_part (inr j) = h.done k (record { live = live; state = state; pending = subst (λ (z : Criteria). r.pending ≡ Some z) (sym (in_one k c j)) held }) (All-contains IsDone ys y all there)

pub agreed_rests : (parent : List ℕ) (r q : Record) (y : ChildConnection) (rs : List Record) → IsAsBefore r q → IsAgreed parent r y rs → IsAgreed parent q y rs
agreed_rests parent r q y rs a h =
    record {
      has = λ k i. h.has k (subst (λ (ks : List Criteria). Contains ks k) a.committed i);
      joined = λ k c n row longer. h.joined k (before k c) n row longer;
      done = λ k c d. h.done k (before k c) d;
    }
  where
    before : (k : Criteria) → Commits q k → Commits r k
    before k c = record { live = a.lives c.live; state = sym a.rsm ∙ c.state; pending = sym a.pending ∙ c.pending }

---- A view and its record

same_number : (n k : ℕ) → Some n ≡ Some k → n ≡ k
same_number n k e = cc

module _ (parent child : List ℕ) (d : Child) (fair : IsFair parent child d) (x : ChildConnection) (place : Option ℕ) (mate : IsMate parent child x place d) where
  pub row_place : (n : ℕ) → IsRowOf parent x d.records n → place ≡ Some n
  row_place n row =
      let s = mate.seated.known (record_at n d.records).id row.known in
      s.1 ∙ ap (λ (z : ℕ). Some z) (fair.ids s.0 n (mate.seated.seated s.0 s.1).0 row.within s.2)

  pub known_row : (id : ℕ) → x.connection ≡ Some id → (n : ℕ) × IsRowOf parent x d.records n
  known_row id e =
      let s = mate.seated.known id e in
      let w = mate.seated.seated s.0 s.1 in
      (s.0, record { within = w.0; owned = w.1; known = e ∙ ap (λ (z : ℕ). Some z) (sym s.2) })

  -- a view that has nothing unanswered knows of all that is committed
  pub free_even : (n : ℕ) → IsRowOf parent x d.records n → IsFree x → length x.committed ≡ length (record_at n d.records).committed
  unfolding record_of
  free_even n row free =
      let same : x.committed ≡ (standing_of (record_of place d.records)).committed = (calm_of x (side_of parent child place d) mate.linked free).quiet.same in
      ap length (subst (λ (o : Option ℕ). x.committed ≡ (standing_of (record_of o d.records)).committed) (row_place n row) same) ∙ length-map (record_at n d.records).committed version_of

  pub not_longer : (n : ℕ) → IsRowOf parent x d.records n → length x.committed ≤ length (record_at n d.records).committed
  unfolding record_of
  not_longer n row = by (subst (λ (o : Option ℕ). InStep x.committed (standing_of (record_of o d.records)).committed) (row_place n row) (link_in_step x (side_of parent child place d) mate.linked))
    where
      by : InStep x.committed (map version_of (record_at n d.records).committed) → length x.committed ≤ length (record_at n d.records).committed
      by (inl e) = omega (arith, ap length e, length-map (record_at n d.records).committed version_of)
      by (inr (v, e)) = omega (arith, ap length e, length-append x.committed (v ∷ []), length-map (record_at n d.records).committed version_of)

---- A view that hears

free_refused : (p l : Bool) (name : ErrorName) (x : ChildConnection) → (refused false p l name x).view.error ≡ None → x.error ≡ None
free_refused true l name x e = e
free_refused false true name x e = absurd (cc)
free_refused false false name x e = e

-- a child that has nothing unanswered takes no error back
pub free_error : (b : Body) (c : ℕ) (x : ChildConnection) → IsFree x → (hears b c x).view.error ≡ None → x.error ≡ None
unfolding hears
free_error (Body.ReserveResponse id) c x f e = grind (arith, f, e)
free_error (Body.ReserveConfirmed r) c x f e = grind (arith, f, e)
free_error (Body.ReserveFailed id ex) c x f e = grind (arith, f, e)
free_error (Body.ReserveTimeout t) c x f e = grind (arith, f, e)
free_error (Body.ReserveCommitConfirmed id) c x f e = grind (arith, f, e)
free_error (Body.ReserveCommitFailed id ex) c x f e = grind (arith, f, e)
free_error (Body.ReserveAbortConfirmed id) c x f e = grind (arith, f, e)
free_error (Body.Error id ex) c x f e =
    free_refused (is_open x.provision_request c) (is_open x.lifecycle_request c) (error_of ex.cause) x
    (subst (λ (o : Option Sent). (refused (is_open o c) (is_open x.provision_request c) (is_open x.lifecycle_request c) (error_of ex.cause) x).view.error ≡ None) f e)
free_error (Body.ProvisionConfirmed id) c x f e = grind (arith, f, e)
free_error (Body.ReleaseConfirmed id) c x f e = grind (arith, f, e)
free_error (Body.TerminateConfirmed id) c x f e = grind (arith, f, e)
free_error (Body.ErrorEvent r) c x f e = grind (arith, f, e)
free_error (Body.DataPlaneStateChange n) c x f e = grind (arith, f, e)
free_error _ c x f e = e

refused_done : (a p l : Bool) (name : ErrorName) (x : ChildConnection) (q : Sent) → x.reserve_request ≡ Some q → (refused a p l name x).view.reserve_request ≡ None → (refused a p l name x).view.error ≡ None → ⊥
refused_done true p l name x q f g e = cc
refused_done false true l name x q f g e = cc
refused_done false false true name x q f g e = cc
refused_done false false false name x q f g e = cc

-- the answer to a commit without an error is its confirmation
pub done_commits : (b : Body) (c d : ℕ) (x : ChildConnection) → x.reserve_request ≡ Some (sent d Kind.ReserveCommit) → (hears b c x).view.reserve_request ≡ None → (hears b c x).view.error ≡ None → (hears b c x).view.committed ≡ push_version x.committed x.pending
unfolding hears is_kind
done_commits (Body.ReserveResponse id) c d x f g e = grind (arith, f, g, e)
done_commits (Body.ReserveConfirmed r) c d x f g e = grind (arith, f, g, e)
done_commits (Body.ReserveFailed id ex) c d x f g e = grind (arith, f, g, e)
done_commits (Body.ReserveTimeout t) c d x f g e = grind (arith, f, g, e)
done_commits (Body.ReserveCommitConfirmed id) c d x f g e = grind (arith, f, g, e)
done_commits (Body.ReserveCommitFailed id ex) c d x f g e = grind (arith, f, g, e)
done_commits (Body.ReserveAbortConfirmed id) c d x f g e = grind (arith, f, g, e)
done_commits (Body.Error id ex) c d x f g e = absurd (refused_done (is_open x.reserve_request c) (is_open x.provision_request c) (is_open x.lifecycle_request c) (error_of ex.cause) x (sent d Kind.ReserveCommit) f g e)
done_commits (Body.ProvisionConfirmed id) c d x f g e = grind (arith, f, g, e)
done_commits (Body.ReleaseConfirmed id) c d x f g e = grind (arith, f, g, e)
done_commits (Body.TerminateConfirmed id) c d x f g e = grind (arith, f, g, e)
done_commits (Body.ErrorEvent r) c d x f g e = grind (arith, f, g, e)
done_commits (Body.DataPlaneStateChange n) c d x f g e = grind (arith, f, g, e)
done_commits _ c d x f g e = absurd (let z : None ≡ Some (sent d Kind.ReserveCommit) = sym g ∙ f in cc)
