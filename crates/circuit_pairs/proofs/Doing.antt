-- What a child does for a parent it was asked for, whatever entry it takes.
use Rattle.std.proofs.Common.{ℕ, ◌≡◌, ◌<◌, ◌∙◌, ◌⊎◌, inl, inr, Bool, true, false, List, [], ◌∷◌, ◌++◌, length, Contains, Option, Some, None, option_map, ◌==◌, ◌&&◌, refl, sym, ap, subst, arith, eqb-true, true≢false, get_or-set_same, get_or-set_other, length-append}
use Rattle.std.proofs.lemmas.Bool.{cases_eq}
use Rattle.nsi_primitive.specs.Messages.{connection_of, is_request}
use Rattle.nsi_primitive.specs.declared.entry.Input.{Input}
use Rattle.nsi_primitive.specs.declared.message.Body.{Body}
use Rattle.nsi_primitive.specs.declared.message.Criteria.{Criteria}
use Rattle.nsi_primitive.specs.declared.kind.ErrorName.{ErrorName}
use Rattle.nsi_primitive.specs.declared.message.Exception.{Exception}
use Rattle.nsi_primitive.specs.declared.message.Service.{Service}
use Rattle.nsi_primitive.specs.declared.message.Header.{Header}
use Rattle.nsi_primitive.specs.declared.message.Message.{Message}
use Rattle.nsi_primitive.specs.declared.message.ReserveConfirmation.{ReserveConfirmation}
use Rattle.nsi_primitive.specs.declared.message.ReserveRequest.{ReserveRequest}
use Rattle.nsi_primitive.specs.declared.state.Rsm.{Rsm}
use Rattle.nsi_primitive.specs.declared.state.Side.{Side}
use Rattle.reserve_machine.specs.Table.{step as reserve_step}
use Rattle.connection_record.specs.declared.record.Record.{Record}
use Rattle.connection_record.specs.declared.apply.Move.{Move}
use Rattle.connection_record.specs.declared.life.LifecycleMove.{LifecycleMove}
use Rattle.connection_record.specs.declared.moves.Reply.{Reply}
use Rattle.connection_record.specs.declared.moves.ReservationMove.{ReservationMove}
use Rattle.connection_record.specs.declared.provisioning.ProvisionMove.{ProvisionMove}
use Rattle.connection_record.specs.Applied.{reserve_move, moves, moves_if, requested}
use Rattle.connection_record.specs.Courses.{answering}
use Rattle.connection_record.specs.Moves.{event_of, reserves, asked_criteria, fresh, is_live}
use Rattle.connection_record.specs.Replies.{Moved, id_or, addressed}
use Rattle.connection_record.specs.Speaking.{tally}
use Rattle.connection_record.proofs.Courses.{course_after}
use Rattle.connection_record.proofs.Growing.{moves_if_later}
use Rattle.agent_state.specs.Entries.{error_reply}
use Rattle.agent_state.specs.State.{no_record, record_at}
use Rattle.circuit_link.specs.Children.{Child, goes_on, about, TellsNothing}
use Rattle.circuit_link.specs.Headers.{header_of}
use Rattle.circuit_link.specs.Serving.{IsByItself, TakeCourses, taken_by, IsTurn, IsAbout, Serves}
use Rattle.circuit_link.specs.Sides.{version_of}
use Rattle.circuit_link.proofs.Abouts.{headers_same, about_cases, addressed_in, said_under}
use Rattle.circuit_link.proofs.Answering.{only_one, not_there, IsReplied, replied_of}
use Rattle.circuit_link.proofs.Living.{is_fit, confirmed_in, unconfirmed, none_confirmed, provisions_life, provisions_rsm, provisions_pending, provisions_request, provisions_confirmed, lives_rsm, lives_pending, lives_request, lives_confirmed, reserves_life}
use Rattle.circuit_link.proofs.Opening.{last_here, last_there}
use Rattle.circuit_pairs.specs.Pairs.{IsAsked, IsReserveOf, IsTerminateOf, IsTold, IsAskedFor}

---- A request that a record takes

-- what is checked then was checked before, or is what this reserve asks
abbrev Checks : Body → ℕ → Record → Record → Type 0
Checks b c r q =
    ((r.rsm ≡ Rsm.ReserveChecking) × (q.pending ≡ r.pending) × (q.reserve_request ≡ r.reserve_request)) ⊎
    ((p : ReserveRequest) × (b ≡ Body.Reserve p) × (q.reserve_request ≡ Some c) × ((v : ℕ) → p.version ≡ Some v → option_map version_of q.pending ≡ Some v))

begun_version : (now : ℕ) (q : ReserveRequest) (cs : List Criteria) (p : Criteria) (v : ℕ) → asked_criteria now q cs ≡ Some p → q.version ≡ Some v → p.version ≡ v
begun_version now q cs p v e h = grind (arith, e, h)

reserve_checks : (k : Rsm) (q : ReserveRequest) (c now : ℕ) (p : Criteria) (r : Record) → r.rsm ≡ k → asked_criteria now q r.committed ≡ Some p → (reserves k (ReservationMove.Reserve c p) now r).rec.rsm ≡ Rsm.ReserveChecking →
    Checks (Body.Reserve q) c r (reserves k (ReservationMove.Reserve c p) now r).rec
unfolding reserves reserve_step event_of
reserve_checks Rsm.ReserveStart q c now p r e a h = inr (q, refl, refl, λ v g. ap Some (begun_version now q r.committed p v a g))
reserve_checks Rsm.ReserveChecking q c now p r e a h = inl (e, refl, refl)
reserve_checks Rsm.ReserveHeld q c now p r e a h = inl (h, refl, refl)
reserve_checks Rsm.ReserveFailed q c now p r e a h = inl (h, refl, refl)
reserve_checks Rsm.ReserveCommitting q c now p r e a h = inl (h, refl, refl)
reserve_checks Rsm.ReserveTimeout q c now p r e a h = inl (h, refl, refl)
reserve_checks Rsm.ReserveAborting q c now p r e a h = inl (h, refl, refl)

commit_checks : (k : Rsm) (c now : ℕ) (r : Record) → r.rsm ≡ k → (reserves k (ReservationMove.Commit c) now r).rec.rsm ≡ Rsm.ReserveChecking →
    (let q : Record = (reserves k (ReservationMove.Commit c) now r).rec in (r.rsm ≡ Rsm.ReserveChecking) × (q.pending ≡ r.pending) × (q.reserve_request ≡ r.reserve_request))
unfolding reserves reserve_step event_of
commit_checks Rsm.ReserveHeld c now r e h = absurd (cc)
commit_checks Rsm.ReserveStart c now r e h = (h, refl, refl)
commit_checks Rsm.ReserveChecking c now r e h = (h, refl, refl)
commit_checks Rsm.ReserveFailed c now r e h = (h, refl, refl)
commit_checks Rsm.ReserveCommitting c now r e h = (h, refl, refl)
commit_checks Rsm.ReserveTimeout c now r e h = (h, refl, refl)
commit_checks Rsm.ReserveAborting c now r e h = (h, refl, refl)

abort_checks : (k : Rsm) (c now : ℕ) (r : Record) → r.rsm ≡ k → (reserves k (ReservationMove.Abort c) now r).rec.rsm ≡ Rsm.ReserveChecking →
    (let q : Record = (reserves k (ReservationMove.Abort c) now r).rec in (r.rsm ≡ Rsm.ReserveChecking) × (q.pending ≡ r.pending) × (q.reserve_request ≡ r.reserve_request))
unfolding reserves reserve_step event_of
abort_checks Rsm.ReserveHeld c now r e h = absurd (cc)
abort_checks Rsm.ReserveFailed c now r e h = absurd (cc)
abort_checks Rsm.ReserveTimeout c now r e h = absurd (cc)
abort_checks Rsm.ReserveStart c now r e h = (h, refl, refl)
abort_checks Rsm.ReserveChecking c now r e h = (h, refl, refl)
abort_checks Rsm.ReserveCommitting c now r e h = (h, refl, refl)
abort_checks Rsm.ReserveAborting c now r e h = (h, refl, refl)

provision_checks : (side : Side) (b : Body) (c : ℕ) (move : ProvisionMove) (now : ℕ) (r : Record) → (moves side (Move.Provision move) now r).rec.rsm ≡ Rsm.ReserveChecking → Checks b c r (moves side (Move.Provision move) now r).rec
unfolding moves
provision_checks side b c move now r h = inl (sym (provisions_rsm side r.psm move now r) ∙ h, provisions_pending side r.psm move now r, provisions_request side r.psm move now r)

taken_checks : (side : Side) (b : Body) (c now : ℕ) (r : Record) → (moves_if side (requested now b c r) now r).rec.rsm ≡ Rsm.ReserveChecking → Checks b c r (moves_if side (requested now b c r) now r).rec
unfolding requested moves
taken_checks side (Body.Reserve q) c now r h = by_criteria (asked_criteria now q r.committed) refl h
  where
    by_criteria : (o : Option Criteria) → asked_criteria now q r.committed ≡ o → (moves_if side (reserve_move c o) now r).rec.rsm ≡ Rsm.ReserveChecking → Checks (Body.Reserve q) c r (moves_if side (reserve_move c o) now r).rec
    by_criteria None e h = inl (h, refl, refl)
    by_criteria (Some p) e h = reserve_checks r.rsm q c now p r refl e h
taken_checks side (Body.ReserveCommit id) c now r h = inl (commit_checks r.rsm c now r refl h)
taken_checks side (Body.ReserveAbort id) c now r h = inl (abort_checks r.rsm c now r refl h)
taken_checks side (Body.Provision id) c now r h = provision_checks side (Body.Provision id) c (ProvisionMove.Provision c) now r h
taken_checks side (Body.Release id) c now r h = provision_checks side (Body.Release id) c (ProvisionMove.Release c) now r h
taken_checks side (Body.Terminate id) c now r h =
    inl (sym (lives_rsm r.lsm (LifecycleMove.Terminate c) now r) ∙ h, lives_pending r.lsm (LifecycleMove.Terminate c) now r, lives_request r.lsm (LifecycleMove.Terminate c) now r)
taken_checks side _ c now r h = inl (h, refl, refl)

-- only a request to terminate ends it
taken_ends : (side : Side) (b : Body) (c now : ℕ) (r : Record) → is_live (moves_if side (requested now b c r) now r).rec.lsm ≡ false → (is_live r.lsm ≡ false) ⊎ ((id : ℕ) × (b ≡ Body.Terminate id))
unfolding requested moves
taken_ends side (Body.Reserve q) c now r h = by_criteria (asked_criteria now q r.committed) h
  where
    by_criteria : (o : Option Criteria) → is_live (moves_if side (reserve_move c o) now r).rec.lsm ≡ false → (is_live r.lsm ≡ false) ⊎ ((id : ℕ) × (Body.Reserve q ≡ Body.Terminate id))
    by_criteria None h = inl h
    by_criteria (Some p) h = inl (sym (ap is_live (reserves_life r.rsm (ReservationMove.Reserve c p) now r)) ∙ h)
taken_ends side (Body.ReserveCommit id) c now r h = inl (sym (ap is_live (reserves_life r.rsm (ReservationMove.Commit c) now r)) ∙ h)
taken_ends side (Body.ReserveAbort id) c now r h = inl (sym (ap is_live (reserves_life r.rsm (ReservationMove.Abort c) now r)) ∙ h)
taken_ends side (Body.Provision id) c now r h = inl (sym (ap is_live (provisions_life side r.psm (ProvisionMove.Provision c) now r)) ∙ h)
taken_ends side (Body.Release id) c now r h = inl (sym (ap is_live (provisions_life side r.psm (ProvisionMove.Release c) now r)) ∙ h)
taken_ends side (Body.Terminate id) c now r h = inr (id, refl)
taken_ends side _ c now r h = inl h

-- at once nothing is confirmed
taken_confirms : (side : Side) (b : Body) (c now : ℕ) (r : Record) → tally confirmed_in (moves_if side (requested now b c r) now r).out ≡ 0
unfolding requested moves tally is_fit
taken_confirms side (Body.Reserve q) c now r = by_criteria (asked_criteria now q r.committed)
  where
    by_criteria : (o : Option Criteria) → tally confirmed_in (moves_if side (reserve_move c o) now r).out ≡ 0
    by_criteria None = refl
    by_criteria (Some p) = none_confirmed r.rsm (ReservationMove.Reserve c p) now r refl
taken_confirms side (Body.ReserveCommit id) c now r = none_confirmed r.rsm (ReservationMove.Commit c) now r refl
taken_confirms side (Body.ReserveAbort id) c now r = none_confirmed r.rsm (ReservationMove.Abort c) now r refl
taken_confirms side (Body.Provision id) c now r = provisions_confirmed side r.psm (ProvisionMove.Provision c) now r
taken_confirms side (Body.Release id) c now r = provisions_confirmed side r.psm (ProvisionMove.Release c) now r
taken_confirms side (Body.Terminate id) c now r = lives_confirmed r.lsm (LifecycleMove.Terminate c) now r
taken_confirms side _ c now r = refl

---- The child

same_id_of : (a b : ℕ) → Some a ≡ Some b → a ≡ b
same_id_of a b e = cc

new_lives : (id : ℕ) (owner : List ℕ) (s : Service) (source dest : ℕ) → is_live (fresh id owner s source dest).lsm ≡ true
unfolding is_live
new_lives id owner s source dest = refl

-- the correlation of an answer
second_true : (a b : Bool) → (a && b) ≡ true → b ≡ true
second_true true b h = h
second_true false b h = absurd (cc)

module _ (parent name : List ℕ) (asked : List Message) (d : Child) (was : IsAskedFor parent name asked d) where
  abbrev AskedReserve : ℕ → Option ℕ → Type 0
  AskedReserve c version = IsAsked parent name c asked (IsReserveOf version)

  reserve_as : (c e : ℕ) (v w : Option ℕ) → c ≡ e → v ≡ w → AskedReserve c v → AskedReserve e w
  reserve_as c e v w p q h = subst (λ z. AskedReserve z w) p (subst (AskedReserve c) q h)

  -- what a record says by itself
  confirms_itself : (r q : Record) (said : List Reply) → IsByItself r q said → (r.rsm ≡ Rsm.ReserveChecking → AskedReserve (id_or r.reserve_request) (option_map version_of r.pending)) → (c : ℕ) (f : ReserveConfirmation) →
      Contains (answering c said) (Body.ReserveConfirmed f) → AskedReserve c (Some f.version)
  confirms_itself r q said itself checks c f i =
      let a : IsReplied c (Body.ReserveConfirmed f) said = replied_of c (Body.ReserveConfirmed f) said i in
      let w = itself.confirms a.reply f a.there a.body in
      let same : c ≡ a.reply.correlation = eqb-true c a.reply.correlation (second_true _ (c == a.reply.correlation) a.answers) in
      reserve_as (id_or r.reserve_request) c (option_map version_of r.pending) (Some f.version) (sym (same ∙ w.1)) w.2 (checks w.0)

  living : (a b : Bool) → (a ≡ true → b ≡ true) → b ≡ false → a ≡ false
  living true b f h = absurd (true≢false (sym (f refl) ∙ h))
  living false b f h = refl

  ---- Records that do something by themselves

  module _ (records : List Record) (out : List Message) (v : TakeCourses name d.records records out) where
    same_owner : (n : ℕ) → (record_at n records).owner ≡ (record_at n d.records).owner
    same_owner n = (course_after (record_at n d.records) (record_at n records) (v.said n) (v.each n)).later.owner

    same_id : (n : ℕ) → (record_at n records).id ≡ (record_at n d.records).id
    same_id n = (course_after (record_at n d.records) (record_at n records) (v.said n) (v.each n)).later.id

    courses_asked : IsAskedFor parent name asked (goes_on d records d.seen out)
    courses_asked =
        record {
          checks = λ n o e.
              let w = (v.itself n).checks e in
              reserve_as _ _ _ _ (ap id_or (sym w.2)) (ap (option_map version_of) (sym w.1)) (was.checks n (sym (same_owner n) ∙ o) w.0);
          confirms = λ c f i. confirms c f (about_cases (header_of parent name c) d.said out (Body.ReserveConfirmed f) i);
          ended = λ n o e.
              subst (λ id. IsTold parent name asked (IsTerminateOf id)) (sym (same_id n))
              (was.ended n (sym (same_owner n) ∙ o) (living (is_live (record_at n d.records).lsm) (is_live (record_at n records).lsm) (v.itself n).lives e));
        }
      where
        confirms : (c : ℕ) (f : ReserveConfirmation) → Contains (about (header_of parent name c) d.said) (Body.ReserveConfirmed f) ⊎ Contains (about (header_of parent name c) out) (Body.ReserveConfirmed f) → AskedReserve c (Some f.version)
        confirms c f (inl i) = was.confirms c f i
        confirms c f (inr i) =
            let (n, o, j) = v.only parent c (Body.ReserveConfirmed f) i in
            confirms_itself (record_at n d.records) (record_at n records) (v.said n) (v.itself n) (was.checks n o) c f j

  ---- Requests

  -- nothing is said that confirms
  same_asked : (seen : List Header) (out : List Message) → ((c : ℕ) (f : ReserveConfirmation) → Contains (about (header_of parent name c) out) (Body.ReserveConfirmed f) → ⊥) → IsAskedFor parent name asked (goes_on d d.records seen out)
  same_asked seen out none = record { checks = was.checks; confirms = λ c f i. confirms c f (about_cases (header_of parent name c) d.said out (Body.ReserveConfirmed f) i); ended = was.ended }
    where
      confirms : (c : ℕ) (f : ReserveConfirmation) → Contains (about (header_of parent name c) d.said) (Body.ReserveConfirmed f) ⊎ Contains (about (header_of parent name c) out) (Body.ReserveConfirmed f) → AskedReserve c (Some f.version)
      confirms c f (inl i) = was.confirms c f i
      confirms c f (inr i) = absurd (none c f i)

  nothing_confirms : (out : List Message) → TellsNothing out → (c : ℕ) (f : ReserveConfirmation) → Contains (about (header_of parent name c) out) (Body.ReserveConfirmed f) → ⊥
  nothing_confirms out none c f i = not_there (about (header_of parent name c) out) (Body.ReserveConfirmed f) (none (header_of parent name c)) i

  error_confirms : (out : List Message) (m : Message) (error : ErrorName) → out ≡ error_reply name m error ∷ [] → (c : ℕ) (f : ReserveConfirmation) → Contains (about (header_of parent name c) out) (Body.ReserveConfirmed f) → ⊥
  error_confirms out m error e c f i =
      let s = said_under (header_of parent name c) (Body.ReserveConfirmed f) out i in
      let q : s.message ≡ error_reply name m error = only_one (error_reply name m error) s.message (subst (λ ms. Contains ms s.message) e s.there) in
      other (connection_of m.body) _ (sym s.body ∙ ap (λ (z : Message). z.body) q)
    where
      other : (o : Option ℕ) (x : Exception) → Body.ReserveConfirmed f ≡ Body.Error o x → ⊥
      other o x e = cc

  -- a row that takes a request, and then does something by itself
  module _ (side : Side) (now : ℕ) (m : Message) (mine : m.header.requester ≡ parent → Contains asked m) (to : m.header.provider ≡ name) (rows : List Record) (n : ℕ) (l : n < length rows) (records : List Record) (out : List Message) (t : IsTurn side name now m n rows records out)
      (owner : (record_at n rows).owner ≡ m.header.requester) (named : (id : ℕ) → m.body ≡ Body.Terminate id → (record_at n rows).id ≡ id)
      (checked : (k : ℕ) → (record_at k rows).owner ≡ parent → (record_at k rows).rsm ≡ Rsm.ReserveChecking → IsAsked parent name (id_or (record_at k rows).reserve_request) asked (IsReserveOf (option_map version_of (record_at k rows).pending)))
      (dead : (k : ℕ) → (record_at k rows).owner ≡ parent → is_live (record_at k rows).lsm ≡ false → IsTold parent name asked (IsTerminateOf (record_at k rows).id)) (seen : List Header) where
    abbrev row : Record
    row = record_at n rows

    abbrev taken : Moved
    taken = taken_by side now m (record_at n rows)

    header : row.owner ≡ parent → m.header ≡ header_of parent name m.header.correlation
    header o = headers_same m.header.correlation m.header.correlation m.header.requester parent m.header.provider name refl (sym owner ∙ o) to

    taken_owner : taken.rec.owner ≡ row.owner
    taken_owner = (moves_if_later side (requested now m.body m.header.correlation row) now row).owner

    taken_id : taken.rec.id ≡ row.id
    taken_id = (moves_if_later side (requested now m.body m.header.correlation row) now row).id

    after_owner : t.after.owner ≡ row.owner
    after_owner = (course_after taken.rec t.after t.said t.course).later.owner ∙ taken_owner

    after_id : t.after.id ≡ row.id
    after_id = (course_after taken.rec t.after t.said t.course).later.id ∙ taken_id

    taken_asked : row.owner ≡ parent → taken.rec.rsm ≡ Rsm.ReserveChecking → AskedReserve (id_or taken.rec.reserve_request) (option_map version_of taken.rec.pending)
    taken_asked o e = by_checks (taken_checks side m.body m.header.correlation now row e)
      where
        by_checks : Checks m.body m.header.correlation row taken.rec → AskedReserve (id_or taken.rec.reserve_request) (option_map version_of taken.rec.pending)
        by_checks (inl (s, p, q)) = reserve_as _ _ _ _ (ap id_or (sym q)) (ap (option_map version_of) (sym p)) (checked n o s)
        by_checks (inr (q, b, r, v)) =
            record {
              message = m;
              there = mine (sym owner ∙ o);
              header = header o ∙ ap (λ z. header_of parent name z) (sym (ap id_or r));
              is = (q, b, v);
            }

    after_asked : row.owner ≡ parent → t.after.rsm ≡ Rsm.ReserveChecking → AskedReserve (id_or t.after.reserve_request) (option_map version_of t.after.pending)
    after_asked o e = let w = t.itself.checks e in reserve_as _ _ _ _ (ap id_or (sym w.2)) (ap (option_map version_of) (sym w.1)) (taken_asked o w.0)

    after_ended : row.owner ≡ parent → is_live t.after.lsm ≡ false → IsTold parent name asked (IsTerminateOf row.id)
    after_ended o e = by_end (taken_ends side m.body m.header.correlation now row (living (is_live taken.rec.lsm) (is_live t.after.lsm) t.itself.lives e))
      where
        by_end : (is_live row.lsm ≡ false) ⊎ ((id : ℕ) × (m.body ≡ Body.Terminate id)) → IsTold parent name asked (IsTerminateOf row.id)
        by_end (inl h) = dead n o h
        by_end (inr (id, b)) = (m.header.correlation, record { message = m; there = mine (sym owner ∙ o); header = header o; is = b ∙ ap Body.Terminate (sym (named id b)) })

    here : record_at n records ≡ t.after
    here = ap (record_at n) t.records ∙ get_or-set_same rows n t.after no_record l

    other : (k : ℕ) → (k ≡ n → ⊥) → record_at k records ≡ record_at k rows
    other k a = ap (record_at k) t.records ∙ get_or-set_other rows n k t.after no_record a

    confirms_new : (c : ℕ) (f : ReserveConfirmation) → Contains (about (header_of parent name c) out) (Body.ReserveConfirmed f) → AskedReserve c (Some f.version)
    confirms_new c f i =
        by_part
        (about_cases (header_of parent name c) (addressed name taken.rec.owner taken.out) t.more (Body.ReserveConfirmed f)
        (subst (λ ms. Contains (about (header_of parent name c) ms) (Body.ReserveConfirmed f)) t.spoken i))
      where
        by_part : Contains (about (header_of parent name c) (addressed name taken.rec.owner taken.out)) (Body.ReserveConfirmed f) ⊎ Contains (about (header_of parent name c) t.more) (Body.ReserveConfirmed f) → AskedReserve c (Some f.version)
        by_part (inl j) =
            let a = replied_of c (Body.ReserveConfirmed f) taken.out (addressed_in name taken.rec.owner parent c taken.out (Body.ReserveConfirmed f) j).1 in
            absurd (unconfirmed taken.out (taken_confirms side m.body m.header.correlation now row) a.reply f a.there a.body)
        by_part (inr j) =
            let w = t.tells.only parent c (Body.ReserveConfirmed f) j in
            confirms_itself taken.rec t.after t.said t.itself (taken_asked (sym after_owner ∙ w.0)) c f w.1

    turn_asked : IsAskedFor parent name asked (goes_on d records seen out)
    turn_asked =
        record {
          checks = λ k o e. checks k (cases_eq k n) o e;
          confirms = λ c f i. confirms c f (about_cases (header_of parent name c) d.said out (Body.ReserveConfirmed f) i);
          ended = λ k o e. ended k (cases_eq k n) o e;
        }
      where
        checks : (k : ℕ) → (k ≡ n) ⊎ (k ≡ n → ⊥) → (record_at k records).owner ≡ parent → (record_at k records).rsm ≡ Rsm.ReserveChecking → AskedReserve (id_or (record_at k records).reserve_request) (option_map version_of (record_at k records).pending)
        checks k (inl q) o e =
            let same : record_at k records ≡ t.after = ap (λ z. record_at z records) q ∙ here in
            subst (λ (z : Record). AskedReserve (id_or z.reserve_request) (option_map version_of z.pending)) (sym same)
            (after_asked (sym after_owner ∙ sym (ap (λ (z : Record). z.owner) same) ∙ o) (sym (ap (λ (z : Record). z.rsm) same) ∙ e))
        checks k (inr a) o e =
            let same : record_at k records ≡ record_at k rows = other k a in
            subst (λ (z : Record). AskedReserve (id_or z.reserve_request) (option_map version_of z.pending)) (sym same)
            (checked k (sym (ap (λ (z : Record). z.owner) same) ∙ o) (sym (ap (λ (z : Record). z.rsm) same) ∙ e))

        ended : (k : ℕ) → (k ≡ n) ⊎ (k ≡ n → ⊥) → (record_at k records).owner ≡ parent → is_live (record_at k records).lsm ≡ false → IsTold parent name asked (IsTerminateOf (record_at k records).id)
        ended k (inl q) o e =
            let same : record_at k records ≡ t.after = ap (λ z. record_at z records) q ∙ here in
            subst (λ id. IsTold parent name asked (IsTerminateOf id)) (sym (ap (λ (z : Record). z.id) same ∙ after_id))
            (after_ended (sym after_owner ∙ sym (ap (λ (z : Record). z.owner) same) ∙ o) (sym (ap (λ (z : Record). is_live z.lsm) same) ∙ e))
        ended k (inr a) o e =
            let same : record_at k records ≡ record_at k rows = other k a in
            subst (λ id. IsTold parent name asked (IsTerminateOf id)) (sym (ap (λ (z : Record). z.id) same))
            (dead k (sym (ap (λ (z : Record). z.owner) same) ∙ o) (sym (ap (λ (z : Record). is_live z.lsm) same) ∙ e))

        confirms : (c : ℕ) (f : ReserveConfirmation) → Contains (about (header_of parent name c) d.said) (Body.ReserveConfirmed f) ⊎ Contains (about (header_of parent name c) out) (Body.ReserveConfirmed f) → AskedReserve c (Some f.version)
        confirms c f (inl i) = was.confirms c f i
        confirms c f (inr i) = confirms_new c f i

  ---- Any entry

  ends_here : (now : ℕ) (m : Message) (n : ℕ) → IsAbout now name m n d → (id : ℕ) → m.body ≡ Body.Terminate id → (record_at n d.records).id ≡ id
  unfolding connection_of
  ends_here now m n a id e = a.its_id ∙ same_id_of a.id id (sym a.names ∙ ap connection_of e)

  pub serving_asked : (input : Input) (records : List Record) (seen : List Header) (out : List Message) → ((m : Message) → input ≡ Input.Got m → is_request m.body ≡ true → m.header.requester ≡ parent → Contains asked m) →
      Serves name input d records seen out → IsAskedFor parent name asked (goes_on d records seen out)
  serving_asked input records seen out mine (Serves.acts e v) = subst (λ hs. IsAskedFor parent name asked (goes_on d records hs out)) (sym e) (courses_asked records out v)
  serving_asked input records seen out mine (Serves.leaves m w k r o) = subst (λ rs. IsAskedFor parent name asked (goes_on d rs seen out)) (sym r) (same_asked seen out (nothing_confirms out o))
  serving_asked input records seen out mine (Serves.refuses m error now w v r o) = subst (λ rs. IsAskedFor parent name asked (goes_on d rs seen out)) (sym r) (same_asked seen out (error_confirms out m error o))
  serving_asked input records seen out mine (Serves.takes m n side now w a t) =
      turn_asked side now m (λ r. mine m w.got w.request r) a.provider d.records n a.within records out t a.owner (ends_here now m n a) was.checks was.ended seen
  serving_asked input records seen out mine (Serves.opens m id s source dest side now w b t) =
      turn_asked side now m (λ r. mine m w.got w.request r) b.provider (d.records ++ new ∷ []) (length d.records) (omega (arith, length-append d.records (new ∷ []))) records out t
      (ap (λ (z : Record). z.owner) at_last) (λ i e. absurd (no_terminate i (sym b.body ∙ e))) (λ k. checked k (cases_eq k (length d.records))) (λ k. dead k (cases_eq k (length d.records))) seen
    where
      new : Record
      new = fresh id m.header.requester s source dest

      at_last : record_at (length d.records) (d.records ++ new ∷ []) ≡ new
      at_last = last_here d.records new no_record

      no_terminate : (i : ℕ) → Body.Reserve b.reserve ≡ Body.Terminate i → ⊥
      no_terminate i e = cc

      checked : (k : ℕ) → (k ≡ length d.records) ⊎ (k ≡ length d.records → ⊥) → (let r : Record = record_at k (d.records ++ new ∷ []) in r.owner ≡ parent → r.rsm ≡ Rsm.ReserveChecking → AskedReserve (id_or r.reserve_request) (option_map version_of r.pending))
      checked k (inl q) o e = let same : record_at k (d.records ++ new ∷ []) ≡ new = ap (λ z. record_at z (d.records ++ new ∷ [])) q ∙ at_last in absurd (let w = sym (ap (λ (z : Record). z.rsm) same) ∙ e in cc)
      checked k (inr a) o e =
          let same : record_at k (d.records ++ new ∷ []) ≡ record_at k d.records = last_there d.records new no_record k a in
          subst (λ (z : Record). AskedReserve (id_or z.reserve_request) (option_map version_of z.pending)) (sym same)
          (was.checks k (sym (ap (λ (z : Record). z.owner) same) ∙ o) (sym (ap (λ (z : Record). z.rsm) same) ∙ e))

      dead : (k : ℕ) → (k ≡ length d.records) ⊎ (k ≡ length d.records → ⊥) → (let r : Record = record_at k (d.records ++ new ∷ []) in r.owner ≡ parent → is_live r.lsm ≡ false → IsTold parent name asked (IsTerminateOf r.id))
      dead k (inl q) o e =
          let same : record_at k (d.records ++ new ∷ []) ≡ new = ap (λ z. record_at z (d.records ++ new ∷ [])) q ∙ at_last in
          absurd (true≢false (sym (new_lives id m.header.requester s source dest) ∙ sym (ap (λ (z : Record). is_live z.lsm) same) ∙ e))
      dead k (inr a) o e =
          let same : record_at k (d.records ++ new ∷ []) ≡ record_at k d.records = last_there d.records new no_record k a in
          subst (λ i. IsTold parent name asked (IsTerminateOf i)) (sym (ap (λ (z : Record). z.id) same))
          (was.ended k (sym (ap (λ (z : Record). z.owner) same) ∙ o) (sym (ap (λ (z : Record). is_live z.lsm) same) ∙ e))
