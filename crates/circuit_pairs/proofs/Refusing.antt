-- An abort of a child that has something to give back is refused only where its record doesn't live.
use Rattle.std.proofs.Common.{ℕ, ◌≡◌, ◌∙◌, ◌⊎◌, inl, inr, Bool, true, false, List, [], ◌∷◌, ◌++◌, length, Contains, Option, Some, None, ◌==◌, refl, sym, ap, subst, arith, eqb-true}
use Rattle.std.proofs.lemmas.Bool.{cases_eq}
use Rattle.nsi_primitive.specs.Kinds.{kind_number, is_request_kind}
use Rattle.nsi_primitive.specs.Messages.{kind_of, connection_of, is_request}
use Rattle.nsi_primitive.specs.declared.entry.Input.{Input}
use Rattle.nsi_primitive.specs.declared.kind.ErrorName.{ErrorName}
use Rattle.nsi_primitive.specs.declared.kind.Kind.{Kind}
use Rattle.nsi_primitive.specs.declared.message.Body.{Body}
use Rattle.nsi_primitive.specs.declared.message.Criteria.{Criteria}
use Rattle.nsi_primitive.specs.declared.message.Exception.{Exception}
use Rattle.nsi_primitive.specs.declared.message.Header.{Header}
use Rattle.nsi_primitive.specs.declared.message.Message.{Message}
use Rattle.nsi_primitive.specs.declared.state.Lsm.{Lsm}
use Rattle.nsi_primitive.specs.declared.state.Psm.{Psm}
use Rattle.nsi_primitive.specs.declared.state.Rsm.{Rsm}
use Rattle.nsi_primitive.specs.declared.state.Side.{Side}
use Rattle.message_retry.specs.Taken.{is_taken}
use Rattle.provision_machine.specs.Table.{step as provision_step}
use Rattle.reserve_machine.specs.Table.{step as reserve_step}
use Rattle.lifecycle_machine.specs.Table.{step as lifecycle_step}
use Rattle.connection_record.specs.declared.record.Record.{Record}
use Rattle.connection_record.specs.declared.life.LifecycleMove.{LifecycleMove}
use Rattle.connection_record.specs.declared.moves.Reply.{Reply}
use Rattle.connection_record.specs.declared.moves.ReservationMove.{ReservationMove}
use Rattle.connection_record.specs.declared.provisioning.ProvisionMove.{ProvisionMove}
use Rattle.connection_record.specs.Applied.{reserve_move, moves, moves_if, requested}
use Rattle.connection_record.specs.Courses.{IsAlone, answering, Course}
use Rattle.connection_record.specs.Lives.{provision_event, provisions, lifecycle_event, lives}
use Rattle.connection_record.specs.Moves.{event_of, reserves, asked_criteria, fresh, is_live}
use Rattle.connection_record.specs.Refusal.{has_row, is_in_place, modification_refusal, record_refusal, place_of}
use Rattle.connection_record.specs.Replies.{Moved, addressed}
use Rattle.connection_record.specs.Speaking.{one, tally, number_of, answers_as, owed, owed_reserve}
use Rattle.connection_record.specs.Ids.{is_id}
use Rattle.connection_record.proofs.Courses.{course_after}
use Rattle.connection_record.proofs.Growing.{moves_if_later}
use Rattle.connection_record.proofs.Saying.{takes_speaks}
use Rattle.child_connection.specs.declared.state.Phase.{Phase}
use Rattle.child_connection.specs.Views.{ChildConnection, sent}
use Rattle.child_connection.specs.Holding.{is_reservation, IsHeeded}
use Rattle.child_connection.specs.Standing.{Rests, back}
use Rattle.aggregator_agent.specs.Asking.{may_abort}
use Rattle.agent_state.specs.Entries.{error_reply}
use Rattle.agent_state.specs.State.{no_record, record_at}
use Rattle.circuit_link.specs.Children.{Child, about, record_of, side_of, IsFair}
use Rattle.circuit_link.specs.Headers.{header_of}
use Rattle.circuit_link.specs.Mates.{IsMate}
use Rattle.circuit_link.specs.Serving.{taken_by, IsTurn, IsRefused, Serves}
use Rattle.circuit_link.specs.Sides.{standing_of}
use Rattle.circuit_link.proofs.Abouts.{same_header, headers_same, about_cases, addressed_in, said_under}
use Rattle.circuit_link.proofs.Answering.{same_some, only_one, not_there, IsReplied, replied_of, tally_there, counted_as}
use Rattle.circuit_link.proofs.Likeness.{open_itself}
use Rattle.circuit_link.proofs.Minding.{owes_less}
use Rattle.circuit_link.proofs.Opening.{last_here, fresh_owed}
use Rattle.circuit_link.proofs.Owning.{reservation_alone}
use Rattle.circuit_link.proofs.Taking.{unseen_view}
use Rattle.circuit_pairs.specs.Pairs.{IsAsked, IsOfReservation, IsSame, IsTerminateOf, IsTold, IsAskedFor, IsOnce}
use Rattle.circuit_pairs.proofs.Placing.{mate_placed}

---- Kinds of requests

kind_asks : (k : Kind) → is_reservation k ≡ true → is_request_kind k ≡ true
unfolding is_reservation
kind_asks k e = grind arith

pub reserving_asks : (m : Message) → is_reservation (kind_of m.body) ≡ true → is_request m.body ≡ true
reserving_asks m e = kind_asks (kind_of m.body) e

---- Errors

abbrev error_number : ℕ
error_number = kind_number Kind.Error

unfoldable is_error : Body → Bool
is_error (Body.Error o e) = true
is_error _ = false

abbrev error_in : Reply → Bool
error_in y = is_error y.body

-- the reservation machine and the lifecycle owe no errors
error_unowed : (k : Rsm) (c : ℕ) (r : Record) → owed_reserve k c error_number r ≡ 0
unfolding owed_reserve kind_number
error_unowed k c r = grind arith

error_of : (o : Option ℕ) (e : Exception) → number_of (Body.Error o e) ≡ error_number
unfolding number_of
error_of o e = refl

no_errors : (out : List Reply) → tally error_in out ≡ 0 → (y : Reply) (o : Option ℕ) (e : Exception) → Contains out y → y.body ≡ Body.Error o e → ⊥
unfolding is_error
no_errors out t y o e i b = omega (arith, t, tally_there error_in y out i (ap is_error b))

reserves_errors : (k : Rsm) (move : ReservationMove) (now : ℕ) (r : Record) → tally error_in (reserves k move now r).out ≡ 0
unfolding reserves reserve_step event_of is_error tally
reserves_errors k move now r = grind arith

provision_errors : (side : Side) (k : Psm) (c now : ℕ) (r : Record) → tally error_in (provisions side k (ProvisionMove.Provision c) now r).out ≡ 0
unfolding provisions provision_step provision_event is_error tally
provision_errors side k c now r = grind arith

release_errors : (side : Side) (k : Psm) (c now : ℕ) (r : Record) → tally error_in (provisions side k (ProvisionMove.Release c) now r).out ≡ 0
unfolding provisions provision_step provision_event is_error tally
release_errors side k c now r = grind arith

terminate_errors : (k : Lsm) (c now : ℕ) (r : Record) → tally error_in (lives k (LifecycleMove.Terminate c) now r).out ≡ 0
unfolding lives lifecycle_step lifecycle_event is_error tally
terminate_errors k c now r = grind arith

-- a request that is taken isn't answered by an error at once
taken_errors : (side : Side) (b : Body) (c now : ℕ) (r : Record) → tally error_in (moves_if side (requested now b c r) now r).out ≡ 0
unfolding requested moves tally
taken_errors side (Body.Reserve q) c now r = by_criteria (asked_criteria now q r.committed)
  where
    by_criteria : (o : Option Criteria) → tally error_in (moves_if side (reserve_move c o) now r).out ≡ 0
    by_criteria None = refl
    by_criteria (Some p) = reserves_errors r.rsm (ReservationMove.Reserve c p) now r
taken_errors side (Body.ReserveCommit id) c now r = reserves_errors r.rsm (ReservationMove.Commit c) now r
taken_errors side (Body.ReserveAbort id) c now r = reserves_errors r.rsm (ReservationMove.Abort c) now r
taken_errors side (Body.Provision id) c now r = provision_errors side r.psm c now r
taken_errors side (Body.Release id) c now r = release_errors side r.psm c now r
taken_errors side (Body.Terminate id) c now r = terminate_errors r.lsm c now r
taken_errors side _ c now r = refl

---- What is refused

-- a record that has a row for an abort refuses it only where it doesn't live
dead_abort : (now : ℕ) (r : Record) (id : ℕ) (error : ErrorName) → (r.rsm ≡ Rsm.ReserveHeld) ⊎ (r.rsm ≡ Rsm.ReserveFailed) ⊎ (r.rsm ≡ Rsm.ReserveTimeout) → record_refusal now (Body.ReserveAbort id) r ≡ Some error → is_live r.lsm ≡ false
unfolding has_row is_in_place modification_refusal reserve_step
dead_abort now r id error h e = by_life (is_live r.lsm) refl
  where
    by_life : (b : Bool) → is_live r.lsm ≡ b → b ≡ false
    by_life false l = refl
    by_life true l = absurd (grind (arith, h, e, l))

-- where it stands by what the view had to give back
gives_back : (p : Phase) (x : ChildConnection) (r : Record) → may_abort p ≡ true → Rests p x (standing_of r) → (r.rsm ≡ Rsm.ReserveHeld) ⊎ (r.rsm ≡ Rsm.ReserveFailed) ⊎ (r.rsm ≡ Rsm.ReserveTimeout)
unfolding may_abort
gives_back Phase.Held x r m (inl h) = inl h.0
gives_back Phase.Held x r m (inr h) = inr (inr h)
gives_back Phase.Failed x r m h = inr (inl h)
gives_back Phase.TimedOut x r m h = inr (inr h)
gives_back Phase.Idle x r m h = absurd (cc)
gives_back Phase.Reserving x r m h = absurd (cc)
gives_back Phase.Committing x r m h = absurd (cc)
gives_back Phase.Aborting x r m h = absurd (cc)

abort_body : (b : Body) → kind_of b ≡ Kind.ReserveAbort → (id : ℕ) × (b ≡ Body.ReserveAbort id) × (connection_of b ≡ Some id)
unfolding connection_of
abort_body (Body.ReserveAbort id) e = (id, refl, refl)
abort_body _ e = absurd (cc)

---- One view

module _ (parent name : List ℕ) (asked : List Message) (d : Child) (fair : IsFair parent name d) (once : IsOnce parent asked) (was : IsAskedFor parent name asked d) (x : ChildConnection) (place : Option ℕ) (mate : IsMate parent name x place d)
    (unseen : (c : ℕ) (k : Kind) → x.reserve_request ≡ Some (sent c k) → is_taken (header_of parent name c) d.seen ≡ false → IsAsked parent name c asked (IsSame k x.connection))
    (heeds : (c : ℕ) → IsHeeded x c → IsAsked parent name c asked IsOfReservation) (c : ℕ) (req : x.reserve_request ≡ Some (sent c Kind.ReserveAbort)) where
  heeded : IsHeeded x c
  heeded = inr (open_itself x.reserve_request c Kind.ReserveAbort req)

  -- nothing of the parent owes an error under it
  none_owed : (n : ℕ) → (record_at n d.records).owner ≡ parent → owed c error_number (record_at n d.records) ≡ 0
  unfolding owed record_of
  none_owed n o = by_place place refl
    where
      alone : place ≡ Some n → owed c error_number (record_at n d.records) ≡ 0
      alone e =
          let a : IsAlone c (record_at n d.records) = subst (λ z. IsAlone c (record_of z d.records)) e (mate.seated.alone c heeded) in
          omega (arith, error_unowed (record_at n d.records).rsm c (record_at n d.records), a.provision error_number, a.life error_number)

      by_place : (w : Option ℕ) → place ≡ w → owed c error_number (record_at n d.records) ≡ 0
      by_place None e = mate.seated.others n (λ q. absurd (let w : None ≡ Some n = sym e ∙ q in cc)) o c heeded error_number
      by_place (Some k) e = by_number (cases_eq k n)
        where
          by_number : (k ≡ n) ⊎ (k ≡ n → ⊥) → owed c error_number (record_at n d.records) ≡ 0
          by_number (inl q) = alone (e ∙ ap Some q)
          by_number (inr a) = mate.seated.others n (λ q. a (same_some k n (sym e ∙ q))) o c heeded error_number

  -- a record that owes none says none
  says_none : (r q : Record) (said : List Reply) (o : Option ℕ) (e : Exception) → Course r q said → owed c error_number r ≡ 0 → Contains (answering c said) (Body.Error o e) → ⊥
  says_none r q said o e course none i =
      let a : IsReplied c (Body.Error o e) said = replied_of c (Body.Error o e) said i in
      let k : number_of a.reply.body ≡ error_number = ap number_of a.body ∙ error_of o e in
      let t = tally_there (answers_as c (number_of a.reply.body)) a.reply said a.there (counted_as c a.reply a.answers) in
      let u = (course_after r q said course).owes c (number_of a.reply.body) in
      let w : owed c (number_of a.reply.body) r ≡ 0 = ap (λ z. owed c z r) k ∙ none in
      omega (arith, t, u, w)

  -- its own request is the view's
  own_message : (m : Message) → (m.header.requester ≡ parent → Contains asked m) → is_request m.body ≡ true → m.header.requester ≡ parent → c ≡ m.header.correlation → is_reservation (kind_of m.body) ≡ true
  own_message m mine q r e =
      let s : IsAsked parent name c asked IsOfReservation = heeds c heeded in
      let same : m ≡ s.message = once.once m s.message (mine r) s.there q (reserving s.message s.is) (sym e ∙ sym (ap (λ (z : Header). z.correlation) s.header)) in
      ap (λ (z : Message). is_reservation (kind_of z.body)) same ∙ s.is
    where
      reserving : (z : Message) → is_reservation (kind_of z.body) ≡ true → is_request z.body ≡ true
      reserving z h = reserving_asks z h

  -- a row that takes a request, and then does something by itself
  turn_none : (side : Side) (now : ℕ) (m : Message) (rows : List Record) (n : ℕ) (records : List Record) (out : List Message) → IsTurn side name now m n rows records out → (m.header.requester ≡ parent → Contains asked m) → is_request m.body ≡ true →
      (record_at n rows).owner ≡ m.header.requester → ((record_at n rows).owner ≡ parent → owed c error_number (record_at n rows) ≡ 0) →
      ((record_at n rows).owner ≡ parent → c ≡ m.header.correlation → (k : ℕ) → owed c k (record_at n rows) ≡ 0) → (o : Option ℕ) (e : Exception) → Contains (about (header_of parent name c) out) (Body.Error o e) → ⊥
  unfolding owed
  turn_none side now m rows n records out t mine q owner none fresh o e i =
      by_part (about_cases (header_of parent name c) (addressed name taken.rec.owner taken.out) t.more (Body.Error o e) (subst (λ ms. Contains (about (header_of parent name c) ms) (Body.Error o e)) t.spoken i))
    where
      row : Record
      row = record_at n rows

      taken : Moved
      taken = taken_by side now m (record_at n rows)

      after_owner : t.after.owner ≡ row.owner
      after_owner = (course_after taken.rec t.after t.said t.course).later.owner ∙ (moves_if_later side (requested now m.body m.header.correlation row) now row).owner

      other : row.owner ≡ parent → (c ≡ m.header.correlation → ⊥) → owed c error_number taken.rec ≡ 0
      other w a =
          let s = (takes_speaks side m.body m.header.correlation now row).answers c error_number in
          let z : one (is_id (Some m.header.correlation) c) ≡ 0 = apart c m.header.correlation a in
          omega (arith, s, none w, z)
        where
          apart : (a b : ℕ) → (a ≡ b → ⊥) → one (a == b) ≡ 0
          apart a b f = by_test (a == b) refl
            where
              by_test : (t : Bool) → (a == b) ≡ t → one t ≡ 0
              by_test true h = absurd (f (eqb-true a b h))
              by_test false h = refl

      own : row.owner ≡ parent → c ≡ m.header.correlation → owed c error_number taken.rec ≡ 0
      own w h =
          let a : IsAlone c taken.rec = reservation_alone side m.body m.header.correlation now row c (own_message m mine q (sym owner ∙ w) h) (owes_less parent name d c row (fresh w h)) in
          omega (arith, error_unowed taken.rec.rsm c taken.rec, a.provision error_number, a.life error_number)

      by_part : Contains (about (header_of parent name c) (addressed name taken.rec.owner taken.out)) (Body.Error o e) ⊎ Contains (about (header_of parent name c) t.more) (Body.Error o e) → ⊥
      by_part (inl j) =
          let a = replied_of c (Body.Error o e) taken.out (addressed_in name taken.rec.owner parent c taken.out (Body.Error o e) j).1 in
          no_errors taken.out (taken_errors side m.body m.header.correlation now row) a.reply o e a.there a.body
      by_part (inr j) =
          let w = t.tells.only parent c (Body.Error o e) j in
          let p : row.owner ≡ parent = sym after_owner ∙ w.0 in
          says_none taken.rec t.after t.said o e t.course (by_own p (cases_eq c m.header.correlation)) w.1
        where
          by_own : row.owner ≡ parent → (c ≡ m.header.correlation) ⊎ (c ≡ m.header.correlation → ⊥) → owed c error_number taken.rec ≡ 0
          by_own p (inl h) = own p h
          by_own p (inr h) = other p h

  -- the refusal of the abort itself
  refused_dead : (now : ℕ) (m : Message) (error : ErrorName) → (m.header.requester ≡ parent → Contains asked m) → is_request m.body ≡ true → is_taken m.header d.seen ≡ false → IsRefused now name m error d → may_abort x.before ≡ true → m.header ≡ header_of parent name c →
      (id : ℕ) × (x.connection ≡ Some id) × IsTold parent name asked (IsTerminateOf id)
  unfolding record_of is_reservation
  refused_dead now m error mine q u why may h =
      let fresh : is_taken (header_of parent name c) d.seen ≡ false = ap (λ z. is_taken z d.seen) (sym h) ∙ u in
      let s : IsAsked parent name c asked (IsSame Kind.ReserveAbort x.connection) = unseen c Kind.ReserveAbort req fresh in
      let r : m.header.requester ≡ parent = ap (λ (z : Header). z.requester) h in
      let same : m ≡ s.message = once.once m s.message (mine r) s.there q (reserving_asks s.message (ap is_reservation s.is.0)) (ap (λ (z : Header). z.correlation) h ∙ sym (ap (λ (z : Header). z.correlation) s.header)) in
      let b = abort_body m.body (ap (λ (z : Message). kind_of z.body) same ∙ s.is.0) in
      let known : x.connection ≡ Some b.0 = sym s.is.1 ∙ sym (ap (λ (z : Message). connection_of z.body) same) ∙ b.2 in
      let at = mate_placed parent name x place d fair mate b.0 known in
      let seat = mate.seated.known b.0 known in
      let refusal : record_refusal now m.body (record_at at.0 d.records) ≡ Some error =
      why at.0 b.0 (ap (λ (z : Header). z.provider) h) b.2 (subst (λ p. place_of b.0 p d.records ≡ Some at.0) (sym r) at.2)
      in
      let here : record_of place d.records ≡ record_at at.0 d.records = ap (λ w. record_of w d.records) at.1 in
      let calm = (unseen_view c Kind.ReserveAbort x (side_of parent name place d) mate.linked req fresh).calm in
      let stands = gives_back x.before (back x) (record_of place d.records) may calm.quiet.rests in
      let dead : is_live (record_at at.0 d.records).lsm ≡ false =
      dead_abort now (record_at at.0 d.records) b.0 error (subst (λ (z : Record). (z.rsm ≡ Rsm.ReserveHeld) ⊎ (z.rsm ≡ Rsm.ReserveFailed) ⊎ (z.rsm ≡ Rsm.ReserveTimeout)) here stands) (sym (ap (λ z. record_refusal now z (record_at at.0 d.records)) b.1) ∙ refusal)
      in
      let id : (record_at at.0 d.records).id ≡ b.0 = ap (λ z. (record_at z d.records).id) (same_some at.0 seat.0 (sym at.1 ∙ seat.1)) ∙ seat.2 in
      (b.0, known, subst (λ z. IsTold parent name asked (IsTerminateOf z)) id (was.ended at.0 ((mate.seated.seated at.0 at.1).1) dead))

  error_there : (m : Message) (error : ErrorName) (out : List Message) (b : Body) → out ≡ error_reply name m error ∷ [] → Contains (about (header_of parent name c) out) b → m.header ≡ header_of parent name c
  error_there m error out b e i =
      let s = said_under (header_of parent name c) b out i in
      let q : s.message ≡ error_reply name m error = only_one (error_reply name m error) s.message (subst (λ ms. Contains ms s.message) e s.there) in
      sym (ap (λ (z : Message). z.header) q) ∙ sym (same_header (header_of parent name c) s.message.header s.header)

  pub serving_refuses : (input : Input) (records : List Record) (seen : List Header) (out : List Message) → ((m : Message) → input ≡ Input.Got m → is_request m.body ≡ true → m.header.requester ≡ parent → Contains asked m) →
      Serves name input d records seen out → may_abort x.before ≡ true → (o : Option ℕ) (e : Exception) → Contains (about (header_of parent name c) out) (Body.Error o e) → (id : ℕ) × (x.connection ≡ Some id) × IsTold parent name asked (IsTerminateOf id)
  serving_refuses input records seen out mine (Serves.acts h v) may o e i =
      let (n, w, j) = v.only parent c (Body.Error o e) i in
      absurd (says_none (record_at n d.records) (record_at n records) (v.said n) o e (v.each n) (none_owed n w) j)
  serving_refuses input records seen out mine (Serves.leaves m w k r q) may o e i = absurd (not_there (about (header_of parent name c) out) (Body.Error o e) (q (header_of parent name c)) i)
  serving_refuses input records seen out mine (Serves.refuses m error now w v r q) may o e i = refused_dead now m error (λ p. mine m w.got w.request p) w.request w.untaken v may (error_there m error out (Body.Error o e) q i)
  serving_refuses input records seen out mine (Serves.takes m n side now w a t) may o e i =
      absurd
      (turn_none side now m d.records n records out t (λ p. mine m w.got w.request p) w.request a.owner (none_owed n)
      (λ p h k. fair.unowed c n k (ap (λ z. is_taken z d.seen) (headers_same c m.header.correlation parent m.header.requester name m.header.provider h (sym p ∙ a.owner) (sym a.provider)) ∙ w.untaken) p) o e i)
  serving_refuses input records seen out mine (Serves.opens m id s source dest side now w b t) may o e i =
      absurd
      (turn_none side now m (d.records ++ fresh id m.header.requester s source dest ∷ []) (length d.records) records out t (λ p. mine m w.got w.request p) w.request (ap (λ (z : Record). z.owner) at_last)
      (λ _. ap (owed c error_number) at_last ∙ fresh_owed c error_number id m.header.requester s source dest)
      (λ _ _ k. ap (owed c k) at_last ∙ fresh_owed c k id m.header.requester s source dest) o e i)
    where
      at_last : record_at (length d.records) (d.records ++ fresh id m.header.requester s source dest ∷ []) ≡ fresh id m.header.requester s source dest
      at_last = last_here d.records (fresh id m.header.requester s source dest) no_record
