-- Whatever the child does, a view waits for each confirmation of a commit that it owes, and for each that it says.
use Rattle.std.proofs.Common.{ℕ, ◌≡◌, ◌≤◌, ◌<◌, ◌∙◌, ◌⊎◌, inl, inr, true, false, List, [], ◌∷◌, ◌++◌, Contains, Option, Some, None, length, length-append, get_or-set_same, get_or-set_other, option_map, refl, sym, ap, subst, arith}
use Rattle.std.specs.Prelude.{is_some}
use Rattle.std.proofs.lemmas.Bool.{cases_eq}
use Rattle.nsi_primitive.specs.Messages.{kind_of, connection_of, is_request}
use Rattle.nsi_primitive.specs.declared.entry.Input.{Input}
use Rattle.nsi_primitive.specs.declared.kind.Kind.{Kind}
use Rattle.nsi_primitive.specs.declared.message.Body.{Body}
use Rattle.nsi_primitive.specs.declared.message.Criteria.{Criteria}
use Rattle.nsi_primitive.specs.declared.message.Header.{Header}
use Rattle.nsi_primitive.specs.declared.message.Identity.{Identity}
use Rattle.nsi_primitive.specs.declared.message.Message.{Message}
use Rattle.nsi_primitive.specs.declared.state.Rsm.{Rsm}
use Rattle.nsi_primitive.specs.declared.state.Side.{Side}
use Rattle.message_retry.specs.Retry.{is_heard}
use Rattle.message_retry.specs.Taken.{is_taken}
use Rattle.connection_record.specs.declared.record.Record.{Record}
use Rattle.connection_record.specs.Applied.{requested}
use Rattle.connection_record.specs.Moves.{fresh}
use Rattle.connection_record.specs.Order.{is_pending, IsInOrder}
use Rattle.connection_record.specs.Replies.{addressed}
use Rattle.connection_record.specs.Refusal.{record_refusal}
use Rattle.connection_record.specs.Speaking.{owed}
use Rattle.connection_record.proofs.Courses.{course_after}
use Rattle.connection_record.proofs.Growing.{moves_if_later}
use Rattle.connection_record.proofs.Unrefused.{commit_row, unrefused_fits}
use Rattle.child_connection.specs.Views.{ChildConnection, sent}
use Rattle.child_connection.specs.Holding.{is_reservation}
use Rattle.child_connection.specs.Standing.{IsQuiet, back}
use Rattle.agent_state.specs.Entries.{error_reply}
use Rattle.agent_state.specs.State.{no_record, record_at}
use Rattle.circuit_link.specs.Children.{Child, about, goes_on, record_of, side_of, IsFair}
use Rattle.circuit_link.specs.Headers.{header_of}
use Rattle.circuit_link.specs.Links.{Link}
use Rattle.circuit_link.specs.Serving.{IsAbout, IsTurn, Serves, taken_by}
use Rattle.circuit_link.specs.Sides.{standing_of, version_of}
use Rattle.circuit_link.proofs.Abouts.{IsSaidUnder, about_cases, addressed_in, headers_same, said_under}
use Rattle.circuit_link.proofs.Answering.{not_there, only_one}
use Rattle.circuit_link.proofs.Opening.{last_here, last_there}
use Rattle.circuit_link.proofs.Taking.{IsUnseen, unseen_view}
use Rattle.circuit_pairs.specs.Pairs.{IsAsked, IsOnce, IsPair, IsSame}
use Rattle.circuit_pairs.proofs.Refusing.{reserving_asks}
use Rattle.circuit_pairs.proofs.Serving.{request_kind}
use Rattle.known_commits.proofs.Owing.{confirming, course_owes, course_says, owes_committing, said_counts, taken_owes, taken_says}
use Rattle.known_commits.proofs.Waiting.{AreWaited, IsWaited, OwedIsWaited, confirmation_of}

---- What is held

held_pending : (x : ChildConnection) (r : Record) → r.rsm ≡ Rsm.ReserveHeld → IsQuiet (back x) (standing_of r) → x.pending ≡ (standing_of r).pending
held_pending x r e h = grind (arith, e, h)

held_version : (r : Record) → IsInOrder r → r.rsm ≡ Rsm.ReserveHeld → (version : ℕ) × ((standing_of r).pending ≡ Some version)
unfolding is_pending
held_version r order held = by r.pending refl (order.pending ∙ ap is_pending held)
  where
    by : (o : Option Criteria) → r.pending ≡ o → is_some r.pending ≡ true → (version : ℕ) × (option_map version_of r.pending ≡ Some version)
    by (Some k) e s = (k.version, ap (option_map version_of) e)
    by None e s = absurd (let z : false ≡ true = sym (ap (λ (o : Option Criteria). is_some o) e) ∙ s in cc)

---- An entry of the child

module _ (I : Type 0) (parent child : List ℕ) (xs : I → ChildConnection) (asked : List Message) (d : Child) (pair : IsPair I parent child xs asked d) (fair : IsFair parent child d) (once : IsOnce parent asked)
    (order : (n : ℕ) → IsInOrder (record_at n d.records)) where
  -- the view of a record that it knows
  known_link : (i : I) (n id : ℕ) → n < length d.records → (record_at n d.records).id ≡ id → (xs i).connection ≡ Some id → Link (xs i) (side_of parent child (Some n) d)
  known_link i n id within its e =
      let s = (pair.mates i).seated.known id e in
      let same : s.0 ≡ n = fair.ids s.0 n ((pair.mates i).seated.seated s.0 s.1).0 within (s.2 ∙ sym its) in
      subst (λ (o : Option ℕ). Link (xs i) (side_of parent child o d)) (s.1 ∙ ap (λ (z : ℕ). Some z) same) (pair.mates i).linked

  -- a commit that isn't refused by what it names is a view's own, which holds what the record does
  own_commit : (now c id n : ℕ) (i : I) → (xs i).reserve_request ≡ Some (sent c Kind.ReserveCommit) → is_taken (header_of parent child c) d.seen ≡ false → record_refusal now (Body.ReserveCommit id) (record_at n d.records) ≡ None →
      Link (xs i) (side_of parent child (Some n) d) → IsWaited I xs c
  unfolding record_of
  own_commit now c id n i waits new fine link =
      let r : Record = record_at n d.records in
      let u : IsUnseen c Kind.ReserveCommit (xs i) (side_of parent child (Some n) d) = unseen_view c Kind.ReserveCommit (xs i) (side_of parent child (Some n) d) link waits new in
      let held : r.rsm ≡ Rsm.ReserveHeld = commit_row id r (unrefused_fits now (Body.ReserveCommit id) r fine).row in
      let v = held_version r (order n) held in
      record { view = i; version = v.0; waits = record { asked = waits; pending = held_pending (xs i) r held u.calm.quiet ∙ v.1 } }

  -- a commit that a record of the parent takes
  commit_waits : (now : ℕ) (m : Message) (id n : ℕ) → Contains asked m → is_request m.body ≡ true → m.header.requester ≡ parent → is_taken m.header d.seen ≡ false → m.body ≡ Body.ReserveCommit id → IsAbout now child m n d → IsWaited I xs m.header.correlation
  unfolding is_reservation
  commit_waits now m id n there asks from new is about =
      let c : ℕ = m.header.correlation in
      let head : m.header ≡ header_of parent child c = headers_same c c m.header.requester parent m.header.provider child refl from about.provider in
      let untaken : is_taken (header_of parent child c) d.seen ≡ false = ap (λ (h : Header). is_taken h d.seen) (sym head) ∙ new in
      let kind : kind_of m.body ≡ Kind.ReserveCommit = ap kind_of is in
      let (i, k, waits) = pair.untaken m there (ap is_reservation kind) about.provider new in
      let s : IsAsked parent child c asked (IsSame k (xs i).connection) = pair.unseen i c k waits untaken in
      let of_kind : is_reservation k ≡ true = request_kind (xs i) (side_of parent child (pair.place i) d) c k (pair.mates i).linked waits in
      let one : m ≡ s.message =
      once.once m s.message there s.there asks (reserving_asks s.message (ap is_reservation s.is.0 ∙ of_kind)) (sym (ap (λ (h : Header). h.correlation) s.header))
      in
      let same : k ≡ Kind.ReserveCommit = sym s.is.0 ∙ (sym (ap (λ (z : Message). kind_of z.body) one) ∙ kind) in
      let knows : (xs i).connection ≡ Some about.id = sym s.is.1 ∙ (sym (ap (λ (z : Message). connection_of z.body) one) ∙ about.names) in
      own_commit now c id n i (waits ∙ ap (λ (z : Kind). Some (sent c z)) same) untaken (subst (λ (b : Body). record_refusal now b (record_at n d.records) ≡ None) is about.unrefused)
      (known_link i n about.id about.within about.its_id knows)

  -- each confirmation among what is said
  abbrev SaidIsWaited : List Message → Type 0
  SaidIsWaited out = (c id : ℕ) → Contains (about (header_of parent child c) out) (Body.ReserveCommitConfirmed id) → IsWaited I xs c

  silent : (out : List Message) → ((c : ℕ) → about (header_of parent child c) out ≡ []) → SaidIsWaited out
  silent out none c id i = absurd (not_there (about (header_of parent child c) out) (Body.ReserveCommitConfirmed id) (none c) i)

  refusing : (out : List Message) (reply : Message) → out ≡ reply ∷ [] → ((id : ℕ) → reply.body ≡ Body.ReserveCommitConfirmed id → ⊥) → SaidIsWaited out
  refusing out reply one never c id i =
      let s : IsSaidUnder (header_of parent child c) (Body.ReserveCommitConfirmed id) out = said_under (header_of parent child c) (Body.ReserveCommitConfirmed id) out i in
      absurd (never id (sym (ap (λ (z : Message). z.body) (only_one reply s.message (subst (λ (ms : List Message). Contains ms s.message) one s.there))) ∙ s.body))

  -- a record takes a request, and then does something by itself
  module _ (m : Message) (side : Side) (now n : ℕ) (rows records : List Record) (out : List Message) (within : n < length rows) (owing : OwedIsWaited I parent xs rows)
      (commit : (record_at n rows).owner ≡ parent → (id : ℕ) → m.body ≡ Body.ReserveCommit id → IsWaited I xs m.header.correlation) (turn : IsTurn side child now m n rows records out) where
    abbrev r : Record
    r = record_at n rows

    abbrev q : Record
    q = (taken_by side now m (record_at n rows)).rec

    taken_owner : q.owner ≡ r.owner
    taken_owner = (moves_if_later side (requested now m.body m.header.correlation r) now r).owner

    after_owner : turn.after.owner ≡ q.owner
    after_owner = (course_after q turn.after turn.said turn.course).later.owner

    taken_waited : (c : ℕ) → r.owner ≡ parent → 1 ≤ owed c confirming q → IsWaited I xs c
    taken_waited c own o = by (taken_owes m.body side m.header.correlation now c r o)
      where
        by : (1 ≤ owed c confirming r) ⊎ ((c ≡ m.header.correlation) × (id : ℕ) × (m.body ≡ Body.ReserveCommit id)) → IsWaited I xs c
        by (inl l) = owing n c own l
        by (inr (e, id, is)) = subst (IsWaited I xs) (sym e) (commit own id is)

    turn_owing : OwedIsWaited I parent xs records
    turn_owing k c = by (cases_eq k n)
      where
        by : (k ≡ n) ⊎ (k ≡ n → ⊥) → (record_at k records).owner ≡ parent → 1 ≤ owed c confirming (record_at k records) → IsWaited I xs c
        by (inl e) own o =
            let here : record_at k records ≡ turn.after = ap (λ (z : ℕ). record_at z records) e ∙ (ap (record_at n) turn.records ∙ get_or-set_same rows n turn.after no_record within) in
            taken_waited c (sym taken_owner ∙ (sym after_owner ∙ (sym (ap (λ (z : Record). z.owner) here) ∙ own)))
            (course_owes q turn.after turn.said turn.course c (subst (λ (z : Record). 1 ≤ owed c confirming z) here o))
        by (inr a) own o =
            let there : record_at k records ≡ record_at k rows = ap (record_at k) turn.records ∙ get_or-set_other rows n k turn.after no_record a in
            owing k c (sym (ap (λ (z : Record). z.owner) there) ∙ own) (subst (λ (z : Record). 1 ≤ owed c confirming z) there o)

    turn_said : SaidIsWaited out
    turn_said c id i = by (about_cases (header_of parent child c) (addressed child q.owner (taken_by side now m r).out) turn.more (Body.ReserveCommitConfirmed id) (subst (λ (ms : List Message). Contains (about (header_of parent child c) ms) (Body.ReserveCommitConfirmed id)) turn.spoken i))
      where
        by : Contains (about (header_of parent child c) (addressed child q.owner (taken_by side now m r).out)) (Body.ReserveCommitConfirmed id) ⊎ Contains (about (header_of parent child c) turn.more) (Body.ReserveCommitConfirmed id) → IsWaited I xs c
        by (inl j) =
            let w = addressed_in child q.owner parent c (taken_by side now m r).out (Body.ReserveCommitConfirmed id) j in
            absurd (omega (arith, said_counts c id (taken_by side now m r).out w.1, taken_says m.body side m.header.correlation now c r))
        by (inr j) =
            let w = turn.tells.only parent c (Body.ReserveCommitConfirmed id) j in
            taken_waited c (sym taken_owner ∙ (sym after_owner ∙ w.0)) (course_says q turn.after turn.said turn.course c id w.1)

  module _ (input : Input) (records : List Record) (seen : List Header) (out : List Message) (were : (m : Message) → input ≡ Input.Got m → is_request m.body ≡ true → m.header.requester ≡ parent → Contains asked m)
      (owing : OwedIsWaited I parent xs d.records) where
    served : Serves child input d records seen out → OwedIsWaited I parent xs records × SaidIsWaited out
    served (Serves.acts same courses) = (
      λ n c own o.
          let a = course_after (record_at n d.records) (record_at n records) (courses.said n) (courses.each n) in
          owing n c (sym a.later.owner ∙ own) (course_owes (record_at n d.records) (record_at n records) (courses.said n) (courses.each n) c o),
      λ c id i.
          let (n, own, j) = courses.only parent c (Body.ReserveCommitConfirmed id) i in
          owing n c own (course_says (record_at n d.records) (record_at n records) (courses.said n) (courses.each n) c id j),
    )
    served (Serves.leaves m new kind same none) = (subst (OwedIsWaited I parent xs) (sym same) owing, silent out (λ c. none (header_of parent child c)))
    served (Serves.refuses m error now new refused same one) = (subst (OwedIsWaited I parent xs) (sym same) owing, refusing out (error_reply child m error) one (λ id e. cc))
    served (Serves.takes m n side now new about turn) = (
      turn_owing m side now n d.records records out about.within owing commit turn,
      turn_said m side now n d.records records out about.within owing commit turn,
    )
      where
        commit : (record_at n d.records).owner ≡ parent → (id : ℕ) → m.body ≡ Body.ReserveCommit id → IsWaited I xs m.header.correlation
        commit own id is = let from : m.header.requester ≡ parent = sym about.owner ∙ own in commit_waits now m id n (were m new.got new.request from) new.request from new.untaken is about
    served (Serves.opens m id service source dest side now new first turn) = (
      turn_owing m side now (length d.records) rows records out within row_owing never turn,
      turn_said m side now (length d.records) rows records out within row_owing never turn,
    )
      where
        f : Record
        f = fresh id m.header.requester service source dest

        rows : List Record
        rows = d.records ++ f ∷ []

        within : length d.records < length rows
        within = omega (arith, length-append d.records (f ∷ []))

        row_owing : OwedIsWaited I parent xs rows
        row_owing k c = by (cases_eq k (length d.records))
          where
            by : (k ≡ length d.records) ⊎ (k ≡ length d.records → ⊥) → (record_at k rows).owner ≡ parent → 1 ≤ owed c confirming (record_at k rows) → IsWaited I xs c
            by (inl e) own o =
                let here : record_at k rows ≡ f = ap (λ (z : ℕ). record_at z rows) e ∙ last_here d.records f no_record in
                let state : Rsm.ReserveStart ≡ Rsm.ReserveCommitting = owes_committing c f (subst (λ (z : Record). 1 ≤ owed c confirming z) here o) in
                absurd (cc)
            by (inr a) own o =
                let there : record_at k rows ≡ record_at k d.records = last_there d.records f no_record k a in
                owing k c (sym (ap (λ (z : Record). z.owner) there) ∙ own) (subst (λ (z : Record). 1 ≤ owed c confirming z) there o)

        never : (record_at (length d.records) rows).owner ≡ parent → (id : ℕ) → m.body ≡ Body.ReserveCommit id → IsWaited I xs m.header.correlation
        never own id is = absurd (let z : Body.Reserve first.reserve ≡ Body.ReserveCommit id = sym first.body ∙ is in cc)

  -- an entry of the child
  pub served_waited : (heard : List Identity) (input : Input) (records : List Record) (seen : List Header) (out : List Message) → ((m : Message) → input ≡ Input.Got m → is_request m.body ≡ true → m.header.requester ≡ parent → Contains asked m) →
      Serves child input d records seen out → AreWaited I parent child heard xs d → AreWaited I parent child heard xs (goes_on d records seen out)
  served_waited heard input records seen out were serves old = record { owing = new.0; said = λ c id i. by c id (about_cases (header_of parent child c) d.said out (Body.ReserveCommitConfirmed id) i) }
    where
      new : OwedIsWaited I parent xs records × SaidIsWaited out
      new = served input records seen out were old.owing serves

      by : (c id : ℕ) → Contains (about (header_of parent child c) d.said) (Body.ReserveCommitConfirmed id) ⊎ Contains (about (header_of parent child c) out) (Body.ReserveCommitConfirmed id) →
          (is_heard (confirmation_of parent child c) heard ≡ true) ⊎ IsWaited I xs c
      by c id (inl i) = old.said c id i
      by c id (inr i) = inr (new.1 c id i)
