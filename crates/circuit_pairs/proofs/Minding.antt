-- An entry of the parent keeps the pair: its views rest, one asks, or all hear what the child has said.
use Rattle.std.proofs.Common.{ℕ, ◌≡◌, Bool, true, false, List, [], ◌∷◌, ◌++◌, Contains, Option, Some, None, option_map, ◌⊎◌, inl, inr, ◌==◌, ◌&&◌, refl, sym, ap, ◌∙◌, subst, arith, bytes_eq, append-nil, eqb-true, true≢false}
use Rattle.std.proofs.lemmas.Bool.{cases_eq}
use Rattle.std.proofs.lemmas.List.Elements.{Contains-append_left, Contains-append_right, Contains-append_cases}
use Rattle.std.proofs.lemmas.Slice.Eq.{bytes_eq-Decides}
use Rattle.nsi_primitive.specs.Messages.{kind_of, connection_of, is_request}
use Rattle.nsi_primitive.specs.declared.entry.Input.{Input}
use Rattle.nsi_primitive.specs.declared.kind.Kind.{Kind}
use Rattle.nsi_primitive.specs.declared.message.Body.{Body}
use Rattle.nsi_primitive.specs.declared.message.Exception.{Exception}
use Rattle.nsi_primitive.specs.declared.message.Header.{Header}
use Rattle.nsi_primitive.specs.declared.message.Message.{Message}
use Rattle.message_retry.specs.Taken.{is_taken}
use Rattle.child_connection.specs.declared.state.Sent.{Sent}
use Rattle.child_connection.specs.Views.{ChildConnection, sent, is_open_of, is_kind}
use Rattle.child_connection.specs.Asks.{asks}
use Rattle.child_connection.specs.Hearing.{Heard, hears, hear, hear_from, push_version}
use Rattle.child_connection.specs.Holding.{is_reservation, settles, is_response, IsHeeded, IsAlike, Learns, Commits}
use Rattle.child_connection.proofs.Holds.{asked_stands}
use Rattle.child_connection.proofs.Learning.{messages_teach, messages_commit}
use Rattle.child_connection.proofs.Places.{asks_place, asks_known, hear_place}
use Rattle.child_connection.proofs.Reservations.{request_stays, others_alike}
use Rattle.connection_record.specs.Speaking.{is_answering, is_asking, is_noting}
use Rattle.agent_state.specs.State.{record_at}
use Rattle.circuit_link.specs.Children.{Child, about, side_of, MayReach, IsFair}
use Rattle.circuit_link.specs.Headers.{header_of}
use Rattle.aggregator_agent.specs.Asking.{may_abort}
use Rattle.circuit_link.specs.Sides.{version_of}
use Rattle.circuit_link.specs.Mates.{IsSeatOf, IsMate, IsOpening}
use Rattle.circuit_link.proofs.Abouts.{headers_same, same_bytes}
use Rattle.circuit_link.proofs.Answering.{same_some, only_one, not_there, first_there}
use Rattle.circuit_link.proofs.Hearing.{other_same, rows_unheard}
use Rattle.circuit_link.proofs.Minding.{alike_heeds, alike_mate, asks_heeds, asking_mate, hears_heeds, told_mate, link_asked}
use Rattle.circuit_pairs.proofs.Backing.{backed_still, backed_more}
use Rattle.circuit_pairs.specs.Pairs.{IsReserveOf, IsTerminateOf, IsTold, IsAskedFor, IsAsked, IsOfReservation, IsSame, IsCommitOf, AreBacked, IsPair, IsOnce}
use Rattle.circuit_pairs.specs.Minding.{ReservesNothing, Minds}
use Rattle.circuit_pairs.specs.Laws.{CanTellApart}
use Rattle.circuit_pairs.proofs.Refusing.{reserving_asks}

---- Views that are alike

pub alike_self : (x : ChildConnection) → IsAlike x x
alike_self x = record { reservation = record { request = refl; phase = refl; before = refl; attempt = refl; pending = refl; committed = refl }; connection = refl; child = refl }

pub alike_same : (x y : ChildConnection) → y ≡ x → IsAlike x y
alike_same x y e = subst (λ z. IsAlike x z) (sym e) (alike_self x)

pub alike_then : (x y z : ChildConnection) → IsAlike x y → IsAlike y z → IsAlike x z
alike_then x y z a b =
    record {
      reservation =
          record {
            request = b.reservation.request ∙ a.reservation.request;
            phase = b.reservation.phase ∙ a.reservation.phase;
            before = b.reservation.before ∙ a.reservation.before;
            attempt = b.reservation.attempt ∙ a.reservation.attempt;
            pending = b.reservation.pending ∙ a.reservation.pending;
            committed = b.reservation.committed ∙ a.reservation.committed;
          };
      connection = b.connection ∙ a.connection;
      child = b.child ∙ a.child;
    }

pub asks_alike : (k : Kind) (c : ℕ) (x y : ChildConnection) → IsAlike x y → IsAlike (asks k c x) (asks k c y)
unfolding asks
asks_alike k c x y a = grind arith

pub asks_rests : (k : Kind) (c : ℕ) (x : ChildConnection) → is_reservation k ≡ false → IsAlike x (asks k c x)
unfolding asks is_reservation
asks_rests k c x e = grind arith

said_more : (parent child : List ℕ) (c : ℕ) (asked more : List Message) (P : Message → Type 0) → IsAsked parent child c asked P → IsAsked parent child c (asked ++ more) P
said_more parent child c asked more P s = record { message = s.message; there = Contains-append_left asked more s.message s.there; header = s.header; is = s.is }

told_more : (parent child : List ℕ) (asked more : List Message) (id : ℕ) → IsTold parent child asked (IsTerminateOf id) → IsTold parent child (asked ++ more) (IsTerminateOf id)
told_more parent child asked more id (c, s) = (c, said_more parent child c asked more (IsTerminateOf id) s)

asked_more : (parent child : List ℕ) (asked more : List Message) (d : Child) → IsAskedFor parent child asked d → IsAskedFor parent child (asked ++ more) d
asked_more parent child asked more d a =
    record {
      checks = λ n o e. said_more parent child _ asked more (IsReserveOf (option_map version_of (record_at n d.records).pending)) (a.checks n o e);
      confirms = λ c f i. said_more parent child c asked more (IsReserveOf (Some f.version)) (a.confirms c f i);
      ended = λ n o e. told_more parent child asked more (record_at n d.records).id (a.ended n o e);
    }

-- no message changes the phase that was before a request
before_stays : (b : Body) (c : ℕ) (x : ChildConnection) → (hears b c x).view.before ≡ x.before
unfolding hears
before_stays (Body.ReserveResponse id) c x = grind arith
before_stays (Body.ReserveConfirmed f) c x = grind arith
before_stays (Body.ReserveFailed id ex) c x = grind arith
before_stays (Body.ReserveTimeout t) c x = grind arith
before_stays (Body.ReserveCommitConfirmed id) c x = grind arith
before_stays (Body.ReserveCommitFailed id ex) c x = grind arith
before_stays (Body.ReserveAbortConfirmed id) c x = grind arith
before_stays (Body.Error id ex) c x = grind arith
before_stays (Body.ProvisionConfirmed id) c x = grind arith
before_stays (Body.ReleaseConfirmed id) c x = grind arith
before_stays (Body.TerminateConfirmed id) c x = grind arith
before_stays (Body.ErrorEvent f) c x = grind arith
before_stays (Body.DataPlaneStateChange n) c x = grind arith
before_stays _ c x = refl

commit_body : (b : Body) → kind_of b ≡ Kind.ReserveCommit → (id : ℕ) × (b ≡ Body.ReserveCommit id) × (connection_of b ≡ Some id)
unfolding connection_of
commit_body (Body.ReserveCommit id) e = (id, refl, refl)
commit_body _ e = absurd (cc)

commit_open : (o : Option Sent) (c : ℕ) → is_open_of o Kind.ReserveCommit c ≡ true → o ≡ Some (sent c Kind.ReserveCommit)
unfolding is_kind
commit_open None c e = absurd (cc)
commit_open (Some q) c e = both (fst_true (c == q.correlation) _ e) (snd_true (c == q.correlation) _ e)
  where
    fst_true : (a b : Bool) → (a && b) ≡ true → a ≡ true
    fst_true true b h = refl
    fst_true false b h = absurd (cc)

    snd_true : (a b : Bool) → (a && b) ≡ true → b ≡ true
    snd_true true b h = h
    snd_true false b h = absurd (cc)

    commit_kind : (k : Kind) → is_kind Kind.ReserveCommit k ≡ true → k ≡ Kind.ReserveCommit
    commit_kind k h = grind (arith, h)

    make : (c d : ℕ) (k l : Kind) → c ≡ d → l ≡ k → Some (sent d l) ≡ Some (sent c k)
    make c d k l e f = rw (e, f) refl

    both : (c == q.correlation) ≡ true → is_kind Kind.ReserveCommit q.kind ≡ true → Some q ≡ Some (sent c Kind.ReserveCommit)
    both a b = make c q.correlation Kind.ReserveCommit q.kind (eqb-true c q.correlation a) (commit_kind q.kind b)

pub alike_pair : (I : Type 0) (parent child : List ℕ) (asked : List Message) (d : Child) (xs ys : I → ChildConnection) → ((i : I) → IsAlike (xs i) (ys i)) → IsPair I parent child xs asked d → IsPair I parent child ys asked d
alike_pair I parent child asked d xs ys a pair =
    record {
      place = pair.place;
      mates = λ i. alike_mate parent child d (xs i) (ys i) (pair.place i) (a i) (pair.mates i);
      apart = pair.apart;
      children = λ i. (a i).child ∙ pair.children i;
      heeds = λ i c h. pair.heeds i c (alike_heeds (xs i) (ys i) c (a i).reservation h);
      alone = λ i j c h g. pair.alone i j c (alike_heeds (xs i) (ys i) c (a i).reservation h) (alike_heeds (xs j) (ys j) c (a j).reservation g);
      unseen = λ i c k r u. let s = pair.unseen i c k (sym (a i).reservation.request ∙ r) u in record { message = s.message; there = s.there; header = s.header; is = (s.is.0, s.is.1 ∙ sym (a i).connection) };
      untaken = λ m i r p u. let w = pair.untaken m i r p u in (w.0, w.1, (a w.0).reservation.request ∙ w.2);
      commits = λ i c r. let w = pair.commits i c (sym (a i).reservation.request ∙ r) in (w.0, (a i).connection ∙ w.1, w.2);
      backed = λ i.
          backed_still parent child (xs i) (ys i) asked asked d d (λ id q. (a i).connection ∙ q) (λ m j. j) (λ c b j. j) (a i).reservation.committed (λ c k r. inl (sym (a i).reservation.request ∙ r)) (pair.backed i);
      asked_for = pair.asked_for;
      refuses = λ i c o e r m j.
          let w = pair.refuses i c o e (sym (a i).reservation.request ∙ r) (sym (ap may_abort (a i).reservation.before) ∙ m) j in
          (w.0, (a i).connection ∙ w.1, w.2);
    }

some_sent : (a b : Sent) → Some a ≡ Some b → a ≡ b
some_sent a b e = cc

no_sent : (q : Sent) → None ≡ Some q → ⊥
no_sent q e = cc

module _ (I : Type 0) (dec : CanTellApart I) (parent child : List ℕ) (asked : List Message) (d : Child) (fair : IsFair parent child d) where
  -- more is said, of which nothing goes to the child's reservations
  pub more_pair : (xs : I → ChildConnection) (more : List Message) → ReservesNothing child more → IsPair I parent child xs asked d → IsPair I parent child xs (asked ++ more) d
  more_pair xs more none pair =
      record {
        place = pair.place;
        mates = pair.mates;
        apart = pair.apart;
        children = pair.children;
        heeds = λ i c h. said_more parent child c asked more IsOfReservation (pair.heeds i c h);
        alone = pair.alone;
        unseen = λ i c k r u. said_more parent child c asked more (IsSame k (xs i).connection) (pair.unseen i c k r u);
        untaken = λ m i r p u. untaken m r p u (Contains-append_cases asked more m i);
        commits = λ i c r. let w = pair.commits i c r in (w.0, w.1, said_more parent child c asked more (IsCommitOf w.0) w.2);
        backed = λ i.
            backed_still parent child (xs i) (xs i) asked (asked ++ more) d d (λ id q. q) (λ m j. Contains-append_left asked more m j) (λ c b j. j) refl (λ c k r. inl r) (pair.backed i);
        asked_for = asked_more parent child asked more d pair.asked_for;
        refuses = λ i c o e r m j. let w = pair.refuses i c o e r m j in (w.0, w.1, told_more parent child asked more w.0 w.2);
      }
    where
      untaken : (m : Message) → IsOfReservation m → m.header.provider ≡ child → is_taken m.header d.seen ≡ false → Contains asked m ⊎ Contains more m → (i : I) × (k : Kind) × ((xs i).reserve_request ≡ Some (sent m.header.correlation k))
      untaken m r p u (inl j) = pair.untaken m j r p u
      untaken m r p u (inr j) = absurd (none m j r p)

  module _ (c : ℕ) (new : is_taken (header_of parent child c) d.seen ≡ false) (not_asked : (m : Message) → Contains asked m → is_request m.body ≡ true → m.header.correlation ≡ c → ⊥) (xs : I → ChildConnection) (pair : IsPair I parent child xs asked d) where
    -- one view asks
    pub asks_pair : (i : I) (k : Kind) (m : Message) → is_reservation k ≡ true → kind_of m.body ≡ k → m.header ≡ header_of parent child c → connection_of m.body ≡ (xs i).connection → (xs i).reserve_request ≡ None →
        (ys : I → ChildConnection) → ys i ≡ asks k c (xs i) → ((j : I) → (j ≡ i → ⊥) → ys j ≡ xs j) → IsPair I parent child ys (asked ++ m ∷ []) d
    asks_pair i k m r kind hd named none ys here there =
        record {
          place = pair.place;
          mates = λ j. mates j (dec j i);
          apart = pair.apart;
          children = λ j. children j (dec j i);
          heeds = λ j e h. heeds j e h (dec j i);
          alone = λ j l e h g. alone j l e h g (dec j i) (dec l i);
          unseen = λ j e l h u. unseen j e l h u (dec j i);
          untaken = λ n j q p u. untaken n q p u (Contains-append_cases asked (m ∷ []) n j);
          commits = λ j e h. commits j e h (dec j i);
          backed = λ j. backed j (dec j i);
          asked_for = asked_more parent child asked (m ∷ []) d pair.asked_for;
          refuses = λ j e o x h a w. refuses j e o x h a w (dec j i);
        }
      where
        request_is : (asks k c (xs i)).reserve_request ≡ Some (sent c k)
        request_is = (asked_stands k c (xs i) r).0

        is_new : Contains (asked ++ m ∷ []) m
        is_new = Contains-append_right asked (m ∷ []) m (first_there m [])

        mates : (j : I) → (j ≡ i) ⊎ (j ≡ i → ⊥) → IsMate parent child (ys j) (pair.place j) d
        mates j (inl e) =
            subst (λ j. IsMate parent child (ys j) (pair.place j) d) (sym e)
            (subst (λ x. IsMate parent child x (pair.place i) d) (sym here) (asking_mate parent child d fair k c (xs i) (pair.place i) r none new (pair.mates i)))
        mates j (inr a) = subst (λ x. IsMate parent child x (pair.place j) d) (sym (there j a)) (pair.mates j)

        children : (j : I) → (j ≡ i) ⊎ (j ≡ i → ⊥) → (ys j).child ≡ child
        children j (inl e) = ap (λ j. (ys j).child) e ∙ ap (λ x. x.child) here ∙ (asks_place k c (xs i)).child ∙ pair.children i
        children j (inr a) = ap (λ x. x.child) (there j a) ∙ pair.children j

        -- what a view listens to it listened to before, or it is the view that asks
        heeded : (j : I) (e : ℕ) → IsHeeded (ys j) e → (j ≡ i) ⊎ (j ≡ i → ⊥) → IsHeeded (xs j) e ⊎ ((e ≡ c) × (j ≡ i))
        heeded j e h (inr a) = inl (subst (λ x. IsHeeded x e) (there j a) h)
        heeded j e h (inl q) = elim (asks_heeds parent child d k c e (xs i) r (subst (λ x. IsHeeded x e) here (subst (λ j. IsHeeded (ys j) e) q h))) [
          | inl w ↦ inl (subst (λ j. IsHeeded (xs j) e) (sym q) w)
          | inr w ↦ inr (w, q)
        ]

        heeds : (j : I) (e : ℕ) → IsHeeded (ys j) e → (j ≡ i) ⊎ (j ≡ i → ⊥) → IsAsked parent child e (asked ++ m ∷ []) IsOfReservation
        heeds j e h v = elim (heeded j e h v) [
          | inl w ↦ said_more parent child e asked (m ∷ []) IsOfReservation (pair.heeds j e w)
          | inr w ↦ record { message = m; there = is_new; header = hd ∙ ap (λ z. header_of parent child z) (sym w.0); is = ap is_reservation kind ∙ r }
        ]

        never : (j : I) → IsHeeded (xs j) c → ⊥
        never j h = let s = pair.heeds j c h in not_asked s.message s.there (reserving_asks s.message s.is) (ap (λ (z : Header). z.correlation) s.header)

        alone : (j l : I) (e : ℕ) → IsHeeded (ys j) e → IsHeeded (ys l) e → (j ≡ i) ⊎ (j ≡ i → ⊥) → (l ≡ i) ⊎ (l ≡ i → ⊥) → j ≡ l
        alone j l e h g v w = by_heed (heeded j e h v) (heeded l e g w)
          where
            by_heed : IsHeeded (xs j) e ⊎ ((e ≡ c) × (j ≡ i)) → IsHeeded (xs l) e ⊎ ((e ≡ c) × (l ≡ i)) → j ≡ l
            by_heed (inl a) (inl b) = pair.alone j l e a b
            by_heed (inl a) (inr (q, b)) = absurd (never j (subst (λ z. IsHeeded (xs j) z) q a))
            by_heed (inr (q, a)) (inl b) = absurd (never l (subst (λ z. IsHeeded (xs l) z) q b))
            by_heed (inr (q, a)) (inr (p, b)) = a ∙ sym b

        asked_here : (e : ℕ) (l : Kind) (j : I) → (ys j).reserve_request ≡ Some (sent e l) → j ≡ i → (c ≡ e) × (k ≡ l)
        asked_here e l j h q =
            let w : sent c k ≡ sent e l = some_sent (sent c k) (sent e l) (sym request_is ∙ sym (ap (λ x. x.reserve_request) here) ∙ sym (ap (λ j. (ys j).reserve_request) q) ∙ h) in
            (ap (λ z. z.correlation) w, ap (λ z. z.kind) w)

        same_connection : (j : I) → j ≡ i → (ys j).connection ≡ (xs i).connection
        same_connection j q = ap (λ j. (ys j).connection) q ∙ ap (λ x. x.connection) here ∙ (asks_known k c (xs i)).0

        unseen : (j : I) (e : ℕ) (l : Kind) → (ys j).reserve_request ≡ Some (sent e l) → is_taken (header_of parent child e) d.seen ≡ false → (j ≡ i) ⊎ (j ≡ i → ⊥) → IsAsked parent child e (asked ++ m ∷ []) (IsSame l (ys j).connection)
        unseen j e l h u (inl q) =
            let w = asked_here e l j h q in
            record { message = m; there = is_new; header = hd ∙ ap (λ z. header_of parent child z) w.0; is = (kind ∙ w.1, named ∙ sym (same_connection j q)) }
        unseen j e l h u (inr a) =
            let s = pair.unseen j e l (sym (ap (λ x. x.reserve_request) (there j a)) ∙ h) u in
            record { message = s.message; there = Contains-append_left asked (m ∷ []) s.message s.there; header = s.header; is = (s.is.0, s.is.1 ∙ sym (ap (λ x. x.connection) (there j a))) }

        untaken : (n : Message) → IsOfReservation n → n.header.provider ≡ child → is_taken n.header d.seen ≡ false → Contains asked n ⊎ Contains (m ∷ []) n → (j : I) × (l : Kind) × ((ys j).reserve_request ≡ Some (sent n.header.correlation l))
        untaken n q p u (inl w) =
            let s = pair.untaken n w q p u in
            (s.0, s.1, ap (λ x. x.reserve_request) (there s.0 (λ g. no_sent (sent n.header.correlation s.1) (sym none ∙ ap (λ j. (xs j).reserve_request) (sym g) ∙ s.2))) ∙ s.2)
        untaken n q p u (inr w) =
            let same : n ≡ m = only_one m n w in
            (i, k, ap (λ x. x.reserve_request) here ∙ request_is ∙ ap (λ z. Some (sent z k)) (sym (ap (λ (z : Header). z.correlation) hd) ∙ sym (ap (λ (z : Message). z.header.correlation) same)))

        commits : (j : I) (e : ℕ) → (ys j).reserve_request ≡ Some (sent e Kind.ReserveCommit) → (j ≡ i) ⊎ (j ≡ i → ⊥) → (id : ℕ) × ((ys j).connection ≡ Some id) × IsAsked parent child e (asked ++ m ∷ []) (IsCommitOf id)
        commits j e h (inl q) =
            let w = asked_here e Kind.ReserveCommit j h q in
            let b = commit_body m.body (kind ∙ w.1) in
            (b.0, same_connection j q ∙ sym named ∙ b.2, record { message = m; there = is_new; header = hd ∙ ap (λ z. header_of parent child z) w.0; is = b.1 })
        commits j e h (inr a) =
            let w = pair.commits j e (sym (ap (λ x. x.reserve_request) (there j a)) ∙ h) in
            (w.0, ap (λ x. x.connection) (there j a) ∙ w.1, said_more parent child e asked (m ∷ []) (IsCommitOf w.0) w.2)

        refuses : (j : I) (e : ℕ) (o : Option ℕ) (x : Exception) → (ys j).reserve_request ≡ Some (sent e Kind.ReserveAbort) → may_abort (ys j).before ≡ true → Contains (about (header_of parent child e) d.said) (Body.Error o x) → (j ≡ i) ⊎ (j ≡ i → ⊥) →
            (id : ℕ) × ((ys j).connection ≡ Some id) × IsTold parent child (asked ++ m ∷ []) (IsTerminateOf id)
        refuses j e o x h a w (inl q) =
            absurd (not_there (about (header_of parent child e) d.said) (Body.Error o x) (subst (λ z. about (header_of parent child z) d.said ≡ []) (asked_here e Kind.ReserveAbort j h q).0 (fair.silent c new)) w)
        refuses j e o x h a w (inr q) =
            let same = there j q in
            let v = pair.refuses j e o x (sym (ap (λ y. y.reserve_request) same) ∙ h) (sym (ap (λ y. may_abort y.before) same) ∙ a) w in
            (v.0, ap (λ y. y.connection) same ∙ v.1, told_more parent child asked (m ∷ []) v.0 v.2)

        backed_here : (j : I) → (ys j).connection ≡ (xs j).connection → (ys j).committed ≡ (xs j).committed →
            ((e : ℕ) (l : Kind) → (ys j).reserve_request ≡ Some (sent e l) → ((xs j).reserve_request ≡ Some (sent e l)) ⊎ (about (header_of parent child e) d.said ≡ [])) → AreBacked parent child (ys j) (asked ++ m ∷ []) d
        backed_here j known same waits =
            backed_still parent child (xs j) (ys j) asked (asked ++ m ∷ []) d d (λ id q. known ∙ q) (λ n h. Contains-append_left asked (m ∷ []) n h) (λ e b h. h) same waits (pair.backed j)

        backed : (j : I) → (j ≡ i) ⊎ (j ≡ i → ⊥) → AreBacked parent child (ys j) (asked ++ m ∷ []) d
        backed j (inl q) =
            backed_here j (same_connection j q ∙ ap (λ j. (xs j).connection) (sym q)) (ap (λ j. (ys j).committed) q ∙ ap (λ x. x.committed) here ∙ (asks_known k c (xs i)).1 ∙ ap (λ j. (xs j).committed) (sym q))
            (λ e l r. inr (subst (λ z. about (header_of parent child z) d.said ≡ []) (asked_here e l j r q).0 (fair.silent c new)))
        backed j (inr a) = backed_here j (ap (λ x. x.connection) (there j a)) (ap (λ x. x.committed) (there j a)) (λ e l r. inl (sym (ap (λ x. x.reserve_request) (there j a)) ∙ r))

---- Hearing

hears_child : (b : Body) (c : ℕ) (x : ChildConnection) → (hears b c x).view.child ≡ x.child
hears_child b c x = sym (ap (λ t. (hear_from t m x).view.child) (same_bytes x.child)) ∙ (hear_place m x).child
  where
    m : Message
    m = record { header = record { correlation = c; requester = []; provider = x.child }; body = b }

notice_settles : (b : Body) → is_answering b ≡ false → (settles b ≡ false) × (is_response b ≡ false)
unfolding is_answering is_asking is_noting settles is_response
notice_settles b e = grind (arith, e)

pub notice_alike : (b : Body) (c : ℕ) (x : ChildConnection) → is_answering b ≡ false → IsAlike x (hears b c x).view
notice_alike b c x e = let w = notice_settles b e in others_alike b c x w.0 w.1

-- a view whose commit is confirmed has nothing unanswered
commit_settles : (id c : ℕ) (x : ChildConnection) → is_open_of x.reserve_request Kind.ReserveCommit c ≡ true → (hears (Body.ReserveCommitConfirmed id) c x).view.reserve_request ≡ None
unfolding hears
commit_settles id c x e = grind (arith, e)

module _ (parent child : List ℕ) (d : Child) (fair : IsFair parent child d) (b : Body) (e : ℕ) (x : ChildConnection) (place : Option ℕ) (said : Contains (about (header_of parent child e) d.said) b) (h : IsMate parent child x place d) where
  abbrev y : ChildConnection
  y = (hears b e x).view

  -- what is said is of a request that was taken
  said_taken : is_taken (header_of parent child e) d.seen ≡ false → ⊥
  said_taken u = not_there (about (header_of parent child e) d.said) b (fair.silent e u) said

  heard_request : (q : Sent) → y.reserve_request ≡ Some q → x.reserve_request ≡ Some q
  heard_request q r = elim (request_stays b e x) [ inl w ↦ sym w ∙ r | inr w ↦ absurd (no_sent q (sym w ∙ r)) ]

  -- what was known stays
  pub connected : (id : ℕ) → x.connection ≡ Some id → y.connection ≡ Some id
  connected id q = by_learnt (messages_teach b e x)
    where
      by_learnt : Learns b e x y → y.connection ≡ Some id
      by_learnt (inl w) = w ∙ q
      by_learnt (inr w) = w.2 ∙ ap Some (one_id w.0 (h.seated.known id q) (h.seated.named e b w.0 w.3 said w.1))
        where
          one_id : (k : ℕ) → IsSeatOf place d.records id → IsSeatOf place d.records k → k ≡ id
          one_id k (n, p, i) (m, q, j) = sym j ∙ ap (λ z. (record_at z d.records).id) (same_some m n (sym q ∙ p)) ∙ i

  -- a request that isn't taken still knows what it knew
  unseen_connection : (c : ℕ) (k : Kind) → x.reserve_request ≡ Some (sent c k) → is_taken (header_of parent child c) d.seen ≡ false → y.connection ≡ x.connection
  unseen_connection c k r u = by_known x.connection refl
    where
      not_opening : (n : ℕ) → IsOpening parent child x n d → ⊥
      not_opening n g =
          true≢false (sym g.taken ∙ ap (λ z. is_taken (header_of parent child z) d.seen) (ap (λ z. z.correlation) (some_sent (sent g.c Kind.Reserve) (sent c k) (sym g.asked ∙ r))) ∙ u)

      by_learnt : x.connection ≡ None → Learns b e x y → y.connection ≡ x.connection
      by_learnt z (inl w) = w
      by_learnt z (inr w) = let s = h.seated.named e b w.0 w.3 said w.1 in absurd (not_opening s.0 (h.opened s.0 s.1 z))

      by_known : (o : Option ℕ) → x.connection ≡ o → y.connection ≡ x.connection
      by_known (Some id) q = connected id q ∙ sym q
      by_known None q = by_learnt q (messages_teach b e x)

  -- a request that isn't taken isn't answered
  unseen_request : (c : ℕ) (k : Kind) → x.reserve_request ≡ Some (sent c k) → is_taken (header_of parent child c) d.seen ≡ false → y.reserve_request ≡ Some (sent c k)
  unseen_request c k r u = by_correlation (cases_eq e c)
    where
      by_correlation : (e ≡ c) ⊎ (e ≡ c → ⊥) → y.reserve_request ≡ Some (sent c k)
      by_correlation (inl a) = absurd (said_taken (ap (λ z. is_taken (header_of parent child z) d.seen) a ∙ u))
      by_correlation (inr a) = let w = link_asked parent child d x (side_of parent child place d) c k h.linked r in (other_same b e c k x a r w.0 w.1).request ∙ r

module _ (I : Type 0) (dec : CanTellApart I) (parent child : List ℕ) (asked : List Message) (d : Child) (fair : IsFair parent child d) where
  resting_pair : (xs ys : I → ChildConnection) (more : List Message) → ((i : I) → IsAlike (xs i) (ys i)) → ReservesNothing child more → IsPair I parent child xs asked d → IsPair I parent child ys (asked ++ more) d
  resting_pair xs ys more a none pair = more_pair I dec parent child asked d fair ys more none (alike_pair I parent child asked d xs ys a pair)

  module _ (c : ℕ) (new : is_taken (header_of parent child c) d.seen ≡ false) (not_asked : (m : Message) → Contains asked m → is_request m.body ≡ true → m.header.correlation ≡ c → ⊥) (xs ys : I → ChildConnection) (more : List Message) where
    asked_pair : (i : I) (k : Kind) (m : Message) → more ≡ m ∷ [] → is_reservation k ≡ true → kind_of m.body ≡ k → m.header ≡ header_of parent child c → connection_of m.body ≡ (xs i).connection → (xs i).reserve_request ≡ None → IsAlike (asks k c (xs i)) (ys i) →
        ((j : I) → (j ≡ i → ⊥) → ys j ≡ xs j) → IsPair I parent child xs asked d → IsPair I parent child ys (asked ++ more) d
    asked_pair i k m o r kind hd named none a there pair =
        subst (λ z. IsPair I parent child ys (asked ++ z) d) (sym o)
        (alike_all (asks_pair I dec parent child asked d fair c new not_asked xs pair i k m r kind hd named none (λ j. then_view j (dec j i)) (here (dec i i)) (λ j q. away j q (dec j i))))
      where
        then_view : (j : I) → (j ≡ i) ⊎ (j ≡ i → ⊥) → ChildConnection
        then_view j (inl e) = asks k c (xs i)
        then_view j (inr e) = xs j

        here : (v : (i ≡ i) ⊎ (i ≡ i → ⊥)) → then_view i v ≡ asks k c (xs i)
        here (inl e) = refl
        here (inr e) = absurd (e refl)

        away : (j : I) → (j ≡ i → ⊥) → (v : (j ≡ i) ⊎ (j ≡ i → ⊥)) → then_view j v ≡ xs j
        away j q (inl e) = absurd (q e)
        away j q (inr e) = refl

        each : (j : I) (v : (j ≡ i) ⊎ (j ≡ i → ⊥)) → IsAlike (then_view j v) (ys j)
        each j (inl e) = subst (λ j. IsAlike (asks k c (xs i)) (ys j)) (sym e) a
        each j (inr e) = alike_same (xs j) (ys j) (there j e)

        alike_all : IsPair I parent child (λ j. then_view j (dec j i)) (asked ++ m ∷ []) d → IsPair I parent child ys (asked ++ m ∷ []) d
        alike_all p = alike_pair I parent child (asked ++ m ∷ []) d (λ j. then_view j (dec j i)) ys (λ j. each j (dec j i)) p

    -- an entry by which nothing comes
    pub quiet_pair : (input : Input) → ((m : Message) → input ≡ Input.Got m → ⊥) → Minds I parent child c input xs ys more → IsPair I parent child xs asked d → IsPair I parent child ys (asked ++ more) d
    quiet_pair input quiet (Minds.rests a none) pair = resting_pair xs ys more a none pair
    quiet_pair input quiet (Minds.asked i k m o r kind hd named none a there) pair = asked_pair i k m o r kind hd named none a there pair
    quiet_pair input quiet (Minds.heard m e o a) pair = absurd (quiet m e)

module _ (I : Type 0) (dec : CanTellApart I) (parent child : List ℕ) (asked : List Message) (d : Child) (fair : IsFair parent child d) (once : IsOnce parent asked) where
  -- all views hear an answer
  answers_pair : (b : Body) (e : ℕ) → Contains (about (header_of parent child e) d.said) b → (xs : I → ChildConnection) → IsPair I parent child xs asked d → IsPair I parent child (λ i. (hears b e (xs i)).view) asked d
  answers_pair b e said xs pair =
      record {
        place = pair.place;
        mates = λ i. told_mate parent child d b e (xs i) (pair.place i) said (pair.mates i);
        apart = pair.apart;
        children = λ i. hears_child b e (xs i) ∙ pair.children i;
        heeds = λ i c h. pair.heeds i c (hears_heeds parent child d b e (xs i) (pair.place i) said (pair.mates i) c h);
        alone = λ i j c h g.
            pair.alone i j c (hears_heeds parent child d b e (xs i) (pair.place i) said (pair.mates i) c h) (hears_heeds parent child d b e (xs j) (pair.place j) said (pair.mates j) c g);
        unseen = λ i c k r u.
            let q = heard_request parent child d fair b e (xs i) (pair.place i) said (pair.mates i) (sent c k) r in
            let s = pair.unseen i c k q u in
            record { message = s.message; there = s.there; header = s.header; is = (s.is.0, s.is.1 ∙ sym (unseen_connection parent child d fair b e (xs i) (pair.place i) said (pair.mates i) c k q u)) };
        untaken = λ m i r p u.
            let w = pair.untaken m i r p u in
            (w.0, w.1, unseen_request parent child d fair b e (xs w.0) (pair.place w.0) said (pair.mates w.0) m.header.correlation w.1 w.2 (ap (λ z. is_taken z d.seen) (sym (head m i r p)) ∙ u));
        commits = λ i c r.
            let w = pair.commits i c (heard_request parent child d fair b e (xs i) (pair.place i) said (pair.mates i) (sent c Kind.ReserveCommit) r) in
            (w.0, connected parent child d fair b e (xs i) (pair.place i) said (pair.mates i) w.0 w.1, w.2);
        backed = λ i. backed i (messages_commit b e (xs i));
        asked_for = pair.asked_for;
        refuses = λ i c o x r m j.
            let q = heard_request parent child d fair b e (xs i) (pair.place i) said (pair.mates i) (sent c Kind.ReserveAbort) r in
            let w = pair.refuses i c o x q (sym (ap may_abort (before_stays b e (xs i))) ∙ m) j in
            (w.0, connected parent child d fair b e (xs i) (pair.place i) said (pair.mates i) w.0 w.1, w.2);
      }
    where
      head : (m : Message) → Contains asked m → IsOfReservation m → m.header.provider ≡ child → m.header ≡ header_of parent child m.header.correlation
      head m i r p = headers_same m.header.correlation m.header.correlation m.header.requester parent m.header.provider child refl (once.own m i (reserving_asks m r)) p

      still : (i : I) → (hears b e (xs i)).view.committed ≡ (xs i).committed → AreBacked parent child (hears b e (xs i)).view asked d
      still i same =
          backed_still parent child (xs i) (hears b e (xs i)).view asked asked d d (connected parent child d fair b e (xs i) (pair.place i) said (pair.mates i)) (λ m j. j) (λ c b j. j) same
          (λ c k r. inl (heard_request parent child d fair b e (xs i) (pair.place i) said (pair.mates i) (sent c k) r)) (pair.backed i)

      backed : (i : I) → Commits b e (xs i) (hears b e (xs i)).view → AreBacked parent child (hears b e (xs i)).view asked d
      backed i (inl q) = still i q
      backed i (inr (id, is, opened, q)) = by_pending (xs i).pending refl
        where
          by_pending : (o : Option ℕ) → (xs i).pending ≡ o → AreBacked parent child (hears b e (xs i)).view asked d
          by_pending None p = still i (q ∙ ap (push_version (xs i).committed) p)
          by_pending (Some v) p =
              let waits : (xs i).reserve_request ≡ Some (sent e Kind.ReserveCommit) = commit_open (xs i).reserve_request e opened in
              let s = pair.commits i e waits in
              backed_more parent child (xs i) (hears b e (xs i)).view asked asked d d (connected parent child d fair b e (xs i) (pair.place i) said (pair.mates i)) (λ m j. j) (λ c b j. j) v e
              (q ∙ ap (push_version (xs i).committed) p) waits (subst (λ z. (hears z e (xs i)).view.reserve_request ≡ None) (sym is) (commit_settles id e (xs i) opened))
              (record { connection = s.0; known = s.1; commit = s.2; id = id; confirmed = subst (λ z. Contains (about (header_of parent child e) d.said) z) is said }) (pair.backed i)

  -- an entry of the parent
  pub minding_pair : (c : ℕ) (input : Input) (xs ys : I → ChildConnection) (more : List Message) → is_taken (header_of parent child c) d.seen ≡ false → ((m : Message) → Contains asked m → is_request m.body ≡ true → m.header.correlation ≡ c → ⊥) →
      ((m : Message) → input ≡ Input.Got m → is_answering m.body ≡ true → m.header.provider ≡ child → MayReach (header_of parent child m.header.correlation) d.said m.body) →
      Minds I parent child c input xs ys more → IsPair I parent child xs asked d → IsPair I parent child ys (asked ++ more) d
  minding_pair c input xs ys more new not_asked heard (Minds.rests a none) pair = resting_pair I dec parent child asked d fair xs ys more a none pair
  minding_pair c input xs ys more new not_asked heard (Minds.asked i k m o r kind hd named none a there) pair = asked_pair I dec parent child asked d fair c new not_asked xs ys more i k m o r kind hd named none a there pair
  minding_pair c input xs ys more new not_asked heard (Minds.heard m e o a) pair =
      subst (λ z. IsPair I parent child ys (asked ++ z) d) (sym o)
      (subst (λ z. IsPair I parent child ys z d) (sym (append-nil asked)) (alike_pair I parent child asked d (λ i. (hear m (xs i)).view) ys a by_child))
    where
      ignored : bytes_eq m.header.provider child ≡ false → IsPair I parent child (λ i. (hear m (xs i)).view) asked d
      ignored q =
          alike_pair I parent child asked d xs (λ i. (hear m (xs i)).view)
          (λ i. deaf i (bytes_eq m.header.provider (xs i).child) (ap (bytes_eq m.header.provider) (pair.children i) ∙ q)) pair
        where
          deaf : (i : I) (t : Bool) → t ≡ false → IsAlike (xs i) (hear_from t m (xs i)).view
          deaf i false w = alike_self (xs i)
          deaf i true w = absurd (cc)

      hearing : bytes_eq m.header.provider child ≡ true → (t : Bool) → is_answering m.body ≡ t → IsPair I parent child (λ i. (hear m (xs i)).view) asked d
      hearing q t w =
          alike_pair I parent child asked d (λ i. (hears m.body m.header.correlation (xs i)).view) (λ i. (hear m (xs i)).view)
          (λ i. attends i (bytes_eq m.header.provider (xs i).child) (ap (bytes_eq m.header.provider) (pair.children i) ∙ q)) (by_kind t w)
        where
          attends : (i : I) (t : Bool) → t ≡ true → IsAlike (hears m.body m.header.correlation (xs i)).view (hear_from t m (xs i)).view
          attends i true w = alike_self (hears m.body m.header.correlation (xs i)).view
          attends i false w = absurd (cc)

          by_body : MayReach (header_of parent child m.header.correlation) d.said m.body → IsPair I parent child (λ i. (hears m.body m.header.correlation (xs i)).view) asked d
          by_body (inl said) = answers_pair m.body m.header.correlation said xs pair
          by_body (inr rows) =
              alike_pair I parent child asked d xs (λ i. (hears m.body m.header.correlation (xs i)).view)
              (λ i. alike_same (xs i) (hears m.body m.header.correlation (xs i)).view (ap (λ (z : Heard). z.view) (rows_unheard m.body m.header.correlation (xs i) rows))) pair

          by_kind : (t : Bool) → is_answering m.body ≡ t → IsPair I parent child (λ i. (hears m.body m.header.correlation (xs i)).view) asked d
          by_kind true w = by_body (heard m e w ((bytes_eq-Decides m.header.provider child).0 q))
          by_kind false w = alike_pair I parent child asked d xs (λ i. (hears m.body m.header.correlation (xs i)).view) (λ i. notice_alike m.body m.header.correlation (xs i) w) pair

      by_sender : (t : Bool) → bytes_eq m.header.provider child ≡ t → IsPair I parent child (λ i. (hear m (xs i)).view) asked d
      by_sender true q = hearing q (is_answering m.body) refl
      by_sender false q = ignored q

      by_child : IsPair I parent child (λ i. (hear m (xs i)).view) asked d
      by_child = by_sender (bytes_eq m.header.provider child) refl
