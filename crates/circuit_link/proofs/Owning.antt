-- The view's own request at its child: its record takes it, a record is opened for it, or it is refused.
use Rattle.std.proofs.Common.{ℕ, ◌≡◌, ◌<◌, true, false, List, [], ◌∷◌, ◌++◌, length, Contains, Option, Some, None, ◌⊎◌, inl, inr, ◌==◌, ◌||◌, refl, sym, ap, ◌∙◌, subst, eqb-true, eq-eqb, true≢false, if◌then◌else◌}
use Rattle.std.proofs.lemmas.List.Elements.{Contains-append_left, Contains-append_right, Contains-append_cases}
use Rattle.nsi_primitive.specs.Messages.{kind_of, connection_of}
use Rattle.nsi_primitive.specs.declared.kind.ErrorName.{ErrorName}
use Rattle.nsi_primitive.specs.declared.kind.Kind.{Kind}
use Rattle.nsi_primitive.specs.declared.message.Body.{Body}
use Rattle.nsi_primitive.specs.declared.message.Criteria.{Criteria}
use Rattle.nsi_primitive.specs.declared.message.Header.{Header}
use Rattle.nsi_primitive.specs.declared.message.Message.{Message}
use Rattle.nsi_primitive.specs.declared.state.Side.{Side as Place}
use Rattle.message_retry.specs.Taken.{is_taken, is_same_request, with_taken}
use Rattle.child_connection.specs.Views.{ChildConnection, sent, is_open}
use Rattle.child_connection.specs.Holding.{is_reservation, teaches, IsHeeded}
use Rattle.connection_record.specs.declared.record.Record.{Record}
use Rattle.connection_record.specs.declared.moves.ReservationMove.{ReservationMove}
use Rattle.connection_record.specs.Applied.{reserve_move, moves, moves_if, requested}
use Rattle.connection_record.specs.Courses.{IsAlone, IsReservationSame, answering}
use Rattle.connection_record.specs.Moves.{reserves, asked_criteria}
use Rattle.connection_record.specs.Replies.{Moved, reply, plain}
use Rattle.connection_record.specs.Speaking.{owed, owed_reserve, owed_provision, owed_life, is_answering, is_asking, is_noting, Names}
use Rattle.connection_record.proofs.Acts.{same_self}
use Rattle.connection_record.proofs.Naming.{moves_if_names}
use Rattle.connection_record.proofs.Saying.{reserves_others}
use Rattle.agent_state.specs.Entries.{error_reply}
use Rattle.agent_state.specs.State.{no_record, record_at}
use Rattle.circuit_link.specs.Sides.{Side, took_in, OwesTaken}
use Rattle.circuit_link.specs.Links.{Link}
use Rattle.circuit_link.specs.Children.{Child, goes_on, about, TellsNothing, record_of, side_of}
use Rattle.circuit_link.specs.Headers.{header_of}
use Rattle.circuit_link.specs.Mates.{IsSeated, IsOpening, IsMate}
use Rattle.circuit_link.proofs.Abouts.{same_header, header_itself, about_cases, about_left, about_right, addressed_in, addressed_of, taken_now, taken_still, taken_apart, said_under}
use Rattle.circuit_link.proofs.Answering.{same_some, only_one, not_there, first_there, one_answer, answer_there, replied_of}
use Rattle.circuit_link.proofs.Likeness.{IsLike, link_like}
use Rattle.circuit_link.proofs.Rowless.{taken_rowless}
use Rattle.circuit_link.proofs.Mild.{KeepsSeat, seat_kept, IsAside, aside_mate, replied_named}
use Rattle.circuit_link.proofs.Starting.{first_move, first_records, first_seen, first_out, at, within_after, owner_after, id_after, new_record, later}
use Rattle.circuit_link.proofs.Taking.{refusing_link, refused_side}

-- a request of the reservation machine leaves the other machines
reserved_alone : (now : ℕ) (r : Record) (move : ReservationMove) (b : ℕ) → IsAlone b r → IsAlone b (reserves r.rsm move now r).rec
reserved_alone now r move b a =
    record { provision = λ n. (reserves_others r.rsm move now r b n).0 ∙ a.provision n; life = λ n. (reserves_others r.rsm move now r b n).1 ∙ a.life n }

pub reservation_alone : (side : Place) (body : Body) (c now : ℕ) (r : Record) (b : ℕ) → is_reservation (kind_of body) ≡ true → IsAlone b r → IsAlone b (moves_if side (requested now body c r) now r).rec
unfolding requested moves is_reservation
reservation_alone side (Body.Reserve q) c now r b e a = by_criteria (asked_criteria now q r.committed)
  where
    by_criteria : (o : Option Criteria) → IsAlone b (moves_if side (reserve_move c o) now r).rec
    by_criteria None = a
    by_criteria (Some criteria) = reserved_alone now r (ReservationMove.Reserve c criteria) b a
reservation_alone side (Body.ReserveCommit id) c now r b e a = reserved_alone now r (ReservationMove.Commit c) b a
reservation_alone side (Body.ReserveAbort id) c now r b e a = reserved_alone now r (ReservationMove.Abort c) b a
reservation_alone side _ c now r b e a = absurd (cc)

pub none_owed : (b g : ℕ) → owed b g no_record ≡ 0
unfolding owed owed_reserve owed_provision owed_life
none_owed b g = refl

same_request : (c d : ℕ) (k l : Kind) → Some (sent c k) ≡ Some (sent d l) → c ≡ d
same_request c d k l e = let q : sent c k ≡ sent d l = cc in ap (λ z. z.correlation) q

module _ (side : Place) (name parent : List ℕ) (now : ℕ) (x : ChildConnection) (place : Option ℕ) (d : Child) (n : ℕ) (m : Message) where
  abbrev row : Record
  row = record_at n d.records

  abbrev step : Moved
  step = first_move side name parent now x place d n m

  abbrev rows : List Record
  rows = first_records side name parent now x place d n m

  abbrev takes : List Header
  takes = first_seen side name parent now x place d n m

  abbrev tells : List Message
  tells = first_out side name parent now x place d n m

  abbrev here : Side
  here = side_of parent name place d

  abbrev then_side : Side
  then_side = side_of parent name place (goes_on d rows takes tells)

  names : Names row step
  names = moves_if_names side (requested now m.body m.header.correlation row) now row

  -- the own record takes the view's own request of the reservation machine
  module _ (c : ℕ) (k : Kind) (l : n < length d.records) (e : place ≡ Some n) (owned : (record_at n d.records).owner ≡ parent) (hd : m.header ≡ header_of parent name c) (u : is_taken m.header d.seen ≡ false) (r : x.reserve_request ≡ Some (sent c k)) where
    its_owner : step.rec.owner ≡ parent
    its_owner = (later side name parent now x place d n m).owner ∙ owned

    pub told_in : (b : ℕ) (w : Body) → Contains (about (header_of parent name b) tells) w → Contains (answering b step.out) w
    told_in b w i = (addressed_in name step.rec.owner parent b step.out w i).1

    told_of : (b : ℕ) (w : Body) → Contains (answering b step.out) w → Contains (about (header_of parent name b) tells) w
    told_of b w i = subst (λ o. Contains (about (header_of o name b) tells) w) its_owner (addressed_of name step.rec.owner b step.out w (taken_rowless side m.body m.header.correlation now row) i)

    pub own_link : Link x (took_in c (side_of parent name place d) (first_move side name parent now x place d n m)) → Link x (side_of parent name place (goes_on d rows takes tells))
    own_link h = link_like x (took_in c here step) then_side alike h
      where
        less : (b : ℕ) (w : Body) → Contains (here.said b) w ⊎ Contains (about (header_of parent name b) tells) w → Contains (here.said b ++ answering b step.out) w
        less b w (inl j) = Contains-append_left (here.said b) (answering b step.out) w j
        less b w (inr j) = Contains-append_right (here.said b) (answering b step.out) w (told_in b w j)

        more : (b : ℕ) (w : Body) → Contains (here.said b) w ⊎ Contains (answering b step.out) w → Contains (then_side.said b) w
        more b w (inl j) = about_left (header_of parent name b) d.said tells w j
        more b w (inr j) = about_right (header_of parent name b) d.said tells w (told_of b w j)

        open_is : (b : ℕ) → is_open x.reserve_request b ≡ true → b ≡ c
        open_is b i = eqb-true b c (sym (ap (λ o. is_open o b) r) ∙ i)

        seen_is : (b : ℕ) → b ≡ c → then_side.seen b ≡ ((b == c) || here.seen b)
        seen_is b g =
            ap (λ o. is_taken (header_of parent name o) takes) g ∙ ap (λ o. is_taken o takes) (sym hd) ∙ taken_now m.header d.seen u ∙ sym (ap (λ o. o || here.seen b) (eq-eqb b c g))

        alike : IsLike x (took_in c here step) then_side
        alike =
            record {
              same = subst (λ v. IsReservationSame step.rec v) (sym (new_record side name parent now x place d n m l e)) (same_self step.rec);
              less = λ b w i j. less b w (about_cases (header_of parent name b) d.said tells w j);
              more = λ b w i j. more b w (Contains-append_cases (here.said b) (answering b step.out) w j);
              seen = λ b i. seen_is b (open_is b i);
            }

    pub own_seated : is_reservation (kind_of m.body) ≡ true → IsSeated parent name x place d → IsSeated parent name x place (goes_on d rows takes tells)
    own_seated z f = seat_kept parent name x place d rows takes tells v f
      where
        here_is : (j : ℕ) → place ≡ Some j → (j ≡ n) × (record_at j rows ≡ step.rec)
        here_is j w = elim (at side name parent now x place d n m l j) [ inl y ↦ y | inr y ↦ absurd (y.0 (same_some j n (sym w ∙ e))) ]

        there_is : (j : ℕ) → (place ≡ Some j → ⊥) → record_at j rows ≡ record_at j d.records
        there_is j p = elim (at side name parent now x place d n m l j) [ inl y ↦ absurd (p (e ∙ ap Some (sym y.0))) | inr y ↦ y.1 ]

        v : KeepsSeat parent name x place d rows tells
        v =
            record {
              within = within_after side name parent now x place d n m l;
              owner = λ j _. owner_after side name parent now x place d n m l j;
              id = λ j _. id_after side name parent now x place d n m l j;
              others = λ j p o b i g. ap (λ y. owed b g y) (there_is j p) ∙ f.others j p (sym (ap (λ y. y.owner) (there_is j p)) ∙ o) b i g;
              alone = λ j w b i a.
                  let y = here_is j w in
                  subst (λ q. IsAlone b q) (sym y.1) (reservation_alone side m.body m.header.correlation now row b z (subst (λ q. IsAlone b (record_at q d.records)) y.0 a));
              named = λ b w id i j t. (n, e, sym (replied_named row.id id b w step.out names.names (replied_of b w step.out (told_in b w j)) t));
            }

  ---- A refusal

  abbrev refusal : ErrorName → List Message
  refusal error = error_reply name m error ∷ []

  refusal_says : (error : ErrorName) (c : ℕ) (b : Body) → Contains (about (header_of parent name c) (error_reply name m error ∷ [])) b → (header_of parent name c ≡ m.header) × (b ≡ Body.Error (connection_of m.body) (plain name error))
  refusal_says error c b i =
      let said : Message = error_reply name m error in
      let w = said_under (header_of parent name c) b (said ∷ []) i in
      let q : w.message ≡ said = only_one said w.message w.there in
      (same_header (header_of parent name c) m.header (sym (ap (λ (z : Message). is_same_request (header_of parent name c) z.header) q) ∙ w.header), sym w.body ∙ ap (λ (z : Message). z.body) q)

  refusal_there : (error : ErrorName) → Contains (about m.header (error_reply name m error ∷ [])) (Body.Error (connection_of m.body) (plain name error))
  unfolding about is_answering is_asking is_noting
  refusal_there error =
      subst (λ z. Contains (if z then Body.Error (connection_of m.body) (plain name error) ∷ [] else []) (Body.Error (connection_of m.body) (plain name error))) (sym (header_itself m.header))
      (first_there (Body.Error (connection_of m.body) (plain name error)) [])

  error_answers : (error : ErrorName) → is_answering (Body.Error (connection_of m.body) (plain name error)) ≡ true
  unfolding is_answering is_asking is_noting
  error_answers error = refl

  untaught : (error : ErrorName) (id : ℕ) → teaches (Body.Error (connection_of m.body) (plain name error)) ≡ Some id → ⊥
  unfolding teaches
  untaught error id e = absurd (cc)

  -- the records stay
  still_aside : (seen : List Header) (out : List Message) → IsSeated parent name x place d → ((c : ℕ) → is_taken (header_of parent name c) d.seen ≡ true → is_taken (header_of parent name c) seen ≡ true) →
      ((c : ℕ) (b : Body) → IsHeeded x c → Contains (about (header_of parent name c) out) b → ⊥) →
      ((c : ℕ) → is_open x.reserve_request c ≡ true → is_taken (header_of parent name c) seen ≡ is_taken (header_of parent name c) d.seen) → IsAside parent name x place d d.records seen out
  still_aside seen out f taken silent same =
      record {
        within = λ j h. h;
        owner = λ j h. refl;
        id = λ j h. refl;
        others = f.others;
        alone = λ j e c h a. a;
        taken = taken;
        owes = λ j e c h g o. o;
        same = same_self (record_of place d.records);
        silent = silent;
        seen_same = same;
      }

  -- another's request is refused
  pub foreign_refused : (error : ErrorName) → is_taken m.header d.seen ≡ false → ((c : ℕ) → IsHeeded x c → m.header ≡ header_of parent name c → ⊥) → IsMate parent name x place d →
      IsMate parent name x place (goes_on d d.records (with_taken m.header d.seen) (error_reply name m error ∷ []))
  foreign_refused error u foreign h =
      aside_mate parent name x place d d.records (with_taken m.header d.seen) (refusal error)
      (still_aside (with_taken m.header d.seen) (refusal error) h.seated (λ c t. taken_still (header_of parent name c) m.header d.seen u t)
      (λ c b i j. foreign c i (sym (refusal_says error c b j).0)) (λ c i. taken_apart (header_of parent name c) m.header d.seen u (λ e. foreign c (inr i) (sym e)))) h

  -- another's request is taken, and what is said concerns no view
  pub foreign_seen : (out : List Message) → TellsNothing out → is_taken m.header d.seen ≡ false → ((c : ℕ) → IsHeeded x c → m.header ≡ header_of parent name c → ⊥) → IsMate parent name x place d →
      IsMate parent name x place (goes_on d d.records (with_taken m.header d.seen) out)
  foreign_seen out none u foreign h =
      aside_mate parent name x place d d.records (with_taken m.header d.seen) out
      (still_aside (with_taken m.header d.seen) out h.seated (λ c t. taken_still (header_of parent name c) m.header d.seen u t)
      (λ c b i j. not_there (about (header_of parent name c) out) b (none (header_of parent name c)) j) (λ c i. taken_apart (header_of parent name c) m.header d.seen u (λ e. foreign c (inr i) (sym e)))) h

  -- the view's own request is refused
  pub own_refused : (error : ErrorName) (c : ℕ) (k : Kind) → is_taken m.header d.seen ≡ false → m.header ≡ header_of parent name c → x.reserve_request ≡ Some (sent c k) →
      ((b n : ℕ) → (record_at n d.records).owner ≡ parent → is_taken (header_of parent name b) d.seen ≡ false → (g : ℕ) → owed b g (record_at n d.records) ≡ 0) →
      IsMate parent name x place d → IsMate parent name x place (goes_on d d.records (with_taken m.header d.seen) (error_reply name m error ∷ []))
  unfolding record_of
  own_refused error c k u hd r unowed h =
      record { linked = link_like x (refused_side c k x here (connection_of m.body) (plain name error)) after alike linked; seated = seat_kept parent name x place d d.records (with_taken m.header d.seen) (refusal error) v h.seated; opened = λ j e q. absurd (not_opening j (h.opened j e q)) }
    where
      after : Side
      after = side_of parent name place (goes_on d d.records (with_taken m.header d.seen) (refusal error))

      body : Body
      body = Body.Error (connection_of m.body) (plain name error)

      unseen : is_taken (header_of parent name c) d.seen ≡ false
      unseen = ap (λ z. is_taken z d.seen) (sym hd) ∙ u

      owes_at : (o : Option ℕ) → place ≡ o → (b g : ℕ) → is_taken (header_of parent name b) d.seen ≡ false → owed b g (record_of o d.records) ≡ 0
      owes_at None e b g t = none_owed b g
      owes_at (Some j) e b g t = unowed b j (h.seated.seated j e).1 t g

      owes : OwesTaken here
      owes b g t = owes_at place refl b g t

      linked : Link x (refused_side c k x here (connection_of m.body) (plain name error))
      linked = refusing_link c k x here (connection_of m.body) (plain name error) owes r unseen h.linked

      said_in : (b : ℕ) (w : Body) → Contains (about (header_of parent name b) (refusal error)) w → Contains (answering b (reply c body ∷ [])) w
      said_in b w i =
          let q = refusal_says error b w i in
          let s : b ≡ c = ap (λ (z : Header). z.correlation) (q.0 ∙ hd) in
          subst (λ z. Contains (answering b (reply c body ∷ [])) z) (sym q.1) (subst (λ z. Contains (answering z (reply c body ∷ [])) body) (sym s) (answer_there c body (error_answers error)))

      said_of : (b : ℕ) (w : Body) → Contains (answering b (reply c body ∷ [])) w → Contains (about (header_of parent name b) (refusal error)) w
      said_of b w i =
          let q = one_answer b c w body i in
          subst (λ z. Contains (about (header_of parent name b) (refusal error)) z) (sym q.1) (subst (λ z. Contains (about (header_of parent name z) (refusal error)) body) (sym q.0) (subst (λ z. Contains (about z (refusal error)) body) hd (refusal_there error)))

      open_is : (b : ℕ) → is_open x.reserve_request b ≡ true → b ≡ c
      open_is b i = eqb-true b c (sym (ap (λ o. is_open o b) r) ∙ i)

      seen_is : (b : ℕ) → b ≡ c → after.seen b ≡ ((b == c) || here.seen b)
      seen_is b g =
          ap (λ o. is_taken (header_of parent name o) (with_taken m.header d.seen)) g ∙ ap (λ o. is_taken o (with_taken m.header d.seen)) (sym hd) ∙ taken_now m.header d.seen u ∙
          sym (ap (λ o. o || here.seen b) (eq-eqb b c g))

      less : (b : ℕ) (w : Body) → Contains (here.said b) w ⊎ Contains (about (header_of parent name b) (refusal error)) w → Contains (here.said b ++ answering b (reply c body ∷ [])) w
      less b w (inl j) = Contains-append_left (here.said b) (answering b (reply c body ∷ [])) w j
      less b w (inr j) = Contains-append_right (here.said b) (answering b (reply c body ∷ [])) w (said_in b w j)

      more : (b : ℕ) (w : Body) → Contains (here.said b) w ⊎ Contains (answering b (reply c body ∷ [])) w → Contains (after.said b) w
      more b w (inl j) = about_left (header_of parent name b) d.said (refusal error) w j
      more b w (inr j) = about_right (header_of parent name b) d.said (refusal error) w (said_of b w j)

      alike : IsLike x (refused_side c k x here (connection_of m.body) (plain name error)) after
      alike =
          record {
            same = same_self here.rec;
            less = λ b w i j. less b w (about_cases (header_of parent name b) d.said (refusal error) w j);
            more = λ b w i j. more b w (Contains-append_cases (here.said b) (answering b (reply c body ∷ [])) w j);
            seen = λ b i. seen_is b (open_is b i);
          }

      v : KeepsSeat parent name x place d d.records (refusal error)
      v =
          record {
            within = λ j l. l;
            owner = λ j l. refl;
            id = λ j l. refl;
            others = h.seated.others;
            alone = λ j e b i a. a;
            named = λ b w id i j t. absurd (untaught error id (sym (ap teaches (refusal_says error b w j).1) ∙ t));
          }

      not_opening : (j : ℕ) → IsOpening parent name x j d → ⊥
      not_opening j g = true≢false (sym g.taken ∙ ap (λ z. is_taken (header_of parent name z) d.seen) (same_request g.c c Kind.Reserve k (sym g.asked ∙ r)) ∙ unseen)
