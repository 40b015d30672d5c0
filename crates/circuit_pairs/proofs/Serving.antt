-- An entry of the child keeps the pair: a request is one view's own, or passes all of them by.
use Rattle.std.proofs.Common.{ℕ, ◌≡◌, ◌<◌, Bool, true, false, List, length, Contains, Option, Some, ◌⊎◌, inl, inr, refl, sym, ap, ◌∙◌, subst, arith, bytes_eq, true≢false}
use Rattle.std.proofs.lemmas.Slice.Eq.{bytes_eq-Decides}
use Rattle.nsi_primitive.specs.Messages.{kind_of, connection_of, is_request}
use Rattle.nsi_primitive.specs.declared.entry.Input.{Input}
use Rattle.nsi_primitive.specs.declared.kind.Kind.{Kind}
use Rattle.nsi_primitive.specs.declared.message.Body.{Body}
use Rattle.nsi_primitive.specs.declared.message.Exception.{Exception}
use Rattle.nsi_primitive.specs.declared.message.Header.{Header}
use Rattle.nsi_primitive.specs.declared.message.Message.{Message}
use Rattle.message_retry.specs.Taken.{is_taken}
use Rattle.child_connection.specs.Views.{ChildConnection, sent}
use Rattle.child_connection.specs.Holding.{is_reservation}
use Rattle.connection_record.specs.declared.record.Record.{Record}
use Rattle.agent_state.specs.State.{record_at}
use Rattle.circuit_link.specs.Links.{IsAttempt, Link}
use Rattle.circuit_link.specs.Sides.{Side}
use Rattle.aggregator_agent.specs.Asking.{may_abort}
use Rattle.circuit_link.specs.Children.{Child, goes_on, about, side_of, IsFair}
use Rattle.circuit_link.specs.Headers.{header_of}
use Rattle.circuit_link.specs.Mates.{IsMate}
use Rattle.circuit_link.specs.Serving.{Serves, IsForeign, IsOwn, LeavesAlone, IsPlaceAfter}
use Rattle.circuit_link.proofs.Abouts.{headers_same, about_left, about_cases, taken_before}
use Rattle.circuit_link.proofs.Answering.{same_some}
use Rattle.circuit_link.proofs.Entering.{passing_mate, own_mate}
use Rattle.circuit_link.proofs.Likeness.{open_itself}
use Rattle.circuit_pairs.proofs.Backing.{backed_still}
use Rattle.circuit_pairs.proofs.Doing.{serving_asked}
use Rattle.circuit_pairs.proofs.Refusing.{reserving_asks, serving_refuses}
use Rattle.circuit_pairs.specs.Pairs.{IsTerminateOf, IsTold, IsAsked, IsOfReservation, IsSame, IsPair, IsOnce}
use Rattle.circuit_pairs.specs.Laws.{CanTellApart}

---- What a link says of the kind of its request

attempt_kind : (k : Kind) (c : ℕ) (x : ChildConnection) → IsAttempt k c x → is_reservation k ≡ true
unfolding is_reservation
attempt_kind k c x a = grind (arith, a)

pub request_kind : (x : ChildConnection) (s : Side) (c : ℕ) (k : Kind) → Link x s → x.reserve_request ≡ Some (sent c k) → is_reservation k ≡ true
request_kind x s c k (Link.calm h) r = absurd (let n = h.quiet.none in cc)
request_kind x s c k (Link.asked d l r' p a y) r = ap is_reservation (same_kind d c l k (sym r' ∙ r)) ∙ attempt_kind l d x a
  where
    same_kind : (c d : ℕ) (k l : Kind) → Some (sent c k) ≡ Some (sent d l) → l ≡ k
    same_kind c d k l e = let q : sent c k ≡ sent d l = cc in sym (ap (λ z. z.kind) q)

pub seen_fewer : (name : List ℕ) (input : Input) (d : Child) (records : List Record) (seen : List Header) (out : List Message) → Serves name input d records seen out → (h : Header) → is_taken h seen ≡ false → is_taken h d.seen ≡ false
seen_fewer name input d records seen out (Serves.acts e v) h u = sym (ap (is_taken h) e) ∙ u
seen_fewer name input d records seen out (Serves.leaves m w k r o) h u = taken_before h m.header d.seen w.untaken (sym (ap (is_taken h) w.counted) ∙ u)
seen_fewer name input d records seen out (Serves.refuses m error now w v r o) h u = taken_before h m.header d.seen w.untaken (sym (ap (is_taken h) w.counted) ∙ u)
seen_fewer name input d records seen out (Serves.takes m n side now w a t) h u = taken_before h m.header d.seen w.untaken (sym (ap (is_taken h) w.counted) ∙ u)
seen_fewer name input d records seen out (Serves.opens m id s source dest side now w b t) h u = taken_before h m.header d.seen w.untaken (sym (ap (is_taken h) w.counted) ∙ u)

module _ (I : Type 0) (dec : CanTellApart I) (parent name : List ℕ) (xs : I → ChildConnection) (asked : List Message) (d : Child) (input : Input) (records : List Record) (seen : List Header) (out : List Message) (fair : IsFair parent name d) (once : IsOnce parent asked)
    (serves : Serves name input d records seen out) (pair : IsPair I parent name xs asked d) (were : (m : Message) → input ≡ Input.Got m → is_request m.body ≡ true → m.header.requester ≡ parent → Contains asked m) where
  abbrev after : Child
  after = goes_on d records seen out

  -- all but the mates stays
  mated : (place : I → Option ℕ) → ((i : I) → IsMate parent name (xs i) (place i) (goes_on d records seen out)) → ((i j : I) (n : ℕ) → place i ≡ Some n → place j ≡ Some n → i ≡ j) → IsPair I parent name xs asked (goes_on d records seen out)
  mated place mates apart =
      record {
        place = place;
        mates = mates;
        apart = apart;
        children = pair.children;
        heeds = pair.heeds;
        alone = pair.alone;
        unseen = λ i c k r u. pair.unseen i c k r (seen_fewer name input d records seen out serves (header_of parent name c) u);
        untaken = λ m i r p u. pair.untaken m i r p (seen_fewer name input d records seen out serves m.header u);
        commits = pair.commits;
        backed = λ i.
            backed_still parent name (xs i) (xs i) asked asked d (goes_on d records seen out) (λ id q. q) (λ m j. j) (λ c b j. about_left (header_of parent name c) d.said out b j) refl (λ c k r. inl r) (pair.backed i);
        asked_for = serving_asked parent name asked d pair.asked_for input records seen out were serves;
        refuses = λ i c o e r m j. refuses i c o e r m (about_cases (header_of parent name c) d.said out (Body.Error o e) j);
      }
    where
      refuses : (i : I) (c : ℕ) (o : Option ℕ) (e : Exception) → (xs i).reserve_request ≡ Some (sent c Kind.ReserveAbort) → may_abort (xs i).before ≡ true →
          Contains (about (header_of parent name c) d.said) (Body.Error o e) ⊎ Contains (about (header_of parent name c) out) (Body.Error o e) → (id : ℕ) × ((xs i).connection ≡ Some id) × IsTold parent name asked (IsTerminateOf id)
      refuses i c o e r m (inl j) = pair.refuses i c o e r m j
      refuses i c o e r m (inr j) =
          serving_refuses parent name asked d fair once pair.asked_for (xs i) (pair.place i) (pair.mates i) (pair.unseen i) (pair.heeds i) c r input records seen out were serves m o e j

  -- whose a request is
  data Whose (m : Message) : Type 0 where
    own : (i : I) → IsOwn parent name (xs i) m → ((j : I) → (j ≡ i → ⊥) → IsForeign parent name (xs j) m) → Whose m
    other : ((j : I) → IsForeign parent name (xs j) m) → (m.header.requester ≡ parent → m.header.provider ≡ name → is_reservation (kind_of m.body) ≡ false) → Whose m

  whose : (m : Message) → (m.header.requester ≡ parent → Contains asked m) → is_request m.body ≡ true → is_taken m.header d.seen ≡ false → Whose m
  whose m mine q u = by_parts (bytes_eq m.header.requester parent) (bytes_eq m.header.provider name) (is_reservation (kind_of m.body)) refl refl refl
    where
      foreign : (m.header.requester ≡ parent → m.header.provider ≡ name → is_reservation (kind_of m.body) ≡ false) → (j : I) → IsForeign parent name (xs j) m
      foreign f j c h e =
          let s : IsAsked parent name c asked IsOfReservation = pair.heeds j c h in
          let r : m.header.requester ≡ parent = ap (λ (z : Header). z.requester) e in
          let p : m.header.provider ≡ name = ap (λ (z : Header). z.provider) e in
          let same : m ≡ s.message = once.once m s.message (mine r) s.there q (reserving_asks s.message s.is) (ap (λ (z : Header). z.correlation) e ∙ sym (ap (λ (z : Header). z.correlation) s.header)) in
          true≢false (sym s.is ∙ ap (λ (z : Message). is_reservation (kind_of z.body)) (sym same) ∙ f r p)

      ours : m.header.requester ≡ parent → m.header.provider ≡ name → is_reservation (kind_of m.body) ≡ true → Whose m
      ours r p k =
          let w = pair.untaken m (mine r) k p u in
          let i : I = w.0 in
          let l : Kind = w.1 in
          let c : ℕ = m.header.correlation in
          let hd : m.header ≡ header_of parent name c = headers_same c c m.header.requester parent m.header.provider name refl r p in
          let fresh : is_taken (header_of parent name c) d.seen ≡ false = ap (λ z. is_taken z d.seen) (sym hd) ∙ u in
          let s : IsAsked parent name c asked (IsSame l (xs i).connection) = pair.unseen i c l w.2 fresh in
          let kind : is_reservation l ≡ true = request_kind (xs i) (side_of parent name (pair.place i) d) c l (pair.mates i).linked w.2 in
          let same : m ≡ s.message = once.once m s.message (mine r) s.there q (reserving_asks s.message (ap is_reservation s.is.0 ∙ kind)) (sym (ap (λ (z : Header). z.correlation) s.header)) in
          own i
          (record {
            c = c;
            kind = l;
            header = hd;
            asked = w.2;
            its_kind = ap (λ (z : Message). kind_of z.body) same ∙ s.is.0;
            reservation = kind;
            connection = ap (λ (z : Message). connection_of z.body) same ∙ s.is.1;
          })
          (λ j a b h g. a (pair.alone j i b h (inr (open_itself (xs i).reserve_request b l (w.2 ∙ ap (λ z. Some (sent z l)) (ap (λ (z : Header). z.correlation) g))))))

      by_parts : (a b c : Bool) → bytes_eq m.header.requester parent ≡ a → bytes_eq m.header.provider name ≡ b → is_reservation (kind_of m.body) ≡ c → Whose m
      by_parts true true true e f g = ours ((bytes_eq-Decides m.header.requester parent).0 e) ((bytes_eq-Decides m.header.provider name).0 f) g
      by_parts true true false e f g = other (foreign (λ _ _. g)) (λ _ _. g)
      by_parts true false c e f g =
          let no : m.header.requester ≡ parent → m.header.provider ≡ name → is_reservation (kind_of m.body) ≡ false = λ _ p. absurd (true≢false (sym ((bytes_eq-Decides m.header.provider name).1 p) ∙ f)) in
          other (foreign no) no
      by_parts false b c e f g =
          let no : m.header.requester ≡ parent → m.header.provider ≡ name → is_reservation (kind_of m.body) ≡ false = λ r _. absurd (true≢false (sym ((bytes_eq-Decides m.header.requester parent).1 r) ∙ e)) in
          other (foreign no) no

  passes : (i : I) → ((m : Message) → input ≡ Input.Got m → is_request m.body ≡ true → is_taken m.header d.seen ≡ false → IsForeign parent name (xs i) m × LeavesAlone name (pair.place i) m d) →
      IsMate parent name (xs i) (pair.place i) (goes_on d records seen out)
  passes i f = passing_mate parent name (xs i) (pair.place i) d fair (pair.mates i) input records seen out serves f

  -- no request comes
  none_comes : ((m : Message) → input ≡ Input.Got m → is_request m.body ≡ true → is_taken m.header d.seen ≡ false → ⊥) → IsPair I parent name xs asked (goes_on d records seen out)
  none_comes f = mated pair.place (λ i. passes i (λ m e q u. absurd (f m e q u))) pair.apart

  same_message : (a b : Message) → Input.Got a ≡ Input.Got b → a ≡ b
  same_message a b e = cc

  module _ (m : Message) (got : input ≡ Input.Got m) (mine : m.header.requester ≡ parent → Contains asked m) (q : is_request m.body ≡ true) (u : is_taken m.header d.seen ≡ false) where
    passes_by : (i : I) → IsForeign parent name (xs i) m → LeavesAlone name (pair.place i) m d → IsMate parent name (xs i) (pair.place i) (goes_on d records seen out)
    passes_by i f l =
        passes i (λ n e _ _. let same : m ≡ n = same_message m n (sym got ∙ e) in (subst (λ z. IsForeign parent name (xs i) z) same f, subst (λ z. LeavesAlone name (pair.place i) z d) same l))

    -- a request of another kind, or another's
    others : ((j : I) → IsForeign parent name (xs j) m) → (m.header.requester ≡ parent → m.header.provider ≡ name → is_reservation (kind_of m.body) ≡ false) → IsPair I parent name xs asked (goes_on d records seen out)
    others f never = mated pair.place (λ i. passes_by i (f i) (λ n id e p c w o. never (sym o ∙ ((pair.mates i).seated.seated n e).1) p)) pair.apart

    of_own : (i : I) → IsOwn parent name (xs i) m → ((j : I) → (j ≡ i → ⊥) → IsForeign parent name (xs j) m) → IsPair I parent name xs asked (goes_on d records seen out)
    of_own i o f = by_place (own_mate parent name (xs i) (pair.place i) d fair (pair.mates i) input records seen out m got o serves)
      where
        -- a record that the request names is the view's
        seat : (n id : ℕ) → n < length d.records → connection_of m.body ≡ Some id → (record_at n d.records).id ≡ id → pair.place i ≡ Some n
        seat n id l c w =
            let s = (pair.mates i).seated.known id (sym o.connection ∙ c) in
            s.1 ∙ ap Some (fair.ids s.0 n ((pair.mates i).seated.seated s.0 s.1).0 l (s.2 ∙ sym w))

        away : (j : I) → (j ≡ i → ⊥) → IsMate parent name (xs j) (pair.place j) (goes_on d records seen out)
        away j a = passes_by j (f j a) (λ n id e p c w r. absurd (a (pair.apart j i n e (seat n id ((pair.mates j).seated.seated n e).0 c w))))

        by_place : (new : Option ℕ) × IsMate parent name (xs i) new (goes_on d records seen out) × IsPlaceAfter (pair.place i) new d.records records → IsPair I parent name xs asked (goes_on d records seen out)
        by_place (new, mate, at) = mated (λ j. place j (dec j i)) (λ j. mates j (dec j i)) (λ j k n e g. apart j k n (dec j i) (dec k i) e g)
          where
            place : (j : I) → (j ≡ i) ⊎ (j ≡ i → ⊥) → Option ℕ
            place j (inl e) = new
            place j (inr e) = pair.place j

            mates : (j : I) (w : (j ≡ i) ⊎ (j ≡ i → ⊥)) → IsMate parent name (xs j) (place j w) (goes_on d records seen out)
            mates j (inl e) = subst (λ j. IsMate parent name (xs j) new (goes_on d records seen out)) (sym e) mate
            mates j (inr e) = away j e

            -- the place of no other view
            alone : (k : I) (n : ℕ) → (k ≡ i → ⊥) → IsPlaceAfter (pair.place i) new d.records records → new ≡ Some n → pair.place k ≡ Some n → ⊥
            alone k n a (inl w) e g = a (pair.apart k i n g (sym w ∙ e))
            alone k n a (inr w) e g = let q : length d.records ≡ n = same_some (length d.records) n (sym w.1 ∙ e) in omega (arith, q, ((pair.mates k).seated.seated n g).0)

            apart : (j k : I) (n : ℕ) (v : (j ≡ i) ⊎ (j ≡ i → ⊥)) (w : (k ≡ i) ⊎ (k ≡ i → ⊥)) → place j v ≡ Some n → place k w ≡ Some n → j ≡ k
            apart j k n (inl v) (inl w) e g = v ∙ sym w
            apart j k n (inl v) (inr w) e g = absurd (alone k n w at e g)
            apart j k n (inr v) (inl w) e g = absurd (alone j n v at g e)
            apart j k n (inr v) (inr w) e g = pair.apart j k n e g

    of_whose : Whose m → IsPair I parent name xs asked (goes_on d records seen out)
    of_whose (own i o f) = of_own i o f
    of_whose (other f never) = others f never

  -- by what came
  by_message : (m : Message) → input ≡ Input.Got m → (m.header.requester ≡ parent → is_request m.body ≡ true → Contains asked m) → (a b : Bool) → is_request m.body ≡ a → is_taken m.header d.seen ≡ b → IsPair I parent name xs asked (goes_on d records seen out)
  by_message m got mine true false q u = of_whose m got (λ r. mine r q) q u (whose m (λ r. mine r q) q u)
  by_message m got mine false b q u = none_comes (λ n e r w. true≢false (sym r ∙ ap (λ (z : Message). is_request z.body) (same_message n m (sym e ∙ got)) ∙ q))
  by_message m got mine true true q u = none_comes (λ n e r w. true≢false (sym u ∙ ap (λ (z : Message). is_taken z.header d.seen) (same_message m n (sym got ∙ e)) ∙ w))

  pub serving_pair : IsPair I parent name xs asked (goes_on d records seen out)
  serving_pair = by_input input refl
    where
      by_input : (i : Input) → input ≡ i → IsPair I parent name xs asked (goes_on d records seen out)
      by_input (Input.Got m) e = by_message m e (λ r q. were m e q r) (is_request m.body) (is_taken m.header d.seen) refl refl
      by_input Input.Tick e = none_comes (λ m g q u. absurd (let w = sym e ∙ g in cc))
      by_input (Input.Acked i) e = none_comes (λ m g q u. absurd (let w = sym e ∙ g in cc))
      by_input (Input.Work n machine) e = none_comes (λ m g q u. absurd (let w = sym e ∙ g in cc))
      by_input (Input.Force n) e = none_comes (λ m g q u. absurd (let w = sym e ∙ g in cc))
      by_input (Input.Ask n ask) e = none_comes (λ m g q u. absurd (let w = sym e ∙ g in cc))
