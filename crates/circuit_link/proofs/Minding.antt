-- A view that asks, or that hears what its child has said, stays its child's mate.
use Rattle.std.proofs.Common.{ℕ, ◌≡◌, true, false, List, Contains, Option, Some, None, ◌⊎◌, inl, inr, refl, sym, ap, ◌∙◌, subst, arith, eqb-true}
use Rattle.std.proofs.lemmas.Bool.{cases_eq}
use Rattle.nsi_primitive.specs.declared.kind.Kind.{Kind}
use Rattle.nsi_primitive.specs.declared.message.Body.{Body}
use Rattle.message_retry.specs.Taken.{is_taken}
use Rattle.record_index.proofs.Members.{nothing_in}
use Rattle.child_connection.specs.declared.state.Phase.{Phase}
use Rattle.child_connection.specs.declared.state.Sent.{Sent}
use Rattle.child_connection.specs.Views.{ChildConnection, sent, is_open}
use Rattle.child_connection.specs.Asks.{asks}
use Rattle.child_connection.specs.Hearing.{Heard, hears}
use Rattle.child_connection.specs.Holding.{is_reservation, phase_of, teaches, IsHeeded, IsSameReservation, IsAlike, Learns}
use Rattle.child_connection.proofs.Holds.{asked_stands}
use Rattle.child_connection.proofs.Learning.{messages_teach, first_answer_teaches}
use Rattle.child_connection.proofs.Places.{asks_known}
use Rattle.child_connection.proofs.Reservations.{request_stays, attempt_asked}
use Rattle.connection_record.specs.declared.record.Record.{Record}
use Rattle.connection_record.specs.Courses.{IsAlone}
use Rattle.connection_record.specs.Speaking.{owed}
use Rattle.agent_state.specs.State.{no_record, record_at}
use Rattle.circuit_link.specs.Links.{IsAttempt, Link}
use Rattle.circuit_link.specs.Sides.{Side}
use Rattle.circuit_link.specs.Children.{Child, about, record_of, side_of, MayReach, IsFair}
use Rattle.circuit_link.specs.Headers.{header_of}
use Rattle.circuit_link.specs.Mates.{IsSeatOf, IsOpening, IsOpened, IsMate}
use Rattle.circuit_link.proofs.Answering.{same_some}
use Rattle.circuit_link.proofs.Hearing.{same_link, hearing_link, other_same, rows_unheard}
use Rattle.circuit_link.proofs.Owning.{none_owed}
use Rattle.circuit_link.proofs.Taking.{asking_link}

pub alike_heeds : (x y : ChildConnection) (c : ℕ) → IsSameReservation x y → IsHeeded y c → IsHeeded x c
alike_heeds x y c a (inl e) = inl (sym a.attempt ∙ e)
alike_heeds x y c a (inr e) = inr (sym (ap (λ o. is_open o c) a.request) ∙ e)

clash : (q : Sent) → None ≡ Some q → ⊥
clash q e = cc

module _ (parent child : List ℕ) (d : Child) where
  -- a view that differs in nothing that the reservation has
  pub alike_mate : (x y : ChildConnection) (place : Option ℕ) → IsAlike x y → IsMate parent child x place d → IsMate parent child y place d
  alike_mate x y place a h =
      record {
        linked = same_link x y (side_of parent child place d) a.reservation h.linked;
        seated =
            record {
              seated = h.seated.seated;
              others = λ n p o c i k. h.seated.others n p o c (alike_heeds x y c a.reservation i) k;
              alone = λ c i. h.seated.alone c (alike_heeds x y c a.reservation i);
              known = λ id e. h.seated.known id (sym a.connection ∙ e);
              named = λ c b id i j e. h.seated.named c b id (alike_heeds x y c a.reservation i) j e;
            };
        opened = λ n p e. still n (h.opened n p (sym a.connection ∙ e));
      }
    where
      still : (n : ℕ) → IsOpening parent child x n d → IsOpening parent child y n d
      still n g = record { c = g.c; asked = a.reservation.request ∙ g.asked; attempt = a.reservation.attempt ∙ g.attempt; taken = g.taken; owes = g.owes; says = g.says }

  ---- It asks

  asks_attempt : (k : Kind) (c e : ℕ) (x : ChildConnection) → is_reservation k ≡ true → (asks k c x).attempt ≡ Some e → (x.attempt ≡ Some e) ⊎ (e ≡ c)
  unfolding asks is_reservation
  asks_attempt Kind.Reserve c e x r h = inr (same_some e c (sym h))
  asks_attempt Kind.ReserveCommit c e x r h = inl h
  asks_attempt Kind.ReserveAbort c e x r h = inl h
  asks_attempt _ c e x r h = absurd (cc)

  pub asks_heeds : (k : Kind) (c e : ℕ) (x : ChildConnection) → is_reservation k ≡ true → IsHeeded (asks k c x) e → IsHeeded x e ⊎ (e ≡ c)
  asks_heeds k c e x r (inl h) = elim (asks_attempt k c e x r h) [ inl a ↦ inl (inl a) | inr a ↦ inr a ]
  asks_heeds k c e x r (inr h) = inr (eqb-true e c (sym (ap (λ o. is_open o e) (asked_stands k c x r).0) ∙ h))

  pub owes_less : (c : ℕ) (r : Record) → ((k : ℕ) → owed c k r ≡ 0) → IsAlone c r
  unfolding owed
  owes_less c r e = record { provision = λ k. omega (arith, e k); life = λ k. omega (arith, e k) }

  module _ (fair : IsFair parent child d) (k : Kind) (c : ℕ) (x : ChildConnection) (place : Option ℕ) (r : is_reservation k ≡ true) (free : x.reserve_request ≡ None) (new : is_taken (header_of parent child c) d.seen ≡ false)
      (h : IsMate parent child x place d) where
    alone_new : IsAlone c (record_of place d.records)
    unfolding record_of
    alone_new = by_place place refl
      where
        by_place : (o : Option ℕ) → place ≡ o → IsAlone c (record_of place d.records)
        by_place None e = subst (λ o. IsAlone c (record_of o d.records)) (sym e) (owes_less c no_record (λ g. none_owed c g))
        by_place (Some n) e = subst (λ o. IsAlone c (record_of o d.records)) (sym e) (owes_less c (record_at n d.records) (λ g. fair.unowed c n g new (h.seated.seated n e).1))

    pub asking_mate : IsMate parent child (asks k c x) place d
    asking_mate =
        record {
          linked = asking_link k c x (side_of parent child place d) r free new (fair.silent c new) h.linked;
          seated =
              record {
                seated = h.seated.seated;
                others = λ n p o e i l. others n p o e l (asks_heeds k c e x r i);
                alone = λ e i. alone e (asks_heeds k c e x r i);
                known = λ id e. h.seated.known id (sym ((asks_known k c x).0) ∙ e);
                named = λ e b id i j q. named e b id j q (asks_heeds k c e x r i);
              };
          opened = λ n p e. absurd (not_opening n (h.opened n p (sym ((asks_known k c x).0) ∙ e)));
        }
      where
        not_opening : (n : ℕ) → IsOpening parent child x n d → ⊥
        not_opening n g = clash (sent g.c Kind.Reserve) (sym free ∙ g.asked)

        others : (n : ℕ) → (place ≡ Some n → ⊥) → (record_at n d.records).owner ≡ parent → (e l : ℕ) → IsHeeded x e ⊎ (e ≡ c) → owed e l (record_at n d.records) ≡ 0
        others n p o e l (inl i) = h.seated.others n p o e i l
        others n p o e l (inr q) = ap (λ z. owed z l (record_at n d.records)) q ∙ fair.unowed c n l new o

        alone : (e : ℕ) → IsHeeded x e ⊎ (e ≡ c) → IsAlone e (record_of place d.records)
        alone e (inl i) = h.seated.alone e i
        alone e (inr q) = subst (λ z. IsAlone z (record_of place d.records)) (sym q) alone_new

        named : (e : ℕ) (b : Body) (id : ℕ) → Contains (about (header_of parent child e) d.said) b → teaches b ≡ Some id → IsHeeded x e ⊎ (e ≡ c) → IsSeatOf place d.records id
        named e b id j q (inl i) = h.seated.named e b id i j q
        named e b id j q (inr w) = absurd (nothing_in b (subst (λ z. Contains z b) (ap (λ z. about (header_of parent child z) d.said) w ∙ fair.silent c new) j))

  ---- It hears what was said

  -- what a link with an unanswered request says of the view
  pub link_asked : (x : ChildConnection) (s : Side) (c : ℕ) (k : Kind) → Link x s → x.reserve_request ≡ Some (sent c k) → (x.phase ≡ phase_of k) × IsAttempt k c x
  link_asked x s c k (Link.calm h) r = absurd (let n = h.quiet.none in cc)
  link_asked x s c k (Link.asked d l r' p a y) r = let q = same_sent c d k l (sym r ∙ r') in (p ∙ ap phase_of (sym q.1), subst (λ z. IsAttempt z c x) (sym q.1) (subst (λ z. IsAttempt l z x) (sym q.0) a))
    where
      same_sent : (c d : ℕ) (k l : Kind) → Some (sent c k) ≡ Some (sent d l) → (c ≡ d) × (k ≡ l)
      same_sent c d k l e = let q : sent c k ≡ sent d l = cc in (ap (λ z. z.correlation) q, ap (λ z. z.kind) q)

  reserving_phase : (x : ChildConnection) → x.phase ≡ phase_of Kind.Reserve → x.phase ≡ Phase.Reserving
  unfolding phase_of
  reserving_phase x p = p

  module _ (b : Body) (e : ℕ) (x : ChildConnection) (place : Option ℕ) (said : Contains (about (header_of parent child e) d.said) b) (h : IsMate parent child x place d) where
    abbrev y : ChildConnection
    y = (hears b e x).view

    pub hears_heeds : (c : ℕ) → IsHeeded y c → IsHeeded x c
    hears_heeds c (inl a) = inl (attempt_asked b e x c a)
    hears_heeds c (inr o) = elim (request_stays b e x) [
      | inl q ↦ inr (sym (ap (λ z. is_open z c) q) ∙ o)
      | inr q ↦ absurd (not_open (sym (ap (λ z. is_open z c) q) ∙ o))
    ]
      where
        not_open : is_open None c ≡ true → ⊥
        not_open q = absurd (cc)

    none_id : (id : ℕ) → None ≡ Some id → ⊥
    none_id id q = cc

    known_now : (id : ℕ) → y.connection ≡ Some id → IsSeatOf place d.records id
    known_now id q = by_learnt (messages_teach b e x)
      where
        by_learnt : Learns b e x y → IsSeatOf place d.records id
        by_learnt (inl w) = h.seated.known id (sym w ∙ q)
        by_learnt (inr w) = let same : w.0 ≡ id = same_some w.0 id (sym w.2 ∙ q) in subst (λ z. IsSeatOf place d.records z) same (h.seated.named e b w.0 w.3 said w.1)

    opened_now : IsOpened parent child y place d
    opened_now n p q = by_learnt (messages_teach b e x)
      where
        by_name : (g : IsOpening parent child x n d) → x.connection ≡ None → e ≡ g.c → (o : Option ℕ) → teaches b ≡ o → ⊥
        by_name g z a None w = g.says b (subst (λ k. Contains (about (header_of parent child k) d.said) b) a said) w
        by_name g z a (Some id) w =
            let ph = (link_asked x (side_of parent child place d) g.c Kind.Reserve h.linked g.asked).0 in
            none_id id (sym q ∙ ap (λ k. (hears b k x).view.connection) a ∙ first_answer_teaches b g.c id x g.asked g.attempt (reserving_phase x ph) z w)

        by_correlation : (g : IsOpening parent child x n d) → x.connection ≡ None → (e ≡ g.c) ⊎ (e ≡ g.c → ⊥) → IsOpening parent child y n d
        by_correlation g z (inl a) = absurd (by_name g z a (teaches b) refl)
        by_correlation g z (inr a) =
            let w = link_asked x (side_of parent child place d) g.c Kind.Reserve h.linked g.asked in
            let s = other_same b e g.c Kind.Reserve x a g.asked w.0 w.1 in
            record { c = g.c; asked = s.request ∙ g.asked; attempt = s.attempt ∙ g.attempt; taken = g.taken; owes = g.owes; says = g.says }

        by_learnt : Learns b e x y → IsOpening parent child y n d
        by_learnt (inl w) = let g = h.opened n p (sym w ∙ q) in by_correlation g (sym w ∙ q) (cases_eq e g.c)
        by_learnt (inr w) = absurd (none_id w.0 (sym q ∙ w.2))

    pub told_mate : IsMate parent child (hears b e x).view place d
    told_mate =
        record {
          linked = hearing_link b e x (side_of parent child place d) said h.linked;
          seated =
              record {
                seated = h.seated.seated;
                others = λ n p o c i k. h.seated.others n p o c (hears_heeds c i) k;
                alone = λ c i. h.seated.alone c (hears_heeds c i);
                known = known_now;
                named = λ c b' id i j q. h.seated.named c b' id (hears_heeds c i) j q;
              };
          opened = opened_now;
        }

  pub hearing_mate : (b : Body) (e : ℕ) (x : ChildConnection) (place : Option ℕ) → MayReach (header_of parent child e) d.said b → IsMate parent child x place d → IsMate parent child (hears b e x).view place d
  hearing_mate b e x place (inl said) h = told_mate b e x place said h
  hearing_mate b e x place (inr rows) h = subst (λ (z : Heard). IsMate parent child z.view place d) (sym (rows_unheard b e x rows)) h
