-- What joins the committed criteria of a child's record was asked for under the attempt of the view that has it.
use Rattle.std.proofs.Common.{ℕ, ◌≡◌, ◌∙◌, ◌<◌, ◌⊎◌, inl, inr, true, List, [], ◌∷◌, ◌++◌, length, Contains, Option, Some, None, get_or-set_same, get_or-set_other, sym, ap, subst, arith}
use Rattle.std.proofs.lemmas.Bool.{cases_eq}
use Rattle.nsi_primitive.specs.Messages.{is_request}
use Rattle.nsi_primitive.specs.declared.entry.Input.{Input}
use Rattle.nsi_primitive.specs.declared.message.Body.{Body}
use Rattle.nsi_primitive.specs.declared.message.Criteria.{Criteria}
use Rattle.nsi_primitive.specs.declared.message.Header.{Header}
use Rattle.nsi_primitive.specs.declared.message.Message.{Message}
use Rattle.nsi_primitive.specs.declared.message.ReserveRequest.{ReserveRequest}
use Rattle.nsi_primitive.specs.declared.state.Rsm.{Rsm}
use Rattle.nsi_primitive.specs.declared.state.Side.{Side}
use Rattle.connection_record.specs.declared.record.Record.{Record}
use Rattle.connection_record.specs.Moves.{fresh}
use Rattle.child_connection.specs.Views.{ChildConnection}
use Rattle.agent_state.specs.State.{no_record, record_at}
use Rattle.circuit_link.specs.Children.{Child, IsFair}
use Rattle.circuit_link.specs.Serving.{Serves, taken_by}
use Rattle.circuit_link.proofs.Opening.{last_there}
use Rattle.circuit_pairs.specs.Pairs.{IsPair}
use Rattle.circuit_laws.proofs.Criteria.{AsksWhenTaken}
use Rattle.circuit_laws.proofs.Attempts.{KeepsAttempt, course_keeps, TakesAttempt, request_takes}
use Rattle.circuit_laws.proofs.Tried.{is_busy, IsTriedBy, AllTried, its_place, taken_busy}

-- these criteria were asked for, by a reserve that is that attempt
pub record IsAskedAt (asked : List Message) (attempt : Option ℕ) (k : Criteria) : Type 0 where
  pub message : Message
  pub there : Contains asked message
  pub its : attempt ≡ Some message.header.correlation
  pub reserve : ReserveRequest
  pub body : message.body ≡ Body.Reserve reserve
  pub asks : AsksWhenTaken reserve k

-- what each record of the parent has as pending was asked for so
abbrev pub AllAskedAt : List ℕ → List Message → List Record → Type 0
AllAskedAt parent asked rs = (n : ℕ) (k : Criteria) → (record_at n rs).owner ≡ parent → (record_at n rs).pending ≡ Some k → IsAskedAt asked (record_at n rs).attempt k

module _ (I : Type 0) (parent child : List ℕ) (xs : I → ChildConnection) (asked : List Message) (d : Child) (pair : IsPair I parent child xs asked d) (fair : IsFair parent child d) (tried : AllTried I parent xs d.records)
    (pends : AllAskedAt parent asked d.records) where
  -- what joins is asked for under the attempt of the view at that place
  pub record Joins (n : ℕ) (k : Criteria) : Type 0 where
    pub view : I
    pub placed : pair.place view ≡ Some n
    pub came : IsAskedAt asked (xs view).attempt k

  abbrev pub JoinsOrStays : ℕ → Record → Type 0
  JoinsOrStays n q = (q.committed ≡ (record_at n d.records).committed) ⊎ ((k : Criteria) × (q.committed ≡ (record_at n d.records).committed ++ k ∷ []) × Joins n k)

  joins_at : (n : ℕ) (k : Criteria) → (record_at n d.records).owner ≡ parent → is_busy (record_at n d.records).rsm ≡ true → IsAskedAt asked (record_at n d.records).attempt k → Joins n k
  joins_at n k owned busy a =
      let t : IsTriedBy I xs (record_at n d.records) = tried n owned busy in
      record {
        view = t.view;
        placed = its_place I parent child xs asked d pair fair n owned busy t;
        came = record { message = a.message; there = a.there; its = t.views ∙ (sym t.its ∙ a.its); reserve = a.reserve; body = a.body; asks = a.asks };
      }

  module _ (input : Input) (records : List Record) (seen : List Header) (out : List Message) (were : (m : Message) → input ≡ Input.Got m → is_request m.body ≡ true → m.header.requester ≡ parent → Contains asked m) where
    taken_joins : (m : Message) (side : Side) (now n : ℕ) → input ≡ Input.Got m → is_request m.body ≡ true → m.header.requester ≡ parent → (record_at n d.records).owner ≡ parent → (after : Record) → KeepsAttempt (taken_by side now m (record_at n d.records)).rec after →
        JoinsOrStays n after
    taken_joins m side now n got asks from owned after keeps = by keeps.committed
      where
        r : Record
        r = record_at n d.records

        q : Record
        q = (taken_by side now m r).rec

        taken : TakesAttempt r m.body m.header.correlation q
        taken = request_takes m.body side m.header.correlation now r

        joins : (k : Criteria) → q.rsm ≡ Rsm.ReserveCommitting → q.pending ≡ Some k →
            ((is_busy r.rsm ≡ true) × (q.attempt ≡ r.attempt) × (q.rsm ≡ Rsm.ReserveCommitting → (r.rsm ≡ Rsm.ReserveCommitting) ⊎ ((id : ℕ) × (m.body ≡ Body.ReserveCommit id)))) ⊎
            ((a : ReserveRequest) × (m.body ≡ Body.Reserve a) × (q.attempt ≡ Some m.header.correlation) × (q.rsm ≡ Rsm.ReserveCommitting → ⊥)) → Joins n k
        joins k state held (inr (a, is, at, never)) = absurd (never state)
        joins k state held (inl (busy, same, commits)) = by_pending (taken.pending k held)
          where
            by_pending : ((q.attempt ≡ r.attempt) × (r.pending ≡ Some k)) ⊎ ((a : ReserveRequest) × (m.body ≡ Body.Reserve a) × AsksWhenTaken a k × (q.attempt ≡ Some m.header.correlation)) → Joins n k
            by_pending (inl (at, p)) = joins_at n k owned busy (pends n k owned p)
            by_pending (inr (a, is, wants, at)) = joins_at n k owned busy (record { message = m; there = were m got asks from; its = sym same ∙ at; reserve = a; body = is; asks = wants })

        by : (after.committed ≡ q.committed) ⊎ ((k : Criteria) × (q.rsm ≡ Rsm.ReserveCommitting) × (q.pending ≡ Some k) × (after.committed ≡ q.committed ++ k ∷ []) × (after.pending ≡ None)) → JoinsOrStays n after
        by (inl e) = inl (e ∙ taken.committed)
        by (inr (k, state, held, e, gone)) =
            inr (k, e ∙ ap (λ (ks : List Criteria). ks ++ k ∷ []) taken.committed, joins k state held (taken_busy m.body side m.header.correlation now r (ap is_busy state)))

    pub served_joins : Serves child input d records seen out → (n : ℕ) → n < length d.records → (record_at n d.records).owner ≡ parent → JoinsOrStays n (record_at n records)
    served_joins (Serves.acts same courses) n l owned = by (course_keeps (record_at n d.records) (record_at n records) (courses.said n) (courses.each n)).committed
      where
        r : Record
        r = record_at n d.records

        q : Record
        q = record_at n records

        by : (q.committed ≡ r.committed) ⊎ ((k : Criteria) × (r.rsm ≡ Rsm.ReserveCommitting) × (r.pending ≡ Some k) × (q.committed ≡ r.committed ++ k ∷ []) × (q.pending ≡ None)) → JoinsOrStays n q
        by (inl e) = inl e
        by (inr (k, state, held, e, gone)) = inr (k, e, joins_at n k owned (ap is_busy state) (pends n k owned held))
    served_joins (Serves.leaves m new kind same silent) n l owned = inl (ap (λ (rs : List Record). (record_at n rs).committed) same)
    served_joins (Serves.refuses m error now new refused same only) n l owned = inl (ap (λ (rs : List Record). (record_at n rs).committed) same)
    served_joins (Serves.takes m p side now new about turn) n l owned = by (cases_eq n p)
      where
        at_place : record_at p records ≡ turn.after
        at_place = ap (record_at p) turn.records ∙ get_or-set_same d.records p turn.after no_record about.within

        by : (n ≡ p) ⊎ (n ≡ p → ⊥) → JoinsOrStays n (record_at n records)
        by (inl e) =
            let its : (record_at p d.records).owner ≡ parent = sym (ap (λ (i : ℕ). (record_at i d.records).owner) e) ∙ owned in
            subst (λ (i : ℕ). JoinsOrStays i (record_at i records)) (sym e)
            (subst (JoinsOrStays p) (sym at_place)
            (taken_joins m side now p new.got new.request (sym about.owner ∙ its) its turn.after (course_keeps (taken_by side now m (record_at p d.records)).rec turn.after turn.said turn.course)))
        by (inr f) = inl (ap (λ (r : Record). r.committed) (ap (record_at n) turn.records ∙ get_or-set_other d.records p n turn.after no_record f))
    served_joins (Serves.opens m id service source dest side now new first turn) n l owned =
        let f : Record = fresh id m.header.requester service source dest in
        let other : n ≡ length d.records → ⊥ = λ e. omega (arith, l, e) in
        inl (ap (λ (r : Record). r.committed)
        (ap (record_at n) turn.records ∙ (get_or-set_other (d.records ++ f ∷ []) (length d.records) n turn.after no_record other ∙ last_there d.records f no_record n other)))
