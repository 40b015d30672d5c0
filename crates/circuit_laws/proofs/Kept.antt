-- What each record of an agent that is asked keeps, whatever entries the agent takes.
use Rattle.std.proofs.Common.{ℕ, zero, suc, ◌≡◌, ◌⊎◌, inl, inr, false, List, [], ◌∷◌, ◌++◌, length, slice_set, refl, sym, ap, subst}
use Rattle.std.proofs.lemmas.Bool.{cases_eq}
use Rattle.nsi_primitive.specs.declared.entry.Entry.{Entry}
use Rattle.nsi_primitive.specs.declared.entry.Input.{Input}
use Rattle.nsi_primitive.specs.declared.message.Header.{Header}
use Rattle.nsi_primitive.specs.declared.message.Message.{Message}
use Rattle.nsi_primitive.specs.declared.message.Service.{Service}
use Rattle.nsi_primitive.specs.declared.state.Side.{Side}
use Rattle.connection_record.specs.declared.moves.Reply.{Reply}
use Rattle.connection_record.specs.declared.record.Record.{Record}
use Rattle.connection_record.specs.Courses.{Course}
use Rattle.connection_record.specs.Moves.{fresh}
use Rattle.agent_state.specs.State.{AgentState, no_record, record_at, blank_agent}
use Rattle.nsi_agent.specs.Homes.{Home}
use Rattle.nsi_agent.specs.Steps.{after}
use Rattle.nsi_agent.specs.Told.{told, goes_on}
use Rattle.nsi_agent.specs.Said.{name_in}
use Rattle.nsi_world.specs.Runs.{is_requester}
use Rattle.circuit_link.specs.Serving.{child_of, Serves, taken_by}
use Rattle.circuit_link.specs.Children.{Child}
use Rattle.circuit_link.proofs.Opening.{last_here, last_there}
use Rattle.circuit_laws.proofs.Roles.{serves_as}

-- A fact of a record, and of the entries so far, that stays: as entries come; by what the record does by itself; by a request of its owner that comes
-- with the last entry. It is true of a new record, and of none.
pub record IsKept (P : List Entry → Record → Type 0) : Type 0 where
  pub more : (es fs : List Entry) (r : Record) → P es r → P (es ++ fs) r
  pub course : (es : List Entry) (r q : Record) (out : List Reply) → Course r q out → P es r → P es q
  pub taken : (es : List Entry) (e : Entry) (m : Message) (side : Side) (now : ℕ) (r : Record) → e.input ≡ Input.Got m → r.owner ≡ m.header.requester → P (es ++ e ∷ []) r → P (es ++ e ∷ []) (taken_by side now m r).rec
  pub fresh : (es : List Entry) (id : ℕ) (owner : List ℕ) (s : Service) (source dest : ℕ) → P es (fresh id owner s source dest)
  pub none : P [] no_record

put_all : (P : Record → Type 0) (rs : List Record) (n : ℕ) (q : Record) → ((i : ℕ) → P (record_at i rs)) → P q → (i : ℕ) → P (record_at i (slice_set rs n q))
put_all P [] n q all its i = all i
put_all P (r ∷ rs) zero q all its zero = its
put_all P (r ∷ rs) zero q all its (suc k) = all (suc k)
put_all P (r ∷ rs) (suc n) q all its zero = all zero
put_all P (r ∷ rs) (suc n) q all its (suc k) = put_all P rs n q (λ i. all (suc i)) its k

push_all : (P : Record → Type 0) (rs : List Record) (q : Record) → ((i : ℕ) → P (record_at i rs)) → P q → (i : ℕ) → P (record_at i (rs ++ q ∷ []))
push_all P rs q all its n = by (cases_eq n (length rs))
  where
    by : (n ≡ length rs) ⊎ (n ≡ length rs → ⊥) → P (record_at n (rs ++ q ∷ []))
    by (inl e) = subst (λ (i : ℕ). P (record_at i (rs ++ q ∷ []))) (sym e) (subst P (sym (last_here rs q no_record)) its)
    by (inr d) = subst P (sym (last_there rs q no_record n d)) (all n)

module _ (P : List Entry → Record → Type 0) (kept : IsKept P) where
  abbrev All : List Entry → List Record → Type 0
  All es rs = (n : ℕ) → P es (record_at n rs)

  served : (es : List Entry) (e : Entry) (name : List ℕ) (d : Child) (records : List Record) (seen : List Header) (out : List Message) → Serves name e.input d records seen out → All (es ++ e ∷ []) d.records → All (es ++ e ∷ []) records
  served es e name d records seen out (Serves.acts same courses) all = λ n. kept.course (es ++ e ∷ []) (record_at n d.records) (record_at n records) (courses.said n) (courses.each n) (all n)
  served es e name d records seen out (Serves.leaves m new kind same silent) all = subst (All (es ++ e ∷ [])) (sym same) all
  served es e name d records seen out (Serves.refuses m error now new refused same one) all = subst (All (es ++ e ∷ [])) (sym same) all
  served es e name d records seen out (Serves.takes m n side now new about turn) all =
      let r : Record = record_at n d.records in
      subst (All (es ++ e ∷ [])) (sym turn.records)
      (put_all (P (es ++ e ∷ [])) d.records n turn.after all
      (kept.course (es ++ e ∷ []) (taken_by side now m r).rec turn.after turn.said turn.course (kept.taken es e m side now r new.got about.owner (all n))))
  served es e name d records seen out (Serves.opens m id service source dest side now new first turn) all =
      let f : Record = fresh id m.header.requester service source dest in
      let rs : List Record = d.records ++ f ∷ [] in
      let r : Record = record_at (length d.records) rs in
      let rows : All (es ++ e ∷ []) rs = push_all (P (es ++ e ∷ [])) d.records f all (kept.fresh (es ++ e ∷ []) id m.header.requester service source dest) in
      subst (All (es ++ e ∷ [])) (sym turn.records)
      (put_all (P (es ++ e ∷ [])) rs (length d.records) turn.after rows
      (kept.course (es ++ e ∷ []) (taken_by side now m r).rec turn.after turn.said turn.course
      (kept.taken es e m side now r new.got (ap (λ (z : Record). z.owner) (last_here d.records f no_record)) (rows (length d.records)))))

  kept_from : (h : Home) → is_requester h.role ≡ false → (before es : List Entry) (s : AgentState) → All before s.base.records → All (before ++ es) (goes_on h s es).state.base.records
  unfolding goes_on
  kept_from h asked before [] s all = λ n. kept.more before [] (record_at n s.base.records) (all n)
  kept_from h asked before (e ∷ es) s all =
      subst (λ (fs : List Entry). All fs (goes_on h (after h s e).state es).state.base.records) (in_front before e es)
      (kept_from h asked (before ++ e ∷ []) es (after h s e).state
      (served before e (name_in h.role) (child_of s.base []) (after h s e).state.base.records (after h s e).state.base.seen (after h s e).out (serves_as h.role asked s e []) (λ n. kept.more before (e ∷ []) (record_at n s.base.records) (all n))))
    where
      in_front : (xs : List Entry) (y : Entry) (ys : List Entry) → (xs ++ y ∷ []) ++ ys ≡ xs ++ y ∷ ys
      in_front [] y ys = refl
      in_front (x ∷ xs) y ys = ap (λ zs. x ∷ zs) (in_front xs y ys)

  -- so each record of an agent that is asked has it
  pub told_kept : (h : Home) → is_requester h.role ≡ false → (es : List Entry) (n : ℕ) → P es (record_at n (told h es).state.base.records)
  told_kept h asked es = kept_from h asked [] es blank_agent (λ n. kept.none)
