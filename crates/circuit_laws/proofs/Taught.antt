-- An answer that teaches an id is of the record that its request was about, or of the one that it opened.
use Rattle.std.proofs.Common.{ℕ, zero, suc, ◌≡◌, ◌<◌, ◌≤◌, ◌+◌, ◌∙◌, ◌⊎◌, ◌==◌, inl, inr, Bool, true, false, List, [], ◌∷◌, ◌++◌, length, length-append, Contains, Some, None, get_or-set_same, get_or-set_other, eqb-true, refl, sym, ap, subst, arith}
use Rattle.std.proofs.lemmas.Bool.{cases_eq}
use Rattle.std.proofs.lemmas.List.{length-set}
use Rattle.std.proofs.lemmas.List.Elements.{Contains-append_left, Contains-append_right}
use Rattle.std.proofs.lemmas.Option.{get_or_from_slice_get, slice_get-get_or, slice_get_within}
use Rattle.nsi_primitive.specs.Messages.{connection_of, is_request}
use Rattle.nsi_primitive.specs.declared.entry.Entry.{Entry}
use Rattle.nsi_primitive.specs.declared.entry.Input.{Input}
use Rattle.nsi_primitive.specs.declared.kind.ErrorName.{ErrorName}
use Rattle.nsi_primitive.specs.declared.message.Body.{Body}
use Rattle.nsi_primitive.specs.declared.message.Header.{Header}
use Rattle.nsi_primitive.specs.declared.message.Message.{Message}
use Rattle.nsi_primitive.specs.declared.message.ReserveRequest.{ReserveRequest}
use Rattle.nsi_primitive.specs.declared.state.Side.{Side}
use Rattle.record_index.proofs.Members.{nothing_in}
use Rattle.connection_record.specs.declared.moves.Reply.{Reply}
use Rattle.connection_record.specs.declared.record.Record.{Record}
use Rattle.connection_record.specs.Applied.{requested}
use Rattle.connection_record.specs.Courses.{answering, Course, IsAfter}
use Rattle.connection_record.specs.Later.{IsLater}
use Rattle.connection_record.specs.Moves.{fresh}
use Rattle.connection_record.specs.Replies.{Moved, addressed}
use Rattle.connection_record.specs.Speaking.{tally, number_of, answers_as, misnames, owed, owed_reserve, owed_provision, owed_life, one, Speaks}
use Rattle.connection_record.proofs.Courses.{course_after}
use Rattle.connection_record.proofs.Growing.{later_trans, moves_if_later}
use Rattle.connection_record.proofs.Naming.{moves_if_names}
use Rattle.connection_record.proofs.Saying.{takes_speaks}
use Rattle.child_connection.specs.Holding.{teaches}
use Rattle.agent_state.specs.Entries.{error_reply}
use Rattle.agent_state.specs.State.{AgentState, no_record, record_at}
use Rattle.run_growth.specs.Growth.{Stay}
use Rattle.run_growth.proofs.Roles.{entries_grow}
use Rattle.nsi_agent.specs.Homes.{Home}
use Rattle.nsi_agent.specs.Steps.{after}
use Rattle.nsi_agent.specs.Told.{Told, told}
use Rattle.nsi_agent.specs.Said.{name_in}
use Rattle.nsi_world.specs.Runs.{is_requester}
use Rattle.circuit_link.specs.Children.{Child, about}
use Rattle.circuit_link.specs.Headers.{header_of}
use Rattle.circuit_link.specs.Serving.{TakeCourses, IsTurn, Serves, taken_by}
use Rattle.circuit_link.proofs.Abouts.{about_cases, addressed_in, IsSaidUnder, said_under}
use Rattle.circuit_link.proofs.Answering.{only_one, not_there, IsReplied, replied_of, tally_there, counted_as}
use Rattle.circuit_link.proofs.Mild.{replied_named}
use Rattle.circuit_link.proofs.Opening.{last_here, last_there, fresh_owed}
use Rattle.circuit_laws.proofs.Induct.{told_then, told_by}
use Rattle.circuit_laws.proofs.Opened.{IsOpenedBy, Opening, entry_opens}
use Rattle.circuit_laws.proofs.Roles.{serves_as}

---- A request and a record

-- what a request was to a record: it opened it, or named it
pub data IsOf (m : Message) (r : Record) : Type 0 where
  opened : (q : ReserveRequest) → IsOpenedBy m q r → IsOf m r
  named : connection_of m.body ≡ Some r.id → IsOf m r

-- one of the entries takes a request of the record's owner under that correlation, which was that to the record
pub record CameOf (es : List Entry) (c : ℕ) (r : Record) : Type 0 where
  pub entry : Entry
  pub there : Contains es entry
  pub message : Message
  pub got : entry.input ≡ Input.Got message
  pub request : is_request message.body ≡ true
  pub from : message.header.requester ≡ r.owner
  pub under : message.header.correlation ≡ c
  pub of : IsOf message r

-- each answer that a record owes is under such a request
abbrev pub Owes : List Entry → Record → Type 0
Owes es r = (c n : ℕ) → 1 ≤ owed c n r → CameOf es c r

of_later : (m : Message) (r q : Record) → IsLater r q → IsOf m r → IsOf m q
of_later m r q later (IsOf.opened p by) = IsOf.opened p (record { body = by.body; unnamed = by.unnamed; owner = later.owner ∙ by.owner; service = later.service ∙ by.service })
of_later m r q later (IsOf.named e) = IsOf.named (e ∙ ap (λ (n : ℕ). Some n) (sym later.id))

came_later : (es fs : List Entry) (c : ℕ) (r q : Record) → IsLater r q → CameOf es c r → CameOf (es ++ fs) c q
came_later es fs c r q later w =
    record {
      entry = w.entry;
      there = Contains-append_left es fs w.entry w.there;
      message = w.message;
      got = w.got;
      request = w.request;
      from = w.from ∙ sym later.owner;
      under = w.under;
      of = of_later w.message r q later w.of;
    }

came_then : (es : List Entry) (c : ℕ) (r q : Record) → IsLater r q → CameOf es c r → CameOf es c q
came_then es c r q later w =
    record { entry = w.entry; there = w.there; message = w.message; got = w.got; request = w.request; from = w.from ∙ sym later.owner; under = w.under; of = of_later w.message r q later w.of }

came_more : (es fs : List Entry) (c : ℕ) (r : Record) → CameOf es c r → CameOf (es ++ fs) c r
came_more es fs c r w =
    record { entry = w.entry; there = Contains-append_left es fs w.entry w.there; message = w.message; got = w.got; request = w.request; from = w.from; under = w.under; of = w.of }

-- what is said under a correlation is counted there
said_counts : (c : ℕ) (b : Body) (out : List Reply) → Contains (answering c out) b → (n : ℕ) × (1 ≤ tally (answers_as c n) out)
said_counts c b out i =
    let r : IsReplied c b out = replied_of c b out i in
    (number_of r.reply.body, tally_there (answers_as c (number_of r.reply.body)) r.reply out r.there (counted_as c r.reply r.answers))

module _ (es : List Entry) where
  -- what a record does by itself
  course_owes : (r q : Record) (out : List Reply) → Course r q out → Owes es r → Owes es q
  course_owes r q out course owes c n l = let a : IsAfter r q out = course_after r q out course in came_then es c r q a.later (owes c n (omega (arith, l, a.owes c n)))

  course_says : (r q : Record) (out : List Reply) → Course r q out → Owes es r → (c : ℕ) (b : Body) → Contains (answering c out) b → CameOf es c r
  course_says r q out course owes c b i =
      let w = said_counts c b out i in
      owes c w.0 (omega (arith, w.1, (course_after r q out course).owes c w.0))

  -- a request that it takes
  module _ (m : Message) (side : Side) (now : ℕ) (r : Record) (owes : Owes es r) (here : CameOf es m.header.correlation r) where
    abbrev y : Moved
    y = taken_by side now m r

    speaks : Speaks (Some m.header.correlation) (λ c. 0) r y
    speaks = takes_speaks side m.body m.header.correlation now r

    by_begun : (c n : ℕ) (t : Bool) → (c == m.header.correlation) ≡ t → 1 ≤ owed c n r + one t → CameOf es c r
    by_begun c n true e l = subst (λ (d : ℕ). CameOf es d r) (sym (eqb-true c m.header.correlation e)) here
    by_begun c n false e l = owes c n (omega (arith, l))

    taken_owes : Owes es y.rec
    taken_owes c n l = came_then es c r y.rec (moves_if_later side (requested now m.body m.header.correlation r) now r) (by_begun c n (c == m.header.correlation) refl (omega (arith, l, speaks.answers c n)))

    taken_says : (c : ℕ) (b : Body) → Contains (answering c y.out) b → CameOf es c r
    taken_says c b i = let w = said_counts c b y.out i in by_begun c w.0 (c == m.header.correlation) refl (omega (arith, w.1, speaks.answers c w.0))

---- All that an agent has said

-- the connection was taught under the correlation of a request of the record that has that id
pub record IsTaughtBy (es : List Entry) (rs : List Record) (owner : List ℕ) (c id : ℕ) : Type 0 where
  pub place : ℕ
  pub within : place < length rs
  pub owned : (record_at place rs).owner ≡ owner
  pub its_id : (record_at place rs).id ≡ id
  pub came : CameOf es c (record_at place rs)

pub record Teaches (name : List ℕ) (es : List Entry) (rs : List Record) (out : List Message) : Type 0 where
  pub owes : (n : ℕ) → Owes es (record_at n rs)
  pub said : (owner : List ℕ) (c id : ℕ) (b : Body) → Contains (about (header_of owner name c) out) b → teaches b ≡ Some id → IsTaughtBy es rs owner c id

-- only a record that is there owes anything
owing_within : (rs : List Record) (n c k : ℕ) → 1 ≤ owed c k (record_at n rs) → n < length rs
unfolding owed owed_reserve owed_provision owed_life
owing_within [] n c k l = absurd (omega (arith, l))
owing_within (r ∷ rs) zero c k l = omega arith
owing_within (r ∷ rs) (suc n) c k l = omega (arith, owing_within rs n c k l)

taught_later : (es fs : List Entry) (old new : List Record) (owner : List ℕ) (c id : ℕ) → Stay IsLater old new → IsTaughtBy es old owner c id → IsTaughtBy (es ++ fs) new owner c id
taught_later es fs old new owner c id stay t =
    let r : Record = record_at t.place old in
    let (q, there, later) = stay t.place r (slice_get-get_or old t.place no_record t.within) in
    let same : record_at t.place new ≡ q = get_or_from_slice_get new t.place q no_record there in
    record {
      place = t.place;
      within = slice_get_within new t.place q there;
      owned = ap (λ (z : Record). z.owner) same ∙ (later.owner ∙ t.owned);
      its_id = ap (λ (z : Record). z.id) same ∙ (later.id ∙ t.its_id);
      came = subst (λ (z : Record). CameOf (es ++ fs) c z) (sym same) (came_later es fs c r q later t.came);
    }

-- what may be said of a record
taught_at : (es : List Entry) (new : List Record) (n : ℕ) (r q : Record) (owner : List ℕ) (c id : ℕ) (b : Body) (out : List Reply) → n < length new → record_at n new ≡ q → IsLater r q → r.owner ≡ owner → tally (misnames r.id) out ≡ 0 →
    Contains (answering c out) b → teaches b ≡ Some id → CameOf es c r → IsTaughtBy es new owner c id
taught_at es new n r q owner c id b out within same later owned names i e came =
    record {
      place = n;
      within = within;
      owned = ap (λ (z : Record). z.owner) same ∙ (later.owner ∙ owned);
      its_id = ap (λ (z : Record). z.id) same ∙ (later.id ∙ sym (replied_named r.id id c b out names (replied_of c b out i) e));
      came = subst (λ (z : Record). CameOf es c z) (sym same) (came_then es c r q later came);
    }

---- One entry

-- a record takes a request
module _ (name : List ℕ) (es : List Entry) (e : Entry) (m : Message) (side : Side) (now n : ℕ) (rows new : List Record) (out : List Message) (got : e.input ≡ Input.Got m) (asks : is_request m.body ≡ true) (within : n < length rows)
    (owned : m.header.requester ≡ (record_at n rows).owner) (of : IsOf m (record_at n rows)) (all : (k : ℕ) → Owes (es ++ e ∷ []) (record_at k rows)) (turn : IsTurn side name now m n rows new out) where
  abbrev fs : List Entry
  fs = es ++ e ∷ []

  abbrev r : Record
  r = record_at n rows

  abbrev z : Moved
  z = taken_by side now m (record_at n rows)

  here : CameOf fs m.header.correlation r
  here = record { entry = e; there = Contains-append_right es (e ∷ []) e (0, omega arith, refl); message = m; got = got; request = asks; from = owned; under = refl; of = of }

  after_owes : Owes fs turn.after
  after_owes = course_owes fs z.rec turn.after turn.said turn.course (taken_owes fs m side now r (all n) here)

  at_place : record_at n new ≡ turn.after
  at_place = ap (record_at n) turn.records ∙ get_or-set_same rows n turn.after no_record within

  there_within : n < length new
  there_within = omega (arith, within, ap length turn.records, length-set rows n turn.after)

  turn_owes : (k : ℕ) → Owes fs (record_at k new)
  turn_owes k = by_place (cases_eq k n)
    where
      by_place : (k ≡ n) ⊎ (k ≡ n → ⊥) → Owes fs (record_at k new)
      by_place (inl q) = subst (λ (i : ℕ). Owes fs (record_at i new)) (sym q) (subst (Owes fs) (sym at_place) after_owes)
      by_place (inr q) = subst (Owes fs) (sym (ap (record_at k) turn.records ∙ get_or-set_other rows n k turn.after no_record q)) (all k)

  taken_later : IsLater r z.rec
  taken_later = moves_if_later side (requested now m.body m.header.correlation r) now r

  course_later : IsLater z.rec turn.after
  course_later = (course_after z.rec turn.after turn.said turn.course).later

  all_later : IsLater r turn.after
  all_later = later_trans r z.rec turn.after taken_later course_later

  turn_says : (owner : List ℕ) (c id : ℕ) (b : Body) → Contains (about (header_of owner name c) out) b → teaches b ≡ Some id → IsTaughtBy fs new owner c id
  turn_says owner c id b i k = by_part (about_cases (header_of owner name c) (addressed name z.rec.owner z.out) turn.more b (subst (λ (ms : List Message). Contains (about (header_of owner name c) ms) b) turn.spoken i))
    where
      by_part : Contains (about (header_of owner name c) (addressed name z.rec.owner z.out)) b ⊎ Contains (about (header_of owner name c) turn.more) b → IsTaughtBy fs new owner c id
      by_part (inl j) =
          let w = addressed_in name z.rec.owner owner c z.out b j in
          taught_at fs new n r turn.after owner c id b z.out there_within at_place all_later (sym taken_later.owner ∙ w.0) (moves_if_names side (requested now m.body m.header.correlation r) now r).names w.1 k (taken_says fs m side now r (all n) here c b w.1)
      by_part (inr j) =
          let w = turn.tells.only owner c b j in
          taught_at fs new n z.rec turn.after owner c id b turn.said there_within at_place course_later (sym course_later.owner ∙ w.0) (course_after z.rec turn.after turn.said turn.course).names w.1 k
          (course_says fs z.rec turn.after turn.said turn.course (taken_owes fs m side now r (all n) here) c b w.1)

module _ (name : List ℕ) (es : List Entry) (e : Entry) (old new : List Record) (seen seen' : List Header) (before more : List Message) (opening : Opening e.input old new) (all : (n : ℕ) → Owes es (record_at n old)) where
  abbrev gs : List Entry
  gs = es ++ e ∷ []

  abbrev d : Child
  d = record { records = old; seen = seen; said = before }

  all_more : (n : ℕ) → Owes gs (record_at n old)
  all_more n c k l = came_more es (e ∷ []) c (record_at n old) (all n c k l)

  abbrev Says : Type 0
  Says = (owner : List ℕ) (c id : ℕ) (b : Body) → Contains (about (header_of owner name c) more) b → teaches b ≡ Some id → IsTaughtBy gs new owner c id

  courses_say : TakeCourses name old new more → Says
  courses_say courses owner c id b i k =
      let (n, owned, j) = courses.only owner c b i in
      let r : Record = record_at n old in
      let a : IsAfter r (record_at n new) (courses.said n) = course_after r (record_at n new) (courses.said n) (courses.each n) in
      let w = said_counts c b (courses.said n) j in
      taught_at gs new n r (record_at n new) owner c id b (courses.said n) (omega (arith, courses.long, owing_within old n c w.0 (omega (arith, w.1, a.owes c w.0)))) refl a.later owned a.names j k
      (course_says gs r (record_at n new) (courses.said n) (courses.each n) (all_more n) c b j)

  error_says : (m : Message) (error : ErrorName) → more ≡ error_reply name m error ∷ [] → Says
  unfolding teaches
  error_says m error out owner c id b i k =
      let s : IsSaidUnder (header_of owner name c) b more = said_under (header_of owner name c) b more i in
      let one_said : s.message ≡ error_reply name m error = only_one (error_reply name m error) s.message (subst (λ (ms : List Message). Contains ms s.message) out s.there) in
      absurd (let q : None ≡ Some id = ap (λ (z : Message). teaches z.body) (sym one_said) ∙ (ap teaches s.body ∙ k) in cc)

  rows_owe : (f : Record) → ((c k : ℕ) → owed c k f ≡ 0) → (n : ℕ) → Owes gs (record_at n (old ++ f ∷ []))
  rows_owe f none n = by_place (cases_eq n (length old))
    where
      by_place : (n ≡ length old) ⊎ (n ≡ length old → ⊥) → Owes gs (record_at n (old ++ f ∷ []))
      by_place (inl q) = λ c k l.
          let nothing : owed c k (record_at n (old ++ f ∷ [])) ≡ 0 = ap (λ (i : ℕ). owed c k (record_at i (old ++ f ∷ []))) q ∙ (ap (owed c k) (last_here old f no_record) ∙ none c k) in
          absurd (omega (arith, l, nothing))
      by_place (inr q) = subst (Owes gs) (sym (last_there old f no_record n q)) (all_more n)

  -- the record that is opened is of the reserve's service
  first_of : (m : Message) (f q : Record) → e.input ≡ Input.Got m → f.owner ≡ m.header.requester → IsLater f q → record_at (length old) new ≡ q → length new ≡ suc (length old) → IsOf m f
  first_of m f q got owned later here long = by opening
    where
      by : Opening e.input old new → IsOf m f
      by (Opening.none same) = absurd (omega (arith, same, long))
      by (Opening.begun n p its _ is) =
          let one_got : n ≡ m = same_message n m (sym its ∙ got) in
          IsOf.opened p
          (record {
            body = ap (λ (z : Message). z.body) (sym one_got) ∙ is.body;
            unnamed = is.unnamed;
            owner = owned;
            service = sym later.service ∙ (ap (λ (z : Record). z.service) (sym here) ∙ is.service);
          })
        where
          same_message : (a b : Message) → Input.Got a ≡ Input.Got b → a ≡ b
          same_message a b k = cc

  entry_teaches : Serves name e.input d new seen' more → ((n : ℕ) → Owes gs (record_at n new)) × Says
  entry_teaches (Serves.acts same courses) = (λ n. course_owes gs (record_at n old) (record_at n new) (courses.said n) (courses.each n) (all_more n), courses_say courses)
  entry_teaches (Serves.leaves m is_new kind same silent) =
      (λ n. subst (λ (rs : List Record). Owes gs (record_at n rs)) (sym same) (all_more n), λ owner c id b i k. absurd (not_there (about (header_of owner name c) more) b (silent (header_of owner name c)) i))
  entry_teaches (Serves.refuses m error now is_new refused same out) = (λ n. subst (λ (rs : List Record). Owes gs (record_at n rs)) (sym same) (all_more n), error_says m error out)
  entry_teaches (Serves.takes m n side now is_new about turn) =
      let of : IsOf m (record_at n old) = IsOf.named (about.names ∙ ap (λ (i : ℕ). Some i) (sym about.its_id)) in (
        turn_owes name es e m side now n old new more is_new.got is_new.request about.within (sym about.owner) of all_more turn,
        turn_says name es e m side now n old new more is_new.got is_new.request about.within (sym about.owner) of all_more turn,
      )
  entry_teaches (Serves.opens m id service source dest side now is_new first turn) = (
    turn_owes name es e m side now (length old) rows new more is_new.got is_new.request within owned of (rows_owe f (λ c k. fresh_owed c k id m.header.requester service source dest)) turn,
    turn_says name es e m side now (length old) rows new more is_new.got is_new.request within owned of (rows_owe f (λ c k. fresh_owed c k id m.header.requester service source dest)) turn,
  )
    where
      f : Record
      f = fresh id m.header.requester service source dest

      rows : List Record
      rows = old ++ f ∷ []

      within : length old < length rows
      within = omega (arith, length-append old (f ∷ []))

      r : Record
      r = record_at (length old) rows

      is_fresh : r ≡ f
      is_fresh = last_here old f no_record

      owned : m.header.requester ≡ r.owner
      owned = sym (ap (λ (z : Record). z.owner) is_fresh)

      y : Record
      y = (taken_by side now m r).rec

      later : IsLater r turn.after
      later = later_trans r y turn.after (moves_if_later side (requested now m.body m.header.correlation r) now r) (course_after y turn.after turn.said turn.course).later

      of : IsOf m r
      of =
          first_of m r turn.after is_new.got (sym owned) later (ap (record_at (length old)) turn.records ∙ get_or-set_same rows (length old) turn.after no_record within)
          (omega (arith, ap length turn.records, length-set rows (length old) turn.after, length-append old (f ∷ [])))

---- Entries

-- whatever entries an agent that is asked has taken
pub told_taught : (h : Home) → is_requester h.role ≡ false → (es : List Entry) → Teaches (name_in h.role) es (told h es).state.base.records (told h es).out
told_taught h asked es =
    told_by h (λ fs x. Teaches (name_in h.role) fs x.state.base.records x.out) more
    (record { owes = λ n c k l. absurd (let w : n < 0 = owing_within [] n c k l in omega (arith, w)); said = λ owner c id b i k. absurd (nothing_about owner c b i) }) es
  where
    nothing_about : (owner : List ℕ) (c : ℕ) (b : Body) → Contains (about (header_of owner (name_in h.role) c) []) b → ⊥
    nothing_about owner c b i = let s : IsSaidUnder (header_of owner (name_in h.role) c) b [] = said_under (header_of owner (name_in h.role) c) b [] i in nothing_in s.message s.there

    more : (fs : List Entry) (e : Entry) → Teaches (name_in h.role) fs (told h fs).state.base.records (told h fs).out →
        (let x : Told = told_then h (told h fs) e in Teaches (name_in h.role) (fs ++ e ∷ []) x.state.base.records x.out)
    more fs e t = record { owes = w.0; said = λ owner c id b i k. by owner c id b k (about_cases (header_of owner (name_in h.role) c) (told h fs).out (after h s e).out b i) }
      where
        s : AgentState
        s = (told h fs).state

        w : ((n : ℕ) → Owes (fs ++ e ∷ []) (record_at n (after h s e).state.base.records)) ×
            ((owner : List ℕ) (c id : ℕ) (b : Body) → Contains (about (header_of owner (name_in h.role) c) (after h s e).out) b → teaches b ≡ Some id → IsTaughtBy (fs ++ e ∷ []) (after h s e).state.base.records owner c id)
        w =
            entry_teaches (name_in h.role) fs e s.base.records (after h s e).state.base.records s.base.seen (after h s e).state.base.seen (told h fs).out (after h s e).out (entry_opens h asked s e) t.owes
            (serves_as h.role asked s e (told h fs).out)

        by : (owner : List ℕ) (c id : ℕ) (b : Body) → teaches b ≡ Some id → Contains (about (header_of owner (name_in h.role) c) (told h fs).out) b ⊎ Contains (about (header_of owner (name_in h.role) c) (after h s e).out) b →
            IsTaughtBy (fs ++ e ∷ []) (after h s e).state.base.records owner c id
        by owner c id b k (inl i) = taught_later fs (e ∷ []) s.base.records (after h s e).state.base.records owner c id (entries_grow h s e).records (t.said owner c id b i k)
        by owner c id b k (inr i) = w.1 owner c id b i k
