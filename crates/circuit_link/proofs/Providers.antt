-- What each entry of a provider does to its records, as its parents' views see it.
use Rattle.std.proofs.Common.{ℕ, ◌≡◌, ◌<◌, ◌+◌, Bool, true, false, List, [], ◌∷◌, ◌++◌, length, Option, Some, None, nat_lt, ◌&&◌, refl, sym, ap, ◌∙◌, subst, slice_get, slice_set, unwrap_or, option_and_then, is_some, bytes_eq, ◌==◌, ltb-true, true≢false}
use Rattle.std.proofs.lemmas.List.Quantifiers.{position-Some}
use Rattle.std.proofs.lemmas.Option.{slice_get-get_or}
use Rattle.nsi_primitive.specs.Ids.{id_of}
use Rattle.nsi_primitive.specs.Messages.{kind_of, connection_of, is_query, is_request}
use Rattle.nsi_primitive.specs.declared.entry.Entry.{Entry}
use Rattle.nsi_primitive.specs.declared.entry.Input.{Input}
use Rattle.nsi_primitive.specs.declared.kind.ErrorName.{ErrorName}
use Rattle.nsi_primitive.specs.declared.message.Body.{Body}
use Rattle.nsi_primitive.specs.declared.message.Message.{Message}
use Rattle.nsi_primitive.specs.declared.message.ReserveRequest.{ReserveRequest}
use Rattle.nsi_primitive.specs.declared.plane.Plane.{Plane}
use Rattle.nsi_primitive.specs.declared.state.Machine.{Machine}
use Rattle.nsi_primitive.specs.declared.state.Side.{Side}
use Rattle.message_retry.specs.Taken.{is_taken, with_taken}
use Rattle.child_connection.specs.Holding.{is_reservation}
use Rattle.connection_record.specs.declared.record.Record.{Record}
use Rattle.connection_record.specs.Applied.{status_of, is_told, tells, tells_plane, waits}
use Rattle.connection_record.specs.Courses.{Course, IsAct}
use Rattle.connection_record.specs.Moves.{is_live}
use Rattle.connection_record.specs.Refusal.{place_of, record_for, refusal, points_of}
use Rattle.connection_record.specs.Replies.{Moved, stays, addressed}
use Rattle.connection_record.proofs.Doing.{reservation_is_act, work_is_act, force_is_act, tick_is_act, telling_is_act}
use Rattle.nsi_query.specs.Answers.{answer_to}
use Rattle.nsi_query.proofs.Answering.{providers_answer, providers_tell_rows}
use Rattle.agent_state.specs.Entries.{reply_by}
use Rattle.agent_state.specs.State.{State, Stepped, unchanged, says, no_record, record_at}
use Rattle.provider_agent.specs.Others.{lacking}
use Rattle.provider_agent.specs.Setting.{Setting}
use Rattle.provider_agent.specs.Steps.{keeps, taken_at, with_new, opens_between, opens, accepts, answers, serves, receives, is_waiting, works, is_forcible, forces, own_origin, agent_of, told_at, is_told_at, drawn, ticks_all, ticks, step, after_if, after, may_take}
use Rattle.circuit_link.specs.Serving.{child_of, IsByItself, Tells, TakeCourses, taken_by, IsTurn, IsNew, Serves}
use Rattle.circuit_link.proofs.Abouts.{addressed_append, same_bytes}
use Rattle.circuit_link.proofs.Gathering.{row_tells, nothing_tells, tells_addressed, no_courses, one_course, more_courses}
use Rattle.circuit_link.proofs.Living.{work_itself, force_itself, tick_itself, plane_itself, telling_itself}
use Rattle.circuit_link.proofs.Requests.{refused_by, found_by, first_by, unnamed_kind, query_kind, reserve_unnamed}
use Rattle.circuit_link.proofs.Rowless.{act_rowless}

-- the change of the data plane that is told behind a move is an act of its own
plane_act : (before : Plane) (c now : ℕ) (r : Record) → IsAct r (tells before c now (stays r))
plane_act before c now r = telling_is_act before c now r (stays r) (reservation_is_act None now r tt)

module _ (setting : Setting) (input : Input) (said : List Message) where
  abbrev Does : State → Stepped → Type 0
  Does s x = Serves setting.name input (child_of s said) x.state.records x.state.seen x.out

  nothing : (s : State) → Does s (unchanged s)
  nothing s = Serves.acts refl (no_courses setting.name s.records)

  ---- By itself

  -- one record acts, and the change of its data plane is told
  acts_at : (s s' : State) (n : ℕ) (x : Moved) → n < length s.records → s'.records ≡ s.records → s'.seen ≡ s.seen → s'.now ≡ s.now → IsAct (record_at n s.records) x → IsByItself (record_at n s.records) x.rec x.out → Does s (keeps setting s' n x)
  acts_at s s' n x l rs hs t a itself =
      Serves.acts hs
      (subst (λ z. TakeCourses setting.name s.records (slice_set z n y.rec) (addressed setting.name y.rec.owner y.out)) (sym rs)
      (one_course setting.name s.records n y.rec y.out (addressed setting.name y.rec.owner y.out) l (Course.does (record_at n s.records) y act)
      (telling_itself before (id_of setting.number s'.next) s'.now (record_at n s.records) x itself)
      (subst (λ o. Tells setting.name o y.out (addressed setting.name y.rec.owner y.out)) act.later.owner (tells_addressed setting.name y.rec.owner y.out (act_rowless (record_at n s.records) y act)))))
    where
      before : Plane
      before = status_of s'.now (record_at n s'.records)

      y : Moved
      y = tells before (id_of setting.number s'.next) s'.now x

      act : IsAct (record_at n s.records) y
      act = telling_is_act before (id_of setting.number s'.next) s'.now (record_at n s.records) x a

  and_first : (a b : Bool) → (a && b) ≡ true → a ≡ true
  and_first true b h = refl
  and_first false b h = absurd (cc)

  works_serve : (s : State) (n : ℕ) (machine : Machine) (b : Bool) → is_waiting s n machine ≡ b → Does s (works b setting s n machine)
  unfolding works
  works_serve s n machine false e = nothing s
  works_serve s n machine true e =
      acts_at s s n _ (ltb-true n (length s.records) (and_first (nat_lt n (length s.records)) (waits machine (record_at n s.records)) e)) refl refl refl
      (work_is_act Side.Provider machine (lacking setting s n) setting.name (s.now + setting.hold) s.now (record_at n s.records))
      (work_itself Side.Provider machine (lacking setting s n) setting.name (s.now + setting.hold) s.now (record_at n s.records))

  forces_serve : (s : State) (n : ℕ) (b : Bool) → is_forcible s n ≡ b → Does s (forces b setting s n)
  unfolding forces
  forces_serve s n false e = nothing s
  forces_serve s n true e =
      acts_at s (record s { next = s.next + 1 }) n _ (ltb-true n (length s.records) (and_first (nat_lt n (length s.records)) _ e)) refl refl refl
      (force_is_act Side.Provider (id_of setting.number s.next) (own_origin (agent_of setting) (record_at n s.records)) s.now (record_at n s.records))
      (force_itself Side.Provider (id_of setting.number s.next) (own_origin (agent_of setting) (record_at n s.records)) s.now (record_at n s.records))

  -- each record in order
  ticks_course : (before now next : ℕ) (rs : List Record) → TakeCourses setting.name rs (ticks_all (agent_of setting) before now next rs).records (ticks_all (agent_of setting) before now next rs).out
  unfolding ticks_all
  ticks_course before now next [] = no_courses setting.name []
  ticks_course before now next (r ∷ rs) =
      more_courses setting.name r y.rec y.out (addressed setting.name y.rec.owner y.out) rs (ticks_all (agent_of setting) before now (next + drawn (is_told_at (agent_of setting) before now r)) rs).records
      (ticks_all (agent_of setting) before now (next + drawn (is_told_at (agent_of setting) before now r)) rs).out (Course.does r y act)
      (telling_itself (status_of before r) (id_of setting.number next) now r _ (tick_itself (is_live r.lsm) (own_origin (agent_of setting) r) now r))
      (subst (λ o. Tells setting.name o y.out (addressed setting.name y.rec.owner y.out)) act.later.owner (tells_addressed setting.name y.rec.owner y.out (act_rowless r y act)))
      (ticks_course before now (next + drawn (is_told_at (agent_of setting) before now r)) rs)
    where
      y : Moved
      y = told_at (agent_of setting) before now (id_of setting.number next) r

      act : IsAct r y
      act = telling_is_act (status_of before r) (id_of setting.number next) now r _ (tick_is_act (is_live r.lsm) (own_origin (agent_of setting) r) now r)

  ticks_serve : (s : State) (now : ℕ) → Does s (ticks setting now s)
  unfolding ticks
  ticks_serve s now = Serves.acts refl (ticks_course s.now now s.next s.records)

  ---- A request

  module _ (m : Message) where
    -- the record at a place takes it: its move, and the change of its data plane behind it
    turn : (s : State) (n : ℕ) → IsTurn Side.Provider setting.name s.now m n s.records (taken_at setting s n m).state.records (taken_at setting s n m).out
    unfolding tells
    turn s n =
        record {
          after = z.rec;
          said = z.out;
          more = addressed setting.name z.rec.owner z.out;
          course = Course.does x.rec z act;
          itself = plane_itself (is_told before s.now x.rec) (status_of s.now x.rec) (id_of setting.number s.next) s.now x.rec;
          records = refl;
          spoken = addressed_append setting.name z.rec.owner x.out z.out ∙ ap (λ o. addressed setting.name o x.out ++ addressed setting.name z.rec.owner z.out) act.later.owner;
          tells = tells_addressed setting.name z.rec.owner z.out (act_rowless x.rec z act);
        }
      where
        x : Moved
        x = taken_by Side.Provider s.now m (record_at n s.records)

        before : Plane
        before = status_of s.now (record_at n s.records)

        z : Moved
        z = tells_plane (is_told before s.now x.rec) (status_of s.now x.rec) (id_of setting.number s.next) s.now x.rec

        act : IsAct x.rec z
        act = plane_act before (id_of setting.number s.next) s.now x.rec

    module _ (stp_of : List ℕ → Option ℕ) (s : State) (got : input ≡ Input.Got m) (req : is_request m.body ≡ true) (u : is_taken m.header s.seen ≡ false) where
      abbrev seen_now : State
      seen_now = record s { seen = with_taken m.header s.seen }

      new : IsNew input m (child_of s said) (with_taken m.header s.seen)
      new = record { got = got; request = req; untaken = u; counted = refl }

      between : (o : Option (ℕ × ℕ)) (q : ReserveRequest) → points_of stp_of q ≡ o → m.body ≡ Body.Reserve q → q.connection ≡ None → refusal s.now setting.name stp_of s.records m ≡ None → Does s (opens_between o setting seen_now m q)
      between None q p b c r = absurd ((first_by s.now setting.name stp_of s.records m q b c r).1 p)
      between (Some points) q p b c r =
          Serves.opens m (id_of setting.number s.next) _ points.0 points.1 Side.Provider s.now new (first_by s.now setting.name stp_of s.records m q b c r).0
          (turn (with_new setting seen_now m q points) (length s.records))

      left : is_reservation (kind_of m.body) ≡ false → Does s (unchanged seen_now)
      left k = Serves.leaves m new k refl nothing_tells

      opening : (body : Body) → m.body ≡ body → connection_of m.body ≡ None → refusal s.now setting.name stp_of s.records m ≡ None → Does s (opens body setting stp_of seen_now m)
      opening (Body.Reserve q) e c r = between (points_of stp_of q) q refl e (reserve_unnamed m.body q e c) r
      opening _ e c r = left (unnamed_kind m.body c (λ q w. absurd (let z = sym e ∙ w in cc)))

      accepting : (o : Option ℕ) → connection_of m.body ≡ o → refusal s.now setting.name stp_of s.records m ≡ None → Does s (accepts o setting stp_of seen_now m)
      accepting None e r = opening m.body refl e r
      accepting (Some id) e r =
          let f = found_by s.now setting.name stp_of m id (child_of s said) e r in
          subst (λ k. Does s (taken_at setting seen_now k m)) (sym (ap (λ o. unwrap_or o 0) f.found)) (Serves.takes m f.place Side.Provider s.now new f.about (turn seen_now f.place))

      answering : (o : Option ErrorName) → refusal s.now setting.name stp_of s.records m ≡ o → Does s (answers o setting stp_of seen_now m)
      answering (Some error) r = Serves.refuses m error s.now new (refused_by s.now setting.name stp_of m error (child_of s said) r) refl refl
      answering None r = accepting (connection_of m.body) refl r

    -- a query is answered by rows, or refused
    module _ (stp_of : List ℕ → Option ℕ) (s : State) (got : input ≡ Input.Got m) (req : is_request m.body ≡ true) (u : is_taken m.header s.seen ≡ false) where
      there : (n id : ℕ) → place_of id m.header.requester s.records ≡ Some n → record_for id m.header.requester s.records ≡ Some (record_at n s.records)
      there n id e =
          ap (λ o. option_and_then (λ k. slice_get s.records k) o) e
          ∙ slice_get-get_or s.records n no_record (position-Some (λ (r : Record). (id == r.id) && bytes_eq m.header.requester r.owner) s.records n no_record e).0

      is_there : (n id : ℕ) → is_query m.body ≡ true → answer_to setting.name s.now s.records m ≡ None → connection_of m.body ≡ Some id → place_of id m.header.requester s.records ≡ Some n → ⊥
      is_there n id q e names at = true≢false (sym (providers_answer setting.name s.now s.records m id (record_at n s.records) q names (there n id at)) ∙ ap is_some e)

      another : bytes_eq m.header.provider setting.name ≡ false → m.header.provider ≡ setting.name → ⊥
      another e is = true≢false (sym (same_bytes setting.name) ∙ sym (ap (λ p. bytes_eq p setting.name) is) ∙ e)

      telling : is_query m.body ≡ true → (b : Bool) (o : Option Body) → bytes_eq m.header.provider setting.name ≡ b → answer_to setting.name s.now s.records m ≡ o
          → Does s (says (seen_now stp_of s got req u) (reply_by b o setting.name m ∷ []))
      telling q true (Some body) p e = Serves.leaves m (new stp_of s got req u) (query_kind m.body q) refl (row_tells m.header body (providers_tell_rows setting.name s.now s.records m body e))
      telling q true None p e = Serves.refuses m ErrorName.Nonexistent s.now (new stp_of s got req u) (λ n id own names at. absurd (is_there n id q e names at)) refl refl
      telling q false o p e = Serves.refuses m ErrorName.WrongProvider s.now (new stp_of s got req u) (λ n id own names at. absurd (another p own)) refl refl

      serving : (b : Bool) → is_query m.body ≡ b → Does s (serves b setting stp_of (seen_now stp_of s got req u) m)
      serving true q = telling q (bytes_eq m.header.provider setting.name) (answer_to setting.name s.now s.records m) refl refl
      serving false q = answering stp_of s got req u (refusal s.now setting.name stp_of s.records m) refl

    receiving : (stp_of : List ℕ → Option ℕ) (s : State) (a b : Bool) → input ≡ Input.Got m → is_request m.body ≡ a → is_taken m.header s.seen ≡ b → Does s (receives a b setting stp_of s m)
    unfolding receives
    receiving stp_of s true false got q u = serving stp_of s got q u (is_query m.body) refl
    receiving stp_of s true true got q u = nothing s
    receiving stp_of s false b got q u = nothing s

---- Any entry

step_serve : (setting : Setting) (stp_of : List ℕ → Option ℕ) (input : Input) (second : ℕ) (said : List Message) (s : State) →
    Serves setting.name input (child_of s said) (step input second setting stp_of s).state.records (step input second setting stp_of s).state.seen (step input second setting stp_of s).out
unfolding step
step_serve setting stp_of (Input.Got m) second said s = receiving setting (Input.Got m) said m stp_of s (is_request m.body) (is_taken m.header s.seen) refl refl refl
step_serve setting stp_of (Input.Work n machine) second said s = works_serve setting (Input.Work n machine) said s n machine (is_waiting s n machine) refl
step_serve setting stp_of Input.Tick second said s = ticks_serve setting Input.Tick said s second
step_serve setting stp_of (Input.Force n) second said s = forces_serve setting (Input.Force n) said s n (is_forcible s n) refl
step_serve setting stp_of (Input.Acked i) second said s = nothing setting (Input.Acked i) said s
step_serve setting stp_of (Input.Ask n ask) second said s = nothing setting (Input.Ask n ask) said s

pub provider_serves : (setting : Setting) (stp_of : List ℕ → Option ℕ) (e : Entry) (said : List Message) (s : State) →
    Serves setting.name e.input (child_of s said) (after setting stp_of s e).state.records (after setting stp_of s e).state.seen (after setting stp_of s e).out
unfolding after
provider_serves setting stp_of e said s = by_test (may_take s e)
  where
    by_test : (b : Bool) → Serves setting.name e.input (child_of s said) (after_if b setting stp_of s e).state.records (after_if b setting stp_of s e).state.seen (after_if b setting stp_of s e).out
    by_test true = step_serve setting stp_of e.input e.second said s
    by_test false = nothing setting e.input said s
