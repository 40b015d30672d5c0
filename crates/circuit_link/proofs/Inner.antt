-- A move that a record makes by itself keeps the link of its view.
use Rattle.std.proofs.Common.{ℕ, ◌≡◌, true, false, List, [], ◌∷◌, ◌++◌, Contains, Option, Some, None, ◌⊎◌, inl, inr, refl, sym, ap, ◌∙◌, subst, arith, map, option_map, option_to_list, append-nil, true≢false}
use Rattle.std.proofs.lemmas.List.Elements.{Contains-append_left, Contains-append_right, Contains-append_cases}
use Rattle.nsi_primitive.specs.declared.message.Body.{Body}
use Rattle.nsi_primitive.specs.declared.message.Criteria.{Criteria}
use Rattle.nsi_primitive.specs.declared.message.HoldTimeout.{HoldTimeout}
use Rattle.nsi_primitive.specs.declared.state.Rsm.{Rsm}
use Rattle.reserve_machine.specs.Table.{step as reserve_step}
use Rattle.child_connection.specs.declared.state.Phase.{Phase}
use Rattle.child_connection.specs.Views.{ChildConnection, is_kind}
use Rattle.child_connection.specs.Hearing.{hears, push_version}
use Rattle.child_connection.specs.Holding.{is_timeout, is_response}
use Rattle.child_connection.specs.Standing.{IsQuiet, back}
use Rattle.child_connection.proofs.AtRest.{timed_out_rests}
use Rattle.connection_record.specs.declared.record.Record.{Record}
use Rattle.connection_record.specs.declared.moves.Reply.{Reply}
use Rattle.connection_record.specs.declared.moves.ReservationMove.{ReservationMove}
use Rattle.connection_record.specs.Courses.{IsOwn, answering}
use Rattle.connection_record.specs.Moves.{event_of, reserves, is_working, fits}
use Rattle.connection_record.specs.Replies.{Moved, id_or, reply, confirmation}
use Rattle.connection_record.specs.Speaking.{is_answering, is_asking, is_noting}
use Rattle.circuit_link.specs.Sides.{version_of, standing_of, Side, moved}
use Rattle.circuit_link.specs.Links.{SameCommitted, IsCalm, IsReserving, IsCommitting, IsAborting, WorksOn, IsForetold, MayEnd, Pending, Link}
use Rattle.circuit_link.proofs.Answering.{same_some, one_answer, answer_there, other_answer, answers_none, nothing_answered}

---- A record at rest

-- only the end of its hold moves it, which leaves every view at rest
quiet_inner : (x : ChildConnection) (r : Record) (move : ReservationMove) (now : ℕ) → IsOwn (Some move) → IsQuiet x (standing_of r) → IsQuiet x (standing_of (reserves r.rsm move now r).rec)
unfolding reserves reserve_step event_of
quiet_inner x r move now i h = grind arith

-- a record at rest says at most that its hold ends, and then it stands there
EndsHold : Record → Moved → Type 0
EndsHold r y = (y.out ≡ []) ⊎ ((t : HoldTimeout) × (y.out ≡ reply (id_or r.attempt) (Body.ReserveTimeout t) ∷ []) × (y.rec.rsm ≡ Rsm.ReserveTimeout) × (r.rsm ≡ Rsm.ReserveHeld))

rest_says : (k : Rsm) (r : Record) (move : ReservationMove) (now : ℕ) → r.rsm ≡ k → IsOwn (Some move) → is_working k ≡ false → EndsHold r (reserves k move now r)
unfolding reserves reserve_step event_of is_working EndsHold
rest_says Rsm.ReserveHeld r (ReservationMove.HoldEnd origin) now e i w = inr (_, refl, refl, e)
rest_says Rsm.ReserveHeld r (ReservationMove.Commit c) now e i w = absurd (cc)
rest_says Rsm.ReserveHeld r (ReservationMove.Abort c) now e i w = absurd (cc)
rest_says Rsm.ReserveFailed r (ReservationMove.Abort c) now e i w = absurd (cc)
rest_says Rsm.ReserveTimeout r (ReservationMove.Abort c) now e i w = absurd (cc)
rest_says Rsm.ReserveStart r (ReservationMove.Reserve c criteria) now e i w = absurd (cc)
rest_says Rsm.ReserveChecking r move now e i w = absurd (cc)
rest_says Rsm.ReserveCommitting r move now e i w = absurd (cc)
rest_says Rsm.ReserveAborting r move now e i w = absurd (cc)
rest_says Rsm.ReserveStart r _ now e i w = inl refl
rest_says Rsm.ReserveFailed r _ now e i w = inl refl
rest_says Rsm.ReserveTimeout r _ now e i w = inl refl
rest_says Rsm.ReserveHeld r _ now e i w = inl refl

timeout_stays : (r : Record) (move : ReservationMove) (now : ℕ) → IsOwn (Some move) → r.rsm ≡ Rsm.ReserveTimeout → (reserves r.rsm move now r).rec.rsm ≡ Rsm.ReserveTimeout
unfolding reserves reserve_step event_of
timeout_stays r move now i e = grind arith

pub quiet_rests : (x : ChildConnection) (r : Record) → IsQuiet x (standing_of r) → is_working r.rsm ≡ false
unfolding is_working
quiet_rests x r h = grind arith

still_rests : (r : Record) (move : ReservationMove) (now : ℕ) → IsOwn (Some move) → is_working r.rsm ≡ false → is_working (reserves r.rsm move now r).rec.rsm ≡ false
unfolding reserves reserve_step event_of is_working
still_rests r move now i w = grind arith

module _ (move : ReservationMove) (now : ℕ) (own : IsOwn (Some move)) where
  abbrev after : Side → Side
  after s = moved s (reserves s.rec.rsm move now s.rec)

  calm_inner : (x : ChildConnection) (s : Side) → IsCalm x s → IsCalm x (after s)
  unfolding EndsHold
  calm_inner x s h =
      record {
        quiet = quiet_inner x s.rec move now own h.quiet;
        late = λ c b p a i t. elim (Contains-append_cases (s.said c) (answering c (reserves s.rec.rsm move now s.rec).out) b i) [
          | inl j ↦ timeout_stays s.rec move now own (h.late c b p a j t)
          | inr j ↦ elim (rest_says s.rec.rsm s.rec move now refl own (quiet_rests x s.rec h.quiet)) [
            | inl n ↦ absurd (nothing_answered c b (reserves s.rec.rsm move now s.rec).out n j)
            | inr y ↦ y.2
          ]
        ];
      }

  foretold_inner : (c : ℕ) (x : ChildConnection) (s : Side) (b : Body) → IsForetold c x s b → IsForetold c x (after s) b
  foretold_inner c x s b (inl r) = inl r
  foretold_inner c x s b (inr h) = inr (calm_inner (hears b c x).view s h)

  hold_told : (c : ℕ) (x : ChildConnection) (s : Side) (t : HoldTimeout) → (x.phase ≡ Phase.Reserving) × (x.attempt ≡ Some c) × SameCommitted x s.rec → s.rec.rsm ≡ Rsm.ReserveTimeout →
      IsCalm (hears (Body.ReserveTimeout t) c x).view s
  hold_told c x s t w e = record { quiet = timed_out_rests t c x (standing_of s.rec) w.1 (inr w.0) e w.2; late = λ d b p a i k. e }

  same_inner : (x : ChildConnection) (s : Side) → is_working s.rec.rsm ≡ false → SameCommitted x s.rec → SameCommitted x (reserves s.rec.rsm move now s.rec).rec
  unfolding reserves reserve_step event_of is_working
  same_inner x s w h = grind (arith, own)

  end_inner : (c : ℕ) (x : ChildConnection) (r : Record) → is_working r.rsm ≡ false → MayEnd c x r → MayEnd c x (reserves r.rsm move now r).rec
  unfolding reserves reserve_step event_of is_working
  end_inner c x r w h = record { waits = λ e a. still e a }
    where
      still : (reserves r.rsm move now r).rec.rsm ≡ Rsm.ReserveHeld → id_or (reserves r.rsm move now r).rec.attempt ≡ c →
          (x.phase ≡ Phase.Reserving) × (x.attempt ≡ Some c) × SameCommitted x (reserves r.rsm move now r).rec
      still e a = let k = h.waits in grind (arith, own)

  told_inner : (c : ℕ) (x : ChildConnection) (s : Side) → s.seen c ≡ true → ((b : Body) → Contains (s.said c) b → IsForetold c x s b) → is_working s.rec.rsm ≡ false → MayEnd c x s.rec →
      (g : Body) → Contains (s.said c) g → is_response g ≡ false → Pending c x (after s)
  unfolding EndsHold
  told_inner c x s u f w m g l q =
      Pending.told u
      (λ b i. elim (Contains-append_cases (s.said c) (answering c (reserves s.rec.rsm move now s.rec).out) b i) [
        | inl j ↦ foretold_inner c x s b (f b j)
        | inr j ↦ elim (rest_says s.rec.rsm s.rec move now refl own w) [
          | inl n ↦ absurd (nothing_answered c b (reserves s.rec.rsm move now s.rec).out n j)
          | inr y ↦
              let k = one_answer c (id_or s.rec.attempt) b (Body.ReserveTimeout y.0) (subst (λ z. Contains (answering c z) b) y.1 j) in
              let v = m.waits y.3 (sym k.0) in
              inr (subst (λ z. IsCalm (hears z c x).view (after s)) (sym k.1) (hold_told c x (after s) y.0 (v.0, v.1, same_inner x s w v.2) y.2))
        ]
      ])
      (still_rests s.rec move now own w)
      (end_inner c x s.rec w m)
      g (Contains-append_left (s.said c) (answering c (reserves s.rec.rsm move now s.rec).out) g l) q

---- A record at work

-- a move of a record at work: none, or the answer
data Ends (c : ℕ) (x : ChildConnection) (r : Record) (y : Moved) : Type 0 where
  stays : y.rec ≡ r → y.out ≡ [] → Ends c x r y
  final : (f : Body) → y.out ≡ reply c f ∷ [] → is_answering f ≡ true → is_timeout f ≡ false → is_response f ≡ false → IsQuiet (hears f c x).view (standing_of y.rec) →
      ((hears f c x).view.phase ≡ Phase.Held → (hears f c x).view.attempt ≡ Some c) → is_working y.rec.rsm ≡ false → MayEnd c x y.rec → Ends c x r y

reserving_ends : (c : ℕ) (x : ChildConnection) (r : Record) (move : ReservationMove) (now : ℕ) → IsReserving c x r → Ends c x r (reserves Rsm.ReserveChecking move now r)
unfolding reserves reserve_step event_of is_timeout is_response is_working is_answering is_asking is_noting hears is_kind
reserving_ends c x r (ReservationMove.Fit deadline) now h = by_pending r.pending refl
  where
    by_pending : (o : Option Criteria) → r.pending ≡ o → Ends c x r (fits o deadline Rsm.ReserveHeld now r)
    by_pending None q = stays refl refl
    by_pending (Some criteria) q =
        final (Body.ReserveConfirmed (confirmation r.id r.service criteria)) (ap (λ z. reply (id_or z) (Body.ReserveConfirmed (confirmation r.id r.service criteria)) ∷ []) h.request) refl refl refl
        (grind (arith, h.same, h.asked, q)) (λ p. grind (arith, h.attempt, h.asked)) refl (record { waits = λ e a. (h.phase, h.attempt, h.same) })
reserving_ends c x r (ReservationMove.Lack exception) now h =
    final (Body.ReserveFailed r.id exception) (ap (λ z. reply (id_or z) (Body.ReserveFailed r.id exception) ∷ []) h.request) refl refl refl
    (grind (arith, h.same, h.asked)) (λ p. grind (arith, h.attempt, h.asked)) refl (record { waits = λ e a. absurd (cc) })
reserving_ends c x r _ now h = stays refl refl

map_push : (cs : List Criteria) (c : Criteria) → map version_of (cs ++ c ∷ []) ≡ map version_of cs ++ c.version ∷ []
map_push [] c = refl
map_push (d ∷ cs) c = ap (λ xs. d.version ∷ xs) (map_push cs c)

committed_same : (xs : List ℕ) (cs : List Criteria) (o : Option Criteria) → xs ≡ map version_of cs → push_version xs (option_map version_of o) ≡ map version_of (cs ++ option_to_list o)
committed_same xs cs None e = e ∙ ap (map version_of) (sym (append-nil cs))
committed_same xs cs (Some c) e = ap (λ z. z ++ c.version ∷ []) e ∙ sym (map_push cs c)

committing_ends : (c : ℕ) (x : ChildConnection) (r : Record) (move : ReservationMove) (now : ℕ) → IsCommitting c x r → Ends c x r (reserves Rsm.ReserveCommitting move now r)
unfolding reserves reserve_step event_of is_timeout is_response is_working is_answering is_asking is_noting hears is_kind
committing_ends c x r ReservationMove.Done now h =
    final (Body.ReserveCommitConfirmed r.id) (ap (λ z. reply (id_or z) (Body.ReserveCommitConfirmed r.id) ∷ []) h.request) refl refl refl
    (let k = committed_same x.committed r.committed r.pending h.same in grind (arith, k, h.asked, h.pending)) (λ p. grind (arith, h.asked)) refl (record { waits = λ e a. absurd (cc) })
committing_ends c x r (ReservationMove.Spoiled exception mixed) now h =
    final (Body.ReserveCommitFailed r.id exception) (ap (λ z. reply (id_or z) (Body.ReserveCommitFailed r.id exception) ∷ []) h.request) refl refl refl
    (grind (arith, h.same, h.asked)) (λ p. grind (arith, h.asked)) refl (record { waits = λ e a. absurd (cc) })
committing_ends c x r _ now h = stays refl refl

aborting_ends : (c : ℕ) (x : ChildConnection) (r : Record) (move : ReservationMove) (now : ℕ) → IsAborting c x r → Ends c x r (reserves Rsm.ReserveAborting move now r)
unfolding reserves reserve_step event_of is_timeout is_response is_working is_answering is_asking is_noting hears is_kind
aborting_ends c x r ReservationMove.Freed now h =
    final (Body.ReserveAbortConfirmed r.id) (ap (λ z. reply (id_or z) (Body.ReserveAbortConfirmed r.id) ∷ []) h.request) refl refl refl
    (grind (arith, h.same, h.asked)) (λ p. grind (arith, h.asked)) refl (record { waits = λ e a. absurd (cc) })
aborting_ends c x r _ now h = stays refl refl

works_end : (c : ℕ) (x : ChildConnection) (r : Record) (move : ReservationMove) (now : ℕ) → WorksOn c x r → Ends c x r (reserves r.rsm move now r)
works_end c x r move now (WorksOn.reserving h) = subst (λ k. Ends c x r (reserves k move now r)) (sym h.state) (reserving_ends c x r move now h)
works_end c x r move now (WorksOn.committing h) = subst (λ k. Ends c x r (reserves k move now r)) (sym h.state) (committing_ends c x r move now h)
works_end c x r move now (WorksOn.aborting h) = subst (λ k. Ends c x r (reserves k move now r)) (sym h.state) (aborting_ends c x r move now h)

not_both : (b : Body) → is_response b ≡ true → is_timeout b ≡ true → ⊥
unfolding is_response is_timeout
not_both b r t = grind arith

working_inner : (move : ReservationMove) (now c : ℕ) (x : ChildConnection) (s : Side) → s.seen c ≡ true → WorksOn c x s.rec → ((b : Body) → Contains (s.said c) b → is_response b ≡ true) →
    Pending c x (moved s (reserves s.rec.rsm move now s.rec))
working_inner move now c x s u w f = by_end (works_end c x s.rec move now w)
  where
    y : Moved
    y = reserves s.rec.rsm move now s.rec

    by_end : Ends c x s.rec y → Pending c x (moved s y)
    by_end (stays e n) =
        Pending.working u (subst (λ z. WorksOn c x z) (sym e) w)
        (λ b i. elim (Contains-append_cases (s.said c) (answering c y.out) b i) [ inl j ↦ f b j | inr j ↦ absurd (nothing_answered c b y.out n j) ])
    by_end (final g e answer plain content quiet attempt rest may) =
        Pending.told u
        (λ b i. elim (Contains-append_cases (s.said c) (answering c y.out) b i) [
          | inl j ↦ inl (f b j)
          | inr j ↦
              let k = one_answer c c b g (subst (λ z. Contains (answering c z) b) e j) in
              inr (subst (λ z. IsCalm (hears z c x).view (moved s y)) (sym k.1) (record { quiet = quiet; late = λ d b' p a i' t. late g e plain attempt d b' p a i' t }))
        ])
        rest may g (Contains-append_right (s.said c) (answering c y.out) g (subst (λ z. Contains (answering c z) g) (sym e) (answer_there c g answer))) content
      where
        late : (g : Body) → y.out ≡ reply c g ∷ [] → is_timeout g ≡ false → ((hears g c x).view.phase ≡ Phase.Held → (hears g c x).view.attempt ≡ Some c) →
            (d : ℕ) (b' : Body) → (hears g c x).view.phase ≡ Phase.Held → (hears g c x).view.attempt ≡ Some d → Contains (s.said d ++ answering d y.out) b' → is_timeout b' ≡ true → y.rec.rsm ≡ Rsm.ReserveTimeout
        late g e plain attempt d b' p a i' t =
            let q : d ≡ c = same_some d c (sym a ∙ attempt p) in
            elim (Contains-append_cases (s.said d) (answering d y.out) b' i') [
              | inl j ↦ absurd (not_both b' (f b' (subst (λ z. Contains (s.said z) b') q j)) t)
              | inr j ↦
                  let k = one_answer d c b' g (subst (λ z. Contains (answering d z) b') e j) in
                  absurd (true≢false (sym t ∙ ap is_timeout k.1 ∙ plain))
            ]

---- A request that isn't taken

-- a hold that may end is of a request that was taken
abbrev pub IsKnown : Side → Type 0
IsKnown s = s.rec.rsm ≡ Rsm.ReserveHeld → s.seen (id_or s.rec.attempt) ≡ true

unseen_inner : (move : ReservationMove) (now : ℕ) → IsOwn (Some move) → (c : ℕ) (x : ChildConnection) (s : Side) → IsKnown s → s.seen c ≡ false → s.said c ≡ [] → IsCalm (back x) s →
    Pending c x (moved s (reserves s.rec.rsm move now s.rec))
unfolding EndsHold
unseen_inner move now own c x s known u n h =
    Pending.unseen u (nothing (rest_says s.rec.rsm s.rec move now refl own (quiet_rests (back x) s.rec h.quiet))) (calm_inner move now own (back x) s h)
  where
    out : List Reply
    out = (reserves s.rec.rsm move now s.rec).out

    nothing : EndsHold s.rec (reserves s.rec.rsm move now s.rec) → s.said c ++ answering c out ≡ []
    nothing (inl e) = ap (λ z. s.said c ++ z) (answers_none c out e) ∙ append-nil (s.said c) ∙ n
    nothing (inr y) =
        let apart : c ≡ id_or s.rec.attempt → ⊥ = λ q. true≢false (sym (known y.3) ∙ ap s.seen (sym q) ∙ u) in
        ap (λ z. s.said c ++ z) (ap (answering c) y.1 ∙ other_answer c (id_or s.rec.attempt) (Body.ReserveTimeout y.0) apart) ∙ append-nil (s.said c) ∙ n

-- what the record does by itself keeps the link
pub inner_link : (move : ReservationMove) (now : ℕ) → IsOwn (Some move) → (x : ChildConnection) (s : Side) → IsKnown s → Link x s → Link x (moved s (reserves s.rec.rsm move now s.rec))
inner_link move now own x s known (Link.calm h) = Link.calm (calm_inner move now own x s h)
inner_link move now own x s known (Link.asked c k r p a (Pending.working u w f)) = Link.asked c k r p a (working_inner move now c x s u w f)
inner_link move now own x s known (Link.asked c k r p a (Pending.told u f w m g l q)) = Link.asked c k r p a (told_inner move now own c x s u f w m g l q)
inner_link move now own x s known (Link.asked c k r p a (Pending.unseen u n h)) = Link.asked c k r p a (unseen_inner move now own c x s known u n h)
