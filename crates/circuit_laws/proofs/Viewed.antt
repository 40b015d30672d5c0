-- How a view of an aggregator stands before and after an entry: as it was, or it has heard a message, or a request was passed on to its child.
use Rattle.std.proofs.Common.{ℕ, zero, suc, ◌≡◌, ◌∙◌, ◌⊎◌, inl, inr, List, [], ◌∷◌, slice_get, Contains, Some, None, option_to_list, refl, sym, ap, subst}
use Rattle.std.proofs.lemmas.List.Elements.{Contains-append_left, Contains-append_right}
use Rattle.std.proofs.lemmas.Option.{get_or_from_slice_get, slice_get_within}
use Rattle.nsi_primitive.specs.Ids.{id_of}
use Rattle.nsi_primitive.specs.Messages.{kind_of}
use Rattle.nsi_primitive.specs.declared.entry.Input.{Input}
use Rattle.nsi_primitive.specs.declared.kind.Kind.{Kind}
use Rattle.nsi_primitive.specs.declared.message.Body.{Body}
use Rattle.nsi_primitive.specs.declared.message.Message.{Message}
use Rattle.connection_record.specs.declared.record.Record.{Record}
use Rattle.connection_record.specs.Applied.{is_terminating}
use Rattle.connection_record.specs.Refusal.{record_refusal}
use Rattle.child_connection.specs.Hearing.{hear}
use Rattle.child_connection.specs.Views.{ChildConnection}
use Rattle.agent_state.specs.declared.parent.Leg.{Leg}
use Rattle.aggregator_agent.specs.declared.agent.Agent.{Agent}
use Rattle.aggregator_agent.specs.Asking.{Asked, asked_view, request_of, each, passed_on, pass_one, view_of, views_of, with_path}
use Rattle.aggregator_agent.specs.Turns.{takes, request_turn, late_terminate, hear_one, answer_turn}
use Rattle.circuit_fit.proofs.Owning.{IsAsBefore}
use Rattle.circuit_laws.proofs.Learnt.{answer_views, request_views, asked_connection}
use Rattle.circuit_laws.proofs.Turned.{Turned}

---- In order

-- what is done to the view at a place
each_at : (does : ℕ → ChildConnection → Asked) (next : ℕ) (xs : List ChildConnection) (i : ℕ) (x : ChildConnection) → slice_get xs i ≡ Some x →
    (n : ℕ) × (slice_get (each does next xs).children i ≡ Some (does n x).child) × ((m : Message) → Contains (does n x).asked m → Contains (each does next xs).asked m)
unfolding each
each_at does next [] i x e = absurd (cc)
each_at does next (y ∷ ys) zero x e =
    let same : y ≡ x = cc in
    (next, ap (λ (z : ChildConnection). Some (does next z).child) same, λ m j. Contains-append_left (does next y).asked (each does (does next y).next ys).asked m (subst (λ (z : ChildConnection). Contains (does next z).asked m) (sym same) j))
each_at does next (y ∷ ys) (suc i) x e =
    let (n, there, said) = each_at does (does next y).next ys i x e in
    (n, there, λ m j. Contains-append_right (does next y).asked (each does (does next y).next ys).asked m (said m j))

each_of : (does : ℕ → ChildConnection → Asked) (next : ℕ) (xs : List ChildConnection) (i : ℕ) (y : ChildConnection) → slice_get (each does next xs).children i ≡ Some y → (x : ChildConnection) × (slice_get xs i ≡ Some x)
unfolding each
each_of does next [] i y e = absurd (cc)
each_of does next (x ∷ xs) zero y e = (x, refl)
each_of does next (x ∷ xs) (suc i) y e = each_of does (does next x).next xs i y e

path_at : (body : Body) (xs : List ChildConnection) (legs : List Leg) (i : ℕ) (x : ChildConnection) → slice_get xs i ≡ Some x → slice_get (with_path body xs legs) i ≡ Some x
unfolding with_path
path_at (Body.Reserve q) [] legs i x e = absurd (cc)
path_at (Body.Reserve q) (y ∷ ys) legs i x e = e
path_at _ xs legs i x e = e

path_of : (body : Body) (xs : List ChildConnection) (legs : List Leg) (i : ℕ) (y : ChildConnection) → slice_get (with_path body xs legs) i ≡ Some y → (slice_get xs i ≡ Some y) ⊎ ((leg : Leg) × (y ≡ view_of leg))
unfolding with_path views_of
path_of (Body.Reserve q) [] legs i y e = inr (of_leg legs i e)
  where
    of_leg : (ls : List Leg) (i : ℕ) → slice_get (views_of ls) i ≡ Some y → (leg : Leg) × (y ≡ view_of leg)
    of_leg [] i e = absurd (cc)
    of_leg (l ∷ ls) zero e = (l, let same : view_of l ≡ y = cc in sym same)
    of_leg (l ∷ ls) (suc i) e = of_leg ls i e
path_of (Body.Reserve q) (x ∷ xs) legs i y e = inl e
path_of _ xs legs i y e = inl e

same_view : (x y : ChildConnection) → Some x ≡ Some y → x ≡ y
same_view x y e = cc

pub view_there : (xs : List ChildConnection) (i : ℕ) (x : ChildConnection) → slice_get xs i ≡ Some x → Contains xs x
view_there xs i x e = (i, slice_get_within xs i x e, get_or_from_slice_get xs i x x e)

---- A view

-- a view y is what a view x of the connection has become
pub data ViewTurned (agent : Agent) (input : Input) (own own' : Record) (more : List Message) (x y : ChildConnection) : Type 0 where
  by_rest : IsAsBefore own own' → y ≡ x → ViewTurned agent input own own' more x y
  by_answer : (m : Message) (now next c : ℕ) (xs : List ChildConnection) → input ≡ Input.Got m → own' ≡ (answer_turn agent now m own xs next).own →
      Contains (answer_turn agent now m own xs next).children y → y ≡ asked_view (late_terminate (is_terminating own.lsm) m x) Kind.Terminate c (hear m x).view → ViewTurned agent input own own' more x y
  by_request : (m : Message) (now next c : ℕ) (zs : List ChildConnection) → input ≡ Input.Got m → record_refusal now m.body own ≡ None → own' ≡ (request_turn agent now m own zs next).own →
      Contains (request_turn agent now m own zs next).children y → y ≡ asked_view (passed_on m.body (takes m now own).rec x) (kind_of m.body) c x →
      ((z : Message) → Contains (option_to_list (request_of (passed_on m.body (takes m now own).rec x) agent.name c x)) z → Contains more z) → ViewTurned agent input own own' more x y

-- a view that is there has become the one at its place
pub view_turned : (agent : Agent) (input : Input) (own own' : Record) (xs ys : List ChildConnection) (more : List Message) → Turned agent input own xs own' ys more → (i : ℕ) (x : ChildConnection) → slice_get xs i ≡ Some x →
    (y : ChildConnection) × (slice_get ys i ≡ Some y) × ViewTurned agent input own own' more x y
view_turned agent input own own' xs ys more (Turned.by_rest a same none) i x e = (x, ap (λ (zs : List ChildConnection). slice_get zs i) same ∙ e, ViewTurned.by_rest a refl)
view_turned agent input own own' xs ys more (Turned.by_answer m now next got turn) i x e =
    let w = answer_views agent now m own xs next in
    let (n, there, said) = each_at (λ n x. hear_one (is_terminating own.lsm) m agent n x) next xs i x e in
    let z : ChildConnection = (hear_one (is_terminating own.lsm) m agent n x).child in (
      z,
      ap (λ (zs : List ChildConnection). slice_get zs i) (turn.views ∙ w.0) ∙ there,
      ViewTurned.by_answer m now next (id_of agent.number n) xs got turn.own (view_there (answer_turn agent now m own xs next).children i z (ap (λ (zs : List ChildConnection). slice_get zs i) w.0 ∙ there)) refl,
    )
view_turned agent input own own' xs ys more (Turned.by_request m now next legs got fine turn) i x e =
    let zs : List ChildConnection = with_path m.body xs legs in
    let r : Record = (takes m now own).rec in
    let w = request_views agent now m own zs next in
    let (n, there, said) = each_at (λ n x. pass_one m agent r n x) next zs i x (path_at m.body xs legs i x e) in (
      (pass_one m agent r n x).child,
      ap (λ (us : List ChildConnection). slice_get us i) (turn.views ∙ w.0) ∙ there,
      ViewTurned.by_request m now next (id_of agent.number n) zs got fine turn.own
          (view_there (request_turn agent now m own zs next).children i (pass_one m agent r n x).child (ap (λ (us : List ChildConnection). slice_get us i) w.0 ∙ there)) refl (λ z j. subst (λ (us : List Message). Contains us z) (sym (turn.asked ∙ w.1)) (said z j)),
    )
view_turned agent input own own' xs ys more (Turned.by_opening m q now next id source dest legs got body same none turn) i x e =
    absurd (let z : None ≡ Some x = sym (ap (λ (zs : List ChildConnection). slice_get zs i) none) ∙ e in cc)

path_known : (agent : Agent) (now : ℕ) (m : Message) (own : Record) (xs : List ChildConnection) (legs : List Leg) (next i : ℕ) (y : ChildConnection) → slice_get (request_turn agent now m own (with_path m.body xs legs) next).children i ≡ Some y →
    ((x : ChildConnection) × (slice_get xs i ≡ Some x)) ⊎ (y.connection ≡ None)
path_known agent now m own xs legs next i y e = by (path_of m.body xs legs i old.0 old.1)
  where
    zs : List ChildConnection
    zs = with_path m.body xs legs

    r : Record
    r = (takes m now own).rec

    there : slice_get (each (λ n x. pass_one m agent r n x) next zs).children i ≡ Some y
    there = ap (λ (us : List ChildConnection). slice_get us i) (sym (request_views agent now m own zs next).0) ∙ e

    old : (x : ChildConnection) × (slice_get zs i ≡ Some x)
    old = each_of (λ n x. pass_one m agent r n x) next zs i y there

    by : (slice_get xs i ≡ Some old.0) ⊎ ((leg : Leg) × (old.0 ≡ view_of leg)) → ((x : ChildConnection) × (slice_get xs i ≡ Some x)) ⊎ (y.connection ≡ None)
    by (inl here) = inl (old.0, here)
    by (inr (leg, new)) =
        let (n, at, said) = each_at (λ n x. pass_one m agent r n x) next zs i old.0 old.1 in
        let is : (pass_one m agent r n old.0).child ≡ y = same_view (pass_one m agent r n old.0).child y (sym at ∙ there) in
        inr (ap (λ (z : ChildConnection). z.connection) (sym is) ∙ (asked_connection (passed_on m.body r old.0) (kind_of m.body) (id_of agent.number n) old.0 ∙ ap (λ (z : ChildConnection). z.connection) new))

-- a view that is there then was there, or doesn't know its connection
pub view_was : (agent : Agent) (input : Input) (own own' : Record) (xs ys : List ChildConnection) (more : List Message) → Turned agent input own xs own' ys more → (i : ℕ) (y : ChildConnection) → slice_get ys i ≡ Some y →
    ((x : ChildConnection) × (slice_get xs i ≡ Some x) × ViewTurned agent input own own' more x y) ⊎ (y.connection ≡ None)
view_was agent input own own' xs ys more turned i y e = by turned
  where
    found : (x : ChildConnection) × (slice_get xs i ≡ Some x) → (x : ChildConnection) × (slice_get xs i ≡ Some x) × ViewTurned agent input own own' more x y
    found (x, here) =
        let (z, there, t) = view_turned agent input own own' xs ys more turned i x here in
        (x, here, subst (λ (v : ChildConnection). ViewTurned agent input own own' more x v) (same_view z y (sym there ∙ e)) t)

    by : Turned agent input own xs own' ys more → ((x : ChildConnection) × (slice_get xs i ≡ Some x) × ViewTurned agent input own own' more x y) ⊎ (y.connection ≡ None)
    by (Turned.by_rest a same none) = inl (found (y, ap (λ (zs : List ChildConnection). slice_get zs i) (sym same) ∙ e))
    by (Turned.by_answer m now next got turn) =
        inl (found (each_of (λ n x. hear_one (is_terminating own.lsm) m agent n x) next xs i y
        (ap (λ (zs : List ChildConnection). slice_get zs i) (sym (turn.views ∙ (answer_views agent now m own xs next).0)) ∙ e)))
    by (Turned.by_request m now next legs got fine turn) = elim (path_known agent now m own xs legs next i y (ap (λ (zs : List ChildConnection). slice_get zs i) (sym turn.views) ∙ e)) [
      | inl w ↦ inl (found w)
      | inr n ↦ inr n
    ]
    by (Turned.by_opening m q now next id source dest legs got body same none turn) = elim (path_known agent now m _ [] legs next i y (ap (λ (zs : List ChildConnection). slice_get zs i) (sym turn.views) ∙ e)) [
      | inl w ↦ absurd (let z : None ≡ Some w.0 = w.1 in cc)
      | inr n ↦ inr n
    ]
