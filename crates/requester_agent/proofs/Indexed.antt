-- What is true of the indexes of a list of views, when one is asked and when all hear a message.
use Rattle.std.proofs.Common.{◌≡◌, ◌↔◌, ◌⊎◌, Ok, inl, inr, ◌∙◌, refl, ℕ, zero, suc, Bool, true, false, List, [], ◌∷◌, ◌++◌, Option, None, Some, sym, ap, subst, map, length, slice_get, slice_set, Contains}
use Rattle.std.specs.Global.{Vec}
use Rattle.std.specs.Option.{option_map}
use Rattle.std.proofs.lemmas.Bool.{false≢true}
use Rattle.std.proofs.lemmas.Option.{none-some, slice_get-map}
use Rattle.nsi_primitive.specs.Messages.{named_connection}
use Rattle.nsi_primitive.specs.declared.message.Message.{Message}
use Rattle.child_connection.specs.Views.{ChildConnection, new_view}
use Rattle.agent_state.specs.declared.parent.View.{View}
use Rattle.nsi_primitive.specs.declared.ask.AskAnswer.{AskAnswer}
use Rattle.message_retry.specs.Retry.{Retry}
use Rattle.requester_agent.specs.Step.{IsAskedAt}
use Rattle.requester_agent.specs.Views.{Asked}
use Rattle.id_index.specs.declared.IdPlace.{IdPlace}
use Rattle.requester_agent.specs.Steps.{view_hears}
use Rattle.requester_agent.specs.Indexed.{listens, IsReachedBy, AreNamed, IsIndexed}
use Rattle.requester_agent.proofs.HeardAt.{set_here, set_other, same_or}
use Rattle.requester_agent.proofs.Listens.{left_alone, heard_listens, IsLearnt}

abbrev labels_of : List View → List (List ℕ)
labels_of vs = map (λ (v : View). v.label) vs

pub some_same : {X : Type 0} (x y : X) → Some x ≡ Some y → x ≡ y
some_same x y e = cc

-- names too many do no harm
pub more_names : (vs : List View) (labels : List (List ℕ)) (old new : List IdPlace) → ((e : IdPlace) → Contains old e → Contains new e) → IsIndexed vs labels old → IsIndexed vs labels new
more_names vs labels old new kept before = record { by_label = before.by_label; by_id = λ place id v at e. kept (record { id = id; place = place }) (before.by_id place id v at e) }

---- A view at a place is asked

labels_set : (vs : List View) (i : ℕ) (v w : View) → slice_get vs i ≡ Some v → w.label ≡ v.label → labels_of (slice_set vs i w) ≡ labels_of vs
labels_set [] i v w at same = refl
labels_set (x ∷ vs) zero v w at same = ap (λ l. l ∷ labels_of vs) (same ∙ ap (λ (z : View). z.label) (sym (some_same x v at)))
labels_set (x ∷ vs) (suc i) v w at same = ap (λ ls. x.label ∷ ls) (labels_set vs i v w at same)

pub asked_at_place : (vs : List View) (labels : List (List ℕ)) (ids : List IdPlace) (i c : ℕ) (v w : View) → slice_get vs i ≡ Some v → w.label ≡ v.label
    → ((id : ℕ) → listens id w.child ≡ true → (listens id v.child ≡ true) ⊎ (id ≡ c)) → Contains ids (record { id = c; place = i }) → IsIndexed vs labels ids → IsIndexed (slice_set vs i w) labels ids
asked_at_place vs labels ids i c v w at same more named before = record { by_label = before.by_label ∙ sym (labels_set vs i v w at same); by_id = by }
  where
    here : (id : ℕ) → listens id w.child ≡ true → Contains ids (record { id = id; place = i })
    here id e = elim (more id e) [
      | inl old ↦ before.by_id i id v at old
      | inr q ↦ subst (λ n. Contains ids (record { id = n; place = i })) (sym q) named
    ]

    by : AreNamed (slice_set vs i w) ids
    by place id u there e = elim (same_or place i) [
      | inl q ↦
          let is = some_same u w (sym there ∙ ap (slice_get (slice_set vs i w)) q ∙ set_here vs i v w at) in
          subst (λ n. Contains ids (record { id = id; place = n })) (sym q) (here id (subst (λ (z : View). listens id z.child ≡ true) is e))
      | inr ne ↦ before.by_id place id u (sym (set_other vs i place w ne) ∙ there) e
    ]

pub asked_place : (vs : List View) (labels : List (List ℕ)) (old new : List IdPlace) (i c : ℕ) (v w : View) (y : ChildConnection) → slice_get vs i ≡ Some v → w ≡ record v { child = y }
    → ((id : ℕ) → listens id y ≡ true → (listens id v.child ≡ true) ⊎ (id ≡ c)) → ((e : IdPlace) → Contains new e ↔ ((e ≡ record { id = c; place = i }) ⊎ Contains old e)) → IsIndexed vs labels old → IsIndexed (slice_set vs i w) labels new
asked_place vs labels old new i c v w y at is more added before =
    asked_at_place vs labels new i c v w at (ap (λ (z : View). z.label) is) (λ id e. more id (subst (λ (z : View). listens id z.child ≡ true) is e)) ((added (record { id = c; place = i })).1 (inl refl))
    (more_names vs labels old new (λ e has. (added e).1 (inr has)) before)

pub is_asked_at : (vs now : List View) (i : ℕ) (v w : View) (makes : ChildConnection → Asked) (before after : Retry) (r : AskAnswer × Vec Message) → vs ≡ now → slice_get vs i ≡ Some v → w ≡ record v { child = (makes v.child).child }
    → r.0 ≡ (makes v.child).answer → r.1.items ≡ (makes v.child).out → after ≡ record before { waiting = before.waiting ++ (makes v.child).out } → IsAskedAt i now (slice_set vs i w) before after (Ok r) makes
is_asked_at vs now i v w makes before after r same at is answer out waits =
    record {
      views = λ u there. ap (λ xs. slice_set xs i w) same ∙ ap (slice_set now i) (is ∙ ap (λ (z : View). record z { child = (makes z.child).child }) (it u there));
      answer = λ u there. answer ∙ ap (λ (z : View). (makes z.child).answer) (it u there);
      out = λ u there. out ∙ ap (λ (z : View). (makes z.child).out) (it u there);
      waits = λ u there. waits ∙ ap (λ (z : View). record before { waiting = before.waiting ++ (makes z.child).out }) (it u there);
      kept = tt;
      unsaid = tt;
    }
  where
    it : (u : View) → slice_get now i ≡ Some u → v ≡ u
    it u there = some_same v u (sym at ∙ (ap (λ xs. slice_get xs i) same ∙ there))

---- A view joins

push_label : (vs : List View) (w : View) → labels_of (vs ++ w ∷ []) ≡ labels_of vs ++ w.label ∷ []
push_label [] w = refl
push_label (x ∷ vs) w = ap (λ ls. x.label ∷ ls) (push_label vs w)

-- an element of a longer list is one of the first ones, or the last
pushed_cases : (vs : List View) (w u : View) (i : ℕ) → slice_get (vs ++ w ∷ []) i ≡ Some u → (slice_get vs i ≡ Some u) ⊎ ((i ≡ length vs) × (u ≡ w))
pushed_cases [] w u zero e = inr (refl, sym (some_same w u e))
pushed_cases [] w u (suc i) e = absurd (none-some u e)
pushed_cases (x ∷ vs) w u zero e = inl e
pushed_cases (x ∷ vs) w u (suc i) e = elim (pushed_cases vs w u i e) [
  | inl h ↦ inl h
  | inr h ↦ inr (ap suc h.0, h.1)
]

pub joined : (vs : List View) (labels : List (List ℕ)) (ids : List IdPlace) (c : ℕ) (w : View) → ((id : ℕ) → listens id w.child ≡ true → id ≡ c) → Contains ids (record { id = c; place = length vs })
    → IsIndexed vs labels ids → IsIndexed (vs ++ w ∷ []) (labels ++ w.label ∷ []) ids
joined vs labels ids c w only named before = record { by_label = ap (λ ls. ls ++ w.label ∷ []) before.by_label ∙ sym (push_label vs w); by_id = by }
  where
    by : AreNamed (vs ++ w ∷ []) ids
    by place id u there e = elim (pushed_cases vs w u place there) [
      | inl h ↦ before.by_id place id u h e
      | inr h ↦
          let is : id ≡ c = only id (subst (λ (z : View). listens id z.child ≡ true) h.1 e) in
          subst (λ n. Contains ids (record { id = id; place = n })) (sym h.0) (subst (λ n. Contains ids (record { id = n; place = length vs })) (sym is) named)
    ]

-- a view that was asked nothing before listens to the correlation alone
pub new_joined : (vs : List View) (labels : List (List ℕ)) (old new : List IdPlace) (c place : ℕ) (v w : View) (y : ChildConnection) → place ≡ length vs → w ≡ record v { child = y } → v.child ≡ new_view v.child.child v.child.source v.child.dest
    → ((id : ℕ) → listens id y ≡ true → (listens id v.child ≡ true) ⊎ (id ≡ c)) → ((e : IdPlace) → Contains new e ↔ ((e ≡ record { id = c; place = place }) ⊎ Contains old e)) → IsIndexed vs labels old
    → IsIndexed (vs ++ w ∷ []) (labels ++ v.label ∷ []) new
new_joined vs labels old new c place v w y last is unasked more added before =
    subst (λ l. IsIndexed (vs ++ w ∷ []) (labels ++ l ∷ []) new) (ap (λ (z : View). z.label) is)
    (joined vs labels new c w only (subst (λ n. Contains new (record { id = c; place = n })) last ((added (record { id = c; place = place })).1 (inl refl))) (more_names vs labels old new (λ e has. (added e).1 (inr has)) before))
  where
    only : (id : ℕ) → listens id w.child ≡ true → id ≡ c
    only id e = elim (more id (subst (λ (z : View). listens id z.child ≡ true) is e)) [
      | inl h ↦ absurd (false≢true (subst (λ x. listens id x ≡ true) unasked h))
      | inr q ↦ q
    ]

---- All hear a message

labels_heard : (m : Message) (vs : List View) → labels_of (map (view_hears m) vs) ≡ labels_of vs
labels_heard m [] = refl
labels_heard m (v ∷ vs) = ap (λ ls. v.label ∷ ls) (labels_heard m vs)

silent : (b : Bool) → (b ≡ true → ⊥) → b ≡ false
silent true f = absurd (f refl)
silent false f = refl

-- a view at no place that the index names for the ids that the message reaches is left alone
pub unreached : (m : Message) (vs : List View) (labels : List (List ℕ)) (ids : List IdPlace) (places : List ℕ) → IsIndexed vs labels ids
    → ((place id : ℕ) → IsReachedBy m id → Contains ids (record { id = id; place = place }) → Contains places place)
    → (place : ℕ) (v : View) → slice_get vs place ≡ Some v → ¬ Contains places place → view_hears m v ≡ v
unreached m vs labels ids places index told place v at lacks =
    ap (λ x. record v { child = x }) (left_alone m v.child (deaf m.header.correlation (inl refl)) (λ id e. deaf id (inr e)))
  where
    deaf : (id : ℕ) → IsReachedBy m id → listens id v.child ≡ false
    deaf id reached = silent (listens id v.child) (λ e. lacks (told place id reached (index.by_id place id v at e)))

heard_from : (m : Message) (vs : List View) (place : ℕ) (w : View) → slice_get (map (view_hears m) vs) place ≡ Some w → (v : View) × (slice_get vs place ≡ Some v) × (w ≡ view_hears m v)
heard_from m vs place w e = by (slice_get vs place) refl
  where
    by : (o : Option View) → slice_get vs place ≡ o → (v : View) × (slice_get vs place ≡ Some v) × (w ≡ view_hears m v)
    by None q = absurd (none-some w (sym (ap (option_map (view_hears m)) q) ∙ (sym (slice_get-map (view_hears m) vs place) ∙ e)))
    by (Some v) q = (v, q, some_same w (view_hears m v) (sym e ∙ (slice_get-map (view_hears m) vs place ∙ ap (option_map (view_hears m)) q)))

pub all_heard : (m : Message) (vs : List View) (labels : List (List ℕ)) (old new : List IdPlace) (places : List ℕ)
    → ((place id : ℕ) → IsReachedBy m id → Contains old (record { id = id; place = place }) → Contains places place)
    → ((e : IdPlace) → Contains old e → Contains new e) → ((place id : ℕ) → named_connection m.body ≡ Some id → Contains places place → Contains new (record { id = id; place = place }))
    → IsIndexed vs labels old → IsIndexed (map (view_hears m) vs) labels new
all_heard m vs labels old new places told kept learnt index = record { by_label = index.by_label ∙ sym (labels_heard m vs); by_id = by }
  where
    of_view : (place id : ℕ) (v : View) → slice_get vs place ≡ Some v → (listens id v.child ≡ true) ⊎ IsLearnt m.body m.header.correlation id v.child → Contains new (record { id = id; place = place })
    of_view place id v at (inl e) = kept (record { id = id; place = place }) (index.by_id place id v at e)
    of_view place id v at (inr h) = learnt place id h.0 (told place m.header.correlation (inl refl) (index.by_id place m.header.correlation v at h.1))

    by : AreNamed (map (view_hears m) vs) new
    by place id w there e =
        let from = heard_from m vs place w there in
        of_view place id from.0 from.1 (heard_listens m id from.0.child (subst (λ (z : View). listens id z.child ≡ true) from.2 e))
