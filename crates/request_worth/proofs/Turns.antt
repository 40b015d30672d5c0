-- What a connection asks of its children is worth no more than the legs of their views.
use Rattle.std.proofs.Common.{ℕ, ◌+◌, ◌≤◌, ◌≡◌, ◌∙◌, ◌&&◌, Bool, true, false, List, [], ◌∷◌, ◌++◌, Option, Some, None, is_none, refl, sym, ap, subst, arith, bytes_eq}
use Rattle.std.specs.List.{All, sum_by, list_any}
use Rattle.std.specs.Option.{option_map}
use Rattle.std.proofs.lemmas.List.Elements.{All-head, All-tail}
use Rattle.std.proofs.lemmas.List.Sums.{sum_by-cons}
use Rattle.std.proofs.lemmas.Option.{none-some}
use Rattle.nsi_primitive.specs.Ids.{id_of}
use Rattle.nsi_primitive.specs.Messages.{kind_of}
use Rattle.nsi_primitive.specs.declared.kind.Kind.{Kind}
use Rattle.nsi_primitive.specs.declared.message.Body.{Body}
use Rattle.nsi_primitive.specs.declared.message.Criteria.{Criteria}
use Rattle.nsi_primitive.specs.declared.message.Message.{Message}
use Rattle.nsi_primitive.specs.declared.message.Service.{Service}
use Rattle.nsi_primitive.specs.declared.plane.Plane.{Plane}
use Rattle.dataplane_state.specs.Plane.{announces}
use Rattle.connection_record.specs.declared.record.Record.{Record}
use Rattle.connection_record.specs.Applied.{is_terminating}
use Rattle.connection_record.specs.Later.{IsLater}
use Rattle.connection_record.specs.Moves.{is_live}
use Rattle.connection_record.specs.Replies.{addressed}
use Rattle.connection_record.specs.Speaking.{tally, asks_for}
use Rattle.connection_record.proofs.Growing.{later_trans}
use Rattle.child_connection.specs.declared.state.Sent.{Sent}
use Rattle.child_connection.specs.Asks.{asks, request_about, reserve_for, to_child}
use Rattle.child_connection.specs.Hearing.{hears, hear, hear_from}
use Rattle.child_connection.specs.Views.{ChildConnection, open_request}
use Rattle.child_connection.proofs.Places.{asks_place, asks_known, hear_place}
use Rattle.agent_state.specs.declared.parent.Leg.{Leg}
use Rattle.aggregator_agent.specs.declared.agent.Agent.{Agent}
use Rattle.aggregator_agent.specs.Asking.{Turn, Asked, Asking, begin, replies_by, asks_by, asked_view, ask_one, each, if_free, if_apart, request_if, service_for, reserve_if, may_abort, passed_on, pass_one, pass_each}
use Rattle.aggregator_agent.specs.Settling.{settle}
use Rattle.aggregator_agent.specs.Turns.{joined_of, tell_joined, pass_on, takes, turn_by_request, request_turn, loses, breaks, late_terminate, hear_one, hear_each, hold_end_by, hold_ends, force_ends, heard_by, turn_by_answer, answer_turn, spoken}
use Rattle.agent_speech.proofs.Asking.{Any, Unless}
use Rattle.agent_speech.proofs.Turning.{IsTurning, request_turning, answer_turning}
use Rattle.request_worth.specs.Worth.{worth_of, leg_in, IsFee, CostsItsLeg, unknown_worth, owed_end}
use Rattle.request_worth.proofs.Fees.{worth_none, worth_append, worth_few, addressed_worth}
use Rattle.request_worth.proofs.Lasting.{Lasts, lasts_then, ends_it, takes_later, takes_last, settles_last, reserves_last, forced_last, plane_lasts}
use Rattle.request_worth.proofs.Views.{same_leg, about_names, named_costs, reserve_costs}

---- A view

asked_leg : (o : Option Body) (k : Kind) (c : ℕ) (x : ChildConnection) → leg_in (asked_view o k c x) ≡ leg_in x
unfolding asked_view
asked_leg None k c x = refl
asked_leg (Some body) k c x = same_leg x (asks k c x) (asks_place k c x)

asked_known : (o : Option Body) (k : Kind) (c : ℕ) (x : ChildConnection) → (asked_view o k c x).connection ≡ x.connection
unfolding asked_view
asked_known None k c x = refl
asked_known (Some body) k c x = (asks_known k c x).0

heard_leg : (is_ending : Bool) (m : Message) (agent : Agent) (n : ℕ) (x : ChildConnection) → leg_in (hear_one is_ending m agent n x).child ≡ leg_in x
heard_leg is_ending m agent n x =
    asked_leg (late_terminate is_ending m x) Kind.Terminate (id_of agent.number n) (hear m x).view ∙ same_leg x (hear m x).view (hear_place m x)

-- a message makes no connection unknown
hears_known : (body : Body) (c id : ℕ) (x : ChildConnection) → x.connection ≡ Some id → is_none (hears body c x).view.connection ≡ false
unfolding hears
hears_known body c id x e = grind (arith, e)

hear_known : (m : Message) (x : ChildConnection) (id : ℕ) → x.connection ≡ Some id → is_none (hear m x).view.connection ≡ false
hear_known m x id e = by (bytes_eq m.header.provider x.child)
  where
    by : (b : Bool) → is_none (hear_from b m x).view.connection ≡ false
    by true = hears_known m.body m.header.correlation id x e
    by false = ap is_none e

---- What a body is

free_is : (o : Option Sent) (p : Option Body) (b : Body) → if_free o p ≡ Some b → p ≡ Some b
free_is None p b e = e
free_is (Some q) p b e = absurd (none-some b e)

apart_is : (same : Bool) (p : Option Body) (b : Body) → if_apart same p ≡ Some b → p ≡ Some b
apart_is true p b e = absurd (none-some b e)
apart_is false p b e = e

served : (o : Option ℕ) (service : Service) → service_for o service ≡ None → (id : ℕ) × (o ≡ Some id)
served None service e = absurd (cc)
served (Some id) service e = (id, refl)

same_body : (a b : Body) → Some a ≡ Some b → a ≡ b
same_body a b e = cc

module _ (price : Leg → ℕ) (fee : Message → ℕ) where
  abbrev pub leg_price : ChildConnection → ℕ
  leg_price x = price (leg_in x)

  -- what the legs of views are worth
  abbrev pub views_price : List ChildConnection → ℕ
  views_price xs = sum_by leg_price xs

  abbrev unknown : ChildConnection → ℕ
  unknown x = unknown_worth price x

  unknown_few : (x : ChildConnection) → unknown x ≤ price (leg_in x)
  unknown_few x = by (is_none x.connection) refl
    where
      by : (b : Bool) → is_none x.connection ≡ b → unknown x ≤ price (leg_in x)
      by true e = let u : unknown x ≡ price (leg_in x) = rw e refl in omega (arith, u)
      by false e = let u : unknown x ≡ 0 = rw e refl in omega (arith, u)

  unknown_none : (x : ChildConnection) → is_none x.connection ≡ false → unknown x ≡ 0
  unknown_none x e = rw e refl

  unknown_all : (x : ChildConnection) → is_none x.connection ≡ true → unknown x ≡ price (leg_in x)
  unknown_all x e = rw e refl

  ---- What is owed

  pub owed_few : (r : Record) (xs : List ChildConnection) → owed_end price r xs ≤ sum_by unknown xs
  owed_few r xs = by (is_terminating r.lsm) refl
    where
      by : (b : Bool) → is_terminating r.lsm ≡ b → owed_end price r xs ≤ sum_by unknown xs
      by true e = let u : owed_end price r xs ≡ sum_by unknown xs = rw e refl in omega (arith, u)
      by false e = let u : owed_end price r xs ≡ 0 = rw e refl in omega (arith, u)

  pub owed_none : (r : Record) (xs : List ChildConnection) → is_terminating r.lsm ≡ false → owed_end price r xs ≡ 0
  owed_none r xs e = rw e refl

  pub owed_all : (r : Record) (xs : List ChildConnection) → is_terminating r.lsm ≡ true → owed_end price r xs ≡ sum_by unknown xs
  owed_all r xs e = rw e refl

  ---- A view that is asked

  one_costs : (o : Option Body) (k : Kind) (agent : Agent) (next : ℕ) (x : ChildConnection) (n : ℕ) → ((body : Body) → o ≡ Some body → fee (to_child agent.name (id_of agent.number next) x body) ≤ n) →
      worth_of fee (ask_one o k agent next x).asked ≤ n
  one_costs None k agent next x n h = omega (arith, worth_none fee)
  one_costs (Some body) k agent next x n h = omega (arith, worth_few fee (to_child agent.name (id_of agent.number next) x body), h body refl)

  module _ (is : IsFee price fee) (name : List ℕ) where
    -- what is asked about a connection
    request_costs : (may : Bool) (k : Kind) (c : ℕ) (x : ChildConnection) (b : Body) → CostsItsLeg price fee name x → request_if may k x ≡ Some b → fee (to_child name c x b) ≤ price (leg_in x)
    unfolding request_if
    request_costs false k c x b costs e = absurd (none-some b e)
    request_costs true k c x b costs e = by x.connection refl (free_is (open_request k x) (option_map (λ id. request_about k id) x.connection) b e)
      where
        by : (o : Option ℕ) → x.connection ≡ o → option_map (λ id. request_about k id) o ≡ Some b → fee (to_child name c x b) ≤ price (leg_in x)
        by None known f = absurd (none-some b f)
        by (Some id) known f =
            subst (λ z. fee (to_child name c x z) ≤ price (leg_in x)) (same_body (request_about k id) b f) (named_costs price fee is name c x costs id (request_about k id) known (about_names k id))

    reserved_costs : (o : Option Criteria) (service : Service) (c : ℕ) (x : ChildConnection) (b : Body) → CostsItsLeg price fee name x → reserve_if o service x ≡ Some b → fee (to_child name c x b) ≤ price (leg_in x)
    unfolding reserve_if
    reserved_costs None service c x b costs e = absurd (none-some b e)
    reserved_costs (Some asked) service c x b costs e =
        let body : Body = Body.Reserve (reserve_for (service_for x.connection service) (Some asked.version) asked.interval.start asked.interval.end asked.capacity x) in
        let same : body ≡ b = same_body body b (apart_is (bytes_eq x.source x.dest) (Some body) b (free_is (open_request Kind.Reserve x) (if_apart (bytes_eq x.source x.dest) (Some body)) b e)) in
        subst (λ z. fee (to_child name c x z) ≤ price (leg_in x)) same
        (reserve_costs price fee is name c x costs (service_for x.connection service) (Some asked.version) asked.interval.start asked.interval.end asked.capacity (served x.connection service))

    passed_costs : (body : Body) (own : Record) (c : ℕ) (x : ChildConnection) (b : Body) → CostsItsLeg price fee name x → passed_on body own x ≡ Some b → fee (to_child name c x b) ≤ price (leg_in x)
    unfolding passed_on
    passed_costs (Body.Reserve q) own c x b costs e = reserved_costs own.pending own.service c x b costs e
    passed_costs (Body.ReserveCommit id) own c x b costs e = request_costs true Kind.ReserveCommit c x b costs e
    passed_costs (Body.ReserveAbort id) own c x b costs e = request_costs (may_abort x.phase) Kind.ReserveAbort c x b costs e
    passed_costs (Body.Provision id) own c x b costs e = request_costs true Kind.Provision c x b costs e
    passed_costs (Body.Release id) own c x b costs e = request_costs true Kind.Release c x b costs e
    passed_costs (Body.Terminate id) own c x b costs e = request_costs true Kind.Terminate c x b costs e
    passed_costs _ own c x b costs e = absurd (none-some b e)

    -- an end is asked of a child that is known
    unknown_unasked : (x : ChildConnection) (b : Body) → x.connection ≡ None → request_if true Kind.Terminate x ≡ Some b → ⊥
    unfolding request_if
    unknown_unasked x b known e =
        none-some b (sym (ap (λ (o : Option ℕ). option_map (λ id. request_about Kind.Terminate id) o) known) ∙ free_is (open_request Kind.Terminate x) (option_map (λ id. request_about Kind.Terminate id) x.connection) b e)

  module _ (is : IsFee price fee) (agent : Agent) where
    abbrev pub Costs : ChildConnection → Type 0
    Costs x = CostsItsLeg price fee agent.name x

    -- a child that is asked to end, or isn't known yet
    ending_costs : (next : ℕ) (x : ChildConnection) → Costs x →
        let a : Asked = ask_one (request_if true Kind.Terminate x) Kind.Terminate agent next x in worth_of fee a.asked + unknown a.child ≤ price (leg_in x)
    ending_costs next x costs = by x.connection refl
      where
        o : Option Body
        o = request_if true Kind.Terminate x

        c : ℕ
        c = id_of agent.number next

        a : Asked
        a = ask_one o Kind.Terminate agent next x

        by : (known : Option ℕ) → x.connection ≡ known → worth_of fee a.asked + unknown a.child ≤ price (leg_in x)
        by None known =
            omega (
              arith,
              one_costs o Kind.Terminate agent next x 0 (λ b e. absurd (unknown_unasked is agent.name x b known e)),
              unknown_few a.child,
              ap price (asked_leg o Kind.Terminate c x),
            )
        by (Some id) known =
            omega (
              arith,
              one_costs o Kind.Terminate agent next x (price (leg_in x)) (λ b e. request_costs is agent.name true Kind.Terminate c x b costs e),
              unknown_none a.child (ap is_none (asked_known o Kind.Terminate c x ∙ known)),
            )

    ---- A request

    pass_costs : (m : Message) (own : Record) (next : ℕ) (xs : List ChildConnection) → All Costs xs → worth_of fee (pass_each m agent own next xs).asked ≤ views_price xs
    unfolding each
    pass_costs m own next [] all = omega (arith, worth_none fee)
    pass_costs m own next (x ∷ xs) all =
        let a : Asked = pass_one m agent own next x in
        let rest : Asking = pass_each m agent own a.next xs in
        omega (
          arith,
          worth_append fee a.asked rest.asked,
          one_costs (passed_on m.body own x) (kind_of m.body) agent next x (price (leg_in x)) (λ b e. passed_costs is agent.name m.body own (id_of agent.number next) x b (All-head Costs x xs all) e),
          pass_costs m own a.next xs (All-tail Costs x xs all),
          sum_by-cons leg_price x xs,
        )

    end_one : (body : Body) (own : Record) (next : ℕ) (x : ChildConnection) → ends_it body ≡ true → Costs x →
        let a : Asked = ask_one (passed_on body own x) (kind_of body) agent next x in worth_of fee a.asked + unknown a.child ≤ price (leg_in x)
    unfolding passed_on
    end_one (Body.Terminate id) own next x e costs = ending_costs next x costs
    end_one _ own next x e costs = absurd (cc)

    pass_ends : (m : Message) (own : Record) (next : ℕ) (xs : List ChildConnection) → ends_it m.body ≡ true → All Costs xs →
        let a : Asking = pass_each m agent own next xs in worth_of fee a.asked + sum_by unknown a.children ≤ views_price xs
    unfolding each
    pass_ends m own next [] e all = omega (arith, worth_none fee)
    pass_ends m own next (x ∷ xs) e all =
        let a : Asked = pass_one m agent own next x in
        let rest : Asking = pass_each m agent own a.next xs in
        omega (
          arith,
          worth_append fee a.asked rest.asked,
          end_one m.body own next x e (All-head Costs x xs all),
          pass_ends m own a.next xs e (All-tail Costs x xs all),
          sum_by-cons leg_price x xs,
          sum_by-cons unknown a.child rest.children,
        )

    ---- A message of a child

    -- an ask leaves what is asked about a connection
    asked_costs : (o : Option Body) (c : ℕ) (x : ChildConnection) → Costs (asked_view o Kind.Terminate c x) → Costs x
    unfolding asked_view asks
    asked_costs None c x h = h
    asked_costs (Some body) c x h = h

    hear_owes : (m : Message) (next : ℕ) (x : ChildConnection) → Costs (hear_one true m agent next x).child → let a : Asked = hear_one true m agent next x in worth_of fee a.asked + unknown a.child ≤ unknown x
    unfolding request_if asked_view
    hear_owes m next x costs = by x.connection refl
      where
        y : ChildConnection
        y = (hear m x).view

        c : ℕ
        c = id_of agent.number next

        Owes : Bool → Type 0
        Owes b = let a : Asked = ask_one (request_if (true && b) Kind.Terminate y) Kind.Terminate agent next y in worth_of fee a.asked + unknown a.child ≤ unknown x

        by : (known : Option ℕ) → x.connection ≡ known → Owes (is_none x.connection)
        by None known =
            let its : Costs y = asked_costs (late_terminate true m x) c y costs in
            subst Owes (sym (ap is_none known))
            (omega (arith, ending_costs next y its, unknown_all x (ap is_none known), ap price (same_leg x y (hear_place m x))))
        by (Some id) known = subst Owes (sym (ap is_none known)) (omega (arith, worth_none fee, unknown_none y (hear_known m x id known)))

    each_owes : (m : Message) (next : ℕ) (xs : List ChildConnection) → All Costs (hear_each true m agent next xs).children →
        let a : Asking = hear_each true m agent next xs in worth_of fee a.asked + sum_by unknown a.children ≤ sum_by unknown xs
    unfolding each
    each_owes m next [] all = omega (arith, worth_none fee)
    each_owes m next (x ∷ xs) all =
        let a : Asked = hear_one true m agent next x in
        let rest : Asking = hear_each true m agent a.next xs in
        omega (
          arith,
          worth_append fee a.asked rest.asked,
          hear_owes m next x (All-head Costs a.child rest.children all),
          each_owes m a.next xs (All-tail Costs a.child rest.children all),
          sum_by-cons unknown x xs,
          sum_by-cons unknown a.child rest.children,
        )

    hear_quiet : (m : Message) (next : ℕ) (x : ChildConnection) → worth_of fee (hear_one false m agent next x).asked ≡ 0
    unfolding request_if
    hear_quiet m next x = worth_none fee

    each_quiet : (m : Message) (next : ℕ) (xs : List ChildConnection) → worth_of fee (hear_each false m agent next xs).asked ≡ 0
    unfolding each
    each_quiet m next [] = worth_none fee
    each_quiet m next (x ∷ xs) =
        let a : Asked = hear_one false m agent next x in
        let rest : Asking = hear_each false m agent a.next xs in omega (arith, worth_append fee a.asked rest.asked, hear_quiet m next x, each_quiet m a.next xs)

  ---- Legs stay

  each_price : (does : ℕ → ChildConnection → Asked) → ((n : ℕ) (x : ChildConnection) → leg_in (does n x).child ≡ leg_in x) → (next : ℕ) (xs : List ChildConnection) → views_price (each does next xs).children ≡ views_price xs
  unfolding each
  each_price does same next [] = refl
  each_price does same next (x ∷ xs) =
      let a : Asked = does next x in
      let rest : Asking = each does a.next xs in omega (arith, sum_by-cons leg_price a.child rest.children, sum_by-cons leg_price x xs, ap price (same next x), each_price does same a.next xs)

---- A turn's own record

settle_lasts : (agent : Agent) (now : ℕ) (t : Turn) → Lasts t.own (settle agent now t).own
unfolding settle
settle_lasts agent now t = settles_last t.own.lsm agent now t.children t.own

tell_lasts : (p : Plane) (agent : Agent) (now : ℕ) (t : Turn) → Lasts t.own (tell_joined p agent now t).own
unfolding tell_joined
tell_lasts p agent now t = plane_lasts (announces p (joined_of t.children)) (joined_of t.children) (id_of agent.number t.next) now t.own

hold_lasts : (lost : Bool) (m : Message) (now : ℕ) (t : Turn) → Lasts t.own (hold_ends lost m now t).own
unfolding hold_ends
hold_lasts lost m now t = reserves_last (hold_end_by (lost && is_live t.own.lsm) m.body) now t.own

force_lasts : (broken : Bool) (m : Message) (agent : Agent) (now : ℕ) (t : Turn) → Lasts t.own (force_ends broken m agent now t).own
unfolding force_ends
force_lasts broken m agent now t = forced_last broken (id_of agent.number t.next) m.body now t.own

taken_lasts : (agent : Agent) (now : ℕ) (m : Message) (own : Record) (xs : List ChildConnection) (next : ℕ) → Lasts (takes m now own).rec (request_turn agent now m own xs next).own
unfolding request_turn turn_by_request pass_on
taken_lasts agent now m own xs next =
    let t : Turn = asks_by (replies_by (begin own xs next) (takes m now own)) (pass_each m agent (takes m now own).rec next xs) in
    let u : Turn = settle agent now t in
    lasts_then t.own u.own (tell_joined (joined_of xs) agent now u).own (settle_lasts agent now t) (tell_lasts (joined_of xs) agent now u)

answer_lasts : (agent : Agent) (now : ℕ) (m : Message) (own : Record) (xs : List ChildConnection) (next : ℕ) → Lasts own (answer_turn agent now m own xs next).own
unfolding answer_turn turn_by_answer heard_by
answer_lasts agent now m own xs next =
    let t : Turn = asks_by (begin own xs next) (hear_each (is_terminating own.lsm) m agent next xs) in
    let u : Turn = hold_ends (list_any (loses m) xs) m now t in
    let v : Turn = force_ends (list_any (breaks m) xs) m agent now u in
    let w : Turn = settle agent now v in
    lasts_then own w.own (tell_joined (joined_of xs) agent now w).own
    (lasts_then own v.own w.own (lasts_then own u.own v.own (hold_lasts (list_any (loses m) xs) m now t) (force_lasts (list_any (breaks m) xs) m agent now u)) (settle_lasts agent now v))
    (tell_lasts (joined_of xs) agent now w)

---- A turn

module _ (price : Leg → ℕ) (fee : Message → ℕ) (is : IsFee price fee) (agent : Agent) where
  -- a turn by a request that is taken by a connection that doesn't end
  pub record IsPassedOn (own : Record) (xs : List ChildConnection) (t : Turn) : Type 0 where
    pub later : IsLater own t.own
    pub legs : views_price price fee t.children ≡ views_price price fee xs
    pub paid : worth_of fee (spoken agent t) + owed_end price t.own t.children ≤ views_price price fee xs

  -- what a turn says is worth what its children are asked
  spoken_worth : (t : Turn) → tally asks_for t.replies + tally asks_for t.notices ≡ 0 → worth_of fee (spoken agent t) ≡ worth_of fee t.asked
  unfolding spoken
  spoken_worth t e =
      let ms : List Message = addressed agent.name t.own.owner t.replies in
      let notes : List Message = addressed agent.name t.own.owner t.notices in
      omega (
        arith,
        worth_append fee ms (t.asked ++ notes),
        worth_append fee t.asked notes,
        addressed_worth fee agent.name t.own.owner t.replies (omega (arith, e)),
        addressed_worth fee agent.name t.own.owner t.notices (omega (arith, e)),
      )

  module _ (now : ℕ) (m : Message) (own : Record) (xs : List ChildConnection) (next : ℕ) where
    abbrev t : Turn
    t = request_turn agent now m own xs next

    abbrev passed : Asking
    passed = pass_each m agent (takes m now own).rec next xs

    request_asks : t.asked ≡ passed.asked
    unfolding request_turn turn_by_request settle pass_on tell_joined
    request_asks = refl

    request_children : t.children ≡ passed.children
    unfolding request_turn turn_by_request settle pass_on tell_joined
    request_children = refl

    request_paid : is_terminating own.lsm ≡ false → All (Costs price fee is agent) xs → worth_of fee t.asked + owed_end price t.own t.children ≤ views_price price fee xs
    request_paid live all = by (ends_it m.body) refl
      where
        by : (b : Bool) → ends_it m.body ≡ b → worth_of fee t.asked + owed_end price t.own t.children ≤ views_price price fee xs
        by true e =
            omega (
              arith,
              ap (worth_of fee) request_asks,
              ap (sum_by (unknown_worth price)) request_children,
              owed_few price fee t.own t.children,
              pass_ends price fee is agent m (takes m now own).rec next xs e all,
            )
        by false e =
            let lives : is_terminating t.own.lsm ≡ false = (taken_lasts agent now m own xs next).lives ((takes_last m now own e).lives live) in
            omega (
              arith,
              ap (worth_of fee) request_asks,
              owed_none price fee t.own t.children lives,
              pass_costs price fee is agent m (takes m now own).rec next xs all,
            )

    pub request_passed : is_terminating own.lsm ≡ false → All (Costs price fee is agent) xs → IsPassedOn own xs t
    request_passed live all =
        let u : IsTurning Any agent (Some m.header.correlation) own xs next t = request_turning agent now m own xs next in
        record {
          later = later_trans own (takes m now own).rec t.own (takes_later m now own) (taken_lasts agent now m own xs next).later;
          legs =
              ap (views_price price fee) request_children
              ∙ each_price price fee (λ n x. pass_one m agent (takes m now own).rec n x) (λ n x. asked_leg (passed_on m.body (takes m now own).rec x) (kind_of m.body) (id_of agent.number n) x) next xs;
          paid = omega (arith, spoken_worth t u.asks, request_paid live all);
        }

  -- a turn by a message of a child
  pub record IsAnswered (own : Record) (xs : List ChildConnection) (t : Turn) : Type 0 where
    pub later : IsLater own t.own
    pub legs : views_price price fee t.children ≡ views_price price fee xs
    pub paid : All (Costs price fee is agent) t.children → worth_of fee (spoken agent t) + owed_end price t.own t.children ≤ owed_end price own xs

  module _ (now : ℕ) (m : Message) (own : Record) (xs : List ChildConnection) (next : ℕ) where
    abbrev w : Turn
    w = answer_turn agent now m own xs next

    abbrev heard : Asking
    heard = hear_each (is_terminating own.lsm) m agent next xs

    answer_asks : w.asked ≡ heard.asked
    unfolding answer_turn turn_by_answer settle force_ends hold_ends heard_by tell_joined
    answer_asks = refl

    answer_children : w.children ≡ heard.children
    unfolding answer_turn turn_by_answer settle force_ends hold_ends heard_by tell_joined
    answer_children = refl

    answer_paid : All (Costs price fee is agent) w.children → worth_of fee w.asked + owed_end price w.own w.children ≤ owed_end price own xs
    answer_paid all = by (is_terminating own.lsm) refl
      where
        by : (b : Bool) → is_terminating own.lsm ≡ b → worth_of fee w.asked + owed_end price w.own w.children ≤ owed_end price own xs
        by true e =
            let asked : w.asked ≡ (hear_each true m agent next xs).asked = answer_asks ∙ ap (λ b. (hear_each b m agent next xs).asked) e in
            let children : w.children ≡ (hear_each true m agent next xs).children = answer_children ∙ ap (λ b. (hear_each b m agent next xs).children) e in
            omega (
              arith,
              ap (worth_of fee) asked,
              ap (sum_by (unknown_worth price)) children,
              owed_few price fee w.own w.children,
              owed_all price fee own xs e,
              each_owes price fee is agent m next xs (subst (λ ys. All (Costs price fee is agent) ys) children all),
            )
        by false e =
            let asked : w.asked ≡ (hear_each false m agent next xs).asked = answer_asks ∙ ap (λ b. (hear_each b m agent next xs).asked) e in
            omega (
              arith,
              ap (worth_of fee) asked,
              each_quiet price fee is agent m next xs,
              owed_none price fee w.own w.children ((answer_lasts agent now m own xs next).lives e),
            )

    pub answer_answered : IsAnswered own xs w
    answer_answered =
        let u : IsTurning (Unless m) agent None own xs next w = answer_turning agent now m own xs next in
        record {
          later = (answer_lasts agent now m own xs next).later;
          legs =
              ap (views_price price fee) answer_children
              ∙ each_price price fee (λ n x. hear_one (is_terminating own.lsm) m agent n x) (λ n x. heard_leg (is_terminating own.lsm) m agent n x) next xs;
          paid = λ all. omega (arith, spoken_worth w u.asks, answer_paid all);
        }
