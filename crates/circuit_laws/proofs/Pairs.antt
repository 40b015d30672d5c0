-- The views that a parent has of a child are a pair with it, where journals are made by entries alone.
use Rattle.std.proofs.Common.{ℕ, ◌≡◌, ◌∙◌, ◌⊎◌, inl, inr, false, List, [], ◌∷◌, ◌++◌, append-nil, refl, sym, ap, subst}
use Rattle.std.proofs.lemmas.Bool.{cases_eq}
use Rattle.nsi_primitive.specs.declared.entry.Entry.{Entry}
use Rattle.nsi_primitive.specs.declared.entry.Input.{Input}
use Rattle.nsi_primitive.specs.declared.message.Message.{Message}
use Rattle.agent_state.specs.State.{AgentState, blank_agent}
use Rattle.child_connection.specs.Views.{ChildConnection}
use Rattle.child_connection.specs.Holding.{IsAlike}
use Rattle.nsi_agent.specs.Homes.{Home}
use Rattle.nsi_agent.specs.Steps.{after}
use Rattle.nsi_agent.specs.Told.{Told, told, behind, goes_on}
use Rattle.nsi_agent.specs.Said.{name_in}
use Rattle.nsi_agent.proofs.Telling.{telling_is_in_parts}
use Rattle.nsi_world.specs.Worlds.{Homes, IsAgent, IsSent, IsTo}
use Rattle.nsi_world.specs.Runs.{is_requester, MayCome}
use Rattle.agent_speech.proofs.Every.{blank_is_even}
use Rattle.run_growth.specs.WorldCuts.{all_synced, IsGrown, begins, grows}
use Rattle.run_growth.proofs.Sent.{Given}
use Rattle.circuit_link.specs.Serving.{child_of}
use Rattle.circuit_pairs.specs.Pairs.{IsPair}
use Rattle.circuit_pairs.specs.Minding.{no_child}
use Rattle.circuit_pairs.specs.Laws.{CanTellApart}
use Rattle.circuit_pairs.proofs.Serving.{serving_pair}
use Rattle.circuit_pairs.proofs.Starting.{start_pair}
use Rattle.circuit_laws.proofs.Roles.{Keeps, serves_as, even_from}
use Rattle.circuit_laws.proofs.Facts.{told_fair, told_once, told_fresh, request_said, answer_reaches}

pub told_none : (h : Home) → told h [] ≡ record { state = blank_agent; out = [] }
unfolding goes_on
told_none h = refl

one_alone : (h : Home) (s : AgentState) (e : Entry) → goes_on h s (e ∷ []) ≡ record { state = (after h s e).state; out = (after h s e).out }
unfolding goes_on
one_alone h s e = ap (λ (ms : List Message). record { state = (after h s e).state; out = ms }) (append-nil (after h s e).out)

pub told_more : (h : Home) (es : List Entry) (e : Entry) → told h (es ++ e ∷ []) ≡ record { state = (after h (told h es).state e).state; out = (told h es).out ++ (after h (told h es).state e).out }
told_more h es e = telling_is_in_parts h blank_agent es (e ∷ []) ∙ ap (behind (told h es).out) (one_alone h (told h es).state e)

module _ (homes : Homes) (given : Given homes) (a b : ℕ) (agent : IsAgent homes a) (other : IsAgent homes b) (apart : b ≡ a → ⊥) (asked : is_requester (homes b).role ≡ false)
    (I : Type 0) (dec : CanTellApart I) (views : AgentState → I → ChildConnection) (keeps : Keeps I (homes a).role (name_in (homes b).role) views) (alike : (i : I) → IsAlike (no_child (name_in (homes b).role)) (views blank_agent i)) where
  -- a parent and a child that have kept and said this
  abbrev pub Paired : Told → Told → Type 0
  Paired x y = IsPair I (name_in (homes a).role) (name_in (homes b).role) (views x.state) x.out (child_of y.state.base y.out)

  abbrev at_first : List Entry → Told
  at_first es = told (homes a) es

  abbrev at_second : List Entry → Told
  at_second es = told (homes b) es

  module _ (journal : ℕ → List Entry) (grown : IsGrown homes journal) (e : Entry) (pair : Paired (at_first (journal a)) (at_second (journal b))) where
    abbrev Came : ℕ → Type 0
    Came z = (m : Message) → e.input ≡ Input.Got m → IsSent homes (all_synced journal) m × IsTo homes z m

    -- an entry of the parent
    first_more : Came a → Paired (at_first (journal a ++ e ∷ [])) (at_second (journal b))
    first_more came =
        subst (λ (x : Told). Paired x (at_second (journal b))) (sym (told_more (homes a) (journal a) e))
        (keeps (child_of (at_second (journal b)).state.base (at_second (journal b)).out) (at_first (journal a)).out (at_first (journal a)).state e
        (even_from (homes a) (journal a) blank_agent (blank_is_even (homes a))) (told_fair (homes b) (journal b) (name_in (homes a).role)) (told_once (homes a) (journal a))
        (told_fresh homes given a b agent other journal grown)
        (λ m i r p. let c = came m i in answer_reaches homes given a b agent other journal grown m c.0 c.1 r p) pair)

    -- an entry of the child
    second_more : Came b → Paired (at_first (journal a)) (at_second (journal b ++ e ∷ []))
    second_more came =
        let s : AgentState = (at_second (journal b)).state in
        let out : List Message = (at_second (journal b)).out in
        subst (λ (y : Told). Paired (at_first (journal a)) y) (sym (told_more (homes b) (journal b) e))
        (serving_pair I dec (name_in (homes a).role) (name_in (homes b).role) (views (at_first (journal a)).state) (at_first (journal a)).out (child_of s.base out) e.input
        (after (homes b) s e).state.base.records (after (homes b) s e).state.base.seen (after (homes b) s e).out (told_fair (homes b) (journal b) (name_in (homes a).role))
        (told_once (homes a) (journal a)) (serves_as (homes b).role asked s e out) pair
        (λ m i q r. request_said homes given a b agent other journal grown m (came m i).0 q r))

  -- an entry of any agent
  module _ (more journal : ℕ → List Entry) (z : ℕ) (e : Entry) (grown : IsGrown homes journal) (comes : MayCome homes (all_synced journal) z e.input) (here : more z ≡ journal z ++ e ∷ [])
      (there : (y : ℕ) → (y ≡ z → ⊥) → more y ≡ journal y) (pair : Paired (at_first (journal a)) (at_second (journal b))) where
    came : (m : Message) → e.input ≡ Input.Got m → IsSent homes (all_synced journal) m × IsTo homes z m
    came m i = subst (λ (y : Input). MayCome homes (all_synced journal) z y) i comes

    came_to : (y : ℕ) → z ≡ y → (m : Message) → e.input ≡ Input.Got m → IsSent homes (all_synced journal) m × IsTo homes y m
    came_to y q m i = subst (λ (k : ℕ). IsSent homes (all_synced journal) m × IsTo homes k m) q (came m i)

    is_more : (y : ℕ) → z ≡ y → more y ≡ journal y ++ e ∷ []
    is_more y q = subst (λ (k : ℕ). more k ≡ journal k ++ e ∷ []) q here

    is_same : (y : ℕ) → (z ≡ y → ⊥) → more y ≡ journal y
    is_same y n = there y (λ q. n (sym q))

    as_more : (es fs : List Entry) → more a ≡ es → more b ≡ fs → Paired (at_first es) (at_second fs) → Paired (at_first (more a)) (at_second (more b))
    as_more es fs p q h = subst (λ (ds : List Entry). Paired (at_first ds) (at_second (more b))) (sym p) (subst (λ (ds : List Entry). Paired (at_first es) (at_second ds)) (sym q) h)

    one_more : (z ≡ a) ⊎ (z ≡ a → ⊥) → (z ≡ b) ⊎ (z ≡ b → ⊥) → Paired (at_first (more a)) (at_second (more b))
    one_more (inl p) q =
        as_more (journal a ++ e ∷ []) (journal b) (is_more a p) (is_same b (λ k. apart (sym k ∙ p))) (first_more journal grown e pair (came_to a p))
    one_more (inr n) (inl q) = as_more (journal a) (journal b ++ e ∷ []) (is_same a n) (is_more b q) (second_more journal grown e pair (came_to b q))
    one_more (inr n) (inr k) = as_more (journal a) (journal b) (is_same a n) (is_same b k) pair

  pub grown_pair : (journal : ℕ → List Entry) → IsGrown homes journal → Paired (at_first (journal a)) (at_second (journal b))
  grown_pair journal (begins _ none) =
      subst (λ (x : Told). Paired x (at_second (journal b))) (sym (ap at_first (none a) ∙ told_none (homes a)))
      (subst (λ (y : Told). Paired (record { state = blank_agent; out = [] }) y) (sym (ap at_second (none b) ∙ told_none (homes b)))
      (start_pair I (name_in (homes a).role) (name_in (homes b).role) (views blank_agent) alike))
  grown_pair more (grows journal _ z e answer x acts room entered here there) =
      one_more more journal z e x entered.comes here there (grown_pair journal x) (cases_eq z a) (cases_eq z b)
