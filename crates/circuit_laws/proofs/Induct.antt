-- A fact of what an agent has kept and said, or two agents, by one entry after another.
use Rattle.std.proofs.Common.{ℕ, ◌≡◌, ◌∙◌, ◌⊎◌, inl, inr, List, [], ◌∷◌, ◌++◌, append-nil, refl, sym, ap, subst}
use Rattle.std.proofs.lemmas.Bool.{cases_eq}
use Rattle.nsi_primitive.specs.declared.entry.Entry.{Entry}
use Rattle.nsi_primitive.specs.declared.entry.Input.{Input}
use Rattle.nsi_primitive.specs.declared.message.Message.{Message}
use Rattle.agent_state.specs.State.{blank_agent}
use Rattle.nsi_agent.specs.Homes.{Home}
use Rattle.nsi_agent.specs.Steps.{after}
use Rattle.nsi_agent.specs.Told.{Told, told}
use Rattle.nsi_world.specs.Runs.{MayCome}
use Rattle.nsi_world.specs.Worlds.{Homes, IsSent, IsTo}
use Rattle.run_growth.specs.WorldCuts.{all_synced, IsGrown, begins, grows}
use Rattle.circuit_laws.proofs.Pairs.{told_none, told_more}

-- what is kept and said behind one more entry
abbrev pub told_then : Home → Told → Entry → Told
told_then h x e = record { state = (after h x.state e).state; out = x.out ++ (after h x.state e).out }

in_front : (xs : List Entry) (y : Entry) (ys : List Entry) → (xs ++ y ∷ []) ++ ys ≡ xs ++ y ∷ ys
in_front [] y ys = refl
in_front (x ∷ xs) y ys = ap (λ zs. x ∷ zs) (in_front xs y ys)

module _ (h : Home) (P : List Entry → Told → Type 0) (more : (es : List Entry) (e : Entry) → P es (told h es) → P (es ++ e ∷ []) (told_then h (told h es) e)) where
  onward : (before es : List Entry) → P before (told h before) → P (before ++ es) (told h (before ++ es))
  onward before [] p = subst (λ (fs : List Entry). P fs (told h fs)) (sym (append-nil before)) p
  onward before (e ∷ es) p =
      subst (λ (fs : List Entry). P fs (told h fs)) (in_front before e es)
      (onward (before ++ e ∷ []) es (subst (λ (x : Told). P (before ++ e ∷ []) x) (sym (told_more h before e)) (more before e p)))

  pub told_by : P [] (record { state = blank_agent; out = [] }) → (es : List Entry) → P es (told h es)
  told_by p es = onward [] es (subst (λ (x : Told). P [] x) (sym (told_none h)) p)

---- Two agents

-- what an entry takes was sent to that agent
abbrev pub CameTo : Homes → (ℕ → List Entry) → ℕ → Entry → Type 0
CameTo homes journal z e = (m : Message) → e.input ≡ Input.Got m → IsSent homes (all_synced journal) m × IsTo homes z m

module _ (homes : Homes) (a b : ℕ) (apart : b ≡ a → ⊥) (P : Told → Told → Type 0) (first : P (record { state = blank_agent; out = [] }) (record { state = blank_agent; out = [] }))
    (by_first : (journal : ℕ → List Entry) → IsGrown homes journal → (e : Entry) → CameTo homes journal a e → P (told (homes a) (journal a)) (told (homes b) (journal b)) →
    P (told_then (homes a) (told (homes a) (journal a)) e) (told (homes b) (journal b)))
    (by_second : (journal : ℕ → List Entry) → IsGrown homes journal → (e : Entry) → CameTo homes journal b e → P (told (homes a) (journal a)) (told (homes b) (journal b)) →
    P (told (homes a) (journal a)) (told_then (homes b) (told (homes b) (journal b)) e)) where
  -- by entries of any agent
  pub grown_by : (journal : ℕ → List Entry) → IsGrown homes journal → P (told (homes a) (journal a)) (told (homes b) (journal b))
  grown_by journal (begins _ none) =
      subst (λ (x : Told). P x (told (homes b) (journal b))) (sym (ap (told (homes a)) (none a) ∙ told_none (homes a)))
      (subst (λ (y : Told). P (record { state = blank_agent; out = [] }) y) (sym (ap (told (homes b)) (none b) ∙ told_none (homes b))) first)
  grown_by more (grows journal _ z e answer x acts room entered here there) = by_agent (cases_eq z a) (cases_eq z b) (grown_by journal x)
    where
      came : (y : ℕ) → z ≡ y → CameTo homes journal y e
      came y q m i = subst (λ (k : ℕ). IsSent homes (all_synced journal) m × IsTo homes k m) q (subst (λ (k : Input). MayCome homes (all_synced journal) z k) i entered.comes)

      is_more : (y : ℕ) → z ≡ y → told (homes y) (more y) ≡ told_then (homes y) (told (homes y) (journal y)) e
      is_more y q = ap (told (homes y)) (subst (λ (k : ℕ). more k ≡ journal k ++ e ∷ []) q here) ∙ told_more (homes y) (journal y) e

      is_same : (y : ℕ) → (z ≡ y → ⊥) → told (homes y) (more y) ≡ told (homes y) (journal y)
      is_same y n = ap (told (homes y)) (there y (λ q. n (sym q)))

      by_agent : (z ≡ a) ⊎ (z ≡ a → ⊥) → (z ≡ b) ⊎ (z ≡ b → ⊥) → P (told (homes a) (journal a)) (told (homes b) (journal b)) → P (told (homes a) (more a)) (told (homes b) (more b))
      by_agent (inl q) w p =
          subst (λ (y : Told). P (told (homes a) (more a)) y) (sym (is_same b (λ k. apart (sym k ∙ q)))) (subst (λ (y : Told). P y (told (homes b) (journal b))) (sym (is_more a q)) (by_first journal x e (came a q) p))
      by_agent (inr n) (inl q) p =
          subst (λ (y : Told). P (told (homes a) (more a)) y) (sym (is_more b q))
          (subst (λ (y : Told). P y (told_then (homes b) (told (homes b) (journal b)) e)) (sym (is_same a n)) (by_second journal x e (came b q) p))
      by_agent (inr n) (inr k) p =
          subst (λ (y : Told). P (told (homes a) (more a)) y) (sym (is_same b k)) (subst (λ (y : Told). P y (told (homes b) (journal b))) (sym (is_same a n)) p)

---- Two agents, with what is grown behind each entry

-- an entry of an agent, and the journals behind it
pub record IsStage (homes : Homes) (z : ℕ) (e : Entry) (journal more : ℕ → List Entry) : Type 0 where
  pub before : IsGrown homes journal
  pub behind : IsGrown homes more
  pub came : CameTo homes journal z e
  pub here : told (homes z) (more z) ≡ told_then (homes z) (told (homes z) (journal z)) e
  pub others : (y : ℕ) → (y ≡ z → ⊥) → told (homes y) (more y) ≡ told (homes y) (journal y)

module _ (homes : Homes) (a b : ℕ) (apart : b ≡ a → ⊥) (P : Told → Told → Type 0) (first : P (record { state = blank_agent; out = [] }) (record { state = blank_agent; out = [] }))
    (by_first : (journal more : ℕ → List Entry) (e : Entry) → IsStage homes a e journal more → P (told (homes a) (journal a)) (told (homes b) (journal b)) →
    P (told_then (homes a) (told (homes a) (journal a)) e) (told (homes b) (journal b)))
    (by_second : (journal more : ℕ → List Entry) (e : Entry) → IsStage homes b e journal more → P (told (homes a) (journal a)) (told (homes b) (journal b)) →
    P (told (homes a) (journal a)) (told_then (homes b) (told (homes b) (journal b)) e)) where
  pub staged_by : (journal : ℕ → List Entry) → IsGrown homes journal → P (told (homes a) (journal a)) (told (homes b) (journal b))
  staged_by journal (begins _ none) =
      subst (λ (x : Told). P x (told (homes b) (journal b))) (sym (ap (told (homes a)) (none a) ∙ told_none (homes a)))
      (subst (λ (y : Told). P (record { state = blank_agent; out = [] }) y) (sym (ap (told (homes b)) (none b) ∙ told_none (homes b))) first)
  staged_by more (grows journal _ z e answer x acts room entered here there) = by_agent (cases_eq z a) (cases_eq z b) (staged_by journal x)
    where
      stage : (y : ℕ) → z ≡ y → IsStage homes y e journal more
      stage y q =
          record {
            before = x;
            behind = grows journal more z e answer x acts room entered here there;
            came = λ m i. subst (λ (k : ℕ). IsSent homes (all_synced journal) m × IsTo homes k m) q (subst (λ (k : Input). MayCome homes (all_synced journal) z k) i entered.comes);
            here = ap (told (homes y)) (subst (λ (k : ℕ). more k ≡ journal k ++ e ∷ []) q here) ∙ told_more (homes y) (journal y) e;
            others = λ k n. ap (told (homes k)) (there k (λ i. n (i ∙ q)));
          }

      is_same : (y : ℕ) → (z ≡ y → ⊥) → told (homes y) (more y) ≡ told (homes y) (journal y)
      is_same y n = ap (told (homes y)) (there y (λ q. n (sym q)))

      by_agent : (z ≡ a) ⊎ (z ≡ a → ⊥) → (z ≡ b) ⊎ (z ≡ b → ⊥) → P (told (homes a) (journal a)) (told (homes b) (journal b)) → P (told (homes a) (more a)) (told (homes b) (more b))
      by_agent (inl q) w p =
          let s : IsStage homes a e journal more = stage a q in
          subst (λ (y : Told). P (told (homes a) (more a)) y) (sym (s.others b apart)) (subst (λ (y : Told). P y (told (homes b) (journal b))) (sym s.here) (by_first journal more e s p))
      by_agent (inr n) (inl q) p =
          let s : IsStage homes b e journal more = stage b q in
          subst (λ (y : Told). P (told (homes a) (more a)) y) (sym s.here)
          (subst (λ (y : Told). P y (told_then (homes b) (told (homes b) (journal b)) e)) (sym (s.others a (λ k. apart (sym k)))) (by_second journal more e s p))
      by_agent (inr n) (inr k) p =
          subst (λ (y : Told). P (told (homes a) (more a)) y) (sym (is_same b k)) (subst (λ (y : Told). P y (told (homes b) (journal b))) (sym (is_same a n)) p)
