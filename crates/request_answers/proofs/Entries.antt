-- A request that is open is open or answered behind each entry, and so behind all that follow.
use Rattle.std.proofs.Common.{◌≡◌, ◌⊎◌, inl, inr, ◌∙◌, List, [], ◌∷◌, ◌++◌, sym, ap, subst}
use Rattle.nsi_primitive.specs.declared.entry.Entry.{Entry}
use Rattle.nsi_primitive.specs.declared.message.Message.{Message}
use Rattle.agent_state.specs.State.{AgentState, blank_agent}
use Rattle.nsi_agent.specs.Homes.{Home}
use Rattle.nsi_agent.specs.Steps.{after}
use Rattle.nsi_agent.specs.Told.{Told, behind, goes_on, told}
use Rattle.nsi_agent.proofs.Telling.{telling_is_in_parts}
use Rattle.request_answers.specs.Answers.{IsAnswered}
use Rattle.request_answers.specs.Taken.{Takes, HasTaken}
use Rattle.request_answers.proofs.Serving.{answered_left, answered_right}

-- it is answered by what is said, or open in the state behind
abbrev pub IsKept : (Open : AgentState → Type 0) → Message → AgentState → List Message → Type 0
IsKept Open m s out = IsAnswered m out ⊎ Open s

module _ (h : Home) (m : Message) (Open : AgentState → Type 0) (goes : (s : AgentState) (e : Entry) → Open s → IsKept Open m (after h s e).state (after h s e).out) where
  more_said : (first : List Message) (s : AgentState) (out : List Message) → IsKept Open m s out → IsKept Open m s (first ++ out)
  more_said first s out (inl a) = inl (answered_right m first out a)
  more_said first s out (inr o) = inr o

  goes_further : (es : List Entry) (s : AgentState) → Open s → IsKept Open m (goes_on h s es).state (goes_on h s es).out
  unfolding goes_on
  goes_further [] s o = inr o
  goes_further (e ∷ es) s o = goes_behind (after h s e).state (after h s e).out es (goes s e o) (λ q. goes_further es (after h s e).state q)
    where
      goes_behind : (t : AgentState) (out : List Message) (es : List Entry) → IsKept Open m t out → (Open t → IsKept Open m (goes_on h t es).state (goes_on h t es).out) → IsKept Open m (goes_on h t es).state (out ++ (goes_on h t es).out)
      goes_behind t out es (inl a) rest = inl (answered_left m out (goes_on h t es).out a)
      goes_behind t out es (inr o) rest = more_said out (goes_on h t es).state (goes_on h t es).out (rest o)

  from_entry : (s : AgentState) (e : Entry) (es : List Entry) → IsKept Open m (after h s e).state (after h s e).out → IsKept Open m (goes_on h s (e ∷ es)).state (goes_on h s (e ∷ es)).out
  unfolding goes_on
  from_entry s e es (inl a) = inl (answered_left m (after h s e).out (goes_on h (after h s e).state es).out a)
  from_entry s e es (inr o) = more_said (after h s e).out (goes_on h (after h s e).state es).state (goes_on h (after h s e).state es).out (goes_further es (after h s e).state o)

  -- where the one that takes it answers it or opens it, it is so in the end
  pub taken_kept : ((s : AgentState) (e : Entry) → Takes h s e m → IsKept Open m (after h s e).state (after h s e).out) → (es : List Entry) → HasTaken h es m → IsKept Open m (told h es).state (told h es).out
  taken_kept first es t =
      let s : AgentState = (told h t.earlier).state in
      let rest : Told = goes_on h s (t.entry ∷ t.later) in
      let whole : told h es ≡ behind (told h t.earlier).out rest = ap (told h) t.parts ∙ telling_is_in_parts h blank_agent t.earlier (t.entry ∷ t.later) in
      subst (λ (x : Told). IsKept Open m x.state x.out) (sym whole) (more_said (told h t.earlier).out rest.state rest.out (from_entry s t.entry t.later (first s t.entry t.takes)))
