-- What an ask makes of the state, from what it makes of a view.
use Rattle.std.proofs.Common.{ℕ, ◌+◌, ◌<◌, ◌≡◌, List, [], ◌∷◌, ◌++◌, Some, None, inl, inr, arith, refl, ap, sym, length, slice_get, slice_set, position}
use Rattle.std.proofs.lemmas.List.{append-nil}
use Rattle.std.proofs.lemmas.Option.{slice_get_cases}
use Rattle.std.specs.Str.{bytes_eq}
use Rattle.message_retry.specs.Retry.{Retry}
use Rattle.agent_state.specs.declared.parent.View.{View}
use Rattle.agent_state.specs.State.{AgentState, stays}
use Rattle.requester_agent.specs.Views.{Asked}
use Rattle.agent_state.specs.Entries.{retry_of, with_retry}
use Rattle.requester_agent.specs.Steps.{find_view, answers, asks_at, asks_new}
use Rattle.requester_agent.specs.Taking.{waits_more}

pub found_none : (label : List ℕ) (vs : List View) → position (λ v. bytes_eq label v.label) vs ≡ None → find_view label vs ≡ None
unfolding find_view
found_none label vs e = rw e refl

-- the view that stands at the place of a label
pub record IsFound (label : List ℕ) (vs : List View) (n : ℕ) : Type 0 where
  pub view : View
  pub at : slice_get vs n ≡ Some view
  pub found : find_view label vs ≡ Some (n, view)

pub found_some : (label : List ℕ) (vs : List View) (n : ℕ) → position (λ v. bytes_eq label v.label) vs ≡ Some n → n < length vs → IsFound label vs n
unfolding find_view
found_some label vs n e within = elim (slice_get_cases vs n).1 [
  | inl h ↦ record { view = h.0; at = h.2; found = rw (e, h.2) refl }
  | inr h ↦ absurd (omega (arith, h.0, within))
]

-- what causes nothing makes nothing wait
pub waits_none : (s : AgentState) → s ≡ waits_more (stays s)
waits_none s = ap (λ w. record s { base = record s.base { waiting = w } }) (sym (append-nil s.base.waiting))

-- the state in which a view was asked
abbrev pub state_with : AgentState → List View → Retry → ℕ → AgentState
state_with s views t next = record s { views = views; base = record (with_retry t s.base) { next = next } }

pub asked_at_is : (s : AgentState) (n : ℕ) (v : View) (x : Asked) (vs : List View) (t : Retry) (count : ℕ) → vs ≡ slice_set s.views n (record v { child = x.child }) → t ≡ record (retry_of s.base) { waiting = s.base.waiting ++ x.out } → count ≡ length x.out →
    state_with s vs t (s.base.next + count) ≡ waits_more (asks_at (n, v) x s)
unfolding asks_at answers
asked_at_is s n v x vs t count e f g = rw (e, f, g) refl

pub asked_new_is : (s : AgentState) (label : List ℕ) (x : Asked) (vs : List View) (t : Retry) (count : ℕ) → vs ≡ s.views ++ record { label = label; child = x.child } ∷ [] → t ≡ record (retry_of s.base) { waiting = s.base.waiting ++ x.out } → count ≡ length x.out →
    state_with s vs t (s.base.next + count) ≡ waits_more (asks_new label x s)
unfolding asks_new answers
asked_new_is s label x vs t count e f g = rw (e, f, g) refl
