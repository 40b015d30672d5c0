-- What each agent's journal is in the world after events, and what more events enter there.
use Rattle.std.proofs.Common.{ℕ, ◌≡◌, ◌≢◌, ◌==◌, Bool, true, false, cond, List, [], ◌∷◌, ◌++◌, inl, inr, refl, sym, ap, ◌∙◌, subst, append_assoc, append-nil, eq-eqb, ne_eqb}
use Rattle.std.specs.List.{All, Contains}
use Rattle.std.proofs.lemmas.Bool.{cases_eq}
use Rattle.std.proofs.lemmas.List.Elements.{All-nil, All-head, All-tail, All-append, All-weaker, All-contains}
use Rattle.nsi_primitive.specs.declared.entry.Entry.{Entry}
use Rattle.nsi_primitive.specs.declared.entry.Event.{Event}
use Rattle.nsi_primitive.specs.declared.entry.Happening.{Happening}
use Rattle.agent_node.specs.Seat.{Seat}
use Rattle.nsi_play.specs.Rounds.{Net, events_of}
use Rattle.nsi_world.specs.Worlds.{World, empty}
use Rattle.nsi_world.specs.Runs.{happens_at, happens, world_after}
use Rattle.nsi_world.specs.Nets.{number_of, numbers, AreDistinct}
use Rattle.nsi_world.proofs.Later.{after_append}
use Rattle.settled_play.proofs.Finding.{none_there, first_there, later_there, first_or_later, mapped_there}
use Rattle.settled_play.specs.Settled.{IsNoRestart, GoesOn}
use Rattle.settled_play.proofs.Steps.{entry_in, entered_in, IsOwn}
use Rattle.settled_play.proofs.Meetings.{first_apart, rest_apart}

-- what an event enters at an agent
abbrev pub entry_at : ℕ → Event → List Entry
entry_at a e = cond (e.agent == a) (entry_in e.what) []

-- what events enter at an agent
abbrev pub entered_at : ℕ → List Event → List Entry
entered_at a [] = []
entered_at a (e ∷ es) = entry_at a e ++ entered_at a es

pub at_append : (a : ℕ) (es fs : List Event) → entered_at a (es ++ fs) ≡ entered_at a es ++ entered_at a fs
at_append a [] fs = refl
at_append a (e ∷ es) fs = ap (λ xs. entry_at a e ++ xs) (at_append a es fs) ∙ sym (append_assoc (entry_at a e) (entered_at a es) (entered_at a fs))

pub own_entered : (a : ℕ) (es : List Event) → All (IsOwn a) es → entered_at a es ≡ entered_in es
own_entered a [] h = refl
own_entered a (e ∷ es) h =
    ap (λ b. cond b (entry_in e.what) [] ++ entered_at a es) (eq-eqb e.agent a (All-head (IsOwn a) e es h).0) ∙ ap (λ xs. entry_in e.what ++ xs) (own_entered a es (All-tail (IsOwn a) e es h))

other_entered : (a b : ℕ) (es : List Event) → b ≢ a → All (IsOwn b) es → entered_at a es ≡ []
other_entered a b [] n h = refl
other_entered a b (e ∷ es) n h =
    ap (λ z. cond z (entry_in e.what) [] ++ entered_at a es) (ne_eqb e.agent a (λ q. n (sym (All-head (IsOwn b) e es h).0 ∙ q))) ∙ other_entered a b es n (All-tail (IsOwn b) e es h)

-- each agent's events are its own
abbrev pub AreOwn : Net → Type 0
AreOwn net = (s : Seat) → Contains net s → All (IsOwn s.number) s.events

none_entered : (a : ℕ) (net : Net) → All (λ n. n ≢ a) (numbers net) → AreOwn net → entered_at a (events_of net) ≡ []
none_entered a [] n h = refl
none_entered a (s ∷ ss) n h =
    at_append a s.events (events_of ss)
    ∙ (ap (λ xs. xs ++ entered_at a (events_of ss)) (other_entered a s.number s.events (All-head (λ m. m ≢ a) s.number (numbers ss) n) (h s (first_there s ss)))
    ∙ none_entered a ss (All-tail (λ m. m ≢ a) s.number (numbers ss) n) (λ x c. h x (later_there s ss x c)))

-- what all events enter at an agent is what its own enter
pub net_entered : (s : Seat) (net : Net) → AreDistinct (numbers net) → AreOwn net → Contains net s → entered_at s.number (events_of net) ≡ entered_in s.events
net_entered s [] d h c = absurd (none_there s c)
net_entered s (x ∷ xs) d h c = at_append s.number x.events (events_of xs) ∙ elim (first_or_later x xs s c) [
  | inl e ↦
      subst (λ (z : Seat). entered_at z.number x.events ++ entered_at z.number (events_of xs) ≡ entered_in z.events) e
      (ap (λ es. es ++ entered_at x.number (events_of xs)) (own_entered x.number x.events (h x (first_there x xs)))
      ∙ (ap (λ es. entered_in x.events ++ es) (none_entered x.number xs (first_apart x.number (numbers xs) d) (λ y k. h y (later_there x xs y k))) ∙ append-nil (entered_in x.events)))
  | inr r ↦
      let apart : s.number ≢ x.number = All-contains (λ m. m ≢ x.number) (numbers xs) s.number (first_apart x.number (numbers xs) d) (mapped_there number_of xs s r) in
      ap (λ es. es ++ entered_at s.number (events_of xs)) (other_entered s.number x.number x.events (λ q. apart (sym q)) (h x (first_there x xs)))
      ∙ net_entered s xs (rest_apart x.number (numbers xs) d) (λ y k. h y (later_there x xs y k)) r
]

---- Worlds

pub net_goes_on : (net : Net) → AreOwn net → All GoesOn (events_of net)
net_goes_on [] h = All-nil GoesOn
net_goes_on (s ∷ ss) h =
    All-append GoesOn s.events (events_of ss) (All-weaker (IsOwn s.number) GoesOn (λ e k. k.1) s.events (h s (first_there s ss))) (net_goes_on ss (λ x c. h x (later_there s ss x c)))

abbrev nothing : List Entry
nothing = []

none_either : (z : Bool) → cond z nothing nothing ≡ nothing
none_either true = refl
none_either false = refl

happened : (w : World) (a b : ℕ) (what : Happening) → IsNoRestart what → (happens_at w b what).journal a ≡ w.journal a ++ cond (b == a) (entry_in what) []
happened w a b (Happening.Entry e answer) k = elim (cases_eq a b) [
  | inl q ↦
      ap (λ z. cond z (w.journal b ++ e ∷ []) (w.journal a)) (eq-eqb a b q)
      ∙ (ap (λ n. w.journal n ++ e ∷ []) (sym q) ∙ sym (ap (λ z. w.journal a ++ cond z (e ∷ []) []) (eq-eqb b a (sym q))))
  | inr n ↦
      ap (λ z. cond z (w.journal b ++ e ∷ []) (w.journal a)) (ne_eqb a b n)
      ∙ (sym (append-nil (w.journal a)) ∙ sym (ap (λ z. w.journal a ++ cond z (e ∷ []) []) (ne_eqb b a (λ q. n (sym q)))))
]
happened w a b (Happening.Sync count) k = sym (ap (λ xs. w.journal a ++ xs) (none_either (b == a)) ∙ append-nil (w.journal a))
happened w a b (Happening.Restart count) k = absurd k

-- the journal after events without a restart
pub journal_after : (a : ℕ) (w : World) (es : List Event) → All GoesOn es → (world_after w es).journal a ≡ w.journal a ++ entered_at a es
unfolding world_after
journal_after a w [] h = sym (append-nil (w.journal a))
journal_after a w (e ∷ es) h =
    journal_after a (happens w e) es (All-tail GoesOn e es h)
    ∙ (ap (λ xs. xs ++ entered_at a es) (happened w a e.agent e.what (All-head GoesOn e es h)) ∙ append_assoc (w.journal a) (entry_at a e) (entered_at a es))

-- the journal of an agent after these events
abbrev pub journal_at : ℕ → List Event → List Entry
journal_at a past = (world_after empty past).journal a

-- what more events enter stands behind it, where no agent restarts in them
pub journal_more : (a : ℕ) (past es : List Event) → All GoesOn es → journal_at a (past ++ es) ≡ journal_at a past ++ entered_at a es
journal_more a past es h = ap (λ (w : World). w.journal a) (after_append empty past es) ∙ journal_after a (world_after empty past) es h
