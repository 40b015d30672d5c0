-- Where events are due all journals together are short.
use Rattle.std.proofs.Common.{◌≡◌, ◌≤◌, ◌+◌, inl, inr, ℕ, Bool, List, [], ◌∷◌, ◌++◌, refl, sym, subst, arith, length, length-append, take, drop, take-append-drop, flat_map}
use Rattle.std.specs.List.{Contains}
use Rattle.std.proofs.lemmas.List.Elements.{Contains-append_left, Contains-append_right}
use Rattle.std.proofs.lemmas.List.Sums.{sum_by-cons, sum_by-le-sum_by}
use Rattle.nsi_primitive.specs.declared.entry.Entry.{Entry}
use Rattle.nsi_primitive.specs.declared.entry.Input.{Input}
use Rattle.nsi_primitive.specs.declared.message.Message.{Message}
use Rattle.nsi_agent.specs.Homes.{home_in}
use Rattle.nsi_agent.specs.Told.{told}
use Rattle.nsi_agent.specs.Laws.{WhatIsSaidIsItsOwn, BlankIsGood, EntriesKeepGood}
use Rattle.nsi_world.specs.Worlds.{Homes, World, empty, IsAgent, IsSent, synced_part}
use Rattle.nsi_world.specs.Runs.{world_after}
use Rattle.nsi_world.specs.Laws.{HeardWasSent}
use Rattle.nsi_world.proofs.Later.{out_grows}
use Rattle.due_events.specs.Counts.{is_got, is_acked, is_work, is_tick, is_ask, is_force, has_kind, entries_in, entries_among, held, caused}
use Rattle.due_events.specs.Laws.{JournalsAreShort}
use Rattle.due_events.proofs.Acks.{ackeds_are_few}
use Rattle.due_events.proofs.Entries.{one_if, entries_are_events}
use Rattle.due_events.proofs.Sent.{gots_together_are_few}
use Rattle.due_events.proofs.Sums.{none_there, first_or_later}
use Rattle.due_events.proofs.Working.{works_are_few}

---- Each entry is of one of six kinds

one_of_six : (input : Input) → one_if (is_got input) + (one_if (is_acked input) + (one_if (is_work input) + (one_if (is_tick input) + (one_if (is_ask input) + one_if (is_force input))))) ≡ 1
one_of_six (Input.Got m) = refl
one_of_six (Input.Work n machine) = refl
one_of_six (Input.Force n) = refl
one_of_six (Input.Acked i) = refl
one_of_six Input.Tick = refl
one_of_six (Input.Ask n ask) = refl

-- how the entries of one kind are counted
more_of : (kind : Input → Bool) (e : Entry) (es : List Entry) → entries_in kind (e ∷ es) ≡ one_if (kind e.input) + entries_in kind es
more_of kind e es = sum_by-cons (λ (x : Entry). one_if (has_kind kind x)) e es

all_of_six : (es : List Entry) → length es ≡ entries_in is_got es + (entries_in is_acked es + (entries_in is_work es + (entries_in is_tick es + (entries_in is_ask es + entries_in is_force es))))
all_of_six [] = refl
all_of_six (e ∷ es) = omega (arith, one_of_six e.input, all_of_six es, more_of is_got e es, more_of is_acked e es, more_of is_work e es, more_of is_tick e es, more_of is_ask e es, more_of is_force e es)

more_among : (kind : Input → Bool) (w : World) (n : ℕ) (ns : List ℕ) → entries_among kind w (n ∷ ns) ≡ entries_in kind (w.journal n) + entries_among kind w ns
more_among kind w n ns = sum_by-cons (λ a. entries_in kind (w.journal a)) n ns

held_of_six : (w : World) (ns : List ℕ) → held w ns ≡ entries_among is_got w ns + (entries_among is_acked w ns + (entries_among is_work w ns + (entries_among is_tick w ns + (entries_among is_ask w ns + entries_among is_force w ns))))
held_of_six w [] = refl
held_of_six w (n ∷ ns) =
    omega (
      arith,
      sum_by-cons (λ a. length (w.journal a)) n ns,
      all_of_six (w.journal n),
      held_of_six w ns,
      more_among is_got w n ns,
      more_among is_acked w n ns,
      more_among is_work w n ns,
      more_among is_tick w n ns,
      more_among is_ask w n ns,
      more_among is_force w n ns,
    )

---- All messages

contained_among : {X : Type 0} (f : ℕ → List X) (ns : List ℕ) (n : ℕ) (x : X) → Contains ns n → Contains (f n) x → Contains (flat_map f ns) x
contained_among f [] n x c d = absurd (none_there n c)
contained_among f (m ∷ ms) n x c d = elim (first_or_later m ms n c) [
  | inl e ↦ Contains-append_left (f m) (flat_map f ms) x (subst (λ k. Contains (f k) x) (sym e) d)
  | inr t ↦ Contains-append_right (f m) (flat_map f ms) x (contained_among f ms n x t d)
]

-- what the entries of these agents cause
all_caused : Homes → World → List ℕ → List Message
all_caused homes w ns = flat_map (λ a. (told (homes a) (w.journal a)).out) ns

caused_count : (homes : Homes) (w : World) (ns : List ℕ) → length (all_caused homes w ns) ≡ caused homes w ns
unfolding all_caused
caused_count homes w [] = refl
caused_count homes w (n ∷ ns) =
    omega (arith, length-append (told (homes n) (w.journal n)).out (all_caused homes w ns), caused_count homes w ns, sum_by-cons (λ a. length (told (homes a) (w.journal a)).out) n ns)

-- what was sent was caused
sent_caused : (homes : Homes) (w : World) (ns : List ℕ) → ((a : ℕ) → IsAgent homes a → Contains ns a) → (m : Message) → IsSent homes w m → Contains (all_caused homes w ns) m
unfolding all_caused
sent_caused homes w ns all m sent =
    let b : ℕ = sent.0 in
    let js : List Entry = w.journal b in
    let whole : Contains (told (homes b) (take (w.synced b) js ++ drop (w.synced b) js)).out m = out_grows (homes b) (synced_part w b) (drop (w.synced b) js) m sent.1.1 in
    contained_among (λ a. (told (homes a) (w.journal a)).out) ns b m (all b sent.1.0) (subst (λ (es : List Entry). Contains (told (homes b) es).out m) (take-append-drop (w.synced b) js) whole)

---- All entries

pub journals_are_short : WhatIsSaidIsItsOwn → HeardWasSent → BlankIsGood → EntriesKeepGood → JournalsAreShort
journals_are_short own heard first keep t routes events agents run due distinct all =
    let homes : Homes = home_in t routes in
    let w : World = world_after empty events in
    let gots = gots_together_are_few own heard t routes events agents (all_caused homes w agents) run due distinct (sent_caused homes w agents all) in
    let ackeds : entries_among is_acked w agents ≤ caused homes w agents =
    sum_by-le-sum_by (λ a. entries_in is_acked (w.journal a)) (λ a. length (told (homes a) (w.journal a)).out) agents (λ a. ackeds_are_few homes events a run due)
    in
    let works : entries_among is_work w agents ≤ entries_among is_got w agents =
    sum_by-le-sum_by (λ a. entries_in is_work (w.journal a)) (λ a. entries_in is_got (w.journal a)) agents (λ a. works_are_few first keep homes events a run due)
    in
    omega (
      arith,
      held_of_six w agents,
      gots,
      caused_count homes w agents,
      ackeds,
      works,
      entries_are_events events is_tick agents distinct,
      entries_are_events events is_ask agents distinct,
      entries_are_events events is_force agents distinct,
    )
