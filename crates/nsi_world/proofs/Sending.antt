-- In every run what was heard was sent, and what was sent stays sent.
use Rattle.std.proofs.Common.{ℕ, ◌≤◌, ◌≡◌, List, [], ◌∷◌, ◌++◌, inl, inr, sym, ap, ◌∙◌, subst, arith, length, take, drop, append-nil, take-append-drop}
use Rattle.std.specs.List.{All}
use Rattle.std.proofs.lemmas.Bool.{cases_eq}
use Rattle.std.proofs.lemmas.List.{take-append-le, take_all, length-take-le}
use Rattle.std.proofs.lemmas.List.Elements.{All-nil, All-take}
use Rattle.nsi_primitive.specs.declared.entry.Entry.{Entry}
use Rattle.nsi_primitive.specs.declared.entry.Event.{Event}
use Rattle.nsi_primitive.specs.declared.entry.Happening.{Happening}
use Rattle.nsi_primitive.specs.declared.message.Message.{Message}
use Rattle.nsi_world.specs.Worlds.{Homes, World, empty, synced_part, IsSent}
use Rattle.nsi_world.specs.Runs.{MayHappen, at, happens_at, happens, world_after, AreAllowed}
use Rattle.nsi_world.specs.Heard.{IsHeard, IsFair}
use Rattle.nsi_world.specs.Laws.{HeardWasSent, SentStaysSent}
use Rattle.nsi_world.proofs.Later.{Extends, at_same, at_other, follows_entry, follows_sync, sent_later, heard_later, fair_entry, fair_sync, after_append}
use Rattle.nsi_world.proofs.Steps.{heard_of}

---- A restart

-- a shorter front of a front
front_of_front : (s n : ℕ) (js : List Entry) → s ≤ n → n ≤ length js → take s (take n js) ≡ take s js
front_of_front s n js low high =
    sym (ap (take s) (sym (take-append-drop n js)) ∙ take-append-le s (take n js) (drop n js) (omega (arith, low, length-take-le n js high)))

pub restart_grows : (w : World) (a n : ℕ) → w.synced a ≤ n → n ≤ length (w.journal a) → Extends (synced_part w) (synced_part (happens_at w a (Happening.Restart n)))
restart_grows w a n low high b = let js : List Entry = w.journal a in elim (cases_eq b a) [
  | inl q ↦ (
    drop (w.synced a) (take n js),
    subst (λ c. take (at a n w.synced c) (at a (take n js) w.journal c) ≡ take (w.synced c) (w.journal c) ++ drop (w.synced a) (take n js)) (sym q)
        (ap (λ k. take k (at a (take n js) w.journal a)) (at_same a n w.synced) ∙ (ap (take n) (at_same a (take n js) w.journal) ∙ (take_all n (take n js) (omega (arith, length-take-le n js high))
        ∙ (sym (take-append-drop (w.synced a) (take n js)) ∙ ap (λ xs. xs ++ drop (w.synced a) (take n js)) (front_of_front (w.synced a) n js low high))))),
  )
  | inr m ↦ ([], ap (λ k. take k (at a (take n js) w.journal b)) (at_other a b n w.synced m) ∙ (ap (take (w.synced b)) (at_other a b (take n js) w.journal m) ∙ sym (append-nil (synced_part w b))))
]

pub fair_restart : (homes : Homes) (w : World) (a n : ℕ) → w.synced a ≤ n → n ≤ length (w.journal a) → IsFair homes w → IsFair homes (happens_at w a (Happening.Restart n))
fair_restart homes w a n low high fair =
    let js : List Entry = w.journal a in
    let v : World = happens_at w a (Happening.Restart n) in
    let grows : Extends (synced_part w) (synced_part v) = restart_grows w a n low high in
    record {
      within = λ b. elim (cases_eq b a) [
        | inl q ↦ subst (λ c. at a n w.synced c ≤ length (at a (take n js) w.journal c)) (sym q)
            (omega (arith, at_same a n w.synced, ap length (at_same a (take n js) w.journal), length-take-le n js high))
        | inr m ↦ omega (arith, fair.within b, at_other a b n w.synced m, ap length (at_other a b (take n js) w.journal m))
      ];
      heard = λ b. elim (cases_eq b a) [
        | inl q ↦ subst (λ c. All (IsHeard homes v c) (at a (take n js) w.journal c)) (sym q)
            (subst (All (IsHeard homes v a)) (sym (at_same a (take n js) w.journal)) (heard_later homes w v a (take n js) grows (All-take (IsHeard homes w a) n js (fair.heard a))))
        | inr m ↦ subst (All (IsHeard homes v b)) (sym (at_other a b (take n js) w.journal m)) (heard_later homes w v b (w.journal b) grows (fair.heard b))
      ];
    }

---- Events

event_grows : (homes : Homes) (w : World) (a : ℕ) (what : Happening) → IsFair homes w → MayHappen homes w a what → Extends (synced_part w) (synced_part (happens_at w a what))
event_grows homes w a (Happening.Entry e answer) fair h = (follows_entry a e answer w (fair.within a)).grows
event_grows homes w a (Happening.Sync n) fair h = (follows_sync a n w h).grows
event_grows homes w a (Happening.Restart n) fair h = restart_grows w a n h.0 h.1

fair_event : (homes : Homes) (w : World) (a : ℕ) (what : Happening) → IsFair homes w → MayHappen homes w a what → IsFair homes (happens_at w a what)
fair_event homes w a (Happening.Entry e answer) fair h = fair_entry homes w a e answer fair (record { printable = h.1.printable; sent = heard_of homes w a e.input h.1.comes })
fair_event homes w a (Happening.Sync n) fair h = fair_sync homes w a n h fair
fair_event homes w a (Happening.Restart n) fair h = fair_restart homes w a n h.0 h.1 fair

fair_after : (homes : Homes) (w : World) (es : List Event) → IsFair homes w → AreAllowed homes w es → IsFair homes (world_after w es)
unfolding world_after AreAllowed
fair_after homes w [] fair h = fair
fair_after homes w (e ∷ es) fair h = fair_after homes (happens w e) es (fair_event homes w e.agent e.what fair h.0.1) h.1

sent_after : (homes : Homes) (w : World) (es : List Event) (m : Message) → IsFair homes w → AreAllowed homes w es → IsSent homes w m → IsSent homes (world_after w es) m
unfolding world_after AreAllowed
sent_after homes w [] m fair h s = s
sent_after homes w (e ∷ es) m fair h s =
    sent_after homes (happens w e) es m (fair_event homes w e.agent e.what fair h.0.1) h.1 (sent_later homes w (happens w e) m (event_grows homes w e.agent e.what fair h.0.1) s)

allowed_front : (homes : Homes) (w : World) (es fs : List Event) → AreAllowed homes w (es ++ fs) → AreAllowed homes w es
unfolding AreAllowed
allowed_front homes w [] fs h = tt
allowed_front homes w (e ∷ es) fs h = (h.0, allowed_front homes (happens w e) es fs h.1)

allowed_rest : (homes : Homes) (w : World) (es fs : List Event) → AreAllowed homes w (es ++ fs) → AreAllowed homes (world_after w es) fs
unfolding world_after AreAllowed
allowed_rest homes w [] fs h = h
allowed_rest homes w (e ∷ es) fs h = allowed_rest homes (happens w e) es fs h.1

empty_fair : (homes : Homes) → IsFair homes empty
empty_fair homes = record { within = λ a. omega arith; heard = λ a. All-nil (IsHeard homes empty a) }

pub heard_was_sent : HeardWasSent
heard_was_sent homes events h = fair_after homes empty events (empty_fair homes) h

pub sent_stays_sent : SentStaysSent
sent_stays_sent homes events more m h s =
    let front = allowed_front homes empty events more h in
    let rest = allowed_rest homes empty events more h in
    subst (λ w. IsSent homes w m) (sym (after_append empty events more)) (sent_after homes (world_after empty events) more m (fair_after homes empty events (empty_fair homes) front) rest s)
