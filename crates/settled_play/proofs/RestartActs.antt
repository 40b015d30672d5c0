-- An act that restarts one agent, between two rounds.
use Rattle.std.proofs.Common.{ℕ, ◌≡◌, ◌≢◌, List, [], ◌∷◌, ◌++◌, Option, Some, None, IfSome, ◌⊎◌, inl, inr, refl, sym, ap, ap₂, ◌∙◌, subst, length, take, map, append-nil}
use Rattle.std.specs.List.{All, Contains}
use Rattle.std.proofs.lemmas.Bool.{cases_eq}
use Rattle.std.proofs.lemmas.List.{length-take-le}
use Rattle.std.proofs.lemmas.List.Elements.{All-nil, All-cons, All-head, All-tail, All-contains}
use Rattle.nsi_primitive.specs.declared.entry.Entry.{Entry}
use Rattle.nsi_primitive.specs.declared.entry.Event.{Event}
use Rattle.stp_topology.specs.declared.network.Network.{Network}
use Rattle.nsi_agent.specs.Homes.{Routes, home_in}
use Rattle.agent_node.specs.Seat.{Seat}
use Rattle.agent_node.specs.Restarts.{reads, reads_past, restarted}
use Rattle.nsi_play.specs.Openings.{Plans}
use Rattle.nsi_play.specs.Rounds.{Net, Homes, events_of, emptied}
use Rattle.nsi_play.specs.Play.{changes}
use Rattle.nsi_world.specs.Worlds.{World, empty, synced_part}
use Rattle.nsi_world.specs.Runs.{world_after}
use Rattle.nsi_world.specs.Seats.{Stands, AreFree}
use Rattle.nsi_world.specs.Nets.{number_of, numbers, AreDistinct, IsTold, AllStand}
use Rattle.nsi_world.proofs.ActSteps.{changed_here, changed_there}
use Rattle.settled_play.proofs.Finding.{none_there, first_there, later_there, first_or_later, mapped_there}
use Rattle.settled_play.proofs.Meetings.{first_apart, rest_apart}
use Rattle.settled_play.proofs.Links.{Given}
use Rattle.settled_play.proofs.Journals.{journal_at}
use Rattle.settled_play.proofs.Rounds.{Rests, all_apart}
use Rattle.settled_play.proofs.Restarting.{HasRead, AreRestarts, restart, nobody, restarts_none, with_read, read_here, read_else, not_here, no_none, restarts_more, restart_rests}

---- One agent among all

-- a number is one of these, or none of them
one_or_none : (c : ℕ) (ns : List ℕ) → Contains ns c ⊎ All (λ n. n ≢ c) ns
one_or_none c [] = inr (All-nil (λ n. n ≢ c))
one_or_none c (n ∷ ns) = elim (cases_eq n c) [
  | inl e ↦ inl (subst (λ k. Contains (n ∷ ns) k) e (first_there n ns))
  | inr d ↦ elim (one_or_none c ns) [
    | inl there ↦ inl (later_there n ns c there)
    | inr none ↦ inr (All-cons (λ k. k ≢ c) n ns d none)
  ]
]

none_changed : (c : ℕ) (f : Seat → Seat) (net : Net) → All (λ n. n ≢ c) (numbers net) → map (changes c f) net ≡ net
none_changed c f [] h = refl
none_changed c f (s ∷ ss) h =
    ap₂ ◌∷◌ (changed_there c f s (All-head (λ n. n ≢ c) s.number (numbers ss) h)) (none_changed c f ss (All-tail (λ n. n ≢ c) s.number (numbers ss) h))

none_told : (net : Net) → All IsTold net → events_of net ≡ []
none_told [] h = refl
none_told (s ∷ ss) h = ap₂ (λ (es fs : List Event). es ++ fs) (All-head IsTold s ss h) (none_told ss (All-tail IsTold s ss h))

-- the one agent that has the number, whose events are those of all
record IsOne (c : ℕ) (f : Seat → Seat) (net : Net) : Type 0 where
  pub seat : Seat
  pub there : Contains net seat
  pub number : seat.number ≡ c
  pub events : events_of (map (changes c f) net) ≡ (f seat).events
  pub only : (s : Seat) → Contains net s → s.number ≡ c → s ≡ seat

one_changed : (c : ℕ) (f : Seat → Seat) (net : Net) → AreDistinct (numbers net) → All IsTold net → Contains (numbers net) c → IsOne c f net
one_changed c f [] d told h = absurd (none_there c h)
one_changed c f (s ∷ ss) d told h = elim (cases_eq s.number c) [
  | inl e ↦
      let apart : All (λ n. n ≢ c) (numbers ss) = subst (λ k. All (λ n. n ≢ k) (numbers ss)) e (first_apart s.number (numbers ss) d) in
      record {
        seat = s;
        there = first_there s ss;
        number = e;
        events =
            ap₂ (λ (es fs : List Event). es ++ fs) (ap (λ (z : Seat). z.events) (changed_here c f s e)) (ap events_of (none_changed c f ss apart) ∙ none_told ss (All-tail IsTold s ss told))
            ∙ append-nil (f s).events;
        only = λ x k q. elim (first_or_later s ss x k) [
          | inl same ↦ sym same
          | inr later ↦ absurd (All-contains (λ n. n ≢ c) (numbers ss) x.number apart (mapped_there number_of ss x later) q)
        ];
      }
  | inr n ↦
      let inside : Contains (numbers ss) c = elim (first_or_later s.number (numbers ss) c h) [ inl e ↦ absurd (n e) | inr later ↦ later ] in
      let r = one_changed c f ss (rest_apart s.number (numbers ss) d) (All-tail IsTold s ss told) inside in
      record {
        seat = r.seat;
        there = later_there s ss r.seat r.there;
        number = r.number;
        events = ap₂ (λ (es fs : List Event). es ++ fs) (ap (λ (z : Seat). z.events) (changed_there c f s n) ∙ All-head IsTold s ss told) r.events;
        only = λ x k q. elim (first_or_later s ss x k) [
          | inl same ↦ absurd (n (ap number_of same ∙ q))
          | inr later ↦ r.only x later q
        ];
      }
]

---- What it reads

-- where a journal's synced part is told, so many entries of it are those
pub read_front : (t : Network) (routes : Routes) (clock : ℕ) (past : List Event) (net : Net) (s : Seat) (es : List Entry) → AllStand (home_in t routes) clock (world_after empty past) net → Contains net s → s.past ≡ Some es
    → take (length es) (journal_at s.number past) ≡ es
read_front t routes clock past net s es stand c e =
    let w : World = world_after empty past in
    let here = All-contains (Stands (home_in t routes) clock w) net s stand.stand c in
    let is : es ≡ synced_part w s.number = subst (λ (o : Option (List Entry)). IfSome o (λ xs. xs ≡ synced_part w s.number)) e here.past in
    let count : length es ≡ w.synced s.number = ap length is ∙ length-take-le (w.synced s.number) (w.journal s.number) (stand.fair.within s.number) in
    ap (λ k. take k (w.journal s.number)) count ∙ sym is

has_read : (t : Network) (routes : Routes) (c : ℕ) (s : Seat) (es : List Entry) → s.number ≡ c → HasRead t routes es s (reads (home_in t routes c) 0 es s)
unfolding reads
has_read t routes c s es e = subst (λ k. HasRead t routes es s (reads (home_in t routes k) 0 es s)) e (record { number = refl; state = refl; unsaid = refl; doors = refl })

read_events : (t : Network) (routes : Routes) (c : ℕ) (s : Seat) (es : List Entry) → s.number ≡ c → IsTold s → (reads (home_in t routes c) 0 es s).events ≡ restart c (length es) ∷ []
unfolding reads
read_events t routes c s es e told = ap (λ (xs : List Event). xs ++ restart s.number (length es) ∷ []) told ∙ ap (λ k. restart k (length es) ∷ []) e

---- The act

module _ (plans : Plans) (t : Network) (routes : Routes) (given : Given t routes) (clock : ℕ) (past : List Event) (c : ℕ) (net : Net) (r : Rests t routes plans past net) (stand : AllStand (home_in t routes) clock (world_after empty past) net) where
  abbrev homes : Homes
  homes = home_in t routes

  abbrev act : Seat → Seat
  act = changes c (restarted (homes c))

  abbrev made : List Event
  made = events_of (map act net)

  -- where the act changes nobody
  unchanged : made ≡ [] → ((s : Seat) → Contains net s → act s ≡ s) → AreFree homes empty (past ++ made) → Rests t routes plans (past ++ made) (emptied (map act net))
  unchanged none same free =
      restart_rests plans t routes given past made nobody act net r (subst (AreRestarts nobody past) (sym none) (restarts_none past)) (λ s d es q. absurd (no_none es None q refl)) (λ s d q. same s d) free

  -- where it reads what its journal has
  one_read : (one : IsOne c (restarted (homes c)) net) (es : List Entry) → one.seat.past ≡ Some es → AreFree homes empty (past ++ made) → Rests t routes plans (past ++ made) (emptied (map act net))
  one_read one es e free =
      let s : Seat = one.seat in
      let n : ℕ = length es in
      let to : restarted (homes c) s ≡ reads (homes c) 0 es s = ap (λ (o : Option (List Entry)). reads_past o (homes c) 0 s) e in
      let events : made ≡ [] ++ restart c n ∷ [] = one.events ∙ (ap (λ (z : Seat). z.events) to ∙ read_events t routes c s es one.number (r.told s one.there)) in
      let kept : List Entry = take n (journal_at c (past ++ [])) in
      let is : kept ≡ es = ap (λ (xs : List Event). take n (journal_at c xs)) (append-nil past) ∙ (ap (λ k. take n (journal_at k past)) (sym one.number) ∙ read_front t routes clock past net s es stand one.there e) in
      let are : AreRestarts (with_read c kept nobody) past made = subst (AreRestarts (with_read c kept nobody) past) (sym events) (restarts_more c n nobody past [] (restarts_none past)) in
      restart_rests plans t routes given past made (with_read c kept nobody) act net r are
      (λ u d xs q. elim (cases_eq u.number c) [
        | inl k ↦
            let whose : u ≡ s = one.only u d k in
            let which : xs ≡ es = same_read kept xs (sym (read_here c kept nobody) ∙ subst (λ m. with_read c kept nobody m ≡ Some xs) k q) ∙ is in
            subst (λ (z : Seat). HasRead t routes xs z (act z)) (sym whose) (subst (λ (z : Seat). HasRead t routes xs s z) (sym (changed_here c (restarted (homes c)) s one.number ∙ to)) (subst (λ (ys : List Entry). HasRead t routes ys s (reads (homes c) 0 es s)) (sym which) (has_read t routes c s es one.number)))
        | inr k ↦ absurd (no_none xs (with_read c kept nobody u.number) q (read_else c u.number kept nobody k))
      ])
      (λ u d q. changed_there c (restarted (homes c)) u (not_here c u.number kept nobody q))
      free
    where
      same_read : (xs ys : List Entry) → Some xs ≡ Some ys → ys ≡ xs
      same_read xs ys e = cc

  by_past : (one : IsOne c (restarted (homes c)) net) (o : Option (List Entry)) → one.seat.past ≡ o → AreFree homes empty (past ++ made) → Rests t routes plans (past ++ made) (emptied (map act net))
  by_past one None e free =
      let s : Seat = one.seat in
      let to : restarted (homes c) s ≡ s = ap (λ (o : Option (List Entry)). reads_past o (homes c) 0 s) e in
      unchanged (one.events ∙ (ap (λ (z : Seat). z.events) to ∙ r.told s one.there)) (λ u d. elim (cases_eq u.number c) [
        | inl k ↦ subst (λ (z : Seat). act z ≡ z) (sym (one.only u d k)) (changed_here c (restarted (homes c)) s one.number ∙ to)
        | inr k ↦ changed_there c (restarted (homes c)) u k
      ]) free
  by_past one (Some es) e free = one_read one es e free

  -- whoever restarts, what is so between two rounds is so behind it
  pub one_restarts : AreFree homes empty (past ++ made) → Rests t routes plans (past ++ made) (emptied (map act net))
  one_restarts free = elim (one_or_none c (numbers net)) [
    | inl there ↦ let one = one_changed c (restarted (homes c)) net (all_apart t net r.numbers) stand.told there in by_past one one.seat.past refl free
    | inr none ↦ unchanged (ap events_of (none_changed c (restarted (homes c)) net none) ∙ none_told net stand.told) (λ s d. changed_there c (restarted (homes c)) s (All-contains (λ n. n ≢ c) (numbers net) s.number none (mapped_there number_of net s d))) free
  ]
