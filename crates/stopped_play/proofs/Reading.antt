-- Agents that read again, at any moment: any of them, each so often, from any front of its journal that it may read.
use Rattle.std.proofs.Common.{ℕ, zero, suc, ◌≡◌, ◌≢◌, List, [], ◌∷◌, ◌++◌, Option, Some, None, inl, inr, refl, sym, ap, ◌∙◌, subst, length, take, map, append_assoc, append-nil, le_refl}
use Rattle.std.specs.List.{All, Contains}
use Rattle.std.proofs.lemmas.Bool.{cases_eq}
use Rattle.std.proofs.lemmas.List.{take_all}
use Rattle.std.proofs.lemmas.List.Elements.{All-head, All-tail, All-contains}
use Rattle.nsi_primitive.specs.declared.entry.Entry.{Entry}
use Rattle.nsi_primitive.specs.declared.entry.Event.{Event}
use Rattle.stp_topology.specs.declared.network.Network.{Network}
use Rattle.nsi_agent.specs.Homes.{Home, Routes, home_in}
use Rattle.agent_node.specs.Restarts.{restart_events, reads}
use Rattle.agent_node.specs.Seat.{Seat}
use Rattle.nsi_play.specs.Openings.{Plans}
use Rattle.nsi_play.specs.Rounds.{Net, Homes, events_of, emptied}
use Rattle.nsi_world.specs.Worlds.{empty}
use Rattle.nsi_world.specs.Seats.{AreFree}
use Rattle.nsi_world.specs.Nets.{number_of, numbers, AreDistinct, IsTold}
use Rattle.settled_play.proofs.Finding.{none_there, first_there, later_there, first_or_later, mapped_there}
use Rattle.settled_play.proofs.Meetings.{first_apart, rest_apart}
use Rattle.settled_play.proofs.Links.{Given}
use Rattle.settled_play.proofs.Journals.{journal_at}
use Rattle.settled_play.proofs.Rounds.{Rests}
use Rattle.settled_play.proofs.Restarting.{HasRead, Reads, AreRestarts, restart, nobody, restarts_none, no_none, with_read, read_here, read_else, restarts_more, restart_rests}

---- What each reads

-- which entries, behind how many tries at which its disk stopped
pub record Reading : Type 0 where
  pub tries : ℕ
  pub entries : List Entry

abbrev pub reads_as : Option Reading → Home → Seat → Seat
reads_as None h s = s
reads_as (Some x) h s = reads h x.tries x.entries s

abbrev pub entries_of : Option Reading → Option (List Entry)
entries_of None = None
entries_of (Some x) = Some x.entries

-- it may be read: it is a front of the journal that these events make
abbrev pub IsFront : List Event → ℕ → Reading → Type 0
IsFront past a x = take (length x.entries) (journal_at a past) ≡ x.entries

---- One agent

restarts_as : (r q : Reads) (past events : List Event) → ((b : ℕ) → r b ≡ q b) → AreRestarts r past events → AreRestarts q past events
restarts_as r q past events same h = record {
  others = λ b n. h.others b (same b ∙ n);
  own = λ b es e. h.own b es (same b ∙ e);
  front = λ b es e P all. h.front b es (same b ∙ e) P all;
  apart = λ b c n m. h.apart b c (same b ∙ n) (same c ∙ m);
  cut = λ b c es n e. h.cut b c es (same b ∙ n) (same c ∙ e);
}

-- the same entries once more
read_twice : (a : ℕ) (kept es : List Entry) (reads : Reads) → kept ≡ es → (b : ℕ) → with_read a kept (with_read a es reads) b ≡ with_read a es reads b
read_twice a kept es reads e b = elim (cases_eq b a) [
  | inl k ↦ subst (λ c. with_read a kept (with_read a es reads) c ≡ with_read a es reads c) (sym k) (read_here a kept (with_read a es reads) ∙ (ap Some e ∙ sym (read_here a es reads)))
  | inr n ↦ read_else a b kept (with_read a es reads) n
]

again : (a tries : ℕ) (es : List Entry) (reads : Reads) (past events : List Event) → AreRestarts (with_read a es reads) past events → AreRestarts (with_read a es reads) past (events ++ restart_events tries a (length es))
again a zero es reads past events h = subst (AreRestarts (with_read a es reads) past) (sym (append-nil events)) h
again a (suc tries) es reads past events h =
    let n : ℕ = length es in
    let one : List Event = restart a n ∷ [] in
    let kept : List Entry = take n (journal_at a (past ++ events)) in
    let is : kept ≡ es = ap (take n) (h.own a es (read_here a es reads)) ∙ take_all n es (le_refl n) in
    let more : AreRestarts (with_read a es reads) past (events ++ one) = restarts_as (with_read a kept (with_read a es reads)) (with_read a es reads) past (events ++ one) (read_twice a kept es reads is) (restarts_more a n (with_read a es reads) past events h) in
    subst (AreRestarts (with_read a es reads) past) (append_assoc events one (restart_events tries a n)) (again a tries es reads past (events ++ one) more)

one_reads : (a : ℕ) (x : Reading) (reads : Reads) (past events : List Event) → reads a ≡ None → IsFront past a x → AreRestarts reads past events
    → AreRestarts (with_read a x.entries reads) past (events ++ restart a (length x.entries) ∷ restart_events x.tries a (length x.entries))
one_reads a x reads past events none front h =
    let es : List Entry = x.entries in
    let n : ℕ = length es in
    let one : List Event = restart a n ∷ [] in
    let kept : List Entry = take n (journal_at a (past ++ events)) in
    let is : kept ≡ es = ap (take n) (h.others a none) ∙ front in
    let first : AreRestarts (with_read a es reads) past (events ++ one) = subst (λ (ys : List Entry). AreRestarts (with_read a ys reads) past (events ++ one)) is (restarts_more a n reads past events h) in
    subst (AreRestarts (with_read a es reads) past) (append_assoc events one (restart_events x.tries a n)) (again a x.tries es reads past (events ++ one) first)

---- All agents

-- what is read by each, where these were read before
abbrev reads_at : Option Reading → ℕ → Reads → Reads
reads_at None a reads = reads
reads_at (Some x) a reads = with_read a x.entries reads

at_else : (o : Option Reading) (a b : ℕ) (reads : Reads) → b ≢ a → reads_at o a reads b ≡ reads b
at_else None a b reads n = refl
at_else (Some x) a b reads n = read_else a b x.entries reads n

at_here : (o : Option Reading) (a : ℕ) (reads : Reads) → reads a ≡ None → reads_at o a reads a ≡ entries_of o
at_here None a reads none = none
at_here (Some x) a reads none = read_here a x.entries reads

abbrev reads_of : (Seat → Option Reading) → Net → Reads → Reads
reads_of choice [] reads = reads
reads_of choice (s ∷ ss) reads = reads_of choice ss (reads_at (choice s) s.number reads)

reads_absent : (choice : Seat → Option Reading) (net : Net) (reads : Reads) (b : ℕ) → All (λ m. m ≢ b) (numbers net) → reads_of choice net reads b ≡ reads b
reads_absent choice [] reads b n = refl
reads_absent choice (s ∷ ss) reads b n =
    reads_absent choice ss (reads_at (choice s) s.number reads) b (All-tail (λ m. m ≢ b) s.number (numbers ss) n) ∙ at_else (choice s) s.number b reads (λ e. All-head (λ m. m ≢ b) s.number (numbers ss) n (sym e))

-- another one has another number
others_apart : (s : Seat) (ss : Net) → AreDistinct (numbers (s ∷ ss)) → (u : Seat) → Contains ss u → u.number ≢ s.number
others_apart s ss d u c = All-contains (λ m. m ≢ s.number) (numbers ss) u.number (first_apart s.number (numbers ss) d) (mapped_there number_of ss u c)

reads_there : (choice : Seat → Option Reading) (net : Net) (reads : Reads) → AreDistinct (numbers net) → (s : Seat) → Contains net s → reads s.number ≡ None → reads_of choice net reads s.number ≡ entries_of (choice s)
reads_there choice [] reads d s c none = absurd (none_there s c)
reads_there choice (u ∷ us) reads d s c none = elim (first_or_later u us s c) [
  | inl e ↦
      subst (λ (z : Seat). reads z.number ≡ None → reads_of choice (u ∷ us) reads z.number ≡ entries_of (choice z)) e
      (λ n. reads_absent choice us (reads_at (choice u) u.number reads) u.number (first_apart u.number (numbers us) d) ∙ at_here (choice u) u.number reads n) none
  | inr later ↦
      reads_there choice us (reads_at (choice u) u.number reads) (rest_apart u.number (numbers us) d) s later (at_else (choice u) u.number s.number reads (others_apart u us d s later) ∙ none)
]

abbrev pub reads_by : (Seat → Option Reading) → Homes → Seat → Seat
reads_by choice homes s = reads_as (choice s) (homes s.number) s

seat_reads : (o : Option Reading) (h : Home) (reads : Reads) (past events : List Event) (s : Seat) → IsTold s → reads s.number ≡ None → ((x : Reading) → o ≡ Some x → IsFront past s.number x) → AreRestarts reads past events
    → AreRestarts (reads_at o s.number reads) past (events ++ (reads_as o h s).events)
unfolding reads
seat_reads None h reads past events s told none front are = subst (AreRestarts reads past) (sym (ap (λ (es : List Event). events ++ es) told ∙ append-nil events)) are
seat_reads (Some x) h reads past events s told none front are =
    subst (λ (es : List Event). AreRestarts (with_read s.number x.entries reads) past (events ++ (es ++ restart s.number (length x.entries) ∷ restart_events x.tries s.number (length x.entries)))) (sym told)
    (one_reads s.number x reads past events none (front x refl) are)

net_reads : (choice : Seat → Option Reading) (homes : Homes) (past : List Event) (net : Net) (reads : Reads) (events : List Event) → AreDistinct (numbers net) → All IsTold net → ((s : Seat) → Contains net s → reads s.number ≡ None)
    → ((s : Seat) → Contains net s → (x : Reading) → choice s ≡ Some x → IsFront past s.number x) → AreRestarts reads past events → AreRestarts (reads_of choice net reads) past (events ++ events_of (map (reads_by choice homes) net))
net_reads choice homes past [] reads events d told none front are = subst (AreRestarts reads past) (sym (append-nil events)) are
net_reads choice homes past (s ∷ ss) reads events d told none front are =
    let own : List Event = (reads_by choice homes s).events in
    let more : List Event = events_of (map (reads_by choice homes) ss) in
    let h = first_there s ss in
    let first : AreRestarts (reads_at (choice s) s.number reads) past (events ++ own) = seat_reads (choice s) (homes s.number) reads past events s (All-head IsTold s ss told) (none s h) (front s h) are in
    subst (AreRestarts (reads_of choice (s ∷ ss) reads) past) (append_assoc events own more)
    (net_reads choice homes past ss (reads_at (choice s) s.number reads) (events ++ own) (rest_apart s.number (numbers ss) d) (All-tail IsTold s ss told)
    (λ u c. at_else (choice s) s.number u.number reads (others_apart s ss d u c) ∙ none u (later_there s ss u c)) (λ u c. front u (later_there s ss u c)) first)

---- What is so behind it

same_entries : (xs ys : List Entry) → Some xs ≡ Some ys → ys ≡ xs
same_entries xs ys e = cc

has_read : (t : Network) (routes : Routes) (o : Option Reading) (es : List Entry) (s : Seat) → entries_of o ≡ Some es → HasRead t routes es s (reads_as o (home_in t routes s.number) s)
unfolding reads
has_read t routes None es s e = absurd (no_none es None e refl)
has_read t routes (Some x) es s e =
    subst (λ (ys : List Entry). HasRead t routes ys s (reads (home_in t routes s.number) x.tries x.entries s)) (sym (same_entries x.entries es e)) (record { number = refl; state = refl; unsaid = refl; doors = refl })

has_rested : (o : Option Reading) (h : Home) (s : Seat) → entries_of o ≡ None → reads_as o h s ≡ s
has_rested None h s e = refl
has_rested (Some x) h s e = absurd (no_none x.entries (Some x.entries) refl e)

-- whichever agents read again, and whichever fronts, what is so between two rounds is so behind it
pub reading_rests : (plans : Plans) (t : Network) (routes : Routes) → Given t routes → (past : List Event) (choice : Seat → Option Reading) (net : Net) → Rests t routes plans past net → AreDistinct (numbers net) → All IsTold net
    → ((s : Seat) → Contains net s → (x : Reading) → choice s ≡ Some x → IsFront past s.number x) → AreFree (home_in t routes) empty (past ++ events_of (map (reads_by choice (home_in t routes)) net))
    → Rests t routes plans (past ++ events_of (map (reads_by choice (home_in t routes)) net)) (emptied (map (reads_by choice (home_in t routes)) net))
reading_rests plans t routes given past choice net r d told front free =
    let homes : Homes = home_in t routes in
    let f : Seat → Seat = reads_by choice homes in
    let are : AreRestarts (reads_of choice net nobody) past (events_of (map f net)) = net_reads choice homes past net nobody [] d told (λ s c. refl) front (restarts_none past) in
    restart_rests plans t routes given past (events_of (map f net)) (reads_of choice net nobody) f net r are
    (λ s c es q. has_read t routes (choice s) es s (sym (reads_there choice net nobody d s c refl) ∙ q)) (λ s c q. has_rested (choice s) (homes s.number) s (sym (reads_there choice net nobody d s c refl) ∙ q)) free
