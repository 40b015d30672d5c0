-- A round by a tape has no more restarts than stops, and cuts that are told one by one are found by their agents' numbers.
use Rattle.std.proofs.Common.{ℕ, zero, suc, ◌+◌, ◌≤◌, ◌≡◌, ◌≢◌, List, [], ◌∷◌, ◌++◌, Option, Some, None, cond, refl, sym, ap, ◌∙◌, subst, arith, map, eq-eqb, ne_eqb, length}
use Rattle.std.specs.List.{All}
use Rattle.std.proofs.lemmas.List.Elements.{All-nil, All-head, All-tail, All-append}
use Rattle.nsi_primitive.specs.declared.entry.Entry.{Entry}
use Rattle.nsi_primitive.specs.declared.entry.Event.{Event}
use Rattle.nsi_primitive.specs.declared.entry.Happening.{Happening}
use Rattle.nsi_agent.specs.Homes.{Home}
use Rattle.agent_node.specs.Restarts.{restart_events, reads, reads_past, cut_past}
use Rattle.agent_node.specs.Seat.{Seat}
use Rattle.nsi_play.specs.Rounds.{Net, Homes, events_of, emptied}
use Rattle.nsi_world.specs.Nets.{numbers, IsTold}
use Rattle.nsi_world.proofs.NetSteps.{events_met, emptied_told, emptied_numbers}
use Rattle.settled_play.proofs.Cuts.{IsPlainEvent, IsPlain, plain_turned, plain_halted}
use Rattle.quiet_rounds.proofs.Meeting.{all_numbers}
use Rattle.stopped_play.specs.Tapes.{Cut, Cuts}
use Rattle.stopped_play.specs.Rounds.{turned_or, turned_by, round_by, reopened, reopened_by, reopens}
use Rattle.stopped_play.specs.Counts.{one_restart, restarts_in, stops_of, stops_among, cuts_of}
use Rattle.stopped_play.specs.Laws.{RestartsAreStops}
use Rattle.stopped_play.proofs.Bounds.{numbers_same}

---- Restarts among events

restarts_append : (es fs : List Event) → restarts_in (es ++ fs) ≡ restarts_in es + restarts_in fs
restarts_append [] fs = omega arith
restarts_append (e ∷ es) fs = omega (arith, restarts_append es fs)

plain_one : (what : Happening) → IsPlainEvent what → one_restart what ≡ 0
plain_one (Happening.Entry e answer) h = refl
plain_one (Happening.Sync count) h = refl
plain_one (Happening.Restart count) h = absurd h

plain_none : (es : List Event) → All IsPlain es → restarts_in es ≡ 0
plain_none [] h = refl
plain_none (e ∷ es) h = omega (arith, plain_one e.what (All-head IsPlain e es h), plain_none es (All-tail IsPlain e es h))

repeated : (times n count : ℕ) → restarts_in (restart_events times n count) ≡ times
repeated zero n count = refl
repeated (suc times) n count = omega (arith, repeated times n count)

---- A round

seat_plain : (o : Option Cut) (h : Home) (s : Seat) → IsTold s → All IsPlain (turned_or o h s).events
seat_plain None h s told = plain_turned h s (subst (All IsPlain) (sym told) (All-nil IsPlain))
seat_plain (Some c) h s told = plain_halted h s (subst (All IsPlain) (sym told) (All-nil IsPlain))

turns_plain : (cuts : Cuts) (homes : Homes) (net : Net) → All IsTold net → All IsPlain (events_of (map (turned_by cuts homes) net))
turns_plain cuts homes [] told = All-nil IsPlain
turns_plain cuts homes (s ∷ ss) told =
    All-append IsPlain (turned_by cuts homes s).events (events_of (map (turned_by cuts homes) ss)) (seat_plain (cuts s.number) (homes s.number) s (All-head IsTold s ss told)) (turns_plain cuts homes ss (All-tail IsTold s ss told))

round_none : (cuts : Cuts) (homes : Homes) (net : Net) → All IsTold net → restarts_in (events_of (round_by cuts homes net)) ≡ 0
unfolding round_by
round_none cuts homes net told = let all : Net = map (turned_by cuts homes) net in ap restarts_in (events_met all all) ∙ plain_none (events_of all) (turns_plain cuts homes net told)

---- Behind it

reads_few : (h : Home) (tries : ℕ) (es : List Entry) (s : Seat) → IsTold s → restarts_in (reads h tries es s).events ≤ tries + 1
unfolding reads
reads_few h tries es s told = omega (
  arith,
  restarts_append s.events (restart_events (suc tries) s.number (length es)),
  ap restarts_in told,
  repeated (suc tries) s.number (length es),
)

past_few : (o : Option (List Entry)) (h : Home) (tries : ℕ) (s : Seat) → IsTold s → restarts_in (reads_past o h tries s).events ≤ tries + 1
past_few None h tries s told = omega (arith, ap restarts_in told)
past_few (Some es) h tries s told = reads_few h tries es s told

seat_few : (o : Option Cut) (h : Home) (s : Seat) → IsTold s → restarts_in (reopened o h s).events ≤ stops_of o
seat_few None h s told = omega (arith, ap restarts_in told)
seat_few (Some c) h s told = past_few (cut_past c.keeps s) h c.again s told

all_few : (cuts : Cuts) (homes : Homes) (net : Net) → All IsTold net → restarts_in (events_of (map (reopened_by cuts homes) net)) ≤ stops_among cuts (numbers net)
all_few cuts homes [] told = omega arith
all_few cuts homes (s ∷ ss) told = omega (
  arith,
  restarts_append (reopened_by cuts homes s).events (events_of (map (reopened_by cuts homes) ss)),
  seat_few (cuts s.number) (homes s.number) s (All-head IsTold s ss told),
  all_few cuts homes ss (All-tail IsTold s ss told),
)

reopens_few : (cuts : Cuts) (homes : Homes) (net : Net) → All IsTold net → restarts_in (events_of (reopens cuts homes net)) ≤ stops_among cuts (numbers net)
unfolding reopens
reopens_few cuts homes net told = all_few cuts homes net told

numbers_round : (cuts : Cuts) (homes : Homes) (net : Net) → numbers (round_by cuts homes net) ≡ numbers net
unfolding round_by
numbers_round cuts homes net = let all : Net = map (turned_by cuts homes) net in all_numbers all all ∙ numbers_same cuts homes net

pub restarts_are_stops : RestartsAreStops
restarts_are_stops cuts homes net told =
    let y : Net = emptied (round_by cuts homes net) in omega (
      arith,
      restarts_append (events_of (round_by cuts homes net)) (events_of (reopens cuts homes y)),
      round_none cuts homes net told,
      reopens_few cuts homes y (emptied_told (round_by cuts homes net)),
      ap (stops_among cuts) (emptied_numbers (round_by cuts homes net) ∙ numbers_round cuts homes net),
    )

---- Cuts that are told one by one

pub cut_here : (x : ℕ × Cut) (xs : List (ℕ × Cut)) → cuts_of (x ∷ xs) x.0 ≡ Some x.1
cut_here x xs = ap (λ b. cond b (Some x.1) (cuts_of xs x.0)) (eq-eqb x.0 x.0 refl)

pub cut_else : (x : ℕ × Cut) (xs : List (ℕ × Cut)) (a : ℕ) → a ≢ x.0 → cuts_of (x ∷ xs) a ≡ cuts_of xs a
cut_else x xs a n = ap (λ b. cond b (Some x.1) (cuts_of xs a)) (ne_eqb a x.0 n)

-- who isn't among them isn't cut
pub cut_absent : (xs : List (ℕ × Cut)) (a : ℕ) → All (λ x. a ≢ x.0) xs → cuts_of xs a ≡ None
cut_absent [] a h = refl
cut_absent (x ∷ xs) a h = cut_else x xs a (All-head (λ y. a ≢ y.0) x xs h) ∙ cut_absent xs a (All-tail (λ y. a ≢ y.0) x xs h)
