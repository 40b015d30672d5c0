-- A round in which no agent of the net is cut is a round.
use Rattle.std.proofs.Common.{◌≡◌, List, [], ◌∷◌, ◌++◌, Option, None, refl, sym, ap, ap₂, ◌∙◌, subst, map, append-nil}
use Rattle.std.specs.List.{All}
use Rattle.std.proofs.lemmas.List.Elements.{All-head, All-tail, All-weaker, All-map}
use Rattle.nsi_primitive.specs.declared.entry.Event.{Event}
use Rattle.agent_node.specs.Seat.{Seat}
use Rattle.nsi_play.specs.Rounds.{Net, Homes, turned_in, turned_all, meets_each, meets_all, met_all, round, events_of, tells, emptied}
use Rattle.quiet_rounds.proofs.Bounding.{number_turned, round_is}
use Rattle.quiet_rounds.proofs.Meeting.{each_number}
use Rattle.stopped_play.specs.Tapes.{Cut, Cuts}
use Rattle.stopped_play.specs.Rounds.{turned_or, turned_by, round_by, reopened, reopened_by, reopens}
use Rattle.stopped_play.specs.Coming.{IsWhole}
use Rattle.stopped_play.specs.Laws.{NoCutIsARound}
use Rattle.stopped_play.proofs.Calm.{emptied_none, emptied_twice}

turns_whole : (cuts : Cuts) (homes : Homes) (net : Net) → All (IsWhole cuts) net → map (turned_by cuts homes) net ≡ turned_all homes net
turns_whole cuts homes [] h = refl
turns_whole cuts homes (s ∷ ss) h =
    ap₂ (λ (z : Seat) (zs : Net). z ∷ zs) (ap (λ (o : Option Cut). turned_or o (homes s.number) s) (All-head (IsWhole cuts) s ss h)) (turns_whole cuts homes ss (All-tail (IsWhole cuts) s ss h))

round_whole : (cuts : Cuts) (homes : Homes) (net : Net) → All (IsWhole cuts) net → round_by cuts homes net ≡ round homes net
unfolding round_by
round_whole cuts homes net h = ap met_all (turns_whole cuts homes net h) ∙ sym (round_is homes net)

reopens_whole : (cuts : Cuts) (homes : Homes) (net : Net) → All (IsWhole cuts) net → map (reopened_by cuts homes) net ≡ net
reopens_whole cuts homes [] h = refl
reopens_whole cuts homes (s ∷ ss) h =
    ap₂ (λ (z : Seat) (zs : Net). z ∷ zs) (ap (λ (o : Option Cut). reopened o (homes s.number) s) (All-head (IsWhole cuts) s ss h)) (reopens_whole cuts homes ss (All-tail (IsWhole cuts) s ss h))

reopens_same : (cuts : Cuts) (homes : Homes) (net : Net) → All (IsWhole cuts) net → reopens cuts homes net ≡ net
unfolding reopens
reopens_same cuts homes net h = reopens_whole cuts homes net h

---- Behind the round

turned_whole : (cuts : Cuts) (homes : Homes) (net : Net) → All (IsWhole cuts) net → All (IsWhole cuts) (turned_all homes net)
turned_whole cuts homes net h =
    All-map (IsWhole cuts) (turned_in homes) net (All-weaker (IsWhole cuts) (λ s. IsWhole cuts (turned_in homes s)) (λ s k. subst (λ n. cuts n ≡ None) (sym (number_turned homes s)) k) net h)

met_whole : (cuts : Cuts) (all net : Net) → All (IsWhole cuts) net → All (IsWhole cuts) (map (meets_all all) net)
met_whole cuts all net h = All-map (IsWhole cuts) (meets_all all) net (All-weaker (IsWhole cuts) (λ s. IsWhole cuts (meets_each s all)) (λ s k. subst (λ n. cuts n ≡ None) (sym (each_number s all)) k) net h)

emptied_whole : (cuts : Cuts) (net : Net) → All (IsWhole cuts) net → All (IsWhole cuts) (emptied net)
emptied_whole cuts net h = All-map (IsWhole cuts) tells net h

behind_whole : (cuts : Cuts) (homes : Homes) (net : Net) → All (IsWhole cuts) net → All (IsWhole cuts) (emptied (round homes net))
behind_whole cuts homes net h =
    subst (λ (x : Net). All (IsWhole cuts) (emptied x)) (sym (round_is homes net)) (emptied_whole cuts (met_all (turned_all homes net)) (met_whole cuts (turned_all homes net) (turned_all homes net) (turned_whole cuts homes net h)))

pub no_cut_is_a_round : NoCutIsARound
no_cut_is_a_round cuts homes net h =
    let y : Net = round homes net in
    let same : reopens cuts homes (emptied (round_by cuts homes net)) ≡ emptied y =
    ap (λ (x : Net). reopens cuts homes (emptied x)) (round_whole cuts homes net h) ∙ reopens_same cuts homes (emptied y) (behind_whole cuts homes net h) in (
      ap₂ (λ (es fs : List Event). es ++ fs) (ap events_of (round_whole cuts homes net h)) (ap events_of same ∙ emptied_none y) ∙ append-nil (events_of y),
      ap emptied same ∙ emptied_twice y,
    )
