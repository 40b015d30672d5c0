-- Rounds in which disks stop, and the restarts behind them, keep nets bounded.
use Rattle.std.proofs.Common.{ℕ, ◌≡◌, ◌≢◌, ◌==◌, List, [], ◌∷◌, Option, Some, None, refl, sym, ap, ◌∙◌, subst, arith, length, map}
use Rattle.std.specs.List.{All, AllPairs}
use Rattle.std.proofs.lemmas.List.Elements.{All-nil, All-cons, All-head, All-tail, All-weaker, All-map}
use Rattle.nsi_agent.specs.Homes.{Home}
use Rattle.nsi_agent.specs.Steps.{works_left}
use Rattle.nsi_script.specs.declared.script.Act.{Act}
use Rattle.agent_node.specs.Doors.{Door}
use Rattle.agent_node.specs.Passing.{HasMet, lying, clears}
use Rattle.agent_node.specs.Restarts.{cut_past}
use Rattle.agent_node.specs.Seat.{Seat}
use Rattle.agent_node.specs.Turns.{cleared, takes_all, worked, halted}
use Rattle.nsi_play.specs.Rounds.{Net, Homes, met_all}
use Rattle.quiet_rounds.specs.Bounded.{numbers, LeadsTo, IsBoundedIn, IsBounded}
use Rattle.quiet_rounds.proofs.Ends.{HasSameEnds, same_ends, same_twice, same_takes_all, same_works, bare, kept, same_others}
use Rattle.quiet_rounds.proofs.Bounding.{IsTaken, LetsFew, IsTurnedIn, cleared_taken, mapped_others, number_turned, turned_bounded, all_meet}
use Rattle.quiet_rounds.proofs.Meeting.{all_numbers}
use Rattle.quiet_rounds.proofs.Staying.{same_does, same_if, same_past, bounded_by, told_bounded}
use Rattle.stopped_play.specs.Tapes.{Cut, Cuts}
use Rattle.stopped_play.specs.Rounds.{turned_or, turned_by, round_by, reopened, reopened_by, reopens}
use Rattle.stopped_play.specs.Play.{read_again, does_by}
use Rattle.stopped_play.specs.Laws.{CutsKeepBounds}

---- A turn that a stop cuts

same_halted : (h : Home) (s : Seat) → HasSameEnds (cleared s) (halted h s)
same_halted h s =
    let a : Seat = takes_all h (lying s.doors) (cleared s) in
    same_twice (cleared s) a (worked h a) (same_takes_all h (lying s.doors) (cleared s)) (same_works (works_left h.role a.state) h a)

lets_none : (d : Door) → HasMet d → LetsFew d
lets_none d e = omega (arith, ap length e)

halted_bounded : (ns : List ℕ) (h : Home) (s : Seat) → IsBoundedIn ns s → IsTurnedIn ns (halted h s)
halted_bounded ns h s b =
    let ds : List Door = (halted h s).doors in
    let e : map bare ds ≡ map bare (map clears s.doors) = (same_halted h s).ends in
    record {
      taken = kept IsTaken (map clears s.doors) ds (λ d k. k) (λ d k. k) e (cleared_taken s.doors);
      few = All-weaker HasMet LetsFew lets_none ds (kept HasMet (map clears s.doors) ds (λ d k. k) (λ d k. k) e (All-map HasMet clears s.doors b.met));
      apart = subst (AllPairs (λ a c. c ≢ a)) (sym (same_others (map clears s.doors) ds e ∙ mapped_others clears (λ d. refl) s.doors)) b.apart;
      lead = kept (LeadsTo ns) (map clears s.doors) ds (λ d k. k) (λ d k. k) e (All-map (LeadsTo ns) clears s.doors b.lead);
    }

seat_bounded : (ns : List ℕ) (o : Option Cut) (homes : Homes) (s : Seat) → IsBoundedIn ns s → IsTurnedIn ns (turned_or o (homes s.number) s)
seat_bounded ns None homes s b = turned_bounded ns homes s b
seat_bounded ns (Some c) homes s b = halted_bounded ns (homes s.number) s b

number_same : (o : Option Cut) (homes : Homes) (s : Seat) → (turned_or o (homes s.number) s).number ≡ s.number
number_same None homes s = number_turned homes s
number_same (Some c) homes s = (same_halted (homes s.number) s).number

---- A round

pub numbers_same : (cuts : Cuts) (homes : Homes) (net : Net) → numbers (map (turned_by cuts homes) net) ≡ numbers net
numbers_same cuts homes [] = refl
numbers_same cuts homes (s ∷ ss) = ap (λ n. n ∷ numbers (map (turned_by cuts homes) ss)) (number_same (cuts s.number) homes s) ∙ ap (λ ns. s.number ∷ ns) (numbers_same cuts homes ss)

all_bounded : (ns : List ℕ) (cuts : Cuts) (homes : Homes) (net : Net) → All (IsBoundedIn ns) net → All (IsTurnedIn ns) (map (turned_by cuts homes) net)
all_bounded ns cuts homes [] h = All-nil (IsTurnedIn ns)
all_bounded ns cuts homes (s ∷ ss) h =
    All-cons (IsTurnedIn ns) (turned_by cuts homes s) (map (turned_by cuts homes) ss) (seat_bounded ns (cuts s.number) homes s (All-head (IsBoundedIn ns) s ss h)) (all_bounded ns cuts homes ss (All-tail (IsBoundedIn ns) s ss h))

round_bounded : (cuts : Cuts) (homes : Homes) (net : Net) → IsBounded net → IsBounded (round_by cuts homes net)
unfolding round_by
round_bounded cuts homes net h =
    let os : Net = map (turned_by cuts homes) net in
    let ns : List ℕ = numbers net in
    let same : numbers os ≡ ns = numbers_same cuts homes net in
    let all : All (IsTurnedIn ns) os = all_bounded ns cuts homes net h in
    subst (λ ms. All (IsBoundedIn ms) (met_all os)) (sym (all_numbers os os ∙ same)) (all_meet ns os os same all all)

---- Restarts

same_reopened : (o : Option Cut) (h : Home) (s : Seat) → HasSameEnds s (reopened o h s)
same_reopened None h s = same_ends s
same_reopened (Some c) h s = same_past (cut_past c.keeps s) h c.again s

reopens_bounded : (cuts : Cuts) (homes : Homes) (net : Net) → IsBounded net → IsBounded (reopens cuts homes net)
unfolding reopens
reopens_bounded cuts homes net h = bounded_by (reopened_by cuts homes) (λ s. same_reopened (cuts s.number) (homes s.number) s) net h

same_by : (act : Act) (tries count : ℕ) (homes : Homes) (s : Seat) → HasSameEnds s (does_by act tries count homes s)
same_by (Act.Ask a ask) tries count homes s = same_does (Act.Ask a ask) count homes s
same_by (Act.Force a n) tries count homes s = same_does (Act.Force a n) count homes s
same_by (Act.Restart a) tries count homes s = same_if (s.number == a) s (read_again tries (homes a) s) (same_past s.past (homes a) tries s)

pub cuts_keep_bounds : CutsKeepBounds
cuts_keep_bounds homes net h = record {
  acts = λ act tries count. bounded_by (does_by act tries count homes) (same_by act tries count homes) net h;
  round = λ cuts. round_bounded cuts homes net h;
  restarts = λ cuts. reopens_bounded cuts homes net h;
  behind = λ cuts. told_bounded (reopens cuts homes _) (reopens_bounded cuts homes _ (told_bounded (round_by cuts homes net) (round_bounded cuts homes net h)));
}
