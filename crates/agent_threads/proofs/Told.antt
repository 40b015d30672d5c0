-- What has been written.
use Rattle.std.proofs.Common.{Bool, ℕ, zero, suc, ◌+◌, ◌<◌, ◌≡◌, ◌⊎◌, List, [], ◌∷◌, ◌++◌, inl, Option, Some, None, Result, Ok, Err, IfSome, refl, sym, ap, ◌∙◌, subst, arith, length, length-append, ◌≤◌, take, drop, append_assoc, append-nil, get_or, ◌-◌}
use Rattle.std.specs.Result.{OnErr}
use Rattle.std.proofs.Math.Seq.{take-append-add}
use Rattle.std.proofs.lemmas.List.{take_all, take_more, drop_more, take-append-drop}
use Rattle.nsi_outside.specs.Stream.{WritesAll, WritesFront}
use Rattle.nsi_primitive.specs.declared.entry.Event.{Event}
use Rattle.stp_topology.specs.declared.network.Network.{Network}
use Rattle.trace_text.specs.Lines.{line_of, text_of}
use Rattle.nsi_script.specs.declared.script.Act.{Act}
use Rattle.nsi_script.specs.declared.script.Group.{Group}
use Rattle.agent_node.specs.Kept.{Kept}
use Rattle.nsi_play.specs.Rounds.{Net, Homes}
use Rattle.nsi_play.specs.Play.{asks_among}
use Rattle.agent_threads.specs.Nets.{seats_by, numbers, AreSame}
use Rattle.agent_threads.specs.Stopping.{ShelfCounts, more_stops, NoneCounted, NoneStopped, ArePlayed, IsOver, Passes, PlayPasses, stops_among}
use Rattle.agent_threads.specs.Made.{AreLeft}
use Rattle.nsi_disk.specs.ShelfCounts.{Raised}
use Rattle.run_totals.specs.Totals.{plus, totals_of}
use Rattle.run_totals.specs.declared.totals.Totals.{Totals}
use Rattle.run_totals.proofs.Appending.{totals_append}
use Rattle.agent_threads.specs.Reports.{written}
use Rattle.run_totals.specs.declared.report.Report.{Report}
use Rattle.agent_threads.specs.declared.report.RunOptions.{RunOptions}
use Rattle.agent_threads.specs.Promise.{AllCanBeDone, CanBeDone, CanBePlayed, Shows, AtShown, NoRestart, WritesGroups, WritesSomeOfPlay}
use Rattle.agent_threads.specs.Leaving.{StayOwned}
use Rattle.agent_threads.proofs.Same.{still_of, same_twice, stops_up}
use Rattle.agent_threads.proofs.Stepping.{numbers_by}
use Rattle.agent_threads.proofs.Left.{left_same, none_counted, none_still}
use Rattle.agent_threads.proofs.Owning.{still_seen}
use Rattle.nsi_script.specs.Scripts.{acts_of}
use Rattle.std.specs.List.{All}
use Rattle.std.proofs.lemmas.List.Elements.{All-nil, All-cons, All-head, All-tail}
use Rattle.agent_threads.proofs.Playing.{are_played_more, all_played, play_overruns, none_by, none_both}

pub on_err : {T E : Type 0} (r : Result T E) (P : Type 0) → P → OnErr r P
on_err (Ok x) P p = tt
on_err (Err e) P p = p

text_append : (t : Network) (es fs : List Event) → text_of t (es ++ fs) ≡ text_of t es ++ text_of t fs
text_append t [] fs = refl
text_append t (e ∷ es) fs = ap (λ z. line_of t e ++ z) (text_append t es fs) ∙ sym (append_assoc (line_of t e) (text_of t es) (text_of t fs))

pub written_append : (r : Report) (t : Network) (es fs : List Event) → written r t (es ++ fs) ≡ written r t es ++ written r t fs
written_append Report.Trace t es fs = text_append t es fs
written_append Report.Summary t es fs = refl

-- nothing is written of no events
written_none : (r : Report) (t : Network) → written r t [] ≡ []
written_none Report.Trace t = refl
written_none Report.Summary t = refl

-- a text and another one
pub writes_more : (r : Report) (t : Network) (es fs : List Event) (old mid new : Option (List ℕ)) → WritesAll old mid (written r t es) → WritesAll mid new (written r t fs) → WritesAll old new (written r t (es ++ fs))
writes_more r t es fs None mid new p q = tt
writes_more r t es fs (Some c) mid new p q = (subst (λ m. WritesAll m new (written r t fs)) p q) ∙ ap (λ z. Some z) (append_assoc c (written r t es) (written r t fs) ∙ ap (λ z. c ++ z) (sym (written_append r t es fs)))

pub writes_none : (r : Report) (t : Network) (old : Option (List ℕ)) → WritesAll old old (written r t [])
writes_none r t None = tt
writes_none r t (Some c) = ap (λ z. Some z) (sym (append-nil c) ∙ ap (λ z. c ++ z) (sym (written_none r t)))

-- a text is a front of itself
pub writes_front_all : (r : Report) (t : Network) (es : List Event) (old new : Option (List ℕ)) → WritesAll old new (written r t es) → WritesFront old new (written r t es)
writes_front_all r t es None new p = tt
writes_front_all r t es (Some c) new p = (length (written r t es), p ∙ ap (λ z. Some (c ++ z)) (sym (take_all (length (written r t es)) (written r t es) (omega arith))))

-- a text and a front of another one
pub writes_front_more : (r : Report) (t : Network) (es fs : List Event) (old mid new : Option (List ℕ)) → WritesAll old mid (written r t es) → WritesFront mid new (written r t fs) → WritesFront old new (written r t (es ++ fs))
writes_front_more r t es fs None mid new p q = tt
writes_front_more r t es fs (Some c) mid new p q =
    let f : IfSome (Some (c ++ written r t es)) (λ d. (k : ℕ) × (new ≡ Some (d ++ take k (written r t fs)))) = subst (λ m. WritesFront m new (written r t fs)) p q in
    (length (written r t es) + f.0, f.1 ∙ ap (λ z. Some z) (append_assoc c (written r t es) (take f.0 (written r t fs)) ∙ ap (λ z. c ++ z) (sym (take-append-add (written r t es) (written r t fs) f.0) ∙ ap (take (length (written r t es) + f.0)) (sym (written_append r t es fs)))))

---- Numbers

pub how_many : {m n : Totals} → m ≡ n → m.events ≡ n.events
how_many e = ap (λ (z : Totals). z.events) e

pub more_totals : (t : Network) (es fs : List Event) (m n : Totals) → m ≡ totals_of t es → n ≡ plus m (totals_of t fs) → n ≡ totals_of t (es ++ fs)
more_totals t es fs m n p q = q ∙ (ap (λ z. plus z (totals_of t fs)) p ∙ sym (totals_append t es fs))

---- Groups

shown_first : (b : Bool) (xs ys : List Act) → All (Shows b) (xs ++ ys) → All (Shows b) xs
shown_first b [] ys s = All-nil (Shows b)
shown_first b (x ∷ xs) ys s = All-cons (Shows b) x xs (All-head (Shows b) x (xs ++ ys) s) (shown_first b xs ys (All-tail (Shows b) x (xs ++ ys) s))

shown_rest : (b : Bool) (xs ys : List Act) → All (Shows b) (xs ++ ys) → All (Shows b) ys
shown_rest b [] ys s = s
shown_rest b (x ∷ xs) ys s = shown_rest b xs ys (All-tail (Shows b) x (xs ++ ys) s)

-- what shows of a script shows of each group
pub shows_at : (b : Bool) (gs : List Group) (i : ℕ) (d : Group) → i < length gs → All (Shows b) (acts_of gs) → All (Shows b) (get_or gs i d).acts
shows_at b [] i d h s = absurd (omega arith)
shows_at b (g ∷ gs) zero d h s = shown_first b g.acts (acts_of gs) s
shows_at b (g ∷ gs) (suc i) d h s = shows_at b gs i d (omega arith) (shown_rest b g.acts (acts_of gs) s)

-- what shows of acts shows of one of them
pub shown_one : (todo : List Act) (i : ℕ) (d : Act) → i < length todo → d ≡ get_or todo i d → (b : Bool) → All (Shows b) todo → All (Shows b) (d ∷ [])
shown_one todo i d h is b shows = All-cons (Shows b) d [] (subst (Shows b) (sym is) (shows i d h)) (All-nil (Shows b))

cut_here : (gs : List Group) (i : ℕ) (d : Group) → i < length gs → take i gs ++ get_or gs i d ∷ drop (i + 1) gs ≡ gs
cut_here gs i d h = ap (λ zs. take i gs ++ zs) (sym (drop_more gs i d h)) ∙ take-append-drop i gs

-- where a group passes the limit, so does the script
pub script_passes : (homes : Homes) (b : Bool) (Calm Here Later : Type 0) (most here all : ℕ) → (Later → Calm × Here) → most + here ≤ all → (script : List Group) (i : ℕ) (d : Group) (start : Net) (events : List Event) (next : ℕ) (now : Net) (limit count : ℕ) → i < length script
    → numbers now ≡ numbers start → ArePlayed homes b Calm most (take i script) start events next now → count ≡ length events → Passes homes b Here here limit count (get_or script i d) next now → PlayPasses homes b Later all limit script start
script_passes homes b Calm Here Later most here all f le script i d start events next now limit count h same p e q =
    subst (λ gs. PlayPasses homes b Later all limit gs start) (cut_here script i d h)
    (play_overruns homes b Calm Here Later most here all f le (take i script) start events next now (get_or script i d) (drop (i + 1) script) limit same p (subst (λ n. Passes homes b Here here limit n (get_or script i d) next now) e q))

-- and so does the script up to that group
pub front_passes : (homes : Homes) (b : Bool) (Calm Here Later : Type 0) (most here all : ℕ) → (Later → Calm × Here) → most + here ≤ all → (script : List Group) (i : ℕ) (d : Group) (start : Net) (events : List Event) (next : ℕ) (now : Net) (limit count : ℕ) → i < length script
    → numbers now ≡ numbers start → ArePlayed homes b Calm most (take i script) start events next now → count ≡ length events → Passes homes b Here here limit count (get_or script i d) next now → PlayPasses homes b Later all limit (take (i + 1) script) start
front_passes homes b Calm Here Later most here all f le script i d start events next now limit count h same p e q =
    subst (λ gs. PlayPasses homes b Later all limit gs start) (sym (take_more script i d h))
    (play_overruns homes b Calm Here Later most here all f le (take i script) start events next now (get_or script i d) [] limit same p (subst (λ n. Passes homes b Here here limit n (get_or script i d) next now) e q))

pub group_more : (homes : Homes) (b : Bool) (Calm Here Later : Type 0) (most here all : ℕ) → (Later → Calm × Here) → most + here ≤ all → (script : List Group) (i : ℕ) (d : Group) (start : Net) (events : List Event) (next : ℕ) (now : Net) (own : List Event) (y : Net) → i < length script
    → numbers now ≡ numbers start → ArePlayed homes b Calm most (take i script) start events next now → IsOver homes b Here here (get_or script i d) next now own y
    → ArePlayed homes b Later all (take (i + 1) script) start (events ++ own) (next + asks_among (get_or script i d).acts) y
group_more homes b Calm Here Later most here all f le script i d start events next now own y h same p o =
    subst (λ gs. ArePlayed homes b Later all gs start (events ++ own) (next + asks_among (get_or script i d).acts) y) (sym (take_more script i d h))
    (are_played_more homes b Calm Here Later most here all f le (take i script) start events next now (get_or script i d) own y same p o)

-- what stands where a group wasn't made
pub front_of_play : (t : Network) (script : List Group) (i : ℕ) (starts nows lasts : List Kept) (before mid after : ShelfCounts) (events : List Event) (next : ℕ) (options : RunOptions) (old new : Option (List ℕ))
    → AtShown starts (acts_of script) (λ homes tells. ArePlayed homes tells (NoneStopped starts nows [] events) (more_stops starts nows) (take i script) (seats_by tells starts) events next (seats_by tells nows)) → length events ≤ options.limit
    → WritesAll old new (written options.report t events) → AreSame starts nows → mid.stops ≡ before.stops → AreLeft nows lasts mid after → WritesGroups t options script starts lasts before after old new
front_of_play t script i starts nows lasts before mid after events next options old new p few w same still left = (
  i,
  events,
  (
    left.by,
    subst (λ (n : ℕ). Raised n left.by after.stops) still left.raised,
    λ u o routes r b q shows. (
      seats_by b nows,
      all_played _ b (NoneStopped starts nows [] events) (NoneCounted starts lasts before after ⊎ NoRestart events) (more_stops starts nows) ((left.by + stops_among lasts) - stops_among starts)
          (none_by starts nows events (none_counted starts nows lasts before mid after same still left)) (let up = left.stops in omega (arith, up)) (take i script) (seats_by b starts) events next (seats_by b nows) (p u o routes r b q shows),
    ),
  ),
  few,
  w,
)

pub some_of_groups : (t : Network) (options : RunOptions) (script : List Group) (start last : List Kept) (before after : ShelfCounts) (old new : Option (List ℕ)) → WritesGroups t options script start last before after old new → WritesSomeOfPlay t options script start last before after old new
some_of_groups t options script start last before after old new (i, events, plays, few, all) = (i, events, plays, few, writes_front_all options.report t events old new all)

-- what stands where a group is over, and wasn't written to its end
pub some_of_play : (t : Network) (script : List Group) (i : ℕ) (d : Group) (starts nows lasts : List Kept) (before mid after : ShelfCounts) (events own : List Event) (next : ℕ) (options : RunOptions) (old half new : Option (List ℕ)) → i < length script
    → AreSame starts nows → StayOwned starts nows
    → AtShown starts (acts_of script) (λ homes tells. ArePlayed homes tells (NoneStopped starts nows [] events) (more_stops starts nows) (take i script) (seats_by tells starts) events next (seats_by tells nows)) → length events + length own ≤ options.limit
    → AtShown nows (get_or script i d).acts (λ homes tells. IsOver homes tells (NoneStopped nows lasts [] own) (more_stops nows lasts) (get_or script i d) next (seats_by tells nows) own (seats_by tells lasts))
    → WritesAll old half (written options.report t events) → WritesFront half new (written options.report t own) → AreSame nows lasts → mid.stops ≡ before.stops → after.stops ≡ before.stops → WritesSomeOfPlay t options script starts lasts before after old new
some_of_play t script i d starts nows lasts before mid after events own next options old half new h s stay p few over w q last still still_then =
    let all : List Event = events ++ own in
    let Later : Type 0 = NoneCounted starts lasts before after ⊎ NoRestart all in
    let most : ℕ = more_stops starts lasts in
    let a = stops_up starts nows s in
    let c = stops_up nows lasts last in
    let left : AreLeft nows lasts mid after = left_same nows lasts mid after last (still_then ∙ sym still) in
    let none = none_both starts nows lasts events own (none_counted starts nows lasts before mid after s still left) (none_still starts lasts before after (same_twice starts nows lasts s last) still_then) in (
      i + 1,
      all,
      (
        0,
        inl (omega (arith, still_then)),
        λ u o routes r b seen shows. (
          seats_by b lasts,
          all_played _ b Later Later most ((0 + stops_among lasts) - stops_among starts) (λ none. none) (omega arith) (take (i + 1) script) (seats_by b starts) all (next + asks_among (get_or script i d).acts) (seats_by b lasts)
              (group_more _ b (NoneStopped starts nows [] events) (NoneStopped nows lasts [] own) Later (more_stops starts nows) (more_stops nows lasts) most none (omega (arith, a, c)) script i d (seats_by b starts) events next (seats_by b nows) own (seats_by b lasts) h
              (numbers_by b starts nows s) (p u o routes r b seen shows) (over u (still_of u starts nows s o) routes r b (still_seen u starts nows stay o routes r b seen) (shows_at b script i d h shows))),
        ),
      ),
      omega (arith, few, length-append events own),
      writes_front_more options.report t events own old half new w q,
    )

---- What a script asks for

pub can_at : (t : Network) (gs : List Group) (i : ℕ) (d : Group) → i < length gs → CanBePlayed t gs → AllCanBeDone t (get_or gs i d).acts
can_at t [] i d h c = absurd (omega arith)
can_at t (g ∷ gs) zero d h c = c.0
can_at t (g ∷ gs) (suc i) d h c = can_at t gs i d (omega arith) c.1

pub act_at : (t : Network) (todo : List Act) (i : ℕ) (d : Act) → i < length todo → AllCanBeDone t todo → CanBeDone t (get_or todo i d)
act_at t [] i d h c = absurd (omega arith)
act_at t (a ∷ rest) zero d h c = c.0
act_at t (a ∷ rest) (suc i) d h c = act_at t rest i d (omega arith) c.1
