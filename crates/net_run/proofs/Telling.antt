-- A play behind restarts that are told first.
use Rattle.std.proofs.Common.{ℕ, suc, ◌+◌, ◌-◌, ◌<◌, ◌≤◌, ◌≡◌, ◌⊎◌, ◌++◌, Bool, true, false, List, [], ◌∷◌, Option, Err, inl, inr, refl, sym, ap, ◌∙◌, subst, arith, length, length-append, append-nil, take, cond}
use Rattle.std.specs.Prelude.{count_by}
use Rattle.std.proofs.lemmas.List.Sums.{sum_by-cons}
use Rattle.nsi_disk.specs.ShelfCounts.{Raised}
use Rattle.nsi_outside.specs.Stream.{WritesAll, WritesFront}
use Rattle.nsi_primitive.specs.declared.entry.Event.{Event}
use Rattle.stp_topology.specs.declared.network.Network.{Network}
use Rattle.run_totals.specs.Totals.{AreWithin, plus, totals_of, kind_got, is_confirmed, is_committed, is_failed}
use Rattle.run_totals.specs.declared.totals.Totals.{Totals}
use Rattle.run_totals.proofs.Appending.{totals_append}
use Rattle.nsi_script.specs.declared.script.Group.{Group}
use Rattle.nsi_script.specs.Scripts.{acts_of}
use Rattle.agent_node.specs.Kept.{Kept}
use Rattle.agent_threads.specs.declared.fault.RunFault.{RunFault}
use Rattle.agent_threads.specs.declared.report.RunOptions.{RunOptions}
use Rattle.agent_threads.specs.Reports.{written}
use Rattle.agent_threads.specs.Nets.{seats_by}
use Rattle.agent_threads.specs.Stopping.{ShelfCounts, stops_among, NoneCounted}
use Rattle.agent_threads.specs.Made.{HasSettleCause, IsOfAgent, AreLeft}
use Rattle.agent_threads.specs.Promise.{NoRestart, Plays, PlaysFirst, WritesPlay, WritesTooLong, WritesGroups, WritesSomeOfPlay}
use Rattle.agent_threads.proofs.Told.{writes_more, writes_front_more}
use Rattle.agent_threads.proofs.Playing.{are_played_none, all_played}
use Rattle.agent_threads.proofs.Left.{raised_none}
use Rattle.net_run.specs.Behind.{TellsFront, IsOfTelling, WritesBehind, IsTooLongBehind, PlaysSome, WritesSomeBehind, WritesGroupsBehind, PlaysBehind}

---- Numbers

count_few : {A : Type 0} (p : A → Bool) (xs : List A) → count_by p xs ≤ length xs
count_few p [] = omega arith
count_few p (x ∷ xs) = by (p x) (count_few p xs) (sum_by-cons (λ y. cond (p y) 1 0) x xs)
  where
    by : (z : Bool) → count_by p xs ≤ length xs → count_by p (x ∷ xs) ≡ cond z 1 0 + count_by p xs → count_by p (x ∷ xs) ≤ suc (length xs)
    by true h e = omega (arith, h, e)
    by false h e = omega (arith, h, e)

-- no number of some events is greater than that of all
pub totals_within : (t : Network) (es : List Event) (n : Totals) → n ≡ totals_of t es → AreWithin n
totals_within t es n e = subst (λ (m : Totals). AreWithin m) (sym e) (record {
  confirmed = count_few (λ e. is_confirmed (kind_got t e)) es;
  committed = count_few (λ e. is_committed (kind_got t e)) es;
  failed = count_few (λ e. is_failed (kind_got t e)) es;
})

abbrev numbered : (events confirmed committed failed : ℕ) → Totals
numbered events confirmed committed failed = record { events = events; confirmed = confirmed; committed = committed; failed = failed }

same_numbered : (e f c d p q g h : ℕ) → e ≡ f → c ≡ d → p ≡ q → g ≡ h → numbered e c p g ≡ numbered f d q h
same_numbered e f c d p q g h is_e is_c is_p is_g = ap (λ x. numbered x c p g) is_e ∙ (ap (λ x. numbered f x p g) is_c ∙ (ap (λ x. numbered f d x g) is_p ∙ ap (λ x. numbered f d q x) is_g))

plus_swap : (m n : Totals) → plus m n ≡ plus n m
plus_swap m n = same_numbered _ _ _ _ _ _ _ _ (let e : m.events + n.events ≡ n.events + m.events = omega arith in e) (let e : m.confirmed + n.confirmed ≡ n.confirmed + m.confirmed = omega arith in e)
    (let e : m.committed + n.committed ≡ n.committed + m.committed = omega arith in e) (let e : m.failed + n.failed ≡ n.failed + m.failed = omega arith in e)

all_totals : (t : Network) (made own : List Event) (m n : Totals) → m ≡ totals_of t own → n ≡ plus m (totals_of t made) → n ≡ totals_of t (made ++ own)
all_totals t made own m n p q = q ∙ (ap (λ (x : Totals). plus x (totals_of t made)) p ∙ (plus_swap (totals_of t own) (totals_of t made) ∙ sym (totals_append t made own)))

---- Counts

-- what two numbers raised alike, the greater one does
raised_both : (a x y b : ℕ) → Raised a x b → Raised a y b → (z : ℕ) × (x ≤ z) × (y ≤ z) × Raised a z b
raised_both a x y b (inl p) (inl q) = (x, omega arith, omega (arith, p, q), inl p)
raised_both a x y b (inl p) (inr q) = (x + y, omega arith, omega arith, inr (omega (arith, q.0), q.1))
raised_both a x y b (inr p) q = (x + y, omega arith, omega arith, inr (omega (arith, p.0), p.1))

-- a play of no more stops than so many is one of no more than more
plays_more : (Calm : Type 0) (most all : ℕ) (start : List Kept) (whole part : List Group) (own : List Event) → most ≤ all → Plays Calm most start whole part own → Plays Calm all start whole part own
plays_more Calm most all start whole part own le p = λ u o routes r b q shows.
    let x = p u o routes r b q shows in (
      x.0,
      record {
        told = λ e. let y = x.1.told e in (y.0, (let few = y.1 in omega (arith, few, le)), y.2);
        calm = x.1.calm;
      },
    )

plays_none : (Calm : Type 0) (most : ℕ) (start : List Kept) (whole : List Group) → Plays Calm most start whole [] []
plays_none Calm most start whole = λ u o routes r b q shows. (
  seats_by b start,
  all_played _ b (Unit {0}) Calm 0 most (λ c. tt) (omega arith) [] (seats_by b start) [] 0 (seats_by b start) (are_played_none _ b (Unit {0}) 0 (seats_by b start)),
)

---- Nothing was played

module _ (t : Network) (options : RunOptions) (made : List Event) (script : List Group) (ks : List Kept) (c : ShelfCounts) (old new : Option (List ℕ)) where
  some_none : PlaysSome script ks ks c c 0 []
  some_none = (0, raised_none c.stops, omega arith, plays_none (NoneCounted ks ks c c ⊎ NoRestart []) ((0 + stops_among ks) - stops_among ks) ks script)

  front_none : TellsFront t options made old new → WritesSomeBehind t options made script ks ks c c old new
  front_none (inl same) = inl same
  front_none (inr told) = inr (
    0,
    [],
    some_none,
    (let few = told.0 in let all = length-append made [] in omega (arith, few, all)),
    subst (λ (es : List Event). WritesFront old new (written options.report t es)) (sym (append-nil made)) told.1,
  )

  no_whole : (e : RunFault) → IsOfTelling e → IsOfAgent e → WritesGroupsBehind t options made script ks ks c c old new
  no_whole RunFault.Long f of = absurd of
  no_whole RunFault.WriteFault f of = absurd of
  no_whole (RunFault.DiskFault a) f of = absurd f
  no_whole (RunFault.NotAJournal a place) f of = absurd f
  no_whole RunFault.NoMemory f of = absurd of

  no_cause : (e : RunFault) → IsOfTelling e → HasSettleCause (acts_of script) ks ks c c e
  no_cause RunFault.Long f = tt
  no_cause RunFault.WriteFault f = tt
  no_cause (RunFault.DiskFault a) f = absurd f
  no_cause (RunFault.NotAJournal a place) f = absurd f
  no_cause RunFault.NoMemory f = tt

  pub untold_behind : (f g : ℕ) (e : RunFault) → TellsFront t options made old new → (e ≡ RunFault.Long → (options.limit < length made) × (new ≡ old)) → IsOfTelling e → (e ≡ RunFault.WriteFault → f < g) → ((e ≡ RunFault.WriteFault → ⊥) → g ≡ f)
      → PlaysBehind t options made script ks ks c c old new f g (Err e)
  untold_behind f g e front long of write quiet = record {
    done = tt;
    long = λ q. inl (long (cc));
    front = front_none front;
    whole = no_whole e of;
    cause = no_cause e of;
    write = λ q. write (cc);
    quiet = λ q. quiet (λ r. q (ap (λ (x : RunFault). Err x) r));
    same = tt;
    calm = tt;
    shelf = record { faults = omega arith; stops = omega arith; quiet = tt; calm = tt };
    level = λ q. record { still = refl; rises = omega arith };
    agents = record { among = λ a h. h; by = 0; raised = raised_none c.stops; stops = omega arith; planned = omega arith };
    usable = tt;
    owned = tt;
  }

---- The groups were played, or some

-- the options of groups behind so many events
abbrev pub lessened : RunOptions → ℕ → RunOptions
lessened options n = record { limit = options.limit - n; report = options.report }

module _ (t : Network) (options : RunOptions) (made : List Event) (script : List Group) (ks ls : List Kept) (before after : ShelfCounts) (old mid new : Option (List ℕ)) (few : length made ≤ options.limit) (told : WritesAll old mid (written options.report t made)) where
  -- the options of the groups
  abbrev Rest : RunOptions
  Rest = lessened options (length made)

  both_few : (own : List Event) → length own ≤ options.limit - length made → length (made ++ own) ≤ options.limit
  both_few own h = omega (arith, few, h, length-append made own)

  pub done_behind : (m n : Totals) → WritesPlay t Rest script ks ls mid new m → n ≡ plus m (totals_of t made) → WritesBehind t options made script ks ls old new n
  done_behind m n (own, plays, totals, within, w) e = (own, plays, all_totals t made own m n totals e, both_few own within, writes_more options.report t made own old mid new told w)

  pub long_behind : WritesTooLong t Rest script ks ls mid new → IsTooLongBehind t options made script ks ls old new
  long_behind (groups, own, plays, first, all, within, w) = inr (groups, own, plays, first, few, both_few own within, writes_more options.report t made own old mid new told w)

  tight_bound : (by z : ℕ) → by ≤ z → (by + stops_among ls) - stops_among ks ≤ (z + stops_among ls) - stops_among ks
  tight_bound by z le = omega (arith, le)

  first_some : (groups : ℕ) (own : List Event) → AreLeft ks ls before after → PlaysFirst script ks ls before after groups own → PlaysSome script ks ls before after groups own
  first_some groups own left (by, raised, plays) =
      let z = raised_both before.stops by left.by after.stops raised left.raised in (
        z.0,
        z.3,
        (let more = left.stops in let le = z.2 in omega (arith, more, le)),
        plays_more (NoneCounted ks ls before after ⊎ NoRestart own) ((by + stops_among ls) - stops_among ks) ((z.0 + stops_among ls) - stops_among ks) ks script (take groups script) own (tight_bound by z.0 z.1) plays,
      )

  pub some_behind : AreLeft ks ls before after → WritesSomeOfPlay t Rest script ks ls before after mid new → WritesSomeBehind t options made script ks ls before after old new
  some_behind left (groups, own, first, within, w) = inr (groups, own, first_some groups own left first, both_few own within, writes_front_more options.report t made own old mid new told w)

  pub groups_behind : AreLeft ks ls before after → WritesGroups t Rest script ks ls before after mid new → WritesGroupsBehind t options made script ks ls before after old new
  groups_behind left (groups, own, first, within, w) = (groups, own, first_some groups own left first, both_few own within, writes_more options.report t made own old mid new told w)
