-- What a race makes of an input.
use Rattle.std.proofs.Common.{◌≡◌, ◌⊎◌, ◌≤◌, ◌<◌, ◌+◌, ◌-◌, inl, inr, ℕ, zero, suc, List, ◌++◌, length, leb, Bool, true, false, Option, Some, None, Result, Ok, Err, refl, sym, ap, ◌∙◌, subst, arith}
use Rattle.std.specs.Prelude.{IfSome, IfOk}
use Rattle.std.specs.declared.alloc.AllocError.{AllocError}
use Rattle.std.proofs.lemmas.Bool.{true≢false}
use Rattle.nsi_base.specs.Lines.{lines_of}
use Rattle.nsi_base.specs.Range.{greatest_input}
use Rattle.nsi_disk.specs.Disk.{Meter}
use Rattle.nsi_disk.specs.ShelfCounts.{Raised}
use Rattle.nsi_outside.specs.Stream.{WritesAll, WritesFront}
use Rattle.nsi_primitive.specs.declared.entry.Event.{Event}
use Rattle.nsi_script.specs.declared.fault.ScriptFault.{ScriptFault}
use Rattle.nsi_script.specs.declared.script.Act.{Act}
use Rattle.nsi_script.specs.declared.script.Script.{Script}
use Rattle.nsi_script.specs.Scripts.{acts_of}
use Rattle.stp_topology.specs.declared.network.Network.{Network}
use Rattle.stp_topology.specs.declared.fault.TopologyFault.{TopologyFault}
use Rattle.stp_topology.specs.declared.fault.TopologyFault.TheVariants.{Empty}
use Rattle.stp_topology.specs.Network.{nothing, first_provider, name_of}
use Rattle.stp_topology.specs.Text.{read_lines}
use Rattle.stp_topology.specs.Sound.{IsProvider}
use Rattle.topology_input.specs.declared.Declared.{Declared}
use Rattle.topology_input.specs.Reading.{IsDeclared}
use Rattle.trace_text.specs.Lines.{text_of}
use Rattle.line_reader.specs.Whole.{IsWhole}
use Rattle.fault_lines.specs.Counts.{Counts, HasDiskFault}
use Rattle.fault_lines.specs.Lines.{topology_fault, script_fault, disk_fault_line, long_line, read_fault_line}
use Rattle.shared_provider.specs.Book.{counted}
use Rattle.race_run.specs.declared.item.Difference.{Difference}
use Rattle.race_run.specs.Scripts.{start_of, IsRace}
use Rattle.race_command.specs.declared.command.Contest.{Contest}
use Rattle.race_command.specs.Contests.{IsContest}
use Rattle.race_threads.specs.Raced.{IsRaced, HasDiffered}
use Rattle.race_command.specs.declared.ending.Outcome.{Outcome}
use Rattle.race_command.specs.declared.ending.RaceEnd.{RaceEnd}
use Rattle.race_command.specs.Lines.{race_script_of}
use Rattle.race_command.specs.Ends.{RacesRead, RacesBy, RacesTopology, RacesIf, Races, raced_line, differ_lines, is_told, CountsAs, Ends, WritesSome, WritesSomeFront, IsCutShort}
use Rattle.race_command.specs.Outcomes.{CountsDisk, HasRaced, HasComeTo, ComesTo, Closes, IsOwnEnd}

fits : (n most : ℕ) → n ≤ most → leb n most ≡ true
fits n most h = grind arith

passes : (n most : ℕ) → most < n → leb n most ≡ false
passes n most h = grind arith

---- Over a disk

-- what is said of a script is said of what is asked by it
pub as_asked : (P : ℕ → Option ℕ → List Act → Type 0) (p q : ℕ) (a b : Option ℕ) (xs ys : List Act) → p ≡ q → a ≡ b → xs ≡ ys → P p a xs → P q b ys
as_asked P p q a b xs ys same_p same_a same_xs h = subst (P q b) same_xs (subst (λ x. P q x xs) same_a (subst (λ n. P n a xs) same_p h))

pub came : (most : ℕ) (t : Network) (p : ℕ) (script : Script) (events : List Event) (committed : ℕ) (meter : Meter) (o : Outcome) → IsRaced t p (start_of script.groups) (acts_of script.groups) events committed
    → length events ≤ most → o.end ≡ RaceEnd.Done → o.text.items ≡ text_of t events ++ raced_line (length events) committed → HasRaced most t p script meter o
came most t p script events committed meter o raced few end text =
    record { told = rw end refl; races = rw end (events, committed, record { raced = raced; written = text }, few); counts = rw end tt }

pub came_long : (most : ℕ) (t : Network) (p : ℕ) (script : Script) (events : List Event) (committed : ℕ) (meter : Meter) (o : Outcome) → IsRaced t p (start_of script.groups) (acts_of script.groups) events committed
    → most < length events → o.end ≡ RaceEnd.Long → o.text.items ≡ long_line → HasRaced most t p script meter o
came_long most t p script events committed meter o raced many end text = record {
  told = rw end refl;
  races = rw end (events, committed, raced, many, text);
  counts = rw end tt;
}

pub came_apart : (most : ℕ) (t : Network) (p : ℕ) (script : Script) (meter : Meter) (d : Difference) (o : Outcome) → HasDiffered t p (start_of script.groups) (acts_of script.groups) d → o.end ≡ RaceEnd.Differ
    → o.text.items ≡ differ_lines t d → HasRaced most t p script meter o
came_apart most t p script meter d o differed end text = record { told = rw end refl; races = rw end (d, differed, text); counts = rw end tt }

pub came_broken : (most : ℕ) (t : Network) (p : ℕ) (script : Script) (meter : Meter) (o : Outcome) → 0 < counted meter → o.end ≡ RaceEnd.DiskFault → o.text.items ≡ disk_fault_line (name_of t p)
    → HasRaced most t p script meter o
came_broken most t p script meter o some end text = record { told = rw end refl; races = rw end text; counts = rw end some }

---- Over a shelf

some_fault : (n : ℕ) → (n ≡ 0) ⊎ (0 < n)
some_fault zero = inl refl
some_fault (suc n) = inr (omega arith)

risen : (before after : Counts) (meter : Meter) → 0 < counted meter → Raised before.faults meter.faults after.faults → Raised before.stops meter.stops after.stops → HasDiskFault before after
risen before after meter some faults stops = by (some_fault meter.faults)
  where
    by : (meter.faults ≡ 0) ⊎ (0 < meter.faults) → HasDiskFault before after
    by (inl none) = inr (meter.stops, omega (arith, some, none), stops)
    by (inr more) = inl (meter.faults, more, faults)

counts_as : (end : RaceEnd) (before after : Counts) (meter : Meter) → CountsDisk end meter → Raised before.faults meter.faults after.faults → Raised before.stops meter.stops after.stops → CountsAs end before after
counts_as RaceEnd.DiskFault before after meter c faults stops = risen before after meter c faults stops
counts_as RaceEnd.Done before after meter c faults stops = tt
counts_as RaceEnd.BadTopology before after meter c faults stops = tt
counts_as RaceEnd.BadScript before after meter c faults stops = tt
counts_as RaceEnd.Long before after meter c faults stops = tt
counts_as RaceEnd.ReadFault before after meter c faults stops = tt
counts_as RaceEnd.WriteFault before after meter c faults stops = tt
counts_as RaceEnd.Differ before after meter c faults stops = tt
counts_as RaceEnd.NoMemory before after meter c faults stops = tt

pub given_back : (most : ℕ) (t : Network) (p : ℕ) (script : Script) (meter : Meter) (before after : Counts) (r : Result Outcome AllocError) → IfOk r (HasRaced most t p script meter)
    → Raised before.faults meter.faults after.faults → Raised before.stops meter.stops after.stops → IfOk r (HasComeTo most t p script before after)
given_back most t p script meter before after (Err e) h faults stops = tt
given_back most t p script meter before after (Ok o) h faults stops = record { told = h.told; races = h.races; counts = counts_as o.end before after meter h.counts faults stops }

pub not_fetched : (most : ℕ) (t : Network) (p : ℕ) (script : Script) (before after : Counts) (o : Outcome) → before.faults < after.faults → o.end ≡ RaceEnd.DiskFault → o.text.items ≡ disk_fault_line (name_of t p)
    → HasComeTo most t p script before after o
not_fetched most t p script before after o more end text = record {
  told = rw end refl;
  races = rw end text;
  counts = rw end (inl (after.faults - before.faults, omega (arith, more), inl (omega (arith, more))));
}

---- Of an input

-- what two clauses make of each outcome
pub both : (r : Result Outcome AllocError) (A B C : Outcome → Type 0) → ((o : Outcome) → A o → B o → C o) → IfOk r A → IfOk r B → IfOk r C
both (Ok o) A B C f a b = f o a b
both (Err e) A B C f a b = tt

pub over : (r : Result Outcome AllocError) (A B : Outcome → Type 0) → ((o : Outcome) → A o → B o) → IfOk r A → IfOk r B
over (Ok o) A B f a = f o a
over (Err e) A B f a = tt

abbrev read_as : Network × ℕ → Result (Network × ℕ) (ℕ × TopologyFault)
read_as x = Ok x

same_read : (x y : Network × ℕ) → read_as x ≡ read_as y → x ≡ y
same_read x y e = cc

-- a text declares one topology
pub same_topology : (bytes : List ℕ) (d e : Declared) → IsDeclared bytes d → IsDeclared bytes e → d.topology ≡ e.topology
same_topology bytes d e h k = ap (λ (x : Network × ℕ). x.0) (same_read (d.topology, d.lines) (e.topology, e.lines) (sym h.read ∙ k.read))

-- a text that is within the size is read
races_within : (most : ℕ) (bytes : List ℕ) (end : RaceEnd) (text : List ℕ) → length bytes ≤ greatest_input → RacesTopology most bytes (read_lines nothing 0 (lines_of bytes)) end text → Races most bytes end text
races_within most bytes end text few r = let P : Bool → Type 0 = λ b. RacesIf b most bytes end text in subst P (sym (fits (length bytes) greatest_input few)) r

pub comes_no_topology : (most : ℕ) (bytes : List ℕ) (counts after : Counts) (o : Outcome) (n : ℕ) (fault : TopologyFault) → length bytes ≤ greatest_input → read_lines nothing 0 (lines_of bytes) ≡ Err (n, fault)
    → o.end ≡ RaceEnd.BadTopology → o.text.items ≡ topology_fault n fault → ComesTo most bytes counts after o
comes_no_topology most bytes counts after o n fault few e end text =
    let P : Result (Network × ℕ) (ℕ × TopologyFault) → Type 0 = λ r. RacesTopology most bytes r o.end o.text.items in
    record { told = rw end refl; races = races_within most bytes o.end o.text.items few (subst P (sym e) (end, text)); counts = rw end tt }

module _ (most : ℕ) (bytes : List ℕ) (before after : Counts) (o : Outcome) (few : length bytes ≤ greatest_input) (d : Declared) (is : IsDeclared bytes d) where
  races_behind : (p : Option ℕ) → first_provider d.topology ≡ p → RacesBy most bytes d.topology d.lines p o.end o.text.items → Races most bytes o.end o.text.items
  races_behind p first r =
      let P : Result (Network × ℕ) (ℕ × TopologyFault) → Type 0 = λ x. RacesTopology most bytes x o.end o.text.items in
      races_within most bytes o.end o.text.items few (subst P (sym is.read) (subst (λ q. RacesBy most bytes d.topology d.lines q o.end o.text.items) (sym first) r))

  pub comes_no_provider : first_provider d.topology ≡ None → o.end ≡ RaceEnd.BadTopology → o.text.items ≡ topology_fault d.lines Empty → ComesTo most bytes before after o
  comes_no_provider first end text = record { told = rw end refl; races = races_behind None first (end, text); counts = rw end tt }

  races_read : (p : ℕ) (read : Result Script (ℕ × ScriptFault)) → first_provider d.topology ≡ Some p → race_script_of d.topology p (d.lines + 1) d.behind.now ≡ read → RacesRead most d.topology p read o.end o.text.items
      → Races most bytes o.end o.text.items
  races_read p read first e r =
      races_behind (Some p) first (subst (λ x. RacesRead most d.topology p x o.end o.text.items) (sym (ap (race_script_of d.topology p (d.lines + 1)) (sym is.behind) ∙ e)) r)

  pub comes_no_script : (p n : ℕ) (fault : ScriptFault) → first_provider d.topology ≡ Some p → race_script_of d.topology p (d.lines + 1) d.behind.now ≡ Err (n, fault) → o.end ≡ RaceEnd.BadScript
      → o.text.items ≡ script_fault n fault → ComesTo most bytes before after o
  comes_no_script p n fault first e end text = record { told = rw end refl; races = races_read p (Err (n, fault)) first e (end, text); counts = rw end tt }

  pub comes_raced : (p : ℕ) (script : Script) → first_provider d.topology ≡ Some p → race_script_of d.topology p (d.lines + 1) d.behind.now ≡ Ok script → HasComeTo most d.topology p script before after o
      → ComesTo most bytes before after o
  comes_raced p script first e h = record { told = h.told; races = races_read p (Ok script) first e h.races; counts = h.counts }

  pub comes_contest : (p : ℕ) (x : Contest) → first_provider d.topology ≡ Some p → IsContest d.topology p (d.lines + 1) d.behind.now x → HasComeTo most x.topology x.provider x.script before after o
      → ComesTo most bytes before after o
  comes_contest p x first c h =
      comes_raced p x.script first c.reads
      (subst (λ (y : Network). HasComeTo most y p x.script before after o) c.topology (subst (λ (n : ℕ). HasComeTo most x.topology n x.script before after o) c.provider h))

-- a contest is one of its own provider
pub raced_for : (t : Network) (p first_line : ℕ) (text : List ℕ) (x : Contest) → IsContest t p first_line text x → IsRace x.topology x.provider x.script
raced_for t p first_line text x c = subst (λ (y : Network). IsRace y x.provider x.script) (sym c.topology) (subst (λ (n : ℕ). IsRace t n x.script) (sym c.provider) c.race)

pub provided_for : (t : Network) (p first_line : ℕ) (text : List ℕ) (x : Contest) → IsContest t p first_line text x → IsProvider t p → IsProvider x.topology x.provider
provided_for t p first_line text x c h = subst (λ (y : Network). IsProvider y x.provider) (sym c.topology) (subst (λ (n : ℕ). IsProvider t n) (sym c.provider) h)

pub within_for : (t : Network) (p first_line : ℕ) (text : List ℕ) (x : Contest) → IsContest t p first_line text x → p < length t.agents → x.provider < length x.topology.agents
within_for t p first_line text x c h = subst (λ (y : Network). x.provider < length y.agents) (sym c.topology) (subst (λ (n : ℕ). n < length t.agents) (sym c.provider) h)

---- What is written

abbrev with_reads : ℕ → Counts → Counts
with_reads n c = record c { reads = n }

recounted : (end : RaceEnd) (before after : Counts) (m n : ℕ) → CountsAs end before after → CountsAs end (with_reads m before) (with_reads n after)
recounted RaceEnd.DiskFault before after m n c = c
recounted RaceEnd.Done before after m n c = tt
recounted RaceEnd.BadTopology before after m n c = tt
recounted RaceEnd.BadScript before after m n c = tt
recounted RaceEnd.Long before after m n c = tt
recounted RaceEnd.ReadFault before after m n c = tt
recounted RaceEnd.WriteFault before after m n c = tt
recounted RaceEnd.Differ before after m n c = tt
recounted RaceEnd.NoMemory before after m n c = tt

-- how much was read is nothing to how a race ends
pub read_too : (most : ℕ) (bytes : List ℕ) (before after : Counts) (m n : ℕ) (o : Outcome) → ComesTo most bytes before after o → ComesTo most bytes (with_reads m before) (with_reads n after) o
read_too most bytes before after m n o h = record { told = h.told; races = h.races; counts = recounted o.end before after m n h.counts }

pub told_own : (end : RaceEnd) → is_told end ≡ true → IsOwnEnd end
told_own end told = record { write = λ e. absurd (true≢false (sym told ∙ ap is_told e)); memory = λ e. absurd (true≢false (sym told ∙ ap is_told e)) }

pub read_own : IsOwnEnd RaceEnd.ReadFault
read_own = record { write = λ e. cc; memory = λ e. cc }

-- one of the texts is written, or a front of it
some_text : (P : List ℕ → Type 0) (old new : Option (List ℕ)) (text : List ℕ) → P text → WritesAll old new text → WritesSome P old new
some_text P None new text p w = tt
some_text P (Some c) new text p w = (text, p, w)

some_front : (P : List ℕ → Type 0) (old new : Option (List ℕ)) (text : List ℕ) → P text → WritesFront old new text → WritesSomeFront P old new
some_front P None new text p w = tt
some_front P (Some c) new text p w = (text, w.0, p, w.1)

-- how it ends, as the clauses of a race say it
pub record HasTold (most : ℕ) (left content : Option (List ℕ)) (before after : Counts) (new : Option (List ℕ)) (writes_before writes_after : ℕ) (end : RaceEnd) : Type 0 where
  pub ends : is_told end ≡ true → IfSome left (λ bytes. WritesSome (Races most bytes end) content new)
  pub read_fault : end ≡ RaceEnd.ReadFault → before.reads < after.reads
  pub alone : end ≡ RaceEnd.ReadFault → WritesAll content new read_fault_line
  pub write_fault : end ≡ RaceEnd.WriteFault → writes_before < writes_after
  pub disk_fault : end ≡ RaceEnd.DiskFault → HasDiskFault before after
  pub unfinished : (end ≡ RaceEnd.WriteFault) ⊎ (end ≡ RaceEnd.NoMemory) → IsCutShort most content left before after new
  pub quiet_in : is_told end ≡ true → after.reads ≡ before.reads
  pub quiet_out : (end ≡ RaceEnd.WriteFault → ⊥) → writes_after ≡ writes_before

-- where the source tells, of all that was left it holds
pub of_whole : (left : Option (List ℕ)) (bytes : List ℕ) (P : List ℕ → Type 0) → IsWhole left bytes → P bytes → IfSome left P
of_whole None bytes P w x = tt
of_whole (Some b) bytes P w x = subst P (sym w) x

over_left : (left : Option (List ℕ)) (P Q : List ℕ → Type 0) → ((bytes : List ℕ) → P bytes → Q bytes) → IfSome left P → IfSome left Q
over_left None P Q f h = tt
over_left (Some b) P Q f h = f b h

-- of an end that is its own it is known how it is told
own_end : (own end : RaceEnd) → (end ≡ own) ⊎ ((end ≡ RaceEnd.WriteFault) ⊎ (end ≡ RaceEnd.NoMemory)) → (end ≡ RaceEnd.WriteFault → ⊥) → (end ≡ RaceEnd.NoMemory → ⊥) → end ≡ own
own_end own end (inl e) write memory = e
own_end own end (inr (inl e)) write memory = absurd (write e)
own_end own end (inr (inr e)) write memory = absurd (memory e)

told_end : (own end : RaceEnd) → (end ≡ own) ⊎ ((end ≡ RaceEnd.WriteFault) ⊎ (end ≡ RaceEnd.NoMemory)) → is_told end ≡ true → end ≡ own
told_end own end kind told = own_end own end kind (λ e. true≢false (sym told ∙ ap is_told e)) (λ e. true≢false (sym told ∙ ap is_told e))

read_end : (own end : RaceEnd) → (end ≡ own) ⊎ ((end ≡ RaceEnd.WriteFault) ⊎ (end ≡ RaceEnd.NoMemory)) → end ≡ RaceEnd.ReadFault → end ≡ own
read_end own end kind e = own_end own end kind (λ w. apart (sym e ∙ w)) (λ w. alone (sym e ∙ w))
  where
    apart : RaceEnd.ReadFault ≡ RaceEnd.WriteFault → ⊥
    apart e = cc

    alone : RaceEnd.ReadFault ≡ RaceEnd.NoMemory → ⊥
    alone e = cc

disk_end : (own end : RaceEnd) → (end ≡ own) ⊎ ((end ≡ RaceEnd.WriteFault) ⊎ (end ≡ RaceEnd.NoMemory)) → end ≡ RaceEnd.DiskFault → end ≡ own
disk_end own end kind e = own_end own end kind (λ w. apart (sym e ∙ w)) (λ w. alone (sym e ∙ w))
  where
    apart : RaceEnd.DiskFault ≡ RaceEnd.WriteFault → ⊥
    apart e = cc

    alone : RaceEnd.DiskFault ≡ RaceEnd.NoMemory → ⊥
    alone e = cc

module _ (most : ℕ) (left content new : Option (List ℕ)) (before after : Counts) (writes_before writes_after : ℕ) (own end : RaceEnd) (text : List ℕ) where
  -- what a race comes to is written
  pub told_of : is_told own ≡ true → CountsAs own before after → IfSome left (λ bytes. Ends most bytes before after own text) → after.reads ≡ before.reads → Closes text own end content new writes_before writes_after
      → HasTold most left content before after new writes_before writes_after end
  told_of told counts comes reads closes = record {
    ends = λ t. ended (told_end own end closes.kind t);
    read_fault = λ e. absurd (not_read e);
    alone = λ e. absurd (not_read e);
    write_fault = closes.write;
    disk_fault = λ e. subst (λ (x : RaceEnd). CountsAs x before after) (sym (disk_end own end closes.kind e) ∙ e) counts;
    unfinished = λ _. inr (inl (
      reads,
      over_left left (λ bytes. Ends most bytes before after own text)
          (λ bytes. WritesSomeFront (λ x. (e : RaceEnd) × Ends most bytes before after e x) content new)
          (λ bytes h. some_front (λ x. (e : RaceEnd) × Ends most bytes before after e x) content new text (own, h) closes.front) comes,
    ));
    quiet_in = λ _. reads;
    quiet_out = closes.quiet;
  }
    where
      ended : end ≡ own → IfSome left (λ bytes. WritesSome (Races most bytes end) content new)
      ended is = over_left left (λ bytes. Ends most bytes before after own text) (λ bytes. WritesSome (Races most bytes end) content new)
          (λ bytes h. subst (λ (x : RaceEnd). WritesSome (Races most bytes x) content new) (sym is) (some_text (Races most bytes own) content new text h.races (closes.told is))) comes

      not_read : end ≡ RaceEnd.ReadFault → ⊥
      not_read e = true≢false (sym told ∙ ap is_told (sym (read_end own end closes.kind e) ∙ e))

-- an input that is too long
pub long_comes : (most : ℕ) (left : Option (List ℕ)) (before after : Counts) → IfSome left (λ bytes. greatest_input < length bytes) → IfSome left (λ bytes. Ends most bytes before after RaceEnd.Long long_line)
long_comes most left before after long =
    over_left left (λ bytes. greatest_input < length bytes) (λ bytes. Ends most bytes before after RaceEnd.Long long_line)
    (λ bytes l. record { told = refl; races = is_long bytes l; counts = tt }) long
  where
    is_long : (bytes : List ℕ) → greatest_input < length bytes → Races most bytes RaceEnd.Long long_line
    is_long bytes l = let P : Bool → Type 0 = λ b. RacesIf b most bytes RaceEnd.Long long_line in subst P (sym (passes (length bytes) greatest_input l)) (refl, refl)

-- reading failed
pub told_read : (most : ℕ) (left content new : Option (List ℕ)) (before after : Counts) (writes_before writes_after : ℕ) (end : RaceEnd) → before.reads < after.reads
    → Closes read_fault_line RaceEnd.ReadFault end content new writes_before writes_after → HasTold most left content before after new writes_before writes_after end
told_read most left content new before after writes_before writes_after end failed closes = record {
  ends = λ t. absurd (untold t);
  read_fault = λ _. failed;
  alone = closes.told;
  write_fault = closes.write;
  disk_fault = λ e. absurd (apart (sym (disk_end RaceEnd.ReadFault end closes.kind e) ∙ e));
  unfinished = λ _. inr (inr (failed, closes.front));
  quiet_in = λ t. absurd (untold t);
  quiet_out = closes.quiet;
}
  where
    untold : is_told end ≡ true → ⊥
    untold t = true≢false (sym t ∙ ap is_told (told_end RaceEnd.ReadFault end closes.kind t))

    apart : RaceEnd.ReadFault ≡ RaceEnd.DiskFault → ⊥
    apart e = cc

-- nothing is written, for want of memory
pub told_nothing : (most : ℕ) (left content : Option (List ℕ)) (before after : Counts) (writes : ℕ) → HasTold most left content before after content writes writes RaceEnd.NoMemory
told_nothing most left content before after writes = record {
  ends = λ t. absurd (untold t);
  read_fault = λ e. absurd (no_read e);
  alone = λ e. absurd (no_read e);
  write_fault = λ e. absurd (no_write e);
  disk_fault = λ e. absurd (no_disk e);
  unfinished = λ _. inl refl;
  quiet_in = λ t. absurd (untold t);
  quiet_out = λ _. refl;
}
  where
    untold : false ≡ true → ⊥
    untold e = cc

    no_read : RaceEnd.NoMemory ≡ RaceEnd.ReadFault → ⊥
    no_read e = cc

    no_write : RaceEnd.NoMemory ≡ RaceEnd.WriteFault → ⊥
    no_write e = cc

    no_disk : RaceEnd.NoMemory ≡ RaceEnd.DiskFault → ⊥
    no_disk e = cc
