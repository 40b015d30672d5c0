-- A turn, a tick, an act and a restart go on by events that are due.
use Rattle.std.proofs.Common.{ℕ, zero, suc, ◌<◌, ◌≡◌, ◌==◌, Bool, true, false, List, [], ◌∷◌, ◌++◌, Option, Some, None, IfSome, inl, inr, refl, sym, ap, ◌∙◌, subst, arith, length, take, map, append-nil, le_refl}
use Rattle.std.proofs.lemmas.Bool.{cases_eq}
use Rattle.std.proofs.lemmas.List.{take_all, length-take-le}
use Rattle.nsi_primitive.specs.Messages.{identity}
use Rattle.nsi_primitive.specs.declared.entry.Entry.{Entry}
use Rattle.nsi_primitive.specs.declared.entry.Event.{Event}
use Rattle.nsi_primitive.specs.declared.entry.Happening.{Happening}
use Rattle.nsi_primitive.specs.declared.entry.Input.{Input}
use Rattle.nsi_primitive.specs.declared.message.Identity.{Identity}
use Rattle.nsi_primitive.specs.declared.message.Message.{Message}
use Rattle.nsi_primitive.specs.declared.message.Parcel.{Parcel}
use Rattle.nsi_primitive.specs.declared.state.Machine.{Machine}
use Rattle.nsi_agent.specs.Homes.{Home}
use Rattle.nsi_agent.specs.Steps.{is_new, waits, work_of, works_left}
use Rattle.nsi_agent.specs.Told.{told}
use Rattle.agent_node.specs.Acts.{overdue, tick_at, ticked}
use Rattle.agent_node.specs.Doors.{queue_at}
use Rattle.agent_node.specs.Passing.{says_all, lying, clears, pushes}
use Rattle.agent_node.specs.Restarts.{restart_event, restart_events, instead, reads, reads_past, cut_past}
use Rattle.agent_node.specs.Seat.{Seat, now_at, enters, enters_now, enters_if, queues}
use Rattle.agent_node.specs.Turns.{adds, cleared, takes, takes_all, work_then, works_off, worked, syncs_if, synced_all, pushed, turn_with, turned, halted}
use Rattle.nsi_play.specs.Play.{changes}
use Rattle.nsi_world.specs.Worlds.{Homes, World, synced_part}
use Rattle.nsi_world.specs.Runs.{at, happens_at, world_after}
use Rattle.nsi_world.specs.Seats.{Not}
use Rattle.nsi_world.proofs.ActSteps.{changed_here, changed_there}
use Rattle.nsi_world.proofs.Later.{at_same, at_other}
use Rattle.due_events.specs.Due.{AreDue}
use Rattle.due_events.proofs.Steps.{Holds, LeavesAlone, alone_twice, holds_alone, GoesDue, due_none, due_twice, due_enters, due_doors, due_syncs}

---- What came

got_due : (homes : Homes) (w : World) (a : ℕ) (b : Bool) (m : Message) (s : Seat) → s.number ≡ a → is_new (homes a) s.state m ≡ b → Holds homes w s → GoesDue homes w s (enters_if b (homes a) (Input.Got m) s)
unfolding enters_if
got_due homes w a true m s is new h = due_enters homes w (now_at s (Input.Got m)) a s is h new
got_due homes w a false m s is new h = due_none homes w s h

acked_due : (homes : Homes) (w : World) (a : ℕ) (b : Bool) (i : Identity) (s : Seat) → s.number ≡ a → waits i s.state ≡ b → Holds homes w s → GoesDue homes w s (enters_if b (homes a) (Input.Acked i) s)
unfolding enters_if
acked_due homes w a true i s is waiting h = due_enters homes w (now_at s (Input.Acked i)) a s is h waiting
acked_due homes w a false i s is waiting h = due_none homes w s h

takes_due : (homes : Homes) (w : World) (a from : ℕ) (p : Parcel) (s : Seat) → s.number ≡ a → Holds homes w s → GoesDue homes w s (takes (homes a) from p s)
unfolding takes
takes_due homes w a from (Parcel.Message m) s is h =
    let b : Bool = is_new (homes a) s.state m in
    let u : Seat = enters_if b (homes a) (Input.Got m) s in
    let ack : Parcel = Parcel.Ack (identity m) in
    let p = got_due homes w a b m s is refl h in
    due_twice homes w s u (queues from ack u) p (due_doors homes (world_after w p.own) u (queue_at from ack u.doors) p.holds)
takes_due homes w a from (Parcel.Ack i) s is h = acked_due homes w a (waits i s.state) i s is refl h

all_due : (homes : Homes) (w : World) (a : ℕ) (xs : List (ℕ × Parcel)) (s : Seat) → s.number ≡ a → Holds homes w s → GoesDue homes w s (takes_all (homes a) xs s)
unfolding takes_all
all_due homes w a [] s is h = due_none homes w s h
all_due homes w a (x ∷ xs) s is h =
    let u : Seat = takes (homes a) x.0 x.1 s in
    let p = takes_due homes w a x.0 x.1 s is h in
    due_twice homes w s u (takes_all (homes a) xs u) p (all_due homes (world_after w p.own) a xs u (p.number ∙ is) p.holds)

---- Work

work_due : (homes : Homes) (w : World) (a : ℕ) (o : Option (ℕ × Machine)) (rest : Seat → Seat) (s : Seat) → s.number ≡ a → work_of (homes a).role s.state ≡ o → Holds homes w s
    → ((v : World) (u : Seat) → u.number ≡ a → Holds homes v u → GoesDue homes v u (rest u)) → GoesDue homes w s (work_then o (homes a) rest s)
work_due homes w a None rest s is e h more = due_none homes w s h
work_due homes w a (Some x) rest s is e h more =
    let i : Input = Input.Work x.0 x.1 in
    let u : Seat = enters_now (homes a) i s in
    let p = due_enters homes w (now_at s i) a s is h e in
    due_twice homes w s u (rest u) p (more (world_after w p.own) u (p.number ∙ is) p.holds)

works_due : (homes : Homes) (w : World) (a n : ℕ) (s : Seat) → s.number ≡ a → Holds homes w s → GoesDue homes w s (works_off n (homes a) s)
unfolding works_off
works_due homes w a zero s is h = due_none homes w s h
works_due homes w a (suc n) s is h = work_due homes w a (work_of (homes a).role s.state) (works_off n (homes a)) s is refl h (λ v u here k. works_due homes v a n u here k)

---- A turn

some_entries : (es : List Entry) → (length es == 0) ≡ false → 0 < length es
some_entries [] e = absurd (cc)
some_entries (x ∷ xs) e = omega arith

synced_due : (homes : Homes) (w : World) (a : ℕ) (b : Bool) (s : Seat) → s.number ≡ a → (length s.fresh == 0) ≡ b → Holds homes w s → GoesDue homes w s (syncs_if b (homes a) s)
unfolding syncs_if
synced_due homes w a true s is none h = due_none homes w s h
synced_due homes w a false s is none h = due_syncs homes w a s is h (some_entries s.fresh none)

-- a turn that ends where the disk stops
pub halted_due : (homes : Homes) (w : World) (s : Seat) → Holds homes w s → GoesDue homes w s (halted (homes s.number) s)
halted_due homes w s h =
    let n : ℕ = s.number in
    let home : Home = homes n in
    let a : Seat = cleared s in
    let p = due_doors homes w s (map clears s.doors) h in
    let w1 : World = world_after w p.own in
    let b : Seat = takes_all home (lying s.doors) a in
    let q = all_due homes w1 n (lying s.doors) a refl p.holds in
    let w2 : World = world_after w1 q.own in
    let c : Seat = worked home b in
    let r = works_due homes w2 n (works_left home.role b.state) b q.number q.holds in
    due_twice homes w s a c p (due_twice homes w1 a b c q r)

pub turned_due : (homes : Homes) (w : World) (s : Seat) → Holds homes w s → GoesDue homes w s (turned (homes s.number) s)
unfolding turn_with
turned_due homes w s h =
    let n : ℕ = s.number in
    let home : Home = homes n in
    let c : Seat = halted home s in
    let r = halted_due homes w s h in
    let w1 : World = world_after w r.own in
    let d : Seat = synced_all home c in
    let u = synced_due homes w1 n (length c.fresh == 0) c r.number refl r.holds in
    let w2 : World = world_after w1 u.own in
    due_twice homes w s c (pushed d) r (due_twice homes w1 c d (pushed d) u (due_doors homes w2 d (map pushes d.doors) u.holds))

---- Ticks

pub ticked_due : (homes : Homes) (second : ℕ) (w : World) (s : Seat) → Holds homes w s → GoesDue homes w s (ticked (homes s.number) second s)
unfolding ticked
ticked_due homes second w s h =
    let a : ℕ = s.number in
    let u : Seat = enters (homes a) (tick_at second) s in
    let p = due_enters homes w (tick_at second) a s refl h tt in
    due_twice homes w s u (ticked (homes a) second s) p (due_doors homes (world_after w p.own) u (says_all (homes a).agent_of (overdue s) s.doors) p.holds)

---- Restarts

past_instead : (o : Option (List Entry)) (es ys : List Entry) → es ≡ ys → IfSome (instead es o) (λ xs. xs ≡ ys)
past_instead None es ys e = tt
past_instead (Some past) es ys e = e

-- restarts are due, and behind the first one nothing changes
record Repeats (homes : Homes) (v : World) (es : List Event) : Type 0 where
  pub due : AreDue homes v es
  pub alone : LeavesAlone (λ b. Unit {0}) v (world_after v es)

repeats : (homes : Homes) (a n tries : ℕ) (v : World) → v.synced a ≡ n → length (v.journal a) ≡ n → Repeats homes v (restart_events tries a n)
unfolding world_after AreDue
repeats homes a n zero v e f = record { due = tt; alone = λ b u. (refl, refl) }
repeats homes a n (suc tries) v e f =
    let js : List Entry = v.journal a in
    let x : World = happens_at v a (Happening.Restart n) in
    let all : take n js ≡ js = take_all n js (omega (arith, f)) in
    let one : LeavesAlone (λ b. Unit {0}) v x = λ b u. elim (cases_eq b a) [
      | inl q ↦ (
        subst (λ c. at a (take n js) v.journal c ≡ v.journal c) (sym q) (at_same a (take n js) v.journal ∙ all),
        subst (λ c. at a n v.synced c ≡ v.synced c) (sym q) (at_same a n v.synced ∙ sym e),
      )
      | inr m ↦ (at_other a b (take n js) v.journal m, at_other a b n v.synced m)
    ] in
    let rest = repeats homes a n tries x ((one a tt).1 ∙ e) (ap length (one a tt).0 ∙ f) in
    record { due = (tt, rest.due); alone = alone_twice (λ b. Unit {0}) v x (world_after x (restart_events tries a n)) one rest.alone }

pub reads_due : (homes : Homes) (w : World) (tries : ℕ) (es : List Entry) (s : Seat) → Holds homes w s → take (length es) (w.journal s.number) ≡ es → GoesDue homes w s (reads (homes s.number) tries es s)
unfolding reads world_after AreDue
reads_due homes w tries es s h is =
    let a : ℕ = s.number in
    let n : ℕ = length es in
    let js : List Entry = w.journal a in
    let v : World = happens_at w a (Happening.Restart n) in
    let here : v.journal a ≡ es = at_same a (take n js) w.journal ∙ is in
    let synced : v.synced a ≡ n = at_same a n w.synced in
    let part : synced_part v a ≡ es = ap (λ k. take k (v.journal a)) synced ∙ (ap (take n) here ∙ take_all n es (le_refl n)) in
    let more : List Event = restart_events tries a n in
    let r = repeats homes a n tries v synced (ap length here) in
    let first : LeavesAlone (Not a) w v = λ b m. (at_other a b (take n js) w.journal m, at_other a b n w.synced m) in
    let holds : Holds homes v (reads (homes a) tries es s) = record {
      within = omega (arith, synced, ap length here);
      journal = here ∙ (sym part ∙ sym (append-nil (synced_part v a)));
      synced = synced;
      past = past_instead s.past es (synced_part v a) (sym part);
      state = ap (λ (xs : List Entry). (told (homes a) xs).state) here;
    } in
    record {
      own = restart_event a n ∷ more;
      events = refl;
      due = (tt, r.due);
      alone = alone_twice (Not a) w v (world_after v more) first (λ b m. r.alone b tt);
      number = refl;
      holds = holds_alone homes (λ b. Unit {0}) v (world_after v more) (reads (homes a) tries es s) tt r.alone holds;
    }

-- what it tells of the synced entries is what it reads
past_due : (homes : Homes) (w : World) (tries : ℕ) (s : Seat) (o : Option (List Entry)) → IfSome o (λ es. es ≡ synced_part w s.number) → Holds homes w s → GoesDue homes w s (reads_past o (homes s.number) tries s)
past_due homes w tries s None e h = due_none homes w s h
past_due homes w tries s (Some es) e h =
    let js : List Entry = w.journal s.number in
    let count : length es ≡ w.synced s.number = ap length e ∙ length-take-le (w.synced s.number) js h.within in
    reads_due homes w tries es s h (ap (λ k. take k js) count ∙ sym e)

pub read_due : (homes : Homes) (w : World) (tries : ℕ) (s : Seat) → Holds homes w s → GoesDue homes w s (reads_past s.past (homes s.number) tries s)
read_due homes w tries s h = past_due homes w tries s s.past h.past h

-- where the whole batch was kept it reads all that it has taken
whole_due : (homes : Homes) (w : World) (tries : ℕ) (s : Seat) (o : Option (List Entry)) → IfSome o (λ es. es ≡ synced_part w s.number) → Holds homes w s → GoesDue homes w s (reads_past (adds s.fresh o) (homes s.number) tries s)
whole_due homes w tries s None e h = due_none homes w s h
whole_due homes w tries s (Some past) e h =
    let js : List Entry = w.journal s.number in
    let es : List Entry = past ++ s.fresh in
    let all : es ≡ js = ap (λ xs. xs ++ s.fresh) e ∙ sym h.journal in
    reads_due homes w tries es s h (take_all (length es) js (omega (arith, ap length all)) ∙ sym all)

pub reopened_due : (homes : Homes) (w : World) (keeps : Bool) (tries : ℕ) (s : Seat) → Holds homes w s → GoesDue homes w s (reads_past (cut_past keeps s) (homes s.number) tries s)
reopened_due homes w true tries s h = whole_due homes w tries s s.past h.past h
reopened_due homes w false tries s h = past_due homes w tries s s.past h.past h

---- Acts

pub changed_due : (homes : Homes) (w : World) (a : ℕ) (f : Seat → Seat) (s : Seat) → Holds homes w s → (s.number ≡ a → GoesDue homes w s (f s)) → GoesDue homes w s (changes a f s)
changed_due homes w a f s h g = elim (cases_eq s.number a) [
  | inl e ↦ subst (GoesDue homes w s) (sym (changed_here a f s e)) (g e)
  | inr n ↦ subst (GoesDue homes w s) (sym (changed_there a f s n)) (due_none homes w s h)
]
