-- What an agent does is due: an entry, a change at its doors, a sync.
use Rattle.std.proofs.Common.{ℕ, ◌+◌, ◌<◌, ◌≤◌, ◌≡◌, List, [], ◌∷◌, ◌++◌, Option, Some, None, IfSome, refl, sym, ap, ◌∙◌, subst, arith, length, take, append_assoc, append-nil, length-append}
use Rattle.std.proofs.lemmas.List.{take-append-le, take_all, length-take-le}
use Rattle.nsi_primitive.specs.declared.entry.Entry.{Entry}
use Rattle.nsi_primitive.specs.declared.entry.Event.{Event}
use Rattle.nsi_primitive.specs.declared.entry.Happening.{Happening}
use Rattle.agent_state.specs.State.{AgentStepped}
use Rattle.nsi_agent.specs.Steps.{after}
use Rattle.nsi_agent.specs.Told.{told}
use Rattle.agent_node.specs.Doors.{Door}
use Rattle.agent_node.specs.Seat.{Seat, enters}
use Rattle.agent_node.specs.Turns.{adds, sync_event, syncs}
use Rattle.nsi_world.specs.Worlds.{Homes, World, synced_part}
use Rattle.nsi_world.specs.Runs.{happens_at, world_after}
use Rattle.nsi_world.specs.Seats.{Not}
use Rattle.nsi_world.proofs.Later.{told_state, at_same, at_other, past_as, after_append}
use Rattle.due_events.specs.Due.{IsDueInput, AreDue}
use Rattle.due_events.proofs.Fronts.{due_append}

---- Seats

-- it has the agent's journal in the world, its state is what that makes, and what it tells of synced entries is so
pub record Holds (homes : Homes) (w : World) (s : Seat) : Type 0 where
  pub within : w.synced s.number ≤ length (w.journal s.number)
  pub journal : w.journal s.number ≡ synced_part w s.number ++ s.fresh
  pub synced : w.synced s.number ≡ s.synced
  pub past : IfSome s.past (λ es. es ≡ synced_part w s.number)
  pub state : (told (homes s.number) (w.journal s.number)).state ≡ s.state

-- at some agents nothing has happened
abbrev pub LeavesAlone : (ℕ → Type 0) → World → World → Type 0
LeavesAlone rests w v = (b : ℕ) → rests b → (v.journal b ≡ w.journal b) × (v.synced b ≡ w.synced b)

pub alone_twice : (rests : ℕ → Type 0) (w v u : World) → LeavesAlone rests w v → LeavesAlone rests v u → LeavesAlone rests w u
alone_twice rests w v u p q b n = ((q b n).0 ∙ (p b n).0, (q b n).1 ∙ (p b n).1)

-- another agent's seat is as before
pub holds_alone : (homes : Homes) (rests : ℕ → Type 0) (w v : World) (s : Seat) → rests s.number → LeavesAlone rests w v → Holds homes w s → Holds homes v s
holds_alone homes rests w v s n f h =
    let a : ℕ = s.number in
    let journal : v.journal a ≡ w.journal a = (f a n).0 in
    let synced : v.synced a ≡ w.synced a = (f a n).1 in
    let same : synced_part v a ≡ synced_part w a = ap (λ k. take k (v.journal a)) synced ∙ ap (take (w.synced a)) journal in
    record {
      within = let low = h.within in omega (arith, low, synced, ap length journal);
      journal = journal ∙ (h.journal ∙ ap (λ es. es ++ s.fresh) (sym same));
      synced = synced ∙ h.synced;
      past = past_as s.past (synced_part w a) (synced_part v a) same h.past;
      state = ap (λ (es : List Entry). (told (homes a) es).state) journal ∙ h.state;
    }

-- it goes on by events that are due, and is so in the world after them
pub record GoesDue (homes : Homes) (w : World) (old new : Seat) : Type 0 where
  pub own : List Event
  pub events : new.events ≡ old.events ++ own
  pub due : AreDue homes w own
  pub alone : LeavesAlone (Not old.number) w (world_after w own)
  pub number : new.number ≡ old.number
  pub holds : Holds homes (world_after w own) new

pub due_none : (homes : Homes) (w : World) (s : Seat) → Holds homes w s → GoesDue homes w s s
unfolding world_after AreDue
due_none homes w s h = record { own = []; events = sym (append-nil s.events); due = tt; alone = λ b n. (refl, refl); number = refl; holds = h }

pub due_twice : (homes : Homes) (w : World) (s u v : Seat) → (p : GoesDue homes w s u) → GoesDue homes (world_after w p.own) u v → GoesDue homes w s v
due_twice homes w s u v p q =
    let x : World = world_after w p.own in
    let y : World = world_after x q.own in
    record {
      own = p.own ++ q.own;
      events = q.events ∙ (ap (λ es. es ++ q.own) p.events ∙ append_assoc s.events p.own q.own);
      due = due_append homes w p.own q.own p.due q.due;
      alone = subst (λ z. LeavesAlone (Not s.number) w z) (sym (after_append w p.own q.own)) (alone_twice (Not s.number) w x y p.alone (subst (λ a. LeavesAlone (Not a) x y) p.number q.alone));
      number = q.number ∙ p.number;
      holds = subst (λ z. Holds homes z v) (sym (after_append w p.own q.own)) q.holds;
    }

---- An entry

enters_here : (homes : Homes) (w : World) (e : Entry) (s : Seat) → Holds homes w s → IsDueInput (homes s.number) s.state e.input → GoesDue homes w s (enters (homes s.number) e s)
unfolding enters world_after AreDue
enters_here homes w e s h due =
    let a : ℕ = s.number in
    let x : AgentStepped = after (homes a) s.state e in
    let js : List Entry = w.journal a in
    let v : World = happens_at w a (Happening.Entry e x.answer) in
    let here : v.journal a ≡ js ++ e ∷ [] = at_same a (js ++ e ∷ []) w.journal in
    let part : synced_part v a ≡ synced_part w a = ap (take (w.synced a)) here ∙ take-append-le (w.synced a) js (e ∷ []) h.within in
    record {
      own = record { agent = a; what = Happening.Entry e x.answer } ∷ [];
      events = refl;
      due = (subst (λ z. IsDueInput (homes a) z e.input) (sym h.state) due, tt);
      alone = λ b n. (at_other a b (js ++ e ∷ []) w.journal n, refl);
      number = refl;
      holds = record {
        within = let low = h.within in omega (arith, low, ap length here, length-append js (e ∷ []));
        journal = here ∙ (ap (λ es. es ++ e ∷ []) h.journal ∙ (append_assoc (synced_part w a) s.fresh (e ∷ []) ∙ ap (λ es. es ++ (s.fresh ++ e ∷ [])) (sym part)));
        synced = h.synced;
        past = past_as s.past (synced_part w a) (synced_part v a) part h.past;
        state = ap (λ (es : List Entry). (told (homes a) es).state) here ∙ (told_state (homes a) js e ∙ ap (λ z. (after (homes a) z e).state) h.state);
      };
    }

pub due_enters : (homes : Homes) (w : World) (e : Entry) (a : ℕ) (s : Seat) → s.number ≡ a → Holds homes w s → IsDueInput (homes a) s.state e.input → GoesDue homes w s (enters (homes a) e s)
due_enters homes w e a s is h due = subst (λ b. IsDueInput (homes b) s.state e.input → GoesDue homes w s (enters (homes b) e s)) is (enters_here homes w e s h) due

---- The doors alone

pub due_doors : (homes : Homes) (w : World) (s : Seat) (ds : List Door) → Holds homes w s → GoesDue homes w s (record s { doors = ds })
unfolding world_after AreDue
due_doors homes w s ds h = record {
  own = [];
  events = sym (append-nil s.events);
  due = tt;
  alone = λ b n. (refl, refl);
  number = refl;
  holds = record { within = h.within; journal = h.journal; synced = h.synced; past = h.past; state = h.state };
}

---- A sync

past_adds : (o : Option (List Entry)) (fresh xs ys : List Entry) → ys ≡ xs ++ fresh → IfSome o (λ es. es ≡ xs) → IfSome (adds fresh o) (λ es. es ≡ ys)
past_adds None fresh xs ys e h = tt
past_adds (Some es) fresh xs ys e h = ap (λ zs. zs ++ fresh) h ∙ sym e

syncs_here : (homes : Homes) (w : World) (s : Seat) → Holds homes w s → 0 < length s.fresh → GoesDue homes w s (syncs (homes s.number) s)
unfolding world_after AreDue
syncs_here homes w s h some =
    let a : ℕ = s.number in
    let js : List Entry = w.journal a in
    let n : ℕ = s.synced + length s.fresh in
    let v : World = happens_at w a (Happening.Sync n) in
    let length_is = ap length h.journal in
    let front = length-take-le (w.synced a) js h.within in
    let both = length-append (synced_part w a) s.fresh in
    let synced = h.synced in
    let e : n ≡ length js = omega (arith, length_is, both, front, synced) in
    let whole : synced_part v a ≡ js = ap (λ k. take k js) (at_same a n w.synced) ∙ take_all n js (omega (arith, e)) in
    record {
      own = sync_event a n ∷ [];
      events = refl;
      due = (omega (arith, some, e, synced), tt);
      alone = λ b m. (refl, at_other a b n w.synced m);
      number = refl;
      holds = record {
        within = omega (arith, e, at_same a n w.synced);
        journal = sym whole ∙ sym (append-nil (synced_part v a));
        synced = at_same a n w.synced;
        past = past_adds s.past s.fresh (synced_part w a) (synced_part v a) (whole ∙ h.journal) h.past;
        state = h.state;
      };
    }

pub due_syncs : (homes : Homes) (w : World) (a : ℕ) (s : Seat) → s.number ≡ a → Holds homes w s → 0 < length s.fresh → GoesDue homes w s (syncs (homes a) s)
due_syncs homes w a s is h some = subst (λ b. GoesDue homes w s (syncs (homes b) s)) is (syncs_here homes w s h some)
