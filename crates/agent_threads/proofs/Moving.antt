-- What an agent takes is an event of its own, and only a tick moves its clock.
use Rattle.std.proofs.Common.{ℕ, zero, suc, ◌+◌, ◌≤◌, ◌≡◌, ◌==◌, Bool, true, false, cond, List, [], ◌∷◌, ◌++◌, ◌∙◌, append_assoc, append-nil, refl, sym, ap, subst, arith, length, length-append}
use Rattle.std.specs.Prelude.{Option, Some, None}
use Rattle.nsi_primitive.specs.declared.entry.Entry.{Entry}
use Rattle.nsi_primitive.specs.declared.entry.Event.{Event}
use Rattle.nsi_primitive.specs.declared.entry.Input.{Input}
use Rattle.nsi_primitive.specs.declared.message.Parcel.{Parcel}
use Rattle.nsi_primitive.specs.declared.state.Machine.{Machine}
use Rattle.agent_state.specs.State.{AgentState, AgentStepped}
use Rattle.nsi_agent.specs.Homes.{Home}
use Rattle.nsi_agent.specs.Steps.{after, may_take_as, is_new, waits, work_of, works_left}
use Rattle.nsi_agent.proofs.Staying.{entries_are_taken, others_are_left_out}
use Rattle.agent_node.specs.Seat.{Seat, entered, enters, enters_if, enters_now, now_at}
use Rattle.agent_node.specs.Turns.{lying, cleared, takes, takes_all, works_off, work_then, worked, sync_event, syncs_if, synced_all, turn_with, turned, halted}
use Rattle.agent_node.specs.Acts.{asked, forced, tick_at, ticked}
use Rattle.agent_node.specs.Meetings.{met}
use Rattle.nsi_script.specs.declared.script.Act.{Act}
use Rattle.nsi_play.specs.Rounds.{Net, meets_each}
use Rattle.agent_threads.specs.Made.{tick_to, part_in}
use Rattle.nsi_play.specs.Play.{RestartsNone}
use Rattle.agent_threads.specs.Bounds.{AreBy, Moves}

---- Entries

-- what an entry makes of the count and of the clock
record IsAfter (s : AgentState) (e : Entry) (x : AgentStepped) : Type 0 where
  taken : x.state.base.taken ≤ s.base.taken + 1
  clock : (second : ℕ) → s.base.now ≤ second → e.second ≤ second → x.state.base.now ≤ second

after_is : (h : Home) (s : AgentState) (e : Entry) → IsAfter s e (after h s e)
after_is h s e = by_may (may_take_as h.role s e) refl
  where
    by_may : (b : Bool) → may_take_as h.role s e ≡ b → IsAfter s e (after h s e)
    by_may true may =
        let x = entries_are_taken h s e may in
        record {
          taken = omega (arith, x.taken);
          clock = λ second p q. omega (arith, x.now, q);
        }
    by_may false not =
        let x = others_are_left_out h s e not in
        subst (λ (z : AgentStepped). IsAfter s e z) (sym x) (record {
          taken = omega arith;
          clock = λ second p q. p;
        })

---- Steps

by_append : (a : ℕ) (xs ys : List Event) → AreBy a xs → AreBy a ys → AreBy a (xs ++ ys)
by_append a [] ys p q = q
by_append a (x ∷ xs) ys p q = (p.0, by_append a xs ys p.1 q)

-- its number, its state and its events stay
pub moves_none : (to : ℕ) (s u : Seat) → u.number ≡ s.number → u.state ≡ s.state → u.events ≡ s.events → Moves to s u
moves_none to s u n e f =
    let taken : u.state.base.taken ≡ s.state.base.taken = ap (λ (x : AgentState). x.base.taken) e in
    let now : u.state.base.now ≡ s.state.base.now = ap (λ (x : AgentState). x.base.now) e in
    record {
      number = n;
      more = [];
      events = f ∙ sym (append-nil s.events);
      own = tt;
      taken = omega (arith, taken, ap length f);
      clock = λ second p q. omega (arith, now, q);
    }

pub moves_self : (to : ℕ) (s : Seat) → Moves to s s
moves_self to s = moves_none to s s refl refl refl

pub moves_then : (to : ℕ) (s u v : Seat) → Moves to s u → Moves to u v → Moves to s v
moves_then to s u v p q = record {
  number = q.number ∙ p.number;
  more = p.more ++ q.more;
  events = q.events ∙ (ap (λ (es : List Event). es ++ q.more) p.events ∙ append_assoc s.events p.more q.more);
  own = by_append s.number p.more q.more p.own (subst (λ (n : ℕ). AreBy n q.more) p.number q.own);
  taken = omega (arith, p.taken, q.taken);
  clock = λ second a b. q.clock second a (p.clock second a b);
}

-- then they stay
moves_still : (to : ℕ) (s u v : Seat) → Moves to s u → v.number ≡ u.number → v.state ≡ u.state → v.events ≡ u.events → Moves to s v
moves_still to s u v p n e f = moves_then to s u v p (moves_none to u v n e f)

moves_one : (to : ℕ) (h : Home) (e : Entry) (s : Seat) → ((second : ℕ) → to ≤ second → s.state.base.now ≤ second → e.second ≤ second) → Moves to s (enters h e s)
unfolding enters
moves_one to h e s f =
    let x : Event = entered s.number e (after h s.state e).answer in
    let a = after_is h s.state e in
    record {
      number = refl;
      more = x ∷ [];
      events = refl;
      own = (refl, tt);
      taken = omega (arith, a.taken, length-append s.events (x ∷ []));
      clock = λ second p q. a.clock second q (f second p q);
    }

moves_now : (to : ℕ) (h : Home) (input : Input) (s : Seat) → Moves to s (enters_now h input s)
moves_now to h input s = moves_one to h (now_at s input) s (λ second p q. q)

moves_maybe : (to : ℕ) (b : Bool) (h : Home) (input : Input) (s : Seat) → Moves to s (enters_if b h input s)
unfolding enters_if
moves_maybe to true h input s = moves_now to h input s
moves_maybe to false h input s = moves_self to s

take_moves : (to : ℕ) (h : Home) (from : ℕ) (p : Parcel) (s : Seat) → Moves to s (takes h from p s)
unfolding takes
take_moves to h from (Parcel.Message m) s =
    let u : Seat = enters_if (is_new h s.state m) h (Input.Got m) s in
    moves_still to s u _ (moves_maybe to (is_new h s.state m) h (Input.Got m) s) refl refl refl
take_moves to h from (Parcel.Ack i) s = moves_maybe to (waits i s.state) h (Input.Acked i) s

takes_move : (to : ℕ) (h : Home) (xs : List (ℕ × Parcel)) (s : Seat) → Moves to s (takes_all h xs s)
unfolding takes_all
takes_move to h [] s = moves_self to s
takes_move to h (x ∷ xs) s = moves_then to s (takes h x.0 x.1 s) (takes_all h xs (takes h x.0 x.1 s)) (take_moves to h x.0 x.1 s) (takes_move to h xs (takes h x.0 x.1 s))

works_move : (to n : ℕ) (h : Home) (s : Seat) → Moves to s (works_off n h s)
unfolding works_off
works_move to zero h s = moves_self to s
works_move to (suc n) h s = by_work (work_of h.role s.state) (works_move to n h)
  where
    by_work : (w : Option (ℕ × Machine)) → ((u : Seat) → Moves to u (works_off n h u)) → Moves to s (work_then w h (works_off n h) s)
    by_work None f = moves_self to s
    by_work (Some w) f =
        let u : Seat = enters_now h (Input.Work w.0 w.1) s in
        moves_then to s u (works_off n h u) (moves_now to h (Input.Work w.0 w.1) s) (f u)

-- a sync takes nothing
sync_moves : (to : ℕ) (b : Bool) (h : Home) (s : Seat) → Moves to s (syncs_if b h s)
unfolding syncs_if
sync_moves to true h s = moves_self to s
sync_moves to false h s =
    let x : Event = sync_event s.number (s.synced + length s.fresh) in
    record {
      number = refl;
      more = x ∷ [];
      events = refl;
      own = (refl, tt);
      taken = omega (arith, length-append s.events (x ∷ []));
      clock = λ second p q. q;
    }

---- Turns and acts

pub turned_moves : (to : ℕ) (h : Home) (s : Seat) → Moves to s (turned h s)
unfolding turn_with
turned_moves to h s =
    let a : Seat = cleared s in
    let b : Seat = takes_all h (lying s.doors) a in
    let u : Seat = worked h b in
    let v : Seat = synced_all h u in
    let first : Moves to s b = moves_then to s a b (moves_none to s a refl refl refl) (takes_move to h (lying s.doors) a) in
    let made : Moves to s u = moves_then to s b u first (works_move to (works_left h.role b.state) h b) in
    let all : Moves to s v = moves_then to s u v made (sync_moves to (length u.fresh == 0) h u) in
    moves_still to s v _ all refl refl refl

pub halted_moves : (to : ℕ) (h : Home) (s : Seat) → Moves to s (halted h s)
halted_moves to h s =
    let a : Seat = cleared s in
    let b : Seat = takes_all h (lying s.doors) a in
    let first : Moves to s b = moves_then to s a b (moves_none to s a refl refl refl) (takes_move to h (lying s.doors) a) in
    moves_then to s b (worked h b) first (works_move to (works_left h.role b.state) h b)

pub tick_moves : (to : ℕ) (h : Home) (s : Seat) → Moves to s (tick_to to h s)
unfolding ticked
tick_moves to h s = moves_still to s (enters h (tick_at to) s) _ (moves_one to h (tick_at to) s (λ second p q. p)) refl refl refl

changes_move : (b : Bool) (u s : Seat) → Moves 0 s u → Moves 0 s (cond b u s)
changes_move true u s p = p
changes_move false u s p = moves_self 0 s

pub part_moves : (act : Act) → RestartsNone act → (n : ℕ) (h : Home) (s : Seat) → Moves 0 s (part_in act n h s)
part_moves (Act.Ask a ask) none n h s = changes_move (s.number == a) (asked h n ask s) s (moves_now 0 h (Input.Ask n ask) s)
part_moves (Act.Force a k) none n h s = changes_move (s.number == a) (forced h k s) s (moves_now 0 h (Input.Force k) s)
part_moves (Act.Restart a) none n h s = absurd none

---- Meetings

met_moves : (to : ℕ) (o s : Seat) → Moves to s (met o s)
unfolding met
met_moves to o s = moves_none to s _ refl refl refl

-- meeting is no event
pub meets_move : (to : ℕ) (s : Seat) (os : Net) → Moves to s (meets_each s os)
unfolding meets_each
meets_move to s [] = moves_self to s
meets_move to s (o ∷ os) = moves_then to s (met o s) (meets_each (met o s) os) (met_moves to o s) (meets_move to (met o s) os)
