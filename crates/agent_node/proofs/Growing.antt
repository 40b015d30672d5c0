-- The steps of a turn only add events.
use Rattle.std.proofs.Common.{ℕ, zero, suc, ◌+◌, ◌-◌, ◌<◌, ◌≤◌, ◌≡◌, ◌↔◌, Bool, true, false, List, [], ◌∷◌, refl, sym, ap, ◌∙◌, arith, length, length-append, le_refl, le_trans, add-one, Option, Some, None, ◌==◌}
use Rattle.nsi_primitive.specs.Messages.{identity}
use Rattle.nsi_primitive.specs.declared.entry.Entry.{Entry}
use Rattle.nsi_primitive.specs.declared.entry.Input.{Input}
use Rattle.nsi_primitive.specs.declared.message.Identity.{Identity}
use Rattle.nsi_primitive.specs.declared.message.Message.{Message}
use Rattle.nsi_primitive.specs.declared.message.Parcel.{Parcel}
use Rattle.nsi_primitive.specs.declared.state.Machine.{Machine}
use Rattle.nsi_agent.specs.Homes.{Home}
use Rattle.nsi_agent.specs.Steps.{after, is_new, waits, work_of, works_left}
use Rattle.agent_node.specs.Seat.{Seat, entered, enters, enters_now, enters_if, now_at, queues}
use Rattle.agent_node.specs.Turns.{takes, takes_all, works_off, work_then, worked, sync_event, syncs_if, synced_all, turn_entered, turn_with}

abbrev pub count : Seat → ℕ
count s = length s.events

pub entered_one : (h : Home) (e : Entry) (s : Seat) → count (enters h e s) ≡ count s + 1
unfolding enters
entered_one h e s = length-append s.events (entered s.number e (after h s.state e).answer ∷ [])

pub due_grow : (b : Bool) (h : Home) (input : Input) (s : Seat) → count s ≤ count (enters_if b h input s)
unfolding enters_if
due_grow true h input s = omega (arith, entered_one h (now_at s input) s)
due_grow false h input s = le_refl (count s)

pub takes_grow : (h : Home) (from : ℕ) (p : Parcel) (s : Seat) → count s ≤ count (takes h from p s)
unfolding takes
takes_grow h from (Parcel.Message m) s = due_grow (is_new h s.state m) h (Input.Got m) s
takes_grow h from (Parcel.Ack i) s = due_grow (waits i s.state) h (Input.Acked i) s

pub takes_all_grow : (h : Home) (xs : List (ℕ × Parcel)) (s : Seat) → count s ≤ count (takes_all h xs s)
unfolding takes_all
takes_all_grow h [] s = le_refl (count s)
takes_all_grow h (x ∷ xs) s = le_trans (takes_grow h x.0 x.1 s) (takes_all_grow h xs (takes h x.0 x.1 s))

works_then_grow : (o : Option (ℕ × Machine)) (h : Home) (f : Seat → Seat) (s : Seat) → ((t : Seat) → count t ≤ count (f t)) → count s ≤ count (work_then o h f s)
works_then_grow None h f s g = le_refl (count s)
works_then_grow (Some w) h f s g = le_trans (omega (arith, entered_one h (now_at s (Input.Work w.0 w.1)) s)) (g (enters_now h (Input.Work w.0 w.1) s))

pub works_off_grow : (n : ℕ) (h : Home) (s : Seat) → count s ≤ count (works_off n h s)
unfolding works_off
works_off_grow zero h s = le_refl (count s)
works_off_grow (suc n) h s = works_then_grow (work_of h.role s.state) h (works_off n h) s (works_off_grow n h)

pub worked_grow : (h : Home) (s : Seat) → count s ≤ count (worked h s)
worked_grow h s = works_off_grow (works_left h.role s.state) h s

syncs_if_grow : (b : Bool) (h : Home) (s : Seat) → count s ≤ count (syncs_if b h s)
unfolding syncs_if
syncs_if_grow true h s = le_refl (count s)
syncs_if_grow false h s = omega (arith, length-append s.events (sync_event s.number (s.synced + length s.fresh) ∷ []))

pub synced_grow : (h : Home) (s : Seat) → count s ≤ count (synced_all h s)
synced_grow h s = syncs_if_grow (length s.fresh == 0) h s

-- a turn has all events of its first steps
pub turn_from_entered : (h : Home) (xs : List (ℕ × Parcel)) (s : Seat) → count (turn_entered h xs s) ≤ count (turn_with h xs s)
unfolding turn_with
turn_from_entered h xs s = synced_grow h (turn_entered h xs s)

pub turn_from_taken : (h : Home) (xs : List (ℕ × Parcel)) (s : Seat) → count (takes_all h xs s) ≤ count (turn_with h xs s)
turn_from_taken h xs s = le_trans (worked_grow h (takes_all h xs s)) (turn_from_entered h xs s)

pub turn_synced : (h : Home) (xs : List (ℕ × Parcel)) (s : Seat) → count (synced_all h (turn_entered h xs s)) ≡ count (turn_with h xs s)
unfolding turn_with
turn_synced h xs s = refl

---- One after another

pub due_yes : (b : Bool) (h : Home) (input : Input) (s : Seat) → b ≡ true → enters_now h input s ≡ enters_if b h input s
unfolding enters_if
due_yes true h input s e = refl
due_yes false h input s e = absurd (cc)

pub due_no : (b : Bool) (h : Home) (input : Input) (s : Seat) → b ≡ false → enters_if b h input s ≡ s
unfolding enters_if
due_no true h input s e = absurd (cc)
due_no false h input s e = refl

pub takes_message : (h : Home) (from : ℕ) (p : Parcel) (m : Message) (i : Identity) (b : Bool) (s : Seat) → p ≡ Parcel.Message m → i ≡ identity m → b ≡ is_new h s.state m
    → queues from (Parcel.Ack i) (enters_if b h (Input.Got m) s) ≡ takes h from p s
unfolding takes
takes_message h from p m i b s e f g =
    ap (λ j. queues from (Parcel.Ack j) (enters_if b h (Input.Got m) s)) f
    ∙ (ap (λ c. queues from (Parcel.Ack (identity m)) (enters_if c h (Input.Got m) s)) g ∙ sym (ap (λ q. takes h from q s) e))

pub takes_ack : (h : Home) (from : ℕ) (p : Parcel) (i : Identity) (b : Bool) (s : Seat) → p ≡ Parcel.Ack i → b ≡ waits i s.state → enters_if b h (Input.Acked i) s ≡ takes h from p s
unfolding takes
takes_ack h from p i b s e f = ap (λ c. enters_if c h (Input.Acked i) s) f ∙ sym (ap (λ q. takes h from q s) e)

pub takes_next : (h : Home) (x : ℕ × Parcel) (xs : List (ℕ × Parcel)) (s : Seat) → takes_all h xs (takes h x.0 x.1 s) ≡ takes_all h (x ∷ xs) s
unfolding takes_all
takes_next h x xs s = refl

pub takes_done : (h : Home) (xs : List (ℕ × Parcel)) (s : Seat) → length xs ≡ 0 → takes_all h xs s ≡ s
unfolding takes_all
takes_done h [] s e = refl
takes_done h (x ∷ xs) s e = absurd (omega (arith, e))

pub queues_grow : (h : Home) (from : ℕ) (p : Parcel) (s : Seat) → count s ≤ count (queues from p s)
queues_grow h from p s = le_refl (count s)

works_off_next : (n : ℕ) (h : Home) (s : Seat) (w : ℕ × Machine) → work_of h.role s.state ≡ Some w → works_off (suc n) h s ≡ works_off n h (enters_now h (Input.Work w.0 w.1) s)
unfolding works_off
works_off_next n h s w e = ap (λ o. work_then o h (works_off n h) s) e

-- one work less, where it is the first
pub worked_next : (h : Home) (s : Seat) (w : ℕ × Machine) → work_of h.role s.state ≡ Some w → works_left h.role (after h s.state (now_at s (Input.Work w.0 w.1))).state + 1 ≡ works_left h.role s.state
    → worked h (enters_now h (Input.Work w.0 w.1) s) ≡ worked h s
unfolding enters
worked_next h s w e l =
    sym (ap (λ n. works_off n h s) (sym l ∙ add-one (works_left h.role (after h s.state (now_at s (Input.Work w.0 w.1))).state))
    ∙ works_off_next (works_left h.role (after h s.state (now_at s (Input.Work w.0 w.1))).state) h s w e)

none_off : (n : ℕ) (h : Home) (s : Seat) → work_of h.role s.state ≡ None → works_off n h s ≡ s
unfolding works_off
none_off zero h s e = refl
none_off (suc n) h s e = ap (λ o. work_then o h (works_off n h) s) e

pub worked_none : (h : Home) (s : Seat) → work_of h.role s.state ≡ None → worked h s ≡ s
worked_none h s e = none_off (works_left h.role s.state) h s e

pub some_left : (o : Option (ℕ × Machine)) (n : ℕ) (w : ℕ × Machine) → (o ≡ None ↔ n ≡ 0) → o ≡ Some w → 0 < n
some_left o zero w h e = absurd (let z : Some w ≡ None = sym e ∙ h.1 refl in cc)
some_left o (suc n) w h e = omega arith

-- the rest behind the first
pub worked_first : (h : Home) (s : Seat) (w : ℕ × Machine) → work_of h.role s.state ≡ Some w → 0 < works_left h.role s.state
    → works_off (works_left h.role s.state - 1) h (enters_now h (Input.Work w.0 w.1) s) ≡ worked h s
worked_first h s w e more =
    let n : suc (works_left h.role s.state - 1) ≡ works_left h.role s.state = omega (arith, more) in
    sym (ap (λ k. works_off k h s) (sym n) ∙ works_off_next (works_left h.role s.state - 1) h s w e)
