-- What is told of synced entries changes nothing but itself, and grows by what is synced.
use Rattle.std.proofs.Common.{ℕ, zero, suc, ◌≡◌, ◌==◌, Bool, true, false, List, [], ◌∷◌, ◌++◌, Option, Some, None, refl, sym, ap, ◌∙◌, arith, length, append-nil, eqb-true}
use Rattle.nsi_primitive.specs.Messages.{identity}
use Rattle.nsi_primitive.specs.declared.entry.Entry.{Entry}
use Rattle.nsi_primitive.specs.declared.entry.Input.{Input}
use Rattle.nsi_primitive.specs.declared.message.Parcel.{Parcel}
use Rattle.nsi_primitive.specs.declared.state.Machine.{Machine}
use Rattle.nsi_agent.specs.Homes.{Home}
use Rattle.nsi_agent.specs.Steps.{is_new, waits, work_of, works_left}
use Rattle.agent_node.specs.Seat.{Seat, enters, enters_now, enters_if, now_at, queues}
use Rattle.agent_node.specs.Turns.{lying, cleared, takes, takes_all, work_then, works_off, worked, adds, syncs_if, pushed, turn_entered, turn_with, turned}
use Rattle.agent_node.specs.Acts.{ticked}
use Rattle.agent_node.specs.Meetings.{met}

abbrev pub with_past : Option (List Entry) → Seat → Seat
with_past p s = record s { past = p }

pub past_enters : (p : Option (List Entry)) (h : Home) (e : Entry) (s : Seat) → enters h e (with_past p s) ≡ with_past p (enters h e s)
unfolding enters
past_enters p h e s = refl

past_if : (p : Option (List Entry)) (b : Bool) (h : Home) (input : Input) (s : Seat) → enters_if b h input (with_past p s) ≡ with_past p (enters_if b h input s)
unfolding enters_if
past_if p true h input s = past_enters p h (now_at s input) s
past_if p false h input s = refl

past_takes : (p : Option (List Entry)) (h : Home) (from : ℕ) (parcel : Parcel) (s : Seat) → takes h from parcel (with_past p s) ≡ with_past p (takes h from parcel s)
unfolding takes
past_takes p h from (Parcel.Message m) s = ap (queues from (Parcel.Ack (identity m))) (past_if p (is_new h s.state m) h (Input.Got m) s)
past_takes p h from (Parcel.Ack i) s = past_if p (waits i s.state) h (Input.Acked i) s

past_takes_all : (p : Option (List Entry)) (h : Home) (xs : List (ℕ × Parcel)) (s : Seat) → takes_all h xs (with_past p s) ≡ with_past p (takes_all h xs s)
unfolding takes_all
past_takes_all p h [] s = refl
past_takes_all p h (x ∷ xs) s = ap (takes_all h xs) (past_takes p h x.0 x.1 s) ∙ past_takes_all p h xs (takes h x.0 x.1 s)

past_work : (p : Option (List Entry)) (o : Option (ℕ × Machine)) (h : Home) (rest : Seat → Seat) (s : Seat) → ((u : Seat) → rest (with_past p u) ≡ with_past p (rest u)) → work_then o h rest (with_past p s) ≡ with_past p (work_then o h rest s)
past_work p None h rest s more = refl
past_work p (Some w) h rest s more = ap rest (past_enters p h (now_at s (Input.Work w.0 w.1)) s) ∙ more (enters_now h (Input.Work w.0 w.1) s)

past_works : (p : Option (List Entry)) (n : ℕ) (h : Home) (s : Seat) → works_off n h (with_past p s) ≡ with_past p (works_off n h s)
unfolding works_off
past_works p zero h s = refl
past_works p (suc n) h s = past_work p (work_of h.role s.state) h (works_off n h) s (past_works p n h)

pub past_entered : (p : Option (List Entry)) (h : Home) (xs : List (ℕ × Parcel)) (s : Seat) → turn_entered h xs (with_past p s) ≡ with_past p (turn_entered h xs s)
past_entered p h xs s =
    let u : Seat = takes_all h xs s in
    ap (worked h) (past_takes_all p h xs s) ∙ past_works p (works_left h.role u.state) h u

adds_none : (p : Option (List Entry)) (es : List Entry) → es ≡ [] → adds es p ≡ p
adds_none None es e = refl
adds_none (Some past) es e = ap (λ (xs : List Entry). Some (past ++ xs)) e ∙ ap (λ (xs : List Entry). Some xs) (append-nil past)

no_entries : (es : List Entry) → length es ≡ 0 → es ≡ []
no_entries [] e = refl
no_entries (x ∷ xs) e = absurd (omega (arith, e))

past_synced : (p : Option (List Entry)) (b : Bool) (h : Home) (s : Seat) → (length s.fresh == 0) ≡ b → syncs_if b h (with_past p s) ≡ with_past (adds s.fresh p) (syncs_if b h s)
unfolding syncs_if
past_synced p true h s e = ap (λ (o : Option (List Entry)). with_past o s) (sym (adds_none p s.fresh (no_entries s.fresh (eqb-true (length s.fresh) 0 e))))
past_synced p false h s e = refl

pub past_turn : (p : Option (List Entry)) (h : Home) (xs : List (ℕ × Parcel)) (s : Seat) → turn_with h xs (with_past p s) ≡ with_past (adds (turn_entered h xs s).fresh p) (turn_with h xs s)
unfolding turn_with
past_turn p h xs s =
    let u : Seat = turn_entered h xs s in
    ap (λ (z : Seat). pushed_of (syncs_if (length z.fresh == 0) h z)) (past_entered p h xs s) ∙ ap pushed_of (past_synced p (length u.fresh == 0) h u refl)
  where
    pushed_of : Seat → Seat
    pushed_of z = pushed z

-- a turn, in which it takes what came
pub past_turned : (p : Option (List Entry)) (h : Home) (s : Seat) → turned h (with_past p s) ≡ with_past (adds (turn_entered h (lying s.doors) (cleared s)).fresh p) (turned h s)
past_turned p h s = past_turn p h (lying s.doors) (cleared s)

pub past_ticked : (p : Option (List Entry)) (h : Home) (second : ℕ) (s : Seat) → ticked h second (with_past p s) ≡ with_past p (ticked h second s)
unfolding ticked enters
past_ticked p h second s = refl

pub past_met : (p : Option (List Entry)) (o s : Seat) → met o (with_past p s) ≡ with_past p (met o s)
unfolding met
past_met p o s = refl

pub past_of_other : (p : Option (List Entry)) (o s : Seat) → met (with_past p o) s ≡ met o s
unfolding met
past_of_other p o s = refl
