-- The steps of a turn change nothing at an agent's links but what is to be pushed.
use Rattle.std.proofs.Common.{ℕ, zero, suc, ◌≡◌, ◌≢◌, ◌==◌, Bool, true, false, List, [], ◌∷◌, Option, Some, None, inl, inr, refl, sym, ap, ◌∙◌, subst, length, map}
use Rattle.std.specs.List.{All, AllPairs}
use Rattle.std.proofs.lemmas.Bool.{cases_eq}
use Rattle.std.proofs.lemmas.List.Elements.{All-nil, All-cons, All-head, All-tail, All-weaker, All-map}
use Rattle.nsi_primitive.specs.Messages.{identity, addressee}
use Rattle.nsi_primitive.specs.declared.entry.Entry.{Entry}
use Rattle.nsi_primitive.specs.declared.entry.Input.{Input}
use Rattle.nsi_primitive.specs.declared.message.Message.{Message}
use Rattle.nsi_primitive.specs.declared.message.Parcel.{Parcel}
use Rattle.nsi_primitive.specs.declared.state.Machine.{Machine}
use Rattle.nsi_agent.specs.Homes.{Home}
use Rattle.nsi_agent.specs.Steps.{is_new, waits, work_of, works_left}
use Rattle.agent_node.specs.Doors.{Door, change_first, with_parcel, queue_at}
use Rattle.agent_node.specs.Passing.{HasMet, other_of, others, queue_if, says, says_all}
use Rattle.agent_node.specs.Seat.{Seat, enters, enters_now, enters_if, queues}
use Rattle.agent_node.specs.Turns.{takes, takes_all, work_then, works_off, worked, syncs_if, synced_all, turn_entered}
use Rattle.agent_node.proofs.Joints.{change_nil, change_here, change_there}
use Rattle.quiet_rounds.specs.Bounded.{IsFew, LeadsTo, IsBoundedIn}

---- The first door to an agent

pub change_all : (P : Door → Type 0) (to : ℕ) (f : Door → Door) → ((d : Door) → P d → P (f d)) → (ds : List Door) → All P ds → All P (change_first to f ds)
change_all P to f step [] h = subst (All P) (sym (change_nil to f)) h
change_all P to f step (d ∷ ds) h = elim (cases_eq d.other to) [
  | inl e ↦ subst (All P) (sym (change_here to f d ds e)) (All-cons P (f d) ds (step d (All-head P d ds h)) (All-tail P d ds h))
  | inr n ↦ subst (All P) (sym (change_there to f d ds n)) (All-cons P d (change_first to f ds) (All-head P d ds h) (change_all P to f step ds (All-tail P d ds h)))
]

---- A door without what is to be pushed

abbrev pub bare : Door → Door
bare d = record d { queue = [] }

bare_queued : (to : ℕ) (p : Parcel) (ds : List Door) → map bare (queue_at to p ds) ≡ map bare ds
bare_queued to p [] = ap (map bare) (change_nil to (with_parcel p))
bare_queued to p (d ∷ ds) = elim (cases_eq d.other to) [
  | inl e ↦ ap (map bare) (change_here to (with_parcel p) d ds e)
  | inr n ↦ ap (map bare) (change_there to (with_parcel p) d ds n) ∙ ap (λ (es : List Door). bare d ∷ es) (bare_queued to p ds)
]

bare_lead : (o : Option ℕ) (p : Parcel) (ds : List Door) → map bare (queue_if o p ds) ≡ map bare ds
bare_lead None p ds = refl
bare_lead (Some to) p ds = bare_queued to p ds

pub bare_said : (agent_of : List ℕ → Option ℕ) (ms : List Message) (ds : List Door) → map bare (says_all agent_of ms ds) ≡ map bare ds
unfolding says_all
bare_said agent_of [] ds = refl
bare_said agent_of (m ∷ ms) ds = bare_said agent_of ms (says agent_of m ds) ∙ bare_lead (agent_of (addressee (identity m))) (Parcel.Message m) ds

---- The same links, but for what is to be pushed

pub record HasSameEnds (old new : Seat) : Type 0 where
  pub number : new.number ≡ old.number
  pub ends : map bare new.doors ≡ map bare old.doors

pub same_ends : (s : Seat) → HasSameEnds s s
same_ends s = record { number = refl; ends = refl }

pub same_twice : (a b c : Seat) → HasSameEnds a b → HasSameEnds b c → HasSameEnds a c
same_twice a b c p q = record { number = q.number ∙ p.number; ends = q.ends ∙ p.ends }

pub same_enters : (h : Home) (e : Entry) (s : Seat) → HasSameEnds s (enters h e s)
unfolding enters
same_enters h e s = record { number = refl; ends = refl }

same_due : (b : Bool) (h : Home) (input : Input) (s : Seat) → HasSameEnds s (enters_if b h input s)
unfolding enters_if enters
same_due true h input s = record { number = refl; ends = refl }
same_due false h input s = same_ends s

same_queues : (to : ℕ) (p : Parcel) (s : Seat) → HasSameEnds s (queues to p s)
same_queues to p s = record { number = refl; ends = bare_queued to p s.doors }

same_takes : (h : Home) (from : ℕ) (p : Parcel) (s : Seat) → HasSameEnds s (takes h from p s)
unfolding takes
same_takes h from (Parcel.Message m) s =
    let u : Seat = enters_if (is_new h s.state m) h (Input.Got m) s in
    same_twice s u (queues from (Parcel.Ack (identity m)) u) (same_due (is_new h s.state m) h (Input.Got m) s) (same_queues from (Parcel.Ack (identity m)) u)
same_takes h from (Parcel.Ack i) s = same_due (waits i s.state) h (Input.Acked i) s

pub same_takes_all : (h : Home) (xs : List (ℕ × Parcel)) (s : Seat) → HasSameEnds s (takes_all h xs s)
unfolding takes_all
same_takes_all h [] s = same_ends s
same_takes_all h (x ∷ xs) s = same_twice s (takes h x.0 x.1 s) (takes_all h xs (takes h x.0 x.1 s)) (same_takes h x.0 x.1 s) (same_takes_all h xs (takes h x.0 x.1 s))

same_work : (o : Option (ℕ × Machine)) (h : Home) (rest : Seat → Seat) (s : Seat) → ((u : Seat) → HasSameEnds u (rest u)) → HasSameEnds s (work_then o h rest s)
same_work None h rest s more = same_ends s
same_work (Some w) h rest s more =
    let u : Seat = enters_now h (Input.Work w.0 w.1) s in
    same_twice s u (rest u) (same_enters h (record { second = s.state.base.now; input = Input.Work w.0 w.1 }) s) (more u)

pub same_works : (n : ℕ) (h : Home) (s : Seat) → HasSameEnds s (works_off n h s)
unfolding works_off
same_works zero h s = same_ends s
same_works (suc n) h s = same_work (work_of h.role s.state) h (works_off n h) s (same_works n h)

same_synced : (b : Bool) (h : Home) (s : Seat) → HasSameEnds s (syncs_if b h s)
unfolding syncs_if
same_synced true h s = same_ends s
same_synced false h s = record { number = refl; ends = bare_said h.agent_of s.unsaid s.doors }

-- what a turn does before it pushes
pub same_worked : (h : Home) (xs : List (ℕ × Parcel)) (s : Seat) → HasSameEnds s (synced_all h (turn_entered h xs s))
same_worked h xs s =
    let a : Seat = takes_all h xs s in
    let b : Seat = worked h a in
    same_twice s a (synced_all h b) (same_takes_all h xs s) (same_twice a b (synced_all h b) (same_works (works_left h.role a.state) h a) (same_synced (length b.fresh == 0) h b))

---- What that keeps

unbared : (P : Door → Type 0) (ds : List Door) → All P (map bare ds) → All (λ d. P (bare d)) ds
unbared P [] h = All-nil (λ d. P (bare d))
unbared P (d ∷ ds) h = All-cons (λ d. P (bare d)) d ds (All-head P (bare d) (map bare ds) h) (unbared P ds (All-tail P (bare d) (map bare ds) h))

pub kept : (P : Door → Type 0) (os ns : List Door) → ((d : Door) → P d → P (bare d)) → ((d : Door) → P (bare d) → P d) → map bare ns ≡ map bare os → All P os → All P ns
kept P os ns there back e h =
    All-weaker (λ d. P (bare d)) P back ns (unbared P ns (subst (All P) (sym e) (All-map P bare os (All-weaker P (λ d. P (bare d)) there os h))))

others_bare : (ds : List Door) → map other_of (map bare ds) ≡ others ds
others_bare [] = refl
others_bare (d ∷ ds) = ap (λ (ns : List ℕ). d.other ∷ ns) (others_bare ds)

pub same_others : (os ns : List Door) → map bare ns ≡ map bare os → others ns ≡ others os
same_others os ns e = sym (others_bare ns) ∙ (ap (map other_of) e ∙ others_bare os)

pub bounded_same : (ns : List ℕ) (s u : Seat) → HasSameEnds s u → IsBoundedIn ns s → IsBoundedIn ns u
bounded_same ns s u same h = record {
  met = kept HasMet s.doors u.doors (λ d k. k) (λ d k. k) same.ends h.met;
  few = kept IsFew s.doors u.doors (λ d k. k) (λ d k. k) same.ends h.few;
  apart = subst (AllPairs (λ a b. b ≢ a)) (sym (same_others s.doors u.doors same.ends)) h.apart;
  lead = kept (LeadsTo ns) s.doors u.doors (λ d k. k) (λ d k. k) same.ends h.lead;
}
