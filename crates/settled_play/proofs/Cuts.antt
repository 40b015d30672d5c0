-- Which pairs are cut off: what neither ticks nor restarts leaves the flag as it is, and where nobody restarts no pair is cut off.
use Rattle.std.proofs.Common.{ℕ, zero, suc, ◌+◌, ◌≡◌, ◌==◌, Bool, true, false, cond, List, [], ◌∷◌, ◌++◌, Option, Some, None, refl, ap, ◌∙◌, length, map}
use Rattle.std.specs.List.{All, Contains}
use Rattle.std.proofs.lemmas.List.Elements.{All-nil, All-head, All-tail, All-append, All-push}
use Rattle.nsi_primitive.specs.declared.entry.Event.{Event}
use Rattle.nsi_primitive.specs.declared.entry.Happening.{Happening}
use Rattle.nsi_primitive.specs.declared.entry.Input.{Input}
use Rattle.nsi_primitive.specs.declared.message.Parcel.{Parcel}
use Rattle.nsi_primitive.specs.declared.state.Machine.{Machine}
use Rattle.nsi_agent.specs.Homes.{Home}
use Rattle.nsi_agent.specs.Steps.{is_new, waits, work_of, works_left}
use Rattle.nsi_script.specs.declared.script.Act.{Act}
use Rattle.agent_node.specs.Acts.{asked, forced}
use Rattle.agent_node.specs.Passing.{lying}
use Rattle.agent_node.specs.Seat.{Seat, enters, enters_now, enters_if}
use Rattle.agent_node.specs.Turns.{cleared, takes, takes_all, work_then, works_off, worked, sync_event, syncs_if, turn_entered, turn_with, turned}
use Rattle.nsi_play.specs.Play.{changes, does, RestartsNone}
use Rattle.nsi_play.specs.Rounds.{Net, Homes, events_of}
use Rattle.settled_play.specs.Settled.{cuts_by, cuts_by_entry, cut_after, cut_off, IsNoRestart, GoesOn}
use Rattle.settled_play.proofs.Finding.{first_there, later_there}

pub cut_append : (a b : ℕ) (was : Bool) (xs ys : List Event) → cut_after a b was (xs ++ ys) ≡ cut_after a b (cut_after a b was xs) ys
unfolding cut_after
cut_append a b was [] ys = refl
cut_append a b was (x ∷ xs) ys = cut_append a b (cuts_by x.what (x.agent == a) (x.agent == b) was) xs ys

---- Where nobody restarts

one_going : (what : Happening) (is_one is_other : Bool) → IsNoRestart what → cuts_by what is_one is_other false ≡ false
one_going (Happening.Restart count) is_one is_other h = absurd h
one_going (Happening.Sync count) is_one is_other h = refl
one_going (Happening.Entry e answer) is_one is_other h = by e.input is_one
  where
    by : (i : Input) (one : Bool) → cuts_by_entry i one false ≡ false
    by Input.Tick true = refl
    by Input.Tick false = refl
    by (Input.Acked i) one = refl
    by (Input.Got m) one = refl
    by (Input.Work n machine) one = refl
    by (Input.Force n) one = refl
    by (Input.Ask n ask) one = refl

pub none_cut : (a b : ℕ) (es : List Event) → All GoesOn es → cut_off a b es ≡ false
unfolding cut_after
none_cut a b [] h = refl
none_cut a b (e ∷ es) h =
    ap (λ was. cut_after a b was es) (one_going e.what (e.agent == a) (e.agent == b) (All-head GoesOn e es h)) ∙ none_cut a b es (All-tail GoesOn e es h)

---- What neither ticks nor restarts

abbrev pub IsNoTick : Input → Type 0
IsNoTick Input.Tick = ⊥
IsNoTick _ = Unit {0}

abbrev pub IsPlainEvent : Happening → Type 0
IsPlainEvent (Happening.Entry e answer) = IsNoTick e.input
IsPlainEvent (Happening.Sync count) = Unit {0}
IsPlainEvent (Happening.Restart count) = ⊥

abbrev pub IsPlain : Event → Type 0
IsPlain e = IsPlainEvent e.what

one_plain : (what : Happening) (is_one is_other was : Bool) → IsPlainEvent what → cuts_by what is_one is_other was ≡ was
one_plain (Happening.Restart count) is_one is_other was h = absurd h
one_plain (Happening.Sync count) is_one is_other was h = refl
one_plain (Happening.Entry e answer) is_one is_other was h = by e.input h
  where
    by : (i : Input) → IsNoTick i → cuts_by_entry i is_one was ≡ was
    by Input.Tick k = absurd k
    by (Input.Acked i) k = refl
    by (Input.Got m) k = refl
    by (Input.Work n machine) k = refl
    by (Input.Force n) k = refl
    by (Input.Ask n ask) k = refl

cut_plain : (a b : ℕ) (was : Bool) (es : List Event) → All IsPlain es → cut_after a b was es ≡ was
unfolding cut_after
cut_plain a b was [] h = refl
cut_plain a b was (e ∷ es) h =
    ap (λ x. cut_after a b x es) (one_plain e.what (e.agent == a) (e.agent == b) was (All-head IsPlain e es h)) ∙ cut_plain a b was es (All-tail IsPlain e es h)

pub cut_same : (a b : ℕ) (past es : List Event) → All IsPlain es → cut_off a b (past ++ es) ≡ cut_off a b past
cut_same a b past es h = cut_append a b false past es ∙ cut_plain a b (cut_off a b past) es h

---- Turns and acts are plain

-- where all that has happened at an agent was plain it still is
abbrev pub KeepsPlain : (Seat → Seat) → Type 0
KeepsPlain f = (s : Seat) → All IsPlain s.events → All IsPlain (f s).events

plain_entry : (h : Home) (i : Input) (s : Seat) → IsNoTick i → All IsPlain s.events → All IsPlain (enters_now h i s).events
unfolding enters
plain_entry h i s k p = All-push IsPlain s.events _ p k

plain_due : (b : Bool) (h : Home) (i : Input) (s : Seat) → IsNoTick i → All IsPlain s.events → All IsPlain (enters_if b h i s).events
unfolding enters_if
plain_due true h i s k p = plain_entry h i s k p
plain_due false h i s k p = p

plain_takes : (h : Home) (from : ℕ) (x : Parcel) (s : Seat) → All IsPlain s.events → All IsPlain (takes h from x s).events
unfolding takes
plain_takes h from (Parcel.Message m) s p = plain_due (is_new h s.state m) h (Input.Got m) s tt p
plain_takes h from (Parcel.Ack i) s p = plain_due (waits i s.state) h (Input.Acked i) s tt p

plain_all : (h : Home) (xs : List (ℕ × Parcel)) (s : Seat) → All IsPlain s.events → All IsPlain (takes_all h xs s).events
unfolding takes_all
plain_all h [] s p = p
plain_all h (x ∷ xs) s p = plain_all h xs (takes h x.0 x.1 s) (plain_takes h x.0 x.1 s p)

plain_work : (n : ℕ) (h : Home) (s : Seat) → All IsPlain s.events → All IsPlain (works_off n h s).events
unfolding works_off
plain_work zero h s p = p
plain_work (suc n) h s p = by (work_of h.role s.state) (plain_work n h)
  where
    by : (o : Option (ℕ × Machine)) → ((u : Seat) → All IsPlain u.events → All IsPlain (works_off n h u).events) → All IsPlain (work_then o h (works_off n h) s).events
    by None f = p
    by (Some w) f = f (enters_now h (Input.Work w.0 w.1) s) (plain_entry h (Input.Work w.0 w.1) s tt p)

plain_sync : (b : Bool) (h : Home) (s : Seat) → All IsPlain s.events → All IsPlain (syncs_if b h s).events
unfolding syncs_if
plain_sync true h s p = p
plain_sync false h s p = All-push IsPlain s.events (sync_event s.number (s.synced + length s.fresh)) p tt

pub plain_turned : (h : Home) → KeepsPlain (turned h)
unfolding turn_with
plain_turned h s p =
    let v : Seat = takes_all h (lying s.doors) (cleared s) in
    let x : Seat = worked h v in
    plain_sync (length x.fresh == 0) h x (plain_work (works_left h.role v.state) h v (plain_all h (lying s.doors) (cleared s) p))

pub plain_halted : (h : Home) (s : Seat) → All IsPlain s.events → All IsPlain (turn_entered h (lying s.doors) (cleared s)).events
plain_halted h s p =
    let v : Seat = takes_all h (lying s.doors) (cleared s) in
    plain_work (works_left h.role v.state) h v (plain_all h (lying s.doors) (cleared s) p)

plain_changes : (c : ℕ) (f : Seat → Seat) → KeepsPlain f → KeepsPlain (changes c f)
plain_changes c f k s p = by (s.number == c)
  where
    by : (b : Bool) → All IsPlain (cond b (f s) s).events
    by true = k s p
    by false = p

pub plain_does : (act : Act) → RestartsNone act → (count : ℕ) (homes : Homes) → KeepsPlain (does act count homes)
plain_does (Act.Ask c ask) none count homes = plain_changes c (asked (homes c) count ask) (λ s p. plain_entry (homes c) (Input.Ask count ask) s tt p)
plain_does (Act.Force c n) none count homes = plain_changes c (forced (homes c) n) (λ s p. plain_entry (homes c) (Input.Force n) s tt p)
plain_does (Act.Restart c) none count homes = absurd none

-- what has happened in a net
pub plain_net : (f : Seat → Seat) (net : Net) → ((s : Seat) → Contains net s → All IsPlain (f s).events) → All IsPlain (events_of (map f net))
plain_net f [] h = All-nil IsPlain
plain_net f (s ∷ ss) h = All-append IsPlain (f s).events (events_of (map f ss)) (h s (first_there s ss)) (plain_net f ss (λ x c. h x (later_there s ss x c)))
