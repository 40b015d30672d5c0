-- What an agent takes stands behind what isn't synced, and makes its state; what it syncs stands behind what was synced.
use Rattle.std.proofs.Common.{ℕ, zero, suc, ◌≡◌, ◌==◌, ◌⊎◌, inl, inr, map, Bool, true, false, cond, List, [], ◌∷◌, ◌++◌, refl, sym, ap, ap₂, ◌∙◌, subst, arith, length, append_assoc, append-nil, eqb-true}
use Rattle.std.specs.Prelude.{Option, Some, None, IfSome}
use Rattle.std.proofs.lemmas.Bool.{cases_eq}
use Rattle.nsi_primitive.specs.declared.entry.Entry.{Entry}
use Rattle.nsi_primitive.specs.declared.entry.Input.{Input}
use Rattle.nsi_primitive.specs.declared.message.Parcel.{Parcel}
use Rattle.nsi_primitive.specs.declared.state.Machine.{Machine}
use Rattle.journal_entry.specs.Journal.{Kept as Journaled, Adds}
use Rattle.agent_state.specs.State.{AgentState, blank_agent}
use Rattle.stp_topology.specs.declared.network.Network.{Network}
use Rattle.nsi_agent.specs.Homes.{Home, Routes, AreRoutes, home_in}
use Rattle.nsi_agent.specs.Steps.{after, is_new, waits, work_of, works_left}
use Rattle.nsi_agent.specs.Told.{Told, told, goes_on}
use Rattle.nsi_agent.proofs.Telling.{telling_is_in_parts}
use Rattle.agent_node.specs.Seat.{Seat, enters, enters_if, enters_now, now_at}
use Rattle.agent_node.specs.Turns.{lying, cleared, takes, takes_all, works_off, work_then, worked, syncs_if, synced_all, turn_with, turned, halted}
use Rattle.agent_node.specs.Acts.{asked, forced, tick_at, ticked}
use Rattle.agent_node.specs.Meetings.{met}
use Rattle.agent_node.specs.Restarts.{reads}
use Rattle.agent_node.specs.Kept.{Kept}
use Rattle.agent_node.specs.Made.{IsTurn, keeps}
use Rattle.nsi_script.specs.declared.script.Act.{Act}
use Rattle.nsi_play.specs.Rounds.{Net, Homes, meets_each, meets_all, met_all}
use Rattle.nsi_play.specs.Play.{RestartsNone}
use Rattle.agent_threads.specs.Nets.{seats, EachIs, AreOf, IsOwned, AreOwned, AreUsable}
use Rattle.agent_threads.specs.Made.{Does, DoesAct, Drained, RestartsAt, Stays, tick_to, part_in}
use Rattle.agent_threads.specs.Leaving.{StayOwned}
use Rattle.agent_threads.proofs.Same.{at_home}

-- it has synced these of the entries that weren't, and others may stand behind them now
pub record Owns (h : Home) (saved : List Entry) (s u : Seat) : Type 0 where
  pub state : (es : List Entry) → (told h (es ++ s.fresh)).state ≡ s.state → (told h ((es ++ saved) ++ u.fresh)).state ≡ u.state

---- Steps

-- only its doors or its events change
owns_none : (h : Home) (s u : Seat) → u.state ≡ s.state → u.fresh ≡ s.fresh → Owns h [] s u
owns_none h s u e f = record { state = λ es p. ap₂ (λ (xs ys : List Entry). (told h (xs ++ ys)).state) (append-nil es) f ∙ (p ∙ sym e) }

owns_self : (h : Home) (s : Seat) → Owns h [] s s
owns_self h s = owns_none h s s refl refl

owns_then : (h : Home) (xs ys : List Entry) (s u v : Seat) → Owns h xs s u → Owns h ys u v → Owns h (xs ++ ys) s v
owns_then h xs ys s u v p q = record { state = λ es e. ap (λ (zs : List Entry). (told h (zs ++ v.fresh)).state) (sym (append_assoc es xs ys)) ∙ q.state (es ++ xs) (p.state es e) }

-- then only its doors or its events change
owns_still : (h : Home) (xs : List Entry) (s u v : Seat) → Owns h xs s u → v.state ≡ u.state → v.fresh ≡ u.fresh → Owns h xs s v
owns_still h xs s u v p e f = record { state = λ es q. ap (λ (zs : List Entry). (told h ((es ++ xs) ++ zs)).state) f ∙ (p.state es q ∙ sym e) }

one_alone : (h : Home) (x : AgentState) (e : Entry) → (goes_on h x (e ∷ [])).state ≡ (after h x e).state
unfolding goes_on
one_alone h x e = refl

told_one : (h : Home) (es : List Entry) (e : Entry) → (told h (es ++ e ∷ [])).state ≡ (after h (told h es).state e).state
told_one h es e = ap (λ (x : Told). x.state) (telling_is_in_parts h blank_agent es (e ∷ [])) ∙ one_alone h (told h es).state e

owns_one : (h : Home) (e : Entry) (s : Seat) → Owns h [] s (enters h e s)
unfolding enters
owns_one h e s = record {
  state = λ es p.
      ap (λ (xs : List Entry). (told h (xs ++ (s.fresh ++ e ∷ []))).state) (append-nil es)
      ∙ (ap (λ (xs : List Entry). (told h xs).state) (sym (append_assoc es s.fresh (e ∷ []))) ∙ (told_one h (es ++ s.fresh) e ∙ ap (λ (x : AgentState). (after h x e).state) p));
}

owns_maybe : (b : Bool) (h : Home) (input : Input) (s : Seat) → Owns h [] s (enters_if b h input s)
unfolding enters_if
owns_maybe true h input s = owns_one h (now_at s input) s
owns_maybe false h input s = owns_self h s

take_owns : (h : Home) (from : ℕ) (p : Parcel) (s : Seat) → Owns h [] s (takes h from p s)
unfolding takes
take_owns h from (Parcel.Message m) s =
    let u : Seat = enters_if (is_new h s.state m) h (Input.Got m) s in
    owns_still h [] s u _ (owns_maybe (is_new h s.state m) h (Input.Got m) s) refl refl
take_owns h from (Parcel.Ack i) s = owns_maybe (waits i s.state) h (Input.Acked i) s

takes_own : (h : Home) (xs : List (ℕ × Parcel)) (s : Seat) → Owns h [] s (takes_all h xs s)
unfolding takes_all
takes_own h [] s = owns_self h s
takes_own h (x ∷ xs) s = owns_then h [] [] s (takes h x.0 x.1 s) (takes_all h xs (takes h x.0 x.1 s)) (take_owns h x.0 x.1 s) (takes_own h xs (takes h x.0 x.1 s))

works_own : (n : ℕ) (h : Home) (s : Seat) → Owns h [] s (works_off n h s)
unfolding works_off
works_own zero h s = owns_self h s
works_own (suc n) h s = by_work (work_of h.role s.state) (works_own n h)
  where
    by_work : (w : Option (ℕ × Machine)) → ((u : Seat) → Owns h [] u (works_off n h u)) → Owns h [] s (work_then w h (works_off n h) s)
    by_work None f = owns_self h s
    by_work (Some w) f =
        let u : Seat = enters_now h (Input.Work w.0 w.1) s in
        owns_then h [] [] s u (works_off n h u) (owns_one h (now_at s (Input.Work w.0 w.1)) s) (f u)

none_fresh : (es : List Entry) → (length es == 0) ≡ true → es ≡ []
none_fresh [] e = refl
none_fresh (x ∷ xs) e = absurd (let z : length (x ∷ xs) ≡ 0 = eqb-true (length (x ∷ xs)) 0 e in omega arith)

-- what isn't synced is synced
sync_owns : (b : Bool) (h : Home) (s : Seat) → (b ≡ true → s.fresh ≡ []) → Owns h s.fresh s (syncs_if b h s)
unfolding syncs_if
sync_owns true h s none = record { state = λ es p. ap (λ (xs : List Entry). (told h ((es ++ xs) ++ s.fresh)).state) (none refl) ∙ (ap (λ (xs : List Entry). (told h (xs ++ s.fresh)).state) (append-nil es) ∙ p) }
sync_owns false h s none = record { state = λ es p. ap (λ (xs : List Entry). (told h xs).state) (append-nil (es ++ s.fresh)) ∙ p }

-- so much of a turn as comes before its sync
pub halted_owns : (h : Home) (s : Seat) → Owns h [] s (halted h s)
halted_owns h s =
    let a : Seat = cleared s in
    let b : Seat = takes_all h (lying s.doors) a in
    let first : Owns h [] s b = owns_then h [] [] s a b (owns_none h s a refl refl) (takes_own h (lying s.doors) a) in
    owns_then h [] [] s b (worked h b) first (works_own (works_left h.role b.state) h b)

-- a turn syncs all that it has taken
pub turned_owns : (h : Home) (s : Seat) → Owns h (keeps h s) s (turned h s)
unfolding turn_with
turned_owns h s =
    let a : Seat = cleared s in
    let b : Seat = takes_all h (lying s.doors) a in
    let u : Seat = worked h b in
    let v : Seat = synced_all h u in
    let first : Owns h [] s b = owns_then h [] [] s a b (owns_none h s a refl refl) (takes_own h (lying s.doors) a) in
    let made : Owns h [] s u = owns_then h [] [] s b u first (works_own (works_left h.role b.state) h b) in
    let all : Owns h u.fresh s v = owns_then h [] u.fresh s u v made (sync_owns (length u.fresh == 0) h u (none_fresh u.fresh)) in
    owns_still h u.fresh s v _ all refl refl

pub tick_owns : (to : ℕ) (h : Home) (s : Seat) → Owns h [] s (tick_to to h s)
unfolding ticked
tick_owns to h s = owns_still h [] s (enters h (tick_at to) s) _ (owns_one h (tick_at to) s) refl refl

changes_own : (b : Bool) (h : Home) (u s : Seat) → Owns h [] s u → Owns h [] s (cond b u s)
changes_own true h u s p = p
changes_own false h u s p = owns_self h s

pub part_owns : (act : Act) → RestartsNone act → (n : ℕ) (h : Home) (s : Seat) → Owns h [] s (part_in act n h s)
part_owns (Act.Ask a ask) none n h s = changes_own (s.number == a) h (asked h n ask s) s (owns_one h (now_at s (Input.Ask n ask)) s)
part_owns (Act.Force a k) none n h s = changes_own (s.number == a) h (forced h k s) s (owns_one h (now_at s (Input.Force k)) s)
part_owns (Act.Restart a) none n h s = absurd none

met_owns : (h : Home) (o s : Seat) → Owns h [] s (met o s)
unfolding met
met_owns h o s = owns_none h s _ refl refl

pub meets_own : (h : Home) (s : Seat) (os : Net) → Owns h [] s (meets_each s os)
unfolding meets_each
meets_own h s [] = owns_self h s
meets_own h s (o ∷ os) = owns_then h [] [] s (met o s) (meets_each (met o s) os) (met_owns h o s) (meets_own h (met o s) os)

---- Agents with their journals

-- an agent whose journal keeps what it did before
pub kept_owned : (homes : Homes) (x y : Kept) → y.seat.number ≡ x.seat.number → y.kept ≡ x.kept → Owns (homes x.seat.number) [] x.seat y.seat → IsOwned homes x → IsOwned homes y
kept_owned homes x y n kept p (j, e, s) = (
  j,
  kept ∙ e,
  ap (λ (m : ℕ). (told (homes m) (j.synced ++ y.seat.fresh)).state) n
      ∙ (ap (λ (xs : List Entry). (told (homes x.seat.number) (xs ++ y.seat.fresh)).state) (sym (append-nil j.synced)) ∙ p.state j.synced s),
)

-- an agent whose journal keeps more
pub more_owned : (homes : Homes) (es : List Entry) (x y : Kept) → y.seat.number ≡ x.seat.number → Adds es x.kept y.kept → Owns (homes x.seat.number) es x.seat y.seat → IsOwned homes x → IsOwned homes y
more_owned homes es x y n a p (j, e, s) =
    let kept : IfSome (Some j) (λ k. y.kept ≡ Some (record { synced = k.synced ++ es; waiting = [] })) = subst (λ (o : Option Journaled). Adds es o y.kept) e a in (
      record { synced = j.synced ++ es; waiting = [] },
      kept,
      ap (λ (m : ℕ). (told (homes m) ((j.synced ++ es) ++ y.seat.fresh)).state) n ∙ p.state j.synced s,
    )

pub does_owned : (f : Home → Seat → Seat) (xs ys : List Kept) → ((h : Home) (s : Seat) → Owns h [] s (f h s)) → EachIs (Does f) xs ys → StayOwned xs ys
does_owned f [] [] all p t o routes r w = tt
does_owned f [] (y ∷ ys) all p t o routes r w = absurd p
does_owned f (x ∷ xs) [] all p t o routes r w = absurd p
does_owned f (x ∷ xs) (y ∷ ys) all p t o routes r w =
    let h : Home = home_in t routes x.seat.number in
    let is : y.seat ≡ f h x.seat = at_home t x (λ z. y.seat ≡ f z x.seat) o.0 p.0.ok routes r in (
      kept_owned (home_in t routes) x y p.0.same.number p.0.journal.kept (subst (λ (u : Seat). Owns h [] x.seat u) (sym is) (all h x.seat)) w.0,
      does_owned f xs ys all p.1 t o.1 routes r w.1,
    )

pub drained_owned : (xs ys : List Kept) → EachIs Drained xs ys → StayOwned xs ys
drained_owned [] [] p t o routes r w = tt
drained_owned [] (y ∷ ys) p t o routes r w = absurd p
drained_owned (x ∷ xs) [] p t o routes r w = absurd p
drained_owned (x ∷ xs) (y ∷ ys) p t o routes r w =
    let h : Home = home_in t routes x.seat.number in (
      kept_owned (home_in t routes) x y p.0.made.same.number p.0.made.journal.kept
          (owns_none h x.seat y.seat (ap (λ (s : Seat). s.state) p.0.seat) (ap (λ (s : Seat). s.fresh) p.0.seat)) w.0,
      drained_owned xs ys p.1 t o.1 routes r w.1,
    )

pub turns_owned : (room : ℕ) (xs ys : List Kept) → EachIs (IsTurn room) xs ys → AreUsable ys → StayOwned xs ys
turns_owned room [] [] e u t o routes r w = tt
turns_owned room [] (y ∷ ys) e u t o routes r w = absurd e
turns_owned room (x ∷ xs) [] e u t o routes r w = absurd e
turns_owned room (x ∷ xs) (y ∷ ys) e u t o routes r w =
    let h : Home = home_in t routes x.seat.number in
    let is : y.seat ≡ turned h x.seat = at_home t x (λ z. y.fault ≡ None → y.seat ≡ turned z x.seat) o.0 e.0.ok routes r u.0 in
    let own : Adds (keeps h x.seat) x.kept y.kept = at_home t x (λ z. y.fault ≡ None → Adds (keeps z x.seat) x.kept y.kept) o.0 e.0.kept routes r u.0 in (
      more_owned (home_in t routes) (keeps h x.seat) x y e.0.same.number own (subst (λ (v : Seat). Owns h (keeps h x.seat) x.seat v) (sym is) (turned_owns h x.seat)) w.0,
      turns_owned room xs ys e.1 u.1 t o.1 routes r w.1,
    )

pub heads : (s u : Seat) (ss us : Net) → s ∷ ss ≡ u ∷ us → (s ≡ u) × (ss ≡ us)
heads s u ss us g = (cc, cc)

meets_owned : (all : Net) (xs ys : List Kept) → EachIs Stays xs ys → seats ys ≡ map (meets_all all) (seats xs) → StayOwned xs ys
meets_owned all [] [] e f t o routes r w = tt
meets_owned all [] (y ∷ ys) e f t o routes r w = absurd e
meets_owned all (x ∷ xs) [] e f t o routes r w = absurd e
meets_owned all (x ∷ xs) (y ∷ ys) e f t o routes r w =
    let h : Home = home_in t routes x.seat.number in
    let q = heads y.seat (meets_all all x.seat) (seats ys) (map (meets_all all) (seats xs)) f in (
      kept_owned (home_in t routes) x y e.0.same.number e.0.journal.kept (subst (λ (u : Seat). Owns h [] x.seat u) (sym q.0) (meets_own h x.seat all)) w.0,
      meets_owned all xs ys e.1 q.1 t o.1 routes r w.1,
    )

-- a meeting of all
pub met_owned : (xs ys : List Kept) → EachIs Stays xs ys → seats ys ≡ met_all (seats xs) → StayOwned xs ys
met_owned xs ys e f = meets_owned (seats xs) xs ys e f

---- Restarts

pub read_state : (h : Home) (tries : ℕ) (es : List Entry) (s : Seat) → (reads h tries es s).state ≡ (told h es).state
unfolding reads
read_state h tries es s = refl

pub read_fresh : (h : Home) (tries : ℕ) (es : List Entry) (s : Seat) → (reads h tries es s).fresh ≡ []
unfolding reads
read_fresh h tries es s = refl

restart_owned : (homes : Homes) (x y : Kept) (tries : ℕ) (es : List Entry) → y.seat.number ≡ x.seat.number → y.seat ≡ reads (homes x.seat.number) tries es x.seat → IfSome x.kept (λ k. es ≡ k.synced) → IfSome x.kept (λ k. y.kept ≡ x.kept)
    → IsOwned homes x → IsOwned homes y
restart_owned homes x y tries es n is same kept (j, e, s) =
    let h : Home = homes x.seat.number in
    let these : es ≡ j.synced = subst (λ (o : Option Journaled). IfSome o (λ k. es ≡ k.synced)) e same in
    let still : y.kept ≡ x.kept = subst (λ (o : Option Journaled). IfSome o (λ k. y.kept ≡ x.kept)) e kept in
    let fresh : y.seat.fresh ≡ [] = ap (λ (u : Seat). u.fresh) is ∙ read_fresh h tries es x.seat in
    let state : y.seat.state ≡ (told h es).state = ap (λ (u : Seat). u.state) is ∙ read_state h tries es x.seat in (
      j,
      still ∙ e,
      ap₂ (λ (m : ℕ) (xs : List Entry). (told (homes m) (j.synced ++ xs)).state) n fresh
          ∙ (ap (λ (xs : List Entry). (told h xs).state) (append-nil j.synced ∙ sym these) ∙ sym state),
    )

pub restarts_owned : (a : ℕ) (xs ys : List Kept) → EachIs (RestartsAt a) xs ys → StayOwned xs ys
restarts_owned a [] [] p t o routes r w = tt
restarts_owned a [] (y ∷ ys) p t o routes r w = absurd p
restarts_owned a (x ∷ xs) [] p t o routes r w = absurd p
restarts_owned a (x ∷ xs) (y ∷ ys) p t o routes r w = (one (cases_eq x.seat.number a), restarts_owned a xs ys p.1 t o.1 routes r w.1)
  where
    one : (x.seat.number ≡ a) ⊎ (x.seat.number ≡ a → ⊥) → IsOwned (home_in t routes) y
    one (inl e) =
        let q = (p.0.here e).reread in
        restart_owned (home_in t routes) x y q.tries q.entries q.same.number (at_home t x (λ h. y.seat ≡ reads h q.tries q.entries x.seat) o.0 q.seat routes r) q.synced q.kept w.0
    one (inr m) = subst (λ (k : Kept). IsOwned (home_in t routes) k) (sym (p.0.there m)) w.0

-- what an act does
pub act_owned : (act : Act) (n : ℕ) (xs ys : List Kept) → EachIs (DoesAct act n) xs ys → StayOwned xs ys
act_owned (Act.Ask a ask) n xs ys p = does_owned (part_in (Act.Ask a ask) n) xs ys (part_owns (Act.Ask a ask) tt n) p
act_owned (Act.Force a k) n xs ys p = does_owned (part_in (Act.Force a k) n) xs ys (part_owns (Act.Force a k) tt n) p
act_owned (Act.Restart a) n xs ys p = restarts_owned a xs ys p

-- what their journals told they still tell, in each view
pub still_seen : (t : Network) (xs ys : List Kept) → StayOwned xs ys → AreOf t xs → (routes : Routes) → AreRoutes t routes → (b : Bool) → (b ≡ true → AreOwned (home_in t routes) xs) → b ≡ true → AreOwned (home_in t routes) ys
still_seen t xs ys s o routes r b w e = s t o routes r (w e)
