-- A turn goes on by events that are allowed.
use Rattle.std.proofs.Common.{ℕ, zero, suc, ◌≡◌, ◌==◌, Bool, true, false, List, [], ◌∷◌, ◌++◌, Option, Some, None, refl, sym, ap, ◌∙◌, subst, arith, length, map, append-nil, eqb-true}
use Rattle.std.specs.List.{All, Contains}
use Rattle.std.proofs.lemmas.List.Elements.{All-head, All-tail, Contains-append_right, Contains-push}
use Rattle.nsi_primitive.specs.Messages.{identity}
use Rattle.nsi_primitive.specs.declared.entry.Entry.{Entry}
use Rattle.nsi_primitive.specs.declared.entry.Input.{Input}
use Rattle.nsi_primitive.specs.declared.message.Message.{Message}
use Rattle.nsi_primitive.specs.declared.message.Parcel.{Parcel}
use Rattle.nsi_primitive.specs.declared.state.Machine.{Machine}
use Rattle.agent_state.specs.State.{AgentState}
use Rattle.nsi_agent.specs.Homes.{Role, provides, aggregates, requests, Home}
use Rattle.nsi_agent.specs.Steps.{is_new, waits, work_of, works_left}
use Rattle.nsi_agent.specs.Told.{told}
use Rattle.nsi_agent.proofs.SeenGot.{seen_was_got}
use Rattle.agent_node.specs.Doors.{queue_at}
use Rattle.agent_node.specs.Passing.{lying, clears, pushes}
use Rattle.agent_node.specs.Seat.{Seat, now_at, enters, enters_now, enters_if, queues}
use Rattle.agent_node.specs.Turns.{cleared, takes, takes_all, work_then, works_off, worked, syncs_if, synced_all, pushed, turn_with, turned, halted}
use Rattle.nsi_world.specs.Worlds.{Homes, World, synced_part, IsSaidBy, IsTo, IsTaken}
use Rattle.nsi_world.specs.Runs.{is_provider, world_after}
use Rattle.nsi_world.specs.Heard.{IsFair}
use Rattle.nsi_world.specs.Seats.{MayGo, Stands, Not, Follows, GoesOn}
use Rattle.nsi_world.proofs.Given.{Given}
use Rattle.nsi_world.proofs.Later.{said_later, taken_later}
use Rattle.nsi_world.proofs.DoorSteps.{doors_queue, doors_clear, doors_push, IsComing, doors_lying, lying_later}
use Rattle.nsi_world.proofs.Steps.{goes_none, goes_twice, goes_enters, goes_doors, goes_syncs}
use Rattle.nsi_world.proofs.Receipts.{said_printable, IsReceived, seen_received}

---- What came

fresh_entry : (h : Home) (e : Entry) (s : Seat) → (enters h e s).fresh ≡ s.fresh ++ e ∷ []
unfolding enters
fresh_entry h e s = refl

goes_got : (homes : Homes) → Given homes → (clock : ℕ) (w : World) (from a : ℕ) (b : Bool) (m : Message) (s : Seat) → s.number ≡ a → Stands homes clock w s → IsFair homes w → IsSaidBy homes w from m → IsTo homes a m
    → GoesOn homes clock w s (enters_if b (homes a) (Input.Got m) s)
unfolding enters_if
goes_got homes given clock w from a true m s is h fair q r =
    goes_enters homes clock w (now_at s (Input.Got m)) a s is h fair (record { printable = said_printable homes given w fair from m q; in_time = refl; comes = ((from, q), subst (λ k. IsTo homes k m) (sym is) r); soon = h.in_time })
goes_got homes given clock w from a false m s is h fair q r = goes_none homes clock w s h fair

-- it was taken, now or before
got_now : (homes : Homes) → Given homes → (clock : ℕ) (w v : World) (from a : ℕ) (b : Bool) (m : Message) (s : Seat) → s.number ≡ a → is_new (homes a) s.state m ≡ b → Stands homes clock w s → IsFair homes w
    → IsSaidBy homes w from m → IsTo homes a m → Follows (Not s.number) w v → v.journal a ≡ synced_part v a ++ (enters_if b (homes a) (Input.Got m) s).fresh → IsReceived homes v v.journal from a m
unfolding enters_if
got_now homes given clock w v from a true m s is new h fair q r f js =
    let e : Entry = now_at s (Input.Got m) in
    let there : Contains (v.journal a) e =
    subst (λ es. Contains es e) (sym js) (Contains-append_right (synced_part v a) (enters (homes a) e s).fresh e (subst (λ es. Contains es e) (sym (fresh_entry (homes a) e s)) (Contains-push s.fresh e))) in
    (m, refl, record { said = said_later homes w v from m f.grows q; addressed = r; got = record { second = e.second; there = there } })
got_now homes given clock w v from a false m s is new h fair q r f js =
    let state : (told (homes a) (w.journal a)).state ≡ s.state = subst (λ k. (told (homes k) (w.journal k)).state ≡ s.state) is h.state in
    let old : is_new (homes a) (told (homes a) (w.journal a)).state m ≡ false = ap (λ (z : AgentState). is_new (homes a) z m) state ∙ new in
    let x = seen_received homes given w fair from a m q (seen_was_got (homes a) (w.journal a) m old) in
    (x.0, x.1, taken_later homes w v w.journal v.journal from a x.0 f.grows f.enters x.2)

pub goes_takes : (homes : Homes) → Given homes → (clock : ℕ) (w : World) (a from : ℕ) (p : Parcel) (s : Seat) → s.number ≡ a → Stands homes clock w s → IsFair homes w → MayGo homes w (synced_part w) from a p
    → GoesOn homes clock w s (takes (homes a) from p s)
unfolding takes enters_if
goes_takes homes given clock w a from (Parcel.Message m) s is h fair may =
    let b : Bool = is_new (homes a) s.state m in
    let u : Seat = enters_if b (homes a) (Input.Got m) s in
    let p = goes_got homes given clock w from a b m s is h fair may.0 may.1 in
    let v : World = world_after w p.own in
    let here : u.number ≡ a = p.number ∙ is in
    let js : v.journal a ≡ synced_part v a ++ u.fresh = subst (λ k. v.journal k ≡ synced_part v k ++ u.fresh) here p.stands.journal in
    let received : IsReceived homes v v.journal from a m = got_now homes given clock w v from a b m s is refl h fair may.0 may.1 p.follows js in
    goes_twice homes clock w s u (queues from (Parcel.Ack (identity m)) u) p
    (goes_doors homes clock v u (queue_at from (Parcel.Ack (identity m)) u.doors) p.stands p.fair
    (doors_queue homes v u.number from (Parcel.Ack (identity m)) u.doors (subst (λ k. MayGo homes v v.journal k from (Parcel.Ack (identity m))) (sym here) received) p.stands.doors))
goes_takes homes given clock w a from (Parcel.Ack i) s is h fair may = by (waits i s.state)
  where
    by : (b : Bool) → GoesOn homes clock w s (enters_if b (homes a) (Input.Acked i) s)
    by true =
        goes_enters homes clock w (now_at s (Input.Acked i)) a s is h fair
        (record { printable = tt; in_time = refl; comes = (may.0, from, may.1, subst (λ k. IsTaken homes w (synced_part w) k from may.0) (sym is) may.2); soon = h.in_time })
    by false = goes_none homes clock w s h fair

pub goes_takes_all : (homes : Homes) → Given homes → (clock : ℕ) (w : World) (a : ℕ) (xs : List (ℕ × Parcel)) (s : Seat) → s.number ≡ a → Stands homes clock w s → IsFair homes w → All (IsComing homes w a) xs
    → GoesOn homes clock w s (takes_all (homes a) xs s)
unfolding takes_all
goes_takes_all homes given clock w a [] s is h fair all = goes_none homes clock w s h fair
goes_takes_all homes given clock w a (x ∷ xs) s is h fair all =
    let u : Seat = takes (homes a) x.0 x.1 s in
    let p = goes_takes homes given clock w a x.0 x.1 s is h fair (All-head (IsComing homes w a) x xs all) in
    let v : World = world_after w p.own in
    goes_twice homes clock w s u (takes_all (homes a) xs u) p
    (goes_takes_all homes given clock v a xs u (p.number ∙ is) p.stands p.fair (lying_later homes (Not s.number) w v a xs p.follows (All-tail (IsComing homes w a) x xs all)))

---- Work

worker : (role : Role) (s : AgentState) (x : ℕ × Machine) → work_of role s ≡ Some x → is_provider role ≡ true
worker (provides setting stp_of) s x e = refl
worker (aggregates setting) s x e = absurd (cc)
worker (requests setting) s x e = absurd (cc)

goes_work : (homes : Homes) (clock : ℕ) (w : World) (a : ℕ) (o : Option (ℕ × Machine)) (rest : Seat → Seat) (s : Seat) → s.number ≡ a → work_of (homes a).role s.state ≡ o → Stands homes clock w s → IsFair homes w
    → ((v : World) (u : Seat) → u.number ≡ a → Stands homes clock v u → IsFair homes v → GoesOn homes clock v u (rest u)) → GoesOn homes clock w s (work_then o (homes a) rest s)
goes_work homes clock w a None rest s is e h fair more = goes_none homes clock w s h fair
goes_work homes clock w a (Some x) rest s is e h fair more =
    let i : Input = Input.Work x.0 x.1 in
    let u : Seat = enters_now (homes a) i s in
    let works : is_provider (homes s.number).role ≡ true = subst (λ k. is_provider (homes k).role ≡ true) (sym is) (worker (homes a).role s.state x e) in
    let p = goes_enters homes clock w (now_at s i) a s is h fair (record { printable = tt; in_time = refl; comes = works; soon = h.in_time }) in
    goes_twice homes clock w s u (rest u) p (more (world_after w p.own) u (p.number ∙ is) p.stands p.fair)

pub goes_works : (homes : Homes) (clock : ℕ) (w : World) (a n : ℕ) (s : Seat) → s.number ≡ a → Stands homes clock w s → IsFair homes w → GoesOn homes clock w s (works_off n (homes a) s)
unfolding works_off
goes_works homes clock w a zero s is h fair = goes_none homes clock w s h fair
goes_works homes clock w a (suc n) s is h fair =
    goes_work homes clock w a (work_of (homes a).role s.state) (works_off n (homes a)) s is refl h fair (λ v u here k f. goes_works homes clock v a n u here k f)

---- A turn

goes_synced : (homes : Homes) → Given homes → (clock : ℕ) (w : World) (a : ℕ) (b : Bool) (s : Seat) → s.number ≡ a → Stands homes clock w s → IsFair homes w → GoesOn homes clock w s (syncs_if b (homes a) s)
unfolding syncs_if
goes_synced homes given clock w a true s is h fair = goes_none homes clock w s h fair
goes_synced homes given clock w a false s is h fair = goes_syncs homes given clock w a s is h fair

no_entries : (es : List Entry) → length es ≡ 0 → es ≡ []
no_entries [] e = refl
no_entries (x ∷ xs) e = absurd (omega (arith, e))

-- then all is synced
synced_now : (b : Bool) (h : Home) (s : Seat) → (length s.fresh == 0) ≡ b → (syncs_if b h s).fresh ≡ []
unfolding syncs_if
synced_now true h s e = no_entries s.fresh (eqb-true (length s.fresh) 0 e)
synced_now false h s e = refl

goes_pushed : (homes : Homes) (clock : ℕ) (w : World) (s : Seat) → Stands homes clock w s → IsFair homes w → s.fresh ≡ [] → GoesOn homes clock w s (pushed s)
goes_pushed homes clock w s h fair e =
    let whole : w.journal s.number ≡ synced_part w s.number = h.journal ∙ (ap (λ es. synced_part w s.number ++ es) e ∙ append-nil (synced_part w s.number)) in
    goes_doors homes clock w s (map pushes s.doors) h fair (doors_push homes w s.number s.doors whole h.doors)

-- a turn that ends where the disk stops
pub goes_halted : (homes : Homes) → Given homes → (clock : ℕ) (w : World) (s : Seat) → Stands homes clock w s → IsFair homes w → GoesOn homes clock w s (halted (homes s.number) s)
goes_halted homes given clock w s h fair =
    let n : ℕ = s.number in
    let home : Home = homes n in
    let a : Seat = cleared s in
    let p = goes_doors homes clock w s (map clears s.doors) h fair (doors_clear homes w n s.doors h.doors) in
    let w1 : World = world_after w p.own in
    let lie = lying_later homes (Not n) w w1 n (lying s.doors) p.follows (doors_lying homes w n s.doors h.doors) in
    let b : Seat = takes_all home (lying s.doors) a in
    let q = goes_takes_all homes given clock w1 n (lying s.doors) a refl p.stands p.fair lie in
    let w2 : World = world_after w1 q.own in
    let c : Seat = worked home b in
    let r = goes_works homes clock w2 n (works_left home.role b.state) b q.number q.stands q.fair in
    goes_twice homes clock w s a c p (goes_twice homes clock w1 a b c q r)

pub goes_turned : (homes : Homes) → Given homes → (clock : ℕ) (w : World) (s : Seat) → Stands homes clock w s → IsFair homes w → GoesOn homes clock w s (turned (homes s.number) s)
unfolding turn_with
goes_turned homes given clock w s h fair =
    let n : ℕ = s.number in
    let home : Home = homes n in
    let a : Seat = cleared s in
    let p = goes_doors homes clock w s (map clears s.doors) h fair (doors_clear homes w n s.doors h.doors) in
    let w1 : World = world_after w p.own in
    let lie = lying_later homes (Not n) w w1 n (lying s.doors) p.follows (doors_lying homes w n s.doors h.doors) in
    let b : Seat = takes_all home (lying s.doors) a in
    let q = goes_takes_all homes given clock w1 n (lying s.doors) a refl p.stands p.fair lie in
    let w2 : World = world_after w1 q.own in
    let c : Seat = worked home b in
    let r = goes_works homes clock w2 n (works_left home.role b.state) b q.number q.stands q.fair in
    let w3 : World = world_after w2 r.own in
    let d : Seat = synced_all home c in
    let u = goes_synced homes given clock w3 n (length c.fresh == 0) c (r.number ∙ q.number) r.stands r.fair in
    let w4 : World = world_after w3 u.own in
    let x = goes_pushed homes clock w4 d u.stands u.fair (synced_now (length c.fresh == 0) home c refl) in
    goes_twice homes clock w s a (pushed d) p (goes_twice homes clock w1 a b (pushed d) q (goes_twice homes clock w2 b c (pushed d) r (goes_twice homes clock w3 c d (pushed d) u x)))
