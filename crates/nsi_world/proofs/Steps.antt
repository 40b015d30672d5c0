-- What an agent does is allowed: an entry, a change at its doors, a sync.
use Rattle.std.proofs.Common.{ℕ, ◌+◌, ◌≤◌, ◌≡◌, Bool, true, false, List, [], ◌∷◌, ◌++◌, refl, sym, ap, ◌∙◌, subst, arith, length, take, append_assoc, append-nil, length-append, Option, Some, None, IfSome}
use Rattle.std.specs.List.{All, Contains}
use Rattle.std.proofs.lemmas.List.{take-append-le, take_all, length-take-le}
use Rattle.std.proofs.lemmas.List.Elements.{All-weaker, All-contains_itself, Contains-append_right}
use Rattle.nsi_primitive.specs.Printable.{IsPrintableEntry}
use Rattle.nsi_primitive.specs.declared.entry.Entry.{Entry}
use Rattle.nsi_primitive.specs.declared.entry.Happening.{Happening}
use Rattle.nsi_primitive.specs.declared.entry.Input.{Input}
use Rattle.nsi_primitive.specs.declared.message.Message.{Message}
use Rattle.agent_state.specs.State.{AgentState, AgentStepped}
use Rattle.nsi_agent.specs.Homes.{Home}
use Rattle.nsi_agent.specs.Steps.{after, may_take_as}
use Rattle.nsi_agent.specs.Told.{told}
use Rattle.nsi_agent.proofs.Staying.{entries_are_taken, others_are_left_out}
use Rattle.agent_node.specs.Doors.{Door}
use Rattle.agent_node.specs.Seat.{Seat, enters}
use Rattle.agent_node.specs.Turns.{adds, sync_event, syncs}
use Rattle.nsi_world.specs.Worlds.{Homes, World, synced_part, said, IsSaidBy}
use Rattle.nsi_world.specs.Runs.{MayCome, IsInTime, IsEntered, happens_at, world_after}
use Rattle.nsi_world.specs.Heard.{WasSent, IsFair}
use Rattle.nsi_world.specs.Seats.{IsDoor, Stands, AreFree, Not, Follows, GoesOn, GoesLater}
use Rattle.nsi_world.proofs.Given.{Given}
use Rattle.nsi_world.proofs.Later.{told_state, told_out, at_same, follows_none, follows_twice, follows_entry, follows_sync, later_follows, doors_later, past_as, fair_entry, fair_sync, free_append, after_append}
use Rattle.nsi_world.proofs.DoorSteps.{doors_say}

pub goes_none : (homes : Homes) (clock : ℕ) (w : World) (s : Seat) → Stands homes clock w s → IsFair homes w → GoesOn homes clock w s s
unfolding world_after AreFree
goes_none homes clock w s h fair = record { own = []; events = sym (append-nil s.events); free = tt; follows = follows_none (Not s.number) w; number = refl; stands = h; fair = fair }

pub goes_twice : (homes : Homes) (clock : ℕ) (w : World) (s u v : Seat) → (p : GoesOn homes clock w s u) → GoesOn homes clock (world_after w p.own) u v → GoesOn homes clock w s v
goes_twice homes clock w s u v p q =
    let x : World = world_after w p.own in
    let y : World = world_after x q.own in
    record {
      own = p.own ++ q.own;
      events = q.events ∙ (ap (λ es. es ++ q.own) p.events ∙ append_assoc s.events p.own q.own);
      free = free_append homes w p.own q.own p.free q.free;
      follows = subst (λ z. Follows (Not s.number) w z) (sym (after_append w p.own q.own)) (follows_twice (Not s.number) w x y p.follows (subst (λ a. Follows (Not a) x y) p.number q.follows));
      number = q.number ∙ p.number;
      stands = subst (λ z. Stands homes clock z v) (sym (after_append w p.own q.own)) q.stands;
      fair = subst (λ z. IsFair homes z) (sym (after_append w p.own q.own)) q.fair;
    }

-- where nothing of its own is gone
pub later_goes : (homes : Homes) (clock : ℕ) (w : World) (s u : Seat) → GoesOn homes clock w s u → GoesLater homes clock w s u
later_goes homes clock w s u p = record {
  own = p.own;
  events = p.events;
  free = p.free;
  later = later_follows (Not s.number) w (world_after w p.own) p.follows;
  number = p.number;
  stands = p.stands;
  fair = p.fair;
}

---- An entry

entry_clock : (h : Home) (s : AgentState) (e : Entry) (clock : ℕ) → s.base.now ≤ clock → e.second ≤ clock → (after h s e).state.base.now ≤ clock
entry_clock h s e clock before now = by (may_take_as h.role s e) refl
  where
    by : (b : Bool) → may_take_as h.role s e ≡ b → (after h s e).state.base.now ≤ clock
    by true may = omega (arith, (entries_are_taken h s e may).now, now)
    by false may = omega (arith, ap (λ (x : AgentStepped). x.state.base.now) (others_are_left_out h s e may), before)

pub heard_of : (homes : Homes) (w : World) (a : ℕ) (i : Input) → MayCome homes w a i → WasSent homes w a i
heard_of homes w a (Input.Got m) h = h
heard_of homes w a (Input.Work n machine) h = tt
heard_of homes w a (Input.Force n) h = tt
heard_of homes w a (Input.Acked i) h = tt
heard_of homes w a Input.Tick h = tt
heard_of homes w a (Input.Ask n ask) h = tt

-- what makes an entry of a seat allowed
pub record Comes (homes : Homes) (clock : ℕ) (w : World) (s : Seat) (e : Entry) : Type 0 where
  pub printable : IsPrintableEntry e
  pub in_time : IsInTime e.input e.second s.state.base.now
  pub comes : MayCome homes w s.number e.input
  pub soon : e.second ≤ clock

enters_here : (homes : Homes) (clock : ℕ) (w : World) (e : Entry) (s : Seat) → Stands homes clock w s → IsFair homes w → Comes homes clock w s e → GoesOn homes clock w s (enters (homes s.number) e s)
unfolding enters world_after AreFree
enters_here homes clock w e s h fair c =
    let a : ℕ = s.number in
    let x : AgentStepped = after (homes a) s.state e in
    let js : List Entry = w.journal a in
    let v : World = happens_at w a (Happening.Entry e x.answer) in
    let f : Follows (Not a) w v = follows_entry a e x.answer w (fair.within a) in
    let here : v.journal a ≡ js ++ e ∷ [] = at_same a (js ++ e ∷ []) w.journal in
    let part : synced_part v a ≡ synced_part w a = ap (take (w.synced a)) here ∙ take-append-le (w.synced a) js (e ∷ []) (fair.within a) in
    let entered : IsEntered homes w a e x.answer = record {
      printable = c.printable;
      in_time = subst (λ (z : AgentState). IsInTime e.input e.second z.base.now) (sym h.state) c.in_time;
      comes = c.comes;
      answered = ap (λ z. (after (homes a) z e).answer) (sym h.state);
    } in
    record {
      own = record { agent = a; what = Happening.Entry e x.answer } ∷ [];
      events = refl;
      free = ((h.agent, entered), tt);
      follows = f;
      number = refl;
      stands = record {
        agent = h.agent;
        journal = here ∙ (ap (λ es. es ++ e ∷ []) h.journal ∙ (append_assoc (synced_part w a) s.fresh (e ∷ []) ∙ ap (λ es. es ++ (s.fresh ++ e ∷ [])) (sym part)));
        synced = h.synced;
        past = past_as s.past (synced_part w a) (synced_part v a) part h.past;
        state = ap (λ (es : List Entry). (told (homes a) es).state) here ∙ (told_state (homes a) js e ∙ ap (λ z. (after (homes a) z e).state) h.state);
        unsaid = ap (λ (es : List Entry). (told (homes a) es).out) here ∙ (told_out (homes a) js e
            ∙ (ap (λ z. (told (homes a) js).out ++ (after (homes a) z e).out) h.state
            ∙ (ap (λ ms. ms ++ x.out) h.unsaid ∙ (append_assoc (said homes w a) s.unsaid x.out
            ∙ ap (λ (es : List Entry). (told (homes a) es).out ++ (s.unsaid ++ x.out)) (sym part)))));
        doors = doors_later homes (Not a) w v a s.doors f h.doors;
        in_time = entry_clock (homes a) s.state e clock h.in_time c.soon;
      };
      fair = fair_entry homes w a e x.answer fair (record { printable = c.printable; sent = heard_of homes w a e.input c.comes });
    }

pub goes_enters : (homes : Homes) (clock : ℕ) (w : World) (e : Entry) (a : ℕ) (s : Seat) → s.number ≡ a → Stands homes clock w s → IsFair homes w → Comes homes clock w s e → GoesOn homes clock w s (enters (homes a) e s)
goes_enters homes clock w e a s is h fair c = subst (λ b. GoesOn homes clock w s (enters (homes b) e s)) is (enters_here homes clock w e s h fair c)

---- The doors alone

pub goes_doors : (homes : Homes) (clock : ℕ) (w : World) (s : Seat) (ds : List Door) → Stands homes clock w s → IsFair homes w → All (IsDoor homes w s.number) ds → GoesOn homes clock w s (record s { doors = ds })
unfolding world_after AreFree
goes_doors homes clock w s ds h fair d = record {
  own = [];
  events = sym (append-nil s.events);
  free = tt;
  follows = follows_none (Not s.number) w;
  number = refl;
  stands = record { agent = h.agent; journal = h.journal; synced = h.synced; past = h.past; state = h.state; unsaid = h.unsaid; doors = d; in_time = h.in_time };
  fair = fair;
}

---- A sync

past_adds : (o : Option (List Entry)) (fresh xs ys : List Entry) → ys ≡ xs ++ fresh → IfSome o (λ es. es ≡ xs) → IfSome (adds fresh o) (λ es. es ≡ ys)
past_adds None fresh xs ys e h = tt
past_adds (Some es) fresh xs ys e h = ap (λ zs. zs ++ fresh) h ∙ sym e

syncs_here : (homes : Homes) → Given homes → (clock : ℕ) (w : World) (s : Seat) → Stands homes clock w s → IsFair homes w → GoesOn homes clock w s (syncs (homes s.number) s)
unfolding world_after AreFree
syncs_here homes given clock w s h fair =
    let a : ℕ = s.number in
    let js : List Entry = w.journal a in
    let n : ℕ = s.synced + length s.fresh in
    let v : World = happens_at w a (Happening.Sync n) in
    let e : n ≡ length js = omega (arith, ap length h.journal, length-append (synced_part w a) s.fresh, length-take-le (w.synced a) js (fair.within a), h.synced) in
    let f : Follows (Not a) w v = follows_sync a n w e in
    let whole : synced_part v a ≡ js = ap (λ k. take k js) (at_same a n w.synced) ∙ take_all n js (omega (arith, e)) in
    let out : (told (homes a) js).out ≡ said homes v a = ap (λ (es : List Entry). (told (homes a) es).out) (sym whole) in
    let spoken : (m : Message) → Contains s.unsaid m → IsSaidBy homes v a m =
    λ m c. (h.agent, subst (λ ms. Contains ms m) (sym h.unsaid ∙ out) (Contains-append_right (said homes w a) s.unsaid m c)) in
    record {
      own = sync_event a n ∷ [];
      events = refl;
      free = ((h.agent, e), tt);
      follows = f;
      number = refl;
      stands = record {
        agent = h.agent;
        journal = sym whole ∙ sym (append-nil (synced_part v a));
        synced = at_same a n w.synced;
        past = past_adds s.past s.fresh (synced_part w a) (synced_part v a) (whole ∙ h.journal) h.past;
        state = h.state;
        unsaid = out ∙ sym (append-nil (said homes v a));
        doors = doors_say homes given v a s.unsaid s.doors (All-weaker (Contains s.unsaid) (IsSaidBy homes v a) spoken s.unsaid (All-contains_itself s.unsaid)) (doors_later homes (Not a) w v a s.doors f h.doors);
        in_time = h.in_time;
      };
      fair = fair_sync homes w a n e fair;
    }

pub goes_syncs : (homes : Homes) → Given homes → (clock : ℕ) (w : World) (a : ℕ) (s : Seat) → s.number ≡ a → Stands homes clock w s → IsFair homes w → GoesOn homes clock w s (syncs (homes a) s)
goes_syncs homes given clock w a s is h fair = subst (λ b. GoesOn homes clock w s (syncs (homes b) s)) is (syncs_here homes given clock w s h fair)
