-- An agent that goes on from what its journal has goes on by an event that is allowed, and stands there as it should.
use Rattle.std.proofs.Common.{ℕ, zero, suc, ◌+◌, ◌≤◌, ◌≡◌, Bool, true, false, List, [], ◌∷◌, ◌++◌, Option, Some, None, IfSome, inl, inr, refl, sym, ap, ◌∙◌, subst, arith, get_or, length, take, drop, map, append-nil, le_refl, le_trans, take-append-drop}
use Rattle.std.specs.List.{All, Contains}
use Rattle.std.proofs.lemmas.Bool.{cases_eq}
use Rattle.std.proofs.lemmas.List.{take_all, length-take-le}
use Rattle.std.proofs.lemmas.List.Elements.{All-nil, All-weaker, All-map}
use Rattle.nsi_primitive.specs.declared.entry.Entry.{Entry}
use Rattle.nsi_primitive.specs.declared.entry.Event.{Event}
use Rattle.nsi_primitive.specs.declared.entry.Happening.{Happening}
use Rattle.nsi_primitive.specs.declared.message.Message.{Message}
use Rattle.agent_state.specs.State.{AgentState, blank_agent}
use Rattle.nsi_agent.specs.Homes.{Home}
use Rattle.nsi_agent.specs.Steps.{after}
use Rattle.nsi_agent.specs.Told.{Told, goes_on, told}
use Rattle.nsi_agent.proofs.Telling.{telling_is_in_parts, clocks_rise, waiting_was_caused}
use Rattle.agent_node.specs.Doors.{Door}
use Rattle.agent_node.specs.Seat.{Seat}
use Rattle.agent_node.specs.Turns.{adds}
use Rattle.agent_node.specs.Restarts.{restart_event, restart_events, drops, instead, reads, reads_past, cut_past, restarted}
use Rattle.nsi_world.specs.Worlds.{Homes, IsAgent, World, synced_part, said, IsSaidBy}
use Rattle.nsi_world.specs.Runs.{at, happens_at, happens, world_after}
use Rattle.nsi_world.specs.Heard.{IsFair}
use Rattle.nsi_world.specs.Seats.{MayGo, IsDoor, Stands, AreFree, Not, Later, GoesLater}
use Rattle.nsi_world.proofs.Given.{Given}
use Rattle.nsi_world.proofs.Later.{Extends, at_same, at_other, all_later, later_twice, later_fewer, stands_later}
use Rattle.nsi_world.proofs.DoorSteps.{doors_say}
use Rattle.nsi_world.proofs.Steps.{later_goes, goes_none}
use Rattle.nsi_world.proofs.Sending.{restart_grows, fair_restart}

---- The clock

clock_on : (h : Home) (s : AgentState) (es : List Entry) → s.base.now ≤ (goes_on h s es).state.base.now
unfolding goes_on
clock_on h s [] = le_refl s.base.now
clock_on h s (e ∷ es) = le_trans (clocks_rise h s e) (clock_on h (after h s e).state es)

-- with fewer entries the clock stands no later
clock_of_front : (h : Home) (n : ℕ) (js : List Entry) → (told h (take n js)).state.base.now ≤ (told h js).state.base.now
clock_of_front h n js =
    let rest : List Entry = drop n js in
    let more : (told h (take n js)).state.base.now ≤ (goes_on h (told h (take n js)).state rest).state.base.now = clock_on h (told h (take n js)).state rest in
    let whole : (told h (take n js ++ rest)).state ≡ (goes_on h (told h (take n js)).state rest).state = ap (λ (x : Told). x.state) (telling_is_in_parts h blank_agent (take n js) rest) in
    let same : (told h js).state.base.now ≡ (goes_on h (told h (take n js)).state rest).state.base.now =
    ap (λ (es : List Entry). (told h es).state.base.now) (sym (take-append-drop n js)) ∙ ap (λ (s : AgentState). s.base.now) whole in
    omega (arith, more, same)

---- Its doors

doors_drop : (homes : Homes) (w v : World) (a : ℕ) (ds : List Door) → Extends (synced_part w) (synced_part v) → All (IsDoor homes w a) ds → All (IsDoor homes v a) (map drops ds)
doors_drop homes w v a ds g h = All-map (IsDoor homes v a) drops ds (All-weaker (IsDoor homes w a) (λ d. IsDoor homes v a (drops d)) door ds h)
  where
    door : (d : Door) → IsDoor homes w a d → IsDoor homes v a (drops d)
    door d k = record {
      inc = all_later homes w v (synced_part w) (synced_part v) d.other a d.inc g g k.inc;
      out = all_later homes w v (synced_part w) (synced_part v) a d.other d.out g g k.out;
      queue = All-nil (MayGo homes v v.journal a d.other);
    }

waiting_said : (homes : Homes) (w : World) (a : ℕ) (es : List Entry) → IsAgent homes a → synced_part w a ≡ es → All (IsSaidBy homes w a) (told (homes a) es).state.base.waiting
waiting_said homes w a es agent e = λ k d within. (agent, subst (λ (xs : List Entry). Contains (told (homes a) xs).out (get_or (told (homes a) es).state.base.waiting k d)) (sym e) (waiting_was_caused (homes a) es k d within))

---- It reads its journal

past_instead : (o : Option (List Entry)) (es ys : List Entry) → es ≡ ys → IfSome (instead es o) (λ xs. xs ≡ ys)
past_instead None es ys e = tt
past_instead (Some past) es ys e = e

-- the world behind the first restart, in which it stands so
record IsRead (homes : Homes) (clock : ℕ) (w v : World) (n : ℕ) (s u : Seat) : Type 0 where
  pub low : w.synced s.number ≤ n
  pub high : n ≤ length (w.journal s.number)
  pub later : Later (Not s.number) w v
  pub synced : v.synced s.number ≡ n
  pub taken : length (v.journal s.number) ≡ n
  pub stands : Stands homes clock v u
  pub fair : IsFair homes v

read_here : (homes : Homes) → Given homes → (clock : ℕ) (w : World) (tries : ℕ) (es : List Entry) (s : Seat) → Stands homes clock w s → IsFair homes w → w.synced s.number ≤ length es → length es ≤ length (w.journal s.number)
    → take (length es) (w.journal s.number) ≡ es → IsRead homes clock w (happens_at w s.number (Happening.Restart (length es))) (length es) s (reads (homes s.number) tries es s)
unfolding reads
read_here homes given clock w tries es s h fair low high is =
    let a : ℕ = s.number in
    let n : ℕ = length es in
    let js : List Entry = w.journal a in
    let v : World = happens_at w a (Happening.Restart n) in
    let grows : Extends (synced_part w) (synced_part v) = restart_grows w a n low high in
    let here : v.journal a ≡ es = at_same a (take n js) w.journal ∙ is in
    let part : synced_part v a ≡ es = ap (λ k. take k (v.journal a)) (at_same a n w.synced) ∙ (ap (take n) here ∙ take_all n es (le_refl n)) in
    record {
      low = low;
      high = high;
      later = record { grows = grows; others = λ b m. (at_other a b (take n js) w.journal m, at_other a b n w.synced m) };
      synced = at_same a n w.synced;
      taken = ap length here;
      stands = record {
        agent = h.agent;
        journal = here ∙ (sym part ∙ sym (append-nil (synced_part v a)));
        synced = at_same a n w.synced;
        past = past_instead s.past es (synced_part v a) (sym part);
        state = ap (λ (xs : List Entry). (told (homes a) xs).state) here;
        unsaid = ap (λ (xs : List Entry). (told (homes a) xs).out) (here ∙ sym part) ∙ sym (append-nil (said homes v a));
        doors = doors_say homes given v a (told (homes a) es).state.base.waiting (map drops s.doors) (waiting_said homes v a es h.agent part) (doors_drop homes w v a s.doors grows h.doors);
        in_time =
            let front = clock_of_front (homes a) n js in
            let same = ap (λ (xs : List Entry). (told (homes a) xs).state.base.now) is in
            let whole = ap (λ (z : AgentState). z.base.now) h.state in
            let before = h.in_time in
            omega (arith, front, same, whole, before);
      };
      fair = fair_restart homes w a n low high fair;
    }

---- It has restarted so often before

-- a restart of an agent whose entries are all synced changes nothing
record Repeats (homes : Homes) (v : World) (es : List Event) : Type 0 where
  pub free : AreFree homes v es
  pub journal : (b : ℕ) → (world_after v es).journal b ≡ v.journal b
  pub synced : (b : ℕ) → (world_after v es).synced b ≡ v.synced b
  pub fair : IsFair homes (world_after v es)

repeats : (homes : Homes) (a n tries : ℕ) (v : World) → IsAgent homes a → v.synced a ≡ n → length (v.journal a) ≡ n → IsFair homes v → Repeats homes v (restart_events tries a n)
unfolding world_after AreFree
repeats homes a n zero v agent e f fair = record { free = tt; journal = λ b. refl; synced = λ b. refl; fair = fair }
repeats homes a n (suc tries) v agent e f fair =
    let js : List Entry = v.journal a in
    let x : World = happens_at v a (Happening.Restart n) in
    let low : v.synced a ≤ n = omega (arith, e) in
    let high : n ≤ length js = omega (arith, f) in
    let all : take n js ≡ js = take_all n js (omega (arith, f)) in
    let journal : (b : ℕ) → x.journal b ≡ v.journal b = λ b. elim (cases_eq b a) [
      | inl q ↦ subst (λ c. at a (take n js) v.journal c ≡ v.journal c) (sym q) (at_same a (take n js) v.journal ∙ all)
      | inr m ↦ at_other a b (take n js) v.journal m
    ] in
    let synced : (b : ℕ) → x.synced b ≡ v.synced b = λ b. elim (cases_eq b a) [
      | inl q ↦ subst (λ c. at a n v.synced c ≡ v.synced c) (sym q) (at_same a n v.synced ∙ sym e)
      | inr m ↦ at_other a b n v.synced m
    ] in
    let rest = repeats homes a n tries x agent (synced a ∙ e) (ap length (journal a) ∙ f) (fair_restart homes v a n low high fair) in
    record {
      free = ((agent, (low, high)), rest.free);
      journal = λ b. rest.journal b ∙ journal b;
      synced = λ b. rest.synced b ∙ synced b;
      fair = rest.fair;
    }

-- where nothing changes everybody stands as before
repeats_later : (homes : Homes) (v : World) (es : List Event) → Repeats homes v es → Later (λ b. Unit {0}) v (world_after v es)
repeats_later homes v es r = record {
  grows = λ b. ([], ap (λ k. take k ((world_after v es).journal b)) (r.synced b) ∙ (ap (take (v.synced b)) (r.journal b) ∙ sym (append-nil (synced_part v b))));
  others = λ b u. (r.journal b, r.synced b);
}

pub goes_reads : (homes : Homes) → Given homes → (clock : ℕ) (w : World) (tries : ℕ) (es : List Entry) (s : Seat) → Stands homes clock w s → IsFair homes w → w.synced s.number ≤ length es → length es ≤ length (w.journal s.number)
    → take (length es) (w.journal s.number) ≡ es → GoesLater homes clock w s (reads (homes s.number) tries es s)
unfolding reads world_after AreFree
goes_reads homes given clock w tries es s h fair low high is =
    let a : ℕ = s.number in
    let n : ℕ = length es in
    let v : World = happens_at w a (Happening.Restart n) in
    let p = read_here homes given clock w tries es s h fair low high is in
    let more : List Event = restart_events tries a n in
    let r = repeats homes a n tries v h.agent p.synced p.taken p.fair in
    let l : Later (λ b. Unit {0}) v (world_after v more) = repeats_later homes v more r in
    record {
      own = restart_event a n ∷ more;
      events = refl;
      free = ((h.agent, (low, high)), r.free);
      later = later_twice (Not a) w v (world_after v more) p.later (later_fewer (λ b. Unit {0}) (Not a) v (world_after v more) (λ b q. tt) l);
      number = refl;
      stands = stands_later homes clock (λ b. Unit {0}) v (world_after v more) (reads (homes a) tries es s) tt l p.stands;
      fair = r.fair;
    }

---- It reads what is synced, or that with the batch that was being synced

-- what it tells of the synced entries is what it reads
past_read : (homes : Homes) → Given homes → (clock : ℕ) (w : World) (tries : ℕ) (s : Seat) (o : Option (List Entry)) → IfSome o (λ es. es ≡ synced_part w s.number) → Stands homes clock w s → IsFair homes w
    → GoesLater homes clock w s (reads_past o (homes s.number) tries s)
past_read homes given clock w tries s None e h fair = later_goes homes clock w s s (goes_none homes clock w s h fair)
past_read homes given clock w tries s (Some es) e h fair =
    let a : ℕ = s.number in
    let js : List Entry = w.journal a in
    let within = fair.within a in
    let count : length es ≡ w.synced a = ap length e ∙ length-take-le (w.synced a) js within in
    let is : take (length es) js ≡ es = ap (λ k. take k js) count ∙ sym e in
    goes_reads homes given clock w tries es s h fair (omega (arith, count)) (omega (arith, count, within)) is

pub goes_read : (homes : Homes) → Given homes → (clock : ℕ) (w : World) (tries : ℕ) (s : Seat) → Stands homes clock w s → IsFair homes w → GoesLater homes clock w s (reads_past s.past (homes s.number) tries s)
goes_read homes given clock w tries s h fair = past_read homes given clock w tries s s.past h.past h fair

pub goes_restarted : (homes : Homes) → Given homes → (clock : ℕ) (w : World) (s : Seat) → Stands homes clock w s → IsFair homes w → GoesLater homes clock w s (restarted (homes s.number) s)
goes_restarted homes given clock w s h fair = goes_read homes given clock w 0 s h fair

-- where the whole batch was kept it reads all that it has taken
whole_read : (homes : Homes) → Given homes → (clock : ℕ) (w : World) (tries : ℕ) (s : Seat) (o : Option (List Entry)) → IfSome o (λ es. es ≡ synced_part w s.number) → Stands homes clock w s → IsFair homes w
    → GoesLater homes clock w s (reads_past (adds s.fresh o) (homes s.number) tries s)
whole_read homes given clock w tries s None e h fair = later_goes homes clock w s s (goes_none homes clock w s h fair)
whole_read homes given clock w tries s (Some past) e h fair =
    let a : ℕ = s.number in
    let js : List Entry = w.journal a in
    let es : List Entry = past ++ s.fresh in
    let within = fair.within a in
    let all : es ≡ js = ap (λ xs. xs ++ s.fresh) e ∙ sym h.journal in
    let count : length es ≡ length js = ap length all in
    let is : take (length es) js ≡ es = take_all (length es) js (omega (arith, count)) ∙ sym all in
    goes_reads homes given clock w tries es s h fair (omega (arith, count, within)) (omega (arith, count)) is

pub goes_reopened : (homes : Homes) → Given homes → (clock : ℕ) (w : World) (keeps : Bool) (tries : ℕ) (s : Seat) → Stands homes clock w s → IsFair homes w
    → GoesLater homes clock w s (reads_past (cut_past keeps s) (homes s.number) tries s)
goes_reopened homes given clock w true tries s h fair = whole_read homes given clock w tries s s.past h.past h fair
goes_reopened homes given clock w false tries s h fair = past_read homes given clock w tries s s.past h.past h fair
