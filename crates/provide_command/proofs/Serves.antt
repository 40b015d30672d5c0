-- How a provider that serves lines goes on.
use Rattle.std.proofs.Common.{◌≡◌, ◌≤◌, ◌<◌, ◌+◌, inl, inr, ℕ, List, [], ◌∷◌, length, leb, eqb, cond, Bool, true, false, Option, Some, None, Result, Ok, Err, refl, ap, ◌∙◌, subst, arith}
use Rattle.std.specs.Prelude.{nat_eq, codes}
use Rattle.std.specs.List.{starts_with, All}
use Rattle.std.proofs.lemmas.Bool.Decides.{nat_tests}
use Rattle.nsi_primitive.specs.declared.entry.Entry.{Entry}
use Rattle.nsi_primitive.specs.declared.entry.Input.{Input}
use Rattle.nsi_primitive.specs.Printable.{IsPrintable, IsPrintableEntry}
use Rattle.nsi_primitive.specs.declared.message.Message.{Message}
use Rattle.nsi_primitive.specs.declared.message.Parcel.{Parcel}
use Rattle.json_fields.specs.declared.fault.LineFault.{LineFault}
use Rattle.json_primitives.specs.Lines.{line_of}
use Rattle.provide_command.specs.declared.payload.PayloadFault.{PayloadFault}
use Rattle.json_primitives.proofs.ReadParcels.{line_printable}
use Rattle.stp_topology.specs.declared.network.Network.{Network}
use Rattle.provider_agent.specs.Setting.{Setting, setting_of, own_stp}
use Rattle.provider_agent.specs.Runs.{after_all}
use Rattle.provider_agent.specs.Good.{IsGood}
use Rattle.provider_agent.specs.State.{State, Stepped, blank, unchanged}
use Rattle.provider_agent.specs.Steps.{after, after_if, may_take, is_seen, waiting_work}
use Rattle.provider_agent.proofs.GoodAfter.{good_after}
use Rattle.provider_agent.proofs.EventsSafe.{good_replayed}
use Rattle.provider_agent.proofs.RunsSafe.{every_run_safe}
use Rattle.provider_run.specs.Works.{all_works, with_works}
use Rattle.provider_run.proofs.Working.{taken_after, first_state}
use Rattle.provider_run.proofs.WorkRuns.{with_works_run}
use Rattle.provider_run.proofs.Idle.{idle_after}
use Rattle.provide_command.specs.Receiving.{received, read, unserved, received_unless, requested, ticked, second_in, IsTimely, IsTimelyEntry}
use Rattle.provide_command.specs.Lines.{answered, entered, lines_of_messages, long_line}
use Rattle.provide_command.specs.Runs.{entries_of, run_of, events_of, with_sync, IsSafeText, IsServed}
use Rattle.provide_command.specs.Runs.IsServed.{served_all, served_some}
use Rattle.provide_command.specs.Serving.{Serving, Served, serving_of, points_at}
use Rattle.provide_command.specs.Outcome.{goes_on, move_of, behind, outcome}
use Rattle.provide_command.specs.Promise.{EndsBy}
use Rattle.provide_command.specs.declared.receiving.Received.{Received}
use Rattle.provide_command.specs.Phases.{Reading, in_service}
use Rattle.provide_command.specs.declared.status.Status.{Status}
use Rattle.provide_command.proofs.Served.{taken_all, good_all, woven_none, woven_messages, woven_fault, IsTextOf, text_none, ServedFrom, served_behind}
use Rattle.provide_command.proofs.Served.ServedFrom.{all_from, some_from}

---- What a line says may be taken now

ticked_timely : (s : State) (second : Option ℕ) → IsTimely s (ticked second s)
ticked_timely s None = tt
ticked_timely s (Some second) = by_test (leb s.now second) refl
  where
    by_test : (b : Bool) → leb s.now second ≡ b → IsTimely s (cond b (Received.Entry (record { second = second; input = Input.Tick })) (Received.Fault PayloadFault.Tick))
    by_test true e = record { own = refl; on_time = e; printable = tt }
    by_test false e = tt

requested_timely : (s : State) (m : Message) → IsPrintable m → IsTimely s (requested m s)
requested_timely s m p = by_test (is_seen s m)
  where
    now_is : (n : ℕ) → eqb n n ≡ true
    now_is n = grind arith

    by_test : (b : Bool) → IsTimely s (cond b Received.Nothing (Received.Entry (record { second = s.now; input = Input.Got m })))
    by_test true = tt
    by_test false = record { own = refl; on_time = now_is s.now; printable = p }

message_timely : (s : State) (m : Message) (o : Option PayloadFault) → IsPrintable m → IsTimely s (received_unless o m s)
message_timely s m (Some fault) p = tt
message_timely s m None p = requested_timely s m p

read_timely : (s : State) (line : List ℕ) (r : Result Parcel LineFault) → line_of line ≡ r → IsTimely s (read r s)
read_timely s line (Err fault) e = tt
read_timely s line (Ok (Parcel.Message m)) e = message_timely s m (unserved m.body) (line_printable line (Parcel.Message m) e)
read_timely s line (Ok (Parcel.Ack identity)) e = tt

pub timely : (s : State) (line : List ℕ) → IsTimely s (received s line)
unfolding received
timely s line = by_empty (eqb (length line) 0)
  where
    by_tick : (b : Bool) → IsTimely s (cond b (ticked (second_in line) s) (read (line_of line) s))
    by_tick true = ticked_timely s (second_in line)
    by_tick false = read_timely s line (line_of line) refl

    by_empty : (b : Bool) → IsTimely s (cond b Received.Nothing (cond (starts_with nat_eq line (codes "tick")) (ticked (second_in line) s) (read (line_of line) s)))
    by_empty true = tt
    by_empty false = by_tick (starts_with nat_eq line (codes "tick"))

---- An entry and its work

may_be_taken : (s : State) (e : Entry) → IsTimelyEntry s e → s.taken ≤ 2000000 → may_take s e ≡ true
may_be_taken s e timely few =
    let own = timely.own in
    let on_time = timely.on_time in
    grind (arith, nat_tests, own, on_time)

pub entry_text : (setting : Setting) (stp_of : List ℕ → Option ℕ) (s : State) (e : Entry) → IsGood setting s → s.taken ≤ 2000000 → IsTimelyEntry s e
    → IsTextOf setting stp_of s (with_works setting stp_of s e) (lines_of_messages (after_all setting stp_of s (with_works setting stp_of s e)).out)
entry_text setting stp_of s e good few timely =
    let may = may_be_taken s e timely few in
    let next : State = (after setting stp_of s e).state in
    let next_good : IsGood setting next = good_after setting stp_of s e good timely.printable in
    record {
      run = with_works_run setting stp_of s e good may timely.printable few;
      idle = λ h. ap waiting_work (first_state setting stp_of s e (all_works setting stp_of next)) ∙ idle_after setting stp_of next next_good (omega (arith, taken_after setting stp_of s e may, few));
      woven = woven_messages (after_all setting stp_of s (with_works setting stp_of s e)).out;
    }

---- Too many events

-- an entry that may not be taken changes nothing
not_taken : (setting : Setting) (stp_of : List ℕ → Option ℕ) (s : State) (e : Entry) → may_take s e ≡ false → after setting stp_of s e ≡ unchanged s
unfolding after
not_taken setting stp_of s e may = ap (λ b. after_if b setting stp_of s e) may

-- what was taken stays so
taken_stays : (setting : Setting) (stp_of : List ℕ → Option ℕ) (s : State) (e : Entry) → s.taken ≤ (after setting stp_of s e).state.taken
taken_stays setting stp_of s e = by_test (may_take s e) refl
  where
    by_test : (b : Bool) → may_take s e ≡ b → s.taken ≤ (after setting stp_of s e).state.taken
    by_test true may = omega (arith, taken_after setting stp_of s e may)
    by_test false may = omega (arith, ap (λ (x : Stepped). x.state.taken) (not_taken setting stp_of s e may))

all_taken_stays : (setting : Setting) (stp_of : List ℕ → Option ℕ) (s : State) (es : List Entry) → s.taken ≤ (after_all setting stp_of s es).state.taken
unfolding after_all
all_taken_stays setting stp_of s [] = omega arith
all_taken_stays setting stp_of s (e ∷ es) = omega (arith, taken_stays setting stp_of s e, all_taken_stays setting stp_of (after setting stp_of s e).state es)

-- where there were as many events as there may be, an entry is one too many
pub too_many : (s : Serving) (e : Entry) → s.most ≤ s.standing.state.taken + s.others → entered s e ≡ None
unfolding entered
too_many s e le =
    let setting : Setting = s.standing.setting in
    let x : Stepped = after_all setting (points_at s) s.standing.state (with_works setting (points_at s) s.standing.state e) in
    ap (λ b. cond b (Some (record { serving = record s { standing = record s.standing { state = x.state }; others = s.others + 1 }; entries = with_works setting (points_at s) s.standing.state e; text = lines_of_messages x.out })) None)
    (fits_not x.state.taken s.standing.state.taken s.others s.most le (all_taken_stays setting (points_at s) s.standing.state (with_works setting (points_at s) s.standing.state e)))
  where
    fits_not : (now was others most : ℕ) → most ≤ was + others → was ≤ now → leb (now + others + 1) most ≡ false
    fits_not now was others most a b = grind (arith, nat_tests)

---- All lines

-- it is good, and there were no more events than there may be
pub record IsServingWell (s : Serving) : Type 0 where
  pub few : s.standing.state.taken + s.others ≤ s.most
  pub most : s.most ≤ 2000000
  pub good : IsGood s.standing.setting s.standing.state

-- the state after an entry and its work, and the messages
abbrev pub run_with : Serving → Entry → Stepped
run_with s e = after_all s.standing.setting (points_at s) s.standing.state (with_works s.standing.setting (points_at s) s.standing.state e)

abbrev pub go_with : Serving → Entry → Serving
go_with s e = record s { standing = record s.standing { state = (run_with s e).state }; others = s.others + 1 }

module _ (s : Serving) (e : Entry) (well : IsServingWell s) (timely : IsTimelyEntry s.standing.state e) where
  few_taken : s.standing.state.taken ≤ 2000000
  few_taken = omega (arith, well.few, well.most)

  pub text_with : IsTextOf s.standing.setting (points_at s) s.standing.state (with_works s.standing.setting (points_at s) s.standing.state e) (lines_of_messages (run_with s e).out)
  text_with = entry_text s.standing.setting (points_at s) s.standing.state e well.good few_taken timely

  -- each entry counts
  taken_with : (run_with s e).state.taken ≡ s.standing.state.taken + length (with_works s.standing.setting (points_at s) s.standing.state e)
  taken_with = taken_all s.standing.setting (points_at s) s.standing.state (with_works s.standing.setting (points_at s) s.standing.state e) text_with.run

  -- where the events suffice, it goes on as well
  pub well_with : leb ((run_with s e).state.taken + s.others + 1) s.most ≡ true → IsServingWell (go_with s e)
  well_with fits = record {
    few = fits_few ((run_with s e).state.taken) s.others s.most fits;
    most = well.most;
    good = good_all s.standing.setting (points_at s) s.standing.state (with_works s.standing.setting (points_at s) s.standing.state e) well.good text_with.run;
  }
    where
      fits_few : (a b c : ℕ) → leb (a + b + 1) c ≡ true → a + (b + 1) ≤ c
      fits_few a b c h = grind (arith, nat_tests)

-- what comes of an answer to a line
abbrev comes_of : Reading → Bool → ℕ → List (List ℕ) → Option Served → Status × List ℕ
comes_of read long number lines a = behind (goes_on a).text (goes_on a).step (λ p. outcome read long (number + 1) p lines)

abbrev pub served_if : Bool → Serving → Entry → Option Served
served_if b s e = cond b (Some (record { serving = go_with s e; entries = with_works s.standing.setting (points_at s) s.standing.state e; text = lines_of_messages (run_with s e).out })) None

pub served_from : (read : Reading) (long : Bool) (number : ℕ) (s : Serving) (lines : List (List ℕ)) → IsServingWell s
    → ServedFrom s.standing.setting (points_at s) s.standing.state lines (outcome read long number (in_service s) lines).0 (outcome read long number (in_service s) lines).1
unfolding outcome move_of run_of entered after_all
served_from read true number s [] well = some_from [] [] [] refl refl (text_none s.standing.setting (points_at s) s.standing.state [] woven_none) refl
served_from read false number s [] well = all_from refl (text_none s.standing.setting (points_at s) s.standing.state [] woven_none)
served_from read long number s (line ∷ lines) well = by_received (received st line) refl (timely st line) (λ t w. served_from read long (number + 1) t lines w)
  where
    setting : Setting
    setting = s.standing.setting

    stp_of : List ℕ → Option ℕ
    stp_of = points_at s

    st : State
    st = s.standing.state

    Goes : Status × List ℕ → Type 0
    Goes end = ServedFrom setting stp_of st (line ∷ lines) end.0 end.1

    Onward : Type 0
    Onward = (t : Serving) → IsServingWell t → ServedFrom t.standing.setting (points_at t) t.standing.state lines (outcome read long (number + 1) (in_service t) lines).0 (outcome read long (number + 1) (in_service t) lines).1

    by_entry : (e : Entry) → Received.Entry e ≡ received st line → IsTimelyEntry st e → Onward → (b : Bool) → leb ((run_with s e).state.taken + s.others + 1) s.most ≡ b → Goes (comes_of read long number lines (served_if b s e))
    by_entry e h t next true fits = served_behind setting stp_of st line (Received.Entry e) h (lines_of_messages (run_with s e).out) (text_with s e well t) lines _ _ (next (go_with s e) (well_with s e well t fits))
    by_entry e h t next false fits = some_from [] (line ∷ lines) [] refl refl (text_none setting stp_of st [] woven_none) refl

    by_received : (h : Received) → h ≡ received st line → IsTimely st h → Onward → Goes (comes_of read long number lines (answered h s number))
    by_received Received.Nothing e t next = served_behind setting stp_of st line Received.Nothing e [] (text_none setting stp_of st [] woven_none) lines _ _ (next s well)
    by_received (Received.Fault fault) e t next = served_behind setting stp_of st line (Received.Fault fault) e _ (text_none setting stp_of st _ (woven_fault number fault)) lines _ _ (next s well)
    by_received (Received.Entry entry) e t next = by_entry entry e t next (leb ((run_with s entry).state.taken + s.others + 1) s.most) refl

---- How it ends

abbrev events_at : Serving → ℕ
events_at s = s.standing.state.taken + s.others

abbrev after_line : Setting → (List ℕ → Option ℕ) → State → Received → List (List ℕ) → ℕ
after_line setting stp_of s h lines = with_sync (entries_of setting stp_of s h) + events_of setting stp_of (after_all setting stp_of s (entries_of setting stp_of s h)).state lines

pub ends_by : (read : Reading) (long : Bool) (number : ℕ) (s : Serving) (lines : List (List ℕ)) → IsServingWell s
    → EndsBy long s.most (events_at s + events_of s.standing.setting (points_at s) s.standing.state lines) (outcome read long number (in_service s) lines).0
unfolding outcome move_of events_of after_all entered
ends_by read true number s [] well = inr (inl refl, refl)
ends_by read false number s [] well = inl (refl, omega (arith, well.few), refl)
ends_by read long number s (line ∷ lines) well = by_received (received st line) (timely st line) (λ t w. ends_by read long (number + 1) t lines w)
  where
    setting : Setting
    setting = s.standing.setting

    stp_of : List ℕ → Option ℕ
    stp_of = points_at s

    st : State
    st = s.standing.state

    Onward : Type 0
    Onward = (t : Serving) → IsServingWell t → EndsBy long t.most (events_at t + events_of t.standing.setting (points_at t) t.standing.state lines) (outcome read long (number + 1) (in_service t) lines).0

    plus_none : (a b : ℕ) → a + b ≡ a + (0 + b)
    plus_none a b = omega arith

    fits_not : (a b c : ℕ) → leb (a + b + 1) c ≡ false → c < a + b + 1
    fits_not a b c h = grind (arith, nat_tests)

    sums : (now taken k others rest : ℕ) → now ≡ taken + k → (now + (others + 1)) + rest ≡ (taken + others) + ((k + 1) + rest)
    sums now taken k others rest e = omega (arith, e)

    by_entry : (e : Entry) → IsTimelyEntry st e → Onward → (b : Bool) → leb ((run_with s e).state.taken + s.others + 1) s.most ≡ b
        → EndsBy long s.most (events_at s + after_line setting stp_of st (Received.Entry e) lines) (comes_of read long number lines (served_if b s e)).0
    by_entry e t next true fits =
        let same = sums (run_with s e).state.taken st.taken (length (with_works setting stp_of st e)) s.others (events_of setting stp_of (run_with s e).state lines) (taken_with s e well t) in
        subst (λ n. EndsBy long s.most n (comes_of read long number lines (served_if true s e)).0) same (next (go_with s e) (well_with s e well t fits))
    by_entry e t next false fits =
        let gt : s.most < (run_with s e).state.taken + s.others + 1 = fits_not (run_with s e).state.taken s.others s.most fits in
        inr (inr (omega (arith, gt, taken_with s e well t)), refl)

    by_received : (h : Received) → IsTimely st h → Onward → EndsBy long s.most (events_at s + after_line setting stp_of st h lines) (comes_of read long number lines (answered h s number)).0
    by_received Received.Nothing t next = subst (λ n. EndsBy long s.most n (outcome read long (number + 1) (in_service s) lines).0) (plus_none (events_at s) _) (next s well)
    by_received (Received.Fault fault) t next = subst (λ n. EndsBy long s.most n (outcome read long (number + 1) (in_service s) lines).0) (plus_none (events_at s) _) (next s well)
    by_received (Received.Entry entry) t next = by_entry entry t next (leb ((run_with s entry).state.taken + s.others + 1) s.most) refl

---- From the first line on

-- no more entries of a journal are taken than it has
pub taken_one : (setting : Setting) (stp_of : List ℕ → Option ℕ) (s : State) (e : Entry) → (after setting stp_of s e).state.taken ≤ s.taken + 1
taken_one setting stp_of s e = by_test (may_take s e) refl
  where
    by_test : (b : Bool) → may_take s e ≡ b → (after setting stp_of s e).state.taken ≤ s.taken + 1
    by_test true may = omega (arith, taken_after setting stp_of s e may)
    by_test false may = omega (arith, ap (λ (x : Stepped). x.state.taken) (not_taken setting stp_of s e may))

pub taken_among : (setting : Setting) (stp_of : List ℕ → Option ℕ) (s : State) (es : List Entry) → (after_all setting stp_of s es).state.taken ≤ s.taken + length es
unfolding after_all
taken_among setting stp_of s [] = omega arith
taken_among setting stp_of s (e ∷ es) = omega (arith, taken_one setting stp_of s e, taken_among setting stp_of (after setting stp_of s e).state es)

-- each entry of a journal is an event, whether it was taken or left out
pub events_first : (t : Network) (provider : ℕ) (es : List Entry) (most : ℕ) → (serving_of t provider es most).standing.state.taken + (serving_of t provider es most).others ≡ length es
events_first t provider es most = omega (arith, taken_among (setting_of t provider) (own_stp t provider) blank es)

pub well_at_first : (t : Network) (provider most : ℕ) (es : List Entry) → most ≤ 2000000 → length es ≤ most → All IsPrintableEntry es → IsServingWell (serving_of t provider es most)
well_at_first t provider most es few fits printable =
    record { few = omega (arith, events_first t provider es most, fits); most = few; good = good_replayed (setting_of t provider) (own_stp t provider) es printable }

safe_text : (setting : Setting) (stp_of : List ℕ → Option ℕ) (s : State) (lines : List (List ℕ)) (text : List ℕ) → IsGood setting s → IsTextOf setting stp_of s (run_of setting stp_of s lines) text → IsSafeText setting stp_of s lines text
safe_text setting stp_of s lines text good t = record {
  run = t.run;
  safe = every_run_safe setting stp_of s (run_of setting stp_of s lines) good t.run;
  idle = t.idle;
  woven = t.woven;
}

pub served_safely : (setting : Setting) (stp_of : List ℕ → Option ℕ) (s : State) (lines : List (List ℕ)) (status : Status) (text : List ℕ) → IsGood setting s → ServedFrom setting stp_of s lines status text → IsServed setting stp_of s lines status text
served_safely setting stp_of s lines status text good (all_from done t) = served_all done (safe_text setting stp_of s lines text good t)
served_safely setting stp_of s lines status text good (some_from front back body cut long t whole) = served_some front back body cut long (safe_text setting stp_of s front body good t) whole

-- a journal that has more entries than there may be events is served to no line
pub none_safely : (setting : Setting) (stp_of : List ℕ → Option ℕ) (s : State) (lines : List (List ℕ)) → IsGood setting s → IsServed setting stp_of s lines Status.Long long_line
unfolding run_of
none_safely setting stp_of s lines good = served_safely setting stp_of s lines Status.Long long_line good (some_from [] lines [] refl refl (text_none setting stp_of s [] woven_none) refl)
