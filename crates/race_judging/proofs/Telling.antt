-- What is compared can be told.
use Rattle.std.proofs.Common.{◌≡◌, ◌<◌, ◌+◌, ◌∙◌, ℕ, Bool, true, false, ◌&&◌, List, [], ◌∷◌, map, length, Option, Some, None, All, refl, sym, subst}
use Rattle.std.specs.Prelude.{if◌then◌else◌}
use Rattle.std.proofs.lemmas.Bool.{true≢false}
use Rattle.std.proofs.lemmas.List.Elements.{All-nil, All-cons, All-append, All-map, All-weaker, All-from_get_or}
use Rattle.nsi_primitive.specs.Printable.{IsPrintable, IsPrintableEntry, IsPrintableHappening, is_ask}
use Rattle.nsi_primitive.specs.declared.entry.Entry.{Entry}
use Rattle.nsi_primitive.specs.declared.entry.Event.{Event}
use Rattle.nsi_primitive.specs.declared.entry.Happening.{Happening}
use Rattle.nsi_primitive.specs.declared.entry.Input.{Input}
use Rattle.nsi_primitive.specs.declared.message.Message.{Message}
use Rattle.nsi_primitive.specs.declared.state.Machine.{Machine}
use Rattle.stp_topology.specs.declared.network.Network.{Network}
use Rattle.provider_agent.specs.Setting.{setting_of, own_stp}
use Rattle.provider_agent.specs.State.{State, blank}
use Rattle.provider_agent.specs.Steps.{is_for_provider, may_take, waiting_work}
use Rattle.provider_agent.specs.Good.{IsGood}
use Rattle.provider_agent.proofs.GoodAfter.{good_after, good_blank}
use Rattle.provider_agent.proofs.PrintableAfter.{printable_after}
use Rattle.race_run.specs.declared.item.Item.{Item}
use Rattle.race_run.specs.declared.replayed.Lists.{Lists}
use Rattle.race_run.specs.Compared.{IsWritten, AreWritten, Stands, AllStand}
use Rattle.race_run.specs.Found.{item, entered, got, heard_item, entry_items, after_at, state_by, state_gone, entry_in, along, is_own, is_tick, is_stray, found_at, tick_at, stray_at, found, ticks, strays, waits, work_item, work_entry}
use Rattle.race_run.specs.Replay.{MayBeAt, MayAll, AreOf}
use Rattle.race_judging.specs.declared.judging.Own.{Own}
use Rattle.race_judging.specs.Pairs.{first_ticks, tick_of}
use Rattle.race_judging.specs.Verdicts.{OfEach}

entered_stands : (t : Network) (p place : ℕ) (e : Entry) → p < length t.agents → IsPrintableEntry e → is_ask e.input ≡ false → Stands t (item place (entered p e))
entered_stands t p place e within printable isnt = record { agent = within; printable = record { entry = printable; answered = (λ h. absurd (true≢false (sym h ∙ isnt)), λ h. absurd (true≢false (sym h))) } }

no_ask : (input : Input) (a b : Bool) → (a && (is_for_provider input && b)) ≡ true → is_ask input ≡ false
no_ask (Input.Ask n ask) true b h = absurd (true≢false (sym h))
no_ask (Input.Ask n ask) false b h = absurd (true≢false (sym h))
no_ask (Input.Got m) a b h = refl
no_ask (Input.Work n machine) a b h = refl
no_ask Input.Tick a b h = refl
no_ask (Input.Force n) a b h = refl
no_ask (Input.Acked i) a b h = refl

taken_stands : (t : Network) (p place : ℕ) (s : State) (e : Entry) → p < length t.agents → may_take s e ≡ true → IsPrintableEntry e → Stands t (item place (entered p e))
taken_stands t p place s e within may printable = entered_stands t p place e within printable (no_ask e.input _ _ may)

---- Along a history

along_stands : (t : Network) (p : ℕ) (adds : ℕ → State → Option Entry → List Item)
    → ((place : ℕ) (s : State) (e : Entry) → IsGood (setting_of t p) s → may_take s e ≡ true → IsPrintableEntry e → AllStand t (adds place s (Some e)))
    → ((place : ℕ) (s : State) → AllStand t (adds place s None))
    → (s : State) (place : ℕ) (events : List Event) → IsGood (setting_of t p) s → MayAll t p s events → AllStand t (along t p adds s place events)
unfolding along MayAll
along_stands t p adds one none s place [] g m = All-nil (Stands t)
along_stands t p adds one none s place (x ∷ xs) g m =
    All-append (Stands t) (adds place s (entry_in x.what)) (along t p adds (state_by t p s x.what) (place + 1) xs) (here x.what m.0)
    (along_stands t p adds one none (state_by t p s x.what) (place + 1) xs (behind x.what m.0) m.1)
  where
    here : (w : Happening) → MayBeAt s w → AllStand t (adds place s (entry_in w))
    here (Happening.Entry e answer) k = one place s e g k.0 k.1
    here (Happening.Sync count) k = none place s
    here (Happening.Restart count) k = none place s

    behind : (w : Happening) → MayBeAt s w → IsGood (setting_of t p) (state_by t p s w)
    behind (Happening.Entry e answer) k = good_after (setting_of t p) (own_stp t p) s e g k.1
    behind (Happening.Sync count) k = g
    behind (Happening.Restart count) k = g

heard_stands : (t : Network) (a second place : ℕ) (m : Message) → a < length t.agents → IsPrintable m → Stands t (heard_item a second place m)
heard_stands t a second place m within printable = entered_stands t a place (got second m) within printable refl

found_stands : (t : Network) (p a second : ℕ) (events : List Event) → p < length t.agents → a < length t.agents → MayAll t p blank events → AllStand t (found t p a second blank 0 events)
found_stands t p a second events within owner may = along_stands t p (found_at t p a second) one (λ place s. All-nil (Stands t)) blank 0 events (good_blank (setting_of t p)) may
  where
    one : (place : ℕ) (s : State) (e : Entry) → IsGood (setting_of t p) s → may_take s e ≡ true → IsPrintableEntry e → AllStand t (found_at t p a second place s (Some e))
    one place s e g h k = by (is_own t a s e.input)
      where
        by : (b : Bool) → AllStand t (if b then entry_items t p a second place s e else [])
        by true = All-cons (Stands t) (item place (entered p e)) (map (heard_item a second place) (after_at t p s e).out) (taken_stands t p place s e within h k)
            (All-map (Stands t) (heard_item a second place) (after_at t p s e).out
            (All-weaker IsPrintable (λ m. Stands t (heard_item a second place m)) (λ m c. heard_stands t a second place m owner c) (after_at t p s e).out (printable_after (setting_of t p) (own_stp t p) s e g k)))
        by false = All-nil (Stands t)

-- an item for the entry, or none
one_or_none : (t : Network) (p place : ℕ) (s : State) (e : Entry) (b : Bool) → p < length t.agents → may_take s e ≡ true → IsPrintableEntry e → AllStand t (if b then item place (entered p e) ∷ [] else [])
one_or_none t p place s e true within h k = All-cons (Stands t) (item place (entered p e)) [] (taken_stands t p place s e within h k) (All-nil (Stands t))
one_or_none t p place s e false within h k = All-nil (Stands t)

ticks_stand : (t : Network) (p : ℕ) (events : List Event) → p < length t.agents → MayAll t p blank events → AllStand t (ticks t p blank 0 events)
ticks_stand t p events within may =
    along_stands t p (tick_at p) (λ place s e g h k. one_or_none t p place s e (is_tick e.input) within h k) (λ place s. All-nil (Stands t)) blank 0 events (good_blank (setting_of t p)) may

strays_stand : (t : Network) (p : ℕ) (events : List Event) → p < length t.agents → MayAll t p blank events → AllStand t (strays t p blank 0 events)
strays_stand t p events within may =
    along_stands t p (stray_at t p) (λ place s e g h k. one_or_none t p place s e (is_stray t p s e.input) within h k) (λ place s. All-nil (Stands t)) blank 0 events (good_blank (setting_of t p)) may

first_ticks_stand : (t : Network) (p : ℕ) (start : Option ℕ) → p < length t.agents → AllStand t (first_ticks p start)
first_ticks_stand t p None within = All-nil (Stands t)
first_ticks_stand t p (Some second) within = All-cons (Stands t) (item 0 (entered p (tick_of second))) [] (entered_stands t p 0 (tick_of second) within tt refl) (All-nil (Stands t))

waits_stand : (t : Network) (p place : ℕ) (s : State) → p < length t.agents → AllStand t (waits p place s)
waits_stand t p place s within = by (waiting_work s)
  where
    by : (w : Option (ℕ × Machine)) → AllStand t (work_item p place s.now w)
    by None = All-nil (Stands t)
    by (Some w) = All-cons (Stands t) (item place (entered p (work_entry s.now w))) [] (entered_stands t p place (work_entry s.now w) within tt refl) (All-nil (Stands t))

pub each_stands : (t : Network) (p : ℕ) (start : Option ℕ) (second : ℕ) (events : List Event) (owns : List Own) (first waiting : List Item) (lists : Lists)
    → p < length t.agents → MayAll t p blank events → All (λ o. AllStand t o.items) owns → first ≡ first_ticks p start → AreOf t p second events lists → waiting ≡ waits p (length events) (state_gone t p blank events)
    → OfEach (AllStand t) first lists owns waiting
each_stands t p start second events owns first waiting lists within may kept first_is are waiting_is = record {
  first = subst (AllStand t) (sym first_is) (first_ticks_stand t p start within);
  found_ticks = subst (AllStand t) (sym are.ticks) (ticks_stand t p events within may);
  kept = kept;
  found = All-from_get_or (AllStand t) lists.found.items [] (λ i h. subst (AllStand t) (sym (are.found i)) (found_stands t p i second events within (subst (λ n. i < n) are.all h) may));
  nobodys = subst (AllStand t) (sym are.strays) (strays_stand t p events within may);
  waiting = subst (AllStand t) (sym waiting_is) (waits_stand t p (length events) (state_gone t p blank events) within);
}

---- And compared by its bytes

stands_written : (t : Network) (x : Item) → Stands t x → IsWritten x.event.what
stands_written t x h = by x.event.what h.printable
  where
    by : (w : Happening) → IsPrintableHappening w → IsWritten w
    by (Happening.Entry e answer) k = k.entry
    by (Happening.Sync count) k = tt
    by (Happening.Restart count) k = tt

all_written : (t : Network) (xs : List Item) → AllStand t xs → AreWritten xs
all_written t xs h = All-weaker (Stands t) (λ x. IsWritten x.event.what) (stands_written t) xs h

pub each_written : (t : Network) (first waiting : List Item) (lists : Lists) (owns : List Own) → OfEach (AllStand t) first lists owns waiting → OfEach AreWritten first lists owns waiting
each_written t first waiting lists owns h = record {
  first = all_written t first h.first;
  found_ticks = all_written t lists.ticks h.found_ticks;
  kept = All-weaker (λ (o : Own). AllStand t o.items) (λ o. AreWritten o.items) (λ o k. all_written t o.items k) owns h.kept;
  found = All-weaker (AllStand t) AreWritten (all_written t) lists.found.items h.found;
  nobodys = all_written t lists.strays h.nobodys;
  waiting = all_written t waiting h.waiting;
}
