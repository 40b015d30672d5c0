-- The requesters of a provider are served, of whom one alone is asked: what they keep is what its history has.
use Rattle.std.proofs.Common.{◌≡◌, ◌∙◌, ◌⊎◌, inl, inr, ◌≤◌, ◌<◌, ◌+◌, ℕ, Bool, true, false, List, [], ◌∷◌, ◌++◌, map, length, length-append, Result, Ok, Err, Option, Some, None, All, refl, sym, ap, subst, arith}
use Rattle.std.specs.Prelude.{◌==◌, not, option_to_list, if◌then◌else◌, IfOk}
use Rattle.std.proofs.lemmas.Bool.{true≢false, eqb-true, eq-eqb, ne_eqb}
use Rattle.std.proofs.lemmas.Option.{same_Some}
use Rattle.std.proofs.lemmas.List.{append-nil}
use Rattle.std.proofs.lemmas.List.Elements.{All-nil, All-cons, All-append, All-head, All-tail, All-push, All-weaker}
use Rattle.stp_topology.specs.declared.network.Network.{Network}
use Rattle.shared_provider.specs.Book.{Book}
use Rattle.provider_agent.specs.State.{blank}
use Rattle.provider_agent.specs.Steps.{waiting_work}
use Rattle.race_run.specs.declared.item.Item.{Item}
use Rattle.race_run.specs.Found.{ticks, strays, state_gone, waits, work_item, is_caller}
use Rattle.race_judging.specs.declared.judging.Own.{Own}
use Rattle.race_judging.specs.Pairs.{pair, AreSame, own_pair, second_of, first_ticks, found_of}
use Rattle.std.specs.Global.{Vec}
use Rattle.std.specs.declared.alloc.AllocError.{AllocError}
use Rattle.stp_topology.specs.Network.{name_of, agent_of}
use Rattle.nsi_script.specs.declared.script.Act.{Act}
use Rattle.race_run.specs.Scripts.{ask_by, asks_by}
use Rattle.race_caller.specs.Alone.{IsReadyFor, IsItsOwn, EndsOwn}
use Rattle.race_threads.specs.Alone.{IsOneOf}
use Rattle.race_threads.specs.Raced.{AllSame, call_of, begun_book}
use Rattle.race_threads.specs.Serving.{IsFoundOf, IsIdle, IsBefore, IsBehind, IsServedTo, IsServedOne, IsServedAgent, EndsSame}
use Rattle.race_threads.proofs.Sitting.{not_last}
use Rattle.race_threads.proofs.Begun.{ready_begun, begun_nothing, begun_owned, begun_ticks, begun_idle}

---- All lists, compared

owns_same : (t : Network) (p : ℕ) (start : Option ℕ) (d : Book) (owns : List Own) → All (IsFoundOf t p start d) owns → All AreSame (map (own_pair t p (second_of start) d.events) owns)
owns_same t p start d [] h = All-nil AreSame
owns_same t p start d (o ∷ owns) h =
    All-cons AreSame (own_pair t p (second_of start) d.events o) (map (own_pair t p (second_of start) d.events) owns) (All-head (IsFoundOf t p start d) o owns h) (owns_same t p start d owns (All-tail (IsFoundOf t p start d) o owns h))

all_same : (t : Network) (p : ℕ) (start : Option ℕ) (d : Book) (owns : List Own) → ticks t p blank 0 d.events ≡ first_ticks p start → strays t p blank 0 d.events ≡ [] → waiting_work (state_gone t p blank d.events) ≡ None → All (IsFoundOf t p start d) owns
    → AllSame t p start d.events owns
all_same t p start d owns begins owned idle found =
    let last_pairs = pair [] (strays t p blank 0 d.events) ∷ pair [] (waits p (length d.events) (state_gone t p blank d.events)) ∷ [] in
    All-cons AreSame (pair (first_ticks p start) (ticks t p blank 0 d.events)) (map (own_pair t p (second_of start) d.events) owns ++ last_pairs) (sym begins)
    (All-append AreSame (map (own_pair t p (second_of start) d.events) owns) last_pairs (owns_same t p start d owns found)
    (All-cons AreSame (pair [] (strays t p blank 0 d.events)) (pair [] (waits p (length d.events) (state_gone t p blank d.events)) ∷ []) (sym owned)
    (All-cons AreSame (pair [] (waits p (length d.events) (state_gone t p blank d.events))) [] (sym (ap (work_item p (length d.events) (state_gone t p blank d.events).now) idle)) (All-nil AreSame))))

---- One requester

ask_few : (a : ℕ) (act : Act) → length (ask_by a act) ≤ 1
ask_few a (Act.Ask agent ask) = by (agent == a)
  where
    by : (b : Bool) → length (if b then ask ∷ [] else []) ≤ 1
    by true = omega arith
    by false = omega arith
ask_few a (Act.Force agent number) = omega arith
ask_few a (Act.Restart agent) = omega arith

asks_few : (a : ℕ) (acts : List Act) → length (asks_by a acts) ≤ length acts
unfolding asks_by
asks_few a [] = omega arith
asks_few a (act ∷ acts) = omega (arith, length-append (ask_by a act) (asks_by a acts), ask_few a act, asks_few a acts)

-- the one that is asked, of the book that has just begun
pub serves_own : (t : Network) (p a second : ℕ) (start : Option ℕ) (acts : List Act) (old new : Option Book) (items : List Item) → second ≡ second_of start → is_caller t p (Some a) ≡ true → agent_of t (name_of t a) ≡ Some a → length acts ≤ 100000
    → old ≡ Some (begun_book t p start) → ((first : List Item) (b : Book) → old ≡ Some b → IsReadyFor t first (call_of p a second) start (length (asks_by a acts)) b → EndsOwn t first (call_of p a second) new items)
    → EndsOwn t (first_ticks p start) (call_of p a (second_of start)) new items
serves_own t p a second start acts old new items is caller known few told ends =
    let ready = ready_begun t p a (length (asks_by a acts)) caller known (omega (arith, few, asks_few a acts)) start in
    subst (λ k. EndsOwn t (first_ticks p start) (call_of p a k) new items) is
    (ends (first_ticks p start) (begun_book t p start) told (subst (λ k. IsReadyFor t (first_ticks p start) (call_of p a k) start (length (asks_by a acts)) (begun_book t p start)) (sym is) ready))

pub one_apart : (t : Network) (p : ℕ) (start : Option ℕ) (asked a : ℕ) (old new : Option Book) (items : List Item) → true ≡ not (a == asked) → new ≡ old → items ≡ [] → IsServedOne t p start asked a old new items
one_apart t p start asked a old new items apart same none = record { one = λ is told. absurd (true≢false (apart ∙ ap not (eq-eqb a asked is))); other = λ _. (same, none) }

pub one_asked : (t : Network) (p : ℕ) (start : Option ℕ) (asked a : ℕ) (old new : Option Book) (items : List Item) → (a == asked) ≡ true → (old ≡ Some (begun_book t p start) → EndsOwn t (first_ticks p start) (call_of p a (second_of start)) new items)
    → IsServedOne t p start asked a old new items
one_asked t p start asked a old new items is ends = record { one = λ _ told. ends told; other = λ apart. absurd (true≢false (sym (eq-eqb asked a (sym (eqb-true a asked is))) ∙ apart)) }

---- One after another

idle_still : (n : ℕ) (owns : List Own) → All (IsIdle n) owns → All (IsIdle (n + 1)) owns
idle_still n owns h = All-weaker (IsIdle n) (IsIdle (n + 1)) (λ o k. record { items = k.items; below = let b = k.below in omega (arith, b) }) owns h

pub served_none : (t : Network) (p : ℕ) (start : Option ℕ) (asked : ℕ) (new : Option Book) → new ≡ Some (begun_book t p start) → IsServedTo t p start asked 0 new []
served_none t p start asked new told = record { now = begun_book t p start; told = told; stage = inl (record { book = refl; none = All-nil (IsIdle 0); apart = λ h. absurd (omega (arith, h)) }) }

module _ (t : Network) (p : ℕ) (start : Option ℕ) (asked n : ℕ) (old new : Option Book) (owns : List Own) (h : IsServedTo t p start asked n old owns) where
  -- no requester
  skips : new ≡ old → is_caller t p (Some n) ≡ false → IsServedTo t p start asked (n + 1) new owns
  skips same other = record { now = h.now; told = same ∙ h.told; stage = go h.stage }
    where
      apart : IsBefore t p start asked n h.now owns → asked < n + 1 → (b : Bool) → (asked == n) ≡ b → is_caller t p (Some asked) ≡ false
      apart k within true e = ap (λ m. is_caller t p (Some m)) (eqb-true asked n e) ∙ other
      apart k within false e = k.apart (not_last asked n within e)

      go : IsBefore t p start asked n h.now owns ⊎ IsBehind t p start asked n h.now owns → IsBefore t p start asked (n + 1) h.now owns ⊎ IsBehind t p start asked (n + 1) h.now owns
      go (inl k) = inl (record { book = k.book; none = idle_still n owns k.none; apart = λ within. apart k within (asked == n) refl })
      go (inr k) = inr (record { late = let l = k.late in omega (arith, l); is = k.is })

  module _ (o : Own) (own : o.agent ≡ n) where
    below : o.agent < n + 1
    below = omega (arith, own)

    -- one that isn't asked
    passes : (asked == n) ≡ false → new ≡ old → o.items ≡ [] → IsServedTo t p start asked (n + 1) new (owns ++ o ∷ [])
    passes apart same none = record { now = h.now; told = same ∙ h.told; stage = go h.stage }
      where
        go : IsBefore t p start asked n h.now owns ⊎ IsBehind t p start asked n h.now owns → IsBefore t p start asked (n + 1) h.now (owns ++ o ∷ []) ⊎ IsBehind t p start asked (n + 1) h.now (owns ++ o ∷ [])
        go (inl k) = inl (record {
          book = k.book;
          none = All-push (IsIdle (n + 1)) owns o (idle_still n owns k.none) (record { items = none; below = below });
          apart = λ within. k.apart (not_last asked n within apart);
        })
        go (inr k) = inr (record {
          late = let l = k.late in omega (arith, l);
          is = λ running. let m = k.is running in record {
            others = m.others;
            owned = m.owned;
            begins = m.begins;
            idle = m.idle;
            found = All-push (IsFoundOf t p start h.now) owns o m.found (none ∙ sym (m.others o.agent (ap (λ a. asked == a) own ∙ apart)));
          };
        })

    -- behind the one that is asked
    found_all : (d : Book) → All (IsIdle n) owns → IsItsOwn t (first_ticks p start) (call_of p n (second_of start)) o.items d → All (IsFoundOf t p start d) (owns ++ o ∷ [])
    found_all d none k =
        All-push (IsFoundOf t p start d) owns o
        (All-weaker (IsIdle n) (IsFoundOf t p start d) (λ x i. i.items ∙ sym (k.others x.agent (ne_eqb n x.agent (λ e. let b = i.below in omega (arith, b, e))))) owns none)
        (k.kept_is ∙ ap (λ a. found_of t p (second_of start) d.events a) (sym own))

    goes : asked ≡ n → IsServedOne t p start asked n old new o.items → IsServedTo t p start asked (n + 1) new (owns ++ o ∷ [])
    goes is s = by h.stage
      where
        by : IsBefore t p start asked n h.now owns ⊎ IsBehind t p start asked n h.now owns → IsServedTo t p start asked (n + 1) new (owns ++ o ∷ [])
        by (inr k) = let l = k.late in absurd (omega (arith, l, is))
        by (inl k) =
            let e = s.one (sym is) (h.told ∙ ap Some k.book) in
            record {
              now = e.now;
              told = e.told;
              stage = inr (record {
                late = omega (arith, is);
                is = λ running. let m = e.is running in record {
                  others = λ a apart. m.others a (ap (λ k. k == a) (sym is) ∙ apart);
                  owned = m.owned;
                  begins = m.begins;
                  idle = m.idle;
                  found = found_all e.now k.none m;
                };
              });
            }

    served_more : IsServedOne t p start asked n old new o.items → IsServedTo t p start asked (n + 1) new (owns ++ o ∷ [])
    served_more s = by (asked == n) refl
      where
        by : (b : Bool) → (asked == n) ≡ b → IsServedTo t p start asked (n + 1) new (owns ++ o ∷ [])
        by true e = goes (eqb-true asked n e) s
        by false e = let k = s.other e in passes e k.0 k.1

-- one agent more
served_next : (t : Network) (p : ℕ) (start : Option ℕ) (acts : List Act) (asked n : ℕ) (old new : Option Book) (owns news : List Own) (own : Option Own) → IsServedTo t p start asked n old owns → IsOneOf t p start acts n own
    → IsServedAgent t p start asked n old new own → news ≡ owns ++ option_to_list own → IsServedTo t p start asked (n + 1) new news
served_next t p start acts asked n old new owns news None h other same is = subst (IsServedTo t p start asked (n + 1) new) (sym (is ∙ append-nil owns)) (skips t p start asked n old new owns h same other)
served_next t p start acts asked n old new owns news (Some o) h one s is = subst (IsServedTo t p start asked (n + 1) new) (sym is) (served_more t p start asked n old new owns h o one.0 s)

-- the agent of that place
pub served_at : (t : Network) (p : ℕ) (start : Option ℕ) (acts : List Act) (asked n agent : ℕ) (old new : Option Book) (owns news : List Own) (own : Option Own) → agent ≡ n → IsServedTo t p start asked n old owns → IsOneOf t p start acts agent own
    → IsServedAgent t p start asked agent old new own → news ≡ owns ++ option_to_list own → IsServedTo t p start asked (n + 1) new news
served_at t p start acts asked n agent old new owns news own at h one s is =
    served_next t p start acts asked n old new owns news own h (subst (λ k. IsOneOf t p start acts k own) at one) (subst (λ k. IsServedAgent t p start asked k old new own) at s) is

---- All of them

pub ended_same : (t : Network) (p : ℕ) (start : Option ℕ) (asked n : ℕ) (new : Option Book) (owns : List Own) → IsServedTo t p start asked n new owns → EndsSame t p start new owns
ended_same t p start asked n new owns h = record { now = h.now; told = h.told; same = λ running. by running h.stage }
  where
    by : h.now.faults ≡ 0 → IsBefore t p start asked n h.now owns ⊎ IsBehind t p start asked n h.now owns → AllSame t p start h.now.events owns
    by running (inl k) =
        subst (λ (d : Book). AllSame t p start d.events owns) (sym k.book)
        (all_same t p start (begun_book t p start) owns (begun_ticks t p start) (begun_owned t p start) (begun_idle t p start)
        (All-weaker (IsIdle n) (IsFoundOf t p start (begun_book t p start)) (λ o i. i.items ∙ sym (begun_nothing t p start o.agent)) owns k.none))
    by running (inr k) = let m = k.is running in all_same t p start h.now owns m.begins m.owned m.idle m.found

pub same_alone : (t : Network) (p : ℕ) (start : Option ℕ) (d : Book) (r : Result (Vec Own) AllocError) → d.faults ≡ 0 → IfOk r (λ v. EndsSame t p start (Some d) v.items) → IfOk r (λ v. AllSame t p start d.events v.items)
same_alone t p start d (Ok v) running h =
    let is : d ≡ h.now = same_Some d h.now h.told in
    subst (λ (b : Book). AllSame t p start b.events v.items) (sym is) (h.same (subst (λ (b : Book). b.faults ≡ 0) is running))
same_alone t p start d (Err e) running h = tt
