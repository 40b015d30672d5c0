-- The requesters of a provider, one after another, and what they hand over.
use Rattle.std.proofs.Common.{◌≡◌, ◌<◌, ◌+◌, ◌∙◌, ℕ, zero, suc, Bool, true, false, List, [], ◌∷◌, ◌++◌, map, length, get_or, Option, Some, None, Result, Ok, All, refl, sym, ap, subst, arith, length-append}
use Rattle.std.specs.Prelude.{◌==◌, slice_index}
use Rattle.std.specs.List.Sorted.{IsStrictlyIncreasing}
use Rattle.std.specs.declared.alloc.AllocError.{AllocError}
use Rattle.std.proofs.lemmas.Bool.{true≢false, eqb-true, eqb-false}
use Rattle.std.proofs.lemmas.List.{get_or_append_left, get_or_push, get_or-map, length-map}
use Rattle.std.proofs.lemmas.List.Elements.{All-nil, All-cons, All-push, All-get_or, All-weaker}
use Rattle.durable_mark.specs.Rising.{MarkId}
use Rattle.stp_topology.specs.declared.network.Network.{Network}
use Rattle.stp_topology.specs.declared.network.AgentKind.{AgentKind}
use Rattle.stp_topology.specs.Network.{kind_of}
use Rattle.stp_topology.specs.Sound.{IsProvider}
use Rattle.nsi_script.specs.declared.script.Act.{Act}
use Rattle.requester_agent.specs.Setting.{IsRequester}
use Rattle.race_run.specs.Found.{is_caller, asks_at}
use Rattle.race_run.specs.Compared.{AllStand}
use Rattle.race_caller.specs.Plays.{IsOwn}
use Rattle.race_run.specs.Scripts.{AreAsks, asks_by}
use Rattle.race_judging.specs.declared.judging.Own.{Own}
use Rattle.race_judging.specs.Pairs.{second_of}
use Rattle.race_threads.specs.declared.callers.Caller.{Caller}
use Rattle.race_threads.specs.Raced.{call_of, own_agent, IsKept, HasOwn, AreKept}
use Rattle.race_threads.specs.Callers.{agent_of, MayCall, CanServe, HasCaller, AreCallers, IsServed, ServedEach}

---- Who they are

kind_by : (p : ℕ) (kind : Option AgentKind) → asks_at p kind ≡ true → kind ≡ Some (AgentKind.Requester p)
kind_by p (Some (AgentKind.Requester q)) h = ap (λ n. Some (AgentKind.Requester n)) (eqb-true q p h)
kind_by p (Some (AgentKind.Provider hold)) h = absurd (true≢false (sym h))
kind_by p (Some AgentKind.Aggregator) h = absurd (true≢false (sym h))
kind_by p None h = absurd (true≢false (sym h))

kind_is : (t : Network) (p a : ℕ) → is_caller t p (Some a) ≡ true → kind_of t a ≡ Some (AgentKind.Requester p)
kind_is t p a h = kind_by p (kind_of t a) h

pub is_requester : (t : Network) (p a : ℕ) → is_caller t p (Some a) ≡ true → IsRequester t a
is_requester t p a h = (p, kind_is t p a h)

abbrev asks_somebody : Option AgentKind → Bool
asks_somebody (Some (AgentKind.Requester q)) = true
asks_somebody _ = false

pub is_apart : (t : Network) (p a : ℕ) → IsProvider t p → is_caller t p (Some a) ≡ true → (p == a) ≡ false
is_apart t p a provider h = by (p == a) refl
  where
    by : (b : Bool) → (p == a) ≡ b → b ≡ false
    by false e = refl
    by true e = absurd (true≢false (sym (ap asks_somebody (kind_is t p a h)) ∙ ap (λ n. asks_somebody (kind_of t n)) (sym (eqb-true p a e)) ∙ ap asks_somebody (provider.1)))

---- One after another

pub none_yet : (t : Network) (p : ℕ) (start : Option ℕ) (mark : MarkId) → AreCallers t p start mark 0 []
none_yet t p start mark = record {
  each = All-nil (MayCall t p start mark);
  below = All-nil (λ s. agent_of s < 0);
  few = omega arith;
  has = λ a h. absurd (omega (arith, h));
  rising = λ k h. absurd (omega (arith, h));
}

among_more : (callers : List Caller) (x : Caller) (a : ℕ) → HasCaller callers a → HasCaller (callers ++ x ∷ []) a
among_more callers x a h =
    let l = length-append callers (x ∷ []) in
    let w = h.within in
    record {
      at = h.at;
      one = h.one;
      within = omega (arith, l, w);
      is = h.is ∙ sym (get_or_append_left callers (x ∷ []) h.one h.at h.within);
      of = h.of;
    }

last_one : (callers : List Caller) (x : Caller) → HasCaller (callers ++ x ∷ []) (agent_of x)
last_one callers x =
    let l = length-append callers (x ∷ []) in
    record {
      at = length callers;
      one = x;
      within = omega (arith, l);
      is = sym (get_or_push callers x x (length callers) refl);
      of = refl;
    }

pub not_last : (a n : ℕ) → a < n + 1 → (a == n) ≡ false → a < n
not_last a n h e =
    let apart = eqb-false a n e in
    omega (arith, h, apart)

further : (n : ℕ) (callers : List Caller) → All (λ s. agent_of s < n) callers → All (λ s. agent_of s < n + 1) callers
further n callers h = All-weaker (λ s. agent_of s < n) (λ s. agent_of s < n + 1) (λ s k. omega (arith, k)) callers h

-- a number above all goes behind them
pub rises : (xs : List ℕ) (n : ℕ) → IsStrictlyIncreasing xs → ((k : ℕ) → k < length xs → slice_index xs k < n) → IsStrictlyIncreasing (xs ++ n ∷ [])
rises xs n up above k within = by (k + 1 == length xs) refl
  where
    len : length (xs ++ n ∷ []) ≡ length xs + 1
    len = length-append xs (n ∷ [])

    by : (b : Bool) → (k + 1 == length xs) ≡ b → slice_index (xs ++ n ∷ []) k < slice_index (xs ++ n ∷ []) (k + 1)
    by true e =
        let last : k + 1 ≡ length xs = eqb-true (k + 1) (length xs) e in
        let here : k < length xs = omega (arith, last) in
        omega (arith, above k here, get_or_append_left xs (n ∷ []) 0 k here, get_or_push xs n 0 (k + 1) (sym last))
    by false e =
        let apart = eqb-false (k + 1) (length xs) e in
        let here : k + 1 < length xs = omega (arith, within, len, apart) in
        let now : k < length xs = omega (arith, here) in
        omega (arith, up k here, get_or_append_left xs (n ∷ []) 0 k now, get_or_append_left xs (n ∷ []) 0 (k + 1) here)

map_push : (callers : List Caller) (x : Caller) → map agent_of (callers ++ x ∷ []) ≡ map agent_of callers ++ agent_of x ∷ []
map_push [] x = refl
map_push (y ∷ callers) x = ap (λ (l : List ℕ). agent_of y ∷ l) (map_push callers x)

agents_below : (n : ℕ) (callers : List Caller) → All (λ s. agent_of s < n) callers → (k : ℕ) → k < length (map agent_of callers) → slice_index (map agent_of callers) k < n
agents_below n [] h k within = absurd (omega (arith, within))
agents_below n (x ∷ callers) h k within =
    let inside : k < length (x ∷ callers) = subst (λ m. k < m) (length-map (x ∷ callers) agent_of) within in
    subst (λ m. m < n) (sym (get_or-map agent_of (x ∷ callers) k x 0 inside)) (All-get_or (λ s. agent_of s < n) (x ∷ callers) k x inside h)

pushed_rise : (n : ℕ) (callers : List Caller) (x : Caller) → All (λ s. agent_of s < n) callers → agent_of x ≡ n → IsStrictlyIncreasing (map agent_of callers) → IsStrictlyIncreasing (map agent_of (callers ++ x ∷ []))
pushed_rise n callers x h own up =
    subst IsStrictlyIncreasing (ap (λ k. map agent_of callers ++ k ∷ []) (sym own) ∙ sym (map_push callers x)) (rises (map agent_of callers) n up (agents_below n callers h))

pub skipped : (t : Network) (p : ℕ) (start : Option ℕ) (mark : MarkId) (n : ℕ) (callers : List Caller) → AreCallers t p start mark n callers → is_caller t p (Some n) ≡ false → AreCallers t p start mark (n + 1) callers
skipped t p start mark n callers h none = record { each = h.each; below = further n callers h.below; few = omega (arith, h.few); has = has; rising = h.rising }
  where
    has : (a : ℕ) → a < n + 1 → is_caller t p (Some a) ≡ true → HasCaller callers a
    has a within is = by (a == n) refl
      where
        by : (b : Bool) → (a == n) ≡ b → HasCaller callers a
        by true e = absurd (true≢false (sym is ∙ ap (λ k. is_caller t p (Some k)) (eqb-true a n e) ∙ none))
        by false e = h.has a (not_last a n within e) is

pub pushed : (t : Network) (p : ℕ) (start : Option ℕ) (mark : MarkId) (n : ℕ) (callers : List Caller) (x : Caller) → AreCallers t p start mark n callers → MayCall t p start mark x → agent_of x ≡ n
    → AreCallers t p start mark (n + 1) (callers ++ x ∷ [])
pushed t p start mark n callers x h may own = record {
  each = All-push (MayCall t p start mark) callers x h.each may;
  below = All-push (λ s. agent_of s < n + 1) callers x (further n callers h.below) (omega (arith, own));
  few = omega (arith, h.few, length-append callers (x ∷ []));
  has = has;
  rising = pushed_rise n callers x h.below own h.rising;
}
  where
    has : (a : ℕ) → a < n + 1 → is_caller t p (Some a) ≡ true → HasCaller (callers ++ x ∷ []) a
    has a within is = by (a == n) refl
      where
        by : (b : Bool) → (a == n) ≡ b → HasCaller (callers ++ x ∷ []) a
        by true e = subst (HasCaller (callers ++ x ∷ [])) (own ∙ sym (eqb-true a n e)) (last_one callers x)
        by false e = among_more callers x a (h.has a (not_last a n within e) is)

pub can_serve : (t : Network) (p : ℕ) (start : Option ℕ) (acts : List Act) (mark : MarkId) (n : ℕ) (callers : List Caller) → IsProvider t p → p < length t.agents → AreAsks acts → AreCallers t p start mark n callers
    → All (CanServe t p start acts mark) callers
can_serve t p start acts mark n callers provider within printable are =
    All-weaker (MayCall t p start mark) (CanServe t p start acts mark) (λ s may. record { provider = provider; within = within; printable = printable; caller = may }) callers are.each

---- What they hand over

pub is_served : (t : Network) (p : ℕ) (start : Option ℕ) (acts : List Act) (mark : MarkId) (x : Caller) (o : Own) → MayCall t p start mark x → o.agent ≡ x.job.call.agent
    → IsOwn t x.job.call start (asks_by x.job.call.agent acts) o.items → AllStand t o.items → IsServed t p start acts x o
is_served t p start acts mark x o may of own stand = record {
  of = of;
  kept = record {
    agent = subst (λ n. n < length t.agents) (sym of) may.agent;
    caller = ap (λ n. is_caller t p (Some n)) of ∙ may.caller;
    own = subst (λ n. IsOwn t (call_of p n (second_of start)) start (asks_by n acts) o.items) (sym of)
        (subst (λ c. IsOwn t c start (asks_by x.job.call.agent acts) o.items) may.call own);
    stand = stand;
  };
}

---- The lists side by side

abbrev AllServed : Network → ℕ → Option ℕ → List Act → List Caller → List Own → Type 0
AllServed t p start acts [] [] = Unit {0}
AllServed t p start acts (x ∷ callers) (o ∷ owns) = IsServed t p start acts x o × AllServed t p start acts callers owns
AllServed t p start acts _ _ = ⊥

same_length : (callers : List Caller) (results : List (Result Own AllocError)) (owns : List Own) → map Ok owns ≡ results → length results ≡ length callers → length owns ≡ length callers
same_length callers results owns is len = sym (length-map owns Ok) ∙ ap length is ∙ len

behind : (t : Network) (p : ℕ) (start : Option ℕ) (acts : List Act) (x : Caller) (callers : List Caller) (r : Result Own AllocError) (results : List (Result Own AllocError))
    → ServedEach t p start acts (x ∷ callers) (r ∷ results) → ServedEach t p start acts callers results
behind t p start acts x callers r results each i s o within s_is o_is = each (suc i) s o (omega (arith, within)) s_is o_is

side_by_side : (t : Network) (p : ℕ) (start : Option ℕ) (acts : List Act) (callers : List Caller) (results : List (Result Own AllocError)) (owns : List Own) → ServedEach t p start acts callers results → map Ok owns ≡ results
    → length owns ≡ length callers → AllServed t p start acts callers owns
side_by_side t p start acts [] results [] each is len = tt
side_by_side t p start acts [] results (o ∷ owns) each is len = absurd (omega (arith, len))
side_by_side t p start acts (x ∷ callers) results [] each is len = absurd (omega (arith, len))
side_by_side t p start acts (x ∷ callers) results (o ∷ owns) each is len =
    let here : ServedEach t p start acts (x ∷ callers) (Ok o ∷ map Ok owns) = subst (ServedEach t p start acts (x ∷ callers)) (sym is) each in
    (here 0 x (Ok o) (omega arith) refl refl, side_by_side t p start acts callers (map Ok owns) owns (behind t p start acts x callers (Ok o) (map Ok owns) here) refl (omega (arith, len)))

each_kept : (t : Network) (p : ℕ) (start : Option ℕ) (acts : List Act) (callers : List Caller) (owns : List Own) → AllServed t p start acts callers owns → All (IsKept t p start acts) owns
each_kept t p start acts [] [] all = All-nil (IsKept t p start acts)
each_kept t p start acts [] (o ∷ owns) all = absurd all
each_kept t p start acts (x ∷ callers) [] all = absurd all
each_kept t p start acts (x ∷ callers) (o ∷ owns) all = All-cons (IsKept t p start acts) o owns all.0.kept (each_kept t p start acts callers owns all.1)

same_agents : (t : Network) (p : ℕ) (start : Option ℕ) (acts : List Act) (callers : List Caller) (owns : List Own) → AllServed t p start acts callers owns → map own_agent owns ≡ map agent_of callers
same_agents t p start acts [] [] all = refl
same_agents t p start acts [] (o ∷ owns) all = absurd all
same_agents t p start acts (x ∷ callers) [] all = absurd all
same_agents t p start acts (x ∷ callers) (o ∷ owns) all =
    ap (λ n. n ∷ map own_agent owns) all.0.of ∙ ap (λ (l : List ℕ). agent_of x ∷ l) (same_agents t p start acts callers owns all.1)

read_itself : (xs : List Own) (i : ℕ) (d : Own) → i < length xs → get_or xs i d ≡ get_or xs i (get_or xs i d)
read_itself [] i d h = absurd (omega (arith, h))
read_itself (y ∷ ys) zero d h = refl
read_itself (y ∷ ys) (suc i) d h = read_itself ys i d (omega (arith, h))

own_of : (callers : List Caller) (owns : List Own) (a : ℕ) → map own_agent owns ≡ map agent_of callers → length owns ≡ length callers → HasCaller callers a → HasOwn owns a
own_of callers [] a agents len h = let w = h.within in absurd (omega (arith, w, len))
own_of callers (o ∷ owns) a agents len h =
    let all = o ∷ owns in
    let inside : h.at < length all = subst (λ n. h.at < n) (sym len) h.within in
    record {
      at = h.at;
      own = get_or all h.at o;
      within = inside;
      is = read_itself all h.at o inside;
      of = sym (get_or-map own_agent all h.at o 0 inside) ∙ ap (λ (l : List ℕ). get_or l h.at 0) agents ∙ get_or-map agent_of callers h.at h.one 0 h.within ∙ ap agent_of (sym h.is) ∙ h.of;
    }

pub are_kept : (t : Network) (p : ℕ) (start : Option ℕ) (acts : List Act) (mark : MarkId) (callers : List Caller) (results : List (Result Own AllocError)) (owns : List Own)
    → AreCallers t p start mark (length t.agents) callers → ServedEach t p start acts callers results → map Ok owns ≡ results → length results ≡ length callers → AreKept t p start acts owns
are_kept t p start acts mark callers results owns are each is len =
    let same = same_length callers results owns is len in
    let all = side_by_side t p start acts callers results owns each is same in
    let agents = same_agents t p start acts callers owns all in
    record {
      each = each_kept t p start acts callers owns all;
      has = λ a within caller. own_of callers owns a agents same (are.has a within caller);
      rising = subst IsStrictlyIncreasing (sym agents) are.rising;
    }
