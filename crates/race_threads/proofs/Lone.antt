-- The requesters of a provider, served one after another.
use Rattle.std.proofs.Common.{◌≡◌, ◌⊎◌, inl, inr, ◌<◌, ◌+◌, ◌∙◌, ℕ, Bool, true, false, List, [], ◌∷◌, ◌++◌, map, length, Option, Some, None, All, refl, sym, ap, subst, arith, length-append}
use Rattle.std.specs.Prelude.{◌==◌, not, slice_index, option_to_list, if◌then◌else◌, IfNone}
use Rattle.std.specs.List.{list_all}
use Rattle.std.specs.List.Sorted.{IsStrictlyIncreasing}
use Rattle.std.proofs.lemmas.Bool.{true≢false, eqb-true, eq-eqb, ne_eqb, and_parts, and_from}
use Rattle.std.proofs.lemmas.Option.{none-some, same_Some}
use Rattle.std.proofs.lemmas.List.{append-nil, get_or_append_left, get_or_push, get_or-map, length-map}
use Rattle.std.proofs.lemmas.List.Elements.{All-nil, All-cons, All-head, All-tail, All-push, All-get_or, All-weaker}
use Rattle.stp_topology.specs.declared.network.Network.{Network}
use Rattle.nsi_script.specs.declared.script.Act.{Act}
use Rattle.race_run.specs.Found.{is_caller}
use Rattle.race_judging.specs.declared.judging.Own.{Own}
use Rattle.nsi_primitive.specs.declared.ask.Ask.{Ask}
use Rattle.race_run.specs.declared.item.Item.{Item}
use Rattle.race_run.specs.declared.replayed.Call.{Call}
use Rattle.race_run.specs.Scripts.{asks_by}
use Rattle.race_caller.specs.Plays.{begun, IsPlay, IsOwn}
use Rattle.race_caller.proofs.Hearing.{plays_none}
use Rattle.race_threads.specs.Raced.{own_agent, IsKept, HasOwn, AreKept, IsAskTo, AreOfOne}
use Rattle.race_threads.specs.Alone.{is_ask_of, first_asked, IsOneOf, AreKeptBelow}
use Rattle.race_threads.proofs.Sitting.{not_last, rises}

pub none_alone : (t : Network) (p : ℕ) (start : Option ℕ) (acts : List Act) → AreKeptBelow t p start acts 0 []
none_alone t p start acts = record {
  each = All-nil (IsKept t p start acts);
  below = All-nil (λ (o : Own). o.agent < 0);
  has = λ a h. absurd (omega (arith, h));
  rising = λ k h. absurd (omega (arith, h));
}

own_more : (owns : List Own) (x : Own) (a : ℕ) → HasOwn owns a → HasOwn (owns ++ x ∷ []) a
own_more owns x a h =
    let l = length-append owns (x ∷ []) in
    let w = h.within in
    record { at = h.at; own = h.own; within = omega (arith, l, w); is = h.is ∙ sym (get_or_append_left owns (x ∷ []) h.own h.at h.within); of = h.of }

own_last : (owns : List Own) (x : Own) → HasOwn (owns ++ x ∷ []) x.agent
own_last owns x =
    let l = length-append owns (x ∷ []) in
    record { at = length owns; own = x; within = omega (arith, l); is = sym (get_or_push owns x x (length owns) refl); of = refl }

lower : (n : ℕ) (owns : List Own) → All (λ (o : Own). o.agent < n) owns → All (λ (o : Own). o.agent < n + 1) owns
lower n owns h = All-weaker (λ (o : Own). o.agent < n) (λ (o : Own). o.agent < n + 1) (λ o k. omega (arith, k)) owns h

own_push : (owns : List Own) (x : Own) → map own_agent (owns ++ x ∷ []) ≡ map own_agent owns ++ x.agent ∷ []
own_push [] x = refl
own_push (y ∷ owns) x = ap (λ (l : List ℕ). own_agent y ∷ l) (own_push owns x)

owns_below : (n : ℕ) (owns : List Own) → All (λ (o : Own). o.agent < n) owns → (k : ℕ) → k < length (map own_agent owns) → slice_index (map own_agent owns) k < n
owns_below n [] h k within = absurd (omega (arith, within))
owns_below n (x ∷ owns) h k within =
    let inside : k < length (x ∷ owns) = subst (λ m. k < m) (length-map (x ∷ owns) own_agent) within in
    subst (λ m. m < n) (sym (get_or-map own_agent (x ∷ owns) k x 0 inside)) (All-get_or (λ (o : Own). o.agent < n) (x ∷ owns) k x inside h)

own_rises : (n : ℕ) (owns : List Own) (x : Own) → All (λ (o : Own). o.agent < n) owns → x.agent ≡ n → IsStrictlyIncreasing (map own_agent owns) → IsStrictlyIncreasing (map own_agent (owns ++ x ∷ []))
own_rises n owns x h own up =
    subst IsStrictlyIncreasing (ap (λ k. map own_agent owns ++ k ∷ []) (sym own) ∙ sym (own_push owns x)) (rises (map own_agent owns) n up (owns_below n owns h))

pub skipped_alone : (t : Network) (p : ℕ) (start : Option ℕ) (acts : List Act) (n : ℕ) (owns : List Own) → AreKeptBelow t p start acts n owns → is_caller t p (Some n) ≡ false → AreKeptBelow t p start acts (n + 1) owns
skipped_alone t p start acts n owns h none = record { each = h.each; below = lower n owns h.below; has = has; rising = h.rising }
  where
    has : (a : ℕ) → a < n + 1 → is_caller t p (Some a) ≡ true → HasOwn owns a
    has a within is = by (a == n) refl
      where
        by : (b : Bool) → (a == n) ≡ b → HasOwn owns a
        by true e = absurd (true≢false (sym is ∙ ap (λ k. is_caller t p (Some k)) (eqb-true a n e) ∙ none))
        by false e = h.has a (not_last a n within e) is

pub pushed_alone : (t : Network) (p : ℕ) (start : Option ℕ) (acts : List Act) (n : ℕ) (owns : List Own) (x : Own) → AreKeptBelow t p start acts n owns → IsKept t p start acts x → x.agent ≡ n
    → AreKeptBelow t p start acts (n + 1) (owns ++ x ∷ [])
pushed_alone t p start acts n owns x h kept own = record {
  each = All-push (IsKept t p start acts) owns x h.each kept;
  below = All-push (λ (o : Own). o.agent < n + 1) owns x (lower n owns h.below) (omega (arith, own));
  has = has;
  rising = own_rises n owns x h.below own h.rising;
}
  where
    has : (a : ℕ) → a < n + 1 → is_caller t p (Some a) ≡ true → HasOwn (owns ++ x ∷ []) a
    has a within is = by (a == n) refl
      where
        by : (b : Bool) → (a == n) ≡ b → HasOwn (owns ++ x ∷ []) a
        by true e = subst (HasOwn (owns ++ x ∷ [])) (own ∙ sym (eqb-true a n e)) (own_last owns x)
        by false e = own_more owns x a (h.has a (not_last a n within e) is)

pub kept_alone : (t : Network) (p : ℕ) (start : Option ℕ) (acts : List Act) (owns : List Own) → AreKeptBelow t p start acts (length t.agents) owns → AreKept t p start acts owns
kept_alone t p start acts owns h = record { each = h.each; has = h.has; rising = h.rising }

-- one agent more
pub next_alone : (t : Network) (p : ℕ) (start : Option ℕ) (acts : List Act) (n : ℕ) (owns new : List Own) (own : Option Own) → AreKeptBelow t p start acts n owns → IsOneOf t p start acts n own → new ≡ owns ++ option_to_list own
    → AreKeptBelow t p start acts (n + 1) new
next_alone t p start acts n owns new None h none is = subst (AreKeptBelow t p start acts (n + 1)) (sym (is ∙ append-nil owns)) (skipped_alone t p start acts n owns h none)
next_alone t p start acts n owns new (Some o) h one is = subst (AreKeptBelow t p start acts (n + 1)) (sym is) (pushed_alone t p start acts n owns o h one.1 one.0)

---- Whom the acts ask

asks_it : (a : ℕ) (act : Act) → is_ask_of a act ≡ true → IsAskTo a act
asks_it a (Act.Ask agent ask) e = eqb-true agent a e
asks_it a (Act.Force agent number) e = absurd (true≢false (sym e))
asks_it a (Act.Restart agent) e = absurd (true≢false (sym e))

is_asked_it : (a : ℕ) (act : Act) → IsAskTo a act → is_ask_of a act ≡ true
is_asked_it a (Act.Ask agent ask) h = eq-eqb agent a h
is_asked_it a (Act.Force agent number) h = absurd h
is_asked_it a (Act.Restart agent) h = absurd h

pub all_are : (a : ℕ) (acts : List Act) → list_all (is_ask_of a) acts ≡ true → All (IsAskTo a) acts
all_are a [] e = All-nil (IsAskTo a)
all_are a (act ∷ acts) e =
    let parts = and_parts (is_ask_of a act) (list_all (is_ask_of a) acts) e in
    All-cons (IsAskTo a) act acts (asks_it a act parts.0) (all_are a acts parts.1)

are_all : (a : ℕ) (acts : List Act) → All (IsAskTo a) acts → list_all (is_ask_of a) acts ≡ true
are_all a [] h = refl
are_all a (act ∷ acts) h = and_from (is_ask_of a act) (list_all (is_ask_of a) acts) (is_asked_it a act (All-head (IsAskTo a) act acts h)) (are_all a acts (All-tail (IsAskTo a) act acts h))

-- who asks alone is whom the first act asks
first_is : (given a : ℕ) (acts : List Act) (o : Option ℕ) → All (IsAskTo a) acts → o ≡ first_asked given acts → ((acts ≡ []) × (o ≡ Some given)) ⊎ (o ≡ Some a)
first_is given a [] o h e = inl (refl, e)
first_is given a (Act.Ask agent ask ∷ acts) o h e = inr (e ∙ ap Some (All-head (IsAskTo a) (Act.Ask agent ask) acts h))
first_is given a (Act.Force agent number ∷ acts) o h e = absurd (All-head (IsAskTo a) (Act.Force agent number) acts h)
first_is given a (Act.Restart agent ∷ acts) o h e = absurd (All-head (IsAskTo a) (Act.Restart agent) acts h)

pub first_there : (given : ℕ) (acts : List Act) (o : Option ℕ) → o ≡ first_asked given acts → o ≡ None → AreOfOne acts → ⊥
first_there given acts o e none h = elim (first_is given h.agent acts o h.each e) [ inl k ↦ none-some given (sym none ∙ k.1) | inr k ↦ none-some h.agent (sym none ∙ k) ]

pub all_of_first : (given agent : ℕ) (acts : List Act) (o : Option ℕ) → o ≡ first_asked given acts → o ≡ Some agent → list_all (is_ask_of agent) acts ≡ false → AreOfOne acts → ⊥
all_of_first given agent acts o e some other h = elim (first_is given h.agent acts o h.each e) [
  | inl k ↦ true≢false (sym (ap (list_all (is_ask_of agent)) k.0) ∙ other)
  | inr k ↦ true≢false (sym (are_all h.agent acts h.each) ∙ (ap (λ a. list_all (is_ask_of a) acts) (same_Some h.agent agent (sym k ∙ some)) ∙ other))
]

-- nobody else is asked anything
pub none_asked : (asked a : ℕ) (acts : List Act) → (asked == a) ≡ false → All (IsAskTo asked) acts → asks_by a acts ≡ []
unfolding asks_by
none_asked asked a [] apart h = refl
none_asked asked a (Act.Ask agent ask ∷ acts) apart h =
    let own : agent ≡ asked = All-head (IsAskTo asked) (Act.Ask agent ask) acts h in
    ap (λ b. (if b then ask ∷ [] else []) ++ asks_by a acts) (ap (λ n. n == a) own ∙ apart) ∙ none_asked asked a acts apart (All-tail (IsAskTo asked) (Act.Ask agent ask) acts h)
none_asked asked a (Act.Force agent number ∷ acts) apart h = absurd (All-head (IsAskTo asked) (Act.Force agent number) acts h)
none_asked asked a (Act.Restart agent ∷ acts) apart h = absurd (All-head (IsAskTo asked) (Act.Restart agent) acts h)

-- who is asked nothing keeps nothing
pub own_nothing : (t : Network) (c : Call) (start : Option ℕ) (asks : List Ask) (kept : List Item) → asks ≡ [] → kept ≡ [] → IsOwn t c start asks kept
own_nothing t c start asks kept none nothing =
    let play : IsPlay t c start [] [] = (begun t c.agent start, plays_none t c (begun t c.agent start)) in
    inl (subst (λ (l : List Ask). IsPlay t c start l kept) (sym none) (subst (IsPlay t c start []) (sym nothing) play))

pub apart_of : (asked a : ℕ) → true ≡ not (a == asked) → (asked == a) ≡ false
apart_of asked a ne = ne_eqb asked a (λ e. true≢false (ne ∙ ap not (eq-eqb a asked (sym e))))

pub if_none : (o : Option ℕ) (P : Type 0) → P → IfNone o P
if_none None P h = h
if_none (Some a) P h = tt
