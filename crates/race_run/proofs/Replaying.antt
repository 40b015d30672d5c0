-- A history is gone through, event by event.
use Rattle.std.proofs.Common.{◌≡◌, ◌≢◌, ◌<◌, ◌≤◌, ℕ, zero, suc, ◌+◌, List, [], ◌∷◌, ◌++◌, map, length, drop, get_or, Bool, true, false, Option, Some, None, refl, sym, ap, ◌∙◌, subst, arith}
use Rattle.std.specs.Prelude.{◌==◌, ◌&&◌, ◌||◌, not, if◌then◌else◌, slice_set}
use Rattle.std.proofs.lemmas.Bool.{true≢false, eq-eqb, eqb-true}
use Rattle.std.proofs.Common.{drop-cons}
use Rattle.std.proofs.Math.ListN.{drop_of_length-le}
use Rattle.std.proofs.lemmas.List.{append-nil, append_assoc, get_or-set_other}
use Rattle.std.proofs.lemmas.Grind.{get_or-set_at}
use Rattle.nsi_primitive.specs.declared.ask.AskAnswer.{AskAnswer}
use Rattle.nsi_primitive.specs.declared.entry.Entry.{Entry}
use Rattle.nsi_primitive.specs.declared.entry.Event.{Event}
use Rattle.nsi_primitive.specs.declared.entry.Happening.{Happening}
use Rattle.nsi_primitive.specs.declared.message.Message.{Message}
use Rattle.stp_topology.specs.declared.network.Network.{Network}
use Rattle.provider_agent.specs.Setting.{Setting, setting_of, own_stp}
use Rattle.provider_agent.specs.State.{State, Standing, blank}
use Rattle.provider_agent.specs.Steps.{after}
use Rattle.race_run.specs.declared.item.Item.{Item}
use Rattle.race_run.specs.declared.replayed.Lists.{Lists}
use Rattle.race_run.specs.Found.{after_at, along, entry_in, entered, item, is_tick, is_caller, owner, state_by, state_gone, found_at, tick_at, stray_at}
use Rattle.race_run.specs.Replay.{MayBeAt, MayAll, Added, Adds, AreOf, IsAt, items_at, own_items, owned_items, tick_items, stray_items}

-- one more list with nothing in it
pub one_more : (xs : List (List Item)) → ((a : ℕ) → items_at xs a ≡ []) → (a : ℕ) → items_at (xs ++ [] ∷ []) a ≡ []
one_more [] h zero = refl
one_more [] h (suc a) = refl
one_more (x ∷ xs) h zero = h zero
one_more (x ∷ xs) h (suc a) = one_more xs (λ b. h (suc b)) a

-- the list of an agent has more, and no other
set_more : (xs : List (List Item)) (k a : ℕ) (more : List Item) (b : Bool) → (k == a) ≡ b → k < length xs → get_or (slice_set xs k (get_or xs k [] ++ more)) a [] ≡ get_or xs a [] ++ (if b then more else [])
set_more xs k a more true e h =
    let same : a ≡ k = sym (eqb-true k a e) in
    get_or-set_at xs k a (get_or xs k [] ++ more) [] same h ∙ ap (λ n. get_or xs n [] ++ more) (sym same)
set_more xs k a more false e h =
    let apart : a ≢ k = λ q. true≢false (sym (eq-eqb k a (sym q)) ∙ e) in
    get_or-set_other xs k a (get_or xs k [] ++ more) [] apart ∙ sym (append-nil (get_or xs a []))

pub owned : (xs new : List (List Item)) (p k second place : ℕ) (e : Entry) (out : List Message) → k < length xs
    → new ≡ slice_set xs k (get_or xs k [] ++ own_items (record { provider = p; agent = k; second = second }) place e out)
    → (a : ℕ) → items_at new a ≡ items_at xs a ++ owned_items p a second place (Some k) e out
owned xs new p k second place e out h is a = ap (λ v. get_or v a []) is ∙ by (k == a) refl
  where
    by : (b : Bool) → (k == a) ≡ b → get_or (slice_set xs k (get_or xs k [] ++ own_items (record { provider = p; agent = k; second = second }) place e out)) a []
        ≡ get_or xs a [] ++ (if b then own_items (record { provider = p; agent = a; second = second }) place e out else [])
    by true q = set_more xs k a (own_items (record { provider = p; agent = k; second = second }) place e out) true q h
        ∙ ap (λ n. get_or xs a [] ++ own_items (record { provider = p; agent = n; second = second }) place e out) (eqb-true k a q)
    by false q = set_more xs k a (own_items (record { provider = p; agent = k; second = second }) place e out) false q h

pub none_owned : (xs : List (List Item)) (p second place : ℕ) (e : Entry) (out : List Message) (a : ℕ) → items_at xs a ≡ items_at xs a ++ owned_items p a second place None e out
none_owned xs p second place e out a = sym (append-nil (get_or xs a []))

-- a provider of the network after an entry
pub next_is : (t : Network) (p : ℕ) (old new : Standing) (e : Entry) → old.setting ≡ setting_of t p
    → new ≡ record old { state = (after old.setting (own_stp t old.setting.number) old.state e).state } → new ≡ record { setting = setting_of t p; state = (after_at t p old.state e).state }
next_is t p old new e own is = is ∙ ap (λ (s : Setting). record { setting = s; state = (after s (own_stp t s.number) old.state e).state }) own

pub next_out : (t : Network) (p : ℕ) (old : Standing) (out : List Message) (e : Entry) → old.setting ≡ setting_of t p
    → out ≡ (after old.setting (own_stp t old.setting.number) old.state e).out → out ≡ (after_at t p old.state e).out
next_out t p old out e own is = is ∙ ap (λ (s : Setting). (after s (own_stp t s.number) old.state e).out) own

pub same_standing : (t : Network) (p : ℕ) (old : Standing) → old.setting ≡ setting_of t p → old ≡ record { setting = setting_of t p; state = old.state }
same_standing t p old own = ap (λ (s : Setting). record { setting = s; state = old.state }) own

seam : (t : Network) (p : ℕ) (adds : ℕ → State → Option Entry → List Item) (s : State) (place : ℕ) (x : Event) (xs : List Event) (old new all : List Item)
    → old ++ along t p adds s place (x ∷ xs) ≡ all → new ≡ old ++ adds place s (entry_in x.what) → new ++ along t p adds (state_by t p s x.what) (place + 1) xs ≡ all
unfolding along
seam t p adds s place x xs old new all h is =
    let rest = along t p adds (state_by t p s x.what) (place + 1) xs in
    ap (λ (l : List Item). l ++ rest) is ∙ append_assoc old (adds place s (entry_in x.what)) rest ∙ h

at_next : (t : Network) (p second : ℕ) (events : List Event) (s : State) (place : ℕ) (x : Event) (xs : List Event) (old new : Lists)
    → IsAt t p second events s place (x ∷ xs) old → Adds t p second place s (entry_in x.what) old new → IsAt t p second events (state_by t p s x.what) (place + 1) xs new
unfolding MayAll state_gone
at_next t p second events s place x xs old new i adds = record {
  ticks = seam t p (tick_at p) s place x xs old.ticks new.ticks _ i.ticks adds.ticks;
  found = λ a. seam t p (found_at t p a second) s place x xs (items_at old.found.items a) (items_at new.found.items a) _ (i.found a) (adds.found a);
  strays = seam t p (stray_at t p) s place x xs old.strays new.strays _ i.strays adds.strays;
  all = adds.all ∙ i.all;
  may = i.may.1;
  ends = i.ends;
}

dropped : (events : List Event) (place : ℕ) (x : Event) → place < length events → x ≡ get_or events place x → drop place events ≡ x ∷ drop (place + 1) events
dropped events place x h is =
    let one : suc place ≡ place + 1 = omega arith in
    drop-cons events place x h ∙ ap (λ (y : Event). y ∷ drop (suc place) events) (sym is) ∙ ap (λ n. x ∷ drop n events) one

pub goes_on : (t : Network) (p second : ℕ) (events : List Event) (s : State) (place : ℕ) (x : Event) (old new : Lists) → place < length events → x ≡ get_or events place x
    → IsAt t p second events s place (drop place events) old → Adds t p second place s (entry_in x.what) old new → IsAt t p second events (state_by t p s x.what) (place + 1) (drop (place + 1) events) new
goes_on t p second events s place x old new h is i adds = at_next t p second events s place x (drop (place + 1) events) old new (subst (λ xs. IsAt t p second events s place xs old) (dropped events place x h is) i) adds

pub may_here : (t : Network) (p second : ℕ) (events : List Event) (s : State) (place : ℕ) (x : Event) (lists : Lists) → place < length events → x ≡ get_or events place x
    → IsAt t p second events s place (drop place events) lists → MayBeAt s x.what
unfolding MayAll
may_here t p second events s place x lists h is i = (subst (λ xs. MayAll t p s xs) (dropped events place x h is) i.may).0

pub begins : (t : Network) (p second : ℕ) (events : List Event) (lists : Lists) → lists.ticks ≡ [] → lists.strays ≡ [] → ((a : ℕ) → items_at lists.found.items a ≡ []) → length lists.found.items ≡ length t.agents → MayAll t p blank events
    → IsAt t p second events blank 0 events lists
begins t p second events lists ticks strays found all may = record {
  ticks = ap (λ (l : List Item). l ++ along t p (tick_at p) blank 0 events) ticks;
  found = λ a. ap (λ (l : List Item). l ++ along t p (found_at t p a second) blank 0 events) (found a);
  strays = ap (λ (l : List Item). l ++ along t p (stray_at t p) blank 0 events) strays;
  all = all;
  may = may;
  ends = refl;
}

pub ends_of : (t : Network) (p second : ℕ) (events : List Event) (s : State) (place : ℕ) (lists : Lists) → IsAt t p second events s place [] lists → AreOf t p second events lists × (s ≡ state_gone t p blank events)
unfolding along state_gone
ends_of t p second events s place lists i = (
  record {
    ticks = sym (append-nil lists.ticks) ∙ i.ticks;
    found = λ a. sym (append-nil (items_at lists.found.items a)) ∙ i.found a;
    strays = sym (append-nil lists.strays) ∙ i.strays;
    all = i.all;
  },
  i.ends,
)

pub at_end : (t : Network) (p second : ℕ) (events : List Event) (s : State) (place : ℕ) (lists : Lists) → length events ≤ place → IsAt t p second events s place (drop place events) lists → AreOf t p second events lists × (s ≡ state_gone t p blank events)
at_end t p second events s place lists h i = ends_of t p second events s place lists (subst (λ xs. IsAt t p second events s place xs lists) (drop_of_length-le events h) i)

-- what an entry adds, by what is known of its owner
pub adds_in : (t : Network) (p second place : ℕ) (s : State) (e : Entry) (old new : Lists) (o : Option ℕ) (out : List Message) (is_asked : Bool) → Added p second place e o is_asked out old new
    → o ≡ owner t s e.input → out ≡ (after_at t p s e).out → is_asked ≡ is_caller t p o → Adds t p second place s (Some e) old new
adds_in t p second place s e old new o out is_asked h own said asked = record {
  ticks = h.ticks;
  found = λ a. h.found a ∙ (λ i. items_at old.found.items a ++ owned_items p a second place (own i) e (said i));
  strays = h.strays ∙ ap (λ (l : List Item). old.strays ++ l) (stray_by (is_tick e.input) is_asked (is_caller t p (owner t s e.input)) (item place (entered p e) ∷ []) (asked ∙ ap (is_caller t p) own));
  all = h.all;
}
  where
    stray_by : (tick asked caller : Bool) (it : List Item) → asked ≡ caller → (if tick || asked then [] else it) ≡ (if not tick && not caller then it else [])
    stray_by true asked caller it e = refl
    stray_by false true true it e = refl
    stray_by false false false it e = refl
    stray_by false true false it e = absurd (cc)
    stray_by false false true it e = absurd (cc)

pub standing_of : (x : Standing) (set : Setting) (s : State) → x.setting ≡ set → x.state ≡ s → x ≡ record { setting = set; state = s }
standing_of x set s e f = λ i. record { setting = e i; state = f i }
