-- Where no two views of one child know one connection, at most one of them hears of a change, so each that is told was heard.
use Rattle.std.proofs.Common.{ℕ, zero, suc, ◌+◌, ◌≤◌, ◌≡◌, ◌∙◌, ◌&&◌, inl, inr, Bool, true, false, cond, List, [], ◌∷◌, ◌++◌, Option, Some, None, refl, sym, ap, subst, arith, bytes_eq, eqb-true, slice_get, sum_by, if◌then◌else◌}
use Rattle.std.proofs.lemmas.List.Sums.{sum_by-cons}
use Rattle.std.proofs.lemmas.Slice.Eq.{bytes_eq-Decides}
use Rattle.nsi_primitive.specs.Messages.{identity, is_request, is_query, kind_of}
use Rattle.nsi_primitive.specs.declared.entry.Entry.{Entry}
use Rattle.nsi_primitive.specs.declared.entry.Input.{Input}
use Rattle.nsi_primitive.specs.declared.message.Body.{Body}
use Rattle.nsi_primitive.specs.declared.message.Identity.{Identity}
use Rattle.nsi_primitive.specs.declared.message.Message.{Message}
use Rattle.message_retry.specs.Retry.{Retry, is_heard, with_heard, is_old, saw_if, saw}
use Rattle.message_retry.specs.Taken.{is_taken}
use Rattle.connection_record.specs.Speaking.{one, tally}
use Rattle.connection_record.proofs.Saying.{tally_append}
use Rattle.child_connection.specs.Views.{ChildConnection, is_id}
use Rattle.agent_state.specs.Entries.{retry_of}
use Rattle.agent_state.specs.State.{AgentState, AgentStepped, blank_agent}
use Rattle.aggregator_agent.specs.Setting.{Setting}
use Rattle.aggregator_agent.specs.Steps.{is_seen, sees, hears, receives, step, may_take, after_if, after as aggregator_after}
use Rattle.nsi_agent.specs.Homes.{Home, aggregates}
use Rattle.nsi_agent.specs.Steps.{after_as, after}
use Rattle.nsi_agent.specs.Told.{Told, goes_on, told}
use Rattle.agent_speech.specs.Unanswered.{HeardBy}
use Rattle.agent_speech.proofs.Every.{every_step}
use Rattle.speech_cost.specs.Changes.{is_change, says_change, is_change_kind, is_of_change, names_plane, hears_change, IsViewAt, KnowTheirOwn, IsToldByHearing}
use Rattle.speech_cost.specs.Laws.{EntriesTellWhatIsHeard, ChangesWereHeard}
use Rattle.speech_cost.proofs.ChangeEntries.{none_told, serves_none, hears_tell, ticks_none}

---- Sums of which one place counts at most

-- a place of a list that counts something
abbrev IsCounted : {X : Type 0} → (X → ℕ) → List X → Type 0
IsCounted {X} f xs = (i : ℕ) × (x : X) × (slice_get xs i ≡ Some x) × (1 ≤ f x)

-- a sum that is something has such a place
some_place : {X : Type 0} (f : X → ℕ) (xs : List X) → 1 ≤ sum_by f xs → IsCounted f xs
some_place f [] h = absurd (omega (arith, h))
some_place {X} f (x ∷ xs) h = by (f x) refl (λ more. some_place f xs more)
  where
    by : (n : ℕ) → f x ≡ n → (1 ≤ sum_by f xs → IsCounted f xs) → IsCounted f (x ∷ xs)
    by (suc n) e behind = (0, x, refl, omega (arith, e))
    by zero e behind = let (i, y, at, more) = behind (omega (arith, h, e, sum_by-cons f x xs)) in (suc i, y, at, more)

-- no two places count, and each counts one at most
record IsAlone {X : Type 0} (f : X → ℕ) (xs : List X) : Type 0 where
  few : (i : ℕ) (x : X) → slice_get xs i ≡ Some x → f x ≤ 1
  same : (i j : ℕ) (x y : X) → slice_get xs i ≡ Some x → slice_get xs j ≡ Some y → 1 ≤ f x → 1 ≤ f y → i ≡ j

first_alone : {X : Type 0} (f : X → ℕ) (x : X) (xs : List X) → IsAlone f (x ∷ xs) → (n k : ℕ) → f x ≡ n → sum_by f xs ≡ k → k ≤ 1 → n + k ≤ 1
first_alone f x xs alone zero k e g few = omega (arith, few)
first_alone f x xs alone (suc n) zero e g few = omega (arith, e, alone.few 0 x refl)
first_alone f x xs alone (suc n) (suc k) e g few =
    absurd (let (i, y, at, more) = some_place f xs (omega (arith, g)) in let z : 0 ≡ suc i = alone.same 0 (suc i) x y refl at (omega (arith, e)) more in omega (arith, z))

one_place : {X : Type 0} (f : X → ℕ) (xs : List X) → IsAlone f xs → sum_by f xs ≤ 1
one_place f [] alone = omega arith
one_place f (x ∷ xs) alone =
    let rest : sum_by f xs ≤ 1 =
    one_place f xs (record { few = λ i y e. alone.few (suc i) y e; same = λ i j y z e g a b. let q : suc i ≡ suc j = alone.same (suc i) (suc j) y z e g a b in omega (arith, q) })
    in
    omega (arith, sum_by-cons f x xs, first_alone f x xs alone (f x) (sum_by f xs) refl refl rest)

tally_sum : {X : Type 0} (p : X → Bool) (xs : List X) → tally p xs ≡ sum_by (λ x. one (p x)) xs
unfolding tally
tally_sum p [] = refl
tally_sum p (x ∷ xs) = omega (arith, tally_sum p xs, sum_by-cons (λ y. one (p y)) x xs)

---- Who hears of a change

is_some : (o : Option ℕ) (d : ℕ) → is_id o d ≡ true → o ≡ Some d
is_some None d e = absurd (cc)
is_some (Some c) d e = ap Some (sym (eqb-true d c e))

names_change : (x : ChildConnection) (b : Body) → names_plane x b ≡ true → is_change b ≡ true
names_change x (Body.DataPlaneStateChange n) e = refl
names_change x _ e = absurd (cc)

one_named : (x y : ChildConnection) (b : Body) → names_plane x b ≡ true → names_plane y b ≡ true → (id : ℕ) × (x.connection ≡ Some id) × (y.connection ≡ Some id)
one_named x y (Body.DataPlaneStateChange n) e f = (n.connection, is_some x.connection n.connection e, is_some y.connection n.connection f)
one_named x y _ e f = absurd (cc)

both_true : (a b : Bool) → (a && b) ≡ true → (a ≡ true) × (b ≡ true)
both_true true b e = (refl, e)
both_true false b e = absurd (cc)

from_child : (m : Message) (x : ChildConnection) → hears_change m x ≡ true → x.child ≡ m.header.provider
from_child m x e = sym ((bytes_eq-Decides m.header.provider x.child).0 (both_true (bytes_eq m.header.provider x.child) (names_plane x m.body) e).0)

named_by : (m : Message) (x : ChildConnection) → hears_change m x ≡ true → names_plane x m.body ≡ true
named_by m x e = (both_true (bytes_eq m.header.provider x.child) (names_plane x m.body) e).1

counted : (b : Bool) → 1 ≤ one b → b ≡ true
counted true h = refl
counted false h = absurd (omega (arith, h))

one_is_few : (b : Bool) → one b ≤ 1
one_is_few b = grind arith

module _ (s : AgentState) (m : Message) (know : KnowTheirOwn s) where
  same : (n i k j : ℕ) (x y : ChildConnection) → IsViewAt s n i x → IsViewAt s k j y → hears_change m x ≡ true → hears_change m y ≡ true → (n ≡ k) × (i ≡ j)
  same n i k j x y at there e f =
      let (id, a, b) = one_named x y m.body (named_by m x e) (named_by m y f) in
      know n i k j id x y at there (from_child m y f ∙ sym (from_child m x e)) a b

  -- of the views of one connection
  one_view : (n : ℕ) (xs : List ChildConnection) → slice_get s.children n ≡ Some xs → tally (hears_change m) xs ≤ 1
  one_view n xs at =
      omega (
        arith,
        tally_sum (hears_change m) xs,
        one_place (λ x. one (hears_change m x)) xs
            (record {
              few = λ i x e. one_is_few (hears_change m x);
              same = λ i j x y e f a b.
                  (same n i n j x y (record { views = xs; there = at; view = e }) (record { views = xs; there = at; view = f }) (counted (hears_change m x) a) (counted (hears_change m y) b)).1;
            }),
      )

  some_view : (xs : List ChildConnection) → 1 ≤ tally (hears_change m) xs → (i : ℕ) × (x : ChildConnection) × (slice_get xs i ≡ Some x) × (hears_change m x ≡ true)
  some_view xs h =
      let (i, x, at, more) = some_place (λ y. one (hears_change m y)) xs (omega (arith, h, tally_sum (hears_change m) xs)) in (i, x, at, counted (hears_change m x) more)

  -- of all views
  one_hears : sum_by (tally (hears_change m)) s.children ≤ 1
  one_hears =
      one_place (tally (hears_change m)) s.children
      (record {
        few = one_view;
        same = λ n k xs ys e f a b.
            let (i, x, at, is) = some_view xs a in
            let (j, y, there, too) = some_view ys b in
            (same n i k j x y (record { views = xs; there = e; view = at }) (record { views = ys; there = f; view = there }) is too).0;
      })

  -- and of nothing but a change
  change_heard : 1 ≤ sum_by (tally (hears_change m)) s.children → is_change m.body ≡ true
  change_heard h =
      let (n, xs, at, more) = some_place (tally (hears_change m)) s.children h in
      let (i, x, there, is) = some_view xs more in
      names_change x m.body (named_by m x is)

  few_hear : sum_by (tally (hears_change m)) s.children ≤ one (is_change m.body)
  few_hear = by (sum_by (tally (hears_change m)) s.children) refl
    where
      by : (n : ℕ) → sum_by (tally (hears_change m)) s.children ≡ n → n ≤ one (is_change m.body)
      by zero e = omega arith
      by (suc n) e = omega (arith, one_hears, e, ap one (change_heard (omega (arith, e))))

---- What is noted as heard

change_of : (b : Body) → is_change_kind (kind_of b) ≡ is_change b
change_of b = grind arith

saw_noted : (m : Message) (t : Retry) → is_request m.body ≡ false → (saw m t).heard ≡ with_heard (identity m) t.heard
unfolding saw
saw_noted m t e = by (is_request m.body) e
  where
    by : (b : Bool) → b ≡ false → (saw_if b m t).heard ≡ with_heard (identity m) t.heard
    by true q = absurd (cc)
    by false q = refl

not_heard : (m : Message) (t : Retry) → is_request m.body ≡ false → is_old m t ≡ false → is_heard (identity m) t.heard ≡ false
unfolding is_old
not_heard m t e old = by (is_request m.body) e old
  where
    by : (b : Bool) → b ≡ false → cond b (is_taken m.header t.seen) (is_heard (identity m) t.heard) ≡ false → is_heard (identity m) t.heard ≡ false
    by true q o = absurd (cc)
    by false q o = o

one_more : {X : Type 0} (p : X → Bool) (xs : List X) (x : X) → tally p (xs ++ x ∷ []) ≡ tally p xs + one (p x)
unfolding tally
one_more p xs x = omega (arith, tally_append p xs (x ∷ []))

more_heard : (i : Identity) (heard : List Identity) → is_heard i heard ≡ false → tally is_of_change (with_heard i heard) ≡ tally is_of_change heard + one (is_of_change i)
unfolding with_heard
more_heard i heard e = by (is_heard i heard) e
  where
    by : (b : Bool) → b ≡ false → tally is_of_change (if b then heard else heard ++ i ∷ []) ≡ tally is_of_change heard + one (is_of_change i)
    by true q = absurd (cc)
    by false q = one_more is_of_change heard i

noted : (m : Message) (t : Retry) → is_request m.body ≡ false → is_old m t ≡ false → tally is_of_change (saw m t).heard ≡ tally is_of_change t.heard + one (is_change m.body)
noted m t e old = omega (arith, ap (tally is_of_change) (saw_noted m t e), more_heard (identity m) t.heard (not_heard m t e old), ap one (change_of m.body))

heard_still : (i : Identity) (heard : List Identity) → tally is_of_change heard ≤ tally is_of_change (with_heard i heard)
unfolding with_heard
heard_still i heard = by (is_heard i heard)
  where
    by : (b : Bool) → tally is_of_change heard ≤ tally is_of_change (if b then heard else heard ++ i ∷ [])
    by true = omega arith
    by false = omega (arith, one_more is_of_change heard i)

-- an entry leaves what was heard
heard_grows : (setting : Setting) (s : AgentState) (e : Entry) → tally is_of_change s.base.heard ≤ tally is_of_change (aggregator_after setting s e).state.base.heard
unfolding after_as
heard_grows setting s e = by (every_step (aggregates setting) s e).heard
  where
    by : HeardBy s.base.heard e.input (aggregator_after setting s e).state.base.heard → tally is_of_change s.base.heard ≤ tally is_of_change (aggregator_after setting s e).state.base.heard
    by (inl q) = omega (arith, ap (tally is_of_change) q)
    by (inr (m, i, q)) = omega (arith, ap (tally is_of_change) q, heard_still (identity m) s.base.heard)

---- One entry

-- what is told and was heard is heard
abbrev IsHeardFirst : AgentState → AgentStepped → Type 0
IsHeardFirst s x = IsToldByHearing s x.state x.out

abbrev StillHeard : AgentState → AgentStepped → Type 0
StillHeard s x = tally is_of_change s.base.heard ≤ tally is_of_change x.state.base.heard

hears_first : (setting : Setting) (s : AgentState) (m : Message) → is_request m.body ≡ false → is_seen s m ≡ false → KnowTheirOwn s → IsHeardFirst s (hears setting (sees m s) m)
unfolding hears
hears_first setting s m asks new know = record { told = omega (arith, hears_tell setting s m, few_hear s m know, noted m (retry_of s.base) asks new) }

receives_first : (asks old : Bool) (setting : Setting) (s : AgentState) (m : Message) → is_request m.body ≡ asks → is_seen s m ≡ old → KnowTheirOwn s → StillHeard s (receives asks old setting s m) → IsHeardFirst s (receives asks old setting s m)
unfolding receives
receives_first true false setting s m asks new know still = record { told = omega (arith, serves_none setting s m (is_query m.body), still) }
receives_first false false setting s m asks new know still = hears_first setting s m asks new know
receives_first true true setting s m asks new know still = record { told = omega (arith, none_told) }
receives_first false true setting s m asks new know still = record { told = omega (arith, none_told) }

step_first : (i : Input) (second : ℕ) (setting : Setting) (s : AgentState) → KnowTheirOwn s → StillHeard s (step i second setting s) → IsHeardFirst s (step i second setting s)
unfolding step
step_first (Input.Got m) second setting s know still = receives_first (is_request m.body) (is_seen s m) setting s m refl refl know still
step_first Input.Tick second setting s know still = record { told = omega (arith, ticks_none setting second s, still) }
step_first (Input.Acked i) second setting s know still = record { told = omega (arith, none_told) }
step_first (Input.Work n machine) second setting s know still = record { told = omega (arith, none_told) }
step_first (Input.Force n) second setting s know still = record { told = omega (arith, none_told) }
step_first (Input.Ask n ask) second setting s know still = record { told = omega (arith, none_told) }

after_first : (b : Bool) (setting : Setting) (s : AgentState) (e : Entry) → KnowTheirOwn s → StillHeard s (after_if b setting s e) → IsHeardFirst s (after_if b setting s e)
after_first false setting s e know still = record { told = omega (arith, none_told) }
after_first true setting s e know still = let a : IsHeardFirst s (step e.input e.second setting s) = step_first e.input e.second setting s know still in record { told = a.told }

pub entries_tell_what_is_heard : EntriesTellWhatIsHeard
unfolding aggregator_after
entries_tell_what_is_heard setting s e know = after_first (may_take s e) setting s e know (heard_grows setting s e)

---- All entries

-- from a state on
goes_on_hearing : (h : Home) (setting : Setting) (s : AgentState) (es : List Entry) → h.role ≡ aggregates setting → ((fs gs : List Entry) → es ≡ fs ++ gs → KnowTheirOwn (goes_on h s fs).state) →
    IsToldByHearing s (goes_on h s es).state (goes_on h s es).out
unfolding goes_on after_as
goes_on_hearing h setting s [] e know = record { told = omega (arith, none_told) }
goes_on_hearing h setting s (x ∷ xs) e know =
    let y : AgentStepped = after h s x in
    let rest : Told = goes_on h y.state xs in
    let a : IsToldByHearing s y.state y.out = first e (know [] (x ∷ xs) refl) in
    let b : IsToldByHearing y.state rest.state rest.out = goes_on_hearing h setting y.state xs e (λ fs gs q. know (x ∷ fs) gs (ap (λ zs. x ∷ zs) q)) in
    record { told = omega (arith, a.told, b.told, tally_append says_change y.out rest.out) }
  where
    first : h.role ≡ aggregates setting → KnowTheirOwn s → IsToldByHearing s (after h s x).state (after h s x).out
    first e own = subst (λ role. IsToldByHearing s (after_as role s x).state (after_as role s x).out) (sym e) (entries_tell_what_is_heard setting s x own)

pub changes_were_heard : ChangesWereHeard
changes_were_heard h setting es e always =
    let a : IsToldByHearing blank_agent (told h es).state (told h es).out = goes_on_hearing h setting blank_agent es e always in omega (arith, a.told)
