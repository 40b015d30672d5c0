-- What is done to each child in order: what is done, before what is still to come, is the whole.
use Rattle.std.proofs.Common.{ℕ, suc, ◌≡◌, ◌<◌, ◌≤◌, ◌+◌, ◌∙◌, List, [], ◌∷◌, ◌++◌, length, take, drop, set, refl, sym, ap, subst, arith, Ok, Bool, true, false, ◌||◌}
use Rattle.std.specs.List.{list_any}
use Rattle.std.proofs.Math.Seq.{drop-cons}
use Rattle.std.proofs.lemmas.List.{append_assoc, append-nil, take_all, drop_all, take_more_set, drop-set-lt, length-set}
use Rattle.nsi_primitive.specs.declared.message.Message.{Message}
use Rattle.child_connection.specs.Views.{ChildConnection}
use Rattle.aggregator_agent.specs.Asking.{Asked, Asking, each}
use Rattle.aggregator_agent.specs.declared.connection.Turning.{Turning}
use Rattle.aggregator_agent.specs.Connections.{no_view, view_at, IsAskedAt, AreAsked}

abbrev pub behind : List ChildConnection → List Message → Asking → Asking
behind xs ms a = record { children = xs ++ a.children; asked = ms ++ a.asked; next = a.next }

pub record IsEach (does : ℕ → ChildConnection → Asked) (all : Asking) (i : ℕ) (now : List ChildConnection) (asked : List Message) (next : ℕ) : Type 0 where
  pub whole : behind (take i now) asked (each does next (drop i now)) ≡ all

pub each_none : (does : ℕ → ChildConnection → Asked) (xs : List ChildConnection) (ms : List Message) (next : ℕ) → IsEach does (behind [] ms (each does next xs)) 0 xs ms next
each_none does xs ms next = record { whole = refl }

here : (i : ℕ) (xs : List ChildConnection) → i < length xs → drop i xs ≡ view_at i xs ∷ drop (i + 1) xs
here i xs h =
    let e : suc i ≡ i + 1 = omega arith in
    drop-cons xs i no_view h ∙ ap (λ k. view_at i xs ∷ drop k xs) e

past : (i : ℕ) (xs : List ChildConnection) (y : ChildConnection) → drop (i + 1) (set xs i y) ≡ drop (i + 1) xs
past i xs y = drop-set-lt (i + 1) xs i y (omega arith)

one_more : (xs : List ChildConnection) (ms : List Message) (one : Asked) (rest : Asking)
    → behind (xs ++ one.child ∷ []) (ms ++ one.asked) rest ≡ behind xs ms (record { children = one.child ∷ rest.children; asked = one.asked ++ rest.asked; next = rest.next })
one_more xs ms one rest =
    ap (λ c. record { children = c; asked = (ms ++ one.asked) ++ rest.asked; next = rest.next }) (append_assoc xs (one.child ∷ []) rest.children)
    ∙ ap (λ a. record { children = xs ++ one.child ∷ rest.children; asked = a; next = rest.next }) (append_assoc ms one.asked rest.asked)

pub each_more : (does : ℕ → ChildConnection → Asked) (whole : Asking) (i : ℕ) (xs : List ChildConnection) (ms : List Message) (next : ℕ) → i < length xs → IsEach does whole i xs ms next
    → IsEach does whole (i + 1) (set xs i (does next (view_at i xs)).child) (ms ++ (does next (view_at i xs)).asked) (does next (view_at i xs)).next
unfolding each
each_more does whole i xs ms next h e =
    let one : Asked = does next (view_at i xs) in
    record {
      whole =
          ap (λ front. behind front (ms ++ one.asked) (each does one.next (drop (i + 1) (set xs i one.child)))) (take_more_set xs i one.child h)
          ∙ ap (λ rest. behind (take i xs ++ one.child ∷ []) (ms ++ one.asked) (each does one.next rest)) (past i xs one.child)
          ∙ one_more (take i xs) ms one (each does one.next (drop (i + 1) xs))
          ∙ ap (λ rest. behind (take i xs) ms (each does next rest)) (sym (here i xs h))
          ∙ e.whole;
    }

-- the same of what a call leaves
pub asked_more : {X : Type 0} (does : ℕ → ChildConnection → Asked) (all : Asking) (i : ℕ) (xs ys : List ChildConnection) (old new : Turning) (u : X) → i < length xs
    → IsAskedAt old new i xs ys (Ok u) (does old.next (view_at i xs)) → IsEach does all i xs old.asked.items old.next → IsEach does all (i + 1) ys new.asked.items new.next
asked_more does all i xs ys old new u h a e =
    let one : Asked = does old.next (view_at i xs) in
    let at_child : IsEach does all (i + 1) ys (old.asked.items ++ one.asked) one.next =
    subst (λ z. IsEach does all (i + 1) z (old.asked.items ++ one.asked) one.next) (sym a.child) (each_more does all i xs old.asked.items old.next h e) in
    let at_asked : IsEach does all (i + 1) ys new.asked.items one.next =
    subst (λ z. IsEach does all (i + 1) ys z one.next) (sym a.asked) at_child in
    subst (λ z. IsEach does all (i + 1) ys new.asked.items z) (sym a.next) at_asked

pub same_long : {X : Type 0} (i : ℕ) (xs ys : List ChildConnection) (old new : Turning) (u : X) (one : Asked) → IsAskedAt old new i xs ys (Ok u) one → length ys ≡ length xs
same_long i xs ys old new u one a = ap length a.child ∙ length-set xs i one.child

-- at the end nothing is still to come
all_done : (does : ℕ → ChildConnection → Asked) (i : ℕ) (xs : List ChildConnection) (ms : List Message) (next : ℕ) → length xs ≤ i
    → behind (take i xs) ms (each does next (drop i xs)) ≡ record { children = xs; asked = ms; next = next }
unfolding each
all_done does i xs ms next h =
    ap (λ rest. behind (take i xs) ms (each does next rest)) (drop_all i xs h)
    ∙ ap (λ front. record { children = front ++ []; asked = ms ++ []; next = next }) (take_all i xs h)
    ∙ ap (λ front. record { children = front; asked = ms ++ []; next = next }) (append-nil xs)
    ∙ ap (λ a. record { children = xs; asked = a; next = next }) (append-nil ms)

pub each_done : (does : ℕ → ChildConnection → Asked) (whole : Asking) (i : ℕ) (xs : List ChildConnection) (ms : List Message) (next : ℕ) → length xs ≤ i → IsEach does whole i xs ms next
    → record { children = xs; asked = ms; next = next } ≡ whole
each_done does whole i xs ms next h e = sym (all_done does i xs ms next h) ∙ e.whole

-- what the calls leave is what is done to all
pub all_asked : {X : Type 0} (does : ℕ → ChildConnection → Asked) (i : ℕ) (xs ys : List ChildConnection) (old new : Turning) (u : X) → length ys ≤ i
    → IsEach does (behind [] old.asked.items (each does old.next xs)) i ys new.asked.items new.next → new.replies ≡ old.replies → new.notices ≡ old.notices
    → AreAsked old new ys (Ok u) (each does old.next xs)
all_asked does i xs ys old new u h e replies notices =
    let done : record { children = ys; asked = new.asked.items; next = new.next } ≡ behind [] old.asked.items (each does old.next xs) =
    each_done does (behind [] old.asked.items (each does old.next xs)) i ys new.asked.items new.next h e in
    record {
      children = ap (λ (a : Asking). a.children) done;
      asked = ap (λ (a : Asking). a.asked) done;
      next = ap (λ (a : Asking). a.next) done;
      replies = replies;
      notices = notices;
    }

-- whether one passes, by what is known and what is still to come
pub any_more : (test : ChildConnection → Bool) (b : Bool) (i : ℕ) (xs : List ChildConnection) (y : ChildConnection) → i < length xs
    → ((b || test (view_at i xs)) || list_any test (drop (i + 1) (set xs i y))) ≡ (b || list_any test (drop i xs))
any_more test b i xs y h =
    ap (λ rest. (b || test (view_at i xs)) || list_any test rest) (past i xs y)
    ∙ joined b (test (view_at i xs)) (list_any test (drop (i + 1) xs))
    ∙ ap (λ rest. b || list_any test rest) (sym (here i xs h))
  where
    joined : (a b c : Bool) → ((a || b) || c) ≡ (a || (b || c))
    joined true b c = refl
    joined false b c = refl

-- the same of what a call leaves
pub any_next : (test : ChildConnection → Bool) (b c : Bool) (i : ℕ) (xs ys : List ChildConnection) (y : ChildConnection) → i < length xs → ys ≡ set xs i y → c ≡ (b || test (view_at i xs))
    → (c || list_any test (drop (i + 1) ys)) ≡ (b || list_any test (drop i xs))
any_next test b c i xs ys y h e f =
    ap (λ z. z || list_any test (drop (i + 1) ys)) f
    ∙ ap (λ z. (b || test (view_at i xs)) || list_any test (drop (i + 1) z)) e
    ∙ any_more test b i xs y h

pub any_done : (test : ChildConnection → Bool) (b : Bool) (i : ℕ) (xs : List ChildConnection) → length xs ≤ i → (b || list_any test (drop i xs)) ≡ b
any_done test b i xs h = ap (λ rest. b || list_any test rest) (drop_all i xs h) ∙ alone b
  where
    alone : (a : Bool) → (a || false) ≡ a
    alone true = refl
    alone false = refl
