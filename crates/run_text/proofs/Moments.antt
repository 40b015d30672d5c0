-- The moments of a run: a world, and how many asks came before.
use Rattle.std.proofs.Common.{ℕ, ◌+◌, ◌≡◌, List, [], ◌∷◌, ◌++◌, ap}
use Rattle.nsi_primitive.specs.declared.entry.Event.{Event}
use Rattle.nsi_primitive.specs.declared.entry.Happening.{Happening}
use Rattle.nsi_primitive.specs.declared.entry.Input.{Input}
use Rattle.nsi_agent.specs.Told.{told}
use Rattle.trace_reader.specs.Moments.{HappensNow, IsNumbered, IsTimely}
use Rattle.trace_reader.specs.Pasts.{asks_behind}
use Rattle.nsi_world.specs.Worlds.{Homes, World}
use Rattle.nsi_world.specs.Runs.{Asked, IsInTime, MayHappen, Wish, asks_by, asks_in, asks_of, happens, numbered}

abbrev pub Moment : Type 0
Moment = World × ℕ

abbrev pub second_at : Homes → Moment → ℕ → ℕ
second_at homes x a = (told (homes a) (x.0.journal a)).state.base.now

abbrev pub number_at : Moment → ℕ
number_at x = x.1

abbrev pub number_behind : Happening → ℕ → ℕ
number_behind (Happening.Entry e answer) n = asks_behind e.input n
number_behind (Happening.Sync count) n = n
number_behind (Happening.Restart count) n = n

abbrev pub moment_behind : Moment → Event → Moment
moment_behind x e = (happens x.0 e, number_behind e.what x.1)

---- Numbers

-- the asks among events are numbered from there
abbrev pub AreNumbered : ℕ → List Event → Type 0
AreNumbered n es = (wishes : List Wish) × (asks_of es ≡ numbered n wishes)

one_by_one : (x y : Asked) (xs ys : List Asked) → x ∷ xs ≡ y ∷ ys → (x ≡ y) × (xs ≡ ys)
one_by_one x y xs ys e = (cc, cc)

ask_next : (n : ℕ) (x : Asked) (es : List Event) (wishes : List Wish) → x ∷ asks_of es ≡ numbered n wishes → (x.number ≡ n) × AreNumbered (n + 1) es
unfolding numbered
ask_next n x es [] h = absurd (cc)
ask_next n x es (y ∷ wishes) h =
    let parts = one_by_one x (record { number = n; agent = y.0; ask = y.1 }) (asks_of es) (numbered (n + 1) wishes) h in
    (ap (λ (z : Asked). z.number) parts.0, (wishes, parts.1))

input_next : (n a : ℕ) (input : Input) (es : List Event) (wishes : List Wish) → asks_by a input ++ asks_of es ≡ numbered n wishes → IsNumbered input n × AreNumbered (asks_behind input n) es
input_next n a (Input.Ask number ask) es wishes h = ask_next n (record { number = number; agent = a; ask = ask }) es wishes h
input_next n a (Input.Got m) es wishes h = (tt, (wishes, h))
input_next n a (Input.Work k machine) es wishes h = (tt, (wishes, h))
input_next n a Input.Tick es wishes h = (tt, (wishes, h))
input_next n a (Input.Force k) es wishes h = (tt, (wishes, h))
input_next n a (Input.Acked i) es wishes h = (tt, (wishes, h))

---- What happens is of its moment, and the asks behind it are numbered on

in_time : (input : Input) (second now : ℕ) → IsInTime input second now → IsTimely input second now
in_time Input.Tick second now h = tt
in_time (Input.Ask number ask) second now h = h
in_time (Input.Got m) second now h = h
in_time (Input.Work k machine) second now h = h
in_time (Input.Force k) second now h = h
in_time (Input.Acked i) second now h = h

pub next : (homes : Homes) (x : Moment) (a : ℕ) (what : Happening) (es : List Event) (wishes : List Wish) → MayHappen homes x.0 a what → asks_in a what ++ asks_of es ≡ numbered x.1 wishes
    → HappensNow (second_at homes x a) x.1 what × AreNumbered (number_behind what x.1) es
next homes x a (Happening.Entry e answer) es wishes may h =
    let is = input_next x.1 a e.input es wishes h in
    (record { timely = in_time e.input e.second (second_at homes x a) may.1.in_time; numbered = is.0 }, is.1)
next homes x a (Happening.Sync count) es wishes may h = (tt, (wishes, h))
next homes x a (Happening.Restart count) es wishes may h = (tt, (wishes, h))
