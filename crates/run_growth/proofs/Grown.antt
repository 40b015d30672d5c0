-- Each cut of each world of a run is made by entries alone.
use Rattle.std.proofs.Common.{ℕ, zero, suc, ◌+◌, ◌<◌, ◌≤◌, ◌≡◌, ◌≢◌, List, [], ◌∷◌, ◌++◌, length, take, drop, Option, ◌⊎◌, inl, inr, refl, sym, ap, ◌∙◌, subst, arith, length-append, take-append-drop, ne_eqb, eq-eqb}
use Rattle.std.specs.List.{Contains}
use Rattle.std.proofs.lemmas.List.{take-append-le, length-take-le, take-take, take_all}
use Rattle.std.proofs.lemmas.List.Elements.{Contains-append_left}
use Rattle.std.proofs.lemmas.Bool.{cases_eq, cases_lt}
use Rattle.nsi_primitive.specs.declared.ask.AskAnswer.{AskAnswer}
use Rattle.nsi_primitive.specs.declared.entry.Entry.{Entry}
use Rattle.nsi_primitive.specs.declared.entry.Event.{Event}
use Rattle.nsi_primitive.specs.declared.entry.Happening.{Happening}
use Rattle.nsi_primitive.specs.declared.entry.Input.{Input}
use Rattle.nsi_primitive.specs.declared.message.Message.{Message}
use Rattle.nsi_agent.specs.Homes.{Home}
use Rattle.nsi_agent.specs.Told.{Told, goes_on, told}
use Rattle.nsi_agent.proofs.Telling.{telling_is_in_parts}
use Rattle.nsi_agent.specs.Steps.{after}
use Rattle.nsi_world.specs.Worlds.{Homes, IsAgent, World, empty, synced_part, IsSaidBy, IsSent, IsGot, IsTaken}
use Rattle.nsi_world.specs.Runs.{MayCome, IsInTime, IsEntered, MayHappen, at, happens_at, happens, world_after, AreAllowed}
use Rattle.run_growth.specs.WorldCuts.{IsPlaceOf, IsCut, cut, all_synced, IsGrown, begins, grows}
use Rattle.run_growth.specs.SentLaws.{CutsAreGrown}

---- Places

pub at_same : {X : Type 0} (a : ℕ) (x : X) (f : ℕ → X) → at a x f a ≡ x
at_same a x f = rw (eq-eqb a a refl) refl

pub at_other : {X : Type 0} (a b : ℕ) (x : X) (f : ℕ → X) → b ≢ a → at a x f b ≡ f b
at_other a b x f h = rw (ne_eqb b a h) refl

-- a fact of each place, at the changed place and at the others
pub at_cases : {X : Type 0} (P : ℕ → X → Type 0) (a : ℕ) (x : X) (f : ℕ → X) → P a x → ((b : ℕ) → b ≢ a → P b (f b)) → (b : ℕ) → P b (at a x f b)
at_cases P a x f here there b = go (cases_eq b a)
  where
    go : (b ≡ a) ⊎ (b ≡ a → ⊥) → P b (at a x f b)
    go (inl e) = subst (λ z. P z (at a x f z)) (sym e) (subst (P a) (sym (at_same a x f)) here)
    go (inr n) = subst (P b) (sym (at_other a b x f n)) (there b n)

---- What is said by more entries

-- the entries of one list go on those of another
abbrev pub GoesOn : List Entry → List Entry → Type 0
GoesOn es fs = (more : List Entry) × (fs ≡ es ++ more)

pub front_of : (n k : ℕ) (es : List Entry) → n ≤ k → GoesOn (take n es) (take k es)
front_of n k es le = (drop n (take k es), sym (take-append-drop n (take k es)) ∙ ap (λ fs. fs ++ drop n (take k es)) (take-take n k es le))

pub says_more : (h : Home) (m : Message) (es fs : List Entry) → GoesOn es fs → Contains (told h es).out m → Contains (told h fs).out m
says_more h m es fs g c =
    subst (λ (xs : List Entry). Contains (told h xs).out m) (sym g.1)
    (subst (λ (x : Told). Contains x.out m) (sym (telling_is_in_parts h _ es g.0)) (Contains-append_left (told h es).out (goes_on h (told h es).state g.0).out m c))

pub contains_more : (e : Entry) (es fs : List Entry) → GoesOn es fs → Contains es e → Contains fs e
contains_more e es fs g c = subst (λ (xs : List Entry). Contains xs e) (sym g.1) (Contains-append_left es g.0 e c)

pub gets_more : (m : Message) (es fs : List Entry) → GoesOn es fs → IsGot m es → IsGot m fs
gets_more m es fs g got = record { second = got.second; there = contains_more _ es fs g got.there }

---- What may be entered, where more is synced

module _ (homes : Homes) (w v : World) (more : (b : ℕ) → GoesOn (synced_part w b) (synced_part v b)) where
  pub said_more : (a : ℕ) (m : Message) → IsSaidBy homes w a m → IsSaidBy homes v a m
  said_more a m s = (s.0, says_more (homes a) m (synced_part w a) (synced_part v a) (more a) s.1)

  pub sent_more : (m : Message) → IsSent homes w m → IsSent homes v m
  sent_more m s = (s.0, said_more s.0 m s.1)

  taken_more : (a b : ℕ) (m : Message) → IsTaken homes w (synced_part w) a b m → IsTaken homes v (synced_part v) a b m
  taken_more a b m s = record { said = said_more a m s.said; addressed = s.addressed; got = gets_more m (synced_part w b) (synced_part v b) (more b) s.got }

  comes_more : (a : ℕ) (i : Input) → MayCome homes w a i → MayCome homes v a i
  comes_more a (Input.Ask n ask) h = h
  comes_more a (Input.Got m) h = (sent_more m h.0, h.1)
  comes_more a (Input.Work n machine) h = h
  comes_more a (Input.Force n) h = h
  comes_more a Input.Tick h = h
  comes_more a (Input.Acked i) h = (h.0, h.1, h.2, taken_more a h.1 h.0 h.3)

  pub entered_more : (a : ℕ) (e : Entry) (answer : Option AskAnswer) → v.journal a ≡ w.journal a → IsEntered homes w a e answer → IsEntered homes v a e answer
  entered_more a e answer same h =
      record {
        printable = h.printable;
        in_time = subst (λ (es : List Entry). IsInTime e.input e.second (told (homes a) es).state.base.now) (sym same) h.in_time;
        comes = comes_more a e.input h.comes;
        answered = subst (λ (es : List Entry). answer ≡ (after (homes a) (told (homes a) es).state e).answer) (sym same) h.answered;
      }

---- Cuts

-- the same journals are made in the same way
pub grown_same : (homes : Homes) (journal other : ℕ → List Entry) → ((a : ℕ) → journal a ≡ other a) → IsGrown homes journal → IsGrown homes other
grown_same homes journal other same (begins _ none) = begins other (λ a. sym (same a) ∙ none a)
grown_same homes journal other same (grows first _ a e answer x agent room entered here there) =
    grows first other a e answer x agent room entered (sym (same a) ∙ here) (λ b n. sym (same b) ∙ there b n)

-- no more is synced than there is, and each cut is made by entries alone
pub record AreGrown (homes : Homes) (w : World) : Type 0 where
  pub within : (a : ℕ) → w.synced a ≤ length (w.journal a)
  pub grown : (c : ℕ → ℕ) → IsCut w c → IsGrown homes (cut w c)

synced_all : (w : World) (c : ℕ → ℕ) (b : ℕ) → synced_part (all_synced (cut w c)) b ≡ cut w c b
synced_all w c b = take_all (length (cut w c b)) (cut w c b) (omega arith)

module _ (homes : Homes) (w : World) (a : ℕ) (e : Entry) (answer : Option AskAnswer) (h : AreGrown homes w) (agent : IsAgent homes a) (may : MayHappen homes w a (Happening.Entry e answer)) where
  abbrev next : World
  next = happens_at w a (Happening.Entry e answer)

  -- a cut of what is longer by one entry
  entry_cut : (c : ℕ → ℕ) → IsCut next c → IsGrown homes (cut next c)
  entry_cut c isc = go (cases_lt (length (w.journal a)) (c a))
    where
      here : (w.synced a ≤ c a) × (c a ≤ length (w.journal a) + 1)
      here = let q = isc a in (q.0, omega (arith, ap length (at_same a (w.journal a ++ e ∷ []) w.journal), length-append (w.journal a) (e ∷ []), q.1))

      others : (b : ℕ) → b ≢ a → IsPlaceOf w b (c b)
      others b n = let q = isc b in (q.0, omega (arith, ap length (at_other a b (w.journal a ++ e ∷ []) w.journal n), q.1))

      -- the same cut, but for the agent
      d : ℕ → ℕ
      d = at a (length (w.journal a)) c

      d_cut : IsCut w d
      d_cut = at_cases (λ b n. IsPlaceOf w b n) a (length (w.journal a)) c (h.within a, omega arith) others

      same_here : cut w d a ≡ w.journal a
      same_here = ap (λ k. take k (w.journal a)) (at_same a (length (w.journal a)) c) ∙ take_all (length (w.journal a)) (w.journal a) (omega arith)

      v : World
      v = all_synced (cut w d)

      more : (b : ℕ) → GoesOn (synced_part w b) (synced_part v b)
      more b = subst (GoesOn (synced_part w b)) (sym (synced_all w d b)) (front_of (w.synced b) (d b) (w.journal b) (d_cut b).0)

      entered : IsEntered homes v a e answer
      entered = entered_more homes w v more a e answer same_here may.1

      room : length (cut w d a) < 4194304
      room = omega (arith, may.0, ap length same_here)

      whole : length (w.journal a) < c a → cut next c a ≡ cut w d a ++ e ∷ []
      whole lt =
          ap (take (c a)) (at_same a (w.journal a ++ e ∷ []) w.journal)
          ∙ (take_all (c a) (w.journal a ++ e ∷ []) (omega (arith, lt, length-append (w.journal a) (e ∷ []))) ∙ ap (λ es. es ++ e ∷ []) (sym same_here))

      rest : (b : ℕ) → b ≢ a → cut next c b ≡ cut w d b
      rest b n = ap (take (c b)) (at_other a b (w.journal a ++ e ∷ []) w.journal n) ∙ ap (λ k. take k (w.journal b)) (sym (at_other a b (length (w.journal a)) c n))

      short : c a ≤ length (w.journal a) → (b : ℕ) → cut w c b ≡ cut next c b
      short le = at_cases (λ b es. cut w c b ≡ take (c b) es) a (w.journal a ++ e ∷ []) w.journal (sym (take-append-le (c a) (w.journal a) (e ∷ []) le)) (λ b n. refl)

      short_cut : c a ≤ length (w.journal a) → IsCut w c
      short_cut le b = pick (cases_eq b a)
        where
          pick : (b ≡ a) ⊎ (b ≡ a → ⊥) → IsPlaceOf w b (c b)
          pick (inl q) = subst (λ z. IsPlaceOf w z (c z)) (sym q) (here.0, le)
          pick (inr n) = others b n

      go : (length (w.journal a) < c a) ⊎ (c a ≤ length (w.journal a)) → IsGrown homes (cut next c)
      go (inl lt) = grows (cut w d) (cut next c) a e answer (h.grown d d_cut) agent room entered (whole lt) rest
      go (inr le) = grown_same homes (cut w c) (cut next c) (short le) (h.grown c (short_cut le))

  entry_grown : AreGrown homes next
  entry_grown =
      record {
        within = at_cases (λ b es. w.synced b ≤ length es) a (w.journal a ++ e ∷ []) w.journal (omega (arith, length-append (w.journal a) (e ∷ []), h.within a)) (λ b n. h.within b);
        grown = entry_cut;
      }

module _ (homes : Homes) (w : World) (a : ℕ) (h : AreGrown homes w) where
  sync_grown : (n : ℕ) → n ≡ length (w.journal a) → AreGrown homes (happens_at w a (Happening.Sync n))
  sync_grown n is =
      record {
        within = at_cases (λ b k. k ≤ length (w.journal b)) a n w.synced (omega (arith, is)) (λ b m. h.within b);
        grown = λ c isc. h.grown c (fewer c isc);
      }
    where
      fewer : (c : ℕ → ℕ) → IsCut (happens_at w a (Happening.Sync n)) c → IsCut w c
      fewer c isc b =
          let low : w.synced b ≤ at a n w.synced b = at_cases (λ b k. w.synced b ≤ k) a n w.synced (omega (arith, is, h.within a)) (λ b m. omega arith) b in
          (omega (arith, low, (isc b).0), (isc b).1)

  restart_grown : (n : ℕ) → w.synced a ≤ n → n ≤ length (w.journal a) → AreGrown homes (happens_at w a (Happening.Restart n))
  restart_grown n low high =
      record {
        within = λ b. elim (cases_eq b a) [
          | inl q ↦ subst (λ z. at a n w.synced z ≤ length (at a (take n (w.journal a)) w.journal z)) (sym q)
              (omega (arith, at_same a n w.synced, ap length (at_same a (take n (w.journal a)) w.journal), length-take-le n (w.journal a) high))
          | inr m ↦ omega (arith, h.within b, at_other a b n w.synced m, ap length (at_other a b (take n (w.journal a)) w.journal m))
        ];
        grown = λ c isc. grown_same homes (cut w c) (cut (happens_at w a (Happening.Restart n)) c) (same c isc) (h.grown c (fewer c isc));
      }
    where
      at_most : (c : ℕ → ℕ) → IsCut (happens_at w a (Happening.Restart n)) c → (n ≤ c a) × (c a ≤ n)
      at_most c isc =
          let u = isc a in
          (omega (arith, u.0, at_same a n w.synced), omega (arith, u.1, ap length (at_same a (take n (w.journal a)) w.journal), length-take-le n (w.journal a) high))

      fewer : (c : ℕ → ℕ) → IsCut (happens_at w a (Happening.Restart n)) c → IsCut w c
      fewer c isc b = pick (cases_eq b a)
        where
          pick : (b ≡ a) ⊎ (b ≡ a → ⊥) → IsPlaceOf w b (c b)
          pick (inl q) = subst (λ z. IsPlaceOf w z (c z)) (sym q) (let u = at_most c isc in (omega (arith, low, u.0), omega (arith, high, u.1)))
          pick (inr m) = let u = isc b in (omega (arith, u.0, at_other a b n w.synced m), omega (arith, u.1, ap length (at_other a b (take n (w.journal a)) w.journal m)))

      same : (c : ℕ → ℕ) → IsCut (happens_at w a (Happening.Restart n)) c → (b : ℕ) → cut w c b ≡ cut (happens_at w a (Happening.Restart n)) c b
      same c isc = at_cases (λ b es. cut w c b ≡ take (c b) es) a (take n (w.journal a)) w.journal (sym (take-take (c a) n (w.journal a) (at_most c isc).1)) (λ b m. refl)

happens_grown : (homes : Homes) (w : World) (a : ℕ) (what : Happening) → AreGrown homes w → IsAgent homes a → MayHappen homes w a what → AreGrown homes (happens_at w a what)
happens_grown homes w a (Happening.Entry e answer) h agent may = entry_grown homes w a e answer h agent may
happens_grown homes w a (Happening.Sync n) h agent may = sync_grown homes w a h n may
happens_grown homes w a (Happening.Restart n) h agent may = restart_grown homes w a h n may.0 may.1

empty_grown : (homes : Homes) → AreGrown homes empty
empty_grown homes = record { within = λ a. omega arith; grown = λ c isc. begins (cut empty c) (λ a. none (c a)) }
  where
    none : (n : ℕ) → take n (let es : List Entry = [] in es) ≡ []
    none zero = refl
    none (suc n) = refl

pub grown_after : (homes : Homes) (events : List Event) (w : World) → AreGrown homes w → AreAllowed homes w events → AreGrown homes (world_after w events)
unfolding world_after AreAllowed
grown_after homes [] w h r = h
grown_after homes (e ∷ es) w h r = grown_after homes es (happens w e) (happens_grown homes w e.agent e.what h r.0.0 r.0.1) r.1

-- each cut of each world of a run
pub run_grown : (homes : Homes) (events : List Event) → AreAllowed homes empty events → AreGrown homes (world_after empty events)
run_grown homes events r = grown_after homes events empty (empty_grown homes) r

pub cuts_are_grown : CutsAreGrown
cuts_are_grown homes events c r isc = (run_grown homes events r).grown c isc
