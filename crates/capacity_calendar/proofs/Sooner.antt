-- The first lack of places joined is the sooner of the two.
use Rattle.std.proofs.Common.{◌≡◌, ◌≤◌, ◌<◌, ◌-◌, ℕ, zero, suc, Bool, true, false, cond, leb, List, [], ◌∷◌, ◌++◌, Option, Some, None, arith, refl, sym, ap, ◌∙◌}
use Rattle.std.proofs.lemmas.Bool.Decides.{nat_tests}
use Rattle.std.specs.Option.{IfSome}
use Rattle.nsi_base.specs.Range.{Span}
use Rattle.nsi_base.specs.declared.flow.Flow.{Flow}
use Rattle.capacity_calendar.specs.declared.booking.Lack.{Lack}
use Rattle.capacity_calendar.specs.declared.booking.Place.{Place}
use Rattle.capacity_calendar.specs.Lack.{or_else, lacks_by, lack_of, lack_at, first_from, first_lack_by}
use Rattle.capacity_calendar.specs.Search.{sooner}

-- of the places joined, those in front come first
pub lack_at-append : (ps qs : List Place) (l : Flow → ℕ → ℕ → ℕ) (mbps t : ℕ) → lack_at l (ps ++ qs) mbps t ≡ or_else (lack_at l ps mbps t) (lack_at l qs mbps t)
unfolding lack_at
lack_at-append [] qs l mbps t = refl
lack_at-append (p ∷ ps) qs l mbps t = either (lacks_by l p mbps t) (lack_at-append ps qs l mbps t)
  where
    either : (b : Bool) → lack_at l (ps ++ qs) mbps t ≡ or_else (lack_at l ps mbps t) (lack_at l qs mbps t)
        → cond b (Some (lack_of p (l p.flow p.stp t) t)) (lack_at l (ps ++ qs) mbps t) ≡ or_else (cond b (Some (lack_of p (l p.flow p.stp t) t)) (lack_at l ps mbps t)) (lack_at l qs mbps t)
    either true h = refl
    either false h = h

-- a lack at a second names that second
IsAt : ℕ → Option Lack → Type 0
IsAt t o = IfSome o (λ x. x.second ≡ t)

lack_is_at : (ps : List Place) (l : Flow → ℕ → ℕ → ℕ) (mbps t : ℕ) → IsAt t (lack_at l ps mbps t)
unfolding lack_at IsAt
lack_is_at [] l mbps t = tt
lack_is_at (p ∷ ps) l mbps t = either (lacks_by l p mbps t) (lack_is_at ps l mbps t)
  where
    either : (b : Bool) → IsAt t (lack_at l ps mbps t) → IsAt t (cond b (Some (lack_of p (l p.flow p.stp t) t)) (lack_at l ps mbps t))
    either true h = refl
    either false h = h

-- a lack that names this second or a later one
IsFrom : ℕ → Option Lack → Type 0
IsFrom t o = IfSome o (λ x. t ≤ x.second)

either_from : (t : ℕ) (o rest : Option Lack) → IsAt t o → IsFrom (suc t) rest → IsFrom t (or_else o rest)
unfolding IsAt IsFrom
either_from t None None h g = tt
either_from t None (Some x) h g = omega (arith, g)
either_from t (Some x) rest h g = omega (arith, h)

first_is_from : (found : ℕ → Option Lack) → ((t : ℕ) → IsAt t (found t)) → (n t : ℕ) → IsFrom t (first_from found n t)
unfolding first_from IsFrom
first_is_from found h zero t = tt
first_is_from found h (suc n) t = either_from t (found t) (first_from found n (suc t)) (h t) (first_is_from found h n (suc t))

sooner_first : (a b : Lack) → a.second ≤ b.second → sooner (Some a) (Some b) ≡ Some a
sooner_first a b h = let e : leb a.second b.second ≡ true = grind (arith, nat_tests) in ap (λ c. cond c (Some a) (Some b)) e

sooner_second : (a b : Lack) → b.second < a.second → sooner (Some a) (Some b) ≡ Some b
sooner_second a b h = let e : leb a.second b.second ≡ false = grind (arith, nat_tests) in ap (λ c. cond c (Some a) (Some b)) e

-- one second more in front of both searches
sooner_step : (t : ℕ) (o p r s : Option Lack) → IsAt t o → IsAt t p → IsFrom (suc t) r → IsFrom (suc t) s → or_else (or_else o p) (sooner r s) ≡ sooner (or_else o r) (or_else p s)
unfolding IsAt IsFrom
sooner_step t None None r s o p q w = refl
sooner_step t None (Some y) None s o p q w = refl
sooner_step t None (Some y) (Some x) s o p q w = sym (sooner_second x y (omega (arith, p, q)))
sooner_step t (Some x) None r None o p q w = refl
sooner_step t (Some x) None r (Some y) o p q w = sym (sooner_first x y (omega (arith, o, w)))
sooner_step t (Some x) (Some y) r s o p q w = sym (sooner_first x y (omega (arith, o, p)))

either_first : (f g h : ℕ → Option Lack) → ((t : ℕ) → h t ≡ or_else (f t) (g t)) → ((t : ℕ) → IsAt t (f t)) → ((t : ℕ) → IsAt t (g t)) → (n t : ℕ)
    → first_from h n t ≡ sooner (first_from f n t) (first_from g n t)
unfolding first_from
either_first f g h e p q zero t = refl
either_first f g h e p q (suc n) t =
    ap (λ o. or_else o (first_from h n (suc t))) (e t) ∙ ap (λ r. or_else (or_else (f t) (g t)) r) (either_first f g h e p q n (suc t))
    ∙ sooner_step t (f t) (g t) (first_from f n (suc t)) (first_from g n (suc t)) (p t) (q t) (first_is_from f p n (suc t)) (first_is_from g q n (suc t))

-- the first lack of places joined
pub first_lack_by-append : (ps qs : List Place) (l : Flow → ℕ → ℕ → ℕ) (span : Span) (mbps : ℕ)
    → first_lack_by l (ps ++ qs) span mbps ≡ sooner (first_lack_by l ps span mbps) (first_lack_by l qs span mbps)
unfolding first_lack_by
first_lack_by-append ps qs l span mbps =
    either_first (lack_at l ps mbps) (lack_at l qs mbps) (lack_at l (ps ++ qs) mbps) (lack_at-append ps qs l mbps) (lack_is_at ps l mbps) (lack_is_at qs l mbps) (span.end - span.start) span.start

pub first_lack_by-three : (ps qs rs : List Place) (l : Flow → ℕ → ℕ → ℕ) (span : Span) (mbps : ℕ)
    → first_lack_by l (ps ++ (qs ++ rs)) span mbps ≡ sooner (first_lack_by l ps span mbps) (sooner (first_lack_by l qs span mbps) (first_lack_by l rs span mbps))
first_lack_by-three ps qs rs l span mbps = first_lack_by-append ps (qs ++ rs) l span mbps ∙ ap (sooner (first_lack_by l ps span mbps)) (first_lack_by-append qs rs l span mbps)
