-- What of a run is one.
use Rattle.std.proofs.Common.{ℕ, ◌+◌, ◌≤◌, ◌≡◌, ◌∙◌, List, [], ◌∷◌, ◌++◌, length, refl, sym, ap, subst, arith, append_assoc, length-append}
use Rattle.std.specs.List.{All}
use Rattle.std.proofs.lemmas.List.{drop_at, take_at}
use Rattle.std.proofs.lemmas.List.Elements.{All-drop, All-head, All-take}
use Rattle.nsi_primitive.specs.Ranges.{IsRangedEvent}
use Rattle.nsi_primitive.specs.declared.entry.Event.{Event}
use Rattle.nsi_world.specs.Worlds.{Homes, World, empty}
use Rattle.nsi_world.specs.Runs.{AreAllowed, IsRun, asks_in, asks_of, happens}
use Rattle.trace_verify.proofs.Extending.{HasLast, cut, run_last}

allowed_front : (homes : Homes) (w : World) (xs ys : List Event) → AreAllowed homes w (xs ++ ys) → AreAllowed homes w xs
unfolding AreAllowed
allowed_front homes w [] ys are = tt
allowed_front homes w (x ∷ xs) ys are = (are.0, allowed_front homes (happens w x) xs ys are.1)

asks_append : (xs ys : List Event) → asks_of (xs ++ ys) ≡ asks_of xs ++ asks_of ys
unfolding asks_of
asks_append [] ys = refl
asks_append (x ∷ xs) ys = ap (λ zs. asks_in x.agent x.what ++ zs) (asks_append xs ys) ∙ sym (append_assoc (asks_in x.agent x.what) (asks_of xs) (asks_of ys))

run_front : (homes : Homes) (xs ys : List Event) → IsRun homes (xs ++ ys) → IsRun homes xs
run_front homes xs ys run =
    let numbers = cut 0 (asks_of xs) (asks_of ys) run.wishes (sym (asks_append xs ys) ∙ run.asked) in
    record { allowed = allowed_front homes empty xs ys run.allowed; wishes = numbers.first; asked = numbers.front }

front_and_next : {X : Type 0} (xs ys : List X) (x : X) → xs ++ x ∷ ys ≡ (xs ++ x ∷ []) ++ ys
front_and_next xs ys x = sym (append_assoc xs (x ∷ []) ys)

-- an event of a run, and the events before it
pub record IsWithin (homes : Homes) (most : ℕ) (xs : List Event) (x : Event) : Type 0 where
  pub last : HasLast homes xs x
  pub few : length (asks_of xs) ≤ most
  pub few_with : length (asks_of (xs ++ x ∷ [])) ≤ most
  pub ranged_front : All IsRangedEvent xs
  pub ranged : IsRangedEvent x

pub within : (homes : Homes) (most : ℕ) (xs ys : List Event) (x : Event) → IsRun homes (xs ++ x ∷ ys) → All IsRangedEvent (xs ++ x ∷ ys) → length (asks_of (xs ++ x ∷ ys)) ≤ most → IsWithin homes most xs x
within homes most xs ys x run ranged few =
    let whole = front_and_next xs ys x in
    let front = run_front homes (xs ++ x ∷ []) ys (subst (IsRun homes) whole run) in
    let all : length (asks_of (xs ++ x ∷ ys)) ≡ length (asks_of (xs ++ x ∷ [])) + length (asks_of ys) =
    ap (λ zs. length (asks_of zs)) whole ∙ (ap length (asks_append (xs ++ x ∷ []) ys) ∙ length-append (asks_of (xs ++ x ∷ [])) (asks_of ys)) in
    let one : length (asks_of (xs ++ x ∷ [])) ≡ length (asks_of xs) + length (asks_of (x ∷ [])) = ap length (asks_append xs (x ∷ [])) ∙ length-append (asks_of xs) (asks_of (x ∷ [])) in
    record {
      last = run_last homes xs x front;
      few = omega (arith, few, all, one);
      few_with = omega (arith, few, all);
      ranged_front = subst (All IsRangedEvent) (take_at xs (x ∷ ys) (length xs) refl) (All-take IsRangedEvent (length xs) (xs ++ x ∷ ys) ranged);
      ranged = All-head IsRangedEvent x ys (subst (All IsRangedEvent) (drop_at xs (x ∷ ys) (length xs) refl) (All-drop IsRangedEvent (length xs) (xs ++ x ∷ ys) ranged));
    }
