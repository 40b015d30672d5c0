-- One line, against how the command will end.
use Rattle.std.proofs.Common.{◌≡◌, ℕ, ◌+◌, List, [], ◌∷◌, ◌++◌, Bool, Option, Some, None, refl, sym, ap, ◌∙◌, subst, append_assoc, append-nil}
use Rattle.line_reader.specs.Held.{Held, budget, to_come}
use Rattle.stp_topology.specs.declared.network.Network.{Network}
use Rattle.stp_topology.specs.Network.{nothing}
use Rattle.line_reader.specs.Given.{Given, given_of, with_line, TakesLine, IsAtEnd}
use Rattle.provide_command.specs.declared.status.Ending.{Ending}
use Rattle.provide_command.specs.declared.status.Status.{Status}
use Rattle.provide_command.specs.Phases.{Reading, Phase, in_topology, Step, goes_to, ends_as}
use Rattle.provide_command.specs.Outcome.{move_of, last_of, behind, outcome, status_of, with_status}
use Rattle.nsi_base.specs.Range.{greatest_input}
use Rattle.provide_command.specs.Promise.{Writes, behind_content, promised, promised_after, ended, IsSameEnd, IsKept, promise_of}

-- the outcome of a line and those behind it
pub of_line : (read : Reading) (long : Bool) (number : ℕ) (phase : Phase) (line : List ℕ) (lines : List (List ℕ))
    → outcome read long number phase (line ∷ lines) ≡ behind (move_of read number phase line).text (move_of read number phase line).step (λ p. outcome read long (number + 1) p lines)
unfolding outcome
of_line read long number phase line lines = refl

pub of_end : (read : Reading) (long : Bool) (number : ℕ) (phase : Phase) → outcome read long number phase [] ≡ with_status (last_of long number phase)
unfolding outcome
of_end read long number phase = refl

-- the line's text comes first
pub behind_text : (text : List ℕ) (step : Step) (next : Phase → Status × List ℕ) → (rest : List ℕ) × ((behind text step next).1 ≡ text ++ rest)
behind_text text (ends_as e) next = ([], sym (append-nil text))
behind_text text (goes_to p) next = ((next p).1, refl)

whole : (read : Reading) (number : ℕ) (phase : Phase) (line text : List ℕ) (step : Step) (g rest : Given) → g ≡ with_line line rest → text ≡ (move_of read number phase line).text → step ≡ (move_of read number phase line).step
    → outcome read g.long number phase g.lines ≡ behind text step (λ p. outcome read rest.long (number + 1) p rest.lines)
whole read number phase line text step g rest e x s =
    ap (λ (h : Given). outcome read h.long number phase h.lines) e
    ∙ (of_line read rest.long number phase line rest.lines
    ∙ (ap (λ y. behind y (move_of read number phase line).step (λ p. outcome read rest.long (number + 1) p rest.lines)) (sym x)
    ∙ ap (λ y. behind text y (λ p. outcome read rest.long (number + 1) p rest.lines)) (sym s)))

pub line_step : (read : Reading) (number : ℕ) (phase : Phase) (line text : List ℕ) (step : Step) (content after : Option (List ℕ)) (old new : Option Given) → TakesLine old new line
    → text ≡ (move_of read number phase line).text → step ≡ (move_of read number phase line).step → Writes content after text
    → IsSameEnd (promised read number phase content old) (promised_after read (number + 1) step after new)
line_step read number phase line text step None after old new t x s w = tt
line_step read number phase line text step (Some c) after None new t x s w = tt
line_step read number phase line text (ends_as e) (Some c) after (Some g) new t x s w =
    ap (ended e) w
    ∙ ap (λ o. Some (behind_content c o)) (sym (whole read number phase line text (ends_as e) g t.0 t.2 x s))
line_step read number phase line text (goes_to p) (Some c) after (Some g) new t x s w =
    ap (λ a. promised read (number + 1) p a new) w
    ∙ (ap (promised read (number + 1) p (Some (c ++ text))) t.1
    ∙ (ap (λ z. Some ((outcome read t.0.long (number + 1) p t.0.lines).0, z)) (append_assoc c text (outcome read t.0.long (number + 1) p t.0.lines).1)
    ∙ ap (λ o. Some (behind_content c o)) (sym (whole read number phase line text (goes_to p) g t.0 t.2 x s))))

-- at the end of the lines
last_is : (read : Reading) (number : ℕ) (phase : Phase) (g : Given) (long : Bool) → g ≡ record { lines = []; long = long } → outcome read g.long number phase g.lines ≡ with_status (last_of long number phase)
last_is read number phase g long e = ap (λ (h : Given). outcome read h.long number phase h.lines) e ∙ of_end read long number phase

pub end_step : (read : Reading) (number : ℕ) (phase : Phase) (long : Bool) (end : Ending × List ℕ) (content after : Option (List ℕ)) (old : Option Given) → IsAtEnd old long → end ≡ last_of long number phase → Writes content after end.1
    → IsSameEnd (promised read number phase content old) (ended end.0 after)
end_step read number phase long end None after old t e w = tt
end_step read number phase long end (Some c) after None t e w = tt
end_step read number phase long end (Some c) after (Some g) t e w =
    ap (ended end.0) w ∙ ap (λ o. Some (behind_content c o)) (ap with_status e ∙ sym (last_is read number phase g long t))

-- a step that ends
pub step_along : (read : Reading) (number : ℕ) (step : Step) (ending : Ending) (promise : Option (Status × List ℕ)) (content : Option (List ℕ)) (given : Option Given) → step ≡ ends_as ending → IsSameEnd promise (ended ending content)
    → IsSameEnd promise (promised_after read (number + 1) step content given)
step_along read number step ending promise content given e s = let P : Step → Type 0 = λ x. IsSameEnd promise (promised_after read (number + 1) x content given) in subst P (sym e) s

-- along what doesn't change
pub same_along : (a b c : Option (Status × List ℕ)) → IsSameEnd a b → IsSameEnd b c → IsSameEnd a c
same_along None b c s f = tt
same_along (Some e) b c s f = let P : Option (Status × List ℕ) → Type 0 = λ o. IsSameEnd o c in subst P s f

-- the command ended as was promised
pub is_kept : (promise : Option (Status × List ℕ)) (ending : Ending) (status : Status) (content : Option (List ℕ)) → IsSameEnd promise (ended ending content) → status ≡ status_of ending → IsKept promise status content
is_kept None ending status content s e = tt
is_kept (Some p) ending status None s e = cc
is_kept (Some p) ending status (Some c) s e = (e ∙ first s, ap (λ x. Some x) (second s))
  where
    first : {x y : Status × List ℕ} → Some x ≡ Some y → x.0 ≡ y.0
    first h = cc

    second : {x y : Status × List ℕ} → Some x ≡ Some y → x.1 ≡ y.1
    second h = cc

-- at the start nothing is promised but what the whole input makes
pub same_start : (read : Reading) (held : Held) (t : Network) (most : ℕ) (content left : Option (List ℕ)) → held ≡ record { bytes = []; room = greatest_input } → t ≡ nothing
    → IsSameEnd (promise_of read most content left) (promised read 1 (in_topology (record { topology = t; most = most })) content (to_come held left))
unfolding to_come
same_start read held t most None left h n = tt
same_start read held t most (Some c) None h n = tt
same_start read held t most (Some c) (Some bytes) h n =
    ap (λ (x : Held). promised read 1 (in_topology (record { topology = t; most = most })) (Some c) (Some (given_of (budget x) (x.bytes ++ bytes)))) h
    ∙ ap (λ x. promised read 1 (in_topology (record { topology = x; most = most })) (Some c) (Some (given_of greatest_input bytes))) n
