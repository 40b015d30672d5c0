-- The first connection that messages name.
use Rattle.std.proofs.Common.{◌≡◌, ◌∙◌, ◌<◌, ◌+◌, ℕ, suc, List, [], ◌∷◌, length, Option, Some, None, sym, ap, arith, get_or, drop, drop-cons}
use Rattle.nsi_primitive.specs.Messages.{named_connection}
use Rattle.nsi_primitive.specs.declared.message.Message.{Message}
use Rattle.sole_requester.specs.Sole.{or_that, first_named}

-- what stands first names it, or what is behind
named_then : (ms : List Message) (n : ℕ) (m : Message) (o : Option ℕ) → n < length ms → m ≡ get_or ms n m → named_connection m.body ≡ o → first_named (drop n ms) ≡ or_that o (first_named (drop (n + 1) ms))
unfolding first_named
named_then ms n m o within is named =
    ap first_named (drop-cons ms n m within ∙ (λ i. sym is i ∷ drop (add_one_is n i) ms)) ∙ ap (λ p. or_that p (first_named (drop (n + 1) ms))) named
  where
    add_one_is : (n : ℕ) → suc n ≡ n + 1
    add_one_is n = omega arith

pub named_behind : (ms : List Message) (n : ℕ) (m : Message) → n < length ms → m ≡ get_or ms n m → named_connection m.body ≡ None → first_named ms ≡ first_named (drop n ms) → first_named ms ≡ first_named (drop (n + 1) ms)
named_behind ms n m within is none h = h ∙ named_then ms n m None within is none

pub named_here : (ms : List Message) (n id : ℕ) (m : Message) → n < length ms → m ≡ get_or ms n m → named_connection m.body ≡ Some id → first_named ms ≡ first_named (drop n ms) → Some id ≡ first_named ms
named_here ms n id m within is named h = sym (h ∙ named_then ms n m (Some id) within is named)

pub named_nowhere : (ms rest : List Message) → rest ≡ [] → first_named ms ≡ first_named rest → None ≡ first_named ms
unfolding first_named
named_nowhere ms rest none h = sym (h ∙ ap first_named none)
