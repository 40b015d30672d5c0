-- What messages are worth together.
use Rattle.std.proofs.Common.{ℕ, ◌+◌, ◌≤◌, ◌≡◌, ◌∙◌, Bool, false, List, [], ◌∷◌, ◌++◌, refl, ap, arith}
use Rattle.std.specs.List.{sum_by}
use Rattle.std.proofs.lemmas.List.Elements.{filter-append}
use Rattle.std.proofs.lemmas.List.Sums.{sum_by-append}
use Rattle.nsi_primitive.specs.Messages.{is_request}
use Rattle.nsi_primitive.specs.declared.message.Message.{Message}
use Rattle.connection_record.specs.declared.moves.Reply.{Reply}
use Rattle.connection_record.specs.Replies.{addressed}
use Rattle.connection_record.specs.Speaking.{one, tally, is_asking, asks_for}
use Rattle.request_worth.specs.Worth.{asks, requests_of, worth_of}

none_of : (b : Bool) → one b ≡ 0 → b ≡ false
none_of b e = grind (arith, e)

module _ (fee : Message → ℕ) where
  pub worth_none : worth_of fee [] ≡ 0
  worth_none = refl

  pub worth_append : (xs ys : List Message) → worth_of fee (xs ++ ys) ≡ worth_of fee xs + worth_of fee ys
  worth_append xs ys = ap (sum_by fee) (filter-append asks xs ys) ∙ sum_by-append fee (requests_of xs) (requests_of ys)

  pub worth_few : (m : Message) → worth_of fee (m ∷ []) ≤ fee m
  worth_few m = by (is_request m.body) refl
    where
      by : (b : Bool) → is_request m.body ≡ b → worth_of fee (m ∷ []) ≤ fee m
      by b e = grind (arith, e)

  pub worth_other : (m : Message) → is_request m.body ≡ false → worth_of fee (m ∷ []) ≡ 0
  worth_other m e = rw e refl

  -- replies to an owner, of which none asks
  pub addressed_worth : (name owner : List ℕ) (out : List Reply) → tally asks_for out ≡ 0 → worth_of fee (addressed name owner out) ≡ 0
  unfolding tally is_asking
  addressed_worth name owner [] e = refl
  addressed_worth name owner (x ∷ xs) e =
      let m : Message = record { header = record { correlation = x.correlation; requester = owner; provider = name }; body = x.body } in
      omega (
        arith,
        worth_append (m ∷ []) (addressed name owner xs),
        worth_other m (none_of (is_request x.body) (omega (arith, e))),
        addressed_worth name owner xs (omega (arith, e)),
      )
