-- What an aggregator says besides its requests to children: none of it asks a child for a reservation.
use Rattle.std.proofs.Common.{ℕ, ◌≡◌, Bool, true, false, List, [], ◌∷◌, ◌++◌, Contains, inl, inr, refl, sym, ap, ◌∙◌, arith, true≢false}
use Rattle.std.proofs.lemmas.List.Elements.{Contains-append_cases}
use Rattle.nsi_primitive.specs.Messages.{kind_of, is_request}
use Rattle.nsi_primitive.specs.declared.kind.ErrorName.{ErrorName}
use Rattle.nsi_primitive.specs.declared.message.Body.{Body}
use Rattle.nsi_primitive.specs.declared.message.Message.{Message}
use Rattle.record_index.proofs.Members.{nothing_in, contains_first}
use Rattle.child_connection.specs.Holding.{is_reservation}
use Rattle.connection_record.specs.declared.record.Record.{Record}
use Rattle.connection_record.specs.declared.moves.Reply.{Reply}
use Rattle.connection_record.specs.Courses.{Course}
use Rattle.connection_record.specs.Replies.{addressed}
use Rattle.connection_record.specs.Speaking.{one, tally, is_asking, asks_for}
use Rattle.connection_record.proofs.Saying.{tally_append}
use Rattle.agent_state.specs.Entries.{error_reply}
use Rattle.circuit_pairs.specs.Minding.{ReservesNothing}
use Rattle.circuit_pairs.proofs.Refusing.{reserving_asks}

pub none_reserves : (child : List ℕ) → ReservesNothing child []
none_reserves child m i = absurd (nothing_in m i)

pub both_reserve : (child : List ℕ) (xs ys : List Message) → ReservesNothing child xs → ReservesNothing child ys → ReservesNothing child (xs ++ ys)
both_reserve child xs ys a b m i = elim (Contains-append_cases xs ys m i) [ inl j ↦ a m j | inr j ↦ b m j ]

none_tallied : tally asks_for [] ≡ 0
unfolding tally
none_tallied = refl

-- what a record says by itself asks for nothing
pub course_asks : (r q : Record) (out : List Reply) → Course r q out → tally asks_for out ≡ 0
course_asks _ _ _ (Course.rests r) = none_tallied
course_asks _ _ _ (Course.does r y a) = a.speaks.asks
course_asks _ _ _ (Course.goes_on r q p xs ys zs a b m) = omega (arith, m.count asks_for, course_asks r q xs a, course_asks q p ys b)

first_none : (y : Reply) (ys : List Reply) → tally asks_for (y ∷ ys) ≡ 0 → is_asking y.body ≡ false
unfolding tally
first_none y ys e = by_test (is_asking y.body) refl
  where
    by_test : (b : Bool) → is_asking y.body ≡ b → b ≡ false
    by_test false q = refl
    by_test true q = absurd (omega (arith, e, ap one q))

rest_none : (y : Reply) (ys : List Reply) → tally asks_for (y ∷ ys) ≡ 0 → tally asks_for ys ≡ 0
unfolding tally
rest_none y ys e = omega (arith, e)

asking_is : (b : Body) → is_asking b ≡ is_request b
unfolding is_asking
asking_is b = refl

-- replies that ask for nothing
pub addressed_asks : (name owner : List ℕ) (xs : List Reply) → tally asks_for xs ≡ 0 → (m : Message) → Contains (addressed name owner xs) m → is_request m.body ≡ true → ⊥
addressed_asks name owner [] e m i r = nothing_in m i
addressed_asks name owner (y ∷ ys) e m i r = elim (contains_first here m (addressed name owner ys) i) [
  | inl q ↦ true≢false (sym r ∙ sym (asking_is m.body) ∙ ap (λ (z : Message). is_asking z.body) q ∙ first_none y ys e)
  | inr j ↦ addressed_asks name owner ys (rest_none y ys e) m j r
]
  where
    here : Message
    here = record { header = record { correlation = y.correlation; requester = owner; provider = name }; body = y.body }

pub addressed_reserves : (child name owner : List ℕ) (xs : List Reply) → tally asks_for xs ≡ 0 → ReservesNothing child (addressed name owner xs)
addressed_reserves child name owner xs e m i r p = addressed_asks name owner xs e m i (reserving_asks m r)

pub split_asks : (xs ys : List Reply) → tally asks_for (xs ++ ys) ≡ 0 → (tally asks_for xs ≡ 0) × (tally asks_for ys ≡ 0)
split_asks xs ys e = (omega (arith, tally_append asks_for xs ys, e), omega (arith, tally_append asks_for xs ys, e))

reservation_asks : (body : Body) → is_reservation (kind_of body) ≡ true → is_request body ≡ true
unfolding is_reservation
reservation_asks body e = grind (arith, e)

-- one answer
pub answer_reserves : (child : List ℕ) (m : Message) → is_request m.body ≡ false → ReservesNothing child (m ∷ [])
answer_reserves child m e n i r p = elim (contains_first m n [] i) [
  | inl q ↦ true≢false (sym (reservation_asks n.body r) ∙ ap (λ (z : Message). is_request z.body) q ∙ e)
  | inr j ↦ nothing_in n j
]

-- an error
pub error_reserves : (child name : List ℕ) (m : Message) (error : ErrorName) → ReservesNothing child (error_reply name m error ∷ [])
error_reserves child name m error = answer_reserves child (error_reply name m error) refl
