-- What is known of an agent's records by what it has said: nothing is said or owed under a header that wasn't taken, and ids are apart.
use Rattle.std.proofs.Common.{ℕ, zero, suc, ◌≤◌, ◌<◌, ◌≡◌, ◌⊎◌, inl, inr, ◌∙◌, Bool, true, false, List, [], ◌∷◌, ◌==◌, ◌&&◌, refl, sym, ap, arith, length, bytes_eq, eq-eqb, nat_lt}
use Rattle.std.specs.List.{Contains}
use Rattle.std.proofs.lemmas.Bool.{cases_lt}
use Rattle.std.proofs.lemmas.List.Sums.{sum_by-cons}
use Rattle.std.proofs.lemmas.Slice.Eq.{bytes_eq-Decides}
use Rattle.nsi_primitive.specs.Ids.{id_of}
use Rattle.nsi_primitive.specs.declared.kind.Kind.{Kind}
use Rattle.nsi_primitive.specs.declared.message.Header.{Header}
use Rattle.nsi_primitive.specs.declared.message.Message.{Message}
use Rattle.nsi_primitive.specs.declared.state.Rsm.{Rsm}
use Rattle.nsi_primitive.specs.Kinds.{kind_number}
use Rattle.message_retry.specs.Taken.{is_taken}
use Rattle.connection_record.specs.declared.record.Record.{Record}
use Rattle.connection_record.specs.Replies.{id_or}
use Rattle.connection_record.specs.Speaking.{one, tally, owed_reserve, owed_provision, owed_life, owed}
use Rattle.agent_state.specs.State.{AgentState, record_at, no_record}
use Rattle.nsi_agent.specs.Told.{told}
use Rattle.nsi_agent.specs.Said.{name_in, drawer_of}
use Rattle.agent_speech.specs.Owing.{answers_to, is_drawn, times, owed_under, owed_by, has_id, before, took, HasSaidOnce}
use Rattle.agent_speech.specs.Laws.{header_to, records_after, IdsAreApart, NothingUnasked, HoldsWereAsked}
use Rattle.agent_speech.proofs.Measures.{same_bytes}
use Rattle.agent_speech.proofs.Counting.{tally_in}
use Rattle.agent_speech.proofs.Every.{nothing_is_said_twice}

one_most : (b : Bool) → one b ≤ 1
one_most b = grind arith

none_owed : (c n : ℕ) → owed c n no_record ≡ 0
unfolding owed owed_reserve owed_provision owed_life
none_owed c n = refl

beyond_all : (rs : List Record) (n : ℕ) → length rs ≤ n → record_at n rs ≡ no_record
beyond_all [] n l = refl
beyond_all (r ∷ rs) zero l = absurd (omega (arith, l))
beyond_all (r ∷ rs) (suc n) l = beyond_all rs n (omega (arith, l))

owed_at : (name : List ℕ) (h : Header) (k : ℕ) (rs : List Record) (n : ℕ) → n < length rs → owed_under name h k (record_at n rs) ≤ owed_by name h k rs
unfolding owed_by
owed_at name h k [] n l = absurd (omega (arith, l))
owed_at name h k (r ∷ rs) zero l = omega (arith, sum_by-cons (owed_under name h k) r rs)
owed_at name h k (r ∷ rs) (suc n) l = omega (arith, sum_by-cons (owed_under name h k) r rs, owed_at name h k rs n (omega (arith, l)))

own_owed : (parent name : List ℕ) (c k : ℕ) (r : Record) → r.owner ≡ parent → owed_under name (header_to parent name c) k r ≡ owed c k r
unfolding owed_under
own_owed parent name c k r e = by (bytes_eq parent r.owner) (bytes_eq name name) ((bytes_eq-Decides parent r.owner).1 (sym e)) (same_bytes name)
  where
    by : (a b : Bool) → a ≡ true → b ≡ true → times (a && b) (owed c k r) ≡ owed c k r
    by true true p q = refl
    by true false p q = absurd (cc)
    by false b p q = absurd (cc)

passes_at : (p : Record → Bool) (rs : List Record) (n : ℕ) → n < length rs → p (record_at n rs) ≡ true → 1 ≤ tally p rs
unfolding tally
passes_at p [] n l a = absurd (omega (arith, l))
passes_at p (r ∷ rs) zero l a = omega (arith, ap one a)
passes_at p (r ∷ rs) (suc n) l a = omega (arith, passes_at p rs n (omega (arith, l)) a)

-- two records that pass are at one place, where one passes at most
apart_at : (p : Record → Bool) (rs : List Record) (n k : ℕ) → n < length rs → k < length rs → p (record_at n rs) ≡ true → p (record_at k rs) ≡ true → tally p rs ≤ 1 → n ≡ k
unfolding tally
apart_at p [] n k l m a b h = absurd (omega (arith, l))
apart_at p (r ∷ rs) zero zero l m a b h = refl
apart_at p (r ∷ rs) zero (suc k) l m a b h = absurd (omega (arith, h, ap one a, passes_at p rs k (omega (arith, m)) b))
apart_at p (r ∷ rs) (suc n) zero l m a b h = absurd (omega (arith, h, ap one b, passes_at p rs n (omega (arith, l)) a))
apart_at p (r ∷ rs) (suc n) (suc k) l m a b h = ap suc (apart_at p rs n k (omega (arith, l)) (omega (arith, m)) a b (omega (arith, h)))

held_owes : (c : ℕ) (r : Record) → r.rsm ≡ Rsm.ReserveHeld → id_or r.attempt ≡ c → 1 ≤ owed c (kind_number Kind.ReserveTimeout) r
unfolding owed owed_reserve kind_number
held_owes c r e f = let k : (c == id_or r.attempt) ≡ true = eq-eqb c (id_or r.attempt) (sym f) in grind (arith, e, k)

module _ (name : List ℕ) (number : ℕ) (s : AgentState) (out : List Message) (once : HasSaidOnce name number s out) where
  -- nothing was said under a header that wasn't taken, and nothing is owed under it
  pub unsaid : (h : Header) (n : ℕ) → is_taken h s.base.seen ≡ false → (tally (answers_to h n) out ≡ 0) × (owed_by name h n s.base.records ≡ 0)
  unfolding took
  unsaid h n u = (omega (arith, once.answers h n, ap one u), omega (arith, once.answers h n, ap one u))

  -- so no record of the parent owes anything under it
  pub unowed : (parent : List ℕ) (c n k : ℕ) → is_taken (header_to parent name c) s.base.seen ≡ false → (record_at n s.base.records).owner ≡ parent → owed c k (record_at n s.base.records) ≡ 0
  unowed parent c n k u o = by (cases_lt n (length s.base.records))
    where
      by : (n < length s.base.records) ⊎ (length s.base.records ≤ n) → owed c k (record_at n s.base.records) ≡ 0
      by (inl l) =
          omega (
            arith,
            owed_at name (header_to parent name c) k s.base.records n l,
            (unsaid (header_to parent name c) k u).1,
            own_owed parent name c k (record_at n s.base.records) o,
          )
      by (inr l) = ap (owed c k) (beyond_all s.base.records n l) ∙ none_owed c k

  -- what is held was reserved by a request that was taken
  pub held_taken : (parent : List ℕ) (n : ℕ) → (record_at n s.base.records).owner ≡ parent → (record_at n s.base.records).rsm ≡ Rsm.ReserveHeld →
      is_taken (header_to parent name (id_or (record_at n s.base.records).attempt)) s.base.seen ≡ true
  held_taken parent n o e = by (is_taken (header_to parent name c) s.base.seen) refl
    where
      c : ℕ
      c = id_or (record_at n s.base.records).attempt

      by : (b : Bool) → is_taken (header_to parent name c) s.base.seen ≡ b → b ≡ true
      by true u = refl
      by false u = absurd (omega (arith, unowed parent c n (kind_number Kind.ReserveTimeout) u o, held_owes c (record_at n s.base.records) e refl))

  -- no two records have one id
  pub ids_apart : (n k : ℕ) → n < length s.base.records → k < length s.base.records → (record_at k s.base.records).id ≡ (record_at n s.base.records).id → n ≡ k
  unfolding before
  ids_apart n k l m e =
      let c : ℕ = (record_at n s.base.records).id in
      apart_at (has_id c) s.base.records n k l m (eq-eqb c c refl) (eq-eqb c (record_at k s.base.records).id (sym e))
      (omega (arith, once.drawn c, one_most (nat_lt c (id_of number s.base.next))))

  -- nor a message and a record
  pub id_undrawn : (n : ℕ) (m : Message) → n < length s.base.records → Contains out m → is_drawn (record_at n s.base.records).id m ≡ true → ⊥
  unfolding before
  id_undrawn n m l c e =
      let d : ℕ = (record_at n s.base.records).id in
      absurd
      (omega (
        arith,
        once.drawn d,
        one_most (nat_lt d (id_of number s.base.next)),
        tally_in (is_drawn d) m out c e,
        passes_at (has_id d) s.base.records n l (eq-eqb d d refl),
      ))

---- The laws

pub ids_are_apart : IdsAreApart
ids_are_apart h es n k l m e = ids_apart (name_in h.role) (drawer_of h.role) (told h es).state (told h es).out (nothing_is_said_twice h es) n k l m e

pub nothing_unasked : NothingUnasked
nothing_unasked h es requester c u =
    let once : HasSaidOnce (name_in h.role) (drawer_of h.role) (told h es).state (told h es).out = nothing_is_said_twice h es in (
      λ kind. (unsaid (name_in h.role) (drawer_of h.role) (told h es).state (told h es).out once (header_to requester (name_in h.role) c) kind u).0,
      λ n kind o. unowed (name_in h.role) (drawer_of h.role) (told h es).state (told h es).out once requester c n kind u o,
    )

pub holds_were_asked : HoldsWereAsked
holds_were_asked h es n e =
    held_taken (name_in h.role) (drawer_of h.role) (told h es).state (told h es).out (nothing_is_said_twice h es) (record_at n (records_after h es)).owner n refl e
