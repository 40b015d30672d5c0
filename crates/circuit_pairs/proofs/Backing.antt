-- The committed versions of a view stay backed, each by a commit of its own.
use Rattle.std.proofs.Common.{ℕ, ◌≡◌, ◌≤◌, ◌<◌, ◌∙◌, ◌⊎◌, inl, inr, List, [], ◌∷◌, ◌++◌, Contains, Some, None, length, get_or, length-append, sym, ap, subst, arith}
use Rattle.std.proofs.lemmas.Bool.{cases_lt}
use Rattle.std.proofs.lemmas.List.{get_or_append_left, get_or_push}
use Rattle.nsi_primitive.specs.declared.kind.Kind.{Kind}
use Rattle.nsi_primitive.specs.declared.message.Body.{Body}
use Rattle.nsi_primitive.specs.declared.message.Message.{Message}
use Rattle.child_connection.specs.Views.{ChildConnection, sent}
use Rattle.child_connection.specs.declared.Sent.{Sent}
use Rattle.circuit_link.specs.Children.{Child, about}
use Rattle.circuit_link.specs.Headers.{header_of}
use Rattle.circuit_link.proofs.Answering.{not_there}
use Rattle.circuit_pairs.specs.Pairs.{IsBacked, AreBacked}

-- where nothing is committed
pub none_backed : (parent child : List ℕ) (x : ChildConnection) (asked : List Message) (d : Child) → x.committed ≡ [] → AreBacked parent child x asked d
none_backed parent child x asked d e =
    record {
      own = [];
      long = ap length (sym e);
      each = λ n l. absurd (omega (arith, l));
      apart = λ n k l. absurd (omega (arith, l));
      answered = λ c k r n l. absurd (omega (arith, l));
    }

module _ (parent child : List ℕ) (x y : ChildConnection) (asked more : List Message) (d e : Child) (connected : (id : ℕ) → x.connection ≡ Some id → y.connection ≡ Some id)
    (asks_on : (m : Message) → Contains asked m → Contains more m) (says_on : (c : ℕ) (b : Body) → Contains (about (header_of parent child c) d.said) b → Contains (about (header_of parent child c) e.said) b) where
  backed_on : (c : ℕ) → IsBacked parent child x c asked d → IsBacked parent child y c more e
  backed_on c b =
      record {
        connection = b.connection;
        known = connected b.connection b.known;
        commit = record { message = b.commit.message; there = asks_on b.commit.message b.commit.there; header = b.commit.header; is = b.commit.is };
        id = b.id;
        confirmed = says_on c (Body.ReserveCommitConfirmed b.id) b.confirmed;
      }

  -- as many versions as before, where nothing is asked, or what was never answered
  pub backed_still : y.committed ≡ x.committed → ((c : ℕ) (k : Kind) → y.reserve_request ≡ Some (sent c k) → (x.reserve_request ≡ Some (sent c k)) ⊎ (about (header_of parent child c) d.said ≡ [])) → AreBacked parent child x asked d →
      AreBacked parent child y more e
  backed_still same waits h =
      record {
        own = h.own;
        long = h.long ∙ ap length (sym same);
        each = λ n l. backed_on (get_or h.own n 0) (h.each n l);
        apart = h.apart;
        answered = λ c k r n l q. elim (waits c k r) [
          | inl o ↦ h.answered c k o n l q
          | inr z ↦ not_there (about (header_of parent child c) d.said) (Body.ReserveCommitConfirmed (h.each n l).id) z
              (subst (λ (i : ℕ). Contains (about (header_of parent child i) d.said) (Body.ReserveCommitConfirmed (h.each n l).id)) q (h.each n l).confirmed)
        ];
      }

  -- the commit that was unanswered backs one more
  pub backed_more : (v c : ℕ) → y.committed ≡ x.committed ++ v ∷ [] → x.reserve_request ≡ Some (sent c Kind.ReserveCommit) → y.reserve_request ≡ None → IsBacked parent child x c asked d → AreBacked parent child x asked d →
      AreBacked parent child y more e
  backed_more v c longer waits closed b h =
      record {
        own = h.own ++ c ∷ [];
        long = omega (arith, length-append h.own (c ∷ []), length-append x.committed (v ∷ []), h.long, ap length longer);
        each = λ n l. backed_on (get_or (h.own ++ c ∷ []) n 0) (each n (cases_lt n (length h.own)) l);
        apart = λ n k l m q. apart n k l m q (cases_lt n (length h.own)) (cases_lt k (length h.own));
        answered = λ i k r. absurd (clash (sent i k) (sym closed ∙ r));
      }
    where
      clash : (q : Sent) → None ≡ Some q → ⊥
      clash q i = cc

      is_last : (n : ℕ) → n < length (h.own ++ c ∷ []) → length h.own ≤ n → n ≡ length h.own
      is_last n l m = omega (arith, l, m, length-append h.own (c ∷ []))

      at_last : (n : ℕ) → n ≡ length h.own → get_or (h.own ++ c ∷ []) n 0 ≡ c
      at_last n q = get_or_push h.own c 0 n (sym q)

      at_first : (n : ℕ) → n < length h.own → get_or (h.own ++ c ∷ []) n 0 ≡ get_or h.own n 0
      at_first n l = get_or_append_left h.own (c ∷ []) 0 n l

      each : (n : ℕ) → (n < length h.own) ⊎ (length h.own ≤ n) → n < length (h.own ++ c ∷ []) → IsBacked parent child x (get_or (h.own ++ c ∷ []) n 0) asked d
      each n (inl l) m = subst (λ (i : ℕ). IsBacked parent child x i asked d) (sym (at_first n l)) (h.each n l)
      each n (inr l) m = subst (λ (i : ℕ). IsBacked parent child x i asked d) (sym (at_last n (is_last n m l))) b

      apart : (n k : ℕ) → n < length (h.own ++ c ∷ []) → k < length (h.own ++ c ∷ []) → get_or (h.own ++ c ∷ []) n 0 ≡ get_or (h.own ++ c ∷ []) k 0 → (n < length h.own) ⊎ (length h.own ≤ n) → (k < length h.own) ⊎ (length h.own ≤ k) →
          n ≡ k
      apart n k l m q (inl a) (inl b) = h.apart n k a b (sym (at_first n a) ∙ (q ∙ at_first k b))
      apart n k l m q (inl a) (inr b) = absurd (h.answered c Kind.ReserveCommit waits n a (sym (at_first n a) ∙ (q ∙ at_last k (is_last k m b))))
      apart n k l m q (inr a) (inl b) = absurd (h.answered c Kind.ReserveCommit waits k b (sym (at_first k b) ∙ (sym q ∙ at_last n (is_last n l a))))
      apart n k l m q (inr a) (inr b) = is_last n l a ∙ sym (is_last k m b)
