-- What a child may do without disturbing what is known of a view.
use Rattle.std.proofs.Common.{ℕ, ◌≡◌, ◌<◌, Bool, true, false, not, List, length, Contains, Option, Some, None, ◌⊎◌, inl, inr, ◌==◌, ◌&&◌, refl, sym, ap, ◌∙◌, subst, arith}
use Rattle.nsi_primitive.specs.Kinds.{kind_number}
use Rattle.nsi_primitive.specs.Messages.{named_connection}
use Rattle.nsi_primitive.specs.declared.message.Body.{Body}
use Rattle.nsi_primitive.specs.declared.message.Header.{Header}
use Rattle.nsi_primitive.specs.declared.message.Message.{Message}
use Rattle.message_retry.specs.Taken.{is_taken}
use Rattle.child_connection.specs.Views.{ChildConnection, is_open}
use Rattle.child_connection.specs.Holding.{teaches, IsHeeded}
use Rattle.connection_record.specs.declared.record.Record.{Record}
use Rattle.connection_record.specs.declared.moves.Reply.{Reply}
use Rattle.connection_record.specs.Courses.{IsAlone, IsReservationSame}
use Rattle.connection_record.specs.Speaking.{tally, is_answering, is_asking, is_noting, number_of, answers_as, misnames, owed}
use Rattle.connection_record.specs.Ids.{is_id}
use Rattle.agent_state.specs.State.{record_at}
use Rattle.circuit_link.specs.Links.{Link}
use Rattle.circuit_link.specs.Children.{Child, goes_on, about, record_of, side_of}
use Rattle.circuit_link.specs.Headers.{header_of}
use Rattle.circuit_link.specs.Mates.{IsSeatOf, is_teaching, IsSeated, IsOpening, IsOpened, IsMate}
use Rattle.circuit_link.proofs.Abouts.{about_cases, about_left}
use Rattle.circuit_link.proofs.Answering.{tally_there, counted_as, IsReplied}
use Rattle.circuit_link.proofs.Likeness.{link_like}

-- no record changes its owner or its id; under the correlations that the view listens to nothing is owed by others, and what is said of a
-- connection is said of the view's
pub record KeepsSeat (parent child : List ℕ) (x : ChildConnection) (place : Option ℕ) (d : Child) (records : List Record) (out : List Message) : Type 0 where
  pub within : (n : ℕ) → n < length d.records → n < length records
  pub owner : (n : ℕ) → n < length d.records → (record_at n records).owner ≡ (record_at n d.records).owner
  pub id : (n : ℕ) → n < length d.records → (record_at n records).id ≡ (record_at n d.records).id
  pub others : (n : ℕ) → (place ≡ Some n → ⊥) → (record_at n records).owner ≡ parent → (c : ℕ) → IsHeeded x c → (k : ℕ) → owed c k (record_at n records) ≡ 0
  pub alone : (n : ℕ) → place ≡ Some n → (c : ℕ) → IsHeeded x c → IsAlone c (record_at n d.records) → IsAlone c (record_at n records)
  pub named : (c : ℕ) (b : Body) (id : ℕ) → IsHeeded x c → Contains (about (header_of parent child c) out) b → teaches b ≡ Some id → IsSeatOf place d.records id

-- nor does the view's own record owe more, and what it says while it owes only answers that teach its id teaches it
pub record IsMild (parent child : List ℕ) (x : ChildConnection) (place : Option ℕ) (d : Child) (records : List Record) (seen : List Header) (out : List Message) : Type 0 where
  pub seat : KeepsSeat parent child x place d records out
  pub taken : (c : ℕ) → is_taken (header_of parent child c) d.seen ≡ true → is_taken (header_of parent child c) seen ≡ true
  pub owes : (n : ℕ) → place ≡ Some n → (c : ℕ) → IsHeeded x c → (k : ℕ) → owed c k (record_at n d.records) ≡ 0 → owed c k (record_at n records) ≡ 0
  pub says : (n : ℕ) → place ≡ Some n → (c : ℕ) → IsHeeded x c → ((k : ℕ) → is_teaching k ≡ false → owed c k (record_at n d.records) ≡ 0) → (b : Body) →
      Contains (about (header_of parent child c) out) b → teaches b ≡ None → ⊥

module _ (parent child : List ℕ) (x : ChildConnection) (place : Option ℕ) (d : Child) (records : List Record) (seen : List Header) (out : List Message) (v : KeepsSeat parent child x place d records out) where
  seat_after : IsSeated parent child x place d → (id : ℕ) → IsSeatOf place d.records id → IsSeatOf place records id
  seat_after f id (n, e, q) = (n, e, v.id n (f.seated n e).0 ∙ q)

  alone_after : IsSeated parent child x place d → (c : ℕ) → IsHeeded x c → IsAlone c (record_of place records)
  unfolding record_of
  alone_after f c h = by_place place refl (f.alone c h)
    where
      by_place : (o : Option ℕ) → place ≡ o → IsAlone c (record_of place d.records) → IsAlone c (record_of place records)
      by_place None e a = subst (λ o. IsAlone c (record_of o records)) (sym e) (subst (λ o. IsAlone c (record_of o d.records)) e a)
      by_place (Some k) e a = subst (λ o. IsAlone c (record_of o records)) (sym e) (v.alone k e c h (subst (λ o. IsAlone c (record_of o d.records)) e a))

  pub seat_kept : IsSeated parent child x place d → IsSeated parent child x place (goes_on d records seen out)
  seat_kept f =
      record {
        seated = λ n e. let w = f.seated n e in (v.within n w.0, v.owner n w.0 ∙ w.1);
        others = v.others;
        alone = alone_after f;
        known = λ id e. seat_after f id (f.known id e);
        named = λ c b id h i e. by_part c b id h e (about_cases (header_of parent child c) d.said out b i);
      }
    where
      by_part : (c : ℕ) (b : Body) (id : ℕ) → IsHeeded x c → teaches b ≡ Some id → Contains (about (header_of parent child c) d.said) b ⊎ Contains (about (header_of parent child c) out) b → IsSeatOf place records id
      by_part c b id h e (inl j) = seat_after f id (f.named c b id h j e)
      by_part c b id h e (inr j) = seat_after f id (v.named c b id h j e)

module _ (parent child : List ℕ) (x : ChildConnection) (place : Option ℕ) (d : Child) (records : List Record) (seen : List Header) (out : List Message) (v : IsMild parent child x place d records seen out) where
  mild_opened : IsOpened parent child x place d → IsOpened parent child x place (goes_on d records seen out)
  mild_opened g n e q = still (g n e q)
    where
      still : IsOpening parent child x n d → IsOpening parent child x n (goes_on d records seen out)
      still h =
          record {
            c = h.c;
            asked = h.asked;
            attempt = h.attempt;
            taken = v.taken h.c h.taken;
            owes = λ k u. v.owes n e h.c (inl h.attempt) k (h.owes k u);
            says = λ b i u. by_part b u (about_cases (header_of parent child h.c) d.said out b i);
          }
        where
          by_part : (b : Body) → teaches b ≡ None → Contains (about (header_of parent child h.c) d.said) b ⊎ Contains (about (header_of parent child h.c) out) b → ⊥
          by_part b u (inl j) = h.says b j u
          by_part b u (inr j) = v.says n e h.c (inl h.attempt) h.owes b j u

  pub mild_mate : Link x (side_of parent child place (goes_on d records seen out)) → IsMate parent child x place d → IsMate parent child x place (goes_on d records seen out)
  mild_mate l h = record { linked = l; seated = seat_kept parent child x place d records seen out v.seat h.seated; opened = mild_opened h.opened }

---- What passes the view by

-- nothing is said under a correlation that the view listens to, and its own record's reservation stays
pub record IsAside (parent child : List ℕ) (x : ChildConnection) (place : Option ℕ) (d : Child) (records : List Record) (seen : List Header) (out : List Message) : Type 0 where
  pub within : (n : ℕ) → n < length d.records → n < length records
  pub owner : (n : ℕ) → n < length d.records → (record_at n records).owner ≡ (record_at n d.records).owner
  pub id : (n : ℕ) → n < length d.records → (record_at n records).id ≡ (record_at n d.records).id
  pub others : (n : ℕ) → (place ≡ Some n → ⊥) → (record_at n records).owner ≡ parent → (c : ℕ) → IsHeeded x c → (k : ℕ) → owed c k (record_at n records) ≡ 0
  pub alone : (n : ℕ) → place ≡ Some n → (c : ℕ) → IsHeeded x c → IsAlone c (record_at n d.records) → IsAlone c (record_at n records)
  pub taken : (c : ℕ) → is_taken (header_of parent child c) d.seen ≡ true → is_taken (header_of parent child c) seen ≡ true
  pub owes : (n : ℕ) → place ≡ Some n → (c : ℕ) → IsHeeded x c → (k : ℕ) → owed c k (record_at n d.records) ≡ 0 → owed c k (record_at n records) ≡ 0
  pub same : IsReservationSame (record_of place d.records) (record_of place records)
  pub silent : (c : ℕ) (b : Body) → IsHeeded x c → Contains (about (header_of parent child c) out) b → ⊥
  pub seen_same : (c : ℕ) → is_open x.reserve_request c ≡ true → is_taken (header_of parent child c) seen ≡ is_taken (header_of parent child c) d.seen

module _ (parent child : List ℕ) (x : ChildConnection) (place : Option ℕ) (d : Child) (records : List Record) (seen : List Header) (out : List Message) (v : IsAside parent child x place d records seen out) where
  aside_mild : IsMild parent child x place d records seen out
  aside_mild =
      record {
        seat =
            record {
              within = v.within;
              owner = v.owner;
              id = v.id;
              others = v.others;
              alone = v.alone;
              named = λ c b id h i e. absurd (v.silent c b h i);
            };
        taken = v.taken;
        owes = v.owes;
        says = λ n e c h o b i u. v.silent c b h i;
      }

  aside_link : Link x (side_of parent child place d) → Link x (side_of parent child place (goes_on d records seen out))
  aside_link h =
      link_like x (side_of parent child place d) (side_of parent child place (goes_on d records seen out))
      (record {
        same = v.same;
        less = λ c b i j. by_part c b i (about_cases (header_of parent child c) d.said out b j);
        more = λ c b i j. about_left (header_of parent child c) d.said out b j;
        seen = v.seen_same;
      }) h
    where
      by_part : (c : ℕ) (b : Body) → IsHeeded x c → Contains (about (header_of parent child c) d.said) b ⊎ Contains (about (header_of parent child c) out) b → Contains (about (header_of parent child c) d.said) b
      by_part c b i (inl j) = j
      by_part c b i (inr j) = absurd (v.silent c b i j)

  pub aside_mate : IsMate parent child x place d → IsMate parent child x place (goes_on d records seen out)
  aside_mate h = mild_mate parent child x place d records seen out aside_mild (aside_link h.linked) h

---- Replies

-- an answer that teaches no connection isn't of the kinds that do
pub unteaching : (b : Body) → is_answering b ≡ true → teaches b ≡ None → is_teaching (number_of b) ≡ false
unfolding teaches number_of kind_number is_answering is_asking is_noting
unteaching b a e = grind (arith, e)

first_part : (a b : Bool) → (a && b) ≡ true → a ≡ true
first_part true b h = refl
first_part false b h = absurd (cc)

-- where only kinds that teach are answered, each answer teaches
pub answers_teach : (c : ℕ) (b : Body) (out : List Reply) → ((n : ℕ) → is_teaching n ≡ false → tally (answers_as c n) out ≡ 0) → IsReplied c b out → teaches b ≡ None → ⊥
answers_teach c b out h a e =
    let n : ℕ = number_of a.reply.body in
    let plain : is_teaching n ≡ false = unteaching a.reply.body (first_part (is_answering a.reply.body) (c == a.reply.correlation) a.answers) (ap teaches a.body ∙ e) in
    omega (arith, tally_there (answers_as c n) a.reply out a.there (counted_as c a.reply a.answers), h n plain)

taught_named : (b : Body) (id : ℕ) → teaches b ≡ Some id → named_connection b ≡ Some id
unfolding teaches named_connection
taught_named b id e = grind (arith, e)

none_misnamed : (id : ℕ) (out : List Reply) (y : Reply) → tally (misnames id) out ≡ 0 → Contains out y → misnames id y ≡ false
none_misnamed id out y z i = by_test (misnames id y) refl
  where
    by_test : (t : Bool) → misnames id y ≡ t → t ≡ false
    by_test false e = refl
    by_test true e = absurd (omega (arith, tally_there (misnames id) y out i e, z))

-- a reply that teaches a connection teaches the record's
pub replied_named : (id k c : ℕ) (b : Body) (out : List Reply) → tally (misnames id) out ≡ 0 → IsReplied c b out → teaches b ≡ Some k → k ≡ id
replied_named id k c b out z a e =
    by_name (named_connection a.reply.body) (taught_named a.reply.body k (ap teaches a.body ∙ e)) (none_misnamed id out a.reply z a.there)
  where
    by_name : (o : Option ℕ) → o ≡ Some k → not (is_id o id) ≡ false → k ≡ id
    by_name o e w = grind (arith, e, w)
