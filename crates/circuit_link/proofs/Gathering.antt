-- What records do by themselves, gathered: one of them, or each in order; and whose answers stand among what is said.
use Rattle.std.proofs.Common.{ℕ, zero, suc, ◌≡◌, ◌<◌, true, false, List, [], ◌∷◌, ◌++◌, length, Contains, ◌⊎◌, inl, inr, refl, sym, ap, ◌∙◌, subst, arith, append-nil, slice_set, get_or-set_same, get_or-set_other, true≢false}
use Rattle.std.proofs.lemmas.Bool.{cases_eq}
use Rattle.std.proofs.lemmas.List.{length-set}
use Rattle.std.proofs.lemmas.List.Elements.{Contains-append_left, Contains-append_right, Contains-append_cases}
use Rattle.nsi_primitive.specs.Messages.{has_rows}
use Rattle.nsi_primitive.specs.declared.message.Body.{Body}
use Rattle.nsi_primitive.specs.declared.message.Header.{Header}
use Rattle.nsi_primitive.specs.declared.message.Message.{Message}
use Rattle.record_index.proofs.Members.{nothing_in}
use Rattle.connection_record.specs.declared.record.Record.{Record}
use Rattle.connection_record.specs.declared.moves.Reply.{Reply}
use Rattle.connection_record.specs.Courses.{answering, Course}
use Rattle.connection_record.specs.Replies.{addressed}
use Rattle.connection_record.specs.Speaking.{is_answering}
use Rattle.connection_record.proofs.Acts.{answering_append}
use Rattle.agent_state.specs.State.{no_record, record_at}
use Rattle.circuit_link.specs.Children.{about, TellsNothing}
use Rattle.circuit_link.specs.Headers.{header_of}
use Rattle.circuit_link.specs.Serving.{IsByItself, Tells, TakeCourses}
use Rattle.circuit_link.proofs.Living.{itself_same}
use Rattle.circuit_link.proofs.Abouts.{about_append, about_cases, about_left, about_right, AreRowless, addressed_in, addressed_of, IsSaidUnder, said_under}
use Rattle.circuit_link.proofs.Answering.{nothing_answered, none_there, only_one}

---- What is said

pub tells_addressed : (name owner : List ℕ) (replies : List Reply) → AreRowless replies → Tells name owner replies (addressed name owner replies)
tells_addressed name owner replies n =
    record { only = λ parent c b i. addressed_in name owner parent c replies b i; all = λ c b i. addressed_of name owner c replies b n i }

-- none of the messages is an answer
abbrev pub AnswersNothing : List Message → Type 0
AnswersNothing ms = (m : Message) → Contains ms m → is_answering m.body ≡ false

pub no_answer_there : (h : Header) (ms : List Message) (b : Body) → AnswersNothing ms → Contains (about h ms) b → ⊥
no_answer_there h ms b n i = let w = said_under h b ms i in true≢false (sym w.answering ∙ n w.message w.there)

-- requests concern no view
pub requests_tell : (ms : List Message) → AnswersNothing ms → TellsNothing ms
requests_tell ms n h = none_there (about h ms) (λ b i. no_answer_there h ms b n i)

-- nor do rows
pub rows_tell : (ms : List Message) → ((m : Message) → Contains ms m → has_rows m.body ≡ true) → TellsNothing ms
rows_tell ms n h = none_there (about h ms) (λ b i. let w : IsSaidUnder h b ms = said_under h b ms i in true≢false (sym (n w.message w.there) ∙ w.rowless))

pub row_tells : (h : Header) (body : Body) → has_rows body ≡ true → TellsNothing (record { header = h; body = body } ∷ [])
row_tells h body r = rows_tell (said ∷ []) (λ m i. ap (λ (z : Message). has_rows z.body) (only_one said m i) ∙ r)
  where
    said : Message
    said = record { header = h; body = body }

pub nothing_tells : TellsNothing []
unfolding about
nothing_tells h = refl

-- answers, then what is no answer, then notices
pub tells_spoken : (name owner : List ℕ) (replies notices : List Reply) (asked : List Message) → AreRowless (replies ++ notices) → AnswersNothing asked →
    Tells name owner (replies ++ notices) (addressed name owner replies ++ (asked ++ addressed name owner notices))
tells_spoken name owner replies notices asked rowless n = record { only = λ parent c b i. first parent c b (about_cases (header_of parent name c) (addressed name owner replies) (asked ++ addressed name owner notices) b i); all = λ c b i. back c b (both c b i) }
  where
    left : (parent : List ℕ) (c : ℕ) (b : Body) → (owner ≡ parent) × Contains (answering c replies) b → (owner ≡ parent) × Contains (answering c (replies ++ notices)) b
    left parent c b (o, j) = (o, subst (λ w. Contains w b) (sym (answering_append c replies notices)) (Contains-append_left (answering c replies) (answering c notices) b j))

    right : (parent : List ℕ) (c : ℕ) (b : Body) → (owner ≡ parent) × Contains (answering c notices) b → (owner ≡ parent) × Contains (answering c (replies ++ notices)) b
    right parent c b (o, j) = (o, subst (λ w. Contains w b) (sym (answering_append c replies notices)) (Contains-append_right (answering c replies) (answering c notices) b j))

    second : (parent : List ℕ) (c : ℕ) (b : Body) → Contains (about (header_of parent name c) asked) b ⊎ Contains (about (header_of parent name c) (addressed name owner notices)) b → (owner ≡ parent) × Contains (answering c (replies ++ notices)) b
    second parent c b (inl j) = absurd (no_answer_there (header_of parent name c) asked b n j)
    second parent c b (inr j) = right parent c b (addressed_in name owner parent c notices b j)

    first : (parent : List ℕ) (c : ℕ) (b : Body) → Contains (about (header_of parent name c) (addressed name owner replies)) b ⊎ Contains (about (header_of parent name c) (asked ++ addressed name owner notices)) b →
        (owner ≡ parent) × Contains (answering c (replies ++ notices)) b
    first parent c b (inl j) = left parent c b (addressed_in name owner parent c replies b j)
    first parent c b (inr j) = second parent c b (about_cases (header_of parent name c) asked (addressed name owner notices) b j)

    both : (c : ℕ) (b : Body) → Contains (answering c (replies ++ notices)) b → Contains (answering c replies) b ⊎ Contains (answering c notices) b
    both c b i = Contains-append_cases (answering c replies) (answering c notices) b (subst (λ w. Contains w b) (answering_append c replies notices) i)

    back : (c : ℕ) (b : Body) → Contains (answering c replies) b ⊎ Contains (answering c notices) b → Contains (about (header_of owner name c) (addressed name owner replies ++ (asked ++ addressed name owner notices))) b
    back c b (inl j) = about_left (header_of owner name c) (addressed name owner replies) (asked ++ addressed name owner notices) b (addressed_of name owner c replies b (λ y i. rowless y (Contains-append_left replies notices y i)) j)
    back c b (inr j) =
        about_right (header_of owner name c) (addressed name owner replies) (asked ++ addressed name owner notices) b
        (about_right (header_of owner name c) asked (addressed name owner notices) b (addressed_of name owner c notices b (λ y i. rowless y (Contains-append_right replies notices y i)) j))

---- Courses

pub no_courses : (name : List ℕ) (rs : List Record) → TakeCourses name rs rs []
unfolding about
no_courses name rs =
    record {
      long = refl;
      said = λ n. [];
      each = λ n. Course.rests (record_at n rs);
      itself = λ n. itself_same (record_at n rs);
      all = λ n c b l i. absurd (nothing_answered c b [] refl i);
      only = λ parent c b i. absurd (nothing_in b i);
    }

-- one record in its place
pub one_course : (name : List ℕ) (rs : List Record) (n : ℕ) (q : Record) (said : List Reply) (out : List Message) → n < length rs → Course (record_at n rs) q said → IsByItself (record_at n rs) q said → Tells name (record_at n rs).owner said out →
    TakeCourses name rs (slice_set rs n q) out
one_course name rs n q said out l course itself tells =
    record {
      long = length-set rs n q;
      said = λ k. said_at k (cases_eq k n);
      each = λ k. each_of k (cases_eq k n);
      itself = λ k. itself_of k (cases_eq k n);
      all = λ k c b _ i. all_of k c b (cases_eq k n) i;
      only = λ parent c b i. let w = tells.only parent c b i in (n, w.0, here (cases_eq n n) c b w.1);
    }
  where
    said_at : (k : ℕ) → (k ≡ n) ⊎ (k ≡ n → ⊥) → List Reply
    said_at k (inl e) = said
    said_at k (inr e) = []

    each_of : (k : ℕ) (w : (k ≡ n) ⊎ (k ≡ n → ⊥)) → Course (record_at k rs) (record_at k (slice_set rs n q)) (said_at k w)
    each_of k (inl e) = subst (λ j. Course (record_at j rs) (record_at j (slice_set rs n q)) said) (sym e) (subst (λ r. Course (record_at n rs) r said) (sym (get_or-set_same rs n q no_record l)) course)
    each_of k (inr e) = subst (λ r. Course (record_at k rs) r []) (sym (get_or-set_other rs n k q no_record e)) (Course.rests (record_at k rs))

    itself_of : (k : ℕ) (w : (k ≡ n) ⊎ (k ≡ n → ⊥)) → IsByItself (record_at k rs) (record_at k (slice_set rs n q)) (said_at k w)
    itself_of k (inl e) = subst (λ j. IsByItself (record_at j rs) (record_at j (slice_set rs n q)) said) (sym e) (subst (λ r. IsByItself (record_at n rs) r said) (sym (get_or-set_same rs n q no_record l)) itself)
    itself_of k (inr e) = subst (λ r. IsByItself (record_at k rs) r []) (sym (get_or-set_other rs n k q no_record e)) (itself_same (record_at k rs))

    all_of : (k c : ℕ) (b : Body) (w : (k ≡ n) ⊎ (k ≡ n → ⊥)) → Contains (answering c (said_at k w)) b → Contains (about (header_of (record_at k rs).owner name c) out) b
    all_of k c b (inl e) i = subst (λ j. Contains (about (header_of (record_at j rs).owner name c) out) b) (sym e) (tells.all c b i)
    all_of k c b (inr e) i = absurd (nothing_answered c b [] refl i)

    here : (w : (n ≡ n) ⊎ (n ≡ n → ⊥)) (c : ℕ) (b : Body) → Contains (answering c said) b → Contains (answering c (said_at n w)) b
    here (inl e) c b i = i
    here (inr e) c b i = absurd (e refl)

-- the first of all, and those behind it
pub more_courses : (name : List ℕ) (r q : Record) (said : List Reply) (front : List Message) (rs qs : List Record) (out : List Message) → Course r q said → IsByItself r q said → Tells name r.owner said front → TakeCourses name rs qs out →
    TakeCourses name (r ∷ rs) (q ∷ qs) (front ++ out)
more_courses name r q said front rs qs out course itself tells rest =
    record {
      long = ap suc rest.long;
      said = said_at;
      each = each_of;
      itself = itself_of;
      all = all_of;
      only = λ parent c b i. only_of parent c b (about_cases (header_of parent name c) front out b i);
    }
  where
    said_at : ℕ → List Reply
    said_at zero = said
    said_at (suc n) = rest.said n

    each_of : (n : ℕ) → Course (record_at n (r ∷ rs)) (record_at n (q ∷ qs)) (said_at n)
    each_of zero = course
    each_of (suc n) = rest.each n

    itself_of : (n : ℕ) → IsByItself (record_at n (r ∷ rs)) (record_at n (q ∷ qs)) (said_at n)
    itself_of zero = itself
    itself_of (suc n) = rest.itself n

    all_of : (n c : ℕ) (b : Body) → n < length (r ∷ rs) → Contains (answering c (said_at n)) b → Contains (about (header_of (record_at n (r ∷ rs)).owner name c) (front ++ out)) b
    all_of zero c b l i = about_left (header_of r.owner name c) front out b (tells.all c b i)
    all_of (suc n) c b l i = about_right (header_of (record_at n rs).owner name c) front out b (rest.all n c b (omega (arith, l)) i)

    only_of : (parent : List ℕ) (c : ℕ) (b : Body) → Contains (about (header_of parent name c) front) b ⊎ Contains (about (header_of parent name c) out) b →
        (n : ℕ) × ((record_at n (r ∷ rs)).owner ≡ parent) × Contains (answering c (said_at n)) b
    only_of parent c b (inl i) = let w = tells.only parent c b i in (zero, w.0, w.1)
    only_of parent c b (inr i) = let w = rest.only parent c b i in (suc w.0, w.1, w.2)

-- what concerns no view is said behind
pub courses_beside : (name : List ℕ) (rs qs : List Record) (out more : List Message) → TellsNothing more → TakeCourses name rs qs out → TakeCourses name rs qs (out ++ more)
courses_beside name rs qs out more none v =
    record {
      long = v.long;
      said = v.said;
      each = v.each;
      itself = v.itself;
      all = λ n c b l i. about_left (header_of (record_at n rs).owner name c) out more b (v.all n c b l i);
      only = λ parent c b i. v.only parent c b (subst (λ w. Contains w b) (same (header_of parent name c)) i);
    }
  where
    same : (h : Header) → about h (out ++ more) ≡ about h out
    same h = about_append h out more ∙ ap (λ w. about h out ++ w) (none h) ∙ append-nil (about h out)
