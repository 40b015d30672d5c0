-- An entry of a child keeps all that is known of a view.
use Rattle.std.proofs.Common.{ℕ, ◌≡◌, ◌<◌, false, List, [], ◌++◌, length, Contains, Option, Some, ◌⊎◌, inl, inr, ◌==◌, refl, sym, ap, ◌∙◌, subst, arith, append_assoc, slice_set, get_or-set_same, true≢false}
use Rattle.std.proofs.lemmas.Bool.{cases_eq}
use Rattle.std.proofs.lemmas.List.{length-set}
use Rattle.nsi_primitive.specs.declared.message.Body.{Body}
use Rattle.nsi_primitive.specs.declared.message.Message.{Message}
use Rattle.nsi_primitive.specs.declared.state.Side.{Side as Place}
use Rattle.message_retry.specs.Taken.{is_taken, with_taken}
use Rattle.child_connection.specs.Views.{ChildConnection}
use Rattle.connection_record.specs.declared.record.Record.{Record}
use Rattle.connection_record.specs.declared.moves.Reply.{Reply}
use Rattle.connection_record.specs.Courses.{answering, Course}
use Rattle.connection_record.specs.Replies.{Moved, addressed}
use Rattle.connection_record.specs.Speaking.{no_ids, owed, Speaks}
use Rattle.connection_record.specs.Ids.{is_id}
use Rattle.connection_record.proofs.Beside.{still_silent}
use Rattle.connection_record.proofs.Courses.{course_after}
use Rattle.connection_record.proofs.Saying.{takes_speaks}
use Rattle.agent_state.specs.State.{no_record, record_at}
use Rattle.circuit_link.specs.Children.{Child, goes_on, about}
use Rattle.circuit_link.specs.Headers.{header_of}
use Rattle.circuit_link.specs.Mates.{IsMate}
use Rattle.circuit_link.specs.Serving.{TakeCourses, taken_by, IsTurn}
use Rattle.circuit_link.proofs.Abouts.{headers_same, taken_now, taken_before}
use Rattle.circuit_link.proofs.Answering.{nothing_answered}
use Rattle.circuit_link.proofs.Coursing.{IsCoursed, OwesNothingNew, coursed_mate}
use Rattle.circuit_link.proofs.Starting.{record_set}

---- Courses

pub courses_mate : (parent name : List ℕ) (x : ChildConnection) (place : Option ℕ) (d : Child) (records : List Record) (out : List Message) → TakeCourses name d.records records out → OwesNothingNew parent name d →
    IsMate parent name x place d → IsMate parent name x place (goes_on d records d.seen out)
courses_mate parent name x place d records out v unowed h =
    coursed_mate parent name x place d records out
    (record {
      long = v.long;
      said = v.said;
      each = v.each;
      all = λ n c b l o i. subst (λ w. Contains (about (header_of w name c) out) b) o (v.all n c b l i);
      only = λ c b i j. v.only parent c b j;
    })
    unowed h

---- A turn

module _ (side : Place) (name parent : List ℕ) (now : ℕ) (x : ChildConnection) (place : Option ℕ) (d : Child) (n : ℕ) (m : Message) (records : List Record) (out : List Message) where
  abbrev row : Record
  row = record_at n d.records

  abbrev y : Moved
  y = taken_by side now m (record_at n d.records)

  abbrev rows : List Record
  rows = slice_set d.records n y.rec

  abbrev started : Child
  started = goes_on d (slice_set d.records n (taken_by side now m (record_at n d.records)).rec) (with_taken m.header d.seen)
      (addressed name (taken_by side now m (record_at n d.records)).rec.owner (taken_by side now m (record_at n d.records)).out)

  module _ (l : n < length d.records) (t : IsTurn side name now m n d.records records out) where
    row_after : record_at n rows ≡ y.rec
    row_after = get_or-set_same d.records n y.rec no_record l

    end_after : record_at n records ≡ t.after
    end_after = ap (record_at n) t.records ∙ get_or-set_same d.records n t.after no_record l

    others_same : (k : ℕ) → (k ≡ n → ⊥) → record_at k records ≡ record_at k rows
    others_same k q = elim (record_set d.records n k t.after l) [
      | inl w ↦ absurd (q w.0)
      | inr w ↦ ap (record_at k) t.records ∙ w.1 ∙ sym (there (record_set d.records n k y.rec l))
    ]
      where
        there : ((k ≡ n) × (record_at k rows ≡ y.rec)) ⊎ ((k ≡ n → ⊥) × (record_at k rows ≡ record_at k d.records)) → record_at k rows ≡ record_at k d.records
        there (inl w) = absurd (q w.0)
        there (inr w) = w.1

    said_at : (k : ℕ) → (k ≡ n) ⊎ (k ≡ n → ⊥) → List Reply
    said_at k (inl q) = t.said
    said_at k (inr q) = []

    each_of : (k : ℕ) (w : (k ≡ n) ⊎ (k ≡ n → ⊥)) → Course (record_at k rows) (record_at k records) (said_at k w)
    unfolding said_at
    each_of k (inl q) =
        subst (λ j. Course (record_at j rows) (record_at j records) t.said) (sym q)
        (subst (λ r. Course r (record_at n records) t.said) (sym row_after) (subst (λ r. Course y.rec r t.said) (sym end_after) t.course))
    each_of k (inr q) = subst (λ r. Course (record_at k rows) r []) (sym (others_same k q)) (Course.rests (record_at k rows))

    owner_at : (k : ℕ) → k ≡ n → (record_at k rows).owner ≡ t.after.owner
    owner_at k q = ap (λ j. (record_at j rows).owner) q ∙ ap (λ r. r.owner) row_after ∙ sym (course_after y.rec t.after t.said t.course).later.owner

    all_of : (k c : ℕ) (b : Body) (w : (k ≡ n) ⊎ (k ≡ n → ⊥)) → (record_at k rows).owner ≡ parent → Contains (answering c (said_at k w)) b → Contains (about (header_of parent name c) t.more) b
    unfolding said_at
    all_of k c b (inl q) o i = subst (λ w. Contains (about (header_of w name c) t.more) b) (sym (owner_at k q) ∙ o) (t.tells.all c b i)
    all_of k c b (inr q) o i = absurd (nothing_answered c b [] refl i)

    said_here : (w : (n ≡ n) ⊎ (n ≡ n → ⊥)) (c : ℕ) (b : Body) → Contains (answering c t.said) b → Contains (answering c (said_at n w)) b
    unfolding said_at
    said_here (inl q) c b i = i
    said_here (inr q) c b i = absurd (q refl)

    coursed : IsCoursed parent name x started records t.more
    coursed =
        record {
          long = ap length t.records ∙ length-set d.records n t.after ∙ sym (length-set d.records n y.rec);
          said = λ k. said_at k (cases_eq k n);
          each = λ k. each_of k (cases_eq k n);
          all = λ k c b _ o i. all_of k c b (cases_eq k n) o i;
          only = λ c b h i. let w = t.tells.only parent c b i in (n, owner_at n refl ∙ w.0, said_here (cases_eq n n) c b w.1);
        }

    -- behind the first move nothing is owed under what isn't taken
    first_unowed : OwesNothingNew parent name d → m.header.provider ≡ name → row.owner ≡ m.header.requester → is_taken m.header d.seen ≡ false → OwesNothingNew parent name started
    first_unowed fair np ow u c k o w g = by_place (record_set d.records n k y.rec l)
      where
        before : is_taken (header_of parent name c) d.seen ≡ false
        before = taken_before (header_of parent name c) m.header d.seen u w

        speaks : Speaks (Some m.header.correlation) no_ids row y
        speaks = takes_speaks side m.body m.header.correlation now row

        other : row.owner ≡ parent → is_id (Some m.header.correlation) c ≡ false
        other q = by_number (cases_eq c m.header.correlation)
          where
            by_number : (c ≡ m.header.correlation) ⊎ (c ≡ m.header.correlation → ⊥) → (c == m.header.correlation) ≡ false
            by_number (inl e) =
                let hd : m.header ≡ header_of parent name c = headers_same m.header.correlation c m.header.requester parent m.header.provider name (sym e) (sym ow ∙ q) np in
                absurd (true≢false (sym (taken_now m.header d.seen u) ∙ ap (λ z. is_taken z (with_taken m.header d.seen)) hd ∙ w))
            by_number (inr e) = grind (arith, e)

        by_place : ((k ≡ n) × (record_at k rows ≡ y.rec)) ⊎ ((k ≡ n → ⊥) × (record_at k rows ≡ record_at k d.records)) → owed c g (record_at k rows) ≡ 0
        by_place (inr q) = ap (owed c g) q.1 ∙ fair c k (sym (ap (λ r. r.owner) q.1) ∙ o) before g
        by_place (inl q) =
            let own : row.owner ≡ parent = sym speaks.owner ∙ ap (λ r. r.owner) (sym q.1) ∙ o in
            ap (owed c g) q.1 ∙ still_silent (Some m.header.correlation) no_ids row y c g speaks (other own) (fair c n own before g)

    -- the first move, and then the course
    pub turn_mate : OwesNothingNew parent name d → m.header.provider ≡ name → (record_at n d.records).owner ≡ m.header.requester → is_taken m.header d.seen ≡ false → IsMate parent name x place started →
        IsMate parent name x place (goes_on d records (with_taken m.header d.seen) out)
    turn_mate fair np ow u h =
        subst (λ w. IsMate parent name x place (let z : Child = record { records = records; seen = with_taken m.header d.seen; said = w } in z)) whole
        (coursed_mate parent name x place started records t.more coursed (first_unowed fair np ow u) h)
      where
        whole : (d.said ++ addressed name y.rec.owner y.out) ++ t.more ≡ d.said ++ out
        whole = append_assoc d.said (addressed name y.rec.owner y.out) t.more ∙ ap (λ w. d.said ++ w) (sym t.spoken)
