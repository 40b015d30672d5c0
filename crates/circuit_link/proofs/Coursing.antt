-- Where each record of a child takes its course, all that is known of a view stays.
use Rattle.std.proofs.Common.{ℕ, ◌≡◌, ◌<◌, false, List, ◌++◌, length, Contains, Option, Some, None, ◌⊎◌, inl, inr, refl, sym, ap, ◌∙◌, subst, arith}
use Rattle.std.proofs.lemmas.List.Elements.{Contains-append_left, Contains-append_right, Contains-append_cases}
use Rattle.std.proofs.lemmas.Bool.{cases_eq}
use Rattle.nsi_primitive.specs.declared.message.Body.{Body}
use Rattle.nsi_primitive.specs.declared.message.Message.{Message}
use Rattle.message_retry.specs.Taken.{is_taken}
use Rattle.child_connection.specs.Views.{ChildConnection}
use Rattle.child_connection.specs.Holding.{teaches, IsHeeded}
use Rattle.connection_record.specs.declared.record.Record.{Record}
use Rattle.connection_record.specs.declared.moves.Reply.{Reply}
use Rattle.connection_record.specs.Courses.{IsAlone, IsReservationSame, answering, Course, IsAfter}
use Rattle.connection_record.specs.Speaking.{number_of, answers_as, owed}
use Rattle.connection_record.proofs.Acts.{same_self}
use Rattle.connection_record.proofs.Courses.{course_after}
use Rattle.agent_state.specs.State.{no_record, record_at}
use Rattle.circuit_link.specs.Sides.{Side}
use Rattle.circuit_link.specs.Links.{Link}
use Rattle.circuit_link.specs.Children.{Child, goes_on, about, record_of, side_of}
use Rattle.circuit_link.specs.Headers.{header_of}
use Rattle.circuit_link.specs.Mates.{is_teaching, IsSeated, IsMate}
use Rattle.circuit_link.proofs.Abouts.{about_cases, about_left, about_right}
use Rattle.circuit_link.proofs.Answering.{same_some, tally_there, counted_as, IsReplied, replied_of, answer_of}
use Rattle.circuit_link.proofs.Likeness.{link_like, course_link, side}
use Rattle.circuit_link.proofs.Mild.{IsMild, mild_mate, answers_teach, replied_named}

-- each record took its course, and what was said to the parent is what these said
pub record IsCoursed (parent child : List ℕ) (x : ChildConnection) (d : Child) (records : List Record) (out : List Message) : Type 0 where
  pub long : length records ≡ length d.records
  pub said : ℕ → List Reply
  pub each : (n : ℕ) → Course (record_at n d.records) (record_at n records) (said n)
  pub all : (n c : ℕ) (b : Body) → n < length d.records → (record_at n d.records).owner ≡ parent → Contains (answering c (said n)) b → Contains (about (header_of parent child c) out) b
  pub only : (c : ℕ) (b : Body) → IsHeeded x c → Contains (about (header_of parent child c) out) b → (n : ℕ) × ((record_at n d.records).owner ≡ parent) × Contains (answering c (said n)) b

some_none : (n : ℕ) → None ≡ Some n → ⊥
some_none n q = cc

module _ (parent child : List ℕ) (x : ChildConnection) (place : Option ℕ) (d : Child) (records : List Record) (out : List Message) (v : IsCoursed parent child x d records out) (f : IsSeated parent child x place d) where
  then_is : (n : ℕ) → IsAfter (record_at n d.records) (record_at n records) (v.said n)
  then_is n = course_after (record_at n d.records) (record_at n records) (v.said n) (v.each n)

  -- a record that owes nothing under a correlation says nothing under it
  silent : (n c : ℕ) (b : Body) → ((k : ℕ) → owed c k (record_at n d.records) ≡ 0) → IsReplied c b (v.said n) → ⊥
  silent n c b o a =
      let k : ℕ = number_of a.reply.body in
      omega (arith, tally_there (answers_as c k) a.reply (v.said n) a.there (counted_as c a.reply a.answers), (then_is n).owes c k, o k)

  still : (n c k : ℕ) → owed c k (record_at n d.records) ≡ 0 → owed c k (record_at n records) ≡ 0
  still n c k o = omega (arith, (then_is n).owes c k, o)

  -- under a correlation that the view listens to its own record alone speaks
  own_said : (c : ℕ) (b : Body) → IsHeeded x c → Contains (about (header_of parent child c) out) b → (n : ℕ) × (place ≡ Some n) × IsReplied c b (v.said n)
  own_said c b h i = let (n, o, j) = v.only c b h i in by_seat n o (replied_of c b (v.said n) j) place refl
    where
      other : (n : ℕ) → (record_at n d.records).owner ≡ parent → IsReplied c b (v.said n) → (place ≡ Some n → ⊥) → ⊥
      other n o a away = silent n c b (f.others n away o c h) a

      by_seat : (n : ℕ) → (record_at n d.records).owner ≡ parent → IsReplied c b (v.said n) → (w : Option ℕ) → place ≡ w → (n : ℕ) × (place ≡ Some n) × IsReplied c b (v.said n)
      by_seat n o a None e = absurd (other n o a (λ q. some_none n (sym e ∙ q)))
      by_seat n o a (Some k) e = by_number (cases_eq k n)
        where
          by_number : (k ≡ n) ⊎ (k ≡ n → ⊥) → (n : ℕ) × (place ≡ Some n) × IsReplied c b (v.said n)
          by_number (inl q) = (n, e ∙ ap Some q, a)
          by_number (inr q) = absurd (other n o a (λ w. q (same_some k n (sym e ∙ w))))

  coursed_mild : IsMild parent child x place d records d.seen out
  coursed_mild =
      record {
        seat =
            record {
              within = λ n l. subst (λ y. n < y) (sym v.long) l;
              owner = λ n l. (then_is n).later.owner;
              id = λ n l. (then_is n).later.id;
              others = λ n p o c h k. still n c k (f.others n p (sym (then_is n).later.owner ∙ o) c h k);
              alone = λ n e c h a. (then_is n).alone c a;
              named = λ c b id h i e. let (n, p, a) = own_said c b h i in (n, p, sym (replied_named (record_at n d.records).id id c b (v.said n) (then_is n).names a e));
            };
        taken = λ c t. t;
        owes = λ n e c h k o. still n c k o;
        says = λ n e c h o b i u. says n e c o b u (own_said c b h i);
      }
    where
      says : (n : ℕ) → place ≡ Some n → (c : ℕ) → ((k : ℕ) → is_teaching k ≡ false → owed c k (record_at n d.records) ≡ 0) → (b : Body) → teaches b ≡ None →
          (m : ℕ) × (place ≡ Some m) × IsReplied c b (v.said m) → ⊥
      says n e c o b u (m, p, a) =
          let q : n ≡ m = same_some n m (sym e ∙ p) in
          answers_teach c b (v.said m) (λ k t. omega (arith, (then_is m).owes c k, ap (λ z. owed c k (record_at z d.records)) (sym q), o k t)) a u

  coursed_link : ((c n : ℕ) → (record_at n d.records).owner ≡ parent → is_taken (header_of parent child c) d.seen ≡ false → (k : ℕ) → owed c k (record_at n d.records) ≡ 0) →
      Link x (side_of parent child place d) → Link x (side_of parent child place (goes_on d records d.seen out))
  unfolding record_of
  coursed_link unowed h = by_place place refl
    where
      here : Side
      here = side_of parent child place d

      after : Side
      after = side_of parent child place (goes_on d records d.seen out)

      by_place : (o : Option ℕ) → place ≡ o → Link x after
      by_place None e =
          link_like x here after
          (record {
            same = subst (λ o. IsReservationSame (record_of o d.records) (record_of o records)) (sym e) (same_self no_record);
            less = λ c b i j. less c b i (about_cases (header_of parent child c) d.said out b j);
            more = λ c b i j. about_left (header_of parent child c) d.said out b j;
            seen = λ c i. refl;
          }) h
        where
          less : (c : ℕ) (b : Body) → IsHeeded x c → Contains (about (header_of parent child c) d.said) b ⊎ Contains (about (header_of parent child c) out) b → Contains (about (header_of parent child c) d.said) b
          less c b i (inl j) = j
          less c b i (inr j) = let (n, p, a) = own_said c b i j in absurd (some_none n (sym e ∙ p))
      by_place (Some n) e =
          let seat = f.seated n e in
          let same : here.rec ≡ record_at n d.records = ap (λ o. record_of o d.records) e in
          let new : after.rec ≡ record_at n records = ap (λ o. record_of o records) e in
          let moved : Link x (side (record_at n records) (λ c. here.said c ++ answering c (v.said n)) here.seen) =
          course_link x (record_at n d.records) (record_at n records) (v.said n) here.said here.seen (v.each n) (λ c k u. unowed c n seat.1 u k) (λ c i. subst (λ y. IsAlone c y) same (f.alone c i))
          (subst (λ y. Link x (side y here.said here.seen)) same h)
          in
          link_like x (side (record_at n records) (λ c. here.said c ++ answering c (v.said n)) here.seen) after
          (record {
            same = subst (λ y. IsReservationSame (record_at n records) y) (sym new) (same_self (record_at n records));
            less = λ c b i j. less n e c b i (about_cases (header_of parent child c) d.said out b j);
            more = λ c b i j. further n seat.0 seat.1 c b (Contains-append_cases (here.said c) (answering c (v.said n)) b j);
            seen = λ c i. refl;
          }) moved
        where
          less : (n : ℕ) → place ≡ Some n → (c : ℕ) (b : Body) → IsHeeded x c → Contains (about (header_of parent child c) d.said) b ⊎ Contains (about (header_of parent child c) out) b →
              Contains (here.said c ++ answering c (v.said n)) b
          less n e c b i (inl j) = Contains-append_left (here.said c) (answering c (v.said n)) b j
          less n e c b i (inr j) =
              let (k, p, a) = own_said c b i j in
              let q : k ≡ n = same_some k n (sym p ∙ e) in
              Contains-append_right (here.said c) (answering c (v.said n)) b (subst (λ z. Contains (answering c (v.said z)) b) q (answer_of c b (v.said k) a))

          further : (n : ℕ) → n < length d.records → (record_at n d.records).owner ≡ parent → (c : ℕ) (b : Body) → Contains (here.said c) b ⊎ Contains (answering c (v.said n)) b → Contains (after.said c) b
          further n l o c b (inl j) = about_left (header_of parent child c) d.said out b j
          further n l o c b (inr j) = about_right (header_of parent child c) d.said out b (v.all n c b l o j)

-- what is owed under a request that isn't taken
abbrev pub OwesNothingNew : (parent child : List ℕ) → Child → Type 0
OwesNothingNew parent child d = (c n : ℕ) → (record_at n d.records).owner ≡ parent → is_taken (header_of parent child c) d.seen ≡ false → (k : ℕ) → owed c k (record_at n d.records) ≡ 0

pub coursed_mate : (parent child : List ℕ) (x : ChildConnection) (place : Option ℕ) (d : Child) (records : List Record) (out : List Message) → IsCoursed parent child x d records out → OwesNothingNew parent child d →
    IsMate parent child x place d → IsMate parent child x place (goes_on d records d.seen out)
coursed_mate parent child x place d records out v unowed h =
    mild_mate parent child x place d records d.seen out (coursed_mild parent child x place d records out v h.seated) (coursed_link parent child x place d records out v h.seated unowed h.linked) h
