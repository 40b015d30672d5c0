-- Messages that are kept, and how one is found by its text.
use Rattle.std.proofs.Common.{ℕ, ◌+◌, ◌<◌, ◌≤◌, ◌≡◌, ◌↔◌, ◌⊎◌, inl, inr, ◌∙◌, Bool, true, false, cond, List, ◌++◌, length, Option, Some, None, Ok, is_some, slice_get, refl, sym, ap, subst, arith}
use Rattle.std.specs.List.{All, Contains}
use Rattle.std.specs.Prelude.{IfNone, IfSome}
use Rattle.std.proofs.lemmas.Bool.{cases_lt}
use Rattle.std.proofs.lemmas.List.Elements.{All-append, All-contains}
use Rattle.std.proofs.lemmas.Option.{slice_get-get_or, slice_get_within}
use Rattle.nsi_primitive.specs.Messages.{identity}
use Rattle.nsi_primitive.specs.Printable.{IsPrintable}
use Rattle.nsi_primitive.specs.declared.message.Identity.{Identity}
use Rattle.nsi_primitive.specs.declared.message.Message.{Message}
use Rattle.nsi_primitive.specs.declared.message.Parcel.{Parcel}
use Rattle.json_primitives.specs.Lines.{object_of}
use Rattle.json_primitives.specs.Spelling.{spelling}
use Rattle.message_retry.specs.Retry.{is_same_identity}
use Rattle.id_index.specs.declared.IdPlace.{IdPlace}
use Rattle.stp_topology.proofs.RankLemmas.{before as front_place}
use Rattle.followed_agent.specs.Messages.{AreFound, IsFoundIn, IsIndexed, IsNowhere, IsReadAgain, IsReadAgainAt, StandsAt, if_of, message_at}
use Rattle.followed_agent.specs.declared.messages.Messages.{Messages}
use Rattle.followed_agent.proofs.Same.{identity_itself, same_identity}

one_some : {X : Type 0} {a b : X} → Some a ≡ Some b → a ≡ b
one_some e = cc

pub there : {X : Type 0} (xs : List X) (x : X) (its : Contains xs x) → slice_get xs its.0 ≡ Some x
there xs x its = slice_get-get_or xs its.0 x its.1 ∙ ap Some its.2

pub is_there : {X : Type 0} (xs : List X) (i : ℕ) (x : X) → slice_get xs i ≡ Some x → Contains xs x
is_there xs i x h =
    let lt = slice_get_within xs i x h in
    (i, lt, one_some (sym (slice_get-get_or xs i x lt) ∙ h))

---- Their places

-- those that stood there are found among more
pub found_more : (places : List IdPlace) (ms more : List Message) → AreFound places (length ms) ms → AreFound places (length ms) (ms ++ more)
found_more places ms more found = λ p m lt at. found p m lt (sym (front_place ms more p lt) ∙ at)

abbrev id_at : ℕ → ℕ → IdPlace
id_at id place = record { id = id; place = place }

-- one message more is found
pub found_one : (old new : List IdPlace) (place : ℕ) (ms : List Message) (m : Message) → AreFound old place ms → slice_get ms place ≡ Some m
    → ((x : IdPlace) → Contains new x ↔ ((x ≡ record { id = m.header.correlation; place = place }) ⊎ Contains old x)) → AreFound new (place + 1) ms
found_one old new place ms m found here adds = λ p n lt at. by p n at (cases_lt p place) lt
  where
    by : (p : ℕ) (n : Message) → slice_get ms p ≡ Some n → (p < place) ⊎ (place ≤ p) → p < place + 1 → Contains new (record { id = n.header.correlation; place = p })
    by p n at (inl less) lt = (adds (record { id = n.header.correlation; place = p })).1 (inr (found p n less at))
    by p n at (inr past) lt =
        let same : p ≡ place = omega (arith, lt, past) in
        let its : n ≡ m = one_some (sym at ∙ (ap (slice_get ms) same ∙ here)) in
        (adds (record { id = n.header.correlation; place = p })).1 (inl (ap (λ (z : Message). id_at z.header.correlation p) its ∙ ap (λ k. id_at m.header.correlation k) same))

-- all are, and more
pub indexed_more : (x y : Messages) (more : List Message) → IsIndexed x → All IsPrintable more → y.messages.items ≡ x.messages.items ++ more → AreFound y.places (length y.messages.items) y.messages.items → IsIndexed y
indexed_more x y more is printable added found = record { printable = subst (All IsPrintable) (sym added) (All-append IsPrintable x.messages.items more is.printable printable); found = found }

---- The one of an identity and a text

nowhere_among : (x : Messages) (i : Identity) (text places : List ℕ) → IsIndexed x → ((p : ℕ) → Contains x.places (record { id = i.correlation; place = p }) → Contains places p)
    → All (λ p. StandsAt x.messages.items i text p → ⊥) places → IsNowhere x.messages.items i text None
nowhere_among x i text places is listed none = λ m its same spelled.
    let at = there x.messages.items m its in
    let correlation : m.header.correlation ≡ i.correlation = ap (λ (z : Identity). z.correlation) same in
    let here = listed its.0 (subst (λ c. Contains x.places (record { id = c; place = its.0 })) correlation (is.found its.0 m its.1 at)) in
    All-contains (λ p. StandsAt x.messages.items i text p → ⊥) places its.0 none here (record { message = m; stands = at; same = same; spelled = spelled })

-- the message at a place, where it is of the identity
at_place : (ms : List Message) (i : Identity) (place : ℕ) (o : Option Message) (m : Message) → slice_get ms place ≡ o → if_of o i ≡ Some m → (slice_get ms place ≡ Some m) × (identity m ≡ i)
at_place ms i place (Some n) m at h = by (is_same_identity i (identity n)) refl h
  where
    by : (b : Bool) → is_same_identity i (identity n) ≡ b → cond b (Some n) None ≡ Some m → (slice_get ms place ≡ Some m) × (identity m ≡ i)
    by true is same =
        let one : n ≡ m = cc in
        (at ∙ ap Some one, ap identity (sym one) ∙ sym (same_identity i (identity n) is))
    by false is same = absurd (cc)
at_place ms i place None m at h = absurd (cc)

of_it : (i : Identity) (m : Message) → identity m ≡ i → if_of (Some m) i ≡ Some m
of_it i m same = ap (λ b. cond b (Some m) None) (ap (λ j. is_same_identity j (identity m)) (sym same) ∙ identity_itself (identity m))

pub is_at_place : (ms read : List Message) (i : Identity) (text : List ℕ) (place : ℕ) (o : Option Message) (m : Message) (is : Bool) → read ≡ ms → o ≡ message_at read place i → o ≡ Some m → (is ≡ true) ↔ (spelling m ≡ text)
    → (is ≡ true) ↔ StandsAt ms i text place
is_at_place ms read i text place o m is same value some tells =
    let its = at_place ms i place (slice_get ms place) m refl (ap (λ (xs : List Message). message_at xs place i) (sym same) ∙ (sym value ∙ some)) in (
      λ e. record { message = m; stands = its.0; same = its.1; spelled = tells.0 e },
      λ s. let one : m ≡ s.message = one_some (sym its.0 ∙ s.stands) in tells.1 (ap spelling one ∙ s.spelled),
    )

pub read_at_place : (ms read : List Message) (i : Identity) (place : ℕ) (o : Option Message) (m : Message) → read ≡ ms → o ≡ message_at read place i → o ≡ Some m → IsReadAgain m → IsReadAgainAt ms place
read_at_place ms read i place o m same value some again = λ n at.
    let its = at_place ms i place (slice_get ms place) m refl (ap (λ (xs : List Message). message_at xs place i) (sym same) ∙ (sym value ∙ some)) in
    subst IsReadAgain (one_some (sym its.0 ∙ at)) again

pub not_at_place : (ms read : List Message) (i : Identity) (text : List ℕ) (place : ℕ) (o : Option Message) → read ≡ ms → o ≡ message_at read place i → o ≡ None → (false ≡ true) ↔ StandsAt ms i text place
not_at_place ms read i text place o same value none = (
  λ e. absurd (cc),
  λ s.
      let both = sym none ∙ (value ∙ (ap (λ (xs : List Message). message_at xs place i) same ∙ (ap (λ z. if_of z i) s.stands ∙ of_it i s.message s.same))) in
      absurd (cc),
)

-- it stands at none of the places at which it may stand
pub nowhere : (x : Messages) (i : Identity) (text places noted : List ℕ) (o : Option ℕ) → IsIndexed x → places ≡ noted → ((p : ℕ) → Contains x.places (record { id = i.correlation; place = p }) → Contains noted p)
    → IfNone o (All (λ p. StandsAt x.messages.items i text p → ⊥) places) → IsNowhere x.messages.items i text o
nowhere x i text places noted (Some place) is same listed none = tt
nowhere x i text places noted None is same listed none = λ m its equal spelled. nowhere_among x i text places is (λ p c. subst (λ ps. Contains ps p) (sym same) (listed p c)) none m its equal spelled

-- the message at a place, by its copy
pub found_in : (ms : List Message) (i : Identity) (text : List ℕ) (place : ℕ) (m copy : Message) → All IsPrintable ms → StandsAt ms i text place → IsReadAgainAt ms place → slice_get ms place ≡ Some m → copy ≡ m → IsFoundIn ms text copy
found_in ms i text place m copy printable at again here same =
    let one : m ≡ at.message = one_some (sym here ∙ at.stands) in
    let its = is_there ms place m here in
    subst (IsFoundIn ms text) (sym same) (record {
      there = its;
      printable = All-contains IsPrintable ms m printable its;
      spelled = ap spelling one ∙ at.spelled;
      again = subst (λ b. object_of b ≡ Ok (Parcel.Message m)) (ap spelling one ∙ at.spelled) (again m here);
    })

same_message : (m n : Message) (text : List ℕ) → object_of text ≡ Ok (Parcel.Message m) → spelling n ≡ text → IsReadAgain n → n ≡ m
same_message m n text h e again =
    let both = sym again ∙ (ap object_of e ∙ h) in cc

-- a message is one of them where one of its text is
pub has_it : (ms : List Message) (i : Identity) (m : Message) (text : List ℕ) (place : Option ℕ) (is : Bool) → i ≡ identity m → text ≡ spelling m → object_of text ≡ Ok (Parcel.Message m)
    → IfSome place (StandsAt ms i text) → IfSome place (IsReadAgainAt ms) → IsNowhere ms i text place → is ≡ is_some place → (is ≡ true) ↔ Contains ms m
has_it ms i m text (Some place) is same spelled again at read none value =
    let n : Message = at.message in
    let one : n ≡ m = same_message m n text again at.spelled (read n at.stands) in
    (λ e. is_there ms place m (at.stands ∙ ap Some one), λ its. value)
has_it ms i m text None is same spelled again at read none value = (
  λ e. absurd (cc),
  λ its. absurd (none m its (sym same) (sym spelled)),
)
