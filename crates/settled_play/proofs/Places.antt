-- Nothing is said twice, so what was lost has no more places in what was said than there are parcels.
use Rattle.std.proofs.Common.{ℕ, zero, suc, ◌+◌, ◌<◌, ◌≤◌, ◌≡◌, ◌==◌, ◌&&◌, ◌||◌, not, Bool, true, false, cond, List, [], ◌∷◌, inl, inr, refl, sym, ap, ◌∙◌, subst, arith, length, get_or, eq-eqb}
use Rattle.std.specs.Prelude.{nat_lt}
use Rattle.std.specs.List.{Contains, filter}
use Rattle.std.specs.Str.{bytes_eq}
use Rattle.std.proofs.lemmas.Bool.{cases_Bool}
use Rattle.std.proofs.lemmas.List.Elements.{All-head, All-tail}
use Rattle.std.proofs.lemmas.Slice.Eq.{bytes_eq-Decides}
use Rattle.nsi_primitive.specs.Ids.{id_of}
use Rattle.nsi_primitive.specs.Kinds.{is_request_kind, kind_number}
use Rattle.nsi_primitive.specs.Messages.{identity, kind_of}
use Rattle.nsi_primitive.specs.declared.entry.Entry.{Entry}
use Rattle.nsi_primitive.specs.declared.message.Header.{Header}
use Rattle.nsi_primitive.specs.declared.message.Identity.{Identity}
use Rattle.nsi_primitive.specs.declared.message.Message.{Message}
use Rattle.nsi_primitive.specs.declared.message.Parcel.{Parcel}
use Rattle.message_retry.specs.Retry.{is_same_identity}
use Rattle.message_retry.specs.Taken.{is_taken, is_same_request}
use Rattle.connection_record.specs.Speaking.{one, tally, number_of, is_notice_kind, is_asking, is_noting, is_answering}
use Rattle.nsi_agent.specs.Homes.{Home}
use Rattle.nsi_agent.specs.Told.{told}
use Rattle.nsi_agent.specs.Said.{drawer_of}
use Rattle.agent_link.specs.declared.plan.How.{How}
use Rattle.agent_link.specs.declared.plan.ParcelKind.{ParcelKind}
use Rattle.agent_link.specs.Plans.{Plan, parcel_number}
use Rattle.agent_speech.specs.Laws.{NothingIsSaidTwice}
use Rattle.agent_speech.specs.Owing.{answers_to, is_drawn, took, before}
use Rattle.settled_play.specs.Settled.{is_loss, loses, losses, IsRepeat, LosesNone}
use Rattle.settled_play.proofs.Finding.{none_there, first_there, later_there, first_or_later}
use Rattle.settled_play.proofs.Waiting.{same_identity, identity_itself}
use Rattle.settled_play.proofs.Putting.{counted, ahead, is_more}
use Rattle.settled_play.proofs.Putting as putting

---- What was lost

-- the identity of a message, or of the one that is acknowledged
abbrev pub identity_in : Parcel → Identity
identity_in (Parcel.Message m) = identity m
identity_in (Parcel.Ack i) = i

-- the first place of a message of an identity
unfoldable pub place_of : Identity → List Message → ℕ
place_of i [] = 0
place_of i (m ∷ ms) = cond (is_same_identity i (identity m)) 0 (1 + place_of i ms)

-- the places of the parcels of a kind
unfoldable pub places_of : ℕ → List Parcel → List Message → List ℕ
places_of n [] ms = []
places_of n (p ∷ ps) ms = cond (putting.number_of p == n) (place_of (identity_in p) ms ∷ places_of n ps ms) (places_of n ps ms)

pub as_many : (n : ℕ) (ps : List Parcel) (ms : List Message) → length (places_of n ps ms) ≡ counted n ps
unfolding places_of counted
as_many n [] ms = refl
as_many n (p ∷ ps) ms = by (putting.number_of p == n) (as_many n ps ms)
  where
    by : (b : Bool) → length (places_of n ps ms) ≡ counted n ps → length (cond b (place_of (identity_in p) ms ∷ places_of n ps ms) (places_of n ps ms)) ≡ putting.one b + counted n ps
    by true r = omega (arith, r)
    by false r = omega (arith, r)

pub place_there : (n : ℕ) (ps : List Parcel) (p : Parcel) (ms : List Message) → Contains ps p → putting.number_of p ≡ n → Contains (places_of n ps ms) (place_of (identity_in p) ms)
unfolding places_of
place_there n [] p ms c e = absurd (none_there p c)
place_there n (q ∷ qs) p ms c e = elim (first_or_later q qs p c) [
  | inl same ↦
      let here : (putting.number_of q == n) ≡ true = eq-eqb (putting.number_of q) n (ap putting.number_of same ∙ e) in
      subst (λ b. Contains (cond b (place_of (identity_in q) ms ∷ places_of n qs ms) (places_of n qs ms)) (place_of (identity_in p) ms)) (sym here)
      (subst (λ (x : Parcel). Contains (place_of (identity_in q) ms ∷ places_of n qs ms) (place_of (identity_in x) ms)) same (first_there (place_of (identity_in q) ms) (places_of n qs ms)))
  | inr r ↦ later (putting.number_of q == n) (place_there n qs p ms r e)
]
  where
    later : (b : Bool) → Contains (places_of n qs ms) (place_of (identity_in p) ms) → Contains (cond b (place_of (identity_in q) ms ∷ places_of n qs ms) (places_of n qs ms)) (place_of (identity_in p) ms)
    later true c = later_there (place_of (identity_in q) ms) (places_of n qs ms) (place_of (identity_in p) ms) c
    later false c = c

---- Once

some_counts : (q : Message → Bool) (ms : List Message) (k : ℕ) (d : Message) → k < length ms → q (get_or ms k d) ≡ true → 1 ≤ tally q ms
unfolding tally
some_counts q [] k d lt e = absurd (omega (arith, lt))
some_counts q (m ∷ ms) zero d lt e = let o : one (q m) ≡ 1 = ap one e in omega (arith, o)
some_counts q (m ∷ ms) (suc k) d lt e = let r = some_counts q ms k d (omega (arith, lt)) e in omega (arith, r)

-- where no more than one of that identity was said, its place is the first
first_place : (q : Message → Bool) (i : Identity) → ((m : Message) → i ≡ identity m → q m ≡ true) → (ms : List Message) → tally q ms ≤ 1 → (k : ℕ) (d : Message) → k < length ms → i ≡ identity (get_or ms k d) → place_of i ms ≡ k
unfolding tally place_of
first_place q i h [] few k d lt e = absurd (omega (arith, lt))
first_place q i h (m ∷ ms) few zero d lt e = ap (λ b. cond b 0 (1 + place_of i ms)) (subst (λ j. is_same_identity i j ≡ true) e (identity_itself i))
first_place q i h (m ∷ ms) few (suc k) d lt e = by (is_same_identity i (identity m)) refl (λ fewer. first_place q i h ms fewer k d (omega (arith, lt)) e)
  where
    by : (b : Bool) → is_same_identity i (identity m) ≡ b → (tally q ms ≤ 1 → place_of i ms ≡ k) → cond b 0 (1 + place_of i ms) ≡ suc k
    by true s f =
        let o : one (q m) ≡ 1 = ap one (h m (same_identity i (identity m) s)) in
        let some = some_counts q ms k d (omega (arith, lt)) (h (get_or ms k d) e) in
        absurd (omega (arith, o, some, few))
    by false s f = let r = f (omega (arith, few)) in omega (arith, r)

one_most : (b : Bool) → one b ≤ 1
one_most true = omega arith
one_most false = omega arith

took_once : (h : Header) (seen : List Header) → took h seen ≤ 1
unfolding took
took_once h seen = one_most (is_taken h seen)

before_once : (number next c : ℕ) → before number next c ≤ 1
unfolding before
before_once number next c = one_most (nat_lt c (id_of number next))

both_true : (a b : Bool) → a ≡ true → b ≡ true → (a && b) ≡ true
both_true a b e f = ap (λ x. x && b) e ∙ f

same_bytes : (xs ys : List ℕ) → xs ≡ ys → bytes_eq xs ys ≡ true
same_bytes xs ys e = (bytes_eq-Decides xs ys).1 e

-- what answers like a message of the same identity
answers_alike : (m x : Message) → is_answering m.body ≡ true → identity m ≡ identity x → answers_to m.header (number_of m.body) x ≡ true
unfolding is_answering is_asking is_noting number_of
answers_alike m x a e =
    let kind : kind_of m.body ≡ kind_of x.body = ap (λ (i : Identity). i.kind) e in
    let answers : is_answering x.body ≡ true = subst (λ k. not (is_request_kind k || is_notice_kind k) ≡ true) kind a in
    let number : (kind_number (kind_of m.body) == kind_number (kind_of x.body)) ≡ true = eq-eqb (kind_number (kind_of m.body)) (kind_number (kind_of x.body)) (ap kind_number kind) in
    both_true (is_answering x.body) (is_same_request m.header x.header && (number_of m.body == number_of x.body)) answers
    (both_true (is_same_request m.header x.header) (number_of m.body == number_of x.body)
    (both_true (bytes_eq m.header.requester x.header.requester) (bytes_eq m.header.provider x.header.provider && (m.header.correlation == x.header.correlation)) (same_bytes m.header.requester x.header.requester (ap (λ (i : Identity). i.requester) e))
    (both_true (bytes_eq m.header.provider x.header.provider) (m.header.correlation == x.header.correlation) (same_bytes m.header.provider x.header.provider (ap (λ (i : Identity). i.provider) e))
    (eq-eqb m.header.correlation x.header.correlation (ap (λ (i : Identity). i.correlation) e)))) number)

drawn_alike : (m x : Message) → is_answering m.body ≡ false → identity m ≡ identity x → is_drawn m.header.correlation x ≡ true
unfolding is_answering is_asking is_noting
drawn_alike m x a e =
    let kind : kind_of m.body ≡ kind_of x.body = ap (λ (i : Identity). i.kind) e in
    both_true (is_asking x.body || is_noting x.body) (m.header.correlation == x.header.correlation) (subst (λ k. (is_request_kind k || is_notice_kind k) ≡ true) kind (not_false (is_request_kind (kind_of m.body) || is_notice_kind (kind_of m.body)) a))
    (eq-eqb m.header.correlation x.header.correlation (ap (λ (i : Identity). i.correlation) e))
  where
    not_false : (b : Bool) → not b ≡ false → b ≡ true
    not_false true q = refl
    not_false false q = absurd (cc)

-- so each place is that of its identity
pub said_once : NothingIsSaidTwice → (h : Home) (es : List Entry) (k : ℕ) (d : Message) → k < length (told h es).out → place_of (identity (get_or (told h es).out k d)) (told h es).out ≡ k
said_once law h es k d lt =
    let m : Message = get_or (told h es).out k d in
    elim (cases_Bool (is_answering m.body)) [
      | inl a ↦
          let once = (law h es).answers m.header (number_of m.body) in
          let took = took_once m.header (told h es).state.base.seen in
          first_place (answers_to m.header (number_of m.body)) (identity m) (λ x e. answers_alike m x a e) (told h es).out (omega (arith, once, took)) k d lt refl
      | inr a ↦
          let once = (law h es).drawn m.header.correlation in
          let drawn = before_once (drawer_of h.role) (told h es).state.base.next m.header.correlation in
          first_place (is_drawn m.header.correlation) (identity m) (λ x e. drawn_alike m x a e) (told h es).out (omega (arith, once, drawn)) k d lt refl
    ]

---- What is planned

-- a plan loses no more than its lines say
pub ahead_within : (kind : ParcelKind) (plan : Plan) → ahead (parcel_number kind) plan ≤ losses kind plan
unfolding ahead
ahead_within kind [] = omega arith
ahead_within kind (f ∷ fs) = by (loses kind f) (ahead_within kind fs)
  where
    by : (b : Bool) → ahead (parcel_number kind) fs ≤ losses kind fs → putting.one (b && is_more f.nth) + ahead (parcel_number kind) fs ≤ length (cond b (f ∷ filter (loses kind) fs) (filter (loses kind) fs))
    by true r = let m = putting.one_most (is_more f.nth) in omega (arith, r, m)
    by false r = omega (arith, r)

-- where it loses nothing
pub losses_none : (kind : ParcelKind) (plan : Plan) → LosesNone plan → losses kind plan ≡ 0
losses_none kind [] h = refl
losses_none kind (f ∷ fs) h = by f.how (All-head IsRepeat f fs h) (losses_none kind fs (All-tail IsRepeat f fs h))
  where
    by : (how : How) → how ≡ How.Repeat → losses kind fs ≡ 0 → length (cond (is_loss how && (parcel_number f.of == parcel_number kind)) (f ∷ filter (loses kind) fs) (filter (loses kind) fs)) ≡ 0
    by How.Repeat e r = r
    by How.Lose e r = absurd (cc)
