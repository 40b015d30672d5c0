-- Whatever the parent does, a view waits on for the confirmation of its commit until it is heard.
use Rattle.std.proofs.Common.{ℕ, ◌≡◌, ◌≤◌, ◌∙◌, ◌⊎◌, inl, inr, Bool, true, false, List, [], ◌∷◌, ◌++◌, Contains, Option, Some, None, length, length-append, bytes_eq, refl, sym, ap, subst, arith, true≢false}
use Rattle.std.proofs.lemmas.Bool.{cases_eq}
use Rattle.std.proofs.lemmas.Slice.Eq.{bytes_eq-Decides}
use Rattle.nsi_primitive.specs.Messages.{identity}
use Rattle.nsi_primitive.specs.declared.entry.Input.{Input}
use Rattle.nsi_primitive.specs.declared.kind.Kind.{Kind}
use Rattle.nsi_primitive.specs.declared.message.Body.{Body}
use Rattle.nsi_primitive.specs.declared.message.Identity.{Identity}
use Rattle.nsi_primitive.specs.declared.message.Message.{Message}
use Rattle.message_retry.specs.Retry.{is_heard}
use Rattle.record_index.proofs.Members.{nothing_in}
use Rattle.connection_record.specs.Moves.{is_working}
use Rattle.connection_record.specs.Speaking.{is_answering, owed}
use Rattle.child_connection.specs.Views.{ChildConnection, is_kind, is_open_of, sent}
use Rattle.child_connection.specs.Hearing.{Heard, hear, hear_from, heard_if, hears, idle, push_version}
use Rattle.child_connection.specs.Holding.{is_response, settles, Commits, IsHeeded, IsSameReservation}
use Rattle.child_connection.specs.declared.state.Taken.{Taken}
use Rattle.child_connection.specs.declared.state.Sent.{Sent}
use Rattle.child_connection.proofs.Learning.{messages_commit}
use Rattle.child_connection.proofs.Reservations.{settling_changes}
use Rattle.agent_state.specs.State.{record_at}
use Rattle.circuit_link.specs.Children.{Child, MayReach, about, record_of, side_of}
use Rattle.circuit_link.specs.Headers.{header_of}
use Rattle.circuit_link.specs.Links.{IsCalm, IsForetold, Link, Pending}
use Rattle.circuit_link.specs.Sides.{Side}
use Rattle.circuit_link.proofs.Abouts.{headers_same}
use Rattle.circuit_link.proofs.Hearing.{other_same, rows_unheard}
use Rattle.circuit_link.proofs.Likeness.{open_itself}
use Rattle.circuit_pairs.specs.Laws.{CanTellApart}
use Rattle.circuit_pairs.specs.Minding.{Minds}
use Rattle.circuit_pairs.specs.Pairs.{IsPair}
use Rattle.circuit_pairs.proofs.Minding.{notice_alike}
use Rattle.known_commits.proofs.Owing.{confirming, owes_committing}
use Rattle.known_commits.proofs.Waiting.{AreWaited, IsWaited, IsWaiting, OwedIsWaited, confirmation_is, confirmation_of, waiting_same}

---- One view and what was said

response_settles : (b : Body) → is_response b ≡ true → settles b ≡ false
unfolding is_response settles
response_settles b e = grind arith

no_response : (id : ℕ) → is_response (Body.ReserveCommitConfirmed id) ≡ true → ⊥
unfolding is_response
no_response id e = absurd (cc)

open_commit : (o : Option Sent) (c : ℕ) → o ≡ Some (sent c Kind.ReserveCommit) → is_open_of o Kind.ReserveCommit c ≡ true
unfolding is_kind
open_commit o c e = grind (arith, e)

confirmed_commits : (id c version : ℕ) (x : ChildConnection) → IsWaiting c version x → (hears (Body.ReserveCommitConfirmed id) c x).view.committed ≡ x.committed ++ version ∷ []
unfolding hears
confirmed_commits id c version x w = by (is_open_of x.reserve_request Kind.ReserveCommit c) (open_commit x.reserve_request c w.asked)
  where
    by : (t : Bool) → t ≡ true → (heard_if t (Taken.Answered Kind.ReserveCommit) (idle None (record x { committed = push_version x.committed x.pending })) x).view.committed ≡ x.committed ++ version ∷ []
    by true h = ap (push_version x.committed) w.pending
    by false h = absurd (cc)

-- The request ends: it isn't worked on any more, and what ended it is the confirmation, or there is none.
pub record Ends (c : ℕ) (s : Side) (b : Body) (e : ℕ) : Type 0 where
  pub under : e ≡ c
  pub idle : is_working s.rec.rsm ≡ false
  pub confirms : ((id : ℕ) × (b ≡ Body.ReserveCommitConfirmed id)) ⊎ ((id : ℕ) → Contains (s.said c) (Body.ReserveCommitConfirmed id) → ⊥)

same_request : (c d : ℕ) (k l : Kind) → Some (sent c k) ≡ Some (sent d l) → (c ≡ d) × (k ≡ l)
same_request c d k l e = let q : sent c k ≡ sent d l = cc in (ap (λ (z : Sent). z.correlation) q, ap (λ (z : Sent). z.kind) q)

longer : (xs : List ℕ) (v : ℕ) → xs ++ v ∷ [] ≡ xs → ⊥
longer xs v e = absurd (omega (arith, length-append xs (v ∷ []), ap length e))

module _ (c version : ℕ) (x : ChildConnection) (s : Side) (w : IsWaiting c version x) (b : Body) where
  -- what answers it without being the confirmation isn't said beside one
  no_other : IsCalm (hears b c x).view s → (hears b c x).view.committed ≡ x.committed → ((b : Body) → Contains (s.said c) b → IsForetold c x s b) → (id : ℕ) → Contains (s.said c) (Body.ReserveCommitConfirmed id) → ⊥
  no_other calm same told id i = by (told (Body.ReserveCommitConfirmed id) i)
    where
      by : IsForetold c x s (Body.ReserveCommitConfirmed id) → ⊥
      by (inl r) = no_response id r
      by (inr h) = longer x.committed version (sym (confirmed_commits id c version x w) ∙ (h.quiet.same ∙ (sym calm.quiet.same ∙ same)))

  ends_by : is_working s.rec.rsm ≡ false → IsCalm (hears b c x).view s → ((b : Body) → Contains (s.said c) b → IsForetold c x s b) → Commits b c x (hears b c x).view → Ends c s b c
  ends_by idle calm told (inl same) = record { under = refl; idle = idle; confirms = inr (no_other calm same told) }
  ends_by idle calm told (inr g) = record { under = refl; idle = idle; confirms = inl (g.0, g.1) }

  answered : Contains (s.said c) b → Pending c x s → IsSameReservation x (hears b c x).view ⊎ Ends c s b c
  answered i (Pending.unseen u none calm) = absurd (nothing_in b (subst (λ (bs : List Body). Contains bs b) none i))
  answered i (Pending.working u works responses) = inl (settling_changes b c x (response_settles b (responses b i)))
  answered i (Pending.told u told idle may answer there its) = by (told b i)
    where
      by : IsForetold c x s b → IsSameReservation x (hears b c x).view ⊎ Ends c s b c
      by (inl r) = inl (settling_changes b c x (response_settles b r))
      by (inr calm) = inr (ends_by idle calm told (messages_commit b c x))

  pub waits_on : (e : ℕ) → Link x s → Contains (s.said e) b → IsSameReservation x (hears b e x).view ⊎ Ends c s b e
  waits_on e (Link.calm h) i = absurd (let z = sym w.asked ∙ h.quiet.none in cc)
  waits_on e (Link.asked d k r phase attempt pending) i = by (cases_eq e c)
    where
      same : (c ≡ d) × (Kind.ReserveCommit ≡ k)
      same = same_request c d Kind.ReserveCommit k (sym w.asked ∙ r)

      by : (e ≡ c) ⊎ (e ≡ c → ⊥) → IsSameReservation x (hears b e x).view ⊎ Ends c s b e
      by (inl q) =
          subst (λ (z : ℕ). IsSameReservation x (hears b z x).view ⊎ Ends c s b z) (sym q)
          (answered (subst (λ (z : ℕ). Contains (s.said z) b) q i) (subst (λ (z : ℕ). Pending z x s) (sym same.0) pending))
      by (inr n) = inl (other_same b e d k x (λ q. n (q ∙ sym same.0)) r phase attempt)

---- All views of the parent

module _ (I : Type 0) (dec : CanTellApart I) (parent child : List ℕ) (asked : List Message) (d : Child) (c : ℕ) (input : Input) (xs ys : I → ChildConnection) (more : List Message) (minds : Minds I parent child c input xs ys more)
    (pair : IsPair I parent child xs asked d)
    (reach : (m : Message) → input ≡ Input.Got m → is_answering m.body ≡ true → m.header.provider ≡ child → (m.header.requester ≡ parent) × MayReach (header_of parent child m.header.correlation) d.said m.body)
    (old new : List Identity) (grows : (i : Identity) → is_heard i old ≡ true → is_heard i new ≡ true)
    (notes : (m : Message) → input ≡ Input.Got m → is_answering m.body ≡ true → ((i : I) → ys i ≡ xs i) ⊎ (is_heard (identity m) new ≡ true)) where
  -- a message of the child that ends the request of a view
  record EndsBy (i : I) (e : ℕ) : Type 0 where
    message : Message
    got : input ≡ Input.Got message
    answers : is_answering message.body ≡ true
    provider : message.header.provider ≡ child
    requester : message.header.requester ≡ parent
    ends : Ends e (side_of parent child (pair.place i) d) message.body message.header.correlation

  heard_waits : (i : I) (e version : ℕ) (m : Message) → input ≡ Input.Got m → IsWaiting e version (xs i) → IsSameReservation (xs i) (hear m (xs i)).view ⊎ EndsBy i e
  heard_waits i e version m got w = by_sender (bytes_eq m.header.provider (xs i).child) refl
    where
      y : ChildConnection
      y = (hears m.body m.header.correlation (xs i)).view

      told : is_answering m.body ≡ true → m.header.provider ≡ child → m.header.requester ≡ parent → Contains (about (header_of parent child m.header.correlation) d.said) m.body → IsSameReservation (xs i) y ⊎ EndsBy i e
      told answers from to said = by (waits_on e version (xs i) (side_of parent child (pair.place i) d) w m.body m.header.correlation (pair.mates i).linked said)
        where
          by : IsSameReservation (xs i) y ⊎ Ends e (side_of parent child (pair.place i) d) m.body m.header.correlation → IsSameReservation (xs i) y ⊎ EndsBy i e
          by (inl same) = inl same
          by (inr ends) = inr (record { message = m; got = got; answers = answers; provider = from; requester = to; ends = ends })

      reached : is_answering m.body ≡ true → m.header.provider ≡ child → m.header.requester ≡ parent → MayReach (header_of parent child m.header.correlation) d.said m.body → IsSameReservation (xs i) y ⊎ EndsBy i e
      reached answers from to (inl said) = told answers from to said
      reached answers from to (inr rows) =
          inl
          (subst (λ (z : ChildConnection). IsSameReservation (xs i) z) (sym (ap (λ (h : Heard). h.view) (rows_unheard m.body m.header.correlation (xs i) rows)))
          (record { request = refl; phase = refl; before = refl; attempt = refl; pending = refl; committed = refl }))

      by_kind : (t : Bool) → is_answering m.body ≡ t → m.header.provider ≡ child → IsSameReservation (xs i) y ⊎ EndsBy i e
      by_kind true answers from = let g = reach m got answers from in reached answers from g.0 g.1
      by_kind false answers from = inl (notice_alike m.body m.header.correlation (xs i) answers).reservation

      by_sender : (t : Bool) → bytes_eq m.header.provider (xs i).child ≡ t → IsSameReservation (xs i) (hear_from t m (xs i)).view ⊎ EndsBy i e
      by_sender true q = by_kind (is_answering m.body) refl ((bytes_eq-Decides m.header.provider (xs i).child).0 q ∙ pair.children i)
      by_sender false q = inl (record { request = refl; phase = refl; before = refl; attempt = refl; pending = refl; committed = refl })

  -- so a view waits on, or hears a message that ends its request
  view_waits : (i : I) (e version : ℕ) → Minds I parent child c input xs ys more → IsWaiting e version (xs i) → IsWaiting e version (ys i) ⊎ EndsBy i e
  view_waits i e version (Minds.rests alike none) w = inl (waiting_same e version (xs i) (ys i) (alike i).reservation w)
  view_waits i e version (Minds.asked j k m is of_kind kind head named free alike there) w = by (dec i j)
    where
      by : (i ≡ j) ⊎ (i ≡ j → ⊥) → IsWaiting e version (ys i) ⊎ EndsBy i e
      by (inl q) = absurd (let z = sym w.asked ∙ (ap (λ (l : I). (xs l).reserve_request) q ∙ free) in cc)
      by (inr n) = inl (subst (IsWaiting e version) (sym (there i n)) w)
  view_waits i e version (Minds.heard m got none alike) w = by (heard_waits i e version m got w)
    where
      by : IsSameReservation (xs i) (hear m (xs i)).view ⊎ EndsBy i e → IsWaiting e version (ys i) ⊎ EndsBy i e
      by (inl same) = inl (waiting_same e version (hear m (xs i)).view (ys i) (alike i).reservation (waiting_same e version (xs i) (hear m (xs i)).view same w))
      by (inr ends) = inr ends

  -- a record that owes the confirmation to a view that waits works on it
  its_place : (i : I) (e version n : ℕ) → IsWaiting e version (xs i) → (record_at n d.records).owner ≡ parent → 1 ≤ owed e confirming (record_at n d.records) → pair.place i ≡ Some n
  its_place i e version n w own o = by (pair.place i) refl
    where
      heeded : IsHeeded (xs i) e
      heeded = inr (open_itself (xs i).reserve_request e Kind.ReserveCommit w.asked)

      other : (pair.place i ≡ Some n → ⊥) → pair.place i ≡ Some n
      other f = absurd (omega (arith, o, (pair.mates i).seated.others n f own e heeded confirming))

      by : (p : Option ℕ) → pair.place i ≡ p → pair.place i ≡ Some n
      by None q = other (λ f. absurd (let z = sym q ∙ f in cc))
      by (Some k) q = by_number (cases_eq k n)
        where
          by_number : (k ≡ n) ⊎ (k ≡ n → ⊥) → pair.place i ≡ Some n
          by_number (inl same) = q ∙ ap (λ (z : ℕ). Some z) same
          by_number (inr apart) = other (λ f. apart (same_number k n (sym q ∙ f)))
            where
              same_number : (a b : ℕ) → Some a ≡ Some b → a ≡ b
              same_number a b g = cc

  working_still : (i : I) (e n : ℕ) → pair.place i ≡ Some n → 1 ≤ owed e confirming (record_at n d.records) → is_working (record_of (pair.place i) d.records).rsm ≡ true
  unfolding record_of is_working
  working_still i e n p o = ap (λ (q : Option ℕ). is_working (record_of q d.records).rsm) p ∙ ap is_working (owes_committing e (record_at n d.records) o)

  owing_still : OwedIsWaited I parent xs d.records → OwedIsWaited I parent ys d.records
  owing_still waited n e own o =
      let v : IsWaited I xs e = waited n e own o in
      by v (view_waits v.view e v.version minds v.waits)
    where
      by : (v : IsWaited I xs e) → IsWaiting e v.version (ys v.view) ⊎ EndsBy v.view e → IsWaited I ys e
      by v (inl w) = record { view = v.view; version = v.version; waits = w }
      by v (inr ends) =
          absurd (true≢false (sym (working_still v.view e n (its_place v.view e v.version n v.waits own o) o) ∙ ends.ends.idle))

  heard_identity : (m : Message) (e id : ℕ) → m.header.provider ≡ child → m.header.requester ≡ parent → m.header.correlation ≡ e → m.body ≡ Body.ReserveCommitConfirmed id → identity m ≡ confirmation_of parent child e
  heard_identity m e id from to under is = confirmation_is parent child m e id (headers_same m.header.correlation e m.header.requester parent m.header.provider child under to from) is

  said_still : (e id : ℕ) → Contains (about (header_of parent child e) d.said) (Body.ReserveCommitConfirmed id) → (is_heard (confirmation_of parent child e) old ≡ true) ⊎ IsWaited I xs e →
      (is_heard (confirmation_of parent child e) new ≡ true) ⊎ IsWaited I ys e
  said_still e id said (inl was) = inl (grows (confirmation_of parent child e) was)
  said_still e id said (inr v) = by (view_waits v.view e v.version minds v.waits)
    where
      noted : (z : EndsBy v.view e) (n : ℕ) → z.message.body ≡ Body.ReserveCommitConfirmed n → ((i : I) → ys i ≡ xs i) ⊎ (is_heard (identity z.message) new ≡ true) →
          (is_heard (confirmation_of parent child e) new ≡ true) ⊎ IsWaited I ys e
      noted z n is (inl same) = inr (record { view = v.view; version = v.version; waits = subst (IsWaiting e v.version) (sym (same v.view)) v.waits })
      noted z n is (inr now) = inl (subst (λ (i : Identity). is_heard i new ≡ true) (heard_identity z.message e n z.provider z.requester z.ends.under is) now)

      ended : (z : EndsBy v.view e) → ((n : ℕ) × (z.message.body ≡ Body.ReserveCommitConfirmed n)) ⊎ ((n : ℕ) → Contains (about (header_of parent child e) d.said) (Body.ReserveCommitConfirmed n) → ⊥) →
          (is_heard (confirmation_of parent child e) new ≡ true) ⊎ IsWaited I ys e
      ended z (inl (n, is)) = noted z n is (notes z.message z.got z.answers)
      ended z (inr never) = absurd (never id said)

      by : IsWaiting e v.version (ys v.view) ⊎ EndsBy v.view e → (is_heard (confirmation_of parent child e) new ≡ true) ⊎ IsWaited I ys e
      by (inl w) = inr (record { view = v.view; version = v.version; waits = w })
      by (inr z) = ended z z.ends.confirms

  -- an entry of the parent
  pub minded_waited : AreWaited I parent child old xs d → AreWaited I parent child new ys d
  minded_waited waited = record { owing = owing_still waited.owing; said = λ e id i. said_still e id i (waited.said e id i) }
