-- Marks, and the messages that they stand for.
use Rattle.std.proofs.Common.{◌≡◌, ℕ, List, [], ◌∷◌, ◌++◌, Bool, true, false, ◌||◌, ◌&&◌, ◌==◌, eqb, cond, All, Option, Some, None, option_map, get_or, sym, ◌∙◌, refl, ap, subst, arith, true≢false}
use Rattle.std.specs.Bool.{Decides}
use Rattle.std.specs.List.{list_any}
use Rattle.std.specs.Str.{bytes_eq}
use Rattle.std.proofs.lemmas.Bool.Decides.{Decides-and, Decides-eqb, Decides-like}
use Rattle.std.proofs.lemmas.List.Elements.{All-head, All-push, All-tail}
use Rattle.nsi_primitive.specs.Kinds.{kind_number, kinds}
use Rattle.nsi_primitive.specs.declared.kind.Kind.{Kind}
use Rattle.nsi_primitive.specs.declared.message.Header.{Header}
use Rattle.nsi_primitive.specs.declared.message.Identity.{Identity}
use Rattle.message_retry.specs.declared.exchange.Exchange.{Exchange}
use Rattle.message_retry.specs.declared.mark.Mark.{Mark}
use Rattle.message_retry.specs.Taken.{is_same_request}
use Rattle.message_retry.specs.Retry.{is_same_identity, is_heard, with_heard}
use Rattle.message_retry.specs.Names.{Keeps}
use Rattle.message_retry.specs.Exchanges.{exchange_of, header_of}
use Rattle.message_retry.specs.Marks.{header_in, mark_of, identity_at, identity_of, identities, IsMarked}
use Rattle.message_retry.proofs.ExchangeLemmas.{exchange_eq, stands_for, still_of, same_request, request_decides}

-- each kind stands at its number
kind_at : (k : Kind) → get_or kinds (kind_number k) Kind.Reserve ≡ k
unfolding kind_number
kind_at k = grind arith

-- the two parts of a message's mark
parts : (names : List (List ℕ)) (i : Identity) (m : Mark) → mark_of names i ≡ Some m
    → (exchange_of names (header_in i) ≡ Some m.exchange) × (m.kind ≡ kind_number i.kind)
parts names i m is = by (exchange_of names (header_in i)) is
  where
    by : (exchange : Option Exchange) → option_map (λ e. record { exchange = e; kind = kind_number i.kind }) exchange ≡ Some m
        → (exchange ≡ Some m.exchange) × (m.kind ≡ kind_number i.kind)
    by None k = absurd (cc)
    by (Some e) k =
        let same : record { exchange = e; kind = kind_number i.kind } ≡ m = cc in
        (ap (λ (x : Mark). Some x.exchange) same, sym (ap (λ (x : Mark). x.kind) same))

-- a mark stands for the message that it is of
pub marks_message : (names : List (List ℕ)) (i : Identity) (m : Mark) → mark_of names i ≡ Some m → identity_of names m ≡ i
marks_message names i m is =
    let p = parts names i m is in
    ap (λ h. identity_at h m.kind) (stands_for names (header_in i) m.exchange p.0)
    ∙ (ap (λ k. identity_at (header_in i) k) p.1
    ∙ ap (λ k. record { requester = i.requester; provider = i.provider; correlation = i.correlation; kind = k }) (kind_at i.kind))

pub is_marked : (names : List (List ℕ)) (i : Identity) (m : Mark) → mark_of names i ≡ Some m → IsMarked names m
is_marked names i m is = ap (mark_of names) (marks_message names i m is) ∙ is

pub mark_stays : (old new : List (List ℕ)) → Keeps old new → (i : Identity) (m : Mark) → mark_of old i ≡ Some m → mark_of new i ≡ Some m
mark_stays old new keeps i m is =
    let p = parts old i m is in
    ap (option_map (λ e. record { exchange = e; kind = kind_number i.kind })) (still_of old new keeps (header_in i) m.exchange p.0)
    ∙ ap (λ k. Some (record { exchange = m.exchange; kind = k })) (sym p.1)

-- more names change nothing
pub still_identities : (old new : List (List ℕ)) → Keeps old new → (ms : List Mark) → All (IsMarked old) ms → identities new ms ≡ identities old ms
still_identities old new keeps [] all = refl
still_identities old new keeps (m ∷ ms) all =
    let same = marks_message new (identity_of old m) m (mark_stays old new keeps (identity_of old m) m (All-head (IsMarked old) m ms all)) in
    ap (λ i. i ∷ identities new ms) same ∙ ap (λ is. identity_of old m ∷ is) (still_identities old new keeps ms (All-tail (IsMarked old) m ms all))

pub still_marked : (old new : List (List ℕ)) → Keeps old new → (ms : List Mark) → All (IsMarked old) ms → All (IsMarked new) ms
still_marked old new keeps ms all k d within = is_marked new _ _ (mark_stays old new keeps _ _ (all k d within))

abbrev pub mark_eq : Mark → Mark → Bool
mark_eq a b = exchange_eq a.exchange b.exchange && eqb a.kind b.kind

and_assoc : (a b c d : Bool) → ((a && (b && c)) && d) ≡ (a && (b && (c && d)))
and_assoc true true c d = refl
and_assoc true false c d = refl
and_assoc false b c d = refl

-- two messages are the same where their requests would be and their kinds are
by_request : (i j : Identity) → (is_same_request (header_in i) (header_in j) && (kind_number i.kind == kind_number j.kind)) ≡ is_same_identity i j
by_request i j = and_assoc (bytes_eq i.requester j.requester) (bytes_eq i.provider j.provider) (i.correlation == j.correlation) (kind_number i.kind == kind_number j.kind)

pub identity_decides : (i j : Identity) → Decides (is_same_identity i j) (i ≡ j)
identity_decides i j =
    Decides-like _ is are (let both = Decides-and _ _ (request_decides (header_in i) (header_in j)) (Decides-eqb (kind_number i.kind) (kind_number j.kind)) in
    subst (λ b. Decides b ((header_in i ≡ header_in j) × (kind_number i.kind ≡ kind_number j.kind))) (by_request i j) both)
  where
    is : (header_in i ≡ header_in j) × (kind_number i.kind ≡ kind_number j.kind) → i ≡ j
    is p =
        let same_kind = sym (kind_at i.kind) ∙ (ap (λ n. get_or kinds n Kind.Reserve) p.1 ∙ kind_at j.kind) in
        ap (λ (h : Header). record { requester = h.requester; provider = h.provider; correlation = h.correlation; kind = i.kind }) p.0
        ∙ ap (λ k. record { requester = j.requester; provider = j.provider; correlation = j.correlation; kind = k }) same_kind

    are : i ≡ j → (header_in i ≡ header_in j) × (kind_number i.kind ≡ kind_number j.kind)
    are e = (ap header_in e, ap (λ (x : Identity). kind_number x.kind) e)

-- a test of marks is a test of the messages that they stand for
same_mark : (names : List (List ℕ)) (i : Identity) (m x : Mark) → mark_of names i ≡ Some m → IsMarked names x → mark_eq m x ≡ is_same_identity i (identity_of names x)
same_mark names i m x is marked =
    let p = parts names i m is in
    let q = parts names (identity_of names x) x marked in
    ap (λ b. b && eqb m.kind x.kind) (same_request names (header_in i) m.exchange x.exchange p.0 q.0)
    ∙ (ap (λ k. is_same_request (header_in i) (header_of names x.exchange) && eqb k x.kind) p.1
    ∙ (ap (λ k. is_same_request (header_in i) (header_of names x.exchange) && eqb (kind_number i.kind) k) q.1
    ∙ by_request i (identity_of names x)))

pub heard_any : (names : List (List ℕ)) (i : Identity) (m : Mark) → mark_of names i ≡ Some m → (ms : List Mark) → All (IsMarked names) ms
    → list_any (mark_eq m) ms ≡ is_heard i (identities names ms)
unfolding is_heard
heard_any names i m is [] all = refl
heard_any names i m is (x ∷ ms) all =
    ap (λ b. b || list_any (mark_eq m) ms) (same_mark names i m x is (All-head (IsMarked names) x ms all))
    ∙ ap (λ b. is_same_identity i (identity_of names x) || b) (heard_any names i m is ms (All-tail (IsMarked names) x ms all))

-- a message of an agent that has no place was never heard
pub never_heard : (names : List (List ℕ)) (i : Identity) → mark_of names i ≡ None → (ms : List Mark) → All (IsMarked names) ms → is_heard i (identities names ms) ≡ false
unfolding is_heard
never_heard names i none [] all = refl
never_heard names i none (x ∷ ms) all =
    ap (λ b. b || list_any (is_same_identity i) (identities names ms)) (by (is_same_identity i (identity_of names x)) refl)
    ∙ never_heard names i none ms (All-tail (IsMarked names) x ms all)
  where
    by : (b : Bool) → is_same_identity i (identity_of names x) ≡ b → b ≡ false
    by false t = refl
    by true t =
        let same = (identity_decides i (identity_of names x)).0 t in
        let some : None ≡ Some x = sym none ∙ (ap (mark_of names) same ∙ All-head (IsMarked names) x ms all) in
        absurd (cc)

identities-push : (names : List (List ℕ)) (ms : List Mark) (m : Mark) → identities names (ms ++ m ∷ []) ≡ identities names ms ++ identity_of names m ∷ []
identities-push names [] m = refl
identities-push names (x ∷ ms) m = ap (λ is. identity_of names x ∷ is) (identities-push names ms m)

-- one mark more is one message more
pub identities-more : (names : List (List ℕ)) (i : Identity) (m : Mark) → mark_of names i ≡ Some m → (ms : List Mark) → All (IsMarked names) ms
    → identities names (cond (list_any (mark_eq m) ms) ms (ms ++ m ∷ [])) ≡ with_heard i (identities names ms)
unfolding with_heard
identities-more names i m is ms all = by (list_any (mark_eq m) ms) (is_heard i (identities names ms)) (heard_any names i m is ms all)
  where
    by : (a b : Bool) → a ≡ b → identities names (cond a ms (ms ++ m ∷ [])) ≡ cond b (identities names ms) (identities names ms ++ i ∷ [])
    by true true q = refl
    by false false q = identities-push names ms m ∙ ap (λ x. identities names ms ++ x ∷ []) (marks_message names i m is)
    by true false q = absurd (true≢false q)
    by false true q = absurd (true≢false (sym q))

pub marked-more : (names : List (List ℕ)) (m : Mark) → IsMarked names m → (ms : List Mark) → All (IsMarked names) ms → (b : Bool) → All (IsMarked names) (cond b ms (ms ++ m ∷ []))
marked-more names m is ms all true = all
marked-more names m is ms all false = All-push (IsMarked names) ms m all is
