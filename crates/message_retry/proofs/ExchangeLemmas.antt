-- Exchanges, and the requests that they stand for.
use Rattle.std.proofs.Common.{◌≡◌, ℕ, List, [], ◌∷◌, ◌++◌, Bool, true, false, ◌||◌, ◌&&◌, eqb, cond, All, Option, Some, None, option_map, sym, ◌∙◌, refl, ap, true≢false}
use Rattle.std.specs.Bool.{Decides}
use Rattle.std.specs.List.{list_any}
use Rattle.std.specs.Option.{option_and_then}
use Rattle.std.proofs.lemmas.Bool.Decides.{Decides-and, Decides-eqb, Decides-like, same_from_decides}
use Rattle.std.proofs.lemmas.List.Elements.{All-head, All-push, All-tail}
use Rattle.std.proofs.lemmas.Slice.Eq.{bytes_eq-Decides}
use Rattle.nsi_primitive.specs.declared.message.Header.{Header}
use Rattle.message_retry.specs.declared.exchange.Exchange.{Exchange}
use Rattle.message_retry.specs.Taken.{is_same_request, is_taken, with_taken}
use Rattle.message_retry.specs.Names.{place_of, name_at, Keeps}
use Rattle.message_retry.specs.Exchanges.{exchange_of, header_of, headers, IsPlaced}
use Rattle.message_retry.proofs.NameLemmas.{found}

-- the two places of a request's exchange
places : (names : List (List ℕ)) (h : Header) (e : Exchange) → exchange_of names h ≡ Some e
    → (place_of names h.requester ≡ Some e.requester) × (place_of names h.provider ≡ Some e.provider) × (e.correlation ≡ h.correlation)
places names h e is = by (place_of names h.requester) (place_of names h.provider) is
  where
    by : (requester provider : Option ℕ) → option_and_then (λ r. option_map (λ p. record { requester = r; provider = p; correlation = h.correlation }) provider) requester ≡ Some e
        → (requester ≡ Some e.requester) × (provider ≡ Some e.provider) × (e.correlation ≡ h.correlation)
    by None _ k = absurd (cc)
    by (Some r) None k = absurd (cc)
    by (Some r) (Some p) k =
        let same : record { requester = r; provider = p; correlation = h.correlation } ≡ e = cc in
        (ap (λ (x : Exchange). Some x.requester) same, ap (λ (x : Exchange). Some x.provider) same, sym (ap (λ (x : Exchange). x.correlation) same))

-- an exchange stands for the request that it is of
pub stands_for : (names : List (List ℕ)) (h : Header) (e : Exchange) → exchange_of names h ≡ Some e → header_of names e ≡ h
stands_for names h e is =
    let p = places names h e is in
    ap (λ x. record { correlation = e.correlation; requester = x; provider = name_at names e.provider }) (found names h.requester e.requester p.0)
    ∙ (ap (λ x. record { correlation = e.correlation; requester = h.requester; provider = x }) (found names h.provider e.provider p.1)
    ∙ ap (λ x. record { correlation = x; requester = h.requester; provider = h.provider }) p.2)

pub is_placed : (names : List (List ℕ)) (h : Header) (e : Exchange) → exchange_of names h ≡ Some e → IsPlaced names e
is_placed names h e is = ap (exchange_of names) (stands_for names h e is) ∙ is

pub still_of : (old new : List (List ℕ)) → Keeps old new → (h : Header) (e : Exchange) → exchange_of old h ≡ Some e → exchange_of new h ≡ Some e
still_of old new keeps h e is =
    let p = places old h e is in
    ap (λ o. option_and_then (λ r. option_map (λ p. record { requester = r; provider = p; correlation = h.correlation }) (place_of new h.provider)) o) (keeps h.requester e.requester p.0)
    ∙ (ap (λ o. option_map (λ p. record { requester = e.requester; provider = p; correlation = h.correlation }) o) (keeps h.provider e.provider p.1)
    ∙ ap (λ c. Some (record { requester = e.requester; provider = e.provider; correlation = c })) (sym p.2))

-- more names change nothing
pub still_headers : (old new : List (List ℕ)) → Keeps old new → (es : List Exchange) → All (IsPlaced old) es → headers new es ≡ headers old es
still_headers old new keeps [] all = refl
still_headers old new keeps (e ∷ es) all =
    let same = stands_for new (header_of old e) e (still_of old new keeps (header_of old e) e (All-head (IsPlaced old) e es all)) in
    ap (λ h. h ∷ headers new es) same ∙ ap (λ hs. header_of old e ∷ hs) (still_headers old new keeps es (All-tail (IsPlaced old) e es all))

pub still_placed : (old new : List (List ℕ)) → Keeps old new → (es : List Exchange) → All (IsPlaced old) es → All (IsPlaced new) es
still_placed old new keeps es all k d within = is_placed new _ _ (still_of old new keeps _ _ (all k d within))

abbrev pub exchange_eq : Exchange → Exchange → Bool
exchange_eq a b = eqb a.requester b.requester && (eqb a.provider b.provider && eqb a.correlation b.correlation)

pub exchange_decides : (a b : Exchange) → Decides (exchange_eq a b) (a ≡ b)
exchange_decides a b = Decides-like _ is parts (Decides-and _ _ (Decides-eqb a.requester b.requester) (Decides-and _ _ (Decides-eqb a.provider b.provider) (Decides-eqb a.correlation b.correlation)))
  where
    is : (a.requester ≡ b.requester) × ((a.provider ≡ b.provider) × (a.correlation ≡ b.correlation)) → a ≡ b
    is p =
        ap (λ x. record { requester = x; provider = a.provider; correlation = a.correlation }) p.0
        ∙ (ap (λ x. record { requester = b.requester; provider = x; correlation = a.correlation }) p.1.0
        ∙ ap (λ x. record { requester = b.requester; provider = b.provider; correlation = x }) p.1.1)

    parts : a ≡ b → (a.requester ≡ b.requester) × ((a.provider ≡ b.provider) × (a.correlation ≡ b.correlation))
    parts e = (ap (λ (x : Exchange). x.requester) e, (ap (λ (x : Exchange). x.provider) e, ap (λ (x : Exchange). x.correlation) e))

pub request_decides : (a b : Header) → Decides (is_same_request a b) (a ≡ b)
request_decides a b = Decides-like _ is parts (Decides-and _ _ (bytes_eq-Decides a.requester b.requester) (Decides-and _ _ (bytes_eq-Decides a.provider b.provider) (Decides-eqb a.correlation b.correlation)))
  where
    is : (a.requester ≡ b.requester) × ((a.provider ≡ b.provider) × (a.correlation ≡ b.correlation)) → a ≡ b
    is p =
        ap (λ x. record { correlation = a.correlation; requester = x; provider = a.provider }) p.0
        ∙ (ap (λ x. record { correlation = a.correlation; requester = b.requester; provider = x }) p.1.0
        ∙ ap (λ x. record { correlation = x; requester = b.requester; provider = b.provider }) p.1.1)

    parts : a ≡ b → (a.requester ≡ b.requester) × ((a.provider ≡ b.provider) × (a.correlation ≡ b.correlation))
    parts e = (ap (λ (x : Header). x.requester) e, (ap (λ (x : Header). x.provider) e, ap (λ (x : Header). x.correlation) e))

-- a test of exchanges is a test of the requests that they stand for
pub same_request : (names : List (List ℕ)) (h : Header) (e x : Exchange) → exchange_of names h ≡ Some e → IsPlaced names x → exchange_eq e x ≡ is_same_request h (header_of names x)
same_request names h e x is placed = same_from_decides _ _ (Decides-like _ forth back (exchange_decides e x)) (request_decides h (header_of names x))
  where
    forth : e ≡ x → h ≡ header_of names x
    forth same = sym (stands_for names h e is) ∙ ap (header_of names) same

    back : h ≡ header_of names x → e ≡ x
    back same = let some : Some e ≡ Some x = sym is ∙ (ap (exchange_of names) same ∙ placed) in cc

pub taken_any : (names : List (List ℕ)) (h : Header) (e : Exchange) → exchange_of names h ≡ Some e → (es : List Exchange) → All (IsPlaced names) es → list_any (exchange_eq e) es ≡ is_taken h (headers names es)
unfolding is_taken
taken_any names h e is [] all = refl
taken_any names h e is (x ∷ es) all =
    ap (λ b. b || list_any (exchange_eq e) es) (same_request names h e x is (All-head (IsPlaced names) x es all))
    ∙ ap (λ b. is_same_request h (header_of names x) || b) (taken_any names h e is es (All-tail (IsPlaced names) x es all))

-- a request of an agent that has no place was never taken
pub never_taken : (names : List (List ℕ)) (h : Header) → exchange_of names h ≡ None → (es : List Exchange) → All (IsPlaced names) es → is_taken h (headers names es) ≡ false
unfolding is_taken
never_taken names h none [] all = refl
never_taken names h none (x ∷ es) all =
    ap (λ b. b || list_any (is_same_request h) (headers names es)) (by (is_same_request h (header_of names x)) refl)
    ∙ never_taken names h none es (All-tail (IsPlaced names) x es all)
  where
    by : (b : Bool) → is_same_request h (header_of names x) ≡ b → b ≡ false
    by false t = refl
    by true t =
        let same = (request_decides h (header_of names x)).0 t in
        let some : None ≡ Some x = sym none ∙ (ap (exchange_of names) same ∙ All-head (IsPlaced names) x es all) in
        absurd (cc)

headers-push : (names : List (List ℕ)) (es : List Exchange) (e : Exchange) → headers names (es ++ e ∷ []) ≡ headers names es ++ header_of names e ∷ []
headers-push names [] e = refl
headers-push names (x ∷ es) e = ap (λ hs. header_of names x ∷ hs) (headers-push names es e)

-- one exchange more is one request more
pub headers-more : (names : List (List ℕ)) (h : Header) (e : Exchange) → exchange_of names h ≡ Some e → (es : List Exchange) → All (IsPlaced names) es
    → headers names (cond (list_any (exchange_eq e) es) es (es ++ e ∷ [])) ≡ with_taken h (headers names es)
unfolding with_taken
headers-more names h e is es all = by (list_any (exchange_eq e) es) (is_taken h (headers names es)) (taken_any names h e is es all)
  where
    by : (a b : Bool) → a ≡ b → headers names (cond a es (es ++ e ∷ [])) ≡ cond b (headers names es) (headers names es ++ h ∷ [])
    by true true q = refl
    by false false q = headers-push names es e ∙ ap (λ x. headers names es ++ x ∷ []) (stands_for names h e is)
    by true false q = absurd (true≢false q)
    by false true q = absurd (true≢false (sym q))

pub placed-more : (names : List (List ℕ)) (e : Exchange) → IsPlaced names e → (es : List Exchange) → All (IsPlaced names) es → (b : Bool) → All (IsPlaced names) (cond b es (es ++ e ∷ []))
placed-more names e is es all true = all
placed-more names e is es all false = All-push (IsPlaced names) es e all is
