-- Which ends an agent has once each two agents that have a link are joined.
use Rattle.std.proofs.Common.{◌||◌, Option, Some, None, length, if◌then◌else◌, ℕ, zero, suc, ◌+◌, ◌-◌, ◌<◌, ◌≤◌, ◌≡◌, ◌==◌, Bool, true, false, cond, List, [], ◌∷◌, ◌++◌, inl, inr, refl, sym, ap, ap₂, ◌∙◌, subst, arith, append_assoc, append-nil, eq-eqb, ne_eqb, nat_lt, filter}
use Rattle.std.specs.Prelude.{slice_get}
use Rattle.std.specs.List.{range_with_len, list_any}
use Rattle.std.proofs.lemmas.Bool.{cases_Bool, cases_eq, true≢false}
use Rattle.std.proofs.lemmas.List.Elements.{filter-append}
use Rattle.stp_topology.specs.declared.network.AgentKind.{AgentKind}
use Rattle.stp_topology.specs.declared.network.Network.{Network}
use Rattle.stp_topology.specs.Network.{kind_of, children_of}
use Rattle.stp_topology.specs.Laws.{IsWellFormed}
use Rattle.agent_node.specs.Openings.{is_provider_of, asks, are_linked, agents, others_of}
use Rattle.agent_threads.specs.Nets.{IsAbsent}
use Rattle.net_run.specs.declared.joints.Joint.{Joint}
use Rattle.net_run.specs.Joints.{ends_of, two, added, ends_when, AreJoined}

added_append : (a : ℕ) (cs ds : List ℕ) (b : ℕ) → added a (cs ++ ds) b ≡ added a cs b ++ added a ds b
added_append a [] ds b = refl
added_append a (c ∷ cs) ds b =
    ap (λ (xs : List ℕ). cond (nat_lt c a) (two a c b) [] ++ xs) (added_append a cs ds b) ∙ sym (append_assoc (cond (nat_lt c a) (two a c b) []) (added a cs b) (added a ds b))

moved : (s t n : ℕ) → s ≡ t → range_with_len s n ≡ range_with_len t n
moved s t n e = ap (λ (x : ℕ). range_with_len x n) e

counted : (s k n : ℕ) → k ≡ n → range_with_len s k ≡ range_with_len s n
counted s k n e = ap (λ (x : ℕ). range_with_len s x) e

-- numbers from one place, and those behind them
range_split : (s k n : ℕ) → range_with_len s (k + n) ≡ range_with_len s k ++ range_with_len (s + k) n
range_split s zero n = counted s (zero + n) n (omega arith) ∙ moved s (s + zero) n (omega arith)
range_split s (suc k) n =
    counted s (suc k + n) (suc (k + n)) (omega arith)
    ∙ ap (λ (xs : List ℕ). s ∷ xs) (range_split (s + 1) k n ∙ ap (λ (xs : List ℕ). range_with_len (s + 1) k ++ xs) (moved ((s + 1) + k) (s + suc k) n (omega arith)))

one_more : (s n : ℕ) → range_with_len s (n + 1) ≡ range_with_len s n ++ (s + n) ∷ []
one_more s n = range_split s n 1

---- What is added for one of them, where links are as these tests say

-- none of higher number
none_above : (L : ℕ → Bool) (a b s k : ℕ) → a ≤ s → added a (filter L (range_with_len s k)) b ≡ []
none_above L a b s zero h = refl
none_above L a b s (suc k) h = by (L s) (none_above L a b (s + 1) k (omega (arith, h)))
  where
    not_less : nat_lt s a ≡ false
    not_less = grind (arith, h)

    by : (z : Bool) → added a (filter L (range_with_len (s + 1) k)) b ≡ [] → added a (cond z (s ∷ filter L (range_with_len (s + 1) k)) (filter L (range_with_len (s + 1) k))) b ≡ []
    by true rest = ap (λ (y : Bool). cond y (two a s b) [] ++ added a (filter L (range_with_len (s + 1) k)) b) not_less ∙ rest
    by false rest = rest

-- none that is neither of the two
none_other : (L : ℕ → Bool) (a b s k : ℕ) → (a ≡ b → ⊥) → ((n : ℕ) → s ≤ n → n < s + k → n ≡ b → ⊥) → added a (filter L (range_with_len s k)) b ≡ []
none_other L a b s zero n h = refl
none_other L a b s (suc k) n h = by (L s) (none_other L a b (s + 1) k n (λ m x y e. h m (omega (arith, x)) (omega (arith, y)) e))
  where
    nothing : two a s b ≡ []
    nothing = ap₂ (λ (x y : Bool). cond x (s ∷ []) [] ++ cond y (a ∷ []) []) (ne_eqb a b n) (ne_eqb s b (h s (omega arith) (omega arith)))

    by_less : (y : Bool) → added a (filter L (range_with_len (s + 1) k)) b ≡ [] → cond y (two a s b) [] ++ added a (filter L (range_with_len (s + 1) k)) b ≡ []
    by_less true rest = ap₂ (λ (xs ys : List ℕ). xs ++ ys) nothing rest
    by_less false rest = rest

    by : (z : Bool) → added a (filter L (range_with_len (s + 1) k)) b ≡ [] → added a (cond z (s ∷ filter L (range_with_len (s + 1) k)) (filter L (range_with_len (s + 1) k))) b ≡ []
    by true rest = by_less (nat_lt s a) rest
    by false rest = rest

-- its own are those of lower number
own_below : (L : ℕ → Bool) (a s k : ℕ) → s + k ≤ a → added a (filter L (range_with_len s k)) a ≡ filter L (range_with_len s k)
own_below L a s zero h = refl
own_below L a s (suc k) h = by (L s) (own_below L a (s + 1) k (omega (arith, h)))
  where
    less : nat_lt s a ≡ true
    less = grind (arith, h)

    one : two a s a ≡ s ∷ []
    one = ap₂ (λ (x y : Bool). cond x (s ∷ []) [] ++ cond y (a ∷ []) []) (eq-eqb a a refl) (ne_eqb s a (λ e. absurd (omega (arith, h, e))))

    by : (z : Bool) → added a (filter L (range_with_len (s + 1) k)) a ≡ filter L (range_with_len (s + 1) k) → added a (cond z (s ∷ filter L (range_with_len (s + 1) k)) (filter L (range_with_len (s + 1) k))) a ≡ cond z (s ∷ filter L (range_with_len (s + 1) k)) (filter L (range_with_len (s + 1) k))
    by true rest = ap (λ (y : Bool). cond y (two a s a) [] ++ added a (filter L (range_with_len (s + 1) k)) a) less ∙ ap₂ (λ (xs ys : List ℕ). xs ++ ys) one rest
    by false rest = rest

-- three parts of all numbers: those below one, itself, and those above it
three : (L : ℕ → Bool) (a n : ℕ) → a < n → filter L (range_with_len 0 n) ≡ filter L (range_with_len 0 a) ++ (filter L (a ∷ []) ++ filter L (range_with_len (a + 1) (n - (a + 1))))
three L a n h =
    ap (filter L)
    (counted 0 n (a + suc (n - (a + 1))) (omega (arith, h))
    ∙ (range_split 0 a (suc (n - (a + 1))) ∙ ap (λ (xs : List ℕ). range_with_len 0 a ++ xs) (moved (0 + a) a (suc (n - (a + 1))) (omega arith))))
    ∙ (filter-append L (range_with_len 0 a) (range_with_len a (suc (n - (a + 1))))
    ∙ ap (λ (xs : List ℕ). filter L (range_with_len 0 a) ++ xs) (filter-append L (a ∷ []) (range_with_len (a + 1) (n - (a + 1)))))

added_three : (L : ℕ → Bool) (a b n : ℕ) → a < n → L a ≡ false → added a (filter L (range_with_len 0 n)) b ≡ added a (filter L (range_with_len 0 a)) b
added_three L a b n h none =
    ap (λ (xs : List ℕ). added a xs b) (three L a n h ∙ ap (λ (z : Bool). filter L (range_with_len 0 a) ++ (cond z (a ∷ []) [] ++ filter L (range_with_len (a + 1) (n - (a + 1))))) none)
    ∙ (added_append a (filter L (range_with_len 0 a)) (filter L (range_with_len (a + 1) (n - (a + 1)))) b
    ∙ (ap (λ (xs : List ℕ). added a (filter L (range_with_len 0 a)) b ++ xs) (none_above L a b (a + 1) (n - (a + 1)) (omega arith)) ∙ append-nil (added a (filter L (range_with_len 0 a)) b)))

---- One agent more is joined

one_behind : (L : ℕ → Bool) (a : ℕ) → filter L (range_with_len 0 (a + 1)) ≡ filter L (range_with_len 0 a) ++ cond (L a) (a ∷ []) []
one_behind L a =
    ap (filter L) (one_more 0 a ∙ ap (λ (x : ℕ). range_with_len 0 a ++ x ∷ []) zero_more) ∙ filter-append L (range_with_len 0 a) (a ∷ [])
  where
    zero_more : 0 + a ≡ a
    zero_more = omega arith

-- what is added for one of lower number
added_lower : (L : ℕ → Bool) (a b : ℕ) → b < a → added a (filter L (range_with_len 0 a)) b ≡ cond (L b) (a ∷ []) []
added_lower L a b h =
    ap (λ (xs : List ℕ). added a xs b) (three L b a h)
    ∙ (added_append a low (filter L (b ∷ []) ++ high) b
    ∙ ap₂ (λ (xs ys : List ℕ). xs ++ ys) (none_other L a b 0 b apart (λ n x y e. absurd (omega (arith, y, e))))
    (added_append a (filter L (b ∷ [])) high b
    ∙ (ap (λ (xs : List ℕ). added a (filter L (b ∷ [])) b ++ xs) (none_other L a b (b + 1) (a - (b + 1)) apart (λ n x y e. absurd (omega (arith, x, e))))
    ∙ (append-nil (added a (filter L (b ∷ [])) b) ∙ by (L b)))))
  where
    low : List ℕ
    low = filter L (range_with_len 0 b)

    high : List ℕ
    high = filter L (range_with_len (b + 1) (a - (b + 1)))

    apart : a ≡ b → ⊥
    apart e = absurd (omega (arith, h, e))

    less : nat_lt b a ≡ true
    less = grind (arith, h)

    itself : two a b b ≡ a ∷ []
    itself = ap₂ (λ (x y : Bool). cond x (b ∷ []) [] ++ cond y (a ∷ []) []) (ne_eqb a b apart) (eq-eqb b b refl)

    by : (z : Bool) → added a (cond z (b ∷ []) []) b ≡ cond z (a ∷ []) []
    by true = ap (λ (y : Bool). cond y (two a b b) [] ++ []) less ∙ ap (λ (xs : List ℕ). xs ++ []) itself
    by false = refl

strictly : (a b : ℕ) → (a ≡ b → ⊥) → a ≤ b → a + 1 ≤ b
strictly a b m l = elim (cases_Bool (nat_lt a b)) [
  | inl e ↦ grind (arith, e)
  | inr e ↦ absurd (m (grind (arith, e, l)))
]

pub joined_more : (linked : ℕ → ℕ → Bool) (a b n : ℕ) → ((c d : ℕ) → linked c d ≡ linked d c) → linked a a ≡ false → a < n
    → ends_when linked a b ++ added a (filter (linked a) (range_with_len 0 n)) b ≡ ends_when linked (a + 1) b
joined_more linked a b n both none h = ap (λ (xs : List ℕ). ends_when linked a b ++ xs) (added_three (linked a) a b n h none) ∙ elim (cases_eq a b) [
  | inl e ↦ subst (λ (x : ℕ). ends_when linked a x ++ added a (filter (linked a) (range_with_len 0 a)) x ≡ ends_when linked (a + 1) x) e own
  | inr m ↦ elim (cases_Bool (nat_lt b a)) [
    | inl l ↦ lower m (grind (arith, l))
    | inr g ↦ higher m (grind (arith, g))
  ]
]
  where
    less : (x y : ℕ) → x < y → nat_lt x y ≡ true
    less x y l = grind (arith, l)

    more : (x : ℕ) → x < a + 1 → nat_lt x (a + 1) ≡ true
    more x l = grind (arith, l)

    not_more : (x y : ℕ) → y ≤ x → nat_lt x y ≡ false
    not_more x y l = grind (arith, l)

    own : ends_when linked a a ++ added a (filter (linked a) (range_with_len 0 a)) a ≡ ends_when linked (a + 1) a
    own =
        ap₂ (λ (z : Bool) (xs : List ℕ). cond z (filter (linked a) (range_with_len 0 a)) [] ++ xs) (not_more a a (omega arith)) (own_below (linked a) a 0 a (omega arith))
        ∙ sym (ap (λ (z : Bool). cond z (filter (linked a) (range_with_len 0 (a + 1))) []) (more a (omega arith))
        ∙ (one_behind (linked a) a ∙ (ap (λ (z : Bool). filter (linked a) (range_with_len 0 a) ++ cond z (a ∷ []) []) none ∙ append-nil (filter (linked a) (range_with_len 0 a)))))

    lower : (a ≡ b → ⊥) → b < a → ends_when linked a b ++ added a (filter (linked a) (range_with_len 0 a)) b ≡ ends_when linked (a + 1) b
    lower m l =
        ap₂ (λ (z : Bool) (xs : List ℕ). cond z (filter (linked b) (range_with_len 0 a)) [] ++ xs) (less b a l) (added_lower (linked a) a b l ∙ ap (λ (z : Bool). cond z (a ∷ []) []) (both a b))
        ∙ sym (ap (λ (z : Bool). cond z (filter (linked b) (range_with_len 0 (a + 1))) []) (more b (omega (arith, l))) ∙ one_behind (linked b) a)

    higher : (a ≡ b → ⊥) → a ≤ b → ends_when linked a b ++ added a (filter (linked a) (range_with_len 0 a)) b ≡ ends_when linked (a + 1) b
    higher m l =
        ap₂ (λ (z : Bool) (xs : List ℕ). cond z (filter (linked b) (range_with_len 0 a)) [] ++ xs) (not_more b a l) (none_other (linked a) a b 0 a m (λ k x y e. absurd (omega (arith, y, e, l))))
        ∙ sym (ap (λ (z : Bool). cond z (filter (linked b) (range_with_len 0 (a + 1))) []) (not_more b (a + 1) (strictly a b m l)))

---- In a topology

or_swap : (c d : Bool) → (c || d) ≡ (d || c)
or_swap true true = refl
or_swap true false = refl
or_swap false true = refl
or_swap false false = refl

pub linked_both : (t : Network) (a b : ℕ) → are_linked t a b ≡ are_linked t b a
linked_both t a b = or_swap (asks t a b) (asks t b a)

none_itself : (a : ℕ) (cs : List ℕ) → ((k c : ℕ) → slice_get cs k ≡ Some c → a ≡ c → ⊥) → list_any (λ c. c == a) cs ≡ false
none_itself a [] h = refl
none_itself a (c ∷ cs) h = ap₂ (λ (x y : Bool). x || y) (ne_eqb c a (λ e. h 0 c refl (sym e))) (none_itself a cs (λ k x e. h (suc k) x e))

own_provider : (t : Network) (a : ℕ) → IsWellFormed t → (o : Option AgentKind) → kind_of t a ≡ o → is_provider_of a o ≡ false
own_provider t a well None e = refl
own_provider t a well (Some (AgentKind.Provider hold)) e = refl
own_provider t a well (Some AgentKind.Aggregator) e = refl
own_provider t a well (Some (AgentKind.Requester provider)) e = let lower = (well.asked a provider e).0 in ne_eqb provider a (λ q. absurd (omega (arith, lower, q)))

pub none_asks_itself : (t : Network) (a : ℕ) → IsWellFormed t → are_linked t a a ≡ false
none_asks_itself t a well = ap (λ (x : Bool). x || x) (ap₂ (λ (x y : Bool). x || y) (own_provider t a well (kind_of t a) refl) (none_itself a (children_of t a) (λ k c e. well.other a c (well.listed a k c e))))

absent_from : (L : ℕ → Bool) (a : ℕ) (ns : List ℕ) → L a ≡ false → IsAbsent a (filter L ns)
absent_from L a [] e = tt
absent_from L a (n ∷ ns) e = by (L n) refl (absent_from L a ns e)
  where
    by : (z : Bool) → L n ≡ z → IsAbsent a (filter L ns) → IsAbsent a (cond z (n ∷ filter L ns) (filter L ns))
    by true is rest = (λ q. true≢false (sym is ∙ (ap L (sym q) ∙ e)), rest)
    by false is rest = rest

pub alone : (t : Network) (a : ℕ) → IsWellFormed t → IsAbsent a (others_of t a)
alone t a well = absent_from (are_linked t a) a (agents t) (none_asks_itself t a well)

below : (a n : ℕ) → a < n → nat_lt a n ≡ true
below a n h = grind (arith, h)

none_below : (a : ℕ) → nat_lt a 0 ≡ false
none_below a = grind arith

pub joined_all : (t : Network) (js : List Joint) (a : ℕ) → AreJoined t (length t.agents) js → a < length t.agents → ends_of a js ≡ others_of t a
joined_all t js a j h = j a ∙ ap (λ (z : Bool). cond z (others_of t a) []) (below a (length t.agents) h)

pub joined_next : (t : Network) (a : ℕ) (old new : List Joint) → IsWellFormed t → a < length t.agents → AreJoined t a old
    → ((b : ℕ) → ends_of b new ≡ ends_of b old ++ added a (others_of t a) b) → AreJoined t (a + 1) new
joined_next t a old new well h j e = λ b.
    e b ∙ (ap (λ (xs : List ℕ). xs ++ added a (others_of t a) b) (j b) ∙ joined_more (are_linked t) a b (length t.agents) (linked_both t) (none_asks_itself t a well) h)

pub joined_none : (t : Network) (js : List Joint) → js ≡ [] → AreJoined t 0 js
joined_none t js e = λ b. ap (ends_of b) e ∙ sym (ap (λ (z : Bool). cond z (filter (are_linked t b) (range_with_len 0 0)) []) (none_below b))

pub ends_append : (a : ℕ) (xs ys : List Joint) → ends_of a (xs ++ ys) ≡ ends_of a xs ++ ends_of a ys
ends_append a [] ys = refl
ends_append a (x ∷ xs) ys = by (x.at == a) (ends_append a xs ys)
  where
    by : (z : Bool) → ends_of a (xs ++ ys) ≡ ends_of a xs ++ ends_of a ys
        → cond z (x.other ∷ ends_of a (xs ++ ys)) (ends_of a (xs ++ ys)) ≡ cond z (x.other ∷ ends_of a xs) (ends_of a xs) ++ ends_of a ys
    by true e = ap (λ (ns : List ℕ). x.other ∷ ns) e
    by false e = e

-- the ends of one link
pub ends_two : (a c b : ℕ) (x y : Joint) → x.at ≡ a → x.other ≡ c → y.at ≡ c → y.other ≡ a → ends_of b (x ∷ y ∷ []) ≡ two a c b
ends_two a c b x y e f g h =
    ap₂ (λ (p q : ℕ). if p == b then q ∷ (if y.at == b then y.other ∷ [] else []) else (if y.at == b then y.other ∷ [] else [])) e f
    ∙ (ap₂ (λ (p q : ℕ). if a == b then c ∷ (if p == b then q ∷ [] else []) else (if p == b then q ∷ [] else [])) g h ∙ by (a == b))
  where
    by : (z : Bool) → cond z (c ∷ cond (c == b) (a ∷ []) []) (cond (c == b) (a ∷ []) []) ≡ cond z (c ∷ []) [] ++ cond (c == b) (a ∷ []) []
    by true = refl
    by false = refl

---- The loop over those of lower number

pub none_left : {A : Type 0} (xs : List A) → length xs ≡ 0 → xs ≡ []
none_left [] e = refl
none_left (x ∷ xs) e = absurd (omega (arith, e))

-- nothing is added by one of higher number
pub step_over : (a c b : ℕ) (rest : List ℕ) (now all : List ℕ) → (c < a → ⊥) → now ++ added a (c ∷ rest) b ≡ all → now ++ added a rest b ≡ all
step_over a c b rest now all n e = ap (λ (z : Bool). now ++ (cond z (two a c b) [] ++ added a rest b)) (sym (not_less (nat_lt c a) refl)) ∙ e
  where
    not_less : (z : Bool) → nat_lt c a ≡ z → nat_lt c a ≡ false
    not_less true is = absurd (n (grind (arith, is)))
    not_less false is = is

-- and what one of lower number adds stands behind the rest
pub step_in : (a c b : ℕ) (rest : List ℕ) (now next all : List ℕ) → c < a → next ≡ now ++ two a c b → now ++ added a (c ∷ rest) b ≡ all → next ++ added a rest b ≡ all
step_in a c b rest now next all l f e =
    ap (λ (xs : List ℕ). xs ++ added a rest b) f
    ∙ (append_assoc now (two a c b) (added a rest b)
    ∙ (ap (λ (z : Bool). now ++ (cond z (two a c b) [] ++ added a rest b)) (sym less) ∙ e))
  where
    less : nat_lt c a ≡ true
    less = grind (arith, l)
