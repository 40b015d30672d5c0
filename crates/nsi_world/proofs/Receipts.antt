-- A message that came was taken, now or before: what is acknowledged is that very message.
use Rattle.std.proofs.Common.{ℕ, ◌≡◌, ◌≢◌, Bool, true, false, cond, List, [], ◌∷◌, Some, ◌⊎◌, inl, inr, refl, sym, ap, ◌∙◌, subst, arith}
use Rattle.std.specs.List.{All, Contains}
use Rattle.std.proofs.lemmas.List.Elements.{All-weaker, All-take, All-contains, Contains-append_cases, Contains-push_cases}
use Rattle.nsi_primitive.specs.Messages.{identity, sender, is_request}
use Rattle.nsi_primitive.specs.Printable.{IsPrintable, IsPrintableEntry}
use Rattle.nsi_primitive.specs.declared.entry.Entry.{Entry}
use Rattle.nsi_primitive.specs.declared.entry.Input.{Input}
use Rattle.nsi_primitive.specs.declared.message.Header.{Header}
use Rattle.nsi_primitive.specs.declared.message.Message.{Message}
use Rattle.nsi_agent.specs.Homes.{Role}
use Rattle.nsi_agent.specs.Told.{IsSame, IsSameTo, Gets, WasGot}
use Rattle.nsi_agent.specs.Said.{name_in, Asks, HasAsked, IsSaidAs, IsSaid, IsFor, IsForIn}
use Rattle.nsi_agent.specs.Laws.{AreApart}
use Rattle.nsi_world.specs.Worlds.{Homes, IsAgent, World, synced_part, said, IsSaidBy, IsSent, IsTo, IsTaken}
use Rattle.nsi_world.specs.Heard.{WasSent, IsHeard, IsFair}
use Rattle.nsi_world.proofs.Given.{Given}

---- Who said it

for_input : (homes : Homes) → Given homes → (w : World) (a : ℕ) (i : Input) → WasSent homes w a i → IsFor (name_in (homes a).role) i
for_input homes given w a (Input.Got m) h = h.1 ∙ sym (given.named a)
for_input homes given w a (Input.Work n machine) h = tt
for_input homes given w a (Input.Force n) h = tt
for_input homes given w a (Input.Acked i) h = tt
for_input homes given w a Input.Tick h = tt
for_input homes given w a (Input.Ask n ask) h = tt

synced_heard : (homes : Homes) (w : World) (a : ℕ) → IsFair homes w → All (IsHeard homes w a) (synced_part w a)
synced_heard homes w a fair = All-take (IsHeard homes w a) (w.synced a) (w.journal a) (fair.heard a)

synced_for : (homes : Homes) → Given homes → (w : World) (a : ℕ) → IsFair homes w → All (IsForIn (name_in (homes a).role)) (synced_part w a)
synced_for homes given w a fair = All-weaker (IsHeard homes w a) (IsForIn (name_in (homes a).role)) (λ e k. for_input homes given w a e.input k.sent) (synced_part w a) (synced_heard homes w a fair)

synced_printable : (homes : Homes) (w : World) (a : ℕ) → IsFair homes w → All IsPrintableEntry (synced_part w a)
synced_printable homes w a fair = All-weaker (IsHeard homes w a) IsPrintableEntry (λ e k. k.printable) (synced_part w a) (synced_heard homes w a fair)

sender_is : (name : List ℕ) (to owed : List ℕ → Type 0) (m : Message) → IsSaid name to owed m → sender (identity m) ≡ name
sender_is name to owed m h = by (is_request m.body) h
  where
    by : (b : Bool) → IsSaidAs b name to owed m → cond b m.header.requester m.header.provider ≡ name
    by true k = k.0
    by false k = k.0

said_name : (homes : Homes) → Given homes → (w : World) → IsFair homes w → (a : ℕ) (m : Message) → IsSaidBy homes w a m → sender (identity m) ≡ (homes a).name
said_name homes given w fair a m h =
    let role : Role = (homes a).role in
    let es : List Entry = synced_part w a in
    sender_is (name_in role) (Asks role) (HasAsked es) m
    (All-contains (IsSaid (name_in role) (Asks role) (HasAsked es)) (said homes w a) m (given.laws.own (homes a) es (synced_for homes given w a fair)) h.1)
    ∙ given.named a

pub said_printable : (homes : Homes) → Given homes → (w : World) → IsFair homes w → (a : ℕ) (m : Message) → IsSaidBy homes w a m → IsPrintable m
said_printable homes given w fair a m h = All-contains IsPrintable (said homes w a) m (given.laws.printable (homes a) (synced_part w a) (synced_printable homes w a fair)) h.1

some_same : (a b : ℕ) → Some a ≡ Some b → a ≡ b
some_same a b e = cc

agents_same : (homes : Homes) → Given homes → (a b : ℕ) → IsAgent homes a → IsAgent homes b → (homes a).name ≡ (homes b).name → a ≡ b
agents_same homes given a b p q e = some_same a b (sym p ∙ (ap (homes a).agent_of e ∙ (ap (λ f. f (homes b).name) (given.leads a b) ∙ q)))

---- One request has one id

pub none_contained : {X : Type 0} → (x : X) → Contains [] x → ⊥
none_contained x c = let lt = c.1 in omega (arith, lt)

pub head_or_tail : {X : Type 0} → (x : X) (xs : List X) (y : X) → Contains (x ∷ xs) y → (x ≡ y) ⊎ Contains xs y
head_or_tail x xs y c = elim (Contains-append_cases (x ∷ []) xs y c) [
  | inl a ↦ elim (Contains-push_cases [] x y a) [ inl z ↦ absurd (none_contained y z) | inr e ↦ inl e ]
  | inr b ↦ inr b
]

apart_same : (ms : List Message) (m n : Message) → AreApart ms → Contains ms m → Contains ms n → is_request m.body ≡ true → is_request n.body ≡ true → n.header.correlation ≡ m.header.correlation → n ≡ m
unfolding AreApart
apart_same [] m n h c d rm rn e = absurd (none_contained m c)
apart_same (x ∷ xs) m n h c d rm rn e = elim (head_or_tail x xs m c) [
  | inl p ↦ elim (head_or_tail x xs n d) [
    | inl q ↦ sym q ∙ p
    | inr q ↦
        let r : is_request x.body ≡ true = ap (λ (y : Message). is_request y.body) p ∙ rm in
        absurd (All-contains (λ (y : Message). is_request y.body ≡ true → y.header.correlation ≢ x.header.correlation) xs n (h.0 r) q rn (e ∙ ap (λ (y : Message). y.header.correlation) (sym p)))
  ]
  | inr p ↦ elim (head_or_tail x xs n d) [
    | inl q ↦
        let r : is_request x.body ≡ true = ap (λ (y : Message). is_request y.body) q ∙ rn in
        absurd (All-contains (λ (y : Message). is_request y.body ≡ true → y.header.correlation ≢ x.header.correlation) xs m (h.0 r) p rm (sym e ∙ ap (λ (y : Message). y.header.correlation) (sym q)))
    | inr q ↦ apart_same xs m n h.1 p q rm rn e
  ]
]

sender_request : (m : Message) → is_request m.body ≡ true → sender (identity m) ≡ m.header.requester
sender_request m e = ap (λ b. cond b m.header.requester m.header.provider) e

same_sender : (m n : Message) → IsSame m n → sender (identity n) ≡ sender (identity m)
same_sender m n h = by (is_request m.body) refl h
  where
    by : (b : Bool) → is_request m.body ≡ b → IsSameTo b m n → sender (identity n) ≡ sender (identity m)
    by true e k = sender_request n k.0 ∙ (ap (λ (x : Header). x.requester) k.1 ∙ sym (sender_request m e))
    by false e k = ap sender k

same_message : (ms : List Message) (m n : Message) → AreApart ms → Contains ms m → Contains ms n → IsSame m n → identity n ≡ identity m
same_message ms m n h c d s = by (is_request m.body) refl s
  where
    by : (b : Bool) → is_request m.body ≡ b → IsSameTo b m n → identity n ≡ identity m
    by true e k = ap identity (apart_same ms m n h c d e k.0 (ap (λ (x : Header). x.correlation) k.1))
    by false e k = k

---- What was got before

-- one of its identity was taken
abbrev pub IsReceived : Homes → World → (ℕ → List Entry) → (from to : ℕ) → Message → Type 0
IsReceived homes w entries from to m = (n : Message) × (identity n ≡ identity m) × IsTaken homes w entries from to n

got_before : (homes : Homes) → Given homes → (w : World) → IsFair homes w → (from to : ℕ) (m : Message) → IsSaidBy homes w from m → (e : Entry) → Contains (w.journal to) e → (i : Input) → e.input ≡ i → Gets m i
    → IsReceived homes w w.journal from to m
got_before homes given w fair from to m said_m e c (Input.Got n) is same =
    let heard : IsHeard homes w to e = All-contains (IsHeard homes w to) (w.journal to) e (fair.heard to) c in
    let sent : IsSent homes w n × IsTo homes to n = subst (WasSent homes w to) is heard.sent in
    let by : ℕ = sent.0.0 in
    let one : by ≡ from = agents_same homes given by from sent.0.1.0 said_m.0 (sym (said_name homes given w fair by n sent.0.1) ∙ (same_sender m n same ∙ said_name homes given w fair from m said_m)) in
    let said_n : IsSaidBy homes w from n = subst (λ b. IsSaidBy homes w b n) one sent.0.1 in
    let apart : AreApart (said homes w from) = given.laws.once (homes from) (synced_part w from) (synced_printable homes w from fair) in
    let there : Contains (w.journal to) (record { second = e.second; input = Input.Got n }) = subst (Contains (w.journal to)) (ap (λ i. record { second = e.second; input = i }) is) c in
    (n, same_message (said homes w from) m n apart said_m.1 said_n.1 same, record { said = said_n; addressed = sent.1; got = record { second = e.second; there = there } })
got_before homes given w fair from to m said_m e c (Input.Work n machine) is same = absurd same
got_before homes given w fair from to m said_m e c (Input.Force n) is same = absurd same
got_before homes given w fair from to m said_m e c (Input.Acked i) is same = absurd same
got_before homes given w fair from to m said_m e c Input.Tick is same = absurd same
got_before homes given w fair from to m said_m e c (Input.Ask n ask) is same = absurd same

-- a message that its addressee got before, or one that counts as the same, was taken
pub seen_received : (homes : Homes) → Given homes → (w : World) → IsFair homes w → (from to : ℕ) (m : Message) → IsSaidBy homes w from m → WasGot m (w.journal to) → IsReceived homes w w.journal from to m
seen_received homes given w fair from to m said_m g = got_before homes given w fair from to m said_m g.0 g.1 g.0.input refl g.2

---- Requests

-- two requests under one header are one
pub requests_same : (homes : Homes) → Given homes → (w : World) → IsFair homes w → (a b : ℕ) (m n : Message) → IsSaidBy homes w a m → IsSaidBy homes w b n → is_request m.body ≡ true → is_request n.body ≡ true → n.header ≡ m.header → n ≡ m
requests_same homes given w fair a b m n p q rm rn e =
    let senders : sender (identity n) ≡ sender (identity m) = sender_request n rn ∙ (ap (λ (h : Header). h.requester) e ∙ sym (sender_request m rm)) in
    let one : b ≡ a = agents_same homes given b a q.0 p.0 (sym (said_name homes given w fair b n q) ∙ (senders ∙ said_name homes given w fair a m p)) in
    let own : IsSaidBy homes w a n = subst (λ k. IsSaidBy homes w k n) one q in
    apart_same (said homes w a) m n (given.laws.once (homes a) (synced_part w a) (synced_printable homes w a fair)) p.1 own.1 rm rn (ap (λ (h : Header). h.correlation) e)
