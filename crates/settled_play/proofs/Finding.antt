-- The door to an agent, and what changes it.
use Rattle.std.proofs.Common.{ℕ, ◌≡◌, ◌==◌, true, cond, List, [], ◌∷◌, Option, Some, None, ◌⊎◌, inl, inr, refl, sym, ap, ◌∙◌, subst, arith, length, map, eq-eqb, ne_eqb, eqb-true}
use Rattle.std.specs.List.{Contains}
use Rattle.std.proofs.lemmas.Bool.{cases_eq, and_parts}
use Rattle.std.proofs.lemmas.List.Elements.{Contains-append_left, Contains-append_right, Contains-append_cases, Contains-push, Contains-push_cases}
use Rattle.nsi_primitive.specs.Messages.{identity, addressee}
use Rattle.nsi_primitive.specs.declared.message.Message.{Message}
use Rattle.nsi_primitive.specs.declared.message.Parcel.{Parcel}
use Rattle.agent_node.specs.Doors.{Door, change_first, with_parcel, queue_at}
use Rattle.agent_node.specs.Passing.{others, queue_if, says, says_all, come_through, lying, is_idle, all_idle, let_through}
use Rattle.agent_node.specs.Openings.{empty_door}
use Rattle.agent_node.proofs.Joints.{change_nil, change_here, change_there, through_nil, through_here, through_there}

---- What a list contains

pub none_there : {X : Type 0} → (x : X) → Contains [] x → ⊥
none_there x c = let lt = c.1 in omega (arith, lt)

pub first_there : {X : Type 0} → (x : X) (xs : List X) → Contains (x ∷ xs) x
first_there x xs = Contains-append_left (x ∷ []) xs x (Contains-push [] x)

pub later_there : {X : Type 0} → (x : X) (xs : List X) (y : X) → Contains xs y → Contains (x ∷ xs) y
later_there x xs y c = Contains-append_right (x ∷ []) xs y c

pub first_or_later : {X : Type 0} → (x : X) (xs : List X) (y : X) → Contains (x ∷ xs) y → (x ≡ y) ⊎ Contains xs y
first_or_later x xs y c = elim (Contains-append_cases (x ∷ []) xs y c) [
  | inl a ↦ elim (Contains-push_cases [] x y a) [ inl z ↦ absurd (none_there y z) | inr e ↦ inl e ]
  | inr b ↦ inr b
]

pub mapped_there : {X Y : Type 0} (f : X → Y) → (xs : List X) (x : X) → Contains xs x → Contains (map f xs) (f x)
mapped_there f [] x c = absurd (none_there x c)
mapped_there f (y ∷ ys) x c = elim (first_or_later y ys x c) [
  | inl e ↦ subst (λ z. Contains (f y ∷ map f ys) (f z)) e (first_there (f y) (map f ys))
  | inr d ↦ later_there (f y) (map f ys) (f x) (mapped_there f ys x d)
]

---- The door to an agent

-- the first door to it, or an empty one
unfoldable pub door_to : ℕ → List Door → Door
door_to b [] = empty_door b
door_to b (d ∷ ds) = cond (d.other == b) d (door_to b ds)

pub door_none : (b : ℕ) → door_to b [] ≡ empty_door b
unfolding door_to
door_none b = refl

pub door_here : (b : ℕ) (d : Door) (ds : List Door) → d.other ≡ b → door_to b (d ∷ ds) ≡ d
unfolding door_to
door_here b d ds e = ap (λ z. cond z d (door_to b ds)) (eq-eqb d.other b e)

pub door_there : (b : ℕ) (d : Door) (ds : List Door) → (d.other ≡ b → ⊥) → door_to b (d ∷ ds) ≡ door_to b ds
unfolding door_to
door_there b d ds n = ap (λ z. cond z d (door_to b ds)) (ne_eqb d.other b n)

-- what it lets through
pub through_door : (b : ℕ) (ds : List Door) → let_through b ds ≡ (door_to b ds).out
through_door b [] = through_nil b ∙ sym (ap (λ (d : Door). d.out) (door_none b))
through_door b (d ∷ ds) = elim (cases_eq d.other b) [
  | inl e ↦ through_here b d ds e ∙ sym (ap (λ (z : Door). z.out) (door_here b d ds e))
  | inr n ↦ through_there b d ds n ∙ (through_door b ds ∙ sym (ap (λ (z : Door). z.out) (door_there b d ds n)))
]

-- what is so of every door and of an empty one is so of the door to an agent
pub door_all : (P : Door → Type 0) (b : ℕ) (ds : List Door) → P (empty_door b) → ((d : Door) → d.other ≡ b → Contains ds d → P d) → P (door_to b ds)
door_all P b [] z f = subst P (sym (door_none b)) z
door_all P b (d ∷ ds) z f = elim (cases_eq d.other b) [
  | inl e ↦ subst P (sym (door_here b d ds e)) (f d e (first_there d ds))
  | inr n ↦ subst P (sym (door_there b d ds n)) (door_all P b ds z (λ x e c. f x e (later_there d ds x c)))
]

-- it is empty, or there is one
pub door_found : (b : ℕ) (ds : List Door) → (door_to b ds ≡ empty_door b) ⊎ Contains (others ds) b
door_found b [] = inl (door_none b)
door_found b (d ∷ ds) = elim (cases_eq d.other b) [
  | inl e ↦ inr (subst (λ (n : ℕ). Contains (d.other ∷ others ds) n) e (first_there d.other (others ds)))
  | inr n ↦ elim (door_found b ds) [
    | inl e ↦ inl (door_there b d ds n ∙ e)
    | inr c ↦ inr (later_there d.other (others ds) b c)
  ]
]

---- The first door to an agent is changed

-- the change leaves to whom the door goes
abbrev pub Leads : (Door → Door) → Type 0
Leads f = (d : Door) → (f d).other ≡ d.other

pub change_at : (b : ℕ) (f : Door → Door) → Leads f → (ds : List Door) → Contains (others ds) b → door_to b (change_first b f ds) ≡ f (door_to b ds)
change_at b f l [] c = absurd (none_there b c)
change_at b f l (d ∷ ds) c = elim (cases_eq d.other b) [
  | inl e ↦ ap (door_to b) (change_here b f d ds e) ∙ (door_here b (f d) ds (l d ∙ e) ∙ sym (ap f (door_here b d ds e)))
  | inr n ↦ elim (first_or_later d.other (others ds) b c) [
    | inl e ↦ absurd (n e)
    | inr k ↦ ap (door_to b) (change_there b f d ds n) ∙ (door_there b d (change_first b f ds) n ∙ (change_at b f l ds k ∙ sym (ap f (door_there b d ds n))))
  ]
]

pub change_else : (b c : ℕ) (f : Door → Door) → Leads f → (b ≡ c → ⊥) → (ds : List Door) → door_to b (change_first c f ds) ≡ door_to b ds
change_else b c f l n [] = ap (door_to b) (change_nil c f)
change_else b c f l n (d ∷ ds) = elim (cases_eq d.other c) [
  | inl e ↦ ap (door_to b) (change_here c f d ds e) ∙ (door_there b (f d) ds (λ q. n (sym q ∙ (l d ∙ e))) ∙ sym (door_there b d ds (λ q. n (sym q ∙ e))))
  | inr m ↦ ap (door_to b) (change_there c f d ds m) ∙ elim (cases_eq d.other b) [
    | inl e ↦ door_here b d (change_first c f ds) e ∙ sym (door_here b d ds e)
    | inr k ↦ door_there b d (change_first c f ds) k ∙ (change_else b c f l n ds ∙ sym (door_there b d ds k))
  ]
]

pub others_change : (c : ℕ) (f : Door → Door) → Leads f → (ds : List Door) → others (change_first c f ds) ≡ others ds
others_change c f l [] = ap others (change_nil c f)
others_change c f l (d ∷ ds) = elim (cases_eq d.other c) [
  | inl e ↦ ap others (change_here c f d ds e) ∙ ap (λ n. n ∷ others ds) (l d)
  | inr n ↦ ap others (change_there c f d ds n) ∙ ap (λ ns. d.other ∷ ns) (others_change c f l ds)
]

-- what the change keeps is kept of each door
pub change_keeps : (P : Door → Type 0) (b c : ℕ) (f : Door → Door) → Leads f → ((d : Door) → P d → P (f d)) → (ds : List Door) → P (door_to b ds) → P (door_to b (change_first c f ds))
change_keeps P b c f l k ds p = elim (cases_eq b c) [
  | inl e ↦ elim (door_found b ds) [
    | inl q ↦ elim (door_found b (change_first c f ds)) [
      | inl r ↦ subst P (q ∙ sym r) p
      | inr r ↦ subst (λ n. P (door_to b (change_first n f ds))) e (subst P (sym (change_at b f l ds (subst (λ xs. Contains xs b) (others_change c f l ds) r))) (k (door_to b ds) p))
    ]
    | inr q ↦ subst (λ n. P (door_to b (change_first n f ds))) e (subst P (sym (change_at b f l ds q)) (k (door_to b ds) p))
  ]
  | inr n ↦ subst P (sym (change_else b c f l n ds)) p
]

pub change_doors : (P : Door → Type 0) (c : ℕ) (f : Door → Door) → ((d : Door) → d.other ≡ c → P d → P (f d)) → (ds : List Door) → ((d : Door) → Contains ds d → P d) → (d : Door) → Contains (change_first c f ds) d → P d
change_doors P c f k [] h d t = absurd (none_there d (subst (λ xs. Contains xs d) (change_nil c f) t))
change_doors P c f k (x ∷ xs) h d t = elim (cases_eq x.other c) [
  | inl e ↦ elim (first_or_later (f x) xs d (subst (λ ds. Contains ds d) (change_here c f x xs e) t)) [
    | inl q ↦ subst P q (k x e (h x (first_there x xs)))
    | inr r ↦ h d (later_there x xs d r)
  ]
  | inr n ↦ elim (first_or_later x (change_first c f xs) d (subst (λ ds. Contains ds d) (change_there c f x xs n) t)) [
    | inl q ↦ h d (subst (λ z. Contains (x ∷ xs) z) q (first_there x xs))
    | inr r ↦ change_doors P c f k xs (λ y s. h y (later_there x xs y s)) d r
  ]
]

---- All doors are changed

pub map_door : (b : ℕ) (f : Door → Door) → Leads f → f (empty_door b) ≡ empty_door b → (ds : List Door) → door_to b (map f ds) ≡ f (door_to b ds)
map_door b f l z [] = door_none b ∙ (sym z ∙ ap f (sym (door_none b)))
map_door b f l z (d ∷ ds) = elim (cases_eq d.other b) [
  | inl e ↦ door_here b (f d) (map f ds) (l d ∙ e) ∙ sym (ap f (door_here b d ds e))
  | inr n ↦ door_there b (f d) (map f ds) (λ q. n (sym (l d) ∙ q)) ∙ (map_door b f l z ds ∙ sym (ap f (door_there b d ds n)))
]

pub others_map : (f : Door → Door) → Leads f → (ds : List Door) → others (map f ds) ≡ others ds
others_map f l [] = refl
others_map f l (d ∷ ds) = ap (λ n. n ∷ others (map f ds)) (l d) ∙ ap (λ ns. d.other ∷ ns) (others_map f l ds)

-- what a door let in lies there
pub lies_there : (b : ℕ) (ds : List Door) (p : Parcel) → Contains (door_to b ds).inc p → Contains (lying ds) (b, p)
lies_there b [] p c = absurd (none_there p (subst (λ (d : Door). Contains d.inc p) (door_none b) c))
lies_there b (d ∷ ds) p c = elim (cases_eq d.other b) [
  | inl e ↦ Contains-append_left (come_through d) (lying ds) (b, p)
      (subst (λ (n : ℕ). Contains (come_through d) (n, p)) e (mapped_there (λ (x : Parcel). (d.other, x)) d.inc p (subst (λ (z : Door). Contains z.inc p) (door_here b d ds e) c)))
  | inr n ↦ Contains-append_right (come_through d) (lying ds) (b, p) (lies_there b ds p (subst (λ (z : Door). Contains z.inc p) (door_there b d ds n) c))
]

---- Nothing is to be pushed, and nothing came

no_parcels : (ps : List Parcel) → length ps ≡ 0 → ps ≡ []
no_parcels [] e = refl
no_parcels (p ∷ ps) e = absurd (omega (arith, e))

pub idle_door : (b : ℕ) (ds : List Door) → all_idle ds ≡ true → ((door_to b ds).queue ≡ []) × ((door_to b ds).inc ≡ [])
idle_door b [] q = (ap (λ (d : Door). d.queue) (door_none b), ap (λ (d : Door). d.inc) (door_none b))
idle_door b (d ∷ ds) q =
    let p = and_parts (is_idle d) (all_idle ds) q in
    let r = and_parts (length d.queue == 0) (length d.inc == 0) p.0 in
    elim (cases_eq d.other b) [
      | inl e ↦ (
        ap (λ (z : Door). z.queue) (door_here b d ds e) ∙ no_parcels d.queue (eqb-true (length d.queue) 0 r.0),
        ap (λ (z : Door). z.inc) (door_here b d ds e) ∙ no_parcels d.inc (eqb-true (length d.inc) 0 r.1),
      )
      | inr n ↦ (
        ap (λ (z : Door). z.queue) (door_there b d ds n) ∙ (idle_door b ds p.1).0,
        ap (λ (z : Door). z.inc) (door_there b d ds n) ∙ (idle_door b ds p.1).1,
      )
    ]

---- What is queued

pub with_leads : (p : Parcel) → Leads (with_parcel p)
with_leads p d = refl

pub queued_there : (b : ℕ) (p : Parcel) (ds : List Door) → Contains (others ds) b → Contains (door_to b (queue_at b p ds)).queue p
queued_there b p ds c = subst (λ (d : Door). Contains d.queue p) (sym (change_at b (with_parcel p) (with_leads p) ds c)) (Contains-push (door_to b ds).queue p)

-- what is kept where something is queued
abbrev pub IsKept : (Door → Type 0) → Type 0
IsKept P = (p : Parcel) (d : Door) → P d → P (with_parcel p d)

pub queue_keeps : (P : Door → Type 0) → IsKept P → (b c : ℕ) (p : Parcel) (ds : List Door) → P (door_to b ds) → P (door_to b (queue_at c p ds))
queue_keeps P k b c p ds h = change_keeps P b c (with_parcel p) (with_leads p) (k p) ds h

if_keeps : (P : Door → Type 0) → IsKept P → (b : ℕ) (o : Option ℕ) (p : Parcel) (ds : List Door) → P (door_to b ds) → P (door_to b (queue_if o p ds))
if_keeps P k b None p ds h = h
if_keeps P k b (Some c) p ds h = queue_keeps P k b c p ds h

if_others : (o : Option ℕ) (p : Parcel) (ds : List Door) → others (queue_if o p ds) ≡ others ds
if_others None p ds = refl
if_others (Some c) p ds = others_change c (with_parcel p) (with_leads p) ds

pub says_keeps : (P : Door → Type 0) → IsKept P → (b : ℕ) (agent_of : List ℕ → Option ℕ) (ms : List Message) (ds : List Door) → P (door_to b ds) → P (door_to b (says_all agent_of ms ds))
unfolding says_all
says_keeps P k b agent_of [] ds h = h
says_keeps P k b agent_of (m ∷ ms) ds h =
    says_keeps P k b agent_of ms (says agent_of m ds) (if_keeps P k b (agent_of (addressee (identity m))) (Parcel.Message m) ds h)

pub says_others : (agent_of : List ℕ → Option ℕ) (ms : List Message) (ds : List Door) → others (says_all agent_of ms ds) ≡ others ds
unfolding says_all
says_others agent_of [] ds = refl
says_others agent_of (m ∷ ms) ds = says_others agent_of ms (says agent_of m ds) ∙ if_others (agent_of (addressee (identity m))) (Parcel.Message m) ds

-- a queue grows at its end
pub queue_kept : (x : Parcel) → IsKept (λ d. Contains d.queue x)
queue_kept x p d h = Contains-append_left d.queue (p ∷ []) x h

-- what is said stands in the queue to its addressee
pub said_there : (agent_of : List ℕ → Option ℕ) (b : ℕ) (m : Message) (ms : List Message) (ds : List Door) → Contains ms m → agent_of (addressee (identity m)) ≡ Some b → Contains (others ds) b
    → Contains (door_to b (says_all agent_of ms ds)).queue (Parcel.Message m)
unfolding says_all
said_there agent_of b m [] ds c e o = absurd (none_there m c)
said_there agent_of b m (x ∷ xs) ds c e o = elim (first_or_later x xs m c) [
  | inl q ↦
      let here : says agent_of x ds ≡ queue_at b (Parcel.Message m) ds = ap (λ (z : Message). says agent_of z ds) q ∙ ap (λ z. queue_if z (Parcel.Message m) ds) e in
      says_keeps (λ d. Contains d.queue (Parcel.Message m)) (queue_kept (Parcel.Message m)) b agent_of xs (says agent_of x ds)
      (subst (λ (z : List Door). Contains (door_to b z).queue (Parcel.Message m)) (sym here) (queued_there b (Parcel.Message m) ds o))
  | inr r ↦ said_there agent_of b m xs (says agent_of x ds) r e (subst (λ ns. Contains ns b) (sym (if_others (agent_of (addressee (identity x))) (Parcel.Message x) ds)) o)
]
