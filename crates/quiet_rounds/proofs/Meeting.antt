-- What agents know after they met.
use Rattle.std.proofs.Common.{ℕ, suc, ◌≡◌, ◌≢◌, List, [], ◌∷◌, inl, inr, refl, sym, ap, ◌∙◌, subst, arith, get_or, map}
use Rattle.std.specs.List.{All, AllPairs, Contains}
use Rattle.std.proofs.lemmas.Bool.{cases_eq}
use Rattle.std.proofs.lemmas.List.Elements.{All-nil, All-cons, All-head, All-tail, All-contains}
use Rattle.nsi_primitive.specs.declared.message.Parcel.{Parcel}
use Rattle.agent_node.specs.Doors.{Door, change_first}
use Rattle.agent_node.specs.Passing.{HasMet, let_through, learns, others}
use Rattle.agent_node.specs.Seat.{Seat}
use Rattle.agent_node.specs.Meetings.{met}
use Rattle.agent_node.proofs.Joints.{change_nil, change_here, change_there, through_nil, through_here, through_there, others_learnt}
use Rattle.nsi_play.specs.Rounds.{Net, meets_each, meets_all}
use Rattle.quiet_rounds.specs.Bounded.{numbers}
use Rattle.quiet_rounds.proofs.Greatest.{HasAll, AtDoors}
use Rattle.quiet_rounds.proofs.Ends.{change_all}

met_number : (o s : Seat) → (met o s).number ≡ s.number
unfolding met
met_number o s = refl

met_doors : (o s : Seat) → (met o s).doors ≡ change_first o.number (learns (let_through s.number o.doors)) s.doors
unfolding met
met_doors o s = refl

met_events : (o s : Seat) → (met o s).events ≡ s.events
unfolding met
met_events o s = refl

pub each_number : (s : Seat) (os : List Seat) → (meets_each s os).number ≡ s.number
unfolding meets_each
each_number s [] = refl
each_number s (o ∷ os) = each_number (met o s) os ∙ met_number o s

pub each_events : (s : Seat) (os : List Seat) → (meets_each s os).events ≡ s.events
unfolding meets_each
each_events s [] = refl
each_events s (o ∷ os) = each_events (met o s) os ∙ met_events o s

pub each_others : (s : Seat) (os : List Seat) → others (meets_each s os).doors ≡ others s.doors
unfolding meets_each
each_others s [] = refl
each_others s (o ∷ os) = each_others (met o s) os ∙ (ap others (met_doors o s) ∙ others_learnt o.number (let_through s.number o.doors) s.doors)

---- What is said of each door

met_keeps : (P : Door → Type 0) (o s : Seat) → ((d : Door) → P d → P (learns (let_through s.number o.doors) d)) → All P s.doors → All P (met o s).doors
met_keeps P o s step h = subst (All P) (sym (met_doors o s)) (change_all P o.number (learns (let_through s.number o.doors)) step s.doors h)

-- whatever parcels are learnt
pub each_keeps : (P : Door → Type 0) (s : Seat) (os : List Seat) → ((ps : List Parcel) (d : Door) → P d → P (learns ps d)) → All P s.doors → All P (meets_each s os).doors
unfolding meets_each
each_keeps P s [] step h = h
each_keeps P s (o ∷ os) step h = each_keeps P (met o s) os step (met_keeps P o s (step (let_through s.number o.doors)) h)

---- What is known then was let through

through_is : (P : List Parcel → Type 0) → P [] → (to : ℕ) (ds : List Door) → All (λ d. P d.out) ds → P (let_through to ds)
through_is P none to [] h = subst P (sym (through_nil to)) none
through_is P none to (d ∷ ds) h = elim (cases_eq d.other to) [
  | inl e ↦ subst P (sym (through_here to d ds e)) (All-head (λ d. P d.out) d ds h)
  | inr n ↦ subst P (sym (through_there to d ds n)) (through_is P none to ds (All-tail (λ d. P d.out) d ds h))
]

pub each_knows : (P : List Parcel → Type 0) → P [] → (s : Seat) (os : List Seat) → AtDoors (λ d. P d.out) os → All (λ d. P d.inc) s.doors → All (λ d. P d.inc) (meets_each s os).doors
unfolding meets_each
each_knows P none s [] h k = k
each_knows P none s (o ∷ os) h k =
    each_knows P none (met o s) os (All-tail (HasAll (λ d. P d.out)) o os h)
    (met_keeps (λ d. P d.inc) o s (λ d q. through_is P none s.number o.doors (All-head (HasAll (λ d. P d.out)) o os h)) k)

---- Nothing is left between them

-- nothing was let through to that agent since they met
abbrev HasMetAt : ℕ → Door → Type 0
HasMetAt n d = d.other ≡ n → d.out ≡ []

pub apart_head : (n : ℕ) (ns : List ℕ) → AllPairs (λ a b. b ≢ a) (n ∷ ns) → All (λ m. m ≢ n) ns
apart_head n ns h k d lt = h 0 (suc k) d (omega arith) (omega (arith, lt))

pub apart_tail : (n : ℕ) (ns : List ℕ) → AllPairs (λ a b. b ≢ a) (n ∷ ns) → AllPairs (λ a b. b ≢ a) ns
apart_tail n ns h i j d lt inside = h (suc i) (suc j) d (omega (arith, lt)) (omega (arith, inside))

-- there is no link to it
elsewhere : (n : ℕ) (ds : List Door) → All (λ m. m ≢ n) (others ds) → All (HasMetAt n) ds
elsewhere n [] h = All-nil (HasMetAt n)
elsewhere n (d ∷ ds) h =
    All-cons (HasMetAt n) d ds (λ e. absurd (All-head (λ m. m ≢ n) d.other (others ds) h e)) (elsewhere n ds (All-tail (λ m. m ≢ n) d.other (others ds) h))

learnt_there : (n : ℕ) (ps : List Parcel) (ds : List Door) → AllPairs (λ a b. b ≢ a) (others ds) → All (HasMetAt n) (change_first n (learns ps) ds)
learnt_there n ps [] apart = subst (All (HasMetAt n)) (sym (change_nil n (learns ps))) (All-nil (HasMetAt n))
learnt_there n ps (d ∷ ds) apart = elim (cases_eq d.other n) [
  | inl e ↦
      subst (All (HasMetAt n)) (sym (change_here n (learns ps) d ds e))
      (All-cons (HasMetAt n) (learns ps d) ds (λ same. refl) (elsewhere n ds (subst (λ m. All (λ k. k ≢ m) (others ds)) e (apart_head d.other (others ds) apart))))
  | inr far ↦
      subst (All (HasMetAt n)) (sym (change_there n (learns ps) d ds far))
      (All-cons (HasMetAt n) d (change_first n (learns ps) ds) (λ e. absurd (far e)) (learnt_there n ps ds (apart_tail d.other (others ds) apart)))
]

met_there : (o s : Seat) → AllPairs (λ a b. b ≢ a) (others s.doors) → All (HasMetAt o.number) (met o s).doors
met_there o s apart = subst (All (HasMetAt o.number)) (sym (met_doors o s)) (learnt_there o.number (let_through s.number o.doors) s.doors apart)

keeps_met : (n : ℕ) (s : Seat) (os : List Seat) → All (HasMetAt n) s.doors → All (HasMetAt n) (meets_each s os).doors
keeps_met n s os h = each_keeps (HasMetAt n) s os (λ ps d k e. refl) h

has_met : (s : Seat) (os : List Seat) → AllPairs (λ a b. b ≢ a) (others s.doors) → All (λ n. All (HasMetAt n) (meets_each s os).doors) (numbers os)
unfolding meets_each
has_met s [] apart = All-nil (λ n. All (HasMetAt n) s.doors)
has_met s (o ∷ os) apart =
    All-cons (λ n. All (HasMetAt n) (meets_each (met o s) os).doors) o.number (numbers os) (keeps_met o.number (met o s) os (met_there o s apart))
    (has_met (met o s) os (subst (AllPairs (λ a b. b ≢ a)) (sym (ap others (met_doors o s) ∙ others_learnt o.number (let_through s.number o.doors) s.doors)) apart))

pub each_met : (s : Seat) (os : List Seat) → AllPairs (λ a b. b ≢ a) (others s.doors) → All (λ d. Contains (numbers os) d.other) s.doors → All HasMet (meets_each s os).doors
each_met s os apart lead = met_by (meets_each s os).doors (has_met s os apart) (each_keeps (λ d. Contains (numbers os) d.other) s os (λ ps d k. k) lead)
  where
    met_by : (ds : List Door) → All (λ n. All (HasMetAt n) ds) (numbers os) → All (λ d. Contains (numbers os) d.other) ds → All HasMet ds
    met_by ds h lead k d lt = All-contains (λ n. All (HasMetAt n) ds) (numbers os) (get_or ds k d).other h (lead k d lt) k d lt refl

---- All agents

pub all_keep : (P : Door → Type 0) (os net : Net) → ((ps : List Parcel) (d : Door) → P d → P (learns ps d)) → AtDoors P net → AtDoors P (map (meets_all os) net)
all_keep P os [] step h = All-nil (HasAll P)
all_keep P os (s ∷ ss) step h =
    All-cons (HasAll P) (meets_each s os) (map (meets_all os) ss) (each_keeps P s os step (All-head (HasAll P) s ss h)) (all_keep P os ss step (All-tail (HasAll P) s ss h))

pub all_know : (P : List Parcel → Type 0) → P [] → (os net : Net) → AtDoors (λ d. P d.out) os → AtDoors (λ d. P d.inc) net → AtDoors (λ d. P d.inc) (map (meets_all os) net)
all_know P none os [] h k = All-nil (HasAll (λ d. P d.inc))
all_know P none os (s ∷ ss) h k =
    All-cons (HasAll (λ d. P d.inc)) (meets_each s os) (map (meets_all os) ss) (each_knows P none s os h (All-head (HasAll (λ d. P d.inc)) s ss k))
    (all_know P none os ss h (All-tail (HasAll (λ d. P d.inc)) s ss k))

pub all_numbers : (os net : Net) → numbers (map (meets_all os) net) ≡ numbers net
all_numbers os [] = refl
all_numbers os (s ∷ ss) = ap (λ n. n ∷ numbers (map (meets_all os) ss)) (each_number s os) ∙ ap (λ ns. s.number ∷ ns) (all_numbers os ss)
