-- A journal may be used on, and what its calls leave.
use Rattle.std.proofs.Common.{length, length-append, ◌+◌, ◌^◌, ◌∙◌, ap, ◌≡◌, ◌⊎◌, inl, inr, ⊎_elim, ℕ, ◌<◌, ◌≤◌, Bool, true, false, List, [], ◌∷◌, ◌++◌, Option, Some, None, IfSome, Ok, nat_lt, refl, sym, subst, arith}
use Rattle.std.proofs.lemmas.List.{append-nil}
use Rattle.std.proofs.lemmas.Bool.Decides.{nat_tests}
use Rattle.nsi_primitive.specs.declared.entry.Entry.{Entry}
use Rattle.nsi_disk.specs.Disk.{History, Meter, Leaves, LeavesOnly}
use Rattle.nsi_disk.proofs.Moments.{started}
use Rattle.journal_entry.specs.Payloads.{batch_of}
use Rattle.journal_entry.specs.Journals.{recovers, ReadAll}
use Rattle.journal_entry.specs.Journal.{Kept}
use Rattle.journal_entry.proofs.Recovered.{recovered, one_more, cons_parts}
use Rattle.journal_entry.proofs.Counted.{batch_few}
use Rattle.disk_journal.specs.Batches.{batches, payloads, waiting, Settled, Grew, Told, Crashes, Means, MeansOneOf}
use Rattle.disk_journal.specs.Keeping.{listed, entries, waiting_entries, kept_of, IsReady, IsCounted}
use Rattle.disk_journal.specs.Fronts.{size}
use Rattle.disk_journal.specs.Files.{begins-means}

lt_or : (a b : ℕ) → a ≤ b → (a < b) ⊎ (b ≡ a)
lt_or a b le = elim (less (nat_lt a b) refl) [ inl lt ↦ inl lt | inr ge ↦ inr (omega (arith, ge, le)) ]
  where
    less : (t : Bool) → nat_lt a b ≡ t → (a < b) ⊎ (b ≤ a)
    less true is = inl (grind (arith, nat_tests))
    less false is = inr (grind (arith, nat_tests))

not_less : (a b : ℕ) → b ≤ a → nat_lt a b ≡ false
not_less a b le = grind (arith, nat_tests)

none_here : (gate next : ℕ) (h : History) → next ≤ gate → waiting_entries gate next h ≡ []
none_here gate next h le = rw (not_less gate next le)

some_is : (xs ys : List Entry) (o : Option (List Entry)) → o ≡ Some xs → o ≡ Some ys → xs ≡ ys
some_is xs ys o p q = cc

-- each entry takes a byte of its batch
few : (ps : List (List ℕ)) (es : List Entry) → ReadAll batch_of ps es → length es ≤ length (batches ps)
few [] es read = omega (arith, ap length (some_is es [] (Some []) read refl))
few (p ∷ ps) es read =
    let c = cons_parts batch_of p ps es read in
    omega (arith, few ps c.1 c.3, batch_few p c.0 c.2, size p ps, ap length c.4, length-append c.0 c.1)

-- what is said of less is said of more
leaves_more : (h k : History) (P Q : List ℕ → Type 0) → ((c : List ℕ) → P c → Q c) → Leaves h k P → Leaves h k Q
leaves_more h k P Q f l = record {
  later = l.later;
  each = λ c s. f c (l.each c s);
  before = λ t c le s. ⊎_elim (λ x. inl x) (λ y. inr (f c y)) (l.before t c le s);
}

-- nothing has happened
pub crash_still : (o : Option History) (meter : Meter) (gate next longest : ℕ) → IsReady o meter gate next longest → Crashes o o (λ h. Means (payloads h))
crash_still None meter gate next longest ready = tt
crash_still (Some h) meter gate next longest ready = (h, refl, started h (Means (payloads h)) (λ c may. begins-means (payloads h) c (omega (arith, ready.settled.place, ready.fits)) (ready.settled.images c may)))

pub crash_held : (o n : Option History) (gate next count more : ℕ) → IsCounted o gate next count more → Crashes o n (λ h. Means (payloads h)) → IfSome (kept_of gate next o) (λ k. LeavesOnly o n (λ c. recovers batch_of c ≡ Ok k.synced))
crash_held None n gate next count more counted crash = tt
crash_held (Some h) n gate next count more counted crash = (
  crash.0,
  crash.1,
  leaves_more h crash.0 (Means (payloads h)) (λ c. recovers batch_of c ≡ Ok (entries h)) (λ c m. recovered batch_of c (payloads h) (entries h) m counted.synced) crash.2,
)

-- the entries with those of the waiting batch
with_waiting : (h : History) (gate next count more : ℕ) → IsCounted (Some h) gate next count more → gate < next → ReadAll batch_of (payloads h ++ waiting gate next h ∷ []) (entries h ++ waiting_entries gate next h)
with_waiting h gate next count more counted lt = one_more batch_of (payloads h) (waiting gate next h) (entries h) (waiting_entries gate next h) counted.synced (counted.held lt)

pub crash_synced : (o n : Option History) (meter : Meter) (gate next longest count more : ℕ) → IsReady o meter gate next longest → IsCounted o gate next count more
    → (gate < next → Crashes o n (λ h. MeansOneOf (payloads h) (waiting gate next h))) → (next ≡ gate → n ≡ o)
    → IfSome (kept_of gate next o) (λ k. LeavesOnly o n (λ c. (recovers batch_of c ≡ Ok k.synced) ⊎ (recovers batch_of c ≡ Ok (k.synced ++ k.waiting))))
crash_synced None n meter gate next longest count more ready counted crash idle = tt
crash_synced (Some h) n meter gate next longest count more ready counted crash idle = elim (lt_or gate next ready.order) [
  | inl lt ↦ ((crash lt).0, (crash lt).1, leaves_more h (crash lt).0 (MeansOneOf (payloads h) (waiting gate next h)) OneOf (λ c m. ⊎_elim (λ x. inl (alone c x)) (λ y. inr (recovered batch_of c (payloads h ++ waiting gate next h ∷ []) (entries h ++ waiting_entries gate next h) y (with_waiting h gate next count more counted lt))) m) (crash lt).2)
  | inr same ↦ (h, idle same, started h OneOf (λ c may. inl (alone c (begins-means (payloads h) c (omega (arith, ready.settled.place, ready.fits)) (ready.settled.images c may)))))
]
  where
    OneOf : List ℕ → Type 0
    OneOf c = (recovers batch_of c ≡ Ok (entries h)) ⊎ (recovers batch_of c ≡ Ok (entries h ++ waiting_entries gate next h))

    alone : (c : List ℕ) → Means (payloads h) c → recovers batch_of c ≡ Ok (entries h)
    alone c m = recovered batch_of c (payloads h) (entries h) m counted.synced

-- the entries behind a sync
grown : (h k : History) (gate next gate' longest' count more : ℕ) → IsCounted (Some h) gate next count more → gate < next → Grew (waiting gate next h) gate' longest' h k → ReadAll batch_of (payloads k) (entries h ++ waiting_entries gate next h)
grown h k gate next gate' longest' count more counted lt grew = subst (λ (ps : List (List ℕ)). ReadAll batch_of ps (entries h ++ waiting_entries gate next h)) (sym grew.more) (with_waiting h gate next count more counted lt)

abbrev keeping : List Entry → List Entry → Option Kept
keeping s w = Some (record { synced = s; waiting = w })

kept_is : (s t w : List Entry) → s ≡ t → w ≡ [] → keeping s w ≡ keeping t []
kept_is s t w is none = ap (λ (x : List Entry). keeping x w) is ∙ ap (λ (x : List Entry). keeping t x) none

pub kept_synced : (o n : Option History) (meter : Meter) (gate next longest count more gate' next' longest' : ℕ) → IsReady o meter gate next longest → IsCounted o gate next count more → gate' ≡ next → next' ≡ next
    → (gate < next → Told o n (λ h. Grew (waiting gate next h) gate' longest' h)) → (next ≡ gate → n ≡ o)
    → IfSome (kept_of gate next o) (λ k. kept_of gate' next' n ≡ Some (record { synced = k.synced ++ k.waiting; waiting = [] }))
kept_synced None n meter gate next longest count more gate' next' longest' ready counted g x grew idle = tt
kept_synced (Some h) n meter gate next longest count more gate' next' longest' ready counted g x grew idle = elim (lt_or gate next ready.order) [
  | inl lt ↦ subst Is (sym (grew lt).1) (kept_is (entries (grew lt).0) all (waiting_entries gate' next' (grew lt).0) (ap listed (grown h (grew lt).0 gate next gate' longest' count more counted lt (grew lt).2)) (none_here gate' next' (grew lt).0 (omega (arith, g, x))))
  | inr same ↦ subst Is (sym (idle same)) (kept_is (entries h) all (waiting_entries gate' next' h) (sym (ap (λ (w : List Entry). entries h ++ w) (none_here gate next h (omega (arith, same))) ∙ append-nil (entries h))) (none_here gate' next' h (omega (arith, g, x))))
]
  where
    all : List Entry
    all = entries h ++ waiting_entries gate next h

    Is : Option History → Type 0
    Is q = kept_of gate' next' q ≡ Some (record { synced = all; waiting = [] })

-- where the one is told, so is the other
told_as : (P : History → History → Type 0) (Q : History → Type 0) (o n : Option History) → (o ≡ None → n ≡ None) → Told o n P → ((h k : History) → P h k → Q k) → IfSome n Q
told_as P Q None n untold t each = subst (λ (q : Option History). IfSome q Q) (sym (untold refl)) tt
told_as P Q (Some h) n untold t each = subst (λ (q : Option History). IfSome q Q) (sym t.1) (each h t.0 t.2)

pub ready_synced : (o n : Option History) (meter meter' : Meter) (gate next longest gate' next' longest' : ℕ) → IsReady o meter gate next longest → meter'.stopped ≡ false → next < 2 ^ 64 → gate' ≡ next → next' ≡ next
    → (o ≡ None → n ≡ None) → (gate < next → Told o n (λ h. Grew (waiting gate next h) gate' longest' h)) → (next ≡ gate → (n ≡ o) × (longest' ≡ longest)) → IsReady n meter' gate' next' longest'
ready_synced o n meter meter' gate next longest gate' next' longest' ready runs fits g x untold grew idle = record {
  runs = runs;
  fits = omega (arith, fits, g);
  order = omega (arith, g, x);
  settled = elim (lt_or gate next ready.order) [
    | inl lt ↦ told_as (λ h. Grew (waiting gate next h) gate' longest' h) (Settled gate' longest') o n untold (grew lt) (λ h k grew. grew.settled)
    | inr same ↦ subst (λ (q : Option History). IfSome q (Settled gate' longest')) (sym (idle same).0)
        (subst (λ (a : ℕ). IfSome o (Settled a longest')) (sym (g ∙ same)) (subst (λ (l : ℕ). IfSome o (Settled gate l)) (sym (idle same).1) ready.settled))
  ];
  waits = λ lt. absurd (omega (arith, lt, g, x));
  room = λ lt. absurd (omega (arith, lt, g, x));
}

-- a settled disk whose batches hold these entries
counted_at : (k : History) (es : List Entry) (gate next longest count : ℕ) → ReadAll batch_of (payloads k) es → count ≡ length es → next ≡ gate → IsCounted (Some k) gate next count 0
counted_at k es gate next longest count read is same =
    let here : entries k ≡ es = ap listed read in
    record {
      synced = read ∙ ap (λ (x : List Entry). Some x) (sym here);
      held = λ lt. absurd (omega (arith, lt, same));
      counted = is ∙ sym (ap length here);
      counts = sym (ap length (none_here gate next k (omega (arith, same))));
    }

counted_none : (gate next count more : ℕ) → IsCounted None gate next count more
counted_none gate next count more = record { synced = tt; held = λ lt. tt; counted = tt; counts = tt }

pub counted_synced : (o n : Option History) (meter : Meter) (gate next longest count more gate' next' longest' count' : ℕ) → IsReady o meter gate next longest → IsCounted o gate next count more → next < 2 ^ 64 → gate' ≡ next → next' ≡ next
    → (o ≡ None → n ≡ None) → (gate < next → Told o n (λ h. Grew (waiting gate next h) gate' longest' h)) → (next ≡ gate → n ≡ o) → (count + more < 2 ^ 64 → count' ≡ count + more) → IsCounted n gate' next' count' 0
counted_synced None n meter gate next longest count more gate' next' longest' count' ready counted fits g x untold grew idle sum = subst (λ (q : Option History). IsCounted q gate' next' count' 0) (sym (untold refl)) (counted_none gate' next' count' 0)
counted_synced (Some h) n meter gate next longest count more gate' next' longest' count' ready counted fits g x untold grew idle sum = elim (lt_or gate next ready.order) [
  | inl lt ↦
      let k = (grew lt).0 in
      let more_is = (grew lt).2 in
      let read = grown h k gate next gate' longest' count more counted lt more_is in
      let size = few (payloads k) all read in
      subst Is (sym (grew lt).1) (counted_at k all gate' next' longest' count' read (is (omega (arith, size, more_is.settled.place, fits, g))) (omega (arith, g, x)))
  | inr same ↦
      let all_is : all ≡ entries h = ap (λ (w : List Entry). entries h ++ w) (none_here gate next h (omega (arith, same))) ∙ append-nil (entries h) in
      subst Is (sym (idle same)) (counted_at h (entries h) gate' next' longest' count' counted.synced (is (omega (arith, ap length all_is, few (payloads h) (entries h) counted.synced, ready.settled.place, ready.fits)) ∙ ap length all_is) (omega (arith, g, x)))
]
  where
    all : List Entry
    all = entries h ++ waiting_entries gate next h

    Is : Option History → Type 0
    Is q = IsCounted q gate' next' count' 0

    is : length all < 2 ^ 64 → count' ≡ length all
    is small =
        let n = length-append (entries h) (waiting_entries gate next h) in
        omega (arith, sum (omega (arith, small, n, counted.counted, counted.counts)), n, counted.counted, counted.counts)
